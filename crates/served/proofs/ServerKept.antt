-- What a server keeps of a client's open write after any calls: each echo and ready fits at its sender's place and was in a frame, and what is complete, or was
-- accepted, is the server's own entry of a value. Assumes nothing.
use Prim.Native.Nat.{ℕ}
use mathlib.Core.Bool.{true}
use mathlib.Core.Path.{◌≡◌, refl, ap, sym, ◌∙◌, subst}
use mathlib.Core.Logic.{inl, inr, ⊎_elim}
use mathlib.Core.Option.{some}
use mathlib.Core.List.{List, [], ◌∷◌, Memᴰ}
use lib.ListN.{length}
use Rattle.quorum.specs.Quorum.{Among}
use Rattle.quorum.proofs.Logic.{impossible}
use Rattle.group_rules.specs.Coded.{fits}
use Rattle.frame.specs.Messages.{Offer, Stage, echo, ready, Carries, number_in}
use Rattle.frame.proofs.Sizes.{Small}
use Rattle.server_rules.specs.Steps as S
use Rattle.server_rules.specs.Tests as ST
use Rattle.steps.proofs.CastFacts.{part_at, BroadcastFacts, New, cast_facts}
use Rattle.runs.specs.Blocks.{InFrame}
use Rattle.runs.specs.Events.{At}
use Rattle.runs.specs.World.{Setup, Call, ServerSide, initial_of, server_left}
use Rattle.runs.proofs.Agreement.{small, start_part}
use Rattle.runs.proofs.Assumed.{Assumed}
use Rattle.runs.proofs.Broadcasts.{server_at, Takes, effect_of, server_next, shape}
use Rattle.runs.proofs.Formation.{formed}
use Rattle.taking.proofs.Does as D
use Rattle.taking.proofs.Holding.{taken_fits}
use Rattle.taking.proofs.Words.{Encodes}
use Rattle.served.proofs.ServerState.{seq, acceptance, server_stands}

module _ (Z : Setup) (G : Assumed Z) where
  open Z use {H, g}

  abbrev M : Small g
  M = small Z G

  -- o fits at place i, and its block was in a frame
  abbrev pub Fits : List Call → ℕ → Offer → Type 0
  Fits ks i o = (fits H o.entry i ≡ true) × (p : ℕ) × At (InFrame Z o.entry.block) ks p

  pub record Keeps (ks : List Call) (j c : ℕ) (h : ServerSide) : Type 0 where
    pub complete : (o : Offer) → (part_at g h.server h.area c).done ≡ some o → Encodes H g j o.entry
    pub echo_fits : (i : ℕ) (o : Offer) → (part_at g h.server h.area c).echoes i ≡ some o → Fits ks i o
    pub ready_fits : (i : ℕ) (o : Offer) → (part_at g h.server h.area c).readies i ≡ some o → Fits ks i o

  -- ---- one call more

  later : (ks : List Call) (k : Call) (j c : ℕ) (h : ServerSide) → Keeps ks j c h → Keeps (k ∷ ks) j c h
  later ks k j c h T = record {
    complete = T.complete;
    echo_fits = λ i o e. let (f, p, u) = T.echo_fits i o e in (f, p, inr u);
    ready_fits = λ i o e. let (f, p, u) = T.ready_fits i o e in (f, p, inr u);
  }

  module _ (ks : List Call) (k : Call) (j : ℕ) (C : Takes Z G M ks k j) where
    abbrev h : ServerSide
    h = server_at Z G M ks j

    pub facts : BroadcastFacts H g h.server h.area C.from C.m (effect_of Z G M C)
    facts = cast_facts H g G.bounded j h.server h.area (initial_of Z j) (shape Z G M ks j) C.from C.m
        C.took.client C.took.sized C.took.passes

    -- a frame of client c's write that is counted now
    new_fits : (c i : ℕ) (z : Stage) (o : Offer) → ST.place_in j z (number_in C.from) ≡ number_in C.from → New h.server C.from C.m c z i o
        → Fits (k ∷ ks) i o
    new_fits c i z o p (e, n) = (
      subst (λ i. fits H o.entry i ≡ true) (p ∙ ap number_in e) (taken_fits H g j h.server C.from C.m C.took.passes c (seq Z G ks j c) z o n),
      length ks,
      inl (
        refl,
        subst (λ k. InFrame Z o.entry.block ks k) (sym C.is) (
          C.took.header,
          C.took.opens,
          subst (λ m. Carries m.body o.entry.block) (sym (C.took.says ∙ n)) refl,
        ),
      ),
    )

    taken : (c : ℕ) → Among 8 c → Keeps ks j c h → Keeps (k ∷ ks) j c (server_left Z (effect_of Z G M C))
    taken c is T = record {
      complete = λ o e. ⊎_elim (λ w. T.complete o w.1) (λ w. w)
          (D.done_why H g G.bounded j h.server h.area (initial_of Z j) (shape Z G M ks j) C.from C.m
          C.took.client C.took.sized C.took.passes c is o e);
      echo_fits = λ i o e. ⊎_elim
          (λ b. let (f, p, u) = T.echo_fits i o b in (f, p, inr u))
          (λ w. new_fits c i echo o refl w)
          (facts.echo_kept c is i o e).1;
      ready_fits = λ i o e. ⊎_elim
          (λ b. let (f, p, u) = T.ready_fits i o b in (f, p, inr u))
          (λ w. new_fits c i ready o refl w)
          (facts.ready_kept c is i o e).1;
    }

  -- ---- in every run

  fresh : (j c : ℕ) → Among 8 c → Keeps [] j c (server_at Z G M [] j)
  fresh j c is =
      let e = start_part Z G (formed Z G M) j c is in record {
        complete = λ o u. impossible (cc (ap (λ w. w.done) e, u));
        echo_fits = λ i o u. impossible (cc (ap (λ w. w.echoes i) e, u));
        ready_fits = λ i o u. impossible (cc (ap (λ w. w.readies i) e, u));
      }

  pub server_keeps : (ks : List Call) (j c : ℕ) → Among 8 c → Keeps ks j c (server_at Z G M ks j)
  server_keeps [] j c is = fresh j c is
  server_keeps (k ∷ ks) j c is = ⊎_elim
      (λ e. subst (Keeps (k ∷ ks) j c) (sym e) (later ks k j c (server_at Z G M ks j) (server_keeps ks j c is)))
      (λ (C, e). subst (Keeps (k ∷ ks) j c) (sym e) (taken ks k j C c is (server_keeps ks j c is)))
      (server_next Z G M ks k j)

  -- what it accepts is its own entry of a value
  pub accepts_coded : (ks : List Call) (k : Call) (j : ℕ) (C : Takes Z G M ks k j) (x : S.Write) → Memᴰ x (effect_of Z G M C).accepted
      → Encodes H g j x.entry
  accepts_coded ks k j C x u =
      let is : Among 8 x.client = ((facts ks k j C).took_why x u).0 in
      ⊎_elim
      (λ b. (server_keeps ks j x.client is).complete _ b)
      (λ w. w)
      (acceptance Z G ks k j C x u (server_stands Z G ks j x.client is).still).entry
