-- In a finished run all honest servers hold one present stamp with one digest list, or two different blocks with one digest are shown. Assumes nothing.
use Prim.Native.Nat.{ℕ, ◌≤◌, ◌<◌}
use native.Mathlib.Omega.{arith}
use mathlib.Core.Path.{◌≡◌, sym, ◌∙◌, subst}
use mathlib.Core.Logic.{◌⊎◌, inl, inr, ⊎_elim}
use mathlib.Core.List.{List}
use Rattle.precedence.specs.Laws as PL
use Rattle.precedence.proofs.Precedence as PP
use Rattle.service.proofs.Presents as SP
use Rattle.service.proofs.Total as ST
use Rattle.frame.specs.declared.Party.TheVariants as A
use Rattle.frame.proofs.Sizes.{Small}
use Rattle.runs.specs.Admissible.{Honest, Admissible}
use Rattle.runs.specs.Blocks.{Collision}
use Rattle.runs.specs.World.{Setup, Call}
use Rattle.runs.proofs.Agreement.{small}
use Rattle.runs.proofs.Assumed.{Assumed}
use Rattle.runs.proofs.Broadcasts as Br
use Rattle.runs.proofs.Broadcasts.{Agreed}
use Rattle.runs.proofs.Formation.{formed, accepted_in_bounds}
use Rattle.runs.proofs.OrderLaws.{fresh, lawful_run}
use Rattle.runs.proofs.ServerLaws.{stamp_at_lem}
use Rattle.runs.proofs.StampViews.{views, Stamped, stamps, shown}
use Rattle.served.specs.Finished.{Finished}
use Rattle.served.proofs.Totality.{protocol, ended, its_passed}

module _ (Z : Setup) (G : Assumed Z) (ks : List Call) (adm : Admissible Z ks) where
  open Z use {H, g, faulty_server, faulty_client}

  abbrev M : Small g
  M = small Z G

  abbrev Ks : PL.Stamps Agreed (Stamped Z G M)
  Ks = stamps Z G M

  abbrev W : PL.Views Call Agreed (Stamped Z G M)
  W = views Z G M

  -- the acceptances of the broadcast, and of precedence
  abbrev Acc : ℕ → ℕ → ℕ → Agreed → Type 0
  Acc = (Br.views Z G M (formed Z G M)).Accepted ks

  same_accepted : (j c q : ℕ) (T : Agreed) → W.Accepted ks j c q T → Acc j c q T
  same_accepted j c q T (x, p, u, ec, eq, et, ed) = (x, p, u, ec, eq, λ i. (et i, ed i))

  bounds : (j c q : ℕ) (T : Agreed) → Acc j c q T → (c ≤ 8) × (q < 4294967296)
  bounds j c q T (x, p, u, ec, eq, e) =
      let b = accepted_in_bounds Z G M ks adm j p x u in
      (omega (arith, ec, b.client.1), omega (arith, eq, b.high))

  -- ---- what W3 asks

  holds : (j : ℕ) → (W.present ks j ≡ Ks.initial) ⊎ ((c s : ℕ) × (x : Agreed) × Acc j c s x × (W.present ks j ≡ Ks.stamped x c s))
  holds j = ⊎_elim
      (λ e. inl e)
      (λ (c, q, T, u, e). inr (c, q, T, same_accepted j c q T u, e))
      (PP.present_of_lem Ks W g.n g.t faulty_server faulty_client (fresh Z G M) ks (lawful_run Z G M ks adm) j)

  apart : (i j c s d p : ℕ) (x y : Agreed) → Acc i c s x → Acc j d p y → Ks.key (Ks.stamped x c s) ≡ Ks.key (Ks.stamped y d p) → (c ≡ d) × (s ≡ p)
  apart i j c s d p x y u v e =
      let (c8, s32) = bounds i c s x u in
      let (d8, p32) = bounds j d p y v in
      (omega (arith, e, c8, s32, d8, p32), omega (arith, e, c8, s32, d8, p32))

  least : (c s : ℕ) (x : Agreed) → Ks.key Ks.initial < Ks.key (Ks.stamped x c s)
  least c s x = omega arith

  module _ (fin : Finished Z ks) where
    above : (j c s : ℕ) (x : Agreed) → Acc j c s x → Ks.key (Ks.stamped x c s) ≤ Ks.key (W.present ks j)
    above j c s x u =
        let (T, a, l) = PP.ack_accepted Ks W g.n g.t faulty_server faulty_client (fresh Z G M) ks (lawful_run Z G M ks adm) j c s
        (its_passed Z G ks adm j c s x u).acked in
        let e : x ≡ T = ST.one_accepted (protocol Z G) (ended Z G ks adm fin) j j c s x T u (same_accepted j c s T a) in
        subst (λ x. Ks.key (Ks.stamped x c s) ≤ Ks.key (W.present ks j)) (sym e) l

    pub one_present : (i j : ℕ) → Honest Z (A.Server i) → Honest Z (A.Server j) → (shown Z G M ks i ≡ shown Z G M ks j) ⊎ Collision Z ks
    one_present i j hi hj = ⊎_elim
        (λ e. inl (sym (stamp_at_lem Z G M ks i hi.0) ∙ e ∙ stamp_at_lem Z G M ks j hj.0))
        (λ z. inr z)
        (SP.one_present (protocol Z G) (ended Z G ks adm fin) Ks.key Ks.initial Ks.stamped (W.present ks)
        (λ j h. holds j) (λ j c s x h u. above j c s x u) (λ i j c s d p x y hi hj u v e. apart i j c s d p x y u v e) (λ j c s x h u. least c s x) i j hi hj)
