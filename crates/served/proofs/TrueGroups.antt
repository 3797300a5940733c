-- A true group is seen as such: where an honest server keeps enough echoes or readies of an offer whose digest list is that of a value of the run, they support
-- it, or two different blocks with one digest are shown. Assumes nothing.
use Prim.Native.Nat.{ℕ, ◌+◌, ◌≤◌}
use native.Mathlib.Omega.{arith}
use mathlib.Core.Bool.{Bool, true, false}
use mathlib.Core.Path.{◌≡◌, refl, ap, ◌∙◌, subst}
use mathlib.Core.Logic.{◌⊎◌, inl, inr, ⊎_elim}
use mathlib.Core.Option.{Option, none, some}
use mathlib.Core.List.{List}
use lib.Dec.{leb, eqb}
use borrow.Author.Tests.{leb-true}
use Rattle.quorum.specs.Quorum.{Among}
use Rattle.quorum.proofs.Logic.{impossible, and_true, or_split}
use Rattle.area.specs.Area.{pick, same}
use Rattle.area.proofs.Tests.{pick_some}
use Rattle.area.proofs.Same.{same_refl}
use Rattle.blocks.specs.Code.{decoded_all}
use Rattle.group_rules.specs.Coded.{lowest_value, agreeing, decoded, digests_of, fits}
use Rattle.frame.specs.Messages.{Entry, Offer}
use Rattle.frame.specs.Params.{quota}
use Rattle.frame.proofs.Sizes.{Small}
use Rattle.server_rules.specs.Broadcast.{Rules, Part, kept, votes, enough}
use Rattle.server_rules.specs.Rules.{entry_by, at_time, regained_of, unanimous_of, block_rules}
use Rattle.server_rules.proofs.AtTime.{votes_are}
use Rattle.server_rules.proofs.Thresholds.{agreed, quota_blocks}
use Rattle.runs.specs.Blocks.{InFrame, Collision}
use Rattle.runs.specs.Events.{At}
use Rattle.runs.specs.World.{Setup, Call}
use Rattle.runs.proofs.Agreement.{small}
use Rattle.runs.proofs.Assumed.{Assumed}
use Rattle.runs.proofs.Broadcasts.{Agreed}
use Rattle.runs.proofs.OneValue.{Source, one_value}
use Rattle.taking.proofs.Local.{regained_cases, unanimous_cases}
use Rattle.served.proofs.ServerState.{part}
use Rattle.served.proofs.ServerKept.{Fits, server_keeps}

-- an entry by its time is of an offer
by_time : (p : Option Offer) (T : ℕ) (e : Entry) → entry_by p T ≡ some e → (o : Offer) × (p ≡ some o) × (o.entry ≡ e)
by_time none T e q = impossible (cc q)
by_time (some o) T e q = go (eqb o.time T) q
  where
    go : (b : Bool) → kept b o.entry ≡ some e → (y : Offer) × (some o ≡ some y) × (y.entry ≡ e)
    go true q = (o, refl, cc q)
    go false q = impossible (cc q)

module _ (Z : Setup) (G : Assumed Z) (ks : List Call) where
  open Z use {H, g}

  abbrev M : Small g
  M = small Z G

  abbrev R : Rules Offer
  R = block_rules H g

  -- its digest list is that of a value of the run
  abbrev pub Backed : Agreed → Type 0
  Backed d = (v : List ℕ) × Source Z G ks v × (digests_of H g v ≡ d.1)

  -- frames that agree, on a value with the digests d
  abbrev Good : List ℕ → Bool → List ℕ → Type 0
  Good d b v = (b ≡ true) × (digests_of H g v ≡ d)

  abbrev FrameGood : (ℕ → Option Offer) → Offer → Type 0
  FrameGood f o = Good o.entry.digests (agreeing g (at_time f o.time) o.entry.digests) (lowest_value g (at_time f o.time) o.entry.digests)

  -- k frames of an offer, each fitting and from a frame, agree on the value
  group : (f : ℕ → Option Offer) → ((i : ℕ) (o : Offer) → f i ≡ some o → Fits Z G ks i o) → (o : Offer) → g.k ≤ votes R g.n g.t f o → Backed (agreed o)
      → FrameGood f o ⊎ Collision Z ks
  unfolding at_time decoded decoded_all lowest_value agreeing
  group f fit o l (v, S, e) = ⊎_elim
      (λ q. let (b, x) = pick_some _ _ v q in inl (b, ap (digests_of H g) x ∙ e))
      (λ c. inr c)
      (one_value Z G ks (at_time f o.time) o.entry.digests (omega (arith, l, votes_are H g f o))
      (λ j y is q. let (p, u, z) = by_time (f j) o.time y q in subst (λ y. fits H y j ≡ true) z (fit j p u).0)
      (λ j y is q. let (p, u, z) = by_time (f j) o.time y q in subst (λ y. (n : ℕ) × At (InFrame Z y.block) ks n) z ((fit j p u).1, (fit j p u).2))
      v S e)

  supported : (es rs : ℕ → Option Offer) (o : Offer) → Good o.entry.digests (unanimous_of g es rs o) (regained_of g es rs o) → R.supports es rs o ≡ true
  supported es rs o (b, e) = and_true _ _ b (ap (λ d. same d o.entry.digests) e ∙ same_refl o.entry.digests)

  pub true_group : (j c : ℕ) → Among 8 c → (o : Offer) → Backed (agreed o) → enough R g.n g.t (part Z G ks j c) o ≡ true
      → (R.supports (part Z G ks j c).echoes (part Z G ks j c).readies o ≡ true) ⊎ Collision Z ks
  unfolding enough pick
  true_group j c is o b e = ⊎_elim
      (λ q. inl (supported w.echoes w.readies o
      (unanimous_cases H g w.echoes w.readies o ∙ q.0, ap (digests_of H g) (regained_cases H g w.echoes w.readies o) ∙ q.1)))
      (λ z. inr z)
      (go (leb (quota g) (votes R g.n g.t w.readies o)) refl)
    where
      w : Part Offer
      w = part Z G ks j c

      agrees : (f : ℕ → Option Offer) → Bool
      agrees f = agreeing g (at_time f o.time) o.entry.digests

      by : (f : ℕ → Option Offer) → List ℕ
      by f = lowest_value g (at_time f o.time) o.entry.digests

      echoes : g.n ≤ votes R g.n g.t w.echoes o + g.t → FrameGood w.echoes o ⊎ Collision Z ks
      echoes l = group w.echoes (server_keeps Z G ks j c is).echo_fits o (omega (arith, l, G.bounded.blocks_high)) b

      go : (t : Bool) → leb (quota g) (votes R g.n g.t w.readies o) ≡ t
          → Good o.entry.digests (pick t (agrees w.readies) (agrees w.echoes)) (pick t (by w.readies) (by w.echoes)) ⊎ Collision Z ks
      go true q = group w.readies (server_keeps Z G ks j c is).ready_fits o
          (omega (arith, leb-true (quota g) (votes R g.n g.t w.readies o) q, quota_blocks g)) b
      go false q = ⊎_elim
          (λ l. echoes (leb-true g.n _ l))
          (λ l. impossible (cc (l, q)))
          (or_split (leb g.n (votes R g.n g.t w.echoes o + g.t)) _ e)
