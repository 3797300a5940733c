-- What the search of the rows finds is decoded from rows of n - t servers. Assumes nothing.
use Prim.Native.Nat.{ℕ}
use mathlib.Core.Bool.{Bool, true, false}
use mathlib.Core.Path.{◌≡◌, refl, subst}
use mathlib.Core.Option.{Option, none, some}
use mathlib.Core.List.{List, [], ◌∷◌, Memᴰ}
use borrow.Author.Tests.{leb-true}
use Rattle.quorum.specs.Quorum.{Among}
use Rattle.quorum.proofs.Logic.{impossible}
use Rattle.area.specs.Area.{pick}
use Rattle.blocks.specs.declared.Params.{Params}
use Rattle.frame.specs.declared.Stamp.{Stamp}
use Rattle.group_rules.specs.Coded.{fits}
use Rattle.frame.specs.Messages.{Entry}
use Rattle.frame.specs.Stamps.{same_stamp}
use Rattle.client_rules.specs.Rows.{Kept, Found, at_stamp, rows_from, agreed, found_of, first_agreed, found_by, search}
use Rattle.client_rules.proofs.Agreed.{first_agreed_lem}
use Rattle.runs.specs.Blocks.{InFrame}
use Rattle.runs.specs.Events.{At}
use Rattle.runs.specs.World.{Setup, Call}
use Rattle.runs.proofs.Known.{Rows}

at_in : (l : List Kept) (x : Stamp) (e : Entry) → at_stamp l x ≡ some e → (k : Kept) × Memᴰ k l × (k.entry ≡ e)
unfolding at_stamp pick
at_in [] x e h = impossible (cc h)
at_in (k ∷ l) x e h = go (same_stamp k.stamp x) (λ z. at_in l x e z) h
  where
    go : (b : Bool) → (at_stamp l x ≡ some e → (k : Kept) × Memᴰ k l × (k.entry ≡ e)) → pick b (some k.entry) (at_stamp l x) ≡ some e
        → (y : Kept) × Memᴰ y (k ∷ l) × (y.entry ≡ e)
    go true f h = (k, Memᴰ.head refl, cc h)
    go false f h = let w = f h in (w.0, Memᴰ.tail w.1, w.2)

module _ (H : List ℕ → List ℕ) (g : Params) (f : ℕ → List Kept) where
  found_of_lem : (x : Found) → search g f ≡ some x → (k : Kept) × (agreed g f k ≡ true) × (found_of g f k ≡ x)
  unfolding search found_by
  found_of_lem x h = go (first_agreed g f (rows_from f 1 g.n)) refl h
    where
      go : (o : Option Kept) → first_agreed g f (rows_from f 1 g.n) ≡ o → found_by g f o ≡ some x → (k : Kept) × (agreed g f k ≡ true) × (found_of g f k ≡ x)
      go none e h = impossible (cc h)
      go (some k) e h = (k, first_agreed_lem H g f (rows_from f 1 g.n) k e, cc h)

module _ (Z : Setup) (ks : List Call) (f : ℕ → List Kept)
    (fit : (j : ℕ) → Among Z.g.n j → (k : Kept) → Memᴰ k (f j) → fits Z.H k.entry j ≡ true)
    (carried : (j : ℕ) → Among Z.g.n j → (k : Kept) → Memᴰ k (f j) → (p : ℕ) × At (InFrame Z k.entry.block) ks p) where
  rows_by : (k : Kept) → agreed Z.g f k ≡ true → Rows Z ks (found_of Z.g f k)
  unfolding agreed found_of
  rows_by k a = record {
    at = λ j. at_stamp (f j) k.stamp;
    bytes = refl;
    many = leb-true _ _ a;
    fit = λ j e i h. let w = at_in (f j) k.stamp e h in subst (λ z. fits Z.H z j ≡ true) w.2 (fit j i w.0 w.1);
    carried = λ j e i h. let w = at_in (f j) k.stamp e h in subst (λ z. (p : ℕ) × At (InFrame Z z.block) ks p) w.2 (carried j i w.0 w.1);
  }

  -- What a read found, where all that is kept fits and came in frames.
  pub rows_of : (x : Found) → search Z.g f ≡ some x → Rows Z ks x
  rows_of x h = let w = found_of_lem Z.H Z.g f x h in subst (Rows Z ks) w.2 (rows_by w.0 w.1)
