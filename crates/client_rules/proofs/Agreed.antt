-- What a search of a client's rows finds is in n - t of them. Assumes nothing.
use Prim.Native.Nat.{ℕ, ◌-◌}
use native.Mathlib.Omega.{arith}
use mathlib.Core.Bool.{Bool, true, false}
use mathlib.Core.Path.{◌≡◌, refl, subst}
use mathlib.Core.Option.{Option, none, some}
use mathlib.Core.List.{List, [], ◌∷◌, Memᴰ}
use borrow.Author.Tests.{leb-true}
use Rattle.quorum.proofs.Logic.{impossible}
use Rattle.quorum.proofs.Quorums.{AtLeast}
use Rattle.area.specs.Area.{pick}
use Rattle.area.proofs.Same.{same_true}
use Rattle.blocks.specs.declared.Params.{Params}
use Rattle.frame.specs.declared.Stamp.{Stamp}
use Rattle.group_rules.specs.Coded.{has_list}
use Rattle.frame.specs.Stamps.{same_stamp}
use Rattle.frame.proofs.StampOrder.{stamp_of_lem}
use Rattle.client_rules.specs.Rows.{Kept, at_stamp, rows_from, Found, agreed, found_of, first_by, first_agreed, found_by, search}

pub record Has (l : List Kept) (x : Stamp) (d : List ℕ) : Type 0 where
  pub it : Kept
  pub stamp : it.stamp ≡ x
  pub digests : it.entry.digests ≡ d
  pub in_row : Memᴰ it l

row_has : (l : List Kept) (x : Stamp) (d : List ℕ) → has_list (at_stamp l x) d ≡ true → Has l x d
unfolding at_stamp pick
row_has [] x d e = impossible (cc)
row_has (k ∷ l) x d e = go (row_has l x d) (same_stamp k.stamp x) refl e
  where
    go : (has_list (at_stamp l x) d ≡ true → Has l x d) → (b : Bool) → same_stamp k.stamp x ≡ b → has_list (pick b (some k.entry) (at_stamp l x)) d ≡ true
        → Has (k ∷ l) x d
    go f true z u = record { it = k; stamp = stamp_of_lem k.stamp x z; digests = same_true k.entry.digests d u; in_row = Memᴰ.head refl }
    go f false z u = let w = f u in record { it = w.it; stamp = w.stamp; digests = w.digests; in_row = Memᴰ.tail w.in_row }

module _ (H : List ℕ → List ℕ) (g : Params) where
  pub first_agreed_lem : (f : ℕ → List Kept) (l : List Kept) (k : Kept) → first_agreed g f l ≡ some k → agreed g f k ≡ true
  unfolding first_agreed first_by
  first_agreed_lem f [] k e = impossible (cc)
  first_agreed_lem f (y ∷ l) k e = go (first_agreed_lem f l k) (agreed g f y) refl e
    where
      go : (first_agreed g f l ≡ some k → agreed g f k ≡ true) → (b : Bool) → agreed g f y ≡ b → first_by g f b y (first_agreed g f l) ≡ some k
          → agreed g f k ≡ true
      go r true z u = let w : y ≡ k = cc in subst (λ v. agreed g f v ≡ true) w z
      go r false z u = r u

  agreed_rows : (f : ℕ → List Kept) (k : Kept) → agreed g f k ≡ true → AtLeast g.n (g.n - g.t) (λ j. Has (f j) k.stamp k.entry.digests)
  unfolding agreed
  agreed_rows f k e = record {
    member = λ j. has_list (at_stamp (f j) k.stamp) k.entry.digests;
    many = let h = leb-true g.n _ e in omega (arith, h);
    each = λ j i b. row_has (f j) k.stamp k.entry.digests b;
  }

  -- the search finds what n - t rows have
  pub finds : (f : ℕ → List Kept) (v : Found) → search g f ≡ some v → AtLeast g.n (g.n - g.t) (λ j. Has (f j) v.stamp v.digests)
  unfolding search found_of found_by
  finds f v e = go (first_agreed g f (rows_from f 1 g.n)) refl e
    where
      go : (o : Option Kept) → first_agreed g f (rows_from f 1 g.n) ≡ o → found_by g f o ≡ some v
          → AtLeast g.n (g.n - g.t) (λ j. Has (f j) v.stamp v.digests)
      go none z u = impossible (cc)
      go (some k) z u =
          let w : found_of g f k ≡ v = cc in
          subst (λ y. AtLeast g.n (g.n - g.t) (λ j. Has (f j) y.stamp y.digests)) w (agreed_rows f k (first_agreed_lem f (rows_from f 1 g.n) k z))
