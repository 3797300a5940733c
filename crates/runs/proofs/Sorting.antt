-- Any list of operations, each with the place where it ended, can be put in order. Assumes nothing.
use Prim.Native.Nat.{ℕ, ◌<◌}
use native.Mathlib.Omega.{arith}
use mathlib.Core.Bool.{Bool, true, false}
use mathlib.Core.Path.{◌≡◌, refl, ap, sym, ◌∙◌}
use mathlib.Core.Logic.{◌⊎◌, inl, inr, ⊎_elim}
use mathlib.Core.List.Memᴰ
use mathlib.Core.List.{List, [], ◌∷◌, Memᴰ}
use Rattle.quorum.proofs.Logic.{impossible}
use Rattle.frame.proofs.StampOrder.{Less, total, less_trans, three}
use Rattle.runs.specs.Demand.{Operation, Stands}

-- an operation, with the place where it ended if it is a read
pub record Item : Type 0 where
  pub op : Operation
  pub end : ℕ

abbrev pub Mem : Item → List Item → Type 0
Mem o l = Memᴰ o l

-- of equal stamps: a write before a read, reads as they ended
abbrev pub Second : Item → Item → Type 0
Second a b = ((a.op.reading ≡ false) × (b.op.reading ≡ true)) ⊎ ((a.op.reading ≡ true) × (b.op.reading ≡ true) × (a.end < b.end))

abbrev pub Before : Item → Item → Type 0
Before a b = Less a.op.stamp b.op.stamp ⊎ ((a.op.stamp ≡ b.op.stamp) × Second a b)

abbrev pub Alike : Item → Item → Type 0
Alike a b = (a.op.stamp ≡ b.op.stamp)
    × (((a.op.reading ≡ false) × (b.op.reading ≡ false)) ⊎ ((a.op.reading ≡ true) × (b.op.reading ≡ true) × (a.end ≡ b.end)))

compare : (a b : Item) → Before a b ⊎ (Alike a b ⊎ Before b a)
compare a b = go (total a.op.stamp b.op.stamp) a.op.reading refl b.op.reading refl (three a.end b.end)
  where
    go : Less a.op.stamp b.op.stamp ⊎ ((a.op.stamp ≡ b.op.stamp) ⊎ Less b.op.stamp a.op.stamp)
        → (x : Bool) → a.op.reading ≡ x → (y : Bool) → b.op.reading ≡ y → (a.end < b.end) ⊎ ((a.end ≡ b.end) ⊎ (b.end < a.end))
        → Before a b ⊎ (Alike a b ⊎ Before b a)
    go (inl h) x ex y ey z = inl (inl h)
    go (inr (inr h)) x ex y ey z = inr (inr (inl h))
    go (inr (inl e)) false ex true ey z = inl (inr (e, inl (ex, ey)))
    go (inr (inl e)) true ex false ey z = inr (inr (inr (sym e, inl (ey, ex))))
    go (inr (inl e)) false ex false ey z = inr (inl (e, inl (ex, ey)))
    go (inr (inl e)) true ex true ey (inl h) = inl (inr (e, inr (ex, ey, h)))
    go (inr (inl e)) true ex true ey (inr (inl h)) = inr (inl (e, inr (ex, ey, h)))
    go (inr (inl e)) true ex true ey (inr (inr h)) = inr (inr (inr (sym e, inr (ey, ex, h))))

pub alike_refl : (a : Item) → Alike a a
alike_refl a = go a.op.reading refl
  where
    go : (x : Bool) → a.op.reading ≡ x → Alike a a
    go true e = (refl, inr (e, e, refl))
    go false e = (refl, inl (e, e))

pub before_trans : (a b c : Item) → Before a b → Before b c → Before a c
before_trans a b c (inl h) (inl k) = inl (less_trans _ _ _ h k)
before_trans a b c (inl h) (inr (e, k)) = inl (rw (sym e) h)
before_trans a b c (inr (e, h)) (inl k) = inl (rw e k)
before_trans a b c (inr (e, inl (p, q))) (inr (f, inl (r, s))) = impossible (cc (q, r))
before_trans a b c (inr (e, inl (p, q))) (inr (f, inr (r, s, l))) = inr (e ∙ f, inl (p, s))
before_trans a b c (inr (e, inr (p, q, h))) (inr (f, inl (r, s))) = impossible (cc (q, r))
before_trans a b c (inr (e, inr (p, q, h))) (inr (f, inr (r, s, k))) = inr (e ∙ f, inr (p, s, omega arith))

abbrev pub Sorted : List Item → Type 0
Sorted [] = Unit {0}
Sorted (o ∷ l) = ((x : Item) → Mem x l → Before o x) × Sorted l

-- a list in order, with one of each kind of alike items
pub record Put (from : List Item) : Type 0 where
  pub row : List Item
  pub sorted : Sorted row
  pub sound : (y : Item) → Mem y row → Mem y from
  pub whole : (y : Item) → Mem y from → (z : Item) × Mem z row × Alike y z

insert : (o : Item) (l : List Item) → Sorted l → Put (o ∷ l)
insert o [] s = record {
  row = o ∷ [];
  sorted = (λ x m. absurd (Memᴰ.not-nil m), tt);
  sound = λ y m. m;
  whole = λ y m. (y, m, alike_refl y);
}
insert o (x ∷ l) s = go (compare o x) (insert o l s.1)
  where
    go : Before o x ⊎ (Alike o x ⊎ Before x o) → Put (o ∷ l) → Put (o ∷ (x ∷ l))
    go (inl h) r = record {
      row = o ∷ (x ∷ l);
      sorted = (λ y m. ⊎_elim (λ e. rw e h) (λ u. before_trans o x y h (s.0 y u)) (Memᴰ.cases_cons m), s);
      sound = λ y m. m;
      whole = λ y m. (y, m, alike_refl y);
    }
    go (inr (inl h)) r = record {
      row = x ∷ l;
      sorted = s;
      sound = λ y m. Memᴰ.tail m;
      whole = λ y m. ⊎_elim (λ e. (x, Memᴰ.head refl, rw e h)) (λ u. (y, u, alike_refl y)) (Memᴰ.cases_cons m);
    }
    go (inr (inr h)) r = record {
      row = x ∷ r.row;
      sorted = (λ y m. ⊎_elim (λ e. rw e h) (λ u. s.0 y u) (Memᴰ.cases_cons (r.sound y m)), r.sorted);
      sound = λ y m. ⊎_elim
          (λ e. Memᴰ.tail (Memᴰ.head e))
          (λ u. ⊎_elim (λ e. Memᴰ.head e) (λ v. Memᴰ.tail (Memᴰ.tail v)) (Memᴰ.cases_cons (r.sound y u)))
          (Memᴰ.cases_cons m);
      whole = λ y m. ⊎_elim
          (λ e. let w = r.whole y (Memᴰ.head e) in (w.0, Memᴰ.tail w.1, w.2))
          (λ u. ⊎_elim
          (λ e. (y, Memᴰ.head e, alike_refl y))
          (λ v. let w = r.whole y (Memᴰ.tail v) in (w.0, Memᴰ.tail w.1, w.2))
          (Memᴰ.cases_cons u))
          (Memᴰ.cases_cons m);
    }

alike_trans : (a b c : Item) → Alike a b → Alike b c → Alike a c
alike_trans a b c (e, inl (p, q)) (f, inl (r, s)) = (e ∙ f, inl (p, s))
alike_trans a b c (e, inl (p, q)) (f, inr (r, s, k)) = impossible (cc (q, r))
alike_trans a b c (e, inr (p, q, h)) (f, inl (r, s)) = impossible (cc (q, r))
alike_trans a b c (e, inr (p, q, h)) (f, inr (r, s, k)) = (e ∙ f, inr (p, s, h ∙ k))

pub sort : (l : List Item) → Put l
sort [] = record { row = []; sorted = tt; sound = λ y m. m; whole = λ y m. (y, m, alike_refl y) }
sort (o ∷ l) = go (sort l)
  where
    go : Put l → Put (o ∷ l)
    go r =
        let u = insert o r.row r.sorted in
        record {
          row = u.row;
          sorted = u.sorted;
          sound = λ y m. ⊎_elim (λ e. Memᴰ.head e) (λ v. Memᴰ.tail (r.sound y v)) (Memᴰ.cases_cons (u.sound y m));
          whole = λ y m. ⊎_elim
              (λ e. u.whole y (Memᴰ.head e))
              (λ v.
              let w = r.whole y v in
              let z = u.whole w.0 (Memᴰ.tail w.1) in
              (z.0, z.1, alike_trans y w.0 z.0 w.2 z.2))
              (Memᴰ.cases_cons m);
        }

-- ---- the operations of a list of items

abbrev pub ops : List Item → List Operation
ops [] = []
ops (x ∷ l) = x.op ∷ ops l

pub in_ops : (l : List Item) (x : Item) → Mem x l → Memᴰ x.op (ops l)
in_ops [] x m = absurd (Memᴰ.not-nil m)
in_ops (y ∷ l) x m = ⊎_elim (λ e. Memᴰ.head (ap (λ z. z.op) e)) (λ u. Memᴰ.tail (in_ops l x u)) (Memᴰ.cases_cons m)

pub of_ops : (l : List Item) (o : Operation) → Memᴰ o (ops l) → (x : Item) × Mem x l × (x.op ≡ o)
of_ops [] o m = absurd (Memᴰ.not-nil m)
of_ops (y ∷ l) o m = ⊎_elim
    (λ e. (y, Memᴰ.head refl, sym e))
    (λ u. let w = of_ops l o u in (w.0, Memᴰ.tail w.1, w.2))
    (Memᴰ.cases_cons m)

-- of two operations in the row, the items of which the one comes before the other
pub stands_of : (l : List Item) → Sorted l → (a b : Operation) → Stands (ops l) a b
    → (x y : Item) × Mem x l × Mem y l × (x.op ≡ a) × (y.op ≡ b) × Before x y
stands_of [] s a b h = absurd h
stands_of (z ∷ l) s a b (inl h) =
    let w = of_ops l b h.1 in
    (z, w.0, Memᴰ.head refl, Memᴰ.tail w.1, h.0, w.2, s.0 w.0 w.1)
stands_of (z ∷ l) s a b (inr h) =
    let (x, y, mx, my, ex, ey, k) = stands_of l s.1 a b h in
    (x, y, Memᴰ.tail mx, Memᴰ.tail my, ex, ey, k)

-- two items of the row are the same, or one of them comes first
pub orders : (l : List Item) → Sorted l → (x y : Item) → Mem x l → Mem y l
    → (x ≡ y) ⊎ (Stands (ops l) x.op y.op ⊎ Before y x)
orders [] s x y mx my = absurd (Memᴰ.not-nil mx)
orders (z ∷ l) s x y mx my = ⊎_elim
    (λ ex. ⊎_elim
    (λ ey. inl (ex ∙ sym ey))
    (λ uy. inr (inl (inl (ap (λ w. w.op) (sym ex), in_ops l y uy))))
    (Memᴰ.cases_cons my))
    (λ ux. ⊎_elim
    (λ ey. inr (inr (rw ey (s.0 x ux))))
    (λ uy. ⊎_elim (λ e. inl e) (⊎_elim (λ h. inr (inl (inr h))) (λ h. inr (inr h))) (orders l s.1 x y ux uy))
    (Memᴰ.cases_cons my))
    (Memᴰ.cases_cons mx)
