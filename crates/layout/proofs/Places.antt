-- Stores one after the other, and loops over arrays whose elements have a fixed number of bytes. Assumes nothing.
use Prim.Native.Nat.{ℕ, ◌+◌, ◌*◌}
use native.Mathlib.Nat.{zero-add}
use native.Mathlib.Omega.{arith}
use mathlib.Core.Path.{◌≡◌, sym, ap, ap₂, ◌∙◌}
use mathlib.Core.List.{List, ◌++◌}
use lib.ListN.{length, length-append}
use lib.Seq.{sets}
use Rattle.area.specs.Area.{table, joined}
use Rattle.area.proofs.Sets.{sets_next}
use Rattle.area.proofs.Fills.{joined_snoc, length_joined}
use Rattle.group.proofs.Lists.{table_end}
pub use Rattle.group.proofs.Lists.{table_turn}

-- ---- parts, one after the other

pub both : (a b : List ℕ) (v w : ℕ) → length a ≡ v → length b ≡ w → length (a ++ b) ≡ v + w
both a b v w e f = length-append a b ∙ ap₂ (λ x y. x + y) e f

-- ---- stores, one after the other

-- b from index p on, after the w bytes of a
pub onto : (d l m : List ℕ) (i w p : ℕ) (a b : List ℕ) → length a ≡ w → p ≡ i + w → l ≡ sets d i a → m ≡ sets l p b → m ≡ sets d i (a ++ b)
onto d l m i w p a b e h q r = r ∙ ap (λ z. sets l z b) h ∙ ap (λ z. sets z (i + w) b) q ∙ sets_next d i a b w e

-- ---- a loop that stores an array

-- turn j, which stores x from index p on
pub put_turn : (f : ℕ → List ℕ) (w : ℕ) (d l m : List ℕ) (i j p : ℕ) (x : List ℕ) → x ≡ f j → p ≡ i + j * w → length x ≡ w
    → l ≡ sets d i (joined f 0 j) → length (joined f 0 j) ≡ j * w → m ≡ sets l p x
    → (m ≡ sets d i (joined f 0 (j + 1))) × (length (joined f 0 (j + 1)) ≡ (j + 1) * w)
put_turn f w d l m i j p x e h n a k b =
    let s : joined f 0 (j + 1) ≡ joined f 0 j ++ f j = rw zero-add at (joined_snoc f 0 j) in
    let y : length (joined f 0 j ++ f j) ≡ j * w + w = both (joined f 0 j) (f j) (j * w) w k (ap length (sym e) ∙ n) in
    let z : j * w + w ≡ (j + 1) * w = omega arith in
    (rw s (onto d l m i (j * w) p (joined f 0 j) (f j) k h a (b ∙ ap (λ z. sets l p z) e)), ap length s ∙ y ∙ z)

-- ---- a loop that reads an array: its turn is `table_turn`

-- all of it
pub get_end : {A : Type 0} (f : ℕ → A) (d l : List A) (j m : ℕ) → j ≡ m → length d ≡ m → l ≡ sets d 0 (table j f) → l ≡ table m f
get_end f d l j m q e p = table_end f d l j m e (omega arith) (omega arith) p
