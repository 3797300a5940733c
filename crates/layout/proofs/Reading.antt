-- What is read from an index at which given bytes begin: a flag, a number, a stamp, and an array of anything with a fixed number of bytes. Assumes nothing.
use Prim.Native.Nat.{ℕ, zero, suc, ◌+◌, ◌*◌, ◌<◌, ◌≤◌}
use native.Mathlib.Nat.{not-suc-le-zero, add-zero, zero-add, add-suc, suc-add, suc-mul, add_assoc}
use native.Mathlib.Omega.{arith}
use mathlib.Core.Path.{◌≡◌, refl, sym, ap, ◌∙◌}
use mathlib.Core.Bool.{Bool, true, false}
use mathlib.Core.List.{List, [], ◌∷◌, ◌++◌, append_assoc, append-nil}
use lib.ListN.{length, get_or, take, drop}
use lib.Seq.{sets, sets-eq, get_or-drop, drop-drop, drop_at, ext_get_or, length-take-le}
use Rattle.area.specs.Area.{pick, table, joined}
use Rattle.area.specs.Numbers.{be2, be4, be8, bytes4, bytes8}
use Rattle.area.proofs.Numbers.{be4_bytes4, be8_bytes8, length_bytes8}
use Rattle.area.proofs.Fills.{length_table, get_d_table, table_agree}
use Rattle.frame.specs.declared.Stamp.{Stamp}
use Rattle.frame.specs.Frames.{stamp_bytes}
use Rattle.layout.specs.Fields.{flag_byte, flag_in, flag_at, stamp_at, row_bytes, row_at, flags_bytes, flags_at, numbers_bytes, numbers_at}
use Rattle.layout.specs.Typed.{Word, Long, TypedStamp}
use Rattle.server_rules.proofs.Within.{get_d_every}
use Rattle.server_rules.specs.WellFormed.{Every, Array}

-- ---- bytes at an index of a list

-- l has the bytes a from index i on
pub record Stands (l : List ℕ) (i : ℕ) (a : List ℕ) : Type 0 where
  pub rest : List ℕ
  pub is : drop i l ≡ a ++ rest

pub front : {l : List ℕ} {i : ℕ} (a b : List ℕ) → Stands l i (a ++ b) → Stands l i a
front a b s = record { rest = b ++ s.rest; is = s.is ∙ append_assoc a b s.rest }

pub back : {l : List ℕ} {i : ℕ} (a b : List ℕ) (w p : ℕ) → length a ≡ w → p ≡ i + w → Stands l i (a ++ b) → Stands l p b
back {l} {i} a b w p e h s = record {
  rest = s.rest;
  is =
      ap (λ k. drop k l) h
      ∙ sym (drop-drop w i l)
      ∙ ap (drop w) (s.is ∙ append_assoc a b s.rest)
      ∙ drop_at a (b ++ s.rest) w e;
}

-- by themselves, and after a store
pub alone : (a : List ℕ) → Stands a 0 a
alone a = record { rest = []; is = sym (append-nil a) }

pub stored : (l : List ℕ) (i : ℕ) (a : List ℕ) → i + length a ≤ length l → Stands (sets l i a) i a
stored l i a h =
    let k : i ≤ length l = omega arith in
    record {
      rest = drop (i + length a) l;
      is = ap (drop i) (sets-eq a l i h ∙ append_assoc (take i l) a (drop (i + length a) l))
          ∙ drop_at (take i l) (a ++ drop (i + length a) l) i (length-take-le i l k);
    }

-- ---- flags and numbers

pub byte_at : (l : List ℕ) (i x : ℕ) → Stands l i (x ∷ []) → get_or l i 0 ≡ x
byte_at l i x s =
    let e : get_or (drop i l) 0 0 ≡ get_or l i 0 = rw add-zero at (get_or-drop i l 0 0) in
    sym e ∙ ap (λ m. get_or m 0 0) s.is

flag_back : (b : Bool) → flag_in (flag_byte b) ≡ b
unfolding flag_in flag_byte pick
flag_back true = refl
flag_back false = refl

pub flag_at_lem : (l : List ℕ) (i : ℕ) (b : Bool) → Stands l i (flag_byte b ∷ []) → flag_at l i ≡ b
unfolding flag_at
flag_at_lem l i b s = ap flag_in (byte_at l i (flag_byte b) s) ∙ flag_back b

be2_drop : (l : List ℕ) (i k : ℕ) → be2 (drop i l) k ≡ be2 l (i + k)
unfolding be2
be2_drop l i k = rw (get_or-drop, get_or-drop, add_assoc)

be4_drop : (l : List ℕ) (i k : ℕ) → be4 (drop i l) k ≡ be4 l (i + k)
unfolding be4
be4_drop l i k = rw (be2_drop, be2_drop, add_assoc)

be8_drop : (l : List ℕ) (i k : ℕ) → be8 (drop i l) k ≡ be8 l (i + k)
unfolding be8
be8_drop l i k = rw (be4_drop, be4_drop, add_assoc)

pub word_at : (l : List ℕ) (i x : ℕ) → Word x → Stands l i (bytes4 x) → be4 l i ≡ x
word_at l i x h s =
    let e : be4 (drop i l) 0 ≡ be4 l i = rw add-zero at (be4_drop l i 0) in
    sym e ∙ ap (λ m. be4 m 0) s.is ∙ be4_bytes4 x s.rest h

pub long_at : (l : List ℕ) (i x : ℕ) → Long x → Stands l i (bytes8 x) → be8 l i ≡ x
long_at l i x h s =
    let e : be8 (drop i l) 0 ≡ be8 l i = rw add-zero at (be8_drop l i 0) in
    sym e ∙ ap (λ m. be8 m 0) s.is ∙ be8_bytes8 x s.rest h

-- ---- stamps

pub stamp_at_lem : (l : List ℕ) (i : ℕ) (s : Stamp) → TypedStamp s → Stands l i (stamp_bytes s) → stamp_at l i ≡ s
unfolding stamp_at stamp_bytes
stamp_at_lem l i s t p =
    let q = back (bytes8 s.time) (s.writer ∷ bytes4 s.sequence) 8 (i + 8) (length_bytes8 s.time) refl p in
    let a = long_at l i s.time t.time (front (bytes8 s.time) (s.writer ∷ bytes4 s.sequence) p) in
    let b = byte_at l (i + 8) s.writer (front (s.writer ∷ []) (bytes4 s.sequence) q) in
    let c = word_at l (i + 9) s.sequence t.sequence (back (s.writer ∷ []) (bytes4 s.sequence) 1 (i + 9) refl (omega arith) q) in
    λ k. record { time = a k; writer = b k; sequence = c k }

-- ---- arrays

-- list k of lists that lie end to end
entry_at : (F : ℕ → List ℕ) (w : ℕ) → ((k : ℕ) → length (F k) ≡ w) → (l : List ℕ) (m k s i : ℕ) → k < m → Stands l i (joined F s m)
    → Stands l (i + k * w) (F (s + k))
unfolding joined
entry_at F w e l zero k s i h p = absurd (not-suc-le-zero h)
entry_at F w e l (suc m) zero s i h p =
    let u : i + 0 * w ≡ i = omega arith in
    rw (u, add-zero) (front (F s) (joined F (suc s) m) p)
entry_at F w e l (suc m) (suc k) s i h p =
    let q = back (F s) (joined F (suc s) m) w (i + w) (e s) refl p in
    let u : i + suc k * w ≡ i + w + k * w = rw suc-mul (omega arith) in
    rw (u, add-suc s k, ← suc-add s k) (entry_at F w e l m k (suc s) (i + w) (omega arith) q)

-- element k of an array that is read
pub row_entry : {A : Type 0} (g : List ℕ → ℕ → A) (m w : ℕ) (l : List ℕ) (i k : ℕ) (d : A) → k < m → get_or (row_at g m w l i) k d ≡ g l (i + k * w)
unfolding row_at
row_entry g m w l i k d h = get_d_table m (λ j. g l (i + j * w)) k d h

-- an array reads back if each element does
module _ {A : Type 0} (f : A → List ℕ) (g : List ℕ → ℕ → A) (m w : ℕ) (d : A) (P : A → Type 0) (e : (x : A) → length (f x) ≡ w)
    (b : (l : List ℕ) (i : ℕ) (x : A) → P x → Stands l i (f x) → g l i ≡ x) where
  pub row_at_lem : (l : List ℕ) (i : ℕ) (xs : List A) → Array m P xs → Stands l i (row_bytes f m d xs) → row_at g m w l i ≡ xs
  unfolding row_bytes row_at
  row_at_lem l i xs t p =
      let F : ℕ → List ℕ = λ k. f (get_or xs k d) in
      let each : (k : ℕ) → k < m → g l (i + k * w) ≡ get_or xs k d =
      λ k h. b l (i + k * w) (get_or xs k d) (get_d_every P xs k d t.1 (omega arith))
      (rw zero-add at (entry_at F w (λ j. e (get_or xs j d)) l m k 0 i h p)) in
      table_agree m (λ k. g l (i + k * w)) (λ k. get_or xs k d) each ∙ whole xs m d t.0
    where
      whole : (xs : List A) (m : ℕ) (d : A) → length xs ≡ m → table m (λ k. get_or xs k d) ≡ xs
      whole xs m d h =
          ext_get_or d (table m (λ k. get_or xs k d)) xs (length_table m (λ k. get_or xs k d) ∙ sym h)
          (λ k u. get_d_table m (λ j. get_or xs j d) k d (rw length_table at u))

every_any : {A : Type 0} (xs : List A) → Every (λ x. Unit {0}) xs
every_any [] = tt
every_any (x ∷ xs) = (tt, every_any xs)

pub flags_at_lem : (l : List ℕ) (i : ℕ) (xs : List Bool) → length xs ≡ 11 → Stands l i (flags_bytes xs) → flags_at l i ≡ xs
unfolding flags_bytes flags_at
flags_at_lem l i xs e p = row_at_lem (λ b. flag_byte b ∷ []) flag_at 11 1 false (λ b. Unit {0}) (λ b. refl) (λ l j b u. flag_at_lem l j b) l i xs (e, every_any xs) p

pub numbers_at_lem : (l : List ℕ) (i : ℕ) (xs : List ℕ) → Array 11 Long xs → Stands l i (numbers_bytes xs) → numbers_at l i ≡ xs
unfolding numbers_bytes numbers_at
numbers_at_lem l i xs t p = row_at_lem bytes8 be8 11 8 0 Long length_bytes8 long_at l i xs t p
