-- Big-endian numbers read back to what was written, and bytes that are read are written again. Assumes nothing.
use mathlib.Core.Path.{◌≡◌, refl, ap, sym, ◌∙◌}
use mathlib.Core.List.{List, [], ◌∷◌, ◌++◌}
use Prim.Native.Nat.{ℕ, zero, suc, ◌+◌, ◌*◌, ◌/◌, ◌%◌, ◌≤◌, ◌<◌}
use native.Mathlib.Nat.{div-add-mod'}
use native.Mathlib.Numerals.{add-one}
use native.Mathlib.Omega.{arith}
use lib.Arith.{digits_div, digits_mod}
use lib.ListN.{length, get_or, take, drop, get_or-append}
use lib.Seq.{drop-cons, drop-drop, take-add}
use Rattle.std.specs.Int.{w16, w32, w64, from_be_bytes, to_be_bytes}
use Rattle.area.specs.Area.{part, Bytes}
use Rattle.area.specs.Numbers.{be2, be4, be8, bytes2, bytes4, bytes8}

-- ---- lengths and ranges

pub length_bytes2 : (x : ℕ) → length (bytes2 x) ≡ 2
unfolding bytes2
length_bytes2 x = refl

pub length_bytes4 : (x : ℕ) → length (bytes4 x) ≡ 4
unfolding bytes4 bytes2
length_bytes4 x = refl

pub length_bytes8 : (x : ℕ) → length (bytes8 x) ≡ 8
unfolding bytes8 bytes4 bytes2
length_bytes8 x = refl

pub Bytes-append : (a b : List ℕ) → Bytes a → Bytes b → Bytes (a ++ b)
Bytes-append [] b p q = q
Bytes-append (x ∷ a) b p q = (p.0, Bytes-append a b p.1 q)

pub Bytes-take : (n : ℕ) (l : List ℕ) → Bytes l → Bytes (take n l)
Bytes-take zero l h = tt
Bytes-take (suc n) [] h = tt
Bytes-take (suc n) (a ∷ l) h = (h.0, Bytes-take n l h.1)

pub Bytes-drop : (n : ℕ) (l : List ℕ) → Bytes l → Bytes (drop n l)
Bytes-drop zero l h = h
Bytes-drop (suc n) [] h = tt
Bytes-drop (suc n) (a ∷ l) h = Bytes-drop n l h.1

pub Bytes-bytes2 : (x : ℕ) → Bytes (bytes2 x)
unfolding bytes2
Bytes-bytes2 x = (omega arith, (omega arith, tt))

pub Bytes-bytes4 : (x : ℕ) → Bytes (bytes4 x)
unfolding bytes4
Bytes-bytes4 x = Bytes-append (bytes2 (x / 65536)) (bytes2 (x % 65536)) (Bytes-bytes2 (x / 65536)) (Bytes-bytes2 (x % 65536))

pub Bytes-bytes8 : (x : ℕ) → Bytes (bytes8 x)
unfolding bytes8
Bytes-bytes8 x = Bytes-append (bytes4 (x / 4294967296)) (bytes4 (x % 4294967296)) (Bytes-bytes4 (x / 4294967296)) (Bytes-bytes4 (x % 4294967296))

-- ---- what was written is read

pub be2_bytes2 : (x : ℕ) (l : List ℕ) → x < 65536 → be2 (bytes2 x ++ l) 0 ≡ x
unfolding be2 bytes2
be2_bytes2 x l h = omega arith

pub be4_bytes4 : (x : ℕ) (l : List ℕ) → x < 4294967296 → be4 (bytes4 x ++ l) 0 ≡ x
unfolding be4 bytes4 be2 bytes2
be4_bytes4 x l h =
    let a : x / 65536 / 256 % 256 * 256 + x / 65536 % 256 ≡ x / 65536 = omega arith in
    let b : x % 65536 / 256 % 256 * 256 + x % 65536 % 256 ≡ x % 65536 = omega arith in
    rw (a, b) (div-add-mod' x 65536)

pub be8_bytes8 : (x : ℕ) (l : List ℕ) → x < 18446744073709551616 → be8 (bytes8 x ++ l) 0 ≡ x
unfolding be8 bytes8 be4 bytes4 be2 bytes2
be8_bytes8 x l h =
    let a : x / 4294967296 < 4294967296 = omega arith in
    let b : x % 4294967296 < 4294967296 = omega arith in
    rw (be4_bytes4 (x / 4294967296) [] a, be4_bytes4 (x % 4294967296) [] b) (div-add-mod' x 4294967296)

-- what is at the front of a list
pub be2_front : (u w : List ℕ) → 2 ≤ length u → be2 (u ++ w) 0 ≡ be2 u 0
unfolding be2
be2_front u w h = omega (arith, get_or-append u w 0 0 (omega arith), get_or-append u w 0 1 (omega arith))

-- ---- what is read is written again

pub get_d-Bytes : (l : List ℕ) (i : ℕ) → Bytes l → get_or l i 0 < 256
get_d-Bytes [] i p = omega arith
get_d-Bytes (x ∷ l) zero p = p.0
get_d-Bytes (x ∷ l) (suc i) p = get_d-Bytes l i p.1

pub bytes_of : (l : List ℕ) → ((i : ℕ) → get_or l i 0 < 256) → Bytes l
bytes_of [] f = tt
bytes_of (x ∷ l) f = (f 0, bytes_of l (λ i. f (suc i)))

pub be2_range : (l : List ℕ) (i : ℕ) → Bytes l → be2 l i < 65536
unfolding be2
be2_range l i p = omega (arith, get_d-Bytes l i p, get_d-Bytes l (i + 1) p)

pub be4_range : (l : List ℕ) (i : ℕ) → Bytes l → be4 l i < 4294967296
unfolding be4
be4_range l i p = omega (arith, be2_range l i p, be2_range l (i + 2) p)

pub be8_range : (l : List ℕ) (i : ℕ) → Bytes l → be8 l i < 18446744073709551616
unfolding be8
be8_range l i p = omega (arith, be4_range l i p, be4_range l (i + 4) p)

-- two parts, the one after the other
pub part_part : (l : List ℕ) (i w v : ℕ) → part l i w ++ part l (i + w) v ≡ part l i (w + v)
part_part l i w v = sym (take-add w v (drop i l) ∙ rw drop-drop)

pub bytes2_be2 : (l : List ℕ) (i : ℕ) → Bytes l → i + 2 ≤ length l → bytes2 (be2 l i) ≡ part l i 2
unfolding bytes2 be2
bytes2_be2 l i p h =
    let a = get_d-Bytes l i p in
    let b = get_d-Bytes l (i + 1) p in
    let h₁ : i < length l = omega arith in
    let h₂ : suc i < length l = omega arith in
    let u : (get_or l i 0 * 256 + get_or l (i + 1) 0) / 256 % 256 ≡ get_or l i 0 = omega arith in
    let v : (get_or l i 0 * 256 + get_or l (i + 1) 0) % 256 ≡ get_or l (i + 1) 0 = omega arith in
    rw (u, v) (rw (drop-cons l i 0, drop-cons l (suc i) 0, add-one))

pub bytes4_be4 : (l : List ℕ) (i : ℕ) → Bytes l → i + 4 ≤ length l → bytes4 (be4 l i) ≡ part l i 4
unfolding bytes4 be4
bytes4_be4 l i p h =
    let b = be2_range l (i + 2) p in
    let h₁ : i + 2 ≤ length l = omega arith in
    let h₂ : i + 2 + 2 ≤ length l = omega arith in
    rw (digits_div (be2 l i) b, digits_mod (be2 l i) b, bytes2_be2 l i p h₁, bytes2_be2 l (i + 2) p h₂) (part_part l i 2 2)

pub bytes8_be8 : (l : List ℕ) (i : ℕ) → Bytes l → i + 8 ≤ length l → bytes8 (be8 l i) ≡ part l i 8
unfolding bytes8 be8
bytes8_be8 l i p h =
    let b = be4_range l (i + 4) p in
    let h₁ : i + 4 ≤ length l = omega arith in
    let h₂ : i + 4 + 4 ≤ length l = omega arith in
    rw (digits_div (be4 l i) b, digits_mod (be4 l i) b, bytes4_be4 l i p h₁, bytes4_be4 l (i + 4) p h₂) (part_part l i 4 4)

-- eight bytes side by side
pub be8_bytes : (l : List ℕ) (i : ℕ) → be8 l i
    ≡ get_or l i 0 * 72057594037927936 + get_or l (i + 1) 0 * 281474976710656 + (get_or l (i + 2) 0 * 1099511627776 + get_or l (i + 3) 0 * 4294967296)
    + (get_or l (i + 4) 0 * 16777216 + get_or l (i + 5) 0 * 65536) + (get_or l (i + 6) 0 * 256 + get_or l (i + 7) 0)
unfolding be8 be4 be2
be8_bytes l i =
    let d : get_or l (i + 2 + 1) 0 ≡ get_or l (i + 3) 0 = ap (λ (k : ℕ). get_or l k 0) (omega arith) in
    let f : get_or l (i + 4 + 1) 0 ≡ get_or l (i + 5) 0 = ap (λ (k : ℕ). get_or l k 0) (omega arith) in
    let g : get_or l (i + 4 + 2) 0 ≡ get_or l (i + 6) 0 = ap (λ (k : ℕ). get_or l k 0) (omega arith) in
    let h : get_or l (i + 4 + 2 + 1) 0 ≡ get_or l (i + 7) 0 = ap (λ (k : ℕ). get_or l k 0) (omega arith) in
    omega (arith, d, f, g, h)

-- ---- the numbers of std

pub be2_is : (l : List ℕ) (i : ℕ) → from_be_bytes w16 (get_or l i 0 ∷ get_or l (i + 1) 0 ∷ []) ≡ be2 l i
unfolding be2
be2_is l i = refl

pub be4_is : (l : List ℕ) (i : ℕ) → from_be_bytes w32 (get_or l i 0 ∷ get_or l (i + 1) 0 ∷ get_or l (i + 2) 0 ∷ get_or l (i + 3) 0 ∷ []) ≡ be4 l i
unfolding be4 be2
be4_is l i =
    let d : get_or l (i + 2 + 1) 0 ≡ get_or l (i + 3) 0 = ap (λ (k : ℕ). get_or l k 0) (omega arith) in
    omega (arith, d)

pub bytes2_is : (x : ℕ) → to_be_bytes w16 x ≡ bytes2 x
unfolding bytes2
bytes2_is x = refl

pub bytes4_is : (x : ℕ) → to_be_bytes w32 x ≡ bytes4 x
unfolding bytes4 bytes2
bytes4_is x =
    let a : x / 16777216 % 256 ≡ x / 65536 / 256 % 256 = omega arith in
    let c : x / 256 % 256 ≡ x % 65536 / 256 % 256 = omega arith in
    let d : x % 256 ≡ x % 65536 % 256 = omega arith in
    rw (a, c, d) refl

pub be8_is : (l : List ℕ) (i : ℕ)
    → from_be_bytes w64
    (get_or l i 0 ∷ get_or l (i + 1) 0 ∷ get_or l (i + 2) 0 ∷ get_or l (i + 3) 0
    ∷ get_or l (i + 4) 0 ∷ get_or l (i + 5) 0 ∷ get_or l (i + 6) 0 ∷ get_or l (i + 7) 0 ∷ [])
    ≡ be8 l i
be8_is l i = omega (arith, be8_bytes l i)

pub bytes8_is : (x : ℕ) → to_be_bytes w64 x ≡ bytes8 x
unfolding bytes8
bytes8_is x =
    let a : x / 72057594037927936 % 256 ≡ x / 4294967296 / 16777216 % 256 = omega arith in
    let b : x / 281474976710656 % 256 ≡ x / 4294967296 / 65536 % 256 = omega arith in
    let c : x / 1099511627776 % 256 ≡ x / 4294967296 / 256 % 256 = omega arith in
    let d : x / 16777216 % 256 ≡ x % 4294967296 / 16777216 % 256 = omega arith in
    let e : x / 65536 % 256 ≡ x % 4294967296 / 65536 % 256 = omega arith in
    let f : x / 256 % 256 ≡ x % 4294967296 / 256 % 256 = omega arith in
    let g : x % 256 ≡ x % 4294967296 % 256 = omega arith in
    rw (← bytes4_is (x / 4294967296), ← bytes4_is (x % 4294967296), a, b, c, d, e, f, g) refl
