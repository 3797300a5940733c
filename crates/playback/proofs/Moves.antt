-- Frames that lie end to end in an area move up, each after its receiver. Assumes nothing.
use Prim.Native.Nat.{ℕ, zero, suc, ◌+◌, ◌*◌, ◌-◌, ◌≤◌, ◌<◌}
use native.Mathlib.Omega.{arith}
use native.Mathlib.Nat.{add-zero, zero-add}
use native.Mathlib.Numerals.{add-one}
use mathlib.Core.Path.{◌≡◌, refl, sym, ap, ap₂, subst, ◌∙◌}
use mathlib.Core.List.{List, [], ◌∷◌, ◌++◌, append_assoc, append-nil}
use lib.ListN.{length, get_or, set, take, drop, length-append, length-drop}
use lib.Seq.{sets, sets-eq, drop-drop, drop-cons, drop-length, drop_at, length-take-le, get_or-drop, get_or-set_other}
use borrow.Rule.Slice.PartMut.{put_mid}
use Rattle.area.specs.Responses.{Response}
use Rattle.area.specs.Area.{part}
use Rattle.area.specs.Numbers.{be2, bytes2}
use Rattle.area.proofs.Numbers.{length_bytes2}
use Rattle.area.proofs.Sets.{sets_next, length_part, part_sets_before}
use Rattle.server_rules.specs.Delivery.{reply_number, reply_count}
use Rattle.layout.proofs.Stores.{set_sets, sets_swap}
use Rattle.playback.specs.Stages.{sent_in, Lie, report_in}

-- a number at index i of a list
pub be2_drop : (l : List ℕ) (i : ℕ) → be2 (drop i l) 0 ≡ be2 l i
unfolding be2
be2_drop l i = ap₂ (λ x y. x * 256 + y) (get_or-drop i l 0 0 ∙ ap (λ k. get_or l k 0) (add-zero i)) (get_or-drop i l 1 0)

-- a part of a list, as the code lends it
pub lent_part : (l : List ℕ) (i w : ℕ) → take (i + w - i) (drop i l) ≡ part l i w
lent_part l i w = let e : i + w - i ≡ w = omega arith in ap (λ k. take k (drop i l)) e

-- ---- the part from index i to the area's end is lent, and comes back

module _ (l : List ℕ) (i : ℕ) (h : i ≤ length l) where
  none_after : drop (length l - i) (drop i l) ≡ []
  none_after =
      let e : i + (length l - i) ≡ length l = omega (arith, h) in
      drop-drop (length l - i) i l ∙ ap (λ k. drop k l) e ∙ drop-length l

  back_is : (m : List ℕ) → put_mid i (length l - i) l m ≡ take i l ++ m
  back_is m = ap (λ z. take i l ++ (m ++ z)) none_after ∙ ap (λ z. take i l ++ z) (append-nil m)

  -- what came back is there
  pub back_there : (m : List ℕ) → drop i (put_mid i (length l - i) l m) ≡ m
  back_there m = ap (drop i) (back_is m) ∙ drop_at (take i l) m i (length-take-le i l h)

  -- what was stored at the front of the part is stored in the area at index i
  pub back_stored : (u : List ℕ) → i + length u ≤ length l → put_mid i (length l - i) l (sets (drop i l) 0 u) ≡ sets l i u
  back_stored u k =
      let fit : 0 + length u ≤ length (drop i l) = omega (arith, k, length-drop i l) in
      let front : sets (drop i l) 0 u ≡ u ++ drop (i + length u) l =
      sets-eq u (drop i l) 0 fit ∙ ap (λ z. u ++ z) (ap (λ n. drop n (drop i l)) (zero-add (length u)) ∙ drop-drop (length u) i l) in
      back_is (sets (drop i l) 0 u)
      ∙ ap (λ z. take i l ++ z) front
      ∙ sym (append_assoc (take i l) u (drop (i + length u) l))
      ∙ sym (sets-eq u l i k)

-- ---- the frames

module _ (out to : List ℕ) (from i : ℕ) where
  abbrev pub size : ℕ
  size = 2 + be2 out from

  -- the frames after the first
  abbrev pub behind : ℕ → List ℕ
  behind m = sent_in m (drop (from + size) out) (drop (2 * (i + 1)) to)

  pub first_sent : (m : ℕ) → sent_in (suc m) (drop from out) (drop (2 * i) to) ≡ part to (2 * i) 2 ++ (part out from size ++ behind m)
  unfolding sent_in
  first_sent m =
      let w : 2 + be2 (drop from out) 0 ≡ size = ap (λ k. 2 + k) (be2_drop out from) in
      let d : drop (2 + be2 (drop from out) 0) (drop from out) ≡ drop (from + size) out =
      ap (λ k. drop k (drop from out)) w ∙ drop-drop size from out in
      let t : drop 2 (drop (2 * i) to) ≡ drop (2 * (i + 1)) to =
      drop-drop 2 (2 * i) to ∙ ap (λ (k : ℕ). drop k to) (let z : 2 * i + 2 ≡ 2 * (i + 1) = omega arith in z) in
      ap (λ (k : ℕ). part to (2 * i) 2 ++ (take k (drop from out)
      ++ sent_in m (drop (2 + be2 (drop from out) 0) (drop from out)) (drop 2 (drop (2 * i) to)))) w
      ∙ ap₂ (λ x y. part to (2 * i) 2 ++ (part out from size ++ sent_in m x y)) d t

  pub record First (m : ℕ) : Type 0 where
    pub starts : from + 2 ≤ length out
    pub whole : from + size ≤ length out
    pub lie : Lie m (drop (from + size) out)

  pub first_lies : (m : ℕ) → from ≤ length out → Lie (suc m) (drop from out) → First m
  first_lies m h l =
      let w : 2 + be2 (drop from out) 0 ≡ size = ap (λ k. 2 + k) (be2_drop out from) in
      let d : drop (2 + be2 (drop from out) 0) (drop from out) ≡ drop (from + size) out =
      ap (λ k. drop k (drop from out)) w ∙ drop-drop size from out in
      let n = length-drop from out in
      record { starts = omega (arith, l.0, h, n); whole = omega (arith, l.1, w, h, n); lie = subst (Lie m) d l.2 }

-- the same in terms of the numbers that the code read
pub moved_lie : (out to : List ℕ) (from i x k m : ℕ) → x ≡ be2 out from → k ≡ m → Lie m (drop (from + size out to from i) out)
    → Lie k (drop (from + (2 + x)) out)
moved_lie out to from i x k m e f l =
    subst (λ (y : ℕ). Lie k (drop (from + (2 + y)) out)) (sym e) (subst (λ (w : ℕ). Lie w (drop (from + size out to from i) out)) (sym f) l)

-- what the first of the frames that are left needs to be moved, and what those after it need
pub record Asks (out to : List ℕ) (from at i left : ℕ) : Type 0 where
  pub rest : ℕ
  pub rest_is : left ≡ suc rest
  pub first : First out to from i rest
  pub receiver : 2 * i + 2 ≤ length to
  pub receivers : 2 * (i + 1 + rest) ≤ length to
  pub room : at + 2 + size out to from i + length (behind out to from i rest) ≤ length out

module _ (out to : List ℕ) (from at i left : ℕ) where
  pub spread_asks : from ≤ at → from ≤ length out → Lie left (drop from out) → 2 * (i + left) ≤ length to
      → at + length (sent_in left (drop from out) (drop (2 * i) to)) ≤ length out → (left ≡ 0 → ⊥) → Asks out to from at i left
  spread_asks f h l t r n = go left refl
    where
      go : (m : ℕ) → left ≡ m → Asks out to from at i left
      go zero e = absurd (n e)
      go (suc m) e =
          let L = first_lies out to from i m h (subst (λ (k : ℕ). Lie k (drop from out)) e l) in
          let s = ap (λ (k : ℕ). length (sent_in k (drop from out) (drop (2 * i) to))) e ∙ ap length (first_sent out to from i m) in
          let a = length-append (part to (2 * i) 2) (part out from (size out to from i) ++ behind out to from i m) in
          let b = length-append (part out from (size out to from i)) (behind out to from i m) in
          let p = length_part to (2 * i) 2 (omega (arith, t, e)) in
          let q = length_part out from (size out to from i) L.whole in
          record {
            rest = m;
            rest_is = e;
            first = L;
            receiver = omega (arith, t, e);
            receivers = omega (arith, t, e);
            room = omega (arith, r, s, a, b, p, q);
          }

  pub spread_end : left ≡ 0 → (out ≡ sets out at (sent_in left (drop from out) (drop (2 * i) to)))
      × (at ≡ at + length (sent_in left (drop from out) (drop (2 * i) to)))
  unfolding sent_in
  spread_end e =
      let s : sent_in left (drop from out) (drop (2 * i) to) ≡ [] = ap (λ (k : ℕ). sent_in k (drop from out) (drop (2 * i) to)) e in
      (sym (ap (sets out at) s), omega (arith, ap length s))

  module _ (A : Asks out to from at i left) (f : from ≤ at) where
    abbrev z : ℕ
    z = size out to from i

    -- the frames after the first have moved, then the first, and then its receiver is stored
    pub spread_next : (x m : ℕ) (out₁ out₂ out₃ : List ℕ) (end : ℕ) → x ≡ be2 out from → m ≡ left - 1
        → out₁ ≡ sets out (at + 2 + (2 + x)) (sent_in m (drop (from + (2 + x)) out) (drop (2 * (i + 1)) to))
        → end ≡ at + 2 + (2 + x) + length (sent_in m (drop (from + (2 + x)) out) (drop (2 * (i + 1)) to))
        → out₂ ≡ sets out₁ (at + 2) (part out₁ from (2 + x)) → out₃ ≡ sets out₂ at (take (2 * i + 2 - 2 * i) (drop (2 * i) to))
        → (out₃ ≡ sets out at (sent_in left (drop from out) (drop (2 * i) to))) × (end ≡ at + length (sent_in left (drop from out) (drop (2 * i) to)))
    spread_next x m out₁ out₂ out₃ end e n p u q r =
        let k : m ≡ A.rest = omega (arith, n, A.rest_is) in
        let B = behind out to from i A.rest in
        let F = part out from z in
        let P = part to (2 * i) 2 in
        let lp = length_part to (2 * i) 2 A.receiver in
        let lf = length_part out from z A.first.whole in
        let s : sent_in left (drop from out) (drop (2 * i) to) ≡ P ++ (F ++ B) =
        ap (λ (y : ℕ). sent_in y (drop from out) (drop (2 * i) to)) A.rest_is ∙ first_sent out to from i A.rest in
        let p' : out₁ ≡ sets out (at + 2 + z) B =
        p ∙ ap₂ (λ y w. sets out (at + 2 + (2 + y)) (sent_in w (drop (from + (2 + y)) out) (drop (2 * (i + 1)) to))) e k in
        let g : part out₁ from (2 + x) ≡ F =
        ap₂ (λ y w. part y from (2 + w)) p' e ∙ part_sets_before out (at + 2 + z) B from z (omega (arith, f)) in
        let o₂ : out₂ ≡ sets (sets out (at + 2) F) (at + 2 + z) B =
        q ∙ ap₂ (λ y w. sets y (at + 2) w) p' g ∙ sets_swap out (at + 2) F (at + 2 + z) B (omega (arith, lf)) in
        let o₃ : out₃ ≡ sets (sets (sets out at P) (at + 2) F) (at + 2 + z) B =
        r
        ∙ ap₂ (λ y w. sets y at w) o₂ (lent_part to (2 * i) 2)
        ∙ sets_swap (sets out (at + 2) F) at P (at + 2 + z) B (omega (arith, lp))
        ∙ ap (λ y. sets y (at + 2 + z) B) (sets_swap out at P (at + 2) F (omega (arith, lp))) in
        let u' : end ≡ at + 2 + z + length B =
        u ∙ ap₂ (λ y w. at + 2 + (2 + y) + length (sent_in w (drop (from + (2 + y)) out) (drop (2 * (i + 1)) to))) e k in (
          o₃
              ∙ sets_next (sets out at P) (at + 2) F B z lf
              ∙ sets_next out at P (F ++ B) 2 lp
              ∙ ap (sets out at) (sym s),
          omega (arith, u', ap length s, length-append P (F ++ B), length-append F B, lp, lf),
        )

-- ---- a report

pub report_room : (a : Response ℕ) (frames to out : List ℕ) (at : ℕ) → at + length (report_in a frames to) ≤ length out
    → at + 3 + length (sent_in (reply_count a) frames to) ≤ length out
unfolding report_in
report_room a frames to out at h =
    omega (arith, length-append (bytes2 (reply_count a)) (sent_in (reply_count a) frames to), length_bytes2 (reply_count a))

-- what is needed to move the frames of a report
pub sent_asks : (a : Response ℕ) (out to : List ℕ) (at m : ℕ) → m ≡ reply_count a → at + 3 ≤ length out → Lie (reply_count a) (drop (at + 3) out)
    → 2 * reply_count a ≤ length to → at + length (report_in a (drop (at + 3) out) to) ≤ length out
    → (at + 3 ≤ at + 3) × (at + 3 ≤ length out) × Lie m (drop (at + 3) out) × (2 * (0 + m) ≤ length to)
    × (at + 3 + length (sent_in m (drop (at + 3) out) (drop (2 * 0) to)) ≤ length out)
sent_asks a out to at m e h l t r =
    let w = report_room a (drop (at + 3) out) to out at r in (
      omega arith,
      h,
      subst (λ (k : ℕ). Lie k (drop (at + 3) out)) (sym e) l,
      omega (arith, t, e),
      subst (λ (k : ℕ). at + 3 + length (sent_in k (drop (at + 3) out) to) ≤ length out) (sym e) w,
    )

-- the frames are moved, and then the answer's number and their count are stored before them
pub report_put : (a : Response ℕ) (frames to out : List ℕ) (at n m : ℕ) (out₁ out₂ : List ℕ) (r : ℕ) → n ≡ reply_number a → m ≡ reply_count a
    → out₁ ≡ sets out (at + 3) (sent_in m frames to) → r ≡ at + 3 + length (sent_in m frames to) → out₂ ≡ sets (set out₁ at n) (at + 1) (bytes2 m)
    → (out₂ ≡ sets out at (report_in a frames to)) × (r ≡ at + length (report_in a frames to))
unfolding report_in
report_put a frames to out at n m out₁ out₂ r e f p k q =
    let c = reply_count a in
    let l = sent_in c frames to in
    let N = reply_number a in
    let d : at + 3 ≡ at + 1 + 2 = omega arith in
    let w : sent_in m frames to ≡ l = ap (λ (y : ℕ). sent_in y frames to) f in
    let one : set out₁ at n ≡ sets (set out at N) (at + 3) l =
    ap₂ (λ o y. set o at y) (p ∙ ap (sets out (at + 3)) w) e ∙ set_sets out (at + 3) l at N (omega arith) in (
      q
          ∙ ap₂ (λ o y. sets o (at + 1) (bytes2 y)) one f
          ∙ sets_swap (set out at N) (at + 1) (bytes2 c) (at + 3) l (omega (arith, length_bytes2 c))
          ∙ ap (λ (y : ℕ). sets (sets (set out at N) (at + 1) (bytes2 c)) y l) d
          ∙ sets_next (set out at N) (at + 1) (bytes2 c) l 2 (length_bytes2 c)
          ∙ ap (λ (y : ℕ). sets (set out at N) y (bytes2 c ++ l)) (add-one at),
      omega (arith, k, ap length w, length-append (bytes2 c) l, length_bytes2 c),
    )
