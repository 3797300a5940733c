-- Stamps as numbers: within their bounds they are ordered as their keys. Assumes nothing.
use Prim.Native.Nat.{ℕ, ◌+◌, ◌*◌, ◌%◌, ◌≤◌, ◌<◌}
use native.Mathlib.Omega.{arith}
use native.Mathlib.Decide.{dec_le}
use mathlib.Core.Bool.{Bool, true, false, ◌&&◌, ◌||◌}
use mathlib.Core.Path.{◌≡◌, refl}
use mathlib.Core.Logic.{⊎_elim}
use lib.Dec.{ltb, eqb}
use borrow.Author.Tests.{ltb-true, ltb-false, eqb-true, eqb-false}
use Rattle.quorum.proofs.Logic.{and_split, or_split, or_false}
use Rattle.frame.specs.declared.Stamp.{Stamp}
use Rattle.frame.specs.Stamps.{older}
use Rattle.steps.proofs.ServerRanges.{StampInBounds}

-- writers are below 16 and sequences below 2^32 in every stamp of a run; where they are not, the key takes their low bits
abbrev pub key : Stamp → ℕ
key s = s.time * 68719476736 + s.writer % 16 * 4294967296 + s.sequence % 4294967296

pub key_time : (a b : Stamp) → key a ≤ key b → a.time ≤ b.time
key_time a b h = go (dec_le a.time b.time)
  where
    go : Dec (a.time ≤ b.time) → a.time ≤ b.time
    go (yes z) = z
    go (no z) = omega arith

pub older_key : (a b : Stamp) → StampInBounds a → StampInBounds b → older a b ≡ true → key a < key b
unfolding older
older_key a b P Q e = ⊎_elim
    (λ l. omega (arith, ltb-true a.time b.time l, P.writer_high, P.sequence_high, Q.writer_high, Q.sequence_high))
    (λ r.
    let w = and_split (eqb a.time b.time) _ r in
    let t = eqb-true a.time b.time w.0 in
    ⊎_elim
    (λ l. omega (arith, t, ltb-true a.writer b.writer l, P.writer_high, P.sequence_high, Q.writer_high, Q.sequence_high))
    (λ r.
    let y = and_split (eqb a.writer b.writer) _ r in
    let n = eqb-true a.writer b.writer y.0 in
    omega (arith, t, n, ltb-true a.sequence b.sequence y.1, P.writer_high, P.sequence_high, Q.writer_high, Q.sequence_high))
    (or_split (ltb a.writer b.writer) (eqb a.writer b.writer && ltb a.sequence b.sequence) w.1))
    (or_split (ltb a.time b.time)
    (eqb a.time b.time && (ltb a.writer b.writer || (eqb a.writer b.writer && ltb a.sequence b.sequence))) e)

pub not_older : (a b : Stamp) → StampInBounds a → StampInBounds b → older a b ≡ false → key b ≤ key a
unfolding older
not_older a b P Q e =
    let w = or_false (ltb a.time b.time) _ e in
    let t = ltb-false a.time b.time w.0 in
    by_time t (eqb a.time b.time) refl w.1
  where
    by_writer : a.time ≡ b.time → b.writer ≤ a.writer → (z : Bool) → eqb a.writer b.writer ≡ z → (z && ltb a.sequence b.sequence) ≡ false
        → key b ≤ key a
    by_writer t l true z e =
        let n = eqb-true a.writer b.writer z in
        omega (arith, t, n, ltb-false a.sequence b.sequence e, P.writer_high, P.sequence_high, Q.writer_high, Q.sequence_high)
    by_writer t l false z e =
        let n = eqb-false a.writer b.writer z in
        omega (arith, t, l, n, P.writer_high, P.sequence_high, Q.writer_high, Q.sequence_high)

    by_time : b.time ≤ a.time → (z : Bool) → eqb a.time b.time ≡ z
        → (z && (ltb a.writer b.writer || (eqb a.writer b.writer && ltb a.sequence b.sequence))) ≡ false → key b ≤ key a
    by_time t true z e =
        let w = or_false (ltb a.writer b.writer) _ e in
        by_writer (eqb-true a.time b.time z) (ltb-false a.writer b.writer w.0) (eqb a.writer b.writer) refl w.1
    by_time t false z e = let n = eqb-false a.time b.time z in omega (arith, t, n, P.writer_high, P.sequence_high, Q.writer_high, Q.sequence_high)

-- the other way
pub key_older : (a b : Stamp) → StampInBounds a → StampInBounds b → key a < key b → older a b ≡ true
key_older a b P Q h = go (older a b) refl
  where
    go : (z : Bool) → older a b ≡ z → older a b ≡ true
    go true e = e
    go false e = let w = not_older a b P Q e in absurd (omega (arith, w, h))

pub key_not_older : (a b : Stamp) → StampInBounds a → StampInBounds b → key a ≤ key b → older b a ≡ false
key_not_older a b P Q h = go (older b a) refl
  where
    go : (z : Bool) → older b a ≡ z → older b a ≡ false
    go false e = e
    go true e = let w = older_key b a Q P e in absurd (omega (arith, w, h))
