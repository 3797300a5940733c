-- Quorums, where n > 3t and at most t of the servers 1 to n are false:
--   more than t servers have an honest one among them;
--   two sets of n - t servers share an honest one;
--   there are at least n - t honest servers.
-- All agreement in this register comes from the first two, and that all are served from the third. Assumes nothing.
use Prim.Native.Nat.{ℕ, suc, ◌+◌, ◌-◌, ◌≤◌, ◌<◌}
use native.Mathlib.Omega.{arith}
use mathlib.Core.Bool.{Bool, true, false, not, ◌&&◌}
use mathlib.Core.Path.{◌≡◌}
use borrow.Author.Tests.{not-true}
use Rattle.quorum.specs.Quorum.{count, Among, Faults}
use Rattle.quorum.proofs.Logic.{and_split}
use Rattle.quorum.proofs.Counting.{count_both, count_not, count_mono, some_passes}

-- At least m of the servers 1 to n, with Q for each. Q is mostly of the form "if j is honest, then ..", so that what a
-- false server said needs no case of its own.
pub record AtLeast (n m : ℕ) (Q : ℕ → Type 0) : Type 0 where
  pub member : ℕ → Bool
  pub many : m ≤ count member n
  pub each : (j : ℕ) → Among n j → member j ≡ true → Q j

pub at_least_map : {n m : ℕ} {Q R : ℕ → Type 0} → ((j : ℕ) → Among n j → Q j → R j) → AtLeast n m Q → AtLeast n m R
at_least_map f s = record { member = s.member; many = s.many; each = λ j i b. f j i (s.each j i b) }

pub at_least_fewer : {n m k : ℕ} {Q : ℕ → Type 0} → k ≤ m → AtLeast n m Q → AtLeast n k Q
at_least_fewer h s = record { member = s.member; many = omega (arith, s.many); each = s.each }

-- if at least m pass, the count is m or more
pub at_least_count : {n m : ℕ} (p : ℕ → Bool) → AtLeast n m (λ j. p j ≡ true) → m ≤ count p n
at_least_count {n} p s = omega (arith, s.many, count_mono s.member p n s.each)

-- a server with Q that is honest
abbrev pub HonestWith : ℕ → (ℕ → Bool) → (ℕ → Type 0) → Type 0
HonestWith n faulty Q = (j : ℕ) × Among n j × (faulty j ≡ false) × Q j

module _ {n t : ℕ} {faulty : ℕ → Bool} (F : Faults n t faulty) where
  -- of a + t servers that pass at least a are honest
  pub honest_count : (p : ℕ → Bool) (a : ℕ) → a + t ≤ count p n → a ≤ count (λ j. p j && not (faulty j)) n
  honest_count p a h = omega (arith, count_both p (λ j. not (faulty j)) n, count_not faulty n, F.few)

  pub honest_passes : (p : ℕ → Bool) → t < count p n → HonestWith n faulty (λ j. p j ≡ true)
  honest_passes p h =
      let r = some_passes (λ j. p j && not (faulty j)) n (honest_count p 1 (omega arith)) in
      let w = and_split (p r.at) (not (faulty r.at)) r.passes in
      (r.at, r.among, not-true (faulty r.at) w.1, w.0)

  -- what every honest server has, n - t servers have
  pub honest_servers : {Q : ℕ → Type 0} → ((j : ℕ) → Among n j → faulty j ≡ false → Q j) → AtLeast n (n - t) Q
  honest_servers f = record {
    member = λ j. not (faulty j);
    many = omega (arith, count_not faulty n, F.few);
    each = λ j i e. f j i (not-true (faulty j) e);
  }

  -- of a + t servers that have Q if they are honest, a are honest and have it
  pub honest_part : {a m : ℕ} {Q : ℕ → Type 0} → a + t ≤ m → AtLeast n m (λ j. faulty j ≡ false → Q j) → AtLeast n a (λ j. (faulty j ≡ false) × Q j)
  honest_part {a} h s = record {
    member = λ j. s.member j && not (faulty j);
    many = honest_count s.member a (omega (arith, s.many));
    each = λ j i e.
        let w = and_split (s.member j) (not (faulty j)) e in
        let g = not-true (faulty j) w.1 in
        (g, s.each j i w.0 g);
  }

  pub honest_member : {Q : ℕ → Type 0} → AtLeast n (suc t) Q → HonestWith n faulty Q
  honest_member s =
      let (j, i, g, p) = honest_passes s.member s.many in
      (j, i, g, s.each j i p)

  pub quorums_meet : {Q R : ℕ → Type 0} → AtLeast n (n - t) Q → AtLeast n (n - t) R → HonestWith n faulty (λ j. Q j × R j)
  quorums_meet a b =
      let both = count_both a.member b.member n in
      let (j, i, g, p) = honest_passes (λ j. a.member j && b.member j) (omega (arith, both, a.many, b.many, F.many)) in
      let w = and_split (a.member j) (b.member j) p in
      (j, i, g, (a.each j i w.0, b.each j i w.1))

  -- n - t servers are more than t
  pub quorum_member : {Q : ℕ → Type 0} → AtLeast n (n - t) Q → HonestWith n faulty Q
  quorum_member s =
      let (j, i, g, q) = quorums_meet s s in
      (j, i, g, q.0)
