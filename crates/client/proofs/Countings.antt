-- What is counted of a write's stamps and acks. hs, ts and rs are the servers' flags, their stamps' times and their reports. Assumes nothing.
use Prim.Native.Nat.{ℕ, ◌+◌, ◌≤◌, max}
use mir.Val.{bool_byte}
use native.Mathlib.Omega.{arith}
use native.Mathlib.Numerals.{add-one}
use mathlib.Core.Bool.{Bool, true, false, ◌&&◌}
use mathlib.Core.Path.{◌≡◌, ap, ◌∙◌}
use mathlib.Core.List.{List}
use lib.ListN.{get_or, set}
use lib.Dec.{leb}
use Rattle.area.specs.Area.{pick}
use Rattle.quorum.specs.Quorum.{bit, count}
use Rattle.blocks.specs.declared.Params.{Params}
use Rattle.group_rules.specs.Vouching.{backed}
use Rattle.group.specs.Entries.{marked}
use Rattle.group.proofs.Matched.{count_turn, tally_end}
use Rattle.client_rules.specs.declared.Client.{Client}
use Rattle.client_rules.specs.State.{largest, report_of, with_report}
use Rattle.client_rules.specs.Steps.{quorate, counted, gathered, largest_counted}

-- ---- acks

pub quorate_law : (g : Params) (h : List Bool) (c : ℕ) → c ≡ count (marked h) g.n → leb g.n (c + g.t) ≡ quorate g h
unfolding quorate marked
quorate_law g h c e = ap (λ k. leb g.n (k + g.t)) e

-- ---- a stamp

-- true counts 1
pub bit_of : (b : Bool) (x : ℕ) → x ≡ bool_byte b → (x ≡ bit b) × (x ≤ 1)
bit_of true x e = (e, omega (arith, e))
bit_of false x e = (e, omega (arith, e))

pub swap : (a b : ℕ) → a + b ≡ b + a
swap a b = omega arith

module _ (g : Params) (hs : List Bool) (ts rs : List ℕ) where
  -- whether server j's counts
  unfoldable pub counts : ℕ → Bool
  counts j = get_or hs j false && backed g (λ i. get_or rs i 0) (get_or ts j 0)

  -- the time of server j's, if it counts
  unfoldable pub time_at : ℕ → ℕ
  time_at j = pick (counts j) (get_or ts j 0) 0

  module _ (j r : ℕ) (b : Bool) (d : b ≡ (get_or hs (j + 1) false && backed g (λ i. get_or rs i 0) (get_or ts (j + 1) 0))) where
    -- server j + 1's was counted
    pub counted_turn : (x : ℕ) → r ≡ count counts j → x ≡ bit b → x + r ≡ count counts (j + 1)
    unfolding counts
    counted_turn x e q = count_turn counts j r x e (q ∙ ap bit d)

    -- and its time looked at
    pub largest_turn : (x y : ℕ) → r ≡ largest time_at j → y ≡ pick b (get_or ts (j + 1) 0) 0 → x ≡ max y r → x ≡ largest time_at (j + 1)
    unfolding largest time_at counts
    largest_turn x y e q p =
        let z : max (time_at (j + 1)) (largest time_at j) ≡ largest time_at (j + 1) = rw (add-one j) in
        let u : y ≡ time_at (j + 1) = q ∙ ap (λ c. pick c (get_or ts (j + 1) 0) 0) d in
        p ∙ ap (λ c. max c r) u ∙ ap (λ c. max (time_at (j + 1)) c) e ∙ z

-- ---- all of them

module _ (g : Params) (s : Client) (j r : ℕ) (a : g.n ≤ j) (b : j ≤ g.n) where
  pub gathered_end : r ≡ count (counts g s.heard s.times s.reports) j → leb g.n (r + g.t) ≡ gathered g s
  unfolding gathered counted counts
  gathered_end e = ap (λ k. leb g.n (k + g.t)) (tally_end (counted g s) j g.n r e a b)

  pub largest_end : r ≡ largest (time_at g s.heard s.times s.reports) j → r ≡ largest_counted g s
  unfolding largest_counted counted time_at counts
  largest_end e = let q : j ≡ g.n = omega arith in e ∙ ap (λ k. largest (λ i. pick (counted g s i) (get_or s.times i 0) 0) k) q

-- ---- a report

pub report_law : (s : Client) (j T x : ℕ) → x ≡ max (report_of s j) T
    → ◌≡◌ {A = Client}
    (record {
      writes = s.writes;
      reads = s.reads;
      closed = s.closed;
      phase = s.phase;
      heard = s.heard;
      times = s.times;
      rows = s.rows;
      reports = set s.reports j x;
    })
    (with_report s j T)
report_law s j T x e = λ i. record {
  writes = s.writes;
  reads = s.reads;
  closed = s.closed;
  phase = s.phase;
  heard = s.heard;
  times = s.times;
  rows = s.rows;
  reports = set s.reports j (e i);
}
