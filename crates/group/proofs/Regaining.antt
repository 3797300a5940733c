-- The value from the k lowest flagged servers: what the calls of `regain` ask and give, one after the other. Assumes nothing.
use mathlib.Core.Path.{◌≡◌, sym, ap, ap₂, ◌∙◌}
use mathlib.Core.Bool.{Bool}
use mathlib.Core.List.{List}
use Prim.Native.Nat.{ℕ, ◌+◌, ◌-◌, ◌*◌, ◌≤◌, ◌<◌}
use native.Mathlib.Nat.{mul-div-le}
use native.Mathlib.Omega.{arith}
use lib.ListN.{length, take}
use lib.Seq.{sets, length-sets, length-take-le}
use Rattle.area.proofs.Sets.{take_front}
use Rattle.blocks.specs.declared.Params.{Params}
use Rattle.blocks.specs.Code.{block_length, value_of}
use Rattle.blocks.proofs.Values.{length_value_of}
use Rattle.frame.specs.Params.{width}
use Rattle.group.specs.Entries.{marked}
use Rattle.group.specs.Choice.{lowest, blocks_in, value_from}
use Rattle.group.specs.Needs.{Collecting, Decoding}
use Rattle.group.proofs.Choosing.{length_lowest, lowest_below}
use Rattle.group.proofs.Collecting.{length_blocks_in}

-- k blocks are little longer than the value
pub all_blocks : (L k : ℕ) → k * block_length L k ≤ L + (k - 1)
unfolding block_length
all_blocks L k = mul-div-le (L + (k - 1)) k

module _ (g : Params) (on : List Bool) (at a : List ℕ) (out : ℕ) (D : Decoding g on at a out) where
  -- the numbers and their blocks fit the buffers
  pub few : g.k ≤ 8
  few = omega (arith, D.bounded.servers_high, D.bounded.faults_low, D.bounded.blocks_high)

  wide : (b : ℕ) → b ≡ block_length g.size g.k → b ≡ width g
  unfolding width
  wide b e = e

  pub total : (b : ℕ) → b ≡ block_length g.size g.k → g.k * b ≤ 264
  total b e =
      let h = all_blocks g.size g.k in
      rw e (omega (arith, few, D.bounded.blocks_low, D.bounded.size_high))

  -- the value has its length
  pub length_value : length (value_from g on at a) ≡ g.size
  unfolding value_from
  length_value =
      let n = length_lowest (marked on) g.k g.n D.enough in
      let h : 0 < length (lowest (marked on) g.k g.n) = omega (arith, D.bounded.blocks_low) in
      length_value_of (lowest (marked on) g.k g.n) (blocks_in g at a (lowest (marked on) g.k g.n)) g.size h

  module _ (d l : List ℕ) (chosen : l ≡ sets d 0 (lowest (marked on) g.k g.n)) (eight : length d ≡ 8) where
    -- the front of the array of numbers
    pub front_room : g.k ≤ length l
    front_room = let q = ap length chosen ∙ length-sets d 0 (lowest (marked on) g.k g.n) in omega (arith, few)

    pub front : take g.k l ≡ lowest (marked on) g.k g.n
    front =
        let h : g.k ≤ length d = omega (arith, few) in
        ap (take g.k) chosen
        ∙ take_front d (lowest (marked on) g.k g.n) g.k (length_lowest (marked on) g.k g.n D.enough) h

    pub front_length : g.k ≡ length (take g.k l)
    front_length = sym (length-take-le g.k l front_room)

    pub collecting : (b : ℕ) → b ≡ block_length g.size g.k → Collecting g (take g.k l) at a b 264
    collecting b e = record {
      bounded = D.bounded;
      numbers = λ i. rw front (omega (arith, lowest_below (marked on) g.k g.n i, D.bounded.servers_high));
      within = D.within;
      width_is = wide b e;
      few = rw (← front_length) few;
      room = rw (← front_length) (total b e);
    }

    module _ (b : ℕ) (x m : List ℕ) (width_is : b ≡ block_length g.size g.k) (collected : m ≡ sets x 0 (blocks_in g at a (take g.k l)))
        (room : length x ≡ 264) where
      -- the front of the buffer of blocks
      pub back_room : g.k * b ≤ length m
      back_room =
          let q = ap length collected ∙ length-sets x 0 (blocks_in g at a (take g.k l)) in
          let t = total b width_is in
          omega arith

      pub back_length : g.k * b ≡ length (take (g.k * b) m)
      back_length = sym (length-take-le (g.k * b) m back_room)

      pub back_is : length (take (g.k * b) m) ≡ length (take g.k l) * block_length out (length (take g.k l))
      back_is =
          sym back_length ∙ ap (λ (n : ℕ). g.k * n) (width_is ∙ ap (λ (n : ℕ). block_length n g.k) (sym D.whole))
          ∙ ap (λ (n : ℕ). n * block_length out n) front_length

      back : take (g.k * b) m ≡ blocks_in g at a (lowest (marked on) g.k g.n)
      back =
          let n : length (blocks_in g at a (lowest (marked on) g.k g.n)) ≡ g.k * b =
          length_blocks_in g at a D.bounded D.within (lowest (marked on) g.k g.n)
          ∙ ap (λ i. i * width g) (length_lowest (marked on) g.k g.n D.enough)
          ∙ ap (λ i. g.k * i) (sym (wide b width_is)) in
          let t = total b width_is in
          let h : g.k * b ≤ length x = omega arith in
          ap (take (g.k * b)) (collected ∙ ap (λ js. sets x 0 (blocks_in g at a js)) front)
          ∙ take_front x (blocks_in g at a (lowest (marked on) g.k g.n)) (g.k * b) n h

      -- what is decoded
      pub regained : (r : List ℕ) → r ≡ value_of (take g.k l) out (take (g.k * b) m) → r ≡ value_from g on at a
      unfolding value_from
      regained r e = e ∙ ap (λ (n : ℕ). value_of (take g.k l) n (take (g.k * b) m)) D.whole ∙ ap₂ (λ js w. value_of js g.size w) front back
