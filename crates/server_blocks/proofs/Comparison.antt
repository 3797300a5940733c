-- The value of a group, its blocks, and their digests. Assumes nothing.
use Prim.Native.Nat.{ℕ, ◌+◌, ◌-◌, ◌≤◌, ◌<◌}
use native.Mathlib.Omega.{arith}
use mathlib.Core.Path.{◌≡◌, refl, ap, ap₂, sym, ◌∙◌}
use mathlib.Core.Bool.{Bool, true, false, ◌&&◌}
use mathlib.Core.List.{List}
use lib.ListN.{length, take}
use lib.Seq.{sets, length-sets, length-take-le}
use lib.Dec.{leb}
use borrow.Author.Tests.{leb-true, leb-false, le-leb, lt-leb}
use Rattle.area.specs.Area.{pick, same}
use Rattle.area.proofs.Sets.{take_front}
use Rattle.quorum.specs.Quorum.{count}
use Rattle.blocks.specs.declared.Params.{Params}
use Rattle.blocks.specs.Code.{block_length, block_of}
use Rattle.blocks.proofs.Values.{length_value_of}
use Rattle.blocks.proofs.Stripes.{length_block_of}
use Rattle.frame.specs.Chunks.{echoes_from, readies_from}
use Rattle.frame.specs.Params.{quota, width, listed}
use Rattle.group_rules.specs.Coded.{digests_of}
use Rattle.group.specs.Entries.{marked, places_from, Within}
use Rattle.group.specs.Choice.{lowest, blocks_in, value_from, all_of}
use Rattle.group.specs.Needs.{Decoding, Valued}
use Rattle.server_rules.proofs.Thresholds.{quota_blocks}
use Rattle.group.proofs.Choosing.{length_lowest}
use Rattle.group.proofs.Digests.{short_block}
use Rattle.group.proofs.Matched.{within_places}
use Rattle.server_blocks.specs.declared.Voters.{Voters}
use Rattle.server_blocks.specs.declared.Group.{Group}
use Rattle.server_blocks.specs.Group.{group_of, group_value, group_equal, Regaining}

-- ---- the group

-- which of the two it is
module _ (g : Params) (v : Voters) (c q : ℕ) (at : List ℕ) (q-is : q ≡ quota g) where
  pub chose_readies : q ≤ v.readied → at ≡ places_from (readies_from c) → ◌≡◌ {A = Group} (record { on = v.readies; at = at }) (group_of g v c)
  unfolding group_of pick
  chose_readies h e =
      let k : quota g ≤ v.readied = omega (arith, q-is, h) in
      (λ i. record { on = v.readies; at = e i })
      ∙ sym (ap (λ (t : Bool). pick t (record { on = v.readies; at = places_from (readies_from c) }) (record { on = v.echoes; at = places_from (echoes_from c) }))
      (le-leb (quota g) v.readied k))

  pub chose_echoes : v.readied < q → at ≡ places_from (echoes_from c) → ◌≡◌ {A = Group} (record { on = v.echoes; at = at }) (group_of g v c)
  unfolding group_of pick
  chose_echoes h e =
      let k : v.readied < quota g = omega (arith, q-is, h) in
      (λ i. record { on = v.echoes; at = e i })
      ∙ sym (ap (λ (t : Bool). pick t (record { on = v.readies; at = places_from (readies_from c) }) (record { on = v.echoes; at = places_from (echoes_from c) }))
      (lt-leb (quota g) v.readied k))

module _ (g : Params) (v : Voters) (c : ℕ) (a : List ℕ) (R : Regaining g v c (length a)) where
  record Right (x : Group) : Type 0 where
    pub within : Within x.at a
    pub enough : g.k ≤ count (marked x.on) g.n

  -- the readies are enough
  many_readies : quota g ≤ v.readied → g.k ≤ count (marked v.readies) g.n
  many_readies h = let k = quota_blocks g in omega (arith, k, h, R.number)

  -- the chosen ones are enough, and lie in the area
  chosen_right : (b : Bool) → leb (quota g) v.readied ≡ b
      → Right (pick b (record { on = v.readies; at = places_from (readies_from c) }) (record { on = v.echoes; at = places_from (echoes_from c) }))
  unfolding pick
  chosen_right true e = record {
    within = within_places (readies_from c) a (omega (arith, R.stored.client_low, R.stored.client_high, R.stored.whole));
    enough = many_readies (leb-true (quota g) v.readied e);
  }
  chosen_right false e = record {
    within = within_places (echoes_from c) a (omega (arith, R.stored.client_low, R.stored.client_high, R.stored.whole));
    enough = R.enough (leb-false (quota g) v.readied e);
  }

  right : Right (group_of g v c)
  unfolding group_of
  right = chosen_right (leb (quota g) v.readied) refl

  -- the value has its length
  length_value : length (group_value g v c a) ≡ g.size
  unfolding group_value value_from
  length_value =
      let x = group_of g v c in
      let n = length_lowest (marked x.on) g.k g.n right.enough in
      length_value_of (lowest (marked x.on) g.k g.n) (blocks_in g x.at a (lowest (marked x.on) g.k g.n)) g.size
      (omega (arith, n, R.stored.bounded.blocks_low))

  module _ (x : Group) (x-is : x ≡ group_of g v c) where
    pub decoding : (out : ℕ) → out ≡ g.size → Decoding g x.on x.at a out
    decoding out e = record {
      bounded = R.stored.bounded;
      within = rw x-is right.within;
      enough = rw x-is right.enough;
      whole = e;
    }

    -- ---- the value in the front of a buffer

    module _ (l : List ℕ) (l-is : l ≡ value_from g x.on x.at a) where
      front : l ≡ group_value g v c a
      unfolding group_value
      front = l-is ∙ ap (λ (y : Group). value_from g y.on y.at a) x-is

      pub value_length : length l ≡ g.size
      value_length = ap length front ∙ length_value

      pub encode_own : (o : ℕ) → 256 ≤ o → (0 < g.k) × (g.k ≤ 8) × (length l ≤ 256) × (0 + block_length (length l) g.k ≤ o)
      encode_own o h =
          let n = value_length in
          let m : length l ≤ 256 = omega (arith, n, R.stored.bounded.size_high) in
          let s = short_block (length l) g.k R.stored.bounded.blocks_low m in (
            R.stored.bounded.blocks_low,
            omega (arith, R.stored.bounded.servers_high, R.stored.bounded.faults_low, R.stored.bounded.blocks_high),
            m,
            omega (arith, s, h),
          )

      pub encode_all : (d : ℕ) → d ≡ listed g → Valued g l × Within x.at a × (d ≡ listed g)
      encode_all d h = (record { bounded = R.stored.bounded; whole = value_length }, rw x-is right.within, h)

      pub own_block : (H : List ℕ → List ℕ) (me : ℕ) (d b b' : List ℕ) (t : Bool)
          → t ≡ all_of g x.on x.at a l && same (digests_of H g l) d
          → b' ≡ sets b 0 (block_of g.k l me)
          → (t ≡ group_equal H g v c a d) × (b' ≡ sets b 0 (block_of g.k (group_value g v c a) me))
      unfolding group_equal
      own_block H me d b b' t h k = (
        h ∙ ap₂ (λ (y : Group) (u : List ℕ). all_of g y.on y.at a u && same (digests_of H g u) d) x-is front,
        k ∙ ap (λ (u : List ℕ). sets b 0 (block_of g.k u me)) front,
      )

  -- ---- the own block in the front of l

  module _ (me m : ℕ) (b l : List ℕ) (m-is : m ≡ width g) (m-small : m ≤ 256) (b-is : length b ≡ 256)
      (l-is : l ≡ sets b 0 (block_of g.k (group_value g v c a) me)) where
    pub block_room : m ≤ length l
    block_room =
        let n = ap length l-is ∙ length-sets b 0 (block_of g.k (group_value g v c a) me) in
        omega (arith, n, m-small, b-is)

    pub block_length_lem : m ≡ length (take m l)
    block_length_lem = sym (length-take-le m l block_room)

    pub block_front : take m l ≡ block_of g.k (group_value g v c a) me
    unfolding width
    block_front =
        let h : m ≤ length b = omega (arith, m-small, b-is) in
        ap (take m) l-is
        ∙ take_front b (block_of g.k (group_value g v c a) me) m
        (length_block_of g.k (group_value g v c a) me ∙ ap (λ (i : ℕ). block_length i g.k) length_value ∙ sym m-is) h
