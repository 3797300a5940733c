-- The comparison of a value with a digest list and with the blocks of a group, one server after the other. Assumes nothing.
use Prim.Native.Nat.{ℕ, ◌+◌, ◌-◌, ◌*◌, ◌≤◌, ◌<◌}
use native.Mathlib.Omega.{arith}
use mathlib.Core.Path.{◌≡◌, refl, sym, ap, ap₂, ◌∙◌}
use mathlib.Core.Bool.{Bool, true, false, ◌&&◌, not}
use mathlib.Core.List.{List}
use lib.ListN.{length, get_or, drop}
use borrow.Author.Tests.{not-true, not-false}
use Rattle.area.specs.Area.{pick, part, same, joined}
use Rattle.quorum.proofs.Logic.{impossible, and_split, and_false}
use Rattle.blocks.specs.declared.Params.{Params}
use Rattle.blocks.specs.Code.{block_of}
use Rattle.sha256.specs.Hash.{digest_of}
use Rattle.frame.specs.Params.{Bounded, listed}
use Rattle.frame.specs.Messages.{entry}
use Rattle.group_rules.specs.Coded.{digests_of, fits}
use Rattle.group.specs.Entries.{marked, Within}
use Rattle.group.specs.Choice.{block_in, all_of}
use Rattle.group.proofs.Unanimous.{left, in_order, left_start, left_split, left_end}
use Rattle.group.proofs.Digests.{block_digests, rest, rest_start, rest_split, rest_end}

-- two tests in turn
both_false : (a b x y : Bool) → a && b ≡ false → (a && x) && (b && y) ≡ false
both_false true true x y e = impossible (cc e)
both_false true false true y e = refl
both_false true false false y e = refl
both_false false b x y e = refl

-- what is left to compare after the first j servers
abbrev pub to_compare : Params → List ℕ → List ℕ → List Bool → List ℕ → List ℕ → ℕ → Bool
to_compare g at a on v list j = left g at a on v j && same (joined (λ i. digest_of (block_of g.k v i)) (j + 1) (g.n - j)) (drop (32 * j) list)

-- ---- one server: its block own, if it is flagged, and the digest at place j of the list, against the block u of the value

abbrev pub checked : Bool → List ℕ → List ℕ → List ℕ → ℕ → Bool
checked m own u list j = pick m (same own u) true && fits digest_of (entry list u) j

and_true_right : (x : Bool) → x && true ≡ x
and_true_right true = refl
and_true_right false = refl

module _ (m : Bool) (own u u' list : List ℕ) (j : ℕ) (r : Bool) (e : u' ≡ u) (f : r ≡ fits digest_of (entry list u') j) where
  fit_is : (b : Bool) → r ≡ b → fits digest_of (entry list u) j ≡ b
  fit_is b h = sym (ap (λ (x : List ℕ). fits digest_of (entry list x) j) e) ∙ sym f ∙ h

  pub no_fit : not r ≡ true → false ≡ checked m own u list j
  no_fit t = sym (ap (λ (b : Bool). pick m (same own u) true && b) (fit_is false (not-true r t)) ∙ and_false (pick m (same own u) true) false refl)

  pub fit_unflagged : not r ≡ false → not m ≡ true → true ≡ checked m own u list j
  unfolding pick
  fit_unflagged t n = sym (ap₂ (λ (a b : Bool). pick a (same own u) true && b) (not-true m n) (fit_is true (not-false r t)))

  pub fit_flagged : (s : Bool) → not r ≡ false → not m ≡ false → s ≡ same own u' → s ≡ checked m own u list j
  unfolding pick
  fit_flagged s t n q =
      q ∙ ap (same own) e ∙ sym (and_true_right (same own u))
      ∙ sym (ap₂ (λ (a b : Bool). pick a (same own u) true && b) (not-false m n) (fit_is true (not-false r t)))

module _ (g : Params) (at a : List ℕ) (B : Bounded g) (W : Within at a) (on : List Bool) (v : List ℕ) (s : length v ≡ g.size) (list : List ℕ)
    (whole : length list ≡ listed g) where
  abbrev digest_at : ℕ → List ℕ
  digest_at j = digest_of (block_of g.k v j)

  whole' : length list ≡ 32 * g.n
  whole' = whole ∙ omega arith

  abbrev pub all : Bool
  all = all_of g on at a v && same (digests_of digest_of g v) list

  pub compare_start : all ≡ to_compare g at a on v list 0
  unfolding digests_of
  compare_start = ap₂ ◌&&◌ (left_start g at a B W on v s) (rest_start digest_at (block_digests g.k v) g.n list whole')

  -- server j + 1 is in order, and its digest in the list
  abbrev pub step : ℕ → Bool
  step j = in_order g at a on v (j + 1) && fits digest_of (entry list (block_of g.k v (j + 1))) (j + 1)

  pub step_is : (j : ℕ) (w : List ℕ) (r : Bool) → w ≡ block_in g at a (j + 1)
      → r ≡ pick (get_or on (j + 1) false) (same w (block_of g.k v (j + 1))) true && fits digest_of (entry list (block_of g.k v (j + 1))) (j + 1) → r ≡ step j
  unfolding marked
  step_is j w r e q =
      q ∙ ap (λ (l : List ℕ). pick (get_or on (j + 1) false) (same l (block_of g.k v (j + 1))) true
      && fits digest_of (entry list (block_of g.k v (j + 1))) (j + 1)) e

  fits_is : (j : ℕ) → fits digest_of (entry list (block_of g.k v (j + 1))) (j + 1) ≡ same (digest_at (j + 1)) (part list (32 * j) 32)
  unfolding fits
  fits_is j = let e : 32 * (j + 1) - 32 ≡ 32 * j = omega arith in ap (λ (i : ℕ). same (digest_at (j + 1)) (part list i 32)) e

  split : (j : ℕ) → j < g.n → to_compare g at a on v list j
      ≡ (in_order g at a on v (j + 1) && left g at a on v (j + 1))
      && (fits digest_of (entry list (block_of g.k v (j + 1))) (j + 1) && rest digest_at (block_digests g.k v) g.n list whole' (j + 1))
  split j h =
      ap₂ ◌&&◌ (left_split g at a B W on v s j h)
      (rest_split digest_at (block_digests g.k v) g.n list whole' j h
      ∙ ap (λ (b : Bool). b && rest digest_at (block_digests g.k v) g.n list whole' (j + 1)) (sym (fits_is j)))

  pub compare_turn : (j : ℕ) (r : Bool) → j < g.n → r ≡ step j → not r ≡ false → all ≡ to_compare g at a on v list j → all ≡ to_compare g at a on v list (j + 1)
  compare_turn j r h q t i =
      let w = and_split (in_order g at a on v (j + 1)) _ (sym q ∙ not-false r t) in
      i ∙ split j h
      ∙ ap₂ (λ (x y : Bool). (x && left g at a on v (j + 1)) && (y && rest digest_at (block_digests g.k v) g.n list whole' (j + 1))) w.0 w.1

  pub compare_out : (j : ℕ) (r : Bool) → j < g.n → r ≡ step j → not r ≡ true → all ≡ to_compare g at a on v list j → false ≡ all
  compare_out j r h q t i =
      sym (i ∙ split j h
      ∙ both_false (in_order g at a on v (j + 1)) (fits digest_of (entry list (block_of g.k v (j + 1))) (j + 1)) _ _ (sym q ∙ not-true r t))

  pub compare_end : (j : ℕ) → g.n ≤ j → all ≡ to_compare g at a on v list j → true ≡ all
  compare_end j h i =
      sym (i ∙ ap₂ ◌&&◌ (left_end g at a B W on v s j h) (rest_end digest_at (block_digests g.k v) g.n list whole' j h))
