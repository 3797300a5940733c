-- What is at the front of a list of bytes, by cases: nothing, 22, 23, or an entry. Assumes nothing.
use Rattle.std.specs.Prelude.{Ok, Err}
use Prim.Native.Nat.{ℕ, ◌+◌, ◌≤◌, ◌<◌}
use native.Mathlib.Omega.{arith}
use mathlib.Core.Path.{◌≡◌, refl, sym, ap₂, ◌∙◌}
use mathlib.Core.Bool.{Bool, true, false, not, ◌&&◌, ◌||◌}
use mathlib.Core.Logic.{◌⊎◌, inl, inr}
use mathlib.Core.Option.{Option, none, some}
use mathlib.Core.List.{List}
use lib.ListN.{length, get_or}
use lib.Dec.{eqb, ltb, leb}
use borrow.Author.Tests.{ltb-true, ltb-false, leb-true, eqb-true, eqb-false, not-true, not-false, lt-ltb, le-ltb, le-leb, lt-leb, eq-eqb, ne_eqb}
use Rattle.area.specs.Area.{pick}
use Rattle.area.specs.Responses.{Response, turned_down, gives}
use Rattle.area.specs.Numbers.{be2}
use Rattle.area.proofs.Tests.{impossible, and_left, and_right, or_split, or_false}
use Rattle.frame.specs.declared.Party.{Party}
use Rattle.entries.specs.declared.Closing.TheVariants as C
use Rattle.entries.specs.declared.Found.{Found}
use Rattle.frame.specs.Outbox.{party_in}
use Rattle.entries.specs.Entries.{malformed, cut, reading_response, reading_of}

-- ---- tests

and_false : (a b : Bool) → a && b ≡ false → a ≡ true → b ≡ false
and_false true b e f = e
and_false false b e f = impossible (cc f)

-- ---- an entry

-- the list begins with an entry
pub record Begins (l : List ℕ) : Type 0 where
  pub long : 3 ≤ be2 l 0
  pub version : get_or l 2 0 ≡ 1
  pub class : get_or l 3 0 ≤ 1
  pub whole : 2 + be2 l 0 ≤ length l

abbrev pub found_at : List ℕ → Found
found_at l = record { sender = party_in (get_or l 3 0) (get_or l 4 0); end = 2 + be2 l 0 }

-- the length, the version and the class are right, as far as the list has them
pub record Sound (l : List ℕ) : Type 0 where
  pub long : 2 ≤ length l → 3 ≤ be2 l 0
  pub version : 3 ≤ length l → get_or l 2 0 ≡ 1
  pub class : 4 ≤ length l → get_or l 3 0 ≤ 1

pub sound_of : (l : List ℕ) → malformed l ≡ false → Sound l
unfolding malformed
sound_of l e =
    let a = or_false (leb 2 (length l) && ltb (be2 l 0) 3) _ e in
    let b = or_false (leb 3 (length l) && not (eqb (get_or l 2 0) 1)) _ a.1 in
    record {
      long = λ h. ltb-false _ _ (and_false _ _ a.0 (le-leb 2 (length l) h));
      version = λ h. eqb-true _ _ (not-false _ (and_false _ _ b.0 (le-leb 3 (length l) h)));
      class = λ h. ltb-false _ _ (and_false _ _ b.1 (le-leb 4 (length l) h));
    }

-- one of them is wrong
pub data Unsound (l : List ℕ) : Type 0 where
  length_low : 2 ≤ length l → be2 l 0 < 3 → Unsound l
  version_other : 3 ≤ length l → (get_or l 2 0 ≡ 1 → ⊥) → Unsound l
  class_high : 4 ≤ length l → 1 < get_or l 3 0 → Unsound l

unsound_second : (l : List ℕ) → ((leb 3 (length l) && not (eqb (get_or l 2 0) 1)) ≡ true) ⊎ ((leb 4 (length l) && ltb 1 (get_or l 3 0)) ≡ true) → Unsound l
unsound_second l (inl h) =
    version_other (leb-true 3 (length l) (and_left (leb 3 (length l)) _ h))
    (eqb-false (get_or l 2 0) 1 (not-true (eqb (get_or l 2 0) 1) (and_right (leb 3 (length l)) _ h)))
unsound_second l (inr h) = class_high (leb-true 4 (length l) (and_left (leb 4 (length l)) _ h)) (ltb-true 1 (get_or l 3 0) (and_right (leb 4 (length l)) _ h))

unsound_first : (l : List ℕ) → ((leb 2 (length l) && ltb (be2 l 0) 3) ≡ true)
    ⊎ (((leb 3 (length l) && not (eqb (get_or l 2 0) 1)) || (leb 4 (length l) && ltb 1 (get_or l 3 0))) ≡ true) → Unsound l
unsound_first l (inl h) = length_low (leb-true 2 (length l) (and_left (leb 2 (length l)) _ h)) (ltb-true (be2 l 0) 3 (and_right (leb 2 (length l)) _ h))
unsound_first l (inr h) = unsound_second l (or_split _ _ h)

pub unsound_of : (l : List ℕ) → malformed l ≡ true → Unsound l
unfolding malformed
unsound_of l e = unsound_first l (or_split _ _ e)

-- ---- the cases

pub data Front (l : List ℕ) : Response (Option Found) → Type 0 where
  empty : length l ≡ 0 → Front l (gives none)
  bad : Unsound l → Front l (turned_down 22)
  short : 0 < length l → Sound l → length l < 2 + be2 l 0 ⊎ length l < 2 → Front l (turned_down 23)
  one : Begins l → Front l (gives (some (found_at l)))

pub begins_of : (l : List ℕ) → Sound l → cut l ≡ false → Begins l
unfolding cut
begins_of l S e =
    let a = or_false (ltb (length l) 2) _ e in
    let b : 2 ≤ length l = ltb-false _ _ a.0 in
    let w : 2 + be2 l 0 ≤ length l = ltb-false _ _ a.1 in
    let h = S.long b in
    record { long = h; version = S.version (omega arith); class = S.class (omega arith); whole = w }

cut_of : (l : List ℕ) → cut l ≡ true → length l < 2 + be2 l 0 ⊎ length l < 2
unfolding cut
cut_of l e = go (or_split _ _ e)
  where
    go : (ltb (length l) 2 ≡ true) ⊎ (ltb (length l) (2 + be2 l 0) ≡ true) → length l < 2 + be2 l 0 ⊎ length l < 2
    go (inl h) = inr (ltb-true _ _ h)
    go (inr h) = inl (ltb-true _ _ h)

pub front : (l : List ℕ) → Front l (reading_of l)
unfolding reading_of pick
front l = first (eqb (length l) 0) refl
  where
    third : 0 < length l → Sound l → (b : Bool) → cut l ≡ b → Front l (pick b (turned_down 23) (gives (some (found_at l))))
    third h S true e = short h S (cut_of l e)
    third h S false e = one (begins_of l S e)

    second : 0 < length l → (b : Bool) → malformed l ≡ b
        → Front l (pick b (turned_down 22) (pick (cut l) (turned_down 23) (gives (some (found_at l)))))
    second h true e = bad (unsound_of l e)
    second h false e = third h (sound_of l e) (cut l) refl

    first : (b : Bool) → eqb (length l) 0 ≡ b
        → Front l (pick b (gives none) (pick (malformed l) (turned_down 22) (pick (cut l) (turned_down 23) (gives (some (found_at l))))))
    first true e = empty (eqb-true _ _ e)
    first false e = let n : length l ≡ 0 → ⊥ = eqb-false (length l) 0 e in second (omega arith) (malformed l) refl

-- what is read from a list that begins with an entry
pub reading_begins : (l : List ℕ) → Begins l → reading_of l ≡ gives (some (found_at l))
unfolding reading_of malformed cut pick
reading_begins l B =
    let w = B.whole in
    let g = B.long in
    let h₀ : length l ≡ 0 → ⊥ = λ z. omega arith in
    let h₂ : 2 ≤ length l = omega arith in
    let h₃ : 3 ≤ length l = omega arith in
    let h₄ : 4 ≤ length l = omega arith in
    rw (ne_eqb _ _ h₀, le-leb 2 _ h₂, le-leb 3 _ h₃, le-leb 4 _ h₄, le-ltb _ 3 g, eq-eqb _ 1 B.version, le-ltb 1 _ B.class, le-ltb _ 2 h₂, le-ltb _ _ w)

-- ---- the code's tests; x is the length that is read

module _ (l : List ℕ) where
  pub no_length : length l < 2 → false ≡ malformed l
  unfolding malformed
  no_length h =
      let h₃ : length l < 3 = omega arith in
      let h₄ : length l < 4 = omega arith in
      rw (lt-leb 2 _ h, lt-leb 3 _ h₃, lt-leb 4 _ h₄)

  module _ (x : ℕ) (e : x ≡ be2 l 0) (h₂ : 2 ≤ length l) where
    pub low_length : x < 3 → true ≡ malformed l
    unfolding malformed
    low_length h = let g : be2 l 0 < 3 = omega arith in rw (le-leb 2 _ h₂, lt-ltb _ 3 g)

    module _ (long : 3 ≤ x) where
      pub no_version : length l < 3 → false ≡ malformed l
      unfolding malformed
      no_version h =
          let g : 3 ≤ be2 l 0 = omega arith in
          let h₄ : length l < 4 = omega arith in
          rw (le-leb 2 _ h₂, le-ltb _ 3 g, lt-leb 3 _ h, lt-leb 4 _ h₄)

      module _ (h₃ : 3 ≤ length l) where
        pub other_version : (get_or l 2 0 ≡ 1 → ⊥) → true ≡ malformed l
        unfolding malformed
        other_version v = let g : 3 ≤ be2 l 0 = omega arith in rw (le-leb 2 _ h₂, le-ltb _ 3 g, le-leb 3 _ h₃, ne_eqb _ 1 v)

        module _ (v : get_or l 2 0 ≡ 1) where
          pub no_class : length l < 4 → false ≡ malformed l
          unfolding malformed
          no_class h = let g : 3 ≤ be2 l 0 = omega arith in rw (le-leb 2 _ h₂, le-ltb _ 3 g, le-leb 3 _ h₃, eq-eqb _ 1 v, lt-leb 4 _ h)

          pub some_class : 4 ≤ length l → ltb 1 (get_or l 3 0) ≡ malformed l
          unfolding malformed
          some_class h = let g : 3 ≤ be2 l 0 = omega arith in rw (le-leb 2 _ h₂, le-ltb _ 3 g, le-leb 3 _ h₃, eq-eqb _ 1 v, le-leb 4 _ h)

    pub cut_by : ltb (length l) (2 + x) ≡ cut l
    unfolding cut
    cut_by = rw (le-ltb _ 2 h₂, e)

  pub cut_early : length l < 2 → true ≡ cut l
  unfolding cut
  cut_early h = rw (lt-ltb _ 2 h)

-- ---- and its readings

module _ (l : List ℕ) where
  pub whole_read : length l ≡ 0 → reading_response (Err C.Whole) ≡ reading_of l
  unfolding reading_of pick
  whole_read h = rw (eq-eqb _ 0 h)

  module _ (filled : length l ≡ 0 → ⊥) where
    pub malformed_read : malformed l ≡ true → reading_response (Err C.Malformed) ≡ reading_of l
    unfolding reading_of pick
    malformed_read e = rw (ne_eqb _ 0 filled, e)

    pub cut_read : malformed l ≡ false → cut l ≡ true → reading_response (Err C.Cut) ≡ reading_of l
    unfolding reading_of pick
    cut_read e f = rw (ne_eqb _ 0 filled, e, f)

  pub entry_read : (p : Party) (x : ℕ) → Begins l → p ≡ party_in (get_or l 3 0) (get_or l 4 0) → x ≡ be2 l 0
      → reading_response (Ok (record { sender = p; end = 2 + x })) ≡ reading_of l
  entry_read p x B e f = ap₂ (λ q y. gives (some (record { sender = q; end = 2 + y }))) e f ∙ sym (reading_begins l B)
