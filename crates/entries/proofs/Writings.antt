-- An entry as it is written. Assumes nothing.
use Prim.Native.Nat.{ℕ, ◌+◌, ◌-◌, ◌/◌, ◌%◌, ◌≤◌, ◌<◌}
use native.Mathlib.Omega.{arith}
use mathlib.Core.Path.{◌≡◌, refl, ap, ◌∙◌}
use mathlib.Core.List.{List, [], ◌∷◌, ◌++◌}
use lib.ListN.{length, get_or}
use lib.Seq.{sets}
use borrow.Author.Tests.{lt-ltb, le-ltb}
use Rattle.area.specs.Area.{pick}
use Rattle.area.specs.Responses.{turned_down, gives}
use Rattle.area.specs.Numbers.{bytes2}
use Rattle.area.proofs.Sets.{sets_next}
use Rattle.frame.specs.declared.Party.{Party}
use Rattle.frame.specs.declared.Party.TheVariants as P
use Rattle.frame.specs.Outbox.{party_bytes}
use Rattle.entries.specs.Entries.{lead_bytes, entry_bytes}
use Rattle.entries.specs.Writing.{longest, written, writing}

pub length_lead : (n : ℕ) (p : Party) → length (lead_bytes n p) ≡ 5
unfolding lead_bytes bytes2 party_bytes
length_lead n (P.Client c) = refl
length_lead n (P.Server j) = refl

pub lead_of : (n : ℕ) (p : Party) (b : List ℕ) → b ≡ party_bytes p → (n / 256 % 256 ∷ n % 256 ∷ 1 ∷ get_or b 0 0 ∷ get_or b 1 0 ∷ []) ≡ lead_bytes n p
unfolding lead_bytes bytes2 party_bytes
lead_of n (P.Client c) b e = ap (λ z. n / 256 % 256 ∷ n % 256 ∷ 1 ∷ get_or z 0 0 ∷ get_or z 1 0 ∷ []) e
lead_of n (P.Server j) b e = ap (λ z. n / 256 % 256 ∷ n % 256 ∷ 1 ∷ get_or z 0 0 ∷ get_or z 1 0 ∷ []) e

module _ (p : Party) (f out : List ℕ) where
  pub too_long_lem : longest < length f → written (turned_down 3) out ≡ writing p f out
  unfolding writing pick
  too_long_lem h = rw (lt-ltb _ _ h)

  pub too_short : length f ≤ longest → length out < 5 + length f → written (turned_down 10) out ≡ writing p f out
  unfolding writing pick
  too_short h g = rw (le-ltb _ _ h, lt-ltb _ _ g)

  pub entry_put : (lead out₁ out₂ : List ℕ) → length f ≤ longest → 5 + length f ≤ length out → lead ≡ lead_bytes (5 + length f - 2) p
      → out₁ ≡ sets out 0 lead → out₂ ≡ sets out₁ 5 f → written (gives (5 + length f)) out₂ ≡ writing p f out
  unfolding writing entry_bytes pick
  entry_put lead out₁ out₂ h g e a b =
      let n : 5 + length f - 2 ≡ 3 + length f = omega arith in
      let l : lead ≡ lead_bytes (3 + length f) p = e ∙ ap (λ k. lead_bytes k p) n in
      let o : out₂ ≡ sets out 0 (lead_bytes (3 + length f) p ++ f) =
      b ∙ ap (λ m. sets m 5 f) (a ∙ ap (sets out 0) l) ∙ sets_next out 0 (lead_bytes (3 + length f) p) f 5 (length_lead (3 + length f) p) in
      rw (le-ltb _ _ h, le-ltb _ _ g) (ap (written (gives (5 + length f))) o)
