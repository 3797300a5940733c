-- Request F-9: "Prove that, from fresh starts with at most t false servers, the times of all writes that took effect, with 0, have no gap." These are
-- definitions.
use Rattle.std.specs.Prelude.{ℕ, zero, suc, ◌≤◌, ◌≡◌, ◌⊎◌}
use mathlib.Core.List.{List, [], ◌∷◌, map, Memᴰ}
use Rattle.server_rules.specs.Steps.{Write, stamp_of}
use Rattle.runs.specs.World.{Setup, Sound, DigestSize, Call}
use Rattle.runs.specs.Admissible.{Admissible}
use Rattle.runs.specs.Events.{At, Accepts}

-- an honest server accepted a write whose stamp has the time T
abbrev pub TookEffect : Setup → List Call → ℕ → Type 0
TookEffect Z ks T = (i : ℕ) × (x : Write) × (p : ℕ) × At (Accepts Z i x) ks p × ((stamp_of x).time ≡ T)

-- a time up to that of a write that took effect is 0, or that of another
unfoldable pub GaplessTimes : Type 0
GaplessTimes = (Z : Setup) → Sound Z → DigestSize Z.H → (ks : List Call) → Admissible Z ks
    → (T U : ℕ) → TookEffect Z ks T → U ≤ T → (U ≡ 0) ⊎ TookEffect Z ks U

-- T, T - 1, .. 1
unfoldable pub down_from : ℕ → List ℕ
down_from zero = []
down_from (suc T) = suc T ∷ down_from T

-- Its consequence: the largest time is at most the number of writes that took effect. Where one of the time T did, T writes did, one of each time T to 1.
unfoldable pub TimesCounted : Type 0
TimesCounted = (Z : Setup) → Sound Z → DigestSize Z.H → (ks : List Call) → Admissible Z ks → (T : ℕ) → TookEffect Z ks T
    → (xs : List Write) × (map (λ x. (stamp_of x).time) xs ≡ down_from T)
    × ((x : Write) → Memᴰ x xs → (i : ℕ) × (p : ℕ) × At (Accepts Z i x) ks p)
