-- The code's test for frames that carry a time. Nothing here has to be believed: proofs/FrameLaws.antt shows that it says the same as `time_of` of
-- Frames.antt.
use Rattle.std.specs.Prelude.{ℕ, Bool, ◌||◌, ◌&&◌, eqb, leb}

unfoldable pub carries_time : ℕ → Bool
carries_time kind = eqb kind 11 || (eqb kind 13 || (leb 2 kind && leb kind 5))
