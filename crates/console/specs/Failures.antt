-- Which of the failures a function can answer with. These are definitions.
use Rattle.std.specs.Prelude.{Bool, true, false, IsTrue}
use Rattle.console.specs.declared.failure.Failure.{Failure}
use Rattle.console.specs.declared.failure.Failure.TheVariants.{Reading, Writing}

unfoldable pub is_reading : Failure → Bool
is_reading (Reading e) = true
is_reading (Writing e) = false

-- the input could not be read
abbrev pub IsReading : Failure → Type 0
IsReading x = IsTrue (is_reading x)

unfoldable pub is_writing : Failure → Bool
is_writing (Reading e) = false
is_writing (Writing e) = true

-- the output could not be written
abbrev pub IsWriting : Failure → Type 0
IsWriting x = IsTrue (is_writing x)
