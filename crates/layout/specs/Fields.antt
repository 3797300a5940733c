-- What the records' layouts are made of: flags, numbers, stamps, and arrays of anything with a fixed number of bytes. An `..At l i` is what the bytes of l from
-- index i on say, whatever bytes they are; past the end of l every byte is 0. These are definitions.
use Rattle.std.specs.Prelude.{ℕ, ◌+◌, ◌*◌, Bool, false, not, List, [], ◌∷◌, get_or, eqb}
use Rattle.area.specs.Area.{pick, table, joined}
use Rattle.area.specs.Numbers.{be4, be8, bytes8}
use Rattle.frame.specs.declared.Stamp.{Stamp}

-- a flag is one byte: written as 1 or 0, and read as set exactly if the byte is not 0
unfoldable pub flag_byte : Bool → ℕ
flag_byte b = pick b 1 0

unfoldable pub flag_in : ℕ → Bool
flag_in x = not (eqb x 0)

unfoldable pub flag_at : List ℕ → ℕ → Bool
flag_at l i = flag_in (get_or l i 0)

-- a stamp is time, writer and sequence, of 8, 1 and 4 bytes, as in a frame (`stamp_bytes` of frame)
abbrev pub stamp_size : ℕ
stamp_size = 13

unfoldable pub stamp_at : List ℕ → ℕ → Stamp
stamp_at l i = record { time = be8 l i; writer = get_or l (i + 8) 0; sequence = be4 l (i + 9) }

-- the m elements of an array, each written by f, end to end; d is written for an element past the array's end
unfoldable pub row_bytes : {A : Type 0} → (A → List ℕ) → ℕ → A → List A → List ℕ
row_bytes f m d xs = joined (λ j. f (get_or xs j d)) 0 m

-- an array of m elements of w bytes, each read by f
unfoldable pub row_at : {A : Type 0} → (List ℕ → ℕ → A) → ℕ → ℕ → List ℕ → ℕ → List A
row_at f m w l i = table m (λ j. f l (i + j * w))

-- a flag for each server, and a number of 8 bytes for each
unfoldable pub flags_bytes : List Bool → List ℕ
flags_bytes xs = row_bytes (λ b. flag_byte b ∷ []) 11 false xs

unfoldable pub flags_at : List ℕ → ℕ → List Bool
flags_at l i = row_at flag_at 11 1 l i

unfoldable pub numbers_bytes : List ℕ → List ℕ
numbers_bytes xs = row_bytes bytes8 11 0 xs

unfoldable pub numbers_at : List ℕ → ℕ → List ℕ
numbers_at l i = row_at be8 11 8 l i
