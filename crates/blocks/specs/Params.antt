-- The parameters of a register and their bounds: document 01, "Partners and lots". Refusals have the numbers of its table "When a frame or call is turned
-- down". Assumes nothing: these are definitions.
use Rattle.std.specs.Prelude.{ℕ, ◌+◌, ◌*◌, ◌-◌, ◌≤◌, Bool, true, false, ◌&&◌, [], ◌∷◌, leb, ltb, Result, Ok, Err}
use Rattle.area.specs.Area.{numbered}
use Rattle.blocks.specs.declared.Params.{Params}
use Rattle.blocks.specs.declared.Fault.{Fault}
use Rattle.blocks.specs.declared.Fault.TheVariants.{Parties, Threshold, Length, Blocks, Room, Disagreement}

-- the number of a refusal
abbrev pub number_of : Fault → ℕ
number_of Parties = 1
number_of Threshold = 2
number_of Length = 3
number_of Blocks = 9
number_of Room = 10
number_of Disagreement = 21

-- the refusal with the number n (1 where none has it)
abbrev pub fault : ℕ → Fault
fault n = numbered number_of Parties (Parties ∷ Threshold ∷ Length ∷ Blocks ∷ Room ∷ Disagreement ∷ []) n

-- "n from 4 to 10; t is at least 1 with n > 3t"
unfoldable pub parties_fit : ℕ → ℕ → Bool
parties_fit n t = leb 4 n && leb n 10 && leb 1 t && ltb (3 * t) n

-- "k is 1 to n - 2t"
unfoldable pub threshold_fits : ℕ → ℕ → ℕ → Bool
threshold_fits n t k = leb 1 k && leb k (n - 2 * t)

-- "the fixed length L, 1 to 256 bytes"
unfoldable pub length_fits : ℕ → Bool
length_fits L = leb 1 L && leb L 256

-- what a call answers
abbrev pub Coded : Type 0
Coded = Result (Unit {0}) Fault

-- if the demand is not met, its refusal; else the outcome of the demands that follow
unfoldable pub demand : Bool → Fault → Coded → Coded
demand true f rest = rest
demand false f rest = Err f

-- if the first tests refuse, their outcome; else that of the second
unfoldable pub and_then : Coded → Coded → Coded
and_then (Ok x) rest = rest
and_then (Err f) rest = Err f

-- refusals 1, 2 and 3, lowest number first
unfoldable pub params_test : Params → Coded
params_test g =
    demand (parties_fit g.n g.t) (fault 1)
    (demand (threshold_fits g.n g.t g.k) (fault 2)
    (demand (length_fits g.size) (fault 3) (Ok tt)))

-- what refusals 1 to 3 let pass: "n from 4 to 10; t is at least 1 with n > 3t", "k is 1 to n - 2t", "L, 1 to 256 bytes"
pub record Bounded (g : Params) : Type 0 where
  pub servers_low : 4 ≤ g.n
  pub servers_high : g.n ≤ 10
  pub faults_low : 1 ≤ g.t
  pub faults_high : 3 * g.t + 1 ≤ g.n
  pub blocks_low : 1 ≤ g.k
  pub blocks_high : g.k + 2 * g.t ≤ g.n
  pub size_low : 1 ≤ g.size
  pub size_high : g.size ≤ 256
