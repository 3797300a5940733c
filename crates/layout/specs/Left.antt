-- What a host keeps of a party after a call. These are definitions.
use Rattle.std.specs.Prelude.{ℕ, List}
use Rattle.area.specs.Area.{pick}
use Rattle.area.specs.Responses.{Response, is_turned_down}

-- "state and all lent bytes remain unchanged" where the call was turned down
unfoldable pub left_by : {A : Type 0} → Response A → List ℕ → List ℕ → List ℕ
left_by a old new = pick (is_turned_down a) old new
