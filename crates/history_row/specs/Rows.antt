-- Operations added one after the other to a history by value. Assumes nothing: these are definitions.
use Rattle.std.specs.Prelude.{◌+◌, List, [], ◌∷◌, leb, ltb, set, take, replicate}
use Rattle.area.specs.Area.{pick}
use Rattle.order.specs.Histories.{no_operation, Judgement, refused, judged}
use Rattle.order.specs.declared.operation.Operation.{Operation}
use Rattle.history_row.specs.declared.History.{History}

-- the history without operations
unfoldable pub none : History
none = record { rows = replicate 64 no_operation; count = 0 }

-- one more operation; 65 means more than 64
unfoldable pub added : History → Operation → History
added h a = pick (leb 64 h.count) (record { rows = h.rows; count = 65 }) (record { rows = set h.rows h.count a; count = h.count + 1 })

unfoldable pub added_all : History → List Operation → History
added_all h [] = h
added_all h (a ∷ ops) = added_all (added h a) ops

-- the answer for a history by value
unfoldable pub verdict_of : History → Judgement
verdict_of h = pick (ltb 64 h.count) (refused 18) (judged (take h.count h.rows))
