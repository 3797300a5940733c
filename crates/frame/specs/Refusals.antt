-- Refusals: document 01's number of each, "When a frame or call is turned down", and tests one after the other.
-- Assumes nothing: these are definitions.
use Rattle.std.specs.Prelude.{ℕ, List, [], ◌∷◌, Result, Ok, Err}
use Rattle.area.specs.Area.{numbered}
use Rattle.area.specs.Responses.{Response, turned_down, gives}
use Rattle.frame.specs.declared.Refusal.{Refusal}
use Rattle.frame.specs.declared.Refusal.TheVariants.{Parties, Threshold, Length, Framing, Version, Kind, Owner, Body, Content, Room}
use Rattle.frame.specs.declared.Refusal.TheVariants.{Sender, Stale, Ahead, Digest, Busy, Exhausted, Closed, Record, Unlisted}

-- document 01's number
abbrev pub number_of : Refusal → ℕ
-- n, t or own number out of bounds
number_of Parties = 1
-- k out of bounds
number_of Threshold = 2
-- L out of bounds, or value not L long
number_of Length = 3
-- under 9 bytes, or length field wrong
number_of Framing = 4
-- version not 1
number_of Version = 5
-- kind not 1 to 12
number_of Kind = 6
-- client not 1 to 8, or sequence 0
number_of Owner = 7
-- body length wrong for kind
number_of Body = 8
-- stamp parts mixed, writer above 8, or the blocks to decode not as they must be
number_of Content = 9
-- lent area short
number_of Room = 10
-- sender or receiver not the kind's or, where a client, not the owner
number_of Sender = 11
-- old, repeated or not awaited
number_of Stale = 12
-- above the open sequence; offer again
number_of Ahead = 13
-- block against its digest
number_of Digest = 14
-- an operation is open
number_of Busy = 15
-- sequences used up
number_of Exhausted = 16
-- a write by a client whose earlier write closed as out of stamps
number_of Closed = 17
-- history record malformed, write with a zero stamp part, a stamp written twice, over 64
number_of Record = 18
-- read of an unlisted stamp other than zero
number_of Unlisted = 19

-- all of them, in the order of the numbers
abbrev pub refusals : List Refusal
refusals =
    Parties ∷ Threshold ∷ Length ∷ Framing ∷ Version ∷ Kind ∷ Owner ∷ Body ∷ Content ∷ Room ∷ Sender ∷ Stale ∷ Ahead ∷ Digest ∷ Busy ∷ Exhausted ∷ Closed
    ∷ Record ∷ Unlisted ∷ []

-- the refusal with the number n (1 where none has it)
abbrev pub refusal : ℕ → Refusal
refusal n = numbered number_of Parties refusals n

-- what a test says: nothing against it, or the reason to turn it down
abbrev pub Verdict : Type 0
Verdict = Result (Unit {0}) Refusal

abbrev pub fine : Verdict
fine = Ok tt

-- turned down with number n
abbrev pub refused : ℕ → Verdict
refused n = Err (refusal n)

-- what a call answers by its tests: the number, or x
abbrev pub answered_by : {A : Type 0} → Verdict → A → Response A
answered_by (Ok _) x = gives x
answered_by (Err r) x = turned_down (number_of r)

-- two tests one after the other: the first refusal counts
abbrev pub and_then : Verdict → Verdict → Verdict
and_then (Ok _) b = b
and_then (Err r) b = Err r
