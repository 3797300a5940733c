-- What a client's call answers, in the papers' words: the number, or how its operation goes on. These are definitions.
use Rattle.std.specs.Prelude.{ℕ}
use Rattle.area.specs.Responses.{Response, turned_down, gives}
use Rattle.frame.specs.declared.Stamp.{Stamp}
use Rattle.frame.specs.Refusals.{number_of}
use Rattle.client_rules.specs.declared.Answer.{Answer}
use Rattle.client_rules.specs.declared.Answer.TheVariants as Y

pub data Progress : Type 0 where
  -- this many frames were sent, and nothing has ended
  goes_on : ℕ → Progress
  -- "At n - t acks it has ended"; "closes the write as out of stamps"
  write_ends write_closes : Progress
  -- the read is completed, "its stamp is where its search stopped"; request F-7: it "reports the disagreement"
  read_gives : Stamp → Progress
  read_disagrees : Progress

abbrev pub answer_response : Answer → Response Progress
answer_response (Y.Sent m) = gives (goes_on m)
answer_response Y.Written = gives write_ends
answer_response Y.OutOfStamps = gives write_closes
answer_response (Y.Value x) = gives (read_gives x)
answer_response Y.Disagreement = gives read_disagrees
answer_response (Y.Refused r) = turned_down (number_of r)
