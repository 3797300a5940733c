-- What a client's answer says gives the answer back, so that no two say the same. Assumes nothing.
use mathlib.Core.Path.{◌≡◌, refl, ap}
use Rattle.area.specs.Responses.{Response, turned_down, gives}
use Rattle.frame.specs.Refusals.{refusal}
use Rattle.frame.proofs.Responses.{one_each}
use Rattle.client_rules.specs.declared.Answer.{Answer}
use Rattle.client_rules.specs.declared.Answer.TheVariants as Y
use Rattle.client_rules.specs.Answers.{Progress, goes_on, write_ends, write_closes, read_gives, read_disagrees, answer_response}

abbrev answer_in : Response Progress → Answer
answer_in (gives (goes_on m)) = Y.Sent m
answer_in (gives write_ends) = Y.Written
answer_in (gives write_closes) = Y.OutOfStamps
answer_in (gives (read_gives x)) = Y.Value x
answer_in (gives read_disagrees) = Y.Disagreement
answer_in (turned_down n) = Y.Refused (refusal n)

pub answer_back : (a : Answer) → answer_in (answer_response a) ≡ a
answer_back (Y.Sent m) = refl
answer_back Y.Written = refl
answer_back Y.OutOfStamps = refl
answer_back (Y.Value x) = refl
answer_back Y.Disagreement = refl
answer_back (Y.Refused r) = ap Y.Refused (one_each r)
