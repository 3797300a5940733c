-- The whole outcome of a frame handed to a client by a host: the answer, and every byte of the areas that the host lends. These are definitions.
use Rattle.std.specs.Prelude.{ℕ, List, length, ltb}
use Rattle.std.proofs.lemmas.List.Edits.{sets}
use Rattle.area.specs.Area.{pick}
use Rattle.area.specs.Responses.{Response, turned_down, gives}
use Rattle.sha256.specs.Hash.{digest_of}
use Rattle.blocks.specs.declared.Params.{Params}
use Rattle.frame.specs.declared.Party.{Party}
use Rattle.frame.specs.declared.Party.TheVariants as P
use Rattle.frame.specs.Stamps.{last_client}
use Rattle.frame.specs.Frames.{stamp_bytes}
use Rattle.frame.specs.Outbox.{party_in}
use Rattle.client_rules.specs.Answers.{Progress, goes_on, write_ends, write_closes, read_gives, read_disagrees}
use Rattle.client_rules.specs.Delivery.{Outcome, delivery}
use Rattle.layout.specs.Fields.{stamp_size}
use Rattle.layout.specs.Clients.{client_size, client_in}
use Rattle.site.specs.Answers.{test_answer, client_answer}
use Rattle.site.specs.Short.{frame_short, stamp_short}
use Rattle.semduoli.specs.Calls.{state_after}

-- the sender as the host names it: class 0 is a client, class 1 a server. Client 255 is nobody: its frames are refused with 11.
abbrev pub nobody : Party
nobody = P.Client 255

unfoldable pub sender_of : ℕ → ℕ → Party
sender_of class j = pick (ltb 255 j) nobody (pick (ltb 1 class) nobody (party_in class j))

-- the stamp area after a call: a completed read's stamp, "where its search stopped", goes to its start
unfoldable pub stamp_after : Response Progress → List ℕ → List ℕ
stamp_after (gives (goes_on m)) l = l
stamp_after (gives write_ends) l = l
stamp_after (gives write_closes) l = l
stamp_after (gives (read_gives x)) l = sets l 0 (stamp_bytes x)
stamp_after (gives read_disagrees) l = l
stamp_after (turned_down n) l = l

pub record ClientGot : Type 0 where
  pub answer : ℕ
  pub rows : List ℕ
  pub result : List ℕ
  pub stamp : List ℕ
  pub state : List ℕ
  pub out : List ℕ
  pub to : List ℕ

abbrev pub client_got : ℕ → List ℕ → List ℕ → List ℕ → List ℕ → List ℕ → List ℕ → ClientGot
client_got x rows result stamp state out to = record { answer = x; rows = rows; result = result; stamp = stamp; state = state; out = out; to = to }

unfoldable pub client_got_of : Params → Outcome → List ℕ → List ℕ → ClientGot
client_got_of g x stamp state =
    client_got (client_answer g.n x.answer) x.area x.result (stamp_after x.answer stamp) (state_after x.answer x.client state) x.out x.to

unfoldable pub client_call : Params → ℕ → Party → List ℕ → List ℕ → List ℕ → List ℕ → List ℕ → List ℕ → List ℕ → List ℕ → ClientGot
client_call g me from value f rows result stamp state out to =
    pick (ltb (length state) client_size) (client_got (test_answer (frame_short g me last_client f)) rows result stamp state out to)
    (pick (ltb (length stamp) stamp_size) (client_got (test_answer (stamp_short g me (client_in state) (length value) f)) rows result stamp state out to)
    (client_got_of g (delivery digest_of g me (client_in state) rows value from f result out to) stamp state))
