-- The whole outcome of each exported call: the answer, and every byte of the areas that the host lends. A record comes and goes as its bytes (crate layout).
-- These are definitions.
use Rattle.std.specs.Prelude.{ℕ, List, length, take, ltb}
use Rattle.std.proofs.lemmas.List.Edits.{sets}
use Rattle.area.specs.Area.{pick}
use Rattle.area.specs.Responses.{Response}
use Rattle.blocks.specs.declared.Params.{Params}
use Rattle.blocks.specs.Calls.{Outcome, encoding, decoding}
use Rattle.sha256.specs.Hash.{digest_of}
use Rattle.frame.specs.Stamps.{last_client}
use Rattle.client_rules.specs.declared.Client.{Client}
use Rattle.client_rules.specs.State.{fresh_client}
use Rattle.client_rules.specs.Answers.{Progress}
use Rattle.client_rules.specs.Beginning.{Begun, read_beginning, write_beginning}
use Rattle.history_text.specs.Lines.{answer_to}
use Rattle.order.specs.Histories.{Judgement}
use Rattle.layout.specs.Clients.{client_size, client_bytes, client_in}
use Rattle.layout.specs.Left.{left_by}
use Rattle.blocks.specs.Answers.{code_answer}
use Rattle.site.specs.Answers.{test_answer, client_answer}
use Rattle.order.specs.Answers.{line_count, history_answer}
use Rattle.site.specs.Short.{read_short, value_short}
pub use Rattle.host_facts.specs.Outcomes.{Wrote, wrote}

abbrev pub params : ℕ → ℕ → ℕ → ℕ → Params
params n t k L = record { n = n; t = t; k = k; size = L }

-- ---- calls that lend one area to be written

-- the digest of at most 256 bytes; refusal 3 for more; 10, "lent area short"
unfoldable pub digest_call : List ℕ → List ℕ → Wrote
digest_call m out = pick (ltb 256 (length m)) (wrote 3 out) (pick (ltb (length out) 32) (wrote 10 out) (wrote 0 (sets out 0 (digest_of m))))

unfoldable pub code_call : Outcome → Wrote
code_call x = wrote (code_answer x.answer) x.out

unfoldable pub encode_call : Params → List ℕ → List ℕ → Wrote
encode_call g value out = code_call (encoding g value out)

unfoldable pub decode_call : Params → List ℕ → List ℕ → List ℕ → Wrote
decode_call g numbers blocks out = code_call (decoding g numbers blocks out)

-- the line numbers of an order go to the front of the lent area; the bytes after them stay as lent
unfoldable pub judged_call : Judgement → List ℕ → Wrote
judged_call v lines = wrote (history_answer v.answer) (sets lines 0 (take (line_count v.answer) v.lines))

unfoldable pub history_call : List ℕ → List ℕ → Wrote
history_call text lines = pick (ltb (length lines) 64) (wrote 10 lines) (judged_call (answer_to text) lines)

-- ---- a client

-- a fresh client's record
unfoldable pub fresh_call : List ℕ → Wrote
fresh_call state = pick (ltb (length state) client_size) (wrote 10 state) (wrote 0 (sets state 0 (client_bytes fresh_client)))

pub record Began : Type 0 where
  pub answer : ℕ
  pub state : List ℕ
  pub out : List ℕ
  pub to : List ℕ

abbrev pub began : ℕ → List ℕ → List ℕ → List ℕ → Began
began x state out to = record { answer = x; state = state; out = out; to = to }

-- the record's bytes after a call: "state and all lent bytes remain unchanged" where it was turned down
unfoldable pub state_after : Response Progress → Client → List ℕ → List ℕ
state_after a s state = left_by a state (sets state 0 (client_bytes s))

unfoldable pub began_of : Params → Begun → List ℕ → Began
began_of g x state = began (client_answer g.n x.answer) (state_after x.answer x.client state) x.out x.to

unfoldable pub read_call : Params → ℕ → List ℕ → List ℕ → List ℕ → Began
read_call g me state out to =
    pick (ltb (length state) client_size) (began (test_answer (read_short g me)) state out to) (began_of g (read_beginning g me (client_in state) out to) state)

unfoldable pub write_call : Params → ℕ → List ℕ → List ℕ → List ℕ → List ℕ → Began
write_call g me value state out to =
    pick (ltb (length state) client_size) (began (test_answer (value_short g me last_client (length value))) state out to)
    (began_of g (write_beginning g me (client_in state) value out to) state)
