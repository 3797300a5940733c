-- No client has an own number above 8: the call answers 1, and every lent byte stays. Assumes nothing.
use Rattle.std.specs.Prelude.{Err}
use Prim.Native.Nat.{ℕ, ◌<◌}
use native.Mathlib.Omega.{arith}
use mathlib.Core.Path.{◌≡◌, refl, sym, ap, ◌∙◌}
use mathlib.Core.Bool.{Bool, true, false}
use mathlib.Core.List.{List}
use lib.ListN.{length, get_or}
use lib.Dec.{ltb}
use borrow.Author.Tests.{lt-ltb, le-ltb}
use Rattle.area.specs.Responses.{turned_down, is_turned_down}
use Rattle.area.specs.Area.{pick}
use Rattle.sha256.specs.Hash.{digest_of}
use Rattle.blocks.specs.declared.Params.{Params}
use Rattle.frame.specs.declared.Party.{Party}
use Rattle.frame.specs.declared.Refusal.TheVariants as R
use Rattle.frame.specs.Refusals.{and_then, Verdict, fine}
use Rattle.blocks.specs.Params.{parties_fit}
use Rattle.frame.specs.Params.{own_test, code_test, params_test}
use Rattle.frame.specs.Stamps.{last_client}
use Rattle.client_rules.specs.Tests.{value_test}
use Rattle.client_rules.specs.Beginning.{Begun, read_test, write_test, open_read, open_write, read_begun, write_begun, read_beginning, write_beginning}
use Rattle.client_rules.specs.Delivery.{Outcome, delivery}
use Rattle.client.proofs.Beginnings.{begin_refused}
use Rattle.client_deliver.proofs.Deliveries.{call_refused}
use Rattle.server_rules.proofs.Within.{either}
use Rattle.layout.specs.Clients.{client_size, client_in}
use Rattle.layout.specs.Left.{left_by}
use Rattle.site.specs.Answers.{test_answer, client_answer}
use Rattle.site.specs.Short.{read_short, value_short, frame_short, stamp_short}
use Rattle.semduoli.specs.Calls.{began, state_after, began_of, read_call, write_call}
use Rattle.semduoli.specs.Handed.{stamp_after, client_got, client_got_of, client_call}

-- ---- 1 is answered

own_out : (me most : ℕ) → most < me → own_test me most ≡ Err R.Parties
unfolding own_test pick
own_out me most h =
    ap (λ b. pick b (Err R.Parties) (pick (ltb most me) (Err R.Parties) fine)) (le-ltb me 1 (omega (arith, h)))
    ∙ ap (λ b. pick b (Err R.Parties) fine) (lt-ltb most me h)

module _ (g : Params) (me most : ℕ) where
  out_by : (b : Bool) → (b ≡ true → most < me) → pick b (and_then (own_test me most) (code_test g)) (Err R.Parties) ≡ Err R.Parties
  unfolding pick
  out_by true h = ap (λ v. and_then v (code_test g)) (own_out me most (h refl))
  out_by false h = refl

  params_out : (parties_fit g.n g.t ≡ true → most < me) → params_test g me most ≡ Err R.Parties
  unfolding params_test
  params_out h = out_by (parties_fit g.n g.t) h

module _ (g : Params) (me : ℕ) (h : last_client < me) where
  no_client : params_test g me last_client ≡ Err R.Parties
  no_client = params_out g me last_client (λ e. omega (arith, h))

-- a test of which the test of the parameters is the first part
stops : (p : Verdict) (v : Verdict) → p ≡ Err R.Parties → and_then p v ≡ Err R.Parties
stops p v e = ap (λ z. and_then z v) e

-- and its number
told : (p : Verdict) (v : Verdict) → p ≡ Err R.Parties → 1 ≡ test_answer (and_then p v)
unfolding test_answer
told p v e = sym (ap test_answer (stops p v e))

-- ---- a client

module _ (g : Params) (me : ℕ) (h : last_client < me) where
  module _ (state out to : List ℕ) where
    begins_none : (x : Begun) → ◌≡◌ {A = Begun} (record { answer = turned_down 1; client = client_in state; out = out; to = to }) x
        → began 1 state out to ≡ began_of g x state
    unfolding began_of client_answer state_after left_by is_turned_down pick
    begins_none x e = ap (λ z. began_of g z state) e

    pub read_none : began 1 state out to ≡ read_call g me state out to
    unfolding read_call read_short read_beginning read_begun read_test
    read_none =
        either (λ z. began 1 state out to ≡ z) (ltb (length state) client_size) _ _
        (ap (λ x. began x state out to) (told (params_test g me last_client) _ (no_client g me h)))
        (begins_none (read_beginning g me (client_in state) out to)
        (begin_refused g me (client_in state) (read_test g me (client_in state) out to) (open_read g me (client_in state)) out to (Err R.Parties)
        (sym (stops (params_test g me last_client) _ (no_client g me h))) R.Parties refl))

    pub write_none : (v : List ℕ) → began 1 state out to ≡ write_call g me v state out to
    unfolding write_call value_short write_beginning write_begun write_test
    write_none v =
        either (λ z. began 1 state out to ≡ z) (ltb (length state) client_size) _ _
        (ap (λ x. began x state out to) (told (params_test g me last_client) _ (no_client g me h)))
        (begins_none (write_beginning g me (client_in state) v out to)
        (begin_refused g me (client_in state) (write_test g me (client_in state) v out to) (open_write g me (client_in state)) out to (Err R.Parties)
        (sym (stops (params_test g me last_client) _ (no_client g me h))) R.Parties refl))

  module _ (from : Party) (value f rows result stamp state out to : List ℕ) where
    done_none : (x : Outcome)
        → ◌≡◌ {A = Outcome} (record { answer = turned_down 1; client = client_in state; area = rows; result = result; out = out; to = to }) x
        → client_got 1 rows result stamp state out to ≡ client_got_of g x stamp state
    unfolding client_got_of client_answer stamp_after state_after left_by is_turned_down pick
    done_none x e = ap (λ z. client_got_of g z stamp state) e

    pub client_none : client_got 1 rows result stamp state out to ≡ client_call g me from value f rows result stamp state out to
    unfolding client_call frame_short stamp_short
    client_none =
        let p = no_client g me h in
        either (λ z. client_got 1 rows result stamp state out to ≡ z) (ltb (length state) client_size) _ _
        (ap (λ x. client_got x rows result stamp state out to) (told (params_test g me last_client) _ p))
        (either (λ z. client_got 1 rows result stamp state out to ≡ z) _ _ _
        (ap (λ x. client_got x rows result stamp state out to) (told (params_test g me last_client) _ p))
        (done_none (delivery digest_of g me (client_in state) rows value from f result out to)
        (call_refused g me (client_in state) rows value from f result out to (Err R.Parties)
        (sym (stops (params_test g me last_client) (value_test g (client_in state).phase (length value)) p)) R.Parties refl)))
