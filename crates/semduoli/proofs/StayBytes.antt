-- Bytes stay bytes: if a record's area holds numbers below 256 before an exported call, it does afterwards. Assumes nothing.
use Prim.Native.Nat.{ℕ, zero, suc, ◌+◌, ◌*◌, ◌<◌}
use mathlib.Core.Path.{◌≡◌, refl, sym, subst}
use mathlib.Core.Bool.{Bool, true, false}
use mathlib.Core.List.{List, [], ◌∷◌}
use lib.ListN.{length, get_or, set}
use lib.Seq.{sets}
use lib.Dec.{ltb}
use Rattle.area.specs.Responses.{Response, is_turned_down}
use Rattle.area.specs.Area.{pick, Bytes}
use Rattle.sha256.specs.Hash.{digest_of}
use Rattle.blocks.specs.declared.Params.{Params}
use Rattle.frame.specs.declared.Party.{Party}
use Rattle.client_rules.specs.Answers.{Progress}
use Rattle.client_rules.specs.declared.Client.{Client}
use Rattle.client_rules.specs.State.{fresh_client}
use Rattle.client_rules.specs.Beginning.{Begun}
use Rattle.server_rules.proofs.Within.{either}
use Rattle.layout.specs.Fields.{stamp_size}
use Rattle.layout.specs.Clients.{client_size, client_bytes, client_in}
use Rattle.layout.specs.Typed.{TypedClient}
use Rattle.layout.proofs.TypedCalls.{typed_client_in, typed_client_fresh, typed_read, typed_write, typed_client_delivery}
use Rattle.layout.proofs.AreBytes.{client_bytes_lem}
use Rattle.server_deliver.proofs.RecordBack.{bytes_sets}
use Rattle.layout.specs.Left.{left_by}
use Rattle.semduoli.specs.Calls.{Wrote, wrote, fresh_call, Began, began, state_after, began_of, read_call, write_call}
use Rattle.semduoli.specs.Handed.{ClientGot, client_got, client_got_of, client_call}

-- ---- a client

module _ (a : Response Progress) (s : Client) (state : List ℕ) where
  after_bytes : TypedClient s → Bytes state → Bytes (state_after a s state)
  unfolding state_after left_by
  after_bytes t p = either Bytes (is_turned_down a) state _ p (bytes_sets state 0 (client_bytes s) p (client_bytes_lem s t))

pub fresh_bytes : (state : List ℕ) → Bytes state → Bytes (fresh_call state).out
unfolding fresh_call
fresh_bytes state p =
    either (λ (z : Wrote). Bytes z.out) (ltb (length state) client_size) (wrote 10 state) _ p
    (bytes_sets state 0 (client_bytes fresh_client) p (client_bytes_lem fresh_client typed_client_fresh))

module _ (g : Params) (me : ℕ) (state out to : List ℕ) (p : Bytes state) where
  begun_bytes : (b : Bool) (n : ℕ) (x : Begun) → TypedClient x.client → Bytes (pick b (began n state out to) (began_of g x state)).state
  unfolding began_of
  begun_bytes b n x t =
      either (λ (z : Began). Bytes z.state) b (began n state out to) (began_of g x state) p (after_bytes x.answer x.client state t p)

  pub read_bytes : Bytes (read_call g me state out to).state
  unfolding read_call
  read_bytes = begun_bytes (ltb (length state) client_size) _ _ (typed_read g me (client_in state) (typed_client_in state p) out to)

  pub write_bytes : (value : List ℕ) → Bytes (write_call g me value state out to).state
  unfolding write_call
  write_bytes value = begun_bytes (ltb (length state) client_size) _ _ (typed_write g me (client_in state) (typed_client_in state p) value out to)

module _ (g : Params) (me : ℕ) (from : Party) (value f rows result stamp state out to : List ℕ) (p : Bytes state) (q : Bytes f) where
  pub client_call_bytes : Bytes (client_call g me from value f rows result stamp state out to).state
  unfolding client_call client_got_of
  client_call_bytes =
      either (λ (z : ClientGot). Bytes z.state) (ltb (length state) client_size) (client_got _ rows result stamp state out to) _ p
      (either (λ (z : ClientGot). Bytes z.state) (ltb (length stamp) stamp_size) (client_got _ rows result stamp state out to) _ p
      (after_bytes _ _ state (typed_client_delivery digest_of g me (client_in state) (typed_client_in state p) rows value from f result out to q) p))
