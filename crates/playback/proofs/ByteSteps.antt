-- A step on the record's bytes is the step of the server that the bytes say; the same of making a fresh server. Assumes nothing.
use Rattle.frame.specs.Refusals.{Verdict, fine}
use Prim.Native.Nat.{ℕ, ◌≤◌}
use native.Mathlib.Omega.{arith}
use mathlib.Core.Path.{◌≡◌, refl, sym, ap, ◌∙◌}
use mathlib.Core.Bool.{false}
use mathlib.Core.List.{List}
use lib.ListN.{length, get_or}
use lib.Seq.{sets}
use Rattle.area.specs.Area.{Bytes}
use Rattle.area.specs.Responses.{Response, is_turned_down}
use Rattle.sha256.specs.Hash.{digest_of}
use Rattle.blocks.specs.declared.Params.{Params}
use Rattle.frame.specs.declared.Party.{Party}
use Rattle.frame.specs.Frames.{client_at}
use Rattle.server_rules.specs.declared.Server.{Server}
use Rattle.server_rules.specs.State.{fresh_server}
use Rattle.server_rules.specs.Delivery as SD
use Rattle.layout.specs.Servers.{server_size, server_bytes, server_in}
use Rattle.layout.proofs.Lengths.{length_server}
use Rattle.layout.proofs.Stores.{sets_over}
use Rattle.server_deliver.specs.Records.{ByteOutcome, byte_outcome, outcome_at, byte_delivery, ByteConstructed, byte_constructed, constructed_at, byte_construction}
use Rattle.server_deliver.proofs.Records.{whole_record}
use Rattle.server_deliver.proofs.FreshRecords.{whole_made}
use Rattle.server_deliver.proofs.RecordBack.{record_back, record_stored, fresh_server_lem, made_is, made_back}

module _ (g : Params) (me : ℕ) (from : Party) (f area initial state out to : List ℕ) (long : server_size ≤ length state) (p : Bytes state) (q : Bytes f)
    (r : Response ℕ) (ar st o u : List ℕ) (e : byte_outcome r ar st o u ≡ byte_delivery digest_of g me from f area initial state out to) where
  says : server_in st ≡ (SD.delivery digest_of g me (server_in state) area initial from f out to).server
  says = ap (λ (z : ByteOutcome). server_in z.state) e ∙ record_back g me from f area initial state out to long p q

  pub step_outcome : ◌≡◌ {A = SD.Outcome} (record { reply = r; server = server_in st; area = ar; out = o; to = u })
      (SD.delivery digest_of g me (server_in state) area initial from f out to)
  unfolding outcome_at
  step_outcome =
      let d = e ∙ sym (whole_record g me from f area initial state out to long) in
      λ k. record { reply = (d k).reply; server = says k; area = (d k).area; out = (d k).out; to = (d k).to }

  -- if the bytes were l with the record stored at its front, they still are
  pub step_stored : (l : List ℕ) → state ≡ sets l 0 (server_bytes (server_in state)) → st ≡ sets l 0 (server_bytes (server_in st))
  step_stored l i =
      ap (λ (z : ByteOutcome). z.state) e
      ∙ record_stored g me from f area initial state out to long p q l i
      ∙ ap (λ (s : Server). sets l 0 (server_bytes s)) (sym says)

module _ (g : Params) (me : ℕ) (v area initial state : List ℕ) (long : server_size ≤ length state)
    (t : SD.construct_test digest_of g me v (length area) (length initial) ≡ fine) (r : Response ℕ) (ar i st : List ℕ)
    (e : byte_constructed r ar i st ≡ byte_construction digest_of g me v area initial state) where
  taken : is_turned_down (SD.construction digest_of g me v area initial).reply ≡ false
  unfolding SD.construction SD.construct_by is_turned_down
  taken = ap (λ (w : Verdict). is_turned_down (SD.construct_by digest_of g me w v area initial).reply) t

  is_fresh : server_in st ≡ fresh_server
  is_fresh = ap (λ (z : ByteConstructed). server_in z.state) e ∙ made_back g me v area initial state long taken

  pub fresh_outcome : ◌≡◌ {A = SD.Constructed} (record { reply = r; server = server_in st; area = ar; initial = i })
      (SD.construction digest_of g me v area initial)
  unfolding constructed_at
  fresh_outcome =
      let d = e ∙ sym (whole_made g me v area initial state long) in
      let s = is_fresh ∙ sym (fresh_server_lem g me v area initial) in
      λ k. record { reply = (d k).reply; server = s k; area = (d k).area; initial = (d k).initial }

  pub fresh_stored : st ≡ sets state 0 (server_bytes (server_in st))
  fresh_stored =
      ap (λ (z : ByteConstructed). z.state) e
      ∙ made_is g me v area initial state long taken
      ∙ ap (λ (s : Server). sets state 0 (server_bytes s)) (sym is_fresh)

  -- so storing the record again changes nothing
  pub fresh_again : st ≡ sets st 0 (server_bytes (server_in st))
  fresh_again =
      let x = server_bytes (server_in st) in
      fresh_stored ∙ sym (sets_over state 0 x 0 x (omega arith) (omega arith)) ∙ ap (λ (l : List ℕ). sets l 0 x) (sym fresh_stored)

-- all records have the same number of bytes
pub as_many : (s u : Server) → length (server_bytes s) ≤ length (server_bytes u)
as_many s u = omega (arith, length_server s, length_server u)
