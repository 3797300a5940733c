-- The run of WriteRead.antt, computed: it is admissible, the write is accepted and ends, and the read returns it. Assumes nothing.
use Rattle.frame.specs.Refusals.{fine}
use Prim.Native.Nat.{◌+◌}
use mathlib.Core.Bool.{true, false}
use mathlib.Core.Path.{◌≡◌, refl}
use mathlib.Core.Logic.{inl, inr}
use mathlib.Core.List.Memᴰ
use mathlib.Core.List.{[], ◌∷◌}
use native.Mathlib.Omega.{arith}
use Rattle.frame.specs.Params.{client_frames, out_room, to_room, Bounded}
use Rattle.frame.specs.Messages.{ready}
use Rattle.client_rules.specs.Steps.{written, stopped}
use Rattle.runs.specs.Admissible.{Admissible}
use Rattle.runs.specs.Events.{At, Accepts, CompletesRead, EndsWrite, OpensRead, OpensWrite}
use Rattle.runs.specs.Demand.{Theorem, Demand3, Stands}
use Rattle.runs.proofs.Theorem.{theorem}
use Rattle.quorum.specs.Quorum as QuQuorum
use Rattle.area.specs.Area as ArArea
use Rattle.area.specs.Numbers as ArNumbers
use Rattle.field.specs.Field as FiField
use Rattle.field.specs.Field.{◌⊕◌}
use Rattle.field.specs.Field.{◌⊗◌}
use Rattle.blocks.specs.Code as BlCode
use Rattle.blocks.specs.Params as BlParams
use Rattle.blocks.specs.Poly as BlPoly
use Rattle.group_rules.specs.Coded as FrCoded
use Rattle.group_rules.specs.Vouching as GrVouching
use Rattle.frame.specs.Frames as FrFrames
use Rattle.frame.specs.Messages as FrMessages
use Rattle.frame.specs.Params as FrParams
use Rattle.frame.specs.Stamps as FrStamps
use Rattle.server_rules.specs.Broadcast as SeBroadcast
use Rattle.server_rules.specs.Rules as SeRules
use Rattle.server_rules.specs.State as SeState
use Rattle.server_rules.specs.Steps as SeSteps
use Rattle.server_rules.specs.Tests as SeTests
use Rattle.client_rules.specs.Beginning as CB
use Rattle.client_rules.specs.Rows as ClRows
use Rattle.client_rules.specs.State as ClState
use Rattle.client_rules.specs.Steps as ClSteps
use Rattle.client_rules.specs.Tests as ClTests
use Rattle.runs.specs.World.{Sound}
use Rattle.witness.specs.Toy as Toy
use Rattle.witness.specs.WriteRead.{g, initial, value, Z, entry_for, stamp, stamp_asked, stamp_from, block_to, block, ack_from, read_asked}
use Rattle.witness.specs.WriteRead.{value_from, asking, spread, accepting, reading, calls, write_at, found, write, read, Shown}
use Rattle.witness.proofs.Setups as Setups
use Rattle.witness.proofs.Served as Served
use Rattle.witness.proofs.Asked as Asked
use Rattle.witness.proofs.Images.{same_party, among_sends, was_sent, all_bytes, is_frame, honest, proper_frame, proper_call, advance, image, accepted_in, end_in}
use Rattle.witness.proofs.Depicted.{Exact, admissible_by, accepts_by, stops_by, ends_by, opens_read_by, opens_write_by, at_drop}

-- ---- the setup

bounded : Bounded g
unfolding g
bounded = Setups.bounded 2 3 (omega arith) (omega arith) (omega arith) (omega arith)

exact : Exact Z
unfolding Z
exact = Setups.exact Toy.toy g initial 4 (λ c. false) bounded

sound : Sound Z
unfolding Z g Toy.four initial QuQuorum.count
sound = Setups.sound Toy.toy g initial 4 (λ c. false) bounded
    (record { many = omega arith; few = omega arith }) refl (omega arith, (omega arith, (omega arith, tt)))

-- ---- the run, computed

record Computed : Type 0 where
  -- all calls are proper
  pub proper : (image Z calls).proper ≡ true
  -- server 2 accepts the write, it ends, and the read completes
  pub accepted : accepted_in Z (image Z spread) (block ready 2 2) ≡ write_at 2 ∷ []
  pub ended : end_in Z (image Z accepting) (ack_from 4) ≡ written
  pub completed_is : end_in Z (image Z reading) (value_from 4) ≡ stopped found
  -- the numbers of the operations
  pub write_number : ((image Z accepting).clients 1).client.writes ≡ 1
  pub read_number : ((image Z reading).clients 2).client.reads ≡ 1
  -- the write and the read can begin
  pub write_opens : (((image Z []).clients 1).client.writes + 1 ≡ 1)
      × (CB.write_test g 1 ((image Z []).clients 1).client value (Toy.zeros (out_room g (client_frames g))) (Toy.zeros (to_room (client_frames g))) ≡ fine)
  pub read_opens : (((image Z (ack_from 4 ∷ accepting)).clients 2).client.reads + 1 ≡ 1)
      × (CB.read_test g 2 ((image Z (ack_from 4 ∷ accepting)).clients 2).client (Toy.zeros (out_room g (client_frames g)))
      (Toy.zeros (to_room (client_frames g))) ≡ fine)

computed : Computed
unfolding Toy.toy Toy.zeros Toy.four Toy.setup Toy.hand_server Toy.hand_client Toy.start_read Toy.start_write g initial value Z entry_for stamp stamp_asked stamp_from
    block_to block ack_from read_asked value_from asking spread accepting reading calls write_at found Served.lowest_by Served.free_by Served.freed_by Served.settled_by
    Served.voted_by Served.block_by Served.body_by Served.served_by Served.judge_by Served.served Asked.searched_by Asked.kept_by Asked.body_by Asked.heard_by
    Asked.judge_by Asked.asked same_party among_sends was_sent all_bytes is_frame honest proper_frame proper_call advance image accepted_in end_in QuQuorum.count
    ArArea.pick ArArea.same
    ArArea.table_from ArArea.table ArArea.joined ArNumbers.be2 ArNumbers.be4 ArNumbers.be8 ArNumbers.bytes2 ArNumbers.bytes4 ArNumbers.bytes8 ◌⊕◌
    FiField.reduction FiField.xtime FiField.shift_add ◌⊗◌ FiField.power_of FiField.Powers FiField.Logs BlCode.block_length BlCode.padded BlCode.stripe
    BlCode.block_byte BlCode.block_of BlCode.encoded BlCode.row BlCode.value_of BlCode.blocks_of BlCode.candidate BlCode.agree BlCode.decoded_all BlParams.parties_fit
    BlParams.threshold_fits BlParams.length_fits BlPoly.eval BlPoly.plus BlPoly.scale BlPoly.with_root BlPoly.vanishing BlPoly.newton_step BlPoly.through
    FrCoded.pieces FrCoded.lowest_value FrCoded.agreeing FrCoded.decoded FrCoded.digests_of FrCoded.entry_of FrCoded.fits FrFrames.kind_of FrFrames.retired
    FrFrames.length_of FrFrames.body_length FrFrames.entry_bytes FrFrames.offer_bytes FrFrames.stamp_bytes FrFrames.body_bytes FrFrames.header_bytes FrFrames.frame_of
    FrFrames.build FrFrames.framing_test FrFrames.header_in FrFrames.header_test FrFrames.body_test FrFrames.stamp_in FrFrames.stamp_test FrFrames.content_test
    FrFrames.frame_test FrFrames.opened FrFrames.opened_under FrFrames.body_in FrFrames.message_in FrMessages.to_from FrMessages.to_all FrMessages.clients_from
    FrMessages.to_clients FrParams.width FrParams.quota
    FrParams.largest_frame FrParams.out_room FrParams.to_room FrParams.own_test FrParams.code_test FrParams.bounds_test FrParams.params_test FrStamps.older
    FrStamps.same_stamp FrStamps.parts_agree SeBroadcast.votes SeBroadcast.enough SeBroadcast.due SeBroadcast.full SeBroadcast.matters
    SeRules.at_time SeRules.chosen SeRules.regained SeRules.unanimous SeState.fresh_blocks SeState.fresh_slot SeState.fresh_reader SeState.fresh_server
    SeState.block_view SeState.present_block SeState.present_entry SeSteps.voted_block SeSteps.on_block SeSteps.tell_from SeSteps.reported SeSteps.accept
    SeSteps.vouched SeSteps.lowest SeSteps.ripe_by SeSteps.ripe
    SeSteps.free SeSteps.freed SeSteps.settle SeSteps.on_read SeSteps.on_read_complete SeSteps.on_body SeSteps.effect SeTests.room_test
    SeTests.sender_right SeTests.counted SeTests.open_test SeTests.read_test SeTests.done_test SeTests.report_test FrCoded.fit_test SeTests.order_test
    SeTests.message_test
    SeTests.judge_opened SeTests.judge CB.length_test CB.read_test CB.write_test CB.open_read CB.open_write CB.begin_by CB.read_begun
    CB.write_begun CB.begun_of CB.read_beginning CB.write_beginning ClRows.places_from ClRows.row_view ClRows.has_stamp ClRows.smallest ClRows.place_for
    ClRows.at_stamp ClRows.rows_from ClRows.agreed ClRows.first_by ClRows.first_agreed ClRows.found_of ClRows.found_by ClRows.search ClState.fresh_row
    ClState.fresh_client ClState.largest ClSteps.quorate ClSteps.send_below ClSteps.counted ClSteps.gathered ClSteps.largest_counted ClSteps.gather_by
    ClSteps.report_by ClSteps.on_report GrVouching.backed ClSteps.on_stamp ClSteps.end_by ClSteps.on_ack ClSteps.complete_by
    ClSteps.settle ClSteps.keep_by ClSteps.on_value ClSteps.on_body ClSteps.effect ClTests.send_room ClTests.room_test ClTests.value_test ClTests.answers
    ClTests.owner_right
    ClTests.awaited ClTests.order_test ClTests.message_test ClTests.judge_opened ClTests.judge
computed = record {
  proper = refl;
  accepted = refl;
  ended = refl;
  completed_is = refl;
  write_number = refl;
  read_number = refl;
  write_opens = (refl, refl);
  read_opens = (refl, refl);
}

-- ---- so

admissible : Admissible Z calls
admissible = admissible_by Z exact calls computed.proper

-- client 1, which is honest, begins its write 1 of the value
writes : At (OpensWrite Z 1 1 value) calls 0
unfolding asking spread accepting reading calls Z Toy.setup Toy.start_write
writes = at_drop (OpensWrite Z 1 1 value) 25 calls 0 (inl (refl, opens_write_by Z exact [] 1 1 value _ _ computed.write_opens.0 computed.write_opens.1))

-- server 2, which is honest, accepts client 1's write 1
accepts : At (Accepts Z 2 (write_at 2)) calls 13
unfolding asking spread accepting reading calls block Toy.hand_server
accepts = at_drop (Accepts Z 2 (write_at 2)) 12 calls 13
    (inl (refl, accepts_by Z exact spread (block ready 2 2) 2 (write_at 2) refl (rw computed.accepted (Memᴰ.head refl))))

-- the write ends
ends : At (EndsWrite Z 1 1) calls 19
unfolding asking spread accepting reading calls ack_from Toy.hand_client
ends = at_drop (EndsWrite Z 1 1) 6 calls 19 (inl (refl, ends_by Z exact accepting (ack_from 4) 1 1 refl computed.write_number computed.ended))

-- then client 2's read 1 begins
opens : At (OpensRead Z 2 1) calls 20
unfolding asking spread accepting reading calls Z Toy.setup Toy.start_read
opens = at_drop (OpensRead Z 2 1) 5 calls 20
    (inl (refl, opens_read_by Z exact (ack_from 4 ∷ accepting) 2 1 _ _ computed.read_opens.0 computed.read_opens.1))

-- and it returns what was written, with the write's stamp
completes : At (CompletesRead Z 2 1 found) calls 25
unfolding asking spread accepting reading calls value_from Toy.hand_client found
completes = inl (refl, (stops_by Z exact reading (value_from 4) 2 1 found refl computed.read_number computed.completed_is, (value, refl)))

-- ---- the row

in_order_lem : (D : Demand3 Z calls) → Stands D.row write read
unfolding write read write_at found stamp
in_order_lem D = D.in_time write read 19 20
    (D.all write (inr (refl, (2, write_at 2, 13, accepts, refl, refl, refl))))
    (D.all read (inl (refl, (found, 25, completes, refl))))
    (inr (refl, ends)) (inl (refl, opens)) (omega arith)

pub shown : Shown
shown = record {
  sound = sound;
  admissible = admissible;
  writes = writes;
  accepts = accepts;
  ends = ends;
  opens = opens;
  completes = completes;
  in_order_lem = in_order_lem;
}

-- so the theorem gives demand 3 of this run
pub demand : Demand3 Z calls
unfolding Theorem Z Toy.setup
demand = theorem Z sound Setups.toy_size calls admissible
