-- The run of AllDelivered.antt, computed: it is admissible and finished, a write and a read begin and end in it, and up to the second ack it is not finished.
-- Assumes nothing.
use Rattle.frame.specs.Refusals.{fine}
use Prim.Native.Nat.{ℕ, ◌+◌, ◌≤◌}
use mathlib.Core.Bool.{true, false, ◌&&◌}
use mathlib.Core.Path.{◌≡◌, refl, ap, sym, ◌∙◌}
use mathlib.Core.Logic.{◌⊎◌, inl}
use mathlib.Core.List.{[], ◌∷◌}
use mathlib.Core.Option.{none, some}
use lib.ListN.{length, length-replicate}
use native.Mathlib.Omega.{arith}
use Rattle.quorum.proofs.Logic.{and_split}
use Rattle.frame.specs.declared.Party.TheVariants as P
use Rattle.frame.specs.Params.{server_frames, client_frames, out_room, to_room, Bounded}
use Rattle.frame.specs.Messages.{echo, ready}
use Rattle.frame.specs.Frames.{build}
use Rattle.client_rules.specs.declared.Phase.TheVariants as F
use Rattle.client_rules.specs.Steps.{written, stopped}
use Rattle.runs.specs.World.{Sound}
use Rattle.runs.specs.Admissible.{Sent, Admissible}
use Rattle.runs.specs.Events.{At, CompletesRead, EndsWrite, OpensRead, OpensWrite}
use Rattle.runs.specs.Blocks.{Collision}
use Rattle.served.specs.Finished.{Finished, Served, EverybodyServed}
use Rattle.served.proofs.Theorem.{everybody_served}
use Rattle.quorum.specs.Quorum as QuQuorum
use Rattle.area.specs.Area as ArArea
use Rattle.area.specs.Numbers as ArNumbers
use Rattle.field.specs.Field as FiField
use Rattle.field.specs.Field.{◌⊕◌}
use Rattle.field.specs.Field.{◌⊗◌}
use Rattle.blocks.specs.Code as BlCode
use Rattle.blocks.specs.Params as BlParams
use Rattle.blocks.specs.Poly as BlPoly
use Rattle.group_rules.specs.Coded as FrCoded
use Rattle.group_rules.specs.Vouching as GrVouching
use Rattle.frame.specs.Frames as FrFrames
use Rattle.frame.specs.Messages as FrMessages
use Rattle.frame.specs.Params as FrParams
use Rattle.frame.specs.Stamps as FrStamps
use Rattle.server_rules.specs.Broadcast as SeBroadcast
use Rattle.frame.specs.Chunks as FrChunks
use Rattle.server_rules.specs.Delivery as SeDelivery
use Rattle.runs.specs.World as RuWorld
use Rattle.server_rules.specs.Rules as SeRules
use Rattle.server_rules.specs.State as SeState
use Rattle.server_rules.specs.Steps as SeSteps
use Rattle.server_rules.specs.Tests as SeTests
use Rattle.client_rules.specs.Beginning as CB
use Rattle.client_rules.specs.Rows as ClRows
use Rattle.client_rules.specs.State as ClState
use Rattle.client_rules.specs.Steps as ClSteps
use Rattle.client_rules.specs.Tests as ClTests
use Rattle.witness.specs.Toy as Toy
use Rattle.witness.specs.Refusals.{Refuses}
use Rattle.witness.proofs.Setups as Setups
use Rattle.witness.proofs.Served as Deliveries
use Rattle.witness.proofs.Asked as Asked
use Rattle.witness.proofs.Images.{same_party, among_sends, was_sent, all_bytes, judged_bad, verdict_bad, is_frame}
use Rattle.witness.proofs.Images.{honest, proper_frame, proper_call, advance, image, refused_in, end_in}
use Rattle.witness.proofs.Depicted.{Exact, admissible_by, depicts, logged, sent_by_lem, honest_is, stops_by}
use Rattle.witness.proofs.Depicted.{ends_by, opens_read_by, opens_write_by, refuses_by, at_drop}
use lib.Dec.{leb}
use Rattle.quorum.proofs.Logic.{and_true}
use Rattle.served_witness.specs.AllDelivered.{g, initial, value, Z, stamp, entry_for, stamp_asked, stamp_from, block_to, saying}
use Rattle.served_witness.specs.AllDelivered.{block, no_room_hand, ack_from, read_asked, initial_from, value_from, read_ended, report_to, report_for}
use Rattle.served_witness.specs.AllDelivered.{asking, opening, echoing, waiting, accepted, told, ended as finished, calls, found, Shown}
use Rattle.served_witness.proofs.Traces.{is_hand, among_hands, hand_of, is_one, handed_in, is_from, speaks, is_final, idle}
use Rattle.served_witness.proofs.Traces.{with_hand, follow, trace, all_of, all_answered, all_idle, trace_seen, finished_by}
use Rattle.served_witness.proofs.Traces.{delivered_by, served_by_lem, never_handed, never_speaks, unfinished_by}

-- ---- the setup

bounded : Bounded g
unfolding g
bounded = Setups.bounded 2 2 (omega arith) (omega arith) (omega arith) (omega arith)

exact : Exact Z
unfolding Z
exact = Setups.exact Toy.toy g initial 4 (λ c. leb 3 c) bounded

sound : Sound Z
unfolding Z g Toy.four initial QuQuorum.count
sound = Setups.sound Toy.toy g initial 4 (λ c. leb 3 c) bounded
    (record { many = omega arith; few = omega arith }) refl (omega arith, (omega arith, tt))

-- ---- the run, computed

-- in two parts, each within the prover's bound of a computation
record Delivering : Type 0 where
  -- all calls are proper, every frame between honest parties is answered, and nobody has an operation open
  pub whole : ((trace Z calls).seen.proper && (all_answered Z (trace Z calls).seen.log (trace Z calls).closed && all_idle Z (trace Z calls).seen 8)) ≡ true
  -- nothing comes from server 4, and up to the second ack no ready of server 1 to server 3
  pub nothing_from : speaks calls (P.Server 4) ≡ false
  pub not_handed : handed_in waiting (P.Server 1) (P.Server 3) (build (saying ready 1)) ≡ false

record Computed : Type 0 where
  -- that ready was sent, and it would be taken, and client 1's write is open
  pub would : (was_sent (image Z waiting).log (P.Server 1) (P.Server 3) (build (saying ready 1)) ≡ true)
      × (refused_in Z (image Z waiting) (block ready 1 3) ≡ none)
      × (((image Z waiting).clients 1).client.phase ≡ F.Acking)
  -- the write and the read can begin
  pub write_opens : (((image Z []).clients 1).client.writes + 1 ≡ 1)
      × (CB.write_test g 1 ((image Z []).clients 1).client value (Toy.zeros (out_room g (client_frames g))) (Toy.zeros (to_room (client_frames g))) ≡ fine)
  pub read_opens : (((image Z asking).clients 2).client.reads + 1 ≡ 1)
      × (CB.read_test g 2 ((image Z asking).clients 2).client (Toy.zeros (out_room g (client_frames g))) (Toy.zeros (to_room (client_frames g))) ≡ fine)
  -- one frame finds no room
  pub no_room : refused_in Z (image Z (block echo 2 1 ∷ block echo 1 1 ∷ block_to 3 ∷ block_to 2 ∷ block_to 1 ∷ opening)) no_room_hand ≡ some 10
  -- they end
  pub ended : (((image Z accepted).clients 1).client.writes ≡ 1) × (end_in Z (image Z accepted) (ack_from 3) ≡ written)
  pub completed_is : (((image Z told).clients 2).client.reads ≡ 1) × (end_in Z (image Z told) (value_from 3) ≡ stopped found)

its_proper : (trace Z calls).seen.proper ≡ true
unfolding FrChunks.entry_at RuWorld.start SeDelivery.construct_by SeDelivery.construct_test SeDelivery.construction Toy.toy Toy.zeros Toy.four Toy.setup
    Toy.hand_server Toy.hand_client Toy.start_read Toy.start_write g initial value Z entry_for stamp stamp_asked stamp_from block_to saying block no_room_hand ack_from
    read_asked initial_from value_from read_ended report_to report_for asking opening echoing waiting accepted told finished calls found Deliveries.lowest_by
    Deliveries.free_by Deliveries.freed_by Deliveries.settled_by Deliveries.voted_by Deliveries.block_by Deliveries.body_by Deliveries.served_by Deliveries.judge_by
    Deliveries.served Asked.searched_by Asked.kept_by Asked.body_by Asked.heard_by Asked.judge_by Asked.asked same_party among_sends was_sent all_bytes judged_bad
    verdict_bad is_frame honest proper_frame proper_call advance image refused_in end_in is_hand among_hands hand_of is_one handed_in is_from speaks is_final idle with_hand
    follow trace all_of all_answered all_idle QuQuorum.count ArArea.pick ArArea.same ArArea.table_from ArArea.table ArArea.joined ArNumbers.be2 ArNumbers.be4
    ArNumbers.be8 ArNumbers.bytes2
    ArNumbers.bytes4 ArNumbers.bytes8 ◌⊕◌ FiField.reduction FiField.xtime FiField.shift_add ◌⊗◌ FiField.power_of FiField.Powers FiField.Logs BlCode.block_length
    BlCode.padded BlCode.stripe BlCode.block_byte BlCode.block_of BlCode.encoded BlCode.row BlCode.value_of BlCode.blocks_of BlCode.candidate BlCode.agree
    BlCode.decoded_all BlParams.parties_fit BlParams.threshold_fits BlParams.length_fits BlPoly.eval BlPoly.plus BlPoly.scale BlPoly.with_root BlPoly.vanishing
    BlPoly.newton_step BlPoly.through FrCoded.pieces FrCoded.lowest_value FrCoded.agreeing FrCoded.decoded FrCoded.digests_of FrCoded.entry_of FrCoded.fits
    FrFrames.kind_of FrFrames.retired FrFrames.length_of FrFrames.body_length FrFrames.entry_bytes FrFrames.offer_bytes FrFrames.stamp_bytes FrFrames.body_bytes
    FrFrames.header_bytes FrFrames.frame_of FrFrames.build FrFrames.framing_test FrFrames.header_in FrFrames.header_test FrFrames.body_test FrFrames.stamp_in
    FrFrames.stamp_test FrFrames.content_test FrFrames.frame_test FrFrames.opened FrFrames.opened_under FrFrames.body_in FrFrames.message_in FrMessages.to_from
    FrMessages.to_all FrMessages.clients_from FrMessages.to_clients FrParams.width FrParams.quota FrParams.largest_frame FrParams.out_room FrParams.to_room
    FrParams.own_test FrParams.code_test FrParams.bounds_test
    FrParams.params_test FrStamps.older FrStamps.same_stamp FrStamps.parts_agree SeBroadcast.votes SeBroadcast.enough SeBroadcast.due
    SeBroadcast.full SeBroadcast.matters SeRules.at_time SeRules.chosen SeRules.regained SeRules.unanimous SeState.fresh_blocks SeState.fresh_slot
    SeState.fresh_reader SeState.fresh_server SeState.block_view SeState.present_block SeState.present_entry SeSteps.voted_block SeSteps.on_block SeSteps.tell_from
    SeSteps.reported SeSteps.accept SeSteps.vouched SeSteps.lowest SeSteps.ripe_by SeSteps.ripe SeSteps.free SeSteps.freed SeSteps.settle SeSteps.on_read
    SeSteps.on_read_complete SeSteps.on_body
    SeSteps.effect SeTests.room_test SeTests.sender_right SeTests.counted SeTests.open_test SeTests.read_test SeTests.done_test SeTests.report_test FrCoded.fit_test
    SeTests.order_test
    SeTests.message_test SeTests.judge_opened SeTests.judge CB.length_test CB.read_test CB.write_test CB.open_read CB.open_write CB.begin_by
    CB.read_begun CB.write_begun CB.begun_of CB.read_beginning CB.write_beginning ClRows.places_from ClRows.row_view ClRows.has_stamp ClRows.smallest
    ClRows.place_for ClRows.at_stamp ClRows.rows_from ClRows.agreed ClRows.first_by ClRows.first_agreed ClRows.found_of ClRows.found_by ClRows.search ClState.fresh_row
    ClState.fresh_client ClState.largest ClSteps.quorate ClSteps.send_below ClSteps.counted ClSteps.gathered ClSteps.largest_counted ClSteps.gather_by
    ClSteps.report_by ClSteps.on_report GrVouching.backed ClSteps.on_stamp ClSteps.end_by ClSteps.on_ack ClSteps.complete_by
    ClSteps.settle ClSteps.keep_by ClSteps.on_value ClSteps.on_body ClSteps.effect ClTests.send_room ClTests.room_test ClTests.value_test ClTests.answers
    ClTests.owner_right
    ClTests.awaited ClTests.order_test ClTests.message_test ClTests.judge_opened ClTests.judge
its_proper = refl

its_answered : all_answered Z (trace Z calls).seen.log (trace Z calls).closed ≡ true
unfolding FrChunks.entry_at RuWorld.start SeDelivery.construct_by SeDelivery.construct_test SeDelivery.construction Toy.toy Toy.zeros Toy.four Toy.setup
    Toy.hand_server Toy.hand_client Toy.start_read Toy.start_write g initial value Z entry_for stamp stamp_asked stamp_from block_to saying block no_room_hand ack_from
    read_asked initial_from value_from read_ended report_to report_for asking opening echoing waiting accepted told finished calls found Deliveries.lowest_by
    Deliveries.free_by Deliveries.freed_by Deliveries.settled_by Deliveries.voted_by Deliveries.block_by Deliveries.body_by Deliveries.served_by Deliveries.judge_by
    Deliveries.served Asked.searched_by Asked.kept_by Asked.body_by Asked.heard_by Asked.judge_by Asked.asked same_party among_sends was_sent all_bytes judged_bad
    verdict_bad is_frame honest proper_frame proper_call advance image refused_in end_in is_hand among_hands hand_of is_one handed_in is_from speaks is_final idle with_hand
    follow trace all_of all_answered all_idle QuQuorum.count ArArea.pick ArArea.same ArArea.table_from ArArea.table ArArea.joined ArNumbers.be2 ArNumbers.be4
    ArNumbers.be8 ArNumbers.bytes2
    ArNumbers.bytes4 ArNumbers.bytes8 ◌⊕◌ FiField.reduction FiField.xtime FiField.shift_add ◌⊗◌ FiField.power_of FiField.Powers FiField.Logs BlCode.block_length
    BlCode.padded BlCode.stripe BlCode.block_byte BlCode.block_of BlCode.encoded BlCode.row BlCode.value_of BlCode.blocks_of BlCode.candidate BlCode.agree
    BlCode.decoded_all BlParams.parties_fit BlParams.threshold_fits BlParams.length_fits BlPoly.eval BlPoly.plus BlPoly.scale BlPoly.with_root BlPoly.vanishing
    BlPoly.newton_step BlPoly.through FrCoded.pieces FrCoded.lowest_value FrCoded.agreeing FrCoded.decoded FrCoded.digests_of FrCoded.entry_of FrCoded.fits
    FrFrames.kind_of FrFrames.retired FrFrames.length_of FrFrames.body_length FrFrames.entry_bytes FrFrames.offer_bytes FrFrames.stamp_bytes FrFrames.body_bytes
    FrFrames.header_bytes FrFrames.frame_of FrFrames.build FrFrames.framing_test FrFrames.header_in FrFrames.header_test FrFrames.body_test FrFrames.stamp_in
    FrFrames.stamp_test FrFrames.content_test FrFrames.frame_test FrFrames.opened FrFrames.opened_under FrFrames.body_in FrFrames.message_in FrMessages.to_from
    FrMessages.to_all FrMessages.clients_from FrMessages.to_clients FrParams.width FrParams.quota FrParams.largest_frame FrParams.out_room FrParams.to_room
    FrParams.own_test FrParams.code_test FrParams.bounds_test
    FrParams.params_test FrStamps.older FrStamps.same_stamp FrStamps.parts_agree SeBroadcast.votes SeBroadcast.enough SeBroadcast.due
    SeBroadcast.full SeBroadcast.matters SeRules.at_time SeRules.chosen SeRules.regained SeRules.unanimous SeState.fresh_blocks SeState.fresh_slot
    SeState.fresh_reader SeState.fresh_server SeState.block_view SeState.present_block SeState.present_entry SeSteps.voted_block SeSteps.on_block SeSteps.tell_from
    SeSteps.reported SeSteps.accept SeSteps.vouched SeSteps.lowest SeSteps.ripe_by SeSteps.ripe SeSteps.free SeSteps.freed SeSteps.settle SeSteps.on_read
    SeSteps.on_read_complete SeSteps.on_body
    SeSteps.effect SeTests.room_test SeTests.sender_right SeTests.counted SeTests.open_test SeTests.read_test SeTests.done_test SeTests.report_test FrCoded.fit_test
    SeTests.order_test
    SeTests.message_test SeTests.judge_opened SeTests.judge CB.length_test CB.read_test CB.write_test CB.open_read CB.open_write CB.begin_by
    CB.read_begun CB.write_begun CB.begun_of CB.read_beginning CB.write_beginning ClRows.places_from ClRows.row_view ClRows.has_stamp ClRows.smallest
    ClRows.place_for ClRows.at_stamp ClRows.rows_from ClRows.agreed ClRows.first_by ClRows.first_agreed ClRows.found_of ClRows.found_by ClRows.search ClState.fresh_row
    ClState.fresh_client ClState.largest ClSteps.quorate ClSteps.send_below ClSteps.counted ClSteps.gathered ClSteps.largest_counted ClSteps.gather_by
    ClSteps.report_by ClSteps.on_report GrVouching.backed ClSteps.on_stamp ClSteps.end_by ClSteps.on_ack ClSteps.complete_by
    ClSteps.settle ClSteps.keep_by ClSteps.on_value ClSteps.on_body ClSteps.effect ClTests.send_room ClTests.room_test ClTests.value_test ClTests.answers
    ClTests.owner_right
    ClTests.awaited ClTests.order_test ClTests.message_test ClTests.judge_opened ClTests.judge
its_answered = refl

its_idle : all_idle Z (trace Z calls).seen 8 ≡ true
unfolding FrChunks.entry_at RuWorld.start SeDelivery.construct_by SeDelivery.construct_test SeDelivery.construction Toy.toy Toy.zeros Toy.four Toy.setup
    Toy.hand_server Toy.hand_client Toy.start_read Toy.start_write g initial value Z entry_for stamp stamp_asked stamp_from block_to saying block no_room_hand ack_from
    read_asked initial_from value_from read_ended report_to report_for asking opening echoing waiting accepted told finished calls found Deliveries.lowest_by
    Deliveries.free_by Deliveries.freed_by Deliveries.settled_by Deliveries.voted_by Deliveries.block_by Deliveries.body_by Deliveries.served_by Deliveries.judge_by
    Deliveries.served Asked.searched_by Asked.kept_by Asked.body_by Asked.heard_by Asked.judge_by Asked.asked same_party among_sends was_sent all_bytes judged_bad
    verdict_bad is_frame honest proper_frame proper_call advance image refused_in end_in is_hand among_hands hand_of is_one handed_in is_from speaks is_final idle with_hand
    follow trace all_of all_answered all_idle QuQuorum.count ArArea.pick ArArea.same ArArea.table_from ArArea.table ArArea.joined ArNumbers.be2 ArNumbers.be4
    ArNumbers.be8 ArNumbers.bytes2
    ArNumbers.bytes4 ArNumbers.bytes8 ◌⊕◌ FiField.reduction FiField.xtime FiField.shift_add ◌⊗◌ FiField.power_of FiField.Powers FiField.Logs BlCode.block_length
    BlCode.padded BlCode.stripe BlCode.block_byte BlCode.block_of BlCode.encoded BlCode.row BlCode.value_of BlCode.blocks_of BlCode.candidate BlCode.agree
    BlCode.decoded_all BlParams.parties_fit BlParams.threshold_fits BlParams.length_fits BlPoly.eval BlPoly.plus BlPoly.scale BlPoly.with_root BlPoly.vanishing
    BlPoly.newton_step BlPoly.through FrCoded.pieces FrCoded.lowest_value FrCoded.agreeing FrCoded.decoded FrCoded.digests_of FrCoded.entry_of FrCoded.fits
    FrFrames.kind_of FrFrames.retired FrFrames.length_of FrFrames.body_length FrFrames.entry_bytes FrFrames.offer_bytes FrFrames.stamp_bytes FrFrames.body_bytes
    FrFrames.header_bytes FrFrames.frame_of FrFrames.build FrFrames.framing_test FrFrames.header_in FrFrames.header_test FrFrames.body_test FrFrames.stamp_in
    FrFrames.stamp_test FrFrames.content_test FrFrames.frame_test FrFrames.opened FrFrames.opened_under FrFrames.body_in FrFrames.message_in FrMessages.to_from
    FrMessages.to_all FrMessages.clients_from FrMessages.to_clients FrParams.width FrParams.quota FrParams.largest_frame FrParams.out_room FrParams.to_room
    FrParams.own_test FrParams.code_test FrParams.bounds_test
    FrParams.params_test FrStamps.older FrStamps.same_stamp FrStamps.parts_agree SeBroadcast.votes SeBroadcast.enough SeBroadcast.due
    SeBroadcast.full SeBroadcast.matters SeRules.at_time SeRules.chosen SeRules.regained SeRules.unanimous SeState.fresh_blocks SeState.fresh_slot
    SeState.fresh_reader SeState.fresh_server SeState.block_view SeState.present_block SeState.present_entry SeSteps.voted_block SeSteps.on_block SeSteps.tell_from
    SeSteps.reported SeSteps.accept SeSteps.vouched SeSteps.lowest SeSteps.ripe_by SeSteps.ripe SeSteps.free SeSteps.freed SeSteps.settle SeSteps.on_read
    SeSteps.on_read_complete SeSteps.on_body
    SeSteps.effect SeTests.room_test SeTests.sender_right SeTests.counted SeTests.open_test SeTests.read_test SeTests.done_test SeTests.report_test FrCoded.fit_test
    SeTests.order_test
    SeTests.message_test SeTests.judge_opened SeTests.judge CB.length_test CB.read_test CB.write_test CB.open_read CB.open_write CB.begin_by
    CB.read_begun CB.write_begun CB.begun_of CB.read_beginning CB.write_beginning ClRows.places_from ClRows.row_view ClRows.has_stamp ClRows.smallest
    ClRows.place_for ClRows.at_stamp ClRows.rows_from ClRows.agreed ClRows.first_by ClRows.first_agreed ClRows.found_of ClRows.found_by ClRows.search ClState.fresh_row
    ClState.fresh_client ClState.largest ClSteps.quorate ClSteps.send_below ClSteps.counted ClSteps.gathered ClSteps.largest_counted ClSteps.gather_by
    ClSteps.report_by ClSteps.on_report GrVouching.backed ClSteps.on_stamp ClSteps.end_by ClSteps.on_ack ClSteps.complete_by
    ClSteps.settle ClSteps.keep_by ClSteps.on_value ClSteps.on_body ClSteps.effect ClTests.send_room ClTests.room_test ClTests.value_test ClTests.answers
    ClTests.owner_right
    ClTests.awaited ClTests.order_test ClTests.message_test ClTests.judge_opened ClTests.judge
its_idle = refl

delivering : Delivering
unfolding FrChunks.entry_at RuWorld.start SeDelivery.construct_by SeDelivery.construct_test SeDelivery.construction Toy.toy Toy.zeros Toy.four Toy.setup
    Toy.hand_server Toy.hand_client Toy.start_read Toy.start_write g initial value Z entry_for stamp stamp_asked stamp_from block_to saying block no_room_hand ack_from
    read_asked initial_from value_from read_ended report_to report_for asking opening echoing waiting accepted told finished calls found Deliveries.lowest_by
    Deliveries.free_by Deliveries.freed_by Deliveries.settled_by Deliveries.voted_by Deliveries.block_by Deliveries.body_by Deliveries.served_by Deliveries.judge_by
    Deliveries.served Asked.searched_by Asked.kept_by Asked.body_by Asked.heard_by Asked.judge_by Asked.asked same_party among_sends was_sent all_bytes judged_bad
    verdict_bad is_frame honest proper_frame proper_call advance image refused_in end_in is_hand among_hands hand_of is_one handed_in is_from speaks is_final idle with_hand
    follow trace all_of all_answered all_idle QuQuorum.count ArArea.pick ArArea.same ArArea.table_from ArArea.table ArArea.joined ArNumbers.be2 ArNumbers.be4
    ArNumbers.be8 ArNumbers.bytes2
    ArNumbers.bytes4 ArNumbers.bytes8 ◌⊕◌ FiField.reduction FiField.xtime FiField.shift_add ◌⊗◌ FiField.power_of FiField.Powers FiField.Logs BlCode.block_length
    BlCode.padded BlCode.stripe BlCode.block_byte BlCode.block_of BlCode.encoded BlCode.row BlCode.value_of BlCode.blocks_of BlCode.candidate BlCode.agree
    BlCode.decoded_all BlParams.parties_fit BlParams.threshold_fits BlParams.length_fits BlPoly.eval BlPoly.plus BlPoly.scale BlPoly.with_root BlPoly.vanishing
    BlPoly.newton_step BlPoly.through FrCoded.pieces FrCoded.lowest_value FrCoded.agreeing FrCoded.decoded FrCoded.digests_of FrCoded.entry_of FrCoded.fits
    FrFrames.kind_of FrFrames.retired FrFrames.length_of FrFrames.body_length FrFrames.entry_bytes FrFrames.offer_bytes FrFrames.stamp_bytes FrFrames.body_bytes
    FrFrames.header_bytes FrFrames.frame_of FrFrames.build FrFrames.framing_test FrFrames.header_in FrFrames.header_test FrFrames.body_test FrFrames.stamp_in
    FrFrames.stamp_test FrFrames.content_test FrFrames.frame_test FrFrames.opened FrFrames.opened_under FrFrames.body_in FrFrames.message_in FrMessages.to_from
    FrMessages.to_all FrMessages.clients_from FrMessages.to_clients FrParams.width FrParams.quota FrParams.largest_frame FrParams.out_room FrParams.to_room
    FrParams.own_test FrParams.code_test FrParams.bounds_test
    FrParams.params_test FrStamps.older FrStamps.same_stamp FrStamps.parts_agree SeBroadcast.votes SeBroadcast.enough SeBroadcast.due
    SeBroadcast.full SeBroadcast.matters SeRules.at_time SeRules.chosen SeRules.regained SeRules.unanimous SeState.fresh_blocks SeState.fresh_slot
    SeState.fresh_reader SeState.fresh_server SeState.block_view SeState.present_block SeState.present_entry SeSteps.voted_block SeSteps.on_block SeSteps.tell_from
    SeSteps.reported SeSteps.accept SeSteps.vouched SeSteps.lowest SeSteps.ripe_by SeSteps.ripe SeSteps.free SeSteps.freed SeSteps.settle SeSteps.on_read
    SeSteps.on_read_complete SeSteps.on_body
    SeSteps.effect SeTests.room_test SeTests.sender_right SeTests.counted SeTests.open_test SeTests.read_test SeTests.done_test SeTests.report_test FrCoded.fit_test
    SeTests.order_test
    SeTests.message_test SeTests.judge_opened SeTests.judge CB.length_test CB.read_test CB.write_test CB.open_read CB.open_write CB.begin_by
    CB.read_begun CB.write_begun CB.begun_of CB.read_beginning CB.write_beginning ClRows.places_from ClRows.row_view ClRows.has_stamp ClRows.smallest
    ClRows.place_for ClRows.at_stamp ClRows.rows_from ClRows.agreed ClRows.first_by ClRows.first_agreed ClRows.found_of ClRows.found_by ClRows.search ClState.fresh_row
    ClState.fresh_client ClState.largest ClSteps.quorate ClSteps.send_below ClSteps.counted ClSteps.gathered ClSteps.largest_counted ClSteps.gather_by
    ClSteps.report_by ClSteps.on_report GrVouching.backed ClSteps.on_stamp ClSteps.end_by ClSteps.on_ack ClSteps.complete_by
    ClSteps.settle ClSteps.keep_by ClSteps.on_value ClSteps.on_body ClSteps.effect ClTests.send_room ClTests.room_test ClTests.value_test ClTests.answers
    ClTests.owner_right
    ClTests.awaited ClTests.order_test ClTests.message_test ClTests.judge_opened ClTests.judge
delivering = record {
  whole = and_true (trace Z calls).seen.proper _ its_proper
      (and_true (all_answered Z (trace Z calls).seen.log (trace Z calls).closed) _ its_answered its_idle);
  nothing_from = refl;
  not_handed = refl;
}

computed : Computed
unfolding FrChunks.entry_at RuWorld.start SeDelivery.construct_by SeDelivery.construct_test SeDelivery.construction Toy.toy Toy.zeros Toy.four Toy.setup
    Toy.hand_server Toy.hand_client Toy.start_read Toy.start_write g initial value Z entry_for stamp stamp_asked stamp_from block_to saying block no_room_hand ack_from
    read_asked initial_from value_from read_ended report_to report_for asking opening echoing waiting accepted told finished calls found Deliveries.lowest_by
    Deliveries.free_by Deliveries.freed_by Deliveries.settled_by Deliveries.voted_by Deliveries.block_by Deliveries.body_by Deliveries.served_by Deliveries.judge_by
    Deliveries.served Asked.searched_by Asked.kept_by Asked.body_by Asked.heard_by Asked.judge_by Asked.asked same_party among_sends was_sent all_bytes judged_bad
    verdict_bad is_frame honest proper_frame proper_call advance image refused_in end_in is_hand among_hands hand_of is_one handed_in is_from speaks is_final idle with_hand
    follow trace all_of all_answered all_idle QuQuorum.count ArArea.pick ArArea.same ArArea.table_from ArArea.table ArArea.joined ArNumbers.be2 ArNumbers.be4
    ArNumbers.be8 ArNumbers.bytes2
    ArNumbers.bytes4 ArNumbers.bytes8 ◌⊕◌ FiField.reduction FiField.xtime FiField.shift_add ◌⊗◌ FiField.power_of FiField.Powers FiField.Logs BlCode.block_length
    BlCode.padded BlCode.stripe BlCode.block_byte BlCode.block_of BlCode.encoded BlCode.row BlCode.value_of BlCode.blocks_of BlCode.candidate BlCode.agree
    BlCode.decoded_all BlParams.parties_fit BlParams.threshold_fits BlParams.length_fits BlPoly.eval BlPoly.plus BlPoly.scale BlPoly.with_root BlPoly.vanishing
    BlPoly.newton_step BlPoly.through FrCoded.pieces FrCoded.lowest_value FrCoded.agreeing FrCoded.decoded FrCoded.digests_of FrCoded.entry_of FrCoded.fits
    FrFrames.kind_of FrFrames.retired FrFrames.length_of FrFrames.body_length FrFrames.entry_bytes FrFrames.offer_bytes FrFrames.stamp_bytes FrFrames.body_bytes
    FrFrames.header_bytes FrFrames.frame_of FrFrames.build FrFrames.framing_test FrFrames.header_in FrFrames.header_test FrFrames.body_test FrFrames.stamp_in
    FrFrames.stamp_test FrFrames.content_test FrFrames.frame_test FrFrames.opened FrFrames.opened_under FrFrames.body_in FrFrames.message_in FrMessages.to_from
    FrMessages.to_all FrMessages.clients_from FrMessages.to_clients FrParams.width FrParams.quota FrParams.largest_frame FrParams.out_room FrParams.to_room
    FrParams.own_test FrParams.code_test FrParams.bounds_test
    FrParams.params_test FrStamps.older FrStamps.same_stamp FrStamps.parts_agree SeBroadcast.votes SeBroadcast.enough SeBroadcast.due
    SeBroadcast.full SeBroadcast.matters SeRules.at_time SeRules.chosen SeRules.regained SeRules.unanimous SeState.fresh_blocks SeState.fresh_slot
    SeState.fresh_reader SeState.fresh_server SeState.block_view SeState.present_block SeState.present_entry SeSteps.voted_block SeSteps.on_block SeSteps.tell_from
    SeSteps.reported SeSteps.accept SeSteps.vouched SeSteps.lowest SeSteps.ripe_by SeSteps.ripe SeSteps.free SeSteps.freed SeSteps.settle SeSteps.on_read
    SeSteps.on_read_complete SeSteps.on_body
    SeSteps.effect SeTests.room_test SeTests.sender_right SeTests.counted SeTests.open_test SeTests.read_test SeTests.done_test SeTests.report_test FrCoded.fit_test
    SeTests.order_test
    SeTests.message_test SeTests.judge_opened SeTests.judge CB.length_test CB.read_test CB.write_test CB.open_read CB.open_write CB.begin_by
    CB.read_begun CB.write_begun CB.begun_of CB.read_beginning CB.write_beginning ClRows.places_from ClRows.row_view ClRows.has_stamp ClRows.smallest
    ClRows.place_for ClRows.at_stamp ClRows.rows_from ClRows.agreed ClRows.first_by ClRows.first_agreed ClRows.found_of ClRows.found_by ClRows.search ClState.fresh_row
    ClState.fresh_client ClState.largest ClSteps.quorate ClSteps.send_below ClSteps.counted ClSteps.gathered ClSteps.largest_counted ClSteps.gather_by
    ClSteps.report_by ClSteps.on_report GrVouching.backed ClSteps.on_stamp ClSteps.end_by ClSteps.on_ack ClSteps.complete_by
    ClSteps.settle ClSteps.keep_by ClSteps.on_value ClSteps.on_body ClSteps.effect ClTests.send_room ClTests.room_test ClTests.value_test ClTests.answers
    ClTests.owner_right
    ClTests.awaited ClTests.order_test ClTests.message_test ClTests.judge_opened ClTests.judge
computed = record {
  would = (refl, refl, refl);
  write_opens = (refl, refl);
  read_opens = (refl, refl);
  no_room = refl;
  ended = (refl, refl);
  completed_is = (refl, refl);
}

-- ---- so

all_so : ((trace Z calls).seen.proper ≡ true) × ((all_answered Z (trace Z calls).seen.log (trace Z calls).closed && all_idle Z (trace Z calls).seen 8) ≡ true)
all_so = and_split (trace Z calls).seen.proper _ delivering.whole

answered_idle : (all_answered Z (trace Z calls).seen.log (trace Z calls).closed ≡ true) × (all_idle Z (trace Z calls).seen 8 ≡ true)
answered_idle = and_split (all_answered Z (trace Z calls).seen.log (trace Z calls).closed) (all_idle Z (trace Z calls).seen 8) all_so.1

admissible : Admissible Z calls
admissible = admissible_by Z exact calls (ap (λ v. v.proper) (sym (trace_seen Z exact calls)) ∙ all_so.0)

false_server_lem : Z.faulty_server 4 ≡ true
unfolding Z Toy.setup
false_server_lem = refl

writes : At (OpensWrite Z 1 1 value) calls 0
unfolding asking opening echoing waiting accepted told finished calls Z Toy.setup Toy.start_write
writes = at_drop (OpensWrite Z 1 1 value) 57 calls 0 (inl (refl, opens_write_by Z exact [] 1 1 value _ _ computed.write_opens.0 computed.write_opens.1))

reads : At (OpensRead Z 2 1) calls 7
unfolding asking opening echoing waiting accepted told finished calls Z Toy.setup Toy.start_read
reads = at_drop (OpensRead Z 2 1) 50 calls 7 (inl (refl, opens_read_by Z exact asking 2 1 _ _ computed.read_opens.0 computed.read_opens.1))

room : At (Refuses Z 10) calls 15
unfolding asking opening echoing waiting accepted told finished calls
room = at_drop (Refuses Z 10) 42 calls 15
    (inl (refl, refuses_by Z exact (block echo 2 1 ∷ block echo 1 1 ∷ block_to 3 ∷ block_to 2 ∷ block_to 1 ∷ opening) no_room_hand 10 computed.no_room))

ends : At (EndsWrite Z 1 1) calls 34
unfolding asking opening echoing waiting accepted told finished calls ack_from Toy.hand_client
ends = at_drop (EndsWrite Z 1 1) 23 calls 34 (inl (refl, ends_by Z exact accepted (ack_from 3) 1 1 refl computed.ended.0 computed.ended.1))

completes : At (CompletesRead Z 2 1 found) calls 39
unfolding asking opening echoing waiting accepted told finished calls value_from Toy.hand_client found
completes = at_drop (CompletesRead Z 2 1 found) 18 calls 39
    (inl (refl, (stops_by Z exact told (value_from 3) 2 1 found refl computed.completed_is.0 computed.completed_is.1, (value, refl))))

-- ---- up to the second ack

admissible_before : Admissible Z waiting
unfolding accepted told finished calls
admissible_before = admissible.1.1.1.1.1.1.1.1.1.1.1.1.1.1.1.1.1.1.1.1.1.1.1.1.1.1.1

ready_sent : Sent Z waiting (P.Server 1) (P.Server 3) (build (saying ready 1))
ready_sent = sent_by_lem Z exact waiting (image Z waiting).log (logged Z exact waiting) (P.Server 1) (P.Server 3) (build (saying ready 1)) computed.would.0

long : (m : ℕ) → m ≤ length (Toy.zeros m)
unfolding Toy.zeros
long m = let h = length-replicate {A = ℕ} m 0 in omega (arith, h)

honest_one : honest Z (P.Server 1) ≡ true
unfolding honest Z Toy.setup g Toy.four
honest_one = refl

honest_three : honest Z (P.Server 3) ≡ true
unfolding honest Z Toy.setup g Toy.four
honest_three = refl

unfinished : Finished Z waiting → ⊥
unfolding block Toy.hand_server Z Toy.setup
unfinished = unfinished_by Z exact waiting (P.Server 1) 3 (build (saying ready 1))
    (Toy.zeros (out_room g (server_frames g))) (Toy.zeros (to_room (server_frames g)))
    (honest_is Z exact (P.Server 1) honest_one) (honest_is Z exact (P.Server 3) honest_three) ready_sent
    (never_handed Z exact waiting (P.Server 1) (P.Server 3) (build (saying ready 1)) delivering.not_handed)
    (long (out_room g (server_frames g))) (long (to_room (server_frames g))) computed.would.1

pub shown : Shown
shown = record {
  sound = sound;
  admissible = admissible;
  finished = finished_by Z exact calls answered_idle.0;
  delivered = delivered_by Z exact calls answered_idle.0;
  false_server_lem = false_server_lem;
  silent = never_speaks Z exact calls (P.Server 4) delivering.nothing_from;
  writes = writes;
  reads = reads;
  room = room;
  ends = ends;
  completes = completes;
  served = served_by_lem Z exact calls answered_idle.1;
  admissible_before = admissible_before;
  open_before = ap (λ s. s.phase) ((depicts Z exact waiting).clients 1).client ∙ computed.would.2;
  ready_sent = ready_sent;
  ready_missing = never_handed Z exact waiting (P.Server 1) (P.Server 3) (build (saying ready 1)) delivering.not_handed;
  unfinished = unfinished;
}

-- so the theorem gives that nobody waits, or a collision
pub nobody_waits : Served Z calls ⊎ Collision Z calls
unfolding EverybodyServed Z Toy.setup
nobody_waits = everybody_served Z sound Setups.toy_size calls admissible shown.finished
