-- The run of Contending.antt, computed: it is admissible, calls are refused, two writes are accepted, and the read ends with the one whose stamp is
-- larger. Assumes nothing.
use native.Mathlib.Omega.{arith}
use mathlib.Core.Bool.{true, false}
use mathlib.Core.Path.{◌≡◌, refl, sym, ap, ◌∙◌}
use mathlib.Core.Logic.{◌⊎◌, inl, inr, ⊎_elim}
use mathlib.Core.Option.{some}
use mathlib.Core.List.Memᴰ
use mathlib.Core.List.{List, [], ◌∷◌, Memᴰ}
use Rattle.quorum.proofs.Logic.{impossible}
use Rattle.frame.specs.Stamps.{older}
use Rattle.frame.specs.Params.{Bounded}
use Rattle.frame.specs.Messages.{ready}
use Rattle.client_rules.specs.Steps.{stopped}
use Rattle.runs.specs.World.{Sound}
use Rattle.runs.specs.Events.{At, Accepts, CompletesRead}
use Rattle.runs.specs.Demand.{Operation, Stands, InOrder, by_stamp, write_first, as_ended, Demand3}
use Rattle.quorum.specs.Quorum as QuQuorum
use Rattle.area.specs.Area as ArArea
use Rattle.area.specs.Numbers as ArNumbers
use Rattle.field.specs.Field as FiField
use Rattle.field.specs.Field.{◌⊕◌}
use Rattle.field.specs.Field.{◌⊗◌}
use Rattle.blocks.specs.Code as BlCode
use Rattle.blocks.specs.Params as BlParams
use Rattle.blocks.specs.Poly as BlPoly
use Rattle.group_rules.specs.Coded as FrCoded
use Rattle.group_rules.specs.Vouching as GrVouching
use Rattle.frame.specs.Frames as FrFrames
use Rattle.frame.specs.Messages as FrMessages
use Rattle.frame.specs.Params as FrParams
use Rattle.frame.specs.Stamps as FrStamps
use Rattle.server_rules.specs.Broadcast as SeBroadcast
use Rattle.frame.specs.Chunks as FrChunks
use Rattle.server_rules.specs.Delivery as SeDelivery
use Rattle.runs.specs.World as RuWorld
use Rattle.server_rules.specs.Rules as SeRules
use Rattle.server_rules.specs.State as SeState
use Rattle.server_rules.specs.Steps as SeSteps
use Rattle.server_rules.specs.Tests as SeTests
use Rattle.client_rules.specs.Beginning as CB
use Rattle.client_rules.specs.Rows as ClRows
use Rattle.client_rules.specs.State as ClState
use Rattle.client_rules.specs.Steps as ClSteps
use Rattle.client_rules.specs.Tests as ClTests
use Rattle.witness.specs.Toy as Toy
use Rattle.witness.proofs.Setups as Setups
use Rattle.witness.proofs.Served as Served
use Rattle.witness.proofs.Asked as Asked
use Rattle.witness.specs.Refusals.{Refuses}
use Rattle.witness.specs.Contending.{g, initial, value, nobodys, Z, largest, stamp, entry_for, offer_for, stamp_asked, stamp_from, block_to, block}
use Rattle.witness.specs.Contending.{read_asked, initial_from, value_from, false_value, false_echo, false_time, no_frame, time_alone, false_block, no_room_hand}
use Rattle.witness.specs.Contending.{opening, asking, refused, rounds, spread, first, second, told, calls, write, found, writing, reading, Shown}
use Rattle.witness.proofs.Images.{same_party, among_sends, was_sent, all_bytes, judged_bad, verdict_bad, is_frame, honest}
use Rattle.witness.proofs.Images.{proper_frame, proper_call, advance, image, refused_in, accepted_in, end_in}
use Rattle.witness.proofs.Depicted.{Exact, admissible_by, accepts_by, stops_by, refuses_by, at_drop}

bounded : Bounded g
unfolding g
bounded = Setups.bounded 2 2 (omega arith) (omega arith) (omega arith) (omega arith)

exact : Exact Z
unfolding Z
exact = Setups.exact Toy.toy g initial 4 (λ c. false) bounded

sound : Sound Z
unfolding Z g Toy.four initial QuQuorum.count
sound = Setups.sound Toy.toy g initial 4 (λ c. false) bounded (record { many = omega arith; few = omega arith }) refl (omega arith, (omega arith, tt))

-- ---- the run, computed

record Computed : Type 0 where
  pub proper : (image Z calls).proper ≡ true
  -- six calls are refused
  pub stale : refused_in Z (image Z asking) (read_asked 1) ≡ some 12
  pub busy : refused_in Z (image Z (read_asked 1 ∷ asking)) (Toy.start_write g 1 (value 2)) ≡ some 15
  pub framing : refused_in Z (image Z (Toy.start_write g 1 (value 2) ∷ read_asked 1 ∷ asking)) no_frame ≡ some 4
  pub kind : refused_in Z (image Z (no_frame ∷ Toy.start_write g 1 (value 2) ∷ read_asked 1 ∷ asking)) time_alone ≡ some 6
  pub digest : refused_in Z (image Z (time_alone ∷ no_frame ∷ Toy.start_write g 1 (value 2) ∷ read_asked 1 ∷ asking)) false_block ≡ some 14
  pub room : refused_in Z (image Z (false_block ∷ time_alone ∷ no_frame ∷ Toy.start_write g 1 (value 2) ∷ read_asked 1 ∷ asking)) no_room_hand ≡ some 10
  -- two writes are accepted, and the read completes
  pub larger : accepted_in Z (image Z first) (block ready 2 2 1) ≡ write 2 ∷ []
  pub smaller : accepted_in Z (image Z second) (block ready 1 2 1) ≡ write 1 ∷ []
  pub completes : end_in Z (image Z told) (value_from 2 4) ≡ stopped found
  pub number : ((image Z told).clients 3).client.reads ≡ 1

-- each by itself: together they take more steps than one declaration may
its_proper : (image Z calls).proper ≡ true
unfolding judged_bad verdict_bad refused_in FrChunks.entry_at RuWorld.start SeDelivery.construct_test SeDelivery.construct_by SeDelivery.construction Toy.toy
    Toy.start_write g initial value nobodys Z largest stamp entry_for offer_for stamp_asked stamp_from block_to block read_asked initial_from value_from false_value
    false_echo false_time no_frame time_alone false_block no_room_hand opening asking refused rounds spread first second told calls write found Toy.zeros Toy.enormous
    Toy.four Toy.setup Toy.hand_server Toy.hand_client Toy.start_read Served.lowest_by Served.free_by Served.freed_by Served.settled_by Served.voted_by Served.block_by
    Served.body_by Served.served_by Served.judge_by Served.served Asked.searched_by Asked.kept_by Asked.body_by Asked.heard_by Asked.judge_by Asked.asked same_party
    among_sends was_sent all_bytes is_frame honest proper_frame proper_call advance image accepted_in end_in QuQuorum.count ArArea.pick ArArea.same ArArea.table_from
    ArArea.table ArArea.joined ArNumbers.be2 ArNumbers.be4 ArNumbers.be8 ArNumbers.bytes2 ArNumbers.bytes4 ArNumbers.bytes8 ◌⊕◌ FiField.reduction FiField.xtime
    FiField.shift_add ◌⊗◌ FiField.power_of FiField.Powers FiField.Logs BlCode.block_length BlCode.padded BlCode.stripe BlCode.block_byte BlCode.block_of
    BlCode.encoded BlCode.row BlCode.value_of BlCode.blocks_of BlCode.candidate BlCode.agree BlCode.decoded_all BlParams.parties_fit BlParams.threshold_fits
    BlParams.length_fits BlPoly.eval BlPoly.plus BlPoly.scale BlPoly.with_root BlPoly.vanishing BlPoly.newton_step BlPoly.through FrCoded.pieces
    FrCoded.lowest_value FrCoded.agreeing FrCoded.decoded FrCoded.digests_of FrCoded.entry_of FrCoded.fits FrFrames.kind_of FrFrames.retired FrFrames.length_of
    FrFrames.body_length FrFrames.entry_bytes FrFrames.offer_bytes FrFrames.stamp_bytes FrFrames.body_bytes FrFrames.header_bytes FrFrames.frame_of FrFrames.build
    FrFrames.framing_test FrFrames.header_in FrFrames.header_test FrFrames.body_test FrFrames.stamp_in FrFrames.stamp_test FrFrames.content_test FrFrames.frame_test
    FrFrames.opened FrFrames.opened_under FrFrames.body_in FrFrames.message_in FrMessages.to_from FrMessages.to_all FrMessages.clients_from FrMessages.to_clients
    FrParams.width FrParams.quota
    FrParams.largest_frame FrParams.out_room FrParams.to_room FrParams.own_test FrParams.code_test FrParams.bounds_test FrParams.params_test FrStamps.older
    FrStamps.same_stamp FrStamps.parts_agree SeBroadcast.votes SeBroadcast.enough SeBroadcast.due SeBroadcast.full SeBroadcast.matters
    SeRules.at_time SeRules.chosen SeRules.regained SeRules.unanimous SeState.fresh_blocks SeState.fresh_slot SeState.fresh_reader SeState.fresh_server
    SeState.block_view SeState.present_block SeState.present_entry SeSteps.voted_block SeSteps.on_block SeSteps.tell_from SeSteps.reported SeSteps.accept
    SeSteps.vouched SeSteps.lowest SeSteps.ripe_by SeSteps.ripe
    SeSteps.free SeSteps.freed SeSteps.settle SeSteps.on_read SeSteps.on_read_complete SeSteps.on_body SeSteps.effect SeTests.room_test
    SeTests.sender_right SeTests.counted SeTests.open_test SeTests.read_test SeTests.done_test SeTests.report_test FrCoded.fit_test SeTests.order_test
    SeTests.message_test
    SeTests.judge_opened SeTests.judge CB.length_test CB.read_test CB.write_test CB.open_read CB.open_write CB.begin_by CB.read_begun
    CB.write_begun CB.begun_of CB.read_beginning CB.write_beginning ClRows.places_from ClRows.row_view ClRows.has_stamp ClRows.smallest ClRows.place_for
    ClRows.at_stamp ClRows.rows_from ClRows.agreed ClRows.first_by ClRows.first_agreed ClRows.found_of ClRows.found_by ClRows.search ClState.fresh_row
    ClState.fresh_client ClState.largest ClSteps.quorate ClSteps.send_below ClSteps.counted ClSteps.gathered ClSteps.largest_counted ClSteps.gather_by
    ClSteps.report_by ClSteps.on_report GrVouching.backed ClSteps.on_stamp ClSteps.end_by ClSteps.on_ack ClSteps.complete_by
    ClSteps.settle ClSteps.keep_by ClSteps.on_value ClSteps.on_body ClSteps.effect ClTests.send_room ClTests.room_test ClTests.value_test ClTests.answers
    ClTests.owner_right
    ClTests.awaited ClTests.order_test ClTests.message_test ClTests.judge_opened ClTests.judge
its_proper = refl

its_larger : accepted_in Z (image Z first) (block ready 2 2 1) ≡ write 2 ∷ []
unfolding judged_bad verdict_bad refused_in FrChunks.entry_at RuWorld.start SeDelivery.construct_test SeDelivery.construct_by SeDelivery.construction Toy.toy
    Toy.start_write g initial value nobodys Z largest stamp entry_for offer_for stamp_asked stamp_from block_to block read_asked initial_from value_from false_value
    false_echo false_time no_frame time_alone false_block no_room_hand opening asking refused rounds spread first second told calls write found Toy.zeros Toy.enormous
    Toy.four Toy.setup Toy.hand_server Toy.hand_client Toy.start_read Served.lowest_by Served.free_by Served.freed_by Served.settled_by Served.voted_by Served.block_by
    Served.body_by Served.served_by Served.judge_by Served.served Asked.searched_by Asked.kept_by Asked.body_by Asked.heard_by Asked.judge_by Asked.asked same_party
    among_sends was_sent all_bytes is_frame honest proper_frame proper_call advance image accepted_in end_in QuQuorum.count ArArea.pick ArArea.same ArArea.table_from
    ArArea.table ArArea.joined ArNumbers.be2 ArNumbers.be4 ArNumbers.be8 ArNumbers.bytes2 ArNumbers.bytes4 ArNumbers.bytes8 ◌⊕◌ FiField.reduction FiField.xtime
    FiField.shift_add ◌⊗◌ FiField.power_of FiField.Powers FiField.Logs BlCode.block_length BlCode.padded BlCode.stripe BlCode.block_byte BlCode.block_of
    BlCode.encoded BlCode.row BlCode.value_of BlCode.blocks_of BlCode.candidate BlCode.agree BlCode.decoded_all BlParams.parties_fit BlParams.threshold_fits
    BlParams.length_fits BlPoly.eval BlPoly.plus BlPoly.scale BlPoly.with_root BlPoly.vanishing BlPoly.newton_step BlPoly.through FrCoded.pieces
    FrCoded.lowest_value FrCoded.agreeing FrCoded.decoded FrCoded.digests_of FrCoded.entry_of FrCoded.fits FrFrames.kind_of FrFrames.retired FrFrames.length_of
    FrFrames.body_length FrFrames.entry_bytes FrFrames.offer_bytes FrFrames.stamp_bytes FrFrames.body_bytes FrFrames.header_bytes FrFrames.frame_of FrFrames.build
    FrFrames.framing_test FrFrames.header_in FrFrames.header_test FrFrames.body_test FrFrames.stamp_in FrFrames.stamp_test FrFrames.content_test FrFrames.frame_test
    FrFrames.opened FrFrames.opened_under FrFrames.body_in FrFrames.message_in FrMessages.to_from FrMessages.to_all FrMessages.clients_from FrMessages.to_clients
    FrParams.width FrParams.quota
    FrParams.largest_frame FrParams.out_room FrParams.to_room FrParams.own_test FrParams.code_test FrParams.bounds_test FrParams.params_test FrStamps.older
    FrStamps.same_stamp FrStamps.parts_agree SeBroadcast.votes SeBroadcast.enough SeBroadcast.due SeBroadcast.full SeBroadcast.matters
    SeRules.at_time SeRules.chosen SeRules.regained SeRules.unanimous SeState.fresh_blocks SeState.fresh_slot SeState.fresh_reader SeState.fresh_server
    SeState.block_view SeState.present_block SeState.present_entry SeSteps.voted_block SeSteps.on_block SeSteps.tell_from SeSteps.reported SeSteps.accept
    SeSteps.vouched SeSteps.lowest SeSteps.ripe_by SeSteps.ripe
    SeSteps.free SeSteps.freed SeSteps.settle SeSteps.on_read SeSteps.on_read_complete SeSteps.on_body SeSteps.effect SeTests.room_test
    SeTests.sender_right SeTests.counted SeTests.open_test SeTests.read_test SeTests.done_test SeTests.report_test FrCoded.fit_test SeTests.order_test
    SeTests.message_test
    SeTests.judge_opened SeTests.judge CB.length_test CB.read_test CB.write_test CB.open_read CB.open_write CB.begin_by CB.read_begun
    CB.write_begun CB.begun_of CB.read_beginning CB.write_beginning ClRows.places_from ClRows.row_view ClRows.has_stamp ClRows.smallest ClRows.place_for
    ClRows.at_stamp ClRows.rows_from ClRows.agreed ClRows.first_by ClRows.first_agreed ClRows.found_of ClRows.found_by ClRows.search ClState.fresh_row
    ClState.fresh_client ClState.largest ClSteps.quorate ClSteps.send_below ClSteps.counted ClSteps.gathered ClSteps.largest_counted ClSteps.gather_by
    ClSteps.report_by ClSteps.on_report GrVouching.backed ClSteps.on_stamp ClSteps.end_by ClSteps.on_ack ClSteps.complete_by
    ClSteps.settle ClSteps.keep_by ClSteps.on_value ClSteps.on_body ClSteps.effect ClTests.send_room ClTests.room_test ClTests.value_test ClTests.answers
    ClTests.owner_right
    ClTests.awaited ClTests.order_test ClTests.message_test ClTests.judge_opened ClTests.judge
its_larger = refl

its_smaller : accepted_in Z (image Z second) (block ready 1 2 1) ≡ write 1 ∷ []
unfolding judged_bad verdict_bad refused_in FrChunks.entry_at RuWorld.start SeDelivery.construct_test SeDelivery.construct_by SeDelivery.construction Toy.toy
    Toy.start_write g initial value nobodys Z largest stamp entry_for offer_for stamp_asked stamp_from block_to block read_asked initial_from value_from false_value
    false_echo false_time no_frame time_alone false_block no_room_hand opening asking refused rounds spread first second told calls write found Toy.zeros Toy.enormous
    Toy.four Toy.setup Toy.hand_server Toy.hand_client Toy.start_read Served.lowest_by Served.free_by Served.freed_by Served.settled_by Served.voted_by Served.block_by
    Served.body_by Served.served_by Served.judge_by Served.served Asked.searched_by Asked.kept_by Asked.body_by Asked.heard_by Asked.judge_by Asked.asked same_party
    among_sends was_sent all_bytes is_frame honest proper_frame proper_call advance image accepted_in end_in QuQuorum.count ArArea.pick ArArea.same ArArea.table_from
    ArArea.table ArArea.joined ArNumbers.be2 ArNumbers.be4 ArNumbers.be8 ArNumbers.bytes2 ArNumbers.bytes4 ArNumbers.bytes8 ◌⊕◌ FiField.reduction FiField.xtime
    FiField.shift_add ◌⊗◌ FiField.power_of FiField.Powers FiField.Logs BlCode.block_length BlCode.padded BlCode.stripe BlCode.block_byte BlCode.block_of
    BlCode.encoded BlCode.row BlCode.value_of BlCode.blocks_of BlCode.candidate BlCode.agree BlCode.decoded_all BlParams.parties_fit BlParams.threshold_fits
    BlParams.length_fits BlPoly.eval BlPoly.plus BlPoly.scale BlPoly.with_root BlPoly.vanishing BlPoly.newton_step BlPoly.through FrCoded.pieces
    FrCoded.lowest_value FrCoded.agreeing FrCoded.decoded FrCoded.digests_of FrCoded.entry_of FrCoded.fits FrFrames.kind_of FrFrames.retired FrFrames.length_of
    FrFrames.body_length FrFrames.entry_bytes FrFrames.offer_bytes FrFrames.stamp_bytes FrFrames.body_bytes FrFrames.header_bytes FrFrames.frame_of FrFrames.build
    FrFrames.framing_test FrFrames.header_in FrFrames.header_test FrFrames.body_test FrFrames.stamp_in FrFrames.stamp_test FrFrames.content_test FrFrames.frame_test
    FrFrames.opened FrFrames.opened_under FrFrames.body_in FrFrames.message_in FrMessages.to_from FrMessages.to_all FrMessages.clients_from FrMessages.to_clients
    FrParams.width FrParams.quota
    FrParams.largest_frame FrParams.out_room FrParams.to_room FrParams.own_test FrParams.code_test FrParams.bounds_test FrParams.params_test FrStamps.older
    FrStamps.same_stamp FrStamps.parts_agree SeBroadcast.votes SeBroadcast.enough SeBroadcast.due SeBroadcast.full SeBroadcast.matters
    SeRules.at_time SeRules.chosen SeRules.regained SeRules.unanimous SeState.fresh_blocks SeState.fresh_slot SeState.fresh_reader SeState.fresh_server
    SeState.block_view SeState.present_block SeState.present_entry SeSteps.voted_block SeSteps.on_block SeSteps.tell_from SeSteps.reported SeSteps.accept
    SeSteps.vouched SeSteps.lowest SeSteps.ripe_by SeSteps.ripe
    SeSteps.free SeSteps.freed SeSteps.settle SeSteps.on_read SeSteps.on_read_complete SeSteps.on_body SeSteps.effect SeTests.room_test
    SeTests.sender_right SeTests.counted SeTests.open_test SeTests.read_test SeTests.done_test SeTests.report_test FrCoded.fit_test SeTests.order_test
    SeTests.message_test
    SeTests.judge_opened SeTests.judge CB.length_test CB.read_test CB.write_test CB.open_read CB.open_write CB.begin_by CB.read_begun
    CB.write_begun CB.begun_of CB.read_beginning CB.write_beginning ClRows.places_from ClRows.row_view ClRows.has_stamp ClRows.smallest ClRows.place_for
    ClRows.at_stamp ClRows.rows_from ClRows.agreed ClRows.first_by ClRows.first_agreed ClRows.found_of ClRows.found_by ClRows.search ClState.fresh_row
    ClState.fresh_client ClState.largest ClSteps.quorate ClSteps.send_below ClSteps.counted ClSteps.gathered ClSteps.largest_counted ClSteps.gather_by
    ClSteps.report_by ClSteps.on_report GrVouching.backed ClSteps.on_stamp ClSteps.end_by ClSteps.on_ack ClSteps.complete_by
    ClSteps.settle ClSteps.keep_by ClSteps.on_value ClSteps.on_body ClSteps.effect ClTests.send_room ClTests.room_test ClTests.value_test ClTests.answers
    ClTests.owner_right
    ClTests.awaited ClTests.order_test ClTests.message_test ClTests.judge_opened ClTests.judge
its_smaller = refl

its_completes : end_in Z (image Z told) (value_from 2 4) ≡ stopped found
unfolding judged_bad verdict_bad refused_in FrChunks.entry_at RuWorld.start SeDelivery.construct_test SeDelivery.construct_by SeDelivery.construction Toy.toy
    Toy.start_write g initial value nobodys Z largest stamp entry_for offer_for stamp_asked stamp_from block_to block read_asked initial_from value_from false_value
    false_echo false_time no_frame time_alone false_block no_room_hand opening asking refused rounds spread first second told calls write found Toy.zeros Toy.enormous
    Toy.four Toy.setup Toy.hand_server Toy.hand_client Toy.start_read Served.lowest_by Served.free_by Served.freed_by Served.settled_by Served.voted_by Served.block_by
    Served.body_by Served.served_by Served.judge_by Served.served Asked.searched_by Asked.kept_by Asked.body_by Asked.heard_by Asked.judge_by Asked.asked same_party
    among_sends was_sent all_bytes is_frame honest proper_frame proper_call advance image accepted_in end_in QuQuorum.count ArArea.pick ArArea.same ArArea.table_from
    ArArea.table ArArea.joined ArNumbers.be2 ArNumbers.be4 ArNumbers.be8 ArNumbers.bytes2 ArNumbers.bytes4 ArNumbers.bytes8 ◌⊕◌ FiField.reduction FiField.xtime
    FiField.shift_add ◌⊗◌ FiField.power_of FiField.Powers FiField.Logs BlCode.block_length BlCode.padded BlCode.stripe BlCode.block_byte BlCode.block_of
    BlCode.encoded BlCode.row BlCode.value_of BlCode.blocks_of BlCode.candidate BlCode.agree BlCode.decoded_all BlParams.parties_fit BlParams.threshold_fits
    BlParams.length_fits BlPoly.eval BlPoly.plus BlPoly.scale BlPoly.with_root BlPoly.vanishing BlPoly.newton_step BlPoly.through FrCoded.pieces
    FrCoded.lowest_value FrCoded.agreeing FrCoded.decoded FrCoded.digests_of FrCoded.entry_of FrCoded.fits FrFrames.kind_of FrFrames.retired FrFrames.length_of
    FrFrames.body_length FrFrames.entry_bytes FrFrames.offer_bytes FrFrames.stamp_bytes FrFrames.body_bytes FrFrames.header_bytes FrFrames.frame_of FrFrames.build
    FrFrames.framing_test FrFrames.header_in FrFrames.header_test FrFrames.body_test FrFrames.stamp_in FrFrames.stamp_test FrFrames.content_test FrFrames.frame_test
    FrFrames.opened FrFrames.opened_under FrFrames.body_in FrFrames.message_in FrMessages.to_from FrMessages.to_all FrMessages.clients_from FrMessages.to_clients
    FrParams.width FrParams.quota
    FrParams.largest_frame FrParams.out_room FrParams.to_room FrParams.own_test FrParams.code_test FrParams.bounds_test FrParams.params_test FrStamps.older
    FrStamps.same_stamp FrStamps.parts_agree SeBroadcast.votes SeBroadcast.enough SeBroadcast.due SeBroadcast.full SeBroadcast.matters
    SeRules.at_time SeRules.chosen SeRules.regained SeRules.unanimous SeState.fresh_blocks SeState.fresh_slot SeState.fresh_reader SeState.fresh_server
    SeState.block_view SeState.present_block SeState.present_entry SeSteps.voted_block SeSteps.on_block SeSteps.tell_from SeSteps.reported SeSteps.accept
    SeSteps.vouched SeSteps.lowest SeSteps.ripe_by SeSteps.ripe
    SeSteps.free SeSteps.freed SeSteps.settle SeSteps.on_read SeSteps.on_read_complete SeSteps.on_body SeSteps.effect SeTests.room_test
    SeTests.sender_right SeTests.counted SeTests.open_test SeTests.read_test SeTests.done_test SeTests.report_test FrCoded.fit_test SeTests.order_test
    SeTests.message_test
    SeTests.judge_opened SeTests.judge CB.length_test CB.read_test CB.write_test CB.open_read CB.open_write CB.begin_by CB.read_begun
    CB.write_begun CB.begun_of CB.read_beginning CB.write_beginning ClRows.places_from ClRows.row_view ClRows.has_stamp ClRows.smallest ClRows.place_for
    ClRows.at_stamp ClRows.rows_from ClRows.agreed ClRows.first_by ClRows.first_agreed ClRows.found_of ClRows.found_by ClRows.search ClState.fresh_row
    ClState.fresh_client ClState.largest ClSteps.quorate ClSteps.send_below ClSteps.counted ClSteps.gathered ClSteps.largest_counted ClSteps.gather_by
    ClSteps.report_by ClSteps.on_report GrVouching.backed ClSteps.on_stamp ClSteps.end_by ClSteps.on_ack ClSteps.complete_by
    ClSteps.settle ClSteps.keep_by ClSteps.on_value ClSteps.on_body ClSteps.effect ClTests.send_room ClTests.room_test ClTests.value_test ClTests.answers
    ClTests.owner_right
    ClTests.awaited ClTests.order_test ClTests.message_test ClTests.judge_opened ClTests.judge
its_completes = refl

computed : Computed
unfolding judged_bad verdict_bad refused_in FrChunks.entry_at RuWorld.start SeDelivery.construct_test SeDelivery.construct_by SeDelivery.construction Toy.toy
    Toy.start_write g initial value nobodys Z largest stamp entry_for offer_for stamp_asked stamp_from block_to block read_asked initial_from value_from false_value
    false_echo false_time no_frame time_alone false_block no_room_hand opening asking refused rounds spread first second told calls write found Toy.zeros Toy.enormous
    Toy.four Toy.setup Toy.hand_server Toy.hand_client Toy.start_read Served.lowest_by Served.free_by Served.freed_by Served.settled_by Served.voted_by Served.block_by
    Served.body_by Served.served_by Served.judge_by Served.served Asked.searched_by Asked.kept_by Asked.body_by Asked.heard_by Asked.judge_by Asked.asked same_party
    among_sends was_sent all_bytes is_frame honest proper_frame proper_call advance image accepted_in end_in QuQuorum.count ArArea.pick ArArea.same ArArea.table_from
    ArArea.table ArArea.joined ArNumbers.be2 ArNumbers.be4 ArNumbers.be8 ArNumbers.bytes2 ArNumbers.bytes4 ArNumbers.bytes8 ◌⊕◌ FiField.reduction FiField.xtime
    FiField.shift_add ◌⊗◌ FiField.power_of FiField.Powers FiField.Logs BlCode.block_length BlCode.padded BlCode.stripe BlCode.block_byte BlCode.block_of
    BlCode.encoded BlCode.row BlCode.value_of BlCode.blocks_of BlCode.candidate BlCode.agree BlCode.decoded_all BlParams.parties_fit BlParams.threshold_fits
    BlParams.length_fits BlPoly.eval BlPoly.plus BlPoly.scale BlPoly.with_root BlPoly.vanishing BlPoly.newton_step BlPoly.through FrCoded.pieces
    FrCoded.lowest_value FrCoded.agreeing FrCoded.decoded FrCoded.digests_of FrCoded.entry_of FrCoded.fits FrFrames.kind_of FrFrames.retired FrFrames.length_of
    FrFrames.body_length FrFrames.entry_bytes FrFrames.offer_bytes FrFrames.stamp_bytes FrFrames.body_bytes FrFrames.header_bytes FrFrames.frame_of FrFrames.build
    FrFrames.framing_test FrFrames.header_in FrFrames.header_test FrFrames.body_test FrFrames.stamp_in FrFrames.stamp_test FrFrames.content_test FrFrames.frame_test
    FrFrames.opened FrFrames.opened_under FrFrames.body_in FrFrames.message_in FrMessages.to_from FrMessages.to_all FrMessages.clients_from FrMessages.to_clients
    FrParams.width FrParams.quota
    FrParams.largest_frame FrParams.out_room FrParams.to_room FrParams.own_test FrParams.code_test FrParams.bounds_test FrParams.params_test FrStamps.older
    FrStamps.same_stamp FrStamps.parts_agree SeBroadcast.votes SeBroadcast.enough SeBroadcast.due SeBroadcast.full SeBroadcast.matters
    SeRules.at_time SeRules.chosen SeRules.regained SeRules.unanimous SeState.fresh_blocks SeState.fresh_slot SeState.fresh_reader SeState.fresh_server
    SeState.block_view SeState.present_block SeState.present_entry SeSteps.voted_block SeSteps.on_block SeSteps.tell_from SeSteps.reported SeSteps.accept
    SeSteps.vouched SeSteps.lowest SeSteps.ripe_by SeSteps.ripe
    SeSteps.free SeSteps.freed SeSteps.settle SeSteps.on_read SeSteps.on_read_complete SeSteps.on_body SeSteps.effect SeTests.room_test
    SeTests.sender_right SeTests.counted SeTests.open_test SeTests.read_test SeTests.done_test SeTests.report_test FrCoded.fit_test SeTests.order_test
    SeTests.message_test
    SeTests.judge_opened SeTests.judge CB.length_test CB.read_test CB.write_test CB.open_read CB.open_write CB.begin_by CB.read_begun
    CB.write_begun CB.begun_of CB.read_beginning CB.write_beginning ClRows.places_from ClRows.row_view ClRows.has_stamp ClRows.smallest ClRows.place_for
    ClRows.at_stamp ClRows.rows_from ClRows.agreed ClRows.first_by ClRows.first_agreed ClRows.found_of ClRows.found_by ClRows.search ClState.fresh_row
    ClState.fresh_client ClState.largest ClSteps.quorate ClSteps.send_below ClSteps.counted ClSteps.gathered ClSteps.largest_counted ClSteps.gather_by
    ClSteps.report_by ClSteps.on_report GrVouching.backed ClSteps.on_stamp ClSteps.end_by ClSteps.on_ack ClSteps.complete_by
    ClSteps.settle ClSteps.keep_by ClSteps.on_value ClSteps.on_body ClSteps.effect ClTests.send_room ClTests.room_test ClTests.value_test ClTests.answers
    ClTests.owner_right
    ClTests.awaited ClTests.order_test ClTests.message_test ClTests.judge_opened ClTests.judge
computed = record {
  proper = its_proper;
  stale = refl;
  busy = refl;
  framing = refl;
  kind = refl;
  digest = refl;
  room = refl;
  larger = its_larger;
  smaller = its_smaller;
  completes = its_completes;
  number = refl;
}

-- ---- so

stale : At (Refuses Z 12) calls 20
unfolding opening asking refused rounds spread first second told calls
stale = at_drop (Refuses Z 12) 34 calls 20 (inl (refl, refuses_by Z exact asking (read_asked 1) 12 computed.stale))

busy : At (Refuses Z 15) calls 21
unfolding opening asking refused rounds spread first second told calls
busy = at_drop (Refuses Z 15) 33 calls 21 (inl (refl, refuses_by Z exact (read_asked 1 ∷ asking) (Toy.start_write g 1 (value 2)) 15 computed.busy))

framing : At (Refuses Z 4) calls 22
unfolding opening asking refused rounds spread first second told calls
framing = at_drop (Refuses Z 4) 32 calls 22
    (inl (refl, refuses_by Z exact (Toy.start_write g 1 (value 2) ∷ read_asked 1 ∷ asking) no_frame 4 computed.framing))

kind : At (Refuses Z 6) calls 23
unfolding opening asking refused rounds spread first second told calls
kind = at_drop (Refuses Z 6) 31 calls 23
    (inl (refl, refuses_by Z exact (no_frame ∷ Toy.start_write g 1 (value 2) ∷ read_asked 1 ∷ asking) time_alone 6 computed.kind))

digest : At (Refuses Z 14) calls 24
unfolding opening asking refused rounds spread first second told calls
digest = at_drop (Refuses Z 14) 30 calls 24
    (inl (refl, refuses_by Z exact (time_alone ∷ no_frame ∷ Toy.start_write g 1 (value 2) ∷ read_asked 1 ∷ asking) false_block 14 computed.digest))

room : At (Refuses Z 10) calls 25
unfolding opening asking refused rounds spread first second told calls
room = at_drop (Refuses Z 10) 29 calls 25
    (inl (refl, refuses_by Z exact (false_block ∷ time_alone ∷ no_frame ∷ Toy.start_write g 1 (value 2) ∷ read_asked 1 ∷ asking) no_room_hand 10 computed.room))

larger : At (Accepts Z 1 (write 2)) calls 44
unfolding opening asking refused rounds spread first second told calls block Toy.hand_server
larger = at_drop (Accepts Z 1 (write 2)) 10 calls 44
    (inl (refl, accepts_by Z exact first (block ready 2 2 1) 1 (write 2) refl (rw computed.larger (Memᴰ.head refl))))

smaller : At (Accepts Z 1 (write 1)) calls 47
unfolding opening asking refused rounds spread first second told calls block Toy.hand_server
smaller = at_drop (Accepts Z 1 (write 1)) 7 calls 47
    (inl (refl, accepts_by Z exact second (block ready 1 2 1) 1 (write 1) refl (rw computed.smaller (Memᴰ.head refl))))

completes : At (CompletesRead Z 3 1 found) calls 54
unfolding opening asking refused rounds spread first second told calls value_from Toy.hand_client found
completes = inl (refl, (stops_by Z exact told (value_from 2 4) 3 1 found refl computed.number computed.completes, (value 2, refl)))

-- ---- the row

-- of two operations in a row one comes before the other
either : (l : List Operation) (a b : Operation) → (a ≡ b → ⊥) → Memᴰ a l → Memᴰ b l → Stands l a b ⊎ Stands l b a
either [] a b n u v = absurd (Memᴰ.not-nil u)
either (o ∷ l) a b n u v = ⊎_elim
    (λ e. ⊎_elim (λ f. absurd (n (e ∙ sym f))) (λ w. inl (inl (sym e, w))) (Memᴰ.cases_cons v))
    (λ w. ⊎_elim
    (λ f. inr (inl (sym f, w)))
    (λ x. ⊎_elim (λ s. inl (inr s)) (λ s. inr (inr s)) (either l a b n w x))
    (Memᴰ.cases_cons v))
    (Memᴰ.cases_cons u)

not_older : (older (stamp 2) (stamp 1) ≡ false) × (older (stamp 2) (stamp 2) ≡ false)
unfolding stamp ArArea.pick older
not_older = (refl, refl)

module _ (D : Demand3 Z calls) where
  one : Memᴰ (writing 1) D.row
  unfolding writing write stamp largest ArArea.pick
  one = D.all (writing 1) (inr (refl, (1, write 1, 47, smaller, refl, refl, refl)))

  two : Memᴰ (writing 2) D.row
  unfolding writing write stamp largest ArArea.pick
  two = D.all (writing 2) (inr (refl, (1, write 2, 44, larger, refl, refl, refl)))

  last : Memᴰ reading D.row
  unfolding reading found
  last = D.all reading (inl (refl, (found, 54, completes, refl)))

  not_back : InOrder Z calls (writing 2) (writing 1) → ⊥
  unfolding writing
  not_back (by_stamp h) = impossible (cc (h, not_older.0))
  not_back (write_first e p q) = impossible (cc q)
  not_back (as_ended e p q h) = impossible (cc p)

  not_first : InOrder Z calls reading (writing 2) → ⊥
  unfolding writing reading
  not_first (by_stamp h) = impossible (cc (h, not_older.1))
  not_first (write_first e p q) = impossible (cc p)
  not_first (as_ended e p q h) = impossible (cc q)

  in_order_lem : Stands D.row (writing 1) (writing 2) × Stands D.row (writing 2) reading
  unfolding writing reading
  in_order_lem = (
    ⊎_elim (λ s. s) (λ s. absurd (not_back (D.sorted (writing 2) (writing 1) s)))
        (either D.row (writing 1) (writing 2) (λ e. absurd (omega (arith, ap (λ o. o.client) e))) one two),
    ⊎_elim (λ s. s) (λ s. absurd (not_first (D.sorted reading (writing 2) s)))
        (either D.row (writing 2) reading (λ e. absurd (omega (arith, ap (λ o. o.client) e))) two last),
  )

pub shown : Shown
shown = record {
  sound = sound;
  admissible = admissible_by Z exact calls computed.proper;
  stale = stale;
  busy = busy;
  framing = framing;
  kind = kind;
  digest = digest;
  room = room;
  larger = larger;
  smaller = smaller;
  completes = completes;
  in_order_lem = in_order_lem;
}
