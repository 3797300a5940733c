-- The runs of Waiting.antt, computed: they are admissible, two writes wait, and reports or the server's own time free them. Assumes nothing.
use native.Mathlib.Omega.{arith}
use mathlib.Core.Bool.{true, false}
use mathlib.Core.Path.{◌≡◌, refl, ap, ◌∙◌}
use mathlib.Core.Logic.{inl, inr}
use mathlib.Core.List.{[], ◌∷◌}
use Rattle.frame.specs.Params.{Bounded}
use Rattle.frame.specs.Messages.{ready}
use Rattle.server_rules.specs.State.{slot_of}
use Rattle.runs.specs.World.{Sound, run}
use Rattle.runs.specs.Events.{At}
use Rattle.quorum.specs.Quorum as QuQuorum
use Rattle.area.specs.Area as ArArea
use Rattle.area.specs.Numbers as ArNumbers
use Rattle.field.specs.Field as FiField
use Rattle.field.specs.Field.{◌⊕◌}
use Rattle.field.specs.Field.{◌⊗◌}
use Rattle.blocks.specs.Code as BlCode
use Rattle.blocks.specs.Params as BlParams
use Rattle.blocks.specs.Poly as BlPoly
use Rattle.group_rules.specs.Coded as FrCoded
use Rattle.group_rules.specs.Vouching as GrVouching
use Rattle.frame.specs.Frames as FrFrames
use Rattle.frame.specs.Messages as FrMessages
use Rattle.frame.specs.Params as FrParams
use Rattle.frame.specs.Stamps as FrStamps
use Rattle.server_rules.specs.Broadcast as SeBroadcast
use Rattle.frame.specs.Chunks as FrChunks
use Rattle.server_rules.specs.Delivery as SeDelivery
use Rattle.runs.specs.World as RuWorld
use Rattle.server_rules.specs.Rules as SeRules
use Rattle.server_rules.specs.State as SeState
use Rattle.server_rules.specs.Steps as SeSteps
use Rattle.server_rules.specs.Tests as SeTests
use Rattle.client_rules.specs.Beginning as CB
use Rattle.client_rules.specs.Rows as ClRows
use Rattle.client_rules.specs.State as ClState
use Rattle.client_rules.specs.Steps as ClSteps
use Rattle.client_rules.specs.Tests as ClTests
use Rattle.witness.specs.Toy as Toy
use Rattle.witness.proofs.Setups as Setups
use Rattle.witness.proofs.Served as Served
use Rattle.witness.proofs.Asked as Asked
use Rattle.witness.specs.Waiting.{g, initial, Z, value, offered, offer_for, block_to, block, report_from, rounds, readied, waiting, reporting, by_reports}
use Rattle.witness.specs.Waiting.{reaching, by_own_time, write, AcceptsAll, Shown}
use Rattle.witness.proofs.Images.{same_party, among_sends, was_sent, all_bytes, judged_bad, verdict_bad, is_frame, honest}
use Rattle.witness.proofs.Images.{proper_frame, proper_call, advance, image, refused_in, accepted_in, end_in}
use Rattle.witness.proofs.Depicted.{Exact, admissible_by, accepted_by_lem, depicts, at_drop}

bounded : Bounded g
unfolding g
bounded = Setups.bounded 1 1 (omega arith) (omega arith) (omega arith) (omega arith)

exact : Exact Z
unfolding Z
exact = Setups.exact Toy.toy g initial 4 (λ c. true) bounded

sound : Sound Z
unfolding Z g Toy.four initial QuQuorum.count
sound = Setups.sound Toy.toy g initial 4 (λ c. true) bounded (record { many = omega arith; few = omega arith }) refl (omega arith, tt)

-- ---- the runs, computed

-- in three parts: together they take more steps than one declaration may
proper : ((image Z by_reports).proper ≡ true) × ((image Z by_own_time).proper ≡ true)
unfolding g initial Z value offered offer_for block_to block report_from rounds readied waiting reporting by_reports reaching by_own_time write judged_bad verdict_bad
    refused_in FrChunks.entry_at RuWorld.start SeDelivery.construct_test SeDelivery.construct_by SeDelivery.construction Toy.toy Toy.start_write Toy.zeros
    Toy.four Toy.setup Toy.hand_server Toy.hand_client Toy.start_read Served.lowest_by Served.free_by Served.freed_by Served.settled_by Served.voted_by
    Served.block_by Served.body_by Served.served_by Served.judge_by Served.served Asked.searched_by Asked.kept_by Asked.body_by Asked.heard_by Asked.judge_by
    Asked.asked same_party among_sends was_sent all_bytes is_frame honest proper_frame proper_call advance image accepted_in end_in QuQuorum.count ArArea.pick
    ArArea.same ArArea.table_from ArArea.table ArArea.joined ArNumbers.be2 ArNumbers.be4 ArNumbers.be8 ArNumbers.bytes2 ArNumbers.bytes4 ArNumbers.bytes8 ◌⊕◌
    FiField.reduction FiField.xtime FiField.shift_add ◌⊗◌ FiField.power_of FiField.Powers FiField.Logs BlCode.block_length BlCode.padded BlCode.stripe
    BlCode.block_byte BlCode.block_of BlCode.encoded BlCode.row BlCode.value_of BlCode.blocks_of BlCode.candidate BlCode.agree BlCode.decoded_all
    BlParams.parties_fit BlParams.threshold_fits BlParams.length_fits BlPoly.eval BlPoly.plus BlPoly.scale BlPoly.with_root BlPoly.vanishing BlPoly.newton_step
    BlPoly.through FrCoded.pieces FrCoded.lowest_value FrCoded.agreeing FrCoded.decoded FrCoded.digests_of FrCoded.entry_of FrCoded.fits FrFrames.kind_of
    FrFrames.retired FrFrames.length_of FrFrames.body_length FrFrames.entry_bytes FrFrames.offer_bytes FrFrames.stamp_bytes FrFrames.body_bytes
    FrFrames.header_bytes FrFrames.frame_of FrFrames.build FrFrames.framing_test FrFrames.header_in FrFrames.header_test FrFrames.body_test FrFrames.stamp_in
    FrFrames.stamp_test FrFrames.content_test FrFrames.frame_test FrFrames.opened FrFrames.opened_under FrFrames.body_in FrFrames.message_in FrMessages.to_from
    FrMessages.to_all FrMessages.clients_from FrMessages.to_clients FrParams.width FrParams.quota FrParams.largest_frame FrParams.out_room FrParams.to_room
    FrParams.own_test FrParams.code_test FrParams.bounds_test FrParams.params_test FrStamps.older FrStamps.same_stamp FrStamps.parts_agree SeBroadcast.votes
    SeBroadcast.enough SeBroadcast.due SeBroadcast.full SeBroadcast.matters SeRules.at_time SeRules.chosen SeRules.regained SeRules.unanimous
    SeState.fresh_blocks SeState.fresh_slot SeState.fresh_reader SeState.fresh_server SeState.block_view SeState.present_block SeState.present_entry
    SeSteps.voted_block SeSteps.on_block SeSteps.tell_from SeSteps.reported SeSteps.accept SeSteps.vouched SeSteps.lowest SeSteps.ripe_by SeSteps.ripe
    SeSteps.free SeSteps.freed SeSteps.settle SeSteps.on_read SeSteps.on_read_complete SeSteps.on_body SeSteps.effect SeTests.room_test SeTests.sender_right
    SeTests.counted SeTests.open_test SeTests.read_test SeTests.done_test SeTests.report_test FrCoded.fit_test SeTests.order_test SeTests.message_test
    SeTests.judge_opened SeTests.judge CB.length_test CB.read_test CB.write_test CB.open_read CB.open_write CB.begin_by CB.read_begun CB.write_begun CB.begun_of
    CB.read_beginning CB.write_beginning ClRows.places_from ClRows.row_view ClRows.has_stamp ClRows.smallest ClRows.place_for ClRows.at_stamp ClRows.rows_from
    ClRows.agreed ClRows.first_by ClRows.first_agreed ClRows.found_of ClRows.found_by ClRows.search ClState.fresh_row ClState.fresh_client ClState.largest
    ClSteps.quorate ClSteps.send_below ClSteps.counted ClSteps.gathered ClSteps.largest_counted ClSteps.gather_by ClSteps.report_by ClSteps.on_report
    GrVouching.backed ClSteps.on_stamp ClSteps.end_by ClSteps.on_ack ClSteps.complete_by ClSteps.settle ClSteps.keep_by ClSteps.on_value ClSteps.on_body
    ClSteps.effect ClTests.send_room ClTests.room_test ClTests.value_test ClTests.answers ClTests.owner_right ClTests.awaited ClTests.order_test
    ClTests.message_test ClTests.judge_opened ClTests.judge
proper = (refl, refl)

record Waits : Type 0 where
  pub time : ((image Z waiting).servers 1).server.stamp.time ≡ 0
  pub first : (slot_of ((image Z waiting).servers 1).server 1).blocks.complete ≡ true
  pub second : (slot_of ((image Z waiting).servers 1).server 2).blocks.complete ≡ true

waits : Waits
unfolding g initial Z value offered offer_for block_to block report_from rounds readied waiting reporting by_reports reaching by_own_time write judged_bad verdict_bad
    refused_in FrChunks.entry_at RuWorld.start SeDelivery.construct_test SeDelivery.construct_by SeDelivery.construction Toy.toy Toy.start_write Toy.zeros
    Toy.four Toy.setup Toy.hand_server Toy.hand_client Toy.start_read Served.lowest_by Served.free_by Served.freed_by Served.settled_by Served.voted_by
    Served.block_by Served.body_by Served.served_by Served.judge_by Served.served Asked.searched_by Asked.kept_by Asked.body_by Asked.heard_by Asked.judge_by
    Asked.asked same_party among_sends was_sent all_bytes is_frame honest proper_frame proper_call advance image accepted_in end_in QuQuorum.count ArArea.pick
    ArArea.same ArArea.table_from ArArea.table ArArea.joined ArNumbers.be2 ArNumbers.be4 ArNumbers.be8 ArNumbers.bytes2 ArNumbers.bytes4 ArNumbers.bytes8 ◌⊕◌
    FiField.reduction FiField.xtime FiField.shift_add ◌⊗◌ FiField.power_of FiField.Powers FiField.Logs BlCode.block_length BlCode.padded BlCode.stripe
    BlCode.block_byte BlCode.block_of BlCode.encoded BlCode.row BlCode.value_of BlCode.blocks_of BlCode.candidate BlCode.agree BlCode.decoded_all
    BlParams.parties_fit BlParams.threshold_fits BlParams.length_fits BlPoly.eval BlPoly.plus BlPoly.scale BlPoly.with_root BlPoly.vanishing BlPoly.newton_step
    BlPoly.through FrCoded.pieces FrCoded.lowest_value FrCoded.agreeing FrCoded.decoded FrCoded.digests_of FrCoded.entry_of FrCoded.fits FrFrames.kind_of
    FrFrames.retired FrFrames.length_of FrFrames.body_length FrFrames.entry_bytes FrFrames.offer_bytes FrFrames.stamp_bytes FrFrames.body_bytes
    FrFrames.header_bytes FrFrames.frame_of FrFrames.build FrFrames.framing_test FrFrames.header_in FrFrames.header_test FrFrames.body_test FrFrames.stamp_in
    FrFrames.stamp_test FrFrames.content_test FrFrames.frame_test FrFrames.opened FrFrames.opened_under FrFrames.body_in FrFrames.message_in FrMessages.to_from
    FrMessages.to_all FrMessages.clients_from FrMessages.to_clients FrParams.width FrParams.quota FrParams.largest_frame FrParams.out_room FrParams.to_room
    FrParams.own_test FrParams.code_test FrParams.bounds_test FrParams.params_test FrStamps.older FrStamps.same_stamp FrStamps.parts_agree SeBroadcast.votes
    SeBroadcast.enough SeBroadcast.due SeBroadcast.full SeBroadcast.matters SeRules.at_time SeRules.chosen SeRules.regained SeRules.unanimous
    SeState.fresh_blocks SeState.fresh_slot SeState.fresh_reader SeState.fresh_server SeState.block_view SeState.present_block SeState.present_entry
    SeSteps.voted_block SeSteps.on_block SeSteps.tell_from SeSteps.reported SeSteps.accept SeSteps.vouched SeSteps.lowest SeSteps.ripe_by SeSteps.ripe
    SeSteps.free SeSteps.freed SeSteps.settle SeSteps.on_read SeSteps.on_read_complete SeSteps.on_body SeSteps.effect SeTests.room_test SeTests.sender_right
    SeTests.counted SeTests.open_test SeTests.read_test SeTests.done_test SeTests.report_test FrCoded.fit_test SeTests.order_test SeTests.message_test
    SeTests.judge_opened SeTests.judge CB.length_test CB.read_test CB.write_test CB.open_read CB.open_write CB.begin_by CB.read_begun CB.write_begun CB.begun_of
    CB.read_beginning CB.write_beginning ClRows.places_from ClRows.row_view ClRows.has_stamp ClRows.smallest ClRows.place_for ClRows.at_stamp ClRows.rows_from
    ClRows.agreed ClRows.first_by ClRows.first_agreed ClRows.found_of ClRows.found_by ClRows.search ClState.fresh_row ClState.fresh_client ClState.largest
    ClSteps.quorate ClSteps.send_below ClSteps.counted ClSteps.gathered ClSteps.largest_counted ClSteps.gather_by ClSteps.report_by ClSteps.on_report
    GrVouching.backed ClSteps.on_stamp ClSteps.end_by ClSteps.on_ack ClSteps.complete_by ClSteps.settle ClSteps.keep_by ClSteps.on_value ClSteps.on_body
    ClSteps.effect ClTests.send_room ClTests.room_test ClTests.value_test ClTests.answers ClTests.owner_right ClTests.awaited ClTests.order_test
    ClTests.message_test ClTests.judge_opened ClTests.judge
waits = record { time = refl; first = refl; second = refl }

record Accepted : Type 0 where
  pub not_yet : accepted_in Z (image Z waiting) (report_from 4) ≡ []
  pub freed : accepted_in Z (image Z reporting) (report_from 2) ≡ write 1 ∷ write 2 ∷ []
  pub reached : accepted_in Z (image Z reaching) (block ready 3 2 1) ≡ write 3 ∷ write 1 ∷ write 2 ∷ []

accepted : Accepted
unfolding g initial Z value offered offer_for block_to block report_from rounds readied waiting reporting by_reports reaching by_own_time write judged_bad verdict_bad
    refused_in FrChunks.entry_at RuWorld.start SeDelivery.construct_test SeDelivery.construct_by SeDelivery.construction Toy.toy Toy.start_write Toy.zeros
    Toy.four Toy.setup Toy.hand_server Toy.hand_client Toy.start_read Served.lowest_by Served.free_by Served.freed_by Served.settled_by Served.voted_by
    Served.block_by Served.body_by Served.served_by Served.judge_by Served.served Asked.searched_by Asked.kept_by Asked.body_by Asked.heard_by Asked.judge_by
    Asked.asked same_party among_sends was_sent all_bytes is_frame honest proper_frame proper_call advance image accepted_in end_in QuQuorum.count ArArea.pick
    ArArea.same ArArea.table_from ArArea.table ArArea.joined ArNumbers.be2 ArNumbers.be4 ArNumbers.be8 ArNumbers.bytes2 ArNumbers.bytes4 ArNumbers.bytes8 ◌⊕◌
    FiField.reduction FiField.xtime FiField.shift_add ◌⊗◌ FiField.power_of FiField.Powers FiField.Logs BlCode.block_length BlCode.padded BlCode.stripe
    BlCode.block_byte BlCode.block_of BlCode.encoded BlCode.row BlCode.value_of BlCode.blocks_of BlCode.candidate BlCode.agree BlCode.decoded_all
    BlParams.parties_fit BlParams.threshold_fits BlParams.length_fits BlPoly.eval BlPoly.plus BlPoly.scale BlPoly.with_root BlPoly.vanishing BlPoly.newton_step
    BlPoly.through FrCoded.pieces FrCoded.lowest_value FrCoded.agreeing FrCoded.decoded FrCoded.digests_of FrCoded.entry_of FrCoded.fits FrFrames.kind_of
    FrFrames.retired FrFrames.length_of FrFrames.body_length FrFrames.entry_bytes FrFrames.offer_bytes FrFrames.stamp_bytes FrFrames.body_bytes
    FrFrames.header_bytes FrFrames.frame_of FrFrames.build FrFrames.framing_test FrFrames.header_in FrFrames.header_test FrFrames.body_test FrFrames.stamp_in
    FrFrames.stamp_test FrFrames.content_test FrFrames.frame_test FrFrames.opened FrFrames.opened_under FrFrames.body_in FrFrames.message_in FrMessages.to_from
    FrMessages.to_all FrMessages.clients_from FrMessages.to_clients FrParams.width FrParams.quota FrParams.largest_frame FrParams.out_room FrParams.to_room
    FrParams.own_test FrParams.code_test FrParams.bounds_test FrParams.params_test FrStamps.older FrStamps.same_stamp FrStamps.parts_agree SeBroadcast.votes
    SeBroadcast.enough SeBroadcast.due SeBroadcast.full SeBroadcast.matters SeRules.at_time SeRules.chosen SeRules.regained SeRules.unanimous
    SeState.fresh_blocks SeState.fresh_slot SeState.fresh_reader SeState.fresh_server SeState.block_view SeState.present_block SeState.present_entry
    SeSteps.voted_block SeSteps.on_block SeSteps.tell_from SeSteps.reported SeSteps.accept SeSteps.vouched SeSteps.lowest SeSteps.ripe_by SeSteps.ripe
    SeSteps.free SeSteps.freed SeSteps.settle SeSteps.on_read SeSteps.on_read_complete SeSteps.on_body SeSteps.effect SeTests.room_test SeTests.sender_right
    SeTests.counted SeTests.open_test SeTests.read_test SeTests.done_test SeTests.report_test FrCoded.fit_test SeTests.order_test SeTests.message_test
    SeTests.judge_opened SeTests.judge CB.length_test CB.read_test CB.write_test CB.open_read CB.open_write CB.begin_by CB.read_begun CB.write_begun CB.begun_of
    CB.read_beginning CB.write_beginning ClRows.places_from ClRows.row_view ClRows.has_stamp ClRows.smallest ClRows.place_for ClRows.at_stamp ClRows.rows_from
    ClRows.agreed ClRows.first_by ClRows.first_agreed ClRows.found_of ClRows.found_by ClRows.search ClState.fresh_row ClState.fresh_client ClState.largest
    ClSteps.quorate ClSteps.send_below ClSteps.counted ClSteps.gathered ClSteps.largest_counted ClSteps.gather_by ClSteps.report_by ClSteps.on_report
    GrVouching.backed ClSteps.on_stamp ClSteps.end_by ClSteps.on_ack ClSteps.complete_by ClSteps.settle ClSteps.keep_by ClSteps.on_value ClSteps.on_body
    ClSteps.effect ClTests.send_room ClTests.room_test ClTests.value_test ClTests.answers ClTests.owner_right ClTests.awaited ClTests.order_test
    ClTests.message_test ClTests.judge_opened ClTests.judge
accepted = record { not_yet = refl; freed = refl; reached = refl }

-- ---- so

not_yet : At (AcceptsAll 1 []) by_reports 28
unfolding rounds readied waiting reporting by_reports report_from Toy.hand_server
not_yet = at_drop (AcceptsAll 1 []) 1 by_reports 28 (inl (refl, (refl, accepted_by_lem Z exact waiting 1 _ _ _ _ ∙ accepted.not_yet)))

freed : At (AcceptsAll 1 (write 1 ∷ write 2 ∷ [])) by_reports 29
unfolding rounds readied waiting reporting by_reports report_from Toy.hand_server
freed = inl (refl, (refl, accepted_by_lem Z exact reporting 1 _ _ _ _ ∙ accepted.freed))

reached : At (AcceptsAll 1 (write 3 ∷ write 1 ∷ write 2 ∷ [])) by_own_time 30
unfolding rounds readied waiting reaching by_own_time block Toy.hand_server
reached = inl (refl, (refl, accepted_by_lem Z exact reaching 1 _ _ _ _ ∙ accepted.reached))

pub shown : Shown
shown =
    let same = ((depicts Z exact waiting).servers 1).server in
    record {
      sound = sound;
      admissible = (admissible_by Z exact by_reports proper.0, admissible_by Z exact by_own_time proper.1);
      time = ap (λ s. s.stamp.time) same ∙ waits.time;
      complete = (ap (λ s. (slot_of s 1).blocks.complete) same ∙ waits.first, ap (λ s. (slot_of s 2).blocks.complete) same ∙ waits.second);
      not_yet = not_yet;
      freed = freed;
      reached = reached;
    }
