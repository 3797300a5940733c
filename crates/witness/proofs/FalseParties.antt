-- The run of FalseParties.antt, computed: it is admissible, and the read completes with the initial value. Assumes nothing.
use native.Mathlib.Omega.{arith}
use mathlib.Core.Path.{refl}
use mathlib.Core.Logic.{inl, inr}
use mathlib.Core.List.Memᴰ
use lib.Dec.{eqb}
use Rattle.quorum.proofs.Logic.{impossible}
use Rattle.frame.specs.Frames.{build}
use Rattle.runs.specs.Events.{At, CompletesRead}
use Rattle.runs.specs.Admissible.{Admissible}
use Rattle.quorum.specs.Quorum as QuQuorum
use Rattle.area.specs.Area as ArArea
use Rattle.area.specs.Numbers as ArNumbers
use Rattle.field.specs.Field as FiField
use Rattle.field.specs.Field.{◌⊕◌}
use Rattle.field.specs.Field.{◌⊗◌}
use Rattle.blocks.specs.Calls as BlCalls
use Rattle.blocks.specs.Code as BlCode
use Rattle.blocks.specs.Params as BlParams
use Rattle.blocks.specs.Poly as BlPoly
use Rattle.frame.specs.Chunks as FrChunks
use Rattle.group_rules.specs.Coded as FrCoded
use Rattle.group_rules.specs.Vouching as GrVouching
use Rattle.frame.specs.Frames as FrFrames
use Rattle.frame.specs.Messages as FrMessages
use Rattle.frame.specs.Outbox as FrOutbox
use Rattle.frame.specs.Params as FrParams
use Rattle.frame.specs.Stamps as FrStamps
use Rattle.server_rules.specs.Broadcast as SeBroadcast
use Rattle.server_rules.specs.Delivery as SeDelivery
use Rattle.server_rules.specs.Rules as SeRules
use Rattle.server_rules.specs.State as SeState
use Rattle.server_rules.specs.Steps as SeSteps
use Rattle.server_rules.specs.Tests as SeTests
use Rattle.client_rules.specs.Beginning as ClBeginning
use Rattle.client_rules.specs.Delivery as ClDelivery
use Rattle.client_rules.specs.Rows as ClRows
use Rattle.client_rules.specs.State as ClState
use Rattle.client_rules.specs.Steps as ClSteps
use Rattle.client_rules.specs.Tests as ClTests
use Rattle.runs.specs.World as RuWorld
use Rattle.runs.specs.World.{Sound}
use Rattle.witness.specs.Toy as Toy
use Rattle.witness.specs.FalseParties.{g, initial, Z, false_block, question, answer, calls, found, Shown}
use Rattle.witness.proofs.Setups as Setups
use Rattle.witness.proofs.Images.{all_bytes}
use Rattle.witness.proofs.Depicted.{are_bytes}

-- both, computed
computed : At (CompletesRead Z 2 1 found) calls 6 × Admissible Z calls
unfolding all_bytes Toy.toy Toy.zeros Toy.four Toy.setup Toy.hand_server Toy.hand_client Toy.start_read g initial Z false_block question answer calls found
    QuQuorum.count ArArea.pick ArArea.same ArArea.table_from ArArea.table ArArea.joined ArNumbers.be2 ArNumbers.be4 ArNumbers.be8
    ArNumbers.bytes2 ArNumbers.bytes4 ArNumbers.bytes8 ◌⊕◌ FiField.reduction FiField.xtime FiField.shift_add ◌⊗◌ FiField.power_of FiField.Powers FiField.Logs
    BlCalls.written BlCalls.encode_test BlCalls.encoding BlCalls.absent BlCalls.number_fits BlCalls.numbers_fit BlCalls.decode_test BlCalls.decoding
    BlCode.block_length BlCode.padded BlCode.stripe BlCode.block_byte BlCode.block_of BlCode.encoded BlCode.row BlCode.value_of BlCode.blocks_of BlCode.candidate
    BlCode.agree BlCode.decoded_all BlParams.parties_fit BlParams.threshold_fits BlParams.length_fits BlParams.demand BlParams.and_then
    BlParams.params_test BlPoly.eval BlPoly.plus BlPoly.scale BlPoly.with_root BlPoly.vanishing BlPoly.newton_step BlPoly.through FrChunks.entry_at
    FrChunks.store_entry FrCoded.pieces FrCoded.lowest_value FrCoded.agreeing FrCoded.decoded FrCoded.digests_of FrCoded.entry_of FrCoded.fits FrFrames.kind_of
    FrFrames.retired FrFrames.length_of FrFrames.body_length FrFrames.entry_bytes FrFrames.offer_bytes FrFrames.stamp_bytes FrFrames.body_bytes FrFrames.header_bytes
    FrFrames.frame_of FrFrames.build FrFrames.framing_test FrFrames.header_in FrFrames.header_test FrFrames.body_test FrFrames.stamp_in FrFrames.stamp_test
    FrFrames.content_test FrFrames.frame_test FrFrames.opened FrFrames.opened_under FrFrames.body_in FrFrames.message_in FrMessages.to_from FrMessages.to_all
    FrOutbox.frames FrOutbox.party_bytes FrOutbox.receivers FrOutbox.sent FrOutbox.wrote FrOutbox.wrote_to FrParams.width FrParams.quota FrParams.largest_frame
    FrParams.out_room FrParams.to_room FrParams.own_test FrParams.code_test FrParams.bounds_test FrParams.params_test FrStamps.older
    FrStamps.same_stamp FrStamps.parts_agree SeBroadcast.votes SeBroadcast.enough SeBroadcast.due SeBroadcast.full SeBroadcast.matters
    SeDelivery.effect_by SeDelivery.delivered SeDelivery.reply_of SeDelivery.outcome_of SeDelivery.delivery SeDelivery.construct_test SeDelivery.construct_by
    SeDelivery.construction SeRules.at_time SeRules.chosen SeRules.regained SeRules.unanimous SeState.fresh_blocks SeState.fresh_slot SeState.fresh_reader
    SeState.fresh_server SeState.block_view SeState.present_block SeState.present_entry SeSteps.voted_block SeSteps.on_block SeSteps.tell_from SeSteps.accept
    SeSteps.ripe_by SeSteps.ripe SeSteps.free SeSteps.freed SeSteps.settle SeSteps.on_read SeSteps.on_read_complete SeSteps.on_body SeSteps.effect
    SeTests.room_test SeTests.sender_right SeTests.counted SeTests.open_test SeTests.read_test SeTests.done_test SeTests.report_test FrCoded.fit_test SeTests.order_test
    SeTests.message_test SeTests.judge_opened SeTests.judge ClBeginning.length_test ClBeginning.read_test
    ClBeginning.write_test ClBeginning.open_read ClBeginning.open_write ClBeginning.begin_by ClBeginning.read_begun ClBeginning.write_begun
    ClBeginning.begun_of ClBeginning.read_beginning ClBeginning.write_beginning ClDelivery.progress_by ClDelivery.answer_of ClDelivery.result_of ClDelivery.outcome_of
    ClDelivery.effect_by ClDelivery.delivered ClDelivery.delivery ClRows.places_from ClRows.row_view ClRows.has_stamp ClRows.smallest ClRows.place_for ClRows.at_stamp
    ClRows.rows_from ClRows.agreed ClRows.first_by ClRows.first_agreed ClRows.found_of ClRows.found_by ClRows.search ClState.fresh_row ClState.fresh_client
    ClState.largest ClSteps.quorate ClSteps.send_below ClSteps.counted ClSteps.gathered ClSteps.largest_counted ClSteps.gather_by ClSteps.report_by
    ClSteps.on_report GrVouching.backed ClSteps.on_stamp ClSteps.end_by ClSteps.on_ack ClSteps.complete_by ClSteps.settle
    ClSteps.keep_by ClSteps.on_value ClSteps.on_body ClSteps.effect ClTests.send_room ClTests.room_test ClTests.value_test ClTests.answers ClTests.owner_right
    ClTests.awaited
    ClTests.order_test ClTests.message_test ClTests.judge_opened ClTests.judge RuWorld.start RuWorld.step RuWorld.run RuWorld.sends
computed = (
  inl (refl, ((refl, refl, refl), (initial, refl))),
  (
    (((omega arith, omega arith), refl), are_bytes (build (answer 4)) refl, λ x o h. impossible (cc h.1)),
    (
      (((omega arith, omega arith), refl), are_bytes (build (answer 2)) refl, λ x o h. inr (inl (refl, _, Memᴰ.head refl, refl, refl))),
      (
        (((omega arith, omega arith), refl), are_bytes (build (answer 1)) refl, λ x o h. inr (inl (refl, _, Memᴰ.head refl, refl, refl))),
        (
          (((omega arith, omega arith), refl), are_bytes (build question) refl, λ x o h. inr (inl (refl, _, Memᴰ.tail (Memᴰ.head refl), refl, refl))),
          (
            (((omega arith, omega arith), refl), are_bytes (build question) refl, λ x o h. inl (refl, _, Memᴰ.head refl, refl, refl)),
            (
              ((omega arith, omega arith), refl),
              ((((omega arith, omega arith), refl), are_bytes (build false_block) refl, λ x o h. impossible (cc h.1)), tt),
            ),
          ),
        ),
      ),
    ),
  ),
)

sound : Sound Z
unfolding Z g Toy.four initial QuQuorum.count
sound = Setups.sound Toy.toy g initial 4 (λ c. eqb c 1) (Setups.bounded 1 1 (omega arith) (omega arith) (omega arith) (omega arith))
    (record { many = omega arith; few = omega arith }) refl (omega arith, tt)

pub shown : Shown
shown = record { sound = sound; admissible = computed.1; completes = computed.0 }
