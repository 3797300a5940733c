-- The run of Colliding.antt, computed: it is admissible, the blocks of a read disagree, and the pair of blocks is there. Assumes nothing.
use Rattle.std.specs.Prelude.{Ok}
use Prim.Native.Nat.{ℕ}
use native.Mathlib.Omega.{arith}
use mathlib.Core.Bool.{true, false}
use mathlib.Core.Path.{◌≡◌, refl, ap}
use mathlib.Core.Logic.{inl}
use mathlib.Core.Option.{none, some}
use lib.ListN.{get_or, length-replicate}
use Rattle.frame.specs.declared.Party.TheVariants as P
use Rattle.frame.specs.Params.{Bounded}
use Rattle.frame.specs.Messages.{Carries}
use Rattle.client_rules.specs.Steps.{stopped}
use Rattle.runs.specs.World.{Sound, DigestSize}
use Rattle.runs.specs.Events.{At, CompletesRead, Disagrees}
use Rattle.runs.specs.Blocks.{InFrame, Collision, in_frame, of_initial}
use Rattle.quorum.specs.Quorum as QuQuorum
use Rattle.area.specs.Area as ArArea
use Rattle.area.specs.Numbers as ArNumbers
use Rattle.field.specs.Field as FiField
use Rattle.field.specs.Field.{◌⊕◌}
use Rattle.field.specs.Field.{◌⊗◌}
use Rattle.blocks.specs.Code as BlCode
use Rattle.blocks.specs.Params as BlParams
use Rattle.blocks.specs.Poly as BlPoly
use Rattle.group_rules.specs.Coded as FrCoded
use Rattle.group_rules.specs.Vouching as GrVouching
use Rattle.frame.specs.Frames as FrFrames
use Rattle.frame.specs.Messages as FrMessages
use Rattle.frame.specs.Params as FrParams
use Rattle.frame.specs.Stamps as FrStamps
use Rattle.server_rules.specs.Broadcast as SeBroadcast
use Rattle.frame.specs.Chunks as FrChunks
use Rattle.server_rules.specs.Delivery as SeDelivery
use Rattle.runs.specs.World as RuWorld
use Rattle.server_rules.specs.Rules as SeRules
use Rattle.server_rules.specs.State as SeState
use Rattle.server_rules.specs.Steps as SeSteps
use Rattle.server_rules.specs.Tests as SeTests
use Rattle.client_rules.specs.Beginning as CB
use Rattle.client_rules.specs.Rows as ClRows
use Rattle.client_rules.specs.State as ClState
use Rattle.client_rules.specs.Steps as ClSteps
use Rattle.client_rules.specs.Tests as ClTests
use Rattle.witness.specs.Toy as Toy
use Rattle.witness.proofs.Setups as Setups
use Rattle.witness.proofs.Served as Served
use Rattle.witness.proofs.Asked as Asked
use Rattle.witness.specs.Colliding.{blind, g, initial, other, Z, question, answer, lie, first, second, calls, found, Shown}
use Rattle.witness.proofs.Images.{same_party, among_sends, was_sent, all_bytes, is_frame, honest, proper_frame, proper_call, advance, image, accepted_in, end_in}
use Rattle.witness.proofs.Depicted.{Exact, admissible_by, stops_by, at_drop}

bounded : Bounded g
unfolding g
bounded = Setups.bounded 1 1 (omega arith) (omega arith) (omega arith) (omega arith)

exact : Exact Z
unfolding Z
exact = Setups.exact blind g initial 1 (λ c. false) bounded

sound : Sound Z
unfolding Z g Toy.four initial QuQuorum.count
sound = Setups.sound blind g initial 1 (λ c. false) bounded (record { many = omega arith; few = omega arith }) refl (omega arith, tt)

digest_size : DigestSize blind
unfolding blind Toy.zeros
digest_size b = length-replicate {A = ℕ} 32 0

-- ---- the run, computed

record Computed : Type 0 where
  pub proper : (image Z calls).proper ≡ true
  -- the two reads, and their numbers
  pub disagrees : end_in Z (image Z first) (Toy.hand_client g 2 (P.Server 3) (answer 2 3)) ≡ stopped (found none)
  pub right : end_in Z (image Z second) (Toy.hand_client g 3 (P.Server 4) (answer 3 4)) ≡ stopped (found (some initial))
  pub numbers : (((image Z first).clients 2).client.reads ≡ 1) × (((image Z second).clients 3).client.reads ≡ 1)
  -- server 1's frame opens and carries its block; the initial value's blocks are the value
  pub opens : FrFrames.opened g (FrFrames.build lie) ≡ Ok (FrFrames.header_for lie)
  pub carries : Carries (FrFrames.message_in g (FrFrames.header_for lie) (FrFrames.build lie)).body other
  pub initial_block : initial ≡ FrCoded.block_at blind g initial 2
  pub one_digest : blind other ≡ blind initial

computed : Computed
unfolding FrChunks.entry_at RuWorld.start SeDelivery.construct_test SeDelivery.construct_by SeDelivery.construction blind g initial other Z question answer lie
    first second calls found Toy.zeros Toy.four Toy.setup Toy.hand_server Toy.hand_client Toy.start_read Served.lowest_by Served.free_by Served.freed_by
    Served.settled_by Served.voted_by Served.block_by Served.body_by Served.served_by Served.judge_by Served.served Asked.searched_by Asked.kept_by Asked.body_by
    Asked.heard_by Asked.judge_by Asked.asked same_party among_sends was_sent all_bytes is_frame honest proper_frame proper_call advance image accepted_in end_in
    QuQuorum.count ArArea.pick ArArea.same ArArea.table_from ArArea.table ArArea.joined ArNumbers.be2 ArNumbers.be4 ArNumbers.be8 ArNumbers.bytes2
    ArNumbers.bytes4 ArNumbers.bytes8 ◌⊕◌ FiField.reduction FiField.xtime FiField.shift_add ◌⊗◌ FiField.power_of FiField.Powers FiField.Logs BlCode.block_length
    BlCode.padded BlCode.stripe BlCode.block_byte BlCode.block_of BlCode.encoded BlCode.row BlCode.value_of BlCode.blocks_of BlCode.candidate BlCode.agree
    BlCode.decoded_all BlParams.parties_fit BlParams.threshold_fits BlParams.length_fits BlPoly.eval BlPoly.plus BlPoly.scale BlPoly.with_root BlPoly.vanishing
    BlPoly.newton_step BlPoly.through FrCoded.pieces FrCoded.lowest_value FrCoded.agreeing FrCoded.decoded FrCoded.digests_of FrCoded.entry_of FrCoded.fits
    FrFrames.kind_of FrFrames.retired FrFrames.length_of FrFrames.body_length FrFrames.entry_bytes FrFrames.offer_bytes FrFrames.stamp_bytes FrFrames.body_bytes
    FrFrames.header_bytes FrFrames.frame_of FrFrames.build FrFrames.framing_test FrFrames.header_in FrFrames.header_test FrFrames.body_test FrFrames.stamp_in
    FrFrames.stamp_test FrFrames.content_test FrFrames.frame_test FrFrames.opened FrFrames.opened_under FrFrames.body_in FrFrames.message_in FrMessages.to_from
    FrMessages.to_all FrMessages.clients_from FrMessages.to_clients FrParams.width FrParams.quota FrParams.largest_frame FrParams.out_room FrParams.to_room
    FrParams.own_test FrParams.code_test FrParams.bounds_test
    FrParams.params_test FrStamps.older FrStamps.same_stamp FrStamps.parts_agree SeBroadcast.votes SeBroadcast.enough SeBroadcast.due
    SeBroadcast.full SeBroadcast.matters SeRules.at_time SeRules.chosen SeRules.regained SeRules.unanimous SeState.fresh_blocks SeState.fresh_slot
    SeState.fresh_reader SeState.fresh_server SeState.block_view SeState.present_block SeState.present_entry SeSteps.voted_block SeSteps.on_block SeSteps.tell_from
    SeSteps.reported SeSteps.accept SeSteps.vouched SeSteps.lowest SeSteps.ripe_by SeSteps.ripe SeSteps.free SeSteps.freed SeSteps.settle SeSteps.on_read
    SeSteps.on_read_complete SeSteps.on_body
    SeSteps.effect SeTests.room_test SeTests.sender_right SeTests.counted SeTests.open_test SeTests.read_test SeTests.done_test SeTests.report_test FrCoded.fit_test
    SeTests.order_test
    SeTests.message_test SeTests.judge_opened SeTests.judge CB.length_test CB.read_test CB.write_test CB.open_read CB.open_write CB.begin_by
    CB.read_begun CB.write_begun CB.begun_of CB.read_beginning CB.write_beginning ClRows.places_from ClRows.row_view ClRows.has_stamp ClRows.smallest
    ClRows.place_for ClRows.at_stamp ClRows.rows_from ClRows.agreed ClRows.first_by ClRows.first_agreed ClRows.found_of ClRows.found_by ClRows.search ClState.fresh_row
    ClState.fresh_client ClState.largest ClSteps.quorate ClSteps.send_below ClSteps.counted ClSteps.gathered ClSteps.largest_counted ClSteps.gather_by
    ClSteps.report_by ClSteps.on_report GrVouching.backed ClSteps.on_stamp ClSteps.end_by ClSteps.on_ack ClSteps.complete_by
    ClSteps.settle ClSteps.keep_by ClSteps.on_value ClSteps.on_body ClSteps.effect ClTests.send_room ClTests.room_test ClTests.value_test ClTests.answers
    ClTests.owner_right
    ClTests.awaited ClTests.order_test ClTests.message_test ClTests.judge_opened ClTests.judge
computed = record {
  proper = refl;
  disagrees = refl;
  right = refl;
  numbers = (refl, refl);
  opens = refl;
  carries = refl;
  initial_block = refl;
  one_digest = refl;
}

-- ---- so

disagrees : At (Disagrees Z 2 1 (found none)) calls 5
unfolding first second calls Toy.hand_client found
disagrees = at_drop (Disagrees Z 2 1 (found none)) 7 calls 5
    (inl (
      refl,
      (
        stops_by Z exact first (Toy.hand_client g 2 (P.Server 3) (answer 2 3)) 2 1 (found none) refl computed.numbers.0 computed.disagrees,
        refl,
      ),
    ))

right : At (CompletesRead Z 3 1 (found (some initial))) calls 12
unfolding first second calls Toy.hand_client found
right =
    inl (
      refl,
      (
        stops_by Z exact second (Toy.hand_client g 3 (P.Server 4) (answer 3 4)) 3 1 (found (some initial)) refl computed.numbers.1 computed.right,
        (initial, refl),
      ),
    )

differ : other ≡ initial → ⊥
unfolding other initial
differ e = absurd (omega (arith, ap (λ l. get_or l 0 0) e))

given : At (InFrame Z other) calls 3
unfolding first second calls Z Toy.setup Toy.hand_client
given = at_drop (InFrame Z other) 9 calls 3 (inl (refl, (FrFrames.header_for lie, computed.opens, computed.carries)))

pair : Collision Z calls
unfolding Z Toy.setup g Toy.four
pair = record {
  left = other;
  right = initial;
  differ = differ;
  alike = computed.one_digest;
  left_from = in_frame 3 given;
  right_from = of_initial 2 (omega arith, omega arith) computed.initial_block;
}

pub shown : Shown
unfolding pair
shown = record {
  sound = sound;
  digest_size = digest_size;
  admissible = admissible_by Z exact calls computed.proper;
  disagrees = disagrees;
  right = right;
  pair = (pair, refl, refl);
}
