-- Every call of an admissible run keeps the laws that precedence by stamps asks for. Assumes nothing.
use Rattle.std.specs.Prelude.{Ok, Err}
use Rattle.frame.specs.Refusals.{Verdict, fine}
use Prim.Native.Nat.{ℕ}
use native.Mathlib.Omega.{arith}
use mathlib.Core.Bool.{false}
use mathlib.Core.Path.{◌≡◌, refl, ◌∙◌}
use mathlib.Core.Logic.{inr, ⊎_elim}
use mathlib.Core.List.{List, [], ◌∷◌}
use lib.ListN.{length, get_or, replicate}
use lib.Dec.{leb}
use borrow.Author.Tests.{le-ltb, eq-eqb}
use Rattle.quorum.specs.Quorum.{Among}
use Rattle.quorum.proofs.Logic.{impossible, and_false}
use Rattle.precedence.specs.Laws as PL
use Rattle.area.specs.Area.{pick}
use Rattle.area.proofs.Sets.{of_copies, take_front}
use Rattle.blocks.specs.declared.Params.{Params}
use Rattle.blocks.proofs.Parameters.{parties_yes, threshold_yes, length_yes}
use Rattle.frame.specs.Chunks.{area_bytes}
use Rattle.group_rules.specs.Coded.{digests_of}
use Rattle.frame.specs.Params.{listed, Bounded, params_test, own_test, code_test}
use Rattle.frame.specs.Stamps.{zero_stamp}
use Rattle.frame.proofs.Sizes.{Small}
use Rattle.server_rules.specs.State.{no_reader, fresh_reader, fresh_server, reader_of, present_entry}
use Rattle.server_rules.specs.Delivery as SD
use Rattle.client_rules.specs.State.{fresh_client}
use Rattle.steps.proofs.ClientTaken.{digests_size}
use Rattle.runs.specs.Admissible.{Proper, Admissible}
use Rattle.runs.specs.World.{Setup, Call, start, run}
use Rattle.runs.proofs.Broadcasts.{server_at}
use Rattle.runs.proofs.StampViews.{views, Stamped, stamps, shown}
use Rattle.runs.proofs.Assumed.{Assumed}
use Rattle.runs.proofs.ClientLaws as CO
use Rattle.runs.proofs.ServerLaws as SO

pub silent : (n c : ℕ) → (get_or (replicate n fresh_reader) c no_reader).listening ≡ false
unfolding fresh_reader
silent = of_copies (λ r. r.listening) fresh_reader no_reader false refl refl

-- parameters within their bounds pass
pub params_fine : (g : Params) → Bounded g → (me most : ℕ) → Among most me → params_test g me most ≡ fine
unfolding params_test own_test code_test pick
params_fine g B me most is = rw (
  ← parties_yes g.n g.t B.servers_low B.servers_high B.faults_low (omega (arith, B.faults_high)),
  le-ltb me 1 is.0,
  le-ltb most me is.1,
  ← threshold_yes g.n g.t g.k B.blocks_low (omega (arith, B.blocks_high)),
  ← length_yes g.size B.size_low B.size_high,
)

-- the constructor's tests pass
pub fresh_fine : (Z : Setup) → Assumed Z → (j : ℕ) → Among Z.g.n j
    → SD.construct_test Z.H Z.g j Z.initial_value (length (Z.state_areas j)) (length (Z.initial_areas j)) ≡ fine
unfolding SD.construct_test pick
fresh_fine Z G j is = rw (
  params_fine Z.g G.bounded j Z.g.n is,
  eq-eqb (length Z.initial_value) Z.g.size G.initial_size,
  le-ltb (length (Z.state_areas j)) area_bytes (G.state_room j),
  le-ltb (length (Z.initial_areas j)) _ (G.initial_room j),
)

module _ (Z : Setup) (G : Assumed Z) (M : Small Z.g) where
  open Z use {H, g, initial_value, faulty_server, faulty_client, state_areas, initial_areas, rows_areas}

  first_silent : (j c : ℕ) → (reader_of (server_at Z G M [] j).server c).listening ≡ false
  unfolding run start SD.construction fresh_server SD.construct_by
  first_silent j c = go (SD.construct_test H g j initial_value (length (state_areas j)) (length (initial_areas j)))
    where
      go : (b : Verdict) → (reader_of (SD.construct_by H g j b initial_value (state_areas j) (initial_areas j)).server c).listening ≡ false
      go (Err r) = silent 9 c
      go (Ok _) = silent 9 c

  first_shown : (j : ℕ) → Among g.n j → shown Z G M [] j ≡ (stamps Z G M).initial
  unfolding run start SD.construction present_entry fresh_server SD.construct_by
  first_shown j is = go (SD.construct_test H g j initial_value (length (state_areas j)) (length (initial_areas j))) (fresh_fine Z G j is)
    where
      go : (b : Verdict) → b ≡ fine → ◌≡◌ {A = Stamped Z G M} (
        (SD.construct_by H g j b initial_value (state_areas j) (initial_areas j)).server.stamp,
        (present_entry g (SD.construct_by H g j b initial_value (state_areas j) (initial_areas j)).server.stamp
            (SD.construct_by H g j b initial_value (state_areas j) (initial_areas j)).area
            (SD.construct_by H g j b initial_value (state_areas j) (initial_areas j)).initial).digests,
      ) (zero_stamp, digests_of H g initial_value)
      go (Err r) e = impossible (cc)
      go (Ok _) e = λ i. (
        zero_stamp,
        take_front (state_areas j) (digests_of H g initial_value) (listed g) (digests_size H g j G.digest_size initial_value)
            (omega (arith, G.state_room j, M.list_room)) i,
      )

  pub fresh : PL.Fresh (stamps Z G M) (views Z G M) g.n g.t faulty_server faulty_client
  unfolding run start fresh_client
  fresh = record {
    initial_stamp = λ j. ⊎_elim (λ is. SO.stamp_at_lem Z G M [] j is ∙ first_shown j is) (λ f. f []) (SO.outside Z G M j);
    no_listener = λ j c. and_false (leb 1 c) _ (and_false (leb c 8) _ (first_silent j c));
    no_ack = λ j c q u. u;
    no_value = λ j c q v u. u.2;
    no_stamp = λ j c q T u. u;
    no_read = λ c q u. u.1;
    no_get_stamp = λ c q u. u.1;
    no_time = λ c q T u. u.3;
    no_kept_ack = λ c j u. impossible (cc u.0);
    no_kept_value = λ c j v u. impossible (cc u.0);
    no_kept_stamp = λ c j T u. impossible (cc u.0);
    no_write_ended = λ c q u. u.1;
    no_read_ended = λ c q v u. u.2;
  }

  pub lawful : (ks : List Call) (k : Call) → Admissible Z ks → Proper Z ks k
      → PL.Lawful (stamps Z G M) (views Z G M) g.n g.t faulty_server faulty_client ks k
  lawful ks k a p = record {
    present_up = SO.up Z G M ks k a p;
    reads_up = CO.reads_up Z G M ks k a p;
    writes_up = CO.writes_up Z G M ks k a p;
    ack_stays = λ j c q u. inr u;
    value_stays = λ j c q v u. (u.0, u.1, inr u.2);
    stamp_stays = λ j c q T u. inr u;
    accepted_stays = λ j c q T u. (u.0, u.1, inr u.2, u.3, u.4, u.5, u.6);
    ack_new = SO.ack_new Z G M ks k a p;
    value_new = SO.value_new Z G M ks k a p;
    stamp_new = SO.stamp_new Z G M ks k a p;
    noting = SO.noting Z G M ks k a p;
    present_new = SO.present_new Z G M ks k a p;
    read_new = CO.read_new Z G M ks k a p;
    get_stamp_new = CO.get_stamp_new Z G M ks k a p;
    ack_kept = CO.ack_kept Z G M ks k a p;
    stamp_kept = CO.stamp_kept Z G M ks k a p;
    value_kept = CO.value_kept Z G M ks k a p;
    time_new = CO.time_new Z G M ks k a p;
    write_ended_new = CO.write_ended_new Z G M ks k a p;
    read_ended_new = CO.read_ended_new Z G M ks k a p;
  }

  -- every admissible list of calls is a run that keeps the laws
  pub lawful_run : (ks : List Call) → Admissible Z ks → PL.Run (stamps Z G M) (views Z G M) g.n g.t faulty_server faulty_client ks
  lawful_run [] a = tt
  lawful_run (k ∷ ks) a = (lawful ks k a.1 a.0, lawful_run ks a.1)
