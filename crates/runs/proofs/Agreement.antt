-- Honest servers that accept a write agree on its stamp and its digest list, and what they accept of an honest client's is what it sent. That what
-- honest parties send can be said in a frame is a hypothesis here, proved in Formation. Assumes nothing else.
use Rattle.std.specs.Prelude.{Ok, Err}
use Rattle.frame.specs.Refusals.{Verdict}
use Prim.Native.Nat.{ℕ, ◌+◌}
use native.Mathlib.Omega.{arith}
use mathlib.Core.Bool.{false}
use mathlib.Core.Path.{◌≡◌, refl, ap, sym, ◌∙◌}
use mathlib.Core.List.{List, []}
use lib.ListN.{length, get_or-replicate}
use Rattle.quorum.specs.Quorum.{Among}
use Rattle.quorum.proofs.Logic.{impossible}
use Rattle.broadcast.specs.Laws as BL
use Rattle.broadcast.proofs.Agreement as BA
use Rattle.frame.specs.declared.Party.{Party}
use Rattle.frame.specs.declared.Party.TheVariants as A
use Rattle.frame.specs.Messages.{Offer, send, block_is, Message, message, Formed}
use Rattle.frame.proofs.Sizes.{Small}
use Rattle.frame.proofs.Sizes as Sizes
use Rattle.server_rules.specs.Broadcast.{Rules}
use Rattle.server_rules.specs.Rules.{block_rules}
use Rattle.server_rules.specs.State.{fresh_slot, fresh_server, no_slot, slot_of, block_view}
use Rattle.server_rules.specs.Delivery as SD
use Rattle.server_rules.specs.Steps as S
use Rattle.server_rules.proofs.Parts.{no_part}
use Rattle.server_rules.proofs.Shapes.{offer_of}
use Rattle.server_rules.proofs.Thresholds.{agreed, blocks_sane}
use Rattle.server_rules.proofs.Views.{fresh_block_view}
use Rattle.steps.proofs.CastFacts.{part_at}
use Rattle.runs.specs.Admissible.{Honest, Admissible}
use Rattle.runs.specs.Events.{At, Accepts}
use Rattle.runs.specs.World.{Setup, Call, start, run}
use Rattle.runs.proofs.Broadcasts.{server_at, SentMessage, views, lawful_run}
use Rattle.runs.proofs.Assumed.{Assumed}

pub small : (Z : Setup) → Assumed Z → Small Z.g
small Z G = Sizes.small Z.g G.bounded

module _ (Z : Setup) (G : Assumed Z) where
  open Z use {H, g, initial_value, state_areas, initial_areas}

  -- the first write of every client is open at the start
  pub start_slot : (i c : ℕ) → Among 8 c → slot_of (server_at Z G (small Z G) [] i).server c ≡ fresh_slot 1
  unfolding run start SD.construction fresh_server SD.construct_by
  start_slot i c is = go (SD.construct_test H g i initial_value (length (state_areas i)) (length (initial_areas i)))
    where
      go : (b : Verdict) → slot_of (SD.construct_by H g i b initial_value (state_areas i) (initial_areas i)).server c ≡ fresh_slot 1
      go (Ok _) = get_or-replicate 9 c (fresh_slot 1) no_slot (omega arith)
      go (Err r) = get_or-replicate 9 c (fresh_slot 1) no_slot (omega arith)

module _ (Z : Setup) (G : Assumed Z)
    (formed : (ks : List Call) → Admissible Z ks → (a b : Party) (m : Message) → Honest Z a → SentMessage Z G (small Z G) ks a b m → Formed Z.g m) where
  open Z use {H, g, initial_value, faulty_server, faulty_client, state_areas, initial_areas, rows_areas}

  abbrev M : Small g
  M = small Z G

  abbrev R : Rules Offer
  R = block_rules H g

  -- nothing is there at the start
  pub start_part : (i c : ℕ) → Among 8 c → part_at g (server_at Z G M [] i).server (server_at Z G M [] i).area c ≡ no_part
  start_part i c is = ap (block_view g (server_at Z G M [] i).area c) (start_slot Z G i c is) ∙ fresh_block_view g (server_at Z G M [] i).area c 1

  pub empty : BL.Fresh (views Z G M formed) g.n g.t R.few R.all faulty_server faulty_client
  empty = record {
    no_kept_echo = λ i c j x e. impossible (cc (ap (λ y. y.echoes j) (start_part i c e.0), e.3));
    no_kept_ready = λ i c j x e. impossible (cc (ap (λ y. y.readies j) (start_part i c e.0), e.3));
    no_echo = λ i c s x u. u.3;
    no_ready = λ i c s x u. u.3;
    no_delivered = λ i c x u. impossible (cc (ap (λ y. y.done) (start_part i c u.0), u.3));
    no_accepted = λ i c s x u. u.2;
  }

  -- Two acceptances of one write agree in stamp and digest list.
  pub agreement : (ks : List Call) → Admissible Z ks → (i j p q : ℕ) (x y : S.Write) → At (Accepts Z i x) ks p → At (Accepts Z j y) ks q
      → x.client ≡ y.client → x.sequence ≡ y.sequence → (S.stamp_of x ≡ S.stamp_of y) × (x.entry.digests ≡ y.entry.digests)
  agreement ks a i j p q x y u v ec eq =
      let e = BA.agreement (views Z G M formed) g.n g.t R.few R.all faulty_server faulty_client G.faults (blocks_sane H g).few_many
      (blocks_sane H g).all_many empty (lawful_run Z G M formed ks a) i j x.client x.sequence (agreed (offer_of x)) (agreed (offer_of y))
      (x, p, u, refl, refl, refl) (y, q, v, sym ec, sym eq, refl) in
      ((λ d. record { time = (e d).0 + 1; writer = ec d; sequence = eq d }), ap (λ w. w.1) e)

  -- What is accepted of an honest client's write is what it sent.
  pub validity : (ks : List Call) → Admissible Z ks → (i p : ℕ) (x : S.Write) → faulty_client x.client ≡ false → At (Accepts Z i x) ks p
      → (b : Party) × (o : Offer) × (agreed o ≡ agreed (offer_of x)) × SentMessage Z G M ks (A.Client x.client) b
      (message x.client x.sequence (block_is send o))
  validity ks a i p x h u =
      BA.validity (views Z G M formed) g.n g.t R.few R.all faulty_server faulty_client G.faults (blocks_sane H g).few_many
      (blocks_sane H g).all_many empty (lawful_run Z G M formed ks a) i x.client x.sequence (agreed (offer_of x)) h (x, p, u, refl, refl, refl)
