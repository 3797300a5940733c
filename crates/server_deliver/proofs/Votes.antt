-- Frames of a write, by what they say. Assumes nothing.
use Prim.Native.Nat.{ℕ, zero, suc, ◌≤◌}
use native.Mathlib.Omega.{arith}
use mathlib.Core.Path.{◌≡◌, refl, ap}
use mathlib.Core.Bool.{Bool, true, false}
use mathlib.Core.List.{List}
use lib.Dec.{eqb}
use Rattle.area.specs.Area.{pick}
use Rattle.blocks.specs.declared.Params.{Params}
use Rattle.frame.specs.Messages.{Offer, Stage, send, echo, ready, message, number_in, block_is}
use Rattle.frame.specs.Frames.{offer_in, body_in}
use Rattle.frame.specs.Outbox.{Outbox}
use Rattle.server_rules.specs.declared.Slot.{Slot}
use Rattle.server_rules.specs.declared.Server.{Server}
use Rattle.server_rules.specs.State.{slot_of}
use Rattle.server_rules.specs.Tests.{block_test, order_test, message_test}
use Rattle.server_rules.specs.Steps.{Counting, on_block, free_all, freed, settle, on_body, effect}
use Rattle.server.specs.declared.Call.{Call}
use Rattle.server.specs.Stages.{handled_by, sent_by, block_frame}
use Rattle.server_blocks.specs.Stage.{vote_stage}

-- ---- by kind

pub send_says : (g : Params) (f : List ℕ) (kind : ℕ) → kind ≡ 3 → body_in g kind f ≡ block_is send (offer_in g f)
unfolding body_in pick
send_says g f kind e = ap (λ (n : ℕ). body_in g n f) e

pub vote_says : (g : Params) (f : List ℕ) (kind : ℕ) → 4 ≤ kind → kind ≤ 5 → body_in g kind f ≡ block_is (vote_stage kind) (offer_in g f)
unfolding body_in vote_stage pick
vote_says g f (suc (suc (suc (suc zero)))) l h = refl
vote_says g f (suc (suc (suc (suc (suc zero))))) l h = refl
vote_says g f zero l h = absurd (omega (arith, l))
vote_says g f (suc zero) l h = absurd (omega (arith, l))
vote_says g f (suc (suc zero)) l h = absurd (omega (arith, l))
vote_says g f (suc (suc (suc zero))) l h = absurd (omega (arith, l))
vote_says g f (suc (suc (suc (suc (suc (suc n)))))) l h = absurd (omega (arith, h))

-- after an echo or a ready what can be accepted is
pub vote_frees : (g : Params) (kind : ℕ) (s : Server) (a : List ℕ) → freed g (vote_stage kind) s a ≡ free_all g s a
unfolding vote_stage pick freed
vote_frees g kind s a = go (eqb kind 4)
  where
    go : (b : Bool) → freed g (pick b echo ready) s a ≡ free_all g s a
    go true = refl
    go false = refl

-- ---- on a server w that has the slot

module _ (H : List ℕ → List ℕ) (k : Call) (a : List ℕ) (w : Server) (z : Stage) (o : Offer) where
  abbrev c : ℕ
  c = k.header.client

  abbrev pub counting : Counting
  counting = on_block H k.params k.me a c (slot_of w c) (number_in k.from) z o

  pub vote_handled : (x : Slot) (q : Outbox) → x ≡ slot_of w c
      → block_frame H k x a z o q ≡ handled_by (message_test H k.params k.me w k.from (message c k.header.sequence (block_is z o))) x a counting q
  unfolding block_frame sent_by message_test order_test
  vote_handled x q i =
      ap
      (λ (y : Slot). handled_by (sent_by k (block_is z o) (block_test H k.params k.me y (number_in k.from) k.header.sequence z o)) x a
      (on_block H k.params k.me a c y (number_in k.from) z o) q)
      i

  pub vote_effect : (initial : List ℕ)
      → effect H k.params k.me w a initial k.from (message c k.header.sequence (block_is z o)) ≡ settle k.params w c z counting
  unfolding effect on_body
  vote_effect initial = refl
