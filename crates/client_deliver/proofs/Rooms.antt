-- Frames that were sent change no length, and how much room they take. Assumes nothing.
use Prim.Native.Nat.{ℕ, zero, suc, ◌*◌, ◌≤◌}
use native.Mathlib.Omega.{arith}
use native.Mathlib.Nat.{suc-mul}
use mathlib.Core.Path.{◌≡◌, ap, ◌∙◌}
use mathlib.Core.List.{List}
use lib.ListN.{length, length-append}
use lib.Seq.{length-sets}
use Rattle.frame.specs.declared.Place.{Place}
use Rattle.frame.specs.Messages.{Message, Sending, to_from}
use Rattle.frame.specs.Frames.{build}
use Rattle.frame.specs.Outbox.{frames, receivers, Outbox, outbox, sent}

pub same_lengths : (p r : Place) (o t o₀ t₀ : List ℕ) (xs : List Sending) → outbox o t r ≡ sent (outbox o₀ t₀ p) xs
    → (length o ≡ length o₀) × (length t ≡ length t₀)
unfolding sent
same_lengths p r o t o₀ t₀ xs e = (
  ap (λ (q : Outbox). length q.out) e ∙ length-sets o₀ p.at (frames xs),
  ap (λ (q : Outbox). length q.to) e ∙ length-sets t₀ (2 * p.count) (receivers xs),
)

-- a frame of at most size bytes to each of n servers
pub each_small : (f : ℕ → Message) (size : ℕ) → ((i : ℕ) → length (build (f i)) ≤ size) → (j n : ℕ)
    → (length (frames (to_from f j n)) ≤ n * size) × (length (to_from f j n) ≤ n)
unfolding frames to_from
each_small f size h j zero = (omega arith, omega arith)
each_small f size h j (suc n) =
    let r = each_small f size h (suc j) n in
    let b : length (frames (to_from f j (suc n))) ≤ suc n * size =
    omega (arith, length-append (build (f j)) (frames (to_from f (suc j) n)), h j, r.0, suc-mul n size) in
    (b, omega (arith, r.1))
