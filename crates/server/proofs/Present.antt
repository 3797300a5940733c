-- The present entry, from the initial area or the state area. Assumes nothing.
use Prim.Native.Nat.{ℕ, ◌+◌, ◌-◌, ◌≤◌}
use native.Mathlib.Omega.{arith}
use native.Mathlib.Nat.{add-sub_cancel_left}
use borrow.Author.Tests.{eq-eqb, ne_eqb}
use mathlib.Core.Path.{◌≡◌, ap, sym, ◌∙◌}
use mathlib.Core.Bool.{Bool}
use mathlib.Core.List.{List, [], ◌∷◌}
use lib.ListN.{length, take, drop}
use lib.Seq.{length-take-le}
use Rattle.area.specs.Area.{pick, part}
use Rattle.area.proofs.Sets.{length_part}
use Rattle.blocks.specs.declared.Params.{Params}
use Rattle.frame.specs.Params.{width, listed, largest_frame, Bounded}
use Rattle.frame.specs.declared.Party.TheVariants as P
use Rattle.frame.specs.Messages.{Entry, entry, message, sending, value_is}
use Rattle.frame.specs.Frames.{value_at}
use Rattle.frame.specs.Outbox.{Outbox, sent}
use Rattle.frame.specs.Chunks.{entry_at, list_bytes, chunk_bytes}
use Rattle.frame.proofs.Sizes.{small}
use Rattle.frame.specs.declared.Stamp.{Stamp}
use Rattle.server_rules.specs.State.{present_block, present_entry}

module _ (g : Params) (s : Stamp) (a i : List ℕ) (w : ℕ) (e : w ≡ width g) where
  pub from_initial : s.time ≡ 0 → w ≤ length i → (take w i ≡ present_block g s a i) × (length (take w i) ≡ width g)
  unfolding present_block pick
  from_initial h l = (
    ap (λ (k : ℕ). take k i) e ∙ sym (ap (λ (b : Bool). pick b (take (width g) i) (part a list_bytes (width g))) (eq-eqb s.time 0 h)),
    length-take-le w i l ∙ e,
  )

  pub from_state : (s.time ≡ 0 → ⊥) → list_bytes + w ≤ length a
      → (take (list_bytes + w - list_bytes) (drop list_bytes a) ≡ present_block g s a i)
      × (length (take (list_bytes + w - list_bytes) (drop list_bytes a)) ≡ width g)
  unfolding present_block pick
  from_state h l =
      let k : list_bytes + w - list_bytes ≡ w = add-sub_cancel_left list_bytes w in (
        ap (part a list_bytes) (k ∙ e) ∙ sym (ap (λ (b : Bool). pick b (take (width g) i) (part a list_bytes (width g))) (ne_eqb s.time 0 h)),
        ap (λ (j : ℕ). length (part a list_bytes j)) k ∙ length_part a list_bytes w l ∙ e,
      )

-- both parts of the entry
pub present_parts : (g : Params) (s : Stamp) (a i d b : List ℕ) → d ≡ (entry_at g a 0).digests → b ≡ present_block g s a i → entry d b ≡ present_entry g s a i
unfolding present_entry entry_at
present_parts g s a i d b e f = λ k. entry (e k) (f k)

pub present_size : (g : Params) (a d b : List ℕ) → Bounded g → chunk_bytes ≤ length a → d ≡ (entry_at g a 0).digests → length b ≡ width g
    → value_at + (length d + length b) ≡ largest_frame g
unfolding largest_frame entry_at
present_size g a d b B h e f =
    let M = small g B in
    let u : length d ≡ listed g = ap length e ∙ length_part a 0 (listed g) (omega (arith, M.list_room)) in
    omega arith

-- the value that was sent is the present one
pub present_sent : (g : Params) (s : Stamp) (a i d b : List ℕ) (c k : ℕ) (q q' : Outbox) → d ≡ (entry_at g a 0).digests → b ≡ present_block g s a i
    → q' ≡ sent q (sending (P.Client c) (message c k (value_is s (entry d b))) ∷ [])
    → q' ≡ sent q (sending (P.Client c) (message c k (value_is s (present_entry g s a i))) ∷ [])
present_sent g s a i d b c k q q' e f h =
    h ∙ ap (λ (z : Entry). sent q (sending (P.Client c) (message c k (value_is s z)) ∷ [])) (present_parts g s a i d b e f)
