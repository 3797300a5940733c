-- Parts of a server's record that are read alone. Assumes nothing.
use Prim.Native.Nat.{ℕ, ◌+◌, ◌*◌, ◌≤◌}
use native.Mathlib.Omega.{arith}
use mathlib.Core.Path.{◌≡◌, refl, sym, ap, ◌∙◌}
use mathlib.Core.Bool.{Bool}
use mathlib.Core.List.{List}
use Rattle.area.specs.Numbers.{be8}
use Rattle.server_rules.specs.declared.Slot.{Slot}
use Rattle.server_rules.specs.State.{no_slot, slot_of, report_of}
use Rattle.layout.specs.Fields.{flag_at, stamp_at, numbers_at}
use Rattle.layout.specs.Servers.{slot_size, slots_place, reports_place, blocks_at, slot_at, slots_at, server_at, server_in}
use Rattle.layout.proofs.Reading.{row_entry}

module _ (l : List ℕ) where
  module _ (c : ℕ) (h : c ≤ 8) where
    -- where client c's slot begins
    abbrev at : ℕ
    at = slots_place + c * slot_size

    slot_read : slot_at l at ≡ slot_of (server_in l) c
    unfolding server_in server_at slots_at
    slot_read = sym (row_entry slot_at 9 slot_size l slots_place c no_slot (omega arith))

    pub sequence_read : (x : ℕ) → x ≡ be8 l at → x ≡ (slot_of (server_in l) c).sequence
    unfolding slot_at
    sequence_read x e = e ∙ ap (λ (s : Slot). s.sequence) slot_read

    pub complete_read : (b : Bool) (i : ℕ) → i ≡ at + 10 → b ≡ flag_at l i → b ≡ (slot_of (server_in l) c).blocks.complete
    unfolding slot_at blocks_at
    complete_read b i q e =
        let d : i ≡ at + 8 + 2 = omega (arith, q) in e ∙ ap (flag_at l) d ∙ ap (λ (s : Slot). s.blocks.complete) slot_read

    pub time_read : (x i : ℕ) → i ≡ at + 11 → x ≡ be8 l i → x ≡ (slot_of (server_in l) c).blocks.time
    unfolding slot_at blocks_at
    time_read x i q e = let d : i ≡ at + 8 + 3 = omega (arith, q) in e ∙ ap (be8 l) d ∙ ap (λ (s : Slot). s.blocks.time) slot_read

  pub own_read : (x : ℕ) → x ≡ be8 l 0 → x ≡ (server_in l).stamp.time
  unfolding server_in server_at stamp_at
  own_read x e = e

  pub reports_read : (x : List ℕ) → x ≡ numbers_at l reports_place → x ≡ (server_in l).reports
  unfolding server_in server_at
  reports_read x e = e

  pub report_read : (j x : ℕ) → j ≤ 10 → x ≡ be8 l (reports_place + j * 8) → x ≡ report_of (server_in l) j
  unfolding server_in server_at numbers_at
  report_read j x h e = e ∙ sym (row_entry be8 11 8 l reports_place j 0 (omega (arith, h)))
