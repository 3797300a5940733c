-- The stamp is read at its place, and of the slots and of the readers only entry c, at its place. Assumes nothing.
use Prim.Native.Nat.{ℕ, ◌+◌, ◌*◌, ◌≤◌}
use native.Mathlib.Omega.{arith}
use mathlib.Core.Path.{◌≡◌, sym, ◌∙◌}
use mathlib.Core.List.{List}
use Rattle.frame.specs.declared.Stamp.{Stamp}
use Rattle.server_rules.specs.declared.Slot.{Slot}
use Rattle.server_rules.specs.declared.Reader.{Reader}
use Rattle.server_rules.specs.declared.Scope.{Scope}
use Rattle.server_rules.specs.State.{no_slot, no_reader}
use Rattle.server_rules.specs.Scopes.{scope_of}
use Rattle.layout.specs.Fields.{stamp_at}
use Rattle.layout.specs.Servers.{slot_size, reader_size, slots_place, readers_place, slot_at, slots_at, reader_at, readers_at, server_at, server_in}
use Rattle.layout.proofs.Reading.{row_entry}
use Rattle.layout.proofs.servers.scope_at.Goals as goal

scope-read : (l : List ℕ) (c : ℕ) (s : Stamp) (x : Slot) (r : Reader) → c ≤ 8 → s ≡ stamp_at l 0 → x ≡ slot_at l (slots_place + c * slot_size) → r ≡ reader_at l (readers_place + c * reader_size)
    → ◌≡◌ {A = Scope} (record { stamp = s; slot = x; reader = r }) (scope_of (server_in l) c)
unfolding server_in server_at slots_at readers_at
scope-read l c s x r h p q e =
    let f = q ∙ sym (row_entry slot_at 9 slot_size l slots_place c no_slot (omega arith)) in
    let g = e ∙ sym (row_entry reader_at 9 reader_size l readers_place c no_reader (omega arith)) in
    λ k. record { stamp = p k; slot = f k; reader = g k }

pub returns : goal.returns
returns c =
    let a = c.args in
    scope-read a.bytes.now a.c _ _ _ (omega arith) c.get.ensures c.get-2.ensures c.get-3.ensures
