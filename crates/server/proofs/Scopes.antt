-- From what a step left of client c's scope to the server: for every server w that has this scope. Assumes nothing.
use Prim.Native.Nat.{ℕ}
use mathlib.Core.Path.{◌≡◌, ap, ap₂, ◌∙◌}
use mathlib.Core.List.{List}
use lib.ListN.{set}
use lib.Seq.{set-get_or}
use Rattle.server_rules.specs.declared.Slot.{Slot}
use Rattle.server_rules.specs.declared.Reader.{Reader}
use Rattle.server_rules.specs.declared.Scope.{Scope}
use Rattle.server_rules.specs.declared.Server.{Server}
use Rattle.server_rules.specs.State.{no_slot, no_reader, with_slot, with_reader}
use Rattle.server_rules.specs.Scopes.{scope_of, with_scope}
use Rattle.server.specs.Stages.{slot_in, reader_in}

abbrev made : Server → List Slot → List Reader → Server
made w l r = record { stamp = w.stamp; slots = l; readers = r; reports = w.reports }

module _ (w : Server) (c : ℕ) (x : Scope) (e : x ≡ scope_of w c) where
  -- nothing was changed
  pub as_it_was : with_scope w c x ≡ w
  as_it_was = ap (with_scope w c) e ∙ ap₂ (made w) (set-get_or w.slots c no_slot) (set-get_or w.readers c no_reader)

  pub slot_set : (z : Scope) (y : Slot) → z ≡ slot_in x y → with_scope w c z ≡ with_slot w c y
  slot_set z y f = ap (with_scope w c) (f ∙ ap (λ (u : Scope). slot_in u y) e) ∙ ap (made w (set w.slots c y)) (set-get_or w.readers c no_reader)

  pub reader_set : (z : Scope) (y : Reader) → z ≡ reader_in x y → with_scope w c z ≡ with_reader w c y
  reader_set z y f =
      ap (with_scope w c) (f ∙ ap (λ (u : Scope). reader_in u y) e) ∙ ap (λ (l : List Slot). made w l (set w.readers c y)) (set-get_or w.slots c no_slot)
