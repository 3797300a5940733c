-- From a counted frame of a write to what the step leaves of the server. Assumes nothing.
use Rattle.std.specs.Prelude.{Ok, Err}
use Rattle.frame.specs.Refusals.{Verdict, fine}
use Prim.Native.Nat.{ℕ}
use mathlib.Core.Path.{◌≡◌, refl, ap, subst, sym, ◌∙◌}
use mathlib.Core.List.{List, []}
use Rattle.blocks.specs.declared.Params.{Params}
use Rattle.frame.specs.declared.Refusal.{Refusal}
use Rattle.frame.specs.Messages.{send}
use Rattle.frame.specs.Outbox.{Outbox, outbox, sent, first_place}
use Rattle.frame.proofs.Outbox.{sent_append}
use Rattle.frame.proofs.Verdicts.{bad_fine}
use Rattle.server_rules.specs.declared.Slot.{Slot}
use Rattle.server_rules.specs.declared.Reader.{Reader}
use Rattle.server_rules.specs.declared.Scope.{Scope}
use Rattle.server_rules.specs.declared.Server.{Server}
use Rattle.server_rules.specs.State.{with_slot}
use Rattle.server_rules.specs.Scopes.{with_scope}
use Rattle.server_rules.specs.Steps.{Effect, send_only, Counting, behind, freed, settle}
use Rattle.server.specs.declared.Moved.{Moved}
use Rattle.server.specs.Stages.{slot_in, Holds, left, counts, Counted, Handled, handled, handled_by, progress, moved, outcome_in, answered}
use Rattle.server.proofs.Scopes.{slot_set}
use Rattle.server.proofs.Answers.{refused_is, step_is, none_sent}

-- ---- what counting a frame gives

module _ (n : Counted) (x : Slot) (a a' out out' to to' : List ℕ) (p : Counting) where
  abbrev As : Counted → Verdict → Type 0
  As n v = handled x n a' out' to' ≡ handled_by v x a p (outbox out to first_place)

  -- it was turned down, and all is as it was
  pub turned_down_lem : (v : Verdict) (r : Refusal) → As n v → n ≡ Err r → (v ≡ Err r) × (a' ≡ a) × (out' ≡ out) × (to' ≡ to)
  unfolding handled_by
  turned_down_lem v r h e = go v (subst (λ (z : Counted). As z v) e h)
    where
      go : (v : Verdict) → As (Err r) v → (v ≡ Err r) × (a' ≡ a) × (out' ≡ out) × (to' ≡ to)
      go (Err s) h = (
        sym (ap (λ (z : Handled). z.verdict) h),
        ap (λ (z : Handled). z.area) h,
        ap (λ (z : Handled). z.box.out) h,
        ap (λ (z : Handled). z.box.to) h,
      )
      go (Ok _) h = absurd (bad_fine r (ap (λ (z : Handled). z.verdict) h))

  -- it was counted
  pub counted : (v : Verdict) (m : Moved) → As n v → n ≡ Ok m
      → (v ≡ fine) × (left m.slot a' (outbox out' to' m.place) ≡ counts p (outbox out to first_place))
  unfolding handled_by counts
  counted v m h e = go v (subst (λ (z : Counted). As z v) e h)
    where
      go : (v : Verdict) → As (Ok m) v → (v ≡ fine) × (left m.slot a' (outbox out' to' m.place) ≡ counts p (outbox out to first_place))
      go (Err s) h = absurd (bad_fine s (sym (ap (λ (z : Handled). z.verdict) h)))
      go (Ok _) h = (refl, (λ i. left (h i).slot (h i).area (h i).box))

-- ---- the slot is stored, and then the write is accepted if it can be

-- frames after those that were sent before
behind_moved : (p : Counting) (r : Effect) (q : Outbox) → moved r (sent q p.sends) ≡ moved (behind p r) q
unfolding moved
behind_moved p r q = ap (progress r.server r.area) (sent_append q p.sends r.sends)

module _ (g : Params) (w : Server) (c : ℕ) (s : Scope) (rs : List Reader) (k : Holds w c s rs) where
  module _ (n : Counted) (a a' out out' to to' : List ℕ) (p : Counting) (v : Verdict)
      (h : handled s.slot n a' out' to' ≡ handled_by v s.slot a p (outbox out to first_place)) where
    pub refused_write : (x : Effect) (r : Refusal) → n ≡ Err r → outcome_in w c (Err r) a' out' to' ≡ answered v w a x out to
    refused_write x r e =
        let (u, i, j, l) = turned_down_lem n s.slot a a' out out' to to' p v r h e in
        (λ d. outcome_in w c (Err r) (i d) (j d) (l d)) ∙ refused_is v v r w c a x out to refl u

    -- after the client's own frame
    pub stored_write : (m : Moved) → n ≡ Ok m
        → outcome_in w c (Ok (record { scope = slot_in s m.slot; place = m.place })) a' out' to' ≡ answered v w a (settle g w c send p) out to
    unfolding settle freed counts
    stored_write m e =
        let (u, d) = counted n s.slot a a' out out' to to' p v m h e in
        let y = slot_in s m.slot in
        let b : progress (with_scope w c y) a' (outbox out' to' m.place) ≡ moved (settle g w c send p) (outbox out to first_place) =
        none_sent (with_slot w c m.slot) (with_scope w c y) a' (outbox out' to' m.place) (slot_set w c s k.scope y m.slot refl)
        ∙ (λ l. moved (send_only (with_slot w c (d l).slot) (d l).area []) (d l).box)
        ∙ behind_moved p (send_only (with_slot w c p.slot) p.area []) (outbox out to first_place) in
        step_is v v w a a' (settle g w c send p) out to out' to' c y m.place refl u b
