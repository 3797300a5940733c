-- The step of a read's value: one law for each return of the code. Assumes nothing.
use Prim.Native.Nat.{ℕ, ◌<◌}
use mathlib.Core.Path.{◌≡◌, refl, ap, sym, ◌∙◌}
use mathlib.Core.Bool.{◌&&◌}
use mathlib.Core.Option.{Option, none, some}
use mathlib.Core.List.{List}
use lib.Dec.{eqb}
use Rattle.area.specs.Area.{pick}
use Rattle.quorum.proofs.Logic.{impossible}
use Rattle.sha256.specs.Hash.{digest_of}
use Rattle.blocks.specs.declared.Params.{Params}
use Rattle.frame.specs.declared.Stamp.{Stamp}
use Rattle.frame.specs.declared.Party.{Party}
use Rattle.frame.specs.declared.Header.{Header}
use Rattle.frame.specs.Refusals.{refused, Verdict}
use Rattle.frame.specs.Messages.{Entry, message, value_is, from_server, number_in}
use Rattle.frame.specs.Chunks.{store_entry, place_at}
use Rattle.client_rules.specs.declared.Row.{Row}
use Rattle.client_rules.specs.declared.Client.{Client}
use Rattle.std.specs.Prelude as P
use Rattle.client_rules.specs.State.{row_of, with_row}
use Rattle.client_rules.specs.Rows.{place_for, row_with}
use Rattle.client_rules.specs.Tests.{kept_test, answers, owner_right, order_test, message_test}
use Rattle.client_rules.specs.Steps.{settle, keep_by, on_value}
use Rattle.client_rules.specs.Delivery.{Outcome}
use Rattle.client.specs.Stages.{spot_of, stepped}
use Rattle.client_rules.proofs.Views.{goes}

-- what the code's name of a place tells
none_of : (o : Option ℕ) → spot_of o ≡ P.None → o ≡ none
none_of none e = refl
none_of (some i) e = impossible (cc)

some_of : (o : Option ℕ) (i : ℕ) → spot_of o ≡ P.Some i → o ≡ some i
some_of none i e = impossible (cc)
some_of (some k) i e = let q : k ≡ i = cc in ap some q

-- a place is one of four
pub place_small : (r : Row) (x : Stamp) (p : P.Option ℕ) (i : ℕ) → p ≡ spot_of (place_for r x) → p ≡ P.Some i → i < 4
place_small r x p i e q = (goes r x i (some_of (place_for r x) i (sym e ∙ q))).small

module _ (g : Params) (me : ℕ) (s : Client) (a l out to : List ℕ) (j : ℕ) (x : Stamp) (e : Entry) (p : P.Option ℕ)
    (at : p ≡ spot_of (place_for (row_of s j) x)) (r : Outcome) where
  pub not_kept : p ≡ P.None → r ≡ stepped (settle digest_of g me s a) l out to → r ≡ stepped (on_value digest_of g me s a j x e) l out to
  unfolding on_value keep_by
  not_kept q f =
      let d = none_of (place_for (row_of s j) x) (sym at ∙ q) in
      f ∙ ap (λ o. stepped (keep_by digest_of g me o s a j x e) l out to) (sym d)

  pub value_kept : (i : ℕ) (w : Row) (y : Client) (b : List ℕ) → p ≡ P.Some i → w ≡ row_with (row_of s j) i x → y ≡ with_row s j w
      → b ≡ store_entry a (place_at j i) e → r ≡ stepped (settle digest_of g me y b) l out to → r ≡ stepped (on_value digest_of g me s a j x e) l out to
  unfolding on_value keep_by
  value_kept i w y b q k m n f =
      let d = some_of (place_for (row_of s j) x) i (sym at ∙ q) in
      let z : y ≡ with_row s j (row_with (row_of s j) i x) = m ∙ ap (with_row s j) k in
      f ∙ (λ h. stepped (settle digest_of g me (z h) (n h)) l out to)
      ∙ ap (λ o. stepped (keep_by digest_of g me o s a j x e) l out to) (sym d)

-- ---- of the sender's number and the frame's stamp

pub kept_from : (g : Params) (me : ℕ) (s : Client) (a l out to : List ℕ) (i j : ℕ) (x y : Stamp) (e : Entry) (r : Outcome) → i ≡ j → x ≡ y
    → r ≡ stepped (on_value digest_of g me s a i x e) l out to → r ≡ stepped (on_value digest_of g me s a j y e) l out to
kept_from g me s a l out to i j x y e r p q f = f ∙ (λ z. stepped (on_value digest_of g me s a (p z) (q z) e) l out to)

pub value_verdict : (g : Params) (me : ℕ) (s : Client) (from : Party) (h : Header) (e : Entry) (x y : Stamp) (v : Verdict) → x ≡ y
    → v ≡ pick (from_server g from && eqb h.client me)
    (kept_test digest_of s (number_in from) h.sequence x e) (refused 11)
    → v ≡ message_test digest_of g me s from (message h.client h.sequence (value_is y e))
unfolding message_test order_test answers owner_right
value_verdict g me s from h e x y v p q =
    q ∙ ap (λ z. pick (from_server g from && eqb h.client me) (kept_test digest_of s (number_in from) h.sequence z e) (refused 11)) p
