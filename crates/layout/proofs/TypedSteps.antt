-- A server's record read from bytes has its numbers within their widths, and the delivery of a frame of bytes keeps them there. Assumes nothing.
use Rattle.std.specs.Prelude.{Ok, Err}
use Prim.Native.Nat.{ℕ, zero, suc, ◌+◌, ◌*◌, ◌≤◌}
use native.Mathlib.Omega.{arith}
use mathlib.Core.Path.{◌≡◌, refl, ap, subst, ◌∙◌}
use mathlib.Core.Bool.{true}
use mathlib.Core.List.{List, []}
use lib.ListN.{length, length-set}
use lib.Dec.{eqb}
use Rattle.area.specs.Area.{Bytes, table_from, table}
use Rattle.area.specs.Numbers.{be8}
use Rattle.area.proofs.Numbers.{get_d-Bytes, be4_range, be8_range}
use Rattle.area.proofs.Fills.{length_table}
use Rattle.blocks.specs.declared.Params.{Params}
use Rattle.frame.specs.declared.Party.{Party}
use Rattle.frame.specs.declared.Refusal.TheVariants as R
use Rattle.frame.specs.Refusals.{and_then, Verdict}
use Rattle.frame.specs.Params.{params_test}
use Rattle.frame.specs.Messages.{Body, Message, number_in, judged_by, after}
use Rattle.frame.specs.Frames.{sequence_at, body_at, header_in, frame_test, opened_by, opened, body_in, message_in}
use Rattle.frame.proofs.Verdicts.{fine_is, fine_both}
use Rattle.frame.proofs.Opening.{opens_facts}
use Rattle.server_rules.specs.declared.Server.{Server}
use Rattle.server_rules.specs.Tests.{sender_right, message_test, room_test, judge_opened, judge}
use Rattle.server_rules.specs.Delivery.{effect_by, delivered, outcome_of, delivery}
use Rattle.layout.specs.Fields.{stamp_at, row_at, flag_at, flags_at, numbers_at}
use Rattle.layout.specs.Servers.{slot_size, reader_size, slots_place, readers_place, reports_place, blocks_at, slot_at, slots_at, reader_at, readers_at, server_at}
use Rattle.layout.specs.Servers.{server_in}
use Rattle.layout.specs.Typed.{Word, Long, TypedStamp, widths, TypedBlocks, TypedSlot, TypedReader, TypedServer}
use Rattle.server_rules.specs.WellFormed.{Every, Array}
use Rattle.server_rules.proofs.Shapes.{shape_of}
use Rattle.server_rules.proofs.Within.{either, TimeIn, Empty, Granted, Grants, step_within}

-- ---- arrays

module _ {A : Type 0} (P : A → Type 0) where
  every_table : (f : ℕ → A) (i m : ℕ) → ((j : ℕ) → P (f j)) → Every P (table_from f i m)
  unfolding table_from
  every_table f i zero p = tt
  every_table f i (suc m) p = (p i, every_table f (suc i) m p)

module _ {A : Type 0} (P : A → Type 0) (g : List ℕ → ℕ → A) (m w : ℕ) (l : List ℕ) (p : (i : ℕ) → P (g l i)) where
  -- all elements of an array have P if whatever may be read as an element has
  pub array_row : (i : ℕ) → Array m P (row_at g m w l i)
  unfolding row_at table
  array_row i = (length_table m (λ j. g l (i + j * w)), every_table P (λ j. g l (i + j * w)) 0 m (λ j. p (i + j * w)))

-- ---- what bytes say

length_flags_at : (l : List ℕ) (i : ℕ) → length (flags_at l i) ≡ 11
unfolding flags_at row_at
length_flags_at l i = length_table 11 (λ j. flag_at l (i + j * 1))

module _ (l : List ℕ) (p : Bytes l) where
  pub stamp_in_lem : (i : ℕ) → TypedStamp (stamp_at l i)
  unfolding stamp_at
  stamp_in_lem i = record { time = be8_range l i p; writer = get_d-Bytes l (i + 8) p; sequence = be4_range l (i + 9) p }

  numbers_in_lem : (i : ℕ) → Array 11 Long (numbers_at l i)
  unfolding numbers_at
  numbers_in_lem i = array_row Long be8 11 8 l (λ k. be8_range l k p) i

  blocks_in_lem : (i : ℕ) → TypedBlocks (blocks_at l i)
  unfolding blocks_at
  blocks_in_lem i = record {
    time = be8_range l (i + 3) p;
    echoes = length_flags_at l (i + 11);
    readies = length_flags_at l (i + 22);
    echoed = numbers_in_lem (i + 33);
    readied = numbers_in_lem (i + 121);
  }

  slot_in_lem : (i : ℕ) → TypedSlot (slot_at l i)
  unfolding slot_at
  slot_in_lem i = record { sequence = be8_range l i p; blocks = blocks_in_lem (i + 8) }

  reader_in_lem : (i : ℕ) → TypedReader (reader_at l i)
  unfolding reader_at
  reader_in_lem i = record { sequence = be4_range l i p; noted = stamp_in_lem (i + 5) }

  -- a record read from bytes has its numbers within their widths
  pub typed_in : TypedServer (server_in l)
  unfolding server_in server_at slots_at readers_at
  typed_in = record {
    stamp = stamp_in_lem 0;
    slots = array_row TypedSlot slot_at 9 slot_size l slot_in_lem slots_place;
    readers = array_row TypedReader reader_at 9 reader_size l reader_in_lem readers_place;
    reports = numbers_in_lem reports_place;
  }

-- ---- any frame

body_in_lem : (g : Params) (kind : ℕ) (f : List ℕ) → Bytes f → TimeIn widths (body_in g kind f)
unfolding body_in
body_in_lem g kind f p =
    let h = be8_range f body_at p in
    either (TimeIn widths) (eqb kind 1) _ _ tt
    (either (TimeIn widths) (eqb kind 2) _ _ tt
    (either (TimeIn widths) (eqb kind 3) _ _ h
    (either (TimeIn widths) (eqb kind 4) _ _ h
    (either (TimeIn widths) (eqb kind 5) _ _ h
    (either (TimeIn widths) (eqb kind 9) _ _ tt
    (either (TimeIn widths) (eqb kind 10) _ _ tt
    (either (TimeIn widths) (eqb kind 11) _ _ tt
    (either (TimeIn widths) (eqb kind 12) _ _ tt
    h))))))))

-- nothing has come
pub empty_typed : Empty widths
empty_typed = record { flags = refl; time = omega arith }

-- what the widths grant to acceptances
pub leaves : Granted widths
leaves w i q z l =
    let k = i.1 in
    (record { time = omega (arith, l); writer = omega (arith, k); sequence = omega (arith, z) }, omega (arith, z))

module _ (H : List ℕ → List ℕ) (g : Params) (me : ℕ) (s : Server) (t : TypedServer s) (a initial : List ℕ) (from : Party) where
  -- what a step needs of the widths, for an operation whose number fits into a frame
  granted : (j c q : ℕ) (b : Body) → c ≤ 8 → Word q → TimeIn widths b → Grants widths H g me s a initial j c q b
  granted j c q b few w h = record {
    empty = empty_typed;
    counts = λ k. (λ l e. length-set l j true ∙ e, h);
    noted = λ x. record { sequence = w; noted = x };
    ended = λ r. record { sequence = w; noted = r.noted };
    reported = λ T e. subst (TimeIn widths) e h;
    leaves = leaves;
  }

  -- v is the verdict of refusals 10 to 14; a frame that is turned down changes nothing
  typed_judged : (v room : Verdict) (m : Message) → m.client ≤ 8 → Word m.sequence → TimeIn widths m.body
      → and_then room (message_test H g me s from m) ≡ v → TypedServer (effect_by H g me (judged_by v m) s a initial from).server
  unfolding effect_by message_test
  typed_judged (Ok _) room m few w h e =
      step_within widths H g me s a initial (number_in from) m.client m.sequence t few (shape_of H g me s a initial from m)
      (granted (number_in from) m.client m.sequence m.body few w h)
  typed_judged (Err r) room m few w h e = t

  -- p is the verdict of refusals 1 to 3, u of 4 to 9, v of 10
  typed_after : (f : List ℕ) (p u v : Verdict) → Bytes f → frame_test g f ≡ u
      → TypedServer (effect_by H g me (after p (judge_opened H g me (opened_by u (header_in f)) v s from f)) s a initial from).server
  unfolding effect_by judge_opened opened header_in message_in
  typed_after f (Err r) u v i e = t
  typed_after f (Ok _) (Err r) v i e = t
  typed_after f (Ok _) (Ok _) v i e =
      let o = opens_facts g f (header_in f) (ap (λ (z : Verdict). opened_by z (header_in f)) e) in
      typed_judged (and_then v (message_test H g me s from (message_in g (header_in f) f))) v (message_in g (header_in f) f) o.client_high
      (be4_range f sequence_at i) (body_in_lem g (header_in f).kind f i) refl

  -- the delivery of a frame of bytes keeps the record's numbers within their widths
  pub typed_delivery : (f out to : List ℕ) → Bytes f → TypedServer (delivery H g me s a initial from f out to).server
  unfolding delivery outcome_of delivered judge opened
  typed_delivery f out to i =
      typed_after f (params_test g me g.n) (frame_test g f) (room_test g (length a) (length initial) (length out) (length to)) i refl
