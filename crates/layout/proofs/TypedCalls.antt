-- A client's record that bytes say has its numbers within their widths, and a client's calls keep them there. Assumes nothing.
use Rattle.std.specs.Prelude.{Ok, Err}
use Prim.Native.Nat.{ℕ, zero, suc, ◌+◌, max}
use native.Mathlib.Omega.{arith}
use borrow.Author.Tests.{ltb-true, leb-false}
use mathlib.Core.Path.{◌≡◌, refl, ap, subst, ◌∙◌}
use mathlib.Core.Bool.{Bool, true, false, not}
use mathlib.Core.List.{List, [], ◌∷◌}
use mathlib.Core.Logic.{◌⊎◌, ⊎_elim}
use lib.ListN.{length, get_or, set, replicate, length-set}
use lib.Dec.{leb, ltb}
use Rattle.area.specs.Area.{pick, Bytes}
use Rattle.area.specs.Numbers.{be8}
use Rattle.area.proofs.Numbers.{be4_range, be8_range}
use Rattle.blocks.specs.declared.Params.{Params}
use Rattle.frame.specs.declared.Stamp.{Stamp}
use Rattle.frame.specs.declared.Party.{Party}
use Rattle.frame.specs.declared.Refusal.TheVariants as R
use Rattle.frame.specs.Refusals.{and_then, Verdict, fine}
use Rattle.frame.specs.Params.{params_test}
use Rattle.frame.specs.Stamps.{zero_stamp, last_sequence, last_client}
use Rattle.frame.specs.Messages.{Body, stamp_is, value_is, report, FormedBody, Message, number_in, judged_by, after}
use Rattle.frame.specs.Frames.{header_in, frame_test, opened_by, opened, message_in}
use Rattle.frame.proofs.Verdicts.{fine_not, fine_both}
use Rattle.frame.proofs.Converse.{formed_opened}
use Rattle.client_rules.specs.declared.Phase.{Phase}
use Rattle.client_rules.specs.declared.Row.{Row}
use Rattle.client_rules.specs.declared.Client.{Client}
use Rattle.client_rules.specs.State.{fresh_row, fresh_client, idle, no_row}
use Rattle.client_rules.specs.Rows.{row_with}
use Rattle.client_rules.specs.Tests.{send_room, room_test, value_test, message_test, judge_opened, judge}
use Rattle.client_rules.specs.Steps.{Effect}
use Rattle.client_rules.proofs.Shapes.{shape_of}
use Rattle.client_rules.proofs.Within.{Empty, fresh_within, read_within, write_within, Grants, step_within}
use Rattle.client_rules.specs.Beginning.{idle_test, closed_test, length_test, read_test, write_test, open_read, open_write}
use Rattle.client_rules.specs.Beginning.{begin_by, read_begun, write_begun, begun_of, read_beginning, write_beginning}
use Rattle.client_rules.specs.Delivery.{effect_by, delivered, outcome_of, delivery}
use Rattle.layout.specs.Fields.{flag_at, stamp_at, flags_at, numbers_at}
use Rattle.layout.specs.Clients.{stamps_at, kept_at, rows_at, client_at, client_in}
use Rattle.layout.specs.Typed.{Word, Long, TypedStamp, TypedRow, client_widths, TypedClient}
use Rattle.server_rules.specs.WellFormed.{Every, Array}
use Rattle.layout.proofs.TypedSteps.{array_row, stamp_in_lem}
use Rattle.server_rules.proofs.Within.{array_set, every_replicate}

-- ---- what bytes say

module _ (l : List ℕ) (p : Bytes l) where
  row_in : (i : ℕ) → TypedRow (kept_at l i)
  unfolding kept_at stamps_at
  row_in i = record { count = be8_range l i p; stamps = array_row TypedStamp stamp_at 4 13 l (stamp_in_lem l p) (i + 8) }

  -- a record read from bytes has its numbers within their widths
  pub typed_client_in : TypedClient (client_in l)
  unfolding client_in client_at flags_at numbers_at rows_at
  typed_client_in = record {
    writes = be4_range l 0 p;
    reads = be4_range l 4 p;
    heard = (array_row (λ b. Unit {0}) flag_at 11 1 l (λ i. tt) 10).0;
    times = array_row Long be8 11 8 l (λ i. be8_range l i p) 21;
    rows = array_row TypedRow kept_at 11 60 l row_in 109;
    reports = array_row Long be8 11 8 l (λ i. be8_range l i p) 769;
  }

-- ---- a fresh client

fresh_times : Array 11 Long (replicate 11 0)
fresh_times = (refl, every_replicate Long 11 0 (omega arith))

fresh_row_lem : TypedRow fresh_row
unfolding fresh_row
fresh_row_lem =
    let z : TypedStamp zero_stamp = record { time = omega arith; writer = omega arith; sequence = omega arith } in
    record { count = omega arith; stamps = (refl, every_replicate TypedStamp 4 zero_stamp z) }

fresh_rows : Array 11 TypedRow (replicate 11 fresh_row)
fresh_rows = (refl, every_replicate TypedRow 11 fresh_row fresh_row_lem)

fresh_parts : Empty client_widths
fresh_parts = record { heard = refl; times = fresh_times; rows = fresh_rows }

-- a fresh client's numbers are within their widths
pub typed_client_fresh : TypedClient fresh_client
typed_client_fresh = fresh_within client_widths fresh_parts (omega arith)

-- ---- an operation begins

-- an operation begins only if a number is left for it
number_left : (p : Phase) (last : ℕ) → idle_test p last ≡ fine → Word (last + 1)
number_left p last e =
    let u = (fine_not (not (idle p)) R.Busy _ e).1 in
    let h = leb-false last_sequence last (fine_not (leb last_sequence last) R.Exhausted fine u).0 in
    omega (arith, h)

module _ (g : Params) (me : ℕ) (s : Client) (t : TypedClient s) where
  typed_begun : (v : Verdict) (x : Effect) → (v ≡ fine → TypedClient x.client) → TypedClient (begin_by g me v s x).client
  unfolding begin_by
  typed_begun (Ok _) x h = h refl
  typed_begun (Err r) x h = t

  read_open : idle_test s.phase s.reads ≡ fine → TypedClient (open_read g me s).client
  read_open e = read_within client_widths fresh_parts g me s t (number_left s.phase s.reads e)

  write_open_lem : idle_test s.phase s.writes ≡ fine → TypedClient (open_write g me s).client
  write_open_lem e = write_within client_widths fresh_parts g me s t (number_left s.phase s.writes e)

  read_left : (out to : List ℕ) → read_test g me s out to ≡ fine → idle_test s.phase s.reads ≡ fine
  unfolding read_test
  read_left out to e = (fine_both (send_room g (length out) (length to)) _ (fine_both (params_test g me last_client) _ e).1).1

  write_left : (v out to : List ℕ) → write_test g me s v out to ≡ fine → idle_test s.phase s.writes ≡ fine
  unfolding write_test
  write_left v out to e =
      let a = (fine_both (params_test g me last_client) _ e).1 in
      let b = (fine_both (length_test g (length v)) _ a).1 in
      let c = (fine_both (send_room g (length out) (length to)) _ b).1 in
      (fine_both (idle_test s.phase s.writes) (closed_test s.closed) c).0

  -- the beginning of a read keeps a client's numbers within their widths
  pub typed_read : (out to : List ℕ) → TypedClient (read_beginning g me s out to).client
  unfolding read_beginning begun_of read_begun
  typed_read out to = typed_begun (read_test g me s out to) (open_read g me s) (λ e. read_open (read_left out to e))

  -- and so does the beginning of a write
  pub typed_write : (v out to : List ℕ) → TypedClient (write_beginning g me s v out to).client
  unfolding write_beginning begun_of write_begun
  typed_write v out to = typed_begun (write_test g me s v out to) (open_write g me s) (λ e. write_open_lem (write_left v out to e))

-- ---- rows

-- an element is replaced by one that has P if the old one had; past the array's end nothing is replaced
every_turned : {A : Type 0} (P : A → Type 0) (xs : List A) (i : ℕ) (d x : A) → Every P xs → (P (get_or xs i d) → P x) → Every P (set xs i x)
every_turned P [] i d x e f = e
every_turned P (y ∷ xs) zero d x e f = (f e.0, e.1)
every_turned P (y ∷ xs) (suc i) d x e f = (e.0, every_turned P xs i d x e.1 f)

count_kept : (b : Bool) (n : ℕ) → ltb n 4 ≡ b → Long n → Long (pick b (n + 1) n)
unfolding pick
count_kept true n e h = omega (arith, ltb-true n 4 e)
count_kept false n e h = h

row_with_lem : (r : Row) (i : ℕ) (x : Stamp) → TypedStamp x → TypedRow r → TypedRow (row_with r i x)
row_with_lem r i x y t = record { count = count_kept (ltb r.count 4) r.count refl t.count; stamps = array_set TypedStamp 4 r.stamps i x t.stamps y }

-- ---- any frame

module _ (H : List ℕ → List ℕ) (g : Params) (me : ℕ) where
  -- the higher of two
  higher : (x y : ℕ) → Long x → Long y → Long (max x y)
  higher x y h k = omega (arith, h, k)

  -- what the widths grant to a step for a frame of bytes
  typed_grants : (j : ℕ) (b : Body) → FormedBody g b → Grants client_widths j b
  typed_grants j b h = let time_told : (T : ℕ) → (b ≡ stamp_is T) ⊎ (b ≡ report T) → Long T = λ T i. ⊎_elim
      (λ e. subst (FormedBody g) e h)
      (λ e. subst (FormedBody g) e h)
      i in record {
        empty = refl;
        flag = λ l e. length-set l j true ∙ e;
        time = λ T i l e. array_set Long 11 l j T e (subst (FormedBody g) i h);
        told = λ T i l e. (length-set l j _ ∙ e.0, every_turned Long l j 0 (max (get_or l j 0) T) e.1 (λ k. higher (get_or l j 0) T k (time_told T i)));
        row = λ x e i m l t.
            let k : FormedBody g (value_is x e) = subst (FormedBody g) i h in
            let w = k.2 in (
              length-set l j _ ∙ t.0,
              every_turned TypedRow l j no_row (row_with (get_or l j no_row) m x) t.1
                  (row_with_lem (get_or l j no_row) m x (record { time = k.1; writer = omega (arith, w); sequence = k.3 })),
            );
      }

  module _ (s : Client) (t : TypedClient s) (a value : List ℕ) (from : Party) where
    -- v is the verdict of refusals 10 to 14; a frame that is turned down changes nothing
    typed_judged : (v : Verdict) (m : Message) → FormedBody g m.body → TypedClient (effect_by H g me (judged_by v m) s a value from).client
    unfolding effect_by
    typed_judged (Ok _) m h =
        step_within client_widths H g me s a value (number_in from) t (shape_of H g me s a value from m) (typed_grants (number_in from) m.body h)
    typed_judged (Err r) m h = t

    -- p is the verdict of refusals 1 to 3, u of 4 to 9, v of 10
    typed_after : (f : List ℕ) (p u v : Verdict) → Bytes f → frame_test g f ≡ u
        → TypedClient (effect_by H g me (after p (judge_opened H g me (opened_by u (header_in f)) v s from f)) s a value from).client
    unfolding effect_by judge_opened opened
    typed_after f (Err r) u v i e = t
    typed_after f (Ok _) (Err r) v i e = t
    typed_after f (Ok _) (Ok _) v i e =
        let o = formed_opened g f (header_in f) i (ap (λ (z : Verdict). opened_by z (header_in f)) e) in
        typed_judged (and_then v (message_test H g me s from (message_in g (header_in f) f))) (message_in g (header_in f) f) o.body

    -- the delivery of a frame of bytes keeps a client's numbers within their widths
    pub typed_client_delivery : (f result out to : List ℕ) → Bytes f → TypedClient (delivery H g me s a value from f result out to).client
    unfolding delivery outcome_of delivered judge opened
    typed_client_delivery f result out to i =
        typed_after f (and_then (params_test g me last_client) (value_test g s.phase (length value))) (frame_test g f)
        (room_test g (length a) (length result) (length out) (length to)) i refl
