-- The law of a client's step: what forms it can have. Who needs to know what a step does goes by these cases and never by a step's text. Assumes nothing.
use Prim.Native.Nat.{ℕ, ◌≤◌, ◌<◌}
use mathlib.Core.Bool.{Bool, true, false}
use mathlib.Core.Path.{◌≡◌, refl, sym, subst}
use mathlib.Core.Option.{Option, none, some}
use mathlib.Core.List.{List, []}
use lib.ListN.{length, set, replicate}
use lib.Dec.{ltb}
use borrow.Author.Tests.{ltb-true, ltb-false}
use Rattle.quorum.proofs.Logic.{impossible}
use Rattle.blocks.specs.declared.Params.{Params}
use Rattle.frame.specs.declared.Stamp.{Stamp}
use Rattle.frame.specs.declared.Party.{Party}
use Rattle.frame.specs.declared.Refusal.{Refusal}
use Rattle.frame.specs.Stamps.{last_time}
use Rattle.frame.specs.Chunks.{store_entry, place_at}
use Rattle.frame.specs.Messages.{Entry, Body, get_stamp, ack, ask_read, read_complete, stamp_is, block_is}
use Rattle.frame.specs.Messages.{value_is, report, Message, message, Sending, to_all, number_in, Judged, bad, good}
use Rattle.frame.proofs.Chunks.{length_store}
use Rattle.client_rules.specs.declared.Client.{Client}
use Rattle.client_rules.specs.declared.Phase.{Phase}
use Rattle.client_rules.specs.declared.Phase.TheVariants as F
use Rattle.client_rules.specs.State.{asking, row_of, in_phase, shut, with_row, with_report}
use Rattle.client_rules.specs.Rows.{row_view, place_for, row_with, Found, search}
use Rattle.client_rules.specs.Steps as C
use Rattle.client_rules.specs.Tests.{judge}
use Rattle.client_rules.specs.Delivery as CD

pub asking_is : (p : Phase) → asking p ≡ true → p ≡ F.Asking
asking_is F.Idle e = impossible (cc)
asking_is F.Asking e = refl
asking_is F.Acking e = impossible (cc)
asking_is F.Reading e = impossible (cc)

module _ (H : List ℕ → List ℕ) (g : Params) (me : ℕ) (s : Client) (a v : List ℕ) (j : ℕ) where
  -- server j's stamp or ack is counted
  abbrev pub heard_now : List Bool
  heard_now = set s.heard j true

  -- its time T, too, which is a report
  abbrev pub asked : ℕ → Client
  asked T = in_phase (with_report s j T) F.Asking heard_now (set s.times j T)

  -- in the first part of a write server j's stamp or report leaves this
  pub data Learns : Body → Client → Type 0 where
    replies : (T : ℕ) → Learns (stamp_is T) (asked T)
    reports : (T : ℕ) → asking s.phase ≡ true → Learns (report T) (with_report s j T)

  -- the value's blocks, with the time M, to all
  abbrev pub dispersed : ℕ → List Sending
  dispersed M = C.dispersal H g me s.writes v M

  -- server j's value (x, e) is kept at a place of its row, or dropped
  pub data Keeps (x : Stamp) (e : Entry) : Client → List ℕ → Type 0 where
    drops : place_for (row_of s j) x ≡ none → Keeps x e s a
    keeps : (i : ℕ) → place_for (row_of s j) x ≡ some i → Keeps x e (with_row s j (row_with (row_of s j) i x)) (store_entry a (place_at j i) e)

  -- what a frame of server j does
  pub data Shape : Body → C.Effect → Type 0 where
    idle : (b : Body) → Shape b (C.quiet s a)
    notes : (T : ℕ) → asking s.phase ≡ false → Shape (report T) (C.quiet (with_report s j T) a)
    hears : (b : Body) {s' : Client} → Learns b s' → C.gathered g s' ≡ false → Shape b (C.quiet s' a)
    sends : (b : Body) {s' : Client} → Learns b s' → C.gathered g s' ≡ true → C.largest_counted g s' < last_time → Shape b (record {
      client = in_phase s' F.Acking (replicate 11 false) s'.times;
      area = a;
      sends = dispersed (C.largest_counted g s');
      event = C.nothing;
    })
    shuts : (b : Body) {s' : Client} → Learns b s' → C.gathered g s' ≡ true → last_time ≤ C.largest_counted g s'
        → Shape b (record { client = shut s'; area = a; sends = []; event = C.out_of_stamps })
    counts : C.quorate g heard_now ≡ false → Shape ack (C.quiet (in_phase s F.Acking heard_now s.times) a)
    ends : C.quorate g heard_now ≡ true → Shape ack (record { client = in_phase s F.Idle heard_now s.times; area = a; sends = []; event = C.written })
    waits : (x : Stamp) (e : Entry) {s' : Client} {a' : List ℕ} → Keeps x e s' a' → search g (row_view g s' a') ≡ none → Shape (value_is x e) (C.quiet s' a')
    completes : (x : Stamp) (e : Entry) {s' : Client} {a' : List ℕ} → Keeps x e s' a' → (y : Found) → search g (row_view g s' a') ≡ some y
        → Shape (value_is x e) (record {
          client = in_phase s' F.Idle s'.heard s'.times;
          area = a';
          sends = to_all g (λ i. message me s'.reads read_complete);
          event = C.stopped y;
        })

  -- what is learned leaves the write's number
  pub learns_writes : {b : Body} {s' : Client} → Learns b s' → s'.writes ≡ s.writes
  learns_writes (replies T) = refl
  learns_writes (reports T p) = refl

  pub learns_reads : {b : Body} {s' : Client} → Learns b s' → s'.reads ≡ s.reads
  learns_reads (replies T) = refl
  learns_reads (reports T p) = refl

  pub learns_rows : {b : Body} {s' : Client} → Learns b s' → s'.rows ≡ s.rows
  learns_rows (replies T) = refl
  learns_rows (reports T p) = refl

  -- the write is still in its first part
  pub learns_phase : {b : Body} {s' : Client} → Learns b s' → s'.phase ≡ F.Asking
  learns_phase (replies T) = refl
  learns_phase (reports T p) = asking_is s.phase p

  gathers : {b : Body} {s' : Client} → Learns b s' → Shape b (C.gather H g me s' a v)
  unfolding C.gather_by C.send_below
  gathers {b} {s'} k = go (C.gathered g s') refl
    where
      below : (t : Bool) → ltb (C.largest_counted g s') last_time ≡ t → C.gathered g s' ≡ true → Shape b (C.send_below H g me t s' a v (C.largest_counted g s'))
      below true e q =
          subst (λ w. Shape b (record {
            client = in_phase s' F.Acking (replicate 11 false) s'.times;
            area = a;
            sends = C.dispersal H g me w v (C.largest_counted g s');
            event = C.nothing;
          })) (sym (learns_writes k)) (sends b k q (ltb-true (C.largest_counted g s') last_time e))
      below false e q = shuts b k q (ltb-false (C.largest_counted g s') last_time e)

      go : (t : Bool) → C.gathered g s' ≡ t → Shape b (C.gather_by H g me t s' a v)
      go true q = below (ltb (C.largest_counted g s') last_time) refl q
      go false q = hears b k q

  on_stamp_lem : (T : ℕ) → Shape (stamp_is T) (C.on_stamp H g me s a v j T)
  unfolding C.on_stamp
  on_stamp_lem T = gathers (replies T)

  on_report_lem : (T : ℕ) → Shape (report T) (C.on_report H g me s a v j T)
  unfolding C.on_report C.report_by
  on_report_lem T = go (asking s.phase) refl
    where
      go : (t : Bool) → asking s.phase ≡ t → Shape (report T) (C.report_by H g me t (with_report s j T) a v)
      go true p = gathers (reports T p)
      go false p = notes T p

  on_ack_lem : Shape ack (C.on_ack H g me s a j)
  unfolding C.on_ack C.end_by
  on_ack_lem = go (C.quorate g heard_now) refl
    where
      go : (b : Bool) → C.quorate g heard_now ≡ b → Shape ack (C.end_by H g me b s a heard_now)
      go true q = ends q
      go false q = counts q

  on_value_lem : (x : Stamp) (e : Entry) → Shape (value_is x e) (C.on_value H g me s a j x e)
  unfolding C.on_value C.keep_by C.settle C.complete_by
  on_value_lem x e = go (place_for (row_of s j) x) refl
    where
      settled : (s' : Client) (a' : List ℕ) → Keeps x e s' a' → (o : Option Found) → search g (row_view g s' a') ≡ o
          → Shape (value_is x e) (C.complete_by H g me o s' a')
      settled s' a' k none z = waits x e k z
      settled s' a' k (some y) z = completes x e k y z

      go : (o : Option ℕ) → place_for (row_of s j) x ≡ o → Shape (value_is x e) (C.keep_by H g me o s a j x e)
      go none z = settled _ _ (drops z) (search g (row_view g s a)) refl
      go (some i) z = settled _ _ (keeps i z) (search g (row_view g (with_row s j (row_with (row_of s j) i x)) (store_entry a (place_at j i) e))) refl

  pub shape : (b : Body) → Shape b (C.on_body H g me s a v j b)
  unfolding C.on_body
  shape get_stamp = idle get_stamp
  shape ack = on_ack_lem
  shape ask_read = idle ask_read
  shape read_complete = idle read_complete
  shape (stamp_is T) = on_stamp_lem T
  shape (block_is z o) = idle (block_is z o)
  shape (value_is x e) = on_value_lem x e
  shape (report T) = on_report_lem T

  -- ---- what every step keeps

  keeps_length : {x : Stamp} {e : Entry} {s' : Client} {a' : List ℕ} → Keeps x e s' a' → length a' ≡ length a
  keeps_length (drops z) = refl
  keeps_length {e = e} (keeps i z) = length_store a (place_at j i) e

  pub shape_length : {b : Body} {r : C.Effect} → Shape b r → length r.area ≡ length a
  shape_length (idle b) = refl
  shape_length (notes T p) = refl
  shape_length (hears b k q) = refl
  shape_length (sends b k q l) = refl
  shape_length (shuts b k q l) = refl
  shape_length (counts q) = refl
  shape_length (ends q) = refl
  shape_length (waits x e k z) = keeps_length k
  shape_length (completes x e k y z) = keeps_length k

module _ (H : List ℕ → List ℕ) (g : Params) (me : ℕ) (s : Client) (a v : List ℕ) (from : Party) where
  -- the same of a message
  pub shape_of : (m : Message) → Shape H g me s a v (number_in from) m.body (C.effect H g me s a v from m)
  unfolding C.effect
  shape_of m = shape H g me s a v (number_in from) m.body

  -- of a delivery: refused, and nothing is done, or a message taken
  pub data Delivery (j : Judged) : C.Effect → Type 0 where
    refused : (x : Refusal) → j ≡ bad x → Delivery j (C.quiet s a)
    taken : (m : Message) → j ≡ good m → {r : C.Effect} → Shape H g me s a v (number_in from) m.body r → Delivery j r

  pub shape_delivered : (f result out to : List ℕ) → Delivery (judge H g me s a v from f result out to) (CD.delivered H g me s a v from f result out to)
  unfolding CD.delivered CD.effect_by
  shape_delivered f result out to = go (judge H g me s a v from f result out to) refl
    where
      go : (j : Judged) → judge H g me s a v from f result out to ≡ j
          → Delivery (judge H g me s a v from f result out to) (CD.effect_by H g me j s a v from)
      go (bad x) e = refused x e
      go (good m) e = taken m e (shape_of m)
