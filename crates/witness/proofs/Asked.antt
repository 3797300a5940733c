-- A delivery to a client, with what its chunks hold in place of its rows area: the same client, frames and end. Assumes nothing.
use Prim.Native.Nat.{ℕ, zero, suc, ◌+◌, ◌≤◌}
use native.Mathlib.Omega.{arith}
use mathlib.Core.Bool.{Bool, true, false}
use mathlib.Core.Path.{◌≡◌, refl, subst}
use mathlib.Core.Option.{Option, none, some}
use mathlib.Core.List.{List, [], ◌∷◌}
use lib.ListN.{length, get_or, set}
use lib.Dec.{ltb}
use Rattle.blocks.specs.declared.Params.{Params}
use Rattle.frame.specs.declared.Stamp.{Stamp}
use Rattle.frame.specs.declared.Party.{Party}
use Rattle.frame.specs.Params.{Bounded, params_test}
use Rattle.frame.specs.Stamps.{last_time, last_client, zero_stamp}
use Rattle.frame.specs.Refusals.{and_then}
use Rattle.frame.specs.Frames.{opened}
use Rattle.frame.specs.Messages.{Entry, Sized, Body, get_stamp, ack, ask_read, read_complete, stamp_is}
use Rattle.frame.specs.Messages.{block_is, value_is, report, Sending, number_in, Judged, bad, good, after}
use Rattle.frame.specs.Chunks.{entry_at, store_entry, place_at, rows_bytes}
use Rattle.frame.proofs.Sizes.{Small}
use Rattle.client_rules.specs.declared.Row.{Row}
use Rattle.client_rules.specs.declared.Client.{Client}
use Rattle.client_rules.specs.Rows.{Kept, used, places_from, row_view, place_for, row_with, Found, search}
use Rattle.client_rules.specs.State.{asking, row_of, in_phase, with_row, with_report}
use Rattle.client_rules.specs.declared.Phase.TheVariants as F
use Rattle.client_rules.specs.Steps as C
use Rattle.client_rules.specs.Tests as CT
use Rattle.client_rules.specs.Delivery as CD
use Rattle.client_rules.proofs.Views as CV
use Rattle.server_rules.proofs.Passing.{SizedIn, is_server}
use Rattle.steps.proofs.ClientTaken.{took, passed}
use Rattle.server_rules.proofs.Taking.{message_sized}
use Rattle.runs.specs.World.{put}
use Rattle.witness.proofs.Areas.{Shows, stored}

-- what a delivery leaves and does, the entries in place of the area
pub record Heard : Type 0 where
  pub client : Client
  pub entries : ℕ → Entry
  pub sends : List Sending
  pub event : C.Event

abbrev pub heard : C.Effect → (ℕ → Entry) → Heard
heard r f = record { client = r.client; entries = f; sends = r.sends; event = r.event }

-- places i to i + m - 1 of server j's row, and the row
abbrev pub places_by : (ℕ → Entry) → ℕ → Row → ℕ → ℕ → List Kept
places_by f j r i zero = []
places_by f j r i (suc m) = record { stamp = get_or r.stamps i zero_stamp; entry = f (place_at j i) } ∷ places_by f j r (suc i) m

abbrev pub row_by : (ℕ → Entry) → Client → ℕ → List Kept
row_by f s j = places_by f j (row_of s j) 0 (used (row_of s j))

module _ (H : List ℕ → List ℕ) (g : Params) (me : ℕ) where
  unfoldable pub searched_by : Client → (ℕ → Entry) → Heard
  searched_by s f = heard (C.complete_by H g me (search g (row_by f s)) s []) f

  unfoldable pub kept_by : Option ℕ → Client → (ℕ → Entry) → ℕ → Stamp → Entry → Heard
  kept_by none s f j x e = searched_by s f
  kept_by (some i) s f j x e = searched_by (with_row s j (row_with (row_of s j) i x)) (put f (place_at j i) e)

  unfoldable pub body_by : Client → (ℕ → Entry) → List ℕ → ℕ → Body → Heard
  body_by s f v j get_stamp = heard (C.on_body H g me s [] v j get_stamp) f
  body_by s f v j ack = heard (C.on_body H g me s [] v j ack) f
  body_by s f v j ask_read = heard (C.on_body H g me s [] v j ask_read) f
  body_by s f v j read_complete = heard (C.on_body H g me s [] v j read_complete) f
  body_by s f v j (stamp_is T) = heard (C.on_body H g me s [] v j (stamp_is T)) f
  body_by s f v j (block_is z o) = heard (C.on_body H g me s [] v j (block_is z o)) f
  body_by s f v j (value_is x e) = kept_by (place_for (row_of s j) x) s f j x e
  body_by s f v j (report T) = heard (C.on_body H g me s [] v j (report T)) f

  unfoldable pub heard_by : Judged → Client → (ℕ → Entry) → List ℕ → Party → Heard
  heard_by (bad r) s f v from = heard (C.quiet s []) f
  heard_by (good m) s f v from = body_by s f v (number_in from) m.body

  -- the tests, where the rows area has its least length
  unfoldable pub judge_by : Client → List ℕ → Party → List ℕ → List ℕ → List ℕ → List ℕ → Judged
  judge_by s v from f result out to =
      after (and_then (params_test g me last_client) (CT.value_test g s.phase (length v)))
      (CT.judge_opened H g me (opened g f) (CT.room_test g rows_bytes (length result) (length out) (length to)) s from f)

  -- the whole delivery
  unfoldable pub asked : Client → (ℕ → Entry) → List ℕ → Party → List ℕ → List ℕ → List ℕ → List ℕ → Heard
  asked s h v from f result out to = heard_by (judge_by s v from f result out to) s h v from

-- ---- they agree

pub record Hears (g : Params) (r : C.Effect) (m : Heard) : Type 0 where
  pub client : r.client ≡ m.client
  pub sends : r.sends ≡ m.sends
  pub event : r.event ≡ m.event
  pub area : Shows g rows_bytes r.area m.entries

places_seen : (g : Params) (a : List ℕ) (f : ℕ → Entry) → ((p : ℕ) → entry_at g a p ≡ f p) → (j : ℕ) (r : Row) (i m : ℕ)
    → places_from g a j r i m ≡ places_by f j r i m
unfolding places_from
places_seen g a f h j r i zero = refl
places_seen g a f h j r i (suc m) =
    let w = places_seen g a f h j r (suc i) m in
    λ d. record { stamp = get_or r.stamps i zero_stamp; entry = h (place_at j i) d } ∷ w d

module _ (H : List ℕ → List ℕ) (g : Params) (B : Bounded g) (M : Small g) (me : ℕ) where
  complete_seen : (s : Client) (a : List ℕ) (f : ℕ → Entry) → Shows g rows_bytes a f → (o : Option Found)
      → Hears g (C.complete_by H g me o s a) (heard (C.complete_by H g me o s []) f)
  unfolding C.complete_by
  complete_seen s a f X none = record { client = refl; sends = refl; event = refl; area = X }
  complete_seen s a f X (some x) = record { client = refl; sends = refl; event = refl; area = X }

  search_seen : (s : Client) (a : List ℕ) (f : ℕ → Entry) → Shows g rows_bytes a f → Hears g (C.settle H g me s a) (searched_by H g me s f)
  unfolding C.settle searched_by row_view
  search_seen s a f X =
      subst (λ o. Hears g (C.complete_by H g me (search g (row_view g s a)) s a) (heard (C.complete_by H g me o s []) f))
      (λ d. search g (λ j. places_seen g a f X.at j (row_of s j) 0 (used (row_of s j)) d))
      (complete_seen s a f X (search g (row_view g s a)))

  keep_seen : (s : Client) (a : List ℕ) (f : ℕ → Entry) → Shows g rows_bytes a f → (j : ℕ) → 1 ≤ j → j ≤ 10 → (x : Stamp) (e : Entry) → Sized g e
      → (o : Option ℕ) → place_for (row_of s j) x ≡ o → Hears g (C.keep_by H g me o s a j x e) (kept_by H g me o s f j x e)
  unfolding C.keep_by kept_by
  keep_seen s a f X j lo hi x e Q none h = search_seen s a f X
  keep_seen s a f X j lo hi x e Q (some i) h =
      let G = CV.goes (row_of s j) x i h in
      search_seen (with_row s j (row_with (row_of s j) i x)) (store_entry a (place_at j i) e) _
      (stored g M rows_bytes a f X (place_at j i) (omega (arith, lo, hi, G.small)) e Q)

  send_seen : (s : Client) (a : List ℕ) (f : ℕ → Entry) → Shows g rows_bytes a f → (v : List ℕ) (T : ℕ) (b : Bool)
      → Hears g (C.send_below H g me b s a v T) (heard (C.send_below H g me b s [] v T) f)
  unfolding C.send_below
  send_seen s a f X v T true = record { client = refl; sends = refl; event = refl; area = X }
  send_seen s a f X v T false = record { client = refl; sends = refl; event = refl; area = X }

  gather_seen : (s : Client) (a : List ℕ) (f : ℕ → Entry) → Shows g rows_bytes a f → (v : List ℕ) (b : Bool)
      → Hears g (C.gather_by H g me b s a v) (heard (C.gather_by H g me b s [] v) f)
  unfolding C.gather_by
  gather_seen s a f X v true = send_seen s a f X v _ (ltb (C.largest_counted g s) last_time)
  gather_seen s a f X v false = record { client = refl; sends = refl; event = refl; area = X }

  report_seen : (s : Client) (a : List ℕ) (f : ℕ → Entry) → Shows g rows_bytes a f → (v : List ℕ) (b : Bool)
      → Hears g (C.report_by H g me b s a v) (heard (C.report_by H g me b s [] v) f)
  unfolding C.report_by
  report_seen s a f X v true = gather_seen s a f X v (C.gathered g s)
  report_seen s a f X v false = record { client = refl; sends = refl; event = refl; area = X }

  end_seen : (s : Client) (a : List ℕ) (f : ℕ → Entry) → Shows g rows_bytes a f → (h : List Bool) (b : Bool)
      → Hears g (C.end_by H g me b s a h) (heard (C.end_by H g me b s [] h) f)
  unfolding C.end_by
  end_seen s a f X h true = record { client = refl; sends = refl; event = refl; area = X }
  end_seen s a f X h false = record { client = refl; sends = refl; event = refl; area = X }

  body_seen : (s : Client) (a : List ℕ) (f : ℕ → Entry) → Shows g rows_bytes a f → (v : List ℕ) (j : ℕ) → 1 ≤ j → j ≤ 10 → (b : Body) → SizedIn g b
      → Hears g (C.on_body H g me s a v j b) (body_by H g me s f v j b)
  unfolding C.on_body C.on_stamp C.on_report C.on_ack C.on_value body_by
  body_seen s a f X v j lo hi get_stamp Q = record { client = refl; sends = refl; event = refl; area = X }
  body_seen s a f X v j lo hi ack Q = end_seen s a f X (set s.heard j true) (C.quorate g (set s.heard j true))
  body_seen s a f X v j lo hi ask_read Q = record { client = refl; sends = refl; event = refl; area = X }
  body_seen s a f X v j lo hi read_complete Q = record { client = refl; sends = refl; event = refl; area = X }
  body_seen s a f X v j lo hi (stamp_is T) Q =
      gather_seen (in_phase (with_report s j T) F.Asking (set s.heard j true) (set s.times j T)) a f X v (C.gathered g _)
  body_seen s a f X v j lo hi (report T) Q = report_seen (with_report s j T) a f X v (asking s.phase)
  body_seen s a f X v j lo hi (block_is z o) Q = record { client = refl; sends = refl; event = refl; area = X }
  body_seen s a f X v j lo hi (value_is x e) Q = keep_seen s a f X j lo hi x e Q (place_for (row_of s j) x) refl

  pub judge_seen : (s : Client) (a v : List ℕ) (from : Party) (f result out to : List ℕ) → length a ≡ rows_bytes
      → CT.judge H g me s a v from f result out to ≡ judge_by H g me s v from f result out to
  unfolding CT.judge judge_by
  judge_seen s a v from f result out to e i =
      after (and_then (params_test g me last_client) (CT.value_test g s.phase (length v)))
      (CT.judge_opened H g me (opened g f) (CT.room_test g (e i) (length result) (length out) (length to)) s from f)

  pub client_seen : (s : Client) (a : List ℕ) (h : ℕ → Entry) → Shows g rows_bytes a h → (v : List ℕ) (from : Party) (f result out to : List ℕ)
      → Hears g (CD.delivered H g me s a v from f result out to) (asked H g me s h v from f result out to)
  unfolding CD.delivered CD.effect_by asked heard_by C.effect
  client_seen s a h X v from f result out to =
      subst (λ j. Hears g (CD.delivered H g me s a v from f result out to) (heard_by H g me j s h v from)) (judge_seen s a v from f result out to X.long)
      (go (CT.judge H g me s a v from f result out to) refl)
    where
      go : (j : Judged) → CT.judge H g me s a v from f result out to ≡ j → Hears g (CD.effect_by H g me j s a v from) (heard_by H g me j s h v from)
      go (bad r) e = record { client = refl; sends = refl; event = refl; area = X }
      go (good m) e =
          let T = took H g me s a v from f result out to m e in
          let w = is_server g from (passed H g me s from m T.passes).server in
          body_seen s a h X v (number_in from) (rw w.1 w.2.0) (rw w.1 (let h : w.0 ≤ 10 = omega (arith, w.2.1, B.servers_high) in h)) m.body
          (subst (λ y. SizedIn g y.body) T.says (message_sized g f T.header T.opens))
