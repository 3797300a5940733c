-- Each entry in a client's rows has the digest at its server's place, and its block came in a frame. Assumes nothing.
use Rattle.std.specs.Prelude.{Ok, Err}
use Rattle.frame.specs.Refusals.{Verdict, fine}
use Prim.Native.Nat.{ℕ, ◌≤◌}
use native.Mathlib.Omega.{arith}
use mathlib.Core.Bool.{true, not, ◌&&◌}
use mathlib.Core.Path.{◌≡◌, refl, ap, sym, ◌∙◌, subst}
use mathlib.Core.Logic.{inl, inr, ⊎_elim}
use mathlib.Core.Option.{some}
use mathlib.Core.List.{List, [], ◌∷◌, Memᴰ}
use lib.ListN.{length, get_or, replicate}
use lib.Dec.{eqb}
use Rattle.quorum.specs.Quorum.{Among}
use Rattle.blocks.specs.declared.Params.{Params}
use Rattle.frame.specs.declared.Stamp.{Stamp}
use Rattle.frame.specs.declared.Party.{Party}
use Rattle.frame.specs.declared.Header.{Header}
use Rattle.frame.specs.declared.Refusal.TheVariants as R
use Rattle.frame.specs.Chunks.{store_entry, rows_bytes, place_at}
use Rattle.group_rules.specs.Coded.{fits, fit_test}
use Rattle.frame.specs.Frames.{message_in, opened}
use Rattle.frame.specs.Messages.{Entry, Body, value_is, Message, number_in, Carries, Sized}
use Rattle.frame.proofs.Sizes.{Small}
use Rattle.frame.proofs.Verdicts.{fine_both, fine_is}
use Rattle.server_rules.proofs.Parts.{put_cases}
use Rattle.client_rules.specs.declared.Client.{Client}
use Rattle.client_rules.specs.Rows.{used, Kept, places_from, row_view, has_stamp, place_for, row_with, Found}
use Rattle.client_rules.specs.State.{fresh_row, fresh_client, no_row, row_of, with_row}
use Rattle.client_rules.specs.Beginning as CB
use Rattle.client_rules.specs.Delivery as CD
use Rattle.client_rules.specs.State as CS
use Rattle.client_rules.specs.Steps as C
use Rattle.client_rules.proofs.Shapes.{Keeps, drops, keeps, Shape, idle, learns_rows, notes, hears, sends, shuts, counts, ends}
use Rattle.client_rules.proofs.Shapes.{waits, completes, Delivery, refused, taken, shape_delivered}
use Rattle.client_rules.specs.Tests as CT
use Rattle.client_rules.proofs.Views as CV
use Rattle.steps.proofs.ClientTaken.{passed, took, took_room}
use Rattle.client_rules.proofs.CallFacts.{row_shaped, rows_shaped, no_rows}
use Rattle.server_rules.proofs.Passing.{SizedIn, is_server}
use Rattle.server_rules.proofs.Taking.{message_sized}
use Rattle.runs.specs.Admissible.{Admissible}
use Rattle.runs.specs.Blocks.{InFrame}
use Rattle.runs.specs.Events.{At, StopsRead}
use Rattle.runs.specs.World.{Setup, Call, to_server, to_client, begin_read, begin_write, ClientSide, client_done, client_left}
use Rattle.runs.specs.World.{lent_by, start, run, step, put, lent_to, client_effect, read_effect, write_effect}
use Rattle.runs.proofs.Agreement.{small}
use Rattle.runs.proofs.Assumed.{Assumed}

-- ---- rows of which each entry has a property

record Holds (g : Params) (Q : ℕ → Entry → Type 0) (s : Client) (a : List ℕ) : Type 0 where
  pub shaped : CV.Shaped s.rows
  pub each : (j : ℕ) → 1 ≤ j → (k : Kept) → Memᴰ k (row_view g s a j) → Q j k.entry

abbrev Held : (g : Params) (Q : ℕ → Entry → Type 0) → C.Effect → Type 0
Held g Q r = Holds g Q r.client r.area

abbrev Home : (g : Params) (Q : ℕ → Entry → Type 0) → ClientSide → Type 0
Home g Q h = Holds g Q h.client h.area

weaken : (g : Params) (Q Q' : ℕ → Entry → Type 0) (s : Client) (a : List ℕ) → ((j : ℕ) (e : Entry) → Q j e → Q' j e) → Holds g Q s a → Holds g Q' s a
weaken g Q Q' s a f X = record { shaped = X.shaped; each = λ j i k u. f j k.entry (X.each j i k u) }

same_rows : (g : Params) (Q : ℕ → Entry → Type 0) (s s' : Client) (a : List ℕ) → s'.rows ≡ s.rows → Holds g Q s a → Holds g Q s' a
unfolding row_view
same_rows g Q s s' a e X = record {
  shaped = record {
    rows_many = ap length e ∙ X.shaped.rows_many;
    stamps_many = λ j h. ap (λ l. length (get_or l j no_row).stamps) e ∙ X.shaped.stamps_many j h;
  };
  each = λ j i k u. X.each j i k (subst (λ l. Memᴰ k (places_from g a j (get_or l j no_row) 0 (used (get_or l j no_row)))) e u);
}

fresh_holds : (g : Params) (Q : ℕ → Entry → Type 0) (s : Client) (a : List ℕ) → s.rows ≡ replicate 11 fresh_row → Holds g Q s a
fresh_holds g Q s a e = record { shaped = rows_shaped s.rows e; each = λ j i k u. absurd (no_rows g s a j k e u) }

-- ---- a value that is kept

stored_holds : (g : Params) → Small g → (Q : ℕ → Entry → Type 0) (s : Client) (a : List ℕ) → rows_bytes ≤ length a
    → (j : ℕ) → Among 10 j → (x : Stamp) (e : Entry) → Sized g e → Q j e
    → (i : ℕ) → place_for (row_of s j) x ≡ some i → Holds g Q s a → Holds g Q (with_row s j (row_with (row_of s j) i x)) (store_entry a (place_at j i) e)
stored_holds g M Q s a R j is x e z new i p X = record {
  shaped = row_shaped s.rows X.shaped j is.1 i x;
  each = λ m lo k u. ⊎_elim
      (λ w. subst (λ y. Q y k.entry) (sym w.0) (subst (λ y. Q j y) (sym (ap (λ y. y.entry) w.1)) new))
      (λ w. X.each m lo k w)
      (CV.row_kept g M s X.shaped a R j is x e z i (CV.goes (row_of s j) x i p) m lo k u);
}

-- ---- a delivery

module _ (H : List ℕ → List ℕ) (g : Params) (me : ℕ) where
  module _ (M : Small g) (few : g.n ≤ 10) (Q : ℕ → Entry → Type 0) where
    keeps_holds : (s : Client) (a v : List ℕ) → rows_bytes ≤ length a
        → (j : ℕ) → Among 10 j → (x : Stamp) (e : Entry) → Sized g e → Q j e → {s' : Client} {a' : List ℕ}
        → Keeps H g me s a v j x e s' a' → Holds g Q s a → Holds g Q s' a'
    keeps_holds s a v R j is x e z new (drops o) X = X
    keeps_holds s a v R j is x e z new (keeps i o) X = stored_holds g M Q s a R j is x e z new i o X

    -- a value of server j that is kept has its digest there
    shape_holds : (s : Client) (a v : List ℕ) → rows_bytes ≤ length a → (j : ℕ) {b : Body} {r : C.Effect} → SizedIn g b
        → ((x : Stamp) (e : Entry) → b ≡ value_is x e → Among 10 j × Q j e) → Shape H g me s a v j b r → Holds g Q s a → Held g Q r
    shape_holds s a v R j z new (idle b) X = X
    shape_holds s a v R j z new (notes T p) X = same_rows g Q s _ a refl X
    shape_holds s a v R j z new (hears b k q) X = same_rows g Q s _ a (learns_rows H g me s a v j k) X
    shape_holds s a v R j z new (sends b k q l) X = same_rows g Q s _ a (learns_rows H g me s a v j k) X
    shape_holds s a v R j z new (shuts b k q l) X = same_rows g Q s _ a (learns_rows H g me s a v j k) X
    shape_holds s a v R j z new (counts q) X = same_rows g Q s _ a refl X
    shape_holds s a v R j z new (ends q) X = same_rows g Q s _ a refl X
    shape_holds s a v R j z new (waits x e k o) X = let w = new x e refl in keeps_holds s a v R j w.0 x e z w.1 k X
    shape_holds s a v R j z new (completes x e k y o) X = let w = new x e refl in same_rows g Q _ _ _ refl (keeps_holds s a v R j w.0 x e z w.1 k X)

    value_fits : (s : Client) (from : Party) (m : Message) → CT.message_test H g me s from m ≡ fine → (x : Stamp) (e : Entry) → m.body ≡ value_is x e
        → Among 10 (number_in from) × (fits H e (number_in from) ≡ true)
    unfolding fit_test CT.order_test
    value_fits s from m t x e p =
        let w = passed H g me s from _ t in
        let (j, ej, is) = is_server g from w.server in
        let at : Among g.n (number_in from) = rw ej is in
        let y = CT.awaited (CS.reading s.phase
        && (eqb m.sequence s.reads && not (has_stamp (row_of s (number_in from)).stamps (used (row_of s (number_in from))) x))) in
        let o = ap (CT.order_test H g me s (number_in from) m.sequence) (sym p) ∙ w.order in
        ((at.0, omega (arith, at.1, few)), (fine_is (fits H e (number_in from)) R.Digest fine (fine_both y (fit_test H e (number_in from)) o).1).0)

    delivered_holds : (s : Client) (a v : List ℕ) (from : Party) (f result out to : List ℕ)
        → ((j : ℕ) (h : Header) (x : Stamp) (e : Entry) → opened g f ≡ Ok h → (message_in g h f).body ≡ value_is x e → fits H e j ≡ true → Q j e)
        → Holds g Q s a → Held g Q (CD.delivered H g me s a v from f result out to)
    delivered_holds s a v from f result out to new X = go (shape_delivered H g me s a v from f result out to)
      where
        go : {r : C.Effect} → Delivery H g me s a v from (CT.judge H g me s a v from f result out to) r → Held g Q r
        go (refused x e) = X
        go (taken m e h) =
            let T = took H g me s a v from f result out to m e in
            let z : SizedIn g m.body = subst (λ y. SizedIn g y.body) T.says (message_sized g f T.header T.opens) in
            shape_holds s a v (took_room H g me s a v from f result out to m e).rows_room (number_in from) z
            (λ x y b. let w = value_fits s from m T.passes x y b in
            (w.0, new (number_in from) T.header x y T.opens (ap (λ z. z.body) T.says ∙ b) w.1)) h X

  read_holds : (Q : ℕ → Entry → Type 0) (s : Client) (a out to : List ℕ) → Holds g Q s a → Holds g Q (CB.read_begun g me s out to).client a
  unfolding CB.read_begun CB.open_read CB.begin_by
  read_holds Q s a out to X = go (CB.read_test g me s out to)
    where
      go : (y : Verdict) → Holds g Q (CB.begin_by g me y s (CB.open_read g me s)).client a
      go (Err r) = X
      go (Ok _) = fresh_holds g Q _ a refl

  write_holds : (Q : ℕ → Entry → Type 0) (s : Client) (a v out to : List ℕ) → Holds g Q s a → Holds g Q (CB.write_begun g me s v out to).client a
  unfolding CB.write_begun CB.open_write CB.begin_by
  write_holds Q s a v out to X = go (CB.write_test g me s v out to)
    where
      go : (y : Verdict) → Holds g Q (CB.begin_by g me y s (CB.open_write g me s)).client a
      go (Err r) = X
      go (Ok _) = same_rows g Q s _ a refl X

-- ---- in a run

module _ (Z : Setup) (G : Assumed Z) where
  open Z use {H, g}

  abbrev Came : List Call → ℕ → Entry → Type 0
  Came ks j e = (fits H e j ≡ true) × (p : ℕ) × At (InFrame Z e.block) ks p

  came_later : (ks : List Call) (k : Call) (j : ℕ) (e : Entry) → Came ks j e → Came (k ∷ ks) j e
  came_later ks k j e w = (w.0, w.1, inr w.2)

  home_put : (Q : ℕ → Entry → Type 0) (f : ℕ → ClientSide) (d : ℕ) (v : ClientSide) → ((c : ℕ) → Home g Q (f c)) → Home g Q v → (c : ℕ) → Home g Q (put f d v c)
  home_put Q f d v old new c = ⊎_elim (λ w. subst (Home g Q) (sym w.1) new) (λ w. subst (Home g Q) (sym w) (old c)) (put_cases f d v c)

  in_value : (b : Body) (x : Stamp) (e : Entry) → b ≡ value_is x e → Carries b e.block
  in_value b x e p = subst (λ z. Carries z e.block) (sym p) refl

  homes_next : (ks : List Call) (k : Call) → ((c : ℕ) → Home g (Came (k ∷ ks)) ((run Z ks).clients c)) → (c : ℕ)
      → Home g (Came (k ∷ ks)) ((run Z (k ∷ ks)).clients c)
  unfolding run step
  homes_next ks (to_server i from f out to) X c = X c
  homes_next ks (to_client d from f lent result out to) X c =
      home_put (Came (to_client d from f lent result out to ∷ ks)) (run Z ks).clients d
      (client_done Z (client_effect Z (run Z ks) d from f lent result out to) ((run Z ks).clients d).value) X
      (delivered_holds H g d (small Z G) G.bounded.servers_high (Came (to_client d from f lent result out to ∷ ks))
      ((run Z ks).clients d).client ((run Z ks).clients d).area (lent_to Z (run Z ks) d lent) from f result out to
      (λ j h x e o b t. (t, length ks, inl (refl, (h, o, in_value _ x e b)))) (X d)) c
  homes_next ks (begin_read d out to) X c =
      home_put (Came (begin_read d out to ∷ ks)) (run Z ks).clients d
      (client_left Z (read_effect Z (run Z ks) d out to) ((run Z ks).clients d).area ((run Z ks).clients d).value) X
      (read_holds H g d (Came (begin_read d out to ∷ ks)) ((run Z ks).clients d).client ((run Z ks).clients d).area out to (X d)) c
  homes_next ks (begin_write d v out to) X c =
      home_put (Came (begin_write d v out to ∷ ks)) (run Z ks).clients d (client_left Z (write_effect Z (run Z ks) d v out to) ((run Z ks).clients d).area
      (lent_by Z (CB.write_test g d ((run Z ks).clients d).client v out to) v ((run Z ks).clients d).value)) X
      (write_holds H g d (Came (begin_write d v out to ∷ ks)) ((run Z ks).clients d).client ((run Z ks).clients d).area v out to (X d)) c

  homes_start : (c : ℕ) → Home g (Came []) ((run Z []).clients c)
  unfolding run start fresh_client
  homes_start c = fresh_holds g (Came []) fresh_client (Z.rows_areas c) refl

  homes : (ks : List Call) (c : ℕ) → Home g (Came ks) ((run Z ks).clients c)
  homes [] c = homes_start c
  homes (k ∷ ks) c = homes_next ks k (λ d. weaken g (Came ks) (Came (k ∷ ks)) _ _ (came_later ks k) (homes ks d)) c

  -- What a client's rows hold as its read ends fits.
  pub rows_fit : (ks : List Call) (k : Call) → Admissible Z (k ∷ ks) → (c q : ℕ) (x : Found) → StopsRead Z c q x ks k → (j : ℕ) → Among Z.g.n j
      → (e : Kept) → Memᴰ e (row_view Z.g ((run Z (k ∷ ks)).clients c).client ((run Z (k ∷ ks)).clients c).area j) → fits Z.H e.entry j ≡ true
  rows_fit ks k a c q x u j i e h = ((homes (k ∷ ks) c).each j i.0 e h).0

  -- Its blocks came in frames.
  pub rows_carried : (ks : List Call) (k : Call) → Admissible Z (k ∷ ks) → (c q : ℕ) (x : Found) → StopsRead Z c q x ks k → (j : ℕ) → Among Z.g.n j
      → (e : Kept) → Memᴰ e (row_view Z.g ((run Z (k ∷ ks)).clients c).client ((run Z (k ∷ ks)).clients c).area j)
      → (p : ℕ) × At (InFrame Z e.entry.block) (k ∷ ks) p
  rows_carried ks k a c q x u j i e h = let w = (homes (k ∷ ks) c).each j i.0 e h in (w.1, w.2)
