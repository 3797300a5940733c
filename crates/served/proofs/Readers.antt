-- In a finished run no honest client still reads, where all honest servers hold one present value: each has told the client of it, the client's row of that
-- server has it, and no larger one of that server's; so n - t rows have it, and the search would have stopped. Assumes nothing.
use Prim.Native.Nat.{ℕ, zero, suc, ◌+◌, ◌≤◌, ◌<◌}
use native.Mathlib.Omega.{arith}
use native.Mathlib.Decide.{ℕ_discrete}
use mathlib.Core.Bool.{Bool, true, false}
use mathlib.Core.Path.{◌≡◌, refl, ap, sym, ◌∙◌, subst}
use mathlib.Core.Logic.{◌⊎◌, inl, inr, ⊎_elim}
use mathlib.Core.Option.{Option, none, some}
use mathlib.Core.List.Memᴰ
use mathlib.Core.List.{List, [], ◌∷◌, ◌++◌, Memᴰ}
use lib.ListN.{length, get_or, replicate}
use borrow.Author.Tests.{le-leb}
use Rattle.quorum.specs.Quorum.{count, Among}
use Rattle.quorum.proofs.Logic.{impossible}
use Rattle.quorum.proofs.Quorums.{at_least_count, at_least_fewer, honest_servers, honest_member}
use Rattle.precedence.proofs.Precedence as PP
use Rattle.area.specs.Area.{pick, same}
use Rattle.area.proofs.Same.{same_refl}
use Rattle.blocks.specs.declared.Params.{Params}
use Rattle.group_rules.specs.Coded.{has_list}
use Rattle.frame.specs.declared.Stamp.{Stamp}
use Rattle.frame.specs.declared.Party.TheVariants as A
use Rattle.frame.specs.Chunks.{entry_at, rows_bytes}
use Rattle.frame.specs.Messages.{ask_read, value_is, message}
use Rattle.frame.specs.Stamps.{same_stamp}
use Rattle.frame.proofs.Sizes.{Small}
use Rattle.frame.proofs.StampOrder.{older_of, stamp_of_lem, same_of}
use Rattle.client_rules.specs.declared.Client.{Client}
use Rattle.client_rules.specs.declared.Phase.TheVariants as F
use Rattle.client_rules.specs.Rows.{Kept, used, has_stamp, row_view, at_stamp, rows_from, agreed, first_by, first_agreed, found_by, search}
use Rattle.client_rules.specs.State.{fresh_row, fresh_client, no_row, row_of}
use Rattle.client_rules.specs.Beginning as CB
use Rattle.client_rules.proofs.CallFacts.{fresh_row_lem}
use Rattle.client_rules.proofs.Shapes.{shape_length}
use Rattle.client_rules.proofs.Views.{placed, of_placed}
use Rattle.steps.proofs.Keys.{key, older_key}
use Rattle.steps.proofs.ServerRanges.{StampInBounds}
use Rattle.runs.specs.Admissible.{Honest, Admissible}
use Rattle.runs.specs.World.{Setup, Call, start, run}
use Rattle.runs.proofs.Agreement.{small}
use Rattle.runs.proofs.Assumed.{Assumed}
use Rattle.runs.proofs.Formation.{formed, in_bounds, agreement}
use Rattle.runs.proofs.OrderLaws.{fresh, lawful_run}
use Rattle.runs.proofs.Roomy.{roomy_same}
use Rattle.runs.proofs.StampViews.{views, stamps, shown}
use Rattle.runs.proofs.ServerLaws.{stamp_at_lem}
use Rattle.taking.proofs.PastRows.{RowPast, has_place}
use Rattle.served.specs.Finished.{Finished}
use Rattle.service.proofs.Folds.{all_honest}
use Rattle.server_rules.specs.State.{present_entry}
use Rattle.precedence.specs.Laws as PL
use Rattle.served.proofs.Clients.{home, ClientTurn, rests, takes, begins_read, begins_write, client_turn}
use Rattle.served.proofs.ClientState.{Doing, stands}
use Rattle.served.proofs.ClientPast.{read_stage}
use Rattle.served.proofs.ClientWords.{words}
use Rattle.served.proofs.ClientReached.{answer_reached}
use Rattle.served.proofs.ReaderState.{reader, list_at, stamp_at, reader_stands}
use Rattle.served.proofs.ServerPast.{reached}

-- ---- the search

-- what a row has at a stamp is one of its entries
at_found : (l : List Kept) (x : Stamp) (k : Kept) → Memᴰ k l → k.stamp ≡ x → (j : Kept) × Memᴰ j l × (j.stamp ≡ x) × (at_stamp l x ≡ some j.entry)
unfolding at_stamp pick
at_found [] x k u e = absurd (Memᴰ.not-nil u)
at_found (y ∷ l) x k u e = go (same_stamp y.stamp x) refl (λ v. at_found l x k v e) (Memᴰ.cases_cons u)
  where
    go : (b : Bool) → same_stamp y.stamp x ≡ b → (Memᴰ k l → (j : Kept) × Memᴰ j l × (j.stamp ≡ x) × (at_stamp l x ≡ some j.entry))
        → (k ≡ y) ⊎ Memᴰ k l → (j : Kept) × Memᴰ j (y ∷ l) × (j.stamp ≡ x) × (pick b (some y.entry) (at_stamp l x) ≡ some j.entry)
    go true q f w = (y, Memᴰ.head refl, stamp_of_lem _ _ q, refl)
    go false q f (inl z) = impossible (cc (q, same_of y.stamp x (ap (λ k. k.stamp) (sym z) ∙ e)))
    go false q f (inr v) = let (j, w, s, t) = f v in (j, Memᴰ.tail w, s, t)

module _ (g : Params) (f : ℕ → List Kept) where
  first_some : (l : List Kept) (k : Kept) → Memᴰ k l → agreed g f k ≡ true → first_agreed g f l ≡ none → ⊥
  unfolding first_agreed first_by
  first_some [] k u a e = Memᴰ.not-nil u
  first_some (y ∷ l) k u a e = go (agreed g f y) refl (λ v. first_some l k v a) (Memᴰ.cases_cons u) e
    where
      go : (b : Bool) → agreed g f y ≡ b → (Memᴰ k l → first_agreed g f l ≡ none → ⊥) → (k ≡ y) ⊎ Memᴰ k l
          → first_by g f b y (first_agreed g f l) ≡ none → ⊥
      go true q h w e = impossible (cc e)
      go false q h (inl z) e = impossible (cc (q, ap (agreed g f) (sym z), a))
      go false q h (inr v) e = h v e

  in_rows : (j m : ℕ) (i : ℕ) (k : Kept) → j ≤ i → i < j + m → Memᴰ k (f i) → Memᴰ k (rows_from f j m)
  unfolding rows_from
  in_rows j zero i k l h u = absurd (omega (arith, l, h))
  in_rows j (suc m) i k l h u = go (ℕ_discrete i j) (λ w. in_rows (suc j) m i k w (omega (arith, h)) u)
    where
      go : Dec (i ≡ j) → (suc j ≤ i → Memᴰ k (rows_from f (suc j) m)) → Memᴰ k (f j ++ rows_from f (suc j) m)
      go (yes z) r = Memᴰ.append_left (rows_from f (suc j) m) (subst (λ i. Memᴰ k (f i)) z u)
      go (no z) r = Memᴰ.append_right (f j) (r (omega (arith, l, z)))

  search_some : (j : ℕ) → Among g.n j → (k : Kept) → Memᴰ k (f j) → agreed g f k ≡ true → search g f ≡ none → ⊥
  unfolding search found_by
  search_some j i k u a e = go (first_agreed g f (rows_from f 1 g.n)) refl e
    where
      go : (o : Option Kept) → first_agreed g f (rows_from f 1 g.n) ≡ o → found_by g f o ≡ none → ⊥
      go none q e = first_some (rows_from f 1 g.n) k (in_rows 1 g.n j k i.0 (omega (arith, i.1)) u) a q
      go (some y) q e = impossible (cc e)

-- ---- a rows area that is too short has nothing in it

opened_rows : (g : Params) (c : ℕ) (s : Client) → (CB.open_read g c s).client.rows ≡ replicate 11 fresh_row
unfolding CB.open_read
opened_rows g c s = refl

opened_phase : (g : Params) (c : ℕ) (s : Client) → (CB.open_write g c s).client.phase ≡ F.Asking
unfolding CB.open_write
opened_phase g c s = refl

rows_room : (Z : Setup) (G : Assumed Z) (ks : List Call) (c : ℕ) → (home Z ks c).client.phase ≡ F.Reading
    → (rows_bytes ≤ length (home Z ks c).area) ⊎ ((home Z ks c).client.rows ≡ replicate 11 fresh_row)
unfolding run start fresh_client
rows_room Z G [] c e = impossible (cc e)
rows_room Z G (k ∷ ks) c e = go (client_turn Z ks k c) e (rows_room Z G ks c)
  where
    go : ClientTurn Z ks k c → (home Z (k ∷ ks) c).client.phase ≡ F.Reading
        → ((home Z ks c).client.phase ≡ F.Reading → (rows_bytes ≤ length (home Z ks c).area) ⊎ ((home Z ks c).client.rows ≡ replicate 11 fresh_row))
        → (rows_bytes ≤ length (home Z (k ∷ ks) c).area) ⊎ ((home Z (k ∷ ks) c).client.rows ≡ replicate 11 fresh_row)
    go (rests h f) e r =
        subst (λ h. (rows_bytes ≤ length h.area) ⊎ (h.client.rows ≡ replicate 11 fresh_row)) (sym h) (r (sym (ap (λ h. h.client.phase) h) ∙ e))
    go (takes t) e r =
        let l = shape_length Z.H Z.g c (home Z ks c).client (home Z ks c).area t.v t.j t.shape in
        let q = ap (λ h. length h.area) t.left in
        inl (omega (arith, l, q, t.room))
    go (begins_read out to x y h l) e r = inr (ap (λ h. h.client.rows) h ∙ opened_rows Z.g c (home Z ks c).client)
    go (begins_write v out to x y h l o) e r = impossible (cc (sym (ap (λ h. h.client.phase) h) ∙ e, opened_phase Z.g c (home Z ks c).client))

module _ (Z : Setup) (G : Assumed Z) (ks : List Call) (adm : Admissible Z ks) (N : Finished Z ks) (c : ℕ) (hc : Honest Z (A.Client c))
    (e : (home Z ks c).client.phase ≡ F.Reading) where
  open Z use {H, g, faulty_server, faulty_client}

  abbrev M : Small g
  M = small Z G

  abbrev s : Client
  s = (home Z ks c).client

  abbrev a : List ℕ
  a = (home Z ks c).area

  abbrev rows : ℕ → List Kept
  rows = row_view g s a

  doing : Doing Z G ks c (home Z ks c) F.Reading
  doing = subst (Doing Z G ks c (home Z ks c)) e (stands Z G ks c).doing

  -- ---- every honest server listens, and has told its present value

  number : (j : ℕ) → Honest Z (A.Server j) → s.reads ≤ (reader Z G ks j c).sequence
  number j hj = ⊎_elim (λ l. l) (λ z. absurd z)
      (reached Z G ks adm N (A.Client c) j (message c s.reads ask_read) hc hj (doing.2 j hj.0))

  listens : (j : ℕ) → Honest Z (A.Server j) → ((reader Z G ks j c).listening ≡ true) × ((reader Z G ks j c).sequence ≡ s.reads)
  listens j hj = go (reader Z G ks j c).listening refl
    where
      go : (b : Bool) → (reader Z G ks j c).listening ≡ b → ((reader Z G ks j c).listening ≡ true) × ((reader Z G ks j c).sequence ≡ s.reads)
      go true q = (q, let l = (words Z G ks adm c (A.Server j) _ ((reader_stands Z G ks adm j c hc.0 hc.1).asked q)).2 in omega (arith, l, number j hj))
      go false q =
          let n = number j hj in
          ⊎_elim
          (λ l. absurd (omega (arith, l, n)))
          (λ (_, l). absurd (omega (arith, l, ap read_stage e)))
          (words Z G ks adm c (A.Server j) _ ((reader_stands Z G ks adm j c hc.0 hc.1).ended q (omega (arith, n, doing.0)))).2

  past : (j : ℕ) → Honest Z (A.Server j) → RowPast (row_of s j) (stamp_at Z G ks j)
  past j hj =
      let (q, n) = listens j hj in
      let (y, _, u) = (reader_stands Z G ks adm j c hc.0 hc.1).told q in
      ⊎_elim
      (λ l. absurd (omega (arith, l, n)))
      (λ (_, w). ⊎_elim (λ l. absurd (omega (arith, l, ap read_stage e))) (λ p. p) w)
      (answer_reached Z G ks adm N j c (message c (reader Z G ks j c).sequence (value_is (stamp_at Z G ks j) y)) hj hc u)

  -- so the rows area has room
  empty_row : (j : ℕ) (x : Stamp) → s.rows ≡ replicate 11 fresh_row → RowPast (row_of s j) x → ⊥
  unfolding has_stamp
  empty_row j x z p =
      let n : (row_of s j).count ≡ 0 = ap (λ l. (get_or l j no_row).count) z ∙ fresh_row_lem 11 j in
      ⊎_elim
      (λ h. let (i, l, _) = has_place (row_of s j).stamps (used (row_of s j)) x h in omega (arith, l, n))
      (λ (h, _). omega (arith, h, n))
      p

  room : (j : ℕ) → Honest Z (A.Server j) → rows_bytes ≤ length a
  room j hj = ⊎_elim (λ l. l) (λ z. absurd (empty_row j (stamp_at Z G ks j) z (past j hj))) (rows_room Z G ks c e)

  -- ---- what a row of an honest server holds was sent by it

  module _ (j : ℕ) (hj : Honest Z (A.Server j)) where
    kept_sent : (k : Kept) → Memᴰ k (rows j) → (views Z G M).SentValue ks j c s.reads (k.stamp, k.entry.digests)
    kept_sent k u = PP.value_from_lem (stamps Z G M) (views Z G M) g.n g.t faulty_server faulty_client (fresh Z G M) ks (lawful_run Z G M ks adm) c j
        (k.stamp, k.entry.digests) hj.0 hj.1
        (e, k, refl, refl, subst (λ a. Memᴰ k (row_view g s a j)) (sym (roomy_same a (room j hj))) u)

    written : (k : Kept) → Memᴰ k (rows j) → (key k.stamp ≤ (stamps Z G M).key ((views Z G M).present ks j))
        × (((k.stamp, k.entry.digests) ≡ (stamps Z G M).initial)
        ⊎ PL.Written (stamps Z G M) (views Z G M) g.n g.t faulty_server faulty_client ks j (k.stamp, k.entry.digests))
    written k u =
        PP.value_written (stamps Z G M) (views Z G M) g.n g.t faulty_server faulty_client (fresh Z G M) ks (lawful_run Z G M ks adm) j c s.reads
        (k.stamp, k.entry.digests) (kept_sent k u)

    shows : (views Z G M).present ks j ≡ shown Z G M ks j
    shows = stamp_at_lem Z G M ks j hj.0

    kept_below : (k : Kept) → Memᴰ k (rows j) → key k.stamp ≤ key (stamp_at Z G ks j)
    kept_below k u = let w = (written k u).0 in let q = ap (λ v. key v.0) shows in omega (arith, w, q)

    kept_bounds : (k : Kept) → Memᴰ k (rows j) → StampInBounds k.stamp
    kept_bounds k u =
        let (y, _, v) = kept_sent k u in
        let b = (formed Z G M ks adm (A.Server j) (A.Client c) (message c s.reads (value_is k.stamp y)) hj v).body in
        record { time_high = b.1; writer_high = b.2; sequence_high = b.3; agree = b.4 }

    -- the present stamp is there
    has_present : (k : Kept) × Memᴰ k (rows j) × (k.stamp ≡ stamp_at Z G ks j)
    unfolding row_view
    has_present = ⊎_elim
        (λ h.
        let (i, l, q) = has_place (row_of s j).stamps (used (row_of s j)) (stamp_at Z G ks j) h in
        (placed g a j (row_of s j) i, of_placed g a j (row_of s j) 0 (used (row_of s j)) i (omega arith) (omega (arith, l)), q))
        (λ (h, f).
        let k = placed g a j (row_of s j) 0 in
        let u = of_placed g a j (row_of s j) 0 (used (row_of s j)) 0 (omega arith) (omega (arith, h)) in
        let l = older_key (stamp_at Z G ks j) k.stamp (in_bounds Z G M ks adm j).stamp (kept_bounds k u) (older_of _ _ (f 0 (omega arith))) in
        absurd (omega (arith, l, kept_below k u)))
        (past j hj)

    shown_list : (shown Z G M ks j).1 ≡ list_at Z G ks j
    unfolding present_entry entry_at
    shown_list = refl

    -- with its list
    one_list : (k : Kept) → Memᴰ k (rows j) → k.stamp ≡ stamp_at Z G ks j → k.entry.digests ≡ list_at Z G ks j
    one_list k u q = go (written k u).1
        (PP.present_of_lem (stamps Z G M) (views Z G M) g.n g.t faulty_server faulty_client (fresh Z G M) ks (lawful_run Z G M ks adm) j)
      where
        go : ((k.stamp, k.entry.digests) ≡ (stamps Z G M).initial)
            ⊎ PL.Written (stamps Z G M) (views Z G M) g.n g.t faulty_server faulty_client ks j (k.stamp, k.entry.digests)
            → ((views Z G M).present ks j ≡ (stamps Z G M).initial)
            ⊎ PL.Written (stamps Z G M) (views Z G M) g.n g.t faulty_server faulty_client ks j ((views Z G M).present ks j)
            → k.entry.digests ≡ list_at Z G ks j
        go (inl x) (inl y) = ap (λ v. v.1) x ∙ sym (ap (λ v. v.1) y) ∙ ap (λ v. v.1) shows ∙ shown_list
        go (inl x) (inr (d, n, T, w, y)) =
            let z : 0 ≡ suc T.0 = sym (ap (λ v. v.0.time) x) ∙ ap (λ x. x.time) q ∙ ap (λ v. v.0.time) (sym shows) ∙ ap (λ v. v.0.time) y in
            absurd (omega (arith, z))
        go (inr (d, n, T, w, x)) (inl y) =
            let z : suc T.0 ≡ 0 = sym (ap (λ v. v.0.time) x) ∙ ap (λ x. x.time) q ∙ ap (λ v. v.0.time) (sym shows) ∙ ap (λ v. v.0.time) y in
            absurd (omega (arith, z))
        go (inr (d, n, T, (w, p, v, ec, eq, et, ed), x)) (inr (d', n', T', (w', p', v', ec', eq', et', ed'), y)) =
            let z = sym (ap (λ v. v.0) x) ∙ q ∙ ap (λ v. v.0) (sym shows) ∙ ap (λ v. v.0) y in
            let same = (agreement Z G ks adm j j p p' w w' v v' (ec ∙ ap (λ x. x.writer) z ∙ sym ec') (eq ∙ ap (λ x. x.sequence) z ∙ sym eq')).1 in
            ap (λ v. v.1) x ∙ sym ed ∙ same ∙ ed' ∙ sym (ap (λ v. v.1) y) ∙ ap (λ v. v.1) shows ∙ shown_list

    row_has : has_list (at_stamp (rows j) (stamp_at Z G ks j)) (list_at Z G ks j) ≡ true
    row_has =
        let (k, u, q) = has_present in
        let (k', v, q', f) = at_found (rows j) (stamp_at Z G ks j) k u q in
        ap (λ o. has_list o (list_at Z G ks j)) f ∙ ap (λ d. same d (list_at Z G ks j)) (one_list k' v q') ∙ same_refl (list_at Z G ks j)

  -- ---- one value in n - t rows

  pub not_reading : {X : Type 0} → ((i j : ℕ) → Honest Z (A.Server i) → Honest Z (A.Server j)
      → ((stamp_at Z G ks i ≡ stamp_at Z G ks j) × (list_at Z G ks i ≡ list_at Z G ks j)) ⊎ X) → X
  unfolding agreed
  not_reading {X} one =
      let (j, is, h, _) = honest_member G.faults
      (at_least_fewer {Q = λ j. Unit {0}} (omega (arith, G.faults.many)) (honest_servers G.faults (λ j is h. tt))) in
      let hj : Honest Z (A.Server j) = (is, h) in
      let (k, u, q) = has_present j hj in
      let d = one_list j hj k u q in
      ⊎_elim
      (λ f.
      let l = at_least_count (λ i. has_list (at_stamp (rows i) k.stamp) k.entry.digests) (honest_servers G.faults (λ i ii hi.
      let (es, el) = f i (ii, hi) in
      ap (λ x. has_list (at_stamp (rows i) x) k.entry.digests) (q ∙ sym es) ∙ ap (has_list (at_stamp (rows i) (stamp_at Z G ks i))) (d ∙ sym el)
      ∙ row_has i (ii, hi))) in
      absurd (search_some g rows j is k u
      (le-leb g.n (count (λ i. has_list (at_stamp (rows i) k.stamp) k.entry.digests) g.n + g.t) (omega (arith, l))) doing.1))
      (λ x. x)
      (all_honest (λ i. (stamp_at Z G ks i ≡ stamp_at Z G ks j) × (list_at Z G ks i ≡ list_at Z G ks j)) g.n faulty_server (λ i hi. one i j hi hj))
