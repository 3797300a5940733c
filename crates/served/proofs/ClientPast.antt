-- A client does not go back: the answer of a server that it has counted, or has gone beyond, stays past. Assumes nothing.
use Rattle.std.specs.Prelude.{Err}
use Prim.Native.Nat.{ℕ, max, ◌≤◌, ◌<◌}
use native.Mathlib.Omega.{arith}
use native.Mathlib.Decide.{ℕ_discrete}
use mathlib.Core.Bool.{Bool, true, false, not, ◌&&◌}
use mathlib.Core.Path.{◌≡◌, refl, ap, sym, ◌∙◌, subst}
use mathlib.Core.Logic.{◌⊎◌, inl, inr, ⊎_elim}
use mathlib.Core.Option.{Option, none, some}
use mathlib.Core.List.{List, ◌∷◌}
use lib.ListN.{length, get_or, set}
use lib.Seq.{get_or-set_same, get_or-set_other}
use lib.Dec.{eqb, ltb}
use borrow.Author.Tests.{eqb-true, not-true, eq-eqb, ltb-false}
use Rattle.quorum.specs.Quorum.{Among}
use Rattle.quorum.proofs.Logic.{impossible, and_split}
use Rattle.area.specs.Area.{pick}
use Rattle.group_rules.specs.Coded.{fits, fit_test}
use Rattle.frame.specs.declared.Stamp.{Stamp}
use Rattle.frame.specs.declared.Refusal.TheVariants as X
use Rattle.frame.specs.Chunks.{store_entry, place_at}
use Rattle.frame.specs.Messages.{Entry, Body, get_stamp, ack, ask_read, read_complete, stamp_is, block_is, value_is, report}
use Rattle.frame.specs.Refusals.{and_then, fine}
use Rattle.frame.specs.Stamps.{last_time}
use Rattle.frame.proofs.Sizes.{Small}
use Rattle.frame.proofs.Verdicts.{fine_both}
use Rattle.client_rules.specs.declared.Phase.{Phase}
use Rattle.client_rules.specs.declared.Client.{Client}
use Rattle.client_rules.specs.declared.Phase.TheVariants as F
use Rattle.client_rules.specs.Rows.{used, row_view, has_stamp, place_for, row_with, Found, search}
use Rattle.client_rules.specs.State.{no_row, row_of, heard_of, report_of, in_phase, with_row, with_report, asking, acking, reading}
use Rattle.client_rules.specs.Beginning as CB
use Rattle.client_rules.specs.Steps as C
use Rattle.client_rules.specs.Tests as CT
use Rattle.client_rules.proofs.Shapes.{Keeps, drops, keeps, Learns, replies, reports, learns_writes, learns_reads, learns_rows, Shape, notes, hears, shuts}
use Rattle.client_rules.proofs.Shapes.{counts, ends, waits, completes, sends as disperses, idle as idles}
use Rattle.steps.proofs.ClientTaken.{learns_asking}
use Rattle.client_rules.proofs.CallFacts.{ClientShape, set_cases, awaited_true}
use Rattle.runs.specs.Admissible.{Admissible}
use Rattle.runs.specs.World.{Setup, Call}
use Rattle.runs.proofs.Agreement.{small}
use Rattle.runs.proofs.Assumed.{Assumed}
use Rattle.runs.proofs.ClientLaws.{client_shapes}
use Rattle.runs.proofs.Roomy.{roomy}
use Rattle.taking.proofs.PastRows.{RowPast, past_kept, past_dropped, past_stays}
use Rattle.served.proofs.Clients.{home, TakesFrame, ClientTurn, rests, takes, begins_read, begins_write, client_turn}
use Rattle.served.proofs.ClientState.{phase_asking, phase_acking, phase_reading, read_begun_idle, write_begun_lem, stands}

-- ---- how far an operation is

-- a write asks, then waits for acks, then has ended; a read is open or not
abbrev pub write_stage : Phase → ℕ
write_stage F.Asking = 0
write_stage F.Acking = 1
write_stage F.Idle = 2
write_stage F.Reading = 2

abbrev pub read_stage : Phase → ℕ
read_stage F.Reading = 0
read_stage F.Idle = 1
read_stage F.Asking = 1
read_stage F.Acking = 1

-- server j's answer to client s's operation q is past: counted, or the operation is beyond it
abbrev pub AnswerPast : Client → ℕ → ℕ → Body → Type 0
AnswerPast s j q get_stamp = Unit {0}
AnswerPast s j q ack = (q < s.writes) ⊎ ((q ≡ s.writes) × ((2 ≤ write_stage s.phase) ⊎ ((1 ≤ write_stage s.phase) × (heard_of s j ≡ true))))
AnswerPast s j q ask_read = Unit {0}
AnswerPast s j q read_complete = Unit {0}
AnswerPast s j q (stamp_is T) = (q < s.writes) ⊎ ((q ≡ s.writes) × ((1 ≤ write_stage s.phase) ⊎ (heard_of s j ≡ true)))
AnswerPast s j q (block_is z o) = Unit {0}
AnswerPast s j q (value_is x e) = (q < s.reads) ⊎ ((q ≡ s.reads) × ((1 ≤ read_stage s.phase) ⊎ RowPast (row_of s j) x))
AnswerPast s j q (report T) = T ≤ report_of s j

-- ---- one call onward

pub record Onward (n : ℕ) (s s' : Client) : Type 0 where
  pub writes : (s.writes < s'.writes) ⊎ ((s'.writes ≡ s.writes) × ((write_stage s.phase < write_stage s'.phase)
      ⊎ ((write_stage s.phase ≡ write_stage s'.phase) × ((j : ℕ) → heard_of s j ≡ true → heard_of s' j ≡ true))))
  pub reads : (s.reads < s'.reads) ⊎ ((s'.reads ≡ s.reads) × ((read_stage s.phase < read_stage s'.phase)
      ⊎ ((read_stage s.phase ≡ read_stage s'.phase) × ((j : ℕ) → Among n j → (x : Stamp) → RowPast (row_of s j) x → RowPast (row_of s' j) x))))
  pub reports : (j : ℕ) → Among n j → report_of s j ≤ report_of s' j

module _ {n : ℕ} {s s' : Client} (U : Onward n s s') (j q : ℕ) (is : Among n j) where
  stamp_onward : (q < s.writes) ⊎ ((q ≡ s.writes) × ((1 ≤ write_stage s.phase) ⊎ (heard_of s j ≡ true)))
      → (q < s'.writes) ⊎ ((q ≡ s'.writes) × ((1 ≤ write_stage s'.phase) ⊎ (heard_of s' j ≡ true)))
  stamp_onward p = go U.writes p
    where
      go : (s.writes < s'.writes) ⊎ ((s'.writes ≡ s.writes) × ((write_stage s.phase < write_stage s'.phase)
          ⊎ ((write_stage s.phase ≡ write_stage s'.phase) × ((j : ℕ) → heard_of s j ≡ true → heard_of s' j ≡ true))))
          → (q < s.writes) ⊎ ((q ≡ s.writes) × ((1 ≤ write_stage s.phase) ⊎ (heard_of s j ≡ true)))
          → (q < s'.writes) ⊎ ((q ≡ s'.writes) × ((1 ≤ write_stage s'.phase) ⊎ (heard_of s' j ≡ true)))
      go (inl l) (inl h) = inl (omega (arith, l, h))
      go (inl l) (inr (e, h)) = inl (omega (arith, l, e))
      go (inr (w, l)) (inl h) = inl (omega (arith, w, h))
      go (inr (w, inl l)) (inr (e, h)) = inr (e ∙ sym w, inl (omega (arith, l)))
      go (inr (w, inr (l, f))) (inr (e, inl h)) = inr (e ∙ sym w, inl (omega (arith, l, h)))
      go (inr (w, inr (l, f))) (inr (e, inr h)) = inr (e ∙ sym w, inr (f j h))

  ack_onward : (q < s.writes) ⊎ ((q ≡ s.writes) × ((2 ≤ write_stage s.phase) ⊎ ((1 ≤ write_stage s.phase) × (heard_of s j ≡ true))))
      → (q < s'.writes) ⊎ ((q ≡ s'.writes) × ((2 ≤ write_stage s'.phase) ⊎ ((1 ≤ write_stage s'.phase) × (heard_of s' j ≡ true))))
  ack_onward p = go U.writes p
    where
      go : (s.writes < s'.writes) ⊎ ((s'.writes ≡ s.writes) × ((write_stage s.phase < write_stage s'.phase)
          ⊎ ((write_stage s.phase ≡ write_stage s'.phase) × ((j : ℕ) → heard_of s j ≡ true → heard_of s' j ≡ true))))
          → (q < s.writes) ⊎ ((q ≡ s.writes) × ((2 ≤ write_stage s.phase) ⊎ ((1 ≤ write_stage s.phase) × (heard_of s j ≡ true))))
          → (q < s'.writes) ⊎ ((q ≡ s'.writes) × ((2 ≤ write_stage s'.phase) ⊎ ((1 ≤ write_stage s'.phase) × (heard_of s' j ≡ true))))
      go (inl l) (inl h) = inl (omega (arith, l, h))
      go (inl l) (inr (e, h)) = inl (omega (arith, l, e))
      go (inr (w, l)) (inl h) = inl (omega (arith, w, h))
      go (inr (w, inl l)) (inr (e, inl h)) = inr (e ∙ sym w, inl (omega (arith, l, h)))
      go (inr (w, inl l)) (inr (e, inr (h, b))) = inr (e ∙ sym w, inl (omega (arith, l, h)))
      go (inr (w, inr (l, f))) (inr (e, inl h)) = inr (e ∙ sym w, inl (omega (arith, l, h)))
      go (inr (w, inr (l, f))) (inr (e, inr (h, b))) = inr (e ∙ sym w, inr (omega (arith, l, h), f j b))

  value_onward : (x : Stamp) → (q < s.reads) ⊎ ((q ≡ s.reads) × ((1 ≤ read_stage s.phase) ⊎ RowPast (row_of s j) x))
      → (q < s'.reads) ⊎ ((q ≡ s'.reads) × ((1 ≤ read_stage s'.phase) ⊎ RowPast (row_of s' j) x))
  value_onward x p = go U.reads p
    where
      go : (s.reads < s'.reads) ⊎ ((s'.reads ≡ s.reads) × ((read_stage s.phase < read_stage s'.phase)
          ⊎ ((read_stage s.phase ≡ read_stage s'.phase) × ((j : ℕ) → Among n j → (x : Stamp) → RowPast (row_of s j) x → RowPast (row_of s' j) x))))
          → (q < s.reads) ⊎ ((q ≡ s.reads) × ((1 ≤ read_stage s.phase) ⊎ RowPast (row_of s j) x))
          → (q < s'.reads) ⊎ ((q ≡ s'.reads) × ((1 ≤ read_stage s'.phase) ⊎ RowPast (row_of s' j) x))
      go (inl l) (inl h) = inl (omega (arith, l, h))
      go (inl l) (inr (e, h)) = inl (omega (arith, l, e))
      go (inr (w, l)) (inl h) = inl (omega (arith, w, h))
      go (inr (w, inl l)) (inr (e, h)) = inr (e ∙ sym w, inl (omega (arith, l)))
      go (inr (w, inr (l, f))) (inr (e, inl h)) = inr (e ∙ sym w, inl (omega (arith, l, h)))
      go (inr (w, inr (l, f))) (inr (e, inr h)) = inr (e ∙ sym w, inr (f j is x h))

  pub past_onward : (b : Body) → AnswerPast s j q b → AnswerPast s' j q b
  past_onward get_stamp p = tt
  past_onward ack p = ack_onward p
  past_onward ask_read p = tt
  past_onward read_complete p = tt
  past_onward (stamp_is T) p = stamp_onward p
  past_onward (block_is z o) p = tt
  past_onward (value_is x e) p = value_onward x p
  past_onward (report T) p = omega (arith, p, U.reports j is)

module _ (Z : Setup) (G : Assumed Z) where
  open Z use {H, g}

  abbrev M : Small g
  M = small Z G

  -- nothing of the operations changes
  same_stage : (s s' : Client) → s'.writes ≡ s.writes → s'.reads ≡ s.reads → write_stage s.phase ≡ write_stage s'.phase
      → read_stage s.phase ≡ read_stage s'.phase → ((j : ℕ) → heard_of s j ≡ true → heard_of s' j ≡ true)
      → ((j : ℕ) → Among g.n j → (x : Stamp) → RowPast (row_of s j) x → RowPast (row_of s' j) x) → ((j : ℕ) → Among g.n j → report_of s j ≤ report_of s' j)
      → Onward g.n s s'
  same_stage s s' w r p q f h u = record { writes = inr (w, inr (p, f)); reads = inr (r, inr (q, h)); reports = u }

  module _ (ks : List Call) (k : Call) (adm : Admissible Z ks) (c : ℕ) where
    abbrev s : Client
    s = (home Z ks c).client

    abbrev a : List ℕ
    a = (home Z ks c).area

    shaped : ClientShape s (roomy a)
    shaped = client_shapes Z G M ks adm c

    -- a counted answer was not counted before
    heard_set : (j : ℕ) → heard_of s j ≡ false → (i : ℕ) → heard_of s i ≡ true → get_or (set s.heard j true) i false ≡ true
    heard_set j f i t = get_or-set_other s.heard j i true false (λ z. impossible (cc (f, ap (heard_of s) (sym z), t))) ∙ t

    module _ (t : TakesFrame Z ks k c) where
      low : t.j ≤ 10
      low = omega (arith, t.server.1, G.bounded.servers_high)

      four : length (row_of s t.j).stamps ≡ 4
      four = shaped.within.rows.stamps_many t.j low

      kept_rows : {x : Stamp} {e : Entry} {s' : Client} {a' : List ℕ} → Keeps H g c s a t.v t.j x e s' a'
          → (i : ℕ) → Among g.n i → (y : Stamp) → RowPast (row_of s i) y → RowPast (row_of s' i) y
      kept_rows (drops z) i is y p = p
      kept_rows {x} (keeps m z) i is y p = ⊎_elim
          (λ (e, q). subst (λ r. RowPast r y) (sym q) (past_stays (row_of s t.j) four y x m z (subst (λ i. RowPast (row_of s i) y) e p)))
          (λ q. subst (λ r. RowPast r y) (sym q) p)
          (set_cases s.rows t.j (row_with (row_of s t.j) m x) no_row (omega (arith, low, shaped.within.rows.rows_many)) i)

      kept_else : {x : Stamp} {e : Entry} {s' : Client} {a' : List ℕ} → Keeps H g c s a t.v t.j x e s' a'
          → (s'.writes ≡ s.writes) × (s'.reads ≡ s.reads) × (s'.phase ≡ s.phase) × (s'.heard ≡ s.heard) × (s'.reports ≡ s.reports)
      kept_else (drops z) = (refl, refl, refl, refl, refl)
      kept_else (keeps i z) = (refl, refl, refl, refl, refl)

      same_reports : (s' : Client) → s'.reports ≡ s.reports → (j : ℕ) → Among g.n j → report_of s j ≤ report_of s' j
      same_reports s' e j i = let z = ap (λ l. get_or l j 0) e in omega (arith, z)

      row_same : (s' : Client) → s'.rows ≡ s.rows → (j : ℕ) (x : Stamp) → RowPast (row_of s j) x → RowPast (row_of s' j) x
      row_same s' e j x p = subst (λ r. RowPast r x) (sym (ap (λ l. get_or l j no_row) e)) p

      -- the report that comes
      noted_here : (T : ℕ) → report_of (with_report s t.j T) t.j ≡ max (report_of s t.j) T
      noted_here T = get_or-set_same s.reports t.j (max (report_of s t.j) T) 0 (omega (arith, low, shaped.within.reports))

      noted_up : (T j : ℕ) → report_of s j ≤ report_of (with_report s t.j T) j
      noted_up T j = go (ℕ_discrete j t.j)
        where
          go : Dec (j ≡ t.j) → report_of s j ≤ report_of (with_report s t.j T) j
          go (yes z) = subst (λ j. report_of s j ≤ report_of (with_report s t.j T) j) (sym z) (omega (arith, noted_here T))
          go (no z) = let e = get_or-set_other s.reports t.j j (max (report_of s t.j) T) 0 z in omega (arith, e)

      learned_up : {b : Body} {s' : Client} → Learns H g c s a t.v t.j b s' → (j : ℕ) → Among g.n j → report_of s j ≤ report_of s' j
      learned_up (replies T) j i = noted_up T j
      learned_up (reports T p) j i = noted_up T j

      unheard : (p : Bool) → CT.awaited (p && (eqb t.m.sequence s.writes && not (heard_of s t.j))) ≡ fine
          → (p ≡ true) × (t.m.sequence ≡ s.writes) × (heard_of s t.j ≡ false)
      unheard p o =
          let w = and_split p _ (awaited_true H g c _ o) in
          let y = and_split (eqb t.m.sequence s.writes) _ w.1 in
          (w.0, eqb-true t.m.sequence s.writes y.0, not-true (heard_of s t.j) y.1)

      learned : {b : Body} {s' : Client} → CT.order_test H g c s t.j t.m.sequence b ≡ fine → Learns H g c s a t.v t.j b s' → Onward g.n s s'
      unfolding CT.order_test
      learned o (replies T) =
          let (p, e, f) = unheard (asking s.phase) o in
          let z = phase_asking s.phase p in
          same_stage s _ refl refl (ap write_stage z) (ap read_stage z) (heard_set t.j f) (λ j i x p. p) (λ j i. noted_up T j)
      learned o (reports T p) = same_stage s _ refl refl refl refl (λ j e. e) (λ j i x p. p) (λ j i. noted_up T j)

      by_shape : {b : Body} {r : C.Effect} → CT.order_test H g c s t.j t.m.sequence b ≡ fine → Shape H g c s a t.v t.j b r
          → Onward g.n s r.client
      unfolding CT.order_test
      by_shape o (idles b) = same_stage s s refl refl refl refl (λ j e. e) (λ j i x p. p) (λ j i. omega arith)
      by_shape o (notes T p) = same_stage s _ refl refl refl refl (λ j e. e) (λ j i x p. p) (λ j i. noted_up T j)
      by_shape o (hears b K q) = learned o K
      by_shape o (disperses b {s'} K q l) =
          let z = phase_asking s.phase (learns_asking H g c s a t.v t.j t.m.sequence o K) in
          record {
            writes = inr (learns_writes H g c s a t.v t.j K, inl (let w = ap write_stage z in omega (arith, w)));
            reads = inr (learns_reads H g c s a t.v t.j K, inr (ap read_stage z, λ j i x p. row_same s' (learns_rows H g c s a t.v t.j K) j x p));
            reports = learned_up K;
          }
      by_shape o (shuts b {s'} K q l) =
          let z = phase_asking s.phase (learns_asking H g c s a t.v t.j t.m.sequence o K) in
          record {
            writes = inr (learns_writes H g c s a t.v t.j K, inl (let w = ap write_stage z in omega (arith, w)));
            reads = inr (learns_reads H g c s a t.v t.j K, inr (ap read_stage z, λ j i x p. row_same s' (learns_rows H g c s a t.v t.j K) j x p));
            reports = learned_up K;
          }
      by_shape o (counts q) =
          let (p, e, f) = unheard (acking s.phase) o in
          let z = phase_acking s.phase p in
          same_stage s _ refl refl (ap write_stage z) (ap read_stage z) (heard_set t.j f) (λ j i x p. p) (λ j i. omega arith)
      by_shape o (ends q) =
          let z = phase_acking s.phase (unheard (acking s.phase) o).0 in
          record {
            writes = inr (refl, inl (let w = ap write_stage z in omega (arith, w)));
            reads = inr (refl, inr (ap read_stage z, λ j i x p. p));
            reports = λ j i. omega arith;
          }
      by_shape o (waits x e {s'} K z) =
          let (ew, er, ep, eh, en) = kept_else K in
          same_stage s s' ew er (ap write_stage (sym ep)) (ap read_stage (sym ep)) (λ j h. ap (λ l. get_or l j false) eh ∙ h) (kept_rows K) (same_reports s' en)
      by_shape o (completes x e {s'} K y z) =
          let (ew, er, ep, eh, en) = kept_else K in
          let p = phase_reading s.phase (and_split (reading s.phase) _ (awaited_true H g c _ (fine_both _ _ o).0)).0 in
          record {
            writes = inr (ew, inr (ap write_stage p, λ j h. ap (λ l. get_or l j false) eh ∙ h));
            reads = inr (er, inl (let w = ap read_stage p in omega (arith, w)));
            reports = same_reports s' en;
          }

    by_turn : ClientTurn Z ks k c → Onward g.n s (home Z (k ∷ ks) c).client
    unfolding CB.open_read CB.open_write
    by_turn (rests e f) = subst (λ h. Onward g.n s h.client) (sym e) (same_stage s s refl refl refl refl (λ j e. e) (λ j i x p. p) (λ j i. omega arith))
    by_turn (takes t) = subst (λ h. Onward g.n s h.client) (sym t.left) (by_shape t t.order t.shape)
    by_turn (begins_read out to e t h l) =
        let z = read_begun_idle Z G ks k c (stands Z G ks c) out to t in
        subst (λ h. Onward g.n s h.client) (sym h)
        (record { writes = inr (refl, inr (ap write_stage z, λ j e. e)); reads = inl (omega arith); reports = λ j i. omega arith })
    by_turn (begins_write v out to e t h l o) =
        let z = (write_begun_lem Z G ks k c (stands Z G ks c) v out to t).0 in
        subst (λ h. Onward g.n s h.client) (sym h) (record {
          writes = inl (omega arith);
          reads = inr (refl, inr (ap read_stage z, λ j i x p. p));
          reports = λ j i. omega arith;
        })

    pub client_onward : Onward g.n s (home Z (k ∷ ks) c).client
    client_onward = by_turn (client_turn Z ks k c)

    -- ---- what is taken is past

    module _ (t : TakesFrame Z ks k c) where
      heard_here : get_or (set s.heard t.j true) t.j false ≡ true
      heard_here = get_or-set_same s.heard t.j true false (omega (arith, low t, shaped.within.heard))

      stamp_taken : (T : ℕ) → t.m.sequence ≡ s.writes → AnswerPast (C.on_stamp H g c s a t.v t.j T).client t.j t.m.sequence (stamp_is T)
      unfolding C.on_stamp C.gather_by C.send_below
      stamp_taken T e = go (C.gathered g s₁)
        where
          s₁ : Client
          s₁ = in_phase (with_report s t.j T) F.Asking (set s.heard t.j true) (set s.times t.j T)

          N : ℕ
          N = C.largest_counted g s₁

          below : (b : Bool) → AnswerPast (C.send_below H g c b s₁ a t.v N).client t.j t.m.sequence (stamp_is T)
          below true = inr (e, inl (omega arith))
          below false = inr (e, inl (omega arith))

          go : (b : Bool) → AnswerPast (C.gather_by H g c b s₁ a t.v).client t.j t.m.sequence (stamp_is T)
          go true = below (ltb N last_time)
          go false = inr (e, inr heard_here)

      ack_taken : t.m.sequence ≡ s.writes → AnswerPast (C.on_ack H g c s a t.j).client t.j t.m.sequence ack
      unfolding C.on_ack C.end_by
      ack_taken e = go (C.quorate g (set s.heard t.j true))
        where
          go : (b : Bool) → AnswerPast (C.end_by H g c b s a (set s.heard t.j true)).client t.j t.m.sequence ack
          go true = inr (e, inl (omega arith))
          go false = inr (e, inr (omega arith, heard_here))

      value_taken : (x : Stamp) (y : Entry) → t.m.sequence ≡ s.reads → has_stamp (row_of s t.j).stamps (used (row_of s t.j)) x ≡ false
          → AnswerPast (C.on_value H g c s a t.j x y).client t.j t.m.sequence (value_is x y)
      unfolding C.on_value C.keep_by C.settle C.complete_by
      value_taken x y e n = go (place_for (row_of s t.j) x) refl
        where
          settled : (s' : Client) (a' : List ℕ) → s'.reads ≡ s.reads → RowPast (row_of s' t.j) x → (o : Option Found)
              → AnswerPast (C.complete_by H g c o s' a').client t.j t.m.sequence (value_is x y)
          settled s' a' r p none = inr (e ∙ sym r, inr p)
          settled s' a' r p (some f) = inr (e ∙ sym r, inl (omega arith))

          go : (o : Option ℕ) → place_for (row_of s t.j) x ≡ o → AnswerPast (C.keep_by H g c o s a t.j x y).client t.j t.m.sequence (value_is x y)
          go none z = settled s a refl (past_dropped (row_of s t.j) (four t) x n z) (search g (row_view g s a))
          go (some i) z = settled (with_row s t.j (row_with (row_of s t.j) i x)) (store_entry a (place_at t.j i) y) refl
              (subst (λ r. RowPast r x)
              (sym (get_or-set_same s.rows t.j (row_with (row_of s t.j) i x) no_row (omega (arith, low t, shaped.within.rows.rows_many))))
              (past_kept (row_of s t.j) (four t) x i z)) (search g _)

      report_taken : (T : ℕ) → AnswerPast (C.on_report H g c s a t.v t.j T).client t.j t.m.sequence (report T)
      unfolding C.on_report C.report_by C.gather_by C.send_below
      report_taken T = go (asking s.phase)
        where
          s₁ : Client
          s₁ = with_report s t.j T

          high : T ≤ report_of s₁ t.j
          high = omega (arith, noted_here t T)

          below : (b : Bool) → T ≤ report_of (C.send_below H g c b s₁ a t.v (C.largest_counted g s₁)).client t.j
          below true = high
          below false = high

          gathered : (b : Bool) → T ≤ report_of (C.gather_by H g c b s₁ a t.v).client t.j
          gathered true = below (ltb (C.largest_counted g s₁) last_time)
          gathered false = high

          go : (b : Bool) → T ≤ report_of (C.report_by H g c b s₁ a t.v).client t.j
          go true = gathered (C.gathered g s₁)
          go false = high

      body_taken : (b : Body) → CT.order_test H g c s t.j t.m.sequence b ≡ fine
          → AnswerPast (C.on_body H g c s a t.v t.j b).client t.j t.m.sequence b
      unfolding C.on_body CT.order_test
      body_taken get_stamp o = tt
      body_taken ack o = ack_taken (unheard t (acking s.phase) o).1
      body_taken ask_read o = tt
      body_taken read_complete o = tt
      body_taken (stamp_is T) o = stamp_taken T (unheard t (asking s.phase) o).1
      body_taken (block_is z y) o = tt
      body_taken (report T) o = report_taken T
      body_taken (value_is x y) o =
          let w = and_split (reading s.phase) _ (awaited_true H g c _ (fine_both _ _ o).0) in
          let z = and_split (eqb t.m.sequence s.reads) _ w.1 in
          value_taken x y (eqb-true t.m.sequence s.reads z.0) (not-true (has_stamp (row_of s t.j).stamps (used (row_of s t.j)) x) z.1)

      pub taken_past : AnswerPast (home Z (k ∷ ks) c).client t.j t.m.sequence t.m.body
      taken_past = subst (λ h. AnswerPast h.client t.j t.m.sequence t.m.body) (sym t.left)
          (subst (λ r. AnswerPast r.client t.j t.m.sequence t.m.body) (sym t.did) (body_taken t.m.body t.order))

  -- ---- what is stale is past

  -- an answer to an operation that the client has begun: of an ack, one that it has sent its blocks for
  abbrev pub Begun : Client → ℕ → Body → Type 0
  Begun s q get_stamp = Unit {0}
  Begun s q ack = (q < s.writes) ⊎ ((q ≡ s.writes) × (1 ≤ write_stage s.phase))
  Begun s q ask_read = Unit {0}
  Begun s q read_complete = Unit {0}
  Begun s q (stamp_is T) = q ≤ s.writes
  Begun s q (block_is z o) = Unit {0}
  Begun s q (value_is x e) = q ≤ s.reads
  Begun s q (report T) = Unit {0}

  stale : (b : Bool) → CT.awaited b ≡ Err X.Stale → b ≡ false
  unfolding CT.awaited pick
  stale true e = impossible (cc e)
  stale false e = refl

  -- which of three tests failed
  which : (a b d : Bool) → (a && (b && not d)) ≡ false → (a ≡ false) ⊎ ((b ≡ false) ⊎ (d ≡ true))
  which true true true e = inr (inr refl)
  which true true false e = impossible (cc e)
  which true false d e = inr (inl refl)
  which false b d e = inl refl

  not_asking : (p : Phase) → asking p ≡ false → 1 ≤ write_stage p
  not_asking F.Idle e = omega arith
  not_asking F.Asking e = impossible (cc e)
  not_asking F.Acking e = omega arith
  not_asking F.Reading e = omega arith

  not_acking : (p : Phase) → acking p ≡ false → 1 ≤ write_stage p → 2 ≤ write_stage p
  not_acking F.Idle e l = omega arith
  not_acking F.Asking e l = absurd (omega (arith, l))
  not_acking F.Acking e l = impossible (cc e)
  not_acking F.Reading e l = omega arith

  not_reading : (p : Phase) → reading p ≡ false → 1 ≤ read_stage p
  not_reading F.Idle e = omega arith
  not_reading F.Asking e = omega arith
  not_reading F.Acking e = omega arith
  not_reading F.Reading e = impossible (cc e)

  differ : (q w : ℕ) → eqb q w ≡ false → q ≤ w → q < w
  differ q w e l = go (ℕ_discrete q w)
    where
      go : Dec (q ≡ w) → q < w
      go (yes z) = impossible (cc (e, eq-eqb q w z))
      go (no z) = omega (arith, l, z)

  at_or_below : (q w : ℕ) → q ≤ w → (q < w) ⊎ (q ≡ w)
  at_or_below q w l = go (ℕ_discrete q w)
    where
      go : Dec (q ≡ w) → (q < w) ⊎ (q ≡ w)
      go (yes z) = inr z
      go (no z) = inl (omega (arith, l, z))

  pub stale_past : (c : ℕ) (s : Client) (j q : ℕ) (b : Body) → Begun s q b → CT.order_test H g c s j q b ≡ Err X.Stale → AnswerPast s j q b
  unfolding CT.order_test fit_test CT.awaited pick
  stale_past c s j q get_stamp u e = tt
  stale_past c s j q ack (inl l) e = inl l
  stale_past c s j q ack (inr (z, l)) e = ⊎_elim
      (λ n. inr (z, inl (not_acking s.phase n l)))
      (⊎_elim (λ n. impossible (cc (n, eq-eqb q s.writes z))) (λ h. inr (z, inr (l, h))))
      (which (acking s.phase) (eqb q s.writes) (heard_of s j) (stale _ e))
  stale_past c s j q ask_read u e = tt
  stale_past c s j q read_complete u e = tt
  stale_past c s j q (stamp_is T) l e = ⊎_elim
      (λ n. ⊎_elim (λ b. inl b) (λ z. inr (z, inl (not_asking s.phase n))) (at_or_below q s.writes l))
      (⊎_elim (λ n. inl (differ q s.writes n l)) (λ h. ⊎_elim (λ b. inl b) (λ z. inr (z, inr h)) (at_or_below q s.writes l)))
      (which (asking s.phase) (eqb q s.writes) (heard_of s j) (stale _ e))
  stale_past c s j q (block_is z o) u e = tt
  stale_past c s j q (report T) u e = ltb-false (report_of s j) T (stale _ e)
  stale_past c s j q (value_is x y) l e = go (reading s.phase && (eqb q s.reads && not (has_stamp (row_of s j).stamps (used (row_of s j)) x))) refl e
    where
      fit_stale : (b : Bool) → pick b fine (Err X.Digest) ≡ Err X.Stale → AnswerPast s j q (value_is x y)
      fit_stale true e = impossible (cc e)
      fit_stale false e = impossible (cc e)

      go : (b : Bool) → (reading s.phase && (eqb q s.reads && not (has_stamp (row_of s j).stamps (used (row_of s j)) x))) ≡ b
          → and_then (CT.awaited b) (fit_test H y j) ≡ Err X.Stale → AnswerPast s j q (value_is x y)
      go true p e = fit_stale (fits H y j) e
      go false p e = ⊎_elim
          (λ n. ⊎_elim (λ b. inl b) (λ z. inr (z, inl (not_reading s.phase n))) (at_or_below q s.reads l))
          (⊎_elim (λ n. inl (differ q s.reads n l)) (λ h. ⊎_elim (λ b. inl b) (λ z. inr (z, inr (inl h))) (at_or_below q s.reads l)))
          (which (reading s.phase) (eqb q s.reads) (has_stamp (row_of s j).stamps (used (row_of s j)) x) p)
