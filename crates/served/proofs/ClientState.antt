-- An honest client after any calls: what it has sent for its open operation, that what it has counted is not enough yet, and that its earlier writes
-- ended. Assumes nothing.
use Rattle.frame.specs.Refusals.{fine}
use Prim.Native.Nat.{ℕ, zero, suc, ◌+◌, ◌≤◌, ◌<◌, min}
use native.Mathlib.Omega.{arith}
use native.Mathlib.Decide.{ℕ_discrete}
use mathlib.Core.Bool.{Bool, true, false}
use mathlib.Core.Path.{◌≡◌, refl, ap, sym, ◌∙◌, subst}
use mathlib.Core.Logic.{inl, inr}
use mathlib.Core.Option.{none}
use mathlib.Core.List.{List, [], ◌∷◌, Memᴰ}
use lib.ListN.{length, get_or, replicate}
use lib.Dec.{leb}
use borrow.Author.Tests.{leb-true, not-false}
use Rattle.quorum.specs.Quorum.{bit, count, Among}
use Rattle.quorum.proofs.Logic.{impossible, and_split}
use Rattle.quorum.proofs.Counting.{count_mono}
use Rattle.blocks.specs.declared.Params.{Params}
use Rattle.group_rules.specs.Coded.{entry_of}
use Rattle.frame.specs.declared.Stamp.{Stamp}
use Rattle.frame.specs.declared.Party.{Party}
use Rattle.frame.specs.declared.Party.TheVariants as A
use Rattle.frame.specs.Params.{params_test, Bounded}
use Rattle.frame.specs.Stamps.{last_time, last_client}
use Rattle.frame.specs.Messages.{Entry, offer, send, Body, get_stamp, ask_read, block_is, Message, message, Sending, sending, to_all}
use Rattle.frame.proofs.Sizes.{Small}
use Rattle.frame.proofs.Verdicts.{fine_both, fine_not}
use Rattle.server_rules.proofs.Casts.{all_mem}
use Rattle.client_rules.specs.declared.Phase.{Phase}
use Rattle.client_rules.specs.declared.Client.{Client}
use Rattle.client_rules.specs.declared.Phase.TheVariants as F
use Rattle.client_rules.specs.Rows.{Kept, used, places_from, row_view, rows_from, first_agreed, found_by, search}
use Rattle.client_rules.specs.State.{fresh_row, fresh_client, no_row, row_of, heard_of, with_report, idle, asking, acking, reading, writing}
use Rattle.client_rules.specs.Beginning as CB
use Rattle.client_rules.specs.Steps as C
use Rattle.client_rules.specs.Tests as CT
use Rattle.client_rules.proofs.Shapes.{dispersed, Keeps, drops, keeps, learns_writes, learns_phase, Shape, notes, hears, shuts}
use Rattle.client_rules.proofs.Shapes.{counts, ends, waits, completes, sends as disperses, idle as idles}
use Rattle.client_rules.proofs.CallFacts.{awaited_true, no_flag, fresh_row_lem}
use Rattle.steps.proofs.ClientTaken.{learns_asking}
use Rattle.runs.specs.Events.{At, EndsWrite, OpensWrite}
use Rattle.runs.specs.World.{Setup, Call, caller, ClientSide, client_done, client_left, start, run, sends}
use Rattle.runs.proofs.Agreement.{small}
use Rattle.runs.proofs.Assumed.{Assumed}
use Rattle.runs.proofs.Broadcasts.{SentMessage}
use Rattle.served.proofs.Clients.{home, TakesFrame, ClientTurn, rests, takes, begins_read, begins_write, client_turn}

-- ---- nothing counted, nothing kept

no_flags : (m n : ℕ) → count (λ j. get_or (replicate m false) j false) n ≡ 0
unfolding count
no_flags m zero = refl
no_flags m (suc k) = omega (arith, no_flags m k, ap bit (no_flag m (suc k)))

none_quorate : (g : Params) → Bounded g → C.quorate g (replicate 11 false) ≡ false
unfolding C.quorate
none_quorate g L = go (leb g.n (count (λ j. get_or (replicate 11 false) j false) g.n + g.t)) refl
  where
    go : (b : Bool) → leb g.n (count (λ j. get_or (replicate 11 false) j false) g.n + g.t) ≡ b → b ≡ false
    go true e =
        let l = leb-true g.n (count (λ j. get_or (replicate 11 false) j false) g.n + g.t) e in
        absurd (omega (arith, l, no_flags 11 g.n, L.faults_high, L.faults_low))
    go false e = refl

none_gathered : (g : Params) → Bounded g → (s : Client) → s.heard ≡ replicate 11 false → C.gathered g s ≡ false
unfolding C.gathered C.counted
none_gathered g L s e = go (leb g.n (count (C.counted g s) g.n + g.t)) refl
  where
    few : count (C.counted g s) g.n ≤ count (λ j. get_or (replicate 11 false) j false) g.n
    few = count_mono (C.counted g s) (λ j. get_or (replicate 11 false) j false) g.n
        (λ j i h. ap (λ l. get_or l j false) (sym e) ∙ (and_split (heard_of s j) _ h).0)

    go : (b : Bool) → leb g.n (count (C.counted g s) g.n + g.t) ≡ b → b ≡ false
    go true h =
        let l = leb-true g.n (count (C.counted g s) g.n + g.t) h in
        absurd (omega (arith, l, few, no_flags 11 g.n, L.faults_high, L.faults_low))
    go false h = refl

rows_none : (f : ℕ → List Kept) → ((j : ℕ) → f j ≡ []) → (j m : ℕ) → rows_from f j m ≡ []
unfolding rows_from
rows_none f e j zero = refl
rows_none f e j (suc m) = rw (e j) (rows_none f e (suc j) m)

fresh_view : (g : Params) (s : Client) (a : List ℕ) → s.rows ≡ replicate 11 fresh_row → (j : ℕ) → row_view g s a j ≡ []
unfolding row_view places_from
fresh_view g s a e j = ap (places_from g a j (row_of s j) 0) (ap (λ l. used (get_or l j no_row)) e ∙ ap (λ m. min m 4) (fresh_row_lem 11 j))

none_found : (g : Params) (s : Client) (a : List ℕ) → s.rows ≡ replicate 11 fresh_row → search g (row_view g s a) ≡ none
unfolding search found_by first_agreed
none_found g s a e = ap (λ l. found_by g (row_view g s a) (first_agreed g (row_view g s a) l)) (rows_none (row_view g s a) (fresh_view g s a e) 1 g.n)

-- ---- phases by their tests

pub phase_idle : (p : Phase) → idle p ≡ true → p ≡ F.Idle
phase_idle F.Idle e = refl
phase_idle F.Asking e = impossible (cc e)
phase_idle F.Acking e = impossible (cc e)
phase_idle F.Reading e = impossible (cc e)

pub phase_asking : (p : Phase) → asking p ≡ true → p ≡ F.Asking
phase_asking F.Idle e = impossible (cc e)
phase_asking F.Asking e = refl
phase_asking F.Acking e = impossible (cc e)
phase_asking F.Reading e = impossible (cc e)

pub phase_acking : (p : Phase) → acking p ≡ true → p ≡ F.Acking
phase_acking F.Idle e = impossible (cc e)
phase_acking F.Asking e = impossible (cc e)
phase_acking F.Acking e = refl
phase_acking F.Reading e = impossible (cc e)

pub phase_reading : (p : Phase) → reading p ≡ true → p ≡ F.Reading
phase_reading F.Idle e = impossible (cc e)
phase_reading F.Asking e = impossible (cc e)
phase_reading F.Acking e = impossible (cc e)
phase_reading F.Reading e = refl

module _ (Z : Setup) (G : Assumed Z) where
  open Z use {H, g}

  abbrev M : Small g
  M = small Z G

  abbrev pub SentBy : List Call → Party → Party → Message → Type 0
  SentBy = SentMessage Z G M

  -- ---- its state

  -- client c's write q has ended
  abbrev pub Ended : List Call → ℕ → ℕ → Type 0
  Ended ks c q = (p : ℕ) × At (EndsWrite Z c q) ks p

  -- by the phase: with no operation open or in a read the last write ended, unless out of stamps
  abbrev pub Doing : List Call → ℕ → ClientSide → Phase → Type 0
  Doing ks c h F.Idle = h.client.closed ≡ false → 1 ≤ h.client.writes → Ended ks c h.client.writes
  Doing ks c h F.Asking = (1 ≤ h.client.writes) × (C.gathered g h.client ≡ false)
      × ((j : ℕ) → Among g.n j → SentBy ks (A.Client c) (A.Server j) (message c h.client.writes get_stamp))
  Doing ks c h F.Acking = (1 ≤ h.client.writes) × (C.quorate g h.client.heard ≡ false) × (T : ℕ) × (T < last_time)
      × ((j : ℕ) → Among g.n j → SentBy ks (A.Client c) (A.Server j) (message c h.client.writes (block_is send (offer T (entry_of H g h.value j)))))
  Doing ks c h F.Reading = (1 ≤ h.client.reads) × (search g (row_view g h.client h.area) ≡ none)
      × ((j : ℕ) → Among g.n j → SentBy ks (A.Client c) (A.Server j) (message c h.client.reads ask_read))
      × (h.client.closed ≡ false → 1 ≤ h.client.writes → Ended ks c h.client.writes)

  pub record Stands (ks : List Call) (c : ℕ) (h : ClientSide) : Type 0 where
    -- the value at hand is that of the last write opened
    pub opened : 1 ≤ h.client.writes → (p : ℕ) × At (OpensWrite Z c h.client.writes h.value) ks p
    pub ended : (q : ℕ) → 1 ≤ q → q < h.client.writes → Ended ks c q
    pub doing : Doing ks c h h.client.phase

  -- ---- one call more

  later_doing : (ks : List Call) (k : Call) (c : ℕ) (h : ClientSide) (p : Phase) → Doing ks c h p → Doing (k ∷ ks) c h p
  later_doing ks k c h F.Idle f = λ z l. let (p, u) = f z l in (p, inr u)
  later_doing ks k c h F.Asking (l, q, f) = (l, q, λ j i. inr (f j i))
  later_doing ks k c h F.Acking (l, q, T, b, f) = (l, q, T, b, λ j i. inr (f j i))
  later_doing ks k c h F.Reading (l, q, f, e) = (l, q, (λ j i. inr (f j i)), λ z l. let (p, u) = e z l in (p, inr u))

  module _ (ks : List Call) (k : Call) (c : ℕ) (S : Stands ks c (home Z ks c)) where
    abbrev s : Client
    s = (home Z ks c).client

    -- the write's number and value stay
    same_write : (h : ClientSide) → h.client.writes ≡ s.writes → h.value ≡ (home Z ks c).value → Doing (k ∷ ks) c h h.client.phase → Stands (k ∷ ks) c h
    same_write h e v d = record {
      opened = λ l.
          let (p, u) = S.opened (omega (arith, l, e)) in
          (p, inr (subst (λ n. At (OpensWrite Z c n h.value) ks p) (sym e) (subst (λ v. At (OpensWrite Z c s.writes v) ks p) (sym v) u)));
      ended = λ q l b. let (p, u) = S.ended q l (omega (arith, b, e)) in (p, inr u);
      doing = d;
    }

    -- what it did, by the phase that it was in
    was : (p : Phase) → s.phase ≡ p → Doing ks c (home Z ks c) p
    was p e = subst (Doing ks c (home Z ks c)) e S.doing

    module _ (t : TakesFrame Z ks k c) where
      abbrev a : List ℕ
      a = (home Z ks c).area

      abbrev value : List ℕ
      value = (home Z ks c).value

      -- what the call sends
      now : (l : List Sending) → t.r.sends ≡ l → (b : Party) (m : Message) → Memᴰ (sending b m) l → SentBy (k ∷ ks) (A.Client c) b m
      now l e b m u = inl (t.called, subst (Memᴰ (sending b m)) (sym (t.sent ∙ e)) u)

      kept_same : {x : Stamp} {e : Entry} {s' : Client} {a' : List ℕ} → Keeps H g c s a t.v t.j x e s' a'
          → (s'.writes ≡ s.writes) × (s'.reads ≡ s.reads) × (s'.closed ≡ s.closed) × (s'.phase ≡ s.phase)
      kept_same (drops z) = (refl, refl, refl, refl)
      kept_same (keeps i z) = (refl, refl, refl, refl)

      -- a report outside the first part of a write
      noted : (T : ℕ) (p : Phase) → asking p ≡ false → Doing ks c (home Z ks c) p
          → Doing (k ∷ ks) c (client_done Z (C.quiet (with_report s t.j T) a) value) p
      unfolding row_view
      noted T F.Idle p f = λ z l. let (q, u) = f z l in (q, inr u)
      noted T F.Asking p f = impossible (cc p)
      noted T F.Acking p (l, q, N, b, f) = (l, q, N, b, λ j i. inr (f j i))
      noted T F.Reading p (l, q, f, e) = (l, q, (λ j i. inr (f j i)), λ z l. let (p, u) = e z l in (p, inr u))

      by_shape : {b : Body} {r : C.Effect} → CT.order_test H g c s t.j t.m.sequence b ≡ fine → t.r ≡ r
          → Shape H g c s a t.v t.j b r → Stands (k ∷ ks) c (client_done Z r value)
      unfolding CT.order_test to_all
      by_shape o e (idles b) = same_write _ refl refl (later_doing ks k c (home Z ks c) s.phase S.doing)
      by_shape o e (notes T p) = same_write _ refl refl (noted T s.phase p S.doing)
      by_shape o e (hears b K q) =
          let p = phase_asking s.phase (learns_asking H g c s a t.v t.j t.m.sequence o K) in
          let (l, _, f) = was F.Asking p in
          let w = learns_writes H g c s a t.v t.j K in
          same_write _ w refl (subst (Doing (k ∷ ks) c (client_done Z (C.quiet _ a) value)) (sym (learns_phase H g c s a t.v t.j K)) (
            omega (arith, l, w),
            q,
            λ j i. inr (subst (λ n. SentBy ks (A.Client c) (A.Server j) (message c n get_stamp)) (sym w) (f j i)),
          ))
      by_shape o e (disperses b {s'} K q l) =
          let p = phase_asking s.phase (learns_asking H g c s a t.v t.j t.m.sequence o K) in
          let (low, _, f) = was F.Asking p in
          let v = t.own (ap writing p) in
          let w = learns_writes H g c s a t.v t.j K in
          let N = C.largest_counted g s' in
          same_write _ w refl (
            omega (arith, low, w),
            none_quorate g G.bounded,
            N,
            l,
            λ j i.
                subst (λ n. SentBy (k ∷ ks) (A.Client c) (A.Server j) (message c n (block_is send (offer N (entry_of H g value j))))) (sym w)
                (subst (λ w. SentBy (k ∷ ks) (A.Client c) (A.Server j) (message c s.writes (block_is send (offer N (entry_of H g w j))))) v
                (now (dispersed H g c s a t.v t.j N) (ap (λ r. r.sends) e) (A.Server j) _
                (all_mem (λ i. message c s.writes (block_is send (offer N (entry_of H g t.v i)))) 1 g.n j i.0 (omega (arith, i.1))))),
          )
      by_shape o e (shuts b K q l) = same_write _ (learns_writes H g c s a t.v t.j K) refl (λ z. impossible (cc z))
      by_shape o e (counts q) =
          let p = phase_acking s.phase (and_split (acking s.phase) _ (awaited_true H g c _ o)).0 in
          let (l, _, T, b, f) = was F.Acking p in
          same_write _ refl refl (l, q, T, b, λ j i. inr (f j i))
      by_shape o e (ends q) = same_write _ refl refl (λ z l. (length ks, inl (refl, t.ends (ap (λ r. r.event) e))))
      by_shape o e (waits x y {s'} {a'} K z) =
          let p = phase_reading s.phase (and_split (reading s.phase) _ (awaited_true H g c _ (fine_both _ _ o).0)).0 in
          let (l, _, f, d) = was F.Reading p in
          let (ew, er, ec, ep) = kept_same K in
          same_write _ ew refl (subst (Doing (k ∷ ks) c (client_done Z (C.quiet s' a') value)) (sym (ep ∙ p)) (
            omega (arith, l, er),
            z,
            (λ j i. inr (subst (λ n. SentBy ks (A.Client c) (A.Server j) (message c n ask_read)) (sym er) (f j i))),
            λ q n. let (y, u) = d (sym ec ∙ q) (omega (arith, n, ew)) in (y, inr (subst (λ n. At (EndsWrite Z c n) ks y) (sym ew) u)),
          ))
      by_shape o e (completes x y K w z) =
          let p = phase_reading s.phase (and_split (reading s.phase) _ (awaited_true H g c _ (fine_both _ _ o).0)).0 in
          let (l, _, f, d) = was F.Reading p in
          let (ew, er, ec, ep) = kept_same K in
          same_write _ ew refl (λ q n. let (y, u) = d (sym ec ∙ q) (omega (arith, n, ew)) in (y, inr (subst (λ n. At (EndsWrite Z c n) ks y) (sym ew) u)))

    -- the tests of a beginning: no operation is open, and a write only where none closed as out of stamps
    began_idle : (last : ℕ) → CB.idle_test s.phase last ≡ fine → s.phase ≡ F.Idle
    began_idle last e = phase_idle s.phase (not-false (idle s.phase) (fine_not _ _ _ e).0)

    pub read_begun_idle : (out to : List ℕ) → CB.read_test g c s out to ≡ fine → s.phase ≡ F.Idle
    unfolding CB.read_test
    read_begun_idle out to e = began_idle s.reads
        (fine_both (CT.send_room g (length out) (length to)) (CB.idle_test s.phase s.reads) (fine_both (params_test g c last_client) _ e).1).1

    pub write_begun_lem : (v out to : List ℕ) → CB.write_test g c s v out to ≡ fine → (s.phase ≡ F.Idle) × (s.closed ≡ false)
    unfolding CB.write_test
    write_begun_lem v out to e =
        let p₁ = (fine_both (params_test g c last_client) _ e).1 in
        let p₂ = (fine_both (CB.length_test g (length v)) _ p₁).1 in
        let p₃ = (fine_both (CT.send_room g (length out) (length to)) _ p₂).1 in
        let p₄ = fine_both (CB.idle_test s.phase s.writes) _ p₃ in
        (began_idle s.writes p₄.0, (fine_not _ _ _ p₄.1).0)

    read_stands : (out to : List ℕ) → caller k ≡ A.Client c → CB.read_test g c s out to ≡ fine → sends Z (run Z ks) k ≡ (CB.open_read g c s).sends
        → Stands (k ∷ ks) c (client_left Z (CB.open_read g c s) (home Z ks c).area (home Z ks c).value)
    unfolding CB.open_read to_all
    read_stands out to e t l = same_write _ refl refl (
      omega arith,
      none_found g _ _ refl,
      (λ j i. inl (e, subst (Memᴰ _) (sym l) (all_mem (λ j. message c (s.reads + 1) ask_read) 1 g.n j i.0 (omega (arith, i.1))))),
      λ q n. let (y, u) = was F.Idle (read_begun_idle out to t) q n in (y, inr u),
    )

    write_stands : (v out to : List ℕ) → caller k ≡ A.Client c → CB.write_test g c s v out to ≡ fine → sends Z (run Z ks) k ≡ (CB.open_write g c s).sends
        → OpensWrite Z c (s.writes + 1) v ks k → Stands (k ∷ ks) c (client_left Z (CB.open_write g c s) (home Z ks c).area v)
    unfolding CB.open_write to_all
    write_stands v out to e t l o =
        let (p, q) = write_begun_lem v out to t in record {
          opened = λ _. (length ks, inl (refl, o));
          ended = λ n low high. go n low high (ℕ_discrete n s.writes) (was F.Idle p q);
          doing = (
            omega arith,
            none_gathered g G.bounded _ refl,
            λ j i. inl (e, subst (Memᴰ _) (sym l) (all_mem (λ j. message c (s.writes + 1) get_stamp) 1 g.n j i.0 (omega (arith, i.1)))),
          );
        }
      where
        go : (n : ℕ) → 1 ≤ n → n < s.writes + 1 → Dec (n ≡ s.writes) → (1 ≤ s.writes → Ended ks c s.writes) → Ended (k ∷ ks) c n
        go n low high (yes x) f = let (y, u) = f (omega (arith, low, x)) in (y, inr (subst (λ n. At (EndsWrite Z c n) ks y) (sym x) u))
        go n low high (no x) f = let (y, u) = S.ended n low (omega (arith, high, x)) in (y, inr u)

    next : ClientTurn Z ks k c → Stands (k ∷ ks) c (home Z (k ∷ ks) c)
    next (rests e f) = subst (Stands (k ∷ ks) c) (sym e) (same_write _ refl refl (later_doing ks k c (home Z ks c) s.phase S.doing))
    next (takes t) = subst (Stands (k ∷ ks) c) (sym t.left) (by_shape t t.order refl t.shape)
    next (begins_read out to e t h l) = subst (Stands (k ∷ ks) c) (sym h) (read_stands out to e t l)
    next (begins_write v out to e t h l o) = subst (Stands (k ∷ ks) c) (sym h) (write_stands v out to e t l o)

  pub stands : (ks : List Call) (c : ℕ) → Stands ks c (home Z ks c)
  unfolding run start fresh_client
  stands [] c = record { opened = λ l. absurd (omega (arith, l)); ended = λ q l h. absurd (omega (arith, h)); doing = λ e l. absurd (omega (arith, l)) }
  stands (k ∷ ks) c = next ks k c (stands ks c) (client_turn Z ks k c)
