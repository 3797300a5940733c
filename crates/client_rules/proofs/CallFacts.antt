-- What one call does to a client: what it has counted, sent and ended, as the record ClientFacts, which is all that runs need of a call here.
-- Assumes nothing.
use Rattle.std.specs.Prelude.{Ok, Err}
use Rattle.frame.specs.Refusals.{Verdict, fine}
use Prim.Native.Nat.{ℕ, zero, suc, ◌+◌, ◌-◌, ◌≤◌, ◌<◌, max, min}
use native.Mathlib.Omega.{arith}
use native.Mathlib.Decide.{ℕ_discrete, dec_le}
use mathlib.Core.Bool.{Bool, true, false, not, ◌&&◌}
use mathlib.Core.Path.{◌≡◌, refl, ap, sym, ◌∙◌, subst}
use mathlib.Core.Logic.{◌⊎◌, inl, inr, ⊎_elim}
use mathlib.Core.Option.{Option, some}
use mathlib.Core.List.Memᴰ
use mathlib.Core.List.{List, [], Memᴰ}
use lib.ListN.{length, get_or, set, replicate, length-set, length-replicate, get_or-replicate}
use lib.Seq.{get_or-set_same, get_or-set_other}
use lib.Dec.{eqb}
use borrow.Author.Tests.{leb-true, eqb-true, not-false}
use Rattle.quorum.specs.Quorum.{count, Among}
use Rattle.quorum.proofs.Logic.{impossible, and_split}
use Rattle.quorum.proofs.Quorums.{AtLeast, at_least_map}
use Rattle.area.specs.Area.{pick, kept}
use Rattle.area.proofs.Tests.{kept_some}
use Rattle.area.proofs.Sets.{of_copies}
use Rattle.blocks.specs.declared.Params.{Params}
use Rattle.frame.specs.declared.Stamp.{Stamp}
use Rattle.frame.specs.declared.Party.{Party}
use Rattle.frame.specs.declared.Party.TheVariants as A
use Rattle.frame.specs.Chunks.{rows_bytes}
use Rattle.frame.specs.Messages.{Entry, Offer, offer, send, Body, get_stamp, ack, ask_read, read_complete, stamp_is}
use Rattle.frame.specs.Messages.{block_is, value_is, report, Message, message, Sending, sending, to_all, Sized, FormedBody}
use Rattle.frame.proofs.Sizes.{Small}
use Rattle.frame.proofs.Verdicts.{fine_both, fine_not}
use Rattle.frame.proofs.PartyLaws.{mem_all}
use Rattle.group_rules.specs.Vouching.{backed}
use Rattle.group_rules.proofs.Vouching.{backed_servers}
use Rattle.client_rules.specs.declared.Phase.{Phase}
use Rattle.client_rules.specs.declared.Row.{Row}
use Rattle.client_rules.specs.declared.Client.{Client}
use Rattle.client_rules.specs.declared.Phase.TheVariants as F
use Rattle.client_rules.specs.Rows.{used, Kept, places_from, row_view, row_with, Found, search}
use Rattle.client_rules.specs.State.{fresh_row, fresh_client, no_row, row_of, in_phase, shut, heard_of, reply_of, report_of, with_report, largest}
use Rattle.client_rules.specs.WellFormed.{Within}
use Rattle.client_rules.specs.Beginning as CB
use Rattle.client_rules.specs.State as CS
use Rattle.client_rules.specs.Steps as C
use Rattle.client_rules.specs.Tests as CT
use Rattle.client_rules.proofs.Views as CV
use Rattle.client_rules.proofs.Shapes.{dispersed, asked, Keeps, drops, keeps, Learns, replies, reports, asking_is, Shape, idle, notes, hears}
use Rattle.client_rules.proofs.Shapes.{shuts, counts, ends, waits, completes, shape_length, shape_of}
use Rattle.client_rules.proofs.Shapes.{sends as disperses}
use Rattle.client_rules.proofs.Within.{Empty, fresh_within, read_within, write_within, step_within}
use Rattle.client_rules.proofs.Agreed.{finds}

-- ---- small laws

pub awaited_true : (H : List ℕ → List ℕ) (g : Params) (me : ℕ) (b : Bool) → CT.awaited b ≡ fine → b ≡ true
unfolding CT.awaited pick
awaited_true H g me true e = refl
awaited_true H g me false e = impossible (cc)

-- the lent value of an open write is whole
pub value_whole : (g : Params) (p : Phase) (v : ℕ) → CT.value_test g p v ≡ fine → CS.writing p ≡ true → v ≡ g.size
unfolding CT.value_test
value_whole g p v e w = go (CS.writing p) w (fine_not _ _ _ e).0
  where
    go : (b : Bool) → b ≡ true → (b && not (eqb v g.size)) ≡ false → v ≡ g.size
    go true p z = eqb-true v g.size (not-false _ z)
    go false p z = impossible (cc)

pub no_flag : (n j : ℕ) → get_or (replicate n false) j false ≡ false
no_flag = of_copies (λ b. b) false false false refl refl

kept_true : (b : Bool) (v : ℕ) → b ≡ true → kept b v ≡ some v
kept_true true v e = refl
kept_true false v e = impossible (cc)

le_largest : (f : ℕ → ℕ) (n j : ℕ) → Among n j → f j ≤ largest f n
unfolding largest
le_largest f zero j i = absurd (omega (arith, i.0, i.1))
le_largest f (suc k) j i = go (λ l. le_largest f k j (i.0, l)) (ℕ_discrete j (suc k))
  where
    go : (j ≤ k → f j ≤ largest f k) → Dec (j ≡ suc k) → f j ≤ max (f (suc k)) (largest f k)
    go h (yes z) = let w : f j ≡ f (suc k) = ap f z in omega (arith, w)
    go h (no z) = let w = h (omega (arith, z, i.1)) in omega (arith, w)

-- the largest is one of them, or 0
largest_is : (f : ℕ → ℕ) (n : ℕ) → (largest f n ≡ 0) ⊎ ((j : ℕ) × Among n j × (largest f n ≡ f j))
unfolding largest
largest_is f zero = inl refl
largest_is f (suc k) = go (dec_le (largest f k) (f (suc k))) (largest_is f k)
  where
    go : Dec (largest f k ≤ f (suc k)) → (largest f k ≡ 0) ⊎ ((j : ℕ) × Among k j × (largest f k ≡ f j))
        → (max (f (suc k)) (largest f k) ≡ 0) ⊎ ((j : ℕ) × Among (suc k) j × (max (f (suc k)) (largest f k) ≡ f j))
    go (yes l) h = inr (suc k, omega arith, omega (arith, l))
    go (no l) (inl e) = absurd (l (omega (arith, e)))
    go (no l) (inr (j, i, e)) = inr (j, omega (arith, i), omega (arith, l, e))

-- ---- a client's state that calls find

pub record ClientShape (s : Client) (a : List ℕ) : Type 0 where
  pub within : Within CV.shapes s
  pub room : rows_bytes ≤ length a

pub set_cases : {A : Type 0} (l : List A) (i : ℕ) (v d : A) → i < length l → (j : ℕ)
    → ((j ≡ i) × (get_or (set l i v) j d ≡ v)) ⊎ (get_or (set l i v) j d ≡ get_or l j d)
set_cases l i v d h j = go (ℕ_discrete j i)
  where
    go : Dec (j ≡ i) → ((j ≡ i) × (get_or (set l i v) j d ≡ v)) ⊎ (get_or (set l i v) j d ≡ get_or l j d)
    go (yes z) = inl (z, ap (λ y. get_or (set l i v) y d) z ∙ get_or-set_same l i v d h)
    go (no z) = inr (get_or-set_other l i j v d z)

pub row_shaped : (l : List Row) → CV.Shaped l → (j : ℕ) → j ≤ 10 → (i : ℕ) (x : Stamp) → CV.Shaped (set l j (row_with (get_or l j no_row) i x))
row_shaped l S j hj i x = record {
  rows_many = length-set l j _ ∙ S.rows_many;
  stamps_many = λ m hm. ⊎_elim
      (λ w. ap (λ r. length r.stamps) w.1 ∙ length-set (get_or l j no_row).stamps i x ∙ S.stamps_many j hj)
      (λ w. ap (λ r. length r.stamps) w ∙ S.stamps_many m hm)
      (set_cases l j (row_with (get_or l j no_row) i x) no_row (omega (arith, S.rows_many)) m);
}

pub fresh_row_lem : (n m : ℕ) → (get_or (replicate n fresh_row) m no_row).count ≡ 0
unfolding fresh_row
fresh_row_lem = of_copies (λ r. r.count) fresh_row no_row 0 refl refl

pub rows_shaped : (l : List Row) → l ≡ replicate 11 fresh_row → CV.Shaped l
unfolding fresh_row
rows_shaped l e = record {
  rows_many = ap length e ∙ length-replicate 11 fresh_row;
  stamps_many = λ j h. ap (λ l. length (get_or l j no_row).stamps) e ∙ ap (λ r. length r.stamps) (get_or-replicate 11 j fresh_row no_row (omega arith));
}

shapes_empty : Empty CV.shapes
shapes_empty = record { heard = refl; times = refl; rows = rows_shaped _ refl }

pub no_rows : (g : Params) (s : Client) (a : List ℕ) (j : ℕ) (k : Kept) → s.rows ≡ replicate 11 fresh_row → Memᴰ k (row_view g s a j) → ⊥
unfolding row_view places_from
no_rows g s a j k e u =
    let c : used (row_of s j) ≡ 0 = ap (λ l. used (get_or l j no_row)) e ∙ ap (λ m. min m 4) (fresh_row_lem 11 j) in
    Memᴰ.not-nil (subst (λ n. Memᴰ k (places_from g a j (row_of s j) 0 n)) c u)

pub client_shape_fresh : (a : List ℕ) → rows_bytes ≤ length a → ClientShape fresh_client a
client_shape_fresh a R = record { within = fresh_within CV.shapes shapes_empty tt; room = R }

-- ---- the facts

-- the time of server j that was counted
abbrev pub time_of : Client → ℕ → Option ℕ
time_of s j = kept (get_or s.heard j false) (get_or s.times j 0)

module _ (H : List ℕ → List ℕ) (g : Params) (M : Small g) (few : g.n ≤ 10) (me : ℕ) where
  -- N j m: the call brought m of server j
  module _ (s : Client) (a : List ℕ) (N : ℕ → Message → Type 0) where
    abbrev pub KnowsT : ℕ → ℕ → Type 0
    KnowsT j T = ((s.phase ≡ F.Asking) × (time_of s j ≡ some T)) ⊎ N j (message me s.writes (stamp_is T))

    abbrev pub KnowsA : ℕ → Type 0
    KnowsA j = ((s.phase ≡ F.Acking) × (heard_of s j ≡ true)) ⊎ N j (message me s.writes ack)

    abbrev pub KnowsV : ℕ → Kept → Type 0
    KnowsV j k = ((s.phase ≡ F.Reading) × Memᴰ k (row_view g s a j)) ⊎ N j (message me s.reads (value_is k.stamp k.entry))

    -- the highest report of server j, or one that came: kind 13, or a stamp
    abbrev pub KnowsR : ℕ → ℕ → Type 0
    KnowsR j T = (report_of s j ≡ T) ⊎ (((d q : ℕ) × N j (message d q (report T))) ⊎ N j (message me s.writes (stamp_is T)))

    pub record ClientFacts (s' : Client) (a' : List ℕ) (l : List Sending) (ev : C.Event) : Type 0 where
      pub client_shape : ClientShape s' a'
      pub writes_up : s.writes ≤ s'.writes
      pub reads_up : s.reads ≤ s'.reads
      pub t_kept : (j T : ℕ) → Among g.n j → s'.phase ≡ F.Asking → time_of s' j ≡ some T → (s'.writes ≡ s.writes) × KnowsT j T
      pub a_kept : (j : ℕ) → Among g.n j → s'.phase ≡ F.Acking → heard_of s' j ≡ true → (s'.writes ≡ s.writes) × KnowsA j
      pub v_kept : (j : ℕ) (k : Kept) → Among g.n j → s'.phase ≡ F.Reading → Memᴰ k (row_view g s' a' j) → (s'.reads ≡ s.reads) × KnowsV j k
      pub t_sent : (b : Party) (d q : ℕ) (o : Offer) → Memᴰ (sending b (message d q (block_is send o))) l
          → (q ≡ s.writes) × AtLeast g.n (g.n - g.t) (λ j. (T' : ℕ) × (T' ≤ o.time) × KnowsT j T')
      pub t_vouched : (b : Party) (d q : ℕ) (o : Offer) → Memᴰ (sending b (message d q (block_is send o))) l
          → (o.time ≡ 0) ⊎ AtLeast g.n (g.t + 1) (λ j. (T : ℕ) × (o.time ≤ T) × KnowsR j T)
      pub report_kept : (j : ℕ) → Among g.n j → KnowsR j (report_of s' j)
      pub report_up : (j : ℕ) → Among g.n j → report_of s j ≤ report_of s' j
      pub g_sent : (b : Party) (d q : ℕ) → Memᴰ (sending b (message d q get_stamp)) l → q ≤ s'.writes
      pub r_sent : (b : Party) (d q : ℕ) → Memᴰ (sending b (message d q ask_read)) l → q ≤ s'.reads
      pub write_why : ev ≡ C.written → AtLeast g.n (g.n - g.t) KnowsA
      pub read_why : (v : Found) → ev ≡ C.stopped v
          → AtLeast g.n (g.n - g.t) (λ j. (k : Kept) × (k.stamp ≡ v.stamp) × (k.entry.digests ≡ v.digests) × KnowsV j k)

    -- a move that sends nothing and ends nothing
    turn_facts : (s' : Client) (a' : List ℕ) → ClientShape s' a' → s'.writes ≡ s.writes → s'.reads ≡ s.reads
        → ((j T : ℕ) → Among g.n j → s'.phase ≡ F.Asking → time_of s' j ≡ some T → KnowsT j T)
        → ((j : ℕ) → Among g.n j → s'.phase ≡ F.Acking → heard_of s' j ≡ true → KnowsA j)
        → ((j : ℕ) (k : Kept) → Among g.n j → s'.phase ≡ F.Reading → Memᴰ k (row_view g s' a' j) → KnowsV j k)
        → ((j : ℕ) → Among g.n j → KnowsR j (report_of s' j) × (report_of s j ≤ report_of s' j))
        → ClientFacts s' a' [] C.nothing
    turn_facts s' a' X ew er ft fa fv fr = record {
      client_shape = X;
      writes_up = omega (arith, ew);
      reads_up = omega (arith, er);
      t_kept = λ j T i p e. (ew, ft j T i p e);
      a_kept = λ j i p e. (ew, fa j i p e);
      v_kept = λ j k i p e. (er, fv j k i p e);
      t_sent = λ b d q o u. absurd (Memᴰ.not-nil u);
      t_vouched = λ b d q o u. absurd (Memᴰ.not-nil u);
      report_kept = λ j i. (fr j i).0;
      report_up = λ j i. (fr j i).1;
      g_sent = λ b d q u. absurd (Memᴰ.not-nil u);
      r_sent = λ b d q u. absurd (Memᴰ.not-nil u);
      write_why = λ e. impossible (cc);
      read_why = λ v e. impossible (cc);
    }

    same_reports : (j : ℕ) → Among g.n j → KnowsR j (report_of s j) × (report_of s j ≤ report_of s j)
    same_reports j i = (inl refl, omega arith)

    pub quiet_facts : ClientShape s a → ClientFacts s a [] C.nothing
    quiet_facts X = turn_facts s a X refl refl (λ j T i p e. inl (p, e)) (λ j i p e. inl (p, e)) (λ j k i p e. inl (p, e)) same_reports

    same_report : ClientShape s a → (j T : ℕ) → Among g.n j
        → ((d q : ℕ) × N j (message d q (report T))) ⊎ N j (message me s.writes (stamp_is T))
        → (i : ℕ) → Among g.n i → KnowsR i (report_of (with_report s j T) i) × (report_of s i ≤ report_of (with_report s j T) i)
    same_report X j T ij new i is = go (ℕ_discrete i j) (dec_le T (report_of s j))
      where
        at : report_of (with_report s j T) j ≡ max (report_of s j) T
        at = get_or-set_same s.reports j (max (report_of s j) T) 0 (omega (arith, X.within.reports, few, ij.1))

        go : Dec (i ≡ j) → Dec (T ≤ report_of s j) → KnowsR i (report_of (with_report s j T) i) × (report_of s i ≤ report_of (with_report s j T) i)
        go (no z) l = let e = get_or-set_other s.reports j i (max (report_of s j) T) 0 z in (inl (sym e), omega (arith, e))
        go (yes z) (yes l) = subst (λ i. KnowsR i (report_of (with_report s j T) i) × (report_of s i ≤ report_of (with_report s j T) i)) (sym z)
            (inl (omega (arith, at, l)), omega (arith, at, l))
        go (yes z) (no l) = subst (λ i. KnowsR i (report_of (with_report s j T) i) × (report_of s i ≤ report_of (with_report s j T) i)) (sym z)
            (let e : T ≡ report_of (with_report s j T) j = omega (arith, at, l) in
            (inr (subst (λ T. ((d q : ℕ) × N j (message d q (report T))) ⊎ N j (message me s.writes (stamp_is T))) e new), omega (arith, at)))

    -- ---- stamps

    abbrev heard_now : ℕ → List Bool
    heard_now j = set s.heard j true

    abbrev times_now : ℕ → ℕ → List ℕ
    times_now j T = set s.times j T

    stamp_knows : ClientShape s a → s.phase ≡ F.Asking → (j T : ℕ) → Among g.n j → N j (message me s.writes (stamp_is T))
        → (i T' : ℕ) → kept (get_or (heard_now j) i false) (get_or (times_now j T) i 0) ≡ some T' → KnowsT i T'
    stamp_knows X p j T ij new i T' e = go (ℕ_discrete i j)
      where
        go : Dec (i ≡ j) → KnowsT i T'
        go (yes z) =
            let w = kept_some (get_or (heard_now j) i false) (get_or (times_now j T) i 0) T' e in
            let t : T ≡ T' =
            sym (get_or-set_same s.times j T 0 (omega (arith, X.within.times, few, ij.1))) ∙ ap (λ y. get_or (times_now j T) y 0) (sym z) ∙ w.1 in
            inr (subst (λ y. N i (message me s.writes (stamp_is y))) t (subst (λ y. N y (message me s.writes (stamp_is T))) (sym z) new))
        go (no z) =
            let u : kept (get_or (heard_now j) i false) (get_or (times_now j T) i 0) ≡ time_of s i =
            λ d. kept (get_or-set_other s.heard j i true false z d) (get_or-set_other s.times j i T 0 z d) in
            inl (p, sym u ∙ e)

    body_all : (f : ℕ → Message) (b : Party) (m : Message) → Memᴰ (sending b m) (to_all g f)
        → (j : ℕ) × (m.body ≡ (f j).body) × (m.sequence ≡ (f j).sequence)
    unfolding to_all
    body_all f b m u = let w = mem_all f 1 g.n (sending b m) u in (w.0, ap (λ z. z.body) w.1, ap (λ z. z.sequence) w.1)

    -- what is learned in the first part of a write
    pub record Learned (s' : Client) : Type 0 where
      pub writes : s'.writes ≡ s.writes
      pub reads : s'.reads ≡ s.reads
      pub asking : s'.phase ≡ F.Asking
      pub times : (i T : ℕ) → time_of s' i ≡ some T → KnowsT i T
      pub told : (i : ℕ) → Among g.n i → KnowsR i (report_of s' i) × (report_of s i ≤ report_of s' i)

    counted_by : (s' : Client) (j : ℕ) → C.counted g s' j ≡ true → (heard_of s' j ≡ true) × (backed g (report_of s') (reply_of s' j) ≡ true)
    unfolding C.counted
    counted_by s' j e = and_split (heard_of s' j) _ e

    module _ (s' : Client) (K : Learned s') (v : List ℕ) (j : ℕ) where
      abbrev U : ℕ
      U = C.largest_counted g s'

      below_largest : (i : ℕ) → Among g.n i → C.counted g s' i ≡ true → reply_of s' i ≤ U
      unfolding C.largest_counted pick
      below_largest i is e =
          let f : ℕ → ℕ = λ j. pick (C.counted g s' j) (reply_of s' j) 0 in
          let l = le_largest f g.n i is in
          let p : f i ≡ reply_of s' i = ap (λ b. pick b (reply_of s' i) 0) e in
          omega (arith, l, p)

      -- n - t servers of whom a time was counted, none above the largest
      quorum : C.gathered g s' ≡ true → (T : ℕ) → T ≡ U → AtLeast g.n (g.n - g.t) (λ i. (T' : ℕ) × (T' ≤ T) × KnowsT i T')
      unfolding C.gathered
      quorum e T eT = record {
        member = C.counted g s';
        many = let h = leb-true g.n _ e in omega (arith, h);
        each = λ i is b. (
          reply_of s' i,
          subst (λ y. reply_of s' i ≤ y) (sym eT) (below_largest i is b),
          K.times i (reply_of s' i) (kept_true _ _ (counted_by s' i b).0),
        );
      }

      -- and t + 1 servers reported it or more
      backing : (T : ℕ) → T ≡ U → (T ≡ 0) ⊎ AtLeast g.n (g.t + 1) (λ i. (R : ℕ) × (T ≤ R) × KnowsR i R)
      unfolding C.largest_counted pick
      backing T eT = ⊎_elim (λ e. inl (eT ∙ e)) (λ (i, is, e). go i (C.counted g s' i) refl (eT ∙ e))
          (largest_is (λ j. pick (C.counted g s' j) (reply_of s' j) 0) g.n)
        where
          go : (i : ℕ) (b : Bool) → C.counted g s' i ≡ b → T ≡ pick b (reply_of s' i) 0
              → (T ≡ 0) ⊎ AtLeast g.n (g.t + 1) (λ i. (R : ℕ) × (T ≤ R) × KnowsR i R)
          go i true c e = inr (at_least_map (λ m im l. (report_of s' m, omega (arith, e, l), (K.told m im).0))
              (backed_servers g (report_of s') (reply_of s' i) (counted_by s' i c).1))
          go i false c e = inl e

      time_same : (o : Offer) (U : ℕ) (e : Entry) → block_is send o ≡ block_is send (offer U e) → o.time ≡ U
      time_same o U e z = cc

      -- the time that is sent is the largest of them, so at least each
      send_facts : ClientShape (in_phase s' F.Acking (replicate 11 false) s'.times) a → C.gathered g s' ≡ true
          → ClientFacts (in_phase s' F.Acking (replicate 11 false) s'.times) a (dispersed H g me s a v j U) C.nothing
      send_facts Y e = record {
        client_shape = Y;
        writes_up = omega (arith, K.writes);
        reads_up = omega (arith, K.reads);
        t_kept = λ i T' is q z. impossible (cc);
        a_kept = λ i is q z. impossible (cc (no_flag 11 i, z));
        v_kept = λ i k is q z. impossible (cc);
        t_sent = λ b d q o u. let w = body_all _ b _ u in (w.2, quorum e o.time (time_same o _ _ w.1));
        t_vouched = λ b d q o u. let w = body_all _ b _ u in backing o.time (time_same o _ _ w.1);
        report_kept = λ i is. (K.told i is).0;
        report_up = λ i is. (K.told i is).1;
        g_sent = λ b d q u. impossible (cc (body_all _ b _ u).1);
        r_sent = λ b d q u. impossible (cc (body_all _ b _ u).1);
        write_why = λ z. impossible (cc);
        read_why = λ v z. impossible (cc);
      }

      shut_facts : ClientShape (shut s') a → ClientFacts (shut s') a [] C.out_of_stamps
      shut_facts Y = record {
        client_shape = Y;
        writes_up = omega (arith, K.writes);
        reads_up = omega (arith, K.reads);
        t_kept = λ i T' is q z. impossible (cc);
        a_kept = λ i is q z. impossible (cc);
        v_kept = λ i k is q z. impossible (cc);
        t_sent = λ b d q o u. absurd (Memᴰ.not-nil u);
        t_vouched = λ b d q o u. absurd (Memᴰ.not-nil u);
        report_kept = λ i is. (K.told i is).0;
        report_up = λ i is. (K.told i is).1;
        g_sent = λ b d q u. absurd (Memᴰ.not-nil u);
        r_sent = λ b d q u. absurd (Memᴰ.not-nil u);
        write_why = λ z. impossible (cc);
        read_why = λ v z. impossible (cc);
      }

      hear_facts : ClientShape s' a → ClientFacts s' a [] C.nothing
      hear_facts Y = turn_facts s' a Y K.writes K.reads (λ i T' is q z. K.times i T' z) (λ i is q z. impossible (cc (K.asking, q)))
          (λ i k is q z. impossible (cc (K.asking, q))) K.told

    stamp_learned : ClientShape s a → (v : List ℕ) → s.phase ≡ F.Asking → (j T : ℕ) → Among g.n j → N j (message me s.writes (stamp_is T))
        → Learned (asked H g me s a v j T)
    stamp_learned X v p j T ij new = record {
      writes = refl;
      reads = refl;
      asking = refl;
      times = λ i T' e. stamp_knows X p j T ij new i T' e;
      told = same_report X j T ij (inr new);
    }

    report_learned : ClientShape s a → s.phase ≡ F.Asking → (j T d q : ℕ) → Among g.n j → N j (message d q (report T)) → Learned (with_report s j T)
    report_learned X p j T d q ij new = record {
      writes = refl;
      reads = refl;
      asking = p;
      times = λ i T' e. inl (p, e);
      told = same_report X j T ij (inl (d, q, new));
    }

    -- a report outside the first part of a write
    note_facts : ClientShape s a → (j T d q : ℕ) → Among g.n j → N j (message d q (report T)) → ClientShape (with_report s j T) a
        → ClientFacts (with_report s j T) a [] C.nothing
    unfolding row_view
    note_facts X j T d q ij new Y = turn_facts (with_report s j T) a Y refl refl (λ j T i p e. inl (p, e)) (λ j i p e. inl (p, e)) (λ j k i p e. inl (p, e))
        (same_report X j T ij (inl (d, q, new)))

    -- ---- acks

    module _ (X : ClientShape s a) (p : s.phase ≡ F.Acking) (j : ℕ) (ij : Among g.n j) (new : N j (message me s.writes ack)) where
      knows : (i : ℕ) → get_or (heard_now j) i false ≡ true → KnowsA i
      knows i e = ⊎_elim
          (λ w. inr (subst (λ y. N y (message me s.writes ack)) (sym w.0) new))
          (λ w. inl (p, sym w ∙ e))
          (set_cases s.heard j true false (omega (arith, X.within.heard, few, ij.1)) i)

      end_facts : ClientShape (in_phase s F.Idle (heard_now j) s.times) a → C.quorate g (heard_now j) ≡ true
          → ClientFacts (in_phase s F.Idle (heard_now j) s.times) a [] C.written
      unfolding C.quorate
      end_facts Y e = record {
        client_shape = Y;
        writes_up = omega arith;
        reads_up = omega arith;
        t_kept = λ i T' is q z. impossible (cc);
        a_kept = λ i is q z. impossible (cc);
        v_kept = λ i k is q z. impossible (cc);
        t_sent = λ b d q o u. absurd (Memᴰ.not-nil u);
        t_vouched = λ b d q o u. absurd (Memᴰ.not-nil u);
        report_kept = λ i is. inl refl;
        report_up = λ i is. omega arith;
        g_sent = λ b d q u. absurd (Memᴰ.not-nil u);
        r_sent = λ b d q u. absurd (Memᴰ.not-nil u);
        write_why = λ z. record {
          member = λ i. get_or (heard_now j) i false;
          many = omega (arith, leb-true g.n (count (λ i. get_or (heard_now j) i false) g.n + g.t) e);
          each = λ i is b. knows i b;
        };
        read_why = λ v z. impossible (cc);
      }

      count_facts : ClientShape (in_phase s F.Acking (heard_now j) s.times) a → ClientFacts (in_phase s F.Acking (heard_now j) s.times) a [] C.nothing
      count_facts Y = turn_facts (in_phase s F.Acking (heard_now j) s.times) a Y refl refl
          (λ i T' is q z. impossible (cc)) (λ i is q z. knows i z) (λ i k is q z. impossible (cc)) same_reports

    -- ---- values

    -- the rows s' and a' are searched
    module _ (s' : Client) (a' : List ℕ) (ew : s'.writes ≡ s.writes) (er : s'.reads ≡ s.reads) (p : s'.phase ≡ F.Reading)
        (same : s'.reports ≡ s.reports)
        (f : (i : ℕ) (k : Kept) → Among g.n i → Memᴰ k (row_view g s' a' i) → KnowsV i k) where
      same_told : (i : ℕ) → Among g.n i → KnowsR i (report_of s' i) × (report_of s i ≤ report_of s' i)
      same_told i is = let e : report_of s' i ≡ report_of s i = ap (λ l. get_or l i 0) same in (inl (sym e), omega (arith, e))

      wait_facts : ClientShape s' a' → ClientFacts s' a' [] C.nothing
      wait_facts Y = turn_facts s' a' Y ew er (λ i T' is q z. impossible (cc)) (λ i is q z. impossible (cc)) (λ i k is q z. f i k is z) same_told

      complete_facts : ClientShape (in_phase s' F.Idle s'.heard s'.times) a' → (y : Found) → search g (row_view g s' a') ≡ some y
          → ClientFacts (in_phase s' F.Idle s'.heard s'.times) a' (to_all g (λ i. message me s'.reads read_complete)) (C.stopped y)
      complete_facts Y y e = record {
        client_shape = Y;
        writes_up = omega (arith, ew);
        reads_up = omega (arith, er);
        t_kept = λ i T' is q z. impossible (cc);
        a_kept = λ i is q z. impossible (cc);
        v_kept = λ i k is q z. impossible (cc);
        t_sent = λ b d q o u. impossible (cc (body_all _ b _ u).1);
        t_vouched = λ b d q o u. impossible (cc (body_all _ b _ u).1);
        report_kept = λ i is. (same_told i is).0;
        report_up = λ i is. (same_told i is).1;
        g_sent = λ b d q u. impossible (cc (body_all _ b _ u).1);
        r_sent = λ b d q u. impossible (cc (body_all _ b _ u).1);
        write_why = λ z. impossible (cc);
        read_why = λ v z.
            let w : y ≡ v = cc in
            at_least_map (λ i is h. (h.it, h.stamp, h.digests, f i h.it is h.in_row)) (finds H g (row_view g s' a') v (e ∙ ap some w));
      }

    -- a value of server j, kept or dropped
    pub record Kept-facts (s' : Client) (a' : List ℕ) : Type 0 where
      pub writes : s'.writes ≡ s.writes
      pub reads : s'.reads ≡ s.reads
      pub phase : s'.phase ≡ F.Reading
      pub reports : s'.reports ≡ s.reports
      pub each : (i : ℕ) (k : Kept) → Among g.n i → Memᴰ k (row_view g s' a' i) → KnowsV i k

    keep_facts : ClientShape s a → s.phase ≡ F.Reading → (v : List ℕ) (j : ℕ) (x : Stamp) (e : Entry) → Sized g e → Among g.n j
        → N j (message me s.reads (value_is x e)) → {s' : Client} {a' : List ℕ} → Keeps H g me s a v j x e s' a' → Kept-facts s' a'
    keep_facts X p v j x e Q ij new (drops z) = record { writes = refl; reads = refl; phase = p; reports = refl; each = λ i k is u. inl (p, u) }
    keep_facts X p v j x e Q ij new (keeps i z) = record {
      writes = refl;
      reads = refl;
      phase = p;
      reports = refl;
      each = λ m k is u. ⊎_elim
          (λ w. inr (subst (λ y. N m (message me s.reads (value_is y.stamp y.entry))) (sym w.1)
          (subst (λ y. N y (message me s.reads (value_is x e))) (sym w.0) new)))
          (λ w. inl (p, w))
          (CV.row_kept g M s X.within.rows a X.room j (ij.0, omega (arith, few, ij.1)) x e Q i (CV.goes (row_of s j) x i z) m is.0 k u);
    }

  acking_is : (p : Phase) → CS.acking p ≡ true → p ≡ F.Acking
  acking_is F.Idle e = impossible (cc)
  acking_is F.Asking e = impossible (cc)
  acking_is F.Acking e = refl
  acking_is F.Reading e = impossible (cc)

  reading_is : (p : Phase) → CS.reading p ≡ true → p ≡ F.Reading
  reading_is F.Idle e = impossible (cc)
  reading_is F.Asking e = impossible (cc)
  reading_is F.Acking e = impossible (cc)
  reading_is F.Reading e = refl

  -- a frame of server j with the message m
  abbrev pub Brought : ℕ → Message → ℕ → Message → Type 0
  Brought j m i m' = (j ≡ i) × (m ≡ m')

  -- what each kind's test has shown: the phase, and that the frame is of the open operation
  ack_open : (s : Client) (j q : ℕ) → CT.order_test H g me s j q ack ≡ fine → (s.phase ≡ F.Acking) × (q ≡ s.writes)
  unfolding CT.order_test
  ack_open s j q o =
      let w = and_split (CS.acking s.phase) _ (awaited_true H g me _ o) in
      (acking_is s.phase w.0, eqb-true q s.writes (and_split (eqb q s.writes) _ w.1).0)

  stamp_open : (s : Client) (j q T : ℕ) → CT.order_test H g me s j q (stamp_is T) ≡ fine → (s.phase ≡ F.Asking) × (q ≡ s.writes)
  unfolding CT.order_test
  stamp_open s j q T o =
      let w = and_split (CS.asking s.phase) _ (awaited_true H g me _ o) in
      (asking_is s.phase w.0, eqb-true q s.writes (and_split (eqb q s.writes) _ w.1).0)

  value_open : (s : Client) (j q : ℕ) (x : Stamp) (e : Entry) → CT.order_test H g me s j q (value_is x e) ≡ fine → (s.phase ≡ F.Reading) × (q ≡ s.reads)
  unfolding CT.order_test
  value_open s j q x e o =
      let w = and_split (CS.reading s.phase) _ (awaited_true H g me _ (fine_both _ _ o).0) in
      (reading_is s.phase w.0, eqb-true q s.reads (and_split (eqb q s.reads) _ w.1).0)

  -- whose operation it is
  ack_owner : (d : ℕ) → CT.owner_right me d ack ≡ true → d ≡ me
  unfolding CT.owner_right
  ack_owner d e = eqb-true d me e

  stamp_owner : (d T : ℕ) → CT.owner_right me d (stamp_is T) ≡ true → d ≡ me
  unfolding CT.owner_right
  stamp_owner d T e = eqb-true d me e

  value_owner : (d : ℕ) (x : Stamp) (e : Entry) → CT.owner_right me d (value_is x e) ≡ true → d ≡ me
  unfolding CT.owner_right
  value_owner d x e h = eqb-true d me h

  module _ (s : Client) (a v : List ℕ) (X : ClientShape s a) (j d q : ℕ) (ij : Among g.n j) where
    abbrev Of : Body → C.Effect → Type 0
    Of b r = ClientFacts s a (Brought j (message d q b)) r.client r.area r.sends r.event

    -- the law of a step keeps the shape
    shape_after : {b : Body} {r : C.Effect} → Shape H g me s a v j b r → ClientShape r.client r.area
    shape_after {b} {r} h = record {
      within = step_within CV.shapes H g me s a v j X.within h (record {
        empty = refl;
        flag = λ l e. length-set l j true ∙ e;
        time = λ T i l e. length-set l j T ∙ e;
        told = λ T i l e. length-set l j (max (get_or l j 0) T) ∙ e;
        row = λ x e i m l S. row_shaped l S j (omega (arith, few, ij.1)) m x;
      });
      room = rw (shape_length H g me s a v j h) X.room;
    }

    -- the frame is this client's, of this operation
    its : {d' q' : ℕ} (b : Body) → d ≡ d' → q ≡ q' → Brought j (message d q b) j (message d' q' b)
    its b e f = (refl, λ i. message (e i) (f i) b)

    learned : {b : Body} {s' : Client} → CT.owner_right me d b ≡ true → CT.order_test H g me s j q b ≡ fine → Learns H g me s a v j b s'
        → Learned s a (Brought j (message d q b)) s'
    learned w o (replies T) =
        let (p, e) = stamp_open s j q T o in
        stamp_learned s a _ X v p j T ij (its (stamp_is T) (stamp_owner d T w) e)
    learned w o (reports T p) = report_learned s a _ X (asking_is s.phase p) j T d q ij (its (report T) refl refl)

    shape_facts : {b : Body} {r : C.Effect} → FormedBody g b → CT.owner_right me d b ≡ true → CT.order_test H g me s j q b ≡ fine
        → Shape H g me s a v j b r → Of b r
    shape_facts f w o (idle b) = quiet_facts s a _ X
    shape_facts f w o (notes T p) = note_facts s a _ X j T d q ij (its (report T) refl refl) (shape_after (notes T p))
    shape_facts f w o (hears b k z) = hear_facts s a _ _ (learned w o k) v j (shape_after (hears b k z))
    shape_facts f w o (disperses b k z l) = send_facts s a _ _ (learned w o k) v j (shape_after (disperses b k z l)) z
    shape_facts f w o (shuts b k z l) = shut_facts s a _ _ (learned w o k) v j (shape_after (shuts b k z l))
    shape_facts f w o (counts z) =
        let (p, e) = ack_open s j q o in
        count_facts s a _ X p j ij (its ack (ack_owner d w) e) (shape_after (counts z))
    shape_facts f w o (ends z) =
        let (p, e) = ack_open s j q o in
        end_facts s a _ X p j ij (its ack (ack_owner d w) e) (shape_after (ends z)) z
    shape_facts f w o (waits x e k z) =
        let (p, h) = value_open s j q x e o in
        let K = keep_facts s a (Brought j (message d q (value_is x e))) X p v j x e f.0 ij (its (value_is x e) (value_owner d x e w) h) k in
        wait_facts s a (Brought j (message d q (value_is x e))) _ _ K.writes K.reads K.phase K.reports K.each (shape_after (waits x e k z))
    shape_facts f w o (completes x e k y z) =
        let (p, h) = value_open s j q x e o in
        let K = keep_facts s a (Brought j (message d q (value_is x e))) X p v j x e f.0 ij (its (value_is x e) (value_owner d x e w) h) k in
        complete_facts s a (Brought j (message d q (value_is x e))) _ _ K.writes K.reads K.phase K.reports K.each
        (shape_after (completes x e k y z)) y z

  pub effect_facts : (s : Client) (a v : List ℕ) → ClientShape s a → (j d q : ℕ) (b : Body) → Among g.n j → FormedBody g b
      → CT.owner_right me d b ≡ true → CT.order_test H g me s j q b ≡ fine
      → ClientFacts s a (Brought j (message d q b)) (C.effect H g me s a v (A.Server j) (message d q b)).client
      (C.effect H g me s a v (A.Server j) (message d q b)).area
      (C.effect H g me s a v (A.Server j) (message d q b)).sends (C.effect H g me s a v (A.Server j) (message d q b)).event
  effect_facts s a v X j d q b ij f w o = shape_facts s a v X j d q ij f w o (shape_of H g me s a v (A.Server j) (message d q b))

  -- ---- beginnings

  abbrev pub Nought : ℕ → Message → Type 0
  Nought i m = ⊥

  pub read_facts : (s : Client) (a : List ℕ) → ClientShape s a → (out to : List ℕ)
      → ClientFacts s a Nought (CB.read_begun g me s out to).client a (CB.read_begun g me s out to).sends (CB.read_begun g me s out to).event
  unfolding CB.read_begun CB.open_read CB.begin_by
  read_facts s a X out to = go (CB.read_test g me s out to)
    where
      go : (y : Verdict)
          → ClientFacts s a Nought (CB.begin_by g me y s (CB.open_read g me s)).client a (CB.begin_by g me y s (CB.open_read g me s)).sends
          (CB.begin_by g me y s (CB.open_read g me s)).event
      go (Err r) = quiet_facts s a _ X
      go (Ok _) = record {
        client_shape = record { within = read_within CV.shapes shapes_empty g me s X.within tt; room = X.room };
        writes_up = omega arith;
        reads_up = omega arith;
        t_kept = λ i T' is q z. impossible (cc);
        a_kept = λ i is q z. impossible (cc);
        v_kept = λ i k is q z. absurd (no_rows g _ a i k refl z);
        t_sent = λ b d q o u. impossible (cc (body_all s a Nought _ b _ u).1);
        t_vouched = λ b d q o u. impossible (cc (body_all s a Nought _ b _ u).1);
        report_kept = λ i is. inl refl;
        report_up = λ i is. omega arith;
        g_sent = λ b d q u. impossible (cc (body_all s a Nought _ b _ u).1);
        r_sent = λ b d q u. let w = (body_all s a Nought (λ j. message me (s.reads + 1) ask_read) b _ u).2 in omega (arith, w);
        write_why = λ z. impossible (cc);
        read_why = λ v z. impossible (cc);
      }

  no_time : (i T : ℕ) → kept (get_or (replicate 11 false) i false) (get_or (replicate 11 0) i 0) ≡ some T → ⊥
  no_time i T e = let w = kept_some (get_or (replicate 11 false) i false) (get_or (replicate 11 0) i 0) T e in impossible (cc (no_flag 11 i, w.0))

  pub write_facts : (s : Client) (a : List ℕ) → ClientShape s a → (v out to : List ℕ)
      → ClientFacts s a Nought (CB.write_begun g me s v out to).client a (CB.write_begun g me s v out to).sends (CB.write_begun g me s v out to).event
  unfolding CB.write_begun CB.open_write CB.begin_by
  write_facts s a X v out to = go (CB.write_test g me s v out to)
    where
      go : (y : Verdict)
          → ClientFacts s a Nought (CB.begin_by g me y s (CB.open_write g me s)).client a (CB.begin_by g me y s (CB.open_write g me s)).sends
          (CB.begin_by g me y s (CB.open_write g me s)).event
      go (Err r) = quiet_facts s a _ X
      go (Ok _) = record {
        client_shape = record { within = write_within CV.shapes shapes_empty g me s X.within tt; room = X.room };
        writes_up = omega arith;
        reads_up = omega arith;
        t_kept = λ i T' is q z. absurd (no_time i T' z);
        a_kept = λ i is q z. impossible (cc);
        v_kept = λ i k is q z. impossible (cc);
        t_sent = λ b d q o u. impossible (cc (body_all s a Nought _ b _ u).1);
        t_vouched = λ b d q o u. impossible (cc (body_all s a Nought _ b _ u).1);
        report_kept = λ i is. inl refl;
        report_up = λ i is. omega arith;
        g_sent = λ b d q u. let w = (body_all s a Nought (λ j. message me (s.writes + 1) get_stamp) b _ u).2 in omega (arith, w);
        r_sent = λ b d q u. impossible (cc (body_all s a Nought _ b _ u).1);
        write_why = λ z. impossible (cc);
        read_why = λ v z. impossible (cc);
      }
