-- Acceptance, stage by stage: the values to listeners, and the whole. Assumes nothing.
use Prim.Native.Nat.{ℕ, zero, suc, ◌+◌, ◌-◌, ◌≤◌, ◌<◌}
use native.Mathlib.Omega.{arith}
use native.Mathlib.Numerals.{add-one}
use mathlib.Core.Path.{◌≡◌, refl, ap, ap₂, sym, ◌∙◌}
use mathlib.Core.Bool.{Bool, true, false, ◌&&◌, ◌||◌}
use mathlib.Core.Option.{Option, none, some}
use mathlib.Core.List.{List, [], ◌∷◌, ◌++◌}
use lib.ListN.{get_or, set}
use lib.Seq.{set-get_or}
use lib.Dec.{leb, ltb}
use borrow.Author.Tests.{lt-ltb, le-ltb, lt-leb, le-leb, ltb-true, leb-true}
use Rattle.area.specs.Area.{pick}
use Rattle.area.proofs.Tests.{and_left, and_right, and_false}
use Rattle.blocks.specs.declared.Params.{Params}
use Rattle.frame.specs.declared.Party.TheVariants as P
use Rattle.frame.specs.declared.Stamp.{Stamp}
use Rattle.frame.specs.Stamps.{older, last_time, last_sequence}
use Rattle.frame.specs.Messages.{Entry, entry, offer, message, Sending, sending, value_is, ack, report, to_all, to_clients}
use Rattle.frame.specs.Outbox.{Outbox, sent}
use Rattle.frame.specs.Chunks.{entry_at, store_if, present_at, complete_at}
use Rattle.frame.proofs.Outbox.{sent_append, sent_none}
use Rattle.server_rules.specs.declared.Reader.{Reader}
use Rattle.server_rules.specs.declared.Scope.{Scope}
use Rattle.server_rules.specs.declared.Slot.{Slot}
use Rattle.server_rules.specs.declared.Server.{Server}
use Rattle.server_rules.specs.Broadcast.{kept}
use Rattle.group_rules.specs.Vouching.{backed}
use Rattle.server_rules.specs.State.{no_reader, reader_at, fresh_slot, slot_of, report_of, block_view}
use Rattle.server_rules.specs.Scopes.{scope_of, with_scope}
use Rattle.server_rules.specs.Steps.{Write, stamp_of, tell_from, reported, accept, vouched, ripe_by, ripe, or_else, lowest}
use Rattle.server.specs.Stages.{Holds, progress, moved}
use Rattle.server_accept.specs.Telling.{told_to, opens_in, ripe_at, may_accept, lowest_from, write_in}

-- ---- values to listeners

pick_first : {A : Type 0} (b : Bool) (y : A) (l : List A) → pick b (y ∷ l) l ≡ pick b (y ∷ []) [] ++ l
unfolding pick
pick_first true y l = refl
pick_first false y l = refl

told_first : (s : List Reader) (x : Stamp) (e : Entry) (c m : ℕ) → tell_from s x e c (suc m) ≡ told_to (reader_at s c) c x e ++ tell_from s x e (suc c) m
unfolding tell_from told_to
told_first s x e c m = pick_first ((reader_at s c).listening && older (reader_at s c).noted x) _ (tell_from s x e (suc c) m)

-- client c was told; what is left to tell gives the same in the end
pub tell_turn : (s : List Reader) (x : Stamp) (e : Entry) (c : ℕ) (r : Reader) (q q' z : Outbox) → c < 9 → r ≡ reader_at s c → q' ≡ sent q (told_to r c x e)
    → sent q (tell_from s x e c (9 - c)) ≡ z → sent q' (tell_from s x e (c + 1) (9 - (c + 1))) ≡ z
tell_turn s x e c r q q' z h k f i =
    let m : 9 - c ≡ suc (9 - (c + 1)) = omega arith in
    let l : tell_from s x e c (9 - c) ≡ told_to r c x e ++ tell_from s x e (c + 1) (9 - (c + 1)) =
    ap (tell_from s x e c) m ∙ told_first s x e c (9 - (c + 1)) ∙ rw (k, add-one c) in
    ap (λ (y : Outbox). sent y (tell_from s x e (c + 1) (9 - (c + 1)))) f
    ∙ sent_append q (told_to r c x e) (tell_from s x e (c + 1) (9 - (c + 1)))
    ∙ ap (sent q) (sym l)
    ∙ i

pub tell_end : (s : List Reader) (x : Stamp) (e : Entry) (c : ℕ) (q z : Outbox) → c ≡ 9 → sent q (tell_from s x e c (9 - c)) ≡ z → q ≡ z
unfolding tell_from
tell_end s x e c q z h i = sym (sent_none q) ∙ sym (ap (λ (k : ℕ). sent q (tell_from s x e k (9 - k))) h) ∙ i

picked_none : (q : Outbox) (y : List Sending) → sent q (pick false y []) ≡ sent q []
unfolding pick
picked_none q y = refl

picked_all : (q : Outbox) (y : List Sending) → sent q (pick true y []) ≡ sent q y
unfolding pick
picked_all q y = refl

-- what is due is sent
pub all_due : (b : Bool) (q q' : Outbox) (y : List Sending) → b ≡ true → q' ≡ sent q y → q' ≡ sent q (pick b y [])
unfolding pick
all_due b q q' y e f = f ∙ sym (ap (λ (z : Bool). sent q (pick z y [])) e)

pub none_due : (b : Bool) (q : Outbox) (y : List Sending) → b ≡ false → q ≡ sent q (pick b y [])
unfolding pick
none_due b q y e = sym (sent_none q) ∙ sym (ap (λ (z : Bool). sent q (pick z y [])) e)

-- one listener
told_none : (r : Reader) (c : ℕ) (x : Stamp) (e : Entry) (q : Outbox) → r.listening && older r.noted x ≡ false → q ≡ sent q (told_to r c x e)
unfolding told_to
told_none r c x e q h =
    let y = sending (P.Client c) (message c r.sequence (value_is x e)) ∷ [] in
    sym (sent_none q) ∙ sym (ap (λ (b : Bool). sent q (pick b y [])) h ∙ picked_none q y)

pub told_silent : (r : Reader) (c : ℕ) (x : Stamp) (e : Entry) (q : Outbox) → r.listening ≡ false → q ≡ sent q (told_to r c x e)
told_silent r c x e q h = told_none r c x e q (ap (λ (b : Bool). b && older r.noted x) h)

pub told_late : (r : Reader) (c : ℕ) (x : Stamp) (e : Entry) (q : Outbox) (o : Bool) → r.listening ≡ true → o ≡ older r.noted x → o ≡ false
    → q ≡ sent q (told_to r c x e)
told_late r c x e q o h k l = told_none r c x e q (ap (λ (b : Bool). b && older r.noted x) h ∙ sym k ∙ l)

pub told_due : (r : Reader) (c : ℕ) (x : Stamp) (e : Entry) (q q' : Outbox) (o : Bool) → r.listening ≡ true → o ≡ older r.noted x → o ≡ true
    → q' ≡ sent q (sending (P.Client c) (message c r.sequence (value_is x e)) ∷ []) → q' ≡ sent q (told_to r c x e)
unfolding told_to
told_due r c x e q q' o h k l f =
    let y = sending (P.Client c) (message c r.sequence (value_is x e)) ∷ [] in
    let b : r.listening && older r.noted x ≡ true = ap (λ (b : Bool). b && older r.noted x) h ∙ sym k ∙ l in
    f ∙ sym (ap (λ (b : Bool). sent q (pick b y [])) b ∙ picked_all q y)

-- ---- the whole

-- the server of which the scope s was left open for the next write
opened_next : (w : Server) (c : ℕ) (s z : Scope) (rs : List Reader) (newer : Bool) (g : Params) (a : List ℕ) → Holds w c s rs
    → newer ≡ older s.stamp (stamp_of (write_in g s c a)) → z ≡ opens_in s newer (stamp_of (write_in g s c a))
    → with_scope w c z ≡ (accept g w a (write_in g s c a)).server
unfolding accept opens_in
opened_next w c s z rs newer g a k h e =
    let x = stamp_of (write_in g s c a) in
    let i = k.scope in
    ap (with_scope w c) e
    ∙ (λ l. record {
      stamp = pick (h l) x (i l).stamp;
      slots = set w.slots c (fresh_slot (s.slot.sequence + 1));
      readers = set w.readers c (i l).reader;
      reports = w.reports;
    })
    ∙ (λ l. record {
      stamp = pick (older (i l).stamp x) x w.stamp;
      slots = set w.slots c (fresh_slot (s.slot.sequence + 1));
      readers = set-get_or w.readers c no_reader l;
      reports = w.reports;
    })

-- the reports of a time, after a client's write
abbrev pub raises : Params → ℕ → ℕ → ℕ → List Sending
raises g c q T = let m = message c q (report T) in to_all g (λ j. m) ++ to_clients m

-- the values, the ack, the reports, the present entry and the scope; d and b are the two parts of the entry
pub accepted : (g : Params) (w : Server) (c : ℕ) (s z : Scope) (rs : List Reader) (a a' d b : List ℕ) (newer : Bool) (q q₁ q₂ q₃ : Outbox)
    → Holds w c s rs
    → d ≡ (entry_at g a (complete_at c)).digests
    → b ≡ (entry_at g a (complete_at c)).block
    → newer ≡ older s.stamp (stamp_of (write_in g s c a))
    → q₁ ≡ sent q (tell_from rs (stamp_of (write_in g s c a)) (entry d b) 1 8)
    → q₂ ≡ sent q₁ (sending (P.Client c) (message c s.slot.sequence ack) ∷ [])
    → q₃ ≡ sent q₂ (pick (ltb s.stamp.time (s.slot.blocks.time + 1)) (raises g c s.slot.sequence (s.slot.blocks.time + 1)) [])
    → a' ≡ store_if newer a present_at (entry_at g a (complete_at c))
    → z ≡ opens_in s newer (stamp_of (write_in g s c a))
    → progress (with_scope w c z) a' q₃ ≡ moved (accept g w a (write_in g s c a)) q
unfolding moved accept reported
accepted g w c s z rs a a' d b newer q q₁ q₂ q₃ k i j h f n y₃ m e =
    let W = write_in g s c a in
    let A = sending (P.Client c) (message c s.slot.sequence ack) ∷ [] in
    let T = tell_from w.readers (stamp_of W) W.entry 1 8 in
    let r = k.readers in
    let t : sent q (tell_from rs (stamp_of W) (entry d b) 1 8) ≡ sent q T = λ l. sent q (tell_from (r l) (stamp_of W) (entry (i l) (j l)) 1 8) in
    let B : Bool → List Sending = λ b. pick b (raises g c s.slot.sequence (s.slot.blocks.time + 1)) [] in
    let R = B (ltb w.stamp.time (s.slot.blocks.time + 1)) in
    let o : q₃ ≡ sent q₂ R = y₃ ∙ ap (λ (y : Scope). sent q₂ (B (ltb y.stamp.time (s.slot.blocks.time + 1)))) k.scope in
    let v₂ : q₃ ≡ sent q₁ (A ++ R) = o ∙ ap (λ (y : Outbox). sent y R) n ∙ sent_append q₁ A R in
    let u : q₃ ≡ sent q (T ++ (A ++ R)) = v₂ ∙ ap (λ (y : Outbox). sent y (A ++ R)) (f ∙ t) ∙ sent_append q T (A ++ R) in
    let v : a' ≡ store_if (older w.stamp (stamp_of W)) a present_at W.entry =
    m ∙ ap (λ (y : Bool). store_if y a present_at W.entry) (h ∙ ap (λ (y : Scope). older y.stamp (stamp_of W)) k.scope) in
    let y = opened_next w c s z rs newer g a k h e in
    λ l. progress (y l) (v l) (u l)

-- ---- which write can be accepted

with_true : (b : Bool) → (b && true) ≡ b
with_true true = refl
with_true false = refl

-- the answers of the test
module _ (g : Params) (own : ℕ) (rs : List ℕ) (T q : ℕ) where
  pub last_time_lem : last_time ≤ T → false ≡ ripe_at g own rs T q
  unfolding ripe_at
  last_time_lem h = sym (and_false (leb T own || backed g (λ j. get_or rs j 0) T) _ (ap (λ b. b && leb q last_sequence) (le-ltb T last_time h)))

  pub no_sequence : last_sequence < q → false ≡ ripe_at g own rs T q
  unfolding ripe_at
  no_sequence h =
      sym (and_false (leb T own || backed g (λ j. get_or rs j 0) T) _ (and_false (ltb T last_time) (leb q last_sequence) (lt-leb q last_sequence h)))

  module _ (l : T < last_time) (h : q ≤ last_sequence) where
    fits : (ltb T last_time && leb q last_sequence) ≡ true
    fits = ap₂ (λ b d. b && d) (lt-ltb T last_time l) (le-leb q last_sequence h)

    pub own_reaches : T ≤ own → true ≡ ripe_at g own rs T q
    unfolding ripe_at
    own_reaches k = sym (ap₂ (λ b d. (b || backed g (λ j. get_or rs j 0) T) && d) (le-leb T own k) fits)

    pub is_vouched : own < T → (b : Bool) → b ≡ backed g (λ j. get_or rs j 0) T → b ≡ ripe_at g own rs T q
    unfolding ripe_at
    is_vouched k b e = e ∙ sym (ap₂ (λ x d. (x || backed g (λ j. get_or rs j 0) T) && d) (lt-leb T own k) fits ∙ with_true _)

-- what is asked of a write that can be accepted
pub may_within : (g : Params) (s : Server) (c : ℕ) → may_accept g s c ≡ true
    → ((slot_of s c).blocks.time < last_time) × ((slot_of s c).sequence ≤ last_sequence)
unfolding may_accept ripe_at
may_within g s c e =
    let x = slot_of s c in
    let a = and_right (leb x.blocks.time s.stamp.time || backed g (λ j. get_or s.reports j 0) x.blocks.time) _
    (and_right x.blocks.complete _ e) in
    (ltb-true _ _ (and_left _ (leb x.sequence last_sequence) a), leb-true _ _ (and_right (ltb x.blocks.time last_time) _ a))

module _ (g : Params) (s : Server) (a : List ℕ) where
  -- the write of client c
  abbrev pub write_of : ℕ → Write
  write_of c = write_in g (scope_of s c) c a

  ripe_is : (c : ℕ) → ripe g s a c ≡ pick (may_accept g s c) (some (write_of c)) none
  unfolding ripe ripe_by block_view may_accept ripe_at vouched pick
  ripe_is c = go (slot_of s c).blocks.complete
    where
      x : Slot
      x = slot_of s c

      v : Bool
      v =
          (leb x.blocks.time s.stamp.time || backed g (report_of s) x.blocks.time)
          && (ltb x.blocks.time last_time && leb x.sequence last_sequence)

      go : (b : Bool) → ripe_by g s c x.sequence (kept b (offer x.blocks.time (entry_at g a (complete_at c)))) ≡ pick (b && v) (some (write_of c)) none
      go true = refl
      go false = refl

  -- the write of the client that was found, and none of client 0
  abbrev pub found : ℕ → Option Write
  found zero = none
  found (suc c) = some (write_of (suc c))

  lowest_from_lem : (c m : ℕ) → 1 ≤ c → lowest g s a c m ≡ found (lowest_from g s c m)
  unfolding lowest lowest_from pick
  lowest_from_lem c zero h = refl
  lowest_from_lem (suc c) (suc m) h =
      ap (λ o. or_else o (lowest g s a (suc (suc c)) m)) (ripe_is (suc c)) ∙ go (may_accept g s (suc c)) (lowest_from_lem (suc (suc c)) m (omega arith))
    where
      go : (b : Bool) → lowest g s a (suc (suc c)) m ≡ found (lowest_from g s (suc (suc c)) m)
          → or_else (pick b (some (write_of (suc c))) none) (lowest g s a (suc (suc c)) m) ≡ found (pick b (suc c) (lowest_from g s (suc (suc c)) m))
      go true e = refl
      go false e = e
  lowest_from_lem zero (suc m) h = absurd (omega (arith, h))

  pub lowest_is : lowest g s a 1 8 ≡ found (lowest_from g s 1 8)
  lowest_is = lowest_from_lem 1 8 (omega arith)

-- a client that was found is one of them, and its write can be accepted
pub found_may : (g : Params) (s : Server) (c m : ℕ) → (lowest_from g s c m ≡ 0 → ⊥) → (c ≤ lowest_from g s c m) × (lowest_from g s c m < c + m)
    × (may_accept g s (lowest_from g s c m) ≡ true)
unfolding lowest_from pick
found_may g s c zero n = absurd (n refl)
found_may g s c (suc m) n = go (may_accept g s c) refl n (found_may g s (suc c) m)
  where
    go : (b : Bool) → may_accept g s c ≡ b → (pick b c (lowest_from g s (suc c) m) ≡ 0 → ⊥)
        → ((lowest_from g s (suc c) m ≡ 0 → ⊥) → (suc c ≤ lowest_from g s (suc c) m) × (lowest_from g s (suc c) m < suc c + m)
        × (may_accept g s (lowest_from g s (suc c) m) ≡ true))
        → (c ≤ pick b c (lowest_from g s (suc c) m)) × (pick b c (lowest_from g s (suc c) m) < c + suc m)
        × (may_accept g s (pick b c (lowest_from g s (suc c) m)) ≡ true)
    go true e n f = (omega arith, omega arith, e)
    go false e n f = let (l, h, q) = f n in (omega (arith, l), omega (arith, h), q)
