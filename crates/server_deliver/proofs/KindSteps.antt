-- The step of each kind is that of what the frame says. Assumes nothing.
use Rattle.std.specs.Prelude.{Err}
use Prim.Native.Nat.{ℕ, zero, suc, ◌+◌, ◌*◌, ◌-◌, ◌≤◌, ◌<◌}
use native.Mathlib.Omega.{arith}
use mathlib.Core.Path.{◌≡◌, refl, ap, sym, ◌∙◌}
use native.Mathlib.Decide.{dec_le, ℕ_discrete}
use mathlib.Core.Bool.{Bool, true, false}
use mathlib.Core.List.{List, [], ◌∷◌}
use lib.ListN.{length, get_or, set, take, drop}
use lib.Seq.{set-get_or}
use lib.Dec.{eqb, leb}
use borrow.Author.Tests.{lt-leb, le-leb, eqb-false, ne_eqb}
use Rattle.area.specs.Area.{pick}
use Rattle.area.specs.Responses.{turned_down}
use Rattle.quorum.proofs.Logic.{impossible}
use Rattle.area.specs.Numbers.{be8}
use Rattle.area.proofs.Sets.{length_part}
use Rattle.blocks.specs.declared.Params.{Params}
use Rattle.frame.specs.declared.Party.{Party}
use Rattle.frame.specs.declared.Party.TheVariants as P
use Rattle.frame.specs.declared.Refusal.TheVariants as R
use Rattle.frame.specs.Params.{Bounded, width, listed}
use Rattle.frame.specs.Messages.{entry, offer, send, echo, ready, Body, get_stamp, ack, ask_read, read_complete, stamp_is, block_is, value_is, report, message}
use Rattle.frame.specs.Messages.{sending, number_in, from_server}
use Rattle.frame.specs.Frames.{offer_at, body_at, retired, length_of, body_length, offer_in, body_in, message_in}
use Rattle.frame.proofs.Writing.{part_at}
use Rattle.frame.proofs.PartyLaws.{server_number}
use Rattle.server_rules.specs.declared.Server.{Server}
use Rattle.server_rules.specs.declared.Slot.{Slot}
use Rattle.server_rules.specs.declared.Reader.{Reader}
use Rattle.server_rules.specs.State.{no_slot, no_reader, slot_of, reader_of, with_slot, with_reader}
use Rattle.server_rules.specs.declared.Scope.{Scope}
use Rattle.server_rules.specs.Scopes.{scope_of}
use Rattle.server_rules.specs.Tests.{sender_right, order_test, message_test}
use Rattle.server_rules.specs.Steps.{send_only, freed, settle, on_read, on_read_complete, on_body, effect}
use Rattle.server_rules.specs.Delivery.{Outcome}
use Rattle.server.specs.declared.Call.{Call}
use Rattle.server.specs.Stages.{outcome_in, answered}
use Rattle.server.proofs.Scopes.{as_it_was}
use Rattle.server_blocks.specs.Stage.{Carried}
use Rattle.server_deliver.specs.Handed.{Asks, step_for}

-- ---- what a frame of a write (kinds 3 to 5) offers: a time, a digest list and a block

-- the length of such a frame
pub offer_frame : (g : Params) (kind l : ℕ) → 3 ≤ kind → kind ≤ 5 → l ≡ body_at + body_length g kind → l ≡ offer_at + (32 * g.n + width g)
unfolding body_length length_of pick
offer_frame g kind l h k e =
    let a : 1 < kind = omega arith in
    let b : 2 < kind = omega arith in
    let z : l ≡ 9 + (8 + (32 * g.n + width g)) = e ∙ rw (lt-leb _ _ a, lt-leb _ _ b, le-leb _ _ k) in
    omega (arith, z)

-- the parts of such a frame that the code lends: digest list and block
pub carried_in : (g : Params) (f : List ℕ) (w : ℕ) → w ≡ width g → length f ≡ offer_at + (32 * g.n + width g)
    → Carried g (length (take (offer_at + 32 * g.n - offer_at) (drop offer_at f)))
    (length (take (offer_at + 32 * g.n + w - (offer_at + 32 * g.n)) (drop (offer_at + 32 * g.n) f)))
carried_in g f w e l = record {
  list_is = ap length (part_at f offer_at (32 * g.n) (listed g) refl) ∙ length_part f offer_at (listed g) (omega (arith, l));
  block_is_lem = ap length (part_at f (offer_at + 32 * g.n) w (width g) e) ∙ length_part f (offer_at + 32 * g.n) (width g) (omega (arith, l));
}

pub offer_is : (g : Params) (f : List ℕ) (T w : ℕ) → T ≡ be8 f body_at → w ≡ width g
    → offer T (entry (take (offer_at + 32 * g.n - offer_at) (drop offer_at f))
    (take (offer_at + 32 * g.n + w - (offer_at + 32 * g.n)) (drop (offer_at + 32 * g.n) f))) ≡ offer_in g f
offer_is g f T w t e =
    let d = part_at f offer_at (32 * g.n) (listed g) refl in
    let b = part_at f (offer_at + 32 * g.n) w (width g) e in
    λ i. offer (t i) (entry (d i) (b i))

-- a kind up to 8 that is not retired
used_kind : (kind : ℕ) → retired kind ≡ false → kind ≤ 8 → kind ≤ 5
unfolding retired
used_kind kind r h = go (dec_le kind 5)
  where
    go : Dec (kind ≤ 5) → kind ≤ 5
    go (yes k) = k
    go (no k) =
        let a : leb 6 kind ≡ true = le-leb 6 kind (omega (arith, k)) in
        let b : leb kind 8 ≡ true = le-leb kind 8 h in
        impossible (cc (a, b, r))

-- a kind above it is above it by one
above : (kind m : ℕ) → m ≤ kind → (kind ≡ m → ⊥) → suc m ≤ kind
above kind m l n = omega (arith, l, n)

past_retired : (kind : ℕ) → retired kind ≡ false → 6 ≤ kind → 9 ≤ kind
past_retired kind r l = go (dec_le kind 8)
  where
    go : Dec (kind ≤ 8) → 9 ≤ kind
    go (yes h) = absurd (omega (arith, l, used_kind kind r h))
    go (no h) = omega (arith, h)

-- ---- the steps

module _ (H : List ℕ → List ℕ) (k : Call) (s : Server) (a initial f out to : List ℕ) (o : Outcome) where
  abbrev c : ℕ
  c = k.header.client

  abbrev i : ℕ
  i = k.header.sequence

  -- the outcome of a frame with the body b
  abbrev of : Body → Outcome
  of b =
      answered (message_test H k.params k.me s k.from (message c i b)) s a
      (effect H k.params k.me s a initial k.from (message c i b)) out to

  -- the frame says b
  pub says : (b : Body) → body_in k.params k.header.kind f ≡ b → o ≡ of b → o ≡ step_for H k s a initial f out to
  unfolding step_for message_in
  says b m p = p ∙ ap of (sym m)

  at : (n : ℕ) (b : Body) → k.header.kind ≡ n → body_in k.params n f ≡ b → body_in k.params k.header.kind f ≡ b
  at n b e m = ap (λ (z : ℕ). body_in k.params z f) e ∙ m

  pub is_get_stamp : k.header.kind ≡ 1
      → o ≡ answered (message_test H k.params 0 s k.from (message c i get_stamp)) s a
      (send_only s a (sending (P.Client c) (message c i (stamp_is s.stamp.time)) ∷ [])) out to
      → o ≡ step_for H k s a initial f out to
  unfolding body_in pick message_test sender_right order_test effect on_body
  is_get_stamp e p = says get_stamp (at 1 get_stamp e refl) p

  pub is_read : k.header.kind ≡ 10
      → o ≡ answered (message_test H k.params 0 s k.from (message c i ask_read)) s a (on_read H k.params 0 s a initial c i) out to
      → o ≡ step_for H k s a initial f out to
  unfolding body_in pick message_test sender_right order_test effect on_body on_read
  is_read e p = says ask_read (at 10 ask_read e refl) p

  pub is_read_complete : k.header.kind ≡ 12
      → o ≡ answered (message_test H k.params 0 s k.from (message c i read_complete)) s a (on_read_complete H k.params 0 s a c i) out to
      → o ≡ step_for H k s a initial f out to
  unfolding body_in pick message_test sender_right order_test effect on_body on_read_complete
  is_read_complete e p = says read_complete (at 12 read_complete e refl) p

-- kinds 2, 9 and 11 do not go to servers: refusal 11
module _ (H : List ℕ → List ℕ) (k : Call) (s : Server) (a initial f out to : List ℕ) where
  abbrev Refuses : Type 0
  Refuses = outcome_in s k.header.client (Err R.Sender) a out to ≡ step_for H k s a initial f out to

  none_sends : (n : ℕ) (b : Body) → k.header.kind ≡ n → body_in k.params n f ≡ b → sender_right k.params k.from k.header.client b ≡ false → Refuses
  unfolding message_test answered pick
  none_sends n b e m r =
      says H k s a initial f out to _ b (ap (λ (z : ℕ). body_in k.params z f) e ∙ m) (rw r)

  is_stamp : k.header.kind ≡ 2 → Refuses
  unfolding body_in pick sender_right
  is_stamp e = none_sends 2 _ e refl refl

  is_ack : k.header.kind ≡ 9 → Refuses
  unfolding body_in pick sender_right
  is_ack e = none_sends 9 _ e refl refl

  is_value : k.header.kind ≡ 11 → Refuses
  unfolding body_in pick sender_right
  is_value e = none_sends 11 _ e refl refl

  -- the kinds that are left
  pub to_client_lem : 1 ≤ k.header.kind → k.header.kind ≤ 13 → retired k.header.kind ≡ false → (k.header.kind ≡ 1 → ⊥) → (k.header.kind ≡ 10 → ⊥)
      → (k.header.kind ≡ 12 → ⊥) → (k.header.kind ≡ 3 → ⊥) → Asks k → Refuses
  to_client_lem l h r n₁ n₁₀ n₁₂ n₃ A = two (ℕ_discrete n 2)
    where
      n : ℕ
      n = k.header.kind

      eleven : 9 ≤ n → (n ≡ 9 → ⊥) → Dec (n ≡ 11) → Refuses
      eleven u v (yes e) = is_value e
      eleven u v (no e) =
          absurd (omega (arith, h, above n 13 (above n 12 (above n 11 (above n 10 (above n 9 u v) n₁₀) e) n₁₂) A.no_report))

      nine : 9 ≤ n → Dec (n ≡ 9) → Refuses
      nine u (yes e) = is_ack e
      nine u (no e) = eleven u e (ℕ_discrete n 11)

      two : Dec (n ≡ 2) → Refuses
      two (yes e) = is_stamp e
      two (no e) = nine (past_retired n r (above n 5 (above n 4 (above n 3 (above n 2 (above n 1 l n₁) e) n₃) A.no_echo) A.no_ready)) (ℕ_discrete n 9)

-- ---- frames after which nothing can be accepted

abbrev Quiet : Body → Type 0
Quiet get_stamp = Unit {0}
Quiet ack = Unit {0}
Quiet ask_read = Unit {0}
Quiet read_complete = Unit {0}
Quiet (stamp_is T) = Unit {0}
Quiet (block_is send o) = Unit {0}
Quiet (block_is echo o) = ⊥
Quiet (block_is ready o) = ⊥
Quiet (value_is x e) = Unit {0}
Quiet (report T) = ⊥

none_accepted : (H : List ℕ → List ℕ) (g : Params) (me : ℕ) (s : Server) (a initial : List ℕ) (j c q : ℕ) (b : Body) → Quiet b
    → (on_body H g me s a initial j c q b).accepted ≡ []
unfolding on_body on_read on_read_complete settle freed
none_accepted H g me s a initial j c q get_stamp h = refl
none_accepted H g me s a initial j c q ack h = refl
none_accepted H g me s a initial j c q ask_read h = refl
none_accepted H g me s a initial j c q read_complete h = refl
none_accepted H g me s a initial j c q (stamp_is T) h = refl
none_accepted H g me s a initial j c q (block_is send o) h = refl
none_accepted H g me s a initial j c q (block_is echo o) h = absurd h
none_accepted H g me s a initial j c q (block_is ready o) h = absurd h
none_accepted H g me s a initial j c q (value_is x e) h = refl
none_accepted H g me s a initial j c q (report T) h = absurd h

-- of the arrays, s' differs from s at client c alone; the stamp and the reports are as they were
pub record Only (c : ℕ) (s s' : Server) : Type 0 where
  pub stamp_is_lem : s'.stamp ≡ s.stamp
  pub slots_are : s'.slots ≡ set s.slots c (slot_of s' c)
  pub readers_are : s'.readers ≡ set s.readers c (reader_of s' c)
  pub reports_are : s'.reports ≡ s.reports

-- what was stored is what is found there, also past the end
found : {A : Type 0} (l : List A) (c : ℕ) (x d : A) → set l c x ≡ set l c (get_or (set l c x) c d)
found [] c x d = refl
found (y ∷ l) zero x d = refl
found (y ∷ l) (suc c) x d = ap (λ t. y ∷ t) (found l c x d)

module _ (s : Server) (c : ℕ) where
  none_changed : Only c s s
  none_changed = record {
    stamp_is_lem = refl;
    slots_are = sym (set-get_or s.slots c no_slot);
    readers_are = sym (set-get_or s.readers c no_reader);
    reports_are = refl;
  }

  slot_changed : (x : Slot) → Only c s (with_slot s c x)
  slot_changed x = record {
    stamp_is_lem = refl;
    slots_are = found s.slots c x no_slot;
    readers_are = sym (set-get_or s.readers c no_reader);
    reports_are = refl;
  }

  reader_changed : (x : Reader) → Only c s (with_reader s c x)
  reader_changed x = record {
    stamp_is_lem = refl;
    slots_are = sym (set-get_or s.slots c no_slot);
    readers_are = found s.readers c x no_reader;
    reports_are = refl;
  }

one_client : (H : List ℕ → List ℕ) (g : Params) (me : ℕ) (s : Server) (a initial : List ℕ) (j c q : ℕ) (b : Body) → Quiet b
    → Only c s (on_body H g me s a initial j c q b).server
unfolding on_body on_read on_read_complete settle freed
one_client H g me s a initial j c q get_stamp h = none_changed s c
one_client H g me s a initial j c q ack h = none_changed s c
one_client H g me s a initial j c q ask_read h = reader_changed s c _
one_client H g me s a initial j c q read_complete h = reader_changed s c _
one_client H g me s a initial j c q (stamp_is T) h = none_changed s c
one_client H g me s a initial j c q (block_is send o) h = slot_changed s c _
one_client H g me s a initial j c q (block_is echo o) h = absurd h
one_client H g me s a initial j c q (block_is ready o) h = absurd h
one_client H g me s a initial j c q (value_is x e) h = none_changed s c
one_client H g me s a initial j c q (report T) h = absurd h

module _ (kind : ℕ) where
  one : (n : ℕ) (b y : Body) → Quiet b → ((kind ≡ n → ⊥) → Quiet y) → Quiet (pick (eqb kind n) b y)
  unfolding pick
  one n b y h f = go (eqb kind n) refl
    where
      go : (t : Bool) → eqb kind n ≡ t → Quiet (pick t b y)
      go true e = h
      go false e = f (eqb-false kind n e)

  not_one : (n : ℕ) (b y : Body) → (kind ≡ n → ⊥) → Quiet y → Quiet (pick (eqb kind n) b y)
  unfolding pick
  not_one n b y h q = rw (ne_eqb kind n h) q

  quiet_body : (g : Params) (f : List ℕ) → 1 ≤ kind → kind ≤ 13 → retired kind ≡ false → (kind ≡ 4 → ⊥) → (kind ≡ 5 → ⊥) → (kind ≡ 13 → ⊥)
      → Quiet (body_in g kind f)
  unfolding body_in
  quiet_body g f l h r n₄ n₅ n₁₃ =
      one 1 _ _ tt (λ n₁. one 2 _ _ tt (λ n₂. one 3 _ _ tt (λ n₃. not_one 4 _ _ n₄ (not_one 5 _ _ n₅
      (one 9 _ _ tt (λ n₉. one 10 _ _ tt (λ n₁₀. one 11 _ _ tt (λ n₁₁. one 12 _ _ tt (λ n₁₂.
      let u = past_retired kind r (above kind 5 (above kind 4 (above kind 3 (above kind 2 (above kind 1 l n₁) n₂) n₃) n₄) n₅) in
      absurd (omega (arith, h, above kind 13 (above kind 12 (above kind 11 (above kind 10 (above kind 9 u n₉) n₁₀) n₁₁) n₁₂) n₁₃)))))))))))

-- the frame k accepts nothing
pub accepts_none : (H : List ℕ → List ℕ) (k : Call) (s : Server) (a initial f : List ℕ) → 1 ≤ k.header.kind → k.header.kind ≤ 13
    → retired k.header.kind ≡ false → Asks k
    → (effect H k.params k.me s a initial k.from (message_in k.params k.header f)).accepted ≡ []
unfolding effect message_in
accepts_none H k s a initial f l h r A =
    none_accepted H k.params k.me s a initial _ _ _ _ (quiet_body k.header.kind k.params f l h r A.no_echo A.no_ready A.no_report)

-- and it changes one client's parts alone
pub changes_one : (H : List ℕ → List ℕ) (k : Call) (s : Server) (a initial f : List ℕ) → 1 ≤ k.header.kind → k.header.kind ≤ 13
    → retired k.header.kind ≡ false → Asks k
    → Only k.header.client s (effect H k.params k.me s a initial k.from (message_in k.params k.header f)).server
unfolding effect message_in
changes_one H k s a initial f l h r A =
    one_client H k.params k.me s a initial _ _ _ _ (quiet_body k.header.kind k.params f l h r A.no_echo A.no_ready A.no_report)

-- ---- a report

-- the length of its frame
pub report_frame : (g : Params) (kind l : ℕ) → kind ≡ 13 → l ≡ body_at + body_length g kind → l ≡ body_at + 8
unfolding body_length length_of pick
report_frame g kind l e h = h ∙ ap (λ (n : ℕ). body_at + body_length g n) e

-- the number of its sender
pub report_place : (g : Params) (from : Party) (b : Bool) (i : ℕ) → Bounded g → b ≡ from_server g from → b ≡ true → i ≡ number_in from → i ≤ 10
report_place g from b i B e h k = let n = server_number g from (sym e ∙ h) in omega (arith, n.1, B.servers_high, k)
