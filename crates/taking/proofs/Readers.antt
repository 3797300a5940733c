-- What a server does to its readers and tells them: a read is noted and answered with the present value, only its client ends it, and who listens is told of
-- every larger stamp. Assumes nothing.
use Rattle.frame.specs.Refusals.{fine}
use Prim.Native.Nat.{ℕ, zero, suc, ◌+◌, ◌≤◌, ◌<◌}
use native.Mathlib.Omega.{arith}
use native.Mathlib.Decide.{ℕ_discrete}
use mathlib.Core.Bool.{Bool, true, false}
use mathlib.Core.Path.{◌≡◌, refl, ap, sym, ◌∙◌, subst}
use mathlib.Core.Logic.{⊎_elim}
use mathlib.Core.List.Memᴰ
use mathlib.Core.List.{List, [], Memᴰ}
use lib.ListN.{get_or}
use lib.Seq.{get_or-set_same, get_or-set_other}
use borrow.Author.Tests.{leb-false, ltb-false}
use Rattle.quorum.specs.Quorum.{Among}
use Rattle.quorum.proofs.Logic.{impossible}
use Rattle.area.specs.Area.{pick}
use Rattle.blocks.specs.declared.Params.{Params}
use Rattle.frame.specs.declared.Party.{Party}
use Rattle.frame.specs.declared.Party.TheVariants as P
use Rattle.frame.specs.Stamps.{older}
use Rattle.frame.specs.Messages.{Offer, Stage, send, echo, ready, Body, get_stamp, ack, ask_read, read_complete, stamp_is}
use Rattle.frame.specs.Messages.{block_is, value_is, report, Message, message, Sending, sending, to_from, to_all, number_in}
use Rattle.frame.proofs.Verdicts.{fine_not}
use Rattle.server_rules.specs.declared.Reader.{Reader}
use Rattle.server_rules.specs.declared.Server.{Server}
use Rattle.server_rules.specs.State.{no_reader, reader_of, with_reader, with_report, present_entry}
use Rattle.server_rules.specs.Steps as S
use Rattle.server_rules.specs.Tests as ST
use Rattle.server_rules.proofs.Accepting.{tell_all, Says, ToAnyone}
use Rattle.server_rules.proofs.Accepting as Y
use Rattle.server_rules.proofs.Freeing.{freed_mem, freed_readers}
use Rattle.server_rules.proofs.Passing.{is_owner, test_split}
use Rattle.server_rules.proofs.Shapes.{Freed, free, freed, nothing, accepts, Counted, block, Shape, idle, answers, notes, ends, settles, hears, shape_of}
use Rattle.server_rules.proofs.Views.{shapes}
use Rattle.server_rules.specs.WellFormed.{Within}

-- ---- listeners are told

accept_tells : (g : Params) (s : Server) (a : List ℕ) (w : S.Write) (d : ℕ) → Among 8 d → (reader_of s d).listening ≡ true
    → older (reader_of s d).noted (S.stamp_of w) ≡ true
    → Memᴰ (sending (P.Client d) (message d (reader_of s d).sequence (value_is (S.stamp_of w) w.entry))) (S.accept g s a w).sends
unfolding S.accept
accept_tells g s a w d i u v = Memᴰ.append_left _ (tell_all s.readers (S.stamp_of w) w.entry 1 8 d i.0 (omega (arith, i.1)) u v)

freed_tells : (g : Params) (s : Server) {n : ℕ} {s₁ : Server} {a₁ : List ℕ} {f : S.Effect} → Freed g n s₁ a₁ f → s₁.readers ≡ s.readers
    → (w : S.Write) → Memᴰ w f.accepted → (d : ℕ) → Among 8 d → (reader_of s d).listening ≡ true → older (reader_of s d).noted (S.stamp_of w) ≡ true
    → Memᴰ (sending (P.Client d) (message d (reader_of s d).sequence (value_is (S.stamp_of w) w.entry))) f.sends
unfolding S.accept
freed_tells g s nothing e w v d i l o = absurd (Memᴰ.not-nil v)
freed_tells g s (accepts {s = s₁} {a = a₁} k j R {r} f) e w v d i l o =
    let n : reader_of s₁ d ≡ reader_of s d = ap (λ rs. get_or rs d no_reader) e in
    ⊎_elim
    (λ z. Memᴰ.append_left r.sends
    (subst (λ x. Memᴰ (sending (P.Client d) (message d x.sequence (value_is (S.stamp_of w) w.entry))) (S.accept g s₁ a₁ k).sends) n
    (subst (λ w. Memᴰ (sending (P.Client d) (message d (reader_of s₁ d).sequence (value_is (S.stamp_of w) w.entry))) (S.accept g s₁ a₁ k).sends) (sym z)
    (accept_tells g s₁ a₁ k d i (ap (λ x. x.listening) n ∙ l)
    (ap (λ x. older x.noted (S.stamp_of k)) n ∙ ap (λ w. older (reader_of s d).noted (S.stamp_of w)) (sym z) ∙ o)))))
    (λ u. Memᴰ.append_right (S.accept g s₁ a₁ k).sends (freed_tells g s f e w u d i l o))
    (Memᴰ.cases_cons v)

module _ (H : List ℕ → List ℕ) (g : Params) (me : ℕ) (s : Server) (a initial : List ℕ) (from : Party) (m : Message) where
  abbrev r : S.Effect
  r = S.effect H g me s a initial from m

  -- each listener with an older noted stamp is told of what is accepted
  pub tells : (w : S.Write) → Memᴰ w r.accepted → (d : ℕ) → Among 8 d → (reader_of s d).listening ≡ true
      → older (reader_of s d).noted (S.stamp_of w) ≡ true
      → Memᴰ (sending (P.Client d) (message d (reader_of s d).sequence (value_is (S.stamp_of w) w.entry))) r.sends
  tells w u d i l o = go (shape_of H g me s a initial from m) u
    where
      go : {x : Body} {f : S.Effect} → Shape H g me s a initial (number_in from) m.client m.sequence x f → Memᴰ w f.accepted
          → Memᴰ (sending (P.Client d) (message d (reader_of s d).sequence (value_is (S.stamp_of w) w.entry))) f.sends
      go (idle x) v = absurd (Memᴰ.not-nil v)
      go answers v = absurd (Memᴰ.not-nil v)
      go notes v = absurd (Memᴰ.not-nil v)
      go ends v = absurd (Memᴰ.not-nil v)
      go (settles x p k f) v = Memᴰ.append_right p.sends (freed_tells g s f refl w v d i l o)
      go (hears T f) v = freed_tells g s f refl w v d i l o

  -- ---- answers

  pub stamp_told : (c q : ℕ) → m ≡ message c q get_stamp → Memᴰ (sending (P.Client c) (message c q (stamp_is s.stamp.time))) r.sends
  unfolding S.effect S.on_body
  stamp_told c q e = rw e (Memᴰ.head refl)

  pub value_told : (c q : ℕ) → m ≡ message c q ask_read
      → Memᴰ (sending (P.Client c) (message c q (value_is s.stamp (present_entry g s.stamp a initial)))) r.sends
  unfolding S.effect S.on_body S.on_read
  value_told c q e = rw e (Memᴰ.head refl)

-- ---- readers

-- What the message m, of a step r, does to client d's reader: nothing, it is noted with the present stamp, or its client ends it.
pub data Note (s : Server) (from : Party) (m : Message) (r : S.Effect) (d : ℕ) : Type 0 where
  same : reader_of r.server d ≡ reader_of s d → ((q : ℕ) → m ≡ message d q ask_read → ⊥) → Note s from m r d
  noted : (q : ℕ) → m ≡ message d q ask_read → from ≡ P.Client d → (reader_of s d).sequence < q
      → reader_of r.server d ≡ record { sequence = q; listening = true; noted = s.stamp } → Note s from m r d
  ended : (q : ℕ) → m ≡ message d q read_complete → from ≡ P.Client d → (reader_of s d).sequence ≤ q
      → reader_of r.server d ≡ record { sequence = q; listening = false; noted = (reader_of s d).noted } → Note s from m r d

module _ (H : List ℕ → List ℕ) (g : Params) (me : ℕ) (s : Server) (W : Within shapes s) (a initial : List ℕ) (from : Party) (c q : ℕ) (is : Among 8 c) where
  read_passed : (x : Reader) → ST.read_test x q ≡ fine → x.sequence < q
  unfolding ST.read_test
  read_passed x e = leb-false q x.sequence (fine_not _ _ _ e).0

  done_passed : (x : Reader) → ST.done_test x q ≡ fine → x.sequence ≤ q
  unfolding ST.done_test
  done_passed x e = ltb-false q x.sequence (fine_not _ _ _ e).0

  -- the readers stay, and it is no read
  quiet : (m : Message) (r : S.Effect) → r.server.readers ≡ s.readers → (m.body ≡ ask_read → ⊥) → (d : ℕ) → Note s from m r d
  quiet m r e n d = same (ap (λ l. get_or l d no_reader) e) (λ q y. n (ap (λ m. m.body) y))

  here : (x : Reader) → reader_of (with_reader s c x) c ≡ x
  here x = get_or-set_same s.readers c x no_reader (omega (arith, W.readers.0, is.1))

  there : (x : Reader) (d : ℕ) → (d ≡ c → ⊥) → reader_of (with_reader s c x) d ≡ reader_of s d
  there x d ne = get_or-set_other s.readers c d x no_reader ne

  on_read_lem : ST.from_owner from c ≡ true → ST.read_test (reader_of s c) q ≡ fine → (d : ℕ) → Note s from (message c q ask_read) (S.on_read H g me s a initial c q) d
  unfolding S.on_read
  on_read_lem h t d = go (ℕ_discrete d c)
    where
      go : Dec (d ≡ c) → Note s from (message c q ask_read) (S.on_read H g me s a initial c q) d
      go (yes e) = subst (λ d. Note s from (message c q ask_read) (S.on_read H g me s a initial c q) d) (sym e)
          (noted q refl (is_owner from c h) (read_passed (reader_of s c) t) (here _))
      go (no ne) = same (there _ d ne) (λ q y. ne (sym (ap (λ m. m.client) y)))

  on_complete : ST.from_owner from c ≡ true → ST.done_test (reader_of s c) q ≡ fine → (d : ℕ)
      → Note s from (message c q read_complete) (S.on_read_complete H g me s a c q) d
  unfolding S.on_read_complete
  on_complete h t d = go (ℕ_discrete d c)
    where
      go : Dec (d ≡ c) → Note s from (message c q read_complete) (S.on_read_complete H g me s a c q) d
      go (yes e) = subst (λ d. Note s from (message c q read_complete) (S.on_read_complete H g me s a c q) d) (sym e)
          (ended q refl (is_owner from c h) (done_passed (reader_of s c) t) (here _))
      go (no ne) = same (there _ d ne) (λ q y. impossible (cc (ap (λ m. m.body) y)))

  note_of : (b : Body) → ST.sender_right g from c b ≡ true → ST.order_test H g me s (number_in from) c q b ≡ fine → (d : ℕ)
      → Note s from (message c q b) (S.on_body H g me s a initial (number_in from) c q b) d
  unfolding S.on_body S.settle ST.sender_right ST.order_test
  note_of get_stamp h t d = quiet _ _ refl (λ e. impossible (cc e)) d
  note_of ack h t d = quiet _ _ refl (λ e. impossible (cc e)) d
  note_of ask_read h t d = on_read_lem h t d
  note_of read_complete h t d = on_complete h t d
  note_of (stamp_is T) h t d = quiet _ _ refl (λ e. impossible (cc e)) d
  note_of (block_is z o) h t d = quiet _ _ (freed_readers (freed g _ _ z)) (λ e. impossible (cc e)) d
  note_of (value_is x e) h t d = quiet _ _ refl (λ e. impossible (cc e)) d
  note_of (report T) h t d = quiet _ _ (freed_readers (free g 8 (with_report s (number_in from) T) a)) (λ e. impossible (cc e)) d

pub note : (H : List ℕ → List ℕ) (g : Params) (me : ℕ) (s : Server) → Within shapes s → (a initial : List ℕ) (from : Party) (m : Message) → Among 8 m.client
    → ST.message_test H g me s from m ≡ fine → (d : ℕ) → Note s from m (S.effect H g me s a initial from m) d
unfolding S.effect
note H g me s W a initial from m is e d =
    let (h, t) = test_split H g me s from m e in
    note_of H g me s W a initial from m.client m.sequence is m.body h t d

-- ---- receivers

-- A server sends echoes and readies to servers, stamps, acks and values to the client that they name, and reports to anyone.
abbrev pub Right : Params → Party → ℕ → Body → Type 0
Right g b c get_stamp = ⊥
Right g b c ack = b ≡ P.Client c
Right g b c ask_read = ⊥
Right g b c read_complete = ⊥
Right g b c (stamp_is T) = b ≡ P.Client c
Right g b c (block_is send o) = ⊥
Right g b c (block_is echo o) = (i : ℕ) × Among g.n i × (b ≡ P.Server i)
Right g b c (block_is ready o) = (i : ℕ) × Among g.n i × (b ≡ P.Server i)
Right g b c (value_is x e) = b ≡ P.Client c
Right g b c (report T) = ToAnyone g b

abbrev pub RightTo : Params → Sending → Type 0
RightTo g x = Right g x.receiver x.says.client x.says.body

-- what goes to all goes to servers
pub all_to : (f : ℕ → Message) (j m : ℕ) (x : Sending) → Memᴰ x (to_from f j m) → (i : ℕ) × (j ≤ i) × (i < j + m) × (x ≡ sending (P.Server i) (f i))
unfolding to_from
all_to f j zero x u = absurd (Memᴰ.not-nil u)
all_to f j (suc m) x u = ⊎_elim
    (λ e. (j, omega arith, omega arith, e))
    (λ v. let (i, l, h, e) = all_to f (suc j) m x v in (i, omega (arith, l), omega (arith, h), e))
    (Memᴰ.cases_cons u)

module _ (H : List ℕ → List ℕ) (g : Params) (me : ℕ) (s : Server) (a initial : List ℕ) where
  voiced : (z : Stage) (o : Offer) (i c : ℕ) → (z ≡ send → ⊥) → Among g.n i → Right g (P.Server i) c (block_is z o)
  voiced send o i c ne is = absurd (ne refl)
  voiced echo o i c ne is = (i, is, refl)
  voiced ready o i c ne is = (i, is, refl)

  -- an echo or a ready to all
  all_right : (z : Stage) (o : Offer) (c q : ℕ) → (z ≡ send → ⊥) → (x : Sending) → Memᴰ x (to_all g (λ i. message c q (block_is z o))) → RightTo g x
  unfolding to_all
  all_right z o c q ne x u =
      let (i, l, h, e) = all_to (λ i. message c q (block_is z o)) 1 g.n x u in
      subst (RightTo g) (sym e) (voiced z o i c ne (l, omega (arith, h)))

  if_right : (b : Bool) (z : Stage) (o : Offer) (c q : ℕ) → (z ≡ send → ⊥) → (x : Sending) → Memᴰ x (pick b (to_all g (λ i. message c q (block_is z o))) [])
      → RightTo g x
  unfolding pick
  if_right true z o c q ne x u = all_right z o c q ne x u
  if_right false z o c q ne x u = absurd (Memᴰ.not-nil u)

  counted_right : (j c : ℕ) {b : Body} {p : S.Counting} → Counted H g me s a initial j c b p → (x : Sending) → Memᴰ x p.sends → RightTo g x
  unfolding S.on_block S.voted_block
  counted_right j c (block send o) x u = all_right echo o c _ (λ e. impossible (cc e)) x u
  counted_right j c (block echo o) x u = if_right _ ready _ c _ (λ e. impossible (cc e)) x u
  counted_right j c (block ready o) x u = if_right _ ready _ c _ (λ e. impossible (cc e)) x u

  says_right : {s₁ : Server} (w : S.Write) (x : Sending) → Says g s₁ w x → RightTo g x
  says_right w x (Y.told d i t) = subst (RightTo g) (sym t.is) refl
  says_right w x (Y.acked e) = subst (RightTo g) (sym e) refl
  says_right w x (Y.reports e t) = subst (λ m. Right g x.receiver m.client m.body) (sym e) t

  freed_right : {s₁ : Server} {a₁ : List ℕ} {r : S.Effect} → Freed g 8 s₁ a₁ r → (x : Sending) → Memᴰ x r.sends → RightTo g x
  freed_right f x u = let (w, v, h) = freed_mem f x u in says_right w x h

  pub right : (from : Party) (m : Message) (x : Sending) → Memᴰ x (S.effect H g me s a initial from m).sends → RightTo g x
  right from m x = go (shape_of H g me s a initial from m)
    where
      go : {b : Body} {r : S.Effect} → Shape H g me s a initial (number_in from) m.client m.sequence b r → Memᴰ x r.sends → RightTo g x
      go (idle b) u = absurd (Memᴰ.not-nil u)
      go answers u = subst (RightTo g) (sym (Memᴰ.eq_of_singleton u)) refl
      go notes u = subst (RightTo g) (sym (Memᴰ.eq_of_singleton u)) refl
      go ends u = absurd (Memᴰ.not-nil u)
      go (settles b p k f) u = ⊎_elim (λ v. counted_right (number_in from) m.client k x v) (λ v. freed_right f x v) (Memᴰ.append_cases p.sends u)
      go (hears T f) u = freed_right f x u
