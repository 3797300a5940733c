-- What is enough, so that nobody waits for a false server (request F-6): n - t echoes or q readies for a ready, n - t readies for the completion, the owner's
-- block for an echo; a completion leaves enough for the others; and 13 is answered above the open write only. An edit by which a server may wait in vain is
-- refused here. Assumes nothing.
use Rattle.std.specs.Prelude.{Ok, Err}
use Prim.Native.Nat.{ℕ, ◌+◌, ◌≤◌, ◌<◌}
use native.Mathlib.Omega.{arith}
use mathlib.Core.Bool.{Bool, true, false, not, ◌&&◌, ◌||◌}
use mathlib.Core.Path.{◌≡◌, refl, ap}
use mathlib.Core.Logic.{◌⊎◌, inl, inr, ⊎_elim}
use mathlib.Core.List.{List, Memᴰ}
use lib.Dec.{leb, ltb, eqb}
use borrow.Author.Tests.{le-leb, ltb-true}
use Rattle.quorum.specs.Quorum.{Among}
use Rattle.quorum.proofs.Logic.{impossible, and_true, or_left, or_right}
use Rattle.area.specs.Area.{pick}
use Rattle.blocks.specs.declared.Params.{Params}
use Rattle.frame.specs.declared.Party.{Party}
use Rattle.frame.specs.declared.Party.TheVariants as P
use Rattle.frame.specs.declared.Refusal.TheVariants as R
use Rattle.frame.specs.Refusals.{and_then, Verdict}
use Rattle.frame.specs.Params.{quota, Bounded}
use Rattle.frame.specs.Messages.{Entry, Offer, send, echo, Body, get_stamp, ack, ask_read, read_complete}
use Rattle.frame.specs.Messages.{stamp_is, block_is, value_is, report, Message, message, sending, to_all, number_in}
use Rattle.group_rules.specs.Coded.{fits, fit_test}
use Rattle.server_rules.specs.declared.Slot.{Slot}
use Rattle.server_rules.specs.declared.Reader.{Reader}
use Rattle.server_rules.specs.declared.Server.{Server}
use Rattle.server_rules.specs.Broadcast.{Rules, Part, votes, enough, due, full}
use Rattle.server_rules.specs.Rules.{block_rules}
use Rattle.server_rules.specs.State.{slot_of, reader_of, report_of}
use Rattle.server_rules.specs.Steps as S
use Rattle.server_rules.specs.Tests as ST
use Rattle.server_rules.proofs.Casts.{all_mem}

-- ---- frames of a write

-- on n - t echoes, or on the few readies, a ready is sent, if none went out and the payload is supported
pub due_of : {P : Type 0} (R : Rules P) (n t : ℕ) (w : Part P) (x : P) → w.ready ≡ false
    → (n ≤ votes R n t w.echoes x + t) ⊎ (R.few ≤ votes R n t w.readies x) → R.supports w.echoes w.readies x ≡ true → due R n t w x ≡ true
unfolding due enough
due_of R n t w x r e s =
    let a = leb n (votes R n t w.echoes x + t) in
    let b = leb R.few (votes R n t w.readies x) in
    and_true (not w.ready) _ (ap not r)
    (and_true (a || b) _ (⊎_elim (λ h. or_left a b (le-leb _ _ h)) (λ h. or_right a b (le-leb _ _ h)) e) s)

module _ (H : List ℕ → List ℕ) (g : Params) where
  -- q + t is not more than the honest servers are
  all_reached : Bounded g → (block_rules H g).all + g.t ≤ g.n
  unfolding quota
  all_reached L = omega (arith, L.faults_high, L.blocks_high)

  -- of the readies that complete a write, those on which a ready is sent are of honest servers
  pub few_honest : (block_rules H g).few + g.t ≤ (block_rules H g).all
  few_honest = omega arith

  -- n - t readies complete a write
  pub full_of : Bounded g → (w : Part Offer) (o : Offer) → g.n ≤ votes (block_rules H g) g.n g.t w.readies o + g.t
      → (block_rules H g).supports w.echoes w.readies o ≡ true → full (block_rules H g) g.n g.t w o ≡ true
  unfolding full
  full_of L w o h s =
      let v = votes (block_rules H g) g.n g.t w.readies o in
      let l = all_reached L in
      and_true (leb (block_rules H g).all v) _ (le-leb (block_rules H g).all v (omega (arith, l, h))) s

  -- the owner's block is echoed to every server, whatever went out before
  pub send_echoed : (me : ℕ) (a : List ℕ) (c : ℕ) (x : Slot) (j : ℕ) (o : Offer) (i : ℕ) → Among g.n i
      → Memᴰ (sending (P.Server i) (message c x.sequence (block_is echo o))) (S.on_block H g me a c x j send o).sends
  unfolding S.on_block to_all
  send_echoed me a c x j o i is = all_mem (λ i. message c x.sequence (block_is echo o)) 1 g.n i is.0 (omega (arith, is.1))

-- ---- refusal 13

abbrev Ahead : Verdict → Type 0
Ahead v = v ≡ Err R.Ahead

pick_ahead : (b : Bool) (u v : Verdict) → Ahead (pick b u v) → ((b ≡ true) × Ahead u) ⊎ Ahead v
unfolding pick
pick_ahead true u v e = inl (refl, e)
pick_ahead false u v e = inr e

then_ahead : (u v : Verdict) → Ahead (and_then u v) → Ahead u ⊎ Ahead v
then_ahead (Ok _) v e = inr e
then_ahead (Err r) v e = inl e

pub open_ahead : (x : Slot) (q : ℕ) (again : Bool) → ST.open_test x q again ≡ Err R.Ahead → x.sequence < q
unfolding ST.open_test
open_ahead x q again e = ⊎_elim
    (λ h. impossible (cc h.1))
    (λ h. ⊎_elim
    (λ k. ltb-true x.sequence q k.0)
    (λ k. ⊎_elim (λ l. impossible (cc l.1)) (λ l. impossible (cc l)) (pick_ahead again _ _ k))
    (pick_ahead (ltb x.sequence q) _ _ h))
    (pick_ahead (ltb q x.sequence) _ _ e)

module _ (H : List ℕ → List ℕ) (g : Params) (me : ℕ) (s : Server) where
  fit_ahead : (e : Entry) (j : ℕ) → Ahead (fit_test H e j) → ⊥
  unfolding fit_test
  fit_ahead e j h = ⊎_elim (λ k. impossible (cc k.1)) (λ k. impossible (cc k)) (pick_ahead (fits H e j) _ _ h)

  read_ahead : (r : Reader) (q : ℕ) → Ahead (ST.read_test r q) → ⊥
  unfolding ST.read_test
  read_ahead r q h = ⊎_elim (λ k. impossible (cc k.1)) (λ k. impossible (cc k)) (pick_ahead (leb q r.sequence) _ _ h)

  done_ahead : (r : Reader) (q : ℕ) → Ahead (ST.done_test r q) → ⊥
  unfolding ST.done_test
  done_ahead r q h = ⊎_elim
      (λ k. impossible (cc k.1))
      (λ k. ⊎_elim (λ l. impossible (cc l.1)) (λ l. impossible (cc l)) (pick_ahead (eqb q r.sequence && not r.listening) _ _ k))
      (pick_ahead (ltb q r.sequence) _ _ h)

  order_ahead : (j c q : ℕ) (b : Body) → Ahead (ST.order_test H g me s j c q b) → (slot_of s c).sequence < q
  unfolding ST.order_test ST.report_test
  order_ahead j c q get_stamp e = impossible (cc e)
  order_ahead j c q ack e = impossible (cc e)
  order_ahead j c q ask_read e = absurd (read_ahead (reader_of s c) q e)
  order_ahead j c q read_complete e = absurd (done_ahead (reader_of s c) q e)
  order_ahead j c q (stamp_is T) e = impossible (cc e)
  order_ahead j c q (block_is z o) e = ⊎_elim
      (λ h. open_ahead (slot_of s c) q (ST.counted (slot_of s c) j (block_is z o)) h)
      (λ h. absurd (fit_ahead o.entry (ST.place_in me z j) h))
      (then_ahead (ST.open_test (slot_of s c) q (ST.counted (slot_of s c) j (block_is z o))) _ e)
  order_ahead j c q (value_is x y) e = impossible (cc e)
  order_ahead j c q (report T) e = ⊎_elim (λ k. impossible (cc k.1)) (λ k. impossible (cc k)) (pick_ahead (ltb (report_of s j) T) _ _ e)

  -- only a frame above the open write is answered 13
  pub message_ahead : (from : Party) (m : Message) → ST.message_test H g me s from m ≡ Err R.Ahead → (slot_of s m.client).sequence < m.sequence
  unfolding ST.message_test
  message_ahead from m e = ⊎_elim
      (λ h. order_ahead (number_in from) m.client m.sequence m.body h.1)
      (λ h. impossible (cc h))
      (pick_ahead (ST.sender_right g from m.client m.body) _ _ e)
