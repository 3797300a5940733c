-- After a host's call on a client the record's bytes say the client that the call's definition leaves. Assumes nothing.
use Rattle.std.specs.Prelude.{Ok, Err}
use Prim.Native.Nat.{ℕ, ◌≤◌, ◌<◌}
use mathlib.Core.Path.{◌≡◌, refl, sym, ap, ◌∙◌}
use mathlib.Core.Bool.{Bool, true, false}
use mathlib.Core.List.{List}
use lib.ListN.{length}
use lib.Seq.{sets}
use lib.Dec.{ltb}
use Rattle.quorum.proofs.Logic.{impossible}
use Rattle.area.specs.Area.{pick, Bytes}
use Rattle.area.specs.Responses.{Response, gives, is_turned_down}
use Rattle.sha256.specs.Hash.{digest_of}
use Rattle.blocks.specs.declared.Params.{Params}
use Rattle.frame.specs.declared.Party.{Party}
use Rattle.frame.specs.declared.Stamp.{Stamp}
use Rattle.frame.specs.Refusals.{answered_by, Verdict}
use Rattle.frame.specs.Stamps.{last_client}
use Rattle.frame.specs.Frames.{stamp_bytes}
use Rattle.frame.specs.Messages.{Judged, bad, good}
use Rattle.client_rules.specs.Answers.{Progress, read_gives}
use Rattle.client_rules.specs.declared.Client.{Client}
use Rattle.client_rules.specs.State.{fresh_client}
use Rattle.client_rules.specs.Tests.{judge}
use Rattle.client_rules.specs.Steps.{Effect}
use Rattle.client_rules.specs.Beginning.{Begun, read_test, write_test, open_read, open_write, begin_by, read_begun}
use Rattle.client_rules.specs.Beginning.{write_begun, begun_of, read_beginning, write_beginning}
use Rattle.client_rules.specs.Delivery.{Outcome, answer_of, effect_by, delivered, outcome_of, delivery}
use Rattle.layout.specs.Fields.{stamp_size}
use Rattle.layout.specs.Clients.{client_size, client_bytes, client_in}
use Rattle.layout.specs.Typed.{TypedClient}
use Rattle.layout.proofs.ClientBack.{client_stored}
use Rattle.layout.proofs.TypedCalls.{typed_client_in, typed_client_fresh, typed_read, typed_write, typed_client_delivery}
use Rattle.layout.specs.Left.{left_by}
use Rattle.site.specs.Answers.{test_answer}
use Rattle.site.specs.Short.{read_short, value_short, frame_short, stamp_short}
use Rattle.semduoli.specs.Calls.{wrote, fresh_call, Began, began, state_after, began_of, read_call, write_call}
use Rattle.semduoli.specs.Handed.{stamp_after, client_got, client_got_of, client_call}
use Rattle.semduoli.proofs.Laws.{enough, short, ends}
use Rattle.semduoli.proofs.Handed.{client_whole}

-- ---- the record's bytes after a call that answers a and leaves s

-- a record that is stored reads back
stored_back : (state : List ℕ) (s : Client) → TypedClient s → client_size ≤ length state → client_in (sets state 0 (client_bytes s)) ≡ s
unfolding client_in
stored_back state s t long = client_stored state 0 s t long

module _ (a : Response Progress) (s : Client) (state : List ℕ) where
  says : (b : Bool) → is_turned_down a ≡ b → TypedClient s → client_size ≤ length state → (is_turned_down a ≡ true → s ≡ client_in state)
      → client_in (pick b state (sets state 0 (client_bytes s))) ≡ s
  unfolding pick
  says true e t long h = sym (h e)
  says false e t long h = stored_back state s t long

  -- the bytes say s, provided that a call that is turned down leaves the client as it was
  pub after_back : TypedClient s → client_size ≤ length state → (is_turned_down a ≡ true → s ≡ client_in state) → client_in (state_after a s state) ≡ s
  unfolding state_after left_by
  after_back t long h = says (is_turned_down a) refl t long h

  -- a call that is turned down leaves them as they were
  pub after_kept : is_turned_down a ≡ true → state_after a s state ≡ state
  unfolding state_after left_by pick
  after_kept e = ap (λ b. pick b state (sets state 0 (client_bytes s))) e

-- ---- what an answer says of the client

module _ (g : Params) (me : ℕ) (s : Client) where
  begun_stays : (v : Verdict) (x : Effect) (y : Progress) → is_turned_down (answered_by v y) ≡ true → (begin_by g me v s x).client ≡ s
  unfolding is_turned_down begin_by
  begun_stays (Ok _) x y e = impossible (cc e)
  begun_stays (Err r) x y e = refl

  -- a beginning that is turned down leaves the client as it was
  read_stays : (out to : List ℕ) → is_turned_down (read_beginning g me s out to).answer ≡ true → (read_beginning g me s out to).client ≡ s
  unfolding read_beginning begun_of read_begun
  read_stays out to e = begun_stays (read_test g me s out to) (open_read g me s) _ e

  write_stays : (v out to : List ℕ) → is_turned_down (write_beginning g me s v out to).answer ≡ true → (write_beginning g me s v out to).client ≡ s
  unfolding write_beginning begun_of write_begun
  write_stays v out to e = begun_stays (write_test g me s v out to) (open_write g me s) _ e

module _ (H : List ℕ → List ℕ) (g : Params) (me : ℕ) (s : Client) (a value : List ℕ) (from : Party) where
  stays_by : (j : Judged) (x : Effect) → is_turned_down (answer_of j x) ≡ true → (effect_by H g me j s a value from).client ≡ s
  unfolding is_turned_down answer_of effect_by
  stays_by (bad r) x e = refl
  stays_by (good m) x e = impossible (cc e)

  -- a frame that is turned down leaves the client as it was
  client_stays : (f result out to : List ℕ) → is_turned_down (delivery H g me s a value from f result out to).answer ≡ true
      → (delivery H g me s a value from f result out to).client ≡ s
  unfolding delivery outcome_of delivered
  client_stays f result out to e = stays_by (judge H g me s a value from f result out to) _ e

-- ---- a fresh client

module _ (state : List ℕ) where
  -- after the call the bytes say a fresh client
  pub fresh_back : client_size ≤ length state → client_in (fresh_call state).out ≡ fresh_client
  unfolding fresh_call
  fresh_back long =
      ap (λ z. client_in z.out) (sym (enough (length state) client_size (wrote 10 state) (wrote 0 (sets state 0 (client_bytes fresh_client))) long))
      ∙ stored_back state fresh_client typed_client_fresh long

  -- where the area is short the call is turned down, and leaves the bytes as they were
  pub fresh_kept : length state < client_size → (fresh_call state).out ≡ state
  unfolding fresh_call
  fresh_kept h = ap (λ z. z.out) (sym (short (length state) client_size (wrote 10 state) (wrote 0 (sets state 0 (client_bytes fresh_client))) h))

-- ---- the client that the bytes say begins an operation, with the outcome x; n is what the call answers where the area is short

module _ (g : Params) (state out to : List ℕ) (n : ℕ) (x : Begun) where
  abbrev begins : Began
  begins = pick (ltb (length state) client_size) (began n state out to) (began_of g x state)

  begins_back : client_size ≤ length state → TypedClient x.client → (is_turned_down x.answer ≡ true → x.client ≡ client_in state)
      → client_in begins.state ≡ x.client
  unfolding began_of
  begins_back long t h =
      ap (λ z. client_in z.state) (sym (enough (length state) client_size (began n state out to) (began_of g x state) long))
      ∙ after_back x.answer x.client state t long h

  begins_kept : is_turned_down x.answer ≡ true → begins.state ≡ state
  unfolding began_of
  begins_kept e =
      ends (λ z. z.state) (ltb (length state) client_size) (began n state out to) (began_of g x state) state refl (after_kept x.answer x.client state e)

  begins_short : length state < client_size → begins.state ≡ state
  begins_short h = ap (λ z. z.state) (sym (short (length state) client_size (began n state out to) (began_of g x state) h))

module _ (g : Params) (me : ℕ) (state out to : List ℕ) where
  abbrev reads : Begun
  reads = read_beginning g me (client_in state) out to

  -- after the beginning of a read the bytes say the client that it leaves
  pub read_back : client_size ≤ length state → Bytes state → client_in (read_call g me state out to).state ≡ (read_beginning g me (client_in state) out to).client
  unfolding read_call
  read_back long p =
      begins_back g state out to (test_answer (read_short g me)) reads long (typed_read g me (client_in state) (typed_client_in state p) out to)
      (read_stays g me (client_in state) out to)

  -- one that is turned down leaves the bytes as they were
  pub read_kept : is_turned_down (read_beginning g me (client_in state) out to).answer ≡ true → (read_call g me state out to).state ≡ state
  unfolding read_call
  read_kept e = begins_kept g state out to (test_answer (read_short g me)) reads e

  -- and so does one whose area for the record is short
  pub read_short_kept : length state < client_size → (read_call g me state out to).state ≡ state
  unfolding read_call
  read_short_kept h = begins_short g state out to (test_answer (read_short g me)) reads h

module _ (g : Params) (me : ℕ) (value state out to : List ℕ) where
  abbrev writes : Begun
  writes = write_beginning g me (client_in state) value out to

  abbrev told : ℕ
  told = test_answer (value_short g me last_client (length value))

  -- after the beginning of a write the bytes say the client that it leaves
  pub write_back : client_size ≤ length state → Bytes state
      → client_in (write_call g me value state out to).state ≡ (write_beginning g me (client_in state) value out to).client
  unfolding write_call
  write_back long p =
      begins_back g state out to told writes long (typed_write g me (client_in state) (typed_client_in state p) value out to)
      (write_stays g me (client_in state) value out to)

  -- one that is turned down leaves the bytes as they were
  pub write_kept : is_turned_down (write_beginning g me (client_in state) value out to).answer ≡ true → (write_call g me value state out to).state ≡ state
  unfolding write_call
  write_kept e = begins_kept g state out to told writes e

  -- and so does one whose area for the record is short
  pub write_short_kept : length state < client_size → (write_call g me value state out to).state ≡ state
  unfolding write_call
  write_short_kept h = begins_short g state out to told writes h

-- ---- a frame

module _ (g : Params) (me : ℕ) (from : Party) (value f rows result stamp state out to : List ℕ) where
  -- the outcome of the delivery to the client that the bytes say
  abbrev pub delivers : Outcome
  delivers = delivery digest_of g me (client_in state) rows value from f result out to

  -- the record's bytes after the call
  abbrev pub keeps : List ℕ
  keeps = (client_call g me from value f rows result stamp state out to).state

  -- where the area for the record or the stamp is short the call leaves the bytes as they were; else what the delivery leaves
  keeps_by : (l : List ℕ) → state ≡ l → state_after delivers.answer delivers.client state ≡ l → keeps ≡ l
  unfolding client_call client_got_of
  keeps_by l p q =
      ends (λ z. z.state) (ltb (length state) client_size) (client_got (test_answer (frame_short g me last_client f)) rows result stamp state out to) _ l p
      (ends (λ z. z.state) (ltb (length stamp) stamp_size)
      (client_got (test_answer (stamp_short g me (client_in state) (length value) f)) rows result stamp state out to)
      (client_got_of g delivers stamp state) l p q)

  -- after a call the bytes say the client that the delivery leaves, whether it was turned down or not
  pub client_record_back : client_size ≤ length state → stamp_size ≤ length stamp → Bytes state → Bytes f → client_in keeps ≡ delivers.client
  unfolding client_got_of
  client_record_back long wide p q =
      ap (λ z. client_in z.state) (sym (client_whole g me from value f rows result stamp state out to long wide))
      ∙ after_back delivers.answer delivers.client state
      (typed_client_delivery digest_of g me (client_in state) (typed_client_in state p) rows value from f result out to q) long
      (client_stays digest_of g me (client_in state) rows value from f result out to)

  -- a call that is turned down leaves the bytes as they were
  pub client_record_kept : is_turned_down delivers.answer ≡ true → keeps ≡ state
  client_record_kept e = keeps_by state refl (after_kept delivers.answer delivers.client state e)

  -- and so does one whose area for the record is short
  pub client_short_kept : length state < client_size → keeps ≡ state
  unfolding client_call
  client_short_kept h =
      ap (λ z. z.state) (sym (short (length state) client_size (client_got (test_answer (frame_short g me last_client f)) rows result stamp state out to) _ h))

  -- or for the stamp
  pub client_stamp_kept : length stamp < stamp_size → keeps ≡ state
  unfolding client_call
  client_stamp_kept h =
      ends (λ z. z.state) (ltb (length state) client_size) (client_got (test_answer (frame_short g me last_client f)) rows result stamp state out to) _ state refl
      (ap (λ z. z.state)
      (sym (short (length stamp) stamp_size (client_got (test_answer (stamp_short g me (client_in state) (length value) f)) rows result stamp state out to)
      (client_got_of g delivers stamp state) h)))

  -- a call that ends a read leaves the read's stamp at the start of the stamp area
  pub read_stamped : client_size ≤ length state → stamp_size ≤ length stamp → (x : Stamp) → delivers.answer ≡ gives (read_gives x)
      → (client_call g me from value f rows result stamp state out to).stamp ≡ sets stamp 0 (stamp_bytes x)
  unfolding client_got_of stamp_after
  read_stamped long wide x e =
      sym (ap (λ z. z.stamp) (client_whole g me from value f rows result stamp state out to long wide)) ∙ ap (λ a. stamp_after a stamp) e
