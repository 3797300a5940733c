-- What an honest client has sent: to whom, of which number, and its blocks of a write once only, with one time and one value. Assumes nothing.
use Rattle.frame.specs.Refusals.{fine}
use Prim.Native.Nat.{ℕ, ◌+◌, ◌≤◌, ◌<◌}
use native.Mathlib.Omega.{arith}
use mathlib.Core.Path.{◌≡◌, refl, ap, sym, ◌∙◌, subst}
use mathlib.Core.Logic.{◌⊎◌, inl, inr, ⊎_elim}
use mathlib.Core.List.Memᴰ
use mathlib.Core.List.{List, [], ◌∷◌, Memᴰ}
use Rattle.quorum.specs.Quorum.{Among}
use Rattle.quorum.proofs.Logic.{impossible, and_split}
use Rattle.group_rules.specs.Coded.{entry_of}
use Rattle.frame.specs.declared.Party.{Party}
use Rattle.frame.specs.declared.Party.TheVariants as A
use Rattle.frame.specs.Messages.{Offer, offer, send, echo, ready, Body, get_stamp, ack, ask_read, read_complete}
use Rattle.frame.specs.Messages.{stamp_is, block_is, value_is, report, Message, message, Sending, sending, to_all}
use Rattle.server_rules.proofs.Thresholds.{agreed}
use Rattle.client_rules.specs.declared.Client.{Client}
use Rattle.client_rules.specs.Beginning as CB
use Rattle.client_rules.specs.Steps as C
use Rattle.client_rules.specs.Tests as CT
use Rattle.client_rules.proofs.Shapes.{learns_writes, Shape, notes, hears, shuts, counts, ends, waits, completes, sends as disperses, idle as idles}
use Rattle.steps.proofs.ClientTaken.{learns_asking}
use Rattle.runs.specs.Admissible.{Admissible}
use Rattle.runs.specs.World.{client_left, Setup, Call, caller, run, sends}
use Rattle.runs.proofs.Assumed.{Assumed}
use Rattle.taking.proofs.Readers.{all_to}
use Rattle.served.proofs.Clients.{home, TakesFrame, ClientTurn, rests, takes, begins_read, begins_write, client_turn}
use Rattle.served.proofs.ClientState.{SentBy, phase_asking}
use Rattle.served.proofs.ClientPast.{write_stage, read_stage, Onward, client_onward}

module _ (Z : Setup) (G : Assumed Z) where
  open Z use {H, g}

  abbrev pub ToServer : Party → Type 0
  ToServer b = (j : ℕ) × Among g.n j × (b ≡ A.Server j)

  -- what client c, in the state s, has sent to b for the operation q that names d
  abbrev pub Word : Client → ℕ → Party → ℕ → ℕ → Body → Type 0
  Word s c b d q get_stamp = (d ≡ c) × ToServer b × (q ≤ s.writes)
  Word s c b d q ack = ⊥
  Word s c b d q ask_read = (d ≡ c) × ToServer b × (q ≤ s.reads)
  Word s c b d q read_complete = (d ≡ c) × ToServer b × ((q < s.reads) ⊎ ((q ≡ s.reads) × (1 ≤ read_stage s.phase)))
  Word s c b d q (stamp_is T) = ⊥
  Word s c b d q (block_is send o) = (d ≡ c) × (j : ℕ) × Among g.n j × (b ≡ A.Server j)
      × ((q < s.writes) ⊎ ((q ≡ s.writes) × (1 ≤ write_stage s.phase))) × (T : ℕ) × (v : List ℕ) × (o ≡ offer T (entry_of H g v j))
  Word s c b d q (block_is echo o) = ⊥
  Word s c b d q (block_is ready o) = ⊥
  Word s c b d q (value_is x e) = ⊥
  Word s c b d q (report T) = ⊥

  -- ---- it stays so

  writes_up : {s s' : Client} → Onward g.n s s' → s.writes ≤ s'.writes
  writes_up U = ⊎_elim (λ l. omega (arith, l)) (λ w. omega (arith, w.0)) U.writes

  reads_up : {s s' : Client} → Onward g.n s s' → s.reads ≤ s'.reads
  reads_up U = ⊎_elim (λ l. omega (arith, l)) (λ w. omega (arith, w.0)) U.reads

  write_sent : {s s' : Client} (U : Onward g.n s s') (q : ℕ) → (q < s.writes) ⊎ ((q ≡ s.writes) × (1 ≤ write_stage s.phase))
      → (q < s'.writes) ⊎ ((q ≡ s'.writes) × (1 ≤ write_stage s'.phase))
  write_sent U q (inl l) = inl (omega (arith, l, writes_up U))
  write_sent U q (inr (e, l)) = ⊎_elim
      (λ w. inl (omega (arith, w, e)))
      (λ (w, d). inr (e ∙ sym w, ⊎_elim (λ k. omega (arith, k)) (λ k. omega (arith, k.0, l)) d))
      U.writes

  read_done : {s s' : Client} (U : Onward g.n s s') (q : ℕ) → (q < s.reads) ⊎ ((q ≡ s.reads) × (1 ≤ read_stage s.phase))
      → (q < s'.reads) ⊎ ((q ≡ s'.reads) × (1 ≤ read_stage s'.phase))
  read_done U q (inl l) = inl (omega (arith, l, reads_up U))
  read_done U q (inr (e, l)) = ⊎_elim
      (λ w. inl (omega (arith, w, e)))
      (λ (w, d). inr (e ∙ sym w, ⊎_elim (λ k. omega (arith, k)) (λ k. omega (arith, k.0, l)) d))
      U.reads

  word_onward : {s s' : Client} → Onward g.n s s' → (c : ℕ) (b : Party) (d q : ℕ) (x : Body) → Word s c b d q x → Word s' c b d q x
  word_onward U c b d q get_stamp (e, t, l) = (e, t, omega (arith, l, writes_up U))
  word_onward U c b d q ack w = w
  word_onward U c b d q ask_read (e, t, l) = (e, t, omega (arith, l, reads_up U))
  word_onward U c b d q read_complete (e, t, l) = (e, t, read_done U q l)
  word_onward U c b d q (stamp_is T) w = w
  word_onward U c b d q (block_is send o) w = (w.0, w.1, w.2, w.3, write_sent U q w.4, w.5, w.6, w.7)
  word_onward U c b d q (block_is echo o) w = w
  word_onward U c b d q (block_is ready o) w = w
  word_onward U c b d q (value_is x e) w = w
  word_onward U c b d q (report T) w = w

  -- ---- what a call sends

  -- to all servers, of one number
  from_all : (f : ℕ → Message) (b : Party) (m : Message) → Memᴰ (sending b m) (to_all g f) → (j : ℕ) × Among g.n j × (b ≡ A.Server j) × (m ≡ f j)
  unfolding to_all
  from_all f b m u =
      let (j, l, h, e) = all_to f 1 g.n (sending b m) u in
      (j, (l, omega (arith, h)), ap (λ x. x.receiver) e, ap (λ x. x.says) e)

  -- a word for a message that is the expected one
  worded : (s : Client) (c : ℕ) (b : Party) (m m' : Message) → m ≡ m' → Word s c b m'.client m'.sequence m'.body
      → Word s c b m.client m.sequence m.body
  worded s c b m m' e w = subst (λ m. Word s c b m.client m.sequence m.body) (sym e) w

  module _ (ks : List Call) (k : Call) (c : ℕ) (t : TakesFrame Z ks k c) where
    abbrev s : Client
    s = (home Z ks c).client

    abbrev a : List ℕ
    a = (home Z ks c).area

    shape_word : {x : Body} {r : C.Effect} → Shape H g c s a t.v t.j x r → (b : Party) (m : Message) → Memᴰ (sending b m) r.sends
        → Word r.client c b m.client m.sequence m.body
    shape_word (idles x) b m u = absurd (Memᴰ.not-nil u)
    shape_word (notes T p) b m u = absurd (Memᴰ.not-nil u)
    shape_word (hears x K q) b m u = absurd (Memᴰ.not-nil u)
    shape_word {r = r} (disperses x K q l) b m u =
        let (j, i, e, w) = from_all _ b m u in
        worded r.client c b m _ w (refl, j, i, e, inr (sym (learns_writes H g c s a t.v t.j K), omega arith), _, t.v, refl)
    shape_word (shuts x K q l) b m u = absurd (Memᴰ.not-nil u)
    shape_word (counts q) b m u = absurd (Memᴰ.not-nil u)
    shape_word (ends q) b m u = absurd (Memᴰ.not-nil u)
    shape_word (waits x e K z) b m u = absurd (Memᴰ.not-nil u)
    shape_word {r = r} (completes x e {s'} K y z) b m u =
        let (j, i, e, w) = from_all (λ i. message c s'.reads read_complete) b m u in
        worded r.client c b m _ w (refl, (j, i, e), inr (refl, omega arith))

    -- its blocks are of the open write, which was asking, and of one time and value
    abbrev Offers : List Sending → Type 0
    Offers l = (b : Party) (d q : ℕ) (o : Offer) → Memᴰ (sending b (message d q (block_is send o))) l → (q ≡ s.writes) × (write_stage s.phase ≡ 0)

    abbrev One : List Sending → Type 0
    One l = (b b' : Party) (d q d' q' : ℕ) (o o' : Offer) → Memᴰ (sending b (message d q (block_is send o))) l
        → Memᴰ (sending b' (message d' q' (block_is send o'))) l → agreed o ≡ agreed o'

    shape_offers : {x : Body} {r : C.Effect} → CT.order_test H g c s t.j t.m.sequence x ≡ fine → Shape H g c s a t.v t.j x r
        → Offers r.sends × One r.sends
    unfolding CT.order_test entry_of
    shape_offers o (idles x) = ((λ b d q y u. absurd (Memᴰ.not-nil u)), λ b b' d q d' q' y y' u w. absurd (Memᴰ.not-nil u))
    shape_offers o (notes T p) = ((λ b d q y u. absurd (Memᴰ.not-nil u)), λ b b' d q d' q' y y' u w. absurd (Memᴰ.not-nil u))
    shape_offers o (hears x K z) = ((λ b d q y u. absurd (Memᴰ.not-nil u)), λ b b' d q d' q' y y' u w. absurd (Memᴰ.not-nil u))
    shape_offers o (disperses x {s'} K z l) = (
      (λ b d q y u. let (j, i, e, w) = from_all _ b _ u in
          (ap (λ m. m.sequence) w, ap write_stage (phase_asking s.phase (learns_asking H g c s a t.v t.j t.m.sequence o K)))),
      λ b b' d q d' q' y y' u w.
          let (j, i, e, x) = from_all _ b _ u in
          let (j', i', e', x') = from_all _ b' _ w in
          let f : y ≡ offer (C.largest_counted g s') (entry_of H g t.v j) = cc (ap (λ m. m.body) x) in
          let f' : y' ≡ offer (C.largest_counted g s') (entry_of H g t.v j') = cc (ap (λ m. m.body) x') in
          ap agreed f ∙ sym (ap agreed f'),
    )
    shape_offers o (shuts x K z l) = ((λ b d q y u. absurd (Memᴰ.not-nil u)), λ b b' d q d' q' y y' u w. absurd (Memᴰ.not-nil u))
    shape_offers o (counts z) = ((λ b d q y u. absurd (Memᴰ.not-nil u)), λ b b' d q d' q' y y' u w. absurd (Memᴰ.not-nil u))
    shape_offers o (ends z) = ((λ b d q y u. absurd (Memᴰ.not-nil u)), λ b b' d q d' q' y y' u w. absurd (Memᴰ.not-nil u))
    shape_offers o (waits x e K z) = ((λ b d q y u. absurd (Memᴰ.not-nil u)), λ b b' d q d' q' y y' u w. absurd (Memᴰ.not-nil u))
    shape_offers o (completes x e {s'} K y z) = (
      (λ b d q y u. let (j, i, e, w) = from_all (λ i. message c s'.reads read_complete) b _ u in impossible (cc (ap (λ m. m.body) w))),
      λ b b' d q d' q' y y' u w. let (j, i, e, w) = from_all (λ i. message c s'.reads read_complete) b _ u in impossible (cc (ap (λ m. m.body) w)),
    )

  -- of a call on client c
  module _ (ks : List Call) (k : Call) (c : ℕ) (e : caller k ≡ A.Client c) where
    call_word : ClientTurn Z ks k c → (b : Party) (m : Message) → Memᴰ (sending b m) (sends Z (run Z ks) k)
        → Word (home Z (k ∷ ks) c).client c b m.client m.sequence m.body
    unfolding CB.open_read CB.open_write
    call_word (rests h f) b m u = absurd (f b m e u)
    call_word (takes t) b m u = subst (λ h. Word h.client c b m.client m.sequence m.body) (sym t.left)
        (shape_word ks k c t t.shape b m (subst (Memᴰ (sending b m)) t.sent u))
    call_word (begins_read out to _ t h l) b m u =
        let (j, i, x, w) = from_all (λ j. message c ((home Z ks c).client.reads + 1) ask_read) b m (subst (Memᴰ (sending b m)) l u) in
        subst (λ h. Word h.client c b m.client m.sequence m.body) (sym h) (worded (client_left Z (CB.open_read Z.g c (home Z ks c).client) (home Z ks c).area (home Z ks c).value).client c b m _ w (refl, (j, i, x), omega arith))
    call_word (begins_write v out to _ t h l o) b m u =
        let (j, i, x, w) = from_all (λ j. message c ((home Z ks c).client.writes + 1) get_stamp) b m (subst (Memᴰ (sending b m)) l u) in
        subst (λ h. Word h.client c b m.client m.sequence m.body) (sym h) (worded (client_left Z (CB.open_write Z.g c (home Z ks c).client) (home Z ks c).area v).client c b m _ w (refl, (j, i, x), omega arith))

    call_offers : ClientTurn Z ks k c → (b : Party) (d q : ℕ) (o : Offer) → Memᴰ (sending b (message d q (block_is send o))) (sends Z (run Z ks) k)
        → (q ≡ (home Z ks c).client.writes) × (write_stage (home Z ks c).client.phase ≡ 0)
    unfolding CB.open_read CB.open_write
    call_offers (rests h f) b d q o u = absurd (f b _ e u)
    call_offers (takes t) b d q o u = (shape_offers ks k c t t.order t.shape).0 b d q o (subst (Memᴰ _) t.sent u)
    call_offers (begins_read out to _ t h l) b d q o u =
        let (j, i, x, w) = from_all (λ j. message c ((home Z ks c).client.reads + 1) ask_read) b _ (subst (Memᴰ _) l u) in
        impossible (cc (ap (λ m. m.body) w))
    call_offers (begins_write v out to _ t h l _) b d q o u =
        let (j, i, x, w) = from_all (λ j. message c ((home Z ks c).client.writes + 1) get_stamp) b _ (subst (Memᴰ _) l u) in
        impossible (cc (ap (λ m. m.body) w))

    call_one : ClientTurn Z ks k c → (b b' : Party) (d q d' q' : ℕ) (o o' : Offer) → Memᴰ (sending b (message d q (block_is send o))) (sends Z (run Z ks) k)
        → Memᴰ (sending b' (message d' q' (block_is send o'))) (sends Z (run Z ks) k) → agreed o ≡ agreed o'
    unfolding CB.open_read CB.open_write
    call_one (rests h f) b b' d q d' q' o o' u w = absurd (f b _ e u)
    call_one (takes t) b b' d q d' q' o o' u w =
        (shape_offers ks k c t t.order t.shape).1 b b' d q d' q' o o' (subst (Memᴰ _) t.sent u) (subst (Memᴰ _) t.sent w)
    call_one (begins_read out to _ t h l) b b' d q d' q' o o' u w =
        let (j, i, x, y) = from_all (λ j. message c ((home Z ks c).client.reads + 1) ask_read) b _ (subst (Memᴰ _) l u) in
        impossible (cc (ap (λ m. m.body) y))
    call_one (begins_write v out to _ t h l _) b b' d q d' q' o o' u w =
        let (j, i, x, y) = from_all (λ j. message c ((home Z ks c).client.writes + 1) get_stamp) b _ (subst (Memᴰ _) l u) in
        impossible (cc (ap (λ m. m.body) y))

  -- ---- in a run

  pub words : (ks : List Call) → Admissible Z ks → (c : ℕ) (b : Party) (m : Message) → SentBy Z G ks (A.Client c) b m
      → Word (home Z ks c).client c b m.client m.sequence m.body
  words [] adm c b m u = absurd u
  words (k ∷ ks) adm c b m (inl (e, u)) = call_word ks k c e (client_turn Z ks k c) b m u
  words (k ∷ ks) adm c b m (inr u) = word_onward (client_onward Z G ks k adm.1 c) c b m.client m.sequence m.body (words ks adm.1 c b m u)

  -- two of one write, of which the first is older
  not_later : (ks : List Call) (k : Call) → Admissible Z ks → (c : ℕ) (b b' : Party) (q : ℕ) (o o' : Offer)
      → SentBy Z G ks (A.Client c) b (message c q (block_is send o))
      → caller k ≡ A.Client c → Memᴰ (sending b' (message c q (block_is send o'))) (sends Z (run Z ks) k) → ⊥
  not_later ks k adm c b b' q o o' u e w =
      let l = (words ks adm c b (message c q (block_is send o)) u).4 in
      let (n, z) = call_offers ks k c e (client_turn Z ks k c) b' c q o' w in
      ⊎_elim (λ h. omega (arith, h, n)) (λ h. omega (arith, h.1, z)) l

  pub sent_once : (ks : List Call) → Admissible Z ks → (c : ℕ) (b b' : Party) (q : ℕ) (o o' : Offer)
      → SentBy Z G ks (A.Client c) b (message c q (block_is send o)) → SentBy Z G ks (A.Client c) b' (message c q (block_is send o')) → agreed o ≡ agreed o'
  sent_once [] adm c b b' q o o' u w = absurd u
  sent_once (k ∷ ks) adm c b b' q o o' (inr u) (inr w) = sent_once ks adm.1 c b b' q o o' u w
  sent_once (k ∷ ks) adm c b b' q o o' (inr u) (inl (e, w)) = absurd (not_later ks k adm.1 c b b' q o o' u e w)
  sent_once (k ∷ ks) adm c b b' q o o' (inl (e, u)) (inr w) = absurd (not_later ks k adm.1 c b' b q o' o w e u)
  sent_once (k ∷ ks) adm c b b' q o o' (inl (e, u)) (inl (_, w)) = call_one ks k c e (client_turn Z ks k c) b b' c q c q o o' u w
