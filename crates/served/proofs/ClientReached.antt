-- In a finished run each answer that an honest server sent to an honest client is past there: the only place where a client's refusals occur. Of such an answer
-- only 10, 12 and a step are possible, and 12 says that it is past. Assumes nothing.
use Rattle.std.specs.Prelude.{Ok, Err}
use Prim.Native.Nat.{ℕ, ◌≤◌}
use native.Mathlib.Omega.{arith}
use mathlib.Core.Bool.{Bool, true, false, not, ◌&&◌}
use mathlib.Core.Path.{◌≡◌, refl, ap, sym, ◌∙◌, subst}
use mathlib.Core.Logic.{◌⊎◌, inl, inr, ⊎_elim}
use mathlib.Core.List.{List, [], ◌∷◌}
use lib.ListN.{length, replicate, length-replicate}
use lib.Dec.{ltb, eqb}
use borrow.Author.Tests.{le-ltb, le-leb, eq-eqb}
use Rattle.quorum.specs.Quorum.{Among}
use Rattle.quorum.proofs.Logic.{impossible}
use Rattle.precedence.proofs.Precedence as PP
use Rattle.area.specs.Area.{pick}
use Rattle.area.specs.Responses.{refusal_number}
use Rattle.blocks.specs.declared.Params.{Params}
use Rattle.group_rules.specs.Coded.{fits, fit_test}
use Rattle.frame.specs.declared.Party.TheVariants as A
use Rattle.frame.specs.declared.Refusal.TheVariants as X
use Rattle.frame.specs.Chunks.{rows_bytes}
use Rattle.frame.specs.Frames.{build, opened, message_in, header_for}
use Rattle.frame.specs.Messages.{send, echo, ready, Body, get_stamp, ack, ask_read, read_complete, stamp_is}
use Rattle.frame.specs.Messages.{block_is, value_is, report, Message, message, good, judged_by, Formed}
use Rattle.frame.specs.Params.{client_frames, out_room, to_room}
use Rattle.frame.specs.Refusals.{and_then, Verdict, fine}
use Rattle.frame.proofs.RoundTrip.{opened_build}
use Rattle.frame.proofs.Sizes.{Small}
use Rattle.client_rules.specs.declared.Phase.{Phase}
use Rattle.client_rules.specs.declared.Client.{Client}
use Rattle.client_rules.specs.declared.Phase.TheVariants as F
use Rattle.client_rules.specs.Delivery as CD
use Rattle.client_rules.specs.State.{writing}
use Rattle.client_rules.specs.Steps as C
use Rattle.client_rules.specs.Tests as CT
use Rattle.runs.specs.Admissible.{Honest, Proper, Admissible}
use Rattle.runs.specs.Events.{At}
use Rattle.runs.specs.World.{Setup, Call, to_server, to_client, begin_read, begin_write, lent_to, run}
use Rattle.runs.proofs.Agreement.{small}
use Rattle.runs.proofs.Assumed.{Assumed}
use Rattle.runs.proofs.Broadcasts.{sent_message}
use Rattle.runs.proofs.Formation.{formed, validity}
use Rattle.runs.proofs.OrderLaws.{params_fine, fresh, lawful_run}
use Rattle.runs.proofs.ReadOnce.{written_sized}
use Rattle.runs.proofs.StampViews.{views, stamps}
use Rattle.runs.proofs.Written.{lent_own}
use Rattle.taking.proofs.Readers.{Right}
use Rattle.served.specs.Finished.{Final, client_answer, Answered, NoStep, Finished}
use Rattle.served.proofs.Clients.{home, takes_of}
use Rattle.served.proofs.ClientState.{SentBy, Doing, stands}
use Rattle.served.proofs.ClientPast.{AnswerPast, past_onward, client_onward, taken_past, Begun, stale_past}
use Rattle.served.proofs.ClientWords.{words}
use Rattle.served.proofs.ServerPast.{refusal_in, rooms_cases, sent_frame}
use Rattle.served.proofs.ServerWords.{Fitting, server_word}

-- the test of the lent areas says nothing or 10
room_cases : (g : Params) (area result out to : ℕ) → (CT.room_test g area result out to ≡ fine) ⊎ (CT.room_test g area result out to ≡ Err X.Room)
unfolding CT.room_test CT.send_room
room_cases g area result out to =
    rooms_cases (ltb area rows_bytes) (ltb result g.size) (ltb out (out_room g (client_frames g))) (ltb to (to_room (client_frames g)))

room_fine : (g : Params) (area result out to : ℕ) → rows_bytes ≤ area → g.size ≤ result → out_room g (client_frames g) ≤ out → to_room (client_frames g) ≤ to
    → CT.room_test g area result out to ≡ fine
unfolding CT.room_test CT.send_room pick
room_fine g area result out to a b c d =
    rw (le-ltb area rows_bytes a, le-ltb result g.size b, le-ltb out (out_room g (client_frames g)) c, le-ltb to (to_room (client_frames g)) d)

module _ (Z : Setup) (G : Assumed Z) where
  open Z use {H, g, faulty_server, faulty_client}

  abbrev M : Small g
  M = small Z G

  -- ---- an answer of an honest server

  -- what an honest server sends to client c is for it, and fits
  pub record Fair (j c : ℕ) (m : Message) : Type 0 where
    pub server : Among g.n j
    pub honest : faulty_server j ≡ false
    pub client : Among 8 c
    pub fair_client : faulty_client c ≡ false
    pub said : Formed g m
    pub right : Right g (A.Client c) m.client m.body
    pub fit : Fitting Z G j m.body

  right_answer : (c d : ℕ) (b : Body) → Right g (A.Client c) d b → (CT.answers b ≡ true) × (CT.owner_right c d b ≡ true)
  unfolding CT.answers CT.owner_right
  right_answer c d get_stamp r = absurd r
  right_answer c d ack r = (refl, eq-eqb d c (cc r))
  right_answer c d ask_read r = absurd r
  right_answer c d read_complete r = absurd r
  right_answer c d (stamp_is T) r = (refl, eq-eqb d c (cc r))
  right_answer c d (block_is send o) r = absurd r
  right_answer c d (block_is echo o) r = impossible (cc r.2)
  right_answer c d (block_is ready o) r = impossible (cc r.2)
  right_answer c d (value_is x e) r = (refl, eq-eqb d c (cc r))
  right_answer c d (report T) r = (refl, refl)

  -- ---- it is of an operation that the client began

  begun : (ks : List Call) → Admissible Z ks → (j c : ℕ) → faulty_client c ≡ false → (q : ℕ) (b : Body) → SentBy Z G ks (A.Server j) (A.Client c) (message c q b)
      → Begun Z G (home Z ks c).client q b
  begun ks adm j c h q get_stamp u = tt
  begun ks adm j c h q ack u =
      let (T, (x, p, v, ec, eq, et, ed), l) = PP.ack_accepted (stamps Z G M) (views Z G M) g.n g.t faulty_server faulty_client (fresh Z G M) ks
      (lawful_run Z G M ks adm) j c q u in
      let w = validity Z G ks adm j p x (ap faulty_client ec ∙ h) v in
      let s : SentBy Z G ks (A.Client c) w.0 (message c q (block_is send w.1)) =
      subst (λ q. SentBy Z G ks (A.Client c) w.0 (message c q (block_is send w.1))) eq
      (subst (λ c. SentBy Z G ks (A.Client c) w.0 (message c x.sequence (block_is send w.1))) ec w.3) in
      (words Z G ks adm c w.0 (message c q (block_is send w.1)) s).4
  begun ks adm j c h q ask_read u = tt
  begun ks adm j c h q read_complete u = tt
  begun ks adm j c h q (stamp_is T) u =
      PP.time_begun (stamps Z G M) (views Z G M) g.n g.t faulty_server faulty_client (fresh Z G M) ks (lawful_run Z G M ks adm) j c q T h u
  begun ks adm j c h q (block_is z o) u = tt
  begun ks adm j c h q (value_is x e) u =
      PP.value_begun (stamps Z G M) (views Z G M) g.n g.t faulty_server faulty_client (fresh Z G M) ks (lawful_run Z G M ks adm) j c q
      (x, e.digests) h (e, refl, u)
  begun ks adm j c h q (report T) u = tt

  -- whatever client it names
  begun_by : (ks : List Call) → Admissible Z ks → (j c : ℕ) → faulty_client c ≡ false → (d q : ℕ) (b : Body) → Right g (A.Client c) d b
      → SentBy Z G ks (A.Server j) (A.Client c) (message d q b) → Begun Z G (home Z ks c).client q b
  begun_by ks adm j c h d q get_stamp r u = tt
  begun_by ks adm j c h d q ack r u =
      let e : d ≡ c = cc r in begun ks adm j c h q ack (subst (λ d. SentBy Z G ks (A.Server j) (A.Client c) (message d q ack)) e u)
  begun_by ks adm j c h d q ask_read r u = tt
  begun_by ks adm j c h d q read_complete r u = tt
  begun_by ks adm j c h d q (stamp_is T) r u =
      let e : d ≡ c = cc r in begun ks adm j c h q (stamp_is T) (subst (λ d. SentBy Z G ks (A.Server j) (A.Client c) (message d q (stamp_is T))) e u)
  begun_by ks adm j c h d q (block_is z o) r u = tt
  begun_by ks adm j c h d q (value_is x y) r u =
      let e : d ≡ c = cc r in begun ks adm j c h q (value_is x y) (subst (λ d. SentBy Z G ks (A.Server j) (A.Client c) (message d q (value_is x y))) e u)
  begun_by ks adm j c h d q (report T) r u = tt

  -- ---- the lent value of an open write has its length

  working : (ks : List Call) (c : ℕ) (p : Phase) → writing p ≡ true → Doing Z G ks c (home Z ks c) p → 1 ≤ (home Z ks c).client.writes
  working ks c F.Idle e d = impossible (cc e)
  working ks c F.Asking e d = d.0
  working ks c F.Acking e d = d.0
  working ks c F.Reading e d = impossible (cc e)

  value_fine : (ks : List Call) → Admissible Z ks → (c : ℕ) (lent : List ℕ)
      → CT.value_test g (home Z ks c).client.phase (length (lent_to Z (run Z ks) c lent)) ≡ fine
  unfolding CT.value_test pick
  value_fine ks adm c lent = go (writing (home Z ks c).client.phase) refl
    where
      long : writing (home Z ks c).client.phase ≡ true → length (lent_to Z (run Z ks) c lent) ≡ g.size
      long e =
          let S = stands Z G ks c in
          let (p, u) = S.opened (working ks c (home Z ks c).client.phase e S.doing) in
          ap length (lent_own Z (run Z ks) c lent e) ∙ (written_sized Z ks adm c (home Z ks c).client.writes p (home Z ks c).value u).0

      go : (b : Bool) → writing (home Z ks c).client.phase ≡ b
          → pick (b && not (eqb (length (lent_to Z (run Z ks) c lent)) g.size)) (Err X.Length) fine ≡ fine
      go true e = ap (λ t. pick (not t) (Err X.Length) fine) (eq-eqb _ _ (long e))
      go false e = refl

  -- ---- what the client answers

  -- taken, or 12
  pass_or_stale : (b : Bool) → (CT.awaited b ≡ fine) ⊎ (CT.awaited b ≡ Err X.Stale)
  unfolding CT.awaited pick
  pass_or_stale true = inl refl
  pass_or_stale false = inr refl

  fit_fine : (b : Bool) → b ≡ true → pick b fine (Err X.Digest) ≡ fine
  unfolding pick
  fit_fine true e = refl
  fit_fine false e = impossible (cc e)

  order : (c : ℕ) (s : Client) (j q : ℕ) (b : Body) → Fitting Z G j b → (CT.order_test H g c s j q b ≡ fine) ⊎ (CT.order_test H g c s j q b ≡ Err X.Stale)
  unfolding CT.order_test fit_test
  order c s j q get_stamp f = inl refl
  order c s j q ack f = pass_or_stale _
  order c s j q ask_read f = inl refl
  order c s j q read_complete f = inl refl
  order c s j q (stamp_is T) f = pass_or_stale _
  order c s j q (block_is z o) f = inl refl
  order c s j q (report T) f = pass_or_stale _
  order c s j q (value_is x e) f = ⊎_elim
      (λ h. inl (ap (λ v. and_then v (fit_test H e j)) h ∙ fit_fine (fits H e j) f))
      (λ h. inr (ap (λ v. and_then v (fit_test H e j)) h))
      (pass_or_stale _)

  module _ (j c : ℕ) (m : Message) (W : Fair j c m) (ks : List Call) (adm : Admissible Z ks) where
    abbrev s : Client
    s = (home Z ks c).client

    abbrev ordered : Verdict
    ordered = CT.order_test H g c s j m.sequence m.body

    abbrev room : List ℕ → List ℕ → List ℕ → List ℕ → Verdict
    room rows result out to = CT.room_test g (length rows) (length result) (length out) (length to)

    judge_is : (rows lent result out to : List ℕ)
        → CT.judge H g c s rows (lent_to Z (run Z ks) c lent) (A.Server j) (build m) result out to ≡ judged_by (and_then (room rows result out to) ordered) m
    unfolding CT.judge CT.judge_opened CT.message_test pick
    judge_is rows lent result out to =
        let b = opened_build g G.bounded m W.said in
        let (a, d) = right_answer c m.client m.body W.right in
        rw (
          params_fine g G.bounded c 8 W.client,
          value_fine ks adm c lent,
          b.opens,
          b.says,
          le-leb 1 j W.server.0,
          le-leb j g.n W.server.1,
          a,
          d,
        ) refl

    answer_by_lem : (v : Verdict) (x : C.Effect) → refusal_number (CD.answer_of (judged_by v m) x) ≡ refusal_in v
    unfolding CD.answer_of
    answer_by_lem (Ok _) x = refl
    answer_by_lem (Err r) x = refl

    answer_is : (rows lent result out to : List ℕ) (v : Verdict) → and_then (room rows result out to) ordered ≡ v
        → client_answer Z (run Z ks) c rows (A.Server j) (build m) lent result out to ≡ refusal_in v
    unfolding CD.delivery CD.outcome_of
    answer_is rows lent result out to v e =
        ap (λ y. refusal_number (CD.answer_of y (CD.delivered H g c s rows (lent_to Z (run Z ks) c lent) (A.Server j) (build m) result out to)))
        (judge_is rows lent result out to ∙ ap (λ v. judged_by v m) e)
        ∙ answer_by_lem v _

    abbrev Past : List Call → Type 0
    Past ks = AnswerPast (home Z ks c).client j m.sequence m.body

    stale_here : SentBy Z G ks (A.Server j) (A.Client c) m → ordered ≡ Err X.Stale → Past ks
    stale_here u o = stale_past Z G c s j m.sequence m.body
        (begun_by ks adm j c W.fair_client m.client m.sequence m.body W.right u) o

    onward : (k : Call) → Past ks → Past (k ∷ ks)
    onward k p = past_onward (client_onward Z G ks k adm c) j m.sequence W.server m.body p

    -- it is taken where it passes
    taken_here : (lent result out to : List ℕ)
        → CT.judge H g c s (home Z ks c).area (lent_to Z (run Z ks) c lent) (A.Server j) (build m) result out to ≡ good m
        → Past (to_client c (A.Server j) (build m) lent result out to ∷ ks)
    taken_here lent result out to e =
        let (t, em, ej) = takes_of Z ks c (A.Server j) (build m) lent result out to m e in
        let i : t.j ≡ j = cc ej in
        let s' = (home Z (to_client c (A.Server j) (build m) lent result out to ∷ ks) c).client in
        subst (λ i. AnswerPast s' i m.sequence m.body) i
        (subst (λ m'. AnswerPast s' t.j m'.sequence m'.body) em
        (taken_past Z G ks (to_client c (A.Server j) (build m) lent result out to) adm c t))

    -- answered with a step or a number other than 10 and 13, it is past
    past_here : SentBy Z G ks (A.Server j) (A.Client c) m → (lent result out to : List ℕ)
        → Final (client_answer Z (run Z ks) c (home Z ks c).area (A.Server j) (build m) lent result out to)
        → Past (to_client c (A.Server j) (build m) lent result out to ∷ ks)
    past_here u lent result out to N = go (room_cases g (length (home Z ks c).area) (length result) (length out) (length to))
        (order c s j m.sequence m.body W.fit)
      where
        area : List ℕ
        area = (home Z ks c).area

        final : (v : Verdict) → and_then (room area result out to) ordered ≡ v → Final (refusal_in v)
        final v e = subst Final (answer_is area lent result out to v e) N

        go : (room area result out to ≡ fine) ⊎ (room area result out to ≡ Err X.Room) → (ordered ≡ fine) ⊎ (ordered ≡ Err X.Stale)
            → Past (to_client c (A.Server j) (build m) lent result out to ∷ ks)
        go (inr z) o = absurd ((final (Err X.Room) (ap (λ r. and_then r ordered) z)).0 refl)
        go (inl z) (inl o) = taken_here lent result out to
            (judge_is area lent result out to ∙ ap (λ v. judged_by v m) (ap (λ r. and_then r ordered) z ∙ o))
        go (inl z) (inr o) = onward _ (stale_here u o)

    -- with room it gives no step now: it is past
    past_now : SentBy Z G ks (A.Server j) (A.Client c) m → NoStep Z (run Z ks) (A.Server j) (A.Client c) (build m) → Past ks
    past_now u N = go (order c s j m.sequence m.body W.fit)
      where
        wide : ℕ → List ℕ
        wide l = replicate l 0

        long : (l : ℕ) → l ≤ length (wide l)
        long l = omega (arith, length-replicate {A = ℕ} l 0)

        rows : List ℕ
        rows = wide rows_bytes

        result : List ℕ
        result = wide g.size

        out : List ℕ
        out = wide (out_room g (client_frames g))

        to : List ℕ
        to = wide (to_room (client_frames g))

        go : (ordered ≡ fine) ⊎ (ordered ≡ Err X.Stale) → Past ks
        go (inr o) = stale_here u o
        go (inl o) =
            let (r, e) = N rows [] result out to (long rows_bytes) (long g.size) (long (out_room g (client_frames g))) (long (to_room (client_frames g))) in
            let f = room_fine g (length rows) (length result) (length out) (length to) (long rows_bytes) (long g.size) (long (out_room g (client_frames g)))
            (long (to_room (client_frames g))) in
            impossible (cc (e, answer_is rows [] result out to fine (ap (λ r. and_then r ordered) f ∙ o)))

  -- a frame that is handed in as an honest server's was sent by it before
  sent_before : (ks : List Call) → Admissible Z ks → (j c : ℕ) (m : Message) → Fair j c m → (f lent result out to : List ℕ) → f ≡ build m
      → Proper Z ks (to_client c (A.Server j) f lent result out to) → SentBy Z G ks (A.Server j) (A.Client c) m
  sent_before ks adm j c m W f lent result out to ef pr =
      let hj : Honest Z (A.Server j) = (W.server, W.honest) in
      let b = opened_build g G.bounded m W.said in
      let o : opened g f ≡ Ok (header_for m) = ap (opened g) ef ∙ b.opens in
      let (m', u, e) = sent_message Z G M ks (A.Server j) (A.Client c) f (pr.2 (header_for m) o hj) in
      let b' = opened_build g G.bounded m' (formed Z G M ks adm (A.Server j) (A.Client c) m' hj u) in
      let h : header_for m' ≡ header_for m = cc (o, ap (opened g) (sym e) ∙ b'.opens) in
      let same : m' ≡ m = sym b'.says ∙ (λ i. message_in g (h i) ((e ∙ ef) i)) ∙ b.says in
      subst (SentBy Z G ks (A.Server j) (A.Client c)) same u

  past_at : (j c : ℕ) (m : Message) → Fair j c m → (ks : List Call) → Admissible Z ks → (p : ℕ) → At (Answered Z (A.Server j) (A.Client c) (build m)) ks p
      → AnswerPast (home Z ks c).client j m.sequence m.body
  past_at j c m W [] adm p u = absurd u
  past_at j c m W (k ∷ ks) adm p (inr u) = onward j c m W ks adm.1 k (past_at j c m W ks adm.1 p u)
  past_at j c m W (to_server i from f out to ∷ ks) adm p (inl u) = impossible (cc u.1.0)
  past_at j c m W (to_client d from f lent result out to ∷ ks) adm p (inl u) =
      let ea = u.1.1 in
      let ef = u.1.2 in
      let N = u.1.3 in
      let cd : c ≡ d = cc u.1.0 in
      let call : to_client c (A.Server j) (build m) lent result out to ≡ to_client d from f lent result out to =
      λ z. to_client (cd z) (ea z) (ef z) lent result out to in
      let pr : Proper Z ks (to_client c (A.Server j) (build m) lent result out to) = subst (Proper Z ks) (sym call) adm.0 in
      subst (λ k. AnswerPast (home Z (k ∷ ks) c).client j m.sequence m.body) call
      (past_here j c m W ks adm.1 (sent_before ks adm.1 j c m W (build m) lent result out to refl pr) lent result out to
      (subst (λ f. Final (client_answer Z (run Z ks) c (home Z ks c).area (A.Server j) f lent result out to)) (sym ef)
      (subst (λ a. Final (client_answer Z (run Z ks) c (home Z ks c).area a f lent result out to)) (sym ea)
      (subst (λ d. Final (client_answer Z (run Z ks) d (home Z ks d).area from f lent result out to)) (sym cd) N))))
  past_at j c m W (begin_read d out to ∷ ks) adm p (inl u) = absurd u.1
  past_at j c m W (begin_write d v out to ∷ ks) adm p (inl u) = absurd u.1

  pub answer_reached : (ks : List Call) → Admissible Z ks → Finished Z ks → (j c : ℕ) (m : Message) → Honest Z (A.Server j) → Honest Z (A.Client c)
      → SentBy Z G ks (A.Server j) (A.Client c) m → AnswerPast (home Z ks c).client j m.sequence m.body
  answer_reached ks adm N j c m hj hc u =
      let (r, f) = server_word Z G ks adm j hj.0 (A.Client c) m u in
      let W : Fair j c m = record {
        server = hj.0;
        honest = hj.1;
        client = hc.0;
        fair_client = hc.1;
        said = formed Z G M ks adm (A.Server j) (A.Client c) m hj u;
        right = r;
        fit = f;
      } in
      ⊎_elim
      (λ (p, v). past_at j c m W ks adm p v)
      (λ x. past_now j c m W ks adm u x)
      (N (A.Server j) (A.Client c) (build m) hj hc (sent_frame Z G ks (A.Server j) (A.Client c) m u))
