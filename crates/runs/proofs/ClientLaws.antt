-- The laws of precedence that concern clients, at each call of an admissible run. Assumes nothing.
use Rattle.frame.specs.Refusals.{fine}
use Rattle.std.specs.Prelude.{Ok}
use Prim.Native.Nat.{ℕ, ◌-◌, ◌≤◌}
use native.Mathlib.Omega.{arith}
use mathlib.Core.Bool.{true, false}
use mathlib.Core.Path.{◌≡◌, refl, ap, sym, ◌∙◌, subst}
use mathlib.Core.Logic.{◌⊎◌, inl, inr, ⊎_elim}
use mathlib.Core.Option.{some}
use mathlib.Core.List.{List, [], ◌∷◌, Memᴰ}
use lib.ListN.{length}
use Rattle.quorum.specs.Quorum.{Among}
use Rattle.quorum.proofs.Logic.{impossible}
use Rattle.quorum.proofs.Quorums.{AtLeast, at_least_map}
use Rattle.precedence.specs.Laws as PL
use Rattle.frame.specs.declared.Party.{Party}
use Rattle.frame.specs.declared.Party.TheVariants as A
use Rattle.frame.specs.Frames.{opened, message_in, header_for}
use Rattle.frame.specs.Messages.{value_is, Message, message, number_in, Formed}
use Rattle.frame.proofs.Converse.{formed_opened}
use Rattle.frame.proofs.RoundTrip.{opened_build}
use Rattle.frame.proofs.Sizes.{Small}
use Rattle.server_rules.proofs.Parts.{put_cases, put_same}
use Rattle.client_rules.specs.declared.Client.{Client}
use Rattle.client_rules.specs.declared.Phase.TheVariants as F
use Rattle.client_rules.specs.Rows.{Found, Kept, row_view}
use Rattle.client_rules.specs.State.{heard_of}
use Rattle.client_rules.specs.Steps as C
use Rattle.client_rules.specs.Tests as CT
use Rattle.server_rules.proofs.Passing.{is_server}
use Rattle.client_rules.proofs.Shapes.{shape_of, shape_length}
use Rattle.client_rules.proofs.CallFacts.{time_of, ClientShape, client_shape_fresh, ClientFacts, KnowsV, Brought}
use Rattle.client_rules.proofs.CallFacts.{Nought, quiet_facts, effect_facts, read_facts, write_facts}
use Rattle.steps.proofs.ClientTaken.{Taken, Delivered, refused, taken, delivered, passed}
use Rattle.runs.specs.Admissible.{Named, Honest, Proper, Admissible}
use Rattle.runs.specs.World.{Setup, Call, to_server, to_client, begin_read, begin_write, caller, ClientSide}
use Rattle.runs.specs.World.{lent_to, client_effect, read_effect, write_effect, start, step, run, sends}
use Rattle.runs.specs.Events as Rn
use Rattle.runs.proofs.Broadcasts.{Agreed, SentMessage, sent_message}
use Rattle.runs.proofs.Formation.{formed}
use Rattle.runs.proofs.StampViews.{views, Stamped}
use Rattle.runs.proofs.Roomy.{roomy, roomy_long, roomy_same}
use Rattle.runs.proofs.Assumed.{Assumed}

module _ (Z : Setup) (G : Assumed Z) (M : Small Z.g) where
  open Z use {H, g, initial_value, faulty_server, faulty_client, rows_areas}

  abbrev Vw : PL.Views Call Agreed (Stamped Z G M)
  Vw = views Z G M

  abbrev pub home : List Call → ℕ → ClientSide
  home ks c = (run Z ks).clients c

  -- a client's rows area, where it is long enough
  abbrev pub rows : List Call → ℕ → List ℕ
  rows ks c = roomy (home ks c).area

  -- what a call ended
  abbrev ended : List Call → Call → C.Event
  ended ks (to_server i from f out to) = C.nothing
  ended ks (to_client c from f lent result out to) = (client_effect Z (run Z ks) c from f lent result out to).event
  ended ks (begin_read c out to) = (read_effect Z (run Z ks) c out to).event
  ended ks (begin_write c v out to) = (write_effect Z (run Z ks) c v out to).event

  -- what a call on client c does
  pub record Acts (ks : List Call) (k : Call) (c : ℕ) : Type 1 where
    pub N : ℕ → Message → Type 0
    pub facts : ClientFacts H g M G.bounded.servers_high c (home ks c).client (rows ks c) N (home (k ∷ ks) c).client (rows (k ∷ ks) c)
        (sends Z (run Z ks) k) (ended ks k)
    pub brought : (j : ℕ) (m : Message) → Among g.n j → faulty_server j ≡ false → N j m → SentMessage Z G M ks (A.Server j) (A.Client c) m

  pub cli_cases : (ks : List Call) (k : Call) (c : ℕ) → (home (k ∷ ks) c ≡ home ks c) ⊎ (caller k ≡ A.Client c)
  unfolding run step
  cli_cases ks (to_server i from f out to) c = inl refl
  cli_cases ks (to_client d from f lent result out to) c = ⊎_elim (λ w. inr (ap A.Client (sym w.0))) (λ w. inl w) (put_cases (run Z ks).clients d _ c)
  cli_cases ks (begin_read d out to) c = ⊎_elim (λ w. inr (ap A.Client (sym w.0))) (λ w. inl w) (put_cases (run Z ks).clients d _ c)
  cli_cases ks (begin_write d v out to) c = ⊎_elim (λ w. inr (ap A.Client (sym w.0))) (λ w. inl w) (put_cases (run Z ks).clients d _ c)

  -- an honest server's frame that a client takes was sent by it
  frame_from : (ks : List Call) → Admissible Z ks → (c : ℕ) (from : Party) (f : List ℕ) → Named Z ks from (A.Client c) f
      → (s : Client) (v : List ℕ) (m : Message) → Taken H g c s v from f m → Honest Z from → SentMessage Z G M ks from (A.Client c) m
  frame_from ks adm c from f q s v m T h =
      let w = sent_message Z G M ks from (A.Client c) f (q T.header T.opens h) in
      let b = opened_build g G.bounded w.0 (formed Z G M ks adm from (A.Client c) w.0 h w.1) in
      let o : opened g f ≡ Ok (header_for w.0) = ap (opened g) (sym w.2) ∙ b.opens in
      let e : T.header ≡ header_for w.0 = cc (T.opens, o) in
      let same : w.0 ≡ m = sym b.says ∙ (λ i. message_in g (sym e i) (w.2 i)) ∙ T.says in
      subst (SentMessage Z G M ks from (A.Client c)) same w.1

  module _ (ks : List Call) (adm : Admissible Z ks) where
    abbrev Of : (c : ℕ) (N : ℕ → Message → Type 0) → C.Effect → Type 0
    Of c N r = ClientFacts H g M G.bounded.servers_high c (home ks c).client (rows ks c) N r.client (roomy r.area) r.sends r.event

    record Acts' (c : ℕ) (r : C.Effect) : Type 1 where
      N : ℕ → Message → Type 0
      facts : Of c N r
      brought : (j : ℕ) (m : Message) → Among g.n j → faulty_server j ≡ false → N j m → SentMessage Z G M ks (A.Server j) (A.Client c) m

    by_frame : (c : ℕ) → ClientShape (home ks c).client (rows ks c) → (from : Party) (f lent result out to : List ℕ)
        → Proper Z ks (to_client c from f lent result out to)
        → (v : List ℕ) {r : C.Effect} → Delivered H g c (home ks c).client (home ks c).area v from f r → Acts' c r
    unfolding CT.order_test
    by_frame c X from f lent result out to pr v {r} (refused e) = record {
      N = Nought H g M G.bounded.servers_high c;
      facts = subst (Of c (Nought H g M G.bounded.servers_high c)) (sym e)
          (quiet_facts H g M G.bounded.servers_high c (home ks c).client (rows ks c) (Nought H g M G.bounded.servers_high c) X);
      brought = λ j m is ok n. absurd n;
    }
    by_frame c X from f lent result out to pr v {r} (taken m T room e) =
        let s = (home ks c).client in
        let a = (home ks c).area in
        let P = passed H g c s from m T.passes in
        let j = is_server g from P.server in
        let fm : Formed g m = subst (Formed g) T.says (formed_opened g f T.header pr.1 T.opens) in
        let er : r ≡ C.effect H g c s a v (A.Server j.0) m = e ∙ (λ i. C.effect H g c s a v (j.1 i) m) in
        let nb : number_in from ≡ j.0 = ap number_in j.1 in
        let b = C.effect H g c s a v (A.Server j.0) m in
        let N : ℕ → Message → Type 0 = Brought H g M G.bounded.servers_high c j.0 m in
        let lb : length b.area ≡ length a = shape_length H g c s a v j.0 (shape_of H g c s a v (A.Server j.0) m) in
        record {
          N = N;
          facts =
              subst (Of c N) (sym er)
              (subst (λ y. ClientFacts H g M G.bounded.servers_high c s y N b.client (roomy b.area) b.sends b.event) (sym (roomy_same a room))
              (subst (λ y. ClientFacts H g M G.bounded.servers_high c s a N b.client y b.sends b.event)
              (sym (roomy_same b.area (omega (arith, room, lb))))
              (effect_facts H g M G.bounded.servers_high c s a v (subst (ClientShape s) (roomy_same a room) X) j.0 m.client m.sequence
              m.body j.2 fm.body P.owner
              (subst (λ y. CT.order_test H g c s y m.sequence m.body ≡ fine) nb P.order))));
          brought = λ i m' is ok n.
              let ef : from ≡ A.Server i = j.1 ∙ ap A.Server n.0 in
              let h : Honest Z from = subst (Honest Z) (sym ef) (is, ok) in
              let u = frame_from ks adm c from f pr.2 s v m T h in
              subst (λ y. SentMessage Z G M ks y (A.Client c) m') ef (subst (SentMessage Z G M ks from (A.Client c)) n.1 u);
        }

    to_acts : (k : Call) (c : ℕ) (r : C.Effect) (h : ClientSide) → home (k ∷ ks) c ≡ h → h.client ≡ r.client → h.area ≡ r.area
        → sends Z (run Z ks) k ≡ r.sends → ended ks k ≡ r.event → Acts' c r → Acts ks k c
    to_acts k c r h e ec ea es ev Q = record {
      N = Q.N;
      facts =
          subst (λ y. ClientFacts H g M G.bounded.servers_high c (home ks c).client (rows ks c) Q.N y.client (roomy y.area)
          (sends Z (run Z ks) k) (ended ks k)) (sym e)
          (rw (ec, ea, es, ev) Q.facts);
      brought = Q.brought;
    }

    on_client : (k : Call) → Proper Z ks k → (c : ℕ) → ClientShape (home ks c).client (rows ks c) → caller k ≡ A.Client c → Acts ks k c
    unfolding run step sends
    on_client (to_server i from f out to) pr c X e = impossible (cc)
    on_client (to_client d from f lent result out to) pr c X e =
        let z : c ≡ d = cc in
        subst (λ y. Acts ks (to_client d from f lent result out to) y) (sym z)
        (to_acts (to_client d from f lent result out to) d (client_effect Z (run Z ks) d from f lent result out to) _
        (put_same (run Z ks).clients d _) refl refl refl refl
        (by_frame d (subst (λ y. ClientShape (home ks y).client (rows ks y)) z X) from f lent result out to pr _
        (delivered H g d (home ks d).client (home ks d).area (lent_to Z (run Z ks) d lent) from f result out to)))
    on_client (begin_read d out to) pr c X e =
        let z : c ≡ d = cc in
        let Y : ClientShape (home ks d).client (rows ks d) = subst (λ y. ClientShape (home ks y).client (rows ks y)) z X in
        subst (λ y. Acts ks (begin_read d out to) y) (sym z) (record {
          N = Nought H g M G.bounded.servers_high d;
          facts = subst
              (λ y. ClientFacts H g M G.bounded.servers_high d (home ks d).client (rows ks d) (Nought H g M G.bounded.servers_high d) y.client
              (roomy y.area) (read_effect Z (run Z ks) d out to).sends (read_effect Z (run Z ks) d out to).event)
              (sym (put_same (run Z ks).clients d _)) (read_facts H g M G.bounded.servers_high d (home ks d).client (rows ks d) Y out to);
          brought = λ j m is ok n. absurd n;
        })
    on_client (begin_write d v out to) pr c X e =
        let z : c ≡ d = cc in
        let Y : ClientShape (home ks d).client (rows ks d) = subst (λ y. ClientShape (home ks y).client (rows ks y)) z X in
        subst (λ y. Acts ks (begin_write d v out to) y) (sym z) (record {
          N = Nought H g M G.bounded.servers_high d;
          facts = subst
              (λ y. ClientFacts H g M G.bounded.servers_high d (home ks d).client (rows ks d) (Nought H g M G.bounded.servers_high d) y.client
              (roomy y.area) (write_effect Z (run Z ks) d v out to).sends (write_effect Z (run Z ks) d v out to).event)
              (sym (put_same (run Z ks).clients d _)) (write_facts H g M G.bounded.servers_high d (home ks d).client (rows ks d) Y v out to);
          brought = λ j m is ok n. absurd n;
        })

  pub client_shapes : (ks : List Call) → Admissible Z ks → (c : ℕ) → ClientShape (home ks c).client (rows ks c)
  unfolding run start
  client_shapes [] adm c = client_shape_fresh (roomy (rows_areas c)) (roomy_long (rows_areas c))
  client_shapes (k ∷ ks) adm c = ⊎_elim
      (λ e. subst (λ h. ClientShape h.client (roomy h.area)) (sym e) (client_shapes ks adm.1 c))
      (λ e. (on_client ks adm.1 k adm.0 c (client_shapes ks adm.1 c) e).facts.client_shape)
      (cli_cases ks k c)

  module _ (ks : List Call) (k : Call) (adm : Admissible Z ks) (pr : Proper Z ks k) where
    pub act : (c : ℕ) → caller k ≡ A.Client c → Acts ks k c
    act c e = on_client ks adm k pr c (client_shapes ks adm c) e

    pub reads_up : (c : ℕ) → Vw.reads ks c ≤ Vw.reads (k ∷ ks) c
    reads_up c = ⊎_elim (λ e. let q = ap (λ h. h.client.reads) e in omega (arith, q)) (λ e. (act c e).facts.reads_up) (cli_cases ks k c)

    pub writes_up : (c : ℕ) → Vw.writes ks c ≤ Vw.writes (k ∷ ks) c
    writes_up c = ⊎_elim (λ e. let q = ap (λ h. h.client.writes) e in omega (arith, q)) (λ e. (act c e).facts.writes_up) (cli_cases ks k c)

    pub read_new : (c q : ℕ) → Vw.SentRead (k ∷ ks) c q → Vw.SentRead ks c q ⊎ (q ≤ Vw.reads (k ∷ ks) c)
    read_new c q u = ⊎_elim (λ w. inr ((act c w.0).facts.r_sent u.0 c q w.1)) (λ o. inl (u.0, o)) u.1

    pub get_stamp_new : (c q : ℕ) → Vw.SentGetStamp (k ∷ ks) c q → Vw.SentGetStamp ks c q ⊎ (q ≤ Vw.writes (k ∷ ks) c)
    get_stamp_new c q u = ⊎_elim (λ w. inr ((act c w.0).facts.g_sent u.0 c q w.1)) (λ o. inl (u.0, o)) u.1

    pub ack_kept : (c j : ℕ) → Among g.n j → faulty_server j ≡ false → Vw.KeptAck (k ∷ ks) c j
        → (Vw.writes (k ∷ ks) c ≡ Vw.writes ks c) × (Vw.KeptAck ks c j ⊎ Vw.SentAck ks j c (Vw.writes ks c))
    ack_kept c j is ok u = ⊎_elim
        (λ e. (ap (λ h. h.client.writes) e, inl (subst (λ h. (h.client.phase ≡ F.Acking) × (heard_of h.client j ≡ true)) e u)))
        (λ e.
        let Q = act c e in
        let w = Q.facts.a_kept j is u.0 u.1 in
        (w.0, ⊎_elim (λ y. inl y) (λ y. inr (Q.brought j _ is ok y)) w.1))
        (cli_cases ks k c)

    pub stamp_kept : (c j T : ℕ) → Among g.n j → faulty_server j ≡ false → Vw.KeptStamp (k ∷ ks) c j T
        → (Vw.writes (k ∷ ks) c ≡ Vw.writes ks c) × (Vw.KeptStamp ks c j T ⊎ Vw.SentStamp ks j c (Vw.writes ks c) T)
    stamp_kept c j T is ok u = ⊎_elim
        (λ e. (ap (λ h. h.client.writes) e, inl (subst (λ h. (h.client.phase ≡ F.Asking) × (time_of h.client j ≡ some T)) e u)))
        (λ e.
        let Q = act c e in
        let w = Q.facts.t_kept j T is u.0 u.1 in
        (w.0, ⊎_elim (λ y. inl y) (λ y. inr (Q.brought j _ is ok y)) w.1))
        (cli_cases ks k c)

    -- what a client knows of a kept value
    value_known : (c : ℕ) (e : caller k ≡ A.Client c) (j : ℕ) (y : Kept) (v : Stamped Z G M) → y.stamp ≡ v.0 → y.entry.digests ≡ v.1 → Among g.n j
        → faulty_server j ≡ false
        → KnowsV H g M G.bounded.servers_high c (home ks c).client (rows ks c) (act c e).N j y
        → Vw.KeptValue ks c j v ⊎ Vw.SentValue ks j c (Vw.reads ks c) v
    value_known c e j y v es ed is ok (inl w) = inl (w.0, y, es, ed, w.1)
    value_known c e j y v es ed is ok (inr w) =
        inr (
          y.entry,
          ed,
          subst (λ x. SentMessage Z G M ks (A.Server j) (A.Client c) (message c (home ks c).client.reads (value_is x y.entry))) es
              ((act c e).brought j _ is ok w),
        )

    pub value_kept : (c j : ℕ) (v : Stamped Z G M) → Among g.n j → faulty_server j ≡ false → Vw.KeptValue (k ∷ ks) c j v
        → (Vw.reads (k ∷ ks) c ≡ Vw.reads ks c) × (Vw.KeptValue ks c j v ⊎ Vw.SentValue ks j c (Vw.reads ks c) v)
    value_kept c j v is ok u = ⊎_elim
        (λ e. (
          ap (λ h. h.client.reads) e,
          inl (subst (λ h. (h.client.phase ≡ F.Reading) × (y : Kept) × (y.stamp ≡ v.0) × (y.entry.digests ≡ v.1)
              × Memᴰ y (row_view g h.client (roomy h.area) j)) e u),
        ))
        (λ e.
        let w = (act c e).facts.v_kept j u.1 is u.0 u.4 in
        (w.0, value_known c e j u.1 v u.2 u.3 is ok w.1))
        (cli_cases ks k c)

    pub time_new : (c q T : ℕ) → Vw.SentTime (k ∷ ks) c q T
        → Vw.SentTime ks c q T
        ⊎ ((q ≡ Vw.writes ks c) × AtLeast g.n (g.n - g.t)
        (λ j. faulty_server j ≡ false → (T' : ℕ) × (T' ≤ T) × (Vw.KeptStamp ks c j T' ⊎ Vw.SentStamp ks j c (Vw.writes ks c) T')))
    time_new c q T u = ⊎_elim
        (λ n.
        let Q = act c n.0 in
        let w = Q.facts.t_sent u.0 c q u.1 n.1 in
        inr (w.0, at_least_map (λ j is f ok. (f.0, omega (arith, f.1, u.2), ⊎_elim (λ y. inl y) (λ y. inr (Q.brought j _ is ok y)) f.2)) w.1))
        (λ o. inl (u.0, u.1, u.2, o)) u.3

    wrote_ev : (k' : Call) (c q : ℕ) → Rn.EndsWrite Z c q ks k' → (caller k' ≡ A.Client c) × ((home ks c).client.writes ≡ q) × (ended ks k' ≡ C.written)
    wrote_ev (to_server i from f out to) c q u = absurd u
    wrote_ev (to_client d from f lent result out to) c q u = (ap A.Client (sym u.0), ap (λ y. (home ks y).client.writes) u.0 ∙ u.1, u.2)
    wrote_ev (begin_read d out to) c q u = absurd u
    wrote_ev (begin_write d v out to) c q u = absurd u

    read_ev : (k' : Call) (c q : ℕ) (x : Found) → Rn.StopsRead Z c q x ks k'
        → (caller k' ≡ A.Client c) × ((home ks c).client.reads ≡ q) × (ended ks k' ≡ C.stopped x)
    read_ev (to_server i from f out to) c q x u = absurd u
    read_ev (to_client d from f lent result out to) c q x u = (ap A.Client (sym u.0), ap (λ y. (home ks y).client.reads) u.0 ∙ u.1, u.2)
    read_ev (begin_read d out to) c q x u = absurd u
    read_ev (begin_write d v out to) c q x u = absurd u

    pub write_ended_new : (c q : ℕ) → Vw.WriteEnded (k ∷ ks) c q
        → Vw.WriteEnded ks c q
        ⊎ ((q ≡ Vw.writes ks c) × AtLeast g.n (g.n - g.t) (λ j. faulty_server j ≡ false → Vw.KeptAck ks c j ⊎ Vw.SentAck ks j c (Vw.writes ks c)))
    write_ended_new c q u = ⊎_elim
        (λ n.
        let w = wrote_ev k c q n.1 in
        let Q = act c w.0 in
        inr (sym w.1, at_least_map (λ j is f ok. ⊎_elim (λ y. inl y) (λ y. inr (Q.brought j _ is ok y)) f) (Q.facts.write_why w.2)))
        (λ o. inl (u.0, o)) u.1

    pub read_ended_new : (c q : ℕ) (v : Stamped Z G M) → Vw.ReadEnded (k ∷ ks) c q v
        → Vw.ReadEnded ks c q v
        ⊎ ((q ≡ Vw.reads ks c)
        × AtLeast g.n (g.n - g.t) (λ j. faulty_server j ≡ false → Vw.KeptValue ks c j v ⊎ Vw.SentValue ks j c (Vw.reads ks c) v))
    read_ended_new c q v u = ⊎_elim
        (λ n.
        let w = read_ev k c q u.0 n.1 in
        inr (
          sym w.1,
          at_least_map (λ j is f ok. value_known c w.0 j f.0 v (f.1 ∙ u.3) (f.2 ∙ u.4) is ok f.3) ((act c w.0).facts.read_why u.0 w.2),
        ))
        (λ o. inl (u.0, u.1, o, u.3, u.4)) u.2
