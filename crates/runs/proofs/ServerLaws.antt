-- The laws of precedence that concern servers, at each call of an admissible run. Assumes nothing.
use Prim.Native.Nat.{ℕ, suc, ◌%◌, ◌≤◌}
use native.Mathlib.Omega.{arith}
use native.Mathlib.Numerals.{add-one}
use mathlib.Core.Bool.{Bool, true, false, ◌&&◌}
use mathlib.Core.Path.{◌≡◌, refl, ap, sym, ◌∙◌, subst}
use mathlib.Core.Logic.{◌⊎◌, inl, inr, ⊎_elim}
use mathlib.Core.List.{List, ◌∷◌, Memᴰ}
use lib.ListN.{length}
use lib.Dec.{leb}
use borrow.Author.Tests.{leb-true, le-leb}
use Rattle.quorum.specs.Quorum.{Among}
use Rattle.quorum.proofs.Logic.{and_split, and_true}
use Rattle.precedence.specs.Laws as PL
use Rattle.area.proofs.Tests.{pick_yes, pick_no}
use Rattle.frame.specs.declared.Stamp.{Stamp}
use Rattle.frame.specs.declared.Party.{Party}
use Rattle.frame.specs.declared.Party.TheVariants as A
use Rattle.frame.specs.Messages.{get_stamp, ask_read, Message, message}
use Rattle.frame.proofs.Sizes.{Small}
use Rattle.server_rules.specs.State.{reader_of, present_entry}
use Rattle.server_rules.specs.Steps as S
use Rattle.steps.proofs.ServerStamps.{StampFacts, order_facts}
use Rattle.steps.proofs.Keys.{key}
use Rattle.runs.specs.Admissible.{Honest, Proper, Admissible}
use Rattle.runs.specs.World.{Setup, Call, to_server, initial_of}
use Rattle.runs.proofs.Broadcasts.{Agreed, server_at, SentMessage, Takes, effect_of, server_next, server_left_lem, accepts_now, shape, sent_new, message_sent}
use Rattle.runs.proofs.Formation.{heard, in_bounds, formed}
use Rattle.runs.proofs.StampViews.{views, Stamped, stamps, shown}
use Rattle.runs.proofs.Assumed.{Assumed}

key_of : (T c q : ℕ) (x : S.Write) → x.time ≡ T → x.client ≡ c → x.sequence ≡ q → key (record { time = suc T; writer = c; sequence = q }) ≡ key (S.stamp_of x)
key_of T c q x a b d = omega (arith, a, ap (λ y. y % 16) b, ap (λ y. y % 4294967296) d)

module _ (Z : Setup) (G : Assumed Z) (M : Small Z.g) where
  open Z use {H, g, initial_value, faulty_server, faulty_client, state_areas, initial_areas}

  abbrev Vw : PL.Views Call Agreed (Stamped Z G M)
  Vw = views Z G M

  abbrev Ks : PL.Stamps Agreed (Stamped Z G M)
  Ks = stamps Z G M

  within : ℕ → Bool
  within j = leb 1 j && leb j g.n

  pub stamp_at_lem : (ks : List Call) (j : ℕ) → Among g.n j → Vw.present ks j ≡ shown Z G M ks j
  stamp_at_lem ks j is = sym (pick_yes _ _ _ refl (and_true (leb 1 j) (leb j g.n) (le-leb 1 j is.0) (le-leb j g.n is.1)) refl)

  pub outside : (j : ℕ) → Among g.n j ⊎ ((ks : List Call) → Vw.present ks j ≡ Ks.initial)
  outside j = go (leb 1 j && leb j g.n) refl
    where
      go : (b : Bool) → (leb 1 j && leb j g.n) ≡ b → Among g.n j ⊎ ((ks : List Call) → Vw.present ks j ≡ Ks.initial)
      go true e = let w = and_split (leb 1 j) (leb j g.n) e in inl (leb-true 1 j w.0, leb-true j g.n w.1)
      go false e = inr (λ ks. sym (pick_no (leb 1 j && leb j g.n) _ _ refl e refl))

  key_at : (ks : List Call) (j : ℕ) → Among g.n j → Ks.key (Vw.present ks j) ≡ key (server_at Z G M ks j).server.stamp
  key_at ks j is = ap (λ v. key v.0) (stamp_at_lem ks j is)

  module _ (ks : List Call) (k : Call) (adm : Admissible Z ks) (pr : Proper Z ks k) where
    SF : (j : ℕ) (C : Takes Z G M ks k j)
        → StampFacts H g (server_at Z G M ks j).server (server_at Z G M ks j).area (initial_of Z j) C.from C.m (effect_of Z G M C)
    SF j C = order_facts H g G.bounded j (server_at Z G M ks j).server (in_bounds Z G M ks adm j) (server_at Z G M ks j).area (initial_of Z j)
        (shape Z G M ks j) C.from C.m (heard Z G M pr C) C.took.sized C.took.passes

    -- only servers among 1 to n take frames
    one_of : (j : ℕ) → Takes Z G M ks k j → Among g.n j
    one_of j C = let q : Proper Z ks (to_server j C.from C.f C.out C.to) = subst (Proper Z ks) C.is pr in q.0.0

    -- a request of an honest client was sent by it
    asked : (j : ℕ) (C : Takes Z G M ks k j) (c : ℕ) (m : Message) → C.from ≡ A.Client c → C.m ≡ m → m.client ≡ c → faulty_client c ≡ false
        → (b : Party) × SentMessage Z G M ks (A.Client c) b m
    asked j C c m ef em ec h =
        let is : Among 8 c = subst (Among 8) (ap (λ z. z.client) em ∙ ec) C.took.client in
        let r = message_sent Z G M (formed Z G M) adm pr C (subst (Honest Z) (sym ef) (is, h)) in
        (A.Server j, subst (λ a. SentMessage Z G M ks a (A.Server j) m) ef (subst (SentMessage Z G M ks C.from (A.Server j)) em r))

    accepted : (j : ℕ) (C : Takes Z G M ks k j) (tk : S.Write) → Memᴰ tk (effect_of Z G M C).accepted → (c q : ℕ) → tk.client ≡ c → tk.sequence ≡ q
        → Vw.Accepted (k ∷ ks) j c q (tk.time, tk.entry.digests)
    accepted j C tk e c q ec eq = (tk, length ks, accepts_now Z G M ks k j C tk e, ec, eq, refl, refl)

    key_next : (j : ℕ) (C : Takes Z G M ks k j) → Ks.key (Vw.present (k ∷ ks) j) ≡ key (effect_of Z G M C).server.stamp
    key_next j C = key_at (k ∷ ks) j (one_of j C) ∙ ap (λ h. key h.server.stamp) (server_left_lem Z G M ks k j C)

    up_core : (j : ℕ) → key (server_at Z G M ks j).server.stamp ≤ key (server_at Z G M (k ∷ ks) j).server.stamp
    up_core j = ⊎_elim
        (λ e. let q = ap (λ h. key h.server.stamp) e in omega (arith, q))
        (λ N. let q = ap (λ h. key h.server.stamp) N.1 in let u = (SF j N.0).up in omega (arith, q, u))
        (server_next Z G M ks k j)

    pub up : (j : ℕ) → Ks.key (Vw.present ks j) ≤ Ks.key (Vw.present (k ∷ ks) j)
    up j = ⊎_elim
        (λ is. let a = key_at ks j is in let b = key_at (k ∷ ks) j is in let u = up_core j in omega (arith, a, b, u))
        (λ f. let q = ap (λ v. key v.0) (f ks ∙ sym (f (k ∷ ks))) in omega (arith, q))
        (outside j)

    pub ack_new : (j c q : ℕ) → Vw.SentAck (k ∷ ks) j c q
        → Vw.SentAck ks j c q ⊎ ((T : Agreed) × Vw.Accepted (k ∷ ks) j c q T × (Ks.key (Ks.stamped T c q) ≤ Ks.key (Vw.present (k ∷ ks) j)))
    ack_new j c q u = ⊎_elim
        (λ o. inl o)
        (λ N.
        let w = (SF j N.0).ack_accepted (A.Client c) c q N.1 in
        let e = key_of w.0.time c q w.0 refl w.2 w.3 in
        let n = key_next j N.0 in
        inr ((w.0.time, w.0.entry.digests), accepted j N.0 w.0 w.1 c q w.2 w.3, omega (arith, e, n, w.4)))
        (sent_new Z G M ks k j (A.Client c) _ u)

    listens : (c : ℕ) (b : Bool) → (leb 1 c && (leb c 8 && b)) ≡ true → Among 8 c × (b ≡ true)
    listens c b e =
        let w = and_split (leb 1 c) (leb c 8 && b) e in
        let y = and_split (leb c 8) b w.1 in
        ((leb-true 1 c w.0, leb-true c 8 y.0), y.1)

    listening : (c : ℕ) (b : Bool) → Among 8 c → b ≡ true → (leb 1 c && (leb c 8 && b)) ≡ true
    listening c b is e = and_true _ _ (le-leb 1 c is.0) (and_true _ _ (le-leb c 8 is.1) e)

    stamp_path : (x : Stamp) (d : List ℕ) (tk : S.Write) → x ≡ S.stamp_of tk → d ≡ tk.entry.digests
        → ◌≡◌ {A = Stamped Z G M} (x, d) (Ks.stamped (tk.time, tk.entry.digests) tk.client tk.sequence)
    stamp_path x d tk e f =
        let p : S.stamp_of tk ≡ record { time = suc tk.time; writer = tk.client; sequence = tk.sequence } =
        λ i. record { time = add-one tk.time i; writer = tk.client; sequence = tk.sequence } in
        λ i. ((e ∙ p) i, f i)

    pub value_new : (j c q : ℕ) (v : Stamped Z G M) → Vw.SentValue (k ∷ ks) j c q v
        → Vw.SentValue ks j c q v
        ⊎ (((faulty_client c ≡ false → Vw.SentRead ks c q) × (v ≡ Vw.present ks j))
        ⊎ PL.ToListener Ks Vw g.n g.t faulty_server faulty_client ks k j c q v)
    unfolding present_entry
    value_new j c q v u = ⊎_elim
        (λ o. inl (u.0, u.1, o))
        (λ N. inr (⊎_elim
        (λ w. inl (
          asked j N.0 c (message c q ask_read) w.0 w.1 refl,
          (λ i. (w.2 i, (sym u.1 ∙ ap (λ y. y.digests) w.3) i)) ∙ sym (stamp_at_lem ks j (one_of j N.0)),
        ))
        (λ w. inr (record {
          current = w.newest;
          listens = listening c _ w.client w.live;
          above = w.above;
          below = let n = key_next j N.0 in let b = w.below in omega (arith, n, b);
          written = (
            w.tk.client,
            w.tk.sequence,
            (w.tk.time, w.tk.entry.digests),
            accepted j N.0 w.tk w.is w.tk.client w.tk.sequence refl refl,
            stamp_path v.0 v.1 w.tk w.stamp (sym u.1 ∙ ap (λ y. y.digests) w.entry),
          );
        }))
        ((SF j N.0).value_written (A.Client c) c q v.0 u.0 N.1)))
        (sent_new Z G M ks k j (A.Client c) _ u.2)

    pub stamp_new : (j c q T : ℕ) → Vw.SentStamp (k ∷ ks) j c q T
        → Vw.SentStamp ks j c q T ⊎ ((faulty_client c ≡ false → Vw.SentGetStamp ks c q) × (T ≡ Ks.time (Vw.present ks j)))
    stamp_new j c q T u = ⊎_elim
        (λ o. inl o)
        (λ N.
        let w = (SF j N.0).stamped (A.Client c) c q T N.1 in
        inr (asked j N.0 c (message c q get_stamp) w.0 w.1 refl, w.2 ∙ sym (ap (λ v. v.0.time) (stamp_at_lem ks j (one_of j N.0)))))
        (sent_new Z G M ks k j (A.Client c) _ u)

    pub noting : (j c : ℕ) → Vw.listening (k ∷ ks) j c ≡ true
        → ((Vw.listening ks j c ≡ true) × (Vw.newest (k ∷ ks) j c ≡ Vw.newest ks j c) × (Vw.noted (k ∷ ks) j c ≡ Vw.noted ks j c))
        ⊎ ((faulty_client c ≡ false → Vw.SentRead ks c (Vw.newest (k ∷ ks) j c)) × (Vw.noted (k ∷ ks) j c ≡ Ks.key (Vw.present ks j)))
    noting j c l =
        let L = listens c _ l in
        ⊎_elim
        (λ e. inl (same L (ap (λ h. reader_of h.server c) e)))
        (λ N.
        let C = N.0 in
        let r : reader_of (server_at Z G M (k ∷ ks) j).server c ≡ reader_of (effect_of Z G M C).server c = ap (λ h. reader_of h.server c) N.1 in
        ⊎_elim
        (λ w. inl (same L (r ∙ w)))
        (λ w. inr (
          asked j C c (message c (reader_of (server_at Z G M (k ∷ ks) j).server c).sequence ask_read) w.0
              (w.1 ∙ ap (λ y. message c y.sequence ask_read) (sym r)) refl,
          ap (λ y. key y.noted) r ∙ ap key w.2 ∙ sym (key_at ks j (one_of j C)),
        ))
        ((SF j C).noting c (ap (λ y. y.listening) (sym r) ∙ L.1)))
        (server_next Z G M ks k j)
      where
        same : Among 8 c × ((reader_of (server_at Z G M (k ∷ ks) j).server c).listening ≡ true)
            → reader_of (server_at Z G M (k ∷ ks) j).server c ≡ reader_of (server_at Z G M ks j).server c
            → (Vw.listening ks j c ≡ true) × (Vw.newest (k ∷ ks) j c ≡ Vw.newest ks j c) × (Vw.noted (k ∷ ks) j c ≡ Vw.noted ks j c)
        same L e = (listening c _ L.0 (ap (λ y. y.listening) (sym e) ∙ L.1), ap (λ y. y.sequence) e, ap (λ y. key y.noted) e)

    pub present_new : (j : ℕ) → (Vw.present (k ∷ ks) j ≡ Vw.present ks j)
        ⊎ PL.Written Ks Vw g.n g.t faulty_server faulty_client (k ∷ ks) j (Vw.present (k ∷ ks) j)
    unfolding present_entry
    present_new j = ⊎_elim
        (λ is. ⊎_elim
        (λ e. inl (stamp_at_lem (k ∷ ks) j is ∙ (λ i. ((e i).server.stamp, (present_entry g (e i).server.stamp (e i).area (initial_of Z j)).digests))
        ∙ sym (stamp_at_lem ks j is)))
        (λ N.
        let C = N.0 in
        let a = ap (λ h. h.server.stamp) N.1 in
        let b : (present_entry g (server_at Z G M (k ∷ ks) j).server.stamp (server_at Z G M (k ∷ ks) j).area (initial_of Z j)).digests
        ≡ (present_entry g (effect_of Z G M C).server.stamp (effect_of Z G M C).area (initial_of Z j)).digests =
        λ i. (present_entry g (N.1 i).server.stamp (N.1 i).area (initial_of Z j)).digests in
        ⊎_elim
        (λ w. inl (stamp_at_lem (k ∷ ks) j is ∙ (λ i. ((a ∙ w.0) i, (b ∙ w.1) i)) ∙ sym (stamp_at_lem ks j is)))
        (λ w. inr (
          w.0.client,
          w.0.sequence,
          (w.0.time, w.0.entry.digests),
          accepted j C w.0 w.1 w.0.client w.0.sequence refl refl,
          stamp_at_lem (k ∷ ks) j is ∙ stamp_path _ _ w.0 (a ∙ w.2) (b ∙ w.3),
        ))
        (SF j C).present_new)
        (server_next Z G M ks k j))
        (λ f. inl (f (k ∷ ks) ∙ sym (f ks)))
        (outside j)
