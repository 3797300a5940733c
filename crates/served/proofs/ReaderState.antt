-- What an honest server has done for an honest client's read: who listens asked for it and was told of the present value, and who does not has completed it.
-- Assumes nothing.
use Rattle.std.specs.Prelude.{Ok, Err}
use Rattle.frame.specs.Refusals.{Verdict}
use Prim.Native.Nat.{ℕ, ◌≤◌}
use native.Mathlib.Omega.{arith}
use mathlib.Core.Bool.{true, false}
use mathlib.Core.Path.{◌≡◌, refl, ap, sym, ◌∙◌, subst}
use mathlib.Core.Logic.{inl, inr, ⊎_elim}
use mathlib.Core.List.{List, [], ◌∷◌, Memᴰ}
use lib.ListN.{length, get_or, replicate}
use Rattle.quorum.specs.Quorum.{Among}
use Rattle.quorum.proofs.Logic.{impossible}
use Rattle.area.proofs.Sets.{of_copies}
use Rattle.frame.specs.declared.Stamp.{Stamp}
use Rattle.frame.specs.declared.Party.TheVariants as A
use Rattle.frame.specs.Chunks.{entry_at, present_at}
use Rattle.frame.specs.Messages.{Entry, ask_read, read_complete, value_is, Message, message, sending}
use Rattle.frame.proofs.Sizes.{Small}
use Rattle.frame.proofs.StampOrder.{Less, AtMost, less_of, older_of, less_trans}
use Rattle.server_rules.specs.declared.Reader.{Reader}
use Rattle.server_rules.specs.declared.Server.{Server}
use Rattle.server_rules.specs.State.{no_reader, fresh_reader, fresh_server, reader_of, present_entry}
use Rattle.server_rules.specs.Delivery as SD
use Rattle.server_rules.specs.Steps as S
use Rattle.runs.specs.Admissible.{Honest, Proper, Admissible}
use Rattle.runs.specs.World.{Setup, Call, initial_of, start, run}
use Rattle.runs.proofs.Agreement.{small}
use Rattle.runs.proofs.Assumed.{Assumed}
use Rattle.runs.proofs.Broadcasts.{server_at, Takes, effect_of, server_next, server_left_lem, message_sent, shape}
use Rattle.runs.proofs.Formation.{formed}
use Rattle.runs.proofs.OrderLaws.{silent}
use Rattle.taking.proofs.Holding.{presents}
use Rattle.taking.proofs.Readers as R
use Rattle.taking.proofs.Readers.{Note, note, tells, value_told}
use Rattle.served.proofs.ClientState.{SentBy}
use Rattle.served.proofs.ServerState.{sent_now}

fresh_number : (m c : ℕ) → (get_or (replicate m fresh_reader) c no_reader).sequence ≡ 0
unfolding fresh_reader
fresh_number = of_copies (λ r. r.sequence) fresh_reader no_reader 0 refl refl

module _ (Z : Setup) (G : Assumed Z) where
  open Z use {H, g, initial_value, state_areas, initial_areas}

  abbrev M : Small g
  M = small Z G

  abbrev pub reader : List Call → ℕ → ℕ → Reader
  reader ks j c = reader_of (server_at Z G M ks j).server c

  -- the digest list and the stamp of the present value
  abbrev pub list_at : List Call → ℕ → List ℕ
  list_at ks j = (entry_at g (server_at Z G M ks j).area present_at).digests

  abbrev pub stamp_at : List Call → ℕ → Stamp
  stamp_at ks j = (server_at Z G M ks j).server.stamp

  pub record ReaderStands (ks : List Call) (j c : ℕ) : Type 0 where
    pub asked : (reader ks j c).listening ≡ true → SentBy Z G ks (A.Client c) (A.Server j) (message c (reader ks j c).sequence ask_read)
    pub told : (reader ks j c).listening ≡ true
        → (e : Entry) × (e.digests ≡ list_at ks j) × SentBy Z G ks (A.Server j) (A.Client c) (message c (reader ks j c).sequence (value_is (stamp_at ks j) e))
    pub noted : (reader ks j c).listening ≡ true → AtMost (reader ks j c).noted (stamp_at ks j)
    pub ended : (reader ks j c).listening ≡ false → 1 ≤ (reader ks j c).sequence
        → SentBy Z G ks (A.Client c) (A.Server j) (message c (reader ks j c).sequence read_complete)

  start_reader : (j c : ℕ) → ((reader [] j c).sequence ≡ 0) × ((reader [] j c).listening ≡ false)
  unfolding run start SD.construction fresh_server SD.construct_by
  start_reader j c = go (SD.construct_test H g j initial_value (length (state_areas j)) (length (initial_areas j)))
    where
      go : (b : Verdict) → ((reader_of (SD.construct_by H g j b initial_value (state_areas j) (initial_areas j)).server c).sequence ≡ 0)
          × ((reader_of (SD.construct_by H g j b initial_value (state_areas j) (initial_areas j)).server c).listening ≡ false)
      go (Err r) = (fresh_number 9 c, silent 9 c)
      go (Ok _) = (fresh_number 9 c, silent 9 c)

  same : (ks : List Call) (k : Call) (j c : ℕ) → server_at Z G M (k ∷ ks) j ≡ server_at Z G M ks j → ReaderStands ks j c → ReaderStands (k ∷ ks) j c
  same ks k j c e S =
      let er : reader (k ∷ ks) j c ≡ reader ks j c = ap (λ h. reader_of h.server c) e in
      let es : stamp_at (k ∷ ks) j ≡ stamp_at ks j = ap (λ h. h.server.stamp) e in
      let el : list_at (k ∷ ks) j ≡ list_at ks j = ap (λ h. (entry_at g h.area present_at).digests) e in
      record {
        asked = λ u. inr (subst (λ x. SentBy Z G ks (A.Client c) (A.Server j) (message c x.sequence ask_read)) (sym er)
            (S.asked (sym (ap (λ x. x.listening) er) ∙ u)));
        told = λ u.
            let (y, q, v) = S.told (sym (ap (λ x. x.listening) er) ∙ u) in (
              y,
              q ∙ sym el,
              inr (subst (λ x. SentBy Z G ks (A.Server j) (A.Client c) (message c x.sequence (value_is (stamp_at (k ∷ ks) j) y))) (sym er)
                  (subst (λ x. SentBy Z G ks (A.Server j) (A.Client c) (message c (reader ks j c).sequence (value_is x y))) (sym es) v)),
            );
        noted = λ u. subst (λ x. AtMost x.noted (stamp_at (k ∷ ks) j)) (sym er)
            (subst (AtMost (reader ks j c).noted) (sym es) (S.noted (sym (ap (λ x. x.listening) er) ∙ u)));
        ended = λ u l. inr (subst (λ x. SentBy Z G ks (A.Client c) (A.Server j) (message c x.sequence read_complete)) (sym er)
            (S.ended (sym (ap (λ x. x.listening) er) ∙ u) (subst (λ x. 1 ≤ x.sequence) er l)));
      }

  module _ (ks : List Call) (k : Call) (j : ℕ) (adm : Admissible Z ks) (pr : Proper Z ks k) (C : Takes Z G M ks k j) (c : ℕ) (ic : Among 8 c)
      (hc : Z.faulty_client c ≡ false) (T : ReaderStands ks j c) where
    abbrev sv : Server
    sv = (server_at Z G M ks j).server

    abbrev r : S.Effect
    r = effect_of Z G M C

    left_reader : reader (k ∷ ks) j c ≡ reader_of r.server c
    left_reader = ap (λ h. reader_of h.server c) (server_left_lem Z G M ks k j C)

    left_stamp : stamp_at (k ∷ ks) j ≡ r.server.stamp
    left_stamp = ap (λ h. h.server.stamp) (server_left_lem Z G M ks k j C)

    left_list : list_at (k ∷ ks) j ≡ (entry_at g r.area present_at).digests
    left_list = ap (λ h. (entry_at g h.area present_at).digests) (server_left_lem Z G M ks k j C)

    -- the frame is the client's own
    from_client : C.from ≡ A.Client c → (m : Message) → C.m ≡ m → SentBy Z G (k ∷ ks) (A.Client c) (A.Server j) m
    from_client e m x =
        let u = message_sent Z G M (formed Z G M) adm pr C (subst (Honest Z) (sym e) (ic, hc)) in
        inr (subst (λ a. SentBy Z G ks a (A.Server j) m) e (subst (SentBy Z G ks C.from (A.Server j)) x u))

    -- as it is left, r' being the reader, x the stamp and d the digest list
    pub record Left (r' : Reader) (x : Stamp) (d : List ℕ) : Type 0 where
      pub asked : r'.listening ≡ true → SentBy Z G (k ∷ ks) (A.Client c) (A.Server j) (message c r'.sequence ask_read)
      pub told : r'.listening ≡ true → (e : Entry) × (e.digests ≡ d) × SentBy Z G (k ∷ ks) (A.Server j) (A.Client c) (message c r'.sequence (value_is x e))
      pub noted : r'.listening ≡ true → AtMost r'.noted x
      pub ended : r'.listening ≡ false → 1 ≤ r'.sequence → SentBy Z G (k ∷ ks) (A.Client c) (A.Server j) (message c r'.sequence read_complete)

    to_stands : Left (reader_of r.server c) r.server.stamp (entry_at g r.area present_at).digests → ReaderStands (k ∷ ks) j c
    to_stands L =
        let U = subst (λ y. Left y r.server.stamp (entry_at g r.area present_at).digests) (sym left_reader) L in
        let U₂ = subst (λ y. Left (reader (k ∷ ks) j c) y (entry_at g r.area present_at).digests) (sym left_stamp) U in
        let W = subst (λ y. Left (reader (k ∷ ks) j c) (stamp_at (k ∷ ks) j) y) (sym left_list) U₂ in
        record { asked = W.asked; told = W.told; noted = W.noted; ended = W.ended }

    -- the reader stays: the present value stays, or a larger one is told
    stays : Left (reader ks j c) r.server.stamp (entry_at g r.area present_at).digests
    stays = ⊎_elim
        (λ (e, f). record {
          asked = λ u. inr (T.asked u);
          told = λ u. let (y, q, v) = T.told u in (
            y,
            q ∙ ap (λ e. e.digests) (sym f),
            inr (subst (λ x. SentBy Z G ks (A.Server j) (A.Client c) (message c (reader ks j c).sequence (value_is x y))) (sym e) v),
          );
          noted = λ u. subst (AtMost (reader ks j c).noted) (sym e) (T.noted u);
          ended = λ u l. inr (T.ended u l);
        })
        (λ (w, m, e, f, o).
        let above : (reader ks j c).listening ≡ true → Less (reader ks j c).noted (S.stamp_of w) = λ u. ⊎_elim
        (λ z. subst (λ x. Less x (S.stamp_of w)) (sym z) (less_of _ _ o))
        (λ z. less_trans _ _ _ z (less_of _ _ o))
        (T.noted u) in
        record {
          asked = λ u. inr (T.asked u);
          told = λ u. (
            w.entry,
            ap (λ e. e.digests) (sym f),
            subst (λ x. SentBy Z G (k ∷ ks) (A.Server j) (A.Client c) (message c (reader ks j c).sequence (value_is x w.entry))) (sym e)
                (sent_now Z G ks k j C _ _ (tells H g j sv (server_at Z G M ks j).area (initial_of Z j) C.from C.m w m c ic u (older_of _ _ (above u)))),
          );
          noted = λ u. subst (AtMost (reader ks j c).noted) (sym e) (inr (above u));
          ended = λ u l. inr (T.ended u l);
        })
        (presents H g j sv C.from G.bounded (server_at Z G M ks j).area (initial_of Z j) (shape Z G M ks j) C.m C.took.client
        C.took.sized C.took.passes)

    -- a read leaves the present value
    read_stamp : (q : ℕ) → C.m ≡ message c q ask_read → r.server.stamp ≡ sv.stamp
    unfolding S.effect S.on_body S.on_read
    read_stamp q x = ap (λ m. (S.effect H g j sv (server_at Z G M ks j).area (initial_of Z j) C.from m).server.stamp) x

    read_list : (q : ℕ) → C.m ≡ message c q ask_read
        → (present_entry g sv.stamp (server_at Z G M ks j).area (initial_of Z j)).digests ≡ (entry_at g r.area present_at).digests
    unfolding S.effect S.on_body S.on_read present_entry entry_at
    read_list q x = sym (ap (λ m. (entry_at g (S.effect H g j sv (server_at Z G M ks j).area (initial_of Z j) C.from m).area present_at).digests) x)

    by_note : Note sv C.from C.m r c → Left (reader_of r.server c) r.server.stamp (entry_at g r.area present_at).digests
    by_note (R.same e n) = subst (λ y. Left y r.server.stamp (entry_at g r.area present_at).digests) (sym e) stays
    by_note (R.noted q x ef l e) = subst (λ y. Left y r.server.stamp (entry_at g r.area present_at).digests) (sym e) (record {
      asked = λ u. from_client ef _ x;
      told = λ u. (
        present_entry g sv.stamp (server_at Z G M ks j).area (initial_of Z j),
        read_list q x,
        sent_now Z G ks k j C _ _
            (subst (λ y. Memᴰ
            (sending (A.Client c) (message c q (value_is y (present_entry g sv.stamp (server_at Z G M ks j).area (initial_of Z j))))) r.sends)
            (sym (read_stamp q x)) (value_told H g j sv (server_at Z G M ks j).area (initial_of Z j) C.from C.m c q x)),
      );
      noted = λ u. inl (sym (read_stamp q x));
      ended = λ u l. impossible (cc u);
    })
    by_note (R.ended q x ef l e) = subst (λ y. Left y r.server.stamp (entry_at g r.area present_at).digests) (sym e) (record {
      asked = λ u. impossible (cc u);
      told = λ u. impossible (cc u);
      noted = λ u. impossible (cc u);
      ended = λ u l. from_client ef _ x;
    })

    next : ReaderStands (k ∷ ks) j c
    next = to_stands (by_note
        (note H g j sv (shape Z G M ks j).within (server_at Z G M ks j).area (initial_of Z j) C.from C.m C.took.client C.took.passes c))

  pub reader_stands : (ks : List Call) → Admissible Z ks → (j c : ℕ) → Among 8 c → Z.faulty_client c ≡ false → ReaderStands ks j c
  reader_stands [] adm j c ic hc = let (a, b) = start_reader j c in record {
    asked = λ u. impossible (cc (b, u));
    told = λ u. impossible (cc (b, u));
    noted = λ u. impossible (cc (b, u));
    ended = λ u l. absurd (omega (arith, a, l));
  }
  reader_stands (k ∷ ks) adm j c ic hc = ⊎_elim
      (λ e. same ks k j c e (reader_stands ks adm.1 j c ic hc))
      (λ N. next ks k j adm.1 adm.0 N.0 c ic hc (reader_stands ks adm.1 j c ic hc))
      (server_next Z G M ks k j)

  -- the newest read only grows
  pub reader_up : (ks : List Call) (k : Call) (j c : ℕ) → (reader ks j c).sequence ≤ (reader (k ∷ ks) j c).sequence
  reader_up ks k j c = ⊎_elim
      (λ e. let q = ap (λ h. (reader_of h.server c).sequence) e in omega (arith, q))
      (λ N. let q = ap (λ h. (reader_of h.server c).sequence) N.1 in
      let l = go N.0
      (note H g j (server_at Z G M ks j).server (shape Z G M ks j).within (server_at Z G M ks j).area (initial_of Z j)
      N.0.from N.0.m N.0.took.client N.0.took.passes c) in
      omega (arith, q, l))
      (server_next Z G M ks k j)
    where
      go : (C : Takes Z G M ks k j) → Note (server_at Z G M ks j).server C.from C.m (effect_of Z G M C) c
          → (reader ks j c).sequence ≤ (reader_of (effect_of Z G M C).server c).sequence
      go C (R.same e n) = let q = ap (λ x. x.sequence) e in omega (arith, q)
      go C (R.noted n x ef l e) = let q = ap (λ x. x.sequence) e in omega (arith, q, l)
      go C (R.ended n x ef l e) = let q = ap (λ x. x.sequence) e in omega (arith, q, l)
