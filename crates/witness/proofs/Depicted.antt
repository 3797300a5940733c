-- What the pass over a list of calls (Images.antt) computes is so in the run: who is sent what, what is accepted and ended, and whether the list is admissible.
-- Assumes nothing.
use Rattle.std.specs.Prelude.{Ok, Err}
use Prim.Native.Nat.{ℕ, zero, suc, ◌+◌}
use mathlib.Core.Bool.{Bool, true, false, not, cond, ◌&&◌}
use mathlib.Core.Path.{◌≡◌, refl, ap, sym, ◌∙◌, subst}
use mathlib.Core.Logic.{◌⊎◌, inl, inr, ⊎_elim}
use mathlib.Core.List.{List, [], ◌∷◌, Memᴰ}
use mathlib.Core.Option.{some}
use lib.ListN.{length, drop}
use lib.Seq.{length-sets}
use lib.Dec.{eqb, leb, ltb}
use borrow.Author.Tests.{eqb-true, leb-true, le-leb, ltb-true, not-true}
use Rattle.quorum.proofs.Logic.{impossible, and_split, and_true, or_split}
use Rattle.area.specs.Area.{Bytes, pick, same}
use Rattle.area.specs.Responses.{turned_down}
use Rattle.area.proofs.Same.{same_true}
use Rattle.frame.specs.declared.Party.{Party}
use Rattle.frame.specs.declared.Header.{Header}
use Rattle.frame.specs.Refusals.{number_of, answered_by, Verdict, fine}
use Rattle.frame.specs.declared.Party.TheVariants as P
use Rattle.frame.specs.Params.{width, Bounded}
use Rattle.frame.specs.Messages.{Sending, number_in, Judged, bad, good}
use Rattle.frame.specs.Frames.{build, opened}
use Rattle.frame.specs.Chunks.{entry_at, area_bytes, rows_bytes}
use Rattle.frame.proofs.Sizes.{Small, small}
use Rattle.server_rules.specs.State.{fresh_server}
use Rattle.server_rules.specs.Tests as ST
use Rattle.server_rules.specs.Delivery as SD
use Rattle.client_rules.specs.State.{writing}
use Rattle.client_rules.specs.Steps as C
use Rattle.client_rules.specs.Tests as CT
use Rattle.client_rules.specs.Delivery as CD
use Rattle.client_rules.specs.Beginning as CB
use Rattle.runs.specs.World.{Setup, Call, to_server, to_client, begin_read, begin_write, caller, ServerSide, ClientSide, World}
use Rattle.runs.specs.World.{put, initial_of, start, lent_by, lent_to, step, run, sends, server_effect, client_effect}
use Rattle.server_rules.specs.Steps.{Write}
use Rattle.client_rules.specs.Rows.{Found}
use Rattle.runs.specs.Events.{Event, At, Accepts, StopsRead, EndsWrite, OpensRead, OpensWrite}
use Rattle.runs.specs.Admissible.{Sent, Named, Honest, Proper, Admissible}
use Rattle.witness.proofs.Areas.{Shows}
use Rattle.witness.specs.Refusals.{Refuses}
use Rattle.witness.proofs.Served.{Sees, served, server_seen, judge_seen as judge-server}
use Rattle.witness.proofs.Served as Served
use Rattle.witness.proofs.Asked.{Hears, asked, client_seen, judge_seen as judge-client}
use Rattle.witness.proofs.Asked as Asked
use Rattle.witness.proofs.Images.{ServerImage, ClientImage, Answer, Image, same_party, among_sends, was_sent, all_bytes, judged_bad, verdict_bad, is_frame}
use Rattle.witness.proofs.Images.{honest, proper_frame, proper_call, lent_in, seen_server, seen_client, advance, image, refused_in, accepted_in, end_in}

-- f with x at i and h with y at i are alike where f and h are
put_both : {A B : Type 0} (R : A → B → Type 0) (f : ℕ → A) (h : ℕ → B) (i : ℕ) (x : A) (y : B) → R x y → ((j : ℕ) → R (f j) (h j)) → (j : ℕ)
    → R (put f i x j) (put h i y j)
put_both R f h i x y p q j = go (eqb j i)
  where
    go : (b : Bool) → R (cond b x (f j)) (cond b y (h j))
    go true = p
    go false = q j

pub party_same : (a b : Party) → same_party a b ≡ true → a ≡ b
unfolding same_party
party_same (P.Server i) (P.Server j) e = ap P.Server (eqb-true i j e)
party_same (P.Server i) (P.Client d) e = impossible (cc)
party_same (P.Client c) (P.Server j) e = impossible (cc)
party_same (P.Client c) (P.Client d) e = ap P.Client (eqb-true c d e)

among : (l : List Sending) (b : Party) (f : List ℕ) → among_sends l b f ≡ true → (x : Sending) × Memᴰ x l × (x.receiver ≡ b) × (build x.says ≡ f)
unfolding among_sends
among [] b f e = impossible (cc)
among (x ∷ l) b f e = ⊎_elim
    (λ u. let w = and_split (same_party x.receiver b) _ u in
    (x, Memᴰ.head refl, party_same x.receiver b w.0, same_true (build x.says) f w.1))
    (λ u. let w = among l b f u in (w.0, Memᴰ.tail w.1, w.2, w.3))
    (or_split (same_party x.receiver b && same (build x.says) f) (among_sends l b f) e)

pub are_bytes : (l : List ℕ) → all_bytes l ≡ true → Bytes l
unfolding all_bytes
are_bytes [] e = tt
are_bytes (x ∷ l) e = let w = and_split (ltb x 256) (all_bytes l) e in (ltb-true x 256 w.0, are_bytes l w.1)

-- parameters within their bounds, and lent areas of their least lengths
pub record Exact (Z : Setup) : Type 0 where
  pub bounded : Bounded Z.g
  pub state_long : (j : ℕ) → length (Z.state_areas j) ≡ area_bytes
  pub initial_long : (j : ℕ) → length (Z.initial_areas j) ≡ width Z.g
  pub rows_long : (c : ℕ) → length (Z.rows_areas c) ≡ rows_bytes

module _ (Z : Setup) (G : Exact Z) where
  open Z use {H, g, initial_value, faulty_server, faulty_client, state_areas, initial_areas, rows_areas}

  M : Small g
  M = small g G.bounded

  pub record ServerLike (a : ServerSide) (b : ServerImage) : Type 0 where
    pub server : a.server ≡ b.server
    pub area : Shows g area_bytes a.area b.entries

  pub record ClientLike (a : ClientSide) (b : ClientImage) : Type 0 where
    pub client : a.client ≡ b.client
    pub area : Shows g rows_bytes a.area b.entries
    pub value : a.value ≡ b.value

  pub record Depicts (w : World) (v : Image) : Type 0 where
    pub servers : (i : ℕ) → ServerLike (w.servers i) (v.servers i)
    pub clients : (c : ℕ) → ClientLike (w.clients c) (v.clients c)

  initial_is : (i : ℕ) → length (initial_of Z i) ≡ width g
  unfolding SD.construction SD.construct_by
  initial_is i = go (SD.construct_test H g i initial_value (length (state_areas i)) (length (initial_areas i)))
    where
      go : (b : Verdict) → length (SD.construct_by H g i b initial_value (state_areas i) (initial_areas i)).initial ≡ width g
      go (Err r) = G.initial_long i
      go (Ok _) = rw length-sets (G.initial_long i)

  fresh_like : (i : ℕ) → ServerLike ((start Z).servers i) ((image Z []).servers i)
  unfolding start image SD.construction SD.construct_by
  fresh_like i = go (SD.construct_test H g i initial_value (length (state_areas i)) (length (initial_areas i)))
    where
      go : (b : Verdict) → ServerLike
          (record {
            server = (SD.construct_by H g i b initial_value (state_areas i) (initial_areas i)).server;
            area = (SD.construct_by H g i b initial_value (state_areas i) (initial_areas i)).area;
          })
          (record { server = fresh_server; entries = entry_at g (SD.construct_by H g i b initial_value (state_areas i) (initial_areas i)).area })
      go (Err r) = record { server = refl; area = record { long = G.state_long i; at = λ p. refl } }
      go (Ok _) = record { server = refl; area = record { long = rw length-sets (G.state_long i); at = λ p. refl } }

  -- a delivery in the run, and in the pass
  server_at_lem : (w : World) (v : Image) → Depicts w v → (i : ℕ) (from : Party) (f out to : List ℕ)
      → Sees g (server_effect Z w i from f out to) (seen_server Z v i from f out to)
  server_at_lem w v D i from f out to =
      subst (λ s. Sees g (server_effect Z w i from f out to) (served H g i s (v.servers i).entries (initial_of Z i) from f out to)) (D.servers i).server
      (server_seen H g G.bounded M i (w.servers i).server (w.servers i).area (v.servers i).entries (D.servers i).area (initial_of Z i)
      (initial_is i) from f out to)

  -- what a host lends
  lent_at : (w : World) (v : Image) → Depicts w v → (c : ℕ) (lent : List ℕ) → lent_to Z w c lent ≡ lent_in Z v c lent
  lent_at w v D c lent i = pick (writing ((D.clients c).client i).phase) ((D.clients c).value i) lent

  client_at_lem : (w : World) (v : Image) → Depicts w v → (c : ℕ) (from : Party) (f lent result out to : List ℕ)
      → Hears g (client_effect Z w c from f lent result out to) (seen_client Z v c from f lent result out to)
  client_at_lem w v D c from f lent result out to =
      subst (λ s. Hears g (client_effect Z w c from f lent result out to) (asked H g c s (v.clients c).entries (lent_in Z v c lent) from f result out to))
      (D.clients c).client
      (subst (λ u. Hears g (client_effect Z w c from f lent result out to) (asked H g c (w.clients c).client (v.clients c).entries u from f result out to))
      (lent_at w v D c lent)
      (client_seen H g G.bounded M c (w.clients c).client (w.clients c).area (v.clients c).entries (D.clients c).area
      (lent_to Z w c lent) from f result out to))

  advances : (w : World) (v : Image) → Depicts w v → (k : Call) → Depicts (step Z w k) (advance Z v k)
  unfolding step advance
  advances w v D (to_server i from f out to) =
      let S = server_at_lem w v D i from f out to in
      record {
        servers = put_both ServerLike w.servers v.servers i _ _ (record { server = S.server; area = S.area }) D.servers;
        clients = D.clients;
      }
  advances w v D (to_client c from f lent result out to) =
      let S = client_at_lem w v D c from f lent result out to in
      record {
        servers = D.servers;
        clients = put_both ClientLike w.clients v.clients c _ _ (record { client = S.client; area = S.area; value = (D.clients c).value }) D.clients;
      }
  advances w v D (begin_read c out to) = record {
    servers = D.servers;
    clients = put_both ClientLike w.clients v.clients c _ _
        (record { client = ap (λ s. (CB.read_begun g c s out to).client) (D.clients c).client; area = (D.clients c).area; value = (D.clients c).value })
        D.clients;
  }
  advances w v D (begin_write c u out to) = record {
    servers = D.servers;
    clients = put_both ClientLike w.clients v.clients c _ _
        (record {
          client = ap (λ s. (CB.write_begun g c s u out to).client) (D.clients c).client;
          area = (D.clients c).area;
          value = λ i. lent_by Z (CB.write_test g c ((D.clients c).client i) u out to) u ((D.clients c).value i);
        }) D.clients;
  }

  fresh_client_lem : (c : ℕ) → ClientLike ((start Z).clients c) ((image Z []).clients c)
  unfolding start image
  fresh_client_lem c = record { client = refl; area = record { long = G.rows_long c; at = λ p. refl }; value = refl }

  pub depicts : (ks : List Call) → Depicts (run Z ks) (image Z ks)
  unfolding run image
  depicts [] = record { servers = fresh_like; clients = fresh_client_lem }
  depicts (k ∷ ks) = advances (run Z ks) (image Z ks) (depicts ks) k

  -- ---- what was sent

  abbrev pub Logged : List Call → List Answer → Type 0
  Logged [] l = l ≡ []
  Logged (k ∷ ks) [] = ⊥
  Logged (k ∷ ks) (x ∷ l) = (caller k ≡ x.by) × (sends Z (run Z ks) k ≡ x.sends) × Logged ks l

  logged_by : (ks : List Call) (k : Call) → Logged ks (image Z ks).log → Logged (k ∷ ks) (advance Z (image Z ks) k).log
  unfolding advance sends
  logged_by ks (to_server i from f out to) h = (refl, (server_at_lem (run Z ks) (image Z ks) (depicts ks) i from f out to).sends, h)
  logged_by ks (to_client c from f lent result out to) h = (refl, (client_at_lem (run Z ks) (image Z ks) (depicts ks) c from f lent result out to).sends, h)
  logged_by ks (begin_read c out to) h = (refl, ap (λ s. (CB.read_begun g c s out to).sends) ((depicts ks).clients c).client, h)
  logged_by ks (begin_write c v out to) h = (refl, ap (λ s. (CB.write_begun g c s v out to).sends) ((depicts ks).clients c).client, h)

  pub logged : (ks : List Call) → Logged ks (image Z ks).log
  unfolding image
  logged [] = refl
  logged (k ∷ ks) = logged_by ks k (logged ks)

  pub sent_by_lem : (ks : List Call) (l : List Answer) → Logged ks l → (a b : Party) (f : List ℕ) → was_sent l a b f ≡ true → Sent Z ks a b f
  unfolding was_sent
  sent_by_lem [] [] h a b f e = impossible (cc)
  sent_by_lem [] (x ∷ l) h a b f e = impossible (cc)
  sent_by_lem (k ∷ ks) [] h a b f e = absurd h
  sent_by_lem (k ∷ ks) (x ∷ l) h a b f e = ⊎_elim
      (λ u.
      let w = and_split (same_party x.by a) _ u in
      let y = among x.sends b f w.1 in
      inl (h.0 ∙ party_same x.by a w.0, y.0, subst (Memᴰ y.0) (sym h.1) y.1, y.2, y.3))
      (λ u. inr (sent_by_lem ks l h.2 a b f u))
      (or_split (same_party x.by a && among_sends x.sends b f) (was_sent l a b f) e)

  -- ---- proper calls

  pub honest_is : (a : Party) → honest Z a ≡ true → Honest Z a
  unfolding honest
  honest_is (P.Server j) e =
      let w = and_split (leb 1 j && leb j g.n) _ e in
      let y = and_split (leb 1 j) _ w.0 in
      ((leb-true 1 j y.0, leb-true j g.n y.1), not-true (faulty_server j) w.1)
  honest_is (P.Client c) e =
      let w = and_split (leb 1 c && leb c 8) _ e in
      let y = and_split (leb 1 c) _ w.0 in
      ((leb-true 1 c y.0, leb-true c 8 y.1), not-true (faulty_client c) w.1)

  pub is_honest : (a : Party) → Honest Z a → honest Z a ≡ true
  unfolding honest
  is_honest (P.Server j) h = and_true _ _ (and_true _ _ (le-leb 1 j h.0.0) (le-leb j g.n h.0.1)) (ap not h.1)
  is_honest (P.Client c) h = and_true _ _ (and_true _ _ (le-leb 1 c h.0.0) (le-leb c 8 h.0.1)) (ap not h.1)

  frame_is : (f : List ℕ) (h : Header) → opened g f ≡ Ok h → is_frame (opened g f) ≡ true
  unfolding is_frame
  frame_is f h o = ap is_frame o

  frame_proper : (ks : List Call) (b a : Party) (f : List ℕ) → proper_frame Z (image Z ks).log b a f ≡ true → Honest Z b × Bytes f × Named Z ks a b f
  unfolding proper_frame
  frame_proper ks b a f e =
      let w = and_split (honest Z b) _ e in
      let y = and_split (all_bytes f) _ w.1 in (
        honest_is b w.0,
        are_bytes f y.0,
        λ h o t. ⊎_elim
            (λ u. impossible (cc (is_honest a t, not-true (honest Z a) u)))
            (⊎_elim
            (λ u. sent_by_lem ks (image Z ks).log (logged ks) a b f u)
            (λ u. impossible (cc (frame_is f h o, not-true (is_frame (opened g f)) u))))
            (⊎_elim (λ u. inl u) (λ u. inr (or_split (was_sent (image Z ks).log a b f) _ u)) (or_split (not (honest Z a)) _ y.1)),
      )

  call_proper : (ks : List Call) (k : Call) → proper_call Z (image Z ks).log k ≡ true → Proper Z ks k
  unfolding proper_call
  call_proper ks (to_server i from f out to) e = frame_proper ks (P.Server i) from f e
  call_proper ks (to_client c from f lent result out to) e = frame_proper ks (P.Client c) from f e
  call_proper ks (begin_read c out to) e = honest_is (P.Client c) e
  call_proper ks (begin_write c v out to) e = let w = and_split (honest Z (P.Client c)) _ e in (honest_is (P.Client c) w.0, are_bytes v w.1)

  proper_split : (v : Image) (k : Call) → (advance Z v k).proper ≡ true → (v.proper ≡ true) × (proper_call Z v.log k ≡ true)
  unfolding advance
  proper_split v (to_server i from f out to) e = and_split v.proper _ e
  proper_split v (to_client c from f lent result out to) e = and_split v.proper _ e
  proper_split v (begin_read c out to) e = and_split v.proper _ e
  proper_split v (begin_write c u out to) e = and_split v.proper _ e

  -- a list of calls that the pass finds proper is a run
  pub admissible_by : (ks : List Call) → (image Z ks).proper ≡ true → Admissible Z ks
  unfolding image
  admissible_by [] e = tt
  admissible_by (k ∷ ks) e =
      let w = proper_split (image Z ks) k e in
      (call_proper ks k w.1, admissible_by ks w.0)

  -- ---- events

  -- the writes that a delivery accepts
  pub accepted_by_lem : (ks : List Call) (i : ℕ) (from : Party) (f out to : List ℕ)
      → (server_effect Z (run Z ks) i from f out to).accepted ≡ accepted_in Z (image Z ks) (to_server i from f out to)
  unfolding accepted_in
  accepted_by_lem ks i from f out to = (server_at_lem (run Z ks) (image Z ks) (depicts ks) i from f out to).accepted

  pub accepts_by : (ks : List Call) (k : Call) (i : ℕ) (x : Write) → caller k ≡ P.Server i → Memᴰ x (accepted_in Z (image Z ks) k) → Accepts Z i x ks k
  unfolding accepted_in
  accepts_by ks (to_server j from f out to) i x h e = (ap number_in (sym h), subst (Memᴰ x) (sym (accepted_by_lem ks j from f out to)) e)
  accepts_by ks (to_client c from f lent result out to) i x h e = impossible (cc)
  accepts_by ks (begin_read c out to) i x h e = impossible (cc)
  accepts_by ks (begin_write c v out to) i x h e = impossible (cc)

  pub stops_by : (ks : List Call) (k : Call) (c q : ℕ) (x : Found) → caller k ≡ P.Client c → ((image Z ks).clients c).client.reads ≡ q
      → end_in Z (image Z ks) k ≡ C.stopped x → StopsRead Z c q x ks k
  unfolding end_in
  stops_by ks (to_server j from f out to) c q x h r e = impossible (cc)
  stops_by ks (to_client d from f lent result out to) c q x h r e =
      let w : c ≡ d = ap number_in (sym h) in (
        w,
        ap (λ y. ((run Z ks).clients y).client.reads) (sym w) ∙ ap (λ s. s.reads) ((depicts ks).clients c).client ∙ r,
        (client_at_lem (run Z ks) (image Z ks) (depicts ks) d from f lent result out to).event ∙ e,
      )
  stops_by ks (begin_read d out to) c q x h r e = impossible (cc)
  stops_by ks (begin_write d v out to) c q x h r e = impossible (cc)

  pub ends_by : (ks : List Call) (k : Call) (c q : ℕ) → caller k ≡ P.Client c → ((image Z ks).clients c).client.writes ≡ q
      → end_in Z (image Z ks) k ≡ C.written → EndsWrite Z c q ks k
  unfolding end_in
  ends_by ks (to_server j from f out to) c q h r e = impossible (cc)
  ends_by ks (to_client d from f lent result out to) c q h r e =
      let w : c ≡ d = ap number_in (sym h) in (
        w,
        ap (λ y. ((run Z ks).clients y).client.writes) (sym w) ∙ ap (λ s. s.writes) ((depicts ks).clients c).client ∙ r,
        (client_at_lem (run Z ks) (image Z ks) (depicts ks) d from f lent result out to).event ∙ e,
      )
  ends_by ks (begin_read d out to) c q h r e = impossible (cc)
  ends_by ks (begin_write d v out to) c q h r e = impossible (cc)

  pub opens_read_by : (ks : List Call) (c q : ℕ) (out to : List ℕ) → ((image Z ks).clients c).client.reads + 1 ≡ q
      → CB.read_test g c ((image Z ks).clients c).client out to ≡ fine → OpensRead Z c q ks (begin_read c out to)
  opens_read_by ks c q out to r e =
      let h = ((depicts ks).clients c).client in
      (refl, ap (λ s. s.reads + 1) h ∙ r, ap (λ s. CB.read_test g c s out to) h ∙ e)

  pub opens_write_by : (ks : List Call) (c q : ℕ) (v out to : List ℕ) → ((image Z ks).clients c).client.writes + 1 ≡ q
      → CB.write_test g c ((image Z ks).clients c).client v out to ≡ fine → OpensWrite Z c q v ks (begin_write c v out to)
  opens_write_by ks c q v out to r e =
      let h = ((depicts ks).clients c).client in
      (refl, ap (λ s. s.writes + 1) h ∙ r, refl, ap (λ s. CB.write_test g c s v out to) h ∙ e)

  -- ---- refusals

  reply_bad : (i c n : ℕ) (j : Judged) → judged_bad j ≡ some n → SD.reply_of H g i j c ≡ turned_down n
  unfolding judged_bad SD.reply_of
  reply_bad i c n (bad x) e = let h : number_of x ≡ n = cc e in ap turned_down h
  reply_bad i c n (good m) e = impossible (cc e)

  answer_bad : (j : Judged) (x : C.Effect) (n : ℕ) → judged_bad j ≡ some n → CD.answer_of j x ≡ turned_down n
  unfolding judged_bad CD.answer_of
  answer_bad (bad x) y n e = let h : number_of x ≡ n = cc e in ap turned_down h
  answer_bad (good m) y n e = impossible (cc e)

  verdict_bad_lem : {A : Type 0} (b : Verdict) (x : A) (n : ℕ) → verdict_bad b ≡ some n → answered_by b x ≡ turned_down n
  unfolding verdict_bad
  verdict_bad_lem (Err r) x n e = let h : number_of r ≡ n = cc e in ap turned_down h
  verdict_bad_lem (Ok _) x n e = impossible (cc e)

  -- what a frame is judged in the run, and in the pass
  pub server_judged : (ks : List Call) (i : ℕ) (from : Party) (f out to : List ℕ)
      → ST.judge H g i ((run Z ks).servers i).server ((run Z ks).servers i).area (initial_of Z i) from f out to
      ≡ Served.judge_by H g i ((image Z ks).servers i).server from f out to
  server_judged ks i from f out to =
      let D = (depicts ks).servers i in
      let p = (run Z ks).servers i in
      judge-server H g G.bounded M i p.server p.area (initial_of Z i) from f out to D.area.long (initial_is i)
      ∙ ap (λ s. Served.judge_by H g i s from f out to) D.server

  pub client_judged : (ks : List Call) (c : ℕ) (from : Party) (f lent result out to : List ℕ)
      → CT.judge H g c ((run Z ks).clients c).client ((run Z ks).clients c).area (lent_to Z (run Z ks) c lent) from f result out to
      ≡ Asked.judge_by H g c ((image Z ks).clients c).client (lent_in Z (image Z ks) c lent) from f result out to
  client_judged ks c from f lent result out to =
      let D = (depicts ks).clients c in
      let p = (run Z ks).clients c in
      judge-client H g G.bounded M c p.client p.area (lent_to Z (run Z ks) c lent) from f result out to D.area.long
      ∙ (λ z. Asked.judge_by H g c (D.client z) (lent_at (run Z ks) (image Z ks) (depicts ks) c lent z) from f result out to)

  pub refuses_by : (ks : List Call) (k : Call) (n : ℕ) → refused_in Z (image Z ks) k ≡ some n → Refuses Z n ks k
  unfolding refused_in SD.delivery SD.outcome_of CD.delivery CD.outcome_of CB.read_beginning CB.write_beginning CB.begun_of
  refuses_by ks (to_server i from f out to) n e = reply_bad i _ n _ (ap judged_bad (server_judged ks i from f out to) ∙ e)
  refuses_by ks (to_client c from f lent result out to) n e = answer_bad _ _ n (ap judged_bad (client_judged ks c from f lent result out to) ∙ e)
  refuses_by ks (begin_read c out to) n e =
      verdict_bad_lem _ _ n (ap (λ s. verdict_bad (CB.read_test g c s out to)) ((depicts ks).clients c).client ∙ e)
  refuses_by ks (begin_write c v out to) n e =
      verdict_bad_lem _ _ n (ap (λ s. verdict_bad (CB.write_test g c s v out to)) ((depicts ks).clients c).client ∙ e)

-- what happens before the last n calls happens in the run
pub at_drop : (E : Event) (n : ℕ) (ks : List Call) (p : ℕ) → At E (drop n ks) p → At E ks p
at_drop E zero ks p u = u
at_drop E (suc n) [] p u = absurd u
at_drop E (suc n) (k ∷ ks) p u = inr (at_drop E n ks p u)
