-- A finished run is one in which the broadcast has ended: what one honest server accepted every honest server accepted, and a write of which an honest client
-- has sent its blocks is accepted everywhere, or two different blocks with one digest are shown. Assumes nothing.
use Prim.Native.Nat.{ℕ, suc, ◌+◌, ◌*◌, ◌-◌, ◌≤◌, ◌<◌}
use native.Mathlib.Omega.{arith}
use native.Mathlib.Decide.{dec_le}
use mathlib.Core.Bool.{Bool, true, false, not, ◌&&◌}
use mathlib.Core.Path.{◌≡◌, refl, ap, sym, ◌∙◌, subst}
use mathlib.Core.Logic.{◌⊎◌, inl, inr, ⊎_elim}
use mathlib.Core.Option.{Option, none, some}
use mathlib.Core.List.{List, [], ◌∷◌}
use lib.ListN.{length}
use lib.Dec.{leb}
use borrow.Author.Tests.{le-leb}
use Rattle.quorum.specs.Quorum.{Among}
use Rattle.quorum.proofs.Logic.{impossible, and_true, or_left, or_right}
use Rattle.quorum.proofs.Quorums.{AtLeast, at_least_map, at_least_fewer, at_least_count, HonestWith, honest_member, quorum_member}
use Rattle.broadcast.specs.Laws as BL
use Rattle.broadcast.proofs.Agreement as BA
use Rattle.service.specs.Final as SF
use Rattle.service.proofs.Total as ST
use Rattle.service.proofs.Written as SW
use Rattle.group_rules.specs.Coded.{digests_of, entry_of}
use Rattle.frame.specs.declared.Party.{Party}
use Rattle.frame.specs.declared.Party.TheVariants as A
use Rattle.frame.specs.Messages.{Offer, offer, Stage, send, echo, ready, block_is, Message, message, number_in}
use Rattle.frame.specs.Params.{quota}
use Rattle.frame.specs.Stamps.{last_time, last_sequence}
use Rattle.frame.proofs.Sizes.{Small}
use Rattle.server_rules.specs.Broadcast.{Rules, undone, is_like, votes, enough, due, full}
use Rattle.server_rules.specs.Rules.{block_rules}
use Rattle.server_rules.specs.Steps as S
use Rattle.server_rules.proofs.Shapes.{offer_of}
use Rattle.server_rules.proofs.Thresholds.{agreed, blocks_sane, alike_of}
use Rattle.client_rules.specs.declared.Phase.TheVariants as F
use Rattle.runs.specs.Admissible.{Honest, Admissible}
use Rattle.runs.specs.Blocks.{Collision, of_written, of_decoded}
use Rattle.runs.specs.Events.{At, Accepts, OpensWrite}
use Rattle.runs.specs.World.{Setup, Call, to_server, to_client, begin_read, begin_write}
use Rattle.runs.proofs.Agreement.{small, empty}
use Rattle.runs.proofs.Answers.{honest_caller}
use Rattle.runs.proofs.Assumed.{Assumed}
use Rattle.runs.proofs.Broadcasts.{Agreed, server_at, SaidBy, views, lawful_run}
use Rattle.runs.proofs.Formation.{formed, accepted_in_bounds}
use Rattle.runs.proofs.OneValue.{Source}
use Rattle.runs.proofs.Ordering.{known}
use Rattle.runs.proofs.Places.{at_low}
use Rattle.runs.proofs.ReadOnce.{written_sized}
use Rattle.runs.proofs.Vouching.{time, accepted_up, grounded}
use Rattle.runs.proofs.Vouching as VH
use Rattle.taking.proofs.Does.{Got}
use Rattle.taking.proofs.Ripeness.{not_vouched}
use Rattle.served.specs.Finished.{Finished}
use Rattle.served.proofs.Clients.{home}
use Rattle.served.proofs.ClientState.{SentBy, Doing, stands}
use Rattle.served.proofs.ClientWords.{sent_once}
use Rattle.served.proofs.Everywhere.{server_each, client_each}
use Rattle.served.proofs.ServerState.{seq, part, Still, ToAllSent, Passed, server_stands, closed, before, none_ripe}
use Rattle.served.proofs.ServerWords.{ready_from}
use Rattle.served.proofs.ServerPast.{reached}
use Rattle.served.proofs.TrueGroups.{Backed, true_group}

module _ (Z : Setup) (G : Assumed Z) where
  open Z use {H, g, faulty_server, faulty_client}

  abbrev M : Small g
  M = small Z G

  pub sender_honest : (ks : List Call) → Admissible Z ks → (a b : Party) (m : Message) → SentBy Z G ks a b m → Honest Z a
  sender_honest [] adm a b m u = absurd u
  sender_honest (k ∷ ks) adm a b m (inl (e, u)) = subst (Honest Z) e (honest_caller Z ks k adm.0)
  sender_honest (k ∷ ks) adm a b m (inr u) = sender_honest ks adm.1 a b m u

  pub accepts_honest : (ks : List Call) → Admissible Z ks → (i p : ℕ) (x : S.Write) → At (Accepts Z i x) ks p → Honest Z (A.Server i)
  accepts_honest [] adm i p x u = absurd u
  accepts_honest (k ∷ ks) adm i p x (inr u) = accepts_honest ks adm.1 i p x u
  accepts_honest (to_server j from f out to ∷ ks) adm i p x (inl u) = subst (λ j. Honest Z (A.Server j)) (sym u.1.0) adm.0.0
  accepts_honest (to_client c from f lent result out to ∷ ks) adm i p x (inl u) = absurd u.1
  accepts_honest (begin_read c out to ∷ ks) adm i p x (inl u) = absurd u.1
  accepts_honest (begin_write c v out to ∷ ks) adm i p x (inl u) = absurd u.1

  abbrev R : Rules Offer
  R = block_rules H g

  -- ---- the broadcast of writes

  abbrev W : BL.Views Call Agreed
  W = views Z G M (formed Z G M)

  -- server i said z of x for client c's write s
  abbrev Said : Stage → List Call → ℕ → ℕ → ℕ → Agreed → Type 0
  Said = SaidBy Z G M (formed Z G M)

  abbrev pub protocol : SF.Protocol Call Agreed
  protocol = record {
    views = W;
    n = g.n;
    t = g.t;
    few = R.few;
    all = R.all;
    faulty_server = faulty_server;
    faulty_client = faulty_client;
  }

  thresholds : SF.Thresholds protocol
  unfolding quota
  thresholds = record {
    some = omega arith;
    reach = omega arith;
    room = omega (arith, G.bounded.blocks_high, G.bounded.faults_high);
  }

  module _ (ks : List Call) (adm : Admissible Z ks) where
    pub invariant : BA.Invariant W g.n g.t R.few R.all faulty_server faulty_client ks
    invariant = BA.invariant W g.n g.t R.few R.all faulty_server faulty_client G.faults
        (blocks_sane H g).few_many (blocks_sane H g).all_many (empty Z G (formed Z G M)) (lawful_run Z G M (formed Z G M) ks adm)

    -- ---- values of the run

    -- an honest server's ready is of one
    ready_backed : (i c s : ℕ) (x : Agreed) → Said ready ks i c s x → Backed Z G ks x
    ready_backed i c s x (b, o, e, u) =
        let (v, p, d, q, l, y) = ready_from Z G ks i b c s o u in
        (v, record { size = l; bytes = y; from = λ j is. of_decoded p j v d is refl }, q ∙ ap (λ x. x.1) e)

    -- ---- nothing is left due

    -- this many frames, of offers alike to o
    votes_of : (f : ℕ → Option Offer) (o : Offer) {m : ℕ} → AtLeast g.n m (λ i. (p : Offer) × (agreed p ≡ agreed o) × (f i ≡ some p))
        → m ≤ votes R g.n g.t f o
    unfolding votes
    votes_of f o s = at_least_count (λ i. is_like R g.n g.t (f i) o)
        (at_least_map (λ i is (p, e, u). ap (λ y. is_like R g.n g.t y o) u ∙ alike_of H g p o e) s)

    to_all_lem : (j c s : ℕ) (z : Stage) → ToAllSent Z G ks j c s z → (y : Agreed) × Said z ks j c s y
    to_all_lem j c s z (o, f) = (agreed o, (A.Server 1, o, refl, f 1 (omega arith, omega (arith, G.bounded.servers_low))))

    ready_out : (j c : ℕ) → Among 8 c → (o : Offer) → Backed Z G ks (agreed o) → enough R g.n g.t (part Z G ks j c) o ≡ true
        → ((y : Agreed) × Said ready ks j c (seq Z G ks j c) y) ⊎ Collision Z ks
    unfolding due
    ready_out j c is o b e = ⊎_elim
        (λ s.
        let T = server_stands Z G ks j c is in
        inl (to_all_lem j c (seq Z G ks j c) ready (T.readied (go (part Z G ks j c).ready s (T.still.nothing_due o)))))
        (λ z. inr z)
        (true_group Z G ks j c is o b e)
      where
        go : (r : Bool) → R.supports (part Z G ks j c).echoes (part Z G ks j c).readies o ≡ true
            → (not r && (enough R g.n g.t (part Z G ks j c) o && R.supports (part Z G ks j c).echoes (part Z G ks j c).readies o)) ≡ false → r ≡ true
        go true s d = refl
        go false s d = impossible (cc (d, and_true _ _ e s))

    -- kept frames of one payload, as frames alike one of them
    alike : (f : ℕ → Option Offer) (c m : ℕ) (x : Agreed) (o : Offer) → agreed o ≡ x
        → AtLeast g.n m (λ i. Among 8 c × (p : Offer) × (agreed p ≡ x) × (f i ≡ some p))
        → m ≤ votes R g.n g.t f o
    alike f c m x o e s = votes_of f o (at_least_map (λ i is (ic, p, q, u). (p, q ∙ sym e, u)) s)

    enough_readies : (j c : ℕ) (o : Offer) → R.few ≤ votes R g.n g.t (part Z G ks j c).readies o → enough R g.n g.t (part Z G ks j c) o ≡ true
    unfolding enough
    enough_readies j c o l = or_right (leb g.n (votes R g.n g.t (part Z G ks j c).echoes o + g.t)) _ (le-leb R.few _ l)

    enough_echoes : (j c : ℕ) (o : Offer) → g.n ≤ votes R g.n g.t (part Z G ks j c).echoes o + g.t → enough R g.n g.t (part Z G ks j c) o ≡ true
    unfolding enough
    enough_echoes j c o l = rw (le-leb g.n (votes R g.n g.t (part Z G ks j c).echoes o + g.t) l) refl

    ready_of_echoes : (j c : ℕ) (x : Agreed) → SF.Correct protocol j → Backed Z G ks x
        → AtLeast g.n (g.n - g.t) (λ i. Among 8 c × (o : Offer) × (agreed o ≡ x) × ((part Z G ks j c).echoes i ≡ some o))
        → ((y : Agreed) × Said ready ks j c (seq Z G ks j c) y) ⊎ Collision Z ks
    ready_of_echoes j c x h b s =
        let (i, is, f, (ic, o, e, u)) = quorum_member G.faults s in
        let l = alike (part Z G ks j c).echoes c (g.n - g.t) x o e s in
        ready_out j c ic o (subst (Backed Z G ks) (sym e) b) (enough_echoes j c o (omega (arith, l)))

    ready_of_readies : (j c : ℕ) (x : Agreed) → SF.Correct protocol j → Backed Z G ks x
        → AtLeast g.n R.few (λ i. Among 8 c × (o : Offer) × (agreed o ≡ x) × ((part Z G ks j c).readies i ≡ some o))
        → ((y : Agreed) × Said ready ks j c (seq Z G ks j c) y) ⊎ Collision Z ks
    ready_of_readies j c x h b s =
        let (i, is, f, (ic, o, e, u)) = honest_member G.faults (at_least_fewer (blocks_sane H g).few_many s) in
        ready_out j c ic o (subst (Backed Z G ks) (sym e) b) (enough_readies j c o (alike (part Z G ks j c).readies c R.few x o e s))

    not_done : (j c : ℕ) (x : Agreed) → SF.Correct protocol j → Backed Z G ks x → x.0 < last_time → x.0 ≤ time Z G M ks j
        → AtLeast g.n R.all (λ i. Among 8 c × (o : Offer) × (agreed o ≡ x) × ((part Z G ks j c).readies i ≡ some o)) → Collision Z ks
    unfolding full S.vouched
    not_done j c x h b l v s = ⊎_elim
        (λ y. absurd (go (part Z G ks j c).done refl
        (still.full_done o (and_true _ _ (le-leb R.all _ many) y))))
        (λ z. z)
        (true_group Z G ks j c ic o (subst (Backed Z G ks) (sym e) b) (enough_readies j c o (omega (arith, many))))
      where
        one : HonestWith g.n faulty_server (λ i. Among 8 c × (o : Offer) × (agreed o ≡ x) × ((part Z G ks j c).readies i ≡ some o))
        one = honest_member G.faults (at_least_fewer (blocks_sane H g).all_many s)

        ic : Among 8 c
        ic = one.3.0

        o : Offer
        o = one.3.1

        e : agreed o ≡ x
        e = one.3.2

        many : R.all ≤ votes R g.n g.t (part Z G ks j c).readies o
        many = alike (part Z G ks j c).readies c R.all x o e s

        still : Still Z G (part Z G ks j c)
        still = (server_stands Z G ks j c ic).still

        -- an honest server's ready is of this sequence, so a stamp holds it
        small_sequence : seq Z G ks j c ≤ last_sequence
        small_sequence =
            let (b, o', q, u) = invariant.ready_heard j c one.0 x one.1 one.2 one.3 in
            let f = formed Z G M ks adm (A.Server one.0) b _ (one.1, one.2) u in
            let l = f.sequence_high in
            omega (arith, l)

        -- all readies of it make y supported
        supported : (y : Agreed) → BA.Readies W g.n g.t R.few R.all faulty_server faulty_client ks c (seq Z G ks j c) y
            → BA.Support W g.n g.t R.few R.all faulty_server faulty_client ks c (seq Z G ks j c) y
        supported = BA.readies_supported W g.n g.t R.few R.all faulty_server faulty_client G.faults invariant (blocks_sane H g).all_many
            c (seq Z G ks j c)

        -- what is complete there is x
        same : (y : Offer) → (part Z G ks j c).done ≡ some y → agreed y ≡ x
        same y d = BA.supports_agree W g.n g.t R.few R.all faulty_server faulty_client G.faults invariant c (seq Z G ks j c) (agreed y) x
            (supported (agreed y) (invariant.delivered_readies j c (agreed y) (ic, y, refl, d)))
            (supported x (at_least_map (λ i is k f. invariant.ready_heard j c i x is f k) s))

        go : (d : Option Offer) → (part Z G ks j c).done ≡ d → undone d ≡ false → ⊥
        go none d u = impossible (cc u)
        go (some y) d u =
            let e = ap (λ x. x.0) (same y d) in
            not_vouched g (server_at Z G M ks j).server (server_at Z G M ks j).area c (none_ripe Z G ks j c ic) y d (omega (arith, l, e)) small_sequence
            (or_left (leb y.time (time Z G M ks j)) _ (le-leb y.time (time Z G M ks j) (omega (arith, v, e))))

    -- ---- acceptances

    abbrev Acc : ℕ → ℕ → ℕ → Agreed → Type 0
    Acc = W.Accepted ks

    of_passed : (j c s : ℕ) → Passed Z G ks j c s → (x : Agreed) × Acc j c s x
    of_passed j c s P = (agreed (offer_of P.x), (P.x, P.p, P.accepted, P.client, P.sequence, refl))

    of_client : (i c s : ℕ) (x : Agreed) → Acc i c s x → Among 8 c
    of_client i c s x (w, p, u, ec, es, e) = subst (Among 8) ec (closed Z G ks i p w u).client

    from_one : (i c s : ℕ) (x : Agreed) → Acc i c s x → 1 ≤ s
    from_one i c s x (w, p, u, ec, es, e) = subst (λ s. 1 ≤ s) es (accepted_in_bounds Z G M ks adm i p w u).low

    pub its_passed : (i c s : ℕ) (x : Agreed) → Acc i c s x → Passed Z G ks i c s
    its_passed i c s x (w, p, u, ec, es, e) =
        let C = closed Z G ks i p w u in
        subst (λ c. Passed Z G ks i c s) ec (subst (Passed Z G ks i w.client) es
        ((server_stands Z G ks i w.client C.client).passed w.sequence (accepted_in_bounds Z G M ks adm i p w u).low C.passed))

    -- by the call, and in a call by the time
    abbrev rank : (i c s : ℕ) (x : Agreed) → Acc i c s x → ℕ
    rank i c s x u = u.1 * 18446744073709551616 + x.0

    time_below : (i c s : ℕ) (x : Agreed) → Acc i c s x → x.0 < last_time
    time_below i c s x (w, p, u, ec, es, e) = subst (λ x. x.0 < last_time) e (closed Z G ks i p w u).below

    in_order_lem : (i c s : ℕ) (x : Agreed) → (u : Acc i c (suc s) x) → 1 ≤ s → (y : Agreed) × (v : Acc i c s y) × (rank i c s y v < rank i c (suc s) x u)
    in_order_lem i c s x (w, p, u, ec, es, e) l =
        let (y, q, v, ey, sy, d) = before Z G ks i c s p w u ec es l in
        let v' : Acc i c s (agreed (offer_of y)) = (y, q, v, ey, sy, refl) in
        (agreed (offer_of y), v', omega (arith, d, time_below i c s (agreed (offer_of y)) v'))

    -- ---- vouching

    -- a server that accepted y has a higher time
    own_time : (j c s : ℕ) (y : Agreed) → Acc j c s y → y.0 + 1 ≤ time Z G M ks j
    own_time j c s y (w, p, u, ec, es, e) = let z = ap (λ y. y.0) e in omega (arith, z, accepted_up Z G M ks adm j p w u)

    -- a write that took effect with the time that x comes with frees x
    freed_by_lem : (r : ℕ) (x : Agreed) (j : ℕ) (w : S.Write) (q : ℕ) → At (Accepts Z j w) ks q → w.time + 1 ≡ x.0
        → q * 18446744073709551616 + w.time < r → SF.Freed protocol ks rank (λ j x. x.0 ≤ time Z G M ks j) r x
    freed_by_lem r x j w q v e l = inr (record {
      i = j;
      c = w.client;
      s = w.sequence;
      y = agreed (offer_of w);
      honest = accepts_honest ks adm j q w v;
      accepted = (w, q, v, refl, refl, refl);
      below = l;
      has = λ i hi u. let z = own_time i w.client w.sequence (agreed (offer_of w)) u in omega (arith, z, e);
    })

    freed : (i c s : ℕ) (x : Agreed) (u : Acc i c s x) → SF.Freed protocol ks rank (λ j x. x.0 ≤ time Z G M ks j) (rank i c s x u) x
    freed i c s x (w, p, u, ec, es, e) = go (dec_le 1 w.time)
      where
        ex : w.time ≡ x.0
        ex = ap (λ x. x.0) e

        go : Dec (1 ≤ w.time) → SF.Freed protocol ks rank (λ j x. x.0 ≤ time Z G M ks j) (p * 18446744073709551616 + x.0) x
        go (no n) = inl (λ j hj. omega (arith, ex, n))
        go (yes l) =
            let (j, y, q, v, ey, h) = grounded Z G M ks adm i p w u l in
            freed_by_lem _ x j y q v (ey ∙ ex) (omega (arith, ey, ex, h))

    -- ---- frames have come

    module _ (fin : Finished Z ks) where
      -- of the open sequence, what was sent is counted
      arrived : (a : Party) (j c s : ℕ) (z : Stage) (o : Offer) → SF.Correct protocol j → SentBy Z G ks a (A.Server j) (message c s (block_is z o))
          → s ≡ seq Z G ks j c → Among 8 c × Got z (part Z G ks j c) (number_in a)
      arrived a j c s z o h u e =
          let ha = sender_honest ks adm a (A.Server j) _ u in
          let f = formed Z G M ks adm a (A.Server j) _ ha u in (
            (f.client_low, f.client_high),
            ⊎_elim
                (⊎_elim (λ l. absurd (omega (arith, l, e))) (λ w. w.1))
                (λ l. absurd (omega (arith, l, e)))
                (reached Z G ks adm fin a j (message c s (block_is z o)) ha h u),
          )

      send_in : (c j s : ℕ) (x : Agreed) → faulty_client c ≡ false → SF.Correct protocol j → W.ClientSent ks c s x → s ≡ seq Z G ks j c
          → (y : Agreed) × Said echo ks j c s y
      send_in c j s x hc h (b, o, e, u) n =
          let (p, q, v) = client_each Z G ks c b c s o u j h.0 in
          let (ic, k) = arrived (A.Client c) j c s send p h v n in
          subst (λ s. (y : Agreed) × Said echo ks j c s y) (sym n) (to_all_lem j c (seq Z G ks j c) echo ((server_stands Z G ks j c ic).echoed k))

      echo_in : (i j c s : ℕ) (x : Agreed) → SF.Correct protocol i → SF.Correct protocol j → Said echo ks i c s x → s ≡ seq Z G ks j c
          → (y : Agreed) × W.KeptEcho ks j c i y
      echo_in i j c s x hi h (b, o, e, u) n =
          let (ic, (p, k)) = arrived (A.Server i) j c s echo o h (server_each Z G ks i b _ tt u j h.0) n in
          (agreed p, (ic, p, refl, k))

      ready_in : (i j c s : ℕ) (x : Agreed) → SF.Correct protocol i → SF.Correct protocol j → Said ready ks i c s x → s ≡ seq Z G ks j c
          → (y : Agreed) × W.KeptReady ks j c i y
      ready_in i j c s x hi h (b, o, e, u) n =
          let (ic, (p, k)) = arrived (A.Server i) j c s ready o h (server_each Z G ks i b _ tt u j h.0) n in
          (agreed p, (ic, p, refl, k))

      final : SF.Final protocol ks (Collision Z ks)
      final = record {
        Client = Among 8;
        Backed = Backed Z G ks;
        Below = λ x. x.0 < last_time;
        Free = λ j x. x.0 ≤ time Z G M ks j;
        send_in = send_in;
        echo_in = echo_in;
        ready_in = ready_in;
        ready_of_echoes = ready_of_echoes;
        ready_of_readies = ready_of_readies;
        not_done = not_done;
        sent_once = λ c s x y hc (b, o, e, u) (b', o', e', u'). sym e ∙ sent_once Z G ks adm c b b' s o o' u u' ∙ e';
        ready_backed = λ i c s x h u. ready_backed i c s x u;
        begin = λ j c h ic. (server_stands Z G ks j c ic).begun;
        passed = λ j c s h ic l d. of_passed j c s ((server_stands Z G ks j c ic).passed s l d);
        of_client = λ i c s x h u. of_client i c s x u;
        from_one = λ i c s x h u. from_one i c s x u;
        accepted_below = λ i c s x h u. time_below i c s x u;
        readied = λ i c s x h u. to_all_lem i c s ready (its_passed i c s x u).readied;
        rank = rank;
        before = λ i c s x h u l. in_order_lem i c s x u l;
        freed = λ i c s x h u. freed i c s x u;
      }

      pub ended : SF.Ended protocol ks (Collision Z ks)
      ended = record { faults = G.faults; thresholds = thresholds; invariant = invariant; final = final }

      -- ---- totality

      -- a write that one honest server accepted, every honest server accepted
      pub total : (i j p : ℕ) (x : S.Write) → Honest Z (A.Server j) → At (Accepts Z i x) ks p → (x.sequence < seq Z G ks j x.client) ⊎ Collision Z ks
      total i j p x h u = ST.total protocol ended i x.client x.sequence (agreed (offer_of x)) (accepts_honest ks adm i p x u)
          (x, p, u, refl, refl, refl) j h

      -- ---- an honest client's write

      written_source : (c q p : ℕ) (v : List ℕ) → At (OpensWrite Z c q v) ks p → Source Z G ks v
      written_source c q p v u =
          let (l, y) = written_sized Z ks adm c q p v u in
          record { size = l; bytes = y; from = λ j is. of_written p c q j v u is refl }

      -- the time that it sends is vouched
      offer_freed : (c T : ℕ)
          → ((j : ℕ) → Among g.n j → SentBy Z G ks (A.Client c) (A.Server j) (message c (home Z ks c).client.writes (block_is send (offer T
          (entry_of H g (home Z ks c).value j)))))
          → SF.Freed protocol ks rank (λ j x. x.0 ≤ time Z G M ks j) (length ks * 18446744073709551616 + last_time) (T, digests_of H g (home Z ks c).value)
      offer_freed c T f = go (dec_le 1 T)
        where
          go : Dec (1 ≤ T)
              → SF.Freed protocol ks rank (λ j x. x.0 ≤ time Z G M ks j) (length ks * 18446744073709551616 + last_time) (T, digests_of H g (home Z ks c).value)
          go (no n) = inl (λ j hj. omega (arith, n))
          go (yes l) =
              let (j, y, q, v, e) = (VH.heard Z G M ks adm).offered c _ _ _ _ (f 1 (omega arith, omega (arith, G.bounded.servers_low))) T l (omega arith) in
              let h = at_low (Accepts Z j y) ks q v in
              freed_by_lem _ (T, digests_of H g (home Z ks c).value) j y q v e (omega (arith, h, (closed Z G ks j q y v).below))

      -- whose blocks have gone out is accepted by every honest server
      pub written_everywhere : (c : ℕ) → Honest Z (A.Client c) → (home Z ks c).client.phase ≡ F.Acking → (j : ℕ) → Honest Z (A.Server j)
          → ((home Z ks c).client.writes < seq Z G ks j c) ⊎ Collision Z ks
      unfolding entry_of ended final
      written_everywhere c hc e j h =
          let st = stands Z G ks c in
          let (low, q, T, l, f) = subst (Doing Z G ks c (home Z ks c)) e st.doing in
          let (p, o) = st.opened low in
          SW.written protocol ended c (home Z ks c).client.writes (T, digests_of H g (home Z ks c).value) hc.0 hc.1 low
          (A.Server 1, _, refl, f 1 (omega arith, omega (arith, G.bounded.servers_low)))
          ((home Z ks c).value, written_source c (home Z ks c).client.writes p (home Z ks c).value o, refl)
          l (length ks * 18446744073709551616 + last_time) (offer_freed c T f)
          (λ r s l. let (i, p, x, u, ec, es) = (known Z G ks adm).wrote_accepted c r _ (st.ended r l (omega (arith, s))).1 in
          (i, accepts_honest ks adm i p x u, agreed (offer_of x), (x, p, u, ec, es, refl)))
          j h
