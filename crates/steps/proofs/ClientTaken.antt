-- What is known of a frame that a client takes, and that what clients send can be said in a frame. Assumes nothing.
use Rattle.std.specs.Prelude.{Ok, Err}
use Prim.Native.Nat.{ℕ, ◌+◌, ◌≤◌, ◌<◌}
use native.Mathlib.Omega.{arith}
use native.Mathlib.Nat.{mul_comm}
use mathlib.Core.Bool.{Bool, true, false, ◌&&◌}
use mathlib.Core.Path.{◌≡◌, refl, ap, sym, ◌∙◌, subst}
use mathlib.Core.List.Memᴰ
use mathlib.Core.List.{List, []}
use lib.ListN.{length}
use lib.Dec.{eqb}
use borrow.Author.Tests.{leb-false, ltb-false, eqb-true}
use Rattle.quorum.specs.Quorum.{Among}
use Rattle.quorum.proofs.Logic.{impossible, and_split}
use Rattle.area.specs.Area.{Bytes, pick}
use Rattle.area.proofs.Fills.{length_joined}
use Rattle.blocks.specs.declared.Params.{Params}
use Rattle.frame.specs.declared.Stamp.{Stamp}
use Rattle.frame.specs.declared.Party.{Party}
use Rattle.frame.specs.declared.Header.{Header}
use Rattle.frame.specs.Frames.{Opened}
use Rattle.frame.specs.declared.Refusal.TheVariants as R
use Rattle.group_rules.specs.Coded.{digests_of, entry_of, block_at}
use Rattle.frame.specs.Frames.{opened, message_in}
use Rattle.frame.specs.Messages.{Entry, offer, send, Body, get_stamp, ask_read, read_complete, block_is, Message, message}
use Rattle.frame.specs.Messages.{number_in, from_server, Judged, bad, good, judged_by, after, Sized, Formed, FormedBody}
use Rattle.frame.specs.Params.{params_test, listed, client_frames, out_room, to_room}
use Rattle.frame.specs.Refusals.{and_then, Verdict, fine}
use Rattle.frame.specs.Stamps.{last_sequence, last_client}
use Rattle.frame.specs.Chunks.{rows_bytes}
use Rattle.frame.proofs.Verdicts.{fine_both, fine_not}
use Rattle.frame.proofs.Converse.{formed_opened}
use Rattle.client_rules.specs.declared.Phase.{Phase}
use Rattle.client_rules.specs.declared.Client.{Client}
use Rattle.client_rules.specs.declared.Phase.TheVariants as F
use Rattle.client_rules.specs.State.{writing}
use Rattle.client_rules.specs.Beginning as CB
use Rattle.client_rules.specs.Delivery as CD
use Rattle.client_rules.specs.State as CS
use Rattle.client_rules.specs.Steps as C
use Rattle.client_rules.proofs.Shapes.{Keeps, drops, keeps, Learns, replies, reports, learns_writes, Shape, idle, notes, hears, shuts, counts, ends, waits}
use Rattle.client_rules.proofs.Shapes.{completes, shape_of}
use Rattle.client_rules.proofs.Shapes.{sends as disperses}
use Rattle.client_rules.specs.Tests as CT
pub use Rattle.client_rules.proofs.CallFacts.{awaited_true}
use Rattle.client_rules.proofs.CallFacts.{value_whole}
use Rattle.steps.proofs.ServerRanges.{AllFormed, formed_all}
use Rattle.server_rules.proofs.Decoding.{block_width}

pub by_fine : (v : Verdict) (n m : Message) → judged_by v n ≡ good m → v ≡ fine
by_fine (Ok _) n m e = refl
by_fine (Err r) n m e = impossible (cc)

pub after_fine : (v : Verdict) (j : Judged) (m : Message) → after v j ≡ good m → j ≡ good m
after_fine (Ok _) j m e = e
after_fine (Err r) j m e = impossible (cc)

-- the number of a write that awaits stamps can be said in a frame, whatever frame comes
pub record Numbered (s : Client) : Type 0 where
  pub low : CS.asking s.phase ≡ true → 1 ≤ s.writes
  pub high : s.writes < 4294967296

module _ (H : List ℕ → List ℕ) (g : Params) (me : ℕ) where
  pub record Taken (s : Client) (v : List ℕ) (from : Party) (f : List ℕ) (m : Message) : Type 0 where
    pub header : Header
    pub opens : opened g f ≡ Ok header
    pub says : message_in g header f ≡ m
    pub passes : CT.message_test H g me s from m ≡ fine
    pub value : CT.value_test g s.phase (length v) ≡ fine

  pub data Delivered (s : Client) (a v : List ℕ) (from : Party) (f : List ℕ) (r : C.Effect) : Type 0 where
    refused : r ≡ C.quiet s a → Delivered s a v from f r
    taken : (m : Message) → Taken s v from f m → rows_bytes ≤ length a → r ≡ C.effect H g me s a v from m → Delivered s a v from f r

  took_by : (o : Opened) (room : Verdict) (s : Client) (v : List ℕ) (from : Party) (f : List ℕ) (m : Message) → CT.value_test g s.phase (length v) ≡ fine
      → opened g f ≡ o → CT.judge_opened H g me o room s from f ≡ good m → Taken s v from f m
  unfolding CT.judge_opened
  took_by (Err r) room s v from f m t p q = impossible (cc)
  took_by (Ok h) room s v from f m t p q = go (and_then room (CT.message_test H g me s from (message_in g h f))) refl q
    where
      go : (y : Verdict) → and_then room (CT.message_test H g me s from (message_in g h f)) ≡ y → judged_by y (message_in g h f) ≡ good m → Taken s v from f m
      go (Err r) e u = impossible (cc)
      go (Ok _) e u =
          let is : message_in g h f ≡ m = cc in
          record { header = h; opens = p; says = is; passes = subst (λ x. CT.message_test H g me s from x ≡ fine) is (fine_both room _ e).1; value = t }

  pub took : (s : Client) (a v : List ℕ) (from : Party) (f result out to : List ℕ) (m : Message) → CT.judge H g me s a v from f result out to ≡ good m
      → Taken s v from f m
  unfolding CT.judge CT.judge_opened
  took s a v from f result out to m e = go (and_then (params_test g me last_client) (CT.value_test g s.phase (length v))) refl e
    where
      go : (y : Verdict) → and_then (params_test g me last_client) (CT.value_test g s.phase (length v)) ≡ y
          → after y (CT.judge_opened H g me (opened g f) (CT.room_test g (length a) (length result) (length out) (length to)) s from f) ≡ good m
          → Taken s v from f m
      go (Ok _) p e = took_by (opened g f) _ s v from f m (fine_both (params_test g me last_client) _ p).1 refl e
      go (Err r) p e = impossible (cc)

  -- what is taken found room
  pub record Room (a result out to : List ℕ) : Type 0 where
    pub rows_room : rows_bytes ≤ length a
    pub value_room : g.size ≤ length result
    pub out_room_lem : out_room g (client_frames g) ≤ length out
    pub to_room_lem : to_room (client_frames g) ≤ length to

  pub send_room_lem : (out to : List ℕ) → CT.send_room g (length out) (length to) ≡ fine
      → (out_room g (client_frames g) ≤ length out) × (to_room (client_frames g) ≤ length to)
  unfolding CT.send_room
  send_room_lem out to w =
      let p₁ = fine_not _ _ _ w in
      let p₂ = fine_not _ _ _ p₁.1 in
      (ltb-false _ _ p₁.0, ltb-false _ _ p₂.0)

  pub took_room : (s : Client) (a v : List ℕ) (from : Party) (f result out to : List ℕ) (m : Message)
      → CT.judge H g me s a v from f result out to ≡ good m → Room a result out to
  unfolding CT.judge CT.judge_opened CT.room_test
  took_room s a v from f result out to m e = go (opened g f) (after_fine (and_then (params_test g me last_client) (CT.value_test g s.phase (length v))) _ m e)
    where
      room : Verdict
      room = CT.room_test g (length a) (length result) (length out) (length to)

      go : (o : Opened) → CT.judge_opened H g me o room s from f ≡ good m → Room a result out to
      go (Err r) u = impossible (cc)
      go (Ok h) u =
          let w = (fine_both room (CT.message_test H g me s from (message_in g h f)) (by_fine _ _ m u)).0 in
          let p₁ = fine_not _ _ _ w in
          let p₂ = fine_not _ _ _ p₁.1 in
          let p₃ = send_room_lem out to p₂.1 in
          record { rows_room = ltb-false _ _ p₁.0; value_room = ltb-false _ _ p₂.0; out_room_lem = p₃.0; to_room_lem = p₃.1 }

  pub delivered : (s : Client) (a v : List ℕ) (from : Party) (f result out to : List ℕ)
      → Delivered s a v from f (CD.delivered H g me s a v from f result out to)
  unfolding CD.delivered CT.answers CT.order_test CD.effect_by
  delivered s a v from f result out to = go (CT.judge H g me s a v from f result out to) refl
    where
      go : (j : Judged) → CT.judge H g me s a v from f result out to ≡ j → Delivered s a v from f (CD.effect_by H g me j s a v from)
      go (bad r) e = refused refl
      go (good m) e = taken m (took s a v from f result out to m e) (took_room s a v from f result out to m e).rows_room refl

  -- what a passed test says
  pub record Passed (s : Client) (from : Party) (m : Message) : Type 0 where
    pub server : from_server g from ≡ true
    pub answers : CT.answers m.body ≡ true
    pub owner : CT.owner_right me m.client m.body ≡ true
    pub order : CT.order_test H g me s (number_in from) m.sequence m.body ≡ fine

  pub passed : (s : Client) (from : Party) (m : Message) → CT.message_test H g me s from m ≡ fine → Passed s from m
  unfolding CT.message_test pick CT.answers CT.order_test
  passed s from m e = go (from_server g from && (CT.answers m.body && CT.owner_right me m.client m.body)) refl e
    where
      go : (b : Bool) → (from_server g from && (CT.answers m.body && CT.owner_right me m.client m.body)) ≡ b
          → pick b (CT.order_test H g me s (number_in from) m.sequence m.body) (Err R.Sender) ≡ fine → Passed s from m
      go true p e =
          let w = and_split _ _ p in
          let y = and_split _ _ w.1 in
          record { server = w.0; answers = y.0; owner = y.1; order = e }
      go false p e = impossible (cc)

  -- ---- what clients send

  pub digests_size : ((b : List ℕ) → length (H b) ≡ 32) → (v : List ℕ) → length (digests_of H g v) ≡ listed g
  unfolding digests_of
  digests_size D v = length_joined (λ j. H (block_at H g v j)) 32 1 g.n (λ j. D (block_at H g v j)) ∙ mul_comm g.n 32

  pub entry_size : ((b : List ℕ) → length (H b) ≡ 32) → (v : List ℕ) → length v ≡ g.size → (j : ℕ) → Sized g (entry_of H g v j)
  unfolding entry_of
  entry_size D v e j = record { list_is = digests_size D v; block_is_lem = block_width g v j e }

  pub asking_writing : (p : Phase) → CS.asking p ≡ true → writing p ≡ true
  asking_writing F.Idle e = impossible (cc)
  asking_writing F.Asking e = refl
  asking_writing F.Acking e = refl
  asking_writing F.Reading e = impossible (cc)

  none_formed : AllFormed g []
  none_formed x u = absurd (Memᴰ.not-nil u)

  pub keeps_reads : (s : Client) (a v : List ℕ) (j : ℕ) {x : Stamp} {e : Entry} {s' : Client} {a' : List ℕ} → Keeps H g me s a v j x e s' a'
      → s'.reads ≡ s.reads
  keeps_reads s a v j (drops z) = refl
  keeps_reads s a v j (keeps i z) = refl

  -- ---- the numbers of writes

  -- what an open write has in its first part is learned there
  pub learns_asking : (s : Client) (a v : List ℕ) (j q : ℕ) {b : Body} {s' : Client} → CT.order_test H g me s j q b ≡ fine → Learns H g me s a v j b s'
      → CS.asking s.phase ≡ true
  unfolding CT.order_test
  learns_asking s a v j q o (replies T) = (and_split (CS.asking s.phase) _ (awaited_true H g me _ o)).0
  learns_asking s a v j q o (reports T p) = p

  keeps_writes : (s : Client) (a v : List ℕ) (j : ℕ) {x : Stamp} {e : Entry} {s' : Client} {a' : List ℕ} → Keeps H g me s a v j x e s' a'
      → (s'.writes ≡ s.writes) × (s'.phase ≡ s.phase)
  keeps_writes s a v j (drops z) = (refl, refl)
  keeps_writes s a v j (keeps i z) = (refl, refl)

  numbered_shape : (s : Client) (a v : List ℕ) (j q : ℕ) {b : Body} {r : C.Effect} → Numbered s → CT.order_test H g me s j q b ≡ fine
      → Shape H g me s a v j b r → Numbered r.client
  numbered_shape s a v j q N o (idle b) = N
  numbered_shape s a v j q N o (notes T p) = record { low = N.low; high = N.high }
  numbered_shape s a v j q N o (hears b k z) =
      let e = learns_writes H g me s a v j k in
      let l = N.low (learns_asking s a v j q o k) in
      record { low = λ p. omega (arith, e, l); high = omega (arith, e, N.high) }
  numbered_shape s a v j q N o (disperses b k z l) =
      let e = learns_writes H g me s a v j k in record { low = λ p. impossible (cc p); high = omega (arith, e, N.high) }
  numbered_shape s a v j q N o (shuts b k z l) =
      let e = learns_writes H g me s a v j k in record { low = λ p. impossible (cc p); high = omega (arith, e, N.high) }
  numbered_shape s a v j q N o (counts z) = record { low = λ p. impossible (cc p); high = N.high }
  numbered_shape s a v j q N o (ends z) = record { low = λ p. impossible (cc p); high = N.high }
  numbered_shape s a v j q N o (waits x e k z) =
      let (w, p) = keeps_writes s a v j k in
      record { low = λ h. let l = N.low (ap CS.asking (sym p) ∙ h) in omega (arith, l, w); high = omega (arith, w, N.high) }
  numbered_shape s a v j q N o (completes x e k y z) =
      let (w, p) = keeps_writes s a v j k in record { low = λ p. impossible (cc p); high = omega (arith, w, N.high) }

  pub numbered_delivered : (s : Client) (a v : List ℕ) (from : Party) (f result out to : List ℕ) → Numbered s
      → Numbered (CD.delivered H g me s a v from f result out to).client
  numbered_delivered s a v from f result out to N = go (delivered s a v from f result out to)
    where
      go : {r : C.Effect} → Delivered s a v from f r → Numbered r.client
      go {r} (refused e) = rw e N
      go {r} (taken m T z e) =
          rw e (numbered_shape s a v (number_in from) m.sequence N (passed s from m T.passes).order (shape_of H g me s a v from m))

  module _ (D : (b : List ℕ) → length (H b) ≡ 32) (is : Among 8 me) where
    said : (q : ℕ) → 1 ≤ q → q < 4294967296 → (b : Body) → FormedBody g b → Formed g (message me q b)
    said q lo hi b f = record { client_low = is.0; client_high = is.1; sequence_low = lo; sequence_high = hi; body = f }

    shape_formed : (s : Client) (a v : List ℕ) → Numbered s → (j c q : ℕ) {b : Body} {r : C.Effect} → Formed g (message c q b)
        → CT.order_test H g me s j q b ≡ fine → CT.value_test g s.phase (length v) ≡ fine → Shape H g me s a v j b r → AllFormed g r.sends
    unfolding CT.order_test
    shape_formed s a v N j c q f o t (idle b) = none_formed
    shape_formed s a v N j c q f o t (notes T p) = none_formed
    shape_formed s a v N j c q f o t (hears b k z) = none_formed
    shape_formed s a v N j c q f o t (disperses b k z l) =
        let w = learns_asking s a v j q o k in
        let e = value_whole g s.phase (length v) t (asking_writing s.phase w) in
        formed_all g _ (λ i. said s.writes (N.low w) N.high (block_is send (offer _ (entry_of H g v i))) (entry_size D v e i, omega (arith, l)))
    shape_formed s a v N j c q f o t (shuts b k z l) = none_formed
    shape_formed s a v N j c q f o t (counts z) = none_formed
    shape_formed s a v N j c q f o t (ends z) = none_formed
    shape_formed s a v N j c q f o t (waits x e k z) = none_formed
    shape_formed s a v N j c q f o t (completes x e {s'} k y z) =
        let w = and_split (CS.reading s.phase) _ (awaited_true H g me _ (fine_both _ _ o).0) in
        let h : q ≡ s.reads = eqb-true q s.reads (and_split (eqb q s.reads) _ w.1).0 in
        let n = keeps_reads s a v j k in
        formed_all g _ (λ i. said s'.reads (omega (arith, h, n, f.sequence_low)) (omega (arith, h, n, f.sequence_high)) read_complete tt)

    pub delivered_formed : (s : Client) (a v : List ℕ) → Numbered s → (from : Party) (f result out to : List ℕ) → Bytes f
        → AllFormed g (CD.delivered H g me s a v from f result out to).sends
    delivered_formed s a v N from f result out to bs = go (delivered s a v from f result out to)
      where
        go : {r : C.Effect} → Delivered s a v from f r → AllFormed g r.sends
        go {r} (refused e) = rw e none_formed
        go {r} (taken m T z e) =
            let F' : Formed g m = subst (Formed g) T.says (formed_opened g f T.header bs T.opens) in
            rw e (shape_formed s a v N (number_in from) m.client m.sequence F' (passed s from m T.passes).order T.value
            (shape_of H g me s a v from m))

    idle_low : (s : Client) (last : ℕ) → CB.idle_test s.phase last ≡ fine → last < last_sequence
    idle_low s last e =
        let p₁ = fine_not _ _ _ e in
        let p₂ = fine_not _ _ _ p₁.1 in
        leb-false last_sequence last p₂.0

    pub read_idle : (s : Client) (out to : List ℕ) → CB.read_test g me s out to ≡ fine → CB.idle_test s.phase s.reads ≡ fine
    unfolding CB.read_test
    read_idle s out to e =
        (fine_both (CT.send_room g (length out) (length to)) (CB.idle_test s.phase s.reads) (fine_both (params_test g me last_client) _ e).1).1

    pub write_idle : (s : Client) (v out to : List ℕ) → CB.write_test g me s v out to ≡ fine → CB.idle_test s.phase s.writes ≡ fine
    unfolding CB.write_test
    write_idle s v out to e =
        let p₁ = (fine_both (params_test g me last_client) _ e).1 in
        let p₂ = (fine_both (CB.length_test g (length v)) _ p₁).1 in
        let p₃ = (fine_both (CT.send_room g (length out) (length to)) _ p₂).1 in
        (fine_both (CB.idle_test s.phase s.writes) _ p₃).0

    pub read_formed : (s : Client) (out to : List ℕ) → AllFormed g (CB.read_begun g me s out to).sends
    unfolding CB.read_begun CB.open_read CB.begin_by
    read_formed s out to = go (CB.read_test g me s out to) refl
      where
        go : (y : Verdict) → CB.read_test g me s out to ≡ y → AllFormed g (CB.begin_by g me y s (CB.open_read g me s)).sends
        go (Err r) e = none_formed
        go (Ok _) e =
            let h = idle_low s s.reads (read_idle s out to e) in
            formed_all g _ (λ i. said (s.reads + 1) (omega arith) (omega (arith, h)) ask_read tt)

    pub write_formed : (s : Client) (v out to : List ℕ) → AllFormed g (CB.write_begun g me s v out to).sends
    unfolding CB.write_begun CB.open_write CB.begin_by
    write_formed s v out to = go (CB.write_test g me s v out to) refl
      where
        go : (y : Verdict) → CB.write_test g me s v out to ≡ y → AllFormed g (CB.begin_by g me y s (CB.open_write g me s)).sends
        go (Err r) e = none_formed
        go (Ok _) e =
            let h = idle_low s s.writes (write_idle s v out to e) in
            formed_all g _ (λ i. said (s.writes + 1) (omega arith) (omega (arith, h)) get_stamp tt)

    pub numbered_read : (s : Client) (out to : List ℕ) → Numbered s → Numbered (CB.read_begun g me s out to).client
    unfolding CB.read_begun CB.open_read CB.begin_by
    numbered_read s out to N = go (CB.read_test g me s out to)
      where
        go : (y : Verdict) → Numbered (CB.begin_by g me y s (CB.open_read g me s)).client
        go (Err r) = N
        go (Ok _) = record { low = λ p. impossible (cc p); high = N.high }

    pub numbered_write : (s : Client) (v out to : List ℕ) → Numbered s → Numbered (CB.write_begun g me s v out to).client
    unfolding CB.write_begun CB.open_write CB.begin_by
    numbered_write s v out to N = go (CB.write_test g me s v out to) refl
      where
        go : (y : Verdict) → CB.write_test g me s v out to ≡ y → Numbered (CB.begin_by g me y s (CB.open_write g me s)).client
        go (Err r) e = N
        go (Ok _) e =
            let h = idle_low s s.writes (write_idle s v out to e) in
            record { low = λ p. omega arith; high = omega (arith, h) }
