-- A list of exported calls makes a run: the bytes that hosts keep say the parties of its world. Assumes nothing.
use Rattle.std.specs.Prelude.{Ok, Err}
use Prim.Native.Nat.{ℕ, ◌+◌, ◌*◌, ◌%◌, ◌≤◌, ◌<◌}
use native.Mathlib.Omega.{arith}
use native.Mathlib.Decide.{ℕ_discrete}
use mathlib.Core.Bool.{Bool, true, false, ◌||◌}
use mathlib.Core.Path.{◌≡◌, refl, sym, ap, subst, ◌∙◌}
use mathlib.Core.List.{List, [], ◌∷◌, ◌++◌}
use mathlib.Core.Logic.{⊎_elim}
use lib.ListN.{length}
use lib.Seq.{sets, length-sets}
use lib.Dec.{ltb, eqb}
use borrow.Author.Tests.{ltb-true, ltb-false, ne_eqb}
use Rattle.quorum.specs.Quorum.{Among}
use Rattle.quorum.proofs.Logic.{impossible}
use Rattle.area.specs.Area.{pick, Bytes}
use Rattle.area.specs.Responses.{Response, is_turned_down}
use Rattle.sha256.specs.Hash.{digest_of}
use Rattle.blocks.specs.declared.Params.{Params}
use Rattle.frame.specs.declared.Party.{Party}
use Rattle.frame.specs.declared.Party.TheVariants as P
use Rattle.frame.specs.declared.Refusal.{Refusal}
use Rattle.frame.specs.Refusals.{number_of, answered_by, Verdict, fine}
use Rattle.frame.specs.declared.Stamp.{Stamp}
use Rattle.frame.specs.Frames.{header_in, stamp_bytes}
use Rattle.frame.specs.Messages.{number_in}
use Rattle.server_rules.specs.declared.Slot.{Slot}
use Rattle.server_rules.specs.declared.Reader.{Reader}
use Rattle.server_rules.specs.Delivery as SD
use Rattle.server_rules.proofs.Within.{either}
use Rattle.server_rules.proofs.Parts.{put_same, put_cases}
use Rattle.client_rules.specs.Answers.{Progress, goes_on}
use Rattle.client_rules.specs.declared.Client.{Client}
use Rattle.client_rules.specs.declared.Phase.{Phase}
use Rattle.client_rules.specs.declared.Phase.TheVariants as F
use Rattle.client_rules.specs.State.{writing, fresh_client}
use Rattle.client_rules.specs.Delivery as CD
use Rattle.client_rules.specs.Beginning as CB
use Rattle.runs.specs.World as W
use Rattle.runs.specs.World.{Setup, Sound, Call, ServerSide, ClientSide, World, put, caller, initial_of, lent_to, start, step, run}
use Rattle.runs.specs.Admissible.{Admissible}
use Rattle.runs.specs.Demand.{TheoremSha256}
use Rattle.runs.specs.Promises.{value_by, RunsGoOn}
use Rattle.runs.proofs.Assumed.{assumed}
use Rattle.runs.proofs.OrderLaws.{fresh_fine}
use Rattle.runs.proofs.Promises.{other_put, runs_go_on}
use Rattle.runs.proofs.Theorem.{theorem_sha256, sha256_size}
use Rattle.layout.specs.Fields.{stamp_size}
use Rattle.layout.specs.Clients.{client_size, client_bytes, client_in}
use Rattle.layout.specs.Servers.{server_size, server_bytes, server_in, slot_bytes, reader_bytes, scope_sets}
use Rattle.layout.specs.Left.{left_by}
use Rattle.site.specs.Answers.{client_answer, open_answer}
use Rattle.server_deliver.specs.Answers.{server_answer}
use Rattle.server_deliver.specs.Records.{outcome_at, constructed_at}
use Rattle.server_deliver.proofs.Records.{whole_record}
use Rattle.server_deliver.proofs.FreshRecords.{whole_made}
use Rattle.server_deliver.proofs.RecordBack.{record_length, record_back, record_bytes, made_length, made_back, made_bytes, fresh_server_lem}
use Rattle.hosts.proofs.RefusalNumbers.{number_bounds}
use Rattle.semduoli.specs.Calls.{Wrote, wrote, fresh_call, Began, began, began_of, state_after, read_call, write_call}
use Rattle.semduoli.specs.Handed.{sender_of, stamp_after, ClientGot, client_got_of, client_call}
use Rattle.semduoli.specs.ServerCalls.{made_of, make_call, ServerGot, server_got_of, server_call}
use Rattle.semduoli.specs.Asked.{open_of, client_open_call}
use Rattle.semduoli.proofs.Laws.{enough}
use Rattle.semduoli.proofs.Handed.{client_whole, client_stamp_short}
use Rattle.semduoli.proofs.ClientRecordBack.{fresh_back, read_back, write_back, client_record_back}
use Rattle.semduoli.proofs.StayBytes.{fresh_bytes, read_bytes, write_bytes, client_call_bytes}
use Rattle.hosts.specs.Hosts.{ServerHost, ClientHost, Hosts, Records, Lent, HostCall, server_deliver, client_deliver, begin_read, begin_write, write_open}
use Rattle.hosts.specs.Hosts.{lent_by, kept_by, first, host_step, hosted, call_of, calls_of, Told, told, told_by, told_in, Fit, ServerSays, ClientSays}
use Rattle.hosts.specs.Hosts.{HostsTheorem}

-- ---- areas keep their lengths

long_sets : (n : ℕ) (l : List ℕ) (i : ℕ) (vs : List ℕ) → n ≤ length l → n ≤ length (sets l i vs)
long_sets n l i vs h = subst (λ m. n ≤ m) (sym (length-sets l i vs)) h

abbrev LongState : ℕ → List ℕ → Type 0
LongState n l = n ≤ length l

module _ (g : Params) (me : ℕ) (from : Party) (f area initial state out to : List ℕ) (h : server_size ≤ length state) where
  server_long : server_size ≤ length (server_call g me from f area initial state out to).state
  unfolding server_call
  server_long = omega (arith, h, record_length g me from f area initial state out to h)

  -- the call, where the record's area is long enough
  server_whole : server_call g me from f area initial state out to
      ≡ server_got_of (outcome_at (SD.delivery digest_of g me (server_in state) area initial from f out to)
      (SD.delivered digest_of g me (server_in state) area initial from f out to) (header_in f) from state)
  unfolding server_call
  server_whole = sym (ap server_got_of (whole_record g me from f area initial state out to h))

after_long : (a : Response Progress) (s : Client) (state : List ℕ) → client_size ≤ length state → client_size ≤ length (state_after a s state)
unfolding state_after left_by
after_long a s state h = either (LongState client_size) (is_turned_down a) state _ h (long_sets client_size state 0 (client_bytes s) h)

module _ (g : Params) (me : ℕ) (state out to : List ℕ) (h : client_size ≤ length state) where
  read_long : client_size ≤ length (read_call g me state out to).state
  unfolding read_call began_of
  read_long = either (λ (z : Began). LongState client_size z.state) (ltb (length state) client_size) (began _ state out to) _ h (after_long _ _ state h)

  write_long : (v : List ℕ) → client_size ≤ length (write_call g me v state out to).state
  unfolding write_call began_of
  write_long v = either (λ (z : Began). LongState client_size z.state) (ltb (length state) client_size) (began _ state out to) _ h (after_long _ _ state h)

  read_whole : read_call g me state out to ≡ began_of g (CB.read_beginning g me (client_in state) out to) state
  unfolding read_call
  read_whole = sym (enough (length state) client_size _ _ h)

  write_whole : (v : List ℕ) → write_call g me v state out to ≡ began_of g (CB.write_beginning g me (client_in state) v out to) state
  unfolding write_call
  write_whole v = sym (enough (length state) client_size _ _ h)

fresh_long : (state : List ℕ) → client_size ≤ length state → client_size ≤ length (fresh_call state).out
unfolding fresh_call
fresh_long state h =
    either (λ (z : Wrote). LongState client_size z.out) (ltb (length state) client_size) (wrote 10 state) _ h
    (long_sets client_size state 0 (client_bytes fresh_client) h)

-- ---- a fresh server

made_fine : (H : List ℕ → List ℕ) (g : Params) (i : ℕ) (v a b : List ℕ) → SD.construct_test H g i v (length a) (length b) ≡ fine
    → is_turned_down (SD.construction H g i v a b).reply ≡ false
unfolding SD.construction SD.construct_by is_turned_down
made_fine H g i v a b e = ap (λ t. is_turned_down (SD.construct_by H g i t v a b).reply) e

module _ (g : Params) (i : ℕ) (v a b state : List ℕ) (h : server_size ≤ length state) where
  make_whole : make_call g i v a b state ≡ made_of (constructed_at (SD.construction digest_of g i v a b) state)
  unfolding make_call
  make_whole = sym (ap made_of (whole_made g i v a b state h))

  make_long : server_size ≤ length (make_call g i v a b state).state
  unfolding make_call
  make_long = omega (arith, h, made_length g i v a b state h)

-- ---- what an answer's number says

-- the lowest two bytes of a number
low : (k m : ℕ) → k < 65536 → (k + 65536 * m) % 65536 ≡ k
low k m h = omega arith

module _ (w r : ℕ) where
  open_read_lem : (p : Phase) → write_open (open_answer p w r) ≡ writing p
  unfolding open_answer
  open_read_lem F.Idle = refl
  open_read_lem F.Asking = ap (λ x. eqb x 256 || eqb x 512) (low 256 w (omega arith))
  open_read_lem F.Acking = ap (λ x. eqb x 256 || eqb x 512) (low 512 w (omega arith))
  open_read_lem F.Reading = ap (λ x. eqb x 256 || eqb x 512) (low 768 r (omega arith))

-- the answer of semduoli_client_open says whether a write is open
open_is : (state : List ℕ) → client_size ≤ length state → write_open (client_open_call state) ≡ writing (client_in state).phase
unfolding client_open_call open_of
open_is state h =
    ap write_open (sym (enough (length state) client_size 10 (open_of (client_in state)) h))
    ∙ open_read_lem (client_in state).writes (client_in state).reads (client_in state).phase

refused_low : (r : Refusal) → eqb (number_of r % 65536) 0 ≡ false
refused_low r = let h = number_bounds r in ne_eqb (number_of r % 65536) 0 (λ e. omega (arith, h.0, h.1, e))

-- the answer of semduoli_begin_write says whether the write was begun
kept_by_lem : (Z : Setup) (w : World) (n m : ℕ) (b : Verdict) (v old : List ℕ)
    → kept_by (client_answer n (answered_by b (goes_on m))) v old ≡ value_by Z w (answered_by b (goes_on m)) v old
unfolding client_answer pick
kept_by_lem Z w n m (Ok _) v old = let h : 65536 * (m % 65536) % 65536 ≡ 0 = omega arith in ap (λ x. pick (eqb x 0) v old) h
kept_by_lem Z w n m (Err r) v old = ap (λ b. pick b v old) (refused_low r)

kept_is : (Z : Setup) (w : World) (c : ℕ) (s : Client) (v out to old : List ℕ)
    → let a = (CB.write_beginning Z.g c s v out to).answer in kept_by (client_answer Z.g.n a) v old ≡ value_by Z w a v old
unfolding CB.write_beginning CB.begun_of
kept_is Z w c s v out to old = kept_by_lem Z w Z.g.n _ (CB.write_test Z.g c s v out to) v old

-- ---- what is kept of a party

module _ (Z : Setup) where
  open Z use {H, g}

  record ServerKept (i : ℕ) (x : ServerHost) (y : ServerSide) : Type 0 where
    says : ServerSays x y (initial_of Z i)
    long : server_size ≤ length x.state
    bytes : Bytes x.state

  record ClientKept (x : ClientHost) (y : ClientSide) : Type 0 where
    says : ClientSays x y
    long : client_size ≤ length x.state
    bytes : Bytes x.state

  record Kept (h : Hosts) (w : World) : Type 0 where
    servers : (i : ℕ) → Among g.n i → ServerKept i (h.servers i) (w.servers i)
    clients : (c : ℕ) → ClientKept (h.clients c) (w.clients c)

  -- ---- a server's call

  module _ (e : H ≡ digest_of) (i : ℕ) (from : Party) (f out to : List ℕ) (x : ServerHost) (w : World) (K : ServerKept i x (w.servers i)) where
    -- the delivery to the server that the bytes say is the run's
    server_same : SD.delivery digest_of g i (server_in x.state) x.area x.initial from f out to
        ≡ SD.delivery H g i (w.servers i).server (w.servers i).area (initial_of Z i) from f out to
    server_same =
        ap (λ h. SD.delivery h g i (server_in x.state) x.area x.initial from f out to) (sym e)
        ∙ ap (λ s. SD.delivery H g i s x.area x.initial from f out to) K.says.server
        ∙ ap (λ a. SD.delivery H g i (w.servers i).server a x.initial from f out to) K.says.area
        ∙ ap (λ l. SD.delivery H g i (w.servers i).server (w.servers i).area l from f out to) K.says.block

    abbrev server_call_lem : ServerGot
    server_call_lem = server_call g i from f x.area x.initial x.state out to

    server_told : told server_call_lem.answer server_call_lem.out server_call_lem.to
        ≡ (let r = SD.delivery H g i (w.servers i).server (w.servers i).area (initial_of Z i) from f out to in
        told (server_answer r.reply) r.out r.to)
    unfolding outcome_at
    server_told =
        ap (λ m. told m.answer m.out m.to) (server_whole g i from f x.area x.initial x.state out to K.long)
        ∙ ap (λ r. told (server_answer r.reply) r.out r.to) server_same

    server_kept : Bytes f → ServerKept i (record { state = server_call_lem.state; area = server_call_lem.area; initial = x.initial })
        ((step Z w (W.to_server i from f out to)).servers i)
    unfolding outcome_at server_call RunsGoOn
    server_kept q =
        let G = (runs_go_on Z w).server i from f out to in
        subst (ServerKept i _) (sym G) (record {
          says = record {
            server = record_back g i from f x.area x.initial x.state out to K.long K.bytes q ∙ ap (λ r. r.server) server_same;
            area = ap (λ m. m.area) (server_whole g i from f x.area x.initial x.state out to K.long) ∙ ap (λ r. r.area) server_same;
            block = K.says.block;
          };
          long = server_long g i from f x.area x.initial x.state out to K.long;
          bytes = record_bytes g i from f x.area x.initial x.state out to K.long K.bytes q;
        })

  -- ---- a client's calls

  module _ (e : H ≡ digest_of) (c : ℕ) (from : Party) (f lent result stamp out to : List ℕ) (x : ClientHost) (w : World) (K : ClientKept x (w.clients c)) where
    lent_same : lent_by x lent ≡ lent_to Z w c lent
    lent_same =
        ap (λ b. pick b x.value lent) (open_is x.state K.long)
        ∙ ap (λ s. pick (writing s.phase) x.value lent) K.says.client
        ∙ ap (λ v. pick (writing (w.clients c).client.phase) v lent) K.says.value

    client_same : CD.delivery digest_of g c (client_in x.state) x.rows (lent_by x lent) from f result out to
        ≡ CD.delivery H g c (w.clients c).client (w.clients c).area (lent_to Z w c lent) from f result out to
    client_same =
        ap (λ h. CD.delivery h g c (client_in x.state) x.rows (lent_by x lent) from f result out to) (sym e)
        ∙ ap (λ v. CD.delivery H g c (client_in x.state) x.rows v from f result out to) lent_same
        ∙ ap (λ s. CD.delivery H g c s x.rows (lent_to Z w c lent) from f result out to) K.says.client
        ∙ ap (λ a. CD.delivery H g c (w.clients c).client a (lent_to Z w c lent) from f result out to) K.says.rows

    abbrev client_call_lem : ClientGot
    client_call_lem = client_call g c from (lent_by x lent) f x.rows result stamp x.state out to

    abbrev after_client : ClientHost
    after_client = record { state = client_call_lem.state; rows = client_call_lem.rows; value = x.value }

    -- with a short stamp area nothing changes
    client_short_kept : length stamp < stamp_size → ClientKept after_client (w.clients c)
    client_short_kept h =
        let m = client_stamp_short g c from (lent_by x lent) f x.rows result stamp x.state out to K.long _ _ _ h refl refl refl in
        subst (λ z. ClientKept (record { state = z.state; rows = z.rows; value = x.value }) (w.clients c)) m K

    module _ (wide : stamp_size ≤ length stamp) where
      client_is : client_got_of g (CD.delivery digest_of g c (client_in x.state) x.rows (lent_by x lent) from f result out to) stamp x.state ≡ client_call_lem
      client_is = client_whole g c from (lent_by x lent) f x.rows result stamp x.state out to K.long wide

      client_told : ◌≡◌ {A = Told}
          (let m = client_call_lem in record { answer = m.answer; result = m.result; stamp = m.stamp; out = m.out; to = m.to })
          (let r = CD.delivery H g c (w.clients c).client (w.clients c).area (lent_to Z w c lent) from f result out to in
          record { answer = client_answer g.n r.answer; result = r.result; stamp = stamp_after r.answer stamp; out = r.out; to = r.to })
      unfolding client_got_of
      client_told =
          ap (λ m. record { answer = m.answer; result = m.result; stamp = m.stamp; out = m.out; to = m.to }) (sym client_is)
          ∙ ap
          (λ r. record { answer = client_answer g.n r.answer; result = r.result; stamp = stamp_after r.answer stamp; out = r.out; to = r.to })
          client_same

      client_kept : Bytes f → ClientKept after_client ((step Z w (W.to_client c from f lent result out to)).clients c)
      unfolding client_got_of RunsGoOn
      client_kept q =
          let G = (runs_go_on Z w).client c from f lent result out to in
          subst (ClientKept _) (sym G) (record {
            says = record {
              client =
                  client_record_back g c from (lent_by x lent) f x.rows result stamp x.state out to K.long wide K.bytes q
                  ∙ ap (λ r. r.client) client_same;
              rows = ap (λ m. m.rows) (sym client_is) ∙ ap (λ r. r.area) client_same;
              value = K.says.value;
            };
            long = subst (λ m. client_size ≤ length m.state) client_is (after_long _ _ x.state K.long);
            bytes = client_call_bytes g c from (lent_by x lent) f x.rows result stamp x.state out to K.bytes q;
          })

  module _ (c : ℕ) (out to : List ℕ) (x : ClientHost) (w : World) (K : ClientKept x (w.clients c)) where
    read_same : CB.read_beginning g c (client_in x.state) out to ≡ CB.read_beginning g c (w.clients c).client out to
    read_same = ap (λ s. CB.read_beginning g c s out to) K.says.client

    read_told : (let m = read_call g c x.state out to in told m.answer m.out m.to)
        ≡ (let r = CB.read_beginning g c (w.clients c).client out to in told (client_answer g.n r.answer) r.out r.to)
    unfolding began_of
    read_told =
        ap (λ m. told m.answer m.out m.to) (read_whole g c x.state out to K.long)
        ∙ ap (λ r. told (client_answer g.n r.answer) r.out r.to) read_same

    read_kept : ClientKept (record { state = (read_call g c x.state out to).state; rows = x.rows; value = x.value })
        ((step Z w (W.begin_read c out to)).clients c)
    unfolding RunsGoOn
    read_kept =
        let G = (runs_go_on Z w).reader c out to in
        subst (ClientKept _) (sym G) (record {
          says = record {
            client = read_back g c x.state out to K.long K.bytes ∙ ap (λ r. r.client) read_same;
            rows = K.says.rows;
            value = K.says.value;
          };
          long = read_long g c x.state out to K.long;
          bytes = read_bytes g c x.state out to K.bytes;
        })

    module _ (v : List ℕ) where
      write_same : CB.write_beginning g c (client_in x.state) v out to ≡ CB.write_beginning g c (w.clients c).client v out to
      write_same = ap (λ s. CB.write_beginning g c s v out to) K.says.client

      abbrev write_call_lem : Began
      write_call_lem = write_call g c v x.state out to

      write_told : told write_call_lem.answer write_call_lem.out write_call_lem.to
          ≡ (let r = CB.write_beginning g c (w.clients c).client v out to in told (client_answer g.n r.answer) r.out r.to)
      unfolding began_of
      write_told =
          ap (λ m. told m.answer m.out m.to) (write_whole g c x.state out to K.long v)
          ∙ ap (λ r. told (client_answer g.n r.answer) r.out r.to) write_same

      write_kept : ClientKept (record { state = write_call_lem.state; rows = x.rows; value = kept_by write_call_lem.answer v x.value })
          ((step Z w (W.begin_write c v out to)).clients c)
      unfolding RunsGoOn
      write_kept =
          let G = (runs_go_on Z w).writer c v out to in
          subst (ClientKept _) (sym G) (record {
            says = record {
              client = write_back g c v x.state out to K.long K.bytes ∙ ap (λ r. r.client) write_same;
              rows = K.says.rows;
              value =
                  let a = (CB.write_beginning g c (w.clients c).client v out to).answer in
                  ap (λ y. kept_by y.answer v x.value) write_told
                  ∙ ap (kept_by (client_answer g.n a) v) K.says.value
                  ∙ kept_is Z w c (w.clients c).client v out to (w.clients c).value;
            };
            long = write_long g c x.state out to K.long v;
            bytes = write_bytes g c x.state out to K.bytes v;
          })

  -- ---- the other parties

  client_next : (h : Hosts) (w : World) (k : Call) (c : ℕ) (v : ClientHost) → caller k ≡ P.Client c → ClientKept v ((step Z w k).clients c)
      → ((d : ℕ) → ClientKept (h.clients d) (w.clients d)) → (d : ℕ) → ClientKept (put h.clients c v d) ((step Z w k).clients d)
  unfolding RunsGoOn
  client_next h w k c v e new old d = go (ℕ_discrete c d)
    where
      go : Dec (c ≡ d) → ClientKept (put h.clients c v d) ((step Z w k).clients d)
      go (yes p) =
          subst (λ j. ClientKept (put h.clients c v j) ((step Z w k).clients j)) p
          (subst (λ z. ClientKept z ((step Z w k).clients c)) (sym (put_same h.clients c v)) new)
      go (no p) =
          subst (λ z. ClientKept z ((step Z w k).clients d)) (sym (other_put h.clients c v d p))
          (subst (ClientKept (h.clients d)) (sym ((runs_go_on Z w).clients_stay k d (λ q. p (ap number_in (sym e ∙ q))))) (old d))

  server_next : (h : Hosts) (w : World) (k : Call) (i : ℕ) (v : ServerHost) → caller k ≡ P.Server i
      → (Among g.n i → ServerKept i v ((step Z w k).servers i))
      → ((j : ℕ) → Among g.n j → ServerKept j (h.servers j) (w.servers j))
      → (j : ℕ) → Among g.n j → ServerKept j (put h.servers i v j) ((step Z w k).servers j)
  unfolding RunsGoOn
  server_next h w k i v e new old j is = go (ℕ_discrete i j)
    where
      go : Dec (i ≡ j) → ServerKept j (put h.servers i v j) ((step Z w k).servers j)
      go (yes p) =
          subst (λ j. Among g.n j → ServerKept j (put h.servers i v j) ((step Z w k).servers j)) p
          (λ is. subst (λ z. ServerKept i z ((step Z w k).servers i)) (sym (put_same h.servers i v)) (new is)) is
      go (no p) =
          subst (λ z. ServerKept j z ((step Z w k).servers j)) (sym (other_put h.servers i v j p))
          (subst (ServerKept j (h.servers j)) (sym ((runs_go_on Z w).servers_stay k j (λ q. p (ap number_in (sym e ∙ q))))) (old j is))

  -- a client's call leaves the servers as they were, and a server's call the clients
  servers_still : (h : Hosts) (w : World) (k : Call) (c : ℕ) → caller k ≡ P.Client c → ((j : ℕ) → Among g.n j → ServerKept j (h.servers j) (w.servers j))
      → (j : ℕ) → Among g.n j → ServerKept j (h.servers j) ((step Z w k).servers j)
  unfolding RunsGoOn
  servers_still h w k c e old j is =
      subst (ServerKept j (h.servers j)) (sym ((runs_go_on Z w).servers_stay k j (λ q. impossible (cc (sym e ∙ q))))) (old j is)

  clients_still : (h : Hosts) (w : World) (k : Call) (i : ℕ) → caller k ≡ P.Server i → ((d : ℕ) → ClientKept (h.clients d) (w.clients d))
      → (d : ℕ) → ClientKept (h.clients d) ((step Z w k).clients d)
  unfolding RunsGoOn
  clients_still h w k i e old d =
      subst (ClientKept (h.clients d)) (sym ((runs_go_on Z w).clients_stay k d (λ q. impossible (cc (sym e ∙ q))))) (old d)

  -- ---- all calls

  rest : (l ks : List Call) → Admissible Z (l ++ ks) → Admissible Z ks
  rest [] ks a = a
  rest (k ∷ l) ks a = rest l ks a.1

  module _ (R : Records) (S : Sound Z) (e : H ≡ digest_of) (L : Lent R) where
    first_server : (i : ℕ) → Among g.n i → ServerKept i ((first Z R).servers i) ((start Z).servers i)
    unfolding first start constructed_at make_call
    first_server i is =
        let v = Z.initial_value in
        let a = Z.state_areas i in
        let b = Z.initial_areas i in
        let fine = fresh_fine Z (assumed Z S (λ m. ap (λ h. length (h m)) e ∙ sha256_size m)) i is in
        let step = ap (λ h. is_turned_down (SD.construction h g i v a b).reply) (sym e) ∙ made_fine H g i v a b fine in
        let whole = make_whole g i v a b (R.servers i) (L.server_room i) in record {
          says = record {
            server =
                made_back g i v a b (R.servers i) (L.server_room i) step
                ∙ sym (ap (λ h. (SD.construction h g i v a b).server) e ∙ fresh_server_lem g i v a b);
            area = ap (λ m. m.area) whole ∙ ap (λ h. (SD.construction h g i v a b).area) (sym e);
            block = ap (λ m. m.initial) whole ∙ ap (λ h. (SD.construction h g i v a b).initial) (sym e);
          };
          long = make_long g i v a b (R.servers i) (L.server_room i);
          bytes = made_bytes g i v a b (R.servers i) (L.server_room i) (L.server_bytes_lem i);
        }

    first_client : (c : ℕ) → ClientKept ((first Z R).clients c) ((start Z).clients c)
    unfolding first start
    first_client c = record {
      says = record { client = fresh_back (R.clients c) (L.client_room c); rows = refl; value = refl };
      long = fresh_long (R.clients c) (L.client_room c);
      bytes = fresh_bytes (R.clients c) (L.client_bytes_lem c);
    }

    step_kept : (h : Hosts) (ks : List Call) (k : HostCall) → Admissible Z (call_of k ++ ks) → Kept h (run Z ks)
        → Kept (host_step Z R h k) (run Z (call_of k ++ ks))
    unfolding host_step call_of run pick
    step_kept h ks (server_deliver i class j f out to) a K =
        let k = W.to_server i (sender_of class j) f out to in record {
          servers = server_next h (run Z ks) k i _ refl
              (λ is. server_kept e i (sender_of class j) f out to (h.servers i) (run Z ks) (K.servers i is) a.0.1) K.servers;
          clients = clients_still h (run Z ks) k i refl K.clients;
        }
    step_kept h ks (client_deliver c class j f lent result stamp out to) a K = go (ltb (length stamp) stamp_size) refl a
      where
        from : Party
        from = sender_of class j

        x : ClientHost
        x = h.clients c

        m : ClientGot
        m = client_call g c from (lent_by x lent) f x.rows result stamp x.state out to

        y : ClientHost
        y = record { state = m.state; rows = m.rows; value = x.value }

        left : Hosts
        left = record { servers = h.servers; clients = put h.clients c y }

        go : (b : Bool) → ltb (length stamp) stamp_size ≡ b → Admissible Z (pick b [] (W.to_client c from f lent result out to ∷ []) ++ ks)
            → Kept left (run Z (pick b [] (W.to_client c from f lent result out to ∷ []) ++ ks))
        go true p a = record {
          servers = K.servers;
          clients = λ d. ⊎_elim
              (λ q. subst (λ z. ClientKept z ((run Z ks).clients d)) (sym q.1)
              (subst (λ d. ClientKept y ((run Z ks).clients d)) (sym q.0)
              (client_short_kept e c from f lent result stamp out to x (run Z ks) (K.clients c) (ltb-true (length stamp) stamp_size p))))
              (λ q. subst (λ z. ClientKept z ((run Z ks).clients d)) (sym q) (K.clients d))
              (put_cases h.clients c y d);
        }
        go false p a = record {
          servers = servers_still h (run Z ks) (W.to_client c from f lent result out to) c refl K.servers;
          clients = client_next h (run Z ks) (W.to_client c from f lent result out to) c y refl
              (client_kept e c from f lent result stamp out to x (run Z ks) (K.clients c) (ltb-false (length stamp) stamp_size p) a.0.1) K.clients;
        }
    step_kept h ks (begin_read c out to) a K = record {
      servers = servers_still h (run Z ks) (W.begin_read c out to) c refl K.servers;
      clients = client_next h (run Z ks) (W.begin_read c out to) c _ refl (read_kept c out to (h.clients c) (run Z ks) (K.clients c)) K.clients;
    }
    step_kept h ks (begin_write c v out to) a K = record {
      servers = servers_still h (run Z ks) (W.begin_write c v out to) c refl K.servers;
      clients = client_next h (run Z ks) (W.begin_write c v out to) c _ refl (write_kept c out to (h.clients c) (run Z ks) (K.clients c) v) K.clients;
    }

    all_kept : (ks : List HostCall) → Admissible Z (calls_of ks) → Kept (hosted Z R ks) (run Z (calls_of ks))
    unfolding hosted calls_of run
    all_kept [] a = record { servers = first_server; clients = first_client }
    all_kept (k ∷ ks) a = step_kept (hosted Z R ks) (calls_of ks) k a (all_kept ks (rest (call_of k) (calls_of ks) a))

    answered : (h : Hosts) (w : World) → Kept h w → (k : HostCall) → Fit Z k → told_by Z h k ≡ told_in Z w k
    unfolding told_by told_in
    answered h w K (server_deliver i class j f out to) is = server_told e i (sender_of class j) f out to (h.servers i) w (K.servers i is)
    answered h w K (client_deliver c class j f lent result stamp out to) wide =
        client_told e c (sender_of class j) f lent result stamp out to (h.clients c) w (K.clients c) wide
    answered h w K (begin_read c out to) u = read_told c out to (h.clients c) w (K.clients c)
    answered h w K (begin_write c v out to) u = write_told c out to (h.clients c) w (K.clients c) v

pub hosts_theorem : HostsTheorem
unfolding HostsTheorem TheoremSha256
hosts_theorem Z R S e L ks a =
    let K = all_kept Z R S e L ks a in record {
      servers = λ i is. (K.servers i is).says;
      clients = λ c. (K.clients c).says;
      answers = answered Z R S e L (hosted Z R ks) (run Z (calls_of ks)) K;
      demand = theorem_sha256 Z S e (calls_of ks) a;
    }
