-- What hosts do with the exported calls: each keeps the bytes of its party, lends them to every call and keeps what the call leaves. A list of such calls
-- makes a run, so demand 3 holds of it. These are definitions.
use Rattle.std.specs.Prelude.{ℕ, ◌≤◌, ◌%◌, Bool, ◌||◌, ◌≡◌, List, [], ◌∷◌, ◌++◌, length, ltb, eqb}
use Rattle.quorum.specs.Quorum.{Among}
use Rattle.area.specs.Area.{pick, Bytes}
use Rattle.sha256.specs.Hash.{digest_of}
use Rattle.server_rules.specs.Delivery as SD
use Rattle.client_rules.specs.Delivery as CD
use Rattle.client_rules.specs.Beginning as CB
use Rattle.runs.specs.World as W
use Rattle.runs.specs.World.{Setup, Sound, Call, ServerSide, ClientSide, World, put, initial_of, lent_to, run}
use Rattle.runs.specs.Admissible.{Admissible}
use Rattle.runs.specs.Demand.{Demand3}
use Rattle.layout.specs.Fields.{stamp_size}
use Rattle.layout.specs.Clients.{client_size, client_in}
use Rattle.layout.specs.Servers.{server_size, server_in}
use Rattle.site.specs.Answers.{client_answer}
use Rattle.server_deliver.specs.Answers.{server_answer}
use Rattle.semduoli.specs.Calls.{fresh_call, read_call, write_call}
use Rattle.semduoli.specs.Handed.{sender_of, stamp_after, client_call}
use Rattle.semduoli.specs.ServerCalls.{make_call, server_call}
use Rattle.semduoli.specs.Asked.{client_open_call}

-- ---- what hosts keep

-- of a server: the record's bytes, the state area, and the area with the block of the initial value
pub record ServerHost : Type 0 where
  pub state : List ℕ
  pub area : List ℕ
  pub initial : List ℕ

-- of a client: the record's bytes, the rows area, and the value of the last write that began
pub record ClientHost : Type 0 where
  pub state : List ℕ
  pub rows : List ℕ
  pub value : List ℕ

pub record Hosts : Type 0 where
  pub servers : ℕ → ServerHost
  pub clients : ℕ → ClientHost

-- the areas that are lent for records at the start: large enough, and bytes
pub record Records : Type 0 where
  pub servers : ℕ → List ℕ
  pub clients : ℕ → List ℕ

pub record Lent (R : Records) : Type 0 where
  pub server_room : (i : ℕ) → server_size ≤ length (R.servers i)
  pub server_bytes_lem : (i : ℕ) → Bytes (R.servers i)
  pub client_room : (c : ℕ) → client_size ≤ length (R.clients c)
  pub client_bytes_lem : (c : ℕ) → Bytes (R.clients c)

-- ---- their calls: semduoli_server_deliver, semduoli_client_deliver, semduoli_begin_read, semduoli_begin_write

-- In this order: the number of the server or client; class and number of the sender that the host names, and the frame; for a client what its host lends
-- as a value where no write is open, the result area and the stamp area; the out area and the to area. Size and content of all these are arbitrary.
pub data HostCall : Type 0 where
  server_deliver : ℕ → ℕ → ℕ → List ℕ → List ℕ → List ℕ → HostCall
  client_deliver : ℕ → ℕ → ℕ → List ℕ → List ℕ → List ℕ → List ℕ → List ℕ → List ℕ → HostCall
  begin_read : ℕ → List ℕ → List ℕ → HostCall
  begin_write : ℕ → List ℕ → List ℕ → List ℕ → HostCall

-- semduoli_client_open answers that a write is open, in one of its two parts
abbrev pub write_open : ℕ → Bool
write_open x = eqb (x % 65536) 256 || eqb (x % 65536) 512

-- the value that a client's host lends with a frame: that of the open write; where none is open, anything
abbrev pub lent_by : ClientHost → List ℕ → List ℕ
lent_by x lent = pick (write_open (client_open_call x.state)) x.value lent

-- the value that it keeps from then on: v if the write has begun, that is, if the two lowest bytes of the answer are 0; else the old one
abbrev pub kept_by : ℕ → List ℕ → List ℕ → List ℕ
kept_by answer v old = pick (eqb (answer % 65536) 0) v old

module _ (Z : Setup) (R : Records) where
  open Z use {g, initial_value, state_areas, initial_areas, rows_areas}

  -- after semduoli_server_fresh and semduoli_client_fresh
  unfoldable pub first : Hosts
  first = record {
    servers = λ i.
        let m = make_call g i initial_value (state_areas i) (initial_areas i) (R.servers i) in
        record { state = m.state; area = m.area; initial = m.initial };
    clients = λ c. record { state = (fresh_call (R.clients c)).out; rows = rows_areas c; value = [] };
  }

  unfoldable pub host_step : Hosts → HostCall → Hosts
  host_step h (server_deliver i class j f out to) =
      let x = h.servers i in
      let m = server_call g i (sender_of class j) f x.area x.initial x.state out to in
      record { servers = put h.servers i (record { state = m.state; area = m.area; initial = x.initial }); clients = h.clients }
  host_step h (client_deliver c class j f lent result stamp out to) =
      let x = h.clients c in
      let m = client_call g c (sender_of class j) (lent_by x lent) f x.rows result stamp x.state out to in
      record { servers = h.servers; clients = put h.clients c (record { state = m.state; rows = m.rows; value = x.value }) }
  host_step h (begin_read c out to) =
      let x = h.clients c in
      record { servers = h.servers; clients = put h.clients c (record { state = (read_call g c x.state out to).state; rows = x.rows; value = x.value }) }
  host_step h (begin_write c v out to) =
      let x = h.clients c in
      let m = write_call g c v x.state out to in
      record { servers = h.servers; clients = put h.clients c (record { state = m.state; rows = x.rows; value = kept_by m.answer v x.value }) }

  -- after a list of calls, latest first
  unfoldable pub hosted : List HostCall → Hosts
  hosted [] = first
  hosted (k ∷ ks) = host_step (hosted ks) k

-- ---- the run that they make

-- a call that is lent a short stamp area is turned down and changes nothing: it is not a call of the run
unfoldable pub call_of : HostCall → List Call
call_of (server_deliver i class j f out to) = W.to_server i (sender_of class j) f out to ∷ []
call_of (client_deliver c class j f lent result stamp out to) =
    pick (ltb (length stamp) stamp_size) [] (W.to_client c (sender_of class j) f lent result out to ∷ [])
call_of (begin_read c out to) = W.begin_read c out to ∷ []
call_of (begin_write c v out to) = W.begin_write c v out to ∷ []

unfoldable pub calls_of : List HostCall → List Call
calls_of [] = []
calls_of (k ∷ ks) = call_of k ++ calls_of ks

-- ---- what a host is told: the answer, and the areas that are lent for it, as the call leaves them

pub record Told : Type 0 where
  pub answer : ℕ
  pub result : List ℕ
  pub stamp : List ℕ
  pub out : List ℕ
  pub to : List ℕ

abbrev pub told : ℕ → List ℕ → List ℕ → Told
told x out to = record { answer = x; result = []; stamp = []; out = out; to = to }

module _ (Z : Setup) where
  open Z use {H, g}

  -- what the exported call tells
  unfoldable pub told_by : Hosts → HostCall → Told
  told_by h (server_deliver i class j f out to) =
      let x = h.servers i in
      let m = server_call g i (sender_of class j) f x.area x.initial x.state out to in
      told m.answer m.out m.to
  told_by h (client_deliver c class j f lent result stamp out to) =
      let x = h.clients c in
      let m = client_call g c (sender_of class j) (lent_by x lent) f x.rows result stamp x.state out to in
      record { answer = m.answer; result = m.result; stamp = m.stamp; out = m.out; to = m.to }
  told_by h (begin_read c out to) = let m = read_call g c (h.clients c).state out to in told m.answer m.out m.to
  told_by h (begin_write c v out to) = let m = write_call g c v (h.clients c).state out to in told m.answer m.out m.to

  -- what the run says, of the party in its world
  unfoldable pub told_in : World → HostCall → Told
  told_in w (server_deliver i class j f out to) =
      let r = SD.delivery H g i (w.servers i).server (w.servers i).area (initial_of Z i) (sender_of class j) f out to in
      told (server_answer r.reply) r.out r.to
  told_in w (client_deliver c class j f lent result stamp out to) =
      let r = CD.delivery H g c (w.clients c).client (w.clients c).area (lent_to Z w c lent) (sender_of class j) f result out to in
      record { answer = client_answer g.n r.answer; result = r.result; stamp = stamp_after r.answer stamp; out = r.out; to = r.to }
  told_in w (begin_read c out to) = let r = CB.read_beginning g c (w.clients c).client out to in told (client_answer g.n r.answer) r.out r.to
  told_in w (begin_write c v out to) = let r = CB.write_beginning g c (w.clients c).client v out to in told (client_answer g.n r.answer) r.out r.to

-- a server's call is on one of servers 1 to n, and a frame for a client comes with room for a stamp
abbrev pub Fit : Setup → HostCall → Type 0
Fit Z (server_deliver i class j f out to) = Among Z.g.n i
Fit Z (client_deliver c class j f lent result stamp out to) = stamp_size ≤ length stamp
Fit Z (begin_read c out to) = Unit {0}
Fit Z (begin_write c v out to) = Unit {0}

-- ---- the theorem

-- the bytes say the party of the run's world
pub record ServerSays (x : ServerHost) (y : ServerSide) (initial : List ℕ) : Type 0 where
  pub server : server_in x.state ≡ y.server
  pub area : x.area ≡ y.area
  pub block : x.initial ≡ initial

pub record ClientSays (x : ClientHost) (y : ClientSide) : Type 0 where
  pub client : client_in x.state ≡ y.client
  pub rows : x.rows ≡ y.area
  pub value : x.value ≡ y.value

pub record Hosted (Z : Setup) (R : Records) (ks : List HostCall) : Type 0 where
  pub servers : (i : ℕ) → Among Z.g.n i → ServerSays ((hosted Z R ks).servers i) ((run Z (calls_of ks)).servers i) (initial_of Z i)
  pub clients : (c : ℕ) → ClientSays ((hosted Z R ks).clients c) ((run Z (calls_of ks)).clients c)
  -- what the next call tells its host is what the run says
  pub answers : (k : HostCall) → Fit Z k → told_by Z (hosted Z R ks) k ≡ told_in Z (run Z (calls_of ks)) k
  -- and the reads and writes that hosts saw are in one row
  pub demand : Demand3 Z (calls_of ks)

-- for every list of exported calls on the honest parties in which each frame that is named as an honest party's was sent by it; false parties send anything
unfoldable pub HostsTheorem : Type 0
HostsTheorem = (Z : Setup) (R : Records) → Sound Z → Z.H ≡ digest_of → Lent R → (ks : List HostCall) → Admissible Z (calls_of ks) → Hosted Z R ks
