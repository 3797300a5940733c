-- What a call does to a client, whole: nothing, a frame is taken, a read begins, a write begins. Assumes nothing.
use Rattle.std.specs.Prelude.{Ok, Err}
use Rattle.frame.specs.Refusals.{Verdict, fine}
use Prim.Native.Nat.{ℕ, ◌+◌, ◌≤◌}
use native.Mathlib.Decide.{ℕ_discrete}
use mathlib.Core.Bool.{true}
use mathlib.Core.Path.{◌≡◌, refl, ap, sym, ◌∙◌, subst}
use mathlib.Core.Logic.{⊎_elim}
use mathlib.Core.List.Memᴰ
use mathlib.Core.List.{List, ◌∷◌, Memᴰ}
use lib.ListN.{length}
use Rattle.quorum.specs.Quorum.{Among}
use Rattle.quorum.proofs.Logic.{impossible}
use Rattle.frame.specs.declared.Party.{Party}
use Rattle.frame.specs.declared.Party.TheVariants as A
use Rattle.frame.specs.Chunks.{rows_bytes}
use Rattle.frame.specs.Messages.{Message, sending, number_in, good}
use Rattle.server_rules.proofs.Parts.{put_same, put_cases}
use Rattle.server_rules.proofs.Passing.{is_server}
use Rattle.client_rules.specs.Beginning as CB
use Rattle.client_rules.specs.Delivery as CD
use Rattle.client_rules.specs.State.{writing}
use Rattle.client_rules.specs.Steps as C
use Rattle.client_rules.specs.Tests as CT
use Rattle.client_rules.proofs.Shapes.{Shape, shape_of}
use Rattle.steps.proofs.ClientTaken.{Taken, Delivered, refused, taken, took, took_room, delivered, passed}
use Rattle.runs.specs.Events.{EndsWrite, OpensWrite}
use Rattle.runs.specs.World.{Setup, Call, to_server, to_client, begin_read, begin_write, caller, ClientSide, client_done}
use Rattle.runs.specs.World.{client_left, lent_by, lent_to, client_effect, read_effect, write_effect, run, step, sends, put}
use Rattle.runs.proofs.Written.{lent_own}

module _ (Z : Setup) where
  open Z use {H, g}

  abbrev pub home : List Call → ℕ → ClientSide
  home ks c = (run Z ks).clients c

  -- a frame of server j is taken: s, a and v are the client, its rows area and the value lent
  pub record TakesFrame (ks : List Call) (k : Call) (c : ℕ) : Type 0 where
    pub called : caller k ≡ A.Client c
    pub j : ℕ
    pub server : Among g.n j
    pub m : Message
    pub owner : CT.owner_right c m.client m.body ≡ true
    pub v : List ℕ
    pub own : writing (home ks c).client.phase ≡ true → v ≡ (home ks c).value
    pub order : CT.order_test H g c (home ks c).client j m.sequence m.body ≡ fine
    pub value : CT.value_test g (home ks c).client.phase (length v) ≡ fine
    pub room : rows_bytes ≤ length (home ks c).area
    pub r : C.Effect
    pub did : r ≡ C.on_body H g c (home ks c).client (home ks c).area v j m.body
    pub answer : CT.answers m.body ≡ true
    pub shape : Shape H g c (home ks c).client (home ks c).area v j m.body r
    pub left : home (k ∷ ks) c ≡ client_done Z r (home ks c).value
    pub sent : sends Z (run Z ks) k ≡ r.sends
    pub ends : r.event ≡ C.written → EndsWrite Z c (home ks c).client.writes ks k

  pub data ClientTurn (ks : List Call) (k : Call) (c : ℕ) : Type 0 where
    rests : home (k ∷ ks) c ≡ home ks c → ((b : Party) (m : Message) → caller k ≡ A.Client c → Memᴰ (sending b m) (sends Z (run Z ks) k) → ⊥)
        → ClientTurn ks k c
    takes : TakesFrame ks k c → ClientTurn ks k c
    begins_read : (out to : List ℕ) → caller k ≡ A.Client c → CB.read_test g c (home ks c).client out to ≡ fine
        → home (k ∷ ks) c ≡ client_left Z (CB.open_read g c (home ks c).client) (home ks c).area (home ks c).value
        → sends Z (run Z ks) k ≡ (CB.open_read g c (home ks c).client).sends → ClientTurn ks k c
    begins_write : (v out to : List ℕ) → caller k ≡ A.Client c → CB.write_test g c (home ks c).client v out to ≡ fine
        → home (k ∷ ks) c ≡ client_left Z (CB.open_write g c (home ks c).client) (home ks c).area v
        → sends Z (run Z ks) k ≡ (CB.open_write g c (home ks c).client).sends → OpensWrite Z c ((home ks c).client.writes + 1) v ks k → ClientTurn ks k c

  -- client c is handed a frame
  abbrev frame_effect : List Call → ℕ → Party → List ℕ → List ℕ → List ℕ → List ℕ → List ℕ → C.Effect
  frame_effect ks c from f lent result out to = client_effect Z (run Z ks) c from f lent result out to

  left_after : (ks : List Call) (c : ℕ) (from : Party) (f lent result out to : List ℕ)
      → home (to_client c from f lent result out to ∷ ks) c ≡ client_done Z (frame_effect ks c from f lent result out to) (home ks c).value
  unfolding run step
  left_after ks c from f lent result out to = put_same (run Z ks).clients c _

  taken_frame : (ks : List Call) (c : ℕ) (from : Party) (f lent result out to : List ℕ) (m : Message)
      → Taken H g c (home ks c).client (lent_to Z (run Z ks) c lent) from f m → rows_bytes ≤ length (home ks c).area
      → frame_effect ks c from f lent result out to ≡ C.effect H g c (home ks c).client (home ks c).area (lent_to Z (run Z ks) c lent) from m
      → (t : TakesFrame ks (to_client c from f lent result out to) c) × (t.m ≡ m) × (from ≡ A.Server t.j)
  unfolding sends C.effect
  taken_frame ks c from f lent result out to m T room z =
      let P = passed H g c (home ks c).client from m T.passes in
      let (j, ej, is) = is_server g from P.server in
      let n : number_in from ≡ j = ap number_in ej in (
        record {
          called = refl;
          j = j;
          server = is;
          m = m;
          owner = P.owner;
          v = lent_to Z (run Z ks) c lent;
          own = lent_own Z (run Z ks) c lent;
          order = subst (λ y. CT.order_test H g c (home ks c).client y m.sequence m.body ≡ fine) n P.order;
          value = T.value;
          room = room;
          r = C.effect H g c (home ks c).client (home ks c).area (lent_to Z (run Z ks) c lent) from m;
          did = ap (λ y. C.on_body H g c (home ks c).client (home ks c).area (lent_to Z (run Z ks) c lent) y m.body) n;
          answer = P.answers;
          shape = subst (λ y. Shape H g c (home ks c).client (home ks c).area (lent_to Z (run Z ks) c lent) y m.body
              (C.effect H g c (home ks c).client (home ks c).area (lent_to Z (run Z ks) c lent) from m)) n
              (shape_of H g c (home ks c).client (home ks c).area (lent_to Z (run Z ks) c lent) from m);
          left = left_after ks c from f lent result out to ∙ ap (λ r. client_done Z r (home ks c).value) z;
          sent = ap (λ r. r.sends) z;
          ends = λ w. (refl, refl, ap (λ r. r.event) z ∙ w);
        },
        refl,
        ej,
      )

  -- a frame that passes all tests is taken
  pub takes_of : (ks : List Call) (c : ℕ) (from : Party) (f lent result out to : List ℕ) (m : Message)
      → CT.judge H g c (home ks c).client (home ks c).area (lent_to Z (run Z ks) c lent) from f result out to ≡ good m
      → (t : TakesFrame ks (to_client c from f lent result out to) c) × (t.m ≡ m) × (from ≡ A.Server t.j)
  unfolding CD.delivered CD.effect_by
  takes_of ks c from f lent result out to m e = taken_frame ks c from f lent result out to m
      (took H g c (home ks c).client (home ks c).area (lent_to Z (run Z ks) c lent) from f result out to m e)
      (took_room H g c (home ks c).client (home ks c).area (lent_to Z (run Z ks) c lent) from f result out to m e).rows_room
      (ap (λ j. CD.effect_by H g c j (home ks c).client (home ks c).area (lent_to Z (run Z ks) c lent) from) e)

  by_frame : (ks : List Call) (c : ℕ) (from : Party) (f lent result out to : List ℕ) {r : C.Effect} → frame_effect ks c from f lent result out to ≡ r
      → Delivered H g c (home ks c).client (home ks c).area (lent_to Z (run Z ks) c lent) from f r → ClientTurn ks (to_client c from f lent result out to) c
  unfolding sends
  by_frame ks c from f lent result out to q (refused z) = rests
      (left_after ks c from f lent result out to ∙ ap (λ r. client_done Z r (home ks c).value) (q ∙ z))
      (λ b m _ u. Memᴰ.not-nil (subst (λ r. Memᴰ (sending b m) r.sends) (q ∙ z) u))
  by_frame ks c from f lent result out to q (taken m T room z) = takes (taken_frame ks c from f lent result out to m T room (q ∙ z)).0

  read_turn : (ks : List Call) (c : ℕ) (out to : List ℕ)
      → home (begin_read c out to ∷ ks) c ≡ client_left Z (read_effect Z (run Z ks) c out to) (home ks c).area (home ks c).value
      → ClientTurn ks (begin_read c out to) c
  unfolding sends CB.read_begun CB.begin_by
  read_turn ks c out to h = go (CB.read_test g c (home ks c).client out to) refl
    where
      left : Verdict → C.Effect
      left b = CB.begin_by g c b (home ks c).client (CB.open_read g c (home ks c).client)

      go : (b : Verdict) → CB.read_test g c (home ks c).client out to ≡ b → ClientTurn ks (begin_read c out to) c
      go (Ok _) e = begins_read out to refl e (h ∙ ap (λ b. client_left Z (left b) (home ks c).area (home ks c).value) e) (ap (λ b. (left b).sends) e)
      go (Err x) e = rests (h ∙ ap (λ b. client_left Z (left b) (home ks c).area (home ks c).value) e)
          (λ y m _ u. Memᴰ.not-nil (subst (λ b. Memᴰ (sending y m) (left b).sends) e u))

  write_turn : (ks : List Call) (c : ℕ) (v out to : List ℕ)
      → home (begin_write c v out to ∷ ks) c
      ≡ client_left Z (write_effect Z (run Z ks) c v out to) (home ks c).area (lent_by Z (CB.write_test g c (home ks c).client v out to) v (home ks c).value)
      → ClientTurn ks (begin_write c v out to) c
  unfolding sends CB.write_begun CB.begin_by
  write_turn ks c v out to h = go (CB.write_test g c (home ks c).client v out to) refl
    where
      left : Verdict → C.Effect
      left b = CB.begin_by g c b (home ks c).client (CB.open_write g c (home ks c).client)

      go : (b : Verdict) → CB.write_test g c (home ks c).client v out to ≡ b → ClientTurn ks (begin_write c v out to) c
      go (Ok _) e =
          begins_write v out to refl e (h ∙ ap (λ b. client_left Z (left b) (home ks c).area (lent_by Z b v (home ks c).value)) e) (ap (λ b. (left b).sends) e)
          (refl, refl, refl, e)
      go (Err x) e = rests (h ∙ ap (λ b. client_left Z (left b) (home ks c).area (lent_by Z b v (home ks c).value)) e)
          (λ y m _ u. Memᴰ.not-nil (subst (λ b. Memᴰ (sending y m) (left b).sends) e u))

  -- client d is called, and v is what it is left with
  split : (ks : List Call) (k : Call) (d : ℕ) (v : ClientSide) → caller k ≡ A.Client d → ((c : ℕ) → home (k ∷ ks) c ≡ put (run Z ks).clients d v c)
      → (home (k ∷ ks) d ≡ v → ClientTurn ks k d) → (c : ℕ) → ClientTurn ks k c
  split ks k d v e h f c = go (ℕ_discrete c d)
    where
      go : Dec (c ≡ d) → ClientTurn ks k c
      go (yes z) = subst (ClientTurn ks k) (sym z) (f (h d ∙ put_same (run Z ks).clients d v))
      go (no ne) = rests (h c ∙ ⊎_elim (λ w. absurd (ne w.0)) (λ w. w) (put_cases (run Z ks).clients d v c)) (λ b m x u. ne (cc (e, x)))

  pub client_turn : (ks : List Call) (k : Call) (c : ℕ) → ClientTurn ks k c
  unfolding run step
  client_turn ks (to_server i from f out to) c = rests refl (λ b m e u. impossible (cc e))
  client_turn ks (to_client d from f lent result out to) c = split ks (to_client d from f lent result out to) d
      (client_done Z (client_effect Z (run Z ks) d from f lent result out to) ((run Z ks).clients d).value) refl (λ c. refl)
      (λ e. by_frame ks d from f lent result out to refl
      (delivered H g d (home ks d).client (home ks d).area (lent_to Z (run Z ks) d lent) from f result out to)) c
  client_turn ks (begin_read d out to) c = split ks (begin_read d out to) d
      (client_left Z (read_effect Z (run Z ks) d out to) ((run Z ks).clients d).area ((run Z ks).clients d).value) refl (λ c. refl) (read_turn ks d out to) c
  client_turn ks (begin_write d v out to) c = split ks (begin_write d v out to) d
      (client_left Z (write_effect Z (run Z ks) d v out to) ((run Z ks).clients d).area
      (lent_by Z (CB.write_test g d ((run Z ks).clients d).client v out to) v ((run Z ks).clients d).value)) refl (λ c. refl) (write_turn ks d v out to) c
