-- A run goes by the promises of the entry points. Assumes nothing.
use Rattle.std.specs.Prelude.{Ok, Err}
use Prim.Native.Nat.{ℕ}
use mathlib.Core.Path.{◌≡◌, refl, ap, sym, ◌∙◌, subst}
use mathlib.Core.Logic.{⊎_elim}
use lib.ListN.{length}
use mathlib.Core.List.Memᴰ
use mathlib.Core.List.{List, [], Memᴰ}
use Rattle.quorum.proofs.Logic.{impossible}
use Rattle.blocks.specs.declared.Params.{Params}
use Rattle.frame.specs.declared.Party.{Party}
use Rattle.frame.specs.declared.Party.TheVariants as P
use Rattle.frame.specs.Refusals.{answered_by, Verdict}
use Rattle.frame.specs.Messages.{Body, ack, message, sending}
use Rattle.server_rules.specs.declared.Server.{Server}
use Rattle.server_rules.specs.Steps as S
use Rattle.server_rules.specs.Delivery as SD
use Rattle.server_rules.proofs.Parts.{put_same, put_cases}
use Rattle.server_rules.proofs.Accepting.{ack_of, Says}
use Rattle.server_rules.proofs.Accepting as Y
use Rattle.server_rules.proofs.Freeing.{freed_mem, freed_acked}
use Rattle.server_rules.proofs.Shapes.{Shape, idle, answers, notes, ends, settles, hears, Freed, Delivery, refused, taken, shape_delivered}
use Rattle.server_rules.proofs.Speaking.{counted_cast}
use Rattle.server_rules.specs.Tests as ST
use Rattle.client_rules.specs.declared.Client.{Client}
use Rattle.client_rules.specs.Answers.{goes_on}
use Rattle.client_rules.specs.Delivery as CD
use Rattle.client_rules.specs.Beginning as CB
use Rattle.runs.specs.World.{Setup, Call, to_server, to_client, begin_read, begin_write, caller, World, initial_of, lent_by, step, put}
use Rattle.runs.specs.Promises.{value_by, RunsGoOn, Acknowledges, AcceptedWhereAcked, Begins, BegunWhereAnswered}

-- ---- the next state

pub other_put : {A : Type 0} (f : ℕ → A) (i : ℕ) (v : A) (j : ℕ) → (i ≡ j → ⊥) → put f i v j ≡ f j
other_put f i v j ne = ⊎_elim (λ w. absurd (ne (sym w.0))) (λ w. w) (put_cases f i v j)

-- the answer says whether the write was begun
value_told : (Z : Setup) (w : World) (c : ℕ) (s : Client) (b : Verdict) (v old : List ℕ)
    → lent_by Z b v old ≡ value_by Z w (answered_by b (goes_on (length (CB.begin_by Z.g c b s (CB.open_write Z.g c s)).sends))) v old
value_told Z w c s (Ok _) v old = refl
value_told Z w c s (Err r) v old = refl

pub runs_go_on : RunsGoOn
unfolding RunsGoOn step SD.delivery SD.outcome_of CD.delivery CD.outcome_of CB.read_beginning CB.write_beginning CB.begun_of CB.write_begun
runs_go_on Z w = record {
  server = λ i from f out to. put_same w.servers i _;
  client = λ c from f lent result out to. put_same w.clients c _;
  reader = λ c out to. put_same w.clients c _;
  writer = λ c v out to.
      let s = (w.clients c).client in
      put_same w.clients c _
      ∙ ap (λ y. record { client = (CB.write_begun Z.g c s v out to).client; area = (w.clients c).area; value = y })
      (value_told Z w c s (CB.write_test Z.g c s v out to) v (w.clients c).value);
  servers_stay = servers_stay;
  clients_stay = clients_stay;
}
  where
    servers_stay : (k : Call) (j : ℕ) → (caller k ≡ P.Server j → ⊥) → (step Z w k).servers j ≡ w.servers j
    servers_stay (to_server i from f out to) j ne = other_put w.servers i _ j (λ e. ne (ap P.Server e))
    servers_stay (to_client c from f lent result out to) j ne = refl
    servers_stay (begin_read c out to) j ne = refl
    servers_stay (begin_write c v out to) j ne = refl

    clients_stay : (k : Call) (c : ℕ) → (caller k ≡ P.Client c → ⊥) → (step Z w k).clients c ≡ w.clients c
    clients_stay (to_server i from f out to) c ne = refl
    clients_stay (to_client d from f lent result out to) c ne = other_put w.clients d _ c (λ e. ne (ap P.Client e))
    clients_stay (begin_read d out to) c ne = other_put w.clients d _ c (λ e. ne (ap P.Client e))
    clients_stay (begin_write d v out to) c ne = other_put w.clients d _ c (λ e. ne (ap P.Client e))

-- ---- where a write is accepted

-- an ack among what an acceptance sends is one of its writes'
ack_is : (y : S.Write) (b : Party) (c q : ℕ) → sending b (message c q ack) ≡ ack_of y → (b ≡ P.Client c) × (y.client ≡ c) × (y.sequence ≡ q)
ack_is y b c q e =
    let d : c ≡ y.client = ap (λ z. z.says.client) e in
    (ap (λ z. z.receiver) e ∙ ap P.Client (sym d), sym d, sym (ap (λ z. z.says.sequence) e))

module _ (H : List ℕ → List ℕ) (g : Params) (me : ℕ) (s : Server) (a initial : List ℕ) (from : Party) where
  silent : (x : S.Effect) → x.accepted ≡ [] → ((b : Party) (c q : ℕ) → Memᴰ (sending b (message c q ack)) x.sends → ⊥) → Acknowledges x
  silent x e no_ack = record {
    acked = λ y u. absurd (Memᴰ.not-nil (subst (Memᴰ y) e u));
    acked_only = λ b c q u. absurd (no_ack b c q u);
  }

  says_ack : {s₁ : Server} (b : Party) (d q : ℕ) (w : S.Write) → Says g s₁ w (sending b (message d q ack))
      → (b ≡ P.Client d) × (w.client ≡ d) × (w.sequence ≡ q)
  says_ack b d q w (Y.told i is t) = impossible (cc (ap (λ z. z.says.body) t.is))
  says_ack b d q w (Y.acked e) = ack_is w b d q e
  says_ack b d q w (Y.reports e t) = impossible (cc (ap (λ z. z.body) e))

  freed_acks : {s₁ : Server} {a₁ : List ℕ} {r : S.Effect} → Freed g 8 s₁ a₁ r → Acknowledges r
  freed_acks f = record {
    acked = freed_acked f;
    acked_only = λ b d q u.
        let m = freed_mem f _ u in
        let h = says_ack b d q m.0 m.2 in
        (h.0, m.0, m.1, h.1, h.2);
  }

  shape_acks : {j c q : ℕ} {b : Body} {x : S.Effect} → Shape H g me s a initial j c q b x → Acknowledges x
  shape_acks (idle b) = silent _ refl (λ b c q u. Memᴰ.not-nil u)
  shape_acks answers = silent _ refl (λ b c q u. impossible (cc (ap (λ z. z.says.body) (Memᴰ.eq_of_singleton u))))
  shape_acks notes = silent _ refl (λ b c q u. impossible (cc (ap (λ z. z.says.body) (Memᴰ.eq_of_singleton u))))
  shape_acks ends = silent _ refl (λ b c q u. Memᴰ.not-nil u)
  shape_acks {j} {c} (settles b p k {r} f) = let A = freed_acks f in record {
    acked = λ y u. Memᴰ.append_right p.sends (A.acked y u);
    acked_only = λ b d q u. ⊎_elim
        (λ v. absurd (counted_cast H g me s a initial j c k _ v))
        (λ v. A.acked_only b d q v)
        (Memᴰ.append_cases p.sends u);
  }
  shape_acks (hears T f) = freed_acks f

  delivery_acks : (f out to : List ℕ) → Acknowledges (SD.delivered H g me s a initial from f out to)
  delivery_acks f out to = go (shape_delivered H g me s a initial from f out to)
    where
      go : {x : S.Effect} → Delivery H g me s a initial from (ST.judge H g me s a initial from f out to) x → Acknowledges x
      go (refused r e) = silent _ refl (λ b c q u. Memᴰ.not-nil u)
      go (taken m e h) = shape_acks h

pub accepted_where_acked : AcceptedWhereAcked
unfolding AcceptedWhereAcked
accepted_where_acked Z w i from f out to = delivery_acks Z.H Z.g i (w.servers i).server (w.servers i).area (initial_of Z i) from f out to

-- ---- where an operation begins

begins : (b : Verdict) (m : ℕ) → Begins b (answered_by b (goes_on m))
begins (Ok _) m = record { sent = λ e. (_, refl); sent_only = λ m e. refl }
begins (Err r) m = record { sent = λ e. impossible (cc); sent_only = λ m e. impossible (cc) }

pub begun_where_answered : BegunWhereAnswered
unfolding BegunWhereAnswered CB.read_beginning CB.write_beginning CB.begun_of
begun_where_answered Z w = record {
  read = λ c out to. begins (CB.read_test Z.g c (w.clients c).client out to) _;
  write = λ c v out to. begins (CB.write_test Z.g c (w.clients c).client v out to) _;
}
