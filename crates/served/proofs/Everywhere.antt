-- What an honest party says of a write to one server it says to every server: a server the same, a client of one time and value. Assumes nothing.
use Prim.Native.Nat.{ℕ, ◌+◌}
use native.Mathlib.Omega.{arith}
use mathlib.Core.Path.{◌≡◌, ap, sym, subst}
use mathlib.Core.Logic.{inl, inr, ⊎_elim}
use mathlib.Core.List.Memᴰ
use mathlib.Core.List.{List, [], ◌∷◌, Memᴰ}
use Rattle.quorum.specs.Quorum.{Among}
use Rattle.quorum.proofs.Logic.{impossible}
use Rattle.group_rules.specs.Coded.{entry_of}
use Rattle.frame.specs.declared.Party.{Party}
use Rattle.frame.specs.declared.Party.TheVariants as A
use Rattle.frame.specs.Messages.{Offer, offer, send, Body, get_stamp, ask_read, read_complete, block_is, Message, message, Sending, sending, to_all, number_in}
use Rattle.frame.proofs.Sizes.{Small}
use Rattle.server_rules.proofs.Casts.{IsCast, all_mem}
use Rattle.server_rules.proofs.Shapes.{shape_of}
use Rattle.server_rules.proofs.Speaking.{step_all}
use Rattle.server_rules.proofs.Thresholds.{agreed}
use Rattle.client_rules.specs.declared.Client.{Client}
use Rattle.client_rules.specs.Beginning as CB
use Rattle.client_rules.specs.Steps as C
use Rattle.client_rules.proofs.Shapes as CS
use Rattle.runs.specs.World.{Setup, Call, caller, initial_of, run, sends}
use Rattle.runs.proofs.Agreement.{small}
use Rattle.runs.proofs.Assumed.{Assumed}
use Rattle.runs.proofs.Broadcasts.{server_at, sent_new}
use Rattle.taking.proofs.Readers.{all_to}
use Rattle.served.proofs.Clients.{home, ClientTurn, rests, takes, begins_read, begins_write, client_turn}
use Rattle.served.proofs.ClientState.{SentBy}
use Rattle.served.proofs.ServerState.{sent_now}

module _ (Z : Setup) (G : Assumed Z) where
  open Z use {H, g}

  abbrev M : Small g
  M = small Z G

  pub server_each : (ks : List Call) (j : ℕ) (b : Party) (m : Message) → IsCast m.body → SentBy Z G ks (A.Server j) b m → (i : ℕ) → Among g.n i
      → SentBy Z G ks (A.Server j) (A.Server i) m
  server_each [] j b m k u i is = absurd u
  server_each (c ∷ ks) j b m k u i is = ⊎_elim
      (λ o. inr (server_each ks j b m k o i is))
      (λ (C, v).
      let h = server_at Z G M ks j in
      sent_now Z G ks c j C _ _ (step_all H g j h.server h.area (initial_of Z j) (number_in C.from) C.m.client C.m.sequence
      (shape_of H g j h.server h.area (initial_of Z j) C.from C.m) b m k v i is))
      (sent_new Z G M ks c j b m u)

  -- ---- a client

  -- of its write q, something alike o to every server
  abbrev Alike : ℕ → ℕ → Offer → List Sending → Type 0
  Alike d q o l = (i : ℕ) → Among g.n i → (p : Offer) × (agreed p ≡ agreed o) × Memᴰ (sending (A.Server i) (message d q (block_is send p))) l

  dispersed_each : (c n T : ℕ) (v : List ℕ) (b : Party) (d q : ℕ) (o : Offer)
      → Memᴰ (sending b (message d q (block_is send o))) (to_all g (λ i. message c n (block_is send (offer T (entry_of H g v i)))))
      → Alike d q o (to_all g (λ i. message c n (block_is send (offer T (entry_of H g v i)))))
  unfolding to_all entry_of
  dispersed_each c n T v b d q o u i is =
      let f : ℕ → Message = λ i. message c n (block_is send (offer T (entry_of H g v i))) in
      let (j, l, h, e) = all_to f 1 g.n _ u in
      let x : o ≡ offer T (entry_of H g v j) = cc (ap (λ x. x.says.body) e) in
      let ed : d ≡ c = ap (λ x. x.says.client) e in
      let en : q ≡ n = ap (λ x. x.says.sequence) e in (
        offer T (entry_of H g v i),
        sym (ap agreed x),
        subst (λ d. Memᴰ (sending (A.Server i) (message d q (block_is send (offer T (entry_of H g v i))))) (to_all g f)) (sym ed)
            (subst (λ q. Memᴰ (sending (A.Server i) (message c q (block_is send (offer T (entry_of H g v i))))) (to_all g f)) (sym en)
            (all_mem f 1 g.n i is.0 (omega (arith, is.1)))),
      )

  -- no blocks are in what asks, reads or ends
  none_sent : (f : ℕ → Message) (b : Party) (d q : ℕ) (o : Offer) → ((i : ℕ) → block_is send o ≡ (f i).body → ⊥)
      → Memᴰ (sending b (message d q (block_is send o))) (to_all g f) → ⊥
  unfolding to_all
  none_sent f b d q o n u = let (j, l, h, e) = all_to f 1 g.n _ u in n j (ap (λ x. x.says.body) e)

  taken_each : (c : ℕ) (s : Client) (a v : List ℕ) (j : ℕ) {x : Body} {r : C.Effect} → CS.Shape H g c s a v j x r → (b : Party) (d q : ℕ) (o : Offer)
      → Memᴰ (sending b (message d q (block_is send o))) r.sends → Alike d q o r.sends
  taken_each c s a v j (CS.idle x) b d q o u = absurd (Memᴰ.not-nil u)
  taken_each c s a v j (CS.notes T p) b d q o u = absurd (Memᴰ.not-nil u)
  taken_each c s a v j (CS.hears x K z) b d q o u = absurd (Memᴰ.not-nil u)
  taken_each c s a v j (CS.sends x K z l) b d q o u = dispersed_each c s.writes _ v b d q o u
  taken_each c s a v j (CS.shuts x K z l) b d q o u = absurd (Memᴰ.not-nil u)
  taken_each c s a v j (CS.counts z) b d q o u = absurd (Memᴰ.not-nil u)
  taken_each c s a v j (CS.ends z) b d q o u = absurd (Memᴰ.not-nil u)
  taken_each c s a v j (CS.waits x e K z) b d q o u = absurd (Memᴰ.not-nil u)
  taken_each c s a v j (CS.completes x e {s'} K y z) b d q o u =
      absurd (none_sent (λ i. message c s'.reads read_complete) b d q o (λ i e. impossible (cc e)) u)

  call_each : (ks : List Call) (k : Call) (c : ℕ) → caller k ≡ A.Client c → ClientTurn Z ks k c → (b : Party) (d q : ℕ) (o : Offer)
      → Memᴰ (sending b (message d q (block_is send o))) (sends Z (run Z ks) k) → Alike d q o (sends Z (run Z ks) k)
  unfolding CB.open_read CB.open_write
  call_each ks k c e (rests h f) b d q o u = absurd (f b _ e u)
  call_each ks k c e (takes t) b d q o u = subst (Alike d q o) (sym t.sent)
      (taken_each c (home Z ks c).client (home Z ks c).area t.v t.j t.shape b d q o (subst (Memᴰ _) t.sent u))
  call_each ks k c e (begins_read out to _ t h l) b d q o u =
      absurd (none_sent (λ j. message c ((home Z ks c).client.reads + 1) ask_read) b d q o (λ i e. impossible (cc e)) (subst (Memᴰ _) l u))
  call_each ks k c e (begins_write v out to _ t h l _) b d q o u =
      absurd (none_sent (λ j. message c ((home Z ks c).client.writes + 1) get_stamp) b d q o (λ i e. impossible (cc e)) (subst (Memᴰ _) l u))

  pub client_each : (ks : List Call) (c : ℕ) (b : Party) (d q : ℕ) (o : Offer) → SentBy Z G ks (A.Client c) b (message d q (block_is send o))
      → (i : ℕ) → Among g.n i → (p : Offer) × (agreed p ≡ agreed o) × SentBy Z G ks (A.Client c) (A.Server i) (message d q (block_is send p))
  client_each [] c b d q o u i is = absurd u
  client_each (k ∷ ks) c b d q o (inl (e, u)) i is = let (p, a, v) = call_each ks k c e (client_turn Z ks k c) b d q o u i is in (p, a, inl (e, v))
  client_each (k ∷ ks) c b d q o (inr u) i is = let (p, a, v) = client_each ks c b d q o u i is in (p, a, inr v)
