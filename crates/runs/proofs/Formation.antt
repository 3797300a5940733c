-- Every message that an honest party sends can be said in a frame; so agreement and validity hold outright. Assumes nothing.
use Rattle.std.specs.Prelude.{Ok, Err}
use Rattle.frame.specs.Refusals.{Verdict}
use Prim.Native.Nat.{ℕ, ◌≤◌}
use native.Mathlib.Omega.{arith}
use mathlib.Core.Bool.{false}
use mathlib.Core.Path.{◌≡◌, sym, subst}
use mathlib.Core.Logic.{inl, inr, ⊎_elim}
use mathlib.Core.List.{List, [], ◌∷◌, Memᴰ}
use lib.ListN.{length}
use lib.Seq.{length-sets}
use Rattle.quorum.specs.Quorum.{Among}
use Rattle.quorum.proofs.Logic.{impossible}
use Rattle.frame.specs.declared.Party.{Party}
use Rattle.frame.specs.declared.Party.TheVariants as A
use Rattle.frame.specs.Messages.{Offer, send, block_is, Message, message, sending, Formed}
use Rattle.frame.specs.Params.{width}
use Rattle.frame.proofs.Converse.{formed_opened}
use Rattle.frame.proofs.Sizes.{Small}
use Rattle.server_rules.specs.declared.Server.{Server}
use Rattle.server_rules.specs.Delivery as SD
use Rattle.server_rules.specs.Steps as S
use Rattle.server_rules.proofs.Parts.{put_cases}
use Rattle.server_rules.proofs.Shapes.{offer_of}
use Rattle.client_rules.specs.State.{fresh_client}
use Rattle.server_rules.proofs.Thresholds.{agreed}
use Rattle.steps.proofs.ClientTaken.{delivered_formed, read_formed, write_formed, Numbered, numbered_delivered, numbered_read, numbered_write}
use Rattle.steps.proofs.ServerRanges.{WriteInBounds, InBounds, in_bounds_fresh, Good, effect_good}
use Rattle.runs.specs.Admissible.{Honest, Proper, Admissible}
use Rattle.runs.specs.Events.{At, Accepts}
use Rattle.runs.specs.World.{Setup, Call, to_server, to_client, begin_read, begin_write, caller, ClientSide, put, initial_of, start, step, run, sends}
use Rattle.runs.proofs.Broadcasts.{accepts_new, server_at, SentMessage, Takes, effect_of, server_next, shape, sent_new}
use Rattle.runs.proofs.Assumed.{Assumed}
use Rattle.runs.proofs.Agreement as Ag

module _ (Z : Setup) (G : Assumed Z) (M : Small Z.g) where
  open Z use {H, g, initial_value, faulty_server, faulty_client, state_areas, initial_areas, rows_areas}

  pub initial_long : (i : ℕ) → width g ≤ length (initial_of Z i)
  unfolding SD.construction SD.construct_by
  initial_long i = go (SD.construct_test H g i initial_value (length (state_areas i)) (length (initial_areas i)))
    where
      go : (b : Verdict) → width g ≤ length (SD.construct_by H g i b initial_value (state_areas i) (initial_areas i)).initial
      go (Err r) = G.initial_room i
      go (Ok _) = rw length-sets (G.initial_room i)

  -- a taken message is formed, and so is what follows
  pub heard : {ks : List Call} {k : Call} {j : ℕ} → Proper Z ks k → (C : Takes Z G M ks k j) → Formed g C.m
  heard {ks} {k} {j} p C =
      let q : Proper Z ks (to_server j C.from C.f C.out C.to) = subst (Proper Z ks) C.is p in
      subst (Formed g) C.took.says (formed_opened g C.f C.took.header q.1 C.took.opens)

  pub good_by : {ks : List Call} {k : Call} {j : ℕ} → InBounds (server_at Z G M ks j).server → Proper Z ks k → (C : Takes Z G M ks k j)
      → Good g (effect_of Z G M C)
  good_by {ks} {k} {j} B p C = effect_good H g G.bounded j (server_at Z G M ks j).server B (server_at Z G M ks j).area (initial_of Z j) (shape Z G M ks j)
      C.from C.m (heard p C) C.took.passes (initial_long j)

  pub in_bounds : (ks : List Call) → Admissible Z ks → (i : ℕ) → InBounds (server_at Z G M ks i).server
  unfolding run start SD.construction SD.construct_by
  in_bounds [] a i = go (SD.construct_test H g i initial_value (length (state_areas i)) (length (initial_areas i)))
    where
      go : (b : Verdict) → InBounds (SD.construct_by H g i b initial_value (state_areas i) (initial_areas i)).server
      go (Err r) = in_bounds_fresh
      go (Ok _) = in_bounds_fresh
  in_bounds (k ∷ ks) a i = ⊎_elim
      (λ e. subst (λ h. InBounds h.server) (sym e) (in_bounds ks a.1 i))
      (λ N. subst (λ h. InBounds h.server) (sym N.1) (good_by (in_bounds ks a.1 i) a.0 N.0).in_bounds)
      (server_next Z G M ks k i)

  -- what an honest server accepts is within its bounds
  pub accepted_in_bounds : (ks : List Call) → Admissible Z ks → (i p : ℕ) (x : S.Write) → At (Accepts Z i x) ks p → WriteInBounds g x
  accepted_in_bounds [] a i p x u = absurd u
  accepted_in_bounds (k ∷ ks) a i p x (inl u) =
      let w = accepts_new Z G M ks k i x u.1 in
      (good_by (in_bounds ks a.1 i) a.0 w.0).write_in_bounds x w.1
  accepted_in_bounds (k ∷ ks) a i p x (inr u) = accepted_in_bounds ks a.1 i p x u

  -- the numbers of honest clients' writes can be said in a frame
  by_put : (f : ℕ → ClientSide) (d : ℕ) (x : ClientSide) (c : ℕ) → Numbered (f c).client → (Numbered (f d).client → Numbered x.client)
      → Numbered (put f d x c).client
  by_put f d x c N F = ⊎_elim
      (λ (z, e). subst (λ h. Numbered h.client) (sym e) (F (subst (λ y. Numbered (f y).client) z N)))
      (λ e. subst (λ h. Numbered h.client) (sym e) N)
      (put_cases f d x c)

  pub numbered : (ks : List Call) → Admissible Z ks → (c : ℕ) → Numbered ((run Z ks).clients c).client
  unfolding run start step fresh_client
  numbered [] adm c = record { low = λ p. impossible (cc p); high = omega arith }
  numbered (to_server i from f out to ∷ ks) adm c = numbered ks adm.1 c
  numbered (to_client d from f lent result out to ∷ ks) adm c = by_put (run Z ks).clients d _ c (numbered ks adm.1 c)
      (λ N. numbered_delivered H g d _ _ _ from f result out to N)
  numbered (begin_read d out to ∷ ks) adm c = by_put (run Z ks).clients d _ c (numbered ks adm.1 c)
      (λ N. numbered_read H g d G.digest_size adm.0.0 _ out to N)
  numbered (begin_write d v out to ∷ ks) adm c = by_put (run Z ks).clients d _ c (numbered ks adm.1 c)
      (λ N. numbered_write H g d G.digest_size adm.0.0.0 _ v out to N)

  by_client : (ks : List Call) → Admissible Z ks → (k : Call) → Proper Z ks k → (c : ℕ) → Among 8 c → (b : Party) (m : Message) → caller k ≡ A.Client c
      → Memᴰ (sending b m) (sends Z (run Z ks) k) → Formed g m
  unfolding sends
  by_client ks adm (to_server i from f out to) p c is b m e u = impossible (cc)
  by_client ks adm (to_client d from f lent result out to) p c is b m e u =
      delivered_formed H g d G.digest_size p.0.0 _ _ _ (numbered ks adm d) from f result out to p.1 (sending b m) u
  by_client ks adm (begin_read d out to) p c is b m e u = read_formed H g d G.digest_size p.0 _ out to (sending b m) u
  by_client ks adm (begin_write d v out to) p c is b m e u = write_formed H g d G.digest_size p.0.0 _ v out to (sending b m) u

  pub formed : (ks : List Call) → Admissible Z ks → (a b : Party) (m : Message) → Honest Z a → SentMessage Z G M ks a b m → Formed g m
  formed [] adm a b m h u = absurd u
  formed (k ∷ ks) adm (A.Server j) b m h u = ⊎_elim
      (λ o. formed ks adm.1 (A.Server j) b m h o)
      (λ N. (good_by (in_bounds ks adm.1 j) adm.0 N.0).formed (sending b m) N.1)
      (sent_new Z G M ks k j b m u)
  formed (k ∷ ks) adm (A.Client c) b m h (inl u) = by_client ks adm.1 k adm.0 c h.0 b m u.0 u.1
  formed (k ∷ ks) adm (A.Client c) b m h (inr u) = formed ks adm.1 (A.Client c) b m h u

-- ---- agreement and validity, with nothing asked for

module _ (Z : Setup) (G : Assumed Z) where
  pub agreement : (ks : List Call) → Admissible Z ks → (i j p q : ℕ) (x y : S.Write) → At (Accepts Z i x) ks p → At (Accepts Z j y) ks q
      → x.client ≡ y.client → x.sequence ≡ y.sequence → (S.stamp_of x ≡ S.stamp_of y) × (x.entry.digests ≡ y.entry.digests)
  agreement = Ag.agreement Z G (formed Z G (Ag.small Z G))

  pub validity : (ks : List Call) → Admissible Z ks → (i p : ℕ) (x : S.Write) → Z.faulty_client x.client ≡ false → At (Accepts Z i x) ks p
      → (b : Party) × (o : Offer) × (agreed o ≡ agreed (offer_of x))
      × SentMessage Z G (Ag.small Z G) ks (A.Client x.client) b (message x.client x.sequence (block_is send o))
  validity = Ag.validity Z G (formed Z G (Ag.small Z G))
