-- What is read off an answer's out and to areas is exactly what the run takes as sent. Assumes nothing.
use Rattle.std.specs.Prelude.{Ok, Err}
use Prim.Native.Nat.{ℕ, ◌+◌, ◌≤◌}
use native.Mathlib.Omega.{arith}
use native.Mathlib.Nat.{mul-le-mul_right}
use mathlib.Core.Path.{◌≡◌, refl, ap, sym, ◌∙◌, subst}
use mathlib.Core.Option.{Option, none, some}
use mathlib.Core.List.{List, [], ◌∷◌, ◌++◌, map, append_assoc}
use mathlib.Core.Logic.{inl}
use lib.ListN.{length, get_or, take, drop}
use lib.Seq.{sets, sets-eq, take_at, drop_at}
use borrow.Author.Tests.{ltb-false}
use Rattle.quorum.proofs.Logic.{impossible}
use Rattle.area.specs.Responses.{gives}
use Rattle.area.specs.Numbers.{be2}
use Rattle.blocks.specs.declared.Params.{Params}
use Rattle.frame.specs.declared.Party.{Party}
use Rattle.frame.specs.Frames.{Opened}
use Rattle.frame.specs.Refusals.{answered_by, Verdict, fine}
use Rattle.frame.specs.Params.{largest_frame, server_frames, client_frames, out_room, to_room, Bounded, params_test}
use Rattle.frame.specs.Messages.{Message, Sending, Judged, bad, good}
use Rattle.frame.specs.Frames.{build, opened, message_in}
use Rattle.frame.specs.Outbox.{frames, receivers, party_bytes, party_in}
use Rattle.frame.specs.Stamps.{last_client}
use Rattle.frame.proofs.PartyLaws.{party_back}
use Rattle.frame.proofs.Rooms.{AllFormed, all_formed, frames_room, front_says}
use Rattle.frame.proofs.Outbox.{length_receivers}
use Rattle.frame.proofs.Verdicts.{fine_both, fine_not}
use Rattle.frame.proofs.Sizes.{Small}
use Rattle.server_rules.specs.declared.Server.{Server}
use Rattle.server_rules.specs.Tests as ST
use Rattle.server_rules.specs.Delivery as SD
use Rattle.client_rules.specs.declared.Client.{Client}
use Rattle.client_rules.specs.Answers.{goes_on}
use Rattle.client_rules.specs.Tests as CT
use Rattle.client_rules.specs.Steps as C
use Rattle.client_rules.specs.Delivery as CD
use Rattle.client_rules.specs.Beginning as CB
use Rattle.steps.proofs.ClientTaken.{by_fine, after_fine, send_room_lem, took_room}
use Rattle.steps.proofs.SendCount.{server_sends, event_sends, client_sends, read_sends, write_sends}
use Rattle.runs.specs.World.{Setup, Call, to_server, to_client, begin_read, begin_write, caller, World, initial_of, lent_to, run, sends}
use Rattle.runs.specs.Admissible.{Honest, Proper, Admissible}
use Rattle.runs.specs.Answers.{frames_in, receivers_in, answer_count, said, AnswersReadBack}
use Rattle.runs.proofs.Assumed.{Assumed, assumed}
use Rattle.runs.proofs.Agreement.{small}
use Rattle.runs.proofs.Formation.{formed}

-- ---- frames end to end

module _ (g : Params) (B : Bounded g) where
  pub frames_back : (xs : List Sending) → AllFormed g xs → (rest : List ℕ) → frames_in (length xs) (frames xs ++ rest) ≡ map (λ x. build x.says) xs
  unfolding frames_in frames
  frames_back [] f rest = refl
  frames_back (x ∷ xs) f rest =
      let b = build x.says in
      let l : (b ++ frames xs) ++ rest ≡ b ++ (frames xs ++ rest) = append_assoc b (frames xs) rest in
      let n : length b ≡ be2 (b ++ (frames xs ++ rest)) 0 + 2 = omega (arith, front_says g B x.says f.0 (frames xs ++ rest)) in
      let t : take (be2 (b ++ (frames xs ++ rest)) 0 + 2) (b ++ (frames xs ++ rest)) ≡ b = take_at b (frames xs ++ rest) _ n in
      let d : drop (be2 (b ++ (frames xs ++ rest)) 0 + 2) (b ++ (frames xs ++ rest)) ≡ frames xs ++ rest = drop_at b (frames xs ++ rest) _ n in
      let r = frames_back xs f.1 rest in
      ap (λ z. take (be2 z 0 + 2) z ∷ frames_in (length xs) (drop (be2 z 0 + 2) z)) l ∙ (λ i. t i ∷ frames_in (length xs) (d i)) ∙ ap (λ z. b ∷ z) r

-- ---- receivers

pub receivers_back : (xs : List Sending) (rest : List ℕ) → receivers_in (length xs) (receivers xs ++ rest) ≡ map (λ x. x.receiver) xs
unfolding receivers_in receivers
receivers_back [] rest = refl
receivers_back (x ∷ xs) rest =
    let l = append_assoc (party_bytes x.receiver) (receivers xs) rest in
    let w = party_back x.receiver (receivers xs ++ rest) in
    let r = receivers_back xs rest in
    ap (λ z. party_in (get_or z 0 0) (get_or z 1 0) ∷ receivers_in (length xs) (drop 2 z)) l ∙ (λ i. w.0 i ∷ receivers_in (length xs) (w.1 i))
    ∙ ap (λ z. x.receiver ∷ z) r

-- ---- what a step writes

-- m frames and receivers in an out and a to area are those of xs
abbrev Back : ℕ → List Sending → List ℕ → List ℕ → Type 0
Back m xs out to = (frames_in m out ≡ map (λ x. build x.says) xs) × (receivers_in m to ≡ map (λ x. x.receiver) xs)

nothing_back : (out to : List ℕ) → Back 0 [] out to
unfolding frames_in receivers_in
nothing_back out to = (refl, refl)

written_back : (g : Params) → Bounded g → (xs : List Sending) → AllFormed g xs → (m : ℕ) → length xs ≤ m → (out to : List ℕ) → out_room g m ≤ length out
    → to_room m ≤ length to → Back (length xs) xs (sets out 0 (frames xs)) (sets to 0 (receivers xs))
unfolding out_room to_room
written_back g B xs f m h out to o t =
    let few = frames_room g xs f in
    let more = mul-le-mul_right {m = length xs} {n = m} (largest_frame g) h in
    let long : 0 + length (frames xs) ≤ length out = omega (arith, few, more, o) in
    let wide : 0 + length (receivers xs) ≤ length to = omega (arith, length_receivers xs, h, t) in (
      ap (frames_in (length xs)) (sets-eq (frames xs) out 0 long) ∙ frames_back g B xs f _,
      ap (receivers_in (length xs)) (sets-eq (receivers xs) to 0 wide) ∙ receivers_back xs _,
    )

-- ---- a frame that is taken found room

read_room : (g : Params) (me : ℕ) (s : Client) (out to : List ℕ) → CB.read_test g me s out to ≡ fine → CT.send_room g (length out) (length to) ≡ fine
unfolding CB.read_test
read_room g me s out to e = (fine_both (CT.send_room g (length out) (length to)) _ (fine_both (params_test g me last_client) _ e).1).0

write_room : (g : Params) (me : ℕ) (s : Client) (v out to : List ℕ) → CB.write_test g me s v out to ≡ fine → CT.send_room g (length out) (length to) ≡ fine
unfolding CB.write_test
write_room g me s v out to e =
    let p₁ = (fine_both (params_test g me last_client) _ e).1 in
    let p₂ = (fine_both (CB.length_test g (length v)) _ p₁).1 in
    (fine_both (CT.send_room g (length out) (length to)) _ p₂).0

module _ (H : List ℕ → List ℕ) (g : Params) (me : ℕ) where
  server_room : (s : Server) (a initial : List ℕ) (from : Party) (f out to : List ℕ) (m : Message) → ST.judge H g me s a initial from f out to ≡ good m
      → (out_room g (server_frames g) ≤ length out) × (to_room (server_frames g) ≤ length to)
  unfolding ST.judge ST.judge_opened ST.room_test
  server_room s a initial from f out to m e = go (opened g f) (after_fine (params_test g me g.n) _ m e)
    where
      room : Verdict
      room = ST.room_test g (length a) (length initial) (length out) (length to)

      go : (o : Opened) → ST.judge_opened H g me o room s from f ≡ good m → (out_room g (server_frames g) ≤ length out) × (to_room (server_frames g) ≤ length to)
      go (Err r) u = impossible (cc)
      go (Ok h) u =
          let w = (fine_both room (ST.message_test H g me s from (message_in g h f)) (by_fine _ _ m u)).0 in
          let p₁ = fine_not _ _ _ w in
          let p₂ = fine_not _ _ _ p₁.1 in
          let p₃ = fine_not _ _ _ p₂.1 in
          let p₄ = fine_not _ _ _ p₃.1 in
          (ltb-false _ _ p₃.0, ltb-false _ _ p₄.0)

  -- the count in a client's answer
  count_is : (v : C.Event) (m : ℕ) → answer_count g (gives (CD.progress_by v m)) ≡ event_sends H g me v m
  unfolding CD.progress_by
  count_is C.nothing m = refl
  count_is C.written m = refl
  count_is C.out_of_stamps m = refl
  count_is (C.stopped x) m = of_read x.bytes
    where
      of_read : (o : Option (List ℕ)) → answer_count g (gives (CD.read_progress x.stamp o)) ≡ g.n
      of_read none = refl
      of_read (some v) = refl

-- ---- in a run

-- who answers a call is honest
pub honest_caller : (Z : Setup) (ks : List Call) (k : Call) → Proper Z ks k → Honest Z (caller k)
honest_caller Z ks (to_server i from f out to) p = p.0
honest_caller Z ks (to_client c from f lent result out to) p = p.0
honest_caller Z ks (begin_read c out to) p = p
honest_caller Z ks (begin_write c v out to) p = p.0

module _ (Z : Setup) (G : Assumed Z) where
  open Z use {H, g}

  abbrev M : Small g
  M = small Z G

  sends_formed : (ks : List Call) (k : Call) → Admissible Z (k ∷ ks) → AllFormed g (sends Z (run Z ks) k)
  sends_formed ks k a =
      all_formed g _ (λ x u. formed Z G M (k ∷ ks) a (caller k) x.receiver x.says (honest_caller Z ks k a.0) (inl (refl, u)))

  abbrev Answer : World → Call → Type 0
  Answer w k = AllFormed g (sends Z w k) → Back (said Z w k).count (sends Z w k) (said Z w k).out (said Z w k).to

  server_back : (w : World) (i : ℕ) (from : Party) (f out to : List ℕ) → Answer w (to_server i from f out to)
  unfolding said sends SD.reply_count SD.delivery SD.outcome_of SD.reply_of SD.delivered SD.effect_by
  server_back w i from f out to F = go (ST.judge H g i s a (initial_of Z i) from f out to) refl F
    where
      s : Server
      s = (w.servers i).server

      a : List ℕ
      a = (w.servers i).area

      go : (j : Judged) → ST.judge H g i s a (initial_of Z i) from f out to ≡ j → AllFormed g (SD.effect_by H g i j s a (initial_of Z i) from).sends
          → Back (SD.reply_count (SD.reply_of H g i j (length (SD.effect_by H g i j s a (initial_of Z i) from).sends)))
          (SD.effect_by H g i j s a (initial_of Z i) from).sends
          (sets out 0 (frames (SD.effect_by H g i j s a (initial_of Z i) from).sends))
          (sets to 0 (receivers (SD.effect_by H g i j s a (initial_of Z i) from).sends))
      go (bad r) e F = nothing_back _ _
      go (good m) e F =
          let r = server_room H g i s a (initial_of Z i) from f out to m e in
          let xs = (SD.effect_by H g i (good m) s a (initial_of Z i) from).sends in
          written_back g G.bounded xs F (server_frames g) (server_sends H g i s a (initial_of Z i) from m) out to r.0 r.1

  client_back : (w : World) (c : ℕ) (from : Party) (f lent result out to : List ℕ) → Answer w (to_client c from f lent result out to)
  unfolding said sends CD.delivery CD.outcome_of CD.answer_of CD.delivered CD.effect_by
  client_back w c from f lent result out to F = go (CT.judge H g c s a v from f result out to) refl F
    where
      s : Client
      s = (w.clients c).client

      a : List ℕ
      a = (w.clients c).area

      v : List ℕ
      v = lent_to Z w c lent

      go : (j : Judged) → CT.judge H g c s a v from f result out to ≡ j → AllFormed g (CD.effect_by H g c j s a v from).sends
          → Back (answer_count g (CD.answer_of j (CD.effect_by H g c j s a v from))) (CD.effect_by H g c j s a v from).sends
          (sets out 0 (frames (CD.effect_by H g c j s a v from).sends)) (sets to 0 (receivers (CD.effect_by H g c j s a v from).sends))
      go (bad r) e F = nothing_back _ _
      go (good m) e F =
          let r = took_room H g c s a v from f result out to m e in
          let S = client_sends H g c s a v from m in
          let x = C.effect H g c s a v from m in
          let n : length x.sends ≡ answer_count g (gives (CD.progress_by x.event (length x.sends))) =
          sym (count_is H g c x.event (length x.sends) ∙ S.event) in
          subst (λ y. Back y x.sends (sets out 0 (frames x.sends)) (sets to 0 (receivers x.sends))) n
          (written_back g G.bounded x.sends F (client_frames g) S.few out to r.out_room_lem r.to_room_lem)

  read_back : (w : World) (c : ℕ) (out to : List ℕ) → Answer w (begin_read c out to)
  unfolding said sends CB.read_beginning CB.begun_of CB.read_begun CB.begin_by
  read_back w c out to F = go (CB.read_test g c s out to) refl F
    where
      s : Client
      s = (w.clients c).client

      go : (b : Verdict) → CB.read_test g c s out to ≡ b → AllFormed g (CB.begin_by g c b s (CB.open_read g c s)).sends
          → Back (answer_count g (answered_by b (goes_on (length (CB.begin_by g c b s (CB.open_read g c s)).sends))))
          (CB.begin_by g c b s (CB.open_read g c s)).sends
          (sets out 0 (frames (CB.begin_by g c b s (CB.open_read g c s)).sends)) (sets to 0 (receivers (CB.begin_by g c b s (CB.open_read g c s)).sends))
      go (Err r) e F = nothing_back _ _
      go (Ok _) e F =
          let r = send_room_lem H g c out to (read_room g c s out to e) in
          written_back g G.bounded (CB.open_read g c s).sends F (client_frames g) (read_sends H g c s) out to r.0 r.1

  write_back : (w : World) (c : ℕ) (v out to : List ℕ) → Answer w (begin_write c v out to)
  unfolding said sends CB.write_beginning CB.begun_of CB.write_begun CB.begin_by
  write_back w c v out to F = go (CB.write_test g c s v out to) refl F
    where
      s : Client
      s = (w.clients c).client

      go : (b : Verdict) → CB.write_test g c s v out to ≡ b → AllFormed g (CB.begin_by g c b s (CB.open_write g c s)).sends
          → Back (answer_count g (answered_by b (goes_on (length (CB.begin_by g c b s (CB.open_write g c s)).sends))))
          (CB.begin_by g c b s (CB.open_write g c s)).sends
          (sets out 0 (frames (CB.begin_by g c b s (CB.open_write g c s)).sends)) (sets to 0 (receivers (CB.begin_by g c b s (CB.open_write g c s)).sends))
      go (Err r) e F = nothing_back _ _
      go (Ok _) e F =
          let r = send_room_lem H g c out to (write_room g c s v out to e) in
          written_back g G.bounded (CB.open_write g c s).sends F (client_frames g) (write_sends H g c s) out to r.0 r.1

  answer_back : (w : World) (k : Call) → Answer w k
  answer_back w (to_server i from f out to) = server_back w i from f out to
  answer_back w (to_client c from f lent result out to) = client_back w c from f lent result out to
  answer_back w (begin_read c out to) = read_back w c out to
  answer_back w (begin_write c v out to) = write_back w c v out to

pub answers_read_back : AnswersReadBack
unfolding AnswersReadBack
answers_read_back Z S D k ks a =
    let G = assumed Z S D in
    let w = answer_back Z G (run Z ks) k (sends_formed Z G ks k a) in
    record { frames = w.0; receivers = w.1 }
