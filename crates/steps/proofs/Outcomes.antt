-- What a delivery leaves, for every input: a refusal alters nothing, a server's present stamp never falls, and lent areas keep their lengths. Assumes nothing.
use Prim.Native.Nat.{ℕ}
use mathlib.Core.Bool.{true}
use mathlib.Core.Path.{◌≡◌, refl, ap}
use mathlib.Core.Logic.{◌⊎◌, inl}
use mathlib.Core.Option.{Option, none, some}
use mathlib.Core.List.{List}
use lib.ListN.{length}
use lib.Seq.{length-sets}
use Rattle.quorum.proofs.Logic.{impossible}
use Rattle.area.specs.Responses.{turned_down}
use Rattle.blocks.specs.declared.Params.{Params}
use Rattle.frame.specs.declared.Stamp.{Stamp}
use Rattle.frame.specs.declared.Party.{Party}
use Rattle.frame.specs.Stamps.{older}
use Rattle.frame.specs.Messages.{Body, number_in, Judged, bad, good}
use Rattle.frame.specs.Outbox.{frames, receivers}
use Rattle.server_rules.specs.declared.Server.{Server}
use Rattle.server_rules.specs.Steps as S
use Rattle.server_rules.specs.Tests as ST
use Rattle.server_rules.specs.Delivery as SD
use Rattle.server_rules.proofs.Freeing.{freed_stamp}
use Rattle.server_rules.proofs.Shapes.{Shape, idle, answers, notes, ends, settles, hears, step_length, Delivery, refused, taken, shape_delivered}
use Rattle.client_rules.specs.declared.Client.{Client}
use Rattle.client_rules.specs.Steps as C
use Rattle.client_rules.proofs.Shapes.{shape_of, shape_length}
use Rattle.client_rules.specs.Tests as CT
use Rattle.client_rules.specs.Delivery as CD

-- ---- a server's step

-- y is x, or newer
abbrev pub Stays : Stamp → Stamp → Type 0
Stays x y = (y ≡ x) ⊎ (older x y ≡ true)

pub record Left (s : Server) (a : List ℕ) (r : S.Effect) : Type 0 where
  pub stamp : Stays s.stamp r.server.stamp
  pub area : length r.area ≡ length a

left : {H : List ℕ → List ℕ} {g : Params} {me : ℕ} {s : Server} {a initial : List ℕ} {j c q : ℕ} {b : Body} {r : S.Effect} → Shape H g me s a initial j c q b r
    → Stays s.stamp r.server.stamp
left (idle b) = inl refl
left answers = inl refl
left notes = inl refl
left ends = inl refl
left (settles b p k f) = (freed_stamp f).0
left (hears T f) = (freed_stamp f).0

module _ (H : List ℕ → List ℕ) (g : Params) (me : ℕ) where
  module _ (s : Server) (a initial : List ℕ) (from : Party) (f out to : List ℕ) where
    left_delivered : Left s a (SD.delivered H g me s a initial from f out to)
    left_delivered = go (shape_delivered H g me s a initial from f out to)
      where
        go : {j : Judged} {r : S.Effect} → Delivery H g me s a initial from j r → Left s a r
        go (refused x e) = record { stamp = inl refl; area = refl }
        go (taken m e x) = record { stamp = left x; area = step_length H g me s a initial (number_in from) m.client x }

    -- "state and all lent bytes remain unchanged"
    pub server_refused : (n : ℕ) → (SD.delivery H g me s a initial from f out to).reply ≡ turned_down n
        → SD.delivery H g me s a initial from f out to ≡ record { reply = turned_down n; server = s; area = a; out = out; to = to }
    unfolding SD.delivery SD.delivered SD.effect_by SD.outcome_of SD.reply_of frames receivers
    server_refused n = go (ST.judge H g me s a initial from f out to)
      where
        go : (j : Judged) → SD.reply_of H g me j (length (SD.effect_by H g me j s a initial from).sends) ≡ turned_down n
            → SD.outcome_of H g me j (SD.effect_by H g me j s a initial from) out to ≡ record { reply = turned_down n; server = s; area = a; out = out; to = to }
        go (bad x) e = ap (λ y. record { reply = y; server = s; area = a; out = out; to = to }) e
        go (good m) e = impossible (cc e)

    -- the present stamp never falls
    pub server_stamp : Stays s.stamp (SD.delivery H g me s a initial from f out to).server.stamp
    unfolding SD.delivery SD.outcome_of
    server_stamp = left_delivered.stamp

    -- lengths stay
    pub server_lengths : (length (SD.delivery H g me s a initial from f out to).area ≡ length a)
        × (length (SD.delivery H g me s a initial from f out to).out ≡ length out)
        × (length (SD.delivery H g me s a initial from f out to).to ≡ length to)
    unfolding SD.delivery SD.outcome_of
    server_lengths = (
      left_delivered.area,
      length-sets out 0 (frames (SD.delivered H g me s a initial from f out to).sends),
      length-sets to 0 (receivers (SD.delivered H g me s a initial from f out to).sends),
    )

-- ---- a client's step

module _ (H : List ℕ → List ℕ) (g : Params) (me : ℕ) where
  length_result : (x : C.Event) (l : List ℕ) → length (CD.result_of x l) ≡ length l
  unfolding CD.result_of
  length_result C.nothing l = refl
  length_result C.written l = refl
  length_result C.out_of_stamps l = refl
  length_result (C.stopped x) l = of_read x.bytes
    where
      of_read : (o : Option (List ℕ)) → length (CD.read_result o l) ≡ length l
      of_read none = refl
      of_read (some v) = length-sets l 0 v

  module _ (s : Client) (a v : List ℕ) (from : Party) (f result out to : List ℕ) where
    length_rows : length (CD.delivered H g me s a v from f result out to).area ≡ length a
    unfolding CD.delivered CD.effect_by
    length_rows = go (CT.judge H g me s a v from f result out to)
      where
        go : (j : Judged) → length (CD.effect_by H g me j s a v from).area ≡ length a
        go (bad r) = refl
        go (good m) = shape_length H g me s a v (number_in from) (shape_of H g me s a v from m)

    -- lengths stay
    pub client_lengths : (length (CD.delivery H g me s a v from f result out to).area ≡ length a)
        × (length (CD.delivery H g me s a v from f result out to).result ≡ length result)
        × (length (CD.delivery H g me s a v from f result out to).out ≡ length out)
        × (length (CD.delivery H g me s a v from f result out to).to ≡ length to)
    unfolding CD.delivery CD.outcome_of
    client_lengths = (
      length_rows,
      length_result (CD.delivered H g me s a v from f result out to).event result,
      length-sets out 0 (frames (CD.delivered H g me s a v from f result out to).sends),
      length-sets to 0 (receivers (CD.delivered H g me s a v from f result out to).sends),
    )

    -- "state and all lent bytes remain unchanged"
    pub client_refused : (n : ℕ) → (CD.delivery H g me s a v from f result out to).answer ≡ turned_down n
        → CD.delivery H g me s a v from f result out to ≡ record { answer = turned_down n; client = s; area = a; result = result; out = out; to = to }
    unfolding CD.delivery CD.delivered CD.effect_by CD.outcome_of CD.answer_of CD.result_of frames receivers
    client_refused n = go (CT.judge H g me s a v from f result out to)
      where
        go : (j : Judged) → CD.answer_of j (CD.effect_by H g me j s a v from) ≡ turned_down n
            → CD.outcome_of j (CD.effect_by H g me j s a v from) result out to
            ≡ record { answer = turned_down n; client = s; area = a; result = result; out = out; to = to }
        go (bad x) e = ap (λ y. record { answer = y; client = s; area = a; result = result; out = out; to = to }) e
        go (good m) e = impossible (cc e)
