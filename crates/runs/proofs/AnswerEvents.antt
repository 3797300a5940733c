-- What a delivery to a client ends is what its answer says. Assumes nothing.
use Prim.Native.Nat.{ℕ}
use mathlib.Core.Path.{◌≡◌, refl, ap, sym, subst}
use mathlib.Core.Option.{Option, none, some}
use mathlib.Core.List.{List}
use lib.Seq.{sets}
use Rattle.quorum.proofs.Logic.{impossible}
use Rattle.area.specs.Responses.{Response, gives}
use Rattle.blocks.specs.declared.Params.{Params}
use Rattle.frame.specs.declared.Stamp.{Stamp}
use Rattle.frame.specs.declared.Party.{Party}
use Rattle.frame.specs.Messages.{Judged, bad, good}
use Rattle.client_rules.specs.declared.Client.{Client}
use Rattle.client_rules.specs.Answers.{Progress, read_gives}
use Rattle.client_rules.specs.Rows.{Found}
use Rattle.client_rules.specs.Steps as C
use Rattle.client_rules.specs.Tests as CT
use Rattle.client_rules.specs.Delivery as CD
use Rattle.runs.specs.World.{lent_to}
use Rattle.runs.specs.Answers.{Tells, AnswersTell}

found_same : (x y : Found) → C.stopped x ≡ C.stopped y → x ≡ y
found_same x y e = cc

stamp_same : (s r : Stamp) → ◌≡◌ {A = Response Progress} (gives (read_gives s)) (gives (read_gives r)) → s ≡ r
stamp_same s r e = cc

-- a read that ends, with its value and without
told_read : (y : Found) (o : Option (List ℕ)) → y.bytes ≡ o → (result : List ℕ) → Tells (C.stopped y) (gives (CD.read_progress y.stamp y.bytes)) result
    (CD.read_result y.bytes result)
told_read y o b result = subst (λ o. Tells (C.stopped y) (gives (CD.read_progress y.stamp o)) result (CD.read_result o result)) (sym b) (go o b)
  where
    go : (o : Option (List ℕ)) → y.bytes ≡ o → Tells (C.stopped y) (gives (CD.read_progress y.stamp o)) result (CD.read_result o result)
    go none b = record {
      completes = λ x v e c. let h = found_same y x e in impossible (cc);
      completed_only = λ s e. impossible (cc);
      disagrees = λ x e c. (refl, refl);
      disagreed_only = λ e. (y, refl, b);
      ends = λ e. impossible (cc);
      ended_only = λ e. impossible (cc);
    }
    go (some u) b = record {
      completes = λ x v e c.
          let h = found_same y x e in
          let w : u ≡ v = cc in
          (ap (λ z. gives (read_gives z.stamp)) h, ap (sets result 0) w);
      completed_only = λ s e. (y, u, refl, stamp_same y.stamp s e, b);
      disagrees = λ x e c. let h = found_same y x e in impossible (cc);
      disagreed_only = λ e. impossible (cc);
      ends = λ e. impossible (cc);
      ended_only = λ e. impossible (cc);
    }

told : (ev : C.Event) (n : ℕ) (result : List ℕ) → Tells ev (gives (CD.progress_by ev n)) result (CD.result_of ev result)
unfolding CD.progress_by CD.result_of
told C.nothing n result = record {
  completes = λ x v e b. impossible (cc);
  completed_only = λ s e. impossible (cc);
  disagrees = λ x e b. impossible (cc);
  disagreed_only = λ e. impossible (cc);
  ends = λ e. impossible (cc);
  ended_only = λ e. impossible (cc);
}
told C.written n result = record {
  completes = λ x v e b. impossible (cc);
  completed_only = λ s e. impossible (cc);
  disagrees = λ x e b. impossible (cc);
  disagreed_only = λ e. impossible (cc);
  ends = λ e. refl;
  ended_only = λ e. refl;
}
told C.out_of_stamps n result = record {
  completes = λ x v e b. impossible (cc);
  completed_only = λ s e. impossible (cc);
  disagrees = λ x e b. impossible (cc);
  disagreed_only = λ e. impossible (cc);
  ends = λ e. impossible (cc);
  ended_only = λ e. impossible (cc);
}
told (C.stopped y) n result = told_read y y.bytes refl result

module _ (H : List ℕ → List ℕ) (g : Params) (me : ℕ) (s : Client) (a v : List ℕ) (from : Party) (result out to : List ℕ) where
  told_by_lem : (j : Judged) → Tells (CD.effect_by H g me j s a v from).event (CD.outcome_of j (CD.effect_by H g me j s a v from) result out to).answer result
      (CD.outcome_of j (CD.effect_by H g me j s a v from) result out to).result
  unfolding CD.outcome_of CD.effect_by CD.answer_of
  told_by_lem (bad r) = record {
    completes = λ x v e b. impossible (cc);
    completed_only = λ t e. impossible (cc);
    disagrees = λ x e b. impossible (cc);
    disagreed_only = λ e. impossible (cc);
    ends = λ e. impossible (cc);
    ended_only = λ e. impossible (cc);
  }
  told_by_lem (good m) = told (C.effect H g me s a v from m).event _ result

pub answers_tell : AnswersTell
unfolding AnswersTell CD.delivery CD.delivered
answers_tell Z w c from f lent result out to =
    let p = w.clients c in
    let v = lent_to Z w c lent in
    told_by_lem Z.H Z.g c p.client p.area v from result out to (CT.judge Z.H Z.g c p.client p.area v from f result out to)
