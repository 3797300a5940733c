-- A server leaves nothing due: after each counted frame no ready is due for any offer, and a write that is full is complete. Assumes nothing.
use Prim.Native.Nat.{ℕ, zero, suc, ◌+◌, ◌<◌}
use native.Mathlib.Omega.{arith}
use mathlib.Core.Bool.{Bool, true, false, not, ◌&&◌, ◌||◌}
use mathlib.Core.Path.{◌≡◌, refl, ap, sym, ◌∙◌}
use mathlib.Core.Logic.{inl, inr, ⊎_elim}
use mathlib.Core.Option.{Option, none, some}
use mathlib.Core.List.{List}
use lib.Dec.{leb}
use borrow.Author.Tests.{leb-true, le-leb}
use Rattle.quorum.specs.Quorum.{count}
use Rattle.quorum.proofs.Logic.{impossible, or_left, or_right}
use Rattle.blocks.specs.declared.Params.{Params}
use Rattle.frame.specs.Params.{quota, Bounded}
use Rattle.frame.specs.Messages.{Offer, Stage, send, echo, ready}
use Rattle.server_rules.specs.Broadcast.{Rules, Part, kept, undone, is_like, votes, enough, due, full}
use Rattle.server_rules.specs.Rules.{block_rules}
use Rattle.server_rules.proofs.Parts.{put, put_cases, first_of, no_part, with_sent, with_echo, with_ready, settled, counted}
use Rattle.server_rules.proofs.Thresholds.{agreed, blocks_sane, full_votes, full_supported, quota_faults}
use Rattle.taking.proofs.Local as O
use Rattle.taking.proofs.Local.{Agrees}

-- ---- truth values

-- not due once a ready has gone out; and where it has not, the same is due as before
not_due_again : (a b r : Bool) → b ≡ (not a && r) → (not (a || b) && r) ≡ false
not_due_again true b r e = refl
not_due_again false true r e = refl
not_due_again false false r e = sym e

still_not_due : (a b r : Bool) → (not a && r) ≡ false → (not (a || b) && r) ≡ false
still_not_due true b r e = refl
still_not_due false true r e = refl
still_not_due false false r e = e

ready_by : (a r : Bool) → r ≡ true → (a || (not a && r)) ≡ true
ready_by true r e = refl
ready_by false r e = e

first_done : {P : Type 0} (d e : Option P) → undone d ≡ false → undone (first_of d e) ≡ false
first_done none e u = impossible (cc u)
first_done (some x) e u = refl

first_full : {P : Type 0} (d : Option P) (b : Bool) (x : P) → b ≡ true → undone (first_of d (kept b x)) ≡ false
first_full none true x e = refl
first_full none false x e = impossible (cc e)
first_full (some y) b x e = refl

module _ (H : List ℕ → List ℕ) (g : Params) where
  abbrev R : Rules Offer
  R = block_rules H g

  -- nothing is due, what is full is complete, and of what is complete a ready has gone out
  pub record Calm (w : Part Offer) : Type 0 where
    pub nothing_due : (x : Offer) → due R g.n g.t w x ≡ false
    pub full_done : (x : Offer) → full R g.n g.t w x ≡ true → undone w.done ≡ false
    pub done_ready : (y : Offer) → w.done ≡ some y → w.ready ≡ true

  -- ---- where nothing has come

  no_votes : (n : ℕ) → count (λ j. false) n ≡ 0
  unfolding count
  no_votes zero = refl
  no_votes (suc k) = omega (arith, no_votes k)

  leb_short : (a b : ℕ) → b < a → leb a b ≡ false
  leb_short a b l = go (leb a b) refl
    where
      go : (t : Bool) → leb a b ≡ t → t ≡ false
      go true e = absurd (omega (arith, leb-true a b e))
      go false e = refl

  pub calm_empty : Bounded g → Calm no_part
  unfolding due enough full votes
  calm_empty L =
      let few = quota_faults g in
      let zeros = no_votes g.n in
      let n : leb g.n (count (λ j. false) g.n + g.t) ≡ false =
      leb_short g.n (count (λ j. false) g.n + g.t) (omega (arith, zeros, L.faults_high)) in
      let q : leb (quota g) (count (λ j. false) g.n) ≡ false = leb_short (quota g) (count (λ j. false) g.n) (omega (arith, zeros, few)) in
      let a : leb (quota g + g.t) (count (λ j. false) g.n) ≡ false = leb_short (quota g + g.t) (count (λ j. false) g.n) (omega (arith, zeros, few)) in
      record {
        nothing_due = λ x. rw (n, q) refl;
        full_done = λ x e. impossible (cc (ap (λ b. b && R.supports (λ j. none) (λ j. none) x) a, e));
        done_ready = λ y e. impossible (cc e);
      }

  -- ---- where a frame is counted

  -- w is v with a frame of o counted, which no other offer feels
  module _ (me : ℕ) (v w : Part Offer) (o : Offer) (ready : w.ready ≡ v.ready) (done : w.done ≡ v.done)
      (E : (x : Offer) → R.alike o x ≡ false → (j : ℕ) → Agrees H g x (w.echoes j) (v.echoes j))
      (Q : (x : Offer) → R.alike o x ≡ false → (j : ℕ) → Agrees H g x (w.readies j) (v.readies j)) (C : Calm v) where
    rest : Offer → Bool
    rest x = enough R g.n g.t w x && R.supports w.echoes w.readies x

    due_is : (x : Offer) → due R g.n g.t w x ≡ (not w.ready && rest x)
    unfolding due rest
    due_is x = refl

    settled_due : (x : Offer) → due R g.n g.t (settled R g.n g.t me w o) x ≡ (not (w.ready || due R g.n g.t w o) && rest x)
    unfolding due rest enough
    settled_due x = refl

    settled_full : (x : Offer) → full R g.n g.t (settled R g.n g.t me w o) x ≡ full R g.n g.t w x
    unfolding full
    settled_full x = refl

    same_of : (x : Offer) → R.alike o x ≡ true → agreed x ≡ agreed o
    same_of x e = sym ((blocks_sane H g).same_true o x e)

    -- where the write becomes complete, a ready goes out unless one did
    pub full_ready : full R g.n g.t w o ≡ true → (settled R g.n g.t me w o).ready ≡ true
    unfolding enough rest votes
    full_ready f =
        let l = full_votes R g.n g.t w o f in
        let q : leb R.few (votes R g.n g.t w.readies o) ≡ true = le-leb R.few (votes R g.n g.t w.readies o) (omega (arith, l)) in
        let e : enough R g.n g.t w o ≡ true = or_right (leb g.n (votes R g.n g.t w.echoes o + g.t)) _ q in
        ap (λ b. w.ready || b) (due_is o) ∙ ready_by w.ready (rest o) (rw e (full_supported R g.n g.t w o f))

    pub calm_settled : Calm (settled R g.n g.t me w o)
    calm_settled = record {
      nothing_due = λ x. settled_due x ∙ not_again x (R.alike o x) refl;
      full_done = λ x e. complete x (R.alike o x) refl (sym (settled_full x) ∙ e);
      done_ready = λ y e. readied y w.done (full R g.n g.t w o) refl refl e;
    }
      where
        readied : (y : Offer) (d : Option Offer) (b : Bool) → w.done ≡ d → full R g.n g.t w o ≡ b
            → first_of d (kept b (R.own me w.echoes w.readies o)) ≡ some y → (settled R g.n g.t me w o).ready ≡ true
        readied y (some z) b p q e = or_left w.ready _ (ready ∙ C.done_ready z (sym done ∙ p))
        readied y none true p q e = full_ready q
        readied y none false p q e = impossible (cc e)

        not_again : (x : Offer) (b : Bool) → R.alike o x ≡ b → (not (w.ready || due R g.n g.t w o) && rest x) ≡ false
        not_again x true e = not_due_again w.ready _ (rest x) (sym (O.alike_due H g x o (same_of x e) w) ∙ due_is x)
        not_again x false e = still_not_due w.ready _ (rest x) (sym (due_is x) ∙ O.agrees_due H g x w v ready (E x e) (Q x e) ∙ C.nothing_due x)

        complete : (x : Offer) (b : Bool) → R.alike o x ≡ b → full R g.n g.t w x ≡ true → undone (settled R g.n g.t me w o).done ≡ false
        complete x true e f = first_full w.done (full R g.n g.t w o) _ (sym (O.alike_full H g x o (same_of x e) w) ∙ f)
        complete x false e f =
            first_done w.done _ (ap undone done ∙ C.full_done x (sym (O.agrees_full H g x w v ready (E x e) (Q x e)) ∙ f))

  -- a place that was empty
  fresh_place : (f : ℕ → Option Offer) (j : ℕ) (o x : Offer) → f j ≡ none → R.alike o x ≡ false → (i : ℕ) → Agrees H g x (put f j (some o) i) (f i)
  fresh_place f j o x n e i = ⊎_elim
      (λ (s, p). inl (ap (λ y. is_like R g.n g.t y x) p ∙ e, ap (λ y. is_like R g.n g.t y x) (ap f s ∙ n)))
      (λ p. inr p)
      (put_cases f j (some o) i)

  -- nothing of this stage was counted of party j
  abbrev pub Uncounted : Part Offer → ℕ → Stage → Type 0
  Uncounted v j send = Unit {0}
  Uncounted v j echo = v.echoes j ≡ none
  Uncounted v j ready = v.readies j ≡ none

  with_sent_calm : (v : Part Offer) → Calm v → Calm (with_sent v)
  unfolding due enough full
  with_sent_calm v C = record { nothing_due = C.nothing_due; full_done = C.full_done; done_ready = C.done_ready }

  pub counted_calm : (me : ℕ) (v : Part Offer) (j : ℕ) (z : Stage) (o : Offer) → Uncounted v j z → Calm v → Calm (counted R g.n g.t me v j z o)
  counted_calm me v j send o u C = with_sent_calm v C
  counted_calm me v j echo o u C = calm_settled me v (with_echo v j o) o refl refl (λ x. fresh_place v.echoes j o x u) (λ x e i. inr refl) C
  counted_calm me v j ready o u C = calm_settled me v (with_ready v j o) o refl refl (λ x e i. inr refl) (λ x. fresh_place v.readies j o x u) C
