-- What a counted frame does to a server's part in a broadcast, for any payload: an echo follows the client's own frame, a ready follows n - t echoes or the few
-- readies on which one is sent, and a delivery all that it asks for. Assumes nothing.
use Prim.Native.Nat.{ℕ, ◌-◌, ◌≤◌}
use mathlib.Core.Bool.{Bool, true, false}
use mathlib.Core.Path.{◌≡◌, refl, ap, sym, ◌∙◌}
use mathlib.Core.Logic.{◌⊎◌, inl, inr, ⊎_elim}
use mathlib.Core.Option.{Option, none, some}
use Rattle.quorum.proofs.Logic.{impossible}
use Rattle.quorum.proofs.Quorums.{AtLeast}
use Rattle.frame.specs.Messages.{Stage, send, echo, ready}
use Rattle.server_rules.specs.Broadcast.{Rules, Part, is_like, votes, due, full, kept}
use Rattle.server_rules.proofs.Thresholds.{due_votes, full_votes, Sane}
use Rattle.server_rules.proofs.Parts.{put, first_of, with_echo, with_ready, settled, counted, Says, put_cases}

module _ {P D : Type 0} (R : Rules P) (n t : ℕ) (π : P → D) where
  -- held of j, or new: N says what is new
  abbrev pub Heard : (ℕ → Option P) → (ℕ → P → Type 0) → D → ℕ → Type 0
  Heard f N d j = (p : P) × (π p ≡ d) × ((f j ≡ some p) ⊎ N j p)

  -- From s to s' by a frame that is new as a send, an echo, a ready; the step says this and that to all.
  pub record PartFacts (s s' : Part P) (NS : P → Type 0) (NE NR : ℕ → P → Type 0) (Said : Stage → P → Type 0) : Type 0 where
    pub an_echo : (p : P) → Said echo p → (s.sent ≡ false) × (s'.sent ≡ true) × NS p
    pub a_ready : (p : P) → Said ready p → AtLeast n (n - t) (Heard s.echoes NE (π p)) ⊎ AtLeast n R.few (Heard s.readies NR (π p))
    pub echo_kept : (j : ℕ) (p : P) → s'.echoes j ≡ some p → (s.echoes j ≡ some p) ⊎ NE j p
    pub ready_kept : (j : ℕ) (p : P) → s'.readies j ≡ some p → (s.readies j ≡ some p) ⊎ NR j p
    pub onward : s.sent ≡ true → s'.sent ≡ true
    pub done_why : (p : P) → s'.done ≡ some p → (s.done ≡ some p) ⊎ AtLeast n R.all (Heard s.readies NR (π p))

  -- nothing happens to this part
  pub rest_facts : (s : Part P) (NS : P → Type 0) (NE NR : ℕ → P → Type 0) (Said : Stage → P → Type 0) → ((z : Stage) (p : P) → Said z p → ⊥)
      → PartFacts s s NS NE NR Said
  rest_facts s NS NE NR Said no_word = record {
    an_echo = λ p u. absurd (no_word echo p u);
    a_ready = λ p u. absurd (no_word ready p u);
    echo_kept = λ j p e. inl e;
    ready_kept = λ j p e. inl e;
    onward = λ e. e;
    done_why = λ p e. inl e;
  }

module _ {P D : Type 0} (R : Rules P) (n t : ℕ) (π : P → D) (O : Sane R t π) where
  is_some : (o : Option P) (x : P) → is_like R n t o x ≡ true → (p : P) × (π p ≡ π x) × (o ≡ some p)
  is_some none x e = impossible (cc)
  is_some (some y) x e = (y, O.same_true y x e, refl)

  -- m votes for x, as f has them
  by_votes : (f f₀ : ℕ → Option P) (N : ℕ → P → Type 0) (x : P) → ((j : ℕ) (p : P) → f j ≡ some p → (f₀ j ≡ some p) ⊎ N j p)
      → (m : ℕ) → m ≤ votes R n t f x → (d : D) → π x ≡ d → AtLeast n m (Heard R n t π f₀ N d)
  unfolding votes
  by_votes f f₀ N x k m h d e = record {
    member = λ j. is_like R n t (f j) x;
    many = h;
    each = λ j i b. let z = is_some (f j) x b in (z.0, z.1 ∙ e, k j z.0 z.2);
  }

  -- w is s with what the frame brought
  module _ (i : ℕ) (s w : Part P) (NS : P → Type 0) (NE NR : ℕ → P → Type 0) (x : P) (k : w.sent ≡ s.sent) (g : w.done ≡ s.done)
      (ke : (j : ℕ) (p : P) → w.echoes j ≡ some p → (s.echoes j ≡ some p) ⊎ NE j p)
      (kr : (j : ℕ) (p : P) → w.readies j ≡ some p → (s.readies j ≡ some p) ⊎ NR j p) where
    why_due : (d : D) → π x ≡ d → due R n t w x ≡ true → AtLeast n (n - t) (Heard R n t π s.echoes NE d)
        ⊎ AtLeast n R.few (Heard R n t π s.readies NR d)
    why_due d q e = ⊎_elim
        (λ a. inl (by_votes w.echoes s.echoes NE x ke (n - t) a d q))
        (λ b. inr (by_votes w.readies s.readies NR x kr R.few b d q))
        (due_votes R n t w x e)

    own_eq : {p : P} → p ≡ R.own i w.echoes w.readies x → π x ≡ π p
    own_eq e = sym (ap π e ∙ O.own_same i w.echoes w.readies x)

    done_from : (o : Option P) (d : Bool) (p : P) → w.done ≡ o → full R n t w x ≡ d → first_of o (kept d (R.own i w.echoes w.readies x)) ≡ some p
        → (s.done ≡ some p) ⊎ AtLeast n R.all (Heard R n t π s.readies NR (π p))
    done_from (some y) d p e f z = inl (sym g ∙ e ∙ z)
    done_from none true p e f z =
        let q : R.own i w.echoes w.readies x ≡ p = cc in
        inr (by_votes w.readies s.readies NR x kr R.all (full_votes R n t w x f) (π p) (own_eq (sym q)))
    done_from none false p e f z = impossible (cc)

    settle_facts : (Said : Stage → P → Type 0)
        → ((z : Stage) (p : P) → Said z p → (z ≡ ready) × (due R n t w x ≡ true) × (p ≡ R.own i w.echoes w.readies x))
        → PartFacts R n t π s (settled R n t i w x) NS NE NR Said
    settle_facts Said f = record {
      an_echo = λ p u. impossible (cc (f echo p u).0);
      a_ready = λ p u. let h = f ready p u in why_due (π p) (own_eq h.2) h.1;
      echo_kept = ke;
      ready_kept = kr;
      onward = λ e. k ∙ e;
      done_why = λ p e. done_from w.done (full R n t w x) p refl refl e;
    }

  inj : {o : Option P} {a b : P} → o ≡ some a → o ≡ some b → a ≡ b
  inj u v = cc

  kept_new : (f : ℕ → Option P) (N : ℕ → P → Type 0) (j : ℕ) (x : P) → N j x → (m : ℕ) (p : P) → put f j (some x) m ≡ some p → (f m ≡ some p) ⊎ N m p
  kept_new f N j x n m p e = ⊎_elim (λ w. inr (rw (w.0, ← inj w.1 e) n)) (λ w. inl (sym w ∙ e)) (put_cases f j (some x) m)

  module _ (i : ℕ) (s : Part P) (NS : P → Type 0) (NE NR : ℕ → P → Type 0) (j : ℕ) (x : P) where
    -- what a frame of stage z has to be
    abbrev pub Brings : Stage → Type 0
    Brings send = (s.sent ≡ false) × NS x
    Brings echo = NE j x
    Brings ready = NR j x

    pub count_facts : (z : Stage) → Brings z → (Said : Stage → P → Type 0) → ((z' : Stage) (p : P) → Said z' p → Says R n t i s j z x z' p)
        → PartFacts R n t π s (counted R n t i s j z x) NS NE NR Said
    count_facts send b Said f = record {
      an_echo = λ p u. (b.0, refl, rw (f echo p u).1 b.1);
      a_ready = λ p u. impossible (cc (f ready p u).0);
      echo_kept = λ j p e. inl e;
      ready_kept = λ j p e. inl e;
      onward = λ e. refl;
      done_why = λ p e. inl e;
    }
    count_facts echo b Said f = settle_facts i s (with_echo s j x) NS NE NR x refl refl (kept_new s.echoes NE j x b) (λ m p e. inl e) Said f
    count_facts ready b Said f = settle_facts i s (with_ready s j x) NS NE NR x refl refl (λ m p e. inl e) (kept_new s.readies NR j x b) Said f
