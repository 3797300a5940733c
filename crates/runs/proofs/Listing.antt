-- The completed reads and the accepted writes of a run, as a list. Assumes nothing.
use Prim.Native.Nat.{ℕ}
use mathlib.Core.Bool.{true, false}
use mathlib.Core.Path.{◌≡◌, refl, sym, ap, ◌∙◌}
use mathlib.Core.Option.{Option, none, some}
use mathlib.Core.Logic.{inl, inr, ⊎_elim}
use mathlib.Core.List.Memᴰ
use mathlib.Core.List.{List, [], ◌∷◌, ◌++◌, map}
use lib.ListN.{length}
use Rattle.quorum.proofs.Logic.{impossible}
use Rattle.frame.specs.declared.Stamp.{Stamp}
use Rattle.server_rules.specs.Steps as S
use Rattle.client_rules.specs.Rows.{Found}
use Rattle.client_rules.specs.Steps as C
use Rattle.runs.specs.Events.{Event, At, Accepts, CompletesRead}
use Rattle.runs.specs.World.{Setup, Call, to_server, to_client, begin_read, begin_write, run, server_effect, client_effect}
use Rattle.runs.proofs.Sorting.{Item, Mem}

module _ (Z : Setup) where
  abbrev pub read_item : ℕ → ℕ → Stamp → ℕ → Item
  read_item c q s e = record { op = record { reading = true; client = c; sequence = q; stamp = s }; end = e }

  abbrev pub write_item : S.Write → Item
  write_item x = record { op = record { reading = false; client = x.client; sequence = x.sequence; stamp = S.stamp_of x }; end = 0 }

  -- why an item is listed
  pub data Cause (A : (E : Event) → ℕ → Type 0) : Item → Type 0 where
    by_read : (c q e : ℕ) (x : Found) → A (CompletesRead Z c q x) e → Cause A (read_item c q x.stamp e)
    by_accept : (i e : ℕ) (x : S.Write) → A (Accepts Z i x) e → Cause A (write_item x)

  -- the items of one call, of a run
  pub record Items (A : (E : Event) → ℕ → Type 0) : Type 0 where
    pub list : List Item
    pub sound : (y : Item) → Mem y list → Cause A y
    pub reads : (c q e : ℕ) (x : Found) → A (CompletesRead Z c q x) e → Mem (read_item c q x.stamp e) list
    pub accepts : (i e : ℕ) (x : S.Write) → A (Accepts Z i x) e → Mem (write_item x) list

  abbrev Now : List Call → Call → (E : Event) → ℕ → Type 0
  Now ks k E p = (p ≡ length ks) × E ks k

  news : (ks : List Call) (k : Call) → Items (Now ks k)
  news ks (to_server j from f out to) = record {
    list = map write_item (server_effect Z (run Z ks) j from f out to).accepted;
    sound = λ y m. let (x, u, e) = Memᴰ.of_map write_item (server_effect Z (run Z ks) j from f out to).accepted m in
        rw (← e) (by_accept j (length ks) x (refl, (refl, u)));
    reads = λ c q p x u. absurd u.1.0;
    accepts = λ i p x u. Memᴰ.map write_item u.1.1;
  }
  news ks (to_client d from f lent result out to) = go (client_effect Z (run Z ks) d from f lent result out to).event refl
    where
      go : (o : C.Event) → (client_effect Z (run Z ks) d from f lent result out to).event ≡ o → Items (Now ks (to_client d from f lent result out to))
      go C.nothing e = record {
        list = [];
        sound = λ y m. absurd (Memᴰ.not-nil m);
        reads = λ c q p x u. impossible (cc (u.1.0.2, e));
        accepts = λ i p x u. absurd u.1;
      }
      go C.written e = record {
        list = [];
        sound = λ y m. absurd (Memᴰ.not-nil m);
        reads = λ c q p x u. impossible (cc (u.1.0.2, e));
        accepts = λ i p x u. absurd u.1;
      }
      go C.out_of_stamps e = record {
        list = [];
        sound = λ y m. absurd (Memᴰ.not-nil m);
        reads = λ c q p x u. impossible (cc (u.1.0.2, e));
        accepts = λ i p x u. absurd u.1;
      }
      go (C.stopped y) e = by y.bytes refl
        where
          by : (o : Option (List ℕ)) → y.bytes ≡ o → Items (Now ks (to_client d from f lent result out to))
          by none b = record {
            list = [];
            sound = λ y m. absurd (Memᴰ.not-nil m);
            reads = λ c q p x u.
                let h : x ≡ y = cc (u.1.0.2, e) in
                impossible (cc (sym u.1.1.1 ∙ ap (λ z. z.bytes) h ∙ b));
            accepts = λ i p x u. absurd u.1;
          }
          by (some v) b = record {
            list = read_item d ((run Z ks).clients d).client.reads y.stamp (length ks) ∷ [];
            sound = λ z m. rw (Memᴰ.eq_of_singleton m) (by_read d ((run Z ks).clients d).client.reads (length ks) y (refl, ((refl, refl, e), (v, b))));
            reads = λ c q p x u.
                let h : x ≡ y = cc (u.1.0.2, e) in
                Memᴰ.head (λ a. read_item (u.1.0.0 a) (sym u.1.0.1 a) (h a).stamp (u.0 a));
            accepts = λ i p x u. absurd u.1;
          }
  news ks (begin_read d out to) = record {
    list = [];
    sound = λ y m. absurd (Memᴰ.not-nil m);
    reads = λ c q p x u. absurd u.1.0;
    accepts = λ i p x u. absurd u.1;
  }
  news ks (begin_write d v out to) = record {
    list = [];
    sound = λ y m. absurd (Memᴰ.not-nil m);
    reads = λ c q p x u. absurd u.1.0;
    accepts = λ i p x u. absurd u.1;
  }

  abbrev pub In : List Call → (E : Event) → ℕ → Type 0
  In ks E p = At E ks p

  here : (ks : List Call) (k : Call) (y : Item) → Cause (Now ks k) y → Cause (In (k ∷ ks)) y
  here ks k y (by_read c q e x u) = by_read c q e x (inl u)
  here ks k y (by_accept i e x u) = by_accept i e x (inl u)

  there : (ks : List Call) (k : Call) (y : Item) → Cause (In ks) y → Cause (In (k ∷ ks)) y
  there ks k y (by_read c q e x u) = by_read c q e x (inr u)
  there ks k y (by_accept i e x u) = by_accept i e x (inr u)

  pub items : (ks : List Call) → Items (In ks)
  items [] = record {
    list = [];
    sound = λ y m. absurd (Memᴰ.not-nil m);
    reads = λ c q p x u. absurd u;
    accepts = λ i p x u. absurd u;
  }
  items (k ∷ ks) = go (news ks k) (items ks)
    where
      go : Items (Now ks k) → Items (In ks) → Items (In (k ∷ ks))
      go a b = record {
        list = a.list ++ b.list;
        sound = λ y m. ⊎_elim (λ u. here ks k y (a.sound y u)) (λ u. there ks k y (b.sound y u)) (Memᴰ.append_cases a.list m);
        reads = λ c q e x u. ⊎_elim (λ v. Memᴰ.append_left b.list (a.reads c q e x v)) (λ v. Memᴰ.append_right a.list (b.reads c q e x v)) u;
        accepts = λ i e x u. ⊎_elim (λ v. Memᴰ.append_left b.list (a.accepts i e x v)) (λ v. Memᴰ.append_right a.list (b.accepts i e x v)) u;
      }
