-- The operations of a run are in one row, by the facts of Known.antt. Assumes nothing.
use Prim.Native.Nat.{ℕ, ◌<◌}
use native.Mathlib.Omega.{arith}
use mathlib.Core.Bool.{Bool, true, false}
use mathlib.Core.Path.{◌≡◌, refl, ap, sym, ◌∙◌}
use mathlib.Core.Logic.{◌⊎◌, inl, inr, ⊎_elim}
use mathlib.Core.List.Memᴰ
use mathlib.Core.List.{List, [], ◌∷◌, ◌++◌, Memᴰ}
use Rattle.quorum.proofs.Logic.{impossible}
use Rattle.frame.specs.declared.Stamp.{Stamp}
use Rattle.frame.specs.Stamps.{zero_stamp}
use Rattle.frame.proofs.StampOrder.{Less, AtMost, less_of, older_of, less_not, at_most_of, at_most_trans, at_most_back, at_most_both, zero_least}
use Rattle.server_rules.specs.Steps.{stamp_of}
use Rattle.client_rules.specs.Rows.{Found}
use Rattle.runs.specs.Blocks.{Collision}
use Rattle.runs.specs.Demand.{Operation, Stands, SameOperation, last_of, BearsLast, NoWrite, Happened}
use Rattle.runs.specs.Demand.{Begins, Ends, InOrder, by_stamp, write_first, as_ended, Values, Demand3}
use Rattle.runs.specs.Events.{At, StopsRead, CompletesRead, EndsWrite, OpensRead, OpensWrite}
use Rattle.runs.specs.World.{Setup, Call, to_server, to_client, begin_read, begin_write}
use Rattle.runs.proofs.Listing.{read_item, write_item, Cause, by_read, by_accept, In, items}
use Rattle.runs.proofs.Sorting.{Item, Mem, Before, Alike, before_trans, Sorted, Put, sort, ops, in_ops, of_ops, stands_of, orders}
use Rattle.runs.proofs.Known.{Known}
use Rattle.runs.proofs.Places.{at_both, stops}

at_most_before : (x y : Item) → Before x y → AtMost x.op.stamp y.op.stamp
at_most_before x y (inl h) = inr h
at_most_before x y (inr h) = inl h.0

-- ---- reads bear the stamp of the last write

-- every read's stamp is zero or that of a write in the row
abbrev FromWrites : List Item → Item → Type 0
FromWrites row o = o.op.reading ≡ true → (o.op.stamp ≡ zero_stamp) ⊎ ((w : Item) × Mem w row × (w.op.reading ≡ false) × (w.op.stamp ≡ o.op.stamp))

record Walk (row : List Item) (s : Stamp) (l : List Item) : Type 0 where
  pub passed : (w : Item) → Mem w row → w.op.reading ≡ false → AtMost w.op.stamp s ⊎ Mem w l
  pub above : (x : Item) → Mem x l → AtMost s x.op.stamp
  pub from : (x : Item) → Mem x l → FromWrites row x

not_behind : (o w : Item) → Before o w → o.op.reading ≡ true → w.op.reading ≡ false → w.op.stamp ≡ o.op.stamp → ⊥
not_behind o w (inl h) ro rw' e = less_not _ _ (sym e) h
not_behind o w (inr (f, inl (p, q))) ro rw' e = impossible (cc (p, ro))
not_behind o w (inr (f, inr (p, q, h))) ro rw' e = impossible (cc (q, rw'))

bears_head : (row : List Item) (s : Stamp) (o : Item) (l : List Item) → Sorted (o ∷ l) → Walk row s (o ∷ l) → o.op.reading ≡ true → o.op.stamp ≡ s
bears_head row s o l S W r = ⊎_elim
    (λ e. at_most_both _ _ (rw e (zero_least s)) (W.above o (Memᴰ.head refl)))
    (λ z.
    let (w, m, rw', e) = z in
    ⊎_elim
    (λ h. at_most_both _ _ (rw (sym e) h) (W.above o (Memᴰ.head refl)))
    (λ u. ⊎_elim
    (λ f. impossible (cc (ap (λ x. x.op.reading) f, r, rw')))
    (λ v. absurd (not_behind o w (S.0 w v) r rw' e))
    (Memᴰ.cases_cons u))
    (W.passed w m rw'))
    (W.from o (Memᴰ.head refl) r)

walk_next : (row : List Item) (s : Stamp) (o : Item) (l : List Item) → Sorted (o ∷ l) → Walk row s (o ∷ l) → (b : Bool) → o.op.reading ≡ b
    → Walk row (last_of b o.op.stamp s) l
walk_next row s o l S W true r = record {
  passed = λ w m rw'. ⊎_elim
      (λ h. inl h)
      (λ u. ⊎_elim (λ f. impossible (cc (ap (λ x. x.op.reading) f, r, rw'))) (λ v. inr v) (Memᴰ.cases_cons u))
      (W.passed w m rw');
  above = λ x m. W.above x (Memᴰ.tail m);
  from = λ x m. W.from x (Memᴰ.tail m);
}
walk_next row s o l S W false r = record {
  passed = λ w m rw'. ⊎_elim
      (λ h. inl (at_most_trans _ _ _ h (W.above o (Memᴰ.head refl))))
      (λ u. ⊎_elim (λ f. inl (inl (ap (λ x. x.op.stamp) f))) (λ v. inr v) (Memᴰ.cases_cons u))
      (W.passed w m rw');
  above = λ x m. at_most_before o x (S.0 x m);
  from = λ x m. W.from x (Memᴰ.tail m);
}

bears_walk : (row : List Item) (s : Stamp) (l : List Item) → Sorted l → Walk row s l → BearsLast s (ops l)
bears_walk row s [] S W = tt
bears_walk row s (o ∷ l) S W =
    (bears_head row s o l S W, bears_walk row (last_of o.op.reading o.op.stamp s) l S.1 (walk_next row s o l S W o.op.reading refl))

-- ---- between two reads

bears_behind : (s : Stamp) (xs l : List Operation) → BearsLast s (xs ++ l) → (s' : Stamp) × BearsLast s' l
bears_behind s [] l b = (s, b)
bears_behind s (o ∷ xs) l b = bears_behind _ xs l b.1

bears_next : (s : Stamp) (o : Operation) (l : List Operation) → o.reading ≡ true → BearsLast s (o ∷ l) → BearsLast s l
bears_next s o l e b = rw e at b.1

bears_through : (s : Stamp) (ys l : List Operation) → NoWrite ys → BearsLast s (ys ++ l) → BearsLast s l
bears_through s [] l h b = b
bears_through s (o ∷ ys) l h b =
    bears_through s ys l (λ p m. h p (Memᴰ.tail m))
    (bears_next s o (ys ++ l) (h o (Memᴰ.head refl)) b)

stands_behind : (xs l : List Operation) (a b : Operation) → Stands l a b → Stands (xs ++ l) a b
stands_behind [] l a b h = h
stands_behind (o ∷ xs) l a b h = inr (stands_behind xs l a b h)

stands_across : (ys l : List Operation) (a b : Operation) → Memᴰ a ys → Memᴰ b l → Stands (ys ++ l) a b
stands_across [] l a b m n = absurd (Memᴰ.not-nil m)
stands_across (o ∷ ys) l a b m n = ⊎_elim
    (λ e. inl (sym e, Memᴰ.append_right ys n))
    (λ u. inr (stands_across ys l a b u n))
    (Memᴰ.cases_cons m)

before_not : (x : Item) → Before x x → ⊥
before_not x (inl h) = less_not _ _ refl h
before_not x (inr (e, inl (p, q))) = impossible (cc (p, q))
before_not x (inr (e, inr (p, q, h))) = omega arith

-- a call closes one read at most
reads_one : (Z : Setup) (ls : List Call) (k : Call) (c q d r : ℕ) (x y : Found) → StopsRead Z c q x ls k → StopsRead Z d r y ls k → (c ≡ d) × (q ≡ r) × (x ≡ y)
reads_one Z ls (to_server j from f out to) c q d r x y u v = absurd u
reads_one Z ls (to_client j from f lent result out to) c q d r x y u v = (u.0 ∙ sym v.0, sym u.1 ∙ v.1, cc (u.2, v.2))
reads_one Z ls (begin_read j out to) c q d r x y u v = absurd u
reads_one Z ls (begin_write j w out to) c q d r x y u v = absurd u

module _ (Z : Setup) (ks : List Call) (K : Known Z ks) where
  abbrev Why : Item → Type 0
  Why x = Cause Z (In Z ks) x

  reads_at : (c q d r p p' : ℕ) (x y : Found) → At (CompletesRead Z c q x) ks p → At (CompletesRead Z d r y) ks p' → p ≡ p' → (c ≡ d) × (q ≡ r) × (x ≡ y)
  reads_at c q d r p p' x y u v e =
      let w = at_both (CompletesRead Z c q x) (CompletesRead Z d r y) ks p' (rw e at u) v in
      reads_one Z w.0 w.1 c q d r x y w.2.0 w.3.0

  one_op : (x y : Item) → Why x → Why y → Alike x y → x.op ≡ y.op
  one_op x y (by_read c q e f u) (by_read d r e' f' v) (a, inl (p, p')) = impossible (cc p)
  one_op x y (by_read c q e f u) (by_read d r e' f' v) (a, inr (p, p', h)) =
      let w = reads_at c q d r e e' f f' u v h in
      λ z. record { reading = true; client = w.0 z; sequence = w.1 z; stamp = a z }
  one_op x y (by_read c q e f u) (by_accept j e' k v) (a, inl (p, p')) = impossible (cc p)
  one_op x y (by_read c q e f u) (by_accept j e' k v) (a, inr (p, p', h)) = impossible (cc p')
  one_op x y (by_accept i e k u) (by_read d r e' f' v) (a, inl (p, p')) = impossible (cc p')
  one_op x y (by_accept i e k u) (by_read d r e' f' v) (a, inr (p, p', h)) = impossible (cc p)
  one_op x y (by_accept i e k u) (by_accept j e' l v) (a, h) =
      λ z. record { reading = false; client = (a z).writer; sequence = (a z).sequence; stamp = a z }

  no_twin : (x y : Item) → Why x → Why y → Before x y → SameOperation x.op y.op → ⊥
  no_twin x y (by_read c q e f u) (by_read d r e' f' v) b s =
      let h : e ≡ e' = K.read_once d r e e' f f' (stops Z ks d r e f (rw (s.client, s.sequence) at u)) (stops Z ks d r e' f' v) in
      let w = reads_at c q d r e e' f f' u v h in
      go h (ap (λ z. z.stamp) w.2) b
    where
      go : e ≡ e' → f.stamp ≡ f'.stamp → Before (read_item Z c q f.stamp e) (read_item Z d r f'.stamp e') → ⊥
      go h i (inl l) = less_not _ _ i l
      go h i (inr (a, inl (p, p'))) = impossible (cc p)
      go h i (inr (a, inr (p, p', l))) = omega (arith, l, h)
  no_twin x y (by_read c q e f u) (by_accept j e' k v) b s = impossible (cc s.reading)
  no_twin x y (by_accept i e k u) (by_read d r e' f' v) b s = impossible (cc s.reading)
  no_twin x y (by_accept i e k u) (by_accept j e' l v) b s =
      go (K.agree i j e e' k l u v s.client s.sequence).0 b
    where
      go : stamp_of k ≡ stamp_of l → Before (write_item Z k) (write_item Z l) → ⊥
      go h (inl z) = less_not _ _ h z
      go h (inr (a, inl (p, p'))) = impossible (cc p')
      go h (inr (a, inr (p, p', z))) = impossible (cc p)

  ends_at : (x : Item) → Why x → x.op.reading ≡ true → (p : ℕ) → Ends Z ks x.op p → p ≡ x.end
  ends_at x (by_read c q e f u) r p (inl (z, y, v)) = K.read_once c q p e y f (stops Z ks c q p y v) (stops Z ks c q e f u)
  ends_at x (by_read c q e f u) r p (inr (z, v)) = impossible (cc z)
  ends_at x (by_accept i e k u) r p h = impossible (cc r)

  in_order_lem : (x y : Item) → Why x → Why y → Before x y → InOrder Z ks x.op y.op
  in_order_lem x y a b (inl h) = by_stamp (older_of _ _ h)
  in_order_lem x y a b (inr (e, inl (p, q))) = write_first e p q
  in_order_lem x y a b (inr (e, inr (p, q, h))) = as_ended e p q (λ i j u v. omega (arith, ends_at x a p i u, ends_at y b q j v, h))

  end_read : (o : Operation) → o.reading ≡ true → (p : ℕ) → Ends Z ks o p → (x : Found) × At (CompletesRead Z o.client o.sequence x) ks p
  end_read o r p (inl h) = (h.1, h.2)
  end_read o r p (inr h) = impossible (cc (r, h.0))

  end_write : (o : Operation) → o.reading ≡ false → (p : ℕ) → Ends Z ks o p → At (EndsWrite Z o.client o.sequence) ks p
  end_write o r p (inl h) = impossible (cc (r, h.0))
  end_write o r p (inr h) = h.1

  begin_read_lem : (o : Operation) → o.reading ≡ true → (p : ℕ) → Begins Z ks o p → At (OpensRead Z o.client o.sequence) ks p
  begin_read_lem o r p (inl h) = h.1
  begin_read_lem o r p (inr h) = impossible (cc (r, h.0))

  begin_write_lem : (o : Operation) → o.reading ≡ false → (p : ℕ) → Begins Z ks o p → (v : List ℕ) × At (OpensWrite Z o.client o.sequence v) ks p
  begin_write_lem o r p (inl h) = impossible (cc (r, h.0))
  begin_write_lem o r p (inr h) = (h.1, h.2)

  in_time_of : (x y : Item) → Why x → Why y → (p q : ℕ) → Ends Z ks x.op p → Begins Z ks y.op q → p < q → Before x y
  in_time_of x y (by_read c q e f u) (by_read d r e' f' v) p p' s t l =
      let (f'', w) = end_read (read_item Z c q f.stamp e).op refl p s in
      let w' = begin_read_lem (read_item Z d r f'.stamp e').op refl p' t in
      let h : p ≡ e = K.read_once c q p e f'' f (stops Z ks c q p f'' w) (stops Z ks c q e f u) in
      let k : e < p' = omega (arith, h, l) in
      let m : e < e' = omega (arith, k, K.read_after d r p' e' f' w' (stops Z ks d r e' f' v)) in
      ⊎_elim (λ s. inr (s, inr (refl, refl, m))) (λ s. inl s)
      (at_most_of _ _ (K.read_read c q e f d r p' e' f' (stops Z ks c q e f u) w' k (stops Z ks d r e' f' v)))
  in_time_of x y (by_read c q e f u) (by_accept j e' k v) p p' s t l =
      let (f'', w) = end_read (read_item Z c q f.stamp e).op refl p s in
      let (val, w') = begin_write_lem (write_item Z k).op refl p' t in
      let h : p ≡ e = K.read_once c q p e f'' f (stops Z ks c q p f'' w) (stops Z ks c q e f u) in
      inl (less_of _ _ (K.read_write c q e f k.client k.sequence p' j e' val k (stops Z ks c q e f u) w' (omega (arith, h, l)) v refl refl))
  in_time_of x y (by_accept i e k u) (by_read d r e' f' v) p p' s t l =
      ⊎_elim (λ s. inr (s, inl (refl, refl))) (λ s. inl s)
      (at_most_of _ _
      (K.write_read k.client k.sequence p i e k d r p' e' f' (end_write (write_item Z k).op refl p s) u refl refl
      (begin_read_lem (read_item Z d r f'.stamp e').op refl p' t) l (stops Z ks d r e' f' v)))
  in_time_of x y (by_accept i e k u) (by_accept j e' k' v) p p' s t l =
      let (val, w') = begin_write_lem (write_item Z k').op refl p' t in
      inl (less_of _ _
      (K.write_write k.client k.sequence p i e k k'.client k'.sequence p' j e' val k'
      (end_write (write_item Z k).op refl p s) u refl refl w' l v refl refl))

  -- ---- the row

  abbrev made : Put (items Z ks).list
  made = sort (items Z ks).list

  abbrev line : List Item
  line = made.row

  why : (x : Item) → Mem x line → Why x
  why x m = (items Z ks).sound x (made.sound x m)

  happened : (x : Item) → Why x → Happened Z ks x.op
  happened x (by_read c q e f u) = inl (refl, (f, e, u, refl))
  happened x (by_accept i e k u) = inr (refl, (i, k, e, u, refl, refl, refl))

  listed : (x : Item) → Mem x (items Z ks).list → Memᴰ x.op (ops line)
  listed x m =
      let (y, n, a) = made.whole x m in
      rw (one_op x y ((items Z ks).sound x m) (why y n) a) (in_ops line y n)

  all : (o : Operation) → Happened Z ks o → Memᴰ o (ops line)
  all o (inl (r, (x, p, u, e))) =
      let h : o ≡ (read_item Z o.client o.sequence x.stamp p).op =
      λ z. record { reading = r z; client = o.client; sequence = o.sequence; stamp = sym e z } in
      rw h (listed (read_item Z o.client o.sequence x.stamp p) ((items Z ks).reads o.client o.sequence p x u))
  all o (inr (r, (i, x, p, u, ec, eq, e))) =
      let h : o ≡ (write_item Z x).op = λ z. record { reading = r z; client = sym ec z; sequence = sym eq z; stamp = sym e z } in
      rw h (listed (write_item Z x) ((items Z ks).accepts i p x u))

  from_writes : (x : Item) → Why x → FromWrites line x
  from_writes x (by_read c q e f u) r = ⊎_elim
      (λ z. inl z.0)
      (λ z.
      let (i, p, y, v, s, g) = z in
      let (w, m, a) = made.whole (write_item Z y) ((items Z ks).accepts i p y v) in
      inr (w, m, sym (ap (λ o. o.reading) (one_op (write_item Z y) w (by_accept i p y v) (why w m) a)), sym a.0 ∙ s))
      (K.read_from c q e f (stops Z ks c q e f u))
  from_writes x (by_accept i e k u) r = impossible (cc r)

  bears : BearsLast zero_stamp (ops line)
  bears = bears_walk line zero_stamp line made.sorted (record {
    passed = λ w m r. inr m;
    above = λ x m. zero_least x.op.stamp;
    from = λ x m. from_writes x (why x m);
  })

  ordered : (a b : Operation) → Stands (ops line) a b → InOrder Z ks a b
  ordered a b h =
      let (x, y, mx, my, ex, ey, k) = stands_of line made.sorted a b h in
      rw (ex, ey) at (in_order_lem x y (why x mx) (why y my) k)

  once : (a b : Operation) → Stands (ops line) a b → SameOperation a b → ⊥
  once a b h s =
      let (x, y, mx, my, ex, ey, k) = stands_of line made.sorted a b h in
      no_twin x y (why x mx) (why y my) k (rw (ex, ey) s)

  in_time : (a b : Operation) (p q : ℕ) → Memᴰ a (ops line) → Memᴰ b (ops line) → Ends Z ks a p → Begins Z ks b q → p < q → Stands (ops line) a b
  in_time a b p q ma mb e t l =
      let (x, mx, ex) = of_ops line a ma in
      let (y, my, ey) = of_ops line b mb in
      let h : Before x y = in_time_of x y (why x mx) (why y my) p q (rw ex e) (rw ey t) l in
      rw (ex, ey) at (⊎_elim
      (λ z. absurd (before_not y (rw z at h)))
      (⊎_elim (λ z. z) (λ z. absurd (before_not x (before_trans x y x h z))))
      (orders line made.sorted x y mx my))

  -- a write between two reads has a later stamp than the first
  later : (a o : Operation) → a.reading ≡ true → o.reading ≡ false → InOrder Z ks a o → Less a.stamp o.stamp
  later a o ra ro (by_stamp h) = less_of _ _ h
  later a o ra ro (write_first e p q) = impossible (cc (ra, p))
  later a o ra ro (as_ended e p q h) = impossible (cc (ro, q))

  up : (a b : Operation) → InOrder Z ks a b → AtMost a.stamp b.stamp
  up a b (by_stamp h) = inr (less_of _ _ h)
  up a b (write_first e p q) = inl e
  up a b (as_ended e p q h) = inl e

  no_write : (xs ys zs : List Operation) (a b : Operation) → ops line ≡ xs ++ (a ∷ (ys ++ (b ∷ zs))) → a.reading ≡ true → a.stamp ≡ b.stamp → NoWrite ys
  no_write xs ys zs a b e ra es o m = go o.reading refl
    where
      go : (z : Bool) → o.reading ≡ z → o.reading ≡ true
      go true r = r
      go false r =
          let l = later a o ra r (ordered a o (rw e (stands_behind xs _ a o (inl (refl, Memᴰ.append_left (b ∷ zs) m))))) in
          let k = up o b (ordered o b (rw e (stands_behind xs _ o b (inr (stands_across ys (b ∷ zs) o b m (Memᴰ.head refl)))))) in
          absurd (at_most_back _ _ k (rw (sym es) l))

  same_stamp_lem : (xs ys zs : List Operation) (a b : Operation) → ops line ≡ xs ++ (a ∷ (ys ++ (b ∷ zs))) → a.reading ≡ true → b.reading ≡ true → NoWrite ys
      → a.stamp ≡ b.stamp
  same_stamp_lem xs ys zs a b e ra rb n =
      let (s, h) = bears_behind zero_stamp xs (a ∷ (ys ++ (b ∷ zs))) (rw e at bears) in
      h.0 ra ∙ sym ((bears_through s ys (b ∷ zs) n (bears_next s a (ys ++ (b ∷ zs)) ra h)).0 rb)

  begun : (x : Item) → Why x → Z.faulty_client x.op.client ≡ false → (p : ℕ) × Begins Z ks x.op p
  begun x (by_read c q e f u) h = let w = K.read_begun_lem c q e f (stops Z ks c q e f u) in (w.0, inl (refl, w.1))
  begun x (by_accept i e k u) h = let w = K.write_begun_lem i e k u h in (w.0, inr (refl, w.1, w.2))

  -- All of demand 3 but the values.
  pub one_row : Values Z ks ⊎ Collision Z ks → Demand3 Z ks
  one_row v = record {
    row = ops line;
    once = once;
    listed = λ o m. let (x, n, e) = of_ops line o m in rw e at (happened x (why x n));
    all = all;
    begun = λ o m h. let (x, n, e) = of_ops line o m in rw e at (begun x (why x n) (rw e h));
    sorted = ordered;
    bears = bears;
    between = λ xs ys zs a b e ra rb. (no_write xs ys zs a b e ra, same_stamp_lem xs ys zs a b e ra rb);
    in_time = in_time;
    ended = λ c q p u.
        let (i, p', x, w, ec, eq) = K.wrote_accepted c q p u in
        ((write_item Z x).op, listed (write_item Z x) ((items Z ks).accepts i p' x w), refl, ec, eq);
    one_stamp = λ i j p q x y u w ec eq. (K.agree i j p q x y u w ec eq).0;
    values = v;
  }
