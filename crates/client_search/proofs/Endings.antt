-- The end of a read: the decoding's needs, what the search tells, and the whole outcome. Assumes nothing.
use Prim.Native.Nat.{ℕ, ◌+◌, ◌≤◌}
use native.Mathlib.Omega.{arith}
use mathlib.Core.Bool.{Bool, true, false, not}
use mathlib.Core.Path.{◌≡◌, refl, ap, ap₂, sym, ◌∙◌}
use mathlib.Core.Option.{Option, none, some}
use mathlib.Core.List.{List}
use lib.ListN.{length}
use lib.Seq.{sets}
use borrow.Author.Tests.{leb-true, not-true, not-false}
use Rattle.area.specs.Area.{pick}
use Rattle.quorum.specs.Quorum.{count}
use Rattle.area.specs.Responses.{gives}
use Rattle.blocks.specs.declared.Params.{Params}
use Rattle.sha256.specs.Hash.{digest_of}
use Rattle.frame.specs.declared.Stamp.{Stamp}
use Rattle.frame.specs.declared.Place.{Place}
use Rattle.frame.specs.Params.{largest_frame}
use Rattle.frame.specs.Messages.{Entry, message, read_complete, to_all}
use Rattle.frame.specs.Chunks.{entry_at, place_at}
use Rattle.group_rules.specs.Coded.{has_list, lowest_value, agreeing, decoded}
use Rattle.frame.specs.Outbox.{frames, receivers, Outbox, outbox, first_place, sent, Room}
use Rattle.group.specs.Entries.{marked, Within}
use Rattle.group.specs.Choice.{value_from, all_of}
use Rattle.group.specs.Needs.{Decoding, Valued}
use Rattle.group.proofs.Regaining.{length_value}
use Rattle.group.proofs.Matched.{decoded_by}
use Rattle.client_rules.specs.declared.Row.{Row}
use Rattle.client_rules.specs.declared.Client.{Client}
use Rattle.client_rules.specs.declared.Answer.{Answer}
use Rattle.client_rules.specs.declared.Answer.TheVariants as Y
use Rattle.client_rules.specs.declared.Phase.TheVariants as F
use Rattle.client_rules.specs.State.{in_phase}
use Rattle.client_rules.specs.Rows.{at_stamp, row_view, rows_from, agreed, first_agreed, found_of, found_by, search}
use Rattle.client_rules.specs.Steps.{complete_by, settle}
use Rattle.client_rules.proofs.Agreed.{first_agreed_lem}
use Rattle.client.specs.Stages.{Lent, stepped}
use Rattle.frame.proofs.Rooms.{room_within}
use Rattle.client_rules.specs.Answers.{goes_on, answer_response}
use Rattle.client_rules.specs.Delivery.{Outcome, read_progress, read_result, progress_by, result_of}
use Rattle.client_search.specs.declared.Hits.{Hits}
use Rattle.std.specs.Prelude as P
use Rattle.client_search.specs.AtStamp.{hits_of}
use Rattle.client_search.specs.Search.{view, holders_of, kept_at, standing, Inside, Searching, Regaining, Finishing}
use Rattle.client_search.proofs.Firsts.{hits_within}
use Rattle.client_search.proofs.Searches.{holders_count, holders_value, holders_all}

-- ---- decoding

module _ (g : Params) (rows : List Row) (a : List ℕ) (x : Stamp) (p result : ℕ) (q : Regaining g rows a x p result)
    (h k : Hits) (e : h ≡ hits_of rows x) (u : k ≡ holders_of g a h p) where
  all : k ≡ holders_of g a (hits_of rows x) p
  all = u ∙ ap (λ z. holders_of g a z p) e

  -- n - t rows have the value, and k is at most that
  enough : g.k ≤ count (marked k.on) g.n
  unfolding agreed
  enough =
      let c : count (marked k.on) g.n ≡ count (λ j. has_list (at_stamp (view g rows a j) x) (entry_at g a p).digests) g.n =
      ap (λ (z : Hits). count (marked z.on) g.n) all ∙ holders_count g rows a x p q.searching in
      let l : g.n ≤ count (λ j. has_list (at_stamp (view g rows a j) x) (entry_at g a p).digests) g.n + g.t = leb-true _ _ q.held in
      omega (arith, c, l, q.searching.bounded.blocks_high)

  within : Within k.at a
  unfolding holders_of
  within = rw all (hits_within rows x a q.searching.whole)

  pub regaining : (out : ℕ) → out ≡ g.size → Decoding g k.on k.at a out
  regaining out o = record {
    bounded = q.searching.bounded;
    within = within;
    enough = enough;
    whole = o;
  }

  -- what the k lowest give
  module _ (l : List ℕ) (l-is : l ≡ value_from g k.on k.at a) where
    abbrev at_row : ℕ → Option Entry
    at_row j = at_stamp (view g rows a j) x

    pub value_length : length l ≡ g.size
    value_length = ap length l-is ∙ length_value g k.on k.at a g.size (regaining g.size refl)

    pub valued : Valued g l × Within k.at a
    valued = (record { bounded = q.searching.bounded; whole = value_length }, within)

    lowest_is : l ≡ lowest_value g at_row (entry_at g a p).digests
    lowest_is = l-is ∙ ap (λ (z : Hits). value_from g z.on z.at a) all ∙ holders_value g rows a x p q.searching

    module _ (r : Bool) (r-is : r ≡ all_of g k.on k.at a l) where
      agree_is : r ≡ agreeing g at_row (entry_at g a p).digests
      agree_is =
          r-is ∙ ap (all_of g k.on k.at a) l-is
          ∙ ap (λ (z : Hits). all_of g z.on z.at a (value_from g z.on z.at a)) all ∙ holders_all g rows a x p q.searching

      decoded_is : (b : Bool) → r ≡ b → decoded g at_row (entry_at g a p).digests ≡ pick b (some l) none
      decoded_is b e =
          decoded_by g at_row (entry_at g a p).digests
          ∙ ap₂ (λ (t : Bool) (w : List ℕ). pick t (some w) none) (sym agree_is ∙ e) (sym lowest_is)

      pub disagreed : (o : List ℕ) → not r ≡ true
          → (false ≡ agreeing g at_row (entry_at g a p).digests) × (o ≡ read_result (decoded g at_row (entry_at g a p).digests) o)
      unfolding pick
      disagreed o t =
          let e : r ≡ false = not-true r t in
          (sym e ∙ agree_is, sym (ap (λ (z : Option (List ℕ)). read_result z o) (decoded_is false e)))

      pub unanimous : (o o' : List ℕ) → not r ≡ false → o' ≡ sets o 0 l
          → (true ≡ agreeing g at_row (entry_at g a p).digests) × (o' ≡ read_result (decoded g at_row (entry_at g a p).digests) o)
      unfolding pick
      unanimous o o' t d =
          let e : r ≡ true = not-false r t in
          (sym e ∙ agree_is, d ∙ sym (ap (λ (z : Option (List ℕ)). read_result z o) (decoded_is true e)))

-- ---- what the search tells

module _ (g : Params) (rows : List Row) (a : List ℕ) (result out to : ℕ) (lent : Lent g (length a) result out to) where
  pub searching : Searching g (length a)
  searching = record { bounded = lent.bounded; whole = lent.whole }

  ask_room : Room first_place g.n 9 out to
  unfolding largest_frame
  ask_room =
      let l : 9 ≤ largest_frame g = omega arith in
      room_within first_place g.n g.n (largest_frame g) 9 out to (omega arith) l lent.room

  pub finishing : (s : P.Option (ℕ × ℕ)) (j i : ℕ) → s ≡ P.Some (j, i)
      → (standing g rows a s ≡ first_agreed g (view g rows a) (rows_from (view g rows a) 1 g.n)) × Inside s
      → Finishing g rows a j i result out to
  finishing s j i e q =
      let w = rw e at q in
      record {
        searching = searching;
        server_low = w.1.0;
        server_high = w.1.1;
        place = w.1.2;
        held = first_agreed_lem digest_of g (view g rows a) (rows_from (view g rows a) 1 g.n) (kept_at g rows a j i) (sym w.0);
        value_room = lent.value_room;
        room = ask_room;
      }

-- ---- the outcome

answer_by_lem : (b : Bool) (x : Stamp) (v : List ℕ) → answer_response (pick b (Y.Value x) Y.Disagreement) ≡ gives (read_progress x (pick b (some v) none))
unfolding pick
answer_by_lem true x v = refl
answer_by_lem false x v = refl

module _ (g : Params) (me : ℕ) (s : Client) (a result out to : List ℕ) where
  pub finish_law : (j i : ℕ) (r o t : List ℕ) (q : Place) (b : Bool) (y : Answer) (s' : Client)
      → b ≡ agreeing g (λ m. at_stamp (view g s.rows a m) (kept_at g s.rows a j i).stamp) (entry_at g a (place_at j i)).digests
      → r ≡ read_result (decoded g (λ m. at_stamp (view g s.rows a m) (kept_at g s.rows a j i).stamp) (entry_at g a (place_at j i)).digests) result
      → y ≡ pick b (Y.Value (kept_at g s.rows a j i).stamp) Y.Disagreement
      → outbox o t q ≡ sent (outbox out to first_place) (to_all g (λ m. message me s.reads read_complete))
      → s' ≡ in_phase s F.Idle s.heard s.times
      → ◌≡◌ {A = Outcome}
      (record {
        answer = answer_response y;
        client = s';
        area = a;
        result = r;
        out = o;
        to = t;
      })
      (stepped (complete_by digest_of g me (some (found_of g (view g s.rows a) (kept_at g s.rows a j i))) s a) result out to)
  unfolding stepped complete_by found_of progress_by result_of sent
  finish_law j i r o t q b y s' p d n e c =
      let f : ℕ → Option Entry = λ m. at_stamp (view g s.rows a m) (kept_at g s.rows a j i).stamp in
      let h = ap answer_response (n ∙ ap (λ (c : Bool). pick c (Y.Value (kept_at g s.rows a j i).stamp) Y.Disagreement) p)
      ∙ answer_by_lem (agreeing g f (entry_at g a (place_at j i)).digests) (kept_at g s.rows a j i).stamp (lowest_value g f (entry_at g a (place_at j i)).digests)
      ∙ sym (ap (λ o. gives (read_progress (kept_at g s.rows a j i).stamp o)) (decoded_by g f (entry_at g a (place_at j i)).digests)) in
      let u : o ≡ sets out 0 (frames (to_all g (λ m. message me s.reads read_complete))) = ap (λ (b : Outbox). b.out) e in
      let w : t ≡ sets to 0 (receivers (to_all g (λ m. message me s.reads read_complete))) = ap (λ (b : Outbox). b.to) e in
      λ z. record {
        answer = h z;
        client = c z;
        area = a;
        result = d z;
        out = u z;
        to = w z;
      }

  module _ (p : P.Option (ℕ × ℕ))
      (q : (standing g s.rows a p ≡ first_agreed g (view g s.rows a) (rows_from (view g s.rows a) 1 g.n)) × Inside p) where
    -- the step, by where the search stopped
    stopped : (y : P.Option (ℕ × ℕ)) → p ≡ y → settle digest_of g me s a ≡ complete_by digest_of g me (found_by g (view g s.rows a) (standing g s.rows a y)) s a
    unfolding settle search row_view
    stopped y e = ap (λ o. complete_by digest_of g me (found_by g (view g s.rows a) o) s a) (sym q.0 ∙ ap (standing g s.rows a) e)

    -- nothing is found
    pub settle_none : p ≡ P.None
        → ◌≡◌ {A = Outcome}
        (record { answer = gives (goes_on 0); client = s; area = a; result = result; out = out; to = to })
        (stepped (settle digest_of g me s a) result out to)
    unfolding stepped complete_by found_by progress_by result_of frames receivers
    settle_none e = sym (ap (λ x. stepped x result out to) (stopped P.None e))

    -- the read ends
    pub settle_some : (j i : ℕ) (b : Outcome) → p ≡ P.Some (j, i)
        → b ≡ stepped (complete_by digest_of g me (some (found_of g (view g s.rows a) (kept_at g s.rows a j i))) s a) result out to
        → b ≡ stepped (settle digest_of g me s a) result out to
    unfolding found_by
    settle_some j i b e d = d ∙ sym (ap (λ x. stepped x result out to) (stopped (P.Some (j, i)) e))
