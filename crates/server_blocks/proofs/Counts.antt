-- What the specification of a server says of a write, by flags and counts. Assumes nothing.
use Prim.Native.Nat.{ℕ, ◌+◌, ◌-◌, ◌≤◌, ◌<◌}
use native.Mathlib.Omega.{arith}
use mathlib.Core.Path.{◌≡◌, ap, ap₂, sym, ◌∙◌, subst}
use mathlib.Core.Bool.{Bool, true, false, not, ◌&&◌, ◌||◌}
use mathlib.Core.Logic.{◌⊎◌, inl, inr}
use mathlib.Core.Option.{Option}
use mathlib.Core.List.{List}
use lib.ListN.{length, get_or}
use lib.Dec.{leb}
use borrow.Author.Tests.{leb-true, le-leb, lt-leb}
use Rattle.area.specs.Area.{pick, same}
use Rattle.quorum.specs.Quorum.{count}
use Rattle.quorum.proofs.Counting.{count_le}
use Rattle.quorum.proofs.Logic.{and_split, or_split}
use Rattle.blocks.specs.declared.Params.{Params}
use Rattle.frame.specs.declared.Place.{Place}
use Rattle.frame.specs.Params.{Bounded, quota}
use Rattle.frame.specs.Messages.{Entry, entry, Offer, offer}
use Rattle.frame.specs.Chunks.{chunk_bytes, chunk_at, entry_at, echoes_from, readies_from}
use Rattle.group_rules.specs.Coded.{has_list, digests_of, lowest_value, agreeing}
use Rattle.group.specs.Entries.{marked, timed, entries, sent_list, flags, places_from}
use Rattle.group.specs.Choice.{value_from, all_of}
use Rattle.group.specs.Needs.{Comparing}
use Rattle.group.proofs.Matched.{marked_timed, place_law, entry_law, matched_count, matched_value, matched_all, within_places}
use Rattle.server_rules.specs.declared.BlockPart.{BlockPart}
use Rattle.server_rules.specs.declared.Slot.{Slot}
use Rattle.server_rules.specs.Broadcast.{kept, votes, enough, due, full}
use Rattle.server_rules.specs.State.{block_view}
use Rattle.server.specs.Stages.{Lent}
use Rattle.server_rules.specs.Rules.{entry_by, at_time, chosen, regained, regained_of, unanimous, unanimous_of, block_rules}
use Rattle.server_rules.proofs.AtTime.{by_flag, votes_are}
use Rattle.server_blocks.specs.declared.Voters.{Voters}
use Rattle.server_blocks.specs.declared.Group.{Group}
use Rattle.server_blocks.specs.declared.Due.{Due}
use Rattle.server_blocks.specs.Votes.{enough_by, matters_by, due_by, full_by, voters_of, due_for}
use Rattle.server_blocks.specs.Group.{group_of, group_value, group_equal, Stored, Regaining}

-- q is at most n
pub quota_small : (g : Params) → Bounded g → quota g ≤ 10
unfolding quota
quota_small g B = omega (arith, B.servers_high, B.faults_high, B.faults_low, B.blocks_high)

-- ---- entries

module _ (g : Params) (B : Bounded g) (a d : List ℕ) (T : ℕ) where
  -- what server j sent with the time T, kept with its flag and its time
  timed_agree : (on : List Bool) (ts : List ℕ) (p j : ℕ) → j ≤ g.n
      → entries g (timed on ts T) (places_from p) a j ≡ entry_by (kept (get_or on j false) (offer (get_or ts j 0) (entry_at g a (p + j)))) T
  unfolding marked
  timed_agree on ts p j h =
      let m : j ≤ 10 = omega (arith, h, B.servers_high) in
      entry_law g (timed on ts T) (places_from p) a d j (p + j) (place_law p j m)
      ∙ ap (λ (b : Bool). kept b (entry_at g a (p + j))) (marked_timed on ts T j m)
      ∙ sym (by_flag (get_or on j false) (get_or ts j 0) T (entry_at g a (p + j)))

  module _ (c : ℕ) (x : Slot) where
    abbrev echoes : ℕ → Option Entry
    echoes = at_time (block_view g a c x).echoes T

    abbrev readies : ℕ → Option Entry
    readies = at_time (block_view g a c x).readies T

    echo_agree : (j : ℕ) → 1 ≤ j → j ≤ g.n → entries g (timed x.blocks.echoes x.blocks.echoed T) (places_from (echoes_from c)) a j ≡ echoes j
    unfolding block_view at_time
    echo_agree j l h = timed_agree x.blocks.echoes x.blocks.echoed (echoes_from c) j h

    ready_agree : (j : ℕ) → 1 ≤ j → j ≤ g.n → entries g (timed x.blocks.readies x.blocks.readied T) (places_from (readies_from c)) a j ≡ readies j
    unfolding block_view at_time
    ready_agree j l h = timed_agree x.blocks.readies x.blocks.readied (readies_from c) j h

-- what the flagged servers of a group hold is what f says
record Taken (g : Params) (a d : List ℕ) (r : Group) (f : ℕ → Option Entry) : Type 0 where
  pub value : value_from g r.on r.at a ≡ lowest_value g f d
  pub all : all_of g r.on r.at a (value_from g r.on r.at a) ≡ agreeing g f d

-- readies or echoes: their value, and whether all have its blocks
picked : (g : Params) (a d : List ℕ) (r e : Group) (f h : ℕ → Option Entry) → Taken g a d r f → Taken g a d e h → (t : Bool)
    → Taken g a d (pick t r e) (pick t f h)
unfolding pick
picked g a d r e f h p q true = p
picked g a d r e f h p q false = q

-- ---- what is due, by flags and numbers

module _ (H : List ℕ → List ℕ) (g : Params) (a d b : List ℕ) (T c : ℕ) (x : Slot) (S : Stored g c (length a)) where
  abbrev B : Bounded g
  B = S.bounded

  abbrev w : Voters
  w = voters_of g a c x.blocks T d

  abbrev o : Offer
  o = offer T (entry d b)

  echo_number : w.echoed ≡ count (λ j. has_list (echoes g B a d T c x j) d) g.n
  unfolding voters_of
  echo_number =
      matched_count g (timed x.blocks.echoes x.blocks.echoed T) (places_from (echoes_from c)) a d (echoes g B a d T c x) (echo_agree g B a d T c x)
      B.servers_high

  ready_number : w.readied ≡ count (λ j. has_list (readies g B a d T c x j) d) g.n
  unfolding voters_of
  ready_number =
      matched_count g (timed x.blocks.readies x.blocks.readied T) (places_from (readies_from c)) a d (readies g B a d T c x) (ready_agree g B a d T c x)
      B.servers_high

  echo_votes : votes (block_rules H g) g.n g.t (block_view g a c x).echoes o ≡ w.echoed
  echo_votes = votes_are H g (block_view g a c x).echoes o ∙ sym echo_number

  ready_votes : votes (block_rules H g) g.n g.t (block_view g a c x).readies o ≡ w.readied
  ready_votes = votes_are H g (block_view g a c x).readies o ∙ sym ready_number

  -- the chosen ones, by flags
  taken : Taken g a d (group_of g w c) (chosen g (echoes g B a d T c x) (readies g B a d T c x) d)
  unfolding chosen group_of voters_of
  taken =
      let es = echoes g B a d T c x in
      let rs = readies g B a d T c x in
      let re = timed x.blocks.readies x.blocks.readied T in
      let ec = timed x.blocks.echoes x.blocks.echoed T in
      let u = within_places (readies_from c) a (omega (arith, S.client_low, S.client_high, S.whole)) in
      let v = within_places (echoes_from c) a (omega (arith, S.client_low, S.client_high, S.whole)) in
      subst (λ (m : ℕ). Taken g a d (group_of g w c) (pick (leb (quota g) m) rs es)) ready_number
      (picked g a d _ _ rs es
      (record {
        value = matched_value g re (places_from (readies_from c)) a d rs (ready_agree g B a d T c x) B.servers_high B u;
        all = matched_all g re (places_from (readies_from c)) a d rs (ready_agree g B a d T c x) B.servers_high B u;
      })
      (record {
        value = matched_value g ec (places_from (echoes_from c)) a d es (echo_agree g B a d T c x) B.servers_high B v;
        all = matched_all g ec (places_from (echoes_from c)) a d es (echo_agree g B a d T c x) B.servers_high B v;
      })
      (leb (quota g) w.readied))

  pub value_is_lem : regained_of g (block_view g a c x).echoes (block_view g a c x).readies o ≡ group_value g w c a
  unfolding regained group_value
  value_is_lem = sym taken.value

  all_is : unanimous_of g (block_view g a c x).echoes (block_view g a c x).readies o ≡ all_of g (group_of g w c).on (group_of g w c).at a (group_value g w c a)
  unfolding unanimous group_value
  all_is = sym taken.all

  enough_is : enough (block_rules H g) g.n g.t (block_view g a c x) o ≡ enough_by g w.echoed w.readied
  unfolding enough enough_by
  enough_is = ap₂ (λ u v. leb g.n (u + g.t) || leb (quota g) v) echo_votes ready_votes

  supports_is : (block_rules H g).supports (block_view g a c x).echoes (block_view g a c x).readies o ≡ group_equal H g w c a d
  unfolding group_equal
  supports_is = ap₂ (λ u v. u && same (digests_of H g v) d) all_is value_is_lem

  pub due_is : due (block_rules H g) g.n g.t (block_view g a c x) o ≡ (due_for g x.blocks.ready w (group_equal H g w c a d) T).ready
  unfolding due due_for due_by block_view
  due_is = ap₂ (λ u v. not x.blocks.ready && (u && v)) enough_is supports_is

  pub full_is : full (block_rules H g) g.n g.t (block_view g a c x) o ≡ (due_for g x.blocks.ready w (group_equal H g w c a d) T).complete
  unfolding full due_for full_by
  full_is = ap₂ (λ u v. leb (quota g + g.t) u && v) ready_votes supports_is

-- ---- a comparison on which something depends can be made

short : (g : Params) (e r : ℕ) → r < quota g → enough_by g e r ≡ true → g.n ≤ e + g.t
unfolding enough_by
short g e r h m = go (or_split (leb g.n (e + g.t)) (leb (quota g) r) m)
  where
    go : (leb g.n (e + g.t) ≡ true) ⊎ (leb (quota g) r ≡ true) → g.n ≤ e + g.t
    go (inl k) = leb-true g.n (e + g.t) k
    go (inr k) = absurd (let z = leb-true (quota g) r k in omega (arith, z, h))

-- fewer than q readies: there are n - t echoes
enough_echoes : (g : Params) (went complete : Bool) (e r : ℕ) → r < quota g → matters_by g went complete e r ≡ true → g.n ≤ e + g.t
unfolding matters_by
enough_echoes g went complete e r h m = go (or_split (not went && enough_by g e r) (leb (quota g + g.t) r && not complete) m)
  where
    go : (not went && enough_by g e r ≡ true) ⊎ (leb (quota g + g.t) r && not complete ≡ true) → g.n ≤ e + g.t
    go (inl k) = short g e r h (and_split (not went) (enough_by g e r) k).1
    go (inr k) = absurd (let z = leb-true (quota g + g.t) r (and_split (leb (quota g + g.t) r) (not complete) k).0 in omega (arith, z, h))

-- there are as many as were flagged, and at most 10
pub voters_few : (g : Params) (a : List ℕ) (c : ℕ) (b : BlockPart) (T : ℕ) (d : List ℕ) (v : Voters) → Bounded g → v ≡ voters_of g a c b T d
    → v.echoed ≤ 10
unfolding voters_of
voters_few g a c b T d v B e =
    let n = ap (λ (w : Voters). w.echoed) e in
    let l = count_le (marked (voters_of g a c b T d).echoes) g.n in
    omega (arith, n, l, B.servers_high)

pub stored : (g : Params) (c a : ℕ) (p : Place) (m out to : ℕ) → Lent g c a p m out to → Stored g c a
stored g c a p m out to L = record { bounded = L.bounded; client_low = L.client_low; client_high = L.client_high; whole = L.whole }

pub regaining : (g : Params) (a d : List ℕ) (T c : ℕ) (b : BlockPart) (v : Voters) → Stored g c (length a) → v ≡ voters_of g a c b T d
    → (went complete : Bool) → matters_by g went complete v.echoed v.readied ≡ true → Regaining g v c (length a)
unfolding voters_of
regaining g a d T c b v S e went complete h =
    let n : v.echoed ≡ count (marked v.echoes) g.n = ap (λ (w : Voters). w.echoed) e ∙ ap (λ (w : Voters). count (marked w.echoes) g.n) (sym e) in
    record {
      stored = S;
      number = ap (λ (w : Voters). w.readied) e ∙ ap (λ (w : Voters). count (marked w.readies) g.n) (sym e);
      enough = λ z.
          let k = enough_echoes g went complete v.echoed v.readied z h in
          omega (arith, k, n, S.bounded.blocks_high);
    }

-- ---- the tests of the code

pub enough_yes : (g : Params) (e r : ℕ) → g.n ≤ e + g.t → true ≡ enough_by g e r
unfolding enough_by
enough_yes g e r h = sym (ap (λ (t : Bool). t || leb (quota g) r) (le-leb g.n (e + g.t) h))

pub enough_rest : (g : Params) (e r q : ℕ) → e + g.t < g.n → q ≡ quota g → leb q r ≡ enough_by g e r
unfolding enough_by
enough_rest g e r q h k = ap (λ (u : ℕ). leb u r) k ∙ sym (ap (λ (t : Bool). t || leb (quota g) r) (lt-leb g.n (e + g.t) h))

pub matters_by_lem : (g : Params) (went complete : Bool) (e r q : ℕ) (n m l b : Bool) → n ≡ enough_by g e r → q ≡ quota g
    → m ≡ not went && n → l ≡ leb (q + g.t) r && not complete → b ≡ m || l → b ≡ matters_by g went complete e r
unfolding matters_by
matters_by_lem g went complete e r q n m l b h k u v w =
    w
    ∙ ap₂ (λ (y z : Bool). y || z) (u ∙ ap (λ (y : Bool). not went && y) h) (v ∙ ap (λ (y : ℕ). leb (y + g.t) r && not complete) k)

pub due_by_lem : (g : Params) (went equal : Bool) (e r : ℕ) (n m b : Bool) → n ≡ enough_by g e r → m ≡ n && equal
    → b ≡ not went && m → b ≡ due_by g went equal e r
unfolding due_by
due_by_lem g went equal e r n m b h k u = u ∙ ap (λ (y : Bool). not went && y) (k ∙ ap (λ (y : Bool). y && equal) h)

pub full_by_lem : (g : Params) (equal : Bool) (r q : ℕ) (b : Bool) → q ≡ quota g → b ≡ leb (q + g.t) r && equal → b ≡ full_by g equal r
unfolding full_by
full_by_lem g equal r q b h k = k ∙ ap (λ (y : ℕ). leb (y + g.t) r && equal) h

pub due_for_lem : (g : Params) (went : Bool) (v : Voters) (equal : Bool) (T : ℕ) (m f : Bool) → m ≡ due_by g went equal v.echoed v.readied
    → f ≡ full_by g equal v.readied → ◌≡◌ {A = Due} (record { ready = m; complete = f; time = T }) (due_for g went v equal T)
unfolding due_for
due_for_lem g went v equal T m f h k = λ i. record { ready = h i; complete = k i; time = T }

-- ---- flags of the entries in chunks from p on

pub comparing : (g : Params) (at a : List ℕ) (p : ℕ) → Bounded g → at ≡ places_from p → chunk_at (p + 10) + chunk_bytes ≤ length a → Comparing g at a
comparing g at a p B e h = record { bounded = B; within = rw e (within_places p a h) }

pub flags_at_lem : (g : Params) (on ts : List Bool) (at a d : List ℕ) (p : ℕ) (r : List Bool) → on ≡ ts → at ≡ places_from p
    → r ≡ flags (sent_list g on at a d) g.n → r ≡ flags (sent_list g ts (places_from p) a d) g.n
flags_at_lem g on ts at a d p r h e k = k ∙ ap₂ (λ (o : List Bool) (l : List ℕ). flags (sent_list g o l a d) g.n) h e

pub voters_are : (g : Params) (a : List ℕ) (c : ℕ) (b : BlockPart) (T : ℕ) (d : List ℕ) (es rs : List Bool) (e r : ℕ)
    → es ≡ flags (sent_list g (timed b.echoes b.echoed T) (places_from (echoes_from c)) a d) g.n
    → rs ≡ flags (sent_list g (timed b.readies b.readied T) (places_from (readies_from c)) a d) g.n
    → e ≡ count (marked es) g.n
    → r ≡ count (marked rs) g.n
    → ◌≡◌ {A = Voters} (record { echoes = es; readies = rs; echoed = e; readied = r }) (voters_of g a c b T d)
unfolding voters_of
voters_are g a c b T d es rs e r h k m n =
    let u = m ∙ ap (λ (l : List Bool). count (marked l) g.n) h in
    let w = n ∙ ap (λ (l : List Bool). count (marked l) g.n) k in
    λ i. record { echoes = h i; readies = k i; echoed = u i; readied = w i }
