-- A client's scope stored in a record's bytes gives the bytes of the record with that scope. Assumes nothing.
use Prim.Native.Nat.{ℕ, zero, suc, ◌+◌, ◌*◌, ◌-◌, ◌≤◌, ◌<◌}
use native.Mathlib.Omega.{arith}
use native.Mathlib.Nat.{zero-add}
use mathlib.Core.Path.{◌≡◌, refl, sym, ap, ap₂, ◌∙◌}
use mathlib.Core.List.{List, ◌++◌}
use lib.ListN.{length, get_or, set}
use lib.Seq.{sets, get_or-set_same, get_or-set_other}
use Rattle.area.specs.Area.{joined}
use Rattle.area.specs.Numbers.{bytes8}
use Rattle.area.proofs.Numbers.{length_bytes8}
use Rattle.area.proofs.Sets.{sets_append}
use Rattle.area.proofs.Fills.{joined_split, length_joined}
use Rattle.frame.specs.declared.Stamp.{Stamp}
use Rattle.frame.specs.Frames.{stamp_bytes}
use Rattle.frame.proofs.RoundTrip.{length_stamp}
use Rattle.server_rules.specs.declared.Slot.{Slot}
use Rattle.server_rules.specs.declared.Reader.{Reader}
use Rattle.server_rules.specs.declared.Server.{Server}
use Rattle.server_rules.specs.State.{no_slot, no_reader}
use Rattle.layout.specs.Fields.{row_bytes, numbers_bytes}
use Rattle.layout.specs.Servers.{slot_size, slots_size, reader_size, readers_size, slots_place, readers_place, reports_place, slot_bytes, slots_bytes, reader_bytes}
use Rattle.layout.specs.Servers.{readers_bytes, server_bytes, slot_sets, scope_sets, report_sets}
use Rattle.layout.proofs.Lengths.{length_slot, length_slots, length_reader, length_readers}
use Rattle.layout.proofs.Stores.{sets_swap, sets_over, sets_replace}

-- ---- an array

-- lists end to end are equal if each of them is
joined_agree : {A : Type 0} (F G : ℕ → List A) (i m : ℕ) → ((k : ℕ) → i ≤ k → k < i + m → F k ≡ G k) → joined F i m ≡ joined G i m
unfolding joined
joined_agree F G i zero e = refl
joined_agree F G i (suc m) e =
    ap₂ (λ a b. a ++ b) (e i (omega arith) (omega arith)) (joined_agree F G (suc i) m (λ k h l. e k (omega (arith, h)) (omega (arith, l))))

module _ {A : Type 0} (f : A → List ℕ) (m w : ℕ) (d : A) (e : (x : A) → length (f x) ≡ w) where
  -- element c of an array is stored
  pub row_replace : (l : List ℕ) (i c : ℕ) (xs : List A) (x : A) → length xs ≡ m → c < m
      → sets (sets l i (row_bytes f m d xs)) (i + c * w) (f x) ≡ sets l i (row_bytes f m d (set xs c x))
  unfolding row_bytes joined
  row_replace l i c xs x n h =
      let F : ℕ → List ℕ = λ j. f (get_or xs j d) in
      let G : ℕ → List ℕ = λ j. f (get_or (set xs c x) j d) in
      let r = m - suc c in
      let k : m ≡ c + suc r = omega (arith, h) in
      let s : (H : ℕ → List ℕ) → joined H 0 m ≡ joined H 0 c ++ (H c ++ joined H (suc c) r) =
      λ H. ap (joined H 0) k ∙ joined_split H 0 c (suc r) ∙ ap (λ j. joined H 0 c ++ (H j ++ joined H (suc j) r)) (zero-add c) in
      let before : joined F 0 c ≡ joined G 0 c =
      joined_agree F G 0 c (λ j a b. ap f (sym (get_or-set_other xs c j x d (λ q. omega (arith, b, q))))) in
      let behind : joined F (suc c) r ≡ joined G (suc c) r =
      joined_agree F G (suc c) r (λ j a b. ap f (sym (get_or-set_other xs c j x d (λ q. omega (arith, a, q))))) in
      let there : f x ≡ G c = ap f (sym (get_or-set_same xs c x d (omega (arith, n, h)))) in
      ap (λ b. sets (sets l i b) (i + c * w) (f x)) (s F)
      ∙ sets_replace l i (joined F 0 c) (F c) (joined F (suc c) r) (f x) (i + c * w)
      (ap (λ y. i + y) (sym (length_joined F w 0 c (λ j. e (get_or xs j d))))) (e (get_or xs c d) ∙ sym (e x))
      ∙ (λ t. sets l i (before t ++ (there t ++ behind t)))
      ∙ ap (sets l i) (sym (s G))

-- ---- the record

-- a record's bytes are its parts', stored one after the other
abbrev stored : List ℕ → Server → List ℕ
stored l s =
    sets (sets (sets (sets l 0 (stamp_bytes s.stamp)) slots_place (slots_bytes s.slots)) readers_place (readers_bytes s.readers)) reports_place
    (numbers_bytes s.reports)

parts : (l : List ℕ) (s : Server) → sets l 0 (server_bytes s) ≡ stored l s
unfolding server_bytes
parts l s =
    let X = stamp_bytes s.stamp in
    let Y = slots_bytes s.slots in
    let Z = readers_bytes s.readers in
    let N = numbers_bytes s.reports in
    let l₁ = sets l 0 X in
    let l₂ = sets l₁ slots_place Y in
    sets_append l 0 X (Y ++ (Z ++ N))
    ∙ ap (λ n. sets l₁ n (Y ++ (Z ++ N))) (zero-add (length X) ∙ length_stamp s.stamp)
    ∙ sets_append l₁ slots_place Y (Z ++ N)
    ∙ ap (λ n. sets l₂ (slots_place + n) (Z ++ N)) (length_slots s.slots)
    ∙ sets_append l₂ readers_place Z N
    ∙ ap (λ n. sets (sets l₂ readers_place Z) (readers_place + n) N) (length_readers s.readers)

module _ (l : List ℕ) (s : Server) where
  abbrev X : List ℕ
  X = stamp_bytes s.stamp

  abbrev Y : List ℕ
  Y = slots_bytes s.slots

  abbrev Z : List ℕ
  Z = readers_bytes s.readers

  abbrev N : List ℕ
  N = numbers_bytes s.reports

  -- the stamp and a slot
  pub slot_stored : (c : ℕ) (x : Stamp) (y : Slot) → length s.slots ≡ 9 → c ≤ 8
      → slot_sets (sets l 0 (server_bytes s)) c x y
      ≡ sets l 0 (server_bytes (record { stamp = x; slots = set s.slots c y; readers = s.readers; reports = s.reports }))
  unfolding slot_sets slots_bytes
  slot_stored c x y ns h =
      let s' : Server = record { stamp = x; slots = set s.slots c y; readers = s.readers; reports = s.reports } in
      let A = stamp_bytes x in
      let B = slot_bytes y in
      let at = slots_place + c * slot_size in
      let n = length_stamp x in
      let m = length_slot y in
      let l₀ = sets l 0 X in
      let l₁ = sets l 0 A in
      let stamps : sets (stored l s) 0 A ≡ sets (sets (sets l₁ slots_place Y) readers_place Z) reports_place N =
      sets_swap (sets (sets l₀ slots_place Y) readers_place Z) 0 A reports_place N (omega (arith, n))
      ∙ ap (λ k. sets k reports_place N) (sets_swap (sets l₀ slots_place Y) 0 A readers_place Z (omega (arith, n)))
      ∙ ap (λ k. sets (sets k readers_place Z) reports_place N) (sets_swap l₀ 0 A slots_place Y (omega (arith, n)))
      ∙ ap (λ k. sets (sets (sets k slots_place Y) readers_place Z) reports_place N)
      (sets_over l 0 X 0 A (omega arith) (omega (arith, n, length_stamp s.stamp))) in
      let slots : sets (sets (sets (sets l₁ slots_place Y) readers_place Z) reports_place N) at B
      ≡ sets (sets (sets l₁ slots_place (slots_bytes (set s.slots c y))) readers_place Z) reports_place N =
      sets_swap (sets (sets l₁ slots_place Y) readers_place Z) at B reports_place N (omega (arith, m, h))
      ∙ ap (λ k. sets k reports_place N) (sets_swap (sets l₁ slots_place Y) at B readers_place Z (omega (arith, m, h)))
      ∙ ap (λ k. sets (sets k readers_place Z) reports_place N)
      (row_replace slot_bytes 9 slot_size no_slot length_slot l₁ slots_place c s.slots y ns (omega (arith, h))) in
      ap (λ k. sets (sets k 0 A) at B) (parts l s) ∙ ap (λ k. sets k at B) stamps ∙ slots ∙ sym (parts l s')

  -- a reader
  reader_stored : (c : ℕ) (z : Reader) → length s.readers ≡ 9 → c ≤ 8
      → sets (sets l 0 (server_bytes s)) (readers_place + c * reader_size) (reader_bytes z)
      ≡ sets l 0 (server_bytes (record { stamp = s.stamp; slots = s.slots; readers = set s.readers c z; reports = s.reports }))
  unfolding readers_bytes
  reader_stored c z nr h =
      let s' : Server = record { stamp = s.stamp; slots = s.slots; readers = set s.readers c z; reports = s.reports } in
      let l₂ = sets (sets l 0 X) slots_place Y in
      let by = readers_place + c * reader_size in
      ap (λ k. sets k by (reader_bytes z)) (parts l s)
      ∙ sets_swap (sets l₂ readers_place Z) by (reader_bytes z) reports_place N (omega (arith, length_reader z, h))
      ∙ ap (λ k. sets k reports_place N) (row_replace reader_bytes 9 reader_size no_reader length_reader l₂ readers_place c s.readers z nr (omega (arith, h)))
      ∙ sym (parts l s')

  -- a report
  pub report_stored : (j T : ℕ) → length s.reports ≡ 11 → j ≤ 10
      → report_sets (sets l 0 (server_bytes s)) j T
      ≡ sets l 0 (server_bytes (record { stamp = s.stamp; slots = s.slots; readers = s.readers; reports = set s.reports j T }))
  unfolding report_sets numbers_bytes
  report_stored j T nt h =
      let s' : Server = record { stamp = s.stamp; slots = s.slots; readers = s.readers; reports = set s.reports j T } in
      let l₃ = sets (sets (sets l 0 X) slots_place Y) readers_place Z in
      ap (λ k. sets k (reports_place + j * 8) (bytes8 T)) (parts l s)
      ∙ row_replace bytes8 11 8 0 length_bytes8 l₃ reports_place j s.reports T nt (omega (arith, h))
      ∙ sym (parts l s')

-- a client's scope
pub scope_stored : (l : List ℕ) (s : Server) (c : ℕ) (x : Stamp) (y : Slot) (z : Reader) → length s.slots ≡ 9 → length s.readers ≡ 9 → c ≤ 8
    → scope_sets (sets l 0 (server_bytes s)) c x y z
    ≡ sets l 0 (server_bytes (record { stamp = x; slots = set s.slots c y; readers = set s.readers c z; reports = s.reports }))
unfolding scope_sets
scope_stored l s c x y z ns nr h =
    ap (λ k. sets k (readers_place + c * reader_size) (reader_bytes z)) (slot_stored l s c x y ns h)
    ∙ reader_stored l (record { stamp = x; slots = set s.slots c y; readers = s.readers; reports = s.reports }) c z nr h
