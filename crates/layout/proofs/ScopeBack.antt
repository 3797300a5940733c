-- After a step for one client its parts of the record read back, and all other parts read as before. Assumes nothing.
use Prim.Native.Nat.{ℕ, suc, ◌+◌, ◌*◌, ◌<◌, ◌≤◌}
use native.Mathlib.Omega.{arith}
use native.Mathlib.Decide.{ℕ_discrete}
use mathlib.Core.Path.{◌≡◌, refl, sym, ap, ap₂, ◌∙◌}
use mathlib.Core.Logic.{◌≢◌}
use mathlib.Core.List.{List, [], ◌∷◌}
use lib.ListN.{length, get_or, set, length-set}
use lib.Seq.{sets, length-sets, get_or-set_same, get_or-set_other, ext_get_or}
use Rattle.area.specs.Numbers.{be2, be4, be8, bytes8}
use Rattle.area.proofs.Numbers.{length_bytes8}
use Rattle.area.proofs.Sets.{room}
use Rattle.area.proofs.Fills.{length_table, table_agree}
use Rattle.frame.specs.declared.Stamp.{Stamp}
use Rattle.frame.specs.Frames.{stamp_bytes}
use Rattle.frame.proofs.RoundTrip.{length_stamp}
use Rattle.server_rules.specs.declared.Slot.{Slot}
use Rattle.server_rules.specs.declared.Reader.{Reader}
use Rattle.layout.specs.Fields.{flag_in, flag_at, stamp_at, row_at, flags_at, numbers_at}
use Rattle.layout.specs.Servers.{server_size, blocks_size, slot_size, slots_size, reader_size, readers_size, slots_place, readers_place, reports_place, blocks_at}
use Rattle.layout.specs.Servers.{slot_bytes, slot_at, slots_at, reader_bytes, reader_at, readers_at, server_at, server_in, slot_sets, scope_sets, report_sets}
use Rattle.layout.specs.Typed.{Long, TypedStamp, TypedSlot, TypedReader}
use Rattle.layout.proofs.Lengths.{length_slot, length_reader}
use Rattle.layout.proofs.Reading.{stored, stamp_at_lem, long_at, row_entry}
use Rattle.layout.proofs.ServerBack.{slot_at_lem, reader_at_lem}

-- ---- bytes that a store leaves

-- the w bytes from index i on are the same in l and in m
pub record Alike (l m : List ℕ) (i w : ℕ) : Type 0 where
  pub same : (k : ℕ) → i ≤ k → k < i + w → get_or l k 0 ≡ get_or m k 0

-- a byte that lies outside a store
outside : (l : List ℕ) (j : ℕ) (a : List ℕ) (k : ℕ) → (j ≤ k → k < j + length a → ⊥) → get_or (sets l j a) k 0 ≡ get_or l k 0
outside l j [] k h = refl
outside l j (x ∷ a) k h =
    outside (set l j x) (suc j) a k (λ p q. h (omega arith) (omega arith))
    ∙ get_or-set_other l j k x 0 (λ e. h (omega arith) (omega arith))

-- the bytes before a store
pub before : (l : List ℕ) (j : ℕ) (a : List ℕ) (i w : ℕ) → i + w ≤ j → Alike (sets l j a) l i w
before l j a i w h = record { same = λ k p q. outside l j a k (λ u v. omega arith) }

-- the bytes after it
pub behind : (l : List ℕ) (j : ℕ) (a : List ℕ) (i w : ℕ) → j + length a ≤ i → Alike (sets l j a) l i w
behind l j a i w h = record { same = λ k p q. outside l j a k (λ u v. omega arith) }

-- ---- what is read depends on few bytes only

-- what g reads at an index depends only on the w bytes from there on
pub record Spans {A : Type 0} (g : List ℕ → ℕ → A) (w : ℕ) : Type 0 where
  pub reads : (l m : List ℕ) (i : ℕ) → Alike l m i w → g l i ≡ g m i

-- g reads the same at j, which is within bytes that are the same
within : {A : Type 0} {g : List ℕ → ℕ → A} {v : ℕ} {l m : List ℕ} {i w : ℕ} → Spans g v → Alike l m i w → (j : ℕ) → i ≤ j → j + v ≤ i + w → g l j ≡ g m j
within {l = l} {m = m} s e j p q = s.reads l m j (record { same = λ k a b. e.same k (omega arith) (omega arith) })

-- ---- flags, numbers and stamps

byte_spans : Spans (λ l i. get_or l i 0) 1
byte_spans = record { reads = λ l m i e. e.same i (omega arith) (omega arith) }

flag_spans : Spans flag_at 1
unfolding flag_at
flag_spans = record { reads = λ l m i e. ap flag_in (byte_spans.reads l m i e) }

two_spans : Spans be2 2
unfolding be2
two_spans = record {
  reads = λ l m i e. ap₂ (λ x y. x * 256 + y) (e.same i (omega arith) (omega arith)) (e.same (i + 1) (omega arith) (omega arith));
}

word_spans : Spans be4 4
unfolding be4
word_spans = record {
  reads = λ l m i e. ap₂ (λ x y. x * 65536 + y) (within two_spans e i (omega arith) (omega arith)) (within two_spans e (i + 2) (omega arith) (omega arith));
}

long_spans : Spans be8 8
unfolding be8
long_spans = record {
  reads = λ l m i e. ap₂ (λ x y. x * 4294967296 + y) (within word_spans e i (omega arith) (omega arith))
      (within word_spans e (i + 4) (omega arith) (omega arith));
}

stamp_spans : Spans stamp_at 13
unfolding stamp_at
stamp_spans = record {
  reads = λ l m i e.
      let a = within long_spans e i (omega arith) (omega arith) in
      let b = e.same (i + 8) (omega arith) (omega arith) in
      let c = within word_spans e (i + 9) (omega arith) (omega arith) in
      λ k. record { time = a k; writer = b k; sequence = c k };
}

-- ---- arrays of n elements of w bytes, each read by g

-- elements c and j have no byte in common
apart : (i c j w k : ℕ) → j ≢ c → i + c * w ≤ k → k < i + c * w + w → i + j * w ≤ k → k < i + j * w + w → ⊥
apart i c j w k ne a b p q =
    let u : j < c → ⊥ = λ h. omega (arith, room j c w h) in
    let v : c < j → ⊥ = λ h. omega (arith, room c j w h) in
    ne (omega (arith, u, v))

module _ {A : Type 0} (g : List ℕ → ℕ → A) (n w : ℕ) (s : Spans g w) where
  -- an array depends only on the bytes of its elements
  pub row_spans : Spans (row_at g n w) (n * w)
  unfolding row_at
  row_spans = record {
    reads = λ l m i e. table_agree n (λ j. g l (i + j * w)) (λ j. g m (i + j * w)) (λ j h.
        within s e (i + j * w) (omega arith) (omega (arith, room j n w h)));
  }

  length_row : (l : List ℕ) (i : ℕ) → length (row_at g n w l i) ≡ n
  unfolding row_at
  length_row l i = length_table n (λ j. g l (i + j * w))

  -- after a store at element c the array reads with that element replaced, if the element itself reads back
  pub row_set : (l : List ℕ) (i c : ℕ) (a : List ℕ) (x : A) → c < n → length a ≡ w → g (sets l (i + c * w) a) (i + c * w) ≡ x
      → row_at g n w (sets l (i + c * w) a) i ≡ set (row_at g n w l i) c x
  row_set l i c a x h e b = ext_get_or x (row_at g n w m i) (set r c x) (length_row m i ∙ sym (length-set r c x ∙ length_row l i)) (λ j u.
      each j (rw length_row at u) (ℕ_discrete j c))
    where
      m : List ℕ
      m = sets l (i + c * w) a

      r : List A
      r = row_at g n w l i

      others : (j : ℕ) → j ≢ c → Alike m l (i + j * w) w
      others j z = record { same = λ k p q. outside l (i + c * w) a k (λ u v. apart i c j w k z u (omega arith) p q) }

      each : (j : ℕ) → j < n → Dec (j ≡ c) → get_or (row_at g n w m i) j x ≡ get_or (set r c x) j x
      each j u (yes z) =
          row_entry g n w m i j x u
          ∙ ap (λ t. g m (i + t * w)) z
          ∙ b
          ∙ sym (ap (λ t. get_or (set r c x) t x) z ∙ get_or-set_same r c x x (omega (arith, length_row l i)))
      each j u (no z) =
          row_entry g n w m i j x u
          ∙ s.reads m l (i + j * w) (others j z)
          ∙ sym (get_or-set_other r c j x x z ∙ row_entry g n w l i j x u)

-- ---- the parts of a server's record

flags_spans : Spans flags_at 11
unfolding flags_at
flags_spans = record { reads = (row_spans flag_at 11 1 flag_spans).reads }

numbers_spans : Spans numbers_at 88
unfolding numbers_at
numbers_spans = record { reads = (row_spans be8 11 8 long_spans).reads }

blocks_spans : Spans blocks_at blocks_size
unfolding blocks_at
blocks_spans = record {
  reads = λ l m i e.
      let a = within flag_spans e i (omega arith) (omega arith) in
      let b = within flag_spans e (i + 1) (omega arith) (omega arith) in
      let c = within flag_spans e (i + 2) (omega arith) (omega arith) in
      let d = within long_spans e (i + 3) (omega arith) (omega arith) in
      let f = within flags_spans e (i + 11) (omega arith) (omega arith) in
      let g = within flags_spans e (i + 22) (omega arith) (omega arith) in
      let x = within numbers_spans e (i + 33) (omega arith) (omega arith) in
      let y = within numbers_spans e (i + 121) (omega arith) (omega arith) in
      λ k. record { sent = a k; ready = b k; complete = c k; time = d k; echoes = f k; readies = g k; echoed = x k; readied = y k };
}

-- a slot depends only on its own bytes
pub slot_spans : Spans slot_at slot_size
unfolding slot_at
slot_spans = record {
  reads = λ l m i e.
      let a = within long_spans e i (omega arith) (omega arith) in
      let b = within blocks_spans e (i + 8) (omega arith) (omega arith) in
      λ k. record { sequence = a k; blocks = b k };
}

-- and so does a reader
pub reader_spans : Spans reader_at reader_size
unfolding reader_at
reader_spans = record {
  reads = λ l m i e.
      let a = within word_spans e i (omega arith) (omega arith) in
      let b = within flag_spans e (i + 4) (omega arith) (omega arith) in
      let c = within stamp_spans e (i + 5) (omega arith) (omega arith) in
      λ k. record { sequence = a k; listening = b k; noted = c k };
}

slots_spans : Spans slots_at slots_size
unfolding slots_at
slots_spans = record { reads = (row_spans slot_at 9 slot_size slot_spans).reads }

readers_spans : Spans readers_at readers_size
unfolding readers_at
readers_spans = record { reads = (row_spans reader_at 9 reader_size reader_spans).reads }

-- ---- the record after a step

-- slot c stored among the slots at i
pub slots_set : (l : List ℕ) (i c : ℕ) (y : Slot) → TypedSlot y → c ≤ 8 → i + slots_size ≤ length l
    → slots_at (sets l (i + c * slot_size) (slot_bytes y)) i ≡ set (slots_at l i) c y
unfolding slots_at
slots_set l i c y t h k =
    let u : i + c * slot_size + length (slot_bytes y) ≤ length l = omega (arith, length_slot y) in
    row_set slot_at 9 slot_size slot_spans l i c (slot_bytes y) y (omega arith) (length_slot y) (slot_at_lem _ _ y t (stored l (i + c * slot_size) (slot_bytes y) u))

-- reader c stored among the readers at i
pub readers_set : (l : List ℕ) (i c : ℕ) (z : Reader) → TypedReader z → c ≤ 8 → i + readers_size ≤ length l
    → readers_at (sets l (i + c * reader_size) (reader_bytes z)) i ≡ set (readers_at l i) c z
unfolding readers_at
readers_set l i c z t h k =
    let u : i + c * reader_size + length (reader_bytes z) ≤ length l = omega (arith, length_reader z) in
    row_set reader_at 9 reader_size reader_spans l i c (reader_bytes z) z (omega arith) (length_reader z)
    (reader_at_lem _ _ z t (stored l (i + c * reader_size) (reader_bytes z) u))

-- report j stored among the reports at i
numbers_set : (l : List ℕ) (i j T : ℕ) → Long T → j ≤ 10 → i + 88 ≤ length l → numbers_at (sets l (i + j * 8) (bytes8 T)) i ≡ set (numbers_at l i) j T
unfolding numbers_at
numbers_set l i j T t h k =
    let u : i + j * 8 + length (bytes8 T) ≤ length l = omega (arith, length_bytes8 T) in
    row_set be8 11 8 long_spans l i j (bytes8 T) T (omega arith) (length_bytes8 T) (long_at _ _ T t (stored l (i + j * 8) (bytes8 T) u))

-- what was written reads back, and the rest reads as before: the stamp and a slot
pub slot_back : (l : List ℕ) (c : ℕ) (x : Stamp) (y : Slot) → server_size ≤ length l → c ≤ 8 → TypedStamp x → TypedSlot y
    → server_in (slot_sets l c x y)
    ≡ record { stamp = x; slots = set (server_in l).slots c y; readers = (server_in l).readers; reports = (server_in l).reports }
unfolding server_in server_at slot_sets
slot_back l c x y h few tx ty =
    let l₁ = sets l 0 (stamp_bytes x) in
    let at = slots_place + c * slot_size in
    let l₂ = sets l₁ at (slot_bytes y) in
    let n₁ : server_size ≤ length l₁ = rw length-sets h in
    let u : 0 + length (stamp_bytes x) ≤ length l = omega (arith, length_stamp x) in
    let a =
    stamp_spans.reads l₂ l₁ 0 (before l₁ at (slot_bytes y) 0 13 (omega arith)) ∙ stamp_at_lem l₁ 0 x tx (stored l 0 (stamp_bytes x) u) in
    let b =
    slots_set l₁ slots_place c y ty few (omega arith)
    ∙ ap (λ s. set s c y) (slots_spans.reads l₁ l slots_place (behind l 0 (stamp_bytes x) slots_place slots_size (omega (arith, length_stamp x)))) in
    let d =
    readers_spans.reads l₂ l₁ readers_place (behind l₁ at (slot_bytes y) readers_place readers_size (omega (arith, length_slot y)))
    ∙ readers_spans.reads l₁ l readers_place (behind l 0 (stamp_bytes x) readers_place readers_size (omega (arith, length_stamp x))) in
    let e =
    numbers_spans.reads l₂ l₁ reports_place (behind l₁ at (slot_bytes y) reports_place 88 (omega (arith, length_slot y)))
    ∙ numbers_spans.reads l₁ l reports_place (behind l 0 (stamp_bytes x) reports_place 88 (omega (arith, length_stamp x))) in
    λ k. record { stamp = a k; slots = b k; readers = d k; reports = e k }

-- a reader
reader_back : (l : List ℕ) (c : ℕ) (z : Reader) → server_size ≤ length l → c ≤ 8 → TypedReader z
    → server_in (sets l (readers_place + c * reader_size) (reader_bytes z))
    ≡ record { stamp = (server_in l).stamp; slots = (server_in l).slots; readers = set (server_in l).readers c z; reports = (server_in l).reports }
unfolding server_in server_at
reader_back l c z h few tz =
    let at = readers_place + c * reader_size in
    let m = sets l at (reader_bytes z) in
    let a = stamp_spans.reads m l 0 (before l at (reader_bytes z) 0 13 (omega arith)) in
    let b = slots_spans.reads m l slots_place (before l at (reader_bytes z) slots_place slots_size (omega arith)) in
    let d = readers_set l readers_place c z tz few (omega arith) in
    let e = numbers_spans.reads m l reports_place (behind l at (reader_bytes z) reports_place 88 (omega (arith, length_reader z))) in
    λ k. record { stamp = a k; slots = b k; readers = d k; reports = e k }

-- a client's scope
pub scope_back : (l : List ℕ) (c : ℕ) (x : Stamp) (y : Slot) (z : Reader) → server_size ≤ length l → c ≤ 8 → TypedStamp x → TypedSlot y → TypedReader z
    → server_in (scope_sets l c x y z)
    ≡ record { stamp = x; slots = set (server_in l).slots c y; readers = set (server_in l).readers c z; reports = (server_in l).reports }
unfolding scope_sets slot_sets
scope_back l c x y z h few tx ty tz =
    let n : server_size ≤ length (slot_sets l c x y) = rw length-sets (rw length-sets h) in
    let e = slot_back l c x y h few tx ty in
    reader_back (slot_sets l c x y) c z n few tz
    ∙ (λ k. record { stamp = (e k).stamp; slots = (e k).slots; readers = set (e k).readers c z; reports = (e k).reports })

-- a report
pub report_back : (l : List ℕ) (j T : ℕ) → server_size ≤ length l → j ≤ 10 → Long T
    → server_in (report_sets l j T)
    ≡ record { stamp = (server_in l).stamp; slots = (server_in l).slots; readers = (server_in l).readers; reports = set (server_in l).reports j T }
unfolding server_in server_at report_sets
report_back l j T h few t =
    let at = reports_place + j * 8 in
    let m = sets l at (bytes8 T) in
    let a = stamp_spans.reads m l 0 (before l at (bytes8 T) 0 13 (omega arith)) in
    let b = slots_spans.reads m l slots_place (before l at (bytes8 T) slots_place slots_size (omega arith)) in
    let d = readers_spans.reads m l readers_place (before l at (bytes8 T) readers_place readers_size (omega arith)) in
    let e = numbers_set l reports_place j T t few (omega arith) in
    λ k. record { stamp = a k; slots = b k; readers = d k; reports = e k }
