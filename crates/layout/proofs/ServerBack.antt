-- A server's record reads back from its bytes, wherever they are in a list. Assumes nothing.
use Prim.Native.Nat.{ℕ, ◌+◌, ◌≤◌}
use native.Mathlib.Omega.{arith}
use mathlib.Core.Path.{◌≡◌, refl}
use mathlib.Core.Bool.{Bool}
use mathlib.Core.List.{List, [], ◌∷◌, ◌++◌}
use lib.ListN.{length}
use lib.Seq.{sets}
use Rattle.area.specs.Numbers.{bytes4, bytes8}
use Rattle.area.proofs.Numbers.{length_bytes4, length_bytes8}
use Rattle.frame.specs.Frames.{stamp_bytes}
use Rattle.frame.proofs.RoundTrip.{length_stamp}
use Rattle.server_rules.specs.declared.BlockPart.{BlockPart}
use Rattle.server_rules.specs.declared.Slot.{Slot}
use Rattle.server_rules.specs.declared.Reader.{Reader}
use Rattle.server_rules.specs.declared.Server.{Server}
use Rattle.server_rules.specs.State.{no_slot, no_reader}
use Rattle.layout.specs.Fields.{flag_byte, flag_at, flags_bytes, flags_at, numbers_bytes}
use Rattle.layout.specs.Servers.{server_size, slot_size, slots_size, reader_size, readers_size, slots_place, readers_place, reports_place, marks_bytes, votes_bytes}
use Rattle.layout.specs.Servers.{blocks_bytes, blocks_at}
use Rattle.layout.specs.Servers.{slot_bytes, slot_at, slots_bytes, slots_at, reader_bytes, reader_at, readers_bytes, readers_at, server_bytes, server_at, server_in}
use Rattle.layout.specs.Typed.{TypedBlocks, TypedSlot, TypedReader, TypedServer}
use Rattle.server_rules.specs.WellFormed.{Array}
use Rattle.layout.proofs.Lengths.{length_flags, length_numbers, length_marks, length_votes, length_slot, length_slots, length_reader, length_readers}
use Rattle.layout.proofs.Lengths.{length_server}
use Rattle.layout.proofs.Reading.{Stands, front, back, alone, stored, flag_at_lem, word_at, long_at, stamp_at_lem, row_at_lem, flags_at_lem, numbers_at_lem}

record Marks (l : List ℕ) (i : ℕ) (a b c : Bool) : Type 0 where
  pub first : flag_at l i ≡ a
  pub second : flag_at l (i + 1) ≡ b
  pub third : flag_at l (i + 2) ≡ c

marks_at : (l : List ℕ) (i : ℕ) (a b c : Bool) → Stands l i (marks_bytes a b c) → Marks l i a b c
unfolding marks_bytes
marks_at l i a b c s =
    let s₁ = back (flag_byte a ∷ []) (flag_byte b ∷ flag_byte c ∷ []) 1 (i + 1) refl refl s in
    let s₂ = back (flag_byte b ∷ []) (flag_byte c ∷ []) 1 (i + 2) refl (omega arith) s₁ in
    record {
      first = flag_at_lem l i a (front (flag_byte a ∷ []) (flag_byte b ∷ flag_byte c ∷ []) s);
      second = flag_at_lem l (i + 1) b (front (flag_byte b ∷ []) (flag_byte c ∷ []) s₁);
      third = flag_at_lem l (i + 2) c s₂;
    }

record Votes (l : List ℕ) (i j : ℕ) (e r : List Bool) : Type 0 where
  pub echoes : flags_at l i ≡ e
  pub readies : flags_at l j ≡ r

votes_at : (l : List ℕ) (i j : ℕ) (e r : List Bool) → length e ≡ 11 → length r ≡ 11 → j ≡ i + 11 → Stands l i (votes_bytes e r) → Votes l i j e r
unfolding votes_bytes
votes_at l i j e r he hr h s = record {
  echoes = flags_at_lem l i e he (front (flags_bytes e) (flags_bytes r) s);
  readies = flags_at_lem l j r hr (back (flags_bytes e) (flags_bytes r) 11 j (length_flags e) h s);
}

blocks_at_lem : (l : List ℕ) (i : ℕ) (b : BlockPart) → TypedBlocks b → Stands l i (blocks_bytes b) → blocks_at l i ≡ b
unfolding blocks_at blocks_bytes
blocks_at_lem l i b t p =
    let x = marks_bytes b.sent b.ready b.complete in
    let u = bytes8 b.time in
    let y = votes_bytes b.echoes b.readies in
    let e = numbers_bytes b.echoed in
    let r = numbers_bytes b.readied in
    let p₁ = back x (u ++ (y ++ (e ++ r))) 3 (i + 3) (length_marks b.sent b.ready b.complete) refl p in
    let p₂ = back u (y ++ (e ++ r)) 8 (i + 11) (length_bytes8 b.time) (omega arith) p₁ in
    let p₃ = back y (e ++ r) 22 (i + 33) (length_votes b.echoes b.readies) (omega arith) p₂ in
    let p₄ = back e r 88 (i + 121) (length_numbers b.echoed) (omega arith) p₃ in
    let m = marks_at l i b.sent b.ready b.complete (front x (u ++ (y ++ (e ++ r))) p) in
    let a = long_at l (i + 3) b.time t.time (front u (y ++ (e ++ r)) p₁) in
    let v = votes_at l (i + 11) (i + 22) b.echoes b.readies t.echoes t.readies (omega arith) (front y (e ++ r) p₂) in
    let f = numbers_at_lem l (i + 33) b.echoed t.echoed (front e r p₃) in
    let g = numbers_at_lem l (i + 121) b.readied t.readied p₄ in
    λ k. record {
      sent = m.first k;
      ready = m.second k;
      complete = m.third k;
      time = a k;
      echoes = v.echoes k;
      readies = v.readies k;
      echoed = f k;
      readied = g k;
    }

-- a slot reads back from the index at which its bytes begin
pub slot_at_lem : (l : List ℕ) (i : ℕ) (x : Slot) → TypedSlot x → Stands l i (slot_bytes x) → slot_at l i ≡ x
unfolding slot_at slot_bytes
slot_at_lem l i x t p =
    let u = bytes8 x.sequence in
    let y = blocks_bytes x.blocks in
    let a = long_at l i x.sequence t.sequence (front u y p) in
    let b = blocks_at_lem l (i + 8) x.blocks t.blocks (back u y 8 (i + 8) (length_bytes8 x.sequence) refl p) in
    λ k. record { sequence = a k; blocks = b k }

-- and so does a reader
pub reader_at_lem : (l : List ℕ) (i : ℕ) (x : Reader) → TypedReader x → Stands l i (reader_bytes x) → reader_at l i ≡ x
unfolding reader_at reader_bytes
reader_at_lem l i x t p =
    let u = bytes4 x.sequence in
    let z = stamp_bytes x.noted in
    let p₁ = back u (flag_byte x.listening ∷ z) 4 (i + 4) (length_bytes4 x.sequence) refl p in
    let p₂ = back (flag_byte x.listening ∷ []) z 1 (i + 5) refl (omega arith) p₁ in
    let a = word_at l i x.sequence t.sequence (front u (flag_byte x.listening ∷ z) p) in
    let b = flag_at_lem l (i + 4) x.listening (front (flag_byte x.listening ∷ []) z p₁) in
    let c = stamp_at_lem l (i + 5) x.noted t.noted p₂ in
    λ k. record { sequence = a k; listening = b k; noted = c k }

slots_at_lem : (l : List ℕ) (i : ℕ) (xs : List Slot) → Array 9 TypedSlot xs → Stands l i (slots_bytes xs) → slots_at l i ≡ xs
unfolding slots_bytes slots_at
slots_at_lem l i xs t p = row_at_lem slot_bytes slot_at 9 slot_size no_slot TypedSlot length_slot slot_at_lem l i xs t p

readers_at_lem : (l : List ℕ) (i : ℕ) (xs : List Reader) → Array 9 TypedReader xs → Stands l i (readers_bytes xs) → readers_at l i ≡ xs
unfolding readers_bytes readers_at
readers_at_lem l i xs t p = row_at_lem reader_bytes reader_at 9 reader_size no_reader TypedReader length_reader reader_at_lem l i xs t p

pub server_at_lem : (l : List ℕ) (i : ℕ) (s : Server) → TypedServer s → Stands l i (server_bytes s) → server_at l i ≡ s
unfolding server_at server_bytes
server_at_lem l i s t p =
    let u = stamp_bytes s.stamp in
    let y = slots_bytes s.slots in
    let r = readers_bytes s.readers in
    let n = numbers_bytes s.reports in
    let z = r ++ n in
    let p₁ = back u (y ++ z) 13 (i + slots_place) (length_stamp s.stamp) refl p in
    let p₂ = back y z slots_size (i + readers_place) (length_slots s.slots) (omega arith) p₁ in
    let a = stamp_at_lem l i s.stamp t.stamp (front u (y ++ z) p) in
    let b = slots_at_lem l (i + slots_place) s.slots t.slots (front y z p₁) in
    let p₃ = back r n readers_size (i + reports_place) (length_readers s.readers) (omega arith) p₂ in
    let c = readers_at_lem l (i + readers_place) s.readers t.readers (front r n p₂) in
    let d = numbers_at_lem l (i + reports_place) s.reports t.reports p₃ in
    λ k. record { stamp = a k; slots = b k; readers = c k; reports = d k }

-- a record that is written as bytes reads back
pub server_back : (s : Server) → TypedServer s → server_in (server_bytes s) ≡ s
unfolding server_in
server_back s t = server_at_lem (server_bytes s) 0 s t (alone (server_bytes s))

-- and so it does from an area in which it was stored
pub server_stored : (l : List ℕ) (i : ℕ) (s : Server) → TypedServer s → i + server_size ≤ length l → server_at (sets l i (server_bytes s)) i ≡ s
server_stored l i s t h =
    let k : i + length (server_bytes s) ≤ length l = rw length_server h in
    server_at_lem (sets l i (server_bytes s)) i s t (stored l i (server_bytes s) k)
