-- A part of a layout is stored by storing its own parts one after the other. Assumes nothing.
use Prim.Native.Nat.{ℕ, ◌+◌}
use native.Mathlib.Omega.{arith}
use mathlib.Core.Path.{◌≡◌, refl}
use mathlib.Core.Bool.{Bool}
use mathlib.Core.List.{List, [], ◌∷◌, ◌++◌}
use lib.Seq.{sets}
use Rattle.area.specs.Numbers.{bytes4, bytes8}
use Rattle.area.proofs.Numbers.{length_bytes4, length_bytes8}
use Rattle.frame.specs.declared.Stamp.{Stamp}
use Rattle.frame.specs.Frames.{stamp_bytes}
use Rattle.frame.proofs.RoundTrip.{length_stamp}
use Rattle.client_rules.specs.declared.Phase.{Phase}
use Rattle.client_rules.specs.declared.Row.{Row}
use Rattle.client_rules.specs.declared.Client.{Client}
use Rattle.server_rules.specs.declared.BlockPart.{BlockPart}
use Rattle.server_rules.specs.declared.Slot.{Slot}
use Rattle.server_rules.specs.declared.Reader.{Reader}
use Rattle.server_rules.specs.declared.Server.{Server}
use Rattle.layout.specs.Fields.{flag_byte, flags_bytes, numbers_bytes}
use Rattle.layout.specs.Clients.{phase_byte, stamps_bytes, kept_bytes, rows_bytes, head_bytes, client_bytes}
use Rattle.layout.specs.Servers.{slots_size, readers_size, readers_place, reports_place, marks_bytes, votes_bytes, blocks_bytes}
use Rattle.layout.specs.Servers.{slot_bytes, slots_bytes, reader_bytes, readers_bytes, server_bytes}
use Rattle.layout.proofs.Places.{onto}
use Rattle.layout.proofs.Lengths.{length_flags, length_numbers, length_head, length_marks, length_votes, length_slots, length_rows, length_readers}

module _ (d l m : List ℕ) (i : ℕ) where
  pub kept_put : (r : Row) → l ≡ sets d i (bytes8 r.count) → m ≡ sets l (i + 8) (stamps_bytes r.stamps) → m ≡ sets d i (kept_bytes r)
  unfolding kept_bytes
  kept_put r p q = onto d l m i 8 (i + 8) (bytes8 r.count) (stamps_bytes r.stamps) (length_bytes8 r.count) refl p q

  pub votes_put : (e r : List Bool) → l ≡ sets d i (flags_bytes e) → m ≡ sets l (i + 11) (flags_bytes r) → m ≡ sets d i (votes_bytes e r)
  unfolding votes_bytes
  votes_put e r p q = onto d l m i 11 (i + 11) (flags_bytes e) (flags_bytes r) (length_flags e) refl p q

  pub slot_put : (x : Slot) → l ≡ sets d i (bytes8 x.sequence) → m ≡ sets l (i + 8) (blocks_bytes x.blocks) → m ≡ sets d i (slot_bytes x)
  unfolding slot_bytes
  slot_put x p q = onto d l m i 8 (i + 8) (bytes8 x.sequence) (blocks_bytes x.blocks) (length_bytes8 x.sequence) refl p q

  module _ (n : List ℕ) where
    pub stamp_put : (s : Stamp) → l ≡ sets d i (bytes8 s.time) → m ≡ sets l (i + 8) (s.writer ∷ []) → n ≡ sets m (i + 9) (bytes4 s.sequence)
        → n ≡ sets d i (stamp_bytes s)
    unfolding stamp_bytes
    stamp_put s p q r =
        let u : n ≡ sets l (i + 8) ((s.writer ∷ []) ++ bytes4 s.sequence) =
        onto l m n (i + 8) 1 (i + 9) (s.writer ∷ []) (bytes4 s.sequence) refl (omega arith) q r in
        onto d l n i 8 (i + 8) (bytes8 s.time) (s.writer ∷ bytes4 s.sequence) (length_bytes8 s.time) refl p u

    pub marks_put : (a b c : Bool) (x y z : ℕ) → x ≡ flag_byte a → y ≡ flag_byte b → z ≡ flag_byte c
        → l ≡ sets d i (x ∷ []) → m ≡ sets l (i + 1) (y ∷ []) → n ≡ sets m (i + 2) (z ∷ []) → n ≡ sets d i (marks_bytes a b c)
    unfolding marks_bytes
    marks_put a b c x y z e f g p q r =
        let u : n ≡ sets l (i + 1) (y ∷ z ∷ []) = onto l m n (i + 1) 1 (i + 2) (y ∷ []) (z ∷ []) refl (omega arith) q r in
        let v : n ≡ sets d i (x ∷ y ∷ z ∷ []) = onto d l n i 1 (i + 1) (x ∷ []) (y ∷ z ∷ []) refl refl p u in
        rw (e, f, g) at v

    pub reader_put : (s : Reader) (x : ℕ) → x ≡ flag_byte s.listening → l ≡ sets d i (bytes4 s.sequence) → m ≡ sets l (i + 4) (x ∷ [])
        → n ≡ sets m (i + 5) (stamp_bytes s.noted) → n ≡ sets d i (reader_bytes s)
    unfolding reader_bytes
    reader_put s x e p q r =
        let u : n ≡ sets l (i + 4) (x ∷ stamp_bytes s.noted) = onto l m n (i + 4) 1 (i + 5) (x ∷ []) (stamp_bytes s.noted) refl (omega arith) q r in
        let v : n ≡ sets d i (bytes4 s.sequence ++ (x ∷ stamp_bytes s.noted)) =
        onto d l n i 4 (i + 4) (bytes4 s.sequence) (x ∷ stamp_bytes s.noted) (length_bytes4 s.sequence) refl p u in
        rw e at v

    module _ (o : List ℕ) where
      pub server_put : (s : Server) → l ≡ sets d i (stamp_bytes s.stamp) → m ≡ sets l (i + 13) (slots_bytes s.slots)
          → n ≡ sets m (i + readers_place) (readers_bytes s.readers) → o ≡ sets n (i + reports_place) (numbers_bytes s.reports) → o ≡ sets d i (server_bytes s)
      unfolding server_bytes
      server_put s p q r t =
          let v = onto m n o (i + readers_place) readers_size (i + reports_place) (readers_bytes s.readers) (numbers_bytes s.reports)
          (length_readers s.readers) (omega arith) r t in
          let u = onto l m o (i + 13) slots_size (i + readers_place) (slots_bytes s.slots) (readers_bytes s.readers ++ numbers_bytes s.reports)
          (length_slots s.slots) (omega arith) q v in
          onto d l o i 13 (i + 13) (stamp_bytes s.stamp) (slots_bytes s.slots ++ (readers_bytes s.readers ++ numbers_bytes s.reports))
          (length_stamp s.stamp) refl p u

      pub head_put : (w r : ℕ) (b : Bool) (p : Phase) (x y : ℕ) → x ≡ flag_byte b → y ≡ phase_byte p
          → l ≡ sets d i (bytes4 w) → m ≡ sets l (i + 4) (bytes4 r) → n ≡ sets m (i + 8) (x ∷ []) → o ≡ sets n (i + 9) (y ∷ [])
          → o ≡ sets d i (head_bytes w r b p)
      unfolding head_bytes
      head_put w r b p x y e f p₁ p₂ p₃ p₄ =
          let u : o ≡ sets m (i + 8) (x ∷ y ∷ []) = onto m n o (i + 8) 1 (i + 9) (x ∷ []) (y ∷ []) refl (omega arith) p₃ p₄ in
          let v = onto l m o (i + 4) 4 (i + 8) (bytes4 r) (x ∷ y ∷ []) (length_bytes4 r) (omega arith) p₂ u in
          rw (e, f) at (onto d l o i 4 (i + 4) (bytes4 w) (bytes4 r ++ (x ∷ y ∷ [])) (length_bytes4 w) refl p₁ v)

      pub client_put : (k : List ℕ) (s : Client) → l ≡ sets d i (head_bytes s.writes s.reads s.closed s.phase)
          → m ≡ sets l (i + 10) (flags_bytes s.heard)
          → n ≡ sets m (i + 21) (numbers_bytes s.times) → o ≡ sets n (i + 109) (rows_bytes s.rows) → k ≡ sets o (i + 769) (numbers_bytes s.reports)
          → k ≡ sets d i (client_bytes s)
      unfolding client_bytes
      client_put k s p₁ p₂ p₃ p₄ p₅ =
          let z = rows_bytes s.rows ++ numbers_bytes s.reports in
          let w = onto n o k (i + 109) 660 (i + 769) (rows_bytes s.rows) (numbers_bytes s.reports) (length_rows s.rows) (omega arith) p₄ p₅ in
          let u = onto m n k (i + 21) 88 (i + 109) (numbers_bytes s.times) z (length_numbers s.times) (omega arith) p₃ w in
          let v = onto l m k (i + 10) 11 (i + 21) (flags_bytes s.heard) (numbers_bytes s.times ++ z) (length_flags s.heard) (omega arith) p₂ u in
          onto d l k i 10 (i + 10) (head_bytes s.writes s.reads s.closed s.phase)
          (flags_bytes s.heard ++ (numbers_bytes s.times ++ z))
          (length_head s.writes s.reads s.closed s.phase) refl p₁ v

      pub blocks_put : (k : List ℕ) (b : BlockPart) → l ≡ sets d i (marks_bytes b.sent b.ready b.complete) → m ≡ sets l (i + 3) (bytes8 b.time)
          → n ≡ sets m (i + 11) (votes_bytes b.echoes b.readies) → o ≡ sets n (i + 33) (numbers_bytes b.echoed)
          → k ≡ sets o (i + 121) (numbers_bytes b.readied) → k ≡ sets d i (blocks_bytes b)
      unfolding blocks_bytes
      blocks_put k b p₁ p₂ p₃ p₄ p₅ =
          let x = votes_bytes b.echoes b.readies in
          let y = numbers_bytes b.echoed in
          let z = numbers_bytes b.readied in
          let u = onto n o k (i + 33) 88 (i + 121) y z (length_numbers b.echoed) (omega arith) p₄ p₅ in
          let v = onto m n k (i + 11) 22 (i + 33) x (y ++ z) (length_votes b.echoes b.readies) (omega arith) p₃ u in
          let w = onto l m k (i + 3) 8 (i + 11) (bytes8 b.time) (x ++ (y ++ z)) (length_bytes8 b.time) (omega arith) p₂ v in
          onto d l k i 3 (i + 3) (marks_bytes b.sent b.ready b.complete) (bytes8 b.time ++ (x ++ (y ++ z)))
          (length_marks b.sent b.ready b.complete) refl p₁ w
