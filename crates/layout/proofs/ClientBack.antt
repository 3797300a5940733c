-- A client's record reads back from its bytes, wherever they are in a list. Assumes nothing.
use Prim.Native.Nat.{ℕ, ◌+◌, ◌≤◌}
use native.Mathlib.Omega.{arith}
use mathlib.Core.Path.{◌≡◌, refl, ap, ◌∙◌}
use mathlib.Core.Bool.{Bool}
use mathlib.Core.List.{List, [], ◌∷◌, ◌++◌}
use lib.ListN.{length, get_or}
use lib.Seq.{sets}
use Rattle.area.specs.Area.{pick}
use Rattle.area.specs.Numbers.{be4, bytes4, bytes8}
use Rattle.area.proofs.Numbers.{length_bytes4, length_bytes8}
use Rattle.frame.specs.declared.Stamp.{Stamp}
use Rattle.frame.specs.Frames.{stamp_bytes}
use Rattle.frame.proofs.RoundTrip.{length_stamp}
use Rattle.frame.specs.Stamps.{zero_stamp}
use Rattle.client_rules.specs.declared.Phase.{Phase}
use Rattle.client_rules.specs.declared.Phase.TheVariants as F
use Rattle.client_rules.specs.declared.Row.{Row}
use Rattle.client_rules.specs.declared.Client.{Client}
use Rattle.client_rules.specs.State.{no_row}
use Rattle.layout.specs.Fields.{flag_byte, flag_at, stamp_at, flags_bytes, numbers_bytes}
use Rattle.layout.specs.Clients.{client_size, phase_byte, phase_in, stamps_bytes, stamps_at, kept_bytes, kept_at}
use Rattle.layout.specs.Clients.{rows_bytes, rows_at, head_bytes, client_bytes, client_at, client_in}
use Rattle.layout.specs.Typed.{Word, TypedStamp, TypedRow, TypedClient}
use Rattle.server_rules.specs.WellFormed.{Array}
use Rattle.layout.proofs.Lengths.{length_flags, length_numbers, length_rows, length_kept, length_head, length_client}
use Rattle.layout.proofs.Reading.{Stands, front, back, alone, stored, byte_at, flag_at_lem, word_at, long_at, stamp_at_lem, row_at_lem, flags_at_lem, numbers_at_lem}

phase_back : (p : Phase) → phase_in (phase_byte p) ≡ p
unfolding phase_in phase_byte pick
phase_back F.Idle = refl
phase_back F.Asking = refl
phase_back F.Acking = refl
phase_back F.Reading = refl

stamps_at_lem : (l : List ℕ) (i : ℕ) (xs : List Stamp) → Array 4 TypedStamp xs → Stands l i (stamps_bytes xs) → stamps_at l i ≡ xs
unfolding stamps_bytes stamps_at
stamps_at_lem l i xs t p = row_at_lem stamp_bytes stamp_at 4 13 zero_stamp TypedStamp length_stamp stamp_at_lem l i xs t p

kept_at_lem : (l : List ℕ) (i : ℕ) (r : Row) → TypedRow r → Stands l i (kept_bytes r) → kept_at l i ≡ r
unfolding kept_at kept_bytes
kept_at_lem l i r t p =
    let a = long_at l i r.count t.count (front (bytes8 r.count) (stamps_bytes r.stamps) p) in
    let q = back (bytes8 r.count) (stamps_bytes r.stamps) 8 (i + 8) (length_bytes8 r.count) refl p in
    let b = stamps_at_lem l (i + 8) r.stamps t.stamps q in
    λ k. record { count = a k; stamps = b k }

rows_at_lem : (l : List ℕ) (i : ℕ) (xs : List Row) → Array 11 TypedRow xs → Stands l i (rows_bytes xs) → rows_at l i ≡ xs
unfolding rows_bytes rows_at
rows_at_lem l i xs t p = row_at_lem kept_bytes kept_at 11 60 no_row TypedRow length_kept kept_at_lem l i xs t p

-- the fields before the arrays
record Head (l : List ℕ) (i w r : ℕ) (b : Bool) (p : Phase) : Type 0 where
  pub writes : be4 l i ≡ w
  pub reads : be4 l (i + 4) ≡ r
  pub closed : flag_at l (i + 8) ≡ b
  pub phase : phase_in (get_or l (i + 9) 0) ≡ p

head_at : (l : List ℕ) (i w r : ℕ) (b : Bool) (p : Phase) → Word w → Word r → Stands l i (head_bytes w r b p) → Head l i w r b p
unfolding head_bytes
head_at l i w r b p hw hr s =
    let z = flag_byte b ∷ phase_byte p ∷ [] in
    let s₁ = back (bytes4 w) (bytes4 r ++ z) 4 (i + 4) (length_bytes4 w) refl s in
    let s₂ = back (bytes4 r) z 4 (i + 8) (length_bytes4 r) (omega arith) s₁ in
    let s₃ = back (flag_byte b ∷ []) (phase_byte p ∷ []) 1 (i + 9) refl (omega arith) s₂ in
    record {
      writes = word_at l i w hw (front (bytes4 w) (bytes4 r ++ z) s);
      reads = word_at l (i + 4) r hr (front (bytes4 r) z s₁);
      closed = flag_at_lem l (i + 8) b (front (flag_byte b ∷ []) (phase_byte p ∷ []) s₂);
      phase = ap phase_in (byte_at l (i + 9) (phase_byte p) s₃) ∙ phase_back p;
    }

pub client_at_lem : (l : List ℕ) (i : ℕ) (s : Client) → TypedClient s → Stands l i (client_bytes s) → client_at l i ≡ s
unfolding client_at client_bytes
client_at_lem l i s t p =
    let x = head_bytes s.writes s.reads s.closed s.phase in
    let z = rows_bytes s.rows ++ numbers_bytes s.reports in
    let y = numbers_bytes s.times ++ z in
    let p₁ = back x (flags_bytes s.heard ++ y) 10 (i + 10) (length_head s.writes s.reads s.closed s.phase) refl p in
    let p₂ = back (flags_bytes s.heard) y 11 (i + 21) (length_flags s.heard) (omega arith) p₁ in
    let p₃ = back (numbers_bytes s.times) z 88 (i + 109) (length_numbers s.times) (omega arith) p₂ in
    let p₄ = back (rows_bytes s.rows) (numbers_bytes s.reports) 660 (i + 769) (length_rows s.rows) (omega arith) p₃ in
    let a = head_at l i s.writes s.reads s.closed s.phase t.writes t.reads (front x (flags_bytes s.heard ++ y) p) in
    let b = flags_at_lem l (i + 10) s.heard t.heard (front (flags_bytes s.heard) y p₁) in
    let c = numbers_at_lem l (i + 21) s.times t.times (front (numbers_bytes s.times) z p₂) in
    let d = rows_at_lem l (i + 109) s.rows t.rows (front (rows_bytes s.rows) (numbers_bytes s.reports) p₃) in
    let e = numbers_at_lem l (i + 769) s.reports t.reports p₄ in
    λ k. record {
      writes = a.writes k;
      reads = a.reads k;
      closed = a.closed k;
      phase = a.phase k;
      heard = b k;
      times = c k;
      rows = d k;
      reports = e k;
    }

-- a record that is written as bytes reads back
pub client_back : (s : Client) → TypedClient s → client_in (client_bytes s) ≡ s
unfolding client_in
client_back s t = client_at_lem (client_bytes s) 0 s t (alone (client_bytes s))

-- and so it does from an area in which it was stored
pub client_stored : (l : List ℕ) (i : ℕ) (s : Client) → TypedClient s → i + client_size ≤ length l → client_at (sets l i (client_bytes s)) i ≡ s
client_stored l i s t h =
    let k : i + length (client_bytes s) ≤ length l = rw length_client h in
    client_at_lem (sets l i (client_bytes s)) i s t (stored l i (client_bytes s) k)
