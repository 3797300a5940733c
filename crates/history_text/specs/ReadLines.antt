-- How the code reads a line at the front of a text, and a text line by line. These are the stages of `judge_text`; Lines.antt says what a line is, and
-- proofs/Link.antt shows that both agree. Assumes nothing: these are definitions.
use Rattle.std.specs.Prelude.{ℕ, zero, suc, ◌+◌, ◌≤◌, Bool, true, false, List, [], ◌∷◌, eqb, ltb, length, get_or, drop, Option, Some, None}
use Rattle.area.specs.Area.{pick}
use Rattle.order.specs.declared.operation.Operation.{Operation}
use Rattle.history_text.specs.Lines.{Lines, Records, Malformed, record_then}
use Rattle.history_text.specs.ReadNumbers.{then_value, then_number, field_of}
use Rattle.history_text.specs.declared.line.Interval.{Interval}
use Rattle.history_text.specs.declared.line.Stamp.{Stamp}
use Rattle.history_text.specs.declared.line.Line.{Line}

-- parts of a line that were read, and how many bytes they take
abbrev pub interval_with : ℕ → ℕ → ℕ → Option Interval
interval_with start end used = Some (record { start = start; end = end; used = used })

abbrev pub stamp_with : ℕ → ℕ → ℕ → ℕ → Option Stamp
stamp_with time writer sequence used = Some (record { time = time; writer = writer; sequence = sequence; used = used })

abbrev pub line_with : Operation → ℕ → Option Line
line_with a used = Some (record { operation = a; used = used })

-- whether a kind is that of a write: R or W
unfoldable pub kind_at : ℕ → Option Bool
kind_at c = pick (eqb c 82) (Some false) (pick (eqb c 87) (Some true) None)

-- start and end, "32 bits", and how many bytes they take; 32 is a space
unfoldable pub interval_of : List ℕ → Option Interval
interval_of text =
    then_number (field_of 4294967295 32 text) None (λ start a.
    then_number (field_of 4294967295 32 (drop a text)) None (λ end b.
    interval_with start end (a + b)))

-- the stamp: time of 64 bits, writer at most 8, sequence of 32 bits
unfoldable pub stamp_of : List ℕ → Option Stamp
stamp_of text =
    then_number (field_of 18446744073709551615 32 text) None (λ time a.
    then_number (field_of 8 32 (drop a text)) None (λ writer b.
    then_number (field_of 4294967295 32 (drop (a + b) text)) None (λ sequence d.
    stamp_with time writer sequence (a + b + d))))

unfoldable pub then_interval : {A : Type 0} → Option Interval → A → (ℕ → ℕ → ℕ → A) → A
then_interval (Some i) bad f = f i.start i.end i.used
then_interval None bad f = bad

unfoldable pub then_stamp : {A : Type 0} → Option Stamp → A → (ℕ → ℕ → ℕ → ℕ → A) → A
then_stamp (Some p) bad f = f p.time p.writer p.sequence p.used
then_stamp None bad f = bad

-- an operation at the front of a text: kind, interval, stamp, and the caller, at most 8; 10 is a newline
unfoldable pub operation_of : List ℕ → Option Line
operation_of text =
    pick (ltb (length text) 2) None
    (then_value (kind_at (get_or text 0 0)) None (λ write.
    pick (eqb (get_or text 1 0) 32)
    (then_interval (interval_of (drop 2 text)) None (λ start end a.
    then_stamp (stamp_of (drop (2 + a) text)) None (λ time writer sequence b.
    then_number (field_of 8 10 (drop (2 + a + b) text)) None (λ caller d.
    line_with
    (record { write = write; start = start; end = end; time = time; writer = writer; sequence = sequence; caller = caller })
    (2 + a + b + d)))))
    None))

-- what was read takes no more bytes than there are
abbrev pub WithinInterval : ℕ → Option Interval → Type 0
WithinInterval room (Some i) = i.used ≤ room
WithinInterval room None = Unit {0}

abbrev pub WithinStamp : ℕ → Option Stamp → Type 0
WithinStamp room (Some p) = p.used ≤ room
WithinStamp room None = Unit {0}

abbrev pub WithinLine : ℕ → Option Line → Type 0
WithinLine room (Some l) = (1 ≤ l.used) × (l.used ≤ room)
WithinLine room None = Unit {0}

-- ---- the whole text

unfoldable pub then_line : {A : Type 0} → Option Line → A → (Operation → ℕ → A) → A
then_line (Some l) bad f = f l.operation l.used
then_line None bad f = bad

-- the lines of a text, at most n of them; a line takes at least one byte, so the text's length is enough for n
unfoldable pub lines_read : ℕ → List ℕ → Lines
lines_read zero [] = Records []
lines_read zero (c ∷ text) = Malformed
lines_read (suc n) [] = Records []
lines_read (suc n) (c ∷ text) = then_line (operation_of (c ∷ text)) Malformed (λ a used. record_then a (lines_read n (drop used (c ∷ text))))
