-- A client's record as the rules see it. These are definitions.
use Rattle.std.specs.Prelude.{ℕ, zero, suc, max, Bool, true, false, List, [], get_or, set, replicate}
use Rattle.frame.specs.Stamps.{zero_stamp}
use Rattle.client_rules.specs.declared.Phase.{Phase}
use Rattle.client_rules.specs.declared.Row.{Row}
use Rattle.client_rules.specs.declared.Client.{Client}
use Rattle.client_rules.specs.declared.Phase.TheVariants as F

-- ---- fresh

unfoldable pub fresh_row : Row
fresh_row = record { count = 0; stamps = replicate 4 zero_stamp }

unfoldable pub fresh_client : Client
fresh_client = record {
  writes = 0;
  reads = 0;
  closed = false;
  phase = F.Idle;
  heard = replicate 11 false;
  times = replicate 11 0;
  rows = replicate 11 fresh_row;
  reports = replicate 11 0;
}

-- ---- phases

abbrev pub idle : Phase → Bool
idle F.Idle = true
idle F.Asking = false
idle F.Acking = false
idle F.Reading = false

abbrev pub asking : Phase → Bool
asking F.Idle = false
asking F.Asking = true
asking F.Acking = false
asking F.Reading = false

abbrev pub acking : Phase → Bool
acking F.Idle = false
acking F.Asking = false
acking F.Acking = true
acking F.Reading = false

abbrev pub reading : Phase → Bool
reading F.Idle = false
reading F.Asking = false
reading F.Acking = false
reading F.Reading = true

abbrev pub writing : Phase → Bool
writing F.Idle = false
writing F.Asking = true
writing F.Acking = true
writing F.Reading = false

-- ---- what server j has in the arrays

-- what lies past an array's end
abbrev pub no_row : Row
no_row = record { count = 0; stamps = [] }

abbrev pub row_of : Client → ℕ → Row
row_of s j = get_or s.rows j no_row

-- whether its stamp or ack was counted
abbrev pub heard_of : Client → ℕ → Bool
heard_of s j = get_or s.heard j false

-- the time of its stamp
abbrev pub reply_of : Client → ℕ → ℕ
reply_of s j = get_or s.times j 0

-- the highest time that it reported
abbrev pub report_of : Client → ℕ → ℕ
report_of s j = get_or s.reports j 0

-- the largest of f 1 to f n
unfoldable pub largest : (ℕ → ℕ) → ℕ → ℕ
largest f zero = 0
largest f (suc j) = max (f (suc j)) (largest f j)

-- ---- the record with a part changed

-- in a phase, with what that phase counts
abbrev pub in_phase : Client → Phase → List Bool → List ℕ → Client
in_phase s p h ts = record { writes = s.writes; reads = s.reads; closed = s.closed; phase = p; heard = h; times = ts; rows = s.rows; reports = s.reports }

-- out of stamps
abbrev pub shut : Client → Client
shut s = record {
  writes = s.writes;
  reads = s.reads;
  closed = true;
  phase = F.Idle;
  heard = s.heard;
  times = s.times;
  rows = s.rows;
  reports = s.reports;
}

abbrev pub with_row : Client → ℕ → Row → Client
with_row s j r = record {
  writes = s.writes;
  reads = s.reads;
  closed = s.closed;
  phase = s.phase;
  heard = s.heard;
  times = s.times;
  rows = set s.rows j r;
  reports = s.reports;
}

-- server j reported T; "the highest from each server is kept, across operations"
abbrev pub with_report : Client → ℕ → ℕ → Client
with_report s j T = record {
  writes = s.writes;
  reads = s.reads;
  closed = s.closed;
  phase = s.phase;
  heard = s.heard;
  times = s.times;
  rows = s.rows;
  reports = set s.reports j (max (report_of s j) T);
}
