-- The place stays within the area.
use Rattle.std.proofs.Common.{◌≤◌, length}
use Rattle.party_cases.proofs.shown.sent_bytes.Given as goal

abbrev pub invariant-loop : goal.invariant-loop
invariant-loop l = l.at ≤ length l.out
