use native.Mathlib.Omega.{arith}
use Rattle.server_deliver.proofs.kinds.step.Goals as goal
use Rattle.server_deliver.proofs.kinds.step.Goals.{in_default-via-then-k-lt4, in_default-via-else-k-lt4+else-k-lt6}

pub step_of_report-requires : goal.step_of_report-requires
step_of_report-requires c = let P = c.requires in (P.0, P.2, c.in-13.is)

pub returns-in-13 : goal.returns-in-13
returns-in-13 c = c.step_of_report.ensures c.args.initial.now

pub step_of_vote-requires : goal.step_of_vote-requires
step_of_vote-requires c = let P = c.requires in (P.0, P.2, omega arith, omega arith)

pub returns-in-4 : goal.returns-in-4
returns-in-4 c = c.step_of_vote.ensures c.args.initial.now

pub step_of_scope-requires : goal.step_of_scope-requires
step_of_scope-requires c =
    let P = c.requires in (
      P.0,
      P.1,
      P.2,
      record {
        no_echo = λ e. elim c.in_default.branch [ in_default-via-then-k-lt4 w ↦ omega arith | in_default-via-else-k-lt4+else-k-lt6 w ↦ omega arith ];
        no_ready = λ e. elim c.in_default.branch [ in_default-via-then-k-lt4 w ↦ omega arith | in_default-via-else-k-lt4+else-k-lt6 w ↦ omega arith ];
        no_report = λ e. elim c.in_default.branch [ in_default-via-then-k-lt4 w ↦ omega arith | in_default-via-else-k-lt4+else-k-lt6 w ↦ omega arith ];
      },
    )

pub returns-in_default : goal.returns-in_default
returns-in_default c = c.step_of_scope.ensures
