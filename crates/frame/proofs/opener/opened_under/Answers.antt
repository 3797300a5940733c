use Rattle.std.specs.Prelude.{Err}
use Rattle.frame.specs.Frames.{opening_response}
use mathlib.Core.Path.{◌≡◌, sym, ap, ◌∙◌}
use borrow.Author.Rules.{rules}
use Rattle.frame.proofs.Within.{bounded_of}
use Rattle.frame.proofs.Chain.{stop_bounds, within_bounds}
use Rattle.frame.proofs.opener.opened_under.Goals as goal

pub returns-in_err-bounds_test : goal.returns-in_err-bounds_test
returns-in_err-bounds_test c =
    let e : c.from_residual.result ≡ Err c.in_err-bounds_test.field-0.0 = search rules in
    ap opening_response e ∙ stop_bounds _ _ _ _ c.bounds_test.ensures c.in_err-bounds_test.was

pub open_frame-requires : goal.open_frame-requires
open_frame-requires c = bounded_of _ (sym c.bounds_test.ensures ∙ c.in_ok-bounds_test.was)

pub returns : goal.returns
returns c = within_bounds _ _ _ _ c.bounds_test.ensures c.in_ok-bounds_test.was c.open_frame.ensures
