use mathlib.Core.Path.{ap}
use mathlib.Core.Bool.{not, ◌&&◌}
use lib.Dec.{eqb}
use Rattle.client.proofs.Choices.{late_phase, late_number, late_again, in_time}
use Rattle.client.proofs.tests.awaited_test.Goals as goal

pub returns-then-not-fit : goal.returns-then-not-fit
returns-then-not-fit c = let a = c.args in late_phase a.fit (eqb a.q a.last && not a.again) (ap not c.if-not-fit.true)

pub returns-then-q-last : goal.returns-then-q-last
returns-then-q-last c =
    let a = c.args in
    late_number a.fit a.q a.last a.again (ap not c.if-not-fit.false) c.if-q-last.true

pub returns-then-again : goal.returns-then-again
returns-then-again c =
    let a = c.args in
    late_again a.fit a.q a.last a.again (ap not c.if-not-fit.false) c.if-q-last.false c.if-again.true

pub returns : goal.returns
returns c =
    let a = c.args in
    in_time a.fit a.q a.last a.again (ap not c.if-not-fit.false) c.if-q-last.false c.if-again.false
