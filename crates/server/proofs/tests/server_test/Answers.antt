use mathlib.Core.Bool.{not}
use Rattle.frame.proofs.PartyLaws.{server_number}
use borrow.Author.Tests.{not-true, not-false}
use mathlib.Core.Path.{ap, sym, ◌∙◌}
use Rattle.area.specs.Area.{pick}
use native.Mathlib.Omega.{arith}
use Rattle.server.proofs.tests.server_test.Goals as goal

pub returns-then-not-from_server : goal.returns-then-not-from_server
unfolding pick
returns-then-not-from_server c = rw (sym c.from_server.ensures ∙ not-true _ (ap not c.if-not-from_server.true))

pub bounds-on-j : goal.bounds-on-j
bounds-on-j c =
    let a = c.args in
    let e = sym c.from_server.ensures ∙ not-false _ (ap not c.if-not-from_server.false) in
    let h = server_number a.g a.from e in
    omega (arith, h.1, c.number_in-j.ensures, c.requires.servers_high)

pub returns : goal.returns
unfolding pick
returns c =
    let e = sym c.from_server.ensures ∙ not-false _ (ap not c.if-not-from_server.false) in
    rw (e, ← c.number_in-j.ensures) c.open_test.ensures
