-- By the kind. Assumes nothing.
use mathlib.Core.Path.{ap, sym, ◌∙◌}
use mathlib.Core.Bool.{Bool}
use Rattle.area.specs.Area.{pick}
use Rattle.server_rules.specs.State.{with_blocks}
use Rattle.server_blocks.specs.Stage.{vote_counted}
use Rattle.server_blocks.proofs.storing.count_vote.Goals as goal

pub returns-then-echo : goal.returns-then-echo
unfolding vote_counted pick
returns-then-echo c =
    let a = c.args in
    c.block_echo.ensures ∙ ap (λ (b : Bool). with_blocks a.x (vote_counted b a.x.blocks a.j a.time)) (sym c.if-echo.true)

pub returns : goal.returns
unfolding vote_counted pick
returns c =
    let a = c.args in
    c.block_ready.ensures ∙ ap (λ (b : Bool). with_blocks a.x (vote_counted b a.x.blocks a.j a.time)) (sym c.if-echo.false)
