-- So many count, or the write waits. Assumes nothing.
use mathlib.Core.Bool.{not}
use mathlib.Core.Path.{ap}
use Rattle.client_deliver.proofs.WriteLaws.{gather_waits, gather_goes}
use Rattle.client_deliver.proofs.writing.gather.Goals as goal

pub returns-then-not-is_gathered : goal.returns-then-not-is_gathered
returns-then-not-is_gathered c =
    let a = c.args in
    λ z l. gather_waits a.g a.me a.s a.value.now z l _ _ _ c.is_gathered.ensures (ap not c.if-not-is_gathered.true)

pub returns : goal.returns
returns c =
    let a = c.args in
    λ z l. gather_goes a.g a.me a.s a.value.now z l _ _ _ c.is_gathered.ensures _ (ap not c.if-not-is_gathered.false) (c.send_largest.ensures z l)
