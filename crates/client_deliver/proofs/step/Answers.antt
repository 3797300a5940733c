-- By the kind: a stamp, an ack, a value, a report, or none that is for clients. Assumes nothing.
use Rattle.client_deliver.proofs.Deliveries.{of_stamp, of_ack, of_value, of_report, of_others, stamp_long, value_long, report_long}
use mathlib.Core.Path.{◌≡◌}
use borrow.Author.Rules.{rules}
use Rattle.client_deliver.proofs.step.Goals as goal

pub on_stamp-requires : goal.on_stamp-requires
on_stamp-requires c =
    let A = c.requires in
    (record { bounded = A.lent.bounded; whole = A.whole; room = A.lent.room }, stamp_long c.args.k.params _ _ A.frame_is c.in-2.is)

pub returns-in-2 : goal.returns-in-2
returns-in-2 c =
    let a = c.args in
    of_stamp a.k.params a.k.me a.s a.area.now a.value.now a.k.from a.f.now a.res.now _ _ a.k.header _ c.in-2.is (c.on_stamp.ensures a.area.now a.res.now)

pub returns-in-9 : goal.returns-in-9
returns-in-9 c =
    let a = c.args in
    of_ack a.k.params a.k.me a.s a.area.now a.value.now a.k.from a.f.now a.res.now _ _ a.k.header _ c.in-9.is (c.on_ack.ensures a.area.now a.res.now a.out.now a.to.now)

pub on_value-requires : goal.on_value-requires
on_value-requires c = (c.requires.lent, value_long c.args.k.params _ _ c.requires.frame_is c.in-11.is)

pub returns-in-11 : goal.returns-in-11
returns-in-11 c =
    let a = c.args in
    of_value a.k.params a.k.me a.s a.area.now a.value.now a.k.from a.f.now a.res.now _ _ a.k.header _ c.in-11.is c.on_value.ensures

pub on_report-requires : goal.on_report-requires
on_report-requires c =
    let A = c.requires in
    (record { bounded = A.lent.bounded; whole = A.whole; room = A.lent.room }, report_long c.args.k.params _ _ A.frame_is c.in-13.is)

pub returns-in-13 : goal.returns-in-13
returns-in-13 c =
    let a = c.args in
    of_report a.k.params a.k.me a.s a.area.now a.value.now a.k.from a.f.now a.res.now _ _ a.k.header _ c.in-13.is (c.on_report.ensures a.area.now a.res.now)

pub returns-in_default : goal.returns-in_default
returns-in_default c =
    let a = c.args in
    let A = c.requires in
    let i : a.k.header.kind ≡ 2 → ⊥ = search rules in
    let j : a.k.header.kind ≡ 9 → ⊥ = search rules in
    let k : a.k.header.kind ≡ 11 → ⊥ = search rules in
    let n : a.k.header.kind ≡ 13 → ⊥ = search rules in
    of_others a.k.params a.k.me a.s a.area.now a.value.now a.k.from a.f.now a.res.now _ _ a.k.header i j k n A.kind_low A.kind_high A.kind_used
