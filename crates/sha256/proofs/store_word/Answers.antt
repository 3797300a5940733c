-- The indices are those of the standard, counted from t. Assumes nothing.
use Rattle.std.proofs.Common.{◌+◌, set, sym, ap, ◌∙◌}
use Rattle.sha256.proofs.Words.{word_from_lem}
use Rattle.sha256.specs.Steps.{stored}
use Rattle.sha256.proofs.store_word.Goals as goal

pub returns : goal.returns
unfolding stored
returns c =
    ap (set c.args.w.now (16 + c.args.t)) (c.next_word.ensures ∙ sym (word_from_lem c.args.w.now c.args.t))
