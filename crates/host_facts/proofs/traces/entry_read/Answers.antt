-- By what the reading and its answer promise. Assumes nothing.
use mathlib.Core.Path.{ap, ◌∙◌}
use Rattle.host_facts.specs.Traces.{reading_answer, entry_read_call}
use Rattle.host_facts.proofs.traces.entry_read.Goals as goal

pub returns : goal.returns
unfolding entry_read_call
returns c = c.reading_answer.ensures ∙ ap reading_answer c.read_entry.ensures
