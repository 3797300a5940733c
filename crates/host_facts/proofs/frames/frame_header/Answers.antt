-- By what the opening and its answer promise. Assumes nothing.
use Rattle.host_facts.proofs.FrameLaws.{header_done}
use Rattle.host_facts.proofs.frames.frame_header.Goals as goal

pub returns : goal.returns
returns c = header_done _ _ _ _ c.opened_under.ensures c.header_answer.ensures
