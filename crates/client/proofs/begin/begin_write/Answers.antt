use Rattle.client.proofs.Beginnings.{write_facts, begin_refused, begin_opened}
use Rattle.client_rules.specs.Beginning.{write_beginning, write_begun, write_test}
use Rattle.client.proofs.begin.begin_write.Goals as goal

pub returns-in-Err : goal.returns-in-Err
unfolding write_beginning write_begun write_test
returns-in-Err c = begin_refused _ _ _ _ _ _ _ _ c.write_test-verdict.ensures _ c.in-Err.is

pub open_write-requires : goal.open_write-requires
open_write-requires c = write_facts _ _ _ _ _ c.args.s.phase _ c.in_default.is _ _ c.write_test-verdict.ensures

pub returns : goal.returns
unfolding write_beginning write_begun write_test
returns c = begin_opened _ _ _ _ _ _ _ _ c.write_test-verdict.ensures _ c.in_default.is c.open_write.ensures
