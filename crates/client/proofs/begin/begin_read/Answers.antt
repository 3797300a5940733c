use Rattle.client.proofs.Beginnings.{read_facts, begin_refused, begin_opened}
use Rattle.client_rules.specs.Beginning.{read_beginning, read_begun, read_test}
use Rattle.client.proofs.begin.begin_read.Goals as goal

pub returns-in-Err : goal.returns-in-Err
unfolding read_beginning read_begun read_test
returns-in-Err c = begin_refused _ _ _ _ _ _ _ _ c.read_test-verdict.ensures _ c.in-Err.is

pub open_read-requires : goal.open_read-requires
open_read-requires c = read_facts _ _ _ _ _ c.args.s.phase _ c.in_default.is c.read_test-verdict.ensures

pub returns : goal.returns
unfolding read_beginning read_begun read_test
returns c = begin_opened _ _ _ _ _ _ _ _ c.read_test-verdict.ensures _ c.in_default.is c.open_read.ensures
