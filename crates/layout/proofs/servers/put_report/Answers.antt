use Rattle.layout.specs.Servers.{report_sets}
use Rattle.layout.proofs.servers.put_report.Goals as goal

-- src/servers.rt:291:1
pub returns : goal.returns
unfolding report_sets
returns c = cc
