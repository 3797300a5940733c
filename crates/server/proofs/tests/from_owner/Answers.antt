use mathlib.Core.Path.{refl}
use Rattle.server.proofs.tests.from_owner.Goals as goal

pub returns-in-Client : goal.returns-in-Client
returns-in-Client c = rw c.in-Client.is refl

pub returns-in-Server : goal.returns-in-Server
returns-in-Server c = rw c.in-Server.is refl
