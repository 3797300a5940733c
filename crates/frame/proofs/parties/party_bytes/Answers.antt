use Rattle.frame.proofs.PartyLaws.{client_bytes_lem, server_bytes_lem}
use Rattle.frame.proofs.parties.party_bytes.Goals as goal

pub returns-in-Client : goal.returns-in-Client
returns-in-Client c = client_bytes_lem _ _ c.in-Client.is

pub returns-in-Server : goal.returns-in-Server
returns-in-Server c = server_bytes_lem _ _ c.in-Server.is
