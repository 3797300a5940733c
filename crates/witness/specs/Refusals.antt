-- A call is refused with document 01's number: by what its promise says that it answers. These are definitions.
use Rattle.std.specs.Prelude.{ℕ, ◌≡◌}
use Rattle.area.specs.Responses.{turned_down}
use Rattle.server_rules.specs.Delivery as SD
use Rattle.client_rules.specs.Delivery as CD
use Rattle.client_rules.specs.Beginning as CB
use Rattle.runs.specs.World.{Setup, to_server, to_client, begin_read, begin_write, initial_of, lent_to, run}
use Rattle.runs.specs.Events.{Event}

module _ (Z : Setup) where
  open Z use {H, g}

  abbrev pub Refuses : ℕ → Event
  Refuses n ks (to_server i from f out to) =
      (SD.delivery H g i ((run Z ks).servers i).server ((run Z ks).servers i).area (initial_of Z i) from f out to).reply ≡ turned_down n
  Refuses n ks (to_client c from f lent result out to) =
      (CD.delivery H g c ((run Z ks).clients c).client ((run Z ks).clients c).area (lent_to Z (run Z ks) c lent) from f result out to).answer
      ≡ turned_down n
  Refuses n ks (begin_read c out to) = (CB.read_beginning g c ((run Z ks).clients c).client out to).answer ≡ turned_down n
  Refuses n ks (begin_write c v out to) = (CB.write_beginning g c ((run Z ks).clients c).client v out to).answer ≡ turned_down n
