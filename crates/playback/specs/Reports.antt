-- What the out area gets of the entries played. Document 02, F-8: "For each entry played the out area gets the answer's number (1 byte, 0 for a step),
-- the count of frames sent (2, big-endian) and each of these after its receiver's class and number". Assumes nothing: these are definitions.
use Rattle.std.specs.Prelude.{ℕ, List, [], ◌∷◌, ◌++◌, length}
use Rattle.area.specs.Responses.{Response}
use Rattle.area.specs.Numbers.{bytes2}
use Rattle.frame.specs.Messages.{Sending}
use Rattle.frame.specs.Frames.{build}
use Rattle.frame.specs.Outbox.{party_bytes}
use Rattle.server_rules.specs.Delivery.{reply_number}

-- frames, each "after its receiver's class and number"
unfoldable pub addressed : List Sending → List ℕ
addressed [] = []
addressed (x ∷ xs) = party_bytes x.receiver ++ (build x.says ++ addressed xs)

-- the reply to an entry, and what was sent
pub record Report : Type 0 where
  pub reply : Response ℕ
  pub sends : List Sending

unfoldable pub report_bytes : Report → List ℕ
report_bytes r = reply_number r.reply ∷ (bytes2 (length r.sends) ++ addressed r.sends)

unfoldable pub reports_bytes : List Report → List ℕ
reports_bytes [] = []
reports_bytes (r ∷ rs) = report_bytes r ++ reports_bytes rs
