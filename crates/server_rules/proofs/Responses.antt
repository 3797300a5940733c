-- What a server's reply says gives the reply back, so that no two say the same. Assumes nothing.
use Rattle.std.specs.Prelude.{Ok, Err}
use Prim.Native.Nat.{ℕ}
use mathlib.Core.Path.{◌≡◌, refl, ap}
use Rattle.area.specs.Responses.{Response, turned_down, gives}
use Rattle.frame.specs.Refusals.{refusal}
use Rattle.frame.proofs.Responses.{one_each}
use Rattle.server_rules.specs.Delivery.{Reply}
use Rattle.server_rules.specs.Delivery.{reply_response}

abbrev reply_in : Response ℕ → Reply
reply_in (gives c) = Ok c
reply_in (turned_down n) = Err (refusal n)

pub reply_back : (a : Reply) → reply_in (reply_response a) ≡ a
reply_back (Ok c) = refl
reply_back (Err r) = ap Err (one_each r)
