-- A refusal's number gives the refusal back, and what an opening says the opening, so that no two say the same. Assumes nothing.
use Rattle.std.specs.Prelude.{Ok, Err}
use mathlib.Core.Path.{◌≡◌, refl, ap}
use Rattle.area.specs.Responses.{Response, turned_down, gives}
use Rattle.frame.specs.declared.Refusal.{Refusal}
use Rattle.frame.specs.declared.Refusal.TheVariants.{Parties, Threshold, Length, Framing, Version, Kind, Owner, Body, Content, Room}
use Rattle.frame.specs.declared.Refusal.TheVariants.{Sender, Stale, Ahead, Digest, Busy, Exhausted, Closed, Record, Unlisted}
use Rattle.frame.specs.declared.Header.{Header}
use Rattle.frame.specs.Frames.{Opened}
use Rattle.frame.specs.Refusals.{number_of, refusal}
use Rattle.frame.specs.Frames.{opening_response}

pub one_each : (r : Refusal) → refusal (number_of r) ≡ r
one_each Parties = refl
one_each Threshold = refl
one_each Length = refl
one_each Framing = refl
one_each Version = refl
one_each Kind = refl
one_each Owner = refl
one_each Body = refl
one_each Content = refl
one_each Room = refl
one_each Sender = refl
one_each Stale = refl
one_each Ahead = refl
one_each Digest = refl
one_each Busy = refl
one_each Exhausted = refl
one_each Closed = refl
one_each Record = refl
one_each Unlisted = refl

abbrev opened_in : Response Header → Opened
opened_in (gives h) = Ok h
opened_in (turned_down n) = Err (refusal n)

pub opened_back : (o : Opened) → opened_in (opening_response o) ≡ o
opened_back (Ok h) = refl
opened_back (Err r) = ap Err (one_each r)
