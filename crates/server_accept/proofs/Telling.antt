-- How much room the values of an acceptance take. Assumes nothing.
use Prim.Native.Nat.{ℕ, zero, suc, ◌+◌, ◌-◌, ◌<◌, ◌≤◌}
use native.Mathlib.Nat.{le_refl}
use native.Mathlib.Omega.{arith}
use mathlib.Core.Path.{◌≡◌}
use mathlib.Core.Bool.{◌&&◌}
use mathlib.Core.List.{List, [], ◌∷◌}
use lib.ListN.{length, length-append}
use Rattle.frame.specs.declared.Stamp.{Stamp}
use Rattle.frame.specs.declared.Place.{Place}
use Rattle.frame.specs.Stamps.{older}
use Rattle.frame.specs.declared.Party.TheVariants as P
use Rattle.frame.specs.Messages.{Entry, entry, message, sending, ack}
use Rattle.frame.specs.Frames.{value_at, build, kind_of, body_bytes}
use Rattle.frame.proofs.RoundTrip.{length_frame}
use Rattle.frame.specs.Outbox.{frames, outbox, sent, Room}
use Rattle.server_rules.specs.declared.Reader.{Reader}
use Rattle.server_rules.specs.State.{reader_at}
use Rattle.server_rules.specs.Steps.{tell_from}
use Rattle.frame.proofs.Rooms.{room_within, room_left}
use Rattle.server.proofs.Sending.{length_value, Few, few_none, few_one, few_more}
use Rattle.server_accept.specs.Telling.{told_to}

pub told_few : (r : Reader) (c : ℕ) (x : Stamp) (e : Entry) → Few (told_to r c x e) 1 (value_at + (length e.digests + length e.block))
unfolding told_to
told_few r c x e = few_one (r.listening && older r.noted x) _ _ (length_value c r.sequence x e)

-- client c was told
pub room_told : (r : Reader) (x : Stamp) (e : Entry) (c : ℕ) (p p' : Place) (o t o₀ t₀ : List ℕ) → c < 9
    → outbox o t p' ≡ sent (outbox o₀ t₀ p) (told_to r c x e)
    → Room p (9 - c) (value_at + (length e.digests + length e.block)) (length o₀) (length t₀)
    → Room p' (9 - (c + 1)) (value_at + (length e.digests + length e.block)) (length o) (length t)
room_told r x e c p p' o t o₀ t₀ h f R =
    let F = told_few r c x e in
    let m : 1 + (9 - (c + 1)) ≤ 9 - c = omega arith in
    let size : ℕ = value_at + (length e.digests + length e.block) in
    room_left p p' o t o₀ t₀ (told_to r c x e) 1 (9 - (c + 1)) (9 - c) size size f F.bytes F.number m (le_refl size) R

-- at most one value to each of m clients
tell_few : (s : List Reader) (x : Stamp) (e : Entry) (c m : ℕ) → Few (tell_from s x e c m) m (value_at + (length e.digests + length e.block))
unfolding tell_from
tell_few s x e c zero = few_none (value_at + (length e.digests + length e.block))
tell_few s x e c (suc m) =
    few_more ((reader_at s c).listening && older (reader_at s c).noted x) _ (tell_from s x e (suc c) m) m _
    (length_value c (reader_at s c).sequence x e) (tell_few s x e (suc c) m)

-- room for the values, and after them for the ack and for the reports
pub tell_room : (p : Place) (n size size' out to : ℕ) → size ≡ size' → Room p (n + 17) size' out to → Room p 8 size out to
tell_room p n size size' out to e R = room_within p (n + 17) 8 size' size out to (omega arith) (omega arith) R

pub told_room : (s : List Reader) (x : Stamp) (d b : List ℕ) (p r : Place) (o t o₀ t₀ : List ℕ) (n size : ℕ) → value_at + (length d + length b) ≡ size
    → outbox o t r ≡ sent (outbox o₀ t₀ p) (tell_from s x (entry d b) 1 8) → Room p (n + 17) size (length o₀) (length t₀)
    → Room r (n + 9) 22 (length o) (length t)
told_room s x d b p r o t o₀ t₀ n size e f R =
    let F = tell_few s x (entry d b) 1 8 in
    room_left p r o t o₀ t₀ (tell_from s x (entry d b) 1 8) 8 (n + 9) (n + 17) (value_at + (length d + length b)) 22 f
    F.bytes F.number (omega arith) (omega arith) (rw e R)

pub ack_room : (r : Place) (n out to : ℕ) → Room r (n + 9) 22 out to → Room r 1 9 out to
ack_room r n out to R = room_within r (n + 9) 1 22 9 out to (omega arith) (omega arith) R

pub report_room : (c q : ℕ) (r p : Place) (o t o₀ t₀ : List ℕ) (n : ℕ) → outbox o t r ≡ sent (outbox o₀ t₀ p) (sending (P.Client c) (message c q ack) ∷ [])
    → Room p (n + 9) 22 (length o₀) (length t₀) → Room r (n + 8) 17 (length o) (length t)
unfolding frames build kind_of body_bytes
report_room c q r p o t o₀ t₀ n f R =
    let l = length_frame 9 c q [] in
    let k = length-append (build (message c q ack)) [] in
    room_left p r o t o₀ t₀ (sending (P.Client c) (message c q ack) ∷ []) 1 (n + 8) (n + 9) 22 17 f (omega (arith, l, k)) (omega arith) (omega arith)
    (omega arith) R
