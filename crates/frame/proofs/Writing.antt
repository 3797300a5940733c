-- What the code writes, one law a function: a frame in parts, one frame sent, one frame sent to all, and entries stored. Assumes nothing.
use Prim.Native.Nat.{ℕ, zero, suc, ◌+◌, ◌*◌, ◌-◌, ◌<◌}
use native.Mathlib.Omega.{arith}
use native.Mathlib.Numerals.{add-one}
use native.Mathlib.Nat.{add-mul, suc-mul}
use mathlib.Core.Path.{◌≡◌, refl, ap, sym, ◌∙◌}
use mathlib.Core.List.{List, [], ◌∷◌, ◌++◌, append_assoc, append-nil}
use lib.ListN.{length, take, drop, length-append}
use lib.Seq.{sets, length-sets}
use Rattle.area.specs.Area.{part}
use Rattle.area.specs.Numbers.{bytes2, bytes4, bytes8}
use Rattle.area.proofs.Sets.{sets_append, room}
use Rattle.blocks.specs.declared.Params.{Params}
use Rattle.frame.specs.declared.Party.{Party}
use Rattle.frame.specs.declared.Place.{Place}
use Rattle.frame.specs.declared.Stamp.{Stamp}
use Rattle.frame.specs.declared.Ask.{Ask}
use Rattle.frame.specs.declared.Ask.TheVariants as A
use Rattle.frame.specs.Params.{width, listed}
use Rattle.frame.specs.Messages.{entry, Offer, offer, Stage, send, echo, ready, ack, stamp_is, block_is, value_is, report, Message, message, sending}
use Rattle.frame.specs.Messages.{to_all}
use Rattle.frame.specs.Messages.{to_clients}
use Rattle.frame.specs.Frames.{kind_of, body_bytes, entry_bytes, offer_bytes, stamp_bytes, header_bytes, frame_of, build, entry_in}
use Rattle.frame.specs.Outbox.{party_bytes, party_in, Outbox, outbox, sent, wrote, wrote_to, Room, ask_of}
use Rattle.frame.specs.Chunks.{store_entry}
use Rattle.frame.proofs.RoundTrip.{length_frame}
use Rattle.frame.proofs.Outbox.{wrote_sent, all_sent, clients_sent, sent_append}

-- ---- one frame

-- a store after another
sets_then : (d : List ℕ) (i j : ℕ) (a b : List ℕ) → j ≡ i + length a → sets (sets d i a) j b ≡ sets d i (a ++ b)
sets_then d i j a b e = rw e (sym (sets_append d i a b))

length_parts : (a b c : List ℕ) → length (a ++ (b ++ c)) ≡ length a + (length b + length c)
length_parts a b c = length-append a (b ++ c) ∙ ap (λ n. length a + n) (length-append b c)

length_header : (size kind client sequence : ℕ) → length (header_bytes size kind client sequence) ≡ 9
unfolding header_bytes bytes2 bytes4
length_header size kind client sequence = refl

pub frame_written : (out : List ℕ) (at kind client sequence : ℕ) (h lead d b o₁ o₂ o₃ o₄ : List ℕ)
    → h ≡ header_bytes (7 + (length lead + (length d + length b))) kind client sequence
    → o₁ ≡ sets out at h → o₂ ≡ sets o₁ (at + 9) lead → o₃ ≡ sets o₂ (at + 9 + length lead) d → o₄ ≡ sets o₃ (at + 9 + length lead + length d) b
    → o₄ ≡ sets out at (frame_of kind client sequence (lead ++ (d ++ b)))
unfolding frame_of
frame_written out at kind client sequence h lead d b o₁ o₂ o₃ o₄ e e₁ e₂ e₃ e₄ =
    let l : length h ≡ 9 = ap length e ∙ length_header (7 + (length lead + (length d + length b))) kind client sequence in
    let x : at + 9 ≡ at + length h = ap (λ n. at + n) (sym l) in
    let y : at + 9 + length lead ≡ at + length (h ++ lead) = omega (arith, l, length-append h lead) in
    let z : at + 9 + length lead + length d ≡ at + length ((h ++ lead) ++ d) = omega (arith, l, length-append h lead, length-append (h ++ lead) d) in
    let p₂ : o₂ ≡ sets out at (h ++ lead) = e₂ ∙ ap (λ o. sets o (at + 9) lead) e₁ ∙ sets_then out at (at + 9) h lead x in
    let p₃ : o₃ ≡ sets out at ((h ++ lead) ++ d) =
    e₃ ∙ ap (λ o. sets o (at + 9 + length lead) d) p₂ ∙ sets_then out at (at + 9 + length lead) (h ++ lead) d y in
    let p₄ : o₄ ≡ sets out at (((h ++ lead) ++ d) ++ b) =
    e₄ ∙ ap (λ o. sets o (at + 9 + length lead + length d) b) p₃ ∙ sets_then out at (at + 9 + length lead + length d) ((h ++ lead) ++ d) b z in
    let q : ((h ++ lead) ++ d) ++ b ≡ h ++ (lead ++ (d ++ b)) = simp append_assoc in
    let w : h ≡ header_bytes (7 + length (lead ++ (d ++ b))) kind client sequence = rw length_parts e in
    p₄ ∙ ap (sets out at) (q ∙ ap (λ l. l ++ (lead ++ (d ++ b))) w)

pub length_written : (kind client sequence : ℕ) (lead d b : List ℕ)
    → length (frame_of kind client sequence (lead ++ (d ++ b))) ≡ 9 + (length lead + (length d + length b))
length_written kind client sequence lead d b = length_frame kind client sequence (lead ++ (d ++ b)) ∙ ap (λ n. 9 + n) (length_parts lead d b)

-- ---- one frame sent

pub one_sent : (out to out' to' f bytes : List ℕ) (p : Place) (r : Party) (size : ℕ) → bytes ≡ party_bytes r → to' ≡ sets to (2 * p.count) bytes
    → out' ≡ sets out p.at f → length f ≡ size → outbox out' to' (record { at = p.at + size; count = p.count + 1 }) ≡ wrote (outbox out to p) r f
unfolding wrote
one_sent out to out' to' f bytes p r size e t o l =
    let t' : to' ≡ sets to (2 * p.count) (party_bytes r) = t ∙ ap (sets to (2 * p.count)) e in
    λ i. record { out = o i; to = t' i; place = record { at = p.at + sym l i; count = p.count + 1 } }

-- what is known of the areas and the place after one frame
pub record After (o t o₀ t₀ f : List ℕ) (r q : Place) : Type 0 where
  pub at_is : r.at ≡ q.at + length f
  pub count_is : r.count ≡ q.count + 1
  pub out_long : length o ≡ length o₀
  pub to_long : length t ≡ length t₀

pub after_one : (o t o₀ t₀ f : List ℕ) (r q : Place) (p : Party) → outbox o t r ≡ wrote (outbox o₀ t₀ q) p f → After o t o₀ t₀ f r q
unfolding wrote
after_one o t o₀ t₀ f r q p e = record {
  at_is = ap (λ z. z.place.at) e;
  count_is = ap (λ z. z.place.count) e;
  out_long = ap (λ z. length z.out) e ∙ length-sets o₀ q.at f;
  to_long = ap (λ z. length z.to) e ∙ length-sets t₀ (2 * q.count) (party_bytes p);
}

-- ---- one frame to all

pub none_sent : (class : ℕ) (q : Outbox) (f : List ℕ) → q ≡ wrote_to class q f 0
unfolding wrote_to
none_sent class q f = refl

pub one_more : (class : ℕ) (q : Outbox) (f : List ℕ) (j : ℕ) → wrote (wrote_to class q f j) (party_in class (j + 1)) f ≡ wrote_to class q f (j + 1)
unfolding wrote_to
one_more class q f j = rw add-one

pub room_for_one : (p q : Place) (j n size out to out₀ to₀ : ℕ) → j < n → Room p n size out₀ to₀ → q.at ≡ p.at + j * size → q.count ≡ p.count + j
    → out ≡ out₀ → to ≡ to₀ → Room q 1 size out to
room_for_one p q j n size out to out₀ to₀ h R a c o t = record {
  out_room_lem = let z = room j n size h in omega (arith, z, R.out_room_lem, a, o);
  to_room_lem = omega (arith, h, R.to_room_lem, c, t);
}

pub place_after : (a b c j size l : ℕ) → a ≡ b + l → l ≡ size → b ≡ c + j * size → a ≡ c + (j + 1) * size
place_after a b c j size l p q r = rw (add-one, suc-mul) (omega (arith, p, q, r))

-- where the next frame goes after frames to m parties, and how long the areas are
wrote_place : (class : ℕ) (q : Outbox) (f : List ℕ) (m : ℕ)
    → ((wrote_to class q f m).place.at ≡ q.place.at + m * length f) × ((wrote_to class q f m).place.count ≡ q.place.count + m)
    × (length (wrote_to class q f m).out ≡ length q.out) × (length (wrote_to class q f m).to ≡ length q.to)
unfolding wrote_to wrote
wrote_place class q f zero = (omega arith, omega arith, refl, refl)
wrote_place class q f (suc m) =
    let h = wrote_place class q f m in
    let z : suc m * length f ≡ m * length f + length f = suc-mul m (length f) ∙ omega arith in (
      omega (arith, h.0, z),
      omega (arith, h.1),
      length-sets (wrote_to class q f m).out (wrote_to class q f m).place.at f ∙ h.2,
      length-sets (wrote_to class q f m).to (2 * (wrote_to class q f m).place.count) (party_bytes (party_in class (suc m))) ∙ h.3,
    )

pub room_first : (p : Place) (m k size out to : ℕ) → Room p (m + k) size out to → Room p m size out to
room_first p m k size out to R = let d = add-mul m k size in record { out_room_lem = omega (arith, d, R.out_room_lem); to_room_lem = omega (arith, R.to_room_lem) }

pub room_left : (class : ℕ) (o t o₀ t₀ f : List ℕ) (r q : Place) (m k size : ℕ) → outbox o t r ≡ wrote_to class (outbox o₀ t₀ q) f m → length f ≡ size
    → Room q (m + k) size (length o₀) (length t₀) → Room r k size (length o) (length t)
room_left class o t o₀ t₀ f r q m k size e l R =
    let h = wrote_place class (outbox o₀ t₀ q) f m in
    let a : r.at ≡ q.at + m * size = ap (λ z. z.place.at) e ∙ h.0 ∙ ap (λ z. q.at + m * z) l in
    let c : r.count ≡ q.count + m = ap (λ z. z.place.count) e ∙ h.1 in
    let u : length o ≡ length o₀ = ap (λ z. length z.out) e ∙ h.2 in
    let v : length t ≡ length t₀ = ap (λ z. length z.to) e ∙ h.3 in
    let d : (m + k) * size ≡ m * size + k * size = add-mul m k size in
    record { out_room_lem = omega (arith, a, u, d, R.out_room_lem); to_room_lem = omega (arith, c, v, R.to_room_lem) }

-- ---- entries

pub part_at : (a : List ℕ) (i w v : ℕ) → w ≡ v → take (i + w - i) (drop i a) ≡ part a i v
part_at a i w v e = let z : i + w - i ≡ v = omega (arith, e) in rw z

pub stored : (a a₁ a₂ : List ℕ) (p : ℕ) (d b : List ℕ) → a₁ ≡ sets a (576 * p) d → a₂ ≡ sets a₁ (576 * p + 320) b → a₂ ≡ store_entry a p (entry d b)
unfolding store_entry
stored a a₁ a₂ p d b e f = f ∙ ap (λ l. sets l (576 * p + 320) b) e

pub stored_from_lem : (g : Params) (a a₁ : List ℕ) (p : ℕ) (f : List ℕ) (i w : ℕ) → w ≡ width g
    → a₁ ≡ store_entry a p (entry (take (i + 32 * g.n - i) (drop i f)) (take (i + 32 * g.n + w - (i + 32 * g.n)) (drop (i + 32 * g.n) f)))
    → a₁ ≡ store_entry a p (entry_in g f i)
stored_from_lem g a a₁ p f i w e q =
    let d = part_at f i (32 * g.n) (listed g) refl in
    let b = part_at f (i + 32 * g.n) w (width g) e in
    q ∙ (λ m. store_entry a p (entry (d m) (b m)))

-- ---- frames of messages

-- the kind of a broadcast's step, whatever is offered
abbrev pub block_kind : Stage → ℕ
block_kind z = kind_of (block_is z (offer 0 (entry [] [])))

kind_block : (z : Stage) (o : Offer) → kind_of (block_is z o) ≡ block_kind z
unfolding kind_of
kind_block send o = refl
kind_block echo o = refl
kind_block ready o = refl

bytes_ask : (a : Ask) → [] ≡ body_bytes (ask_of a)
unfolding body_bytes
bytes_ask A.GetStamp = refl
bytes_ask A.Read = refl
bytes_ask A.ReadComplete = refl

pub ask_frame : (k c q : ℕ) (a : Ask) → k ≡ kind_of (ask_of a) → frame_of k c q [] ≡ build (message c q (ask_of a))
unfolding build
ask_frame k c q a e = rw (e, bytes_ask a)

pub ack_frame : (c q : ℕ) → frame_of 9 c q [] ≡ build (message c q ack)
unfolding build kind_of body_bytes
ack_frame c q = refl

pub stamp_frame : (c q T : ℕ) (t : List ℕ) → t ≡ bytes8 T → frame_of 2 c q (t ++ []) ≡ build (message c q (stamp_is T))
unfolding build kind_of body_bytes
stamp_frame c q T t u = rw (u, append-nil)

pub report_frame : (c q T : ℕ) (t : List ℕ) → t ≡ bytes8 T → frame_of 13 c q (t ++ []) ≡ build (message c q (report T))
unfolding build kind_of body_bytes
report_frame c q T t u = rw (u, append-nil)

pub block_frame_lem : (k c q T : ℕ) (z : Stage) (t d b : List ℕ) → k ≡ block_kind z → t ≡ bytes8 T
    → frame_of k c q (t ++ (d ++ b)) ≡ build (message c q (block_is z (offer T (entry d b))))
unfolding build body_bytes offer_bytes entry_bytes
block_frame_lem k c q T z t d b e u = rw (e, u, kind_block z (offer T (entry d b)))

pub value_frame : (c q : ℕ) (s : Stamp) (t d b : List ℕ) → t ≡ stamp_bytes s → frame_of 11 c q (t ++ (d ++ b)) ≡ build (message c q (value_is s (entry d b)))
unfolding build kind_of body_bytes entry_bytes
value_frame c q s t d b e = rw e

-- ---- the code's names

-- ---- sent

pub sent_one : (o t o₀ t₀ : List ℕ) (r q : Place) (p : Party) (f : List ℕ) (m : Message) → f ≡ build m
    → outbox o t r ≡ wrote (outbox o₀ t₀ q) p f → outbox o t r ≡ sent (outbox o₀ t₀ q) (sending p m ∷ [])
sent_one o t o₀ t₀ r q p f m e w = w ∙ ap (wrote (outbox o₀ t₀ q) p) e ∙ wrote_sent (outbox o₀ t₀ q) p m

pub sent_all : (g : Params) (o t o₀ t₀ : List ℕ) (r q : Place) (f : List ℕ) (m : Message) → f ≡ build m
    → outbox o t r ≡ wrote_to 1 (outbox o₀ t₀ q) f g.n → outbox o t r ≡ sent (outbox o₀ t₀ q) (to_all g (λ j. m))
unfolding to_all
sent_all g o t o₀ t₀ r q f m e w = w ∙ ap (λ x. wrote_to 1 (outbox o₀ t₀ q) x g.n) e ∙ all_sent (outbox o₀ t₀ q) m g.n

-- a frame to all servers, and then to clients 1 to 8
pub sent_report : (g : Params) (o t o₁ t₁ o₀ t₀ : List ℕ) (r q p : Place) (f : List ℕ) (m : Message) → f ≡ build m
    → outbox o₁ t₁ q ≡ wrote_to 1 (outbox o₀ t₀ p) f g.n → outbox o t r ≡ wrote_to 0 (outbox o₁ t₁ q) f 8
    → outbox o t r ≡ sent (outbox o₀ t₀ p) (to_all g (λ j. m) ++ to_clients m)
unfolding to_clients
sent_report g o t o₁ t₁ o₀ t₀ r q p f m e w w₂ =
    w₂ ∙ ap (λ x. wrote_to 0 (outbox o₁ t₁ q) x 8) e ∙ clients_sent (outbox o₁ t₁ q) m 8 ∙ ap (λ x. sent x (to_clients m)) (sent_all g o₁ t₁ o₀ t₀ q p f m e w)
    ∙ sent_append (outbox o₀ t₀ p) (to_all g (λ j. m)) (to_clients m)

pub room_of : (p : Place) (m size size' out to : ℕ) → size ≡ size' → Room p m size out to → Room p m size' out to
room_of p m size size' out to e R = rw (← e) R
