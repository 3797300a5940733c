-- Frames sent one after the other, and how much room they take. Assumes nothing.
use Prim.Native.Nat.{ℕ, zero, suc, ◌+◌, ◌*◌}
use native.Mathlib.Omega.{arith}
use native.Mathlib.Nat.{add-zero, add-suc, suc-add}
use mathlib.Core.Path.{◌≡◌, refl, ap, sym, ◌∙◌}
use mathlib.Core.List.{List, [], ◌∷◌, ◌++◌, append_assoc, append-nil}
use lib.ListN.{length, length-append}
use lib.Seq.{sets}
use Rattle.area.specs.Area.{pick}
use Rattle.area.proofs.Sets.{sets_append}
use Rattle.frame.specs.declared.Party.{Party}
use Rattle.frame.specs.declared.Party.TheVariants as P
use Rattle.frame.specs.Messages.{Message, Sending, sending, to_from, clients_from}
use Rattle.frame.specs.Frames.{build}
use Rattle.frame.proofs.PartyLaws.{length_party}
use Rattle.frame.specs.Outbox.{frames, party_bytes, party_in, receivers, Outbox, sent, wrote, wrote_to}

pub frames_append : (xs ys : List Sending) → frames (xs ++ ys) ≡ frames xs ++ frames ys
unfolding frames
frames_append [] ys = refl
frames_append (x ∷ xs) ys = rw (frames_append xs ys) (sym (append_assoc (build x.says) (frames xs) (frames ys)))

pub receivers_append : (xs ys : List Sending) → receivers (xs ++ ys) ≡ receivers xs ++ receivers ys
unfolding receivers
receivers_append [] ys = refl
receivers_append (x ∷ xs) ys = rw (receivers_append xs ys) (sym (append_assoc (party_bytes x.receiver) (receivers xs) (receivers ys)))

pub length_receivers : (xs : List Sending) → length (receivers xs) ≡ 2 * length xs
unfolding receivers
length_receivers [] = refl
length_receivers (x ∷ xs) =
    omega (arith, length-append (party_bytes x.receiver) (receivers xs), length_party x.receiver, length_receivers xs)

-- first xs, then ys
pub sent_append : (q : Outbox) (xs ys : List Sending) → sent (sent q xs) ys ≡ sent q (xs ++ ys)
unfolding sent
sent_append q xs ys =
    let o : sets (sets q.out q.place.at (frames xs)) (q.place.at + length (frames xs)) (frames ys) ≡ sets q.out q.place.at (frames (xs ++ ys)) =
    rw (frames_append xs ys) (sym (sets_append q.out q.place.at (frames xs) (frames ys))) in
    let l : 2 * q.place.count + length (receivers xs) ≡ 2 * (q.place.count + length xs) = omega (arith, length_receivers xs) in
    let r : sets (sets q.to (2 * q.place.count) (receivers xs)) (2 * (q.place.count + length xs)) (receivers ys)
    ≡ sets q.to (2 * q.place.count) (receivers (xs ++ ys)) =
    rw (receivers_append xs ys, ← l) (sym (sets_append q.to (2 * q.place.count) (receivers xs) (receivers ys))) in
    let a : q.place.at + length (frames xs) + length (frames ys) ≡ q.place.at + length (frames (xs ++ ys)) =
    omega (arith, ap length (frames_append xs ys), length-append (frames xs) (frames ys)) in
    let c : q.place.count + length xs + length ys ≡ q.place.count + length (xs ++ ys) = omega (arith, length-append xs ys) in
    λ i. record { out = o i; to = r i; place = record { at = a i; count = c i } }

-- ---- by frames that are built

pub sent_none : (q : Outbox) → sent q [] ≡ q
unfolding sent frames receivers
sent_none q = λ i. record { out = q.out; to = q.to; place = record { at = add-zero q.place.at i; count = add-zero q.place.count i } }

-- one frame
pub wrote_sent : (q : Outbox) (p : Party) (m : Message) → wrote q p (build m) ≡ sent q (sending p m ∷ [])
unfolding wrote sent frames receivers
wrote_sent q p m =
    let f : build m ++ [] ≡ build m = append-nil (build m) in
    let r : party_bytes p ++ [] ≡ party_bytes p = append-nil (party_bytes p) in
    λ i. record {
      out = sets q.out q.place.at (sym f i);
      to = sets q.to (2 * q.place.count) (sym r i);
      place = record { at = q.place.at + length (sym f i); count = q.place.count + 1 };
    }

pub to_from_more : (f : ℕ → Message) (j m : ℕ) → to_from f j (suc m) ≡ to_from f j m ++ (sending (P.Server (j + m)) (f (j + m)) ∷ [])
unfolding to_from
to_from_more f j zero = rw add-zero
to_from_more f j (suc m) = ap (λ l. sending (P.Server j) (f j) ∷ l) (to_from_more f (suc j) m ∙ rw (add-suc, suc-add))

-- one frame to servers 1 to n
pub all_sent : (q : Outbox) (m : Message) (n : ℕ) → wrote_to 1 q (build m) n ≡ sent q (to_from (λ j. m) 1 n)
unfolding wrote_to to_from party_in pick
all_sent q m zero = sym (sent_none q)
all_sent q m (suc n) =
    let e : 1 + n ≡ suc n = omega arith in
    let t : to_from (λ j. m) 1 (suc n) ≡ to_from (λ j. m) 1 n ++ (sending (P.Server (suc n)) m ∷ []) =
    to_from_more (λ j. m) 1 n ∙ ap (λ k. to_from (λ j. m) 1 n ++ (sending (P.Server k) m ∷ [])) e in
    ap (λ z. wrote z (P.Server (suc n)) (build m)) (all_sent q m n)
    ∙ wrote_sent (sent q (to_from (λ j. m) 1 n)) (P.Server (suc n)) m
    ∙ sent_append q (to_from (λ j. m) 1 n) (sending (P.Server (suc n)) m ∷ [])
    ∙ ap (sent q) (sym t)

clients_more : (m : Message) (c k : ℕ) → clients_from m c (suc k) ≡ clients_from m c k ++ (sending (P.Client (c + k)) m ∷ [])
unfolding clients_from
clients_more m c zero = rw add-zero
clients_more m c (suc k) = ap (λ l. sending (P.Client c) m ∷ l) (clients_more m (suc c) k ∙ rw (add-suc, suc-add))

-- one frame to clients 1 to n
pub clients_sent : (q : Outbox) (m : Message) (n : ℕ) → wrote_to 0 q (build m) n ≡ sent q (clients_from m 1 n)
unfolding wrote_to clients_from party_in pick
clients_sent q m zero = sym (sent_none q)
clients_sent q m (suc n) =
    let e : 1 + n ≡ suc n = omega arith in
    let t : clients_from m 1 (suc n) ≡ clients_from m 1 n ++ (sending (P.Client (suc n)) m ∷ []) =
    clients_more m 1 n ∙ ap (λ k. clients_from m 1 n ++ (sending (P.Client k) m ∷ [])) e in
    ap (λ z. wrote z (P.Client (suc n)) (build m)) (clients_sent q m n)
    ∙ wrote_sent (sent q (clients_from m 1 n)) (P.Client (suc n)) m
    ∙ sent_append q (clients_from m 1 n) (sending (P.Client (suc n)) m ∷ [])
    ∙ ap (sent q) (sym t)
