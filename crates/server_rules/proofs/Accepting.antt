-- What an acceptance sends, values to listeners and the ack: in which order, to whom, and how many. Assumes nothing.
use Prim.Native.Nat.{ℕ, zero, suc, ◌+◌, ◌≤◌, ◌<◌}
use native.Mathlib.Omega.{arith}
use native.Mathlib.Decide.{ℕ_discrete}
use mathlib.Core.Bool.{Bool, true, false, ◌&&◌}
use mathlib.Core.Path.{◌≡◌, refl, ap}
use mathlib.Core.Logic.{◌⊎◌, inl, inr, ⊎_elim}
use mathlib.Core.List.Memᴰ
use mathlib.Core.List.{List, [], ◌∷◌, ◌++◌, Memᴰ}
use lib.ListN.{length, length-append}
use lib.Dec.{ltb}
use borrow.Author.Tests.{ltb-true, lt-ltb}
use Rattle.quorum.specs.Quorum.{Among}
use Rattle.quorum.proofs.Logic.{impossible, and_split, and_true}
use Rattle.area.specs.Area.{pick}
use Rattle.blocks.specs.declared.Params.{Params}
use Rattle.frame.specs.declared.Stamp.{Stamp}
use Rattle.frame.specs.declared.Party.{Party}
use Rattle.frame.specs.declared.Party.TheVariants as P
use Rattle.frame.specs.Stamps.{older}
use Rattle.frame.specs.Messages.{Entry, ack, value_is, report, Message, message, Sending, sending, to_from, to_all, clients_from, to_clients}
use Rattle.server_rules.specs.declared.Reader.{Reader}
use Rattle.server_rules.specs.declared.Server.{Server}
use Rattle.server_rules.specs.State.{reader_at}
use Rattle.server_rules.specs.Steps as S
use Rattle.server_rules.specs.FrameOrder.{Rising, done, next}
use Rattle.server_rules.proofs.Casts.{to_servers, to_clients_lem, mem_servers, mem_clients, all_length, clients_length}

-- ---- in order (request F-1)

abbrev pub ack_of : S.Write → Sending
ack_of w = sending (P.Client w.client) (message w.client w.sequence ack)

-- also from a lower place on
pub rising_from : {n k : ℕ} {xs : List Sending} (h : ℕ) → h ≤ k → Rising n k xs → Rising n h xs
rising_from h l done = done
rising_from h l (next k x u v) = next h x (omega (arith, l, u)) v

-- values to clients c to c + m - 1, before what has the places from 9 on
tell_rising : (n : ℕ) (rs : List Reader) (x : Stamp) (e : Entry) (c m k : ℕ) (ys : List Sending) → k ≤ c → c + m ≤ 9 → Rising n 9 ys
    → Rising n k (S.tell_from rs x e c m ++ ys)
unfolding S.tell_from pick
tell_rising n rs x e c zero k ys l h r = rising_from k (omega (arith, l, h)) r
tell_rising n rs x e c (suc m) k ys l h r =
    go (λ k l. tell_rising n rs x e (suc c) m k ys l (omega (arith, h)) r) ((reader_at rs c).listening && older (reader_at rs c).noted x)
  where
    value : Sending
    value = sending (P.Client c) (message c (reader_at rs c).sequence (value_is x e))

    go : ((k : ℕ) → k ≤ suc c → Rising n k (S.tell_from rs x e (suc c) m ++ ys)) → (b : Bool)
        → Rising n k (pick b (value ∷ S.tell_from rs x e (suc c) m) (S.tell_from rs x e (suc c) m) ++ ys)
    go rest true = next k value l (rest (suc c) (omega arith))
    go rest false = rest k (omega (arith, l))

-- what a server says where its time grows
abbrev pub report_by : S.Write → Message
report_by w = message w.client w.sequence (report (w.time + 1))

-- reports to servers j to j + m - 1, and to clients c to c + m - 1
servers_rising : (n : ℕ) (w : S.Write) (j m : ℕ) (ys : List Sending) → j + m ≤ suc n → Rising n (10 + n) ys
    → Rising n (9 + j) (to_from (λ i. report_by w) j m ++ ys)
unfolding to_from
servers_rising n w j zero ys h r = rising_from (9 + j) (omega (arith, h)) r
servers_rising n w j (suc m) ys h r =
    next (9 + j) (sending (P.Server j) (report_by w)) (omega arith)
    (rising_from (suc (9 + j)) (omega arith) (servers_rising n w (suc j) m ys (omega (arith, h)) r))

clients_rising : (n : ℕ) (w : S.Write) (c m : ℕ) → Rising n (9 + n + c) (clients_from (report_by w) c m)
unfolding clients_from
clients_rising n w c zero = done
clients_rising n w c (suc m) =
    next (9 + n + c) (sending (P.Client c) (report_by w)) (omega arith) (rising_from (suc (9 + n + c)) (omega arith) (clients_rising n w (suc c) m))

reported_rising : (g : Params) (s : Server) (w : S.Write) → Rising g.n 10 (S.reported g s w)
unfolding S.reported to_all to_clients pick
reported_rising g s w = go (ltb s.stamp.time (w.time + 1))
  where
    go : (b : Bool) → Rising g.n 10 (pick b (to_all g (λ j. report_by w) ++ to_clients (report_by w)) [])
    go true = servers_rising g.n w 1 g.n (to_clients (report_by w)) (omega arith) (rising_from (10 + g.n) (omega arith) (clients_rising g.n w 1 8))
    go false = done

-- an acceptance: the values, then the ack, then the reports
pub accept_rising : (g : Params) (s : Server) (a : List ℕ) (w : S.Write) → Rising g.n 1 (S.accept g s a w).sends
unfolding S.accept
accept_rising g s a w =
    tell_rising g.n s.readers (S.stamp_of w) w.entry 1 8 1 (ack_of w ∷ S.reported g s w) (omega arith) (omega arith)
    (next 9 (ack_of w) (omega arith) (reported_rising g s w))

-- ---- values

-- y is a value (x, e) to client d, which listens and whose noted stamp is smaller
pub record Told (rs : List Reader) (x : Stamp) (e : Entry) (d : ℕ) (y : Sending) : Type 0 where
  pub listens : (reader_at rs d).listening ≡ true
  pub smaller : older (reader_at rs d).noted x ≡ true
  pub is : y ≡ sending (P.Client d) (message d (reader_at rs d).sequence (value_is x e))

pub tell_mem : (rs : List Reader) (x : Stamp) (e : Entry) (c m : ℕ) (y : Sending) → Memᴰ y (S.tell_from rs x e c m)
    → (d : ℕ) × (c ≤ d) × (d < c + m) × Told rs x e d y
unfolding S.tell_from pick
tell_mem rs x e c zero y u = absurd (Memᴰ.not-nil u)
tell_mem rs x e c (suc m) y u = go (tell_mem rs x e (suc c) m y) ((reader_at rs c).listening && older (reader_at rs c).noted x) refl u
  where
    later : (d : ℕ) × (suc c ≤ d) × (d < suc c + m) × Told rs x e d y → (d : ℕ) × (c ≤ d) × (d < c + suc m) × Told rs x e d y
    later (d, l, h, t) = (d, omega (arith, l), omega (arith, h), t)

    go : (Memᴰ y (S.tell_from rs x e (suc c) m) → (d : ℕ) × (suc c ≤ d) × (d < suc c + m) × Told rs x e d y)
        → (b : Bool) → ((reader_at rs c).listening && older (reader_at rs c).noted x) ≡ b
        → Memᴰ y (pick b (sending (P.Client c) (message c (reader_at rs c).sequence (value_is x e)) ∷ S.tell_from rs x e (suc c) m)
        (S.tell_from rs x e (suc c) m))
        → (d : ℕ) × (c ≤ d) × (d < c + suc m) × Told rs x e d y
    go f true q v = ⊎_elim
        (λ w. let h = and_split (reader_at rs c).listening (older (reader_at rs c).noted x) q in
        (c, omega arith, omega arith, record { listens = h.0; smaller = h.1; is = w }))
        (λ w. later (f w))
        (Memᴰ.cases_cons v)
    go f false q v = later (f v)

-- each of clients c to c + m - 1 that listens, with a smaller noted stamp, is told
pub tell_all : (rs : List Reader) (x : Stamp) (e : Entry) (c m d : ℕ) → c ≤ d → d < c + m → (reader_at rs d).listening ≡ true
    → older (reader_at rs d).noted x ≡ true → Memᴰ (sending (P.Client d) (message d (reader_at rs d).sequence (value_is x e))) (S.tell_from rs x e c m)
unfolding S.tell_from pick
tell_all rs x e c zero d l h u v = absurd (omega (arith, l, h))
tell_all rs x e c (suc m) d l h u v =
    go (λ k. tell_all rs x e (suc c) m d k (omega (arith, h)) u v) ((reader_at rs c).listening && older (reader_at rs c).noted x) refl (ℕ_discrete d c)
  where
    word : ℕ → Sending
    word c = sending (P.Client c) (message c (reader_at rs c).sequence (value_is x e))

    go : (suc c ≤ d → Memᴰ (word d) (S.tell_from rs x e (suc c) m)) → (b : Bool) → ((reader_at rs c).listening && older (reader_at rs c).noted x) ≡ b
        → Dec (d ≡ c) → Memᴰ (word d) (pick b (word c ∷ S.tell_from rs x e (suc c) m) (S.tell_from rs x e (suc c) m))
    go f true q (yes k) = Memᴰ.head (ap word k)
    go f true q (no k) = Memᴰ.tail (f (omega (arith, l, k)))
    go f false q (yes k) =
        let t = and_true (reader_at rs d).listening (older (reader_at rs d).noted x) u v in
        impossible (cc (q, ap (λ c. (reader_at rs c).listening && older (reader_at rs c).noted x) k, t))
    go f false q (no k) = f (omega (arith, l, k))

pub tell_length : (rs : List Reader) (x : Stamp) (e : Entry) (c m : ℕ) → length (S.tell_from rs x e c m) ≤ m
unfolding S.tell_from pick
tell_length rs x e c zero = omega arith
tell_length rs x e c (suc m) = go (tell_length rs x e (suc c) m) ((reader_at rs c).listening && older (reader_at rs c).noted x)
  where
    go : length (S.tell_from rs x e (suc c) m) ≤ m → (b : Bool)
        → length (pick b (sending (P.Client c) (message c (reader_at rs c).sequence (value_is x e)) ∷ S.tell_from rs x e (suc c) m) (S.tell_from rs x e (suc c) m))
        ≤ suc m
    go h true = omega (arith, h)
    go h false = omega (arith, h)

-- ---- reports

pub reported_mem : (g : Params) (s : Server) (w : S.Write) (y : Sending) → Memᴰ y (S.reported g s w)
    → (s.stamp.time < w.time + 1) × (((j : ℕ) × Among g.n j × (y ≡ sending (P.Server j) (report_by w)))
    ⊎ ((d : ℕ) × Among 8 d × (y ≡ sending (P.Client d) (report_by w))))
unfolding S.reported pick
reported_mem g s w y u = go (ltb s.stamp.time (w.time + 1)) refl u
  where
    go : (b : Bool) → ltb s.stamp.time (w.time + 1) ≡ b → Memᴰ y (pick b (to_all g (λ j. report_by w) ++ to_clients (report_by w)) [])
        → (s.stamp.time < w.time + 1) × (((j : ℕ) × Among g.n j × (y ≡ sending (P.Server j) (report_by w)))
        ⊎ ((d : ℕ) × Among 8 d × (y ≡ sending (P.Client d) (report_by w))))
    go true e v = (
      ltb-true s.stamp.time (w.time + 1) e,
      ⊎_elim (λ v. inl (mem_servers g (report_by w) y v)) (λ v. inr (mem_clients (report_by w) y v)) (Memᴰ.append_cases (to_all g (λ j. report_by w)) v),
    )
    go false e v = absurd (Memᴰ.not-nil v)

-- where the time grows, each server and each client is told
pub reported_all : (g : Params) (s : Server) (w : S.Write) → s.stamp.time < w.time + 1
    → ((j : ℕ) → Among g.n j → Memᴰ (sending (P.Server j) (report_by w)) (S.reported g s w))
    × ((d : ℕ) → Among 8 d → Memᴰ (sending (P.Client d) (report_by w)) (S.reported g s w))
unfolding S.reported pick
reported_all g s w h = rw (lt-ltb s.stamp.time (w.time + 1) h) (
  λ j i. Memᴰ.append_left (to_clients (report_by w)) (to_servers g (report_by w) j i),
  λ d i. Memᴰ.append_right (to_all g (λ j. report_by w)) (to_clients_lem (report_by w) d i),
)

reported_length : (g : Params) (s : Server) (w : S.Write) → length (S.reported g s w) ≤ g.n + 8
unfolding S.reported pick
reported_length g s w = go (ltb s.stamp.time (w.time + 1))
  where
    go : (b : Bool) → length (pick b (to_all g (λ j. report_by w) ++ to_clients (report_by w)) []) ≤ g.n + 8
    go true =
        let p = length-append (to_all g (λ j. report_by w)) (to_clients (report_by w)) in
        omega (arith, p, all_length g (λ j. report_by w), clients_length (report_by w))
    go false = omega arith

-- ---- an acceptance

-- a server 1 to n, or a client 1 to 8
abbrev pub ToAnyone : Params → Party → Type 0
ToAnyone g b = ((j : ℕ) × Among g.n j × (b ≡ P.Server j)) ⊎ ((d : ℕ) × Among 8 d × (b ≡ P.Client d))

-- what y is, of an accepted write: a value to one of clients 1 to 8, the ack, or a report
pub data Says (g : Params) (s : Server) (w : S.Write) (y : Sending) : Type 0 where
  told : (d : ℕ) → Among 8 d → Told s.readers (S.stamp_of w) w.entry d y → Says g s w y
  acked : y ≡ ack_of w → Says g s w y
  reports : y.says ≡ report_by w → ToAnyone g y.receiver → Says g s w y

pub accept_mem : (g : Params) (s : Server) (a : List ℕ) (w : S.Write) (y : Sending) → Memᴰ y (S.accept g s a w).sends → Says g s w y
unfolding S.accept
accept_mem g s a w y u = ⊎_elim
    (λ v. let (d, l, h, t) = tell_mem s.readers (S.stamp_of w) w.entry 1 8 y v in told d (l, omega (arith, h)) t)
    (λ v. ⊎_elim
    (λ e. acked e)
    (λ v. ⊎_elim
    (λ (j, i, e). reports (ap (λ z. z.says) e) (inl (j, i, ap (λ z. z.receiver) e)))
    (λ (d, i, e). reports (ap (λ z. z.says) e) (inr (d, i, ap (λ z. z.receiver) e)))
    (reported_mem g s w y v).1)
    (Memᴰ.cases_cons v))
    (Memᴰ.append_cases (S.tell_from s.readers (S.stamp_of w) w.entry 1 8) u)

-- the ack goes out, and the reports
pub accept_ack : (g : Params) (s : Server) (a : List ℕ) (w : S.Write) → Memᴰ (ack_of w) (S.accept g s a w).sends
unfolding S.accept
accept_ack g s a w = Memᴰ.append_right (S.tell_from s.readers (S.stamp_of w) w.entry 1 8) (Memᴰ.head refl)

pub accept_reports : (g : Params) (s : Server) (a : List ℕ) (w : S.Write) (y : Sending) → Memᴰ y (S.reported g s w) → Memᴰ y (S.accept g s a w).sends
unfolding S.accept
accept_reports g s a w y u = Memᴰ.append_right (S.tell_from s.readers (S.stamp_of w) w.entry 1 8) (Memᴰ.tail u)

pub accept_length : (g : Params) (s : Server) (a : List ℕ) (w : S.Write) → length (S.accept g s a w).sends ≤ g.n + 17
unfolding S.accept
accept_length g s a w =
    let t = tell_length s.readers (S.stamp_of w) w.entry 1 8 in
    let p = length-append (S.tell_from s.readers (S.stamp_of w) w.entry 1 8) (ack_of w ∷ S.reported g s w) in
    omega (arith, t, p, reported_length g s w)
