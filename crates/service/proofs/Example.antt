-- A finished run in the small, so that `Ended` is not empty: servers 1 to 4, of which 4 is false. Client 1 is honest and wrote twice, and all honest servers
-- accepted both writes. Client 2 is false; of its write the readies of all servers have come, but with 9, which is never accepted. There is nothing else (C is
-- ⊥). Assumes nothing.
use Prim.Native.Nat.{ℕ, zero, suc, ◌≤◌, ◌<◌}
use native.Mathlib.Omega.{arith}
use mathlib.Core.Bool.{Bool, true, false}
use mathlib.Core.Path.{◌≡◌, refl}
use mathlib.Core.Logic.{◌⊎◌, inl, inr, ⊎_elim}
use mathlib.Core.List.{[]}
use lib.Dec.{leb, eqb}
use borrow.Author.Tests.{eqb-true}
use Rattle.quorum.specs.Quorum.{count, Faults}
use Rattle.quorum.proofs.Quorums.{AtLeast, at_least_fewer, honest_member}
use Rattle.broadcast.proofs.Agreement as B
use Rattle.service.specs.Final.{Protocol, Correct, Final, Ended}
use Rattle.service.proofs.Total as T

-- ---- the run

-- the write s of client c with x: the two that were accepted, and the one that waits for good
abbrev Accepted : ℕ → ℕ → ℕ → Type 0
Accepted c s x = (c ≡ 1) × (1 ≤ s) × (s ≤ 2) × (suc x ≡ s)

abbrev Waiting : ℕ → ℕ → Type 0
Waiting c x = (c ≡ 2) × (x ≡ 9)

abbrev Said : ℕ → ℕ → ℕ → Type 0
Said c s x = Accepted c s x ⊎ (Waiting c x × (s ≡ 1))

-- the open sequence, of client 1 or another one
abbrev current : Bool → ℕ
current true = 3
current false = 1

abbrev example : Protocol (Unit {0}) ℕ
example = record {
  views = record {
    sequence = λ ks i c. current (eqb c 1);
    echoed = λ ks i c. true;
    KeptEcho = λ ks i c j x. Waiting c x;
    KeptReady = λ ks i c j x. Waiting c x;
    SentEcho = λ ks i c s x. Said c s x;
    SentReady = λ ks i c s x. Said c s x;
    Delivered = λ ks i c x. Waiting c x;
    Accepted = λ ks i c s x. Accepted c s x;
    ClientSent = λ ks c s x. Said c s x;
  };
  n = 4;
  t = 1;
  few = 2;
  all = 3;
  faulty_server = λ j. leb 4 j;
  faulty_client = λ c. leb 2 c;
}

-- ---- its numbers

faults : Faults 4 1 (λ j. leb 4 j)
unfolding count
faults = record { many = omega arith; few = omega arith }

of_first : (c : ℕ) → c ≡ 1 → current (eqb c 1) ≡ 3
of_first c e = rw e

of_second : (c : ℕ) → c ≡ 2 → current (eqb c 1) ≡ 1
of_second c e = rw e

from_first : (b : Bool) → 1 ≤ current b
from_first true = omega arith
from_first false = omega arith

said_once : (c s x y : ℕ) → Said c s x → Said c s y → x ≡ y
said_once c s x y (inl u) (inl v) = omega arith
said_once c s x y (inl u) (inr v) = absurd (omega (arith, u.0, v.0.0))
said_once c s x y (inr u) (inl v) = absurd (omega (arith, v.0, u.0.0))
said_once c s x y (inr u) (inr v) = omega arith

past : (c s x : ℕ) → Said c s x → (s < current (eqb c 1)) ⊎ ((s ≡ current (eqb c 1)) × (true ≡ true))
past c s x (inl u) = inl (omega (arith, u, of_first c u.0))
past c s x (inr u) = inr (omega (arith, u, of_second c u.0.0), refl)

waiting_said : (c x : ℕ) → Waiting c x → Said c (current (eqb c 1)) x
waiting_said c x u = inr (u, of_second c u.0)

-- what was said for an open sequence is the write that waits
said_open : (c s x : ℕ) → Said c s x → s ≡ current (eqb c 1) → Waiting c x
said_open c s x (inl u) e = absurd (omega (arith, u, of_first c u.0))
said_open c s x (inr u) e = u.0

everybody : (m : ℕ) {A : ℕ → Type 0} → m ≤ 4 → ((j : ℕ) → A j) → AtLeast 4 m A
unfolding count
everybody m l f = record { member = λ _. true; many = l; each = λ j _ _. f j }

by_some : (c x m : ℕ) → 2 ≤ m → AtLeast 4 m (λ i. Waiting c x) → Waiting c x
by_some c x m l w = let (j, is, g, u) = honest_member faults (at_least_fewer l w) in u

-- the payload of write s is one less
payload : (s : ℕ) → 1 ≤ s → (x : ℕ) × (suc x ≡ s)
payload zero l = absurd (omega arith)
payload (suc x) l = (x, refl)

passed : (c s : ℕ) (b : Bool) → eqb c 1 ≡ b → 1 ≤ s → s < current b → (x : ℕ) × Accepted c s x
passed c s true e l h = let (x, d) = payload s l in (x, (eqb-true c 1 e, l, omega arith, d))
passed c s false e l h = absurd (omega arith)

-- ---- it is finished

invariant : B.Invariant example.views 4 1 2 3 (λ j. leb 4 j) (λ c. leb 2 c) []
invariant = record {
  echo_past = λ i c s x u. past c s x u;
  echo_once = λ i c s x y u v. said_once c s x y u v;
  echo_heard = λ i c j x _ _ u. waiting_said c x u;
  ready_heard = λ i c j x _ _ u. waiting_said c x u;
  ready_supported = λ i c s x u. everybody 3 (omega arith) (λ j _. u);
  delivered_readies = λ i c x u. everybody 3 (omega arith) (λ j _. waiting_said c x u);
  accepted_readies = λ i c s x u. everybody 3 (omega arith) (λ j _. inl u);
  echo_valid = λ i c s x _ u. u;
}

final : Final example [] ⊥
final = record {
  Client = λ c. Unit {0};
  Backed = λ x. Unit {0};
  Below = λ x. x < 9;
  Free = λ j x. Unit {0};
  send_in = λ c j s x _ _ u _. (x, u);
  echo_in = λ i j c s x _ _ u e. (x, said_open c s x u e);
  ready_in = λ i j c s x _ _ u e. (x, said_open c s x u e);
  ready_of_echoes = λ j c x _ _ w. inl (x, waiting_said c x (by_some c x 3 (omega arith) w));
  ready_of_readies = λ j c x _ _ w. inl (x, waiting_said c x (by_some c x 2 (omega arith) w));
  not_done = λ j c x _ _ l _ w. omega (arith, l, (by_some c x 3 (omega arith) w).1);
  sent_once = λ c s x y _ u v. said_once c s x y u v;
  ready_backed = λ i c s x _ u. tt;
  begin = λ j c _ _. from_first (eqb c 1);
  passed = λ j c s _ _ l h. passed c s (eqb c 1) refl l h;
  of_client = λ i c s x _ u. tt;
  from_one = λ i c s x _ u. u.1;
  accepted_below = λ i c s x _ u. omega (arith, u.2, u.3);
  readied = λ i c s x _ u. (x, inl u);
  rank = λ i c s x u. s;
  before = λ i c s x _ u l. let (y, d) = payload s l in (y, (u.0, l, omega (arith, u.2), d), omega arith);
  freed = λ i c s x _ u. inl (λ j h. tt);
}

ended : Ended example [] ⊥
ended = record {
  faults = faults;
  thresholds = record { some = omega arith; reach = omega arith; room = omega arith };
  invariant = invariant;
  final = final;
}

-- server 1 accepted client 1's second write, so all honest servers did
pub second_accepted : (j : ℕ) → Correct example j → 2 < current (eqb 1 1)
second_accepted j h = ⊎_elim (λ l. l) (λ z. absurd z) (T.total example ended 1 1 2 1 (omega arith, refl) (refl, omega arith, omega arith, refl) j h)
