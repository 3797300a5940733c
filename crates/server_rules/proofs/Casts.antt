-- What goes to all servers, by membership and by length; and which bodies do. Assumes nothing.
use Prim.Native.Nat.{ℕ, zero, suc, ◌+◌, ◌≤◌, ◌<◌}
use native.Mathlib.Omega.{arith}
use native.Mathlib.Decide.{ℕ_discrete}
use mathlib.Core.Path.{◌≡◌, refl, ap}
use mathlib.Core.Logic.{⊎_elim}
use mathlib.Core.List.Memᴰ
use mathlib.Core.List.{◌∷◌, Memᴰ}
use lib.ListN.{length}
use Rattle.quorum.specs.Quorum.{Among}
use Rattle.blocks.specs.declared.Params.{Params}
use Rattle.frame.specs.declared.Party.TheVariants as P
use Rattle.frame.specs.Messages.{Body, get_stamp, ack, ask_read, read_complete, stamp_is, block_is, value_is, report, Message, sending, to_from, to_all, clients_from}
use Rattle.frame.specs.Messages.{to_clients, Sending}
pub use Rattle.frame.proofs.PartyLaws.{mem_all}

-- a frame of a write's broadcast
abbrev pub IsCast : Body → Type 0
IsCast get_stamp = ⊥
IsCast ack = ⊥
IsCast ask_read = ⊥
IsCast read_complete = ⊥
IsCast (stamp_is T) = ⊥
IsCast (block_is z o) = Unit {0}
IsCast (value_is x e) = ⊥
IsCast (report T) = ⊥

-- each server gets its own
pub all_mem : (f : ℕ → Message) (j m i : ℕ) → j ≤ i → i < j + m → Memᴰ (sending (P.Server i) (f i)) (to_from f j m)
unfolding to_from
all_mem f j zero i l h = absurd (omega arith)
all_mem f j (suc m) i l h = go (λ u. all_mem f (suc j) m i u (omega arith)) (ℕ_discrete i j)
  where
    go : (suc j ≤ i → Memᴰ (sending (P.Server i) (f i)) (to_from f (suc j) m)) → Dec (i ≡ j)
        → Memᴰ (sending (P.Server i) (f i)) (sending (P.Server j) (f j) ∷ to_from f (suc j) m)
    go r (yes e) = Memᴰ.head (ap (λ k. sending (P.Server k) (f k)) e)
    go r (no e) = Memᴰ.tail (r (omega (arith, e)))

from_length : (f : ℕ → Message) (j m : ℕ) → length (to_from f j m) ≡ m
unfolding to_from
from_length f j zero = refl
from_length f j (suc m) = let w = from_length f (suc j) m in omega (arith, w)

pub all_length : (g : Params) (f : ℕ → Message) → length (to_all g f) ≡ g.n
unfolding to_all
all_length g f = from_length f 1 g.n

-- each client gets it
clients_mem : (m : Message) (c k d : ℕ) → c ≤ d → d < c + k → Memᴰ (sending (P.Client d) m) (clients_from m c k)
unfolding clients_from
clients_mem m c zero d l h = absurd (omega arith)
clients_mem m c (suc k) d l h = go (λ u. clients_mem m (suc c) k d u (omega arith)) (ℕ_discrete d c)
  where
    go : (suc c ≤ d → Memᴰ (sending (P.Client d) m) (clients_from m (suc c) k)) → Dec (d ≡ c)
        → Memᴰ (sending (P.Client d) m) (sending (P.Client c) m ∷ clients_from m (suc c) k)
    go r (yes e) = Memᴰ.head (ap (λ k. sending (P.Client k) m) e)
    go r (no e) = Memᴰ.tail (r (omega (arith, e)))

pub to_clients_lem : (m : Message) (d : ℕ) → Among 8 d → Memᴰ (sending (P.Client d) m) (to_clients m)
unfolding to_clients
to_clients_lem m d is = clients_mem m 1 8 d is.0 (omega (arith, is.1))

pub to_servers : (g : Params) (m : Message) (j : ℕ) → Among g.n j → Memᴰ (sending (P.Server j) m) (to_all g (λ j. m))
unfolding to_all
to_servers g m j is = all_mem (λ j. m) 1 g.n j is.0 (omega (arith, is.1))

mem_from : (m : Message) (c k : ℕ) (y : Sending) → Memᴰ y (clients_from m c k) → (d : ℕ) × (c ≤ d) × (d < c + k) × (y ≡ sending (P.Client d) m)
unfolding clients_from
mem_from m c zero y u = absurd (Memᴰ.not-nil u)
mem_from m c (suc k) y u = ⊎_elim
    (λ e. (c, omega arith, omega arith, e))
    (λ v. let (d, l, h, e) = mem_from m (suc c) k y v in (d, omega (arith, l), omega (arith, h), e))
    (Memᴰ.cases_cons u)

-- what goes to the clients goes to one of them
pub mem_clients : (m : Message) (y : Sending) → Memᴰ y (to_clients m) → (d : ℕ) × Among 8 d × (y ≡ sending (P.Client d) m)
unfolding to_clients
mem_clients m y u = let (d, l, h, e) = mem_from m 1 8 y u in (d, (l, omega (arith, h)), e)

mem_to : (f : ℕ → Message) (j k : ℕ) (y : Sending) → Memᴰ y (to_from f j k) → (i : ℕ) × (j ≤ i) × (i < j + k) × (y ≡ sending (P.Server i) (f i))
unfolding to_from
mem_to f j zero y u = absurd (Memᴰ.not-nil u)
mem_to f j (suc k) y u = ⊎_elim
    (λ e. (j, omega arith, omega arith, e))
    (λ v. let (d, l, h, e) = mem_to f (suc j) k y v in (d, omega (arith, l), omega (arith, h), e))
    (Memᴰ.cases_cons u)

pub mem_servers : (g : Params) (m : Message) (y : Sending) → Memᴰ y (to_all g (λ j. m)) → (j : ℕ) × Among g.n j × (y ≡ sending (P.Server j) m)
unfolding to_all
mem_servers g m y u = let (j, l, h, e) = mem_to (λ j. m) 1 g.n y u in (j, (l, omega (arith, h)), e)

clients_many : (m : Message) (c k : ℕ) → length (clients_from m c k) ≡ k
unfolding clients_from
clients_many m c zero = refl
clients_many m c (suc k) = let w = clients_many m (suc c) k in omega (arith, w)

pub clients_length : (m : Message) → length (to_clients m) ≡ 8
unfolding to_clients
clients_length m = clients_many m 1 8
