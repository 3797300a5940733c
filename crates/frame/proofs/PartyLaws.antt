-- Who sends a frame, and who gets it: the two bytes of a party, the servers, and what goes to all of them. Assumes nothing.
use Prim.Native.Nat.{ℕ, zero, suc, ◌≤◌}
use mathlib.Core.Path.{◌≡◌, refl, ap}
use mathlib.Core.Bool.{true}
use mathlib.Core.Logic.{⊎_elim}
use mathlib.Core.List.Memᴰ
use mathlib.Core.List.{List, [], ◌∷◌, ◌++◌, Memᴰ}
use lib.Dec.{leb}
use lib.ListN.{length, get_or, drop}
use borrow.Author.Tests.{leb-true}
use Rattle.area.specs.Area.{pick}
use Rattle.area.proofs.Tests.{impossible, and_left, and_right}
use Rattle.blocks.specs.declared.Params.{Params}
use Rattle.frame.specs.declared.Party.{Party}
use Rattle.frame.specs.declared.Party.TheVariants as P
use Rattle.frame.specs.Messages.{Message, Sending, to_from, number_in, from_server}
use Rattle.frame.specs.Outbox.{party_bytes, party_in}

-- ---- the two bytes of a party

pub client_bytes_lem : (p : Party) (c : ℕ) → p ≡ P.Client c → (0 ∷ c ∷ []) ≡ party_bytes p
unfolding party_bytes
client_bytes_lem p c e = rw e

pub server_bytes_lem : (p : Party) (j : ℕ) → p ≡ P.Server j → (1 ∷ j ∷ []) ≡ party_bytes p
unfolding party_bytes
server_bytes_lem p j e = rw e

pub length_party : (p : Party) → length (party_bytes p) ≡ 2
unfolding party_bytes
length_party (P.Client c) = refl
length_party (P.Server j) = refl

-- they name it, whatever follows them
pub party_back : (p : Party) (l : List ℕ) → (party_in (get_or (party_bytes p ++ l) 0 0) (get_or (party_bytes p ++ l) 1 0) ≡ p) × (drop 2 (party_bytes p ++ l) ≡ l)
unfolding party_bytes party_in pick
party_back (P.Client c) l = (refl, refl)
party_back (P.Server j) l = (refl, refl)

-- ---- servers

-- one of servers 1 to n
pub server_number : (g : Params) (from : Party) → from_server g from ≡ true → (1 ≤ number_in from) × (number_in from ≤ g.n)
server_number g (P.Client c) e = impossible (cc)
server_number g (P.Server j) e = (leb-true 1 j (and_left (leb 1 j) (leb j g.n) e), leb-true j g.n (and_right (leb 1 j) (leb j g.n) e))

-- what goes to all servers is one of the messages
pub mem_all : (f : ℕ → Message) (j m : ℕ) (x : Sending) → Memᴰ x (to_from f j m) → (i : ℕ) × (x.says ≡ f i)
unfolding to_from
mem_all f j zero x u = absurd (Memᴰ.not-nil u)
mem_all f j (suc m) x u = ⊎_elim (λ e. (j, ap (λ y. y.says) e)) (λ w. mem_all f (suc j) m x w) (Memᴰ.cases_cons u)
