-- Both thresholds are needed. In each of two finished runs of servers 1 to 4, of which 4 is false, server 1 accepted the write of client 1, who is false, and
-- no other server did. In the first a delivery follows two readies, more than t but fewer than few and t; in the second it follows four, more than there are
-- honest servers. The servers 1 to e echoed and 1 to r sent a ready; the false server sent an echo and a ready to server 1 only. Assumes nothing.
use Prim.Native.Nat.{ℕ, zero, suc, ◌≤◌, ◌<◌}
use native.Mathlib.Omega.{arith}
use mathlib.Core.Bool.{Bool, true, false, ◌&&◌, ◌||◌}
use mathlib.Core.Path.{◌≡◌, refl, ap, sym, ◌∙◌}
use mathlib.Core.Logic.{◌⊎◌, inl, inr}
use mathlib.Core.List.{[]}
use lib.Dec.{leb, eqb}
use borrow.Author.Tests.{eqb-true, leb-true, leb-false, le-leb}
use Rattle.quorum.specs.Quorum.{bit, count, Among, Faults}
use Rattle.quorum.proofs.Logic.{impossible, and_split, or_split}
use Rattle.quorum.proofs.Quorums.{AtLeast, at_least_map, at_least_fewer, at_least_count, honest_member}
use Rattle.broadcast.proofs.Agreement.{Invariant}
use Rattle.service.specs.Final.{Protocol, Final}

-- ---- the run

abbrev Said : ℕ → ℕ → ℕ → Type 0
Said c s x = (c ≡ 1) × (s ≡ 1) × (x ≡ 0)

-- server 1 has passed client 1's write
abbrev current : ℕ → ℕ → ℕ
current i c = suc (bit (eqb i 1 && eqb c 1))

-- the other servers keep what the servers j from 1 to m sent
abbrev Kept : ℕ → ℕ → ℕ → ℕ → ℕ → Type 0
Kept m i c j x = (2 ≤ i) × (j ≤ m) × (c ≡ 1) × (x ≡ 0)

abbrev false_server : ℕ → Bool
false_server j = leb 4 j

-- a ready at two readies, a delivery at `all`
abbrev stopped : ℕ → ℕ → ℕ → Protocol (Unit {0}) ℕ
stopped all e r = record {
  views = record {
    sequence = λ ks i c. current i c;
    echoed = λ ks i c. true;
    KeptEcho = λ ks i c j x. Kept e i c j x;
    KeptReady = λ ks i c j x. Kept r i c j x;
    SentEcho = λ ks i c s x. (i ≤ e) × Said c s x;
    SentReady = λ ks i c s x. (i ≤ r) × Said c s x;
    Delivered = λ ks i c x. ⊥;
    Accepted = λ ks i c s x. (i ≡ 1) × Said c s x;
    ClientSent = λ ks c s x. Said c s x;
  };
  n = 4;
  t = 1;
  few = 2;
  all = all;
  faulty_server = false_server;
  faulty_client = λ c. true;
}

-- lawful and finished, and yet server 1 accepted the write and server 2 has it open
pub record NotTotal (all e r : ℕ) : Type 1 where
  pub faults : Faults 4 1 false_server
  pub invariant : Invariant (stopped all e r).views 4 1 2 all false_server (λ c. true) []
  pub final : Final (stopped all e r) [] ⊥
  pub accepted : (stopped all e r).views.Accepted [] 1 1 1 0
  pub open_still : (stopped all e r).views.sequence [] 2 1 ≡ 1

-- ---- its numbers

-- the servers 1 to m and the false one
abbrev with_false : ℕ → ℕ → Bool
with_false m j = leb j m || eqb j 4

record Counts (e r : ℕ) : Type 0 where
  one : 1 ≤ r
  echoes : 3 ≤ count (with_false e) 4
  readies : suc r ≤ count (with_false r) 4
  echo_due : 3 ≤ count (λ j. leb j e) 4 → 3 ≤ r
  ready_due : 2 ≤ count (λ j. leb j r) 4 → 3 ≤ r
  short : count (λ j. leb j r) 4 ≤ r

the_faults : Faults 4 1 false_server
unfolding count
the_faults = record { many = omega arith; few = omega arith }

past : (s : ℕ) (b : Bool) → s ≡ 1 → (s < suc (bit b)) ⊎ ((s ≡ suc (bit b)) × (true ≡ true))
past s true e = inl (omega arith)
past s false e = inr (omega arith, refl)

later : (i c : ℕ) → 2 ≤ i → current i c ≡ 1
later i c l = go (eqb i 1) refl
  where
    go : (b : Bool) → eqb i 1 ≡ b → suc (bit (b && eqb c 1)) ≡ 1
    go true e = absurd (omega (arith, eqb-true i 1 e))
    go false e = refl

not_first : (i c : ℕ) → 1 ≤ i → c ≡ 1 → current i c ≡ 1 → 2 ≤ i
not_first i c l e d = go i l (ap (λ z. current i z) (sym e) ∙ d)
  where
    go : (i : ℕ) → 1 ≤ i → current i 1 ≡ 1 → 2 ≤ i
    go zero l d = absurd (omega arith)
    go (suc zero) l d = absurd (omega arith)
    go (suc (suc i)) l d = omega arith

passed : (j c s : ℕ) (b : Bool) → (eqb j 1 && eqb c 1) ≡ b → 1 ≤ s → s < suc (bit b) → (x : ℕ) × ((j ≡ 1) × Said c s x)
passed j c s true e l h = let w = and_split (eqb j 1) (eqb c 1) e in (0, (eqb-true j 1 w.0, (eqb-true c 1 w.1, omega arith, refl)))
passed j c s false e l h = absurd (omega arith)

honest_low : (j : ℕ) → Among 4 j × (false_server j ≡ false) → j ≤ 3
honest_low j h = omega (arith, leb-false 4 j h.1)

-- m servers and the false one, of which the honest ones are among the m
backing : (m a : ℕ) {A : ℕ → Type 0} → a ≤ count (with_false m) 4 → ((j : ℕ) → j ≤ m → A j) → AtLeast 4 a (λ j. false_server j ≡ false → A j)
backing m a {A} l f = record { member = with_false m; many = l; each = λ j i e g. go j g (or_split (leb j m) (eqb j 4) e) }
  where
    go : (j : ℕ) → false_server j ≡ false → (leb j m ≡ true) ⊎ (eqb j 4 ≡ true) → A j
    go j g (inl e) = f j (leb-true j m e)
    go j g (inr e) = absurd (omega (arith, leb-false 4 j g, eqb-true j 4 e))

kept_count : (m a j c x : ℕ) → AtLeast 4 a (λ i. Kept m j c i x) → a ≤ count (λ i. leb i m) 4
kept_count m a j c x w = at_least_count (λ i. leb i m) (at_least_map (λ i _ k. le-leb i m k.1) w)

-- ---- it is finished

module _ (e r : ℕ) (N : Counts e r) where
  -- the ready that is sent on the kept frames of an open sequence
  ready_out : (m a j c x : ℕ) → 2 ≤ a → (a ≤ count (λ i. leb i m) 4 → 3 ≤ r) → Among 4 j × (false_server j ≡ false) → AtLeast 4 a (λ i. Kept m j c i x)
      → (y : ℕ) × ((j ≤ r) × Said c (current j c) y)
  ready_out m a j c x l d h w =
      let (i, is, g, k) = honest_member the_faults (at_least_fewer l w) in
      (0, (omega (arith, d (kept_count m a j c x w), honest_low j h), (k.2, later j c k.0, refl)))

  kept : (m i j c s x : ℕ) → Among 4 j × (false_server j ≡ false) → (i ≤ m) × Said c s x → s ≡ current j c → (y : ℕ) × Kept m j c i y
  kept m i j c s x h u q = (0, (not_first j c h.0.0 u.1.0 (sym q ∙ u.1.1), u.0, u.1.0, refl))

  not_total : NotTotal (suc r) e r
  not_total = record {
    faults = the_faults;
    invariant = record {
      echo_past = λ i c s x u. past s (eqb i 1 && eqb c 1) u.1.1;
      echo_once = λ i c s x y u v. omega (arith, u.1, v.1);
      echo_heard = λ i c j x _ _ k. (k.1, (k.2, later i c k.0, k.3));
      ready_heard = λ i c j x _ _ k. (k.1, (k.2, later i c k.0, k.3));
      ready_supported = λ i c s x u. backing e 3 N.echoes (λ j l. (l, u.1));
      delivered_readies = λ i c x u. absurd u;
      accepted_readies = λ i c s x u. backing r (suc r) N.readies (λ j l. (l, u.1));
      echo_valid = λ i c s x h u. u.1;
    };
    final = record {
      Client = λ c. Unit {0};
      Backed = λ x. Unit {0};
      Below = λ x. Unit {0};
      Free = λ j x. Unit {0};
      send_in = λ c j s x h _ _ _. impossible (cc h);
      echo_in = λ i j c s x _ h u q. kept e i j c s x h u q;
      ready_in = λ i j c s x _ h u q. kept r i j c s x h u q;
      ready_of_echoes = λ j c x h _ w. inl (ready_out e 3 j c x (omega arith) N.echo_due h w);
      ready_of_readies = λ j c x h _ w. inl (ready_out r 2 j c x (omega arith) N.ready_due h w);
      not_done = λ j c x _ _ _ _ w. omega (arith, kept_count r (suc r) j c x w, N.short);
      sent_once = λ c s x y _ u v. omega (arith, u, v);
      ready_backed = λ i c s x _ u. tt;
      begin = λ j c _ _. omega arith;
      passed = λ j c s _ _ l h. passed j c s (eqb j 1 && eqb c 1) refl l h;
      of_client = λ i c s x _ u. tt;
      from_one = λ i c s x _ u. omega (arith, u.1.1);
      accepted_below = λ i c s x _ u. tt;
      readied = λ i c s x _ u. (x, (omega (arith, u.0, N.one), u.1));
      rank = λ i c s x u. 0;
      before = λ i c s x _ u l. absurd (omega (arith, u.1.1));
      freed = λ i c s x _ u. inl (λ j h. tt);
    };
    accepted = (refl, (refl, refl, refl));
    open_still = refl;
  }

-- ---- the two

pub few_too_near : NotTotal 2 2 1
unfolding count
few_too_near = not_total 2 1 (record {
  one = omega arith;
  echoes = omega arith;
  readies = omega arith;
  echo_due = λ l. absurd (omega arith);
  ready_due = λ l. absurd (omega arith);
  short = omega arith;
})

pub all_too_many : NotTotal 4 3 3
unfolding count
all_too_many = not_total 3 3 (record {
  one = omega arith;
  echoes = omega arith;
  readies = omega arith;
  echo_due = λ l. omega arith;
  ready_due = λ l. omega arith;
  short = omega arith;
})
