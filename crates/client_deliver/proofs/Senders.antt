-- Who sent a frame, and what the tests of a frame say of it. Assumes nothing.
use Rattle.std.specs.Prelude.{Err}
use Rattle.frame.specs.Refusals.{Verdict, fine}
use Prim.Native.Nat.{ℕ, ◌+◌, ◌*◌, ◌-◌, ◌≤◌, ◌<◌}
use native.Mathlib.Omega.{arith}
use mathlib.Core.Path.{◌≡◌, refl, ap, sym, ◌∙◌}
use mathlib.Core.Bool.{Bool, true, false, not, ◌&&◌}
use mathlib.Core.List.{List}
use lib.ListN.{get_or, take, drop}
use lib.Dec.{eqb, ltb}
use borrow.Author.Tests.{lt-ltb, le-ltb, not-false}
use Rattle.area.specs.Area.{pick}
use Rattle.area.proofs.Tests.{and_left}
use Rattle.blocks.specs.declared.Params.{Params}
use Rattle.frame.specs.declared.Party.{Party}
use Rattle.frame.specs.declared.Refusal.TheVariants as R
use Rattle.frame.specs.declared.Stamp.{Stamp}
use Rattle.frame.specs.Params.{width}
use Rattle.frame.specs.Messages.{entry, number_in, from_server}
use Rattle.frame.specs.Frames.{entry_in}
use Rattle.group_rules.specs.Coded.{fit_test}
use Rattle.frame.proofs.Verdicts.{fine_is}
use Rattle.frame.proofs.PartyLaws.{server_number}
use Rattle.frame.proofs.Writing.{part_at}
use Rattle.client_rules.specs.Rows.{has_stamp}
use Rattle.client_rules.specs.Tests.{awaited}

-- the sender where 11 found nothing, of which b is the test's value; i is its number
pub sender_facts : (g : Params) (from : Party) (c me : ℕ) (b : Bool) (i : ℕ) → b ≡ (from_server g from && eqb c me) → not b ≡ false → i ≡ number_in from
    → (1 ≤ i) × (i ≤ g.n)
sender_facts g from c me b i e q k =
    let d : (from_server g from && eqb c me) ≡ true = sym e ∙ not-false b q in
    let n = server_number g from (and_left (from_server g from) (eqb c me) d) in
    (omega (arith, n.0, k), omega (arith, n.1, k))

-- the same where all tests did
pub fine_sender : (g : Params) (from : Party) (c me : ℕ) (w v : Verdict) (i : ℕ) → v ≡ pick (from_server g from && eqb c me) w (Err R.Sender) → v ≡ fine
    → i ≡ number_in from → (1 ≤ i) × (i ≤ g.n)
fine_sender g from c me w v i e f k =
    let a = fine_is (from_server g from && eqb c me) R.Sender w (sym e ∙ f) in
    let n = server_number g from (and_left (from_server g from) (eqb c me) a.0) in
    (omega (arith, n.0, k), omega (arith, n.1, k))

-- of a report, which may name any client: where 11 found nothing
pub report_place : (g : Params) (from : Party) (b : Bool) (i : ℕ) → b ≡ from_server g from → not b ≡ false → i ≡ number_in from → (1 ≤ i) × (i ≤ g.n)
report_place g from b i e q k =
    let n = server_number g from (sym e ∙ not-false b q) in
    (omega (arith, n.0, k), omega (arith, n.1, k))

-- and where all tests did
pub report_sender : (g : Params) (from : Party) (w v : Verdict) (i : ℕ) → v ≡ pick (from_server g from) w (Err R.Sender) → v ≡ fine → i ≡ number_in from
    → (1 ≤ i) × (i ≤ g.n)
report_sender g from w v i e f k =
    let n = server_number g from (fine_is (from_server g from) R.Sender w (sym e ∙ f)).0 in
    (omega (arith, n.0, k), omega (arith, n.1, k))

-- ---- refusal 12

pub awaited_at : (v : Verdict) (fit : Bool) (q last i j : ℕ) (heard : List Bool) → v ≡ awaited (fit && (eqb q last && not (get_or heard i false))) → i ≡ j
    → v ≡ awaited (fit && (eqb q last && not (get_or heard j false)))
awaited_at v fit q last i j heard e k = e ∙ ap (λ m. awaited (fit && (eqb q last && not (get_or heard m false)))) k

pub awaited_new : (v : Verdict) (fit again : Bool) (q last : ℕ) (phase : Bool) (l : List Stamp) (m n : ℕ) (x : Stamp)
    → v ≡ awaited (fit && (eqb q last && not again)) → fit ≡ phase → again ≡ has_stamp l m x → m ≡ n
    → v ≡ awaited (phase && (eqb q last && not (has_stamp l n x)))
awaited_new v fit again q last phase l m n x e p a k =
    e ∙ (λ i. awaited (p i && (eqb q last && not (a i)))) ∙ ap (λ z. awaited (phase && (eqb q last && not (has_stamp l z x)))) k

-- a report that is not higher, and one that is
module _ (rs : List ℕ) (i j T : ℕ) (k : i ≡ j) where
  pub report_old : T ≤ get_or rs i 0 → Err R.Stale ≡ awaited (ltb (get_or rs j 0) T)
  unfolding awaited pick
  report_old h = let e : ltb (get_or rs j 0) T ≡ false = ap (λ m. ltb (get_or rs m 0) T) (sym k) ∙ le-ltb (get_or rs i 0) T h in rw e

  pub report_new : get_or rs i 0 < T → fine ≡ awaited (ltb (get_or rs j 0) T)
  unfolding awaited pick
  report_new h = let e : ltb (get_or rs j 0) T ≡ true = ap (λ m. ltb (get_or rs m 0) T) (sym k) ∙ lt-ltb (get_or rs i 0) T h in rw e

-- the phase is right where nothing is found
pub awaited_fit : (fit x : Bool) → awaited (fit && x) ≡ fine → fit ≡ true
unfolding awaited
awaited_fit fit x e = and_left fit x (fine_is (fit && x) R.Stale fine e).0

-- ---- refusal 14

pub fit_in : (H : List ℕ → List ℕ) (g : Params) (f : List ℕ) (i w j : ℕ) (v : Verdict) → w ≡ width g
    → v ≡ fit_test H (entry (take (i + 32 * g.n - i) (drop i f)) (take (i + 32 * g.n + w - (i + 32 * g.n)) (drop (i + 32 * g.n) f))) j
    → v ≡ fit_test H (entry_in g f i) j
fit_in H g f i w j v e q =
    let d = part_at f i (32 * g.n) (32 * g.n) refl in
    let c = part_at f (i + 32 * g.n) w (width g) e in
    q ∙ (λ m. fit_test H (entry (d m) (c m)) j)
