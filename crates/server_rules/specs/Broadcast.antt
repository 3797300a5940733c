-- A server's part in the broadcast of one write, for any payload: what it counted and kept, and when a ready or the delivery is due.
-- A write's time, digest list and blocks are the instance (Rules.antt). These are definitions.
use Rattle.std.specs.Prelude.{ℕ, ◌+◌, Bool, true, false, not, ◌&&◌, ◌||◌, leb}
use Rattle.std.proofs.Math.Option.{Option, none, some}
use Rattle.quorum.specs.Quorum.{count}
pub use Rattle.area.specs.Area.{kept}

-- What a broadcast asks: which payloads are equal, whether the kept ones support a payload, what server i then says itself, how many readies
-- lead to a ready, and how many to the delivery.
pub record Rules (P : Type 0) : Type 0 where
  pub alike : P → P → Bool
  pub supports : (ℕ → Option P) → (ℕ → Option P) → P → Bool
  pub own : ℕ → (ℕ → Option P) → (ℕ → Option P) → P → P
  pub few : ℕ
  pub all : ℕ

-- What server j's echo and ready said, as far as counted; whether the client's own frame came, whether a ready went out; what was delivered.
pub record Part (P : Type 0) : Type 0 where
  pub sent : Bool
  pub ready : Bool
  pub echoes : ℕ → Option P
  pub readies : ℕ → Option P
  pub done : Option P

abbrev pub undone : {P : Type 0} → Option P → Bool
undone none = true
undone (some p) = false

module _ {P : Type 0} (R : Rules P) (n t : ℕ) where
  abbrev pub is_like : Option P → P → Bool
  is_like none x = false
  is_like (some y) x = R.alike y x

  -- how many of servers 1 to n said x
  unfoldable pub votes : (ℕ → Option P) → P → ℕ
  votes f x = count (λ j. is_like (f j) x) n

  -- n - t echoes, or readies enough
  unfoldable pub enough : Part P → P → Bool
  enough s x = leb n (votes s.echoes x + t) || leb R.few (votes s.readies x)

  -- a ready of x is due: "once for the write"
  unfoldable pub due : Part P → P → Bool
  due s x = not s.ready && (enough s x && R.supports s.echoes s.readies x)

  -- x is delivered, unless something was before
  unfoldable pub full : Part P → P → Bool
  full s x = leb R.all (votes s.readies x) && R.supports s.echoes s.readies x

  -- whether a ready or the delivery depends on x being supported
  unfoldable pub matters : Part P → P → Bool
  matters s x = (not s.ready && enough s x) || (leb R.all (votes s.readies x) && undone s.done)
