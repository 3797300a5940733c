-- "At n - t first stamps" blocks go out with the time, "At n - t acks [the write] has ended": not at fewer. Assumes nothing.
use Prim.Native.Nat.{ℕ, ◌-◌, ◌≤◌}
use native.Mathlib.Omega.{arith}
use mathlib.Core.Bool.{Bool, true, false}
use mathlib.Core.Path.{◌≡◌, refl}
use mathlib.Core.List.Memᴰ
use mathlib.Core.List.{List, Memᴰ}
use lib.ListN.{get_or, set}
use borrow.Author.Tests.{leb-true}
use Rattle.quorum.specs.Quorum.{count}
use Rattle.quorum.proofs.Logic.{impossible}
use Rattle.blocks.specs.declared.Params.{Params}
use Rattle.frame.specs.Messages.{Sending}
use Rattle.client_rules.specs.declared.Client.{Client}
use Rattle.client_rules.specs.Steps as C

module _ (H : List ℕ → List ℕ) (g : Params) (me : ℕ) where
  end_true : (b : Bool) (s : Client) (a : List ℕ) (h : List Bool) → (C.end_by H g me b s a h).event ≡ C.written → b ≡ true
  unfolding C.end_by
  end_true true s a h e = refl
  end_true false s a h e = impossible (cc e)

  send_true : (s : Client) (a v : List ℕ) (x : Sending) → Memᴰ x (C.gather H g me s a v).sends → C.gathered g s ≡ true
  unfolding C.gather_by
  send_true s a v x u = go (C.gathered g s) u
    where
      go : (b : Bool) → Memᴰ x (C.gather_by H g me b s a v).sends → b ≡ true
      go true u = refl
      go false u = absurd (Memᴰ.not-nil u)

  module _ (s : Client) (a : List ℕ) (j : ℕ) where
    -- how many servers are marked once server j's stamp or ack came
    abbrev pub marked : ℕ
    marked = count (λ i. get_or (set s.heard j true) i false) g.n

    pub ended_acks : (C.on_ack H g me s a j).event ≡ C.written → g.n - g.t ≤ marked
    unfolding C.on_ack C.quorate
    ended_acks e = let h = leb-true g.n _ (end_true _ s a _ e) in omega (arith, h)

  -- "At n - t first stamps" that t + 1 servers reported: not at fewer
  pub sent_stamps : (s : Client) (a v : List ℕ) (x : Sending) → Memᴰ x (C.gather H g me s a v).sends → g.n - g.t ≤ count (C.counted g s) g.n
  unfolding C.gathered
  sent_stamps s a v x u = let h = leb-true g.n _ (send_true s a v x u) in omega (arith, h)
