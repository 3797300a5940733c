-- An honest client's write that was sent is accepted by every honest server in a finished run, or C: where it is open at all of them, each echoed it, so each
-- has n - t echoes and sent a ready; where one has passed it, that one accepted it, and totality does the rest. Assumes nothing.
use Prim.Native.Nat.{ℕ, suc, ◌≤◌, ◌<◌}
use native.Mathlib.Omega.{arith}
use native.Mathlib.Decide.{dec_lt}
use mathlib.Core.Bool.{false}
use mathlib.Core.Path.{◌≡◌, sym}
use mathlib.Core.Logic.{◌⊎◌, inl, inr, ⊎_elim}
use mathlib.Core.List.{List}
use Rattle.service.specs.Final as S
use Rattle.service.specs.Final.{Protocol}
use Rattle.service.proofs.Folds.{all_honest}
use Rattle.service.proofs.Total as T

module _ {K P : Type 0} (Q : Protocol K P) {ks : List K} {C : Type 0} (E : S.Ended Q ks C) where
  open Q use {n, faulty_server, faulty_client}
  open Q.views use {sequence, SentEcho, SentReady, Accepted, ClientSent}
  open E.final use {Client, Backed, Below, Free, rank}

  abbrev Honest : ℕ → Type 0
  Honest = S.Correct Q

  abbrev Each : (ℕ → Type 0) → Type 0
  Each = T.Each Q E

  -- client c sent x, which can be accepted, for its write s
  module _ (c s : ℕ) (x : P) (ic : Client c) (hc : faulty_client c ≡ false) (low : 1 ≤ s) (u : ClientSent ks c s x) (b : Backed x) (l : Below x) where
    module _ (e : Each (λ j. s ≡ sequence ks j c)) where
      echoed : (i : ℕ) → Honest i → SentEcho ks i c s x
      echoed i h =
          let (y, v) = E.final.send_in c i s x hc h u (e i h) in
          rw (E.final.sent_once c s x y hc u (E.invariant.echo_valid i c s y hc v)) v

      due_by_echoes : (j : ℕ) → Honest j → s ≡ sequence ks j c → ((y : P) × SentReady ks j c (sequence ks j c) y) ⊎ C
      due_by_echoes j h d = E.final.ready_of_echoes j c x h b (T.by_honest Q E (λ i hi. T.kept_echo Q E i j c x hi h (rw (sym d) (echoed i hi))))

      where_open : Each (λ j. Free j x) → Each (λ j. (s < sequence ks j c) ⊎ C)
      where_open f = T.all_accept Q E c s x ic low (λ j h. omega (arith, e j h)) b (T.by_honest Q E (λ i h _. echoed i h)) due_by_echoes l f

    -- it is open at each, or one has passed it
    where_come : Each (λ j. s ≤ sequence ks j c) → Each (λ j. Free j x) → Each (λ j. (s < sequence ks j c) ⊎ C)
    where_come m f j h = ⊎_elim
        (λ e. where_open e f j h)
        (λ z.
        let (i, hi, d) = z in
        let (y, v) = E.final.passed i c s hi ic low d in
        T.total Q E i c s y hi v j h)
        (all_honest (λ k. s ≡ sequence ks k c) n faulty_server (λ k hk. go k hk (m k hk) (dec_lt s (sequence ks k c))))
      where
        go : (k : ℕ) → Honest k → s ≤ sequence ks k c → Dec (s < sequence ks k c) → (s ≡ sequence ks k c) ⊎ ((i : ℕ) × Honest i × (s < sequence ks i c))
        go k hk m (yes d) = inr (k, hk, d)
        go k hk m (no d) = inl (omega arith)

    -- an honest server accepted the write before, and x waits for acceptances only
    pub written : (r : ℕ) → S.Freed Q ks rank Free r x → ((p : ℕ) → suc p ≡ s → 1 ≤ p → (i : ℕ) × Honest i × (y : P) × Accepted ks i c p y)
        → (j : ℕ) → Honest j → (s < sequence ks j c) ⊎ C
    written r w before j h = ⊎_elim
        (λ m. ⊎_elim (λ f. where_come m f j h) (λ z. inr z) (T.free_now Q E r x w))
        (λ z. inr z)
        (T.come_after Q E c s ic (λ p e k. let (i, hi, y, v) = before p e k in T.total Q E i c p y hi v))
