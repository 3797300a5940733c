-- The answer to a call with a short area, from the promises of the functions that its code calls. Assumes nothing.
use Rattle.std.specs.Prelude.{Ok, Err}
use Rattle.frame.specs.Refusals.{Verdict, fine, refused}
use Prim.Native.Nat.{ℕ}
use mathlib.Core.Path.{◌≡◌, sym, ap, ◌∙◌}
use mathlib.Core.List.{List}
use Rattle.blocks.specs.declared.Params.{Params}
use Rattle.frame.specs.Frames.{Opened}
use Rattle.frame.specs.declared.Header.{Header}
use Rattle.frame.specs.declared.Refusal.{Refusal}
use Rattle.frame.specs.Params.{Bounded, params_test}
use Rattle.frame.specs.Stamps.{last_client}
use Rattle.frame.specs.Frames.{opened}
use Rattle.frame.proofs.Within.{admitted_of, stop_first, go_second}
use Rattle.client_rules.specs.declared.Client.{Client}
use Rattle.client_rules.specs.Tests.{value_test}
use Rattle.site.specs.Short.{opened_short, frame_short, stamp_short}

-- ---- the record's area is short

pub bounded_by : (g : Params) (me most : ℕ) (v : Verdict) → v ≡ params_test g me most → v ≡ fine → Bounded g
bounded_by g me most v e p = let A = admitted_of g me most (sym e ∙ p) in A.bounded

module _ (g : Params) (me most : ℕ) (f : List ℕ) (v : Verdict) (e : v ≡ params_test g me most) where
  pub frame_refused : (r : Refusal) → v ≡ Err r → Err r ≡ frame_short g me most f
  unfolding frame_short
  frame_refused r p = stop_first (params_test g me most) (opened_short (opened g f)) v r e p

  module _ (passed : v ≡ fine) (o : Opened) (q : o ≡ opened g f) where
    pub frame_bad : (r : Refusal) → o ≡ Err r → Err r ≡ frame_short g me most f
    unfolding frame_short opened_short
    frame_bad r p = go_second (params_test g me most) (opened_short (opened g f)) v (Err r) e passed (sym (ap opened_short (sym q ∙ p)))

    pub frame_good : (h : Header) → o ≡ Ok h → refused 10 ≡ frame_short g me most f
    unfolding frame_short opened_short
    frame_good h p = go_second (params_test g me most) (opened_short (opened g f)) v (refused 10) e passed (sym (ap opened_short (sym q ∙ p)))

-- ---- a read's stamp: its area is short

module _ (g : Params) (me : ℕ) (s : Client) (n : ℕ) (f : List ℕ) (v : Verdict) (e : v ≡ params_test g me last_client) where
  pub stamp_refused : (r : Refusal) → v ≡ Err r → Err r ≡ stamp_short g me s n f
  unfolding stamp_short
  stamp_refused r p = stop_first (params_test g me last_client) _ v r e p

  module _ (w : Verdict) (passed : v ≡ fine) (q : w ≡ value_test g s.phase n) where
    pub stamp_value : (r : Refusal) → w ≡ Err r → Err r ≡ stamp_short g me s n f
    unfolding stamp_short
    stamp_value r p =
        go_second (params_test g me last_client) _ v (Err r) e passed (stop_first (value_test g s.phase n) (opened_short (opened g f)) w r q p)

    module _ (whole : w ≡ fine) (o : Opened) (d : o ≡ opened g f) where
      stamp_opened : (x : Verdict) → x ≡ opened_short (opened g f) → x ≡ stamp_short g me s n f
      unfolding stamp_short
      stamp_opened x k = go_second (params_test g me last_client) _ v x e passed (go_second (value_test g s.phase n) (opened_short (opened g f)) w x q whole k)

      pub stamp_bad : (r : Refusal) → o ≡ Err r → Err r ≡ stamp_short g me s n f
      unfolding opened_short
      stamp_bad r p = stamp_opened (Err r) (sym (ap opened_short (sym d ∙ p)))

      pub stamp_good : (h : Header) → o ≡ Ok h → refused 10 ≡ stamp_short g me s n f
      unfolding opened_short
      stamp_good h p = stamp_opened (refused 10) (sym (ap opened_short (sym d ∙ p)))
