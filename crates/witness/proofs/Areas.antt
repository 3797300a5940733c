-- A lent area by its chunks: what each shows, and what it shows after a store. So a run can be computed without its areas' bytes. Assumes nothing.
use Prim.Native.Nat.{ℕ, ◌+◌, ◌≤◌}
use native.Mathlib.Omega.{arith}
use mathlib.Core.Bool.{Bool, true, false, cond}
use mathlib.Core.Path.{◌≡◌, refl, ap, ◌∙◌}
use mathlib.Core.List.{List}
use lib.ListN.{length}
use lib.Dec.{eqb}
use borrow.Author.Tests.{eqb-true, eqb-false}
use Rattle.blocks.specs.declared.Params.{Params}
use Rattle.frame.specs.Messages.{Entry, Sized}
use Rattle.frame.specs.Chunks.{chunk_bytes, chunk_at, entry_at, store_entry, store_if}
use Rattle.frame.proofs.Chunks.{length_store, entry_same, entry_other}
use Rattle.frame.proofs.Sizes.{Small}
use Rattle.runs.specs.World.{put}

-- f with e at p, where the test holds
abbrev pub put_if : Bool → (ℕ → Entry) → ℕ → Entry → ℕ → Entry
put_if true f p e = put f p e
put_if false f p e = f

-- an area of w bytes whose chunk p holds f p
pub record Shows (g : Params) (w : ℕ) (a : List ℕ) (f : ℕ → Entry) : Type 0 where
  pub long : length a ≡ w
  pub at : (p : ℕ) → entry_at g a p ≡ f p

module _ (g : Params) (M : Small g) (w : ℕ) (a : List ℕ) (f : ℕ → Entry) (X : Shows g w a f) (p : ℕ) (room : chunk_at p + chunk_bytes ≤ w) (e : Entry) where
  pub stored : Sized g e → Shows g w (store_entry a p e) (put f p e)
  stored Q = record { long = length_store a p e ∙ X.long; at = λ q. go q (eqb q p) refl }
    where
      go : (q : ℕ) (b : Bool) → eqb q p ≡ b → entry_at g (store_entry a p e) q ≡ cond b e (f q)
      go q true h = ap (entry_at g (store_entry a p e)) (eqb-true q p h) ∙ entry_same g M a p e Q (omega (arith, X.long))
      go q false h = entry_other g M a p e Q q (eqb-false q p h) ∙ X.at q

  pub stored_if : (t : Bool) → (t ≡ true → Sized g e) → Shows g w (store_if t a p e) (put_if t f p e)
  stored_if true Q = stored (Q refl)
  stored_if false Q = X
