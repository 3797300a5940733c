-- What a server holds after a frame that it takes: its present stamp and entry stay, or are those of a write that it accepts; and what it counts fits. Assumes
-- nothing.
use Rattle.frame.specs.Refusals.{fine}
use Prim.Native.Nat.{ℕ, ◌≤◌}
use native.Mathlib.Omega.{arith}
use mathlib.Core.Bool.{Bool, true, false}
use mathlib.Core.Path.{◌≡◌, refl, ap, sym, ◌∙◌, subst}
use mathlib.Core.Logic.{◌⊎◌, inl, inr, ⊎_elim}
use mathlib.Core.List.{List, [], ◌∷◌, Memᴰ}
use lib.ListN.{length}
use Rattle.quorum.specs.Quorum.{Among}
use Rattle.blocks.specs.declared.Params.{Params}
use Rattle.group_rules.specs.Coded.{fits, fit_test}
use Rattle.frame.specs.declared.Party.{Party}
use Rattle.frame.specs.declared.Refusal.TheVariants as X
use Rattle.frame.specs.Chunks.{entry_at, store_if, present_at, area_bytes}
use Rattle.frame.specs.Stamps.{older}
use Rattle.frame.proofs.Chunks.{entry_same}
use Rattle.area.specs.Area.{pick}
use Rattle.frame.specs.Params.{Bounded}
use Rattle.frame.specs.Messages.{Offer, Stage, Body, block_is, Message, message, number_in}
use Rattle.frame.proofs.Sizes.{small}
use Rattle.frame.proofs.Verdicts.{fine_both, fine_is}
use Rattle.server_rules.specs.declared.Server.{Server}
use Rattle.server_rules.specs.State.{slot_of}
use Rattle.server_rules.specs.Steps as S
use Rattle.server_rules.specs.Tests as ST
use Rattle.server_rules.proofs.Views.{shapes}
use Rattle.server_rules.proofs.Shapes.{counted_length, Shape, idle, answers, notes, ends, settles, hears, shape_of}
use Rattle.server_rules.proofs.Passing.{SizedIn, test_split, counted_from}
use Rattle.server_rules.proofs.Within.{slot_within}
use Rattle.server_rules.proofs.Counting.{counted_present}
use Rattle.server_rules.proofs.Freeing.{freed_present}
use Rattle.steps.proofs.ServerFits.{ServerShape}

module _ (H : List ℕ → List ℕ) (g : Params) (me : ℕ) (s : Server) (from : Party) where
  -- a frame of a write that is taken has a block that fits at its place
  pub taken_fits : (m : Message) → ST.message_test H g me s from m ≡ fine → (c q : ℕ) (z : Stage) (o : Offer) → m ≡ message c q (block_is z o)
      → fits H o.entry (ST.place_in me z (number_in from)) ≡ true
  unfolding ST.order_test fit_test
  taken_fits m e c q z o x =
      let t = (test_split H g me s from m e).1 in
      let t' : ST.order_test H g me s (number_in from) c q (block_is z o) ≡ fine =
      subst (λ m. ST.order_test H g me s (number_in from) m.client m.sequence m.body ≡ fine) x t in
      (fine_is (fits H o.entry (ST.place_in me z (number_in from))) X.Digest fine
      (fine_both (ST.open_test (slot_of s c) q (ST.counted (slot_of s c) (number_in from) (block_is z o)))
      (fit_test H o.entry (ST.place_in me z (number_in from))) t').1).0

  module _ (L : Bounded g) (a initial : List ℕ) (F : ServerShape s a) where
    -- what a step r leaves as the present value: the same, or that of a write that it accepts, with a larger stamp
    abbrev pub Presents : S.Effect → Type 0
    Presents r = ((r.server.stamp ≡ s.stamp) × (entry_at g r.area present_at ≡ entry_at g a present_at))
        ⊎ ((w : S.Write) × Memᴰ w r.accepted × (r.server.stamp ≡ S.stamp_of w) × (entry_at g r.area present_at ≡ w.entry)
        × (older s.stamp (S.stamp_of w) ≡ true))

    pub presents : (m : Message) → Among 8 m.client → SizedIn g m.body → ST.message_test H g me s from m ≡ fine
        → Presents (S.effect H g me s a initial from m)
    presents m is Q e = let (h, t) = test_split H g me s from m e in go (shape_of H g me s a initial from m) Q h
      where
        go : {b : Body} {r : S.Effect} → Shape H g me s a initial (number_in from) m.client m.sequence b r → SizedIn g b
            → ST.sender_right g from m.client b ≡ true → Presents r
        go (idle b) Q h = inl (refl, refl)
        go answers Q h = inl (refl, refl)
        go notes Q h = inl (refl, refl)
        go ends Q h = inl (refl, refl)
        go (settles b p k f) Q h =
            let at = counted_from g from m.client is L.servers_high k h in
            let l = counted_length H g me s a initial (number_in from) m.client k in
            let q = counted_present H g L me s a initial F.room (number_in from) at m.client is (slot_within shapes F.within m.client is.1) k Q in
            ⊎_elim (λ (e, h). inl (e, h ∙ q)) (λ w. inr w) (freed_present (small g L) f (omega (arith, l, F.room)))
        go (hears T f) Q h = freed_present (small g L) f F.room
