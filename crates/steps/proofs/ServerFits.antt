-- The shape of a server: arrays of their lengths, a large enough area. Every delivery keeps it. Assumes nothing.
use Rattle.std.specs.Prelude.{Ok, Err}
use Rattle.frame.specs.Refusals.{Verdict}
use Prim.Native.Nat.{ℕ, ◌≤◌}
use native.Mathlib.Omega.{arith}
use mathlib.Core.Path.{◌≡◌, refl}
use mathlib.Core.List.{List, []}
use lib.ListN.{length}
use lib.Seq.{length-sets}
use Rattle.blocks.specs.declared.Params.{Params}
use Rattle.frame.specs.declared.Party.{Party}
use Rattle.frame.specs.Chunks.{area_bytes}
use Rattle.frame.specs.Messages.{Body, Message, number_in, Judged, bad, good}
use Rattle.server_rules.specs.declared.Server.{Server}
use Rattle.server_rules.specs.State.{with_slot, with_report}
use Rattle.server_rules.specs.WellFormed.{Within}
use Rattle.server_rules.specs.Delivery as SD
use Rattle.server_rules.specs.Steps as S
use Rattle.server_rules.specs.Tests as ST
use Rattle.server_rules.proofs.Parts.{flags_set}
use Rattle.server_rules.proofs.Views.{shapes}
use Rattle.server_rules.proofs.Shapes.{Counted, block, counted_length, step_length, shape_of}
use Rattle.server_rules.proofs.Passing.{test_split, counted_from}
use Rattle.server_rules.proofs.Within.{TimeIn, slot_within, with_slot_lem, with_report_lem, counted_within, server_within, step_within}
use Rattle.server_rules.proofs.Freeing.{empty}
use Rattle.server_rules.proofs.Taking.{Taken, took}

pub record ServerShape (s : Server) (a : List ℕ) : Type 0 where
  pub within : Within shapes s
  pub room : area_bytes ≤ length a

no_time : {H : List ℕ → List ℕ} {g : Params} {me : ℕ} {s : Server} {a initial : List ℕ} {j c : ℕ} {b : Body} {p : S.Counting}
    → Counted H g me s a initial j c b p → TimeIn shapes b
no_time (block z o) = tt

-- a counted frame of a sender with a number keeps it
pub counted_shape : (H : List ℕ → List ℕ) (g : Params) (me : ℕ) (s : Server) (a initial : List ℕ) → ServerShape s a → (j : ℕ) → 1 ≤ j → (c : ℕ) → c ≤ 8
    → {b : Body} {p : S.Counting}
    → Counted H g me s a initial j c b p → ServerShape (with_slot s c p.slot) p.area
counted_shape H g me s a initial F j low c few {b} {p} k = record {
  within = with_slot_lem shapes F.within c p.slot (counted_within shapes H g me s a initial j c (λ l u. flags_set l u j low)
      (slot_within shapes F.within c few) k (no_time k));
  room = let l = counted_length H g me s a initial j c k in omega (arith, l, F.room);
}

-- and so does a report
pub report_shape : (s : Server) (a : List ℕ) → ServerShape s a → (j T : ℕ) → ServerShape (with_report s j T) a
report_shape s a F j T = record { within = with_report_lem shapes F.within j T tt; room = F.room }

module _ (H : List ℕ → List ℕ) (g : Params) (few : g.n ≤ 10) (me : ℕ) where
  -- ---- a delivery: refused, and all as it was, or a message taken

  pub data Delivered (s : Server) (a initial : List ℕ) (from : Party) (f : List ℕ) (r : S.Effect) : Type 0 where
    refused : r ≡ S.send_only s a [] → Delivered s a initial from f r
    taken : (m : Message) → Taken H g me s from f m → r ≡ S.effect H g me s a initial from m → Delivered s a initial from f r

  pub delivered : (s : Server) (a initial : List ℕ) (from : Party) (f out to : List ℕ)
      → Delivered s a initial from f (SD.delivered H g me s a initial from f out to)
  unfolding SD.delivered SD.effect_by
  delivered s a initial from f out to = go (ST.judge H g me s a initial from f out to) refl
    where
      go : (j : Judged) → ST.judge H g me s a initial from f out to ≡ j → Delivered s a initial from f (SD.effect_by H g me j s a initial from)
      go (bad r) e = refused refl
      go (good m) e = taken m (took H g me s a initial from f out to m e) refl

  pub shape_effect : (s : Server) (a initial : List ℕ) → ServerShape s a → (from : Party) (f : List ℕ) (m : Message) → Taken H g me s from f m
      → ServerShape (S.effect H g me s a initial from m).server (S.effect H g me s a initial from m).area
  shape_effect s a initial F from f m T =
      let (h, o) = test_split H g me s from m T.passes in
      let x = shape_of H g me s a initial from m in record {
        within = step_within shapes H g me s a initial (number_in from) m.client m.sequence F.within T.client.1 x (record {
          empty = empty;
          counts = λ k. (λ l u. flags_set l u (number_in from) (counted_from g from m.client T.client few k h).0, no_time k);
          noted = λ u. tt;
          ended = λ u. tt;
          reported = λ T e. tt;
          leaves = λ w i q l t. (tt, tt);
        });
        room = let l = step_length H g me s a initial (number_in from) m.client x in omega (arith, l, F.room);
      }

  pub shape_fresh : (v a initial : List ℕ) → area_bytes ≤ length a → ServerShape (SD.construction H g me v a initial).server
      (SD.construction H g me v a initial).area
  unfolding SD.construction SD.construct_by
  shape_fresh v a initial R = go (SD.construct_test H g me v (length a) (length initial))
    where
      go : (b : Verdict) → ServerShape (SD.construct_by H g me b v a initial).server (SD.construct_by H g me b v a initial).area
      go (Err r) = record { within = server_within shapes empty tt tt tt; room = R }
      go (Ok _) = record { within = server_within shapes empty tt tt tt; room = rw length-sets R }
