-- A server that plays a trace stays well formed: what it sends can be written as frames, and has room. Assumes nothing.
use Rattle.std.specs.Prelude.{Ok, Err}
use Rattle.frame.specs.Refusals.{Verdict}
use Prim.Native.Nat.{ℕ, ◌+◌, ◌≤◌}
use native.Mathlib.Omega.{arith}
use mathlib.Core.Path.{sym, subst}
use mathlib.Core.List.{List}
use lib.ListN.{length}
use Rattle.area.specs.Area.{Bytes}
use Rattle.blocks.specs.declared.Params.{Params}
use Rattle.frame.specs.Params.{width, server_frames, Bounded}
use Rattle.frame.specs.Chunks.{area_bytes}
use Rattle.frame.specs.Messages.{Formed}
use Rattle.frame.proofs.Rooms.{AllFormed, all_formed}
use Rattle.frame.proofs.Converse.{formed_opened}
use Rattle.server_rules.specs.declared.Server.{Server}
use Rattle.server_rules.specs.Steps as S
use Rattle.server_rules.specs.Delivery as SD
use Rattle.steps.proofs.ServerFits.{ServerShape, Delivered, refused, taken, delivered, shape_effect, shape_fresh}
use Rattle.steps.proofs.ServerRanges.{InBounds, in_bounds_fresh, effect_good}
use Rattle.steps.proofs.SendCount.{server_sends}
use Rattle.entries.specs.Entries.{TraceEntry}
use Rattle.playback.specs.Playback.{spare_out, spare_to, report_of, server_after, area_after}

pub record Sound (s : Server) (a : List ℕ) : Type 0 where
  pub in_bounds : InBounds s
  pub shape : ServerShape s a

-- ---- a fresh server

module _ (H : List ℕ → List ℕ) (g : Params) (B : Bounded g) (me : ℕ) where
  pub sound_fresh : (v a initial : List ℕ) → area_bytes ≤ length a
      → Sound (SD.construction H g me v a initial).server (SD.construction H g me v a initial).area
  unfolding SD.construction SD.construct_by
  sound_fresh v a initial h = record {
    in_bounds = go (SD.construct_test H g me v (length a) (length initial));
    shape = shape_fresh H g B.servers_high me v a initial h;
  }
    where
      go : (t : Verdict) → InBounds (SD.construct_by H g me t v a initial).server
      go (Err r) = in_bounds_fresh
      go (Ok _) = in_bounds_fresh

  -- ---- a step

  -- what a step leaves and sends
  pub record Steps (initial : List ℕ) (s : Server) (a : List ℕ) (e : TraceEntry) : Type 0 where
    pub sound : Sound (server_after H g me initial s a e) (area_after H g me initial s a e)
    pub formed : AllFormed g (report_of H g me initial s a e).sends
    pub few : length (report_of H g me initial s a e).sends ≤ server_frames g

  record Leaves (r : S.Effect) : Type 0 where
    pub sound : Sound r.server r.area
    pub formed : AllFormed g r.sends
    pub few : length r.sends ≤ server_frames g

  module _ (initial : List ℕ) (I : width g ≤ length initial) (s : Server) (a : List ℕ) (K : Sound s a) (e : TraceEntry) (b : Bytes e.frame) where
    leaves_by : {r : S.Effect} → Delivered H g B.servers_high me s a initial e.sender e.frame r → Leaves r
    leaves_by (refused q) = subst Leaves (sym q) (record { sound = K; formed = tt; few = omega arith })
    leaves_by (taken m T q) =
        let f : Formed g m = subst (Formed g) T.says (formed_opened g e.frame T.header b T.opens) in
        let G = effect_good H g B me s K.in_bounds a initial K.shape e.sender m f T.passes I in
        subst Leaves (sym q)
        (record {
          sound = record { in_bounds = G.in_bounds; shape = shape_effect H g B.servers_high me s a initial K.shape e.sender e.frame m T };
          formed = all_formed g _ G.formed;
          few = server_sends H g me s a initial e.sender m;
        })

    pub steps : Steps initial s a e
    unfolding server_after area_after report_of SD.delivery SD.outcome_of
    steps =
        let L = leaves_by (delivered H g B.servers_high me s a initial e.sender e.frame (spare_out g) (spare_to g)) in
        record { sound = L.sound; formed = L.formed; few = L.few }
