-- Every step keeps a well-formed client, whatever its bounds are: by the law of a step. Assumes nothing.
use Prim.Native.Nat.{ℕ, ◌+◌, max}
use mathlib.Core.Bool.{Bool, true, false}
use mathlib.Core.Path.{◌≡◌, refl}
use mathlib.Core.Logic.{◌⊎◌, inl, inr}
use mathlib.Core.List.{List}
use lib.ListN.{get_or, set, replicate}
use Rattle.blocks.specs.declared.Params.{Params}
use Rattle.frame.specs.declared.Stamp.{Stamp}
use Rattle.frame.specs.Messages.{Entry, Body, stamp_is, value_is, report}
use Rattle.client_rules.specs.declared.Row.{Row}
use Rattle.client_rules.specs.declared.Client.{Client}
use Rattle.client_rules.specs.declared.Phase.{Phase}
use Rattle.client_rules.specs.declared.Phase.TheVariants as F
use Rattle.client_rules.specs.State.{fresh_row, fresh_client, no_row, in_phase, with_report}
use Rattle.client_rules.specs.Rows.{row_with}
use Rattle.client_rules.specs.Steps.{Effect}
use Rattle.client_rules.specs.Beginning.{open_read, open_write}
use Rattle.client_rules.specs.WellFormed.{Bounds, Within}
use Rattle.client_rules.proofs.Shapes.{Keeps, drops, keeps, Learns, replies, reports, Shape, idle, notes, hears, sends, shuts, counts, ends, waits}
use Rattle.client_rules.proofs.Shapes.{completes}

module _ (B : Bounds) where
  -- nothing has come
  pub record Empty : Type 0 where
    pub heard : B.heard (replicate 11 false)
    pub times : B.times (replicate 11 0)
    pub rows : B.rows (replicate 11 fresh_row)

  pub fresh_within : Empty → B.number 0 → Within B fresh_client
  unfolding fresh_client
  fresh_within E h = record { writes = h; reads = h; heard = E.heard; times = E.times; rows = E.rows; reports = E.times }

  -- ---- beginnings

  module _ (E : Empty) (g : Params) (me : ℕ) (s : Client) (W : Within B s) where
    pub read_within : B.number (s.reads + 1) → Within B (open_read g me s).client
    unfolding open_read
    read_within h = record { writes = W.writes; reads = h; heard = W.heard; times = W.times; rows = E.rows; reports = W.reports }

    pub write_within : B.number (s.writes + 1) → Within B (open_write g me s).client
    unfolding open_write
    write_within h = record { writes = h; reads = W.reads; heard = E.heard; times = E.times; rows = W.rows; reports = W.reports }

  -- ---- a frame of server j

  -- what the bounds have to grant to a step for a frame with the body b
  pub record Grants (j : ℕ) (b : Body) : Type 0 where
    pub empty : B.heard (replicate 11 false)
    pub flag : (l : List Bool) → B.heard l → B.heard (set l j true)
    pub time : (T : ℕ) → b ≡ stamp_is T → (l : List ℕ) → B.times l → B.times (set l j T)
    pub told : (T : ℕ) → (b ≡ stamp_is T) ⊎ (b ≡ report T) → (l : List ℕ) → B.times l → B.times (set l j (max (get_or l j 0) T))
    pub row : (x : Stamp) (e : Entry) → b ≡ value_is x e → (i : ℕ) (l : List Row) → B.rows l → B.rows (set l j (row_with (get_or l j no_row) i x))

  module _ (H : List ℕ → List ℕ) (g : Params) (me : ℕ) (s : Client) (a v : List ℕ) (j : ℕ) (W : Within B s) where
    keeps_within : {x : Stamp} {e : Entry} {s' : Client} {a' : List ℕ} → Grants j (value_is x e) → Keeps H g me s a v j x e s' a' → Within B s'
    keeps_within G (drops z) = W
    keeps_within {x} {e} G (keeps i z) = record {
      writes = W.writes;
      reads = W.reads;
      heard = W.heard;
      times = W.times;
      rows = G.row x e refl i s.rows W.rows;
      reports = W.reports;
    }

    noted_within : (T : ℕ) → Grants j (report T) → Within B (with_report s j T)
    noted_within T G = record {
      writes = W.writes;
      reads = W.reads;
      heard = W.heard;
      times = W.times;
      rows = W.rows;
      reports = G.told T (inr refl) s.reports W.reports;
    }

    learns_within : {b : Body} {s' : Client} → Learns H g me s a v j b s' → Grants j b → Within B s'
    learns_within (replies T) G = record {
      writes = W.writes;
      reads = W.reads;
      heard = G.flag s.heard W.heard;
      times = G.time T refl s.times W.times;
      rows = W.rows;
      reports = G.told T (inl refl) s.reports W.reports;
    }
    learns_within (reports T p) G = noted_within T G

    in_phase_lem : {s' : Client} → Within B s' → (p : Phase) (h : List Bool) → B.heard h → Within B (in_phase s' p h s'.times)
    in_phase_lem X p h b = record { writes = X.writes; reads = X.reads; heard = b; times = X.times; rows = X.rows; reports = X.reports }

    pub step_within : {b : Body} {r : Effect} → Shape H g me s a v j b r → Grants j b → Within B r.client
    step_within (idle b) G = W
    step_within (notes T p) G = noted_within T G
    step_within (hears b k q) G = learns_within k G
    step_within (sends b k q l) G = in_phase_lem (learns_within k G) F.Acking _ G.empty
    step_within (shuts b k q l) G =
        let X = learns_within k G in
        record { writes = X.writes; reads = X.reads; heard = X.heard; times = X.times; rows = X.rows; reports = X.reports }
    step_within (counts q) G = in_phase_lem W F.Acking _ (G.flag s.heard W.heard)
    step_within (ends q) G = in_phase_lem W F.Idle _ (G.flag s.heard W.heard)
    step_within (waits x e k z) G = keeps_within G k
    step_within (completes x e k y z) G = let u = keeps_within G k in in_phase_lem u F.Idle _ u.heard
