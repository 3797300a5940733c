-- Stages of the code that plays a trace: a step's frames and receivers as its areas hold them, and what the loop over the entries leaves. Playback.antt
-- says what a playback is. Assumes nothing: these are definitions.
use Rattle.std.specs.Prelude.{ℕ, zero, suc, ◌+◌, ◌≤◌, List, [], ◌∷◌, ◌++◌, length, take, drop}
use Rattle.std.proofs.lemmas.List.Edits.{sets}
use Rattle.area.specs.Responses.{Response}
use Rattle.area.specs.Numbers.{be2, bytes2}
use Rattle.blocks.specs.declared.Params.{Params}
use Rattle.server_rules.specs.Delivery.{reply_number, reply_count, construction}
use Rattle.layout.specs.Servers.{server_bytes}
use Rattle.entries.specs.Entries.{Trace}
use Rattle.playback.specs.Reports.{reports_bytes}
use Rattle.playback.specs.Playback.{played_from}

-- ---- a step's areas

-- the first m frames of an out area, in which they lie end to end, each after its receiver from the to area
unfoldable pub sent_in : ℕ → List ℕ → List ℕ → List ℕ
sent_in zero out to = []
sent_in (suc m) out to = take 2 to ++ (take (2 + be2 out 0) out ++ sent_in m (drop (2 + be2 out 0) out) (drop 2 to))

-- the area holds m whole frames from its front on
abbrev pub Lie : ℕ → List ℕ → Type 0
Lie zero l = Unit {0}
Lie (suc m) l = (2 ≤ length l) × (2 + be2 l 0 ≤ length l) × Lie m (drop (2 + be2 l 0) l)

unfoldable pub report_in : Response ℕ → List ℕ → List ℕ → List ℕ
report_in a out to = reply_number a ∷ (bytes2 (reply_count a) ++ sent_in (reply_count a) out to)

-- ---- the loop

pub record AllPlayed : Type 0 where
  pub used : ℕ
  pub area : List ℕ
  pub initial : List ℕ
  pub state : List ℕ
  pub out : List ℕ

abbrev pub done : ℕ → List ℕ → List ℕ → List ℕ → List ℕ → AllPlayed
done used area initial state out = record { used = used; area = area; initial = initial; state = state; out = out }

unfoldable pub played_all : (List ℕ → List ℕ) → Params → ℕ → List ℕ → Trace → List ℕ → List ℕ → List ℕ → List ℕ → AllPlayed
played_all H g me v t a initial state out =
    let x = construction H g me v a initial in
    let p = played_from H g me x t.entries in
    record {
      used = length (reports_bytes p.reports);
      area = p.area;
      initial = x.initial;
      state = sets state 0 (server_bytes p.server);
      out = sets out 0 (reports_bytes p.reports);
    }
