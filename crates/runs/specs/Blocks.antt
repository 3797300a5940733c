-- Two different blocks with one digest, document 01, "Blocks": "Both come from the run at hand: each was in a frame, or belongs to the encoding of
-- the initial value, of a value written, or of one that an honest party decoded there." These are definitions.
use Rattle.std.specs.Prelude.{ℕ, ◌≡◌, List, Ok}
use Rattle.quorum.specs.Quorum.{Among}
use Rattle.frame.specs.declared.Header.{Header}
use Rattle.frame.specs.Messages.{Carries}
use Rattle.frame.specs.Frames.{opened, message_in}
use Rattle.group_rules.specs.Coded.{block_at}
use Rattle.runs.specs.World.{Setup, Call, to_server, to_client, begin_read, begin_write}
use Rattle.runs.specs.Events.{Event, At, OpensWrite, Decodes}

module _ (Z : Setup) where
  open Z use {H, g, initial_value}

  -- the frame f opens, and b is its block
  abbrev pub Carried : List ℕ → List ℕ → Type 0
  Carried f b = (h : Header) × (opened g f ≡ Ok h) × Carries (message_in g h f).body b

  -- b was in a frame that was handed in
  abbrev pub InFrame : List ℕ → Event
  InFrame b ks (to_server i from f out to) = Carried f b
  InFrame b ks (to_client c from f lent result out to) = Carried f b
  InFrame b ks (begin_read c out to) = ⊥
  InFrame b ks (begin_write c v out to) = ⊥

  -- where the block b comes from
  pub data Origin (ks : List Call) (b : List ℕ) : Type 0 where
    in_frame : (p : ℕ) → At (InFrame b) ks p → Origin ks b
    of_initial : (j : ℕ) → Among g.n j → b ≡ block_at H g initial_value j → Origin ks b
    of_written : (p c q j : ℕ) (v : List ℕ) → At (OpensWrite Z c q v) ks p → Among g.n j → b ≡ block_at H g v j → Origin ks b
    of_decoded : (p j : ℕ) (v : List ℕ) → At (Decodes Z v) ks p → Among g.n j → b ≡ block_at H g v j → Origin ks b

  -- two different blocks of this run with one digest
  pub record Collision (ks : List Call) : Type 0 where
    pub left : List ℕ
    pub right : List ℕ
    pub differ : left ≡ right → ⊥
    pub alike : H left ≡ H right
    pub left_from : Origin ks left
    pub right_from : Origin ks right
