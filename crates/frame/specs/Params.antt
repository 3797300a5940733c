-- The parameters: their bounds (refusals 1 to 3), and the sizes that follow from them. Assumes nothing: these are definitions.
use Rattle.std.specs.Prelude.{ℕ, ◌+◌, ◌*◌, max, ltb}
use Rattle.area.specs.Area.{pick}
use Rattle.blocks.specs.declared.Params.{Params}
use Rattle.blocks.specs.Code.{block_length}
use Rattle.blocks.specs.Params.{parties_fit, threshold_fits, length_fits}
pub use Rattle.blocks.specs.Params.{Bounded}
use Rattle.frame.specs.Refusals.{and_then, refused, Verdict, fine}

-- ---- sizes

-- b: the bytes of a block
unfoldable pub width : Params → ℕ
width g = block_length g.size g.k

-- the bytes of a digest list: the n digests of the blocks, 32 bytes each
abbrev pub listed : Params → ℕ
listed g = 32 * g.n

-- the bytes of a digest list and a block
abbrev pub entry_length : Params → ℕ
entry_length g = listed g + width g

-- q: the larger of k and t + 1
unfoldable pub quota : Params → ℕ
quota g = max g.k (g.t + 1)

-- the largest frame: a value
unfoldable pub largest_frame : Params → ℕ
largest_frame g = 22 + entry_length g

-- refusal 10; request F-9: "A server's out area must now hold 9n + 136 largest frames"; request F-4: "The client's largest need is now n frames." Two bytes for
-- the receiver of each.
abbrev pub server_frames : Params → ℕ
server_frames g = 9 * g.n + 136

abbrev pub client_frames : Params → ℕ
client_frames g = g.n

-- the bytes that m frames may take in the out area, and their receivers in the to area
unfoldable pub out_room : Params → ℕ → ℕ
out_room g m = m * largest_frame g

unfoldable pub to_room : ℕ → ℕ
to_room m = 2 * m

-- ---- bounds

-- refusal 1, of the own number: me is not one of parties 1 to most
unfoldable pub own_test : ℕ → ℕ → Verdict
own_test me most = pick (ltb me 1) (refused 1) (pick (ltb most me) (refused 1) fine)

-- refusals 2 and 3, but for a value's length
unfoldable pub code_test : Params → Verdict
code_test g =
    pick (threshold_fits g.n g.t g.k) (pick (length_fits g.size) fine (refused 3)) (refused 2)

-- refusals 1 to 3, without an own number
unfoldable pub bounds_test : Params → Verdict
bounds_test g = pick (parties_fit g.n g.t) (code_test g) (refused 1)

-- refusals 1 to 3, of party me of parties 1 to most
unfoldable pub params_test : Params → ℕ → ℕ → Verdict
params_test g me most = pick (parties_fit g.n g.t) (and_then (own_test me most) (code_test g)) (refused 1)
