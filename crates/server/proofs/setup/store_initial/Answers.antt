-- Both stores. Assumes nothing.
use Prim.Native.Nat.{ℕ}
use mathlib.Core.Path.{◌≡◌, ap}
use mathlib.Core.Path.{ap}
use native.Mathlib.Omega.{arith}
use lib.ListN.{length}
use Rattle.blocks.specs.Code.{block_length}
use Rattle.frame.specs.Params.{width}
use Rattle.server.proofs.setup.store_initial.Goals as goal

pub digests-requires : goal.digests-requires
digests-requires c =
    let P = c.requires in
    (record { bounded = P.0; short = omega (arith, P.1, P.0.size_high) }, omega (arith, P.2, P.0.servers_high))

pub encode_block-requires : goal.encode_block-requires
unfolding width
encode_block-requires c =
    let P = c.requires in
    let w : block_length (length c.args.value.now) c.args.g.k ≡ width c.args.g = ap (λ (n : ℕ). block_length n c.args.g.k) P.1 in
    (P.0.blocks_low, omega (arith, P.0.blocks_high, P.0.servers_high, P.0.faults_low), omega (arith, P.1, P.0.size_high), omega (arith, w, P.3))

pub returns : goal.returns
returns c = (c.digests.ensures, c.encode_block.ensures)
