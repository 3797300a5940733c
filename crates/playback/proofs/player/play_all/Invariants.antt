-- A turn plays one entry; what is played so far, and then what is left, is the whole playback. Assumes nothing.
use Prim.Native.Nat.{◌-◌, ◌≤◌}
use mathlib.Core.Path.{◌≡◌}
use lib.ListN.{length}
use lib.Seq.{sets}
use Rattle.area.specs.Area.{Bytes}
use Rattle.sha256.specs.Hash.{digest_of}
use Rattle.layout.specs.Servers.{server_size, server_bytes, server_in}
use Rattle.entries.specs.Entries.{trace_of}
use Rattle.playback.specs.Playback.{played}
use Rattle.playback.proofs.Turns.{Turn}
use Rattle.playback.proofs.player.play_all.Given as goal

abbrev pub invariant-loop-found : goal.invariant-loop-found
invariant-loop-found l =
    Turn digest_of l.g l.me l.initial' l.trace (played digest_of l.g l.me l.initial' (server_in l.initial.state) l.initial.area (trace_of l.trace).entries) l.initial.out (server_in l.state) l.area l.out l.at l.used
    × (length l.to ≡ 452) × (length l.area ≡ length l.initial.area) × (length l.state ≡ length l.initial.state) × (length l.out ≡ length l.initial.out) × Bytes l.state
    × (l.state ≡ sets l.initial.state 0 (server_bytes (server_in l.state))) × (server_size ≤ length l.state)

abbrev pub decreases-loop-found : goal.decreases-loop-found
decreases-loop-found l = length l.trace - l.at
