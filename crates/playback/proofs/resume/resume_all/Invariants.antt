-- A turn hands one entry in; the entries that are left lead to the final areas. Assumes nothing.
use Prim.Native.Nat.{◌-◌}
use mathlib.Core.Path.{◌≡◌}
use lib.ListN.{length}
use Rattle.sha256.specs.Hash.{digest_of}
use Rattle.entries.specs.Entries.{trace_of}
use Rattle.playback.specs.Resume.{areas, resumed}
use Rattle.playback.proofs.Resumes.{Going}
use Rattle.playback.proofs.resume.resume_all.Given as goal

abbrev pub invariant-loop-found : goal.invariant-loop-found
invariant-loop-found l =
    Going l.g l.me l.initial' l.trace (resumed digest_of l.g l.me l.initial' (areas l.initial.area l.initial.state l.initial.out l.initial.to) (trace_of l.trace).entries) (areas l.area l.state l.out l.to) l.at
    × (length l.area ≡ length l.initial.area) × (length l.state ≡ length l.initial.state) × (length l.out ≡ length l.initial.out) × (length l.to ≡ length l.initial.to)

abbrev pub decreases-loop-found : goal.decreases-loop-found
decreases-loop-found l = length l.trace - l.at
