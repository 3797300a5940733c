-- What is due of a write by the numbers e of echoes and r of readies that have one time and digest list. These are definitions.
use Rattle.std.specs.Prelude.{ℕ, ◌+◌, ◌-◌, Bool, not, ◌&&◌, ◌||◌, List, leb}
use Rattle.quorum.specs.Quorum.{count}
use Rattle.blocks.specs.declared.Params.{Params}
use Rattle.frame.specs.Params.{quota}
use Rattle.frame.specs.Chunks.{echoes_from, readies_from}
use Rattle.group.specs.Entries.{marked, timed, sent_list, flags, places_from}
use Rattle.server_rules.specs.declared.BlockPart.{BlockPart}
use Rattle.server_blocks.specs.declared.Voters.{Voters}
use Rattle.server_blocks.specs.declared.Due.{Due}

-- "n - t echoes or q readies"
unfoldable pub enough_by : Params → ℕ → ℕ → Bool
enough_by g e r = leb g.n (e + g.t) || leb (quota g) r

-- whether a ready or the completion depends on the comparison; went and complete say whether each has happened before
unfoldable pub matters_by : Params → Bool → Bool → ℕ → ℕ → Bool
matters_by g went complete e r = (not went && enough_by g e r) || (leb (quota g + g.t) r && not complete)

-- a ready is due, "if equal, .. once for the write"; supported says whether the comparison is equal
unfoldable pub due_by : Params → Bool → Bool → ℕ → ℕ → Bool
due_by g went supported e r = not went && (enough_by g e r && supported)

-- "If there are then q + t readies, and that comparison is equal"
unfoldable pub full_by : Params → Bool → ℕ → Bool
full_by g supported r = leb (quota g + g.t) r && supported

-- ---- the same of a slot's part b

-- the votes for the time T and the list d, the entries of client c lying in the area a
unfoldable pub voters_of : Params → List ℕ → ℕ → BlockPart → ℕ → List ℕ → Voters
voters_of g a c b T d =
    let es = flags (sent_list g (timed b.echoes b.echoed T) (places_from (echoes_from c)) a d) g.n in
    let rs = flags (sent_list g (timed b.readies b.readied T) (places_from (readies_from c)) a d) g.n in
    record { echoes = es; readies = rs; echoed = count (marked es) g.n; readied = count (marked rs) g.n }

-- what the votes v for the time T lead to; went says whether a ready went out before
unfoldable pub due_for : Params → Bool → Voters → Bool → ℕ → Due
due_for g went v supported T = record {
  ready = due_by g went supported v.echoed v.readied;
  complete = full_by g supported v.readied;
  time = T;
}
