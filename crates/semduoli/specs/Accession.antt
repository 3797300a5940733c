-- The whole outcome of a host's calls on an index of accession numbers: the answer, and every byte of the area that holds it. These are definitions.
use Rattle.std.specs.Prelude.{ℕ, List, length, set, ltb}
use Rattle.area.specs.Area.{pick}
use Rattle.accession_index.specs.Index.{searched}
use Rattle.accession_bytes.specs.Layout.{index_size, index_in, Stored, insertion_in}
use Rattle.accession_index.specs.Answers.{insertion_answer, search_answer}
use Rattle.semduoli.specs.Calls.{Wrote, wrote}

-- an empty index: a count of 0; the rows, none of which is in use, stay as lent
unfoldable pub index_fresh_call : List ℕ → Wrote
index_fresh_call l = pick (ltb (length l) index_size) (wrote 10 l) (wrote 0 (set l 0 0))

unfoldable pub wrote_of : Stored → Wrote
wrote_of x = wrote (insertion_answer x.answer) x.area

-- refusal 10, "lent area short", then 26 and 25
unfoldable pub index_insert_call : List ℕ → List ℕ → Wrote
index_insert_call value l = pick (ltb (length l) index_size) (wrote 10 l) (wrote_of (insertion_in l value))

unfoldable pub index_search_call : ℕ → List ℕ → ℕ
index_search_call x l = pick (ltb (length l) index_size) 10 (search_answer (searched (index_in l) x))
