-- The outcomes of a host's calls on an index, from what the crates of the index promise. Assumes nothing.
use mathlib.Core.Path.{◌≡◌, sym, ap, ◌∙◌}
use mathlib.Core.List.{List}
use mathlib.Core.Option.{Option}
use Prim.Native.Nat.{ℕ, ◌≤◌}
use lib.ListN.{length}
use borrow.Author.Tests.{le-ltb}
use Rattle.area.specs.Area.{pick}
use Rattle.area.specs.Responses.{Response}
use Rattle.accession_index.specs.Index.{searched}
use Rattle.accession_bytes.specs.Layout.{index_size, index_in, stored, insertion_in}
use Rattle.semduoli.specs.Calls.{wrote}
use Rattle.accession_index.specs.Answers.{insertion_answer, search_answer}
use Rattle.semduoli.specs.Accession.{wrote_of, index_insert_call, index_search_call}

pub index_inserted : (value l o : List ℕ) (a : Response ℕ) (x : ℕ) → index_size ≤ length l → stored a o ≡ insertion_in l value → x ≡ insertion_answer a
    → wrote x o ≡ index_insert_call value l
unfolding index_insert_call wrote_of pick
index_inserted value l o a x h e p = ap (λ y. wrote y o) p ∙ ap wrote_of e ∙ sym (rw (le-ltb (length l) index_size h))

pub index_searched : (n : ℕ) (l : List ℕ) (f : Option ℕ) (x : ℕ) → index_size ≤ length l → f ≡ searched (index_in l) n → x ≡ search_answer f
    → x ≡ index_search_call n l
unfolding index_search_call pick
index_searched n l f x h e p = p ∙ ap search_answer e ∙ sym (rw (le-ltb (length l) index_size h))
