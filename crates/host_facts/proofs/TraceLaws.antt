-- What a host is answered when it writes or reads an entry, from the promises of the functions that the code calls. Assumes nothing.
use Prim.Native.Nat.{ℕ, ◌+◌, ◌*◌, ◌%◌, ◌≤◌, ◌<◌}
use mathlib.Core.Path.{◌≡◌, refl, sym, ap, ap₂, ◌∙◌}
use mathlib.Core.List.{List}
use lib.ListN.{length, get_or}
use borrow.Author.Tests.{lt-ltb, le-ltb}
use Rattle.area.specs.Area.{pick}
use Rattle.area.specs.Responses.{Response}
use Rattle.frame.specs.declared.Party.{Party}
use Rattle.frame.specs.Outbox.{party_bytes, party_in}
use Rattle.entries.specs.declared.Closing.{Closing}
use Rattle.entries.specs.declared.Closing.TheVariants as C
use Rattle.entries.specs.declared.Found.{Found}
use Rattle.std.specs.Prelude.{Err}
use Rattle.entries.specs.Entries.{Reading, closing_number, reading_response}
use Rattle.entries.specs.Writing.{written, writing}
use Rattle.host_facts.specs.Outcomes.{wrote}
use Rattle.host_facts.specs.Traces.{found_answer, reading_answer, writing_answer, entry_wrote, nobody_answer, entry_write_call}

module _ (class j : ℕ) (f out : List ℕ) where
  pub no_class : (x : ℕ) → 1 < class → x ≡ nobody_answer (length f) (length out) → wrote x out ≡ entry_write_call class j f out
  unfolding entry_write_call pick
  no_class x h e = ap (λ z. wrote z out) e ∙ sym (rw (lt-ltb _ _ h))

  pub no_number : (x : ℕ) → class ≤ 1 → 255 < j → x ≡ nobody_answer (length f) (length out) → wrote x out ≡ entry_write_call class j f out
  unfolding entry_write_call pick
  no_number x c h e = ap (λ z. wrote z out) e ∙ sym (rw (le-ltb _ _ c, lt-ltb _ _ h))

  pub entry_done : (p : Party) (a : Response ℕ) (o : List ℕ) (x : ℕ) → class ≤ 1 → j ≤ 255 → p ≡ party_in class j → written a o ≡ writing p f out
      → x ≡ writing_answer a → wrote x o ≡ entry_write_call class j f out
  unfolding entry_write_call entry_wrote pick
  entry_done p a o x c h q e b =
      ap (λ z. wrote z o) b ∙ ap entry_wrote (e ∙ ap (λ z. writing z f out) q) ∙ sym (rw (le-ltb _ _ c, le-ltb _ _ h))

-- ---- an entry that is read

pub found_done : (x : Found) (p : List ℕ) (a b : ℕ) → p ≡ party_bytes x.sender → a ≡ get_or p 0 0 → b ≡ get_or p 1 0
    → 256 + 65536 * a + 16777216 * b + 4294967296 * (x.end % 4294967296) ≡ found_answer x
unfolding found_answer
found_done x p a b e c d =
    ap₂ (λ y z. 256 + 65536 * y + 16777216 * z + 4294967296 * (x.end % 4294967296)) (c ∙ ap (λ z. get_or z 0 0) e) (d ∙ ap (λ z. get_or z 1 0) e)

closing_answer : (c : Closing) → closing_number c ≡ reading_answer (reading_response (Err c))
unfolding reading_answer
closing_answer C.Whole = refl
closing_answer C.Malformed = refl
closing_answer C.Cut = refl

pub closing_done : (r : Reading) (c : Closing) → r ≡ Err c → (x : ℕ) → x ≡ closing_number c → x ≡ reading_answer (reading_response r)
closing_done r c e x p = p ∙ closing_answer c ∙ ap (λ z. reading_answer (reading_response z)) (sym e)
