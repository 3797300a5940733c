-- The whole outcome of the calls encode and decode: the answer and every byte of the lent area. Assumes nothing: these are definitions.
use Rattle.std.specs.Prelude.{ℕ, ◌*◌, Bool, true, ◌&&◌, not, List, [], ◌∷◌, eqb, leb, length, Ok, Err}
use Rattle.std.proofs.lemmas.List.Edits.{sets}
use Rattle.area.specs.Responses.{Response, turned_down, gives}
use Rattle.blocks.specs.declared.Params.{Params}
use Rattle.blocks.specs.Params.{Coded, params_test, number_of, fault, demand, and_then}
use Rattle.blocks.specs.Code.{block_length, encoded, candidate, agree}

-- what an answer says: the number of a refusal, or that the result is in the lent area
abbrev pub code_response : Coded → Response (Unit {0})
code_response (Ok x) = gives tt
code_response (Err f) = turned_down (number_of f)

-- a call's answer and the lent area after it
pub record Outcome : Type 0 where
  pub answer : Response (Unit {0})
  pub out : List ℕ

abbrev pub told : Response (Unit {0}) → List ℕ → Outcome
told a l = record { answer = a; out = l }

abbrev pub outcome : Coded → List ℕ → Outcome
outcome c l = told (code_response c) l

-- the result is at the front of the area, and the bytes after it stay as they were; where the call is refused, all do
unfoldable pub written : Coded → List ℕ → List ℕ → Outcome
written (Ok x) out bytes = told (gives tt) (sets out 0 bytes)
written (Err f) out bytes = told (turned_down (number_of f)) out

-- ---- encode

-- refusal 3: "or value not L long"; 10: "lent area short". For a value of length bytes and an area of room bytes
unfoldable pub encode_test : Params → ℕ → ℕ → Coded
encode_test g len room =
    and_then (params_test g)
    (demand (eqb len g.size) (fault 3)
    (demand (leb (g.n * block_length g.size g.k) room) (fault 10) (Ok tt)))

unfoldable pub encoding : Params → List ℕ → List ℕ → Outcome
encoding g value out = written (encode_test g (length value) (length out)) out (encoded g.n g.k value)

-- ---- decode

-- j is not among js
unfoldable pub absent : ℕ → List ℕ → Bool
absent j [] = true
absent j (i ∷ js) = not (eqb i j) && absent j js

-- j is 1 to n
unfoldable pub number_fits : ℕ → ℕ → Bool
number_fits n j = leb 1 j && leb j n

-- each number is 1 to n, and none is repeated
unfoldable pub numbers_fit : ℕ → List ℕ → Bool
numbers_fit n [] = true
numbers_fit n (j ∷ js) = number_fits n j && absent j js && numbers_fit n js

-- refusal 9: "blocks to decode not" k to n "in number" (request F-7), "not b long, or numbers repeated or not 1 to n"; 10: "lent area short". For blocks
-- of len bytes in all
unfoldable pub decode_test : Params → List ℕ → ℕ → ℕ → Coded
decode_test g numbers len room =
    and_then (params_test g)
    (demand (leb g.k (length numbers)) (fault 9)
    (demand (leb (length numbers) g.n) (fault 9)
    (demand (eqb len (length numbers * block_length g.size g.k)) (fault 9)
    (demand (numbers_fit g.n numbers) (fault 9)
    (demand (leb g.size room) (fault 10) (Ok tt))))))

-- refusal 21, request F-7: "a direct decode whose blocks disagree"
unfoldable pub agree_test : Params → List ℕ → List ℕ → Coded
agree_test g numbers blocks = demand (agree g.k g.size numbers blocks) (fault 21) (Ok tt)

unfoldable pub decoding : Params → List ℕ → List ℕ → List ℕ → Outcome
decoding g numbers blocks out =
    written (and_then (decode_test g numbers (length blocks) (length out)) (agree_test g numbers blocks)) out (candidate g.k g.size numbers blocks)
