-- A printed line, field by field. Assumes nothing.
use mathlib.Core.Path.{◌≡◌, ap}
use mathlib.Core.List.{List, [], ◌∷◌, ◌++◌, append_assoc}
use Prim.Native.Nat.{ℕ, ◌+◌}
use native.Mathlib.Omega.{arith}
use lib.ListN.{length, length-append}
use Rattle.area.specs.Area.{pick}
use Rattle.order.specs.declared.operation.Operation.{Operation}
use Rattle.history_text.specs.Decimals.{decimal}
use Rattle.history_text.specs.Printed.{join, kind_of, fields_of, printed}

-- a number and the byte after it
unfoldable pub shown : ℕ → ℕ → List ℕ
shown n end = decimal n ++ (end ∷ [])

pub printed_shown : (a : Operation) (t : List ℕ)
    → printed a ++ t
    ≡ pick a.write 87 82 ∷ 32
    ∷ shown a.start 32 ++ (shown a.end 32 ++ (shown a.time 32 ++ (shown a.writer 32 ++ (shown a.sequence 32 ++ (shown a.caller 10 ++ t)))))
unfolding printed fields_of kind_of join shown
printed_shown a t = simp append_assoc

-- its length is that of its fields
pub printed_length : (a : Operation)
    → length (printed a)
    ≡ 2 + (length (shown a.start 32) + length (shown a.end 32))
    + (length (shown a.time 32) + length (shown a.writer 32) + length (shown a.sequence 32))
    + length (shown a.caller 10)
printed_length a =
    let x₀ = ap length (printed_shown a []) in
    let y₀ = length-append (printed a) [] in
    let l = shown a.caller 10 ++ [] in
    let x₁ = length-append (shown a.start 32) (shown a.end 32 ++ (shown a.time 32 ++ (shown a.writer 32 ++ (shown a.sequence 32 ++ l)))) in
    let x₂ = length-append (shown a.end 32) (shown a.time 32 ++ (shown a.writer 32 ++ (shown a.sequence 32 ++ l))) in
    let x₃ = length-append (shown a.time 32) (shown a.writer 32 ++ (shown a.sequence 32 ++ l)) in
    let x₄ = length-append (shown a.writer 32) (shown a.sequence 32 ++ l) in
    let x₅ = length-append (shown a.sequence 32) l in
    let x₆ = length-append (shown a.caller 10) [] in
    omega arith
