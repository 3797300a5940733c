-- What precedence is for two callers, request F-2: three cases that cover every pair. Assumes nothing: this is a statement.
use Rattle.std.specs.Prelude.{◌≡◌, ◌⊎◌, ltb, leb}
use Rattle.order.specs.Operations.{precedes}
use Rattle.order.specs.declared.operation.Operation.{Operation}

pub record Precedence : Type 0 where
  -- one of the callers is not known: document 01's meaning, an end below the other's start
  pub unknown_caller : (a b : Operation) → (a.caller ≡ 0) ⊎ (b.caller ≡ 0) → precedes a b ≡ ltb a.end b.start
  -- the callers differ: the same
  pub other_caller : (a b : Operation) → (a.caller ≡ b.caller → ⊥) → precedes a b ≡ ltb a.end b.start
  -- both have the same caller, which is known: an end that is not above the other's start
  pub same_caller_lem : (a b : Operation) → a.caller ≡ b.caller → (a.caller ≡ 0 → ⊥) → precedes a b ≡ leb a.end b.start
