-- The theorem about frames and refusals (specs/Forms.antt). Assumes nothing.
use mathlib.Core.Path.{refl}
use mathlib.Core.List.{map}
use Rattle.frame.specs.Forms.{Theorem}
use Rattle.frame.proofs.RoundTrip.{opened_build}
use Rattle.frame.proofs.Responses.{one_each}
use Rattle.frame.proofs.Converse.{build_opened, formed_opened}

pub theorem : Theorem
unfolding map
theorem = record {
  back = opened_build;
  only = λ g f h b o. record { formed = formed_opened g f h b o; is = build_opened g f h b o };
  numbers = refl;
  one_each = one_each;
}
