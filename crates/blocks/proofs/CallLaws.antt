-- The calls: what holds where a test is passed, and the outcome by the answer of the tests. Assumes nothing.
use Prim.Native.Nat.{ℕ, ◌*◌, ◌≤◌}
use mathlib.Core.Path.{◌≡◌, refl, sym, ap, ◌∙◌}
use mathlib.Core.Bool.{Bool, true, false, not}
use mathlib.Core.List.{List}
use lib.ListN.{length}
use lib.Seq.{sets}
use borrow.Author.Tests.{eqb-true, leb-true}
use Rattle.area.proofs.Tests.{impossible}
use Rattle.blocks.specs.declared.Params.{Params}
use Rattle.blocks.specs.declared.Fault.{Fault}
use Rattle.blocks.specs.declared.Fault.TheVariants.{Disagreement}
use Rattle.std.specs.Prelude.{Ok, Err}
use Rattle.blocks.specs.Params.{Coded, and_then, Bounded}
use Rattle.blocks.specs.Code.{block_length, candidate, agree}
use Rattle.blocks.specs.Calls.{outcome, written, encode_test, decode_test, agree_test, decoding, numbers_fit}
use Rattle.blocks.proofs.Parameters.{demand_done, bounds, refuses, passes, then_refused, then_done}

then_both : (p rest : Coded) → and_then p rest ≡ Ok tt → (p ≡ Ok tt) × (rest ≡ Ok tt)
unfolding and_then
then_both (Ok x) rest e = (refl, e)
then_both (Err f) rest e = impossible (cc e)

-- what holds when the tests of `encode` are passed
pub record Encodes (g : Params) (len room : ℕ) : Type 0 where
  pub within : Bounded g
  pub whole : len ≡ g.size
  pub fits : g.n * block_length len g.k ≤ room

pub encodes : (g : Params) (len room : ℕ) → encode_test g len room ≡ Ok tt → Encodes g len room
unfolding encode_test
encodes g len room e =
    let a = then_both _ _ e in
    let b = demand_done _ _ _ a.1 in
    let c = demand_done _ _ _ b.1 in
    let w : len ≡ g.size = eqb-true len g.size b.0 in
    let f : g.n * block_length g.size g.k ≤ room = leb-true (g.n * block_length g.size g.k) room c.0 in
    record { within = bounds g a.0; whole = w; fits = rw w f }

-- what holds when the tests of `decode` are passed
pub record Decodes (g : Params) (numbers : List ℕ) (len room : ℕ) : Type 0 where
  pub within : Bounded g
  pub enough : g.k ≤ length numbers
  pub most : length numbers ≤ g.n
  pub whole : len ≡ length numbers * block_length g.size g.k
  pub numbered : numbers_fit g.n numbers ≡ true
  pub fits : g.size ≤ room

pub decodes : (g : Params) (numbers : List ℕ) (len room : ℕ) → decode_test g numbers len room ≡ Ok tt → Decodes g numbers len room
unfolding decode_test
decodes g numbers len room e =
    let a = then_both _ _ e in
    let b = demand_done _ _ _ a.1 in
    let c = demand_done _ _ _ b.1 in
    let d = demand_done _ _ _ c.1 in
    let f = demand_done _ _ _ d.1 in
    let h = demand_done _ _ _ f.1 in
    record {
      within = bounds g a.0;
      enough = leb-true g.k (length numbers) b.0;
      most = leb-true (length numbers) g.n c.0;
      whole = eqb-true len (length numbers * block_length g.size g.k) d.0;
      numbered = f.0;
      fits = leb-true g.size room h.0;
    }

-- the outcome of a call whose tests answer r
pub turned_down_lem : (p r : Coded) (f : Fault) (o bytes : List ℕ) → r ≡ p → r ≡ Err f → outcome r o ≡ written p o bytes
unfolding written
turned_down_lem p r f o bytes e h = ap (λ x. outcome x o) h ∙ ap (λ x. written x o bytes) (sym h ∙ e)

pub carried_out : (p r : Coded) (o l bytes : List ℕ) → r ≡ p → r ≡ Ok tt → l ≡ sets o 0 bytes → outcome (Ok tt) l ≡ written p o bytes
unfolding written
carried_out p r o l bytes e h q = ap (outcome (Ok tt)) q ∙ ap (λ x. written x o bytes) (sym h ∙ e)

-- ---- the outcome of `decode`, whose first tests answer t and whose comparison answers r

pub decode_refused : (g : Params) (js w out : List ℕ) (t : Coded) (f : Fault) → t ≡ decode_test g js (length w) (length out) → t ≡ Err f
    → outcome t out ≡ decoding g js w out
unfolding decoding
decode_refused g js w out t f e h = turned_down_lem _ _ f _ _ (then_refused _ _ _ f e h) h

module _ (g : Params) (js w out : List ℕ) (L : ℕ) (t : Coded) (r : Bool) (e : t ≡ decode_test g js (length w) (length out)) (h : t ≡ Ok tt) (z : L ≡ g.size)
    (a : r ≡ agree g.k L js w) where
  pub disagreed : not r ≡ true → outcome (Err Disagreement) out ≡ decoding g js w out
  unfolding decoding agree_test written
  disagreed n =
      sym (ap (λ x. written x out (candidate g.k g.size js w))
      (then_done _ t _ e h ∙ refuses r _ _ _ (a ∙ ap (λ (m : ℕ). agree g.k m js w) z) n))

  pub agreed : (l v : List ℕ) → not r ≡ false → l ≡ sets out 0 v → v ≡ candidate g.k L js w → outcome (Ok tt) l ≡ decoding g js w out
  unfolding decoding agree_test written
  agreed l v n p q =
      ap (outcome (Ok tt)) (p ∙ ap (sets out 0) (q ∙ ap (λ (m : ℕ). candidate g.k m js w) z))
      ∙ sym (ap (λ x. written x out (candidate g.k g.size js w))
      (then_done _ t _ e h ∙ passes r _ _ _ (a ∙ ap (λ (m : ℕ). agree g.k m js w) z) n))
