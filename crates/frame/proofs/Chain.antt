-- Where the chain of tests stops at opening a frame: each law is one return of the code. Assumes nothing.
use Rattle.std.specs.Prelude.{Ok, Err}
use Prim.Native.Nat.{ℕ, ◌+◌, ◌≤◌}
use native.Mathlib.Omega.{arith}
use mathlib.Core.Path.{◌≡◌, refl, ap, sym, ◌∙◌}
use mathlib.Core.List.{List}
use lib.ListN.{length, get_or}
use borrow.Author.Tests.{eq-eqb, ne_eqb}
use Rattle.area.specs.Area.{pick}
use Rattle.blocks.specs.declared.Params.{Params}
use Rattle.frame.specs.declared.Header.{Header}
use Rattle.frame.specs.declared.Stamp.{Stamp}
use Rattle.frame.specs.declared.Refusal.{Refusal}
use Rattle.frame.specs.Frames.{Opened}
use Rattle.frame.specs.Refusals.{answered_by, Verdict, fine}
use Rattle.frame.specs.Params.{bounds_test, entry_length}
use Rattle.frame.specs.Frames.{version_at, kind_at, body_at, value_at, length_of, body_length, header_in, stamp_in, framing_test}
use Rattle.frame.specs.Frames.{header_test, body_test, stamp_test, content_test, frame_test, opened, opened_by, opening_response, opened_under}
use Rattle.frame.proofs.Opening.{framing_facts, body_facts}

-- the stamp is looked at in a value alone
pub content_none : (kind : ℕ) (f : List ℕ) → (kind ≡ 11 → ⊥) → fine ≡ content_test kind f
unfolding content_test pick
content_none kind f n = rw (ne_eqb kind 11 n)

pub content_stamp : (kind : ℕ) (f : List ℕ) (s : Stamp) (v : Verdict) → kind ≡ 11 → s ≡ stamp_in f → v ≡ stamp_test s → v ≡ content_test kind f
unfolding content_test pick
content_stamp kind f s v k e p = rw (eq-eqb kind 11 k) (p ∙ ap stamp_test e)

-- a value's frame holds its stamp
pub value_long : (g : Params) (kind l : ℕ) (v : Verdict) → v ≡ body_test g kind l → v ≡ fine → kind ≡ 11 → value_at ≤ l
unfolding body_length length_of pick
value_long g kind l v p q k =
    let e : l ≡ body_at + body_length g 11 = rw k at (body_facts g kind l (sym p ∙ q)) in
    let z : body_length g 11 ≡ 13 + entry_length g = refl in
    omega (arith, e, z)

pub header_long : (f : List ℕ) (v : Verdict) → v ≡ framing_test f → v ≡ fine → body_at ≤ length f
header_long f v p q = (framing_facts f (sym p ∙ q)).0

module _ (g : Params) (f : List ℕ) where
  pub stop_framing : (v : Verdict) (r : Refusal) → v ≡ framing_test f → v ≡ Err r → Err r ≡ opened g f
  unfolding opened frame_test
  stop_framing v r p q = let e : framing_test f ≡ Err r = sym p ∙ q in rw e

  module _ (v : Verdict) (p : v ≡ framing_test f) (q : v ≡ fine) (h : Header) (k : h ≡ header_in f) where
    pub stop_header : (w : Verdict) (r : Refusal) → w ≡ header_test (get_or f version_at 0) h → w ≡ Err r → Err r ≡ opened g f
    unfolding opened frame_test
    stop_header w r a b =
        let e : framing_test f ≡ fine = sym p ∙ q in
        let d : header_test (get_or f version_at 0) (header_in f) ≡ Err r = ap (header_test (get_or f version_at 0)) (sym k) ∙ sym a ∙ b in
        rw (e, d)

    module _ (w : Verdict) (a : w ≡ header_test (get_or f version_at 0) h) (b : w ≡ fine) where
      pub stop_body : (x : Verdict) (r : Refusal) → x ≡ body_test g h.kind (length f) → x ≡ Err r → Err r ≡ opened g f
      unfolding opened frame_test header_in
      stop_body x r s t =
          let e : framing_test f ≡ fine = sym p ∙ q in
          let d : header_test (get_or f version_at 0) (header_in f) ≡ fine = ap (header_test (get_or f version_at 0)) (sym k) ∙ sym a ∙ b in
          let y : body_test g (get_or f kind_at 0) (length f) ≡ Err r = ap (λ z. body_test g z.kind (length f)) (sym k) ∙ sym s ∙ t in
          rw (e, d, y)

      module _ (x : Verdict) (s : x ≡ body_test g h.kind (length f)) (t : x ≡ fine) where
        rest : (y : Verdict) → y ≡ content_test h.kind f → opened_by y h ≡ opened g f
        unfolding opened frame_test header_in
        rest y u =
            let e : framing_test f ≡ fine = sym p ∙ q in
            let d : header_test (get_or f version_at 0) (header_in f) ≡ fine = ap (header_test (get_or f version_at 0)) (sym k) ∙ sym a ∙ b in
            let m : body_test g (get_or f kind_at 0) (length f) ≡ fine = ap (λ z. body_test g z.kind (length f)) (sym k) ∙ sym s ∙ t in
            let n : content_test (get_or f kind_at 0) f ≡ y = ap (λ z. content_test z.kind f) (sym k) ∙ sym u in
            rw (e, d, m, n) (ap (opened_by y) k)

        pub stop_content : (y : Verdict) (r : Refusal) → y ≡ content_test h.kind f → y ≡ Err r → Err r ≡ opened g f
        stop_content y r u z = rest (Err r) (sym z ∙ u)

        pub opens_at_last : (y : Verdict) → y ≡ content_test h.kind f → y ≡ fine → Ok h ≡ opened g f
        opens_at_last y u z = rest fine (sym z ∙ u)

-- any parameters
pub stop_bounds : (g : Params) (f : List ℕ) (v : Verdict) (r : Refusal) → v ≡ bounds_test g → v ≡ Err r → opening_response (Err r) ≡ opened_under g f
unfolding opened_under
stop_bounds g f v r p q = let e : bounds_test g ≡ Err r = sym p ∙ q in rw e

response_by : (v : Verdict) (h : Header) → opening_response (opened_by v h) ≡ answered_by v h
response_by (Ok _) h = refl
response_by (Err r) h = refl

pub within_bounds : (g : Params) (f : List ℕ) (v : Verdict) (o : Opened) → v ≡ bounds_test g → v ≡ fine → o ≡ opened g f
    → opening_response o ≡ opened_under g f
unfolding opened_under opened
within_bounds g f v o p q e =
    let d : bounds_test g ≡ fine = sym p ∙ q in
    rw d (ap opening_response e ∙ response_by (frame_test g f) (header_in f))
