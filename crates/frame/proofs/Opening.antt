-- What is known of a frame that opens, and that nothing more is asked of it. Assumes nothing.
use Rattle.frame.specs.Refusals.{fine}
use Rattle.std.specs.Prelude.{Ok}
use Prim.Native.Nat.{ℕ, ◌+◌, ◌≤◌}
use native.Mathlib.Omega.{arith}
use mathlib.Core.Bool.{Bool, true, false}
use mathlib.Core.Path.{◌≡◌, refl, ap, ◌∙◌}
use mathlib.Core.List.{List}
use lib.ListN.{length, get_or}
use lib.Dec.{eqb, ltb}
use borrow.Author.Tests.{ltb-false, eqb-true, eqb-false, le-ltb, eq-eqb, ne_eqb}
use Rattle.area.specs.Area.{pick}
use Rattle.area.specs.Numbers.{be2}
use Rattle.blocks.specs.declared.Params.{Params}
use Rattle.frame.specs.declared.Stamp.{Stamp}
use Rattle.frame.specs.declared.Header.{Header}
use Rattle.frame.specs.declared.Refusal.TheVariants as R
use Rattle.frame.specs.Stamps.{parts_agree}
use Rattle.frame.specs.Frames.{version, version_at, kind_at, body_at, retired, body_length, header_in, stamp_in}
use Rattle.frame.specs.Frames.{framing_test, header_test, body_test, stamp_test, content_test, frame_test, opened}
use Rattle.frame.proofs.Verdicts.{fine_not, fine_is, fine_both, fine_opened}

-- the stamp of a value: all parts zero or none, and the writer at most 8
pub record StampFine (s : Stamp) : Type 0 where
  pub parts : parts_agree s.time s.writer s.sequence ≡ true
  pub writer : s.writer ≤ 8

-- the frame f opens with the header h
pub record Opens (g : Params) (f : List ℕ) (h : Header) : Type 0 where
  pub long : body_at ≤ length f
  pub length_field : be2 f 0 + 2 ≡ length f
  pub version_is : get_or f version_at 0 ≡ version
  pub header : header_in f ≡ h
  pub kind_low : 1 ≤ h.kind
  pub kind_high : h.kind ≤ 13
  pub kind_used : retired h.kind ≡ false
  pub client_low : 1 ≤ h.client
  pub client_high : h.client ≤ 8
  pub sequence_low : 1 ≤ h.sequence
  pub length_is : length f ≡ body_at + body_length g h.kind
  pub stamp : h.kind ≡ 11 → StampFine (stamp_in f)

kind_is : (f : List ℕ) (h : Header) → header_in f ≡ h → get_or f kind_at 0 ≡ h.kind
unfolding header_in
kind_is f h e = ap (λ x. x.kind) e

pub framing_facts : (f : List ℕ) → framing_test f ≡ fine → (body_at ≤ length f) × (be2 f 0 + 2 ≡ length f)
unfolding framing_test
framing_facts f e =
    let a = fine_not (ltb (length f) body_at) R.Framing _ e in
    let b = fine_is (eqb (be2 f 0 + 2) (length f)) R.Framing _ a.1 in
    (ltb-false _ _ a.0, eqb-true _ _ b.0)

pub record HeaderFine (v : ℕ) (h : Header) : Type 0 where
  pub version_is : v ≡ version
  pub kind_low : 1 ≤ h.kind
  pub kind_high : h.kind ≤ 13
  pub kind_used : retired h.kind ≡ false
  pub client_low : 1 ≤ h.client
  pub client_high : h.client ≤ 8
  pub sequence_low : 1 ≤ h.sequence

pub header_facts : (v : ℕ) (h : Header) → header_test v h ≡ fine → HeaderFine v h
unfolding header_test
header_facts v h e =
    let a = fine_is (eqb v version) R.Version _ e in
    let b = fine_not (ltb h.kind 1) R.Kind _ a.1 in
    let c = fine_not (ltb 13 h.kind) R.Kind _ b.1 in
    let u = fine_not (retired h.kind) R.Kind _ c.1 in
    let d = fine_not (ltb h.client 1) R.Owner _ u.1 in
    let k = fine_not (ltb 8 h.client) R.Owner _ d.1 in
    let s = fine_not (eqb h.sequence 0) R.Owner _ k.1 in
    record {
      version_is = eqb-true _ _ a.0;
      kind_low = ltb-false _ _ b.0;
      kind_high = ltb-false _ _ c.0;
      kind_used = u.0;
      client_low = ltb-false _ _ d.0;
      client_high = ltb-false _ _ k.0;
      sequence_low = omega (arith, eqb-false h.sequence 0 s.0);
    }

stamp_facts : (s : Stamp) → stamp_test s ≡ fine → StampFine s
unfolding stamp_test
stamp_facts s e =
    let a = fine_is (parts_agree s.time s.writer s.sequence) R.Content _ e in
    let b = fine_not (ltb 8 s.writer) R.Content _ a.1 in
    record { parts = a.0; writer = ltb-false _ _ b.0 }

pub content_facts : (kind : ℕ) (f : List ℕ) → content_test kind f ≡ fine → kind ≡ 11 → StampFine (stamp_in f)
unfolding content_test pick
content_facts kind f e k = stamp_facts (stamp_in f) (rw (eq-eqb kind 11 k) at e)

pub body_facts : (g : Params) (kind l : ℕ) → body_test g kind l ≡ fine → l ≡ body_at + body_length g kind
unfolding body_test
body_facts g kind l e = eqb-true _ _ (fine_is (eqb l (body_at + body_length g kind)) R.Body fine e).0

-- what is known of a frame that opens
pub opens_facts : (g : Params) (f : List ℕ) (h : Header) → opened g f ≡ Ok h → Opens g f h
unfolding opened frame_test
opens_facts g f h e =
    let o = fine_opened (frame_test g f) (header_in f) h e in
    let a = fine_both (framing_test f) _ o.0 in
    let b = fine_both (header_test (get_or f version_at 0) (header_in f)) _ a.1 in
    let c = fine_both (body_test g (get_or f kind_at 0) (length f)) _ b.1 in
    let m = framing_facts f a.0 in
    let k = kind_is f h o.1 in
    let n : HeaderFine (get_or f version_at 0) h = rw o.1 at (header_facts _ _ b.0) in
    record {
      long = m.0;
      length_field = m.1;
      version_is = n.version_is;
      header = o.1;
      kind_low = n.kind_low;
      kind_high = n.kind_high;
      kind_used = n.kind_used;
      client_low = n.client_low;
      client_high = n.client_high;
      sequence_low = n.sequence_low;
      length_is = body_facts g (get_or f kind_at 0) (length f) c.0 ∙ ap (λ x. body_at + body_length g x) k;
      stamp = λ w. content_facts (get_or f kind_at 0) f c.1 (k ∙ w);
    }

header_fine : (v : ℕ) (h : Header) → HeaderFine v h → header_test v h ≡ fine
unfolding header_test pick
header_fine v h n =
    let s : h.sequence ≡ 0 → ⊥ = λ q. omega (arith, n.sequence_low, q) in
    rw (
      eq-eqb _ _ n.version_is,
      le-ltb _ _ n.kind_low,
      le-ltb _ _ n.kind_high,
      n.kind_used,
      le-ltb _ _ n.client_low,
      le-ltb _ _ n.client_high,
      ne_eqb _ _ s,
    )

stamp_fine : (s : Stamp) → StampFine s → stamp_test s ≡ fine
unfolding stamp_test pick
stamp_fine s n = rw (n.parts, le-ltb _ _ n.writer)

content_fine : (kind : ℕ) (f : List ℕ) → (kind ≡ 11 → StampFine (stamp_in f)) → content_test kind f ≡ fine
unfolding content_test pick
content_fine kind f n = go (eqb kind 11) refl
  where
    go : (b : Bool) → eqb kind 11 ≡ b → pick b (stamp_test (stamp_in f)) fine ≡ fine
    go true e = stamp_fine (stamp_in f) (n (eqb-true kind 11 e))
    go false e = refl

-- a frame of which all that is known opens
pub opens : (g : Params) (f : List ℕ) (h : Header) → Opens g f h → opened g f ≡ Ok h
unfolding opened frame_test framing_test body_test pick
opens g f h o =
    let k = kind_is f h o.header in
    let n : HeaderFine (get_or f version_at 0) h = record {
      version_is = o.version_is;
      kind_low = o.kind_low;
      kind_high = o.kind_high;
      kind_used = o.kind_used;
      client_low = o.client_low;
      client_high = o.client_high;
      sequence_low = o.sequence_low;
    } in
    let c : content_test h.kind f ≡ fine = content_fine h.kind f o.stamp in
    rw (k, o.header, le-ltb _ _ o.long, eq-eqb _ _ o.length_field, header_fine _ _ n, eq-eqb _ _ o.length_is, c)
