-- Only written forms are read: a frame that opens is the frame of the message that it says. Assumes nothing.
use Rattle.std.specs.Prelude.{Ok}
use Prim.Native.Nat.{ℕ, zero, suc, ◌+◌, ◌≤◌, ◌<◌}
use native.Mathlib.Omega.{arith}
use mathlib.Core.Bool.{false}
use mathlib.Core.Path.{◌≡◌, refl, ap, sym, ◌∙◌}
use mathlib.Core.List.{List, [], ◌∷◌, ◌++◌}
use lib.ListN.{length, get_or, take, drop, length-drop, drop_of_length-le, take-append-drop}
use lib.Seq.{take_all, drop-cons}
use Rattle.area.specs.Area.{pick, part, Bytes}
use Rattle.area.specs.Numbers.{be2, be4, be8, bytes2, bytes4, bytes8}
use Rattle.area.proofs.Tests.{impossible}
use Rattle.area.proofs.Sets.{length_part}
use Rattle.area.proofs.Numbers.{part_part, bytes2_be2, bytes4_be4, bytes8_be8, be4_range, be8_range}
use Rattle.blocks.specs.declared.Params.{Params}
use Rattle.frame.specs.declared.Header.{Header}
use Rattle.frame.specs.Params.{width, listed, entry_length}
use Rattle.frame.specs.Messages.{value_is, Sized, FormedBody, Formed}
use Rattle.frame.specs.Frames.{version, version_at, kind_at, client_at, sequence_at, body_at, offer_at, writer_at, write_at, value_at}
use Rattle.frame.specs.Frames.{kind_of, retired, body_length, length_of, entry_bytes, offer_bytes, stamp_bytes, body_bytes}
use Rattle.frame.specs.Frames.{header_bytes, frame_of, build, header_in, stamp_in, opened, entry_in, offer_in, body_in, message_in}
use Rattle.frame.proofs.Opening.{StampFine, opens_facts}

-- what holds of the kinds in use holds of every kind that is not retired
kinds {ℓ} : (P : ℕ → Type ℓ) → P 1 → P 2 → P 3 → P 4 → P 5 → P 9 → P 10 → P 11 → P 12 → P 13 → (k : ℕ) → 1 ≤ k → k ≤ 13 → retired k ≡ false → P k
unfolding retired
kinds P a b c d e f g h i j zero p q r = absurd (omega arith)
kinds P a b c d e f g h i j (suc zero) p q r = a
kinds P a b c d e f g h i j (suc (suc zero)) p q r = b
kinds P a b c d e f g h i j (suc (suc (suc zero))) p q r = c
kinds P a b c d e f g h i j (suc (suc (suc (suc zero)))) p q r = d
kinds P a b c d e f g h i j (suc (suc (suc (suc (suc zero))))) p q r = e
kinds P a b c d e f g h i j (suc (suc (suc (suc (suc (suc zero)))))) p q r = impossible (cc)
kinds P a b c d e f g h i j (suc (suc (suc (suc (suc (suc (suc zero))))))) p q r = impossible (cc)
kinds P a b c d e f g h i j (suc (suc (suc (suc (suc (suc (suc (suc zero)))))))) p q r = impossible (cc)
kinds P a b c d e f g h i j (suc (suc (suc (suc (suc (suc (suc (suc (suc zero))))))))) p q r = f
kinds P a b c d e f g h i j (suc (suc (suc (suc (suc (suc (suc (suc (suc (suc zero)))))))))) p q r = g
kinds P a b c d e f g h i j (suc (suc (suc (suc (suc (suc (suc (suc (suc (suc (suc zero))))))))))) p q r = h
kinds P a b c d e f g h i j (suc (suc (suc (suc (suc (suc (suc (suc (suc (suc (suc (suc zero)))))))))))) p q r = i
kinds P a b c d e f g h i j (suc (suc (suc (suc (suc (suc (suc (suc (suc (suc (suc (suc (suc zero))))))))))))) p q r = j
kinds P a b c d e f g h i j (suc (suc (suc (suc (suc (suc (suc (suc (suc (suc (suc (suc (suc (suc m)))))))))))))) p q r = absurd (omega arith)

-- ---- the body

-- the rest from i on
rest : (f : List ℕ) (i w : ℕ) → length f ≡ i + w → part f i w ≡ drop i f
rest f i w e = take_all w (drop i f) (omega (arith, length-drop i f))

none_left : (f : List ℕ) → length f ≡ body_at + 0 → [] ≡ drop body_at f
none_left f e = let h : length f ≤ body_at = omega (arith, e) in sym (drop_of_length-le f h)

time_left : (f : List ℕ) → Bytes f → length f ≡ body_at + 8 → bytes8 (be8 f body_at) ≡ drop body_at f
time_left f p e = bytes8_be8 f body_at p (omega (arith, e)) ∙ rest f body_at 8 e

entry_left : (g : Params) (f : List ℕ) (i : ℕ) → length f ≡ i + entry_length g → entry_bytes (entry_in g f i) ≡ drop i f
unfolding entry_bytes
entry_left g f i e = part_part f i (listed g) (width g) ∙ rest f i (entry_length g) e

one_part : (f : List ℕ) (i : ℕ) → i < length f → (get_or f i 0 ∷ []) ≡ part f i 1
one_part f i h = rw (drop-cons f i 0 h)

stamp_left : (f : List ℕ) → Bytes f → value_at ≤ length f → stamp_bytes (stamp_in f) ≡ part f body_at 13
unfolding stamp_bytes stamp_in
stamp_left f p h =
    let a : bytes8 (be8 f body_at) ≡ part f body_at 8 = bytes8_be8 f body_at p (omega arith) in
    let b : (get_or f writer_at 0 ∷ []) ≡ part f writer_at 1 = one_part f writer_at (omega arith) in
    let c : bytes4 (be4 f write_at) ≡ part f write_at 4 = bytes4_be4 f write_at p (omega arith) in
    let d : get_or f writer_at 0 ∷ part f write_at 4 ≡ part f writer_at 5 = ap (λ l. l ++ part f write_at 4) b ∙ part_part f writer_at 1 4 in
    rw (a, c, d) (part_part f body_at 8 5)

-- w bytes, then an entry
lead_left : (g : Params) (f : List ℕ) (w : ℕ) (lead : List ℕ) → lead ≡ part f body_at w → length f ≡ body_at + (w + entry_length g)
    → lead ++ entry_bytes (entry_in g f (body_at + w)) ≡ drop body_at f
lead_left g f w lead l e =
    let z : length f ≡ body_at + w + entry_length g = omega (arith, e) in
    rw (l, entry_left g f (body_at + w) z, ← rest f (body_at + w) (entry_length g) z)
    (part_part f body_at w (entry_length g) ∙ rest f body_at (w + entry_length g) e)

offer_left : (g : Params) (f : List ℕ) → Bytes f → length f ≡ body_at + (8 + entry_length g) → offer_bytes (offer_in g f) ≡ drop body_at f
unfolding offer_bytes
offer_left g f p e = lead_left g f 8 (bytes8 (be8 f body_at)) (bytes8_be8 f body_at p (omega (arith, e))) e

value_left : (g : Params) (f : List ℕ) → Bytes f → length f ≡ body_at + (13 + entry_length g)
    → stamp_bytes (stamp_in f) ++ entry_bytes (entry_in g f value_at) ≡ drop body_at f
value_left g f p e = let h : value_at ≤ length f = omega (arith, e) in lead_left g f 13 (stamp_bytes (stamp_in f)) (stamp_left f p h) e

-- what is said of a frame's body writes it again, and has the kind
pub record Said (g : Params) (f : List ℕ) (kind : ℕ) : Type 0 where
  pub kind_is : kind_of (body_in g kind f) ≡ kind
  pub bytes_are : body_bytes (body_in g kind f) ≡ drop body_at f

said : (g : Params) (f : List ℕ) → Bytes f → (kind : ℕ) → 1 ≤ kind → kind ≤ 13 → retired kind ≡ false → length f ≡ body_at + body_length g kind → Said g f kind
unfolding body_in body_length length_of kind_of body_bytes pick
said g f p = kinds (λ kind. length f ≡ body_at + body_length g kind → Said g f kind)
    (λ e. record { kind_is = refl; bytes_are = none_left f e })
    (λ e. record { kind_is = refl; bytes_are = time_left f p e })
    (λ e. record { kind_is = refl; bytes_are = offer_left g f p e })
    (λ e. record { kind_is = refl; bytes_are = offer_left g f p e })
    (λ e. record { kind_is = refl; bytes_are = offer_left g f p e })
    (λ e. record { kind_is = refl; bytes_are = none_left f e })
    (λ e. record { kind_is = refl; bytes_are = none_left f e })
    (λ e. record { kind_is = refl; bytes_are = value_left g f p e })
    (λ e. record { kind_is = refl; bytes_are = none_left f e })
    (λ e. record { kind_is = refl; bytes_are = time_left f p e })

-- ---- the header

header_left : (f : List ℕ) → Bytes f → body_at ≤ length f → get_or f version_at 0 ≡ version
    → header_bytes (be2 f 0) (get_or f kind_at 0) (get_or f client_at 0) (be4 f sequence_at) ≡ take body_at f
unfolding header_bytes
header_left f p h v =
    let a : bytes2 (be2 f 0) ≡ part f 0 2 = bytes2_be2 f 0 p (omega arith) in
    let b : bytes4 (be4 f sequence_at) ≡ part f sequence_at 4 = bytes4_be4 f sequence_at p (omega arith) in
    let c : (version ∷ []) ≡ part f 2 1 = ap (λ x. x ∷ []) (sym v) ∙ one_part f 2 (omega arith) in
    let d : (get_or f kind_at 0 ∷ []) ≡ part f 3 1 = one_part f kind_at (omega arith) in
    let e : (get_or f client_at 0 ∷ []) ≡ part f 4 1 = one_part f client_at (omega arith) in
    let u : get_or f client_at 0 ∷ part f 5 4 ≡ part f 4 5 = ap (λ l. l ++ part f 5 4) e ∙ part_part f 4 1 4 in
    let w : get_or f kind_at 0 ∷ part f 4 5 ≡ part f 3 6 = ap (λ l. l ++ part f 4 5) d ∙ part_part f 3 1 5 in
    let x : version ∷ part f 3 6 ≡ part f 2 7 = ap (λ l. l ++ part f 3 6) c ∙ part_part f 2 1 6 in
    rw (a, b, u, w, x) (part_part f 0 2 7)

whole : (f : List ℕ) → Bytes f → body_at ≤ length f → get_or f version_at 0 ≡ version
    → header_bytes (be2 f 0) (header_in f).kind (header_in f).client (header_in f).sequence ++ drop body_at f ≡ f
unfolding header_in
whole f p h v = rw (header_left f p h v) (take-append-drop body_at f)

-- a frame that opens is the frame of what it says
pub build_opened : (g : Params) (f : List ℕ) (h : Header) → Bytes f → opened g f ≡ Ok h → build (message_in g h f) ≡ f
unfolding build message_in frame_of
build_opened g f h p q =
    let o = opens_facts g f h q in
    let s = said g f p h.kind o.kind_low o.kind_high o.kind_used o.length_is in
    let l : 7 + length (drop body_at f) ≡ be2 f 0 = omega (arith, length-drop body_at f, o.long, o.length_field) in
    rw (s.kind_is, s.bytes_are, l) (rw (← o.header) (whole f p o.long o.version_is))

-- ---- what is said is within its bounds

entry_sized : (g : Params) (f : List ℕ) (i : ℕ) → length f ≡ i + entry_length g → Sized g (entry_in g f i)
entry_sized g f i e = record {
  list_is = length_part f i (listed g) (omega (arith, e));
  block_is_lem = length_part f (i + listed g) (width g) (omega (arith, e));
}

value_formed : (g : Params) (f : List ℕ) → Bytes f → length f ≡ body_at + (13 + entry_length g) → StampFine (stamp_in f)
    → FormedBody g (value_is (stamp_in f) (entry_in g f value_at))
unfolding stamp_in
value_formed g f p e s = (
  entry_sized g f value_at (omega (arith, e)),
  be8_range f body_at p,
  s.writer,
  be4_range f write_at p,
  s.parts,
)

body_formed : (g : Params) (f : List ℕ) → Bytes f → (kind : ℕ) → 1 ≤ kind → kind ≤ 13 → retired kind ≡ false → length f ≡ body_at + body_length g kind
    → (kind ≡ 11 → StampFine (stamp_in f)) → FormedBody g (body_in g kind f)
unfolding body_in body_length length_of pick
body_formed g f p =
    kinds (λ kind. length f ≡ body_at + body_length g kind → (kind ≡ 11 → StampFine (stamp_in f)) → FormedBody g (body_in g kind f))
    (λ e s. tt)
    (λ e s. be8_range f body_at p)
    (λ e s. (entry_sized g f offer_at (omega (arith, e)), be8_range f body_at p))
    (λ e s. (entry_sized g f offer_at (omega (arith, e)), be8_range f body_at p))
    (λ e s. (entry_sized g f offer_at (omega (arith, e)), be8_range f body_at p))
    (λ e s. tt)
    (λ e s. tt)
    (λ e s. value_formed g f p e (s refl))
    (λ e s. tt)
    (λ e s. be8_range f body_at p)

sequence_range : (f : List ℕ) → Bytes f → (header_in f).sequence < 4294967296
unfolding header_in
sequence_range f p = be4_range f sequence_at p

-- a frame that opens says a message within its bounds
pub formed_opened : (g : Params) (f : List ℕ) (h : Header) → Bytes f → opened g f ≡ Ok h → Formed g (message_in g h f)
unfolding message_in
formed_opened g f h p q =
    let o = opens_facts g f h q in
    record {
      client_low = o.client_low;
      client_high = o.client_high;
      sequence_low = o.sequence_low;
      sequence_high = rw (← o.header) (sequence_range f p);
      body = body_formed g f p h.kind o.kind_low o.kind_high o.kind_used o.length_is o.stamp;
    }
