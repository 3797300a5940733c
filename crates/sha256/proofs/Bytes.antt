-- The bytes of a digest: the stores that lay them, their number, and that they are bytes. Assumes nothing.
use Rattle.std.proofs.Common.{◌≡◌, ℕ, ◌+◌, ◌≤◌, List, ◌++◌, length, replicate, ◌∙◌, append_assoc, append-nil, arith, length-append}
use lib.Seq.{sets, sets-eq}
use Rattle.area.specs.Area.{Bytes}
use Rattle.area.specs.Numbers.{bytes4}
use Rattle.area.proofs.Numbers.{length_bytes4, Bytes-append, Bytes-bytes4}
use Rattle.area.proofs.Sets.{sets_append, sets_next}
use Rattle.sha256.specs.declared.State.{State}
use Rattle.sha256.specs.Hash.{concatenated, hash_of, digest_of}
use Rattle.sha256.specs.Steps.{four_words}

-- ---- the stores

pub four_words_lem : (d a b c r : List ℕ) (at x y z u : ℕ) → a ≡ sets d at (bytes4 x) → b ≡ sets a (at + 4) (bytes4 y) → c ≡ sets b (at + 8) (bytes4 z)
    → r ≡ sets c (at + 12) (bytes4 u) → r ≡ sets d at (four_words x y z u)
unfolding four_words
four_words_lem d a b c r at x y z u p q s t =
    let e : at + 4 + 4 ≡ at + 8 = omega arith in
    let f : at + 8 + 4 ≡ at + 12 = omega arith in
    simp (sets_append, length_bytes4) (rw (e, f) (cc))

length_concatenated : (s : State) → length (concatenated s) ≡ 32
unfolding concatenated
length_concatenated s = simp (length-append, length_bytes4)

length_four_words : (x y z u : ℕ) → length (four_words x y z u) ≡ 16
unfolding four_words
length_four_words x y z u = simp (length-append, length_bytes4)

two_halves : (s : State) → four_words s.a s.b s.c s.d ++ four_words s.e s.f s.g s.h ≡ concatenated s
unfolding four_words concatenated
two_halves s = simp append_assoc

-- 32 bytes in place of 32
whole : (v : List ℕ) → length v ≡ 32 → sets (replicate 32 0) 0 v ≡ v
whole v e =
    let h : 0 + length v ≤ length (replicate {A = ℕ} 32 0) = omega (arith, e) in
    sets-eq v (replicate 32 0) 0 h ∙ rw e (append-nil v)

pub eight_words : (s : State) (a r : List ℕ) → a ≡ sets (replicate 32 0) 0 (four_words s.a s.b s.c s.d)
    → r ≡ sets a 16 (four_words s.e s.f s.g s.h) → r ≡ concatenated s
eight_words s a r p q =
    let e : sets a 16 (four_words s.e s.f s.g s.h) ≡ sets (replicate 32 0) 0 (concatenated s)
    = rw (p, ← two_halves s)
    (sets_next (replicate 32 0) 0 (four_words s.a s.b s.c s.d) (four_words s.e s.f s.g s.h) 16 (length_four_words _ _ _ _)) in
    q ∙ e ∙ whole (concatenated s) (length_concatenated s)

-- ---- what every digest is

joined : (x : ℕ) (l : List ℕ) → Bytes l → Bytes (bytes4 x ++ l)
joined x l h = Bytes-append (bytes4 x) l (Bytes-bytes4 x) h

Bytes-concatenated : (s : State) → Bytes (concatenated s)
unfolding concatenated
Bytes-concatenated s =
    joined s.a _ (joined s.b _ (joined s.c _ (joined s.d _ (joined s.e _ (joined s.f _ (joined s.g _ (Bytes-bytes4 s.h)))))))

-- the length of a digest
pub length_digest : (m : List ℕ) → length (digest_of m) ≡ 32
unfolding digest_of hash_of
length_digest m = length_concatenated _

-- a digest is a list of bytes
pub Bytes-digest : (m : List ℕ) → Bytes (digest_of m)
unfolding digest_of hash_of
Bytes-digest m = Bytes-concatenated _
