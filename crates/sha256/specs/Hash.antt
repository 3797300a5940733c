-- SHA-256 of a list of bytes: FIPS 180-4, sections 5.2.1 and 6.2. Assumes nothing: these are definitions.
use Rattle.std.specs.Prelude.{ℕ, zero, suc, ◌+◌, ◌-◌, ◌*◌, ◌/◌, List, [], ◌∷◌, ◌++◌, length, slice_index}
use Rattle.area.specs.Area.{table}
use Rattle.area.specs.Numbers.{be4, bytes4}
use Rattle.sha256.specs.declared.State.{State}
use Rattle.sha256.specs.Words.{add, ch, maj, big_sigma0, big_sigma1, sigma0, sigma1}
use Rattle.sha256.specs.Constants.{constants, initial_hash}
use Rattle.sha256.specs.Padding.{padded}

-- 5.2.1: the sixteen words of the block of 64 bytes that starts at index at of the padded message p
unfoldable pub block_words : List ℕ → ℕ → List ℕ
block_words p at = table 16 (λ t. be4 p (at + t * 4))

-- 6.2.2, step 1: the word W t of the message schedule, t from 16 on, from the words w before it
unfoldable pub next_word : List ℕ → ℕ → ℕ
next_word w t = add (add (add (sigma1 (slice_index w (t - 2))) (slice_index w (t - 7))) (sigma0 (slice_index w (t - 15)))) (slice_index w (t - 16))

-- w with its next word
unfoldable pub longer : List ℕ → List ℕ
longer w = w ++ (next_word w (length w) ∷ [])

-- w with n more words
unfoldable pub extended : ℕ → List ℕ → List ℕ
extended zero w = w
extended (suc n) w = longer (extended n w)

-- the message schedule: the block's words and 48 more
unfoldable pub schedule : List ℕ → ℕ → List ℕ
schedule p at = extended 48 (block_words p at)

-- 6.2.2, step 3: T1, with the constant k and the word w of the schedule, and T2
unfoldable pub t1 : State → ℕ → ℕ → ℕ
t1 s k w = add (add (add (add s.h (big_sigma1 s.e)) (ch s.e s.f s.g)) k) w

unfoldable pub t2 : State → ℕ
t2 s = add (big_sigma0 s.a) (maj s.a s.b s.c)

-- the working variables after one turn of step 3
unfoldable pub round : State → ℕ → ℕ → State
round s k w =
    record { a = add (t1 s k w) (t2 s); b = s.a; c = s.b; d = s.c; e = add s.d (t1 s k w); f = s.e; g = s.f; h = s.g }

-- the working variables s after the turns 0 to t - 1, with the schedule w
unfoldable pub rounds : ℕ → List ℕ → State → State
rounds zero w s = s
rounds (suc t) w s = round (rounds t w s) (slice_index constants t) (slice_index w t)

-- 6.2.2, step 4: the next hash value from the working variables v and the hash value s
unfoldable pub added : State → State → State
added v s =
    record {
      a = add v.a s.a;
      b = add v.b s.b;
      c = add v.c s.c;
      d = add v.d s.d;
      e = add v.e s.e;
      f = add v.f s.f;
      g = add v.g s.g;
      h = add v.h s.h;
    }

-- 6.2.2, steps 2 to 4: the hash value after the block at index at, from the hash value s before it
unfoldable pub compressed : State → List ℕ → ℕ → State
compressed s p at = added (rounds 64 (schedule p at) s) s

-- the hash value after the first n blocks of the padded message p
unfoldable pub hashed : ℕ → List ℕ → State
hashed zero p = initial_hash
hashed (suc n) p = compressed (hashed n p) p (n * 64)

-- 6.2.2: the message digest of a hash value, the eight words one after the other
unfoldable pub concatenated : State → List ℕ
concatenated s =
    bytes4 s.a
    ++ (bytes4 s.b ++ (bytes4 s.c ++ (bytes4 s.d ++ (bytes4 s.e ++ (bytes4 s.f ++ (bytes4 s.g ++ bytes4 s.h))))))

-- the digest of a padded message
unfoldable pub hash_of : List ℕ → List ℕ
hash_of p = concatenated (hashed (length p / 64) p)

-- the digest of the message m
unfoldable pub digest_of : List ℕ → List ℕ
digest_of m = hash_of (padded m)
