-- Entries written are read back, only written forms are read, and a trace closes where no entry begins. Assumes nothing.
use Prim.Native.Nat.{ℕ, zero, suc, ◌+◌, ◌*◌, ◌-◌, ◌/◌, ◌%◌, ◌≤◌, ◌<◌}
use native.Mathlib.Omega.{arith}
use mathlib.Core.Path.{◌≡◌, refl, sym, ap, ap₂, subst, ◌∙◌}
use mathlib.Core.Logic.{◌⊎◌, ⊎_elim}
use mathlib.Core.Option.{Option}
use mathlib.Core.List.{List, [], ◌∷◌, ◌++◌, append_assoc}
use lib.ListN.{length, get_or, take, drop, replicate, length-append, length-replicate, get_or-append, take-append-drop}
use lib.Seq.{length-take-le, take_at, drop_at}
use Rattle.area.specs.Area.{pick, part, Bytes}
use Rattle.area.specs.Responses.{Response}
use Rattle.area.specs.Numbers.{be2, bytes2}
use Rattle.area.proofs.Numbers.{Bytes-drop}
use Rattle.frame.specs.declared.Party.{Party}
use Rattle.frame.specs.declared.Party.TheVariants as P
use Rattle.frame.specs.Messages.{number_in}
use Rattle.frame.specs.Outbox.{party_bytes, party_in}
use Rattle.entries.specs.declared.Found.{Found}
use Rattle.entries.specs.Entries.{TraceEntry, trace_entry, lead_bytes, entry_bytes, trace_bytes, malformed}
use Rattle.entries.specs.Entries.{cut, reading_of, Trace, closed, before, found_in, then_trace, trace_from, trace_of}
use Rattle.entries.specs.Forms.{Writable, AllWritable, Closes, closes_whole, closes_malformed, closes_cut, Read, Theorem}
use Rattle.entries.proofs.Fronts.{Begins, found_at, Sound, Unsound, length_low, version_other}
use Rattle.entries.proofs.Fronts.{class_high, Front, empty, bad, short, one, front, reading_begins}
use Rattle.entries.proofs.Traces.{trace_entry_lem, fewer}

-- ---- entries written are read back

-- the entry e, and l after it
record Behind (e : TraceEntry) (l : List ℕ) : Type 0 where
  pub begins : Begins (entry_bytes e ++ l)
  pub sender : (found_at (entry_bytes e ++ l)).sender ≡ e.sender
  pub end : (found_at (entry_bytes e ++ l)).end ≡ 5 + length e.frame
  pub found : part (entry_bytes e ++ l) 5 (length e.frame) ≡ e.frame
  pub rest : drop (5 + length e.frame) (entry_bytes e ++ l) ≡ l

five : (n : ℕ) → 5 + n ≡ suc (suc (suc (suc (suc n))))
five n = omega arith

module _ (f l : List ℕ) (c j : ℕ) (h : length f ≤ 65532) where
  abbrev n : ℕ
  n = 3 + length f

  abbrev bytes : List ℕ
  bytes = n / 256 % 256 ∷ n % 256 ∷ 1 ∷ c ∷ j ∷ (f ++ l)

  size_back : be2 bytes 0 ≡ n
  unfolding be2
  size_back = omega arith

  begins_bytes : c ≤ 1 → Begins bytes
  begins_bytes k = let e = size_back in record { long = omega arith; version = refl; class = k; whole = omega (arith, length-append f l) }

  found_bytes : part bytes 5 (length f) ≡ f
  found_bytes = take_at f l (length f) refl

  rest_bytes : drop (5 + length f) bytes ≡ l
  rest_bytes = ap (λ k. drop k bytes) (five (length f)) ∙ drop_at f l (length f) refl

written_back : (p : Party) (f l : List ℕ) → length f ≤ 65532 → Behind (trace_entry p f) l
unfolding entry_bytes lead_bytes bytes2 party_bytes party_in pick
written_back (P.Client c) f l h = let e = size_back f l 0 c h in record {
  begins = begins_bytes f l 0 c h (omega arith);
  sender = refl;
  end = omega arith;
  found = found_bytes f l 0 c h;
  rest = rest_bytes f l 0 c h;
}
written_back (P.Server j) f l h = let e = size_back f l 1 j h in record {
  begins = begins_bytes f l 1 j h (omega arith);
  sender = refl;
  end = omega arith;
  found = found_bytes f l 1 j h;
  rest = rest_bytes f l 1 j h;
}

pub back_one : (e : TraceEntry) → Writable e → (l : List ℕ) → trace_of (entry_bytes e ++ l) ≡ before (e ∷ []) (trace_of l)
back_one e W l =
    let w = entry_bytes e ++ l in
    let B = written_back e.sender e.frame l W.short in
    let d : 2 + be2 w 0 - 5 ≡ length e.frame = let z = B.end in omega arith in
    let f : found_in w (found_at w) ≡ e = λ i. trace_entry (B.sender i) ((ap (part w 5) d ∙ B.found) i) in
    let r : drop (2 + be2 w 0) w ≡ l = ap (λ k. drop k w) B.end ∙ B.rest in
    trace_entry_lem w (found_at w) (reading_begins w B.begins) ∙ ap₂ (λ x y. before (x ∷ []) (trace_of y)) f r

before_more : (e : TraceEntry) (es : List TraceEntry) (t : Trace) → before (e ∷ []) (before es t) ≡ before (e ∷ es) t
unfolding before
before_more e es t = refl

pub back : (es : List TraceEntry) → AllWritable es → (rest : List ℕ) → trace_of (trace_bytes es ++ rest) ≡ before es (trace_of rest)
unfolding trace_bytes before
back [] W rest = refl
back (e ∷ es) W rest =
    ap trace_of (append_assoc (entry_bytes e) (trace_bytes es) rest)
    ∙ back_one e W.0 (trace_bytes es ++ rest)
    ∙ ap (before (e ∷ [])) (back es W.1 rest)
    ∙ before_more e es (trace_of rest)

-- ---- only written forms are read

-- length, version, class, number and frame as they are read
again : (a b c j : ℕ) (f : List ℕ) → a < 256 → b < 256 → c ≤ 1 → 3 + length f ≡ a * 256 + b
    → (entry_bytes (trace_entry (party_in c j) f) ≡ a ∷ b ∷ 1 ∷ c ∷ j ∷ f) × (number_in (party_in c j) ≡ j)
unfolding entry_bytes lead_bytes bytes2 party_bytes party_in pick
again a b zero j f ha hb hc e =
    let u : (3 + length f) / 256 % 256 ≡ a = omega arith in
    let v : (3 + length f) % 256 ≡ b = omega arith in
    (ap₂ (λ x y. x ∷ y ∷ 1 ∷ 0 ∷ j ∷ f) u v, refl)
again a b (suc zero) j f ha hb hc e =
    let u : (3 + length f) / 256 % 256 ≡ a = omega arith in
    let v : (3 + length f) % 256 ≡ b = omega arith in
    (ap₂ (λ x y. x ∷ y ∷ 1 ∷ 1 ∷ j ∷ f) u v, refl)
again a b (suc (suc c)) j f ha hb hc e = absurd (omega arith)

-- a list of at least n bytes, cut after the first n; its first five bytes are written out
split_five : (n : ℕ) (a b v c j : ℕ) (r : List ℕ) → 5 ≤ n → n ≤ 5 + length r
    → (length (take (n - 5) r) ≡ n - 5) × ((a ∷ b ∷ v ∷ c ∷ j ∷ take (n - 5) r) ++ drop n (a ∷ b ∷ v ∷ c ∷ j ∷ r) ≡ a ∷ b ∷ v ∷ c ∷ j ∷ r)
split_five n a b v c j r h g =
    let e : n ≡ suc (suc (suc (suc (suc (n - 5))))) = omega arith in (
      length-take-le (n - 5) r (omega arith),
      ap (λ k. (a ∷ b ∷ v ∷ c ∷ j ∷ take (n - 5) r) ++ drop k (a ∷ b ∷ v ∷ c ∷ j ∷ r)) e
          ∙ ap (λ l. a ∷ b ∷ v ∷ c ∷ j ∷ l) (take-append-drop (n - 5) r),
    )

-- an entry that is read is the entry as it is written
abbrev Again : List ℕ → Type 0
Again l = (entry_bytes (found_in l (found_at l)) ++ drop (2 + be2 l 0) l ≡ l) × Writable (found_in l (found_at l))

only_one : (l : List ℕ) → Bytes l → Begins l → Again l
unfolding be2
only_one [] p B = absurd (let w = B.whole in omega arith)
only_one (a ∷ []) p B = absurd (let w = B.whole in omega (arith, B.long))
only_one (a ∷ b ∷ []) p B = absurd (let w = B.whole in omega (arith, B.long))
only_one (a ∷ b ∷ v ∷ []) p B = absurd (let w = B.whole in omega (arith, B.long))
only_one (a ∷ b ∷ v ∷ c ∷ []) p B = absurd (let w = B.whole in omega (arith, B.long))
only_one (a ∷ b ∷ v ∷ c ∷ j ∷ r) p B =
    let n : ℕ = 2 + (a * 256 + b) in
    let s = split_five n a b v c j r (let z = B.long in omega arith) (let w = B.whole in omega arith) in
    let g = again a b c j (take (n - 5) r) p.0 p.1.0 B.class (omega (arith, s.0, B.long)) in (
      ap (λ l. l ++ drop n (a ∷ b ∷ v ∷ c ∷ j ∷ r)) (g.0 ∙ ap (λ x. a ∷ b ∷ x ∷ c ∷ j ∷ take (n - 5) r) (sym B.version)) ∙ s.1,
      record { number = omega (arith, g.1, p.1.1.1.1.0); short = omega (arith, s.0, p.0, p.1.0) },
    )

-- ---- where a trace closes

front_same : (l more : List ℕ) (i : ℕ) → i < length l → get_or (l ++ more) i 0 ≡ get_or l i 0
front_same l more i h = get_or-append l more 0 i h

-- closing 22: no entry begins there, whatever follows
never_begins : (l more : List ℕ) → Unsound l → Begins (l ++ more) → ⊥
unfolding be2
never_begins l more (length_low h u) B = omega (arith, B.long, front_same l more 0 (omega arith), front_same l more 1 (omega arith))
never_begins l more (version_other h u) B = u (sym (front_same l more 2 (omega arith)) ∙ B.version)
never_begins l more (class_high h u) B = omega (arith, B.class, front_same l more 3 (omega arith))

bad_closes : (l : List ℕ) → Unsound l → Closes l 22
bad_closes l u =
    closes_malformed (λ e W more rest q. never_begins l more u (subst Begins (sym q) (written_back e.sender e.frame rest W.short).begins))

-- closing 23: some bytes would complete an entry
record Missing (l : List ℕ) : Type 0 where
  pub entry : TraceEntry
  pub writable : Writable entry
  pub more : List ℕ
  pub some : 0 < length more
  pub whole : l ++ more ≡ entry_bytes entry

-- l is the front of the entry with the frame f
missing : (a b c j : ℕ) (f l more : List ℕ) → a < 256 → b < 256 → c ≤ 1 → j < 256 → 3 + length f ≡ a * 256 + b → 0 < length more
    → l ++ more ≡ a ∷ b ∷ 1 ∷ c ∷ j ∷ f → Missing l
missing a b c j f l more ha hb hc hj e s q =
    let g = again a b c j f ha hb hc e in
    record {
      entry = trace_entry (party_in c j) f;
      writable = record { number = omega (arith, g.1); short = omega arith };
      more = more;
      some = s;
      whole = q ∙ sym g.0;
    }

-- zeros in place of a frame, or of what is missing of it
zeros : ℕ → List ℕ
zeros n = replicate n 0

find_missing : (l : List ℕ) → Bytes l → 0 < length l → Sound l → length l < 2 + be2 l 0 ⊎ length l < 2 → Missing l
unfolding be2 zeros
find_missing [] p h S c = absurd (omega arith)
find_missing (a ∷ []) p h S c =
    missing a 255 0 0 (zeros (a * 256 + 252)) (a ∷ []) (255 ∷ 1 ∷ 0 ∷ 0 ∷ zeros (a * 256 + 252)) p.0 (omega arith) (omega arith) (omega arith)
    (omega (arith, length-replicate (a * 256 + 252) (zero))) (omega arith) refl
find_missing (a ∷ b ∷ []) p h S c =
    let n : ℕ = a * 256 + b - 3 in
    missing a b 0 0 (zeros n) (a ∷ b ∷ []) (1 ∷ 0 ∷ 0 ∷ zeros n) p.0 p.1.0 (omega arith) (omega arith)
    (omega (arith, length-replicate n (zero), S.long (omega arith))) (omega arith) refl
find_missing (a ∷ b ∷ v ∷ []) p h S c =
    let n : ℕ = a * 256 + b - 3 in
    missing a b 0 0 (zeros n) (a ∷ b ∷ v ∷ []) (0 ∷ 0 ∷ zeros n) p.0 p.1.0 (omega arith) (omega arith)
    (omega (arith, length-replicate n (zero), S.long (omega arith))) (omega arith) (ap (λ x. a ∷ b ∷ x ∷ 0 ∷ 0 ∷ zeros n) (S.version (omega arith)))
find_missing (a ∷ b ∷ v ∷ c ∷ []) p h S d =
    let n : ℕ = a * 256 + b - 3 in
    missing a b c 0 (zeros n) (a ∷ b ∷ v ∷ c ∷ []) (0 ∷ zeros n) p.0 p.1.0 (S.class (omega arith)) (omega arith)
    (omega (arith, length-replicate n (zero), S.long (omega arith))) (omega arith) (ap (λ x. a ∷ b ∷ x ∷ c ∷ 0 ∷ zeros n) (S.version (omega arith)))
find_missing (a ∷ b ∷ v ∷ c ∷ j ∷ r) p h S d =
    let n : ℕ = a * 256 + b - 3 - length r in
    let k : 5 + length r < 2 + (a * 256 + b) = ⊎_elim (λ x. omega arith) (λ x. absurd (omega arith)) d in
    missing a b c j (r ++ zeros n) (a ∷ b ∷ v ∷ c ∷ j ∷ r) (zeros n) p.0 p.1.0 (S.class (omega arith)) p.1.1.1.1.0
    (omega (arith, length-append r (zeros n), length-replicate n (zero))) (omega (arith, length-replicate n (zero)))
    (ap (λ x. a ∷ b ∷ x ∷ c ∷ j ∷ (r ++ zeros n)) (S.version (omega arith)))

nothing_long : (l : List ℕ) → 0 < length l → l ≡ [] → ⊥
nothing_long l h e = omega (arith, ap length e)

cut_closes : (l : List ℕ) → 0 < length l → Missing l → Closes l 23
cut_closes l h M = closes_cut (nothing_long l h) M.entry M.writable M.more (nothing_long M.more M.some) M.whole

-- closing 0: nothing is left
pub whole_closes : {l : List ℕ} {n : ℕ} → Closes l n → n ≡ 0 → l ≡ []
whole_closes (closes_whole h) e = h
whole_closes (closes_malformed h) e = absurd (omega arith)
whole_closes (closes_cut h x W more s q) e = absurd (omega arith)

-- ---- only written forms are read

nothing_left : (l : List ℕ) → length l ≡ 0 → l ≡ []
nothing_left [] h = refl
nothing_left (x ∷ l) h = absurd (omega arith)

close_at : (l : List ℕ) (n : ℕ) → Closes l n → Read l (closed n)
unfolding trace_bytes
close_at l n k = record { rest = l; writable = tt; is = refl; closes = k }

read_next : (l : List ℕ) (t : Trace) → Again l → Read (drop (2 + be2 l 0) l) t → Read l (before (found_in l (found_at l) ∷ []) t)
unfolding before trace_bytes
read_next l t g r = record {
  rest = r.rest;
  writable = (g.1, r.writable);
  is = sym g.0 ∙ ap (λ m. entry_bytes (found_in l (found_at l)) ++ m) r.is
      ∙ sym (append_assoc (entry_bytes (found_in l (found_at l))) (trace_bytes t.entries) r.rest);
  closes = r.closes;
}

reads : (m : ℕ) (l : List ℕ) → length l ≤ m → Bytes l → Read l (trace_from m l)
unfolding trace_from then_trace
reads zero l h p = close_at l 0 (closes_whole (nothing_left l (omega arith)))
reads (suc m) l h p = go (λ B. reads m (drop (2 + be2 l 0) l) (fewer l B m h) (Bytes-drop (2 + be2 l 0) l p)) (front l)
  where
    go : (Begins l → Read (drop (2 + be2 l 0) l) (trace_from m (drop (2 + be2 l 0) l)))
        → {r : Response (Option Found)} → Front l r → Read l (then_trace r l (trace_from m))
    go f (empty e) = close_at l 0 (closes_whole (nothing_left l e))
    go f (bad u) = close_at l 22 (bad_closes l u)
    go f (short k S c) = close_at l 23 (cut_closes l k (find_missing l p k S c))
    go f (one B) = read_next l _ (only_one l p B) (f B)

pub only : (l : List ℕ) → Bytes l → Read l (trace_of l)
unfolding trace_of
only l p = reads (length l) l (omega arith) p

-- ---- the frames of a trace of bytes

abbrev pub AllFrames : List TraceEntry → Type 0
AllFrames [] = Unit {0}
AllFrames (e ∷ es) = Bytes e.frame × AllFrames es

bytes_left : (a b : List ℕ) → Bytes (a ++ b) → Bytes a
bytes_left [] b p = tt
bytes_left (x ∷ a) b p = (p.0, bytes_left a b p.1)

bytes_right : (a b : List ℕ) → Bytes (a ++ b) → Bytes b
bytes_right [] b p = p
bytes_right (x ∷ a) b p = bytes_right a b p.1

all_frames : (es : List TraceEntry) → Bytes (trace_bytes es) → AllFrames es
unfolding trace_bytes entry_bytes
all_frames [] p = tt
all_frames (e ∷ es) p = (
  bytes_right (lead_bytes (3 + length e.frame) e.sender) e.frame (bytes_left (entry_bytes e) (trace_bytes es) p),
  all_frames es (bytes_right (entry_bytes e) (trace_bytes es) p),
)

pub frames_of : (l : List ℕ) → Bytes l → AllFrames (trace_of l).entries
frames_of l p =
    let r = only l p in
    all_frames (trace_of l).entries (bytes_left (trace_bytes (trace_of l).entries) r.rest (subst Bytes r.is p))

-- ---- the theorem

pub theorem : Theorem
unfolding trace_of trace_from then_trace reading_of malformed cut be2 pick
theorem = record { back = back; only = only; malformed = (refl, refl, refl); cut = (refl, refl, refl, refl) }
