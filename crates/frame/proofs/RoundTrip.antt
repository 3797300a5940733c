-- What is built opens, and says what was said. Assumes nothing.
use Prim.Native.Nat.{ℕ, ◌+◌, ◌≤◌, ◌<◌}
use native.Mathlib.Omega.{arith}
use mathlib.Core.Bool.{false}
use mathlib.Core.Path.{◌≡◌, refl, ap, ◌∙◌}
use mathlib.Core.List.{List, [], ◌++◌}
use lib.ListN.{length, get_or, length-append}
use lib.Seq.{take_at, drop_at, drop-drop, take_all}
use Rattle.area.specs.Area.{pick, part}
use Rattle.area.specs.Numbers.{be2, be4, be8, bytes2, bytes4, bytes8}
use Rattle.area.proofs.Numbers.{be2_bytes2, be4_bytes4, be8_bytes8, length_bytes8}
use Rattle.blocks.specs.declared.Params.{Params}
use Rattle.frame.specs.declared.Stamp.{Stamp}
use Rattle.frame.specs.Params.{width, listed, entry_length, Bounded}
use Rattle.frame.specs.Messages.{Entry, Offer, send, echo, ready, Body, get_stamp, ack, ask_read, read_complete}
use Rattle.frame.specs.Messages.{stamp_is, block_is, value_is, report, Message, Sized, FormedBody, Formed}
use Rattle.frame.specs.Frames.{version, version_at, body_at, offer_at, value_at, kind_of, retired, body_length, length_of, entry_bytes, offer_bytes, stamp_bytes}
use Rattle.frame.specs.Frames.{body_bytes, header_bytes, frame_of, build, header_in, stamp_in, entry_in, offer_in, body_in, message_in, header_for}
use Rattle.frame.specs.Forms.{Back}
use Rattle.frame.proofs.Sizes.{Small, small}
use Rattle.frame.proofs.Opening.{StampFine, opens}

-- ---- the header of a frame

module _ (kind client sequence : ℕ) (body : List ℕ) where
  pub length_frame : length (frame_of kind client sequence body) ≡ body_at + length body
  unfolding frame_of header_bytes bytes2 bytes4
  length_frame = omega arith

  pub length_field : length body < 65529 → be2 (frame_of kind client sequence body) 0 + 2 ≡ length (frame_of kind client sequence body)
  unfolding frame_of header_bytes bytes4 bytes2
  length_field h =
      let z : 7 + length body < 65536 = omega arith in
      let e : be2 (frame_of kind client sequence body) 0 ≡ 7 + length body = be2_bytes2 (7 + length body) _ z in
      omega (arith, e)

  pub header_back : sequence < 4294967296 → header_in (frame_of kind client sequence body) ≡ record { kind = kind; client = client; sequence = sequence }
  unfolding header_in frame_of header_bytes be4 be2 bytes4 bytes2
  header_back h = let e = be4_bytes4 sequence body h in λ i. record { kind = kind; client = client; sequence = e i }

  pub version_back : get_or (frame_of kind client sequence body) version_at 0 ≡ version
  unfolding frame_of header_bytes bytes2
  version_back = refl

-- ---- what a body says

entry_back : (g : Params) (e : Entry) → Sized g e → (pre : List ℕ) (i : ℕ) → length pre ≡ i → entry_in g (pre ++ entry_bytes e) i ≡ e
unfolding entry_bytes
entry_back g e Q pre i h =
    let d : part (pre ++ entry_bytes e) i (listed g) ≡ e.digests =
    rw (drop_at pre (entry_bytes e) i h) (take_at e.digests e.block (listed g) Q.list_is) in
    let w : length e.block ≤ width g = omega (arith, Q.block_is_lem) in
    let b : part (pre ++ entry_bytes e) (i + listed g) (width g) ≡ e.block =
    rw (← drop-drop (listed g) i (pre ++ entry_bytes e), drop_at pre (entry_bytes e) i h, drop_at e.digests e.block (listed g) Q.list_is)
    (take_all (width g) e.block w) in
    λ m. record { digests = d m; block = b m }

pub length_entry : (g : Params) (e : Entry) → Sized g e → length (entry_bytes e) ≡ entry_length g
unfolding entry_bytes
length_entry g e Q = length-append e.digests e.block ∙ cc (Q.list_is, Q.block_is_lem)

pub length_offer : (g : Params) (o : Offer) → Sized g o.entry → length (offer_bytes o) ≡ 8 + entry_length g
unfolding offer_bytes
length_offer g o Q = length-append (bytes8 o.time) (entry_bytes o.entry) ∙ cc (length_bytes8 o.time, length_entry g o.entry Q)

pub length_stamp : (s : Stamp) → length (stamp_bytes s) ≡ 13
unfolding stamp_bytes bytes8 bytes4 bytes2
length_stamp s = refl

time_back : (kind c q T : ℕ) (l : List ℕ) → T < 18446744073709551616 → be8 (frame_of kind c q (bytes8 T ++ l)) body_at ≡ T
unfolding be8 be4 be2 bytes8 bytes4 bytes2 frame_of header_bytes
time_back kind c q T l h = be8_bytes8 T [] h

offer_back : (g : Params) (kind c q : ℕ) (o : Offer) → FormedBody g (block_is send o) → offer_in g (frame_of kind c q (offer_bytes o)) ≡ o
unfolding bytes8 bytes4 bytes2 frame_of header_bytes offer_bytes
offer_back g kind c q o f =
    let e = o.entry in
    let a = time_back kind c q o.time (entry_bytes e) f.1 in
    let b = entry_back g e f.0 (header_bytes (7 + length (offer_bytes o)) kind c q ++ bytes8 o.time) offer_at refl in
    λ i. record { time = a i; entry = b i }

stamp_back : (kind c q : ℕ) (s : Stamp) (l : List ℕ) → s.time < 18446744073709551616 → s.sequence < 4294967296
    → stamp_in (frame_of kind c q (stamp_bytes s ++ l)) ≡ s
unfolding stamp_in be8 be4 be2 stamp_bytes bytes8 bytes4 bytes2 frame_of header_bytes
stamp_back kind c q s l h k =
    let a = be8_bytes8 s.time [] h in
    let b = be4_bytes4 s.sequence [] k in
    λ i. record { time = a i; writer = s.writer; sequence = b i }

value_back : (g : Params) (kind c q : ℕ) (s : Stamp) (e : Entry) → Sized g e → entry_in g (frame_of kind c q (stamp_bytes s ++ entry_bytes e)) value_at ≡ e
unfolding stamp_bytes bytes8 bytes4 bytes2 frame_of header_bytes
value_back g kind c q s e Q =
    entry_back g e Q (header_bytes (7 + length (stamp_bytes s ++ entry_bytes e)) kind c q ++ stamp_bytes s) value_at refl

-- ---- the whole message

pub length_body : (g : Params) (b : Body) → FormedBody g b → length (body_bytes b) ≡ body_length g (kind_of b)
unfolding body_bytes body_length length_of kind_of pick
length_body g get_stamp f = refl
length_body g ack f = refl
length_body g ask_read f = refl
length_body g read_complete f = refl
length_body g (stamp_is T) f = length_bytes8 T
length_body g (block_is send o) f = length_offer g o f.0
length_body g (block_is echo o) f = length_offer g o f.0
length_body g (block_is ready o) f = length_offer g o f.0
length_body g (report T) f = length_bytes8 T
length_body g (value_is s e) f = length-append (stamp_bytes s) (entry_bytes e) ∙ cc (length_stamp s, length_entry g e f.0)

pub kind_range : (b : Body) → (1 ≤ kind_of b) × (kind_of b ≤ 13) × (retired (kind_of b) ≡ false)
unfolding kind_of retired
kind_range get_stamp = (omega arith, omega arith, refl)
kind_range ack = (omega arith, omega arith, refl)
kind_range ask_read = (omega arith, omega arith, refl)
kind_range read_complete = (omega arith, omega arith, refl)
kind_range (stamp_is T) = (omega arith, omega arith, refl)
kind_range (block_is send o) = (omega arith, omega arith, refl)
kind_range (block_is echo o) = (omega arith, omega arith, refl)
kind_range (block_is ready o) = (omega arith, omega arith, refl)
kind_range (value_is s e) = (omega arith, omega arith, refl)
kind_range (report T) = (omega arith, omega arith, refl)

body_back : (g : Params) (c q : ℕ) (b : Body) → FormedBody g b → body_in g (kind_of b) (frame_of (kind_of b) c q (body_bytes b)) ≡ b
unfolding body_bytes body_in kind_of pick bytes8 bytes4 bytes2
body_back g c q get_stamp f = refl
body_back g c q ack f = refl
body_back g c q ask_read f = refl
body_back g c q read_complete f = refl
body_back g c q (stamp_is T) f = ap stamp_is (time_back 2 c q T [] f)
body_back g c q (block_is send o) f = ap (block_is send) (offer_back g 3 c q o f)
body_back g c q (block_is echo o) f = ap (block_is echo) (offer_back g 4 c q o f)
body_back g c q (block_is ready o) f = ap (block_is ready) (offer_back g 5 c q o f)
body_back g c q (report T) f = ap report (time_back 13 c q T [] f)
body_back g c q (value_is s e) f =
    let a = stamp_back 11 c q s (entry_bytes e) f.1 f.3 in
    let b = value_back g 11 c q s e f.0 in
    λ i. value_is (a i) (b i)

-- of a value alone: its stamp is fine
stamp_said : (g : Params) (c q : ℕ) (b : Body) → FormedBody g b → kind_of b ≡ 11 → StampFine (stamp_in (frame_of (kind_of b) c q (body_bytes b)))
unfolding body_bytes kind_of
stamp_said g c q get_stamp f k = absurd (omega arith)
stamp_said g c q ack f k = absurd (omega arith)
stamp_said g c q ask_read f k = absurd (omega arith)
stamp_said g c q read_complete f k = absurd (omega arith)
stamp_said g c q (stamp_is T) f k = absurd (omega arith)
stamp_said g c q (block_is send o) f k = absurd (omega arith)
stamp_said g c q (block_is echo o) f k = absurd (omega arith)
stamp_said g c q (block_is ready o) f k = absurd (omega arith)
stamp_said g c q (report T) f k = absurd (omega arith)
stamp_said g c q (value_is s e) f k =
    rw (stamp_back 11 c q s (entry_bytes e) f.1 f.3) (record { parts = f.4; writer = f.2 })

body_high : (g : Params) → Small g → (b : Body) → FormedBody g b → length (body_bytes b) ≤ 589
unfolding body_bytes
body_high g M get_stamp f = omega arith
body_high g M ack f = omega arith
body_high g M ask_read f = omega arith
body_high g M read_complete f = omega arith
body_high g M (stamp_is T) f = omega (arith, length_bytes8 T)
body_high g M (block_is z o) f = omega (arith, length_offer g o f.0, M.list_room, M.block_room)
body_high g M (report T) f = omega (arith, length_bytes8 T)
body_high g M (value_is s e) f =
    omega (arith, length-append (stamp_bytes s) (entry_bytes e), length_stamp s, length_entry g e f.0, M.list_room, M.block_room)

-- what is built opens, and says what was said
pub opened_build : (g : Params) → Bounded g → (m : Message) → Formed g m → Back g m
unfolding build message_in
opened_build g B m F =
    let b = m.body in
    let k = kind_of b in
    let f = frame_of k m.client m.sequence (body_bytes b) in
    let h : length (body_bytes b) ≤ 589 = body_high g (small g B) b F.body in
    let h₁ : length (body_bytes b) < 65529 = omega arith in
    let l : length f ≡ body_at + length (body_bytes b) = length_frame k m.client m.sequence (body_bytes b) in
    let e : body_in g k f ≡ b = body_back g m.client m.sequence b F.body in
    record {
      opens = opens g f (header_for m) (record {
        long = omega (arith, l);
        length_field = length_field k m.client m.sequence (body_bytes b) h₁;
        version_is = version_back k m.client m.sequence (body_bytes b);
        header = header_back k m.client m.sequence (body_bytes b) F.sequence_high;
        kind_low = (kind_range b).0;
        kind_high = (kind_range b).1;
        kind_used = (kind_range b).2;
        client_low = F.client_low;
        client_high = F.client_high;
        sequence_low = F.sequence_low;
        length_is = l ∙ ap (λ x. body_at + x) (length_body g b F.body);
        stamp = stamp_said g m.client m.sequence b F.body;
      });
      says = λ i. record { client = m.client; sequence = m.sequence; body = e i };
    }
