-- A server whose stamps are within their bounds sends messages that can be said in a frame, and stays so. Assumes nothing.
use Rattle.frame.specs.Refusals.{fine}
use Prim.Native.Nat.{ℕ, ◌+◌, ◌≤◌, ◌<◌}
use native.Mathlib.Omega.{arith}
use mathlib.Core.Bool.{Bool, true, false}
use mathlib.Core.Path.{◌≡◌, refl, ap, sym, ◌∙◌, subst}
use mathlib.Core.Logic.{⊎_elim}
use mathlib.Core.List.Memᴰ
use mathlib.Core.List.{List, [], ◌∷◌, Memᴰ}
use lib.ListN.{length, take, drop, length-drop}
use lib.Seq.{length-take-le}
use lib.Dec.{eqb}
use borrow.Author.Tests.{ne_eqb}
use Rattle.quorum.specs.Quorum.{Among}
use Rattle.quorum.proofs.Logic.{impossible}
use Rattle.area.specs.Area.{pick}
use Rattle.blocks.specs.declared.Params.{Params}
use Rattle.frame.specs.declared.Stamp.{Stamp}
use Rattle.frame.specs.declared.Party.{Party}
use Rattle.frame.specs.Chunks.{list_bytes, area_bytes}
use Rattle.frame.specs.Messages.{Entry, Body, get_stamp, ask_read, stamp_is, value_is, Message, message, Sending, to_all, number_in, Sized, Formed, FormedBody}
use Rattle.frame.specs.Params.{width, listed, Bounded}
use Rattle.frame.specs.Stamps.{zero_stamp, last_time, parts_agree}
use Rattle.frame.proofs.Sizes.{Small, small}
use Rattle.server_rules.specs.declared.Reader.{Reader}
use Rattle.server_rules.specs.declared.Server.{Server}
use Rattle.server_rules.specs.State.{present_block, fresh_reader, fresh_server, with_slot, with_report, present_entry}
use Rattle.server_rules.specs.WellFormed.{Bounds, Within}
use Rattle.server_rules.specs.Steps as S
use Rattle.server_rules.specs.Tests as ST
use Rattle.server_rules.proofs.Casts.{mem_all}
use Rattle.server_rules.proofs.Shapes.{Freed, Counted, block, Shape, idle, answers, notes, ends, settles, hears, shape_of}
use Rattle.server_rules.proofs.Accepting.{Says}
use Rattle.server_rules.proofs.Accepting as Y
use Rattle.server_rules.proofs.Passing.{test_split, counted_open, counted_from}
use Rattle.server_rules.proofs.Within.{TimeIn, server_within, slot_within, reader_within, with_slot_lem, with_report_lem, counted_within, step_within}
use Rattle.server_rules.proofs.Counting.{counted_word}
use Rattle.server_rules.proofs.Freeing.{freed_ripe, freed_sized, freed_mem}
use Rattle.steps.proofs.ServerFits.{ServerShape, counted_shape, report_shape}

-- ---- stamps in range

pub record StampInBounds (x : Stamp) : Type 0 where
  pub time_high : x.time < 18446744073709551616
  pub writer_high : x.writer ≤ 8
  pub sequence_high : x.sequence < 4294967296
  pub agree : parts_agree x.time x.writer x.sequence ≡ true

pub zero_in_bounds : StampInBounds zero_stamp
unfolding parts_agree pick
zero_in_bounds = record { time_high = omega arith; writer_high = omega arith; sequence_high = omega arith; agree = refl }

agree_some : (T c q : ℕ) → 1 ≤ c → 1 ≤ q → parts_agree (T + 1) c q ≡ true
unfolding parts_agree pick
agree_some T c q hc hq =
    let a : T + 1 ≡ 0 → ⊥ = λ z. omega arith in
    let b : c ≡ 0 → ⊥ = λ z. omega arith in
    let d : q ≡ 0 → ⊥ = λ z. omega arith in
    rw (ne_eqb _ _ a, ne_eqb _ _ b, ne_eqb _ _ d)

-- what a write that a server accepts is like
pub record WriteInBounds (g : Params) (k : S.Write) : Type 0 where
  pub client : Among 8 k.client
  pub low : 1 ≤ k.sequence
  pub high : k.sequence < 4294967296
  pub time_high : k.time < last_time
  pub sized : Sized g k.entry

pub write_stamp_in_bounds : (g : Params) (k : S.Write) → WriteInBounds g k → StampInBounds (S.stamp_of k)
write_stamp_in_bounds g k Q = record {
  time_high = omega (arith, Q.time_high);
  writer_high = Q.client.1;
  sequence_high = Q.high;
  agree = agree_some k.time k.client k.sequence Q.client.0 Q.low;
}

-- ---- a server

pub record ReaderInBounds (x : Reader) : Type 0 where
  pub noted : StampInBounds x.noted
  pub listening : x.listening ≡ true → (1 ≤ x.sequence) × (x.sequence < 4294967296)

abbrev pub ranges : Bounds
ranges = record { flags = λ l. Unit {0}; time = λ T. Unit {0}; sequence = λ q. 1 ≤ q; stamp = StampInBounds; reader = ReaderInBounds }

abbrev pub InBounds : Server → Type 0
InBounds = Within ranges

pub in_bounds_fresh : InBounds fresh_server
unfolding fresh_reader
in_bounds_fresh = server_within ranges (record { flags = tt; time = tt }) (omega arith) zero_in_bounds
    (record { noted = zero_in_bounds; listening = λ e. impossible (cc e) })

abbrev pub AllFormed : Params → List Sending → Type 0
AllFormed g l = (x : Sending) → Memᴰ x l → Formed g x.says

pub formed_all : (g : Params) (f : ℕ → Message) → ((j : ℕ) → Formed g (f j)) → AllFormed g (to_all g f)
unfolding to_all
formed_all g f h x u = let w = mem_all f 1 g.n x u in rw w.1 (h w.0)

-- what a step leaves and sends
pub record Good (g : Params) (r : S.Effect) : Type 0 where
  pub in_bounds : InBounds r.server
  pub formed : AllFormed g r.sends
  pub write_in_bounds : (k : S.Write) → Memᴰ k r.accepted → WriteInBounds g k

with_body : (g : Params) (c q : ℕ) (b b' : Body) → Formed g (message c q b) → FormedBody g b' → Formed g (message c q b')
with_body g c q b b' F h = record {
  client_low = F.client_low;
  client_high = F.client_high;
  sequence_low = F.sequence_low;
  sequence_high = F.sequence_high;
  body = h;
}

value_formed : (g : Params) (x : Stamp) (e : Entry) → StampInBounds x → Sized g e → FormedBody g (value_is x e)
value_formed g x e R Q = (Q, R.time_high, R.writer_high, R.sequence_high, R.agree)

take_sized : (w i : ℕ) (a : List ℕ) → i + w ≤ length a → length (take w (drop i a)) ≡ w
take_sized w i a h = length-take-le w (drop i a) (rw length-drop (omega arith))

present_sized : (g : Params) → Small g → (x : Stamp) (a initial : List ℕ) → area_bytes ≤ length a → width g ≤ length initial
    → Sized g (present_entry g x a initial)
unfolding present_entry present_block pick
present_sized g M x a initial R I = record {
  list_is = take_sized (listed g) 0 a (omega (arith, M.list_room));
  block_is_lem = go (eqb x.time 0);
}
  where
    go : (b : Bool) → length (pick b (take (width g) initial) (take (width g) (drop list_bytes a))) ≡ width g
    go true = length-take-le (width g) initial I
    go false = take_sized (width g) list_bytes a (omega (arith, M.block_room))

no_time : {H : List ℕ → List ℕ} {g : Params} {me : ℕ} {s : Server} {a initial : List ℕ} {j c : ℕ} {b : Body} {p : S.Counting}
    → Counted H g me s a initial j c b p → TimeIn ranges b
no_time (block z o) = tt

one_formed : (g : Params) (y : Sending) → Formed g y.says → AllFormed g (y ∷ [])
one_formed g y f x u = subst (λ z. Formed g z.says) (sym (Memᴰ.eq_of_singleton u)) f

module _ (H : List ℕ → List ℕ) (g : Params) (L : Bounded g) (me : ℕ) (s : Server) (B : InBounds s) (a initial : List ℕ) (F : ServerShape s a)
    (from : Party) where
  abbrev j : ℕ
  j = number_in from

  -- ---- what is accepted

  module _ {s₁ : Server} {a₁ : List ℕ} {r : S.Effect} (x : Freed g 8 s₁ a₁ r) (F₁ : ServerShape s₁ a₁) (B₁ : InBounds s₁) where
    -- an accepted write is within its bounds
    pub freed_in_bounds : (w : S.Write) → Memᴰ w r.accepted → WriteInBounds g w
    freed_in_bounds w u =
        let (i, C) = freed_ripe (small g L) x F₁.within F₁.room w u in
        let l = C.listed in
        record {
          client = i;
          low = subst (λ q. 1 ≤ q) (sym C.sequence) (slot_within ranges B₁ w.client i.1).sequence;
          high = omega (arith, l);
          time_high = C.below;
          sized = freed_sized (small g L) x F₁.within F₁.room w u;
        }

    -- and what is sent of it can be said in a frame
    freed_formed : AllFormed g r.sends
    freed_formed y u = let (w, v, h) = freed_mem x y u in go w (freed_in_bounds w v) h
      where
        go : (w : S.Write) → WriteInBounds g w → Says g s₁ w y → Formed g y.says
        go w W (Y.told d i t) =
            let n = (reader_within ranges B₁ d i.1).listening t.listens in
            subst (λ z. Formed g z.says) (sym t.is)
            (record {
              client_low = i.0;
              client_high = i.1;
              sequence_low = n.0;
              sequence_high = n.1;
              body = value_formed g (S.stamp_of w) w.entry (write_stamp_in_bounds g w W) W.sized;
            })
        go w W (Y.acked e) = subst (λ z. Formed g z.says) (sym e)
            (record { client_low = W.client.0; client_high = W.client.1; sequence_low = W.low; sequence_high = W.high; body = tt })
        go w W (Y.reports e t) = subst (Formed g) (sym e)
            (record {
              client_low = W.client.0;
              client_high = W.client.1;
              sequence_low = W.low;
              sequence_high = W.high;
              body = omega (arith, W.time_high);
            })

  -- ---- a step

  -- between the count, or the report, and what is accepted
  pub counted_in_bounds : (c : ℕ) → c ≤ 8 → {b : Body} {p : S.Counting} → Counted H g me s a initial j c b p → InBounds (with_slot s c p.slot)
  counted_in_bounds c few {b} {p} k =
      with_slot_lem ranges B c p.slot (counted_within ranges H g me s a initial j c (λ l u. tt) (slot_within ranges B c few) k (no_time k))

  pub report_in_bounds : (T : ℕ) → InBounds (with_report s j T)
  report_in_bounds T = with_report_lem ranges B j T tt

  pub shaped_between : (c : ℕ) → Among 8 c → {b : Body} → ST.sender_right g from c b ≡ true → {p : S.Counting} → Counted H g me s a initial j c b p
      → ServerShape (with_slot s c p.slot) p.area
  shaped_between c is h k = counted_shape H g me s a initial F j (counted_from g from c is L.servers_high k h).0 c is.1 k

  step_writes : {c q : ℕ} {b : Body} {r : S.Effect} → Shape H g me s a initial j c q b r → Among 8 c → ST.sender_right g from c b ≡ true
      → (w : S.Write) → Memᴰ w r.accepted → WriteInBounds g w
  step_writes (idle b) is h w u = absurd (Memᴰ.not-nil u)
  step_writes answers is h w u = absurd (Memᴰ.not-nil u)
  step_writes notes is h w u = absurd (Memᴰ.not-nil u)
  step_writes ends is h w u = absurd (Memᴰ.not-nil u)
  step_writes {c} (settles b p k x) is h w u = freed_in_bounds x (shaped_between c is h k) (counted_in_bounds c is.1 k) w u
  step_writes (hears T x) is h w u = freed_in_bounds x (report_shape s a F j T) (report_in_bounds T) w u

  step_formed : width g ≤ length initial → {c q : ℕ} {b : Body} {r : S.Effect} → Shape H g me s a initial j c q b r → Formed g (message c q b)
      → ST.sender_right g from c b ≡ true → ST.order_test H g me s j c q b ≡ fine → AllFormed g r.sends
  step_formed I (idle b) f h o y u = absurd (Memᴰ.not-nil u)
  step_formed I {c} {q} answers f h o y u = one_formed g _ (with_body g c q get_stamp (stamp_is s.stamp.time) f B.stamp.time_high) y u
  step_formed I {c} {q} notes f h o y u = one_formed g _
      (with_body g c q ask_read (value_is s.stamp (present_entry g s.stamp a initial)) f
      (value_formed g s.stamp _ B.stamp (present_sized g (small g L) s.stamp a initial F.room I))) y u
  step_formed I ends f h o y u = absurd (Memᴰ.not-nil u)
  step_formed I {c} {q} (settles b p k {r} x) f h o y u = ⊎_elim
      (λ v.
      let (b', e, t) = counted_word H g L me s a initial j c k f.body y v in
      subst (Formed g) (sym (e ∙ ap (λ n. message c n b') (sym (counted_open k q o)))) (with_body g c q b b' f t))
      (λ v. freed_formed x (shaped_between c (f.client_low, f.client_high) h k) (counted_in_bounds c f.client_high k) y v)
      (Memᴰ.append_cases p.sends u)
  step_formed I (hears T x) f h o y u = freed_formed x (report_shape s a F j T) (report_in_bounds T) y u

  -- each frame that passes the tests
  module _ (m : Message) (f : Formed g m) (e : ST.message_test H g me s from m ≡ fine) where
    pub effect_in_bounds : InBounds (S.effect H g me s a initial from m).server
    effect_in_bounds =
        step_within ranges H g me s a initial j m.client m.sequence B f.client_high (shape_of H g me s a initial from m) (record {
          empty = record { flags = tt; time = tt };
          counts = λ k. (λ l u. tt, no_time k);
          noted = λ u. record { noted = u; listening = λ l. (f.sequence_low, f.sequence_high) };
          ended = λ u. record { noted = u.noted; listening = λ l. impossible (cc l) };
          reported = λ T e. tt;
          leaves = λ w i q l t. (
            record {
              time_high = omega (arith, t);
              writer_high = i.1;
              sequence_high = omega (arith, l);
              agree = agree_some w.time w.client w.sequence i.0 q;
            },
            omega arith,
          );
        })

    pub effect_good : width g ≤ length initial → Good g (S.effect H g me s a initial from m)
    effect_good I =
        let (h, o) = test_split H g me s from m e in
        let x = shape_of H g me s a initial from m in
        record { in_bounds = effect_in_bounds; formed = step_formed I x f h o; write_in_bounds = step_writes x (f.client_low, f.client_high) h }
