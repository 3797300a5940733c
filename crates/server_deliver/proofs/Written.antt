-- What a step writes of the record: the frame's own part first, and then what is accepted after it. Assumes nothing.
use Prim.Native.Nat.{ℕ, ◌+◌, ◌*◌, ◌≤◌, ◌<◌}
use native.Mathlib.Omega.{arith}
use native.Mathlib.Decide.{ℕ_discrete}
use mathlib.Core.Path.{◌≡◌, refl, ap, sym, subst, ◌∙◌}
use mathlib.Core.Bool.{false, true}
use mathlib.Core.List.{List, [], ◌∷◌}
use lib.ListN.{length, set, length-set}
use lib.Seq.{sets, length-sets, set-get_or}
use lib.Dec.{eqb}
use Rattle.area.specs.Area.{Bytes}
use Rattle.area.specs.Numbers.{be8, bytes8}
use Rattle.blocks.specs.declared.Params.{Params}
use Rattle.frame.specs.declared.Header.{Header}
use Rattle.frame.specs.declared.Party.{Party}
use Rattle.frame.specs.declared.Stamp.{Stamp}
use Rattle.frame.specs.Messages.{number_in}
use Rattle.frame.specs.Frames.{body_at, retired, offer_in, message_in, stamp_bytes}
use Rattle.server_rules.specs.declared.Reader.{Reader}
use Rattle.server_rules.specs.declared.Server.{Server}
use Rattle.server_rules.specs.declared.Slot.{Slot}
use Rattle.server_rules.specs.State.{no_reader, fresh_slot, slot_of, reader_of, with_slot, with_report}
use Rattle.server_rules.specs.Steps as S
use Rattle.server_rules.proofs.Shapes.{Freed, nothing, accepts}
use Rattle.server_rules.proofs.Shapes as L
use Rattle.server_rules.proofs.Within.{either, slot_within, reader_within, fresh_within, accept_within}
use Rattle.server.specs.declared.Call.{Call}
use Rattle.server_blocks.specs.Stage.{vote_stage}
use Rattle.layout.specs.Servers.{server_size, slot_size, reader_size, slots_place, readers_place, reports_place, slot_bytes, reader_bytes, server_bytes, server_in}
use Rattle.layout.specs.Servers.{slot_sets, scope_sets, report_sets}
use Rattle.layout.specs.Typed.{TypedServer, widths}
use Rattle.layout.proofs.ScopeBack.{slot_back, scope_back}
use Rattle.layout.proofs.Rewriting.{slot_stored, scope_stored, report_stored}
use Rattle.layout.proofs.TypedSteps.{typed_in, leaves, empty_typed}
use Rattle.server_deliver.specs.Handed.{Asks}
use Rattle.server_deliver.specs.Records.{frame_sets, accepted_sets, effect_sets}
use Rattle.server_deliver.specs.Rounds.{newest, opened_in}
use Rattle.server_deliver.proofs.Records.{nine_slots, nine_readers}
use Rattle.server_deliver.proofs.Votes.{counting}
use Rattle.server_deliver.proofs.KindSteps.{accepts_none, changes_one, Only}
use Rattle.server_deliver.proofs.ByteSteps.{votes, vote_typed, vote_back, vote_final, reports, report_typed, report_in_lem, report_final, quiet_sets}

-- ---- lengths

length_scope : (l : List ℕ) (c : ℕ) (x : Stamp) (y : Slot) (z : Reader) → length (scope_sets l c x y z) ≡ length l
unfolding scope_sets slot_sets
length_scope l c x y z =
    length-sets (slot_sets l c x y) (readers_place + c * reader_size) (reader_bytes z)
    ∙ length-sets (sets l 0 (stamp_bytes x)) (slots_place + c * slot_size) (slot_bytes y)
    ∙ length-sets l 0 (stamp_bytes x)

length_report : (l : List ℕ) (j T : ℕ) → length (report_sets l j T) ≡ length l
unfolding report_sets
length_report l j T = length-sets l (reports_place + j * 8) (bytes8 T)

opened_none : (x : Stamp) (l : List ℕ) → l ≡ opened_in x [] l
unfolding opened_in
opened_none x l = refl

-- it stays as long, whatever is written
accepted_length : (s : Server) (ws : List S.Write) (l : List ℕ) → length (accepted_sets s ws l) ≡ length l
unfolding accepted_sets slot_sets
accepted_length s [] l = refl
accepted_length s (w ∷ ws) l =
    accepted_length s ws _
    ∙ length-sets (sets l 0 (stamp_bytes s.stamp)) (slots_place + w.client * slot_size) (slot_bytes (slot_of s w.client))
    ∙ length-sets l 0 (stamp_bytes s.stamp)

pub written_length : (x : S.Effect) (h : Header) (from : Party) (l : List ℕ) → length (effect_sets x h from l) ≡ length l
unfolding effect_sets frame_sets
written_length x h from l =
    accepted_length x.server x.accepted _
    ∙ either (λ (m : List ℕ). length m ≡ length l) (eqb h.kind 13) _ _ (length_report l _ _) (length_scope l h.client _ _ _)

-- ---- acceptances

module _ {g : Params} where
  -- the bytes say the server that they leave
  opened_back : {m : ℕ} {s : Server} {a : List ℕ} {r : S.Effect} → Freed g m s a r → (l : List ℕ) → server_in l ≡ s → server_size ≤ length l → TypedServer s
      → server_in (opened_in s.stamp r.accepted l) ≡ r.server
  unfolding S.accept opened_in slot_sets
  opened_back nothing l e long t = e
  opened_back {s = s} {a} (accepts w i R f) l e long t =
      let (x, q) = leaves w i (subst widths.sequence (sym R.sequence) (slot_within widths t w.client i.1).sequence) R.listed R.below in
      let T = accept_within widths empty_typed g s a w i (x, q) t in
      let y = fresh_slot (w.sequence + 1) in
      let l₂ = slot_sets l w.client (newest s.stamp w) y in
      let n : server_size ≤ length l₂ = rw length-sets (rw length-sets long) in
      let d : server_in l₂ ≡ (S.accept g s a w).server =
      slot_back l w.client (newest s.stamp w) y long i.1 T.stamp (fresh_within widths empty_typed (w.sequence + 1) q)
      ∙ (λ k. record { stamp = newest s.stamp w; slots = set (e k).slots w.client y; readers = (e k).readers; reports = (e k).reports }) in
      opened_back f l₂ d n T

  -- a whole record stays one
  opened_stored : {m : ℕ} {s : Server} {a : List ℕ} {r : S.Effect} → Freed g m s a r → (l : List ℕ) → length s.slots ≡ 9
      → opened_in s.stamp r.accepted (sets l 0 (server_bytes s)) ≡ sets l 0 (server_bytes r.server)
  unfolding S.accept opened_in
  opened_stored nothing l n = refl
  opened_stored {s = s} {a} (accepts w i R {r} f) l n =
      let y = fresh_slot (w.sequence + 1) in
      ap (opened_in (newest s.stamp w) r.accepted) (slot_stored l s w.client (newest s.stamp w) y n i.1)
      ∙ opened_stored f l (length-set s.slots w.client y ∙ n)

-- ---- any frame that was let in

module _ (H : List ℕ → List ℕ) (k : Call) (f a initial st out to : List ℕ) (long : server_size ≤ length st) (B : Bytes st) (F : Bytes f)
    (few : k.header.client ≤ 8) where
  abbrev s : Server
  s = server_in st

  abbrev c : ℕ
  c = k.header.client

  abbrev does : S.Effect
  does = S.effect H k.params k.me s a initial k.from (message_in k.params k.header f)

  -- the frame's own part leaves the server first and the bytes l₁; what is accepted from there on is what the step accepts
  record Stages : Type 0 where
    first : Server
    area : List ℕ
    l₁ : List ℕ
    rest : S.Effect
    freed : Freed k.params 8 first area rest
    server_is : does.server ≡ rest.server
    nine : length first.slots ≡ 9
    sets_are : effect_sets does k.header k.from st ≡ opened_in first.stamp rest.accepted l₁
    whole : length l₁ ≡ length st
    stored : (l : List ℕ) → st ≡ sets l 0 (server_bytes s) → l₁ ≡ sets l 0 (server_bytes first)
    back : server_in l₁ ≡ first
    typed : TypedServer first

  -- an echo or a ready
  by_vote : 4 ≤ k.header.kind → k.header.kind ≤ 5 → Stages
  by_vote low high =
      let p = counting H k a s (vote_stage k.header.kind) (offer_in k.params f) in
      let s₁ = with_slot s c p.slot in
      let e = votes H k f a initial st out to long B few low high in
      record {
        first = s₁;
        area = p.area;
        l₁ = scope_sets st c s.stamp p.slot (reader_of s c);
        rest = S.free_all k.params s₁ p.area;
        freed = L.free k.params S.rounds s₁ p.area;
        server_is = ap (λ (x : S.Effect). x.server) e;
        nine = length-set s.slots c p.slot ∙ nine_slots st;
        sets_are = ap (λ (x : S.Effect). effect_sets x k.header k.from st) e ∙ sym (vote_final H k f a initial st out to long B few low high);
        whole = length_scope st c s.stamp p.slot (reader_of s c);
        stored = λ l q.
            ap (λ (m : List ℕ). scope_sets m c s.stamp p.slot (reader_of s c)) q
            ∙ scope_stored l s c s.stamp p.slot (reader_of s c) (nine_slots st) (nine_readers st) few
            ∙ (λ i. sets l 0 (server_bytes (record {
              stamp = s.stamp;
              slots = set s.slots c p.slot;
              readers = set-get_or s.readers c no_reader i;
              reports = s.reports;
            })));
        back = vote_back H k f a initial st out to long B few low high F;
        typed = vote_typed H k f a initial st out to long B few low high F;
      }

  -- a report
  by_report : k.header.kind ≡ 13 → number_in k.from ≤ 10 → Stages
  by_report K high =
      let T = be8 f body_at in
      let s₂ = with_report s (number_in k.from) T in
      let e = reports H k f a initial st out to long B few K in
      record {
        first = s₂;
        area = a;
        l₁ = report_sets st (number_in k.from) T;
        rest = S.free_all k.params s₂ a;
        freed = L.free k.params S.rounds s₂ a;
        server_is = ap (λ (x : S.Effect). x.server) e;
        nine = nine_slots st;
        sets_are = ap (λ (x : S.Effect). effect_sets x k.header k.from st) e ∙ sym (report_final H k f a initial st out to long B few K high);
        whole = length_report st (number_in k.from) T;
        stored = λ l q.
            ap (λ (m : List ℕ). report_sets m (number_in k.from) T) q ∙ report_stored l s (number_in k.from) T (typed_in st B).reports.0 high;
        back = report_in_lem H k f a initial st out to long B few K high F;
        typed = report_typed H k f a initial st out to long B few K high F;
      }

  -- any other
  by_scope : (l : 1 ≤ k.header.kind) → k.header.kind ≤ 13 → retired k.header.kind ≡ false → Asks k → TypedServer does.server → Stages
  by_scope l h r A t =
      let x = does.server in
      let O = changes_one H k s a initial f l h r A in
      let N = accepts_none H k s a initial f l h r A in
      let same : record {
        stamp = x.stamp;
        slots = set s.slots c (slot_of x c);
        readers = set s.readers c (reader_of x c);
        reports = s.reports;
      } ≡ x = λ i. record { stamp = x.stamp; slots = sym O.slots_are i; readers = sym O.readers_are i; reports = sym O.reports_are i } in
      record {
        first = x;
        area = a;
        l₁ = scope_sets st c x.stamp (slot_of x c) (reader_of x c);
        rest = S.send_only x a [];
        freed = nothing;
        server_is = refl;
        nine = ap length O.slots_are ∙ length-set s.slots c (slot_of x c) ∙ nine_slots st;
        sets_are = quiet_sets H k f a initial st out to long B few N A.no_report ∙ opened_none x.stamp _;
        whole = length_scope st c x.stamp (slot_of x c) (reader_of x c);
        stored = λ l q.
            ap (λ (m : List ℕ). scope_sets m c x.stamp (slot_of x c) (reader_of x c)) q
            ∙ scope_stored l s c x.stamp (slot_of x c) (reader_of x c) (nine_slots st) (nine_readers st) few
            ∙ ap (λ (y : Server). sets l 0 (server_bytes y)) same;
        back = scope_back st c x.stamp (slot_of x c) (reader_of x c) long few t.stamp (slot_within widths t c few) (reader_within widths t c few) ∙ same;
        typed = t;
      }

  -- ---- what is left

  module _ (low : 1 ≤ k.header.kind) (high : k.header.kind ≤ 13) (used : retired k.header.kind ≡ false)
      (sender : k.header.kind ≡ 13 → number_in k.from ≤ 10) (t : TypedServer does.server) where
    stages : Stages
    stages = go (ℕ_discrete n 13) (ℕ_discrete n 4) (ℕ_discrete n 5)
      where
        n : ℕ
        n = k.header.kind

        go : Dec (n ≡ 13) → Dec (n ≡ 4) → Dec (n ≡ 5) → Stages
        go (yes e) u v = by_report e (sender e)
        go (no e) (yes u) v = by_vote (omega (arith, u)) (omega (arith, u))
        go (no e) (no u) (yes v) = by_vote (omega (arith, v)) (omega (arith, v))
        go (no e) (no u) (no v) = by_scope low high used (record { no_echo = u; no_ready = v; no_report = e }) t

    -- the bytes say the server
    pub written_back : server_in (effect_sets does k.header k.from st) ≡ does.server
    written_back =
        let S = stages in
        let w = S.whole in
        ap server_in S.sets_are ∙ opened_back S.freed S.l₁ S.back (omega (arith, w, long)) S.typed ∙ sym S.server_is

    -- and a whole record stays one
    pub written_stored : (l : List ℕ) → st ≡ sets l 0 (server_bytes s) → effect_sets does k.header k.from st ≡ sets l 0 (server_bytes does.server)
    written_stored l e =
        let S = stages in
        S.sets_are
        ∙ ap (opened_in S.first.stamp S.rest.accepted) (S.stored l e)
        ∙ opened_stored S.freed l S.nine
        ∙ ap (λ (x : Server). sets l 0 (server_bytes x)) (sym S.server_is)
