-- Every step keeps a well-formed server, whatever its bounds are: by the law of a step. Assumes nothing.
use Prim.Native.Nat.{ℕ, zero, suc, ◌+◌, ◌≤◌, ◌<◌}
use native.Mathlib.Omega.{arith}
use mathlib.Core.Bool.{Bool, true, false}
use mathlib.Core.Path.{◌≡◌, refl, sym, ◌∙◌, subst}
use mathlib.Core.Logic.{⊎_elim}
use mathlib.Core.List.Memᴰ
use mathlib.Core.List.{List, [], ◌∷◌, Memᴰ}
use lib.ListN.{length, get_or, set, replicate, length-set}
use lib.Seq.{get_or-set_same}
use Rattle.quorum.specs.Quorum.{Among}
use Rattle.area.specs.Area.{pick}
use Rattle.blocks.specs.declared.Params.{Params}
use Rattle.frame.specs.Stamps.{older, zero_stamp, last_time, last_sequence}
use Rattle.frame.specs.Messages.{Offer, send, echo, ready, Body, get_stamp, ack, ask_read, read_complete, stamp_is, block_is, value_is, report}
use Rattle.server_rules.specs.declared.BlockPart.{BlockPart}
use Rattle.server_rules.specs.declared.Slot.{Slot}
use Rattle.server_rules.specs.declared.Reader.{Reader}
use Rattle.server_rules.specs.declared.Server.{Server}
use Rattle.server_rules.specs.State.{fresh_blocks, fresh_slot, fresh_reader, fresh_server, no_slot, no_reader, slot_of, reader_of}
use Rattle.server_rules.specs.State.{with_slot, with_reader, with_report, with_blocks, block_echo, block_ready}
use Rattle.server_rules.specs.WellFormed.{Every, Array, Bounds, SlotWithin, Within}
use Rattle.server_rules.specs.Steps as S
use Rattle.server_rules.proofs.Shapes.{Ripe, Freed, nothing, accepts, Counted, block, Shape, idle, answers, notes, ends, settles, hears}

-- ---- arrays, and one of two

module _ {A : Type 0} (P : A → Type 0) where
  every_set : (xs : List A) (i : ℕ) (x : A) → Every P xs → P x → Every P (set xs i x)
  every_set [] i x e p = e
  every_set (y ∷ xs) zero x e p = (p, e.1)
  every_set (y ∷ xs) (suc i) x e p = (e.0, every_set xs i x e.1 p)

  pub array_set : (m : ℕ) (xs : List A) (i : ℕ) (x : A) → Array m P xs → P x → Array m P (set xs i x)
  array_set m xs i x t p = (length-set xs i x ∙ t.0, every_set xs i x t.1 p)

  pub every_replicate : (m : ℕ) (x : A) → P x → Every P (replicate m x)
  every_replicate zero x p = tt
  every_replicate (suc m) x p = (p, every_replicate m x p)

  pub get_d_every : (xs : List A) (i : ℕ) (d : A) → Every P xs → i < length xs → P (get_or xs i d)
  get_d_every [] i d e h = absurd (omega arith)
  get_d_every (x ∷ xs) zero d e h = e.0
  get_d_every (x ∷ xs) (suc i) d e h = get_d_every xs i d e.1 (omega arith)

  pub either : (b : Bool) (x y : A) → P x → P y → P (pick b x y)
  unfolding pick
  either true x y p q = p
  either false x y p q = q

-- ---- the places of a server

module _ (B : Bounds) where
  -- the time that a body brings
  abbrev pub TimeIn : Body → Type 0
  TimeIn get_stamp = Unit {0}
  TimeIn ack = Unit {0}
  TimeIn ask_read = Unit {0}
  TimeIn read_complete = Unit {0}
  TimeIn (stamp_is T) = Unit {0}
  TimeIn (block_is z o) = B.time o.time
  TimeIn (value_is x e) = Unit {0}
  TimeIn (report T) = B.time T

  -- nothing has come
  pub record Empty : Type 0 where
    pub flags : B.flags (replicate 11 false)
    pub time : B.time 0

  pub fresh_within : Empty → (q : ℕ) → B.sequence q → SlotWithin B (fresh_slot q)
  unfolding fresh_slot fresh_blocks
  fresh_within E q h =
      let n : Array 11 B.time (replicate 11 0) = (refl, every_replicate B.time 11 0 E.time) in record {
        sequence = h;
        blocks = record { time = E.time; echoes = E.flags; readies = E.flags; echoed = n; readied = n };
      }

  pub server_within : Empty → B.sequence 1 → B.stamp zero_stamp → B.reader fresh_reader → Within B fresh_server
  unfolding fresh_server
  server_within E h x r = record {
    stamp = x;
    slots = (refl, every_replicate (SlotWithin B) 9 (fresh_slot 1) (fresh_within E 1 h));
    readers = (refl, every_replicate B.reader 9 fresh_reader r);
    reports = (refl, every_replicate B.time 11 0 E.time);
  }

  module _ {s : Server} (W : Within B s) (c : ℕ) where
    pub slot_within : c ≤ 8 → SlotWithin B (slot_of s c)
    slot_within h = get_d_every (SlotWithin B) s.slots c no_slot W.slots.1 (omega (arith, W.slots.0))

    pub reader_within : c ≤ 8 → B.reader (reader_of s c)
    reader_within h = get_d_every B.reader s.readers c no_reader W.readers.1 (omega (arith, W.readers.0))

    pub with_slot_lem : (x : Slot) → SlotWithin B x → Within B (with_slot s c x)
    with_slot_lem x y = record { stamp = W.stamp; slots = array_set (SlotWithin B) 9 s.slots c x W.slots y; readers = W.readers; reports = W.reports }

    with_reader_lem : (x : Reader) → B.reader x → Within B (with_reader s c x)
    with_reader_lem x y = record { stamp = W.stamp; slots = W.slots; readers = array_set B.reader 9 s.readers c x W.readers y; reports = W.reports }

    pub with_report_lem : (T : ℕ) → B.time T → Within B (with_report s c T)
    with_report_lem T h =
        record { stamp = W.stamp; slots = W.slots; readers = W.readers; reports = array_set B.time 11 s.reports c T W.reports h }

    pub this_slot : c ≤ 8 → (x : Slot) → slot_of (with_slot s c x) c ≡ x
    this_slot h x = get_or-set_same s.slots c x no_slot (omega (arith, W.slots.0))

  -- ---- a frame is counted

  abbrev Setting : ℕ → Type 0
  Setting j = (l : List Bool) → B.flags l → B.flags (set l j true)

  module _ (x : Slot) (X : SlotWithin B x) where
    module _ (j : ℕ) (flag : Setting j) (T : ℕ) (h : B.time T) where
      pub echo_within : SlotWithin B (with_blocks x (block_echo x.blocks j T))
      echo_within = let u = X.blocks in record {
        sequence = X.sequence;
        blocks = record {
          time = u.time;
          echoes = flag _ u.echoes;
          readies = u.readies;
          echoed = array_set B.time 11 x.blocks.echoed j T u.echoed h;
          readied = u.readied;
        };
      }

      pub ready_within : SlotWithin B (with_blocks x (block_ready x.blocks j T))
      ready_within = let u = X.blocks in record {
        sequence = X.sequence;
        blocks = record {
          time = u.time;
          echoes = u.echoes;
          readies = flag _ u.readies;
          echoed = u.echoed;
          readied = array_set B.time 11 x.blocks.readied j T u.readied h;
        };
      }

    same_blocks : (b : BlockPart) → B.time b.time → b.echoes ≡ x.blocks.echoes → b.readies ≡ x.blocks.readies → b.echoed ≡ x.blocks.echoed
        → b.readied ≡ x.blocks.readied
        → SlotWithin B (with_blocks x b)
    same_blocks b h e r f k = let u = X.blocks in record {
      sequence = X.sequence;
      blocks = record { time = h; echoes = rw e u.echoes; readies = rw r u.readies; echoed = rw f u.echoed; readied = rw k u.readied };
    }

  module _ (H : List ℕ → List ℕ) (g : Params) (me : ℕ) (s : Server) (a initial : List ℕ) (j c : ℕ) where
    voted_within : (a : List ℕ) (x : Slot) (o : Offer) → SlotWithin B x → B.time o.time → SlotWithin B (S.voted_block H g me a c x o).slot
    unfolding S.voted_block
    voted_within a x o X h = same_blocks x X _ (either B.time _ o.time x.blocks.time h X.blocks.time) refl refl refl refl

    pub counted_within : Setting j → SlotWithin B (slot_of s c) → {b : Body} {p : S.Counting} → Counted H g me s a initial j c b p → TimeIn b
        → SlotWithin B p.slot
    unfolding S.on_block
    counted_within flag X (block send o) h = same_blocks (slot_of s c) X _ X.blocks.time refl refl refl refl
    counted_within flag X (block echo o) h = voted_within _ _ o (echo_within (slot_of s c) X j flag o.time h) h
    counted_within flag X (block ready o) h = voted_within _ _ o (ready_within (slot_of s c) X j flag o.time h) h

  -- ---- a step

  -- a write that is accepted leaves its stamp and opens the next sequence
  abbrev pub Leaves : S.Write → Type 0
  Leaves w = B.stamp (S.stamp_of w) × B.sequence (w.sequence + 1)

  -- what the bounds have to grant to acceptances
  abbrev pub Granted : Type 0
  Granted = (w : S.Write) → Among 8 w.client → B.sequence w.sequence → w.sequence ≤ last_sequence → w.time < last_time → Leaves w

  pub accept_within : Empty → (g : Params) (s : Server) (a : List ℕ) (w : S.Write) → Among 8 w.client → Leaves w → Within B s
      → Within B (S.accept g s a w).server
  unfolding S.accept
  accept_within E g s a w i (x, q) W = record {
    stamp = either B.stamp (older s.stamp (S.stamp_of w)) (S.stamp_of w) s.stamp x W.stamp;
    slots = array_set (SlotWithin B) 9 s.slots w.client _ W.slots (fresh_within E (w.sequence + 1) q);
    readers = W.readers;
    reports = W.reports;
  }

  -- an accepted write leaves what is granted
  ripe_leaves : Granted → {g : Params} {s : Server} {a : List ℕ} {w : S.Write} → Among 8 w.client → Ripe g s a w → Within B s → Leaves w
  ripe_leaves G {w = w} i R W = G w i (subst B.sequence (sym R.sequence) (slot_within W w.client i.1).sequence) R.listed R.below

  pub freed_within : Empty → Granted → {g : Params} {m : ℕ} {s : Server} {a : List ℕ} {r : S.Effect} → Freed g m s a r → Within B s
      → Within B r.server × ((w : S.Write) → Memᴰ w r.accepted → B.sequence w.sequence)
  unfolding S.accept
  freed_within E G nothing W = (W, λ w u. absurd (Memᴰ.not-nil u))
  freed_within E G {g} (accepts {s = s} {a} w i R f) W =
      let (X, h) = freed_within E G f (accept_within E g s a w i (ripe_leaves G i R W) W) in (
        X,
        λ x u. ⊎_elim
            (λ e. subst (λ w. B.sequence w.sequence) (sym e) (subst B.sequence (sym R.sequence) (slot_within W w.client i.1).sequence))
            (h x) (Memᴰ.cases_cons u),
      )

  module _ (H : List ℕ → List ℕ) (g : Params) (me : ℕ) (s : Server) (a initial : List ℕ) (j c q : ℕ) where
    -- what the bounds have to grant to a step from party j, for client c's operation q
    pub record Grants (b : Body) : Type 0 where
      pub empty : Empty
      pub counts : {p : S.Counting} → Counted H g me s a initial j c b p → ((l : List Bool) → B.flags l → B.flags (set l j true)) × TimeIn b
      pub noted : B.stamp s.stamp → B.reader (record { sequence = q; listening = true; noted = s.stamp })
      pub ended : B.reader (reader_of s c) → B.reader (record { sequence = q; listening = false; noted = (reader_of s c).noted })
      pub reported : (T : ℕ) → b ≡ report T → B.time T
      pub leaves : Granted

    pub step_within : Within B s → c ≤ 8 → {b : Body} {r : S.Effect} → Shape H g me s a initial j c q b r → Grants b → Within B r.server
    step_within W few (idle b) G = W
    step_within W few answers G = W
    step_within W few notes G = with_reader_lem W c _ (G.noted W.stamp)
    step_within W few ends G = with_reader_lem W c _ (G.ended (reader_within W c few))
    step_within W few (settles b p k f) G =
        (freed_within G.empty G.leaves f
        (with_slot_lem W c p.slot (counted_within H g me s a initial j c (G.counts k).0 (slot_within W c few) k (G.counts k).1))).0
    step_within W few (hears T f) G = (freed_within G.empty G.leaves f (with_report_lem W j T (G.reported T refl))).0
