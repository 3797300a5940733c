-- What a server has sent: to whom, that its blocks fit at its own place, and that its readies are of values that it decoded. Assumes nothing.
use Rattle.std.specs.Prelude.{Ok, Err}
use Rattle.frame.specs.Refusals.{Verdict, fine}
use Prim.Native.Nat.{ℕ, ◌+◌}
use native.Mathlib.Omega.{arith}
use mathlib.Core.Bool.{true, false}
use mathlib.Core.Path.{◌≡◌, refl, ap, sym, ◌∙◌, subst}
use mathlib.Core.Logic.{inl, inr, ⊎_elim}
use mathlib.Core.List.{List, [], ◌∷◌, Memᴰ}
use lib.ListN.{length, take}
use lib.Dec.{eqb}
use borrow.Author.Tests.{ne_eqb}
use Rattle.quorum.specs.Quorum.{Among}
use Rattle.quorum.proofs.Logic.{impossible}
use Rattle.area.specs.Area.{Bytes, pick, same}
use Rattle.area.proofs.Same.{same_refl}
use Rattle.area.proofs.Sets.{take_front}
use Rattle.frame.specs.declared.Stamp.{Stamp}
use Rattle.frame.specs.declared.Party.{Party}
use Rattle.frame.specs.declared.Party.TheVariants as A
use Rattle.frame.specs.Chunks.{entry_at, present_at}
use Rattle.frame.specs.Messages.{Entry, entry, Offer, send, echo, ready, Body}
use Rattle.frame.specs.Messages.{get_stamp, ack, ask_read, read_complete, stamp_is, block_is, value_is, report, Message, message, sending}
use Rattle.frame.specs.Params.{width}
use Rattle.frame.proofs.Sizes.{Small}
use Rattle.group_rules.specs.Coded.{block_at, digests_of, entry_of, fits}
use Rattle.server_rules.specs.State.{present_block, present_entry}
use Rattle.server_rules.specs.Delivery as SD
use Rattle.server_rules.proofs.Decoding.{block_width}
use Rattle.steps.proofs.ServerStamps.{StampFacts, order_facts}
use Rattle.runs.specs.Admissible.{Proper, Admissible}
use Rattle.runs.specs.Events.{At, Decodes}
use Rattle.runs.specs.World.{Setup, Call, ServerSide, initial_of, server_left}
use Rattle.runs.proofs.Agreement.{small}
use Rattle.runs.proofs.Assumed.{Assumed}
use Rattle.runs.proofs.Broadcasts.{server_at, SentMessage, Takes, effect_of, server_next, shape, sent_new}
use Rattle.runs.proofs.Formation.{heard, in_bounds}
use Rattle.runs.proofs.OrderLaws as OL
use Rattle.runs.proofs.Pieces.{digest_of_lem}
use Rattle.runs.proofs.ServerLaws as SL
use Rattle.taking.proofs.Holding.{taken_fits, presents}
use Rattle.taking.proofs.Readers.{Right, right}
use Rattle.taking.proofs.Words.{Encodes, ready_coded}
use Rattle.served.proofs.ServerState.{seq}
use Rattle.served.proofs.ServerKept.{facts, accepts_coded}

module _ (Z : Setup) (G : Assumed Z) where
  open Z use {H, g, initial_value, state_areas, initial_areas}

  abbrev M : Small g
  M = small Z G

  -- ---- a server's own entry of a value

  -- it fits at the server's place
  pub entry_fits : (v : List ℕ) (j : ℕ) → Among g.n j → fits H (entry_of H g v j) j ≡ true
  unfolding fits entry_of
  entry_fits v j is = ap (same (H (block_at H g v j))) (digest_of_lem H g G.digest_size v j is.0 is.1) ∙ same_refl (H (block_at H g v j))

  pub encoded_fits : (j : ℕ) (e : Entry) → Among g.n j → Encodes H g j e → fits H e j ≡ true
  encoded_fits j e is (v, q) = subst (λ e. fits H e j ≡ true) (sym q) (entry_fits v j is)

  -- ---- the present value

  -- what a server answers a read with
  abbrev pub present_of : ℕ → ServerSide → Entry
  present_of j h = present_entry g h.server.stamp h.area (initial_of Z j)

  -- with the present entry e in the area
  abbrev shown_by : Stamp → Entry → List ℕ → Entry
  shown_by x e initial = entry e.digests (pick (eqb x.time 0) (take (width g) initial) e.block)

  shown : (x : Stamp) (a initial : List ℕ) → present_entry g x a initial ≡ shown_by x (entry_at g a present_at) initial
  unfolding present_entry present_block entry_at
  shown x a initial = refl

  -- the same stamp and entry
  pub shown_same : (x x' : Stamp) (a a' initial : List ℕ) → x' ≡ x → entry_at g a' present_at ≡ entry_at g a present_at
      → present_entry g x' a' initial ≡ present_entry g x a initial
  shown_same x x' a a' initial p q = shown x' a' initial ∙ (λ i. shown_by (p i) (q i) initial) ∙ sym (shown x a initial)

  -- a stamp of a write
  pub shown_written : (x : Stamp) (T : ℕ) (a initial : List ℕ) → x.time ≡ T + 1 → present_entry g x a initial ≡ entry_at g a present_at
  unfolding pick
  shown_written x T a initial e =
      let n : x.time ≡ 0 → ⊥ = λ z. omega (arith, e, z) in
      let b : eqb x.time 0 ≡ false = ne_eqb x.time 0 n in
      let y = entry_at g a present_at in
      shown x a initial ∙ (λ i. entry y.digests (pick (b i) (take (width g) initial) y.block))

  -- the initial block
  initial_block : (j : ℕ) → Among g.n j → take (width g) (initial_of Z j) ≡ block_at H g initial_value j
  unfolding SD.construction SD.construct_by
  initial_block j is = go (SD.construct_test H g j initial_value (length (state_areas j)) (length (initial_areas j))) (OL.fresh_fine Z G j is)
    where
      go : (b : Verdict) → b ≡ fine
          → take (width g) (SD.construct_by H g j b initial_value (state_areas j) (initial_areas j)).initial ≡ block_at H g initial_value j
      go (Err r) e = impossible (cc e)
      go (Ok _) e = take_front (initial_areas j) (block_at H g initial_value j) (width g) (block_width g initial_value j G.initial_size) (G.initial_room j)

  start_coded : (j : ℕ) → Among g.n j → Encodes H g j (present_of j (server_at Z G M [] j))
  unfolding present_entry entry_of pick
  start_coded j is =
      let h = server_at Z G M [] j in
      let e = sym (SL.stamp_at_lem Z G M [] j is) ∙ (OL.fresh Z G M).initial_stamp j in
      let t : h.server.stamp.time ≡ 0 = ap (λ v. v.0.time) e in
      let b : (present_of j h).block ≡ take (width g) (initial_of Z j) =
      ap (λ y. y.block) (shown h.server.stamp h.area (initial_of Z j))
      ∙ ap (λ T. pick (eqb T 0) (take (width g) (initial_of Z j)) (entry_at g h.area present_at).block) t in
      (initial_value, λ i. entry (e i).1 ((b ∙ initial_block j is) i))

  pub present_coded : (ks : List Call) (j : ℕ) → Among g.n j → Encodes H g j (present_of j (server_at Z G M ks j))
  present_coded [] j is = start_coded j is
  present_coded (k ∷ ks) j is = ⊎_elim
      (λ e. subst (λ h. Encodes H g j (present_of j h)) (sym e) (present_coded ks j is))
      (λ (C, e). subst (λ h. Encodes H g j (present_of j h)) (sym e) (go (present_coded ks j is) C))
      (server_next Z G M ks k j)
    where
      go : Encodes H g j (present_of j (server_at Z G M ks j)) → (C : Takes Z G M ks k j) → Encodes H g j (present_of j (server_left Z (effect_of Z G M C)))
      go E C =
          let h = server_at Z G M ks j in
          let r = effect_of Z G M C in
          ⊎_elim
          (λ (s, q). subst (Encodes H g j) (sym (shown_same h.server.stamp r.server.stamp h.area r.area (initial_of Z j) s q)) E)
          (λ (w, u, s, q, o). subst (Encodes H g j) (sym (shown_written r.server.stamp w.time r.area (initial_of Z j) (ap (λ x. x.time) s) ∙ q))
          (accepts_coded Z G ks k j C w u))
          (presents H g j h.server C.from G.bounded h.area (initial_of Z j) (shape Z G M ks j) C.m
          C.took.client C.took.sized C.took.passes)

  -- ---- its words

  -- a block fits at place j
  abbrev pub Fitting : ℕ → Body → Type 0
  Fitting j get_stamp = Unit {0}
  Fitting j ack = Unit {0}
  Fitting j ask_read = Unit {0}
  Fitting j read_complete = Unit {0}
  Fitting j (stamp_is T) = Unit {0}
  Fitting j (block_is z o) = fits H o.entry j ≡ true
  Fitting j (value_is x e) = fits H e j ≡ true
  Fitting j (report T) = Unit {0}

  module _ (ks : List Call) (k : Call) (adm : Admissible Z ks) (pr : Proper Z ks k) (j : ℕ) (is : Among g.n j) (C : Takes Z G M ks k j) where
    abbrev h : ServerSide
    h = server_at Z G M ks j

    stamps : StampFacts H g h.server h.area (initial_of Z j) C.from C.m (effect_of Z G M C)
    stamps = order_facts H g G.bounded j h.server (in_bounds Z G M ks adm j) h.area (initial_of Z j) (shape Z G M ks j) C.from C.m
        (heard Z G M pr C) C.took.sized C.took.passes

    goes_right : (b : Party) (m : Message) → Memᴰ (sending b m) (effect_of Z G M C).sends → Right g b m.client m.body
    goes_right b m u = right H g j h.server h.area (initial_of Z j) C.from C.m (sending b m) u

    goes_fitting : (b : Party) (c q : ℕ) (x : Body) → Memᴰ (sending b (message c q x)) (effect_of Z G M C).sends → Fitting j x
    goes_fitting b c q get_stamp u = tt
    goes_fitting b c q ack u = tt
    goes_fitting b c q ask_read u = tt
    goes_fitting b c q read_complete u = tt
    goes_fitting b c q (stamp_is T) u = tt
    goes_fitting b c q (report T) u = tt
    goes_fitting b c q (block_is send o) u = absurd (goes_right b (message c q (block_is send o)) u)
    goes_fitting b c q (block_is echo o) u =
        taken_fits H g j h.server C.from C.m C.took.passes c (seq Z G ks j c) send o ((facts Z G ks k j C).an_echo c b q o u).4
    goes_fitting b c q (block_is ready o) u =
        let (v, m, e, l, y) = ready_coded H g G.bounded j h.server h.area (initial_of Z j) C.from C.m b c q o u in
        encoded_fits j o.entry is (v, e)
    goes_fitting b c q (value_is x e) u = ⊎_elim
        (λ (f, m, s, q). subst (λ e. fits H e j ≡ true) (sym q) (encoded_fits j (present_of j h) is (present_coded ks j is)))
        (λ w. subst (λ e. fits H e j ≡ true) (sym w.entry)
        (encoded_fits j w.tk.entry is (accepts_coded Z G ks k j C w.tk w.is)))
        (stamps.value_written b c q x e u)

  pub server_word : (ks : List Call) → Admissible Z ks → (j : ℕ) → Among g.n j → (b : Party) (m : Message) → SentMessage Z G M ks (A.Server j) b m
      → Right g b m.client m.body × Fitting j m.body
  server_word [] adm j is b m u = absurd u
  server_word (k ∷ ks) adm j is b m u = ⊎_elim
      (λ o. server_word ks adm.1 j is b m o)
      (λ (C, v). (goes_right ks k adm.1 adm.0 j is C b m v, goes_fitting ks k adm.1 adm.0 j is C b m.client m.sequence m.body v))
      (sent_new Z G M ks k j b m u)

  -- ---- its readies

  list_of : (v : List ℕ) (j : ℕ) → (entry_of H g v j).digests ≡ digests_of H g v
  unfolding entry_of
  list_of v j = refl

  -- each is of a value that was decoded
  pub ready_from : (ks : List Call) (j : ℕ) (b : Party) (c s : ℕ) (o : Offer) → SentMessage Z G M ks (A.Server j) b (message c s (block_is ready o))
      → (v : List ℕ) × (p : ℕ) × At (Decodes Z v) ks p × (digests_of H g v ≡ o.entry.digests) × (length v ≡ g.size) × Bytes v
  ready_from [] j b c s o u = absurd u
  ready_from (k ∷ ks) j b c s o u = ⊎_elim
      (λ w. let (v, p, d, e, l, y) = ready_from ks j b c s o w in (v, p, inr d, e, l, y))
      (λ (C, w).
      let h = server_at Z G M ks j in
      let (v, d, e, l, y) = ready_coded H g G.bounded j h.server h.area (initial_of Z j) C.from C.m b c s o w in (
        v,
        length ks,
        inl (refl, subst (Decodes Z v ks) (sym C.is) (subst (λ r. Memᴰ v r.decodes) (sym C.moves) d)),
        sym (list_of v j) ∙ ap (λ e. e.digests) (sym e),
        l,
        y,
      ))
      (sent_new Z G M ks k j b _ u)
