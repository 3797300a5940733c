-- What a step says: the word of a counted frame goes to all, and answers, values and acks to clients. Assumes nothing.
use Prim.Native.Nat.{ℕ, ◌+◌, ◌*◌, ◌≤◌}
use native.Mathlib.Omega.{arith}
use mathlib.Core.Bool.{Bool, true, false}
use mathlib.Core.Path.{◌≡◌, sym, subst}
use mathlib.Core.Logic.{⊎_elim}
use mathlib.Core.List.Memᴰ
use mathlib.Core.List.{List, [], Memᴰ}
use lib.ListN.{length, length-append}
use Rattle.quorum.specs.Quorum.{Among}
use Rattle.area.specs.Area.{pick}
use Rattle.blocks.specs.declared.Params.{Params}
use Rattle.frame.specs.declared.Party.{Party}
use Rattle.frame.specs.declared.Party.TheVariants as P
use Rattle.frame.specs.Messages.{Body, Message, message, Sending, sending, to_all}
use Rattle.server_rules.specs.declared.Server.{Server}
use Rattle.server_rules.specs.State.{slot_of}
use Rattle.server_rules.specs.Steps as S
use Rattle.server_rules.proofs.Casts.{IsCast, all_mem, all_length}
use Rattle.server_rules.proofs.Accepting.{Says}
use Rattle.server_rules.proofs.Accepting as Y
use Rattle.server_rules.proofs.Counting.{said}
use Rattle.server_rules.proofs.Freeing.{freed_mem, freed_few}
use Rattle.server_rules.proofs.Shapes.{Freed, Counted, Casts, counted_casts, Shape, idle, answers, notes, ends, settles, hears}

-- what an acceptance sends is none
says_none : {g : Params} {s : Server} {w : S.Write} {y : Sending} → Says g s w y → IsCast y.says.body → ⊥
says_none (Y.told d i t) h = subst (λ y. IsCast y.says.body) t.is h
says_none (Y.acked e) h = subst (λ y. IsCast y.says.body) e h
says_none (Y.reports e t) h = subst (λ m. IsCast m.body) e h

pub freed_none : {g : Params} {m : ℕ} {s : Server} {a : List ℕ} {r : S.Effect} → Freed g m s a r → (y : Sending) → Memᴰ y r.sends
    → IsCast y.says.body → ⊥
freed_none f y u h = says_none (freed_mem f y u).2 h

module _ (H : List ℕ → List ℕ) (g : Params) (me : ℕ) (s : Server) (a initial : List ℕ) (j c : ℕ) where
  pub casts_few : {l : List Sending} → Casts H g me s a initial j c l → length l ≤ g.n
  unfolding pick
  casts_few {l} k = rw k.sends (go k.speaks)
    where
      go : (b : Bool) → length (pick b (to_all g (λ i. message c (slot_of s c).sequence k.says)) []) ≤ g.n
      go true = let w = all_length g (λ i. message c (slot_of s c).sequence k.says) in omega (arith, w)
      go false = omega arith

  casts_all : (b : Bool) (m : Message) (i : ℕ) → Among g.n i → b ≡ true → Memᴰ (sending (P.Server i) m) (pick b (to_all g (λ i. m)) [])
  unfolding pick to_all
  casts_all b m i is e = rw e (all_mem (λ i. m) 1 g.n i is.0 (omega arith))

  pub counted_cast : {b : Body} {p : S.Counting} → Counted H g me s a initial j c b p → (y : Sending) → Memᴰ y p.sends → IsCast y.says.body
  counted_cast k y u =
      let C = counted_casts H g me s a initial j c k in
      let (h, e) = said g C.speaks c (slot_of s c).sequence C.says y (subst (Memᴰ y) C.sends u) in
      subst (λ m. IsCast m.body) (sym e) C.is

  -- what one server is sent of a broadcast, every server is
  pub counted_all : {b : Body} {p : S.Counting} → Counted H g me s a initial j c b p → (to : Party) (m : Message) → Memᴰ (sending to m) p.sends
      → (i : ℕ) → Among g.n i → Memᴰ (sending (P.Server i) m) p.sends
  counted_all {b} {p} k to m u i is =
      let C = counted_casts H g me s a initial j c k in
      let n = message c (slot_of s c).sequence C.says in
      let (h, e) = said g C.speaks c (slot_of s c).sequence C.says (sending to m) (subst (Memᴰ (sending to m)) C.sends u) in
      subst (λ l. Memᴰ (sending (P.Server i) m) l) (sym C.sends)
      (subst (λ y. Memᴰ (sending (P.Server i) y) (pick C.speaks (to_all g (λ i. n)) [])) (sym e) (casts_all C.speaks n i is h))

  pub step_all : (q : ℕ) {b : Body} {r : S.Effect} → Shape H g me s a initial j c q b r → (to : Party) (m : Message) → IsCast m.body
      → Memᴰ (sending to m) r.sends
      → (i : ℕ) → Among g.n i → Memᴰ (sending (P.Server i) m) r.sends
  step_all q (idle b) to m h u = absurd (Memᴰ.not-nil u)
  step_all q answers to m h u = absurd (subst (λ y. IsCast y.says.body) (Memᴰ.eq_of_singleton u) h)
  step_all q notes to m h u = absurd (subst (λ y. IsCast y.says.body) (Memᴰ.eq_of_singleton u) h)
  step_all q ends to m h u = absurd (Memᴰ.not-nil u)
  step_all q (settles b p k {r} f) to m h u = λ i is. ⊎_elim
      (λ v. Memᴰ.append_left r.sends (counted_all k to m v i is))
      (λ v. absurd (freed_none f _ v h))
      (Memᴰ.append_cases p.sends u)
  step_all q (hears T f) to m h u = absurd (freed_none f _ u h)

  -- "A server's out area must now hold 9n + 136 largest frames"
  pub step_few : (q : ℕ) {b : Body} {r : S.Effect} → Shape H g me s a initial j c q b r → length r.sends ≤ 9 * g.n + 136
  step_few q (idle b) = omega arith
  step_few q answers = omega arith
  step_few q notes = omega arith
  step_few q ends = omega arith
  step_few q (settles b p k {r} f) =
      let l = length-append p.sends r.sends in
      omega (arith, l, casts_few (counted_casts H g me s a initial j c k), freed_few f)
  step_few q (hears T f) = let l = freed_few f in omega (arith, l)
