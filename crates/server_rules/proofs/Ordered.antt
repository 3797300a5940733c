-- The frames of every step go out in the order that requests F-1 and F-9 fix. Assumes nothing.
use Prim.Native.Nat.{ℕ, zero, suc, ◌+◌, ◌≤◌}
use native.Mathlib.Omega.{arith}
use mathlib.Core.Bool.{Bool, true, false}
use mathlib.Core.Path.{◌≡◌, refl, subst, sym}
use mathlib.Core.List.{List, [], ◌∷◌, ◌++◌, append-nil}
use Rattle.area.specs.Area.{pick}
use Rattle.blocks.specs.declared.Params.{Params}
use Rattle.frame.specs.declared.Party.{Party}
use Rattle.frame.specs.declared.Party.TheVariants as P
use Rattle.frame.specs.Messages.{get_stamp, ack, ask_read, read_complete, stamp_is, value_is, report, Body, block_is, message, Sending, sending, to_from, to_all, number_in}
use Rattle.server_rules.specs.declared.Server.{Server}
use Rattle.server_rules.specs.State.{slot_of}
use Rattle.server_rules.specs.Steps as S
use Rattle.server_rules.specs.Tests.{judge}
use Rattle.server_rules.specs.FrameOrder.{place_in, Rising, done, next, Accepting, none, also, InOrder, FramesInOrder}
use Rattle.server_rules.proofs.Accepting.{accept_rising}
use Rattle.server_rules.proofs.Casts.{IsCast}
use Rattle.server_rules.proofs.Shapes.{Freed, nothing, accepts, Casts, counted_casts}
use Rattle.server_rules.proofs.Shapes.{Shape, idle, answers, notes, ends, settles, hears, Delivery, refused, taken, shape_delivered}

-- ---- parts of a step

alone : {n : ℕ} (x : Sending) → Rising n 0 (x ∷ [])
alone x = next 0 x (omega arith) done

-- no report
abbrev Plain : Body → Type 0
Plain b = (n j : ℕ) → place_in n (P.Server j) b ≡ j

cast_plain : (b : Body) → IsCast b → Plain b
cast_plain get_stamp h n j = elim h [ ]
cast_plain ack h n j = elim h [ ]
cast_plain ask_read h n j = elim h [ ]
cast_plain read_complete h n j = elim h [ ]
cast_plain (stamp_is x) h n j = elim h [ ]
cast_plain (block_is z o) h n j = refl
cast_plain (value_is x e) h n j = elim h [ ]
cast_plain (report t) h n j = elim h [ ]

-- what goes to servers j to j + m - 1
to_rising : (n : ℕ) (c q : ℕ) (b : Body) → Plain b → (j m k : ℕ) → k ≤ j → Rising n k (to_from (λ i. message c q b) j m)
unfolding to_from
to_rising n c q b p j zero k l = done
to_rising n c q b p j (suc m) k l =
    next k (sending (P.Server j) (message c q b)) (omega (arith, p n j, l))
    (to_rising n c q b p (suc j) m (suc (place_in n (P.Server j) b)) (omega (arith, p n j)))

-- ---- a step

freed_rising : {g : Params} {m : ℕ} {s : Server} {a : List ℕ} {r : S.Effect} → Freed g m s a r → Accepting g.n r.accepted r.sends
unfolding S.accept
freed_rising nothing = none
freed_rising {g} {s = s} {a} (accepts w i R f) = also w (S.accept g s a w).sends (accept_rising g s a w) (freed_rising f)

lone : {n : ℕ} {s : Server} {a : List ℕ} (l : List Sending) → Rising n 0 l → InOrder n (S.send_only s a l)
lone l r = record { first = l; rest = []; is = sym (append-nil l); rising = r; accepting = none }

module _ (H : List ℕ → List ℕ) (g : Params) (me : ℕ) (s : Server) (a initial : List ℕ) (j c : ℕ) where
  casts_rising : {l : List Sending} → Casts H g me s a initial j c l → Rising g.n 0 l
  unfolding to_all pick
  casts_rising {l} C = subst (Rising g.n 0) (sym C.sends) (go C.speaks)
    where
      go : (b : Bool) → Rising g.n 0 (pick b (to_all g (λ i. message c (slot_of s c).sequence C.says)) [])
      go true = to_rising g.n c (slot_of s c).sequence C.says (cast_plain C.says C.is) 1 g.n 0 (omega arith)
      go false = done

  step_rising : {q : ℕ} {b : Body} {r : S.Effect} → Shape H g me s a initial j c q b r → InOrder g.n r
  step_rising (idle b) = lone [] done
  step_rising answers = lone _ (alone _)
  step_rising notes = lone _ (alone _)
  step_rising ends = lone [] done
  step_rising (settles b p k {r} f) = record {
    first = p.sends;
    rest = r.sends;
    is = refl;
    rising = casts_rising (counted_casts H g me s a initial j c k);
    accepting = freed_rising f;
  }
  step_rising (hears T {r} f) = record { first = []; rest = r.sends; is = refl; rising = done; accepting = freed_rising f }

pub frames_in_order : FramesInOrder
frames_in_order H g me s a initial from f out to = go (shape_delivered H g me s a initial from f out to)
  where
    go : {r : S.Effect} → Delivery H g me s a initial from (judge H g me s a initial from f out to) r → InOrder g.n r
    go (refused x e) = lone [] done
    go (taken m e h) = step_rising H g me s a initial (number_in from) m.client h
