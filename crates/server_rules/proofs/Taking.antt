-- What is known of a frame that a server takes; and a delivery keeps a well-formed server. Assumes nothing.
use Rattle.std.specs.Prelude.{Ok, Err}
use Prim.Native.Nat.{ℕ, ◌+◌, ◌≤◌}
use native.Mathlib.Omega.{arith}
use mathlib.Core.Bool.{true}
use mathlib.Core.Path.{◌≡◌, refl, ap, ◌∙◌, subst}
use mathlib.Core.List.{List}
use lib.ListN.{length, drop, length-drop}
use lib.Seq.{length-take-le}
use lib.Dec.{eqb}
use borrow.Author.Tests.{eqb-true}
use Rattle.quorum.specs.Quorum.{Among}
use Rattle.quorum.proofs.Logic.{impossible}
use Rattle.area.specs.Area.{pick}
use Rattle.area.proofs.Tests.{by_pick}
use Rattle.blocks.specs.declared.Params.{Params}
use Rattle.frame.specs.declared.Party.{Party}
use Rattle.frame.specs.declared.Header.{Header}
use Rattle.frame.specs.Frames.{Opened}
use Rattle.frame.specs.Frames.{value_at, offer_at, length_of, body_length, opened, entry_in, body_in, message_in}
use Rattle.frame.specs.Messages.{Message, Judged, good, judged_by, after, number_in, Sized}
use Rattle.frame.specs.Params.{width, listed, params_test}
use Rattle.frame.specs.Refusals.{and_then, Verdict, fine}
use Rattle.frame.proofs.Opening.{opens_facts}
use Rattle.frame.proofs.Verdicts.{fine_both}
use Rattle.server_rules.specs.declared.Server.{Server}
use Rattle.server_rules.specs.Tests as ST
use Rattle.server_rules.specs.WellFormed.{Bounds, Within}
use Rattle.server_rules.specs.Steps as S
use Rattle.server_rules.specs.Delivery as SD
use Rattle.server_rules.proofs.Shapes.{Delivery, refused, taken, shape_delivered}
use Rattle.server_rules.proofs.Passing.{SizedIn}
use Rattle.server_rules.proofs.Within.{Grants, step_within}

-- ---- opening

pub entry_in_lem : (g : Params) (f : List ℕ) (i : ℕ) → i + (listed g + width g) ≤ length f → Sized g (entry_in g f i)
entry_in_lem g f i h = record {
  list_is = length-take-le (listed g) (drop i f) (rw length-drop (omega arith));
  block_is_lem = length-take-le (width g) (drop (i + listed g) f) (rw length-drop (omega arith));
}

pub long : (g : Params) (f : List ℕ) (k k' w : ℕ) → length f ≡ 9 + body_length g k → body_length g k' ≡ w → eqb k k' ≡ true → 9 + w ≤ length f
long g f k k' w l e q = let p : body_length g k ≡ body_length g k' = ap (body_length g) (eqb-true k k' q) in omega (arith, p)

pub body_sized : (g : Params) (f : List ℕ) (k : ℕ) → length f ≡ 9 + body_length g k → SizedIn g (body_in g k f)
unfolding body_in body_length length_of pick
body_sized g f k l =
    by_pick (SizedIn g) (eqb k 1) _ _ (λ q. tt)
    (λ u. by_pick (SizedIn g) (eqb k 2) _ _ (λ q. tt)
    (λ u. by_pick (SizedIn g) (eqb k 3) _ _ (λ q. offered 3 refl q)
    (λ u. by_pick (SizedIn g) (eqb k 4) _ _ (λ q. offered 4 refl q)
    (λ u. by_pick (SizedIn g) (eqb k 5) _ _ (λ q. offered 5 refl q)
    (λ u. by_pick (SizedIn g) (eqb k 9) _ _ (λ q. tt)
    (λ u. by_pick (SizedIn g) (eqb k 10) _ _ (λ q. tt)
    (λ u. by_pick (SizedIn g) (eqb k 11) _ _ (λ q. entry_in_lem g f value_at (let h = long g f k 11 (13 + (listed g + width g)) l refl q in omega (arith, h)))
    (λ u. by_pick (SizedIn g) (eqb k 12) _ _ (λ q. tt)
    (λ u. tt)))))))))
  where
    offered : (k' : ℕ) → body_length g k' ≡ 8 + (listed g + width g) → eqb k k' ≡ true → Sized g (entry_in g f offer_at)
    offered k' e q = entry_in_lem g f offer_at (let h = long g f k k' (8 + (listed g + width g)) l e q in omega (arith, h))

pub message_sized : (g : Params) (f : List ℕ) (h : Header) → opened g f ≡ Ok h → SizedIn g (message_in g h f).body
unfolding message_in
message_sized g f h p = body_sized g f h.kind (opens_facts g f h p).length_is

-- ---- a frame that a server takes

pub record Taken (H : List ℕ → List ℕ) (g : Params) (me : ℕ) (s : Server) (from : Party) (f : List ℕ) (m : Message) : Type 0 where
  pub header : Header
  pub opens : opened g f ≡ Ok header
  pub says : message_in g header f ≡ m
  pub client : Among 8 m.client
  pub sized : SizedIn g m.body
  pub passes : ST.message_test H g me s from m ≡ fine

module _ (H : List ℕ → List ℕ) (g : Params) (me : ℕ) where
  took_by : (o : Opened) (room : Verdict) (s : Server) (from : Party) (f : List ℕ) (m : Message) → opened g f ≡ o
      → ST.judge_opened H g me o room s from f ≡ good m → Taken H g me s from f m
  unfolding message_in ST.judge_opened
  took_by (Err r) room s from f m p q = impossible (cc)
  took_by (Ok h) room s from f m p q = go (and_then room (ST.message_test H g me s from (message_in g h f))) refl q
    where
      go : (v : Verdict) → and_then room (ST.message_test H g me s from (message_in g h f)) ≡ v → judged_by v (message_in g h f) ≡ good m → Taken H g me s from f m
      go (Err r) e u = impossible (cc)
      go (Ok _) e u =
          let is : message_in g h f ≡ m = cc in
          let w = opens_facts g f h p in
          record {
            header = h;
            opens = p;
            says = is;
            client = subst (λ x. Among 8 x.client) is (w.client_low, w.client_high);
            sized = subst (λ x. SizedIn g x.body) is (body_sized g f h.kind w.length_is);
            passes = subst (λ x. ST.message_test H g me s from x ≡ fine) is (fine_both room _ e).1;
          }

  pub took : (s : Server) (a initial : List ℕ) (from : Party) (f out to : List ℕ) (m : Message) → ST.judge H g me s a initial from f out to ≡ good m
      → Taken H g me s from f m
  unfolding ST.judge ST.judge_opened
  took s a initial from f out to m e = go (params_test g me g.n) e
    where
      go : (v : Verdict) → after v (ST.judge_opened H g me (opened g f) (ST.room_test g (length a) (length initial) (length out)
          (length to)) s from f) ≡ good m → Taken H g me s from f m
      go (Ok _) e = took_by (opened g f) _ s from f m refl e
      go (Err r) e = impossible (cc)

  -- a delivery keeps a server within its bounds, if they grant what a taken message asks
  pub delivered_within : (B : Bounds) (s : Server) (a initial : List ℕ) (from : Party) (f out to : List ℕ) → Within B s
      → ((m : Message) → Taken H g me s from f m → Grants B H g me s a initial (number_in from) m.client m.sequence m.body)
      → Within B (SD.delivered H g me s a initial from f out to).server
  delivered_within B s a initial from f out to W G = go (ST.judge H g me s a initial from f out to) refl (shape_delivered H g me s a initial from f out to)
    where
      go : (j : Judged) → ST.judge H g me s a initial from f out to ≡ j → {r : S.Effect} → Delivery H g me s a initial from j r → Within B r.server
      go j q (refused x e) = W
      go j q (taken m e x) =
          let T = took s a initial from f out to m (q ∙ e) in
          step_within B H g me s a initial (number_in from) m.client m.sequence W T.client.1 x (G m T)
