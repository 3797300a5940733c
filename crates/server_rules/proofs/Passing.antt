-- What a frame that passes the tests says. Assumes nothing.
use Rattle.frame.specs.Refusals.{fine}
use Rattle.std.specs.Prelude.{Err}
use Prim.Native.Nat.{ℕ, ◌≤◌, ◌<◌}
use native.Mathlib.Omega.{arith}
use mathlib.Core.Bool.{Bool, true, false}
use mathlib.Core.Path.{◌≡◌, refl, ap}
use mathlib.Core.List.{List}
use lib.Dec.{leb, ltb}
use borrow.Author.Tests.{ltb-true, ltb-false, leb-true, eqb-true}
use Rattle.quorum.specs.Quorum.{Among}
use Rattle.quorum.proofs.Logic.{impossible, and_split}
use Rattle.area.specs.Area.{pick}
use Rattle.blocks.specs.declared.Params.{Params}
use Rattle.frame.specs.declared.Party.{Party}
use Rattle.frame.specs.declared.Party.TheVariants as P
use Rattle.frame.specs.declared.Refusal.TheVariants as R
use Rattle.frame.specs.Messages.{Offer, Stage, send, echo, ready, Body, get_stamp, ack, ask_read, read_complete, stamp_is, block_is, value_is, report, Message}
use Rattle.frame.specs.Messages.{from_server, number_in, Sized}
use Rattle.frame.proofs.Verdicts.{fine_both, fine_is}
use Rattle.server_rules.specs.declared.Slot.{Slot}
use Rattle.server_rules.specs.declared.Server.{Server}
use Rattle.server_rules.specs.State.{slot_of, report_of}
use Rattle.server_rules.specs.Steps as S
use Rattle.server_rules.specs.Tests as ST
use Rattle.server_rules.proofs.Shapes.{Counted, block}

-- an entry in a body has the right sizes
abbrev pub SizedIn : Params → Body → Type 0
SizedIn g get_stamp = Unit {0}
SizedIn g ack = Unit {0}
SizedIn g ask_read = Unit {0}
SizedIn g read_complete = Unit {0}
SizedIn g (stamp_is T) = Unit {0}
SizedIn g (block_is z o) = Sized g o.entry
SizedIn g (value_is x e) = Sized g e
SizedIn g (report T) = Unit {0}

pub open_passed : (x : Slot) (q : ℕ) (again : Bool) → ST.open_test x q again ≡ fine → (q ≡ x.sequence) × (again ≡ false)
unfolding ST.open_test pick
open_passed x q again e = go (ltb q x.sequence) (ltb x.sequence q) again refl refl refl e
  where
    go : (a b d : Bool) → ltb q x.sequence ≡ a → ltb x.sequence q ≡ b → again ≡ d
        → pick a (Err R.Stale) (pick b (Err R.Ahead) (pick d (Err R.Stale) fine)) ≡ fine → (q ≡ x.sequence) × (again ≡ false)
    go true b d p r z e = impossible (cc)
    go false true d p r z e = impossible (cc)
    go false false true p r z e = impossible (cc)
    go false false false p r z e = (omega (arith, ltb-false q x.sequence p, ltb-false x.sequence q r), z)

pub is_owner : (from : Party) (c : ℕ) → ST.from_owner from c ≡ true → from ≡ P.Client c
is_owner (P.Client d) c e = ap P.Client (eqb-true d c e)
is_owner (P.Server j) c e = impossible (cc)

pub is_server : (g : Params) (from : Party) → from_server g from ≡ true → (j : ℕ) × (from ≡ P.Server j) × Among g.n j
is_server g (P.Client d) e = impossible (cc)
is_server g (P.Server j) e =
    let w = and_split (leb 1 j) (leb j g.n) e in
    (j, refl, (leb-true 1 j w.0, leb-true j g.n w.1))

pub test_split : (H : List ℕ → List ℕ) (g : Params) (me : ℕ) (s : Server) (from : Party) (m : Message) → ST.message_test H g me s from m ≡ fine
    → (ST.sender_right g from m.client m.body ≡ true) × (ST.order_test H g me s (number_in from) m.client m.sequence m.body ≡ fine)
unfolding ST.message_test
test_split H g me s from m e = fine_is (ST.sender_right g from m.client m.body) R.Sender _ e

-- ---- a frame of a write

-- the first one is its client's, an echo or a ready a server's
abbrev pub SenderIs : Params → Party → ℕ → Stage → Type 0
SenderIs g from c send = from ≡ P.Client c
SenderIs g from c echo = (from ≡ P.Server (number_in from)) × Among g.n (number_in from)
SenderIs g from c ready = (from ≡ P.Server (number_in from)) × Among g.n (number_in from)

module _ (g : Params) (from : Party) (c : ℕ) where
  by_number : from_server g from ≡ true → (from ≡ P.Server (number_in from)) × Among g.n (number_in from)
  by_number e = let (j, f, i) = is_server g from e in rw f (refl, i)

  pub block_sender : (z : Stage) (o : Offer) → ST.sender_right g from c (block_is z o) ≡ true → SenderIs g from c z
  unfolding ST.sender_right
  block_sender send o h = is_owner from c h
  block_sender echo o h = by_number h
  block_sender ready o h = by_number h

  sender_number : Among 8 c → g.n ≤ 10 → (z : Stage) → SenderIs g from c z → Among 10 (number_in from)
  sender_number is few send e = let n : number_in from ≡ c = ap number_in e in omega arith
  sender_number is few echo e = omega arith
  sender_number is few ready e = omega arith

  -- its sender has a number from 1 to 10
  pub counted_from : Among 8 c → g.n ≤ 10 → {H : List ℕ → List ℕ} {me : ℕ} {s : Server} {a initial : List ℕ} {b : Body} {p : S.Counting}
      → Counted H g me s a initial (number_in from) c b p → ST.sender_right g from c b ≡ true → Among 10 (number_in from)
  counted_from is few (block z o) h = sender_number is few z (block_sender z o h)

-- its write is the open one
pub counted_open : {H : List ℕ → List ℕ} {g : Params} {me : ℕ} {s : Server} {a initial : List ℕ} {j c : ℕ} {b : Body} {p : S.Counting}
    → Counted H g me s a initial j c b p
    → (q : ℕ) → ST.order_test H g me s j c q b ≡ fine → q ≡ (slot_of s c).sequence
unfolding ST.order_test
counted_open (block z x) q o = (open_passed _ q _ (fine_both _ _ o).0).0

-- ---- a report

-- it is a server's, and higher than what that server reported before
pub report_passed : (H : List ℕ → List ℕ) (g : Params) (me : ℕ) (s : Server) (from : Party) (c q T : ℕ) → ST.sender_right g from c (report T) ≡ true
    → ST.order_test H g me s (number_in from) c q (report T) ≡ fine
    → (from ≡ P.Server (number_in from)) × Among g.n (number_in from) × (report_of s (number_in from) < T)
unfolding ST.sender_right ST.order_test ST.report_test
report_passed H g me s from c q T h o =
    let (e, i) = by_number g from c h in
    (e, i, ltb-true (report_of s (number_in from)) T (fine_is (ltb (report_of s (number_in from)) T) R.Stale _ o).0)
