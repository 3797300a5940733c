-- What is enough, so that nobody waits for a false server (request F-6): n - t stamps or acks, and n - t rows. Assumes nothing.
use Rattle.frame.specs.Refusals.{fine}
use Prim.Native.Nat.{ℕ, ◌+◌, ◌≤◌, ◌<◌}
use mathlib.Core.Bool.{Bool, true, false}
use mathlib.Core.Path.{◌≡◌, refl}
use mathlib.Core.List.{List}
use lib.ListN.{get_or}
use lib.Dec.{leb}
use borrow.Author.Tests.{le-leb, lt-ltb}
use Rattle.quorum.specs.Quorum.{count, Among}
use Rattle.area.specs.Area.{pick}
use Rattle.quorum.proofs.Logic.{and_true}
use Rattle.blocks.specs.declared.Params.{Params}
use Rattle.frame.specs.declared.Party.TheVariants as P
use Rattle.frame.specs.Messages.{report, message}
use Rattle.group_rules.specs.Coded.{has_list}
use Rattle.group_rules.specs.Vouching.{backed}
use Rattle.client_rules.specs.declared.Client.{Client}
use Rattle.client_rules.specs.State.{heard_of, reply_of, report_of}
use Rattle.client_rules.specs.Rows.{Kept, at_stamp, agreed}
use Rattle.client_rules.specs.Steps as C
use Rattle.client_rules.specs.Tests as CT

pub quorate_of : (g : Params) (h : List Bool) → g.n ≤ count (λ j. get_or h j false) g.n + g.t → C.quorate g h ≡ true
unfolding C.quorate
quorate_of g h l = le-leb _ _ l

pub agreed_of : (g : Params) (f : ℕ → List Kept) (k : Kept)
    → g.n ≤ count (λ j. has_list (at_stamp (f j) k.stamp) k.entry.digests) g.n + g.t → agreed g f k ≡ true
unfolding agreed
agreed_of g f k l = le-leb _ _ l

-- n - t first stamps that t + 1 servers reported
pub gathered_of : (g : Params) (s : Client) → g.n ≤ count (C.counted g s) g.n + g.t → C.gathered g s ≡ true
unfolding C.gathered
gathered_of g s l = le-leb _ _ l

pub counted_of : (g : Params) (s : Client) (j : ℕ) → heard_of s j ≡ true → backed g (report_of s) (reply_of s j) ≡ true → C.counted g s j ≡ true
unfolding C.counted
counted_of g s j h b = and_true (heard_of s j) _ h b

pub backed_of : (g : Params) (rs : ℕ → ℕ) (T : ℕ) → g.t + 1 ≤ count (λ j. leb T (rs j)) g.n → backed g rs T ≡ true
unfolding backed
backed_of g rs T l = le-leb _ _ l

-- a report is taken from any server 1 to n whose report is higher, whatever client it names and whatever the client does
pub report_taken : (H : List ℕ → List ℕ) (g : Params) (me : ℕ) (s : Client) (j c q T : ℕ) → Among g.n j → report_of s j < T
    → CT.message_test H g me s (P.Server j) (message c q (report T)) ≡ fine
unfolding CT.message_test CT.answers CT.owner_right CT.order_test CT.awaited pick
report_taken H g me s j c q T is l = rw (le-leb 1 j is.0, le-leb j g.n is.1, lt-ltb (report_of s j) T l) refl
