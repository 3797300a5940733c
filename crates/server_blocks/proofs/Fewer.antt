-- The echoes and readies that have a time and a list are at most those that were counted: where nothing depends on these, nothing depends on them. Assumes
-- nothing.
use Prim.Native.Nat.{ℕ, ◌+◌, ◌*◌, ◌-◌, ◌≤◌}
use native.Mathlib.Omega.{arith}
use mathlib.Core.Path.{◌≡◌, refl, ap, ap₂, sym, ◌∙◌}
use mathlib.Core.Bool.{Bool, true, false, not, ◌&&◌, ◌||◌}
use mathlib.Core.List.{List}
use lib.ListN.{length, get_or}
use lib.Dec.{leb}
use borrow.Author.Tests.{leb-false, lt-leb}
use Rattle.area.proofs.Tests.{and_left}
use Rattle.quorum.specs.Quorum.{count}
use Rattle.quorum.proofs.Counting.{count_mono}
use Rattle.quorum.proofs.Logic.{or_false, and_false}
use Rattle.blocks.specs.declared.Params.{Params}
use Rattle.frame.specs.Params.{Bounded, quota}
use Rattle.frame.specs.Messages.{entry, offer}
use Rattle.frame.specs.Outbox.{Outbox}
use Rattle.frame.specs.Chunks.{echoes_from, readies_from}
use Rattle.group.specs.Entries.{marked, timed, sent_list, flags, places_from}
use Rattle.group.proofs.Matched.{marked_timed, count_flags, sent_flagged}
use Rattle.server_rules.specs.declared.Slot.{Slot}
use Rattle.server_rules.specs.Steps.{voted_block}
use Rattle.server.specs.declared.Call.{Call}
use Rattle.server.specs.Stages.{left, counts}
use Rattle.server_blocks.specs.Group.{Stored}
use Rattle.server_blocks.specs.Votes.{enough_by, matters_by, voters_of}
use Rattle.server_blocks.proofs.Voting.{skipped}

-- ---- fewer have the time and the list than are flagged

timed_flagged : (g : Params) (on : List Bool) (ts : List ℕ) (T : ℕ) (at a d : List ℕ) (j : ℕ) → j ≤ 10 → sent_list g (timed on ts T) at a d j ≡ true
    → marked on j ≡ true
unfolding marked
timed_flagged g on ts T at a d j h e =
    and_left (get_or on j false) _ (sym (marked_timed on ts T j h) ∙ sent_flagged g (timed on ts T) at a d j e)

in_group_le : (g : Params) (on : List Bool) (ts : List ℕ) (T : ℕ) (at a d : List ℕ) → Bounded g
    → count (marked (flags (sent_list g (timed on ts T) at a d) g.n)) g.n ≤ count (marked on) g.n
in_group_le g on ts T at a d B =
    let e = count_flags (sent_list g (timed on ts T) at a d) g.n B.servers_high in
    let l =
    count_mono (sent_list g (timed on ts T) at a d) (marked on) g.n
    (λ j h. timed_flagged g on ts T at a d j (omega (arith, h.1, B.servers_high))) in
    omega (arith, e, l)

-- ---- fewer echoes and readies: nothing more depends on them

leb_fewer : (a m n : ℕ) → m ≤ n → leb a n ≡ false → leb a m ≡ false
leb_fewer a m n h e = let l = leb-false a n e in lt-leb a m (omega (arith, h, l))

or_fewer : (a b k l : Bool) → (k ≡ false → a ≡ false) → (l ≡ false → b ≡ false) → k || l ≡ false → a || b ≡ false
or_fewer a b k l f h e = let s = or_false k l e in ap₂ (λ (u v : Bool). u || v) (f s.0) (h s.1)

and_fewer : (a b l : Bool) → (l ≡ false → b ≡ false) → a && l ≡ false → a && b ≡ false
and_fewer true b l h e = h e
and_fewer false b l h e = refl

fewer_and : (a k b : Bool) → (k ≡ false → a ≡ false) → k && b ≡ false → a && b ≡ false
fewer_and a true b f e = and_false a b e
fewer_and a false b f e = ap (λ (u : Bool). u && b) (f refl)

enough_fewer : (g : Params) (e r E R : ℕ) → e ≤ E → r ≤ R → enough_by g E R ≡ false → enough_by g e r ≡ false
unfolding enough_by
enough_fewer g e r E R h k =
    let l : e + g.t ≤ E + g.t = omega (arith, h) in
    or_fewer (leb g.n (e + g.t)) (leb (quota g) r) (leb g.n (E + g.t)) (leb (quota g) R)
    (leb_fewer g.n (e + g.t) (E + g.t) l) (leb_fewer (quota g) r R k)

matters_fewer : (g : Params) (went complete : Bool) (e r E R : ℕ) → e ≤ E → r ≤ R → matters_by g went complete E R ≡ false
    → matters_by g went complete e r ≡ false
unfolding matters_by
matters_fewer g went complete e r E R h k =
    or_fewer (not went && enough_by g e r) (leb (quota g + g.t) r && not complete) (not went && enough_by g E R) (leb (quota g + g.t) R && not complete)
    (and_fewer (not went) (enough_by g e r) (enough_by g E R) (enough_fewer g e r E R h k))
    (fewer_and (leb (quota g + g.t) r) (leb (quota g + g.t) R) (not complete) (leb_fewer (quota g + g.t) r R k))

-- no list is compared: nothing depends on the e echoes and r readies that were counted
pub unlisted : (H : List ℕ → List ℕ) (k : Call) (a d b : List ℕ) → Stored k.params k.header.client (length a) → (T : ℕ) (x : Slot)
    → x.sequence ≡ k.header.sequence → (q : Outbox) (e r : ℕ)
    → e ≡ count (marked x.blocks.echoes) k.params.n
    → r ≡ count (marked x.blocks.readies) k.params.n
    → matters_by k.params x.blocks.ready x.blocks.complete e r ≡ false
    → left x a q ≡ counts (voted_block H k.params k.me a k.header.client x (offer T (entry d b))) q
unfolding voters_of
unlisted H k a d b S T x o q e r u w h =
    let g = k.params in
    let B = S.bounded in
    let c = k.header.client in
    let v = voters_of g a c x.blocks T d in
    let i : v.echoed ≤ e = rw u (in_group_le g x.blocks.echoes x.blocks.echoed T (places_from (echoes_from c)) a d B) in
    let j : v.readied ≤ r = rw w (in_group_le g x.blocks.readies x.blocks.readied T (places_from (readies_from c)) a d B) in
    skipped H k a d b S T x o q v refl (matters_fewer g x.blocks.ready x.blocks.complete v.echoed v.readied e r i j h)
