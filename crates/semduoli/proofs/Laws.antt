-- The outcome of each exported call, from the promises of the functions that its code calls. Assumes nothing.
use Rattle.frame.specs.Refusals.{Verdict}
use Prim.Native.Nat.{ℕ, ◌<◌, ◌≤◌}
use mathlib.Core.Path.{◌≡◌, refl, sym, ap, ap₂, subst, ◌∙◌}
use mathlib.Core.Bool.{Bool, true, false}
use mathlib.Core.List.{List}
use lib.ListN.{length, replicate, take}
use lib.Seq.{sets, length-sets}
use lib.Dec.{ltb}
use native.Mathlib.Omega.{arith}
use borrow.Author.Tests.{ltb-false, lt-ltb, le-ltb}
use Rattle.area.specs.Area.{pick}
use Rattle.area.specs.Responses.{Response, is_turned_down}
use Rattle.area.proofs.Tests.{by_pick}
use Rattle.blocks.specs.declared.Params.{Params}
use Rattle.blocks.specs.Calls.{Outcome, told as coded}
use Rattle.sha256.specs.Hash.{digest_of}
use Rattle.frame.specs.Stamps.{last_client}
use Rattle.client_rules.specs.Answers.{Progress}
use Rattle.client_rules.specs.declared.Client.{Client}
use Rattle.client_rules.specs.State.{fresh_client}
use Rattle.client_rules.specs.Beginning.{Begun, read_beginning, write_beginning}
use Rattle.history_text.specs.Lines.{Lines, Records, Malformed, lines_of, answer_of, answer_to}
use Rattle.order.specs.declared.operation.Operation.{Operation}
use Rattle.order.specs.Histories.{any, malformed, unlisted, offended, later, earlier, row_of, line_numbers, blank, Judgement, refused}
use Rattle.order.specs.Histories.{offending, ordered, judged}
use Rattle.history_sheet.specs.Laying.{SheetResult, outcome as laidOutcome, laying}
use Rattle.layout.specs.Clients.{client_size, client_bytes, client_at, client_in}
use Rattle.blocks.specs.Answers.{code_answer}
use Rattle.site.specs.Answers.{test_answer, client_answer}
use Rattle.order.specs.Answers.{line_count, history_answer}
use Rattle.history_sheet.specs.Answers.{sheet_answer}
use Rattle.site.specs.Short.{read_short, value_short}
use Rattle.layout.specs.Left.{left_by}
use Rattle.layout.proofs.Left.{left_old, left_new}
use Rattle.semduoli.specs.Calls.{wrote, digest_call, code_call, judged_call, history_call, fresh_call, began, state_after, began_of, read_call, write_call}
use Rattle.semduoli.specs.Sheets.{sheet_wrote, sheet_call}

-- an area of n bytes, of which m are needed, is long enough, or short
module _ {A : Type 0} (n m : ℕ) (x y : A) where
  pub enough : m ≤ n → y ≡ pick (ltb n m) x y
  unfolding pick
  enough h = sym (ap (λ b. pick b x y) (le-ltb n m h))

  pub short : n < m → x ≡ pick (ltb n m) x y
  unfolding pick
  short h = sym (ap (λ b. pick b x y) (lt-ltb n m h))

-- a call has one of two outcomes; if each leaves l, the call does
pub ends : {C : Type 0} (f : C → List ℕ) (b : Bool) (x y : C) (l : List ℕ) → f x ≡ l → f y ≡ l → f (pick b x y) ≡ l
unfolding pick
ends f true x y l p q = p
ends f false x y l p q = q

-- ---- digests and the block code

pub digest_done : (m out o d : List ℕ) → length m ≤ 256 → 32 ≤ length out → d ≡ digest_of m → o ≡ sets out 0 d → wrote 0 o ≡ digest_call m out
unfolding digest_call
digest_done m out o d h k e p =
    ap (wrote 0) (p ∙ ap (sets out 0) e)
    ∙ enough (length out) 32 (wrote 10 out) (wrote 0 (sets out 0 (digest_of m))) k
    ∙ enough 256 (length m) (wrote 3 out) (pick (ltb (length out) 32) (wrote 10 out) (wrote 0 (sets out 0 (digest_of m)))) h

pub code_done : (a : Response (Unit {0})) (o : List ℕ) (x : ℕ) (y : Outcome) → coded a o ≡ y → x ≡ code_answer a → wrote x o ≡ code_call y
unfolding code_call
code_done a o x y e p = ap (λ z. wrote z o) p ∙ ap code_call e

-- ---- histories

-- an answer has room for 64 line numbers
abbrev Whole : Judgement → Type 0
Whole v = length v.lines ≡ 64

whole_refused : (x : ℕ) → Whole (refused x)
unfolding refused blank
whole_refused x = refl

whole_offending : (a b : ℕ) → Whole (offending a b)
unfolding offending blank
whole_offending a b = refl

whole_ordered : (ops : List Operation) → Whole (ordered ops)
unfolding ordered blank
whole_ordered ops = length-sets (replicate 64 0) 0 (line_numbers (row_of ops))

whole_judged : (ops : List Operation) → Whole (judged ops)
unfolding judged
whole_judged ops =
    by_pick Whole (ltb 64 (length ops)) (refused 18) _ (λ h. whole_refused 18)
    (λ h. by_pick Whole (any (malformed ops) ops) (refused 18) _ (λ h. whole_refused 18)
    (λ h. by_pick Whole (any (unlisted ops) ops) (refused 19) _ (λ h. whole_refused 19)
    (λ h. by_pick Whole (any (offended ops) ops) (offending (earlier ops) (later ops)) (ordered ops) (λ h. whole_offending (earlier ops) (later ops))
    (λ h. whole_ordered ops))))

whole_lines : (l : Lines) → Whole (answer_of l)
unfolding answer_of
whole_lines (Records ops) = whole_judged ops
whole_lines Malformed = whole_refused 18

pub whole_answer : (text : List ℕ) (v : Judgement) → v ≡ answer_to text → length v.lines ≡ 64
unfolding answer_to
whole_answer text v e = ap (λ w. length w.lines) e ∙ whole_lines (lines_of text)

-- an answer gives at most 64 line numbers
abbrev Few : Judgement → Type 0
Few v = line_count v.answer ≤ 64

few_refused : (x : ℕ) → Few (refused x)
unfolding refused line_count
few_refused x = omega arith

few_offending : (a b : ℕ) → Few (offending a b)
unfolding offending line_count
few_offending a b = omega arith

few_ordered : (ops : List Operation) → length ops ≤ 64 → Few (ordered ops)
unfolding ordered line_count
few_ordered ops h = h

few_judged : (ops : List Operation) → Few (judged ops)
unfolding judged
few_judged ops =
    by_pick Few (ltb 64 (length ops)) (refused 18) _ (λ h. few_refused 18)
    (λ h. by_pick Few (any (malformed ops) ops) (refused 18) _ (λ i. few_refused 18)
    (λ i. by_pick Few (any (unlisted ops) ops) (refused 19) _ (λ i. few_refused 19)
    (λ i. by_pick Few (any (offended ops) ops) (offending (earlier ops) (later ops)) (ordered ops) (λ i. few_offending (earlier ops) (later ops))
    (λ i. few_ordered ops (ltb-false 64 (length ops) h)))))

few_lines : (l : Lines) → Few (answer_of l)
unfolding answer_of
few_lines (Records ops) = few_judged ops
few_lines Malformed = few_refused 18

pub few_answer : (text : List ℕ) (v : Judgement) (n : ℕ) → v ≡ answer_to text → n ≡ line_count v.answer → n ≤ 64
unfolding answer_to
few_answer text v n e q = subst (λ k. k ≤ 64) (sym (q ∙ ap (λ w. line_count w.answer) e)) (few_lines (lines_of text))

pub judged_done : (text lines : List ℕ) (v : Judgement) → v ≡ answer_to text → 64 ≤ length lines → (x : ℕ)
    → x ≡ history_answer v.answer → (n : ℕ) → n ≡ line_count v.answer → (o : List ℕ) → o ≡ sets lines 0 (take n v.lines)
    → wrote x o ≡ history_call text lines
unfolding history_call judged_call
judged_done text lines v e h x p n q o r =
    ap₂ wrote p (r ∙ ap (λ k. sets lines 0 (take k v.lines)) q)
    ∙ ap (λ w. judged_call w lines) e
    ∙ enough (length lines) 64 (wrote 10 lines) (judged_call (answer_to text) lines) h

-- ---- sheets

pub sheet_done : (text out o : List ℕ) (a : Response SheetResult) (x : ℕ) → laidOutcome a o ≡ laying text out → x ≡ sheet_answer a
    → wrote x o ≡ sheet_call text out
unfolding sheet_call sheet_wrote
sheet_done text out o a x e p = ap (λ z. wrote z o) p ∙ ap sheet_wrote e

-- ---- a client

pub fresh_done : (state o : List ℕ) (s : Client) → client_size ≤ length state → s ≡ fresh_client → o ≡ sets state 0 (client_bytes s) → wrote 0 o ≡ fresh_call state
unfolding fresh_call
fresh_done state o s h e p =
    ap (wrote 0) (p ∙ ap (λ z. sets state 0 (client_bytes z)) e)
    ∙ enough (length state) client_size (wrote 10 state) (wrote 0 (sets state 0 (client_bytes fresh_client))) h

-- the record is left as it was, or written
module _ {A : Type 0} (a : Response A) (old new : List ℕ) (x y : ℕ) (b : Bool) (p : b ≡ is_turned_down a) (e : x ≡ y) where
  pub keep_old : b ≡ true → wrote x old ≡ wrote y (left_by a old new)
  keep_old q = ap₂ wrote e (left_old a old new b p q)

  pub keep_new : b ≡ false → (o : List ℕ) → o ≡ new → wrote x o ≡ wrote y (left_by a old new)
  keep_new q o r = ap₂ wrote e (left_new a old new b p q o r)

module _ (g : Params) (me : ℕ) (state out to : List ℕ) where
  module _ (x : ℕ) (t : Verdict) (h : length state < client_size) (e : x ≡ test_answer t) where
    pub read_short_lem : t ≡ read_short g me → began x state out to ≡ read_call g me state out to
    unfolding read_call
    read_short_lem p =
        ap (λ z. began z state out to) (e ∙ ap test_answer p)
        ∙ short (length state) client_size (began (test_answer (read_short g me)) state out to) (began_of g (read_beginning g me (client_in state) out to) state) h

    pub write_short : (v : List ℕ) → t ≡ value_short g me last_client (length v) → began x state out to ≡ write_call g me v state out to
    unfolding write_call
    write_short v p =
        ap (λ z. began z state out to) (e ∙ ap test_answer p)
        ∙ short (length state) client_size (began (test_answer (value_short g me last_client (length v))) state out to)
        (began_of g (write_beginning g me (client_in state) v out to) state) h

  module _ (s r : Client) (a : Response Progress) (x : ℕ) (st o u : List ℕ) (h : client_size ≤ length state) (p : s ≡ client_at state 0)
      (k : wrote x st ≡ wrote (client_answer g.n a) (state_after a r state)) where
    -- an operation begins: the call's outcome is what f gives for the client that the bytes say
    begun_done : (f : Client → Begun) → ◌≡◌ {A = Begun} (record { answer = a; client = r; out = o; to = u }) (f s)
        → began x st o u ≡ began_of g (f (client_in state)) state
    unfolding began_of client_in
    begun_done f e = ap (λ w. began w.answer w.out o u) k ∙ ap (λ w. began_of g w state) (e ∙ ap f p)

    pub read_done : ◌≡◌ {A = Begun} (record { answer = a; client = r; out = o; to = u }) (read_beginning g me s out to)
        → began x st o u ≡ read_call g me state out to
    unfolding read_call
    read_done e =
        begun_done (λ z. read_beginning g me z out to) e
        ∙ enough (length state) client_size (began (test_answer (read_short g me)) state out to) (began_of g (read_beginning g me (client_in state) out to) state) h

    pub write_done : (v : List ℕ) → ◌≡◌ {A = Begun} (record { answer = a; client = r; out = o; to = u }) (write_beginning g me s v out to)
        → began x st o u ≡ write_call g me v state out to
    unfolding write_call
    write_done v e =
        begun_done (λ z. write_beginning g me z v out to) e
        ∙ enough (length state) client_size (began (test_answer (value_short g me last_client (length v))) state out to)
        (began_of g (write_beginning g me (client_in state) v out to) state) h
