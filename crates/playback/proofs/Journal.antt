-- A playback leaves the bytes that deliveries leave; a journal without the frames that were turned down gives the same bytes. Assumes nothing.
use Prim.Native.Nat.{ℕ, ◌≤◌}
use native.Mathlib.Omega.{arith}
use mathlib.Core.Path.{◌≡◌, refl, sym, ap, ap₂, subst, ◌∙◌}
use mathlib.Core.Bool.{Bool, true, false}
use mathlib.Core.List.{List, [], ◌∷◌, ◌++◌}
use lib.ListN.{length}
use lib.Seq.{sets}
use Rattle.area.specs.Area.{pick, Bytes}
use Rattle.area.specs.Responses.{Response, gives, is_turned_down}
use Rattle.sha256.specs.Hash.{digest_of}
use Rattle.blocks.specs.declared.Params.{Params}
use Rattle.layout.specs.Left.{left_by}
use Rattle.layout.specs.Servers.{server_size, server_bytes, server_in}
use Rattle.server_rules.specs.declared.Server.{Server}
use Rattle.server_rules.specs.Delivery as SD
use Rattle.server_deliver.specs.Records.{ByteOutcome, byte_delivery, byte_construction}
use Rattle.server_deliver.proofs.RecordBack.{record_length, record_bytes, made_length, made_bytes, kept_all}
use Rattle.entries.specs.Entries.{TraceEntry, trace_of}
use Rattle.entries.proofs.Theorem.{AllFrames, frames_of}
use Rattle.playback.specs.Playback.{Summed, Outcome, playback}
use Rattle.playback.specs.Records.{BytesPlayed, played_after, played_at, byte_playback}
use Rattle.playback.specs.Resume.{Areas, areas, areas_of, handed_to, resumed}
use Rattle.playback.specs.Theorem.{Handed, AllEnough, entries_of, Taken, taken, taken_from, step_of}
use Rattle.playback.specs.Journal.{Kept, deliveries, steps_alone, JournalTheorem}
use Rattle.playback.proofs.ByteSteps.{step_outcome, step_stored, fresh_outcome, fresh_stored}
use Rattle.playback.proofs.Outcomes.{whole_played}
use Rattle.playback.proofs.Theorem.{fine_of, theorem}
use Rattle.playback.proofs.Turns.{constructs}

-- ---- a journal

module _ (g : Params) (me : ℕ) (initial : List ℕ) where
  goes_on : (l : Areas) (es fs : List TraceEntry)
      → resumed digest_of g me initial l (es ++ fs) ≡ resumed digest_of g me initial (resumed digest_of g me initial l es) fs
  unfolding resumed
  goes_on l [] fs = refl
  goes_on l (e ∷ es) fs = goes_on (areas_of (handed_to digest_of g me initial l e)) es fs

  -- a frame that is turned down leaves the areas as they were
  stays : (l : Areas) (e : TraceEntry) → is_turned_down (handed_to digest_of g me initial l e).reply ≡ true → areas_of (handed_to digest_of g me initial l e) ≡ l
  unfolding handed_to
  stays l e d = ap areas_of (kept_all g me e.sender e.frame l.area initial l.state l.out l.to d)

  suffices_by : (l : Areas) (e : TraceEntry) (es : List TraceEntry) (b : Bool) → is_turned_down (handed_to digest_of g me initial l e).reply ≡ b
      → let m = areas_of (handed_to digest_of g me initial l e) in
      resumed digest_of g me initial m (steps_alone g me initial m es) ≡ resumed digest_of g me initial m es
      → resumed digest_of g me initial l (pick b (steps_alone g me initial m es) (e ∷ steps_alone g me initial m es)) ≡ resumed digest_of g me initial m es
  unfolding pick resumed
  suffices_by l e es true d h =
      ap (λ (z : Areas). resumed digest_of g me initial z (steps_alone g me initial (areas_of (handed_to digest_of g me initial l e)) es)) (sym (stays l e d)) ∙ h
  suffices_by l e es false d h = h

  steps_suffice : (l : Areas) (es : List TraceEntry)
      → resumed digest_of g me initial l (steps_alone g me initial l es) ≡ resumed digest_of g me initial l es
  unfolding resumed steps_alone
  steps_suffice l [] = refl
  steps_suffice l (e ∷ es) = suffices_by l e es _ refl (steps_suffice (areas_of (handed_to digest_of g me initial l e)) es)

-- ---- a playback

record Brings (g : Params) (me : ℕ) (initial l st area : List ℕ) (hs : List Handed) : Type 0 where
  state_is : (deliveries g me initial st area hs).state ≡ sets l 0 (server_bytes (taken digest_of g me initial (server_in st) area hs).server)
  area_is : (deliveries g me initial st area hs).area ≡ (taken digest_of g me initial (server_in st) area hs).area

module _ (g : Params) (me : ℕ) (initial l : List ℕ) where
  brings : (st area : List ℕ) (hs : List Handed) → server_size ≤ length st → Bytes st → st ≡ sets l 0 (server_bytes (server_in st)) → AllFrames (entries_of hs)
      → Brings g me initial l st area hs
  unfolding deliveries taken entries_of
  brings st area [] h p e b = record { state_is = e; area_is = refl }
  brings st area (x ∷ hs) h p e b =
      let o = byte_delivery digest_of g me x.entry.sender x.entry.frame area initial st x.out x.to in
      let D = step_outcome g me x.entry.sender x.entry.frame area initial st x.out x.to h p b.0
      o.reply o.area o.state o.out o.to refl in
      let k = step_stored g me x.entry.sender x.entry.frame area initial st x.out x.to h p b.0
      o.reply o.area o.state o.out o.to refl l e in
      let n = record_length g me x.entry.sender x.entry.frame area initial st x.out x.to h in
      let B = brings o.state o.area hs (omega (arith, h, n))
      (record_bytes g me x.entry.sender x.entry.frame area initial st x.out x.to h p b.0) k b.1 in
      record {
        state_is = B.state_is ∙ ap (λ (y : SD.Outcome). sets l 0 (server_bytes (taken digest_of g me initial y.server y.area hs).server)) D;
        area_is = B.area_is ∙ ap (λ (y : SD.Outcome). (taken digest_of g me initial y.server y.area hs).area) D;
      }

module _ (g : Params) (me : ℕ) (v trace area initial state out : List ℕ) (b : Bytes trace) (p : Bytes state) (long : server_size ≤ length state) (x : Summed)
    (e : (byte_playback digest_of g me v trace area initial state out).answer ≡ gives x) where
  abbrev whole : Outcome
  whole = playback digest_of g me v trace area initial out

  same : byte_playback digest_of g me v trace area initial state out ≡ played_at whole state
  same = sym (whole_played g me v trace area initial state out long)

  gave : whole.answer ≡ gives x
  unfolding played_at
  gave = sym (ap (λ (z : BytesPlayed). z.answer) same) ∙ e

  -- the record's bytes are those of the server after the last entry
  left : (byte_playback digest_of g me v trace area initial state out).state ≡ sets state 0 (server_bytes whole.server)
  unfolding played_at played_after left_by is_turned_down pick
  left = ap (λ (z : BytesPlayed). z.state) same ∙ ap (λ (a : Response Summed). played_after a whole.server state) gave

  left_area : (byte_playback digest_of g me v trace area initial state out).area ≡ whole.area
  unfolding played_at
  left_area = ap (λ (z : BytesPlayed). z.area) same

  module _ (hs : List Handed) (i : entries_of hs ≡ (trace_of trace).entries) (E : AllEnough g hs) where
    played : let m = byte_construction digest_of g me v area initial state in
        let k = deliveries g me m.initial m.state m.area hs in
        ((byte_playback digest_of g me v trace area initial state out).state ≡ k.state)
        × ((byte_playback digest_of g me v trace area initial state out).area ≡ k.area)
    unfolding taken_from
    played =
        let m = byte_construction digest_of g me v area initial state in
        let t = constructs digest_of g me v trace (length area) (length initial) (length out) (fine_of digest_of g me v trace area initial out x gave) in
        let F = fresh_outcome g me v area initial state long t m.reply m.area m.initial m.state refl in
        let f = fresh_stored g me v area initial state long t m.reply m.area m.initial m.state refl in
        let n = made_length g me v area initial state long in
        let I = (theorem digest_of g me).steps v trace area initial out b x gave hs i E in
        let B = brings g me m.initial state m.state m.area hs (omega (arith, long, n)) (made_bytes g me v area initial state long p) f
        (subst AllFrames (sym i) (frames_of trace b)) in
        let s : taken digest_of g me m.initial (server_in m.state) m.area hs
        ≡ taken_from digest_of g me (SD.construction digest_of g me v area initial) hs =
        ap (λ (y : SD.Constructed). taken digest_of g me y.initial y.server y.area hs) F in (
          left ∙ ap (λ (y : Server). sets state 0 (server_bytes y)) I.server
              ∙ sym (B.state_is ∙ ap (λ (y : Taken). sets state 0 (server_bytes y.server)) s),
          left_area ∙ I.area ∙ sym (B.area_is ∙ ap (λ (y : Taken). y.area) s),
        )

pub journal_theorem : (g : Params) (me : ℕ) → JournalTheorem g me
journal_theorem g me = record {
  played = λ v trace area initial state out b p h x e hs i E. played g me v trace area initial state out b p h x e hs i E;
  steps_suffice = steps_suffice g me;
  goes_on = goes_on g me;
}
