-- The out area reads back to what was reported. Assumes nothing.
use Prim.Native.Nat.{ℕ, suc, ◌+◌, ◌*◌, ◌≤◌, ◌<◌}
use native.Mathlib.Omega.{arith}
use native.Mathlib.Nat.{suc-mul}
use mathlib.Core.Path.{◌≡◌, refl, sym, ap, ap₂, ◌∙◌}
use mathlib.Core.List.{List, [], ◌∷◌, ◌++◌, append_assoc, map}
use lib.ListN.{length, get_or, drop, length-append}
use lib.Seq.{take_at, drop_at}
use Rattle.area.specs.Area.{pick, part}
use Rattle.area.specs.Numbers.{be2, bytes2}
use Rattle.blocks.specs.declared.Params.{Params}
use Rattle.frame.specs.declared.Party.{Party}
use Rattle.frame.specs.declared.Party.TheVariants as P
use Rattle.frame.specs.Params.{width, server_frames, Bounded}
use Rattle.frame.specs.Messages.{Sending, Message, FormedBody}
use Rattle.frame.specs.Frames.{build}
use Rattle.frame.specs.Outbox.{party_bytes, party_in}
use Rattle.frame.proofs.Rooms.{AllFormed, front_says}
use Rattle.server_rules.specs.declared.Server.{Server}
use Rattle.server_rules.specs.Delivery.{reply_number}
use Rattle.entries.specs.Entries.{TraceEntry}
use Rattle.entries.proofs.Theorem.{AllFrames}
use Rattle.playback.specs.Reports.{addressed, Report, report_bytes, reports_bytes}
use Rattle.playback.specs.Playback.{entry_need, server_after, area_after, played}
use Rattle.playback.specs.Theorem.{Posted, posted_in, behind_posted, told_in, told_of}
use Rattle.playback.proofs.Sends.{report_few}
use Rattle.playback.proofs.Sound.{Sound, steps}

-- reports that can be read back: their frames are within their bounds, and not too many
abbrev pub AllReported : Params → List Report → Type 0
AllReported g [] = Unit {0}
AllReported g (r ∷ rs) = AllFormed g r.sends × (length r.sends ≤ server_frames g) × AllReported g rs

abbrev post : Sending → Posted
post x = record { receiver = x.receiver; frame = build x.says }

module _ (g : Params) (B : Bounded g) where
  -- ---- one frame, after its receiver

  record Front (p : Party) (m : Message) (l : List ℕ) : Type 0 where
    pub receiver : party_in (get_or (party_bytes p ++ (build m ++ l)) 0 0) (get_or (party_bytes p ++ (build m ++ l)) 1 0) ≡ p
    pub frame : part (party_bytes p ++ (build m ++ l)) 2 (2 + be2 (party_bytes p ++ (build m ++ l)) 2) ≡ build m
    pub rest : drop (4 + be2 (party_bytes p ++ (build m ++ l)) 2) (party_bytes p ++ (build m ++ l)) ≡ l

  -- two bytes, and then the frame
  two : (a b : ℕ) (m : Message) → FormedBody g m.body → (l : List ℕ)
      → (part (a ∷ b ∷ (build m ++ l)) 2 (2 + be2 (a ∷ b ∷ (build m ++ l)) 2) ≡ build m)
      × (drop (4 + be2 (a ∷ b ∷ (build m ++ l)) 2) (a ∷ b ∷ (build m ++ l)) ≡ l)
  unfolding be2
  two a b m f l =
      let n : ℕ = get_or (build m ++ l) 0 0 * 256 + get_or (build m ++ l) 1 0 in
      let e : length (build m) ≡ 2 + n = sym (front_says g B m f l) in
      let k : 4 + n ≡ suc (suc (2 + n)) = omega arith in
      (take_at (build m) l (2 + n) e, ap (λ (y : ℕ). drop y (a ∷ b ∷ (build m ++ l))) k ∙ drop_at (build m) l (2 + n) e)

  front : (p : Party) (m : Message) → FormedBody g m.body → (l : List ℕ) → Front p m l
  unfolding party_bytes party_in pick
  front (P.Client c) m f l = let w = two 0 c m f l in record { receiver = refl; frame = w.0; rest = w.1 }
  front (P.Server j) m f l = let w = two 1 j m f l in record { receiver = refl; frame = w.0; rest = w.1 }

  -- ---- the frames of a report

  split : (x : Sending) (xs : List Sending) (l : List ℕ)
      → (party_bytes x.receiver ++ (build x.says ++ addressed xs)) ++ l ≡ party_bytes x.receiver ++ (build x.says ++ (addressed xs ++ l))
  split x xs l =
      append_assoc (party_bytes x.receiver) (build x.says ++ addressed xs) l
      ∙ ap (λ y. party_bytes x.receiver ++ y) (append_assoc (build x.says) (addressed xs) l)

  posted_back : (xs : List Sending) → AllFormed g xs → (l : List ℕ)
      → (posted_in (length xs) (addressed xs ++ l) ≡ map post xs) × (behind_posted (length xs) (addressed xs ++ l) ≡ l)
  unfolding posted_in behind_posted addressed
  posted_back [] f l = (refl, refl)
  posted_back (x ∷ xs) f l =
      let F = front x.receiver x.says f.0 (addressed xs ++ l) in
      let R = posted_back xs f.1 l in
      let e = split x xs l in
      let k = length xs in (
        ap (λ y. record { receiver = party_in (get_or y 0 0) (get_or y 1 0); frame = part y 2 (2 + be2 y 2) } ∷ posted_in k (drop (4 + be2 y 2) y)) e
            ∙ (λ i. record { receiver = F.receiver i; frame = F.frame i } ∷ posted_in k (F.rest i))
            ∙ ap (λ y. post x ∷ y) R.0,
        ap (λ y. behind_posted k (drop (4 + be2 y 2) y)) e ∙ ap (behind_posted k) F.rest ∙ R.1,
      )

  -- ---- reports

  count_back : (n c : ℕ) (l : List ℕ) → c < 65536 → be2 (n ∷ (bytes2 c ++ l)) 1 ≡ c
  unfolding be2 bytes2
  count_back n c l h = omega arith

  three : (n c : ℕ) (l : List ℕ) → drop 3 (n ∷ (bytes2 c ++ l)) ≡ l
  unfolding bytes2
  three n c l = refl

  pub told_back : (rs : List Report) → AllReported g rs → (l : List ℕ) → told_in (length rs) (reports_bytes rs ++ l) ≡ map told_of rs
  unfolding told_in told_of reports_bytes report_bytes
  told_back [] f l = refl
  told_back (r ∷ rs) f l =
      let xs = r.sends in
      let c = length xs in
      let n = reply_number r.reply in
      let m = length rs in
      let more = reports_bytes rs ++ l in
      let e : (n ∷ (bytes2 c ++ addressed xs)) ++ reports_bytes rs ++ l ≡ n ∷ (bytes2 c ++ (addressed xs ++ more)) =
      append_assoc (n ∷ (bytes2 c ++ addressed xs)) (reports_bytes rs) l ∙ ap (λ y. n ∷ y) (append_assoc (bytes2 c) (addressed xs) more) in
      let k = count_back n c (addressed xs ++ more) (omega (arith, f.1, B.servers_high)) in
      let d = three n c (addressed xs ++ more) in
      let P = posted_back xs f.0 more in
      ap (λ y. record { number = get_or y 0 0; posted = posted_in (be2 y 1) (drop 3 y) } ∷ told_in m (behind_posted (be2 y 1) (drop 3 y))) e
      ∙ ap₂ (λ y z. record { number = n; posted = posted_in y z } ∷ told_in m (behind_posted y z)) k d
      ∙ (λ i. record { number = n; posted = P.0 i } ∷ told_in m (P.1 i))
      ∙ ap (λ y. record { number = n; posted = map post xs } ∷ y) (told_back rs f.2 l)

  -- reports take no more room than was asked for them
  pub reports_few : (rs : List Report) → AllReported g rs → length (reports_bytes rs) ≤ length rs * entry_need g
  unfolding reports_bytes
  reports_few [] f = omega arith
  reports_few (r ∷ rs) f =
      rw suc-mul (omega (arith, length-append (report_bytes r) (reports_bytes rs), report_few g B r.sends f.0 f.1 r refl, reports_few rs f.2))

  -- ---- the reports of a playback are such

  pub all_reported : (H : List ℕ → List ℕ) (me : ℕ) (initial : List ℕ) → width g ≤ length initial → (s : Server) (a : List ℕ) → Sound s a
      → (es : List TraceEntry) → AllFrames es → AllReported g (played H g me initial s a es).reports
  unfolding played
  all_reported H me initial I s a K [] b = tt
  all_reported H me initial I s a K (e ∷ es) b =
      let S = steps H g B me initial I s a K e b.0 in
      (S.formed, S.few, all_reported H me initial I (server_after H g me initial s a e) (area_after H g me initial s a e) S.sound es b.1)

pub count_reports : (H : List ℕ → List ℕ) (g : Params) (me : ℕ) (initial : List ℕ) (s : Server) (a : List ℕ) (es : List TraceEntry)
    → length (played H g me initial s a es).reports ≡ length es
unfolding played
count_reports H g me initial s a [] = refl
count_reports H g me initial s a (e ∷ es) = ap suc (count_reports H g me initial (server_after H g me initial s a e) (area_after H g me initial s a e) es)
