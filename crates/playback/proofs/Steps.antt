-- A playback is the steps one after the other, whatever areas are lent to them; entries after others go on from the server that those left.
-- Assumes nothing.
use Prim.Native.Nat.{ℕ}
use mathlib.Core.Path.{◌≡◌, refl, sym, ap, ap₂, subst, ◌∙◌}
use mathlib.Core.List.{List, [], ◌∷◌, ◌++◌, append_assoc}
use lib.ListN.{length}
use Rattle.area.specs.Responses.{Response, turned_down}
use Rattle.blocks.specs.declared.Params.{Params}
use Rattle.frame.specs.declared.Refusal.{Refusal}
use Rattle.frame.specs.Messages.{Judged, bad, good}
use Rattle.server_rules.specs.declared.Server.{Server}
use Rattle.server_rules.specs.Tests as ST
use Rattle.server_rules.specs.Delivery as SD
use Rattle.quorum.proofs.Logic.{impossible}
use Rattle.entries.specs.Entries.{TraceEntry}
use Rattle.playback.specs.Reports.{Report, report_bytes, reports_bytes}
use Rattle.playback.specs.Playback.{spare_out, spare_to, report_of, server_after, area_after, played}
use Rattle.playback.specs.Theorem.{Handed, AllEnough, entries_of, Taken, taken, step_of, AllAgree}
use Rattle.playback.proofs.Rooms.{step_reply, step_server, step_area, step_out, step_to}

module _ (H : List ℕ → List ℕ) (g : Params) (me : ℕ) (initial : List ℕ) where
  -- ---- the steps

  pub record Same (s : Server) (a : List ℕ) (hs : List Handed) : Type 0 where
    pub server : (taken H g me initial s a hs).server ≡ (played H g me initial s a (entries_of hs)).server
    pub area : (taken H g me initial s a hs).area ≡ (played H g me initial s a (entries_of hs)).area
    pub agree : AllAgree hs (taken H g me initial s a hs).outcomes (played H g me initial s a (entries_of hs)).reports

  pub same_steps : (s : Server) (a : List ℕ) (hs : List Handed) → AllEnough g hs → Same s a hs
  unfolding taken played entries_of
  same_steps s a [] E = record { server = refl; area = refl; agree = tt }
  same_steps s a (h ∷ hs) E =
      let e = h.entry in
      let o = step_of H g me initial s a h in
      let s' = server_after H g me initial s a e in
      let a' = area_after H g me initial s a e in
      let k : taken H g me initial o.server o.area hs ≡ taken H g me initial s' a' hs =
      ap₂ (λ x y. taken H g me initial x y hs) (step_server H g me initial s a e h.out h.to E.0)
      (step_area H g me initial s a e h.out h.to E.0) in
      let S = same_steps s' a' hs E.1 in
      record {
        server = ap (λ (x : Taken). x.server) k ∙ S.server;
        area = ap (λ (x : Taken). x.area) k ∙ S.area;
        agree = (
          record {
            reply = step_reply H g me initial s a e h.out h.to E.0;
            out = step_out H g me initial s a e h.out h.to E.0;
            to = step_to H g me initial s a e h.out h.to E.0;
          },
          subst (λ (x : Taken). AllAgree hs x.outcomes (played H g me initial s' a' (entries_of hs)).reports) (sym k) S.agree,
        );
      }

  -- ---- a frame that is turned down

  pub record Stays (s : Server) (a : List ℕ) (e : TraceEntry) (n : ℕ) : Type 0 where
    pub report : report_of H g me initial s a e ≡ record { reply = turned_down n; sends = [] }
    pub server : server_after H g me initial s a e ≡ s
    pub area : area_after H g me initial s a e ≡ a

  -- the reply, given what the tests say of the frame
  abbrev reply_by : Server → List ℕ → TraceEntry → Judged → Response ℕ
  reply_by s a e j = SD.reply_of H g me j (length (SD.effect_by H g me j s a initial e.sender).sends)

  turned : (s : Server) (a : List ℕ) (e : TraceEntry) (n : ℕ) (j : Judged) → reply_by s a e j ≡ turned_down n → (r : Refusal) × (j ≡ bad r)
  unfolding SD.reply_of
  turned s a e n (bad x) f = (x, refl)
  turned s a e n (good m) f = impossible (cc)

  pub stays : (s : Server) (a : List ℕ) (e : TraceEntry) (n : ℕ) → (report_of H g me initial s a e).reply ≡ turned_down n → Stays s a e n
  unfolding report_of server_after area_after SD.delivery SD.outcome_of SD.delivered SD.effect_by SD.reply_of
  stays s a e n f =
      let j = (turned s a e n (ST.judge H g me s a initial e.sender e.frame (spare_out g) (spare_to g)) f).1 in
      record {
        report = λ i. record { reply = f i; sends = (SD.effect_by H g me (j i) s a initial e.sender).sends };
        server = ap (λ (k : Judged). (SD.effect_by H g me k s a initial e.sender).server) j;
        area = ap (λ (k : Judged). (SD.effect_by H g me k s a initial e.sender).area) j;
      }

  pub turned_down_lem : (s : Server) (a : List ℕ) (e : TraceEntry) (es : List TraceEntry) (n : ℕ) → (report_of H g me initial s a e).reply ≡ turned_down n
      → played H g me initial s a (e ∷ es)
      ≡ record {
        server = (played H g me initial s a es).server;
        area = (played H g me initial s a es).area;
        reports = record { reply = turned_down n; sends = [] } ∷ (played H g me initial s a es).reports;
      }
  unfolding played
  turned_down_lem s a e es n f =
      let S = stays s a e n f in
      let p : played H g me initial (server_after H g me initial s a e) (area_after H g me initial s a e) es ≡ played H g me initial s a es =
      ap₂ (λ x y. played H g me initial x y es) S.server S.area in
      λ i. record { server = (p i).server; area = (p i).area; reports = S.report i ∷ (p i).reports }

  -- ---- entries after others

  pub record Follows (s : Server) (a : List ℕ) (xs ys : List TraceEntry) : Type 0 where
    pub server : (played H g me initial s a (xs ++ ys)).server
        ≡ (played H g me initial (played H g me initial s a xs).server (played H g me initial s a xs).area ys).server
    pub area : (played H g me initial s a (xs ++ ys)).area
        ≡ (played H g me initial (played H g me initial s a xs).server (played H g me initial s a xs).area ys).area
    pub reports : (played H g me initial s a (xs ++ ys)).reports
        ≡ (played H g me initial s a xs).reports
        ++ (played H g me initial (played H g me initial s a xs).server (played H g me initial s a xs).area ys).reports

  pub follows : (s : Server) (a : List ℕ) (xs ys : List TraceEntry) → Follows s a xs ys
  unfolding played
  follows s a [] ys = record { server = refl; area = refl; reports = refl }
  follows s a (e ∷ xs) ys =
      let F = follows (server_after H g me initial s a e) (area_after H g me initial s a e) xs ys in
      record { server = F.server; area = F.area; reports = ap (λ l. report_of H g me initial s a e ∷ l) F.reports }

pub reports_append : (rs qs : List Report) → reports_bytes (rs ++ qs) ≡ reports_bytes rs ++ reports_bytes qs
unfolding reports_bytes
reports_append [] qs = refl
reports_append (r ∷ rs) qs = rw (reports_append rs qs) (sym (append_assoc (report_bytes r) (reports_bytes rs) (reports_bytes qs)))
