-- What an honest server accepts has the digests of a value that it decoded in this run. Assumes nothing.
use Prim.Native.Nat.{ℕ}
use mathlib.Core.Path.{◌≡◌, refl, ap, sym, ◌∙◌, subst}
use mathlib.Core.Logic.{inl, inr, ⊎_elim}
use mathlib.Core.Option.{some}
use mathlib.Core.List.{List, [], ◌∷◌, Memᴰ}
use lib.ListN.{length}
use Rattle.quorum.specs.Quorum.{Among}
use Rattle.quorum.proofs.Logic.{impossible}
use Rattle.area.specs.Area.{Bytes}
use Rattle.group_rules.specs.Coded.{digests_of}
use Rattle.frame.specs.Messages.{Offer}
use Rattle.frame.proofs.Sizes.{Small}
use Rattle.server_rules.specs.State.{block_view}
use Rattle.server_rules.specs.Steps as S
use Rattle.server_rules.proofs.Parts.{no_part}
use Rattle.server_rules.proofs.Shapes.{offer_of}
use Rattle.server_rules.proofs.Views.{fresh_block_view}
use Rattle.server_rules.proofs.Decoding.{Has}
use Rattle.steps.proofs.CastFacts.{part_at}
use Rattle.steps.proofs.DecodedFacts.{DecodedFacts, decoded_facts}
use Rattle.runs.specs.Admissible.{Admissible}
use Rattle.runs.specs.Events.{At, Accepts, Decodes}
use Rattle.runs.specs.World.{Setup, Call, initial_of}
use Rattle.runs.proofs.Agreement.{small, start_slot}
use Rattle.runs.proofs.Broadcasts.{server_at, Takes, effect_of, server_next, accepts_new, shape}
use Rattle.runs.proofs.Assumed.{Assumed}

module _ (Z : Setup) (G : Assumed Z) where
  open Z use {H, g, initial_value, state_areas, initial_areas}

  abbrev M : Small g
  M = small Z G

  abbrev From : List Call → List ℕ → Type 0
  From ks d = (v : List ℕ) × (p : ℕ) × At (Decodes Z v) ks p × (digests_of H g v ≡ d) × (length v ≡ g.size) × Bytes v

  later : (ks : List Call) (k : Call) (d : List ℕ) → From ks d → From (k ∷ ks) d
  later ks k d w = (w.0, w.1, inr w.2, w.3, w.4, w.5)

  keeps : (ks : List Call) (k : Call) (j : ℕ) (C : Takes Z G M ks k j) → DecodedFacts H g (server_at Z G M ks j).server (server_at Z G M ks j).area
      (effect_of Z G M C)
  keeps ks k j C = decoded_facts H g G.bounded j (server_at Z G M ks j).server (server_at Z G M ks j).area (initial_of Z j) (shape Z G M ks j)
      C.from C.m C.took.client C.took.sized C.took.passes

  now : (ks : List Call) (k : Call) (j : ℕ) (C : Takes Z G M ks k j) (d : List ℕ) → Has H g (effect_of Z G M C).decodes d → From (k ∷ ks) d
  now ks k j C d w = (
    w.0,
    length ks,
    inl (refl, subst (Decodes Z w.0 ks) (sym C.is) (subst (λ r. Memᴰ w.0 r.decodes) (sym C.moves) w.1)),
    w.2,
    w.3,
    w.4,
  )

  done_from : (ks : List Call) (j c : ℕ) → Among 8 c → (y : Offer) → (part_at g (server_at Z G M ks j).server (server_at Z G M ks j).area c).done ≡ some y
      → From ks y.entry.digests
  done_from [] j c is y u =
      let e : part_at g (server_at Z G M [] j).server (server_at Z G M [] j).area c ≡ no_part =
      ap (block_view g (server_at Z G M [] j).area c) (start_slot Z G j c is) ∙ fresh_block_view g (server_at Z G M [] j).area c 1 in
      impossible (cc (ap (λ x. x.done) e, u))
  done_from (k ∷ ks) j c is y u = ⊎_elim
      (λ e. later ks k y.entry.digests (done_from ks j c is y (ap (λ h. (part_at g h.server h.area c).done) (sym e) ∙ u)))
      (λ N. ⊎_elim
      (λ o. later ks k y.entry.digests (done_from ks j c is y o))
      (λ w. now ks k j N.0 y.entry.digests w)
      ((keeps ks k j N.0).done c is y (ap (λ h. (part_at g h.server h.area c).done) (sym N.1) ∙ u)))
      (server_next Z G M ks k j)

  accepts_from : (ks : List Call) (k : Call) (i : ℕ) (y : S.Write) → Accepts Z i y ks k → From (k ∷ ks) y.entry.digests
  accepts_from ks k i y u =
      let T = accepts_new Z G M ks k i y u in
      let w = (keeps ks k i T.0).took y T.1 in
      ⊎_elim (λ o. later ks k y.entry.digests (done_from ks i y.client w.0 (offer_of y) o)) (λ h. now ks k i T.0 y.entry.digests h) w.1

  pub accepted_from : (ks : List Call) → Admissible Z ks → (i p : ℕ) (y : S.Write) → At (Accepts Z i y) ks p
      → (v : List ℕ) × (p' : ℕ) × At (Decodes Z v) ks p' × (digests_of H g v ≡ y.entry.digests) × (length v ≡ g.size) × Bytes v
  accepted_from [] a i p y u = absurd u
  accepted_from (k ∷ ks) a i p y (inl u) = accepts_from ks k i y u.1
  accepted_from (k ∷ ks) a i p y (inr u) = later ks k y.entry.digests (accepted_from ks a.1 i p y u)
