-- What a step sends: as it is in the step's areas, and as it is in a report. Assumes nothing.
use Prim.Native.Nat.{ℕ, suc, ◌+◌, ◌*◌, ◌≤◌}
use native.Mathlib.Omega.{arith}
use native.Mathlib.Nat.{suc-mul, mul-le-mul_right}
use mathlib.Core.Path.{◌≡◌, refl, sym, ap, ap₂, subst, ◌∙◌}
use mathlib.Core.List.{List, [], ◌∷◌, ◌++◌, append_assoc}
use lib.ListN.{length, take, drop, length-append}
use lib.Seq.{sets, sets-eq, take_at, drop_at, length-sets}
use Rattle.area.specs.Numbers.{be2, bytes2}
use Rattle.area.proofs.Numbers.{length_bytes2}
use Rattle.blocks.specs.declared.Params.{Params}
use Rattle.frame.specs.Params.{largest_frame, server_frames, out_room, to_room, Bounded}
use Rattle.frame.specs.Messages.{Sending}
use Rattle.frame.specs.Frames.{build}
use Rattle.frame.specs.Outbox.{frames, receivers, party_bytes}
use Rattle.frame.proofs.Rooms.{build_room, AllFormed, frames_room, front_says}
use Rattle.frame.proofs.PartyLaws.{length_party}
use Rattle.frame.proofs.Outbox.{length_receivers}
use Rattle.frame.proofs.Sizes.{small}
use Rattle.playback.specs.Reports.{addressed, Report, report_bytes}
use Rattle.playback.specs.Playback.{entry_need}
use Rattle.playback.specs.Stages.{sent_in, Lie}

module _ (g : Params) (B : Bounded g) where
  pub largest_few : largest_frame g ≤ 598
  unfolding largest_frame
  largest_few = let S = small g B in omega (arith, S.list_room, S.block_room)

  -- ---- in a step's areas

  sent_back : (xs : List Sending) → AllFormed g xs → (r t : List ℕ) → sent_in (length xs) (frames xs ++ r) (receivers xs ++ t) ≡ addressed xs
  unfolding sent_in frames receivers addressed
  sent_back [] f r t = refl
  sent_back (x ∷ xs) f r t =
      let b = build x.says in
      let p = party_bytes x.receiver in
      let u : (b ++ frames xs) ++ r ≡ b ++ (frames xs ++ r) = append_assoc b (frames xs) r in
      let v : (p ++ receivers xs) ++ t ≡ p ++ (receivers xs ++ t) = append_assoc p (receivers xs) t in
      let n = sym (front_says g B x.says f.0 (frames xs ++ r)) in
      let k = length xs in
      let l = b ++ (frames xs ++ r) in
      ap₂ (λ o q. take 2 q ++ (take (2 + be2 o 0) o ++ sent_in k (drop (2 + be2 o 0) o) (drop 2 q))) u v
      ∙ ap₂ (λ o q. o ++ (take (2 + be2 l 0) l ++ sent_in k (drop (2 + be2 l 0) l) q)) (take_at p (receivers xs ++ t) 2 (length_party x.receiver))
      (drop_at p (receivers xs ++ t) 2 (length_party x.receiver))
      ∙ ap₂ (λ o q. p ++ (o ++ sent_in k q (receivers xs ++ t))) (take_at b (frames xs ++ r) _ n) (drop_at b (frames xs ++ r) _ n)
      ∙ ap (λ o. p ++ (b ++ o)) (sent_back xs f.1 r t)

  lies : (xs : List Sending) → AllFormed g xs → (r : List ℕ) → Lie (length xs) (frames xs ++ r)
  unfolding frames
  lies [] f r = tt
  lies (x ∷ xs) f r =
      let b = build x.says in
      let u : (b ++ frames xs) ++ r ≡ b ++ (frames xs ++ r) = append_assoc b (frames xs) r in
      let e = front_says g B x.says f.0 (frames xs ++ r) in
      let l = length-append b (frames xs ++ r) in
      subst (Lie (suc (length xs))) (sym u) (
        omega (arith, l, e),
        omega (arith, l, e),
        subst (Lie (length xs)) (sym (drop_at b (frames xs ++ r) _ (sym e))) (lies xs f.1 r),
      )

  pub addressed_few : (xs : List Sending) → AllFormed g xs → length (addressed xs) ≤ length xs * (largest_frame g + 2)
  unfolding addressed
  addressed_few [] f = omega arith
  addressed_few (x ∷ xs) f =
      let p = party_bytes x.receiver in
      let b = build x.says in
      rw suc-mul
      (omega (
        arith,
        length-append p (b ++ addressed xs),
        length-append b (addressed xs),
        length_party x.receiver,
        build_room g x.says f.0,
        addressed_few xs f.1,
      ))

  -- with their receivers, frames take no fewer bytes than without
  pub addressed_more : (xs : List Sending) → length (frames xs) ≤ length (addressed xs)
  unfolding frames addressed
  addressed_more [] = omega arith
  addressed_more (x ∷ xs) =
      let p = party_bytes x.receiver in
      let b = build x.says in
      omega (arith, length-append b (frames xs), length-append p (b ++ addressed xs), length-append b (addressed xs), addressed_more xs)

  -- ---- the report

  module _ (xs : List Sending) (F : AllFormed g xs) (few : length xs ≤ server_frames g) where
    -- a report takes no more than is asked for an entry
    pub report_few : (r : Report) → r.sends ≡ xs → length (report_bytes r) ≤ entry_need g
    unfolding report_bytes entry_need
    report_few r e =
        let a = addressed_few xs F in
        let m = mul-le-mul_right {m = length xs} {n = server_frames g} (largest_frame g + 2) few in
        let l = length-append (bytes2 (length r.sends)) (addressed r.sends) in
        omega (arith, a, m, l, length_bytes2 (length r.sends), ap (λ y. length (addressed y)) e)

    -- the step's areas after it
    module _ (out to : List ℕ) (o : out_room g (server_frames g) ≤ length out) (t : to_room (server_frames g) ≤ length to) where
      out_fits : 0 + length (frames xs) ≤ length out
      unfolding out_room
      out_fits =
          let m = mul-le-mul_right {m = length xs} {n = server_frames g} (largest_frame g) few in
          omega (arith, frames_room g xs F, m, o)

      to_fits : 0 + length (receivers xs) ≤ length to
      unfolding to_room
      to_fits = omega (arith, length_receivers xs, few, t)

      pub sent_in_lem : sent_in (length xs) (sets out 0 (frames xs)) (sets to 0 (receivers xs)) ≡ addressed xs
      sent_in_lem = ap₂ (sent_in (length xs)) (sets-eq (frames xs) out 0 out_fits) (sets-eq (receivers xs) to 0 to_fits) ∙ sent_back xs F _ _

      pub lie_in : Lie (length xs) (sets out 0 (frames xs))
      lie_in = subst (Lie (length xs)) (sym (sets-eq (frames xs) out 0 out_fits)) (lies xs F _)

      pub to_many : 2 * length xs ≤ length (sets to 0 (receivers xs))
      to_many = omega (arith, length-sets to 0 (receivers xs), to_fits, length_receivers xs)
