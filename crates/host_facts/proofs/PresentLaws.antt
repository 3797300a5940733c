-- What a host is answered when it asks for a server's present block, from the promises of the functions that the code calls. Assumes nothing.
use Rattle.std.specs.Prelude.{Err}
use Prim.Native.Nat.{ℕ, ◌≤◌, ◌<◌}
use mathlib.Core.Path.{◌≡◌, sym, ap, ◌∙◌}
use mathlib.Core.List.{List}
use lib.ListN.{length}
use lib.Seq.{sets}
use borrow.Author.Tests.{lt-ltb, le-ltb}
use Rattle.area.specs.Area.{pick}
use Rattle.blocks.specs.declared.Params.{Params}
use Rattle.frame.specs.declared.Stamp.{Stamp}
use Rattle.frame.specs.declared.Refusal.{Refusal}
use Rattle.frame.specs.Refusals.{number_of, Verdict, fine}
use Rattle.frame.specs.Params.{width, bounds_test}
use Rattle.frame.specs.Chunks.{area_bytes}
use Rattle.server_rules.specs.State.{present_block}
use Rattle.layout.specs.Fields.{stamp_at}
use Rattle.layout.specs.Servers.{server_size, server_at, server_in}
use Rattle.host_facts.specs.Outcomes.{Wrote, wrote}
use Rattle.host_facts.specs.Present.{block_given, block_by, block_call}

module _ (g : Params) (area initial state block : List ℕ) (v : Verdict) (p : v ≡ bounds_test g) where
  pub block_bounds : (r : Refusal) (x : ℕ) → v ≡ Err r → x ≡ number_of r → wrote x block ≡ block_call g area initial state block
  unfolding block_call block_by
  block_bounds r x q e = ap (λ z. wrote z block) e ∙ ap (λ z. block_by z (block_given g area initial state block) block) (sym q ∙ p)

  module _ (fine : v ≡ fine) where
    by_bounds : (x : Wrote) → x ≡ block_given g area initial state block → x ≡ block_call g area initial state block
    unfolding block_call block_by
    by_bounds x e = e ∙ ap (λ z. block_by z (block_given g area initial state block) block) (sym fine ∙ p)

    pub no_record : length state < server_size → wrote 10 block ≡ block_call g area initial state block
    unfolding block_given pick
    no_record h = by_bounds (wrote 10 block) (sym (rw (lt-ltb _ _ h)))

    module _ (record-fits : server_size ≤ length state) where
      pub no_area : length area < area_bytes → wrote 10 block ≡ block_call g area initial state block
      unfolding block_given pick
      no_area h = by_bounds (wrote 10 block) (sym (rw (le-ltb _ _ record-fits, lt-ltb _ _ h)))

      module _ (area-fits : area_bytes ≤ length area) (w : ℕ) (is-width : w ≡ width g) where
        pub no_initial : length initial < w → wrote 10 block ≡ block_call g area initial state block
        unfolding block_given pick
        no_initial h =
            let i : length initial < width g = rw is-width at h in
            by_bounds (wrote 10 block) (sym (rw (le-ltb _ _ record-fits, le-ltb _ _ area-fits, lt-ltb _ _ i)))

        module _ (initial-fits : w ≤ length initial) where
          pub no_room : length block < w → wrote 10 block ≡ block_call g area initial state block
          unfolding block_given pick
          no_room h =
              let i : width g ≤ length initial = rw is-width at initial-fits in
              let k : length block < width g = rw is-width at h in
              by_bounds (wrote 10 block) (sym (rw (le-ltb _ _ record-fits, le-ltb _ _ area-fits, le-ltb _ _ i, lt-ltb _ _ k)))

          pub block_done : (x : Stamp) (b o : List ℕ) → w ≤ length block → x ≡ stamp_at state 0 → b ≡ present_block g x area initial → o ≡ sets block 0 b
              → wrote 0 o ≡ block_call g area initial state block
          unfolding block_given server_in server_at pick
          block_done x b o h s q e =
              let i : width g ≤ length initial = rw is-width at initial-fits in
              let k : width g ≤ length block = rw is-width at h in
              by_bounds (wrote 0 o)
              (ap (wrote 0) (e ∙ ap (sets block 0) (q ∙ ap (λ z. present_block g z area initial) s))
              ∙ sym (rw (le-ltb _ _ record-fits, le-ltb _ _ area-fits, le-ltb _ _ i, le-ltb _ _ k)))
