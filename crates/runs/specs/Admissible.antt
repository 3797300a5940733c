-- Which lists of calls are runs, document 01: "a list of calls on the honest rest". These are definitions.
use Rattle.std.specs.Prelude.{ℕ, false, ◌≡◌, ◌⊎◌, Ok}
use mathlib.Core.List.{List, [], ◌∷◌, Memᴰ}
use Rattle.quorum.specs.Quorum.{Among}
use Rattle.area.specs.Area.{Bytes}
use Rattle.frame.specs.declared.Party.{Party}
use Rattle.frame.specs.declared.Header.{Header}
use Rattle.frame.specs.declared.Party.TheVariants as P
use Rattle.frame.specs.Messages.{Sending}
use Rattle.frame.specs.Frames.{build, opened}
use Rattle.runs.specs.World.{Setup, Call, to_server, to_client, begin_read, begin_write, caller, run, sends}

module _ (Z : Setup) where
  open Z use {g, faulty_server, faulty_client}

  -- party a sent the frame f to party b in an answer
  abbrev pub Sent : List Call → Party → Party → List ℕ → Type 0
  Sent [] a b f = ⊥
  Sent (k ∷ ks) a b f =
      ((caller k ≡ a) × (x : Sending) × Memᴰ x (sends Z (run Z ks) k) × (x.receiver ≡ b) × (build x.says ≡ f)) ⊎ Sent ks a b f

  -- a server 1 to n, a client 1 to 8, that is not false
  abbrev pub Honest : Party → Type 0
  Honest (P.Server j) = Among g.n j × (faulty_server j ≡ false)
  Honest (P.Client c) = Among 8 c × (faulty_client c ≡ false)

  -- "A frame named as an honest party's was sent to this receiver in an earlier answer of that party; it may come often, in any order or never. Any
  -- other frame may be anything", as long as it is bytes; so may one that does not open, whoever is named.
  abbrev pub Named : List Call → Party → Party → List ℕ → Type 0
  Named ks from b f = (h : Header) → opened g f ≡ Ok h → Honest from → Sent ks from b f

  abbrev pub Proper : List Call → Call → Type 0
  Proper ks (to_server i from f out to) = Honest (P.Server i) × Bytes f × Named ks from (P.Server i) f
  Proper ks (to_client c from f lent result out to) = Honest (P.Client c) × Bytes f × Named ks from (P.Client c) f
  Proper ks (begin_read c out to) = Honest (P.Client c)
  Proper ks (begin_write c v out to) = Honest (P.Client c) × Bytes v

  abbrev pub Admissible : List Call → Type 0
  Admissible [] = Unit {0}
  Admissible (k ∷ ks) = Proper ks k × Admissible ks
