-- What the broadcast of a write says of an offer rests on the frames of that offer's time and digest list alone: its votes, its support, and so whether a ready
-- is due and whether the write is full. Assumes nothing.
use Prim.Native.Nat.{ℕ, zero, suc, ◌+◌}
use mathlib.Core.Bool.{Bool, true, false, not, ◌&&◌, ◌||◌}
use mathlib.Core.Path.{◌≡◌, refl, ap, sym, ◌∙◌}
use mathlib.Core.Logic.{◌⊎◌, inl, inr}
use mathlib.Core.Option.{Option, none, some}
use mathlib.Core.List.{List, ◌∷◌}
use lib.Dec.{leb}
use Rattle.quorum.specs.Quorum.{count}
use Rattle.area.specs.Area.{pick, same}
use Rattle.blocks.specs.declared.Params.{Params}
use Rattle.blocks.specs.Code.{candidate, agree}
use Rattle.frame.specs.Params.{quota}
use Rattle.frame.specs.Messages.{Entry, entry, Offer, offer}
use Rattle.group_rules.specs.Coded.{Piece, has_list, piece_of, pieces, numbers, joined_bytes, lowest_value, agreeing, digests_of}
use Rattle.server_rules.specs.Broadcast.{Rules, Part, is_like, votes, enough, due, full}
use Rattle.server_rules.specs.Rules.{entry_by, at_time, chosen, regained, unanimous, regained_of, unanimous_of, block_rules}
use Rattle.server_rules.proofs.Thresholds.{agreed}
use Rattle.server_rules.proofs.AtTime.{like, votes_are}

module _ (H : List ℕ → List ℕ) (g : Params) where
  abbrev R : Rules Offer
  R = block_rules H g

  abbrev says : Option Offer → Offer → Bool
  says p x = is_like R g.n g.t p x

  -- ---- frames that agree on an offer

  -- p and p' say the same of x: neither is like it, or they are one
  abbrev pub Agrees : Offer → Option Offer → Option Offer → Type 0
  Agrees x p p' = ((says p x ≡ false) × (says p' x ≡ false)) ⊎ (p ≡ p')

  agrees_says : (x : Offer) (p p' : Option Offer) → Agrees x p p' → says p x ≡ says p' x
  agrees_says x p p' (inl e) = e.0 ∙ sym e.1
  agrees_says x p p' (inr e) = ap (λ p. says p x) e

  no_piece : (o : Option Entry) (d : List ℕ) (j : ℕ) (l : List Piece) → has_list o d ≡ false → piece_of o d j l ≡ l
  unfolding pick
  no_piece none d j l e = refl
  no_piece (some y) d j l e = ap (λ b. pick b (record { number = j; bytes = y.block } ∷ l) l) e

  agrees_piece : (x : Offer) (p p' : Option Offer) → Agrees x p p' → (j : ℕ) (l : List Piece)
      → piece_of (entry_by p x.time) x.entry.digests j l ≡ piece_of (entry_by p' x.time) x.entry.digests j l
  agrees_piece x p p' (inl e) j l =
      no_piece (entry_by p x.time) x.entry.digests j l (sym (like H g p x) ∙ e.0)
      ∙ sym (no_piece (entry_by p' x.time) x.entry.digests j l (sym (like H g p' x) ∙ e.1))
  agrees_piece x p p' (inr e) j l = ap (λ p. piece_of (entry_by p x.time) x.entry.digests j l) e

  module _ (x : Offer) (f f' : ℕ → Option Offer) (same : (j : ℕ) → Agrees x (f j) (f' j)) where
    pub agrees_votes : votes R g.n g.t f x ≡ votes R g.n g.t f' x
    unfolding votes
    agrees_votes i = count (λ j. agrees_says x (f j) (f' j) (same j) i) g.n

    agrees_pieces : (j m : ℕ) → pieces (at_time f x.time) x.entry.digests j m ≡ pieces (at_time f' x.time) x.entry.digests j m
    unfolding pieces at_time
    agrees_pieces j zero = refl
    agrees_pieces j (suc m) =
        ap (piece_of (entry_by (f j) x.time) x.entry.digests j) (agrees_pieces (suc j) m)
        ∙ agrees_piece x (f j) (f' j) (same j) j (pieces (at_time f' x.time) x.entry.digests (suc j) m)

    agrees_lowest : lowest_value g (at_time f x.time) x.entry.digests ≡ lowest_value g (at_time f' x.time) x.entry.digests
    unfolding lowest_value
    agrees_lowest = ap (λ l. candidate g.k g.size (numbers l) (joined_bytes l)) (agrees_pieces 1 g.n)

    agrees_agreeing : agreeing g (at_time f x.time) x.entry.digests ≡ agreeing g (at_time f' x.time) x.entry.digests
    unfolding agreeing
    agrees_agreeing = ap (λ l. agree g.k g.size (numbers l) (joined_bytes l)) (agrees_pieces 1 g.n)

  -- what rests on the chosen group rests on the readies, where there are enough, else on the echoes
  chosen_cases : {A : Type 0} (F : (ℕ → Option Entry) → A) (es rs : ℕ → Option Offer) (x : Offer)
      → F (chosen g (at_time es x.time) (at_time rs x.time) x.entry.digests)
      ≡ pick (leb (quota g) (votes R g.n g.t rs x)) (F (at_time rs x.time)) (F (at_time es x.time))
  unfolding chosen pick
  chosen_cases F es rs x = go (leb (quota g) (count (λ j. has_list (at_time rs x.time j) x.entry.digests) g.n))
      ∙ ap (λ v. pick (leb (quota g) v) (F (at_time rs x.time)) (F (at_time es x.time))) (sym (votes_are H g rs x))
    where
      go : (b : Bool) → F (pick b (at_time rs x.time) (at_time es x.time)) ≡ pick b (F (at_time rs x.time)) (F (at_time es x.time))
      go true = refl
      go false = refl

  pub regained_cases : (es rs : ℕ → Option Offer) (x : Offer)
      → regained_of g es rs x ≡ pick (leb (quota g) (votes R g.n g.t rs x)) (lowest_value g (at_time rs x.time) x.entry.digests)
      (lowest_value g (at_time es x.time) x.entry.digests)
  unfolding regained
  regained_cases es rs x = chosen_cases (λ f. lowest_value g f x.entry.digests) es rs x

  pub unanimous_cases : (es rs : ℕ → Option Offer) (x : Offer)
      → unanimous_of g es rs x ≡ pick (leb (quota g) (votes R g.n g.t rs x)) (agreeing g (at_time rs x.time) x.entry.digests)
      (agreeing g (at_time es x.time) x.entry.digests)
  unfolding unanimous
  unanimous_cases es rs x = chosen_cases (λ f. agreeing g f x.entry.digests) es rs x

  module _ (x : Offer) (es es' rs rs' : ℕ → Option Offer) (E : (j : ℕ) → Agrees x (es j) (es' j)) (Q : (j : ℕ) → Agrees x (rs j) (rs' j)) where
    agrees_regained : regained_of g es rs x ≡ regained_of g es' rs' x
    agrees_regained = regained_cases es rs x
        ∙ (λ i. pick (leb (quota g) (agrees_votes x rs rs' Q i)) (agrees_lowest x rs rs' Q i) (agrees_lowest x es es' E i))
        ∙ sym (regained_cases es' rs' x)

    agrees_unanimous : unanimous_of g es rs x ≡ unanimous_of g es' rs' x
    agrees_unanimous = unanimous_cases es rs x
        ∙ (λ i. pick (leb (quota g) (agrees_votes x rs rs' Q i)) (agrees_agreeing x rs rs' Q i) (agrees_agreeing x es es' E i))
        ∙ sym (unanimous_cases es' rs' x)

    pub agrees_supports : R.supports es rs x ≡ R.supports es' rs' x
    agrees_supports i = agrees_unanimous i && same (digests_of H g (agrees_regained i)) x.entry.digests

  -- two parts that agree on x, with the same mark of a ready
  module _ (x : Offer) (w w' : Part Offer) (ready : w.ready ≡ w'.ready) (E : (j : ℕ) → Agrees x (w.echoes j) (w'.echoes j))
      (Q : (j : ℕ) → Agrees x (w.readies j) (w'.readies j)) where
    pub agrees_due : due R g.n g.t w x ≡ due R g.n g.t w' x
    unfolding due enough
    agrees_due i = not (ready i) && ((leb g.n (agrees_votes x w.echoes w'.echoes E i + g.t)
        || leb R.few (agrees_votes x w.readies w'.readies Q i))
        && agrees_supports x w.echoes w'.echoes w.readies w'.readies E Q i)

    pub agrees_full : full R g.n g.t w x ≡ full R g.n g.t w' x
    unfolding full
    agrees_full i = leb R.all (agrees_votes x w.readies w'.readies Q i)
        && agrees_supports x w.echoes w'.echoes w.readies w'.readies E Q i

  -- ---- offers of one time and digest list

  like_block : (p : Option Offer) (T : ℕ) (d b b' : List ℕ) → says p (offer T (entry d b)) ≡ says p (offer T (entry d b'))
  like_block none T d b b' = refl
  like_block (some y) T d b b' = refl

  module _ (x y : Offer) (e : agreed x ≡ agreed y) where
    -- y with the block of x
    abbrev mixed : Offer
    mixed = offer y.time (entry y.entry.digests x.entry.block)

    to_mixed : x ≡ mixed
    to_mixed i = offer (e i).0 (entry (e i).1 x.entry.block)

    pub alike_says : (p : Option Offer) → says p x ≡ says p y
    alike_says p = ap (says p) to_mixed ∙ like_block p y.time y.entry.digests x.entry.block y.entry.block

    pub alike_votes : (f : ℕ → Option Offer) → votes R g.n g.t f x ≡ votes R g.n g.t f y
    unfolding votes
    alike_votes f i = count (λ j. alike_says (f j) i) g.n

    pub alike_supports : (es rs : ℕ → Option Offer) → R.supports es rs x ≡ R.supports es rs y
    alike_supports es rs = ap (R.supports es rs) to_mixed

    pub alike_due : (w : Part Offer) → due R g.n g.t w x ≡ due R g.n g.t w y
    unfolding due enough
    alike_due w i = not w.ready && ((leb g.n (alike_votes w.echoes i + g.t) || leb R.few (alike_votes w.readies i))
        && alike_supports w.echoes w.readies i)

    pub alike_full : (w : Part Offer) → full R g.n g.t w x ≡ full R g.n g.t w y
    unfolding full
    alike_full w i = leb R.all (alike_votes w.readies i) && alike_supports w.echoes w.readies i
