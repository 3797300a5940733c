-- The outcome of a host's calls on a server, from the promises of the functions that the code calls. Assumes nothing.
use Prim.Native.Nat.{ℕ}
use mathlib.Core.Path.{◌≡◌, ap, ◌∙◌}
use mathlib.Core.List.{List}
use Rattle.area.specs.Responses.{Response}
use Rattle.sha256.specs.Hash.{digest_of}
use Rattle.blocks.specs.declared.Params.{Params}
use Rattle.frame.specs.declared.Party.{Party}
use Rattle.server_deliver.specs.Answers.{server_answer}
use Rattle.server_deliver.specs.Records.{byte_outcome, byte_delivery, byte_constructed, byte_construction}
use Rattle.playback.specs.Playback.{Summed}
use Rattle.playback.specs.Answers.{playback_answer}
use Rattle.playback.specs.Records.{bytes_played, byte_playback}
use Rattle.playback.specs.Resume.{areas, resumption, byte_resumption}
use Rattle.semduoli.specs.ServerCalls.{made, made_of, make_call, server_got, server_got_of, server_call, played_back, played_back_of, playback_call}
use Rattle.semduoli.specs.ServerCalls.{resumed_to, resumed_of, resume_call}

pub make_done : (g : Params) (me : ℕ) (value area initial state : List ℕ) (a : Response ℕ) (x : ℕ) (ar i st : List ℕ)
    → byte_constructed a ar i st ≡ byte_construction digest_of g me value area initial state → x ≡ server_answer a
    → made x ar i st ≡ make_call g me value area initial state
unfolding make_call
make_done g me value area initial state a x ar i st e p = ap (λ z. made z ar i st) p ∙ ap made_of e

pub server_done : (g : Params) (me : ℕ) (from w : Party) (f area initial state out to : List ℕ) (a : Response ℕ) (x : ℕ) (ar st o u : List ℕ)
    → w ≡ from → byte_outcome a ar st o u ≡ byte_delivery digest_of g me w f area initial state out to → x ≡ server_answer a
    → server_got x ar st o u ≡ server_call g me from f area initial state out to
unfolding server_call
server_done g me from w f area initial state out to a x ar st o u i e p =
    ap (λ z. server_got z ar st o u) p
    ∙ ap server_got_of e
    ∙ ap (λ (z : Party). server_got_of (byte_delivery digest_of g me z f area initial state out to)) i

pub playback_done : (g : Params) (me : ℕ) (value trace area initial state out : List ℕ) (a : Response Summed) (x : ℕ) (ar i st o : List ℕ)
    → bytes_played a ar i st o ≡ byte_playback digest_of g me value trace area initial state out → x ≡ playback_answer a
    → played_back x ar i st o ≡ playback_call g me value trace area initial state out
unfolding playback_call
playback_done g me value trace area initial state out a x ar i st o e p = ap (λ z. played_back z ar i st o) p ∙ ap played_back_of e

pub resume_done : (g : Params) (me : ℕ) (trace area initial state out to : List ℕ) (a : Response Summed) (x : ℕ) (ar st o u : List ℕ)
    → resumption a (areas ar st o u) ≡ byte_resumption digest_of g me initial trace (areas area state out to) → x ≡ playback_answer a
    → resumed_to x ar st o u ≡ resume_call g me trace area initial state out to
unfolding resume_call
resume_done g me trace area initial state out to a x ar st o u e p = ap (λ z. resumed_to z ar st o u) p ∙ ap resumed_of e
