-- SPDX-License-Identifier: MIT OR Apache-2.0
-- No line changes how many processors a trace may name.
use Rattle.std.proofs.Common.{◌≡◌, ℕ, Bool, true, false, List, [], ◌∷◌, Option, Some, None, nat_lt, ◌∙◌, refl}
use Rattle.ffa_model.specs.State.{State}
use Rattle.ffa_playable.specs.Bench.{Bench, Several, processors_of, turned_by}
use Rattle.play_trace.specs.TraceLines.{Line, operate, turn, line_in}
use Rattle.play_trace.specs.TraceText.{line_after, after, after_all}

processors-turned : (several : Option Several) (s : State) (p : ℕ)
    → processors_of (turned_by several s p) ≡ processors_of (record { state = s; several = several })
processors-turned None s p = refl
processors-turned (Some x) s p = of (nat_lt p x.count) refl
  where
    of : (b : Bool) → nat_lt p x.count ≡ b → processors_of (turned_by (Some x) s p) ≡ Some x.count
    of true is = rw is refl
    of false is = rw is refl

pub processors-after-line : (b : Bench) (line : Line) → processors_of (line_after b line) ≡ processors_of b
processors-after-line b (operate op) = refl
processors-after-line b (turn processor) = processors-turned b.several b.state processor
processors-after-line b _ = refl

pub processors-after : (b : Bench) (bytes : List ℕ) → processors_of (after b bytes) ≡ processors_of b
unfolding after
processors-after b bytes = of (line_in (processors_of b) bytes) refl
  where
    of : (line : Option Line) → line_in (processors_of b) bytes ≡ line → processors_of (after b bytes) ≡ processors_of b
    of None is = rw is refl
    of (Some line) is = rw is (processors-after-line b line)

pub processors-after-all : (b : Bench) (lines : List (List ℕ)) → processors_of (after_all b lines) ≡ processors_of b
processors-after-all b [] = refl
processors-after-all b (line ∷ lines) = processors-after-all (after b line) lines ∙ processors-after b line
