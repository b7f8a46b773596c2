-- SPDX-License-Identifier: MIT OR Apache-2.0
use Rattle.std.proofs.Common.{◌≡◌, ◌+◌, ◌*◌, ◌≤◌, ◌++◌, ◌∙◌, length, take, get_or, refl, ap, sym, take_all, arith, codes, length-drop, flat_map}
use Rattle.play_trace.specs.TraceText.{hex, spaced}
use Rattle.play_trace.proofs.WordsPut.{one_more_put, behind_put, whole_line}
use Rattle.play_trace.proofs.text.put_registers.Goals as goal

pub loop-place-preserved : goal.loop-place-preserved
loop-place-preserved c =
    let i = c.loop-place.place in
    let old = c.loop-place.line in
    let word = spaced (hex 16 (get_or c.args.x.now i 0)) in
    let place : 9 + 17 * (i + 1) ≡ 9 + 17 * i + 17 = omega arith in
    let inside : 9 + 17 * i ≤ length old = omega (arith, length-drop 145 old, ap length c.loop-place.invariant.end) in
    record {
      so_far = ap (λ k. take k c.put_register.new.line) place
          ∙ one_more_put old word c.put_register.new.line (9 + 17 * i) 17 inside refl c.put_register.ensures (λ v. spaced (hex 16 v)) (codes "regs" ++ spaced (hex 4 c.args.runner)) c.args.x.now i (omega arith) refl c.loop-place.invariant.so_far;
      end = behind_put old word c.put_register.new.line (9 + 17 * i) 17 inside refl c.put_register.ensures 145 (omega arith) ∙ c.loop-place.invariant.end;
    }

pub returns : goal.returns
returns c =
    let place : 9 + 17 * c.loop-place.place ≡ 145 = omega arith in
    let head = codes "regs" ++ spaced (hex 4 c.args.runner) in
    let words = flat_map (λ v. spaced (hex 16 v)) (take c.loop-place.place c.args.x.now) in
    let all : take c.loop-place.place c.args.x.now ≡ c.args.x.now = take_all c.loop-place.place c.args.x.now (omega arith) in
    whole_line c.loop-place.line (head ++ words) (codes "\n") 145 (ap (λ k. take k c.loop-place.line) (sym place) ∙ c.loop-place.invariant.so_far) c.loop-place.invariant.end
    ∙ ap (λ l. (head ++ flat_map (λ v. spaced (hex 16 v)) l) ++ codes "\n") all
