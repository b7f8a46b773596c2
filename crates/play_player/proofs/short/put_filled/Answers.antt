-- SPDX-License-Identifier: MIT OR Apache-2.0
use Rattle.std.proofs.Common.{◌≡◌, ◌==◌, ◌++◌, true, false, append-nil, append_assoc, ap, sym, subst, ◌∙◌, slice_index}
use Rattle.std.specs.List.{flat_map, list_all}
use Rattle.std.proofs.lemmas.List.{take_rest}
use Rattle.play_trace.specs.TraceText.{spaced}
use Rattle.play_reasons.specs.Drafts.{Puts}
use Rattle.play_reasons.proofs.Together.{together}
use Rattle.play_player.specs.Short.{filled, short_number}
use Rattle.play_player.proofs.ShortWords.{filled_none, filled_step}
use Rattle.play_player.proofs.short.put_filled.Goals as goal

pub loop-rest-preserved : goal.loop-rest-preserved
loop-rest-preserved g c =
    let i = c.loop-rest.invariant in
    let rest = c.loop-rest.rest.now in
    let first = spaced (short_number (slice_index rest 0)) in
    let some : list_all (λ v. v == 0) rest ≡ false = sym c.is_zero.ensures ∙ c.loop-rest-test.true in (
      i.0 ++ first,
      together c.args.text.now c.loop-rest.text c.put_word.new.text i.0 first i.1 c.put_word.ensures,
      ap (λ r. (i.0 ++ first) ++ flat_map (λ v. spaced (short_number v)) (filled r)) (take_rest rest 1)
          ∙ append_assoc i.0 first _ ∙ ap (λ t. i.0 ++ t) (filled_step (λ v. spaced (short_number v)) rest some) ∙ i.2,
    )

pub returns : goal.returns
returns g c =
    let i = c.loop-rest.invariant in
    let rest = c.loop-rest.rest.now in
    let none : list_all (λ v. v == 0) rest ≡ true = sym c.is_zero.ensures ∙ c.loop-rest-test.false in
    let whole = sym (append-nil i.0) ∙ ap (λ r. i.0 ++ flat_map (λ v. spaced (short_number v)) r) (sym (filled_none rest none)) ∙ i.2 in
    subst (Puts c.args.text.now c.loop-rest.text) whole i.1
