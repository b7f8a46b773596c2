-- SPDX-License-Identifier: MIT OR Apache-2.0
-- `none` owns nothing.
use Rattle.ffa_lent.proofs.Steps.{[], ◌∷◌, None, refl, lit<, ftrue, proved, ‵, ◌⊛◌, ◌$◌, ◌∵◌, !, qed, done, drop, suffices, group, enter, lit, no_more, and_then, returns, alloc_all, pass_all, free_all, look_at, get, sets, agg, null_ptr, owns, nothing, Stays, walk_of, says, ends_at}
use Rattle.ffa_lent.proofs.Pointers.{held_in}
use Rattle.ffa_lent.proofs.Slots.{lender, to_page}
use Rattle.ffa_lent.specs.contracts.slot.Slot.{the_row as Slot}
use Rattle.ffa_lent.proofs.slot.Slot.TheLaws.{lowers}
use Rattle.ffa_lent.specs.contracts.slot.Slot.none as f
use Rattle.ffa_lent.proofs.slot.Slot.none.Statement.{statement}
use Rattle.ffa_lent.proofs.slot.Slot.none.Code as code

abbrev stayed : Stays f.ended.signature.params f.ended.kept
stayed = tt

pub none_spec : {M : Type 1} → statement M
none_spec 𝓤 𝓛 𝓜 𝓡 wired =
    let c = f.clauses 𝓛 𝓜.mem 𝓡.returns in let W = walk_of 𝓛 f.ended stayed c in
    proved 𝓛 f.ended stayed c 𝓜 𝓡 tt
    f.Key.name code.function (code.unfolded 𝓤 𝓛.H 𝓜 𝓡 wired)
    (λ κs. tt) (λ κs. tt) (λ κs qs bounds a _ are.
    let y : W.Ghost = ((κs, qs, bounds, a, tt), tt) in
    let d : Slot.Denot = record { at = null_ptr; lent = record { at = null_ptr }; bytes = None } in
    qed 𝓛 ((‵ ftrue ⊛ ‵ (owns [] a y.0.4)) ∷ ‵ ftrue ∷ []) ∵ drop ! $ drop ! $
    enter ! _ _ _ _ _ $ alloc_all ! (λ l. pass_all ! refl tt $
    sets ! (agg ! (no_more !)) refl (tt, tt) $
    sets ! (agg ! (and_then ! (lit ! tt) (and_then ! (get ! refl) (no_more !)))) refl (tt, (record { fits = lit< tt }, (tt, tt))) $
    returns ! (look_at ! 0 refl) $ free_all ! refl $
    suffices ! _ (ends_at 𝓛 f.ended stayed c y (lowers.lowered d) d tt tt) $ says ! refl $
    nothing ! $ held_in lender to_page ! (null_ptr, (record { at = null_ptr }, None)) $
    nothing ! $ nothing ! $ group ! 3 $ done !))
