-- SPDX-License-Identifier: MIT OR Apache-2.0
-- `split` hands on what the strip owns: the first page's memory to a slot, and the rest to a strip.
use Rattle.ffa_lent.proofs.Steps.{[], ◌∷◌, List, Some, refl, sym, ap, lit<, proved, ftrue, fact, Val, tables, WpFn, ‵, raw, ◌⊛◌, prop, at_ret, ◌$◌, ◌∵◌, !, qed, done, move, keep, drop, split, fsplit, join, fjoin, feq_i, regoal, suffices, group, enter, of_opd, stop, fld, no_more, and_then, first, blocks, exec, returns, alloc_all, pass_all, free_all, look_at, get, get_in, sets, env, agg, sub, whole, yes, Ptr, block_ptr, ptr_val, owns, plain, nothing, heard, Stays, walk_of, stay_dropped, Goes-dropped, ends_at, vstruct, of_list, ◌+◌, ◌<◌, length, Valss, within, sets_last, fpack, bin}
use denote.Struct.Declared.{shape}
use denote.Struct.Tuple.{tuple_type}
use Rattle.std.proofs.mem.Facts.{says_two}
use Rattle.ffa_lent.specs.Places.{places_from}
use Rattle.ffa_lent.proofs.Pointers.{held_in}
use Rattle.ffa_lent.proofs.Slots.{Page, lender, to_page}
use Rattle.ffa_lent.specs.contracts.slot.Slot.{the_row as Slot}
use Rattle.ffa_lent.proofs.Strips.{Strip, strip_vals, strip_in, strip_out, big_lit}
use Rattle.ffa_lent.proofs.slot.Slot.TheLaws.{lowers as slot_lowers}
use Rattle.ffa_lent.proofs.span.Strip.TheLaws.{lowers}
use Rattle.ffa_lent.specs.contracts.span.Strip.split as f
use Rattle.ffa_lent.proofs.span.Strip.split.Statement.{statement}
use Rattle.ffa_lent.proofs.span.Strip.split.Code as code

abbrev stayed : Stays f.ended.signature.params f.ended.kept
stayed = (stay_dropped _ yes, tt)

pub split_spec : {M : Type 1} → statement M
split_spec 𝓤 𝓛 𝓜 𝓡 wired =
    let c = f.clauses 𝓛 𝓜.mem 𝓡.returns in let W = walk_of 𝓛 f.ended stayed c in let 𝓣 = tables 𝓤 𝓛.H 𝓜 𝓡 𝓡.env in
    proved 𝓛 f.ended stayed c 𝓜 𝓡 (Goes-dropped 𝓛 0 (plain (λ _. Strip)) yes (λ κs x w. refl), tt)
    f.Key.name code.function (code.unfolded 𝓤 𝓛.H 𝓜 𝓡 wired)
    (λ κs. (strip_vals, tt)) (λ κs. (lowers.val_is, tt)) (λ κs qs bounds a _ are.
    let d = a.0 in let y : W.Ghost = ((κs, qs, bounds, a, (strip_vals d, tt)), tt) in
    qed 𝓛 ((‵ ftrue ⊛ ‵ (owns (Strip ∷ []) a y.0.4)) ∷ raw (fact 𝓤 (0 < length d.pages)) ∷ []) ∵
    move ! (1 ∷ []) $ heard ! _ (λ some. split ! $ drop ! $ fsplit ! $ fsplit ! $ drop ! $
    strip_out ! Page d.at d.pages some (λ x rest held b o at.
    regoal ! (λ p. prop (WpFn 𝓤 𝓛.H 𝓣.C 𝓣.Λ code.function (vstruct (of_list (ptr_val p ∷ [])) ∷ []) (W.post y))) at refl $
    enter ! _ _ _ _ _ $ alloc_all ! (λ l. pass_all ! refl ((tt, (tt, tt)), tt) $
    sets ! (of_opd ! (get_in ! (fld ! refl (stop !)) (sub ! 0 refl (whole !)))) refl (tt, tt) $
    first ! $ blocks ! $ sets_last ! (bin ! (get ! refl) (big_lit ! (record { fits = lit< tt })) tt) refl (tt, tt) $
    exec ! 𝓣.C 𝓣.Λ (env code.Mir.locals l) code.Mir.t-3 (at_ret _ (W.post y)) $
    sets ! (of_opd ! (get ! refl)) refl (tt, tt) $
    sets ! (of_opd ! (get ! refl)) refl (tt, tt) $
    sets ! (agg ! (no_more !)) refl (tt, tt) $
    sets ! (agg ! (and_then ! (get ! refl) (and_then ! (get ! refl) (no_more !)))) refl (tt, (tt, (tt, tt))) $
    sets ! (agg ! (and_then ! (get ! refl) (no_more !))) refl (tt, (tt, tt)) $
    sets ! (agg ! (and_then ! (get ! refl) (and_then ! (get ! refl) (no_more !)))) refl (tt, ((tt, (tt, tt)), ((tt, tt), tt))) $
    returns ! (look_at ! 0 refl) $ free_all ! refl $ keep ! (1 ∷ 0 ∷ []) $
    let slot : Slot.Denot = record { at = block_ptr b o; lent = record { at = block_ptr b o }; bytes = Some x } in
    let behind : Strip.Denot = record { at = block_ptr b (4096 + o); pages = rest } in
    let pair : Val = vstruct (of_list (slot_lowers.lowered slot ∷ lowers.lowered behind ∷ [])) in
    suffices ! _ (ends_at 𝓛 f.ended stayed c y pair (slot, behind) (tt, tt) (tt, tt)) $ says_two ! (ap Some (sym held), λ j. places_from (sym at j) (length (sym held j))) $
    -- [the strip behind; the first page]
    strip_in ! (block_ptr b (4096 + o)) rest $
    feq_i ! Ptr (block_ptr b o) (block_ptr b o) refl $ move ! (2 ∷ 0 ∷ []) $ fjoin ! $ held_in lender to_page ! (block_ptr b o, (record { at = block_ptr b o }, Some x)) $
    -- [the slot; the strip]
    nothing ! $ move ! (2 ∷ 0 ∷ []) $ fjoin ! $ move ! (1 ∷ 0 ∷ []) $ fjoin ! $ feq_i ! (List Val) (pair ∷ []) (pair ∷ []) refl $ fjoin ! $
    fpack ! (Valss (Slot ∷ Strip ∷ [])) (within (shape (tuple_type (Slot ∷ Strip ∷ []))) (slot, (behind, tt)) (pair ∷ [])) ((slot_lowers.lowered slot ∷ []), ((lowers.lowered behind ∷ []), tt)) $
    nothing ! $ nothing ! $ join ! $ nothing ! $ group ! 3 $ done !))))
