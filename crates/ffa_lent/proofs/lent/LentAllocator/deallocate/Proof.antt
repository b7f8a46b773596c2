-- SPDX-License-Identifier: MIT OR Apache-2.0
-- `deallocate` leaves the block to whoever lent it.
use Rattle.ffa_lent.proofs.Steps.{[], ◌∷◌, refl, proved, vunit, named, w64, ‵, raw, ◌⊛◌, ◌$◌, ◌∵◌, !, qed, done, move, drop, split, join, feq_i, suffices, group, enter, of_opd, unit_lit, returns, alloc_all, pass_all, free_all, look_at, sets, usize, RefOf, yes, uint_vals, uint_Tells, RawPtr, rawptr_vals, rawptr_Tells, rawptr_Lawful, shr_vals, shr_Tells, owns, plain, nothing, Vals, alive, Stays, walk_of, stay_dropped, Goes-dropped, ends_at, types_at}
use Rattle.ffa_lent.specs.contracts.lent.Lent.{the_row as Lent}
use Rattle.ffa_lent.specs.contracts.lent.LentAllocator.deallocate as f
use Rattle.ffa_lent.proofs.lent.LentAllocator.deallocate.Statement.{statement}
use Rattle.ffa_lent.proofs.lent.LentAllocator.deallocate.Code as code

abbrev stayed : Stays f.ended.signature.params f.ended.kept
stayed = (stay_dropped _ yes, (stay_dropped _ yes, (stay_dropped _ yes, (stay_dropped _ yes, tt))))

pub deallocate_spec : {M : Type 1} → statement M
deallocate_spec 𝓤 𝓛 𝓜 𝓡 wired =
    let c = f.clauses 𝓛 𝓜.mem 𝓡.returns in let W = walk_of 𝓛 f.ended stayed c in
    let number = Goes-dropped 𝓛 1 (plain (λ _. usize)) yes (λ κs x w. refl) in
    proved 𝓛 f.ended stayed c 𝓜 𝓡
    (Goes-dropped 𝓛 1 (RefOf (0 ∷ []) tt (plain (λ _. Lent)) (λ _. tt)) yes (λ κs x w. refl), (Goes-dropped 𝓛 1 (plain (λ _. RawPtr)) yes (λ κs x w. refl), (number, (number, tt))))
    f.Key.name code.function (code.unfolded 𝓤 𝓛.H 𝓜 𝓡 wired)
    (λ κs. (shr_vals, (rawptr_vals, (uint_vals w64, (uint_vals w64, tt)))))
    (λ κs. (shr_Tells (named 0) κs.0 Lent, (rawptr_Tells, (uint_Tells w64, (uint_Tells w64, tt))))) (λ κs qs bounds a block are.
    let vss : Vals f.signature κs = (shr_vals a.0, (rawptr_vals a.1.0, (uint_vals w64 a.1.1.0, (uint_vals w64 a.1.1.1.0, tt)))) in
    let y : W.Ghost = ((κs, qs, bounds, a, vss), block) in
    qed 𝓛 ((raw (alive 𝓛 f.signature κs qs) ⊛ ‵ (owns (types_at f.signature.params κs) a vss)) ∷ raw ((c κs a).requires block) ∷ []) ∵
    split ! $ move ! (1 ∷ 2 ∷ []) $ drop ! $ drop ! $
    enter ! _ _ _ _ _ $ alloc_all ! (λ l.
    pass_all ! refl ((tt, tt), (((rawptr_Lawful 𝓛).typed a.1.0 _ refl).0, ((tt, record { fits = are.1.1.0.1 }), ((tt, record { fits = are.1.1.1.0.1 }), tt)))) $
    sets ! (of_opd ! (unit_lit !)) refl (tt, tt) $
    returns ! (look_at ! 0 refl) $ free_all ! refl $
    suffices ! _ (ends_at 𝓛 f.ended stayed c y vunit tt (tt, (tt, (tt, (tt, tt)))) (tt, (tt, (tt, (tt, tt))))) $
    nothing ! $ feq_i ! _ (vunit ∷ []) _ refl $
    nothing ! $ nothing ! $ join ! $ nothing ! $ join ! $ nothing ! $ join ! $ nothing ! $ join ! $ move ! (3 ∷ 0 ∷ 1 ∷ []) $ group ! 3 $ done !))
