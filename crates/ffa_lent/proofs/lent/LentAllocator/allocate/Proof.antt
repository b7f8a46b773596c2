-- SPDX-License-Identifier: MIT OR Apache-2.0
-- `allocate` has no memory to give.
use Rattle.ffa_lent.proofs.Steps.{[], ◌∷◌, refl, proved, named, w64, ‵, raw, ◌⊛◌, ◌$◌, ◌∵◌, !, qed, done, move, drop, use0, split, join, suffices, group, enter, lit, no_more, and_then, returns, alloc_all, pass_all, free_all, look_at, get, sets, agg, usize, RefOf, yes, uint_vals, uint_Tells, shr_vals, shr_Tells, owns, plain, nothing, Vals, alive, Stays, walk_of, stay_dropped, Goes-dropped, ends_at, types_at, Answer, answer_val, Answer-err, Answer-typed, Err, false}
use Rattle.ffa_lent.specs.contracts.lent.Lent.{the_row as Lent}
use Rattle.ffa_lent.specs.contracts.lent.LentAllocator.allocate as f
use Rattle.ffa_lent.proofs.lent.LentAllocator.allocate.Statement.{statement}
use Rattle.ffa_lent.proofs.lent.LentAllocator.allocate.Code as code

abbrev stayed : Stays f.ended.signature.params f.ended.kept
stayed = (stay_dropped _ yes, (stay_dropped _ yes, (stay_dropped _ yes, tt)))

pub allocate_spec : {M : Type 1} → statement M
allocate_spec 𝓤 𝓛 𝓜 𝓡 wired =
    let c = f.clauses 𝓛 𝓜.mem 𝓡.returns in let W = walk_of 𝓛 f.ended stayed c in
    let number = Goes-dropped 𝓛 1 (plain (λ _. usize)) yes (λ κs x w. refl) in
    proved 𝓛 f.ended stayed c 𝓜 𝓡 (Goes-dropped 𝓛 1 (RefOf (0 ∷ []) tt (plain (λ _. Lent)) (λ _. tt)) yes (λ κs x w. refl), (number, (number, tt)))
    f.Key.name code.function (code.unfolded 𝓤 𝓛.H 𝓜 𝓡 wired)
    (λ κs. (shr_vals, (uint_vals w64, (uint_vals w64, tt)))) (λ κs. (shr_Tells (named 0) κs.0 Lent, (uint_Tells w64, (uint_Tells w64, tt)))) (λ κs qs bounds a of are.
    let vss : Vals f.signature κs = (shr_vals a.0, (uint_vals w64 a.1.0, (uint_vals w64 a.1.1.0, tt))) in
    let y : W.Ghost = ((κs, qs, bounds, a, vss), of) in
    qed 𝓛 ((raw (alive 𝓛 f.signature κs qs) ⊛ ‵ (owns (types_at f.signature.params κs) a vss)) ∷ raw ((c κs a).requires of) ∷ []) ∵
    split ! $ move ! (1 ∷ 2 ∷ []) $ drop ! $ drop ! $
    enter ! _ _ _ _ _ $ alloc_all ! (λ l. pass_all ! refl ((tt, tt), ((tt, record { fits = are.1.0.1 }), ((tt, record { fits = are.1.1.0.1 }), tt))) $
    sets ! (agg ! (no_more !)) refl (tt, tt) $
    sets ! (agg ! (and_then ! (lit ! tt) (and_then ! (get ! refl) (no_more !)))) refl (Answer-typed false 0 0) $
    returns ! (look_at ! 0 refl) $ free_all ! refl $
    suffices ! _ (ends_at 𝓛 f.ended stayed c y (answer_val false 0 0) (Err (record {})) (tt, (tt, (tt, tt))) (tt, (tt, (tt, tt)))) $
    nothing ! $ use0 𝓛 (‵ (Answer.own_val (Err (record {})) (answer_val false 0 0 ∷ []))) (Answer-err 𝓛) $
    nothing ! $ nothing ! $ join ! $ nothing ! $ join ! $ nothing ! $ join ! $ move ! (3 ∷ 0 ∷ 1 ∷ []) $ group ! 3 $ done !))
