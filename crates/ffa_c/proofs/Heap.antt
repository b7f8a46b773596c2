-- SPDX-License-Identifier: MIT OR Apache-2.0
-- The heap's handle as one machine value, and the drop of a value as a call asks for it. Assumes `Logic`.
use Rattle.ffa_lent.proofs.Steps.{[], ◌∷◌, refl, raw, ◌$◌, ◌∵◌, !, qed, drop, join, RattleType, Struct, bare, ⊑_refl, sem, vunit, vstruct, ftrue, plain, nothing, unit, fsep, SProp, sep, emp, emp∗, ex_i, Running, layout, param, Signature, Res, Meets, Spec, run_framed, vcons, vnil, Dict, impl, tcons, tnil, dnil, method, no_args, Ura, by, Logic}
use denote.Struct.Declared.{shape}
use denote.Struct.Laws.{field_plain}
use denote.Param.Glue as glue
use denote.Triple.Carry.{beside, spared}
use Rattle.std.proofs.Handle.{heap_val, heap_Tells}
use Rattle.ffa_lent.proofs.Pointers.{Handle}
use prog.Model.{Model}
use Rattle.std.proofs.alloc.Global.TheLaws as heap_laws
use Rattle.std.specs.contracts.alloc.Global as heap
use Rattle.std.specs.contracts.impls.GlobalAllocator.TheImpl.{ghosts, dict}

abbrev to : heap.the_row.Denot → (Struct (shape heap.the_type)).Denot
to = heap.the_type.to

abbrev pub keeper : Handle
keeper = record {
  A = heap.the_row;
  laws = heap_laws.the_row_laws;
  pure = λ a vs. field_plain heap.the_type heap_laws.the_plain (to a) vs;
  R = Struct (shape heap.the_type);
  into = to;
  into_one = heap.the_type.to_one;
  plain = field_plain heap.the_type heap_laws.the_plain;
  ghosts = ghosts;
  dict = dict;
  drops = impl ("ffa_c::Destruct++none::drop" ∷ []) (tcons (bare (layout heap.the_row)) tnil) dnil;
  hand = heap_val;
  fits = (tt, ((tt, tt), tt));
  tells = heap_Tells;
  is_field = λ a. ((vstruct (vcons vunit vnil) ∷ [], tt), (refl, (((vunit ∷ [], tt), (refl, (refl, tt))), tt)));
  is = λ a. ((vstruct (vcons vunit vnil) ∷ [], tt), (refl, (((vunit ∷ [], tt), (refl, (refl, tt))), tt)));
  unseen = λ a. (tt, (λ w. tt));
  lasts = ⊑_refl [];
}

abbrev pub dropped : RattleType → Signature
dropped R = record { lifetimes = 0; outlives = []; params = plain (λ _. param 0 R) ∷ []; result = plain (λ _. unit) }

-- a drop that asks nothing is one that a call may be given, whatever it ensures
module _ {M : Type 1} {𝓤 : Ura M} (𝓛 : Logic 𝓤) (𝓜 : Model 𝓤 𝓛.H) (𝓡 : Running 𝓤 𝓛.H 𝓜) (R : RattleType) (d : Dict) where
  abbrev pub says_so : ((x : R.Denot) → Res (dropped R) tt → SProp 𝓤) → Spec 𝓤 (dropped R)
  says_so E κs a = record { ghost = Unit {0}; requires = λ _. emp 𝓤; ensures = λ _ r. E a.0 r }

  abbrev nothing_seen : R.Denot → Res (dropped R) tt → SProp 𝓤
  nothing_seen x r = (glue.spent 𝓛 R ([], tt) (x, tt)).ensures tt r

  -- what is seen of a value that is used up, which is nothing
  abbrev unseen : Unit {0} × Unit {0} → SProp 𝓤
  unseen _ = sep 𝓤 (sem 𝓛 (fsep ftrue ftrue)) (emp 𝓤)

  pub drop_met : (E : (x : R.Denot) → Res (dropped R) tt → SProp 𝓤)
      → Meets 𝓛 (dropped R) (𝓡.run (𝓡.env (method d 0 no_args))) (says_so E) → glue.Met 𝓛 𝓜 𝓡 𝓡.env R d
  drop_met E met =
      let key = method d 0 no_args in let framed = run_framed 𝓤 𝓛.H 𝓜 𝓡 (𝓡.env key) in
      let silent = beside 𝓛 (dropped R) (𝓡.run (𝓡.env key)) framed (says_so E) (says_so nothing_seen) (λ κs a x. x) (λ κs a x. emp 𝓤)
      (λ κs a x. emp∗ 𝓤 (emp 𝓤))
      (λ κs a x r. qed 𝓛 (raw (E a.0 r) ∷ raw (emp 𝓤) ∷ []) ∵ drop ! $ nothing ! $ nothing ! $ join ! $ join ! $ by ! (ex_i 𝓤 unseen (tt, tt))) met in
      spared 𝓛 (dropped R) (𝓡.run (𝓡.env key)) framed 1 (R.lives, tt) (says_so nothing_seen) silent
