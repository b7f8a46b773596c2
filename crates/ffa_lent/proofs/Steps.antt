-- SPDX-License-Identifier: MIT OR Apache-2.0
-- The names that the walks of this crate, and of those over it, cite.
pub use Rattle.std.proofs.Common.{◌≡◌, ℕ, List, [], ◌∷◌, ◌++◌, Option, None, Some, refl, sym, ap, ◌∙◌, lit<, ◌<◌, length, arith, ◌+◌}
pub use Rattle.std.specs.Prelude.{IsSome, Err, false}
pub use Rattle.std.proofs.raw_atomic.Walks.{proved, proved_at}
pub use Rattle.std.proofs.alloc.Calls.{Goes-blank, Al, handle_tells, Fits, token, Answer, answer_val, Answer-err, Answer-typed}
pub use base.Fraction.{full_share}
pub use base.Logic.{id⊢, never, fst∗, SProp, ent, sep, emp, via, guard_i, emp∗, ex_i}
pub use base.Fml.{ftrue, flft, Fml, GName, fsep}
pub use contract.BorrowLft.{◌⊑◌, ⊑_refl}
pub use types.Logic.{sem, Logic}
pub use mir.Raw.{raw as bare}
pub use denote.Laws.{Is, shows}
pub use denote.Memory.{lone, cell_at, mem, part_at}
pub use denote.Param.NoDrop.{glues}
pub use mir.Syntax.{named, w64, Body, Callee, Dict, Fn, Sym, Ty, addr_of, aggregate, assign, block, call, copy, deref, erased, field, int, local, mut, place, return, rv_opd, seq, tcons, tnil, ty_ptr, ty_ref, ty_struct, value_local, impl, dnil, Width, int_big, method, no_args}
pub use mir.Val.{Val, vunit, vptr, vstruct, of_list, WT, has_ty, vnil, vcons}
pub use contract.Monad.{fact, Fun, fact_i, fact_use}
pub use contract.Running.{tables, MachineTables, Running}
pub use prog.Wp.{WpFn, Closed, Env}
pub use types.Kit.{‵, raw, given, learn, ◌⊛◌, some, later, prop, at_ret, ◌$◌, ◌∵◌, !, qed, done, move, keep, drop, use0, use1, split, join, fsplit, fjoin, fpick, feq_i, feq_l, pick, await, rewrite, regoal, suffices, group, Goal, Item, Step, fpack, frame, fsplit3, step, Soaks, Seq, by}
pub use types.Run.{enter, of_opd, lit, unit_lit, stop, fld, no_more, and_then, first, blocks, exec, returns, addr, load, Opd, bin}
pub use types.ByLocal.{alloc_all, pass_all, free_all, look_at, get, get_in, sets, lands_as, lands_last, env, through, sets_last}
pub use types.Part.{agg, sub, whole, look_in}
pub use denote.Builtin.{u8, usize, unit, RefOf}
pub use denote.Exit.{yes, Last, left, no}
pub use denote.Plain.{uint_vals, uint_Tells}
pub use denote.RawPtr.{Ptr, RawPtr, block_ptr, null_ptr, ptr_val, in_a_block, rawptr_vals, rawptr_Tells, rawptr_Lawful}
pub use denote.Ref.{shr_vals, shr_Tells, MutRef, mut_vals, mut_Tells}
pub use denote.RattleType.{RattleType, owns, Valss}
pub use denote.Signature.{plain, mut_ref_to, type_at, types_at, Signature}
pub use denote.Shadow.{Pure, shadow, shows_shadow, makes_shadow}
pub use denote.Steps.{nothing, owned, peeks, heard, only, opens}
pub use denote.Struct.Laws.{RawPtr-plain, u8-laws, u8-copy}
pub use denote.Triple.Call.{calls_at, calls_at_last}
pub use denote.Triple.Entry.{Vals, alive, on_entry, Args, Res}
pub use denote.Triple.Spec.{triple_of, Meets, Spec}
pub use denote.Triple.Table.{framed, run_framed}
pub use denote.Triple.Walked.{Stays, walk_of, says, stay_dropped, Goes-dropped, ends_at, Goes-spent_ref}
pub use denote.Param.{arg, layout, param}
pub use denote.Param.Laws.{Laws, arg_laws, array_laws, of_field}
pub use denote.Struct.Struct.{Plains, Shape, Struct, Struct-Makes, Struct-Pure, as_fields, within}
pub use seplogic.Ra.Ura.{Ura}
