-- SPDX-License-Identifier: MIT OR Apache-2.0
use Rattle.std.proofs.Common.{◌≡◌, ◌∙◌, of_calls, Option, Some, Err, sym, ap}
use Rattle.std.specs.FinMap as finite
use Rattle.ffa_rxtx.specs.Parts.{ownership_in}
use Rattle.ffa_model.specs.Calls.{first_refusal}
use Rattle.ffa_model.specs.MemoryReturn.{reclaim_guards}
use Rattle.ffa_model.specs.State.{Transaction}
use Rattle.ffa_memshare.specs.Stored.{map_in, view_of}
use Rattle.ffa_memshare.proofs.Asks.{asked-open}
use Rattle.ffa_memshare.proofs.pool.Pool.check_reclaim.Goals as goal

pub check_reclaim-requires-clause-placed : goal.check_reclaim-requires-clause-placed
check_reclaim-requires-clause-placed g c = let it = c.at-open.result.now in c.requires c.in-Some.slot it.handle (view_of it) c.at-open.ensures.value

pub returns-in_err-check_reclaim-clause-refusal : goal.returns-in_err-check_reclaim-clause-refusal
returns-in_err-check_reclaim-clause-refusal g c =
    let slots = c.args.self.now.slots in
    let h = c.args.handle.0 in
    let it = c.at-open.result.now in
    let get : finite.get (map_in slots) h ≡ Some (view_of it) = asked-open slots c.in-Some.slot h it c.in-Some.ensures.found c.at-open.ensures.value c.at-open.ensures.open in
    let refused : c.from_residual.result ≡ Err c.in_err-check_reclaim.field-0.0 = search of_calls in
    rw refused
    (c.in_err-check_reclaim.ensures
    ∙ ap (λ (o : Option Transaction). first_refusal (reclaim_guards (ownership_in c.args.pages.now c.args.base.0) c.args.caller.0 c.args.flags o)) (sym get))

pub returns-clause-refusal : goal.returns-clause-refusal
returns-clause-refusal g c =
    let slots = c.args.self.now.slots in
    let h = c.args.handle.0 in
    let it = c.at-open.result.now in
    let get : finite.get (map_in slots) h ≡ Some (view_of it) = asked-open slots c.in-Some.slot h it c.in-Some.ensures.found c.at-open.ensures.value c.at-open.ensures.open in
    c.in_ok-check_reclaim.ensures
    ∙ ap (λ (o : Option Transaction). first_refusal (reclaim_guards (ownership_in c.args.pages.now c.args.base.0) c.args.caller.0 c.args.flags o)) (sym get)
