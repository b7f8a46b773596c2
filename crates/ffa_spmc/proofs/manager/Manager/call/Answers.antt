-- SPDX-License-Identifier: MIT OR Apache-2.0
use Rattle.std.proofs.Common.{◌∙◌, Bool, ap, subst}
use Rattle.ffa_model.specs.Refusals.{passes_no_error}
use Rattle.ffa_laws.specs.OwnAccess.{is_memory_call}
use Rattle.ffa_model.proofs.Served.{decode-named}
use Rattle.ffa_model.specs.declared.call.Call.{Call}
use Rattle.ffa_physmem.specs.Work.{AddsAtMost}
use Rattle.ffa_spmc.specs.Work.{call_work}
use Rattle.ffa_spmc.specs.Served.{IsSilent}
use Rattle.ffa_spmc.proofs.manager.Manager.call.Goals as goal

pub reply-reply-requires : goal.reply-reply-requires
reply-reply-requires g c = ap passes_no_error c.decode_into.ensures ∙ decode-named c.args.x.now

pub returns-clause-changed : goal.returns-clause-changed
returns-clause-changed g c = let a = c.reply-reply.ensures in (a.changed, a.forgotten, a.told, λ other. subst (λ (b : Bool). IsSilent b a.changed) (ap is_memory_call c.decode_into.ensures ∙ other) a.silent)

pub returns-clause-few : goal.returns-clause-few
returns-clause-few g c =
    subst (λ (call : Call). AddsAtMost c.args.self.now.past c.reply-reply.new.self.past (call_work c.args.self.now.state call)) c.decode_into.ensures c.reply-reply.ensures.replied.few
