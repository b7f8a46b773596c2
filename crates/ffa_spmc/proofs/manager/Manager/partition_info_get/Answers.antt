-- SPDX-License-Identifier: MIT OR Apache-2.0
use Rattle.std.proofs.Common.{◌∙◌, ap, refl}
use Rattle.ffa_model.specs.declared.call.Reply.TheVariants.{Error}
use Rattle.ffa_model.specs.declared.operation.ErrorCode.{ErrorCode}
use Rattle.ffa_model.specs.Calls.{replied}
use Rattle.ffa_model.specs.Setup.{info_get}
use Rattle.ffa_physmem.specs.Work.{loans_of}
use Rattle.ffa_physmem.proofs.Work.{adds-none}
use Rattle.ffa_spmc.proofs.Answered.{refused-served}
use Rattle.ffa_spmc.proofs.Moments.{no-moments}
use Rattle.ffa_spmc.proofs.manager.Manager.partition_info_get.Goals as goal

pub returns-in-Err : goal.returns-in-Err
returns-in-Err g c =
    record {
      served =
          ap (λ (code : ErrorCode). replied c.args.self.now.state (Error code)) c.code.ensures
          ∙ refused-served c.args.self.now.state (info_get c.args.self.now.state c.args.uuid c.args.flags) c.in-Err.refusal c.in-Err.ensures;
      refused = λ error. refl;
      unowned = λ p behind none. refl;
      moments = no-moments c.args.self.now.state c.args.self.now.ram c.args.self.now.past;
      few = adds-none (loans_of 1);
    }
