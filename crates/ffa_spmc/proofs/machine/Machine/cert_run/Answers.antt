-- SPDX-License-Identifier: MIT OR Apache-2.0
use Rattle.std.proofs.Common.{sym, subst}
use Rattle.ffa_model.specs.Certificate.{IsRun, run_from}
use Rattle.ffa_model.proofs.Certificates.{run-is}
use Rattle.ffa_spmc.proofs.machine.Machine.cert_run.Goals as goal

pub returns-clause-computed : goal.returns-clause-computed
unfolding run_from
returns-clause-computed g c = λ i. record {
  first = c.args.from;
  last = record { 0 = c.last_from.ensures i };
  owner = record { 0 = c.owner_of.ensures i };
  handle = c.handle_at.ensures i;
  access = c.accesses.ensures i;
}

pub returns-clause-run : goal.returns-clause-run
returns-clause-run g c =
    let s = c.args.self.now.state in
    subst (IsRun s c.args.from.0) (sym (returns-clause-computed g c)) (run-is s c.args.from.0 c.requires)
