-- SPDX-License-Identifier: MIT OR Apache-2.0
use Rattle.std.proofs.Common.{rules}
use Rattle.ffa_physmem.proofs.memory.PhysMem.copy.Goals as goal

pub returns-clause-ram : goal.returns-clause-ram
returns-clause-ram g c = search rules

pub returns-clause-steps : goal.returns-clause-steps
returns-clause-steps g c = g.met.Self.PhysMem.in_loan c.args.self.now c.args.to.0 c.put_front.new.target

pub returns-clause-spent : goal.returns-clause-spent
returns-clause-spent g c = g.met.Self.PhysMem.one_loan c.args.self.now c.args.to.0 c.put_front.new.target
