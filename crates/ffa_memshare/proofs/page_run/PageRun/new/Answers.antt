-- SPDX-License-Identifier: MIT OR Apache-2.0
use Rattle.std.proofs.Common.{arith}
use Rattle.ffa_model.specs.Ram.{page_of}
use Rattle.ffa_rxtx.proofs.Runs.{length-run}
use Rattle.ffa_memshare.proofs.page_run.PageRun.new.Goals as goal

pub returns-clause-whole : goal.returns-clause-whole
returns-clause-whole g c =
    length-run (page_of (g.M.PhysMem.ram c.args.ram.now)) c.args.first.0 c.args.pages (λ i lt. c.loop-i.invariant i (let test = c.loop-i-test.false in let auto = c.loop-i.auto.i-end in omega arith))
