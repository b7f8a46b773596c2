-- SPDX-License-Identifier: MIT OR Apache-2.0
use Rattle.ffa_memshare.specs.Stored.{view_of}
use Rattle.ffa_memshare.proofs.Asks.{asked-slot}
use Rattle.ffa_memshare.proofs.pool.Pool.check_asked.Goals as goal

pub check_retrieve-requires-clause-placed : goal.check_retrieve-requires-clause-placed
check_retrieve-requires-clause-placed g c = let it = c.at-open.result.now in c.requires.placed c.in-Some.slot it.handle (view_of it) c.at-open.ensures.value

pub returns-clause-found : goal.returns-clause-found
returns-clause-found g c bytes is =
    let asked = c.args.asked.now in
    let it = c.at-open.result.now in
    record {
      asked = asked;
      transaction = view_of it;
      described = is;
      slot = asked-slot c.args.self.now.slots c.in-Some.slot asked.handle it c.in-Some.ensures.found c.at-open.ensures.value;
      right = c.in_ok-right.ensures.right;
    }
