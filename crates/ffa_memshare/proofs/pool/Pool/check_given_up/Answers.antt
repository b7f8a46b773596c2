-- SPDX-License-Identifier: MIT OR Apache-2.0
use Rattle.std.proofs.Common.{refl}
use Rattle.ffa_memshare.specs.Stored.{view_of}
use Rattle.ffa_memshare.proofs.Asks.{asked-slot}
use Rattle.ffa_memshare.proofs.pool.Pool.check_given_up.Goals as goal

pub returns-clause-found : goal.returns-clause-found
returns-clause-found g c bytes is =
    let asked = c.args.asked.now in
    let it = c.at-open.result.now in
    record {
      asked = asked;
      transaction = view_of it;
      described = is;
      slot = asked-slot c.args.self.now.slots c.in-Some.slot asked.handle it c.in-Some.ensures.found c.at-open.ensures.value;
      zero = refl;
    }
