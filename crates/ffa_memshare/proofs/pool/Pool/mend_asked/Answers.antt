-- SPDX-License-Identifier: MIT OR Apache-2.0
use Rattle.ffa_memshare.specs.Stored.{view_of}
use Rattle.ffa_memshare.proofs.pool.Pool.mend_asked.Goals as goal

pub mend_retrieve-requires : goal.mend_retrieve-requires
mend_retrieve-requires g c = let it = c.at.result.now in c.requires.placed c.in-Some.slot it.handle (view_of it) c.at.ensures.value
