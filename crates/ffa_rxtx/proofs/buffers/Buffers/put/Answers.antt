-- SPDX-License-Identifier: MIT OR Apache-2.0
use Rattle.std.proofs.Common.{◌∙◌, option_map}
use Rattle.ffa_model.proofs.Written.{map-refill-set}
use Rattle.ffa_rxtx.specs.Stored.{buffers_of}
use Rattle.ffa_rxtx.proofs.buffers.Buffers.put.Goals as goal

pub returns : goal.returns
returns c =
    map-refill-set (option_map buffers_of) c.self.inside.entries.items c.deref_mut.result.now c.place.result c.args.buffers c.deref_mut.ensures.value
    ∙ cc
