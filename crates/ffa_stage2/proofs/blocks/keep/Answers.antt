-- SPDX-License-Identifier: MIT OR Apache-2.0
use Rattle.std.proofs.Common.{rules}
use Rattle.ffa_stage2.proofs.blocks.keep.Goals as goal

pub returns-clause-filled : goal.returns-clause-filled
returns-clause-filled g c = search rules

pub returns-clause-steps : goal.returns-clause-steps
returns-clause-steps g c = c.write_words.ensures.steps

pub returns-clause-orders : goal.returns-clause-orders
returns-clause-orders g c = c.write_words.ensures.orders

pub returns-clause-few : goal.returns-clause-few
returns-clause-few g c = c.write_words.ensures.few
