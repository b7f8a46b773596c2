-- SPDX-License-Identifier: MIT OR Apache-2.0
use Rattle.ffa_model.specs.declared.call.Reply.TheVariants.{Pending}
use Rattle.ffa_notify.proofs.bitmaps.Bitmaps.pending_reply.Goals as goal

pub returns : goal.returns
returns c = λ t. Pending (c.asked_word-partitions.ensures t) (c.asked_word-normal_world.ensures t) (c.asked_word-manager.ensures t)
