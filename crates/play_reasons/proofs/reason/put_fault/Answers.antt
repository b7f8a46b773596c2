-- SPDX-License-Identifier: MIT OR Apache-2.0
use Rattle.play_reasons.proofs.reason.put_fault.Goals as goal

pub returns-in-Alignment : goal.returns-in-Alignment
returns-in-Alignment g c = rw (c.in-Alignment.is, ← c.bytes_moved.ensures) c.put_behind.ensures

pub returns-in-AccessFlag : goal.returns-in-AccessFlag
returns-in-AccessFlag g c = rw c.in-AccessFlag.is c.put-in-AccessFlag.ensures

pub returns-in-OutsideRam : goal.returns-in-OutsideRam
returns-in-OutsideRam g c = rw c.in-OutsideRam.is c.put-in-OutsideRam.ensures
