-- SPDX-License-Identifier: MIT OR Apache-2.0
use Rattle.play_trace.proofs.LineCommands.{store_is, no_store}
use Rattle.play_trace.proofs.line.store.Goals as goal

pub returns-in_ok-size-in-More : goal.returns-in_ok-size-in-More
returns-in_ok-size-in-More c =
    let (word, are, number) = c.in-More.ensures in
    let (one, sized, written) = c.in_ok-size-in-More.ensures in
    store_is c.args.words.now c.in-More.rest.now word c.in-More.addr c.in_ok-size-in-More.value c.in_ok-size-in-More.size are number one sized written

pub returns-in-Last : goal.returns-in-Last
returns-in-Last c = no_store c.args.words.now c.read_front.result c.read_front.ensures c.in-Last.is
