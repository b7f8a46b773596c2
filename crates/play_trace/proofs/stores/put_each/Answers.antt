-- SPDX-License-Identifier: MIT OR Apache-2.0
use Rattle.std.proofs.Common.{◌≡◌, ◌^◌, ◌<◌, sym, subst}
use Rattle.byteorder.specs.Endian.{little_from}
use Rattle.byteorder.specs.Numbers.{little_from-lt}
use Rattle.ffa_model.specs.Memory.{size_of}
use Rattle.play_trace.proofs.Storing.{Between, next, none_left, some_left, all_stored}
use Rattle.play_trace.proofs.stores.put_each.Goals as goal

pub put_operation-requires : goal.put_operation-requires
put_operation-requires g c =
    let rest = c.loop-rest.rest.now in
    let value : c.read_uint-value.result ≡ little_from 0 c.bytes-count.result rest = c.read_uint-value.ensures in
    let count : c.bytes-count.result ≡ size_of c.largest-size.result = c.bytes-count.ensures in
    subst (λ n. c.read_uint-value.result < 256 ^ n) count (subst (λ v. v < 256 ^ c.bytes-count.result) (sym value) (little_from-lt 0 c.bytes-count.result rest c.loop-rest.invariant.small))

pub loop-rest-preserved : goal.loop-rest-preserved
loop-rest-preserved g c =
    let rest = c.loop-rest.rest.now in
    let held = c.loop-rest.invariant in
    let between : Between c.args.address c.loop-rest.addr c.args.bytes.now rest c.args.text.now.items c.loop-rest.text.items =
    record { stored = held.stored; ready = held.ready; small = held.small; inside = held.inside } in
    let after =
    next _ _ _ rest _ _ c.put_operation.new.text.items c.split_at.result.1.now c.largest-size.result c.bytes-count.result c.read_uint-value.result
    c.largest-size.ensures c.bytes-count.ensures c.read_uint-value.ensures c.split_at.ensures.back (some_left rest c.loop-rest-test.ensures) held.small between
    c.in_ok-put_operation.ensures.written in
    record { stored = after.stored; ready = after.ready; small = after.small; inside = after.inside }

pub returns-clause-written : goal.returns-clause-written
returns-clause-written g c =
    let rest = c.loop-rest.rest.now in
    all_stored c.args.address c.loop-rest.addr c.args.bytes.now rest c.args.text.now.items c.loop-rest.text.items c.loop-rest.invariant.stored (none_left rest c.loop-rest-test.ensures)
