-- SPDX-License-Identifier: MIT OR Apache-2.0
use Rattle.std.proofs.Common.{◌≡◌, arith}
use Rattle.ffa_model.specs.DescriptorPlaces.{in_version}
use Rattle.ffa_memdesc.specs.Reading.{naming_flaw_at}
use Rattle.ffa_memdesc.proofs.Firsts.{first_here, first_none}
use Rattle.ffa_memdesc.proofs.names.check_each_name.Goals as goal

pub returns-in-Err : goal.returns-in-Err
returns-in-Err g c =
    let b = in_version c.args.version (g.B.Bytes.bytes c.args.bytes.now) in
    first_here c.args.header.now.count (naming_flaw_at b c.args.header.now.array) c.loop-i.i _ c.loop-i-test.true c.loop-i.invariant c.in-Err.ensures

pub returns : goal.returns
returns g c =
    let b = in_version c.args.version (g.B.Bytes.bytes c.args.bytes.now) in
    let ended : c.loop-i.i ≡ c.args.header.now.count = (let test = c.loop-i-test.false in let auto = c.loop-i.auto.i-end in omega arith) in
    first_none c.args.header.now.count (naming_flaw_at b c.args.header.now.array) (λ i lt. c.loop-i.invariant i (omega arith))
