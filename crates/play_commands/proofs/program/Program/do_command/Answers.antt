-- SPDX-License-Identifier: MIT OR Apache-2.0
use Rattle.std.proofs.Common.{ap, OnOk}
use Rattle.play_commands.specs.Performed.{IsDone, needs_manifest, needs_trace, ran}
use Rattle.play_commands.proofs.Performs.{FailsIn, describes, unplayed}
use Rattle.play_commands.proofs.program.Program.do_command.Goals as goal

pub returns-in-Play-clause-does : goal.returns-in-Play-clause-does
returns-in-Play-clause-does g c = rw c.in-Play.is c.play.ensures.does

pub returns-in-Play-clause-quiet : goal.returns-in-Play-clause-quiet
returns-in-Play-clause-quiet g c = rw c.in-Play.is c.play.ensures.quiet

pub returns-in-Check-clause-does : goal.returns-in-Check-clause-does
returns-in-Check-clause-does g c =
    let given = ran g.R.Read.remaining c.args.files g.W.Write.contents c.args.out.now c.accept.new.out in
    let done : OnOk c.accept.result (IsDone c.args.request.now given) = rw c.in-Check.is c.accept.ensures.done in
    let failed : FailsIn c.args.request.now given c.accept.result = rw c.in-Check.is c.accept.ensures.failed in
    unplayed c.args.request.now (ap needs_manifest c.in-Check.is) (ap needs_trace c.in-Check.is) given c.accept.result done failed

pub returns-in-Layout-clause-does : goal.returns-in-Layout-clause-does
returns-in-Layout-clause-does g c =
    let given = ran g.R.Read.remaining c.args.files g.W.Write.contents c.args.out.now c.lay_out.new.out in
    let done : OnOk c.lay_out.result (IsDone c.args.request.now given) = rw c.in-Layout.is c.lay_out.ensures.done in
    let failed : FailsIn c.args.request.now given c.lay_out.result = rw c.in-Layout.is c.lay_out.ensures.failed in
    unplayed c.args.request.now (ap needs_manifest c.in-Layout.is) (ap needs_trace c.in-Layout.is) given c.lay_out.result done failed

pub returns-in-Generate-clause-does : goal.returns-in-Generate-clause-does
returns-in-Generate-clause-does g c =
    let given = ran g.R.Read.remaining c.args.files g.W.Write.contents c.args.out.now c.generate.new.out in
    let done : OnOk c.generate.result (IsDone c.args.request.now given) = rw c.in-Generate.is c.generate.ensures.done in
    let failed : FailsIn c.args.request.now given c.generate.result = rw c.in-Generate.is c.generate.ensures.failed in
    unplayed c.args.request.now (ap needs_manifest c.in-Generate.is) (ap needs_trace c.in-Generate.is) given c.generate.result done failed

pub returns-in-Descriptor-clause-does : goal.returns-in-Descriptor-clause-does
returns-in-Descriptor-clause-does g c =
    let given = ran g.R.Read.remaining c.args.files g.W.Write.contents c.args.out.now c.describe_for.new.out in
    rw c.in-Descriptor.is (describes c.in-Descriptor.path c.in-Descriptor.words given c.describe_for.result c.describe_for.ensures.said c.describe_for.ensures.failed)
