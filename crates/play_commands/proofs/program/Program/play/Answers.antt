-- SPDX-License-Identifier: MIT OR Apache-2.0
use Rattle.std.proofs.Common.{refl, ◌∙◌, option_map}
use Rattle.std.proofs.lemmas.Result.{err_from_is_err_and}
use Rattle.std.proofs.KnownBytes.{Keeps-refl}
use Rattle.ffa_manifest.specs.Document.{parts_of}
use Rattle.play_report.specs.Manifests.{bytes_of}
use Rattle.play_commands.specs.Purposes.{known}
use Rattle.play_commands.proofs.Plays.{passed}
use Rattle.play_commands.specs.Performed.{ran}
use Rattle.play_commands.proofs.Performs.{play_does, unnamed}
use Rattle.play_commands.proofs.program.Program.play.Goals as goal

pub returns-in_err-manifest-clause-does : goal.returns-in_err-manifest-clause-does
returns-in_err-manifest-clause-does g c =
    let held = g.W.Write.contents c.args.out.now in
    let p = err_from_is_err_and c.from_residual.result c.from_residual.ensures.1 in
    rw (p.1, p.2) (unnamed c.args.options (ran g.R.Read.remaining c.args.files g.W.Write.contents c.args.out.now c.args.out.now) (Keeps-refl held) c.in_err-manifest.field-0.0 c.args.options.source refl c.in_err-manifest.ensures.failed)

pub returns-clause-does : goal.returns-clause-does
returns-clause-does g c =
    let streams = passed (g.R.Read.remaining c.in_ok-trace.trace.reader) (g.W.Write.contents c.args.out.now) (g.W.Write.contents c.boot_and_play.new.out) in
    let expected = option_map g.R.Read.remaining c.args.files.expected in
    let task = known g.R.Read.remaining c.in_ok-task.task in
    let path = c.in_ok-trace.trace.path in
    rw c.in_ok-trace.ensures.opened
    (play_does c.args.options (bytes_of c.args.files.manifest) expected streams (parts_of c.in_ok-manifest.manifest) c.in_ok-manifest.ensures.described task c.in_ok-task.ensures.serves path c.boot_and_play.result c.boot_and_play.ensures.played)

pub returns-clause-quiet : goal.returns-clause-quiet
returns-clause-quiet g c = λ silent. c.boot_and_play.ensures.quiet (c.in_ok-task.ensures.talks ∙ silent)
