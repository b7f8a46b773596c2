-- SPDX-License-Identifier: MIT OR Apache-2.0
use Rattle.std.proofs.Common.{◌∙◌, ℕ, Option, sym, subst, ap}
use Rattle.play_commands.specs.Plays.{Plays, streams_of}
use Rattle.play_commands.specs.Purposes.{known}
use Rattle.play_commands.specs.Starts.{start_of}
use Rattle.play_commands.proofs.booting.play_with.Goals as goal

pub returns-in-Some-clause-played : goal.returns-in-Some-clause-played
returns-in-Some-clause-played g c =
    let streams = streams_of g.R.Read.remaining c.args.play.trace.reader g.W.Write.contents c.args.out.now c.do_task-in-Some.new.out in
    subst (λ start. Plays (known g.R.Read.remaining c.args.play.task) c.args.play.trace.path start streams c.do_task-in-Some.result)
    (c.new-in-Some.ensures ∙ c.boot_for-machine.ensures ∙ ap (λ (processors : Option ℕ). start_of processors c.args.manifest.now) (sym c.in-Some.is))
    c.do_task-in-Some.ensures.played
