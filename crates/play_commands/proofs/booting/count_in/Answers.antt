-- SPDX-License-Identifier: MIT OR Apache-2.0
use Rattle.std.proofs.Common.{◌∙◌, ℕ, Option, None, sym, subst, ap}
use Rattle.play_commands.specs.Counted.{CountsTrace, tally_of}
use Rattle.play_commands.specs.Starts.{begun_by, start_of}
use Rattle.play_commands.proofs.booting.count_in.Goals as goal

pub returns-in-None : goal.returns-in-None
returns-in-None g c =
    subst (λ start. CountsTrace start (g.R.Read.remaining c.args.reader) (tally_of c.args.counts.now) (tally_of c.count_trace.new.counts) c.count_trace.result)
    (c.new.ensures ∙ ap (begun_by None) c.boot_in-machine.ensures.booted.state ∙ ap (λ (processors : Option ℕ). start_of processors c.args.manifest.now) (sym c.in-None.is))
    c.count_trace.ensures

pub returns-in-Some : goal.returns-in-Some
returns-in-Some g c =
    subst (λ start. CountsTrace start (g.R.Read.remaining c.args.reader) (tally_of c.args.counts.now) (tally_of c.count_trace-in-Some.new.counts) c.count_trace-in-Some.result)
    (c.new-in-Some.ensures ∙ c.boot_for-machine.ensures ∙ ap (λ (processors : Option ℕ). start_of processors c.args.manifest.now) (sym c.in-Some.is))
    c.count_trace-in-Some.ensures
