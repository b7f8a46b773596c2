-- SPDX-License-Identifier: MIT OR Apache-2.0
use Rattle.std.proofs.Common.{◌≡◌, map, IfOk, Ok, Err, Some, subst, inl}
use Rattle.clap.specs.declared.parser.matches.ArgMatches.{ArgMatches}
use Rattle.play_arguments.specs.Commands.{ask_of, asked_by, asked_in}
use Rattle.play_arguments.proofs.Parse.{met_command, program_fails, refused_for}
use Rattle.play_arguments.proofs.match_words.Goals as goal

pub returns-in-Err-clause-refused : goal.returns-in-Err-clause-refused
returns-in-Err-clause-refused c = λ is.
    inl (program_fails {T = ArgMatches} _ (map (λ w. w.now) c.args.words.now) (Err c.in-Err.error) is c.in-Err.ensures.kinds)

pub returns-in-Ok-clause-asked : goal.returns-in-Ok-clause-asked
unfolding asked_by
returns-in-Ok-clause-asked c = λ is.
    let met = met_command _ (map (λ w. w.now) c.args.words.now) c.in-Ok.matches is c.in-Ok.ensures.ok.2 in
    subst (λ rows. IfOk c.read_matches.result (λ r. asked_in rows ≡ Some (ask_of r))) met c.read_matches.ensures.asked

pub returns-in-Ok-clause-refused : goal.returns-in-Ok-clause-refused
returns-in-Ok-clause-refused c = λ is.
    refused_for
    (map (λ w. w.now) c.args.words.now)
    c.in-Ok.matches
    c.read_matches.result
    (met_command _ (map (λ w. w.now) c.args.words.now) c.in-Ok.matches is c.in-Ok.ensures.ok.2)
    (program_fails _ (map (λ w. w.now) c.args.words.now) (Ok c.in-Ok.matches) is c.in-Ok.ensures.kinds)
    c.read_matches.ensures.refused
