-- SPDX-License-Identifier: MIT OR Apache-2.0
-- From a parse to what its words ask for.
use Rattle.std.proofs.Common.{◌≡◌, List, [], Result, Ok, Err, IfErr, None, true, refl, ap, subst, sym, ◌∙◌, ◌⊎◌, inl, inr}
use Rattle.clap.proofs.OnLiterals.{clap_on_literals}
use Rattle.clap.specs.Words.{App, FailsBy, HasMatchesOf, Text, fault_of, kind_of, is_simple, is_simple_and_free, subcommand_of, subcommand_rows_of}
use Rattle.clap.specs.declared.error.Error.{Error}
use Rattle.clap.specs.declared.error.kind.ErrorKind.TheVariants.{OutOfMemory}
use Rattle.clap.specs.declared.parser.matches.ArgMatches.{ArgMatches}
use Rattle.play_arguments.specs.Commands.{IsRefusedFor, asked_by, asked_in, program, bare, run_app, demo_app, record_app, compare_app, check_app, layout_app, descriptor_app, generate_app, test_app, lower_app}

-- clap says what the matches of these commands are
pub is_simple_program : is_simple program ≡ true
unfolding clap_on_literals program bare run_app demo_app record_app compare_app check_app layout_app descriptor_app generate_app test_app lower_app
is_simple_program = refl

-- clap says which faults it finds in the words of these commands
pub is_free_program : is_simple_and_free program ≡ true
unfolding clap_on_literals program bare run_app demo_app record_app compare_app check_app layout_app descriptor_app generate_app test_app lower_app
is_free_program = refl

-- the command that was met, with its matches
pub met_command : (app : App) (words : List Text) (m : ArgMatches) → app ≡ program → HasMatchesOf app words m → subcommand_rows_of m ≡ subcommand_of program words
met_command app words m is has = (has (ap is_simple is ∙ is_simple_program)).1 ∙ ap (λ (a : App). subcommand_of a words) is

-- the faults in the words
pub program_fails : {T : Type 0} (app : App) (words : List Text) (r : Result T Error) → app ≡ program → (is_simple_and_free app ≡ true → FailsBy (fault_of app words) r) → FailsBy (fault_of program words) r
program_fails app words r is kinds = subst (λ (a : App). FailsBy (fault_of a words) r) is (kinds (ap is_simple_and_free is ∙ is_free_program))

-- words in which clap finds no fault, and whose matches ask for nothing
pub refused_for : {T : Type 0} (words : List Text) (m : ArgMatches) (r : Result T Error) → subcommand_rows_of m ≡ subcommand_of program words
    → fault_of program words ≡ []
    → IfErr r (λ e. (kind_of e ≡ OutOfMemory) ⊎ (asked_in (subcommand_rows_of m) ≡ None)) → IfErr r (IsRefusedFor words)
unfolding asked_by
refused_for words m (Ok t) met free why = tt
refused_for words m (Err e) met free (inl short) = inl (inl short)
refused_for words m (Err e) met free (inr nothing) = inr (free, ap asked_in (sym met) ∙ nothing)
