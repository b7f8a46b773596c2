-- SPDX-License-Identifier: MIT OR Apache-2.0
-- FOR PROOFS ALONE
-- What commands come to that are given as tables of their words. The code says so of its own functions; what the words ask
-- for stands in Commands.
use Rattle.std.specs.Prelude.{List, [], ◌∷◌}
use Rattle.clap.specs.Words.{App, Rule, new_app, with_rule, with_subcommand}
use Rattle.play_arguments.specs.Commands.{path_rule, paths_rule, flag_rule, value_rule, number_rule}
use Rattle.play_arguments.specs.declared.program.Entry.{Entry}
use Rattle.play_arguments.specs.declared.program.Word.{Word}
use Rattle.play_arguments.specs.declared.program.Word.TheVariants.{Path, Paths, Flag, Value, Number}

abbrev pub rule_for : Word → Rule
rule_for (Path id help) = path_rule id.now
rule_for (Paths id help) = paths_rule id.now
rule_for (Flag id help) = flag_rule id.now
rule_for (Value id help) = value_rule id.now
rule_for (Number id help usual) = number_rule id.now usual.now

-- the command with these words
abbrev pub with_words : List Word → App → App
with_words [] app = app
with_words (w ∷ ws) app = with_words ws (with_rule app (rule_for w))

abbrev pub app_for : Entry → App
app_for e = with_words e.words.now (new_app e.name.now)

-- the command with these below it
abbrev pub with_commands : List Entry → App → App
with_commands [] app = app
with_commands (e ∷ es) app = with_commands es (with_subcommand app (app_for e).top)
