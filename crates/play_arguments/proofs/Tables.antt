-- SPDX-License-Identifier: MIT OR Apache-2.0
-- Commands that are added by a table.
use Rattle.std.proofs.Common.{◌≡◌, ◌+◌, ◌<◌, ℕ, List, drop, length, get_or, false, ap, sym, ◌∙◌}
use Rattle.std.proofs.lemmas.List.{drop_more}
use Rattle.clap.specs.Words.{AddsArg, AddsSubcommand, app_of, rule_of, with_rule, with_subcommand}
use Rattle.clap.specs.declared.builder.arg.Arg.{Arg}
use Rattle.clap.specs.declared.builder.command.Command.{Command}
use Rattle.clap.specs.declared.builder.command.Command.TheViews.{out-Command}
use Rattle.play_arguments.specs.Tables.{app_for, rule_for, with_commands, with_words}
use Rattle.play_arguments.specs.declared.program.Entry.{Entry}
use Rattle.play_arguments.specs.declared.program.Word.{Word}

-- one more of them is there, and one less is left
pub one_more : (old sub new : Command) (entries : List Entry) (i : ℕ) (d : Entry) → i < length entries → AddsSubcommand old sub new
    → (out-Command sub).has_globals ≡ false → app_of sub ≡ app_for (get_or entries i d)
    → with_commands (drop (i + 1) entries) (app_of new) ≡ with_commands (drop i entries) (app_of old)
one_more old sub new entries i d lt adds local is =
    ap (with_commands (drop (i + 1) entries)) (adds.shape local ∙ ap (λ app. with_subcommand (app_of old) app.top) is)
    ∙ sym (ap (λ es. with_commands es (app_of old)) (drop_more entries i d lt))

pub one_more_word : (old : Command) (a : Arg) (new : Command) (words : List Word) (i : ℕ) (d : Word) → i < length words → AddsArg old a new → a.global ≡ false
    → rule_of a ≡ rule_for (get_or words i d) → with_words (drop (i + 1) words) (app_of new) ≡ with_words (drop i words) (app_of old)
one_more_word old a new words i d lt adds local is =
    ap (with_words (drop (i + 1) words)) (adds.shape local ∙ ap (with_rule (app_of old)) is)
    ∙ sym (ap (λ ws. with_words ws (app_of old)) (drop_more words i d lt))
