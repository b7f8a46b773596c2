-- SPDX-License-Identifier: MIT OR Apache-2.0
-- Which task serves what a trace is played for.
use Rattle.std.specs.Prelude.{◌≡◌, ◌&&◌, ◌||◌, not, Bool, true, false, List, ℕ, Option, Some, ⊤}
use Rattle.play_arguments.specs.declared.command_line.Purpose.{Purpose}
use Rattle.play_arguments.specs.declared.command_line.Purpose.TheVariants as purpose
use Rattle.play_player.specs.declared.form.Form.{Form}
use Rattle.play_player.specs.Forms.{plain}
use Rattle.play_report.specs.declared.failure.Failure.{Failure}
use Rattle.play_report.specs.declared.failure.Failure.TheVariants as failure
use Rattle.play_commands.specs.Plays.{KnownTask, form_of}
use Rattle.play_commands.specs.declared.task.Expected.{Expected}
use Rattle.play_commands.specs.declared.task.Task.{Task}
use Rattle.play_commands.specs.declared.task.Task.TheVariants as task

-- a task, and a text that is expected, by what is known of a reader
abbrev pub heard : {R : Type 0} → (R → Option (List ℕ)) → Expected R → Expected (Option (List ℕ))
heard remaining expected = record { path = expected.path; reader = remaining expected.reader }

abbrev pub comparison_of : {R : Type 0} → (R → Option (List ℕ)) → Expected R → Form → KnownTask
comparison_of remaining expected form = task.Compare (heard remaining expected) form

abbrev pub known : {R : Type 0} → (R → Option (List ℕ)) → Task R → KnownTask
known remaining task.Plain = task.Plain
known remaining (task.Formed form) = task.Formed form
known remaining (task.Guarded form keep_going) = task.Guarded form keep_going
known remaining task.Recorded = task.Recorded
known remaining (task.Session form) = task.Session form
known remaining (task.Compare expected form) = comparison_of remaining expected form

-- whether a purpose is a session, which tells of bad lines and goes on: guards are checked of none
abbrev pub is_session_for : Purpose → Bool
is_session_for (purpose.Print text strict keep_going interactive) = interactive && not (strict || keep_going)
is_session_for other = false

-- whether a purpose is to check the guards of a trace
abbrev pub is_strict_for : Purpose → Bool
is_strict_for (purpose.Print text strict keep_going interactive) = strict || keep_going
is_strict_for other = false

-- a task serves a purpose, where this is known of what reads the expected text, if that could be opened
abbrev pub IsTaskFor : Purpose → (expected : Option (Option (List ℕ))) → KnownTask → Type 0
IsTaskFor (purpose.Print text strict keep_going interactive) opened task.Plain =
    (strict ≡ false) × (keep_going ≡ false) × (interactive ≡ false) × (form_of text ≡ plain)
IsTaskFor (purpose.Print text strict keep_going interactive) opened (task.Formed form) =
    (strict ≡ false) × (keep_going ≡ false) × (interactive ≡ false) × (form_of text ≡ form)
IsTaskFor (purpose.Print text strict keep_going interactive) opened (task.Guarded form goes) =
    ((strict || keep_going) ≡ true) × (goes ≡ keep_going) × (form_of text ≡ form)
IsTaskFor (purpose.Print text strict keep_going interactive) opened (task.Session form) =
    (strict ≡ false) × (keep_going ≡ false) × (interactive ≡ true) × (form_of text ≡ form)
IsTaskFor purpose.Record opened task.Recorded = ⊤
IsTaskFor (purpose.Compare path text) opened (task.Compare expected form) =
    (opened ≡ Some expected.reader) × (path ≡ expected.path) × (form_of text ≡ form)
IsTaskFor purpose opened task = ⊥

-- there is no task, since the text to compare with can't be opened
abbrev pub LacksItsText : Purpose → Failure → Type 0
LacksItsText (purpose.Compare path text) told = told ≡ failure.Read path
LacksItsText other told = ⊥
