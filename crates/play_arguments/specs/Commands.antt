-- SPDX-License-Identifier: MIT OR Apache-2.0
-- The command line of the program, and what its words ask for.
use Rattle.std.specs.Prelude.{◌≡◌, ◌⊎◌, ◌∷◌, ℕ, ◌^◌, List, [], drop, length, map, nat_eq, nat_lt, Bool, true, false, ◌||◌, ◌&&◌, not, Option, Some, None, codes, if◌then◌else◌, nat_le, option_and_then, option_map, bytes_eq}
use Rattle.std.specs.Char.{digit_value}
use Rattle.std.specs.List.{count_by, list_all, starts_with}
use Rattle.std.specs.Str.Parse.{digits_value}
use Rattle.std.specs.Option.{option_map_or}
use Rattle.ffa_model.specs.declared.limits.TheConstants.{MOST_PROCESSORS}
use Rattle.ffa_model.specs.declared.manifest.Ffa.{Ffa}
use Rattle.ffa_model.specs.declared.manifest.Ffa.TheVariants.{V1_1, V1_2}
use Rattle.clap.specs.Words.{App, HasKind, Row, Rule, Text, all_of, fault_of, first_of, new_app, new_rule, subcommand_of, with_rule, with_subcommand}
use Rattle.clap.specs.declared.builder.action.ArgAction.TheVariants.{Append, Set, SetTrue}
use Rattle.clap.specs.declared.error.Error.{Error}
use Rattle.play_arguments.specs.declared.command_line.DescriptorWords.{DescriptorWords}
use Rattle.play_arguments.specs.declared.command_line.MachineOptions.{MachineOptions}
use Rattle.play_arguments.specs.declared.command_line.Purpose.{Purpose}
use Rattle.play_arguments.specs.declared.command_line.Purpose.TheVariants.{Print, Record, Compare}
use Rattle.play_arguments.specs.declared.command_line.Source.{Source}
use Rattle.play_arguments.specs.declared.command_line.Source.TheVariants.{BuiltIn, File}
use Rattle.play_arguments.specs.declared.command_line.TextOptions.{TextOptions}
use Rattle.play_arguments.specs.declared.command_line.Request.{Request}
use Rattle.play_arguments.specs.declared.command_line.Request.TheVariants.{Play, Check, Layout, Descriptor, Generate, Test, Lower}

-- a path that has to be given
abbrev pub path_rule : Text → Rule
path_rule id = record (new_rule id) { required = true }

-- paths, of which one has to be given at least
abbrev pub paths_rule : Text → Rule
paths_rule id = record (path_rule id) { action = Some Append }

-- a flag, which may be given by its name
abbrev pub flag_rule : Text → Rule
flag_rule id = record (new_rule id) { long = Some id; action = Some SetTrue }

-- a value behind its name, which need not be given
abbrev pub value_rule : Text → Rule
value_rule id = record (new_rule id) { long = Some id; action = Some Set }

-- a number behind its name, and the one that stands for it where none is given
abbrev pub number_rule : Text → Text → Rule
number_rule id usual = record (new_rule id) { long = Some id; action = Some Set; defaults = usual ∷ [] }

abbrev pub with_manifest : App → App
with_manifest app = with_rule app (path_rule (codes "manifest"))

abbrev pub with_trace : App → App
with_trace app = with_rule app (path_rule (codes "trace"))

abbrev pub with_expected : App → App
with_expected app = with_rule app (path_rule (codes "expected"))

abbrev pub with_flag : Text → App → App
with_flag id app = with_rule app (flag_rule id)

-- a value that need not be given
abbrev pub with_optional : Text → App → App
with_optional id app = with_rule app (value_rule id)

-- which version of FF-A the machine serves
abbrev pub with_ffa : App → App
with_ffa app = with_optional (codes "ffa") app

-- how many processors run the machine, which version of FF-A it serves, and whether the trace is in words
abbrev pub with_setting : App → App
with_setting app = with_flag (codes "words") (with_ffa (with_optional (codes "processors") app))

-- how the machine is built: with RAM in frames, and with a cache of translations; and its setting
abbrev pub with_machine_flags : App → App
with_machine_flags app = with_setting (with_flag (codes "tlb") (with_flag (codes "frames") app))

-- what stands in a text: numbers of lines, names, and the reasons of refusals, and short words
abbrev pub with_form_flags : App → App
with_form_flags app =
    with_flag (codes "short")
    (with_flag (codes "explain") (with_flag (codes "names") (with_flag (codes "number") app)))

-- how it is written: line by line, and with these
abbrev pub with_text_flags : App → App
with_text_flags app = with_form_flags (with_flag (codes "line-buffered") app)

-- where a play ends: at a guard that isn't met, or at none, and not at a bad line
abbrev pub with_end_flags : App → App
with_end_flags app = with_flag (codes "interactive") (with_flag (codes "keep-going") (with_flag (codes "strict") app))

abbrev pub with_verbose : App → App
with_verbose app = with_flag (codes "verbose") app

unfoldable pub run_app : App
run_app =
    with_verbose (with_end_flags (with_text_flags (with_machine_flags (with_trace (with_manifest (new_app (codes "run")))))))

unfoldable pub demo_app : App
demo_app = with_verbose (with_end_flags (with_text_flags (with_machine_flags (with_trace (new_app (codes "demo"))))))

unfoldable pub record_app : App
record_app = with_verbose (with_machine_flags (with_trace (with_manifest (new_app (codes "record")))))

unfoldable pub compare_app : App
compare_app =
    with_verbose
    (with_form_flags (with_machine_flags (with_expected (with_trace (with_manifest (new_app (codes "compare")))))))

unfoldable pub check_app : App
check_app = with_verbose (with_ffa (with_manifest (new_app (codes "check"))))

unfoldable pub layout_app : App
layout_app = with_verbose (with_ffa (with_flag (codes "regions") (with_manifest (new_app (codes "layout")))))

-- what a descriptor is for and where TX stands, and what it is to hold
abbrev pub with_place : App → App
with_place app = with_optional (codes "tx") (with_rule app (path_rule (codes "kind")))

abbrev pub with_pages : App → App
with_pages app = with_optional (codes "pages") (with_optional (codes "to") (with_optional (codes "from") app))

abbrev pub with_record : App → App
with_record app = with_optional (codes "of") (with_optional (codes "tag") (with_optional (codes "handle") (with_pages app)))

abbrev pub with_record_flags : App → App
with_record_flags app = with_optional (codes "form") (with_flag (codes "zero") app)

unfoldable pub descriptor_app : App
descriptor_app =
    with_optional (codes "manifest") (with_record_flags (with_record (with_place (new_app (codes "descriptor")))))

-- which trace is generated, of how many lines, and whether it is counted
abbrev pub with_number : Text → Text → App → App
with_number id usual app = with_rule app (number_rule id usual)

abbrev pub with_size : App → App
with_size app = with_number (codes "lines") (codes "1000") (with_number (codes "seed") (codes "1") app)

unfoldable pub generate_app : App
generate_app =
    with_verbose (with_ffa (with_flag (codes "count") (with_size (with_manifest (new_app (codes "generate"))))))

-- folders of traces, how it is told what came of them, whether that is counted, whether a trace without a guard passes, and
-- each machine's setting
abbrev pub with_folders : App → App
with_folders app = with_rule app (paths_rule (codes "folder"))

unfoldable pub test_app : App
test_app =
    with_setting
    (with_flag (codes "allow-unguarded")
    (with_flag (codes "count") (with_flag (codes "tap") (with_folders (new_app (codes "test"))))))

unfoldable pub lower_app : App
lower_app = with_verbose (with_trace (new_app (codes "lower")))

-- the program, which has a version and has to be given a command
unfoldable pub bare : App
bare =
    let named = new_app (codes "ffaplay") in
    record named { top = record named.top { subcommand_required = true; has_version = true } }

-- the program with its commands
abbrev pub with_plays : App → App
with_plays app = with_subcommand (with_subcommand app run_app.top) demo_app.top

abbrev pub with_texts : App → App
with_texts app = with_subcommand (with_subcommand app record_app.top) compare_app.top

abbrev pub with_manifests : App → App
with_manifests app = with_subcommand (with_subcommand app check_app.top) layout_app.top

abbrev pub with_writers : App → App
with_writers app = with_subcommand (with_subcommand app descriptor_app.top) generate_app.top

unfoldable pub program : App
program =
    let made = with_writers (with_manifests (with_texts (with_plays bare))) in
    with_subcommand (with_subcommand made test_app.top) lower_app.top

-- what a descriptor is to hold, in words
pub record Described : Type 0 where
  pub kind : Text
  pub tx : Option Text
  pub from : Option Text
  pub to : Option Text
  pub pages : Option Text
  pub handle : Option Text
  pub tag : Option Text
  pub of : Option Text
  pub zero : Bool
  pub form : Option Text

abbrev pub words_of : DescriptorWords → Described
words_of w = record {
  kind = w.kind.now;
  tx = option_map (λ s. s.now) w.tx;
  from = option_map (λ s. s.now) w.from;
  to = option_map (λ s. s.now) w.to;
  pages = option_map (λ s. s.now) w.pages;
  handle = option_map (λ s. s.now) w.handle;
  tag = option_map (λ s. s.now) w.tag;
  of = option_map (λ s. s.now) w.of;
  zero = w.zero;
  form = option_map (λ s. s.now) w.form;
}

-- what a trace is played for
pub data Aim : Type 0 where
  print : TextOptions → (strict keep_going interactive : Bool) → Aim
  record_trace : Aim
  compare : (expected : Text) → TextOptions → Aim

abbrev pub aim_of : Purpose → Aim
aim_of (Print text strict keep_going interactive) = print text strict keep_going interactive
aim_of Record = record_trace
aim_of (Compare expected text) = compare expected.now text

-- the path of the manifest of the machine on which a trace is played, which the built-in one hasn't
abbrev pub path_of : Source → Option Text
path_of BuiltIn = None
path_of (File path) = Some path.now

-- a command with its paths and what its flags say
pub data Ask : Type 0 where
  play : (manifest : Option Text) → (trace : Text) → MachineOptions → Aim → (words verbose : Bool) → Ask
  check : Text → (ffa : Ffa) → (verbose : Bool) → Ask
  layout : Text → (regions : Bool) → (ffa : Ffa) → (verbose : Bool) → Ask
  descriptor : (manifest : Option Text) → Described → Ask
  generate : Text → (seed lines : ℕ) → (count : Bool) → (ffa : Ffa) → (verbose : Bool) → Ask
  test : (folders : List Text) → (tap count allow_unguarded : Bool) → (processors : Option ℕ) → (ffa : Ffa) → (words : Bool) → Ask
  lower : (trace : Text) → (verbose : Bool) → Ask

abbrev pub ask_of : Request → Ask
ask_of (Play o) = play (path_of o.source) o.trace.now o.machine (aim_of o.purpose) o.words o.verbose
ask_of (Check manifest ffa verbose) = check manifest.now ffa verbose
ask_of (Layout manifest regions ffa verbose) = layout manifest.now regions ffa verbose
ask_of (Descriptor manifest words) = descriptor (option_map (λ s. s.now) manifest) (words_of words)
ask_of (Generate o) = generate o.manifest.now o.seed o.lines o.count o.ffa o.verbose
ask_of (Test o) = test (map (λ f. f.now) o.folders.items) o.tap o.count o.allow_unguarded o.processors o.ffa o.words
ask_of (Lower trace verbose) = lower trace.now verbose

-- the path of the manifest that is asked for, that of the trace that is played, and that of the expected text
abbrev pub manifest_of : Ask → Option Text
manifest_of (play manifest trace machine aim words verbose) = manifest
manifest_of (check manifest ffa verbose) = Some manifest
manifest_of (layout manifest regions ffa verbose) = Some manifest
manifest_of (descriptor manifest words) = manifest
manifest_of (generate manifest seed lines count ffa verbose) = Some manifest
manifest_of (test folders tap count allow_unguarded processors ffa words) = None
manifest_of (lower trace verbose) = None

abbrev pub trace_of : Ask → Option Text
trace_of (play manifest trace machine aim words verbose) = Some trace
trace_of _ = None

abbrev pub expected_of : Ask → Option Text
expected_of (play manifest trace machine (compare expected text) words verbose) = Some expected
expected_of _ = None

-- whether more is to be said of what is refused
abbrev pub verbose_of : Ask → Bool
verbose_of (play manifest trace machine aim words verbose) = verbose
verbose_of (check manifest ffa verbose) = verbose
verbose_of (layout manifest regions ffa verbose) = verbose
verbose_of (descriptor manifest words) = false
verbose_of (generate manifest seed lines count ffa verbose) = verbose
verbose_of (test folders tap count allow_unguarded processors ffa words) = false
verbose_of (lower trace verbose) = verbose

-- the same, of which more is to be said, where it can be
abbrev pub said_more : Ask → Ask
said_more (play manifest trace machine aim words verbose) = play manifest trace machine aim words true
said_more (check manifest ffa verbose) = check manifest ffa true
said_more (layout manifest regions ffa verbose) = layout manifest regions ffa true
said_more (descriptor manifest words) = descriptor manifest words
said_more (generate manifest seed lines count ffa verbose) = generate manifest seed lines count ffa true
said_more (test folders tap count allow_unguarded processors ffa words) = test folders tap count allow_unguarded processors ffa words
said_more (lower trace verbose) = lower trace true

-- whether a path is given and is `-`, which stands for standard input
unfoldable pub is_input : Option Text → Bool
is_input path = option_map_or (λ p. bytes_eq p (codes "-")) path false

-- whether each text is to be written before more of the trace is read
abbrev pub answers_at_once : Ask → Bool
answers_at_once (play manifest trace machine (print text strict keep_going interactive) words verbose) =
    text.line_buffered || (interactive || is_input (Some trace))
answers_at_once (lower trace verbose) = is_input (Some trace)
answers_at_once _ = false

-- standard input can be read once: at most one of the paths is `-`
unfoldable pub reads_once : Ask → Bool
reads_once ask = nat_le (count_by is_input (manifest_of ask ∷ trace_of ask ∷ expected_of ask ∷ [])) 1

-- flags that exclude one another: a play that checks guards isn't one that lives on behind a bad line, and it stops at one that
-- isn't met, or goes on
abbrev pub excludes_none : Ask → Bool
excludes_none (play manifest trace machine (print text strict keep_going interactive) words verbose) =
    not (strict && keep_going) && not ((strict || keep_going) && interactive)
excludes_none _ = true

-- whether a flag was given
abbrev pub is_given : Text → List Row → Bool
is_given id rows = option_map_or (λ value. bytes_eq value (codes "true")) (first_of id rows) false

-- one digit of a base or more, and nothing else
abbrev pub are_digits : ℕ → Text → Bool
are_digits base text = nat_lt 0 (length text) && list_all (λ d. nat_lt (digit_value d) base) text

-- the number that digits of a base write, and nothing else, where it is below 2^64
abbrev pub numeral_of : ℕ → Text → Option ℕ
numeral_of base text =
    if are_digits base text && nat_lt (digits_value base text) (2 ^ 64) then Some (digits_value base text) else None

-- whether a zero stands before something else
abbrev pub has_zero : Text → Bool
has_zero text = starts_with nat_eq text (codes "0") && nat_lt 1 (length text)

-- the number that decimal digits write, without a zero in front
abbrev pub plain_number_of : Text → Option ℕ
plain_number_of text = if has_zero text then None else numeral_of 10 text

-- the number that a word writes: hexadecimal digits behind 0x, and else decimal ones
unfoldable pub number_of : Text → Option ℕ
number_of text =
    if starts_with nat_eq text (codes "0x") then numeral_of 16 (drop 2 text) else plain_number_of text

-- how many processors a word says, of which there is room for so many
unfoldable pub count_of : Text → Option ℕ
count_of text = option_and_then (λ n. if nat_lt 0 n && nat_le n MOST_PROCESSORS then Some n else None) (number_of text)

-- the processors that were asked for, if any were
unfoldable pub processors_in : List Row → Option (Option ℕ)
processors_in rows = option_map_or (λ text. option_map Some (count_of text)) (first_of (codes "processors") rows) (Some None)

-- the version of FF-A that a word names
unfoldable pub ffa_of : Text → Option Ffa
ffa_of text =
    if bytes_eq text (codes "1.1") then Some V1_1 else if bytes_eq text (codes "1.2") then Some V1_2 else None

-- the version that was asked for, or 1.1
unfoldable pub ffa_in : List Row → Option Ffa
ffa_in rows = option_map_or ffa_of (first_of (codes "ffa") rows) (Some V1_1)

-- what the flags of a command say
unfoldable pub machine_in : List Row → Option ℕ → Ffa → MachineOptions
machine_in rows processors ffa = record {
  frames = is_given (codes "frames") rows;
  tlb = is_given (codes "tlb") rows;
  processors = processors;
  ffa = ffa;
}

unfoldable pub text_in : List Row → TextOptions
text_in rows = record {
  line_buffered = is_given (codes "line-buffered") rows;
  number = is_given (codes "number") rows;
  names = is_given (codes "names") rows;
  explain = is_given (codes "explain") rows;
  short = is_given (codes "short") rows;
}

-- what follows, where there is a value
infixl 10 ◌>>=◌
abbrev pub ◌>>=◌ : {A B : Type 0} → Option A → (A → Option B) → Option B
value >>= next = option_and_then next value

-- the number that was given, or that stands for one that wasn't
abbrev pub number_in : Text → List Row → Option ℕ
number_in id rows = option_and_then number_of (first_of id rows)

-- what a trace is to be played for
unfoldable pub print_in : List Row → Aim
print_in rows =
    print (text_in rows) (is_given (codes "strict") rows) (is_given (codes "keep-going") rows)
    (is_given (codes "interactive") rows)

unfoldable pub compare_in : List Row → Option Aim
compare_in rows = do
  expected ← first_of (codes "expected") rows
  Some (compare expected (text_in rows))

-- what the matches of a command ask for
unfoldable pub play_in : List Row → (manifest : Option Text) → Aim → Option Ask
play_in rows manifest aim = do
  trace ← first_of (codes "trace") rows
  processors ← processors_in rows
  ffa ← ffa_in rows
  Some (play manifest trace (machine_in rows processors ffa) aim (is_given (codes "words") rows) (is_given (codes "verbose") rows))

unfoldable pub play_file_in : List Row → Aim → Option Ask
play_file_in rows aim = do
  manifest ← first_of (codes "manifest") rows
  play_in rows (Some manifest) aim

unfoldable pub check_in : List Row → Option Ask
check_in rows = do
  manifest ← first_of (codes "manifest") rows
  ffa ← ffa_in rows
  Some (check manifest ffa (is_given (codes "verbose") rows))

unfoldable pub layout_in : List Row → Option Ask
layout_in rows = do
  manifest ← first_of (codes "manifest") rows
  ffa ← ffa_in rows
  Some (layout manifest (is_given (codes "regions") rows) ffa (is_given (codes "verbose") rows))

unfoldable pub words_in : List Row → (kind : Text) → Described
words_in rows kind = record {
  kind = kind;
  tx = first_of (codes "tx") rows;
  from = first_of (codes "from") rows;
  to = first_of (codes "to") rows;
  pages = first_of (codes "pages") rows;
  handle = first_of (codes "handle") rows;
  tag = first_of (codes "tag") rows;
  of = first_of (codes "of") rows;
  zero = is_given (codes "zero") rows;
  form = first_of (codes "form") rows;
}

unfoldable pub descriptor_in : List Row → Option Ask
descriptor_in rows = do
  kind ← first_of (codes "kind") rows
  Some (descriptor (first_of (codes "manifest") rows) (words_in rows kind))

unfoldable pub generate_in : List Row → Option Ask
generate_in rows = do
  manifest ← first_of (codes "manifest") rows
  seed ← number_in (codes "seed") rows
  lines ← number_in (codes "lines") rows
  ffa ← ffa_in rows
  Some (generate manifest seed lines (is_given (codes "count") rows) ffa (is_given (codes "verbose") rows))

unfoldable pub test_in : List Row → Option Ask
test_in rows = do
  folders ← all_of (codes "folder") rows
  processors ← processors_in rows
  ffa ← ffa_in rows
  Some (test folders (is_given (codes "tap") rows) (is_given (codes "count") rows) (is_given (codes "allow-unguarded") rows) processors ffa (is_given (codes "words") rows))

unfoldable pub lower_in : List Row → Option Ask
lower_in rows = do
  trace ← first_of (codes "trace") rows
  Some (lower trace (is_given (codes "verbose") rows))

-- what a command asks for that tests no folders
unfoldable pub ask_beside : Text → List Row → Option Ask
ask_beside name rows =
    if bytes_eq name (codes "run") then play_file_in rows (print_in rows)
    else if bytes_eq name (codes "demo") then play_in rows None (print_in rows)
    else if bytes_eq name (codes "record") then play_file_in rows record_trace
    else if bytes_eq name (codes "compare") then compare_in rows >>= play_file_in rows
    else if bytes_eq name (codes "check") then check_in rows
    else if bytes_eq name (codes "layout") then layout_in rows
    else if bytes_eq name (codes "descriptor") then descriptor_in rows
    else if bytes_eq name (codes "generate") then generate_in rows
    else if bytes_eq name (codes "lower") then lower_in rows
    else None

unfoldable pub ask_in : Text → List Row → Option Ask
ask_in name rows = if bytes_eq name (codes "test") then test_in rows else ask_beside name rows

-- what the command that was met asks for, by its name and its matches
abbrev pub ask_met : Option (Text × List Row) → Option Ask
ask_met met = option_and_then (λ command. ask_in command.0 command.1) met

-- what is named is asked for, where standard input can be read as often as it names it, and its flags go together
abbrev pub asked_for : Ask → Option Ask
asked_for ask = if reads_once ask && excludes_none ask then Some ask else None

abbrev pub asked_in : Option (Text × List Row) → Option Ask
asked_in met = option_and_then asked_for (ask_met met)

-- what the words ask for, by clap's matches of the program's commands on these words
unfoldable pub asked_by : List Text → Option Ask
asked_by words = asked_in (subcommand_of program words)

-- memory ran out, or clap finds this fault in the words, or it finds none and yet they ask for nothing
abbrev pub IsRefusedFor : List Text → Error → Type 0
IsRefusedFor words e = HasKind (fault_of program words) e ⊎ ((fault_of program words ≡ []) × (asked_by words ≡ None))
