-- SPDX-License-Identifier: MIT OR Apache-2.0
-- What the lines of a trace print, as the small machine steps.
use Rattle.std.specs.Prelude.{ℕ, zero, suc, ◌+◌, ◌-◌, ◌*◌, ◌/◌, ◌%◌, ◌^◌, ◌==◌, Bool, not, ◌||◌, nat_lt, List, [], ◌∷◌, ◌++◌, length, codes, filter, take, zip, Option, Some, None, if◌then◌else◌}
use Rattle.std.specs.List.{flat_map, range_with_len}
use Rattle.std.specs.Option.{option_map_or}
use Rattle.ffa_model.specs.declared.rights.Rights.{Rights}
use Rattle.ffa_model.specs.declared.certificate.CertRun.{CertRun}
use Rattle.ffa_model.specs.declared.operation.Effect.{Effect}
use Rattle.ffa_model.specs.declared.operation.Effect.TheVariants as effects
use Rattle.ffa_model.specs.declared.operation.Op.{Op}
use Rattle.ffa_model.specs.declared.operation.Op.TheVariants.{Call, Load, Store, Fetch}
use Rattle.ffa_model.specs.declared.operation.Outcome.{Outcome}
use Rattle.ffa_model.specs.declared.operation.Outcome.TheVariants.{Regs, Data, Done, Fault}
use Rattle.ffa_model.specs.declared.operation.FaultKind.{FaultKind}
use Rattle.ffa_model.specs.declared.operation.FaultKind.TheVariants.{Translation, Permission, Alignment, AccessFlag, OutsideRam}
use Rattle.ffa_model.specs.Rights.{may_write}
use Rattle.ffa_model.specs.State.{State, identifiers, owner_of, address_of}
use Rattle.ffa_model.specs.Access.{access}
use Rattle.ffa_model.specs.Agreement.{root}
use Rattle.ffa_model.specs.Alike.{is_alike}
use Rattle.ffa_model.specs.Certificate.{certificate}
use Rattle.ffa_model.specs.Identifiers.{identifier}
use Rattle.ffa_model.specs.Memory.{size_of}
use Rattle.ffa_playable.specs.Bench.{Bench, after_interrupt, after_op, effect_of, outcome_of_interrupt, processors_of, turned_to}
use Rattle.play_trace.specs.TraceLines.{Line, operate, show, audit, skip, turn, interrupt, feed, space, line_in}

-- WORDS

-- a hexadecimal digit, in upper case
abbrev pub digit : ℕ → ℕ
digit n = if nat_lt n 10 then 48 + n else 55 + n

-- the lowest n hexadecimal digits of a number, the highest of them first
abbrev pub hex : ℕ → ℕ → List ℕ
hex zero x = []
hex (suc n) x = digit (x / 16 ^ n % 16) ∷ hex n x

-- a space and a word
abbrev pub spaced : List ℕ → List ℕ
spaced word = space ∷ word

abbrev pub ended : List ℕ → List ℕ
ended line = line ++ feed ∷ []

-- OUTCOMES

abbrev pub fault_name : FaultKind → List ℕ
fault_name Translation = codes "translation"
fault_name Permission = codes "permission"
fault_name Alignment = codes "alignment"
fault_name AccessFlag = codes "access-flag"
fault_name OutsideRam = codes "outside-ram"

-- how many bytes an operation moves
abbrev pub bytes_moved : Op → ℕ
bytes_moved (Call x) = 0
bytes_moved (Load addr size) = size_of size
bytes_moved (Store addr size value) = size_of size
bytes_moved (Fetch addr) = 4

-- the words that an operation with this outcome prints: data in two digits a byte
unfoldable pub outcome_words : Op → Outcome → List ℕ
outcome_words op (Regs runner x) = codes "regs" ++ spaced (hex 4 runner.0) ++ flat_map (λ v. spaced (hex 16 v)) x
outcome_words op (Data value) = codes "data" ++ spaced (hex (2 * bytes_moved op) value)
outcome_words op Done = codes "done"
outcome_words op (Fault fault) = codes "fault" ++ spaced (fault_name fault)

abbrev pub outcome_text : Op → Outcome → List ℕ
outcome_text op outcome = ended (outcome_words op outcome)

-- a partition that was preempted goes on
abbrev pub resumed_text : ℕ → List ℕ
resumed_text e = ended (codes "resumed" ++ spaced (hex 4 e))

abbrev pub effect_text : Op → Effect → List ℕ
effect_text op (effects.Outcome outcome) = outcome_text op outcome
effect_text op (effects.Resumed e) = resumed_text e.0

-- an interrupt prints what a call does that comes to the same
abbrev pub interrupt_text : Outcome → List ℕ
interrupt_text outcome = outcome_text (Call []) outcome

-- THE TABLE OF ACCESSES

abbrev pub rights_text : Option Rights → List ℕ
rights_text None = codes "---"
rights_text (Some r) =
    codes "r" ++ (if may_write r.level then codes "w" else codes "-") ++ (if r.exec then codes "x" else codes "-")

-- a run of pages begins where a page isn't like the one before it, and ends where a page isn't like the next
abbrev pub begins_run : State → ℕ → Bool
begins_run s p = p == 0 || not (is_alike s (p - 1) p)

abbrev pub ends_run : State → ℕ → Bool
ends_run s p = p + 1 == length s.pages || not (is_alike s p (p + 1))

-- the longest runs of pages that are alike, each by its first and its last page
abbrev pub runs_of : State → List (ℕ × ℕ)
runs_of s =
    let pages = range_with_len 0 (length s.pages) in
    zip (filter (begins_run s) pages) (filter (ends_run s) pages)

-- the addresses of a run's first and last byte, its owner, and the access of each endpoint
unfoldable pub run_text : State → ℕ × ℕ → List ℕ
run_text s run =
    ended (
    codes "pages" ++ spaced (hex 8 (address_of s run.0)) ++ spaced (hex 8 (address_of s run.1 + 4095))
    ++ spaced (hex 4 (owner_of s run.0))
    ++ flat_map (λ e. spaced (rights_text (access s e run.0))) (identifiers s))

unfoldable pub runner_text : State → List ℕ
runner_text s = ended (codes "runner" ++ spaced (hex 4 s.runner))

-- the runner, and the runs
unfoldable pub show_text : State → List ℕ
show_text s = runner_text s ++ flat_map (run_text s) (runs_of s)

-- CERTIFICATES

-- the addresses of RAM's first and last byte, and how many endpoints there are
unfoldable pub cert_text : State → List ℕ
cert_text s =
    ended (
    codes "cert" ++ spaced (hex 8 s.ram_base) ++ spaced (hex 8 (address_of s (length s.pages - 1) + 4095))
    ++ spaced (hex 1 (length s.parties)))

-- the endpoint at a place, and the address of its level 1 table
unfoldable pub root_text : State → ℕ → List ℕ
root_text s place = ended (codes "root" ++ spaced (hex 4 (identifier place)) ++ spaced (hex 8 (root s place)))

abbrev pub handle_text : Option ℕ → List ℕ
handle_text None = codes "-"
handle_text (Some handle) = hex 16 handle

-- a run as the table of accesses has it, with its handle behind the owner
unfoldable pub cert_run_text : State → CertRun → List ℕ
cert_run_text s run =
    ended (
    codes "pages" ++ spaced (hex 8 (address_of s run.first.0)) ++ spaced (hex 8 (address_of s run.last.0 + 4095))
    ++ spaced (hex 4 run.owner.0)
    ++ spaced (handle_text run.handle)
    ++ flat_map (λ right. spaced (rights_text right)) (take (length s.parties) run.access))

-- the certificate with its roots, and that the tables give it, as those of a machine do
unfoldable pub audit_text : State → List ℕ
audit_text s =
    cert_text s ++ flat_map (root_text s) (range_with_len 0 (length s.parties))
    ++ flat_map (cert_run_text s) (certificate s) ++ ended (codes "agrees")

-- LINES

-- what a line prints, and what is behind it
abbrev pub line_text : Bench → Line → List ℕ
line_text b (operate op) = effect_text op (effect_of b op)
line_text b show = show_text b.state
line_text b audit = audit_text b.state
line_text b skip = []
line_text b (turn processor) = []
line_text b interrupt = interrupt_text (outcome_of_interrupt b)

abbrev pub line_after : Bench → Line → Bench
line_after b (operate op) = after_op b op
line_after b show = b
line_after b audit = b
line_after b skip = b
line_after b (turn processor) = turned_to b processor
line_after b interrupt = after_interrupt b

-- the same of the bytes of a line; what is no line prints and does nothing
unfoldable pub text_of : Bench → List ℕ → List ℕ
text_of b bytes = option_map_or (line_text b) (line_in (processors_of b) bytes) []

unfoldable pub after : Bench → List ℕ → Bench
after b bytes = option_map_or (line_after b) (line_in (processors_of b) bytes) b

-- what the lines print one after another, and what is behind them
abbrev pub text : Bench → List (List ℕ) → List ℕ
text b [] = []
text b (line ∷ lines) = text_of b line ++ text (after b line) lines

abbrev pub after_all : Bench → List (List ℕ) → Bench
after_all b [] = b
after_all b (line ∷ lines) = after_all (after b line) lines
