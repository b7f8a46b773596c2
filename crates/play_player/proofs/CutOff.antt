-- SPDX-License-Identifier: MIT OR Apache-2.0
-- In each form that isn't short the plain text is what is left when numbers and names are cut off and reasons left out.
use Rattle.std.proofs.Common.{◌≡◌, ◌≢◌, ℕ, ◌+◌, ◌*◌, ◌-◌, Bool, true, false, List, [], ◌∷◌, ◌++◌, length, take, Option, None, Some, inl, inr, sym, ap, ◌∙◌, subst, arith, append-nil, length-append, refl, ◌==◌, codes, slice_index, if◌then◌else◌}
use Rattle.std.specs.List.{flat_map, range_with_len}
use Rattle.std.specs.Option.{option_map_or}
use Rattle.std.proofs.lemmas.Bool.{and_from, cases_Bool}
use Rattle.std.proofs.lemmas.List.Folds.{list_all-append}
use Rattle.ffa_model.specs.declared.rights.Rights.{Rights}
use Rattle.ffa_model.specs.declared.certificate.CertRun.{CertRun}
use Rattle.ffa_model.specs.declared.operation.Effect.{Effect}
use Rattle.ffa_model.specs.declared.operation.Effect.TheVariants as effects
use Rattle.ffa_model.specs.declared.operation.Op.{Op}
use Rattle.ffa_model.specs.declared.operation.Op.TheVariants.{Call}
use Rattle.ffa_model.specs.declared.operation.Outcome.{Outcome}
use Rattle.ffa_model.specs.declared.operation.Outcome.TheVariants.{Regs, Data, Done, Fault}
use Rattle.ffa_model.specs.declared.operation.FaultKind.{FaultKind}
use Rattle.ffa_model.specs.declared.operation.FaultKind.TheVariants.{Translation}
use Rattle.ffa_model.specs.declared.function.TheConstants.{FFA_ERROR}
use Rattle.ffa_model.specs.Registers.{low}
use Rattle.ffa_model.specs.Rights.{may_write}
use Rattle.ffa_model.specs.State.{State, identifiers, owner_of, address_of}
use Rattle.ffa_playable.specs.Bench.{Bench, effect_of, outcome_of_interrupt, processors_of}
use Rattle.ffa_model.specs.Access.{access}
use Rattle.ffa_model.specs.Agreement.{root}
use Rattle.ffa_model.specs.Certificate.{certificate}
use Rattle.ffa_model.specs.Identifiers.{identifier}
use Rattle.play_trace.specs.TraceLines.{Line, operate, show, audit, interrupt, feed, space, has_no_feed, line_in}
use Rattle.play_trace.specs.TraceText.{hex, spaced, ended, fault_name, bytes_moved, outcome_words, outcome_text, resumed_text, effect_text, rights_text, runs_of, run_text, runner_text, show_text, cert_text, root_text, handle_text, cert_run_text, audit_text, line_text, text_of, text, after}
use Rattle.play_trace.specs.Lines.{outcome_in, outcome_of}
use Rattle.ffa_abi.specs.Names.{error_names, name_in, call_name_of, error_name_of}
use Rattle.play_reasons.specs.Marks.{names_mark}
use Rattle.play_player.specs.Cut.{CutsTo, cut_names}
use Rattle.play_player.specs.Forms.{line_text_in, number_in, text_in, text_of_in, worded_in}
use Rattle.play_reasons.specs.Reasons.{reason_if}
use Rattle.play_player.specs.declared.form.Form.{Form}
use Rattle.play_player.proofs.Cuts.{IsInner, is_headed, inner_append, inner_flat_map, inner_single, cut_names-inner, cut_names-mark, cuts_none, cuts_append, cuts_flat_map, cuts_line, cuts_words, cuts_first}
use Rattle.play_player.proofs.Dressing.{dressed_some, named_ended}
use Rattle.play_player.proofs.PrintedWords.{inner_hex, single_in, single_call}
use Rattle.play_player.proofs.ReasonLines.{reason_cuts}

-- WORDS

inner_fault : (kind : FaultKind) → IsInner (fault_name kind)
inner_fault Translation = refl
inner_fault _ = refl

inner_either : (b : Bool) (left right : List ℕ) → IsInner left → IsInner right → IsInner (if b then left else right)
inner_either true left right p q = p
inner_either false left right p q = q

inner_rights : (rights : Option Rights) → IsInner (rights_text rights)
inner_rights None = refl
inner_rights (Some r) =
    inner_append (codes "r" ++ (if may_write r.level then codes "w" else codes "-")) (if r.exec then codes "x" else codes "-")
    (inner_either (may_write r.level) (codes "w") (codes "-") refl refl) (inner_either r.exec (codes "x") (codes "-") refl refl)

inner_handle : (handle : Option ℕ) → IsInner (handle_text handle)
inner_handle None = refl
inner_handle (Some handle) = inner_hex 16 handle

inner_outcome : (op : Op) (outcome : Outcome) → IsInner (outcome_words op outcome)
unfolding outcome_words
inner_outcome op (Regs runner x) =
    inner_append (codes "regs" ++ spaced (hex 4 runner.0)) (flat_map (λ v. spaced (hex 16 v)) x) (inner_hex 4 runner.0) (inner_flat_map (λ v. spaced (hex 16 v)) (inner_hex 16) x)
inner_outcome op (Data value) = inner_hex (2 * bytes_moved op) value
inner_outcome op Done = refl
inner_outcome op (Fault kind) = inner_fault kind

headed_outcome : (op : Op) (outcome : Outcome) (more : List ℕ) → is_headed (outcome_words op outcome ++ more) ≡ true
unfolding outcome_words
headed_outcome op (Regs runner x) more = refl
headed_outcome op _ more = refl

-- pages from one address to another, and whose they are
inner_pages : (first last owner more : List ℕ) → IsInner first → IsInner last → IsInner owner → IsInner more → IsInner (codes "pages" ++ spaced first ++ spaced last ++ spaced owner ++ more)
inner_pages first last owner more p q r s =
    inner_append (codes "pages" ++ spaced first ++ spaced last ++ spaced owner) more
    (inner_append (codes "pages" ++ spaced first ++ spaced last) (spaced owner) (inner_append (codes "pages" ++ spaced first) (spaced last) p q) r) s

-- NAMES

single_where : (b : Bool) (error : Option (List ℕ)) → option_map_or has_no_feed error true ≡ true → option_map_or has_no_feed (if b then error else None) true ≡ true
single_where true error h = h
single_where false error h = refl

pub single_error : (x : List ℕ) → option_map_or has_no_feed (error_name_of x) true ≡ true
unfolding error_name_of
single_error x =
    single_where (low (slice_index x 0) == FFA_ERROR) (name_in error_names (low (slice_index x 2))) (single_in error_names (low (slice_index x 2)) refl)

-- words, and behind them the name of a call and of its error
pub names_single : (call error : Option (List ℕ)) → option_map_or has_no_feed call true ≡ true → option_map_or has_no_feed error true ≡ true
    → has_no_feed (option_map_or (λ name. codes " # " ++ name ++ option_map_or spaced error []) call []) ≡ true
names_single None error p q = refl
names_single (Some name) None p q = list_all-append _ name [] ∙ and_from _ _ p refl
names_single (Some name) (Some error) p q = list_all-append _ name (spaced error) ∙ and_from _ _ p q

names_cut : (words : List ℕ) (call error : Option (List ℕ)) → IsInner words
    → cut_names (words ++ option_map_or (λ name. codes " # " ++ name ++ option_map_or spaced error []) call []) ≡ words
names_cut words None error inner = ap cut_names (append-nil words) ∙ cut_names-inner words inner
names_cut words (Some name) error inner = cut_names-mark words (space ∷ (name ++ option_map_or spaced error [])) inner

-- LINES

module _ (form : Form) (n : ℕ) (op : Op) (outcome : Outcome) where
  unnamed_cuts : CutsTo (number_in form n ++ ended (outcome_words op outcome)) (ended (outcome_words op outcome))
  unnamed_cuts =
      let words = outcome_words op outcome in
      let inner = inner_outcome op outcome in
      cuts_line form n words words (inner_single words inner) (ap is_headed (sym (append-nil words)) ∙ headed_outcome op outcome []) (cut_names-inner words inner)

  named_cuts : (x : List ℕ) → CutsTo (number_in form n ++ ended (outcome_words op outcome ++ names_mark x)) (ended (outcome_words op outcome))
  named_cuts x =
      let words = outcome_words op outcome in
      let inner = inner_outcome op outcome in
      let single = names_single (call_name_of x) (error_name_of x) (single_call x) (single_error x) in
      cuts_line form n (words ++ names_mark x) words (list_all-append _ words (names_mark x) ∙ and_from _ _ (inner_single words inner) single) (headed_outcome op outcome (names_mark x))
      (names_cut words (call_name_of x) (error_name_of x) inner)

-- with the names of registers where they are asked for
outcome_cuts : (form : Form) → form.short ≡ false → (n : ℕ) (op : Op) (outcome : Outcome) → CutsTo (number_in form n ++ worded_in form (Some outcome) (outcome_text op outcome)) (outcome_text op outcome)
outcome_cuts form long n op (Regs runner x) =
    let words = outcome_words op (Regs runner x) in
    elim (cases_Bool form.names) [
      | inl asked ↦ subst (λ t. CutsTo (number_in form n ++ t) (ended words)) (sym (named_ended form runner x words long asked)) (named_cuts form n op (Regs runner x) x)
      | inr unasked ↦ rw (long, unasked) (unnamed_cuts form n op (Regs runner x))
    ]
outcome_cuts form long n op (Data value) = rw long (unnamed_cuts form n op (Data value))
outcome_cuts form long n op Done = unnamed_cuts form n op Done
outcome_cuts form long n op (Fault kind) = unnamed_cuts form n op (Fault kind)

resumed_cuts : (form : Form) (n e : ℕ) → CutsTo (number_in form n ++ resumed_text e) (resumed_text e)
resumed_cuts form n e =
    let words = codes "resumed" ++ spaced (hex 4 e) in
    let inner : IsInner words = inner_hex 4 e in
    cuts_line form n words words (inner_single words inner) refl (cut_names-inner words inner)

effect_cuts : (form : Form) → form.short ≡ false → (n : ℕ) (op : Op) (effect : Effect)
    → CutsTo (number_in form n ++ worded_in form (outcome_in effect) (effect_text op effect)) (effect_text op effect)
effect_cuts form long n op (effects.Outcome outcome) = outcome_cuts form long n op outcome
effect_cuts form long n op (effects.Resumed e) = resumed_cuts form n e.0

run_cuts : (s : State) (run : ℕ × ℕ) → CutsTo (run_text s run) (run_text s run)
unfolding run_text
run_cuts s run =
    let first = hex 8 (address_of s run.0) in
    let last = hex 8 (address_of s run.1 + 4095) in
    let owner = hex 4 (owner_of s run.0) in
    let told = flat_map (λ e. spaced (rights_text (access s e run.0))) (identifiers s) in
    let inner = inner_flat_map (λ e. spaced (rights_text (access s e run.0))) (λ e. inner_rights (access s e run.0)) (identifiers s) in
    cuts_words (codes "pages" ++ spaced first ++ spaced last ++ spaced owner ++ told)
    (inner_pages first last owner told (inner_hex 8 (address_of s run.0)) (inner_hex 8 (address_of s run.1 + 4095)) (inner_hex 4 (owner_of s run.0)) inner) refl

show_cuts : (form : Form) (n : ℕ) (s : State) → CutsTo (number_in form n ++ show_text s) (show_text s)
unfolding show_text runner_text
show_cuts form n s =
    cuts_first form n (codes "runner" ++ spaced (hex 4 s.runner)) (flat_map (run_text s) (runs_of s)) (inner_hex 4 s.runner) refl (cuts_flat_map (run_text s) (run_cuts s) (runs_of s))

root_cuts : (s : State) (place : ℕ) → CutsTo (root_text s place) (root_text s place)
unfolding root_text
root_cuts s place =
    cuts_words (codes "root" ++ spaced (hex 4 (identifier place)) ++ spaced (hex 8 (root s place)))
    (inner_append (codes "root" ++ spaced (hex 4 (identifier place))) (spaced (hex 8 (root s place))) (inner_hex 4 (identifier place)) (inner_hex 8 (root s place))) refl

cert_run_cuts : (s : State) (run : CertRun) → CutsTo (cert_run_text s run) (cert_run_text s run)
unfolding cert_run_text
cert_run_cuts s run =
    let first = hex 8 (address_of s run.first.0) in
    let last = hex 8 (address_of s run.last.0 + 4095) in
    let owner = hex 4 run.owner.0 in
    let handle = handle_text run.handle in
    let rights = take (length s.parties) run.access in
    let access = flat_map (λ right. spaced (rights_text right)) rights in
    let front = codes "pages" ++ spaced first ++ spaced last ++ spaced owner ++ spaced handle in
    cuts_words (front ++ access)
    (inner_append front access (inner_pages first last owner (spaced handle) (inner_hex 8 (address_of s run.first.0)) (inner_hex 8 (address_of s run.last.0 + 4095)) (inner_hex 4 run.owner.0) (inner_handle run.handle))
    (inner_flat_map (λ right. spaced (rights_text right)) inner_rights rights)) refl

-- a certificate's first line, and the lines behind it
audit_cuts : (form : Form) (n : ℕ) (s : State) → CutsTo (number_in form n ++ audit_text s) (audit_text s)
unfolding audit_text cert_text
audit_cuts form n s =
    let first = hex 8 s.ram_base in
    let last = hex 8 (address_of s (length s.pages - 1) + 4095) in
    let count = hex 1 (length s.parties) in
    let words = codes "cert" ++ spaced first ++ spaced last ++ spaced count in
    let inner = inner_append (codes "cert" ++ spaced first ++ spaced last) (spaced count) (inner_append (codes "cert" ++ spaced first) (spaced last) (inner_hex 8 s.ram_base) (inner_hex 8 (address_of s (length s.pages - 1) + 4095))) (inner_hex 1 (length s.parties)) in
    let roots = flat_map (root_text s) (range_with_len 0 (length s.parties)) in
    let runs = flat_map (cert_run_text s) (certificate s) in
    cuts_first form n words (roots ++ runs ++ ended (codes "agrees")) inner refl
    (cuts_append (roots ++ runs) (roots ++ runs) (ended (codes "agrees")) (ended (codes "agrees"))
    (cuts_append roots roots runs runs (cuts_flat_map (root_text s) (root_cuts s) (range_with_len 0 (length s.parties))) (cuts_flat_map (cert_run_text s) (cert_run_cuts s) (certificate s)))
    (cuts_words (codes "agrees") refl refl))

-- TEXTS

-- texts that are not empty
outcome_some : (op : Op) (outcome : Outcome) → length (outcome_text op outcome) ≢ 0
outcome_some op outcome none = absurd (omega (arith, none, length-append (outcome_words op outcome) (feed ∷ [])))

effect_some : (op : Op) (effect : Effect) → length (effect_text op effect) ≢ 0
effect_some op (effects.Outcome outcome) none = outcome_some op outcome none
effect_some op (effects.Resumed e) none = absurd (omega (arith, none))

show_some : (s : State) → length (show_text s) ≢ 0
unfolding show_text runner_text
show_some s none = absurd (omega (arith, none))

audit_some : (s : State) → length (audit_text s) ≢ 0
unfolding audit_text cert_text
audit_some s none = absurd (omega (arith, none))

-- with a line of a reason behind it, where one is asked for
spoken_cuts : (form : Form) (n : ℕ) (s : Bench) (line : Line) → length (line_text s line) ≢ 0 → CutsTo (number_in form n ++ worded_in form (outcome_of s line) (line_text s line)) (line_text s line)
    → CutsTo (line_text_in form n s line) (line_text s line)
spoken_cuts form n s line some own =
    let front = number_in form n ++ worded_in form (outcome_of s line) (line_text s line) in
    let reason = reason_if form.explain s line in
    subst (λ t. CutsTo t (line_text s line)) (sym (dressed_some form n (outcome_of s line) reason (line_text s line) some))
    (subst (CutsTo (front ++ reason)) (append-nil (line_text s line)) (cuts_append front (line_text s line) reason [] own (reason_cuts form.explain s line)))

pub line_cuts : (form : Form) → form.short ≡ false → (n : ℕ) (s : Bench) (line : Option Line) → CutsTo (option_map_or (line_text_in form n s) line []) (option_map_or (line_text s) line [])
line_cuts form long n s (Some (operate op)) = spoken_cuts form n s (operate op) (effect_some op (effect_of s op)) (effect_cuts form long n op (effect_of s op))
line_cuts form long n s (Some show) = spoken_cuts form n s show (show_some s.state) (show_cuts form n s.state)
line_cuts form long n s (Some audit) = spoken_cuts form n s audit (audit_some s.state) (audit_cuts form n s.state)
line_cuts form long n s (Some interrupt) =
    spoken_cuts form n s interrupt (outcome_some (Call []) (outcome_of_interrupt s)) (outcome_cuts form long n (Call []) (outcome_of_interrupt s))
line_cuts form long n s _ = cuts_none

cuts_of : (form : Form) → form.short ≡ false → (n : ℕ) (s : Bench) (bytes : List ℕ) → CutsTo (text_of_in form n s bytes) (text_of s bytes)
unfolding text_of_in text_of
cuts_of form long n s bytes = line_cuts form long n s (line_in (processors_of s) bytes)

-- whatever the numbers and the lines
pub cuts_text : (form : Form) → form.short ≡ false → (n : ℕ) (s : Bench) (lines : List (List ℕ)) → CutsTo (text_in form n s lines) (text s lines)
cuts_text form long n s [] = cuts_none
cuts_text form long n s (line ∷ lines) =
    cuts_append (text_of_in form n s line) (text_of s line) (text_in form (n + 1) (after s line) lines) (text (after s line) lines) (cuts_of form long n s line)
    (cuts_text form long (n + 1) (after s line) lines)

pub cuts_printed : (form : Form) → form.short ≡ false → (s : Bench) (lines : List (List ℕ)) (printed : List ℕ) → printed ≡ text_in form 1 s lines → CutsTo printed (text s lines)
cuts_printed form long s lines printed said = subst (λ t. CutsTo t (text s lines)) (sym said) (cuts_text form long 1 s lines)
