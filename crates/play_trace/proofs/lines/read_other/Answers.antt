-- SPDX-License-Identifier: MIT OR Apache-2.0
use Rattle.std.proofs.Common.{◌≡◌, ◌≢◌, ◌∙◌, ℕ, List, ◌++◌, codes, sym, ap, subst, true≢false, MatchOption}
use Rattle.std.proofs.lemmas.Bool.Decides.{Decides-eqb}
use Rattle.std.proofs.lemmas.Slice.Eq.{bytes_eq-Decides, strip_prefix_is}
use Rattle.play_trace.specs.TraceLines.{line_of}
use Rattle.play_trace.proofs.LineCommands.{audit_line, show_line, no_line}
use Rattle.play_trace.proofs.lines.read_other.Goals as goal

pub returns-then-eq : goal.returns-then-eq
returns-then-eq c =
    let is = (bytes_eq-Decides c.args.bytes.now c.as_slice.result.now).0 (sym c.if-eq.ensures) ∙ c.as_slice.ensures in
    show_line ∙ ap line_of (sym is)

pub returns-then-eq-2 : goal.returns-then-eq-2
returns-then-eq-2 c =
    let is = (bytes_eq-Decides c.args.bytes.now c.as_slice-else-eq.result.now).0 (sym c.if-eq-2.ensures) ∙ c.as_slice-else-eq.ensures in
    audit_line ∙ ap line_of (sym is)

pub returns-else-eq-2 : goal.returns-else-eq-2
returns-else-eq-2 c =
    let no_fetch = subst (λ r. MatchOption r ((words : List ℕ) → c.args.bytes.now ≢ codes "fetch " ++ words) (λ x. c.args.bytes.now ≡ codes "fetch " ++ x.now)) c.in_default.is
    (strip_prefix_is Decides-eqb c.args.bytes.now (codes "fetch ") c.strip_prefix.result c.strip_prefix.ensures.cases) in
    let no_show = λ (is : c.args.bytes.now ≡ codes "show"). true≢false (sym ((bytes_eq-Decides c.args.bytes.now c.as_slice.result.now).1 (is ∙ sym c.as_slice.ensures)) ∙ sym c.if-eq.ensures) in
    let no_audit = λ (is : c.args.bytes.now ≡ codes "audit"). true≢false (sym ((bytes_eq-Decides c.args.bytes.now c.as_slice-else-eq.result.now).1 (is ∙ sym c.as_slice-else-eq.ensures)) ∙ sym c.if-eq-2.ensures) in
    no_line c.args.bytes.now c.requires no_fetch no_show no_audit
