-- SPDX-License-Identifier: MIT OR Apache-2.0
use Rattle.std.proofs.Common.{◌≡◌, ◌≢◌, ◌++◌, ◌∷◌, [], ℕ, List, length, refl, subst, sym, ◌∙◌, arith, length-append}
use Rattle.std.specs.Io.KnownBytes.{Consumes}
use Rattle.std.proofs.KnownBytes.{Consumes-nil, Consumes-trans}
use Rattle.std.proofs.lemmas.Bool.{eqb-true, eqb-false}
use Rattle.std.proofs.lemmas.List.{nil_from_length}
use Rattle.std.proofs.lemmas.Result.{err_from_is_err_and}
use Rattle.play_trace.specs.TraceLines.{feed, joined}
use Rattle.play_player.proofs.Rows.{row_differs, row_more, rows_taken, shorter, text_unread}
use Rattle.play_player.proofs.comparison.Rows.take_text.Goals as goal

pub loop-rest-init : goal.loop-rest-init
loop-rest-init g c = ([], refl, refl, Consumes-nil _, omega arith)

pub returns-in_err-next : goal.returns-in_err-next
returns-in_err-next g c =
    let i = c.loop-rest.invariant in
    let some : length c.loop-rest.rest.now ≢ 0 = eqb-false _ _ (sym c.is_empty.ensures ∙ c.loop-rest-test.true) in
    let p = err_from_is_err_and c.from_residual.result c.from_residual.ensures.1 in
    rw (p.1, p.2)
    (text_unread c.args.text.now c.loop-rest.rest.now i.0 i.1 i.2 (g.R.Read.remaining c.args.self.now.reader) (g.R.Read.remaining c.loop-rest.self.reader) (g.R.Read.remaining c.next.new.self.reader) c.args.self.now.read
    c.loop-rest.self.read c.next.new.self.read c.next.new.self.row.items c.in_err-next.field-0.0 i.3 (omega (arith, some)) c.in_err-next.ensures)

pub overflow_sub-result : goal.overflow_sub-result
overflow_sub-result g c =
    let i = c.loop-rest.invariant in
    shorter c.args.text.now c.loop-rest.rest.now i.0 i.1 i.2

pub returns-in_default : goal.returns-in_default
returns-in_default g c =
    let i = c.loop-rest.invariant in
    let rest = c.loop-rest.rest.now in
    let row = c.next.new.self.row.items in
    let some : length rest ≢ 0 = eqb-false _ _ (sym c.is_empty.ensures ∙ c.loop-rest-test.true) in
    let other = subst (λ row. (line words : List ℕ) → row ≡ line ++ feed ∷ [] → rest ≢ row ++ words) c.deref.ensures.value c.in_default.ensures in
    row_differs c.args.text.now rest i.0 i.1 i.2 (g.R.Read.remaining c.args.self.now.reader) (g.R.Read.remaining c.loop-rest.self.reader) c.args.self.now.read c.loop-rest.self.read c.next.new.self.read row _ i.3
    c.in_ok-next.ensures.3 i.4 c.in_ok-next.ensures.0 (omega (arith, some)) (omega arith) other

pub loop-rest-preserved : goal.loop-rest-preserved
loop-rest-preserved g c =
    let i = c.loop-rest.invariant in
    let rest = c.loop-rest.rest.now in
    let row = c.next.new.self.row.items in
    let more = c.in-Some.more.now in
    let wants = g.R.Read.remaining c.args.self.now.reader in
    let has = g.R.Read.remaining c.next.new.self.reader in
    let behind = subst (λ row. (line : List ℕ) × (row ≡ line ++ feed ∷ []) × (rest ≡ row ++ more)) c.deref.ensures.value c.in-Some.ensures in
    let line = behind.0 in
    let next = row_more c.args.text.now rest i.0 i.1 i.2 line row more c.in_ok-next.ensures.2 behind.1 behind.2 in (
      i.0 ++ line ∷ [],
      next.0,
      next.1,
      subst (Consumes wants has) (sym next.2) (Consumes-trans wants (g.R.Read.remaining c.loop-rest.self.reader) has (joined i.0) row i.3 c.in_ok-next.ensures.1),
      omega (arith, i.4, c.in_ok-next.ensures.0, length-append i.0 (line ∷ [])),
    )

pub returns : goal.returns
returns g c =
    let i = c.loop-rest.invariant in
    let none = nil_from_length _ (eqb-true _ _ (sym c.is_empty.ensures ∙ c.loop-rest-test.false)) in
    rows_taken c.args.text.now c.loop-rest.rest.now i.0 i.1 i.2 _ _ _ _ none i.3 i.4
