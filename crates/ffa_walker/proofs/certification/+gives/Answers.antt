-- SPDX-License-Identifier: MIT OR Apache-2.0
use Rattle.std.proofs.Common.{◌∙◌, ℕ, ◌+◌, ◌*◌, ◌^◌, ◌↔◌, Err, IsTrue, sym, ap, subst, arith}
use Rattle.ffa_model.specs.declared.operation.FaultKind.TheVariants.{OutsideRam}
use Rattle.ffa_physmem.specs.Levels.{shift}
use Rattle.ffa_walker.specs.Spans.{AreCertified, first_answer, from_table, from_word, span}
use Rattle.ffa_walker.proofs.Levels.{in_table_at, next-below, of_pages, on_from, word-moved, word-table}
use Rattle.ffa_walker.proofs.Spans.{joined, like, mapped, never-outside, through, unmapped, word-judged, word-refused}
use Rattle.ffa_walker.proofs.certification.+gives.Goals as goal

pub gives_table-returns-then-not-gives_word : goal.gives_table-returns-then-not-gives_word
gives_table-returns-then-not-gives_word g t c =
    let ram = g.M.PhysMem.ram c.args.memory.now in
    let i = c.loop-index.index in
    let size = 2 ^ shift c.args.level in
    let inside = (in_table_at c.args.level c.args.start i c.requires.start (omega arith)).inside in
    word-refused ram c.args.runs.now c.args.place (c.args.start + size * i) size c.gives_word.result (from_table ram c.args.level c.args.table) c.args.start (span c.args.level)
    (word-judged ram c.args.runs.now c.args.place c.args.level c.args.table i c.read_entry-word.result.0 c.args.start _ c.page_behind.result c.gives_word.result c.loop-index.rest.now c.runs_from-rest.result.now
    c.read_entry-word.ensures c.requires.start (omega arith) (ap (λ s. c.args.start + s * i) c.size-step.ensures) c.page_behind.ensures.page c.loop-index.invariant.left c.runs_from-rest.ensures c.gives_word.ensures)
    c.if-not-gives_word.true (omega arith) (omega (arith, inside))

pub gives_table-loop-index-preserved : goal.gives_table-loop-index-preserved
gives_table-loop-index-preserved g t c =
    let ram = g.M.PhysMem.ram c.args.memory.now in
    let i = c.loop-index.index in
    let size = 2 ^ shift c.args.level in
    let its = c.page_behind.ensures.page in
    let placed = ap (λ s. s * i) c.size-step.ensures in
    let word =
    word-judged ram c.args.runs.now c.args.place c.args.level c.args.table i c.read_entry-word.result.0 c.args.start _ c.page_behind.result c.gives_word.result c.loop-index.rest.now c.runs_from-rest.result.now
    c.read_entry-word.ensures c.requires.start (omega arith) (ap (λ s. c.args.start + s * i) c.size-step.ensures) c.page_behind.ensures.page c.loop-index.invariant.left c.runs_from-rest.ensures c.gives_word.ensures
    in
    record {
      so_far = λ a from to. joined ram c.args.runs.now c.args.place c.args.start (size * i) size _ c.loop-index.invariant.so_far (word.0 c.if-not-gives_word.false) a from (omega (arith, to));
      left = λ q p le. c.runs_from-rest.ensures q p (omega (arith, its, le, placed)) ∙ c.loop-index.invariant.left q p (omega (arith, le));
    }

pub gives_word-returns-in-Ok : goal.gives_word-returns-in-Ok
gives_word-returns-in-Ok g t c =
    let ram = g.M.PhysMem.ram c.args.memory.now in
    let some = sym c.next_level.ensures ∙ c.in-Some.is in
    through
    (subst (λ (n : ℕ). IsTrue c.gives_table.result ↔ AreCertified ram c.args.runs.now c.args.place c.args.start n (from_table ram c.in-Some.next c.in-Ok.table))
    (next-below c.args.level c.in-Some.next c.args.word.0 some).1 c.gives_table.ensures)
    (like ram c.args.runs.now c.args.place c.args.start (2 ^ shift c.args.level) (from_table ram c.in-Some.next c.in-Ok.table) (from_word ram c.args.level c.args.word.0)
    (λ a from to. sym (word-table ram c.args.level c.in-Some.next c.args.word.0 a c.table_of.result some c.table_of.ensures.value ∙ ap (on_from (λ table. from_table ram c.in-Some.next table a)) c.in-Ok.is)))

pub gives_word-returns-in-Err : goal.gives_word-returns-in-Err
gives_word-returns-in-Err g t c =
    let ram = g.M.PhysMem.ram c.args.memory.now in
    let some = sym c.next_level.ensures ∙ c.in-Some.is in
    unmapped ram c.args.runs.now c.args.place c.args.start (2 ^ shift c.args.level) (Err OutsideRam) (from_word ram c.args.level c.args.word.0) (of_pages c.args.level c.args.start c.requires.start).0
    (word-table ram c.args.level c.in-Some.next c.args.word.0 c.args.start c.table_of.result some c.table_of.ensures.value ∙ ap (on_from (λ table. from_table ram c.in-Some.next table c.args.start)) c.in-Err.is)
    (λ o. never-outside o c.args.start)

pub gives_word-returns-in-Some-access_by : goal.gives_word-returns-in-Some-access_by
gives_word-returns-in-Some-access_by g t c =
    let ram = g.M.PhysMem.ram c.args.memory.now in
    through c.have_access.ensures
    (mapped ram c.args.runs.now c.args.place c.args.start (2 ^ shift c.args.level) c.in-Some-access_by.access (first_answer c.args.level c.args.word.0) (from_word ram c.args.level c.args.word.0)
    (λ a from to. word-moved ram c.args.level c.args.word.0 c.args.start a (sym c.next_level.ensures ∙ c.in_default.is) c.requires.start from to)
    (sym c.first_answer.ensures ∙ c.in-Some-access_by.ensures.some))

pub gives_word-returns-in-None : goal.gives_word-returns-in-None
gives_word-returns-in-None g t c =
    let ram = g.M.PhysMem.ram c.args.memory.now in
    let some = (of_pages c.args.level c.args.start c.requires.start).0 in
    unmapped ram c.args.runs.now c.args.place c.args.start (2 ^ shift c.args.level) (first_answer c.args.level c.args.word.0) (from_word ram c.args.level c.args.word.0) some
    (word-moved ram c.args.level c.args.word.0 c.args.start c.args.start (sym c.next_level.ensures ∙ c.in_default.is) c.requires.start (omega arith) (omega (arith, some)))
    (λ o e. c.in-None.ensures.none o (c.first_answer.ensures ∙ e))
