-- SPDX-License-Identifier: MIT OR Apache-2.0
use Rattle.std.proofs.Common.{◌≡◌, ◌∙◌, ◌<◌, ◌≤◌, ℕ, None, Option, Some, Result, Ok, Err, OnOk, OnErr, IfErr, length, ap, arith}
use Rattle.std.specs.Result.{result_err}
use Rattle.std.proofs.lemmas.Result.{on_ok_weaker}
use Rattle.ffa_memdesc.proofs.Entries.{whole_ranges, first_overlaps, first_breaks, none_breaks}
use Rattle.ffa_memdesc.proofs.ranges.read_ranges.Goals as goal

-- the most that can be read, whether all are or not
most : {T E : Type 0} (r : Result T E) (n count : ℕ) → OnOk r (n ≡ count) → OnErr r (n < count) → n ≤ count
most (Ok x) n count all some = omega arith
most (Err e) n count all some = omega arith

told : {T E : Type 0} (r : Result T E) (n count : ℕ) (own first : Option E) → OnOk r (n ≡ count) → OnErr r (n < count) → IfErr r (λ e. Some e ≡ own)
    → (n ≡ count → None ≡ first) → ((e : E) → n < count → Some e ≡ own → Some e ≡ first) → result_err r ≡ first
told (Ok x) n count own first all some broken none flaw = none all
told (Err e) n count own first all some broken none flaw = flaw e some broken

pub returns-in-Some-clause-first : goal.returns-in-Some-clause-first
returns-in-Some-clause-first g c =
    let b = g.B.Bytes.bytes c.args.bytes.now in
    let n = length c.read_each-read.new.ranges.items in
    let same = c.deref.ensures.0 in
    let size : length c.deref.result.now ≡ n = ap length same in
    first_overlaps b c.args.composite n c.args.count c.deref.result.now c.in-Some.place
    (most c.read_each-read.result n c.args.count c.read_each-read.ensures.all c.read_each-read.ensures.some)
    (same ∙ c.read_each-read.ensures.listed) c.read_each-read.ensures.whole (let inside = c.in-Some.ensures.inside in omega arith) c.in-Some.ensures.first c.in-Some.ensures.overlaps

pub returns-in-None-clause-found : goal.returns-in-None-clause-found
returns-in-None-clause-found g c =
    let b = g.B.Bytes.bytes c.args.bytes.now in
    let n = length c.read_each-read.new.ranges.items in
    let same = c.deref.ensures.0 in
    let size : length c.deref.result.now ≡ n = ap length same in
    on_ok_weaker c.read_each-read.result (λ (all : n ≡ c.args.count). rw (← same)
    (whole_ranges b c.args.composite n c.args.count c.deref.result.now all (same ∙ c.read_each-read.ensures.listed) c.read_each-read.ensures.whole
    (λ i lt. c.in-None.ensures.none i (omega arith)))) c.read_each-read.ensures.all

pub returns-in-None-clause-first : goal.returns-in-None-clause-first
returns-in-None-clause-first g c =
    let b = g.B.Bytes.bytes c.args.bytes.now in
    let n = length c.read_each-read.new.ranges.items in
    let same = c.deref.ensures.0 in
    let size : length c.deref.result.now ≡ n = ap length same in
    told c.read_each-read.result n c.args.count _ _ c.read_each-read.ensures.all c.read_each-read.ensures.some c.read_each-read.ensures.first
    (λ all. none_breaks b c.args.composite n c.args.count c.deref.result.now all (same ∙ c.read_each-read.ensures.listed) c.read_each-read.ensures.whole
    (λ i lt. c.in-None.ensures.none i (omega arith)))
    (λ flaw few e. first_breaks b c.args.composite n c.args.count c.deref.result.now flaw few (same ∙ c.read_each-read.ensures.listed) c.read_each-read.ensures.whole
    (λ i lt. c.in-None.ensures.none i (omega arith)) e)
