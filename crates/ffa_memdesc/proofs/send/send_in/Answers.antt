-- SPDX-License-Identifier: MIT OR Apache-2.0
use Rattle.std.proofs.Common.{◌≡◌, ◌+◌, ◌∙◌, ap, length, ℕ, None, Err, of_calls}
use Rattle.ffa_model.specs.DescriptorPlaces.{composite_place, u32_at, in_version}
use Rattle.ffa_memdesc.specs.declared.header.Header.{Header}
use Rattle.ffa_memdesc.specs.Reading.{ranges_of}
use Rattle.ffa_memdesc.proofs.SendParts.{count_is, range_count_at, receivers_at, totals, whole_send, entry_inside, receivers_first, composite_first, ranges_first, total_first, total_none, first_in_header, first_in_fields, first_in_receivers, first_in_composite, first_in_ranges, first_in_total}
use Rattle.ffa_memdesc.proofs.send.send_in.Goals as goal

pub returns-in-Err-clause-first : goal.returns-in-Err-clause-first
returns-in-Err-clause-first g c =
    first_in_header c.args.ffa c.args.kind (in_version c.args.version (g.B.Bytes.bytes c.args.bytes.now)) _ c.in-Err.ensures.first

pub returns-in-Err-check_header-clause-first : goal.returns-in-Err-check_header-clause-first
returns-in-Err-check_header-clause-first g c =
    let b = in_version c.args.version (g.B.Bytes.bytes c.args.bytes.now) in
    first_in_fields c.args.ffa c.args.kind b _ c.in-Ok.ensures.first (c.in-Err-check_header.ensures.first b c.in-Ok.ensures.found)

pub read_u32-composite-requires : goal.read_u32-composite-requires
read_u32-composite-requires g c =
    entry_inside c.args.ffa c.args.kind (in_version c.args.version (g.B.Bytes.bytes c.args.bytes.now)) c.in-Ok.header (length (g.B.Bytes.bytes c.args.bytes.now)) c.in-Ok.ensures.found c.in-Ok.ensures.inside
    (c.in_default.ensures.fits (in_version c.args.version (g.B.Bytes.bytes c.args.bytes.now)) c.in-Ok.ensures.found)

pub returns-in_err-receivers-clause-first : goal.returns-in_err-receivers-clause-first
returns-in_err-receivers-clause-first g c =
    let b = in_version c.args.version (g.B.Bytes.bytes c.args.bytes.now) in
    let place : c.read_u32-composite.result ≡ composite_place (in_version c.args.version (g.B.Bytes.bytes c.args.bytes.now)) = c.read_u32-composite.ensures ∙ ap (λ (h : Header). u32_at (g.B.Bytes.bytes c.args.bytes.now) (h.array + 4)) c.in-Ok.ensures.found in
    let fields = c.in_default.ensures.first b c.in-Ok.ensures.found in
    let refused : c.from_residual.result ≡ Err c.in_err-receivers.field-0.0 = search of_calls in
    rw refused (first_in_receivers c.args.ffa c.args.kind b _ c.in-Ok.ensures.first fields
    (receivers_first c.args.kind b c.in-Ok.header c.read_u32-composite.result _ c.in-Ok.ensures.found place c.in_err-receivers.ensures.first))

pub returns-in-Err-read_range_count-clause-first : goal.returns-in-Err-read_range_count-clause-first
returns-in-Err-read_range_count-clause-first g c =
    let b = in_version c.args.version (g.B.Bytes.bytes c.args.bytes.now) in
    let place : c.read_u32-composite.result ≡ composite_place (in_version c.args.version (g.B.Bytes.bytes c.args.bytes.now)) = c.read_u32-composite.ensures ∙ ap (λ (h : Header). u32_at (g.B.Bytes.bytes c.args.bytes.now) (h.array + 4)) c.in-Ok.ensures.found in
    let fields = c.in_default.ensures.first b c.in-Ok.ensures.found in
    let receivers = receivers_first c.args.kind b c.in-Ok.header c.read_u32-composite.result None c.in-Ok.ensures.found place c.in_ok-receivers.ensures.first in
    first_in_composite c.args.ffa c.args.kind b _ c.in-Ok.ensures.first fields receivers
    (composite_first b c.in-Ok.header c.read_u32-composite.result _ c.in-Ok.ensures.found place c.in-Err-read_range_count.ensures.first)

pub returns-in_err-read_ranges-clause-first : goal.returns-in_err-read_ranges-clause-first
returns-in_err-read_ranges-clause-first g c =
    let b = in_version c.args.version (g.B.Bytes.bytes c.args.bytes.now) in
    let place : c.read_u32-composite.result ≡ composite_place (in_version c.args.version (g.B.Bytes.bytes c.args.bytes.now)) = c.read_u32-composite.ensures ∙ ap (λ (h : Header). u32_at (g.B.Bytes.bytes c.args.bytes.now) (h.array + 4)) c.in-Ok.ensures.found in
    let fields = c.in_default.ensures.first b c.in-Ok.ensures.found in
    let receivers = receivers_first c.args.kind b c.in-Ok.header c.read_u32-composite.result None c.in-Ok.ensures.found place c.in_ok-receivers.ensures.first in
    let composite = composite_first b c.in-Ok.header c.read_u32-composite.result None c.in-Ok.ensures.found place c.in-Ok-read_range_count.ensures.first in
    let count = c.in-Ok-read_range_count.ensures.found ∙ range_count_at b c.in-Ok.header c.read_u32-composite.result c.in-Ok.ensures.found place in
    let refused : c.from_residual-in_err-read_ranges.result ≡ Err c.in_err-read_ranges.field-0.0 = search of_calls in
    rw refused (first_in_ranges c.args.ffa c.args.kind b _ c.in-Ok.ensures.first fields receivers composite
    (ranges_first b c.read_u32-composite.result c.in-Ok-read_range_count.count _ place (count_is b c.in-Ok-read_range_count.count count) c.in_err-read_ranges.ensures.first))

pub returns-then-page_total-read_u32-clause-first : goal.returns-then-page_total-read_u32-clause-first
returns-then-page_total-read_u32-clause-first g c =
    let b = in_version c.args.version (g.B.Bytes.bytes c.args.bytes.now) in
    let place : c.read_u32-composite.result ≡ composite_place (in_version c.args.version (g.B.Bytes.bytes c.args.bytes.now)) = c.read_u32-composite.ensures ∙ ap (λ (h : Header). u32_at (g.B.Bytes.bytes c.args.bytes.now) (h.array + 4)) c.in-Ok.ensures.found in
    let fields = c.in_default.ensures.first b c.in-Ok.ensures.found in
    let receivers = receivers_first c.args.kind b c.in-Ok.header c.read_u32-composite.result None c.in-Ok.ensures.found place c.in_ok-receivers.ensures.first in
    let composite = composite_first b c.in-Ok.header c.read_u32-composite.result None c.in-Ok.ensures.found place c.in-Ok-read_range_count.ensures.first in
    let count = c.in-Ok-read_range_count.ensures.found ∙ range_count_at b c.in-Ok.header c.read_u32-composite.result c.in-Ok.ensures.found place in
    let ranges = ranges_first b c.read_u32-composite.result c.in-Ok-read_range_count.count None place (count_is b c.in-Ok-read_range_count.count count) c.in_ok-read_ranges.ensures.first in
    let read = c.in_ok-read_ranges.ensures.found ∙ ap (λ (p : ℕ). ranges_of (g.B.Bytes.bytes c.args.bytes.now) p c.in-Ok-read_range_count.count) place in
    let both = totals b c.read_ranges.new.ranges.items c.deref.result.now c.in-Ok-read_range_count.count c.read_u32-composite.result _ _ place read (count_is b c.in-Ok-read_range_count.count count) c.deref.ensures.0 c.page_total.ensures c.read_u32.ensures in
    first_in_total c.args.ffa c.args.kind b _ c.in-Ok.ensures.first fields receivers composite ranges (total_first b _ _ both c.if-page_total-read_u32.true)

pub returns-clause-first : goal.returns-clause-first
returns-clause-first g c =
    let b = in_version c.args.version (g.B.Bytes.bytes c.args.bytes.now) in
    let place : c.read_u32-composite.result ≡ composite_place (in_version c.args.version (g.B.Bytes.bytes c.args.bytes.now)) = c.read_u32-composite.ensures ∙ ap (λ (h : Header). u32_at (g.B.Bytes.bytes c.args.bytes.now) (h.array + 4)) c.in-Ok.ensures.found in
    let fields = c.in_default.ensures.first b c.in-Ok.ensures.found in
    let receivers = receivers_first c.args.kind b c.in-Ok.header c.read_u32-composite.result None c.in-Ok.ensures.found place c.in_ok-receivers.ensures.first in
    let composite = composite_first b c.in-Ok.header c.read_u32-composite.result None c.in-Ok.ensures.found place c.in-Ok-read_range_count.ensures.first in
    let count = c.in-Ok-read_range_count.ensures.found ∙ range_count_at b c.in-Ok.header c.read_u32-composite.result c.in-Ok.ensures.found place in
    let ranges = ranges_first b c.read_u32-composite.result c.in-Ok-read_range_count.count None place (count_is b c.in-Ok-read_range_count.count count) c.in_ok-read_ranges.ensures.first in
    let read = c.in_ok-read_ranges.ensures.found ∙ ap (λ (p : ℕ). ranges_of (g.B.Bytes.bytes c.args.bytes.now) p c.in-Ok-read_range_count.count) place in
    let both = totals b c.read_ranges.new.ranges.items c.deref.result.now c.in-Ok-read_range_count.count c.read_u32-composite.result _ _ place read (count_is b c.in-Ok-read_range_count.count count) c.deref.ensures.0 c.page_total.ensures c.read_u32.ensures in
    first_in_total c.args.ffa c.args.kind b _ c.in-Ok.ensures.first fields receivers composite ranges (total_none b _ _ both c.if-page_total-read_u32.false)

pub returns-clause-found : goal.returns-clause-found
returns-clause-found g c =
    let place : c.read_u32-composite.result ≡ composite_place (in_version c.args.version (g.B.Bytes.bytes c.args.bytes.now)) = c.read_u32-composite.ensures ∙ ap (λ (h : Header). u32_at (g.B.Bytes.bytes c.args.bytes.now) (h.array + 4)) c.in-Ok.ensures.found in
    let count = c.in-Ok-read_range_count.ensures.found ∙ range_count_at (in_version c.args.version (g.B.Bytes.bytes c.args.bytes.now)) c.in-Ok.header c.read_u32-composite.result c.in-Ok.ensures.found place in
    let receivers = c.in_ok-receivers.ensures.found ∙ receivers_at c.args.kind (in_version c.args.version (g.B.Bytes.bytes c.args.bytes.now)) c.in-Ok.header c.read_u32-composite.result c.in-Ok.ensures.found place in
    let ranges = c.in_ok-read_ranges.ensures.found ∙ ap (λ (p : ℕ). ranges_of (g.B.Bytes.bytes c.args.bytes.now) p c.in-Ok-read_range_count.count) place in
    rw c.flags_but_type.ensures (whole_send c.args.ffa c.args.kind (in_version c.args.version (g.B.Bytes.bytes c.args.bytes.now)) c.in-Ok.header c.in_ok-receivers.receivers.items c.in-Ok-read_range_count.count c.read_ranges.new.ranges.items _ _
    c.in-Ok.ensures.whole c.in-Ok.ensures.found (c.in_default.ensures.fits (in_version c.args.version (g.B.Bytes.bytes c.args.bytes.now)) c.in-Ok.ensures.found) receivers count ranges
    (totals (in_version c.args.version (g.B.Bytes.bytes c.args.bytes.now)) c.read_ranges.new.ranges.items c.deref.result.now c.in-Ok-read_range_count.count c.read_u32-composite.result _ _ place ranges (count_is (in_version c.args.version (g.B.Bytes.bytes c.args.bytes.now)) c.in-Ok-read_range_count.count count) c.deref.ensures.0 c.page_total.ensures c.read_u32.ensures)
    c.if-page_total-read_u32.false)
