-- SPDX-License-Identifier: MIT OR Apache-2.0
use Rattle.std.proofs.Common.{◌≡◌, ◌∙◌, ◌<◌, ℕ, Bool, length, take, refl, arith, sym, ap}
use Rattle.std.proofs.lemmas.List.{take_all}
use Rattle.std.specs.Prelude.{◌&&◌}
use Rattle.ffa_model.specs.MemorySend.{is_sendable}
use Rattle.ffa_model.specs.Rights.{may_store}
use Rattle.ffa_pages.specs.Entry.{own_right_at}
use Rattle.ffa_rxtx.specs.Parts.{ownership_in}
use Rattle.ffa_memshare.specs.Named.{all_named}
use Rattle.ffa_memshare.specs.Ranges.{in_range, in_ranges}
use Rattle.ffa_memshare.proofs.AllNamed.{all-next, all-none}
use Rattle.ffa_memshare.proofs.checks.send.look_at.Goals as goal

pub loop-place-init : goal.loop-place-init
loop-place-init g c =
    record {
      sendable = sym (all-none (is_sendable c.args.sender.0 (ownership_in c.args.pages.now c.args.base.0) c.args.buffers.now) (length c.args.pages.now) (in_ranges c.args.base.0 (take 0 c.args.ranges.now)) (λ p. refl));
      writable = sym (all-none (λ p. may_store (own_right_at c.args.pages.now p)) (length c.args.pages.now) (in_ranges c.args.base.0 (take 0 c.args.ranges.now)) (λ p. refl));
    }

pub loop-place-preserved : goal.loop-place-preserved
loop-place-preserved g c =
    let i = c.loop-place.invariant in
    let pages = c.args.pages.now in
    let ranges = c.args.ranges.now in
    let k = c.loop-place.place in
    let range = c.at.result in
    let lt : k < length ranges = omega (arith, c.loop-place-test.true, c.len-place-end.ensures.count) in
    let both = λ (test : ℕ → Bool) (before this : Bool) (was : before ≡ all_named (length pages) (in_ranges c.args.base.0 (take k ranges)) test)
    (is : this ≡ all_named (length pages) (in_range c.args.base.0 range) test).
    ap (λ b. b && this) was
    ∙ ap (λ b. all_named (length pages) (in_ranges c.args.base.0 (take k ranges)) test && b) is
    ∙ sym (all-next test (length pages) c.args.base.0 ranges k range lt (c.at.ensures range)) in
    record {
      sendable = c.and-looked.ensures.sendable ∙ both (is_sendable c.args.sender.0 (ownership_in pages c.args.base.0) c.args.buffers.now) _ _ i.sendable c.look_at_range.ensures.sendable;
      writable = c.and-looked.ensures.writable ∙ both (λ p. may_store (own_right_at pages p)) _ _ i.writable c.look_at_range.ensures.writable;
    }

pub returns-clause-sendable : goal.returns-clause-sendable
returns-clause-sendable g c =
    c.loop-place.invariant.sendable
    ∙ ap (λ ranges. all_named (length c.args.pages.now) (in_ranges c.args.base.0 ranges) (is_sendable c.args.sender.0 (ownership_in c.args.pages.now c.args.base.0) c.args.buffers.now)) (take_all c.loop-place.place c.args.ranges.now (omega (arith, c.len-place-end.ensures.count)))

pub returns-clause-writable : goal.returns-clause-writable
returns-clause-writable g c =
    c.loop-place.invariant.writable
    ∙ ap (λ ranges. all_named (length c.args.pages.now) (in_ranges c.args.base.0 ranges) (λ p. may_store (own_right_at c.args.pages.now p))) (take_all c.loop-place.place c.args.ranges.now (omega (arith, c.len-place-end.ensures.count)))
