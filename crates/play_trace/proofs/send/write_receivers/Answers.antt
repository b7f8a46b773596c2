-- SPDX-License-Identifier: MIT OR Apache-2.0
use borrow.Author.Count.{below_more}
use Rattle.std.proofs.Common.{◌++◌, ◌≡◌, ◌+◌, ◌∙◌, ◌^◌, ◌<◌, ℕ, List, length, get_or, take, None, sym, ap, subst, arith, flat_map}
use Rattle.std.proofs.lemmas.List.{get_or_default}
use Rattle.ffa_model.specs.declared.transaction.Receiver.{Receiver}
use Rattle.ffa_model.specs.DescriptorPlaces.{accesses_size}
use Rattle.ffa_memdesc.specs.Writing.{Wrote}
use Rattle.ffa_memdesc.proofs.Writes.{wrote_to}
use Rattle.play_trace.specs.Composed.{receiver_bytes, entry_bytes}
use Rattle.play_trace.proofs.Runs.{next_place, goes_on, ends}
use Rattle.play_trace.proofs.send.write_receivers.Goals as goal

fits_at : (xs : List Receiver) (i : ℕ) (e : Receiver) → i < length xs → (get_or xs i e).endpoint.0 < 2 ^ 16 → (d : Receiver) → (get_or xs i d).endpoint.0 < 2 ^ 16
fits_at xs i e lt fits d = subst (λ (x : Receiver). x.endpoint.0 < 2 ^ 16) (get_or_default xs i e d lt) fits

pub loop-i-preserved : goal.loop-i-preserved
loop-i-preserved c =
    let xs = c.args.receivers.now in
    let i = c.loop-i.i in
    let version = c.args.version in
    let bytes = receiver_bytes version c.args.composite in
    let size = c.accesses_size.ensures.value in
    let e : Receiver = record { endpoint = record { 0 = 0 }; grant = None } in (
      omega arith,
      next_place version c.args.at c.loop-i.place i c.accesses_size.result c.loop-i.invariant.1 size,
      (λ old front w. goes_on bytes old front xs i e (c.loop-i.place + c.accesses_size.result) c.write_access.new.page c.loop-i-test.true
          (subst (λ (n : ℕ). Wrote old ((front ++ flat_map bytes (take i xs)) ++ bytes (get_or xs i e)) (c.loop-i.place + n) c.write_access.new.page) (sym size)
          (subst (λ (p : ℕ). Wrote old ((front ++ flat_map bytes (take i xs)) ++ entry_bytes version (get_or xs i e).endpoint.0 p c.args.composite) (c.loop-i.place + accesses_size version 1) c.write_access.new.page) c.grant_code.ensures
          (c.write_access.ensures.bytes old _ (c.loop-i.invariant.2 old front w))))),
      below_more (λ (k : ℕ). (d : Receiver) → (get_or xs k d).endpoint.0 < 2 ^ 16) i c.loop-i.invariant.3 (fits_at xs i e c.loop-i-test.true c.write_access.ensures.fit),
    )

pub returns : goal.returns
returns c =
    let all : c.loop-i.i ≡ length c.args.receivers.now = let test = c.loop-i-test.false in let auto = c.loop-i.auto.i-end in omega arith in
    let size = ap (accesses_size c.args.version) all in
    let end : c.loop-i.place ≡ c.args.at + accesses_size c.args.version (length c.args.receivers.now) = c.loop-i.invariant.1 ∙ omega arith in
    record {
      bytes = λ old front w. wrote_to _ _ _ _ _ end (ends (receiver_bytes c.args.version c.args.composite) old front c.args.receivers.now c.loop-i.i c.loop-i.place c.loop-i.page all (c.loop-i.invariant.2 old front w));
      fit = λ k lt d. let test = c.loop-i-test.false in c.loop-i.invariant.3 k (omega arith) d;
    }
