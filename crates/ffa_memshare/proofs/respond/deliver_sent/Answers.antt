-- SPDX-License-Identifier: MIT OR Apache-2.0
use Rattle.std.proofs.Common.{◌∙◌, ◌++◌, ◌≡◌, ◌+◌, ◌≤◌, ℕ, List, Option, drop, length, sym, ap, subst, arith}
use Rattle.std.specs.Prelude.{IsSomeAnd}
use Rattle.ffa_model.specs.declared.endpoint.Version.{Version}
use Rattle.ffa_model.specs.declared.endpoint.Version.TheVariants.{Compact, V1_1, V1_2}
use Rattle.ffa_model.specs.DescriptorPlaces.{accesses_size, header_size}
use Rattle.ffa_model.specs.Ram.{with_page}
use Rattle.ffa_physmem.proofs.Moments.{Only-map}
use Rattle.ffa_physmem.proofs.Work.{spends-adds}
use Rattle.ffa_rxtx.proofs.Moments.{rx-loan}
use Rattle.ffa_model.specs.HypervisorRetrieve.{access_granted, sent_transaction_record}
use Rattle.ffa_model.specs.declared.descriptor.SentTransaction.{SentTransaction}
use Rattle.std.proofs.lemmas.List.{length-map}
use Rattle.ffa_model.specs.ResponseBytes.{response_bytes, response_size}
use Rattle.ffa_model.specs.State.{Buffers}
use Rattle.ffa_rxtx.specs.Parts.{IsInRam, with_rx_bytes}
use Rattle.ffa_rxtx.specs.Stored.{buffers_of}
use Rattle.ffa_rxtx.proofs.Runs.{short-run}
use Rattle.ffa_model.proofs.ResponseSize.{length-response_bytes}
use Rattle.ffa_memshare.proofs.respond.deliver_sent.Goals as goal

header-few : (version : Version) (n : ℕ) → n ≤ 4 → header_size version + accesses_size version n ≤ 176
header-few Compact n few = omega arith
header-few V1_1 n few = omega arith
header-few V1_2 n few = omega arith

told-size : (version : Version) (t : SentTransaction)
    → length (response_bytes version (sent_transaction_record t)) ≡ response_size version (length t.receivers.items) t.ranges.items
told-size version t =
    length-response_bytes version (sent_transaction_record t)
    ∙ ap (λ (n : ℕ). response_size version n t.ranges.items) (length-map t.receivers.items access_granted)

pub returns-clause-ram : goal.returns-clause-ram
returns-clause-ram g c =
    let rx : ℕ = c.args.own.rx.0 in
    let inside : IsInRam (length (g.M.PhysMem.ram c.args.ram.now).pages) (buffers_of c.args.own) =
    subst (λ (o : Option Buffers). IsSomeAnd o (λ b. IsInRam (length (g.M.PhysMem.ram c.args.ram.now).pages) b)) (sym c.requires.own) c.requires.rx in
    let bytes : List ℕ = response_bytes c.args.version (sent_transaction_record c.args.sent.now) in
    let few : length c.args.sent.now.receivers.items ≤ 4 = omega (arith, c.as_slice-2.ensures.fits, ap length c.as_slice-2.ensures.value) in
    g.met.M.PhysMem.one_page c.args.ram.now rx c.write_sent-size.new.out
    ∙ ap (with_page (g.M.PhysMem.ram c.args.ram.now) rx)
    (c.write_sent-size.ensures.bytes
    ∙ ap (λ n. bytes ++ drop n c.page_mut.result.now) (sym (told-size c.args.version c.args.sent.now))
    ∙ ap (λ (page : List ℕ). bytes ++ drop (length bytes) page) c.page_mut.ensures.value)
    ∙ sym (short-run c.args.own.pages (g.M.PhysMem.ram c.args.ram.now) rx bytes inside.some
    (omega (arith, told-size c.args.version c.args.sent.now, header-few c.args.version (length c.args.sent.now.receivers.items) few, c.as_slice.ensures.fits, ap length c.as_slice.ensures.value)))
    ∙ ap (λ (o : Option Buffers). with_rx_bytes (g.M.PhysMem.ram c.args.ram.now) o bytes) c.requires.own

pub returns-clause-steps : goal.returns-clause-steps
returns-clause-steps g c =
    Only-map (g.met.M.PhysMem.in_loan c.args.ram.now c.args.own.rx.0 c.write_sent-size.new.out)
    (λ _ s loan. rx-loan (g.M.PhysMem.ram c.args.ram.now) _ (buffers_of c.args.own) c.requires.own c.requires.rx s loan)

pub returns-clause-few : goal.returns-clause-few
returns-clause-few g c = spends-adds (g.met.M.PhysMem.one_loan c.args.ram.now c.args.own.rx.0 c.write_sent-size.new.out)
