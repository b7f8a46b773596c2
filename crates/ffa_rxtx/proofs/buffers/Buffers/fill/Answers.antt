-- SPDX-License-Identifier: MIT OR Apache-2.0
use Rattle.std.proofs.Common.{◌∙◌, ◌++◌, ℕ, List, Option, drop, length, ap, subst, sym, IsSomeAnd}
use Rattle.ffa_model.specs.Ram.{with_page}
use Rattle.ffa_model.specs.State.{Buffers}
use Rattle.ffa_rxtx.specs.Parts.{IsInRam, with_rx_bytes}
use Rattle.ffa_rxtx.specs.Stored.{buffers_of}
use Rattle.ffa_physmem.proofs.Moments.{Only-map}
use Rattle.ffa_physmem.proofs.Work.{spends-adds, adds-none}
use Rattle.ffa_physmem.specs.Work.{loans_of}
use Rattle.ffa_rxtx.proofs.Moments.{rx-loan}
use Rattle.ffa_rxtx.proofs.Runs.{short-run}
use Rattle.ffa_rxtx.proofs.buffers.Buffers.fill.Goals as goal

pub returns-in-Some-clause-ram : goal.returns-in-Some-clause-ram
returns-in-Some-clause-ram g c =
    let rx : ℕ = c.in-Some.mapped.rx.0 in
    let inside : IsInRam (length (g.M.PhysMem.ram c.args.ram.now).pages) (buffers_of c.in-Some.mapped) =
    subst (λ (o : Option Buffers). IsSomeAnd o (λ b. IsInRam (length (g.M.PhysMem.ram c.args.ram.now).pages) b)) (sym c.in-Some.ensures) c.requires.rx in
    g.met.M.PhysMem.one_page c.args.ram.now rx c.put_front.new.target
    ∙ ap (with_page (g.M.PhysMem.ram c.args.ram.now) rx)
    (c.put_front.ensures ∙ ap (λ (page : List ℕ). c.args.bytes.now ++ drop (length c.args.bytes.now) page) c.page_mut.ensures.value)
    ∙ sym (short-run c.in-Some.mapped.pages (g.M.PhysMem.ram c.args.ram.now) rx c.args.bytes.now inside.some c.requires.bytes)
    ∙ ap (λ (o : Option Buffers). with_rx_bytes (g.M.PhysMem.ram c.args.ram.now) o c.args.bytes.now) c.in-Some.ensures

pub returns-in-Some-clause-steps : goal.returns-in-Some-clause-steps
returns-in-Some-clause-steps g c =
    Only-map (g.met.M.PhysMem.in_loan c.args.ram.now c.in-Some.mapped.rx.0 c.put_front.new.target)
    (λ _ s loan. rx-loan (g.M.PhysMem.ram c.args.ram.now) _ (buffers_of c.in-Some.mapped) c.in-Some.ensures c.requires.rx s loan)

pub returns-in-Some-clause-few : goal.returns-in-Some-clause-few
returns-in-Some-clause-few g c = spends-adds (g.met.M.PhysMem.one_loan c.args.ram.now c.in-Some.mapped.rx.0 c.put_front.new.target)
