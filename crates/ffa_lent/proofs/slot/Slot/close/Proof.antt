-- SPDX-License-Identifier: MIT OR Apache-2.0
use Rattle.std.proofs.boxed.Box.into_raw_with_allocator.Met.{met}
use Rattle.ffa_lent.proofs.Slots.{allocator, close_met, content, content_laws, ftrue, glues, lender, passed, sem, to_page}
use Rattle.ffa_lent.specs.contracts.slot.Slot.close as f
use Rattle.ffa_lent.proofs.slot.Slot.close.Statement.{statement}
use Rattle.ffa_lent.proofs.slot.Slot.close.Code as code

pub close_spec : {M : Type 1} → statement M
unfolding Rattle.ffa_lent.proofs.Destruct++none.drop.Code.code
close_spec {M} 𝓤 𝓛 𝓜 𝓡 wired =
    let A = allocator lender in let Y = content lender to_page in let laws = content_laws lender to_page in
    let drop_code = code.calls-ffa_lent::Destruct++none::drop 𝓡.env wired in
    close_met lender to_page 𝓤 𝓛 𝓜 𝓡 f.Key.name (λ _. sem 𝓛 ftrue) _ (code.unfolded 𝓤 𝓛.H 𝓜 𝓡 wired)
    (met 𝓤 𝓛 𝓜 𝓡 (code.calls-std_alloc::boxed::Box::into_raw_with_allocator 𝓡.env wired) Y A.row laws A.laws A.g A.d A.drops to_page.drops
    (passed 𝓡.env (code.calls-ffa_lent::lent::LentAllocator::allocate 𝓡.env wired) (code.calls-ffa_lent::lent::LentAllocator::deallocate 𝓡.env wired) (code.calls-ffa_lent::lent::LentAllocator::grow 𝓡.env wired)
    (code.calls-ffa_lent::lent::LentAllocator::shrink 𝓡.env wired) M 𝓤 𝓛 𝓜 𝓡)
    (glues "ffa_lent::Destruct++none::drop" 𝓡.env drop_code A.row A.laws M 𝓤 𝓛 𝓜 𝓡)
    (glues "ffa_lent::Destruct++none::drop" 𝓡.env drop_code Y laws M 𝓤 𝓛 𝓜 𝓡))
