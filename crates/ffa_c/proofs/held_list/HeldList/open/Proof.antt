-- SPDX-License-Identifier: MIT OR Apache-2.0
use Rattle.std.proofs.boxed.Box.from_raw.Met.{met}
use Rattle.ffa_c.proofs.HeldSteps.{allocator, content, content_laws, glues, keeper, open_met, passed, to_list}
use Rattle.ffa_c.specs.contracts.held_list.HeldList.«open» as f
use Rattle.ffa_c.proofs.held_list.HeldList.«open».Statement.{statement}
use Rattle.ffa_c.proofs.held_list.HeldList.«open».Code as code

pub open_spec : {M : Type 1} → statement M
unfolding Rattle.ffa_c.proofs.Destruct++none.drop.Code.code
open_spec {M} 𝓤 𝓛 𝓜 𝓡 wired =
    let A = allocator keeper in
    open_met keeper to_list 𝓤 𝓛 𝓜 𝓡 f.Key.name _ (code.unfolded 𝓤 𝓛.H 𝓜 𝓡 wired)
    (met 𝓤 𝓛 𝓜 𝓡 (code.calls-std_alloc::boxed::Box::from_raw 𝓡.env wired) (content keeper to_list) A.row (content_laws keeper to_list) A.laws A.g A.d A.drops
    (passed 𝓡.env (code.calls-std_heap::GlobalAllocator::allocate 𝓡.env wired) (code.calls-std_heap::GlobalAllocator::deallocate 𝓡.env wired) (code.calls-std_heap::GlobalAllocator::grow 𝓡.env wired)
    (code.calls-std_heap::GlobalAllocator::shrink 𝓡.env wired) M 𝓤 𝓛 𝓜 𝓡)
    (glues "ffa_c::Destruct++none::drop" 𝓡.env (code.calls-ffa_c::Destruct++none::drop 𝓡.env wired) A.row A.laws M 𝓤 𝓛 𝓜 𝓡))
