-- SPDX-License-Identifier: MIT OR Apache-2.0
use Rattle.std.proofs.boxed.Box.into_raw_with_allocator.Met.{met}
use Rattle.ffa_c.proofs.ffa_c++seat++Seat+Destruct.drop.Met.{met as dropped}
use Rattle.ffa_c.proofs.ffa_c++seat++Seat+Destruct.drop.Symbol.{as_method}
use Rattle.ffa_c.specs.contracts.ffa_c++seat++Seat+Destruct.drop as let_go
use Rattle.ffa_lent.proofs.Steps.{IsSome, refl}
use Rattle.ffa_c.proofs.HeldSteps.{allocator, close_met, content, content_laws, drop_met, fact, glues, keeper, method, no_args, passed, to_seat, triple_of, widened}
use Rattle.ffa_c.specs.contracts.held.Held.close as f
use Rattle.ffa_c.proofs.held.Held.close.Statement.{statement}
use Rattle.ffa_c.proofs.held.Held.close.Code as code

pub close_spec : {M : Type 1} → statement M
unfolding Rattle.ffa_c.proofs.Destruct++none.drop.Code.code
close_spec {M} 𝓤 𝓛 𝓜 𝓡 wired =
    let A = allocator keeper in let Y = content keeper to_seat in let d = method to_seat.drops 0 no_args in
    let drop_code = code.calls-ffa_c::ffa_c++seat++Seat+Destruct::drop 𝓡.env wired in
    close_met keeper to_seat 𝓤 𝓛 𝓜 𝓡 f.Key.name (λ x. fact 𝓤 (IsSome x)) _ (code.unfolded 𝓤 𝓛.H 𝓜 𝓡 wired)
    (met 𝓤 𝓛 𝓜 𝓡 (code.calls-std_alloc::boxed::Box::into_raw_with_allocator 𝓡.env wired) Y A.row (content_laws keeper to_seat) A.laws A.g A.d A.drops to_seat.drops
    (passed 𝓡.env (code.calls-std_heap::GlobalAllocator::allocate 𝓡.env wired) (code.calls-std_heap::GlobalAllocator::deallocate 𝓡.env wired) (code.calls-std_heap::GlobalAllocator::grow 𝓡.env wired)
    (code.calls-std_heap::GlobalAllocator::shrink 𝓡.env wired) M 𝓤 𝓛 𝓜 𝓡)
    (glues "ffa_c::Destruct++none::drop" 𝓡.env (code.calls-ffa_c::Destruct++none::drop 𝓡.env wired) A.row A.laws M 𝓤 𝓛 𝓜 𝓡)
    (drop_met 𝓛 𝓜 𝓡 Y to_seat.drops (λ x r. (let_go.spec 𝓛 𝓜.mem 𝓡.returns tt (x, tt)).ensures tt r)
    (widened 𝓤 𝓛.H (triple_of 𝓛 let_go.signature (let_go.spec 𝓛 𝓜.mem 𝓡.returns)) 𝓜 𝓡 𝓡.env (𝓡.env let_go.Key.name) (𝓡.env d) (as_method 𝓡.env drop_code d refl) (dropped 𝓤 𝓛 𝓜 𝓡 drop_code))))
