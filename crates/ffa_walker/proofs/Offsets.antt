-- SPDX-License-Identifier: MIT OR Apache-2.0
-- The walk keeps the low 12 bits of an address, so that an aligned access stays in one page.
use Rattle.std.proofs.Common.{◌≡◌, ℕ, ◌*◌, ◌%◌, ◌^◌, arith, ◌==◌, nat_lt}
use Rattle.std.proofs.lemmas.Bool.{cond_both}
use Rattle.ffa_model.specs.Bits.{bits}
use Rattle.ffa_model.specs.Ram.{Ram}
use Rattle.ffa_model.specs.Walk.{Answer, is_page_address, entry, leaf_of, by_type, in_table, from_level3, from_level2, from_level1, walk}
use Rattle.ffa_model.specs.Memory.{size_of}
use Rattle.ffa_walker.specs.Offset.{KeepsOffset}
use Rattle.ffa_model.specs.declared.operation.Size.{Size}
use Rattle.ffa_model.specs.declared.operation.Size.TheVariants.{B1}

KeepsOffset-leaf_of : (word phys address : ℕ) → phys % 4096 ≡ address % 4096 → KeepsOffset address (leaf_of word phys)
unfolding leaf_of
KeepsOffset-leaf_of word phys address h = cond_both (bits 10 10 word == 0) _ _ (KeepsOffset address) (λ e. tt) (λ e. h)

KeepsOffset-in_table : (ram : Ram) (word address : ℕ) (next : ℕ → Answer) → ((table : ℕ) → KeepsOffset address (next table)) → KeepsOffset address (in_table ram word next)
KeepsOffset-in_table ram word address next h =
    cond_both (is_page_address ram (bits 47 12 word * 2 ^ 12)) _ _ (KeepsOffset address) (λ e. h (bits 47 12 word * 2 ^ 12)) (λ e. tt)

KeepsOffset-by_type : (word address : ℕ) (block table : Answer) → KeepsOffset address block → KeepsOffset address table → KeepsOffset address (by_type word block table)
KeepsOffset-by_type word address block table hb ht =
    cond_both (bits 0 0 word == 0) _ _ (KeepsOffset address) (λ e. tt) (λ e. cond_both (bits 1 1 word == 0) _ _ (KeepsOffset address) (λ e. hb) (λ e. ht))

KeepsOffset-from_level3 : (word address : ℕ) → KeepsOffset address (from_level3 word address)
unfolding from_level3
KeepsOffset-from_level3 word address =
    cond_both (bits 1 0 word == 3) _ _ (KeepsOffset address) (λ e. KeepsOffset-leaf_of word _ address (omega arith)) (λ e. tt)

KeepsOffset-from_level2 : (ram : Ram) (word address : ℕ) → KeepsOffset address (from_level2 ram word address)
unfolding from_level2
KeepsOffset-from_level2 ram word address =
    KeepsOffset-by_type word address _ _
    (KeepsOffset-leaf_of word _ address (omega arith))
    (KeepsOffset-in_table ram word address _ (λ table. KeepsOffset-from_level3 (entry ram table (bits 20 12 address)) address))

pub KeepsOffset-from_level1 : (ram : Ram) (word address : ℕ) → KeepsOffset address (from_level1 ram word address)
unfolding from_level1
KeepsOffset-from_level1 ram word address =
    KeepsOffset-by_type word address _ _
    (KeepsOffset-leaf_of word _ address (omega arith))
    (KeepsOffset-in_table ram word address _ (λ table. KeepsOffset-from_level2 ram (entry ram table (bits 29 21 address)) address))

-- the walk keeps the place in the page
pub KeepsOffset-walk : (ram : Ram) (root address : ℕ) → KeepsOffset address (walk ram root address)
unfolding walk
KeepsOffset-walk ram root address =
    cond_both (nat_lt address (2 ^ 32)) _ _ (KeepsOffset address) (λ e. KeepsOffset-from_level1 ram (entry ram root (bits 31 30 address)) address) (λ e. tt)

-- addresses at one place of their pages are aligned alike
pub same_alignment : (size : Size) (physical address : ℕ) → physical % 4096 ≡ address % 4096 → address % size_of size ≡ 0 → physical % size_of size ≡ 0
same_alignment B1 physical address place aligned = omega arith
same_alignment _ physical address place aligned = omega arith
