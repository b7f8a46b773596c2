-- SPDX-License-Identifier: MIT OR Apache-2.0
use Rattle.std.proofs.Common.{◌≡◌, ◌⊎◌, ℕ, ◌-◌, ◌/◌, ◌%◌, ◌≤◌, Bool, Option}
use Rattle.ffa_model.specs.declared.rights.Rights.{Rights}
use Rattle.arrayvec.specs.ArrayVec.{array_vec_len}
use Rattle.ffa_physmem.specs.Moments.{Only}
use Rattle.ffa_stage2.specs.Moments.{IsBetween}
use Rattle.ffa_stage2.specs.Orders.{IsOrdered}
use Rattle.ffa_stage2.specs.Tables.{IsBuilt, IsSameIn, KeepsOthers, with_pages}
use Rattle.ffa_stage2.specs.Work.{AreSplits, IsCarryAt, IsChange, words_written}
use Rattle.ffa_stage2.proofs.Work.{ArePassed}
use Rattle.ffa_stage2.proofs.tables.set_pages.Given as goal

-- the pages so far
abbrev pub invariant-loop-next : goal.invariant-loop-next
invariant-loop-next g l = record {
  from : l.fn.first.0 ≤ l.next;
  upto : l.next ≤ l.end;
  built : (access : ℕ → ℕ → Option Rights)
      → IsBuilt (g.M.PhysMem.ram l.fn.memory) (array_vec_len l.layout.regions) l.layout.tables.0 l.layout.blocks access
      → IsBuilt (g.M.PhysMem.ram l.memory) (array_vec_len l.layout.regions) l.layout.tables.0 l.layout.blocks (with_pages access l.index l.fn.first.0 l.next l.right);
  others : KeepsOthers (g.M.PhysMem.ram l.fn.memory) (g.M.PhysMem.ram l.memory) l.layout.tables.0 l.layout.blocks l.index;
  steps : (access : ℕ → ℕ → Option Rights)
      → IsBuilt (g.M.PhysMem.ram l.fn.memory) (array_vec_len l.layout.regions) l.layout.tables.0 l.layout.blocks access
      → Only (g.M.PhysMem.past l.fn.memory) (g.M.PhysMem.past l.memory) (λ _ s. IsBetween s.after (array_vec_len l.layout.regions) l.layout.tables.0 l.layout.blocks access (with_pages access l.index l.fn.first.0 l.end l.right));
  orders : (access : ℕ → ℕ → Option Rights)
      → IsBuilt (g.M.PhysMem.ram l.fn.memory) (array_vec_len l.layout.regions) l.layout.tables.0 l.layout.blocks access
      → Only (g.M.PhysMem.past l.fn.memory) (g.M.PhysMem.past l.memory) (λ h s. IsOrdered (g.M.PhysMem.ram l.fn.memory) l.layout.tables.0 l.layout.blocks
      (IsSameIn access (with_pages access l.index l.fn.first.0 l.end l.right) l.index) l.index h s);
  others_stay : Only (g.M.PhysMem.past l.fn.memory) (g.M.PhysMem.past l.memory) (λ _ s. KeepsOthers (g.M.PhysMem.ram l.fn.memory) s.after l.layout.tables.0 l.layout.blocks l.index);
  at : (l.next % 512 ≡ 0) ⊎ ((l.next ≡ l.fn.first.0) ⊎ (l.next ≡ l.end));
  runs : (access : ℕ → ℕ → Option Rights) (split : ℕ → Bool) (carry : ℕ)
      → IsBuilt (g.M.PhysMem.ram l.fn.memory) (array_vec_len l.layout.regions) l.layout.tables.0 l.layout.blocks access
      → AreSplits (access l.index) l.right l.fn.first.0 l.end split → IsCarryAt (access l.index) l.fn.first.0 carry
      → IsChange (g.M.PhysMem.past l.fn.memory) (g.M.PhysMem.past l.memory) (words_written l.right l.fn.first.0 l.next) (l.next / 512 - l.fn.first.0 / 512) carry
      (IsCarryAt (with_pages access l.index l.fn.first.0 l.next l.right l.index) l.next) (ArePassed split l.fn.first.0 l.next l.end);
}

-- the pages that are left
abbrev pub decreases-loop-next : goal.decreases-loop-next
decreases-loop-next g l = l.end - l.next
