-- SPDX-License-Identifier: MIT OR Apache-2.0
use Rattle.std.proofs.Common.{◌≡◌, ℕ, Bool, drop}
use Rattle.std.specs.List.{list_all}
use Rattle.ffa_model.specs.Walk.{is_page_address}
use Rattle.ffa_c.specs.Audit.{ram_at}
use Rattle.ffa_c.proofs.audit.are_pages.Given as goal

-- those so far are, so those that are left decide
abbrev pub invariant-loop-address : goal.invariant-loop-address
invariant-loop-address l =
    let is_page : ℕ → Bool = is_page_address (ram_at l.base l.list.pages) in
    list_all is_page (drop l.address-index l.addresses) ≡ list_all is_page l.addresses
