-- SPDX-License-Identifier: MIT OR Apache-2.0
-- Access, computed from the open transactions whenever it is asked.
use Rattle.std.specs.Prelude.{ℕ, ◌+◌, ◌*◌, ◌==◌, Bool, false, ◌&&◌, nat_lt, nat_le, List, length, Option, Some, None, is_some, find, if◌then◌else◌}
use Rattle.std.specs.Ordering.{nat_cmp}
use Rattle.std.specs.List.{list_any}
use Rattle.std.specs.Option.{option_and_then}
use Rattle.std.specs.FinMap as map
use Rattle.ffa_model.specs.declared.rights.Rights.{Rights}
use Rattle.ffa_model.specs.declared.transaction.Range.{Range}
use Rattle.ffa_model.specs.declared.transaction.Receiver.{Receiver}
use Rattle.ffa_model.specs.Numbers.{HandleNumber, Identifier, PageIndex}
use Rattle.ffa_model.specs.Rights.{is_share}
use Rattle.ffa_model.specs.State.{State, Page, Transaction, page_at, address_of, owner_of, own_right_of}

-- whether the page at an address is in one of the ranges
abbrev pub covers : List Range → ℕ → Bool
covers ranges address =
    list_any (λ (r : Range). nat_le r.address address && nat_lt address (r.address + 4096 * r.pages)) ranges

abbrev pub names : State → List Range → PageIndex → Bool
names s ranges p = covers ranges (address_of s p)

abbrev pub is_naming : State → PageIndex → Option Transaction → Bool
is_naming s p None = false
is_naming s p (Some t) = names s t.ranges p

abbrev pub is_from : Identifier → Option Transaction → Bool
is_from e None = false
is_from e (Some t) = t.sender == e

abbrev pub is_receiver : Identifier → Transaction → Bool
is_receiver e t = list_any (λ (r : Receiver). r.endpoint.0 == e) t.receivers

abbrev pub is_offered : Identifier → Option Transaction → Bool
is_offered e None = false
is_offered e (Some t) = is_receiver e t

abbrev pub held_by : Transaction → Identifier → Option Rights
held_by t e = map.get t.held e

abbrev pub is_held_by : Identifier → Option Transaction → Bool
is_held_by e None = false
is_held_by e (Some t) = is_some (held_by t e)

-- the least handle of an open transaction that passes a test
abbrev pub first_handle : (Option Transaction → Bool) → map.FinMap nat_cmp Transaction → Option HandleNumber
first_handle test m = find (λ h. test (map.get m h)) (map.keys m)

abbrev pub handle_at : State → PageIndex → Option HandleNumber
handle_at s p = first_handle (is_naming s p) s.transactions

-- the open transaction in which a page stands
abbrev pub transaction_at : State → PageIndex → Option Transaction
transaction_at s p = option_and_then (map.get s.transactions) (handle_at s p)

-- RAM as the checks of a call see it: where it begins and how many pages it has; and of a page its owner, the owner's own right,
-- which a page of the manager hasn't, and whether an open transaction names it
pub record Ownership : Type 0 where
  pub base : ℕ
  pub count : ℕ
  pub owner : PageIndex → Identifier
  pub own_right : PageIndex → Option Rights
  pub is_named : PageIndex → Bool

abbrev pub ownership_of : State → Ownership
ownership_of s =
    record {
      base = s.ram_base;
      count = length s.pages;
      owner = owner_of s;
      own_right = own_right_of s;
      is_named = λ p. is_some (handle_at s p);
    }

-- the right that a page's transaction gives: the held one, and in a share the sender's own
abbrev pub right_by : Identifier → Page → Transaction → Option Rights → Option Rights
right_by e page t (Some right) = Some right
right_by e page t None = if is_share t.kind && t.sender == e then Some page.own_right else None

-- the right of e to a page that stands in this transaction, or in none
abbrev pub right_of : Identifier → Option Page → Option Transaction → Option Rights
right_of e None t = None
right_of e (Some page) None = if page.owner == e then Some page.own_right else None
right_of e (Some page) (Some t) = right_by e page t (held_by t e)

abbrev pub access : State → Identifier → PageIndex → Option Rights
access s e p = right_of e (page_at s p) (transaction_at s p)
