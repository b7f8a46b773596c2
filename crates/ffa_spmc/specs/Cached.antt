-- SPDX-License-Identifier: MIT OR Apache-2.0
-- What a machine's cache of leaves holds, and what operations do to it.
use Rattle.std.specs.Prelude.{◌≡◌, ◌≢◌, ◌⊎◌, ◌<◌, ℕ, Bool, true, false, length, Option, Some, None, Ok, is_some, if◌then◌else◌}
use Rattle.std.specs.Option.{option_and_then, option_map_or}
use Rattle.ffa_model.specs.declared.leaf.Leaf.{Leaf}
use Rattle.ffa_model.specs.declared.operation.Op.{Op}
use Rattle.ffa_model.specs.declared.operation.Op.TheVariants.{Call, Load, Store, Fetch}
use Rattle.ffa_model.specs.Access.{access}
use Rattle.ffa_model.specs.Memory.{page_of_address}
use Rattle.ffa_model.specs.Ram.{Ram}
use Rattle.ffa_model.specs.State.{State, address_of, is_known}
use Rattle.ffa_tlb.specs.Lookups.{is_pair, lookup}
use Rattle.ffa_spmc.specs.Snapshot.{Snapshot}
use Rattle.ffa_spmc.specs.Walks.{walk_of}

-- a leaf that is held for a page of an endpoint: both are there, and it is what the walk of the page's first address
-- answers now, over the bytes of RAM
pub record IsWalk (ram : Ram) (s : State) (e p : ℕ) (leaf : Leaf) : Type 0 where
  pub known : is_known s e ≡ true
  pub page : p < length ram.pages
  pub walk : walk_of ram s e (address_of s p) ≡ Ok leaf

-- so is each leaf that is held
abbrev pub AreWalks : Snapshot → Type 0
AreWalks x = (e p : ℕ) (leaf : Leaf) → lookup x.held e p ≡ Some leaf → IsWalk x.ram x.state e p leaf

-- nothing is held for a page to which the endpoint's access has changed
abbrev pub AreForgotten : Snapshot → Snapshot → Type 0
AreForgotten old new = (e p : ℕ) → access new.state e p ≢ access old.state e p → lookup new.held e p ≡ None

-- each page to which the endpoint's access is as before has what it had
abbrev pub AreKept : Snapshot → Snapshot → Type 0
AreKept old new = (e p : ℕ) → access new.state e p ≡ access old.state e p → lookup new.held e p ≡ lookup old.held e p

-- the page of an address, where no leaf is held for it and the runner
abbrev pub missed_page : Snapshot → ℕ → Option ℕ
missed_page x address =
    option_and_then (λ p. if is_some (lookup x.held x.state.runner p) then None else Some p) (page_of_address x.state address)

-- the address to which an operation has access, if it is a load, a store or a fetch
abbrev pub address_in : Op → Option ℕ
address_in (Call x) = None
address_in (Load address size) = Some address
address_in (Store address size value) = Some address
address_in (Fetch address) = Some address

-- whether an operation has access to a page for which no leaf is held
abbrev pub is_miss : Snapshot → Op → Bool
is_miss x op = is_some (option_and_then (missed_page x) (address_in op))

-- whether page p is that of an address, and e runs
abbrev pub is_runners : State → ℕ → ℕ → ℕ → Bool
is_runners s address e p = option_map_or (λ q. is_pair e p s.runner q) (page_of_address s address) false

-- whether e has access to page p by an operation
abbrev pub is_accessed : State → Op → ℕ → ℕ → Bool
is_accessed s op e p = option_map_or (λ address. is_runners s address e p) (address_in op) false

-- where no endpoint has access so, the page has what it had, or nothing any more
abbrev pub AreSameOrGone : Snapshot → Snapshot → (ℕ → ℕ → Bool) → Type 0
AreSameOrGone old new accessed =
    (e p : ℕ) → accessed e p ≡ false → (lookup new.held e p ≡ None) ⊎ (lookup new.held e p ≡ lookup old.held e p)
