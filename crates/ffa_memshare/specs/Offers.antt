-- SPDX-License-Identifier: MIT OR Apache-2.0
-- What a send descriptor offers, over the parts of the machine.
use Rattle.ffa_model.specs.Access.{Ownership}
use Rattle.std.specs.Prelude.{◌≡◌, ℕ, ◌<◌, ◌%◌, Bool, true, false, not, ◌||◌, List, [], ◌∷◌, length, slice_index_or, Option, Some}
use Rattle.std.specs.List.{list_all, list_any}
use Rattle.std.specs.Option.{option_map_or}
use Rattle.ffa_model.specs.declared.endpoint.Region.{Region}
use Rattle.ffa_model.specs.declared.refusal.Refusal.{Refusal}
use Rattle.ffa_model.specs.declared.refusal.Refusal.TheVariants.{GrantTooMuch, ZerosUnwritable}
use Rattle.ffa_model.specs.declared.transaction.Range.{Range}
use Rattle.ffa_model.specs.declared.transaction.Receiver.{Receiver}
use Rattle.ffa_model.specs.declared.manifest.Ffa.{Ffa}
use Rattle.ffa_model.specs.declared.rights.Kind.{Kind}
use Rattle.ffa_model.specs.DescriptorPlaces.{Versioned}
use Rattle.ffa_model.specs.MemorySend.{are_grants_within, is_told_normal, transaction_from}
use Rattle.ffa_model.specs.Rights.{may_write}
use Rattle.ffa_model.specs.SendDescriptor.{SendRecord, is_named, send_of}
use Rattle.ffa_model.specs.State.{Transaction}
use Rattle.ffa_model.specs.Transactions.{are_writable, pages_in}
use Rattle.ffa_pages.specs.Entry.{Entry, entry_at}
use Rattle.ffa_rxtx.specs.Parts.{ownership_in}
use Rattle.ffa_memshare.specs.Ranges.{ArePlaced, in_ranges}

-- somebody is granted rw
abbrev pub grants_writes : List Receiver → Bool
grants_writes receivers = list_any (λ (r : Receiver). option_map_or may_write r.grant false) receivers

-- the checks of a send that pages have the right to write themselves, in order, where that is asked for
abbrev pub write_guards : Ownership → SendRecord → List (Bool × Refusal)
write_guards ram r =
    (list_all (are_grants_within ram r.receivers) (pages_in ram r.ranges), GrantTooMuch)
    ∷ (not r.zero || are_writable ram r.ranges, ZerosUnwritable)
    ∷ []

-- each range begins where a page does
abbrev pub AreAligned : List Range → Type 0
AreAligned ranges =
    (i : ℕ) (r : Range) → i < length ranges → r ≡ slice_index_or ranges i r → r.address % 4096 ≡ 0

-- e offers pages of the RAM at an address, which are its own
pub record IsOwnOffer (table : List (Option Entry)) (base e : ℕ) (r : SendRecord) : Type 0 where
  pub sender : r.sender ≡ e
  pub placed : ArePlaced base (length table) r.ranges
  pub own :
      (p : ℕ) → in_ranges base r.ranges p ≡ true → (x : Entry) × (entry_at table p ≡ Some x) × (x.owner ≡ e)

-- the transaction that a send of this kind opens
abbrev pub opened_by : List (Option Entry) → ℕ → Option (List Region) → Kind → SendRecord → Transaction
opened_by table base normal kind offer =
    transaction_from kind (is_told_normal (ownership_in table base) normal offer.ranges) offer

-- these bytes describe an offer of e's own pages to others, and this is the transaction that it opens
pub record DescribesOffer (table : List (Option Entry)) (base : ℕ) (normal : Option (List Region)) (e : ℕ) (ffa : Ffa) (kind : Kind)
    (bytes : Versioned) (t : Transaction) : Type 0 where
  pub offer : SendRecord
  pub described : send_of ffa kind bytes ≡ Some offer
  pub transaction : t ≡ opened_by table base normal kind offer
  pub own : IsOwnOffer table base e offer
  pub other : is_named offer.sender offer.receivers ≡ false
