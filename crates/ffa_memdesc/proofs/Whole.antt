-- SPDX-License-Identifier: MIT OR Apache-2.0
-- The whole of a response.
use Rattle.std.proofs.Common.{◌≡◌, ℕ, List, ◌++◌, drop, length, map}
use Rattle.std.proofs.lemmas.List.{append-nil}
use Rattle.std.specs.List.{flat_map}
use Rattle.ffa_model.specs.declared.endpoint.Version.{Version}
use Rattle.ffa_model.specs.declared.transaction.Range.{Range}
use Rattle.ffa_model.specs.declared.descriptor.Response.{Response}
use Rattle.ffa_model.specs.declared.descriptor.SentTransaction.{SentTransaction}
use Rattle.ffa_model.specs.declared.transaction.Receiver.{Receiver}
use Rattle.ffa_model.specs.ResponseBytes.{response_record, header_bytes, access_bytes, accesses_bytes, composite_bytes, permissions_of, range_bytes, response_bytes, response_size}
use Rattle.ffa_model.specs.HypervisorRetrieve.{access_granted, sent_transaction_record}
use Rattle.ffa_memdesc.specs.Writing.{Wrote}

-- with one access descriptor
pub responds : (version : Version) (r : Response) (old new : List ℕ) (xs : List Range) → xs ≡ r.ranges.items
    → Wrote old (header_bytes version (response_record r) ++ access_bytes version 1 (r.endpoint.0, permissions_of r.rights) ++ composite_bytes xs ++ flat_map range_bytes xs) (response_size version 1 xs) new
    → new ≡ response_bytes version (response_record r) ++ drop (response_size version 1 r.ranges.items) old
unfolding response_bytes
responds version r old new xs same w = rw (append-nil (access_bytes version 1 (r.endpoint.0, permissions_of r.rights)), ← same) w.bytes

-- with one for each receiver
pub tells_sent : (version : Version) (t : SentTransaction) (old new : List ℕ) (receivers : List Receiver) (xs : List Range) → receivers ≡ t.receivers.items → xs ≡ t.ranges.items
    → Wrote old (header_bytes version (sent_transaction_record t) ++ accesses_bytes version (map access_granted receivers) ++ composite_bytes xs ++ flat_map range_bytes xs) (response_size version (length receivers) xs) new
    → new ≡ response_bytes version (sent_transaction_record t) ++ drop (response_size version (length t.receivers.items) t.ranges.items) old
unfolding response_bytes
tells_sent version t old new receivers xs known same w = let told = rw (known, same) at w in told.bytes
