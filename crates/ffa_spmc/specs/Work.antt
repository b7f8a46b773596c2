-- SPDX-License-Identifier: MIT OR Apache-2.0
-- How much one operation may do: a number for each range and page that it names, and for each block of 2 MiB that is joined or split.
use Rattle.std.specs.Prelude.{ℕ, zero, suc, ◌+◌, ◌*◌, ◌/◌, ◌==◌, ◌&&◌, Bool, true, false, if◌then◌else◌, List, Option, None, Some, is_some}
use Rattle.std.specs.Option.{option_map_or}
use Rattle.ffa_model.specs.declared.call.Call as calls
use Rattle.ffa_model.specs.declared.call.Call.TheVariants.{MemDonate, MemLend, MemShare, MemRetrieve, MemRelinquish, MemReclaim, MsgSend2, PartitionInfoGet}
use Rattle.ffa_model.specs.declared.descriptor.RelinquishDesc.{RelinquishDesc}
use Rattle.ffa_model.specs.declared.descriptor.RetrieveDesc.{RetrieveDesc}
use Rattle.ffa_model.specs.declared.operation.Op.{Op}
use Rattle.ffa_model.specs.declared.operation.Op.TheVariants.{Call, Store}
use Rattle.ffa_model.specs.declared.rights.Kind.{Kind}
use Rattle.ffa_model.specs.declared.rights.Kind.TheVariants.{Donate, Lend, Share}
use Rattle.ffa_model.specs.declared.rights.Rights.{Rights}
use Rattle.ffa_model.specs.Access.{access, ownership_of}
use Rattle.ffa_model.specs.Alike.{is_same_right}
use Rattle.ffa_model.specs.HypervisorRetrieve.{asks_back}
use Rattle.ffa_model.specs.MemoryRetrieve.{retrieve_read, right_for}
use Rattle.ffa_model.specs.MemoryReturn.{named_ranges, relinquish_read}
use Rattle.ffa_model.specs.MemorySend.{send_read}
use Rattle.ffa_model.specs.Messages.{header_in, tx_bytes}
use Rattle.ffa_model.specs.Registers.{decode}
use Rattle.ffa_model.specs.SendDescriptor.{SendRecord}
use Rattle.ffa_model.specs.State.{State, Transaction, transaction_of}
use Rattle.ffa_physmem.specs.Work.{Work, loans_of, no_work}
use Rattle.ffa_memshare.specs.Work.{given_work, retrieved_work, sent_work, taken_work}

-- whether a test holds of all numbers below one
unfoldable pub are_all : ℕ → (ℕ → Bool) → Bool
are_all zero test = true
are_all (suc n) test = are_all n test && test n

-- whether all 512 pages of a block have one right other than nothing, so that it stands as a block
unfoldable pub is_block : (ℕ → Option Rights) → ℕ → Bool
is_block rights k =
    is_some (rights (512 * k)) && are_all 512 (λ j. is_same_right (rights (512 * k + j)) (rights (512 * k)))

-- the blocks of the runner
abbrev pub is_runners_block : State → ℕ → Bool
is_runners_block s k = is_block (access s s.runner) k

abbrev pub send_work : State → Kind → Option SendRecord → Work
send_work s kind None = no_work
send_work s kind (Some send) = sent_work kind s.ram_base (is_runners_block s) send.ranges send.zero

abbrev pub retrieve_work : State → Option RetrieveDesc → Work
retrieve_work s None = no_work
retrieve_work s (Some d) =
    option_map_or (λ (t : Transaction). retrieved_work s.ram_base (right_for (ownership_of s) t s.runner d) t.ranges)
    (transaction_of s d.handle) no_work

abbrev pub relinquish_work : State → Option RelinquishDesc → Work
relinquish_work s None = no_work
relinquish_work s (Some d) =
    option_map_or (λ (t : Transaction). taken_work s.ram_base (is_runners_block s) t.ranges d.zero) (transaction_of s d.handle) no_work

-- how many pages a message has, with its header
abbrev pub message_pages : State → ℕ
message_pages s = let header = header_in (tx_bytes s s.runner) in (header.offset + header.size + 4095) / 4096

-- A response, partition information and a message are written into RX while its pages are lent. No other call touches RAM.
abbrev pub call_work : State → calls.Call → Work
call_work s (MemDonate transfer) = send_work s Donate (send_read s Donate transfer.total)
call_work s (MemLend transfer) = send_work s Lend (send_read s Lend transfer.total)
call_work s (MemShare transfer) = send_work s Share (send_read s Share transfer.total)
call_work s (MemRetrieve transfer) =
    if asks_back s transfer then loans_of 1 else retrieve_work s (retrieve_read s transfer.total)
call_work s MemRelinquish = relinquish_work s (relinquish_read s)
call_work s (MemReclaim handle flags) = given_work s.ram_base None (named_ranges (transaction_of s handle.0)) (flags == 1)
call_work s MsgSend2 = loans_of (message_pages s)
call_work s (PartitionInfoGet uuid flags) = loans_of 1
call_work s call = no_work

-- a store of a partition lends the page that it writes
abbrev pub most_work : State → Op → Work
most_work s (Call x) = call_work s (decode x)
most_work s (Store address size value) = loans_of 1
most_work s op = no_work
