-- SPDX-License-Identifier: MIT OR Apache-2.0
-- What a check that fails is about: what the call's registers tell, or what its message, its descriptor or its bits do, else
-- the first page that fails it, of the pages that the call names.
use Rattle.std.specs.Prelude.{ℕ, Bool, true, not, is_none, List, Option, None, find, if◌then◌else◌}
use Rattle.std.specs.Option.{option_and_then, option_map, option_or}
use Rattle.ffa_model.specs.declared.call.Call.{Call}
use Rattle.ffa_model.specs.declared.call.Call.TheVariants.{RxtxMap, MemDonate, MemLend, MemShare, MemReclaim}
use Rattle.ffa_model.specs.declared.call.Transfer.{Transfer}
use Rattle.ffa_model.specs.declared.endpoint.PageNo.{PageNo}
use Rattle.ffa_model.specs.declared.endpoint.Region.{Region}
use Rattle.ffa_model.specs.declared.refusal.Refusal.{Refusal}
use Rattle.ffa_model.specs.declared.refusal.Refusal.TheVariants.{TxUnusable, RxUnusable, PageUnsendable, GrantTooMuch, ZerosUnwritable, WorldsMixed}
use Rattle.ffa_model.specs.declared.rights.Kind.{Kind}
use Rattle.ffa_model.specs.declared.rights.Kind.TheVariants.{Share, Lend, Donate}
use Rattle.ffa_model.specs.declared.transaction.Range.{Range}
use Rattle.ffa_model.specs.declared.why.About.{About}
use Rattle.ffa_model.specs.declared.why.About.TheVariants.{Page}
use Rattle.ffa_model.specs.Numbers.{Identifier, PageIndex}
use Rattle.ffa_model.specs.Access.{Ownership, ownership_of}
use Rattle.ffa_model.specs.AboutContents.{about_contents}
use Rattle.ffa_model.specs.AboutRegisters.{about_registers}
use Rattle.ffa_model.specs.Buffers.{is_run_address, is_usable, page_number}
use Rattle.ffa_model.specs.Calls.{first_refusal}
use Rattle.ffa_model.specs.Lists.{run}
use Rattle.ffa_model.specs.MemoryReturn.{named_ranges}
use Rattle.ffa_model.specs.MemorySend.{transfer_guards, are_grants_within, is_sendable, send_read}
use Rattle.ffa_model.specs.Obstacles.{obstacle_at, unless_own}
use Rattle.ffa_model.specs.Regions.{is_normal}
use Rattle.ffa_model.specs.Rights.{may_store}
use Rattle.ffa_model.specs.SendDescriptor.{SendRecord}
use Rattle.ffa_model.specs.State.{State, Buffers, Transaction, transaction_of}
use Rattle.ffa_model.specs.Transactions.{pages_in}

-- the first of some pages that fails a test
abbrev pub numbered : PageIndex → PageNo
numbered p = record { 0 = p }

abbrev pub first_failing : (ℕ → Bool) → List ℕ → Option PageNo
first_failing test pages = option_map numbered (find (λ p. not (test p)) pages)

-- FFA_RXTX_MAP by e: of the n pages from an address on, where they are in RAM, the first that can't be a buffer's
abbrev pub unusable_from : Identifier → Ownership → ℕ → ℕ → Option PageNo
unusable_from e ram n address =
    if is_run_address ram n address
    then first_failing (is_usable e ram) (run (page_number ram.base address) n)
    else None

abbrev pub failing_map : Identifier → Ownership → ℕ → ℕ → ℕ → Refusal → Option PageNo
failing_map e ram tx rx pages TxUnusable = unusable_from e ram pages tx
failing_map e ram tx rx pages RxUnusable = unusable_from e ram pages rx
failing_map e ram tx rx pages refusal = None

-- FFA_MEM_DONATE, FFA_MEM_LEND and FFA_MEM_SHARE by e: whether a page passes a check of pages, as each does one of something
-- else. Where worlds are mixed there is a secure page
abbrev pub passes : Identifier → Ownership → List (Option Buffers) → Option (List Region) → SendRecord → Refusal → PageIndex → Bool
passes e ram buffers normal send PageUnsendable p = is_sendable e ram buffers p
passes e ram buffers normal send GrantTooMuch p = are_grants_within ram send.receivers p
passes e ram buffers normal send ZerosUnwritable p = may_store (ram.own_right p)
passes e ram buffers normal send WorldsMixed p = is_normal ram.base normal p
passes e ram buffers normal send refusal p = true

-- the least page of RAM that the ranges name and that doesn't
abbrev pub failing_offer : Identifier → Ownership → List (Option Buffers) → Option (List Region) → Refusal → SendRecord → Option PageNo
failing_offer e ram buffers normal refusal send =
    first_failing (passes e ram buffers normal send refusal) (pages_in ram send.ranges)

-- of a descriptor that stands whole in TX
abbrev pub failing_send : Identifier → Ownership → List (Option Buffers) → Option (List Region) → Transfer → Option SendRecord
    → Refusal → Option PageNo
failing_send e ram buffers normal transfer send refusal =
    if is_none (first_refusal (transfer_guards buffers e transfer))
    then option_and_then (failing_offer e ram buffers normal refusal) send
    else None

-- FFA_MEM_RECLAIM: the least page of RAM that the transaction names and that its owner may not write
abbrev pub first_unwritable : Ownership → List Range → Option PageNo
first_unwritable ram ranges = first_failing (λ p. may_store (ram.own_right p)) (pages_in ram ranges)

abbrev pub failing_reclaim : Ownership → Option Transaction → Refusal → Option PageNo
failing_reclaim ram t ZerosUnwritable = first_unwritable ram (named_ranges t)
failing_reclaim ram t refusal = None

-- ON A STATE
abbrev pub failing_sent : State → Kind → Transfer → Refusal → Option PageNo
failing_sent s kind transfer refusal =
    failing_send s.runner (ownership_of s) s.buffers s.normal transfer (send_read s kind transfer.total) refusal

abbrev pub failing_page : State → Call → Refusal → Option PageNo
failing_page s (RxtxMap tx rx pages) refusal = failing_map s.runner (ownership_of s) tx rx pages refusal
failing_page s (MemDonate transfer) refusal = failing_sent s Donate transfer refusal
failing_page s (MemLend transfer) refusal = failing_sent s Lend transfer refusal
failing_page s (MemShare transfer) refusal = failing_sent s Share transfer refusal
failing_page s (MemReclaim handle flags) refusal = failing_reclaim (ownership_of s) (transaction_of s handle.0) refusal
failing_page s call refusal = None

-- a page, with what stands in the runner's way there
abbrev pub about_page : State → PageNo → About
about_page s page = Page page (unless_own s.runner (obstacle_at s page.0))

abbrev pub about_pages : State → Call → Refusal → Option About
about_pages s call refusal = option_map (about_page s) (failing_page s call refusal)

-- what the check of a call is about, whose function's number is this
abbrev pub about : State → ℕ → Call → Refusal → Option About
about s w0 call refusal =
    option_or (about_registers w0 call refusal) (option_or (about_contents s call refusal) (about_pages s call refusal))
