-- SPDX-License-Identifier: MIT OR Apache-2.0
-- What is wrong with the bytes that break a condition of a descriptor, in words. Those of an access descriptor and of a
-- range stand behind its index.
use Rattle.std.specs.Prelude.{ℕ, List}
use Rattle.ffa_model.specs.declared.flaw.Flaw.{Flaw}
use Rattle.ffa_model.specs.declared.flaw.Flaw.TheVariants.{Header, Send, Access, Composite, Range, Retrieve, Relinquish}
use Rattle.ffa_model.specs.contracts.flaw.HeaderFlaw.{the_type as header_flaw}
use Rattle.ffa_model.specs.contracts.flaw.SendFlaw.{the_type as send_flaw}
use Rattle.ffa_model.specs.contracts.flaw.AccessFlaw.{the_type as access_flaw}
use Rattle.ffa_model.specs.contracts.flaw.CompositeFlaw.{the_type as composite_flaw}
use Rattle.ffa_model.specs.contracts.flaw.RangeFlaw.{the_type as range_flaw}
use Rattle.ffa_model.specs.contracts.flaw.RetrieveFlaw.{the_type as retrieve_flaw}
use Rattle.ffa_model.specs.contracts.flaw.RelinquishFlaw.{the_type as relinquish_flaw}
use denote.Enum.Declared.{tag_of}
use Rattle.ffa_model.specs.Words.{words_at}
use Rattle.play_reasons.specs.declared.flaws.TheConstants.{HEADER, SEND, ACCESS, COMPOSITE, RANGE, RETRIEVE, RELINQUISH}

abbrev pub flaw_words_of : Flaw → List ℕ
flaw_words_of (Header flaw) = words_at HEADER.now (tag_of header_flaw flaw)
flaw_words_of (Send flaw) = words_at SEND.now (tag_of send_flaw flaw)
flaw_words_of (Access index flaw) = words_at ACCESS.now (tag_of access_flaw flaw)
flaw_words_of (Composite flaw) = words_at COMPOSITE.now (tag_of composite_flaw flaw)
flaw_words_of (Range index flaw) = words_at RANGE.now (tag_of range_flaw flaw)
flaw_words_of (Retrieve index flaw) = words_at RETRIEVE.now (tag_of retrieve_flaw flaw)
flaw_words_of (Relinquish flaw) = words_at RELINQUISH.now (tag_of relinquish_flaw flaw)
