-- SPDX-License-Identifier: MIT OR Apache-2.0
-- Words have no LF.
use Rattle.std.proofs.Common.{◌≡◌, ℕ, zero, suc, true, List, [], ◌∷◌, refl}
use Rattle.std.specs.List.{list_all}
use Rattle.std.proofs.lemmas.Bool.{and_parts}
use Rattle.ffa_model.specs.declared.flaw.Flaw.{Flaw}
use Rattle.ffa_model.specs.declared.flaw.Flaw.TheVariants.{Header, Send, Access, Composite, Range, Retrieve, Relinquish}
use Rattle.ffa_model.specs.declared.refusal.Refusal.{Refusal}
use Rattle.ffa_model.specs.declared.refusal.TheConstants.{WORDS}
use Rattle.ffa_model.specs.contracts.flaw.HeaderFlaw.{the_type as header_flaw}
use Rattle.ffa_model.specs.contracts.flaw.SendFlaw.{the_type as send_flaw}
use Rattle.ffa_model.specs.contracts.flaw.AccessFlaw.{the_type as access_flaw}
use Rattle.ffa_model.specs.contracts.flaw.CompositeFlaw.{the_type as composite_flaw}
use Rattle.ffa_model.specs.contracts.flaw.RangeFlaw.{the_type as range_flaw}
use Rattle.ffa_model.specs.contracts.flaw.RetrieveFlaw.{the_type as retrieve_flaw}
use Rattle.ffa_model.specs.contracts.flaw.RelinquishFlaw.{the_type as relinquish_flaw}
use denote.Enum.Declared.{tag_of}
use Rattle.ffa_model.specs.Words.{place_of, words_at, words_of}
use Rattle.play_trace.specs.TraceLines.{has_no_feed}
use Rattle.play_reasons.specs.FlawWords.{flaw_words_of}
use Rattle.play_reasons.specs.declared.flaws.TheConstants.{HEADER, SEND, ACCESS, COMPOSITE, RANGE, RETRIEVE, RELINQUISH}

single_at : {A : Type 0} (rows : List (A × record { now : List ℕ })) (place : ℕ) → list_all (λ (row : A × record { now : List ℕ }). has_no_feed row.1.now) rows ≡ true
    → has_no_feed (words_at rows place) ≡ true
single_at [] place are = refl
single_at (row ∷ rows) zero are = (and_parts _ _ are).0
single_at (row ∷ rows) (suc place) are = single_at rows place (and_parts _ _ are).1

pub single_words : (refusal : Refusal) → has_no_feed (words_of refusal) ≡ true
single_words refusal = single_at WORDS.now (place_of refusal) refl

pub single_flaw : (flaw : Flaw) → has_no_feed (flaw_words_of flaw) ≡ true
single_flaw (Header flaw) = single_at HEADER.now (tag_of header_flaw flaw) refl
single_flaw (Send flaw) = single_at SEND.now (tag_of send_flaw flaw) refl
single_flaw (Access index flaw) = single_at ACCESS.now (tag_of access_flaw flaw) refl
single_flaw (Composite flaw) = single_at COMPOSITE.now (tag_of composite_flaw flaw) refl
single_flaw (Range index flaw) = single_at RANGE.now (tag_of range_flaw flaw) refl
single_flaw (Retrieve index flaw) = single_at RETRIEVE.now (tag_of retrieve_flaw flaw) refl
single_flaw (Relinquish flaw) = single_at RELINQUISH.now (tag_of relinquish_flaw flaw) refl
