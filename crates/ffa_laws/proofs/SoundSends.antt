-- SPDX-License-Identifier: MIT OR Apache-2.0
-- A send of memory keeps a state sound.
use Rattle.ffa_model.specs.Access.{names, ownership_of}
use Rattle.std.proofs.Common.{◌≡◌, ◌∙◌, ℕ, ◌<◌, true, false, List, length, Option, Some, None, refl, sym, ap, subst, nat_lt, is_none, is_some, not, inl, inr, Bool, ◌||◌}
use Rattle.std.specs.List.{list_all}
use Rattle.std.specs.Ordering.{nat_cmp}
use Rattle.std.specs.FinMap as finite
use Rattle.std.proofs.lemmas.Bool.{and_parts, false≢true, not-true, or_cases}
use Rattle.ffa_model.specs.declared.limits.TheConstants.{MOST_OPEN}
use Rattle.ffa_model.specs.declared.endpoint.Region.{Region}
use Rattle.ffa_model.specs.declared.rights.Kind.{Kind}
use Rattle.ffa_model.specs.Regions.{is_normal}
use Rattle.ffa_model.specs.State.{State, is_known, sent_by}
use Rattle.ffa_model.specs.Calls.{first_failure}
use Rattle.ffa_model.specs.Messages.{tx_bytes}
use Rattle.ffa_model.specs.SendDescriptor.{SendRecord, is_named}
use Rattle.ffa_model.specs.SoundState.{IsSoundState, is_secure}
use Rattle.ffa_model.specs.declared.call.Transfer.{Transfer}
use Rattle.ffa_model.specs.Transactions.{most_sends, open_of, open_count, pages_in, scene_of}
use Rattle.ffa_model.specs.MemorySend.{are_normal, are_secure, descriptor_in, is_of_one_world, is_sendable, memory_send, memory_sent, send_guards, send_read, transaction_sent}
use Rattle.ffa_model.proofs.KeptCalls.{offered-sound}
use Rattle.ffa_model.proofs.KeptSend.{IsSendable}
use Rattle.ffa_model.proofs.NamedPages.{listed-each}
use Rattle.ffa_laws.proofs.ByteLists.{all-take}
use Rattle.ffa_laws.proofs.SendLaws.{IsOffer, no-offer, offer}
use Rattle.ffa_laws.proofs.Sends.{counted, tag-below}
use Rattle.ffa_laws.proofs.SoundPages.{tx-are-bytes}
use Rattle.ffa_laws.proofs.SoundSteady.{runner-known}

-- pages of one world alone, and secure ones not to the normal world: no secure page is offered to it
unoffered : (s : State) (r : SendRecord) → is_of_one_world (ownership_of s) s.normal r ≡ true
    → (p : ℕ) → p < length s.pages → names s r.ranges p ≡ true → is_secure s p ≡ true → is_named 0 r.receivers ≡ false
unoffered s r world p lt named secure =
    let (apart, not_normal) = and_parts (is_some s.normal) _ secure in
    let normal : Bool = are_normal (ownership_of s) s.normal r.ranges in
    elim (or_cases (is_none s.normal || normal) _ world) [
      | inl told ↦ (elim (or_cases (is_none s.normal) normal told) [
        | inl one ↦ absurd (none-told s.normal one apart)
        | inr all ↦ absurd (false≢true (sym (ap not (listed-each (is_normal s.ram_base s.normal) (names s r.ranges) (length s.pages) (λ q. q) all p lt named)) ∙ not_normal))
      ])
      | inr other ↦ not-true (is_named 0 r.receivers) (and_parts (are_secure (ownership_of s) s.normal r.ranges) _ other).1
    ]
  where
    none-told : (o : Option (List Region)) → is_none o ≡ true → is_some o ≡ true → ⊥
    none-told None none some = false≢true some
    none-told (Some rs) none some = false≢true none

module _ (s : State) (sound : IsSoundState s) (kind : Kind) (x : Transfer) where
  -- what the guards and the descriptor say is what soundness asks of a send
  sendable : (r : SendRecord) → send_read s kind x.total ≡ Some r → IsOffer s r → IsSendable s (transaction_sent s kind r)
  sendable r is good =
      let counts = counted s.ffa kind (descriptor_in s x.total) r is in
      record {
        sender = subst (λ e. is_known s e ≡ true) (sym good.sender) (runner-known s sound);
        inside = good.inside;
        free = subst (λ e. list_all (is_sendable e (ownership_of s) s.buffers) (pages_in (ownership_of s) r.ranges) ≡ true) (sym good.sender) good.free;
        grants = good.grants;
        zeroed = good.zeroed;
        few = subst (λ e. open_count (open_of s) e < MOST_OPEN) (sym good.sender) good.few;
        sent = subst (λ e. sent_by s e < most_sends s.ffa) (sym good.sender) good.sent;
        unheld = λ e. finite.get-empty nat_cmp e;
        receivers = good.known;
        some_receivers = counts.some_receivers;
        few_receivers = counts.few_receivers;
        some_ranges = counts.some_ranges;
        few_ranges = counts.few_ranges;
        tag = tag-below s.ffa kind (descriptor_in s x.total) r is (all-take (λ b. nat_lt b 256) x.total (tx_bytes s s.runner) (tx-are-bytes s sound s.runner));
        worlds = unoffered s r good.one_world;
        told = refl;
      }

  pub send-sound : first_failure (memory_send s kind x).guards ≡ None → IsSoundState (memory_send s kind x).state
  send-sound none = of (send_read s kind x.total) refl none
    where
      of : (o : Option SendRecord) → send_read s kind x.total ≡ o → first_failure (send_guards s.ffa (scene_of s) s.runner x o) ≡ None → IsSoundState (memory_sent s kind o)
      of None is none = absurd (no-offer s x none)
      of (Some r) is none = let good = offer s x r none in offered-sound s sound kind r good.sender (sendable r is good)
