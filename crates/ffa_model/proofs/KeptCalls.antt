-- SPDX-License-Identifier: MIT OR Apache-2.0
-- The state stays sound through the changes of each call on memory, but for the bytes that a retrieve leaves in RX.
use Rattle.std.proofs.Common.{◌≡◌, ◌∙◌, ℕ, Bool, true, false, List, Option, Some, None, refl, sym, ap, subst, true≢false}
use Rattle.std.specs.Option.{option_and_then}
use Rattle.std.specs.FinMap as finite
use Rattle.ffa_model.specs.declared.descriptor.RelinquishDesc.{RelinquishDesc}
use Rattle.ffa_model.specs.declared.rights.Kind.{Kind}
use Rattle.ffa_model.specs.declared.rights.Kind.TheVariants.{Share, Lend, Donate}
use Rattle.ffa_model.specs.declared.rights.Rights.{Rights}
use Rattle.ffa_model.specs.declared.transaction.Range.{Range}
use Rattle.ffa_model.specs.Rights.{is_at_most, is_donate}
use Rattle.ffa_model.specs.SendDescriptor.{SendRecord}
use Rattle.ffa_model.specs.State.{State, Transaction, transaction_of}
use Rattle.ffa_model.specs.Access.{handle_at, is_naming, is_receiver, names, transaction_at, ownership_of}
use Rattle.ffa_model.specs.Memory.{zeroed_if}
use Rattle.ffa_model.specs.Buffers.{is_usable}
use Rattle.ffa_model.specs.Transactions.{ceiling, closed, next_handle, open_of, opened, with_open}
use Rattle.ffa_model.specs.MemorySend.{memory_sent, transaction_sent}
use Rattle.ffa_model.specs.MemoryRetrieve.{donated_if, with_retrieved, taken_in}
use Rattle.ffa_model.specs.MemoryReturn.{reclaimed, relinquished_from}
use Rattle.ffa_model.specs.SoundState.{IsKnown, IsSoundState}
use Rattle.ffa_model.proofs.Accesses.{in-closed}
use Rattle.ffa_model.proofs.Handles.{found-passes, none-passes}
use Rattle.ffa_model.proofs.Kept.{closed-sound, holding-sound, released-sound, zeros-sound}
use Rattle.ffa_model.proofs.KeptDonate.{given-sound}
use Rattle.ffa_model.proofs.KeptSend.{IsSendable, opened-sound}
use Rattle.ffa_model.proofs.Own.{usable-parts}

pub zeroed-sound : (asked : Bool) (s : State) (ranges : List Range) → IsSoundState s → IsSoundState (zeroed_if asked s ranges)
zeroed-sound true s ranges sound = zeros-sound s ranges sound
zeroed-sound false s ranges sound = sound

-- a page that may be a buffer stands in no transaction
usable-unnamed : (s : State) (e p : ℕ) → is_usable e (ownership_of s) p ≡ true → handle_at s p ≡ None
usable-unnamed s e p usable = (usable-parts s e p usable).1

-- where a page stands in no transaction, no handle names it
handle-none : (s : State) (p : ℕ) → transaction_at s p ≡ None → handle_at s p ≡ None
handle-none s p none = of (handle_at s p) refl none
  where
    of : (o : Option ℕ) → handle_at s p ≡ o → option_and_then (finite.get s.transactions) o ≡ None → o ≡ None
    of None at is = refl
    of (Some h) at is = absurd (true≢false (sym (found-passes (is_naming s p) refl s.transactions h at) ∙ ap (is_naming s p) is))

module _ (s : State) (sound : IsSoundState s) where
  pub offered-sound : (kind : Kind) (r : SendRecord) → r.sender ≡ s.runner → IsSendable s (transaction_sent s kind r) → IsSoundState (memory_sent s kind (Some r))
  offered-sound kind r same good =
      zeroed-sound r.zero _ r.ranges
      (subst (λ e. IsSoundState (with_open s (opened (open_of s) (next_handle (open_of s) e) (transaction_sent s kind r)))) same
      (opened-sound s sound (transaction_sent s kind r) good))

  pub relinquished-sound : (d : RelinquishDesc) (t : Transaction) → transaction_of s d.handle ≡ Some t → IsSoundState (relinquished_from s d (Some t))
  relinquished-sound d t was = zeroed-sound d.zero _ t.ranges (released-sound s sound d.handle t was s.runner)

  module _ (h : ℕ) (t : Transaction) (was : transaction_of s h ≡ Some t) where
    pub reclaimed-sound : (zero : Bool) → IsSoundState (reclaimed s h zero)
    reclaimed-sound zero = zeroed-sound zero _ _ (closed-sound s sound h t was)

    -- the pages of a transaction are no buffers
    unbuffered : (p : ℕ) (e : ℕ) → is_usable e (ownership_of s) p ≡ true → names s t.ranges p ≡ false
    unbuffered p e usable = sym (ap (is_naming s p) was) ∙ none-passes (is_naming s p) refl s.transactions h (usable-unnamed s e p usable)

    donated-sound : (e : ℕ) (right : Rights) → IsKnown s e → is_receiver e t ≡ true → IsSoundState (with_open (donated_if true s t.ranges e right) (closed (open_of s) h))
    donated-sound e right known receiver =
        given-sound (with_open s (closed (open_of s) h)) (closed-sound s sound h t was) t.ranges e right known
        (λ p lt named. handle-none (with_open s (closed (open_of s) h)) p (in-closed s h t was p (λ k j at_k at_j. sound.one p k j lt at_k at_j) named))
        (λ p lt named secure first. true≢false (sym (ap (λ f. is_receiver f t) (sym first) ∙ receiver) ∙ (sound.transactions h t was).worlds p lt named secure))
        (λ f b is_known is. let its = sound.buffers f b is_known is in (λ p in_tx. unbuffered p f (its.tx p in_tx), λ p in_rx. unbuffered p f (its.rx p in_rx)))

    pub taken-sound : (e : ℕ) (right : Rights) → IsKnown s e → is_receiver e t ≡ true → is_at_most right (ceiling (ownership_of s) t e) ≡ true
        → IsSoundState (with_retrieved s h t e right)
    taken-sound e right known receiver within = of t.kind refl
      where
        of : (kind : Kind) → t.kind ≡ kind → IsSoundState (with_open (donated_if (is_donate kind) s t.ranges e right) (taken_in kind (open_of s) h t e right))
        of Share is = holding-sound s sound h t was e right receiver within (ap is_donate is)
        of Lend is = holding-sound s sound h t was e right receiver within (ap is_donate is)
        of Donate is = donated-sound e right known receiver
