-- SPDX-License-Identifier: MIT OR Apache-2.0
-- Memory that is given back keeps a state sound.
use Rattle.ffa_model.specs.Access.{ownership_of}
use Rattle.std.proofs.Common.{◌≡◌, ℕ, Option, Some, None, refl, sym}
use Rattle.std.proofs.lemmas.Bool.{false≢true}
use Rattle.ffa_model.specs.declared.descriptor.RelinquishDesc.{RelinquishDesc}
use Rattle.ffa_model.specs.State.{State, Transaction, transaction_of}
use Rattle.ffa_model.specs.Bits.{is_set}
use Rattle.ffa_model.specs.Calls.{first_failure}
use Rattle.ffa_model.specs.MemoryReturn.{memory_reclaim, memory_relinquish, reclaim_guards, reclaimed, relinquish_read, relinquished, relinquished_from}
use Rattle.ffa_model.specs.SoundState.{IsSoundState}
use Rattle.ffa_model.proofs.Guards.{guard-passes}
use Rattle.ffa_model.proofs.KeptCalls.{reclaimed-sound, relinquished-sound}

module _ (s : State) (sound : IsSoundState s) where
  pub reclaim-sound : (handle flags : ℕ) → first_failure (memory_reclaim s handle flags).guards ≡ None → IsSoundState (memory_reclaim s handle flags).state
  reclaim-sound handle flags none = of (transaction_of s handle) refl none
    where
      of : (o : Option Transaction) → transaction_of s handle ≡ o → first_failure (reclaim_guards (ownership_of s) s.runner flags o) ≡ None
          → IsSoundState (reclaimed s handle (is_set 0 flags))
      of None there none = absurd (false≢true (guard-passes (reclaim_guards (ownership_of s) s.runner flags None) 1 (sym none)))
      of (Some t) there none = reclaimed-sound s sound handle t there (is_set 0 flags)

  pub relinquish-sound : IsSoundState (memory_relinquish s).state
  relinquish-sound = by_descriptor (relinquish_read s)
    where
      of : (d : RelinquishDesc) (o : Option Transaction) → transaction_of s d.handle ≡ o → IsSoundState (relinquished_from s d o)
      of d None there = sound
      of d (Some t) there = relinquished-sound s sound d t there

      by_descriptor : (d : Option RelinquishDesc) → IsSoundState (relinquished s d)
      by_descriptor None = sound
      by_descriptor (Some d) = of d (transaction_of s d.handle) refl
