-- SPDX-License-Identifier: MIT OR Apache-2.0
-- The pages of buffers.
use Rattle.std.proofs.Common.{◌≡◌, ◌∙◌, ℕ, true, List, Option, None, Some, is_some, refl, sym, ap}
use Rattle.std.specs.Option.{IsSomeAnd}
use Rattle.std.proofs.lemmas.Bool.{false≢true}
use Rattle.ffa_model.specs.declared.endpoint.Version.{Version}
use Rattle.ffa_model.specs.Buffers.{buffers_in}
use Rattle.ffa_model.specs.Calls.{first_failure}
use Rattle.ffa_model.specs.Messages.{header_in, send2_guards}
use Rattle.ffa_model.specs.Ram.{Ram}
use Rattle.ffa_model.specs.State.{Party, Buffers}
use Rattle.ffa_rxtx.specs.Parts.{IsInRam}
use Rattle.ffa_messages.specs.Parts.{AreEndsApart, AreInRam, IsBeside, receiver_in, sent_in}

-- who has buffers has RX in RAM
pub rx_in_ram : (pages e : ℕ) (buffers : List (Option Buffers)) → AreInRam pages buffers → is_some (buffers_in buffers e) ≡ true → IsSomeAnd (buffers_in buffers e) (λ (b : Buffers). IsInRam pages b)
rx_in_ram pages e buffers within has = of (buffers_in buffers e) refl has
  where
    of : (own : Option Buffers) → buffers_in buffers e ≡ own → is_some own ≡ true → IsSomeAnd own (λ (b : Buffers). IsInRam pages b)
    of None is has = absurd (false≢true has)
    of (Some b) is has = within _ b is

-- the RX of who receives a message that passes its checks is beside the sender's TX
pub rx_beside : (parties : List Party) (ram : Ram) (buffers : List (Option Buffers)) (version : Version) (e receiver : ℕ) (b : Buffers) → AreEndsApart parties ram buffers version e
    → None ≡ first_failure (send2_guards parties buffers version e (header_in (sent_in ram buffers e))) → Some b ≡ buffers_in buffers e → receiver ≡ receiver_in ram buffers e
    → is_some (buffers_in buffers receiver) ≡ true → IsSomeAnd (buffers_in buffers receiver) (λ (to : Buffers). IsBeside b to)
rx_beside parties ram buffers version e receiver b apart passes own is has = of (buffers_in buffers receiver) refl has
  where
    of : (o : Option Buffers) → buffers_in buffers receiver ≡ o → is_some o ≡ true → IsSomeAnd o (λ (to : Buffers). IsBeside b to)
    of None at has = absurd (false≢true has)
    of (Some to) at has = apart (sym passes) b to (sym own) (ap (buffers_in buffers) (sym is) ∙ at)
