-- SPDX-License-Identifier: MIT OR Apache-2.0
-- What a boot answers, and what C holds behind it, by what describes the manifest and for which causes it is refused.
use Rattle.std.specs.Prelude.{◌≡◌, ◌≢◌, ℕ, true, false, [], None, Some}
use Rattle.ffa_manifest.specs.Document.{Parts}
use Rattle.ffa_manifest.specs.declared.error.ManifestError.{ManifestError}
use Rattle.ffa_c.specs.Boarded.{ram_places}
use Rattle.ffa_c.specs.Booting.{HasBegun, HasBooted, IsFirstBy, TellsCause, TellsWhy}
use Rattle.ffa_c.specs.Lending.{bytes_of, pages_of, places_of}
use Rattle.ffa_c.specs.declared.board.FirstBytes.{FirstBytes}
use Rattle.ffa_c.specs.declared.lending.CLent.{CLent}
use Rattle.ffa_c.specs.declared.machine.CMachine.{CMachine}

-- In RAM of the heap: 0 is that it was booted, where there was no machine. Else nothing has changed.
pub record Boots (describes : Parts → Type 0) (is_cause : ManifestError → Type 0) (old new : CMachine) (answer : ℕ) : Type 0 where
  pub occupied : old.live ≡ true → answer ≡ 15
  pub vacant : answer ≡ 0 → old.held.value ≡ None
  pub booted : answer ≡ 0 → HasBooted describes false new.held.value
  pub refused : answer ≢ 0 → new ≡ old
  pub cause : answer ≢ 0 → old.live ≡ false → TellsCause is_cause answer

-- In the pages of a list, which is empty then, by what becomes of their bytes.
pub record BootsLent (describes : Parts → Type 0) (is_cause : ManifestError → Type 0) (bytes : FirstBytes)
    (old new : CMachine) (before after : CLent) (answer : ℕ) : Type 0 where
  pub occupied : old.live ≡ true → answer ≡ 15
  pub no_list : old.live ≡ false → before.live ≡ false → answer ≡ 16
  pub vacant : answer ≡ 0 → old.held.value ≡ None
  pub booted : answer ≡ 0 → HasBegun describes (IsFirstBy bytes (bytes_of before.held.value)) true new.held.value
  -- each page lies where it was lent
  pub placed : answer ≡ 0 → ram_places new.held.value ≡ places_of before.held.value
  pub emptied : answer ≡ 0 → pages_of after.held.value ≡ Some []
  pub machine : answer ≢ 0 → new ≡ old
  pub list : answer ≢ 0 → after.held.value ≡ before.held.value
  pub cause : answer ≢ 0 → old.live ≡ false → TellsWhy describes is_cause (pages_of before.held.value) answer
