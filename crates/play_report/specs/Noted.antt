-- SPDX-License-Identifier: MIT OR Apache-2.0
-- What is noted beside a failure.
use Rattle.std.specs.Prelude.{◌≡◌, Bool, true, Option, is_some, ⊤}
use Rattle.play_report.specs.declared.failure.Failure.{Failure}
use Rattle.play_report.specs.declared.failure.Failure.TheVariants as failure
use Rattle.play_report.specs.declared.notes.More.{More}

-- where more is asked for of a manifest that is refused, there is more to say
abbrev pub IsNoted : Bool → Option More → Failure → Type 0
IsNoted verbose noted (failure.Manifest cause) = verbose ≡ true → is_some noted ≡ true
IsNoted verbose noted other = ⊤
