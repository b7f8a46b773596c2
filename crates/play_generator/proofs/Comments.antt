-- SPDX-License-Identifier: MIT OR Apache-2.0
-- That a comment is one line.
use Rattle.std.proofs.Common.{◌≡◌, ◌<◌, ◌/◌, ◌%◌, ◌^◌, ℕ, zero, suc, true, List, [], ◌++◌, codes, Option, Some, None, refl, ◌∙◌, arith, not, ◌==◌}
use Rattle.std.proofs.Math.Nat.{mod-lt}
use Rattle.std.proofs.lemmas.Bool.{agree_below_at}
use Rattle.std.proofs.lemmas.List.Folds.{list_all-append}
use Rattle.ffa_model.specs.declared.endpoint.EndpointId.{EndpointId}
use Rattle.play_trace.specs.TraceLines.{feed, has_no_feed, line_of, skip}
use Rattle.play_trace.specs.TraceText.{digit, hex, spaced}
use Rattle.play_generator.specs.Attempts.{attempt_text, change_words, deed_words, other_words}
use Rattle.play_generator.specs.declared.attempts.Attempt.{Attempt}
use Rattle.play_generator.specs.declared.attempts.Change.{Change}
use Rattle.play_generator.specs.declared.attempts.Change.TheVariants.{Nothing}
use Rattle.play_generator.specs.declared.attempts.Deed.{Deed}
use Rattle.play_generator.specs.declared.attempts.Deed.TheVariants.{Setup}

digit_single : (d : ℕ) → d < 16 → not (digit d == feed) ≡ true
digit_single d h = agree_below_at (λ d. not (digit d == feed)) (λ d. true) 16 d refl h

deed_single : (deed : Deed) → has_no_feed (deed_words deed) ≡ true
deed_single Setup = refl
deed_single _ = refl

change_single : (change : Change) → has_no_feed (change_words change) ≡ true
change_single Nothing = refl
change_single _ = refl

digits_single : (n x : ℕ) → has_no_feed (hex n x) ≡ true
digits_single zero x = refl
digits_single (suc n) x = rw (digit_single (x / 16 ^ n % 16) (mod-lt (x / 16 ^ n) (omega arith)), digits_single n x) refl

other_single : (other : Option EndpointId) → has_no_feed (other_words other) ≡ true
other_single None = refl
other_single (Some endpoint) = digits_single 4 endpoint.0

-- the parts of a text, one behind the other
joined_single : (front back : List ℕ) → has_no_feed front ≡ true → has_no_feed back ≡ true → has_no_feed (front ++ back) ≡ true
joined_single front back f b = list_all-append (λ c. not (c == feed)) front back ∙ rw (f, b) refl

pub attempt_single : (attempt : Attempt) → has_no_feed (attempt_text attempt) ≡ true
attempt_single attempt =
    let who = hex 4 attempt.actor.0 in
    let deed = deed_words attempt.deed in
    let other = other_words attempt.other in
    let change = change_words attempt.change in
    let first = joined_single (codes "#" ++ spaced who) deed (digits_single 4 attempt.actor.0) (deed_single attempt.deed) in
    let second = joined_single (codes "#" ++ spaced who ++ deed) other first (other_single attempt.other) in
    joined_single (codes "#" ++ spaced who ++ deed ++ other) change second (change_single attempt.change)

-- it is a comment
pub attempt_read : (attempt : Attempt) → line_of (attempt_text attempt) ≡ Some skip
unfolding line_of
attempt_read attempt = refl
