-- SPDX-License-Identifier: MIT OR Apache-2.0
-- Words that are put one behind the other.
use Rattle.std.proofs.Common.{◌≡◌, ◌++◌, ℕ, List, [], Option, None, Some, sym, ap, subst, ◌∙◌, append_assoc, append-nil}
use Rattle.play_reasons.specs.Drafts.{Puts}

pub together : (old mid new : Option (List ℕ)) (words more : List ℕ) → Puts old mid words → Puts mid new more → Puts old new (words ++ more)
together old mid None words more first then = tt
together old None (Some text) words more first then = absurd then
together None (Some between) (Some text) words more first then = absurd first
together (Some before) (Some between) (Some text) words more first then =
    then ∙ ap (λ t. t ++ more) first ∙ append_assoc before words more

-- nothing was put behind it
pub nothing : (text : Option (List ℕ)) → Puts text text []
nothing None = tt
nothing (Some text) = sym (append-nil text)

-- these words alone were put, and it isn't short
pub whole : (old new : Option (List ℕ)) (text words : List ℕ) → old ≡ Some [] → new ≡ Some text → Puts old new words → text ≡ words
whole old new text words none is put = subst (λ t. Puts (Some []) t words) is (subst (λ t. Puts t new words) none put)
