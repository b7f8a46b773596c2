-- SPDX-License-Identifier: MIT OR Apache-2.0
-- The lines that only a trace of several processors has.
use Rattle.std.proofs.Common.{◌≡◌, ◌≢◌, ℕ, ◌⊎◌, Bool, true, false, List, [], ◌∷◌, ◌++◌, take, codes, Option, Some, None, nat_lt, option_and_then, inl, inr, sym, ap, ◌∙◌, refl, if◌then◌else◌, Bor}
use Rattle.std.specs.Option.{option_or}
use Rattle.play_trace.specs.TraceLines.{Line, audit, turn, interrupt, space, number_of, turn_of, interrupt_of, act_of, line_of, line_in, words_of}
use Rattle.play_trace.specs.Parsed.{IsFront}
use Rattle.play_trace.specs.declared.line.Front.{Front}
use Rattle.play_trace.specs.declared.line.Front.TheVariants.{Last, More, Other}
use Rattle.play_trace.proofs.LineCommands.{behind_one, chosen, same}
use Rattle.play_trace.proofs.LineWords.{word_end, HasMore, words_are, some_word}

-- A TURN

pub turn_is : (xs : List ℕ) (p : ℕ) → words_of xs ≡ xs ∷ [] → number_of xs ≡ Some p
    → (count : ℕ) → (if nat_lt p count then Some (turn p) else None) ≡ turn_of count (words_of xs)
unfolding turn_of
turn_is xs p one number count = rw (one, number) refl

pub no_turn : (xs : List ℕ) (r : Front) → IsFront xs r → ((n : ℕ) × (rest : Bor (List ℕ)) × (r ≡ More n rest)) ⊎ (r ≡ Other)
    → (count : ℕ) → None ≡ turn_of count (words_of xs)
unfolding turn_of
no_turn xs (Last n) f (inl (m, rest, is)) count = absurd cc
no_turn xs (Last n) f (inr is) count = absurd cc
no_turn xs (More n rest) (word, are, number) h count = let two = behind_one rest.now word (words_of xs) are in rw two.are refl
no_turn xs Other (word, words, are, none) h count = of words ∙ ap (turn_of count) (sym are)
  where
    of : (ws : List (List ℕ)) → None ≡ turn_of count (word ∷ ws)
    of [] = rw none refl
    of (a ∷ ws) = refl

-- LINES

pub turn_line : (count : ℕ) (words : List ℕ) → act_of count (words_of (codes "on " ++ words)) ≡ turn_of count (words_of words)
unfolding words_of
turn_line count words = refl

pub interrupt_line : (count : ℕ) → Some interrupt ≡ act_of count (words_of (codes "interrupt"))
unfolding words_of interrupt_of
interrupt_line count = refl

-- a line of neither
named : (count : ℕ) (name : List ℕ) (words : List (List ℕ)) → (name ≡ codes "on" → None ≡ turn_of count words)
    → (name ≡ codes "interrupt" → None ≡ interrupt_of words) → None ≡ act_of count (name ∷ words)
named count name words turned interrupted =
    chosen _ _ _ (λ is. turned (same name _ is)) (chosen _ _ _ (λ is. interrupted (same name _ is)) refl)

pub no_act : (count : ℕ) (bytes : List ℕ) → ((words : List ℕ) → bytes ≢ codes "on " ++ words) → bytes ≢ codes "interrupt"
    → None ≡ act_of count (words_of bytes)
unfolding turn_of interrupt_of
no_act count bytes no_on no_interrupt =
    elim (words_are bytes) [
      | inl one ↦ named count bytes [] (λ _. refl) (λ is. absurd (no_interrupt is)) ∙ ap (act_of count) (sym one)
      | inr more ↦
          named count _ (words_of more.rest) (λ is. absurd (no_on more.rest (begins more is))) (λ is. interrupted more)
          ∙ ap (act_of count) (sym more.words)
    ]
  where
    begins : (more : HasMore bytes) {name : List ℕ} → take (word_end bytes) bytes ≡ name → bytes ≡ name ++ space ∷ more.rest
    begins more is = more.whole ∙ ap (λ n. n ++ space ∷ more.rest) is

    interrupted : (more : HasMore bytes) → None ≡ interrupt_of (words_of more.rest)
    interrupted more = of (words_of more.rest) (some_word more.rest)
      where
        of : (ws : List (List ℕ)) → (ws ≡ [] → ⊥) → None ≡ interrupt_of ws
        of [] some = absurd (some refl)
        of (w ∷ ws) some = refl

pub call_no_act : (words : List ℕ) (count : ℕ) → None ≡ act_of count (words_of (codes "call " ++ words))
unfolding words_of
call_no_act words count = refl

pub load_no_act : (words : List ℕ) (count : ℕ) → None ≡ act_of count (words_of (codes "load " ++ words))
unfolding words_of
load_no_act words count = refl

pub store_no_act : (words : List ℕ) (count : ℕ) → None ≡ act_of count (words_of (codes "store " ++ words))
unfolding words_of
store_no_act words count = refl

-- an act asks for no certificate
chosen_no : (line : Line) (b : Bool) (x y : Option Line) → (Some line ≡ x → ⊥) → (Some line ≡ y → ⊥) → Some line ≡ (if b then x else y) → ⊥
chosen_no line true x y p q is = p is
chosen_no line false x y p q is = q is

no_audit_turn : (count : ℕ) (words : List (List ℕ)) → Some audit ≡ turn_of count words → ⊥
unfolding turn_of
no_audit_turn count (n ∷ []) is = of (number_of n) is
  where
    at : (b : Bool) (p : ℕ) → Some audit ≡ (if b then Some (turn p) else None) → ⊥
    at true p is = absurd cc
    at false p is = absurd cc

    of : (o : Option ℕ) → Some audit ≡ option_and_then (λ p. if nat_lt p count then Some (turn p) else None) o → ⊥
    of None is = absurd cc
    of (Some p) is = at (nat_lt p count) p is
no_audit_turn count _ is = absurd cc

no_audit_interrupt : (words : List (List ℕ)) → Some audit ≡ interrupt_of words → ⊥
unfolding interrupt_of
no_audit_interrupt [] is = absurd cc
no_audit_interrupt (w ∷ words) is = absurd cc

no_audit_act : (count : ℕ) (words : List (List ℕ)) → Some audit ≡ act_of count words → ⊥
no_audit_act count [] is = absurd cc
no_audit_act count (name ∷ words) is =
    chosen_no audit _ _ _ (no_audit_turn count words)
    (chosen_no audit _ _ _ (no_audit_interrupt words) (λ (none : Some audit ≡ None). absurd cc)) is

-- LINES OF A TRACE OF SO MANY PROCESSORS

-- what a trace of one processor has, any has
pub good_in : (processors : Option ℕ) (bytes : List ℕ) (line : Line) → Some line ≡ line_of bytes → Some line ≡ line_in processors bytes
unfolding line_in
good_in None bytes line is = is
good_in (Some count) bytes line is = rw (← is) refl

-- and what it doesn't have is an act, or none
pub act_in : (count : ℕ) (bytes : List ℕ) → None ≡ line_of bytes → act_of count (words_of bytes) ≡ line_in (Some count) bytes
unfolding line_in
act_in count bytes none = rw (← none) refl

pub bad_in : (processors : Option ℕ) (bytes : List ℕ) → ((count : ℕ) → None ≡ act_of count (words_of bytes)) → None ≡ line_of bytes
    → None ≡ line_in processors bytes
unfolding line_in
bad_in None bytes other none = none
bad_in (Some count) bytes other none = other count ∙ act_in count bytes none

pub line_alone : (bytes : List ℕ) → line_of bytes ≡ line_in None bytes
unfolding line_in
line_alone bytes = refl

-- the certificate is asked for by one line in any trace
pub audit_in : (processors : Option ℕ) (bytes : List ℕ) → Some audit ≡ line_in processors bytes → Some audit ≡ line_of bytes
unfolding line_in
audit_in None bytes is = is
audit_in (Some count) bytes is = of (line_of bytes) is
  where
    of : (o : Option Line) → Some audit ≡ option_or o (act_of count (words_of bytes)) → Some audit ≡ o
    of None is = absurd (no_audit_act count (words_of bytes) is)
    of (Some line) is = is
