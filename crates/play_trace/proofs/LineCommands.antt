-- SPDX-License-Identifier: MIT OR Apache-2.0
-- The commands, by the words behind their names.
use Rattle.std.proofs.Common.{◌≡◌, ◌≢◌, ℕ, ◌<◌, ◌≤◌, ◌⊎◌, Bool, true, false, List, [], ◌∷◌, ◌++◌, length, take, get_or, codes, Option, Some, None, option_map, option_and_then, inl, inr, sym, ap, ◌∙◌, arith, refl, ◌==◌, if◌then◌else◌, Bor, bytes_eq}
use Rattle.std.proofs.lemmas.Bool.{cases_Bool, eqb-true, eq-eqb}
use Rattle.std.proofs.lemmas.Slice.Eq.{bytes_eq-Decides}
use Rattle.ffa_model.specs.declared.operation.Op.TheVariants.{Load, Store, Fetch}
use Rattle.ffa_model.specs.declared.operation.Size.{Size}
use Rattle.play_trace.specs.TraceLines.{Line, operate, show, audit, skip, space, hash, number_of, size_named, size_written, call_of, load_of, store_of, fetch_of, show_of, audit_of, command_of, line_of, words_of}
use Rattle.play_trace.specs.Parsed.{IsFront, IsOther}
use Rattle.play_trace.specs.declared.line.Front.{Front}
use Rattle.play_trace.specs.declared.line.Front.TheVariants.{Last, More, Other}
use Rattle.play_trace.proofs.LineWords.{word_end, HasMore, words_are, some_word}

-- more words than one
pub record TwoWords (words : List (List ℕ)) : Type 0 where
  pub first : List ℕ
  pub second : List ℕ
  pub others : List (List ℕ)
  pub are : words ≡ first ∷ second ∷ others

pub behind_one : (xs : List ℕ) (word : List ℕ) (words : List (List ℕ)) → words ≡ word ∷ words_of xs → TwoWords words
behind_one xs word words h = of (words_of xs) refl
  where
    of : (ws : List (List ℕ)) → words_of xs ≡ ws → TwoWords words
    of [] none = absurd (some_word xs none)
    of (w ∷ ws) some = record { first = word; second = w; others = ws; are = h ∙ ap (λ l. word ∷ l) some }

pub two_words : (xs : List ℕ) → HasMore xs → TwoWords (words_of xs)
two_words xs more = behind_one more.rest _ (words_of xs) more.words

-- a name of one word isn't two
no_name : (name xs : List ℕ) → words_of name ≡ name ∷ [] → HasMore xs → bytes_eq xs name ≡ false
no_name name xs one more =
    elim (cases_Bool (bytes_eq xs name)) [
      | inl same ↦ absurd (alone (ap words_of ((bytes_eq-Decides xs name).0 same) ∙ one))
      | inr other ↦ other
    ]
  where
    alone : words_of xs ≡ name ∷ [] → ⊥
    alone h =
        let two = two_words xs more in
        let same : name ∷ [] ≡ two.first ∷ two.second ∷ two.others = sym h ∙ two.are in
        absurd cc

no_size : (xs : List ℕ) → HasMore xs → size_named xs ≡ None
unfolding size_named words_of
no_size xs more = rw (no_name (49 ∷ []) xs refl more, no_name (50 ∷ []) xs refl more, no_name (52 ∷ []) xs refl more, no_name (56 ∷ []) xs refl more) refl

-- A LOAD

pub load_is : (xs rest word : List ℕ) (addr : ℕ) → words_of xs ≡ word ∷ words_of rest → number_of word ≡ Some addr
    → option_map (λ size. operate (Load addr size)) (size_named rest) ≡ load_of (words_of xs)
unfolding load_of
load_is xs rest word addr h number =
    elim (words_are rest) [
      | inl one ↦ rw (h, one, number) refl
      | inr more ↦ let two = two_words rest more in rw (h, two.are, no_size rest more) refl
    ]

-- the first word is the last one, or no number
pub no_load : (xs : List ℕ) (r : Front) → IsFront xs r → ((n : ℕ) × (r ≡ Last n)) ⊎ (r ≡ Other) → None ≡ load_of (words_of xs)
unfolding load_of
no_load xs (Last n) (one, number) h = rw one refl
no_load xs (More n rest) f (inl (m, is)) = absurd cc
no_load xs (More n rest) f (inr is) = absurd cc
no_load xs Other (word, words, are, none) h = of words ∙ ap load_of (sym are)
  where
    of : (ws : List (List ℕ)) → None ≡ load_of (word ∷ ws)
    of (a ∷ []) = rw none refl
    of _ = refl

-- A STORE

nothing_stored : {X : Type 0} (o : Option Size) → option_and_then {U = X} (λ size. None) o ≡ None
nothing_stored None = refl
nothing_stored (Some size) = refl

pub many_stored : (xs : List ℕ) → TwoWords (words_of xs) → (a : List ℕ) → store_of (a ∷ words_of xs) ≡ None
unfolding store_of
many_stored xs two a = rw two.are refl

pub no_size_stored : (xs : List ℕ) → None ≡ size_written xs → (a : List ℕ) → store_of (a ∷ words_of xs) ≡ None
unfolding store_of
no_size_stored xs none a =
    elim (words_are xs) [
      | inl one ↦ rw (one, ← none) (at (number_of a))
      | inr more ↦ many_stored xs (two_words xs more) a
    ]
  where
    at : (o : Option ℕ) → option_and_then {U = Line} (λ addr. None) o ≡ None
    at None = refl
    at (Some addr) = refl

-- more words than one, or no number
pub none_stored : (xs : List ℕ) (r : Front) → IsFront xs r → ((n : ℕ) × (rest : Bor (List ℕ)) × (r ≡ More n rest)) ⊎ (r ≡ Other)
    → (a : List ℕ) → store_of (a ∷ words_of xs) ≡ None
unfolding store_of
none_stored xs (Last n) f (inl (m, rest, is)) a = absurd cc
none_stored xs (Last n) f (inr is) a = absurd cc
none_stored xs (More n rest) (word, are, number) h a = many_stored xs (behind_one rest.now word (words_of xs) are) a
none_stored xs Other (word, words, are, none) h a = ap (λ l. store_of (a ∷ l)) are ∙ of words
  where
    at : (o : Option ℕ) → option_and_then (λ addr. option_and_then (λ size. option_map (λ value. operate (Store addr size value)) None) (size_written word)) o ≡ None
    at None = refl
    at (Some addr) = nothing_stored (size_written word)

    of : (ws : List (List ℕ)) → store_of (a ∷ word ∷ ws) ≡ None
    of [] = rw none (at (number_of a))
    of (b ∷ ws) = refl

pub store_is : (xs rest word : List ℕ) (addr value : ℕ) (size : Size) → words_of xs ≡ word ∷ words_of rest → number_of word ≡ Some addr
    → words_of rest ≡ rest ∷ [] → size_written rest ≡ Some size → number_of rest ≡ Some value → Some (operate (Store addr size value)) ≡ store_of (words_of xs)
unfolding store_of
store_is xs rest word addr value size h number one sized written = rw (h, one, number, sized, written) refl

pub no_store : (xs : List ℕ) (r : Front) → IsFront xs r → ((n : ℕ) × (r ≡ Last n)) ⊎ (r ≡ Other) → None ≡ store_of (words_of xs)
unfolding store_of
no_store xs (Last n) (one, number) h = rw one refl
no_store xs (More n rest) f (inl (m, is)) = absurd cc
no_store xs (More n rest) f (inr is) = absurd cc
no_store xs Other (word, words, are, none) h = of words ∙ ap store_of (sym are)
  where
    of : (ws : List (List ℕ)) → None ≡ store_of (word ∷ ws)
    of (a ∷ []) = rw none refl
    of _ = refl

-- A FETCH

pub fetch_is : (xs : List ℕ) (addr : ℕ) → words_of xs ≡ xs ∷ [] → number_of xs ≡ Some addr → Some (operate (Fetch addr)) ≡ fetch_of (words_of xs)
unfolding fetch_of
fetch_is xs addr h number = rw (h, number) refl

pub no_fetch : (xs : List ℕ) (r : Front) → IsFront xs r → ((n : ℕ) × (rest : Bor (List ℕ)) × (r ≡ More n rest)) ⊎ (r ≡ Other) → None ≡ fetch_of (words_of xs)
unfolding fetch_of
no_fetch xs (Last n) f (inl (m, rest, is)) = absurd cc
no_fetch xs (Last n) f (inr is) = absurd cc
no_fetch xs (More n rest) (word, are, number) h = let two = behind_one rest.now word (words_of xs) are in rw two.are refl
no_fetch xs Other (word, words, are, none) h = of words ∙ ap fetch_of (sym are)
  where
    of : (ws : List (List ℕ)) → None ≡ fetch_of (word ∷ ws)
    of [] = rw none refl
    of (a ∷ ws) = refl

-- LINES OF A COMMAND

pub call_line : (words : List ℕ) → line_of (codes "call " ++ words) ≡ call_of (words_of words)
unfolding line_of command_of words_of
call_line words = refl

pub load_line : (words : List ℕ) → line_of (codes "load " ++ words) ≡ load_of (words_of words)
unfolding line_of command_of words_of
load_line words = refl

pub store_line : (words : List ℕ) → line_of (codes "store " ++ words) ≡ store_of (words_of words)
unfolding line_of command_of words_of
store_line words = refl

pub fetch_line : (words : List ℕ) → line_of (codes "fetch " ++ words) ≡ fetch_of (words_of words)
unfolding line_of command_of words_of
fetch_line words = refl

pub show_line : Some show ≡ line_of (codes "show")
unfolding line_of command_of words_of show_of
show_line = refl

pub audit_line : Some audit ≡ line_of (codes "audit")
unfolding line_of command_of words_of audit_of
audit_line = refl

pub empty_line : (bytes : List ℕ) → length bytes < 1 → Some skip ≡ line_of bytes
unfolding line_of
empty_line [] h = refl
empty_line (c ∷ bytes) h = absurd (omega (arith, h))

pub comment_line : (bytes : List ℕ) → 1 ≤ length bytes → get_or bytes 0 0 ≡ hash → Some skip ≡ line_of bytes
unfolding line_of
comment_line [] some is = absurd (omega (arith, some))
comment_line (c ∷ bytes) some is = rw (eq-eqb c hash is) refl

-- a line of none of the commands
pub chosen : (b : Bool) (x y : Option Line) → (b ≡ true → None ≡ x) → None ≡ y → None ≡ (if b then x else y)
chosen true x y p q = p refl
chosen false x y p q = q

pub same : (xs ys : List ℕ) → bytes_eq xs ys ≡ true → xs ≡ ys
same xs ys = (bytes_eq-Decides xs ys).0

named : (name : List ℕ) (words : List (List ℕ)) → (name ≡ codes "call" → None ≡ call_of words) → (name ≡ codes "load" → None ≡ load_of words)
    → (name ≡ codes "store" → None ≡ store_of words) → (name ≡ codes "fetch" → None ≡ fetch_of words) → (name ≡ codes "show" → None ≡ show_of words)
    → (name ≡ codes "audit" → None ≡ audit_of words)
    → None ≡ command_of (name ∷ words)
unfolding command_of
named name words call load store fetch shown audited =
    chosen _ _ _ (λ is. call (same name _ is)) (
    chosen _ _ _ (λ is. load (same name _ is)) (
    chosen _ _ _ (λ is. store (same name _ is)) (
    chosen _ _ _ (λ is. fetch (same name _ is)) (
    chosen _ _ _ (λ is. shown (same name _ is)) (chosen _ _ _ (λ is. audited (same name _ is)) refl)))))

no_command : (bytes : List ℕ) → IsOther bytes → ((words : List ℕ) → bytes ≢ codes "fetch " ++ words) → bytes ≢ codes "show" → bytes ≢ codes "audit" → None ≡ command_of (words_of bytes)
unfolding call_of load_of store_of fetch_of show_of audit_of
no_command bytes other no_fetch no_show no_audit =
    elim (words_are bytes) [
      | inl one ↦ named bytes [] (λ _. refl) (λ _. refl) (λ _. refl) (λ _. refl) (λ is. absurd (no_show is)) (λ is. absurd (no_audit is)) ∙ ap command_of (sym one)
      | inr more ↦
          named _ (words_of more.rest) (λ is. absurd (other.no_call more.rest (begins more is))) (λ is. absurd (other.no_load more.rest (begins more is)))
          (λ is. absurd (other.no_store more.rest (begins more is))) (λ is. absurd (no_fetch more.rest (begins more is))) (λ is. alone show_of (λ w ws. refl) more) (λ is. alone audit_of (λ w ws. refl) more)
          ∙ ap command_of (sym more.words)
    ]
  where
    begins : (more : HasMore bytes) {name : List ℕ} → take (word_end bytes) bytes ≡ name → bytes ≡ name ++ space ∷ more.rest
    begins more is = more.whole ∙ ap (λ n. n ++ space ∷ more.rest) is

    -- a command that no word follows
    alone : (f : List (List ℕ) → Option Line) → ((w : List ℕ) (ws : List (List ℕ)) → None ≡ f (w ∷ ws)) → (more : HasMore bytes) → None ≡ f (words_of more.rest)
    alone f none more = of (words_of more.rest) (some_word more.rest)
      where
        of : (ws : List (List ℕ)) → (ws ≡ [] → ⊥) → None ≡ f ws
        of [] some = absurd (some refl)
        of (w ∷ ws) some = none w ws

pub no_line : (bytes : List ℕ) → IsOther bytes → ((words : List ℕ) → bytes ≢ codes "fetch " ++ words) → bytes ≢ codes "show" → bytes ≢ codes "audit" → None ≡ line_of bytes
unfolding line_of
no_line [] other no_fetch no_show no_audit = absurd (other.some refl)
no_line (c ∷ bytes) other no_fetch no_show no_audit =
    chosen (c == hash) _ _ (λ is. absurd (other.no_comment bytes (ap (λ b. b ∷ bytes) (eqb-true c hash is)))) (no_command (c ∷ bytes) other no_fetch no_show no_audit)
