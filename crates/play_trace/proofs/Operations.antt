-- SPDX-License-Identifier: MIT OR Apache-2.0
-- Lines are read as the operations for which they were put together.
use Rattle.std.proofs.Common.{◌≡◌, ℕ, ◌*◌, ◌^◌, ◌<◌, ◌≤◌, true, List, [], ◌∷◌, ◌++◌, length, codes, Some, option_map, sym, ap, ◌∙◌, arith, refl, append-nil, length-append}
use Rattle.std.specs.List.{list_all}
use Rattle.std.proofs.lemmas.List.{flat_map_more}
use Rattle.std.proofs.lemmas.List.Folds.{list_all-append}
use Rattle.ffa_model.specs.declared.operation.Op.{Op}
use Rattle.ffa_model.specs.declared.operation.Op.TheVariants.{Call, Load, Store, Fetch}
use Rattle.ffa_model.specs.declared.operation.Size.{Size}
use Rattle.ffa_model.specs.declared.operation.Size.TheVariants.{B1, B2, B4, B8}
use Rattle.ffa_model.specs.Manifest.{is_from_to}
use Rattle.ffa_model.specs.Memory.{size_of}
use Rattle.play_trace.specs.TraceLines.{operate, number_of, numbers_of, registers_of, size_named, size_written, call_of, load_of, store_of, fetch_of, command_of, line_of, words_of}
use Rattle.play_trace.specs.TraceText.{hex, spaced}
use Rattle.play_trace.proofs.LineRegisters.{numbers_more}
use Rattle.play_trace.specs.Script.{IsLineOf}
use Rattle.play_trace.proofs.DigitsRead.{hex_read, hex_plain}
use Rattle.play_trace.proofs.Words.{is_plain, are_plain, line, words-line, single-line}

-- one more word
pub line-push : (name : List ℕ) (words : List (List ℕ)) (w : List ℕ) → line name words ++ spaced w ≡ line name (words ++ w ∷ [])
line-push name words w = flat_map_more spaced name words w

pub one_put : (name w : List ℕ) → name ++ spaced w ≡ line name (w ∷ [])
one_put name w = ap (λ l. l ++ spaced w) (sym (append-nil name)) ∙ line-push name [] w

pub two_put : (name v w : List ℕ) → (name ++ spaced v) ++ spaced w ≡ line name (v ∷ w ∷ [])
two_put name v w = ap (λ l. l ++ spaced w) (one_put name v) ∙ line-push name (v ∷ []) w

-- a line of a command
commanded : (name : List ℕ) (words : List (List ℕ)) (op : Op) → list_all is_plain name ≡ true → are_plain words ≡ true
    → line_of (line name words) ≡ command_of (words_of (line name words)) → command_of (name ∷ words) ≡ Some (operate op) → IsLineOf (line name words) op
commanded name words op plain each told done = record {
  single = single-line name words plain each;
  read = told ∙ ap command_of (words-line name words plain each) ∙ done;
}

pub fetch_read : (n a : ℕ) → 1 ≤ n → n ≤ 16 → a < 16 ^ n → IsLineOf (line (codes "fetch") (hex n a ∷ [])) (Fetch a)
unfolding line_of command_of fetch_of
fetch_read n a some few fits =
    commanded (codes "fetch") (hex n a ∷ []) (Fetch a) refl (rw (hex_plain n a) refl) refl (ap (option_map (λ addr. operate (Fetch addr))) (hex_read n a some few fits))

-- the digits that tell a size
size_read : (size : Size) → size_named (hex 1 (size_of size)) ≡ Some size
unfolding size_named
size_read B1 = refl
size_read _ = refl

pub load_read : (n a : ℕ) (size : Size) → 1 ≤ n → n ≤ 16 → a < 16 ^ n → IsLineOf (line (codes "load") (hex n a ∷ hex 1 (size_of size) ∷ [])) (Load a size)
unfolding line_of command_of load_of
load_read n a size some few fits =
    commanded (codes "load") (hex n a ∷ hex 1 (size_of size) ∷ []) (Load a size) refl (rw (hex_plain n a, hex_plain 1 (size_of size)) refl) refl
    (rw (hex_read n a some few fits, size_read size) refl)

-- the digits of a value
value_size : (size : Size) (v : ℕ) → size_written (hex (2 * size_of size) v) ≡ Some size
unfolding size_written
value_size B1 v = refl
value_size _ v = refl

value_read : (size : Size) (v : ℕ) → v < 256 ^ size_of size → number_of (hex (2 * size_of size) v) ≡ Some v
value_read B1 v fits = hex_read 2 v (omega arith) (omega arith) fits
value_read B2 v fits = hex_read 4 v (omega arith) (omega arith) fits
value_read B4 v fits = hex_read 8 v (omega arith) (omega arith) fits
value_read B8 v fits = hex_read 16 v (omega arith) (omega arith) fits

pub store_read : (n a : ℕ) (size : Size) (v : ℕ) → 1 ≤ n → n ≤ 16 → a < 16 ^ n → v < 256 ^ size_of size
    → IsLineOf (line (codes "store") (hex n a ∷ hex (2 * size_of size) v ∷ [])) (Store a size v)
unfolding line_of command_of store_of
store_read n a size v some few fits low =
    commanded (codes "store") (hex n a ∷ hex (2 * size_of size) v ∷ []) (Store a size v) refl (rw (hex_plain n a, hex_plain (2 * size_of size) v) refl) refl
    (rw (hex_read n a some few fits, value_size size v, value_read size v low) refl)

-- THE REGISTERS OF A CALL

-- a text that tells these registers
pub record Told (text given : List ℕ) : Type 0 where
  pub words : List (List ℕ)
  pub whole : text ≡ line (codes "call") words
  pub plain : are_plain words ≡ true
  pub numbers : numbers_of words ≡ Some given
  pub each : length words ≡ length given

pub one_told : (text given : List ℕ) (n v : ℕ) → Told text given → 1 ≤ n → n ≤ 16 → v < 16 ^ n → Told (text ++ spaced (hex n v)) (given ++ v ∷ [])
one_told text given n v told some few fits = record {
  words = told.words ++ hex n v ∷ [];
  whole = ap (λ l. l ++ spaced (hex n v)) told.whole ∙ line-push (codes "call") told.words (hex n v);
  plain = list_all-append (list_all is_plain) told.words (hex n v ∷ []) ∙ rw (told.plain, hex_plain n v) refl;
  numbers = numbers_more told.words (hex n v) given v told.numbers (sym (hex_read n v some few fits));
  each = omega (arith, told.each, length-append told.words (hex n v ∷ []), length-append given (v ∷ []));
}

pub call_read : (text given x : List ℕ) → Told text given → 1 ≤ length given → length given ≤ 8 → x ≡ registers_of given → IsLineOf text (Call x)
unfolding line_of command_of call_of
call_read text given x told some few all =
    let counted : is_from_to 1 8 (length told.words) ≡ true = rw told.each (grind (arith, some, few)) in
    let read : call_of told.words ≡ Some (operate (Call x)) = rw (counted, told.numbers, all) refl in
    let is = commanded (codes "call") told.words (Call x) refl told.plain refl read in
    record { single = rw told.whole is.single; read = rw told.whole is.read }
