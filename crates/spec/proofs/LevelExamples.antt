-- Spoken levels (paper 02, slip 5): lists of levels with their words, and of what is answered for a level, proved by computing the
-- definitions.
-- Assumes nothing.
use Prim.Native.Nat.{ℕ}
use Prim.Native.String as text
use mathlib.Core.Path.{◌≡◌, refl}
use mathlib.Core.Bool.{true, false}
use mathlib.Core.List.{List, [], ◌∷◌, map}
use lib.ListN.{replicate}
use lib.IntN.{ℤ, pos, negsuc}
use Rattle.spec.specs.Tables.{ascii}
use Rattle.spec.specs.Refusals.{refusal}
use Rattle.spec.specs.SpokenLevels.{bytes, spoken, level_answer}
use Rattle.spec.specs.Printed.{last_digits, decimal, printed_codes, printed_answer, after_writing, sign_length, are_digits, is_decimal}
use Rattle.spec.specs.Printed.{digits_from, level_in, spoken_answer, printed_level}
use Rattle.spec.specs.Results.{Answer, wrote}
use Rattle.spec.proofs.Computed.{everything}
use Rattle.spec.proofs.Utf8Examples as utf8
use Rattle.std.proofs.Common.{Err}

-- a level, where negsuc n is -(n + 1), and what is spoken
pub record Example : Type 0 where
  pub level : ℤ
  pub words : text.String

-- both sides of each step from one row of the rules to the next, every form of the thousand, and the ends
unfoldable pub examples : List Example
examples =
    (record { level = pos 0; words = "но*ль" }) ∷
    (record { level = pos 1; words = "оди*н" }) ∷
    (record { level = negsuc 0; words = "ми*нус оди*н" }) ∷
    (record { level = pos 2; words = "два*" }) ∷
    (record { level = pos 10; words = "де*сять" }) ∷
    (record { level = pos 11; words = "оди*ннадцать" }) ∷
    (record { level = pos 14; words = "четы*рнадцать" }) ∷
    (record { level = pos 19; words = "девятна*дцать" }) ∷
    (record { level = pos 20; words = "два*дцать" }) ∷
    (record { level = pos 21; words = "два*дцать оди*н" }) ∷
    (record { level = negsuc 39; words = "ми*нус со*рок" }) ∷
    (record { level = pos 99; words = "девяно*сто де*вять" }) ∷
    (record { level = pos 100; words = "сто*" }) ∷
    (record { level = pos 101; words = "сто* оди*н" }) ∷
    (record { level = pos 110; words = "сто* де*сять" }) ∷
    (record { level = pos 312; words = "три*ста двена*дцать" }) ∷
    (record { level = pos 900; words = "девятьсо*т" }) ∷
    (record { level = pos 999; words = "девятьсо*т девяно*сто де*вять" }) ∷
    (record { level = pos 1000; words = "одна* ты*сяча" }) ∷
    (record { level = pos 1001; words = "одна* ты*сяча оди*н" }) ∷
    (record { level = pos 2002; words = "две* ты*сячи два*" }) ∷
    (record { level = pos 3000; words = "три* ты*сячи" }) ∷
    (record { level = pos 4000; words = "четы*ре ты*сячи" }) ∷
    (record { level = negsuc 4499; words = "ми*нус четы*ре ты*сячи пятьсо*т" }) ∷
    (record { level = pos 5000; words = "пя*ть ты*сяч" }) ∷
    (record { level = negsuc 4988; words = "ми*нус четы*ре ты*сячи девятьсо*т во*семьдесят де*вять" }) ∷
    (record { level = negsuc 4483; words = "ми*нус четы*ре ты*сячи четы*реста во*семьдесят четы*ре" }) ∷
    (record { level = pos 9999; words = "де*вять ты*сяч девятьсо*т девяно*сто де*вять" }) ∷
    (record { level = negsuc 9998; words = "ми*нус де*вять ты*сяч девятьсо*т девяно*сто де*вять" }) ∷ []

pub words_right : map (λ (e : Example). spoken e.level) examples ≡ map (λ (e : Example). bytes e.words) examples
unfolding everything examples
words_right = refl

-- what is lent, and what is answered
pub record Lent : Type 0 where
  pub level : ℤ
  pub room : ℕ
  pub answer : Answer

-- just room enough and a byte less; the ends of the range and of the numbers that can be asked for, with room and without
unfoldable pub answers : List Lent
answers =
    (record { level = pos 0; room = 5; answer = wrote 5 0 }) ∷
    (record { level = pos 0; room = 4; answer = Err (refusal 11 5) }) ∷
    (record { level = pos 9999; room = 44; answer = wrote 44 0 }) ∷
    (record { level = negsuc 9998; room = 51; answer = wrote 51 0 }) ∷
    (record { level = negsuc 4483; room = 54; answer = wrote 54 0 }) ∷
    (record { level = negsuc 4483; room = 53; answer = Err (refusal 11 54) }) ∷
    (record { level = pos 10000; room = 100; answer = Err (refusal 14 0) }) ∷
    (record { level = negsuc 9999; room = 100; answer = Err (refusal 14 0) }) ∷
    (record { level = pos 10000; room = 0; answer = Err (refusal 14 0) }) ∷
    (record { level = pos 2147483647; room = 0; answer = Err (refusal 14 0) }) ∷
    (record { level = negsuc 2147483647; room = 100; answer = Err (refusal 14 0) }) ∷ []

pub answers_right : map (λ (l : Lent). level_answer l.level l.room) answers ≡ map (λ (l : Lent). l.answer) answers
unfolding everything answers
answers_right = refl

-- What is typed, and what the program for levels prints: a minus sign and zeros before the number, the ends, a number that is longer
-- than any machine's; and no numbers.
unfoldable pub lines : List utf8.Example
lines =
    (record { typed = "0"; line = "37 2 34\n" }) ∷
    (record { typed = "-0"; line = "37 2 34\n" }) ∷
    (record { typed = "-0040"; line = "36 5 37 11 43 0 43 2 41 12 31\n" }) ∷
    (record { typed = "9999"; line = "25 3 19 13 46 0 45 4 44 13 54 0 25 13 19 8 46 43 2 24 0 25 13 19 8 37 2 43 45 12 0 25 3 19 13 46\n" }) ∷
    (record { typed = "10000"; line = "refused 14 at 0\n" }) ∷
    (record { typed = "-10000"; line = "refused 14 at 0\n" }) ∷
    (record { typed = "36893488147419103237"; line = "refused 14 at 0\n" }) ∷
    (record { typed = ""; line = "" }) ∷
    (record { typed = "-"; line = "" }) ∷
    (record { typed = "--1"; line = "" }) ∷
    (record { typed = "+1"; line = "" }) ∷
    (record { typed = "1-"; line = "" }) ∷
    (record { typed = "1/"; line = "" }) ∷
    (record { typed = "1:"; line = "" }) ∷ []

pub lines_right : map (λ (e : utf8.Example). printed_level (ascii e.typed)) lines ≡ map (λ (e : utf8.Example). ascii e.line) lines
unfolding everything lines last_digits decimal printed_codes printed_answer after_writing sign_length are_digits is_decimal digits_from level_in spoken_answer printed_level
lines_right = refl

-- the longest text that can be a number, and one byte more
pub longest_right : is_decimal (replicate 4096 48) ≡ true
unfolding everything sign_length are_digits is_decimal
longest_right = refl

pub longer_right : is_decimal (replicate 4097 48) ≡ false
unfolding everything sign_length are_digits is_decimal
longer_right = refl
