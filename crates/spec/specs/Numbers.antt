-- The numbers that the papers name: of refusals, and limits. Those that code names are constants of
-- the same names in src/numbers.rt. Contracts tie the two: an operation that gives another number
-- than its contract says is not proved.
-- Assumes nothing: these are definitions.
use Rattle.std.specs.Prelude.{ℕ}

-- Paper 01, 'Turned-away messages'
-- no bytes
abbrev pub empty_message : ℕ
empty_message = 1

-- over 4,096 bytes
abbrev pub long_message : ℕ
long_message = 2

-- a byte that is no letter, mark or break
abbrev pub unknown_byte : ℕ
unknown_byte = 3

-- a break first, last or after a break
abbrev pub misplaced_break : ℕ
misplaced_break = 4

-- a stress mark not directly after a vowel
abbrev pub misplaced_mark : ℕ
misplaced_mark = 5

-- a sign first in a word
abbrev pub sign_first : ℕ
sign_first = 6

-- a sign adjacent after a sign
abbrev pub sign_after_sign : ℕ
sign_after_sign = 7

-- a consonant adjacent after ъ
abbrev pub consonant_after_hard_sign : ℕ
consonant_after_hard_sign = 8

-- vowel, sign, vowel, all adjacent
abbrev pub vowel_sign_vowel : ℕ
vowel_sign_vowel = 9

-- a word's 65th letter
abbrev pub long_word : ℕ
long_word = 10

-- the lent output is too short
abbrev pub short_output : ℕ
short_output = 11

-- a cut that is no place of a break, or not above the one before
abbrev pub misplaced_cut : ℕ
misplaced_cut = 12

-- Paper 02, requests 2, 5, 6 (two numbers) and 7
-- no text in UTF-8 of the characters that are taken
abbrev pub unreadable_text : ℕ
unreadable_text = 13

-- a level outside the range
abbrev pub level_outside : ℕ
level_outside = 14

-- no mark of a record, or a record cut short
abbrev pub broken_record : ℕ
broken_record = 15

-- a phrase number not above the one before
abbrev pub number_not_above : ℕ
number_not_above = 16

-- not for this listener
abbrev pub not_for_listener : ℕ
not_for_listener = 17

-- the most bytes of a message, and the most letters of a word
abbrev pub message_max : ℕ
message_max = 4096

abbrev pub word_max : ℕ
word_max = 64

-- the level farthest from zero that is spoken, above or below it (paper 02, request 5)
abbrev pub level_max : ℕ
level_max = 9999
