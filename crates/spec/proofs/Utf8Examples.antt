-- Texts in UTF-8 (paper 02, slip 2), what is read of them and what is written: lists of examples, proved by computing the definitions.
-- Assumes nothing.
use Prim.Native.Nat.{ℕ}
use Prim.Native.Char.{code}
use Prim.Native.String as text
use mathlib.Core.Path.{◌≡◌, refl}
use mathlib.Core.List.{List, [], ◌∷◌, ◌++◌, map}
use lib.ListN.{replicate}
use Rattle.spec.specs.Alphabet.{gap, mark, «а»}
use Rattle.spec.specs.Tables.{ascii}
use Rattle.spec.specs.Refusals.{refusal}
use Rattle.spec.specs.SpokenLevels.{bytes}
use Rattle.spec.specs.Utf8.{octets, characters, row_bytes, encoded, decoded, read_answer, write_answer}
use Rattle.spec.specs.Printed.{last_digits, decimal, printed_codes, printed_answer, after_writing, text_answer, printed_text}
use Rattle.spec.proofs.{Computed.everything, EditingExamples.Lent}
use Rattle.std.proofs.Common.{Err}
use Rattle.spec.specs.Results.{wrote}

-- the octets of a quoted text's characters
unfoldable pub utf8 : text.String → List ℕ
utf8 text.[] = []
utf8 (text.◌∷◌ c s) = octets (code c) ++ utf8 s

-- The octets of a character: the ends of each range, and the examples of RFC 3629, section 7.
pub ranges_right : map octets (0 ∷ 0x7F ∷ 0x80 ∷ 0x7FF ∷ 0x800 ∷ 0xFFFF ∷ 0x10000 ∷ 0x10FFFF ∷ [])
    ≡ ((0 ∷ []) ∷ (0x7F ∷ []) ∷ (0xC2 ∷ 0x80 ∷ []) ∷ (0xDF ∷ 0xBF ∷ []) ∷ (0xE0 ∷ 0xA0 ∷ 0x80 ∷ []) ∷ (0xEF ∷ 0xBF ∷ 0xBF ∷ [])
    ∷ (0xF0 ∷ 0x90 ∷ 0x80 ∷ 0x80 ∷ []) ∷ (0xF4 ∷ 0x8F ∷ 0xBF ∷ 0xBF ∷ []) ∷ [])
unfolding everything
ranges_right = refl

pub rfc_right : map octets (0x41 ∷ 0x2262 ∷ 0x391 ∷ 0xD55C ∷ 0x65E5 ∷ 0x233B4 ∷ [])
    ≡ ((0x41 ∷ []) ∷ (0xE2 ∷ 0x89 ∷ 0xA2 ∷ []) ∷ (0xCE ∷ 0x91 ∷ []) ∷ (0xED ∷ 0x95 ∷ 0x9C ∷ []) ∷ (0xE6 ∷ 0x97 ∷ 0xA5 ∷ [])
    ∷ (0xF0 ∷ 0xA3 ∷ 0x8E ∷ 0xB4 ∷ []) ∷ [])
unfolding everything
rfc_right = refl

-- The table, row by row, is these characters: the letters in its order, and then the others.
unfoldable pub quoted : text.String
quoted = "ЁёАБВГДЕЖЗИЙКЛМНОПРСТУФХЦЧШЩЪЫЬЭЮЯабвгдежзийклмнопрстуфхцчшщъыьэюя* #.,;:?!-()\"'"

pub table_written : encoded (row_bytes characters) ≡ utf8 quoted
unfolding everything utf8 quoted
table_written = refl

pub table_read : decoded (utf8 quoted) ≡ row_bytes characters
unfolding everything utf8 quoted
table_read = refl

-- the octets of the letters at both ends of each run, with Ё and ё
pub ends_right : map (λ b. encoded (b ∷ [])) (0xC0 ∷ 0xEF ∷ 0xF0 ∷ 0xFF ∷ 0xA8 ∷ 0xB8 ∷ [])
    ≡ ((0xD0 ∷ 0x90 ∷ []) ∷ (0xD0 ∷ 0xBF ∷ []) ∷ (0xD1 ∷ 0x80 ∷ []) ∷ (0xD1 ∷ 0x8F ∷ []) ∷ (0xD0 ∷ 0x81 ∷ []) ∷ (0xD1 ∷ 0x91 ∷ []) ∷ [])
unfolding everything
ends_right = refl

-- what is lent to the reader, and what it answers
unfoldable pub answers : List Lent
answers =
    -- the empty text, and one that is nothing of numbers 1 to 10: unedited, each character is a byte
    (record { text = []; room = 0; answer = wrote 0 0 }) ∷
    (record { text = utf8 " *ьъ, -"; room = 7; answer = wrote 7 0 }) ∷
    -- just room enough, and one byte less
    (record { text = utf8 "Ё, ё"; room = 4; answer = wrote 4 0 }) ∷
    (record { text = utf8 "Ё, ё"; room = 3; answer = Err (refusal 11 4) }) ∷
    -- other characters: Latin, a newline, a digit, Ѐ and ѐ beside the table's letters, a breve on и, a dash, a space that does not
    -- break, a mark of byte order, one above FFFF
    (record { text = utf8 "дa"; room = 9; answer = Err (refusal 13 2) }) ∷
    (record { text = utf8 "д\n"; room = 9; answer = Err (refusal 13 2) }) ∷
    (record { text = utf8 "7"; room = 9; answer = Err (refusal 13 0) }) ∷
    (record { text = 0xD0 ∷ 0x80 ∷ []; room = 9; answer = Err (refusal 13 0) }) ∷
    (record { text = 0xD1 ∷ 0x90 ∷ []; room = 9; answer = Err (refusal 13 0) }) ∷
    (record { text = utf8 "и" ++ (0xCC ∷ 0x86 ∷ []); room = 9; answer = Err (refusal 13 2) }) ∷
    (record { text = utf8 "да—"; room = 9; answer = Err (refusal 13 4) }) ∷
    (record { text = utf8 "*" ++ (0xC2 ∷ 0xA0 ∷ []); room = 9; answer = Err (refusal 13 1) }) ∷
    (record { text = 0xEF ∷ 0xBB ∷ 0xBF ∷ []; room = 9; answer = Err (refusal 13 0) }) ∷
    (record { text = utf8 "я😀"; room = 9; answer = Err (refusal 13 2) }) ∷
    -- a stray continuation, and one too many
    (record { text = 0x90 ∷ []; room = 9; answer = Err (refusal 13 0) }) ∷
    (record { text = utf8 "А" ++ (0x90 ∷ []); room = 9; answer = Err (refusal 13 2) }) ∷
    -- overlong forms of a gap in two, three and four octets, and of А in three and four
    (record { text = 0xC0 ∷ 0xA0 ∷ []; room = 9; answer = Err (refusal 13 0) }) ∷
    (record { text = 0xE0 ∷ 0x80 ∷ 0xA0 ∷ []; room = 9; answer = Err (refusal 13 0) }) ∷
    (record { text = 0xF0 ∷ 0x80 ∷ 0x80 ∷ 0xA0 ∷ []; room = 9; answer = Err (refusal 13 0) }) ∷
    (record { text = 0xE0 ∷ 0x90 ∷ 0x90 ∷ []; room = 9; answer = Err (refusal 13 0) }) ∷
    (record { text = 0xF0 ∷ 0x80 ∷ 0x90 ∷ 0x90 ∷ []; room = 9; answer = Err (refusal 13 0) }) ∷
    -- a surrogate, a number above 10FFFF, an octet that UTF-8 never has
    (record { text = 0xED ∷ 0xA0 ∷ 0x80 ∷ []; room = 9; answer = Err (refusal 13 0) }) ∷
    (record { text = 0xF4 ∷ 0x90 ∷ 0x80 ∷ 0x80 ∷ []; room = 9; answer = Err (refusal 13 0) }) ∷
    (record { text = 0xFF ∷ []; room = 9; answer = Err (refusal 13 0) }) ∷
    -- cut short by the end, and by the next character
    (record { text = utf8 "да" ++ (0xD0 ∷ []); room = 9; answer = Err (refusal 13 4) }) ∷
    (record { text = utf8 "*" ++ (0xD1 ∷ gap ∷ []); room = 9; answer = Err (refusal 13 1) }) ∷
    (record { text = 0xD0 ∷ 0xD0 ∷ 0x90 ∷ []; room = 9; answer = Err (refusal 13 0) }) ∷
    -- the first of two, and also where the output is short
    (record { text = utf8 "дa, дb"; room = 9; answer = Err (refusal 13 2) }) ∷
    (record { text = utf8 "да, да!€"; room = 0; answer = Err (refusal 13 11) }) ∷
    []

pub read_right : map (λ e. read_answer e.text e.room) answers ≡ map (λ e. e.answer) answers
unfolding everything utf8 answers
read_right = refl

-- what is lent to the writer, and what it answers: the check's numbers first, and then 11
unfoldable pub messages : List Lent
messages =
    (record { text = []; room = 9; answer = Err (refusal 1 0) }) ∷
    (record { text = replicate 4097 «а»; room = 9; answer = Err (refusal 2 0) }) ∷
    (record { text = «а» ∷ 0x2C ∷ []; room = 0; answer = Err (refusal 3 1) }) ∷
    (record { text = bytes "а "; room = 0; answer = Err (refusal 4 1) }) ∷
    (record { text = bytes "б*"; room = 0; answer = Err (refusal 5 1) }) ∷
    (record { text = bytes "ъ"; room = 0; answer = Err (refusal 6 0) }) ∷
    (record { text = bytes "Ду*б#а"; room = 10; answer = wrote 10 0 }) ∷
    (record { text = bytes "Ду*б#а"; room = 9; answer = Err (refusal 11 10) }) ∷
    []

pub write_right : map (λ e. write_answer e.text e.room) messages ≡ map (λ e. e.answer) messages
unfolding everything messages
write_right = refl

-- What the program for texts prints: read, edited and spoken, or refused with a place of the text, or of the edited message.
pub record Example : Type 0 where
  pub typed : text.String
  pub line : text.String

unfoldable pub lines : List Example
lines =
    (record { typed = "Ду*б, ра*д."; line = "24 6 39 63 41 1 45\n" }) ∷
    (record { typed = "(ду*б   ра*д)"; line = "24 6 39 0 41 1 45\n" }) ∷
    (record { typed = "ду*б☃"; line = "refused 13 at 7\n" }) ∷
    (record { typed = "- а, б*"; line = "refused 5 at 3\n" }) ∷
    (record { typed = "...!"; line = "refused 1 at 0\n" }) ∷
    []

pub printed_right : map (λ e. printed_text (utf8 e.typed)) lines ≡ map (λ e. ascii e.line) lines
unfolding everything utf8 lines last_digits decimal printed_codes printed_answer after_writing text_answer printed_text
printed_right = refl

-- A text as long as the program's buffer has its answer, here 13, which comes before 2; for a longer one nothing is printed.
pub longest_right : printed_text (0x61 ∷ replicate 65535 mark) ≡ ascii "refused 13 at 0\n"
unfolding everything last_digits decimal printed_codes printed_answer after_writing text_answer printed_text
longest_right = refl

pub longer_right : printed_text (0x61 ∷ replicate 65536 mark) ≡ []
unfolding everything printed_text
longer_right = refl
