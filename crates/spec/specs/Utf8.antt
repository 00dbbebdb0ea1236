-- Paper 02, slip 2, texts in UTF-8: the reader turns a text into our bytes, the writer turns an
-- accepted message back.
-- Assumes nothing: these are definitions.
use Rattle.std.specs.Prelude.{ℕ, ◌+◌, ◌/◌, ◌%◌, ◌<◌, ◌≡◌, Bool, true, cond, ◌&&◌, not, ◌≢◌, List}
use Rattle.std.specs.Prelude.{[], ◌∷◌, ◌++◌, map, eqb, leb, length, take, drop, Err}
use Rattle.spec.specs.Numbers.{unreadable_text}
use Rattle.spec.specs.Alphabet.{gap, pause, mark}
use Rattle.spec.specs.Tables.{among, same}
use Rattle.spec.specs.Refusals.{refusal, check_of}
use Rattle.spec.specs.Answers.{within, after_check, Promise}
use Rattle.spec.specs.Editing.{pause_marks, gap_marks}
use Rattle.spec.specs.Results.{Answer}

infix 70 ◌is◌
-- RFC 3629, section 3: an octet that continues a sequence has the last six bits of a number
unfoldable pub continuation : ℕ → ℕ
continuation c = 0x80 + c % 0x40

-- RFC 3629, section 3, the table of ranges: the octets of a character by its number, one to four
unfoldable pub octets : ℕ → List ℕ
octets c =
    cond (leb c 0x7F) (c ∷ [])
    (cond (leb c 0x7FF) ((0xC0 + c / 0x40) ∷ continuation c ∷ [])
    (cond (leb c 0xFFFF) ((0xE0 + c / 0x1000) ∷ continuation (c / 0x40) ∷ continuation c ∷ [])
    ((0xF0 + c / 0x40000) ∷ continuation (c / 0x1000) ∷ continuation (c / 0x40) ∷ continuation c ∷ [])))

-- the numbers that characters have: up to 10FFFF, and none of the surrogates
unfoldable pub is_character : ℕ → Bool
is_character c = leb c 0x10FFFF && not (leb 0xD800 c && leb c 0xDFFF)

-- A text is UTF-8 if it is the octets of characters, one after the other; any other is malformed.
pub data WellFormed : List ℕ → Type 0 where
  ended : WellFormed []
  begun : {t : List ℕ} (c : ℕ) → is_character c ≡ true → WellFormed t → WellFormed (octets c ++ t)

-- Slip 2, a character that is taken: the byte that it is with us, and its number
pub data Character : Type 0 where
  ◌is◌ : ℕ → ℕ → Character

-- the letters, as Windows-1251 has them
unfoldable pub letters : List Character
letters =
    -- Ё and ё
    0xA8 is 0x0401 ∷ 0xB8 is 0x0451 ∷
    -- А to П
    0xC0 is 0x0410 ∷ 0xC1 is 0x0411 ∷ 0xC2 is 0x0412 ∷ 0xC3 is 0x0413 ∷ 0xC4 is 0x0414 ∷ 0xC5 is 0x0415 ∷ 0xC6 is 0x0416 ∷ 0xC7 is 0x0417 ∷
    0xC8 is 0x0418 ∷ 0xC9 is 0x0419 ∷ 0xCA is 0x041A ∷ 0xCB is 0x041B ∷ 0xCC is 0x041C ∷ 0xCD is 0x041D ∷ 0xCE is 0x041E ∷ 0xCF is 0x041F ∷
    -- Р to Я
    0xD0 is 0x0420 ∷ 0xD1 is 0x0421 ∷ 0xD2 is 0x0422 ∷ 0xD3 is 0x0423 ∷ 0xD4 is 0x0424 ∷ 0xD5 is 0x0425 ∷ 0xD6 is 0x0426 ∷ 0xD7 is 0x0427 ∷
    0xD8 is 0x0428 ∷ 0xD9 is 0x0429 ∷ 0xDA is 0x042A ∷ 0xDB is 0x042B ∷ 0xDC is 0x042C ∷ 0xDD is 0x042D ∷ 0xDE is 0x042E ∷ 0xDF is 0x042F ∷
    -- а to п
    0xE0 is 0x0430 ∷ 0xE1 is 0x0431 ∷ 0xE2 is 0x0432 ∷ 0xE3 is 0x0433 ∷ 0xE4 is 0x0434 ∷ 0xE5 is 0x0435 ∷ 0xE6 is 0x0436 ∷ 0xE7 is 0x0437 ∷
    0xE8 is 0x0438 ∷ 0xE9 is 0x0439 ∷ 0xEA is 0x043A ∷ 0xEB is 0x043B ∷ 0xEC is 0x043C ∷ 0xED is 0x043D ∷ 0xEE is 0x043E ∷ 0xEF is 0x043F ∷
    -- р to я
    0xF0 is 0x0440 ∷ 0xF1 is 0x0441 ∷ 0xF2 is 0x0442 ∷ 0xF3 is 0x0443 ∷ 0xF4 is 0x0444 ∷ 0xF5 is 0x0445 ∷ 0xF6 is 0x0446 ∷ 0xF7 is 0x0447 ∷
    0xF8 is 0x0448 ∷ 0xF9 is 0x0449 ∷ 0xFA is 0x044A ∷ 0xFB is 0x044B ∷ 0xFC is 0x044C ∷ 0xFD is 0x044D ∷ 0xFE is 0x044E ∷ 0xFF is 0x044F ∷ []

-- the stress mark, gap, pause and the marks of slip 1, whose bytes are their numbers
unfoldable pub ascii_bytes : List ℕ
ascii_bytes = mark ∷ gap ∷ pause ∷ (pause_marks ++ gap_marks)

-- The table of all that is taken.
unfoldable pub characters : List Character
characters = letters ++ map (λ b. b is b) ascii_bytes

-- the bytes that have a row
unfoldable pub row_bytes : List Character → List ℕ
row_bytes [] = []
row_bytes (x is c ∷ rows) = x ∷ row_bytes rows

unfoldable pub has_row : ℕ → Bool
has_row b = among (row_bytes characters) b

-- the octets of a byte's row; none where it has no row
unfoldable pub sequence_in : List Character → ℕ → List ℕ
sequence_in [] b = []
sequence_in (x is c ∷ rows) b = cond (eqb b x) (octets c) (sequence_in rows b)

-- the byte of the row that has these octets; 0, which has no row, where there is none
unfoldable pub byte_in : List Character → List ℕ → ℕ
byte_in [] s = 0
byte_in (x is c ∷ rows) s = cond (same s (octets c)) x (byte_in rows s)

-- both by the whole table: the sequence of a byte, the byte of a sequence, and whether that is one
-- of the table's
unfoldable pub sequence : ℕ → List ℕ
sequence b = sequence_in characters b

unfoldable pub byte_of : List ℕ → ℕ
byte_of s = byte_in characters s

unfoldable pub is_taken : List ℕ → Bool
is_taken s = not (eqb (byte_of s) 0)

-- Slip 2, writing: the sequences of a message's bytes, one after the other.
unfoldable pub encoded : List ℕ → List ℕ
encoded [] = []
encoded (b ∷ m) = sequence b ++ encoded m

-- Slip 2, reading: a text is cut into sequences of the table, each gives its byte, and it ends
-- where none of them begins. They have one octet or two, and none begins another, so there is one
-- way to cut.
unfoldable pub decoded : List ℕ → List ℕ
decoded [] = []
decoded (a ∷ []) = cond (is_taken (a ∷ [])) (byte_of (a ∷ []) ∷ []) []
decoded (a ∷ b ∷ t) =
    cond (is_taken (a ∷ [])) (byte_of (a ∷ []) ∷ decoded (b ∷ t))
    (cond (is_taken (a ∷ b ∷ [])) (byte_of (a ∷ b ∷ []) ∷ decoded t) [])

-- how many octets were cut: the place of the first sequence that is not taken, or the text's length
unfoldable pub read_to : List ℕ → ℕ
read_to t = length (encoded (decoded t))

-- each byte of a message has its row
abbrev pub AllRows : List ℕ → Type 0
AllRows [] = Unit {0}
AllRows (b ∷ m) = (has_row b ≡ true) × AllRows m

-- A text is a run of the table's sequences, and these are their bytes.
pub record RunOf (t m : List ℕ) : Type 0 where
  pub rows : AllRows m
  pub text : t ≡ encoded m

abbrev pub Readable : List ℕ → Type 0
Readable t = (m : List ℕ) × RunOf t m

-- What number 13 means at place p: up to there the text is such a run, and there it goes on with
-- none of the table's sequences, so what stands there is malformed or means another character.
pub record StopsAt (t : List ℕ) (p : ℕ) : Type 0 where
  pub within : p < length t
  pub before : Readable (take p t)
  pub after : (b : ℕ) (rest : List ℕ) → has_row b ≡ true → drop p t ≢ (sequence b ++ rest)

-- The reader, lent an output of this room: number 13 where not all of the text is cut, at the first
-- octet that is left, and then 11.
unfoldable pub read_answer : List ℕ → ℕ → Answer
read_answer t room =
    cond (eqb (read_to t) (length t)) (within room (length (decoded t)) 0)
    (Err (refusal unreadable_text (read_to t)))

-- The writer: numbers 1 to 10, and then 11.
unfoldable pub write_answer : List ℕ → ℕ → Answer
write_answer m room = after_check (check_of m) (within room (length (encoded m)) 0)

abbrev pub ReadPromise : List ℕ → List ℕ → List ℕ → Answer → Type 0
ReadPromise t out out' r = Promise (read_answer t (length out)) (decoded t) out out' r

abbrev pub WritePromise : List ℕ → List ℕ → List ℕ → Answer → Type 0
WritePromise m out out' r = Promise (write_answer m (length out)) (encoded m) out out' r
