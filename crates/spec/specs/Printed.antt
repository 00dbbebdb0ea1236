-- Paper 01, 'Joints', the program: the text that it prints for a message, in ASCII. The text that a
-- second program prints for a text in UTF-8, with paper 02's slips 1 and 2 before it; and that a
-- third prints for a level in decimal, with slip 5 before it. All three keep edition 1 (slip 8).
-- Assumes nothing: these are definitions.
use Rattle.std.specs.Prelude.{ℕ, zero, suc, ◌+◌, ◌-◌, ◌*◌, ◌/◌, ◌%◌, Bool, true, cond, ◌&&◌, not}
use Rattle.std.specs.Prelude.{List, [], ◌∷◌, ◌++◌, eqb, leb, length, drop, ℤ, pos, neg_ℤ, Ok, Err}
use Rattle.spec.specs.Tables.{ascii}
use Rattle.spec.specs.Tape.{tape}
use Rattle.spec.specs.Answers.{tape_answer}
use Rattle.spec.specs.Editing.{edited}
use Rattle.spec.specs.Utf8.{decoded, read_answer}
use Rattle.spec.specs.SpokenLevels.{spoken, level_answer}
use Rattle.spec.specs.declared.Edition.TheVariants.{One}
use Rattle.spec.specs.Results.{Answer}

-- the last k digits of a number, or all where it has no more, most significant first
unfoldable pub last_digits : ℕ → ℕ → List ℕ
last_digits zero n = []
last_digits (suc k) n = cond (leb n 9) [] (last_digits k (n / 10)) ++ ((48 + n % 10) ∷ [])

-- a number in decimal: n has at most n digits, and 0 has one
unfoldable pub decimal : ℕ → List ℕ
decimal n = last_digits (suc n) n

-- codes in decimal, one space between neighbours
unfoldable pub printed_codes : List ℕ → List ℕ
printed_codes [] = []
printed_codes (c ∷ []) = decimal c
printed_codes (c ∷ (d ∷ codes)) = decimal c ++ (ascii " " ++ printed_codes (d ∷ codes))

-- an answer: the codes of its tape, or 'refused N at P'
unfoldable pub printed_answer : Answer → List ℕ → List ℕ
printed_answer (Ok w) codes = printed_codes codes
printed_answer (Err r) codes = ascii "refused " ++ (decimal r.number ++ (ascii " at " ++ decimal r.place))

-- The whole text for a message m: the transcriber's answer, lent two bytes of output for each byte
-- of the longest message, and a newline.
unfoldable pub printed : List ℕ → List ℕ
printed m = printed_answer (tape_answer One m 8192) (tape One m) ++ ascii "\n"

-- what is answered after another operation: its refusal, where it has one
unfoldable pub after_writing : Answer → Answer → Answer
after_writing (Ok w) a = a
after_writing (Err r) a = Err r

-- A text t in UTF-8 is read, lent as much as it has, then edited and transcribed as a message is;
-- the editor, lent as much, refuses nothing.
unfoldable pub text_answer : List ℕ → Answer
text_answer t = after_writing (read_answer t (length t)) (tape_answer One (edited (decoded t)) 8192)

-- The whole text for a text t in UTF-8. The program's own buffer has 65,536 bytes: for a longer
-- text nothing is printed, since that is no refusal of the papers.
unfoldable pub printed_text : List ℕ → List ℕ
printed_text t =
    cond (leb (length t) 65536)
    (printed_answer (text_answer t) (tape One (edited (decoded t))) ++ ascii "\n") []

-- A level in decimal, in ASCII, where 45 is the minus sign and 48 to 57 are the digits: the text
-- begins with a minus sign or with none,
unfoldable pub sign_length : List ℕ → ℕ
sign_length [] = 0
sign_length (b ∷ t) = cond (eqb b 45) 1 0

-- nothing but digits stands after it,
unfoldable pub are_digits : List ℕ → Bool
are_digits [] = true
are_digits (b ∷ t) = (leb 48 b && leb b 57) && are_digits t

-- and at least one; of more than 4,096 bytes a text is no number
unfoldable pub is_decimal : List ℕ → Bool
is_decimal t = leb (length t) 4096 && (not (leb (length t) (sign_length t)) && are_digits (drop (sign_length t) t))

-- the number that digits say, behind those that say n
unfoldable pub digits_from : ℕ → List ℕ → ℕ
digits_from n [] = n
digits_from n (b ∷ t) = digits_from (10 * n + (b - 48)) t

unfoldable pub level_in : List ℕ → ℤ
level_in t =
    let n = pos (digits_from 0 (drop (sign_length t) t)) in
    cond (eqb (sign_length t) 0) n (neg_ℤ n)

-- a level is spoken, lent as much as any takes, and its words are transcribed as a message is
unfoldable pub spoken_answer : ℤ → Answer
spoken_answer level = after_writing (level_answer level 54) (tape_answer One (spoken level) 8192)

-- The whole text for a text t in decimal; nothing where it is no number.
unfoldable pub printed_level : List ℕ → List ℕ
printed_level t = cond (is_decimal t) (printed_answer (spoken_answer (level_in t))
    (tape One (spoken (level_in t))) ++ ascii "\n") []
