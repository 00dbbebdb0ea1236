-- Paper 02, slip 5, spoken levels: the Russian words of a level in centimetres, as a message.
-- docs/LEVELS.md has the same table of words.
-- Assumes nothing: these are definitions.
use Rattle.std.specs.Prelude.{ℕ, zero, suc, ◌*◌, ◌/◌, ◌%◌, ◌≤◌, cond, List, [], ◌∷◌, ◌++◌, eqb, leb}
use Rattle.std.specs.Prelude.{length, ℤ, pos, negsuc, nat_abs, Err}
use Prim.Native.Char.{code}
use Prim.Native.String as text
use Rattle.spec.specs.Numbers.{level_outside, level_max}
use Rattle.spec.specs.Alphabet.{gap}
use Rattle.spec.specs.Letters.{is_mark}
use Rattle.spec.specs.Refusals.{refusal}
use Rattle.spec.specs.Answers.{within, Promise}
use Rattle.spec.specs.Utf8.{Character, ◌is◌, characters}
use Rattle.spec.specs.Results.{Answer}

infix 70 ◌says◌
-- the byte of the character with this number, by the table of slip 2; 0, which has no row, where
-- there is none
unfoldable pub byte_numbered : List Character → ℕ → ℕ
byte_numbered [] c = 0
byte_numbered (b is k ∷ rows) c = cond (eqb c k) b (byte_numbered rows c)

-- the bytes of a quoted word
unfoldable pub bytes : text.String → List ℕ
bytes text.[] = []
bytes (text.◌∷◌ c s) = byte_numbered characters (code c) ∷ bytes s

-- a row of the table of words: a number, and the word that says it, with its stress mark
pub data Row : Type 0 where
  ◌says◌ : ℕ → text.String → Row

-- Slip 5, the table of words, masculine nominative: 1 to 9
unfoldable pub units : List Row
units =
    1 says "оди*н" ∷ 2 says "два*" ∷ 3 says "три*" ∷ 4 says "четы*ре" ∷ 5 says "пя*ть" ∷
    6 says "ше*сть" ∷ 7 says "се*мь" ∷ 8 says "во*семь" ∷ 9 says "де*вять" ∷ []

-- 10 to 19
unfoldable pub teens : List Row
teens =
    10 says "де*сять" ∷ 11 says "оди*ннадцать" ∷ 12 says "двена*дцать" ∷ 13 says "трина*дцать" ∷ 14 says "четы*рнадцать" ∷
    15 says "пятна*дцать" ∷ 16 says "шестна*дцать" ∷ 17 says "семна*дцать" ∷ 18 says "восемна*дцать" ∷ 19 says "девятна*дцать" ∷ []

-- the tens from 20 on
unfoldable pub tens : List Row
tens =
    20 says "два*дцать" ∷ 30 says "три*дцать" ∷ 40 says "со*рок" ∷ 50 says "пятьдеся*т" ∷
    60 says "шестьдеся*т" ∷ 70 says "се*мьдесят" ∷ 80 says "во*семьдесят" ∷ 90 says "девяно*сто" ∷ []

-- the hundreds
unfoldable pub hundreds : List Row
hundreds =
    100 says "сто*" ∷ 200 says "две*сти" ∷ 300 says "три*ста" ∷ 400 says "четы*реста" ∷ 500 says "пятьсо*т" ∷
    600 says "шестьсо*т" ∷ 700 says "семьсо*т" ∷ 800 says "восемьсо*т" ∷ 900 says "девятьсо*т" ∷ []

-- before the thousand, which is feminine, one and two are too; the first row of a number counts
unfoldable pub feminine : List Row
feminine = 1 says "одна*" ∷ 2 says "две*" ∷ units

-- the word of a number, as a list: none for a number without a row, such as 0
unfoldable pub word_in : List Row → ℕ → List (List ℕ)
word_in [] n = []
word_in (k says w ∷ rows) n = cond (eqb n k) (bytes w ∷ []) (word_in rows n)

-- the form of the thousand after a count of 1 to 9: of 1, of 2 to 4, of 5 to 9
unfoldable pub thousand : ℕ → List ℕ
thousand n = cond (eqb n 1) (bytes "ты*сяча") (cond (leb n 4) (bytes "ты*сячи") (bytes "ты*сяч"))

-- so many thousands, 0 to 9: the count and its form
unfoldable pub thousands : ℕ → List (List ℕ)
thousands n = cond (eqb n 0) [] (word_in feminine n ++ (thousand n ∷ []))

-- a number below 100: one word up to 19, from there on tens and units
unfoldable pub below_hundred : ℕ → List (List ℕ)
below_hundred n =
    cond (leb n 9) (word_in units n)
    (cond (leb n 19) (word_in teens n)
    (word_in tens (n / 10 * 10) ++ word_in units (n % 10)))

-- the words of a number from 1 to 9,999: thousands, hundreds, and what is left
unfoldable pub number_words : ℕ → List (List ℕ)
number_words n = thousands (n / 1000) ++ (word_in hundreds (n % 1000 / 100 * 100) ++ below_hundred (n % 100))

-- the words of a level: zero has its own and no minus; above zero the number's; below it, where
-- negsuc n is -(n + 1), minus first
unfoldable pub level_words : ℤ → List (List ℕ)
level_words (pos zero) = bytes "но*ль" ∷ []
level_words (pos (suc n)) = number_words (suc n)
level_words (negsuc n) = bytes "ми*нус" ∷ number_words (suc n)

-- words behind a gap each
unfoldable pub after_gaps : List (List ℕ) → List ℕ
after_gaps [] = []
after_gaps (w ∷ words) = gap ∷ (w ++ after_gaps words)

-- words with one gap between
unfoldable pub spaced : List (List ℕ) → List ℕ
spaced [] = []
spaced (w ∷ words) = w ++ after_gaps words

-- how many stress marks a word has
unfoldable pub marks_in : List ℕ → ℕ
marks_in [] = 0
marks_in (b ∷ w) = cond (is_mark b) (suc (marks_in w)) (marks_in w)

-- a claim on each of some words
abbrev pub Each : (List ℕ → Type 0) → List (List ℕ) → Type 0
Each Claim [] = Unit {0}
Each Claim (w ∷ words) = Claim w × Each Claim words

-- what is spoken of a level
unfoldable pub spoken : ℤ → List ℕ
spoken level = spaced (level_words level)

-- the levels that are spoken: -9,999 to 9,999
abbrev pub InRange : ℤ → Type 0
InRange level = nat_abs level ≤ level_max

-- The operation, lent an output of this room: number 14 first of all, and then 11.
unfoldable pub level_answer : ℤ → ℕ → Answer
level_answer level room =
    cond (leb (nat_abs level) level_max) (within room (length (spoken level)) 0)
    (Err (refusal level_outside 0))

abbrev pub LevelPromise : ℤ → List ℕ → List ℕ → Answer → Type 0
LevelPromise level out out' r = Promise (level_answer level (length out)) (spoken level) out out' r
