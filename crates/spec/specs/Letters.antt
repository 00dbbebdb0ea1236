-- Paper 01, 'Bytes of a message': letter classes, and the letters of a word.
-- Assumes nothing: these are definitions.
use Rattle.std.specs.Prelude.{ℕ, ◌+◌, Bool, false, cond, ◌&&◌, ◌||◌, List, [], ◌∷◌, ◌++◌, eqb, leb}
use Rattle.spec.specs.Alphabet.{gap, pause, mark, «а», «б», «в», «г», «д», «е», «ж», «з», «и»}
use Rattle.spec.specs.Alphabet.{«й», «к», «л», «м», «н», «о», «п», «р», «с», «т», «у», «ф»}
use Rattle.spec.specs.Alphabet.{«х», «ц», «ч», «ш», «щ», «ъ», «ы», «ь», «э», «ю», «я», «ё»}
use Rattle.spec.specs.Tables.{among}

-- is b one of the bytes from lo to hi?
abbrev pub between : ℕ → ℕ → ℕ → Bool
between lo hi b = leb lo b && leb b hi

unfoldable pub is_gap : ℕ → Bool
is_gap b = eqb b gap

unfoldable pub is_break : ℕ → Bool
is_break b = eqb b gap || eqb b pause

unfoldable pub is_mark : ℕ → Bool
is_mark b = eqb b mark

-- capitals, 0xC0 to 0xDF and 0xA8, are read as their small letters
unfoldable pub small : ℕ → ℕ
small b = cond (between 0xC0 0xDF b) (b + 32) (cond (eqb b 0xA8) «ё» b)

-- The letter classes. Class T: consonants that are hard always
abbrev pub hard_only : List ℕ
hard_only = «ж» ∷ «ш» ∷ «ц» ∷ []

-- class P: consonants with a hard and a palatalized sound
abbrev pub paired : List ℕ
paired = «б» ∷ «в» ∷ «г» ∷ «д» ∷ «з» ∷ «к» ∷ «л» ∷ «м» ∷ «н» ∷ «п» ∷ «р» ∷ «с» ∷ «т» ∷ «ф» ∷ «х» ∷ []

-- class Q: consonants that are palatalized always
abbrev pub soft_only : List ℕ
soft_only = «ч» ∷ «щ» ∷ «й» ∷ []

abbrev pub signs : List ℕ
signs = «ъ» ∷ «ь» ∷ []

-- class V1
abbrev pub plain_vowels : List ℕ
plain_vowels = «а» ∷ «о» ∷ «у» ∷ «ы» ∷ «э» ∷ []

-- class V2: the vowels that palatalize the consonant before them
abbrev pub softening_vowels : List ℕ
softening_vowels = «е» ∷ «ё» ∷ «и» ∷ «ю» ∷ «я» ∷ []

-- obstruents (the paper's noise letters)
abbrev pub obstruents : List ℕ
obstruents = «б» ∷ «п» ∷ «в» ∷ «ф» ∷ «г» ∷ «к» ∷ «д» ∷ «т» ∷ «ж» ∷ «ш» ∷ «з» ∷ «с» ∷ «х» ∷ «ц» ∷ «ч» ∷ «щ» ∷ []

-- These are asked of small letters.
unfoldable pub is_hard_only : ℕ → Bool
is_hard_only b = among hard_only b

unfoldable pub is_paired : ℕ → Bool
is_paired b = among paired b

unfoldable pub is_soft_only : ℕ → Bool
is_soft_only b = among soft_only b

unfoldable pub is_consonant : ℕ → Bool
is_consonant b = among (hard_only ++ paired ++ soft_only) b

unfoldable pub is_sign : ℕ → Bool
is_sign b = among signs b

unfoldable pub is_softening_vowel : ℕ → Bool
is_softening_vowel b = among softening_vowels b

unfoldable pub is_vowel : ℕ → Bool
is_vowel b = among (plain_vowels ++ softening_vowels) b

unfoldable pub is_obstruent : ℕ → Bool
is_obstruent b = among obstruents b

-- a letter of a word: its small byte, and whether a stress mark follows it
pub record Letter : Type 0 where
  pub byte : ℕ
  pub stressed : Bool

-- the byte of the first letter; 0, which is no letter, where there is none
unfoldable pub first_byte : List Letter → ℕ
first_byte [] = 0
first_byte (l ∷ w) = l.byte

-- do the bytes begin with a stress mark?
unfoldable pub begins_with_mark : List ℕ → Bool
begins_with_mark [] = false
begins_with_mark (b ∷ m) = is_mark b

-- A message read: words with one break between neighbours. `last w` is its last word; `more w x r`
-- is the word w, the break x after it, and the rest r.
pub data Message : Type 0 where
  last : List Letter → Message
  more : List Letter → ℕ → Message → Message

-- a letter put before a message's first word
unfoldable pub put_letter : Letter → Message → Message
put_letter l (last w) = last (l ∷ w)
put_letter l (more w x r) = more (l ∷ w) x r

-- the words of a message's bytes: a break ends a word, a mark is a fact about the letter before it
unfoldable pub read : List ℕ → Message
read [] = last []
read (b ∷ m) =
    cond (is_break b) (more [] b (read m))
    (cond (is_mark b) (read m) (put_letter (record { byte = small b; stressed = begins_with_mark m }) (read m)))

unfoldable pub first_word : Message → List Letter
first_word (last w) = w
first_word (more w x r) = w

unfoldable pub last_word : Message → List Letter
last_word (last w) = w
last_word (more w x r) = last_word r
