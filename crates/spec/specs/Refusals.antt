-- Paper 01, 'Turned-away messages': one test for each row of the table, and the message check.
-- A row is tested at a byte b, given the bytes before it, nearest first, and the bytes after it.
-- Assumes nothing: these are definitions.
use Rattle.std.specs.Prelude.{ℕ, zero, suc, ◌<◌, ◌≡◌, Bool, true, false, cond, ◌&&◌, ◌||◌, not, ◌⊎◌}
use Rattle.std.specs.Prelude.{List, [], ◌∷◌, eqb, leb, length, get_or, drop, Ok, Err}
use Rattle.spec.specs.Numbers.{empty_message, long_message, unknown_byte, misplaced_break}
use Rattle.spec.specs.Numbers.{misplaced_mark, sign_first, sign_after_sign}
use Rattle.spec.specs.Numbers.{consonant_after_hard_sign, vowel_sign_vowel, long_word, message_max}
use Rattle.spec.specs.Numbers.{word_max}
use Rattle.spec.specs.Alphabet.{«ъ»}
use Rattle.spec.specs.Letters.{small, is_break, is_mark, is_consonant, is_sign, is_vowel}
use Rattle.spec.specs.Counting.{code_count, name_count}
use Rattle.spec.specs.declared.Refusal.{Refusal}
use Rattle.spec.specs.Results.{Checked}

infix 40 ◌when◌
-- the classes of a byte as it stands in a message, where a letter may be a capital
unfoldable pub vowel_byte : ℕ → Bool
vowel_byte b = is_vowel (small b)

unfoldable pub sign_byte : ℕ → Bool
sign_byte b = is_sign (small b)

unfoldable pub hard_sign_byte : ℕ → Bool
hard_sign_byte b = eqb (small b) «ъ»

unfoldable pub consonant_byte : ℕ → Bool
consonant_byte b = is_consonant (small b)

unfoldable pub letter_byte : ℕ → Bool
letter_byte b = consonant_byte b || (sign_byte b || vowel_byte b)

-- is there a first byte, and of this class?
unfoldable pub first : (ℕ → Bool) → List ℕ → Bool
first class [] = false
first class (b ∷ m) = class b

unfoldable pub none : List ℕ → Bool
none [] = true
none (b ∷ m) = false

-- the bytes before, from the adjacent letter on: one mark may be passed over to come to it
unfoldable pub adjacent : List ℕ → List ℕ
adjacent [] = []
adjacent (b ∷ before) = cond (is_mark b) before (b ∷ before)

-- an adjacent sign, with a vowel adjacent before it
unfoldable pub vowel_sign : List ℕ → Bool
vowel_sign [] = false
vowel_sign (b ∷ before) = sign_byte b && first vowel_byte (adjacent before)

-- how many letters of the word stand before
unfoldable pub letters_before : List ℕ → ℕ
letters_before [] = 0
letters_before (b ∷ before) =
    let n = letters_before before in
    cond (is_break b) 0 (cond (letter_byte b) (suc n) n)

-- number 3: a byte that is no letter, mark or break
unfoldable pub row3 : List ℕ → ℕ → List ℕ → Bool
row3 before b after = not (letter_byte b || (is_mark b || is_break b))

-- number 4: a break first, last or after a break
unfoldable pub row4 : List ℕ → ℕ → List ℕ → Bool
row4 before b after = is_break b && (none before || (none after || first is_break before))

-- number 5: a stress mark not directly after a vowel
unfoldable pub row5 : List ℕ → ℕ → List ℕ → Bool
row5 before b after = is_mark b && not (first vowel_byte before)

-- number 6: a word begins with a sign
unfoldable pub row6 : List ℕ → ℕ → List ℕ → Bool
row6 before b after = sign_byte b && (none before || first is_break before)

-- number 7: a sign adjacent after a sign
unfoldable pub row7 : List ℕ → ℕ → List ℕ → Bool
row7 before b after = sign_byte b && first sign_byte (adjacent before)

-- number 8: a consonant adjacent after ъ
unfoldable pub row8 : List ℕ → ℕ → List ℕ → Bool
row8 before b after = consonant_byte b && first hard_sign_byte (adjacent before)

-- number 9: vowel, sign, vowel, all adjacent, at the last vowel
unfoldable pub row9 : List ℕ → ℕ → List ℕ → Bool
row9 before b after = vowel_byte b && vowel_sign (adjacent before)

-- number 10: the 65th letter of a word
unfoldable pub row10 : List ℕ → ℕ → List ℕ → Bool
row10 before b after = letter_byte b && eqb (letters_before before) word_max

-- a row of the table: its number and its test
pub data Row : Type 0 where
  ◌when◌ : ℕ → (List ℕ → ℕ → List ℕ → Bool) → Row

-- numbers 3 to 10, in the order in which they are given at one place
unfoldable pub rows : List Row
rows =
    (unknown_byte when row3) ∷ (misplaced_break when row4) ∷ (misplaced_mark when row5)
    ∷ (sign_first when row6) ∷ (sign_after_sign when row7) ∷ (consonant_after_hard_sign when row8)
    ∷ (vowel_sign_vowel when row9) ∷ (long_word when row10) ∷ []

-- the number of the first row that fits at a byte; 0 where none does
unfoldable pub first_fit : List Row → List ℕ → ℕ → List ℕ → ℕ
first_fit [] before b after = 0
first_fit ((n when test) ∷ rs) before b after = cond (test before b after) n (first_fit rs before b after)

unfoldable pub fault_at : List ℕ → ℕ → List ℕ → ℕ
fault_at before b after = first_fit rows before b after

abbrev pub refusal : ℕ → ℕ → Refusal
refusal n p = record { number = n; place = p }

-- rows 3 to 10 by smallest place, over a message's bytes after those that stand before; a place
-- counts the bytes before it
unfoldable pub scan : Checked → List ℕ → List ℕ → Checked
scan accepted before [] = accepted
scan accepted before (b ∷ after) =
    let n = fault_at before b after in
    cond (eqb n 0) (scan accepted (b ∷ before) after) (Err (refusal n (length before)))

-- The message check: number 1, no bytes; number 2, over 4,096 bytes; then 3 to 10. An accepted
-- message has as many codes and names as its letters and breaks make.
unfoldable pub check_of : List ℕ → Checked
check_of m =
    cond (eqb (length m) 0) (Err (refusal empty_message 0))
    (cond (leb (length m) message_max)
    (scan (Ok (record { codes = code_count m; names = name_count m })) [] m)
    (Err (refusal long_message 0)))

-- Which numbers fit where, one by one. Does number k of the rows fit at a byte?
unfoldable pub fits_in : List Row → ℕ → List ℕ → ℕ → List ℕ → Bool
fits_in [] k before b after = false
fits_in ((n when test) ∷ rs) k before b after = cond (eqb n k) (test before b after) (fits_in rs k before b after)

-- the bytes before place p, nearest first
unfoldable pub before_at : List ℕ → ℕ → List ℕ
before_at m zero = []
before_at m (suc p) = get_or m p 0 ∷ before_at m p

-- does the condition of number k, 1 to 10, hold at place p of a message?
unfoldable pub fits : List ℕ → ℕ → ℕ → Bool
fits m k p =
    cond (eqb k empty_message) (eqb p 0 && eqb (length m) 0)
    (cond (eqb k long_message) (eqb p 0 && not (leb (length m) message_max))
    (leb (suc p) (length m) && fits_in rows k (before_at m p) (get_or m p 0) (drop (suc p) m)))

-- the index of number k in a list of rows
unfoldable pub index_in : List Row → ℕ → ℕ
index_in [] k = 0
index_in ((n when test) ∷ rs) k = cond (eqb n k) 0 (suc (index_in rs k))

-- the order of the numbers at one place: 1, 2, then the rows as they stand in their list
unfoldable pub rank : ℕ → ℕ
rank k = cond (eqb k empty_message) 0 (cond (eqb k long_message) 1 (suc (suc (index_in rows k))))

-- none of numbers 1 to 10 fits a message anywhere
abbrev pub NoneFits : List ℕ → Type 0
NoneFits m = (k p : ℕ) → fits m k p ≡ false

-- number k at place q comes before number n at place p: 1 and 2 have place 0 and come first there;
-- then by the smallest place, at one place in the order of the table
abbrev pub Earlier : ℕ → ℕ → ℕ → ℕ → Type 0
Earlier k q n p = (q < p) ⊎ ((q ≡ p) × (rank k < rank n))

-- number n is given at place p: its condition holds there, and none earlier does
pub record Given (m : List ℕ) (n p : ℕ) : Type 0 where
  pub holds : fits m n p ≡ true
  pub first : (k q : ℕ) → Earlier k q n p → fits m k q ≡ false
