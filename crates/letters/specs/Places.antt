-- What stands beside a place of a message: the last letter of the word before it, what the byte
-- before tells of that letter, and the letters of the word from the place on. These are not the
-- paper's words: `proofs/` shows that they agree with them.
-- Assumes nothing: these are definitions.
use Rattle.std.specs.Prelude.{ℕ, zero, suc, ◌<◌, ◌≤◌, ◌≡◌, true, false, cond, List, ◌++◌, eqb}
use Rattle.std.specs.Prelude.{length, get_or, drop}
use Rattle.spec.specs.Numbers.{message_max}
use Rattle.spec.specs.Tables.{among}
use Rattle.spec.specs.Letters.{Letter, read, first_word, small, is_mark, is_break, begins_with_mark}
use Rattle.spec.specs.Letters.{hard_only, paired, soft_only, signs}
use Rattle.spec.specs.Vowels.{initial}
use Rattle.spec.specs.Refusals.{vowel_byte}
use Rattle.letters.specs.Classes.{class_of}

-- the last letter of the word before place i; 0 for none
unfoldable pub last_at : List ℕ → ℕ → ℕ
last_at m zero = 0
last_at m (suc i) =
    let b = get_or m i 0 in
    cond (is_break b) 0 (cond (is_mark b) (last_at m i) (small b))

-- the consonants and the signs
abbrev pub consonants_and_signs : List ℕ
consonants_and_signs = hard_only ++ paired ++ soft_only ++ signs

-- two letters, 0 for none, that are the same or neither a consonant nor a sign
pub record Alike (p q : ℕ) : Type 0 where
  pub each : (x : ℕ) → among consonants_and_signs x ≡ true → eqb p x ≡ eqb q x

-- What the byte p before a place tells of the letter q before it, 0 for none: whether there is one,
-- and which consonant or sign it is. The byte is that letter, small or capital, or a break where
-- there is none, or the mark of a vowel.
pub record ByteTells (p q : ℕ) : Type 0 where
  pub first : initial q ≡ is_break p
  pub letter : Alike q (small p)

-- the letters of the word from place i on
unfoldable pub word_at : List ℕ → ℕ → List Letter
word_at m i = first_word (read (drop i m))

-- the letter at place i
unfoldable pub letter_of : List ℕ → ℕ → Letter
letter_of m i = record { byte = small (get_or m i 0); stressed = begins_with_mark (drop (suc i) m) }

-- Steady: no more than 4,096 bytes, each below 256 and named, and a mark stands right after a
-- vowel. The check's acceptance gives it.
pub record Steady (m : List ℕ) : Type 0 where
  pub short : length m ≤ message_max
  pub bytes : (i : ℕ) → get_or m i 0 < 256
  pub named : (i : ℕ) → i < length m → class_of (get_or m i 0) ≡ 0 → ⊥
  pub marks : (i : ℕ) → suc i < length m → is_mark (get_or m (suc i) 0) ≡ true
      → vowel_byte (get_or m i 0) ≡ true
  pub first : is_mark (get_or m 0 0) ≡ false
