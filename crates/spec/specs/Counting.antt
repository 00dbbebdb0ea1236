-- Paper 01: how many codes and names the letters and breaks of a message make, letter by letter, so
-- that the message check tells how much must be lent without asking which sounds they are. That
-- these are the lengths of the tape and of the naming is a law for every message (crate `laws`,
-- proofs/Counting.antt).
-- Assumes nothing: these are definitions.
use Rattle.std.specs.Prelude.{ℕ, suc, ◌+◌, cond, List, [], ◌∷◌, length}
use Rattle.spec.specs.Letters.{Letter, Message, last, more, read, is_sign, is_vowel}
use Rattle.spec.specs.Elision.{elides}
use Rattle.spec.specs.Syllables.{cover_after, incomplete}
use Rattle.spec.specs.Vowels.{glides}

-- Passes 3 and 4: the sounds of the letter b after the letter p as written, 0 for none. A sign
-- makes none, a vowel with a glide two, any other letter one.
unfoldable pub sound_count : ℕ → ℕ → ℕ
sound_count p b = cond (is_sign b) 0 (cond (glides p (cover_after p) b) 2 1)

-- Passes 1 and 3 to 5: the codes of w, the rest of a word whose letter before, as written, is p. A
-- silent letter makes none, and each sound is one code.
unfoldable pub codes_left : ℕ → List Letter → ℕ
codes_left p [] = 0
codes_left p (l ∷ w) =
    cond (elides p l.byte w) 0 (sound_count p l.byte) + codes_left l.byte w

-- Pass 2: its names. Each vowel has its syllable's, and an incomplete syllable has one at the end;
-- no silent letter is a vowel or the last of its word.
unfoldable pub names_left : ℕ → List Letter → ℕ
names_left p [] = length (incomplete p)
names_left p (l ∷ w) = cond (is_vowel l.byte) 1 0 + names_left l.byte w

-- the codes of a message after the letter p: a break has one, its mark
unfoldable pub code_count_from : ℕ → Message → ℕ
code_count_from p (last w) = codes_left p w
code_count_from p (more w x r) = codes_left p w + suc (code_count_from 0 r)

-- its names: a break has none
unfoldable pub name_count_from : ℕ → Message → ℕ
name_count_from p (last w) = names_left p w
name_count_from p (more w x r) = names_left p w + name_count_from 0 r

-- the codes and the names of a whole message, before which no letter stands
unfoldable pub code_count : List ℕ → ℕ
code_count m = code_count_from 0 (read m)

unfoldable pub name_count : List ℕ → ℕ
name_count m = name_count_from 0 (read m)
