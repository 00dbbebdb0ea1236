-- Paper 01, what passes 3 to 5 go over: the sounds of a word's letters, each with its letter (the
-- field's phones).
-- Assumes nothing: these are definitions.
use Rattle.std.specs.Prelude.{ℕ, Bool, false, cond, ◌||◌, List, [], ◌∷◌, ◌++◌, eqb}
use Rattle.spec.specs.Alphabet.{«б», «в», «г», «д», «ж», «з», «й», «к», «л», «м», «н», «п»}
use Rattle.spec.specs.Alphabet.{«р», «с», «т», «ф», «х», «ц», «ч», «ш», «щ», «ь»}
use Rattle.spec.specs.Tables.{◌gives◌, entry}
use Rattle.spec.specs.Letters.{Letter, first_byte, is_sign, is_vowel, is_softening_vowel}
use Rattle.spec.specs.Codes.{Б, В, Г, Д, Ж, J, З, К, Л, М, Н, П, Р, С, Т, Ф, Х, Ц, Ч, Ш, Щ}
use Rattle.spec.specs.Syllables.{Facts, syllable_of}
use Rattle.spec.specs.Vowels.{vowel_sound, glides}
use Rattle.spec.specs.declared.Syllable.{Syllable}

-- What the passes know of a sound: its letter, whether the next letter palatalizes it (used in pass
-- 5), and its code so far.
pub record Phone : Type 0 where
  pub letter : ℕ
  pub softened : Bool
  pub code : ℕ

-- a consonant's sound as written
unfoldable pub written_code : ℕ → ℕ
written_code b =
    entry
    ((«б» gives Б) ∷ («в» gives В) ∷ («г» gives Г) ∷ («д» gives Д) ∷ («ж» gives Ж) ∷ («з» gives З)
    ∷ («й» gives J) ∷ («к» gives К) ∷ («л» gives Л) ∷ («м» gives М) ∷ («н» gives Н) ∷ («п» gives П)
    ∷ («р» gives Р) ∷ («с» gives С) ∷ («т» gives Т) ∷ («ф» gives Ф) ∷ («х» gives Х) ∷ («ц» gives Ц)
    ∷ («ч» gives Ч) ∷ («ш» gives Ш) ∷ («щ» gives Щ) ∷ [])
    b

-- pass 5, its first sentence: the next letter is ь or a softening vowel
unfoldable pub softens : ℕ → Bool
softens b = eqb b «ь» || is_softening_vowel b

unfoldable pub vowel_phones : Bool → ℕ → ℕ → Syllable → List Phone
vowel_phones hard p b s =
    let v : Phone = record { letter = b; softened = false; code = vowel_sound hard p s b } in
    cond (glides p s.cover b) (record { letter = b; softened = false; code = J } ∷ v ∷ [])
    (v ∷ [])

-- pass 4, its first sentence: a sign makes no sound, each other letter one, with J two
unfoldable pub phones_of : Bool → Facts → ℕ → Letter → List Letter → List Phone
phones_of hard facts p l w =
    cond (is_sign l.byte) []
    (cond (is_vowel l.byte) (vowel_phones hard p l.byte (syllable_of facts p l w))
    (record {
      letter = l.byte;
      softened = softens (first_byte w);
      code = written_code l.byte;
    } ∷ []))

-- Pass 3, over w, the rest of a word whose letter before is p. Only a word's first letter can have
-- a hard boundary before it.
unfoldable pub phones_from : Bool → Facts → ℕ → List Letter → List Phone
phones_from hard facts p [] = []
phones_from hard facts p (l ∷ w) = phones_of hard facts p l w ++ phones_from false facts l.byte w
