-- How the code finds a vowel's codes: by its byte, the byte before it and both their classes. These
-- are not the paper's words: `proofs/` shows that they agree with them.
-- Assumes nothing: these are definitions.
use Rattle.std.specs.Prelude.{ℕ, ◌-◌, ◌<◌, ◌≡◌, Bool, false, cond, ◌&&◌, ◌||◌, List, [], ◌∷◌, eqb}
use Rattle.std.specs.Prelude.{length, get_or, Option, None, Some}
use Rattle.spec.specs.Letters.{small, is_break}
use Rattle.spec.specs.Vowels.{hard_end, vowel_sound, bare, glides}
use Rattle.letters.specs.Classes.{gap_class, soft_sign_class, vowel_o_class, iotated_class}
use Rattle.letters.specs.Classes.{vowel_i_class}
use Rattle.letters.specs.Classes.{is_break_class, is_sign_class, class_of, byte_before}
use Rattle.spec.specs.declared.Cover.{Cover}
use Rattle.spec.specs.declared.Syllable.{Syllable}
use Rattle.stress.specs.Before.{class_before}
use Rattle.spec.specs.Codes.{J}
use Rattle.spec.specs.Editions.{code_in}
use Rattle.spec.specs.declared.Edition.{Edition}
use Rattle.letters.specs.Places.{last_at, Steady, ByteTells}
use Rattle.spec.specs.declared.Level.{Level}
use Rattle.stress.specs.Places.{syllable_at, hard_at}
use Rattle.stress.specs.Levels.{level_at}
use Rattle.vowels.specs.declared.Vowel.{Vowel}

-- the sounds of a vowel b after p
unfoldable pub vowel_codes : Bool → ℕ → ℕ → Syllable → List ℕ
vowel_codes hard p b s =
    let v = vowel_sound hard p s b in
    cond (glides p s.cover b) (J ∷ v ∷ []) (v ∷ [])

-- what is told of the letter q before, 0 for none: it is none, or the byte before is no break and
-- tells of it
abbrev pub Told : Option ℕ → ℕ → Type 0
Told None q = q ≡ 0
Told (Some p) q = (is_break p ≡ false) × ByteTells p q

-- r is what a row says of syllable s after every letter that is told of; where the row's line does
-- not ask for the boundary, hard is all one
abbrev pub ByRow : (Bool → ℕ → Syllable → ℕ) → Bool → Option ℕ → Syllable → ℕ → Type 0
ByRow row hard before s r = (q : ℕ) → Told before q → r ≡ row hard q s

-- r is its code in edition e
abbrev pub ByRowIn : Edition → (Bool → ℕ → Syllable → ℕ) → Bool → Option ℕ → Syllable → ℕ
    → Type 0
ByRowIn e row hard before s r = (q : ℕ) → Told before q → r ≡ code_in e (row hard q s)

-- the letter before place i
unfoldable pub letter_before : List ℕ → ℕ → Option ℕ
letter_before m i = cond (is_break_class (class_before m i)) None (Some (byte_before m i))

-- a hard boundary stands before place i: a gap is there, and the word before it ends hard, as its
-- last two bytes tell
unfoldable pub hard_before : List ℕ → ℕ → Bool
hard_before m i =
    eqb (class_before m i) gap_class
    && hard_end (small (byte_before m (i - 2))) (small (byte_before m (i - 1)))

-- r is the code in edition e of what a row says at place i
abbrev pub RowAt : Edition → (Bool → ℕ → Syllable → ℕ) → List ℕ → ℕ → Syllable → ℕ → Type 0
RowAt e row m i s r = ByRowIn e row (hard_before m i) (letter_before m i) s r

-- the row of the vowel b
abbrev pub row_of : ℕ → Bool → ℕ → Syllable → ℕ
row_of b hard q s = vowel_sound hard q s b

-- a vowel of class c has a glide after a byte of class k
abbrev pub glide_by : ℕ → Cover → ℕ → Bool
glide_by c cover k =
    (eqb c iotated_class && (bare cover || is_sign_class k))
    || ((eqb c vowel_i_class && is_sign_class k) || (eqb c vowel_o_class && eqb k soft_sign_class))

-- a vowel may be sung at place i: c is its class, and n the level of its syllable
pub record VowelAt (m : List ℕ) (i c : ℕ) (n : Level) : Type 0 where
  pub within : i < length m
  pub steady : Steady m
  pub class : c ≡ class_of (get_or m i 0)
  pub level : n ≡ level_at m i

-- v is what passes 2 and 3 make of the vowel at place i, in edition e
pub record Sung (e : Edition) (m : List ℕ) (i : ℕ) (v : Vowel) : Type 0 where
  pub code : v.code
      ≡ code_in e (vowel_sound (hard_at m i) (last_at m i) (syllable_at m i) (small (get_or m i 0)))
  pub glide : v.glide ≡ glides (last_at m i) (syllable_at m i).cover (small (get_or m i 0))

abbrev pub sung_codes : Vowel → List ℕ
sung_codes v = cond v.glide (J ∷ v.code ∷ []) (v.code ∷ [])
