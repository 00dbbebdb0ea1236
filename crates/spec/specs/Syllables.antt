-- Paper 01, pass 2: the syllables of a word, and their names. The words here have been through pass
-- 1.
-- Assumes nothing: these are definitions.
use Rattle.std.specs.Prelude.{ℕ, Bool, false, cond, ◌||◌, not, List, [], ◌∷◌}
use Rattle.spec.specs.Letters.{between, Letter, is_vowel, is_consonant, is_sign}
use Rattle.spec.specs.declared.Cover.{Cover}
use Rattle.spec.specs.declared.Cover.TheVariants.{Bare, Covered}
use Rattle.spec.specs.declared.Level.{Level}
use Rattle.spec.specs.declared.Level.TheVariants.{Stressed, First, Second}
use Rattle.spec.specs.declared.Syllable.{Syllable}

-- a vowel stands alone in its syllable unless a consonant or a sign stands right before it in the
-- word; p is the letter before, 0 at the start
unfoldable pub cover_after : ℕ → Cover
cover_after p = cond (is_consonant p || is_sign p) Covered Bare

-- has the word a mark?
unfoldable pub has_mark : List Letter → Bool
has_mark [] = false
has_mark (l ∷ w) = l.stressed || has_mark w

-- is the next syllable, the one of the first vowel of w, level S?
unfoldable pub next_stressed : List Letter → Bool
next_stressed [] = false
next_stressed (l ∷ w) = cond (is_vowel l.byte) l.stressed (next_stressed w)

-- what the passes ask of a whole word, as it is written
pub record Facts : Type 0 where
  pub marked : Bool

abbrev pub facts_of : List Letter → Facts
facts_of w = record { marked = has_mark w }

-- the level of the vowel l before w: S, 1, 2 are Stressed, First, Second; where the word has no
-- mark there is no level 2
unfoldable pub level_of : Facts → Letter → List Letter → Level
level_of facts l w = cond l.stressed Stressed (cond (next_stressed w || not facts.marked) First Second)

-- the syllable that the vowel l ends, after p and before w
unfoldable pub syllable_of : Facts → ℕ → Letter → List Letter → Syllable
syllable_of facts p l w = record { cover = cover_after p; level = level_of facts l w }

-- syllable names 1 to 6, of a syllable with a vowel
unfoldable pub name_in : Cover → Level → ℕ
name_in Covered Stressed = 1
name_in Bare Stressed = 2
name_in Covered First = 3
name_in Bare First = 4
name_in Covered Second = 5
name_in Bare Second = 6

unfoldable pub name_of : Syllable → ℕ
name_of s = name_in s.cover s.level

-- name 7: letters are left after the last vowel, so the last letter, p, is a consonant or a sign
unfoldable pub incomplete : ℕ → List ℕ
incomplete p = cond (is_consonant p || is_sign p) (7 ∷ []) []

-- what can stand among the names
unfoldable pub is_name : ℕ → Bool
is_name n = between 1 7 n

-- the names of w, the rest of a word whose letter before is p
unfoldable pub names_from : Facts → ℕ → List Letter → List ℕ
names_from facts p [] = incomplete p
names_from facts p (l ∷ w) =
    let rest = names_from facts l.byte w in
    cond (is_vowel l.byte) (name_of (syllable_of facts p l w) ∷ rest) rest
