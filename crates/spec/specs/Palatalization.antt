-- Paper 01, pass 5, softness: which letters of class P have their palatalized (soft) sound.
-- Assumes nothing: these are definitions.
use Rattle.std.specs.Prelude.{ℕ, Bool, cond, ◌&&◌, ◌||◌, not, List, [], ◌∷◌, eqb}
use Rattle.spec.specs.Alphabet.{«д», «з», «н», «с», «т»}
use Rattle.spec.specs.Tables.{among}
use Rattle.spec.specs.Letters.{is_paired, is_obstruent}
use Rattle.spec.specs.Codes.{Д', Ж', З', Н', С', Т', Ч, Ч1, Щ, palatalized}
use Rattle.spec.specs.Phones.{Phone, written_code}
use Rattle.spec.specs.Voicing.{voiced_code, voiceless_code}

-- т д с з н
abbrev pub dentals : List ℕ
dentals = «т» ∷ «д» ∷ «с» ∷ «з» ∷ «н» ∷ []

-- т д с з н before Т' Д' С' З' Н'
unfoldable pub dental_before : ℕ → ℕ → Bool
dental_before b c = among dentals b && among (Т' ∷ Д' ∷ С' ∷ З' ∷ Н' ∷ []) c

-- н before Ч Ч1 Щ Ж'
unfoldable pub nasal_before : ℕ → ℕ → Bool
nasal_before b c = eqb b «н» && among (Ч ∷ Ч1 ∷ Щ ∷ Ж' ∷ []) c

-- the other letters of class P: before the palatalized sound that they, or the letter of their
-- pair, would make themselves
unfoldable pub own_before : ℕ → ℕ → Bool
own_before b c =
    not (among dentals b)
    && (eqb c (palatalized (written_code b))
    || (is_obstruent b && (eqb c (palatalized (voiced_code b)) || eqb c (palatalized (voiceless_code b)))))

-- is the sound x palatalized before the sound c (0 where the word has no later sound)?
unfoldable pub is_soft : Phone → ℕ → Bool
is_soft x c =
    is_paired x.letter
    && (x.softened || (dental_before x.letter c || (nasal_before x.letter c || own_before x.letter c)))

-- the first code; 0, which is no sound, where there is none
unfoldable pub first_code : List ℕ → ℕ
first_code [] = 0
first_code (c ∷ t) = c

-- pass 5, from right to left
unfoldable pub palatalize : List Phone → List ℕ
palatalize [] = []
palatalize (x ∷ xs) =
    let rest = palatalize xs in
    cond (is_soft x (first_code rest)) (palatalized x.code) x.code ∷ rest
