-- How the code finds a consonant's code: by one number for what stands right of it, and one table.
-- These are not the paper's words: `proofs/` shows that they agree with them.
-- Assumes nothing: these are definitions.
use Rattle.std.specs.Prelude.{ℕ, suc, ◌+◌, ◌*◌, ◌%◌, ◌<◌, ◌≡◌, Bool, true, cond, List, [], ◌∷◌}
use Rattle.std.specs.Prelude.{◌++◌, leb, length}
use Rattle.spec.specs.Refusals.{consonant_byte}
use Rattle.spec.specs.Tables.{among}
use Rattle.spec.specs.Codes.{А*, Б, Б', В', Г, Г', Х1, Х1', Д, Д', Ж, Ж', З, З', К, К', Л', М', Н'}
use Rattle.spec.specs.Codes.{П, П', Р', С, С', Т, Т', Ф, Ф', Х, Х', Ц, Ц1, Ч, Ч1, Ш, Щ, palatalized}
use Rattle.spec.specs.Voicing.{Tone, voiced, voiceless, asWritten, toned}
use Rattle.letters.specs.Classes.{tabulate}
use Rattle.spec.specs.Letters.{is_obstruent}
use Rattle.spec.specs.Phones.{written_code}
use Rattle.spec.specs.Palatalization.{is_soft}
use Rattle.consonants.specs.Following.{Following, following_by}

-- the code of a consonant b: soft says that the next letter palatalizes it, and f what follows it
unfoldable pub consonant_code : ℕ → Bool → Following → ℕ
consonant_code b soft f =
    let k = cond (is_obstruent b) (toned f.tone b (written_code b)) (written_code b) in
    cond (is_soft (record { letter = b; softened = soft; code = k }) f.code) (palatalized k) k

-- the number s tells that f follows, and whether the next letter palatalizes: then it is 64 more
pub record Tells (s : ℕ) (x : Bool) (f : Following) : Type 0 where
  pub low : s < 128
  pub soft : leb 64 s ≡ x
  pub follows : following_by (s % 64) ≡ f

-- the code of the consonant b before it
abbrev pub code_before : ℕ → ℕ → ℕ
code_before b s = consonant_code b (leb 64 s) (following_by (s % 64))

-- what a consonant's code is read from
pub record Heard (b s : ℕ) : Type 0 where
  pub letter : consonant_byte b ≡ true
  pub sound : s < 128

-- The sounds that act alike on every letter before them, a row of the table for each list: the
-- first six voice, those of the eighth to the fourteenth devoice, and any other leaves an obstruent
-- as it is written.
unfoldable pub alike : List (List ℕ)
alike =
    (Б ∷ Г ∷ Х1 ∷ Д ∷ Ж ∷ З ∷ Ц1 ∷ []) ∷ (Д' ∷ З' ∷ []) ∷ (Ч1 ∷ Ж' ∷ []) ∷ (Б' ∷ []) ∷ (Г' ∷ []) ∷ (Х1' ∷ [])
    ∷ (57 ∷ [])
    ∷ (0 ∷ К ∷ П ∷ С ∷ Т ∷ Ф ∷ Х ∷ Ц ∷ Ш ∷ []) ∷ (Т' ∷ С' ∷ []) ∷ (Ч ∷ Щ ∷ [])
    ∷ (П' ∷ []) ∷ (Ф' ∷ []) ∷ (К' ∷ []) ∷ (Х' ∷ [])
    ∷ (Н' ∷ []) ∷ (В' ∷ []) ∷ (Л' ∷ []) ∷ (М' ∷ []) ∷ (Р' ∷ []) ∷ []

-- which of the lists has the sound, or how many they are
unfoldable pub row_in : List (List ℕ) → ℕ → ℕ
row_in [] s = 0
row_in (x ∷ xs) s = cond (among x s) 0 (suc (row_in xs s))

-- after their rows there is one for any other sound, and then one for each tone: where the next
-- letter palatalizes only the tone matters
unfoldable pub soft_row : Tone → ℕ
soft_row voiced = length alike + 1
soft_row voiceless = length alike + 2
soft_row asWritten = length alike + 3

-- the number of a sound's row: where it begins, in fours, since a row has 28 codes
unfoldable pub sound_row : ℕ → ℕ
sound_row s = 7 * cond (leb 64 s) (soft_row (following_by (s % 64)).tone) (row_in alike s)

-- the codes of the letters а to ы before the sound s
unfoldable pub code_row : ℕ → List ℕ
code_row s = tabulate (λ j. code_before (224 + j) s) 0 28

-- before each row's first sound
unfoldable pub first_rows : List (List ℕ) → List ℕ
first_rows [] = code_row А* ++ (code_row (Б + 64) ++ (code_row 64 ++ code_row (А* + 64)))
first_rows ([] ∷ xs) = first_rows xs
first_rows ((s ∷ ss) ∷ xs) = code_row s ++ first_rows xs

-- the table: the rows, and the row of each sound
unfoldable pub sound_table : List ℕ
sound_table = first_rows alike ++ tabulate sound_row 0 128
