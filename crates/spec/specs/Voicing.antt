-- Paper 01, pass 4, voice: an obstruent (the paper's noise letter) is voiced or voiceless by the
-- sound after it.
-- Assumes nothing: these are definitions.
use Rattle.std.specs.Prelude.{ℕ, Bool, false, cond, List, [], ◌∷◌}
use Rattle.spec.specs.Alphabet.{«б», «в», «г», «д», «ж», «з», «к», «п», «с», «т», «ф», «х»}
use Rattle.spec.specs.Alphabet.{«ц», «ч», «ш», «щ»}
use Rattle.spec.specs.Tables.{◌gives◌, entry}
use Rattle.spec.specs.Letters.{is_obstruent}
use Rattle.spec.specs.Codes.{Б, В, Г, Х1, Д, Ж, Ж', З, К, П, С, Т, Ф, Х, Ц, Ц1, Ч, Ч1, Ш, Щ}
use Rattle.spec.specs.Codes.{is_voicing, is_devoicing}
use Rattle.spec.specs.Phones.{Phone}

-- the pairs, voiced: х ц ч щ give Х1 Ц1 Ч1 Ж'
unfoldable pub voiced_code : ℕ → ℕ
voiced_code b =
    entry
    ((«б» gives Б) ∷ («п» gives Б) ∷ («в» gives В) ∷ («ф» gives В)
    ∷ («г» gives Г) ∷ («к» gives Г) ∷ («д» gives Д) ∷ («т» gives Д)
    ∷ («ж» gives Ж) ∷ («ш» gives Ж) ∷ («з» gives З) ∷ («с» gives З)
    ∷ («х» gives Х1) ∷ («ц» gives Ц1) ∷ («ч» gives Ч1) ∷ («щ» gives Ж') ∷ [])
    b

-- the pairs, voiceless: х ц ч щ are so as written
unfoldable pub voiceless_code : ℕ → ℕ
voiceless_code b =
    entry
    ((«б» gives П) ∷ («п» gives П) ∷ («в» gives Ф) ∷ («ф» gives Ф)
    ∷ («г» gives К) ∷ («к» gives К) ∷ («д» gives Т) ∷ («т» gives Т)
    ∷ («ж» gives Ш) ∷ («ш» gives Ш) ∷ («з» gives С) ∷ («с» gives С)
    ∷ («х» gives Х) ∷ («ц» gives Ц) ∷ («ч» gives Ч) ∷ («щ» gives Щ) ∷ [])
    b

-- what the sounds after it make of an obstruent
pub data Tone : Type 0 where
  voiced voiceless asWritten : Tone

-- do these sounds voice an obstruent before them? So it is within a word, over a gap, and at a live
-- joint.
unfoldable pub voices : List ℕ → Bool
voices [] = false
voices (c ∷ t) = is_voicing c

-- before the later sounds t of its word; with none, by whether the next word of the phrase voices
-- it
unfoldable pub tone_of : Bool → List ℕ → Tone
tone_of next [] = cond next voiced voiceless
tone_of next (c ∷ t) = cond (voices (c ∷ t)) voiced (cond (is_devoicing c) voiceless asWritten)

-- the code of an obstruent b that is c as written
unfoldable pub toned : Tone → ℕ → ℕ → ℕ
toned voiced b c = voiced_code b
toned voiceless b c = voiceless_code b
toned asWritten b c = c

-- the codes of sounds so far
abbrev pub codes_of : List Phone → List ℕ
codes_of [] = []
codes_of (x ∷ xs) = x.code ∷ codes_of xs

-- one sound before the finished sounds xs: only an obstruent changes
unfoldable pub voice_one : Bool → Phone → List Phone → Phone
voice_one next x xs =
    record { letter = x.letter; softened = x.softened; code = cond (is_obstruent x.letter) (toned (tone_of next (codes_of xs)) x.letter x.code) x.code }

-- pass 4, from right to left
unfoldable pub voice : Bool → List Phone → List Phone
voice next [] = []
voice next (x ∷ xs) = let rest = voice next xs in voice_one next x rest ∷ rest
