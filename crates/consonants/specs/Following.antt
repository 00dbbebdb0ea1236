-- What the sounds right of a letter, in its word, do to it: one record, made from the right by one
-- step for each sound. These are not the paper's words: `proofs/Following.antt` shows that they
-- agree with them.
-- Assumes nothing: these are definitions.
use Rattle.std.specs.Prelude.{ℕ, Bool, true, false, cond, List, [], ◌∷◌, eqb}
use Rattle.spec.specs.Tables.{among}
use Rattle.spec.specs.Codes.{А*, О*, Э*, Ы*, И*, У*, А1, Э1, Ы1, И1, У1, А2, Э2, О, Е, ИЭ}
use Rattle.spec.specs.Codes.{is_voicing, is_devoicing}
use Rattle.spec.specs.Voicing.{Tone, voiced, voiceless, asWritten}

-- the sounds of vowels, in whatever edition they are read
abbrev pub vowel_sounds : List ℕ
vowel_sounds =
    А* ∷ О* ∷ Э* ∷ Ы* ∷ И* ∷ У* ∷ А1 ∷ Э1 ∷ Ы1 ∷ И1 ∷ У1 ∷ А2 ∷ Э2 ∷ О ∷ Е ∷ ИЭ ∷ []

-- they do nothing to the sound before them: the first stands for any
unfoldable pub acting : ℕ → ℕ
acting c = cond (among vowel_sounds c) А* c

-- what they make of an obstruent right before them, and how the first of them acts, 0 for none
pub record Following : Type 0 where
  pub tone : Tone
  pub code : ℕ

-- with no later sound in the word: the next word voices or does not
unfoldable pub following_end : Bool → Following
following_end next = record { tone = cond next voiced voiceless; code = 0 }

-- one more sound put before
unfoldable pub stepped : ℕ → Following → Following
stepped c f =
    let tone = cond (is_voicing c) voiced (cond (is_devoicing c) voiceless asWritten) in
    record { tone = tone; code = acting c }

-- sounds one after the other put before
abbrev pub put_before : List ℕ → Following → Following
put_before [] f = f
put_before (c ∷ cs) f = stepped c (put_before cs f)

-- the later sounds t of a word
abbrev pub following : Bool → List ℕ → Following
following next t = put_before t (following_end next)

-- do they voice an obstruent over a gap? It takes a sound to do so.
unfoldable pub is_voiced : Tone → Bool
is_voiced voiced = true
is_voiced voiceless = false
is_voiced asWritten = false

unfoldable pub voices_over : Following → Bool
voices_over f = cond (eqb f.code 0) false (is_voiced f.tone)

-- How the code says by one number what follows a letter: the code of the next sound of its word, or
-- 57 or 0 where it has none and the next word voices an obstruent or does not
unfoldable pub following_by : ℕ → Following
following_by n =
    cond (eqb n 57) (following_end true)
    (cond (eqb n 0) (following_end false) (stepped n (following_end false)))
