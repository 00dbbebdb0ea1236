-- Paper 01, pass 3, with paper 02, requests 4 and 8: the hard boundary, the sounds of vowels, and
-- which have a glide. The words here have been through pass 1.
-- Assumes nothing: these are definitions.
use Rattle.std.specs.Prelude.{ℕ, Bool, true, false, cond, ◌&&◌, ◌||◌, List, [], ◌∷◌, eqb}
use Rattle.spec.specs.Alphabet.{«а», «е», «и», «о», «у», «ы», «ь», «э», «ю», «я», «ё»}
use Rattle.spec.specs.Tables.{among, ◌gives◌, entry}
use Rattle.spec.specs.Letters.{Letter, is_hard_only, is_paired, is_soft_only, is_sign}
use Rattle.spec.specs.Codes.{А*, О*, Э*, Ы*, И*, У*, А1, Э1, Ы1, И1, У1, А2, Э2, ИЭ}
use Rattle.spec.specs.declared.Cover.{Cover}
use Rattle.spec.specs.declared.Cover.TheVariants.{Bare, Covered}
use Rattle.spec.specs.declared.Level.{Level}
use Rattle.spec.specs.declared.Level.TheVariants.{Stressed, First, Second}
use Rattle.spec.specs.declared.Syllable.{Syllable}

-- the last letter of a word is p and the one before it is q: does the word end in T or P, or in ь
-- with T before it?
unfoldable pub hard_end : ℕ → ℕ → Bool
hard_end q p = is_hard_only p || (is_paired p || (eqb p «ь» && is_hard_only q))

unfoldable pub ends_hard_from : ℕ → ℕ → List Letter → Bool
ends_hard_from q p [] = hard_end q p
ends_hard_from q p (l ∷ w) = ends_hard_from p l.byte w

-- the word before a hard boundary (the paper's hard joint) ends so; 0 stands for no letter
unfoldable pub ends_hard : List Letter → Bool
ends_hard w = ends_hard_from 0 0 w

-- a row that has one sound for level S, and one for levels 1 and 2
unfoldable pub by_stress : Level → ℕ → ℕ → ℕ
by_stress Stressed s u = s
by_stress First s u = u
by_stress Second s u = u

-- a row that has one sound for each level
unfoldable pub by_level : Level → ℕ → ℕ → ℕ → ℕ
by_level Stressed s one two = s
by_level First s one two = one
by_level Second s one two = two

-- "initial": no letter of the word stands before
unfoldable pub initial : ℕ → Bool
initial p = eqb p 0

-- The vowel table, a row a vowel. p is the letter before ("after"); hard says that a hard boundary
-- stands right before this letter; s is the vowel's syllable. Where the paper's rows of а, е and я
-- have Э1 these have ИЭ, which edition 1 reads as Э1 and edition 2 as И1 (paper 02, request 8).
module _ (hard : Bool) (p : ℕ) (s : Syllable) where
  -- pass 3, row а: reduced one way after a soft-only consonant (class Q), and kept А1 where initial
  unfoldable pub rowА : ℕ
  rowА = by_level s.level А* (cond (is_soft_only p) ИЭ А1)
      (cond (initial p) А1 (cond (is_soft_only p) Э2 А2))

  -- pass 3, row о
  unfoldable pub rowО : ℕ
  rowО = by_level s.level О* А1 (cond (initial p) А1 (cond (is_soft_only p) Э2 А2))

  -- pass 3, row у, one sound for levels 1 and 2
  unfoldable pub rowУ : ℕ
  rowУ = by_stress s.level У* У1

  -- pass 3, row ы
  unfoldable pub rowЫ : ℕ
  rowЫ = by_stress s.level Ы* Ы1

  -- pass 3, row э: the stressed sound comes first, then the hard boundary
  unfoldable pub rowЭ : ℕ
  rowЭ = by_level s.level Э* (cond (initial p && hard) Ы1 Э1) (cond (initial p && hard) Ы1 Э2)

  -- pass 3, row е: after a hard-only consonant (class T) it is Ы1 or А2
  unfoldable pub rowЕ : ℕ
  rowЕ = by_level s.level Э* (cond (is_hard_only p) Ы1 ИЭ)
      (cond (initial p) ИЭ (cond (is_hard_only p) А2 Э2))

  -- pass 3, row ё: the same at every level
  unfoldable pub rowЁ : ℕ
  rowЁ = О*

  -- pass 3, row ю
  unfoldable pub rowЮ : ℕ
  rowЮ = by_stress s.level У* У1

  -- pass 3, row я
  unfoldable pub rowЯ : ℕ
  rowЯ = by_level s.level А* ИЭ (cond (initial p) ИЭ Э2)

  -- pass 3, row и: Ы after a hard-only consonant or behind a hard boundary
  unfoldable pub rowИ : ℕ
  rowИ = cond (is_hard_only p || (initial p && hard)) (by_stress s.level Ы* Ы1) (by_stress s.level И* И1)

  -- the row of the vowel b
  unfoldable pub vowel_sound : ℕ → ℕ
  unfolding rowА rowО rowУ rowЫ rowЭ rowЕ rowЁ rowЮ rowЯ rowИ
  vowel_sound b =
      entry
      ((«а» gives rowА) ∷ («о» gives rowО) ∷ («у» gives rowУ) ∷ («ы» gives rowЫ) ∷ («э» gives rowЭ)
      ∷ («е» gives rowЕ) ∷ («ё» gives rowЁ) ∷ («ю» gives rowЮ) ∷ («я» gives rowЯ) ∷ («и» gives rowИ) ∷ [])
      b

unfoldable pub bare : Cover → Bool
bare Bare = true
bare Covered = false

-- the iotated vowels, which the paper names first of those with J
abbrev pub iotated : List ℕ
iotated = «е» ∷ «ё» ∷ «ю» ∷ «я» ∷ []

-- Has the vowel b, after p, a glide (the paper's J) before its sound? е ё ю я have one in a bare
-- syllable, and they and и have one after a sign. о has one after ь (paper 02, request 4).
unfoldable pub glides : ℕ → Cover → ℕ → Bool
glides p cover b =
    (among iotated b && (bare cover || is_sign p))
    || ((eqb b «и» && is_sign p)
    || (eqb b «о» && eqb p «ь»))
