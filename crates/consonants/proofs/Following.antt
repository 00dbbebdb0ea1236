-- What follows a letter, as one record, agrees with the paper's words: what an obstruent becomes,
-- the first sound, and whether a word voices over a gap.
use Rattle.laws.proofs.Kit.{ℕ, ◌≡◌, refl, sym, ap, ◌∙◌, Bool, true, false, true≢false, ◌||◌, List, [], ◌∷◌, ◌++◌, map, eqb, ne_eqb}
use Rattle.laws.proofs.Classes.{cond_app, cond_same, either, among_same}
use Rattle.spec.specs.{Codes.А*, Codes.is_voicing, Tables.among, Letters.paired, Letters.is_paired, Phones.Phone, Voicing.voices}
use Rattle.spec.specs.{Voicing.tone_of}
use Rattle.spec.specs.Palatalization.{dental_before, nasal_before, own_before, is_soft, first_code}
use Rattle.spec.proofs.Computed.{everything}
use Rattle.consonants.specs.Following.{Following, vowel_sounds, acting, following_end, stepped, put_before, following, is_voiced}
use Rattle.consonants.specs.Following.{voices_over}

-- what an obstruent becomes
pub tone_following : (next : Bool) (t : List ℕ) → tone_of next t ≡ (following next t).tone
unfolding tone_of voices following_end stepped
tone_following next [] = refl
tone_following next (c ∷ t) = refl

-- how the first sound acts
code_following : (next : Bool) (t : List ℕ) → (following next t).code ≡ acting (first_code t)
unfolding first_code following_end stepped acting among
code_following next [] = refl
code_following next (c ∷ t) = refl

-- what the letter b goes by in pass 5, of the sound after it
abbrev soft_by : ℕ → ℕ → Bool
soft_by b c = dental_before b c || (nasal_before b c || own_before b c)

-- a vowel palatalizes no letter
vowel_hard : (b c : ℕ) → is_paired b ≡ true → among vowel_sounds c ≡ true → soft_by b c ≡ false
unfolding everything
vowel_hard b c h = among_same (soft_by b) (λ _. false) vowel_sounds c
    (among_same (λ x. map (soft_by x) vowel_sounds) (λ _. map (λ _. false) vowel_sounds) paired b refl h)

first_hard : (b : ℕ) → is_paired b ≡ true → soft_by b А* ≡ false
unfolding everything
first_hard b h = vowel_hard b А* h refl

-- so pass 5 goes by how the first sound acts
pub soft_following : (next : Bool) (t : List ℕ) (x : Phone) → is_soft x (following next t).code ≡ is_soft x (first_code t)
unfolding is_soft acting
soft_following next t x = rw (code_following next t) (either (is_paired x.letter)
    (λ p. rw p (either (among vowel_sounds (first_code t)) (λ v. rw (v, vowel_hard x.letter (first_code t) p v, first_hard x.letter p))
    (λ v. rw v)))
    (λ p. rw p))

-- no sound voices nothing
none_voices : is_voicing 0 ≡ false
unfolding everything
none_voices = refl

-- and a sound acts as one
acting_some : (c : ℕ) → (c ≡ 0 → ⊥) → eqb (acting c) 0 ≡ false
unfolding acting
acting_some c n = either (among vowel_sounds c) (λ v. rw v) (λ v. rw v (ne_eqb c 0 n))

-- whether a word that begins so voices what is before it over a gap
pub voices_following : (next : Bool) (t : List ℕ) → voices t ≡ voices_over (following next t)
unfolding voices following_end stepped voices_over is_voiced
voices_following next [] = refl
voices_following next (c ∷ t) =
    either (is_voicing c)
    (λ h. rw (h, acting_some c (λ e. true≢false (sym h ∙ ap is_voicing e ∙ none_voices))))
    (λ h. rw h (simp (cond_app is_voiced, cond_same)))

-- sounds are put before others one after the other
pub put_append : (cs t : List ℕ) (f : Following) → put_before (cs ++ t) f ≡ put_before cs (put_before t f)
put_append [] t f = refl
put_append (c ∷ cs) t f = ap (stepped c) (put_append cs t f)
