-- All five passes of a word as one recursion over its letters as written, from the right: a letter's codes are settled by the letter before it,
-- the letters after it as written, and the finished codes after it. Equal to the passes one after the other, because elision changes nothing that
-- the letters around it go by (Elided.antt of crate `laws`), and palatalization does not change whether a sound voices or devoices the one
-- before it.
use Rattle.laws.proofs.Kit.{ℕ, ◌≡◌, refl, Bool, true, false, cond, List, [], ◌∷◌, ◌++◌}
use Rattle.spec.specs.Letters.{Letter, paired, first_byte, is_paired, is_sign, is_vowel, is_obstruent}
use Rattle.spec.specs.Vowels.{glides}
use Rattle.spec.specs.Phones.{Phone, written_code, softens, vowel_phones, phones_of, phones_from}
use Rattle.spec.specs.Voicing.{Tone, voiced, voiceless, asWritten, toned, codes_of, voice_one, voice}
use Rattle.spec.specs.{Codes.palatalized, Elision.elide_from, Elision.elide, Palatalization.is_soft, Palatalization.palatalize}
use Rattle.spec.specs.{Tape.word_tape}
use Rattle.spec.specs.Syllables.{Facts, facts_of, syllable_of}
use Rattle.consonants.specs.Sounds.{consonant_code}
use Rattle.vowels.specs.VowelSounds.{vowel_codes}
use Rattle.consonants.specs.Following.{Following, stepped, following}
use Rattle.consonants.proofs.Following.{tone_following, soft_following}
use Rattle.transcriber.specs.Fused.{letter_codes, fused_from}
use Rattle.laws.proofs.Classes.{cond_app, cond_same, either, among_same, vowel_quiet, vowel_single}
use Rattle.laws.proofs.Elided.{elide_cases, soft_elide, syllable_elide, phones_free}
use Rattle.spec.proofs.Computed.{everything}

-- the code of a consonant b after pass 4
abbrev spoken : Tone → ℕ → ℕ
spoken tone b = cond (is_obstruent b) (toned tone b (written_code b)) (written_code b)

-- what the sound c, before f, makes of an obstruent
abbrev made : Following → ℕ → Tone
made f c = (stepped c f).tone

-- a palatalized sound voices or devoices what its hard sound does
tone_kept : (f : Following) (tone : Tone) (b : ℕ) → is_paired b ≡ true → made f (palatalized (spoken tone b)) ≡ made f (spoken tone b)
unfolding everything stepped
tone_kept f voiced b h = among_same (λ x. made f (palatalized (spoken voiced x))) (λ x. made f (spoken voiced x)) paired b refl h
tone_kept f voiceless b h = among_same (λ x. made f (palatalized (spoken voiceless x))) (λ x. made f (spoken voiceless x)) paired b refl h
tone_kept f asWritten b h = among_same (λ x. made f (palatalized (spoken asWritten x))) (λ x. made f (spoken asWritten x)) paired b refl h

-- so a consonant's finished code voices or devoices what its code after pass 4 does
consonant_tone : (b : ℕ) (soft : Bool) (f : Following) → made f (spoken f.tone b) ≡ made f (consonant_code b soft f)
unfolding consonant_code is_soft
consonant_tone b soft f = either (is_paired b) (λ h. rw h (simp (cond_app (made f), tone_kept f f.tone b h, cond_same))) (λ h. rw h)

-- passes 4 and 5 make the codes t of the sounds xs, and for an obstruent before them t is as good as the sounds after pass 4
record Same (next : Bool) (xs : List Phone) (t : List ℕ) : Type 0 where
  codes : palatalize (voice next xs) ≡ t
  tone : (following next (codes_of (voice next xs))).tone ≡ (following next t).tone

-- so it is with a consonant's sound put before them
consonant_sound : (next : Bool) (b : ℕ) (soft : Bool) (xs : List Phone) (t : List ℕ) → Same next xs t
    → Same next (record { letter = b; softened = soft; code = written_code b } ∷ xs) (consonant_code b soft (following next t) ∷ t)
unfolding voice voice_one palatalize stepped consonant_code
consonant_sound next b soft xs t s = record {
  codes = rw (s.codes, tone_following, s.tone, ← soft_following next t);
  tone = rw (tone_following, s.tone) (consonant_tone b soft (following next t));
}

-- with a vowel's sound or glide, which both passes leave as it is
vowel_sound_lem : (next : Bool) (b c : ℕ) (xs : List Phone) (t : List ℕ) → is_vowel b ≡ true → Same next xs t
    → Same next (record { letter = b; softened = false; code = c } ∷ xs) (c ∷ t)
unfolding voice voice_one palatalize stepped is_soft
vowel_sound_lem next b c xs t h s = record { codes = rw (vowel_quiet b h, vowel_single b h, s.codes); tone = rw (vowel_quiet b h) }

-- with a choice of sounds
choose : (next b : Bool) (x y : List Phone) (c d : List ℕ) (xs : List Phone) (t : List ℕ)
    → (b ≡ true → Same next (x ++ xs) (c ++ t)) → (b ≡ false → Same next (y ++ xs) (d ++ t)) → Same next (cond b x y ++ xs) (cond b c d ++ t)
choose next true x y c d xs t f g = f refl
choose next false x y c d xs t f g = g refl

-- the codes of a letter that stays
abbrev kept_codes : Bool → Facts → ℕ → Letter → List Letter → Following → List ℕ
kept_codes hard facts p l w f =
    cond (is_sign l.byte) []
    (cond (is_vowel l.byte) (vowel_codes hard p l.byte (syllable_of facts p l w))
    (consonant_code l.byte (softens (first_byte w)) f ∷ []))

-- so with the sounds of a letter that stays
letter_sounds : (hard : Bool) (facts : Facts) (next : Bool) (p : ℕ) (l : Letter) (w : List Letter) (xs : List Phone) (t : List ℕ) → Same next xs t
    → Same next (phones_of hard facts p l w ++ xs) (kept_codes hard facts p l w (following next t) ++ t)
unfolding phones_of vowel_phones vowel_codes
letter_sounds hard facts next p l w xs t s =
    choose next (is_sign l.byte) _ _ _ _ xs t (λ _. s) (λ _. choose next (is_vowel l.byte) _ _ _ _ xs t
    (λ v. choose next (glides p (syllable_of facts p l w).cover l.byte) _ _ _ _ xs t (λ _. vowel_sound_lem _ _ _ _ _ v (vowel_sound_lem _ _ _ _ _ v s)) (λ _. vowel_sound_lem _ _ _ _ _ v s))
    (λ _. consonant_sound next l.byte (softens (first_byte w)) xs t s))

-- and so with the rest of a word after the letter p, elided or not
rest_fused : (hard : Bool) (facts : Facts) (next : Bool) (p : ℕ) (w : List Letter) → Same next (phones_from hard facts p (elide_from p w)) (fused_from hard facts next p w)
unfolding elide_from phones_from phones_of fused_from letter_codes voice palatalize
rest_fused hard facts next p [] = record { codes = refl; tone = refl }
rest_fused hard facts next p (l ∷ w) =
    let t = fused_from false facts next l.byte w in
    let s = rest_fused false facts next l.byte w in
    elide_cases (λ e v. Same next (phones_from hard facts p v) (cond e [] (kept_codes hard facts p l w (following next t)) ++ t)) p l w
    (λ g n. rw (phones_free hard false facts p l.byte (elide_from l.byte w) n) s)
    (rw (syllable_elide facts p l.byte l w, soft_elide l.byte w) (letter_sounds hard facts next p l w _ t s))

-- the five passes of a word are the one recursion
pub word_fused : (hard next : Bool) (w : List Letter) → word_tape hard next w ≡ fused_from hard (facts_of w) next 0 w
unfolding word_tape elide
word_fused hard next w = (rest_fused hard (facts_of w) next 0 w).codes
