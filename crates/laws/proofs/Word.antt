-- The tape of a word and the two bits that come from its neighbours: what each bit changes, for a word and a letter in general.
-- Why: pass 4 reads the bit of what follows only at the last sound, and pass 3 reads the bit of what stands before only at the first
-- letter, in the rows of э and и.
use Rattle.laws.proofs.Kit.{ℕ, suc, ◌≡◌, refl, sym, ap, subst, ◌∙◌, Bool, true, false, cond, not, ◌&&◌, ◌||◌, true≢false, and-true}
use Rattle.laws.proofs.Kit.{and-false, List, [], ◌∷◌, ◌++◌, append-nil, map, length, length-append, eqb, eqb-true}
use Rattle.spec.specs.Alphabet.{«и», «н», «с», «ц», «ч», «ш», «э»}
use Rattle.spec.specs.Letters.{Letter, first_byte, signs, is_sign, is_vowel, is_obstruent}
use Rattle.spec.specs.Elision.{elides_t, elides_d, elides, elide_from, elide, elides_among}
use Rattle.spec.specs.Syllables.{Facts, facts_of, next_stressed, level_of, syllable_of}
use Rattle.spec.specs.Vowels.{by_stress, by_level, glides, vowel_sound}
use Rattle.spec.specs.Phones.{Phone, softens, written_code, vowel_phones, phones_of, phones_from}
use Rattle.spec.specs.{Tables.among, Tables.entry, Codes.J, Voicing.tone_of, Voicing.voice_one, Voicing.voice, Palatalization.first_code}
use Rattle.spec.specs.{Palatalization.palatalize, Tape.word_tape, Joints.ends_in_obstruent, Joints.ends_in_obstruent_from}
use Rattle.spec.specs.{Joints.begins_with_i_or_e}
use Rattle.spec.proofs.Computed.{everything}
use Rattle.laws.proofs.Classes.{cond_app, cond_both, either, or-false, among_same}
use Rattle.laws.specs.Beside.{is_high, is_i_or_e}

-- the last code; d where there is none
unfoldable pub last_code_from : ℕ → List ℕ → ℕ
last_code_from d [] = d
last_code_from d (c ∷ t) = last_code_from c t

-- is the letter of the last sound an obstruent? d where there is none
unfoldable pub ends_toned : Bool → List Phone → Bool
ends_toned d [] = d
ends_toned d (x ∷ xs) = ends_toned (is_obstruent x.letter) xs

-- What holds of no sounds for a sign, of a vowel with and without its glide, and of a consonant, holds of a letter's sounds.
pub phones_cases : (P : List Phone → Type 0) (hard : Bool) (facts : Facts) (p : ℕ) (l : Letter) (w : List Letter)
    → (is_sign l.byte ≡ true → P [])
    → (is_vowel l.byte ≡ true → is_sign l.byte ≡ false
    → let v : Phone = record { letter = l.byte; softened = false; code = vowel_sound hard p (syllable_of facts p l w) l.byte } in
    P (record { letter = l.byte; softened = false; code = J } ∷ v ∷ []) × P (v ∷ []))
    → (is_vowel l.byte ≡ false → is_sign l.byte ≡ false
    → P (record { letter = l.byte; softened = softens (first_byte w); code = written_code l.byte } ∷ []))
    → P (phones_of hard facts p l w)
unfolding phones_of vowel_phones
phones_cases P hard facts p l w sign vowel consonant = either (is_sign l.byte) (λ s. rw s (sign s)) (λ s.
    rw s (either (is_vowel l.byte) (λ v. rw v (cond_both P (glides p (syllable_of facts p l w).cover l.byte) (vowel v s).0 (vowel v s).1))
    (λ v. rw v (consonant v s))))

-- pass 3: the last sound is of the last letter, signs passed over
pub phones_toned : (h : Bool) (m : Facts) (d : Bool) (p : ℕ) (w : List Letter)
    → ends_toned d (phones_from h m p w) ≡ ends_in_obstruent_from d w
unfolding phones_from ends_toned ends_in_obstruent_from
phones_toned h m d p [] = refl
phones_toned h m d p (l ∷ w) =
    let r = phones_from false m l.byte w in
    phones_cases (λ xs. ends_toned d (xs ++ r) ≡ ends_toned (cond (is_sign l.byte) d (is_obstruent l.byte)) r) h m p l w (λ s. rw s)
    (λ v s. (rw s, rw s)) (λ v s. rw s)
    ∙ phones_toned false m _ l.byte w

-- pass 3: a hard boundary changes no number of sounds
phones_length : (h h' : Bool) (m : Facts) (p : ℕ) (w : List Letter) → length (phones_from h m p w) ≡ length (phones_from h' m p w)
unfolding phones_from phones_of vowel_phones
phones_length h h' m p [] = refl
phones_length h h' m p (l ∷ w) = simp (length-append, cond_app (length {A = Phone}))

-- passes 4 and 5 give each sound one code
pub sounds_length : (n : Bool) (xs : List Phone) → length (palatalize (voice n xs)) ≡ length xs
unfolding palatalize voice
sounds_length n [] = refl
sounds_length n (x ∷ xs) = ap suc (sounds_length n xs)

-- pass 4: what follows the word changes nothing where the last sound is no obstruent's
pub voice_quiet : (n n' : Bool) (xs : List Phone) → ends_toned false xs ≡ false → voice n xs ≡ voice n' xs
unfolding ends_toned voice voice_one tone_of
voice_quiet n n' [] e = refl
voice_quiet n n' (x ∷ []) e = rw e
voice_quiet n n' (x ∷ y ∷ xs) e = ap (λ (r : List Phone). voice_one n x r ∷ r) (voice_quiet n n' (y ∷ xs) e)

-- a letter before a sign or at the end of a word is not elided
kept_before : (p b : ℕ) (w : List Letter) → among (0 ∷ signs) (first_byte w) ≡ true → elides p b w ≡ false
unfolding elides elides_among elides_t elides_d
kept_before p b w e = simp (other «н» refl, other «с» refl, other «ц» refl, other «ч» refl, other «ш» refl, and-false)
  where
    other : (c : ℕ) → map (λ x. eqb x c) (0 ∷ signs) ≡ map (λ _. false) (0 ∷ signs) → eqb (first_byte w) c ≡ false
    other c f = among_same (λ x. eqb x c) (λ _. false) (0 ∷ signs) (first_byte w) f e

-- so after an elided letter the last letter, signs passed over, is another
elided_ends : (p b : ℕ) (d d' : Bool) (w : List Letter) → elides p b w ≡ true → ends_in_obstruent_from d w ≡ ends_in_obstruent_from d' w
unfolding ends_in_obstruent_from first_byte among is_sign
elided_ends p b d d' [] e = absurd (true≢false (sym e ∙ kept_before p b [] refl))
elided_ends p b d d' (l ∷ w) e =
    either (is_sign l.byte) (λ q. absurd (true≢false
    (sym e ∙ kept_before p b (l ∷ w) (among_same (among (0 ∷ signs)) (λ _. true) signs l.byte refl q)))) (λ q. rw q)

-- pass 1 leaves the last letter, signs passed over
pub elide_ends : (d : Bool) (p : ℕ) (w : List Letter) → ends_in_obstruent_from d (elide_from p w) ≡ ends_in_obstruent_from d w
unfolding elide_from ends_in_obstruent_from
elide_ends d p [] = refl
elide_ends d p (l ∷ w) =
    either (elides p l.byte w) (λ q. rw q (elide_ends d l.byte w ∙ elided_ends p l.byte d _ w q))
    (λ q. rw q (elide_ends (cond (is_sign l.byte) d (is_obstruent l.byte)) l.byte w))

-- the last sound of a word is of its last letter, signs passed over
pub word_toned : (h : Bool) (w : List Letter) → ends_toned false (phones_from h (facts_of w) 0 (elide w)) ≡ ends_in_obstruent w
unfolding elide ends_in_obstruent
word_toned h w = phones_toned h (facts_of w) false 0 (elide_from 0 w) ∙ elide_ends false 0 w

-- a word's first letter is not elided
pub first_kept : (b : ℕ) (w : List Letter) → elides 0 b w ≡ false
unfolding elides elides_among elides_t elides_d
first_kept b w = simp and-false

-- pass 3: at the start of a word a hard boundary changes no vowel but и and unmarked э
vowel_firm : (h h' : Bool) (facts : Facts) (l : Letter) (w : List Letter)
    → (eqb l.byte «и» || (eqb l.byte «э» && not l.stressed)) ≡ false
    → vowel_sound h 0 (syllable_of facts 0 l w) l.byte ≡ vowel_sound h' 0 (syllable_of facts 0 l w) l.byte
unfolding syllable_of level_of vowel_sound by_stress by_level entry
vowel_firm h h' facts l w q =
    let e = or-false (eqb l.byte «и») _ q in
    either l.stressed (λ s. rw (s, e.0)) (λ s. rw (e.0, rw (s, and-true) at e.1))

-- at the start of a word и, and э where it is not stressed, sound Ы just behind a hard boundary
high_told : (h : Bool) (facts : Facts) (l : Letter) (w : List Letter)
    → let high : ℕ → Bool = λ b. is_high (vowel_sound h 0 (syllable_of facts 0 l w) b) && true in
    (high «и» ≡ (h && true)) × (high «э» ≡ (h && not l.stressed))
unfolding everything
high_told true facts l w =
    either l.stressed (λ s. rw s (refl, refl))
    (λ s. either (next_stressed w || not facts.marked) (λ t. rw (s, t) (refl, refl)) (λ t. rw (s, t) (refl, refl)))
high_told false facts l w =
    either l.stressed (λ s. rw s (refl, refl))
    (λ s. either (next_stressed w || not facts.marked) (λ t. rw (s, t) (refl, refl)) (λ t. rw (s, t) (refl, refl)))

-- At the start of a word that begins with one of them Ы tells the hard boundary.
pub word_starts : (h n : Bool) (w : List Letter) (u : List ℕ)
    → (is_high (first_code (word_tape h n w ++ u)) && is_i_or_e (first_byte w)) ≡ (h && begins_with_i_or_e w)
unfolding everything
word_starts h n [] u = simp and-false
word_starts h n (l ∷ w) u =
    let v : ℕ → Letter = λ b. record { byte = b; stressed = l.stressed } in
    let told : ℕ → Type 0 = λ b. (is_high (first_code (word_tape h n (v b ∷ w) ++ u)) && is_i_or_e b)
    ≡ (h && begins_with_i_or_e (v b ∷ w)) in
    either (eqb l.byte «и»)
    (λ q. subst told (sym (eqb-true l.byte «и» q)) (high_told h (facts_of (v «и» ∷ w)) (v «и») (elide_from «и» w)).0)
    (λ q. either (eqb l.byte «э»)
    (λ r. subst told (sym (eqb-true l.byte «э» r)) (high_told h (facts_of (v «э» ∷ w)) (v «э») (elide_from «э» w)).1)
    (λ r. rw (q, r) (simp and-false)))

-- the length depends on neither bit
pub word_length : (h h' n n' : Bool) (w : List Letter) → length (word_tape h n w) ≡ length (word_tape h' n' w)
unfolding word_tape
word_length h h' n n' w = sounds_length n _ ∙ phones_length h h' (facts_of w) 0 (elide w) ∙ sym (sounds_length n' _)

-- what follows changes nothing where the word ends in no obstruent, signs passed over
pub word_quiet : (h n n' : Bool) (w : List Letter) → ends_in_obstruent w ≡ false → word_tape h n w ≡ word_tape h n' w
unfolding word_tape
word_quiet h n n' w e = ap palatalize (voice_quiet n n' _ (word_toned h w ∙ e))

-- a hard boundary before the word changes nothing unless it begins with и or unmarked э
pub word_firm : (h h' n : Bool) (w : List Letter) → begins_with_i_or_e w ≡ false → word_tape h n w ≡ word_tape h' n w
unfolding word_tape begins_with_i_or_e elide elide_from phones_from phones_of vowel_phones
word_firm h h' n [] e = refl
word_firm h h' n (l ∷ w) e =
    rw (first_kept l.byte w, vowel_firm h h' (facts_of (l ∷ w)) l (elide_from l.byte w) e)

-- and else the first code differs, whatever follows
pub word_starts_differ : (n n' : Bool) (w : List Letter) → begins_with_i_or_e w ≡ true
    → first_code (word_tape true n w) ≡ first_code (word_tape false n' w) → ⊥
word_starts_differ n n' w e q = true≢false (sym (told true n) ∙ rw q (told false n'))
  where
    told : (h k : Bool) → (is_high (first_code (word_tape h k w)) && is_i_or_e (first_byte w)) ≡ h
    told h k = rw append-nil at (word_starts h k w []) ∙ rw (e, and-true)
