-- What the codes at the two ends of a stretch tell of the bits that come from its neighbours: the last one is voiced just where the bit of
-- what follows voices an obstruent, and at the start и and э sound Ы just behind a hard boundary. Why: only pass 4's last step looks at
-- what follows, and only the first letter's row at what stands before.
use Rattle.laws.proofs.Kit.{ℕ, suc, ◌≡◌, refl, sym, ◌∙◌, Bool, true, false, cond, not, ◌&&◌, and-true, and-false, and_parts}
use Rattle.laws.proofs.Kit.{true≢false, List, [], ◌∷◌, ◌++◌, append_assoc, not-true}
use Rattle.spec.specs.Letters.{Letter, Message, last, more, first_byte, first_word, last_word, obstruents, is_obstruent, is_gap}
use Rattle.spec.specs.Vowels.{ends_hard}
use Rattle.spec.specs.Voicing.{voiced, voiceless, voiced_code, voiceless_code, tone_of, toned, voice_one, voice}
use Rattle.spec.specs.{Codes.mark_of, Phones.Phone, Palatalization.is_soft, Palatalization.first_code, Palatalization.palatalize}
use Rattle.spec.specs.{Tape.word_tape, Tape.segment, Joints.ends_in_obstruent, Joints.begins_with_i_or_e}
use Rattle.spec.proofs.Computed.{everything}
use Rattle.laws.proofs.Codes.{Spells, both, makes, fine, Fine, word_fine, soft_both}
use Rattle.laws.proofs.Word.{last_code_from, ends_toned, word_toned, word_starts}
use Rattle.laws.proofs.{Classes.mark_both, Classes.either, Classes.among_same, Stretch.last_append}
use Rattle.laws.specs.Beside.{is_voiced, is_high, is_i_or_e}

-- a test that has this answer
told : (r t : Bool) → cond r t (not t) ≡ true → t ≡ r
told true t e = e
told false t e = not-true t e

-- The code c of a letter b is a voiced obstruent's or not, and so is its palatalized one.
abbrev keeps : Bool → ℕ → ℕ → Bool
keeps r = both (λ c. cond r (is_voiced c) (not (is_voiced c)))

-- pass 5
soft_keeps : (r : Bool) (x : Phone) (n c : ℕ) → keeps r x.letter c ≡ true → is_voiced (cond (is_soft x n) (suc c) c) ≡ r
soft_keeps r x n c k = told r _ (soft_both (λ c. cond r (is_voiced c) (not (is_voiced c))) x n c k)

-- an obstruent at the end of a word, voiced or not
toned_keeps : (n : Bool) (b c : ℕ) → is_obstruent b ≡ true → keeps n b (toned (cond n voiced voiceless) b c) ≡ true
unfolding everything both
toned_keeps true b c h = among_same (λ x. keeps true x (voiced_code x)) (λ _. true) obstruents b refl h
toned_keeps false b c h = among_same (λ x. keeps false x (voiceless_code x)) (λ _. true) obstruents b refl h

-- passes 4 and 5: the last code is voiced just where the last sound is an obstruent's and what follows voices it
ends_voiced : (n : Bool) (d : ℕ) (xs : List Phone) → is_voiced d ≡ false → (ends_toned false xs ≡ false → Fine xs)
    → is_voiced (last_code_from d (palatalize (voice n xs))) ≡ (n && ends_toned false xs)
unfolding last_code_from palatalize voice voice_one tone_of ends_toned first_code fine
ends_voiced n d [] e f = rw and-false e
ends_voiced n d (x ∷ []) e f =
    either (is_obstruent x.letter) (λ q. rw (q, and-true) (soft_keeps n _ 0 _ (toned_keeps n x.letter x.code q)))
    (λ q. rw (q, and-false) (soft_keeps false _ 0 x.code
    (rw q at (and_parts (both (makes x.letter) x.letter x.code) _ (f q).0).1)))
ends_voiced n d (x ∷ y ∷ xs) e f = ends_voiced n 0 (y ∷ xs) refl (λ q. (f q).1)

-- So the last code of a word that ends in an obstruent tells what follows, whatever stands before.
pub word_ends_differ : (h h' : Bool) (w : List Letter) → ends_in_obstruent w ≡ true
    → last_code_from 0 (word_tape h true w) ≡ last_code_from 0 (word_tape h' false w) → ⊥
unfolding word_tape
word_ends_differ h h' w e q = true≢false (sym (told h true) ∙ rw q (told h' false))
  where
    told : (k n : Bool) → is_voiced (last_code_from 0 (word_tape k n w)) ≡ n
    told k n = let t = word_toned k w ∙ e in ends_voiced n 0 _ refl (λ f. absurd (true≢false (sym t ∙ f))) ∙ rw (t, and-true)

-- a break's mark is not voiced
pub mark_unvoiced : (x : ℕ) → is_voiced (mark_of x) ≡ false
mark_unvoiced x = mark_both (λ c. is_voiced c ≡ false) x refl refl

-- The last code of a stretch is voiced just where its last word ends in an obstruent and what follows voices it.
pub segment_ends : (h n : Bool) (d : ℕ) (r : Message) → is_voiced d ≡ false → Spells r
    → is_voiced (last_code_from d (segment h n r)) ≡ (n && ends_in_obstruent (last_word r))
unfolding segment last_word word_tape mark_of
segment_ends h n d (last w) e s = ends_voiced n d _ e (λ _. word_fine h w s) ∙ rw (word_toned h w)
segment_ends h n d (more w x r) e s = rw last_append (segment_ends (is_gap x && ends_hard w) n (mark_of x) r (mark_unvoiced x) s.1)

-- so it does at the start of a stretch
pub segment_starts : (h n : Bool) (r : Message) (u : List ℕ)
    → (is_high (first_code (segment h n r ++ u)) && is_i_or_e (first_byte (first_word r))) ≡ (h && begins_with_i_or_e (first_word r))
unfolding segment first_word
segment_starts h n (last w) u = word_starts h n w u
segment_starts h n (more w x r) u = rw append_assoc (word_starts h _ w _)
