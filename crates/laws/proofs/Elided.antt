-- Only т and д are elided, and only before с н ч ц ш: none of these is a vowel or a sign or softens, so elision changes no syllable and no
-- softness.
use Rattle.laws.proofs.Kit.{ℕ, ◌≡◌, refl, sym, ◌∙◌, Bool, true, false, cond, and-false, false≢true, List, [], ◌∷◌, eqb, map}
use Rattle.spec.specs.Alphabet.{«д», «н», «с», «т», «ц», «ч», «ш»}
use Rattle.spec.specs.Letters.{Letter, first_byte, is_sign, is_vowel}
use Rattle.spec.specs.Elision.{elides_t, elides_d, elides, elide_from, elides_among}
use Rattle.spec.specs.Syllables.{Facts, level_of, next_stressed, syllable_of, names_from}
use Rattle.spec.specs.{Tables.among, Phones.softens, Phones.phones_of, Phones.phones_from}
use Rattle.laws.proofs.Classes.{among_same, among_none}
use Rattle.spec.proofs.Computed.{everything}

-- the letters that can be elided
abbrev pub silent : List ℕ
silent = «т» ∷ «д» ∷ []

-- the letters that can stand after an elided one
abbrev pub after_silent : List ℕ
after_silent = «с» ∷ «н» ∷ «ч» ∷ «ц» ∷ «ш» ∷ []

-- no other letter is elided
pub other_stays : (p b c d : ℕ) → among silent b ≡ false → elides_among p b c d ≡ false
unfolding elides_among among
other_stays p b c d e = rw (among_none silent b «т» e refl, among_none silent b «д» e refl)

-- no letter is elided but before с н ч ц ш
pub before_other : (p b c d : ℕ) → among after_silent c ≡ false → elides_among p b c d ≡ false
unfolding elides_among elides_t elides_d among
before_other p b c d e =
    let no = among_none after_silent c in
    simp (no «с» e refl, no «н» e refl, no «ч» e refl, no «ц» e refl, no «ш» e refl, and-false)

-- those letters stay
pub next_stays : (p : ℕ) (w : List Letter) → among after_silent (first_byte w) ≡ true → first_byte (elide_from p w) ≡ first_byte w
unfolding elide_from elides elides_among first_byte among
next_stays p [] h = refl
next_stays p (l ∷ w) h = rw (
  among_same (λ b. eqb b «т») (λ _. false) after_silent l.byte refl h,
  among_same (λ b. eqb b «д») (λ _. false) after_silent l.byte refl h,
)

-- a byte that is no vowel and no sign, and palatalizes nothing before it
pub record Plain (b : ℕ) : Type 0 where
  pub vowel : is_vowel b ≡ false
  pub sign : is_sign b ≡ false
  pub soft : softens b ≡ false

-- and so is each byte of a list of such
plain_in : (xs : List ℕ) (b : ℕ) → let all : (ℕ → Bool) → Type 0 = λ f. map f xs ≡ map (λ _. false) xs in
    all is_vowel → all is_sign → all softens → among xs b ≡ true → Plain b
plain_in xs b v s k h = record { vowel = among_same _ _ xs b v h; sign = among_same _ _ xs b s h; soft = among_same _ _ xs b k h }

-- т and д are so
pub silent_plain : (b : ℕ) → among silent b ≡ true → Plain b
unfolding everything
silent_plain b h = plain_in silent b refl refl refl h

-- с н ч ц ш are so
pub next_plain : (b : ℕ) → among after_silent b ≡ true → Plain b
unfolding everything
next_plain b h = plain_in after_silent b refl refl refl h

-- what fails where a test fails holds only where the test holds
pub only_where : (t x : Bool) → (t ≡ false → x ≡ false) → x ≡ true → t ≡ true
only_where true x f e = refl
only_where false x f e = sym (f refl) ∙ e

-- A letter goes or stays: what holds of the letters left where it is elided, and where it is not, holds. The letter that goes is plain, and
-- с н ч ц ш is left after it.
pub elide_cases : (P : Bool → List Letter → Type 0) (p : ℕ) (l : Letter) (w : List Letter)
    → (Plain l.byte → among after_silent (first_byte (elide_from l.byte w)) ≡ true → P true (elide_from l.byte w))
    → P false (l ∷ elide_from l.byte w) → P (elides p l.byte w) (elide_from p (l ∷ w))
unfolding elide_from elides
elide_cases P p l w gone stays = by (elides p l.byte w) refl
  where
    by : (t : Bool) → elides p l.byte w ≡ t → P t (cond t (elide_from l.byte w) (l ∷ elide_from l.byte w))
    by true e =
        let n = only_where (among after_silent (first_byte w)) _ (before_other p l.byte _ _) e in
        gone (silent_plain l.byte (only_where (among silent l.byte) _ (other_stays p l.byte _ _) e)) (rw (next_stays l.byte w n) n)
    by false e = stays

-- elision changes no softness of the letter before
pub soft_elide : (p : ℕ) (w : List Letter) → softens (first_byte (elide_from p w)) ≡ softens (first_byte w)
unfolding elide_from first_byte
soft_elide p [] = refl
soft_elide p (l ∷ w) = elide_cases (λ t v. softens (first_byte v) ≡ softens l.byte) p l w (λ g n. (next_plain _ n).soft ∙ sym g.soft) refl

-- nor whether the next syllable is stressed
pub stress_elide : (p : ℕ) (w : List Letter) → next_stressed (elide_from p w) ≡ next_stressed w
unfolding elide_from next_stressed
stress_elide p [] = refl
stress_elide p (l ∷ w) = elide_cases (λ t v. next_stressed v ≡ next_stressed (l ∷ w)) p l w (λ g n. rw (g.vowel, stress_elide l.byte w))
    (rw (stress_elide l.byte w))

-- so a syllable is the same before the letters left
pub syllable_elide : (facts : Facts) (p q : ℕ) (l : Letter) (w : List Letter)
    → syllable_of facts p l (elide_from q w) ≡ syllable_of facts p l w
unfolding syllable_of level_of
syllable_elide facts p q l w = rw (stress_elide q w)

-- the sounds of what is left after an elided letter do not depend on what stands before it
pub phones_free : (hard hard' : Bool) (facts : Facts) (p p' : ℕ) (v : List Letter) → among after_silent (first_byte v) ≡ true
    → phones_from hard facts p v ≡ phones_from hard' facts p' v
unfolding phones_from phones_of first_byte
phones_free hard hard' facts p p' [] h = refl
phones_free hard hard' facts p p' (l ∷ v) h = let k = next_plain l.byte h in rw (k.sign, k.vowel)

-- nor do its names
pub names_free : (facts : Facts) (p p' : ℕ) (v : List Letter) → among after_silent (first_byte v) ≡ true
    → names_from facts p v ≡ names_from facts p' v
unfolding names_from first_byte among
names_free facts p p' [] h = absurd (false≢true h)
names_free facts p p' (l ∷ v) h = rw (next_plain l.byte h).vowel

-- elision changes no name: the letter that goes is no vowel, and a consonant stands after it
pub names_elide : (facts : Facts) (p : ℕ) (w : List Letter) → names_from facts p (elide_from p w) ≡ names_from facts p w
unfolding elide_from names_from
names_elide facts p [] = refl
names_elide facts p (l ∷ w) =
    elide_cases (λ t v. names_from facts p v ≡ names_from facts p (l ∷ w)) p l w
    (λ g n. names_free facts p l.byte (elide_from l.byte w) n ∙ names_elide facts l.byte w ∙ rw g.vowel)
    (rw (names_elide facts l.byte w, syllable_elide facts p l.byte l w))
