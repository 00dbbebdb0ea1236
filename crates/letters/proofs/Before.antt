-- What the byte before a place tells of the last letter of the word before it. Only a break and a mark are no letters, and a mark stands
-- right after a vowel; so of a consonant and a sign the byte tells which it is, and that there is none.
use Rattle.laws.proofs.Kit.{ℕ, zero, suc, ◌-◌, ◌<◌, ◌≤◌, ◌≡◌, refl, sym, ap, ◌∙◌, true, false, false≢true, List, [], ◌∷◌, ◌++◌, map}
use Rattle.laws.proofs.Kit.{arith, eqb, length, get_or, eqb-true}
use Rattle.spec.specs.Letters.{small, hard_only, paired, soft_only, signs, plain_vowels, softening_vowels, is_mark, is_break, is_vowel}
use Rattle.spec.specs.Letters.{is_sign}
use Rattle.spec.specs.Letters.{is_consonant}
use Rattle.spec.specs.Letters.{is_hard_only, is_paired, is_soft_only}
use Rattle.spec.specs.{Alphabet.mark, Alphabet.pause, Alphabet.«ь», Tables.among, Refusals.vowel_byte, Vowels.initial}
use Rattle.letters.specs.Classes.{class_of, is_letter_class, byte_before}
use Rattle.letters.specs.Places.{last_at, Steady, consonants_and_signs, Alike, ByteTells}
use Rattle.letters.proofs.Bytes.{not_both, vowel_break, vowel_mark, letter_class_lem}
use Rattle.letters.proofs.{Left.last_letter, Left.last_mark, Left.last_break, Computed.everything}
use Rattle.laws.proofs.Classes.{either, among_same, among_none, break_both}
use Rattle.std.proofs.lemmas.List.{get_or_past}

-- past the start, the byte before place i is the one at i - 1
pub before_at_lem : (m : List ℕ) (i : ℕ) → (i ≡ 0 → ⊥) → get_or m (i - 1) 0 ≡ byte_before m i
unfolding byte_before
before_at_lem m i h = let e : suc (i - 1) ≡ i = omega arith in ap (byte_before m) e

-- what the bytes beside a place are: that one, and 0 past the end
pub ruleset sides = (before_at_lem, get_or_past)

-- a letter is alike with itself
pub alike_same : (p : ℕ) → Alike p p
alike_same p = record { each = λ x h. refl }

-- two letters that are neither consonants nor signs are alike
alike_none : (p q : ℕ) → among consonants_and_signs p ≡ false → among consonants_and_signs q ≡ false → Alike p q
alike_none p q n o = record { each = λ x h. among_none consonants_and_signs p x n h ∙ sym (among_none consonants_and_signs q x o h) }

-- no letter and the byte of a break are alike
pub alike_break : (b : ℕ) → is_break b ≡ true → Alike 0 (small b)
unfolding everything
alike_break b s = alike_none 0 (small b) refl (break_both (λ x. among consonants_and_signs (small x) ≡ false) refl refl b s)

-- no class of consonants and signs tells alike letters apart
alike_among : {p q : ℕ} → Alike p q → (l : List ℕ) → map (among consonants_and_signs) l ≡ map (λ _. true) l → among l p ≡ among l q
unfolding among
alike_among a [] e = refl
alike_among a (x ∷ l) e = rw (a.each x (cc), alike_among a l (cc))

-- two letters that none of these classes tells apart
pub record ClassesAlike (p q : ℕ) : Type 0 where
  pub hard_only : is_hard_only p ≡ is_hard_only q
  pub paired : is_paired p ≡ is_paired q
  pub soft_only : is_soft_only p ≡ is_soft_only q
  pub consonant : is_consonant p ≡ is_consonant q
  pub sign : is_sign p ≡ is_sign q
  pub soft_sign : eqb p «ь» ≡ eqb q «ь»

-- alike letters are such
pub classes_alike : {p q : ℕ} → Alike p q → ClassesAlike p q
unfolding everything
classes_alike a = record {
  hard_only = alike_among a hard_only refl;
  paired = alike_among a paired refl;
  soft_only = alike_among a soft_only refl;
  consonant = alike_among a (hard_only ++ paired ++ soft_only) refl;
  sign = alike_among a signs refl;
  soft_sign = a.each «ь» refl;
}

-- a letter's byte is no 0
letter_there : (b : ℕ) → b < 256 → is_letter_class (class_of b) ≡ true → initial (small b) ≡ false
unfolding everything
letter_there b = not_both (λ x. is_letter_class (class_of x)) (λ x. initial (small x)) b refl

-- a mark tells of a vowel that a letter is there, and no more
mark_tells : (b q : ℕ) → is_mark b ≡ true → is_vowel q ≡ true → ByteTells b q
unfolding everything
mark_tells b q k v =
    let vowels = plain_vowels ++ softening_vowels in
    rw (eqb-true b mark k)
    (record {
      first = among_same initial (λ _. false) vowels q refl v;
      letter = alike_none q mark (among_same (among consonants_and_signs) (λ _. false) vowels q refl v) refl;
    })

module _ (m : List ℕ) (steady : Steady m) where
  -- the letter before a mark is a vowel
  vowel_before : (i : ℕ) → i < length m → is_mark (get_or m i 0) ≡ true → is_vowel (last_at m i) ≡ true
  unfolding vowel_byte
  vowel_before zero h k = absurd (false≢true (sym steady.first ∙ k))
  vowel_before (suc i) h k =
      let v = steady.marks i h k in
      let t = steady.bytes i in
      rw (last_letter m i (vowel_break _ t v) (vowel_mark _ t v)) v

  -- the byte before a place tells of the last letter of the word before it
  pub byte_tells : (i : ℕ) → i ≤ length m → ByteTells (byte_before m i) (last_at m i)
  unfolding last_at byte_before initial is_break
  byte_tells zero h = record { first = refl; letter = alike_break pause refl }
  byte_tells (suc i) h =
      let b = get_or m i 0 in
      let t = steady.bytes i in
      either (is_break b) (λ s. rw (last_break m i s) (record { first = sym s; letter = alike_break b s }))
      (λ s. either (is_mark b) (λ k. rw (last_mark m i k) (mark_tells b (last_at m i) k (vowel_before i h k)))
      (λ k. rw (last_letter m i s k)
      (record { first = letter_there b t (letter_class_lem b t s k (steady.named i h)) ∙ sym s; letter = alike_same (small b) })))
