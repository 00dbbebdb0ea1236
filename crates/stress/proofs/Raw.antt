-- What the code reads off the byte before a place is what the left context of the place says: in a steady message the byte and its class
-- tell of the last letter of the word what is asked.
use Rattle.laws.proofs.Kit.{ℕ, zero, suc, ◌<◌, ◌≤◌, ◌≡◌, refl, sym, ◌∙◌, true, false, true≢false, cond, ◌||◌, List, [], ◌∷◌}
use Rattle.laws.proofs.Kit.{arith, eqb, length, get_or, eq-eqb, le-leb}
use Rattle.spec.specs.Alphabet.{pause, «ь»}
use Rattle.spec.specs.{Letters.between, Letters.is_break, Letters.is_consonant, Letters.is_sign, Letters.is_mark}
use Rattle.spec.specs.Syllables.{cover_after, incomplete, syllable_of}
use Rattle.spec.specs.Refusals.{sign_byte, consonant_byte}
use Rattle.letters.specs.Classes.{class_of, pause_class, is_break_class, is_sign_class, is_covering_class, is_vowel_class}
use Rattle.letters.specs.Classes.{mark_class, gap_class, hard_sign_class, soft_sign_class, plain_vowel_class, vowel_i_class, byte_before}
use Rattle.letters.specs.Places.{last_at, Steady}
use Rattle.letters.proofs.Bytes.{ByClass, by_class}
use Rattle.letters.proofs.{Before.classes_alike, Before.byte_tells, Computed.everything}
use Rattle.stress.specs.Before.{class_before, syllable_by}
use Rattle.stress.specs.Levels.{level_at}
use Rattle.stress.specs.Places.{syllable_at}

-- a number between two others
pub between_true : (lo hi c : ℕ) → lo ≤ c → c ≤ hi → between lo hi c ≡ true
between_true lo hi c h l = rw (le-leb lo c h, le-leb c hi l)

-- what is told by the class c of a byte
module _ {b c : ℕ} (h : b < 256) (e : c ≡ class_of b) where
  -- the highest classes are the vowels'
  pub vowel_class : plain_vowel_class ≤ c → is_vowel_class c ≡ true
  vowel_class l = between_true plain_vowel_class vowel_i_class c l (omega (arith, (by_class b h).class))

  -- and the lowest that a byte of an accepted message has, but for the mark's, are the breaks'
  pub break_class : (class_of b ≡ 0 → ⊥) → c < hard_sign_class → is_mark b ≡ false → is_break_class c ≡ true
  break_class n l k =
      let z : c ≡ 0 → ⊥ = λ z. n (sym e ∙ z) in
      let o : c ≡ mark_class → ⊥ = λ o. true≢false (sym ((by_class b h).mark ∙ eq-eqb (class_of b) mark_class (sym e ∙ o)) ∙ k) in
      between_true gap_class pause_class c (omega arith) (omega arith)

  -- so such a byte is a break
  pub break_byte : (class_of b ≡ 0 → ⊥) → c < hard_sign_class → is_mark b ≡ false → is_break b ≡ true
  break_byte n l k = (by_class b h).break ∙ (rw e at (break_class n l k))

-- a message begins as after a pause
pub start_class : (m : List ℕ) → class_before m 0 ≡ pause_class
unfolding everything byte_before
start_class m = refl

module _ (m : List ℕ) (steady : Steady m) where
  -- the byte before a place by its class
  pub before_class : (i : ℕ) → ByClass (byte_before m i)
  unfolding byte_before
  before_class zero = by_class pause (omega arith)
  before_class (suc i) = by_class (get_or m i 0) (steady.bytes i)

  -- what the class tells of the last letter of the word
  pub record ClassTells (i : ℕ) : Type 0 where
    pub covers : (is_consonant (last_at m i) || is_sign (last_at m i)) ≡ is_covering_class (class_before m i)
    pub sign : is_sign (last_at m i) ≡ is_sign_class (class_before m i)
    pub soft_sign : eqb (last_at m i) «ь» ≡ eqb (class_before m i) soft_sign_class

  pub class_tells : (i : ℕ) → i ≤ length m → ClassTells i
  unfolding sign_byte consonant_byte
  class_tells i h =
      let a = classes_alike (byte_tells m steady i h).letter in
      let c = before_class i in
      record { covers = rw (a.consonant, a.sign) c.covers; sign = a.sign ∙ c.sign; soft_sign = a.soft_sign ∙ c.soft_sign }

  -- whether a syllable is left incomplete after it
  pub incomplete_raw : (i : ℕ) → i ≤ length m → incomplete (last_at m i) ≡ cond (is_covering_class (class_before m i)) (7 ∷ []) []
  unfolding incomplete
  incomplete_raw i h = rw (class_tells i h).covers

  -- the syllable of the vowel at place i
  pub syllable_raw : (i : ℕ) → i < length m → syllable_at m i ≡ syllable_by (class_before m i) (level_at m i)
  unfolding syllable_of cover_after
  syllable_raw i h = rw (class_tells i (omega arith)).covers
