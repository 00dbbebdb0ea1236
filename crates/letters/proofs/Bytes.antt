-- What holds of every number below a bound is one computation, so a byte's tests go by its class.
use Rattle.laws.proofs.Kit.{ℕ, suc, ◌<◌, ◌≡◌, refl, Bool, true, false, ◌&&◌, ◌||◌, List, [], ◌∷◌, map, eqb, leb, leb-true, ne_eqb}
use Rattle.laws.proofs.Classes.{below, below_same}
use Rattle.spec.specs.Alphabet.{«д», «и», «о», «т», «ь»}
use Rattle.spec.specs.Letters.{small, is_mark, is_break, is_consonant}
use Rattle.spec.specs.Refusals.{vowel_byte, sign_byte, hard_sign_byte, consonant_byte, letter_byte}
use Rattle.spec.specs.{Tables.among, Vowels.iotated}
use Rattle.letters.specs.Classes.{class_of, class_count, is_break_class, is_sign_class, is_consonant_class, is_vowel_class, is_letter_class}
use Rattle.letters.specs.Classes.{is_covering_class, is_t_or_d}
use Rattle.letters.specs.Classes.{mark_class, hard_sign_class, soft_sign_class, t_or_d_class, vowel_o_class, iotated_class, vowel_i_class}
use Rattle.letters.proofs.Computed.{everything}

-- the tests of a byte
abbrev tests : ℕ → List Bool
tests b =
    is_mark b ∷ is_break b ∷ vowel_byte b ∷ sign_byte b ∷ hard_sign_byte b ∷ eqb (small b) «ь» ∷ consonant_byte b ∷ letter_byte b
    ∷ (consonant_byte b || sign_byte b) ∷ among («т» ∷ «д» ∷ []) (small b) ∷ is_t_or_d b ∷ eqb (small b) «о» ∷ among iotated (small b)
    ∷ eqb (small b) «и» ∷ true ∷ []

-- what its class says of them
abbrev class_tests : ℕ → List Bool
class_tests c =
    eqb c mark_class ∷ is_break_class c ∷ is_vowel_class c ∷ is_sign_class c ∷ eqb c hard_sign_class ∷ eqb c soft_sign_class ∷ is_consonant_class c
    ∷ is_letter_class c ∷ is_covering_class c ∷ eqb c t_or_d_class ∷ eqb c t_or_d_class ∷ eqb c vowel_o_class ∷ eqb c iotated_class
    ∷ eqb c vowel_i_class ∷ leb (suc c) class_count ∷ []

-- the two agree
tests_same : (b : ℕ) → b < 256 → tests b ≡ class_tests (class_of b)
unfolding everything
tests_same b h = below_same tests (λ x. class_tests (class_of x)) 256 b refl h

-- a byte is told by its class
pub record ByClass (b : ℕ) : Type 0 where
  pub mark : is_mark b ≡ eqb (class_of b) mark_class
  pub break : is_break b ≡ is_break_class (class_of b)
  pub vowel : vowel_byte b ≡ is_vowel_class (class_of b)
  pub sign : sign_byte b ≡ is_sign_class (class_of b)
  pub hard_sign : hard_sign_byte b ≡ eqb (class_of b) hard_sign_class
  pub soft_sign : eqb (small b) «ь» ≡ eqb (class_of b) soft_sign_class
  pub consonant : consonant_byte b ≡ is_consonant_class (class_of b)
  pub letter : letter_byte b ≡ is_letter_class (class_of b)
  pub covers : (consonant_byte b || sign_byte b) ≡ is_covering_class (class_of b)
  pub silent : among («т» ∷ «д» ∷ []) (small b) ≡ eqb (class_of b) t_or_d_class
  pub t_or_d : is_t_or_d b ≡ eqb (class_of b) t_or_d_class
  pub vowel_o : eqb (small b) «о» ≡ eqb (class_of b) vowel_o_class
  pub iotated_vowel : among iotated (small b) ≡ eqb (class_of b) iotated_class
  pub vowel_i : eqb (small b) «и» ≡ eqb (class_of b) vowel_i_class
  pub class : class_of b < class_count

-- every byte is
pub by_class : (b : ℕ) → b < 256 → ByClass b
by_class b h =
    let e = tests_same b h in
    record {
      mark = cc;
      break = cc;
      vowel = cc;
      sign = cc;
      hard_sign = cc;
      soft_sign = cc;
      consonant = cc;
      letter = cc;
      covers = cc;
      silent = cc;
      t_or_d = cc;
      vowel_o = cc;
      iotated_vowel = cc;
      vowel_i = cc;
      class = leb-true (suc (class_of b)) class_count (cc);
    }

-- two tests that no byte passes both
pub not_both : (f g : ℕ → Bool) (b : ℕ) → map (λ x. f x && g x) (below 256) ≡ map (λ _. false) (below 256) → b < 256 → f b ≡ true
    → g b ≡ false
not_both f g b t h e = rw e at (below_same (λ x. f x && g x) (λ _. false) 256 b t h)

-- a vowel is no break
pub vowel_break : (b : ℕ) → b < 256 → vowel_byte b ≡ true → is_break b ≡ false
unfolding everything
vowel_break b = not_both vowel_byte is_break b refl

-- a vowel is no mark
pub vowel_mark : (b : ℕ) → b < 256 → vowel_byte b ≡ true → is_mark b ≡ false
unfolding everything
vowel_mark b = not_both vowel_byte is_mark b refl

-- a consonant is no vowel
pub consonant_vowel : (b : ℕ) → b < 256 → is_consonant (small b) ≡ true → vowel_byte b ≡ false
unfolding everything
consonant_vowel b = not_both consonant_byte vowel_byte b refl

-- every byte is a break, a mark, unnamed or a letter
byte_named : (b : ℕ) → b < 256 → (is_break b || (is_mark b || (eqb (class_of b) 0 || is_letter_class (class_of b)))) ≡ true
unfolding everything
byte_named b h = below_same (λ x. is_break x || (is_mark x || (eqb (class_of x) 0 || is_letter_class (class_of x)))) (λ _. true) 256 b refl h

-- so a named byte that is no break and no mark is a letter
pub letter_class_lem : (b : ℕ) → b < 256 → is_break b ≡ false → is_mark b ≡ false → (class_of b ≡ 0 → ⊥) → is_letter_class (class_of b) ≡ true
letter_class_lem b h s k n = rw (s, k, ne_eqb (class_of b) 0 n) at (byte_named b h)
