-- A test has two outcomes, so what holds in both holds; and a class is a list of bytes, so what holds of all its letters is one computation
-- over that list, as what holds of all numbers below a bound is.
use Rattle.laws.proofs.Kit.{ℕ, zero, suc, ◌<◌, ◌≡◌, refl, sym, ap, ◌∙◌, Bool, true, false, cond, true≢false, false≢true}
use Rattle.laws.proofs.Kit.{List, [], ◌∷◌, ◌++◌, map, arith, eqb, eqb-true, eqb-false}
use Rattle.spec.specs.Letters.{is_break, is_mark, plain_vowels, softening_vowels, is_vowel, is_obstruent, is_paired}
use Rattle.spec.specs.Refusals.{vowel_byte, sign_byte, hard_sign_byte, consonant_byte}
use Rattle.spec.specs.{Tables.among, Alphabet.gap, Alphabet.pause, Codes.mark_of}
use Rattle.spec.proofs.Computed.{everything}
-- std's: a test that cannot hold fails, an or that fails fails twice, and a number is below another or not
pub use Rattle.std.proofs.lemmas.Bool.{false_from_ne_true as refuted, or_parts as or-false, cases_lt as below_or}
pub use Rattle.std.specs.List.{AllByRecursion as EachOf}

-- what holds of each choice by the test's outcome holds of what a test chooses
pub cond_by : {A : Type 0} (P : A → Type 0) (t : Bool) {x y : A} → (t ≡ true → P x) → (t ≡ false → P y) → P (cond t x y)
cond_by P true a b = a refl
cond_by P false a b = b refl

-- so does what holds of both
pub cond_both : {A : Type 0} (P : A → Type 0) (t : Bool) {x y : A} → P x → P y → P (cond t x y)
cond_both P t a b = cond_by P t (λ _. a) (λ _. b)

-- and what holds of both marks holds of a break's
pub mark_both : (P : ℕ → Type 0) (x : ℕ) → P 0 → P 63 → P (mark_of x)
unfolding mark_of
mark_both P x g p = cond_both P (eqb x pause) p g

-- a function of what a test chooses
pub cond_app : {A B : Type 0} (f : A → B) (t : Bool) (x y : A) → f (cond t x y) ≡ cond t (f x) (f y)
cond_app f true x y = refl
cond_app f false x y = refl

-- a test that chooses nothing
pub cond_same : {A : Type 0} (t : Bool) (x : A) → cond t x x ≡ x
cond_same true x = refl
cond_same false x = refl

-- what follows from either outcome of a test follows
pub either : {P : Type 0} (t : Bool) → (t ≡ true → P) → (t ≡ false → P) → P
either true f g = f refl
either false f g = g refl

-- two functions that agree on a list agree at each of its bytes
pub among_same : {A : Type 0} (f g : ℕ → A) (xs : List ℕ) (b : ℕ) → map f xs ≡ map g xs → among xs b ≡ true → f b ≡ g b
unfolding among
among_same f g [] b e h = absurd (false≢true h)
among_same f g (x ∷ xs) b e h = either (eqb b x) (λ d. rw (eqb-true b x d) (cc)) (λ d. among_same f g xs b (cc) (rw d at h))

-- what is claimed of two lists is claimed of both
pub each_append : {A : Type 0} (Claim : A → Type 0) (a b : List A) → EachOf Claim a → EachOf Claim b → EachOf Claim (a ++ b)
each_append Claim [] b p q = q
each_append Claim (x ∷ a) b p q = (p.0, each_append Claim a b p.1 q)

-- the numbers below n
abbrev pub below : ℕ → List ℕ
below zero = []
below (suc n) = n ∷ below n

-- two functions that agree on the numbers below n agree at each of them
pub below_same : {A : Type 0} (f g : ℕ → A) (n b : ℕ) → map f (below n) ≡ map g (below n) → b < n → f b ≡ g b
below_same f g zero b e h = absurd (omega arith)
below_same f g (suc n) b e h =
    either (eqb b n) (λ d. rw (eqb-true b n d) (cc)) (λ d. below_same f g n b (cc) (omega (arith, eqb-false b n d)))

-- two that agree on the bytes that pass a test agree at each of them
pub where_same : {A : Type 0} (t : ℕ → Bool) (f g : ℕ → A) (d : A) (b : ℕ)
    → map (λ x. cond (t x) (f x) d) (below 256) ≡ map (λ x. cond (t x) (g x) d) (below 256) → b < 256 → t b ≡ true → f b ≡ g b
where_same t f g d b e h k = rw k at (below_same (λ x. cond (t x) (f x) d) (λ x. cond (t x) (g x) d) 256 b e h)

-- so do two functions of two numbers
pub pairs_same : {A : Type 0} (f g : ℕ → ℕ → A) (n p k c : ℕ)
    → map (λ x. map (f x) (below p)) (below n) ≡ map (λ x. map (g x) (below p)) (below n)
    → k < n → c < p → f k c ≡ g k c
pairs_same f g n p k c e h l = below_same (f k) (g k) p c (below_same (λ x. map (f x) (below p)) (λ x. map (g x) (below p)) n k e h) l

-- a byte outside a list is none of its bytes
pub among_none : (xs : List ℕ) (b x : ℕ) → among xs b ≡ false → among xs x ≡ true → eqb b x ≡ false
among_none xs b x n h = refuted (eqb b x) (λ d. true≢false (sym h ∙ ap (among xs) (sym (eqb-true b x d)) ∙ n))

-- a vowel is no obstruent
pub vowel_quiet : (b : ℕ) → is_vowel b ≡ true → is_obstruent b ≡ false
unfolding everything
vowel_quiet b h = among_same is_obstruent (λ _. false) (plain_vowels ++ softening_vowels) b refl h

-- a vowel has no palatalized sound
pub vowel_single : (b : ℕ) → is_vowel b ≡ true → is_paired b ≡ false
unfolding everything
vowel_single b h = among_same is_paired (λ _. false) (plain_vowels ++ softening_vowels) b refl h

-- no break is of this class
abbrev pub NoBreak : (ℕ → Bool) → Type 0
NoBreak class = (d : ℕ) → is_break d ≡ true → class d ≡ false

-- what holds of the gap and the pause holds of a break
pub break_both : (P : ℕ → Type 0) → P gap → P pause → (d : ℕ) → is_break d ≡ true → P d
unfolding is_break
break_both P g p d e = either (eqb d gap) (λ q. rw (eqb-true d gap q) g) (λ q. rw (eqb-true d pause (rw q at e)) p)

-- a break is no mark
pub break_mark : NoBreak is_mark
unfolding everything
break_mark = break_both (λ d. is_mark d ≡ false) refl refl

-- no vowel
pub break_vowel : NoBreak vowel_byte
unfolding everything
break_vowel = break_both (λ d. vowel_byte d ≡ false) refl refl

-- no sign
pub break_sign : NoBreak sign_byte
unfolding everything
break_sign = break_both (λ d. sign_byte d ≡ false) refl refl

-- no ъ
pub break_hard_sign : NoBreak hard_sign_byte
unfolding everything
break_hard_sign = break_both (λ d. hard_sign_byte d ≡ false) refl refl

-- and no consonant
pub break_consonant : NoBreak consonant_byte
unfolding everything
break_consonant = break_both (λ d. consonant_byte d ≡ false) refl refl
