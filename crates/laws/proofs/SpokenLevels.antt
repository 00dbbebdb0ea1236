-- Spoken levels: all words are of one table, so what holds of each of its rows holds of every word that is spoken; and of the three parts
-- of a number, thousands, hundreds and what is left, each is one computation over the few that there are.
use Rattle.laws.proofs.Kit.{ℕ, zero, suc, ◌+◌, ◌*◌, ◌/◌, ◌%◌, ◌<◌, ◌≤◌, ◌≡◌, refl, sym, ap, ◌∙◌, ◌↔◌, Bool, true, false, cond, ◌&&◌, ◌||◌}
use Rattle.laws.proofs.Kit.{not, and_parts, not-true, List, [], ◌∷◌, ◌++◌, append_assoc, append-nil, ⊎_elim, ◌-◌, arith, eqb, leb}
use Rattle.laws.proofs.Kit.{length, length-append, eqb-true, leb-true}
use lib.IntN.{ℤ, pos, negsuc, neg_ℤ}
use Rattle.spec.specs.SpokenLevels.{Row, ◌says◌, bytes, units, teens, tens, hundreds, feminine, word_in, thousand, thousands, below_hundred}
use Rattle.spec.specs.SpokenLevels.{number_words, level_words, after_gaps, spaced, marks_in, Each, spoken, InRange}
use Rattle.spec.specs.{Alphabet.gap, Letters.is_gap, Letters.is_break, Refusals.check_of, Refusals.NoneFits, Answers.checked_number}
use Rattle.spec.specs.Tables.{same}
use Rattle.spec.proofs.Computed.{everything}
use Rattle.laws.proofs.Classes.{cond_both, or-false, each_append, below_same}
use Rattle.laws.proofs.Accepted.{Passes, check_finds, given_range, passes_none}
use Rattle.laws.proofs.Phrases.{passes_join}

-- what follows from a claim follows for each
each_map : (Claim Other : List ℕ → Type 0) → ((w : List ℕ) → Claim w → Other w) → (words : List (List ℕ)) → Each Claim words
    → Each Other words
each_map Claim Other f [] p = tt
each_map Claim Other f (w ∷ words) p = (f w p.0, each_map Claim Other f words p.1)

-- does a word have a gap in it?
unfoldable has_gap : List ℕ → Bool
has_gap [] = false
has_gap (b ∷ w) = is_gap b || has_gap w

-- What is asked of a word of the table: accepted by itself, one mark, no gap.
unfoldable sound : List ℕ → Bool
sound w = eqb (checked_number (check_of w)) 0 && (eqb (marks_in w) 1 && not (has_gap w))

-- of a number's word too that it is not minus
abbrev minus : List ℕ
minus = bytes "ми*нус"

unfoldable sound_number : List ℕ → Bool
sound_number w = sound w && not (same w minus)

-- and of all rows
unfoldable sound_rows : List Row → Bool
sound_rows [] = true
sound_rows (k says w ∷ rows) = sound_number (bytes w) && sound_rows rows

-- So every word that is spoken is sound.
abbrev SoundNumber : List ℕ → Type 0
SoundNumber w = sound_number w ≡ true

word_sound : (rows : List Row) (n : ℕ) → sound_rows rows ≡ true → Each SoundNumber (word_in rows n)
unfolding sound_rows word_in
word_sound [] n e = tt
word_sound (k says w ∷ rows) n e =
    let b = and_parts (sound_number (bytes w)) (sound_rows rows) e in
    cond_both (Each SoundNumber) (eqb n k) (b.0, tt) (word_sound rows n b.1)

thousands_sound : (n : ℕ) → Each SoundNumber (thousands n)
unfolding everything checked_number sound sound_number sound_rows has_gap
thousands_sound n =
    let form : SoundNumber (thousand n) =
    cond_both SoundNumber (eqb n 1) {x = thousand 1} {y = cond (leb n 4) (thousand 2) (thousand 5)} refl
    (cond_both SoundNumber (leb n 4) {x = thousand 2} {y = thousand 5} refl refl) in
    cond_both (Each SoundNumber) (eqb n 0) tt (each_append SoundNumber (word_in feminine n) (thousand n ∷ []) (word_sound feminine n refl)
    (form, tt))

below_sound : (n : ℕ) → Each SoundNumber (below_hundred n)
unfolding everything checked_number sound sound_number sound_rows has_gap
below_sound n =
    cond_both (Each SoundNumber) (leb n 9) (word_sound units n refl)
    (cond_both (Each SoundNumber) (leb n 19) (word_sound teens n refl)
    (each_append SoundNumber (word_in tens (n / 10 * 10)) _ (word_sound tens (n / 10 * 10) refl) (word_sound units (n % 10) refl)))

number_sound : (n : ℕ) → Each SoundNumber (number_words n)
unfolding everything checked_number sound sound_number sound_rows has_gap
number_sound n =
    each_append SoundNumber (thousands (n / 1000)) _ (thousands_sound (n / 1000))
    (each_append SoundNumber (word_in hundreds (n % 1000 / 100 * 100)) _ (word_sound hundreds (n % 1000 / 100 * 100) refl)
    (below_sound (n % 100)))

-- What a word that is sound has.
record Sound (w : List ℕ) : Type 0 where
  passes : Passes w
  marked : marks_in w ≡ 1
  gapless : has_gap w ≡ false

sound_has : (w : List ℕ) → sound w ≡ true → Sound w
unfolding sound checked_number
sound_has w e =
    let a = and_parts (eqb (checked_number (check_of w)) 0) (eqb (marks_in w) 1 && not (has_gap w)) e in
    let b = and_parts (eqb (marks_in w) 1) (not (has_gap w)) a.1 in
    record {
      passes = ⊎_elim (λ f. f.1) (λ f. absurd (omega (
        arith,
        (given_range f.given).0,
        eqb-true (checked_number (check_of w)) 0 a.0,
        ap checked_number f.refused,
      ))) (check_finds w);
      marked = eqb-true _ _ b.0;
      gapless = not-true (has_gap w) b.1;
    }

number_has : (w : List ℕ) → SoundNumber w → Sound w
unfolding sound_number
number_has w e = sound_has w (and_parts (sound w) (not (same w minus)) e).0

level_sound : (level : ℤ) → Each Sound (level_words level)
unfolding everything checked_number sound has_gap
level_sound (pos zero) = (sound_has _ refl, tt)
level_sound (pos (suc n)) = each_map SoundNumber Sound number_has (number_words (suc n)) (number_sound (suc n))
level_sound (negsuc n) = (sound_has _ refl, each_map SoundNumber Sound number_has (number_words (suc n)) (number_sound (suc n)))

-- Every word has one stress mark.
pub level_marks : (level : ℤ) → Each (λ w. marks_in w ≡ 1) (level_words level)
level_marks level = each_map Sound (λ w. marks_in w ≡ 1) (λ w s. s.marked) (level_words level) (level_sound level)

-- Words with gaps between are a message, as each of them is.
gap_break : is_break gap ≡ true
unfolding everything
gap_break = refl

spaced_passes : (w : List ℕ) (words : List (List ℕ)) → Each Sound (w ∷ words) → length (spaced (w ∷ words)) ≤ 4096
    → Passes (spaced (w ∷ words))
unfolding spaced after_gaps
spaced_passes w [] e h = rw append-nil e.0.passes
spaced_passes w (v ∷ words) e h =
    passes_join gap (spaced (v ∷ words)) (spaced_passes v words e.1
    (omega (arith, length-append w (gap ∷ spaced (v ∷ words))))) gap_break w e.0.passes h

-- Words behind a gap each, one list of them after another.
pub gaps_append : (a b : List (List ℕ)) → after_gaps (a ++ b) ≡ after_gaps a ++ after_gaps b
unfolding after_gaps
gaps_append [] b = refl
gaps_append (w ∷ a) b = ap (λ x. gap ∷ x) (ap (λ x. w ++ x) (gaps_append a b) ∙ sym (append_assoc w (after_gaps a) (after_gaps b)))

gaps_length : (a b : List (List ℕ)) → length (after_gaps (a ++ b)) ≡ length (after_gaps a) + length (after_gaps b)
gaps_length a b = ap length (gaps_append a b) ∙ length-append (after_gaps a) (after_gaps b)

-- the longest of each part
thousands_size : (n : ℕ) → n < 10 → length (after_gaps (thousands n)) ≤ 16
unfolding everything
thousands_size n h = leb-true _ 16 (below_same (λ k. leb (length (after_gaps (thousands k))) 16) (λ _. true) 10 n refl h)

hundreds_size : (n : ℕ) → n < 10 → length (after_gaps (word_in hundreds (n * 100))) ≤ 11
unfolding everything
hundreds_size n h = leb-true _ 11 (below_same (λ k. leb (length (after_gaps (word_in hundreds (k * 100)))) 11) (λ _. true) 10 n refl h)

rest_size : (n : ℕ) → n < 100 → length (after_gaps (below_hundred n)) ≤ 21
unfolding everything
rest_size n h = leb-true _ 21 (below_same (λ k. leb (length (after_gaps (below_hundred k))) 21) (λ _. true) 100 n refl h)

number_size : (n : ℕ) → n ≤ 9999 → length (after_gaps (number_words n)) ≤ 48
unfolding number_words
number_size n h =
    omega (
      arith,
      gaps_length (thousands (n / 1000)) (word_in hundreds (n % 1000 / 100 * 100) ++ below_hundred (n % 100)),
      gaps_length (word_in hundreds (n % 1000 / 100 * 100)) (below_hundred (n % 100)),
      thousands_size (n / 1000) (omega arith),
      hundreds_size (n % 1000 / 100) (omega arith),
      rest_size (n % 100) (omega arith),
    )

-- between words there is one gap less
spaced_size : (words : List (List ℕ)) → length (spaced words) ≤ length (after_gaps words) - 1
unfolding spaced after_gaps
spaced_size [] = omega arith
spaced_size (w ∷ words) = omega arith

-- Every level's words have at most 54 bytes.
pub level_size : (level : ℤ) → InRange level → length (spoken level) ≤ 54
unfolding everything
level_size (pos zero) h = omega arith
level_size (pos (suc n)) h = omega (arith, spaced_size (number_words (suc n)), number_size (suc n) h)
level_size (negsuc n) h = omega (arith, spaced_size (level_words (negsuc n)), number_size (suc n) h)

-- Reading back. The number that a word of the table says:
unfoldable value_in : List Row → List ℕ → ℕ
value_in [] w = 0
value_in (k says v ∷ rows) w = cond (same w (bytes v)) k (value_in rows w)

abbrev value : List ℕ → ℕ
value w = value_in (feminine ++ (teens ++ (tens ++ hundreds))) w

-- is the word a form of the thousand?
unfoldable is_thousand : List ℕ → Bool
is_thousand w = same w (thousand 1) || (same w (thousand 2) || same w (thousand 5))

-- the number that words say behind a number: the thousand multiplies it, any other word is added
unfoldable heard_from : ℕ → List (List ℕ) → ℕ
heard_from n [] = n
heard_from n (w ∷ words) = heard_from (cond (is_thousand w) (n * 1000) (n + value w)) words

heard_append : (n : ℕ) (a b : List (List ℕ)) → heard_from n (a ++ b) ≡ heard_from (heard_from n a) b
unfolding heard_from
heard_append n [] b = refl
heard_append n (w ∷ a) b = heard_append (cond (is_thousand w) (n * 1000) (n + value w)) a b

-- words without the thousand say a sum
unfoldable sums : List (List ℕ) → ℕ → Bool
sums [] n = eqb n 0
sums (w ∷ words) n = not (is_thousand w) && (leb (value w) n && sums words (n - value w))

heard_sums : (k : ℕ) (words : List (List ℕ)) (n : ℕ) → sums words n ≡ true → heard_from k words ≡ k + n
unfolding heard_from sums
heard_sums k [] n e = omega (arith, eqb-true n 0 e)
heard_sums k (w ∷ words) n e =
    let a = and_parts (not (is_thousand w)) (leb (value w) n && sums words (n - value w)) e in
    let b = and_parts (leb (value w) n) (sums words (n - value w)) a.1 in
    rw (not-true (is_thousand w) a.0) (heard_sums (k + value w) words (n - value w) b.1 ∙ omega (arith, leb-true (value w) n b.0))

-- The three parts of a number say it.
thousands_heard : (n : ℕ) → n < 10 → heard_from 0 (thousands n) ≡ n * 1000
unfolding everything heard_from is_thousand value_in
thousands_heard n = below_same (λ k. heard_from 0 (thousands k)) (λ k. k * 1000) 10 n refl

hundreds_heard : (k n : ℕ) → n < 10 → heard_from k (word_in hundreds (n * 100)) ≡ k + n * 100
unfolding everything sums is_thousand value_in
hundreds_heard k n h = heard_sums k _ (n * 100) (below_same (λ j. sums (word_in hundreds (j * 100)) (j * 100)) (λ _. true) 10 n refl h)

rest_heard : (k n : ℕ) → n < 100 → heard_from k (below_hundred n) ≡ k + n
unfolding everything sums is_thousand value_in
rest_heard k n h = heard_sums k _ n (below_same (λ j. sums (below_hundred j) j) (λ _. true) 100 n refl h)

number_heard : (n : ℕ) → n ≤ 9999 → heard_from 0 (number_words n) ≡ n
unfolding number_words
number_heard n h =
    let t = thousands (n / 1000) in
    let d = word_in hundreds (n % 1000 / 100 * 100) in
    let r = below_hundred (n % 100) in
    heard_append 0 t (d ++ r) ∙ heard_append (heard_from 0 t) d r ∙ rest_heard (heard_from (heard_from 0 t) d) (n % 100) (omega arith)
    ∙ omega (arith, hundreds_heard (heard_from 0 t) (n % 1000 / 100) (omega arith), thousands_heard (n / 1000) (omega arith))

-- the level that words say
unfoldable heard : List (List ℕ) → ℤ
heard [] = pos 0
heard (w ∷ words) = cond (same w minus) (neg_ℤ (pos (heard_from 0 words))) (pos (heard_from 0 (w ∷ words)))

heard_number : (words : List (List ℕ)) → Each SoundNumber words → heard words ≡ pos (heard_from 0 words)
unfolding heard heard_from sound_number
heard_number [] e = refl
heard_number (w ∷ words) e = rw (not-true (same w minus) (and_parts (sound w) (not (same w minus)) e.0).1)

level_heard : (level : ℤ) → InRange level → heard (level_words level) ≡ level
unfolding everything heard heard_from is_thousand value_in
level_heard (pos zero) h = refl
level_heard (pos (suc n)) h = heard_number (number_words (suc n)) (number_sound (suc n)) ∙ ap pos (number_heard (suc n) h)
level_heard (negsuc n) h = rw (number_heard (suc n) h)

-- A message cut at its gaps.
unfoldable put_first : ℕ → List (List ℕ) → List (List ℕ)
put_first b [] = []
put_first b (w ∷ words) = (b ∷ w) ∷ words

unfoldable cut : List ℕ → List (List ℕ)
cut [] = [] ∷ []
cut (b ∷ m) = cond (is_gap b) ([] ∷ cut m) (put_first b (cut m))

cut_spaced : (words : List (List ℕ)) (w : List ℕ) → Each (λ v. has_gap v ≡ false) (w ∷ words) → cut (spaced (w ∷ words)) ≡ w ∷ words
unfolding cut put_first spaced after_gaps has_gap is_gap
cut_spaced [] [] e = refl
cut_spaced [] (b ∷ w) e = let o = or-false (is_gap b) (has_gap w) e.0 in rw (o.0, cut_spaced [] w (o.1, e.1))
cut_spaced (v ∷ words) [] e = rw (cut_spaced words v e.1)
cut_spaced (v ∷ words) (b ∷ w) e = let o = or-false (is_gap b) (has_gap w) e.0 in rw (o.0, cut_spaced (v ∷ words) w (o.1, e.1))

-- A level is read back from what is spoken,
level_back : (level : ℤ) → InRange level → heard (cut (spoken level)) ≡ level
unfolding everything cut heard heard_from is_thousand value_in
level_back level h = by (level_words level) (level_sound level) (level_heard level h)
  where
    by : (words : List (List ℕ)) → Each Sound words → heard words ≡ level → heard (cut (spaced words)) ≡ level
    by [] s e = e
    by (w ∷ words) s e = ap heard (cut_spaced words w (each_map Sound (λ v. has_gap v ≡ false) (λ v t. t.gapless) (w ∷ words) s)) ∙ e

-- so two levels have equal words exactly when they are equal.
pub level_equal : (level other : ℤ) → InRange level → InRange other → (spoken level ≡ spoken other) ↔ (level ≡ other)
level_equal level other h k = (λ e. sym (level_back level h) ∙ ap (λ m. heard (cut m)) e ∙ level_back other k, ap spoken)

-- Every level's words are an accepted message.
pub level_accepted : (level : ℤ) → InRange level → NoneFits (spoken level)
unfolding spoken level_words heard_from
level_accepted (pos zero) h = passes_none _ (spaced_passes _ [] (level_sound (pos zero)) (omega (arith, level_size (pos zero) h)))
level_accepted (pos (suc n)) h = by (number_words (suc n)) (level_sound (pos (suc n))) (number_heard (suc n) h) (level_size (pos (suc n)) h)
  where
    by : (words : List (List ℕ)) → Each Sound words → heard_from 0 words ≡ suc n → length (spaced words) ≤ 54 → NoneFits (spaced words)
    by [] s e l = absurd (omega (arith, e))
    by (w ∷ words) s e l = passes_none _ (spaced_passes w words s (omega arith))
level_accepted (negsuc n) h =
    passes_none _ (spaced_passes minus (number_words (suc n)) (level_sound (negsuc n)) (omega (arith, level_size (negsuc n) h)))
