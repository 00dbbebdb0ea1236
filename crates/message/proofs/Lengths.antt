-- The counts of the check are those of the letters and breaks: each byte is counted as many codes and names as it adds to those of what
-- comes after it, told by its class and the kind before it.
use Rattle.laws.proofs.Kit.{ℕ, zero, suc, ◌+◌, ◌<◌, ◌≤◌, ◌≡◌, refl, sym, ◌∙◌, Bool, true, false, cond, ◌&&◌, ◌||◌, true≢false, List, []}
use Rattle.laws.proofs.Kit.{◌∷◌, arith, eqb, length, get_or, drop, eqb-true}
use Rattle.spec.specs.Letters.{Letter, Message, last, more, put_letter, read, first_word, small, is_mark, is_break, is_vowel, is_consonant}
use Rattle.spec.specs.Letters.{is_sign}
use Rattle.spec.specs.Syllables.{cover_after, incomplete}
use Rattle.spec.specs.Counting.{sound_count, codes_left, names_left, code_count_from, name_count_from, code_count, name_count}
use Rattle.spec.specs.Refusals.{vowel_byte, sign_byte}
use Rattle.spec.specs.{Alphabet.«ь», Elision.elides, Vowels.bare, Vowels.glides, declared.Cover.TheVariants.Bare}
use Rattle.spec.specs.{declared.Cover.TheVariants.Covered}
use Rattle.letters.specs.Classes.{mark_class, vowel_o_class, iotated_class, vowel_i_class}
use Rattle.letters.specs.Classes.{class_of, class_count, is_break_class, is_sign_class, is_consonant_class, is_letter_class}
use Rattle.message.specs.Steps.{is_sign_kind, is_soft_sign_kind, kind_at, width_in, width_at, codes_to, names_in, names_to, tail_names}
use Rattle.letters.specs.Places.{last_at, word_at, letter_of, Steady}
use Rattle.letters.proofs.Left.{read_letter, read_mark, read_break, read_end, last_letter, last_mark, last_break}
use Rattle.letters.proofs.Bytes.{by_class, letter_class_lem, vowel_mark}
use Rattle.letters.proofs.Silent.{elided_at_lem, class_spoken}
use Rattle.letters.proofs.Before.{classes_alike, byte_tells}
use Rattle.message.proofs.{Faults.kind_small, Faults.entry_at, Computed.everything}
use Rattle.laws.proofs.Classes.{cond_app, either, refuted, pairs_same, break_vowel}

-- how many sounds a letter makes: k, g and y say that a consonant, a sign or ь stands before it, s, e, i and o that it is a sign, one of
-- е ё ю я, и, or о
abbrev heard : Bool → Bool → Bool → Bool → Bool → Bool → Bool → ℕ
heard k g y s e i o = cond s 0 (cond ((e && (bare (cond (k || g) Covered Bare) || g)) || ((i && g) || (o && y))) 2 1)

-- the same by kind and class
abbrev heard_by : ℕ → ℕ → ℕ
heard_by k c =
    heard (is_consonant_class k) (is_sign_kind k) (is_soft_sign_kind k) (is_sign_class c) (eqb c iotated_class) (eqb c vowel_i_class) (eqb c vowel_o_class)

-- and as many are counted
heard_counted : (k c : ℕ) → k < 16 → c < class_count → is_letter_class c ≡ true → heard_by k c ≡ width_in k c
unfolding everything
heard_counted k c h l e =
    let made : ℕ → ℕ → ℕ = λ k c. cond (is_letter_class c) (heard_by k c) 0 in
    let counted : ℕ → ℕ → ℕ = λ k c. cond (is_letter_class c) (width_in k c) 0 in
    rw e (rw e at (pairs_same made counted 16 class_count k c refl h l))

-- a letter put before a message adds its codes
put_codes_lem : (p : ℕ) (l : Letter) (r : Message)
    → code_count_from p (put_letter l r) ≡ cond (elides p l.byte (first_word r)) 0 (sound_count p l.byte) + code_count_from l.byte r
unfolding code_count_from codes_left put_letter first_word
put_codes_lem p l (last w) = refl
put_codes_lem p l (more w x r) = omega arith

-- and a vowel one name
put_names : (p : ℕ) (l : Letter) (r : Message) → name_count_from p (put_letter l r) ≡ cond (is_vowel l.byte) 1 0 + name_count_from l.byte r
unfolding name_count_from names_left put_letter
put_names p l (last w) = refl
put_names p l (more w x r) = omega arith

-- the codes and the names that are counted from place i on
abbrev codes_from : List ℕ → ℕ → ℕ
codes_from m i = code_count_from (last_at m i) (read (drop i m))

abbrev names_from : List ℕ → ℕ → ℕ
names_from m i = name_count_from (last_at m i) (read (drop i m))

module _ (m : List ℕ) (steady : Steady m) where
  -- the kind tells of the last letter what is asked
  record Kind (i : ℕ) : Type 0 where
    pub consonant : is_consonant (last_at m i) ≡ is_consonant_class (kind_at m i)
    pub sign : is_sign (last_at m i) ≡ is_sign_kind (kind_at m i)
    pub soft_sign : eqb (last_at m i) «ь» ≡ is_soft_sign_kind (kind_at m i)

  -- it does
  kind_at_lem : (i : ℕ) → i ≤ length m → Kind i
  unfolding everything last_at
  kind_at_lem zero h = record { consonant = refl; sign = refl; soft_sign = refl }
  kind_at_lem (suc i) h =
      let b = by_class (get_or m i 0) (steady.bytes i) in
      let a = classes_alike (byte_tells m steady (suc i) h).letter in
      let e = entry_at m steady.bytes i in
      record {
        consonant = a.consonant ∙ b.consonant ∙ sym e.consonant;
        sign = a.sign ∙ b.sign ∙ sym e.sign;
        soft_sign = a.soft_sign ∙ b.soft_sign ∙ sym e.soft_sign;
      }

  -- a break is counted one code
  width_break : (i k : ℕ) → is_break (get_or m i 0) ≡ true → width_at m i k ≡ 1
  unfolding width_at width_in
  width_break i k b =
      let c : is_break_class (class_of (get_or m i 0)) ≡ true = sym (by_class (get_or m i 0) (steady.bytes i)).break ∙ b in
      rw (class_spoken m i (steady.bytes i) (λ e. true≢false (sym c ∙ rw e)), c)

  -- a mark none
  width_mark : (i k : ℕ) → is_mark (get_or m i 0) ≡ true → width_at m i k ≡ 0
  unfolding width_at width_in
  width_mark i k e =
      let c : class_of (get_or m i 0) ≡ mark_class = eqb-true _ _ (sym (by_class (get_or m i 0) (steady.bytes i)).mark ∙ e) in
      rw (class_spoken m i (steady.bytes i) (λ q. omega (arith, c, q)), c)

  -- a letter as many as it makes
  width_letter : (i : ℕ) → i < length m → is_break (get_or m i 0) ≡ false → is_mark (get_or m i 0) ≡ false
      → cond (elides (last_at m i) (small (get_or m i 0)) (word_at m (suc i))) 0 (sound_count (last_at m i) (small (get_or m i 0)))
      ≡ width_at m i (kind_at m i)
  unfolding sound_count glides cover_after width_at sign_byte
  width_letter i h b k =
      let t = steady.bytes i in
      let c = by_class (get_or m i 0) t in
      let l = letter_class_lem (get_or m i 0) t b k (steady.named i h) in
      let n = heard_counted (kind_at m i) (class_of (get_or m i 0)) (kind_small m steady.bytes i) c.class l in
      let a = kind_at_lem i (omega arith) in
      rw (elided_at_lem m steady i h b k, a.consonant, a.sign, a.soft_sign, c.sign, c.iotated_vowel, c.vowel_i, c.vowel_o, n)

  -- each byte is counted as many codes as it adds
  codes_step : (i : ℕ) → i < length m → codes_from m i ≡ width_at m i (kind_at m i) + codes_from m (suc i)
  unfolding code_count_from codes_left word_at letter_of
  codes_step i h = either (is_break (get_or m i 0))
      (λ s. rw (read_break m i h s, last_break m i s, width_break i (kind_at m i) s) (omega arith))
      (λ s. either (is_mark (get_or m i 0))
      (λ e. rw (read_mark m i h e, last_mark m i e, width_mark i (kind_at m i) e) (omega arith))
      (λ e. rw (read_letter m i h s e, last_letter m i s e, ← width_letter i h s e)
      (put_codes_lem (last_at m i) (letter_of m i) (read (drop (suc i) m)))))

  -- the codes of the bytes before a place and from it on are all
  codes_from_lem : (i : ℕ) → i ≤ length m → codes_to m i + codes_from m i ≡ code_count m
  unfolding codes_to code_count last_at
  codes_from_lem zero h = omega arith
  codes_from_lem (suc i) h = omega (arith, codes_step i h, codes_from_lem i (omega arith))

  -- so all bytes make the message's codes
  pub codes_all : codes_to m (length m) ≡ code_count m
  unfolding code_count_from codes_left
  codes_all = omega (arith, rw (read_end m) at (codes_from_lem (length m) (omega arith)))

  -- an incomplete syllable is counted where it is named
  names_tail : (i : ℕ) → i ≤ length m → length (incomplete (last_at m i)) ≡ tail_names (kind_at m i)
  unfolding incomplete tail_names
  names_tail i h =
      rw ((kind_at_lem i h).consonant, (kind_at_lem i h).sign)
      (cond_app length (is_consonant_class (kind_at m i) || is_sign_kind (kind_at m i)) (7 ∷ []) [])

  -- each byte is counted as many names as it adds
  names_step : (i : ℕ) → i < length m → names_from m i ≡ names_in (kind_at m i) (class_of (get_or m i 0)) + names_from m (suc i)
  unfolding names_in name_count_from names_left vowel_byte letter_of
  names_step i h =
      let t = steady.bytes i in
      rw (← (by_class (get_or m i 0) t).vowel, ← (by_class (get_or m i 0) t).break) (either (is_break (get_or m i 0))
      (λ s. rw (read_break m i h s, last_break m i s, break_vowel (get_or m i 0) s, s, ← names_tail i (omega arith)))
      (λ s. rw s (either (is_mark (get_or m i 0))
      (λ e.
      let n = refuted (vowel_byte (get_or m i 0)) (λ v. true≢false (sym e ∙ vowel_mark (get_or m i 0) t v)) in
      rw (read_mark m i h e, last_mark m i e, n) (omega arith))
      (λ e. rw (read_letter m i h s e, last_letter m i s e) (put_names (last_at m i) (letter_of m i) (read (drop (suc i) m)))))))

  -- the names of the bytes before a place and from it on are all
  names_from_lem : (i : ℕ) → i ≤ length m → names_to m i + names_from m i ≡ name_count m
  unfolding names_to name_count last_at
  names_from_lem zero h = omega arith
  names_from_lem (suc i) h = omega (arith, names_step i h, names_from_lem i (omega arith))

  -- so all bytes and the end make the message's names
  pub names_all : names_to m (length m) + tail_names (kind_at m (length m)) ≡ name_count m
  unfolding name_count_from names_left
  names_all = rw (read_end m, names_tail (length m) (omega arith)) at (names_from_lem (length m) (omega arith))
