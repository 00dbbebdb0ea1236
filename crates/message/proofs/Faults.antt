-- The walk of the message check finds the paper's faults: a kind tells all that the rows ask of the bytes before, so a fault goes by kind
-- and class.
use Rattle.laws.proofs.Kit.{ℕ, zero, suc, ◌*◌, ◌<◌, ◌≤◌, ◌≡◌, refl, sym, ◌∙◌, ⊎_elim, Bool, true, false, cond, ◌&&◌, ◌||◌, not, and-false}
use Rattle.laws.proofs.Kit.{or_assoc, or_comm, false≢true, List, [], ◌∷◌, arith, eqb, length, get_or, drop, drop-cons, drop-length}
use Rattle.laws.proofs.Kit.{eqb-true}
use Rattle.laws.proofs.Kit.{ne_eqb}
use Rattle.spec.specs.Refusals.{vowel_byte, sign_byte, hard_sign_byte, first, none, adjacent, vowel_sign, letters_before, row3, row4, row5}
use Rattle.spec.specs.Refusals.{row6}
use Rattle.spec.specs.Refusals.{row7, row8, row9, row10, rows, first_fit, fault_at, before_at, refusal, check_of}
use Rattle.spec.specs.{Letters.is_mark, Letters.is_break, declared.Refusal.Refusal}
use Rattle.spec.specs.Numbers.{unknown_byte, misplaced_break, misplaced_mark, sign_first, sign_after_sign, consonant_after_hard_sign}
use Rattle.spec.specs.Numbers.{vowel_sign_vowel}
use Rattle.spec.specs.Numbers.{long_word, message_max, word_max}
use Rattle.letters.specs.Classes.{class_of, class_count, is_break_class, is_sign_class, is_consonant_class, is_vowel_class, is_letter_class}
use Rattle.letters.specs.Classes.{class_at}
use Rattle.letters.specs.Classes.{mark_class, hard_sign_class}
use Rattle.message.specs.Steps.{is_vowel_kind, is_hard_sign_kind, is_vowel_sign_kind, is_sign_kind, next_kind, fault_in, kind_at, codes_to}
use Rattle.message.specs.Steps.{names_to}
use Rattle.message.specs.Steps.{letters_at, fault_here}
use Rattle.laws.proofs.Accepted.{counts_of, ClearAt, fault_clear, first_refused, passes_accepted}
use Rattle.laws.proofs.Classes.{refuted, below_or, pairs_same}
use Rattle.letters.proofs.Bytes.{ByClass, by_class}
use Rattle.message.proofs.{StepTable.Entry, StepTable.entry_holds, StepTable.silent_asks, Computed.everything}
use Rattle.std.proofs.Common.{Ok, Err}

-- what the rows ask of the bytes before
abbrev asked : List ℕ → List Bool
asked before =
    (none before || first is_break before) ∷ first vowel_byte before ∷ first sign_byte (adjacent before) ∷ first hard_sign_byte (adjacent before) ∷ vowel_sign (adjacent before)
    ∷ first vowel_byte (adjacent before) ∷ []

-- what a kind answers
abbrev answers : ℕ → List Bool
answers k = is_break_class k ∷ is_vowel_class k ∷ is_sign_kind k ∷ is_hard_sign_kind k ∷ is_vowel_sign_kind k ∷ is_vowel_kind k ∷ []

-- what the next kind answers after a byte of class c, by that class and the kind before; a mark, told by t, is passed over
abbrev after : Bool → ℕ → ℕ → List Bool
after t k c =
    is_break_class c ∷ is_vowel_class c ∷ cond t (is_sign_kind k) (is_sign_class c) ∷ cond t (is_hard_sign_kind k) (eqb c hard_sign_class)
    ∷ cond t (is_vowel_sign_kind k) (is_sign_class c && is_vowel_kind k)
    ∷ cond t (is_vowel_class k) (is_vowel_class c) ∷ []

-- it does, where there is no fault
next_answers : (k c : ℕ) → k < 16 → c < class_count → fault_in k c ≡ 0 → after (eqb c mark_class) k c ≡ answers (next_kind k c)
unfolding everything
next_answers k c h l e =
    rw e at (pairs_same (λ k c. cond (eqb (fault_in k c) 0) (after (eqb c mark_class) k c) [])
    (λ k c. cond (eqb (fault_in k c) 0) (answers (next_kind k c)) []) 16 class_count k c refl h l)

-- a vowel right before is no mark, so it is the adjacent letter
vowel_adjacent : (before : List ℕ) → first vowel_byte before ≡ true → adjacent before ≡ before
unfolding everything
vowel_adjacent [] e = refl
vowel_adjacent (b ∷ before) e = rw (refuted (is_mark b) (λ d. false≢true (rw (eqb-true b 42 d) at e)))

-- the kind goes on telling what the rows ask, over a byte without a fault
told_more : (before : List ℕ) (k b : ℕ) → k < 16 → ByClass b → asked before ≡ answers k → fault_in k (class_of b) ≡ 0
    → asked (b ∷ before) ≡ answers (next_kind k (class_of b))
unfolding none first adjacent vowel_sign next_kind
told_more before k b h c t f = by (is_mark b) refl (rw (← c.mark) at (next_answers k (class_of b) h c.class f))
  where
    by : (u : Bool) → is_mark b ≡ u → after u k (class_of b) ≡ answers (next_kind k (class_of b))
        → asked (b ∷ before) ≡ answers (next_kind k (class_of b))
    by true d n =
        let e : class_of b ≡ mark_class = eqb-true (class_of b) mark_class (sym c.mark ∙ d) in
        let w : is_vowel_kind (next_kind k (class_of b)) ≡ true = rw e in
        let v : first vowel_byte before ≡ true = cc in
        let a = rw (vowel_adjacent before v) at t in
        rw d (cc)
    by false d n = rw d (cc)

-- the rows by kind and class: last, nothing stands after; full, the word has 64 letters
abbrev fault_by : Bool → Bool → ℕ → ℕ → ℕ
fault_by last full k c =
    cond (not (is_letter_class c || (eqb c mark_class || is_break_class c))) unknown_byte
    (cond (is_break_class c && (last || is_break_class k)) misplaced_break
    (cond (eqb c mark_class && not (is_vowel_class k)) misplaced_mark
    (cond (is_sign_class c && is_break_class k) sign_first
    (cond (is_sign_class c && is_sign_kind k) sign_after_sign
    (cond (is_consonant_class c && is_hard_sign_kind k) consonant_after_hard_sign
    (cond (is_vowel_class c && is_vowel_sign_kind k) vowel_sign_vowel
    (cond (is_letter_class c && full) long_word 0)))))))

-- the walk's fault; then the 65th letter; then a break last
abbrev fault_of : Bool → Bool → ℕ → ℕ → ℕ
fault_of last full k c =
    let f = cond (eqb (fault_in k c) 0) (cond (is_letter_class c && full) long_word 0) (fault_in k c) in
    cond (eqb f 0) (cond (is_break_class c && last) misplaced_break 0) f

-- the two agree
fault_same : (last full : Bool) (k c : ℕ) → k < 16 → c < class_count → fault_by last full k c ≡ fault_of last full k c
unfolding everything
fault_same true true k c h l = pairs_same (fault_by true true) (fault_of true true) 16 class_count k c refl h l
fault_same true false k c h l = pairs_same (fault_by true false) (fault_of true false) 16 class_count k c refl h l
fault_same false true k c h l = pairs_same (fault_by false true) (fault_of false true) 16 class_count k c refl h l
fault_same false false k c h l = pairs_same (fault_by false false) (fault_of false false) 16 class_count k c refl h l

-- a byte without a fault here has no number of the table of steps, and is no 65th letter
pub here_clear : (m : List ℕ) (i : ℕ) → fault_here m i ≡ 0
    → (fault_in (kind_at m i) (class_of (get_or m i 0)) ≡ 0) × ((is_letter_class (class_of (get_or m i 0)) && eqb (letters_at m i) word_max) ≡ false)
unfolding fault_here
here_clear m i e = by (fault_in (kind_at m i) (class_of (get_or m i 0))) (is_letter_class (class_of (get_or m i 0)) && eqb (letters_at m i) word_max) e
  where
    by : (f : ℕ) (u : Bool) → cond (eqb f 0) (cond u long_word 0) f ≡ 0 → (f ≡ 0) × (u ≡ false)
    by zero true z = absurd (omega arith)
    by zero false z = (refl, refl)
    by (suc f) u z = absurd (omega (arith, rw (ne_eqb (suc f) 0 (λ q. omega arith)) at z))

module _ (m : List ℕ) (bytes : (j : ℕ) → get_or m j 0 < 256) where
  -- every kind has its row in the table
  pub kind_small : (i : ℕ) → kind_at m i < 16
  unfolding kind_at
  kind_small zero = omega arith
  kind_small (suc i) = (entry_holds (kind_at m i) (class_of (get_or m i 0)) (kind_small i) (by_class (get_or m i 0) (bytes i)).class).next

  -- the entry for the byte at place i
  pub entry_at : (i : ℕ) → Entry (kind_at m i) (class_of (get_or m i 0))
  entry_at i = entry_holds (kind_at m i) (class_of (get_or m i 0)) (kind_small i) (by_class (get_or m i 0) (bytes i)).class

  -- i bytes make at most 2 i codes and i names
  pub counts_up : (i : ℕ) → (codes_to m i ≤ 2 * i) × (names_to m i ≤ i)
  unfolding codes_to names_to
  counts_up zero = (omega arith, omega arith)
  counts_up (suc i) =
      let c = counts_up i in
      (omega (arith, c.0, (silent_asks m i bytes).1, (entry_at i).width), omega (arith, c.1, (entry_at i).names))

  -- the letters before a place are those that the rows count
  letters_at_lem : (i : ℕ) → letters_at m i ≡ letters_before (before_at m i)
  unfolding letters_at letters_before before_at
  letters_at_lem zero = refl
  letters_at_lem (suc i) = let c = by_class (get_or m i 0) (bytes i) in rw (c.break, c.letter, letters_at_lem i)

  -- where no byte before has a fault, the kind tells what the rows ask
  told_at_lem : (i : ℕ) → ((j : ℕ) → j < i → fault_here m j ≡ 0) → asked (before_at m i) ≡ answers (kind_at m i)
  unfolding kind_at before_at none first adjacent vowel_sign
  told_at_lem zero c = refl
  told_at_lem (suc i) c =
      told_more (before_at m i) (kind_at m i) (get_or m i 0) (kind_small i) (by_class (get_or m i 0) (bytes i)) (told_at_lem i (λ j l. c j (omega arith))) (here_clear m i (c i (omega arith))).0

  -- the paper's fault is then the one here, or that of a break last
  fault_paper : (i : ℕ) → ((j : ℕ) → j < i → fault_here m j ≡ 0)
      → fault_at (before_at m i) (get_or m i 0) (drop (suc i) m)
      ≡ cond (eqb (fault_here m i) 0) (cond (is_break_class (class_at m i) && none (drop (suc i) m)) misplaced_break 0) (fault_here m i)
  unfolding fault_here fault_at first_fit rows row3 row4 row5 row6 row7 row8 row9 row10
  fault_paper i c =
      let x = before_at m i in
      let y = none (drop (suc i) m) in
      let b = by_class (get_or m i 0) (bytes i) in
      let t = told_at_lem i c in
      let e : fault_at x (get_or m i 0) (drop (suc i) m) ≡ fault_by y (eqb (letters_at m i) word_max) (kind_at m i) (class_at m i) =
      rw (or_comm y (first is_break x), ← or_assoc (none x) (first is_break x) y, or_comm (none x || first is_break x) y, letters_at_lem i) (cc) in
      e ∙ fault_same y (eqb (letters_at m i) word_max) (kind_at m i) (class_at m i) (kind_small i) b.class

  -- so a byte that is passed is clear, but for a break last
  passed : (i : ℕ) → ((j : ℕ) → j < suc i → fault_here m j ≡ 0) → (is_break_class (class_at m i) && none (drop (suc i) m)) ≡ false → ClearAt m i
  passed i c b = fault_clear (before_at m i) (get_or m i 0) (drop (suc i) m) (fault_paper i (λ j h. c j (omega arith)) ∙ rw (c i (omega arith), b))

  -- one before the last is clear
  passed_over : (i : ℕ) → suc i < length m → ((j : ℕ) → j < suc i → fault_here m j ≡ 0) → ClearAt m i
  unfolding none
  passed_over i h c = passed i c (rw (drop-cons m (suc i) 0 h, and-false (is_break_class (class_at m i))))

  -- a fault is the check's answer, where no byte before has one
  pub seen_fault : (i : ℕ) (r : Refusal) → i < length m → length m ≤ message_max → ((j : ℕ) → j < i → fault_here m j ≡ 0)
      → (fault_here m i ≡ r.number) × (r.number ≡ 0 → ⊥) × (r.place ≡ i) → Err r ≡ check_of m
  seen_fault i r h l c f = rw f.2 (sym (first_refused m l i h (λ j q. passed_over j (omega arith) (λ k r. c k (omega arith))) r.number (fault_paper i c ∙ rw (f.0, ne_eqb r.number 0 f.1)) f.1))

  -- The whole message, of suc i bytes, is passed.
  module _ (i : ℕ) (size : length m ≡ suc i) (short : length m ≤ message_max) (clear : (j : ℕ) → j < length m → fault_here m j ≡ 0) where
    -- a break last is refused
    pub last_refused : is_break_class (kind_at m (length m)) ≡ true → check_of m ≡ Err (refusal misplaced_break i)
    unfolding none kind_at
    last_refused b =
        let d : drop (suc i) m ≡ [] = rw (← size) (drop-length m) in
        let k : is_break_class (class_at m i) ≡ true = sym (entry_at i).break ∙ rw size at b in
        first_refused m short i (omega arith) (λ j q. passed_over j (omega arith) (λ k r. clear k (omega arith))) misplaced_break
        (fault_paper i (λ k r. clear k (omega arith)) ∙ rw (clear i (omega arith), k, d)) (omega arith)

    -- any other message is accepted
    pub all_accepted : is_break_class (kind_at m (length m)) ≡ false → check_of m ≡ Ok (counts_of m)
    unfolding kind_at
    all_accepted b = passes_accepted m (record {
      some = omega arith;
      short = short;
      rows = λ j h. ⊎_elim
          (λ (l : j < i). passed_over j (omega arith) (λ k r. clear k (omega arith)))
          (λ (l : i ≤ j). let d : j ≡ i = omega arith in rw d (passed i (λ k r. clear k (omega arith)) (rw (sym (entry_at i).break ∙ rw size at b)))) (below_or j i);
    })
