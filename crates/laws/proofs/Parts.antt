-- A message from a place on, whole and in parts: each cut splits both tapes at its mark, and the two sides differ in the bits that come
-- from over the cut alone.
use Rattle.laws.proofs.Kit.{ℕ, zero, suc, ◌+◌, ◌-◌, ◌<◌, ◌≤◌, ◌≡◌, refl, sym, ap, ◌∙◌, Bool, true, false, ◌&&◌, ◌||◌, and_comm}
use Rattle.laws.proofs.Kit.{and-or_distrib_left, inl, inr, List, [], ◌∷◌, ◌++◌, append-nil, arith, length, take, drop, get_or}
use Rattle.laws.proofs.Kit.{length-append, take-append-drop, drop-cons, drop-drop, drop-append-add, take-add, get_or_at}
use Rattle.spec.specs.Letters.{read, first_byte, first_word, last_word, is_break}
use Rattle.spec.specs.Joints.{RisingFrom, joined_from, mark_index, word_before, word_after, ends_in_obstruent, begins_with_i_or_e}
use Rattle.spec.specs.Joints.{live_by_voice, live_by_hardness, is_live, NoneLive}
use Rattle.spec.specs.{Codes.mark_of, Palatalization.first_code, Tape.segment, Tape.sounds}
use Rattle.laws.specs.Beside.{is_high, is_i_or_e}
use Rattle.laws.proofs.Stretch.{meet, first_meet, last_meet, read_join, segment_join, segment_length, segment_quiet, segment_firm}
use Rattle.laws.proofs.{Word.last_code_from, Beside.segment_starts, Cuts.break_within}
pub use Rattle.laws.proofs.Classes.{or-false}
use Rattle.laws.specs.Parts.{part, Begins, hard_at, onward, voiced_at, changed_after, changed_before}

-- the last code of a tape stands at the index before its end
pub last_at_lem : (x : ℕ) (s u : List ℕ) (n : ℕ) → length s ≡ n → get_or (x ∷ (s ++ u)) n 0 ≡ last_code_from x s
unfolding last_code_from
last_at_lem x [] u zero e = refl
last_at_lem x [] u (suc n) e = absurd (omega arith)
last_at_lem x (y ∷ s) u zero e = absurd (omega arith)
last_at_lem x (y ∷ s) u (suc n) e = last_at_lem y s u n (omega arith)

-- the code just after the mark k
pub after_mark : (s : List ℕ) (x : ℕ) (t : List ℕ) (k : ℕ) → length s ≡ k → get_or (s ++ (x ∷ t)) (suc k) 0 ≡ first_code t
unfolding first_code
after_mark [] x [] k e = refl
after_mark [] x (c ∷ t) k e = rw (← e)
after_mark (y ∷ s) x t k e = rw (← e) (after_mark s x t (length s) refl)

-- 'a gap, and this and that' is 'a gap and that, and this'
and_swap : (g s t : Bool) → (g && (s && t)) ≡ (g && t && s)
and_swap true s t = and_comm s t
and_swap false s t = refl

module _ (m : List ℕ) where
  -- a break splits the bytes from place a on
  rest_split : (a c : ℕ) → a ≤ c → c < length m → drop a m ≡ part m a c ++ (get_or m c 0 ∷ drop (suc c) m)
  rest_split a c le lt =
      let e : a + (c - a) ≡ c = omega arith in
      sym (take-append-drop (c - a) (drop a m)) ∙ ap (λ (t : List ℕ). part m a c ++ t) (rw (drop-drop, e, drop-cons m c 0))

  -- and the bytes of a part
  pub part_split : (a b c : ℕ) → a ≤ b → b < c → b < length m → part m a c ≡ part m a b ++ (get_or m b 0 ∷ part m (suc b) c)
  part_split a b c le lt within =
      let e : (b - a) + (c - b) ≡ c - a = omega arith in
      let f : a + (b - a) ≡ b = omega arith in
      let g : c - b ≡ suc (c - suc b) = omega arith in
      rw (← e, take-add, drop-drop, f, drop-cons m b 0, g)

  -- the part from the message's start on
  pub part_first : (c : ℕ) → part m 0 c ≡ take c m
  part_first c = let e : c - 0 ≡ c = omega arith in rw e

  -- the word before the break at place c is the last one of the part that ends there
  word_before_lem : (a c : ℕ) → Begins m a → a ≤ c → c < length m → last_word (read (part m a c)) ≡ word_before m c
  unfolding word_before
  word_before_lem zero c b le within = rw part_first
  word_before_lem (suc d) c b le within =
      let e : take c m ≡ part m 0 d ++ (get_or m d 0 ∷ part m (suc d) c) =
      sym (part_first c) ∙ part_split 0 d c (omega arith) le (omega arith) in
      rw (e, read_join (part m 0 d) (part m (suc d) c) (get_or m d 0) b, last_meet)

  module _ (a c : ℕ) (begins : Begins m a) (le : a ≤ c) (break : is_break (get_or m c 0) ≡ true) where
    -- what is read from its start on
    read_rest : read (drop a m) ≡ meet (read (part m a c)) (get_or m c 0) (read (drop (suc c) m))
    read_rest = ap read (rest_split a c le (break_within m c break)) ∙ read_join (part m a c) (drop (suc c) m) (get_or m c 0) break

    -- the first word of a part is the first one from its start on
    first_word_lem : first_word (read (drop a m)) ≡ first_word (read (part m a c))
    first_word_lem = rw (read_rest, first_meet)

    -- The whole message's tape at a break: the part before it with the bits from its neighbours, the mark, and the rest.
    pub onward_cut : onward m a ≡ segment (hard_at m a) (voiced_at m c) (read (part m a c)) ++ (mark_of (get_or m c 0) ∷ onward m (suc c))
    unfolding onward voiced_at hard_at
    onward_cut = rw (read_rest, segment_join, word_before_lem a c begins le (break_within m c break))

    -- a part whose first and last codes nothing changes has its own tape in the whole
    pub part_own : changed_after m a ≡ false → changed_before m c ≡ false
        → sounds (part m a c) ≡ segment (hard_at m a) (voiced_at m c) (read (part m a c))
    unfolding sounds changed_after changed_before
    part_own q o =
        let p = read (part m a c) in
        let left : (hard_at m a && begins_with_i_or_e (first_word p)) ≡ false = rw first_word_lem at q in
        let right : (voiced_at m c && ends_in_obstruent (last_word p)) ≡ false =
        rw (word_before_lem a c begins le (break_within m c break)) o in
        segment_firm (hard_at m a) false p left ∙ segment_quiet (hard_at m a) (voiced_at m c) p right

  module _ (c : ℕ) (break : is_break (get_or m c 0) ≡ true) where
    -- the same from the message's start on
    pub tape_cut : sounds m ≡ segment false (voiced_at m c) (read (take c m)) ++ (mark_of (get_or m c 0) ∷ onward m (suc c))
    unfolding hard_at onward sounds
    tape_cut = rw (part_first c) at (onward_cut 0 c tt (omega arith) break)

    -- the mark's index counts the codes before it
    pub mark_index_lem : length (segment false (voiced_at m c) (read (take c m))) ≡ mark_index m c
    unfolding mark_index sounds
    mark_index_lem = segment_length false false (voiced_at m c) false (read (take c m))

    -- where the break's mark stands
    pub mark_there : get_or (sounds m) (mark_index m c) 0 ≡ mark_of (get_or m c 0)
    mark_there = rw tape_cut (get_or_at (segment false (voiced_at m c) (read (take c m))) _ _ 0 (mark_index m c) mark_index_lem)

    -- the sounds after the cut in the whole message's tape
    pub codes_after : drop (suc (mark_index m c)) (sounds m) ≡ onward m (suc c)
    codes_after =
        let s = segment false (voiced_at m c) (read (take c m)) in
        let e : suc (mark_index m c) ≡ length s + 1 = omega (arith, mark_index_lem) in
        rw (tape_cut, e, drop-append-add s)

    -- and the first of them
    pub code_after : get_or (sounds m) (suc (mark_index m c)) 0 ≡ first_code (onward m (suc c))
    code_after = rw tape_cut (after_mark (segment false (voiced_at m c) (read (take c m))) (mark_of (get_or m c 0)) (onward m (suc c))
        (mark_index m c) mark_index_lem)

    -- a cut is live just when one of its two neighbours is changed from over the cut
    pub live_here : is_live m c ≡ (changed_before m c || changed_after m (suc c))
    unfolding is_live live_by_voice live_by_hardness changed_before voiced_at changed_after hard_at word_after
    live_here = rw (and-or_distrib_left, codes_after) (simp and_swap)

  -- from the start on it is the whole tape
  pub onward_first : onward m 0 ≡ sounds m
  unfolding onward hard_at sounds
  onward_first = refl

  -- and nothing changes what stands there
  pub first_own : changed_after m 0 ≡ false
  unfolding changed_after hard_at
  first_own = refl

  -- where nothing changes what stands at place a, the bytes from there on may be transcribed alone
  pub onward_alone : (a : ℕ) → changed_after m a ≡ false → sounds (drop a m) ≡ onward m a
  unfolding onward sounds changed_after
  onward_alone a q = segment_firm (hard_at m a) false (read (drop a m)) q

  -- The two tapes from place a on have equal length.
  pub joined_length : (a : ℕ) (cuts : List ℕ) → Begins m a → RisingFrom m a cuts
      → length (joined_from sounds m a cuts) ≡ length (onward m a)
  unfolding onward joined_from sounds
  joined_length a [] b r = segment_length false (hard_at m a) false false (read (drop a m))
  joined_length a (c ∷ cuts) b r =
      rw (onward_cut a c b r.0 r.1)
      (simp length-append
      (omega (arith, segment_length false (hard_at m a) false (voiced_at m c) (read (part m a c)), joined_length (suc c) cuts r.1 r.2)))

  -- Without a live cut they are equal, if nothing changes what stands at place a.
  pub joined_dead : (a : ℕ) (cuts : List ℕ) → Begins m a → RisingFrom m a cuts → changed_after m a ≡ false → NoneLive m cuts
      → joined_from sounds m a cuts ≡ onward m a
  unfolding joined_from
  joined_dead a [] b r q n = onward_alone a q
  joined_dead a (c ∷ cuts) b r q n =
      let o = or-false (changed_before m c) (changed_after m (suc c)) (sym (live_here c r.1) ∙ n c (inl refl)) in
      rw (onward_cut a c b r.0 r.1, part_own a c b r.0 r.1 q o.0, joined_dead (suc c) cuts r.1 r.2 o.1 (λ d i. n d (inr i)))

  -- The first code of the parts' tape tells no hard boundary at place a, whatever the cuts.
  pub joined_low : (a : ℕ) (cuts : List ℕ) → Begins m a → RisingFrom m a cuts
      → (is_high (first_code (joined_from sounds m a cuts)) && is_i_or_e (first_byte (first_word (read (drop a m))))) ≡ false
  unfolding joined_from sounds
  joined_low a [] b r = rw append-nil at (segment_starts false false (read (drop a m)) [])
  joined_low a (c ∷ cuts) b r = rw (first_word_lem a c b r.0 r.1) (segment_starts false false (read (part m a c)) _)
