-- Where the codes of a part and the marks of breaks stand on a tape: before a place as many codes stand as the bytes before it make, so a
-- part's codes in the whole tape are as many as its own, and since each code of a word is a sound the last mark before that of a place is
-- that of the last break before it.
use Rattle.laws.proofs.Kit.{ℕ, suc, ◌+◌, ◌-◌, ◌<◌, ◌≤◌, ◌≡◌, refl, sym, ap, ◌∙◌, Bool, true, false, not, ◌&&◌, and_parts, true≢false}
use Rattle.laws.proofs.Kit.{⊎_elim, List, [], ◌∷◌, ◌++◌, append-nil, arith, leb, length, take, drop, get_or, length-append}
use Rattle.laws.proofs.Kit.{length-drop, List·getD-eq-default, take_all, leb-true, le-leb}
use Rattle.spec.specs.Letters.{between, read, first_byte, is_gap, is_break}
use Rattle.spec.specs.Codes.{А*, Щ, mark_of, is_sound_code, is_sound}
use mathlib.Core.List.{map, map-append}
use lib.ListN.{length-map}
use Rattle.spec.specs.{Editions.code_in, Tape.tape, declared.Edition.Edition}
use Rattle.laws.proofs.Editions.{read_same, sound_code, mark_own, read_at, last_read}
use Rattle.spec.specs.{Tape.segment, Tape.sounds, Refusals.check_of, Joints.mark_index, Joints.word_before, Joints.word_after}
use Rattle.spec.specs.{declared.Counts.Counts}
use Rattle.laws.proofs.Codes.{Each, part_spells, read_marks, segment_sounds, unbroken, each_at}
use Rattle.laws.proofs.Parts.{last_at_lem, onward_cut, part_own, tape_cut, mark_index_lem, mark_there, code_after, onward_alone}
use Rattle.laws.specs.Parts.{part, Begins, Ends, hard_at, onward, voiced_at, changed_after, changed_before}
use Rattle.laws.proofs.Beside.{segment_ends, segment_starts}
use Rattle.laws.specs.Beside.{Last, is_voiced, is_high, is_i_or_e}
use Rattle.laws.proofs.{Accepted.accepted_passes, Classes.mark_both, Classes.either, Classes.below_or, Stretch.segment_length}
use Rattle.laws.proofs.{PartsAccepted.part_length, PartsAccepted.part_at, Marks.tape_from, Marks.mark_next, Marks.mark_last}
use Rattle.std.proofs.Common.{Ok}
use Rattle.std.proofs.lemmas.Grind.{common_steps}

-- it is not below another such index
pub last_above : (test : ℕ → Bool) (x y : List ℕ) (i r s : ℕ) → ((j : ℕ) → j < i → get_or x j 0 ≡ get_or y j 0) → Last test x i r → s < i
    → test (get_or y s 0) ≡ true → s ≤ r
last_above test x y i r s same l b h =
    ⊎_elim (λ g. absurd (true≢false (sym h ∙ ap test (sym (same s b)) ∙ l.past s g b))) (λ g. g) (below_or r s)

-- so lists that are the same below i have one
pub last_once : (test : ℕ → Bool) (x y : List ℕ) (i r s : ℕ) → ((j : ℕ) → j < i → get_or x j 0 ≡ get_or y j 0) → Last test x i r
    → Last test y i s → r ≡ s
last_once test x y i r s same l k =
    omega (arith, last_above test x y i r s same l k.below k.here, last_above test y x i s r (λ j b. sym (same j b)) k l.below l.here)

-- a code that is no sound
abbrev pub is_no_sound : ℕ → Bool
is_no_sound c = not (between А* Щ c)

-- the whole message's codes of the bytes from a up to e
abbrev pub stretch : List ℕ → ℕ → ℕ → List ℕ
stretch m a e = segment (hard_at m a) (voiced_at m e) (read (part m a e))

-- Where they stand on its tape.
pub record Placed (m : List ℕ) (a e : ℕ) : Type 0 where
  pub front : List ℕ
  pub rest : List ℕ
  pub split : sounds m ≡ front ++ (stretch m a e ++ rest)
  pub start : length front ≡ mark_index m a
  pub size : mark_index m a + length (stretch m a e) ≡ mark_index m e

module _ (m : List ℕ) where
  -- nothing follows the message's end
  end_unvoiced : voiced_at m (length m) ≡ false
  unfolding voiced_at is_gap
  end_unvoiced = rw (List·getD-eq-default m 0 {n = length m} (omega arith))

  -- so nothing changes the last code
  pub end_own : changed_before m (length m) ≡ false
  unfolding changed_before
  end_own = rw end_unvoiced

  -- the last part has all bytes from its place on
  last_stretch : (a : ℕ) → onward m a ≡ stretch m a (length m)
  unfolding onward
  last_stretch a = rw (end_unvoiced, take_all (length m - a) (drop a m) (omega (arith, length-drop a m)))

  module _ (a e : ℕ) (begins : Begins m a) (le : a ≤ e) (ends : Ends m e) where
    -- a part between two breaks, or from a break to the end
    pub placed : Placed m a e
    placed = let f = tape_from m a begins in ⊎_elim (λ k.
        let t = f.split ∙ ap (λ (x : List ℕ). f.front ++ x) (onward_cut m a e begins le k) in
        let n = simp length-append at (ap length (sym t ∙ tape_cut m e k)) in
        record { front = f.front; rest = _; split = t; start = f.size; size = omega (arith, f.size, n, mark_index_lem m e k) })
        (λ k.
        let t = f.split ∙ ap (λ (x : List ℕ). f.front ++ x) (last_stretch a ∙ sym (append-nil (stretch m a (length m)))) in
        let n = simp (length-append, append-nil) at (ap length t) in
        rw k (record {
          front = f.front;
          rest = [];
          split = t;
          start = f.size;
          size = omega (arith, f.size, n, mark_last m (length m) refl);
        })) ends

    -- they are as many as the part's own
    pub own_length : length (sounds (part m a e)) ≡ length (stretch m a e)
    unfolding sounds
    own_length = segment_length false (hard_at m a) false (voiced_at m e) (read (part m a e))

    -- and they are its own where no break changes the first or the last of them
    pub own_codes : changed_after m a ≡ false → changed_before m e ≡ false → sounds (part m a e) ≡ stretch m a e
    own_codes q o = ⊎_elim (λ k. part_own m a e begins le k q o)
        (λ k. rw k (ap sounds (take_all (length m - a) (drop a m) (omega (arith, length-drop a m))) ∙ onward_alone m a q
        ∙ last_stretch a)) ends

-- a code within sounds that stand on a tape
inside : (front s rest : List ℕ) (j : ℕ) → Each is_sound s → length front ≤ j → j < length front + length s
    → is_sound (get_or (front ++ (s ++ rest)) j 0) ≡ true
inside front s rest j h lo hi =
    let e : get_or (front ++ (s ++ rest)) j 0 ≡ get_or s (j - length front) 0 = grind (arith, common_steps) in
    rw e (each_at is_sound s (j - length front) h (omega arith))

-- the code of a sound is one of 1 to 56
pub sound_range : (c : ℕ) → is_sound_code c ≡ true → (1 ≤ c) × (c ≤ 56)
unfolding is_sound_code
sound_range c s = either (between 1 13 c)
    (λ q. let a = and_parts (leb 1 c) (leb c 13) q in (leb-true 1 c a.0, omega (arith, leb-true c 13 a.1)))
    (λ q. let a = and_parts (leb 16 c) (leb c 56) (rw q at s) in (omega (arith, leb-true 16 c a.0), leb-true c 56 a.1))

-- where a mark stands on a tape in an edition
pub mark_code_there : (e : Edition) (m : List ℕ) (c : ℕ) → is_break (get_or m c 0) ≡ true → get_or (tape e m) (mark_index m c) 0
    ≡ mark_of (get_or m c 0)
unfolding tape
mark_code_there e m c b = read_at e (sounds m) (mark_index m c) ∙ ap (code_in e) (mark_there m c b) ∙ mark_own e (get_or m c 0)

module _ (m : List ℕ) where
  module _ {counts : Counts} (accepted : check_of m ≡ Ok counts) where
    -- a word, from the last break before its end on, has sounds only, whatever stands around it
    word_here : (b e : ℕ) → e ≤ length m → Last is_break m e b → (h n : Bool) → Each is_sound (segment h n (read (part m (suc b) e)))
    word_here b e within l h n =
        segment_sounds h n (read (part m (suc b) e)) (part_spells m (accepted_passes m counts accepted) (suc b) (e - suc b))
        (read_marks (part m (suc b) e) ∙ unbroken (part m (suc b) e) (λ i k.
        let j : i < e - suc b = omega (arith, part_length m (suc b) e within) in
        rw (part_at m (suc b) e i j) (l.past (suc b + i) (omega arith) (omega arith))))

    -- The last mark before that of a place is the mark of the last break before it, since every code between them is a sound's.
    pub last_mark : (ed : Edition) (b e : ℕ) → e ≤ length m → Ends m e → Last is_break m e b
        → Last is_no_sound (tape ed m) (mark_index m e) (mark_index m b)
    unfolding tape
    last_mark ed b e within ends l =
        let s = placed m (suc b) e l.here l.below ends in
        let n = mark_next m b l.here in
        record {
          below = omega (arith, s.size, n);
          here = rw (mark_code_there ed m b l.here) (mark_both (λ c. is_no_sound c ≡ true) (get_or m b 0) refl refl);
          past = λ j lo hi. rw (read_at, s.split)
              (let r = sound_range _ (sound_code ed _
              (inside s.front (stretch m (suc b) e) s.rest j (word_here b e within l _ _) (omega (arith, s.start, n))
              (omega (arith, s.start, s.size)))) in
              rw (le-leb А* _ r.0, le-leb _ Щ r.1));
        }

    -- A voiced code before the mark of a break, on the whole tape, is one that a cut there changes.
    pub before_told : (e : Edition) (c : ℕ) → is_break (get_or m c 0) ≡ true → is_voiced (get_or (0 ∷ tape e m) (mark_index m c) 0)
        ≡ changed_before m c
    unfolding changed_before word_before tape
    before_told e c b =
        let s = segment false (voiced_at m c) (read (take c m)) in
        rw (
          tape_cut m c b,
          map-append,
          last_at_lem 0 (map (code_in e) s) _ (mark_index m c)
              (length-map s (code_in e) ∙ mark_index_lem m c b),
          last_read e s 0 0 refl,
        )
        (segment_ends false (voiced_at m c) 0 (read (take c m)) refl (part_spells m (accepted_passes m counts accepted) 0 c))

  -- And Ы after it, where the next word begins with и or э, is too.
  pub after_told : (e : Edition) (c : ℕ) → is_break (get_or m c 0) ≡ true
      → (is_high (get_or (tape e m) (suc (mark_index m c)) 0) && is_i_or_e (first_byte (word_after m c))) ≡ changed_after m (suc c)
  unfolding changed_after word_after onward tape
  after_told e c b = rw (read_at, read_same e is_high refl refl, code_after m c b)
      (rw append-nil at (segment_starts (hard_at m (suc c)) false (read (drop (suc c) m)) []))
