-- The two tapes of a message, for every list of cuts: each cut splits both tapes at one index, and a cut is live just when a bit from over
-- it changes a code beside its mark.
use Rattle.laws.proofs.Kit.{ℕ, zero, suc, ◌+◌, ◌-◌, ◌≤◌, ◌&&◌, ◌++◌, append_assoc, length-append, ◌<◌, ◌≡◌, refl, sym, ap, ◌∙◌, true, false}
use Rattle.laws.proofs.Kit.{true≢false, inl, inr, ⊎_elim, ◌≢◌, ◌↔◌, List, [], ◌∷◌, arith, length, get_or, take, drop}
use Rattle.spec.specs.Joints.{RisingFrom, Rising, joined_from, marks_of, break_marks, word_after, CutOf, DiffersAt, joined, is_live}
use Rattle.spec.specs.Joints.{NoneLive, live_count, mark_index}
use mathlib.Core.List.{map, map-append}
use lib.ListN.{length-map}
use Rattle.spec.specs.{Editions.code_in, declared.Edition.Edition}
use Rattle.laws.proofs.Editions.{mark_own, last_read, first_read, marks_read, tape_length, joined_read}
use Rattle.spec.specs.{Letters.is_break, Letters.read, Letters.first_byte, Tape.segment, Tape.sounds, Tape.tape, Refusals.NoneFits}
use Rattle.spec.specs.{Codes.mark_of, Palatalization.first_code, Demands.TwoTapes}
use Rattle.laws.proofs.Codes.{Spells, bytes_marks, part_spells, marks_mark, marks_append, breaks_append}
use Rattle.laws.proofs.Beside.{segment_ends, mark_unvoiced}
use Rattle.laws.specs.{Beside.is_voiced, Beside.is_high, Beside.is_i_or_e, Parts.onward, Parts.voiced_at, Parts.changed_before, Parts.part}
use Rattle.laws.specs.Parts.{Begins}
use Rattle.laws.proofs.Parts.{part_split, part_first, last_at_lem, after_mark, joined_low, tape_cut, mark_index_lem, live_here}
use Rattle.laws.proofs.Parts.{onward_first}
use Rattle.laws.proofs.Parts.{first_own, joined_length, joined_dead}
use Rattle.laws.proofs.MarkIndex.{placed, own_length, before_told, after_told}
use Rattle.laws.proofs.{Accepted.none_passes, Accepted.none_accepted, Classes.either, Classes.refuted, Cuts.cut_good, Cuts.break_within}
use Rattle.laws.proofs.{PartsAccepted.parts_none, Word.last_code_from, Stretch.last_append, Marks.mark_first, Marks.mark_next}

-- the count is 0 exactly when no cut is live
pub counts_none : (m cuts : List ℕ) → (live_count m cuts ≡ 0) ↔ NoneLive m cuts
unfolding live_count
counts_none m [] = (λ e c i. absurd i, λ f. refl)
counts_none m (d ∷ cuts) =
    let rest = counts_none m cuts in (
      λ e c. let f = refuted (is_live m d) (λ t. omega (arith, rw t at e)) in ⊎_elim (λ q. rw q f) (rest.0 (rw f at e) c),
      λ f. rw (f d (inl refl)) (rest.1 (λ c i. f c (inr i))),
    )

-- The two tapes are equally long, whatever the list.
pub equal_lengths : (e : Edition) (m cuts : List ℕ) → Rising m cuts → length (joined e m cuts) ≡ length (tape e m)
unfolding joined
equal_lengths e m cuts r = ap length (joined_read e m 0 cuts) ∙ length-map (joined_from sounds m 0 cuts) (code_in e)
    ∙ joined_length m 0 cuts tt r ∙ ap length (onward_first m) ∙ sym (tape_length e m)

-- where two tapes differ just before an index, it is not the first
apart : (s t : List ℕ) (k : ℕ) → (get_or (0 ∷ s) k 0 ≡ get_or (0 ∷ t) k 0 → ⊥) → (0 < k) × (get_or s (k - 1) 0 ≢ get_or t (k - 1) 0)
apart s t zero n = absurd (n refl)
apart s t (suc k) n = let e : suc k - 1 ≡ k = omega arith in (omega arith, rw e n)

-- A tape of the parts from place a on, at its cut c: split at the mark, with the codes on both sides made as if nothing stood over the cut.
record CutAt (m : List ℕ) (a c : ℕ) (t : List ℕ) : Type 0 where
  front : List ℕ
  back : List ℕ
  split : t ≡ front ++ (mark_of (get_or m c 0) ∷ back)
  size : mark_index m a + length front ≡ mark_index m c
  own : marks_of front ≡ break_marks (part m a c)
  unvoiced : (d : ℕ) → is_voiced d ≡ false → is_voiced (last_code_from d front) ≡ false
  low : (is_high (first_code back) && is_i_or_e (first_byte (word_after m c))) ≡ false

-- so it is split when it is read in an edition
cut_read : (e : Edition) {m : List ℕ} {a c : ℕ} {t : List ℕ} → CutAt m a c t → CutAt m a c (map (code_in e) t)
cut_read e k = record {
  front = map (code_in e) k.front;
  back = map (code_in e) k.back;
  split = rw (k.split, map-append, mark_own);
  size = rw (length-map k.front (code_in e)) k.size;
  own = marks_read e k.front ∙ k.own;
  unvoiced = λ d u. last_read e k.front d d refl ∙ k.unvoiced d u;
  low = rw (first_read e k.back) k.low;
}

-- An accepted message.
module _ (m : List ℕ) (f : NoneFits m) where
  spells : (p n : ℕ) → Spells (read (take n (drop p m)))
  spells = part_spells m (none_passes m f)

  -- as many codes as a part has of its own stand on the tape between its two ends
  part_size : (a c : ℕ) → Begins m a → a ≤ c → is_break (get_or m c 0) ≡ true
      → mark_index m a + length (sounds (part m a c)) ≡ mark_index m c
  part_size a c b le e = omega (arith, own_length m a c b le (inl e), (placed m a c b le (inl e)).size)

  -- at the first cut
  cut_first : (a c : ℕ) (cuts : List ℕ) → Begins m a → RisingFrom m a (c ∷ cuts) → CutAt m a c (joined_from sounds m a (c ∷ cuts))
  unfolding joined_from sounds word_after
  cut_first a c cuts b r = record {
    front = sounds (part m a c);
    back = joined_from sounds m (suc c) cuts;
    split = refl;
    size = part_size a c b r.0 r.1;
    own = bytes_marks false false (part m a c) (spells a (c - a));
    unvoiced = λ x u. segment_ends false false x (read (part m a c)) u (spells a (c - a));
    low = joined_low m (suc c) cuts r.1 r.2;
  }

  -- at a later one
  cut_later : (a c d : ℕ) (cuts : List ℕ) → Begins m a → RisingFrom m a (d ∷ cuts) → suc d ≤ c
      → CutAt m (suc d) c (joined_from sounds m (suc d) cuts)
      → CutAt m a c (joined_from sounds m a (d ∷ cuts))
  unfolding joined_from sounds break_marks
  cut_later a c d cuts b r lt k = record {
    front = sounds (part m a d) ++ (mark_of (get_or m d 0) ∷ k.front);
    back = k.back;
    split = rw (k.split, append_assoc);
    size = simp length-append (omega (arith, k.size, part_size a d b r.0 r.1, mark_next m d r.1));
    own = rw (
      part_split m a d c r.0 lt (break_within m d r.1),
      marks_append,
      marks_mark,
      bytes_marks false false (part m a d) (spells a (d - a)),
      k.own,
      breaks_append,
      r.1,
    );
    unvoiced = λ x u. rw last_append (k.unvoiced (mark_of (get_or m d 0)) (mark_unvoiced (get_or m d 0)));
    low = k.low;
  }

  -- at each cut of the list
  cut_at : (a c : ℕ) (cuts : List ℕ) → Begins m a → RisingFrom m a cuts → CutOf c cuts → CutAt m a c (joined_from sounds m a cuts)
  cut_at a c [] b r i = absurd i
  cut_at a c (d ∷ cuts) b r i =
      ⊎_elim (λ e. rw e (cut_first a d cuts b r)) (λ j. cut_later a c d cuts b r (cut_good m (suc d) cuts r.2 j).0
      (cut_at (suc d) c cuts r.1 r.2 j)) i

  -- One cut of the list, in an edition.
  module _ (e : Edition) (cuts : List ℕ) (rising : Rising m cuts) (c : ℕ) (cut : CutOf c cuts) where
    break : is_break (get_or m c 0) ≡ true
    break = (cut_good m 0 cuts rising cut).1

    -- the tape of the parts, split at its mark
    here : CutAt m 0 c (joined e m cuts)
    unfolding joined
    here = rw (joined_read e m 0 cuts) (cut_read e (cut_at 0 c cuts tt rising cut))

    -- as many codes stand before the mark as in the whole tape
    size : length here.front ≡ mark_index m c
    size = omega (arith, here.size, mark_first m)

    -- the code before the mark was voiced from over the cut, or the code after it made by a hard boundary there
    differs : is_live m c ≡ true → DiffersAt (tape e m) (joined e m cuts) (mark_index m c)
    differs l = either (changed_before m c)
        (λ v. inl (apart (tape e m) (joined e m cuts) (mark_index m c) (λ q.
        true≢false (sym v ∙ sym (before_told m (none_accepted m f) e c break)
        ∙ rw (q, here.split, last_at_lem 0 here.front _ _ size) (here.unvoiced 0 refl)))))
        (λ v. inr (λ q. true≢false (sym (rw v at (sym (live_here m c break) ∙ l)) ∙ sym (after_told m e c break)
        ∙ rw (q, here.split, after_mark here.front _ _ _ size) here.low)))

  -- Demand 3 of the two tapes in an edition: each cut splits both at its mark, and they are equal just where none of the cuts is live.
  pub two_tapes : (e : Edition) (cuts : List ℕ) → Rising m cuts → TwoTapes e m cuts
  unfolding joined tape
  two_tapes e cuts r = record {
    parts = parts_none m (none_passes m f) 0 cuts tt (omega arith) r;
    lengths = equal_lengths e m cuts r;
    equal = (
      λ q c i. refuted _ (λ l. ⊎_elim (λ n. n.1 refl) (λ n. n refl) (rw q at (differs e cuts r c i l))),
      λ n. joined_read e m 0 cuts ∙ ap (map (code_in e)) (joined_dead m 0 cuts tt r (first_own m) n ∙ onward_first m),
    );
    whole = λ c i.
        let b = break e cuts r c i in
        let s = segment false (voiced_at m c) (read (take c m)) in
        record {
          before = map (code_in e) s;
          after = map (code_in e) (onward m (suc c));
          split = rw (tape_cut m c b, map-append, mark_own);
          index = length-map s (code_in e) ∙ mark_index_lem m c b;
          own = marks_read e s ∙ bytes_marks false (voiced_at m c) (take c m) (spells 0 c);
        };
    pieces = λ c i.
        let k = here e cuts r c i in
        record { before = k.front; after = k.back; split = k.split; index = size e cuts r c i; own = k.own ∙ rw part_first };
    differs = differs e cuts r;
  }
