-- Paper 01, 'Joints': cuts, the parts between them, the second tape, and which cuts are live.
-- Assumes nothing: these are definitions.
use Rattle.std.specs.Prelude.{ℕ, zero, suc, ◌-◌, ◌<◌, ◌≤◌, ◌≡◌, Bool, true, false, cond, ◌&&◌, ◌||◌}
use Rattle.std.specs.Prelude.{not, ◌⊎◌, ◌≢◌, List, [], ◌∷◌, ◌++◌, eqb, leb, length, take, drop}
use Rattle.std.specs.Prelude.{get_or}
use Rattle.spec.specs.Alphabet.{«и», «э»}
use Rattle.spec.specs.Letters.{Letter, read, first_word, last_word, is_gap, is_break, is_sign}
use Rattle.spec.specs.Letters.{is_obstruent}
use Rattle.spec.specs.Codes.{mark_of, is_mark_code}
use Rattle.spec.specs.Voicing.{voices}
use Rattle.spec.specs.Vowels.{ends_hard}
use Rattle.spec.specs.Tape.{sounds, tape}
use Rattle.spec.specs.declared.Edition.{Edition}

-- a strictly rising list of places of breaks of the message, none below the least
abbrev pub RisingFrom : List ℕ → ℕ → List ℕ → Type 0
RisingFrom m least [] = Unit {0}
RisingFrom m least (c ∷ cuts) = (least ≤ c) × (is_break (get_or m c 0) ≡ true) × RisingFrom m (suc c) cuts

-- a strictly rising list of places of gaps and pauses, the empty one and the full one too
abbrev pub Rising : List ℕ → List ℕ → Type 0
Rising m cuts = RisingFrom m 0 cuts

-- c is a cut of the list
abbrev pub CutOf : ℕ → List ℕ → Type 0
CutOf c [] = ⊥
CutOf c (d ∷ cuts) = (c ≡ d) ⊎ CutOf c cuts

-- the full list: the places of all breaks, of which the first byte has place k
unfoldable pub breaks_from : ℕ → List ℕ → List ℕ
breaks_from k [] = []
breaks_from k (b ∷ m) = cond (is_break b) (k ∷ breaks_from (suc k) m) (breaks_from (suc k) m)

unfoldable pub breaks : List ℕ → List ℕ
breaks m = breaks_from 0 m

-- the parts from place a on, each read as if nothing stood around it, and between two of them the
-- mark of the cut that parts them
unfoldable pub joined_from : (List ℕ → List ℕ) → List ℕ → ℕ → List ℕ → List ℕ
joined_from reading m a [] = reading (drop a m)
joined_from reading m a (c ∷ cuts) =
    reading (take (c - a) (drop a m)) ++ (mark_of (get_or m c 0) ∷ joined_from reading m (suc c) cuts)

-- the second tape: the parts' tapes, all in the same edition
unfoldable pub joined : Edition → List ℕ → List ℕ → List ℕ
joined e m cuts = joined_from (tape e) m 0 cuts

-- a claim on each of these parts
abbrev pub EachPartFrom : (List ℕ → Type 0) → List ℕ → ℕ → List ℕ → Type 0
EachPartFrom P m a [] = P (drop a m)
EachPartFrom P m a (c ∷ cuts) = P (take (c - a) (drop a m)) × EachPartFrom P m (suc c) cuts

abbrev pub EachPart : (List ℕ → Type 0) → List ℕ → List ℕ → Type 0
EachPart P m cuts = EachPartFrom P m 0 cuts

-- where the mark of a cut at place c stands on either tape: after the codes of what stands before
-- the cut
unfoldable pub mark_index : List ℕ → ℕ → ℕ
mark_index m c = length (sounds (take c m))

-- the marks of gaps and pauses on a tape, in order
unfoldable pub marks_of : List ℕ → List ℕ
marks_of [] = []
marks_of (c ∷ t) = cond (is_mark_code c) (c ∷ marks_of t) (marks_of t)

-- the marks of a message's breaks, in order
unfoldable pub break_marks : List ℕ → List ℕ
break_marks [] = []
break_marks (b ∷ m) = cond (is_break b) (mark_of b ∷ break_marks m) (break_marks m)

-- A tape of the message, whole or in parts, at the cut at place c: codes, the cut's own mark,
-- codes.
pub record SplitAt (m : List ℕ) (c : ℕ) (t : List ℕ) : Type 0 where
  pub before : List ℕ
  pub after : List ℕ
  pub split : t ≡ before ++ (mark_of (get_or m c 0) ∷ after)
  pub index : length before ≡ mark_index m c
  -- the marks before it are those of the breaks before the cut
  pub own : marks_of before ≡ break_marks (take c m)

-- the code just before or just after the mark at index k differs, at the same index in both tapes
abbrev pub DiffersAt : List ℕ → List ℕ → ℕ → Type 0
DiffersAt whole parts k = ((0 < k) × (get_or whole (k - 1) 0 ≢ get_or parts (k - 1) 0)) ⊎ (get_or whole (suc k) 0 ≢ get_or parts (suc k) 0)

-- the words on both sides of a cut at place c
unfoldable pub word_before : List ℕ → ℕ → List Letter
word_before m c = last_word (read (take c m))

unfoldable pub word_after : List ℕ → ℕ → List Letter
word_after m c = first_word (read (drop (suc c) m))

-- the last letter, signs passed over, is an obstruent; b says so of the letters already passed
unfoldable pub ends_in_obstruent_from : Bool → List Letter → Bool
ends_in_obstruent_from b [] = b
ends_in_obstruent_from b (l ∷ w) = ends_in_obstruent_from (cond (is_sign l.byte) b (is_obstruent l.byte)) w

unfoldable pub ends_in_obstruent : List Letter → Bool
ends_in_obstruent w = ends_in_obstruent_from false w

-- the word begins with и, or with э that has no stress mark
unfoldable pub begins_with_i_or_e : List Letter → Bool
begins_with_i_or_e [] = false
begins_with_i_or_e (l ∷ w) = eqb l.byte «и» || (eqb l.byte «э» && not l.stressed)

-- (a): an obstruent before the cut, and sounds that voice it just after its mark among those of the
-- whole message, which the tape of either edition tells alike (EditionDemands)
unfoldable pub live_by_voice : List ℕ → ℕ → Bool
live_by_voice m c = ends_in_obstruent (word_before m c) && voices (drop (suc (mark_index m c)) (sounds m))

-- (b): и or unmarked э after the cut, and a hard boundary there
unfoldable pub live_by_hardness : List ℕ → ℕ → Bool
live_by_hardness m c = begins_with_i_or_e (word_after m c) && ends_hard (word_before m c)

-- a cut at a gap is live by (a) or (b); a cut at a pause never is
unfoldable pub is_live : List ℕ → ℕ → Bool
is_live m c = is_gap (get_or m c 0) && (live_by_voice m c || live_by_hardness m c)

-- no cut of the list is a live joint
abbrev pub NoneLive : List ℕ → List ℕ → Type 0
NoneLive m cuts = (c : ℕ) → CutOf c cuts → is_live m c ≡ false

-- how many cuts of the list are live
unfoldable pub live_count : List ℕ → List ℕ → ℕ
live_count m [] = 0
live_count m (c ∷ cuts) = cond (is_live m c) (suc (live_count m cuts)) (live_count m cuts)

-- number 12 at one cut: it is not the place of a break (0, past the end, is no break), or it is
-- below the least place that it may have
unfoldable pub row12 : List ℕ → ℕ → ℕ → Bool
row12 m least c = not (is_break (get_or m c 0)) || not (leb least c)

-- the index of the first bad cut of a list whose first cut has the index k; the list's end where
-- there is none
unfoldable pub bad_cut_from : List ℕ → ℕ → ℕ → List ℕ → ℕ
bad_cut_from m least k [] = k
bad_cut_from m least k (c ∷ cuts) = cond (row12 m least c) k (bad_cut_from m (suc c) (suc k) cuts)

unfoldable pub bad_cut : List ℕ → List ℕ → ℕ
bad_cut m cuts = bad_cut_from m 0 0 cuts

-- the least place that the cut at index i of such a list may have: above the cut before it
unfoldable pub least_at : ℕ → List ℕ → ℕ → ℕ
least_at least cuts zero = least
least_at least cuts (suc i) = suc (get_or cuts i 0)

-- number 12 fits the cut at index i, and none before it
pub record FirstBadFrom (m : List ℕ) (least : ℕ) (cuts : List ℕ) (i : ℕ) : Type 0 where
  pub within : i < length cuts
  pub bad : row12 m (least_at least cuts i) (get_or cuts i 0) ≡ true
  pub first : (j : ℕ) → j < i → row12 m (least_at least cuts j) (get_or cuts j 0) ≡ false

abbrev pub FirstBad : List ℕ → List ℕ → ℕ → Type 0
FirstBad m cuts i = FirstBadFrom m 0 cuts i
