-- What the joiner's own functions ask for and give: the message and the parts whose tapes are
-- written, where a mark stands, and what a cut changes beside it.
-- Assumes nothing: these are definitions.
use Rattle.std.specs.Prelude.{ℕ, suc, ◌+◌, ◌-◌, ◌*◌, ◌<◌, ◌≤◌, ◌≡◌, Bool, true, false, cond, not}
use Rattle.std.specs.Prelude.{◌||◌, List, [], ◌∷◌, ◌++◌, eqb, length, take, drop, get_or}
use Rattle.std.specs.Prelude.{Result, Ok, Err}
use Rattle.spec.specs.Numbers.{misplaced_cut}
use Rattle.spec.specs.Letters.{between, is_break}
use Rattle.spec.specs.Codes.{mark_of}
use Rattle.spec.specs.Tape.{sounds, tape}
use Rattle.spec.specs.declared.Edition.{Edition}
use Rattle.letters.specs.Places.{Steady}
use Rattle.spec.specs.Refusals.{refusal, check_of}
use Rattle.spec.specs.Joints.{Rising, joined_from, joined, mark_index, live_count, bad_cut}
use Rattle.spec.specs.declared.Refusal.{Refusal}
use Rattle.spec.specs.{LevelSteps.level_steps, Layers.TapeDue}
use Rattle.spec.specs.declared.Counts.{Counts}
use Rattle.laws.specs.{Parts.part, Parts.changed_after, Parts.changed_before, Parts.Ends}
use Rattle.laws.specs.{Putting.Put}
use Rattle.joiner.specs.declared.Changes.{Changes}
use Rattle.joiner.specs.declared.Progress.{Progress}
use Rattle.joiner.specs.declared.JoinCounts.{JoinCounts}

-- an accepted message
pub record Valid (m : List ℕ) : Type 0 where
  pub counts : Counts
  pub accepted : check_of m ≡ Ok counts
  pub steady : Steady m

-- the message and its cuts are accepted, and an output of this size is as long as its tape
pub record JoinDue (m cuts : List ℕ) (size : ℕ) : Type 0 where
  pub valid : Valid m
  pub rising : Rising m cuts
  pub fits : size ≡ length (sounds m)

-- these codes were put right before index at of the output
abbrev pub PutBefore : List ℕ → List ℕ → List ℕ → ℕ → Type 0
PutBefore codes out out' at = Put codes out out' at (at - length codes)

-- the part p may be written right before index at of the output, and where no cut changes it its
-- tape in edition e stands there
pub record PartDue (e : Edition) (p out : List ℕ) (at : ℕ) (changed : Bool) : Type 0 where
  pub due : TapeDue p out at
  pub stands : changed ≡ false → PutBefore (tape e p) out out at

-- then it stands there, and its levels were found in k steps, in none where no cut changes it
pub record PartWritten (e : Edition) (p : List ℕ) (changed : Bool) (out out' : List ℕ) (at k : ℕ)
    : Type 0 where
  pub put : PutBefore (tape e p) out out' at
  pub counted : k ≡ cond changed (level_steps p) 0

-- number 12 at the index of the first bad cut of the list, if there is one
unfoldable pub cuts_checked : List ℕ → List ℕ → Result (Unit {0}) Refusal
cuts_checked m cuts =
    cond (eqb (bad_cut m cuts) (length cuts)) (Ok tt) (Err (refusal misplaced_cut (bad_cut m cuts)))

-- a byte that is none of low to high
abbrev pub outside : ℕ → ℕ → ℕ → Bool
outside low high b = not (between low high b)

-- A look back from index i has passed all down to index j: they fail the test, and an element
-- before j passes it.
pub record Looks (test : ℕ → Bool) (x : List ℕ) (i j : ℕ) : Type 0 where
  pub within : j ≤ length x
  pub least : ℕ
  pub below : least < j
  pub here : test (get_or x least 0) ≡ true
  pub high : j ≤ i
  pub past : (k : ℕ) → j ≤ k → k < i → test (get_or x k 0) ≡ false

-- the accepted message's tape, in some edition, stands in t up to index n
pub record Whole (m t : List ℕ) (n : ℕ) : Type 0 where
  pub edition : Edition
  pub valid : Valid m
  pub size : n ≤ length t
  pub same : (j : ℕ) → j < n → get_or t j 0 ≡ get_or (tape edition m) j 0

-- index n is that of the mark of place e, which is a break or the message's end, and the break at
-- place c is not behind it
pub record Reach (m t : List ℕ) (c e n : ℕ) : Type 0 where
  pub whole : Whole m t n
  pub break : is_break (get_or m c 0) ≡ true
  pub order : c ≤ e
  pub within : e ≤ length m
  pub ends : Ends m e
  pub place : n ≡ mark_index m e

-- index at is that of the mark of the break at place c, and on both sides of it stand codes of the
-- whole tape
pub record Beside (m t : List ℕ) (c at : ℕ) : Type 0 where
  pub whole : Whole m t (suc (suc at))
  pub some : 0 < at
  pub break : is_break (get_or m c 0) ≡ true
  pub within : c < length m
  pub place : at ≡ mark_index m c

-- w says which clauses of 'Joints' hold at a cut at place c: (a) changes the code before its mark,
-- (b) the code after it
pub record Changing (m : List ℕ) (c : ℕ) (w : Changes) : Type 0 where
  pub before : w.before ≡ changed_before m c
  pub after : w.after ≡ changed_after m (suc c)

-- where a part ends that these cuts follow
abbrev pub end_of : List ℕ → List ℕ → ℕ
end_of m [] = length m
end_of m (c ∷ cuts) = c

-- the steps that find the levels of the part from place a up to e once more: of one that no cut
-- changes none
abbrev pub part_steps : List ℕ → ℕ → ℕ → ℕ
part_steps m a e = cond (changed_before m e || changed_after m a) (level_steps (part m a e)) 0

-- and those of all parts behind these cuts
unfoldable pub steps_behind : List ℕ → List ℕ → ℕ
steps_behind m [] = 0
steps_behind m (c ∷ cuts) = part_steps m (suc c) (end_of m cuts) + steps_behind m cuts

-- the joiner's steps: those of the whole message, and those of the parts that a cut changes
abbrev pub join_steps : List ℕ → List ℕ → ℕ
join_steps m cuts = level_steps m + (part_steps m 0 (end_of m cuts) + steps_behind m cuts)

-- what follows its tape on the second tape
abbrev pub rest_of : Edition → List ℕ → List ℕ → List ℕ
rest_of e m [] = []
rest_of e m (c ∷ cuts) = mark_of (get_or m c 0) ∷ joined_from (tape e) m (suc c) cuts

-- All cuts but the first k are passed: before the mark of the last one of them, or the message's
-- end, the whole tape in edition e stands in the output, and from there on the second one.
pub record Laid (e : Edition) (m cuts : List ℕ) (k : ℕ) (out : List ℕ) (p : Progress) : Type 0 where
  pub valid : Valid m
  pub rising : Rising m cuts
  pub within : k ≤ length cuts
  pub ends : p.e ≡ end_of m (drop k cuts)
  pub place : p.at ≡ mark_index m p.e
  pub bytes : out ≡ take p.at (tape e m) ++ rest_of e m (drop k cuts)
  pub counted : p.live ≡ live_count m (drop k cuts)
  pub last : p.changed ≡ changed_before m p.e
  pub taken : p.steps ≡ level_steps m + steps_behind m (drop k cuts)

-- The second tape in edition e is written: the live cuts are counted, and the levels were found in
-- the joiner's steps, of which four for each byte of the message suffice (paper 02, request 3).
pub record JoinWritten (e : Edition) (m cuts out : List ℕ) (r : JoinCounts) : Type 0 where
  pub output : out ≡ joined e m cuts
  pub counted : r.live ≡ live_count m cuts
  pub taken : r.steps ≡ join_steps m cuts
  pub four : r.steps ≤ 4 * length m
