-- The operator's three demands (paper 00) as statements over what the operations promise. Each
-- operation's contract is its promise, and `demand1`, `demand2` and `demand3` of crate laws prove
-- these of it. What the requests of paper 02 add has a file each: EditDemands, Utf8Demands,
-- LevelDemands, BookDemands, EditionDemands. That no step goes outside the lent memory and that
-- every step ends is no statement over values: it is proved of each function by the language.
-- Assumes nothing: these are definitions.
use Rattle.std.specs.Prelude.{ℕ, ◌<◌, ◌≤◌, ◌≡◌, true, ◌⊎◌, ◌↔◌, List, [], ◌++◌, length, drop}
use Rattle.std.specs.Prelude.{get_or}
use Rattle.spec.specs.Numbers.{short_output, misplaced_cut}
use Rattle.spec.specs.Letters.{is_break}
use Rattle.spec.specs.Tape.{tape, names}
use Rattle.spec.specs.Refusals.{NoneFits, Given}
use Rattle.spec.specs.Joints.{Rising, CutOf, breaks, joined, EachPart, mark_index, SplitAt}
use Rattle.spec.specs.Joints.{DiffersAt, is_live, NoneLive, live_count, FirstBad}
use Rattle.spec.specs.Answers.{number_of, place_of, length_of, live_of, checked_number}
use Rattle.spec.specs.Answers.{checked_place, checked_codes, checked_names, CheckPromise}
use Rattle.spec.specs.Answers.{NamePromise, TranscribePromise, JoinPromise}
use Rattle.spec.specs.declared.Edition.{Edition}
use Rattle.spec.specs.Results.{Checked, Answer}

-- The number and the place that the table has for a message, a list of cuts and an output of this
-- room, where the full answer has this size; its whole order is 1 and 2, then 3 to 10, then 12 at
-- the first bad cut, then 11. The naming operation and the transcriber have no cuts.
pub data Due (m cuts : List ℕ) (size room : ℕ) : ℕ → ℕ → Type 0 where
  turned_away : (n p : ℕ) → Given m n p → Due m cuts size room n p
  wrong_cut : (i : ℕ) → NoneFits m → FirstBad m cuts i → Due m cuts size room misplaced_cut i
  too_short : NoneFits m → Rising m cuts → room < size → Due m cuts size room short_output size

-- An operation is carried out: the output begins with its text and keeps its other bytes, and the
-- answer tells the text's length and how many cuts are live.
pub record CarriedOut (text : List ℕ) (count : ℕ) (out out' : List ℕ) (r : Answer) : Type 0 where
  pub output : out' ≡ text ++ drop (length text) out
  pub number : number_of r ≡ 0
  pub place : place_of r ≡ 0
  pub length : length_of r ≡ length text
  pub live : live_of r ≡ count

-- It is refused with a number of the tables and the place that belongs to it, both as they are due;
-- the refusal holds nothing else, and the output keeps every byte.
pub record TurnedAway (Number : ℕ → ℕ → Type 0) (out out' : List ℕ) (r : Answer) : Type 0 where
  pub output : out' ≡ out
  pub number : 1 ≤ number_of r
  pub place : Number (number_of r) (place_of r)
  pub length : length_of r ≡ 0
  pub live : live_of r ≡ 0

-- One or the other, and nothing is put outside the output: it is as long as it was.
pub record Settled (Number : ℕ → ℕ → Type 0) (text : List ℕ) (count : ℕ)
    (out out' : List ℕ) (r : Answer) : Type 0 where
  pub ended : CarriedOut text count out out' r ⊎ TurnedAway Number out out' r
  pub size : length out' ≡ length out

-- The check's refusal holds no counts, and it is lent nothing.
pub record CheckTurnedAway (m : List ℕ) (r : Checked) : Type 0 where
  pub number : 1 ≤ checked_number r
  pub place : Given m (checked_number r) (checked_place r)
  pub codes : checked_codes r ≡ 0
  pub names : checked_names r ≡ 0

-- Demand 1, for any bytes m and whatever is lent.
pub record Demand1 (m : List ℕ) : Type 0 where
  -- the check accepts, or refuses with a number and a place
  pub check : (r : Checked) → CheckPromise m r → (checked_number r ≡ 0) ⊎ CheckTurnedAway m r
  -- and so each operation that is lent an output: carried out, or refused with every byte left
  pub naming : (out out' : List ℕ) (r : Answer) → NamePromise m out out' r
      → Settled (Due m [] (length (names m)) (length out)) (names m) 0 out out' r
  pub transcriber : (e : Edition) (out out' : List ℕ) (r : Answer)
      → TranscribePromise e m out out' r
      → Settled (Due m [] (length (tape e m)) (length out)) (tape e m) 0 out out' r
  pub joiner : (e : Edition) (cuts out out' : List ℕ) (r : Answer)
      → JoinPromise e m cuts out out' r
      → Settled (Due m cuts (length (joined e m cuts)) (length out))
      (joined e m cuts) (live_count m cuts) out out' r

-- An operation accepts exactly what it must, where Accepted says what that is, and refuses exactly
-- as it must.
pub record Exactly (Accepted : Type 0) (Number : ℕ → ℕ → Type 0) (text : List ℕ) (count : ℕ) (out out' : List ℕ) (r : Answer) : Type 0 where
  -- lent an output long enough, it accepts exactly this
  pub accepts : length text ≤ length out → (number_of r ≡ 0) ↔ Accepted
  -- and then gives exactly its text
  pub gives : length text ≤ length out → Accepted → CarriedOut text count out out' r
  -- a number is given exactly where it is due, however much is lent
  pub refuses : (n p : ℕ) → 1 ≤ n → ((number_of r ≡ n) × (place_of r ≡ p)) ↔ Number n p

-- Demand 2, for any bytes m.
pub record Demand2 (m : List ℕ) : Type 0 where
  -- the check accepts exactly what none of numbers 1 to 10 fits anywhere, and gives each number
  -- exactly where it is due
  pub accepts : (r : Checked) → CheckPromise m r → (checked_number r ≡ 0) ↔ NoneFits m
  pub refuses : (r : Checked) → CheckPromise m r → (n p : ℕ) → 1 ≤ n
      → ((checked_number r ≡ n) × (checked_place r ≡ p)) ↔ Given m n p
  -- it tells how much must be lent, for the tape in either edition
  pub counts : (r : Checked) → CheckPromise m r → NoneFits m → (e : Edition)
      → (checked_codes r ≡ length (tape e m)) × (checked_names r ≡ length (names m))
  -- the transcriber accepts exactly the same and gives the tape that the passes define, and the
  -- naming operation the names
  pub transcriber : (e : Edition) (out out' : List ℕ) (r : Answer)
      → TranscribePromise e m out out' r
      → Exactly (NoneFits m) (Due m [] (length (tape e m)) (length out)) (tape e m) 0 out out' r
  pub naming : (out out' : List ℕ) (r : Answer) → NamePromise m out out' r
      → Exactly (NoneFits m) (Due m [] (length (names m)) (length out)) (names m) 0 out out' r
  -- the joiner judges its list of cuts as exactly
  pub joiner : (e : Edition) (cuts out out' : List ℕ) (r : Answer)
      → JoinPromise e m cuts out out' r
      → Exactly (NoneFits m × Rising m cuts) (Due m cuts (length (joined e m cuts)) (length out))
      (joined e m cuts) (live_count m cuts) out out' r

-- The two tapes in an edition. The first is the whole message's, `tape e m`; the second its parts'
-- and the marks of the cuts between them, `joined e m cuts`.
pub record TwoTapes (e : Edition) (m cuts : List ℕ) : Type 0 where
  -- each part is an accepted message of its own
  pub parts : EachPart NoneFits m cuts
  -- whatever the list, there are as many codes on the one as on the other
  pub lengths : length (joined e m cuts) ≡ length (tape e m)
  -- a live cut of the list makes them differ, and nothing else does
  pub equal : (joined e m cuts ≡ tape e m) ↔ NoneLive m cuts
  -- each cut of the list has its mark in both tapes, at one and the same index
  pub whole : (c : ℕ) → CutOf c cuts → SplitAt m c (tape e m)
  pub pieces : (c : ℕ) → CutOf c cuts → SplitAt m c (joined e m cuts)
  -- and a live one is heard there: a code beside that mark is another
  pub differs : (c : ℕ) → CutOf c cuts → is_live m c ≡ true
      → DiffersAt (tape e m) (joined e m cuts) (mark_index m c)

-- The output begins with the second tape, and a count of 0 tells that the first would be no other.
pub record Joins (e : Edition) (m cuts out out' : List ℕ) (r : Answer) : Type 0 where
  pub written : CarriedOut (joined e m cuts) (live_count m cuts) out out' r
  pub equal : (joined e m cuts ≡ tape e m) ↔ (live_of r ≡ 0)

-- Demand 3, for an accepted message m.
pub record Demand3 (m : List ℕ) : Type 0 where
  -- the empty list of cuts and the full one are strictly rising lists of places of breaks, too
  pub empty : Rising m []
  pub full : Rising m (breaks m)
  pub every : (c : ℕ) → is_break (get_or m c 0) ≡ true → CutOf c (breaks m)
  -- one claim over the whole list, in either edition, in which both tapes are read
  pub tapes : (e : Edition) (cuts : List ℕ) → Rising m cuts → TwoTapes e m cuts
  -- the joiner, with room for the second tape, whatever stood there before
  pub joiner : (e : Edition) (cuts : List ℕ) → Rising m cuts → (out out' : List ℕ) (r : Answer)
      → length (joined e m cuts) ≤ length out
      → JoinPromise e m cuts out out' r → Joins e m cuts out out' r
