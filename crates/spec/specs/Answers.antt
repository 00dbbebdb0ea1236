-- Paper 01, 'Turned-away messages', what is answered and what the lent output holds afterwards, for
-- every operation.
-- Assumes nothing: these are definitions.
use Rattle.std.specs.Prelude.{ℕ, ◌≡◌, cond, List, ◌++◌, eqb, leb, length, drop, Ok, Err}
use Rattle.spec.specs.Numbers.{short_output, misplaced_cut}
use Rattle.spec.specs.Tape.{tape, names}
use Rattle.spec.specs.Refusals.{refusal, check_of}
use Rattle.spec.specs.Joints.{joined, live_count, bad_cut}
use Rattle.spec.specs.declared.Edition.{Edition}
use Rattle.spec.specs.Results.{Checked, Answer, wrote}

-- The paper's number, place, length and live count of an answer; an accepted message has number 0
-- and place 0.
unfoldable pub number_of : Answer → ℕ
number_of (Ok w) = 0
number_of (Err r) = r.number

unfoldable pub place_of : Answer → ℕ
place_of (Ok w) = 0
place_of (Err r) = r.place

unfoldable pub length_of : Answer → ℕ
length_of (Ok w) = w.length
length_of (Err r) = 0

unfoldable pub live_of : Answer → ℕ
live_of (Ok w) = w.live
live_of (Err r) = 0

-- The same of the check's answer, whose accepted case has the lengths of the tape and of the
-- naming.
unfoldable pub checked_number : Checked → ℕ
checked_number (Ok counts) = 0
checked_number (Err r) = r.number

unfoldable pub checked_place : Checked → ℕ
checked_place (Ok counts) = 0
checked_place (Err r) = r.place

unfoldable pub checked_codes : Checked → ℕ
checked_codes (Ok counts) = counts.codes
checked_codes (Err r) = 0

unfoldable pub checked_names : Checked → ℕ
checked_names (Ok counts) = counts.names
checked_names (Err r) = 0

-- number 11: a lent output of this room is too short for n bytes; the place is n
unfoldable pub within : ℕ → ℕ → ℕ → Answer
within room n live = cond (leb n room) (wrote n live) (Err (refusal short_output n))

-- the check's refusals come first
unfoldable pub after_check : Checked → Answer → Answer
after_check (Ok counts) a = a
after_check (Err r) a = Err r

-- what the lent output holds afterwards: the answer's bytes and then its own, or its own alone
unfoldable pub output_after : Answer → List ℕ → List ℕ → List ℕ
output_after (Ok w) text out = text ++ drop w.length out
output_after (Err r) text out = out

-- the naming operation, lent an output of this room
unfoldable pub name_answer : List ℕ → ℕ → Answer
name_answer m room = after_check (check_of m) (within room (length (names m)) 0)

-- the transcriber, in an edition
unfoldable pub tape_answer : Edition → List ℕ → ℕ → Answer
tape_answer e m room = after_check (check_of m) (within room (length (tape e m)) 0)

-- the joiner: number 12 after the check's and before 11
unfoldable pub join_answer : Edition → List ℕ → List ℕ → ℕ → Answer
join_answer e m cuts room =
    after_check (check_of m)
    (cond (eqb (bad_cut m cuts) (length cuts))
    (within room (length (joined e m cuts)) (live_count m cuts))
    (Err (refusal misplaced_cut (bad_cut m cuts))))

-- What an operation promises of its answer r and of what the lent output held, out, and holds
-- afterwards, out': the answer that is due, in number, place, length and live count, and the bytes
-- of it, text, before the output's own.
pub record Promise (due : Answer) (text out out' : List ℕ) (r : Answer) : Type 0 where
  pub answer : r ≡ due
  pub output : out' ≡ output_after due text out
  pub number : number_of r ≡ number_of due
  pub place : place_of r ≡ place_of due
  pub length : length_of r ≡ length_of due
  pub live : live_of r ≡ live_of due

-- the message check
pub record CheckPromise (m : List ℕ) (r : Checked) : Type 0 where
  pub answer : r ≡ check_of m
  pub number : checked_number r ≡ checked_number (check_of m)
  pub place : checked_place r ≡ checked_place (check_of m)
  pub codes : checked_codes r ≡ checked_codes (check_of m)
  pub names : checked_names r ≡ checked_names (check_of m)

abbrev pub NamePromise : List ℕ → List ℕ → List ℕ → Answer → Type 0
NamePromise m out out' r = Promise (name_answer m (length out)) (names m) out out' r

abbrev pub TranscribePromise : Edition → List ℕ → List ℕ → List ℕ → Answer → Type 0
TranscribePromise e m out out' r =
    Promise (tape_answer e m (length out)) (tape e m) out out' r

abbrev pub JoinPromise : Edition → List ℕ → List ℕ → List ℕ → List ℕ → Answer → Type 0
JoinPromise e m cuts out out' r =
    Promise (join_answer e m cuts (length out)) (joined e m cuts) out out' r

-- A promise carried on in another form: some answer keeps it, and r says that answer.
pub record Carried {A R : Type 0} (Kept : A → Type 0) (Said : A → R → Type 0) (r : R) : Type 0 where
  pub answer : A
  pub promise : Kept answer
  pub said : Said answer r
