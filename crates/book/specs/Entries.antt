-- What the code is told at a place of a book, and where it may write a record. These are not the
-- paper's words: `proofs/` shows that they agree with them.
-- Assumes nothing: these are definitions.
use Rattle.std.specs.Prelude.{ℕ, ◌+◌, ◌<◌, ◌≤◌, ◌≡◌, cond, List, length, drop}
use Rattle.std.specs.Prelude.{Option, None, Some, Ok, Err}
use Rattle.spec.specs.Book.{head_size, set_in, length_in, NewPhrase}
use Rattle.spec.specs.Listeners.{may_hear, withheld}
use Rattle.spec.specs.Tape.{sounds}
use Rattle.spec.specs.Refusals.{check_of}
use Rattle.spec.specs.declared.Counts.{Counts}
use Rattle.spec.specs.declared.Listener.{Listener}
use Rattle.spec.specs.Results.{Answer, Found, Located, spanning}
use Rattle.book.specs.declared.adding.Addition.{Addition}

-- a place where a record begins, with its whole head, or none
abbrev pub PlaceIn : List ℕ → Option ℕ → Type 0
PlaceIn book None = Unit {0}
PlaceIn book (Some i) = i + head_size ≤ length book

-- what a listener is told there
abbrev pub told_at : Listener → List ℕ → Option ℕ → Located
told_at l book None = Err withheld
told_at l book (Some i) =
    cond (may_hear l (set_in (drop i book))) (spanning (i + head_size) (length_in (drop i book)))
    (Err withheld)

-- an addition as the papers' definitions have it
abbrev pub asked : Addition → NewPhrase
asked x =
    record { edition = x.edition; number = x.number; set = x.set; message = x.message.now }

-- what an answer tells without how much was written
abbrev pub unwritten : Answer → Found
unwritten (Ok w) = Ok tt
unwritten (Err r) = Err r

-- a record may be written at place i, for number n, with the tape of an accepted message, which has
-- this size
pub record RecordDue (m out : List ℕ) (i n size : ℕ) : Type 0 where
  pub counts : Counts
  pub accepted : check_of m ≡ Ok counts
  pub codes : size ≡ length (sounds m)
  pub few : size < 65536
  pub number : n < 65536
  pub room : i + head_size + size ≤ length out
