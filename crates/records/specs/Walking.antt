-- What the walk over a book knows at a place. These are not the paper's words: `proofs/` shows that
-- they agree with them.
-- Assumes nothing: these are definitions.
use Rattle.std.specs.Prelude.{ℕ, ◌+◌, ◌<◌, ◌≤◌, ◌≡◌, cond, List, eqb, length, take}
use Rattle.std.specs.Prelude.{Option, None, Some, Result, Ok, Err}
use Rattle.spec.specs.Book.{book_storage, head_size, Reading, holds, unsound, book_in}
use Rattle.spec.specs.Book.{Search, none, entry, search, record_at, least_after}
use Rattle.spec.specs.declared.Refusal.{Refusal}
use Rattle.records.specs.declared.Seen.{Seen}

-- the book ends at place r of the buffer
pub record EndOf (buffer : List ℕ) (used r : ℕ) : Type 0 where
  pub inside : r ≤ length buffer
  pub book : take r buffer ≡ book_in buffer used

-- where the record under a number begins: at place i, where the search finds one
abbrev pub stands_at : Search → ℕ → Option ℕ
stands_at none i = None
stands_at (entry f) i = Some i

-- what the walk over a book comes to: the least number that may be added, and where the record of
-- number n begins
unfoldable pub walked_of : Reading → ℕ → Result Seen Refusal
walked_of (holds fs) n =
    Ok (record {
      least = least_after 0 fs;
      place = stands_at (search fs n) (record_at book_storage fs n);
    })
walked_of (unsound r) n = Err r

-- what was seen before a record, and is seen with it: it has this number, and begins at this place
abbrev pub noted : Seen → ℕ → ℕ → ℕ → Seen
noted s wanted number place =
    record { least = number + 1; place = cond (eqb number wanted) (Some place) s.place }

-- a head may be written at place i, for number n and a tape of so many codes
pub record HeadDue (out : List ℕ) (i n size : ℕ) : Type 0 where
  pub room : i + head_size ≤ length out
  pub number : n < 65536
  pub codes : size < 65536
