-- Paper 02, requests 6, 7 and 8, a phrase book: taped phrases under numbers, each with its set of
-- listeners, in a lent buffer.
-- Assumes nothing: these are definitions.
use Rattle.std.specs.Prelude.{ℕ, zero, suc, ◌+◌, ◌-◌, ◌*◌, ◌/◌, ◌%◌, ◌<◌, ◌≤◌, ◌≡◌, Bool, cond}
use Rattle.std.specs.Prelude.{◌&&◌, not, List, [], ◌∷◌, ◌++◌, eqb, leb, length, take, drop, get_or}
use Rattle.std.specs.Prelude.{Result, Ok, Err}
use Rattle.std.specs.Borrow.{Bor}
use Rattle.spec.specs.Numbers.{broken_record, number_not_above}
use Rattle.spec.specs.Tape.{tape}
use Rattle.spec.specs.Tables.{same}
use Rattle.spec.specs.Refusals.{refusal, check_of}
use Rattle.spec.specs.Answers.{within, after_check, Promise}
use Rattle.spec.specs.Listeners.{may_hear, may_write, withheld}
use Rattle.spec.specs.declared.Edition.{Edition}
use Rattle.spec.specs.declared.Listener.{Listener}
use Rattle.spec.specs.declared.Refusal.{Refusal}
use Rattle.spec.specs.Results.{Answer, Found, Located, spanning}

infix 40 ◌then◌
-- A phrase of the book: its number, the set of its listeners, how many codes its tape has, and the
-- bytes that it is stored as.
pub record Phrase : Type 0 where
  pub number : ℕ
  pub set : ℕ
  pub count : ℕ
  pub stored : List ℕ

-- How a book stores tapes: the second byte of a record's mark, how many bytes n codes take, the
-- bytes of a tape, and the n codes that bytes hold.
pub record Storage : Type 0 where
  pub mark : ℕ
  pub size : ℕ → ℕ
  pub store : List ℕ → List ℕ
  pub codes : ℕ → List ℕ → List ℕ

-- Requests 6 and 7: each code is a byte. The mark is 52 9F, in hexadecimal.
abbrev pub plain : Storage
plain = record { mark = 159; size = λ n. n; store = λ t. t; codes = take }

-- the storage of the books that the library reads and writes
abbrev pub book_storage : Storage
book_storage = plain

-- A tape is stored in as many bytes as its codes take.
abbrev pub Sized : Storage → Type 0
Sized st = (t : List ℕ) → length (st.store t) ≡ st.size (length t)

-- What does not depend on the storage comes first. Request 6, the record: a number or a count is
-- two bytes, low byte first.
unfoldable pub two_bytes : ℕ → List ℕ
two_bytes n = n % 256 ∷ n / 256 ∷ []

-- Request 6, the record read back from bytes x that begin where a record should: how long its head
-- is, and where in the head number, set and the tape's length stand.
abbrev pub head_size : ℕ
head_size = 7

abbrev pub number_place : ℕ
number_place = 2

abbrev pub set_place : ℕ
set_place = 4

abbrev pub length_place : ℕ
length_place = 5

-- the two bytes from place k on
unfoldable pub pair_at : ℕ → List ℕ → ℕ
pair_at k x = get_or x k 0 + get_or x (suc k) 0 * 256

abbrev pub number_in : List ℕ → ℕ
number_in x = pair_at number_place x

abbrev pub set_in : List ℕ → ℕ
set_in x = get_or x set_place 0

abbrev pub length_in : List ℕ → ℕ
length_in x = pair_at length_place x

-- Number 16: the number is not above the one before; the least that is above it is handed down, 0
-- for a book's first record.
unfoldable pub row16 : ℕ → List ℕ → Bool
row16 least x = not (leb least (number_in x))

-- What a book holds: its phrases in order, or where it is not sound its refusal.
pub data Reading : Type 0 where
  holds : List Phrase → Reading
  unsound : Refusal → Reading

-- a phrase, and what the records after it hold
unfoldable pub ◌then◌ : Phrase → Reading → Reading
f then (holds fs) = holds (f ∷ fs)
f then (unsound r) = unsound r

-- what a buffer holds: bytes, each below 256
abbrev pub Bytes : List ℕ → Type 0
Bytes x = (j : ℕ) → get_or x j 0 < 256

-- The book is the first part of a lent buffer, as long as the used count says; where the count is
-- above the buffer's length it is the whole buffer.
unfoldable pub book_in : List ℕ → ℕ → List ℕ
book_in buffer used = take used buffer

-- Request 6, the lookup. What stands under a number: a phrase, or none
pub data Search : Type 0 where
  none : Search
  entry : Phrase → Search

unfoldable pub search : List Phrase → ℕ → Search
search [] n = none
search (f ∷ fs) n = cond (eqb f.number n) (entry f) (search fs n)

-- Request 7: what a listener may hear of what stands under a number, a tape or nothing.
pub data Heard : Type 0 where
  nothing : Heard
  aloud : List ℕ → Heard

-- What a lookup tells where this is heard, and what it hands back: the tape, and else what was
-- there before.
unfoldable pub told : Heard → Found
told nothing = Err withheld
told (aloud t) = Ok tt

unfoldable pub handed : Heard → List ℕ → List ℕ
handed nothing old = old
handed (aloud t) old = t

-- What someone who is no listener is told, as a caller in C can be, since he may hear nothing: the
-- book's own refusal, or 17 where it is sound.
unfoldable pub unheard : Reading → Refusal
unheard (holds fs) = withheld
unheard (unsound r) = r

-- Request 6, the writer. First of all 17, for any listener but dispatch (request 7)
unfoldable pub after_listener : Listener → Answer → Answer
after_listener l a = cond (may_write l) a (Err withheld)

-- the least number that is above the last one's
unfoldable pub least_after : ℕ → List Phrase → ℕ
least_after least [] = least
least_after least (f ∷ fs) = least_after (suc f.number) fs

-- the book's refusals: those of its records, and 16 at its end for a number that is not above the
-- last one's
unfoldable pub after_book : Reading → ℕ → ℕ → Answer → Answer
after_book (holds fs) n bookEnd a =
    cond (leb (least_after 0 fs) n) a (Err (refusal number_not_above bookEnd))
after_book (unsound r) n bookEnd a = Err r

-- what an addition asks for: a message in an edition under a number, for a set of listeners
pub record NewPhrase : Type 0 where
  pub edition : Edition
  pub number : ℕ
  pub set : ℕ
  pub message : List ℕ

-- A book in a storage.
module _ (st : Storage) where
  -- Request 6, the mark of a record; the second byte tells the storage.
  unfoldable pub record_mark : List ℕ
  record_mark = 82 ∷ st.mark ∷ []

  -- The head of a record: mark, number, the set as it was given (request 7), and how many codes the
  -- tape has.
  unfoldable pub head_of : ℕ → ℕ → ℕ → List ℕ
  head_of number set count = record_mark ++ (two_bytes number ++ (set ∷ two_bytes count))

  -- A record: its head, and then the bytes that the tape is stored as.
  unfoldable pub record_of : Phrase → List ℕ
  record_of f = head_of f.number f.set f.count ++ f.stored

  -- The records of phrases, one after the other.
  unfoldable pub records : List Phrase → List ℕ
  records [] = []
  records (f ∷ fs) = record_of f ++ records fs

  -- How many bytes the record at the start of x has, and the phrase that it holds.
  abbrev pub span_in : List ℕ → ℕ
  span_in x = head_size + st.size (length_in x)

  unfoldable pub phrase_in : List ℕ → Phrase
  phrase_in x = record {
    number = number_in x;
    set = set_in x;
    count = length_in x;
    stored = take (st.size (length_in x)) (drop head_size x);
  }

  -- A record stands there: its mark, its head and its whole tape.
  unfoldable pub has_record_mark : List ℕ → Bool
  has_record_mark x = same (take 2 x) record_mark

  unfoldable pub is_whole : List ℕ → Bool
  is_whole x = leb head_size (length x) && leb (span_in x) (length x)

  unfoldable pub is_record : List ℕ → Bool
  is_record x = has_record_mark x && is_whole x

  -- Number 15: the mark is missing, or the record is cut short, in its head or in its tape.
  unfoldable pub row15 : List ℕ → Bool
  row15 x = not (is_record x)

  -- Bytes x from this place of a book on, record by record. The first of them belong to the record
  -- before, as many as skip says, and are passed over. At a record's start 15 comes before 16; a
  -- refusal there ends the reading, so it is the one with the smallest place.
  unfoldable pub read_from : ℕ → ℕ → ℕ → List ℕ → Reading
  read_from skip place least [] = holds []
  read_from (suc skip) place least (b ∷ x) = read_from skip (suc place) least x
  read_from zero place least (b ∷ x) =
      cond (row15 (b ∷ x)) (unsound (refusal broken_record place))
      (cond (row16 least (b ∷ x)) (unsound (refusal number_not_above place))
      (phrase_in (b ∷ x)
      then read_from (span_in (b ∷ x) - 1) (suc place) (suc (number_in (b ∷ x))) x))

  unfoldable pub read_book : List ℕ → Reading
  read_book book = read_from 0 0 0 book

  -- Request 6, the lookup: where in the book the record under a number begins.
  unfoldable pub record_at : List Phrase → ℕ → ℕ
  record_at [] n = 0
  record_at (f ∷ fs) n = cond (eqb f.number n) 0 (length (record_of f) + record_at fs n)

  -- the tape of a phrase
  abbrev pub tape_of : Phrase → List ℕ
  tape_of f = st.codes f.count f.stored

  -- Request 7: a listener hears the phrase under a number where he is in its set, and nothing alike
  -- where there is none and where he is not in its set.
  unfoldable pub heard : Listener → Search → Heard
  heard l none = nothing
  heard l (entry f) = cond (may_hear l f.set) (aloud (tape_of f)) nothing

  -- A lookup's answer: the book's own refusals come before 17.
  unfoldable pub find_answer : Listener → Reading → ℕ → Found
  find_answer l (holds fs) n = told (heard l (search fs n))
  find_answer l (unsound r) n = Err r

  unfoldable pub tape_after : Listener → Reading → ℕ → List ℕ → List ℕ
  tape_after l (holds fs) n old = handed (heard l (search fs n)) old
  tape_after l (unsound r) n old = old

  -- The lookup of number n by a listener. A place that takes what is handed back refers to some
  -- bytes before, old, and afterwards to new.
  pub record FindPromise (l : Listener) (buffer : List ℕ) (used n : ℕ) (old new : List ℕ)
      (r : Found) : Type 0 where
    pub answer : r ≡ find_answer l (read_book (book_in buffer used)) n
    pub tape : new ≡ tape_after l (read_book (book_in buffer used)) n old

  -- Request 6, the writer: the phrase that an addition makes, with the message's tape in the
  -- edition that it names (request 8), and the book with the addition. A record does not tell the
  -- edition.
  abbrev pub phrase_of : NewPhrase → Phrase
  phrase_of x = record {
    number = x.number;
    set = x.set;
    count = length (tape x.edition x.message);
    stored = st.store (tape x.edition x.message);
  }

  unfoldable pub with_addition : List ℕ → NewPhrase → List ℕ
  with_addition book x = book ++ record_of (phrase_of x)

  -- 17, then the message's own refusals, then the book's, then 11 for a buffer of this room
  unfoldable pub add_answer : Listener → List ℕ → NewPhrase → ℕ → Answer
  add_answer l book x room =
      after_listener l
      (after_check (check_of x.message)
      (after_book (read_book book) x.number (length book)
      (within room (length (with_addition book x)) 0)))

  -- The addition of a new phrase by listener l. The output is the buffer, and the length that is
  -- answered is the new used count.
  abbrev pub AddPromise : Listener → List ℕ → ℕ → NewPhrase → List ℕ → Answer → Type 0
  AddPromise l buffer used x buffer' r =
      let book = book_in buffer used in
      Promise (add_answer l book x (length buffer)) (with_addition book x) buffer buffer' r

  -- A phrase that a record has room for: number and count have two bytes each, the set is a byte,
  -- and the tape is stored in as many bytes as its codes take.
  pub record Fits (f : Phrase) : Type 0 where
    pub number : f.number < 65536
    pub set : f.set < 256
    pub count : f.count < 65536
    pub stored : length f.stored ≡ st.size f.count

  -- numbers that rise strictly, from a least one on
  abbrev pub RisingFrom : ℕ → List Phrase → Type 0
  RisingFrom least [] = Unit {0}
  RisingFrom least (f ∷ fs) = Fits f × (least ≤ f.number) × RisingFrom (suc f.number) fs

  -- these bytes are a sound book, and it holds these phrases
  pub record Sound (book : List ℕ) (fs : List Phrase) : Type 0 where
    pub bytes : book ≡ records fs
    pub rising : RisingFrom 0 fs

-- The lookup told by where the tape stands in the buffer. This is for the plain storage alone,
-- where the bytes behind a record's head are the tape itself. Where the tape begins:
abbrev pub start_of : List Phrase → ℕ → ℕ
start_of fs n = record_at plain fs n + head_size

unfoldable pub placed : ℕ → Heard → Located
placed start nothing = Err withheld
placed start (aloud t) = spanning start (length t)

unfoldable pub locate_answer : Listener → Reading → ℕ → Located
locate_answer l (holds fs) n = placed (start_of fs n) (heard plain l (search fs n))
locate_answer l (unsound r) n = Err r

-- what such a lookup tells without the place
unfoldable pub told_of : Located → Found
told_of (Ok s) = Ok tt
told_of (Err r) = Err r

-- the bytes of the buffer that such a lookup tells of, and where they end
unfoldable pub part_at : Located → List ℕ → List ℕ
part_at (Ok s) buffer = take s.length (drop s.start buffer)
part_at (Err r) buffer = []

unfoldable pub end_of : Located → ℕ
end_of (Ok s) = s.start + s.length
end_of (Err r) = 0

pub record LocatePromise (l : Listener) (buffer : List ℕ) (used n : ℕ) (r : Located) : Type 0 where
  pub answer : r ≡ locate_answer l (read_book plain (book_in buffer used)) n
  pub tape : part_at r buffer ≡ tape_after plain l (read_book plain (book_in buffer used)) n []
  pub inside : end_of r ≤ length buffer

-- What the lookup hands back are the tape's own bytes: in memory they stand in the buffer, from
-- that start on. Where there is none to hand back a place that takes it refers to what it did
-- before.
unfoldable pub stands_after : Located → ℕ × ℕ → ℕ × ℕ → ℕ × ℕ
stands_after (Ok s) buffer old = (buffer.0, s.start + buffer.1)
stands_after (Err r) buffer old = old

-- A lookup that hands back a part of the buffer, as the answer of its promise; which bytes a place
-- holds that takes the part, and keeps what it had where there is a refusal; and where these stand.
abbrev pub as_found : Result (Bor (List ℕ)) Refusal → Found
as_found (Ok t) = Ok tt
as_found (Err r) = Err r

abbrev pub taken : Result (Bor (List ℕ)) Refusal → List ℕ → List ℕ
taken (Ok t) old = t.now
taken (Err r) old = old

abbrev pub stands_at_last : Result (Bor (List ℕ)) Refusal → ℕ × ℕ → ℕ × ℕ
stands_at_last (Ok t) old = t.ref_ptr
stands_at_last (Err r) old = old
