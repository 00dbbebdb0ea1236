-- The phrase book (paper 02, requests 6 to 8): lists of sets, of books, of lookups and of additions, proved by computing the definitions.
-- Assumes nothing.
use Prim.Native.Nat.{ℕ}
use Prim.Native.String as text
use mathlib.Core.Path.{◌≡◌, refl}
use mathlib.Core.Bool.{Bool, true, false}
use mathlib.Core.List.{List, [], ◌∷◌, ◌++◌, map}
use lib.ListN.{length}
use Rattle.spec.specs.Refusals.{refusal}
use Rattle.spec.specs.Answers.{output_after}
use Rattle.spec.specs.SpokenLevels.{bytes}
use Rattle.spec.specs.Listeners.{may_hear}
use Rattle.spec.specs.Book.{Phrase, book_storage, records, Reading, holds, unsound, read_book, book_in, find_answer, tape_after}
use Rattle.spec.specs.Book.{NewPhrase, with_addition, add_answer, locate_answer}
use Rattle.spec.specs.declared.Edition.{Edition}
use Rattle.spec.specs.declared.Edition.TheVariants.{One, Two}
use Rattle.spec.specs.Results.{Answer, wrote, Found, Located, spanning}
use Rattle.spec.specs.declared.Listener.{Listener}
use Rattle.spec.specs.declared.Listener.TheVariants.{Pump, Road, Dispatch}
use Rattle.spec.proofs.Computed.{everything}
use Rattle.std.proofs.Common.{Ok, Err}

-- who may hear a phrase with this set
abbrev hearers : ℕ → Bool × Bool × Bool
hearers set = (may_hear Pump set, may_hear Road set, may_hear Dispatch set)

-- nobody, each alone, all; bits 3 to 7, and those with road's
pub sets_right : map hearers (0 ∷ 1 ∷ 2 ∷ 4 ∷ 7 ∷ 248 ∷ 250 ∷ [])
    ≡ ((false, false, false) ∷ (true, false, false) ∷ (false, true, false) ∷ (false, false, true)
    ∷ (true, true, true) ∷ (false, false, false) ∷ (false, true, false) ∷ [])
unfolding everything
sets_right = refl

abbrev phrase : ℕ → ℕ → List ℕ → Phrase
phrase n set t = record { number = n; set = set; count = length t; stored = book_storage.store t }

-- two records: number 1 for pump crews and dispatch, with the tape of дуб, and 770, which is 3 * 256 + 2, for road crews, with a tape of
-- one code; its set has bits 3 to 7, too
unfoldable pub first : List ℕ
first = 82 ∷ 159 ∷ 1 ∷ 0 ∷ 5 ∷ 3 ∷ 0 ∷ 24 ∷ 6 ∷ 39 ∷ []

unfoldable pub second : List ℕ
second = 82 ∷ 159 ∷ 2 ∷ 3 ∷ 250 ∷ 1 ∷ 0 ∷ 1 ∷ []

unfoldable pub phrases : List Phrase
phrases = phrase 1 5 (24 ∷ 6 ∷ 39 ∷ []) ∷ phrase 770 250 (1 ∷ []) ∷ []

pub records_right : records book_storage phrases ≡ first ++ second
unfolding everything phrases first second
records_right = refl

-- a book, and what it holds
pub record Example : Type 0 where
  pub book : List ℕ
  pub reading : Reading

-- Sound books: none, two, the first number 0, a tape of no code, the last number there is. Then 15: cut short by the last byte, in the
-- head, a byte after the last record, either byte of the mark wrong, a record of request 6, a length that is one too large or has its bytes
-- exchanged. Then 16: equal, smaller. At one place 15 before 16, and else the smallest place.
unfoldable pub examples : List Example
examples =
    (record { book = []; reading = holds [] }) ∷
    (record { book = first ++ second; reading = holds phrases }) ∷
    (record { book = 82 ∷ 159 ∷ 0 ∷ 0 ∷ 7 ∷ 0 ∷ 0 ∷ first; reading = holds (phrase 0 7 [] ∷ phrase 1 5 (24 ∷ 6 ∷ 39 ∷ []) ∷ []) }) ∷
    (record { book = 82 ∷ 159 ∷ 255 ∷ 255 ∷ 0 ∷ 0 ∷ 0 ∷ []; reading = holds (phrase 65535 0 [] ∷ []) }) ∷
    (record { book = first ++ (82 ∷ 159 ∷ 2 ∷ 3 ∷ 250 ∷ 1 ∷ 0 ∷ []); reading = unsound (refusal 15 10) }) ∷
    (record { book = first ++ (82 ∷ 159 ∷ 2 ∷ 3 ∷ 250 ∷ 0 ∷ []); reading = unsound (refusal 15 10) }) ∷
    (record { book = first ++ (82 ∷ 159 ∷ []); reading = unsound (refusal 15 10) }) ∷
    (record { book = first ++ second ++ (82 ∷ []); reading = unsound (refusal 15 18) }) ∷
    (record { book = 83 ∷ 159 ∷ 1 ∷ 0 ∷ 7 ∷ 0 ∷ 0 ∷ []; reading = unsound (refusal 15 0) }) ∷
    (record { book = 82 ∷ 160 ∷ 1 ∷ 0 ∷ 7 ∷ 0 ∷ 0 ∷ []; reading = unsound (refusal 15 0) }) ∷
    (record { book = 82 ∷ 158 ∷ 1 ∷ 0 ∷ 3 ∷ 0 ∷ 24 ∷ 6 ∷ 39 ∷ []; reading = unsound (refusal 15 0) }) ∷
    (record { book = 82 ∷ 159 ∷ 1 ∷ 0 ∷ 5 ∷ 4 ∷ 0 ∷ 24 ∷ 6 ∷ 39 ∷ []; reading = unsound (refusal 15 0) }) ∷
    (record { book = 82 ∷ 159 ∷ 1 ∷ 0 ∷ 5 ∷ 0 ∷ 3 ∷ 24 ∷ 6 ∷ 39 ∷ []; reading = unsound (refusal 15 0) }) ∷
    (record { book = first ++ first; reading = unsound (refusal 16 10) }) ∷
    (record { book = first ++ (82 ∷ 159 ∷ 0 ∷ 0 ∷ 5 ∷ 0 ∷ 0 ∷ []); reading = unsound (refusal 16 10) }) ∷
    (record { book = second ++ first; reading = unsound (refusal 16 8) }) ∷
    (record { book = first ++ (82 ∷ 159 ∷ 1 ∷ 0 ∷ 5 ∷ 1 ∷ 0 ∷ []); reading = unsound (refusal 15 10) }) ∷
    (record { book = first ++ first ++ (82 ∷ []); reading = unsound (refusal 16 10) }) ∷
    (record { book = first ++ (0 ∷ first); reading = unsound (refusal 15 10) }) ∷ []

pub readings_right : map (λ (e : Example). read_book book_storage e.book) examples ≡ map (λ (e : Example). e.reading) examples
unfolding everything examples phrases first second
readings_right = refl

-- a lookup by a listener, in a buffer with a used count; what is told, what is handed back where 9 was before, and where it stands
pub record Lookup : Type 0 where
  pub listener : Listener
  pub buffer : List ℕ
  pub used : ℕ
  pub number : ℕ
  pub told : Found
  pub tape : List ℕ
  pub place : Located

abbrev heard_at : Listener → List ℕ → ℕ → ℕ → List ℕ → ℕ → Lookup
heard_at l buffer used n t start =
    record { listener = l; buffer = buffer; used = used; number = n; told = Ok tt; tape = t; place = spanning start (length t) }

abbrev refused_at : Listener → List ℕ → ℕ → ℕ → ℕ → ℕ → Lookup
refused_at l buffer used n k p =
    let r = refusal k p in
    record { listener = l; buffer = buffer; used = used; number = n; told = Err r; tape = 9 ∷ []; place = Err r }

-- Each record by each listener, and a number that is not there, which gets the same answer as one that is not for him. Bytes after the used
-- count, which are no part of the book; a count above the buffer's length. 15 and 16 before 17, for a record that is found before the book
-- turns out to be damaged, for one that is not for this listener, and for none.
unfoldable pub lookups : List Lookup
lookups =
    heard_at Pump (first ++ second) 18 1 (24 ∷ 6 ∷ 39 ∷ []) 7 ∷
    refused_at Road (first ++ second) 18 1 17 0 ∷
    heard_at Dispatch (first ++ second) 18 1 (24 ∷ 6 ∷ 39 ∷ []) 7 ∷
    refused_at Pump (first ++ second) 18 770 17 0 ∷
    heard_at Road (first ++ second) 18 770 (1 ∷ []) 17 ∷
    refused_at Dispatch (first ++ second) 18 770 17 0 ∷
    refused_at Dispatch (first ++ second) 18 2 17 0 ∷
    refused_at Road (first ++ second) 10 770 17 0 ∷
    heard_at Pump (first ++ (0 ∷ 0 ∷ [])) 10 1 (24 ∷ 6 ∷ 39 ∷ []) 7 ∷
    refused_at Pump (first ++ second) 0 1 17 0 ∷
    heard_at Road (first ++ second) 1000 770 (1 ∷ []) 17 ∷
    refused_at Pump (first ++ second) 17 1 15 10 ∷
    refused_at Road (first ++ second) 17 1 15 10 ∷
    refused_at Road (first ++ second) 17 3 15 10 ∷
    refused_at Road (first ++ first) 20 1 16 10 ∷ []

abbrev reading_of : Lookup → Reading
reading_of l = read_book book_storage (book_in l.buffer l.used)

pub told_right : map (λ (l : Lookup). find_answer book_storage l.listener (reading_of l) l.number) lookups
    ≡ map (λ (l : Lookup). l.told) lookups
unfolding everything lookups first second
told_right = refl

pub tapes_right : map (λ (l : Lookup). tape_after book_storage l.listener (reading_of l) l.number (9 ∷ [])) lookups
    ≡ map (λ (l : Lookup). l.tape) lookups
unfolding everything lookups first second
tapes_right = refl

pub places_right : map (λ (l : Lookup). locate_answer l.listener (reading_of l) l.number) lookups
    ≡ map (λ (l : Lookup). l.place) lookups
unfolding everything lookups first second
places_right = refl

-- an addition by a listener, what is answered, and what the buffer holds afterwards
pub record Added : Type 0 where
  pub listener : Listener
  pub buffer : List ℕ
  pub used : ℕ
  pub edition : Edition
  pub number : ℕ
  pub set : ℕ
  pub message : text.String
  pub answer : Answer
  pub after : List ℕ

abbrev adds : List ℕ → ℕ → Edition → ℕ → ℕ → text.String → ℕ → List ℕ → Added
adds buffer used e n set m size after =
    let r = wrote size 0 in
    record { listener = Dispatch; buffer = buffer; used = used; edition = e; number = n; set = set; message = m; answer = r; after = after }

abbrev refuses : Listener → List ℕ → ℕ → ℕ → text.String → ℕ → ℕ → Added
refuses l buffer used n m k p =
    let r = Err (refusal k p) in
    record { listener = l; buffer = buffer; used = used; edition = Two; number = n; set = 5; message = m; answer = r; after = buffer }

-- To an empty book with just room, with a byte more, in either edition, and with a byte less. To a book, whose last bytes stay; a count
-- above the buffer's length. A number that is equal to the last, below it, and any after 65535. Then the order: 17 before the message's
-- refusal, before the book's and before all others; the message's refusal before the book's, 15 before 16 at the end, and 11 last.
unfoldable pub additions : List Added
additions =
    adds (7 ∷ 7 ∷ 7 ∷ 7 ∷ 7 ∷ 7 ∷ 7 ∷ 7 ∷ 7 ∷ 7 ∷ []) 0 One 1 5 "ду*б" 10 first ∷
    adds (second ++ (7 ∷ 7 ∷ 7 ∷ [])) 0 One 1 5 "ду*б" 10 (first ++ (7 ∷ [])) ∷
    adds (first ++ first) 0 One 3 5 "я" 9 (82 ∷ 159 ∷ 3 ∷ 0 ∷ 5 ∷ 2 ∷ 0 ∷ 28 ∷ 8 ∷ 39 ∷ first) ∷
    adds (first ++ first) 0 Two 3 5 "я" 9 (82 ∷ 159 ∷ 3 ∷ 0 ∷ 5 ∷ 2 ∷ 0 ∷ 28 ∷ 10 ∷ 39 ∷ first) ∷
    refuses Dispatch (7 ∷ second) 0 1 "ду*б" 11 10 ∷
    adds (first ++ first) 10 One 770 250 "а*" 18 (first ++ second ++ (6 ∷ 39 ∷ [])) ∷
    refuses Dispatch first 1000 770 "а*" 11 18 ∷
    refuses Dispatch (first ++ first) 10 1 "а*" 16 10 ∷
    refuses Dispatch (first ++ first) 10 0 "а*" 16 10 ∷
    refuses Dispatch (82 ∷ 159 ∷ 255 ∷ 255 ∷ 7 ∷ 0 ∷ 0 ∷ first) 7 65535 "а*" 16 7 ∷
    refuses Pump (first ++ first) 10 770 "а*" 17 0 ∷
    refuses Road (first ++ first) 10 770 "а*" 17 0 ∷
    refuses Road (first ++ second) 17 1 "ъ" 17 0 ∷
    refuses Pump (first ++ second) 17 1 "а*" 17 0 ∷
    refuses Dispatch (first ++ second) 17 1 "ъ" 6 0 ∷
    refuses Dispatch (first ++ second) 17 1 "а*" 15 10 ∷
    refuses Dispatch (first ++ first) 20 770 "а*" 16 10 ∷
    refuses Dispatch first 10 1 "а*" 16 10 ∷ []

abbrev asks : Added → NewPhrase
asks a = record { edition = a.edition; number = a.number; set = a.set; message = bytes a.message }

abbrev answer_of : Added → Answer
answer_of a = add_answer book_storage a.listener (book_in a.buffer a.used) (asks a) (length a.buffer)

pub answers_right : map answer_of additions ≡ map (λ (a : Added). a.answer) additions
unfolding everything additions first second
answers_right = refl

abbrev buffer_of : Added → List ℕ
buffer_of a = output_after (answer_of a) (with_addition book_storage (book_in a.buffer a.used) (asks a)) a.buffer

pub buffers_right : map buffer_of additions ≡ map (λ (a : Added). a.after) additions
unfolding everything additions first second
buffers_right = refl
