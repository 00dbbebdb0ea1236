-- What dispatch's addition answers where the check does not refuse: the book's refusal, then number 11, and else the record stands behind
-- the book.
use Rattle.laws.proofs.Kit.{ℕ, ◌+◌, ◌<◌, ◌≤◌, ◌≡◌, refl, sym, ap, ◌∙◌, arith, List, append_assoc, leb, length, take, drop, length-append}
use Rattle.laws.proofs.Kit.{length-take-le}
use Rattle.spec.specs.Book.{book_storage, head_size, record_of, Reading, holds, unsound, read_book, book_in, least_after, after_listener}
use Rattle.spec.specs.Book.{after_book, NewPhrase, phrase_of, with_addition, add_answer, AddPromise}
use Rattle.spec.specs.Answers.{after_check, output_after}
use Rattle.spec.specs.{declared.Listener.TheVariants.Dispatch, Refusals.refusal, Refusals.check_of, declared.Refusal.Refusal}
use Rattle.spec.specs.{declared.Counts.Counts, Results.Answer}
use Rattle.laws.proofs.{Classes.either, Accepted.accepted_counts, Editions.tape_length, Book.record_size, Promises.promised}
use Rattle.laws.proofs.{Promises.promised_short}
use Rattle.laws.proofs.Promises.{promised_written}
use Rattle.laws.specs.Putting.{Put}
use Rattle.records.specs.Walking.{EndOf}
use Rattle.std.proofs.Common.{Ok, Err}
use Rattle.spec.specs.Results.{Found, wrote}
use Rattle.book.specs.Entries.{unwritten}

-- a refusal, or what is answered where there is none
abbrev unless_refused : Found → Answer → Answer
unless_refused (Ok w) a = a
unless_refused (Err x) a = Err x

-- The book refuses alike whatever else would be answered.
whatever : (r : Reading) (n bookEnd : ℕ) (a : Answer)
    → after_book r n bookEnd a ≡ unless_refused (unwritten (after_book r n bookEnd (wrote 0 0))) a
unfolding after_book
whatever (holds fs) n bookEnd a = either (leb (least_after 0 fs) n) (λ q. rw q refl) (λ q. rw q refl)
whatever (unsound x) n bookEnd a = refl

-- What the check refuses is not added.
pub add_unchecked : (buffer : List ℕ) (used : ℕ) (x : NewPhrase) {refusal : Refusal} → check_of x.message ≡ Err refusal
    → AddPromise book_storage Dispatch buffer used x buffer (Err refusal)
unfolding add_answer after_listener after_check output_after
add_unchecked buffer used x e = rw e (promised _ _ _ _ _ refl refl)

module _ (buffer : List ℕ) (used : ℕ) (x : NewPhrase) {counts : Counts} (accepted : check_of x.message ≡ Ok counts)
    {bookEnd : ℕ} (ends : EndOf buffer used bookEnd)
    {judged : Found}
    (asked : judged
    ≡ unwritten (after_book (read_book book_storage (take bookEnd buffer)) x.number (length (take bookEnd buffer)) (wrote 0 0))) where
  abbrev book : List ℕ
  book = book_in buffer used

  -- the book was judged
  of_book_lem : (a : Answer) → after_book (read_book book_storage book) x.number (length book) a ≡ unless_refused judged a
  of_book_lem a = rw (asked, ends.book) (whatever (read_book book_storage book) x.number (length book) a)

  pub add_refused : {refusal : Refusal} → judged ≡ Err refusal → AddPromise book_storage Dispatch buffer used x buffer (Err refusal)
  unfolding add_answer after_listener after_check output_after
  add_refused e = rw (accepted, of_book_lem _, e) (promised _ _ _ _ _ refl refl)

  module _ (opens : judged ≡ Ok tt) where
    -- so many bytes has the book with the addition
    pub total : bookEnd + head_size + counts.codes ≡ length (with_addition book_storage book x)
    unfolding with_addition
    total =
        let f = phrase_of book_storage x in
        let n = (accepted_counts x.message counts accepted).0 ∙ sym (tape_length x.edition x.message) in
        let e = length-take-le bookEnd buffer ends.inside in
        omega (arith, length-append book (record_of book_storage f), record_size book_storage f, n, ap length ends.book, e)

    pub add_short : length buffer < bookEnd + head_size + counts.codes
        → AddPromise book_storage Dispatch buffer used x buffer (Err (refusal 11 (bookEnd + head_size + counts.codes)))
    unfolding add_answer after_listener after_check
    add_short h = rw (accepted, of_book_lem _, opens) (promised_short total 0 h)

    pub add_written : {buffer' : List ℕ} {k : ℕ} → bookEnd + head_size + counts.codes ≤ length buffer
        → Put (record_of book_storage (phrase_of book_storage x)) buffer buffer' k bookEnd
        → AddPromise book_storage Dispatch buffer used x buffer' (wrote k 0)
    unfolding add_answer after_listener after_check with_addition
    add_written {buffer'} {k} h p =
        let f = phrase_of book_storage x in
        let n = (accepted_counts x.message counts accepted).0 ∙ sym (tape_length x.edition x.message) in
        let same : k ≡ bookEnd + head_size + counts.codes = omega (arith, p.place, record_size book_storage f, n) in
        rw (accepted, of_book_lem _, opens)
        (promised_written (same ∙ total) 0 (omega (arith, same, h))
        (p.bytes ∙ rw ends.book (sym (append_assoc book (record_of book_storage f) (drop k buffer)))))
