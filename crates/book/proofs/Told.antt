-- What the walk over a book comes to settles lookups and additions: the book's refusal, the least number, and the record that was wanted.
use Rattle.laws.proofs.Kit.{ℕ, ◌+◌, ◌-◌, ◌<◌, ◌≤◌, ◌≡◌, ◌∙◌, sym, le-leb, lt-leb, refl, ap, cond, List, arith, leb, length, take, drop}
use Rattle.spec.specs.Book.{Phrase, book_storage, records, head_size, Bytes, Reading, holds, unsound, book_in, read_book, Search, none}
use Rattle.spec.specs.Book.{entry, LocatePromise, FindPromise, told_of, part_at, stands_after}
use Rattle.spec.specs.Book.{search, record_at, start_of, heard, placed, locate_answer, unheard, least_after, after_book, RisingFrom}
use Rattle.spec.specs.{Listeners.may_hear, Listeners.withheld, declared.Listener.Listener, Results.Located}
use Rattle.spec.specs.{Refusals.refusal, declared.Refusal.Refusal, declared.Listener.TheVariants.Dispatch}
use Rattle.spec.specs.Results.{Answer, spanning, wrote}
use Rattle.laws.proofs.{Classes.either, Book.Judged, Book.is_sound, Book.is_refused, Book.judge, Book.bytes_in, Book.written_reads}
use Rattle.laws.proofs.Lookup.{find_promised, locate_promised, found_stands, record_there, stored_inside, tape_plain}
use Rattle.records.specs.{Walking.EndOf, Walking.walked_of, Walking.stands_at, declared.Seen.Seen}
use Rattle.book.specs.Entries.{PlaceIn, told_at, unwritten}
use Rattle.std.proofs.Common.{Option, Result, Ok, Err}

-- What the walk over a book that is not sound tells, for lookups and additions,
pub walked_unsound : (l : Listener) (r : Reading) (n bookEnd : ℕ) (a : Answer) {x : Refusal} → walked_of r n ≡ Err x
    → (locate_answer l r n ≡ Err x) × (after_book r n bookEnd a ≡ Err x) × (unheard r ≡ x)
unfolding walked_of locate_answer after_book unheard
walked_unsound l (holds fs) n bookEnd a h = cc
walked_unsound l (unsound y) n bookEnd a {x} h = let e : y ≡ x = (cc) in rw e (refl, refl, refl)

-- and over a sound one, for an addition, and for one who may hear nothing
pub walked_sound : (r : Reading) (n bookEnd : ℕ) (a : Answer) {s : Seen} → walked_of r n ≡ Ok s
    → (after_book r n bookEnd a ≡ cond (leb s.least n) a (Err (refusal 16 bookEnd))) × (unheard r ≡ withheld)
unfolding walked_of after_book unheard
walked_sound (holds fs) n bookEnd a {s} h = let e : s.least ≡ least_after 0 fs = (cc) in rw e (refl, refl)
walked_sound (unsound x) n bookEnd a h = cc

-- the same as the judge of an addition tells it
module _ (r : Reading) (n bookEnd : ℕ) {w : Result Seen Refusal} (walked : w ≡ walked_of r n) where
  pub judge_unsound : {x : Refusal} → w ≡ Err x → Err x ≡ unwritten (after_book r n bookEnd (wrote 0 0))
  judge_unsound e = rw (walked_unsound Dispatch r n bookEnd (wrote 0 0) (sym walked ∙ e)).1 refl

  pub judge_below : {s : Seen} → w ≡ Ok s → n < s.least → Err (refusal 16 bookEnd) ≡ unwritten (after_book r n bookEnd (wrote 0 0))
  judge_below e h = rw ((walked_sound r n bookEnd (wrote 0 0) (sym walked ∙ e)).0, lt-leb _ _ h) refl

  pub judge_above : {s : Seen} → w ≡ Ok s → s.least ≤ n → Ok tt ≡ unwritten (after_book r n bookEnd (wrote 0 0))
  judge_above e h = rw ((walked_sound r n bookEnd (wrote 0 0) (sym walked ∙ e)).0, le-leb _ _ h) refl

pub ruleset judging = (judge_unsound, judge_below, judge_above)

-- What is handed back where the tape was located, and where it stands,
module _ {l : Listener} {buffer : List ℕ} {used n start size : ℕ} (located : LocatePromise l buffer used n (spanning start size)) where
  pub tape_found : (old : List ℕ) → FindPromise book_storage l buffer used n old (take (start + size - start) (drop start buffer)) (Ok tt)
  unfolding told_of part_at
  tape_found old = let e : start + size - start ≡ size = omega arith in rw e (find_promised old located)

  pub stands_found : (b old : ℕ × ℕ)
      → (b.0, start + b.1) ≡ stands_after (locate_answer l (read_book book_storage (book_in buffer used)) n) b old
  unfolding stands_after
  stands_found b old = rw (← located.answer) refl

-- and where there is none.
module _ {l : Listener} {buffer : List ℕ} {used n : ℕ} {x : Refusal} (located : LocatePromise l buffer used n (Err x)) where
  pub none_found : (old : List ℕ) → FindPromise book_storage l buffer used n old old (Err x)
  unfolding told_of
  none_found old = find_promised old located

  pub stands_none : (b old : ℕ × ℕ) → old ≡ stands_after (locate_answer l (read_book book_storage (book_in buffer used)) n) b old
  unfolding stands_after
  stands_none b old = rw (← located.answer) refl

pub ruleset standing = (stands_found, stands_none)

-- For a lookup the record at a place, or none, tells a listener what he must be told.
module _ (l : Listener) (book : List ℕ) (n : ℕ) (b : Bytes book) {s : Seen}
    (walked : walked_of (read_book book_storage book) n ≡ Ok s) where
  abbrev Told : Option ℕ → Located → Type 0
  Told i due = PlaceIn book i × (told_at l book i ≡ due)

  told_search : (fs : List Phrase) → RisingFrom book_storage 0 fs → book ≡ records book_storage fs → (q : Search) → search fs n ≡ q
      → Told (stands_at q (record_at book_storage fs n)) (placed (start_of fs n) (heard book_storage l q))
  unfolding placed heard
  told_search fs r e none h = (tt, refl)
  told_search fs r e (entry g) h =
      let w = found_stands book_storage 0 n g fs r h in
      let d = rw (← e) at (record_there book_storage w) in
      let f = written_reads book_storage g w.behind w.fits in
      let i = record_at book_storage fs n in
      let z : i + head_size + length g.stored ≤ length book = omega (arith, stored_inside book_storage w, ap length e) in (
        omega (arith, z),
        rw (d, f.set, f.count, tape_plain w.fits)
            (either (may_hear l g.set) (λ m. rw (m, w.fits.stored) refl) (λ m. rw m refl)),
      )

  pub told_walked : Told s.place (locate_answer l (read_book book_storage book) n)
  unfolding walked_of locate_answer
  told_walked = of (judge book_storage book b) where
    of : Judged book_storage book → Told s.place (locate_answer l (read_book book_storage book) n)
    of (is_sound fs g e) =
        let w = rw e at walked in
        let z : s.place ≡ stands_at (search fs n) (record_at book_storage fs n) = (cc) in
        rw (e, z) (told_search fs g.rising g.bytes (search fs n) refl)
    of (is_refused k p range d e) = let w = rw e at walked in cc

-- The walk over the first part of a buffer, which is the book,
module _ (buffer : List ℕ) (used bookEnd n : ℕ) (ends : EndOf buffer used bookEnd) {w : Result Seen Refusal}
    (walked : w ≡ walked_of (read_book book_storage (take bookEnd buffer)) n) where
  abbrev book : List ℕ
  book = book_in buffer used

  reads : walked_of (read_book book_storage book) n ≡ w
  reads = sym (rw ends.book at walked)

  -- tells one who may hear nothing why,
  pub unheard_sound : {s : Seen} → w ≡ Ok s → withheld ≡ unheard (read_book book_storage book)
  unheard_sound e = sym (walked_sound _ n 0 (wrote 0 0) (reads ∙ e)).1

  pub unheard_unsound : {x : Refusal} → w ≡ Err x → x ≡ unheard (read_book book_storage book)
  unheard_unsound e = sym (walked_unsound Dispatch _ n 0 (wrote 0 0) (reads ∙ e)).2

  -- and a lookup where the tape stands.
  module _ (l : Listener) (b : Bytes buffer) where
    pub locate_unsound : {x : Refusal} → w ≡ Err x → LocatePromise l buffer used n (Err x)
    locate_unsound e = locate_promised l buffer used n b (sym (walked_unsound l _ n 0 (wrote 0 0) (reads ∙ e)).0)

    module _ {s : Seen} (e : w ≡ Ok s) where
      told : PlaceIn book s.place × (told_at l book s.place ≡ locate_answer l (read_book book_storage book) n)
      told = told_walked l book n (bytes_in buffer used b) (reads ∙ e)

      pub place_known : PlaceIn (take bookEnd buffer) s.place
      place_known = rw ends.book told.0

      pub locate_told : {r : Located} → r ≡ told_at l (take bookEnd buffer) s.place → LocatePromise l buffer used n r
      locate_told t = locate_promised l buffer used n b (t ∙ rw ends.book told.1)

pub ruleset unhearing = (unheard_sound, unheard_unsound)
