-- Additions to a phrase book, in any storage: each ends in one of the ways that its numbers tell, and one after the other, from an empty
-- book on, they leave just the records of those that were accepted. For that a tape must be stored in as many bytes as its codes take. What
-- holds in the plain storage besides stands last in this file.
use Rattle.laws.proofs.Kit.{ℕ, zero, suc, ◌+◌, ◌*◌, ◌<◌, ◌≤◌, ◌≡◌, refl, sym, ap, ◌∙◌, true, ◌⊎◌, inl, inr, ⊎_elim, List, [], ◌∷◌}
use Rattle.laws.proofs.Kit.{◌++◌, append_assoc, append-nil, arith, leb, length, take, drop, length-append, take_at}
use Rattle.laws.proofs.Kit.{take-length, le-leb, lt-leb}
use Rattle.spec.specs.Book.{Phrase, Storage, Sized, plain, record_of, records, row15, row16, Reading, holds, unsound, ◌then◌, read_from}
use Rattle.spec.specs.Book.{read_book, Bytes, book_in, find_answer, tape_after, least_after, after_listener, after_book, NewPhrase}
use Rattle.spec.specs.Book.{phrase_of}
use Rattle.spec.specs.Book.{with_addition, add_answer, Fits, RisingFrom, Sound, locate_answer}
use Rattle.spec.specs.BookDemands.{BookDemands, MayAdd, AddDue, not_dispatch, of_message, of_book, not_above_last, no_room_behind, Addition}
use Rattle.spec.specs.BookDemands.{AddedTo, used_after, added_by, OneByOne, last_buffer, last_used, accepted, HoldsJust, AdditionsKept}
use Rattle.spec.specs.BookDemands.{PlainDemands, AdditionsLocated}
use Rattle.spec.specs.Answers.{within, after_check, output_after}
use Rattle.spec.specs.{Listeners.may_write, declared.Listener.Listener, Tape.tape, Refusals.refusal, Refusals.NoneFits}
use Rattle.spec.specs.{Results.Answer, declared.Refusal.Refusal}
use Rattle.laws.proofs.Accepted.{Passes, check_finds, passes_none, passes_accepted, none_accepted, given_refused, given_range}
use Rattle.laws.proofs.Demands.{Ways, settled, exactly}
use Rattle.laws.proofs.Book.{Judged, is_sound, is_refused, judge, record_size, sound_read, due_read, bytes_in}
use Rattle.laws.proofs.{Classes.either, Classes.below_or, Sizes.tape_size, Editions.tape_length, Lookup.looks_up}
use Rattle.laws.proofs.{Lookup.find_promised}
use Rattle.std.proofs.Common.{Ok, Err}
use Rattle.spec.specs.Results.{wrote}
use Rattle.std.proofs.lemmas.Grind.{common_steps}

-- a book's refusal, where it is not sound, has a number,
abbrev NumberedBook : Reading → Type 0
NumberedBook (holds fs) = Unit {0}
NumberedBook (unsound r) = 1 ≤ r.number

then_numbered : (f : Phrase) (x : Reading) → NumberedBook x → NumberedBook (f then x)
unfolding ◌then◌
then_numbered f (holds fs) h = tt
then_numbered f (unsound r) h = h

-- and so has an answer's, where it is one: none has number 0
abbrev pub Numbered : Answer → Type 0
Numbered (Ok w) = Unit {0}
Numbered (Err r) = 1 ≤ r.number

room_numbered : (room size : ℕ) → Numbered (within room size 0)
unfolding within
room_numbered room size = either (leb size room) (λ h. rw h tt) (λ h. rw h (omega arith))

book_numbered : (x : Reading) (n bookEnd : ℕ) (a : Answer) → NumberedBook x → Numbered a → Numbered (after_book x n bookEnd a)
unfolding after_book
book_numbered (holds fs) n bookEnd a h g = either (leb (least_after 0 fs) n) (λ q. rw q g) (λ q. rw q (omega arith))
book_numbered (unsound r) n bookEnd a h g = h

-- after an addition all is as it was
pub record AsBefore (buffer : List ℕ) (a : Addition) : Type 0 where
  pub refusal : Refusal
  pub answer : a.answer ≡ Err refusal
  pub after : a.after ≡ buffer

-- what an addition added and what the later ones did
added_all : (r : Answer) (fs gs : List Phrase) (f : Phrase) → fs ++ added_by r f [] ++ gs ≡ fs ++ added_by r f gs
unfolding added_by
added_all (Ok w) fs gs f = append_assoc fs (f ∷ []) gs
added_all (Err x) fs gs f = rw (append-nil fs) refl

-- A book in a storage.
module _ (st : Storage) where
  -- an addition ends in these ways
  module _ (l : Listener) (book : List ℕ) (x : NewPhrase) (buffer : List ℕ) (b : Bytes book) where
    abbrev m : List ℕ
    m = x.message

    abbrev text : List ℕ
    text = with_addition st book x

    abbrev Due : ℕ → ℕ → Type 0
    Due = AddDue st l book x (length text) (length buffer)

    may_add : MayAdd st l book x → add_answer st l book x (length buffer) ≡ within (length buffer) (length text) 0
    unfolding add_answer after_listener after_check after_book
    may_add a = rw (a.writes, none_accepted m a.message, sound_read st a.sound, le-leb (least_after 0 a.phrases) x.number a.above) refl

    written : MayAdd st l book x → length text ≤ length buffer → add_answer st l book x (length buffer) ≡ wrote (length text) 0
    unfolding within
    written a h = may_add a ∙ rw (le-leb (length text) (length buffer) h) refl

    refused : (k p : ℕ) → Due k p → add_answer st l book x (length buffer) ≡ Err (refusal k p)
    unfolding add_answer after_listener after_check after_book within
    refused _ _ (not_dispatch w) = rw w refl
    refused k p (of_message _ _ w g) = rw (w, given_refused m k p g) refl
    refused k p (of_book _ _ w f d) = rw (w, none_accepted m f, due_read st b d) refl
    refused _ _ (not_above_last fs w f s h) = rw (w, none_accepted m f, sound_read st s, lt-leb (least_after 0 fs) x.number h) refl
    refused _ _ (no_room_behind a h) = may_add a ∙ rw (lt-leb (length text) (length buffer) h) refl

    abbrev Ends : Type 0
    Ends = (MayAdd st l book x × (length text ≤ length buffer)) ⊎ ((k : ℕ) × (p : ℕ) × Due k p × (1 ≤ k))

    of_book_lem : may_write l ≡ true → NoneFits m → Judged st book → Ends
    of_book_lem w f (is_sound fs s e) = ⊎_elim (λ h. inr (_, _, not_above_last fs w f s h, omega arith))
        (λ h. let a : MayAdd st l book x = record { writes = w; message = f; phrases = fs; sound = s; above = h } in
        ⊎_elim (λ q. inr (_, _, no_room_behind a q, omega arith)) (λ q. inl (a, q)) (below_or (length buffer) (length text)))
        (below_or x.number (least_after 0 fs))
    of_book_lem w f (is_refused k p range d e) = inr (k, p, of_book k p w f d, omega (arith, range.0))

    ends : Ends
    ends = either (may_write l)
        (λ w. ⊎_elim (λ a. of_book_lem w (passes_none m a.1) (judge st book b))
        (λ a. inr (_, _, of_message _ _ w a.given, (given_range a.given).0)) (check_finds m))
        (λ w. inr (_, _, not_dispatch w, omega arith))

    add_ways : Ways (MayAdd st l book x) Due text 0 buffer (add_answer st l book x (length buffer))
    add_ways = record { written = written; refused = refused; ends = ends }

  -- whatever is answered, the book is left
  book_left : (buffer : List ℕ) (used : ℕ) (x : NewPhrase) (a : Answer)
      → take (length (book_in buffer used)) (output_after a (with_addition st (book_in buffer used) x) buffer) ≡ book_in buffer used
  unfolding output_after with_addition book_in
  book_left buffer used x (Ok w) = grind (arith, common_steps)
  book_left buffer used x (Err r) = grind (arith, common_steps)

  -- What holds of a book.
  pub book_demands : (buffer : List ℕ) (used : ℕ) → Bytes buffer → BookDemands st buffer used
  book_demands buffer used b =
      let inside = bytes_in buffer used b in
      record {
        find = λ l n old new r k. looks_up st l (book_in buffer used) inside n old new r k.answer k.tape;
        rest = λ buffer₂ used₂ e l n old new new₂ r r₂ k k₂. (k₂.answer ∙ rw e (sym k.answer), k₂.tape ∙ rw e (sym k.tape));
        settled = λ l x buffer' r k. settled (add_ways l (book_in buffer used) x buffer inside) k;
        exact = λ l x buffer' r k. exactly (add_ways l (book_in buffer used) x buffer inside) k;
        leaves = λ l x buffer' r k. rw k.output (book_left buffer used x (add_answer st l (book_in buffer used) x (length buffer)));
      }

  -- A book that is not sound is refused with a number,
  read_numbered : (skip place least : ℕ) (x : List ℕ) → NumberedBook (read_from st skip place least x)
  unfolding read_from
  read_numbered skip place least [] = tt
  read_numbered (suc skip) place least (b ∷ x) = read_numbered skip (suc place) least x
  read_numbered zero place least (b ∷ x) = either (row15 st (b ∷ x)) (λ p. rw p (omega arith))
      (λ p. either (row16 least (b ∷ x)) (λ q. rw (p, q) (omega arith)) (λ q. rw (p, q) (then_numbered _ _ (read_numbered _ _ _ x))))

  -- and so is an addition.
  pub add_numbered : (l : Listener) (book : List ℕ) (x : NewPhrase) (room : ℕ) → Numbered (add_answer st l book x room)
  unfolding add_answer after_listener after_check read_book
  add_numbered l book x room = either (may_write l)
      (λ w. ⊎_elim
      (λ c.
      let r = room_numbered room (length (with_addition st book x)) in
      rw (w, passes_accepted x.message c.1) (book_numbered _ x.number (length book) _ (read_numbered 0 0 0 book) r))
      (λ c. rw (w, c.refused) (given_range c.given).0) (check_finds x.message))
      (λ w. rw w (omega arith))

  -- records with one more behind
  records_more : (fs : List Phrase) (f : Phrase) → records st fs ++ record_of st f ≡ records st (fs ++ (f ∷ []))
  unfolding records
  records_more [] f = sym (append-nil (record_of st f))
  records_more (g ∷ fs) f = grind (arith, common_steps, records_more fs f)

  rising_more : (least : ℕ) (fs : List Phrase) (f : Phrase) → RisingFrom st least fs → Fits st f → least_after least fs ≤ f.number
      → RisingFrom st least (fs ++ (f ∷ []))
  unfolding least_after
  rising_more least [] f r fit h = (fit, h, tt)
  rising_more least (g ∷ fs) f r fit h = (r.0, r.1, rising_more (suc g.number) fs f r.2 fit h)

  abbrev pub added : Addition → Phrase
  added a = phrase_of st a.phrase

  -- After an addition all is as it was, or a book of these phrases holds one more.
  pub data Next (buffer : List ℕ) (fs : List Phrase) (a : Addition) : Type 0 where
    as_before : AsBefore buffer a → Next buffer fs a
    one_more : (k : ℕ) → a.answer ≡ wrote k 0 → k ≡ length (records st (fs ++ (added a ∷ [])))
        → Sound st (book_in a.after k) (fs ++ (added a ∷ [])) → Next buffer fs a

  module _ {buffer : List ℕ} {used : ℕ} {a : Addition} (kept : AddedTo st buffer used a) where
    abbrev book : List ℕ
    book = book_in buffer used

    abbrev whole : List ℕ
    whole = with_addition st book a.phrase

    abbrev due : Answer
    due = add_answer st a.listener book a.phrase (length buffer)

    refused_next : (x : Refusal) → due ≡ Err x → AsBefore buffer a
    unfolding output_after
    refused_next x e = record { refusal = x; answer = kept.promise.answer ∙ e; after = kept.promise.output ∙ rw e refl }

    -- so it is unless dispatch adds an accepted message; then the book decides
    unless_accepted : {P : Type 0} → (AsBefore buffer a → P) → (may_write a.listener ≡ true → Passes a.phrase.message → P) → P
    unfolding add_answer after_listener after_check
    unless_accepted refused follows = either (may_write a.listener)
        (λ w. ⊎_elim (λ c. follows w c.1) (λ c. refused (refused_next (refusal c.number c.place) (rw (w, c.refused) refl)))
        (check_finds a.phrase.message))
        (λ w. refused (refused_next (refusal 17 0) (rw w refl)))

    pub unsound_next : {x : Refusal} → read_book st book ≡ unsound x → AsBefore buffer a
    unfolding add_answer after_listener after_check after_book
    unsound_next {x} e = unless_accepted (λ r. r) (λ w c. refused_next x (rw (w, passes_accepted a.phrase.message c, e) refl))

    module _ {fs : List Phrase} (now : Sound st book fs) where
      written_next : due ≡ wrote (length whole) 0 → Fits st (added a) → least_after 0 fs ≤ a.phrase.number → Next buffer fs a
      unfolding output_after with_addition book_in
      written_next e fit above =
          let t : whole ≡ records st (fs ++ (added a ∷ [])) = ap (◌++ record_of st (added a)) now.bytes ∙ records_more fs (added a) in
          one_more (length whole) (kept.promise.answer ∙ e) (ap length t) (record {
            bytes = rw (kept.promise.output, e) (take_at whole (drop (length whole) buffer) (length whole) refl ∙ t);
            rising = rising_more 0 fs (added a) now.rising fit above;
          })

      pub sound_next : Sized st → Next buffer fs a
      unfolding add_answer after_listener after_check after_book within
      sound_next sized = unless_accepted as_before (λ w c.
          let x = a.phrase in
          let short : length (tape x.edition x.message) < 65536 =
          omega (arith, tape_length x.edition x.message, tape_size x.message, c.short) in
          let fit : Fits st (added a) = record { number = kept.number; set = kept.set; count = short; stored = sized _ } in
          let e = passes_accepted a.phrase.message c in
          let s = sound_read st now in
          let n = a.phrase.number in
          let size = length whole in
          ⊎_elim (λ h. as_before (refused_next (refusal 16 (length book)) (rw (w, e, s, lt-leb (least_after 0 fs) n h) refl)))
          (λ h.
          let o = le-leb (least_after 0 fs) n h in
          ⊎_elim (λ q. as_before (refused_next (refusal 11 size) (rw (w, e, s, o, lt-leb size (length buffer) q) refl)))
          (λ q. written_next (rw (w, e, s, o, le-leb size (length buffer) q) refl) fit h) (below_or (length buffer) size))
          (below_or n (least_after 0 fs)))

  -- A book that holds these phrases, in a buffer with this used count, and after a list of additions
  record Holding (buffer : List ℕ) (used : ℕ) (fs : List Phrase) : Type 0 where
    pub sound : Sound st (book_in buffer used) fs
    pub size : used ≡ length (records st fs)

  holding_next : {buffer : List ℕ} {used : ℕ} {fs : List Phrase} {a : Addition} → Holding buffer used fs → Next buffer fs a
      → Holding a.after (used_after a.answer used) (fs ++ added_by a.answer (added a) [])
  unfolding used_after added_by
  holding_next {fs = fs} now (as_before k) = rw (k.answer, k.after, append-nil fs) now
  holding_next now (one_more k r e s) = rw r (record { sound = s; size = e })

  -- where a tape is stored in as many bytes as its codes take
  module _ (sized : Sized st) where
    holding_all : {buffer : List ℕ} {used : ℕ} {fs : List Phrase} (additions : List Addition) → Holding buffer used fs
        → OneByOne st buffer used additions
        → Holding (last_buffer buffer additions) (last_used used additions) (fs ++ accepted st additions)
    holding_all {fs = fs} [] now kept = rw (append-nil fs) now
    holding_all {buffer = buffer} {used = used} {fs = fs} (a ∷ more) now kept =
        let next = holding_next now (sound_next kept.0 now.sound sized) in
        rw (added_all a.answer fs (accepted st more) (added a)) at
        (holding_all {buffer = a.after} {used = used_after a.answer used} {fs = fs ++ added_by a.answer (added a) []} more next kept.1)

    -- After every list of additions to an empty book it holds just the tapes of those accepted.
    pub additions_kept : (buffer : List ℕ) (additions : List Addition) → AdditionsKept st buffer additions
    unfolding book_in records find_answer tape_after
    additions_kept buffer additions kept =
        let empty : Holding buffer 0 [] = record { sound = record { bytes = refl; rising = tt }; size = refl } in
        holds_just (holding_all additions empty kept)
      where
        holds_just : {buffer : List ℕ} {used : ℕ} {fs : List Phrase} → Holding buffer used fs → HoldsJust st buffer used fs
        holds_just {fs = fs} h = let e = sound_read st h.sound in record {
          sound = h.sound;
          size = h.size;
          find = λ l n old new r k. (k.answer ∙ rw e refl, k.tape ∙ rw e refl);
        }

-- In the plain storage a tape is stored as it is,
pub plain_sized : Sized plain
plain_sized t = refl

-- and a record has a head and a tape, which has at most two codes for each byte.
added_size : (book : List ℕ) (x : NewPhrase) → length (with_addition plain book x) ≤ length book + (7 + 2 * length x.message)
unfolding with_addition
added_size book x =
    let f = phrase_of plain x in
    omega (arith, length-append book (record_of plain f), record_size plain f, tape_length x.edition x.message, tape_size x.message)

-- What holds of a book there besides.
pub plain_demands : (buffer : List ℕ) (used : ℕ) → PlainDemands buffer used
plain_demands buffer used = record {
  tape = λ x. take-length (tape x.edition x.message);
  most = λ x. added_size (book_in buffer used) x;
  locate = λ l n r k. record { answer = (find_promised [] k).answer; tape = k.tape };
}

-- After every list of additions to an empty book a lookup tells the places of the tapes.
pub additions_located : (buffer : List ℕ) (additions : List Addition) → AdditionsLocated buffer additions
unfolding locate_answer
additions_located buffer additions kept =
    let h = additions_kept plain plain_sized buffer additions kept in
    let e = sound_read plain h.sound in
    record { just = h; locate = λ l n r k. k.answer ∙ rw e refl }
