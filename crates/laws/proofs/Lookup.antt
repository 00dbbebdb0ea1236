-- Lookups in a phrase book, in any storage: numbers rise, so what is found under a number is the one phrase that the book has there, and
-- it stands where the records before it end; a listener hears just the phrases that are for him. Where in the buffer a tape stands is told
-- of the plain storage alone, last in this file.
use Rattle.laws.proofs.Kit.{ℕ, suc, ◌+◌, ◌≤◌, ◌≡◌, refl, sym, ap, ◌∙◌, ◌↔◌, inl, inr, ⊎_elim, List, [], ◌∷◌, ◌++◌, append_assoc}
use Rattle.laws.proofs.Kit.{arith, eqb, length, take, drop, length-append, length-take, take-append-drop, take_all, take_at, drop_at}
use Rattle.laws.proofs.Kit.{drop-append-add, eqb-true, eq-eqb, ne_eqb}
use Rattle.spec.specs.Book.{Phrase, Storage, plain, record_mark, two_bytes, head_of, record_of, records, head_size, Reading, holds, unsound}
use Rattle.spec.specs.Book.{read_book, Bytes, book_in, Search, none, entry, search, record_at, tape_of, start_of, Heard, nothing, aloud}
use Rattle.spec.specs.Book.{heard}
use Rattle.spec.specs.Book.{told, handed, find_answer, tape_after, placed, locate_answer, told_of, part_at, end_of, Fits, RisingFrom}
use Rattle.spec.specs.Book.{FindPromise, LocatePromise}
use Rattle.spec.specs.BookDemands.{Listed, IsFor, Has, FindDue, of_records, not_for_him, LooksUp}
use Rattle.spec.specs.{Listeners.may_hear, Refusals.refusal, declared.Listener.Listener, declared.Refusal.Refusal}
use Rattle.spec.specs.Results.{Found, Located}
use Rattle.laws.proofs.{Classes.either, Book.Judged, Book.is_sound, Book.is_refused, Book.judge, Book.record_size, Book.sound_read}
use Rattle.laws.proofs.{Book.due_read, Book.bytes_in}
use Rattle.std.proofs.Common.{Ok, Err}
use Rattle.std.proofs.lemmas.Grind.{common_steps}

-- and what is found is one of the list
found_listed : (n : ℕ) (f : Phrase) (fs : List Phrase) → search fs n ≡ entry f → Listed f fs × (f.number ≡ n)
unfolding search
found_listed n f [] h = cc
found_listed n f (g ∷ fs) h = either (eqb g.number n)
    (λ q. let u : entry g ≡ entry f = rw q at h in let e : f ≡ g = (cc) in (inl e, rw e (eqb-true g.number n q)))
    (λ q. let w = found_listed n f fs (rw q at h) in (inr w.0, w.1))

-- What a listener hears under a number is the tape that is for him there,
not_aloud : {t : List ℕ} → nothing ≡ aloud t → ⊥
not_aloud h = cc

-- what follows from either way of hearing follows
hearing : {P : Type 0} (q : Heard) → (q ≡ nothing → P) → ((t : List ℕ) → q ≡ aloud t → P) → P
hearing nothing n a = n refl
hearing (aloud t) n a = a t refl

-- A book in a storage.
module _ (st : Storage) where
  -- numbers from the least on
  listed_least : (least : ℕ) (f : Phrase) (fs : List Phrase) → RisingFrom st least fs → Listed f fs → least ≤ f.number
  listed_least least f [] r h = absurd h
  listed_least least f (g ∷ fs) r h =
      ⊎_elim (λ e. omega (arith, r.1, ap (λ (x : Phrase). x.number) e))
      (λ l. omega (arith, r.1, listed_least (suc g.number) f fs r.2 l)) h

  -- a phrase of the list is found,
  listed_found : (least : ℕ) (f : Phrase) (fs : List Phrase) → RisingFrom st least fs → Listed f fs → search fs f.number ≡ entry f
  unfolding search
  listed_found least f [] r h = absurd h
  listed_found least f (g ∷ fs) r h =
      ⊎_elim (λ e. rw (← e, eq-eqb f.number f.number refl) refl)
      (λ l.
      let b = listed_least (suc g.number) f fs r.2 l in
      rw (ne_eqb g.number f.number (omega (arith, b))) (listed_found (suc g.number) f fs r.2 l)) h

  -- The record of the phrase that is found stands in the book where record_at tells.
  pub record StandsAt (book : List ℕ) (place : ℕ) (f : Phrase) : Type 0 where
    pub before : List ℕ
    pub behind : List ℕ
    pub bytes : book ≡ before ++ (record_of st f ++ behind)
    pub there : place ≡ length before
    pub fits : Fits st f

  pub found_stands : (least n : ℕ) (f : Phrase) (fs : List Phrase) → RisingFrom st least fs → search fs n ≡ entry f
      → StandsAt (records st fs) (record_at st fs n) f
  unfolding search record_at records
  found_stands least n f [] r h = cc
  found_stands least n f (g ∷ fs) r h = either (eqb g.number n)
      (λ q.
      let u : entry g ≡ entry f = rw q at h in
      let e : f ≡ g = (cc) in
      rw (q, e) (record { before = []; behind = records st fs; bytes = refl; there = refl; fits = r.0 }))
      (λ q.
      let w = found_stands (suc g.number) n f fs r.2 (rw q at h) in
      rw q (record {
        before = record_of st g ++ w.before;
        behind = w.behind;
        bytes = ap (record_of st g ++◌) w.bytes ∙ sym (append_assoc (record_of st g) w.before (record_of st f ++ w.behind));
        there = rw w.there (sym (length-append (record_of st g) w.before));
        fits = w.fits;
      }))

  -- what a tape is stored as stands behind the record's head
  behind_head : (f : Phrase) (c : List ℕ) → take (length f.stored) (drop head_size (record_of st f ++ c)) ≡ f.stored
  unfolding record_of head_of record_mark two_bytes
  behind_head f c = take_at f.stored c (length f.stored) refl

  module _ {book : List ℕ} {place : ℕ} {f : Phrase} (s : StandsAt book place f) where
    pub stored_inside : place + head_size + length f.stored ≤ length book
    stored_inside = grind (arith, common_steps, s.there, s.bytes, record_size st f)

    pub record_there : drop place book ≡ record_of st f ++ s.behind
    record_there = rw s.bytes (drop_at s.before (record_of st f ++ s.behind) place (sym s.there))

    pub stored_there : (c : List ℕ) → take (length f.stored) (drop (place + head_size) (book ++ c)) ≡ f.stored
    stored_there c =
        let e : book ++ c ≡ s.before ++ (record_of st f ++ (s.behind ++ c)) = grind (arith, common_steps, s.bytes) in
        rw (e, s.there, drop-append-add s.before (record_of st f ++ (s.behind ++ c)) head_size) (behind_head f (s.behind ++ c))

  heard_for : (l : Listener) (n : ℕ) (t : List ℕ) (fs : List Phrase) → heard st l (search fs n) ≡ aloud t → IsFor st l fs n t
  unfolding heard
  heard_for l n t fs h = which (search fs n) refl where
    which : (q : Search) → search fs n ≡ q → IsFor st l fs n t
    which none e = absurd (not_aloud (rw e at h))
    which (entry f) e = either (may_hear l f.set)
        (λ m.
        let k : aloud (tape_of st f) ≡ aloud t = rw (e, m) at h in
        let w = found_listed n f fs e in
        record { phrase = f; listed = w.0; number = w.1; tape = (cc); hears = m })
        (λ m. absurd (not_aloud (rw (e, m) at h)))

  -- and he hears it, since numbers rise: no other stands under its number.
  for_heard : (l : Listener) (n : ℕ) (t : List ℕ) (fs : List Phrase) → RisingFrom st 0 fs → IsFor st l fs n t
      → heard st l (search fs n) ≡ aloud t
  unfolding heard
  for_heard l n t fs r h = rw (← h.number, listed_found 0 h.phrase fs r h.listed, h.hears, h.tape) refl

  none_heard : (l : Listener) (n : ℕ) (fs : List Phrase) → ((t : List ℕ) → IsFor st l fs n t → ⊥) → heard st l (search fs n) ≡ nothing
  none_heard l n fs h = hearing (heard st l (search fs n)) (λ e. e) (λ t e. absurd (h t (heard_for l n t fs e)))

  -- So where two lists have the same for him, he hears the same under every number.
  pub heard_same : (l : Listener) (n : ℕ) (fs gs : List Phrase) → RisingFrom st 0 fs → RisingFrom st 0 gs
      → ((t : List ℕ) → IsFor st l fs n t ↔ IsFor st l gs n t) → heard st l (search fs n) ≡ heard st l (search gs n)
  heard_same l n fs gs r s same = hearing (heard st l (search fs n))
      (λ e. e ∙ sym (none_heard l n gs (λ t h. not_aloud (sym e ∙ for_heard l n t fs r ((same t).1 h)))))
      (λ t e. e ∙ sym (for_heard l n t gs s ((same t).0 (heard_for l n t fs e))))

  -- What a book is to a lookup by a listener: it has a tape for him under the number, or a number of the lookup is due.
  data Standing (l : Listener) (book : List ℕ) (n : ℕ) : Type 0 where
    has_tape : (t : List ℕ) → Has st l book n t → Standing l book n
    is_due : (k p : ℕ) → FindDue st l book n k p → Standing l book n

  standing : (l : Listener) (book : List ℕ) (n : ℕ) → Judged st book → Standing l book n
  standing l book n (is_sound fs s e) = hearing (heard st l (search fs n))
      (λ f. is_due 17 0 (not_for_him (record { phrases = fs; sound = s; none = λ t h. not_aloud (sym f ∙ for_heard l n t fs s.rising h) })))
      (λ t f. has_tape t (record { phrases = fs; sound = s; has = heard_for l n t fs f }))
  standing l book n (is_refused k p range d e) = is_due k p (of_records k p d)

  module _ (l : Listener) (book : List ℕ) (b : Bytes book) (n : ℕ) (old new : List ℕ) (r : Found)
      (answer : r ≡ find_answer st l (read_book st book) n) (tape : new ≡ tape_after st l (read_book st book) n old) where
    -- each where it is due
    due_gave : (t : List ℕ) → Has st l book n t → (r ≡ Ok tt) × (new ≡ t)
    unfolding find_answer tape_after told handed
    due_gave t h =
        let e = sound_read st h.sound in
        let f = for_heard l n t h.phrases h.sound.rising h.has in
        (answer ∙ rw (e, f) refl, tape ∙ rw (e, f) refl)

    due_refused : (k p : ℕ) → FindDue st l book n k p → (r ≡ Err (refusal k p)) × (new ≡ old)
    unfolding find_answer tape_after told handed
    due_refused k p (of_records _ _ d) = let e = due_read st b d in (answer ∙ rw e refl, tape ∙ rw e refl)
    due_refused _ _ (not_for_him h) =
        let e = sound_read st h.sound in
        let f = none_heard l n h.phrases h.none in
        (answer ∙ rw (e, f) refl, tape ∙ rw (e, f) refl)

    -- and one of them is, so it is exact
    pub looks_up : LooksUp st l book n old new r
    looks_up = exact (standing l book n (judge st book b)) where
      exact : Standing l book n → LooksUp st l book n old new r
      exact (has_tape t h) =
          let w = due_gave t h in
          record {
            gives = λ u. (λ q. rw (sym q.1 ∙ w.1) h, due_gave u);
            refuses = λ k p. (λ q. cc (w.0, q.0), due_refused k p);
          }
      exact (is_due k p d) =
          let w = due_refused k p d in
          record {
            gives = λ u. (λ q. cc (w.0, q.0), due_gave u);
            refuses = λ i j. (
              λ q. let e : refusal k p ≡ refusal i j = cc (w.0, q.0) in
                  rw (← ap (λ (x : Refusal). x.number) e, ← ap (λ (x : Refusal). x.place) e) d,
              due_refused i j,
            );
          }

-- In the plain storage the bytes behind a record's head are the tape.
pub tape_plain : {f : Phrase} → Fits plain f → tape_of plain f ≡ f.stored
tape_plain {f} fit = take_all f.count f.stored (omega (arith, fit.stored))

-- What is told by place keeps its promise: the bytes there are the tape, and they lie in the buffer.
module _ (l : Listener) (buffer : List ℕ) (used n : ℕ) (b : Bytes buffer) where
  abbrev book : List ℕ
  book = book_in buffer used

  abbrev due : Located
  due = locate_answer l (read_book plain book) n

  judged_located : Judged plain book → (part_at due buffer ≡ tape_after plain l (read_book plain book) n []) × (end_of due ≤ length buffer)
  unfolding locate_answer tape_after placed heard handed part_at end_of book_in
  judged_located (is_sound fs s e) = rw e (which (search fs n) refl) where
    here : Heard → Type 0
    here h = (part_at (placed (start_of fs n) h) buffer ≡ handed h []) × (end_of (placed (start_of fs n) h) ≤ length buffer)

    which : (q : Search) → search fs n ≡ q → here (heard plain l (search fs n))
    which none f = rw f (refl, omega arith)
    which (entry g) f =
        let w = found_stands plain 0 n g fs s.rising f in
        let rest = drop used buffer in
        let whole : records plain fs ++ rest ≡ buffer = ap (◌++ rest) (sym s.bytes) ∙ take-append-drop used buffer in
        let inside = stored_inside plain w in
        rw f (either (may_hear l g.set)
        (λ m. rw (m, tape_plain w.fits)
        (rw whole at (stored_there plain w rest), omega (arith, inside, ap length s.bytes, length-take used buffer)))
        (λ m. rw m (refl, omega arith)))
  judged_located (is_refused k p range d e) = rw e (refl, omega arith)

  pub locate_promised : {r : Located} → r ≡ locate_answer l (read_book plain book) n → LocatePromise l buffer used n r
  locate_promised e =
      let w = judged_located (judge plain book (bytes_in buffer used b)) in
      record { answer = e; tape = rw e w.0; inside = rw e w.1 }

-- What is told by the tape itself is told by its place.
abbrev pub kept_by : Located → List ℕ → List ℕ → List ℕ
kept_by (Ok s) t old = t
kept_by (Err r) t old = old

told_same : (l : Listener) (r : Reading) (n : ℕ) (old : List ℕ)
    → (find_answer plain l r n ≡ told_of (locate_answer l r n))
    × (tape_after plain l r n old ≡ kept_by (locate_answer l r n) (tape_after plain l r n []) old)
unfolding find_answer locate_answer tape_after placed told handed told_of
told_same l (holds fs) n old = which (heard plain l (search fs n)) where
  which : (q : Heard)
      → (told q ≡ told_of (placed (start_of fs n) q)) × (handed q old ≡ kept_by (placed (start_of fs n) q) (handed q []) old)
  which nothing = (refl, refl)
  which (aloud t) = (refl, refl)
told_same l (unsound r) n old = (refl, refl)

pub find_promised : {l : Listener} {buffer : List ℕ} {used n : ℕ} {r : Located} (old : List ℕ) → LocatePromise l buffer used n r
    → FindPromise plain l buffer used n old (kept_by r (part_at r buffer) old) (told_of r)
find_promised {l} {buffer} {used} {n} old k =
    let w = told_same l (read_book plain (book_in buffer used)) n old in
    record { answer = ap told_of k.answer ∙ sym w.0; tape = rw k.tape (rw k.answer (sym w.1)) }
