-- The walk over a book, place by place: what is read at a place of the bytes is what stands at the start of the bytes from there on.
use Rattle.laws.proofs.Kit.{ℕ, suc, ◌+◌, ◌*◌, ◌<◌, ◌≤◌, ◌≡◌, refl, sym, ap, ◌∙◌, true, false, ⊎_elim, ◌&&◌, and-true, List, [], ◌∷◌}
use Rattle.laws.proofs.Kit.{add-one, arith, eqb, leb, length, drop, get_or, get_or-drop, length-drop, length-take-le}
use Rattle.laws.proofs.Kit.{take_all, drop_of_length-le, drop-drop, le-leb, lt-leb, eqb-true, eqb-false, ne_eqb, eq-eqb}
use Rattle.spec.specs.Book.{Phrase, book_storage, record_of, head_size, record_mark, pair_at, number_in, length_in, span_in}
use Rattle.spec.specs.Book.{has_record_mark, is_whole, is_record, row15, row16, Bytes, book_in, Reading, holds, unsound, ◌then◌}
use Rattle.spec.specs.Book.{phrase_in, read_from, read_book, record_at, least_after, RisingFrom}
use Rattle.spec.specs.{Tables.same, Refusals.refusal}
use Rattle.laws.proofs.{Classes.either, Classes.refuted, Classes.below_or, Book.Stands, Book.record_stands, Book.stands_15, Book.read_15}
use Rattle.laws.proofs.{Book.read_16, Book.read_record, Book.Judged, Book.is_sound, Book.is_refused, Book.judge, Book.record_size}
use Rattle.spec.specs.{Book.search, declared.Refusal.Refusal}
use Rattle.records.specs.{Walking.EndOf, Walking.stands_at, Walking.walked_of, Walking.noted, declared.Seen.Seen}
use Rattle.std.proofs.Common.{None, Some, Result, Ok, Err}

-- the two bytes of the mark
mark_bytes : (x : List ℕ) → has_record_mark book_storage x ≡ (eqb (get_or x 0 0) 82 && eqb (get_or x 1 0) 159)
unfolding has_record_mark record_mark same
mark_bytes [] = refl
mark_bytes (a ∷ []) = refl
mark_bytes (a ∷ b ∷ x) = ap (eqb a 82 &&◌) (and-true (eqb b 159))

-- as a number
mark_number : (a b : ℕ) → a < 256 → eqb (a + b * 256) 40786 ≡ (eqb a 82 && eqb b 159)
mark_number a b h = either (eqb a 82)
    (λ p. either (eqb b 159) (λ q. rw (p, q) (eq-eqb (a + b * 256) 40786 (omega (arith, eqb-true a 82 p, eqb-true b 159 q))))
    (λ q. rw (p, q) (ne_eqb (a + b * 256) 40786 (λ e. eqb-false b 159 q (omega (arith, e, h))))))
    (λ p. rw p (ne_eqb (a + b * 256) 40786 (λ e. eqb-false a 82 p (omega (arith, e, h)))))

pub mark_at : (x : List ℕ) (i : ℕ) → Bytes x → eqb (pair_at i x) 40786 ≡ has_record_mark book_storage (drop i x)
unfolding pair_at
mark_at x i b =
    let z : i + 0 ≡ i = omega arith in
    rw (mark_bytes (drop i x), get_or-drop i x 0 0, get_or-drop i x 1 0, z, add-one i)
    (mark_number (get_or x i 0) (get_or x (suc i) 0) (b i))

-- and of a number
pub pair_behind : (x : List ℕ) (i k : ℕ) → pair_at (i + k) x ≡ pair_at k (drop i x)
unfolding pair_at
pair_behind x i k = let e : i + suc k ≡ suc (i + k) = omega arith in rw (get_or-drop i x k 0, get_or-drop i x (suc k) 0, e) refl

-- no record stands where its head or its tape is cut short
pub no_record_lem : (x : List ℕ) → (Stands book_storage x → ⊥) → is_record book_storage x ≡ false
no_record_lem x h = refuted (is_record book_storage x) (λ q. h (record_stands book_storage x q))

-- and behind a head with its mark its end tells
pub record_by_end : (x : List ℕ) (i : ℕ) → has_record_mark book_storage (drop i x) ≡ true → i + head_size ≤ length x
    → leb (i + span_in book_storage (drop i x)) (length x) ≡ is_record book_storage (drop i x)
unfolding is_record is_whole
record_by_end x i m h =
    let s = span_in book_storage (drop i x) in
    let l = length-drop i x in
    rw (m, le-leb head_size (length (drop i x)) (omega (arith, l, h)))
    (⊎_elim (λ q. rw (lt-leb (i + s) (length x) q, lt-leb s (length (drop i x)) (omega (arith, l, q, h))) refl)
    (λ q. rw (le-leb (i + s) (length x) q, le-leb s (length (drop i x)) (omega (arith, l, q))) refl) (below_or (length x) (i + s)))

-- the end of a book: the used count, or the buffer's end before it
pub end_at : (buffer : List ℕ) (used : ℕ) → used ≤ length buffer → EndOf buffer used used
unfolding book_in
end_at buffer used h = record { inside = h; book = refl }

pub end_all : (buffer : List ℕ) (used r : ℕ) → length buffer ≤ r → r ≤ length buffer → length buffer ≤ used → EndOf buffer used r
unfolding book_in
end_all buffer used r l m h = record { inside = m; book = take_all r buffer l ∙ sym (take_all used buffer h) }

-- what is seen with the phrases from place i on, after what was seen before them, and what the walk comes to with them
abbrev noted_all : Seen → ℕ → ℕ → List Phrase → Seen
noted_all s n i [] = s
noted_all s n i (f ∷ fs) = noted_all (noted s n f.number i) n (i + length (record_of book_storage f)) fs

abbrev pub resumed : Seen → ℕ → ℕ → Reading → Result Seen Refusal
resumed s n i (holds fs) = Ok (noted_all s n i fs)
resumed s n i (unsound r) = Err r

resumed_then : (s : Seen) (n i : ℕ) (f : Phrase) (r : Reading)
    → resumed s n i (f then r) ≡ resumed (noted s n f.number i) n (i + length (record_of book_storage f)) r
unfolding ◌then◌
resumed_then s n i f (holds fs) = refl
resumed_then s n i f (unsound r) = refl

-- Numbers rise, so above the number wanted nothing is found any more,
noted_above : (n k i : ℕ) (s : Seen) (fs : List Phrase) → RisingFrom book_storage k fs → n < k
    → noted_all s n i fs ≡ record { least = least_after s.least fs; place = s.place }
unfolding least_after
noted_above n k i s [] r h = refl
noted_above n k i s (f ∷ fs) r h =
    let e = ne_eqb f.number n (omega (arith, h, r.1)) in
    let j = i + length (record_of book_storage f) in
    rw (e, add-one f.number)
    (noted_above n (suc f.number) j (record { least = suc f.number; place = s.place }) fs r.2 (omega (arith, h, r.1)))

-- and the walk, which begins with no place, finds where the record wanted begins.
noted_found : (n k i : ℕ) (s : Seen) (fs : List Phrase) → RisingFrom book_storage k fs → s.place ≡ None
    → noted_all s n i fs ≡ record { least = least_after s.least fs; place = stands_at (search fs n) (i + record_at book_storage fs n) }
unfolding least_after record_at search
noted_found n k i s [] r h = rw (← h) refl
noted_found n k i s (f ∷ fs) r h =
    let j = i + length (record_of book_storage f) in
    let z : i + 0 ≡ i = omega arith in
    let here : i + (length (record_of book_storage f) + record_at book_storage fs n) ≡ j + record_at book_storage fs n = omega arith in
    either (eqb f.number n)
    (λ q. rw (q, z, add-one f.number)
    (noted_above n (suc f.number) j (record { least = suc f.number; place = Some i }) fs r.2 (omega (arith, eqb-true f.number n q))))
    (λ q. rw (q, here, add-one f.number)
    (noted_found n (suc f.number) j (record { least = suc f.number; place = s.place }) fs r.2 h))

-- a record that stands at a place lies within the book
pub record_inside : (book : List ℕ) (i : ℕ) → i ≤ length book → is_record book_storage (drop i book) ≡ true
    → i + span_in book_storage (drop i book) ≤ length book
record_inside book i h q = omega (arith, h, (record_stands book_storage (drop i book) q).whole, length-drop i book)

-- Where the walk stands: at place i of the book, with s seen; what is left to read makes of it what is due.
pub record Going (book : List ℕ) (n i : ℕ) (s : Seen) : Type 0 where
  pub inside : i ≤ length book
  pub bytes : Bytes book
  pub rest : walked_of (read_book book_storage book) n ≡ resumed s n i (read_from book_storage 0 i s.least (drop i book))

pub going_start : (book : List ℕ) (n : ℕ) → Bytes book → Going book n 0 (record { least = 0; place = None })
unfolding walked_of read_book
going_start book n b = record { inside = omega arith; bytes = b; rest = of (judge book_storage book b) } where
  of : Judged book_storage book
      → walked_of (read_book book_storage book) n ≡ resumed (record { least = 0; place = None }) n 0 (read_book book_storage book)
  of (is_sound fs s e) =
      let z : 0 + record_at book_storage fs n ≡ record_at book_storage fs n = omega arith in
      let all = noted_found n 0 0 (record { least = 0; place = None }) fs s.rising refl in
      rw e (ap Ok (sym (rw z at all)))
  of (is_refused k p range d e) = rw e refl

pub going_all : {book : List ℕ} {n i : ℕ} {s : Seen} → Going book n i s → length book ≤ i
    → Ok s ≡ walked_of (read_book book_storage book) n
unfolding read_from
going_all {book} {n} {i} {s} g h = sym (rw (drop_of_length-le book h) at g.rest)

-- what is left to read where there are more bytes and no record stands
pub rest_15 : (book : List ℕ) (i least : ℕ) → i < length book → is_record book_storage (drop i book) ≡ false
    → read_from book_storage 0 i least (drop i book) ≡ unsound (refusal 15 i)
unfolding row15
rest_15 book i least more h = read_15 book_storage i least (drop i book) (omega (arith, length-drop i book, more)) (rw h refl)

-- At a place with more bytes the walk stops with 15 or 16, or goes on behind a record.
module _ {book : List ℕ} {n i : ℕ} {s : Seen} (g : Going book n i s) where
  abbrev x : List ℕ
  x = drop i book

  pub going_15 : i < length book → is_record book_storage x ≡ false → Err (refusal 15 i) ≡ walked_of (read_book book_storage book) n
  going_15 more h = sym (rw (rest_15 book i s.least more h) at g.rest)

  module _ (there : Stands book_storage x) {number : ℕ} (e : number ≡ number_in x) where
    left : 0 < length x
    left = omega (arith, there.head)

    pub going_16 : number < s.least → Err (refusal 16 i) ≡ walked_of (read_book book_storage book) n
    unfolding row16
    going_16 l =
        let k : row16 s.least x ≡ true = rw (← e, lt-leb s.least number l) refl in
        sym (rw (read_16 book_storage i s.least x left (stands_15 book_storage there) k) at g.rest)

    pub going_more : {j : ℕ} {q : Seen} → j ≡ i + span_in book_storage x → s.least ≤ number → q ≡ noted s n number i → Going book n j q
    unfolding row16 phrase_in
    going_more {j} {q} b l t =
        let k : row16 s.least x ≡ false = rw (← e, le-leb s.least number l) refl in
        let w = there.whole in
        let f = phrase_in book_storage x in
        let size = length-take-le (book_storage.size (length_in x)) (drop head_size x) (omega (arith, w, length-drop head_size x)) in
        let z : length (record_of book_storage f) ≡ span_in book_storage x = record_size book_storage f ∙ ap (head_size +◌) size in
        record {
          inside = omega (arith, w, b, length-drop i book);
          bytes = g.bytes;
          rest = g.rest ∙ ap (resumed s n i) (read_record book_storage i s.least x left (stands_15 book_storage there) k)
              ∙ resumed_then s n i f _ ∙ rw (t, e, b, z, add-one (number_in x), drop-drop (span_in book_storage x) i book) refl;
        }
