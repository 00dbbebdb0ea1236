-- The phrase book, in any storage: a record that is written reads back, and what reads as a record was written so; hence any bytes are the
-- records of some rising phrases and then their end or the first place of a refusal. Of the storage nothing is asked.
use Rattle.laws.proofs.Kit.{ℕ, zero, suc, ◌+◌, ◌-◌, ◌*◌, ◌/◌, ◌%◌, ◌<◌, ◌≤◌, ◌≡◌, refl, sym, ap, ◌∙◌, true, false, ◌&&◌}
use Rattle.laws.proofs.Kit.{true≢false, ◌⊎◌, inl, inr, ⊎_elim, List, [], ◌∷◌, ◌++◌, append_assoc, append-nil, arith, eqb}
use Rattle.laws.proofs.Kit.{length, take, drop, length-append, length-drop, take-append-drop, take_at, drop_at, get_or-drop}
use Rattle.laws.proofs.Kit.{drop-drop, length-take-le, eqb-true, eq-eqb, leb-true}
use Rattle.laws.proofs.Kit.{and_parts, le-leb, leb-false, lt-leb, not-false, not-true}
use Rattle.spec.specs.Book.{Phrase, Storage, record_mark, two_bytes, head_of, record_of, records, head_size, number_in, set_in, length_in}
use Rattle.spec.specs.Book.{span_in}
use Rattle.spec.specs.Book.{pair_at, phrase_in, has_record_mark, is_whole, is_record, row15, row16, Reading, holds, unsound, ◌then◌}
use Rattle.spec.specs.Book.{read_from}
use Rattle.spec.specs.Book.{read_book, Bytes, book_in, least_after, Fits, RisingFrom, Sound}
use Rattle.spec.specs.BookDemands.{UpTo, BookDue, no_record, not_above}
use Rattle.spec.specs.{Tables.same, Refusals.refusal, declared.Refusal.Refusal}
use Rattle.laws.proofs.{Classes.either}
use Rattle.std.proofs.lemmas.Grind.{common_steps}

-- the two bytes of a number give it back
pair_back : (n : ℕ) → n % 256 + n / 256 * 256 ≡ n
pair_back n = omega arith

-- bytes behind others are bytes,
pub bytes_behind : (k : ℕ) (x : List ℕ) → Bytes x → Bytes (drop k x)
bytes_behind k x b = λ j. rw (get_or-drop k x j 0) (b (k + j))

-- and so is each of a book in a buffer
pub bytes_in : (buffer : List ℕ) (used : ℕ) → Bytes buffer → Bytes (book_in buffer used)
unfolding book_in
bytes_in buffer used b j = grind (arith, common_steps, b j)

-- phrases before what the records after them hold
abbrev pub then_all : List Phrase → Reading → Reading
then_all [] r = r
then_all (f ∷ fs) r = f then then_all fs r

pub all_holds : (fs gs : List Phrase) → then_all fs (holds gs) ≡ holds (fs ++ gs)
unfolding ◌then◌
all_holds [] gs = refl
all_holds (f ∷ fs) gs = rw (all_holds fs gs) refl

all_unsound : (fs : List Phrase) (r : Refusal) → then_all fs (unsound r) ≡ unsound r
unfolding ◌then◌
all_unsound [] r = refl
all_unsound (f ∷ fs) r = rw (all_unsound fs r) refl

-- a test of two bytes
marked : (a b c : ℕ) → (eqb a 82 && (eqb b c && true)) ≡ true → (a ≡ 82) × (b ≡ c)
marked a b c h = let p = and_parts _ _ h in (eqb-true a 82 p.0, eqb-true b c (and_parts _ _ p.1).0)

-- A book in a storage.
module _ (st : Storage) where
  -- Bytes that are passed over are not read.
  skipped : (k place least : ℕ) (x : List ℕ) → read_from st k place least x ≡ read_from st 0 (place + k) least (drop k x)
  unfolding read_from
  skipped zero place least x = let e : place + 0 ≡ place = omega arith in rw e refl
  skipped (suc k) place least [] = refl
  skipped (suc k) place least (b ∷ x) = let e : place + suc k ≡ suc place + k = omega arith in rw e (skipped k (suc place) least x)

  -- the bytes of a record, with the first
  behind : (s place least b : ℕ) (x : List ℕ) → 0 < s
      → read_from st (s - 1) (suc place) least x ≡ read_from st 0 (place + s) least (drop s (b ∷ x))
  behind zero place least b x h = absurd (omega arith)
  behind (suc k) place least b x h =
      let e : suc k - 1 ≡ k = omega arith in
      let p : place + suc k ≡ suc place + k = omega arith in
      rw (e, p) (skipped k (suc place) least x)

  -- What stands at a record's start is no record,
  pub read_15 : (place least : ℕ) (x : List ℕ) → 0 < length x → row15 st x ≡ true
      → read_from st 0 place least x ≡ unsound (refusal 15 place)
  unfolding read_from
  read_15 place least [] more h = absurd (omega arith)
  read_15 place least (b ∷ x) more h = rw h refl

  -- or one whose number is not above the one before,
  pub read_16 : (place least : ℕ) (x : List ℕ) → 0 < length x → row15 st x ≡ false → row16 least x ≡ true
      → read_from st 0 place least x ≡ unsound (refusal 16 place)
  unfolding read_from
  read_16 place least [] more h k = absurd (omega arith)
  read_16 place least (b ∷ x) more h k = rw (h, k) refl

  -- or a record that holds a phrase, and the reading goes on behind it.
  pub read_record : (place least : ℕ) (x : List ℕ) → 0 < length x → row15 st x ≡ false → row16 least x ≡ false
      → read_from st 0 place least x ≡ (phrase_in st x then read_from st 0 (place + span_in st x) (suc (number_in x))
      (drop (span_in st x) x))
  unfolding read_from
  read_record place least [] more h k = absurd (omega arith)
  read_record place least (b ∷ x) more h k = rw (h, k, behind (span_in st (b ∷ x)) place (suc (number_in (b ∷ x))) b x (omega arith)) refl

  -- A record stands at the start of x: mark, head and tape are there.
  pub record Stands (x : List ℕ) : Type 0 where
    pub mark : has_record_mark st x ≡ true
    pub head : head_size ≤ length x
    pub whole : span_in st x ≤ length x

  -- exactly where the definition says so, and number 15 does not fit
  pub stands_record : {x : List ℕ} → Stands x → is_record st x ≡ true
  unfolding is_record is_whole
  stands_record {x} s = rw (s.mark, le-leb head_size (length x) s.head, le-leb (span_in st x) (length x) s.whole) refl

  pub record_stands : (x : List ℕ) → is_record st x ≡ true → Stands x
  unfolding is_record is_whole
  record_stands x h =
      let p = and_parts _ _ h in
      let q = and_parts _ _ p.1 in
      record { mark = p.0; head = leb-true _ _ q.0; whole = leb-true _ _ q.1 }

  pub stands_15 : {x : List ℕ} → Stands x → row15 st x ≡ false
  unfolding row15
  stands_15 s = rw (stands_record s) refl

  pub standing : (x : List ℕ) → row15 st x ≡ false → Stands x
  unfolding row15
  standing x h = record_stands x (not-false _ h)

  -- A record that was written reads back, whatever stands behind it.
  pub record Written (f : Phrase) (rest x : List ℕ) : Type 0 where
    pub stands : Stands x
    pub number : number_in x ≡ f.number
    pub set : set_in x ≡ f.set
    pub count : length_in x ≡ f.count
    pub phrase : phrase_in st x ≡ f
    pub behind : drop (span_in st x) x ≡ rest

  pub written_reads : (f : Phrase) (rest : List ℕ) → Fits st f → Written f rest (record_of st f ++ rest)
  unfolding record_of head_of record_mark two_bytes pair_at phrase_in has_record_mark same
  written_reads f rest fit =
      let n = pair_back f.number in
      let l = pair_back f.count in
      let size = st.size f.count in
      let x = record_of st f ++ rest in
      let e : length x ≡ head_size + length f.stored + length rest = simp length-append (omega arith) in
      record {
        stands = record {
          mark = rw (eq-eqb st.mark st.mark refl) refl;
          head = omega (arith, e);
          whole = rw l (omega (arith, e, fit.stored));
        };
        number = n;
        set = refl;
        count = l;
        phrase = rw (n, l, take_at f.stored rest size fit.stored) refl;
        behind = rw (l, ← drop-drop size head_size x) (drop_at f.stored rest size fit.stored);
      }

  -- how long a record is
  pub record_size : (f : Phrase) → length (record_of st f) ≡ head_size + length f.stored
  unfolding record_of head_of record_mark two_bytes
  record_size f = omega arith

  -- Where a record stands it was written: it is the record of the phrase that it holds.
  pub record Recorded (x : List ℕ) : Type 0 where
    pub fits : Fits st (phrase_in st x)
    pub bytes : x ≡ record_of st (phrase_in st x) ++ drop (span_in st x) x

  pub stands_written : (x : List ℕ) → Bytes x → Stands x → Recorded x
  unfolding record_of head_of record_mark two_bytes pair_at phrase_in has_record_mark same
  stands_written [] b s = absurd (omega (arith, s.head))
  stands_written (b0 ∷ []) b s = absurd (omega (arith, s.head))
  stands_written (b0 ∷ b1 ∷ []) b s = absurd (omega (arith, s.head))
  stands_written (b0 ∷ b1 ∷ b2 ∷ []) b s = absurd (omega (arith, s.head))
  stands_written (b0 ∷ b1 ∷ b2 ∷ b3 ∷ []) b s = absurd (omega (arith, s.head))
  stands_written (b0 ∷ b1 ∷ b2 ∷ b3 ∷ b4 ∷ []) b s = absurd (omega (arith, s.head))
  stands_written (b0 ∷ b1 ∷ b2 ∷ b3 ∷ b4 ∷ b5 ∷ []) b s = absurd (omega (arith, s.head))
  stands_written (b0 ∷ b1 ∷ b2 ∷ b3 ∷ b4 ∷ b5 ∷ b6 ∷ y) b s =
      let m = marked b0 b1 st.mark s.mark in
      let n = b5 + b6 * 256 in
      let size = st.size n in
      let h : size ≤ length y = omega (arith, s.whole) in
      let low2 : (b2 + b3 * 256) % 256 ≡ b2 = omega (arith, b 2) in
      let high2 : (b2 + b3 * 256) / 256 ≡ b3 = omega (arith, b 2) in
      let low5 : n % 256 ≡ b5 = omega (arith, b 5) in
      let high5 : n / 256 ≡ b6 = omega (arith, b 5) in
      let r : y ≡ take size y ++ drop size y = sym (take-append-drop size y) in
      record {
        fits = record { number = omega (arith, b 2, b 3); set = b 4; count = omega (arith, b 5, b 6); stored = length-take-le size y h };
        bytes = rw (m.0, m.1, low2, high2, low5, high5, ← drop-drop size head_size (82 ∷ st.mark ∷ b2 ∷ b3 ∷ b4 ∷ b5 ∷ b6 ∷ y))
            (ap (λ (z : List ℕ). 82 ∷ st.mark ∷ b2 ∷ b3 ∷ b4 ∷ b5 ∷ b6 ∷ z) r);
      }

  -- A record that may stand there is read as its phrase, and the reading goes on behind it.
  read_one : (place least : ℕ) (f : Phrase) (rest : List ℕ) → Fits st f → least ≤ f.number
      → read_from st 0 place least (record_of st f ++ rest) ≡ (f then read_from st 0 (place + length (record_of st f)) (suc f.number) rest)
  unfolding row16
  read_one place least f rest fit h =
      let x = record_of st f ++ rest in
      let w = written_reads f rest fit in
      let k : row16 least x ≡ false = rw (w.number, le-leb least f.number h) refl in
      let s : span_in st x ≡ length (record_of st f) = rw (w.count, record_size f, fit.stored) refl in
      read_record place least x (omega (arith, w.stands.head)) (stands_15 w.stands) k ∙ rw (w.phrase, w.behind, w.number, s) refl

  -- Sound records and then more bytes are read as their phrases, and then the bytes from the number after them on.
  pub read_all : (fs : List Phrase) (place least : ℕ) (rest : List ℕ) → RisingFrom st least fs
      → read_from st 0 place least (records st fs ++ rest)
      ≡ then_all fs (read_from st 0 (place + length (records st fs)) (least_after least fs) rest)
  unfolding records least_after
  read_all [] place least rest h = let e : place + 0 ≡ place = omega arith in rw e refl
  read_all (f ∷ fs) place least rest h =
      let here = record_of st f in
      let all = length-append here (records st fs) in
      let e : place + length (here ++ records st fs) ≡ place + length here + length (records st fs) = omega (arith, all) in
      rw (append_assoc here (records st fs) rest, e)
      (read_one place least f (records st fs ++ rest) h.0 h.1
      ∙ ap (f then◌) (read_all fs (place + length here) (suc f.number) rest h.2))

  -- What any bytes are: the records of rising phrases, and then nothing, or what is no record, or a record whose number is not above.
  pub record Run (least : ℕ) (x : List ℕ) : Type 0 where
    pub phrases : List Phrase
    pub rest : List ℕ
    pub bytes : x ≡ records st phrases ++ rest
    pub rising : RisingFrom st least phrases
    pub ends : (rest ≡ [])
        ⊎ ((0 < length rest) × ((row15 st rest ≡ true) ⊎ (row15 st rest ≡ false) × (row16 (least_after least phrases) rest ≡ true)))

  -- a record more before them
  run_more : (least : ℕ) (x : List ℕ) → Bytes x → row15 st x ≡ false → row16 least x ≡ false
      → Run (suc (number_in x)) (drop (span_in st x) x)
      → Run least x
  unfolding records least_after row16 phrase_in
  run_more least x b h k r =
      let w = stands_written x b (standing x h) in
      let f = phrase_in st x in
      record {
        phrases = f ∷ r.phrases;
        rest = r.rest;
        bytes = w.bytes ∙ rw (r.bytes, append_assoc (record_of st f) (records st r.phrases) r.rest) refl;
        rising = (w.fits, leb-true _ _ (not-false _ k), r.rising);
        ends = r.ends;
      }

  run_none : (least : ℕ) → Run least []
  unfolding records
  run_none least = record { phrases = []; rest = []; bytes = refl; rising = tt; ends = inl refl }

  -- n is a bound for what is left to read
  pub run : (n least : ℕ) (x : List ℕ) → length x ≤ n → Bytes x → Run least x
  unfolding records least_after
  run zero least [] h b = run_none least
  run zero least (c ∷ x) h b = absurd (omega (arith, h))
  run (suc n) least [] h b = run_none least
  run (suc n) least (c ∷ x) h b =
      let y = c ∷ x in
      let span = span_in st y in
      let stop : (row15 st y ≡ true) ⊎ (row15 st y ≡ false) × (row16 least y ≡ true) → Run least y =
      λ s. record { phrases = []; rest = y; bytes = refl; rising = tt; ends = inr (omega arith, s) } in
      either (row15 st y) (λ p. stop (inl p)) (λ p. either (row16 least y) (λ q. stop (inr (p, q)))
      (λ q. run_more least y b p q (run n (suc (number_in y)) (drop span y) (omega (arith, h, length-drop span y))
      (bytes_behind span y b))))

  -- So a book is sound, and then its phrases are read, or one of its numbers is due, and then that is its refusal.
  pub sound_read : {book : List ℕ} {fs : List Phrase} → Sound st book fs → read_book st book ≡ holds fs
  unfolding read_book read_from
  sound_read {book} {fs} s =
      rw (s.bytes, ← append-nil (records st fs)) (read_all fs 0 0 [] s.rising ∙ all_holds fs [] ∙ ap holds (append-nil fs))

  module _ {book : List ℕ} {fs : List Phrase} {rest : List ℕ} (u : UpTo st book fs rest) where
    stopped : (n : ℕ) → read_from st 0 (length (records st fs)) (least_after 0 fs) rest ≡ unsound (refusal n (length (records st fs)))
        → read_book st book ≡ unsound (refusal n (length (records st fs)))
    unfolding read_book
    stopped n h =
        let z : 0 + length (records st fs) ≡ length (records st fs) = omega arith in
        rw u.bytes (read_all fs 0 0 rest u.rising ∙ ap (then_all fs) (rw z h) ∙ all_unsound fs _)

    bytes_after : Bytes book → Bytes rest
    bytes_after b =
        let e : drop (length (records st fs)) book ≡ rest = rw u.bytes (drop_at (records st fs) rest (length (records st fs)) refl) in
        rw e at (bytes_behind (length (records st fs)) book b)

    -- where no record stands, and where one does whose number is not above
    stopped_15 : 0 < length rest → row15 st rest ≡ true → read_book st book ≡ unsound (refusal 15 (length (records st fs)))
    stopped_15 more h = stopped 15 (read_15 (length (records st fs)) (least_after 0 fs) rest more h)

    stopped_16 : 0 < length rest → row15 st rest ≡ false → row16 (least_after 0 fs) rest ≡ true
        → read_book st book ≡ unsound (refusal 16 (length (records st fs)))
    stopped_16 more h k = stopped 16 (read_16 (length (records st fs)) (least_after 0 fs) rest more h k)

    -- that is no record's start
    none_there : Bytes rest → row15 st rest ≡ true → (f : Phrase) (after : List ℕ) → Fits st f → rest ≡ record_of st f ++ after → ⊥
    none_there b h f after fit e = true≢false (sym h ∙ ap (row15 st) e ∙ stands_15 (written_reads f after fit).stands)

  -- A number that is due is the refusal.
  pub due_read : {book : List ℕ} {n p : ℕ} → Bytes book → BookDue st book n p → read_book st book ≡ unsound (refusal n p)
  unfolding row16
  due_read b (no_record fs c rest u other) =
      either (row15 st (c ∷ rest)) (λ h. stopped_15 u (omega arith) h)
      (λ h. let w = stands_written (c ∷ rest) (bytes_after u b) (standing (c ∷ rest) h) in absurd (other _ _ w.fits w.bytes))
  due_read b (not_above fs f rest fit u h) =
      let w = written_reads f rest fit in
      stopped_16 u (omega (arith, w.stands.head)) (stands_15 w.stands) (rw (w.number, lt-leb (least_after 0 fs) f.number h) refl)

  -- So a book is sound and holds its phrases, or its refusal is the number that is due.
  pub data Judged (book : List ℕ) : Type 0 where
    is_sound : (fs : List Phrase) → Sound st book fs → read_book st book ≡ holds fs → Judged book
    is_refused : (n p : ℕ) → (15 ≤ n) × (n ≤ 16) → BookDue st book n p → read_book st book ≡ unsound (refusal n p) → Judged book

  -- where a run of records ends
  judge_run : {book : List ℕ} → Bytes book → Run 0 book → Judged book
  unfolding row16 phrase_in
  judge_run {book} b r =
      let fs = r.phrases in
      let u : UpTo st book fs r.rest = record { bytes = r.bytes; rising = r.rising } in
      ⊎_elim
      (λ e.
      let all : book ≡ records st fs = r.bytes ∙ ap (records st fs ++◌) e ∙ append-nil (records st fs) in
      let s : Sound st book fs = record { bytes = all; rising = r.rising } in
      is_sound fs s (sound_read s))
      (λ e. ⊎_elim
      (λ h. is_refused 15 _ (omega arith, omega arith) (at_start r.rest e.0 u h) (stopped_15 u e.0 h))
      (λ h.
      let x = r.rest in
      let w = stands_written x (bytes_after u b) (standing x h.0) in
      let v : UpTo st book fs (record_of st (phrase_in st x) ++ drop (span_in st x) x) =
      record { bytes = r.bytes ∙ ap (records st fs ++◌) w.bytes; rising = r.rising } in
      is_refused 16 _ (omega arith, omega arith) (not_above fs _ _ w.fits v (leb-false _ _ (not-true _ h.1)))
      (stopped_16 u e.0 h.0 h.1)) e.1) r.ends
    where
      at_start : {fs : List Phrase} (rest : List ℕ) → 0 < length rest → UpTo st book fs rest → row15 st rest ≡ true
          → BookDue st book 15 (length (records st fs))
      at_start [] more u h = absurd (omega (arith, more))
      at_start {fs} (c ∷ rest) more u h = no_record fs c rest u (none_there u (bytes_after u b) h)

  pub judge : (book : List ℕ) → Bytes book → Judged book
  judge book b = judge_run b (run (length book) 0 book (omega arith) b)
