-- What holds of a phrase book (paper 02, requests 6 and 7) in any storage: of one lookup or
-- addition (`book_demands` of crate laws proves it), of a list of additions (`additions_kept`), and
-- that a listener learns nothing of what is not for him (`silence`, and for one addition
-- `unheard_addition`). What holds in the plain storage besides, `plain_demands` and
-- `additions_located`, comes last.
-- Assumes nothing: these are definitions.
use Rattle.std.specs.Prelude.{ℕ, ◌+◌, ◌*◌, ◌<◌, ◌≤◌, ◌≡◌, true, false, ◌⊎◌, ◌↔◌, List, [], ◌∷◌}
use Rattle.std.specs.Prelude.{◌++◌, map, length, take, Ok, Err}
use Rattle.spec.specs.Numbers.{short_output, broken_record, number_not_above, not_for_listener}
use Rattle.spec.specs.Refusals.{refusal, NoneFits, Given}
use Rattle.spec.specs.Listeners.{may_hear, may_write}
use Rattle.spec.specs.Tape.{tape}
use Rattle.spec.specs.Book.{Phrase, Storage, plain, record_of, records, book_in, search, tape_of}
use Rattle.spec.specs.Book.{heard, told, handed, FindPromise, least_after, NewPhrase, phrase_of}
use Rattle.spec.specs.Book.{with_addition, AddPromise, Fits, RisingFrom, Sound, start_of}
use Rattle.spec.specs.Book.{placed, told_of, part_at, LocatePromise}
use Rattle.spec.specs.declared.Listener.{Listener}
use Rattle.spec.specs.Results.{Answer, Found, Located}
use Rattle.spec.specs.Demands.{Settled, Exactly}

-- What does not depend on the storage comes first. A phrase is one of these
abbrev pub Listed : Phrase → List Phrase → Type 0
Listed f [] = ⊥
Listed f (g ∷ gs) = (f ≡ g) ⊎ Listed f gs

-- One addition: who asked for what, what was answered, and what the buffer held afterwards.
pub record Addition : Type 0 where
  pub listener : Listener
  pub phrase : NewPhrase
  pub answer : Answer
  pub after : List ℕ

-- the used count after it, which the next addition gets, and the phrases that it and the later ones
-- added, where its phrase is f and the later ones added fs
unfoldable pub used_after : Answer → ℕ → ℕ
used_after (Ok w) used = w.length
used_after (Err r) used = used

unfoldable pub added_by : Answer → Phrase → List Phrase → List Phrase
added_by (Ok w) f fs = f ∷ fs
added_by (Err r) f fs = fs

-- the buffer and the used count after the last of a list
abbrev pub last_buffer : List ℕ → List Addition → List ℕ
last_buffer buffer [] = buffer
last_buffer buffer (a ∷ more) = last_buffer a.after more

abbrev pub last_used : ℕ → List Addition → ℕ
last_used used [] = used
last_used used (a ∷ more) = last_used (used_after a.answer used) more

-- One lookup: the number asked for and what the place that takes the tape referred to, what was
-- answered, and what the place refers to afterwards.
pub record Lookup : Type 0 where
  pub number : ℕ
  pub before : List ℕ
  pub answer : Found
  pub after : List ℕ

-- what a list of them asks, and what it gets
abbrev pub asked : List Lookup → List (ℕ × List ℕ)
asked xs = map (λ (x : Lookup). (x.number, x.before)) xs

abbrev pub gotten : List Lookup → List (Found × List ℕ)
gotten xs = map (λ (x : Lookup). (x.answer, x.after)) xs

-- A book in a storage.
module _ (st : Storage) where
  -- What stands in a book up to a place: the records of these phrases, whose numbers rise, and then
  -- these bytes.
  pub record UpTo (book : List ℕ) (fs : List Phrase) (rest : List ℕ) : Type 0 where
    pub bytes : book ≡ records st fs ++ rest
    pub rising : RisingFrom st 0 fs

  -- The numbers of a book: 15 where after sound records more bytes stand that no record begins, and
  -- 16 where one does whose number is not above the last.
  pub data BookDue (book : List ℕ) : ℕ → ℕ → Type 0 where
    no_record : (fs : List Phrase) (b : ℕ) (rest : List ℕ) → UpTo book fs (b ∷ rest)
        → ((f : Phrase) (after : List ℕ) → Fits st f → b ∷ rest ≡ record_of st f ++ after → ⊥)
        → BookDue book broken_record (length (records st fs))
    not_above : (fs : List Phrase) (f : Phrase) (rest : List ℕ) → Fits st f
        → UpTo book fs (record_of st f ++ rest) → f.number < least_after 0 fs
        → BookDue book number_not_above (length (records st fs))

  -- one of these phrases has this number and this tape, and is for this listener
  pub record IsFor (l : Listener) (fs : List Phrase) (n : ℕ) (t : List ℕ) : Type 0 where
    pub phrase : Phrase
    pub listed : Listed phrase fs
    pub number : phrase.number ≡ n
    pub tape : tape_of st phrase ≡ t
    pub hears : may_hear l phrase.set ≡ true

  -- a sound book has this tape under this number for a listener; it has none for him
  pub record Has (l : Listener) (book : List ℕ) (n : ℕ) (t : List ℕ) : Type 0 where
    pub phrases : List Phrase
    pub sound : Sound st book phrases
    pub has : IsFor l phrases n t

  pub record HasNone (l : Listener) (book : List ℕ) (n : ℕ) : Type 0 where
    pub phrases : List Phrase
    pub sound : Sound st book phrases
    pub none : (t : List ℕ) → IsFor l phrases n t → ⊥

  -- The numbers of a lookup: the book's, and then 17 at 0, where it has none for him.
  pub data FindDue (l : Listener) (book : List ℕ) (n : ℕ) : ℕ → ℕ → Type 0 where
    of_records : (k p : ℕ) → BookDue book k p → FindDue l book n k p
    not_for_him : HasNone l book n → FindDue l book n not_for_listener 0

  -- A lookup of number n by a listener hands back the tape exactly where the book has it for him,
  -- and gives each number exactly where it is due.
  pub record LooksUp (l : Listener) (book : List ℕ) (n : ℕ) (old new : List ℕ) (r : Found) : Type 0
    where
      pub gives : (t : List ℕ) → ((r ≡ Ok tt) × (new ≡ t)) ↔ Has l book n t
      pub refuses : (k p : ℕ)
          → ((r ≡ Err (refusal k p)) × (new ≡ old)) ↔ FindDue l book n k p

  -- a listener may add a new phrase
  pub record MayAdd (l : Listener) (book : List ℕ) (x : NewPhrase) : Type 0 where
    pub writes : may_write l ≡ true
    pub message : NoneFits x.message
    pub phrases : List Phrase
    pub sound : Sound st book phrases
    pub above : least_after 0 phrases ≤ x.number

  -- The numbers of an addition, where the book with it has this size: 17 at 0, then the message's,
  -- then the book's, then 16 at its end, and then 11.
  pub data AddDue (l : Listener) (book : List ℕ) (x : NewPhrase) (size room : ℕ) : ℕ → ℕ → Type 0
    where
      not_dispatch : may_write l ≡ false → AddDue l book x size room not_for_listener 0
      of_message : (k p : ℕ) → may_write l ≡ true → Given x.message k p
          → AddDue l book x size room k p
      of_book : (k p : ℕ) → may_write l ≡ true → NoneFits x.message → BookDue book k p
          → AddDue l book x size room k p
      not_above_last : (fs : List Phrase) → may_write l ≡ true → NoneFits x.message
          → Sound st book fs → x.number < least_after 0 fs
          → AddDue l book x size room number_not_above (length book)
      no_room_behind : MayAdd l book x → room < size → AddDue l book x size room short_output size

  -- What holds for any buffer of bytes and any used count.
  pub record BookDemands (buffer : List ℕ) (used : ℕ) : Type 0 where
    -- a lookup is exact
    pub find : (l : Listener) (n : ℕ) (old new : List ℕ) (r : Found)
        → FindPromise st l buffer used n old new r → LooksUp l (book_in buffer used) n old new r
    -- and it does not depend on what stands after the used count
    pub rest : (buffer₂ : List ℕ) (used₂ : ℕ) → book_in buffer₂ used₂ ≡ book_in buffer used
        → (l : Listener) (n : ℕ) (old new new₂ : List ℕ) (r r₂ : Found)
        → FindPromise st l buffer used n old new r → FindPromise st l buffer₂ used₂ n old new₂ r₂
        → (r₂ ≡ r) × (new₂ ≡ new)
    -- an addition is carried out, or refused with every byte left
    pub settled : (l : Listener) (x : NewPhrase) (buffer' : List ℕ) (r : Answer)
        → AddPromise st l buffer used x buffer' r
        → let book = book_in buffer used in
        let size = length (with_addition st book x) in
        Settled (AddDue l book x size (length buffer)) (with_addition st book x) 0 buffer buffer' r
    -- and exact
    pub exact : (l : Listener) (x : NewPhrase) (buffer' : List ℕ) (r : Answer)
        → AddPromise st l buffer used x buffer' r
        → let book = book_in buffer used in
        let size = length (with_addition st book x) in
        Exactly (MayAdd l book x) (AddDue l book x size (length buffer)) (with_addition st book x) 0
        buffer buffer' r
    -- it leaves the records before it
    pub leaves : (l : Listener) (x : NewPhrase) (buffer' : List ℕ) (r : Answer)
        → AddPromise st l buffer used x buffer' r
        → take (length (book_in buffer used)) buffer' ≡ book_in buffer used

  -- An addition to this buffer and used count: its number has two bytes and its set one, and it
  -- keeps its promise.
  pub record AddedTo (buffer : List ℕ) (used : ℕ) (a : Addition) : Type 0 where
    pub number : a.phrase.number < 65536
    pub set : a.phrase.set < 256
    pub promise : AddPromise st a.listener buffer used a.phrase a.after a.answer

  -- Additions one after the other, from this buffer and used count on.
  abbrev pub OneByOne : List ℕ → ℕ → List Addition → Type 0
  OneByOne buffer used [] = Unit {0}
  OneByOne buffer used (a ∷ more) =
      AddedTo buffer used a × OneByOne a.after (used_after a.answer used) more

  -- the phrases of those that were accepted, in order
  abbrev pub accepted : List Addition → List Phrase
  accepted [] = []
  accepted (a ∷ more) = added_by a.answer (phrase_of st a.phrase) (accepted more)

  -- The book holds just these phrases in order, and each lookup gives the tape that one of them has
  -- for the listener, and else 17.
  pub record HoldsJust (buffer : List ℕ) (used : ℕ) (fs : List Phrase) : Type 0 where
    pub sound : Sound st (book_in buffer used) fs
    pub size : used ≡ length (records st fs)
    pub find : (l : Listener) (n : ℕ) (old new : List ℕ) (r : Found)
        → FindPromise st l buffer used n old new r
        → (r ≡ told (heard st l (search fs n))) × (new ≡ handed (heard st l (search fs n)) old)

  -- After every list of additions to an empty book, by whatever listeners and whatever stood in the
  -- buffer, it holds just the tapes of those that were accepted, under their numbers and with their
  -- sets, in order.
  abbrev pub AdditionsKept : List ℕ → List Addition → Type 0
  AdditionsKept buffer additions =
      OneByOne buffer 0 additions
      → HoldsJust (last_buffer buffer additions) (last_used 0 additions) (accepted additions)

  -- Lookups by one listener in one book, each of which keeps its promise
  abbrev pub LookedUp : Listener → List ℕ → ℕ → List Lookup → Type 0
  LookedUp l buffer used [] = Unit {0}
  LookedUp l buffer used (x ∷ more) =
      FindPromise st l buffer used x.number x.before x.after x.answer
      × LookedUp l buffer used more

  -- two books answer a listener alike: every list of lookups gets equal answers
  abbrev pub AnswerAlike : Listener → List ℕ → ℕ → List ℕ → ℕ → Type 0
  AnswerAlike l buffer used buffer₂ used₂ =
      (xs ys : List Lookup) → LookedUp l buffer used xs → LookedUp l buffer₂ used₂ ys
      → asked xs ≡ asked ys → gotten xs ≡ gotten ys

  -- Two sound books, and what they hold,
  pub record BothSound (book book₂ : List ℕ) : Type 0 where
    pub phrases : List Phrase
    pub phrases₂ : List Phrase
    pub sound : Sound st book phrases
    pub sound₂ : Sound st book₂ phrases₂

  -- that agree in what a listener may hear: the same numbers, with the same tapes.
  pub record AgreeFor (l : Listener) (book book₂ : List ℕ) : Type 0 where
    pub both : BothSound book book₂
    pub same : (n : ℕ) (t : List ℕ) → IsFor l both.phrases n t ↔ IsFor l both.phrases₂ n t

  -- Request 7, the law of silence, which the field calls noninterference. Two sound books that
  -- agree in what a listener may hear answer him alike, whatever else they hold, whatever else is
  -- in the sets, and wherever the records stand. It is one theorem for pump crews, road crews and
  -- dispatch. An answer is what is handed back: a refusal's number and place, or the tape's bytes.
  -- Where in the book these stand is no part of it. What it does not cover: 15 and 16, which tell
  -- of the state of the whole book, so both must be sound; time, since a lookup goes through every
  -- record, and takes a few instructions more for a phrase that is not for him than for one that is
  -- not there; and the start that a caller in C is told, who has the whole book at hand.
  abbrev pub Silence : Listener → List ℕ → ℕ → List ℕ → ℕ → Type 0
  Silence l buffer used buffer₂ used₂ =
      AgreeFor l (book_in buffer used) (book_in buffer₂ used₂)
      → AnswerAlike l buffer used buffer₂ used₂

  -- So an addition, dispatch's own too, changes no answer of a listener who is not in its phrase's
  -- set; of any buffer of bytes, sound or not.
  abbrev pub UnheardAddition : Listener → List ℕ → ℕ → Addition → Type 0
  UnheardAddition l buffer used a =
      AddedTo buffer used a → may_hear l a.phrase.set ≡ false
      → AnswerAlike l buffer used a.after (used_after a.answer used)

-- A book in the plain storage, whose bytes behind a record's head are the tape itself.
pub record PlainDemands (buffer : List ℕ) (used : ℕ) : Type 0 where
  -- the phrase that an addition makes has the message's tape in its edition
  pub tape : (x : NewPhrase) → tape_of plain (phrase_of plain x) ≡ tape x.edition x.message
  -- the book gets longer by a head, 7 bytes, and by at most two bytes for each byte of the message
  pub most : (x : NewPhrase) → let book = book_in buffer used in
      length (with_addition plain book x) ≤ length book + (7 + 2 * length x.message)
  -- a lookup that tells the place is a lookup: the bytes there are handed back
  pub locate : (l : Listener) (n : ℕ) (r : Located) → LocatePromise l buffer used n r
      → FindPromise plain l buffer used n [] (part_at r buffer) (told_of r)

-- The book holds just these phrases in order, and a lookup that tells the place tells that of the
-- tape that one of them has for the listener, and else 17.
pub record HoldsLocated (buffer : List ℕ) (used : ℕ) (fs : List Phrase) : Type 0 where
  pub just : HoldsJust plain buffer used fs
  pub locate : (l : Listener) (n : ℕ) (r : Located) → LocatePromise l buffer used n r
      → r ≡ placed (start_of fs n) (heard plain l (search fs n))

-- So it is after every list of additions to an empty book.
abbrev pub AdditionsLocated : List ℕ → List Addition → Type 0
AdditionsLocated buffer additions =
    OneByOne plain buffer 0 additions
    → HoldsLocated (last_buffer buffer additions) (last_used 0 additions) (accepted plain additions)
