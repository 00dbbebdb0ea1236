-- What the C interface says of an answer: the paper's four numbers; of the editor's, the reader's
-- and an addition's three, since no cut is live there; and of a lookup's five.
-- Assumes nothing: these are definitions.
use Rattle.std.specs.Prelude.{ℕ, ◌<◌, ◌≡◌, Bool, cond, List, [], ◌∷◌, eqb, take, drop}
use Rattle.std.specs.Prelude.{Option, Some, None, Ok, Err}
use Rattle.spec.specs.Answers.{number_of, place_of, length_of, live_of, checked_number}
use Rattle.spec.specs.Answers.{checked_place}
use Rattle.spec.specs.Answers.{checked_codes, checked_names, Promise, Carried}
use Rattle.spec.specs.Listeners.{withheld}
use Rattle.spec.specs.Book.{Phrase, book_storage, read_book, book_in, unheard, LocatePromise}
use Rattle.spec.specs.Book.{NewPhrase, phrase_of, AddPromise}
use Rattle.spec.specs.BookDemands.{HoldsLocated, BothSound, AgreeFor}
use Rattle.spec.specs.declared.Edition.{Edition}
use Rattle.spec.specs.declared.Edition.TheVariants.{One, Two}
use Rattle.spec.specs.declared.Listener.TheVariants.{Pump, Road, Dispatch}
use Rattle.spec.specs.declared.Listener.{Listener}
use Rattle.spec.specs.Results.{Checked, Answer, Located}
use Rattle.capi.specs.declared.GovorunAnswer.{GovorunAnswer}
use Rattle.capi.specs.declared.GovorunCounts.{GovorunCounts}
use Rattle.capi.specs.declared.GovorunText.{GovorunText}
use Rattle.capi.specs.declared.GovorunAdded.{GovorunAdded}
use Rattle.capi.specs.declared.GovorunFound.{GovorunFound}

-- the four numbers of an answer
pub record Said (a : Answer) (r : GovorunAnswer) : Type 0 where
  pub number : r.number ≡ number_of a
  pub place : r.place ≡ place_of a
  pub length : r.length ≡ length_of a
  pub live : r.live ≡ live_of a

-- and of the check's
pub record Counted (a : Checked) (r : GovorunCounts) : Type 0 where
  pub number : r.number ≡ checked_number a
  pub place : r.place ≡ checked_place a
  pub codes : r.codes ≡ checked_codes a
  pub names : r.names ≡ checked_names a

-- and of the editor's and the reader's
pub record Told (a : Answer) (r : GovorunText) : Type 0 where
  pub number : r.number ≡ number_of a
  pub place : r.place ≡ place_of a
  pub length : r.length ≡ length_of a

-- and of an addition's, whose length is the new used count
pub record SaidAdded (a : Answer) (r : GovorunAdded) : Type 0 where
  pub number : r.number ≡ number_of a
  pub place : r.place ≡ place_of a
  pub used : r.used ≡ length_of a

-- the five numbers of a lookup: 0 and 0 where it is not refused, whether there is a tape, and where
-- it begins and how long it is, 0 and 0 where there is none
unfoldable pub number_found : Located → ℕ
number_found (Ok s) = 0
number_found (Err r) = r.number

unfoldable pub place_found : Located → ℕ
place_found (Ok s) = 0
place_found (Err r) = r.place

unfoldable pub is_found : Located → ℕ
is_found (Ok s) = 1
is_found (Err r) = 0

unfoldable pub start_found : Located → ℕ
start_found (Ok s) = s.start
start_found (Err r) = 0

unfoldable pub length_found : Located → ℕ
length_found (Ok s) = s.length
length_found (Err r) = 0

pub record SaidFound (a : Located) (r : GovorunFound) : Type 0 where
  pub number : r.number ≡ number_found a
  pub place : r.place ≡ place_found a
  pub found : r.found ≡ is_found a
  pub start : r.start ≡ start_found a
  pub length : r.length ≡ length_found a

-- the edition that a call names: the newer, edition 2, or edition 1
abbrev pub edition : Bool → Edition
edition newer = cond newer Two One

-- whom a number names: 0 pump crews, 1 road crews, 2 dispatch, and any other number someone who is
-- no listener
abbrev pub named : ℕ → Option Listener
named n =
    cond (eqb n 0) (Some Pump)
    (cond (eqb n 1) (Some Road)
    (cond (eqb n 2) (Some Dispatch) None))

-- A lookup by him. Who is no listener may hear nothing.
abbrev pub FindsFor : Option Listener → List ℕ → ℕ → ℕ → Located → Type 0
FindsFor (Some l) buffer used n r = LocatePromise l buffer used n r
FindsFor None buffer used n r = r ≡ Err (unheard (read_book book_storage (book_in buffer used)))

-- An addition by him. Who is no listener may add nothing, and meets 17 with every byte left.
abbrev pub AddsFor : Option Listener → List ℕ → ℕ → NewPhrase → List ℕ → Answer → Type 0
AddsFor (Some l) buffer used x buffer' r = AddPromise book_storage l buffer used x buffer' r
AddsFor None buffer used x buffer' r = Promise (Err withheld) [] buffer buffer' r

-- Request 6, the list of additions in C. One call of govorun_book_add: whom the caller names and
-- what he asks for, what is said to him, and what the buffer holds afterwards.
pub record Call : Type 0 where
  pub listener : ℕ
  pub phrase : NewPhrase
  pub said : GovorunAdded
  pub after : List ℕ

-- on this buffer, with this count handed over: the number has two bytes and the set one, and the
-- call keeps its promise
pub record CalledOn (buffer : List ℕ) (used : ℕ) (c : Call) : Type 0 where
  pub number : c.phrase.number < 65536
  pub set : c.phrase.set < 256
  pub promise : Carried (AddsFor (named c.listener) buffer used c.phrase c.after)
      SaidAdded c.said

-- Number 0 says that it is accepted. Then the caller takes the count that is said, and else he
-- keeps his own.
abbrev pub is_accepted : Call → Bool
is_accepted c = eqb c.said.number 0

abbrev pub count_after : Call → ℕ → ℕ
count_after c used = cond (is_accepted c) c.said.used used

-- calls one after the other, from this buffer and count on
abbrev pub CallByCall : List ℕ → ℕ → List Call → Type 0
CallByCall buffer used [] = Unit {0}
CallByCall buffer used (c ∷ more) =
    CalledOn buffer used c × CallByCall c.after (count_after c used) more

-- the buffer and the count after the last, and the phrases of the accepted, in order
abbrev pub buffer_after_all : List ℕ → List Call → List ℕ
buffer_after_all buffer [] = buffer
buffer_after_all buffer (c ∷ more) = buffer_after_all c.after more

abbrev pub count_after_all : ℕ → List Call → ℕ
count_after_all used [] = used
count_after_all used (c ∷ more) = count_after_all (count_after c used) more

abbrev pub accepted_calls : List Call → List Phrase
accepted_calls [] = []
accepted_calls (c ∷ more) =
    cond (is_accepted c) (phrase_of book_storage c.phrase ∷ accepted_calls more) (accepted_calls more)

-- After every list of calls to an empty book, whoever calls and whatever stood in the buffer, it
-- holds just the tapes of the accepted, under their numbers and with their sets, in order.
abbrev pub AdditionsInC : List ℕ → List Call → Type 0
AdditionsInC buffer calls = CallByCall buffer 0 calls
    → HoldsLocated (buffer_after_all buffer calls) (count_after_all 0 calls) (accepted_calls calls)

-- Request 7, the law of silence in C. Two sound books agree in what the one who is named may hear;
-- where he is no listener, it is enough that both are sound.
abbrev pub AgreeIn : Option Listener → List ℕ → List ℕ → Type 0
AgreeIn (Some l) book book₂ = AgreeFor book_storage l book book₂
AgreeIn None book book₂ = BothSound book_storage book book₂

-- Then what is said to him of a number is the same, but for the start, and so are the bytes that it
-- tells of.
pub record SaidAlike (buffer buffer₂ : List ℕ) (r r₂ : GovorunFound) : Type 0 where
  pub bytes : take r.length (drop r.start buffer)
      ≡ take r₂.length (drop r₂.start buffer₂)
  pub number : r.number ≡ r₂.number
  pub place : r.place ≡ r₂.place
  pub found : r.found ≡ r₂.found
  pub length : r.length ≡ r₂.length

abbrev pub SilenceInC : ℕ → List ℕ → ℕ → List ℕ → ℕ → Type 0
SilenceInC listener buffer used buffer₂ used₂ =
    AgreeIn (named listener) (book_in buffer used) (book_in buffer₂ used₂)
    → (n : ℕ) (r r₂ : GovorunFound)
    → Carried (FindsFor (named listener) buffer used n) SaidFound r
    → Carried (FindsFor (named listener) buffer₂ used₂ n) SaidFound r₂
    → SaidAlike buffer buffer₂ r r₂
