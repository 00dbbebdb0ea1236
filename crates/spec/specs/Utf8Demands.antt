-- What holds of texts in UTF-8 (paper 02, request 2): the reader's and the writer's statements, and
-- that each undoes the other. `read_demands` and `write_demands` of crate laws prove them.
-- Assumes nothing: these are definitions.
use Rattle.std.specs.Prelude.{ℕ, ◌*◌, ◌<◌, ◌≤◌, ◌≡◌, ◌↔◌, List, [], length, take}
use Rattle.spec.specs.Numbers.{short_output, unreadable_text}
use Rattle.spec.specs.Refusals.{NoneFits}
use Rattle.spec.specs.Answers.{number_of, length_of}
use Rattle.spec.specs.Utf8.{WellFormed, encoded, decoded, RunOf, Readable, StopsAt}
use Rattle.spec.specs.Utf8.{ReadPromise, WritePromise}
use Rattle.spec.specs.Results.{Answer}
use Rattle.spec.specs.Demands.{Due, CarriedOut, Settled, Exactly}
use Rattle.spec.specs.EditDemands.{EditedDemands}

-- The reader's numbers: 13, where the text is readable no further, and then 11.
pub data ReadDue (t : List ℕ) (room : ℕ) : ℕ → ℕ → Type 0 where
  unreadable : (p : ℕ) → StopsAt t p → ReadDue t room unreadable_text p
  no_room : Readable t → room < length (decoded t) → ReadDue t room short_output (length (decoded t))

-- What holds for a text t of any bytes and any length that is to be read as UTF-8.
pub record ReadDemands (t : List ℕ) : Type 0 where
  -- the reader is carried out, or refused with every byte left
  pub settled : (out out' : List ℕ) (r : Answer) → ReadPromise t out out' r
      → Settled (ReadDue t (length out)) (decoded t) 0 out out' r
  -- lent an output long enough, it accepts exactly the runs of the table's sequences
  pub exact : (out out' : List ℕ) (r : Answer) → ReadPromise t out out' r
      → Exactly (Readable t) (ReadDue t (length out)) (decoded t) 0 out out' r
  -- however much is lent, it refuses all others with 13, and so every malformed text
  pub others : (out out' : List ℕ) (r : Answer) → ReadPromise t out out' r
      → (number_of r ≡ unreadable_text) ↔ (Readable t → ⊥)
  pub malformed : (out out' : List ℕ) (r : Answer) → ReadPromise t out out' r → (WellFormed t → ⊥)
      → number_of r ≡ unreadable_text
  -- there is one way to cut it
  pub once : (m : List ℕ) → RunOf t m → m ≡ decoded t
  -- an output as long as the text is long enough
  pub size : length (decoded t) ≤ length t
  -- what it has written are the bytes that are handed on, to the editor first
  pub handed : (out out' : List ℕ) (r : Answer) → ReadPromise t out out' r → number_of r ≡ 0
      → take (length_of r) out' ≡ decoded t
  pub edits : EditedDemands (decoded t)
  -- where they are an accepted message the writer, handed them, gives the text back
  pub back : (out out' : List ℕ) (r : Answer) → ReadPromise t out out' r → number_of r ≡ 0
      → NoneFits (take (length_of r) out') → (text text' : List ℕ) (s : Answer)
      → WritePromise (take (length_of r) out') text text' s → length t ≤ length text
      → CarriedOut t 0 text text' s

-- What holds for any bytes m that are to be written as UTF-8.
pub record WriteDemands (m : List ℕ) : Type 0 where
  -- the writer is carried out, or refused by the check's numbers and then 11, with every byte left
  pub settled : (out out' : List ℕ) (r : Answer) → WritePromise m out out' r
      → Settled (Due m [] (length (encoded m)) (length out)) (encoded m) 0 out out' r
  -- lent an output long enough, it accepts exactly what the check accepts
  pub exact : (out out' : List ℕ) (r : Answer) → WritePromise m out out' r
      → Exactly (NoneFits m) (Due m [] (length (encoded m)) (length out)) (encoded m) 0 out out' r
  -- what it writes is UTF-8, and at most twice as long as the message
  pub well_formed : NoneFits m → WellFormed (encoded m)
  pub size : length (encoded m) ≤ 2 * length m
  -- what it has written are the message's octets, the text that is handed on
  pub handed : (out out' : List ℕ) (r : Answer) → WritePromise m out out' r → number_of r ≡ 0
      → take (length_of r) out' ≡ encoded m
  -- the reader, handed them, gives the message back, with letters as they stood
  pub back : (out out' : List ℕ) (r : Answer) → WritePromise m out out' r → number_of r ≡ 0
      → (bytes bytes' : List ℕ) (s : Answer) → ReadPromise (take (length_of r) out') bytes bytes' s
      → length m ≤ length bytes → CarriedOut m 0 bytes bytes' s
