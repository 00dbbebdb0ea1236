-- With buffers as long as the longest text the reader refuses with 13 alone and the editor nothing, so what is answered goes by the text.
use Rattle.laws.proofs.Kit.{ℕ, ◌<◌, ◌≤◌, arith, ◌≡◌, ◌≢◌, ap, ◌∙◌, ⊎_elim, List, [], ◌∷◌, ◌++◌, length, take}
use Rattle.laws.proofs.Kit.{eq-eqb, ne_eqb, le-leb, lt-leb}
use Rattle.spec.specs.declared.Edition.TheVariants.{One}
use Rattle.spec.specs.Answers.{number_of, place_of, within, tape_answer}
use Rattle.spec.specs.Editing.{edited, edit_answer, EditPromise}
use Rattle.spec.specs.Utf8.{decoded, read_to, read_answer, ReadPromise}
use Rattle.spec.specs.Printed.{printed_answer, after_writing, text_answer, printed_text}
use Rattle.spec.specs.Utf8Demands.{ReadDue, unreadable, no_room}
use Rattle.spec.specs.{Tables.ascii, Tape.tape, declared.Refusal.Refusal, Results.Answer}
use Rattle.laws.proofs.{Classes.below_or, Utf8.read_most, Demands.edited_demands, Demands.read_demands}
use Rattle.console.proofs.Room.{room_for_all}
use Rattle.console.proofs.Texts.{Part, part, refusal_short}
use Rattle.std.proofs.Common.{Err}
use Rattle.spec.specs.Results.{wrote}

-- The editor, lent as much as it is given, puts the edited text and refuses nothing.
module _ (m : List ℕ) {out out' : List ℕ} {a : Answer} (p : EditPromise m out out' a) (h : length m ≤ length out) where
  pub edit_written : a ≡ wrote (length (edited m)) 0
  unfolding edit_answer within
  edit_written = p.answer ∙ rw (le-leb (length (edited m)) (length out) (omega (arith, (edited_demands m).size)))

  pub edit_part : {n k : ℕ} → a ≡ wrote n k → Part (edited m) out' n
  edit_part e = let d = edited_demands m in part ((d.exact out out' a p).gives (omega (arith, d.size)) tt) e

-- the reader's numbers are 13 and 11, and a place that it gives is within the text
due_few : {t : List ℕ} {room : ℕ} (n p : ℕ) → ReadDue t room n p → (n ≤ 13) × (p ≤ length t)
due_few n p (unreadable q s) = (omega arith, omega (arith, s.within))
due_few {t} n p (no_room a l) = (omega arith, (read_demands t).size)

-- The reader, lent as much as the text has
module _ (t : List ℕ) {out out' : List ℕ} {a : Answer} (p : ReadPromise t out out' a) (h : length t ≤ length out) where
  -- puts what is read
  pub read_part : {n k : ℕ} → a ≡ wrote n k → Part (decoded t) out' n
  unfolding number_of
  read_part e =
      let d = read_demands t in
      let x = d.exact out out' a p in
      let s : length (decoded t) ≤ length out = omega (arith, d.size) in
      part (x.gives s ((x.accepts s).0 (ap number_of e))) e

  -- which is no longer than the text
  pub read_short : {n : ℕ} → Part (decoded t) out' n → length (take n out') ≤ length t
  read_short w = omega (arith, ap length w.bytes, (read_demands t).size)

  -- and answers as where it is lent just that
  same_answer : read_answer t (length t) ≡ a
  unfolding read_answer within
  same_answer = rw (
    p.answer,
    le-leb (length (decoded t)) (length out) (omega (arith, (read_demands t).size)),
    le-leb (length (decoded t)) (length t) (read_demands t).size,
  )

  -- its numbers have few digits
  few : (number_of a ≤ 13) × (place_of a ≤ length t)
  few = ⊎_elim (λ c. (omega (arith, c.number), omega (arith, c.place))) (λ d. due_few _ _ d.place)
      ((read_demands t).settled out out' a p).ended

  -- what is read is edited and spoken
  pub text_spoken : {n k : ℕ} → a ≡ wrote n k → text_answer t ≡ tape_answer One (edited (decoded t)) 8192
  unfolding text_answer after_writing
  text_spoken e = rw (same_answer, e)

  -- what is not is refused, in few digits where the text is no longer than is taken
  pub text_refused : {r : Refusal} → length t ≤ 65536 → a ≡ Err r
      → (text_answer t ≡ Err r) × (length (printed_answer (Err r) []) ≤ 40)
  unfolding text_answer after_writing number_of place_of
  text_refused {r} short e =
      let f = rw e at few in
      (rw (same_answer, e), refusal_short r (omega (arith, f.0)) (omega (arith, f.1)))

-- For a text that is too long nothing is printed,
pub text_long : (t : List ℕ) → 65536 < length t → printed_text t ≡ []
unfolding printed_text
text_long t h = rw (lt-leb (length t) 65536 h)

-- and for any other its answer and a newline.
pub text_short : (t : List ℕ) → length t ≤ 65536 → printed_text t
    ≡ printed_answer (text_answer t) (tape One (edited (decoded t))) ++ (10 ∷ [])
unfolding printed_text ascii
text_short t h = rw (le-leb (length t) 65536 h)

-- Number 11 is never printed.
pub text_never : (t : List ℕ) → number_of (text_answer t) ≢ 11
unfolding text_answer after_writing read_answer within number_of
text_never t e = ⊎_elim (λ h. absurd (omega (arith, rw (ne_eqb (read_to t) (length t) (omega arith)) at e)))
    (λ h. absurd (omega (
      arith,
      room_for_all (edited (decoded t)),
      rw (eq-eqb (read_to t) (length t) (omega (arith, read_most t)), le-leb (length (decoded t)) (length t) (read_demands t).size) at e,
    )))
    (below_or (read_to t) (length t))
