-- What reader and writer answer, case by case.
use Rattle.laws.proofs.Kit.{ℕ, ◌<◌, ◌≡◌, refl, List, arith, length, eq-eqb, ne_eqb}
use Rattle.spec.specs.Answers.{within, after_check, output_after, Promise}
use Rattle.spec.specs.Utf8.{encoded, decoded, read_to, read_answer, write_answer}
use Rattle.spec.specs.{Refusals.refusal, Refusals.check_of, declared.Refusal.Refusal, declared.Counts.Counts}
use Rattle.laws.proofs.Promises.{promised}
use Rattle.std.proofs.Common.{Ok, Err}

-- a text that is not readable to its end
pub answered_unreadable : (t : List ℕ) {out : List ℕ} {p : ℕ} → p ≡ read_to t → p < length t
    → Promise (read_answer t (length out)) (decoded t) out out (Err (refusal 13 p))
unfolding read_answer output_after
answered_unreadable t e h = rw (e, ne_eqb (read_to t) (length t) (omega (arith, e, h))) (promised _ _ _ _ _ refl refl)

-- one that is goes by the room
pub answered_read : (t : List ℕ) (room : ℕ) → read_to t ≡ length t → read_answer t room ≡ within room (length (decoded t)) 0
unfolding read_answer
answered_read t room e = rw (eq-eqb (read_to t) (length t) e)

-- and so does a message that the check accepts
pub answered_accepted : (m : List ℕ) (room : ℕ) {counts : Counts} → check_of m ≡ Ok counts
    → write_answer m room ≡ within room (length (encoded m)) 0
unfolding write_answer after_check
answered_accepted m room e = rw e

-- one that it refuses is refused so
pub answered_refused : (m : List ℕ) {out : List ℕ} {r : Refusal} → check_of m ≡ Err r
    → Promise (write_answer m (length out)) (encoded m) out out (Err r)
unfolding write_answer after_check output_after
answered_refused m e = rw e (promised _ _ _ _ _ refl refl)
