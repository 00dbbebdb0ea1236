-- A program keeps one byte more of its input than it takes, or still more. What stands behind changes nothing, since the input is too
-- long already.
use Rattle.laws.proofs.Kit.{ℕ, ◌<◌, arith, ◌≡◌, refl, sym, ap, ◌∙◌, ⊎_elim, List, [], ◌∷◌, ◌++◌, length, take, length-take-le}
use Rattle.laws.proofs.Kit.{take_all, lt-leb}
use Rattle.spec.specs.Printed.{printed_answer, printed, is_decimal, printed_text, printed_level}
use Rattle.spec.specs.{Tables.ascii, Answers.after_check, Answers.tape_answer, Refusals.refusal}
use Rattle.laws.proofs.{Accepted.given_refused, Accepted.long_given, Classes.below_or}
use Rattle.std.proofs.Common.{Err}

-- where all inputs above a length are printed alike, an input and what is kept of it are
kept : (print : List ℕ → List ℕ) (most size : ℕ) → most < size → (long : List ℕ) → ((t : List ℕ) → most < length t → print t ≡ long)
    → (t : List ℕ) → print (take size t) ≡ print t
kept print most size more long same t = ⊎_elim
    (λ h. let l = length-take-le size t (omega (arith, h)) in same (take size t) (omega (arith, l)) ∙ sym (same t (omega (arith, h))))
    (λ h. ap print (take_all size t (omega (arith, h))))
    (below_or size (length t))

-- a message of more than 4,096 bytes meets number 2
printed_long : (m : List ℕ) → 4096 < length m → printed m ≡ printed_answer (Err (refusal 2 0)) [] ++ (10 ∷ [])
unfolding printed printed_answer tape_answer after_check ascii
printed_long m h = rw (given_refused m 2 0 (long_given m h)) refl

-- The program `govorun` keeps 4,097 bytes and prints what it would print for the whole input.
pub printed_kept : (size : ℕ) → 4096 < size → (t : List ℕ) → printed (take size t) ≡ printed t
printed_kept size more = kept printed 4096 size more _ printed_long

-- So do `speak`, of 65,537 bytes,
pub text_kept : (size : ℕ) → 65536 < size → (t : List ℕ) → printed_text (take size t) ≡ printed_text t
unfolding printed_text
text_kept size more t = kept printed_text 65536 size more [] (λ u h. rw (lt-leb (length u) 65536 h) refl) t

-- and `gauge`, of 4,097.
pub level_kept : (size : ℕ) → 4096 < size → (t : List ℕ) → printed_level (take size t) ≡ printed_level t
unfolding printed_level is_decimal
level_kept size more t = kept printed_level 4096 size more [] (λ u h. rw (lt-leb (length u) 4096 h) refl) t
