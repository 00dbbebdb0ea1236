-- The program never prints number 11: a message that the check accepts is short, so its tape has room in the codes that the
-- transcriber is lent.
use Rattle.laws.proofs.Kit.{ℕ, ◌≤◌, arith, ◌≡◌, refl, List, length, le-leb}
use Rattle.spec.specs.Answers.{number_of, checked_number, within, after_check, tape_answer}
use Rattle.spec.specs.{Tape.tape, Refusals.check_of, Results.Checked}
use Rattle.spec.specs.declared.Edition.TheVariants.{One}
use Rattle.laws.proofs.{Accepted.accepted_counts, Editions.tape_length, Sizes.tape_size, Bounds.check_small}
use Rattle.std.proofs.Common.{Ok, Err}

pub room_for_all : (m : List ℕ) → number_of (tape_answer One m 8192) ≤ 10
unfolding tape_answer after_check within number_of checked_number
room_for_all m = by (check_of m) refl (check_small m).number
  where
    by : (d : Checked) → check_of m ≡ d → checked_number d ≤ 10 → number_of (after_check d (within 8192 (length (tape One m)) 0)) ≤ 10
    by (Ok counts) e h = rw (le-leb (length (tape One m)) 8192
        (omega (arith, tape_length One m, tape_size m, (accepted_counts m counts e).2))) (omega arith)
    by (Err r) e h = h
