-- What an operation answers for a message by the check's answer, and what it leaves in the lent output: for one that is refused the refusal and the
-- output as it is, for an accepted one too little room, or its text written.
use Rattle.laws.proofs.Kit.{ℕ, ◌<◌, ◌≤◌, ◌≡◌, refl, List, ◌++◌, length, drop, arith, eq-eqb, ne_eqb, lt-leb}
use Rattle.spec.specs.Answers.{within, after_check, output_after, Promise, CheckPromise}
use Rattle.spec.specs.{declared.Counts.Counts, declared.Refusal.Refusal, Results.Checked, Results.Answer}
use Rattle.spec.specs.Refusals.{refusal, check_of}
use Rattle.laws.proofs.Promises.{promised, promised_short, promised_written, check_promised}
use Rattle.std.proofs.Common.{Ok, Err}
use Rattle.spec.specs.Results.{wrote}

-- a refused message is answered by the check's refusal
pub answered_refused : {c : Checked} {f : Refusal} {text out : List ℕ} (a b : Answer) → c ≡ Err f
    → Promise (after_check c a) text out out (after_check c b)
unfolding after_check output_after
answered_refused a b e = rw e (promised _ _ _ _ _ refl refl)

module _ {c : Checked} {counts : Counts} (e : c ≡ Ok counts) {n k : ℕ} (same : k ≡ n) {text out : List ℕ} where
  -- an accepted one whose answer has no room leaves the output as it is
  pub answered_short : length out < k → Promise (after_check c (within (length out) n 0)) text out out (Err (refusal 11 k))
  unfolding after_check
  answered_short h = rw e (promised_short same 0 h)

  -- and one whose answer has room has it written before the rest of the output
  pub answered_written : {out' : List ℕ} → k ≤ length out → out' ≡ text ++ drop k out → Promise (after_check c (within (length out) n 0)) text out out' (wrote k 0)
  unfolding after_check
  answered_written h w = rw e (promised_written same 0 h w)

-- a message of no bytes
pub empty : (m : List ℕ) → length m ≡ 0 → CheckPromise m (Err (refusal 1 0))
unfolding check_of
empty m h = check_promised m _ (rw (eq-eqb (length m) 0 h))

-- a message of more bytes than 4,096
pub too_long : (m : List ℕ) → 4096 < length m → CheckPromise m (Err (refusal 2 0))
unfolding check_of
too_long m h = check_promised m _ (rw (ne_eqb (length m) 0 (omega arith), lt-leb (length m) 4096 h))
