-- A promise is kept by the answer that is due: its numbers are then the answer's.
use Rattle.laws.proofs.Kit.{◌<◌, ◌≤◌, ◌≡◌, refl, ap, List, ◌++◌, ℕ, length, drop, le-leb, lt-leb}
use Rattle.spec.specs.Answers.{number_of, place_of, length_of, live_of, checked_number, checked_place, checked_codes, checked_names, within}
use Rattle.spec.specs.Answers.{output_after, Promise, CheckPromise}
use Rattle.spec.specs.{Refusals.refusal, Refusals.check_of, Results.Checked, Results.Answer}
use Rattle.std.proofs.Common.{Err}
use Rattle.spec.specs.Results.{wrote}

-- an operation that answers what is due, and leaves in the output what it must
pub promised : (due : Answer) (text out out' : List ℕ) (r : Answer) → r ≡ due → out' ≡ output_after due text out
    → Promise due text out out' r
promised due text out out' r e o =
    record { answer = e; output = o; number = ap number_of e; place = ap place_of e; length = ap length_of e; live = ap live_of e }

-- one whose full answer has k bytes: number 11 where there is less room, and else its text
module _ {n k : ℕ} (same : k ≡ n) (live : ℕ) {text out : List ℕ} where
  pub promised_short : length out < k → Promise (within (length out) n live) text out out (Err (refusal 11 k))
  unfolding within output_after
  promised_short h = rw (← same, lt-leb k (length out) h) (promised _ _ _ _ _ refl refl)

  pub promised_written : {out' : List ℕ} → k ≤ length out → out' ≡ text ++ drop k out
      → Promise (within (length out) n live) text out out' (wrote k live)
  unfolding within output_after
  promised_written h w = rw (← same, le-leb k (length out) h) (promised _ _ _ _ _ refl w)

-- the check
pub check_promised : (m : List ℕ) (r : Checked) → r ≡ check_of m → CheckPromise m r
check_promised m r e =
    record { answer = e; number = ap checked_number e; place = ap checked_place e; codes = ap checked_codes e; names = ap checked_names e }
