-- What is answered where the check does not refuse: number 12, then 11, and else the tape and then the output's own bytes.
use Rattle.laws.proofs.Kit.{ℕ, ◌<◌, ◌≤◌, ◌≡◌, refl, sym, ◌∙◌, Bool, true, false, cond, List, ◌++◌, eqb, eqb-true, length, take, drop}
use Rattle.laws.proofs.Kit.{get_or, length-take-le}
use Rattle.spec.specs.Joints.{Rising, joined, live_count, bad_cut}
use Rattle.spec.specs.Answers.{after_check, output_after, join_answer, JoinPromise}
use Rattle.spec.specs.{Refusals.refusal, Refusals.check_of, declared.Counts.Counts, declared.Refusal.Refusal}
use Rattle.letters.proofs.Steadiness.{accepted_steady}
use Rattle.spec.specs.declared.Edition.{Edition}
use Rattle.laws.proofs.{Accepted.accepted_counts, Editions.tape_length, Cuts.rising_of, Cutting.equal_lengths, Promises.promised}
use Rattle.laws.proofs.{Promises.promised_short, Promises.promised_written}
use Rattle.joiner.specs.Writing.{JoinDue, JoinWritten, cuts_checked}
use Rattle.joiner.specs.declared.JoinCounts.{JoinCounts}
use Rattle.std.proofs.Common.{Ok, Err}
use Rattle.spec.specs.Results.{Answer, Found, wrote}

-- The list's test is the one that the joiner's answer asks: refused by it is refused, and passed by it the list is good.
cut_refused : (t : Bool) (f : Refusal) {r : Refusal} (due : Answer) → ◌≡◌ {A = Found} (cond t (Ok tt) (Err f)) (Err r)
    → cond t due (Err f) ≡ Err r
cut_refused true f due h = cc
cut_refused false f due h = cc

cut_passed : (t : Bool) (f : Refusal) → ◌≡◌ {A = Found} (cond t (Ok tt) (Err f)) (Ok tt) → t ≡ true
cut_passed true f h = refl
cut_passed false f h = cc

module _ (m cuts out : List ℕ) {counts : Counts} (accepted : check_of m ≡ Ok counts) where
  -- number 12
  pub join_cut : (ed : Edition) {r : Refusal} → cuts_checked m cuts ≡ Err r → JoinPromise ed m cuts out out (Err r)
  unfolding join_answer after_check output_after cuts_checked
  join_cut ed {r} h = rw (accepted, cut_refused _ _ _ h) (promised _ _ _ _ _ refl refl)

  module _ (good : cuts_checked m cuts ≡ Ok tt) where
    all_pass : eqb (bad_cut m cuts) (length cuts) ≡ true
    unfolding cuts_checked
    all_pass = cut_passed _ _ good

    rising : Rising m cuts
    rising = rising_of m cuts (eqb-true _ _ all_pass)

    -- the check has counted the second tape's codes
    size : (ed : Edition) → counts.codes ≡ length (joined ed m cuts)
    size ed = (accepted_counts m counts accepted).0 ∙ sym (equal_lengths ed m cuts rising ∙ tape_length ed m)

    -- number 11
    pub join_short : (ed : Edition) → length out < counts.codes → JoinPromise ed m cuts out out (Err (refusal 11 counts.codes))
    unfolding join_answer after_check
    join_short ed h = rw (accepted, all_pass) (promised_short (size ed) (live_count m cuts) h)

    module _ (room : counts.codes ≤ length out) where
      -- the output's bytes that are written are as many as the tape's codes
      pub tape_due : ((j : ℕ) → get_or m j 0 < 256) → JoinDue m cuts (length (take counts.codes out))
      tape_due bytes = record {
        valid = record { counts = counts; accepted = accepted; steady = accepted_steady m counts accepted bytes };
        rising = rising;
        fits = length-take-le counts.codes out room ∙ (accepted_counts m counts accepted).0;
      }

      -- with the second tape there the joiner has answered
      pub join_written : (ed : Edition) (last : List ℕ) (r : JoinCounts) → JoinWritten ed m cuts last r
          → JoinPromise ed m cuts out (last ++ drop counts.codes out) (wrote counts.codes r.live)
      unfolding join_answer after_check
      join_written ed last r w =
          rw (accepted, all_pass, w.output, w.counted) (promised_written (size ed) (live_count m cuts) room refl)
