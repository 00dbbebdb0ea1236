-- How large an answer's numbers can be, whatever the bytes and the cuts: no place is past 4,096 bytes, a byte makes at most two codes and
-- one name, and each good cut takes a break of its own.
use Rattle.laws.proofs.Kit.{ℕ, suc, ◌≤◌, ⊎_elim, List, [], ◌∷◌, arith, leb, length, eq-eqb, ne_eqb, le-leb, lt-leb}
use lib.IntN.{ℤ, nat_abs}
use Rattle.spec.specs.Joints.{joined, is_live, live_count, bad_cut}
use Rattle.spec.specs.Answers.{number_of, place_of, length_of, live_of, checked_number, checked_place, checked_codes, checked_names, within}
use Rattle.spec.specs.Answers.{after_check, name_answer, tape_answer, join_answer}
use Rattle.spec.specs.Utf8.{encoded, write_answer}
use Rattle.spec.specs.SpokenLevels.{spoken, level_answer}
use Rattle.spec.specs.{Tape.tape, Tape.names, Refusals.check_of, Refusals.refusal, declared.Edition.Edition, Results.Answer}
use Rattle.laws.proofs.Editions.{tape_length}
use Rattle.laws.proofs.Cuts.{judged, rising_to, bad_bound, rising_length}
use Rattle.laws.proofs.{Accepted.check_finds, Accepted.given_range, Classes.cond_both, Classes.below_or, Cutting.equal_lengths}
use Rattle.laws.proofs.{Sizes.tape_size, Sizes.names_size, Utf8.encoded_size, SpokenLevels.level_size}
use Rattle.laws.proofs.Counting.{tape_count, names_count}
use Rattle.laws.specs.Bounds.{Small, SmallCheck}
use Rattle.std.proofs.Common.{Err}

-- no more cuts are live than there are
pub live_bound : (m cuts : List ℕ) → live_count m cuts ≤ length cuts
unfolding live_count
live_bound m [] = omega arith
live_bound m (c ∷ cuts) = let h = live_bound m cuts in
    cond_both (λ k. k ≤ suc (length cuts)) (is_live m c) {x = suc (live_count m cuts)} {y = live_count m cuts} (omega arith) (omega arith)

-- a refusal with a small number and place is small
refused_small : {n p : ℕ} → n ≤ 8192 → p ≤ 8192 → Small (Err (refusal n p))
unfolding number_of place_of length_of live_of
refused_small h l = record { number = h; place = l; length = omega arith; live = omega arith }

-- what is said of an output of n bytes is small if they are few
within_small : (room n live : ℕ) → n ≤ 8192 → live ≤ 8192 → Small (within room n live)
unfolding within number_of place_of length_of live_of
within_small room n live h l =
    cond_both Small (leb n room) (record { number = omega arith; place = omega arith; length = h; live = l })
    (refused_small (omega arith) h)

module _ (m : List ℕ) where
  -- The check's answer is small.
  pub check_small : SmallCheck (check_of m)
  unfolding checked_number checked_place checked_codes checked_names
  check_small = ⊎_elim
      (λ f. rw f.0 (record {
        number = omega arith;
        place = omega arith;
        codes = omega (arith, f.1.short, tape_size m, tape_count m);
        names = omega (arith, f.1.short, names_size m, names_count m);
      }))
      (λ f. rw f.refused (record { number = (given_range f.given).1; place = f.within; codes = omega arith; names = omega arith }))
      (check_finds m)

  -- and so is an operation's, if it is after the check
  after_small : (a : Answer) → (length m ≤ 4096 → Small a) → Small (after_check (check_of m) a)
  unfolding after_check
  after_small a h = ⊎_elim (λ f. rw f.0 (h f.1.short))
      (λ f. rw f.refused (refused_small (omega (arith, (given_range f.given).1)) (omega (arith, f.within)))) (check_finds m)

  -- The naming operation's answer is small.
  pub name_small : (room : ℕ) → Small (name_answer m room)
  unfolding name_answer
  name_small room = after_small _ (λ s. within_small room (length (names m)) 0 (omega (arith, names_size m)) (omega arith))

  -- The transcriber's answer is small.
  pub tape_small : (e : Edition) (room : ℕ) → Small (tape_answer e m room)
  unfolding tape_answer
  tape_small e room = after_small _ (λ s. within_small room (length (tape e m)) 0 (omega (arith, tape_length e m, tape_size m))
      (omega arith))

  -- The writer's answer is small.
  pub write_small : (room : ℕ) → Small (write_answer m room)
  unfolding write_answer
  write_small room = after_small _ (λ s. within_small room (length (encoded m)) 0 (omega (arith, encoded_size m)) (omega arith))

  -- The joiner's answer is small, whatever the cuts.
  pub join_small : (e : Edition) (cuts : List ℕ) (room : ℕ) → Small (join_answer e m cuts room)
  unfolding join_answer
  join_small e cuts room = after_small _ (λ s. ⊎_elim
      (λ r. rw (eq-eqb _ _ (rising_to m cuts r)) (within_small room (length (joined e m cuts)) (live_count m cuts)
      (omega (arith, equal_lengths e m cuts r, tape_length e m, tape_size m))
      (omega (arith, live_bound m cuts, rising_length m cuts r))))
      (λ b. rw (ne_eqb (bad_cut m cuts) (length cuts) (omega (arith, b.within)))
      (refused_small (omega arith) (omega (arith, bad_bound m cuts)))) (judged m cuts))

-- What is answered for a level is small.
pub level_small : (level : ℤ) (room : ℕ) → Small (level_answer level room)
unfolding level_answer
level_small level room = ⊎_elim (λ h. rw (lt-leb (nat_abs level) 9999 h) (refused_small (omega arith) (omega arith)))
    (λ h. rw (le-leb (nat_abs level) 9999 h) (within_small room (length (spoken level)) 0 (omega (arith, level_size level h))
    (omega arith)))
    (below_or 9999 (nat_abs level))
