-- With room for the words of any level the operation refuses with 14 alone, so what is answered goes by the level.
use Rattle.laws.proofs.Kit.{ℕ, ◌<◌, ◌≤◌, arith, ◌≡◌, sym, ap, refl, Bool, true, false, cond, ⊎_elim, List, [], ◌∷◌, ◌++◌, length, lt-leb}
use lib.IntN.{ℤ, nat_abs}
use Rattle.spec.specs.declared.Edition.TheVariants.{One}
use Rattle.spec.specs.Answers.{number_of, place_of, tape_answer}
use Rattle.spec.specs.SpokenLevels.{spoken, level_answer, LevelPromise}
use Rattle.spec.specs.LevelDemands.{LevelDue, outside, no_room_for}
use Rattle.spec.specs.Printed.{printed_answer, after_writing, spoken_answer, is_decimal, level_in, printed_level}
use Rattle.spec.specs.{Tables.ascii, Tape.tape, Refusals.refusal, declared.Refusal.Refusal, Results.Answer}
use Rattle.laws.proofs.{Bounds.level_small, Demands.level_demands}
use Rattle.console.proofs.Texts.{Part, part, refusal_short}
use Rattle.gauge.specs.Reading.{Like}
use Rattle.std.proofs.Common.{Err}
use Rattle.spec.specs.Results.{wrote}

-- the numbers for a level are 14 and 11
due_number : {level : ℤ} {room : ℕ} (n p : ℕ) → LevelDue level room n p → n ≤ 14
due_number n p (outside h) = omega arith
due_number n p (no_room_for a h) = omega arith

module _ (level : ℤ) {out out' : List ℕ} {a : Answer} (p : LevelPromise level out out' a) (full : length out ≡ 54) where
  -- the answer is the one for that room
  same_answer : level_answer level 54 ≡ a
  same_answer = rw (← full) (sym p.answer)

  -- the words are put,
  pub level_part : {n k : ℕ} → a ≡ wrote n k → Part (spoken level) out' n
  unfolding number_of
  level_part e = ⊎_elim (λ c. part c e) (λ d. absurd (omega (arith, d.number, ap number_of e)))
      ((level_demands level).settled out out' a p).ended

  -- and spoken;
  pub level_spoken : {n k : ℕ} → a ≡ wrote n k → spoken_answer level ≡ tape_answer One (spoken level) 8192
  unfolding spoken_answer after_writing
  level_spoken e = rw (same_answer, e)

  -- or they are refused, in few digits
  pub level_refused : {r : Refusal} → a ≡ Err r → (spoken_answer level ≡ Err r) × (length (printed_answer (Err r) []) ≤ 40)
  unfolding spoken_answer after_writing number_of place_of
  level_refused {r} e =
      let small = rw (same_answer, e) at (level_small level 54) in
      let number : r.number ≤ 14 = ⊎_elim (λ c. omega (arith, c.number, ap number_of e))
      (λ d. omega (arith, due_number _ _ d.place, ap number_of e)) ((level_demands level).settled out out' a p).ended in
      (rw (same_answer, e), refusal_short r (omega (arith, number)) (omega (arith, small.place)))

-- A number outside the range is answered like any other outside it.
outside_refused : (level : ℤ) → 9999 < nat_abs level → spoken_answer level ≡ Err (refusal 14 0)
unfolding spoken_answer level_answer after_writing
outside_refused level h = rw (lt-leb (nat_abs level) 9999 h)

pub like_printed : (level other : ℤ) → Like level other → printed_answer (spoken_answer level) (tape One (spoken level))
    ≡ printed_answer (spoken_answer other) (tape One (spoken other))
unfolding printed_answer
like_printed level other l = ⊎_elim (λ e. ap (λ (z : ℤ). printed_answer (spoken_answer z) (tape One (spoken z))) e)
    (λ d. rw (outside_refused level d.0, outside_refused other d.1)) l

-- So a level that is like the one that was typed is printed as that one,
pub printed_typed : (t : List ℕ) (level : ℤ) → is_decimal t ≡ true → Like level (level_in t)
    → printed_answer (spoken_answer level) (tape One (spoken level)) ++ (10 ∷ []) ≡ printed_level t
unfolding printed_level ascii
printed_typed t level e l = rw (e, like_printed level (level_in t) l)

-- and for what is no number nothing is printed.
pub printed_nothing : (t : List ℕ) → (is_decimal t ≡ true → false ≡ true) → printed_level t ≡ []
unfolding printed_level
printed_nothing t n = by (is_decimal t) n _
  where
    by : (b : Bool) → (b ≡ true → false ≡ true) → (text : List ℕ) → cond b text [] ≡ []
    by true n text = cc (n refl)
    by false n text = refl
