-- What is answered of a level: number 14 where it is outside the range, else 11 where its words have no room, or how long they are.
-- A level that is passed on is read from the machine's bits; that is the level.
use Rattle.laws.proofs.Kit.{ℕ, ◌<◌, ◌≤◌, ◌≡◌, refl, ◌∙◌, List, arith, length, le-leb, lt-leb}
use lib.IntN.{ℤ, nat_abs}
use mir.Syntax.{w32}
use mir.Val.{SFits, to_z, of_z}
use mir.ValLaws.{to_z-of_z}
use Rattle.spec.specs.Numbers.{level_max}
use Rattle.spec.specs.SpokenLevels.{spoken, InRange, LevelPromise, level_answer}
use Rattle.spec.specs.{Answers.output_after, Refusals.refusal}
use Rattle.laws.specs.Putting.{Put}
use Rattle.laws.proofs.SpokenLevels.{level_size}
use Rattle.laws.proofs.Promises.{promised, promised_short, promised_written}
use Rattle.laws.proofs.Putting.{put_first_lem}
use Rattle.std.proofs.Common.{Err}
use Rattle.spec.specs.Results.{wrote}

-- the level as it is passed on
abbrev passed : ℤ → ℤ
passed level = to_z w32 (of_z w32 level)

pub level_14 : (level : ℤ) (out : List ℕ) → SFits w32 level → level_max < nat_abs (passed level)
    → LevelPromise level out out (Err (refusal 14 0))
unfolding level_answer output_after
level_14 level out f h =
    let far : level_max < nat_abs level = rw (to_z-of_z w32 level f) at h in
    rw (lt-leb (nat_abs level) level_max far) (promised _ _ _ _ _ refl refl)

pub level_11 : (level same : ℤ) (out : List ℕ) (n : ℕ) → SFits w32 level → same ≡ passed level → InRange same
    → n ≡ length (spoken same) → length out < n → LevelPromise level out out (Err (refusal 11 n))
unfolding level_answer output_after
level_11 level same out n f e near m h =
    let is : same ≡ level = e ∙ to_z-of_z w32 level f in
    rw (← is, le-leb (nat_abs same) level_max near) (promised_short m 0 h)

pub level_written : (level same : ℤ) (out out' : List ℕ) (n : ℕ) → SFits w32 level → same ≡ passed level → InRange same
    → length (spoken same) ≤ length out → Put (spoken same) out out' n 0 → LevelPromise level out out' (wrote n 0)
unfolding level_answer output_after
level_written level same out out' n f e near h p =
    let is : same ≡ level = e ∙ to_z-of_z w32 level f in
    let all : n ≡ length (spoken same) = omega (arith, p.place) in
    rw (← is, le-leb (nat_abs same) level_max near) (promised_written all 0 (omega (arith, h)) (put_first_lem _ _ _ _ _ all p))

pub ruleset answered = (level_14, level_11, level_written, level_size)
