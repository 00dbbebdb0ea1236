-- Answers whose numbers are small.
-- Assumes nothing: these are definitions.
use Rattle.std.specs.Prelude.{◌≤◌}
use Rattle.spec.specs.Numbers.{message_max}
use Rattle.spec.specs.Answers.{number_of, place_of, length_of, live_of}
use Rattle.spec.specs.Answers.{checked_number, checked_place, checked_codes, checked_names}
use Rattle.spec.specs.{Results.Checked, Results.Answer}

-- the check's answer in numbers that are small
pub record SmallCheck (d : Checked) : Type 0 where
  pub number : checked_number d ≤ 10
  pub place : checked_place d ≤ message_max
  pub codes : checked_codes d ≤ 8192
  pub names : checked_names d ≤ 8192

-- an operation's answer in numbers that are small
pub record Small (a : Answer) : Type 0 where
  pub number : number_of a ≤ 8192
  pub place : place_of a ≤ 8192
  pub length : length_of a ≤ 8192
  pub live : live_of a ≤ 8192
