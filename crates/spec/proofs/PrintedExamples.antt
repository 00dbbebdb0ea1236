-- Texts of the program (paper 01, 'Joints'): one list, one proof, by computing the definitions.
-- Assumes nothing.
use Prim.Native.Nat.{ℕ}
use Prim.Native.String.{String}
use mathlib.Core.Path.{◌≡◌, refl}
use mathlib.Core.List.{List, [], ◌∷◌, map}
use Rattle.spec.specs.Tables.{ascii}
use Rattle.spec.specs.Printed.{last_digits, decimal, printed_codes, printed_answer, printed}
use Rattle.spec.specs.SpokenLevels.{bytes}
use Rattle.spec.proofs.Computed.{everything}

pub record Example : Type 0 where
  pub message : List ℕ
  pub line : String

unfoldable pub examples : List Example
examples =
    (record { message = bytes "ду*б ра*д"; line = "24 6 39 0 41 1 45\n" }) ∷
    (record { message = bytes "а"; line = "7\n" }) ∷
    -- а бада and a gap: a break last
    (record { message = bytes "а бада "; line = "refused 4 at 6\n" }) ∷
    -- no bytes
    (record { message = []; line = "refused 1 at 0\n" }) ∷
    []

pub printed_right : map (λ e. printed e.message) examples ≡ map (λ e. ascii e.line) examples
unfolding everything ascii last_digits decimal printed_codes printed_answer printed examples
printed_right = refl

-- a number of each width, with zeros in it
pub decimal_right : map decimal (0 ∷ 9 ∷ 10 ∷ 63 ∷ 100 ∷ 1000 ∷ 8192 ∷ [])
    ≡ map ascii ("0" ∷ "9" ∷ "10" ∷ "63" ∷ "100" ∷ "1000" ∷ "8192" ∷ [])
unfolding ascii last_digits decimal
decimal_right = refl
