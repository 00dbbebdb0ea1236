-- Examples of syllable names (paper 01, pass 2): one list, one proof, by computing the passes.
-- Assumes nothing.
use Prim.Native.Nat.{ℕ}
use mathlib.Core.Path.{◌≡◌, refl}
use mathlib.Core.List.{List, [], ◌∷◌, map}
use Rattle.spec.specs.Tape.{names}
use Rattle.spec.specs.SpokenLevels.{bytes}
use Rattle.spec.proofs.Computed.{everything}

pub record Named : Type 0 where
  pub message : List ℕ
  pub names : List ℕ

unfoldable pub named : List Named
named =
    (record { message = bytes "вода*"; names = 3 ∷ 1 ∷ [] }) ∷
    (record { message = bytes "ду*б ра*д"; names = 1 ∷ 7 ∷ 1 ∷ 7 ∷ [] }) ∷
    (record { message = bytes "аь"; names = 4 ∷ 7 ∷ [] }) ∷
    (record { message = bytes "к"; names = 7 ∷ [] }) ∷
    (record { message = bytes "моё"; names = 3 ∷ 4 ∷ [] }) ∷
    (record { message = bytes "аэропо*рт"; names = 6 ∷ 6 ∷ 3 ∷ 1 ∷ 7 ∷ [] }) ∷
    (record { message = bytes "ию*ль"; names = 4 ∷ 2 ∷ 7 ∷ [] }) ∷
    (record { message = bytes "королёв"; names = 3 ∷ 3 ∷ 3 ∷ 7 ∷ [] }) ∷
    (record { message = bytes "го*род ста*рый"; names = 1 ∷ 5 ∷ 7 ∷ 1 ∷ 5 ∷ 7 ∷ [] }) ∷
    []

pub named_right : map (λ e. names e.message) named ≡ map (λ e. e.names) named
unfolding everything named
named_right = refl
