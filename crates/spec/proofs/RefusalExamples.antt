-- The examples of the refusal table (paper 01, 'Turned-away messages'): one list, one proof, by computing the rows.
-- Assumes nothing.
use Prim.Native.Nat.{ℕ}
use mathlib.Core.Path.{◌≡◌, refl}
use mathlib.Core.List.{List, [], ◌∷◌, ◌++◌, flatten, map}
use lib.ListN.{replicate}
use Rattle.spec.specs.Alphabet.{mark, «а», «б»}
use Rattle.spec.specs.Refusals.{refusal}
use Rattle.spec.specs.Answers.{join_answer}
use Rattle.spec.specs.declared.Edition.TheVariants.{One}
use Rattle.spec.specs.SpokenLevels.{bytes}
use Rattle.spec.proofs.Computed.{everything}
use Rattle.std.proofs.Common.{Err}

-- what is handed in, and how it is turned away
pub record TurnedAway : Type 0 where
  pub message : List ℕ
  pub cuts : List ℕ
  pub room : ℕ
  pub number : ℕ
  pub place : ℕ

-- a message that is turned away whatever is lent
abbrev pub refused : ℕ → ℕ → List ℕ → TurnedAway
refused n p m = record { message = m; cuts = []; room = 9999; number = n; place = p }

unfoldable pub turned_away : List TurnedAway
turned_away =
    -- no bytes
    (refused 1 0 []) ∷
    -- 4,097 times а
    (refused 2 0 (replicate 4097 «а»)) ∷
    -- а7
    (refused 3 1 («а» ∷ 0x37 ∷ [])) ∷
    (refused 4 1 (bytes "а#")) ∷
    (refused 5 1 (bytes "б*")) ∷
    (refused 6 0 (bytes "ьа")) ∷
    (refused 7 2 (bytes "бьъ")) ∷
    (refused 8 2 (bytes "бък")) ∷
    (refused 9 3 (bytes "а*ья")) ∷
    -- 65 times а
    (refused 10 64 (replicate 65 «а»)) ∷
    -- at one place the smallest number: the 65th letter of a word is also a sign after a sign, a consonant after ъ, or a vowel after
    -- a vowel and a sign
    (refused 7 64 (replicate 63 «б» ++ (bytes "ьъ"))) ∷
    (refused 8 64 (replicate 63 «б» ++ (bytes "ък"))) ∷
    (refused 9 64 (replicate 62 «б» ++ (bytes "аьа"))) ∷
    -- the smallest place before the smallest number
    (refused 5 1 («б» ∷ mark ∷ 0x37 ∷ [])) ∷
    -- 2 before 3 to 10
    (refused 2 0 (replicate 4097 0x37)) ∷
    -- 12 before 11
    (record { message = bytes "а б"; cuts = 0 ∷ []; room = 0; number = 12; place = 0 }) ∷
    -- 3 to 10 before 12
    (record { message = bytes "б*"; cuts = 0 ∷ []; room = 0; number = 5; place = 1 }) ∷
    (record { message = bytes "а"; cuts = []; room = 0; number = 11; place = 1 }) ∷
    -- о after ь counts two codes (paper 02, request 4): 21 times бьо and б are 64, and there is room for 63
    (record { message = flatten (replicate 21 (bytes "бьо")) ++ (bytes "б"); cuts = []; room = 63; number = 11; place = 64 }) ∷
    -- after a vowel and ь it is turned away as every vowel is
    (refused 9 2 (bytes "аьо")) ∷
    (record { message = bytes "а б"; cuts = 0 ∷ []; room = 9999; number = 12; place = 0 }) ∷
    []

pub turned_away_lem : map (λ e. join_answer One e.message e.cuts e.room) turned_away
    ≡ map (λ e. Err (refusal e.number e.place)) turned_away
unfolding everything turned_away flatten
turned_away_lem = refl
