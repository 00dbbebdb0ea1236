-- Examples of phrases (paper 01): one list, one proof, by computing where a message is cut at its pauses.
-- Assumes nothing.
use Prim.Native.Nat.{ℕ}
use mathlib.Core.Path.{◌≡◌, refl}
use mathlib.Core.List.{List, [], ◌∷◌, map}
use Rattle.spec.specs.Tape.{tape}
use Rattle.spec.specs.declared.Edition.TheVariants.{One}
use Rattle.spec.specs.Phrases.{phrases, separated}
use Rattle.spec.specs.SpokenLevels.{bytes}
use Rattle.spec.proofs.Computed.{everything}

pub record Phrased : Type 0 where
  pub message : List ℕ
  pub phrases : List (List ℕ)

unfoldable pub phrased : List Phrased
phrased =
    -- one that has no pause
    (record { message = bytes "ду*б ра*д"; phrases = bytes "ду*б ра*д" ∷ [] }) ∷
    (record { message = bytes "ду*б#вы во*т#да"; phrases = bytes "ду*б" ∷ bytes "вы во*т" ∷ bytes "да" ∷ [] }) ∷ []

pub phrased_right : map (λ e. phrases e.message) phrased ≡ map (λ e. e.phrases) phrased
unfolding everything phrased
phrased_right = refl

-- and their tapes with 63 between them are the message's
pub phrased_tapes : map (λ e. separated 63 (map (tape One) e.phrases)) phrased ≡ map (λ e. tape One e.message) phrased
unfolding everything phrased
phrased_tapes = refl
