-- Texts and what the editor makes of them (paper 02, slip 1): one list, one proof, by computing the definitions.
-- Assumes nothing.
use Prim.Native.Nat.{ℕ}
use mathlib.Core.Path.{◌≡◌, refl}
use mathlib.Core.List.{List, [], ◌∷◌, ◌++◌, map}
use lib.ListN.{replicate}
use Rattle.spec.specs.Alphabet.{gap, «а»}
use Rattle.spec.specs.Tables.{ascii}
use Rattle.spec.specs.Refusals.{refusal}
use Rattle.spec.specs.Answers.{tape_answer}
use Rattle.spec.specs.declared.Edition.TheVariants.{One}
use Rattle.spec.specs.Editing.{edited, edit_answer}
use Rattle.spec.specs.Results.{Answer, wrote}
use Rattle.spec.proofs.Computed.{everything}
use Rattle.std.proofs.Common.{Err}

-- Both are quoted: Latin letters stand here for bytes that are no mark and no break.
pub record Example : Type 0 where
  pub text : List ℕ
  pub message : List ℕ

unfoldable pub examples : List Example
examples =
    -- each of the eleven marks, and the two breaks
    (record { text = ascii "a.b,c;d:e?f!g#h"; message = ascii "a#b#c#d#e#f#g#h" }) ∷
    (record { text = ascii "a-b(c)d\"e'f g"; message = ascii "a b c d e f g" }) ∷
    -- a run of breaks, of either origin, is one: a pause wherever in it one stands
    (record { text = ascii "a   b( -)c"; message = ascii "a b c" }) ∷
    (record { text = ascii "a, b - .c ?-d (! )e"; message = ascii "a#b#c#d#e" }) ∷
    (record { text = ascii "a# b #c ## d"; message = ascii "a#b#c#d" }) ∷
    -- breaks at either end vanish
    (record { text = ascii " \"a (b), c.\" "; message = ascii "a b#c" }) ∷
    (record { text = ascii "#a#"; message = ascii "a" }) ∷
    -- every other byte passes, a stress mark and a newline and those that the check refuses
    (record { text = ascii "a*\n7/&%+<=>@[\\]_`{|}~^$"; message = ascii "a*\n7/&%+<=>@[\\]_`{|}~^$" }) ∷
    (record { text = 0 ∷ 0xAB ∷ 0xE0 ∷ 0xFF ∷ []; message = 0 ∷ 0xAB ∷ 0xE0 ∷ 0xFF ∷ [] }) ∷
    -- a text of breaks alone, and none, become empty
    (record { text = ascii "- (.,;:?!)\"' #"; message = [] }) ∷
    (record { text = []; message = [] }) ∷
    []

pub edited_right : map (λ e. edited e.text) examples ≡ map (λ e. e.message) examples
unfolding everything examples
edited_right = refl

-- what is lent to the editor, and what it answers
pub record Lent : Type 0 where
  pub text : List ℕ
  pub room : ℕ
  pub answer : Answer

unfoldable pub answers : List Lent
answers =
    -- just room enough, and one byte less
    (record { text = ascii "a, b."; room = 3; answer = wrote 3 0 }) ∷
    (record { text = ascii "a, b."; room = 2; answer = Err (refusal 11 3) }) ∷
    -- a text that becomes empty needs no room
    (record { text = ascii "..."; room = 0; answer = wrote 0 0 }) ∷
    (record { text = []; room = 0; answer = wrote 0 0 }) ∷
    []

pub answered_right : map (λ e. edit_answer e.text e.room) answers ≡ map (λ e. e.answer) answers
unfolding everything answers
answered_right = refl

-- а behind 4,096 gaps: too long a message, and spoken when it has been edited
unfoldable pub long : List ℕ
long = replicate 4096 gap ++ («а» ∷ [])

pub long_spoken : (tape_answer One long 9 ∷ tape_answer One (edited long) 9 ∷ []) ≡ (Err (refusal 2 0) ∷ wrote 1 0 ∷ [])
unfolding everything long
long_spoken = refl
