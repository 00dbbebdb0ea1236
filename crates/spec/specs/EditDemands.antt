-- What holds of a text with punctuation (paper 02, request 1): the demands cover it through its
-- edited form. `edited_demands` of crate laws proves it.
-- Assumes nothing: these are definitions.
use Rattle.std.specs.Prelude.{ℕ, ◌<◌, ◌≤◌, ◌≡◌, false, ◌↔◌, List, length, take}
use Rattle.spec.specs.Numbers.{empty_message, long_message, misplaced_break, short_output}
use Rattle.spec.specs.Numbers.{message_max}
use Rattle.spec.specs.Refusals.{fits, NoneFits, Given}
use Rattle.spec.specs.Answers.{number_of, length_of}
use Rattle.spec.specs.Editing.{OnlyBreaks, edited, EditPromise}
use Rattle.spec.specs.Results.{Answer}
use Rattle.spec.specs.Demands.{Settled, Exactly, Demand1, Demand2, Demand3}

-- The editor's only number: 11, with the edited text's length, where the output is shorter.
abbrev pub EditDue : List ℕ → ℕ → ℕ → ℕ → Type 0
EditDue t room n p = (n ≡ short_output) × (p ≡ length (edited t)) × (room < length (edited t))

-- The demands for a text t of any bytes and any length, through its edited form.
pub record EditedDemands (t : List ℕ) : Type 0 where
  -- the editor is carried out, or refused with every byte left
  pub settled : (out out' : List ℕ) (r : Answer) → EditPromise t out out' r
      → Settled (EditDue t (length out)) (edited t) 0 out out' r
  -- lent an output long enough, it accepts every text
  pub exact : (out out' : List ℕ) (r : Answer) → EditPromise t out out' r
      → Exactly (Unit {0}) (EditDue t (length out)) (edited t) 0 out out' r
  -- what it has written is the edited text, the message that is handed on
  pub handed : (out out' : List ℕ) (r : Answer) → EditPromise t out out' r → number_of r ≡ 0
      → take (length_of r) out' ≡ edited t
  -- an output as long as the text is long enough
  pub size : length (edited t) ≤ length t
  -- editing twice is editing once
  pub twice : edited (edited t) ≡ edited t
  -- an accepted message is its own edited form
  pub own : NoneFits t → edited t ≡ t
  -- no break stands first, last or after a break any more, so number 4 fits nowhere
  pub breaks : (p : ℕ) → fits (edited t) misplaced_break p ≡ false
  -- number 1 is for a text of breaks alone, and number 2 counts the edited bytes
  pub empty : Given (edited t) empty_message 0 ↔ OnlyBreaks t
  pub long : Given (edited t) long_message 0 ↔ (message_max < length (edited t))
  -- the check, naming, transcriber and joiner, handed the edited text, with every place counted
  -- there
  pub demand1 : Demand1 (edited t)
  pub demand2 : Demand2 (edited t)
  pub demand3 : NoneFits (edited t) → Demand3 (edited t)
