-- Paper 02, slip 1, plain punctuation: the editor makes of a text with commas and stops the message
-- that is meant. Its steps are the paper's sentences in their order: what each byte becomes, runs
-- of breaks, the two ends.
-- Assumes nothing: these are definitions.
use Rattle.std.specs.Prelude.{ℕ, ◌≡◌, true, cond, ◌&&◌, ◌||◌, List, [], ◌∷◌, map, eqb, length}
use Rattle.spec.specs.Alphabet.{gap, pause}
use Rattle.spec.specs.Tables.{among, ascii}
use Rattle.spec.specs.Letters.{is_break}
use Rattle.spec.specs.Refusals.{none}
use Rattle.spec.specs.Answers.{within, Promise}
use Rattle.spec.specs.Results.{Answer}

-- Slip 1, marks: those that become a pause
unfoldable pub pause_marks : List ℕ
pause_marks = ascii ".,;:?!"

-- and those that become a gap
unfoldable pub gap_marks : List ℕ
gap_marks = ascii "-()\"'"

-- what a byte becomes; every other byte passes as it is, whatever it is
unfoldable pub replaced : ℕ → ℕ
replaced b = cond (among pause_marks b) pause (cond (among gap_marks b) gap b)

-- Slip 1, runs: what two breaks in a row become, a pause if one of them is a pause
unfoldable pub one_break : ℕ → ℕ → ℕ
one_break a b = cond (eqb a pause || eqb b pause) pause gap

-- a break put before a text in which each run is one break already: with a break there it is a run
unfoldable pub put_break : ℕ → List ℕ → List ℕ
put_break b [] = b ∷ []
put_break b (c ∷ t) = cond (is_break c) (one_break b c ∷ t) (b ∷ c ∷ t)

-- each run of breaks becomes one break, a pause if the run holds one
unfoldable pub merged : List ℕ → List ℕ
merged [] = []
merged (b ∷ t) = let rest = merged t in cond (is_break b) (put_break b rest) (b ∷ rest)

-- Slip 1, ends: a break at the start vanishes
unfoldable pub without_first : List ℕ → List ℕ
without_first [] = []
without_first (b ∷ t) = cond (is_break b) t (b ∷ t)

-- and so does a break at the end
unfoldable pub without_last : List ℕ → List ℕ
without_last [] = []
without_last (b ∷ t) = cond (is_break b && none t) [] (b ∷ without_last t)

-- the edited text; when runs are merged there is at most one break at either end
unfoldable pub edited : List ℕ → List ℕ
edited t = without_last (without_first (merged (map replaced t)))

-- a text of nothing but breaks, of either origin
abbrev pub OnlyBreaks : List ℕ → Type 0
OnlyBreaks [] = Unit {0}
OnlyBreaks (b ∷ t) = (is_break (replaced b) ≡ true) × OnlyBreaks t

-- The editor, lent an output of this room: number 11 is its only refusal.
unfoldable pub edit_answer : List ℕ → ℕ → Answer
edit_answer t room = within room (length (edited t)) 0

abbrev pub EditPromise : List ℕ → List ℕ → List ℕ → Answer → Type 0
EditPromise t out out' r = Promise (edit_answer t (length out)) (edited t) out out' r
