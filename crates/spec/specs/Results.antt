-- What check, operations and lookups answer: what they come to, or a refusal.
-- Assumes nothing: these are definitions.
use Rattle.std.specs.Prelude.{ℕ, Result, Ok}
use Rattle.spec.specs.declared.Counts.{Counts}
use Rattle.spec.specs.declared.Refusal.{Refusal}
use Rattle.spec.specs.declared.Written.{Written}
use Rattle.spec.specs.declared.Span.{Span}

-- the message check: how long the answers for an accepted message are
abbrev pub Checked : Type 0
Checked = Result Counts Refusal

-- an operation on a lent output: how much was written
abbrev pub Answer : Type 0
Answer = Result Written Refusal

-- so many bytes were written, with so many live cuts
abbrev pub wrote : ℕ → ℕ → Answer
wrote n live = Ok (record { length = n; live = live })

-- a lookup in the phrase book: the tape was handed back
abbrev pub Found : Type 0
Found = Result (Unit {0}) Refusal

-- the same with the tape's place in the lent buffer, for callers in C
abbrev pub Located : Type 0
Located = Result Span Refusal

-- the tape begins at this place and has so many codes
abbrev pub spanning : ℕ → ℕ → Located
spanning start n = Ok (record { start = start; length = n })
