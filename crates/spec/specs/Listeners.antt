-- Paper 02, slip 7: who may hear what. A phrase of the book has a set of listeners, a byte with a
-- bit for each of them.
-- Assumes nothing: these are definitions.
use Rattle.std.specs.Prelude.{ℕ, ◌/◌, ◌%◌, Bool, true, false, eqb}
use Rattle.spec.specs.Numbers.{not_for_listener}
use Rattle.spec.specs.Refusals.{refusal}
use Rattle.spec.specs.declared.Refusal.{Refusal}
use Rattle.spec.specs.declared.Listener.{Listener}
use Rattle.spec.specs.declared.Listener.TheVariants.{Pump, Road, Dispatch}

-- Is this listener in the set? Bit 0 is for pump crews, bit 1 for road crews, bit 2 for dispatch;
-- the other five say nothing.
abbrev pub may_hear : Listener → ℕ → Bool
may_hear Pump set = eqb (set % 2) 1
may_hear Road set = eqb (set / 2 % 2) 1
may_hear Dispatch set = eqb (set / 4 % 2) 1

-- Who may add phrases: dispatch and nobody else.
abbrev pub may_write : Listener → Bool
may_write Pump = false
may_write Road = false
may_write Dispatch = true

-- Number 17, not for this listener: its place is 0.
abbrev pub withheld : Refusal
withheld = refusal not_for_listener 0
