-- The entry tells the case: a fault, or a byte that is passed unless it is a 65th letter.
use Rattle.laws.proofs.Kit.{◌<◌, ◌≡◌, refl, cond, add-one, arith, length, rules}
use Rattle.message.specs.Steps.{fault_here}
use Rattle.message.proofs.Checking.{sees_more, stop_here, full_here, Gives, gives}
use Rattle.letters.proofs.Bytes.{by_class}
use Rattle.message.proofs.check.step.Goals as goal
use Rattle.message.proofs.check.step.Goals.{After-class_of-c, After-entry_at-e, After-is_too_many}

-- the check stands at one
byte : (c : After-class_of-c) → c.count_on-counted.result.at < length c.args.m.now
byte c = omega (arith, c.count_on-counted.ensures.place, c.requires.byte)

-- what its entry has
here : (c : After-entry_at-e) → let r = c.count_on-counted.ensures in Gives r.sees (byte (goal.at.After-entry_at-e c).After-class_of-c) c.class_of-c.ensures c.entry_at-e.ensures.0
here c = gives c.count_on-counted.ensures.sees (byte (goal.at.After-entry_at-e c).After-class_of-c) c.class_of-c.ensures c.entry_at-e.ensures.0

-- its fault without a second stop
fault : (c : After-is_too_many) → fault_here c.args.m.now c.count_on-counted.result.at ≡ cond c.is_too_many.result 10 0
fault c =
    let r = c.count_on-counted.ensures in
    rw c.is_too_many.ensures (full_here r.sees (byte (goal.at.After-is_too_many c).After-class_of-c) c.class_of-c.ensures c.entry_at-e.ensures.0 c.if-e.false r.full)

pub returns : goal.returns
returns c =
    let r = c.count_on-counted in
    let z = rw c.if-is_too_many.false at (fault (goal.at.returns c).After-is_too_many) in
    let b = byte (goal.at.returns c).After-class_of-c in
    let k = c.class_of-c.ensures in
    let few = (here (goal.at.returns c).After-entry_at-e).enough in (
      rw (add-one r.result.at, c.next_kind.ensures)
          (sees_more r.ensures.sees b k c.entry_at-e.ensures.0 _ z (omega (arith, c.silent_at.ensures.0, few))),
      omega (arith, r.ensures.place),
    )

pub returns-then-e : goal.returns-then-e
returns-then-e c =
    let r = c.count_on-counted.ensures in
    let f = stop_here r.sees (byte (goal.at.returns-then-e c).After-class_of-c) c.class_of-c.ensures c.entry_at-e.ensures.0 c.if-e.true in
    rw (← r.place) (f.0, f.1, refl)

pub returns-then-is_too_many : goal.returns-then-is_too_many
returns-then-is_too_many c =
    let r = c.count_on-counted.ensures in
    let f = fault (goal.at.returns-then-is_too_many c).After-is_too_many in
    (rw (← r.place, f, c.if-is_too_many.true), search rules, r.place)

pub next_kind-requires : goal.next_kind-requires
next_kind-requires c = let r = c.count_on-counted in let b = by_class _ (r.ensures.sees.bytes r.result.at) in search rules

pub overflow_sub-result-2 : goal.overflow_sub-result-2
overflow_sub-result-2 c = let g = here (goal.at.overflow_sub-result-2 c).After-entry_at-e in search rules
