-- Four bytes without a stop are seen, whichever way their sum was made.
use Rattle.laws.proofs.Kit.{◌+◌, ◌<◌, arith, rules}
use Rattle.letters.specs.Classes.{class_at}
use Rattle.message.specs.{declared.Seen.Seen, Steps.Sees, Steps.silent_four, Steps.stop_unit}
use Rattle.message.proofs.Checking.{sees_small, Adds, sees_four}
use Rattle.message.proofs.check.pass_fours.Goals as goal
use Rattle.message.proofs.check.pass_fours.Goals.{After-sum_four-x, At-loop-at, Joined-x-lt-ASK, then-x-lt-ASK}
use Rattle.message.proofs.check.pass_fours.Goals.{else-x-lt-ASK+else-x-ge-STOP}

-- what is seen at the loop's head
abbrev seen : (c : At-loop-at) → Seen
seen c = record { at = c.loop-at.at; kind = c.loop-at.kind; from = c.args.seen.from; limit = c.args.seen.limit; sum = c.loop-at.sum }

-- four bytes without a stop
four : (c : After-sum_four-x) → c.sum_four-x.result < stop_unit → let m = c.args.m.now in
    Adds m (seen (goal.at.After-sum_four-x c).At-loop-at) 4 c.sum_four-x.result (silent_four m c.loop-at.at) (class_at m (c.loop-at.at + 3))
four c n =
    let e = c.sum_four-x.ensures in
    let p = c.requires in
    let h = c.loop-at-test.true in
    rw e (sees_four _ (seen (goal.at.After-sum_four-x c).At-loop-at) c.loop-at.invariant.0 (omega (arith, h, p.bytes)) (omega (arith, h, p.room)) (omega (arith, e, n)))

-- they are seen, whichever way their sum was made
passed : (c : Joined-x-lt-ASK) → let m = c.args.m.now in
    Sees m (record { at = c.loop-at.at + 4; kind = class_at m (c.loop-at.at + 3); from = (seen (goal.at.Joined-x-lt-ASK c).At-loop-at).from; limit = (seen (goal.at.Joined-x-lt-ASK c).At-loop-at).limit; sum = c.if-x-lt-ASK.sum })
passed c = let f = four (goal.at.Joined-x-lt-ASK c).After-sum_four-x in
    elim c.if-x-lt-ASK.branch [
      | then-x-lt-ASK w ↦ let s = f (omega arith) in s.seen _ (omega (arith, s.plain w.if-x-lt-ASK.true))
      | else-x-lt-ASK+else-x-ge-STOP w ↦ let s = f w.if-x-ge-STOP.false in s.seen _ (omega (arith, w.silent_four.ensures, s.enough))
    ]

pub sum_four-x-requires : goal.sum_four-x-requires
sum_four-x-requires c = let b = sees_small c.loop-at.invariant.0 in search rules

pub overflow_add-sum : goal.overflow_add-sum
overflow_add-sum c = let b = sees_small c.loop-at.invariant.0 in search rules

pub overflow_sub-sum : goal.overflow_sub-sum
overflow_sub-sum c = let f = four (goal.at.overflow_sub-sum c).After-sum_four-x c.if-x-ge-STOP.false in search rules

pub overflow_add-sum-else-x-ge-STOP : goal.overflow_add-sum-else-x-ge-STOP
overflow_add-sum-else-x-ge-STOP c = let b = sees_small c.loop-at.invariant.0 in search rules

pub loop-at-preserved : goal.loop-at-preserved
loop-at-preserved c = (rw c.class_of-kind.ensures (passed (goal.at.loop-at-preserved c).Joined-x-lt-ASK), search rules)
