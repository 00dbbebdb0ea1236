-- A record that stands at the place is noted, with the number that is read there.
use Rattle.laws.proofs.Kit.{◌≡◌, sym, ◌∙◌, arith, drop, length-drop, rules}
use Rattle.spec.specs.Book.{book_storage, number_place, number_in}
use Rattle.laws.proofs.Book.{Stands, record_stands}
use Rattle.records.proofs.Walks.{pair_behind, going_start, going_16, going_more, going_all}
use Rattle.records.proofs.reading.walk.Goals as goal
use Rattle.records.proofs.reading.walk.Goals.{After-pair_at-number, In-loop-number}

-- a record stands at the place,
there : (c : In-loop-number) → Stands book_storage (drop c.loop-number.i c.args.book.now)
there c = record_stands book_storage _ (sym c.is_record.ensures ∙ c.loop-number-test.true)

-- and this is its number
number_there : (c : After-pair_at-number) → c.pair_at-number.result ≡ number_in (drop c.loop-number.i c.args.book.now)
number_there c = c.pair_at-number.ensures.0 ∙ pair_behind c.args.book.now c.loop-number.i number_place

pub loop-number-init : goal.loop-number-init
loop-number-init c = going_start _ _ (λ j. search rules)

pub pair_at-number-requires : goal.pair_at-number-requires
pair_at-number-requires c = omega (arith, (there (goal.at.pair_at-number-requires c).In-loop-number).head, length-drop c.loop-number.i c.args.book.now)

pub record_end-i-requires : goal.record_end-i-requires
record_end-i-requires c = omega (arith, (there (goal.at.record_end-i-requires c).In-loop-number).head, length-drop c.loop-number.i c.args.book.now)

pub returns-then-number-seen : goal.returns-then-number-seen
returns-then-number-seen c =
    let p = goal.at.returns-then-number-seen c in
    going_16 c.loop-number.invariant (there p.In-loop-number) (number_there p.After-pair_at-number) c.if-number-seen.true

pub loop-number-preserved : goal.loop-number-preserved
loop-number-preserved c =
    let p = goal.at.loop-number-preserved c in
    going_more c.loop-number.invariant (there p.In-loop-number) (number_there p.After-pair_at-number) c.record_end-i.ensures
    c.if-number-seen.false c.note-seen.ensures

pub returns : goal.returns
returns c = going_all c.loop-number.invariant (omega arith)
