-- Each class of byte is handled by its own function, and a byte of an accepted message has one.
use Rattle.laws.proofs.Kit.{ℕ, Bool, true, ◌<◌, ◌≡◌, arith, get_or, eq-eqb, ne_eqb}
use Rattle.spec.specs.Letters.{is_mark}
use Rattle.transcriber.specs.Walk.{ReadyFor}
use Rattle.stress.proofs.Raw.{between_true, vowel_class, break_class}
use Rattle.transcriber.proofs.Walking.{run_ready, sign_steps, mark_steps}
use Rattle.transcriber.proofs.tape.step.Goals as goal
use Rattle.transcriber.proofs.tape.step.Goals.{After-class_of-c}

-- the byte is one
byte : (c : After-class_of-c) → get_or c.args.m.now c.args.i 0 < 256
byte c = c.requires.steady.bytes c.args.i

-- a step may be taken at a byte whose class passes a test
tested : (c : After-class_of-c) {test : ℕ → Bool} → test c.class_of-c.result ≡ true
    → ReadyFor test c.args.m.now c.args.out.now c.args.i c.class_of-c.result c.args.r
tested c t = record { ready = c.requires; class = c.class_of-c.ensures; kind = t }

pub put_break-requires : goal.put_break-requires
unfolding is_mark
put_break-requires c =
    let b = byte (goal.at.put_break-requires c).After-class_of-c in
    let named = c.requires.steady.named c.args.i c.requires.within in
    let t = break_class b c.class_of-c.ensures named c.if-c-ge-HARD_SIGN.false (ne_eqb _ 42 c.if-b-eq-MARK.false) in
    record { ready = tested (goal.at.put_break-requires c).After-class_of-c t; passed = c.step-levels.ensures }

pub put_vowel-requires : goal.put_vowel-requires
put_vowel-requires c =
    let k = (goal.at.put_vowel-requires c).After-class_of-c in
    tested k (vowel_class (byte k) c.class_of-c.ensures c.if-c-ge-PLAIN_VOWEL.true)

pub returns-then-c-ge-HARD_ONLY : goal.returns-then-c-ge-HARD_ONLY
returns-then-c-ge-HARD_ONLY c = c.put_consonant.ensures c.args.e

pub step-levels-requires : goal.step-levels-requires
step-levels-requires c = run_ready c.requires

pub returns-then-c-ge-HARD_SIGN : goal.returns-then-c-ge-HARD_SIGN
returns-then-c-ge-HARD_SIGN c =
    let sign = between_true 4 5 _ c.if-c-ge-HARD_SIGN.true (omega (arith, c.if-c-ge-HARD_ONLY.false)) in
    sign_steps (tested (goal.at.returns-then-c-ge-HARD_SIGN c).After-class_of-c sign) c.seen_over.ensures c.step-levels.ensures c.args.e

pub returns-then-b-eq-MARK : goal.returns-then-b-eq-MARK
unfolding is_mark
returns-then-b-eq-MARK c = mark_steps c.requires (eq-eqb _ 42 c.if-b-eq-MARK.true) c.step-levels.ensures c.args.e

pub returns : goal.returns
returns c = c.put_break.ensures c.args.e
