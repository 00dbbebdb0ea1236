use Rattle.laws.proofs.Kit.{ℕ, suc, ◌+◌, ◌-◌, ◌≤◌, ◌≡◌, refl, ◌∙◌, true, false, true≢false, false≢true, arith, List, get_or}
use Rattle.spec.specs.{Letters.is_break, Letters.is_mark, LevelSteps.back_at}
use Rattle.letters.specs.Places.{Steady}
use Rattle.letters.proofs.{Bytes.vowel_break, Bytes.vowel_mark, Left.mark_within}
use Rattle.stress.specs.{declared.LevelRun.LevelRun, Places.mark_before}
use Rattle.stress.specs.Levels.{step_over, end_run, Looked}
use Rattle.laws.proofs.LevelSteps.{back_most}
use Rattle.stress.proofs.Levelling.{step_by, back_letter, back_mark, back_break}
use Rattle.stress.proofs.levels.look_back.Goals as goal
use Rattle.stress.proofs.levels.look_back.Goals.{In-loop-j}
use Rattle.stress.proofs.levels.look_back.Invariants.{Ahead}

module _ {m : List ℕ} {i k : ℕ} {s ahead : LevelRun} (a : Ahead m i s (suc k) ahead) where
  -- over a letter it goes on
  letter : {q : LevelRun} → is_break (get_or m k 0) ≡ false → is_mark (get_or m k 0) ≡ false
      → q.steps ≡ ahead.steps + 1 → q.since ≤ ahead.since + 1 → q.marked ≡ ahead.marked → q.before ≡ ahead.before
      → Ahead m i s k q
  unfolding mark_before
  letter b n t u v w = record {
    within = omega (arith, a.within);
    marked = v ∙ a.marked;
    tells = rw (b, n) at a.tells;
    steps = omega (arith, a.steps, t, back_letter m k b n);
    before = w ∙ a.before;
    since = omega (arith, a.since, u);
  }

  -- a mark says that the word has one
  mark : is_mark (get_or m k 0) ≡ true → Looked m i s (end_run ahead.before (ahead.steps + 1) true)
  unfolding mark_before
  mark n =
      let b = mark_within (get_or m k 0) n in
      record {
        since = refl;
        marked = rw (b, n) at a.tells;
        steps = omega (arith, a.steps, back_mark m k n);
        before = a.before;
      }

  -- and a break that it has none
  break : is_break (get_or m k 0) ≡ true → Looked m i s (end_run ahead.before (ahead.steps + 1) false)
  unfolding mark_before
  break b = record {
    since = refl;
    marked = rw b at a.tells;
    steps = omega (arith, a.steps, back_break m k b);
    before = a.before;
  }

-- so does the message's start
start : {m : List ℕ} {i : ℕ} {s ahead q : LevelRun} → Ahead m i s 0 ahead → q ≡ end_run ahead.before ahead.steps false → Looked m i s q
unfolding mark_before back_at
start a e = rw e (record { since = refl; marked = a.tells; steps = omega (arith, a.steps); before = a.before })

-- the step met a mark or a break, or neither
module _ {m : List ℕ} {i k : ℕ} {s ahead q : LevelRun} (a : Ahead m i s (suc k) ahead) (stepped : q ≡ step_over ahead (get_or m k 0)) where
  edged : q.edge ≡ true → Looked m i s (end_run q.before q.steps q.marked)
  edged = rw stepped (step_by (λ r. r.edge ≡ true → Looked m i s (end_run r.before r.steps r.marked)) ahead (get_or m k 0)
      (λ v e. absurd (false≢true e)) (λ n e. mark a n) (λ b e. break a b) (λ b n v e. absurd (false≢true e)))

  inside : Steady m → q.edge ≡ false → Ahead m i s k q
  inside steady = rw stepped (step_by (λ r. r.edge ≡ false → Ahead m i s k r) ahead (get_or m k 0)
      (λ v e. letter a (vowel_break (get_or m k 0) (steady.bytes k) v) (vowel_mark (get_or m k 0) (steady.bytes k) v)
      refl (omega arith) refl refl)
      (λ n e. absurd (true≢false e)) (λ b e. absurd (true≢false e)) (λ b n v e. letter a b n refl (omega arith) refl refl))

-- what is known in a turn of the loop
turn : (c : In-loop-j) → Ahead c.args.m.now c.args.i c.args.s (suc (c.loop-j.j - 1)) c.loop-j.ahead
turn c =
    let e : suc (c.loop-j.j - 1) ≡ c.loop-j.j = omega (arith, c.loop-j-test.true) in
    rw e c.loop-j.invariant

pub step-ahead-requires : goal.step-ahead-requires
step-ahead-requires c =
    let a = turn (goal.at.step-ahead-requires c).In-loop-j in let p = c.requires in let y = p.steady in
    record {
      named = y.named _ (omega (arith, a.within, p.within));
      steps = omega (arith, a.steps, p.steps, back_most c.args.m.now c.args.i, p.within, y.short);
      since = omega (arith, a.since, p.within, y.short);
    }

pub returns-then-ahead : goal.returns-then-ahead
returns-then-ahead c = rw c.at_word_end.ensures (edged (turn (goal.at.returns-then-ahead c).In-loop-j) c.step-ahead.ensures c.if-ahead.true)

pub loop-j-preserved : goal.loop-j-preserved
loop-j-preserved c = inside (turn (goal.at.loop-j-preserved c).In-loop-j) c.step-ahead.ensures c.requires.steady c.if-ahead.false

pub returns : goal.returns
returns c = let e : c.loop-j.j ≡ 0 = omega (arith, c.loop-j-test.false) in start (rw e at c.loop-j.invariant) c.at_word_end-2.ensures
