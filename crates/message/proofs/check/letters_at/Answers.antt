-- Over a byte the letters before its place go by its class.
use Rattle.laws.proofs.Kit.{ℕ, suc, ◌-◌, ◌≤◌, ◌<◌, ◌≡◌, ap, ◌∙◌, cond, and-false, List, arith, leb, le-leb, lt-leb, rules}
use Rattle.letters.specs.Classes.{is_break_class, is_letter_class, class_at}
use Rattle.message.specs.Steps.{letters_at}
use Rattle.message.proofs.check.letters_at.Goals as goal
use Rattle.message.proofs.check.letters_at.Goals.{After-class_of-c}

-- one byte back, of class x: over a letter, a break, and any other
record Over (m : List ℕ) (j x : ℕ) : Type 0 where
  pub letter : 4 ≤ x → letters_at m j ≡ suc (letters_at m (j - 1))
  pub break : 2 ≤ x → x < 4 → letters_at m j ≡ 0
  pub other : x < 2 → letters_at m j ≡ letters_at m (j - 1)

over : (m : List ℕ) (j x : ℕ) → x ≡ class_at m (j - 1) → 0 < j → Over m j x
unfolding letters_at
over m j x e h =
    let q : j ≡ suc (j - 1) = omega arith in
    let b : letters_at m j ≡ cond (is_break_class x) 0 (cond (is_letter_class x) (suc (letters_at m (j - 1))) (letters_at m (j - 1))) = rw e (ap (letters_at m) q) in
    record {
      letter = λ l. b ∙ rw (lt-leb x 3 (omega arith), le-leb 4 x l, and-false (leb 2 x));
      break = λ l u. b ∙ rw (le-leb 2 x l, le-leb x 3 (omega arith));
      other = λ u. b ∙ rw (lt-leb 2 x u, lt-leb 4 x (omega arith));
    }

-- the byte that is read
here : (c : After-class_of-c) → Over c.args.m.now c.loop-j.j c.class_of-c.result
here c = over _ _ _ c.class_of-c.ensures (omega (arith, c.loop-j-test.true))

pub returns-then-c-ge-GAP : goal.returns-then-c-ge-GAP
returns-then-c-ge-GAP c = let e = (here (goal.at.returns-then-c-ge-GAP c).After-class_of-c).break c.if-c-ge-GAP.true c.if-c-lt-FIRST_LETTER.true in search rules

pub loop-j-preserved-then-c-lt-FIRST_LETTER : goal.loop-j-preserved-then-c-lt-FIRST_LETTER
loop-j-preserved-then-c-lt-FIRST_LETTER c = let e = (here (goal.at.loop-j-preserved-then-c-lt-FIRST_LETTER c).After-class_of-c).other c.if-c-ge-GAP.false in search rules

pub loop-j-preserved : goal.loop-j-preserved
loop-j-preserved c = let e = (here (goal.at.loop-j-preserved c).After-class_of-c).letter c.if-c-lt-FIRST_LETTER.false in search rules
