-- Each class of byte settles its names, and a byte of an accepted message has one; the run of the levels goes on over it.
use Rattle.laws.proofs.Kit.{◌≡◌, true, ◌∙◌, arith, get_or, eq-eqb, ne_eqb}
use Rattle.spec.specs.Letters.{is_break, is_mark}
use Rattle.letters.specs.Classes.{class_of, is_vowel_class}
use Rattle.letters.proofs.{Bytes.by_class, Bytes.vowel_break, Left.mark_within}
use Rattle.naming.proofs.Namings.{other_piece, named_within, word_ends, named_break}
use Rattle.stress.proofs.Levelling.{plain_letter, mark_vowel, levels_due, break_due}
use Rattle.stress.proofs.Raw.{between_true, vowel_class, break_byte}
use Rattle.naming.proofs.step.Goals as goal
use Rattle.naming.proofs.step.Goals.{Else-b-eq-MARK, Then-c-ge-PLAIN_VOWEL}
use Rattle.naming.proofs.step.Goals.{then-c-ge-FIRST_LETTER-via-then-c-ge-FIRST_LETTER}
use Rattle.naming.proofs.step.Goals.{then-c-ge-FIRST_LETTER-via-else-c-ge-FIRST_LETTER+then-b-eq-MARK}

-- the highest classes are the vowels'
vowel : (c : Then-c-ge-PLAIN_VOWEL) → is_vowel_class (class_of (get_or c.args.m.now c.args.i 0)) ≡ true
vowel c =
    rw c.class_of-c.ensures at (vowel_class (c.requires.steady.bytes c.args.i) c.class_of-c.ensures c.if-c-ge-PLAIN_VOWEL.true)

-- where the byte is no letter and no mark it is a break
breaks : (c : Else-b-eq-MARK) → is_break (get_or c.args.m.now c.args.i 0) ≡ true
unfolding is_mark
breaks c =
    let s = c.requires.steady in
    break_byte (s.bytes c.args.i) c.class_of-c.ensures (s.named c.args.i c.requires.within) c.if-c-ge-FIRST_LETTER.false
    (ne_eqb _ 42 c.if-b-eq-MARK.false)

pub step-levels-requires : goal.step-levels-requires
step-levels-requires c = let p = c.requires in levels_due p.steady p.within p.stands

pub put_name-at-requires : goal.put_name-at-requires
put_name-at-requires c = record { ready = c.requires; vowel = vowel (goal.at.put_name-at-requires c).Then-c-ge-PLAIN_VOWEL }

pub returns-then-c-ge-PLAIN_VOWEL : goal.returns-then-c-ge-PLAIN_VOWEL
returns-then-c-ge-PLAIN_VOWEL c =
    let h = c.requires.steady.bytes c.args.i in
    let k = vowel (goal.at.returns-then-c-ge-PLAIN_VOWEL c).Then-c-ge-PLAIN_VOWEL in
    named_within c.requires (vowel_break _ h ((by_class _ h).vowel ∙ k)) c.step-levels.ensures c.put_name-at.ensures

pub returns-then-c-ge-FIRST_LETTER : goal.returns-then-c-ge-FIRST_LETTER
unfolding is_mark
returns-then-c-ge-FIRST_LETTER c =
    let h = c.requires.steady.bytes c.args.i in
    elim c.then-c-ge-FIRST_LETTER.branch [
      | then-c-ge-FIRST_LETTER-via-then-c-ge-FIRST_LETTER w ↦
          let k = between_true 4 9 _ w.if-c-ge-FIRST_LETTER.true (omega arith) in
          let e = plain_letter _ h (rw c.class_of-c.ensures at k) in
          named_within c.requires e.0 c.step-levels.ensures (other_piece c.requires e.0 e.2)
      | then-c-ge-FIRST_LETTER-via-else-c-ge-FIRST_LETTER+then-b-eq-MARK w ↦
          let k = eq-eqb _ 42 w.if-b-eq-MARK.true in
          let b = mark_within _ k in
          named_within c.requires b c.step-levels.ensures (other_piece c.requires b (mark_vowel _ h k))
    ]

pub put_end-at-requires : goal.put_end-at-requires
put_end-at-requires c = word_ends c.requires (breaks (goal.at.put_end-at-requires c).Else-b-eq-MARK)

pub look_back-levels-requires : goal.look_back-levels-requires
look_back-levels-requires c =
    let p = c.requires in
    let b = breaks (goal.at.look_back-levels-requires c).Else-b-eq-MARK in
    rw c.step-levels.ensures (break_due _ p.steady _ p.within p.stands b)

pub returns : goal.returns
returns c =
    let b = breaks (goal.at.returns c).Else-b-eq-MARK in
    named_break c.requires b c.put_end-at.ensures (rw c.step-levels.ensures at c.look_back-levels.ensures)
