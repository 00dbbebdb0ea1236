-- Only т and д can be silent, and only after a paired consonant that is neither.
use Rattle.laws.proofs.Kit.{ℕ, ◌<◌, ◌≡◌, sym, ◌∙◌, false, List, get_or, eqb-false}
use Rattle.letters.specs.Classes.{paired_class, byte_before, elided_at}
use Rattle.letters.proofs.Silent.{class_spoken, before_spoken}
use Rattle.stress.specs.Before.{class_before}
use Rattle.transcriber.proofs.tape.is_silent.Goals as goal
use Rattle.transcriber.proofs.tape.is_silent.Goals.{then-c-eq-T_OR_D, else-c-eq-T_OR_D}

-- a byte after another class is heard
after_others : (m : List ℕ) (i : ℕ) → ((j : ℕ) → get_or m j 0 < 256) → (class_before m i ≡ paired_class → ⊥) → elided_at m i ≡ false
unfolding byte_before
after_others m i h n = before_spoken m i h (λ j e k. n (rw (e, k)))

pub returns-else-class_before-eq-PAIRED : goal.returns-else-class_before-eq-PAIRED
returns-else-class_before-eq-PAIRED c = c.if-class_before-eq-PAIRED.false ∙ sym (elim c.if-c-eq-T_OR_D.branch [
  | then-c-eq-T_OR_D w ↦
      let n = eqb-false _ _ (sym w.value-is ∙ c.if-class_before-eq-PAIRED.false) in
      after_others c.args.m.now _ c.requires.bytes (λ e. n (w.class_before.ensures ∙ e))
  | else-c-eq-T_OR_D w ↦ class_spoken c.args.m.now _ (c.requires.bytes _) (λ e. w.if-c-eq-T_OR_D.false (c.requires.class ∙ e))
])
