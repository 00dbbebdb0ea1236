-- An accepted message is steady: it is short, each of its bytes has a class, and a mark stands right after a vowel.
use Rattle.laws.proofs.Kit.{ℕ, suc, ◌<◌, ◌≡◌, sym, ◌∙◌, true, true≢false, false≢true, List, [], get_or, drop}
use Rattle.spec.specs.Refusals.{vowel_byte, first, row3, row5, rows, fits_in, before_at, check_of}
use Rattle.spec.specs.{Letters.is_mark, declared.Counts.Counts}
use Rattle.laws.proofs.{Accepted.Clear, Accepted.accepted_passes, Classes.either, Classes.refuted}
use Rattle.letters.specs.{Classes.class_of, Places.Steady}
use Rattle.letters.proofs.Bytes.{ByClass, by_class}
use Rattle.std.proofs.Common.{Ok}

-- a clear byte is of some class
clear_named : (before : List ℕ) (b : ℕ) (after : List ℕ) → ByClass b → Clear before b after → class_of b ≡ 0 → ⊥
unfolding fits_in rows row3
clear_named before b after k c e = false≢true (sym (c 3) ∙ rw (k.letter, k.mark, k.break, e))

-- a clear mark stands right after a vowel
clear_mark : (before : List ℕ) (b : ℕ) (after : List ℕ) → Clear before b after → is_mark b ≡ true → first vowel_byte before ≡ true
unfolding fits_in rows row5
clear_mark before b after c e = either (first vowel_byte before) (λ v. v) (λ v. absurd (true≢false (rw (e, v) at (c 5))))

-- an accepted message is steady
pub accepted_steady : (m : List ℕ) (counts : Counts) → check_of m ≡ Ok counts → ((i : ℕ) → get_or m i 0 < 256) → Steady m
unfolding before_at first
accepted_steady m counts e bytes =
    let p = accepted_passes m counts e in
    record {
      short = p.short;
      bytes = bytes;
      named = λ i h. clear_named (before_at m i) (get_or m i 0) (drop (suc i) m) (by_class (get_or m i 0) (bytes i)) (p.rows i h);
      marks = λ i h. clear_mark (before_at m (suc i)) (get_or m (suc i) 0) (drop (suc (suc i)) m) (p.rows (suc i) h);
      first = refuted _ (λ k. false≢true (clear_mark [] (get_or m 0 0) (drop 1 m) (p.rows 0 p.some) k));
    }
