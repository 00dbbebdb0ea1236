-- The rules ask of consonants, and a folded letter is one of them just when the small letter is; the letter after an elided one is one of five.
use Rattle.laws.proofs.Kit.{ℕ, ◌<◌, ◌≡◌, refl, sym, ◌∙◌, or-false, map, arith, eqb}
use Rattle.spec.specs.{Alphabet.«д», Alphabet.«т», Tables.among, Letters.small, Elision.elides_among}
use Rattle.laws.proofs.Classes.{among_same, below_same}
use Rattle.laws.proofs.Elided.{before_other}
use Rattle.letters.specs.{Classes.fold_of, Places.consonants_and_signs, Places.Alike}
use Rattle.letters.proofs.{Silent.alike_elides, Computed.everything}
use Rattle.letters.proofs.elision.elides_byte.Goals as goal
use Rattle.letters.proofs.elision.elides_byte.Goals.{After-fold_case-next}

-- each consonant and sign is told alike, by one computation
same : (b : ℕ) → b < 256 → Alike (fold_of b) (small b)
unfolding everything
same b h =
    let l = consonants_and_signs in
    let e = below_same (λ y. map (eqb (fold_of y)) l) (λ y. map (eqb (small y)) l) 256 b refl h in
    record { each = λ x i. among_same (eqb (fold_of b)) (eqb (small b)) l x e i }

-- so the rules say the same
folds : (c : After-fold_case-next)
    → let a = c.args in elides_among (fold_of a.p) (fold_of a.b) (fold_of a.c) (fold_of a.d) ≡ elides_among (small a.p) (small a.b) (small a.c) (small a.d)
unfolding everything
folds c =
    let a = c.args in
    let f = c.ranges in
    let b = same a.b (omega (arith, f.b)) in
    alike_elides _ _ (fold_of a.b) _ _ _ _ (same a.p (omega (arith, f.p))) (same a.c (omega (arith, f.c))) (λ _. same a.d (omega (arith, f.d))) ∙ rw (b.each «т» refl, b.each «д» refl)

pub returns-then-follows_elided : goal.returns-then-follows_elided
unfolding among
returns-then-follows_elided c = let f = folds (goal.at.returns-then-follows_elided c).After-fold_case-next in cc

pub returns : goal.returns
unfolding among
returns c = sym (before_other _ _ _ _ (simp or-false (rw c.fold_case-next.ensures at (sym c.follows_elided.ensures ∙ c.if-follows_elided.false)))) ∙ folds (goal.at.returns c).After-fold_case-next
