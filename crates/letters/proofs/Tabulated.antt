-- A table that is made of a function has what the function says at each place.
use Rattle.laws.proofs.Kit.{ℕ, zero, suc, ◌+◌, ◌<◌, ◌≡◌, ap, ◌∙◌, List, arith, get_or}
use Rattle.letters.specs.Classes.{class_of, tabulate, classes}

-- a table has at each place what it says
pub tabulate_at : (f : ℕ → ℕ) (i n j : ℕ) → j < n → get_or (tabulate f i n) j 0 ≡ f (i + j)
unfolding tabulate
tabulate_at f i zero j h = absurd (omega arith)
tabulate_at f i (suc n) zero h = let e : i ≡ i + 0 = omega arith in ap f e
tabulate_at f i (suc n) (suc j) h = let e : suc i + j ≡ i + suc j = omega arith in tabulate_at f (suc i) n j (omega arith) ∙ ap f e

-- a table that is made so is read so
pub tabulate_read : (f : ℕ → ℕ) (n : ℕ) {t : List ℕ} {j : ℕ} → t ≡ tabulate f 0 n → j < n → get_or t j 0 ≡ f j
tabulate_read f n {t} {j} e h = let z : 0 + j ≡ j = omega arith in rw (e, tabulate_at f 0 n j h, z)

-- the table of classes has the class of each byte
pub class_read : (t : List ℕ) (b : ℕ) → t ≡ classes → b < 256 → get_or t b 0 ≡ class_of b
unfolding classes
class_read t b e h = tabulate_read class_of 256 e h
