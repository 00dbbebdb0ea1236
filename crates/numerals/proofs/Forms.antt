-- The forms of the thousand, each as the bytes that are put and under what its count must be.
use Rattle.laws.proofs.Kit.{ℕ, ◌<◌, ◌≤◌, ◌≡◌, ◌≢◌, [], ◌∷◌, arith, refl, ne_eqb, le-leb, lt-leb}
use Rattle.spec.specs.SpokenLevels.{thousand}
use Rattle.spec.proofs.Computed.{everything}

pub thousand_of_one : (n : ℕ) → n ≡ 1 → thousand n ≡ 0xF2 ∷ 0xFB ∷ 0x2A ∷ 0xF1 ∷ 0xFF ∷ 0xF7 ∷ 0xE0 ∷ []
unfolding everything
thousand_of_one n e = rw e refl

pub thousand_of_few : (n : ℕ) → n ≢ 1 → n ≤ 4 → thousand n ≡ 0xF2 ∷ 0xFB ∷ 0x2A ∷ 0xF1 ∷ 0xFF ∷ 0xF7 ∷ 0xE8 ∷ []
unfolding everything
thousand_of_few n f h = rw (ne_eqb n 1 f, le-leb n 4 h)

pub thousand_of_many : (n : ℕ) → 4 < n → thousand n ≡ 0xF2 ∷ 0xFB ∷ 0x2A ∷ 0xF1 ∷ 0xFF ∷ 0xF7 ∷ []
unfolding everything
thousand_of_many n h = rw (ne_eqb n 1 (omega arith), lt-leb n 4 h)

pub ruleset forms = (thousand_of_one, thousand_of_few, thousand_of_many)
