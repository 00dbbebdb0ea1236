-- How a number is read: exactly where it is in the range of levels, and else as some number outside
-- it.
-- Assumes nothing: these are definitions.
use Rattle.std.specs.Prelude.{ℕ, ◌<◌, ◌≤◌, ◌≡◌, ◌⊎◌, ℤ, nat_abs}

-- n is v, or both are outside; n is small
pub record Clipped (n v : ℕ) : Type 0 where
  pub same : (n ≡ v) ⊎ ((9999 < n) × (9999 < v))
  pub small : n ≤ 99999

-- so of signed numbers
abbrev pub Like : ℤ → ℤ → Type 0
Like level other = (level ≡ other) ⊎ ((9999 < nat_abs level) × (9999 < nat_abs other))
