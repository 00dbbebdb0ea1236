-- A byte that is no key of a match: a test by classes of bytes is settled there by one computation over all bytes.
use Rattle.laws.proofs.Kit.{ℕ, ◌<◌, ◌≤◌, ◌≡◌, refl, false, cond, ◌&&◌, not, List, [], ◌∷◌, map, ◌⊎◌, inl, inr, ne_eqb}
use Rattle.spec.specs.Letters.{between}
use Rattle.spec.specs.Tables.{among}
use Rattle.laws.proofs.Classes.{below, below_same}
use Rattle.stress.proofs.Raw.{between_true}

-- a byte that is none of the keys of arms, each of one key, of two or of three
pub data NoKey (b : ℕ) : List ℕ → Type 0 where
  none : NoKey b []
  other : {x : ℕ} {keys : List ℕ} → (b ≡ x → ⊥) → NoKey b keys → NoKey b (x ∷ keys)
  neither : {x y : ℕ} {keys : List ℕ} → (b ≡ x ⊎ b ≡ y → ⊥) → NoKey b keys → NoKey b (x ∷ y ∷ keys)
  no_third : {x y z : ℕ} {keys : List ℕ} → (b ≡ x ⊎ (b ≡ y ⊎ b ≡ z) → ⊥) → NoKey b keys → NoKey b (x ∷ y ∷ z ∷ keys)

not_among : {b : ℕ} {keys : List ℕ} → NoKey b keys → among keys b ≡ false
unfolding among
not_among none = refl
not_among (other n k) = rw (ne_eqb _ _ n) (not_among k)
not_among (neither n k) = rw (ne_eqb _ _ (λ h. n (inl h)), ne_eqb _ _ (λ h. n (inr h))) (not_among k)
not_among (no_third n k) = rw (ne_eqb _ _ (λ h. n (inl h)), ne_eqb _ _ (λ h. n (inr (inl h))), ne_eqb _ _ (λ h. n (inr (inr h)))) (not_among k)

-- at such a byte a function that is d at all other bytes is d
pub outside : {A : Type 0} {keys : List ℕ} {b : ℕ} (f : ℕ → A) (d : A) → NoKey b keys → map (λ x. cond (among keys x) d (f x)) (below 256) ≡ map (λ _. d) (below 256) → b < 256 → f b ≡ d
outside {A} {keys} {b} f d k e h = rw (not_among k) at (below_same (λ x. cond (among keys x) d (f x)) (λ _. d) 256 b e h)

-- and one that is d at all other bytes of a range is d at such a byte of it
pub inside : {A : Type 0} {keys : List ℕ} {b : ℕ} (lo hi : ℕ) (f : ℕ → A) (d : A) → NoKey b keys
    → map (λ x. cond (between lo hi x && not (among keys x)) (f x) d) (below 256) ≡ map (λ _. d) (below 256) → b < 256 → lo ≤ b → b ≤ hi → f b ≡ d
inside {A} {keys} {b} lo hi f d k e h l u =
    rw (between_true lo hi b l u, not_among k) at (below_same (λ x. cond (between lo hi x && not (among keys x)) (f x) d) (λ _. d) 256 b e h)
