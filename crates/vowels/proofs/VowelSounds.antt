-- A vowel's sound and glide by what the code reads off the bytes beside it are those that passes 2 and 3 make of it.
use Rattle.laws.proofs.Kit.{ℕ, ◌<◌, ◌≤◌, ◌≡◌, List, arith, length, get_or}
use Rattle.spec.specs.{Letters.small, Vowels.glides, declared.Edition.Edition, declared.Cover.Cover, declared.Level.Level}
use Rattle.spec.specs.{declared.Syllable.Syllable}
use Rattle.letters.specs.{Classes.class_of, Places.last_at, Places.Steady}
use Rattle.letters.proofs.Bytes.{by_class}
use Rattle.stress.specs.Before.{class_before, syllable_by}
use Rattle.stress.specs.Places.{syllable_at}
use Rattle.stress.proofs.Raw.{syllable_raw, class_tells}
use Rattle.vowels.specs.VowelSounds.{glide_by, RowAt, row_of, VowelAt, Sung}
use Rattle.vowels.specs.declared.Vowel.{Vowel}
use Rattle.vowels.proofs.Boundaries.{told_at_lem, hard_raw}

module _ (m : List ℕ) (steady : Steady m) where
  -- whether a vowel there has a glide
  pub glide_raw : (i : ℕ) → i < length m → (cover : Cover)
      → glides (last_at m i) cover (small (get_or m i 0)) ≡ glide_by (class_of (get_or m i 0)) cover (class_before m i)
  unfolding glides
  glide_raw i h cover =
      let b = by_class (get_or m i 0) (steady.bytes i) in
      let t = class_tells m steady i (omega arith) in
      rw (t.sign, t.soft_sign, b.vowel_o, b.iotated_vowel, b.vowel_i)

-- a vowel may be sung
module _ {m : List ℕ} {i c : ℕ} {level : Level} (a : VowelAt m i c level) where
  -- what is found of it by the letter before it, the class of the byte before, its own class, and the level is what the passes make of it
  pub sung_by : {e : Edition} {k : ℕ} {s : Syllable} {v : Vowel} → k ≡ class_before m i → s ≡ syllable_by k level
      → RowAt e (row_of (small (get_or m i 0))) m i s v.code → v.glide ≡ glide_by c s.cover k → Sung e m i v
  sung_by {s = s} e y o g =
      let h : i ≤ length m = omega (arith, a.within) in
      let z : syllable_at m i ≡ s = rw (y, e, a.level) (syllable_raw m a.steady i a.within) in
      record {
        code = rw (z, hard_raw m a.steady i h) (o (last_at m i) (told_at_lem m a.steady i h));
        glide = rw (z, glide_raw m a.steady i a.within s.cover, ← a.class, ← e) g;
      }
