-- Sounds read as codes, in either edition: one sound alone is changed, and Э1, И1 and that sound answer alike whatever a law asks of a
-- code. So all that is true of sounds and marks by their number, by such questions and by the marks among them is true of their codes.
use Rattle.laws.proofs.Kit.{ℕ, suc, ◌≡◌, refl, sym, ap, ◌∙◌, true, cond, List, [], ◌∷◌, map, eqb, eqb-true}
use Rattle.laws.proofs.Kit.{length, take, drop, get_or, or-false, true≢false}
use mathlib.Core.List.{map-append}
use lib.ListN.{length-map, get_or-map}
use Rattle.spec.specs.Codes.{Э1, И1, ИЭ, mark_of, is_mark_code, is_sound_code, is_sound, is_voicing}
use Rattle.spec.specs.{Editions.reduced, Editions.code_in, Tables.among, Voicing.voices, Palatalization.first_code, Tape.sounds, Tape.tape}
use Rattle.spec.specs.Joints.{joined_from, marks_of}
use Rattle.spec.specs.{declared.Edition.Edition, declared.Edition.TheVariants.One, declared.Edition.TheVariants.Two}
use Rattle.laws.specs.Beside.{is_voiced, is_high}
use Rattle.laws.proofs.Classes.{either, refuted, mark_both}
use Rattle.laws.proofs.Word.{last_code_from}
use Rattle.std.proofs.lemmas.List.{take-map, drop-map}

-- what holds in each edition holds
pub edition_both : (P : Edition → Type 0) → P One → P Two → (e : Edition) → P e
edition_both P one two One = one
edition_both P one two Two = two

module _ (e : Edition) where
  -- what answers Э1, И1 and ИЭ alike answers a code as its sound
  pub read_same : {A : Type 0} (f : ℕ → A) → f Э1 ≡ f ИЭ → f И1 ≡ f ИЭ → (c : ℕ) → f (code_in e c) ≡ f c
  unfolding code_in reduced
  read_same f one two c = either (eqb c ИЭ)
      (λ q. rw (eqb-true c ИЭ q) (edition_both (λ x. f (reduced x) ≡ f ИЭ) one two e)) (λ q. rw q refl)

  -- each sound has the code of a sound
  pub sound_code : (c : ℕ) → is_sound c ≡ true → is_sound_code (code_in e c) ≡ true
  unfolding code_in reduced is_sound_code
  sound_code c h = either (eqb c ИЭ)
      (λ q. rw q (edition_both (λ x. is_sound_code (reduced x) ≡ true) refl refl e)) (λ q. rw q (rw (q, or-false) at h))

  -- which is its own where it has one
  pub own_code : (c : ℕ) → is_sound_code c ≡ true → code_in e c ≡ c
  unfolding code_in is_sound_code
  own_code c h = rw (refuted (eqb c ИЭ) (λ q. true≢false (sym (rw (eqb-true c ИЭ q) at h))))

  -- a break's mark is its own code
  pub mark_own : (x : ℕ) → code_in e (mark_of x) ≡ mark_of x
  unfolding code_in
  mark_own x = mark_both (λ c. code_in e c ≡ c) x refl refl

  -- the code at an index, and those before it
  pub read_at : (t : List ℕ) (k : ℕ) → get_or (map (code_in e) t) k 0 ≡ code_in e (get_or t k 0)
  unfolding code_in
  read_at t k = get_or-map (code_in e) t k 0

  pub read_take : (k : ℕ) (t : List ℕ) → take k (map (code_in e) t) ≡ map (code_in e) (take k t)
  read_take k t = take-map (code_in e) k t

  -- they voice an obstruent before them as the sounds do
  voices_read : (t : List ℕ) → voices (map (code_in e) t) ≡ voices t
  unfolding voices is_voicing among
  voices_read [] = refl
  voices_read (c ∷ t) = read_same is_voicing refl refl c

  pub voices_from : (k : ℕ) (t : List ℕ) → voices (drop k (map (code_in e) t)) ≡ voices (drop k t)
  voices_from k t = ap voices (drop-map (code_in e) k t) ∙ voices_read (drop k t)

  -- the last one tells as much of what follows, and the first one of what stands before
  pub last_read : (t : List ℕ) (c d : ℕ) → is_voiced c ≡ is_voiced d → is_voiced (last_code_from c (map (code_in e) t))
      ≡ is_voiced (last_code_from d t)
  unfolding last_code_from
  last_read [] c d q = q
  last_read (x ∷ t) c d q = last_read t (code_in e x) x (read_same is_voiced refl refl x)

  pub first_read : (t : List ℕ) → is_high (first_code (map (code_in e) t)) ≡ is_high (first_code t)
  unfolding first_code
  first_read [] = refl
  first_read (c ∷ t) = read_same is_high refl refl c

  -- the marks among them are the same
  pub marks_read : (t : List ℕ) → marks_of (map (code_in e) t) ≡ marks_of t
  unfolding marks_of is_mark_code
  marks_read [] = refl
  marks_read (c ∷ t) = rw (marks_read t) (read_same (λ x. cond (is_mark_code x) (x ∷ marks_of t) (marks_of t)) refl refl c)

  -- A tape has a code for each sound and mark.
  pub tape_length : (m : List ℕ) → length (tape e m) ≡ length (sounds m)
  unfolding tape
  tape_length m = length-map (sounds m) (code_in e)

  -- The parts' tapes with the marks between them are the parts' sounds so read.
  pub joined_read : (m : List ℕ) (a : ℕ) (cuts : List ℕ) → joined_from (tape e) m a cuts ≡ map (code_in e) (joined_from sounds m a cuts)
  unfolding joined_from tape
  joined_read m a [] = refl
  joined_read m a (c ∷ cuts) = rw (map-append, mark_own, joined_read m (suc c) cuts)
