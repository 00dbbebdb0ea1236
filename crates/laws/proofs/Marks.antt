-- How many codes stand before a place of a message: those that the bytes before it make, since neither bit from over a break changes their
-- number.
use Rattle.laws.proofs.Kit.{ℕ, zero, suc, ◌≡◌, refl, sym, ◌∙◌, true, false, ◌&&◌, List, [], ◌∷◌, ◌++◌, append_assoc, arith, length, take}
use Rattle.laws.proofs.Kit.{get_or, length-append, take-suc, take-length}
use Rattle.spec.specs.{Letters.read, Letters.is_gap, Letters.is_break, Codes.mark_of, Voicing.voices, Tape.segment, Tape.sounds}
use Rattle.spec.specs.{Joints.mark_index}
use Rattle.spec.proofs.Computed.{everything}
use Rattle.laws.proofs.Parts.{onward_first, tape_cut, mark_index_lem}
use Rattle.laws.specs.Parts.{Begins, onward, voiced_at}
use Rattle.laws.proofs.{Cuts.break_within, Stretch.read_join, Stretch.segment_join, Stretch.segment_length}

-- The tape of a message at place a: as many codes as counted stand before it.
pub record Stands (m : List ℕ) (a : ℕ) : Type 0 where
  pub front : List ℕ
  pub split : sounds m ≡ front ++ onward m a
  pub size : length front ≡ mark_index m a

module _ (m : List ℕ) where
  -- no code stands before the message's first place
  pub mark_first : mark_index m 0 ≡ 0
  unfolding everything
  mark_first = refl

  -- the place after a break has one code more before it: the break's mark
  pub mark_next : (c : ℕ) → is_break (get_or m c 0) ≡ true → mark_index m (suc c) ≡ suc (mark_index m c)
  unfolding everything
  mark_next c b =
      let x = get_or m c 0 in
      rw (take-suc m c 0 (break_within m c b), read_join (take c m) [] x b, segment_join)
      (simp length-append (omega (arith, segment_length false false (is_gap x && voices []) false (read (take c m)))))

  -- all codes stand before the message's end
  pub mark_last : (e : ℕ) → e ≡ length m → mark_index m e ≡ length (sounds m)
  unfolding mark_index
  mark_last e q = rw (q, take-length)

  -- the tape from place a on, and what stands before it
  pub tape_from : (a : ℕ) → Begins m a → Stands m a
  tape_from zero b = record { front = []; split = sym (onward_first m); size = sym mark_first }
  tape_from (suc c) b = record {
    front = segment false (voiced_at m c) (read (take c m)) ++ (mark_of (get_or m c 0) ∷ []);
    split = tape_cut m c b ∙ sym (append_assoc (segment false (voiced_at m c) (read (take c m))) (mark_of (get_or m c 0) ∷ [])
        (onward m (suc c)));
    size = rw (mark_next c b) (simp length-append (omega (arith, mark_index_lem m c b)));
  }
