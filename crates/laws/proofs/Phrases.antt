-- Two messages with a break between them: a pause splits the tape, any break the names, since nothing crosses them; so a message's tape is
-- the tapes of its phrases with 63 between them. And accepted messages with a break between, short enough, are an accepted one.
use Rattle.laws.proofs.Kit.{ℕ, ◌<◌, ◌≤◌, ◌≡◌, refl, sym, ◌∙◌, true, false, List, [], ◌∷◌, ◌++◌, append_assoc, arith, length}
use Rattle.laws.proofs.Kit.{ap, map, eqb, eqb-true, eqb-false, ne_eqb}
use Rattle.spec.specs.Letters.{Message, last, more, read, is_break}
use mathlib.Core.List.{map-append}
use Rattle.spec.specs.{Editions.code_in, declared.Edition.Edition}
use Rattle.spec.specs.Tape.{sounds, tape, word_names, names_of, names}
use Rattle.spec.specs.Phrases.{put_byte, phrases, separated}
use Rattle.spec.specs.Tables.{among}
use Rattle.spec.specs.SpokenLevels.{Each}
use Rattle.spec.specs.Refusals.{letter_byte, first, none, row3, row4, row5, row6, row7, row8, row9, row10, rows, fits_in, before_at}
use Rattle.spec.specs.Refusals.{NoneFits}
use Rattle.spec.specs.Alphabet.{pause}
use Rattle.spec.proofs.Computed.{everything}
use Rattle.laws.proofs.Accepted.{Clear, ClearFrom, places_clear, each_place, Passes, passes_none, none_passes}
use Rattle.laws.proofs.Classes.{either, cond_both, cond_same, break_mark, break_vowel, break_sign, break_consonant}
use Rattle.laws.proofs.PartsAccepted.{Opens, rows_over, rows_after, clear_followed, last_firm}
use Rattle.laws.proofs.Stretch.{meet, read_join, segment_join}

-- A pause splits the sounds of a message,
sounds_pause : (a b : List ℕ) → sounds (a ++ (pause ∷ b)) ≡ sounds a ++ (63 ∷ sounds b)
unfolding everything
sounds_pause a b = rw (read_join a b pause refl, segment_join false false (read a) pause (read b))

-- and so its tape in an edition.
pub tape_pause : (e : Edition) (a b : List ℕ) → tape e (a ++ (pause ∷ b)) ≡ tape e a ++ (63 ∷ tape e b)
unfolding tape code_in
tape_pause e a b = ap (map (code_in e)) (sounds_pause a b) ∙ map-append (code_in e) (sounds a) (63 ∷ sounds b)

-- So the tape of phrases with pauses between them, whatever they are, is their tapes with 63 between them.
pub tape_separated : (e : Edition) (fs : List (List ℕ)) → tape e (separated pause fs) ≡ separated 63 (map (tape e) fs)
unfolding everything
tape_separated e [] = refl
tape_separated e (f ∷ []) = refl
tape_separated e (f ∷ g ∷ fs) = tape_pause e f (separated pause (g ∷ fs)) ∙ ap (λ t. tape e f ++ (63 ∷ t)) (tape_separated e (g ∷ fs))

-- A message has a phrase,
put_some : (b : ℕ) (fs : List (List ℕ)) → 0 < length (put_byte b fs)
unfolding put_byte
put_some b [] = omega arith
put_some b (f ∷ fs) = omega arith

phrases_some : (m : List ℕ) → 0 < length (phrases m)
unfolding phrases
phrases_some [] = omega arith
phrases_some (b ∷ m) = cond_both {A = List (List ℕ)} (λ fs. 0 < length fs) (eqb b pause) (omega arith) (put_some b (phrases m))

-- a byte of a phrase and a pause before phrases stand before them when they are put together,
put_separated : (b : ℕ) (fs : List (List ℕ)) → separated pause (put_byte b fs) ≡ b ∷ separated pause fs
unfolding put_byte separated
put_separated b [] = refl
put_separated b (f ∷ []) = refl
put_separated b (f ∷ g ∷ fs) = refl

pause_separated : (fs : List (List ℕ)) → 0 < length fs → separated pause ([] ∷ fs) ≡ pause ∷ separated pause fs
unfolding separated
pause_separated [] h = absurd (omega arith)
pause_separated (f ∷ fs) h = refl

-- so the message is its phrases with pauses between them,
pub phrases_message : (m : List ℕ) → separated pause (phrases m) ≡ m
unfolding phrases separated
phrases_message [] = refl
phrases_message (b ∷ m) = either (eqb b pause)
    (λ e. rw (e, pause_separated (phrases m) (phrases_some m), phrases_message m, eqb-true b pause e) refl)
    (λ e. rw (e, put_separated b (phrases m), phrases_message m) refl)

-- no phrase has a pause,
put_without : (b : ℕ) (fs : List (List ℕ)) → eqb b pause ≡ false → Each (λ f. among f pause ≡ false) fs
    → Each (λ f. among f pause ≡ false) (put_byte b fs)
unfolding put_byte among
put_without b [] e w = (rw (ne_eqb pause b (λ q. eqb-false b pause e (sym q))), tt)
put_without b (f ∷ fs) e w = (rw (ne_eqb pause b (λ q. eqb-false b pause e (sym q)), w.0), w.1)

pub phrases_without : (m : List ℕ) → Each (λ f. among f pause ≡ false) (phrases m)
unfolding phrases among
phrases_without [] = (refl, tt)
phrases_without (b ∷ m) = either (eqb b pause) (λ e. rw e (refl, phrases_without m))
    (λ e. rw e (put_without b (phrases m) e (phrases_without m)))

-- and its tape is their tapes with 63 between them.
pub phrases_tape : (e : Edition) (m : List ℕ) → tape e m ≡ separated 63 (map (tape e) (phrases m))
phrases_tape e m = ap (tape e) (sym (phrases_message m)) ∙ tape_separated e (phrases m)

-- A break of either kind splits the names.
names_meet : (a : Message) (x : ℕ) (b : Message) → names_of (meet a x b) ≡ names_of a ++ names_of b
unfolding meet names_of
names_meet (last w) x b = refl
names_meet (more w y r) x b = rw (names_meet r x b) (sym (append_assoc (word_names w) (names_of r) (names_of b)))

pub names_break : (a b : List ℕ) (x : ℕ) → is_break x ≡ true → names (a ++ (x ∷ b)) ≡ names a ++ names b
unfolding names
names_break a b x e = rw (read_join a b x e) (names_meet (read a) x (read b))

-- no row fits at a break between two bytes of which neither is a break
break_clear : (before : List ℕ) (x : ℕ) (after : List ℕ) → is_break x ≡ true → none before ≡ false → first is_break before ≡ false
    → none after ≡ false → Clear before x after
unfolding fits_in rows row3 row4 row5 row6 row7 row8 row9 row10 letter_byte
break_clear before x after d n f a k =
    rw (d, break_mark x d, break_vowel x d, break_sign x d, break_consonant x d, n, f, a) (simp cond_same)

-- clear bytes are clear behind a break, whatever stands before it
clear_over : (x t m : List ℕ) → Opens t → ClearFrom x m → ClearFrom (x ++ t) m
clear_over x t [] o c = tt
clear_over x t (b ∷ m) o c = (λ k. rows_over k x t b m o ∙ c.0 k, clear_over (b ∷ x) t m o c.1)

none_some : (t : List ℕ) → 0 < length t → none t ≡ false
unfolding none
none_some [] h = absurd (omega arith)
none_some (y ∷ t) h = refl

-- Accepted messages with a break between them: no row fits in the first, at the break and in the second.
module _ (x : ℕ) (b : List ℕ) (q : Passes b) (d : is_break x ≡ true) where
  clear_join : (before : List ℕ) (c : ℕ) (a : List ℕ) → ClearFrom before (c ∷ a) → ClearFrom before ((c ∷ a) ++ (x ∷ b))
  unfolding none first before_at
  clear_join before c [] p = (
    λ k. rows_after k before c [] (x ∷ b) d (λ e. sym (clear_followed before c [] p.0 e)) ∙ p.0 k,
    (
      break_clear (c ∷ before) x b d refl (last_firm before c [] tt p) (none_some b q.some),
      clear_over [] (x ∷ c ∷ before) b d (places_clear b q.rows b 0 refl),
    ),
  )
  clear_join before c (e ∷ a) p = (λ k. rows_after k before c (e ∷ a) (x ∷ b) d (λ _. refl) ∙ p.0 k, clear_join (c ∷ before) e a p.1)

  pub passes_join : (a : List ℕ) → Passes a → length (a ++ (x ∷ b)) ≤ 4096 → Passes (a ++ (x ∷ b))
  unfolding before_at
  passes_join [] p s = absurd (omega (arith, p.some))
  passes_join (c ∷ a) p s = record {
    some = omega arith;
    short = s;
    rows =
        λ i h. each_place ((c ∷ a) ++ (x ∷ b)) Clear _ 0 refl (clear_join [] c a (places_clear (c ∷ a) p.rows _ 0 refl)) i (omega arith) h;
  }

-- Accepted messages with a break between them, short enough, are an accepted message.
pub join_accepted : (a : List ℕ) (x : ℕ) (b : List ℕ) → NoneFits a → is_break x ≡ true → NoneFits b → length (a ++ (x ∷ b)) ≤ 4096
    → NoneFits (a ++ (x ∷ b))
join_accepted a x b f d g s =
    passes_none (a ++ (x ∷ b)) (passes_join x b (none_passes b g) d a (none_passes a f) s)
