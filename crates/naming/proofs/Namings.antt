-- The naming's walk from the right: each byte settles the names that the definition gives it, and what stands right of it is told by what
-- stood right of the next one.
use Rattle.laws.proofs.Kit.{ℕ, suc, ◌<◌, ◌≡◌, refl, ap, ◌∙◌, Bool, true, false, List, [], ◌∷◌, ◌++◌, arith, length, get_or}
use Rattle.spec.specs.{Letters.is_break, Refusals.vowel_byte, Syllables.incomplete, Syllables.name_of, declared.Level.Level}
use Rattle.letters.specs.{Classes.class_of, Classes.is_vowel_class, Places.last_at, Places.Steady}
use Rattle.letters.proofs.Bytes.{by_class, vowel_break}
use Rattle.laws.proofs.Putting.{put_none, put_length, put_again}
use Rattle.laws.specs.Putting.{Put}
use Rattle.stress.specs.{declared.LevelRun.LevelRun, Before.class_before, Before.syllable_by}
use Rattle.naming.specs.Names.{names_at, name_piece, NameReady, Named, NamesDue, WordEnd}
use Rattle.naming.specs.declared.NameState.{NameState}
use Rattle.stress.specs.Levels.{counted_by, numbered, end_run, step_over, Looked, LevelsAt}
use Rattle.stress.proofs.Levelling.{levels_found, levels_over, levels_break, levels_end}
use Rattle.naming.proofs.Names.{names_start, names_end, names_vowel, names_other, names_break}
use Rattle.letters.proofs.Filling.{Pieces, pieces_part, Writing}
use Rattle.stress.proofs.Raw.{syllable_raw}

-- the names from a place on are those that its byte settles and the rest's
name_step : (m : List ℕ) → Steady m → (i : ℕ) → i < length m → names_at m i ≡ name_piece m i ++ names_at m (suc i)
unfolding name_piece
name_step m steady i h = by (is_break (get_or m i 0)) refl (vowel_byte (get_or m i 0)) refl
  where
    by : (s : Bool) → is_break (get_or m i 0) ≡ s → (v : Bool) → vowel_byte (get_or m i 0) ≡ v
        → names_at m i ≡ name_piece m i ++ names_at m (suc i)
    by true s v e = rw s (names_break m steady i h s)
    by false s true v = rw (s, v) (names_vowel m steady i h v)
    by false s false v = rw (s, v) (names_other m steady i h s v)

module _ {m out : List ℕ} {i : ℕ} {v : NameState} (ready : NameReady m out i v) where
  module _ (c : is_vowel_class (class_of (get_or m i 0)) ≡ true) where
    -- a vowel settles its syllable's name
    pub vowel_piece : {n : Level} → n ≡ numbered (counted_by v.levels.since v.levels.marked)
        → name_piece m i ≡ name_of (syllable_by (class_before m i) n) ∷ []
    unfolding name_piece
    vowel_piece e =
        let k : vowel_byte (get_or m i 0) ≡ true = (by_class (get_or m i 0) (ready.steady.bytes i)).vowel ∙ c in
        let b = vowel_break (get_or m i 0) (ready.steady.bytes i) k in
        rw (b, k, syllable_raw m ready.steady i ready.within, e ∙ levels_found m ready.steady i ready.within ready.stands b)

    -- which finds room
    pub vowel_room : 0 < v.at
    vowel_room = omega (arith, ready.room, ap length (vowel_piece refl))

  -- another byte of a word settles none
  pub other_piece : is_break (get_or m i 0) ≡ false → vowel_byte (get_or m i 0) ≡ false → Put (name_piece m i) out out v.at v.at
  unfolding name_piece
  other_piece b k = rw (b, k) (put_none out v.at)

  -- the name is put, and the run goes on over the byte
  pub named_within : {out' : List ℕ} {at : ℕ} {q : LevelRun} → is_break (get_or m i 0) ≡ false → q ≡ step_over v.levels (get_or m i 0)
      → Put (name_piece m i) out out' v.at at
      → Named m out out' i v (record { at = at; levels = q })
  named_within b e p = record { stands = rw e (levels_over m ready.steady i ready.within ready.stands b); put = p }

  module _ (b : is_break (get_or m i 0) ≡ true) where
    -- at a break a word ends
    pub word_ends : WordEnd m out i v.at
    unfolding name_piece
    word_ends = record { within = omega (arith, ready.within); steady = ready.steady; room = rw b at ready.room; place = ready.place }

    -- it puts the name of an incomplete syllable
    pub named_break : {out' : List ℕ} {at : ℕ} {q : LevelRun} → Put (incomplete (last_at m i)) out out' v.at at
        → Looked m i (step_over v.levels (get_or m i 0)) q
        → Named m out out' i v (record { at = at; levels = q })
    unfolding name_piece
    named_break p a = record { stands = levels_break m ready.steady i ready.within ready.stands b a; put = rw b p }

module _ {m out : List ℕ} {n : ℕ} (due : NamesDue m out n) where
  -- each byte's names stand before the rest's, and all are n
  names_pieces : Pieces m (names_at m) (name_piece m) n
  names_pieces =
      let y = due.steady in
      record { steady = y; step = name_step m y; whole = omega (arith, ap length (names_start m y), due.total) }

  -- there is room for an incomplete syllable's name at the end
  pub end_ends : WordEnd m out (length m) n
  end_ends = record {
    within = omega arith;
    steady = due.steady;
    room = omega (arith, pieces_part names_pieces (length m) (omega arith), ap length (names_end m due.steady));
    place = due.room;
  }

  -- where the walk begins
  pub naming_none : {out' : List ℕ} {at : ℕ} {q : LevelRun} → Looked m (length m) (end_run 0 0 false) q
      → Put (incomplete (last_at m (length m))) out out' n at
      → Writing (λ j. LevelsAt m j q) m (names_at m) (name_piece m) n out' out' n (length m) at
  naming_none e p =
      let y = due.steady in
      record {
        pieces = names_pieces;
        stands = levels_end y e;
        within = omega arith;
        room = omega arith;
        place = omega (arith, put_length _ _ _ _ _ due.room p, due.room);
        put = rw (names_end m y) (put_again _ _ _ _ _ due.room p);
      }
