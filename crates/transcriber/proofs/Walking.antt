-- The walk from the right, one byte at a time: what a break, a mark and a letter put on the tape, and what then stands right of their place.
use Rattle.laws.proofs.Kit.{ℕ, suc, ◌+◌, ◌%◌, ◌<◌, ◌≤◌, arith, ◌≡◌, refl, sym, ap, ◌∙◌, Bool, true, false, cond, ◌&&◌, not, true≢false}
use Rattle.laws.proofs.Kit.{List, [], ◌∷◌, ◌++◌, map, eqb, length, get_or, le-leb, lt-leb, ne_eqb}
use Rattle.spec.specs.Letters.{small, first_byte, is_break, is_gap, is_mark}
use lib.ListN.{length-map}
use Rattle.spec.specs.{Vowels.vowel_sound, Vowels.glides, Editions.code_in, declared.Edition.Edition}
use Rattle.spec.specs.Codes.{J, mark_of, is_sound_code, is_sound}
use Rattle.spec.specs.{Phones.softens, Refusals.vowel_byte, Refusals.sign_byte, Refusals.consonant_byte, declared.Level.Level}
use Rattle.letters.specs.Classes.{class_of, is_break_class, is_sign_class, is_consonant_class, is_vowel_class, is_softening_class}
use Rattle.letters.specs.Classes.{elided_at}
use Rattle.letters.specs.Classes.{pause_class, soft_sign_class}
use Rattle.letters.specs.Places.{last_at, Steady, letter_of, word_at}
use Rattle.letters.proofs.Left.{mark_within, word_letter, word_mark, word_break, word_end}
use Rattle.letters.proofs.{Bytes.by_class, Computed.everything, Silent.class_spoken, Silent.elided_at_lem}
use Rattle.laws.proofs.Editions.{read_same, sound_code, own_code, mark_own}
use Rattle.laws.proofs.{Classes.cond_same, Classes.where_same, Codes.vowel_makes, Codes.made_sound, MarkIndex.sound_range, Putting.put_none}
use Rattle.laws.proofs.{Classes.below}
use Rattle.laws.specs.Putting.{Put}
use Rattle.letters.specs.Filling.{MayStep}
use Rattle.consonants.specs.Following.{Following, acting, following_end, stepped, put_before, voices_over, following_by}
use Rattle.consonants.specs.Sounds.{consonant_code, Tells, code_before, Heard, sound_table}
use Rattle.vowels.specs.VowelSounds.{vowel_codes, VowelAt, Sung, sung_codes}
use Rattle.transcriber.specs.{Fused.letter_codes, declared.Right.Right}
use Rattle.stress.specs.{Places.hard_at, Places.syllable_at, declared.LevelRun.LevelRun}
use Rattle.transcriber.specs.Places.{tape_at, following_at, codes_at}
use Rattle.transcriber.specs.Walk.{Stands, begun_of, piece_at, Ready, ReadyFor, Stepped, SteppedAlike}
use Rattle.stress.specs.Levels.{counted_by, numbered, end_run, step_over, StepDue, LookDue, Looked}
use Rattle.vowels.specs.declared.Vowel.{Vowel}
use Rattle.stress.proofs.Levelling.{levels_found, levels_due, levels_over, break_due, levels_break, levels_end, levels_turn}
use Rattle.consonants.proofs.SoundTable.{code_read}
use Rattle.transcriber.proofs.Tail.{tape_letter, tape_mark, tape_break}
use Rattle.transcriber.proofs.Tail.{following_letter, following_mark, following_break, following_end_lem}

-- 64 more can be told from less
tells : (n : ℕ) (soft : Bool) → n < 64 → Tells (n + cond soft 64 0) soft (following_by n)
tells n true h = record { low = omega arith; soft = le-leb 64 (n + 64) (omega arith); follows = ap following_by (omega arith) }
tells n false h = record { low = omega arith; soft = lt-leb 64 (n + 0) (omega arith); follows = ap following_by (omega arith) }

-- what stands right of a letter, seen over it
tells_over : {s : ℕ} {x : Bool} {f : Following} (soft : Bool) → Tells s x f → Tells (s % 64 + cond soft 64 0) soft f
tells_over {s} soft h = rw h.follows at (tells (s % 64) soft (omega arith))

-- a sound's code, whatever comes after it
tells_code : (c : ℕ) (soft : Bool) (f : Following) → is_sound_code c ≡ true → Tells (c + cond soft 64 0) soft (stepped c f)
unfolding following_by stepped
tells_code c soft f h =
    let r = sound_range c h in
    rw (ne_eqb c 57 (λ e. omega arith), ne_eqb c 0 (λ e. omega arith)) at (tells c soft (omega arith))

-- and of a sound that two editions read apart either code, since a vowel does nothing to the sound before it
code_acts : (e : Edition) (c : ℕ) (f : Following) → stepped (code_in e c) f ≡ stepped c f
unfolding everything stepped acting
code_acts e c f = read_same e (λ x. stepped x f) refl refl c

tells_sound : (e : Edition) (c : ℕ) (soft : Bool) (f : Following) → is_sound c ≡ true
    → Tells (code_in e c + cond soft 64 0) soft (stepped c f)
tells_sound e c soft f h = rw (code_acts e c f) at (tells_code (code_in e c) soft f (sound_code e c h))

-- the two ends of a word
tells_end : (voices : Bool) → Tells (cond voices 57 0) false (following_end voices)
unfolding following_by
tells_end true = tells 57 false (omega arith)
tells_end false = tells 0 false (omega arith)

-- no letter softens nothing
none_softens : softens (first_byte []) ≡ false
unfolding everything
none_softens = refl

-- a break's mark is told by its class
break_code : (b : ℕ) → b < 256 → is_break b ≡ true → mark_of b ≡ cond (eqb (class_of b) pause_class) 63 0
unfolding everything
break_code b = where_same is_break mark_of (λ x. cond (eqb (class_of x) pause_class) 63 0) 0 b refl

-- and whether it is a gap
break_gap : (b : ℕ) → b < 256 → is_break b ≡ true → is_gap b ≡ not (eqb (class_of b) pause_class)
unfolding everything
break_gap b = where_same is_break is_gap (λ x. not (eqb (class_of x) pause_class)) true b refl

-- What is known of the byte of a letter: it is no break and no mark, but a sign or not, a vowel or not, and softens the letter before it or not
pub record Spelt (b : ℕ) (sign vowel soft : Bool) : Type 0 where
  pub break : is_break b ≡ false
  pub mark : is_mark b ≡ false
  pub sounds : sign_byte b ≡ sign
  pub sings : vowel_byte b ≡ vowel
  pub softening : softens (small b) ≡ soft

module _ {test : ℕ → Bool} {m out : List ℕ} {i c : ℕ} {r : Right} (a : ReadyFor test m out i c r) where
  -- the byte's own test, which its class tells
  tested : test (class_of (get_or m i 0)) ≡ true
  tested = ap test (sym a.class) ∙ a.kind

  -- of every byte whose class passes a test, by one computation
  spelt_by : (s v : Bool) (soft : ℕ → Bool)
      → map (λ x. cond (test (class_of x)) (is_break x ∷ is_mark x ∷ sign_byte x ∷ vowel_byte x ∷ softens (small x) ∷ []) []) (below 256)
      ≡ map (λ x. cond (test (class_of x)) (false ∷ false ∷ s ∷ v ∷ soft (class_of x) ∷ []) []) (below 256)
      → Spelt (get_or m i 0) s v (soft c)
  spelt_by s v soft t =
      let e = where_same (λ x. test (class_of x)) (λ x. is_break x ∷ is_mark x ∷ sign_byte x ∷ vowel_byte x ∷ softens (small x) ∷ []) (λ x. false ∷ false ∷ s ∷ v ∷ soft (class_of x) ∷ []) [] (get_or m i 0) t (a.ready.steady.bytes i) tested in
      rw a.class (record { break = cc; mark = cc; sounds = cc; sings = cc; softening = cc })

module _ (m : List ℕ) (steady : Steady m) (i : ℕ) (h : i < length m) where
  -- each byte's piece stands before the rest's tape
  pub piece_step : tape_at m i ≡ piece_at m i ++ tape_at m (suc i)
  unfolding piece_at
  piece_step = by (is_break (get_or m i 0)) refl (is_mark (get_or m i 0)) refl
    where
      by : (s : Bool) → is_break (get_or m i 0) ≡ s → (k : Bool) → is_mark (get_or m i 0) ≡ k
          → tape_at m i ≡ cond s (mark_of (get_or m i 0) ∷ []) (cond k [] (codes_at m i)) ++ tape_at m (suc i)
      by true s k e = tape_break m steady i h s
      by false s true e = tape_mark m steady i h e
      by false s false e = tape_letter m steady i h s e

  -- a silent letter puts nothing
  codes_silent : {s v x : Bool} → Spelt (get_or m i 0) s v x → elided_at m i ≡ true → codes_at m i ≡ []
  unfolding codes_at letter_codes letter_of
  codes_silent p e = rw (elided_at_lem m steady i h p.break p.mark, e)

  -- nor does a sign
  codes_sign : {v x : Bool} → Spelt (get_or m i 0) true v x → codes_at m i ≡ []
  unfolding codes_at letter_codes letter_of sign_byte
  codes_sign p = rw (p.sounds, cond_same)

  -- of those that are heard a vowel puts its sound, and the glide before it where it has one, and a consonant its code
  codes_heard : {v x : Bool} → Spelt (get_or m i 0) false v x → elided_at m i ≡ false
      → codes_at m i
      ≡ cond v (vowel_codes (hard_at m i) (last_at m i) (small (get_or m i 0)) (syllable_at m i))
      (consonant_code (small (get_or m i 0)) (softens (first_byte (word_at m (suc i)))) (following_at m (suc i)) ∷ [])
  unfolding codes_at letter_codes letter_of sign_byte vowel_byte
  codes_heard p e = rw (elided_at_lem m steady i h p.break p.mark, e, p.sounds, p.sings)

module _ {m out : List ℕ} {i : ℕ} {r : Right} (a : Ready m out i r) where
  -- there is room for a letter's codes
  letter_room : {s v x : Bool} {codes : List ℕ} → Spelt (get_or m i 0) s v x → codes_at m i ≡ codes → length codes ≤ r.at
  unfolding piece_at
  letter_room p e = rw (p.break, p.mark, e) at a.room

  -- the levels' step may be taken over the byte
  pub run_ready : StepDue r.levels (get_or m i 0)
  run_ready = levels_due a.steady a.within a.stands.levels

  -- a letter has put its codes, and left of it stands the same word with these sounds and this letter first
  letter_steps : (ed : Edition) {s v x : Bool} {out' codes : List ℕ} {at sound : ℕ} {l : LevelRun} → Spelt (get_or m i 0) s v x
      → codes_at m i ≡ codes
      → Tells sound x (put_before codes (following_at m (suc i))) → l ≡ step_over r.levels (get_or m i 0)
      → Put (map (code_in ed) codes) out out' r.at at
      → Stepped ed m out out' i r (record { at = at; sound = sound; levels = l })
  unfolding piece_at first_byte letter_of
  letter_steps ed p e t l q =
      let y = a.steady in
      let h = a.within in
      record {
        stands = record {
          sound = rw (following_letter m y i h p.break p.mark, e, word_letter m y i h p.break p.mark, p.softening) t;
          levels = rw l (levels_over m y i h a.stands.levels p.break);
        };
        put = rw (p.break, p.mark, e) q;
      }

  -- a letter that is not heard puts nothing
  silent_steps : {s x : Bool} {seen : ℕ} {l : LevelRun} → Spelt (get_or m i 0) s false x → codes_at m i ≡ []
      → seen ≡ r.sound % 64 + cond x 64 0 → l ≡ step_over r.levels (get_or m i 0)
      → SteppedAlike m out out i r (record { at = r.at; sound = seen; levels = l })
  silent_steps {x = x} p e n l ed = rw n (letter_steps ed p e (tells_over x a.stands.sound) l (put_none out r.at))

  -- nor does a mark
  pub mark_steps : {l : LevelRun} → is_mark (get_or m i 0) ≡ true → l ≡ step_over r.levels (get_or m i 0)
      → SteppedAlike m out out i r (record { at = r.at; sound = r.sound; levels = l })
  unfolding piece_at
  mark_steps k l ed =
      let y = a.steady in
      let h = a.within in
      let b = mark_within (get_or m i 0) k in
      record {
        stands = record {
          sound = rw (following_mark m y i h k, word_mark m y i h k) a.stands.sound;
          levels = rw l (levels_over m y i h a.stands.levels b);
        };
        put = rw (b, k) (put_none out r.at);
      }

-- of the signs only ь softens
spelt_sign : {m out : List ℕ} {i c : ℕ} {r : Right} → ReadyFor is_sign_class m out i c r → Spelt (get_or m i 0) true false (eqb c soft_sign_class)
unfolding everything
spelt_sign a = spelt_by a true false (λ x. eqb x 5) refl

-- they are not heard
pub sign_steps : {m out : List ℕ} {i c seen : ℕ} {r : Right} {l : LevelRun} → ReadyFor is_sign_class m out i c r
    → seen ≡ r.sound % 64 + cond (eqb c soft_sign_class) 64 0 → l ≡ step_over r.levels (get_or m i 0)
    → SteppedAlike m out out i r (record { at = r.at; sound = seen; levels = l })
sign_steps {m} {i = i} a = silent_steps a.ready (spelt_sign a) (codes_sign m a.ready.steady i a.ready.within (spelt_sign a))

module _ {m out : List ℕ} {i c : ℕ} {r : Right} (a : ReadyFor is_break_class m out i c r) where
  breaks : is_break (get_or m i 0) ≡ true
  breaks = (by_class (get_or m i 0) (a.ready.steady.bytes i)).break ∙ tested a

  -- there is room for a break's mark
  pub break_room : 0 < r.at
  unfolding piece_at
  break_room = rw breaks at a.ready.room

  -- the levels' step may be taken ahead of it
  pub break_looks : {l : LevelRun} → l ≡ step_over r.levels (get_or m i 0) → LookDue m i l
  break_looks l = rw l (break_due m a.ready.steady i a.ready.within a.ready.stands.levels breaks)

  -- it has put it, and left of it stands another word
  pub break_steps : {out' : List ℕ} {at sound : ℕ} {l q : LevelRun} (pause : Bool) → eqb c pause_class ≡ pause
      → sound ≡ cond (not pause && voices_over (following_by (r.sound % 64))) 57 0
      → l ≡ step_over r.levels (get_or m i 0) → Looked m i l q → Put (cond pause 63 0 ∷ []) out out' r.at at
      → SteppedAlike m out out' i r (record { at = at; sound = sound; levels = q })
  unfolding piece_at
  break_steps pause k t l e q ed =
      let y = a.ready.steady in
      let h = a.ready.within in
      let b = breaks in
      let x = rw a.class at k in
      let g = break_gap (get_or m i 0) (y.bytes i) b in
      record {
        stands = record {
          sound = rw (following_break m y i h b, word_break m y i h b, none_softens, g, x, t, a.ready.stands.sound.follows)
              (tells_end (not pause && voices_over (following_at m (suc i))));
          levels = levels_break m y i h a.ready.stands.levels b (rw l at e);
        };
        put = rw (b, mark_own ed (get_or m i 0), break_code (get_or m i 0) (y.bytes i) b, x) q;
      }

module _ {m out : List ℕ} {i c : ℕ} {r : Right} (a : ReadyFor is_consonant_class m out i c r) where
  -- the byte is a consonant
  consonant : consonant_byte (get_or m i 0) ≡ true
  consonant = (by_class (get_or m i 0) (a.ready.steady.bytes i)).consonant ∙ tested a

  -- no consonant softens
  spelt : Spelt (get_or m i 0) false false false
  unfolding everything
  spelt = spelt_by a false false (λ _. false) refl

  -- its code can be read
  pub consonant_before : Heard (get_or m i 0) r.sound
  consonant_before = record { letter = consonant; sound = a.ready.stands.sound.low }

  -- a silent one is not heard
  pub elided_steps : {seen : ℕ} {l : LevelRun} → elided_at m i ≡ true → seen ≡ r.sound % 64 + 0 → l ≡ step_over r.levels (get_or m i 0)
      → SteppedAlike m out out i r (record { at = r.at; sound = seen; levels = l })
  elided_steps e n l = silent_steps a.ready spelt (codes_silent m a.ready.steady i a.ready.within spelt e) n l

  module _ {code : ℕ} (heard : elided_at m i ≡ false) (coded : code ≡ code_before (small (get_or m i 0)) r.sound) where
    -- another puts its code
    codes : codes_at m i ≡ code ∷ []
    codes =
        let s = a.ready.stands.sound in
        codes_heard m a.ready.steady i a.ready.within spelt heard ∙ rw (coded, s.soft, s.follows)

    -- for which there is room
    pub consonant_room : 0 < r.at
    consonant_room = letter_room a.ready spelt codes

    -- and which is what stands right of the letter before
    pub consonant_steps : {out' : List ℕ} {at : ℕ} {l : LevelRun} → l ≡ step_over r.levels (get_or m i 0)
        → Put (code ∷ []) out out' r.at at
        → SteppedAlike m out out' i r (record { at = at; sound = code; levels = l })
    consonant_steps l q ed =
        let x : is_sound_code code ≡ true = rw coded
        (code_read sound_table (get_or m i 0) r.sound refl (a.ready.steady.bytes i) consonant_before).sound in
        let z : code + 0 ≡ code = omega arith in
        letter_steps a.ready ed spelt codes (rw z at (tells_code code false (following_at m (suc i)) x)) l (rw (own_code ed code x) q)

module _ {m out : List ℕ} {i c : ℕ} {r : Right} (a : ReadyFor is_vowel_class m out i c r) where
  -- of the vowels the highest classes soften
  vowel_spelt : Spelt (get_or m i 0) false true (is_softening_class c)
  unfolding everything
  vowel_spelt = spelt_by a false true is_softening_class refl

  -- a vowel may be sung where a step may be taken
  pub vowel_ready : {n : Level} → n ≡ numbered (counted_by r.levels.since r.levels.marked) → VowelAt m i c n
  vowel_ready e =
      let y = a.ready.steady in
      let h = a.ready.within in
      record { within = h; steady = y; class = a.class; level = e ∙ levels_found m y i h a.ready.stands.levels vowel_spelt.break }

  -- its sound, and with the glide where it has one
  abbrev vowel : ℕ
  vowel = vowel_sound (hard_at m i) (last_at m i) (syllable_at m i) (small (get_or m i 0))

  abbrev sung : List ℕ
  sung = vowel_codes (hard_at m i) (last_at m i) (small (get_or m i 0)) (syllable_at m i)

  sung_heard : codes_at m i ≡ sung
  sung_heard =
      let t = a.ready.steady.bytes i in
      let e = class_spoken m i t (λ e. true≢false (sym vowel_spelt.sings ∙ (by_class (get_or m i 0) t).vowel ∙ ap is_vowel_class e)) in
      codes_heard m a.ready.steady i a.ready.within vowel_spelt e

  module _ {ed : Edition} {v : Vowel} (s : Sung ed m i v) where
    -- its codes
    sung_codes_lem : map (code_in ed) sung ≡ sung_codes v
    unfolding vowel_codes is_sound_code
    sung_codes_lem = rw (s.code, s.glide) (by (glides (last_at m i) (syllable_at m i).cover (small (get_or m i 0))))
      where
        by : (g : Bool) → map (code_in ed) (cond g (J ∷ vowel ∷ []) (vowel ∷ [])) ≡ cond g (J ∷ code_in ed vowel ∷ []) (code_in ed vowel ∷ [])
        by true = rw (own_code ed J refl)
        by false = refl

    -- for which there is room
    pub vowel_room : length (sung_codes v) ≤ r.at
    vowel_room = omega (arith, letter_room a.ready vowel_spelt sung_heard, ap length sung_codes_lem, length-map sung (code_in ed))

    -- their first is what stands right of the letter before
    first_tells : (soft : Bool) (f : Following) → Tells (cond v.glide J v.code + cond soft 64 0) soft (put_before sung f)
    unfolding vowel_byte vowel_codes is_sound_code
    first_tells soft f = rw (s.code, s.glide) (by (glides (last_at m i) (syllable_at m i).cover (small (get_or m i 0))))
      where
        by : (g : Bool) → Tells (cond g J (code_in ed vowel) + cond soft 64 0) soft (put_before (cond g (J ∷ vowel ∷ []) (vowel ∷ [])) f)
        by true = tells_code J soft _ refl
        by false = tells_sound ed vowel soft f (made_sound _ vowel (vowel_makes _ _ _ (small (get_or m i 0)) vowel_spelt.sings))

    pub vowel_steps : {out' : List ℕ} {at first seen : ℕ} {l : LevelRun} → first ≡ cond v.glide J v.code
        → seen ≡ first + cond (is_softening_class c) 64 0
        → l ≡ step_over r.levels (get_or m i 0) → Put (sung_codes v) out out' r.at at
        → Stepped ed m out out' i r (record { at = at; sound = seen; levels = l })
    vowel_steps f e l q = letter_steps a.ready ed vowel_spelt sung_heard (rw (e, f) (first_tells _ _)) l (rw sung_codes_lem q)

-- what stands right of the message's end
pub stands_end : {m : List ℕ} → Steady m → {n : ℕ} {l : LevelRun} → Looked m (length m) (end_run 0 0 false) l
    → Stands m (length m) (record { at = n; sound = 0; levels = l })
stands_end {m} steady e = record {
  sound = rw (following_end_lem m steady, word_end m steady, none_softens) (tells_end false);
  levels = levels_end steady e;
}

-- where a turn begins the same stands right of the place
stands_begun : {m : List ℕ} {i : ℕ} {r : Right} → Stands m i r → Stands m i (begun_of r)
stands_begun s = record { sound = s.sound; levels = levels_turn s.levels }

-- there is as much room for a piece's codes as for its sounds and marks
pub ready_read : (e : Edition) {m out : List ℕ} {i : ℕ} {r : Right}
    → MayStep (λ j. Stands m j r) (map (code_in e) (piece_at m i)) m out i r.at → Ready m out i r
ready_read e {m} {i = i} y = record {
  within = y.within;
  steady = y.steady;
  stands = y.stands;
  room = omega (arith, y.room, length-map (piece_at m i) (code_in e));
  place = y.place;
}

-- where a turn begins the byte at the place may be stepped to as before
pub ready_begun : {m out : List ℕ} {i : ℕ} {r : Right} → Ready m out i r → Ready m out i (begun_of r)
ready_begun y = record { within = y.within; steady = y.steady; stands = stands_begun y.stands; room = y.room; place = y.place }
