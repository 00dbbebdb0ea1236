-- The code's table is its rule's, by one computation; and what the rule gives for a letter and a sound is the letter's code before that
-- sound, by one over all of them.
use Rattle.laws.proofs.Kit.{ℕ, ◌+◌, ◌*◌, ◌%◌, ◌<◌, ◌≤◌, ◌≡◌, refl, Bool, true, cond, not, List, [], ◌∷◌}
use Rattle.laws.proofs.Kit.{arith, eqb, leb, get_or, eqb-true, leb-true}
use Rattle.laws.proofs.Classes.{below_same, where_same, pairs_same}
use Rattle.spec.specs.{Letters.small, Letters.is_consonant, Refusals.consonant_byte, Codes.is_sound_code}
use Rattle.letters.proofs.Computed.{everything}
use Rattle.consonants.specs.declared.tables.TheConstants.{SOUNDS}
use Rattle.consonants.specs.Following.{acting, following_end, stepped, is_voiced, voices_over, following_by}
use Rattle.consonants.specs.Sounds.{consonant_code, code_before, Heard, alike, row_in, soft_row, sound_row}
use Rattle.consonants.specs.Sounds.{code_row, first_rows, sound_table}

-- every definition of what follows a letter
unfoldable follows : Unit {0}
unfolding acting following_end stepped following_by
follows = tt

-- every definition of the table
unfoldable pub table : Unit {0}
unfolding everything is_sound_code follows consonant_code alike row_in soft_row sound_row code_row first_rows sound_table
table = tt

-- the numbers of the code are the rule's
pub the_rule : SOUNDS ≡ sound_table
unfolding table
the_rule = refl

-- the rows of sounds that act alike; the table has four more
abbrev pub alike_rows : ℕ
alike_rows = 19

-- the number of a sound's row, which stands after the rows
abbrev pub row_number : List ℕ → ℕ → ℕ
row_number t s = get_or t (28 * (alike_rows + 4) + s) 0

-- that of the last row, and of the first after those of the sounds that voice
abbrev pub last_row : ℕ
last_row = 7 * (alike_rows + 3)

abbrev pub not_voicing : ℕ
not_voicing = 7 * 6

-- a sound's row begins within the table
row_low : (s : ℕ) → s < 128 → leb (row_number sound_table s) last_row ≡ true
unfolding table
row_low s h = below_same (λ x. leb (row_number sound_table x) last_row) (λ _. true) 128 s refl h

-- and the first are those of the sounds that voice
pub row_voices : (s : ℕ) → s < 64 → voices_over (following_by s) ≡ not (leb not_voicing (row_number sound_table s))
unfolding table is_voiced voices_over
row_voices s h = below_same (λ x. voices_over (following_by x)) (λ x. not (leb not_voicing (row_number sound_table x))) 64 s refl h

-- what stands in it for a letter
abbrev in_row : ℕ → ℕ → ℕ
in_row j s = get_or sound_table (row_number sound_table s * 4 + j) 0

-- is the letter's code, and that of a consonant is a sound
abbrev told : ℕ → ℕ → List Bool
told j s = eqb (in_row j s) (code_before (224 + j) s) ∷ cond (is_consonant (224 + j)) (is_sound_code (in_row j s)) true ∷ []

told_lem : (j s : ℕ) → j < 26 → s < 128 → told j s ≡ (true ∷ true ∷ [])
unfolding table
told_lem j s = pairs_same told (λ _ _. true ∷ true ∷ []) 26 128 j s refl

-- the small letter of a consonant byte is told by its last five bits
consonant_letter : (b : ℕ) → b < 256 → consonant_byte b ≡ true → (224 + b % 32 ≡ small b) × (leb (b % 32) 25 ≡ true)
unfolding everything
consonant_letter b h k = (
  where_same consonant_byte (λ x. 224 + x % 32) small 0 b refl h k,
  where_same consonant_byte (λ x. leb (x % 32) 25) (λ _. true) true b refl h k,
)

-- what the code reads of a consonant b before a sound s
pub record Read (t : List ℕ) (b s : ℕ) : Type 0 where
  pub row : row_number t s ≤ last_row
  pub code : get_or t (row_number t s * 4 + b % 32) 0 ≡ code_before (small b) s
  pub sound : is_sound_code (code_before (small b) s) ≡ true

-- that is so
pub code_read : (t : List ℕ) (b s : ℕ) → t ≡ sound_table → b < 256 → Heard b s → Read t b s
unfolding consonant_byte
code_read t b s e h k =
    let l = consonant_letter b h k.letter in
    let r = rw (l.0, k.letter) at (told_lem (b % 32) s (omega (arith, leb-true (b % 32) 25 l.1)) k.sound) in
    let c : in_row (b % 32) s ≡ code_before (small b) s = eqb-true _ _ (cc) in
    rw e (record { row = leb-true _ last_row (row_low s k.sound); code = c; sound = rw (← c) (cc) })
