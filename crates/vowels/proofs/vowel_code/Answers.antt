-- Each arm is its letter's row, small or capital, and the sound of another vowel than а, е and я is its own code; another byte has no
-- sound.
use Rattle.laws.proofs.Kit.{ℕ, ◌≡◌, refl, sym, ◌∙◌, Bool, true, false, cond, ◌⊎◌, ⊎_elim, arith, rules, List, [], ◌∷◌}
use Rattle.std.proofs.lemmas.Bool.Decides.{nat_tests}
use Rattle.spec.specs.{Letters.small, Letters.is_vowel, Editions.code_in, EditionDemands.reducing, Tables.among, Vowels.vowel_sound}
use Rattle.laws.proofs.Codes.{vowel_own}
use Rattle.laws.proofs.Classes.{below_same}
use Rattle.letters.proofs.Computed.{everything}
use Rattle.vowels.specs.VowelSounds.{hard_before}
use Rattle.vowels.proofs.vowel_code.Goals as goal
use Rattle.vowels.proofs.vowel_code.Goals.{Start}

-- whether a hard boundary stands before the vowel
abbrev hard : Start → Bool
hard c = hard_before c.args.place.message.now c.args.place.index

module _ (c : Start) (q : ℕ) {x y r : ℕ} (is : c.args.b ≡ x ⊎ c.args.b ≡ y) (same : small x ≡ small y) where
  -- an arm's letter, small or capital, has the code of its row
  read : r ≡ code_in c.args.e (vowel_sound (hard c) q c.args.s (small x))
      → r ≡ code_in c.args.e (vowel_sound (hard c) q c.args.s (small c.args.b))
  read h = let f : small c.args.b ≡ small x = ⊎_elim (λ e. rw e) (λ e. rw e (sym same)) is in rw f h

  -- which of another vowel than а, е and я is its sound
  own : is_vowel (small x) ≡ true → among reducing (small x) ≡ false → r ≡ vowel_sound (hard c) q c.args.s (small x)
      → r ≡ code_in c.args.e (vowel_sound (hard c) q c.args.s (small c.args.b))
  own v n h = read (h ∙ sym (vowel_own c.args.e (hard c) q c.args.s (small x) v n))

-- the letters of the arms
abbrev keys : List ℕ
keys =
    0xC0 ∷ 0xE0 ∷ 0xCE ∷ 0xEE ∷ 0xD3 ∷ 0xF3 ∷ 0xDB ∷ 0xFB ∷ 0xDD ∷ 0xFD ∷ 0xC5 ∷ 0xE5 ∷ 0xA8 ∷ 0xB8 ∷ 0xDE ∷ 0xFE ∷ 0xDF ∷ 0xFF ∷ 0xC8
    ∷ 0xE8 ∷ []

pub returns-in_default : goal.returns-in_default
unfolding everything
returns-in_default c q t =
    let other : among keys c.args.b ≡ false = search (rules, nat_tests) in
    let code : ℕ → ℕ = λ x. code_in c.args.e (vowel_sound (hard (goal.at.returns-in_default c).Start) q c.args.s (small x)) in
    sym (rw other at (below_same (λ x. cond (among keys x) 0 (code x)) (λ _. 0) 256 c.args.b refl (omega (arith, c.ranges.b))))

pub returns-in-238 : goal.returns-in-238
unfolding everything
returns-in-238 c q t =
    own (goal.at.returns-in-238 c).Start q c.in-238.is refl refl refl
    (c.row_o.ensures q (rw c.letter_before-in-238.ensures t))

pub returns-in-243 : goal.returns-in-243
unfolding everything
returns-in-243 c q t = own (goal.at.returns-in-243 c).Start q c.in-243.is refl refl refl c.by_stress.ensures

pub returns-in-251 : goal.returns-in-251
unfolding everything
returns-in-251 c q t = own (goal.at.returns-in-251 c).Start q c.in-251.is refl refl refl c.by_stress-in-251.ensures

pub returns-in-253 : goal.returns-in-253
unfolding everything
returns-in-253 c q t =
    own (goal.at.returns-in-253 c).Start q c.in-253.is refl refl refl
    (rw c.hard_before.ensures at (c.row_e.ensures q (rw c.letter_before-in-253.ensures t)))

pub returns-in-229 : goal.returns-in-229
unfolding everything
returns-in-229 c q t = read (goal.at.returns-in-229 c).Start q c.in-229.is refl (c.row_ie.ensures q (rw c.letter_before-in-229.ensures t))

pub returns-in-254 : goal.returns-in-254
unfolding everything
returns-in-254 c q t = own (goal.at.returns-in-254 c).Start q c.in-254.is refl refl refl c.by_stress-in-254.ensures

pub returns-in-255 : goal.returns-in-255
unfolding everything
returns-in-255 c q t = read (goal.at.returns-in-255 c).Start q c.in-255.is refl (c.row_ya.ensures q (rw c.letter_before-in-255.ensures t))

pub returns-in-232 : goal.returns-in-232
unfolding everything
returns-in-232 c q t =
    own (goal.at.returns-in-232 c).Start q c.in-232.is refl refl refl
    (rw c.hard_before-in-232.ensures at (c.row_i.ensures q (rw c.letter_before-in-232.ensures t)))
