-- The two editions of an accepted message: each sound is one that its letter makes, so where the letter is е, я or а it is ИЭ just where
-- edition 1 has Э1, and elsewhere it is no ИЭ, and both editions have the same code.
use Rattle.laws.proofs.Kit.{ℕ, ◌≡◌, refl, sym, ap, ◌∙◌, Bool, true, false, and-false, and_parts, true≢false, List, [], ◌∷◌}
use Rattle.laws.proofs.Kit.{◌++◌, ◌&&◌, map, eqb, eqb-true, length, take, append-nil, take-length, not-true, suc}
use mathlib.Core.List.{map-append}
use lib.ListN.{length-map}
use Rattle.spec.specs.Letters.{Letter, Message, last, more, read, is_gap}
use Rattle.spec.specs.Vowels.{ends_hard}
use Rattle.spec.specs.Codes.{Э1, ИЭ, mark_of, is_sound_code, is_sound}
use Rattle.spec.specs.{Tables.among, Editions.reduced, Editions.code_in, Elision.elide, Syllables.Facts, Syllables.facts_of}
use Rattle.spec.specs.{Phones.phones_from, Refusals.NoneFits}
use Rattle.spec.specs.Tape.{word_tape, segment, sounds, tape}
use Rattle.spec.specs.Joints.{mark_index, live_by_voice, is_live}
use Rattle.spec.specs.EditionDemands.{makers_from, makers_of, makers, reducing, newer, newer_of, live_in, BothEditions}
use Rattle.spec.specs.declared.Edition.TheVariants.{One, Two}
use Rattle.laws.proofs.Accepted.{none_passes}
use Rattle.laws.proofs.Classes.{either, refuted, mark_both}
use Rattle.laws.proofs.Codes.{makes, EachBy, letters_of, word_made, Spelled, Spells, part_spells}
use Rattle.laws.proofs.Counting.{letter_makers}
use Rattle.laws.proofs.Editions.{voices_from}

-- the letters of sounds are the makers of their codes
phones_makers : (hard : Bool) (facts : Facts) (p : ℕ) (w : List Letter) → letters_of (phones_from hard facts p w) ≡ makers_from p w
unfolding phones_from makers_from
phones_makers hard facts p [] = refl
phones_makers hard facts p (l ∷ w) = rw (map-append, letter_makers hard facts p l w, phones_makers false facts l.byte w)

-- edition 2 of the sound that a letter makes is the newer code of edition 1
made_reads : (b c : ℕ) → makes b c ≡ true → newer b (code_in One c) ≡ code_in Two c
unfolding makes newer code_in reduced is_sound_code
made_reads b c h = either (among reducing b)
    (λ q. rw q (either (eqb c ИЭ) (λ z. rw z) (λ z.
    rw (z, not-true (eqb c Э1) (and_parts (is_sound c) _ (rw q at h)).1))))
    (λ q. rw (q, refuted (eqb c ИЭ) (λ z. true≢false (sym (rw (q, eqb-true c ИЭ z) at h)))))

-- and so with a break's mark, whatever made it
mark_reads : (b x : ℕ) → newer b (code_in One (mark_of x)) ≡ code_in Two (mark_of x)
unfolding newer code_in
mark_reads b x = mark_both (λ c. newer b (code_in One c) ≡ code_in Two c) x (rw and-false) (rw and-false)

-- The sounds t and their makers bs: edition 2 is the newer of edition 1, and each sound has its maker.
record Newer (bs t : List ℕ) : Type 0 where
  differ : newer_of bs (map (code_in One) t) ≡ map (code_in Two) t
  made : length bs ≡ length t

-- with one more sound before them
newer_more : {b c : ℕ} {bs t : List ℕ} → newer b (code_in One c) ≡ code_in Two c → Newer bs t → Newer (b ∷ bs) (c ∷ t)
unfolding newer_of
newer_more r n = record { differ = rw (r, n.differ); made = ap suc n.made }

-- with sounds before them that their letters make
newer_made : (bs t ds u : List ℕ) → EachBy makes bs t → Newer ds u → Newer (bs ++ ds) (t ++ u)
newer_made [] [] ds u s n = n
newer_made [] (c ∷ t) ds u s n = absurd s
newer_made (b ∷ bs) [] ds u s n = absurd s
newer_made (b ∷ bs) (c ∷ t) ds u s n = newer_more (made_reads b c s.0) (newer_made bs t ds u s.1 n)

-- so with a word's
newer_word : (hard next : Bool) (w : List Letter) (ds u : List ℕ) → Spelled w → Newer ds u
    → Newer (makers_from 0 (elide w) ++ ds) (word_tape hard next w ++ u)
newer_word hard next w ds u s n =
    rw (← phones_makers hard (facts_of w) 0 (elide w))
    (newer_made (letters_of (phones_from hard (facts_of w) 0 (elide w))) (word_tape hard next w) ds u (word_made hard next w s) n)

-- and with a stretch of a message, whatever stands around it
segment_newer : (hard next : Bool) (r : Message) → Spells r → Newer (makers_of r) (segment hard next r)
unfolding segment makers_of newer_of
segment_newer hard next (last w) s =
    rw (append-nil (makers_from 0 (elide w)), append-nil (word_tape hard next w)) at (newer_word hard next w [] [] s
    (record { differ = refl; made = refl }))
segment_newer hard next (more w x r) s =
    newer_word hard _ w _ _ s.0 (newer_more (mark_reads x x) (segment_newer (is_gap x && ends_hard w) next r s.1))

-- What holds of both editions of an accepted message.
pub both_editions : (m : List ℕ) → NoneFits m → BothEditions m
unfolding makers tape sounds live_in is_live live_by_voice mark_index
both_editions m f =
    let n = segment_newer false false (read m) (rw take-length at (part_spells m (none_passes m f) 0 (length m))) in
    record {
      made = n.made ∙ sym (length-map (sounds m) (code_in One));
      lengths = length-map (sounds m) (code_in Two) ∙ sym (length-map (sounds m) (code_in One));
      differ = sym n.differ;
      live = λ e c. rw (length-map (sounds (take c m)) (code_in e), voices_from e);
    }
