-- How the check walks a message: a kind for what stands before a byte, and a table of what a kind
-- and a class come to. These are not the paper's words: `proofs/` shows that they agree with them.
-- Assumes nothing: these are definitions.
use Rattle.std.specs.Prelude.{ℕ, zero, suc, ◌+◌, ◌-◌, ◌*◌, ◌/◌, ◌%◌, ◌≤◌, ◌<◌, ◌≡◌, Bool, cond}
use Rattle.std.specs.Prelude.{◌&&◌, ◌||◌, List, eqb, length, get_or, Result, Ok, Err}
use Rattle.spec.specs.Numbers.{unknown_byte, misplaced_break, misplaced_mark, sign_first}
use Rattle.spec.specs.Numbers.{sign_after_sign}
use Rattle.spec.specs.Numbers.{consonant_after_hard_sign, vowel_sign_vowel, long_word, message_max}
use Rattle.spec.specs.Numbers.{word_max}
use Rattle.spec.specs.Letters.{between}
use Rattle.spec.specs.Refusals.{refusal}
use Rattle.spec.specs.Results.{Checked}
use Rattle.spec.specs.declared.Refusal.{Refusal}
use Rattle.message.specs.declared.Seen.{Seen}
use Rattle.letters.specs.Classes.{class_of, is_break_class, is_sign_class, is_consonant_class}
use Rattle.letters.specs.Classes.{is_vowel_class, is_letter_class, class_at, tabulate}
use Rattle.letters.specs.Classes.{elided_at}
use Rattle.letters.specs.Classes.{silent_at}
use Rattle.letters.specs.Classes.{mark_class, gap_class, hard_sign_class, soft_sign_class}
use Rattle.letters.specs.Classes.{paired_class}
use Rattle.letters.specs.Classes.{t_or_d_class, plain_vowel_class, vowel_o_class, iotated_class}
use Rattle.letters.specs.Classes.{vowel_i_class}

-- The kind of what stands before a byte: the class of the byte before (a gap's where there is
-- none), or one of two more for ъ and for ь after a vowel.
abbrev pub hard_sign_after_vowel : ℕ
hard_sign_after_vowel = 14

abbrev pub soft_sign_after_vowel : ℕ
soft_sign_after_vowel = 15

abbrev pub is_vowel_kind : ℕ → Bool
is_vowel_kind k = eqb k mark_class || is_vowel_class k

abbrev pub is_hard_sign_kind : ℕ → Bool
is_hard_sign_kind k = eqb k hard_sign_class || eqb k hard_sign_after_vowel

abbrev pub is_soft_sign_kind : ℕ → Bool
is_soft_sign_kind k = eqb k soft_sign_class || eqb k soft_sign_after_vowel

abbrev pub is_vowel_sign_kind : ℕ → Bool
is_vowel_sign_kind k = between hard_sign_after_vowel soft_sign_after_vowel k

abbrev pub is_sign_kind : ℕ → Bool
is_sign_kind k = is_sign_class k || is_vowel_sign_kind k

unfoldable pub next_kind : ℕ → ℕ → ℕ
next_kind k c = cond (is_sign_class c && is_vowel_kind k) (c + 10) c

-- numbers 3 to 9 at a byte of class c after kind k
unfoldable pub fault_in : ℕ → ℕ → ℕ
fault_in k c =
    cond (is_break_class c) (cond (is_break_class k) misplaced_break 0)
    (cond (eqb c mark_class) (cond (is_vowel_class k) 0 misplaced_mark)
    (cond (is_sign_class c) (cond (is_break_class k) sign_first (cond (is_sign_kind k) sign_after_sign 0))
    (cond (is_consonant_class c) (cond (is_hard_sign_kind k) consonant_after_hard_sign 0)
    (cond (is_vowel_class c) (cond (is_vowel_sign_kind k) vowel_sign_vowel 0) unknown_byte))))

-- how many codes the byte makes, elision apart: a break its mark, a vowel one more with the glide
unfoldable pub width_in : ℕ → ℕ → ℕ
width_in k c =
    cond (is_break_class c || is_consonant_class c) 1
    (cond (eqb c plain_vowel_class) 1
    (cond (eqb c vowel_o_class) (cond (is_soft_sign_kind k) 2 1)
    (cond (eqb c iotated_class) (cond (is_consonant_class k) 1 2)
    (cond (eqb c vowel_i_class) (cond (is_sign_kind k) 2 1) 0))))

-- a syllable is incomplete at the end of a word whose last letter is a consonant or a sign
unfoldable pub tail_names : ℕ → ℕ
tail_names k = cond (is_consonant_class k || is_sign_kind k) 1 0

-- how many syllable names are settled with the byte: a vowel's, and at a break the incomplete one's
unfoldable pub names_in : ℕ → ℕ → ℕ
names_in k c = cond (is_vowel_class c) 1 (cond (is_break_class c) (tail_names k) 0)

-- 1 for т or д after a paired consonant, which may be elided
unfoldable pub ask_in : ℕ → ℕ → ℕ
ask_in k c = cond (eqb k paired_class && eqb c t_or_d_class) 1 0

-- 0 where it is enough to add and to go on with the class as the next kind; else 1 and the fault
unfoldable pub stop_in : ℕ → ℕ → ℕ
stop_in k c = cond (eqb (fault_in k c) 0 && eqb (next_kind k c) c) 0 (suc (fault_in k c))

-- An entry of the table has its codes as they are, and these for a name, for an ask and for a stop.
-- The names and the codes of a message are added up in the same two places, so they have room for
-- 4,096 bytes; there is room for the asks of seven bytes, and stops come last.
abbrev pub name_unit : ℕ
name_unit = 0x4000

abbrev pub ask_unit : ℕ
ask_unit = 0x20000

abbrev pub stop_unit : ℕ
stop_unit = 0x100000

-- What the table has for class c after kind k.
unfoldable pub packed : ℕ → ℕ → ℕ
packed k c = width_in k c + name_unit * names_in k c + ask_unit * ask_in k c + stop_unit * stop_in k c

-- the code's table of pairs: for each kind a row of 16 classes
unfoldable pub pairs : List ℕ
pairs = tabulate (λ j. packed (j / 16) (j % 16)) 0 256

-- the kind of what stands before place i
unfoldable pub kind_at : List ℕ → ℕ → ℕ
kind_at m zero = gap_class
kind_at m (suc i) = next_kind (kind_at m i) (class_of (get_or m i 0))

-- how many codes the byte at place i makes after kind k
unfoldable pub width_at : List ℕ → ℕ → ℕ → ℕ
width_at m i k = cond (elided_at m i) 0 (width_in k (class_of (get_or m i 0)))

-- how many codes, and how many names, the bytes before place i make
unfoldable pub codes_to : List ℕ → ℕ → ℕ
codes_to m zero = 0
codes_to m (suc i) = codes_to m i + width_at m i (kind_at m i)

unfoldable pub names_to : List ℕ → ℕ → ℕ
names_to m zero = 0
names_to m (suc i) = names_to m i + names_in (kind_at m i) (class_of (get_or m i 0))

-- how many letters of its word stand before place i
unfoldable pub letters_at : List ℕ → ℕ → ℕ
letters_at m zero = 0
letters_at m (suc i) =
    let c = class_of (get_or m i 0) in
    cond (is_break_class c) 0 (cond (is_letter_class c) (suc (letters_at m i)) (letters_at m i))

-- numbers 3 to 10 at place i, but for a break last, which the end of the walk finds
unfoldable pub fault_here : List ℕ → ℕ → ℕ
fault_here m i =
    let c = class_of (get_or m i 0) in
    let f = fault_in (kind_at m i) c in
    cond (eqb f 0) (cond (is_letter_class c && eqb (letters_at m i) word_max) long_word 0) f

-- What the check has seen is true: the message is of bytes, and not too many, no byte before its
-- place has a fault, its kind is the one there, and its sum has the codes and the names of the
-- bytes before. Its limit is as many places after `from` as the word lacks letters there to have
-- 64, so before it no letter is a 65th.
pub record Sees (m : List ℕ) (s : Seen) : Type 0 where
  pub bytes : (j : ℕ) → get_or m j 0 < 256
  pub short : length m ≤ message_max
  pub within : s.at ≤ length m
  pub clear : (j : ℕ) → j < s.at → fault_here m j ≡ 0
  pub kind : s.kind ≡ kind_at m s.at
  pub sum : s.sum ≡ codes_to m s.at + name_unit * names_to m s.at
  pub from : s.from ≤ s.at
  pub limit : letters_at m s.from + s.limit ≡ s.from + word_max

-- Bytes up to place e may be read after a kind.
pub record Reads (m : List ℕ) (k e : ℕ) : Type 0 where
  pub kind : k < 16
  pub within : e ≤ length m

-- the sum of the entries of four bytes from place i on, the first after kind k, and how many codes
-- they lose by elision
abbrev pub four_at : List ℕ → ℕ → ℕ → ℕ
four_at m i k = packed k (class_at m i) + packed (class_at m i) (class_at m (i + 1)) + packed (class_at m (i + 1)) (class_at m (i + 2)) + packed (class_at m (i + 2)) (class_at m (i + 3))

abbrev pub silent_four : List ℕ → ℕ → ℕ
silent_four m i = silent_at m i + silent_at m (i + 1) + silent_at m (i + 2) + silent_at m (i + 3)

-- four bytes from any place before r are among the first n
abbrev pub FoursTo : ℕ → ℕ → Type 0
FoursTo r n = r ≤ n - 3

-- The check may go on from what it has seen, by fours that begin before place `to`.
pub record Goes (m : List ℕ) (seen : Seen) (to : ℕ) : Type 0 where
  pub sees : Sees m seen
  pub bytes : FoursTo to (length m)
  pub room : FoursTo to seen.limit

-- What is seen at place i, with a limit that is not before it: where it is reached the word has 64
-- letters.
pub record Counted (m : List ℕ) (i : ℕ) (s : Seen) : Type 0 where
  pub sees : Sees m s
  pub place : s.at ≡ i
  pub full : s.limit ≤ s.at → letters_at m s.at ≡ word_max

-- The check begins: there is a byte, and not too many.
pub record Begins (m : List ℕ) : Type 0 where
  pub some : 0 < length m
  pub short : length m ≤ message_max

-- The check stands at a byte.
pub record Stands (m : List ℕ) (seen : Seen) : Type 0 where
  pub sees : Sees m seen
  pub byte : seen.at < length m

-- What a step gives is true: its byte's fault with its place, or what is seen further on.
abbrev pub Judged : List ℕ → Seen → Result Seen Refusal → Type 0
Judged m s (Ok r) = Sees m r × (s.at < r.at)
Judged m s (Err f) = (fault_here m s.at ≡ f.number) × (f.number ≡ 0 → ⊥) × (f.place ≡ s.at)

-- the end of a message of n bytes: a break last is a fault, and a word's last syllable may be
-- incomplete
abbrev pub finish_of : ℕ → Seen → Checked
finish_of n s =
    cond (is_break_class s.kind) (Err (refusal misplaced_break (n - 1)))
    (Ok (record { codes = s.sum % name_unit; names = s.sum / name_unit + tail_names s.kind }))
