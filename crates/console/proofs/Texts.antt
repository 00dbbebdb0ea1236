-- Bytes that are put behind one another in a text, number by number and code by code; a number as std prints it; how long a number, the
-- codes and an answer are in it.
use Rattle.laws.proofs.Kit.{ℕ, zero, suc, ◌+◌, ◌-◌, ◌*◌, ◌/◌, ◌%◌, ◌^◌, ◌<◌, ◌≤◌, arith, ◌≡◌, refl, sym, ap, ◌∙◌, ⊎_elim, List, [], ◌∷◌}
use Rattle.laws.proofs.Kit.{◌++◌, append_assoc, append-nil, length, take, drop, get_or, length-append, length-drop, take_at, drop-cons}
use Rattle.laws.proofs.Kit.{drop-length, le-leb, lt-leb, lt-ltb, le-ltb}
use Rattle.spec.specs.Printed.{last_digits, decimal, printed_codes, printed_answer}
use Rattle.spec.specs.Answers.{number_of, place_of, length_of, output_after, tape_answer, Promise}
use Rattle.spec.specs.{Tables.ascii, Tape.tape, Demands.CarriedOut, declared.Refusal.Refusal, Results.Answer}
use Rattle.spec.specs.declared.Edition.TheVariants.{One}
use Rattle.laws.proofs.{Bounds.tape_small, Classes.below_or}
use Rattle.console.specs.Putting.{Appended, code_at}
use native.Mathlib.Nat.{pow-suc}
use Rattle.std.proofs.Common.{Err}
use Rattle.std.specs.Fmt.{decimal as std_decimal}
use Rattle.std.proofs.lemmas.Fmt.{AppendsLastDigit, decimal_from_appends, length-decimal-le_succ}
use Rattle.spec.specs.Results.{wrote}

-- A text to which no byte was put is as it was.
pub put_none : (text : List ℕ) (at : ℕ) → Appended [] text text at at
put_none text at = record { place = omega arith; bytes = sym (append-nil (take at text)) }

-- Bytes that are put, and others behind them, were put together at the place of the first.
pub put_over : {a b text text₁ text₂ : List ℕ} {at r s : ℕ} → Appended a text text₁ at r → Appended b text₁ text₂ r s
    → Appended (a ++ b) text text₂ at s
put_over {a} {b} {text} {text₁} {text₂} {at} p q =
    record {
      place = omega (arith, p.place, q.place, length-append a b);
      bytes = q.bytes ∙ rw p.bytes (append_assoc (take at text) a b);
    }

-- The digits of a number are those of a tenth of it with the last digit behind them, as std's are.
appends : AppendsLastDigit last_digits
unfolding last_digits
appends = record {
  one = λ k n h. rw (le-leb n 9 (omega arith)) (ap (λ d. (48 + d) ∷ []) (omega arith));
  more = λ k n h. rw (lt-leb n 9 h) refl;
}

-- A number that a machine word of 64 bits holds is printed as std prints it.
pub printed_decimal : (n : ℕ) → n < 2 ^ 64 → decimal n ≡ std_decimal n
unfolding decimal
printed_decimal n h = decimal_from_appends last_digits appends (suc n) n h (omega (arith, length-decimal-le_succ n h))

-- A number has no more digits than it is large: how many above that are asked for is all one.
enough : (k j n : ℕ) → n < k → n < j → last_digits k n ≡ last_digits j n
unfolding last_digits
enough zero j n h l = absurd (omega arith)
enough (suc k) zero n h l = absurd (omega arith)
enough (suc k) (suc j) n h l = ⊎_elim (λ g. rw (lt-leb n 9 g, enough k j (n / 10) (omega arith) (omega arith)))
    (λ g. rw (le-leb n 9 g)) (below_or 9 n)

-- one digit
pub decimal_small : (n : ℕ) → n < 10 → decimal n ≡ (48 + n % 10) ∷ []
unfolding decimal last_digits
decimal_small n h = rw (le-leb n 9 (omega arith))

-- more: those of a tenth of it, and the last
pub decimal_large : (n : ℕ) → 10 ≤ n → decimal n ≡ decimal (n / 10) ++ ((48 + n % 10) ∷ [])
unfolding decimal last_digits
decimal_large n h = rw (lt-leb n 9 (omega arith), enough n (suc (n / 10)) (n / 10) (omega arith) (omega arith))

-- so it is one longer
pub decimal_longer : (n : ℕ) → 10 ≤ n → length (decimal n) ≡ length (decimal (n / 10)) + 1
decimal_longer n h = ap length (decimal_large n h) ∙ length-append (decimal (n / 10)) ((48 + n % 10) ∷ [])

-- a number below a power of ten has at most as many digits as the power says
pub decimal_size : (k n : ℕ) → n < 10 ^ suc k → length (decimal n) ≤ suc k
decimal_size zero n h = omega (arith, ap length (decimal_small n h))
decimal_size (suc k) n h =
    let p = pow-suc 10 (suc k) in
    ⊎_elim (λ g. omega (arith, decimal_longer n (omega arith), decimal_size k (n / 10) (omega arith)))
    (λ g. omega (arith, ap length (decimal_small n (omega arith)))) (below_or 9 n)

-- The text of the codes from place i on is that of the code there and of those after it.
codes_from_lem : (codes : List ℕ) (i : ℕ) → i < length codes
    → printed_codes (drop i codes) ≡ code_at codes i ++ printed_codes (drop (suc i) codes)
unfolding printed_codes ascii
codes_from_lem codes i h = rw (drop-cons codes i 0 h) (by (drop (suc i) codes) (length-drop (suc i) codes))
  where
    by : (rest : List ℕ) → length rest ≡ length codes - suc i
        → printed_codes (get_or codes i 0 ∷ rest) ≡ code_at codes i ++ printed_codes rest
    by [] e = rw (le-ltb (i + 1) (length codes) (omega arith)) (simp append-nil)
    by (d ∷ rest) e = rw (lt-ltb (i + 1) (length codes) (omega arith))
        (sym (append_assoc (decimal (get_or codes i 0)) (32 ∷ []) (printed_codes (d ∷ rest))))

-- the text of the codes before place i
abbrev pub printed_to : List ℕ → ℕ → List ℕ
printed_to codes zero = []
printed_to codes (suc i) = printed_to codes i ++ code_at codes i

-- Codes that are bytes have at most three digits each, and a space.
pub to_size : (codes : List ℕ) → ((i : ℕ) → get_or codes i 0 < 256) → (i : ℕ) → length (printed_to codes i) ≤ 4 * i
to_size codes h zero = omega arith
to_size codes h (suc i) =
    let k = decimal_size 2 (get_or codes i 0) (omega (arith, h i)) in
    let l : length (code_at codes i) ≤ 4 = rw length-append (⊎_elim (λ g. rw (lt-ltb (i + 1) (length codes) g) (omega arith))
    (λ g. rw (le-ltb (i + 1) (length codes) g) (omega arith)) (below_or (i + 1) (length codes))) in
    omega (arith, length-append (printed_to codes i) (code_at codes i), to_size codes h i)

-- The texts of the codes before place i and of those from there on are together that of all codes.
to_all : (codes : List ℕ) (i : ℕ) → i ≤ length codes → printed_to codes i ++ printed_codes (drop i codes) ≡ printed_codes codes
to_all codes zero h = refl
to_all codes (suc i) h = append_assoc (printed_to codes i) (code_at codes i) (printed_codes (drop (suc i) codes))
    ∙ rw (← codes_from_lem codes i h) (to_all codes i (omega arith))

-- At the end of the codes the text of those before it is that of all.
pub printed_all : (codes : List ℕ) (i : ℕ) → i ≡ length codes → printed_to codes i ≡ printed_codes codes
unfolding printed_codes
printed_all codes i e = rw e (sym (append-nil (printed_to codes (length codes)))
    ∙ rw (drop-length codes) at (to_all codes (length codes) (omega arith)))

-- how long a refusal's text is
pub refusal_length : (r : Refusal) (codes : List ℕ)
    → length (printed_answer (Err r) codes) ≡ 8 + (length (decimal r.number) + (4 + length (decimal r.place)))
unfolding printed_answer ascii
refusal_length r codes = simp length-append (omega arith)

-- What the transcriber answered, lent as many codes as any tape has: a refusal, which is short,
pub answer_refused : (m : List ℕ) (r : Refusal) → Err r ≡ tape_answer One m 8192
    → (printed_answer (tape_answer One m 8192) (tape One m) ≡ printed_answer (Err r) []) × (length (printed_answer (Err r) []) ≤ 20)
unfolding printed_answer number_of place_of
answer_refused m r e =
    let b = rw (sym e) at (tape_small m One 8192) in (
      rw (sym e),
      omega (
        arith,
        refusal_length r [],
        decimal_size 3 r.number (omega (arith, b.number)),
        decimal_size 3 r.place (omega (arith, b.place)),
      ),
    )

-- or the tape: n codes that lie within the output, and their text is the answer's
pub record Spoken (m codes : List ℕ) (n : ℕ) : Type 0 where
  pub short : n ≤ 8192
  pub size : length (take n codes) ≡ n
  pub text : printed_answer (tape_answer One m 8192) (tape One m) ≡ printed_codes (take n codes)

pub answer_written : (m : List ℕ) {codes codes' : List ℕ} {a : Answer} {n k : ℕ} → length codes ≡ 8192
    → Promise (tape_answer One m 8192) (tape One m) codes codes' a → a ≡ wrote n k → length codes' ≡ length codes → Spoken m codes' n
unfolding printed_answer output_after length_of
answer_written m {codes} {n = n} full p e same =
    let d : wrote n _ ≡ tape_answer One m 8192 = sym e ∙ p.answer in
    let w = rw (sym d) at p.output in
    let l : length (tape One m) ≡ n = omega (
      arith,
      (rw (sym d) at (tape_small m One 8192)).length,
      simp (length-append, length-drop) at (ap length w),
    ) in
    let t = take_at (tape One m) (drop n codes) n l in
    record { short = (rw (sym d) at (tape_small m One 8192)).length; size = rw (w, t) l; text = rw (sym d, w, t) }

-- a refusal with small numbers is short in print, whatever tape there might be
pub refusal_short : (r : Refusal) → r.number ≤ 99 → r.place ≤ 65536 → length (printed_answer (Err r) []) ≤ 40
refusal_short r n p =
    omega (arith, refusal_length r [], decimal_size 1 r.number (omega (arith, n)), decimal_size 4 r.place (omega (arith, p)))

-- Where an operation was carried out, the first n bytes of its output are its text.
pub record Part (text out : List ℕ) (n : ℕ) : Type 0 where
  pub bytes : take n out ≡ text
  pub size : n ≡ length (take n out)
  pub within : n ≤ length out

pub part : {text out out' : List ℕ} {count n k : ℕ} {a : Answer} → CarriedOut text count out out' a → a ≡ wrote n k → Part text out' n
unfolding length_of
part {text} {out} {out'} {n = n} c e =
    let l : n ≡ length text = sym (ap length_of e) ∙ c.length in
    let b : take n out' ≡ text = rw (c.output, l) (take_at text (drop (length text) out) (length text) refl) in
    record { bytes = b; size = rw b l; within = omega (arith, l, ap length c.output, length-append text (drop (length text) out)) }
