-- What is read in turn stands together in the buffer, and the reader has lost it; what is made of that and printed.
use Rattle.std.proofs.Common.{ℕ, suc, ◌+◌, ◌-◌, ◌<◌, ◌≤◌, ◌≡◌, List, [], ◌++◌, IfSome, IfOk, Result, Ok, Err, length}
use Rattle.std.proofs.Common.{take, drop, arith, refl, sym, ap, subst, ◌∙◌, append-nil}
use Rattle.laws.proofs.Kit.{⊎_elim, take_all, take_at}
use Rattle.laws.proofs.{Classes.below_or}
use Rattle.std.specs.declared.option.Option.{Option}
use Rattle.std.specs.declared.option.Option.TheVariants.{None, Some}
use Rattle.std.specs.Io.KnownBytes.{Appends, Consumes, IsAtEnd}
use Rattle.std.specs.Borrow.{Bor, MutBor}
use Rattle.console.specs.Reading.{Takes, EndsOrFills, Maker, Makes}
use Rattle.std.proofs.KnownBytes.{Consumes-trans}
use Rattle.std.proofs.lemmas.List.{length-append, length-take-le, take-append-le}
use Rattle.std.proofs.Math.Seq.{take-append-add}
use borrow.Rule.Slice.PartMut.{put_mid}

-- the first m bytes of a part that was put behind the first n
reaches : (n m : ℕ) (text part : List ℕ) → n ≤ length text → m ≤ length part
    → take (n + m) (put_mid n (length text - n) text part) ≡ take n text ++ take m part
reaches n m text part h k =
    let l = length-take-le n text h in
    let rest = drop (length text - n) (drop n text) in
    ap (λ (i : ℕ). take (i + m) (take n text ++ (part ++ rest))) (sym l)
    ∙ take-append-add (take n text) (part ++ rest) m
    ∙ ap (λ (u : List ℕ). take n text ++ u) (take-append-le m part rest k)

-- they lie within the text
within : (n m : ℕ) (text part : List ℕ) → n ≤ length text → m ≤ length part → n + m ≤ length (put_mid n (length text - n) text part)
within n m text part h k =
    let rest = drop (length text - n) (drop n text) in
    omega (arith, length-append (take n text) (part ++ rest), length-append part rest, length-take-le n text h)

-- m bytes were read into what the text has behind its first n
pub takes_more : (n m : ℕ) (text part : List ℕ) (old now new : Option (List ℕ)) → n ≤ length text → m ≤ length part
    → Consumes old now (take n text) → Consumes now new (take m part)
    → (n + m ≤ length (put_mid n (length text - n) text part)) × Consumes old new (take (n + m) (put_mid n (length text - n) text part))
takes_more n m text part old now new h k before read = (
  within n m text part h k,
  subst (Consumes old new) (sym (reaches n m text part h k)) (Consumes-trans old now new (take n text) (take m part) before read),
)

-- What was read of a known input is all of it, or as much as the buffer has room for.
pub heard : (n : ℕ) (buffer : List ℕ) (old now : Option (List ℕ)) → n ≤ length buffer
    → Takes n old now buffer → EndsOrFills n now buffer → IfSome old (λ t. take n buffer ≡ take (length buffer) t)
heard n buffer None now h read end = tt
heard n buffer (Some t) None h read end = absurd read
heard n buffer (Some t) (Some rest) h read end =
    let l = length-take-le n buffer h in
    rw read (⊎_elim
    (λ (short : n < length buffer). rw (end short, append-nil) (sym (take_all (length buffer) (take n buffer) (omega arith))))
    (λ (full : length buffer ≤ n). sym (take_at (take n buffer) rest (length buffer) (omega arith)))
    (below_or n (length buffer)))

-- A text that is made in a lent array, of the first bytes of an input, is what is made of that much of the input.
pub text_made : {F : Type 0} (g : Maker F) (f : F) (P : List ℕ → Type 0) (size : ℕ) (old : Option (List ℕ)) (p : Bor (List ℕ))
    (lent left : MutBor (List ℕ)) (n : ℕ) → g.post f (p, (lent, tt)) (n, (left, tt))
    → IfSome old (λ t. p.now ≡ take size t) → P (take n left.now) → IfSome old (λ t. Makes g f (take size t) P)
text_made g f P size None p lent left n r e h = tt
text_made g f P size (Some t) p lent left n r e h =
    record { shown = p; shows = e; lent = lent; left = left; size = n; made = r; met = h }

-- Where no more than so much of any input tells what is printed, the text is what is printed for the input.
module _ {F : Type 0} (g : Maker F) (f : F) (size : ℕ) (print : List ℕ → List ℕ) (most : ℕ)
    (kept : (n : ℕ) → most < n → (t : List ℕ) → print (take n t) ≡ print t) (more : most < size)
    (prints : (p : Bor (List ℕ)) (lent left : MutBor (List ℕ)) (n : ℕ) → g.post f (p, (lent, tt)) (n, (left, tt))
    → take n left.now ≡ print p.now) where
  pub prints_for : (P : List ℕ → Type 0) (old : Option (List ℕ))
      → IfSome old (λ t. Makes g f (take size t) P) → IfSome old (λ t. P (print t))
  prints_for P None h = tt
  prints_for P (Some t) h = rw (← kept size more t, ← h.shows, ← prints _ _ _ _ h.made) h.met

  pub answer_for : {T E : Type 0} (P : T → List ℕ → Type 0) (old : Option (List ℕ)) (r : Result T E)
      → IfOk r (λ v. IfSome old (λ t. Makes g f (take size t) (P v))) → IfOk r (λ v. IfSome old (λ t. P v (print t)))
  answer_for P old (Ok v) h = prints_for (P v) old h
  answer_for P old (Err e) h = tt

-- Nothing more is written of no text.
pub none_more : (known : Option (List ℕ)) (text : List ℕ) → text ≡ [] → Appends known known text
none_more None text e = tt
none_more (Some held) text e = rw (e, append-nil) refl

-- The same of a text as a list: where all inputs are printed as what is kept of them, what is printed for that is what is printed for the
-- input.
pub printed_for : (print : List ℕ → List ℕ) (most : ℕ) → ((t : List ℕ) → print (take (suc most) t) ≡ print t)
    → (old now : Option (List ℕ)) (n : ℕ) (buffer : List ℕ) → length buffer ≡ suc most → n ≤ length buffer
    → Consumes old now (take n buffer) → (n < length buffer → IsAtEnd now)
    → (text : List ℕ) → text ≡ print (take n buffer) → IfSome old (λ t. text ≡ print t)
printed_for print most kept None now n buffer long h read end text e = tt
printed_for print most kept (Some t) now n buffer long h read end text e =
    e ∙ ap print (heard n buffer (Some t) now h read end) ∙ rw long (kept t)

-- Where that was written, the output has grown by what is printed for the input,
pub written : (print : List ℕ → List ℕ) (old before after : Option (List ℕ)) (text : List ℕ)
    → IfSome old (λ t. text ≡ print t) → Appends before after text → IfSome old (λ t. Appends before after (print t))
written print None before after text e w = tt
written print (Some t) before after text e w = subst (Appends before after) e w

-- and so it has where nothing was written, since nothing is printed.
pub nothing_written : (print : List ℕ → List ℕ) (old before : Option (List ℕ))
    → IfSome old (λ t. [] ≡ print t) → IfSome old (λ t. Appends before before (print t))
nothing_written print old before e = written print old before before [] e (none_more before [] refl)
