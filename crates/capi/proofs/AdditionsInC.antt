-- The list of additions in C: each call is an addition, and the caller's count is the used count after it, since no refusal has number 0.
use Rattle.laws.proofs.Kit.{ℕ, ◌≡◌, refl, cond, List, [], ◌∷◌, arith, eqb, ne_eqb}
use Rattle.spec.specs.Answers.{number_of, length_of, output_after}
use Rattle.spec.specs.Book.{Phrase, book_storage, NewPhrase, phrase_of, after_listener, add_answer, AddPromise}
use Rattle.spec.specs.BookDemands.{Addition, used_after, added_by, OneByOne, last_buffer, last_used, accepted}
use Rattle.spec.specs.{declared.Listener.Listener, declared.Listener.TheVariants.Pump, Results.Answer}
use Rattle.laws.proofs.Additions.{Numbered, add_numbered, additions_located}
use Rattle.capi.specs.Said.{SaidAdded, named, AddsFor, Call, count_after, CallByCall, buffer_after_all}
use Rattle.capi.specs.Said.{count_after_all, accepted_calls, AdditionsInC}
use Rattle.capi.specs.declared.GovorunAdded.{GovorunAdded}
use Rattle.std.proofs.Common.{Option, Some, None, Ok, Err}

-- Who is no listener is turned away as pump crews are.
abbrev caller : Option Listener → Listener
caller (Some l) = l
caller None = Pump

as_caller : (who : Option Listener) (buffer : List ℕ) (used : ℕ) (x : NewPhrase) {buffer' : List ℕ} {a : Answer}
    → AddsFor who buffer used x buffer' a → AddPromise book_storage (caller who) buffer used x buffer' a
unfolding add_answer after_listener output_after
as_caller (Some l) buffer used x p = p
as_caller None buffer used x p =
    record { answer = p.answer; output = p.output; number = p.number; place = p.place; length = p.length; live = p.live }

-- what is said of an answer that has a number where it is a refusal
count_said : (a : Answer) (used : ℕ) {r : GovorunAdded} → Numbered a → SaidAdded a r
    → used_after a used ≡ cond (eqb r.number 0) r.used used
unfolding used_after number_of length_of
count_said (Ok w) used h s = rw (s.number, s.used) refl
count_said (Err x) used h s = rw (s.number, ne_eqb x.number 0 (λ e. omega (arith, h, e))) refl

added_said : (a : Answer) (f : Phrase) (fs : List Phrase) {r : GovorunAdded} → Numbered a → SaidAdded a r
    → added_by a f fs ≡ cond (eqb r.number 0) (f ∷ fs) fs
unfolding added_by number_of
added_said (Ok w) f fs h s = rw s.number refl
added_said (Err x) f fs h s = rw (s.number, ne_eqb x.number 0 (λ e. omega (arith, h, e))) refl

-- The calls as additions.
record Additions (buffer : List ℕ) (used : ℕ) (calls : List Call) : Type 0 where
  pub additions : List Addition
  pub kept : OneByOne book_storage buffer used additions
  pub last : last_buffer buffer additions ≡ buffer_after_all buffer calls
  pub count : last_used used additions ≡ count_after_all used calls
  pub phrases : accepted book_storage additions ≡ accepted_calls calls

as_additions : (buffer : List ℕ) (used : ℕ) (calls : List Call) → CallByCall buffer used calls → Additions buffer used calls
as_additions buffer used [] k = record { additions = []; kept = tt; last = refl; count = refl; phrases = refl }
as_additions buffer used (c ∷ calls) k =
    let who = named c.listener in
    let p = k.0.promise in
    let a = p.answer in
    let promise = as_caller who buffer used c.phrase p.promise in
    let numbered : Numbered a = rw promise.answer (add_numbered book_storage (caller who) _ c.phrase _) in
    let more = as_additions c.after (count_after c used) calls k.1 in
    let e = count_said a used numbered p.said in
    let this : Addition = record { listener = caller who; phrase = c.phrase; answer = a; after = c.after } in
    record {
      additions = this ∷ more.additions;
      kept = (record { number = k.0.number; set = k.0.set; promise = promise }, rw e more.kept);
      last = more.last;
      count = rw e more.count;
      phrases = rw more.phrases (added_said a (phrase_of book_storage c.phrase) (accepted_calls calls) numbered p.said);
    }

-- So after every list of calls to an empty book it holds just the tapes of the accepted.
pub additions_in_c : (buffer : List ℕ) (calls : List Call) → AdditionsInC buffer calls
additions_in_c buffer calls k =
    let a = as_additions buffer 0 calls k in
    rw (a.last, a.count, a.phrases) at (additions_located buffer a.additions a.kept)
