-- The law of silence in C: a listener hears the same in both books, so he is told the same but for its place; and who is no listener gets
-- 17 from every sound book.
use Rattle.laws.proofs.Kit.{ℕ, ◌≡◌, refl, sym, ◌∙◌, List, take, drop}
use Rattle.spec.specs.Book.{book_storage, book_in, Heard, nothing, aloud, tape_after, placed, locate_answer, part_at, unheard}
use Rattle.spec.specs.Book.{LocatePromise}
use Rattle.spec.specs.{Answers.Carried, BookDemands.AgreeFor, declared.Listener.Listener, Results.Located}
use Rattle.laws.proofs.{Book.sound_read, Lookup.heard_same}
use Rattle.capi.specs.Said.{SaidFound, number_found, place_found, is_found, start_found, length_found, named, FindsFor, AgreeIn, SaidAlike}
use Rattle.capi.specs.Said.{SilenceInC}
use Rattle.capi.specs.declared.GovorunFound.{GovorunFound}
use Rattle.std.proofs.Common.{Option, Some, None, Ok, Err}

-- all numbers that are said of an answer but the start
abbrev Same : Located → Located → Type 0
Same a a₂ = (number_found a ≡ number_found a₂) × (place_found a ≡ place_found a₂) × (is_found a ≡ is_found a₂) × (length_found a ≡ length_found a₂)

placed_same : (start start₂ : ℕ) (h : Heard) → Same (placed start h) (placed start₂ h)
unfolding placed number_found place_found is_found length_found
placed_same start start₂ nothing = (refl, refl, refl, refl)
placed_same start start₂ (aloud t) = (refl, refl, refl, refl)

-- and the bytes that they tell of
part_said : (a : Located) (buffer : List ℕ) → take (length_found a) (drop (start_found a) buffer) ≡ part_at a buffer
unfolding start_found length_found part_at
part_said (Ok s) buffer = refl
part_said (Err r) buffer = refl

said_alike : {buffer buffer₂ : List ℕ} {a a₂ : Located} {r r₂ : GovorunFound} → Same a a₂ → part_at a buffer ≡ part_at a₂ buffer₂
    → SaidFound a r → SaidFound a₂ r₂ → SaidAlike buffer buffer₂ r r₂
said_alike {buffer} {buffer₂} {a} {a₂} e b s s₂ = record {
  bytes = rw (s.start, s.length, s₂.start, s₂.length) (part_said a buffer ∙ b ∙ sym (part_said a₂ buffer₂));
  number = s.number ∙ e.0 ∙ sym s₂.number;
  place = s.place ∙ e.1 ∙ sym s₂.place;
  found = s.found ∙ e.2 ∙ sym s₂.found;
  length = s.length ∙ e.3 ∙ sym s₂.length;
}

-- A listener hears the same in both.
located_same : {l : Listener} {buffer buffer₂ : List ℕ} {used used₂ n : ℕ} {a a₂ : Located}
    → AgreeFor book_storage l (book_in buffer used) (book_in buffer₂ used₂)
    → LocatePromise l buffer used n a → LocatePromise l buffer₂ used₂ n a₂ → Same a a₂ × (part_at a buffer ≡ part_at a₂ buffer₂)
unfolding locate_answer tape_after
located_same {l} {n = n} g k k₂ =
    let b = g.both in
    let e = sound_read book_storage b.sound in
    let e₂ = sound_read book_storage b.sound₂ in
    let h = heard_same book_storage l n b.phrases b.phrases₂ b.sound.rising b.sound₂.rising (g.same n) in
    (rw (k.answer, k₂.answer, e, e₂, h) (placed_same _ _ _), k.tape ∙ rw (e, e₂, h) refl ∙ sym k₂.tape)

-- So what is said is the same but for the start; and who is no listener gets 17 from both.
pub silence_in_c : (listener : ℕ) (buffer : List ℕ) (used : ℕ) (buffer₂ : List ℕ) (used₂ : ℕ)
    → SilenceInC listener buffer used buffer₂ used₂
unfolding unheard part_at
silence_in_c listener buffer used buffer₂ used₂ = of (named listener) where
  of : (who : Option Listener) → AgreeIn who (book_in buffer used) (book_in buffer₂ used₂) → (n : ℕ) (r r₂ : GovorunFound)
      → Carried (FindsFor who buffer used n) SaidFound r → Carried (FindsFor who buffer₂ used₂ n) SaidFound r₂
      → SaidAlike buffer buffer₂ r r₂
  of (Some l) g n r r₂ k k₂ = let w = located_same g k.promise k₂.promise in said_alike w.0 w.1 k.said k₂.said
  of None g n r r₂ k k₂ =
      let e = rw (sound_read book_storage g.sound) at k.promise in
      let e₂ = rw (sound_read book_storage g.sound₂) at k₂.promise in
      said_alike (rw (e, e₂) (refl, refl, refl, refl)) (rw (e, e₂) refl) k.said k₂.said
