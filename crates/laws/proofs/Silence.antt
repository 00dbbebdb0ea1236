-- The law of silence, in any storage: what a listener is told of a sound book is made of what he hears under the numbers he asks for, and
-- where two books have the same for him he hears the same.
use Rattle.laws.proofs.Kit.{ℕ, ◌≡◌, refl, sym, ap, ◌∙◌, false, true≢false, ◌⊎◌, inl, inr, ⊎_elim, ◌↔◌, List, [], ◌∷◌, ◌++◌}
use Rattle.laws.proofs.Kit.{arith, length}
use Rattle.spec.specs.Book.{Phrase, Storage, Sized, Bytes, book_in, read_book, find_answer, tape_after, Sound}
use Rattle.spec.specs.BookDemands.{Listed, IsFor, Addition, used_after, asked, AnswerAlike, BothSound, Silence, UnheardAddition}
use Rattle.spec.specs.{Listeners.may_hear, declared.Listener.Listener}
use Rattle.laws.proofs.{Book.Judged, Book.is_sound, Book.is_refused, Book.judge, Book.sound_read, Book.bytes_in, Lookup.heard_same}
use Rattle.laws.proofs.Additions.{added, AsBefore, Next, as_before, one_more, sound_next, unsound_next}

-- a list of phrases with one more behind
listed_before : (f g : Phrase) (fs : List Phrase) → Listed f fs → Listed f (fs ++ (g ∷ []))
listed_before f g [] h = absurd h
listed_before f g (x ∷ fs) h = ⊎_elim (λ e. inl e) (λ r. inr (listed_before f g fs r)) h

listed_or : (f g : Phrase) (fs : List Phrase) → Listed f (fs ++ (g ∷ [])) → Listed f fs ⊎ (f ≡ g)
listed_or f g [] h = ⊎_elim (λ e. inr e) (λ r. absurd r) h
listed_or f g (x ∷ fs) h = ⊎_elim (λ e. inl (inl e)) (λ r. ⊎_elim (λ s. inl (inr s)) (λ e. inr e) (listed_or f g fs r)) h

-- A book in a storage.
module _ (st : Storage) where
  -- Two books that tell a listener the same of every number answer him alike.
  module _ (l : Listener) (buffer : List ℕ) (used : ℕ) (buffer₂ : List ℕ) (used₂ : ℕ) where
    alike : ((n : ℕ) (old : List ℕ)
        → (find_answer st l (read_book st (book_in buffer used)) n ≡ find_answer st l (read_book st (book_in buffer₂ used₂)) n)
        × (tape_after st l (read_book st (book_in buffer used)) n old ≡ tape_after st l (read_book st (book_in buffer₂ used₂)) n old))
        → AnswerAlike st l buffer used buffer₂ used₂
    alike same [] [] k k₂ e = refl
    alike same [] (y ∷ ys) k k₂ e = absurd (omega (arith, ap length e))
    alike same (x ∷ xs) [] k k₂ e = absurd (omega (arith, ap length e))
    alike same (x ∷ xs) (y ∷ ys) k k₂ e =
        let p : ◌≡◌ {A = ℕ × List ℕ} (x.number, x.before) (y.number, y.before) = (cc) in
        let n : x.number ≡ y.number = ap (λ (q : ℕ × List ℕ). q.0) p in
        let b : x.before ≡ y.before = ap (λ (q : ℕ × List ℕ). q.1) p in
        let more : asked xs ≡ asked ys = (cc) in
        let s = same y.number y.before in
        let a : x.answer ≡ y.answer = k.0.answer ∙ rw n s.0 ∙ sym k₂.0.answer in
        let t : x.after ≡ y.after = k.0.tape ∙ rw (n, b) s.1 ∙ sym k₂.0.tape in
        rw (a, t, alike same xs ys k.1 k₂.1 more) refl

    -- The law of silence. What it does not cover stands with its statement: 15 and 16, time, and where in the book a tape stands.
    pub silence : Silence st l buffer used buffer₂ used₂
    unfolding find_answer tape_after
    silence g =
        let e = sound_read st g.both.sound in
        let e₂ = sound_read st g.both.sound₂ in
        alike (λ n old.
        let h = heard_same st l n g.both.phrases g.both.phrases₂ g.both.sound.rising g.both.sound₂.rising (g.same n) in
        rw (e, e₂, h) (refl, refl))

  -- A phrase behind the others that is not for a listener is none for him.
  not_for_him_lem : (l : Listener) (g : Phrase) (fs : List Phrase) → may_hear l g.set ≡ false → (n : ℕ) (t : List ℕ)
      → IsFor st l fs n t ↔ IsFor st l (fs ++ (g ∷ [])) n t
  not_for_him_lem l g fs h n t = (
    λ p. record { phrase = p.phrase; listed = listed_before _ g fs p.listed; number = p.number; tape = p.tape; hears = p.hears },
    λ p. ⊎_elim (λ q. record { phrase = p.phrase; listed = q; number = p.number; tape = p.tape; hears = p.hears })
        (λ e. absurd (true≢false (sym p.hears ∙ ap (λ (f : Phrase). may_hear l f.set) e ∙ h))) (listed_or _ g fs p.listed),
  )

  -- So no answer of his is changed by an addition that is not for him, where a tape is stored in as many bytes as its codes take.
  pub unheard_addition : Sized st → (l : Listener) (buffer : List ℕ) (used : ℕ) → Bytes buffer → (a : Addition)
      → UnheardAddition st l buffer used a
  unfolding used_after
  unheard_addition sized l buffer used b a kept not-his = of (judge st (book_in buffer used) (bytes_in buffer used b)) where
    left : AsBefore buffer a → AnswerAlike st l buffer used a.after (used_after a.answer used)
    left k = rw (k.answer, k.after) (alike l buffer used buffer used (λ n old. (refl, refl)))

    next : (fs : List Phrase) → Sound st (book_in buffer used) fs → Next st buffer fs a
        → AnswerAlike st l buffer used a.after (used_after a.answer used)
    next fs s (as_before k) = left k
    next fs s (one_more k r z t) =
        let both : BothSound st (book_in buffer used) (book_in a.after k) =
        record { phrases = fs; phrases₂ = fs ++ (added st a ∷ []); sound = s; sound₂ = t } in
        rw r (silence l buffer used a.after k (record { both = both; same = not_for_him_lem l (added st a) fs not-his }))

    of : Judged st (book_in buffer used) → AnswerAlike st l buffer used a.after (used_after a.answer used)
    of (is_sound fs s e) = next fs s (sound_next st kept s sized)
    of (is_refused k p range d e) = left (unsound_next st kept e)
