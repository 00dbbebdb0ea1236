-- A text is read by words: what the walk gives is a word, the break that the run behind it becomes, and what it gives from there on.
use Rattle.laws.proofs.Kit.{ℕ, zero, suc, ◌+◌, ◌-◌, ◌<◌, ◌≤◌, arith, add-one, ◌≡◌, refl, sym, ap, ◌∙◌, ⊎_elim, Bool, true, false}
use Rattle.laws.proofs.Kit.{true≢false, cond, ◌||◌, not, or-true, List, [], ◌∷◌, ◌++◌, append_assoc, eqb, length, take, drop, get_or, set}
use Rattle.laws.proofs.Kit.{length-append, take-suc, get_or-drop, length-drop, drop-cons, drop_at, drop-length, drop-drop}
use Rattle.laws.proofs.Kit.{length-take-le, take-append-drop, take-add, not-true}
use Rattle.std.specs.List.{prefix_len}
use Rattle.std.proofs.lemmas.List.Sums.{prefix_len_is}
use Rattle.spec.specs.{Alphabet.gap, Alphabet.pause, Tables.among, Letters.is_break, Editing.pause_marks, Editing.gap_marks}
use Rattle.spec.specs.{Editing.replaced, Editing.one_break, Editing.edited}
use Rattle.laws.proofs.Edited.{begun, one_some, edited_walk}
use Rattle.laws.specs.{Edited.breaks, Edited.put_wait, Edited.edit_from, Edited.leading, Putting.Put}
use Rattle.laws.proofs.{Classes.either, Classes.below_or, Classes.break_both, Putting.put_at, Putting.put_behind}
use Rattle.laws.proofs.{Putting.put_none, Putting.put_length, Putting.rest_of, Putting.rest_part, Putting.put_part}
use Rattle.editor.specs.Walk.{others, Last, LastWord, run_from, ReadsRun, reads, piece, Goes}
use Rattle.editor.specs.{declared.Run.Run, declared.Stride.Stride}
use Rattle.editor.proofs.Punctuation.{break_told, pause_told}

module _ (test : ℕ → Bool) where
  -- no more bytes lead than there are
  leading_most : (t : List ℕ) → leading test t ≤ length t
  unfolding leading
  leading_most [] = omega arith
  leading_most (b ∷ t) = either (test b) (λ q. rw q (omega (arith, leading_most t))) (λ q. rw q (omega arith))

  -- nor than stand before one that fails the test
  leading_before : (t : List ℕ) (j : ℕ) → j < length t → test (get_or t j 0) ≡ false → leading test t ≤ j
  unfolding leading
  leading_before [] j h q = absurd (omega arith)
  leading_before (b ∷ t) zero h q = rw q (omega arith)
  leading_before (b ∷ t) (suc j) h q =
      either (test b) (λ e. rw e (omega (arith, leading_before t j (omega arith) q))) (λ e. rw e (omega arith))

  -- counted from any place on
  leading_to : (t : List ℕ) {i j : ℕ} → i ≤ j → j < length t → test (get_or t j 0) ≡ false → i + leading test (drop i t) ≤ j
  leading_to t {i} {j} l h q =
      let e : i + (j - i) ≡ j = omega arith in
      let n : j - i < length (drop i t) = omega (arith, length-drop i t) in
      omega (arith, leading_before (drop i t) (j - i) n (rw (get_or-drop i t (j - i) 0, e) q))

  -- where all lead the first does
  leading_first : (t : List ℕ) {i : ℕ} → i < length t → leading test (drop i t) ≡ length (drop i t) → test (get_or t i 0) ≡ true
  unfolding leading
  leading_first t {i} h e = either (test (get_or t i 0)) (λ q. q) (λ q. absurd (omega (arith, rw (drop-cons t i 0 h, q) at e)))

  -- they are counted as the library counts them
  pub leading_prefix : (t : List ℕ) → leading test t ≡ prefix_len test t
  unfolding leading
  leading_prefix [] = refl
  leading_prefix (b ∷ t) = either (test b) (λ q. rw (q, leading_prefix t) (omega arith)) (λ q. rw q refl)

  -- A loop counts them: it stands at place k, and each byte before it led.
  abbrev pub Counting : List ℕ → ℕ → Type 0
  Counting t k = k + leading test (drop k t) ≡ leading test t

  pub counting_none : (t : List ℕ) → Counting t 0
  counting_none t = omega arith

  module _ (t : List ℕ) (k : ℕ) (c : Counting t k) where
    -- where not all lead there is a byte more
    pub counting_within : leading test t < length t → k < length t
    counting_within h = omega (arith, c)

    -- one more leads
    pub counting_more : k < length t → test (get_or t k 0) ≡ true → Counting t (k + 1)
    unfolding leading
    counting_more h q = let e = rw (drop-cons t k 0 h, q) at c in rw (add-one k) (omega (arith, e))

    -- or it does not
    pub counting_stop : k < length t → test (get_or t k 0) ≡ false → k ≡ leading test t
    unfolding leading
    counting_stop h q = let e = rw (drop-cons t k 0 h, q) at c in omega (arith, e)

  -- all lead where each passes
  leading_all_pass : (t : List ℕ) → ((k : ℕ) → k < length t → test (get_or t k 0) ≡ true) → leading test t ≡ length t
  leading_all_pass t all =
      leading_prefix t ∙ prefix_len_is test t (length t) 0 (omega arith) all (λ h. absurd (omega (arith, h)))

  -- A search from the end on: the last byte that fails the test is at place i,
  pub last_found : (t : List ℕ) (i : ℕ) → i < length t → test (get_or t i 0) ≡ false
      → ((k : ℕ) → i < k → k < length t → test (get_or t k 0) ≡ true) → Last test t (i + 1)
  last_found t i h q all = record {
    trailing = record {
      within = omega arith;
      all = leading_all_pass (drop (i + 1) t) (λ k l.
          rw (get_or-drop (i + 1) t k 0) (all (i + 1 + k) (omega arith) (omega (arith, length-drop (i + 1) t))));
    };
    before = λ z. let e : i + 1 - 1 ≡ i = omega arith in rw e q;
  }

  -- or none does
  pub last_none : (t : List ℕ) → ((k : ℕ) → k < length t → test (get_or t k 0) ≡ true) → Last test t 0
  last_none t all = record { trailing = record { within = omega arith; all = leading_all_pass t all }; before = λ z. absurd (omega arith) }

-- The run's loop counts breaks, and what they become with those to come is what all become.
pub record Running (t : List ℕ) (k becomes : ℕ) : Type 0 where
  pub counted : Counting breaks t k
  pub some : is_break becomes ≡ true
  pub run : run_from becomes (drop k t) ≡ run_from gap t

module _ {t : List ℕ} {k becomes : ℕ} (r : Running t k becomes) (h : k < length t) where
  running_more : breaks (get_or t k 0) ≡ true → {x : ℕ} → is_break x ≡ true → one_break becomes (replaced (get_or t k 0)) ≡ x
      → Running t (k + 1) x
  unfolding run_from
  running_more q s e =
      record { counted = counting_more breaks t k r.counted h q; some = s; run = rw (add-one k, ← e) (rw (drop-cons t k 0 h, q) at r.run) }

  -- a pause makes it one
  pub running_pause : among (pause ∷ pause_marks) (get_or t k 0) ≡ true → Running t (k + 1) pause
  unfolding one_break is_break
  running_pause q = running_more (break_told _ ∙ rw q) refl (rw (pause_told, q, or-true))

  -- a gap leaves it as it is
  pub running_gap : among (pause ∷ pause_marks) (get_or t k 0) ≡ false → among (gap ∷ gap_marks) (get_or t k 0) ≡ true
      → Running t (k + 1) becomes
  unfolding one_break
  running_gap p g = running_more (break_told _ ∙ rw (p, g)) r.some
      (rw (pause_told, p) (break_both (λ x. cond (eqb x pause || false) pause gap ≡ x) refl refl becomes r.some))

  -- and any other byte ends it
  pub running_stop : among (pause ∷ pause_marks) (get_or t k 0) ≡ false → among (gap ∷ gap_marks) (get_or t k 0) ≡ false
      → ReadsRun t (record { length = k; becomes = becomes })
  unfolding run_from
  running_stop p g = let q : breaks (get_or t k 0) ≡ false = break_told _ ∙ rw (p, g) in
      record { length = counting_stop breaks t k r.counted h q; becomes = rw (drop-cons t k 0 h, q) at r.run }

-- A loop copies the bytes of a text: the first k stand at the start of the output.
pub record Copying (t out₀ out : List ℕ) (k : ℕ) : Type 0 where
  pub room : k ≤ length out₀
  pub put : Put (take k t) out₀ out k 0

pub copying_none : (t out : List ℕ) → Copying t out out 0
copying_none t out = record { room = omega arith; put = put_none out 0 }

module _ {t out₀ out : List ℕ} {k : ℕ} (c : Copying t out₀ out k) where
  pub copying_length : length out ≡ length out₀
  copying_length = put_length (take k t) out₀ out k 0 c.room c.put

  pub copying_more : k < length t → k < length out₀ → Copying t out₀ (set out k (get_or t k 0)) (k + 1)
  copying_more h l = record {
    room = omega arith;
    put = rw (add-one k, take-suc t k 0 h)
        (rw (add-one k) at (put_behind (omega arith) c.put (put_at out k (get_or t k 0) (omega (arith, copying_length)))));
  }

-- Behind a break that waits the run is put as one break, before the word that follows it.
run_step : (wait : ℕ) → eqb wait 0 ≡ false → (t : List ℕ) → leading breaks t < length t
    → edit_from wait t ≡ run_from wait t ∷ edit_from 0 (begun t)
unfolding edit_from put_wait leading run_from
run_step wait w [] h = absurd (omega arith)
run_step wait w (b ∷ t) h = either (breaks b)
    (λ q. rw q (run_step (one_break wait (replaced b)) (one_some wait (replaced b)) t (omega (arith, rw q at h)))) (λ q. rw (q, w) (rw q))

-- So it is behind a word.
walk_word : (t : List ℕ) → reads t < length t → edit_from 0 t ≡ piece t ++ edit_from 0 (begun (drop (leading others t) t))
unfolding edit_from put_wait leading piece run_from one_break
walk_word [] h = absurd (omega arith)
walk_word (b ∷ t) h = either (breaks b)
    (λ q. rw q (rw q (run_step (one_break 0 (replaced b)) (one_some 0 (replaced b)) t (omega (arith, rw q at (rw q at h))))))
    (λ q. rw q (ap (λ (l : List ℕ). b ∷ l) (walk_word t (omega (arith, rw q at h)))))

-- The walk goes on behind a word and its breaks.
pub walk_step : (t : List ℕ) → reads t < length t → edit_from 0 t ≡ piece t ++ edit_from 0 (drop (reads t) t)
walk_step t h = rw (← drop-drop (leading breaks (drop (leading others t) t)) (leading others t) t) (walk_word t h)

piece_length : (t : List ℕ) → length (piece t) ≡ leading others t + 1
unfolding piece
piece_length t =
    omega (
      arith,
      length-append (take (leading others t) t) (run_from gap (drop (leading others t) t) ∷ []),
      length-take-le (leading others t) t (leading_most others t),
    )

-- A word of w bytes and the run behind it are what the walk goes over, and where there is room both are put.
module _ (t : List ℕ) {w : ℕ} {r : Run} (e : w ≡ leading others t) (f : ReadsRun (rest_of t w) r) where
  pub goes_word : Goes t (record { read = w + r.length; put = w + 1 })
  goes_word = let g = rw (rest_part t w) at f in record { read = rw (g.length, e) refl; put = rw e refl }

  pub piece_put : {out out₁ : List ℕ} → w < length out → Put (take w t) out out₁ w 0 → Put (piece t) out (set out₁ w r.becomes) (w + 1) 0
  unfolding piece
  piece_put {out} {out₁} h p =
      let g = rw (rest_part t w) at f in
      let l = put_length (take w t) out out₁ w 0 (omega arith) p in
      rw (← e, ← g.becomes) (put_behind (omega arith) p (put_at out₁ w r.becomes (omega arith)))

-- a text is not read in vain
reads_some : (t : List ℕ) → 0 < length t → 0 < reads t
unfolding leading
reads_some [] z = absurd (omega arith)
reads_some (b ∷ t) z = either (breaks b) (λ q. rw q (rw q (omega arith))) (λ q. rw q (omega arith))

-- where all bytes pass a test, all behind a place do
leading_all : (test : ℕ → Bool) (t : List ℕ) → leading test t ≡ length t → (m : ℕ) → leading test (drop m t) ≡ length (drop m t)
unfolding leading
leading_all test t e zero = e
leading_all test [] e (suc m) = refl
leading_all test (b ∷ t) e (suc m) =
    either (test b) (λ q. leading_all test t (omega (arith, rw q at e)) m) (λ q. absurd (omega (arith, rw q at e)))

-- a text without a break is left as it is
word_own : (t : List ℕ) → leading others t ≡ length t → edit_from 0 t ≡ t
unfolding leading edit_from put_wait
word_own [] e = refl
word_own (b ∷ t) e = either (breaks b) (λ q. absurd (omega (arith, rw q at e)))
    (λ q. rw q (ap (λ (l : List ℕ). b ∷ l) (word_own t (omega (arith, rw q at e)))))

-- breaks alone add nothing
breaks_gone : (wait : ℕ) (t : List ℕ) → leading breaks t ≡ length t → edit_from wait t ≡ []
unfolding leading edit_from
breaks_gone wait [] e = refl
breaks_gone wait (b ∷ t) e = either (breaks b) (λ q. rw q (breaks_gone (one_break wait (replaced b)) t (omega (arith, rw q at e))))
    (λ q. absurd (omega (arith, rw q at e)))

-- nor do they behind a text
breaks_behind : (wait : ℕ) (t v : List ℕ) → leading breaks v ≡ length v → edit_from wait (t ++ v) ≡ edit_from wait t
unfolding edit_from
breaks_behind wait [] v e = breaks_gone wait v e
breaks_behind wait (b ∷ t) v e = either (breaks b) (λ q. rw q (breaks_behind (one_break wait (replaced b)) t v e))
    (λ q. rw q (ap (λ (l : List ℕ). put_wait wait (b ∷ l)) (breaks_behind 0 t v e)))

module _ {t : List ℕ} {last : ℕ} (w : LastWord t last) where
  -- a break that ends the text would not be before its last word
  last_within : 0 < last → last < length t
  last_within z = ⊎_elim (λ h. h) (λ h.
      let e : last ≡ length t = omega (arith, w.last.trailing.within) in
      absurd (true≢false (sym (ap not (w.word (omega arith))) ∙ rw e at (w.last.before z)))) (below_or last (length t))

  module _ {i : ℕ} where
    -- before the last word there is a word, a break behind it and another word
    reads_before : i < last → i + reads (drop i t) ≤ last
    reads_before h =
        let l = last_within (omega arith) in
        let n = leading others (drop i t) in
        let a = leading_to others t {i = i} {j = last - 1} (omega arith) (omega (arith, l)) (w.last.before (omega arith)) in
        let q = not-true _ (leading_first others t l w.last.trailing.all) in
        let b = rw (← drop-drop n i t) at (leading_to breaks t {i = i + n} {j = last} (omega (arith, a)) l q) in
        omega (arith, b)

    -- from it on no break
    last_own : last ≤ i → edit_from 0 (drop i t) ≡ drop i t
    last_own h =
        let e : last + (i - last) ≡ i = omega arith in
        word_own (drop i t) (rw (drop-drop (i - last) last t, e) at (leading_all others (drop last t) w.last.trailing.all (i - last)))

-- The walk stands before place i of a text: what the bytes before it give is done.
pub record Stands (t : List ℕ) (i at : ℕ) (done : List ℕ) : Type 0 where
  pub within : i ≤ length t
  pub size : length done ≡ at
  pub rest : edit_from 0 t ≡ done ++ edit_from 0 (drop i t)

module _ {t : List ℕ} {i at : ℕ} {done : List ℕ} (w : Stands t i at done) where
  -- no more is done than there is
  pub stands_most : at ≤ length (edit_from 0 t)
  stands_most = omega (arith, ap length w.rest, length-append done (edit_from 0 (drop i t)), w.size)

  module _ {last : ℕ} (l : LastWord t last) where
    -- before the last word there is one to read, and breaks behind it
    module _ (h : i < last) where
      pub stands_reads : reads (rest_of t i) < length (rest_of t i)
      stands_reads = rw (rest_part t i) (omega (arith, reads_before l h, last_within l (omega arith), length-drop i t))

      module _ {r : Stride} (p : Goes (rest_of t i) r) where
        -- which are some of the text
        pub stands_further : length t - (i + r.read) < length t - i
        stands_further =
            let g = rw (rest_part t i) at p in
            omega (
              arith,
              g.read,
              reads_some (drop i t) (omega (arith, length-drop i t, last_within l (omega arith))),
              last_within l (omega arith),
            )

        -- and then they are done
        pub stands_more : Stands t (i + r.read) (at + r.put) (done ++ piece (drop i t))
        stands_more =
            let g = rw (rest_part t i) at p in
            record {
              within = omega (arith, g.read, reads_before l h, last_within l (omega arith));
              size = omega (arith, length-append done (piece (drop i t)), piece_length (drop i t), w.size, g.put);
              rest = w.rest ∙ rw (
                g.read,
                ← drop-drop (reads (drop i t)) i t,
                append_assoc done (piece (drop i t)) (edit_from 0 (drop (reads (drop i t)) (drop i t))),
              )
                  (ap (λ (k : List ℕ). done ++ k) (walk_step (drop i t) (rw (rest_part t i) at stands_reads)));
            }

    -- from it on the rest of the text is as it is
    module _ (h : last ≤ i) where
      stands_last : edit_from 0 t ≡ done ++ drop i t
      stands_last = w.rest ∙ rw (last_own l h) refl

      pub stands_end : at + (length t - i) ≡ length (edit_from 0 t)
      stands_end = omega (arith, ap length stands_last, length-append done (drop i t), length-drop i t, w.size)

-- What is done stands at the start of an output in which there is room for all.
pub record Writing (t out₀ out : List ℕ) (i at : ℕ) : Type 0 where
  pub done : List ℕ
  pub stands : Stands t i at done
  pub room : length (edit_from 0 t) ≤ length out₀
  pub put : Put done out₀ out at 0

module _ {t out₀ out : List ℕ} {i at : ℕ} (w : Writing t out₀ out i at) where
  writing_kept : length out ≡ length out₀
  writing_kept = put_length w.done out₀ out at 0 (omega (arith, stands_most w.stands, w.room)) w.put

  module _ {last : ℕ} (l : LastWord t last) where
    -- a word and a break fit what is left of the output, and are put there
    module _ (h : i < last) where
      pub writing_room : leading others (rest_of t i) < length (rest_of out at)
      writing_room =
          let s = stands_more w.stands l h {r = record { read = reads (drop i t); put = leading others (drop i t) + 1 }}
          (rw (rest_part t i) (record { read = refl; put = refl })) in
          rw (rest_part t i, rest_part out at) (omega (arith, stands_most s, w.room, writing_kept, length-drop at out))

      pub writing_more : {r : Stride} {part : List ℕ} → Goes (rest_of t i) r → Put (piece (rest_of t i)) (rest_of out at) part r.put 0
          → Writing t out₀ (take at out ++ (part ++ drop (length out - at) (drop at out))) (i + r.read) (at + r.put)
      writing_more g p =
          let s = stands_more w.stands l h g in
          record {
            done = _;
            stands = s;
            room = w.room;
            put = put_behind (omega (arith, stands_most s, w.room)) w.put (put_part (rw (rest_part t i) at p));
          }

    -- at last the rest of the text does, and is
    module _ (h : last ≤ i) where
      pub writing_rest : length (rest_of t i) ≤ length (rest_of out at)
      writing_rest = rw (rest_part t i, rest_part out at)
          (omega (arith, stands_end w.stands l h, w.room, writing_kept, length-drop i t, length-drop at out))

      pub writing_last : {part : List ℕ} → Put (rest_of t i) (rest_of out at) part (length (rest_of t i)) 0
          → Put (edit_from 0 t) out₀ (take at out ++ (part ++ drop (length out - at) (drop at out))) (at + (length t - i)) 0
      writing_last p =
          let q = rw (rest_part t i, length-drop i t) at p in
          rw (stands_last w.stands l h) (put_behind (omega (arith, stands_end w.stands l h, w.room)) w.put (put_part q))

-- Breaks behind a text make no other edited text of it.
edited_behind : (t v : List ℕ) → leading breaks v ≡ length v → edit_from 0 (begun (t ++ v)) ≡ edit_from 0 (begun t)
unfolding leading
edited_behind [] v e = rw (e, drop-length v) refl
edited_behind (b ∷ t) v e = either (breaks b) (λ q. rw q (edited_behind t v e)) (λ q. rw q (breaks_behind 0 (b ∷ t) v e))

-- What stands between the breaks at the ends of a text.
module _ (t : List ℕ) {end from : ℕ} (e : Last breaks t end) (f : from ≡ leading breaks (take end t)) where
  abbrev between : List ℕ
  between = take (end - from) (drop from t)

  pub from_most : from ≤ end
  from_most = omega (arith, f, leading_most breaks (take end t), length-take-le end t e.trailing.within)

  between_begun : begun (take end t) ≡ between
  between_begun =
      let s : from + (end - from) ≡ end = omega (arith, from_most) in
      let l = length-take-le from t (omega (arith, from_most, e.trailing.within)) in
      let p : take end t ≡ take from t ++ between = rw s at (take-add from (end - from) t) in
      rw (← f, p) (drop_at (take from t) between from l)

  -- it is what is edited
  pub between_edited : edit_from 0 between ≡ edited t
  between_edited =
      rw (edited_walk t, ← between_begun) (sym (rw (take-append-drop end t) at (edited_behind (take end t) (drop end t) e.trailing.all)))
