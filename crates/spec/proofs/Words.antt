-- Paper 01, 'Words to prove', and the program's example, with words for what paper 02 has changed: one list, one proof, by computing the
-- passes. Last, request 4 for every syllable. A quoted message is the bytes of its characters, by the table of slip 2.
-- Assumes nothing.
use Prim.Native.Nat.{ℕ}
use mathlib.Core.Path.{◌≡◌, refl}
use mathlib.Core.Bool.{Bool}
use mathlib.Core.List.{List, [], ◌∷◌, ◌++◌, flatten, map}
use lib.ListN.{length, replicate}
use Rattle.spec.specs.Alphabet.{«о»}
use Rattle.spec.specs.Alphabet.{«ъ», «ь»}
use Rattle.spec.specs.Codes.{J, И*, И1, А*, А1, А2, Б, Б', В, Г, Г', Д, Ж, З, З', К, Л, Л', М, М', Н, Н', О*, П, Р, С, С', Т, Т', У*, У1, Ш}
use Rattle.spec.specs.Codes.{Ы*, Ы1, Э*, Э2}
use Rattle.spec.specs.Vowels.{rowО}
use Rattle.spec.specs.Phones.{vowel_phones}
use Rattle.spec.specs.Voicing.{codes_of}
use Rattle.spec.specs.Tape.{tape}
use Rattle.spec.specs.Joints.{joined}
use Rattle.spec.specs.Answers.{tape_answer, join_answer}
use Rattle.spec.specs.declared.Edition.TheVariants.{One}
use Rattle.spec.specs.Results.{Answer, wrote}
use Rattle.spec.specs.declared.Syllable.{Syllable}
use Rattle.spec.specs.SpokenLevels.{bytes}
use Rattle.spec.proofs.Computed.{everything}

-- what is heard of a message, whole and cut: the tapes, and what transcriber and joiner answer with room enough
pub record Heard : Type 0 where
  pub whole : List ℕ
  pub parts : List ℕ
  pub transcribed : Answer
  pub joins : Answer

pub record Example : Type 0 where
  pub message : List ℕ
  pub cuts : List ℕ
  pub whole : List ℕ
  pub parts : List ℕ
  pub live : ℕ

-- a word without cuts: its only part is the whole
abbrev pub word : List ℕ → List ℕ → Example
word m t = record { message = m; cuts = []; whole = t; parts = t; live = 0 }

unfoldable pub examples : List Example
examples =
    (word (bytes "вода*") (В ∷ А1 ∷ Д ∷ А* ∷ [])) ∷
    (word (bytes "ду*б го*л") (Д ∷ У* ∷ Б ∷ 0 ∷ Г ∷ О* ∷ Л ∷ [])) ∷
    (word (bytes "ду*б#го*л") (Д ∷ У* ∷ П ∷ 63 ∷ Г ∷ О* ∷ Л ∷ [])) ∷
    (word (bytes "са*д и*вы") (С ∷ А* ∷ Т ∷ 0 ∷ Ы* ∷ В ∷ Ы1 ∷ [])) ∷
    (word (bytes "подъе*зд") (П ∷ А1 ∷ Д ∷ J ∷ Э* ∷ С ∷ Т ∷ [])) ∷
    (word (bytes "по*здно") (П ∷ О* ∷ З ∷ Н ∷ А2 ∷ [])) ∷
    (word (bytes "сте*нды") (С' ∷ Т' ∷ Э* ∷ Н ∷ Д ∷ Ы1 ∷ [])) ∷
    (word (bytes "про*сьба") (П ∷ Р ∷ О* ∷ З' ∷ Б ∷ А2 ∷ [])) ∷
    (word (bytes "жена*") (Ж ∷ Ы1 ∷ Н ∷ А* ∷ [])) ∷
    (word (bytes "ду*б ра*д") (24 ∷ 6 ∷ 39 ∷ 0 ∷ 41 ∷ 1 ∷ 45 ∷ [])) ∷
    (word (bytes "са*д к до*му") (С ∷ А* ∷ Д ∷ 0 ∷ Г ∷ 0 ∷ Д ∷ О* ∷ М ∷ У1 ∷ [])) ∷
    -- cut at 4, and at 4 and 6
    (record {
      message = bytes "са*д к до*му";
      cuts = 4 ∷ [];
      whole = С ∷ А* ∷ Д ∷ 0 ∷ Г ∷ 0 ∷ Д ∷ О* ∷ М ∷ У1 ∷ [];
      parts = С ∷ А* ∷ Т ∷ 0 ∷ Г ∷ 0 ∷ Д ∷ О* ∷ М ∷ У1 ∷ [];
      live = 1;
    }) ∷
    (record {
      message = bytes "са*д к до*му";
      cuts = 4 ∷ 6 ∷ [];
      whole = С ∷ А* ∷ Д ∷ 0 ∷ Г ∷ 0 ∷ Д ∷ О* ∷ М ∷ У1 ∷ [];
      parts = С ∷ А* ∷ Т ∷ 0 ∷ К ∷ 0 ∷ Д ∷ О* ∷ М ∷ У1 ∷ [];
      live = 2;
    }) ∷
    -- mistakes near at hand: nothing is voiced before В
    (word (bytes "свой") (С ∷ В ∷ А1 ∷ J ∷ [])) ∷
    (word (bytes "са*д в до*м") (С ∷ А* ∷ Т ∷ 0 ∷ В ∷ 0 ∷ Д ∷ О* ∷ М ∷ [])) ∷
    -- и over a pause
    (word (bytes "са*д#и*вы") (С ∷ А* ∷ Т ∷ 63 ∷ И* ∷ В ∷ Ы1 ∷ [])) ∷
    -- paper 02, request 4: о after ь, at level S
    (word (bytes "бульо*н") (Б ∷ У1 ∷ Л' ∷ J ∷ О* ∷ Н ∷ [])) ∷
    (word (bytes "каньо*н") (К ∷ А1 ∷ Н' ∷ J ∷ О* ∷ Н ∷ [])) ∷
    (word (bytes "медальо*н") (М' ∷ Э2 ∷ Д ∷ А1 ∷ Л' ∷ J ∷ О* ∷ Н ∷ [])) ∷
    -- at level 1, with no mark and before the stress
    (word (bytes "бульон") (Б ∷ У1 ∷ Л' ∷ J ∷ А1 ∷ Н ∷ [])) ∷
    (word (bytes "гильоти*на") (Г' ∷ И1 ∷ Л' ∷ J ∷ А1 ∷ Т' ∷ И* ∷ Н ∷ А2 ∷ [])) ∷
    -- at level 2
    (word (bytes "гильотини*ровать") (Г' ∷ И1 ∷ Л' ∷ J ∷ А2 ∷ Т' ∷ И1 ∷ Н' ∷ И* ∷ Р ∷ А2 ∷ В ∷ А2 ∷ Т' ∷ [])) ∷
    -- not after ъ, and no other vowel of V1 after ь
    (word (bytes "подъо*м") (П ∷ А1 ∷ Д ∷ О* ∷ М ∷ [])) ∷
    (word (bytes "бульа*н") (Б ∷ У1 ∷ Л' ∷ А* ∷ Н ∷ [])) ∷
    -- a hard-only consonant stays so
    (word (bytes "шьо*") (Ш ∷ J ∷ О* ∷ [])) ∷
    -- as many as a word has room for: 21 times бьо, and б
    (word (flatten (replicate 21 (bytes "бьо")) ++ (bytes "б")) (flatten (replicate 21 (Б' ∷ J ∷ А1 ∷ [])) ++ (П ∷ []))) ∷
    []

-- room for every example's answer
abbrev pub room : ℕ
room = 100

abbrev pub expected : Example → Heard
expected e = record { whole = e.whole; parts = e.parts; transcribed = wrote (length e.whole) 0; joins = wrote (length e.parts) e.live }

abbrev pub found : Example → Heard
found e = record {
  whole = tape One e.message;
  parts = joined One e.message e.cuts;
  transcribed = tape_answer One e.message room;
  joins = join_answer One e.message e.cuts room;
}

pub words : map found examples ≡ map expected examples
unfolding everything examples flatten
words = refl

-- paper 02, request 4, for every syllable: о after ь has J before the sound of its row, and after ъ that sound alone
pub glide_of_o : (hard : Bool) (s : Syllable) → (codes_of (vowel_phones hard «ь» «о» s) ≡ J ∷ rowО hard «ь» s ∷ [])
    × (codes_of (vowel_phones hard «ъ» «о» s) ≡ rowО hard «ъ» s ∷ [])
unfolding everything
glide_of_o hard s = (refl, refl)
