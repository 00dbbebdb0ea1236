-- The two editions (paper 02, request 8): one list of messages with their tapes in both, whole and cut, proved by computing the
-- definitions.
-- Assumes nothing.
use Prim.Native.Nat.{ℕ}
use Prim.Native.String as text
use mathlib.Core.Path.{◌≡◌, refl}
use mathlib.Core.List.{List, [], ◌∷◌, map}
use Rattle.spec.specs.Alphabet.{gap, «а», «д», «з», «к», «н», «о», «п», «т», «ы», «я»}
use Rattle.spec.specs.Codes.{А*, О*, Ы*, И*, А1, Э1, Ы1, И1, А2, Э2, В, В', Д, Д', Ж, J, З, З', К, Л, Л', М, М', Н, Н', Р, Р', С, С'}
use Rattle.spec.specs.Codes.{Т, Т', Ф, Ц, Ч, Ш}
use Rattle.spec.specs.SpokenLevels.{bytes}
use Rattle.spec.specs.Tape.{tape}
use Rattle.spec.specs.Joints.{joined}
use Rattle.spec.specs.Answers.{tape_answer, join_answer}
use Rattle.spec.specs.EditionDemands.{makers, newer_of}
use Rattle.spec.specs.declared.Edition.{Edition}
use Rattle.spec.specs.declared.Edition.TheVariants.{One, Two}
use Rattle.spec.proofs.Computed.{everything}
use Rattle.spec.specs.Results.{wrote}

pub record Read : Type 0 where
  pub message : text.String
  pub one : List ℕ
  pub two : List ℕ

-- a message that both editions read alike
abbrev alike : text.String → List ℕ → Read
alike m t = record { message = m; one = t; two = t }

unfoldable pub readings : List Read
readings =
    -- а after a soft-only consonant at level 1, я and е at level 1, with their glides
    (record { message = "часы*"; one = Ч ∷ Э1 ∷ С ∷ Ы* ∷ []; two = Ч ∷ И1 ∷ С ∷ Ы* ∷ [] }) ∷
    (record { message = "язы*к"; one = J ∷ Э1 ∷ З ∷ Ы* ∷ К ∷ []; two = J ∷ И1 ∷ З ∷ Ы* ∷ К ∷ [] }) ∷
    (record { message = "весна*"; one = В' ∷ Э1 ∷ С ∷ Н ∷ А* ∷ []; two = В' ∷ И1 ∷ С ∷ Н ∷ А* ∷ [] }) ∷
    (record { message = "мясни*к"; one = М' ∷ Э1 ∷ С' ∷ Н' ∷ И* ∷ К ∷ []; two = М' ∷ И1 ∷ С' ∷ Н' ∷ И* ∷ К ∷ [] }) ∷
    (record { message = "яйцо*"; one = J ∷ Э1 ∷ J ∷ Ц ∷ О* ∷ []; two = J ∷ И1 ∷ J ∷ Ц ∷ О* ∷ [] }) ∷
    (record { message = "статья"; one = С ∷ Т ∷ А1 ∷ Т' ∷ J ∷ Э1 ∷ []; two = С ∷ Т ∷ А1 ∷ Т' ∷ J ∷ И1 ∷ [] }) ∷
    -- initial at level 2
    (record { message = "ерала*ш"; one = J ∷ Э1 ∷ Р ∷ А1 ∷ Л ∷ А* ∷ Ш ∷ []; two = J ∷ И1 ∷ Р ∷ А1 ∷ Л ∷ А* ∷ Ш ∷ [] }) ∷
    (record { message = "январи*"; one = J ∷ Э1 ∷ Н ∷ В ∷ А1 ∷ Р' ∷ И* ∷ []; two = J ∷ И1 ∷ Н ∷ В ∷ А1 ∷ Р' ∷ И* ∷ [] }) ∷
    -- Э1 of э stays, and Ы1 of е and of э
    alike "эта*ж" (Э1 ∷ Т ∷ А* ∷ Ш ∷ []) ∷
    alike "жена*" (Ж ∷ Ы1 ∷ Н ∷ А* ∷ []) ∷
    alike "са*д эта*ж" (С ∷ А* ∷ Т ∷ 0 ∷ Ы1 ∷ Т ∷ А* ∷ Ш ∷ []) ∷
    -- Э2 stays, and А2
    alike "мяснико*в" (М' ∷ Э2 ∷ С' ∷ Н' ∷ И1 ∷ К ∷ О* ∷ Ф ∷ []) ∷
    alike "ча*са" (Ч ∷ А* ∷ С ∷ А2 ∷ []) ∷
    -- и keeps И1
    alike "сади*ть" (С ∷ А1 ∷ Д' ∷ И* ∷ Т' ∷ []) ∷ []

abbrev tapes : Edition → List (List ℕ)
tapes e = map (λ (r : Read). tape e (bytes r.message)) readings

pub edition_one : tapes One ≡ map (λ (r : Read). r.one) readings
unfolding everything readings
edition_one = refl

pub edition_two : tapes Two ≡ map (λ (r : Read). r.two) readings
unfolding everything readings
edition_two = refl

-- edition 2 by the makers of edition 1's codes
pub newer_right : map (λ (r : Read). newer_of (makers (bytes r.message)) r.one) readings ≡ map (λ (r : Read). r.two) readings
unfolding everything readings
newer_right = refl

-- a glide's maker is its vowel, a break makes its mark, and neither a sign nor a silent letter makes a code
pub makers_right : makers (bytes "язы*к по*здно да*ть")
    ≡ «я» ∷ «я» ∷ «з» ∷ «ы» ∷ «к» ∷ gap ∷ «п» ∷ «о» ∷ «з» ∷ «н» ∷ «о» ∷ gap ∷ «д» ∷ «а» ∷ «т» ∷ []
unfolding everything
makers_right = refl

-- A live cut in either edition, the whole and the parts in the same one: са*д земли*, cut at its gap.
pub joined_right : (joined One (bytes "са*д земли*") (4 ∷ []) ∷ joined Two (bytes "са*д земли*") (4 ∷ []) ∷ [])
    ≡ (С ∷ А* ∷ Т ∷ 0 ∷ З' ∷ Э1 ∷ М ∷ Л' ∷ И* ∷ []) ∷ (С ∷ А* ∷ Т ∷ 0 ∷ З' ∷ И1 ∷ М ∷ Л' ∷ И* ∷ []) ∷ []
unfolding everything
joined_right = refl

pub whole_right : tape Two (bytes "са*д земли*") ≡ С ∷ А* ∷ Д ∷ 0 ∷ З' ∷ И1 ∷ М ∷ Л' ∷ И* ∷ []
unfolding everything
whole_right = refl

pub answers_right : (join_answer Two (bytes "са*д земли*") (4 ∷ []) 9 ∷ tape_answer Two (bytes "са*д земли*") 9 ∷ [])
    ≡ wrote 9 1 ∷ wrote 9 0 ∷ []
unfolding everything
answers_right = refl
