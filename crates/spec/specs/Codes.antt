-- Paper 01, 'Codes': the byte of each sound, of a gap and of a pause on the tape, and the two sets
-- of sounds that pass 4 goes by. A sound is written as the paper writes it: А* is stressed, А1 and
-- А2 are reduced, Б' is palatalized (the paper's soft). J is the glide.
-- Assumes nothing: these are definitions.
use Rattle.std.specs.Prelude.{ℕ, suc, Bool, cond, ◌||◌, List, [], ◌∷◌, eqb}
use Rattle.spec.specs.Alphabet.{pause}
use Rattle.spec.specs.Tables.{among}
use Rattle.spec.specs.Letters.{between}

-- 'Codes', 1 to 56 in the paper's order
abbrev pub А* : ℕ
А* = 1

abbrev pub О* : ℕ
О* = 2

abbrev pub Э* : ℕ
Э* = 3

abbrev pub Ы* : ℕ
Ы* = 4

abbrev pub И* : ℕ
И* = 5

abbrev pub У* : ℕ
У* = 6

abbrev pub А1 : ℕ
А1 = 7

abbrev pub Э1 : ℕ
Э1 = 8

abbrev pub Ы1 : ℕ
Ы1 = 9

abbrev pub И1 : ℕ
И1 = 10

abbrev pub У1 : ℕ
У1 = 11

abbrev pub А2 : ℕ
А2 = 12

abbrev pub Э2 : ℕ
Э2 = 13

abbrev pub О : ℕ
О = 14

abbrev pub Е : ℕ
Е = 15

abbrev pub Б : ℕ
Б = 16

abbrev pub Б' : ℕ
Б' = 17

abbrev pub В : ℕ
В = 18

abbrev pub В' : ℕ
В' = 19

abbrev pub Г : ℕ
Г = 20

abbrev pub Г' : ℕ
Г' = 21

abbrev pub Х1 : ℕ
Х1 = 22

abbrev pub Х1' : ℕ
Х1' = 23

abbrev pub Д : ℕ
Д = 24

abbrev pub Д' : ℕ
Д' = 25

abbrev pub Ж : ℕ
Ж = 26

abbrev pub Ж' : ℕ
Ж' = 27

abbrev pub J : ℕ
J = 28

abbrev pub З : ℕ
З = 29

abbrev pub З' : ℕ
З' = 30

abbrev pub К : ℕ
К = 31

abbrev pub К' : ℕ
К' = 32

abbrev pub Л : ℕ
Л = 33

abbrev pub Л' : ℕ
Л' = 34

abbrev pub М : ℕ
М = 35

abbrev pub М' : ℕ
М' = 36

abbrev pub Н : ℕ
Н = 37

abbrev pub Н' : ℕ
Н' = 38

abbrev pub П : ℕ
П = 39

abbrev pub П' : ℕ
П' = 40

abbrev pub Р : ℕ
Р = 41

abbrev pub Р' : ℕ
Р' = 42

abbrev pub С : ℕ
С = 43

abbrev pub С' : ℕ
С' = 44

abbrev pub Т : ℕ
Т = 45

abbrev pub Т' : ℕ
Т' = 46

abbrev pub Ф : ℕ
Ф = 47

abbrev pub Ф' : ℕ
Ф' = 48

abbrev pub Х : ℕ
Х = 49

abbrev pub Х' : ℕ
Х' = 50

abbrev pub Ц : ℕ
Ц = 51

abbrev pub Ц1 : ℕ
Ц1 = 52

abbrev pub Ч : ℕ
Ч = 53

abbrev pub Ч1 : ℕ
Ч1 = 54

abbrev pub Ш : ℕ
Ш = 55

abbrev pub Щ : ℕ
Щ = 56

-- The reduced vowel that the rows of е, я and а make (paper 02, request 8). It has no code of its
-- own: each edition reads it as one, Э1 or И1.
abbrev pub ИЭ : ℕ
ИЭ = 58

-- 'Codes', the codes of a gap and of a pause
unfoldable pub mark_of : ℕ → ℕ
mark_of b = cond (eqb b pause) 63 0

unfoldable pub is_mark_code : ℕ → Bool
is_mark_code c = eqb c 0 || eqb c 63

-- the codes of the sounds that arise: О and Е, 14 and 15, never do yet
unfoldable pub is_sound_code : ℕ → Bool
is_sound_code c = between А* Э2 c || between Б Щ c

-- what the passes make of a word: the sounds that are codes, and ИЭ
abbrev pub is_sound : ℕ → Bool
is_sound c = is_sound_code c || eqb c ИЭ

-- what can stand on a tape
unfoldable pub is_code : ℕ → Bool
is_code c = is_sound_code c || is_mark_code c

-- in the code list a palatalized sound stands right after its hard one
abbrev pub palatalized : ℕ → ℕ
palatalized c = suc c

-- Pass 4, the set D: the sounds that voice an obstruent before them
abbrev pub voicing_sounds : List ℕ
voicing_sounds = Б ∷ Г ∷ Х1 ∷ Д ∷ Ж ∷ З ∷ Ц1 ∷ Ч1 ∷ Б' ∷ Г' ∷ Х1' ∷ Д' ∷ Ж' ∷ З' ∷ []

-- Pass 4, the set U: the sounds that devoice an obstruent before them
abbrev pub devoicing_sounds : List ℕ
devoicing_sounds = К ∷ П ∷ С ∷ Т ∷ Ф ∷ Х ∷ К' ∷ П' ∷ С' ∷ Т' ∷ Ф' ∷ Х' ∷ Ц ∷ Ч ∷ Ш ∷ Щ ∷ []

unfoldable pub is_voicing : ℕ → Bool
is_voicing c = among voicing_sounds c

unfoldable pub is_devoicing : ℕ → Bool
is_devoicing c = among devoicing_sounds c
