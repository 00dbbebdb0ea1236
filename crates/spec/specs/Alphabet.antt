-- Paper 01, 'Bytes of a message': the bytes that a message is made of, in Windows-1251. A letter is
-- written in quotes, «а», and is its small byte.
-- Assumes nothing: these are definitions.
use Rattle.std.specs.Prelude.{ℕ}

-- a gap and a pause (both are breaks), and the stress mark
abbrev pub gap : ℕ
gap = 0x20

abbrev pub pause : ℕ
pause = 0x23

abbrev pub mark : ℕ
mark = 0x2A

-- the letters, а to я in alphabet order, then ё
abbrev pub «а» : ℕ
«а» = 0xE0

abbrev pub «б» : ℕ
«б» = 0xE1

abbrev pub «в» : ℕ
«в» = 0xE2

abbrev pub «г» : ℕ
«г» = 0xE3

abbrev pub «д» : ℕ
«д» = 0xE4

abbrev pub «е» : ℕ
«е» = 0xE5

abbrev pub «ж» : ℕ
«ж» = 0xE6

abbrev pub «з» : ℕ
«з» = 0xE7

abbrev pub «и» : ℕ
«и» = 0xE8

abbrev pub «й» : ℕ
«й» = 0xE9

abbrev pub «к» : ℕ
«к» = 0xEA

abbrev pub «л» : ℕ
«л» = 0xEB

abbrev pub «м» : ℕ
«м» = 0xEC

abbrev pub «н» : ℕ
«н» = 0xED

abbrev pub «о» : ℕ
«о» = 0xEE

abbrev pub «п» : ℕ
«п» = 0xEF

abbrev pub «р» : ℕ
«р» = 0xF0

abbrev pub «с» : ℕ
«с» = 0xF1

abbrev pub «т» : ℕ
«т» = 0xF2

abbrev pub «у» : ℕ
«у» = 0xF3

abbrev pub «ф» : ℕ
«ф» = 0xF4

abbrev pub «х» : ℕ
«х» = 0xF5

abbrev pub «ц» : ℕ
«ц» = 0xF6

abbrev pub «ч» : ℕ
«ч» = 0xF7

abbrev pub «ш» : ℕ
«ш» = 0xF8

abbrev pub «щ» : ℕ
«щ» = 0xF9

abbrev pub «ъ» : ℕ
«ъ» = 0xFA

abbrev pub «ы» : ℕ
«ы» = 0xFB

abbrev pub «ь» : ℕ
«ь» = 0xFC

abbrev pub «э» : ℕ
«э» = 0xFD

abbrev pub «ю» : ℕ
«ю» = 0xFE

abbrev pub «я» : ℕ
«я» = 0xFF

abbrev pub «ё» : ℕ
«ё» = 0xB8
