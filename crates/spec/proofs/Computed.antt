-- Every definition of the papers by one name, for proofs that compute an example: `unfolding everything`.
-- Assumes nothing.
use Rattle.spec.specs.Tables.{among, same, entry, ascii}
use Rattle.spec.specs.Letters.{is_gap, is_break, is_mark, small, is_hard_only, is_paired, is_soft_only, is_consonant, is_sign}
use Rattle.spec.specs.Letters.{is_softening_vowel, is_vowel, is_obstruent, first_byte, begins_with_mark, put_letter, read, first_word}
use Rattle.spec.specs.Letters.{last_word}
use Rattle.spec.specs.Codes.{mark_of, is_voicing, is_devoicing}
use Rattle.spec.specs.Editions.{reduced, code_in}
use Rattle.spec.specs.Elision.{second_byte, elides_t, elides_d, elides_among, elides, elide_from, elide}
use Rattle.spec.specs.Syllables.{cover_after, has_mark, next_stressed, level_of, syllable_of, name_in, name_of, incomplete, names_from}
use Rattle.spec.specs.Vowels.{hard_end, ends_hard_from, ends_hard, by_stress, by_level, initial, rowА, rowО, rowУ, rowЫ, rowЭ, rowЕ, rowЁ}
use Rattle.spec.specs.Vowels.{rowЮ, rowЯ, rowИ, vowel_sound, bare, glides}
use Rattle.spec.specs.Phones.{written_code, softens, vowel_phones, phones_of, phones_from}
use Rattle.spec.specs.Voicing.{voiced_code, voiceless_code, voices, tone_of, toned, voice_one, voice}
use Rattle.spec.specs.Palatalization.{dental_before, nasal_before, own_before, is_soft, first_code, palatalize}
use Rattle.spec.specs.Tape.{word_tape, segment, sounds, tape, word_names, names_of, names}
use Rattle.spec.specs.Counting.{sound_count, codes_left, names_left, code_count_from, name_count_from, code_count, name_count}
use Rattle.spec.specs.Phrases.{put_byte, phrases, separated}
use Rattle.spec.specs.Refusals.{vowel_byte, sign_byte, hard_sign_byte, consonant_byte, letter_byte, first, none, adjacent, vowel_sign}
use Rattle.spec.specs.Refusals.{letters_before, row3, row4, row5, row6, row7, row8, row9, row10, rows, first_fit, fault_at, scan, check_of}
use Rattle.spec.specs.Refusals.{fits_in, before_at, fits, index_in, rank}
use Rattle.spec.specs.Joints.{joined_from, joined, mark_index, word_before, word_after, ends_in_obstruent_from, ends_in_obstruent}
use Rattle.spec.specs.Joints.{begins_with_i_or_e, live_by_voice, live_by_hardness, is_live, live_count, row12, bad_cut_from, bad_cut}
use Rattle.spec.specs.EditionDemands.{makers_from, makers_of, makers, newer, newer_of, live_in}
use Rattle.spec.specs.Answers.{number_of, place_of, length_of, live_of, within, after_check, output_after, name_answer, tape_answer}
use Rattle.spec.specs.Answers.{join_answer}
use Rattle.spec.specs.Editing.{pause_marks, gap_marks, replaced, one_break, put_break, merged, without_first, without_last, edited}
use Rattle.spec.specs.Editing.{edit_answer}
use Rattle.spec.specs.Utf8.{continuation, octets, is_character, letters, ascii_bytes, characters, row_bytes, has_row, sequence_in, byte_in}
use Rattle.spec.specs.Utf8.{sequence, byte_of, is_taken, encoded, decoded, read_to, read_answer, write_answer}
use Rattle.spec.specs.SpokenLevels.{byte_numbered, bytes, units, teens, tens, hundreds, feminine, word_in, thousand, thousands}
use Rattle.spec.specs.SpokenLevels.{below_hundred, number_words, level_words, after_gaps, spaced, marks_in, spoken, level_answer}
use Rattle.spec.specs.Book.{record_mark, two_bytes, head_of, record_of, records, pair_at, phrase_in, has_record_mark, is_whole, is_record}
use Rattle.spec.specs.Book.{row15, row16, ◌then◌, read_from, read_book, book_in, search, record_at, heard, told, handed, find_answer}
use Rattle.spec.specs.Book.{tape_after, placed, locate_answer, told_of, part_at, end_of, stands_after, unheard, after_listener, least_after}
use Rattle.spec.specs.Book.{after_book, with_addition, add_answer}

unfoldable pub everything : Unit {0}
unfolding among entry is_gap is_break is_mark small is_hard_only is_paired is_soft_only is_consonant is_sign is_softening_vowel is_vowel is_obstruent first_byte begins_with_mark put_letter read first_word last_word mark_of is_voicing is_devoicing second_byte elides_t elides_d elides elide_from elide cover_after has_mark next_stressed level_of syllable_of name_in name_of incomplete names_from hard_end ends_hard_from ends_hard by_stress by_level initial rowА rowО rowУ rowЫ rowЭ rowЕ rowЁ rowЮ rowЯ rowИ vowel_sound bare glides written_code softens vowel_phones phones_of phones_from voiced_code voiceless_code voices tone_of toned voice_one voice dental_before nasal_before own_before is_soft first_code palatalize word_tape segment sounds reduced code_in tape word_names names_of names sound_count codes_left names_left code_count_from name_count_from code_count name_count put_byte phrases separated vowel_byte sign_byte hard_sign_byte consonant_byte letter_byte first none adjacent vowel_sign letters_before row3 row4 row5 row6 row7 row8 row9 row10 rows first_fit fault_at scan check_of fits_in before_at fits index_in rank joined_from joined mark_index word_before word_after ends_in_obstruent_from ends_in_obstruent begins_with_i_or_e live_by_voice live_by_hardness is_live live_count row12 bad_cut_from bad_cut makers_from makers_of makers newer newer_of live_in number_of place_of length_of live_of within after_check output_after name_answer tape_answer join_answer elides_among ascii pause_marks gap_marks replaced one_break put_break merged without_first without_last edited edit_answer continuation octets is_character letters ascii_bytes characters row_bytes has_row same sequence_in byte_in sequence byte_of is_taken encoded decoded read_to read_answer write_answer byte_numbered bytes units teens tens hundreds feminine word_in thousand thousands below_hundred number_words level_words after_gaps spaced marks_in spoken level_answer record_mark two_bytes head_of record_of records pair_at phrase_in has_record_mark is_whole is_record row15 row16 ◌then◌ read_from read_book book_in search record_at heard told handed find_answer tape_after placed locate_answer told_of part_at end_of stands_after unheard after_listener least_after after_book with_addition add_answer
everything = tt
