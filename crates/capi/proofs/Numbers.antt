-- The numbers of an answer by one name, for functions that say them.
use Rattle.spec.specs.Answers.{number_of, place_of, length_of, live_of, checked_number, checked_place, checked_codes, checked_names}
use Rattle.capi.specs.Said.{number_found, place_found, is_found, start_found, length_found}

unfoldable pub numbers : Unit {0}
unfolding number_of place_of length_of live_of checked_number checked_place checked_codes checked_names number_found place_found is_found start_found length_found
numbers = tt
