-- Every definition of the papers, of bytes and of the check's walk by one name, for proofs that compute a table: `unfolding everything`.
use Rattle.message.specs.Steps.{next_kind, fault_in, width_in, tail_names, names_in, ask_in, stop_in, packed, pairs, kind_at, width_at}
use Rattle.message.specs.Steps.{codes_to}
use Rattle.message.specs.Steps.{names_to, letters_at, fault_here}
use Rattle.letters.proofs.Computed as letters

unfoldable pub everything : Unit {0}
unfolding letters.everything next_kind fault_in width_in tail_names names_in ask_in stop_in packed pairs kind_at width_at codes_to names_to
    letters_at fault_here
everything = tt
