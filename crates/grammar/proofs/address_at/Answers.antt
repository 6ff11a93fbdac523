-- `grammar::address_at` meets its contract: four hex digits make an address.
use Rattle.grammar.proofs.Numbers.{address_fits}
use Rattle.grammar.proofs.address_at.Goals as goal

pub overflow_cast-result : goal.overflow_cast-result
overflow_cast-result c = search (address_fits, c.in_ok-dollar_word.was)
