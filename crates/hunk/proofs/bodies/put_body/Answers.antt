-- `hunk::bodies::put_body` meets its contract: each arm puts the words in its form.
use borrow.Author.Rules.{rules}
use Rattle.hunk.proofs.Packed.{bodies}
use Rattle.hunk.proofs.bodies.put_body.Goals as goal

pub put_lower-requires : goal.put_lower-requires
put_lower-requires c = search (rules, bodies)

pub put_decles-requires : goal.put_decles-requires
put_decles-requires c = search (rules, bodies)

pub returns-in-Bytes : goal.returns-in-Bytes
returns-in-Bytes c = search (rules, bodies)

pub returns-in-Decles : goal.returns-in-Decles
returns-in-Decles c = search (rules, bodies)

pub returns-in-Words : goal.returns-in-Words
returns-in-Words c = search (rules, bodies)
