-- `owners::least_owner` meets its contract, by what its callees ensure.
use Rattle.owners.specs.Owners.{least_owner}
use Rattle.owners.proofs.Loops.{least_table}
use Rattle.owners.proofs.least_owner.Goals as goal

pub returns : goal.returns
unfolding least_owner
returns c =
    rw (c.lesser.ensures, c.least.ensures, c.least-2.ensures, c.met_paragraphs-paragraphs.ensures, c.met_pages-pages.ensures, least_table, least_table)
