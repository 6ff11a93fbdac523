-- `names::folder` meets its contract: the last `/` is found from the back.
use Rattle.std.proofs.Common.{arith, rules}
use Rattle.std.proofs.lemmas.Grind.{common_steps}
use Rattle.files.proofs.Named.{IsLastSlash, folder_found}
use Rattle.files.proofs.names.folder.Goals as goal

pub returns : goal.returns
returns c =
    let last : IsLastSlash c.args.name.now c.rposition.result = grind (arith, common_steps) in
    folder_found c.args.name.now c.rposition.result c.map_or.result last (search rules)
