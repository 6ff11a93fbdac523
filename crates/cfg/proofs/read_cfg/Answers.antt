-- `cfg::read_cfg` meets its contract: each way out is a row's, or no row's.
use Rattle.cfg.proofs.Answers.{read-long, read-foreign, read-lines}
use Rattle.cfg.proofs.read_cfg.Goals as goal

pub returns-then-cfg-gt-CFG_LIMIT : goal.returns-then-cfg-gt-CFG_LIMIT
returns-then-cfg-gt-CFG_LIMIT c = search read-long

pub returns-then-at-cfg : goal.returns-then-at-cfg
returns-then-at-cfg c = search read-foreign

pub returns : goal.returns
returns c = search read-lines
