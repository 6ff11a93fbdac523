-- Any two answers that the promise of a public function allows are equal (01, What the promises rule out). What the system does can
-- be promised by nobody: `read_all` to `write_arguments`, and `answer`, are tried by tests/files.sh.
use Rattle.basics.specs.Same.{OneAnswer, OneLent}
use Rattle.basics.specs.Laws.Same.{same}
use Rattle.files.proofs.names.folder.Reads as folder
use Rattle.files.proofs.names.is_name.Reads as is_name
use Rattle.files.proofs.names.part_name.Reads as part-name
use Rattle.files.proofs.reading.meaning.Reads as meaning
use Rattle.files.proofs.reading.stop_of.Reads as stop-of
use Rattle.files.proofs.rule.kind_of.Reads as kind_of_lem
use Rattle.files.proofs.rule.same_file.Reads as same-file
use Rattle.files.proofs.rule.is_input.Reads as is-input
use Rattle.files.proofs.rule.verdict.Reads as verdict

pub one_folder : OneAnswer folder.Learnt
one_folder κs a y z e f p q = same p.0 q.0

pub one_is_name : OneAnswer is_name.Learnt
one_is_name κs a y z e f = same

pub one_part_name : OneAnswer part-name.Learnt
one_part_name κs a y z e f p q = same p.0 q.0

pub one_part_name_lent : OneLent part-name.Learnt (λ κs e. e.1.1.0.now)
one_part_name_lent κs a y z e f p q = same p.1.0 q.1.0

pub one_meaning : OneAnswer meaning.Learnt
one_meaning κs a y z e f p q = same p.0 q.0

pub one_stop_of : OneAnswer stop-of.Learnt
one_stop_of κs a y z e f = same

pub one_kind_of : OneAnswer kind_of_lem.Learnt
one_kind_of κs a y z e f = same

pub one_same_file : OneAnswer same-file.Learnt
one_same_file κs a y z e f = same

pub one_is_input : OneAnswer is-input.Learnt
one_is_input κs a y z e f = same

pub one_verdict : OneAnswer verdict.Learnt
one_verdict κs a y z e f = same
