-- Any two answers that the promise of a public function allows are equal (01, What the promises rule out).
use Rattle.basics.specs.Same.{OneAnswer, OneLent}
use Rattle.basics.specs.Laws.Same.{same}
use Rattle.exports.proofs.luigi_dowcrc.Reads as luigi-dowcrc
use Rattle.exports.proofs.luigi_crc324.Reads as luigi-crc324
use Rattle.exports.proofs.luigi_crc32.Reads as luigi-crc32
use Rattle.exports.proofs.luigi_load.Reads as luigi-load
use Rattle.exports.proofs.luigi_build.Reads as luigi-build
use Rattle.exports.proofs.luigi_reads.Reads as luigi-reads
use Rattle.exports.proofs.luigi_reads_by_value.Reads as luigi-reads-by-value
use Rattle.exports.proofs.luigi_writes.Reads as luigi-writes
use Rattle.exports.proofs.luigi_writes_by_value.Reads as luigi-writes-by-value
use Rattle.exports.proofs.luigi_flash_words.Reads as luigi-flash-words
use Rattle.exports.proofs.writer.luigi_write_image.Reads as luigi-write-image
use Rattle.exports.proofs.lent.luigi_read.Reads as luigi-read
use Rattle.exports.proofs.lent.luigi_write.Reads as luigi-write
use Rattle.exports.proofs.lent.luigi_reset.Reads as luigi-reset
use Rattle.exports.proofs.state.luigi_state.Reads as luigi-state
use Rattle.exports.proofs.state.luigi_read_by_value.Reads as luigi-read-by-value
use Rattle.exports.proofs.state.luigi_write_by_value.Reads as luigi-write-by-value
use Rattle.exports.proofs.state.luigi_reset_by_value.Reads as luigi-reset-by-value
use Rattle.exports.proofs.state.luigi_run.Reads as luigi-run
use Rattle.exports.proofs.desk.luigi_find.Reads as luigi-find
use Rattle.exports.proofs.desk.luigi_salvage.Reads as luigi-salvage
use Rattle.exports.proofs.desk.luigi_drops.Reads as luigi-drops
use Rattle.exports.proofs.desk.luigi_unbuild.Reads as luigi-unbuild

pub one_dowcrc : OneAnswer luigi-dowcrc.Learnt
one_dowcrc κs a y z e f = same

pub one_crc324 : OneAnswer luigi-crc324.Learnt
one_crc324 κs a y z e f = same

pub one_crc32 : OneAnswer luigi-crc32.Learnt
one_crc32 κs a y z e f = same

pub one_load : OneAnswer luigi-load.Learnt
one_load κs a y z e f p q = same p.0 q.0

pub one_load_ram : OneLent luigi-load.Learnt (λ κs e. e.1.0.now)
one_load_ram κs a y z e f p q = same p.1 q.1

pub one_build : OneAnswer luigi-build.Learnt
one_build κs a y z e f p q = same p.0 q.0

pub one_build_out : OneLent luigi-build.Learnt (λ κs e. e.1.1.1.0.now)
one_build_out κs a y z e f p q = same p.1 q.1

pub one_reads : OneLent luigi-reads.Learnt (λ κs e. e.1.1.1.1.1.0.now)
one_reads κs a y z e f = same

pub one_reads_by_value : OneLent luigi-reads-by-value.Learnt (λ κs e. e.1.1.1.1.1.1.0.now)
one_reads_by_value κs a y z e f = same

pub one_writes_readable : OneLent luigi-writes.Learnt (λ κs e. e.1.1.1.0.now)
one_writes_readable κs a y z e f p q = same p.0 q.0

pub one_writes_mapping : OneLent luigi-writes.Learnt (λ κs e. e.0.now)
one_writes_mapping κs a y z e f p q = same p.1 q.1

pub one_writes_permissions : OneLent luigi-writes.Learnt (λ κs e. e.1.0.now)
one_writes_permissions κs a y z e f p q = same p.2 q.2

pub one_writes_accelerators : OneLent luigi-writes.Learnt (λ κs e. e.1.1.1.1.0.now)
one_writes_accelerators κs a y z e f p q = same p.3 q.3

pub one_writes_ram : OneLent luigi-writes.Learnt (λ κs e. e.1.1.1.1.1.0.now)
one_writes_ram κs a y z e f p q = same p.4 q.4

pub one_writes_flash : OneLent luigi-writes.Learnt (λ κs e. e.1.1.1.1.1.1.0.now)
one_writes_flash κs a y z e f p q = same p.5 q.5

pub one_writes_assigned : OneLent luigi-writes.Learnt (λ κs e. e.1.1.1.1.1.1.1.1.1.0.now)
one_writes_assigned κs a y z e f p q = same p.6 q.6

pub one_writes_by_value : OneAnswer luigi-writes-by-value.Learnt
one_writes_by_value κs a y z e f p q = same p.0 q.0

pub one_writes_by_value_ram : OneLent luigi-writes-by-value.Learnt (λ κs e. e.1.1.1.1.0.now)
one_writes_by_value_ram κs a y z e f p q = same p.1 q.1

pub one_writes_by_value_flash : OneLent luigi-writes-by-value.Learnt (λ κs e. e.1.1.1.1.1.0.now)
one_writes_by_value_flash κs a y z e f p q = same p.2 q.2

pub one_flash_words : OneAnswer luigi-flash-words.Learnt
one_flash_words κs a y z e f = same

pub one_write_image : OneAnswer luigi-write-image.Learnt
one_write_image κs a y z e f p q = same p.0 q.0

pub one_write_image_out : OneLent luigi-write-image.Learnt (λ κs e. e.1.1.1.1.1.1.1.0.now)
one_write_image_out κs a y z e f p q = same p.1 q.1

pub one_read : OneAnswer luigi-read.Learnt
one_read κs a y z e f = same

pub one_write : OneAnswer luigi-write.Learnt
one_write κs a y z e f p q = same p.0 q.0

pub one_write_readable : OneLent luigi-write.Learnt (λ κs e. e.1.1.1.0.now)
one_write_readable κs a y z e f p q = same p.1 q.1

pub one_write_mapping : OneLent luigi-write.Learnt (λ κs e. e.0.now)
one_write_mapping κs a y z e f p q = same p.2 q.2

pub one_write_permissions : OneLent luigi-write.Learnt (λ κs e. e.1.0.now)
one_write_permissions κs a y z e f p q = same p.3 q.3

pub one_write_accelerators : OneLent luigi-write.Learnt (λ κs e. e.1.1.1.1.0.now)
one_write_accelerators κs a y z e f p q = same p.4 q.4

pub one_write_ram : OneLent luigi-write.Learnt (λ κs e. e.1.1.1.1.1.0.now)
one_write_ram κs a y z e f p q = same p.5 q.5

pub one_write_flash : OneLent luigi-write.Learnt (λ κs e. e.1.1.1.1.1.1.0.now)
one_write_flash κs a y z e f p q = same p.6 q.6

pub one_reset_mapping : OneLent luigi-reset.Learnt (λ κs e. e.1.1.0.now)
one_reset_mapping κs a y z e f p q = same p.0 q.0

pub one_reset_permissions : OneLent luigi-reset.Learnt (λ κs e. e.1.1.1.0.now)
one_reset_permissions κs a y z e f p q = same p.1 q.1

pub one_reset_readable : OneLent luigi-reset.Learnt (λ κs e. e.1.1.1.1.0.now)
one_reset_readable κs a y z e f p q = same p.2 q.2

pub one_reset_accelerators : OneLent luigi-reset.Learnt (λ κs e. e.1.1.1.1.1.0.now)
one_reset_accelerators κs a y z e f p q = same p.3 q.3

pub one_state : OneAnswer luigi-state.Learnt
one_state κs a y z e f = same

pub one_read_by_value : OneAnswer luigi-read-by-value.Learnt
one_read_by_value κs a y z e f = same

pub one_write_by_value : OneAnswer luigi-write-by-value.Learnt
one_write_by_value κs a y z e f p q = same p.0 q.0

pub one_write_by_value_ram : OneLent luigi-write-by-value.Learnt (λ κs e. e.1.0.now)
one_write_by_value_ram κs a y z e f p q = same p.1 q.1

pub one_write_by_value_flash : OneLent luigi-write-by-value.Learnt (λ κs e. e.1.1.0.now)
one_write_by_value_flash κs a y z e f p q = same p.2 q.2

pub one_reset_by_value : OneAnswer luigi-reset-by-value.Learnt
one_reset_by_value κs a y z e f = same

pub one_run : OneAnswer luigi-run.Learnt
one_run κs a y z e f p q = same p.0 q.0

pub one_run_ram : OneLent luigi-run.Learnt (λ κs e. e.1.1.1.0.now)
one_run_ram κs a y z e f p q = same p.1 q.1

pub one_run_flash : OneLent luigi-run.Learnt (λ κs e. e.1.1.1.1.0.now)
one_run_flash κs a y z e f p q = same p.2 q.2

pub one_run_out : OneLent luigi-run.Learnt (λ κs e. e.1.1.1.1.1.0.now)
one_run_out κs a y z e f p q = same p.3 q.3

pub one_find : OneAnswer luigi-find.Learnt
one_find κs a y z e f = same

pub one_salvage : OneAnswer luigi-salvage.Learnt
one_salvage κs a y z e f p q = same p.0 q.0

pub one_salvage_out : OneLent luigi-salvage.Learnt (λ κs e. e.1.0.now)
one_salvage_out κs a y z e f p q = same p.1 q.1

pub one_drops : OneAnswer luigi-drops.Learnt
one_drops κs a y z e f p q = same p.0 q.0

pub one_drops_places : OneLent luigi-drops.Learnt (λ κs e. e.1.0.now)
one_drops_places κs a y z e f p q = same p.1 q.1

pub one_unbuild : OneAnswer luigi-unbuild.Learnt
one_unbuild κs a y z e f p q = same p.0 q.0

pub one_unbuild_bin : OneLent luigi-unbuild.Learnt (λ κs e. e.1.0.now)
one_unbuild_bin κs a y z e f p q = same p.1 q.1

pub one_unbuild_cfg : OneLent luigi-unbuild.Learnt (λ κs e. e.1.1.0.now)
one_unbuild_cfg κs a y z e f p q = same p.2 q.2
