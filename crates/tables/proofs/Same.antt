-- Any two answers that the promise of a public function allows are equal (01, What the promises rule out).
use Rattle.basics.specs.Same.{OneAnswer, OneLent}
use Rattle.basics.specs.Laws.Same.{same}
use Rattle.tables.proofs.cartridge_of.Reads as cartridge-of
use Rattle.tables.proofs.jlp_of.Reads as jlp-of
use Rattle.tables.proofs.flash_words.Reads as flash-words
use Rattle.tables.proofs.no_cartridge.Reads as no-cartridge
use Rattle.tables.proofs.size.Reads as size
use Rattle.tables.proofs.write.Reads as write
use Rattle.tables.proofs.refused.Reads as refused

pub one_cartridge_of : OneAnswer cartridge-of.Learnt
one_cartridge_of κs a y z e f = same

pub one_jlp_of : OneAnswer jlp-of.Learnt
one_jlp_of κs a y z e f = same

pub one_flash_words : OneAnswer flash-words.Learnt
one_flash_words κs a y z e f = same

pub one_no_cartridge : OneAnswer no-cartridge.Learnt
one_no_cartridge κs a y z e f = same

pub one_size : OneAnswer size.Learnt
one_size κs a y z e f p q = same p.0 q.0

pub one_write : OneLent write.Learnt (λ κs e. e.0.now)
one_write κs a y z e f = same

pub one_refused : OneAnswer refused.Learnt
one_refused κs a y z e f = same
