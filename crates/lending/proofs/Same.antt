-- Any two answers that the promise of a public function allows are equal (01, What the promises rule out).
use Rattle.basics.specs.Same.{OneAnswer}
use Rattle.basics.specs.Laws.Same.{same}
use Rattle.lending.proofs.blank_ram.Reads as blank-ram
use Rattle.lending.proofs.erased_flash.Reads as erased-flash
use Rattle.lending.proofs.flash_for.Reads as flash-for
use Rattle.lending.proofs.flash_words.Reads as flash-words

pub one_blank_ram : OneAnswer blank-ram.Learnt
one_blank_ram κs a y z e f p q = same p.0 q.0

pub one_erased_flash : OneAnswer erased-flash.Learnt
one_erased_flash κs a y z e f p q = same p.0 q.0

pub one_flash_for : OneAnswer flash-for.Learnt
one_flash_for κs a y z e f = same

pub one_flash_words : OneAnswer flash-words.Learnt
one_flash_words κs a y z e f = same
