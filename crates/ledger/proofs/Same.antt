-- Any two answers that the promise of a public function allows are equal (01, What the promises rule out).
use Rattle.basics.specs.Same.{OneAnswer, OneLent, OneSeen}
use Rattle.basics.specs.Laws.Same.{same}
use Rattle.ledger.proofs.Listing.as_slice.Reads as as-slice
use Rattle.ledger.proofs.Sketch.listing.Reads as listing
use Rattle.ledger.proofs.Sketch.bin_size.Reads as bin-size
use Rattle.ledger.proofs.Sketch.put_bin.Reads as put-bin
use Rattle.ledger.proofs.bin.word_of.Reads as word_of
use Rattle.ledger.proofs.Sketch.holds_ram.Reads as holds-ram

pub one_listing : OneAnswer listing.Learnt
one_listing κs a y z e f = same

pub one_bin_size : OneAnswer bin-size.Learnt
one_bin_size κs a y z e f = same

pub one_word_of : OneAnswer word_of.Learnt
one_word_of κs a y z e f = same

pub one_holds_ram : OneAnswer holds-ram.Learnt
one_holds_ram κs a y z e f = same

pub one_put_bin : OneLent put-bin.Learnt (λ κs e. e.1.0.now)
one_put_bin κs a y z e f = same

pub one_as_slice : OneSeen as-slice.Learnt (λ κs y. y.now)
one_as_slice κs a y z e f = same
