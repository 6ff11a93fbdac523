-- Any two answers that the promise of a public function allows are equal (01, What the promises rule out).
use Rattle.basics.specs.Same.{OneAnswer}
use Rattle.basics.specs.Laws.Same.{same}
use Rattle.owners.proofs.no_owners.Reads as no-owners
use Rattle.owners.proofs.claim_paragraphs.Reads as claim-paragraphs
use Rattle.owners.proofs.claim.Reads as claim
use Rattle.owners.proofs.least_owner.Reads as least-owner

pub one_no_owners : OneAnswer no-owners.Learnt
one_no_owners κs a y z e f = same

pub one_claim_paragraphs : OneAnswer claim-paragraphs.Learnt
one_claim_paragraphs κs a y z e f = same

pub one_claim : OneAnswer claim.Learnt
one_claim κs a y z e f = same

pub one_least_owner : OneAnswer least-owner.Learnt
one_least_owner κs a y z e f = same
