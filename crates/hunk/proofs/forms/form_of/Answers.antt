-- `hunk::forms::form_of` meets its contract: each return has decided the tests of `form_of`.
use Rattle.basics.specs.Laws.Tests.{tests}
use Rattle.hunk.specs.Forms.{form_of}
use Rattle.hunk.proofs.forms.form_of.Goals as goal

pub returns-then-b-eq0 : goal.returns-then-b-eq0
unfolding form_of
returns-then-b-eq0 c = search tests

pub returns-then-b-lt64 : goal.returns-then-b-lt64
unfolding form_of
returns-then-b-lt64 c = search tests

pub returns-then-b-lt192 : goal.returns-then-b-lt192
unfolding form_of
returns-then-b-lt192 c = search tests

pub returns-then-b-lt254 : goal.returns-then-b-lt254
unfolding form_of
returns-then-b-lt254 c = search tests

pub returns : goal.returns
unfolding form_of
returns c = search tests
