-- Any two answers that the promise of a public function allows are equal; of a part that is shown, its bytes and where they stand. The
-- ghost name under which the proof keeps a reference is no part of an answer.
use mathlib.Core.Path.{◌≡◌}
use mathlib.Core.List.{List}
use Prim.Native.Nat.{ℕ}
use denote.Ref.{Bor}
use Rattle.basics.specs.Same.{OneAnswer}
use Rattle.basics.specs.Laws.Same.{same}
use Rattle.lookup.specs.Lookup.{find_of}
use Rattle.lookup.specs.Shown.{place_in}
use Rattle.lookup.specs.Laws.Shown.{one_shown}
use Rattle.lookup.proofs.seek.Reads as seek
use Rattle.lookup.proofs.is_twice.Reads as is-twice
use Rattle.lookup.proofs.refusal_of.Reads as refusal-of
use Rattle.lookup.proofs.text_of.Reads as text_of
use Rattle.lookup.proofs.find.Reads as find
use Rattle.lookup.proofs.shown.Reads as shown
use Rattle.lookup.proofs.lookup.Reads as lookup

-- for all arguments, two answers that the promise allows are alike
abbrev pub OneSeen : {K : Type 0} {A R E : K → Type 0} → ((κs : K) → R κs → R κs → Type 0) → ((κs : K) → A κs → R κs → E κs → Type 0) → Type 0
OneSeen {K} {A} {R} {E} alike promise = (κs : K) (a : A κs) (y z : R κs) (e f : E κs) → promise κs a y e → promise κs a z f → alike κs y z

-- two slices are the same bytes at the same address
abbrev pub Alike : Bor (List ℕ) → Bor (List ℕ) → Type 0
Alike r q = (r.now ≡ q.now) × (r.ref_ptr.0 ≡ q.ref_ptr.0) × (r.ref_ptr.1 ≡ q.ref_ptr.1)

pub one_seek : OneAnswer seek.Learnt
one_seek κs a y z e f = same

pub one_is_twice : OneAnswer is-twice.Learnt
one_is_twice κs a y z e f = same

pub one_refusal_of : OneAnswer refusal-of.Learnt
one_refusal_of κs a y z e f = same

pub one_text_of : OneAnswer text_of.Learnt
one_text_of κs a y z e f = same

pub one_find : OneAnswer find.Learnt
one_find κs a y z e f = same

pub one_shown_part : OneSeen (λ κs y z. Alike y z) shown.Learnt
one_shown_part κs a y z e f p q = one_shown y z a.0 a.1.0 a.1.1.0 p q

pub one_lookup : OneSeen (λ κs y z. Alike y z) lookup.Learnt
one_lookup κs a y z e f p q = one_shown y z a.0 a.1.0 (place_in (find_of a.0.now a.1.0.now a.1.1.0 a.1.1.1.0)) p q
