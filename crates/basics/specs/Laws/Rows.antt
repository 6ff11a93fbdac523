-- Tables of rows: the answer of the first row that holds, of one table and of two, one behind the other.
use Rattle.std.specs.Prelude.{List, [], ◌∷◌, ◌++◌, ◌≡◌, refl, ◌⊎◌, true, false, cond}
use Rattle.std.proofs.Common.{ap, inr, inl}
use Rattle.basics.specs.Rows.{Row, Gives, first_of, here, later, Silent, none, also}

pub gives_first : {A : Type 0} {rs : List (Row A)} {a : A} (d : A) → Gives rs a → first_of rs d ≡ a
gives_first d (here e) = rw e
gives_first d (later e g) = rw e (gives_first d g)

pub silent_first : {A : Type 0} {rs : List (Row A)} (d : A) → Silent rs → first_of rs d ≡ d
silent_first d none = refl
silent_first d (also e s) = rw e (silent_first d s)

-- a table answers by a row, or none of its rows holds
pub first_by : {A : Type 0} (rs : List (Row A)) (d : A) → (Gives rs (first_of rs d)) ⊎ (Silent rs)
first_by [] d = inr none
first_by ((true, a) ∷ rs) d = inl (here refl)
first_by ((false, a) ∷ rs) d = go (first_by rs d)
  where
    go : (Gives rs (first_of rs d)) ⊎ (Silent rs) → (Gives ((false, a) ∷ rs) (first_of rs d)) ⊎ (Silent ((false, a) ∷ rs))
    go (inl g) = inl (later refl g)
    go (inr s) = inr (also refl s)

-- tables one behind the other
pub first_append : {A : Type 0} (rs qs : List (Row A)) (d : A) → first_of (rs ++ qs) d ≡ first_of rs (first_of qs d)
first_append [] qs d = refl
first_append ((b, a) ∷ rs) qs d = ap (cond b a) (first_append rs qs d)

pub silent_append : {A : Type 0} {rs qs : List (Row A)} → Silent rs → Silent qs → Silent (rs ++ qs)
silent_append none q = q
silent_append (also e s) q = also e (silent_append s q)

pub silent_left : {A : Type 0} (rs qs : List (Row A)) → Silent (rs ++ qs) → Silent rs
silent_left [] qs s = none
silent_left (r ∷ rs) qs (also e s) = also e (silent_left rs qs s)

pub silent_right : {A : Type 0} (rs qs : List (Row A)) → Silent (rs ++ qs) → Silent qs
silent_right [] qs s = s
silent_right (r ∷ rs) qs (also e s) = silent_right rs qs s

pub gives_append : {A : Type 0} {rs : List (Row A)} {a : A} (qs : List (Row A)) → Gives rs a → Gives (rs ++ qs) a
gives_append qs (here e) = here e
gives_append qs (later e g) = later e (gives_append qs g)

pub silent_gives : {A : Type 0} {rs qs : List (Row A)} {a : A} → Silent rs → Gives qs a → Gives (rs ++ qs) a
silent_gives none g = g
silent_gives (also e s) g = later e (silent_gives s g)

-- an answer of two tables is the first's, or the second's where the first is silent
pub gives_cases : {A : Type 0} {a : A} (rs qs : List (Row A)) → Gives (rs ++ qs) a → (Gives rs a) ⊎ ((Silent rs) × (Gives qs a))
gives_cases [] qs g = inr (none, g)
gives_cases ((b, c) ∷ rs) qs (here e) = inl (here e)
gives_cases {A = A} {a = a} ((b, c) ∷ rs) qs (later e g) = go (gives_cases rs qs g)
  where
    go : (Gives rs a) ⊎ ((Silent rs) × (Gives qs a)) → (Gives ((b, c) ∷ rs) a) ⊎ ((Silent ((b, c) ∷ rs)) × (Gives qs a))
    go (inl h) = inl (later e h)
    go (inr h) = inr (also e h.0, h.1)
