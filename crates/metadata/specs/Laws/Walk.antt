-- Sub-records that stand one after the other in a payload, and where they stop.
use Rattle.std.specs.Prelude.{ℕ, zero, suc, ◌+◌, ◌≤◌, ◌≡◌, refl, List, [], ◌∷◌, ◌++◌, true, false, length, ltb}
use Rattle.std.proofs.Common.{sym, ap, ◌∙◌, append_assoc, append-nil, arith, leb-true}
use Rattle.std.proofs.lemmas.Bool.{lt-leb}
use Rattle.metadata.specs.Records.{end_at, whole_at, starts_from, starts, end_from, is_cut}

-- one that is whole ends in the payload; none stands at the payload's end or past it
pub whole_ends : (s : List ℕ) (p : ℕ) → whole_at s p ≡ true → end_at s p ≤ length s
unfolding whole_at
whole_ends s p w = leb-true _ _ w

pub past_end : (s : List ℕ) (p : ℕ) → length s ≤ p → whole_at s p ≡ false
unfolding whole_at
past_end s p h = lt-leb (end_at s p) (length s) (omega arith)

-- one turn of the walk, with count enough
pub record Turn (f : ℕ) (s : List ℕ) (p : ℕ) : Type 0 where
  pub rest : ℕ
  pub enough : length s ≤ end_at s p + rest
  pub is : starts_from f s p ≡ p ∷ starts_from rest s (end_at s p)

pub walk_on : (f : ℕ) (s : List ℕ) (p : ℕ) → length s ≤ p + f → whole_at s p ≡ true → Turn f s p
unfolding starts_from
walk_on zero s p h w = let e : end_at s p ≤ length s = whole_ends s p w in absurd (omega arith)
walk_on (suc f) s p h w = record { rest = f; enough = omega arith; is = rw w }

pub walk_stops : (f : ℕ) (s : List ℕ) (p : ℕ) → whole_at s p ≡ false → starts_from f s p ≡ []
unfolding starts_from
walk_stops zero s p w = refl
walk_stops (suc f) s p w = rw w

-- a place on the walk, with sub-records before it
pub record Reached (s : List ℕ) (p : ℕ) : Type 0 where
  pub before : List ℕ
  pub fuel : ℕ
  pub enough : length s ≤ p + fuel
  pub all : starts s ≡ before ++ starts_from fuel s p
  pub place : end_from s 0 before ≡ p

pub reach_start : (s : List ℕ) → Reached s 0
unfolding starts
reach_start s = record { before = []; fuel = length s; enough = omega arith; all = refl; place = refl }

end_more : (s : List ℕ) (q p : ℕ) (ps : List ℕ) → end_from s q (ps ++ (p ∷ [])) ≡ end_at s p
end_more s q p [] = refl
end_more s q p (r ∷ ps) = end_more s (end_at s r) p ps

module _ (s : List ℕ) (p : ℕ) (c : Reached s p) where
  pub reach_more : whole_at s p ≡ true → Reached s (end_at s p)
  reach_more w =
      let t : Turn c.fuel s p = walk_on c.fuel s p c.enough w in
      record {
        before = c.before ++ (p ∷ []);
        fuel = t.rest;
        enough = t.enough;
        all = c.all ∙ ap (◌++◌ c.before) t.is ∙ sym (append_assoc c.before (p ∷ []) (starts_from t.rest s (end_at s p)));
        place = end_more s 0 p c.before;
      }

  pub reach_stop : whole_at s p ≡ false → end_from s 0 (starts s) ≡ p
  reach_stop w =
      let e : starts s ≡ c.before = c.all ∙ ap (◌++◌ c.before) (walk_stops c.fuel s p w) ∙ append-nil c.before in
      ap (end_from s 0) e ∙ c.place

  pub cut_by : whole_at s p ≡ false → is_cut s ≡ ltb p (length s)
  unfolding is_cut
  cut_by w = rw (reach_stop w)
