-- Places below a bound that pass a test: how many, whether each or any does, the lowest, and the one with so many before it.
use Rattle.std.specs.Prelude.{ℕ, zero, suc, ◌+◌, Bool, cond, true, ◌&&◌, false, ◌||◌, eqb}

-- how many places below n pass
unfoldable pub count : (ℕ → Bool) → ℕ → ℕ
count f zero = 0
count f (suc n) = cond (f n) (suc (count f n)) (count f n)

-- each place below n passes; some place below n does
unfoldable pub all : ℕ → (ℕ → Bool) → Bool
all zero f = true
all (suc n) f = f n && all n f

unfoldable pub any : ℕ → (ℕ → Bool) → Bool
any zero f = false
any (suc n) f = f n || any n f

-- the lowest that passes, of the n places from p on; the place after them where none passes
unfoldable pub lowest_from : ℕ → ℕ → (ℕ → Bool) → ℕ
lowest_from zero p f = p
lowest_from (suc n) p f = cond (f p) p (lowest_from n (p + 1) f)

-- below n; n where none passes
abbrev pub lowest : ℕ → (ℕ → Bool) → ℕ
lowest n f = lowest_from n 0 f

-- the place below n that passes and has i passing places before it; 0 where there is none
unfoldable pub nth : (ℕ → Bool) → ℕ → ℕ → ℕ
nth f zero i = 0
nth f (suc n) i = cond (f n && eqb (count f n) i) n (nth f n i)
