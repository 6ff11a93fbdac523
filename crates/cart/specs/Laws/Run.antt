-- Runs in two goes.
use Rattle.std.specs.Prelude.{◌≡◌, List, [], ◌∷◌, ◌++◌, refl}
use Rattle.cart.specs.Run.{World, Access, after, step}

-- a run of xs ++ ys is a run of xs, then one of ys
pub after_append : (w : World) (xs ys : List Access) → after w (xs ++ ys) ≡ after (after w xs) ys
after_append w [] ys = refl
after_append w (x ∷ xs) ys = after_append (step w x) xs ys
