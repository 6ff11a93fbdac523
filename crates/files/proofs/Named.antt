-- What is known of names: where the folder ends, what is no name, and a tag in hexadecimal digits.
use Prim.Native.Nat.{ℕ, zero, suc, ◌+◌, ◌*◌, ◌≤◌, ◌<◌, ◌/◌, ◌%◌}
use mathlib.Core.Bool.{Bool, true, false, cond, not}
use mathlib.Core.List.{List, [], ◌∷◌, ◌++◌, append_assoc}
use mathlib.Core.Path.{◌≡◌, refl, sym, ap, ◌∙◌}
use native.Mathlib.Omega.{arith}
use native.Mathlib.Numerals.{add-one}
use lib.Dec.{eqb, ltb}
use lib.ListN.{length, get_or, take, set, length-set, length-append}
use lib.Seq.{take_all, take-suc, length-take-le}
use Rattle.std.proofs.Common.{inl, inr, ◌⊎◌, eq-or-lt_of_le}
use Rattle.std.specs.List.{IsAnyAnswer}
use Rattle.std.specs.Option.{MatchOption}
use Rattle.std.specs.Prelude.{Option, Some, None}
use borrow.Author.Tests.{eq-eqb, ne_eqb, lt-ltb, le-ltb}
use Rattle.files.specs.Counts.{IsPrefixLen}
use Rattle.files.specs.Digits.{hex_digit_ascii}
use Rattle.basics.specs.Counts.{all}
use Rattle.basics.specs.Lists.{joined}
use Rattle.basics.specs.Laws.Counts.{all_at, all_of}
use Rattle.basics.specs.Laws.Each.{joined_append}
use Rattle.basics.specs.Laws.Tests.{cases, true_is_not_false, and_false}
use Rattle.basics.specs.Laws.Wrote.{Wrote, wrote_none, wrote_set, wrote_all}
use Rattle.files.specs.Names.{behind, folder_of, is_name, hex_of}

-- the first i bytes of a tag are put, two digits each
pub record Hexing (tag out₀ out : List ℕ) (i : ℕ) : Type 0 where
  pub up : i ≤ length tag
  pub fits : length out₀ ≡ 2 * length tag
  pub long : length out ≡ length out₀
  pub wrote : Wrote out₀ out (joined hex_of (take i tag))

pub length_hex : (tag : List ℕ) → length (joined hex_of tag) ≡ 2 * length tag
unfolding joined
length_hex [] = refl
length_hex (b ∷ tag) = omega (arith, length_hex tag)

pub hex_none : (tag out : List ℕ) → length out ≡ 2 * length tag → Hexing tag out out 0
unfolding joined
hex_none tag out l = record { up = omega arith; fits = l; long = refl; wrote = wrote_none out }

pub hex_more :
    (tag out₀ out : List ℕ) (i b x y : ℕ) → Hexing tag out₀ out i → i < length tag → b ≡ get_or tag i 0
    → x ≡ hex_digit_ascii (b / 16 % 16) → y ≡ hex_digit_ascii (b % 16)
    → Hexing tag out₀ (set (set out (2 * i) x) (2 * i + 1) y) (i + 1)
unfolding joined
hex_more tag out₀ out i b x y c h eb ex ey =
    let w : List ℕ = joined hex_of (take i tag) in
    let l : length w ≡ 2 * i = length_hex (take i tag) ∙ ap (λ (n : ℕ). 2 * n) (length-take-le i tag c.up) in
    let room : 2 * i + 1 < length out₀ = omega (arith, c.fits) in
    let one : Wrote out₀ (set out (2 * i) x) (w ++ (hex_digit_ascii (b / 16 % 16) ∷ [])) =
    wrote_set out₀ out w (2 * i) x (hex_digit_ascii (b / 16 % 16)) c.wrote (sym l) (omega arith) ex in
    let two : Wrote out₀ (set (set out (2 * i) x) (2 * i + 1) y) ((w ++ (hex_digit_ascii (b / 16 % 16) ∷ [])) ++ (hex_digit_ascii (b % 16) ∷ [])) =
    wrote_set out₀ (set out (2 * i) x) (w ++ (hex_digit_ascii (b / 16 % 16) ∷ [])) (2 * i + 1) y (hex_digit_ascii (b % 16)) one
    (omega (arith, length-append w (hex_digit_ascii (b / 16 % 16) ∷ []))) room ey in
    let t : take (i + 1) tag ≡ take i tag ++ (b ∷ []) = rw (add-one, eb) (take-suc tag i 0 h) in
    let e : (w ++ (hex_digit_ascii (b / 16 % 16) ∷ [])) ++ (hex_digit_ascii (b % 16) ∷ []) ≡ joined hex_of (take (i + 1) tag) =
    append_assoc w (hex_digit_ascii (b / 16 % 16) ∷ []) (hex_digit_ascii (b % 16) ∷ [])
    ∙ sym (joined_append hex_of (take i tag) (b ∷ [])) ∙ ap (joined hex_of) (sym t) in
    record { up = omega arith; fits = c.fits; long = simp length-set c.long; wrote = rw e at two }

pub hex_all : (tag out₀ out : List ℕ) (i : ℕ) → Hexing tag out₀ out i → length tag ≤ i → out ≡ joined hex_of tag
hex_all tag out₀ out i c h =
    let t : take i tag ≡ tag = take_all i tag h in
    wrote_all out₀ out (joined hex_of (take i tag)) c.wrote (ap (λ (x : List ℕ). length (joined hex_of x)) t ∙ length_hex tag ∙ sym c.fits)
    ∙ ap (joined hex_of) t

pub counted : (n : ℕ) (xs : List ℕ) → n ≤ length xs → IsPrefixLen n xs
counted n xs h = (h, sym (length-take-le n xs h))

-- whether it is a name
module _ (s : List ℕ) where
  abbrev sound : ℕ → Bool
  sound i = not (eqb (get_or s i 0) 0)

  pub too_long : 4096 ≤ length s → false ≡ is_name s
  unfolding is_name
  too_long h = simp (le-ltb _ _ h)

  pub not_too_long : (r : Bool) → length s < 4096 → IsAnyAnswer (λ y b. eqb y 0 ≡ b) s r → not r ≡ is_name s
  unfolding is_name
  not_too_long true h (k, l, e) =
      cases (all (length s) sound) (λ q. true_is_not_false (all_at (length s) sound q k l) (simp (e 0)))
      (λ q. sym (and_false (ltb (length s) 4096) (all (length s) sound) q))
  not_too_long false h e =
      let a : all (length s) sound ≡ true = all_of (length s) sound (λ i l. simp (e i 0 (omega arith) l)) in
      simp (lt-ltb _ _ h, a)

-- the last `/` is found, or there is none
module _ (s : List ℕ) where
  pub behind_found : (n k : ℕ) → k < n → get_or s k 0 ≡ 47 → ((j : ℕ) → k < j → j < n → get_or s j 0 ≡ 47 → ⊥) → k + 1 ≡ behind s n
  unfolding behind
  behind_found zero k h e m = absurd (omega arith)
  behind_found (suc n) k h e m = go (eq-or-lt_of_le (omega arith)) (λ l. behind_found n k l e (λ j a b. m j a (omega arith)))
    where
      go : (k ≡ n) ⊎ (k < n) → (k < n → k + 1 ≡ behind s n) → k + 1 ≡ cond (eqb (get_or s n 0) 47) (suc n) (behind s n)
      go (inl q) l = let a : get_or s n 0 ≡ 47 = ap (λ (i : ℕ). get_or s i 0) (sym q) ∙ e in simp (eq-eqb _ _ a, q, add-one)
      go (inr q) l = let a : eqb (get_or s n 0) 47 ≡ false = ne_eqb _ _ (m n q (omega arith)) in simp a (l q)

  pub behind_nowhere : (n : ℕ) → ((j : ℕ) → j < n → get_or s j 0 ≡ 47 → ⊥) → 0 ≡ behind s n
  unfolding behind
  behind_nowhere zero m = refl
  behind_nowhere (suc n) m = let e : eqb (get_or s n 0) 47 ≡ false = ne_eqb _ _ (m n (omega arith)) in simp e (behind_nowhere n (λ j l. m j (omega arith)))

-- r is the place of the last `/`
abbrev pub IsLastSlash : List ℕ → Option ℕ → Type 0
IsLastSlash s r =
    MatchOption r ((j : ℕ) → j < length s → get_or s j 0 ≡ 47 → ⊥)
    (λ k. (k < length s) × (get_or s k 0 ≡ 47) × ((j : ℕ) → k < j → j < length s → get_or s j 0 ≡ 47 → ⊥))

pub folder_found :
    (s : List ℕ) (r : Option ℕ) (k : ℕ) → IsLastSlash s r → MatchOption r (k ≡ 0) (λ i. k ≡ i + 1) → (k ≡ folder_of s) × IsPrefixLen k s
folder_found s None k m e = (e ∙ behind_nowhere s (length s) m, counted k s (omega arith))
folder_found s (Some i) k (h, l, m) e = (e ∙ behind_found s (length s) i h l m, counted k s (omega arith))
