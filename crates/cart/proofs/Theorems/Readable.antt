-- The number of readable paragraphs that is kept is the count over the active permissions, after every write and reset where it was so
-- before (02, W-211).
use Rattle.std.specs.Prelude.{◌≡◌, ℕ, zero, suc, ◌+◌, ◌-◌, ◌/◌, ◌%◌, ◌<◌, ◌≤◌, Bool, true, false, cond, List, [], ◌∷◌, length, nat_eq, slice_index, slice_index_or, refl}
use Rattle.std.proofs.Common.{sym, ap, ◌∙◌, inl, inr, arith, add-one, eqb-true}
use Rattle.std.proofs.lemmas.Bool.{eqb-false}
use Rattle.basics.specs.Lists.{laid}
use Rattle.basics.specs.Counts.{count}
use Rattle.basics.specs.Laws.Tests.{cases}
use Rattle.basics.specs.Laws.Lists.{laid_out}
use Rattle.basics.specs.Laws.Counts.{count_most}
use Rattle.places.specs.Limits.{paragraphs, chapter_pages, flip_entries}
use Rattle.switches.specs.Flips.{Active, flip_from, flip_size, flip_permissions, turned, flipped}
use Rattle.switches.specs.Laws.Flips.{first_small, turned_in}
use Rattle.jlp.specs.declared.Jlp.{Jlp}
use Rattle.cart.specs.declared.Cartridge.{Cartridge}
use Rattle.cart.specs.declared.Taker.{Taker}
use Rattle.cart.specs.declared.Taker.TheVariants.{Accelerators, Bank, Flip, Ram}
use Rattle.cart.specs.Cells.{READ}
use Rattle.cart.specs.Readable.{readable_in, readable_of, recounted}
use Rattle.cart.specs.Writes.{taker_of, left_by, readable_by, leaves, leaves_readable}
use Rattle.cart.specs.Cartridges.{active_of, fresh, no_cartridge}
use Rattle.cart.specs.Run.{Access, Read, Write, Reset, World, step, after}
use Rattle.cart.proofs.Theorems.Moves.{Fits, takes_within}

-- the counting loop: none, one more, done
pub readable_none : (m : List ℕ) (a : ℕ) → 0 ≡ readable_in m a 0
unfolding readable_in count
readable_none m a = refl

one : (x k : ℕ) → cond (READ x) (suc k) k ≡ k + x % 2
one x k =
    cases (READ x) (λ e. let d : x % 2 ≡ 1 = eqb-true _ _ e in rw e (omega arith))
    (λ e. let d : x % 2 ≡ 1 → ⊥ = eqb-false _ _ e in let z : x % 2 ≡ 0 = omega arith in rw e (omega arith))

pub readable_next : (m : List ℕ) (a n k b : ℕ) → k ≡ readable_in m a n → b ≡ slice_index m (a + n) % 2 → k + b ≡ readable_in m a (n + 1)
unfolding readable_in count
readable_next m a n k b e f = rw (add-one, e, f) (sym (one (slice_index m (a + n)) (count (λ i. READ (slice_index m (a + i))) n)))

pub readable_done : (m : List ℕ) (a n i k : ℕ) → i ≤ n → n ≤ i → k ≡ readable_in m a i → k ≡ readable_in m a n
readable_done m a n i k p q e = let d : i ≡ n = omega arith in rw d at e

pub readable_most : (m : List ℕ) (a n : ℕ) → readable_in m a n ≤ n
unfolding readable_in
readable_most m a n = count_most _ n

-- counted in two parts
readable_add : (m : List ℕ) (a n k : ℕ) → readable_in m a (n + k) ≡ readable_in m a n + readable_in m (a + n) k
unfolding readable_in count
readable_add m a n zero = let e : n + 0 ≡ n = omega arith in rw e (omega arith)
readable_add m a n (suc k) =
    let e : n + suc k ≡ suc (n + k) = omega arith in
    let f : a + (n + k) ≡ a + n + k = omega arith in
    rw e (one (slice_index m (a + (n + k))) _ ∙ rw f (omega (arith, one (slice_index m (a + n + k)) (count (λ i. READ (slice_index m (a + n + i))) k), readable_add m a n k)))

readable_front : (m : List ℕ) (n k : ℕ) → readable_in m 0 (n + k) ≡ readable_in m 0 n + readable_in m n k
readable_front m n k = let e : 0 + n ≡ n = omega arith in readable_add m 0 n k ∙ rw e

-- where two tables agree, the counts are equal
readable_same : (m t : List ℕ) (a n : ℕ) → ((i : ℕ) → a ≤ i → i < a + n → slice_index t i ≡ slice_index m i) → readable_in t a n ≡ readable_in m a n
unfolding readable_in count
readable_same m t a zero h = refl
readable_same m t a (suc n) h = rw (h (a + n) (omega arith) (omega arith), readable_same m t a n (λ i p q. h i p (omega arith)))

-- where all entries have the same READ, all are counted or none
readable_all : (t : List ℕ) (a n : ℕ) (b : Bool) → ((i : ℕ) → a ≤ i → i < a + n → READ (slice_index t i) ≡ b) → readable_in t a n ≡ cond b n 0
unfolding readable_in count
readable_all t a zero true h = refl
readable_all t a zero false h = refl
readable_all t a (suc n) true h = rw (h (a + n) (omega arith) (omega arith), readable_all t a n true (λ i p q. h i p (omega arith)))
readable_all t a (suc n) false h = rw (h (a + n) (omega arith) (omega arith), readable_all t a n false (λ i p q. h i p (omega arith)))

-- so of the paragraphs that a flip entry changes: each gets the entry's permission
pub flip_readable : (a : Active) (flips : List ℕ) (n : ℕ) → length a.permissions ≡ paragraphs → n < flip_entries
    → readable_in (flipped flips n a).permissions (flip_from n) (flip_size n) ≡ cond (READ (slice_index flips n)) (flip_size n) 0
flip_readable a flips n l h =
    readable_all (flipped flips n a).permissions (flip_from n) (flip_size n) (READ (slice_index flips n))
    (λ i p q.
    let f = first_small (n / chapter_pages) in
    let e : slice_index_or flips n 0 % 8 % 2 ≡ slice_index flips n % 2 = omega arith in
    ap READ (turned_in (n / chapter_pages) (flip_permissions (slice_index flips n)) a.permissions i (omega (arith, l, f)) (omega (arith, f)) (omega (arith, f)))
    ∙ ap (λ (x : ℕ). nat_eq x 1) e)

-- what a change of n entries from a on changes: the count of that part
module _ (m : List ℕ) (a n : ℕ) (w : ℕ → ℕ) (h : a + n ≤ paragraphs) where
  abbrev changed : List ℕ
  changed = laid a n w m

  part_changes : readable_of changed + readable_in m a n ≡ readable_of m + readable_in changed a n
  part_changes =
      let d : a + n + (paragraphs - (a + n)) ≡ paragraphs = omega arith in
      omega (
        arith,
        ap (readable_in m 0) d,
        ap (readable_in changed 0) d,
        readable_front m (a + n) (paragraphs - (a + n)),
        readable_front changed (a + n) (paragraphs - (a + n)),
        readable_front m a n,
        readable_front changed a n,
        readable_same m changed 0 a (λ i p q. laid_out a w m n i (inl (omega arith))),
        readable_same m changed (a + n) (paragraphs - (a + n)) (λ i p q. laid_out a w m n i (inr (omega arith))),
      )

  pub part_recounted : (kept : ℕ) → kept ≡ readable_of m → recounted kept (readable_in m a n) (readable_in changed a n) ≡ readable_of changed
  part_recounted kept e =
      omega (arith, part_changes, readable_most m 0 paragraphs, readable_most changed 0 paragraphs, readable_most m a n, readable_most changed a n)

-- by each taker
kept_by : (t : Taker) (a : Active) (flips : List ℕ) (kept : ℕ) → Fits t → kept ≡ readable_of a.permissions
    → readable_by t a flips kept ≡ readable_of (left_by t a flips).permissions
unfolding turned
kept_by Accelerators a flips kept f e = e
kept_by (Bank p first) a flips kept f e = e
kept_by (Flip n) a flips kept f e = part_recounted a.permissions (flip_from n) (flip_size n) _ f kept e
kept_by (Ram c) a flips kept f e = e

-- a cartridge that keeps the count, with the flip table that every load gives
pub record Counted (c : Cartridge) : Type 0 where
  pub readable : c.readable ≡ readable_of c.permissions
  pub flips_long : length c.flips ≡ flip_entries

pub fresh_counted : (j : Jlp) (mapping permissions flips : List ℕ) → length flips ≡ flip_entries → Counted (fresh j mapping permissions flips)
fresh_counted j mapping permissions flips l = record { readable = refl; flips_long = l }

step_counted : (w : World) (x : Access) → Counted w.cartridge → Counted (step w x).cartridge
unfolding leaves leaves_readable
step_counted w (Read a) k = k
step_counted w (Write a v) k =
    let c = w.cartridge in
    record {
      readable = kept_by (taker_of c.jlp (active_of c) c.flips a v) (active_of c) c.flips c.readable (takes_within c.jlp (active_of c) c.flips a v k.flips_long) k.readable;
      flips_long = k.flips_long;
    }
step_counted w Reset k = record { readable = refl; flips_long = k.flips_long }

-- so after every list of accesses
pub after_counted : (w : World) (xs : List Access) → Counted w.cartridge → Counted (after w xs).cartridge
after_counted w [] k = k
after_counted w (x ∷ xs) k = after_counted (step w x) xs (step_counted w x k)

-- the cartridge of a refused load has none
pub none_readable : no_cartridge.readable ≡ 0
unfolding readable_in count
none_readable = refl
