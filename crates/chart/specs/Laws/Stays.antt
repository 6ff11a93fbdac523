-- What shows outside of the accelerators' window shows there for good, whatever the console reads and writes, and after each reset: so the map of a
-- cartridge that was just loaded is its map in play.
use Rattle.std.specs.Prelude.{ℕ, ◌<◌, ◌≤◌, ◌/◌, ◌%◌, true, false, List, [], ◌∷◌, ◌≡◌, refl, ltb, get_or, Option, Some, None}
use Rattle.std.proofs.Common.{sym, ◌∙◌, arith, ltb-true, ltb-false}
use Rattle.basics.specs.Laws.Tests.{cases, and_false, true_is_not_false}
use Rattle.places.specs.declared.Console.{Console}
use Rattle.places.specs.Limits.{chapter_pages, chapter_paragraphs}
use Rattle.switches.specs.Flips.{Active, asks, acts, first_k, flip_permissions}
use Rattle.switches.specs.Banks.{register_at, banked}
use Rattle.switches.specs.Laws.Flips.{first_small, turned_out}
use Rattle.jlp.specs.declared.Jlp.{Jlp}
use Rattle.jlp.specs.Window.{in_window, in_ram}
use Rattle.jlp.specs.Accelerators.{takes}
use Rattle.cart.specs.declared.Cartridge.{Cartridge}
use Rattle.cart.specs.declared.Taker.{Taker}
use Rattle.cart.specs.declared.Taker.TheVariants.{Flip, Ram}
use Rattle.cart.specs.Cells.{cell_at}
use Rattle.cart.specs.Writes.{window_taker, bank_taker, flip_taker, left_by, leaves}
use Rattle.cart.specs.Cartridges.{fresh, active_of, write_of, reset_of}
use Rattle.cart.specs.Run.{Access, Read, Write, Reset, World, step, after}
use Rattle.chart.specs.Chart.{start_of, is_paged, shown_at}
use Rattle.chart.specs.Laws.Pages.{paged_exactly}

-- no write changes the permission of a paragraph that is not paged
module _ (a : Active) (flips : List ℕ) (p : ℕ) (u : is_paged flips p ≡ false) where
  abbrev Keeps : Taker → Type 0
  Keeps t = get_or (left_by t a flips).permissions p 0 ≡ get_or a.permissions p 0

  flip_keeps : (n : ℕ) → acts flips n ≡ true → Keeps (Flip n)
  flip_keeps n t = turned_out (n / chapter_pages) (flip_permissions (get_or flips n 0)) a.permissions p below
    where
      below : p / chapter_paragraphs ≡ n / chapter_pages → p % chapter_paragraphs < first_k (n / chapter_pages)
      below e =
          cases (ltb (p % chapter_paragraphs) (first_k (n / chapter_pages))) (λ l. ltb-true _ _ l)
          (λ l.
          let f : first_k (n / chapter_pages) ≤ 8 = first_small (n / chapter_pages) in
          let g : first_k (n / chapter_pages) ≤ p % chapter_paragraphs = ltb-false (p % chapter_paragraphs) (first_k (n / chapter_pages)) l in
          true_is_not_false ((paged_exactly flips p).1 (record { number = n; acting = t; from = omega arith; below = omega arith })) u)

  by_flip : (r : Option ℕ) (next : Taker) → Keeps next → Keeps (flip_taker flips r next)
  by_flip (Some n) next e = cases (acts flips n) (λ t. rw t (flip_keeps n t)) (λ t. rw t e)
  by_flip None next e = e

  by_bank : (r : Option ℕ) (v : ℕ) (next : Taker) → Keeps next → Keeps (bank_taker a.permissions r v next)
  by_bank (Some h) v next e = cases (banked a.permissions h) (λ t. rw t) (λ t. rw t e)
  by_bank None v next e = e

  by_window : (at : Console) → Keeps (window_taker at)
  by_window at = cases (in_ram at) (λ t. rw t) (λ t. rw t)

  unpaged_kept : (j : Jlp) (at : Console) (v : ℕ) → get_or (leaves j a flips at v).permissions p 0 ≡ get_or a.permissions p 0
  unfolding leaves
  unpaged_kept j at v =
      cases (takes j at v) (λ t. rw t (by_window at))
      (λ t. rw t (by_bank (register_at at) v (flip_taker flips (asks at v) (Ram (cell_at a at))) (by_flip (asks at v) (Ram (cell_at a at)) refl)))

-- the sign depends on no more than the flip table and, where no page shows, the permission
module _ (p : ℕ) (out : in_window (start_of p) ≡ false) where
  same_sign : (c d : Cartridge) → d.flips ≡ c.flips → (is_paged c.flips p ≡ false → get_or d.permissions p 0 ≡ get_or c.permissions p 0)
      → shown_at d p ≡ shown_at c p
  unfolding shown_at
  same_sign c d f g =
      cases (is_paged c.flips p)
      (λ t. rw (f, and_false d.jlp.on (in_window (start_of p)) out, and_false c.jlp.on (in_window (start_of p)) out, t))
      (λ t. rw (f, and_false d.jlp.on (in_window (start_of p)) out, and_false c.jlp.on (in_window (start_of p)) out, t, g t))

  -- where no page shows, a reset brings back the permission that is there
  abbrev pub Steady : Cartridge → Type 0
  Steady c = is_paged c.flips p ≡ false → get_or c.permissions p 0 ≡ get_or c.initial_permissions p 0

  pub stays : (w : World) (xs : List Access) → Steady w.cartridge → shown_at (after w xs).cartridge p ≡ shown_at w.cartridge p
  stays w [] s = refl
  stays w (Read at ∷ xs) s = stays w xs s
  stays w (Write at v ∷ xs) s =
      let k : is_paged w.cartridge.flips p ≡ false → get_or (write_of w.cartridge at v).permissions p 0 ≡ get_or w.cartridge.permissions p 0
      = λ u. unpaged_kept (active_of w.cartridge) w.cartridge.flips p u w.cartridge.jlp at v in
      stays (step w (Write at v)) xs (λ u. k u ∙ s u) ∙ same_sign w.cartridge (write_of w.cartridge at v) refl k
  stays w (Reset ∷ xs) s =
      stays (step w Reset) xs (λ u. refl) ∙ same_sign w.cartridge (reset_of w.cartridge) refl (λ u. sym (s u))

  -- a cartridge that was just loaded
  pub stays_loaded : (j : Jlp) (mapping permissions flips flash ram : List ℕ) (xs : List Access)
      → shown_at (after (record { cartridge = fresh j mapping permissions flips; flash = flash; ram = ram }) xs).cartridge p
      ≡ shown_at (fresh j mapping permissions flips) p
  stays_loaded j mapping permissions flips flash ram xs =
      stays (record { cartridge = fresh j mapping permissions flips; flash = flash; ram = ram }) xs (λ u. refl)
