-- What each sign says of its paragraph: the row that gave it, and that none before it held.
use Rattle.std.specs.Prelude.{ℕ, Bool, true, false, ◌&&◌, ◌⊎◌, ◌≡◌, get_or}
use Rattle.std.proofs.Common.{inl, inr, subst, sym, ap, ◌∙◌}
use Rattle.basics.specs.Laws.Tests.{cases}
use Rattle.places.specs.declared.Console.{Console}
use Rattle.jlp.specs.Window.{in_window}
use Rattle.cart.specs.declared.Cartridge.{Cartridge}
use Rattle.cart.specs.Cells.{READ, WRITE, NARROW, paragraph}
use Rattle.cart.specs.Reads.{silent}
use Rattle.chart.specs.declared.Shown.{Shown}
use Rattle.chart.specs.declared.Shown.TheVariants.{Silent, Accelerators, Paged, Rom, Ram16, Ram8}
use Rattle.chart.specs.Chart.{start_of, is_paged, kind_of, shown_at}
use Rattle.chart.specs.Laws.Whole.{whole_silent, whole_window}

-- the paragraph's permission; the accelerators have it
module _ (c : Cartridge) (p : ℕ) where
  abbrev pub permission : ℕ
  permission = get_or c.permissions p 0

  abbrev pub is_theirs : Bool
  is_theirs = c.jlp.on && in_window (start_of p)

-- no row before the permission's holds
pub record Plain (c : Cartridge) (p : ℕ) : Type 0 where
  pub loud : silent (start_of p) ≡ false
  pub free : is_theirs c p ≡ false
  pub unpaged : is_paged c.flips p ≡ false

abbrev pub Says : Cartridge → ℕ → Shown → Type 0
Says c p Silent = (silent (start_of p) ≡ true) ⊎ (Plain c p × (READ (permission c p) ≡ false))
Says c p Accelerators = (silent (start_of p) ≡ false) × (is_theirs c p ≡ true)
Says c p Paged = (silent (start_of p) ≡ false) × (is_theirs c p ≡ false) × (is_paged c.flips p ≡ true)
Says c p Rom = Plain c p × (READ (permission c p) ≡ true) × (WRITE (permission c p) ≡ false)
Says c p Ram16 = Plain c p × (READ (permission c p) ≡ true) × (WRITE (permission c p) ≡ true) × (NARROW (permission c p) ≡ false)
Says c p Ram8 = Plain c p × (READ (permission c p) ≡ true) × (WRITE (permission c p) ≡ true) × (NARROW (permission c p) ≡ true)

module _ (c : Cartridge) (p : ℕ) where
  of_kind : Plain c p → Says c p (kind_of (permission c p))
  of_kind k =
      cases (READ (permission c p))
      (λ r.
      cases (WRITE (permission c p)) (λ w. cases (NARROW (permission c p)) (λ n. rw (r, w, n) (k, r, w, n)) (λ n. rw (r, w, n) (k, r, w, n)))
      (λ w. rw (r, w) (k, r, w)))
      (λ r. rw r (inr (k, r)))

  says : Says c p (shown_at c p)
  unfolding shown_at
  says =
      cases (silent (start_of p)) (λ q. rw q (inl q))
      (λ q.
      cases (is_theirs c p) (λ t. rw (q, t) (q, t))
      (λ t.
      cases (is_paged c.flips p) (λ g. rw (q, t, g) (q, t, g)) (λ g. rw (q, t, g) (of_kind (record { loud = q; free = t; unpaged = g })))))

  pub said : (s : Shown) → shown_at c p ≡ s → Says c p s
  said s e = subst (λ (t : Shown). Says c p t) e says

-- of each address of the paragraph
module _ (c : Cartridge) (at : Console) (b : Bool) where
  pub silent_at : silent (start_of (paragraph at)) ≡ b → silent at ≡ b
  silent_at e = sym (whole_silent at) ∙ e

  pub theirs_at : is_theirs c (paragraph at) ≡ b → (c.jlp.on && in_window at) ≡ b
  theirs_at e = ap (λ (w : Bool). c.jlp.on && w) (sym (whole_window at)) ∙ e
