-- Hunks that lie one behind the other: what they leave in a RAM tells their words. The chosen paragraphs lie so.
use Rattle.std.specs.Prelude.{ℕ, zero, suc, ◌+◌, ◌*◌, ◌≤◌, ◌<◌, ◌≡◌, refl, List, [], ◌∷◌, ◌++◌, Bool, true, length, get_or}
use Rattle.std.proofs.Common.{sym, ap, ap₂, ◌∙◌, append-nil, inl, arith, ext_get_or}
use Rattle.basics.specs.Listed.{listed}
use Rattle.basics.specs.Lists.{lay, Each, also as and_hunk}
use Rattle.basics.specs.Laws.Lay.{lay_in, lay_out, length_lay}
use Rattle.basics.specs.Laws.Tests.{cases}
use Rattle.places.specs.declared.Locutus.{Locutus}
use Rattle.places.specs.Limits.{paragraph_size}
use Rattle.hunk.specs.Hunk.{Hunk, hunk}
use Rattle.blocks.specs.Images.{overlay}
use Rattle.save.specs.Chosen.{paragraph_hunk, chosen}
use Rattle.save.specs.Laws.Chosen.{Lies}

-- hunks from word a on, each behind the one before it, and all before word b
pub data Rising : ℕ → List Hunk → ℕ → Type 0 where
  none : {a b : ℕ} → a ≤ b → Rising a [] b
  also : {a b : ℕ} {h : Hunk} {hs : List Hunk} → a ≤ h.address.0 → Rising (h.address.0 + length h.words) hs b → Rising a (h ∷ hs) b

-- hunks that name the same words of a RAM, one by one
pub data SamePlaces : List Hunk → List Hunk → Type 0 where
  none : SamePlaces [] []
  also : {g h : Hunk} {gs hs : List Hunk} → g.address ≡ h.address → length g.words ≡ length h.words → SamePlaces gs hs → SamePlaces (g ∷ gs) (h ∷ hs)

-- such hunks lie alike
rising_same : {a b : ℕ} {gs hs : List Hunk} → SamePlaces gs hs → Rising a hs b → Rising a gs b
rising_same none (none l) = none l
rising_same {a} {b} (also {g = g} {h = h} {gs = gs} e n s) (also l r) =
    let f : g.address.0 ≡ h.address.0 = ap (λ (x : Locutus). x.0) e in
    let k : a ≤ g.address.0 = omega arith in
    let q : Rising (g.address.0 + length g.words) gs b = rw (f, n) (rising_same {a = h.address.0 + length h.words} s r) in
    also k q

-- the words before them are kept, and the first of them is not written over
before_kept : {a b : ℕ} {hs : List Hunk} → Rising a hs b → (ram : List ℕ) (k : ℕ) → k < a → get_or (overlay hs ram) k 0 ≡ get_or ram k 0
unfolding overlay
before_kept (none l) ram k h = refl
before_kept (also {h = g} l r) ram k h =
    before_kept r (lay g.address.0 g.words ram) k (omega arith) ∙ lay_out g.address.0 g.words ram k (inl (omega arith))

module _ (h : Hunk) (hs : List Hunk) (b : ℕ) (r : Rising (h.address.0 + length h.words) hs b) (ram : List ℕ) (i : ℕ) where
  first_kept : h.address.0 + length h.words ≤ length ram → i < length h.words → get_or (overlay (h ∷ hs) ram) (h.address.0 + i) 0 ≡ get_or h.words i 0
  unfolding overlay
  first_kept s l =
      before_kept r (lay h.address.0 h.words ram) (h.address.0 + i) (omega arith) ∙ lay_in h.address.0 h.words ram i l (omega arith)

-- so hunks that name the same words, and leave the same, are the same
pub told : {a b n : ℕ} (gs hs : List Hunk) → SamePlaces gs hs → Rising a hs b → Each (Lies n) hs → (ram : List ℕ) → n ≤ length ram → overlay gs ram ≡ overlay hs ram → gs ≡ hs
unfolding overlay
told [] [] none r w ram s o = refl
told [] (h ∷ hs) p r w ram s o = elim p [ ]
told (g ∷ gs) [] p r w ram s o = elim p [ ]
told {a} (g ∷ gs) (h ∷ hs) (also e n p) (also {b = b} l r) (and_hunk w ws) ram s o =
    let f : g.address.0 ≡ h.address.0 = ap (λ (x : Locutus). x.0) e in
    let q : Rising (g.address.0 + length g.words) gs b = rw (f, n) (rising_same p r) in
    let k : h.address.0 + length h.words ≤ length ram = omega (arith, w.whole, w.within) in
    let x : g.words ≡ h.words =
    ext_get_or 0 g.words h.words n
    (λ i j.
    sym (first_kept g gs b q ram i (omega arith) j) ∙ ap (λ (m : List ℕ). get_or m (g.address.0 + i) 0) o
    ∙ ap (λ (m : ℕ). get_or (overlay (h ∷ hs) ram) (m + i) 0) f ∙ first_kept h hs b r ram i k (omega arith)) in
    let y : g ≡ h = ap₂ hunk e x in
    let m : List ℕ = lay h.address.0 h.words ram in
    let z : overlay gs m ≡ overlay hs m = sym (ap (λ (u : Hunk). overlay gs (lay u.address.0 u.words ram)) y) ∙ o in
    ap₂ ◌∷◌ y (told {a = h.address.0 + length h.words} gs hs p r ws m (omega (arith, length_lay h.address.0 h.words ram)) z)

-- the chosen paragraphs
rising_up : {a b c : ℕ} {hs : List Hunk} → Rising a hs b → b ≤ c → Rising a hs c
rising_up {a} {c = c} (none l) k = let j : a ≤ c = omega arith in none j
rising_up (also l r) k = also l (rising_up r k)

rising_more : {a b c : ℕ} {hs : List Hunk} (h : Hunk) → Rising a hs b → b ≤ h.address.0 → h.address.0 + length h.words ≤ c → Rising a (hs ++ (h ∷ [])) c
rising_more {a} h (none l) k j = let i : a ≤ h.address.0 = omega arith in also i (none j)
rising_more h (also l r) k j = also l (rising_more h r k j)

pub rising_chosen : (on : ℕ → Bool) (words : ℕ → List ℕ) (n : ℕ) → ((p : ℕ) → p < n → on p ≡ true → length (words p) ≡ paragraph_size) → Rising 0 (chosen n on words) (paragraph_size * n)
unfolding listed
rising_chosen on words zero w = let k : 0 ≤ paragraph_size * 0 = omega arith in none k
rising_chosen on words (suc n) w =
    let r : Rising 0 (chosen n on words) (paragraph_size * n) = rising_chosen on words n (λ p h e. w p (omega arith) e) in
    cases (on n)
    (λ e. rw e (rising_more (paragraph_hunk n (words n)) r (omega arith) (omega (arith, w n (omega arith) e))))
    (λ e. rw (e, append-nil) (rising_up r (omega arith)))
