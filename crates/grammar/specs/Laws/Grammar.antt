-- Every number that a line names fits its type: a BIN offset has five hex digits at most, an address four, a page one.
use Rattle.std.specs.Prelude.{Option, Some, None, ℕ, ◌≤◌, ◌-◌, ◌+◌, ◌<◌, ◌*◌, ◌^◌, suc, ◌≡◌, refl, Bool, true, cond, false, ◌&&◌, List, [], ◌∷◌, leb, eqb, length}
use Rattle.std.proofs.Common.{sym, ◌∙◌, ap, subst, arith, pow-suc, mul_assoc, lit≤, lit<, leb-true, eqb-true}
use Rattle.std.proofs.Math.Nat.{pow-le-pow_right}
use Rattle.std.proofs.lemmas.Bool.{eqb-false}
use Rattle.basics.specs.Laws.Tests.{and_right, and_left}
use Rattle.places.specs.Limits.{chapter_pages}
use Rattle.text.specs.Spelling.{is, digit_of}
use Rattle.lines.specs.declared.Entry.{Entry}
use Rattle.lines.specs.declared.Entry.TheVariants.{Rom, Paged, Ram}
use Rattle.grammar.specs.declared.Says.{Says}
use Rattle.grammar.specs.declared.Says.TheVariants.{Blank, Heading, Claims, Outside}
use Rattle.grammar.specs.declared.Section.{Section}
use Rattle.grammar.specs.declared.Section.TheVariants.{Nowhere, Mapping, Memattr}
use Rattle.grammar.specs.Grammar.{hex_from, hex_of, dollar, offset, address, one_digit, after, width_of, rom, paged, ram, ◌>>=◌, rom_line, paged_line, ram_line, mapping_line, memattr_line, heading_line, entry_line, words_say, line_says}
use Rattle.grammar.specs.Code.Steps.{Below}
use Rattle.grammar.specs.Words.{words_of, word}

-- hex digits
not_is : {A : Type 0} {n : ℕ} → None ≡ Some n → A
not_is e = let z : ◌≡◌ {A = ℕ} 0 1 = cc in absurd (omega arith)

at_most : (t : Bool) (x y : ℕ) → (t ≡ true → x ≤ 16) → y ≤ 16 → cond t x y ≤ 16
at_most true x y h k = h refl
at_most false x y h k = k

digit_most : (b : ℕ) → digit_of b ≤ 16
digit_most b =
    at_most (leb 48 b && leb b 57) (b - 48) _ (λ e. let k : b ≤ 57 = leb-true b 57 (and_right (leb 48 b) (leb b 57) e) in omega arith)
    (at_most (leb 65 b && leb b 70) (b - 65 + 10) _ (λ e. let k : b ≤ 70 = leb-true b 70 (and_right (leb 65 b) (leb b 70) e) in omega arith)
    (at_most (leb 97 b && leb b 102) (b - 97 + 10) 16 (λ e. let k : b ≤ 102 = leb-true b 102 (and_right (leb 97 b) (leb b 102) e) in omega arith)
    (lit≤ tt)))

hex_below : (w : List ℕ) (n m b : ℕ) → n < b → hex_from n w ≡ Some m → m < b * 16 ^ length w
unfolding hex_from
hex_below [] n m b h e = let q : n ≡ m = cc in omega arith
hex_below (x ∷ w) n m b h e = go (eqb (digit_of x) 16) refl e (hex_below w (n * 16 + digit_of x) m (b * 16))
  where
    go : (t : Bool) → eqb (digit_of x) 16 ≡ t → cond t None (hex_from (n * 16 + digit_of x) w) ≡ Some m
        → (n * 16 + digit_of x < b * 16 → hex_from (n * 16 + digit_of x) w ≡ Some m → m < b * 16 * 16 ^ length w) → m < b * 16 ^ suc (length w)
    go true q f ih = not_is f
    go false q f ih =
        let d : digit_of x ≡ 16 → ⊥ = eqb-false (digit_of x) 16 q in
        let k : m < b * 16 * 16 ^ length w = ih (omega (arith, digit_most x)) f in
        let p : 16 ^ suc (length w) ≡ 16 * 16 ^ length w = pow-suc 16 (length w) ∙ omega arith in
        rw (p, ← mul_assoc) k

-- a number of at most so many digits
pub dollar_below : (most : ℕ) (w : List ℕ) → Below (16 ^ most) (dollar most w)
unfolding dollar
dollar_below most [] n e = not_is e
dollar_below most (x ∷ w) n e = go (leb 1 (length w) && leb (length w) most && eqb x 36) refl e
  where
    go : (t : Bool) → (leb 1 (length w) && leb (length w) most && eqb x 36) ≡ t → cond t (hex_of w) None ≡ Some n → n < 16 ^ most
    go false q f = not_is f
    go true q f =
        let l : length w ≤ most =
        leb-true (length w) most (and_right (leb 1 (length w)) (leb (length w) most) (and_left (leb 1 (length w) && leb (length w) most) (eqb x 36) q)) in
        let k : 16 ^ length w ≤ 16 ^ most = pow-le-pow_right (lit< tt) {i = length w} {j = most} l in
        omega (arith, hex_below w 0 n 1 (lit< tt) f)

pub digit_below : (w : List ℕ) → Below chapter_pages (one_digit w)
unfolding one_digit
digit_below w n e = go (eqb (length w) 1) refl e
  where
    go : (t : Bool) → eqb (length w) 1 ≡ t → cond t (hex_of w) None ≡ Some n → n < 16
    go false q f = not_is f
    go true q f =
        let l : 16 ^ length w ≡ 16 = ap (λ (k : ℕ). 16 ^ k) (eqb-true (length w) 1 q) in
        omega (arith, hex_below w 0 n 1 (lit< tt) f)

after_below : (m : ℕ) (t : Bool) (x : Option ℕ) → Below m x → Below m (after t x)
after_below m true x h n e = h n e
after_below m false x h n e = not_is e

pub after_fits : (w : List ℕ) (t : Bool) (x y : Option ℕ) → y ≡ after t x → x ≡ address w → Below 65536 y
after_fits w t x y f e n q = after_below 65536 t (address w) (dollar_below 4 w) n (ap (after t) (sym e) ∙ sym f ∙ q)

pub digit_fits : (w : List ℕ) (t : Bool) (x y : Option ℕ) → y ≡ after t x → x ≡ one_digit w → Below 256 y
digit_fits w t x y f e n q = let l : n < 16 = after_below 16 t (one_digit w) (digit_below w) n (ap (after t) (sym e) ∙ sym f ∙ q) in omega arith

-- what an entry names: BIN offsets below 2^20, addresses below 2^16, a page below 16
abbrev pub Fitting : Entry → Type 0
Fitting (Rom lo hi at) = (lo.0 < 0x100000) × (hi.0 < 0x100000) × (at.0 < 0x10000)
Fitting (Paged lo hi at y) = (lo.0 < 0x100000) × (hi.0 < 0x100000) × (at.0 < 0x10000) × (y.0 < chapter_pages)
Fitting (Ram lo hi w) = (lo.0 < 0x10000) × (hi.0 < 0x10000)

-- where a line claims an entry, the entry fits
abbrev Sound : Says → Type 0
Sound a = (e : Entry) → a ≡ Claims e → Fitting e

sound_outside : Sound Outside
sound_outside e q = let z : ◌≡◌ {A = ℕ} 0 1 = cc in absurd (omega arith)

sound_of : (e : Entry) → Fitting e → Sound (Claims e)
sound_of e h f q = let z : e ≡ f = cc in subst Fitting z h

-- a number that is there goes on, and must be below its bound there
bind_sound : (m : ℕ) (x : Option ℕ) (k : ℕ → Says) → Below m x → ((n : ℕ) → n < m → Sound (k n)) → Sound (◌>>=◌ x k)
unfolding ◌>>=◌
bind_sound m None k h f = sound_outside
bind_sound m (Some n) k h f = f n (h n refl)

-- any number will do
bind_any : (x : Option ℕ) (k : ℕ → Says) → ((n : ℕ) → Sound (k n)) → Sound (◌>>=◌ x k)
unfolding ◌>>=◌
bind_any None k f = sound_outside
bind_any (Some n) k f = f n

module _ (ws : List (List ℕ)) where
  offset_0 : Below 0x100000 (offset (word ws 0))
  offset_0 = dollar_below 5 (word ws 0)

  offset_2 : Below 0x100000 (after (is "-" (word ws 1)) (offset (word ws 2)))
  offset_2 = after_below 0x100000 (is "-" (word ws 1)) (offset (word ws 2)) (dollar_below 5 (word ws 2))

  address_4 : Below 0x10000 (after (is "=" (word ws 3)) (address (word ws 4)))
  address_4 = after_below 0x10000 (is "=" (word ws 3)) (address (word ws 4)) (dollar_below 4 (word ws 4))

  rom_sound : Sound (rom_line ws)
  unfolding rom_line
  rom_sound =
      bind_sound 0x100000 _ _ offset_0 (λ lo p.
      bind_sound 0x100000 _ _ offset_2 (λ hi q.
      bind_sound 0x10000 _ _ address_4 (λ at r. sound_of (rom lo hi at) (p, q, r))))

  paged_sound : Sound (paged_line ws)
  unfolding paged_line
  paged_sound =
      bind_sound 0x100000 _ _ offset_0 (λ lo p.
      bind_sound 0x100000 _ _ offset_2 (λ hi q.
      bind_sound 0x10000 _ _ address_4 (λ at r.
      bind_sound chapter_pages _ _ (after_below chapter_pages (is "PAGE" (word ws 5)) (one_digit (word ws 6)) (digit_below (word ws 6))) (λ y t. sound_of (paged lo hi at y) (p, q, r, t)))))

  ram_sound : Sound (ram_line ws)
  unfolding ram_line
  ram_sound =
      bind_sound 0x10000 _ _ (dollar_below 4 (word ws 0)) (λ lo p.
      bind_sound 0x10000 _ _ (after_below 0x10000 (is "-" (word ws 1)) (address (word ws 2)) (dollar_below 4 (word ws 2))) (λ hi q.
      bind_any _ _ (λ n. sound_of (ram lo hi (width_of n)) (p, q))))

-- a choice by tests
sound_by : (t : Bool) (x y : Says) → Sound x → Sound y → Sound (cond t x y)
sound_by true x y p q = p
sound_by false x y p q = q

entry_sound : (s : Section) (ws : List (List ℕ)) → Sound (entry_line s ws)
unfolding mapping_line memattr_line
entry_sound Nowhere ws = sound_outside
entry_sound Mapping ws =
    sound_by (eqb (length ws) 5) (rom_line ws) _ (rom_sound ws) (sound_by (eqb (length ws) 7) (paged_line ws) Outside (paged_sound ws) sound_outside)
entry_sound Memattr ws = sound_by (eqb (length ws) 6) (ram_line ws) Outside (ram_sound ws) sound_outside

sound_heading : (t : Section) → Sound (Heading t)
sound_heading t e q = let z : ◌≡◌ {A = ℕ} 0 1 = cc in absurd (omega arith)

sound_blank : Sound Blank
sound_blank e q = let z : ◌≡◌ {A = ℕ} 0 1 = cc in absurd (omega arith)

heading_sound : (w : List ℕ) → Sound (heading_line w)
unfolding heading_line
heading_sound w =
    sound_by (is "[mapping]" w) (Heading Mapping) _ (sound_heading Mapping)
    (sound_by (is "[memattr]" w) (Heading Memattr) Outside (sound_heading Memattr) sound_outside)

words_sound : (s : Section) (ws : List (List ℕ)) → Sound (words_say s ws)
unfolding words_say
words_sound s ws =
    sound_by (eqb (length ws) 0) Blank _ sound_blank
    (sound_by (eqb (length ws) 1) (heading_line (word ws 0)) (entry_line s ws) (heading_sound (word ws 0)) (entry_sound s ws))

pub claims_fit : (s : Section) (line : List ℕ) (e : Entry) → line_says s line ≡ Claims e → Fitting e
claims_fit s line = words_sound s (words_of line)
