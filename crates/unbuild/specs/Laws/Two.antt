-- Which words are named, by what loads leave in a RAM of zeros and in one of 0xFFFF. A named word holds the same in both, any other what was there.
use Rattle.std.specs.Prelude.{◌-◌, ◌<◌, ℕ, ◌≡◌, List, eqb, get_or, length, replicate}
use Rattle.std.proofs.Common.{◌∙◌, sym, arith, eq-eqb, ne_eqb}
use Rattle.std.proofs.lemmas.List.{get_or-replicate, length-replicate}
use Rattle.basics.specs.Laws.Tests.{cases}
use Rattle.places.specs.Limits.{lent, lent_limit}
use Rattle.blocks.specs.Images.{blocks_in, hunks_in}
use Rattle.load.proofs.Theorems.Ram.{leaves}
use Rattle.load.specs.Leaves.{Leaves}
use Rattle.load.specs.Load.{load_ram_of, loading_of}
use Rattle.unbuild.specs.Content.{names_word, whole_ram}
use Rattle.unbuild.specs.Laws.Named.{LastNaming, last_naming, lent_whole}

-- a RAM of 524,288 words, all 0xFFFF
unfoldable pub whole_ones : List ℕ
whole_ones = replicate lent_limit 0xFFFF

pub length_ones : length whole_ones ≡ lent_limit
unfolding whole_ones
length_ones = length-replicate {A = ℕ} lent_limit 0xFFFF

pub lent_ones : lent whole_ones ≡ lent_limit
lent_ones = omega (arith, length_ones)

ones_at : (i : ℕ) → i < lent_limit → get_or whole_ones i 0 ≡ 0xFFFF
unfolding whole_ones
ones_at i h = get_or-replicate {A = ℕ} lent_limit i 0xFFFF 0 h

zeros_at : (i : ℕ) → i < lent_limit → get_or whole_ram i 0 ≡ 0
unfolding whole_ram
zeros_at i h = get_or-replicate {A = ℕ} lent_limit i 0 0 h

module _ (s : List ℕ) (f : ℕ) (loads : (loading_of s lent_limit f).refusal.number ≡ 0) (i : ℕ) (h : i < lent_limit) where
  abbrev zero : ℕ
  zero = get_or (load_ram_of s whole_ram f) i 0

  abbrev one : ℕ
  one = get_or (load_ram_of s whole_ones f) i 0

  left : Leaves s whole_ram (loading_of s (lent whole_ram) f) (load_ram_of s whole_ram f)
  left = leaves s whole_ram f (rw lent_whole loads)

  other : Leaves s whole_ones (loading_of s (lent whole_ones) f) (load_ram_of s whole_ones f)
  other = leaves s whole_ones f (rw lent_ones loads)

  pub names_two : names_word s i ≡ eqb zero one
  names_two =
      cases (names_word s i)
      (λ e.
      let r : LastNaming (hunks_in (blocks_in s)) i = last_naming (hunks_in (blocks_in s)) i e in
      let a : zero ≡ get_or r.hunk.words (i - r.hunk.address.0) 0 = (left.last r.before r.after r.hunk i r.split r.here r.last).1 in
      let b : one ≡ get_or r.hunk.words (i - r.hunk.address.0) 0 = (other.last r.before r.after r.hunk i r.split r.here r.last).1 in
      e ∙ sym (eq-eqb zero one (a ∙ sym b)))
      (λ e.
      let a : zero ≡ 0 = left.kept i e ∙ zeros_at i h in
      let b : one ≡ 0xFFFF = other.kept i e ∙ ones_at i h in
      e ∙ sym (ne_eqb zero one (λ z. omega arith)))
