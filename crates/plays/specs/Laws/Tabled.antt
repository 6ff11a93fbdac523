-- The machine's tables, beside the plain cartridge's page numbers: each paragraph has the entries of its chapter's number.
use Rattle.std.specs.Prelude.{ℕ, ◌<◌, ◌/◌, ◌%◌, List, ◌≡◌, refl, cond, false, true, Bool, ◌&&◌, length, get_or, leb, eqb}
use Rattle.std.proofs.Common.{◌∙◌, ap, arith, eqb-true}
use Rattle.basics.specs.Laws.Tables.{length_table}
use Rattle.places.specs.Limits.{paragraphs, flip_entries}
use Rattle.switches.specs.Flips.{first_k, turned, flipped, flip_mapping, flip_permissions}
use Rattle.switches.specs.Laws.Flips.{turned_at, length_turned}
use Rattle.jlp.specs.Accelerators.{fresh_jlp, reset_jlp}
use Rattle.cart.specs.declared.Cartridge.{Cartridge}
use Rattle.cart.specs.Cartridges.{active_of, with_active, reset_of}
use Rattle.lines.specs.declared.Line.{Line}
use Rattle.rules.specs.Chapters.{paged, kind_at}
use Rattle.layout.specs.Layout.{mapping_table, permissions_table, flip_table, mapping_at, permissions_at, flippable, flip_entry, plain_mapping, cartridge_of}
use Rattle.layout.specs.Laws.Tables.{flip_entry_lem, mapping_entry, permissions_entry}
use Rattle.plays.specs.Plain.{renumbered}

pub record Tabled (lines : List Line) (c : Cartridge) (number : ℕ → ℕ) : Type 0 where
  pub initial_mapping : c.initial_mapping ≡ mapping_table lines
  pub initial_permissions : c.initial_permissions ≡ permissions_table lines
  pub flips : c.flips ≡ flip_table lines
  pub mapping_length : length c.mapping ≡ paragraphs
  pub permissions_length : length c.permissions ≡ paragraphs
  pub jlp : c.jlp ≡ fresh_jlp 0 0
  pub mapping : (p : ℕ) → p < paragraphs → get_or c.mapping p 0 ≡ mapping_at lines (number (p / 16)) p
  pub permissions : (p : ℕ) → p < paragraphs → get_or c.permissions p 0 ≡ permissions_at lines (number (p / 16)) p

-- both tables: f of the flip entry in the flippable ranges, and r elsewhere
abbrev cell : List Line → (ℕ → ℕ → ℕ) → (ℕ → ℕ) → ℕ → ℕ → ℕ
cell lines f r y p = cond (flippable lines p) (f (flip_entry lines (p / 16) y) (p % 16)) (r p)

unpaged_fixed : (lines : List Line) (p : ℕ) → paged lines (p / 16) ≡ false → flippable lines p ≡ false
unfolding flippable
unpaged_fixed lines p e = simp e

paged_flips : (lines : List Line) (p : ℕ) → paged lines (p / 16) ≡ true → flippable lines p ≡ leb (first_k (p / 16)) (p % 16)
unfolding flippable
paged_flips lines p e = simp e

module _ (lines : List Line) (f : ℕ → ℕ → ℕ) (r : ℕ → ℕ) where
  fixed : (y z p : ℕ) → flippable lines p ≡ false → cell lines f r y p ≡ cell lines f r z p
  fixed y z p e = simp e

  module _ (number : ℕ → ℕ) (x y : ℕ) (m : List ℕ) (long : length m ≡ paragraphs)
      (was : (p : ℕ) → p < paragraphs → get_or m p 0 ≡ cell lines f r (number (p / 16)) p) where
    -- a chapter with no PAGE lines has no use for its number
    unpaged_by : paged lines x ≡ false → (p : ℕ) (b : Bool) → eqb (p / 16) x ≡ b →
        cell lines f r (number (p / 16)) p ≡ cell lines f r (cond b y (number (p / 16))) p
    unpaged_by e p true h = fixed (number (p / 16)) y p (unpaged_fixed lines p (rw (eqb-true (p / 16) x h) e))
    unpaged_by e p false h = refl

    unpaged : paged lines x ≡ false → (p : ℕ) → p < paragraphs → get_or m p 0 ≡ cell lines f r (renumbered number x y (p / 16)) p
    unpaged e p s = was p s ∙ unpaged_by e p (eqb (p / 16) x) refl

    -- a flip
    half : (p : ℕ) → p < paragraphs → (b : Bool) → flippable lines p ≡ b → cond b (f (flip_entry lines (p / 16) y) (p % 16)) (get_or m p 0) ≡ cell lines f r y p
    half p s true h = simp h
    half p s false h = was p s ∙ fixed (number (p / 16)) y p h

    turning_by : paged lines x ≡ true → (p : ℕ) → p < paragraphs → (b : Bool) → eqb (p / 16) x ≡ b →
        cond (b && leb (first_k x) (p % 16)) (f (flip_entry lines x y) (p % 16)) (get_or m p 0) ≡ cell lines f r (cond b y (number (p / 16))) p
    turning_by e p s true h =
        let q : p / 16 ≡ x = eqb-true (p / 16) x h in
        rw (← q, ← paged_flips lines p (rw q e)) (half p s (flippable lines p) refl)
    turning_by e p s false h = was p s

    turning : paged lines x ≡ true → (p : ℕ) → p < paragraphs →
        get_or (turned x (f (flip_entry lines x y)) m) p 0 ≡ cell lines f r (renumbered number x y (p / 16)) p
    turning e p s = turned_at x (f (flip_entry lines x y)) m p (omega arith) ∙ turning_by e p s (eqb (p / 16) x) refl

module _ {lines : List Line} {c : Cartridge} {number : ℕ → ℕ} (t : Tabled lines c number) where
  pub flips_length : length c.flips ≡ flip_entries
  flips_length = ap length t.flips ∙ length_table flip_entries (λ i. flip_entry lines (i / 16) (i % 16))

  pub flip_in_lem : (n : ℕ) → n < flip_entries → get_or c.flips n 0 ≡ flip_entry lines (n / 16) (n % 16)
  flip_in_lem n s = rw t.flips (flip_entry_lem lines n s)

  -- a flip that acts
  pub tabled_flip : (n r : ℕ) → n < flip_entries → paged lines (n / 16) ≡ true →
      Tabled lines (with_active c (flipped c.flips n (active_of c)) r c.jlp) (renumbered number (n / 16) (n % 16))
  unfolding mapping_at permissions_at
  tabled_flip n r s e =
      record {
        initial_mapping = t.initial_mapping;
        initial_permissions = t.initial_permissions;
        flips = t.flips;
        jlp = t.jlp;
        mapping_length = length_turned (n / 16) _ c.mapping ∙ t.mapping_length;
        permissions_length = length_turned (n / 16) _ c.permissions ∙ t.permissions_length;
        mapping = λ p h. rw (flip_in_lem n s) (turning lines flip_mapping (plain_mapping lines) number (n / 16) (n % 16) c.mapping t.mapping_length t.mapping e p h);
        permissions = λ p h. rw (flip_in_lem n s) (turning lines flip_permissions (kind_at lines) number (n / 16) (n % 16) c.permissions t.permissions_length t.permissions e p h);
      }

  -- a request in a chapter with no PAGE lines
  pub tabled_idle : (x y : ℕ) → paged lines x ≡ false → Tabled lines c (renumbered number x y)
  unfolding mapping_at permissions_at
  tabled_idle x y e =
      record {
        initial_mapping = t.initial_mapping;
        initial_permissions = t.initial_permissions;
        flips = t.flips;
        jlp = t.jlp;
        mapping_length = t.mapping_length;
        permissions_length = t.permissions_length;
        mapping = unpaged lines flip_mapping (plain_mapping lines) number x y c.mapping t.mapping_length t.mapping e;
        permissions = unpaged lines flip_permissions (kind_at lines) number x y c.permissions t.permissions_length t.permissions e;
      }

  pub tabled_reset : Tabled lines (reset_of c) (λ x. 0)
  tabled_reset =
      record {
        initial_mapping = t.initial_mapping;
        initial_permissions = t.initial_permissions;
        flips = t.flips;
        jlp = ap reset_jlp t.jlp;
        mapping_length = ap length t.initial_mapping ∙ length_table paragraphs (mapping_at lines 0);
        permissions_length = ap length t.initial_permissions ∙ length_table paragraphs (permissions_at lines 0);
        mapping = λ p h. rw t.initial_mapping (mapping_entry lines p h);
        permissions = λ p h. rw t.initial_permissions (permissions_entry lines p h);
      }

pub tabled_start : (lines : List Line) → Tabled lines (cartridge_of lines) (λ x. 0)
tabled_start lines =
    record {
      initial_mapping = refl;
      initial_permissions = refl;
      flips = refl;
      jlp = refl;
      mapping_length = length_table paragraphs (mapping_at lines 0);
      permissions_length = length_table paragraphs (permissions_at lines 0);
      mapping = mapping_entry lines;
      permissions = permissions_entry lines;
    }
