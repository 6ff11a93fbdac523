-- The canonical lines, gathered place by place.
use Prim.Native.Nat.{◌+◌, ◌<◌, ◌≤◌, suc, zero, ℕ}
use mathlib.Core.Path.{◌∙◌, ◌≡◌, ap, ap₂, sym}
use mathlib.Core.List.{List, [], ◌++◌, ◌∷◌, append_assoc, append-nil}
use mathlib.Core.Bool.{Bool, cond, false, true}
use native.Mathlib.Omega.{arith}
use native.Mathlib.Numerals.{add-one}
use lib.Dec.{eqb}
use lib.ListN.{get_or, length, length-append}
use borrow.Author.Tests.{ne_eqb}
use Rattle.basics.specs.Counts.{count}
use Rattle.basics.specs.Laws.Counts.{count_most}
use Rattle.places.specs.Limits.{flip_entries, paragraphs}
use Rattle.lines.specs.declared.Entry.{Entry}
use Rattle.lines.specs.declared.Line.{Line}
use Rattle.plan.specs.Plan.{Plan, has_page}
use Rattle.canon.specs.Canonical.{mapping_entries, page_entry, ram_entry, rom_entry, starts_ram, starts_rom}
use Rattle.canon.specs.Laws.Lines.{canonical_lines, line, memattr_line, page_line, ram_line, rom_line}
use Rattle.basics.specs.Laws.Listed.{length_listed}
use Rattle.basics.specs.Listed.{listed}
use Rattle.ledger.specs.Code.Lists.{added, list_of, listing_of, mapping_lines, most_mapping, rom_lines}
use Rattle.ledger.specs.Held.{plan_in}
use Rattle.ledger.specs.Laws.Held.{page_in_lem}
use Rattle.ledger.specs.Laws.Lists.{added_list}
use Rattle.ledger.specs.declared.Found.{Found}
use Rattle.ledger.specs.declared.Listing.{Listing}

-- behind the lines before it, those of the places below n
pub record Gathered (before : List Line) (on : ℕ → Bool) (g : ℕ → Line) (b : ℕ) (f : Found) (n : ℕ) : Type 0 where
  pub up : n ≤ 256
  pub short : length before ≤ b
  pub few : f.count ≤ b + n
  pub is : f ≡ list_of (before ++ listed n on g)

module _ (before : List Line) (on : ℕ → Bool) (g : ℕ → Line) (b : ℕ) where
  gathered_none : (f : Found) → f ≡ list_of before → length before ≤ b → Gathered before on g b f 0
  unfolding listed
  gathered_none f e h =
      record { up = omega arith; short = h; few = rw e (omega arith); is = e ∙ ap list_of (sym (append-nil before)) }

  module _ (f : Found) (n : ℕ) (c : Gathered before on g b f n) where
    gathered_count : f.count ≡ length before + count on n
    gathered_count = ap (λ (x : Found). x.count) c.is ∙ length-append before (listed n on g) ∙ ap (◌+◌ (length before)) (length_listed n on g)

    one_more : before ++ listed (n + 1) on g ≡ (before ++ listed n on g) ++ cond (on n) (g n ∷ []) []
    unfolding listed
    one_more = rw add-one (sym (append_assoc before (listed n on g) (cond (on n) (g n ∷ []) [])))

    one_on : on n ≡ true → before ++ listed (n + 1) on g ≡ (before ++ listed n on g) ++ (g n ∷ [])
    one_on o = one_more ∙ rw o

    one_off : on n ≡ false → before ++ listed (n + 1) on g ≡ before ++ listed n on g
    one_off o = one_more ∙ rw o (append-nil (before ++ listed n on g))

    gathered_next : n < 256 → (v : Found) → v ≡ list_of (before ++ listed (n + 1) on g) → Gathered before on g b v (n + 1)
    gathered_next h v next =
        record {
          up = omega arith;
          short = c.short;
          few =
              omega (
                arith,
                c.short,
                ap (λ (y : Found). y.count) next,
                length-append before (listed (n + 1) on g),
                length_listed (n + 1) on g,
                count_most on (n + 1),
              );
          is = next;
        }

    gathered_on : n < 256 → on n ≡ true → (x : Line) (v : Found) → x ≡ g n → v ≡ added f x → Gathered before on g b v (n + 1)
    gathered_on h o x v ex ev =
        let next : added f x ≡ list_of ((before ++ listed n on g) ++ (g n ∷ [])) = rw (c.is, ex) (added_list (before ++ listed n on g) (g n)) in
        gathered_next h v (ev ∙ next ∙ ap list_of (sym (one_on o)))

    gathered_off : n < 256 → on n ≡ false → (v : Found) → v ≡ f → Gathered before on g b v (n + 1)
    gathered_off h o v ev = gathered_next h v (ev ∙ c.is ∙ ap list_of (sym (one_off o)))

module _ (ks : List ℕ) (ps : List Bool) where
  abbrev q : Plan
  q = plan_in ks ps

  -- ROM
  abbrev pub Roms : Found → ℕ → Type 0
  Roms f n = Gathered [] (starts_rom q) (rom_line q) 0 f n

  pub roms_none : (f : Found) → f ≡ list_of [] → Roms f 0
  roms_none f e = gathered_none [] (starts_rom q) (rom_line q) 0 f e (omega arith)

  pub roms_more : (f : Found) (p : ℕ) (o : Bool) → Roms f p → p < paragraphs → o ≡ starts_rom q p → o ≡ true → (e : Entry) (a v : Found) → e ≡ rom_entry q p
      → a ≡ added f (line (2 + f.count) e) → v ≡ a → Roms v (p + 1)
  roms_more f p o c h eo t e a v ee ea ev =
      let k : 2 + f.count ≡ 2 + count (starts_rom q) p = omega (arith, gathered_count [] (starts_rom q) (rom_line q) 0 f p c) in
      gathered_on [] (starts_rom q) (rom_line q) 0 f p c h (sym eo ∙ t) (line (2 + f.count) e) v (ap₂ line k ee) (ev ∙ ea)

  pub roms_off : (f : Found) (p : ℕ) (o : Bool) → Roms f p → p < paragraphs → o ≡ starts_rom q p → o ≡ false → (v : Found) → v ≡ f → Roms v (p + 1)
  roms_off f p o c h eo t v ev = gathered_off [] (starts_rom q) (rom_line q) 0 f p c h (sym eo ∙ t) v ev

  -- pages
  abbrev pub Pages : Found → ℕ → Type 0
  Pages f n = Gathered (rom_lines q) (has_page q) (page_line q) paragraphs f n

  pub pages_none : (f : Found) → f ≡ list_of (rom_lines q) → f.count ≤ paragraphs → Pages f 0
  pages_none f e h = gathered_none (rom_lines q) (has_page q) (page_line q) paragraphs f e (omega (arith, ap (λ (x : Found). x.count) e))

  pub pages_more : (f : Found) (n : ℕ) → Pages f n → n < flip_entries → get_or ps n false ≡ true → (e : Entry) (a v : Found) → e ≡ page_entry q n
      → a ≡ added f (line (2 + f.count) e) → v ≡ a → Pages v (n + 1)
  pages_more f n c h t e a v ee ea ev =
      let k : 2 + f.count ≡ 2 + count (starts_rom q) 256 + count (has_page q) n =
      omega (arith, gathered_count (rom_lines q) (has_page q) (page_line q) paragraphs f n c, length_listed 256 (starts_rom q) (rom_line q)) in
      gathered_on (rom_lines q) (has_page q) (page_line q) paragraphs f n c h (page_in_lem ks ps n ∙ t) (line (2 + f.count) e) v (ap₂ line k ee) (ev ∙ ea)

  pub pages_off : (f : Found) (n : ℕ) → Pages f n → n < flip_entries → get_or ps n false ≡ false → (v : Found) → v ≡ f → Pages v (n + 1)
  pages_off f n c h t v ev = gathered_off (rom_lines q) (has_page q) (page_line q) paragraphs f n c h (page_in_lem ks ps n ∙ t) v ev

  -- RAM
  mapping_long : length (mapping_lines q) ≡ length (mapping_entries q)
  mapping_long =
      omega (
        arith,
        length-append (rom_lines q) (listed 256 (has_page q) (page_line q)),
        length-append (listed 256 (starts_rom q) (rom_entry q)) (listed 256 (has_page q) (page_entry q)),
        length_listed 256 (starts_rom q) (rom_line q),
        length_listed 256 (has_page q) (page_line q),
        length_listed 256 (starts_rom q) (rom_entry q),
        length_listed 256 (has_page q) (page_entry q),
      )

  numbered : (m k : ℕ) → cond (eqb m 0) 2 3 + (m + k) ≡ 1 + cond (eqb m 0) 1 (2 + m) + k
  numbered zero k = omega arith
  numbered (suc m) k = rw (ne_eqb (suc m) 0 (omega arith)) (omega arith)

  pub record Rams (names : ℕ) (f : Found) (n : ℕ) : Type 0 where
    pub small : names ≤ 3
    pub named : names ≡ cond (eqb (length (mapping_lines q)) 0) 2 3
    pub gathered : Gathered (mapping_lines q) (starts_ram q) (ram_line q) most_mapping f n
    pub few : f.count ≤ most_mapping + n
    pub up : n ≤ 256

  pub rams_none : (f : Found) (names : ℕ) → f ≡ list_of (mapping_lines q) → f.count ≤ most_mapping → names ≡ cond (eqb f.count 0) 2 3 → names ≤ 3 → Rams names f 0
  rams_none f names e h en s =
      let k : f.count ≡ length (mapping_lines q) = ap (λ (x : Found). x.count) e in
      let g : Gathered (mapping_lines q) (starts_ram q) (ram_line q) most_mapping f 0 = gathered_none (mapping_lines q) (starts_ram q) (ram_line q) most_mapping f e (omega arith) in
      record { small = s; named = en ∙ ap (λ (m : ℕ). cond (eqb m 0) 2 3) k; gathered = g; few = g.few; up = omega arith }

  rams_next : (names p : ℕ) (f v : Found) → Rams names f p → Gathered (mapping_lines q) (starts_ram q) (ram_line q) most_mapping v (p + 1) → Rams names v (p + 1)
  rams_next names p f v c g = record { small = c.small; named = c.named; gathered = g; few = g.few; up = g.up }

  pub rams_more : (f : Found) (names p : ℕ) (o : Bool) → Rams names f p → p < paragraphs → o ≡ starts_ram q p → o ≡ true → (e : Entry) (a v : Found) → e ≡ ram_entry q p
      → a ≡ added f (line (names + f.count) e) → v ≡ a → Rams names v (p + 1)
  rams_more f names p o c h eo t e a v ee ea ev =
      let m : ℕ = length (mapping_lines q) in
      let k : names + f.count ≡ 1 + memattr_line q + count (starts_ram q) p =
      ap₂ ◌+◌ c.named (gathered_count (mapping_lines q) (starts_ram q) (ram_line q) most_mapping f p c.gathered)
      ∙ numbered m (count (starts_ram q) p) ∙ ap (λ (j : ℕ). 1 + cond (eqb j 0) 1 (2 + j) + count (starts_ram q) p) mapping_long in
      rams_next names p f v c
      (gathered_on (mapping_lines q) (starts_ram q) (ram_line q) most_mapping f p c.gathered h (sym eo ∙ t) (line (names + f.count) e) v (ap₂ line k ee) (ev ∙ ea))

  pub rams_off : (f : Found) (names p : ℕ) (o : Bool) → Rams names f p → p < paragraphs → o ≡ starts_ram q p → o ≡ false → (v : Found) → v ≡ f → Rams names v (p + 1)
  rams_off f names p o c h eo t v ev = rams_next names p f v c (gathered_off (mapping_lines q) (starts_ram q) (ram_line q) most_mapping f p c.gathered h (sym eo ∙ t) v ev)

  -- all
  pub listing_is : (f l : Found) → f ≡ list_of (mapping_lines q) → l ≡ list_of (canonical_lines q)
      → ◌≡◌ {A = Listing} (record { mapping = f.count; count = l.count; lines = l.lines }) (listing_of q)
  unfolding listing_of
  listing_is f l ef el = rw (ef, el, mapping_long)
