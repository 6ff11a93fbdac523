-- The canonical lines: the canonical entries with the numbers that their CFG gives them, and what is known of lists of such lines.
use Rattle.std.specs.Prelude.{◌+◌, ◌<◌, suc, zero, ℕ, ◌≡◌, refl, List, [], ◌++◌, ◌∷◌, Bool, ◌&&◌, ◌||◌, cond, false, true, eqb, length}
use Rattle.std.proofs.Common.{◌∙◌, sym, arith, eq-eqb, eqb-true}
use Rattle.std.proofs.Math.Option.{some}
use Rattle.std.proofs.lemmas.Bool.{eqb-false}
use Rattle.basics.specs.Counts.{count}
use Rattle.basics.specs.Laws.Each.{each_append}
use Rattle.basics.specs.Laws.Tests.{cases, or_left, or_right}
use Rattle.basics.specs.Lists.{Each}
use Rattle.basics.specs.Options.{is_some}
use Rattle.places.specs.Limits.{flip_entries, paragraphs}
use Rattle.lines.specs.Lines.{holds, layer, line_at}
use Rattle.lines.specs.Typed.{All, cons, nil}
use Rattle.lines.specs.declared.Entry.{Entry}
use Rattle.lines.specs.declared.Line.{Line}
use Rattle.rules.specs.Code.Clashes.{Numbered}
use Rattle.plan.specs.Plan.{Plan, has_page}
use Rattle.canon.specs.Canonical.{mapping_entries, page_entry, ram_entry, rom_entry, starts_ram, starts_rom}
use Rattle.basics.specs.Laws.Listed.{each_listed}
use Rattle.basics.specs.Listed.{listed}

-- the first line names a section, the entries of [mapping] follow; then, in a line of its own, [memattr]
abbrev pub line : ℕ → Entry → Line
line n e = record { source = n; entry = e }

abbrev pub rom_line : Plan → ℕ → Line
rom_line q p = line (2 + count (starts_rom q) p) (rom_entry q p)

abbrev pub page_line : Plan → ℕ → Line
page_line q n = line (2 + count (starts_rom q) paragraphs + count (has_page q) n) (page_entry q n)

abbrev pub memattr_line : Plan → ℕ
memattr_line q = cond (eqb (length (mapping_entries q)) 0) 1 (2 + length (mapping_entries q))

abbrev pub ram_line : Plan → ℕ → Line
ram_line q p = line (1 + memattr_line q + count (starts_ram q) p) (ram_entry q p)

abbrev pub canonical_lines : Plan → List Line
canonical_lines q =
    listed paragraphs (starts_rom q) (rom_line q)
    ++ (listed flip_entries (has_page q) (page_line q) ++ listed paragraphs (starts_ram q) (ram_line q))

-- a fact of each
pub all_append : {P : Entry → Type 0} {ls ms : List Line} → All P ls → All P ms → All P (ls ++ ms)
all_append nil q = q
all_append (cons p ps) q = cons p (all_append ps q)

pub all_listed : {P : Entry → Type 0} (n : ℕ) (on : ℕ → Bool) (f : ℕ → Line) → ((j : ℕ) → j < n → on j ≡ true → P (f j).entry) → All P (listed n on f)
unfolding listed
all_listed zero on f h = nil
all_listed {P} (suc n) on f h =
    all_append (all_listed n on f (λ j l. h j (omega arith)))
    (cases (on n) (λ e. rw e (cons (h n (omega arith) e) nil)) (λ e. rw e nil))

-- a line that is there is found
pub some_append : (ls ms : List Line) (t a : ℕ) → is_some (line_at (ls ++ ms) t a) ≡ is_some (line_at ls t a) || is_some (line_at ms t a)
some_append [] ms t a = refl
some_append (l ∷ ls) ms t a = by (eqb (layer l.entry) t && holds l.entry a) (some_append ls ms t a)
  where
    by : (b : Bool) → is_some (line_at (ls ++ ms) t a) ≡ is_some (line_at ls t a) || is_some (line_at ms t a)
        → is_some (cond b (some l) (line_at (ls ++ ms) t a)) ≡ is_some (cond b (some l) (line_at ls t a)) || is_some (line_at ms t a)
    by true e = refl
    by false e = e

pub listed_some : (n : ℕ) (on : ℕ → Bool) (f : ℕ → Line) (t a j : ℕ) → j < n → on j ≡ true → layer (f j).entry ≡ t → holds (f j).entry a ≡ true
    → is_some (line_at (listed n on f) t a) ≡ true
unfolding listed
listed_some zero on f t a j l e o w = absurd (omega arith)
listed_some (suc n) on f t a j l e o w =
    some_append (listed n on f) (cond (on n) (f n ∷ []) []) t a
    ∙ cases (eqb j n)
    (λ z.
    let q : n ≡ j = sym (eqb-true j n z) in
    or_right (is_some (line_at (listed n on f) t a)) _ (rw (q, e, eq-eqb (layer (f j).entry) t o, w)))
    (λ z. or_left _ _ (listed_some n on f t a j (omega (arith, eqb-false j n z)) e o w))

-- each has a number
pub canonical_numbered : (q : Plan) → Each Numbered (canonical_lines q)
canonical_numbered q =
    each_append (listed paragraphs (starts_rom q) (rom_line q)) _ (each_listed paragraphs (starts_rom q) (rom_line q) (λ j h e. omega arith))
    (each_append (listed flip_entries (has_page q) (page_line q)) _ (each_listed flip_entries (has_page q) (page_line q) (λ j h e. omega arith))
    (each_listed paragraphs (starts_ram q) (ram_line q) (λ j h e. omega arith)))
