-- The canonical CFG of a plan that takes few enough lines: it is read back as the canonical lines, and 22 to 24 find nothing in it.
use Prim.Native.Nat.{◌*◌, ◌+◌, ◌/◌, ◌<◌, ◌≤◌, suc, zero, ℕ}
use Rattle.std.proofs.Common.{◌∙◌, ap, append_assoc, length-append, ne_eqb}
use Rattle.std.specs.Prelude.{◌≡◌, refl, List, [], ◌++◌, ◌∷◌, Bool, eqb, length}
use Rattle.std.proofs.Math.Bool.{cond, false, true}
use native.Mathlib.Omega.{arith}
use Rattle.basics.specs.Counts.{count}
use Rattle.basics.specs.Laws.Counts.{count_last, count_most}
use Rattle.basics.specs.Laws.Each.{each_append}
use Rattle.basics.specs.Rows.{Silent}
use Rattle.places.specs.Limits.{line_limit}
use Rattle.switches.specs.Flips.{first_k}
use Rattle.switches.specs.Laws.Flips.{first_small}
use Rattle.lines.specs.declared.Entry.{Entry}
use Rattle.lines.specs.declared.Line.{Line}
use Rattle.cfg.specs.File.{entries_of, refusal_rows}
use Rattle.print.specs.Cfg.{InMapping, InMemattr, lines_in, memattr_at, numbered}
use Rattle.print.proofs.Theorems.Lines.{told_mapping, told_memattr}
use Rattle.print.proofs.Theorems.ReadBack.{ReadsBack, reads_back, written_silent}
use Rattle.print.specs.Laws.Shown.{AllWritten}
use Rattle.plan.specs.Fewest.{fewest}
use Rattle.plan.specs.Plan.{Plan, has_page}
use Rattle.plan.specs.Valid.{Valid}
use Rattle.canon.specs.Canonical.{is_rom, mapping_entries, memattr_entries, page_entry, page_offset, page_words, ram_entry, rom_entry, starts_ram, starts_rom}
use Rattle.canon.proofs.Theorems.Bin.{page_rise, rising}
use Rattle.canon.proofs.Theorems.Good.{length_lines}
use Rattle.canon.specs.Laws.Lines.{canonical_lines, line, page_line, ram_line, rom_line}
use Rattle.basics.specs.Laws.Listed.{each_listed, length_listed}
use Rattle.canon.proofs.Theorems.OfPlan.{OfRun, ram_of_lem, rom_of_lem}
use Rattle.basics.specs.Listed.{listed}
use Rattle.unbuild.specs.Behind.{cfg_of}

-- entries numbered one after the other are the lines that count them
numbered_append : (n : ℕ) (xs ys : List Entry) → numbered n (xs ++ ys) ≡ numbered n xs ++ numbered (n + length xs) ys
numbered_append n [] ys = let z : n + 0 ≡ n = omega arith in rw z
numbered_append n (x ∷ xs) ys =
    let z : n + 1 + length xs ≡ n + suc (length xs) = omega arith in
    ap (λ (ls : List Line). line n x ∷ ls) (numbered_append (n + 1) xs ys ∙ rw z)

numbered_listed : (a n : ℕ) (on : ℕ → Bool) (f : ℕ → Entry) → numbered a (listed n on f) ≡ listed n on (λ j. line (a + count on j) (f j))
unfolding listed
numbered_listed a zero on f = refl
numbered_listed a (suc n) on f =
    numbered_append a (listed n on f) (cond (on n) (f n ∷ []) [])
    ∙ rw (numbered_listed a n on f, length_listed n on f) (by (on n) (listed n on (λ j. line (a + count on j) (f j))))
  where
    by : (b : Bool) (ls : List Line) → ls ++ numbered (a + count on n) (cond b (f n ∷ []) []) ≡ ls ++ cond b (line (a + count on n) (f n) ∷ []) []
    by true ls = refl
    by false ls = refl

memattr_line_lem : (es : List Entry) → memattr_at es ≡ cond (eqb (length es) 0) 1 (2 + length es)
memattr_line_lem [] = refl
memattr_line_lem (e ∷ es) = rw (ne_eqb (suc (length es)) 0 (omega arith))

module _ (q : Plan) where
  lines_are : lines_in (mapping_entries q) (memattr_entries q) ≡ canonical_lines q
  lines_are =
      let a : numbered 2 (mapping_entries q) ≡ listed 256 (starts_rom q) (rom_line q) ++ listed 256 (has_page q) (page_line q) =
      numbered_append 2 (listed 256 (starts_rom q) (rom_entry q)) (listed 256 (has_page q) (page_entry q))
      ∙ rw (length_listed 256 (starts_rom q) (rom_entry q), numbered_listed 2 256 (starts_rom q) (rom_entry q), numbered_listed (2 + count (starts_rom q) 256) 256 (has_page q) (page_entry q)) in
      let b : numbered (1 + memattr_at (mapping_entries q)) (memattr_entries q) ≡ listed 256 (starts_ram q) (ram_line q) =
      numbered_listed (1 + memattr_at (mapping_entries q)) 256 (starts_ram q) (ram_entry q)
      ∙ ap (λ (n : ℕ). listed 256 (starts_ram q) (λ j. line (1 + n + count (starts_ram q) j) (ram_entry q j))) (memattr_line_lem (mapping_entries q)) in
      rw (a, b) (append_assoc (listed 256 (starts_rom q) (rom_line q)) (listed 256 (has_page q) (page_line q)) (listed 256 (starts_ram q) (ram_line q)))

  -- as many entries as lines
  length_entries : length (mapping_entries q) + length (memattr_entries q) ≡ length (canonical_lines q)
  length_entries =
      omega (
        arith,
        length-append (listed 256 (starts_rom q) (rom_line q)) (listed 256 (has_page q) (page_line q) ++ listed 256 (starts_ram q) (ram_line q)),
        length-append (listed 256 (has_page q) (page_line q)) (listed 256 (starts_ram q) (ram_line q)),
        length-append (listed 256 (starts_rom q) (rom_entry q)) (listed 256 (has_page q) (page_entry q)),
        length_listed 256 (starts_rom q) (rom_line q),
        length_listed 256 (has_page q) (page_line q),
        length_listed 256 (starts_ram q) (ram_line q),
        length_listed 256 (starts_rom q) (rom_entry q),
        length_listed 256 (has_page q) (page_entry q),
        length_listed 256 (starts_ram q) (ram_entry q),
      )

  -- offsets have five digits
  pages_few : (n : ℕ) → page_offset q n ≤ 65536 + 4096 * count (has_page q) n
  unfolding page_offset
  pages_few zero = omega (arith, count_most (is_rom q) 256)
  pages_few (suc n) = by (has_page q n) (count_last (has_page q) n) (pages_few n) (omega (arith, first_small (n / 16)))
    where
      by : (b : Bool) → count (has_page q) (suc n) ≡ count (has_page q) n + cond b 1 0 → page_offset q n ≤ 65536 + 4096 * count (has_page q) n → page_words (n / 16) ≤ 4096
          → cond b (page_offset q n + page_words (n / 16)) (page_offset q n) ≤ 65536 + 4096 * count (has_page q) (suc n)
      by true e f g = omega arith
      by false e f g = omega arith

  module _ (v : Valid q) (some : 1 ≤ fewest q) (few : fewest q ≤ line_limit) where
    pages_counted : count (has_page q) 256 ≤ line_limit
    unfolding fewest
    pages_counted = omega arith

    small : page_offset q 256 < 0xA0000
    small = omega (arith, pages_few 256, pages_counted)

    rom_fits : (s : ℕ) → s < 256 → starts_rom q s ≡ true → InMapping (rom_entry q s)
    rom_fits s h e =
        let r : OfRun q (rom_entry q s) = rom_of_lem q v s h e in
        let c : count (is_rom q) s ≤ 256 = omega (arith, count_most (is_rom q) s) in
        (omega arith, omega (arith, r.below, r.to, r.from), omega arith)

    page_fits : (n : ℕ) → n < 256 → has_page q n ≡ true → InMapping (page_entry q n)
    page_fits n h e =
        let k : first_k (n / 16) ≤ 8 = first_small (n / 16) in
        let u : page_offset q n ≤ page_offset q 256 = rising (page_offset q) (page_rise q) n 256 (omega arith) in
        (omega (arith, small), omega (arith, small), omega arith, omega arith)

    ram_fits_lem : (s : ℕ) → s < 256 → starts_ram q s ≡ true → InMemattr (ram_entry q s)
    ram_fits_lem s h e = let r : OfRun q (ram_entry q s) = ram_of_lem q v s h e in (omega arith, omega (arith, r.below, r.some, r.to))

    back : ReadsBack (mapping_entries q) (memattr_entries q)
    back =
        reads_back (mapping_entries q) (memattr_entries q)
        (each_append (listed 256 (starts_rom q) (rom_entry q)) (listed 256 (has_page q) (page_entry q))
        (each_listed 256 (starts_rom q) (rom_entry q) (λ s h e. told_mapping (rom_entry q s) (rom_fits s h e)))
        (each_listed 256 (has_page q) (page_entry q) (λ n h e. told_mapping (page_entry q n) (page_fits n h e))))
        (each_listed 256 (starts_ram q) (ram_entry q) (λ s h e. told_memattr (ram_entry q s) (ram_fits_lem s h e)))

    pub cfg_entries : entries_of (cfg_of q) ≡ canonical_lines q
    cfg_entries = back.entries ∙ lines_are

    pub cfg_written : AllWritten (cfg_of q)
    cfg_written = back.written

    pub cfg_silent : Silent (refusal_rows (cfg_of q))
    cfg_silent =
        written_silent (mapping_entries q) (memattr_entries q) back (omega (arith, length_entries, length_lines q v)) (omega (arith, length_entries, length_lines q v))
