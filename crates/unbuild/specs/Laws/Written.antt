-- The CFG of the canonical lines that stand in an array is the canonical CFG.
use Prim.Native.Nat.{◌%◌, ◌+◌, ◌-◌, ◌≤◌, min, suc, zero, ℕ}
use mathlib.Core.List.{List, [], ◌++◌, ◌∷◌, append_assoc, map, map-append}
use Rattle.std.proofs.Common.{◌∙◌, take-append-drop}
use Rattle.std.specs.Prelude.{◌≡◌, refl, Bool, cond, false, true, take}
use Rattle.std.proofs.Math.Path.{ap, ap₂, fun_ext, sym}
use native.Mathlib.Omega.{arith}
use Rattle.std.proofs.Math.ListN.{drop, length, length-append}
use Rattle.std.proofs.Math.Seq.{drop-append_seam, take-append_seam}
use Rattle.places.specs.Limits.{flip_entries, line_limit, paragraphs}
use Rattle.lines.specs.declared.Line.{Line}
use Rattle.print.specs.Cfg.{cfg_text}
use Rattle.print.specs.Code.Texts.{page_digit}
use Rattle.sheet.specs.Code.Sheets.{cfg_of_lines, entries_in}
use Rattle.plan.specs.Plan.{Plan, has_page}
use Rattle.canon.specs.Canonical.{mapping_entries, memattr_entries, page_entry, starts_ram, starts_rom}
use Rattle.canon.specs.Laws.Lines.{canonical_lines, page_line, ram_line, rom_line}
use Rattle.basics.specs.Listed.{listed}
use Rattle.ledger.specs.Code.Lists.{listing_of, mapping_lines, rom_lines, shown}
use Rattle.rebuild.specs.Laws.Retraced.{take_shown}
use Rattle.unbuild.specs.Behind.{cfg_of}
use Rattle.unbuild.specs.Code.Answers.{cfgIn}

-- their entries
map_listed : {A B : Type 0} (g : A → B) (n : ℕ) (on : ℕ → Bool) (f : ℕ → A) → map g (listed n on f) ≡ listed n on (λ j. g (f j))
unfolding listed
map_listed g zero on f = refl
map_listed g (suc n) on f =
    map-append g (listed n on f) (cond (on n) (f n ∷ []) []) ∙ ap₂ ◌++◌ (map_listed g n on f) (by (on n))
  where
    by : (b : Bool) → map g (cond b (f n ∷ []) []) ≡ cond b (g (f n) ∷ []) []
    by true = refl
    by false = refl

entries_long : (ls : List Line) → length (entries_in ls) ≡ length ls
entries_long [] = refl
entries_long (l ∷ ls) = ap suc (entries_long ls)

module _ (q : Plan) where
  abbrev rams : List Line
  rams = listed paragraphs (starts_ram q) (ram_line q)

  one_digit_lem : (λ n. page_digit (page_entry q n)) ≡ page_entry q
  one_digit_lem = fun_ext (λ n. let z : n % 16 % 16 ≡ n % 16 = omega arith in rw z)

  mapping_are : entries_in (mapping_lines q) ≡ mapping_entries q
  mapping_are =
      map-append (λ (l : Line). page_digit l.entry) (rom_lines q) (listed flip_entries (has_page q) (page_line q))
      ∙ ap₂ ◌++◌ (map_listed (λ (l : Line). page_digit l.entry) paragraphs (starts_rom q) (rom_line q))
      (map_listed (λ (l : Line). page_digit l.entry) flip_entries (has_page q) (page_line q) ∙ ap (listed flip_entries (has_page q)) one_digit_lem)

  memattr_are : entries_in rams ≡ memattr_entries q
  memattr_are = map_listed (λ (l : Line). page_digit l.entry) paragraphs (starts_ram q) (ram_line q)

  lines_are : mapping_lines q ++ rams ≡ canonical_lines q
  lines_are = append_assoc (rom_lines q) (listed flip_entries (has_page q) (page_line q)) rams

  -- lines at the front of an array, in two parts
  parts_cfg : (t xs ys rest : List Line) → t ≡ xs ++ (ys ++ rest) → cfg_of_lines t (length xs) (length ys) ≡ cfg_text (entries_in xs) (entries_in ys)
  parts_cfg t xs ys rest e =
      let a : take (length xs) t ≡ xs = ap (take (length xs)) e ∙ take-append_seam xs (ys ++ rest) in
      let b : take (length ys) (drop (length xs) t) ≡ ys =
      ap (λ (x : List Line). take (length ys) (drop (length xs) x)) e ∙ ap (take (length ys)) (drop-append_seam xs (ys ++ rest)) ∙ take-append_seam ys rest in
      rw (a, b)

  pub cfg_in : length (canonical_lines q) ≤ line_limit → cfgIn (listing_of q) ≡ cfg_of q
  unfolding listing_of
  cfg_in few =
      let t : List Line = shown (canonical_lines q) in
      let c : ℕ = length (canonical_lines q) in
      let rest : List Line = drop c t in
      let s : t ≡ mapping_lines q ++ (rams ++ rest) =
      sym (take-append-drop c t) ∙ ap (λ (x : List Line). x ++ rest) (take_shown (canonical_lines q) few ∙ sym lines_are) ∙ append_assoc (mapping_lines q) rams rest in
      let l : length (mapping_entries q) ≡ length (mapping_lines q) = ap length (sym mapping_are) ∙ entries_long (mapping_lines q) in
      let n : c ≡ length (mapping_lines q) + length rams = ap length (sym lines_are) ∙ length-append (mapping_lines q) rams in
      let m : min (length (mapping_entries q)) (min c line_limit) ≡ length (mapping_lines q) = omega arith in
      let r : min c line_limit - length (mapping_lines q) ≡ length rams = omega arith in
      rw (m, r) (parts_cfg t (mapping_lines q) rams rest s ∙ ap₂ cfg_text mapping_are memattr_are)
