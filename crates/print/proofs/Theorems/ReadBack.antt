-- A CFG that is written is read back: its entries on their lines, no byte foreign, no line outside the grammar, and short enough.
use Rattle.std.specs.Prelude.{◌*◌, ◌+◌, ◌≤◌, suc, ℕ, ◌≡◌, false, ltb, length}
use Rattle.std.proofs.Common.{◌∙◌, sym, le-ltb, ne_eqb}
use Rattle.std.proofs.Math.Path.{ap, refl}
use mathlib.Core.List.{List, [], ◌++◌, ◌∷◌, append_assoc, append-nil, map}
use native.Mathlib.Omega.{arith}
use Rattle.std.proofs.Math.ListN.{length-append}
use Rattle.basics.specs.Laws.Each.{each_append}
use Rattle.basics.specs.Lists.{Each, also, joined, none}
use Rattle.basics.specs.Rows.{Silent, none as silence, also as still}
use Rattle.places.specs.Limits.{line_limit}
use Rattle.text.specs.Bytes.{first_foreign, lf, text}
use Rattle.text.specs.Lines.{lines_of}
use Rattle.lines.specs.declared.Entry.{Entry}
use Rattle.lines.specs.declared.Entry.TheVariants.{Paged, Ram, Rom}
use Rattle.lines.specs.declared.Line.{Line}
use Rattle.lines.specs.declared.Width.TheVariants.{Eight, Sixteen}
use Rattle.grammar.specs.Grammar.{line_says}
use Rattle.grammar.specs.Laws.Print.{mapping_says, memattr_says}
use Rattle.grammar.specs.Print.{entry_text}
use Rattle.grammar.specs.declared.Says.{Says}
use Rattle.grammar.specs.declared.Says.TheVariants.{Claims, Heading}
use Rattle.grammar.specs.declared.Section.{Section}
use Rattle.grammar.specs.declared.Section.TheVariants.{Mapping, Memattr, Nowhere}
use Rattle.cfg.specs.File.{entries_from, entries_of, has_foreign, has_outside, no_entry, outside_from, outside_line, refusal_rows, says_from, says_of, too_long, too_many}
use Rattle.print.specs.Cfg.{cfg_text, entry_line, line_text, lines_in, memattr_at, numbered, section_text}
use Rattle.print.proofs.Theorems.Lines.{Told, entries_claimed, entry_lines, entry_says, line_first, none_outside}
use Rattle.print.specs.Laws.Shown.{Shown, AllWritten, none_foreign, shown_text, written_line}

-- a section: its lines, what they say, the section behind it, and the number of the line behind it
abbrev section_lines : List ℕ → List Entry → List (List ℕ)
section_lines name [] = []
section_lines name (e ∷ es) = name ∷ map entry_text (e ∷ es)

abbrev section_says : Section → List Entry → List Says
section_says t [] = []
section_says t (e ∷ es) = Heading t ∷ map Claims (e ∷ es)

abbrev section_left : Section → List Entry → Section → Section
section_left t [] s = s
section_left t (e ∷ es) s = t

abbrev behind_section : ℕ → List Entry → ℕ
behind_section n [] = n
behind_section n (e ∷ es) = n + 1 + length (e ∷ es)

module _ (t : Section) (name : List ℕ) (shown : Shown name) (head : (s : Section) → line_says s name ≡ Heading t) where
  lines_section : (es : List Entry) (r : List ℕ) → Each (Told t) es → lines_of (section_text name es ++ r) ≡ section_lines name es ++ lines_of r
  lines_section [] r none = refl
  lines_section (e ∷ es) r told =
      ap lines_of (append_assoc (line_text name) (joined entry_line (e ∷ es)) r)
      ∙ line_first name (joined entry_line (e ∷ es) ++ r) shown ∙ ap (λ (ls : List (List ℕ)). name ∷ ls) (entry_lines t (e ∷ es) r told)

  says_section : (es : List Entry) (s : Section) (ls : List (List ℕ)) → Each (Told t) es
      → says_from s (section_lines name es ++ ls) ≡ section_says t es ++ says_from (section_left t es s) ls
  unfolding says_from
  says_section [] s ls none = refl
  says_section (e ∷ es) s ls told = rw (head s) (ap (λ (xs : List Says). Heading t ∷ xs) (entry_says t (e ∷ es) ls told))

  entries_section : (n : ℕ) (es : List Entry) (xs : List Says) → entries_from n (section_says t es ++ xs) ≡ numbered (n + 1) es ++ entries_from (behind_section n es) xs
  unfolding entries_from
  entries_section n [] xs = refl
  entries_section n (e ∷ es) xs = entries_claimed (n + 1) (e ∷ es) xs

  outside_section : (n : ℕ) (es : List Entry) (xs : List Says) → outside_from n (section_says t es ++ xs) ≡ outside_from (behind_section n es) xs
  unfolding outside_from
  outside_section n [] xs = refl
  outside_section n (e ∷ es) xs = none_outside (n + 1) (e ∷ es) xs

  written_entries : (es : List Entry) → Each (Told t) es → AllWritten (joined entry_line es)
  unfolding joined
  written_entries [] none = none
  written_entries (e ∷ es) (also f fs) = each_append (entry_line e) (joined entry_line es) (written_line (entry_text e) f.shown) (written_entries es fs)

  written_section : (es : List Entry) → Each (Told t) es → AllWritten (section_text name es)
  written_section [] none = none
  written_section (e ∷ es) told = each_append (line_text name) (joined entry_line (e ∷ es)) (written_line name shown) (written_entries (e ∷ es) told)

-- a line has at most 31 bytes
entry_length : (e : Entry) → length (entry_text e) ≤ 30
entry_length (Rom lo hi at) = omega arith
entry_length (Paged lo hi at y) = omega arith
entry_length (Ram lo hi Sixteen) = omega arith
entry_length (Ram lo hi Eight) = omega arith

entries_length : (es : List Entry) → length (joined entry_line es) ≤ 31 * length es
unfolding joined
entries_length [] = omega arith
entries_length (e ∷ es) =
    omega (arith, length-append (entry_line e) (joined entry_line es), length-append (entry_text e) (lf ∷ []), entry_length e, entries_length es)

section_length : (name : List ℕ) (es : List Entry) → length (section_text name es) ≤ length name + 1 + 31 * length es
section_length name [] = omega arith
section_length name (e ∷ es) =
    omega (arith, length-append (line_text name) (joined entry_line (e ∷ es)), length-append name (lf ∷ []), entries_length (e ∷ es))

pub record ReadsBack (mapping memattr : List Entry) : Type 0 where
  pub entries : entries_of (cfg_text mapping memattr) ≡ lines_in mapping memattr
  pub outside : outside_line (cfg_text mapping memattr) ≡ 0
  pub written : AllWritten (cfg_text mapping memattr)
  pub short : length (cfg_text mapping memattr) ≤ 20 + 31 * (length mapping + length memattr)

module _ (mapping memattr : List Entry) (m : Each (Told Mapping) mapping) (a : Each (Told Memattr) memattr) where
  mapping_name_lem : Shown (text "[mapping]")
  mapping_name_lem = shown_text (text "[mapping]") refl

  memattr_name_lem : Shown (text "[memattr]")
  memattr_name_lem = shown_text (text "[memattr]") refl

  said : says_of (cfg_text mapping memattr) ≡ section_says Mapping mapping ++ (section_says Memattr memattr ++ [])
  unfolding cfg_text lines_of says_from
  said =
      ap (says_from Nowhere)
      (lines_section Mapping (text "[mapping]") mapping_name_lem mapping_says mapping (section_text (text "[memattr]") memattr) m
      ∙ ap (λ (ls : List (List ℕ)). section_lines (text "[mapping]") mapping ++ ls)
      (ap lines_of (sym (append-nil (section_text (text "[memattr]") memattr)))
      ∙ lines_section Memattr (text "[memattr]") memattr_name_lem memattr_says memattr [] a))
      ∙ says_section Mapping (text "[mapping]") mapping_name_lem mapping_says mapping Nowhere (section_lines (text "[memattr]") memattr ++ []) m
      ∙ ap (λ (xs : List Says). section_says Mapping mapping ++ xs)
      (says_section Memattr (text "[memattr]") memattr_name_lem memattr_says memattr (section_left Mapping mapping Nowhere) [] a)

  number_behind : behind_section 1 mapping + 1 ≡ 1 + memattr_at mapping
  number_behind = by mapping
    where
      by : (es : List Entry) → behind_section 1 es + 1 ≡ 1 + memattr_at es
      by [] = omega arith
      by (e ∷ es) = omega arith

  pub reads_back : ReadsBack mapping memattr
  unfolding cfg_text entries_from outside_from
  reads_back =
      record {
        entries =
            ap (entries_from 1) said
            ∙ entries_section Mapping (text "[mapping]") mapping_name_lem mapping_says 1 mapping (section_says Memattr memattr ++ [])
            ∙ ap (λ (ls : List Line). numbered 2 mapping ++ ls)
            (entries_section Memattr (text "[memattr]") memattr_name_lem memattr_says (behind_section 1 mapping) memattr []
            ∙ append-nil (numbered (behind_section 1 mapping + 1) memattr) ∙ ap (λ (n : ℕ). numbered n memattr) number_behind);
        outside =
            ap (outside_from 1) said
            ∙ outside_section Mapping (text "[mapping]") mapping_name_lem mapping_says 1 mapping (section_says Memattr memattr ++ [])
            ∙ outside_section Memattr (text "[memattr]") memattr_name_lem memattr_says (behind_section 1 mapping) memattr [];
        written =
            each_append (section_text (text "[mapping]") mapping) (section_text (text "[memattr]") memattr)
            (written_section Mapping (text "[mapping]") mapping_name_lem mapping_says mapping m)
            (written_section Memattr (text "[memattr]") memattr_name_lem memattr_says memattr a);
        short =
            omega (
              arith,
              length-append (section_text (text "[mapping]") mapping) (section_text (text "[memattr]") memattr),
              section_length (text "[mapping]") mapping,
              section_length (text "[memattr]") memattr,
            );
      }

-- so that 22 to 24 find nothing, where there are entries and few enough
length_numbered : (n : ℕ) (es : List Entry) → length (numbered n es) ≡ length es
length_numbered n [] = refl
length_numbered n (e ∷ es) = ap suc (length_numbered (n + 1) es)

module _ (mapping memattr : List Entry) (b : ReadsBack mapping memattr) (some : 1 ≤ length mapping + length memattr) (few : length mapping + length memattr ≤ line_limit) where
  abbrev cfg : List ℕ
  cfg = cfg_text mapping memattr

  counted : length (entries_of cfg) ≡ length mapping + length memattr
  counted =
      ap length b.entries ∙ length-append (numbered 2 mapping) (numbered (1 + memattr_at mapping) memattr)
      ∙ omega (arith, length_numbered 2 mapping, length_numbered (1 + memattr_at mapping) memattr)

  pub written_silent : Silent (refusal_rows cfg)
  written_silent =
      let long : too_long cfg ≡ false = le-ltb 16384 (length cfg) (omega (arith, b.short)) in
      let strange : has_foreign cfg ≡ false = le-ltb (first_foreign cfg) (length cfg) (omega (arith, none_foreign cfg b.written)) in
      let out : has_outside cfg ≡ false = ap (ltb 0) b.outside in
      let empty : no_entry cfg ≡ false = ne_eqb (length (entries_of cfg)) 0 (omega (arith, counted)) in
      let many : too_many cfg ≡ false = le-ltb line_limit (length (entries_of cfg)) (omega (arith, counted)) in
      still long (still strange (still out (still empty (still many silence))))
