-- The lines of a written CFG.
use Rattle.std.specs.Prelude.{◌+◌, ◌≤◌, suc, ℕ, ◌≡◌, refl, List, [], ◌++◌, ◌∷◌, map, leb, length}
use Rattle.std.proofs.Common.{◌∙◌, ap, append_assoc, arith, leb-true, ne_eqb}
use Rattle.basics.specs.Laws.Tests.{and_left}
use Rattle.basics.specs.Lists.{Each, also, joined, none}
use Rattle.text.specs.Lines.{lines_of}
use Rattle.lines.specs.declared.Entry.{Entry}
use Rattle.lines.specs.declared.Entry.TheVariants.{Paged, Ram, Rom}
use Rattle.lines.specs.declared.Line.{Line}
use Rattle.grammar.specs.Grammar.{line_says}
use Rattle.grammar.specs.Laws.Print.{paged_says, ram_says, rom_says}
use Rattle.grammar.specs.Print.{entry_text}
use Rattle.grammar.specs.declared.Says.{Says}
use Rattle.grammar.specs.declared.Says.TheVariants.{Claims}
use Rattle.grammar.specs.declared.Section.{Section}
use Rattle.grammar.specs.declared.Section.TheVariants.{Mapping, Memattr}
use Rattle.cfg.specs.File.{entries_from, outside_from, says_from}
use Rattle.print.specs.Cfg.{InMapping, InMemattr, entry_line, line_text, numbered}
use Rattle.print.specs.Laws.Shown.{Shown, mapping_shown, memattr_shown}

-- a line that is shown, its end, and what stands behind it
pub line_first : (x s : List ℕ) → Shown x → lines_of (line_text x ++ s) ≡ x ∷ lines_of s
unfolding lines_of
line_first [] s none = refl
line_first (b ∷ x) s (also e r) =
    let l : 0x20 ≤ b = leb-true 0x20 b (and_left (leb 0x20 b) _ e) in
    rw (ne_eqb b 10 (omega arith), ne_eqb b 13 (omega arith), line_first x s r)

-- an entry says itself in a section
pub record Told (s : Section) (e : Entry) : Type 0 where
  pub shown : Shown (entry_text e)
  pub says : line_says s (entry_text e) ≡ Claims e

pub told_mapping : (e : Entry) → InMapping e → Told Mapping e
told_mapping (Rom lo hi at) f = record { shown = mapping_shown (Rom lo hi at) f; says = rom_says lo.0 hi.0 at.0 f.0 f.1 f.2 }
told_mapping (Paged lo hi at y) f =
    record { shown = mapping_shown (Paged lo hi at y) f; says = paged_says lo.0 hi.0 at.0 y.0 f.0 f.1 f.2 f.3 }
told_mapping (Ram lo hi w) f = absurd f

pub told_memattr : (e : Entry) → InMemattr e → Told Memattr e
told_memattr (Rom lo hi at) f = absurd f
told_memattr (Paged lo hi at y) f = absurd f
told_memattr (Ram lo hi w) f = record { shown = memattr_shown (Ram lo hi w) f; says = ram_says lo.0 hi.0 w f.0 f.1 }

-- entries' lines, one after the other
pub entry_lines : (s : Section) (es : List Entry) (r : List ℕ) → Each (Told s) es → lines_of (joined entry_line es ++ r) ≡ map entry_text es ++ lines_of r
unfolding joined
entry_lines s [] r none = refl
entry_lines s (e ∷ es) r (also t ts) =
    ap lines_of (append_assoc (entry_line e) (joined entry_line es) r)
    ∙ line_first (entry_text e) (joined entry_line es ++ r) t.shown ∙ ap (λ (ls : List (List ℕ)). entry_text e ∷ ls) (entry_lines s es r ts)

pub entry_says : (s : Section) (es : List Entry) (ls : List (List ℕ)) → Each (Told s) es → says_from s (map entry_text es ++ ls) ≡ map Claims es ++ says_from s ls
unfolding says_from
entry_says s [] ls none = refl
entry_says s (e ∷ es) ls (also t ts) = rw t.says (ap (λ (xs : List Says). Claims e ∷ xs) (entry_says s es ls ts))

-- what they claim, by the numbers of their lines; none is outside
pub entries_claimed : (n : ℕ) (es : List Entry) (xs : List Says) → entries_from n (map Claims es ++ xs) ≡ numbered n es ++ entries_from (n + length es) xs
unfolding entries_from
entries_claimed n [] xs = let z : n + 0 ≡ n = omega arith in rw z
entries_claimed n (e ∷ es) xs =
    let z : n + 1 + length es ≡ n + suc (length es) = omega arith in
    ap (λ (ls : List Line). record { source = n; entry = e } ∷ ls) (entries_claimed (n + 1) es xs ∙ rw z)

pub none_outside : (n : ℕ) (es : List Entry) (xs : List Says) → outside_from n (map Claims es ++ xs) ≡ outside_from (n + length es) xs
unfolding outside_from
none_outside n [] xs = let z : n + 0 ≡ n = omega arith in rw z
none_outside n (e ∷ es) xs = let z : n + 1 + length es ≡ n + suc (length es) = omega arith in none_outside (n + 1) es xs ∙ rw z
