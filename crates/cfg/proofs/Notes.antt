-- What one line adds to what the lines say: one law for each way out of the code.
use Prim.Native.Nat.{ℕ, ◌+◌, ◌<◌, ◌≤◌}
use mathlib.Core.Path.{◌≡◌, ◌∙◌}
use Rattle.std.specs.Prelude.{Option, Some}
use mathlib.Core.List.{List}
use lib.ListN.{length, set}
use borrow.Author.Tests.{eq-eqb, ne_eqb}
use Rattle.basics.specs.Lists.{part}
use Rattle.places.specs.Limits.{line_limit, cfg_limit}
use Rattle.text.specs.Lines.{line_end}
use Rattle.text.specs.Laws.Lines.{end_within}
use Rattle.lines.specs.declared.Line.{Line}
use Rattle.lines.specs.declared.Entry.{Entry}
use Rattle.grammar.specs.declared.Says.{Says}
use Rattle.grammar.specs.declared.Says.TheVariants.{Heading, Claims, Outside}
use Rattle.grammar.specs.declared.Section.{Section}
use Rattle.grammar.specs.Grammar.{line_says}
use Rattle.cfg.specs.declared.Scan.{Scan}
use Rattle.cfg.specs.Code.Steps.{onward, in_section, with_entry, with_outside, noted, noted_line}

-- an entry is stored, and the line of the first that is one too many is kept
module _ (st : Scan) (e : Entry) (x : Option ℕ) (ls : List Line) (so : ls ≡ set st.lines st.count (record { source = st.line; entry = e })) where
  abbrev Stored : Type 0
  Stored = ◌≡◌ {A = Scan} (record { line = st.line; section = st.section; outside = st.outside; extra = x; count = st.count + 1; lines = ls }) (with_entry st e)

  pub entry_extra : st.count ≡ line_limit → x ≡ Some st.line → Stored
  entry_extra h f = rw (eq-eqb st.count line_limit h, f, so)

  pub entry_other : (st.count ≡ line_limit → ⊥) → x ≡ st.extra → Stored
  entry_other h f = rw (ne_eqb st.count line_limit h, f, so)

-- by what the line says
module _ (st t : Scan) (x : Says) where
  pub noted_heading : (s : Section) → x ≡ Heading s → t ≡ in_section st s → t ≡ noted st x
  noted_heading s h e = rw h e

  pub noted_entry : (n : Entry) → x ≡ Claims n → t ≡ with_entry st n → t ≡ noted st x
  noted_entry n h e = rw h e

  pub noted_outside : x ≡ Outside → t ≡ with_outside st → t ≡ noted st x
  noted_outside h e = rw h e

-- the line that stands at a place of a text
module _ (s : List ℕ) (at e : ℕ) (so : e ≡ line_end s at) where
  pub line_within : at ≤ length s → e ≤ length s
  line_within h = rw so (end_within s at h)

  pub noted_line_lem : (st u t : Scan) (x : Says) → x ≡ line_says st.section (part s at e) → u ≡ onward st → t ≡ noted u x → t ≡ noted_line st s at
  noted_line_lem st u t x p q r = r ∙ rw (q, p, so)

pub still_few : (st u : Scan) → u ≡ onward st → st.count < cfg_limit → u.count < cfg_limit
still_few st u e h = rw e h
