-- The line that answers a read, for accepted lines: the tables show it, it is a line of its layer, and RAM is never hidden.
use Rattle.std.specs.Prelude.{ℕ, suc, ◌≤◌, List, ◌≡◌, true}
use Rattle.std.proofs.Math.Option.{Option, none, some}
use Rattle.std.proofs.Math.Path.{refl}
use Rattle.std.proofs.Common.{arith}
use Rattle.basics.specs.Laws.Tests.{true_is_not_false}
use Rattle.places.specs.declared.Console.{Console}
use Rattle.lines.specs.declared.Line.{Line}
use Rattle.lines.specs.Lines.{line_at, layer, is_ram}
use Rattle.lines.specs.Laws.Lines.{found}
use Rattle.rules.specs.Laws.Rules.{Good, not_ram, found_flips, paged_of_lem, found_below}
use Rattle.layout.specs.Laws.Shows.{Shows, shows_plain, shows_page}
use Rattle.plays.specs.Plain.{or_else, shown_line}

module _ {lines : List Line} (g : Good lines) (y : ℕ) (a : Console) where
  shows_or : (o : Option Line) → line_at lines (suc y) a.0 ≡ o → Shows g y a (or_else o (line_at lines 0 a.0))
  shows_or none e = shows_plain g y a e
  shows_or (some l) e = shows_page g y a l e

  pub shows : Shows g y a (shown_line lines y a)
  unfolding shown_line
  shows = shows_or (line_at lines (suc y) a.0) refl

  -- the line shown is a line of its layer at the address
  shown_or : (o : Option Line) → line_at lines (suc y) a.0 ≡ o → (l : Line) → or_else o (line_at lines 0 a.0) ≡ some l →
      line_at lines (layer l.entry) a.0 ≡ some l
  shown_or none e l q = rw (found g.fine 0 a.0 l q).on q
  shown_or (some m) e l q =
      let r : m ≡ l = cc in
      let h : line_at lines (suc y) a.0 ≡ some l = cc in
      rw (found g.fine (suc y) a.0 l h).on h

  pub shown_line_lem : (l : Line) → shown_line lines y a ≡ some l → line_at lines (layer l.entry) a.0 ≡ some l
  unfolding shown_line
  shown_line_lem l e = shown_or (line_at lines (suc y) a.0) refl l e

  -- RAM is shown whatever the number
  ram_or : (o : Option Line) → line_at lines (suc y) a.0 ≡ o → (l : Line) → line_at lines 0 a.0 ≡ some l → is_ram l.entry ≡ true →
      or_else o (line_at lines 0 a.0) ≡ some l
  ram_or none e l q r = q
  ram_or (some m) e l q r =
      true_is_not_false r (not_ram g a.0 (found_flips g.fine y a.0 m e).turns (paged_of_lem g.fine y a.0 m e) l q)

  pub ram_shown : (l : Line) → line_at lines 0 a.0 ≡ some l → is_ram l.entry ≡ true → shown_line lines y a ≡ some l
  unfolding shown_line
  ram_shown l e r = ram_or (line_at lines (suc y) a.0) refl l e r

  -- past $FFFF there is nothing
  none_by : (t : ℕ) → 0x10000 ≤ a.0 → (o : Option Line) → line_at lines t a.0 ≡ o → line_at lines t a.0 ≡ none
  none_by t h none e = e
  none_by t h (some l) e = absurd (omega (arith, found_below g.fine t a.0 l e))

  pub none_past : 0x10000 ≤ a.0 → shown_line lines y a ≡ none
  unfolding shown_line
  none_past h = simp (none_by (suc y) h (line_at lines (suc y) a.0) refl, none_by 0 h (line_at lines 0 a.0) refl)
