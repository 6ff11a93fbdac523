-- The plan behind, chapter by chapter: what its rows show makes its chapters, and the mapping and the marks of named paragraphs are all the same to it.
use Prim.Native.Nat.{◌<◌, ◌≤◌, suc, zero, ℕ}
use Rattle.std.specs.Prelude.{List, [], ◌≡◌, Bool, false, ltb}
use Rattle.std.proofs.Common.{◌∙◌, ap, sym, arith, ltb-false, ltb-true}
use Rattle.std.proofs.Math.Path.{fun_ext, refl}
use Rattle.std.proofs.Math.ListN.{get_or-eq_default}
use Rattle.basics.specs.Laws.Tables.{get_d_table, length_table}
use Rattle.basics.specs.Laws.Tests.{cases}
use Rattle.basics.specs.Tables.{table}
use Rattle.places.specs.Limits.{locutus_paragraphs}
use Rattle.tables.specs.Tables.{tables}
use Rattle.behind.specs.Behind.{base_behind, behind, behind_at, chapter_behind}
use Rattle.retrace.specs.Code.Shown.{chapter_of, marked_in, shown_at}

-- what a row shows makes the chapter
pub chapter_behind_lem : (ps fs : List ℕ) (ms : List Bool) (x b : ℕ) → chapter_of ps fs (shown_at fs ms x b) x ≡ behind_at (tables [] ps fs) (marked_in ms) x b
unfolding chapter_behind
chapter_behind_lem ps fs ms x b = refl

module _ (ps fs : List ℕ) (named : ℕ → Bool) where
  -- whatever the mapping
  base_any : (m : List ℕ) (x : ℕ) → base_behind (tables m ps fs) named x ≡ base_behind (tables [] ps fs) named x
  unfolding base_behind
  base_any m zero = refl
  base_any m (suc x) = rw (base_any m x)

  pub behind_any : (m : List ℕ) → behind (tables m ps fs) named ≡ behind (tables [] ps fs) named
  behind_any m = fun_ext (λ x. ap (behind_at (tables [] ps fs) named x) (base_any m x))

-- marks of the paragraphs that are named, all of them in Locutus RAM
pub marked_all : (f named : ℕ → Bool) → ((p : ℕ) → p < locutus_paragraphs → f p ≡ named p) → ((p : ℕ) → locutus_paragraphs ≤ p → named p ≡ false)
    → marked_in (table locutus_paragraphs f) ≡ named
marked_all f named low high =
    fun_ext
    (λ p.
    cases (ltb p locutus_paragraphs)
    (λ e. let h : p < locutus_paragraphs = ltb-true p locutus_paragraphs e in get_d_table false locutus_paragraphs f p h ∙ low p h)
    (λ e.
    let h : locutus_paragraphs ≤ p = ltb-false p locutus_paragraphs e in
    get_or-eq_default (table locutus_paragraphs f) false {n = p} (omega (arith, length_table locutus_paragraphs f)) ∙ sym (high p h)))
