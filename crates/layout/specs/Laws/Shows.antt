-- The tables show the line that answers: while page y of its chapter is asked for, the paragraph of an address has the
-- permissions of that line, and the mapping of its page. And a chapter's entries act where it has PAGE lines.
use Rattle.std.specs.Prelude.{ℕ, ◌*◌, ◌+◌, ◌/◌, ◌%◌, suc, ◌≤◌, ◌≡◌, Bool, cond, List, leb, eqb}
use Rattle.std.proofs.Math.Option.{Option, none, some}
use Rattle.std.proofs.Math.Path.{refl}
use Rattle.std.proofs.Common.{sym, ◌∙◌, ⊎_elim, arith}
use Rattle.std.proofs.Math.Bool.{true, false}
use borrow.Author.Tests.{eq-eqb, eqb-true, le-leb, leb-true}
use Rattle.basics.specs.Laws.Tests.{cases, true_is_not_false, and_left, and_right}
use Rattle.basics.specs.Laws.Options.{some_is_not_none}
use Rattle.places.specs.declared.Console.{Console}
use Rattle.places.specs.Limits.{chapter_paragraphs, chapter_size, paragraph_size, page_paragraphs}
use Rattle.switches.specs.Flips.{PFE, first_k}
use Rattle.lines.specs.declared.Line.{Line}
use Rattle.lines.specs.declared.Entry.{Entry}
use Rattle.lines.specs.declared.Entry.TheVariants.{Rom, Paged, Ram}
use Rattle.lines.specs.declared.Width.TheVariants.{Sixteen, Eight}
use Rattle.lines.specs.Lines.{layer, line_at}
use Rattle.lines.specs.Kinds.{kind_by, kind_of}
use Rattle.lines.specs.Laws.Lines.{found}
use Rattle.rules.specs.Chapters.{paged, uses, under, bare, throughout, kind_at}
use Rattle.rules.specs.Laws.Rules.{Good, Used, used_at, Flips, found_flips, same_page, paged_of_lem, line_in_lem, uses_of, through_word, under_or_bare}
use Rattle.layout.specs.Layout.{entry_for, flip_entry, answering, permissions_at, mapping_at, flippable, page_of}
use Rattle.layout.specs.Laws.Layout.{place_of}

-- PFE is set where the chapter has PAGE lines, and there for each page number
entry_pfe : (o : Option ℕ) → PFE (entry_for o) ≡ true
entry_pfe none = refl
entry_pfe (some n) = eq-eqb ((page_paragraphs * n + 9) / 8 % 2) 1 (omega arith)

pub pfe_is : (lines : List Line) (x y : ℕ) → PFE (flip_entry lines x y) ≡ paged lines x
unfolding flip_entry
pfe_is lines x y = cases (paged lines x) (λ e. simp (e, entry_pfe (answering lines x y))) (λ e. simp e)

-- PAGE lines are ROM
page_kind : (e : Entry) (y : ℕ) → layer e ≡ suc y → kind_by e ≡ 1
page_kind (Rom lo hi at) y h = refl
page_kind (Paged lo hi at z) y h = refl
page_kind (Ram lo hi w) y h = absurd (omega arith)

-- no line has kind 0
no_kind : (o : Option Line) → kind_of o ≡ 0 → o ≡ none
no_kind none e = refl
no_kind (some l) e = by l.entry e
  where
    by : (e : Entry) → kind_by e ≡ 0 → some l ≡ none
    by (Rom lo hi at) e = absurd (omega arith)
    by (Paged lo hi at y) e = absurd (omega arith)
    by (Ram lo hi Sixteen) e = absurd (omega arith)
    by (Ram lo hi Eight) e = absurd (omega arith)

module _ {lines : List Line} (g : Good lines) where
  -- where a PAGE line of a number is missing at an address of the flippable range, it is missing in the chapter
  missing : (y a : ℕ) → first_k (a / chapter_size) ≤ a / paragraph_size % chapter_paragraphs → line_at lines (suc y) a ≡ none → (b : Bool) → uses lines (a / chapter_size) (suc y) ≡ b → b ≡ false
  missing y a f n false e = refl
  missing y a f n true e =
      let u : Used lines (a / chapter_size) (suc y) = used_at g.fine (a / chapter_size) (suc y) e in
      let t : Flips u.at = found_flips g.fine y u.at u.line u.found in
      let s : line_at lines (suc y) a ≡ line_at lines (suc y) u.at = same_page g.fine y a u.at (sym u.chapter) f t.turns in
      some_is_not_none u.found (sym s ∙ n)

  -- while the chapter's number is y, the paragraph of an address has the permissions and the mapping of the line that answers
  pub record Shows (y : ℕ) (a : Console) (o : Option Line) : Type 0 where
    pub permissions : permissions_at lines y (a.0 / paragraph_size) ≡ kind_of o
    pub mapping : (l : Line) → o ≡ some l → mapping_at lines y (a.0 / paragraph_size) * paragraph_size + a.0 % paragraph_size ≡ (place_of lines (layer l.entry) a).0

  module _ (y : ℕ) (a : Console) where
    chapter : a.0 / paragraph_size / chapter_paragraphs ≡ a.0 / chapter_size
    chapter = omega arith

    -- no PAGE line outside the flippable ranges
    none_fixed : (l : Line) → line_at lines (suc y) a.0 ≡ some l → flippable lines (a.0 / paragraph_size) ≡ true
    unfolding flippable
    none_fixed l e =
        let t : Flips a.0 = found_flips g.fine y a.0 l e in
        simp (chapter, paged_of_lem g.fine y a.0 l e, le-leb _ _ t.turns)

    -- outside the flippable ranges
    by_fixed : flippable lines (a.0 / paragraph_size) ≡ false → Shows y a (line_at lines 0 a.0)
    unfolding mapping_at permissions_at place_of
    by_fixed f =
        record {
          permissions = simp (f, line_in_lem g.fine 0 a.0);
          mapping =
              λ l e.
              let o : layer l.entry ≡ 0 = (found g.fine 0 a.0 l e).on in
              simp (f, line_in_lem g.fine 0 a.0, e, chapter, o) (omega arith);
        }

    -- in a flippable range, by the flip entry
    module _ (f : flippable lines (a.0 / paragraph_size) ≡ true) where
      entry_mapping : (t : ℕ) → flip_entry lines (a.0 / chapter_size) y ≡ page_paragraphs * page_of lines (a.0 / chapter_size) t + 9 →
          mapping_at lines y (a.0 / paragraph_size) * paragraph_size + a.0 % paragraph_size ≡ (place_of lines t a).0
      unfolding mapping_at place_of
      entry_mapping t e = simp (f, chapter, e) (omega arith)

      entry_permissions : permissions_at lines y (a.0 / paragraph_size) ≡ flip_entry lines (a.0 / chapter_size) y % 8
      unfolding permissions_at
      entry_permissions = simp (f, chapter)

      flip_paged : paged lines (a.0 / chapter_size) ≡ true
      unfolding flippable
      flip_paged = rw chapter at (and_left (paged lines (a.0 / paragraph_size / chapter_paragraphs)) _ f)

      flip_turns : first_k (a.0 / chapter_size) ≤ a.0 / paragraph_size % chapter_paragraphs
      unfolding flippable
      flip_turns =
          rw chapter at
          (leb-true (first_k (a.0 / paragraph_size / chapter_paragraphs)) (a.0 / paragraph_size % chapter_paragraphs)
          (and_right (paged lines (a.0 / paragraph_size / chapter_paragraphs)) (leb (first_k (a.0 / paragraph_size / chapter_paragraphs)) (a.0 / paragraph_size % chapter_paragraphs)) f))

      entry_page : (l : Line) → line_at lines (suc y) a.0 ≡ some l → flip_entry lines (a.0 / chapter_size) y ≡ page_paragraphs * page_of lines (a.0 / chapter_size) (suc y) + 9
      unfolding flip_entry answering
      entry_page l e = simp (flip_paged, uses_of g.fine (suc y) a.0 l e)

      entry_plain : (b : Bool) → line_at lines (suc y) a.0 ≡ none → under lines (a.0 / chapter_size) ≡ b →
          flip_entry lines (a.0 / chapter_size) y ≡ cond b (page_paragraphs * page_of lines (a.0 / chapter_size) 0 + 9) 8
      unfolding flip_entry answering
      entry_plain true e h = simp (flip_paged, missing y a.0 flip_turns e (uses lines (a.0 / chapter_size) (suc y)) refl, h)
      entry_plain false e h = simp (flip_paged, missing y a.0 flip_turns e (uses lines (a.0 / chapter_size) (suc y)) refl, h)

      -- a PAGE line; plain ROM; nothing
      by_page : (l : Line) → line_at lines (suc y) a.0 ≡ some l → Shows y a (some l)
      by_page l e =
          let o : layer l.entry ≡ suc y = (found g.fine (suc y) a.0 l e).on in
          record {
            permissions = entry_permissions ∙ simp (entry_page l e, page_kind l.entry y o) (omega arith);
            mapping = λ m q. let r : l ≡ m = cc in rw (← r, o) (entry_mapping (suc y) (entry_page l e));
          }

      plain_kind : (n : ℕ) → throughout (a.0 / chapter_size) (λ p. eqb (kind_at lines p) n) ≡ true → kind_of (line_at lines 0 a.0) ≡ n
      plain_kind n h = eqb-true _ n (through_word g.fine (λ o. eqb (kind_of o) n) a.0 flip_turns h)

      by_rom : line_at lines (suc y) a.0 ≡ none → under lines (a.0 / chapter_size) ≡ true → Shows y a (line_at lines 0 a.0)
      unfolding under
      by_rom e h =
          let n : flip_entry lines (a.0 / chapter_size) y ≡ page_paragraphs * page_of lines (a.0 / chapter_size) 0 + 9 = entry_plain true e h in
          record {
            permissions = entry_permissions ∙ rw (n, plain_kind 1 h) (omega arith);
            mapping = λ m q. rw (found g.fine 0 a.0 m q).on (entry_mapping 0 n);
          }

      by_none : line_at lines (suc y) a.0 ≡ none → under lines (a.0 / chapter_size) ≡ false → bare lines (a.0 / chapter_size) ≡ true →
          Shows y a (line_at lines 0 a.0)
      unfolding bare
      by_none e h k =
          let z : line_at lines 0 a.0 ≡ none = no_kind (line_at lines 0 a.0) (plain_kind 0 k) in
          record {
            permissions = entry_permissions ∙ rw (entry_plain false e h, z);
            mapping = λ m q. some_is_not_none q z;
          }

      by_plain : line_at lines (suc y) a.0 ≡ none → Shows y a (line_at lines 0 a.0)
      by_plain e =
          cases (under lines (a.0 / chapter_size)) (λ h. by_rom e h)
          (λ h. ⊎_elim (λ k. true_is_not_false k h) (λ k. by_none e h k) (under_or_bare g (a.0 / chapter_size) flip_paged))

    pub shows_page : (l : Line) → line_at lines (suc y) a.0 ≡ some l → Shows y a (some l)
    shows_page l e = by_page (none_fixed l e) l e

    pub shows_plain : line_at lines (suc y) a.0 ≡ none → Shows y a (line_at lines 0 a.0)
    shows_plain e = cases (flippable lines (a.0 / paragraph_size)) (λ f. by_plain f e) (λ f. by_fixed f)
