-- A build is refused exactly when a row of its table holds and none before it does, and a refusal leaves the buffer; and what an
-- acceptance holds: lines that the rules accept, words that Locutus has, and a label that a block can hold.
use Rattle.std.specs.Prelude.{ℕ, ◌≤◌, List, ◌++◌, ◌≡◌, ◌⊎◌, ◌↔◌, true, false, length}
use Rattle.std.proofs.Math.Path.{refl, sym, ap}
use Rattle.std.proofs.Common.{◌∙◌, inl, inr, arith}
use borrow.Author.Tests.{eqb-true, ne_eqb, ltb-false, le-ltb}
use Rattle.basics.specs.declared.Refusal.{Refusal}
use Rattle.basics.specs.Rows.{Row, Gives, Silent, also}
use Rattle.basics.specs.Refusals.{no_refusal}
use Rattle.basics.specs.Laws.Rows.{silent_left, silent_right, silent_first, first_by}
use Rattle.basics.specs.Laws.Refusals.{Refusing, refusing_append, gives_refused, refused_exactly, accepted_exactly}
use Rattle.places.specs.Limits.{lent_limit}
use Rattle.lines.specs.declared.Line.{Line}
use Rattle.lines.specs.Bin.{bin_words}
use Rattle.cfg.specs.File.{refusal_rows as cfgRows, entries_of, reading_of}
use Rattle.cfg.specs.Laws.Refusals.{each_refuses as cfg-refuses, exactly}
use Rattle.cfg.proofs.Theorems.Entries.{Holds, accepted_holds, all_typed}
use Rattle.rules.specs.Rules.{refusal_rows as ruleRows}
use Rattle.rules.specs.Laws.Refusals.{each_refuses as rules-refuse, exactly as rules-exactly}
use Rattle.rules.specs.Laws.Rules.{Good}
use Rattle.rules.specs.Accepted.{Accepted}
use Rattle.layout.specs.Layout.{needed, pages}
use Rattle.plan.proofs.Theorems.Pages.{few_pages}
use Rattle.label.specs.Label.{wrong_label}
use Rattle.build.specs.Building.{too_large, room_rows, refusal_rows, refusal_of, builds, building_of, built_of}

-- what a build answers and leaves, for every BIN, CFG and buffer
pub record Answers (bin cfg label out : List ℕ) : Type 0 where
  -- refused so exactly when the row of this refusal holds and none before it does; accepted exactly when none holds
  pub refused : (r : Refusal) → (r.number ≡ 0 → ⊥) → ((building_of bin cfg label out).refusal ≡ r) ↔ Gives (refusal_rows bin cfg label out) r
  pub accepted : ((building_of bin cfg label out).refusal.number ≡ 0) ↔ Silent (refusal_rows bin cfg label out)
  -- a refusal leaves the buffer
  pub kept : ((building_of bin cfg label out).refusal.number ≡ 0 → ⊥) → built_of bin cfg label out ≡ out

module _ (bin cfg label out : List ℕ) where
  abbrev rules : List (Row Refusal)
  rules = ruleRows (bin_words bin) (entries_of cfg)

  -- what is asked behind the CFG's rows
  abbrev behind : List (Row Refusal)
  behind = rules ++ room_rows bin cfg label out

  behind_rows : Refusing behind
  behind_rows =
      refusing_append rules (room_rows bin cfg label out) (rules-refuse (bin_words bin) (entries_of cfg))
      ((λ z. omega arith), ((λ z. omega arith), ((λ z. omega arith), tt)))

  every_row : Refusing (refusal_rows bin cfg label out)
  every_row = ((λ z. omega arith), refusing_append (cfgRows cfg) behind (cfg-refuses cfg) behind_rows)

  given : (r : Refusal) → refusal_of bin cfg label out ≡ r → (r.number ≡ 0 → ⊥) → (building_of bin cfg label out).refusal ≡ r
  unfolding building_of
  given r e h = rw (e, ne_eqb r.number 0 h)

  quiet : refusal_of bin cfg label out ≡ no_refusal → (building_of bin cfg label out).refusal ≡ no_refusal
  unfolding building_of
  quiet e = rw e

  -- the answer's refusal is the table's
  pub refusal_is : (building_of bin cfg label out).refusal ≡ refusal_of bin cfg label out
  unfolding refusal_of
  refusal_is = go (first_by (refusal_rows bin cfg label out) no_refusal)
    where
      go : (Gives (refusal_rows bin cfg label out) (refusal_of bin cfg label out)) ⊎ (Silent (refusal_rows bin cfg label out)) → (building_of bin cfg label out).refusal ≡ refusal_of bin cfg label out
      go (inl g) = given (refusal_of bin cfg label out) refl (gives_refused every_row g)
      go (inr s) = quiet (silent_first no_refusal s) ∙ sym (silent_first no_refusal s)

  kept_so : ((refusal_of bin cfg label out).number ≡ 0 → ⊥) → built_of bin cfg label out ≡ out
  unfolding built_of
  kept_so h = rw (ne_eqb (refusal_of bin cfg label out).number 0 h)

  pub answers : Answers bin cfg label out
  unfolding refusal_of
  answers =
      let n : (building_of bin cfg label out).refusal.number ≡ (refusal_of bin cfg label out).number = ap (λ (x : Refusal). x.number) refusal_is in
      record {
        refused = λ r h. (
          λ e. (refused_exactly (refusal_rows bin cfg label out) every_row r h).0 (sym refusal_is ∙ e),
          λ g. refusal_is ∙ (refused_exactly (refusal_rows bin cfg label out) every_row r h).1 g,
        );
        accepted = (
          λ e. (accepted_exactly (refusal_rows bin cfg label out) every_row).0 (sym n ∙ e),
          λ s. n ∙ (accepted_exactly (refusal_rows bin cfg label out) every_row).1 s,
        );
        kept = λ h. kept_so (λ z. h (n ∙ z));
      }

  module _ (accepts : builds bin cfg label out ≡ true) where
    silent : Silent (refusal_rows bin cfg label out)
    unfolding refusal_of
    silent = (accepted_exactly (refusal_rows bin cfg label out) every_row).0 (eqb-true _ _ accepts)

    cfg_silent : Silent (refusal_rows bin cfg label out) → Silent (cfgRows cfg)
    cfg_silent (also e s) = silent_left (cfgRows cfg) behind s

    rules_silent : Silent (refusal_rows bin cfg label out) → Silent rules
    rules_silent (also e s) = silent_left rules (room_rows bin cfg label out) (silent_right (cfgRows cfg) behind s)

    room_silent : Silent (refusal_rows bin cfg label out) → Silent (room_rows bin cfg label out)
    room_silent (also e s) = silent_right rules (room_rows bin cfg label out) (silent_right (cfgRows cfg) behind s)

    -- the CFG is read, and the rules find nothing in its lines
    pub cfg_read : (reading_of cfg).refusal.number ≡ 0
    cfg_read = (exactly cfg).accepts.1 (cfg_silent silent)

    pub lines_accepted : Accepted bin (entries_of cfg)
    lines_accepted =
        let h : Holds cfg (reading_of cfg) = accepted_holds cfg cfg_read in
        record { few = omega (arith, h.counted, h.most); typed = all_typed h.fitting; judged = (rules-exactly (bin_words bin) (entries_of cfg)).accepts.1 (rules_silent silent) }

    -- and the words that they need are Locutus's at most: 128 pages (02, W-210)
    not_large : Silent (room_rows bin cfg label out) → too_large (entries_of cfg) ≡ false
    not_large (also e s) = e

    pub words_fit : needed (entries_of cfg) ≤ lent_limit
    unfolding too_large
    words_fit = ltb-false lent_limit (needed (entries_of cfg)) (not_large (room_silent silent))

    pub pages_fit : pages (entries_of cfg) ≤ 128
    pages_fit = omega (arith, words_fit)

    -- and the label is whole, and no longer than a block's length can say
    label_row : Silent (room_rows bin cfg label out) → wrong_label label ≡ false
    label_row (also e (also l s)) = l

    pub label_right : wrong_label label ≡ false
    label_right = label_row (room_silent silent)

-- up to 117 lines never need more: whatever their pages are, 20 is not given (64 was the limit before W-210)
pub few_fit : {lines : List Line} → Good lines → length lines ≤ 117 → too_large lines ≡ false
unfolding too_large
few_fit {lines} g h = le-ltb lent_limit (needed lines) (omega (arith, few_pages g))
