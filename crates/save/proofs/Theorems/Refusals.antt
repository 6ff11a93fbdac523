-- The writer's answer: refused exactly when a row holds, in their order; a refusal leaves the buffer, and 9 names the lowest marked
-- paragraph that does not lie in the words lent; and what a writing without refusal says.
use Rattle.std.specs.Prelude.{ℕ, ◌+◌, ◌*◌, ◌≤◌, ◌<◌, List, ◌++◌, ◌∷◌, [], ◌≡◌, refl, true, false, ◌↔◌, length, drop, ltb}
use Rattle.std.proofs.Common.{ap, ◌∙◌, arith}
use borrow.Author.Tests.{eqb-true, ltb-true, ltb-false, ne_eqb}
use Rattle.basics.specs.declared.Refusal.{Refusal}
use Rattle.basics.specs.Rows.{Gives, here, later, Silent, also, none, Row}
use Rattle.basics.specs.Counts.{any, lowest}
use Rattle.basics.specs.Refusals.{no_refusal, refuse, passes}
use Rattle.basics.specs.Laws.Tests.{cases, true_is_not_false, and_true}
use Rattle.basics.specs.Laws.Counts.{any_of}
use Rattle.basics.specs.Laws.Rows.{silent_first, silent_append, silent_left, silent_right}
use Rattle.basics.specs.Laws.Refusals.{Refusing, refused_exactly, accepted_exactly, refusing_append}
use Rattle.basics.specs.Laws.Lowest.{First, lowest_first, lowest_any}
use Rattle.basics.specs.Laws.Puts.{put_room}
use Rattle.places.specs.Limits.{image_limit, lent, locutus_paragraphs, paragraph_size}
use Rattle.tables.specs.Tables.{flash_words, tables_rows}
use Rattle.tables.specs.Laws.Refusals.{tables_refusing}
use Rattle.save.specs.Writing.{Writing}
use Rattle.save.specs.Writing.{Content, is_marked, image_by, past_lent, refusal_rows, refusal_of, answer_for, save_answer, saving_from, writing_of, written_of}

-- what the writer answers and leaves, for every buffer and content
pub record Answers (out : List ℕ) (c : Content) : Type 0 where
  -- refused so exactly when the row of this refusal holds and none before it does; accepted exactly when none holds
  pub refused : (r : Refusal) → (r.number ≡ 0 → ⊥) → ((writing_of out c).refusal ≡ r) ↔ Gives (refusal_rows out c) r
  pub accepted : ((writing_of out c).refusal.number ≡ 0) ↔ Silent (refusal_rows out c)
  -- a refusal leaves the buffer, and answers no length but at 29
  pub kept : ((writing_of out c).refusal.number ≡ 0 → ⊥) → written_of out c ≡ out
  pub zero : ((writing_of out c).refusal.number ≡ 0 → ⊥) → ((writing_of out c).refusal.number ≡ 29 → ⊥) → (writing_of out c).length ≡ 0
  pub needed : (writing_of out c).refusal.number ≡ 29 → (writing_of out c).length ≡ length (image_by c)
  -- 9 names the lowest marked paragraph that does not lie in the words lent
  pub lowest_named : (writing_of out c).refusal.number ≡ 9 → First (past_lent c) 0 (writing_of out c).refusal.place

-- what a writing without refusal says
pub record Accepted (out : List ℕ) (c : Content) : Type 0 where
  pub supported : Silent (tables_rows c.flags c.tables.flips (lent c.ram) (flash_words c.flags))
  pub inside : (p : ℕ) → p < locutus_paragraphs → is_marked c.marks p ≡ true → paragraph_size * p + paragraph_size ≤ lent c.ram
  pub short : length (image_by c) ≤ image_limit
  pub room : length (image_by c) ≤ length out
  pub answer : writing_of out c ≡ answer_for no_refusal (length (image_by c))
  pub leaves : written_of out c ≡ image_by c ++ drop (length (image_by c)) out

module _ (out : List ℕ) (c : Content) where
  abbrev front : List (Row Refusal)
  front = tables_rows c.flags c.tables.flips (lent c.ram) (flash_words c.flags)

  abbrev rest : List (Row Refusal)
  rest =
      (any locutus_paragraphs (past_lent c), refuse 9 (lowest locutus_paragraphs (past_lent c)))
      ∷ (ltb image_limit (length (image_by c)), refuse 1 0)
      ∷ (ltb (length out) (length (image_by c)), refuse 29 0)
      ∷ []

  every_row : Refusing (refusal_rows out c)
  every_row =
      refusing_append front rest (tables_refusing c.flags c.tables.flips (lent c.ram) (flash_words c.flags))
      ((λ z. omega arith), ((λ z. omega arith), ((λ z. omega arith), tt)))

  -- the place of the row of 9
  nine : (r : Refusal) → r.number ≡ 9 → Gives (refusal_rows out c) r → First (past_lent c) 0 r.place
  unfolding tables_rows
  nine r e (here h) = absurd (omega arith)
  nine r e (later g (here h)) = absurd (omega arith)
  nine r e (later f (later g (here h))) = absurd (omega arith)
  nine r e (later f (later g (later h (here k)))) = lowest_first locutus_paragraphs (past_lent c) (ltb-true _ _ (lowest_any locutus_paragraphs (past_lent c) ∙ k))
  nine r e (later f (later g (later h (later k (here i))))) = absurd (omega arith)
  nine r e (later f (later g (later h (later k (later i (here j)))))) = absurd (omega arith)
  nine r e (later f (later g (later h (later k (later i (later _ j)))))) = elim j [ ]

  pub answers : Answers out c
  unfolding writing_of written_of refusal_of
  answers =
      record {
        refused = λ r h. refused_exactly (refusal_rows out c) every_row r h;
        accepted = accepted_exactly (refusal_rows out c) every_row;
        kept = λ n. rw (ne_eqb _ _ n);
        zero = λ n m. rw (ne_eqb _ _ n, ne_eqb _ _ m);
        needed = λ e. rw e;
        lowest_named = λ e.
            nine (refusal_of out c) e
            ((refused_exactly (refusal_rows out c) every_row (refusal_of out c) (λ z. omega arith)).0 refl);
      }

  -- a paragraph that is not past the words lent lies in them
  lies_inside : any locutus_paragraphs (past_lent c) ≡ false → (p : ℕ) → p < locutus_paragraphs → is_marked c.marks p ≡ true → paragraph_size * p + paragraph_size ≤ lent c.ram
  lies_inside e p l m =
      cases (ltb (lent c.ram) (paragraph_size * p + paragraph_size))
      (λ d. true_is_not_false (any_of locutus_paragraphs (past_lent c) p l (and_true (is_marked c.marks p) _ m d)) e)
      (λ d. ltb-false _ _ d)

  pub silent_accepted : Silent (refusal_rows out c) → Accepted out c
  unfolding writing_of written_of refusal_of
  silent_accepted q = by (silent_left front rest q) (silent_right front rest q)
    where
      by : Silent front → Silent rest → Accepted out c
      by a (also b (also d (also e none))) =
          let r : refusal_of out c ≡ no_refusal = silent_first no_refusal (silent_append a (also b (also d (also e none)))) in
          record {
            supported = a;
            inside = lies_inside b;
            short = ltb-false _ _ d;
            room = ltb-false _ _ e;
            answer = rw r;
            leaves = rw r (put_room (image_by c) out (ltb-false _ _ e));
          }

  pub accepted_so : ((writing_of out c).refusal.number ≡ 0) ↔ Accepted out c
  accepted_so = ((λ e. silent_accepted (answers.accepted.0 e)), (λ a. ap (λ (w : Writing). w.refusal.number) a.answer))

-- what the code answers of a writing tells all that it comes to
back_err : (w : Writing) → passes w.refusal ≡ false → saving_from (save_answer w) ≡ w
back_err w p = rw p

pub saving_back : (out : List ℕ) (c : Content) → saving_from (save_answer (writing_of out c)) ≡ writing_of out c
saving_back out c =
    cases (passes (writing_of out c).refusal)
    (λ p.
    let a : writing_of out c ≡ answer_for no_refusal (length (image_by c)) = ((accepted_so out c).0 (eqb-true _ _ p)).answer in
    rw a)
    (λ p. back_err (writing_of out c) p)
