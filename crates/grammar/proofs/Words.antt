-- The words of a line, from its front on: blanks are passed, letters and signs are taken.
use Prim.Native.Nat.{ℕ, suc, ◌+◌, ◌-◌, ◌<◌, ◌≤◌}
use mathlib.Core.List.{List, [], ◌∷◌, ◌++◌, append-nil}
use mathlib.Core.Path.{◌≡◌, refl, ap, ◌∙◌, sym}
use mathlib.Core.Bool.{Bool, true, false, not}
use native.Mathlib.Omega.{arith}
use native.Mathlib.Numerals.{add-one}
use lib.Dec.{eqb}
use lib.ListN.{length, get_or, drop, take, length-drop, drop_of_length-le}
use lib.Seq.{drop-cons, drop-drop, get_or-drop}
use borrow.Author.Tests.{eqb-true, eqb-false}
use Rattle.basics.specs.Lists.{part}
use Rattle.basics.specs.Laws.Lists.{length_part}
use Rattle.basics.specs.Laws.Tests.{cases, true_is_not_false}
use Rattle.text.specs.Bytes.{until}
use Rattle.text.specs.Laws.Bytes.{until_hit, until_miss, until_most, until_passes}
use denote.Enum.Bare.{sameb}
use Rattle.grammar.specs.contracts.Kind.{the_type}
use Rattle.grammar.specs.declared.Kind.{Kind}
use Rattle.grammar.specs.declared.Kind.TheVariants.{Blank, Sign, Comment, Letter}
use Rattle.grammar.specs.declared.Word.{Word}
use Rattle.grammar.specs.Words.{kind_of, Cut, cut, before, push, words_after, words_of, word}
use Rattle.grammar.specs.Code.Steps.{is_blank, is_letter, same_kind, ends_run, run_end, NextWord}

-- a byte before a cut, by its kind
cut_kind : (b : ℕ) (s : List ℕ) (k : Kind) → kind_of b ≡ k → cut (b ∷ s) ≡ before k b (cut s)
unfolding cut
cut_kind b s k e = ap (λ (j : Kind). before j b (cut s)) e

blank_is : (k : Kind) → is_blank k ≡ true → k ≡ Blank
blank_is Blank e = refl
blank_is Sign e = true_is_not_false e refl
blank_is Comment e = true_is_not_false e refl
blank_is Letter e = true_is_not_false e refl

letter_is : (k : Kind) → is_letter k ≡ true → k ≡ Letter
letter_is Blank e = true_is_not_false e refl
letter_is Sign e = true_is_not_false e refl
letter_is Comment e = true_is_not_false e refl
letter_is Letter e = refl

no_front : (k : Kind) (b : ℕ) (c : Cut) → is_letter k ≡ false → (before k b c).front ≡ []
no_front Blank b c e = refl
no_front Sign b c e = refl
no_front Comment b c e = refl
no_front Letter b c e = true_is_not_false refl e

-- blanks at the front say nothing
past_blanks : (s : List ℕ) → words_of s ≡ words_of (drop (until (ends_run is_blank) s) s)
unfolding until
past_blanks [] = refl
past_blanks (b ∷ s) =
    cases (is_blank (kind_of b)) (λ e. rw e (ap words_after (cut_kind b s Blank (blank_is (kind_of b) e)) ∙ past_blanks s)) (λ e. rw e)

-- letters at the front, and what stands behind them, where no letter is
letters : (s : List ℕ) → cut s ≡ record { front = take (until (ends_run is_letter) s) s ++ (cut (drop (until (ends_run is_letter) s) s)).front; rest = (cut (drop (until (ends_run is_letter) s) s)).rest }
unfolding until
letters [] = refl
letters (b ∷ s) =
    cases (is_letter (kind_of b))
    (λ e. rw e (cut_kind b s Letter (letter_is (kind_of b) e) ∙ ap (λ (c : Cut). before Letter b c) (letters s))) (λ e. rw e)

letters_end : (s : List ℕ) → (cut (drop (until (ends_run is_letter) s) s)).front ≡ []
unfolding until cut
letters_end [] = refl
letters_end (b ∷ s) = cases (is_letter (kind_of b)) (λ e. rw e (letters_end s)) (λ e. rw e (no_front (kind_of b) b (cut s) e))

-- so letters at the front are the first word
first_letters : (s : List ℕ) → words_of s ≡ push (take (until (ends_run is_letter) s) s) (words_of (drop (until (ends_run is_letter) s) s))
first_letters s = ap words_after (letters s) ∙ rw (letters_end s, append-nil)

some_letters : (b : ℕ) (s : List ℕ) → kind_of b ≡ Letter → 0 < until (ends_run is_letter) (b ∷ s)
unfolding until
some_letters b s e = rw e (omega arith)

push_some : (w : List ℕ) (ws : List (List ℕ)) → 0 < length w → push w ws ≡ w ∷ ws
push_some [] ws h = absurd (omega arith)
push_some (b ∷ w) ws h = refl

part_none : (s : List ℕ) (i : ℕ) → part s i i ≡ []
part_none s i = let e : i - i ≡ 0 = omega arith in rw e

part_one : (s : List ℕ) (i : ℕ) → i < length s → part s i (i + 1) ≡ get_or s i 0 ∷ []
part_one s i l = let e : i + 1 - i ≡ 1 = omega arith in rw (e, drop-cons s i 0 l)

-- the first word from a place on, by what stands where the blanks end
module _ (s : List ℕ) (at i : ℕ) (so : i ≡ run_end is_blank s at) (h : at ≤ length s) where
  behind : words_of (drop at s) ≡ words_of (drop i s)
  behind = past_blanks (drop at s) ∙ rw (drop-drop, ← so)

  within : i ≤ length s
  within = omega (arith, until_most (ends_run is_blank) (drop at s), length-drop at s)

  none : words_of (drop i s) ≡ [] → NextWord s at (record { start = i; end = i })
  none e =
      record {
        from = omega arith;
        order = omega arith;
        within = within;
        words = behind ∙ rw part_none;
        last = λ q. e;
      }

  pub no_word : length s ≤ i → NextWord s at (record { start = i; end = i })
  unfolding cut
  no_word l = none (rw (drop_of_length-le s l))

  kind_at_lem : (j k : Kind) → i < length s → k ≡ kind_of (get_or s i 0) → k ≡ j → cut (drop i s) ≡ before j (get_or s i 0) (cut (drop (suc i) s))
  kind_at_lem j k l p q = rw (drop-cons s i 0 l) (cut_kind (get_or s i 0) (drop (suc i) s) j (sym p ∙ q))

  pub comment_word : (k : Kind) → i < length s → k ≡ kind_of (get_or s i 0) → k ≡ Comment → NextWord s at (record { start = i; end = i })
  comment_word k l p q = none (ap words_after (kind_at_lem Comment k l p q))

  pub blank_word : (k : Kind) → i < length s → k ≡ kind_of (get_or s i 0) → k ≡ Blank → NextWord s at (record { start = i; end = i })
  blank_word k l p q =
      let u : ℕ = until (ends_run is_blank) (drop at s) in
      let e : ends_run is_blank (get_or (drop at s) u 0) (get_or (drop at s) (suc u) 0) ≡ true = until_passes (ends_run is_blank) (drop at s) (omega (arith, length-drop at s)) in
      let f : not (is_blank (kind_of (get_or s i 0))) ≡ true = rw (get_or-drop, ← so) at e in
      true_is_not_false f (ap (λ (j : Kind). not (is_blank j)) (sym p ∙ q))

  pub sign_word : (k : Kind) → i < length s → k ≡ kind_of (get_or s i 0) → k ≡ Sign → NextWord s at (record { start = i; end = i + 1 })
  sign_word k l p q =
      record {
        from = omega arith;
        order = omega arith;
        within = omega arith;
        words = behind ∙ ap words_after (kind_at_lem Sign k l p q) ∙ rw (part_one s i l, add-one);
        last = λ e. absurd (omega arith);
      }

  pub letter_word : (k : Kind) (e : ℕ) → i < length s → k ≡ kind_of (get_or s i 0) → k ≡ Letter → e ≡ run_end is_letter s i → NextWord s at (record { start = i; end = e })
  letter_word k e l p q z =
      let n : e - i ≡ until (ends_run is_letter) (drop i s) = omega arith in
      let m : until (ends_run is_letter) (drop i s) ≡ until (ends_run is_letter) (get_or s i 0 ∷ drop (suc i) s) = rw (drop-cons s i 0 l) in
      record {
        from = omega arith;
        order = omega arith;
        within = omega (arith, until_most (ends_run is_letter) (drop i s), length-drop i s);
        words = behind ∙ rw (n, z, ← drop-drop (until (ends_run is_letter) (drop i s)) i s) (first_letters (drop i s));
        last = λ f. absurd (omega (arith, some_letters (get_or s i 0) (drop (suc i) s) (sym p ∙ q), m));
      }

-- the words from a place on, where the first of them is known
module _ (s : List ℕ) (at : ℕ) (r : Word) (w : NextWord s at r) where
  next_none : r.start ≡ r.end → words_of (drop at s) ≡ []
  next_none e = w.words ∙ rw (e, part_none, w.last e)

  next_some : (r.start ≡ r.end → ⊥) → words_of (drop at s) ≡ part s r.start r.end ∷ words_of (drop r.end s)
  next_some n = w.words ∙ push_some (part s r.start r.end) (words_of (drop r.end s)) (omega (arith, length_part s r.start r.end w.within, w.order))

  -- counted, n before them
  module _ (n x : ℕ) (so : x ≡ n + length (words_of (drop at s))) where
    pub count_none : r.start ≡ r.end → n ≡ x
    count_none e = omega (arith, ap length (next_none e))

    pub count_more : (r.start ≡ r.end → ⊥) → x ≡ n + 1 + length (words_of (drop r.end s))
    count_more h = omega (arith, ap length (next_some h))

  -- word n of them
  module _ (n : ℕ) (x : List ℕ) (so : x ≡ word (words_of (drop at s)) n) where
    pub found_word : n ≤ 0 → part s r.start r.end ≡ x
    found_word h =
        let z : n ≡ 0 = omega arith in
        cases (eqb r.start r.end)
        (λ e. let q : r.start ≡ r.end = eqb-true _ _ e in rw (q, part_none) (sym (so ∙ rw (next_none q))))
        (λ e. sym (so ∙ rw (z, next_some (eqb-false _ _ e))))

    pub pass_word : 0 < n → x ≡ word (words_of (drop r.end s)) (n - 1)
    pass_word h =
        let z : n ≡ suc (n - 1) = omega arith in
        cases (eqb r.start r.end)
        (λ e. let q : r.start ≡ r.end = eqb-true _ _ e in so ∙ rw (next_none q, w.last q))
        (λ e. so ∙ ap (word (words_of (drop at s))) z ∙ rw (next_some (eqb-false _ _ e)))

pub count_end : (s : List ℕ) (at n x : ℕ) → x ≡ n + length (words_of (drop at s)) → length s ≤ at → n ≡ x
unfolding cut
count_end s at n x so h =
    let e : length (words_of (drop at s)) ≡ 0 = rw (drop_of_length-le s h) in
    omega arith

-- kinds that the code has compared
told_same : (a b : Kind) → sameb the_type a b ≡ same_kind b a
told_same Blank Blank = refl
told_same Blank Sign = refl
told_same Blank Comment = refl
told_same Blank Letter = refl
told_same Sign Blank = refl
told_same Sign Sign = refl
told_same Sign Comment = refl
told_same Sign Letter = refl
told_same Comment Blank = refl
told_same Comment Sign = refl
told_same Comment Comment = refl
told_same Comment Letter = refl
told_same Letter Blank = refl
told_same Letter Sign = refl
told_same Letter Comment = refl
told_same Letter Letter = refl

-- a loop that passes bytes of a kind
module _ (j : Kind) (s : List ℕ) (i x : ℕ) (u : Bool) (so : x ≡ i + until (ends_run (same_kind j)) (drop i s)) (l : i < length s) (k : Kind) (p : k ≡ kind_of (get_or s i 0)) (d : u ≡ not (sameb the_type k j)) where
  another : u ≡ ends_run (same_kind j) (get_or s i 0) (get_or s (i + 1) 0)
  another = d ∙ ap not (told_same k j ∙ ap (same_kind j) p)

  pub run_ends : u ≡ true → i ≡ x
  run_ends e = until_hit (ends_run (same_kind j)) s i x so (get_or s (i + 1) 0) l refl (sym another ∙ e)

  pub run_goes_on : u ≡ false → x ≡ i + 1 + until (ends_run (same_kind j)) (drop (i + 1) s)
  run_goes_on e = until_miss (ends_run (same_kind j)) s i x so (get_or s (i + 1) 0) l refl (sym another ∙ e)
