-- The passes: each says what it did of the blocks before the place where it stands.
use Prim.Native.Nat.{ℕ, ◌+◌, ◌-◌, ◌^◌, ◌<◌, ◌≤◌}
use mathlib.Core.Path.{◌≡◌, refl, sym, ap, ◌∙◌}
use mathlib.Core.List.{List, [], ◌∷◌, ◌++◌}
use mathlib.Core.Bool.{Bool, true, false, cond, not, ◌&&◌, ◌||◌}
use native.Mathlib.Omega.{arith}
use borrow.Author.Tests.{ne_eqb}
use lib.ListN.{length, length-append}
use lib.Dec.{eqb}
use mir.Val.{Fits}
use mir.Syntax.{w64}
use Rattle.std.specs.Prelude.{Option, Some, None, Result, Ok, Err}
use Rattle.std.specs.Option.{is_some}
use Rattle.basics.specs.declared.Refusal.{Refusal}
use Rattle.basics.specs.Lists.{part, joined, flat}
use Rattle.basics.specs.Rows.{Gives, Silent, none}
use Rattle.basics.specs.Refusals.{refuse, no_refusal, first_refusal}
use Rattle.basics.specs.Laws.Outcomes.{ok_none, ok_value, err_is, err_some}
use Rattle.basics.specs.Laws.Lists.{length_part}
use Rattle.basics.specs.Laws.Tests.{cases, true_is_not_false}
use Rattle.basics.specs.Laws.Rows.{gives_first, silent_append, silent_gives, gives_append}
use Rattle.basics.specs.Laws.Refusals.{silent_behind}
use Rattle.sums.specs.Crc.{crc324_of}
use Rattle.blocks.specs.declared.Frame.{Frame}
use Rattle.blocks.specs.declared.Frame.TheVariants.{Over, Cut, Framed}
use Rattle.blocks.specs.Judged.{Judged}
use Rattle.blocks.specs.Blocks.{type_of, payload_in, size_said, is_tables}
use Rattle.blocks.specs.Frames.{frame_at, on_frame}
use Rattle.blocks.specs.Judged.{judge_rows}
use Rattle.blocks.specs.Images.{blocks_in, judge_all, any_tables, hunks_in, word_count}
use Rattle.blocks.specs.Laws.Frames.{framed_type}
use Rattle.blocks.proofs.Theorems.Judged.{judge_refuses, Passed, passed}
use Rattle.blocks.specs.Laws.Images.{At, at_start, Next as NextAt, at_next, Stops, at_over, at_cut, judge_append, any_tables_more, hunks_more, words_more}
use Rattle.load.specs.declared.Next.{Next}
use Rattle.load.specs.declared.Found.{Found}
use Rattle.load.specs.Load.{walk_rows, hunks_laid}
use Rattle.load.specs.Code.Passes.{judgement_of, tables_after, next_at, on_judged, step_of, ended_at, tables_place, found_in, found_of, block_stored}

-- ---- a step, by its frame

record Stepped (s : List ℕ) (m : ℕ) (tables : Option ℕ) (p : ℕ) (n : Next) : Type 0 where
  pub kind : ℕ
  pub framed : frame_at s p ≡ Framed kind n.place
  pub good : (judgement_of m (is_some tables) p (part s p n.place)).refusal.number ≡ 0
  pub words : n.words ≡ (judgement_of m (is_some tables) p (part s p n.place)).words
  pub after : n.tables ≡ tables_after tables p kind

data Refuses (s : List ℕ) (m : ℕ) (tables : Option ℕ) (p : ℕ) : Refusal → Type 0 where
  cut : frame_at s p ≡ Cut → Refuses s m tables p (refuse 5 p)
  bad : {t q : ℕ} → frame_at s p ≡ Framed t q → ((judgement_of m (is_some tables) p (part s p q)).refusal.number ≡ 0 → ⊥)
      → Refuses s m tables p (judgement_of m (is_some tables) p (part s p q)).refusal

module _ (s : List ℕ) (m : ℕ) (tables : Option ℕ) (p : ℕ) where
  abbrev judgement : ℕ → Judged
  judgement q = judgement_of m (is_some tables) p (part s p q)

  abbrev step_by : Frame → Result (Option Next) Refusal
  step_by f = on_frame f (Ok None) (Err (refuse 5 p)) (λ t q. on_judged (judgement q) q (tables_after tables p t))

  next_by : (n : Next) (f : Frame) → frame_at s p ≡ f → step_by f ≡ Ok (Some n) → Stepped s m tables p n
  next_by n Over ef e = cc
  next_by n Cut ef e = cc
  next_by n (Framed t r) ef e =
      let v : Some (next_at r (tables_after tables p t) (judgement r).words) ≡ Some n = ok_value (judgement r).refusal _ _ e in
      let w : next_at r (tables_after tables p t) (judgement r).words ≡ n = cc in
      rw (← w) (record { kind = t; framed = ef; good = ok_none (judgement r).refusal _ _ e; words = refl; after = refl })

  step_next : (n : Next) → step_of s m tables p ≡ Ok (Some n) → Stepped s m tables p n
  unfolding step_of
  step_next n e = next_by n (frame_at s p) refl e

  ends_by : (f : Frame) → frame_at s p ≡ f → step_by f ≡ Ok None → frame_at s p ≡ Over
  ends_by Over ef e = ef
  ends_by Cut ef e = cc
  ends_by (Framed t r) ef e =
      let v : Some (next_at r (tables_after tables p t) (judgement r).words) ≡ None = ok_value (judgement r).refusal _ _ e in
      cc

  step_ends : step_of s m tables p ≡ Ok None → frame_at s p ≡ Over
  unfolding step_of
  step_ends e = ends_by (frame_at s p) refl e

  no_by : (r : Refusal) (f : Frame) → frame_at s p ≡ f → step_by f ≡ Err r → Refuses s m tables p r
  no_by r Over ef e = cc
  no_by r Cut ef e = let g : refuse 5 p ≡ r = cc in rw (← g) (cut ef)
  no_by r (Framed t q) ef e =
      rw (← err_is (judgement q).refusal (Some (next_at q (tables_after tables p t) (judgement q).words)) r e)
      (bad ef (err_some (judgement q).refusal (Some (next_at q (tables_after tables p t) (judgement q).words)) r e))

  step_no : (r : Refusal) → step_of s m tables p ≡ Err r → Refuses s m tables p r
  unfolding step_of
  step_no r e = no_by r (frame_at s p) refl e

-- ---- the checking pass

pub record Checking (s : List ℕ) (m p : ℕ) (tables : Option ℕ) (blocks words : ℕ) : Type 0 where
  pub before : List (List ℕ)
  pub at : At s p before
  pub silent : Silent (judge_all m false 32 before)
  pub tabled : tables ≡ cond (any_tables before) (Some (tables_place 32 before)) None
  pub counted : blocks ≡ length before
  pub stored : words ≡ word_count (hunks_in before)
  pub few : blocks + 32 ≤ p
  pub fewer : words + 32 ≤ p

pub check_start : (s : List ℕ) (m : ℕ) → Checking s m 32 None 0 0
unfolding judge_all tables_place any_tables hunks_in word_count
check_start s m =
    record {
      before = [];
      at = at_start s;
      silent = none;
      tabled = refl;
      counted = refl;
      stored = refl;
      few = omega arith;
      fewer = omega arith;
    }

found_refused : (s : List ℕ) (m : ℕ) (r : Refusal) → (r.number ≡ 0 → ⊥) → first_refusal (walk_rows s m) ≡ r → Err r ≡ found_of s m
unfolding found_of
found_refused s m r n e = rw (e, ne_eqb _ _ n)

-- the place of the tables, with one block more
place_more : (p : ℕ) (xs : List (List ℕ)) (x : List ℕ) → tables_place p (xs ++ (x ∷ [])) ≡ cond (any_tables xs) (tables_place p xs) (cond (is_tables x) (p + length (flat xs)) 0)
unfolding tables_place any_tables joined
place_more p [] x = let k : p + 0 ≡ p = omega arith in rw k
place_more p (y ∷ xs) x =
    let k : p + length (y ++ flat xs) ≡ p + length y + length (flat xs) = omega (arith, length-append y (flat xs)) in
    cases (is_tables y) (λ e. rw e) (λ e. rw (e, k) (place_more (p + length y) xs x))

-- a place that is told of the first tables block alone
tables_by : (b e : Bool) (tables : Option ℕ) (p q : ℕ) → tables ≡ cond e (Some q) None → (b ≡ true → e ≡ false)
    → cond b (Some p) tables ≡ cond (e || b) (Some (cond e q (cond b p 0))) None
tables_by true true tables p q h f = true_is_not_false refl (f refl)
tables_by true false tables p q h f = refl
tables_by false true tables p q h f = h
tables_by false false tables p q h f = h

told : (e : Bool) (tables : Option ℕ) (q : ℕ) → tables ≡ cond e (Some q) None → is_some tables ≡ e
told true tables q h = rw h refl
told false tables q h = rw h refl

first_only : (b n e : Bool) → b && (n || e) ≡ false → b ≡ true → e ≡ false
first_only true false e h k = h
first_only true true e h k = true_is_not_false refl h
first_only false n e h k = true_is_not_false k refl

module _ (s : List ℕ) (m p : ℕ) (tables : Option ℕ) (blocks words : ℕ) (c : Checking s m p tables blocks words) where
  any : is_some tables ≡ any_tables c.before
  any = told (any_tables c.before) tables _ c.tabled

  pub check_end : step_of s m tables p ≡ Ok None → (r : Result Found Refusal) → r ≡ ended_at (length s) tables blocks words → r ≡ found_of s m
  unfolding found_of found_in ended_at walk_rows
  check_end e r k =
      let o : Stops s p c.before false = at_over s p c.before c.at (step_ends s m tables p e) in
      let f : first_refusal (walk_rows s m) ≡ cond (any_tables c.before) no_refusal (refuse 8 (length s)) =
      rw (o.how, o.all)
      (silent_behind (judge_all m false 32 c.before) _ c.silent
      ∙ cases (any_tables c.before) (λ z. rw z) (λ z. rw z)) in
      k
      ∙ cases (any_tables c.before)
      (λ z. let g = rw z at f in let t : tables ≡ Some (tables_place 32 c.before) = rw z at c.tabled in rw (t, g, o.all, c.counted, c.stored))
      (λ z. let g = rw z at f in let t : tables ≡ None = rw z at c.tabled in rw (t, g))

  -- the rows of all blocks give what this block's do
  refused_in : {r : Refusal} (q : ℕ) (rest : List (List ℕ)) → blocks_in s ≡ c.before ++ (part s p q ∷ rest)
      → Gives (judge_rows m (is_some tables) p (crc324_of (payload_in (part s p q))) (part s p q)) r → Gives (judge_all m false 32 (blocks_in s)) r
  unfolding judge_all
  refused_in q rest all g =
      let x : List ℕ = part s p q in
      rw (all, judge_append m false 32 c.before (x ∷ rest), ← any, ← c.at.place) (silent_gives c.silent (gives_append _ g))

  pub check_no : (r : Refusal) → step_of s m tables p ≡ Err r → Err r ≡ found_of s m
  unfolding walk_rows
  check_no r e = go (step_no s m tables p r e)
    where
      go : {r : Refusal} → Refuses s m tables p r → Err r ≡ found_of s m
      go (cut f) =
          let o : Stops s p c.before true = at_cut s p c.before c.at f in
          found_refused s m (refuse 5 p) (λ z. omega arith)
          (rw (o.how, o.place, o.all) (silent_behind (judge_all m false 32 c.before) _ c.silent))
      go (bad {t = t} {q = q} f n) =
          let i : NextAt s p q c.before = at_next s p c.before t q c.at f in
          let g = judge_refuses m (is_some tables) p (crc324_of (payload_in (part s p q))) (part s p q) n in
          found_refused s m _ n (gives_first no_refusal (gives_append _ (refused_in q i.rest i.all g)))

  module _ (n : Next) (e : step_of s m tables p ≡ Ok (Some n)) where
    abbrev q : ℕ
    q = n.place

    went : Stepped s m tables p n
    went = step_next s m tables p n e

    to : NextAt s p q c.before
    to = at_next s p c.before went.kind q c.at went.framed

    good : Passed m (is_some tables) p (crc324_of (payload_in (part s p q))) (part s p q)
    good = passed m (is_some tables) p (crc324_of (payload_in (part s p q))) (part s p q) went.good

    on : p + 8 + n.words ≤ q
    on = omega (arith, to.later, to.inside, good.few, went.words, length_part s p q to.inside)

    kind_is : went.kind ≡ type_of (part s p q)
    kind_is = framed_type s p went.kind q went.framed

    after_is : n.tables ≡ cond (is_tables (part s p q)) (Some p) tables
    unfolding tables_after
    after_is = went.after ∙ rw kind_is

    pub check_more : Checking s m q n.tables (blocks + 1) (words + n.words)
    unfolding judge_all word_count
    check_more =
        let b : List (List ℕ) = c.before in
        let x : List ℕ = part s p q in
        record {
          before = b ++ (x ∷ []);
          at = to.at;
          silent = rw (judge_append m false 32 b (x ∷ []), ← any, ← c.at.place) (silent_append c.silent (silent_append good.silent none));
          tabled =
              rw (any_tables_more b x, place_more 32 b x, ← c.at.place)
              (after_is
              ∙ tables_by (is_tables x) (any_tables b) tables p (tables_place 32 b) c.tabled
              (λ h. sym any ∙ first_only (is_tables x) (not (eqb (size_said x) 1280)) (is_some tables) good.tables h));
          counted = sym (length-append b (x ∷ []) ∙ rw (← c.counted));
          stored = sym (ap word_count (hunks_more b x) ∙ words_more (hunks_in b) _ ∙ rw (← c.stored, ← good.words, ← went.words));
          few = omega (arith, c.few, on);
          fewer = omega (arith, c.fewer, on);
        }

    pub check_less : length s - q < length s - p
    check_less = omega (arith, on, to.inside)

    pub blocks_fit : length s < 2 ^ 64 → Fits w64 (blocks + 1)
    blocks_fit h = omega (arith, on, to.inside, c.few)

    pub words_fit : length s < 2 ^ 64 → Fits w64 (words + n.words)
    words_fit h = omega (arith, on, to.inside, c.fewer)

-- ---- the storing pass

pub record Storing (s : List ℕ) (p : ℕ) (ram₀ ram : List ℕ) : Type 0 where
  pub before : List (List ℕ)
  pub at : At s p before
  pub long : length ram ≡ length ram₀
  pub is : ram ≡ hunks_laid before ram₀

pub store_start : (s ram : List ℕ) → Storing s 32 ram ram
unfolding hunks_laid
store_start s ram = record { before = []; at = at_start s; long = refl; is = refl }

stored_append : (xs : List (List ℕ)) (x ram : List ℕ) → hunks_laid (xs ++ (x ∷ [])) ram ≡ block_stored x (type_of x) (hunks_laid xs ram)
unfolding hunks_laid block_stored
stored_append [] x ram = refl
stored_append (y ∷ xs) x ram = stored_append xs x (block_stored y (type_of y) ram)

module _ (s : List ℕ) (p : ℕ) (ram₀ ram : List ℕ) (c : Storing s p ram₀ ram) (f : Frame) (ef : f ≡ frame_at s p) where
  all_by : (g : Frame) → frame_at s p ≡ g → ((t q : ℕ) → g ≡ Framed t q → ⊥) → ram ≡ hunks_laid (blocks_in s) ram₀
  all_by Over e n = rw (at_over s p c.before c.at e).all c.is
  all_by Cut e n = rw (at_cut s p c.before c.at e).all c.is
  all_by (Framed t q) e n = absurd (n t q refl)

  pub stored_all : ((t q : ℕ) → f ≡ Framed t q → ⊥) → ram ≡ hunks_laid (blocks_in s) ram₀
  stored_all n = all_by f (sym ef) n

  module _ (t q : ℕ) (e : f ≡ Framed t q) where
    next : NextAt s p q c.before
    next = at_next s p c.before t q c.at (sym ef ∙ e)

    pub stored_less : length s - q < length s - p
    stored_less = omega (arith, next.later, next.inside)

    pub stored_more : (after : List ℕ) → after ≡ block_stored (part s p q) t ram → length after ≡ length ram → Storing s q ram₀ after
    stored_more after k l =
        record {
          before = c.before ++ (part s p q ∷ []);
          at = next.at;
          long = l ∙ c.long;
          is = k ∙ rw (framed_type s p t q (sym ef ∙ e), c.is) (sym (stored_append c.before (part s p q) ram₀));
        }
