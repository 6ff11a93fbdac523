-- From the passes to the load: the tables block that the checking pass found is the first of the image's, and the hunks that the storing
-- pass stores one after the other are the hunks laid over the RAM.
use Rattle.std.specs.Prelude.{ℕ, ◌+◌, ◌≤◌, min, refl, List, [], ◌∷◌, ◌++◌, Bool, true, not, ◌&&◌, ◌||◌, length, drop, eqb, Result, Ok, Err}
use Rattle.std.proofs.Math.Path.{◌≡◌, sym}
use Rattle.std.proofs.Common.{ap, ◌∙◌, arith, length-drop, drop-drop, append_assoc}
use Rattle.std.proofs.Math.Bool.{false}
use borrow.Author.Tests.{ne_eqb, eqb-true}
use Rattle.std.proofs.lemmas.List.{drop-append-le}
use Rattle.basics.specs.declared.Refusal.{Refusal}
use Rattle.basics.specs.Lists.{lay, flat, Each, none as no_blocks, also as and_block}
use Rattle.basics.specs.Rows.{Row, Silent, none, also}
use Rattle.basics.specs.Refusals.{first_refusal, outcome, passed}
use Rattle.basics.specs.Laws.Lay.{length_lay}
use Rattle.basics.specs.Laws.Tests.{cases, true_is_not_false}
use Rattle.basics.specs.Laws.Rows.{silent_left, silent_right}
use Rattle.basics.specs.Laws.Stands.{stands_part}
use Rattle.basics.specs.Laws.Refusals.{Refusing, refusing_append, refused_front, silent_behind, accepted_exactly}
use Rattle.basics.specs.Laws.Outcomes.{outcome_ok, outcome_err, ok_none, ok_value, err_is, err_some}
use Rattle.places.specs.Limits.{lent, lent_limit}
use Rattle.sums.specs.Crc.{crc324_of}
use Rattle.header.specs.Header.{header_rows, header_refusal, flags_of}
use Rattle.header.specs.Laws.Refusals.{header_refusing, header_accepted, accepted_length}
use Rattle.hunk.specs.Hunk.{address, words_of, store_hunk}
use Rattle.tables.specs.Tables.{tables_size, tables_in, flash_words, tables_rows, tables_refusal}
use Rattle.blocks.specs.Blocks.{payload_in, size_said, is_tables, is_hunk, Block}
use Rattle.blocks.specs.Judged.{wrong_tables, wrong_hunk, judge_rows}
use Rattle.blocks.specs.Images.{first_block, blocks_in, judge_all, any_tables, payload_of_tables, hunks_in, overlay, word_count}
use Rattle.blocks.specs.Laws.Frames.{block_fits, rest_is}
use Rattle.blocks.specs.Laws.Images.{next_blocks, reading}
use Rattle.load.specs.declared.Found.{Found as Checked}
use Rattle.load.specs.declared.Loaded.{Loaded}
use Rattle.load.specs.Load.{Loading, refused, loaded_of, loading_of, loaded, load_answer, loading_from}
use Rattle.load.specs.Load.{walk_rows, refusal_of, refusal_by_size, load_ram_of, hunks_laid}
use Rattle.load.specs.Code.Passes.{tables_place, found_in, found_of, checked_of, Tabled, tables_at, end_refusal, loaded_by, finished_of, finished_ram_of}
use Rattle.load.specs.Laws.Refusals.{walk_silent, walk_refusing}
use Rattle.load.specs.Laws.Answers.{answer_is, answered_back}

-- what a block's rows say where none holds
judged_tables : (m : ℕ) (e : Bool) (p sum : ℕ) (x : List ℕ) → Silent (judge_rows m e p sum x) → wrong_tables e x ≡ false
unfolding judge_rows
judged_tables m e p sum x (also a (also b (also w (also c (also d none))))) = c

pub judged_hunk : (m : ℕ) (e : Bool) (p sum : ℕ) (x : List ℕ) → Silent (judge_rows m e p sum x) → wrong_hunk m x ≡ false
unfolding judge_rows
judged_hunk m e p sum x (also a (also b (also w (also c (also d none))))) = d

-- ---- the tables block

-- the payload at a tables block's place, and that it lies in the file
pub record Found (s : List ℕ) (t : ℕ) (x : List ℕ) : Type 0 where
  pub tabled : Tabled s t
  pub payload : tables_at s t ≡ x

pub payload_stands : (s : List ℕ) (p : ℕ) (x r : List ℕ) → drop p s ≡ x ++ r → Block x → drop (p + 8) s ≡ payload_in x ++ r
payload_stands s p x r st b = sym (drop-drop 8 p s) ∙ ap (drop 8) st ∙ drop-append-le 8 x r (omega (arith, b.long))

size_right : (a b c : Bool) → a ≡ true → a && (not b || c) ≡ false → b ≡ true
size_right true true c e f = refl
size_right true false c e f = true_is_not_false refl f
size_right false b c e f = true_is_not_false e refl

found :
    (xs : List (List ℕ)) (s : List ℕ) (p : ℕ) (r : List ℕ) (m : ℕ) (e : Bool) → Each Block xs → drop p s ≡ flat xs ++ r → Silent (judge_all m e p xs) → any_tables xs ≡ true
    → Found s (tables_place p xs) (payload_of_tables xs)
unfolding tables_place payload_of_tables any_tables judge_all
found [] s p r m e no_blocks st q a = true_is_not_false a refl
found (x ∷ xs) s p r m e (and_block b bs) st q a =
    let on : drop p s ≡ x ++ (flat xs ++ r) = next_blocks s p x xs r st in
    let rows = judge_rows m e p (crc324_of (payload_in x)) x in
    cases (is_tables x)
    (λ c.
    let z : eqb (size_said x) tables_size ≡ true = size_right (is_tables x) (eqb (size_said x) tables_size) e c (judged_tables m e p _ x (silent_left rows _ q)) in
    let n : size_said x ≡ tables_size = eqb-true _ _ z in
    let l : length (payload_in x) ≡ tables_size = length-drop 8 x ∙ omega (arith, b.long) in
    rw c
    (record {
      tabled = record { lies = omega (arith, block_fits s p x (flat xs ++ r) on b, b.long) };
      payload =
          stands_part s (p + 8) (payload_in x) (flat xs ++ r) (payload_stands s p x (flat xs ++ r) on b) (p + 8 + tables_size) (omega arith);
    }))
    (λ c. rw c (found xs s (p + length x) r m (e || is_tables x) bs (rest_is s p x (flat xs ++ r) on b) (silent_right rows _ q) (rw c at a)))

pub tables_found : (s : List ℕ) (m : ℕ) → Silent (judge_all m false first_block (blocks_in s)) → any_tables (blocks_in s) ≡ true → Found s (tables_place first_block (blocks_in s)) (payload_of_tables (blocks_in s))
tables_found s m q a = found (blocks_in s) s first_block (drop (reading s).stop s) m false (reading s).each (reading s).stands q a

-- ---- the hunks

-- a hunk that the check passes for the words lent is laid
store_laid : (x ram : List ℕ) → is_hunk x ≡ true → wrong_hunk (lent ram) x ≡ false → store_hunk (payload_in x) ram ≡ lay (address (payload_in x)).0 (words_of (payload_in x)) ram
unfolding store_hunk
store_laid x ram h e = let b = rw h at e in rw b

pub stored_over :
    (xs : List (List ℕ)) (m : ℕ) (e : Bool) (p : ℕ) (ram : List ℕ) → m ≡ lent ram → Silent (judge_all m e p xs) → hunks_laid xs ram ≡ overlay (hunks_in xs) ram
unfolding hunks_laid hunks_in overlay judge_all
stored_over [] m e p ram k q = refl
stored_over (x ∷ xs) m e p ram k q =
    let rows = judge_rows m e p (crc324_of (payload_in x)) x in
    let on = silent_right rows _ q in
    cases (is_hunk x)
    (λ h.
    let w : wrong_hunk (lent ram) x ≡ false = rw k at (judged_hunk m e p _ x (silent_left rows _ q)) in
    let l : length (lay (address (payload_in x)).0 (words_of (payload_in x)) ram) ≡ length ram = length_lay (address (payload_in x)).0 (words_of (payload_in x)) ram in
    rw (h, store_laid x ram h w) (stored_over xs m (e || is_tables x) (p + length x) _ (k ∙ ap (λ (n : ℕ). min n lent_limit) (sym l)) on))
    (λ h. rw h (stored_over xs m (e || is_tables x) (p + length x) ram k on))

-- ---- the load, as the code comes to its answer

module _ (s : List ℕ) (m : ℕ) where
  abbrev front : List (Row Refusal)
  front = header_rows s ++ walk_rows s m

  front_refusing : Refusing front
  front_refusing = refusing_append (header_rows s) (walk_rows s m) (header_refusing s) (walk_refusing s m)

  -- 1 to 4, then the blocks
  pub check_head : (r : Refusal) → passed (header_refusal s) ≡ Err r → Err r ≡ checked_of s m
  unfolding checked_of
  check_head r e =
      let i : header_refusal s ≡ r = err_is (header_refusal s) tt r e in
      let n : (header_refusal s).number ≡ 0 → ⊥ = err_some (header_refusal s) tt r e in
      rw (refused_front (header_rows s) (walk_rows s m) n) (sym (outcome_err (header_refusal s) (found_in s) n ∙ ap Err i))

  pub check_walk : (u : Unit {0}) → passed (header_refusal s) ≡ Ok u → (v : Result Checked Refusal) → v ≡ found_of s m → v ≡ checked_of s m
  unfolding checked_of found_of
  check_walk u e v ev =
      ev ∙ rw (silent_behind (header_rows s) (walk_rows s m) ((header_accepted s).0 (ok_none (header_refusal s) tt u e)))

  rows_split : (f : ℕ) → refusal_of s m f ≡ first_refusal (front ++ tables_rows (flags_of s) (tables_in (payload_of_tables (blocks_in s))).flips m f)
  unfolding refusal_of
  rows_split f = ap first_refusal (sym (append_assoc (header_rows s) (walk_rows s m) _))

  module _ (r : Refusal) (e : checked_of s m ≡ Err r) where
    front_some : r.number ≡ 0 → ⊥
    unfolding checked_of
    front_some z = err_some (first_refusal front) (found_in s) r e (ap (λ (q : Refusal). q.number) (err_is (first_refusal front) (found_in s) r e) ∙ z)

    front_refuses : (f : ℕ) → refusal_of s m f ≡ r
    unfolding checked_of
    front_refuses f =
        rows_split f ∙ refused_front front _ (err_some (first_refusal front) (found_in s) r e) ∙ err_is (first_refusal front) (found_in s) r e

    err_by : {A : Type 0} (f : ℕ) (a : A) → Err r ≡ outcome (refusal_of s m f) a
    err_by f a = rw (front_refuses f) (sym (outcome_err r a front_some))

    pub front_answers : (f : ℕ) → Err r ≡ load_answer (loading_of s m f)
    front_answers f = err_by f _ ∙ sym (answer_is s m f)

    pub front_keeps : (f : ℕ) (ram : List ℕ) → m ≡ lent ram → ram ≡ load_ram_of s ram f
    unfolding load_ram_of
    front_keeps f ram em = let q : refusal_of s (lent ram) f ≡ r = rw (← em) (front_refuses f) in rw (q, ne_eqb _ _ front_some)

    pub front_stops : Err r ≡ passed (refusal_by_size s m)
    front_stops = err_by (flash_words (flags_of s)) tt

  -- 10, 11 and 13, and the answer
  module _ (found : Checked) (e : checked_of s m ≡ Ok found) where
    front_quiet : Silent front
    unfolding checked_of
    front_quiet = (accepted_exactly front front_refusing).0 (ok_none (first_refusal front) (found_in s) found e)

    found_is : found_in s ≡ found
    unfolding checked_of
    found_is = ok_value (first_refusal front) (found_in s) found e

    pub checked_enough : 32 ≤ length s
    checked_enough = (accepted_length s ((header_accepted s).1 (silent_left (header_rows s) _ front_quiet))).0

    walk_quiet : Silent (walk_rows s m)
    walk_quiet = silent_right (header_rows s) _ front_quiet

    here : Found s found.tables (payload_of_tables (blocks_in s))
    unfolding found_in
    here = let w = walk_silent s m walk_quiet in rw (← found_is) (tables_found s m w.0 w.1.1)

    pub checked_tabled : Tabled s found.tables
    checked_tabled = here.tabled

    end_is : (f : ℕ) → end_refusal s found.tables m f ≡ refusal_of s m f
    end_is f = rw here.payload (sym (rows_split f ∙ silent_behind front _ front_quiet))

    all_is : loaded_by s found ≡ loaded (loaded_of (flags_of s) (blocks_in s))
    unfolding found_in
    all_is = rw (here.payload, ← found_is)

    pub done_answer : (f : ℕ) (v : Result Loaded Refusal) → v ≡ finished_of s m f found → v ≡ load_answer (loading_of s m f)
    unfolding finished_of
    done_answer f v ev = ev ∙ rw (end_is f, all_is) (sym (answer_is s m f))

    pub done_ram : (f : ℕ) (ram after : List ℕ) → m ≡ lent ram → after ≡ finished_ram_of s found.tables ram f → after ≡ load_ram_of s ram f
    unfolding finished_ram_of load_ram_of
    done_ram f ram after em ea =
        let w = walk_silent s m walk_quiet in
        let g : end_refusal s found.tables (lent ram) f ≡ refusal_of s (lent ram) f = rw (← em) (end_is f) in
        ea ∙ rw (g, stored_over (blocks_in s) m false first_block ram em w.0)

    pub done_stops : (v : Result (Unit {0}) Refusal) → v ≡ passed (end_refusal s found.tables m (flash_words (flags_of s))) → v ≡ passed (refusal_by_size s m)
    done_stops v ev = ev ∙ ap passed (end_is (flash_words (flags_of s)))

-- ---- each way out of the load, from what the header and the blocks say on their own

-- what the header and then the blocks say is what both say together
module _ (s : List ℕ) (m : ℕ) (h : Refusal) (eh : h ≡ header_refusal s) where
  head_checked : (h.number ≡ 0 → ⊥) → checked_of s m ≡ Err h
  head_checked n = sym (check_head s m h (outcome_err (header_refusal s) tt (rw eh at n) ∙ ap Err (sym eh)))

  walk_checked : h.number ≡ 0 → (v : Result Checked Refusal) → v ≡ found_of s m → v ≡ checked_of s m
  walk_checked zero v ev = check_walk s m tt (outcome_ok (header_refusal s) tt (rw eh at zero)) v ev

-- what is found where the blocks refuse nothing: this needs nothing of the header
module _ (s : List ℕ) (m : ℕ) (v : Result Checked Refusal) (ev : v ≡ found_of s m) (found : Checked) (e : v ≡ Ok found) where
  pub record Went : Type 0 where
    pub good : (first_refusal (walk_rows s m)).number ≡ 0
    pub place : found.tables ≡ tables_place first_block (blocks_in s)
    pub counted : found.blocks ≡ length (blocks_in s)
    pub stored : found.words ≡ word_count (hunks_in (blocks_in s))

  pub went : Went
  unfolding found_of found_in
  went =
      let q : outcome (first_refusal (walk_rows s m)) (found_in s) ≡ Ok found = sym ev ∙ e in
      let i : found_in s ≡ found = ok_value (first_refusal (walk_rows s m)) (found_in s) found q in
      record {
        good = ok_none (first_refusal (walk_rows s m)) (found_in s) found q;
        place = ap (λ (x : Checked). x.tables) (sym i);
        counted = ap (λ (x : Checked). x.blocks) (sym i);
        stored = ap (λ (x : Checked). x.words) (sym i);
      }

module _ (s : List ℕ) (m f : ℕ) where
  refused_by : (r : Refusal) → (r.number ≡ 0 → ⊥) → refusal_of s m f ≡ r → refused r ≡ loading_of s m f
  unfolding loading_of
  refused_by r n e = rw (e, ne_eqb _ _ n)

  kept_by : (ram : List ℕ) → m ≡ lent ram → (r : Refusal) → (r.number ≡ 0 → ⊥) → refusal_of s m f ≡ r → ram ≡ load_ram_of s ram f
  unfolding load_ram_of
  kept_by ram em r n e = let q : refusal_of s (lent ram) f ≡ r = rw (← em) e in rw (q, ne_eqb _ _ n)

  -- 1 to 4
  header_refuses : (h : Refusal) → h ≡ header_refusal s → (h.number ≡ 0 → ⊥) → refusal_of s m f ≡ h
  unfolding refusal_of
  header_refuses h e n = refused_front (header_rows s) _ (rw e at n) ∙ sym e

  module _ (h : Refusal) (eh : h ≡ header_refusal s) (n : h.number ≡ 0 → ⊥) where
    header_answer : (l : Loading) → l ≡ refused h → l ≡ loading_of s m f
    header_answer l el = el ∙ refused_by h n (header_refuses h eh n)

    header_ram : (ram : List ℕ) → m ≡ lent ram → ram ≡ load_ram_of s ram f
    header_ram ram em = kept_by ram em h n (header_refuses h eh n)

  module _ (h : Refusal) (eh : h ≡ header_refusal s) (zero : h.number ≡ 0) where
    header_silent : Silent (header_rows s)
    header_silent = (header_accepted s).0 (rw eh at zero)

    behind_header : refusal_of s m f ≡ first_refusal (walk_rows s m ++ tables_rows (flags_of s) (tables_in (payload_of_tables (blocks_in s))).flips m f)
    unfolding refusal_of
    behind_header = silent_behind (header_rows s) _ header_silent

    -- the blocks
    walk_by : (v : Result Checked Refusal) → v ≡ found_of s m → (r : Refusal) → v ≡ Err r → (first_refusal (walk_rows s m) ≡ r) × (r.number ≡ 0 → ⊥)
    unfolding found_of
    walk_by v ev r e =
        let q : outcome (first_refusal (walk_rows s m)) (found_in s) ≡ Err r = sym ev ∙ e in
        let i : first_refusal (walk_rows s m) ≡ r = err_is (first_refusal (walk_rows s m)) (found_in s) r q in
        (i, λ z. err_some (first_refusal (walk_rows s m)) (found_in s) r q (ap (λ (x : Refusal). x.number) i ∙ z))

    walk_refuses : (v : Result Checked Refusal) → v ≡ found_of s m → (r : Refusal) → v ≡ Err r → refusal_of s m f ≡ r
    walk_refuses v ev r e =
        let w = walk_by v ev r e in
        behind_header ∙ refused_front (walk_rows s m) _ (λ z. w.1 (sym (ap (λ (q : Refusal). q.number) w.0) ∙ z)) ∙ w.0

    walk_answer : (v : Result Checked Refusal) → v ≡ found_of s m → (r : Refusal) → v ≡ Err r → (l : Loading) → l ≡ refused r → l ≡ loading_of s m f
    walk_answer v ev r e l el = el ∙ refused_by r (walk_by v ev r e).1 (walk_refuses v ev r e)

    walk_ram : (v : Result Checked Refusal) → v ≡ found_of s m → (r : Refusal) → v ≡ Err r → (ram : List ℕ) → m ≡ lent ram → ram ≡ load_ram_of s ram f
    walk_ram v ev r e ram em = kept_by ram em r (walk_by v ev r e).1 (walk_refuses v ev r e)

    pub header_enough : 32 ≤ length s
    header_enough = (accepted_length s (rw eh at zero)).0

    module _ (v : Result Checked Refusal) (ev : v ≡ found_of s m) (found : Checked) (e : v ≡ Ok found) where
      both_checked : checked_of s m ≡ Ok found
      both_checked = sym (walk_checked s m h eh zero v ev) ∙ e

      pub loads_tabled : Tabled s found.tables
      loads_tabled = checked_tabled s m found both_checked

      refusal_end : refusal_of s m f ≡ tables_refusal (flags_of s) (tables_in (payload_of_tables (blocks_in s))).flips m f
      refusal_end =
          let q : Silent (walk_rows s m) = (accepted_exactly (walk_rows s m) (walk_refusing s m)).0 (went s m v ev found e).good in
          behind_header ∙ silent_behind (walk_rows s m) _ q

-- for the words that are lent
module _ (s ram : List ℕ) (f : ℕ) (h : Refusal) (eh : h ≡ header_refusal s) where
  module _ (n : h.number ≡ 0 → ⊥) where
    pub head_answers : (l : Loading) → l ≡ refused h → l ≡ loading_of s (lent ram) f
    head_answers l el = header_answer s (lent ram) f h eh n l el

    pub head_keeps : ram ≡ load_ram_of s ram f
    head_keeps = header_ram s (lent ram) f h eh n ram refl

  module _ (zero : h.number ≡ 0) (m : ℕ) (em : m ≡ lent ram) (v : Result Checked Refusal) (ev : v ≡ found_of s m) where
    module _ (r : Refusal) (e : v ≡ Err r) where
      pub walk_answers : (l : Loading) → l ≡ refused r → l ≡ loading_of s (lent ram) f
      walk_answers l el = rw (← em) (walk_answer s m f h eh zero v ev r e l el)

      pub walk_keeps : ram ≡ load_ram_of s ram f
      walk_keeps = walk_ram s m f h eh zero v ev r e ram em

    module _ (found : Checked) (e : v ≡ Ok found) where
      -- the code's answer, and what it tells that the load comes to
      pub done_so : (l : Result Loaded Refusal) (after : List ℕ) → l ≡ finished_of s (lent ram) f found → after ≡ finished_ram_of s found.tables ram f
          → (loading_from l ≡ loading_of s (lent ram) f) × (l ≡ load_answer (loading_of s (lent ram) f)) × (after ≡ load_ram_of s ram f)
      done_so l after el ea =
          let c : checked_of s m ≡ Ok found = both_checked s m f h eh zero v ev found e in
          let a : l ≡ load_answer (loading_of s m f) = done_answer s m found c f l (rw (← em) at el) in
          (rw (← em) (answered_back s m f l a), rw (← em) a, done_ram s m found c f ram after em ea)

-- each way out of the refusals alone, for any number of words
module _ (s : List ℕ) (m : ℕ) (h : Refusal) (eh : h ≡ header_refusal s) where
  abbrev size : ℕ
  size = flash_words (flags_of s)

  pub refusal_head : (h.number ≡ 0 → ⊥) → h ≡ refusal_by_size s m
  refusal_head n = sym (header_refuses s m size h eh n)

  module _ (zero : h.number ≡ 0) (v : Result Checked Refusal) (ev : v ≡ found_of s m) where
    pub refusal_walk : (r : Refusal) → v ≡ Err r → r ≡ refusal_by_size s m
    refusal_walk r e = sym (walk_refuses s m size h eh zero v ev r e)

    pub refusal_tables : (found : Checked) → v ≡ Ok found → (r : Refusal) → r ≡ end_refusal s found.tables m size → r ≡ refusal_by_size s m
    refusal_tables found e r er = er ∙ end_is s m found (both_checked s m size h eh zero v ev found e) size
