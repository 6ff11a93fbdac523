-- The passes: each says what it did of the blocks before the place where it stands.
use Prim.Native.Nat.{ℕ, ◌+◌, ◌-◌, ◌*◌, ◌^◌, ◌<◌, ◌≤◌}
use mathlib.Core.Path.{◌≡◌, refl, sym, ap, ◌∙◌}
use mathlib.Core.List.{List, [], ◌∷◌, ◌++◌}
use mathlib.Core.Bool.{Bool, true, false, cond, not, ◌&&◌, ◌||◌}
use native.Mathlib.Omega.{arith}
use borrow.Author.Tests.{eq-eqb, ne_eqb, eqb-true, eqb-false, ltb-true, ltb-false}
use borrow.Rule.Slice.PartMut.{put_mid}
use lib.ListN.{length, get_or, take, drop, set, length-append, length-set}
use lib.Seq.{take_all, take-append-le, set_out}
use lib.Dec.{eqb, ltb}
use mir.Val.{Fits}
use mir.Syntax.{w64}
use Rattle.std.specs.Prelude.{Option, Some, None, Result, Ok, Err}
use Rattle.std.specs.Option.{is_some}
use Rattle.basics.specs.declared.Refusal.{Refusal}
use Rattle.basics.specs.Lists.{part, joined, flat, put_front}
use Rattle.basics.specs.Rows.{Gives, Silent, none}
use Rattle.basics.specs.Refusals.{refuse, no_refusal, first_refusal, passes, outcome, passed}
use Rattle.basics.specs.Laws.Each.{joined_append, joined_more}
use Rattle.basics.specs.Laws.Lists.{length_part}
use Rattle.basics.specs.Laws.Tests.{cases, true_is_not_false, or_none, not-false, not-true}
use Rattle.basics.specs.Laws.Rows.{gives_first, silent_append, silent_gives, gives_append}
use Rattle.basics.specs.Laws.Refusals.{silent_behind}
use Rattle.basics.specs.Laws.Wrote.{Wrote, wrote_none, wrote_long, wrote_all, wrote_set}
use Rattle.basics.specs.Laws.Puts.{put_wrote, wrote_put}
use Rattle.places.specs.Limits.{lent_limit}
use Rattle.sums.specs.Crc.{crc324_of}
use Rattle.header.specs.Header.{flags_of}
use Rattle.blocks.specs.declared.Frame.{Frame}
use Rattle.blocks.specs.declared.Frame.TheVariants.{Over, Cut, Framed}
use Rattle.blocks.specs.Judged.{Judged}
use Rattle.blocks.specs.Blocks.{type_of, size_said, payload_in, is_tables}
use Rattle.blocks.specs.Frames.{frame_at, on_frame}
use Rattle.blocks.specs.Images.{blocks_in, any_tables, payload_of_tables}
use Rattle.blocks.specs.Laws.Frames.{framed_type}
use Rattle.blocks.proofs.Theorems.Judged.{judge_refuses, Passed, passed as passed_block}
use Rattle.blocks.specs.Laws.Images.{At, at_start, Next, at_next, Stops as StopsAt, at_over, at_cut, any_tables_more}
use Rattle.load.specs.Code.Passes.{judgement_of}
use Rattle.recovery.specs.declared.Step.{Step}
use Rattle.recovery.specs.declared.Step.TheVariants.{Stops, Keeps, Drops}
use Rattle.recovery.specs.declared.Found.{Found}
use Rattle.recovery.specs.Salvage.{left_out, kept, drops_from, kept_in, drops_in, stopped_of, stop_answer, block_rows, kept_rows, blocks_rows, listed_in}
use Rattle.recovery.specs.Laws.Kept.{other_kept, good_kept, hunk_out, kept_append, kept_dropped, rows_append, left_out_untabled, kept_one, kept_none, drops_one, drops_none}
use Rattle.recovery.specs.Code.Passes.{on_judged, step_of, Late, late_of, late_after, ended_by, found_of, survey_of, Noted}
use Rattle.recovery.proofs.Notes.{noted_none, noted_more, note_is, note_within}

-- ---- a step, by its frame

module _ (s : List ℕ) (e : Bool) (p : ℕ) where
  abbrev judgement : ℕ → Judged
  judgement q = judgement_of lent_limit e p (part s p q)

  pub data Stepped : Result Step Refusal → Type 0 where
    over : frame_at s p ≡ Over → Stepped (Ok (Stops None))
    cut : frame_at s p ≡ Cut → Stepped (Ok (Stops (Some p)))
    keeping : {t q : ℕ} → frame_at s p ≡ Framed t q → (judgement q).refusal.number ≡ 0 → Stepped (Ok (Keeps t q))
    dropping : {t q : ℕ} → frame_at s p ≡ Framed t q → t ≡ 2 → ((judgement q).refusal.number ≡ 0 → ⊥) → Stepped (Ok (Drops q))
    denying : {t q : ℕ} → frame_at s p ≡ Framed t q → (t ≡ 2 → ⊥) → ((judgement q).refusal.number ≡ 0 → ⊥) → Stepped (Err (judgement q).refusal)

  by_frame : (f : Frame) → frame_at s p ≡ f → Stepped (on_frame f (Ok (Stops None)) (Ok (Stops (Some p))) (λ t q. on_judged (judgement q) t q))
  by_frame Over ef = over ef
  by_frame Cut ef = cut ef
  by_frame (Framed t q) ef =
      cases (passes (judgement q).refusal) (λ h. rw h (keeping ef (eqb-true _ _ h)))
      (λ h. cases (eqb t 2) (λ i. rw (h, i) (dropping ef (eqb-true _ _ i) (eqb-false _ _ h))) (λ i. rw (h, i) (denying ef (eqb-false _ _ i) (eqb-false _ _ h))))

  stepped : (st : Result Step Refusal) → step_of s e p ≡ st → Stepped st
  unfolding step_of
  stepped st es = rw (← es) (by_frame (frame_at s p) refl)

-- ---- the surveying pass

-- the payload of the first tables block, with one block more
payload_more : (xs : List (List ℕ)) (x : List ℕ) → payload_of_tables (xs ++ (x ∷ [])) ≡ cond (any_tables xs) (payload_of_tables xs) (cond (is_tables x) (payload_in x) [])
unfolding payload_of_tables any_tables
payload_more [] x = refl
payload_more (y ∷ xs) x = cases (is_tables y) (λ e. rw e) (λ e. rw e (payload_more xs x))

first_only : (b n e : Bool) → b && (n || e) ≡ false → b ≡ true → e ≡ false
first_only true false e h k = h
first_only true true e h k = true_is_not_false refl h
first_only false n e h k = true_is_not_false k refl

pub record Surveying (s : List ℕ) (notes₀ notes : List Bool) (p : ℕ) (late : Option Late) (keeps drops long : ℕ) : Type 0 where
  pub before : List (List ℕ)
  pub at : At s p before
  pub silent : Silent (kept_rows false 32 before)
  pub judged : late ≡ cond (any_tables before) (Some (passed (late_of (flags_of s) (payload_of_tables before)))) None
  pub kept_is : keeps ≡ length (kept before)
  pub dropped_is : drops ≡ length (drops_from 32 before)
  pub long_is : long ≡ 32 + length (flat (kept before))
  pub noted : Noted before notes
  pub same : length notes ≡ length notes₀
  pub few : 8 * (keeps + drops) + 32 ≤ p
  pub short : long ≤ p

pub survey_start : (s : List ℕ) (notes : List Bool) → Surveying s notes notes 32 None 0 0 32
unfolding kept_rows kept drops_from any_tables joined
survey_start s notes =
    record {
      before = [];
      at = at_start s;
      silent = none;
      judged = refl;
      kept_is = refl;
      dropped_is = refl;
      long_is = refl;
      noted = noted_none notes;
      same = refl;
      few = omega arith;
      short = omega arith;
    }

pub survey_same : (s : List ℕ) (notes₀ notes : List Bool) (p : ℕ) (late : Option Late) (keeps drops long : ℕ) → Surveying s notes₀ notes p late keeps drops long
    → length notes ≡ length notes₀
survey_same s notes₀ notes p late keeps drops long c = c.same

-- what is told of the first tables block alone
late_by : (b e : Bool) (late : Option Late) (f : List ℕ → Late) (x y : List ℕ) → late ≡ cond e (Some (f y)) None → (b ≡ true → e ≡ false)
    → cond b (Some (f x)) late ≡ cond (e || b) (Some (f (cond e y (cond b x [])))) None
late_by true true late f x y h k = true_is_not_false refl (k refl)
late_by true false late f x y h k = refl
late_by false true late f x y h k = h
late_by false false late f x y h k = h

told : (e : Bool) (late : Option Late) (r : Late) → late ≡ cond e (Some r) None → is_some late ≡ e
told true late r h = rw h refl
told false late r h = rw h refl

late_more : (flags : List ℕ) (xs : List (List ℕ)) (x : List ℕ) (t : ℕ) (late after : Option Late) → t ≡ type_of x → after ≡ late_after late flags x t
    → (is_tables x ≡ true → any_tables xs ≡ false) → late ≡ cond (any_tables xs) (Some (passed (late_of flags (payload_of_tables xs)))) None
    → after ≡ cond (any_tables (xs ++ (x ∷ []))) (Some (passed (late_of flags (payload_of_tables (xs ++ (x ∷ [])))))) None
unfolding late_after
late_more flags xs x t late after k ea once h =
    ea ∙ rw (k, any_tables_more xs x, payload_more xs x)
    (late_by (is_tables x) (any_tables xs) late (λ y. passed (late_of flags y)) (payload_in x) (payload_of_tables xs) h once)

ended_passed : (size : ℕ) (r : Refusal) (found : Found) → ended_by size (Some (passed r)) found ≡ outcome r found
unfolding ended_by
ended_passed size r found = cases (passes r) (λ p. rw p) (λ p. rw p)

ended_none : (size : ℕ) (found : Found) → ended_by size None found ≡ Err (refuse 8 size)
unfolding ended_by
ended_none size found = refl

-- behind these blocks: the refusal, and what was found
module _ (s : List ℕ) (xs : List (List ℕ)) (all : blocks_in s ≡ xs) (late : Option Late)
    (judged : late ≡ cond (any_tables xs) (Some (passed (late_of (flags_of s) (payload_of_tables xs)))) None) (silent : Silent (kept_rows false 32 xs)) where
  behind : first_refusal (blocks_rows s) ≡ cond (any_tables xs) (late_of (flags_of s) (payload_of_tables xs)) (refuse 8 (length s))
  unfolding blocks_rows late_of
  behind = rw all (silent_behind (kept_rows false 32 xs) _ silent ∙ cases (any_tables xs) (λ z. rw z) (λ z. rw z))

  ended_is : (found : Found) → found ≡ found_of s → ended_by (length s) late found ≡ survey_of s
  unfolding survey_of
  ended_is found ef =
      rw (← ef, behind, judged)
      (cases (any_tables xs) (λ e. rw e (ended_passed (length s) (late_of (flags_of s) (payload_of_tables xs)) found)) (λ e. rw e (ended_none (length s) found)))

found_is : (s : List ℕ) (xs : List (List ℕ)) (keeps drops long : ℕ) (w : Option ℕ) → blocks_in s ≡ xs → keeps ≡ length (kept xs) → drops ≡ length (drops_from 32 xs)
    → long ≡ 32 + length (flat (kept xs)) → stop_answer (stopped_of s) ≡ w → record { kept = keeps; dropped = drops; long = long; stopped = w } ≡ found_of s
found_is s xs keeps drops long w all ek ed el ew = rw (ew, all, ek, ed, el)

-- a refusal of one of the blocks
refused_is : (s : List ℕ) (r : Refusal) → (r.number ≡ 0 → ⊥) → Gives (blocks_rows s) r → Err r ≡ survey_of s
unfolding survey_of
refused_is s r n g = let e : first_refusal (blocks_rows s) ≡ r = gives_first no_refusal g in rw (e, ne_eqb _ _ n)

refused_in : {r : Refusal} (s : List ℕ) (xs : List (List ℕ)) (x : List ℕ) (rest : List (List ℕ)) → blocks_in s ≡ xs ++ (x ∷ rest) → (tabled : Bool) (p : ℕ)
    → tabled ≡ any_tables xs → p ≡ 32 + length (flat xs) → Silent (kept_rows false 32 xs) → Gives (block_rows tabled p x) r → Gives (blocks_rows s) r
unfolding blocks_rows kept_rows
refused_in {r} s xs x rest all tabled p any place silent g =
    let k : Gives (kept_rows false 32 (blocks_in s)) r = rw (all, rows_append false 32 xs (x ∷ rest), ← any, ← place) (silent_gives silent (gives_append _ g)) in
    gives_append _ k

module _ (s : List ℕ) (notes₀ notes : List Bool) (p : ℕ) (late : Option Late) (keeps drops long : ℕ) (c : Surveying s notes₀ notes p late keeps drops long)
    (b : Bool) (eb : b ≡ is_some late) where
  abbrev xs : List (List ℕ)
  xs = c.before

  abbrev tabled : Bool
  tabled = is_some late

  any : tabled ≡ any_tables xs
  any = told (any_tables xs) late _ c.judged

  taken : (st : Result Step Refusal) → step_of s b p ≡ st → Stepped s tabled p st
  taken st e = stepped s tabled p st (rw eb at e)

  -- which block this is
  turn_is : keeps + drops ≡ length xs
  turn_is = omega (arith, c.kept_is, c.dropped_is, kept_dropped xs 32)

  stop_is : (w : Option ℕ) → Stepped s tabled p (Ok (Stops w)) → (blocks_in s ≡ xs) × (stop_answer (stopped_of s) ≡ w)
  stop_is w (over f) = let o : StopsAt s p xs false = at_over s p xs c.at f in (o.all, rw o.how)
  stop_is w (cut f) = let o : StopsAt s p xs true = at_cut s p xs c.at f in (o.all, rw (o.how, o.place))

  -- at the end, or at a block that is cut
  pub survey_end : (w : Option ℕ) → step_of s b p ≡ Ok (Stops w)
      → (r : Result Found Refusal) → r ≡ ended_by (length s) late (record { kept = keeps; dropped = drops; long = long; stopped = w }) → r ≡ survey_of s
  survey_end w e r er =
      let o = stop_is w (taken (Ok (Stops w)) e) in
      er ∙ ended_is s xs o.0 late c.judged c.silent _ (found_is s xs keeps drops long w o.0 c.kept_is c.dropped_is c.long_is o.1)

  -- and then all blocks are noted
  pub survey_noted : (w : Option ℕ) → step_of s b p ≡ Ok (Stops w) → Noted (blocks_in s) notes
  survey_noted w e = rw (stop_is w (taken (Ok (Stops w)) e)).0 c.noted

  -- a refusal of this block is the image's
  pub survey_no : (r : Refusal) → step_of s b p ≡ Err r → Err r ≡ survey_of s
  survey_no r e = go r (taken (Err r) e)
    where
      go : (r : Refusal) → Stepped s tabled p (Err r) → Err r ≡ survey_of s
      go r (denying {t} {q} f other bad) =
          let n : Next s p q xs = at_next s p xs t q c.at f in
          let d : left_out (part s p q) ≡ false = other_kept (part s p q) (ne_eqb _ _ (λ z. other (framed_type s p t q f ∙ z))) in
          let g = judge_refuses lent_limit tabled p (crc324_of (payload_in (part s p q))) (part s p q) bad in
          let k : Gives (block_rows tabled p (part s p q)) (judgement s tabled p q).refusal = rw d g in
          refused_is s _ bad (refused_in s xs (part s p q) n.rest n.all tabled p any c.at.place c.silent k)

  module _ (t q : ℕ) (e : step_of s b p ≡ Ok (Keeps t q)) where
    keep_frame : (frame_at s p ≡ Framed t q) × ((judgement s tabled p q).refusal.number ≡ 0)
    keep_frame = go (taken (Ok (Keeps t q)) e)
      where
        go : Stepped s tabled p (Ok (Keeps t q)) → (frame_at s p ≡ Framed t q) × ((judgement s tabled p q).refusal.number ≡ 0)
        go (keeping f n) = (f, n)

    keep_next : Next s p q xs
    keep_next = at_next s p xs t q c.at keep_frame.0

    keep_good : Passed lent_limit tabled p (crc324_of (payload_in (part s p q))) (part s p q)
    keep_good = passed_block lent_limit tabled p (crc324_of (payload_in (part s p q))) (part s p q) keep_frame.1

    keep_kept : left_out (part s p q) ≡ false
    keep_kept = good_kept tabled p (part s p q) keep_good.silent

    keep_size : length (part s p q) ≡ q - p
    keep_size = length_part s p q keep_next.inside

    pub keep_later : p ≤ q
    keep_later = omega (arith, keep_next.later)

    pub keep_inside : q ≤ length s
    keep_inside = keep_next.inside

    pub keep_room : length s ≤ 8 * length notes₀ → keeps + drops < length notes
    keep_room l = omega (arith, keep_next.later, keep_next.inside, c.few, c.same)

    pub keep_turn : length s < 2 ^ 64 → Fits w64 (keeps + drops)
    keep_turn l = omega (arith, keep_next.later, keep_next.inside, c.few)

    pub keep_more : length s ≤ 8 * length notes₀ → (after : Option Late) → after ≡ late_after late (flags_of s) (part s p q) t
        → Surveying s notes₀ (set notes (keeps + drops) false) q after (keeps + 1) drops (long + (q - p))
    unfolding kept_rows
    keep_more l after ea =
        let x : List ℕ = part s p q in
        let k : t ≡ type_of x = framed_type s p t q keep_frame.0 in
        let ek : kept (xs ++ (x ∷ [])) ≡ kept xs ++ (x ∷ []) = kept_one xs x keep_kept in
        let rows : Silent (block_rows tabled p x) = rw keep_kept keep_good.silent in
        record {
          before = xs ++ (x ∷ []);
          at = keep_next.at;
          silent = rw (rows_append false 32 xs (x ∷ []), ← any, ← c.at.place) (silent_append c.silent (silent_append rows none));
          judged =
              late_more (flags_of s) xs x t late after k ea
              (λ h. sym any ∙ first_only (is_tables x) (not (eqb (size_said x) 1280)) tabled keep_good.tables h) c.judged;
          kept_is = sym (ap length ek ∙ length-append (kept xs) (x ∷ []) ∙ rw (← c.kept_is));
          dropped_is = c.dropped_is ∙ sym (ap length (drops_none xs x 32 keep_kept));
          long_is = omega (arith, c.long_is, keep_size, ap length (ap flat ek ∙ joined_more (λ y. y) (kept xs) x), length-append (flat (kept xs)) x);
          noted = noted_more xs x notes (keeps + drops) false c.noted turn_is (keep_room l) (sym keep_kept);
          same = length-set notes (keeps + drops) false ∙ c.same;
          few = omega (arith, c.few, keep_next.later);
          short = omega (arith, c.short, keep_next.later);
        }

    pub keep_less : length s - q < length s - p
    keep_less = omega (arith, keep_next.later, keep_next.inside)

    pub keep_fit : length s < 2 ^ 64 → Fits w64 (keeps + 1)
    keep_fit h = omega (arith, keep_next.later, keep_next.inside, c.few)

    pub long_fit : length s < 2 ^ 64 → Fits w64 (long + (q - p))
    long_fit h = omega (arith, keep_next.later, keep_next.inside, c.short)

  module _ (q : ℕ) (e : step_of s b p ≡ Ok (Drops q)) where
    record Out : Type 0 where
      pub kind : ℕ
      pub framed : frame_at s p ≡ Framed kind q
      pub hunk : kind ≡ 2
      pub bad : (judgement s tabled p q).refusal.number ≡ 0 → ⊥

    out_frame : Out
    out_frame = go (taken (Ok (Drops q)) e)
      where
        go : Stepped s tabled p (Ok (Drops q)) → Out
        go (dropping {t} f h n) = record { kind = t; framed = f; hunk = h; bad = n }

    out_next : Next s p q xs
    out_next = at_next s p xs out_frame.kind q c.at out_frame.framed

    out_left : left_out (part s p q) ≡ true
    out_left =
        let k : type_of (part s p q) ≡ 2 = sym (framed_type s p out_frame.kind q out_frame.framed) ∙ out_frame.hunk in
        hunk_out tabled p (part s p q) (eq-eqb _ _ k) out_frame.bad

    pub drop_room : length s ≤ 8 * length notes₀ → keeps + drops < length notes
    drop_room l = omega (arith, out_next.later, out_next.inside, c.few, c.same)

    pub drop_turn : length s < 2 ^ 64 → Fits w64 (keeps + drops)
    drop_turn l = omega (arith, out_next.later, out_next.inside, c.few)

    pub drop_more : length s ≤ 8 * length notes₀ → Surveying s notes₀ (set notes (keeps + drops) true) q late keeps (drops + 1) long
    unfolding kept_rows
    drop_more l =
        let x : List ℕ = part s p q in
        let ek : kept (xs ++ (x ∷ [])) ≡ kept xs = kept_none xs x out_left in
        let u : is_tables x ≡ false = left_out_untabled x out_left in
        let v : any_tables (xs ++ (x ∷ [])) ≡ any_tables xs = any_tables_more xs x ∙ rw u (or_none (any_tables xs)) in
        let rows : Silent (block_rows tabled p x) = rw out_left none in
        record {
          before = xs ++ (x ∷ []);
          at = out_next.at;
          silent = rw (rows_append false 32 xs (x ∷ []), ← any, ← c.at.place) (silent_append c.silent (silent_append rows none));
          judged =
              c.judged
              ∙ rw (v, payload_more xs x, u)
              (cases (any_tables xs) (λ a. rw a) (λ a. rw a));
          kept_is = c.kept_is ∙ sym (ap length ek);
          dropped_is = sym (ap length (drops_one xs x 32 out_left) ∙ length-append (drops_from 32 xs) _ ∙ rw (← c.dropped_is));
          long_is = c.long_is ∙ sym (ap (λ (y : List (List ℕ)). 32 + length (flat y)) ek);
          noted = noted_more xs x notes (keeps + drops) true c.noted turn_is (drop_room l) (sym out_left);
          same = length-set notes (keeps + drops) true ∙ c.same;
          few = omega (arith, c.few, out_next.later);
          short = omega (arith, c.short, out_next.later);
        }

    pub drop_less : length s - q < length s - p
    drop_less = omega (arith, out_next.later, out_next.inside)

    pub drop_fit : length s < 2 ^ 64 → Fits w64 (drops + 1)
    drop_fit h = omega (arith, out_next.later, out_next.inside, c.few)

-- ---- the copying pass

pub record Copying (s out₀ out : List ℕ) (p n i : ℕ) : Type 0 where
  pub before : List (List ℕ)
  pub at : At s p before
  pub count : n ≡ length before
  pub wrote : Wrote out₀ out (flat (kept before))
  pub here : i ≡ length (flat (kept before))

pub copy_start : (s out : List ℕ) → Copying s out out 32 0 0
unfolding kept joined
copy_start s out = record { before = []; at = at_start s; count = refl; wrote = wrote_none out; here = refl }

pub copy_same : (s out₀ out : List ℕ) (p n i : ℕ) → Copying s out₀ out p n i → length out ≡ length out₀
copy_same s out₀ out p n i c = wrote_long out₀ out (flat (kept c.before)) c.wrote

-- a block that is kept has room where all have
kept_room : (xs rest : List (List ℕ)) (x : List ℕ) → left_out x ≡ false → length (flat (kept xs)) + length x ≤ length (flat (kept (xs ++ (x ∷ rest))))
unfolding kept joined
kept_room xs rest x d =
    let e : flat (kept (xs ++ (x ∷ rest))) ≡ flat (kept xs) ++ (x ++ flat (kept rest)) = ap flat (kept_append xs (x ∷ rest)) ∙ joined_append (λ y. y) (kept xs) (kept (x ∷ rest)) ∙ rw d in
    omega (arith, ap length e, length-append (flat (kept xs)) (x ++ flat (kept rest)), length-append x (flat (kept rest)))

module _ (s out₀ out : List ℕ) (p n i : ℕ) (c : Copying s out₀ out p n i) (f : Frame) (ef : f ≡ frame_at s p) where
  module _ (fits : length out₀ ≡ length (flat (kept_in s))) where
    copied : blocks_in s ≡ c.before → out ≡ flat (kept_in s)
    copied e =
        let k : flat (kept c.before) ≡ flat (kept_in s) = ap (λ (y : List (List ℕ)). flat (kept y)) (sym e) in
        wrote_all out₀ out (flat (kept c.before)) c.wrote (ap length k ∙ sym fits) ∙ k

    copied_by : (g : Frame) → frame_at s p ≡ g → ((t q : ℕ) → g ≡ Framed t q → ⊥) → out ≡ flat (kept_in s)
    copied_by Over e n = copied (at_over s p c.before c.at e).all
    copied_by Cut e n = copied (at_cut s p c.before c.at e).all
    copied_by (Framed t q) e n = absurd (n t q refl)

    pub copy_all : ((t q : ℕ) → f ≡ Framed t q → ⊥) → out ≡ flat (kept_in s)
    copy_all n = copied_by f (sym ef) n

  module _ (t q : ℕ) (e : f ≡ Framed t q) where
    next : Next s p q c.before
    next = at_next s p c.before t q c.at (sym ef ∙ e)

    size : length (part s p q) ≡ q - p
    size = length_part s p q next.inside

    pub copy_less : length s - q < length s - p
    copy_less = omega (arith, next.later, next.inside)

    one_more : n + 1 ≡ length (c.before ++ (part s p q ∷ []))
    one_more = omega (arith, c.count, length-append c.before (part s p q ∷ []))

    module _ (notes : List Bool) (noted : Noted (blocks_in s) notes) where
      pub copy_within : n < length notes
      copy_within = note_within c.before next.rest (part s p q) notes n (rw next.all at noted) c.count

      pub copy_next : length notes < 2 ^ 64 → Fits w64 (n + 1)
      copy_next l = omega (arith, copy_within)

      noted_is : get_or notes n false ≡ left_out (part s p q)
      noted_is = note_is c.before next.rest (part s p q) notes n (rw next.all at noted) c.count

      -- left out
      pub copy_none : not (get_or notes n false) ≡ false → Copying s out₀ out q (n + 1) i
      copy_none h =
          let d : left_out (part s p q) ≡ true = sym noted_is ∙ not-false (get_or notes n false) h in
          let k : kept (c.before ++ (part s p q ∷ [])) ≡ kept c.before = kept_none c.before (part s p q) d in
          record { before = c.before ++ (part s p q ∷ []); at = next.at; count = one_more; wrote = rw k c.wrote; here = rw k c.here }

      module _ (h : not (get_or notes n false) ≡ true) where
        stays : left_out (part s p q) ≡ false
        stays = sym noted_is ∙ not-true (get_or notes n false) h

        module _ (fits : length out₀ ≡ length (flat (kept_in s))) where
          pub copy_room : i + (q - p) ≤ length out
          copy_room =
              omega (
                arith,
                copy_same s out₀ out p n i c,
                c.here,
                size,
                fits,
                ap (λ (y : List (List ℕ)). length (flat (kept y))) next.all,
                kept_room c.before next.rest (part s p q) stays,
              )

          pub copy_fit : length out₀ < 2 ^ 64 → Fits w64 (i + (q - p))
          copy_fit l = omega (arith, copy_room, copy_same s out₀ out p n i c)

          pub copy_one : (ys : List ℕ) → ys ≡ put_front (part s p q) (take (i + (q - p) - i) (drop i out))
              → Copying s out₀ (put_mid i (i + (q - p) - i) out ys) q (n + 1) (i + (q - p))
          copy_one ys ey =
              let x : List ℕ = part s p q in
              let k : flat (kept (c.before ++ (x ∷ []))) ≡ flat (kept c.before) ++ x = ap flat (kept_one c.before x stays) ∙ joined_more (λ y. y) (kept c.before) x in
              record {
                before = c.before ++ (x ∷ []);
                at = next.at;
                count = one_more;
                wrote =
                    rw k
                    (wrote_put out₀ out (flat (kept c.before)) i (i + (q - p) - i) ys x c.wrote c.here (omega (arith, size))
                    (omega (arith, copy_room, copy_same s out₀ out p n i c)) ey);
                here = rw k (omega (arith, c.here, size, length-append (flat (kept c.before)) x));
              }

-- ---- the pass that lists

pub record Listing (s array₀ array : List ℕ) (p n : ℕ) : Type 0 where
  pub before : List (List ℕ)
  pub at : At s p before
  pub wrote : Wrote array₀ array (take (length array₀) (drops_from 32 before))
  pub count : n ≡ length (drops_from 32 before)
  pub few : n + 32 ≤ p

take_nil : (k : ℕ) → take {A = ℕ} k [] ≡ []
take_nil k = take_all k [] (omega arith)

pub list_start : (s array : List ℕ) → Listing s array array 32 0
unfolding drops_from
list_start s array = record { before = []; at = at_start s; wrote = rw (take_nil (length array)) (wrote_none array); count = refl; few = omega arith }

pub list_same : (s array₀ array : List ℕ) (p n : ℕ) → Listing s array₀ array p n → length array ≡ length array₀
list_same s array₀ array p n c = wrote_long array₀ array _ c.wrote

-- one place more, where there is room for it and where there is not
wrote_next : (array₀ array ds : List ℕ) (n p q : ℕ) → Wrote array₀ array (take (length array₀) ds) → n ≡ length ds → p ≡ q
    → Wrote array₀ (set array n p) (take (length array₀) (ds ++ (q ∷ [])))
wrote_next array₀ array ds n p q w en ep =
    cases (ltb n (length array₀))
    (λ l.
    let k : n < length array₀ = ltb-true _ _ l in
    let a : take (length array₀) ds ≡ ds = take_all (length array₀) ds (omega arith) in
    let b : take (length array₀) (ds ++ (q ∷ [])) ≡ ds ++ (q ∷ []) = take_all (length array₀) (ds ++ (q ∷ [])) (omega (arith, length-append ds (q ∷ []))) in
    rw b (wrote_set array₀ array ds n p q (rw a at w) en k ep))
    (λ l.
    let k : length array₀ ≤ n = ltb-false _ _ l in
    let a : set array n p ≡ array = set_out array n p (omega (arith, wrote_long array₀ array (take (length array₀) ds) w)) in
    rw (a, take-append-le (length array₀) ds (q ∷ []) (omega arith)) w)

module _ (s array₀ array : List ℕ) (p n : ℕ) (c : Listing s array₀ array p n) (f : Frame) (ef : f ≡ frame_at s p) where
  all_listed : blocks_in s ≡ c.before → (n ≡ length (drops_in s)) × (array ≡ listed_in s array₀)
  unfolding listed_in
  all_listed e = (rw e c.count, rw e (put_wrote array₀ array _ c.wrote))

  listed_by : (g : Frame) → frame_at s p ≡ g → ((t q : ℕ) → g ≡ Framed t q → ⊥) → (n ≡ length (drops_in s)) × (array ≡ listed_in s array₀)
  listed_by Over e k = all_listed (at_over s p c.before c.at e).all
  listed_by Cut e k = all_listed (at_cut s p c.before c.at e).all
  listed_by (Framed t q) e k = absurd (k t q refl)

  pub list_all : ((t q : ℕ) → f ≡ Framed t q → ⊥) → (n ≡ length (drops_in s)) × (array ≡ listed_in s array₀)
  list_all k = listed_by f (sym ef) k

  module _ (t q : ℕ) (e : f ≡ Framed t q) where
    on : Next s p q c.before
    on = at_next s p c.before t q c.at (sym ef ∙ e)

    pub list_less : length s - q < length s - p
    list_less = omega (arith, on.later, on.inside)

    pub list_fit : length s < 2 ^ 64 → Fits w64 (n + 1)
    list_fit h = omega (arith, on.later, on.inside, c.few)

    module _ (b : Bool) (eb : b ≡ left_out (part s p q)) where
      pub list_none : b ≡ false → Listing s array₀ array q n
      list_none h =
          let k : drops_from 32 (c.before ++ (part s p q ∷ [])) ≡ drops_from 32 c.before = drops_none c.before (part s p q) 32 (sym eb ∙ h) in
          record {
            before = c.before ++ (part s p q ∷ []);
            at = on.at;
            wrote = rw k c.wrote;
            count = rw k c.count;
            few = omega (arith, on.later, c.few);
          }

      pub list_one : b ≡ true → (after : List ℕ) → after ≡ set array n p → Listing s array₀ after q (n + 1)
      list_one h after ea =
          let k : drops_from 32 (c.before ++ (part s p q ∷ [])) ≡ drops_from 32 c.before ++ ((32 + length (flat c.before)) ∷ []) = drops_one c.before (part s p q) 32 (sym eb ∙ h) in
          record {
            before = c.before ++ (part s p q ∷ []);
            at = on.at;
            wrote = rw (k, ea) (wrote_next array₀ array (drops_from 32 c.before) n p _ c.wrote c.count c.at.place);
            count = rw k (omega (arith, c.count, length-append (drops_from 32 c.before) ((32 + length (flat c.before)) ∷ [])));
            few = omega (arith, on.later, c.few);
          }
