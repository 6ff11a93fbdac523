-- A load is refused with 9 exactly when a hunk breaks, and the place is the byte of the file where it does: the header and the blocks before
-- refuse nothing, the hunk's data blocks before that byte are whole and lie in the RAM, and the one at it does not (02, W-205).
use Rattle.std.specs.Prelude.{Result, Ok, Err}
use Prim.Native.Nat.{ℕ, ◌+◌, ◌<◌}
use Rattle.std.specs.Prelude.{◌≡◌, Bool, ◌&&◌, ◌||◌, ◌⊎◌, ◌↔◌, get_or, drop, eqb}
use Rattle.std.proofs.Math.Path.{refl}
use Rattle.std.proofs.Common.{sym, ap, ◌∙◌, inl, inr, arith, length-append}
use mathlib.Core.List.{List, [], ◌∷◌, ◌++◌, append_assoc}
use Rattle.std.proofs.Math.Bool.{true, false, not}
use borrow.Author.Tests.{eq-eqb, eqb-true}
use Rattle.std.proofs.Math.ListN.{length}
use Rattle.basics.specs.declared.Refusal.{Refusal}
use Rattle.basics.specs.Lists.{flat, joined, Each, also as and_block}
use Rattle.basics.specs.Rows.{Gives, here, later, Silent, none}
use Rattle.basics.specs.Refusals.{refuse}
use Rattle.basics.specs.Laws.Tests.{and_left, and_right, not-false, true_is_not_false, or_assoc, or_none}
use Rattle.basics.specs.Laws.Each.{joined_append}
use Rattle.basics.specs.Laws.Stands.{stands_in, stands_after}
use Rattle.basics.specs.Laws.Rows.{gives_cases, gives_append, silent_gives, silent_append}
use Rattle.sums.specs.Crc.{crc324_of}
use Rattle.header.specs.Header.{header_rows, flags_of}
use Rattle.hunk.specs.Hunk.{check_hunk, broken, break_of}
use Rattle.hunk.specs.Laws.Refusals.{BreaksAt, broken_breaks, breaks_broken}
use Rattle.tables.specs.Tables.{tables_in, tables_rows}
use Rattle.blocks.specs.Blocks.{frame_size, type_of, sum_said, payload_in, is_tables, is_hunk, Block}
use Rattle.blocks.specs.Judged.{is_encrypted, wrong_sum, wrong_metadata, wrong_tables, wrong_hunk, break_in, judge_rows}
use Rattle.blocks.specs.Images.{first_block, blocks_in, stop_of, is_cut, judge_all, any_tables, payload_of_tables}
use Rattle.blocks.specs.Laws.Images.{judge_append, next_blocks, reading}
use Rattle.load.specs.Load.{walk_rows, refusal_rows, loading_of}
use Rattle.load.specs.Laws.Refusals.{refused_exactly}
use Rattle.load.proofs.Theorems.Passes.{payload_stands}

-- the payload of a hunk for m words of RAM breaks at its byte k: at its first, where it is cut before any data block, or at the first byte of a data
-- block that is cut, reserved, or has a word outside, with whole ones before it whose words lie inside
abbrev pub BreaksPayload : List ℕ → ℕ → ℕ → Type 0
BreaksPayload s m k = ((length s < 3) × (k ≡ 0)) ⊎ BreaksAt s m k

-- a hunk of the image breaks at byte `at` of the file, and nothing before it is refused
pub record HunkBreaks (s : List ℕ) (m at : ℕ) : Type 0 where
  pub header : Silent (header_rows s)
  pub before : List (List ℕ)
  pub block : List ℕ
  pub after : List (List ℕ)
  pub all : blocks_in s ≡ before ++ (block ∷ after)
  pub quiet : Silent (judge_all m false first_block before)
  pub hunk : is_hunk block ≡ true
  pub sum : crc324_of (payload_in block) ≡ sum_said block
  pub byte : ℕ
  pub place : at ≡ first_block + length (flat before) + (frame_size + byte)
  pub breaks : BreaksPayload (payload_in block) m byte

-- ---- which rows say 9

header_other : {r : Refusal} (s : List ℕ) → Gives (header_rows s) r → r.number ≡ 9 → ⊥
unfolding header_rows
header_other s (here a) n = omega arith
header_other s (later a (here b)) n = omega arith
header_other s (later a (later b (here c))) n = omega arith
header_other s (later a (later b (later c (here d)))) n = omega arith
header_other s (later a (later b (later c (later _ g)))) n = elim g [ ]

tables_other : {r : Refusal} (flags flips : List ℕ) (m f : ℕ) → Gives (tables_rows flags flips m f) r → r.number ≡ 9 → ⊥
unfolding tables_rows
tables_other flags flips m f (here a) n = omega arith
tables_other flags flips m f (later a (here b)) n = omega arith
tables_other flags flips m f (later a (later b (here c))) n = omega arith
tables_other flags flips m f (later a (later b (later _ g))) n = elim g [ ]

end_other : {r : Refusal} (a b : Bool) (p q : ℕ) → Gives ((a, refuse 5 p) ∷ (b, refuse 8 q) ∷ []) r → r.number ≡ 9 → ⊥
end_other a b p q (here e) n = omega arith
end_other a b p q (later d (here e)) n = omega arith
end_other a b p q (later d (later _ g)) n = elim g [ ]

record NineIn (m p sum : ℕ) (x : List ℕ) (r : Refusal) : Type 0 where
  pub good_sum : wrong_sum sum x ≡ false
  pub wrong : wrong_hunk m x ≡ true
  pub is : r.place ≡ p + break_in m x

nine_row : {r : Refusal} (m : ℕ) (e : Bool) (p sum : ℕ) (x : List ℕ) → Gives (judge_rows m e p sum x) r → r.number ≡ 9 → NineIn m p sum x r
unfolding judge_rows
nine_row m e p sum x g n = at x g n
  where
    at : (x : List ℕ) {r : Refusal} → Gives (judge_rows m e p sum x) r → r.number ≡ 9 → NineIn m p sum x r
    at x (here a) n = absurd (omega arith)
    at x (later a (here b)) n = absurd (omega arith)
    at x (later a (later b (here c))) n = absurd (omega arith)
    at x (later a (later b (later w (here c)))) n = absurd (omega arith)
    at x (later a (later b (later w (later c (here d))))) n = record { good_sum = b; wrong = d; is = refl }
    at x (later a (later b (later w (later c (later _ g))))) n = elim g [ ]

-- ---- which block

record InBlock (m : ℕ) (e : Bool) (p : ℕ) (xs : List (List ℕ)) (r : Refusal) : Type 0 where
  pub before : List (List ℕ)
  pub block : List ℕ
  pub after : List (List ℕ)
  pub all : xs ≡ before ++ (block ∷ after)
  pub quiet : Silent (judge_all m e p before)
  pub gives : Gives (judge_rows m (e || any_tables before) (p + length (flat before)) (crc324_of (payload_in block)) block) r

in_block : {r : Refusal} (m : ℕ) (e : Bool) (p : ℕ) (xs : List (List ℕ)) → Gives (judge_all m e p xs) r → InBlock m e p xs r
unfolding judge_all any_tables joined
in_block m e p [] g = elim g [ ]
in_block {r} m e p (x ∷ xs) g = go (λ h. in_block m (e || is_tables x) (p + length x) xs h) (gives_cases (judge_rows m e p (crc324_of (payload_in x)) x) _ g)
  where
    go : (Gives (judge_all m (e || is_tables x) (p + length x) xs) r → InBlock m (e || is_tables x) (p + length x) xs r)
        → (Gives (judge_rows m e p (crc324_of (payload_in x)) x) r) ⊎ ((Silent (judge_rows m e p (crc324_of (payload_in x)) x)) × (Gives (judge_all m (e || is_tables x) (p + length x) xs) r)) → InBlock m e p (x ∷ xs) r
    go on (inl h) =
        let k : p + 0 ≡ p = omega arith in
        record { before = []; block = x; after = xs; all = refl; quiet = none; gives = rw (or_none, k) h }
    go on (inr h) =
        let i : InBlock m (e || is_tables x) (p + length x) xs r = on h.1 in
        let k : p + length (x ++ flat i.before) ≡ p + length x + length (flat i.before) = omega (arith, length-append x (flat i.before)) in
        let o : e || any_tables (x ∷ i.before) ≡ e || is_tables x || any_tables i.before = or_assoc e (is_tables x) (any_tables i.before) in
        record {
          before = x ∷ i.before;
          block = i.block;
          after = i.after;
          all = ap (◌∷◌ x) i.all;
          quiet = silent_append h.0 i.quiet;
          gives = rw (k, o) i.gives;
        }

-- ---- a hunk that breaks, by its check

broken_at : (s : List ℕ) (m : ℕ) → broken (check_hunk s m) ≡ true → check_hunk s m ≡ Err (break_of (check_hunk s m))
broken_at s m e = by (check_hunk s m) e
  where
    by : (c : Result ℕ ℕ) → broken c ≡ true → c ≡ Err (break_of c)
    by (Ok n) e = true_is_not_false e refl
    by (Err k) e = refl

-- ---- 9, exactly

module _ (s : List ℕ) (m f at : ℕ) where
  nine_breaks : Gives (refusal_rows s m f) (refuse 9 at) → HunkBreaks s m at
  unfolding walk_rows
  nine_breaks g = in_header (gives_cases (header_rows s) _ g)
    where
      by_block : Silent (header_rows s) → InBlock m false first_block (blocks_in s) (refuse 9 at) → HunkBreaks s m at
      by_block h i =
          let x : List ℕ = i.block in
          let n : NineIn m (first_block + length (flat i.before)) (crc324_of (payload_in x)) x (refuse 9 at) = nine_row m _ _ _ x i.gives refl in
          let k : is_hunk x ≡ true = and_left (is_hunk x) (broken (check_hunk (payload_in x) m)) n.wrong in
          let b : broken (check_hunk (payload_in x) m) ≡ true = and_right (is_hunk x) (broken (check_hunk (payload_in x) m)) n.wrong in
          record {
            header = h;
            before = i.before;
            block = x;
            after = i.after;
            all = i.all;
            quiet = i.quiet;
            hunk = k;
            sum = sum_right (is_tables x) (is_hunk x) (crc324_of (payload_in x)) (sum_said x) k n.good_sum;
            byte = break_of (check_hunk (payload_in x) m);
            place = n.is;
            breaks = broken_breaks (payload_in x) m _ (broken_at (payload_in x) m b);
          }
        where
          sum_right : (a b : Bool) (x y : ℕ) → b ≡ true → (a || b) && not (eqb x y) ≡ false → x ≡ y
          sum_right true true x y e f = eqb-true _ _ (not-false (eqb x y) f)
          sum_right false true x y e f = eqb-true _ _ (not-false (eqb x y) f)
          sum_right a false x y e f = true_is_not_false e refl

      in_walk : Silent (header_rows s) → (Gives (judge_all m false first_block (blocks_in s)) (refuse 9 at)) ⊎ ((Silent (judge_all m false first_block (blocks_in s))) × (Gives ((is_cut s, refuse 5 (stop_of s)) ∷ (not (any_tables (blocks_in s)), refuse 8 (length s)) ∷ []) (refuse 9 at))) → HunkBreaks s m at
      in_walk h (inl g) = by_block h (in_block m false first_block (blocks_in s) g)
      in_walk h (inr q) = absurd (end_other _ _ _ _ q.1 refl)

      in_rest : Silent (header_rows s) → (Gives (walk_rows s m) (refuse 9 at)) ⊎ ((Silent (walk_rows s m)) × (Gives (tables_rows (flags_of s) (tables_in (payload_of_tables (blocks_in s))).flips m f) (refuse 9 at))) → HunkBreaks s m at
      in_rest h (inl g) = in_walk h (gives_cases (judge_all m false first_block (blocks_in s)) _ g)
      in_rest h (inr q) = absurd (tables_other _ _ _ _ q.1 refl)

      in_header : (Gives (header_rows s) (refuse 9 at)) ⊎ ((Silent (header_rows s)) × (Gives (walk_rows s m ++ tables_rows (flags_of s) (tables_in (payload_of_tables (blocks_in s))).flips m f) (refuse 9 at))) → HunkBreaks s m at
      in_header (inl g) = absurd (header_other s g refl)
      in_header (inr q) = in_rest q.0 (gives_cases (walk_rows s m) _ q.1)

  breaks_nine : HunkBreaks s m at → Gives (refusal_rows s m f) (refuse 9 at)
  unfolding walk_rows judge_all judge_rows
  breaks_nine b =
      let x : List ℕ = b.block in
      let p : ℕ = first_block + length (flat b.before) in
      let t : type_of x ≡ 2 = eqb-true _ _ b.hunk in
      let c : check_hunk (payload_in x) m ≡ Err b.byte = breaks_broken (payload_in x) m b.byte b.breaks in
      let e₇ : is_encrypted x ≡ false = rw t in
      let e₆ : wrong_sum (crc324_of (payload_in x)) x ≡ false = rw (t, eq-eqb _ _ b.sum) in
      let e₁₂ : wrong_metadata (crc324_of (payload_in x)) x ≡ false = rw t in
      let e₈ : wrong_tables (any_tables b.before) x ≡ false = rw t in
      let e₉ : wrong_hunk m x ≡ true = rw (t, c) in
      let q : p + break_in m x ≡ at = rw c (sym b.place) in
      let g : Gives (judge_rows m (any_tables b.before) p (crc324_of (payload_in x)) x) (refuse 9 (p + break_in m x)) = later e₇ (later e₆ (later e₁₂ (later e₈ (here e₉)))) in
      let all : Gives (judge_all m false first_block (blocks_in s)) (refuse 9 (p + break_in m x)) =
      rw (b.all, judge_append m false first_block b.before (x ∷ b.after)) (silent_gives b.quiet (gives_append _ g)) in
      rw (← q) (silent_gives b.header (gives_append _ (gives_append _ all)))

  pub nine_exactly : ((loading_of s m f).refusal ≡ refuse 9 at) ↔ HunkBreaks s m at
  nine_exactly =
      let r = refused_exactly s m f (refuse 9 at) (λ z. omega arith) in
      ((λ e. nine_breaks (r.0 e)), (λ b. r.1 (breaks_nine b)))

-- ---- the file's bytes from that place on are the hunk's, from where it breaks

each_one : (xs ys : List (List ℕ)) (x : List ℕ) → Each Block (xs ++ (x ∷ ys)) → Block x
each_one [] ys x (and_block b bs) = b
each_one (y ∷ xs) ys x (and_block b bs) = each_one xs ys x bs

pub nine_bytes : (s : List ℕ) (m at : ℕ) (b : HunkBreaks s m at) (i : ℕ) → b.byte + i < length (payload_in b.block) → get_or s (at + i) 0 ≡ get_or (payload_in b.block) (b.byte + i) 0
nine_bytes s m at b i h =
    let x : List ℕ = b.block in
    let p : ℕ = first_block + length (flat b.before) in
    let r : List ℕ = drop (reading s).stop s in
    let all : drop first_block s ≡ flat (b.before ++ (x ∷ b.after)) ++ r = rw (← b.all) (reading s).stands in
    let one : Block x = each_one b.before b.after x (rw b.all at (reading s).each) in
    let from : drop first_block s ≡ flat b.before ++ (flat (x ∷ b.after) ++ r) =
    all ∙ ap (λ (y : List ℕ). y ++ r) (joined_append (λ y. y) b.before (x ∷ b.after)) ∙ append_assoc (flat b.before) (flat (x ∷ b.after)) r in
    let on : drop p s ≡ x ++ (flat b.after ++ r) = next_blocks s p x b.after r (stands_after s first_block (flat b.before) _ from p refl) in
    stands_in s (p + frame_size) (payload_in x) _ (payload_stands s p x _ on one) (b.byte + i) (at + i) (omega (arith, b.place)) h
