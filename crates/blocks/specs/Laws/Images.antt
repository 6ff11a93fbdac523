-- Images: blocks and an end are read back as they are, any bytes are blocks and a rest, and what one block more comes to.
use Rattle.std.specs.Prelude.{ℕ, zero, suc, ◌+◌, ◌≤◌, ◌≡◌, refl, List, [], ◌∷◌, ◌++◌, Bool, true, false, cond, not, ◌||◌, length, drop}
use Rattle.std.proofs.Common.{sym, ap, ap₂, ◌∙◌, append_assoc, append-nil, arith}
use Rattle.std.proofs.Math.ListN.{length-append}
use Rattle.std.proofs.Math.Seq.{drop_at}
use Rattle.basics.specs.Lists.{part, lay, joined, flat, Each, none as no_blocks, also as and_block}
use Rattle.basics.specs.Laws.Each.{joined_more}
use Rattle.basics.specs.Laws.Lists.{length_part}
use Rattle.basics.specs.Laws.Tests.{cases, or_assoc, or_none}
use Rattle.basics.specs.Laws.Stands.{stands_part, stands_after}
use Rattle.sums.specs.Crc.{crc324_of}
use Rattle.hunk.specs.Hunk.{Hunk, hunk_of}
use Rattle.blocks.specs.declared.Frame.{Frame}
use Rattle.blocks.specs.declared.Frame.TheVariants.{Over, Cut, Framed}
use Rattle.blocks.specs.Blocks.{payload_in, is_tables, is_hunk, Block}
use Rattle.blocks.specs.Frames.{ends_at, frame_at, on_frame}
use Rattle.blocks.specs.Judged.{judge_rows}
use Rattle.blocks.specs.Images.{image_of, blocks_from, blocks_in, stop_of, is_cut, judge_all, any_tables, hunks_in, overlay, word_count}
use Rattle.blocks.specs.Laws.Frames.{FrameIs, frame_held, over_ends, end_frame, cut_goes, ends_is, block_fits, frame_is, rest_is, framed_block, framed_stands}

-- what stands behind the first block
pub next_blocks : (s : List ℕ) (p : ℕ) (x : List ℕ) (xs : List (List ℕ)) (r : List ℕ) → drop p s ≡ flat (x ∷ xs) ++ r → drop p s ≡ x ++ (flat xs ++ r)
unfolding joined
next_blocks s p x xs r st = st ∙ append_assoc x (flat xs) r

-- blocks and an end are read as they are
read_is :
    (xs : List (List ℕ)) (f : ℕ) (s : List ℕ) (p : ℕ) (r : List ℕ) → Each Block xs → length s ≤ p + f → drop p s ≡ flat xs ++ r → ends_at r 0 ≡ true
    → blocks_from f s p ≡ xs
unfolding blocks_from joined
read_is [] zero s p r no_blocks h st e = refl
read_is [] (suc f) s p r no_blocks h st e = rw (end_frame s p (ends_is s p r st ∙ e))
read_is (x ∷ xs) zero s p r (and_block b bs) h st e =
    absurd (omega (arith, block_fits s p x (flat xs ++ r) (next_blocks s p x xs r st) b, b.long))
read_is (x ∷ xs) (suc f) s p r (and_block b bs) h st e =
    let on : drop p s ≡ x ++ (flat xs ++ r) = next_blocks s p x xs r st in
    let rest : drop (p + length x) s ≡ flat xs ++ r = rest_is s p x (flat xs ++ r) on b in
    rw (frame_is s p x (flat xs ++ r) on b)
    (ap₂ ◌∷◌ (stands_part s p x (flat xs ++ r) on (p + length x) refl) (read_is xs f s (p + length x) r bs (omega (arith, b.long)) rest e))

module _ (h : List ℕ) (xs : List (List ℕ)) (r : List ℕ) (l : length h ≡ 32) where
  stands : drop 32 (image_of h xs r) ≡ flat xs ++ r
  unfolding image_of
  stands = drop_at h (flat xs ++ r) 32 l

  pub length_image : length (image_of h xs r) ≡ 32 + length (flat xs) + length r
  unfolding image_of
  length_image = simp length-append (omega arith)

  module _ (each : Each Block xs) (e : ends_at r 0 ≡ true) where
    pub blocks_back : blocks_in (image_of h xs r) ≡ xs
    unfolding blocks_in
    blocks_back = read_is xs (length (image_of h xs r)) (image_of h xs r) 32 r each (omega arith) stands e

    pub image_ends : is_cut (image_of h xs r) ≡ false
    image_ends =
        let s : List ℕ = image_of h xs r in
        ap not
        (ap (λ (q : List (List ℕ)). ends_at s (32 + length (flat q))) blocks_back
        ∙ ends_is s (32 + length (flat xs)) r (stands_after s 32 (flat xs) r stands (32 + length (flat xs)) refl) ∙ e)

-- any bytes are blocks and a rest, at which they end or are cut
pub record Read (s : List ℕ) (p : ℕ) (xs : List (List ℕ)) : Type 0 where
  pub each : Each Block xs
  pub stop : ℕ
  pub stop_is : stop ≡ p + length (flat xs)
  pub stands : drop p s ≡ flat xs ++ drop stop s

read_next : (s : List ℕ) (p q : ℕ) (x : List ℕ) (xs : List (List ℕ)) → Block x → drop p s ≡ x ++ drop q s → p + length x ≡ q → Read s q xs → Read s p (x ∷ xs)
unfolding joined
read_next s p q x xs b st e i =
    record {
      each = and_block b i.each;
      stop = i.stop;
      stop_is = omega (arith, length-append x (flat xs), i.stop_is);
      stands = st ∙ ap (◌++◌ x) i.stands ∙ sym (append_assoc x (flat xs) (drop i.stop s));
    }

read_end : (s : List ℕ) (p : ℕ) → Read s p []
unfolding joined
read_end s p = record { each = no_blocks; stop = p; stop_is = omega arith; stands = refl }

read_turn : (f : ℕ) (s : List ℕ) (p : ℕ) → ((q : ℕ) → Read s q (blocks_from f s q)) → (x : Frame) → frame_at s p ≡ x → Read s p (on_frame x [] [] (λ t q. part s p q ∷ blocks_from f s q))
read_turn f s p on Over e = read_end s p
read_turn f s p on Cut e = read_end s p
read_turn f s p on (Framed t q) e =
    let i : FrameIs s p t q = frame_held s p t q e in
    let l : p + length (part s p q) ≡ q = omega (arith, length_part s p q i.ends, i.starts) in
    read_next s p q (part s p q) (blocks_from f s q) (framed_block s p t q e) (framed_stands s p q (omega (arith, i.starts))) l (on q)

pub read : (f : ℕ) (s : List ℕ) (p : ℕ) → Read s p (blocks_from f s p)
unfolding blocks_from
read zero s p = read_end s p
read (suc f) s p = read_turn f s p (λ q. read f s q) (frame_at s p) refl

pub reading : (s : List ℕ) → Read s 32 (blocks_in s)
unfolding blocks_in
reading s = read (length s) s 32

-- ---- a place on the walk, with these blocks before it: one invariant for every pass

pub record At (s : List ℕ) (p : ℕ) (before : List (List ℕ)) : Type 0 where
  pub fuel : ℕ
  pub enough : length s ≤ p + fuel
  pub place : p ≡ 32 + length (flat before)
  pub all : blocks_in s ≡ before ++ blocks_from fuel s p

pub at_start : (s : List ℕ) → At s 32 []
unfolding blocks_in joined
at_start s = record { fuel = length s; enough = omega arith; place = refl; all = refl }

-- a block here: the next place, with this block before it
pub record Next (s : List ℕ) (p q : ℕ) (before : List (List ℕ)) : Type 0 where
  pub block : Block (part s p q)
  pub later : p + 8 ≤ q
  pub inside : q ≤ length s
  pub at : At s q (before ++ (part s p q ∷ []))
  pub rest : List (List ℕ)
  pub all : blocks_in s ≡ before ++ (part s p q ∷ rest)

read_framed : (f : ℕ) (s : List ℕ) (p t q : ℕ) → length s ≤ p + f → frame_at s p ≡ Framed t q → (g : ℕ) × (length s ≤ q + g) × (blocks_from f s p ≡ part s p q ∷ blocks_from g s q)
unfolding blocks_from
read_framed zero s p t q h e = let i : FrameIs s p t q = frame_held s p t q e in absurd (omega (arith, i.starts, i.ends))
read_framed (suc f) s p t q h e = let i : FrameIs s p t q = frame_held s p t q e in (f, omega (arith, i.starts), rw e)

pub at_next : (s : List ℕ) (p : ℕ) (before : List (List ℕ)) (t q : ℕ) → At s p before → frame_at s p ≡ Framed t q → Next s p q before
at_next s p before t q c e =
    let i : FrameIs s p t q = frame_held s p t q e in
    let g = read_framed c.fuel s p t q c.enough e in
    let x : List ℕ = part s p q in
    let all : blocks_in s ≡ before ++ (x ∷ blocks_from g.0 s q) = c.all ∙ ap (◌++◌ before) g.2 in
    let l : length (flat (before ++ (x ∷ []))) ≡ length (flat before) + length x = ap length (joined_more (λ y. y) before x) ∙ length-append (flat before) x in
    record {
      block = framed_block s p t q e;
      later = i.starts;
      inside = i.ends;
      at =
          record {
            fuel = g.0;
            enough = g.1;
            place = omega (arith, length_part s p q i.ends, c.place, i.starts);
            all = all ∙ sym (append_assoc before (x ∷ []) (blocks_from g.0 s q));
          };
      rest = blocks_from g.0 s q;
      all = all;
    }

-- the end here, or a block that is cut: these blocks were all
read_over : (f : ℕ) (s : List ℕ) (p : ℕ) → frame_at s p ≡ Over → blocks_from f s p ≡ []
unfolding blocks_from
read_over zero s p e = refl
read_over (suc f) s p e = rw e

read_cut : (f : ℕ) (s : List ℕ) (p : ℕ) → frame_at s p ≡ Cut → blocks_from f s p ≡ []
unfolding blocks_from
read_cut zero s p e = refl
read_cut (suc f) s p e = rw e

pub record Stops (s : List ℕ) (p : ℕ) (before : List (List ℕ)) (cut : Bool) : Type 0 where
  pub all : blocks_in s ≡ before
  pub place : stop_of s ≡ p
  pub how : is_cut s ≡ cut

module _ (s : List ℕ) (p : ℕ) (before : List (List ℕ)) (c : At s p before) where
  stops : (b : Bool) → blocks_from c.fuel s p ≡ [] → ends_at s p ≡ b → Stops s p before (not b)
  stops b e h =
      let all : blocks_in s ≡ before = c.all ∙ ap (◌++◌ before) e ∙ append-nil before in
      let at : stop_of s ≡ p = ap (λ (xs : List (List ℕ)). 32 + length (flat xs)) all ∙ sym c.place in
      record { all = all; place = at; how = ap not (ap (ends_at s) at ∙ h) }

  pub at_over : frame_at s p ≡ Over → Stops s p before false
  at_over e = stops true (read_over c.fuel s p e) (over_ends s p e)

  pub at_cut : frame_at s p ≡ Cut → Stops s p before true
  at_cut e = stops false (read_cut c.fuel s p e) (cut_goes s p e)

-- ---- one block more

pub judge_append : (m : ℕ) (e : Bool) (p : ℕ) (xs ys : List (List ℕ)) → judge_all m e p (xs ++ ys) ≡ judge_all m e p xs ++ judge_all m (e || any_tables xs) (p + length (flat xs)) ys
unfolding judge_all any_tables joined
judge_append m e p [] ys =
    let k : p + 0 ≡ p = omega arith in
    rw (or_none, k)
judge_append m e p (x ∷ xs) ys =
    let k : p + length (x ++ flat xs) ≡ p + length x + length (flat xs) = omega (arith, length-append x (flat xs)) in
    let rows = judge_rows m e p (crc324_of (payload_in x)) x in
    ap (◌++◌ rows) (judge_append m (e || is_tables x) (p + length x) xs ys)
    ∙ sym (append_assoc rows (judge_all m (e || is_tables x) (p + length x) xs) _) ∙ rw (k, or_assoc)

pub any_tables_more : (xs : List (List ℕ)) (x : List ℕ) → any_tables (xs ++ (x ∷ [])) ≡ any_tables xs || is_tables x
unfolding any_tables
any_tables_more [] x = or_none (is_tables x)
any_tables_more (y ∷ xs) x = ap (◌||◌ (is_tables y)) (any_tables_more xs x) ∙ or_assoc (is_tables y) (any_tables xs) (is_tables x)

pub hunks_more : (xs : List (List ℕ)) (x : List ℕ) → hunks_in (xs ++ (x ∷ [])) ≡ hunks_in xs ++ cond (is_hunk x) (hunk_of (payload_in x) ∷ []) []
unfolding hunks_in
hunks_more [] x = refl
hunks_more (y ∷ xs) x =
    cases (is_hunk y) (λ e. rw e (ap (◌∷◌ (hunk_of (payload_in y))) (hunks_more xs x))) (λ e. rw e (hunks_more xs x))

pub overlay_more : (hs ks : List Hunk) (ram : List ℕ) → overlay (hs ++ ks) ram ≡ overlay ks (overlay hs ram)
unfolding overlay
overlay_more [] ks ram = refl
overlay_more (h ∷ hs) ks ram = overlay_more hs ks (lay h.address.0 h.words ram)

pub words_more : (hs ks : List Hunk) → word_count (hs ++ ks) ≡ word_count hs + word_count ks
unfolding word_count
words_more [] ks = omega arith
words_more (h ∷ hs) ks = omega (arith, words_more hs ks)
