-- A payload as it is put in place: the address, a data block, the data blocks of all cuts.
use Prim.Native.Nat.{ℕ, ◌+◌, ◌*◌, ◌-◌, ◌≤◌, ◌<◌, ◌%◌, ◌^◌, min}
use mathlib.Core.List.{List, [], ◌∷◌, ◌++◌, append-nil, append_assoc}
use mathlib.Core.Path.{◌≡◌, refl, ◌∙◌, ap, ap₂, sym}
use native.Mathlib.Omega.{arith}
use lib.ListN.{length, set, take, drop, length-set, length-append, length-drop, length-take}
use lib.Seq.{drop-append_seam, take-append_seam}
use borrow.Rule.Slice.PartMut.{put_mid}
use mir.Syntax.{w64}
use mir.Val.{Fits}
use Rattle.basics.specs.Bytes.{le16, le24}
use Rattle.basics.specs.Lists.{joined, put_front}
use Rattle.basics.specs.Laws.Lists.{take_min, drop_min}
use Rattle.basics.specs.Laws.Wrote.{Wrote, wrote_set, wrote_none, wrote_all, wrote_part, wrote_long}
use Rattle.basics.specs.Laws.Puts.{put_short, put_wrote}
use Rattle.places.specs.declared.Locutus.{Locutus}
use Rattle.places.specs.Limits.{paragraph_size}
use Rattle.hunk.specs.declared.Form.{Form}
use Rattle.hunk.specs.Forms.{start_for, most_for, size_for, body_for, but_last, last_of, data_in}
use Rattle.hunk.specs.Smallest.{form_for, data_of}
use Rattle.hunk.specs.Cuts.{data_words, cuts_of}
use Rattle.hunk.specs.Hunk.{hunk, hunk_payload, payload_size}
use Rattle.hunk.specs.Laws.Cuts.{Piece, cuts_none, cuts_more}
use Rattle.hunk.specs.Laws.Sizes.{piece_smallest, length_data, length_payload, cuts_most, size_most}

-- a data block: its start byte, and what stands behind it
module _ (f : Form) (out ws : List ℕ) (l : length out ≡ length (data_in f ws)) where
  data_long : length out ≡ 1 + length (body_for f (but_last ws) ++ le16 (last_of ws))
  unfolding data_in
  data_long = omega (arith, l)

  pub data_some : 0 < length out
  data_some = omega (arith, data_long)

  module _ (v : ℕ) where
    pub data_begins : 1 ≤ length (set out 0 v)
    data_begins = rw length-set data_some

    module _ (k : ℕ) (ek : k ≡ length (set out 0 v) - 1) where
      pub data_behind : length (take k (drop 1 (set out 0 v))) ≡ length (body_for f (but_last ws)) + 2
      data_behind =
          length-take k (drop 1 (set out 0 v))
          ∙ omega (arith, data_long, length-drop 1 (set out 0 v), length-set out 0 v, length-append (body_for f (but_last ws)) (le16 (last_of ws)))

      module _ (ev : v ≡ start_for f (length ws)) (ys : List ℕ) (ey : ys ≡ body_for f (but_last ws) ++ le16 (last_of ws)) where
        pub data_written : put_mid 1 k (set out 0 v) ys ≡ data_in f ws
        unfolding data_in
        data_written =
            let x : List ℕ = start_for f (length ws) ∷ [] in
            let y : List ℕ = body_for f (but_last ws) ++ le16 (last_of ws) in
            let c : Wrote out (set out 0 v) x = wrote_set out out [] 0 v (start_for f (length ws)) (wrote_none out) refl data_some ev in
            wrote_all out _ (x ++ y)
            (wrote_part out (set out 0 v) x 1 k ys y c refl (omega (arith, data_long, length-set out 0 v)) (omega (arith, data_long, length-set out 0 v)) ey) (sym l)

-- the data blocks of the cuts of some words
abbrev blocks_of : List ℕ → List ℕ
blocks_of ws = joined data_of (cuts_of ws)

-- the next cut of the words r, behind which s is left
module _ (r s cut : List ℕ) (is : r ≡ cut ++ s) (en : length cut ≡ min data_words (length r)) (some : 0 < length r) where
  pub cut_some : 1 ≤ length cut
  cut_some = omega arith

  piece : Piece cut
  piece = record { some = omega arith; most = omega arith }

  cut_blocks : blocks_of r ≡ data_of cut ++ blocks_of s
  unfolding joined
  cut_blocks =
      let t : cut ≡ take data_words r = sym (take-append_seam cut s) ∙ ap (take (length cut)) (sym is) ∙ take_min (length cut) data_words r en in
      let d : s ≡ drop data_words r = sym (drop-append_seam cut s) ∙ ap (drop (length cut)) (sym is) ∙ drop_min (length cut) data_words r en in
      ap (joined data_of) (cuts_more r some) ∙ ap₂ ◌++◌ (ap data_of (sym t)) (ap blocks_of (sym d))

  -- its form, and its bytes
  module _ (f : Form) (ef : f ≡ form_for cut) where
    pub form_most : length cut ≤ most_for f
    form_most = rw ef (piece_smallest cut piece).carried.most

    cut_data : data_in f cut ≡ data_of cut
    unfolding data_of
    cut_data = rw ef

    cut_sized : (k : ℕ) → k ≡ size_for f (length cut) → k ≡ length (data_of cut)
    cut_sized k ek = ek ∙ ap (λ (g : Form). size_for g (length cut)) ef ∙ sym (length_data cut piece)

-- no words are left
blocks_none : (r : List ℕ) → length r ≡ 0 → blocks_of r ≡ []
unfolding joined
blocks_none r h = ap (joined data_of) (cuts_none r h)

-- the bytes of the data blocks of the words before r are counted
pub record Sizing (ws r : List ℕ) (long : ℕ) : Type 0 where
  pub rest : long + length (blocks_of r) ≡ length (blocks_of ws)

pub sizing_all : (ws r : List ℕ) (long : ℕ) → Sizing ws r long → length r ≡ 0 → long ≡ length (blocks_of ws)
sizing_all ws r long c h = omega (arith, ap length (blocks_none r h), c.rest)

module _ (ws r : List ℕ) (long : ℕ) (c : Sizing ws r long) (s cut : List ℕ) (is : r ≡ cut ++ s) (en : length cut ≡ min data_words (length r)) (some : 0 < length r)
    (f : Form) (ef : f ≡ form_for cut) (k : ℕ) (ek : k ≡ size_for f (length cut)) where
  counted : long + k + length (blocks_of s) ≡ length (blocks_of ws)
  counted =
      omega (
        arith,
        c.rest,
        cut_sized r s cut is en some f ef k ek,
        ap length (cut_blocks r s cut is en some),
        length-append (data_of cut) (blocks_of s),
      )

  pub sizing_fits : length ws ≤ paragraph_size → Fits w64 (long + k)
  sizing_fits l = omega (arith, counted, cuts_most ws)

  pub sizing_more : Sizing ws s (long + k)
  sizing_more = record { rest = counted }

-- the data blocks of the words before r are written
pub record Writing (ws r out₀ out : List ℕ) (p : ℕ) : Type 0 where
  pub long : length out₀ ≡ length (blocks_of ws)
  pub x : List ℕ
  pub wrote : Wrote out₀ out x
  pub place : p ≡ length x
  pub rest : x ++ blocks_of r ≡ blocks_of ws

module _ (ws r out₀ out : List ℕ) (p : ℕ) (c : Writing ws r out₀ out p) where
  writing_long : length out ≡ length out₀
  writing_long = wrote_long out₀ out c.x c.wrote

  pub writing_all : length r ≡ 0 → out ≡ blocks_of ws
  writing_all h =
      let f : c.x ≡ blocks_of ws = sym (append-nil c.x) ∙ ap (◌++◌ c.x) (sym (blocks_none r h)) ∙ c.rest in
      wrote_all out₀ out c.x c.wrote (ap length f ∙ sym c.long) ∙ f

  module _ (s cut : List ℕ) (is : r ≡ cut ++ s) (en : length cut ≡ min data_words (length r)) (some : 0 < length r)
      (f : Form) (ef : f ≡ form_for cut) (k : ℕ) (ek : k ≡ size_for f (length cut)) where
    next_sized : k ≡ length (data_of cut)
    next_sized = cut_sized r s cut is en some f ef k ek

    next_room : p + k ≤ length out
    next_room =
        let l : length c.x + length (blocks_of r) ≡ length (blocks_of ws) = sym (length-append c.x (blocks_of r)) ∙ ap length c.rest in
        omega (
          arith,
          writing_long,
          c.long,
          c.place,
          next_sized,
          ap length (cut_blocks r s cut is en some),
          length-append (data_of cut) (blocks_of s),
        )

    pub writing_room : p + k ≤ length out
    writing_room = next_room

    -- the part that the next data block is lent
    pub writing_part : length (take (p + k - p) (drop p out)) ≡ length (data_in f cut)
    writing_part =
        length-take (p + k - p) (drop p out)
        ∙ omega (arith, next_room, next_sized, length-drop p out, ap length (cut_data r s cut is en some f ef))

    pub writing_more : (ys : List ℕ) → ys ≡ data_in f cut → Writing ws s out₀ (put_mid p (p + k - p) out ys) (p + k)
    writing_more ys ey =
        let y : List ℕ = data_of cut in
        record {
          long = c.long;
          x = c.x ++ y;
          wrote = wrote_part out₀ out c.x p (p + k - p) ys y c.wrote c.place (omega (arith, next_sized)) (omega (arith, next_room, writing_long)) (ey ∙ cut_data r s cut is en some f ef);
          place = omega (arith, length-append c.x y, c.place, next_sized);
          rest = append_assoc c.x y (blocks_of s) ∙ ap (◌++◌ c.x) (sym (cut_blocks r s cut is en some)) ∙ c.rest;
        }

-- a whole payload
pub payload_sized : (n : ℕ) (ws : List ℕ) → n ≡ length (blocks_of ws) → 3 + n ≡ payload_size ws
unfolding payload_size
payload_sized n ws e = ap (◌+◌ 3) e

module _ (n : ℕ) (ws : List ℕ) (e : n ≡ length (blocks_of ws)) (l : length ws ≡ paragraph_size) where
  pub payload_most : 3 + n ≤ 3 + 3 * paragraph_size
  payload_most = omega (arith, payload_sized n ws e, size_most ws)

  pub payload_fits : Fits w64 (3 + n)
  payload_fits = omega (arith, payload_most)

module _ (out ws : List ℕ) (at : Locutus) (n : ℕ) (en : n ≡ payload_size ws) where
  pub write_short : length out < n → out ≡ put_front (hunk_payload (hunk at ws)) out
  write_short h = put_short (hunk_payload (hunk at ws)) out (omega (arith, length_payload (hunk at ws)))

  pub write_three : 3 ≤ n
  unfolding payload_size
  write_three = omega (arith, en)

  module _ (h : n ≤ length out) where
    pub write_front : 3 ≤ length out
    write_front = omega (arith, write_three)

    module _ (ys : List ℕ) (ey : ys ≡ le24 (at.0 % 2 ^ 24)) where
      front : Wrote out (put_mid 0 3 out ys) (le24 (at.0 % 2 ^ 24))
      front = wrote_part out out [] 0 3 ys (le24 (at.0 % 2 ^ 24)) (wrote_none out) refl refl write_front ey

      behind : n - 3 ≡ length (blocks_of ws)
      unfolding payload_size
      behind = omega (arith, en)

      pub write_room : length (take (n - 3) (drop 3 (put_mid 0 3 out ys))) ≡ length (blocks_of ws)
      write_room =
          length-take (n - 3) (drop 3 (put_mid 0 3 out ys))
          ∙ omega (arith, behind, length-drop 3 (put_mid 0 3 out ys), wrote_long out (put_mid 0 3 out ys) (le24 (at.0 % 2 ^ 24)) front)

      pub write_all : (zs : List ℕ) → zs ≡ blocks_of ws → put_mid 3 (n - 3) (put_mid 0 3 out ys) zs ≡ put_front (hunk_payload (hunk at ws)) out
      unfolding hunk_payload
      write_all zs ez =
          put_wrote out (put_mid 3 (n - 3) (put_mid 0 3 out ys) zs) (hunk_payload (hunk at ws))
          (wrote_part out (put_mid 0 3 out ys) (le24 (at.0 % 2 ^ 24)) 3 (n - 3) zs (blocks_of ws) front refl behind (omega (arith, write_three)) ez)
