-- The loops over the marks: the sum of the blocks' sizes, and the blocks written one after the other.
use Prim.Native.Nat.{ℕ, ◌+◌, ◌*◌, ◌-◌, ◌≤◌, ◌<◌}
use mathlib.Core.List.{List, [], ◌∷◌, ◌++◌}
use mathlib.Core.Path.{◌≡◌, refl, sym, ap, ◌∙◌}
use mathlib.Core.Bool.{Bool, true, false}
use native.Mathlib.Omega.{arith}
use lib.ListN.{length, get_or, set, length-append, length-set}
use borrow.Rule.Slice.PartMut.{put_mid}
use Rattle.basics.specs.Listed.{listed}
use Rattle.basics.specs.Lists.{joined}
use Rattle.basics.specs.Laws.Wrote.{Wrote, wrote_none, wrote_long, wrote_all, wrote_set, wrote_part}
use Rattle.places.specs.Places.{locutus}
use Rattle.places.specs.Limits.{locutus_paragraphs, paragraph_size}
use Rattle.hunk.specs.Hunk.{hunk, payload_size}
use Rattle.blocks.specs.Blocks.{frame_size, end_mark}
use Rattle.save.specs.Chosen.{chosen, hunk_block}
use Rattle.save.specs.Writing.{is_marked, paragraph_of}
use Rattle.save.specs.Code.Writing.{block_limit, hunk_bytes}
use Rattle.save.specs.Laws.Chosen.{bytes_on, bytes_off, bytes_up, length_hunk_block}

-- the blocks of the marked paragraphs below p
abbrev up_to : List ℕ → List Bool → ℕ → List ℕ
up_to ram marks p = joined hunk_block (chosen p (is_marked marks) (paragraph_of ram))

-- one paragraph more
module _ (ram : List ℕ) (marks : List Bool) (p : ℕ) where
  up_off : get_or marks p false ≡ false → up_to ram marks (p + 1) ≡ up_to ram marks p
  unfolding is_marked
  up_off e = bytes_off (is_marked marks) (paragraph_of ram) p e

  module _ (on : get_or marks p false ≡ true) (words : List ℕ) (ew : words ≡ paragraph_of ram p) where
    abbrev block : List ℕ
    block = hunk_block (hunk (locutus (paragraph_size * p)) words)

    up_on : up_to ram marks (p + 1) ≡ up_to ram marks p ++ block
    unfolding is_marked
    up_on = rw ew (bytes_on (is_marked marks) (paragraph_of ram) p on)

    length_on : length (up_to ram marks (p + 1)) ≡ length (up_to ram marks p) + (frame_size + payload_size words)
    length_on = ap length up_on ∙ length-append (up_to ram marks p) block ∙ ap (◌+◌ (length (up_to ram marks p))) (length_hunk_block (hunk (locutus (paragraph_size * p)) words))

-- long is the number of bytes of these blocks
pub record Summing (ram : List ℕ) (marks : List Bool) (long p : ℕ) : Type 0 where
  pub up : p ≤ locutus_paragraphs
  pub few : long ≤ block_limit * p
  pub is : long ≡ length (up_to ram marks p)

pub sum_none : (ram : List ℕ) (marks : List Bool) → Summing ram marks 0 0
unfolding listed joined
sum_none ram marks = record { up = omega arith; few = omega arith; is = refl }

module _ (ram : List ℕ) (marks : List Bool) (long p : ℕ) (c : Summing ram marks long p) where
  pub sum_off : p < locutus_paragraphs → get_or marks p false ≡ false → (long' : ℕ) → long' ≡ long → Summing ram marks long' (p + 1)
  sum_off h e long' el =
      record { up = omega arith; few = omega (arith, c.few); is = el ∙ c.is ∙ ap length (sym (up_off ram marks p e)) }

  pub sum_on : p < locutus_paragraphs → get_or marks p false ≡ true → (words : List ℕ) → words ≡ paragraph_of ram p → (n : ℕ) → n ≡ frame_size + payload_size words
      → n ≤ block_limit → (long' : ℕ) → long' ≡ long + n → Summing ram marks long' (p + 1)
  sum_on h e words ew n en m long' el =
      record { up = omega arith; few = omega (arith, c.few); is = omega (arith, c.is, length_on ram marks p e words ew) }

  pub sum_end : locutus_paragraphs ≤ p → long ≡ length (hunk_bytes ram marks)
  sum_end h = let e : p ≡ locutus_paragraphs = omega (arith, c.up) in c.is ∙ ap (λ (n : ℕ). length (up_to ram marks n)) e

  pub sum_few : long ≤ block_limit * locutus_paragraphs
  sum_few = omega (arith, c.few, c.up)

-- these blocks are written, and at is the place behind them
pub record Marking (ram : List ℕ) (marks : List Bool) (out₀ out : List ℕ) (at p : ℕ) : Type 0 where
  pub up : p ≤ locutus_paragraphs
  pub fits : length out₀ ≡ length (hunk_bytes ram marks) + 1
  pub wrote : Wrote out₀ out (up_to ram marks p)
  pub place : at ≡ length (up_to ram marks p)

pub mark_none : (ram : List ℕ) (marks : List Bool) (out : List ℕ) → length out ≡ length (hunk_bytes ram marks) + 1 → Marking ram marks out out 0 0
unfolding listed joined
mark_none ram marks out l = record { up = omega arith; fits = l; wrote = wrote_none out; place = refl }

module _ (ram : List ℕ) (marks : List Bool) (out₀ out : List ℕ) (at p : ℕ) (c : Marking ram marks out₀ out at p) where
  pub mark_long : length out ≡ length out₀
  mark_long = wrote_long out₀ out (up_to ram marks p) c.wrote

  -- all of them, and the end
  module _ (h : locutus_paragraphs ≤ p) where
    all_up : p ≡ locutus_paragraphs
    all_up = omega (arith, c.up)

    all_placed : at ≡ length (hunk_bytes ram marks)
    all_placed = c.place ∙ ap (λ (n : ℕ). length (up_to ram marks n)) all_up

    pub mark_last : at < length out
    mark_last = omega (arith, all_placed, mark_long, c.fits)

    pub mark_end : set out at end_mark ≡ hunk_bytes ram marks ++ (end_mark ∷ [])
    mark_end =
        let l : length (up_to ram marks p ++ (end_mark ∷ [])) ≡ length out₀ =
        length-append (up_to ram marks p) (end_mark ∷ []) ∙ omega (arith, all_placed, c.place, c.fits) in
        wrote_all out₀ _ (up_to ram marks p ++ (end_mark ∷ []))
        (wrote_set out₀ out (up_to ram marks p) at end_mark end_mark c.wrote c.place (omega (arith, mark_last, mark_long)) refl) l
        ∙ ap (λ (n : ℕ). up_to ram marks n ++ (end_mark ∷ [])) all_up

    pub mark_same : length (set out at end_mark) ≡ length out₀
    mark_same = length-set out at end_mark ∙ mark_long

  module _ (h : p < locutus_paragraphs) where
    pub mark_off : get_or marks p false ≡ false → (out' : List ℕ) (at' : ℕ) → out' ≡ out → at' ≡ at → Marking ram marks out₀ out' at' (p + 1)
    mark_off e out' at' eo ea =
        let s : up_to ram marks (p + 1) ≡ up_to ram marks p = up_off ram marks p e in
        rw (eo, ea) (record { up = omega arith; fits = c.fits; wrote = rw s c.wrote; place = rw s c.place })

    module _ (e : get_or marks p false ≡ true) (words : List ℕ) (ew : words ≡ paragraph_of ram p) (n : ℕ) (en : n ≡ frame_size + payload_size words) where
      pub mark_room : at + n ≤ length out
      mark_room =
          omega (
            arith,
            length_on ram marks p e words ew,
            bytes_up (is_marked marks) (paragraph_of ram) (p + 1) locutus_paragraphs (omega arith),
            mark_long,
            c.place,
            c.fits,
          )

      pub mark_on : (ys : List ℕ) → ys ≡ hunk_block (hunk (locutus (paragraph_size * p)) words) → (out' : List ℕ) (at' : ℕ)
          → out' ≡ put_mid at (at + n - at) out ys → at' ≡ at + n → Marking ram marks out₀ out' at' (p + 1)
      mark_on ys ey out' at' eo ea =
          let x : List ℕ = up_to ram marks p in
          let y : List ℕ = hunk_block (hunk (locutus (paragraph_size * p)) words) in
          let l : length y ≡ frame_size + payload_size words = length_hunk_block (hunk (locutus (paragraph_size * p)) words) in
          rw (eo, ea)
          (record {
            up = omega arith;
            fits = c.fits;
            wrote =
                rw (up_on ram marks p e words ew)
                (wrote_part out₀ out x at (at + n - at) ys y c.wrote c.place (omega arith) (omega (arith, mark_room, mark_long)) ey);
            place = omega (arith, c.place, length_on ram marks p e words ew);
          })
