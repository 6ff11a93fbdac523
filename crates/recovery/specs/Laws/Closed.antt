-- A header of 32 bytes, whatever stands behind it; and that header, blocks, and the end that closes them: read back, within the limit.
use Rattle.std.specs.Prelude.{ℕ, ◌+◌, ◌<◌, ◌≤◌, ◌≡◌, List, ◌++◌, true, false, get_or, take, drop, ltb}
use Rattle.std.proofs.Math.Path.{refl}
use Rattle.std.proofs.Common.{sym, ap, ◌∙◌, arith, le-ltb, ltb-true, length-drop, take_at}
use Rattle.std.proofs.Math.ListN.{length, get_or-append}
use Rattle.std.proofs.lemmas.List.{take-append-le, drop-append-le}
use Rattle.basics.specs.Counts.{any}
use Rattle.basics.specs.Lists.{part, flat, Each}
use Rattle.basics.specs.Rows.{Silent, none, also}
use Rattle.basics.specs.Laws.Tests.{cases}
use Rattle.places.specs.Limits.{image_limit}
use Rattle.header.specs.Header.{header_size, flags_of, wrong_length, wrong_magic, wrong_version, wrong_header_sum, header_rows}
use Rattle.blocks.specs.Blocks.{Block}
use Rattle.blocks.specs.Frames.{ends_at}
use Rattle.blocks.specs.Images.{image_of, blocks_in, is_cut}
use Rattle.blocks.specs.Laws.Images.{blocks_back, image_ends, length_image}
use Rattle.recovery.specs.Salvage.{closing, closed}

-- ---- a header h, y behind it

module _ (h y : List ℕ) (l : length h ≡ 32) where
  byte : (i : ℕ) → i < 32 → get_or (h ++ y) i 0 ≡ get_or h i 0
  byte i k = get_or-append h y 0 i (omega arith)

  magic_is : wrong_magic (h ++ y) ≡ wrong_magic h
  unfolding any
  magic_is = rw (byte 0 (omega arith), byte 1 (omega arith), byte 2 (omega arith))

  version_is : wrong_version (h ++ y) ≡ wrong_version h
  version_is = rw (byte 3 (omega arith))

  sum_is : wrong_header_sum (h ++ y) ≡ wrong_header_sum h
  sum_is =
      let front : part (h ++ y) 0 31 ≡ part h 0 31 = take-append-le 31 h y (omega arith) in
      rw (front, byte 31 (omega arith))

  pub flags_are : flags_of (h ++ y) ≡ flags_of h
  flags_are = ap (take 16) (drop-append-le 4 h y (omega arith)) ∙ take-append-le 16 (drop 4 h) y (omega (arith, length-drop 4 h))

-- a header that is good is good with anything else behind it, but for the length
pub header_other : (h y z : List ℕ) → length h ≡ 32 → Silent (header_rows (h ++ y)) → wrong_length (h ++ z) ≡ false → Silent (header_rows (h ++ z))
unfolding header_rows
header_other h y z l (also a (also b (also c (also d none)))) e =
    also e
    (also (magic_is h z l ∙ sym (magic_is h y l) ∙ b)
    (also (version_is h z l ∙ sym (version_is h y l) ∙ c)
    (also (sum_is h z l ∙ sym (sum_is h y l) ∙ d) none)))

-- ---- the end that closes so many bytes: an end, and within the limit

closing_ends : (n : ℕ) → ends_at (closing n) 0 ≡ true
closing_ends n = cases (ltb n image_limit) (λ e. rw e) (λ e. rw e)

pub closing_one : (n : ℕ) → length (closing n) ≤ 1
closing_one n = cases (ltb n image_limit) (λ e. rw e (omega arith)) (λ e. rw e (omega arith))

closing_short : (n : ℕ) → n ≤ image_limit → n + length (closing n) ≤ image_limit
closing_short n h = cases (ltb n image_limit) (λ e. rw e (omega (arith, ltb-true n image_limit e))) (λ e. rw e (omega arith))

module _ (h : List ℕ) (xs : List (List ℕ)) (l : length h ≡ 32) where
  abbrev end : List ℕ
  end = closing (32 + length (flat xs))

  pub closed_is : closed h xs ≡ h ++ (flat xs ++ end)
  unfolding closed image_of
  closed_is = refl

  pub length_closed : length (closed h xs) ≡ 32 + length (flat xs) + length end
  unfolding closed
  length_closed = length_image h xs end l

  pub closed_header : take header_size (closed h xs) ≡ h
  closed_header = ap (take header_size) closed_is ∙ take_at h (flat xs ++ end) 32 l

  pub closed_length : 32 + length (flat xs) ≤ image_limit → wrong_length (closed h xs) ≡ false
  closed_length k =
      let a : 32 ≤ length (closed h xs) = omega (arith, length_closed) in
      let b : length (closed h xs) ≤ image_limit = omega (arith, length_closed, closing_short (32 + length (flat xs)) k) in
      rw (le-ltb _ _ a, le-ltb _ _ b)

  module _ (each : Each Block xs) where
    pub closed_blocks : blocks_in (closed h xs) ≡ xs
    unfolding closed
    closed_blocks = blocks_back h xs end l each (closing_ends (32 + length (flat xs)))

    pub closed_whole : is_cut (closed h xs) ≡ false
    unfolding closed
    closed_whole = image_ends h xs end l each (closing_ends (32 + length (flat xs)))
