-- A header's length; and written, then read back: its flags and its UID, and no refusal but by the length of the image.
use Rattle.std.specs.Prelude.{ℕ, ◌≤◌, ◌+◌, ◌≡◌, ◌↔◌, false, ltb}
use mathlib.Core.List.{List, ◌∷◌, ◌++◌, [], append_assoc}
use Rattle.std.proofs.Common.{◌∙◌, arith, le-ltb, eq-eqb, ltb-false}
use Rattle.std.proofs.Math.Path.{ap, sym, refl}
use Rattle.std.proofs.Math.ListN.{length, get_or, drop, length-append}
use Rattle.basics.specs.Lists.{part}
use Rattle.basics.specs.Counts.{any}
use Rattle.basics.specs.Rows.{Silent, also, none}
use Rattle.basics.specs.Refusals.{no_refusal}
use Rattle.basics.specs.Laws.Rows.{silent_first}
use Rattle.basics.specs.Laws.Tests.{or_false_right}
use Rattle.basics.specs.Laws.Stands.{stands_part, stands_after, stands_at, stands_length}
use Rattle.places.specs.Limits.{image_limit}
use Rattle.sums.specs.Crc.{dowcrc_of}
use Rattle.header.specs.Header.{reserved, flags_at, uid_at, reserved_at, sum_at, header_size, flags_size, uid_size, head_of, header_of, flags_of, wrong_length, wrong_magic, wrong_version, wrong_header_sum, header_rows, header_refusal}

module _ (flags uid : List ℕ) (ef : length flags ≡ flags_size) (eu : length uid ≡ uid_size) where
  pub length_head : length (head_of flags uid) ≡ sum_at
  unfolding head_of
  length_head = simp length-append (omega arith)

  pub length_header : length (header_of flags uid) ≡ header_size
  unfolding header_of
  length_header = length-append (head_of flags uid) _ ∙ omega (arith, length_head)

  -- bytes that begin with a header, r behind it
  module _ (s r : List ℕ) (st : s ≡ header_of flags uid ++ r) where
    rest : List ℕ
    rest = dowcrc_of (head_of flags uid) ∷ r

    at_head : s ≡ head_of flags uid ++ rest
    unfolding header_of rest
    at_head = st ∙ append_assoc (head_of flags uid) (dowcrc_of (head_of flags uid) ∷ []) r

    at_flags : drop flags_at s ≡ flags ++ ((uid ++ reserved) ++ rest)
    unfolding head_of
    at_flags = ap (drop flags_at) at_head ∙ append_assoc flags (uid ++ reserved) rest

    pub flags_back : flags_of s ≡ flags
    flags_back = stands_part s flags_at flags _ at_flags uid_at (omega arith)

    pub uid_back : part s uid_at reserved_at ≡ uid
    uid_back =
        stands_part s uid_at uid _
        (stands_after s flags_at flags _ at_flags uid_at (omega arith) ∙ append_assoc uid reserved rest) reserved_at (omega arith)

    pub magic_back : wrong_magic s ≡ false
    unfolding any head_of
    magic_back = rw at_head

    pub version_back : wrong_version s ≡ false
    unfolding head_of
    version_back = rw at_head

    pub sum_back : wrong_header_sum s ≡ false
    unfolding rest
    sum_back =
        let e : sum_at ≡ 0 + length (head_of flags uid) = omega (arith, length_head) in
        let front : dowcrc_of (part s 0 sum_at) ≡ dowcrc_of (head_of flags uid) = ap dowcrc_of (stands_part s 0 (head_of flags uid) rest at_head sum_at e) in
        let back : drop sum_at s ≡ dowcrc_of (head_of flags uid) ∷ r = stands_after s 0 (head_of flags uid) rest at_head sum_at e in
        let last : get_or s sum_at 0 ≡ dowcrc_of (head_of flags uid) = stands_at s sum_at (dowcrc_of (head_of flags uid) ∷ []) r back 0 sum_at refl in
        rw (eq-eqb _ _ (front ∙ sym last))

    -- it has room for its header
    pub header_room : header_size ≤ length s
    header_room = omega (arith, stands_length s 0 (header_of flags uid) r st, length_header)

    pub length_back : (wrong_length s ≡ false) ↔ (length s ≤ image_limit)
    length_back = (
      (λ e. ltb-false image_limit (length s) (or_false_right (ltb (length s) header_size) (ltb image_limit (length s)) e)),
      (λ h. rw (le-ltb _ _ header_room, le-ltb _ _ h)),
    )

    pub header_silent : length s ≤ image_limit → Silent (header_rows s)
    unfolding header_rows
    header_silent h = also (length_back.1 h) (also magic_back (also version_back (also sum_back none)))

    pub header_back : length s ≤ image_limit → header_refusal s ≡ no_refusal
    header_back h = silent_first no_refusal (header_silent h)
