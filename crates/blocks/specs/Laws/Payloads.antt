-- A block's payload as code lends it, its checksum by lent tables, and a payload put in place and framed.
use Rattle.std.specs.Prelude.{ℕ, ◌+◌, ◌-◌, ◌≤◌, min, List, [], ◌++◌, ◌≡◌, take, drop}
use Rattle.std.proofs.Common.{append-nil, ap, ◌∙◌, arith, length-drop, length-append, drop_of_length-le, length-take-le, drop_at}
use Rattle.std.proofs.Math.ListN.{length}
use borrow.Author.Tests.{le-leb}
use borrow.Rule.Slice.PartMut.{put_mid}
use Rattle.basics.specs.Lists.{part, put_front}
use Rattle.basics.specs.Laws.Lists.{part_rest, drop_min, length_part}
use Rattle.basics.specs.Laws.Puts.{put_all}
use Rattle.basics.specs.Laws.Octets.{Bytes, bytes_drop}
use Rattle.sums.specs.Crc.{c324_poly, crc324_of}
use Rattle.sums.specs.Tables.{tables_of, by_tables}
use Rattle.sums.specs.Laws.Tables.{c324_by}
use Rattle.blocks.specs.Blocks.{frame_size, payload_in, payload_limit, framed, block_of, put_frame}

module _ (x : List ℕ) (a : ℕ) (ea : a ≡ min frame_size (length x)) where
  pub payload_lent : part x a (length x) ≡ payload_in x
  payload_lent = part_rest x a ∙ drop_min a frame_size x ea

  pub payload_sum_lem : (t : List ℕ) (r : ℕ) → t ≡ tables_of c324_poly → Bytes x → r ≡ by_tables t 0 (part x a (length x)) → r ≡ crc324_of (payload_in x)
  payload_sum_lem t r et h er = er ∙ ap (by_tables t 0) payload_lent ∙ c324_by t (payload_in x) et (bytes_drop frame_size x h)

-- a payload that was lent its part, and then its frame
abbrev pub placed : List ℕ → List ℕ → List ℕ
placed out ys = put_mid frame_size (length out - frame_size) out ys

module _ (x out ys : List ℕ) (n : length out ≡ frame_size + length x) (ey : ys ≡ put_front x (part out frame_size (length out))) where
  rest : drop (length out - frame_size) (drop frame_size out) ≡ []
  rest = drop_of_length-le (drop frame_size out) {i = length out - frame_size} (omega (arith, length-drop frame_size out))

  put : ys ≡ x
  put = ey ∙ put_all x (part out frame_size (length out)) (length_part out frame_size (length out) (omega arith) ∙ omega arith)

  pub payload_placed : payload_in (placed out ys) ≡ x
  payload_placed =
      let f : length (take frame_size out) ≡ frame_size = length-take-le frame_size out (omega arith) in
      drop_at (take frame_size out) _ frame_size f ∙ ap (◌++◌ ys) rest ∙ append-nil ys ∙ put

  long : length (placed out ys) ≡ frame_size + length x
  long =
      let f : length (take frame_size out) ≡ frame_size = length-take-le frame_size out (omega arith) in
      let k : ℕ = length out - frame_size in
      length-append (take frame_size out) (ys ++ drop k (drop frame_size out)) ∙ omega (arith, length-append ys (drop k (drop frame_size out)), ap length rest, ap length put)

  pub framed_placed : length out ≤ frame_size + payload_limit → (type sum : ℕ) (after : List ℕ) → after ≡ put_frame type sum (placed out ys) → after ≡ framed type sum x
  unfolding put_frame
  framed_placed m type sum after e =
      let a : frame_size ≤ length (placed out ys) = omega (arith, long) in
      let b : length (placed out ys) ≤ frame_size + payload_limit = omega (arith, long) in
      e ∙ rw (le-leb _ _ a, le-leb _ _ b, payload_placed)

pub block_placed : (type : ℕ) (x out ys after : List ℕ) → length out ≡ frame_size + length x → length out ≤ frame_size + payload_limit
    → ys ≡ put_front x (part out frame_size (length out)) → after ≡ put_frame type (crc324_of (payload_in (placed out ys))) (placed out ys)
    → after ≡ block_of type x
block_placed type x out ys after n m ey e = framed_placed x out ys n ey m type _ after e ∙ rw (payload_placed x out ys n ey)
