-- A part's name: its pieces one behind the other in the buffer, or nothing where they do not fit.
use Prim.Native.Nat.{ℕ, ◌+◌, ◌-◌, ◌≤◌, ◌<◌}
use mathlib.Core.List.{List, ◌++◌, append_assoc}
use mathlib.Core.Path.{◌≡◌, sym, ap, ◌∙◌}
use native.Mathlib.Omega.{arith}
use lib.ListN.{length, take, drop, length-append}
use lib.Seq.{length-take-le}
use borrow.Author.Tests.{lt-ltb, le-ltb}
use borrow.Rule.Slice.PartMut.{put_mid}
use Rattle.std.specs.Prelude.{Some, None}
use Rattle.basics.specs.Lists.{joined}
use Rattle.basics.specs.Laws.Wrote.{Wrote, wrote_part, wrote_all}
use Rattle.files.specs.Names.{hex_of, folder_of, mark, part_of, part_length, part_in}
use Rattle.files.proofs.Named.{length_hex}

module _ (name : List ℕ) (k : ℕ) (is : k ≡ folder_of name) where
  -- its three pieces
  pub pieces :
      (tag out p q r : List ℕ) → k ≤ length name → length out ≡ k + 31 → length tag ≡ 12 → p ≡ take k name → q ≡ mark → r ≡ joined hex_of tag
      → put_mid (k + 7) (k + 31 - (k + 7)) (put_mid k (k + 7 - k) (p ++ drop k out) q) r ≡ part_of name tag
  unfolding part_of
  pieces tag out p q r kn h t ep eq er =
      let l : length (take k name) ≡ k = length-take-le k name kn in
      let m : length (take k name ++ mark) ≡ k + 7 = length-append (take k name) mark ∙ omega arith in
      let x : length (joined hex_of tag) ≡ 24 = length_hex tag ∙ omega arith in
      let one : Wrote out (p ++ drop k out) (take k name) = record { fits = omega arith; is = rw (ep, l) } in
      let two : Wrote out (put_mid k (k + 7 - k) (p ++ drop k out) q) (take k name ++ mark) =
      wrote_part out _ (take k name) k (k + 7 - k) q mark one (sym l) (omega arith) (omega arith) eq in
      let three : Wrote out (put_mid (k + 7) (k + 31 - (k + 7)) (put_mid k (k + 7 - k) (p ++ drop k out) q) r) ((take k name ++ mark) ++ joined hex_of tag) =
      wrote_part out _ (take k name ++ mark) (k + 7) (k + 31 - (k + 7)) r (joined hex_of tag) two (sym m) (omega arith) (omega arith) er in
      let n : length ((take k name ++ mark) ++ joined hex_of tag) ≡ length out = length-append (take k name ++ mark) (joined hex_of tag) ∙ omega arith in
      wrote_all out _ ((take k name ++ mark) ++ joined hex_of tag) three n ∙ append_assoc (take k name) mark (joined hex_of tag)
      ∙ ap (λ (j : ℕ). take j name ++ (mark ++ joined hex_of tag)) is

  -- where it does not fit, and where it does
  pub short_length : (room : ℕ) → room < k + 31 → None ≡ part_length name room
  unfolding part_length
  short_length room h = simp (← is, lt-ltb _ _ h)

  pub short_out : (tag out : List ℕ) → length out < k + 31 → out ≡ part_in name tag out
  unfolding part_in
  short_out tag out h = simp (← is, lt-ltb _ _ h)

  pub whole_length : (room : ℕ) → k + 31 ≤ room → Some (k + 31) ≡ part_length name room
  unfolding part_length
  whole_length room h = simp (← is, le-ltb _ _ h)

  pub whole_out : (tag out p : List ℕ) → k + 31 ≤ length out → p ≡ part_of name tag → p ++ drop (k + 31) out ≡ part_in name tag out
  unfolding part_in
  whole_out tag out p h e = simp (← is, le-ltb _ _ h, e)
