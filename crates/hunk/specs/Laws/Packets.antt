-- The words of a data block are read back as they were written: bytes, packets of decles, and the word behind them.
use Prim.Native.Nat.{ℕ, zero, suc, ◌+◌, ◌-◌, ◌*◌, ◌/◌, ◌%◌, ◌^◌, ◌<◌, ◌≤◌}
use Rattle.std.specs.Prelude.{◌≡◌, eqb, drop}
use Rattle.std.proofs.Math.Path.{refl}
use Rattle.std.proofs.Common.{sym, ap, ◌∙◌, div-one, length-take, get_or-take, take-suc}
use mathlib.Core.List.{List, [], ◌∷◌, ◌++◌, append_assoc}
use native.Mathlib.Omega.{arith}
use Rattle.std.proofs.Math.ListN.{length, get_or, length-append}
use Rattle.std.proofs.Math.Seq.{take-length}
use borrow.Author.Tests.{ne_eqb, eqb-true, eqb-false, ltb-true}
use Rattle.basics.specs.Bytes.{at16, le16, bytes16}
use Rattle.basics.specs.Laws.Tests.{cases, true_is_not_false}
use Rattle.basics.specs.Laws.Bytes.{bytes16_append}
use Rattle.basics.specs.Laws.Tables.{length_table, get_d_table}
use Rattle.basics.specs.Laws.Stands.{stands_at, stands_in, stands_after, stands_word}
use Rattle.hunk.specs.declared.Form.{Form}
use Rattle.hunk.specs.declared.Form.TheVariants.{Bytes, Decles, Words, Reserved}
use Rattle.hunk.specs.Forms.{start_for, size_for, decle, packed, word_for, lower, uppers, packet, packets, body_for, but_last, last_of, data_in}
use Rattle.hunk.specs.Laws.Forms.{length_in}
use Rattle.hunk.specs.Laws.Carried.{Carried, carried_named}

-- the upper bits of a packet: two of each decle, in its place
uppers_at : (ws : List ℕ) (i k : ℕ) → k < 4 → uppers ws i / 4 ^ (3 - k) % 4 ≡ get_or ws (i + k) 0 / 256 % 4
unfolding uppers
uppers_at ws i zero h = let e : i + 0 ≡ i = omega arith in rw e (omega arith)
uppers_at ws i (suc zero) h = omega arith
uppers_at ws i (suc (suc zero)) h = omega arith
uppers_at ws i (suc (suc (suc zero))) h = rw div-one (omega arith)
uppers_at ws i (suc (suc (suc (suc k)))) h = absurd (omega arith)

-- the bytes of a packet: the first, and that of decle k
module _ (ws : List ℕ) (j : ℕ) where
  packets_first : packets ws (5 * j) ≡ uppers ws (4 * j)
  unfolding packets packet
  packets_first =
      let d : 5 * j / 5 ≡ j = omega arith in
      let m : 5 * j % 5 ≡ 0 = omega arith in
      rw (d, m)

  packets_other : (k : ℕ) → k < 4 → packets ws (5 * j + 1 + k) ≡ lower ws (4 * j + k)
  unfolding packets packet
  packets_other k h =
      let d : (5 * j + 1 + k) / 5 ≡ j = omega arith in
      let m : (5 * j + 1 + k) % 5 ≡ 1 + k = omega arith in
      let z : 1 + k ≡ 0 → ⊥ = λ e. omega arith in
      let l : 1 + k - 1 ≡ k = omega arith in
      rw (d, m, ne_eqb _ _ z, l)

-- bytes and packets that stand at a place
module _ (s : List ℕ) (q : ℕ) (ws r : List ℕ) (i : ℕ) (h : i < length ws) where
  byte_back : drop q s ≡ body_for Bytes ws ++ r → get_or ws i 0 < 0x100 → get_or s (q + i) 0 ≡ get_or ws i 0
  unfolding lower
  byte_back st k =
      stands_in s q (body_for Bytes ws) r st i (q + i) refl (omega (arith, length_table (length ws) (lower ws)))
      ∙ get_d_table 0 (length ws) (lower ws) i h ∙ omega arith

  decle_back : drop q s ≡ body_for Decles ws ++ r → get_or ws i 0 < 0x400 → packed s q i ≡ get_or ws i 0
  unfolding packed decle lower
  decle_back st k =
      let n : ℕ = (length ws + 3) / 4 + length ws in
      let l : length (body_for Decles ws) ≡ n = length_table n (packets ws) in
      let a : get_or s (q + 5 * (i / 4)) 0 ≡ uppers ws (4 * (i / 4)) =
      stands_in s q (body_for Decles ws) r st (5 * (i / 4)) (q + 5 * (i / 4)) refl (omega arith)
      ∙ get_d_table 0 n (packets ws) (5 * (i / 4)) (omega arith) ∙ packets_first ws (i / 4) in
      let b : get_or s (q + 5 * (i / 4) + 1 + i % 4) 0 ≡ lower ws (4 * (i / 4) + i % 4) =
      stands_in s q (body_for Decles ws) r st (5 * (i / 4) + 1 + i % 4) (q + 5 * (i / 4) + 1 + i % 4) (omega arith) (omega arith)
      ∙ get_d_table 0 n (packets ws) (5 * (i / 4) + 1 + i % 4) (omega arith) ∙ packets_other ws (i / 4) (i % 4) (omega arith) in
      let e : 4 * (i / 4) + i % 4 ≡ i = omega arith in
      rw (a, b, uppers_at ws (4 * (i / 4)) (i % 4) (omega arith), e) (omega arith)

-- a word that stands at a place
word_back : (s : List ℕ) (q w : ℕ) (r : List ℕ) → drop q s ≡ le16 w ++ r → at16 s q ≡ w
word_back s q w r st =
    let a : get_or s q 0 ≡ w % 256 = stands_at s q (le16 w) r st 0 q (omega arith) in
    let b : get_or s (q + 1) 0 ≡ w / 256 = stands_at s q (le16 w) r st 1 (q + 1) refl in
    omega arith

-- all words but the last, and the last, are the words
last_again : (words : List ℕ) → 1 ≤ length words → but_last words ++ (last_of words ∷ []) ≡ words
last_again words h =
    let e : suc (length words - 1) ≡ length words = omega arith in
    sym (take-suc words (length words - 1) 0 (omega arith)) ∙ rw e (take-length words)

bytes_again : (words : List ℕ) → 1 ≤ length words → bytes16 (but_last words) ++ le16 (last_of words) ≡ bytes16 words
unfolding bytes16
bytes_again words h = sym (bytes16_append (but_last words) (last_of words ∷ [])) ∙ ap bytes16 (last_again words h)

-- word i of a data block that stands at p
module _ (s : List ℕ) (p : ℕ) (ws r : List ℕ) where
  module _ (f : Form) (st : drop p s ≡ data_in f ws ++ r) (c : Carried f ws) where
    body_behind : drop (p + 1) s ≡ body_for f (but_last ws) ++ (le16 (last_of ws) ++ r)
    unfolding data_in
    body_behind =
        stands_after s p (start_for f (length ws) ∷ []) ((body_for f (but_last ws) ++ le16 (last_of ws)) ++ r) st (p + 1) (omega arith)
        ∙ append_assoc (body_for f (but_last ws)) (le16 (last_of ws)) r

    last_back : at16 s (p + size_for f (length ws) - 2) ≡ last_of ws
    unfolding data_in
    last_back =
        let l : length (data_in f ws) ≡ size_for f (length ws) = length_in f ws c.some (carried_named f ws c) in
        let b : length (body_for f (but_last ws) ++ le16 (last_of ws)) ≡ length (body_for f (but_last ws)) + 2 = length-append (body_for f (but_last ws)) (le16 (last_of ws)) in
        word_back s (p + size_for f (length ws) - 2) (last_of ws) r
        (stands_after s (p + 1) (body_for f (but_last ws)) (le16 (last_of ws) ++ r) body_behind (p + size_for f (length ws) - 2) (omega arith))

  module _ (i : ℕ) (h : i < length ws) where
    is_last : i + 1 ≡ length ws → last_of ws ≡ get_or ws i 0
    is_last e = let d : length ws - 1 ≡ i = omega arith in rw d

    before : (i + 1 ≡ length ws → ⊥) → (i < length (but_last ws)) × (get_or (but_last ws) i 0 ≡ get_or ws i 0)
    before n = (omega (arith, length-take (length ws - 1) ws, n), get_or-take (length ws - 1) ws i 0 (omega (arith, n)))

    pub data_back : (f : Form) → drop p s ≡ data_in f ws ++ r → Carried f ws → word_for f s p (length ws) i ≡ get_or ws i 0
    data_back Bytes st c =
        cases (eqb (i + 1) (length ws)) (λ e. rw e (last_back Bytes st c ∙ is_last (eqb-true _ _ e)))
        (λ e.
        let b = before (eqb-false _ _ e) in
        let k : get_or (but_last ws) i 0 < 0x100 = rw b.1 (ltb-true (get_or ws i 0) 0x100 (c.held i (omega (arith, b.0, length-take (length ws - 1) ws)))) in
        rw e (byte_back s (p + 1) (but_last ws) (le16 (last_of ws) ++ r) i b.0 (body_behind Bytes st c) k ∙ b.1))
    data_back Decles st c =
        cases (eqb (i + 1) (length ws)) (λ e. rw e (last_back Decles st c ∙ is_last (eqb-true _ _ e)))
        (λ e.
        let b = before (eqb-false _ _ e) in
        let k : get_or (but_last ws) i 0 < 0x400 = rw b.1 (ltb-true (get_or ws i 0) 0x400 (c.held i (omega (arith, b.0, length-take (length ws - 1) ws)))) in
        rw e (decle_back s (p + 1) (but_last ws) (le16 (last_of ws) ++ r) i b.0 (body_behind Decles st c) k ∙ b.1))
    data_back Words st c =
        let w : drop (p + 1) s ≡ bytes16 ws ++ r =
        body_behind Words st c ∙ sym (append_assoc (bytes16 (but_last ws)) (le16 (last_of ws)) r) ∙ ap (λ (x : List ℕ). x ++ r) (bytes_again ws c.some) in
        stands_word s (p + 1) ws r w i (p + 1 + 2 * i) refl h
    data_back Reserved st c = true_is_not_false refl (carried_named Reserved ws c)
