-- The words of a data block before its last, put in place: one law for each form, with its premises as the code's tests and calls give them.
use Prim.Native.Nat.{ℕ, ◌+◌, ◌-◌, ◌*◌, ◌/◌, ◌%◌, ◌≤◌, ◌<◌}
use mathlib.Core.List.{List}
use mathlib.Core.Path.{◌≡◌, sym, ap, ◌∙◌}
use native.Mathlib.Omega.{arith}
use lib.ListN.{length, get_or, set, drop}
use lib.Seq.{get_or-drop}
use borrow.Author.Tests.{ne_eqb}
use Rattle.basics.specs.Bytes.{bytes16}
use Rattle.basics.specs.Lists.{laid, put_front}
use Rattle.basics.specs.Tables.{table}
use Rattle.basics.specs.Laws.Lists.{laid_none, laid_more, laid_same, laid_add, laid_in, length_laid, none_left}
use Rattle.basics.specs.Laws.Tables.{length_table, table_of}
use Rattle.basics.specs.Laws.Puts.{put_all}
use Rattle.hunk.specs.declared.Form.{Form}
use Rattle.hunk.specs.declared.Form.TheVariants.{Bytes, Decles, Words, Reserved}
use Rattle.hunk.specs.Forms.{lower, uppers, packet, packets, body_for}

-- one byte more of a loop
pub lower_more : (ws out₀ out : List ℕ) (p i j v : ℕ) → out ≡ laid p j (lower (drop i ws)) out₀ → v ≡ get_or ws (i + j) 0 % 256
    → set out (p + j) v ≡ laid p (j + 1) (lower (drop i ws)) out₀
unfolding lower
lower_more ws out₀ out p i j v e ev = laid_more p (lower (drop i ws)) out₀ j out v e (ev ∙ ap (λ (w : ℕ). w % 256) (sym (get_or-drop i ws j 0)))

-- the bytes of a packet: the first, and any other
module _ (ws : List ℕ) (i p : ℕ) (out₀ : List ℕ) where
  pub packet_first : (v : ℕ) → v ≡ uppers ws i → set out₀ p v ≡ laid p 1 (packet ws i) out₀
  unfolding packet
  packet_first v ev =
      let z : p ≡ p + 0 = omega arith in
      ap (λ (k : ℕ). set out₀ k v) z ∙ laid_more p (packet ws i) out₀ 0 out₀ v (sym (laid_none p (packet ws i) out₀)) ev

  pub packet_more : (out : List ℕ) (k v : ℕ) → 1 ≤ k → out ≡ laid p k (packet ws i) out₀ → v ≡ get_or ws (i + (k - 1)) 0 % 256 → set out (p + k) v ≡ laid p (k + 1) (packet ws i) out₀
  unfolding packet lower
  packet_more out k v h e ev =
      let z : k ≡ 0 → ⊥ = λ q. omega arith in
      laid_more p (packet ws i) out₀ k out v e (rw (ne_eqb _ _ z) ev)

  -- a whole one
  module _ (a b c d u va vb vc vd : ℕ) (ea : a ≡ get_or ws i 0) (eb : b ≡ get_or ws (i + 1) 0) (ec : c ≡ get_or ws (i + 2) 0) (ed : d ≡ get_or ws (i + 3) 0)
      (eu : u ≡ 64 * (a / 256 % 4) + 16 * (b / 256 % 4) + 4 * (c / 256 % 4) + d / 256 % 4)
      (fa : va ≡ a % 256) (fb : vb ≡ b % 256) (fc : vc ≡ c % 256) (fd : vd ≡ d % 256) where
    upper_bits : u ≡ uppers ws i
    unfolding uppers
    upper_bits = eu ∙ rw (ea, eb, ec, ed)

    pub packet_put : set (set (set (set (set out₀ p u) (p + 1) va) (p + 2) vb) (p + 3) vc) (p + 4) vd ≡ laid p 5 (packet ws i) out₀
    packet_put =
        let z : i ≡ i + (1 - 1) = omega arith in
        packet_more _ 4 vd (omega arith)
        (packet_more _ 3 vc (omega arith)
        (packet_more _ 2 vb (omega arith)
        (packet_more _ 1 va (omega arith) (packet_first u upper_bits) (fa ∙ ap (λ (x : ℕ). x % 256) ea ∙ ap (λ (k : ℕ). get_or ws k 0 % 256) z))
        (fb ∙ ap (λ (x : ℕ). x % 256) eb))
        (fc ∙ ap (λ (x : ℕ). x % 256) ec))
        (fd ∙ ap (λ (x : ℕ). x % 256) ed)

  -- a short one
  pub short_put : (u a b c d : ℕ) (next : List ℕ) → a ≡ get_or ws i 0 → b ≡ get_or ws (i + 1) 0 → c ≡ get_or ws (i + 2) 0 → d ≡ get_or ws (i + 3) 0
      → u ≡ 64 * (a / 256 % 4) + 16 * (b / 256 % 4) + 4 * (c / 256 % 4) + d / 256 % 4
      → next ≡ laid (p + 1) (length ws - i) (lower (drop i ws)) (set out₀ p u) → next ≡ laid p (1 + (length ws - i)) (packet ws i) out₀
  unfolding uppers packet lower
  short_put u a b c d next ea eb ec ed eu e =
      let n : ℕ = length ws - i in
      let f : set out₀ p u ≡ laid p 1 (packet ws i) out₀ = packet_first u (eu ∙ rw (ea, eb, ec, ed)) in
      e
      ∙ ap (laid (p + 1) n (lower (drop i ws))) f
      ∙ laid_same (p + 1) n (lower (drop i ws)) (λ k. packet ws i (1 + k)) _
      (λ k l.
      let z : 1 + k ≡ 0 → ⊥ = λ q. omega arith in
      let m : 1 + k - 1 ≡ k = omega arith in
      rw (ne_eqb _ _ z, m, get_or-drop))
      ∙ sym (laid_add p 1 n (packet ws i) out₀)

-- packets one after the other
packets_at : (ws : List ℕ) (k i : ℕ) → i < 5 → packets ws (5 * k + i) ≡ packet ws (4 * k) i
unfolding packets
packets_at ws k i h =
    let d : (5 * k + i) / 5 ≡ k = omega arith in
    let m : (5 * k + i) % 5 ≡ i = omega arith in
    rw (d, m)

module _ (ws out₀ out : List ℕ) (k : ℕ) (e : out ≡ laid 0 (5 * k) (packets ws) out₀) where
  packets_more : (n : ℕ) (next : List ℕ) → n ≤ 5 → next ≡ laid (5 * k) n (packet ws (4 * k)) out → next ≡ laid 0 (5 * k + n) (packets ws) out₀
  packets_more n next h f =
      let z : 5 * k ≡ 0 + 5 * k = omega arith in
      f
      ∙ ap (laid (5 * k) n (packet ws (4 * k))) e
      ∙ laid_same (5 * k) n (packet ws (4 * k)) (λ i. packets ws (5 * k + i)) _ (λ i l. sym (packets_at ws k i (omega arith)))
      ∙ ap (λ (a : ℕ). laid a n (λ i. packets ws (5 * k + i)) (laid 0 (5 * k) (packets ws) out₀)) z
      ∙ sym (laid_add 0 (5 * k) n (packets ws) out₀)

  pub packets_turn : (next : List ℕ) → next ≡ laid (5 * k) 5 (packet ws (4 * k)) out → next ≡ laid 0 (5 * (k + 1)) (packets ws) out₀
  packets_turn next f =
      let j : 5 * (k + 1) ≡ 5 * k + 5 = omega arith in
      rw j (packets_more 5 next (omega arith) f)

  module _ (q : k ≡ length ws / 4) where
    pub packets_short : (4 * k ≡ length ws → ⊥) → (next : List ℕ) → next ≡ laid (5 * k) (1 + (length ws - 4 * k)) (packet ws (4 * k)) out
        → next ≡ laid 0 ((length ws + 3) / 4 + length ws) (packets ws) out₀
    packets_short h next f =
        let n : ℕ = 1 + (length ws - 4 * k) in
        let d : 5 * k + n ≡ (length ws + 3) / 4 + length ws = omega (arith, h) in
        rw d at (packets_more n next (omega arith) f)

-- any form
laid_table : (n : ℕ) (w : ℕ → ℕ) (out : List ℕ) → length out ≡ n → laid 0 n w out ≡ table n w
laid_table n w out l =
    table_of 0 n w (laid 0 n w out) (length_laid 0 w out n ∙ l)
    (λ i h. let z : i ≡ 0 + i = omega arith in ap (λ (k : ℕ). get_or (laid 0 n w out) k 0) z ∙ laid_in 0 w out n i h (omega arith))

module _ (f : Form) (ws out : List ℕ) (l : length out ≡ length (body_for f ws)) where
  module _ (e : f ≡ Bytes) where
    bytes_long : length out ≡ length ws
    bytes_long = l ∙ rw e (length_table (length ws) (lower ws))

    pub bytes_room : 0 + (length ws - 0) ≤ length out
    bytes_room = omega (arith, bytes_long)

    pub bytes_put : (next : List ℕ) → next ≡ laid 0 (length ws - 0) (lower ws) out → next ≡ body_for f ws
    bytes_put next q =
        let d : length ws - 0 ≡ length ws = omega arith in
        q ∙ rw (d, e) (laid_table (length ws) (lower ws) out bytes_long)

  module _ (e : f ≡ Decles) where
    pub decles_room : length out ≡ (length ws + 3) / 4 + length ws
    decles_room = l ∙ rw e (length_table ((length ws + 3) / 4 + length ws) (packets ws))

    pub decles_put : (next : List ℕ) → next ≡ laid 0 ((length ws + 3) / 4 + length ws) (packets ws) out → next ≡ body_for f ws
    decles_put next q = q ∙ rw e (laid_table ((length ws + 3) / 4 + length ws) (packets ws) out decles_room)

  pub words_put : f ≡ Words → (next : List ℕ) → next ≡ put_front (bytes16 ws) out → next ≡ body_for f ws
  words_put e next q =
      let r : length out ≡ length (bytes16 ws) = rw e at l in
      q ∙ rw e (put_all (bytes16 ws) out r)

  pub reserved_put : f ≡ Reserved → out ≡ body_for f ws
  reserved_put e =
      let r : length out ≡ 0 = rw e at l in
      rw e (sym (none_left out r))

pub ruleset bodies = (bytes_room, bytes_put, decles_room, decles_put, words_put, reserved_put)
