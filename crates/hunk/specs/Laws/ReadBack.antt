-- A hunk that was written is read back: its address, its cuts and words, and a check that passes exactly when they lie in the RAM.
use Rattle.std.specs.Prelude.{Ok}
use Prim.Native.Nat.{ℕ, ◌+◌, ◌-◌, ◌%◌, ◌^◌, ◌≤◌, ◌<◌}
use Rattle.std.specs.Prelude.{◌≡◌, List, [], ◌∷◌, ◌++◌, map, true, ◌↔◌, drop, get_or}
use Rattle.std.proofs.Math.Path.{refl, sym, ap, ap₂}
use Rattle.std.proofs.Common.{◌∙◌, length-drop}
use Rattle.std.proofs.Math.Bool.{false}
use native.Mathlib.Omega.{arith}
use Rattle.std.proofs.Math.ListN.{length}
use borrow.Author.Tests.{le-leb}
use Rattle.basics.specs.Bytes.{at24, le24}
use Rattle.basics.specs.Lists.{joined, flat, Each, none, also}
use Rattle.basics.specs.Laws.Each.{flat_map}
use Rattle.basics.specs.Tables.{table}
use Rattle.basics.specs.Laws.Tables.{table_of}
use Rattle.basics.specs.Laws.Stands.{stands_at, stands_after, stands_length}
use Rattle.basics.specs.Laws.Lay.{Inside}
use Rattle.places.specs.declared.Locutus.{Locutus}
use Rattle.places.specs.Places.{locutus}
use Rattle.hunk.specs.declared.Form.{Form}
use Rattle.hunk.specs.Forms.{form_of, is_reserved, start_for, size_for, count_of, size_of, word, data_in}
use Rattle.hunk.specs.Smallest.{form_for, data_of}
use Rattle.hunk.specs.Cuts.{cuts_of}
use Rattle.hunk.specs.Hunk.{Hunk, hunk, address, form_at, count_at, size_at, words_at, whole_at, data_starts, end_of, words_of, cuts_in, hunk_of, check_hunk, hunk_payload, payload_size}
use Rattle.hunk.specs.Laws.Forms.{form_start, count_start, size_least, length_in}
use Rattle.hunk.specs.Laws.Carried.{Carried, carried_named}
use Rattle.hunk.specs.Laws.Packets.{data_back}
use Rattle.hunk.specs.Laws.Sizes.{piece_smallest, length_payload}
use Rattle.hunk.specs.Laws.Cuts.{Piece, cuts_each, cuts_all}
use Rattle.hunk.specs.Laws.Walk.{Run, none as no_block, also as one_block, past_end, data_all, data_end}
use Rattle.hunk.specs.Laws.Refusals.{whole_words, words_whole}

-- a data block that stands at p, in a form that carries its words
module _ (s : List ℕ) (p : ℕ) (f : Form) (ws r : List ℕ) (st : drop p s ≡ data_in f ws ++ r) (c : Carried f ws) where
  start_in : get_or s p 0 ≡ start_for f (length ws)
  unfolding data_in
  start_in = stands_at s p (data_in f ws) r st 0 p (omega arith)

  form_in : form_at s p ≡ f
  form_in = ap form_of start_in ∙ form_start f (length ws) c.some c.most

  count_in_lem : count_at s p ≡ length ws
  count_in_lem = ap count_of start_in ∙ count_start f (length ws) c.some c.most

  size_in : size_at s p ≡ length (data_in f ws)
  unfolding size_of
  size_in = ap₂ size_for form_in count_in_lem ∙ sym (length_in f ws c.some (carried_named f ws c))

  whole_in : whole_at s p ≡ true
  unfolding whole_at
  whole_in =
      let l : length s - p ≡ length (data_in f ws) + length r = stands_length s p (data_in f ws) r st in
      let n : is_reserved (form_at s p) ≡ false = rw form_in (carried_named f ws c) in
      let h : p + size_at s p ≤ length s = omega (arith, size_in, size_least (get_or s p 0) n) in
      rw (n, le-leb _ _ h)

  words_in : words_at s p ≡ ws
  unfolding word
  words_in =
      ap (λ (n : ℕ). table n (word s p)) count_in_lem
      ∙ sym (table_of 0 (length ws) (word s p) ws refl (λ i h. sym (rw (form_in, count_in_lem) (data_back s p ws r i h f st c))))

-- as it is written
module _ (s : List ℕ) (p : ℕ) (ws r : List ℕ) (st : drop p s ≡ data_of ws ++ r) (c : Piece ws) where
  carried : Carried (form_for ws) ws
  carried = (piece_smallest ws c).carried

  size_back : size_at s p ≡ length (data_of ws)
  unfolding data_of
  size_back = size_in s p (form_for ws) ws r st carried

  whole_back : whole_at s p ≡ true
  unfolding data_of
  whole_back = whole_in s p (form_for ws) ws r st carried

  words_back : words_at s p ≡ ws
  unfolding data_of
  words_back = words_in s p (form_for ws) ws r st carried

-- data blocks of these words, that stand one after the other from p on to the payload's end
record Blocks (s : List ℕ) (p : ℕ) (cs : List (List ℕ)) : Type 0 where
  pub starts : List ℕ
  pub run : Run s p starts (length s)
  pub cuts : map (words_at s) starts ≡ cs

blocks_back : (s : List ℕ) (p : ℕ) (cs : List (List ℕ)) → Each Piece cs → p ≤ length s → drop p s ≡ joined data_of cs → Blocks s p cs
unfolding joined
blocks_back s p [] none h st =
    let e : p ≡ length s = omega (arith, length-drop p s, ap length st) in
    record { starts = []; run = rw (← e) no_block; cuts = refl }
blocks_back s p (c ∷ cs) (also d ds) h st =
    let r : List ℕ = joined data_of cs in
    let l : length s - p ≡ length (data_of c) + length r = stands_length s p (data_of c) r st in
    let e : size_at s p ≡ length (data_of c) = size_back s p c r st d in
    let b : Blocks s (p + size_at s p) cs =
    blocks_back s (p + size_at s p) cs ds (omega arith) (stands_after s p (data_of c) r st (p + size_at s p) (ap (◌+◌ p) e)) in
    record { starts = p ∷ b.starts; run = one_block (whole_back s p c r st d) b.run; cuts = ap₂ ◌∷◌ (words_back s p c r st d) b.cuts }

-- three bytes
three : (x : ℕ) → at24 (le24 x) 0 ≡ x
three x = omega arith

-- a payload
module _ (h : Hunk) where
  long : 3 ≤ length (hunk_payload h)
  unfolding payload_size
  long = omega (arith, length_payload h)

  blocks : Blocks (hunk_payload h) 3 (cuts_of h.words)
  unfolding hunk_payload
  blocks = blocks_back (hunk_payload h) 3 (cuts_of h.words) (cuts_each h.words) long refl

  stops : whole_at (hunk_payload h) (length (hunk_payload h)) ≡ false
  stops = past_end (hunk_payload h) (length (hunk_payload h)) (omega arith)

  -- its cuts, their words, and that nothing stands behind them
  pub payload_cuts : cuts_in (hunk_payload h) ≡ cuts_of h.words
  payload_cuts = ap (map (words_at (hunk_payload h))) (data_all (hunk_payload h) blocks.starts (length (hunk_payload h)) blocks.run stops) ∙ blocks.cuts

  pub payload_words : words_of (hunk_payload h) ≡ h.words
  unfolding words_of
  payload_words = sym (flat_map (words_at (hunk_payload h)) (data_starts (hunk_payload h))) ∙ ap flat payload_cuts ∙ cuts_all h.words

  pub payload_end : end_of (hunk_payload h) ≡ length (hunk_payload h)
  payload_end = data_end (hunk_payload h) blocks.starts (length (hunk_payload h)) blocks.run stops

  -- its address, where it has 24 bits
  module _ (low : h.address.0 < 2 ^ 24) where
    pub payload_address : address (hunk_payload h) ≡ h.address
    unfolding hunk_payload
    payload_address =
        let a : ℕ = h.address.0 in
        let e : a % 2 ^ 24 ≡ a = omega arith in
        ap locutus (ap (λ (x : ℕ). at24 (le24 x) 0) e ∙ three a)

    address_back : (address (hunk_payload h)).0 ≡ h.address.0
    address_back = ap (λ (l : Locutus). l.0) payload_address

    -- the check passes exactly when the words lie in the RAM
    pub payload_checks : (m : ℕ) → (check_hunk (hunk_payload h) m ≡ Ok (length h.words)) ↔ Inside h.address.0 h.words m
    payload_checks m = (
      (λ e. rw (address_back, payload_words) at (whole_words (hunk_payload h) m (length h.words) e).inside),
      (λ i.
          words_whole (hunk_payload h) m (length h.words)
          (record { long = long; all = payload_end; count = ap length (sym payload_words); inside = rw (address_back, payload_words) i })),
    )

    pub payload_hunk : hunk_of (hunk_payload h) ≡ h
    payload_hunk = ap₂ hunk payload_address payload_words
