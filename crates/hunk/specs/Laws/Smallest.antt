-- No payload that holds a hunk's words with the same cuts is shorter than the one that is written, whatever the forms of its data blocks
-- (02, W-207).
use Prim.Native.Nat.{ℕ, ◌+◌, ◌-◌, ◌*◌, ◌/◌, ◌%◌, ◌^◌, ◌≤◌, ◌<◌}
use Rattle.std.specs.Prelude.{◌≡◌, refl, true, false, get_or, take, drop}
use Rattle.std.proofs.Common.{sym, ap₂, ◌∙◌, arith, mod-lt, length-append, take_at, drop_at, lt-ltb, ne_eqb}
use Rattle.std.proofs.Math.Path.{ap}
use mathlib.Core.List.{List, [], ◌∷◌, map}
use Rattle.std.proofs.Math.ListN.{length}
use Rattle.std.proofs.Math.Seq.{take-append_seam, drop-append_seam}
use Rattle.basics.specs.Lists.{joined, flat}
use Rattle.basics.specs.Laws.Each.{flat_map}
use Rattle.basics.specs.Laws.Octets.{Bytes as Octets}
use Rattle.basics.specs.Laws.Tables.{length_table, get_d_table}
use Rattle.basics.specs.Laws.Tests.{true_is_not_false}
use Rattle.hunk.specs.declared.Form.{Form}
use Rattle.hunk.specs.declared.Form.TheVariants.{Bytes, Decles, Words, Reserved}
use Rattle.hunk.specs.Forms.{is_reserved, count_for, most_for, size_for, count_of, size_of, decle, packed, word_for, word}
use Rattle.hunk.specs.Smallest.{can_hold, form_for, data_of}
use Rattle.hunk.specs.Cuts.{cuts_of}
use Rattle.hunk.specs.Hunk.{Hunk, form_at, count_at, size_at, words_at, whole_at, data_starts, end_of, words_of, cuts_in, counts_in, hunk_payload, payload_size}
use Rattle.hunk.specs.Laws.Forms.{Starts, starts_of, length_in}
use Rattle.hunk.specs.Laws.Carried.{Carried, carried_named, Preferred, form_smallest}
use Rattle.hunk.specs.Laws.Walk.{intact, Run, none, also, data_run}
use Rattle.hunk.specs.Laws.Sizes.{length_payload}
use Rattle.hunk.specs.Laws.ReadBack.{payload_cuts, payload_words}

-- whatever wrote a data block, its form can carry the words that it holds: as many as its start byte counts
most_for_lem : (f : Form) (b : ℕ) → Starts f b → count_for f b ≤ most_for f
most_for_lem Bytes b s = omega arith
most_for_lem Decles b s = omega arith
most_for_lem Words b s = omega arith
most_for_lem Reserved b s = omega arith

-- and, before the last, words that it holds
held_for : (f : Form) (s : List ℕ) (p n i : ℕ) → Octets s → i + 1 < n → is_reserved f ≡ false → can_hold f (word_for f s p n i) ≡ true
unfolding packed decle
held_for Bytes s p n i b h e = let z : i + 1 ≡ n → ⊥ = λ q. omega arith in rw (ne_eqb _ _ z) (lt-ltb (get_or s (p + 1 + i) 0) 0x100 (b (p + 1 + i)))
held_for Decles s p n i b h e =
    let z : i + 1 ≡ n → ⊥ = λ q. omega arith in
    let at : ℕ = p + 1 + 5 * (i / 4) in
    let u : get_or s at 0 / 4 ^ (3 - i % 4) % 4 < 4 = mod-lt (get_or s at 0 / 4 ^ (3 - i % 4)) {m = 4} (omega arith) in
    rw (ne_eqb _ _ z) (lt-ltb (packed s (p + 1) i) 0x400 (omega (arith, b (at + 1 + i % 4))))
held_for Words s p n i b h e = refl
held_for Reserved s p n i b h e = true_is_not_false refl e

module _ (s : List ℕ) (p : ℕ) (bytes : Octets s) (w : whole_at s p ≡ true) where
  long : length (words_at s p) ≡ count_at s p
  long = length_table (count_at s p) (word s p)

  pub any_carried : Carried (form_at s p) (words_at s p)
  unfolding word count_of
  any_carried =
      record {
        some = omega (arith, long, (intact s p w).some);
        most = omega (arith, long, most_for_lem (form_at s p) (get_or s p 0) (starts_of (get_or s p 0)));
        held =
            λ i h.
            rw (get_d_table 0 (count_at s p) (word s p) i (omega (arith, long)))
            (held_for (form_at s p) s p (count_at s p) i bytes (omega (arith, long)) (intact s p w).named);
      }

  -- so it is no shorter than they are in the form that is chosen
  pub any_least : length (data_of (words_at s p)) ≤ size_at s p
  unfolding data_of size_of
  any_least =
      let ws : List ℕ = words_at s p in
      let m : Preferred ws (form_at s p) = form_smallest ws (form_at s p) any_carried in
      let l : length (data_of ws) ≡ size_for (form_for ws) (length ws) =
      length_in (form_for ws) ws m.carried.some (carried_named (form_for ws) ws m.carried) in
      omega (arith, l, m.short, ap (size_for (form_at s p)) long)

-- data blocks one after the other, and those of a whole payload
run_least : {s ps : List ℕ} {p q : ℕ} → Octets s → Run s p ps q → p + length (joined data_of (map (words_at s) ps)) ≤ q
unfolding joined
run_least b none = omega arith
run_least {s} {p = p} b (also {ps = ps} w r) =
    omega (
      arith,
      any_least s p b w,
      length-append (data_of (words_at s p)) (joined data_of (map (words_at s) ps)),
      run_least b r,
    )

-- the cuts of a payload: the numbers of words tell them, where the words are known
counts_are : (s ps : List ℕ) → map length (map (words_at s) ps) ≡ map (count_at s) ps
counts_are s [] = refl
counts_are s (p ∷ ps) = ap₂ ◌∷◌ (length_table (count_at s p) (word s p)) (counts_are s ps)

same_cuts : (xs ys : List (List ℕ)) → map length xs ≡ map length ys → flat xs ≡ flat ys → xs ≡ ys
unfolding joined
same_cuts [] [] e f = refl
same_cuts [] (y ∷ ys) e f = let z : ◌≡◌ {A = ℕ} 0 1 = cc in absurd (omega arith)
same_cuts (x ∷ xs) [] e f = let z : ◌≡◌ {A = ℕ} 0 1 = cc in absurd (omega arith)
same_cuts (x ∷ xs) (y ∷ ys) e f =
    let l : length y ≡ length x = cc in
    let m : map length xs ≡ map length ys = cc in
    let a : x ≡ y = sym (take-append_seam x (flat xs)) ∙ ap (take (length x)) f ∙ take_at y (flat ys) (length x) l in
    let b : flat xs ≡ flat ys = sym (drop-append_seam x (flat xs)) ∙ ap (drop (length x)) f ∙ drop_at y (flat ys) (length x) l in
    ap₂ ◌∷◌ a (same_cuts xs ys m b)

-- bytes that are data blocks to their end, with the cuts and the words of a hunk's own payload
pub record Recut (s : List ℕ) (h : Hunk) : Type 0 where
  pub bytes : Octets s
  pub all : end_of s ≡ length s
  pub counts : counts_in s ≡ counts_in (hunk_payload h)
  pub words : words_of s ≡ h.words

pub none_shorter : (s : List ℕ) (h : Hunk) → Recut s h → length (hunk_payload h) ≤ length s
unfolding words_of payload_size
none_shorter s h r =
    let t : List ℕ = hunk_payload h in
    let c : map length (cuts_in s) ≡ map length (cuts_in t) = counts_are s (data_starts s) ∙ r.counts ∙ sym (counts_are t (data_starts t)) in
    let f : flat (cuts_in s) ≡ flat (cuts_in t) =
    flat_map (words_at s) (data_starts s) ∙ r.words ∙ sym (payload_words h) ∙ sym (flat_map (words_at t) (data_starts t)) in
    let e : cuts_in s ≡ cuts_of h.words = same_cuts (cuts_in s) (cuts_in t) c f ∙ payload_cuts h in
    omega (arith, length_payload h, ap (λ (cs : List (List ℕ)). length (joined data_of cs)) e, run_least r.bytes (data_run s), r.all)

-- as many words as they count
total : List ℕ → ℕ
total [] = 0
total (n ∷ ns) = n + total ns

total_words : (s ps : List ℕ) → length (joined (words_at s) ps) ≡ total (map (count_at s) ps)
unfolding joined total
total_words s [] = refl
total_words s (p ∷ ps) = omega (arith, length-append (words_at s p) (joined (words_at s) ps), length_table (count_at s p) (word s p), total_words s ps)

pub same_number : (s t : List ℕ) → counts_in s ≡ counts_in t → length (words_of s) ≡ length (words_of t)
unfolding words_of
same_number s t e = total_words s (data_starts s) ∙ ap total e ∙ sym (total_words t (data_starts t))
