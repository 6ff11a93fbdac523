-- What a start byte's form says of it, and how many words and bytes a data block then has.
use Rattle.std.specs.Prelude.{ℕ, ◌<◌, ◌+◌, ◌-◌, ◌/◌, ◌≤◌, ◌≡◌, refl, ◌⊎◌, Bool, true, false, List, ltb, eqb, length}
use Rattle.std.proofs.Common.{ap, inl, inr, arith, length-append, length-take, eqb-true, ltb-true, ltb-false, ne_eqb, lt-ltb, le-ltb}
use Rattle.std.proofs.lemmas.Bool.{eqb-false}
use Rattle.basics.specs.Bytes.{le16}
use Rattle.basics.specs.Laws.Bytes.{length_bytes16}
use Rattle.basics.specs.Laws.Tables.{length_table}
use Rattle.basics.specs.Laws.Tests.{true_is_not_false}
use Rattle.hunk.specs.declared.Form.{Form}
use Rattle.hunk.specs.declared.Form.TheVariants.{Bytes, Decles, Words, Reserved}
use Rattle.hunk.specs.Forms.{form_of, is_reserved, count_for, start_for, most_for, size_for, count_of, size_of, lower, packets, body_for, but_last, last_of, data_in}

-- the start bytes of each form
abbrev pub Starts : Form → ℕ → Type 0
Starts Bytes b = (1 ≤ b) × (b < 0x40)
Starts Decles b = (0x40 ≤ b) × (b < 0xC0)
Starts Words b = (0xC0 ≤ b) × (b < 0xFE)
Starts Reserved b = (b ≡ 0) ⊎ (0xFE ≤ b)

pub starts_of : (b : ℕ) → Starts (form_of b) b
unfolding form_of
starts_of b = kind (eqb b 0x00) (ltb b 0x40) (ltb b 0xC0) (ltb b 0xFE) refl refl refl refl
  where
    kind : (z c d e : Bool) → eqb b 0x00 ≡ z → ltb b 0x40 ≡ c → ltb b 0xC0 ≡ d → ltb b 0xFE ≡ e → Starts (form_of b) b
    kind true c d e p q r t = rw p (inl (eqb-true b 0 p))
    kind false true d e p q r t = rw (p, q) (omega (arith, eqb-false b 0 p), ltb-true b 0x40 q)
    kind false false true e p q r t = rw (p, q, r) (ltb-false b 0x40 q, ltb-true b 0xC0 r)
    kind false false false true p q r t = rw (p, q, r, t) (ltb-false b 0xC0 r, ltb-true b 0xFE t)
    kind false false false false p q r t = rw (p, q, r, t) (inr (ltb-false b 0xFE t))

-- the start byte of up to the most words of a form names that form, and counts those words
pub form_start : (f : Form) (n : ℕ) → 1 ≤ n → n ≤ most_for f → form_of (start_for f n) ≡ f
unfolding form_of
form_start Bytes n h k =
    let a : n ≡ 0x00 → ⊥ = λ e. omega arith in
    let b : n < 0x40 = omega arith in
    rw (ne_eqb _ _ a, lt-ltb _ _ b)
form_start Decles n h k =
    let a : 0x3F + n ≡ 0x00 → ⊥ = λ e. omega arith in
    let b : 0x40 ≤ 0x3F + n = omega arith in
    let c : 0x3F + n < 0xC0 = omega arith in
    rw (ne_eqb _ _ a, le-ltb _ _ b, lt-ltb _ _ c)
form_start Words n h k =
    let a : 0xBF + n ≡ 0x00 → ⊥ = λ e. omega arith in
    let b : 0x40 ≤ 0xBF + n = omega arith in
    let c : 0xC0 ≤ 0xBF + n = omega arith in
    let d : 0xBF + n < 0xFE = omega arith in
    rw (ne_eqb _ _ a, le-ltb _ _ b, le-ltb _ _ c, lt-ltb _ _ d)
form_start Reserved n h k = absurd (omega arith)

count_for_lem : (f : Form) (n : ℕ) → n ≤ most_for f → count_for f (start_for f n) ≡ n
count_for_lem Bytes n k = refl
count_for_lem Decles n k = omega arith
count_for_lem Words n k = omega arith
count_for_lem Reserved n k = omega arith

pub count_start : (f : Form) (n : ℕ) → 1 ≤ n → n ≤ most_for f → count_of (start_for f n) ≡ n
unfolding count_of
count_start f n h k = rw (form_start f n h k) (count_for_lem f n k)

-- a data block that is not reserved has words, and at least two bytes more than words; it has at most 128 words
least_for : (f : Form) (b : ℕ) → Starts f b → is_reserved f ≡ false → (1 ≤ count_for f b) × (count_for f b + 2 ≤ size_for f (count_for f b))
least_for Bytes b s e = (omega arith, omega arith)
least_for Decles b s e = (omega arith, omega arith)
least_for Words b s e = (omega arith, omega arith)
least_for Reserved b s e = let z : ◌≡◌ {A = ℕ} 0 1 = cc in absurd (omega arith)

pub count_some : (b : ℕ) → is_reserved (form_of b) ≡ false → 1 ≤ count_of b
unfolding count_of
count_some b e = (least_for (form_of b) b (starts_of b) e).0

pub size_least : (b : ℕ) → is_reserved (form_of b) ≡ false → count_of b + 2 ≤ size_of b
unfolding count_of size_of
size_least b e = (least_for (form_of b) b (starts_of b) e).1

most_for_lem : (f : Form) (b : ℕ) → Starts f b → count_for f b ≤ 128
most_for_lem Bytes b s = omega arith
most_for_lem Decles b s = omega arith
most_for_lem Words b s = omega arith
most_for_lem Reserved b s = omega arith

pub count_most : (b : ℕ) → count_of b ≤ 128
unfolding count_of
count_most b = most_for_lem (form_of b) b (starts_of b)

-- a data block as it is written
length_body : (f : Form) (ws : List ℕ) → is_reserved f ≡ false → 3 + length (body_for f ws) ≡ size_for f (length ws + 1)
length_body Bytes ws e = omega (arith, length_table (length ws) (lower ws))
length_body Decles ws e = omega (arith, length_table ((length ws + 3) / 4 + length ws) (packets ws))
length_body Words ws e = omega (arith, length_bytes16 ws)
length_body Reserved ws e = true_is_not_false refl e

pub length_in : (f : Form) (words : List ℕ) → 1 ≤ length words → is_reserved f ≡ false → length (data_in f words) ≡ size_for f (length words)
unfolding data_in
length_in f words h e =
    let n : length (but_last words) + 1 ≡ length words = omega (arith, length-take (length words - 1) words) in
    omega (arith, length-append (body_for f (but_last words)) (le16 (last_of words)), length_body f (but_last words) e, ap (size_for f) n)
