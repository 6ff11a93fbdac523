-- What is put at the front of a buffer, and of a part of it; and bytes and words that a loop puts there one after the other.
use Rattle.std.specs.Prelude.{ℕ, ◌≤◌, ◌*◌, ◌<◌, ◌+◌, ◌-◌, ◌%◌, ◌/◌, List, ◌++◌, ◌∷◌, [], ◌≡◌, refl, length, take, get_or, set, drop}
use Rattle.std.proofs.Common.{append_assoc, append-nil, ap, ◌∙◌, sym, arith, add-one, length-set, length-append, drop_of_length-le, length-drop, drop-drop, take_all, length-take-le, take-suc, lt-ltb, le-ltb}
use Rattle.std.proofs.Math.Seq.{drop-append_seam, take-append_seam}
use borrow.Rule.Slice.PartMut.{put_mid}
use Rattle.basics.specs.Lists.{put_front}
use Rattle.basics.specs.Bytes.{bytes16}
use Rattle.basics.specs.Laws.Wrote.{Wrote, wrote_none, wrote_set, wrote_long, wrote_part}
use Rattle.basics.specs.Laws.Bytes.{length_bytes16, bytes16_append}

-- no room, and room
pub put_short : (x out : List ℕ) → length out < length x → out ≡ put_front x out
unfolding put_front
put_short x out h = rw (lt-ltb _ _ h)

pub put_room : (x out : List ℕ) → length x ≤ length out → put_front x out ≡ x ++ drop (length x) out
unfolding put_front
put_room x out h = rw (le-ltb _ _ h)

-- into a part of just its size
pub put_all : (x out : List ℕ) → length out ≡ length x → put_front x out ≡ x
put_all x out e = put_room x out (omega arith) ∙ ap (◌++◌ x) (drop_of_length-le out {i = length x} (omega arith)) ∙ append-nil x

pub put_wrote : (out₀ out x : List ℕ) → Wrote out₀ out x → out ≡ put_front x out₀
put_wrote out₀ out x c = c.is ∙ sym (put_room x out₀ c.fits)

-- a part of just its size that was lent to be put into, just after what is written
pub wrote_put :
    (out₀ out x : List ℕ) (a k : ℕ) (ys y : List ℕ) → Wrote out₀ out x → a ≡ length x → k ≡ length y → a + k ≤ length out₀
    → ys ≡ put_front y (take k (drop a out)) → Wrote out₀ (put_mid a k out ys) (x ++ y)
wrote_put out₀ out x a k ys y c ea ek h ey =
    let l : length (take k (drop a out)) ≡ k =
    length-take-le k (drop a out) (omega (arith, length-drop a out, wrote_long out₀ out x c)) in
    wrote_part out₀ out x a k ys y c ea ek h (ey ∙ put_all y (take k (drop a out)) (l ∙ ek))

-- what is put at the front of what lies behind what was put
pub put_behind : (x y out₀ out ys : List ℕ) (a k : ℕ) → length x + length y ≤ length out₀ → a ≡ length x → k ≡ length out - a → out ≡ put_front x out₀
    → ys ≡ put_front y (take k (drop a out)) → put_mid a k out ys ≡ put_front (x ++ y) out₀
put_behind x y out₀ out ys a k fits ea ek eo ey =
    let is : out ≡ x ++ drop (length x) out₀ = eo ∙ put_room x out₀ (omega arith) in
    let r : List ℕ = drop (length x) out₀ in
    let lr : length r ≡ length out₀ - length x = length-drop (length x) out₀ in
    let lo : length out ≡ length x + length r = ap length is ∙ length-append x r in
    let t : take a out ≡ x = rw ea (ap (take (length x)) is ∙ take-append_seam x r) in
    let d : drop a out ≡ r = rw ea (ap (drop (length x)) is ∙ drop-append_seam x r) in
    let n : drop k r ≡ [] = drop_of_length-le r {i = k} (omega arith) in
    let g : take k r ≡ r = take_all k r (omega arith) in
    let y₁ : ys ≡ y ++ drop (length y) r = ey ∙ rw (d, g) (put_room y r (omega arith)) in
    rw (t, d, n, y₁)
    (ap (◌++◌ x) (append-nil (y ++ drop (length y) r)) ∙ sym (append_assoc x y (drop (length y) r))
    ∙ ap (◌++◌ (x ++ y)) (drop-drop (length y) (length x) out₀ ∙ ap (λ (j : ℕ). drop j out₀) (sym (length-append x y)))
    ∙ sym (put_room (x ++ y) out₀ (omega (arith, length-append x y))))

-- the first i of the words are put, k bytes each, by f
pub record Putting (k : ℕ) (f : List ℕ → List ℕ) (ws out₀ out : List ℕ) (i : ℕ) : Type 0 where
  pub up : i ≤ length ws
  pub fits : k * length ws ≤ length out₀
  pub long : length out ≡ length out₀
  pub wrote : Wrote out₀ out (f (take i ws))

putting_all : (k : ℕ) (f : List ℕ → List ℕ) (ws out₀ out : List ℕ) (i : ℕ) → Putting k f ws out₀ out i → length ws ≤ i → out ≡ put_front (f ws) out₀
putting_all k f ws out₀ out i c h = rw (← take_all i ws h) (put_wrote out₀ out (f (take i ws)) c.wrote)

-- bytes
abbrev pub Copying : List ℕ → List ℕ → List ℕ → ℕ → Type 0
Copying bs out₀ out i = Putting 1 (λ x. x) bs out₀ out i

pub copy_none : (bs out : List ℕ) → length bs ≤ length out → Copying bs out out 0
copy_none bs out l = record { up = omega arith; fits = omega arith; long = refl; wrote = wrote_none out }

pub copy_more : (bs out₀ out : List ℕ) (i v : ℕ) → Copying bs out₀ out i → i < length bs → v ≡ get_or bs i 0 → Copying bs out₀ (set out i v) (i + 1)
copy_more bs out₀ out i v c h e =
    let l : length (take i bs) ≡ i = length-take-le i bs c.up in
    let t : take (i + 1) bs ≡ take i bs ++ (get_or bs i 0 ∷ []) = rw add-one (take-suc bs i 0 h) in
    record {
      up = omega arith;
      fits = c.fits;
      long = simp length-set c.long;
      wrote = rw t (wrote_set out₀ out (take i bs) i v (get_or bs i 0) c.wrote (sym l) (omega (arith, c.fits)) e);
    }

pub copy_all : (bs out₀ out : List ℕ) (i : ℕ) → Copying bs out₀ out i → length bs ≤ i → out ≡ put_front bs out₀
copy_all bs out₀ out i c h = putting_all 1 (λ x. x) bs out₀ out i c h

-- words, the lower byte first
abbrev pub Wording : List ℕ → List ℕ → List ℕ → ℕ → Type 0
Wording ws out₀ out i = Putting 2 bytes16 ws out₀ out i

pub word_short : (ws out : List ℕ) → length out / 2 < length ws → out ≡ put_front (bytes16 ws) out
word_short ws out h = put_short (bytes16 ws) out (omega (arith, length_bytes16 ws))

pub word_none : (ws out : List ℕ) → length ws ≤ length out / 2 → Wording ws out out 0
unfolding bytes16
word_none ws out l = record { up = omega arith; fits = omega arith; long = refl; wrote = wrote_none out }

pub word_more :
    (ws out₀ out : List ℕ) (i w a b : ℕ) → Wording ws out₀ out i → i < length ws → w ≡ get_or ws i 0 → a ≡ w % 256 → b ≡ w / 256
    → Wording ws out₀ (set (set out (2 * i) a) (2 * i + 1) b) (i + 1)
unfolding bytes16
word_more ws out₀ out i w a b c h ew ea eb =
    let x : List ℕ = bytes16 (take i ws) in
    let l : length x ≡ 2 * i = length_bytes16 (take i ws) ∙ ap (λ (n : ℕ). 2 * n) (length-take-le i ws c.up) in
    let room : 2 * i + 1 < length out₀ = omega (arith, c.fits) in
    let one : Wrote out₀ (set out (2 * i) a) (x ++ (w % 256 ∷ [])) = wrote_set out₀ out x (2 * i) a (w % 256) c.wrote (sym l) (omega arith) ea in
    let two : Wrote out₀ (set (set out (2 * i) a) (2 * i + 1) b) ((x ++ (w % 256 ∷ [])) ++ (w / 256 ∷ [])) =
    wrote_set out₀ (set out (2 * i) a) (x ++ (w % 256 ∷ [])) (2 * i + 1) b (w / 256) one (omega (arith, length-append x (w % 256 ∷ []))) room eb in
    let t : take (i + 1) ws ≡ take i ws ++ (w ∷ []) = rw (add-one, ew) (take-suc ws i 0 h) in
    let e : (x ++ (w % 256 ∷ [])) ++ (w / 256 ∷ []) ≡ bytes16 (take (i + 1) ws) =
    append_assoc x (w % 256 ∷ []) (w / 256 ∷ []) ∙ sym (bytes16_append (take i ws) (w ∷ [])) ∙ ap bytes16 (sym t) in
    record { up = omega arith; fits = c.fits; long = simp length-set c.long; wrote = rw e at two }

pub word_all : (ws out₀ out : List ℕ) (i : ℕ) → Wording ws out₀ out i → length ws ≤ i → out ≡ put_front (bytes16 ws) out₀
word_all ws out₀ out i c h = putting_all 2 bytes16 ws out₀ out i c h
