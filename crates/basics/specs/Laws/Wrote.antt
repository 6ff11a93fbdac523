-- How far a buffer is written: `Wrote out₀ out x` says that x stands at the front of out, and behind it what stood in out₀.
use Rattle.std.specs.Prelude.{ℕ, ◌≤◌, ◌<◌, suc, ◌+◌, List, ◌++◌, [], ◌∷◌, ◌≡◌, refl, length, drop, set, get_or, take}
use Rattle.std.proofs.Common.{append-nil, append_assoc, ap, ◌∙◌, sym, ap₂, arith, length-append, length-drop, drop_of_length-le, drop-cons, drop-drop}
use Rattle.std.proofs.Math.Seq.{drop-append_seam, set-append_seam, take-append_seam}
use borrow.Rule.Slice.PartMut.{put_mid}

pub record Wrote (out₀ out x : List ℕ) : Type 0 where
  pub fits : length x ≤ length out₀
  pub is : out ≡ x ++ drop (length x) out₀

pub wrote_none : (out : List ℕ) → Wrote out out []
wrote_none out = record { fits = omega arith; is = refl }

pub wrote_long : (out₀ out x : List ℕ) → Wrote out₀ out x → length out ≡ length out₀
wrote_long out₀ out x c =
    ap length c.is ∙ length-append x (drop (length x) out₀) ∙ omega (arith, length-drop (length x) out₀, c.fits)

pub wrote_all : (out₀ out x : List ℕ) → Wrote out₀ out x → length x ≡ length out₀ → out ≡ x
wrote_all out₀ out x c e = c.is ∙ ap (◌++◌ x) (drop_of_length-le out₀ {i = length x} (omega arith)) ∙ append-nil x

-- one store at the end of what is written
pub wrote_set : (out₀ out x : List ℕ) (i v w : ℕ) → Wrote out₀ out x → i ≡ length x → i < length out₀ → v ≡ w → Wrote out₀ (set out i v) (x ++ (w ∷ []))
wrote_set out₀ out x i v w c ei h ev =
    let k : length x < length out₀ = omega arith in
    let l : length (x ++ (w ∷ [])) ≡ suc (length x) = length-append x (w ∷ []) ∙ omega arith in
    record {
      fits = omega arith;
      is =
          rw (ei, ev)
          (ap (λ (r : List ℕ). set r (length x) w) (c.is ∙ ap (◌++◌ x) (drop-cons out₀ (length x) 0 k))
          ∙ set-append_seam x (get_or out₀ (length x) 0) (drop (suc (length x)) out₀) w
          ∙ sym (append_assoc x (w ∷ []) (drop (suc (length x)) out₀)) ∙ ap (λ (j : ℕ). (x ++ (w ∷ [])) ++ drop j out₀) (sym l));
    }

-- a part that was lent, just after what is written, comes back as y
pub wrote_part : (out₀ out x : List ℕ) (a k : ℕ) (ys y : List ℕ) → Wrote out₀ out x → a ≡ length x → k ≡ length y → a + k ≤ length out₀ → ys ≡ y
    → Wrote out₀ (put_mid a k out ys) (x ++ y)
wrote_part out₀ out x a k ys y c ea ek h ey =
    let l : length (x ++ y) ≡ length x + length y = length-append x y in
    record {
      fits = omega arith;
      is =
          rw (ea, ek, ey)
          (ap₂ (λ (p q : List ℕ). p ++ (y ++ drop (length y) q)) (ap (take (length x)) c.is ∙ take-append_seam x _) (ap (drop (length x)) c.is ∙ drop-append_seam x _)
          ∙ ap (λ (r : List ℕ). x ++ (y ++ r)) (drop-drop (length y) (length x) out₀)
          ∙ sym (append_assoc x y (drop (length x + length y) out₀)) ∙ ap (λ (j : ℕ). (x ++ y) ++ drop j out₀) (sym l));
    }
