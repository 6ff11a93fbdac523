-- Each way out of `read_cfg` and of `judge` is a row of the table, or that none of theirs holds.
use Prim.Native.Nat.{ℕ, ◌<◌, ◌≤◌}
use Rattle.std.specs.Prelude.{Result, Ok, Err, Some, None}
use mathlib.Core.Bool.{Bool, true, false, cond}
use native.Mathlib.Omega.{arith}
use lib.Dec.{eqb, ltb}
use Rattle.basics.specs.Laws.Tests.{cases}
use mathlib.Core.List.{List}
use mathlib.Core.Path.{◌≡◌, refl, sym, ◌∙◌, ap}
use lib.ListN.{length}
use borrow.Author.Tests.{eqb-true, eqb-false, lt-ltb, le-ltb, ne_eqb}
use Rattle.basics.specs.declared.Refusal.{Refusal}
use Rattle.basics.specs.Refusals.{refuse}
use Rattle.places.specs.Limits.{cfg_limit}
use Rattle.text.specs.Bytes.{first_foreign}
use Rattle.text.specs.Lines.{line_of}
use Rattle.cfg.specs.declared.Lines.{Lines}
use Rattle.cfg.specs.declared.Scan.{Scan}
use Rattle.cfg.specs.File.{reading_of, says_of, lines_or, outside_line, too_many, extra_line}
use Rattle.cfg.specs.Code.Steps.{scan_of, judged, named, number_in, is_there}

named_there : (n : ℕ) → is_there (named n) ≡ ltb 0 n
named_there n = cases (eqb n 0) (λ q. let z : n ≡ 0 = eqb-true n 0 q in rw z refl)
    (λ q. let h : n ≡ 0 → ⊥ = eqb-false n 0 q in rw q (sym (lt-ltb 0 n (omega arith))))

named_number : (n : ℕ) → number_in (named n) ≡ n
named_number n = cases (eqb n 0) (λ q. let z : n ≡ 0 = eqb-true n 0 q in rw z refl) (λ q. rw q refl)

there_by : (t : Bool) (s : ℕ) → is_there (cond t (Some s) None) ≡ t
there_by true s = refl
there_by false s = refl

row_by : (t : Bool) (s : ℕ) (r : Refusal) → cond t (refuse 24 (number_in (cond t (Some s) None))) r ≡ cond t (refuse 24 s) r
row_by true s r = refl
row_by false s r = refl

module _ (cfg : List ℕ) where
  pub read-long : (a : Refusal) → cfg_limit < length cfg → a ≡ refuse 22 0 → Err a ≡ lines_or (reading_of cfg)
  unfolding reading_of
  read-long a h e = rw (e, lt-ltb cfg_limit (length cfg) h)

  module _ (at : ℕ) (h : length cfg ≤ cfg_limit) (q : at ≡ first_foreign cfg) where
    pub read-foreign : (n : ℕ) (a : Refusal) → at < length cfg → n ≡ line_of cfg at → a ≡ refuse 22 n → Err a ≡ lines_or (reading_of cfg)
    unfolding reading_of
    read-foreign n a k p f = rw (f, p, le-ltb cfg_limit (length cfg) h, ← q, lt-ltb at (length cfg) k)

    pub read-lines : (st : Scan) (r : Result Lines Refusal) → length cfg ≤ at → st ≡ scan_of (says_of cfg) → r ≡ lines_or (judged st) → r ≡ lines_or (reading_of cfg)
    unfolding reading_of
    read-lines st r k s e =
        e ∙ ap (λ (x : Scan). lines_or (judged x)) s
        ∙ rw (
          le-ltb cfg_limit (length cfg) h,
          ← q,
          le-ltb at (length cfg) k,
          named_there (outside_line cfg),
          named_number (outside_line cfg),
          there_by (too_many cfg) (extra_line cfg),
          row_by (too_many cfg) (extra_line cfg),
        ) refl

-- refusals 23 and 24, by what all lines say
module _ (st : Scan) where
  pub judge-outside : (n : ℕ) (a : Refusal) → st.outside ≡ Some n → a ≡ refuse 23 n → Err a ≡ lines_or (judged st)
  judge-outside n a h f = rw (f, h)

  module _ (h : st.outside ≡ None) where
    pub judge_none : (a : Refusal) → st.count ≡ 0 → a ≡ refuse 24 0 → Err a ≡ lines_or (judged st)
    judge_none a k f = rw (f, h, k)

    module _ (k : st.count ≡ 0 → ⊥) where
      pub judge-many : (n : ℕ) (a : Refusal) → st.extra ≡ Some n → a ≡ refuse 24 n → Err a ≡ lines_or (judged st)
      judge-many n a l f = rw (f, h, ne_eqb st.count 0 k, l)

      pub judge-all : st.extra ≡ None → Ok (record { count = st.count; lines = st.lines }) ≡ lines_or (judged st)
      judge-all l = rw (h, ne_eqb st.count 0 k, l)
