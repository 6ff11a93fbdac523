-- The loops over a hunk's data blocks: each knows the data blocks before its place.
use Rattle.std.specs.Prelude.{Option, Result, Ok, Err, Some, None, is_ok}
use Rattle.std.specs.Result.{result_unwrap_or}
use Prim.Native.Nat.{ℕ, ◌+◌, ◌-◌, ◌<◌, ◌≤◌, ◌^◌}
use mathlib.Core.List.{List, [], ◌∷◌, ◌++◌, append-nil}
use mathlib.Core.Path.{◌≡◌, refl, sym, ◌∙◌, ap}
use mathlib.Core.Bool.{Bool, true, false}
use mathlib.Core.Logic.{inl, inr}
use native.Mathlib.Omega.{arith}
use lib.Dec.{ltb, leb}
use lib.ListN.{length, length-append}
use borrow.Author.Tests.{ltb-true, ltb-false, leb-true, leb-false}
use mir.Syntax.{w64}
use mir.Val.{Fits}
use Rattle.basics.specs.Lists.{lay, laid, joined}
use Rattle.basics.specs.Laws.Tests.{cases, true_is_not_false}
use Rattle.basics.specs.Laws.Each.{joined_append}
use Rattle.basics.specs.Laws.Lay.{Inside, length_lay, lay_append, lay_table}
use Rattle.basics.specs.Laws.Tables.{length_table}
use Rattle.places.specs.declared.Locutus.{Locutus}
use Rattle.places.specs.Places.{locutus}
use Rattle.places.specs.Limits.{lent, lent_limit}
use Rattle.hunk.specs.declared.DataBlock.{DataBlock}
use Rattle.hunk.specs.Forms.{word}
use Rattle.hunk.specs.Hunk.{address, count_at, size_at, words_at, whole_at, data_starts, words_of, check_hunk, store_hunk}
use Rattle.hunk.specs.Code.Blocks.{Found, data_at, block_at, Room, Storable}
use Rattle.hunk.specs.Laws.Walk.{Intact, intact, past_end, Run, none, run_up, run_more, words_in, length_words, data_all, More, data_split}
use Rattle.hunk.specs.Laws.Refusals.{Reached, reach_none, reach_more, reach_end, reach_wrong, reach_past, cut_short, WholeIn, whole_words, store_passed, store_refused}

-- what stands at a place, by the code's cases
block_cases : {A : Type 0} (s : List ℕ) (p : ℕ) (b : Found) → b ≡ block_at s p
    → (length s ≤ p → b ≡ Ok None → A) → (p < length s → whole_at s p ≡ false → b ≡ Err p → A) → (whole_at s p ≡ true → b ≡ Ok (Some (data_at s p)) → A) → A
unfolding block_at
block_cases s p b e end wrong whole =
    cases (leb (length s) p) (λ t. end (leb-true _ _ t) (rw t at e))
    (λ t. cases (whole_at s p) (λ w. whole w (rw (t, w) at e)) (λ w. wrong (leb-false _ _ t) w (rw (t, w) at e)))

module _ (s : List ℕ) (p : ℕ) (b : Found) (eb : b ≡ block_at s p) where
  pub stands_end : b ≡ Ok None → length s ≤ p
  stands_end e =
      block_cases s p b eb (λ h f. h) (λ h w f. let z : ◌≡◌ {A = ℕ} 0 1 = cc in absurd (omega arith))
      (λ w f. let z : ◌≡◌ {A = ℕ} 0 1 = cc in absurd (omega arith))

  pub record Broken (q : ℕ) : Type 0 where
    pub here : p < length s
    pub broken : whole_at s p ≡ false
    pub place : q ≡ p

  pub stands_wrong : (q : ℕ) → b ≡ Err q → Broken q
  stands_wrong q e =
      block_cases s p b eb (λ h f. let z : ◌≡◌ {A = ℕ} 0 1 = cc in absurd (omega arith)) (λ h w f. let x : q ≡ p = cc in record { here = h; broken = w; place = x })
      (λ w f. let z : ◌≡◌ {A = ℕ} 0 1 = cc in absurd (omega arith))

  pub record Stands (d : DataBlock) : Type 0 where
    pub whole : whole_at s p ≡ true
    pub count : d.words ≡ count_at s p
    pub next : d.next ≡ p + size_at s p

  pub stands_data : (d : DataBlock) → b ≡ Ok (Some d) → Stands d
  stands_data d e =
      block_cases s p b eb (λ h f. let z : ◌≡◌ {A = ℕ} 0 1 = cc in absurd (omega arith))
      (λ h w f. let z : ◌≡◌ {A = ℕ} 0 1 = cc in absurd (omega arith))
      (λ w f. let x : d ≡ data_at s p = cc in record { whole = w; count = ap (λ (y : DataBlock). y.words) x; next = ap (λ (y : DataBlock). y.next) x })

  -- what a loop takes from it that goes on with a data block alone
  pub taken_data : (o : Option DataBlock) (d : DataBlock) → o ≡ result_unwrap_or b None → o ≡ Some d → b ≡ Ok (Some d)
  taken_data o d eo e = go b (sym eo ∙ e)
    where
      go : (x : Found) → result_unwrap_or x None ≡ Some d → x ≡ Ok (Some d)
      go (Ok o) q = ap Ok q
      go (Err k) q = let z : ◌≡◌ {A = ℕ} 0 1 = cc in absurd (omega arith)

  -- the next data block stands further on
  pub stands_less : (d : DataBlock) → b ≡ Ok (Some d) → length s - d.next < length s - p
  stands_less d e =
      let k : Stands d = stands_data d e in
      let h : Intact s p = intact s p k.whole in
      omega arith

-- the check: n words are counted
pub record Checking (s : List ℕ) (m : ℕ) (at : Locutus) (p n : ℕ) : Type 0 where
  pub long : 3 ≤ length s
  pub begins : at ≡ address s
  pub reached : Reached s m p n

pub check_short : (s : List ℕ) (m : ℕ) → length s < 3 → Err 0 ≡ check_hunk s m
check_short s m h = sym (cut_short s m h)

pub check_start : (s : List ℕ) (m : ℕ) (at : Locutus) → 3 ≤ length s → at ≡ address s → Checking s m at 3 0
check_start s m at h e = record { long = h; begins = e; reached = reach_none s m }

module _ (s : List ℕ) (m : ℕ) (at : Locutus) (p n : ℕ) (c : Checking s m at p n) (b : Found) (eb : b ≡ block_at s p) where
  pub check_end : b ≡ Ok None → Ok n ≡ check_hunk s m
  check_end e = sym (reach_end s m p n c.reached c.long (stands_end s p b eb e))

  pub check_wrong : (q : ℕ) → b ≡ Err q → Err q ≡ check_hunk s m
  check_wrong q e = let w = stands_wrong s p b eb q e in ap Err w.place ∙ sym (reach_wrong s m p n c.reached c.long w.here w.broken)

  module _ (d : DataBlock) (e : b ≡ Ok (Some d)) where
    stands : Stands s p b eb d
    stands = stands_data s p b eb d e

    pub check_fits : length s < 2 ^ 64 → Fits w64 (n + d.words)
    check_fits h =
        let l : Intact s p = intact s p stands.whole in
        omega (arith, run_up c.reached.run, c.reached.count, stands.count)

    place : at.0 + (n + d.words) ≡ (address s).0 + (n + count_at s p)
    place = rw (c.begins, stands.count)

    module _ (t : Bool) (et : t ≡ ltb m (at.0 + (n + d.words))) where
      pub check_past : t ≡ true → Err p ≡ check_hunk s m
      check_past h =
          sym (reach_past s m p n c.reached c.long stands.whole (omega (arith, place, ltb-true m (at.0 + (n + d.words)) (sym et ∙ h))))

      pub check_more : t ≡ false → Checking s m at d.next (n + d.words)
      check_more h =
          record {
            long = c.long;
            begins = c.begins;
            reached =
                rw (stands.next, stands.count)
                (reach_more s m p n c.reached stands.whole (omega (arith, place, ltb-false m (at.0 + (n + d.words)) (sym et ∙ h))));
          }

-- the store: the words of the data blocks before p are laid, and the next goes to `at`
pub record Storing (s : List ℕ) (at : Locutus) (p : ℕ) (ram₀ ram : List ℕ) : Type 0 where
  pub before : List ℕ
  pub run : Run s 3 before p
  pub inside : Inside (address s).0 (words_of s) (lent ram₀)
  pub place : at.0 ≡ (address s).0 + length (words_in s before)
  pub long : length ram ≡ length ram₀
  pub stored : ram ≡ lay (address s).0 (words_in s before) ram₀

pub store_start : (s ram : List ℕ) (at : Locutus) → Storable s (lent ram) → at ≡ address s → Storing s at 3 ram ram
unfolding joined laid
store_start s ram at i e =
    record { before = []; run = none; inside = i.inside; place = ap (λ (l : Locutus). l.0) e ∙ omega arith; long = refl; stored = refl }

module _ (s : List ℕ) (at : Locutus) (p : ℕ) (ram₀ ram : List ℕ) (c : Storing s at p ram₀ ram) (b : Found) (eb : b ≡ block_at s p) where
  store_stop : whole_at s p ≡ false → ram ≡ lay (address s).0 (words_of s) ram₀
  unfolding words_of
  store_stop w = c.stored ∙ ap (λ (ps : List ℕ). lay (address s).0 (words_in s ps) ram₀) (sym (data_all s c.before p c.run w))

  pub store_end : (o : Option DataBlock) → o ≡ result_unwrap_or b None → o ≡ None → ram ≡ lay (address s).0 (words_of s) ram₀
  store_end o eo e = go b refl (sym eo ∙ e)
    where
      go : (x : Found) → b ≡ x → result_unwrap_or x None ≡ None → ram ≡ lay (address s).0 (words_of s) ram₀
      go (Ok None) eq q = store_stop (past_end s p (stands_end s p b eb eq))
      go (Ok (Some d)) eq q = let z : ◌≡◌ {A = ℕ} 0 1 = cc in absurd (omega arith)
      go (Err k) eq q = store_stop (stands_wrong s p b eb k eq).broken

  module _ (d : DataBlock) (e : b ≡ Ok (Some d)) where
    next : Stands s p b eb d
    next = stands_data s p b eb d e

    -- the words of a payload, with those of this data block behind those before it
    more : length (words_in s c.before) + d.words ≤ length (words_of s)
    unfolding words_of
    more =
        let t : More (data_starts s) c.before p = data_split s c.before p c.run next.whole in
        let l : length (words_of s) ≡ length (words_in s c.before) + length (words_in s (p ∷ t.rest)) =
        ap (λ (ps : List ℕ). length (words_in s ps)) t.is ∙ ap length (joined_append (words_at s) c.before (p ∷ t.rest))
        ∙ length-append (words_in s c.before) (words_in s (p ∷ t.rest)) in
        omega (arith, length_words s p t.rest, next.count)

    pub store_in : at.0 + d.words ≤ lent ram₀
    store_in = go c.inside
      where
        go : Inside (address s).0 (words_of s) (lent ram₀) → at.0 + d.words ≤ lent ram₀
        go (inl z) = let h : Intact s p = intact s p next.whole in absurd (omega (arith, more, next.count))
        go (inr i) = omega (arith, more, c.place)

    pub store_room : Room s p d.words (length ram) at.0
    store_room = record { whole = next.whole; words = next.count; room = omega (arith, store_in, c.long) }

    pub store_low : at.0 + d.words ≤ lent_limit
    store_low = omega (arith, store_in)

    pub store_more : (to : Locutus) (then : List ℕ) → to ≡ locutus (at.0 + d.words) → then ≡ laid at.0 d.words (word s p) ram → Storing s to d.next ram₀ then
    unfolding joined
    store_more to then et en =
        let a : ℕ = (address s).0 in
        let ws : List ℕ = words_in s c.before in
        let all : words_in s (c.before ++ (p ∷ [])) ≡ ws ++ words_at s p =
        joined_append (words_at s) c.before (p ∷ []) ∙ ap (◌++◌ ws) (append-nil (words_at s p)) in
        let n : length (words_at s p) ≡ d.words = length_table (count_at s p) (word s p) ∙ sym next.count in
        let laid_on : then ≡ lay at.0 (words_at s p) ram =
        en ∙ ap (λ (j : ℕ). laid at.0 j (word s p) ram) next.count ∙ sym (lay_table at.0 (count_at s p) (word s p) ram) in
        record {
          before = c.before ++ (p ∷ []);
          run = rw next.next (run_more c.run next.whole);
          inside = c.inside;
          place = ap (λ (l : Locutus). l.0) et ∙ omega (arith, ap length all, length-append ws (words_at s p), n, c.place);
          long = ap length laid_on ∙ length_lay at.0 (words_at s p) ram ∙ c.long;
          stored =
              laid_on
              ∙ ap (lay at.0 (words_at s p)) c.stored
              ∙ ap (λ (j : ℕ). lay j (words_at s p) (lay a ws ram₀)) c.place
              ∙ sym (lay_append a ws (words_at s p) ram₀)
              ∙ ap (λ (xs : List ℕ). lay a xs ram₀) (sym all);
        }

-- what is stored, by what the check answered
module _ (s ram : List ℕ) (m : ℕ) (em : m ≡ lent ram) (k : Result ℕ ℕ) (ek : k ≡ check_hunk s m) where
  answered : check_hunk s (lent ram) ≡ k
  answered = ap (check_hunk s) (sym em) ∙ sym ek

  pub store_kept : is_ok k ≡ false → ram ≡ store_hunk s ram
  store_kept = go k answered
    where
      go : (x : Result ℕ ℕ) → check_hunk s (lent ram) ≡ x → is_ok x ≡ false → ram ≡ store_hunk s ram
      go (Ok n) e t = true_is_not_false refl t
      go (Err n) e t = sym (store_refused s ram n e)

  module _ (t : is_ok k ≡ true) where
    pub store_storable : Storable s (lent ram)
    store_storable = go k answered t
      where
        go : (x : Result ℕ ℕ) → check_hunk s (lent ram) ≡ x → is_ok x ≡ true → Storable s (lent ram)
        go (Ok n) e t = let p : WholeIn s (lent ram) n = whole_words s (lent ram) n e in record { long = p.long; inside = p.inside }
        go (Err n) e t = true_is_not_false t refl

    pub store_laid : (then : List ℕ) → then ≡ lay (address s).0 (words_of s) ram → then ≡ store_hunk s ram
    store_laid then el = go k answered t
      where
        go : (x : Result ℕ ℕ) → check_hunk s (lent ram) ≡ x → is_ok x ≡ true → then ≡ store_hunk s ram
        go (Ok n) e t = el ∙ sym (store_passed s ram n e)
        go (Err n) e t = true_is_not_false t refl
