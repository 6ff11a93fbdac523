-- Good lines whose words are in the BIN are accepted: no rule of 25 to 28 finds anything in them.
use Rattle.std.specs.Prelude.{◌%◌, ◌+◌, ◌-◌, ◌/◌, ◌<◌, ◌≤◌, suc, zero, ℕ, ◌≡◌, refl, List, ◌∷◌, Bool, false, true, ◌⊎◌, eqb, leb}
use Rattle.std.proofs.Common.{inl, inr, ⊎_elim, arith, eq-eqb, eqb-true, le-leb, le-ltb, ne_eqb}
use Rattle.std.proofs.lemmas.Bool.{eqb-false, lt-leb}
use Rattle.basics.specs.Laws.Rows.{silent_append}
use Rattle.basics.specs.Laws.Tests.{and_false, cases, or_left, or_right}
use Rattle.basics.specs.Lists.{Each, none as no_more, also as and-also}
use Rattle.basics.specs.Refusals.{refuse}
use Rattle.basics.specs.Rows.{Row, Silent, none as silence, also as still}
use Rattle.basics.specs.Tables.{made}
use Rattle.basics.specs.declared.Refusal.{Refusal}
use Rattle.switches.specs.Flips.{first_k}
use Rattle.lines.specs.Lines.{layer}
use Rattle.lines.specs.Typed.{All, cons, nil}
use Rattle.lines.specs.declared.Entry.{Entry}
use Rattle.lines.specs.declared.Line.{Line}
use Rattle.rules.specs.Code.Clashes.{Numbered}
use Rattle.rules.specs.Code.Shapes.{Fine, PageLine, PageShape, PlainLine, PlainShape}
use Rattle.rules.specs.Laws.Rules.{Good, Separate, done, next}
use Rattle.rules.specs.Rules.{breaks_plain, line_rows, meets, misshapen, not_allowed, out_of_range, page_shape, plain_shape, refusal_rows, share_rows, shares, shares_earlier, touches_silent, whole_page}
use Rattle.canon.specs.Laws.Lines.{all_append}

apart_ranges : (a b c d : ℕ) → (b < c) ⊎ (d < a) → meets a b c d ≡ false
apart_ranges a b c d (inl h) = and_false (leb a d) (leb c b) (lt-leb c b h)
apart_ranges a b c d (inr h) = rw (lt-leb a d h)

plain_fits : (a b : ℕ) → PlainShape a b → plain_shape a b ≡ true
unfolding plain_shape touches_silent
plain_fits a b s =
    rw (
      eq-eqb (a % 256) 0 s.start,
      eq-eqb (b % 256) 255 s.end,
      apart_ranges a b 0 0x4FF (inr (omega (arith, s.above))),
      apart_ranges a b 0x1000 0x1FFF (⊎_elim (λ h. inl h) (λ h. inr (omega arith)) s.one),
      apart_ranges a b 0x3000 0x3FFF (⊎_elim (λ h. inl h) (λ h. inr (omega arith)) s.three),
    )

page_fits : (a b : ℕ) → PageShape a b → page_shape a b ≡ true
unfolding page_shape
page_fits a b s =
    cases (eqb (a / 4096) 4)
    (λ e.
    let z : a / 4096 ≡ 4 = eqb-true (a / 4096) 4 e in
    let k : first_k (a / 4096) ≡ 8 = rw e in
    or_right (whole_page a b) _ (rw (eq-eqb (b - a + 1) 2048 (omega (arith, s.start, s.end)), eq-eqb a 0x4800 (omega (arith, s.start)))))
    (λ e.
    let k : first_k (a / 4096) ≡ 0 = rw e in
    let n : a / 4096 ≡ 4 → ⊥ = eqb-false (a / 4096) 4 e in
    or_left (whole_page a b) _
    (rw (eq-eqb (b - a + 1) 4096 (omega (arith, s.start, s.end)), eq-eqb (a % 4096) 0 (omega (arith, s.start)))
    (cases (eqb (a / 4096) 2) (λ f. or_left _ _ f)
    (λ f. or_right (eqb (a / 4096) 2) _ (le-leb 5 (a / 4096) (omega (arith, s.above, s.not_three, eqb-false (a / 4096) 2 f)))))))

well_shaped : (e : Entry) → (PlainLine e) ⊎ (PageLine e) → misshapen e ≡ false
well_shaped e (inl p) = rw (eq-eqb (layer e) 0 p.on, plain_fits _ _ p.shape)
well_shaped e (inr p) =
    rw (
      ne_eqb (layer e) 0 (λ z. omega (arith, p.on)),
      le-ltb 16 (layer e) (omega (arith, p.on, p.digit)),
      page_fits _ _ p.shape,
    )

line_allowed : (l : Line) → Fine l.entry → Numbered l → not_allowed l ≡ false
line_allowed l f n = rw (ne_eqb l.source 0 (λ z. omega arith)) (well_shaped l.entry f.shape)

line_silent : (words : ℕ) {ls : List Line} → All (λ e. out_of_range words e ≡ false) ls → All Fine ls → Each Numbered ls → Silent (line_rows words ls)
line_silent words nil nil no_more = silence
line_silent words (cons {l = l} o os) (cons f fs) (and-also n ns) = still o (still (line_allowed l f n) (line_silent words os fs ns))

-- 27
heads : {l : Line} {ls es : List Line} → All (λ e. All (λ f. shares e f ≡ false) (l ∷ ls)) es → All (λ e. shares e l.entry ≡ false) es
heads nil = nil
heads (cons (cons a bs) c) = cons a (heads c)

tails : {l : Line} {ls es : List Line} → All (λ e. All (λ f. shares e f ≡ false) (l ∷ ls)) es → All (λ e. All (λ f. shares e f ≡ false) ls) es
tails nil = nil
tails (cons (cons a bs) c) = cons bs (tails c)

none_earlier : (f : Entry) {es : List Line} → All (λ e. shares e f ≡ false) es → shares_earlier es f ≡ false
none_earlier f nil = refl
none_earlier f (cons a bs) = rw a (none_earlier f bs)

share_silent : {earlier ls : List Line} → Separate ls → All (λ e. All (λ f. shares e f ≡ false) ls) earlier → Silent (share_rows earlier ls)
share_silent done c = silence
share_silent {earlier} (next {l = l} a s) c = still (none_earlier l.entry (heads c)) (share_silent s (all_append (tails c) (cons a nil)))

chapter_silent : (f : ℕ → Bool) (i n : ℕ) → ((x : ℕ) → i ≤ x → x < i + n → f x ≡ false) → Silent (made {A = Row Refusal} i n (λ x. (f x, refuse 28 x)))
unfolding made
chapter_silent f i zero h = silence
chapter_silent f i (suc n) h = still (h i (omega arith) (omega arith)) (chapter_silent f (suc i) n (λ x a b. h x (omega arith) (omega arith)))

pub judged_silent : (words : ℕ) (ls : List Line) → Good ls → Each Numbered ls → All (λ e. out_of_range words e ≡ false) ls → Silent (refusal_rows words ls)
judged_silent words ls g n o =
    silent_append (line_silent words o g.fine n)
    (silent_append (share_silent g.separate nil) (chapter_silent (breaks_plain ls) 0 16 (λ x a b. g.plain x (omega arith))))
