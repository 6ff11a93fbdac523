-- Each way out of a build: 21, the CFG's refusals, the rules', and the image pressed.
use Rattle.std.specs.Prelude.{Result, Ok, Err, ℕ, ◌<◌, zero, suc, ◌≤◌, ◌%◌, List, [], ◌∷◌, ◌++◌, ◌≡◌, Bool, cond, ◌||◌, length, take, drop, eqb}
use Rattle.std.proofs.Common.{◌∙◌, ap, sym, arith, take_all}
use Rattle.std.proofs.Math.Bool.{true, false}
use Rattle.std.proofs.Math.Dec.{ltb}
use borrow.Author.Tests.{ne_eqb, ltb-false}
use Rattle.basics.specs.declared.Refusal.{Refusal}
use Rattle.basics.specs.Rows.{Row, Silent, first_of}
use Rattle.basics.specs.Laws.Rows.{first_append}
use Rattle.basics.specs.Tables.{made}
use Rattle.basics.specs.declared.Declined.{Declined}
use Rattle.basics.specs.Refusals.{refuse, no_refusal, first_refusal, passed, declined}
use Rattle.layout.specs.Layout.{needed}
use Rattle.basics.specs.Laws.Outcomes.{outcome_at_err, err_is, err_some, ok_none, ok_value}
use Rattle.basics.specs.Laws.Refusals.{refused_front, silent_behind, accepted_exactly}
use Rattle.basics.specs.Laws.Tests.{cases, or_false_right}
use Rattle.places.specs.Limits.{bin_limit, line_limit, chapters}
use Rattle.lines.specs.declared.Line.{Line}
use Rattle.lines.specs.Bin.{bin_words}
use Rattle.cfg.specs.declared.Lines.{Lines}
use Rattle.cfg.specs.File.{lines_or, reading_of, entries_of, too_long, has_foreign, has_outside, no_entry, too_many, refusal_rows as cfgRows, refusal_of as cfgRefusal}
use Rattle.cfg.specs.Laws.Refusals.{exactly, refusal_is}
use Rattle.cfg.proofs.Theorems.Entries.{accepted_holds, Holds, all_typed}
use Rattle.rules.specs.Rules.{line_rows, out_of_range, not_allowed, share_rows, shares_earlier, chapter_rows, breaks_plain, refusal_rows as ruleRows, refusal_of as ruleRefusal}
use Rattle.rules.specs.Laws.Refusals.{each_refuses as rules-refuse, exactly as rules-exactly}
use Rattle.rules.specs.Accepted.{Accepted}
use Rattle.label.specs.Label.{wrong_label}
use Rattle.build.specs.declared.Built.{Built}
use Rattle.build.specs.Building.{Building, outcome_of}
use Rattle.build.specs.Building.{image_on, pressed_image, building_of, built_of, room_rows, refusal_of, refused, wrong_bin, too_large, too_short}
use Rattle.build.specs.Code.Answers.{bare, short, whole, Read, Answers, Pressed}

-- the numbers of the CFG's refusals, and of the rules'
below_by : (m : ℕ) (b : Bool) (x y : Refusal) → x.number < m → y.number < m → (cond b x y).number < m
below_by m true x y h l = h
below_by m false x y h l = l

cfg-below : (cfg : List ℕ) → (cfgRefusal cfg).number < 25
cfg-below cfg =
    below_by 25 (too_long cfg) _ _ (omega arith)
    (below_by 25 (has_foreign cfg) _ _ (omega arith)
    (below_by 25 (has_outside cfg) _ _ (omega arith)
    (below_by 25 (no_entry cfg) _ _ (omega arith) (below_by 25 (too_many cfg) _ _ (omega arith) (omega arith)))))

lines-below : (words : ℕ) (ls : List Line) (d : Refusal) → d.number < 29 → (first_of (line_rows words ls) d).number < 29
lines-below words [] d h = h
lines-below words (l ∷ ls) d h =
    below_by 29 (out_of_range words l.entry) _ _ (omega arith) (below_by 29 (not_allowed l) _ _ (omega arith) (lines-below words ls d h))

shares-below : (earlier ls : List Line) (d : Refusal) → d.number < 29 → (first_of (share_rows earlier ls) d).number < 29
shares-below earlier [] d h = h
shares-below earlier (l ∷ ls) d h =
    below_by 29 (shares_earlier earlier l.entry) _ _ (omega arith) (shares-below (earlier ++ (l ∷ [])) ls d h)

chapters-below : (f : ℕ → Bool) (i n : ℕ) (d : Refusal) → d.number < 29 → (first_of (made {A = Row Refusal} i n (λ x. (f x, refuse 28 x))) d).number < 29
unfolding made
chapters-below f i zero d h = h
chapters-below f i (suc n) d h = below_by 29 (f i) _ _ (omega arith) (chapters-below f (suc i) n d h)

rules-below : (words : ℕ) (ls : List Line) → (ruleRefusal words ls).number < 29
unfolding ruleRefusal
rules-below words ls =
    rw (first_append (line_rows words ls) (share_rows [] ls ++ chapter_rows ls) no_refusal)
    (lines-below words ls _
    (rw (first_append (share_rows [] ls) (chapter_rows ls) no_refusal)
    (shares-below [] ls _ (chapters-below (breaks_plain ls) 0 chapters no_refusal (omega arith)))))

-- what building ensures
abbrev pub Told : List ℕ → List ℕ → List ℕ → List ℕ → Result Built Declined → List ℕ → Type 0
Told bin cfg label out r after = (r ≡ outcome_of (building_of bin cfg label out)) × (after ≡ built_of bin cfg label out)

module _ (bin cfg label out : List ℕ) where
  refuses : (r : Refusal) → refusal_of bin cfg label out ≡ r → (r.number ≡ 0 → ⊥) → Answers bin cfg label out (refused bin cfg label r) out
  unfolding building_of built_of
  refuses r e h = record { answer = rw (e, ne_eqb r.number 0 h); leaves = rw (e, ne_eqb r.number 0 h) }

  -- any refusal but 29 answers nothing else
  refuses-bare : (r : Refusal) → refusal_of bin cfg label out ≡ r → (r.number ≡ 0 → ⊥) → (r.number ≡ 29 → ⊥) → Answers bin cfg label out (bare r) out
  refuses-bare r e h k = let a : Answers bin cfg label out (refused bin cfg label r) out = refuses r e h in rw (ne_eqb r.number 29 k) at a

  -- as the code says it: a refusal
  told : (r : Refusal) → (r.number ≡ 0 → ⊥) → Answers bin cfg label out (bare r) out → (d : Declined) → d ≡ declined r 0 → Told bin cfg label out (Err d) out
  told r n a d e = (rw e (sym (outcome_at_err r 0 _ n) ∙ ap outcome_of a.answer), a.leaves)

  -- 21
  pub refused-bin : (b : Bool) → b ≡ wrong_bin bin → b ≡ true → (d : Declined) → d ≡ declined (refuse 21 0) 0 → Told bin cfg label out (Err d) out
  unfolding refusal_of
  refused-bin b e h d ed = told (refuse 21 0) (λ z. omega arith) (refuses-bare (refuse 21 0) (rw (← e, h)) (λ z. omega arith) (λ z. omega arith)) d ed

  abbrev behind : List (Row Refusal)
  behind = ruleRows (bin_words bin) (entries_of cfg) ++ room_rows bin cfg label out

  module _ (fine : wrong_bin bin ≡ false) where
    parts : refusal_of bin cfg label out ≡ first_refusal (cfgRows cfg ++ behind)
    unfolding refusal_of
    parts = rw fine

    -- 22 to 24
    pub refused-cfg : (x : Result Lines Refusal) → x ≡ lines_or (reading_of cfg) → (r : Refusal) → x ≡ Err r → (d : Declined) → d ≡ declined r 0 → Told bin cfg label out (Err d) out
    refused-cfg x e r h d ed =
        let s : cfgRefusal cfg ≡ r = sym (refusal_is cfg) ∙ err_is (reading_of cfg).refusal _ r (sym e ∙ h) in
        let n : (cfgRefusal cfg).number ≡ 0 → ⊥ = rw (refusal_is cfg) at (err_some (reading_of cfg).refusal _ r (sym e ∙ h)) in
        told (cfgRefusal cfg) n (refuses-bare (cfgRefusal cfg) (parts ∙ refused_front (cfgRows cfg) behind n) n (λ z. omega (arith, cfg-below cfg))) d (rw (← s) at ed)

  module _ (lines : List Line) (given : Read bin cfg lines) where
    pub lines_are : lines ≡ entries_of cfg
    lines_are = given.entries

    behind-cfg : refusal_of bin cfg label out ≡ first_refusal behind
    behind-cfg = parts given.fine ∙ silent_behind (cfgRows cfg) behind ((exactly cfg).accepts.0 given.accepted)

    abbrev rule : Refusal
    rule = ruleRefusal (bin_words bin) (entries_of cfg)

    module _ (words : ℕ) (ew : words ≡ bin_words bin) (j : Result (Unit {0}) Refusal) (ej : j ≡ passed (ruleRefusal words lines)) where
      judged : passed rule ≡ j
      judged = sym (ej ∙ rw (ew, lines_are))

      -- 25 to 28
      pub refused-lines : (r : Refusal) → j ≡ Err r → (d : Declined) → d ≡ declined r 0 → Told bin cfg label out (Err d) out
      unfolding ruleRefusal
      refused-lines r h d ed =
          let n : rule.number ≡ 0 → ⊥ = err_some rule tt r (judged ∙ h) in
          told rule n
          (refuses-bare rule (behind-cfg ∙ refused_front (ruleRows (bin_words bin) (entries_of cfg)) _ n) n
          (λ z. omega (arith, rules-below (bin_words bin) (entries_of cfg)))) d (rw (← err_is rule tt r (judged ∙ h)) at ed)

      module _ (u : Unit {0}) (h : j ≡ Ok u) where
        silent : Silent (ruleRows (bin_words bin) (entries_of cfg))
        unfolding ruleRefusal
        silent =
            (accepted_exactly (ruleRows (bin_words bin) (entries_of cfg)) (rules-refuse (bin_words bin) (entries_of cfg))).0
            (ok_none rule tt u (judged ∙ h))

        accepted : Accepted bin lines
        accepted =
            let k : Holds cfg (reading_of cfg) = accepted_holds cfg given.accepted in
            rw lines_are (record { few = omega (arith, k.counted, k.most); typed = all_typed k.fitting; judged = (rules-exactly (bin_words bin) (entries_of cfg)).accepts.1 silent })

        as_many : take line_limit lines ≡ lines
        as_many = take_all line_limit lines accepted.few

        pub accepts : Accepted bin (take line_limit lines)
        accepts = rw as_many accepted

        image_is : image_on bin cfg label lines ≡ pressed_image bin cfg label
        unfolding pressed_image
        image_is = rw lines_are

        left : refusal_of bin cfg label out
            ≡ cond (too_large (entries_of cfg)) (refuse 20 0) (cond (wrong_label label) (refuse 12 0) (cond (too_short bin cfg label out) (refuse 29 0) no_refusal))
        left = behind-cfg ∙ silent_behind (ruleRows (bin_words bin) (entries_of cfg)) _ silent

        -- what pressing answers and leaves where the lines are the entries
        abbrev answer : Building
        answer = cond (too_large lines) (bare (refuse 20 0))
            (cond (wrong_label label) (bare (refuse 12 0))
            (cond (ltb (length out) (length (image_on bin cfg label lines))) (short (length (image_on bin cfg label lines))) (whole (length (image_on bin cfg label lines)) (needed lines))))

        abbrev leaves : List ℕ
        leaves = cond (too_large lines || (wrong_label label || ltb (length out) (length (image_on bin cfg label lines)))) out
            (image_on bin cfg label lines ++ drop (length (image_on bin cfg label lines)) out)

        -- 20
        large : too_large (entries_of cfg) ≡ true → Answers bin cfg label out answer leaves
        large t =
            let u : too_large lines ≡ true = rw lines_are t in
            rw u (refuses-bare (refuse 20 0) (left ∙ rw t) (λ z. omega arith) (λ z. omega arith))

        -- 12
        wrong : too_large (entries_of cfg) ≡ false → wrong_label label ≡ true → Answers bin cfg label out answer leaves
        wrong f t =
            let g : too_large lines ≡ false = rw lines_are f in
            rw (g, t) (refuses-bare (refuse 12 0) (left ∙ rw (f, t)) (λ z. omega arith) (λ z. omega arith))

        -- 29, and the image
        fitting : too_large (entries_of cfg) ≡ false → wrong_label label ≡ false → Answers bin cfg label out answer leaves
        unfolding building_of built_of too_short pressed_image
        fitting f o =
            let g : too_large lines ≡ false = rw lines_are f in
            cases (too_short bin cfg label out)
            (λ t.
            let v : refusal_of bin cfg label out ≡ refuse 29 0 = left ∙ rw (f, o, t) in
            let u : ltb (length out) (length (image_on bin cfg label lines)) ≡ true = rw image_is t in
            record { answer = rw (g, o, u, image_is, v); leaves = rw (g, o, u, v) })
            (λ t.
            let v : refusal_of bin cfg label out ≡ no_refusal = left ∙ rw (f, o, t) in
            let u : ltb (length out) (length (image_on bin cfg label lines)) ≡ false = rw image_is t in
            record { answer = rw (g, o, u, image_is, lines_are, v); leaves = rw (g, o, u, image_is, v) })

        pub pressed : (r : Result Built Declined) (after : List ℕ) → Pressed bin cfg label (take line_limit lines) out r after → Told bin cfg label out r after
        pressed r after k =
            let p : Pressed bin cfg label lines out r after = rw as_many at k in
            let a : Answers bin cfg label out answer leaves =
            cases (too_large (entries_of cfg)) large (λ f. cases (wrong_label label) (wrong f) (fitting f)) in
            (p.answer ∙ ap outcome_of a.answer, p.leaves ∙ a.leaves)

-- a BIN that 21 passes
pub bin_small : (bin : List ℕ) → wrong_bin bin ≡ false → length bin ≤ bin_limit
unfolding wrong_bin
bin_small bin h =
    let z : ltb bin_limit (length bin) ≡ false = or_false_right (eqb (length bin % 2) 1) _ (or_false_right (eqb (length bin) 0) _ h) in
    ltb-false bin_limit (length bin) z

-- a CFG that is read beside such a BIN
pub read-so : (bin cfg : List ℕ) (x : Result Lines Refusal) → wrong_bin bin ≡ false → x ≡ lines_or (reading_of cfg)
    → (l : Lines) → x ≡ Ok l → (es : List Line) → es ≡ take l.count l.lines → Read bin cfg es
read-so bin cfg x f e l h es q =
    let n : (reading_of cfg).refusal.number ≡ 0 = ok_none (reading_of cfg).refusal _ l (sym e ∙ h) in
    let v : record { count = (reading_of cfg).count; lines = (reading_of cfg).lines } ≡ l = ok_value (reading_of cfg).refusal _ l (sym e ∙ h) in
    record {
      fine = f;
      small = bin_small bin f;
      accepted = n;
      entries = q ∙ ap (λ (x : Lines). take x.count x.lines) (sym v) ∙ (accepted_holds cfg n).lines;
    }
