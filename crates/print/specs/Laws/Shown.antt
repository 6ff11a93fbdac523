-- The bytes of a written CFG: 0x20 to 0x7E, and LF.
use Rattle.std.specs.Prelude.{◌%◌, ◌+◌, ◌-◌, ◌/◌, ◌<◌, ◌≤◌, suc, ℕ, ◌≡◌, refl, List, [], ◌∷◌, Bool, ◌&&◌, ◌||◌, false, true, eqb, leb, ltb, get_or, length}
use Rattle.std.proofs.Common.{ap, ⊎_elim, arith, eqb-true, le-leb, ltb-true}
use Rattle.basics.specs.Laws.Each.{each_append}
use Rattle.basics.specs.Laws.Tests.{and_left, and_right, and_true, cases, or_cases, or_left}
use Rattle.basics.specs.Lists.{Each, also, none}
use Rattle.text.specs.Bytes.{first_foreign, foreign, lf, text, until}
use Rattle.text.specs.Spelling.{upper_digit}
use Rattle.lines.specs.declared.Entry.{Entry}
use Rattle.lines.specs.declared.Entry.TheVariants.{Paged, Ram, Rom}
use Rattle.lines.specs.declared.Width.{Width}
use Rattle.lines.specs.declared.Width.TheVariants.{Eight, Sixteen}
use Rattle.grammar.specs.Print.{entry_text, five_digits, four_digits, width_text}
use Rattle.print.specs.Cfg.{InMapping, InMemattr, line_text}

abbrev pub is_shown : ℕ → Bool
is_shown b = leb 0x20 b && leb b 0x7E

abbrev pub Shown : List ℕ → Type 0
Shown s = Each (λ b. is_shown b ≡ true) s

-- a literal text
abbrev pub all_shown : List ℕ → Bool
all_shown [] = true
all_shown (b ∷ s) = is_shown b && all_shown s

pub shown_text : (s : List ℕ) → all_shown s ≡ true → Shown s
shown_text [] e = none
shown_text (b ∷ s) e = also (and_left (is_shown b) _ e) (shown_text s (and_right (is_shown b) _ e))

shown_between : (b : ℕ) → 0x20 ≤ b → b ≤ 0x7E → is_shown b ≡ true
shown_between b h l = and_true (leb 0x20 b) (leb b 0x7E) (le-leb 0x20 b h) (le-leb b 0x7E l)

digit_shown : (d : ℕ) → d < 16 → is_shown (upper_digit d) ≡ true
unfolding upper_digit
digit_shown d h =
    cases (ltb d 10) (λ e. rw e (shown_between (48 + d) (omega arith) (omega (arith, ltb-true d 10 e))))
    (λ e. rw e (shown_between (65 + (d - 10)) (omega arith) (omega arith)))

nibble_shown : (n : ℕ) → is_shown (upper_digit (n % 16)) ≡ true
nibble_shown n = digit_shown (n % 16) (omega arith)

four_shown : (n : ℕ) → Shown (four_digits n)
four_shown n =
    also refl (also (nibble_shown (n / 4096)) (also (nibble_shown (n / 256)) (also (nibble_shown (n / 16)) (also (nibble_shown n) none))))

five_shown : (n : ℕ) → Shown (five_digits n)
five_shown n =
    also refl
    (also (nibble_shown (n / 65536))
    (also (nibble_shown (n / 4096)) (also (nibble_shown (n / 256)) (also (nibble_shown (n / 16)) (also (nibble_shown n) none)))))

width_shown : (w : Width) → Shown (width_text w)
width_shown Sixteen = shown_text (text "16") refl
width_shown Eight = shown_text (text "8") refl

pub mapping_shown : (e : Entry) → InMapping e → Shown (entry_text e)
mapping_shown (Rom lo hi at) f =
    each_append _ _ (five_shown lo.0)
    (each_append _ _ (shown_text (text " - ") refl)
    (each_append _ _ (five_shown hi.0) (each_append _ _ (shown_text (text " = ") refl) (four_shown at.0))))
mapping_shown (Paged lo hi at y) f =
    each_append _ _ (five_shown lo.0)
    (each_append _ _ (shown_text (text " - ") refl)
    (each_append _ _ (five_shown hi.0)
    (each_append _ _ (shown_text (text " = ") refl)
    (each_append _ _ (four_shown at.0) (each_append _ _ (shown_text (text " PAGE ") refl) (also (digit_shown y.0 f.3) none))))))
mapping_shown (Ram lo hi w) f = absurd f

pub memattr_shown : (e : Entry) → InMemattr e → Shown (entry_text e)
memattr_shown (Rom lo hi at) f = absurd f
memattr_shown (Paged lo hi at y) f = absurd f
memattr_shown (Ram lo hi w) f =
    each_append _ _ (four_shown lo.0)
    (each_append _ _ (shown_text (text " - ") refl)
    (each_append _ _ (four_shown hi.0) (each_append _ _ (shown_text (text " = RAM ") refl) (width_shown w))))

-- bytes that may stand in a CFG whatever stands behind them
abbrev pub is_written : ℕ → Bool
is_written b = is_shown b || eqb b lf

abbrev pub AllWritten : List ℕ → Type 0
AllWritten s = Each (λ b. is_written b ≡ true) s

pub written_line : (s : List ℕ) → Shown s → AllWritten (line_text s)
written_line [] none = also refl none
written_line (b ∷ s) (also e r) = also (or_left _ _ e) (written_line s r)

-- no byte is foreign
written_allowed : (b next : ℕ) → is_written b ≡ true → foreign b next ≡ false
written_allowed b next e =
    ⊎_elim (λ h. rw h) (λ h. let z : b ≡ lf = eqb-true b lf h in rw z) (or_cases (is_shown b) (eqb b lf) e)

pub none_foreign : (s : List ℕ) → AllWritten s → first_foreign s ≡ length s
unfolding until
none_foreign [] none = refl
none_foreign (b ∷ s) (also e r) = rw (written_allowed b (get_or s 0 0) e) (ap suc (none_foreign s r))
