-- An entry's text says that entry, where its numbers have as many digits.
use Rattle.std.specs.Prelude.{Some, ◌%◌, ◌*◌, ◌+◌, ◌-◌, ◌/◌, ◌<◌, ◌≤◌, ℕ, ◌≡◌, refl, List, [], ◌++◌, ◌∷◌, ltb}
use Prim.Native.Char.{code}
use Rattle.std.proofs.Common.{◌∙◌, ap, arith, le-leb, ltb-false, ltb-true, ne_eqb}
use Rattle.std.proofs.lemmas.Bool.{lt-leb}
use Rattle.basics.specs.Laws.Tests.{cases}
use Rattle.text.specs.Bytes.{text}
use Rattle.text.specs.Spelling.{digit_of, same, upper_digit}
use Rattle.lines.specs.declared.Width.{Width}
use Rattle.lines.specs.declared.Width.TheVariants.{Eight, Sixteen}
use Rattle.grammar.specs.Grammar.{◌>>=◌, bits, dollar, heading_line, hex_from, line_says, mapping_line, memattr_line, one_digit, paged, paged_line, ram, ram_line, rom, rom_line, words_say}
use Rattle.grammar.specs.Print.{entry_text, five_digits, four_digits}
use Rattle.grammar.specs.Words.{Cut, cut, words_after}
use Rattle.grammar.specs.declared.Says.TheVariants.{Claims, Heading}
use Rattle.grammar.specs.declared.Section.{Section}
use Rattle.grammar.specs.declared.Section.TheVariants.{Mapping, Memattr}

-- a letter before what is cut
abbrev pub lettered : ℕ → Cut → Cut
lettered b c = record { front = b ∷ c.front; rest = c.rest }

-- a digit's byte
pub record Digit (b d : ℕ) : Type 0 where
  pub letter : (s : List ℕ) → cut (b ∷ s) ≡ lettered b (cut s)
  pub value : digit_of b ≡ d
  pub below : d < 16

letter_is : (b : ℕ) → 48 ≤ b → b ≤ 70 → (b ≡ 59 → ⊥) → (b ≡ 61 → ⊥) → (s : List ℕ) → cut (b ∷ s) ≡ lettered b (cut s)
unfolding cut
letter_is b l m n o s = rw (ne_eqb b 32 (omega arith), ne_eqb b 9 (omega arith), ne_eqb b 45 (omega arith), ne_eqb b 61 o, ne_eqb b 59 n)

pub digit_is : (d : ℕ) → d < 16 → Digit (upper_digit d) d
unfolding upper_digit
digit_is d h =
    cases (ltb d 10)
    (λ e.
    let l : d < 10 = ltb-true d 10 e in
    rw e
    (record {
      letter = letter_is (48 + d) (omega arith) (omega arith) (omega arith) (omega arith);
      value = rw (le-leb 48 (48 + d) (omega arith), le-leb (48 + d) 57 (omega arith)) (omega arith);
      below = h;
    }))
    (λ e.
    let l : 10 ≤ d = ltb-false d 10 e in
    rw e
    (record {
      letter = letter_is (65 + (d - 10)) (omega arith) (omega arith) (omega arith) (omega arith);
      value =
          rw (
            le-leb 48 (65 + (d - 10)) (omega arith),
            lt-leb (65 + (d - 10)) 57 (omega arith),
            le-leb 65 (65 + (d - 10)) (omega arith),
            le-leb (65 + (d - 10)) 70 (omega arith),
          )
          (omega arith);
      below = h;
    }))

-- a number's digits
hex_more : (n b d : ℕ) (w : List ℕ) → Digit b d → hex_from n (b ∷ w) ≡ hex_from (n * 16 + d) w
unfolding hex_from
hex_more n b d w i = rw (i.value, ne_eqb d 16 (omega (arith, i.below)))

hex_end : (n : ℕ) → hex_from n [] ≡ Some n
unfolding hex_from
hex_end n = refl

nibble : (n : ℕ) → n % 16 < 16
nibble n = omega arith

joined_four : (k a b c d n x y : ℕ) → n ≡ x * 16 + d → x ≡ y * 16 + c → y ≡ a * 16 + b → (((k * 16 + a) * 16 + b) * 16 + c) * 16 + d ≡ k * 65536 + n
joined_four k a b c d n x y e f g = omega arith

pub hex_four : (k n : ℕ) → n < 65536 → hex_from k (upper_digit (n / 4096 % 16) ∷ upper_digit (n / 256 % 16) ∷ upper_digit (n / 16 % 16) ∷ upper_digit (n % 16) ∷ []) ≡ Some (k * 65536 + n)
hex_four k n h =
    let e : n ≡ n / 16 * 16 + n % 16 = omega arith in
    let f : n / 16 ≡ n / 256 * 16 + n / 16 % 16 = omega arith in
    let t : n / 4096 % 16 ≡ n / 4096 = omega arith in
    let g : n / 256 ≡ n / 4096 % 16 * 16 + n / 256 % 16 = rw t (omega arith) in
    hex_more k _ _ _ (digit_is (n / 4096 % 16) (nibble (n / 4096)))
    ∙ hex_more (k * 16 + n / 4096 % 16) _ _ _ (digit_is (n / 256 % 16) (nibble (n / 256)))
    ∙ hex_more ((k * 16 + n / 4096 % 16) * 16 + n / 256 % 16) _ _ _ (digit_is (n / 16 % 16) (nibble (n / 16)))
    ∙ hex_more (((k * 16 + n / 4096 % 16) * 16 + n / 256 % 16) * 16 + n / 16 % 16) _ _ _ (digit_is (n % 16) (nibble n))
    ∙ hex_end ((((k * 16 + n / 4096 % 16) * 16 + n / 256 % 16) * 16 + n / 16 % 16) * 16 + n % 16)
    ∙ ap Some (joined_four k (n / 4096 % 16) (n / 256 % 16) (n / 16 % 16) (n % 16) n (n / 16) (n / 256) e f g)

pub dollar_four : (n : ℕ) → n < 65536 → dollar 4 (four_digits n) ≡ Some n
unfolding dollar
dollar_four n h = hex_four 0 n h ∙ ap Some (omega arith)

pub dollar_five : (n : ℕ) → n < 0x100000 → dollar 5 (five_digits n) ≡ Some n
unfolding dollar
dollar_five n h =
    let t : n / 65536 % 16 ≡ n / 65536 = omega arith in
    let a : n % 65536 / 4096 % 16 ≡ n / 4096 % 16 = omega arith in
    let b : n % 65536 / 256 % 16 ≡ n / 256 % 16 = omega arith in
    let c : n % 65536 / 16 % 16 ≡ n / 16 % 16 = omega arith in
    let d : n % 65536 % 16 ≡ n % 16 = omega arith in
    let e : hex_from (0 * 16 + n / 65536 % 16) (upper_digit (n / 4096 % 16) ∷ upper_digit (n / 256 % 16) ∷ upper_digit (n / 16 % 16) ∷ upper_digit (n % 16) ∷ []) ≡ Some ((0 * 16 + n / 65536 % 16) * 65536 + n % 65536) =
    rw (a, b, c, d) at (hex_four (0 * 16 + n / 65536 % 16) (n % 65536) (omega arith)) in
    hex_more 0 _ _ _ (digit_is (n / 65536 % 16) (nibble (n / 65536))) ∙ e ∙ ap Some (rw t (omega arith))

page_is : (y : ℕ) → y < 16 → one_digit (upper_digit y ∷ []) ≡ Some y
unfolding one_digit
page_is y h = hex_more 0 _ _ _ (digit_is y h) ∙ hex_end (0 * 16 + y) ∙ ap Some (omega arith)

-- the words of an entry's text
abbrev cut_as : List ℕ → List (List ℕ) → Cut
cut_as w ws = record { front = w; rest = ws }

data Letters : List ℕ → Type 0 where
  none : Letters []
  more : {b : ℕ} {w : List ℕ} → ((s : List ℕ) → cut (b ∷ s) ≡ lettered b (cut s)) → Letters w → Letters (b ∷ w)

cut_letters : {w : List ℕ} → Letters w → (s : List ℕ) (c : Cut) → cut s ≡ c → cut (w ++ s) ≡ cut_as (w ++ c.front) c.rest
cut_letters none s c e = e
cut_letters (more {b = b} {w = w} l ls) s c e = l (w ++ s) ∙ ap (lettered b) (cut_letters ls s c e)

sign : (s : List ℕ) → cut (code "$" ∷ s) ≡ lettered (code "$") (cut s)
unfolding cut
sign s = refl

digit_letter : (n : ℕ) (s : List ℕ) → cut (upper_digit (n % 16) ∷ s) ≡ lettered (upper_digit (n % 16)) (cut s)
digit_letter n s = (digit_is (n % 16) (nibble n)).letter s

four_letters : (n : ℕ) → Letters (four_digits n)
four_letters n = more sign (more (digit_letter (n / 4096)) (more (digit_letter (n / 256)) (more (digit_letter (n / 16)) (more (digit_letter n) none))))

five_letters : (n : ℕ) → Letters (five_digits n)
five_letters n =
    more sign
    (more (digit_letter (n / 65536)) (more (digit_letter (n / 4096)) (more (digit_letter (n / 256)) (more (digit_letter (n / 16)) (more (digit_letter n) none)))))

cut_end : cut [] ≡ cut_as [] []
unfolding cut
cut_end = refl

cut_dash : (s : List ℕ) (c : Cut) → cut s ≡ c → cut (text " - " ++ s) ≡ cut_as [] (text "-" ∷ words_after c)
unfolding cut
cut_dash s c e = ap (λ (d : Cut). cut_as [] (text "-" ∷ words_after d)) e

cut_equals : (s : List ℕ) (c : Cut) → cut s ≡ c → cut (text " = " ++ s) ≡ cut_as [] (text "=" ∷ words_after c)
unfolding cut
cut_equals s c e = ap (λ (d : Cut). cut_as [] (text "=" ∷ words_after d)) e

cut_page : (s : List ℕ) (c : Cut) → cut s ≡ c → cut (text " PAGE " ++ s) ≡ cut_as [] (text "PAGE" ∷ words_after c)
unfolding cut
cut_page s c e = ap (λ (d : Cut). cut_as [] (text "PAGE" ∷ words_after d)) e

cut_sixteen : cut (text " = RAM 16") ≡ cut_as [] (text "=" ∷ text "RAM" ∷ text "16" ∷ [])
unfolding cut
cut_sixteen = refl

cut_eight : cut (text " = RAM 8") ≡ cut_as [] (text "=" ∷ text "RAM" ∷ text "8" ∷ [])
unfolding cut
cut_eight = refl

-- what it says
pub rom_says : (lo hi at : ℕ) → lo < 0x100000 → hi < 0x100000 → at < 65536 → line_says Mapping (entry_text (rom lo hi at)) ≡ Claims (rom lo hi at)
unfolding words_say mapping_line rom_line ◌>>=◌ same
rom_says lo hi at l h a =
    ap (λ (c : Cut). words_say Mapping (words_after c))
    (cut_letters (five_letters lo) _ _
    (cut_dash _ _ (cut_letters (five_letters hi) _ _ (cut_equals _ _ (cut_letters (four_letters at) [] (cut_as [] []) cut_end)))))
    ∙ rw (dollar_five lo l, dollar_five hi h, dollar_four at a)

pub paged_says : (lo hi at y : ℕ) → lo < 0x100000 → hi < 0x100000 → at < 65536 → y < 16 → line_says Mapping (entry_text (paged lo hi at y)) ≡ Claims (paged lo hi at y)
unfolding words_say mapping_line paged_line ◌>>=◌ same
paged_says lo hi at y l h a b =
    ap (λ (c : Cut). words_say Mapping (words_after c))
    (cut_letters (five_letters lo) _ _
    (cut_dash _ _
    (cut_letters (five_letters hi) _ _
    (cut_equals _ _
    (cut_letters (four_letters at) _ _ (cut_page _ _ (cut_letters (more (digit_is y b).letter none) [] (cut_as [] []) cut_end)))))))
    ∙ rw (dollar_five lo l, dollar_five hi h, dollar_four at a, page_is y b)

pub ram_says : (lo hi : ℕ) (w : Width) → lo < 65536 → hi < 65536 → line_says Memattr (entry_text (ram lo hi w)) ≡ Claims (ram lo hi w)
unfolding words_say memattr_line ram_line ◌>>=◌ same bits
ram_says lo hi Sixteen l h =
    ap (λ (c : Cut). words_say Memattr (words_after c)) (cut_letters (four_letters lo) _ _ (cut_dash _ _ (cut_letters (four_letters hi) _ _ cut_sixteen)))
    ∙ rw (dollar_four lo l, dollar_four hi h)
ram_says lo hi Eight l h =
    ap (λ (c : Cut). words_say Memattr (words_after c)) (cut_letters (four_letters lo) _ _ (cut_dash _ _ (cut_letters (four_letters hi) _ _ cut_eight)))
    ∙ rw (dollar_four lo l, dollar_four hi h)

-- a section's name says that section
pub mapping_says : (s : Section) → line_says s (text "[mapping]") ≡ Heading Mapping
unfolding cut words_say heading_line same
mapping_says s = refl

pub memattr_says : (s : Section) → line_says s (text "[memattr]") ≡ Heading Memattr
unfolding cut words_say heading_line same
memattr_says s = refl
