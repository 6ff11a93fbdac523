-- The lines of a section, one after the other; and the two sections.
use Prim.Native.Nat.{◌+◌, ◌*◌, ◌-◌, ◌<◌, ◌≤◌, min, ℕ}
use mathlib.Core.List.{List, [], ◌++◌, ◌∷◌}
use mathlib.Core.Path.{◌∙◌, ◌≡◌, ap, refl, sym}
use native.Mathlib.Omega.{arith}
use native.Mathlib.Numerals.{add-one}
use lib.ListN.{drop, get_or, length, length-append, length-drop, replicate, take}
use lib.Seq.{length-take-le, take_all, take-suc}
use borrow.Rule.Slice.PartMut.{put_mid}
use Rattle.basics.specs.Laws.Each.{joined_more}
use Rattle.basics.specs.Laws.Puts.{put_behind, put_wrote}
use Rattle.basics.specs.Laws.Wrote.{Wrote, wrote_none, wrote_part, wrote_long}
use Rattle.basics.specs.Lists.{joined, put_front}
use Rattle.places.specs.Limits.{line_limit}
use Rattle.places.specs.Places.{bin_word, console}
use Rattle.lines.specs.declared.Entry.{Entry}
use Rattle.lines.specs.declared.Entry.TheVariants.{Rom}
use Rattle.lines.specs.declared.Line.{Line}
use Rattle.print.specs.Code.Texts.{text_of}
use Rattle.print.specs.declared.Text.{Text}
use Rattle.sheet.specs.Code.Sheets.{both_headed, cfg_lines, entry_bytes, headed, lines_bytes, mapping_name, memattr_name, sheet_of, sheet_size}
use Rattle.sheet.specs.Laws.Sheets.{cfg_of_front, sections_cfg, text_few, text_front, text_length}
use Rattle.sheet.specs.declared.Sheet.{Sheet}

-- what stands where no line does
abbrev pub no_line : Line
no_line = record { source = 0; entry = Rom (bin_word 0) (bin_word 0) (console 0) }

-- the first i lines are put
pub record Lining (ls : List Line) (out₀ out : List ℕ) (at i : ℕ) : Type 0 where
  pub room : 31 * length ls ≤ length out₀
  pub up : i ≤ length ls
  pub few : at ≤ 31 * i
  pub place : at ≡ length (lines_bytes (take i ls))
  pub wrote : Wrote out₀ out (lines_bytes (take i ls))

pub lining_none : (ls : List Line) (out : List ℕ) → 31 * length ls ≤ length out → Lining ls out out 0 0
unfolding joined
lining_none ls out r = record { room = r; up = omega arith; few = omega arith; place = refl; wrote = wrote_none out }

module _ (ls : List Line) (out₀ out : List ℕ) (at i : ℕ) (c : Lining ls out₀ out at i) where
  pub lining_long : length out ≡ length out₀
  lining_long = wrote_long out₀ out (lines_bytes (take i ls)) c.wrote

  module _ (h : i < length ls) (t : Text) (et : t ≡ text_of (get_or ls i no_line).entry) where
    pub lining_room : at + t.length ≤ length out
    lining_room = omega (arith, lining_long, c.few, c.room, text_few (get_or ls i no_line).entry t et)

    more : lines_bytes (take (i + 1) ls) ≡ lines_bytes (take i ls) ++ entry_bytes (get_or ls i no_line).entry
    more = rw (add-one, take-suc ls i no_line h) (joined_more (λ (l : Line). entry_bytes l.entry) (take i ls) (get_or ls i no_line))

    pub lining_fits : (ys : List ℕ) → ys ≡ take t.length t.bytes → length (take (at + t.length - at) (drop at out)) ≡ length ys
    lining_fits ys ey =
        let e : Entry = (get_or ls i no_line).entry in
        let s : t.length ≡ length (entry_bytes e) = text_length e t et in
        let l : length (take t.length t.bytes) ≡ length (entry_bytes e) = ap length (rw s (text_front e t et)) in
        let k : length (take (at + t.length - at) (drop at out)) ≡ at + t.length - at =
        length-take-le (at + t.length - at) (drop at out) (omega (arith, length-drop at out, lining_room)) in
        omega (arith, k, l, s, ap length ey)

    pub lining_more : (ys : List ℕ) → ys ≡ take t.length t.bytes → (out' : List ℕ) (at' : ℕ) → out' ≡ put_mid at (at + t.length - at) out ys → at' ≡ at + t.length
        → Lining ls out₀ out' at' (i + 1)
    lining_more ys ey out' at' eo ea =
        let e : Entry = (get_or ls i no_line).entry in
        let s : t.length ≡ length (entry_bytes e) = text_length e t et in
        let y : ys ≡ entry_bytes e = ey ∙ rw s (text_front e t et) in
        rw (eo, ea)
        (record {
          room = c.room;
          up = omega arith;
          few = omega (arith, c.few, text_few e t et);
          place = omega (arith, c.place, ap length more, length-append (lines_bytes (take i ls)) (entry_bytes e));
          wrote =
              rw more
              (wrote_part out₀ out (lines_bytes (take i ls)) at (at + t.length - at) ys (entry_bytes e) c.wrote c.place (omega arith)
              (omega (arith, lining_room, lining_long)) y);
        })

  module _ (h : length ls ≤ i) where
    all : take i ls ≡ ls
    all = take_all i ls h

    pub lining_length : at ≡ length (lines_bytes ls)
    lining_length = c.place ∙ ap (λ (x : List Line). length (lines_bytes x)) all

    pub lining_few : at ≤ 31 * length ls
    lining_few = omega (arith, c.few, c.up)

    pub lining_put : out ≡ put_front (lines_bytes ls) out₀
    lining_put = put_wrote out₀ out (lines_bytes (take i ls)) c.wrote ∙ ap (λ (x : List Line). put_front (lines_bytes x) out₀) all

-- a section
module _ (name : List ℕ) (ls : List Line) where
  pub section_none : length ls ≡ 0 → 0 ≡ length (headed name ls)
  section_none e = go ls e
    where
      go : (xs : List Line) → length xs ≡ 0 → 0 ≡ length (headed name xs)
      go [] z = refl
      go (x ∷ xs) z = absurd (omega arith)

  pub section_kept : (out : List ℕ) → length ls ≡ 0 → out ≡ put_front (headed name ls) out
  section_kept out e = go ls e
    where
      go : (xs : List Line) → length xs ≡ 0 → out ≡ put_front (headed name xs) out
      go [] z = put_wrote out out [] (wrote_none out)
      go (x ∷ xs) z = absurd (omega arith)

  module _ (h : length ls ≡ 0 → ⊥) where
    section_is : headed name ls ≡ name ++ lines_bytes ls
    section_is = go ls h
      where
        go : (xs : List Line) → (length xs ≡ 0 → ⊥) → headed name xs ≡ name ++ lines_bytes xs
        go [] z = absurd (z refl)
        go (x ∷ xs) z = refl

    pub section_length : (v : ℕ) → length name ≡ 10 → v ≡ length (lines_bytes ls) → 10 + v ≡ length (headed name ls)
    section_length v e f = rw section_is (omega (arith, length-append name (lines_bytes ls)))

    pub section_put : (out₀ out ys : List ℕ) (v k : ℕ) → length name ≡ 10 → 10 + 31 * length ls ≤ length out₀ → v ≡ length (lines_bytes ls) → v ≤ 31 * length ls
        → k ≡ length out - 10 → out ≡ put_front name out₀ → ys ≡ put_front (lines_bytes ls) (take k (drop 10 out)) → put_mid 10 k out ys ≡ put_front (headed name ls) out₀
    section_put out₀ out ys v k e r f m ek eo ey =
        rw section_is (put_behind name (lines_bytes ls) out₀ out ys 10 k (omega arith) (sym e) ek eo ey)

-- both
module _ (xs ys : List Line) (a b : ℕ) (ea : a ≡ length (headed mapping_name xs)) (eb : b ≡ length (headed memattr_name ys)) where
  pub sections_put : (out₀ out zs : List ℕ) (k : ℕ) → 20 + 31 * (length xs + length ys) ≤ length out₀ → a ≤ 10 + 31 * length xs → b ≤ 10 + 31 * length ys
      → k ≡ length out - a → out ≡ put_front (headed mapping_name xs) out₀ → zs ≡ put_front (headed memattr_name ys) (take k (drop a out))
      → put_mid a k out zs ≡ put_front (both_headed xs ys) out₀
  sections_put out₀ out zs k r am bm ek eo ez =
      put_behind (headed mapping_name xs) (headed memattr_name ys) out₀ out zs a k (omega arith) ea ek eo ez

-- the sheet
pub sheet_is : (mapping m len : ℕ) (ls xs : List Line) (bytes : List ℕ) → xs ≡ take (min (length ls) line_limit) ls → m ≡ min mapping (length xs)
    → len ≡ length (both_headed (take m xs) (take (length xs - m) (drop m xs))) → bytes ≡ put_front (both_headed (take m xs) (take (length xs - m) (drop m xs))) (replicate sheet_size 0)
    → ◌≡◌ {A = Sheet} (record { bytes = bytes; length = len }) (sheet_of (cfg_lines mapping (length ls) ls))
unfolding sheet_of
sheet_is mapping m len ls xs bytes ex em el eb =
    let c : ℕ = min (length ls) line_limit in
    let n : length xs ≡ c = ap length ex ∙ length-take-le c ls (omega arith) in
    let x : both_headed (take m xs) (take (length xs - m) (drop m xs)) ≡ cfg_lines mapping (length ls) ls =
    sections_cfg xs m (length xs - m) ∙ rw (em, n, ex) (cfg_of_front ls c (min mapping c) (omega arith)) in
    rw (el, eb, x)
