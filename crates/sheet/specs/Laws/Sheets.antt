-- What is written of lines, one line after the other; and that it is the CFG of their entries.
use Rattle.std.specs.Prelude.{◌+◌, ◌*◌, ◌-◌, ◌≤◌, min, ℕ, List, [], ◌++◌, ◌∷◌, ◌≡◌, refl, drop, length, replicate, take}
use Rattle.std.proofs.Common.{◌∙◌, ap, ap₂, sym, arith, length-append, length-take, length-take-le}
use Rattle.std.proofs.lemmas.List.{drop-take, length-replicate, take-take}
use Rattle.std.proofs.Math.Seq.{take-append_seam}
use Rattle.basics.specs.Laws.Lists.{take_min}
use Rattle.basics.specs.Laws.Puts.{put_room}
use Rattle.basics.specs.Lists.{joined}
use Rattle.text.specs.Bytes.{text}
use Rattle.lines.specs.declared.Entry.{Entry}
use Rattle.lines.specs.declared.Entry.TheVariants.{Paged, Ram, Rom}
use Rattle.lines.specs.declared.Line.{Line}
use Rattle.lines.specs.declared.Width.TheVariants.{Eight, Sixteen}
use Rattle.print.specs.Cfg.{cfg_text, entry_line, line_text, section_text}
use Rattle.print.specs.Code.Texts.{page_digit, text_of}
use Rattle.print.specs.declared.Text.{Text}
use Rattle.places.specs.Limits.{line_limit}
use Rattle.sheet.specs.Code.Sheets.{cfg_lines, cfg_of_lines, entries_in, entry_bytes, headed, lines_bytes, mapping_name, memattr_name, sections_bytes, sheet_of, sheet_size}
use Rattle.sheet.specs.declared.Sheet.{Sheet}

-- a line has at most 31 bytes
pub entry_few : (e : Entry) → length (entry_bytes e) ≤ 31
unfolding entry_bytes
entry_few (Rom lo hi at) = omega arith
entry_few (Paged lo hi at y) = omega arith
entry_few (Ram lo hi Sixteen) = omega arith
entry_few (Ram lo hi Eight) = omega arith

-- the text of an entry: its length, and its bytes
pub text_length : (e : Entry) (t : Text) → t ≡ text_of e → t.length ≡ length (entry_bytes e)
unfolding entry_bytes text_of
text_length e t h = ap (λ (u : Text). u.length) h

pub text_few : (e : Entry) (t : Text) → t ≡ text_of e → t.length ≤ 31
text_few e t h = omega (arith, text_length e t h, entry_few e)

pub text_room : (e : Entry) (t : Text) → t ≡ text_of e → length (entry_bytes e) ≤ length t.bytes
unfolding entry_bytes text_of
text_room e t h = rw h (omega (arith, length-append (entry_line (page_digit e)) (replicate (32 - length (entry_line (page_digit e))) 0)))

pub text_front : (e : Entry) (t : Text) → t ≡ text_of e → take (length (entry_bytes e)) t.bytes ≡ entry_bytes e
unfolding entry_bytes text_of
text_front e t h = rw h (take-append_seam (entry_line (page_digit e)) _)

-- the sections written are the CFG of the entries
lines_joined : (ls : List Line) → lines_bytes ls ≡ joined entry_line (entries_in ls)
unfolding joined entry_bytes
lines_joined [] = refl
lines_joined (l ∷ ls) = ap (◌++◌ (entry_bytes l.entry)) (lines_joined ls)

headed_section : (name : List ℕ) (ls : List Line) → headed (line_text name) ls ≡ section_text name (entries_in ls)
headed_section name [] = refl
headed_section name (l ∷ ls) = ap (◌++◌ (line_text name)) (lines_joined (l ∷ ls))

pub sections_cfg : (ls : List Line) (m n : ℕ) → sections_bytes ls m n ≡ cfg_of_lines ls m n
unfolding cfg_text
sections_cfg ls m n = ap₂ ◌++◌ (headed_section (text "[mapping]") (take m ls)) (headed_section (text "[memattr]") (take n (drop m ls)))

-- of more lines than those that are written, the CFG is that of those
module _ (ls : List Line) (c m : ℕ) (h : m ≤ c) where
  front_first : take m (take c ls) ≡ take m ls
  front_first = take-take m c ls h

  front_rest : take (c - m) (drop m (take c ls)) ≡ take (c - m) (drop m ls)
  front_rest =
      let z : m + (c - m) ≡ c = omega arith in
      ap (λ (k : ℕ). take (c - m) (drop m (take k ls))) (sym z) ∙ ap (take (c - m)) (drop-take m (c - m) ls) ∙ take-take (c - m) (c - m) (drop m ls) (omega arith)

  pub cfg_of_front : cfg_of_lines (take c ls) m (c - m) ≡ cfg_of_lines ls m (c - m)
  cfg_of_front = ap₂ (λ (x y : List Line). cfg_text (entries_in x) (entries_in y)) front_first front_rest

pub cfg_front : (mapping count : ℕ) (ls : List Line) → length ls ≡ line_limit → cfg_lines mapping (length (take count ls)) (take count ls) ≡ cfg_lines mapping count ls
cfg_front mapping count ls h =
    let c : ℕ = min count line_limit in
    let t : take c ls ≡ take count ls = take_min c count ls (omega arith) in
    let n : length (take c ls) ≡ c = length-take-le c ls (omega arith) in
    let z : min c line_limit ≡ c = omega arith in
    rw (← t)
    (ap (λ (k : ℕ). cfg_of_lines (take c ls) (min mapping (min k line_limit)) (min k line_limit - min mapping (min k line_limit))) n
    ∙ ap (λ (k : ℕ). cfg_of_lines (take c ls) (min mapping k) (k - min mapping k)) z ∙ cfg_of_front ls c (min mapping c) (omega arith))

-- a CFG of so many lines has at most so many bytes
lines_few : (ls : List Line) → length (lines_bytes ls) ≤ 31 * length ls
unfolding joined
lines_few [] = omega arith
lines_few (l ∷ ls) = omega (arith, lines_few ls, entry_few l.entry, length-append (entry_bytes l.entry) (lines_bytes ls))

headed_few : (name : List ℕ) (ls : List Line) → length name ≤ 10 → length (headed name ls) ≤ 10 + 31 * length ls
headed_few name [] h = omega arith
headed_few name (l ∷ ls) h = omega (arith, lines_few (l ∷ ls), length-append name (lines_bytes (l ∷ ls)))

pub cfg_few : (mapping count : ℕ) (ls : List Line) → length (cfg_lines mapping count ls) ≤ sheet_size
cfg_few mapping count ls =
    let c : ℕ = min count line_limit in
    let m : ℕ = min mapping c in
    rw (← sections_cfg ls m (c - m))
    (omega (
      arith,
      length-append (headed mapping_name (take m (drop 0 ls))) (headed memattr_name (take (c - m) (drop m ls))),
      headed_few mapping_name (take m (drop 0 ls)) (omega arith),
      headed_few memattr_name (take (c - m) (drop m ls)) (omega arith),
      length-take m (drop 0 ls),
      length-take (c - m) (drop m ls),
    ))

-- what stands at the sheet's front
pub sheet_front : (x : List ℕ) (s : Sheet) → length x ≤ sheet_size → s ≡ sheet_of x → take s.length s.bytes ≡ x
unfolding sheet_of
sheet_front x s h e =
    rw e (ap (take (length x)) (put_room x (replicate sheet_size 0) (omega (arith, length-replicate {A = ℕ} sheet_size 0))) ∙ take-append_seam x (drop (length x) (replicate sheet_size 0)))
