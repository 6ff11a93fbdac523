-- Words written one after the other, big endian.
use Prim.Native.Nat.{◌%◌, ◌*◌, ◌+◌, ◌/◌, ◌-◌, ◌<◌, ◌≤◌, max, min, suc, zero, ℕ}
use mathlib.Core.List.{List, [], ◌++◌, ◌∷◌, append_assoc, append-nil}
use mathlib.Core.Path.{◌∙◌, ◌≡◌, ap, refl, sym}
use mathlib.Core.Bool.{Bool, false, not, true}
use native.Mathlib.Omega.{arith}
use native.Mathlib.Numerals.{add-one}
use lib.ListN.{get_or-append, replicate, get_or-eq_default, drop, get_or, length-drop, length, length-append, length-set, set, take}
use lib.Dec.{eqb, ltb}
use lib.Seq.{length-take-le, take_all, take-suc}
use borrow.Author.Tests.{eq-eqb, eqb-false, eqb-true, ltb-false, ltb-true, ne_eqb}
use borrow.Rule.Slice.PartMut.{put_mid}
use Rattle.std.proofs.lemmas.List.{get_or-append_right, get_or-replicate, length-replicate}
use Rattle.basics.specs.Laws.Each.{joined_append, joined_more}
use Rattle.basics.specs.Laws.Lists.{get_d_part, length_part}
use Rattle.basics.specs.Laws.Puts.{put_behind, put_room, put_short, put_wrote}
use Rattle.basics.specs.Laws.Tables.{length_table, table_of}
use Rattle.basics.specs.Laws.Tests.{cases, not-false, not-true}
use Rattle.basics.specs.Laws.Wrote.{Wrote, wrote_all, wrote_long, wrote_none, wrote_part, wrote_set}
use Rattle.basics.specs.Lists.{flat, joined, part, put_front}
use Rattle.places.specs.Limits.{chapter_pages, flip_entries, paragraph_size, paragraphs}
use Rattle.plan.specs.Plan.{has_page}
use Rattle.canon.specs.Bin.{be16, canonical_bin, canonical_words, or_zero, page_place, paged_words, plain_place, rom_words, words_from}
use Rattle.canon.specs.Canonical.{is_rom, page_words}
use Rattle.canon.specs.Laws.Bin.{bin_size}
use Rattle.canon.proofs.Theorems.Bin.{all_long, length_bin, length_bytes, rising}
use Rattle.basics.specs.Laws.Listed.{length_more}
use Rattle.basics.specs.Listed.{listed}
use Rattle.ledger.specs.Held.{plan_in, words_in}
use Rattle.ledger.specs.Laws.Held.{kind_in_lem, page_in_lem}

-- the first i of n words are written
pub record Words (ws : List ℕ) (n : ℕ) (out₀ out : List ℕ) (i : ℕ) : Type 0 where
  pub many : length ws ≡ n
  pub up : i ≤ n
  pub fits : length out₀ ≡ 2 * n
  pub long : length out ≡ 2 * n
  pub wrote : Wrote out₀ out (joined be16 (take i ws))

pub words_none : (ws : List ℕ) (n : ℕ) (out : List ℕ) → length ws ≡ n → length out ≡ 2 * n → Words ws n out out 0
unfolding joined
words_none ws n out m l = record { many = m; up = omega arith; fits = l; long = l; wrote = wrote_none out }

module _ (ws : List ℕ) (n : ℕ) (out₀ out : List ℕ) (i : ℕ) (c : Words ws n out₀ out i) where
  pub words_more : i < n → (w h l : ℕ) → w ≡ get_or ws i 0 → h ≡ w / 256 → l ≡ w % 256 → Words ws n out₀ (set (set out (2 * i) h) (2 * i + 1) l) (i + 1)
  words_more b w h l ew eh el =
      let x : List ℕ = joined be16 (take i ws) in
      let k : length x ≡ 2 * i = length_bytes (take i ws) ∙ ap (λ (m : ℕ). 2 * m) (length-take-le i ws (omega (arith, c.many))) in
      let one : Wrote out₀ (set out (2 * i) h) (x ++ (w / 256 ∷ [])) = wrote_set out₀ out x (2 * i) h (w / 256) c.wrote (sym k) (omega (arith, c.fits)) eh in
      let two : Wrote out₀ (set (set out (2 * i) h) (2 * i + 1) l) ((x ++ (w / 256 ∷ [])) ++ (w % 256 ∷ [])) =
      wrote_set out₀ (set out (2 * i) h) (x ++ (w / 256 ∷ [])) (2 * i + 1) l (w % 256) one (omega (arith, length-append x (w / 256 ∷ []))) (omega (arith, c.fits)) el in
      let t : take (i + 1) ws ≡ take i ws ++ (w ∷ []) = rw (add-one, ew) (take-suc ws i 0 (omega (arith, c.many))) in
      let e : (x ++ (w / 256 ∷ [])) ++ (w % 256 ∷ []) ≡ joined be16 (take (i + 1) ws) =
      append_assoc x (w / 256 ∷ []) (w % 256 ∷ []) ∙ sym (ap (joined be16) t ∙ joined_more be16 (take i ws) w) in
      record {
        many = c.many;
        up = omega arith;
        fits = c.fits;
        long = length-set (set out (2 * i) h) (2 * i + 1) l ∙ length-set out (2 * i) h ∙ c.long;
        wrote = rw e at two;
      }

  pub words_all : n ≤ i → out ≡ joined be16 ws
  words_all h =
      let t : take i ws ≡ ws = take_all i ws (omega (arith, c.many)) in
      wrote_all out₀ out (joined be16 (take i ws)) c.wrote (ap (λ (x : List ℕ). length (joined be16 x)) t ∙ omega (arith, length_bytes ws, c.many, c.fits))
      ∙ ap (joined be16) t

-- words that are all zeros
zeros : (m : ℕ) → joined be16 (replicate m 0) ≡ replicate (2 * m) 0
unfolding joined
zeros zero = refl
zeros (suc m) = let z : 2 * suc m ≡ suc (suc (2 * m)) = omega arith in rw (z, zeros m)

-- those from word a of a RAM on: a part of it, and zeros
module _ (ram : List ℕ) (a n b e : ℕ) (eb : b ≡ min a (length ram)) (ee : e ≡ min (a + n) (length ram)) where
  abbrev held : List ℕ
  held = part ram b e

  held_long : length held ≡ e - b
  held_long = length_part ram b e (omega arith)

  at_place : (i : ℕ) → i < n → get_or (held ++ replicate (n - (e - b)) 0) i 0 ≡ words_in ram (a + i)
  at_place i h =
      cases (ltb i (e - b))
      (λ t.
      let l : i < e - b = ltb-true i (e - b) t in
      let z : b ≡ a = omega arith in
      get_or-append held (replicate (n - (e - b)) 0) 0 i (omega (arith, held_long)) ∙ get_d_part ram b e i 0 (omega arith) ∙ ap (λ (k : ℕ). get_or ram (k + i) 0) z)
      (λ t.
      let l : e - b ≤ i = ltb-false i (e - b) t in
      get_or-append_right held (replicate (n - (e - b)) 0) (e - b) i 0 held_long l ∙ get_or-replicate (n - (e - b)) (i - (e - b)) 0 0 (omega arith)
      ∙ sym (get_or-eq_default ram 0 {n = a + i} (omega arith)))

  from_held : held ++ replicate (n - (e - b)) 0 ≡ words_from (words_in ram) a n
  from_held =
      table_of 0 n (λ i. words_in ram (a + i)) (held ++ replicate (n - (e - b)) 0)
      (length-append held (replicate (n - (e - b)) 0) ∙ omega (arith, held_long, length-replicate {A = ℕ} (n - (e - b)) 0)) at_place

  pub words_put : (out ys zs : List ℕ) (s k : ℕ) → length out ≡ 2 * n → s ≡ 2 * (e - b) → ys ≡ joined be16 held → k ≡ length (put_mid 0 s out ys) - s
      → zs ≡ replicate (length (take k (drop s (put_mid 0 s out ys)))) 0
      → put_mid s k (put_mid 0 s out ys) zs ≡ joined be16 (words_from (words_in ram) a n)
  words_put out ys zs s k h es ey ek ez =
      let x : List ℕ = joined be16 held in
      let lx : length x ≡ s = length_bytes held ∙ omega (arith, held_long) in
      let one : Wrote out (put_mid 0 s out ys) x = wrote_part out out [] 0 s ys x (wrote_none out) refl (sym lx) (omega arith) ey in
      let l : length (put_mid 0 s out ys) ≡ length out = wrote_long out (put_mid 0 s out ys) x one in
      let z : k ≡ 2 * (n - (e - b)) = omega arith in
      let r : length (take k (drop s (put_mid 0 s out ys))) ≡ k =
      length-take-le k (drop s (put_mid 0 s out ys)) (omega (arith, length-drop s (put_mid 0 s out ys))) in
      let two : Wrote out (put_mid s k (put_mid 0 s out ys) zs) (x ++ replicate k 0) =
      wrote_part out (put_mid 0 s out ys) x s k zs (replicate k 0) one (sym lx) (sym (length-replicate {A = ℕ} k 0)) (omega arith) (rw r at ez) in
      wrote_all out (put_mid s k (put_mid 0 s out ys) zs) (x ++ replicate k 0) two
      (length-append x (replicate k 0) ∙ omega (arith, lx, length-replicate {A = ℕ} k 0))
      ∙ ap (λ (m : ℕ). x ++ replicate m 0) z ∙ ap (◌++◌ x) (sym (zeros (n - (e - b)))) ∙ sym (joined_append be16 held (replicate (n - (e - b)) 0))
      ∙ ap (joined be16) from_held

-- pieces of words, of the places that pass
single : (x : List ℕ) → flat (x ∷ []) ≡ x
unfolding joined
single x = append-nil x

module _ (on : ℕ → Bool) (f : ℕ → List ℕ) where
  abbrev pub bytes_up : ℕ → List ℕ
  bytes_up n = joined be16 (flat (listed n on f))

  bytes_on : (n : ℕ) → on n ≡ true → bytes_up (n + 1) ≡ bytes_up n ++ joined be16 (f n)
  unfolding listed
  bytes_on n e =
      rw (add-one, e)
      (ap (joined be16) (joined_append (λ (x : List ℕ). x) (listed n on f) (f n ∷ []) ∙ ap (◌++◌ (flat (listed n on f))) (single (f n)))
      ∙ joined_append be16 (flat (listed n on f)) (f n))

  bytes_off : (n : ℕ) → on n ≡ false → bytes_up (n + 1) ≡ bytes_up n
  unfolding listed
  bytes_off n e = rw (add-one, e) (ap (λ (ls : List (List ℕ)). joined be16 (flat ls)) (append-nil (listed n on f)))

  bytes_rise : (n : ℕ) → length (bytes_up n) ≤ length (bytes_up (suc n))
  bytes_rise n = omega (arith, length_bytes (flat (listed n on f)), length_bytes (flat (listed (suc n) on f)), length_more n on f)

  pub record Pieces (out₀ out : List ℕ) (at n : ℕ) : Type 0 where
    pub up : n ≤ 256
    pub fits : length (bytes_up 256) ≤ length out₀
    pub within : at ≤ length out₀
    pub long : length out ≡ length out₀
    pub place : at ≡ length (bytes_up n)
    pub wrote : Wrote out₀ out (bytes_up n)

  pieces_none : (out : List ℕ) → length (bytes_up 256) ≤ length out → Pieces out out 0 0
  unfolding listed joined
  pieces_none out h = record { up = omega arith; fits = h; within = omega arith; long = refl; place = refl; wrote = wrote_none out }

  module _ (out₀ out : List ℕ) (at n : ℕ) (c : Pieces out₀ out at n) where
    pieces_off : n < 256 → on n ≡ false → (out' : List ℕ) (at' : ℕ) → out' ≡ out → at' ≡ at → Pieces out₀ out' at' (n + 1)
    pieces_off h e out' at' eo ea =
        let s : bytes_up (n + 1) ≡ bytes_up n = bytes_off n e in
        rw (eo, ea) (record { up = omega arith; fits = c.fits; within = c.within; long = c.long; place = rw s c.place; wrote = rw s c.wrote })

    module _ (h : n < 256) (e : on n ≡ true) (k : ℕ) (ek : k ≡ length (joined be16 (f n))) where
      longer : length (bytes_up (n + 1)) ≡ at + k
      longer = ap length (bytes_on n e) ∙ length-append (bytes_up n) (joined be16 (f n)) ∙ omega (arith, c.place)

      pieces_room : at + k ≤ length out
      pieces_room = omega (arith, longer, rising (λ (m : ℕ). length (bytes_up m)) bytes_rise (n + 1) 256 (omega arith), c.fits, c.long)

      pieces_on : (ys : List ℕ) → ys ≡ joined be16 (f n) → (out' : List ℕ) (at' : ℕ) → out' ≡ put_mid at (at + k - at) out ys → at' ≡ at + k → Pieces out₀ out' at' (n + 1)
      pieces_on ys ey out' at' eo ea =
          let w : Wrote out₀ (put_mid at (at + k - at) out ys) (bytes_up (n + 1)) =
          rw (bytes_on n e)
          (wrote_part out₀ out (bytes_up n) at (at + k - at) ys (joined be16 (f n)) c.wrote c.place (omega arith) (omega (arith, pieces_room, c.long)) ey) in
          rw (eo, ea)
          (record {
            up = omega arith;
            fits = c.fits;
            within = omega (arith, pieces_room, c.long);
            long = wrote_long out₀ _ (bytes_up (n + 1)) w;
            place = sym longer;
            wrote = w;
          })

    pieces_all : 256 ≤ n → out ≡ put_front (bytes_up 256) out₀
    pieces_all h = let z : n ≡ 256 = omega (arith, c.up) in put_wrote out₀ out (bytes_up n) c.wrote ∙ ap (λ (m : ℕ). put_front (bytes_up m) out₀) z

    pieces_length : 256 ≤ n → at ≡ length (bytes_up 256)
    pieces_length h = let z : n ≡ 256 = omega (arith, c.up) in c.place ∙ ap (λ (m : ℕ). length (bytes_up m)) z

-- the plain paragraphs of ROM
module _ (ks : List ℕ) (ps : List Bool) (ram : List ℕ) where
  abbrev rom_piece : ℕ → List ℕ
  rom_piece p = words_from (words_in ram) (plain_place (plan_in ks ps) p) paragraph_size

  abbrev pub RomPieces : List ℕ → List ℕ → ℕ → ℕ → Type 0
  RomPieces out₀ out at n = Pieces (is_rom (plan_in ks ps)) rom_piece out₀ out at n

  pub rom_none : (out : List ℕ) → length (joined be16 (rom_words (plan_in ks ps) (words_in ram))) ≤ length out → RomPieces out out 0 0
  rom_none out h = pieces_none (is_rom (plan_in ks ps)) rom_piece out h

  rom_size : (p : ℕ) → 2 * paragraph_size ≡ length (joined be16 (rom_piece p))
  rom_size p = sym (length_bytes (rom_piece p) ∙ ap (λ (m : ℕ). 2 * m) (length_table paragraph_size (λ i. words_in ram (plain_place (plan_in ks ps) p + i))))

  rom_on : (p : ℕ) → get_or ks p 0 ≡ 1 → is_rom (plan_in ks ps) p ≡ true
  rom_on p e = rw (kind_in_lem ks ps p) (eq-eqb (get_or ks p 0) 1 e)

  module _ (out₀ out : List ℕ) (at p : ℕ) (c : RomPieces out₀ out at p) where
    pub rom_off : p < paragraphs → (get_or ks p 0 ≡ 1 → ⊥) → (out' : List ℕ) (at' : ℕ) → out' ≡ out → at' ≡ at → RomPieces out₀ out' at' (p + 1)
    rom_off h e = pieces_off (is_rom (plan_in ks ps)) rom_piece out₀ out at p c h (rw (kind_in_lem ks ps p) (ne_eqb (get_or ks p 0) 1 e))

    pub rom_room : p < paragraphs → get_or ks p 0 ≡ 1 → at + 2 * paragraph_size ≤ length out
    rom_room h e = pieces_room (is_rom (plan_in ks ps)) rom_piece out₀ out at p c h (rom_on p e) (2 * paragraph_size) (rom_size p)

    pub rom_more : p < paragraphs → get_or ks p 0 ≡ 1 → (a : ℕ) (ys : List ℕ) → a ≡ plain_place (plan_in ks ps) p → ys ≡ joined be16 (words_from (words_in ram) a paragraph_size)
        → (out' : List ℕ) (at' : ℕ) → out' ≡ put_mid at (at + 2 * paragraph_size - at) out ys → at' ≡ at + 2 * paragraph_size → RomPieces out₀ out' at' (p + 1)
    rom_more h e a ys ea ey = pieces_on (is_rom (plan_in ks ps)) rom_piece out₀ out at p c h (rom_on p e) (2 * paragraph_size) (rom_size p) ys (ey ∙ rw ea)

    pub rom_all : paragraphs ≤ p → out ≡ put_front (joined be16 (rom_words (plan_in ks ps) (words_in ram))) out₀
    rom_all h = pieces_all (is_rom (plan_in ks ps)) rom_piece out₀ out at p c h

    pub rom_length : paragraphs ≤ p → at ≡ length (joined be16 (rom_words (plan_in ks ps) (words_in ram)))
    rom_length h = pieces_length (is_rom (plan_in ks ps)) rom_piece out₀ out at p c h

-- the pages
module _ (ks : List ℕ) (ps : List Bool) (ram : List ℕ) where
  abbrev page_piece : ℕ → List ℕ
  page_piece n = words_from (words_in ram) (page_place (plan_in ks ps) n) (page_words (n / chapter_pages))

  abbrev pub PagePieces : List ℕ → List ℕ → ℕ → ℕ → Type 0
  PagePieces out₀ out at n = Pieces (has_page (plan_in ks ps)) page_piece out₀ out at n

  pub page_none : (out : List ℕ) → length (joined be16 (paged_words (plan_in ks ps) (words_in ram))) ≤ length out → PagePieces out out 0 0
  page_none out h = pieces_none (has_page (plan_in ks ps)) page_piece out h

  page_size_lem : (n k : ℕ) → k ≡ page_words (n / chapter_pages) → 2 * k ≡ length (joined be16 (page_piece n))
  page_size_lem n k e =
      rw e (sym (length_bytes (page_piece n) ∙ ap (λ (m : ℕ). 2 * m) (length_table (page_words (n / chapter_pages)) (λ i. words_in ram (page_place (plan_in ks ps) n + i)))))

  module _ (out₀ out : List ℕ) (at n : ℕ) (c : PagePieces out₀ out at n) where
    pub page_off : n < flip_entries → get_or ps n false ≡ false → (out' : List ℕ) (at' : ℕ) → out' ≡ out → at' ≡ at → PagePieces out₀ out' at' (n + 1)
    page_off h e = pieces_off (has_page (plan_in ks ps)) page_piece out₀ out at n c h (page_in_lem ks ps n ∙ e)

    module _ (h : n < flip_entries) (e : get_or ps n false ≡ true) (k : ℕ) (ek : k ≡ page_words (n / chapter_pages)) where
      pub page_room : at + 2 * k ≤ length out
      page_room = pieces_room (has_page (plan_in ks ps)) page_piece out₀ out at n c h (page_in_lem ks ps n ∙ e) (2 * k) (page_size_lem n k ek)

      pub page_more : (a : ℕ) (ys : List ℕ) → a ≡ page_place (plan_in ks ps) n → ys ≡ joined be16 (words_from (words_in ram) a k)
          → (out' : List ℕ) (at' : ℕ) → out' ≡ put_mid at (at + 2 * k - at) out ys → at' ≡ at + 2 * k → PagePieces out₀ out' at' (n + 1)
      page_more a ys ea ey =
          pieces_on (has_page (plan_in ks ps)) page_piece out₀ out at n c h (page_in_lem ks ps n ∙ e) (2 * k) (page_size_lem n k ek) ys (ey ∙ rw (ea, ek))

    pub page_all : flip_entries ≤ n → out ≡ put_front (joined be16 (paged_words (plan_in ks ps) (words_in ram))) out₀
    page_all h = pieces_all (has_page (plan_in ks ps)) page_piece out₀ out at n c h

    pub page_length : flip_entries ≤ n → at ≡ length (joined be16 (paged_words (plan_in ks ps) (words_in ram)))
    page_length h = pieces_length (has_page (plan_in ks ps)) page_piece out₀ out at n c h

-- nothing
put_none : (out : List ℕ) → put_front [] out ≡ out
put_none out = put_room [] out (omega arith)

-- both halves, one behind the other
module _ (ks : List ℕ) (ps : List Bool) (ram : List ℕ) where
  abbrev roms : List ℕ
  roms = rom_words (plan_in ks ps) (words_in ram)

  abbrev paged : List ℕ
  paged = paged_words (plan_in ks ps) (words_in ram)

  abbrev n : ℕ
  n = bin_size (plan_in ks ps)

  both_bytes : joined be16 (roms ++ paged) ≡ joined be16 roms ++ joined be16 paged
  both_bytes = joined_append be16 roms paged

  both_long : length (joined be16 (roms ++ paged)) ≡ 2 * n
  both_long = length_bytes (roms ++ paged) ∙ ap (λ (m : ℕ). 2 * m) (all_long (plan_in ks ps) (words_in ram))

  halves_long : length (joined be16 roms) + length (joined be16 paged) ≡ 2 * n
  halves_long = sym (length-append (joined be16 roms) (joined be16 paged)) ∙ ap length (sym both_bytes) ∙ both_long

  module _ (a b : ℕ) (ea : a ≡ length (joined be16 roms)) (eb : b ≡ length (joined be16 paged)) where
    pub some_first : (a ≡ 0 → ⊥) → not (eqb a 0) ≡ not (eqb n 0)
    some_first h = rw (ne_eqb a 0 h, ne_eqb n 0 (λ z. h (omega (arith, halves_long))))

    pub some_second : a ≡ 0 → not (eqb b 0) ≡ not (eqb n 0)
    some_second h =
        cases (eqb n 0)
        (λ e. let z : n ≡ 0 = eqb-true n 0 e in rw (e, eq-eqb b 0 (omega (arith, halves_long))))
        (λ e. let d : n ≡ 0 → ⊥ = eqb-false n 0 e in rw (e, ne_eqb b 0 (λ z. d (omega (arith, halves_long)))))

  module _ (out : List ℕ) (room : 2 * max 1 n ≤ length out) where
    pub roms_fit : length (joined be16 roms) ≤ length out
    roms_fit = omega (arith, halves_long)

    module _ (out' : List ℕ) (a : ℕ) (ea : a ≡ length (joined be16 roms)) (eo : out' ≡ put_front (joined be16 roms) out) where
      kept : length out' ≡ length out
      kept = wrote_long out out' (joined be16 roms) (record { fits = roms_fit; is = eo ∙ put_room (joined be16 roms) out roms_fit })

      pub pages_from : a ≤ length out'
      pages_from = omega (arith, kept, roms_fit)

      pub pages_fit : length (joined be16 paged) ≤ length (take (length out' - a) (drop a out'))
      pages_fit = omega (arith, halves_long, kept, length-drop a out', length-take-le (length out' - a) (drop a out') (omega (arith, length-drop a out')))

      pub both_put : (k : ℕ) (ys : List ℕ) → k ≡ length out' - a → ys ≡ put_front (joined be16 paged) (take k (drop a out')) → put_mid a k out' ys ≡ put_front (joined be16 (roms ++ paged)) out
      both_put k ys ek ey = rw both_bytes (put_behind (joined be16 roms) (joined be16 paged) out out' ys a k (omega (arith, halves_long)) ea ek eo ey)

  -- the BIN: those words, or one zero
  some_words : (ws : List ℕ) → (length ws ≡ 0 → ⊥) → or_zero ws ≡ ws
  some_words [] h = absurd (h refl)
  some_words (w ∷ ws) h = refl

  no_words : (ws : List ℕ) → length ws ≡ 0 → ws ≡ []
  no_words [] e = refl
  no_words (w ∷ ws) e = absurd (omega arith)

  abbrev bin : List ℕ
  bin = canonical_bin (plan_in ks ps) (words_in ram)

  pub bin_short : (out : List ℕ) (z : ℕ) → z ≡ 2 * max 1 n → length out < z → out ≡ put_front bin out
  bin_short out z e h = put_short bin out (omega (arith, length_bin (plan_in ks ps) (words_in ram)))

  module _ (out out' : List ℕ) (r : Bool) (er : r ≡ not (eqb n 0)) (eo : out' ≡ put_front (joined be16 (roms ++ paged)) out) where
    pub bin_some : not r ≡ false → out' ≡ put_front bin out
    unfolding canonical_bin canonical_words
    bin_some h =
        let d : n ≡ 0 → ⊥ = eqb-false n 0 (not-true (eqb n 0) (sym er ∙ not-false r h)) in
        rw (some_words (roms ++ paged) (λ z. d (omega (arith, all_long (plan_in ks ps) (words_in ram))))) eo

    pub bin_zero : not r ≡ true → (out'' : List ℕ) → out'' ≡ put_front (0 ∷ 0 ∷ []) out' → out'' ≡ put_front bin out
    unfolding canonical_bin canonical_words joined
    bin_zero h out'' e =
        let d : n ≡ 0 = eqb-true n 0 (not-false (eqb n 0) (sym er ∙ not-true r h)) in
        let z : roms ++ paged ≡ [] = no_words (roms ++ paged) (omega (arith, all_long (plan_in ks ps) (words_in ram))) in
        let o : out' ≡ out = (rw z at eo) ∙ put_none out in
        rw z (rw o at e)
