-- The canonical lines find in their BIN the words of the image, and none past its end.
use Prim.Native.Nat.{◌%◌, ◌*◌, ◌+◌, ◌-◌, ◌/◌, ◌<◌, ◌≤◌, max, suc, zero, ℕ}
use Rattle.std.proofs.Common.{◌∙◌, sym, length-append, get_or-append-add, eq-eqb, eqb-true, le-ltb}
use Rattle.std.specs.Prelude.{◌≡◌, List, [], ◌++◌, ◌∷◌, Bool, ◌||◌, leb, ltb}
use Rattle.std.proofs.Math.Path.{ap, ap₂, refl}
use Rattle.std.proofs.Math.Bool.{cond, false, true}
use native.Mathlib.Omega.{arith}
use Rattle.std.proofs.Math.ListN.{get_or-append, get_or, length}
use Rattle.std.proofs.lemmas.Bool.{lt-leb}
use Rattle.basics.specs.Counts.{count}
use Rattle.basics.specs.Laws.Counts.{count_add, count_last, count_mono, count_most}
use Rattle.basics.specs.Laws.Tables.{get_d_table, length_table}
use Rattle.basics.specs.Lists.{flat, joined}
use Rattle.places.specs.Limits.{chapter_pages, chapter_size, flip_entries, page_size, paragraph_size}
use Rattle.places.specs.Places.{bin_word, console}
use Rattle.switches.specs.Flips.{first_k}
use Rattle.switches.specs.Laws.Flips.{first_small}
use Rattle.lines.specs.Bin as Bin
use Rattle.lines.specs.Bin.{bin_words}
use Rattle.lines.specs.Laws.Lines.{Within}
use Rattle.lines.specs.Lines.{layer}
use Rattle.lines.specs.Typed.{All, Typed}
use Rattle.lines.specs.declared.Entry.{Entry}
use Rattle.rules.specs.Rules.{out_of_range}
use Rattle.layout.specs.Layout.{written_by}
use Rattle.plan.specs.Image.{base, page_at}
use Rattle.plan.specs.Plan.{Plan, has_page, kinds}
use Rattle.plan.specs.Valid.{Valid}
use Rattle.behind.specs.Laws.Counts.{count_all}
use Rattle.canon.specs.Bin.{be16, canonical_bin, canonical_words, or_zero, page_place, paged_words, plain_place, rom_words, words_from}
use Rattle.canon.specs.Canonical.{is_rom, page_entry, page_offset, page_words, ram_entry, rom_entry, rom_offset, run_at, starts_ram, starts_rom}
use Rattle.canon.specs.Laws.Bin.{bin_size}
use Rattle.canon.specs.Laws.Lines.{all_append, all_listed, canonical_lines, page_line, ram_line, rom_line}
use Rattle.basics.specs.Laws.Listed.{length_more, word_listed}
use Rattle.canon.proofs.Theorems.OfPlan.{OfPage, OfRun, page_of, ram_of_lem, rom_of_lem}
use Rattle.basics.specs.Listed.{listed}

-- the Locutus page of layer t of chapter x
abbrev pub layer_page : Plan → ℕ → ℕ → ℕ
layer_page q x zero = base q x
layer_page q x (suc y) = page_at (q x) (base q x) y

-- a BIN's words, big endian
pub length_bytes : (ws : List ℕ) → length (joined be16 ws) ≡ 2 * length ws
unfolding joined
length_bytes [] = refl
length_bytes (v ∷ vs) = omega (arith, length_bytes vs)

high_byte : (ws : List ℕ) (m : ℕ) → get_or (joined be16 ws) (2 * m) 0 ≡ get_or ws m 0 / 256
unfolding joined
high_byte [] m = refl
high_byte (v ∷ vs) zero = refl
high_byte (v ∷ vs) (suc m) = let e : 2 * suc m ≡ suc (suc (2 * m)) = omega arith in rw e (high_byte vs m)

low_byte : (ws : List ℕ) (m : ℕ) → get_or (joined be16 ws) (2 * m + 1) 0 ≡ get_or ws m 0 % 256
unfolding joined
low_byte [] m = refl
low_byte (v ∷ vs) zero = refl
low_byte (v ∷ vs) (suc m) = let e : 2 * suc m + 1 ≡ suc (suc (2 * m + 1)) = omega arith in rw e (low_byte vs m)

or_zero_lem : (ws : List ℕ) (m : ℕ) → get_or (or_zero ws) m 0 ≡ get_or ws m 0
or_zero_lem [] zero = refl
or_zero_lem [] (suc m) = refl
or_zero_lem (v ∷ vs) m = refl

length_or_zero : (ws : List ℕ) → length (or_zero ws) ≡ max 1 (length ws)
length_or_zero [] = refl
length_or_zero (v ∷ vs) = omega arith

-- places that rise
module _ (g : ℕ → ℕ) (rise : (j : ℕ) → g j ≤ g (suc j)) where
  rises : (a n : ℕ) → g a ≤ g (a + n)
  rises a zero = let e : a + 0 ≡ a = omega arith in rw e (omega arith)
  rises a (suc n) = let e : a + suc n ≡ suc (a + n) = omega arith in rw e (omega (arith, rises a n, rise (a + n)))

  pub rising : (a b : ℕ) → a ≤ b → g a ≤ g b
  rising a b h = let e : a + (b - a) ≡ b = omega arith in rw e at (rises a (b - a))

module _ (q : Plan) where
  rom_rise : (j : ℕ) → rom_offset q j ≤ rom_offset q (suc j)
  rom_rise j = omega (arith, count_mono (is_rom q) j (suc j) (omega arith))

  pub page_rise : (j : ℕ) → page_offset q j ≤ page_offset q (suc j)
  unfolding page_offset
  page_rise j = by (has_page q j) (page_offset q j) (page_words (j / 16))
    where
      by : (b : Bool) (m n : ℕ) → m ≤ cond b (m + n) m
      by true m n = omega arith
      by false m n = omega arith

  page_next : (n : ℕ) → has_page q n ≡ true → page_offset q (suc n) ≡ page_offset q n + page_words (n / 16)
  unfolding page_offset
  page_next n e = rw e

  pages_from : page_offset q 0 ≡ rom_offset q 256
  unfolding page_offset
  pages_from = refl

  pub roms_first : rom_offset q 256 ≤ bin_size q
  roms_first = omega (arith, pages_from, rising (page_offset q) page_rise 0 256 (omega arith))

  -- a run of ROM has its words one after the other
  run_words : (p n : ℕ) → ((j : ℕ) → p ≤ j → j < p + n → kinds q j ≡ 1) → rom_offset q (p + n) ≡ rom_offset q p + 256 * n
  run_words p n h =
      let c : count (λ i. is_rom q (p + i)) n ≡ n =
      count_all (λ i. is_rom q (p + i)) n (λ i l. eq-eqb (kinds q (p + i)) 1 (h (p + i) (omega arith) (omega arith))) in
      omega (arith, count_add (is_rom q) p n)

module _ (q : Plan) (w : ℕ → ℕ) where
  abbrev rom_piece : ℕ → List ℕ
  rom_piece p = words_from w (plain_place q p) paragraph_size

  abbrev page_piece : ℕ → List ℕ
  page_piece n = words_from w (page_place q n) (page_words (n / chapter_pages))

  flat_none : (on : ℕ → Bool) (f : ℕ → List ℕ) → length (flat (listed 0 on f)) ≡ 0
  unfolding listed joined
  flat_none on f = refl

  rom_long : (p : ℕ) → length (flat (listed p (is_rom q) rom_piece)) ≡ rom_offset q p
  rom_long zero = omega (arith, flat_none (is_rom q) rom_piece, count_most (is_rom q) 0)
  rom_long (suc p) =
      length_more p (is_rom q) rom_piece
      ∙ by (is_rom q p) (length (rom_piece p)) (length_table 256 (λ i. w (plain_place q p + i))) (count_last (is_rom q) p) (rom_long p)
    where
      by : (b : Bool) (l : ℕ) → l ≡ 256 → count (is_rom q) (suc p) ≡ count (is_rom q) p + cond b 1 0 → length (flat (listed p (is_rom q) rom_piece)) ≡ rom_offset q p
          → length (flat (listed p (is_rom q) rom_piece)) + cond b l 0 ≡ rom_offset q (suc p)
      by true l e f g = omega arith
      by false l e f g = omega arith

  paged_long : (n : ℕ) → rom_offset q 256 + length (flat (listed n (has_page q) page_piece)) ≡ page_offset q n
  unfolding page_offset
  paged_long zero = omega (arith, flat_none (has_page q) page_piece)
  paged_long (suc n) =
      ap (λ (m : ℕ). rom_offset q 256 + m) (length_more n (has_page q) page_piece)
      ∙ by (has_page q n) (length (page_piece n)) (length_table (page_words (n / 16)) (λ i. w (page_place q n + i))) (paged_long n)
    where
      by : (b : Bool) (l : ℕ) → l ≡ page_words (n / 16) → rom_offset q 256 + length (flat (listed n (has_page q) page_piece)) ≡ page_offset q n
          → rom_offset q 256 + (length (flat (listed n (has_page q) page_piece)) + cond b l 0) ≡ cond b (page_offset q n + page_words (n / 16)) (page_offset q n)
      by true l e f = omega arith
      by false l e f = omega arith

  pub all_long : length (rom_words q w ++ paged_words q w) ≡ bin_size q
  all_long = length-append (rom_words q w) (paged_words q w) ∙ omega (arith, rom_long 256, paged_long 256)

  pub length_words : length (canonical_words q w) ≡ max 1 (bin_size q)
  unfolding canonical_words
  length_words = length_or_zero (rom_words q w ++ paged_words q w) ∙ ap (λ (n : ℕ). max 1 n) all_long

  pub length_bin : length (canonical_bin q w) ≡ 2 * max 1 (bin_size q)
  unfolding canonical_bin
  length_bin = length_bytes (canonical_words q w) ∙ ap (λ (n : ℕ). 2 * n) length_words

  pub bin_words_lem : bin_words (canonical_bin q w) ≡ max 1 (bin_size q)
  bin_words_lem = omega (arith, length_bin)

  bin_word_lem : (m : ℕ) → Bin.bin_word (canonical_bin q w) (bin_word m) ≡ get_or (rom_words q w ++ paged_words q w) m 0
  unfolding canonical_bin canonical_words
  bin_word_lem m =
      let v : ℕ = get_or (canonical_words q w) m 0 in
      let h : get_or (canonical_bin q w) (2 * m) 0 ≡ v / 256 = high_byte (canonical_words q w) m in
      let l : get_or (canonical_bin q w) (2 * m + 1) 0 ≡ v % 256 = low_byte (canonical_words q w) m in
      let z : v / 256 * 256 + v % 256 ≡ v = omega arith in
      ap₂ (λ (a b : ℕ). a * 256 + b) h l ∙ z ∙ or_zero_lem (rom_words q w ++ paged_words q w) m

  -- where a word of the BIN comes from
  rom_word : (p i : ℕ) → p < 256 → is_rom q p ≡ true → i < 256 → Bin.bin_word (canonical_bin q w) (bin_word (rom_offset q p + i)) ≡ w (plain_place q p + i)
  rom_word p i h e l =
      let n : length (rom_piece p) ≡ 256 = length_table 256 (λ j. w (plain_place q p + j)) in
      let s : rom_offset q (suc p) ≡ rom_offset q p + 256 = ap (rom_offset q) (omega arith) ∙ run_words q p 1 (λ j a b. ap (kinds q) (omega arith) ∙ eqb-true (kinds q p) 1 e) ∙ omega arith in
      let m : rom_offset q (suc p) ≤ rom_offset q 256 = rising (rom_offset q) (rom_rise q) (suc p) 256 (omega arith) in
      bin_word_lem (rom_offset q p + i)
      ∙ get_or-append (rom_words q w) (paged_words q w) 0 (rom_offset q p + i) (omega (arith, rom_long 256))
      ∙ ap (λ (k : ℕ). get_or (rom_words q w) (k + i) 0) (sym (rom_long p))
      ∙ word_listed 256 (is_rom q) rom_piece p i h e (omega arith)
      ∙ get_d_table 0 256 (λ j. w (plain_place q p + j)) i l

  page_word : (n i : ℕ) → n < 256 → has_page q n ≡ true → i < page_words (n / 16) → Bin.bin_word (canonical_bin q w) (bin_word (page_offset q n + i)) ≡ w (page_place q n + i)
  page_word n i h e l =
      let m : length (page_piece n) ≡ page_words (n / 16) = length_table (page_words (n / 16)) (λ j. w (page_place q n + j)) in
      let d : page_offset q n + i ≡ length (rom_words q w) + (length (flat (listed n (has_page q) page_piece)) + i) = omega (arith, paged_long n, rom_long 256) in
      bin_word_lem (page_offset q n + i)
      ∙ ap (λ (k : ℕ). get_or (rom_words q w ++ paged_words q w) k 0) d
      ∙ get_or-append-add (rom_words q w) (paged_words q w) (length (flat (listed n (has_page q) page_piece)) + i) 0
      ∙ word_listed 256 (has_page q) page_piece n i h e (omega arith)
      ∙ get_d_table 0 (page_words (n / 16)) (λ j. w (page_place q n + j)) i l

  -- what an entry is to write at an address: the image's word there
  abbrev pub Wants : Entry → Type 0
  Wants e = (a : ℕ) → Within e a → written_by (canonical_bin q w) e (console a) ≡ w (page_size * layer_page q (a / chapter_size) (layer e) + a % chapter_size)

  module _ (v : Valid q) where
    rom_kind : (s p : ℕ) → s < 256 → starts_rom q s ≡ true → s ≤ p → p < s + run_at q s → kinds q p ≡ 1
    rom_kind s p h e a b =
        let r : OfRun q (rom_entry q s) = rom_of_lem q v s h e in
        r.same p (omega (arith, r.from)) (omega (arith, r.from, r.to))

    rom_ends : (s : ℕ) → s < 256 → starts_rom q s ≡ true → rom_offset q s + 256 * run_at q s ≤ bin_size q
    rom_ends s h e =
        let o : OfRun q (rom_entry q s) = rom_of_lem q v s h e in
        let r : rom_offset q (s + run_at q s) ≡ rom_offset q s + 256 * run_at q s = run_words q s (run_at q s) (λ j a b. rom_kind s j h e a b) in
        let m : rom_offset q (s + run_at q s) ≤ rom_offset q 256 = rising (rom_offset q) (rom_rise q) (s + run_at q s) 256 (omega (arith, o.to, o.below)) in
        omega (arith, roms_first q)

    rom_wants : (s : ℕ) → s < 256 → starts_rom q s ≡ true → Wants (rom_entry q s)
    rom_wants s h e a i =
        let r : OfRun q (rom_entry q s) = rom_of_lem q v s h e in
        let x : s ≤ a / 256 = omega (arith, i.from) in
        let y : a / 256 < s + run_at q s = omega (arith, i.to, r.to) in
        let b : a / 256 < 256 = omega (arith, r.below) in
        let z : s + (a / 256 - s) ≡ a / 256 = omega arith in
        let c : rom_offset q (a / 256) ≡ rom_offset q s + 256 * (a / 256 - s) =
        ap (rom_offset q) (sym z) ∙ run_words q s (a / 256 - s) (λ j l m. rom_kind s j h e l (omega arith)) in
        let d : rom_offset q s + (a - 256 * s) ≡ rom_offset q (a / 256) + a % 256 = omega arith in
        let f : a / 256 / 16 ≡ a / 4096 = omega arith in
        let g : plain_place q (a / 256) + a % 256 ≡ 4096 * base q (a / 4096) + a % 4096 = rw f (omega arith) in
        ap (λ (k : ℕ). Bin.bin_word (canonical_bin q w) (bin_word k)) d
        ∙ rom_word (a / 256) (a % 256) b (eq-eqb (kinds q (a / 256)) 1 (rom_kind s (a / 256) h e x y)) (omega arith) ∙ ap w g

    page_wants : (n : ℕ) → n < 256 → has_page q n ≡ true → Wants (page_entry q n)
    page_wants n h e a i =
        let r : OfPage q (page_entry q n) = page_of q v n h e in
        let k : first_k (n / 16) ≤ 8 = first_small (n / 16) in
        let t : a ≤ 4096 * (n / 16) + 4095 = omega (arith, i.to, r.to) in
        let f : 4096 * (n / 16) + 256 * first_k (n / 16) ≤ a = i.from in
        let c : n / 16 ≡ a / 4096 = omega arith in
        let j : ℕ = a - (4096 * (n / 16) + 256 * first_k (n / 16)) in
        let l : j < page_words (n / 16) = omega arith in
        let g : page_place q n + j ≡ 4096 * layer_page q (n / 16) (suc (n % 16)) + a % 4096 = omega arith in
        page_word n j h e l ∙ ap w (g ∙ ap (λ (x : ℕ). 4096 * layer_page q x (suc (n % 16)) + a % 4096) c)

    -- none is past the BIN's end or past $FFFF
    in_bin : (lo n at : ℕ) → lo + n < max 1 (bin_size q) → at + n < 0x10000
        → ltb (lo + n) lo || (leb (max 1 (bin_size q)) (lo + n) || ltb 0xFFFF (at + (lo + n - lo))) ≡ false
    in_bin lo n at a b =
        let d : lo + n - lo ≡ n = omega arith in
        rw (le-ltb (lo + n) lo (omega arith), lt-leb (max 1 (bin_size q)) (lo + n) a, d) (le-ltb 0xFFFF (at + n) (omega arith))

    pub all_in : All (λ e. out_of_range (max 1 (bin_size q)) e ≡ false) (canonical_lines q)
    all_in =
        all_append
        (all_listed 256 (starts_rom q) (rom_line q)
        (λ s b e.
        let r : OfRun q (rom_entry q s) = rom_of_lem q v s b e in
        in_bin (rom_offset q s) (256 * run_at q s - 1) (256 * s) (omega (arith, rom_ends s b e, r.some)) (omega (arith, r.below, r.some))))
        (all_append
        (all_listed 256 (has_page q) (page_line q)
        (λ n b e.
        let k : first_k (n / 16) ≤ 8 = first_small (n / 16) in
        in_bin (page_offset q n) (page_words (n / 16) - 1) (4096 * (n / 16) + 256 * first_k (n / 16))
        (omega (arith, page_next q n e, rising (page_offset q) (page_rise q) (suc n) 256 (omega arith))) (omega arith)))
        (all_listed 256 (starts_ram q) (ram_line q)
        (λ s b e.
        let r : OfRun q (ram_entry q s) = ram_of_lem q v s b e in
        rw (le-ltb (256 * s + (256 * run_at q s - 1)) (256 * s) (omega arith)) (le-ltb 0xFFFF (256 * s + (256 * run_at q s - 1)) (omega (arith, r.below, r.some, r.to))))))

    pub all_typed : All Typed (canonical_lines q)
    all_typed =
        all_append (all_listed 256 (starts_rom q) (rom_line q) (λ s b e. omega arith))
        (all_append (all_listed 256 (has_page q) (page_line q) (λ n b e. omega (arith, first_small (n / 16))))
        (all_listed 256 (starts_ram q) (ram_line q)
        (λ s b e.
        let r : OfRun q (ram_entry q s) = ram_of_lem q v s b e in
        (omega arith, omega (arith, r.below, r.some, r.to)))))

    -- the words of RAM are zeros in the image
    pub all_wants : ((s : ℕ) → s < 256 → starts_ram q s ≡ true → (a : ℕ) → s ≤ a / 256 → a / 256 < s + run_at q s → w (4096 * base q (a / 4096) + a % 4096) ≡ 0) → All Wants (canonical_lines q)
    all_wants z =
        all_append (all_listed 256 (starts_rom q) (rom_line q) (λ s b e. rom_wants s b e))
        (all_append (all_listed 256 (has_page q) (page_line q) (λ n b e. page_wants n b e))
        (all_listed 256 (starts_ram q) (ram_line q)
        (λ s b e a i.
        let r : OfRun q (ram_entry q s) = ram_of_lem q v s b e in
        sym (z s b e a (omega (arith, i.from)) (omega (arith, i.to, r.to))))))
