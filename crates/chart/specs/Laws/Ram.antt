-- RAM keeps what is written to it, all of it or its low eight bits: where RAM shows no write is a page request or a bankswitch, and only the word that turns
-- the accelerators on goes elsewhere.
use Rattle.std.specs.Prelude.{ℕ, ◌≤◌, ◌<◌, ◌+◌, ◌*◌, ◌/◌, ◌%◌, Bool, true, false, ◌&&◌, List, ◌≡◌, refl, eqb, get_or, set, Option, Some, None}
use Rattle.std.proofs.Math.Path.{sym, ap}
use Rattle.std.proofs.Common.{◌∙◌, arith, length-set}
use Rattle.std.proofs.Math.ListN.{length}
use Rattle.std.proofs.Math.Seq.{get_or-set_same}
use borrow.Author.Tests.{eqb-true, lt-ltb, ltb-true}
use Rattle.basics.specs.Laws.Tests.{cases, and_left, and_right, true_is_not_false}
use Rattle.places.specs.declared.Console.{Console}
use Rattle.places.specs.Limits.{lent, chapter_pages}
use Rattle.switches.specs.Flips.{asks, acts, flip_from, flip_size}
use Rattle.switches.specs.Banks.{register_at}
use Rattle.switches.specs.Laws.Banks.{register_low}
use Rattle.switches.specs.Laws.Flips.{first_small}
use Rattle.flash.specs.Flash.{memories}
use Rattle.jlp.specs.Window.{in_window}
use Rattle.jlp.specs.Accelerators.{turns_on, takes}
use Rattle.jlp.specs.Laws.Accelerators.{not_taken}
use Rattle.cart.specs.declared.Cartridge.{Cartridge}
use Rattle.cart.specs.declared.Cell.{Cell}
use Rattle.cart.specs.declared.Taker.{Taker}
use Rattle.cart.specs.declared.Taker.TheVariants.{Ram}
use Rattle.cart.specs.Cells.{READ, WRITE, NARROW, paragraph, cell_at, lies}
use Rattle.cart.specs.Reads.{silent, fetched, read_by}
use Rattle.cart.specs.Writes.{stored_word, stored, bank_taker, flip_taker, taker_of, left_by, memories_by, leaves, leaves_ram}
use Rattle.cart.specs.Cartridges.{active_of, read_of, write_of, write_ram_of}
use Rattle.chart.specs.declared.Shown.TheVariants.{Ram16, Ram8}
use Rattle.chart.specs.Chart.{is_paged, shown_at}
use Rattle.chart.specs.Laws.Pages.{paged_exactly}
use Rattle.chart.specs.Laws.Says.{permission, Plain, said, silent_at, theirs_at}

-- a page request goes to the last address of its chapter, which the entry changes
abbrev entry_in : Option ℕ → ℕ
entry_in (Some n) = n
entry_in None = 0

abbrev is_entry : Option ℕ → Bool
is_entry (Some n) = true
is_entry None = false

module _ (at : Console) (v n : ℕ) (e : asks at v ≡ Some n) where
  abbrev here : Bool
  here = eqb (at.0 % 0x1000) 0xFFF

  abbrev same : Bool
  same = eqb (v / 0x1000) (at.0 / 0x1000)

  abbrev key : Bool
  key = eqb (v / 16 % 256) 0xA5

  asked : (here && (same && key) ≡ true) × (n ≡ v / 0x1000 * chapter_pages + v % chapter_pages)
  unfolding asks
  asked =
      cases (here && (same && key)) (λ t. (t, sym (ap entry_in (rw t at e)))) (λ t. true_is_not_false (ap is_entry (rw t at e)) refl)

  last : at.0 % 0x1000 ≡ 0xFFF
  last = eqb-true _ _ (and_left here (same && key) asked.0)

  chapter : n / chapter_pages ≡ at.0 / 0x1000
  chapter =
      let s : v / 0x1000 ≡ at.0 / 0x1000 = eqb-true _ _ (and_left same key (and_right here (same && key) asked.0)) in
      omega (arith, asked.1)

  pub request_from : flip_from n ≤ paragraph at
  request_from = omega (arith, last, chapter, first_small (n / chapter_pages))

  pub request_below : paragraph at < flip_from n + flip_size n
  request_below = omega (arith, last, chapter, first_small (n / chapter_pages))

-- a cell that may be read and written, and lies in the RAM, gives back what it stored
module _ (k : Cell) (ram : List ℕ) (v : ℕ) where
  abbrev word : ℕ
  word = stored_word k.rights.narrow (get_or ram k.location.0 0) v

  still_lies : lies k.location (set ram k.location.0 word) ≡ lies k.location ram
  still_lies = rw (length-set ram k.location.0 word)

  kept_word : k.rights.read ≡ true → k.rights.write ≡ true → lies k.location ram ≡ true → fetched k (stored k ram v) ≡ Some word
  unfolding fetched stored
  kept_word r w l =
      let b : k.location.0 < length ram = omega (arith, ltb-true k.location.0 (lent ram) l) in
      rw (r, w, l, still_lies, l, get_or-set_same ram k.location.0 word 0 b)

-- the word of RAM takes a write that nobody before it takes
module _ (c : Cartridge) (at : Console) (v : ℕ) where
  abbrev cell : Cell
  cell = cell_at (active_of c) at

  registers_silent : (h : ℕ) → register_at at ≡ Some h → silent at ≡ true
  unfolding silent
  registers_silent h e = rw (lt-ltb at.0 0x500 (omega (arith, register_low at h e)))

  no_bank : silent at ≡ false → (next : Taker) (r : Option ℕ) → register_at at ≡ r → bank_taker c.permissions r v next ≡ next
  no_bank q next (Some h) e = true_is_not_false (registers_silent h e) q
  no_bank q next None e = refl

  no_flip : is_paged c.flips (paragraph at) ≡ false → (next : Taker) (r : Option ℕ) → asks at v ≡ r → flip_taker c.flips r next ≡ next
  no_flip g next (Some n) e =
      cases (acts c.flips n)
      (λ t.
      true_is_not_false
      ((paged_exactly c.flips (paragraph at)).1 (record { number = n; acting = t; from = request_from at v n e; below = request_below at v n e })) g)
      (λ t. rw t)
  no_flip g next None e = refl

  module _ (q : silent at ≡ false) (t : (c.jlp.on && in_window at) ≡ false) (g : is_paged c.flips (paragraph at) ≡ false) (o : turns_on c.jlp.field at v ≡ false) where
    untaken : takes c.jlp at v ≡ false
    unfolding takes
    untaken = rw (o, t)

    word_takes : taker_of c.jlp (active_of c) c.flips at v ≡ Ram cell
    word_takes = rw untaken (no_bank q _ (register_at at) refl ∙ no_flip g (Ram cell) (asks at v) refl)

    tables_stay : leaves c.jlp (active_of c) c.flips at v ≡ active_of c
    unfolding leaves
    tables_stay = ap (λ (u : Taker). left_by u (active_of c) c.flips) word_takes

    word_stored : (flash ram : List ℕ) → write_ram_of c flash ram at v ≡ stored cell ram v
    unfolding leaves_ram
    word_stored flash ram = ap (λ (u : Taker). (memories_by u c.jlp.saves (memories flash ram) at v).ram) word_takes

    read_after : (ram : List ℕ) → read_of (write_of c at v) ram at ≡ fetched cell ram
    unfolding read_by
    read_after ram = rw (not_taken c.jlp at v untaken, tables_stay, t, q)

    read_back : (flash ram : List ℕ) → READ (permission c (paragraph at)) ≡ true → WRITE (permission c (paragraph at)) ≡ true → lies cell.location ram ≡ true
        → read_of (write_of c at v) (write_ram_of c flash ram at v) at ≡ Some (stored_word cell.rights.narrow (get_or ram cell.location.0 0) v)
    read_back flash ram r w l = ap (λ (m : List ℕ). read_of (write_of c at v) m at) (word_stored flash ram) ∙ read_after (stored cell ram v) ∙ kept_word cell ram v r w l

-- what RAM 16 gives back, and RAM 8 beside the old high bits; the RAM's place is lent
module _ (c : Cartridge) (flash ram : List ℕ) (at : Console) (v : ℕ) (there : lies (cell_at (active_of c) at).location ram ≡ true)
    (off : turns_on c.jlp.field at v ≡ false) where
  abbrev back : Option ℕ
  back = read_of (write_of c at v) (write_ram_of c flash ram at v) at

  abbrev old : ℕ
  old = get_or ram (cell_at (active_of c) at).location.0 0

  given : Plain c (paragraph at) → READ (permission c (paragraph at)) ≡ true → WRITE (permission c (paragraph at)) ≡ true
      → back ≡ Some (stored_word (NARROW (permission c (paragraph at))) old v)
  given k r w =
      read_back c at v (silent_at c at false k.loud) (theirs_at c at false k.free) k.unpaged off flash ram r w there

  pub ram_16_keeps : shown_at c (paragraph at) ≡ Ram16 → back ≡ Some v
  ram_16_keeps e = let h = said c (paragraph at) Ram16 e in given h.0 h.1 h.2 ∙ ap (λ (b : Bool). Some (stored_word b old v)) h.3

  pub ram_8_keeps : shown_at c (paragraph at) ≡ Ram8 → back ≡ Some (old / 256 * 256 + v % 256)
  ram_8_keeps e = let h = said c (paragraph at) Ram8 e in given h.0 h.1 h.2 ∙ ap (λ (b : Bool). Some (stored_word b old v)) h.3
