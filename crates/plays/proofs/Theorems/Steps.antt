-- One access, by the machine and by the plain cartridge: a read is answered alike, and a write keeps the two tied.
use Rattle.std.specs.Prelude.{ℕ, ◌≤◌, ◌*◌, ◌/◌, ◌%◌, ◌+◌, ◌<◌, List, ◌≡◌, Bool, cond, ◌&&◌, set, eqb, leb, Some}
use Rattle.std.proofs.Common.{◌∙◌, sym}
use Rattle.std.proofs.Math.Path.{ap, refl}
use Rattle.std.proofs.Math.Bool.{false, true}
use Rattle.std.proofs.Math.Option.{Option, some, none}
use native.Mathlib.Omega.{arith}
use Rattle.std.proofs.Math.ListN.{get_or}
use borrow.Author.Tests.{lt-ltb, eqb-true, le-leb}
use Rattle.basics.specs.Laws.Tables.{past_table}
use Rattle.basics.specs.Laws.Tests.{true_is_not_false, cases, and_left, and_right}
use Rattle.basics.specs.Laws.Options.{some_is_not_none}
use Rattle.places.specs.declared.Console.{Console}
use Rattle.places.specs.Limits.{chapter_size, lent_limit, lent, paragraphs, chapters, flip_entries}
use Rattle.switches.specs.Flips.{first_k, asks}
use Rattle.switches.specs.Banks.{BANKSW}
use Rattle.switches.specs.Laws.Flips.{first_small}
use Rattle.flash.specs.Flash.{memories}
use Rattle.jlp.specs.declared.Jlp.{Jlp}
use Rattle.jlp.specs.Accelerators.{fresh_jlp, written_jlp}
use Rattle.jlp.specs.Laws.Accelerators.{none_written}
use Rattle.cart.specs.declared.Cartridge.{Cartridge}
use Rattle.cart.specs.declared.Cell.{Cell}
use Rattle.cart.specs.declared.Taker.{Taker}
use Rattle.cart.specs.declared.Taker.TheVariants.{Ram, Flip}
use Rattle.cart.specs.Cells.{READ, WRITE, NARROW, paragraph, locate, cell_at, lies}
use Rattle.cart.specs.Reads.{silent, fetched, read_by}
use Rattle.cart.specs.Writes.{flip_taker, taker_of, stored_word, stored, memories_by, leaves, leaves_ram, leaves_readable}
use Rattle.cart.specs.Cartridges.{active_of, read_of, write_of, write_ram_of}
use Rattle.cart.specs.Laws.Banks.{ordinary}
use Rattle.cart.proofs.Theorems.Jlp.{unaccelerated_taker}
use Rattle.lines.specs.declared.Line.{Line}
use Rattle.lines.specs.declared.Width.TheVariants.{Sixteen, Eight}
use Rattle.lines.specs.Lines.{line_at, layer, is_ram}
use Rattle.lines.specs.Kinds.{kind_by, kind_of}
use Rattle.lines.specs.Laws.Lines.{ram_plain}
use Rattle.rules.specs.Laws.Rules.{Good, paged_below, found_below, found_open, paged_above, not_ram}
use Rattle.rules.specs.Chapters.{paged}
use Rattle.layout.specs.Layout.{permissions_at, flip_entry, mapping_at, needed}
use Rattle.layout.specs.Laws.Layout.{place_of}
use Rattle.layout.specs.Laws.Places.{place_below}
use Rattle.layout.specs.Laws.Shows.{pfe_is}
use Rattle.layout.specs.Laws.Tables.{unbanked}
use Rattle.plays.specs.Plain.{shown_line, answer_by, plain_read, ram_by, ram_after, is_request, number_after}
use Rattle.plays.specs.Laws.Shown.{shows, none_past, shown_line_lem, ram_shown}
use Rattle.plays.specs.Laws.Tabled.{Tabled, flips_length, flip_in_lem, tabled_flip, tabled_idle}
use Rattle.plays.specs.Laws.Held.{Held, held_store, ram_word_lem}
use Rattle.lines.specs.declared.Entry as Entries
use Rattle.lines.specs.declared.Entry.TheVariants as Kinds

module _ {lines : List Line} (g : Good lines) where
  permissions_past : (y p : ℕ) → paragraphs ≤ p → permissions_at lines y p ≡ 0
  permissions_past y p s =
      let q : 256 * p / 256 ≡ p = omega arith in
      let e : permissions_at lines y (256 * p / 256) ≡ kind_of (shown_line lines y (record { 0 = 256 * p })) =
      (shows g y (record { 0 = 256 * p })).permissions in
      rw q at e ∙ ap kind_of (none_past g y (record { 0 = 256 * p }) (omega arith))

  unpaged_past : (x : ℕ) → chapters ≤ x → (b : Bool) → paged lines x ≡ b → paged lines x ≡ false
  unpaged_past x s true e = absurd (omega (arith, paged_below g.fine x e))
  unpaged_past x s false e = e

  flip_past : (x y : ℕ) → chapters ≤ x → flip_entry lines x y ≡ 0
  unfolding flip_entry
  flip_past x y s = simp (unpaged_past x s (paged lines x) refl)

-- the permissions of every paragraph: past the table they are 0; none has BANKSW
module _ {lines : List Line} (g : Good lines) (c : Cartridge) (number : ℕ → ℕ) (t : Tabled lines c number) where
  tabled_permissions : (p : ℕ) → get_or c.permissions p 0 ≡ permissions_at lines (number (p / 16)) p
  tabled_permissions =
      past_table c.permissions (λ p. permissions_at lines (number (p / 16)) p) t.permissions_length t.permissions
      (λ p s. permissions_past g (number (p / 16)) p s)

  pub tabled_unbanked : (p : ℕ) → BANKSW (get_or c.permissions p 0) ≡ false
  tabled_unbanked p = rw (tabled_permissions p) (unbanked lines (number (p / 16)) p)

-- every line's permissions let it be read; RAM's let it be written
reads : (e : Entries.Entry) → READ (kind_by e) ≡ true
reads (Kinds.Rom lo hi at) = refl
reads (Kinds.Paged lo hi at y) = refl
reads (Kinds.Ram lo hi Sixteen) = refl
reads (Kinds.Ram lo hi Eight) = refl

module _ {bin : List ℕ} {lines : List Line} (g : Good lines) (c : Cartridge) (ram : List ℕ) (number : ℕ → ℕ) (mem : Console → ℕ)
    (t : Tabled lines c number) (h : Held bin lines ram mem) (at : Console) where
  -- the line shown at the address
  abbrev shown : Option Line
  shown = shown_line lines (number (at.0 / chapter_size)) at

  -- the cell that the address reaches
  abbrev reached : Cell
  reached = cell_at (active_of c) at

  -- every flip entry: past the table it is 0
  flip_at : (n : ℕ) → get_or c.flips n 0 ≡ flip_entry lines (n / 16) (n % 16)
  flip_at =
      past_table c.flips (λ n. flip_entry lines (n / 16) (n % 16)) (flips_length t) (flip_in_lem t)
      (λ n s. flip_past g (n / 16) (n % 16) (omega arith))

  -- what the machine finds at the address: the permissions and the place of the line shown
  chapter : at.0 / 256 / 16 ≡ at.0 / chapter_size
  chapter = omega arith

  permissions_there : get_or c.permissions (paragraph at) 0 ≡ kind_of shown
  permissions_there = tabled_permissions g c number t (at.0 / 256) ∙ rw chapter (shows g (number (at.0 / chapter_size)) at).permissions

  module _ (l : Line) (e : shown ≡ some l) where
    line_there : line_at lines (layer l.entry) at.0 ≡ some l
    line_there = shown_line_lem g (number (at.0 / chapter_size)) at l e

    place_there : (locate (get_or c.mapping (paragraph at) 0) at).0 ≡ (place_of lines (layer l.entry) at).0
    place_there =
        let m : get_or c.mapping (at.0 / 256) 0 ≡ mapping_at lines (number (at.0 / chapter_size)) (at.0 / 256) =
        t.mapping (at.0 / 256) (omega (arith, found_below g.fine (layer l.entry) at.0 l line_there)) ∙ rw chapter in
        let p : mapping_at lines (number (at.0 / chapter_size)) (at.0 / 256) * 256 + at.0 % 256 ≡ (place_of lines (layer l.entry) at).0 =
        (shows g (number (at.0 / chapter_size)) at).mapping l e in
        let b : (place_of lines (layer l.entry) at).0 < needed lines = place_below g.fine (layer l.entry) at l line_there in
        let s : (place_of lines (layer l.entry) at).0 % lent_limit ≡ (place_of lines (layer l.entry) at).0 = omega (arith, h.room) in
        rw (m, p, s)

  lies_there : (u : ℕ) (l : Line) → line_at lines u at.0 ≡ some l → lies (place_of lines u at) ram ≡ true
  lies_there u l e =
      lt-ltb (place_of lines u at).0 (lent ram) (omega (arith, place_below g.fine u at l e, h.room))

  -- a read
  read_case : (o : Option Line) → shown ≡ o → read_of c ram at ≡ answer_by bin mem o at
  unfolding read_by fetched
  read_case none e = cases (silent at) (λ s. simp (t.jlp, s)) (λ s. simp (t.jlp, s, permissions_there, e))
  read_case (some l) e =
      simp (
        t.jlp,
        permissions_there,
        place_there l e,
        e,
        reads l.entry,
        lies_there (layer l.entry) l (line_there l e),
        found_open g.fine (layer l.entry) at.0 l (line_there l e),
        h.words (layer l.entry) at l (line_there l e),
      )

  pub read_alike : read_of c ram at ≡ plain_read bin lines (record { number = number; ram = mem }) at
  unfolding plain_read
  read_alike = read_case shown refl

  -- a store: what the plain cartridge keeps where no RAM line holds the address
  kept_by : (e : Entries.Entry) (v : ℕ) → is_ram e ≡ false → ram_by e mem at v ≡ mem
  kept_by (Kinds.Rom lo hi a) v e = refl
  kept_by (Kinds.Paged lo hi a y) v e = refl
  kept_by (Kinds.Ram lo hi w) v e = true_is_not_false refl e

  kept_at : (v : ℕ) (o : Option Line) → ((l : Line) → o ≡ some l → is_ram l.entry ≡ false) → ram_after o mem at v ≡ mem
  kept_at v none f = refl
  kept_at v (some l) f = kept_by l.entry v (f l refl)

  kept : (v : ℕ) → ((l : Line) → shown ≡ some l → is_ram l.entry ≡ false) → ram_after (line_at lines 0 at.0) mem at v ≡ mem
  kept v f =
      kept_at v (line_at lines 0 at.0)
      (λ l q.
      cases (is_ram l.entry) (λ r. f l (ram_shown g (number (at.0 / chapter_size)) at l q r)) (λ r. r))

  -- and by the line that is shown
  Stores : ℕ → Type 0
  Stores v = Held bin lines (stored reached ram v) (ram_after (line_at lines 0 at.0) mem at v)

  still : (v : ℕ) (o : Option Line) → shown ≡ o → ((l : Line) → o ≡ some l → is_ram l.entry ≡ false) → WRITE (kind_of o) ≡ false → Stores v
  unfolding Stores stored
  still v o e f w = simp (permissions_there, kept v (λ l q. f l (sym e ∙ q)), e, w) h

  module _ (v : ℕ) (l : Line) (e : shown ≡ some l) (r : is_ram l.entry ≡ true) where
    ram_there : line_at lines 0 at.0 ≡ some l
    ram_there = rw (ram_plain l.entry r) at (line_there l e)

    ram_stored : WRITE (kind_by l.entry) ≡ true →
        stored reached ram v
        ≡ set ram (place_of lines 0 at).0 (stored_word (NARROW (kind_by l.entry)) (get_or ram (place_of lines 0 at).0 0) v)
    unfolding stored
    ram_stored w = simp (permissions_there, place_there l e, e, w, ram_plain l.entry r, lies_there 0 l ram_there)

  store_by : (v : ℕ) (l : Line) → shown ≡ some l → (k : Entries.Entry) → l.entry ≡ k → Stores v
  unfolding Stores
  store_by v l e (Kinds.Rom lo hi a) q = still v (some l) e (λ m s. let r : l ≡ m = cc in rw (← r, q)) (rw q)
  store_by v l e (Kinds.Paged lo hi a y) q = still v (some l) e (λ m s. let r : l ≡ m = cc in rw (← r, q)) (rw q)
  store_by v l e (Kinds.Ram lo hi Sixteen) q =
      let r : is_ram l.entry ≡ true = rw q in
      simp (ram_stored v l e r (rw q), ram_there v l e r, q)
      (held_store bin g.fine ram mem h at v l (ram_there v l e r) r (λ k. true_is_not_false k (rw q)))
  store_by v l e (Kinds.Ram lo hi Eight) q =
      let r : is_ram l.entry ≡ true = rw q in
      let old : get_or ram (place_of lines 0 at).0 0 ≡ mem at =
      h.words 0 at l (ram_there v l e r) ∙ ram_word_lem l.entry bin mem at r in
      let low : get_or ram (place_of lines 0 at).0 0 / 256 * 256 + v % 256 ≡ v % 256 = omega (arith, h.narrow at l (ram_there v l e r) (rw q)) in
      simp (ram_stored v l e r (rw q), ram_there v l e r, q, low)
      (held_store bin g.fine ram mem h at (v % 256) l (ram_there v l e r) r (λ k. omega arith))

  store_case : (v : ℕ) (o : Option Line) → shown ≡ o → Stores v
  store_case v none e = still v none e (λ l q. some_is_not_none q refl) refl
  store_case v (some l) e = store_by v l e l.entry refl

  held_write : (v : ℕ) → Stores v
  held_write v = store_case v shown refl

  -- a request
  module _ (v : ℕ) where
    abbrev taker : Taker
    taker = taker_of c.jlp (active_of c) c.flips at v

    -- there are no accelerators, and no bit BANKSW is set, so a bankswitch register is an ordinary address
    not_switched : taker ≡ flip_taker c.flips (asks at v) (Ram reached)
    not_switched =
        ap (λ (j : Jlp). taker_of j (active_of c) c.flips at v) t.jlp
        ∙ unaccelerated_taker (fresh_jlp 0 0) refl refl (active_of c) at c.flips v
        ∙ ordinary (active_of c) c.flips at v (tabled_unbanked g c number t)

    not_accelerated : written_jlp c.jlp at v ≡ c.jlp
    not_accelerated = rw t.jlp (none_written (fresh_jlp 0 0) refl refl at v)

    takes_nothing : is_request at v ≡ false → taker ≡ Ram reached
    unfolding asks
    takes_nothing e = not_switched ∙ simp e

    entry : ℕ
    entry = at.0 / chapter_size * 16 + v % 16

    asks_entry : is_request at v ≡ true → asks at v ≡ Some entry
    unfolding asks entry
    asks_entry e =
        let q : v / 0x1000 ≡ at.0 / chapter_size = eqb-true _ _ (and_left (eqb (v / 0x1000) (at.0 / chapter_size)) _ (and_right (eqb (at.0 % chapter_size) 0xFFF) _ e)) in
        rw (e, q)

    entry_small : paged lines (at.0 / chapter_size) ≡ true → entry < flip_entries
    unfolding entry
    entry_small p = omega (arith, paged_below g.fine (at.0 / chapter_size) p)

    entry_chapter : entry / 16 ≡ at.0 / chapter_size
    unfolding entry
    entry_chapter = omega arith

    entry_page : entry % 16 ≡ v % 16
    unfolding entry
    entry_page = omega arith

    takes_by : is_request at v ≡ true → taker ≡ cond (paged lines (at.0 / chapter_size) && leb 2 (at.0 / chapter_size)) (Flip entry) (Ram reached)
    takes_by e = not_switched ∙ simp (asks_entry e, flip_at entry, entry_chapter, pfe_is)

    takes_flip : is_request at v ≡ true → paged lines (at.0 / chapter_size) ≡ true → taker ≡ Flip entry
    takes_flip e p = takes_by e ∙ simp (p, le-leb _ _ (paged_above g.fine (at.0 / chapter_size) p))

    takes_ram : is_request at v ≡ true → paged lines (at.0 / chapter_size) ≡ false → taker ≡ Ram reached
    takes_ram e p = takes_by e ∙ simp p

    -- what a write leaves of the tables and of the RAM, by its case
    tables_by_lem : (b q : Bool) → is_request at v ≡ b → paged lines (at.0 / chapter_size) ≡ q → Tabled lines (write_of c at v) (number_after number at v)
    unfolding leaves leaves_readable number_after
    tables_by_lem true true e p =
        rw (takes_flip e p, e, not_accelerated, ← entry_chapter, ← entry_page) (tabled_flip t entry _ (entry_small p) (rw entry_chapter p))
    tables_by_lem true false e p = rw (takes_ram e p, e, not_accelerated) (tabled_idle t (at.0 / chapter_size) (v % 16) p)
    tables_by_lem false q e p = rw (takes_nothing e, e, not_accelerated) t

    request_last : is_request at v ≡ true → at.0 % chapter_size ≡ 0xFFF
    request_last e = eqb-true (at.0 % chapter_size) 0xFFF (and_left (eqb (at.0 % chapter_size) 0xFFF) _ e)

    -- what the taker leaves of the RAM, whatever flash is lent
    ram_by_lem : (flash : List ℕ) (u : Taker) → taker ≡ u → write_ram_of c flash ram at v ≡ (memories_by u c.jlp.saves (memories flash ram) at v).ram
    unfolding leaves_ram
    ram_by_lem flash u e = ap (λ (w : Taker). (memories_by w c.jlp.saves (memories flash ram) at v).ram) e

    ram_of_lem : (flash : List ℕ) (b q : Bool) → is_request at v ≡ b → paged lines (at.0 / chapter_size) ≡ q →
        Held bin lines (write_ram_of c flash ram at v) (ram_after (line_at lines 0 at.0) mem at v)
    unfolding Stores
    ram_of_lem flash true true e p =
        let f : first_k (at.0 / chapter_size) ≤ at.0 / 256 % 16 = omega (arith, request_last e, first_small (at.0 / chapter_size)) in
        rw (ram_by_lem flash (Flip entry) (takes_flip e p), kept_at v (line_at lines 0 at.0) (λ l q. not_ram g at.0 f p l q)) h
    ram_of_lem flash true false e p = rw (ram_by_lem flash (Ram reached) (takes_ram e p)) (held_write v)
    ram_of_lem flash false q e p = rw (ram_by_lem flash (Ram reached) (takes_nothing e)) (held_write v)

    pub tables_after : Tabled lines (write_of c at v) (number_after number at v)
    tables_after = tables_by_lem (is_request at v) (paged lines (at.0 / chapter_size)) refl refl

    pub ram_after_lem : (flash : List ℕ) → Held bin lines (write_ram_of c flash ram at v) (ram_after (line_at lines 0 at.0) mem at v)
    ram_after_lem flash = ram_of_lem flash (is_request at v) (paged lines (at.0 / chapter_size)) refl refl
