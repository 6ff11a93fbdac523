-- What one console access does, proved.
use Rattle.std.specs.Prelude.{ℕ, ◌+◌, ◌*◌, ◌-◌, ◌/◌, ◌%◌, ◌<◌, ◌≤◌, List, Bool, true, false, cond, not, ◌&&◌, ◌||◌, ◌↔◌, ◌⊎◌, ◌≡◌, refl, eqb, ltb, leb, length, Some, None, Option}
use Rattle.std.specs.Prelude.{get_or, set}
use Rattle.std.proofs.Common.{inl, inr, sym, ap, ◌∙◌, arith, get_or-set_same}
use Rattle.std.proofs.Math.Seq.{get_or-set_other}
use Rattle.basics.specs.Counts.{count}
use Rattle.basics.specs.Laws.Counts.{count_same}
use borrow.Author.Tests.{eq-eqb, ne_eqb, lt-ltb, le-ltb, le-leb, lt-leb, eqb-true, eqb-false, ltb-true, ltb-false, leb-true}
use Rattle.basics.specs.Laws.Tests.{cases, and_left, and_right, and_true, and_false, or_false_left, or_false_right}
use Rattle.places.specs.declared.Console.{Console}
use Rattle.places.specs.Limits.{lent, chapter_paragraphs}
use Rattle.switches.specs.Flips.{Active, asks, PFE, acts, first_k, flip_mapping, flip_permissions}
use Rattle.switches.specs.Banks.{half_page_paragraphs, register_at, banked}
use Rattle.switches.specs.Laws.Flips.{turned_in, turned_out}
use Rattle.switches.specs.Laws.Banks.{switched_in, switched_out, register_low}
use Rattle.flash.specs.declared.Command.{Command}
use Rattle.flash.specs.Flash.{ram_start, ram_end, sector_limit, memories}
use Rattle.flash.specs.Registers.{jf_first, jf_last, jf_wrcmd, jf_rdcmd, jf_ercmd, has_flash, flash_heard, command_of}
use Rattle.jlp.specs.Window.{between, in_window, in_ram, window_start, window_end, first_at, second_at, crc_at}
use Rattle.jlp.specs.Accelerators.{register_word, heard_at, turns_on, takes, written_jlp}
use Rattle.jlp.specs.Laws.Accelerators.{turns_on_exactly, outside_takes, on_takes, not_taken, ram_quiet}
use Rattle.jlp.specs.Laws.Window.{between_low, between_high, between_in, between_below}
use Rattle.cart.specs.declared.Cartridge.{Cartridge}
use Rattle.cart.specs.Cells.{cell_at, window_cell, lies, READ, WRITE, NARROW}
use Rattle.cart.specs.Readable.{readable_in}
use Rattle.cart.specs.Reads.{silent, register_source, window_source, mapped_source, given_by, fetched, read_by}
use Rattle.cart.specs.declared.Taker.{Taker}
use Rattle.cart.specs.declared.Taker.TheVariants.{Accelerators, Bank, Flip, Ram}
use Rattle.cart.specs.Writes.{window_taker, bank_taker, flip_taker, mapped_taker, stored_word, stored, taker_of, left_by, memories_by, assigned_by, leaves}
use Rattle.cart.specs.Writes.{leaves_ram, leaves_flash, assigned}
use Rattle.cart.specs.Cartridges.{active_of, read_of}
use Rattle.cart.specs.Run.{World, Reset, step}
use Rattle.cart.specs.Laws.Banks.{switch_takes}
use Rattle.demands.specs.Machine.{Accelerated, Hears, HearsRam, HearsRow, HearsRegister, entry_at, location_at, Flips, Switches, TurnsOn, Ordinary, Flipped}
use Rattle.demands.specs.Machine.{Switched, Stored, StoredJlp, Latched, after_write, reported, Machine}

-- the test that the definitions ask for the accelerators' addresses
pub free_test : (c : Cartridge) (at : Console) → (Accelerated c at → ⊥) → c.jlp.on && in_window at ≡ false
free_test c at free =
    cases (c.jlp.on && in_window at)
    (λ t.
    let w : in_window at ≡ true = and_right c.jlp.on (in_window at) t in
    absurd (free (and_left c.jlp.on (in_window at) t, (between_low window_start window_end at.0 w, between_high window_start window_end at.0 w))))
    (λ t. t)

pub have_test : (c : Cartridge) (at : Console) → Accelerated c at → c.jlp.on && in_window at ≡ true
have_test c at h = and_true c.jlp.on (in_window at) h.0 (between_in window_start window_end at.0 h.1.0 h.1.1)

word_is : (x w : ℕ) → Some x ≡ Some w → x ≡ w
word_is x w e = cc

no_word : {A : Type 0} (w : ℕ) → None ≡ Some w → A
no_word w e = let z : ◌≡◌ {A = ℕ} 0 1 = cc in absurd (omega arith)

-- by the tables: the tests of a silent range and of a cell that answers
module _ (at : Console) where
  abbrev low : Bool
  low = ltb at.0 0x500

  abbrev one : Bool
  one = eqb (at.0 / 0x1000) 1

  abbrev three : Bool
  three = eqb (at.0 / 0x1000) 3

module _ (c : Cartridge) (ram : List ℕ) (at : Console) (w : ℕ) (free : Accelerated c at → ⊥) where
  mapped : read_of c ram at ≡ given_by (mapped_source (active_of c) at) ram
  unfolding read_by
  mapped = rw (free_test c at free)

  abbrev readable : Bool
  readable = READ (entry_at c.permissions at)

  abbrev there : Bool
  there = lies (cell_at (active_of c) at).location ram

  loud : read_of c ram at ≡ Some w → silent at ≡ false
  loud e =
      cases (silent at)
      (λ s. let q : given_by (mapped_source (active_of c) at) ram ≡ None = rw s in no_word w (sym q ∙ sym mapped ∙ e)) (λ s. s)

  hears_there : read_of c ram at ≡ Some w → Hears c ram at w
  unfolding silent fetched
  hears_there e =
      let s : low at || one at || three at ≡ false = loud e in
      let q : given_by (mapped_source (active_of c) at) ram ≡ fetched (cell_at (active_of c) at) ram = rw s in
      let f : fetched (cell_at (active_of c) at) ram ≡ Some w = sym q ∙ sym mapped ∙ e in
      cases (readable && there)
      (λ t.
      record {
        read = eqb-true _ _ (and_left readable there t);
        lent_there = ltb-true _ _ (and_right readable there t);
        holds = word_is _ w (rw t at f);
        above = ltb-false _ _ (or_false_left (low at) (one at) (or_false_left (low at || one at) (three at) s));
        not_1 = eqb-false _ _ (or_false_right (low at) (one at) (or_false_left (low at || one at) (three at) s));
        not_3 = eqb-false _ _ (or_false_right (low at || one at) (three at) s);
      })
      (λ t. no_word w (rw t at f))

  hears_back : Hears c ram at w → read_of c ram at ≡ Some w
  unfolding silent fetched
  hears_back h =
      let s : low at || one at || three at ≡ false = rw (le-ltb _ _ h.above, ne_eqb _ _ h.not_1, ne_eqb _ _ h.not_3) in
      let t : readable && there ≡ true = rw (eq-eqb _ _ h.read, lt-ltb _ _ h.lent_there) in
      mapped ∙ rw (s, t, h.holds)

  pub hears : (read_of c ram at ≡ Some w) ↔ Hears c ram at w
  hears = (hears_there, hears_back)

-- by the accelerators
between_above : (low high a : ℕ) → high < a → between low high a ≡ false
unfolding between
between_above low high a h = and_false (leb low a) (leb a high) (lt-leb _ _ h)

module _ (c : Cartridge) (ram : List ℕ) (at : Console) (w : ℕ) (have : Accelerated c at) where
  windowed : read_of c ram at ≡ given_by (window_source c.jlp at) ram
  unfolding read_by
  windowed = rw (have_test c at have)

  from_ram : in_ram at ≡ true → read_of c ram at ≡ fetched (window_cell at) ram
  from_ram i = windowed ∙ rw i

  in_registers : in_ram at ≡ false → read_of c ram at ≡ given_by (register_source (register_word c.jlp at)) ram
  unfolding heard_at
  in_registers i = windowed ∙ rw (i, have.0)

  ram_there : in_ram at ≡ true → read_of c ram at ≡ Some w → HearsRam ram at w
  unfolding fetched
  ram_there i e =
      let f : fetched (window_cell at) ram ≡ Some w = sym (from_ram i) ∙ e in
      cases (lies (window_cell at).location ram)
      (λ t.
      record {
        from = between_low _ _ _ i;
        to = between_high _ _ _ i;
        lent_there = ltb-true _ _ t;
        holds = word_is _ w (rw t at f);
      })
      (λ t. no_word w (rw t at f))

  ram_back : HearsRam ram at w → read_of c ram at ≡ Some w
  unfolding fetched
  ram_back h = from_ram (between_in _ _ _ h.from h.to) ∙ rw (lt-ltb _ _ h.lent_there, h.holds)

  abbrev heard : Option ℕ → Option ℕ
  heard h = given_by (register_source h) ram

  row_there : heard (flash_heard c.jlp.saves at) ≡ Some w → HearsRow c at w
  unfolding flash_heard has_flash
  row_there e =
      let n : ℕ = c.jlp.saves.sectors in
      cases (leb 1 n && leb n sector_limit)
      (λ t.
      record {
        some = leb-true _ _ (and_left (leb 1 n) (leb n sector_limit) t);
        most = leb-true _ _ (and_right (leb 1 n) (leb n sector_limit) t);
        row =
            cases (eqb at.0 jf_first) (λ a. inl (eqb-true _ _ a, sym (word_is _ w (rw (t, a) at e))))
            (λ a.
            cases (eqb at.0 jf_last) (λ b. inr (eqb-true _ _ b, sym (word_is _ w (rw (t, a, b) at e)))) (λ b. no_word w (rw (t, a, b) at e)));
      })
      (λ t. no_word w (rw t at e))

  register_there : heard (register_word c.jlp at) ≡ Some w → HearsRegister c at w
  unfolding register_word
  register_there e =
      cases (eqb at.0 first_at) (λ a. inl (eqb-true _ _ a, sym (word_is _ w (rw a at e))))
      (λ a.
      cases (eqb at.0 second_at) (λ b. inr (inl (eqb-true _ _ b, sym (word_is _ w (rw (a, b) at e)))))
      (λ b.
      cases (eqb at.0 crc_at) (λ d. inr (inr (inl (eqb-true _ _ d, sym (word_is _ w (rw (a, b, d) at e))))))
      (λ d. inr (inr (inr (row_there (rw (a, b, d) at e)))))))

  row_back : HearsRow c at w → read_of c ram at ≡ Some w
  unfolding register_word flash_heard has_flash
  row_back h = by h.row
    where
      n : ℕ
      n = c.jlp.saves.sectors

      by : ((at.0 ≡ 0x8023) × (w ≡ 0)) ⊎ ((at.0 ≡ 0x8024) × (w ≡ 8 * c.jlp.saves.sectors - 1)) → read_of c ram at ≡ Some w
      by (inl r) =
          in_registers (between_below ram_start ram_end at.0 (omega (arith, r.0)))
          ∙ rw (
            ne_eqb at.0 first_at (λ q. omega (arith, r.0)),
            ne_eqb at.0 second_at (λ q. omega (arith, r.0)),
            ne_eqb at.0 crc_at (λ q. omega (arith, r.0)),
            le-leb _ _ h.some,
            le-leb _ _ h.most,
            eq-eqb _ _ r.0,
            r.1,
          )
      by (inr r) =
          in_registers (between_below ram_start ram_end at.0 (omega (arith, r.0)))
          ∙ rw (
            ne_eqb at.0 first_at (λ q. omega (arith, r.0)),
            ne_eqb at.0 second_at (λ q. omega (arith, r.0)),
            ne_eqb at.0 crc_at (λ q. omega (arith, r.0)),
            le-leb _ _ h.some,
            le-leb _ _ h.most,
            ne_eqb at.0 jf_first (λ q. omega (arith, r.0)),
            eq-eqb _ _ r.0,
            r.1,
          )

  register_back : HearsRegister c at w → read_of c ram at ≡ Some w
  unfolding register_word
  register_back (inl r) =
      in_registers (between_above ram_start ram_end at.0 (omega (arith, r.0))) ∙ rw (eq-eqb _ _ r.0, r.1)
  register_back (inr (inl r)) =
      in_registers (between_above ram_start ram_end at.0 (omega (arith, r.0)))
      ∙ rw (ne_eqb at.0 first_at (λ q. omega (arith, r.0)), eq-eqb _ _ r.0, r.1)
  register_back (inr (inr (inl r))) =
      in_registers (between_above ram_start ram_end at.0 (omega (arith, r.0)))
      ∙ rw (
        ne_eqb at.0 first_at (λ q. omega (arith, r.0)),
        ne_eqb at.0 second_at (λ q. omega (arith, r.0)),
        eq-eqb _ _ r.0,
        r.1,
      )
  register_back (inr (inr (inr h))) = row_back h

  pub hears_on : (read_of c ram at ≡ Some w) ↔ (HearsRam ram at w ⊎ HearsRegister c at w)
  hears_on = (there_on, back_on)
    where
      there_on : read_of c ram at ≡ Some w → HearsRam ram at w ⊎ HearsRegister c at w
      there_on e = cases (in_ram at) (λ i. inl (ram_there i e)) (λ i. inr (register_there (sym (in_registers i) ∙ e)))

      back_on : HearsRam ram at w ⊎ HearsRegister c at w → read_of c ram at ≡ Some w
      back_on (inl h) = ram_back h
      back_on (inr h) = register_back h

-- which writes the accelerators take
free_takes : (c : Cartridge) (at : Console) (v : ℕ) → (Accelerated c at → ⊥) → (TurnsOn c at v → ⊥) → takes c.jlp at v ≡ false
unfolding takes
free_takes c at v free still =
    let t : turns_on c.jlp.field at v ≡ false =
    cases (turns_on c.jlp.field at v)
    (λ e. let x = (turns_on_exactly c.jlp.field at v).0 e in absurd (still (record { there = x.0; word = x.1.0; field = x.1.1 })))
    (λ e. e) in
    rw (t, free_test c at free)

-- a write that goes by the tables
module _ (w : World) (at : Console) (v : ℕ) where
  abbrev c : Cartridge
  c = w.cartridge

  abbrev a : Active
  a = active_of c

  abbrev taker : Taker
  taker = taker_of c.jlp a c.flips at v

  abbrev n : ℕ
  n = v / 0x1000 * 16 + v % 16

  -- what a write leaves, by its taker
  module _ (t : Taker) (is : taker ≡ t) where
    by_mapping : (after_write w at v).cartridge.mapping ≡ (left_by t a c.flips).mapping
    unfolding leaves
    by_mapping = ap (λ (u : Taker). (left_by u a c.flips).mapping) is

    by_permissions : (after_write w at v).cartridge.permissions ≡ (left_by t a c.flips).permissions
    unfolding leaves
    by_permissions = ap (λ (u : Taker). (left_by u a c.flips).permissions) is

    by_ram : (after_write w at v).ram ≡ (memories_by t c.jlp.saves (memories w.flash w.ram) at v).ram
    unfolding leaves_ram
    by_ram = ap (λ (u : Taker). (memories_by u c.jlp.saves (memories w.flash w.ram) at v).ram) is

    by_flash : (after_write w at v).flash ≡ (memories_by t c.jlp.saves (memories w.flash w.ram) at v).flash
    unfolding leaves_flash
    by_flash = ap (λ (u : Taker). (memories_by u c.jlp.saves (memories w.flash w.ram) at v).flash) is

    by_assigned : reported w at v ≡ assigned_by t
    unfolding assigned
    by_assigned = ap assigned_by is

  -- a flip
  module _ (f : Flips c at v) where
    not_turning : TurnsOn c at v → ⊥
    not_turning t = omega (arith, f.last, t.there)

    flip_free : takes c.jlp at v ≡ false
    flip_free = free_takes c at v f.free not_turning

    no_register : register_at at ≡ None
    unfolding register_at
    no_register = rw (ne_eqb (at.0 / 0x10) 4 (λ q. omega (arith, f.last)), ne_eqb (at.0 / 0x10) 5 (λ q. omega (arith, f.last)))

    is_asked : asks at v ≡ Some n
    unfolding asks
    is_asked = rw (eq-eqb _ _ f.last, eq-eqb _ _ f.chapter, eq-eqb _ _ f.key)

    chapter_is : n / 16 ≡ v / 0x1000
    chapter_is = omega arith

    is_acting : acts c.flips n ≡ true
    is_acting = rw (eq-eqb _ _ f.acts, chapter_is, le-leb _ _ f.allowed)

    flip_takes : taker ≡ Flip n
    flip_takes = rw (flip_free, no_register, is_asked, is_acting)

    pub flips_proved : Flipped w (after_write w at v) v (reported w at v)
    flips_proved =
        record {
          mapping =
              λ p s e l.
              ap (λ (m : List ℕ). get_or m p 0) (by_mapping (Flip n) flip_takes)
              ∙ turned_in (n / 16) (flip_mapping (get_or c.flips n 0)) c.mapping p s (e ∙ sym chapter_is) (rw chapter_is l);
          permissions =
              λ p s e l.
              ap (λ (m : List ℕ). get_or m p 0) (by_permissions (Flip n) flip_takes)
              ∙ turned_in (n / 16) (flip_permissions (get_or c.flips n 0)) c.permissions p s (e ∙ sym chapter_is) (rw chapter_is l);
          other_mapping =
              λ p o.
              ap (λ (m : List ℕ). get_or m p 0) (by_mapping (Flip n) flip_takes)
              ∙ turned_out (n / 16) (flip_mapping (get_or c.flips n 0)) c.mapping p (λ e. rw chapter_is (o (e ∙ chapter_is)));
          other_permissions =
              λ p o.
              ap (λ (m : List ℕ). get_or m p 0) (by_permissions (Flip n) flip_takes)
              ∙ turned_out (n / 16) (flip_permissions (get_or c.flips n 0)) c.permissions p (λ e. rw chapter_is (o (e ∙ chapter_is)));
          memory = record { ram = by_ram (Flip n) flip_takes; flash = by_flash (Flip n) flip_takes };
          accelerators = not_taken c.jlp at v flip_free;
          reports = by_assigned (Flip n) flip_takes ∙ ap (λ (x : ℕ). 16 - first_k x) chapter_is;
        }

  -- a switch
  module _ (h : ℕ) (f : Switches c at h) where
    is_register : register_at at ≡ Some (8 * h)
    unfolding register_at
    is_register = by f.register
      where
        by : ((at.0 / 16 ≡ 4) × (h ≡ 2 * (at.0 % 16))) ⊎ ((at.0 / 16 ≡ 5) × (h ≡ 2 * (at.0 % 16) + 1)) → register_at at ≡ Some (8 * h)
        by (inl r) = let e : chapter_paragraphs * (at.0 % 0x10) ≡ 8 * h = omega (arith, r.1) in rw (eq-eqb _ _ r.0, e)
        by (inr r) =
            let e : chapter_paragraphs * (at.0 % 0x10) + half_page_paragraphs ≡ 8 * h = omega (arith, r.1) in
            rw (ne_eqb (at.0 / 0x10) 4 (λ q. omega (arith, r.0)), eq-eqb _ _ r.0, e)

    is_banked : banked c.permissions (8 * h) ≡ true
    is_banked = eq-eqb _ _ f.acts

    switch_taker : taker ≡ Bank (8 * h) (v % 256)
    switch_taker = switch_takes c.jlp a c.flips at (8 * h) is_register is_banked v

    half_is : 8 * h / 8 ≡ h
    half_is = omega arith

    switch_free : takes c.jlp at v ≡ false
    switch_free = outside_takes c.jlp at v (between_below window_start window_end at.0 (omega (arith, register_low at (8 * h) is_register)))

    pub switches_proved : Switched w (after_write w at v) h v (reported w at v)
    switches_proved =
        record {
          mapping =
              λ p s e.
              ap (λ (m : List ℕ). get_or m p 0) (by_mapping (Bank (8 * h) (v % 256)) switch_taker)
              ∙ switched_in (8 * h / 8) (v % 256) c.mapping p s (e ∙ sym half_is);
          other_mapping =
              λ p o.
              ap (λ (m : List ℕ). get_or m p 0) (by_mapping (Bank (8 * h) (v % 256)) switch_taker)
              ∙ switched_out (8 * h / 8) (v % 256) c.mapping p (λ e. o (e ∙ half_is));
          permissions = by_permissions (Bank (8 * h) (v % 256)) switch_taker;
          memory = record { ram = by_ram (Bank (8 * h) (v % 256)) switch_taker; flash = by_flash (Bank (8 * h) (v % 256)) switch_taker };
          accelerators = not_taken c.jlp at v switch_free;
          reports = by_assigned (Bank (8 * h) (v % 256)) switch_taker;
        }

  -- an ordinary write
  module _ (o : Ordinary c at v) where
    plain_free : takes c.jlp at v ≡ false
    plain_free = free_takes c at v o.free o.no_turn

    unbanked : (h : ℕ) → ((at.0 / 16 ≡ 4) × (h ≡ 2 * (at.0 % 16))) ⊎ ((at.0 / 16 ≡ 5) × (h ≡ 2 * (at.0 % 16) + 1))
        → banked c.permissions (8 * h) ≡ false
    unbanked h r = cases (banked c.permissions (8 * h)) (λ b. absurd (o.no_switch h (record { register = r; acts = eqb-true _ _ b }))) (λ b. b)

    past_registers : (next : Taker) → bank_taker c.permissions (register_at at) v next ≡ next
    unfolding register_at
    past_registers next =
        cases (eqb (at.0 / 0x10) 4)
        (λ e.
        let h : ℕ = 2 * (at.0 % 16) in
        let q : chapter_paragraphs * (at.0 % 0x10) ≡ 8 * h = omega arith in
        rw (e, q, unbanked h (inl (eqb-true _ _ e, refl))))
        (λ e.
        cases (eqb (at.0 / 0x10) 5)
        (λ d.
        let h : ℕ = 2 * (at.0 % 16) + 1 in
        let q : chapter_paragraphs * (at.0 % 0x10) + half_page_paragraphs ≡ 8 * h = omega arith in
        rw (e, d, q, unbanked h (inr (eqb-true _ _ d, refl))))
        (λ d. rw (e, d)))

    abbrev ended : Bool
    ended = eqb (at.0 % 0x1000) 0xFFF

    abbrev chaptered : Bool
    chaptered = eqb (v / 0x1000) (at.0 / 0x1000)

    abbrev keyed : Bool
    keyed = eqb (v / 16 % 256) 0xA5

    idle : ended && (chaptered && keyed) ≡ true → acts c.flips n ≡ false
    idle e =
        cases (acts c.flips n)
        (λ t.
        let k : chaptered && keyed ≡ true = and_right ended (chaptered && keyed) e in
        let x : n / 16 ≡ v / 0x1000 = omega arith in
        absurd
        (o.no_flip
        (record {
          free = o.free;
          last = eqb-true _ _ (and_left ended (chaptered && keyed) e);
          chapter = eqb-true _ _ (and_left chaptered keyed k);
          key = eqb-true _ _ (and_right chaptered keyed k);
          acts = eqb-true _ _ (and_left (PFE (get_or c.flips n 0)) (leb 2 (n / 16)) t);
          allowed = omega (arith, x, leb-true 2 (n / 16) (and_right (PFE (get_or c.flips n 0)) (leb 2 (n / 16)) t));
        })))
        (λ t. t)

    past_flips : (next : Taker) → flip_taker c.flips (asks at v) next ≡ next
    unfolding asks
    past_flips next = cases (ended && (chaptered && keyed)) (λ e. rw (e, idle e)) (λ e. rw e)

    plain_taker : taker ≡ Ram (cell_at a at)
    plain_taker =
        let t : mapped_taker a c.flips at v ≡ Ram (cell_at a at) =
        past_registers (flip_taker c.flips (asks at v) (Ram (cell_at a at))) ∙ past_flips (Ram (cell_at a at)) in
        rw plain_free t

    abbrev l : ℕ
    l = location_at c at

    abbrev writable : Bool
    writable = WRITE (entry_at c.permissions at)

    left_is : (after_write w at v).ram ≡ stored (cell_at a at) w.ram v
    left_is = by_ram (Ram (cell_at a at)) plain_taker

    lent_short : lent w.ram ≤ length w.ram
    lent_short = omega arith

    pub stores_proved : Stored w (after_write w at v) at v (reported w at v)
    unfolding stored
    stores_proved =
        record {
          stores =
              λ e i.
              ap (λ (m : List ℕ). get_or m l 0) left_is
              ∙ rw (eq-eqb _ _ e, lt-ltb _ _ i)
              (get_or-set_same w.ram l (stored_word (NARROW (entry_at c.permissions at)) (get_or w.ram l 0) v) 0 (omega (arith, i, lent_short)));
          elsewhere = λ i d. ap (λ (m : List ℕ). get_or m i 0) left_is ∙ other i d (writable && ltb l (lent w.ram));
          unwritten = λ e. left_is ∙ rw (ne_eqb _ _ e);
          unlent = λ e. left_is ∙ rw (le-ltb _ _ e, and_false writable false refl);
          flash = by_flash (Ram (cell_at a at)) plain_taker;
          tables = record { mapping = by_mapping (Ram (cell_at a at)) plain_taker; permissions = by_permissions (Ram (cell_at a at)) plain_taker };
          accelerators = not_taken c.jlp at v plain_free;
          reports = by_assigned (Ram (cell_at a at)) plain_taker;
        }
      where
        other : (i : ℕ) → (i ≡ l → ⊥) → (b : Bool)
            → get_or (cond b (set w.ram l (stored_word (NARROW (entry_at c.permissions at)) (get_or w.ram l 0) v)) w.ram) i 0 ≡ get_or w.ram i 0
        other i d true = get_or-set_other w.ram l i (stored_word (NARROW (entry_at c.permissions at)) (get_or w.ram l 0) v) 0 d
        other i d false = refl

  -- a write that the accelerators take
  module _ (have : Accelerated c at) where
    on_taker : taker ≡ window_taker at
    on_taker = rw (on_takes c.jlp at v have.0 (between_in window_start window_end at.0 have.1.0 have.1.1))

    -- to their RAM
    module _ (from : 0x8040 ≤ at.0) (to : at.0 ≤ 0x9F7F) where
      ram_at : in_ram at ≡ true
      ram_at = between_in ram_start ram_end at.0 from to

      ram_taker : taker ≡ Ram (window_cell at)
      ram_taker = on_taker ∙ rw ram_at

      window_left : (after_write w at v).ram ≡ stored (window_cell at) w.ram v
      window_left = by_ram (Ram (window_cell at)) ram_taker

      window_short : lent w.ram ≤ length w.ram
      window_short = omega arith

      pub stores_on_proved : StoredJlp w (after_write w at v) at v (reported w at v)
      unfolding stored
      stores_on_proved =
          record {
            stores =
                λ i.
                ap (λ (m : List ℕ). get_or m (at.0 + 0x8000) 0) window_left
                ∙ rw (lt-ltb _ _ i) (get_or-set_same w.ram (at.0 + 0x8000) v 0 (omega (arith, i, window_short)));
            elsewhere = λ i d. ap (λ (m : List ℕ). get_or m i 0) window_left ∙ beside i d (ltb (at.0 + 0x8000) (lent w.ram));
            flash = by_flash (Ram (window_cell at)) ram_taker;
            tables = record { mapping = by_mapping (Ram (window_cell at)) ram_taker; permissions = by_permissions (Ram (window_cell at)) ram_taker };
            accelerators = ram_quiet c.jlp at v ram_at;
            reports = by_assigned (Ram (window_cell at)) ram_taker;
          }
        where
          beside : (i : ℕ) → (i ≡ at.0 + 0x8000 → ⊥) → (b : Bool)
              → get_or (cond b (set w.ram (at.0 + 0x8000) v) w.ram) i 0 ≡ get_or w.ram i 0
          beside i d true = get_or-set_other w.ram (at.0 + 0x8000) i v 0 d
          beside i d false = refl

  -- to a register
  no_command : (at.0 < 0x802D) ⊎ (0x802F < at.0) → command_of c.jlp.saves at v ≡ None
  unfolding command_of
  no_command d =
      rw (
        ne_eqb at.0 jf_wrcmd (apart d 0x802D (omega arith) (omega arith)),
        ne_eqb at.0 jf_rdcmd (apart d 0x802E (omega arith) (omega arith)),
        ne_eqb at.0 jf_ercmd (apart d 0x802F (omega arith) (omega arith)),
      )
      (either_way (has_flash c.jlp.saves.sectors))
    where
      apart : (at.0 < 0x802D) ⊎ (0x802F < at.0) → (x : ℕ) → 0x802D ≤ x → x ≤ 0x802F → at.0 ≡ x → ⊥
      apart (inl l) x h k e = omega arith
      apart (inr l) x h k e = omega arith

      either_way : (b : Bool) → ◌≡◌ {A = Option Command} (cond (not b) None None) None
      either_way true = refl
      either_way false = refl

  latched_by : taker ≡ Accelerators → Latched w (after_write w at v) at (reported w at v)
  latched_by is =
      record {
        tables = record { mapping = by_mapping Accelerators is; permissions = by_permissions Accelerators is };
        memory =
            λ d.
            record {
              ram = by_ram Accelerators is ∙ rw (no_command d);
              flash = by_flash Accelerators is ∙ rw (no_command d);
            };
        reports = by_assigned Accelerators is;
      }

  outside_ram : (at.0 < 0x8040) ⊎ (0x9F7F < at.0) → in_ram at ≡ false
  outside_ram (inl l) = between_below ram_start ram_end at.0 l
  outside_ram (inr l) = between_above ram_start ram_end at.0 l

  pub latches_proved : Accelerated c at → (at.0 < 0x8040) ⊎ (0x9F7F < at.0) → Latched w (after_write w at v) at (reported w at v)
  latches_proved have d = latched_by (on_taker have ∙ rw (outside_ram d))

  pub turns_on_proved : TurnsOn c at v → Latched w (after_write w at v) at (reported w at v) × ((after_write w at v).cartridge.jlp.on ≡ true)
  unfolding takes written_jlp
  turns_on_proved t =
      let e : turns_on c.jlp.field at v ≡ true = (turns_on_exactly c.jlp.field at v).1 (t.there, (t.word, t.field)) in
      let is : taker ≡ Accelerators = rw (e, outside_ram (inl (omega (arith, t.there)))) in
      (latched_by is, rw e)

counted : (w : World) → (step w Reset).cartridge.readable ≡ count (λ p. eqb (get_or (step w Reset).cartridge.permissions p 0 % 2) 1) 256
unfolding readable_in
counted w =
    count_same (λ i. READ (get_or w.cartridge.initial_permissions (0 + i) 0)) (λ p. READ (get_or w.cartridge.initial_permissions p 0)) 256
    (λ i h. let e : 0 + i ≡ i = omega arith in rw e)

pub machine : Machine
machine =
    record {
      hears = hears;
      hears_on = hears_on;
      flips = flips_proved;
      switches = λ w at v h f. switches_proved w at v h f;
      stores = stores_proved;
      stores_on = stores_on_proved;
      latches = latches_proved;
      turns_on = turns_on_proved;
      keeps = λ w at v. record { initial_mapping = refl; initial_permissions = refl; flips = refl };
      resets =
          λ w.
          record {
            mapping = refl;
            permissions = refl;
            keeps = record { initial_mapping = refl; initial_permissions = refl; flips = refl };
            memory = record { ram = refl; flash = refl };
            readable = counted w;
          };
    }
