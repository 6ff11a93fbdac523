-- What a reader will ask of a built cartridge besides demand 3: which word stands where after a load, and what a page shows
-- that no line names.
use Rattle.std.specs.Prelude.{ℕ, ◌<◌, ◌*◌, ◌+◌, ◌/◌, ◌≤◌, ◌%◌, suc, List, ◌≡◌, refl, false, true, ◌⊎◌, get_or, Some, None}
use Rattle.std.proofs.Common.{ap, ◌∙◌, ⊎_elim, inr, inl}
use Rattle.std.proofs.Math.Option.{some, Option, none}
use Rattle.basics.specs.Options.{is_some}
use Rattle.basics.specs.Laws.Tables.{get_d_table}
use Rattle.basics.specs.Laws.Tests.{true_is_not_false}
use Rattle.places.specs.declared.Console.{Console}
use Rattle.places.specs.Limits.{chapter_size}
use Rattle.switches.specs.Flips.{first_k}
use Rattle.lines.specs.declared.Line.{Line}
use Rattle.lines.specs.declared.Entry.{Entry}
use Rattle.lines.specs.declared.Entry.TheVariants.{Rom, Paged, Ram}
use Rattle.lines.specs.Lines.{line_at, is_ram}
use Rattle.rules.specs.Accepted.{Accepted}
use Rattle.rules.specs.Laws.Rules.{good, uses_of, RomIs, under_rom, bare_none, under_or_bare}
use Rattle.rules.specs.Chapters.{paged, uses}
use Rattle.layout.specs.Laws.Layout.{place_of}
use Rattle.layout.specs.Layout.{written_by, line_held, paragraph_held, paragraph_words, written_of}
use Rattle.plays.specs.Loaded.{Loaded}
use Rattle.plays.specs.Plain.{Plain, plain_read, word_by, answer_by, shown_line}
use Rattle.plays.specs.Laws.Held as Held

module _ {bin : List ℕ} {lines : List Line} (accepted : Accepted bin lines) where
  module _ {ram : List ℕ} (loaded : Loaded bin lines ram) where
    -- the word of an address, on the layer of a line that holds it, is the line's
    pub loaded_word : (t : ℕ) (a : Console) (l : Line) → line_at lines t a.0 ≡ some l →
        get_or ram (place_of lines t a).0 0 ≡ written_by bin l.entry a
    loaded_word t a l e = Held.loaded_word bin (good accepted).fine ram loaded t a l e

    -- each word of a covered paragraph is that of the line behind it
    pub covered_word : (p i : ℕ) (l : Line) → i < 256 → line_held lines p ≡ some l →
        get_or ram (256 * p + i) 0 ≡ written_by bin l.entry (record { 0 = 256 * paragraph_held lines p + i })
    unfolding paragraph_words
    covered_word p i l h e =
        loaded.words p i (ap is_some e) h
        ∙ get_d_table 0 256 (λ j. written_of bin (line_held lines p) (record { 0 = 256 * paragraph_held lines p + j })) i h
        ∙ rw e

  -- what is read of plain ROM
  pub record ReadsRom (c : Plain) (a : Console) : Type 0 where
    pub line : Line
    pub found : line_at lines 0 a.0 ≡ some line
    pub rom : is_ram line.entry ≡ false
    pub reads : plain_read bin lines c a ≡ Some (written_by bin line.entry a)

  rom_word : (e : Entry) (mem : Console → ℕ) (a : Console) → is_ram e ≡ false → word_by bin mem e a ≡ written_by bin e a
  rom_word (Rom lo hi at) mem a h = refl
  rom_word (Paged lo hi at y) mem a h = refl
  rom_word (Ram lo hi w) mem a h = true_is_not_false refl h

  -- in the flippable range, while a page is asked for that no line names: silence, or the plain ROM
  module _ (c : Plain) (a : Console) (flips : paged lines (a.0 / chapter_size) ≡ true) (turns : first_k (a.0 / chapter_size) ≤ a.0 / 256 % 16)
      (unnamed : uses lines (a.0 / chapter_size) (suc (c.number (a.0 / chapter_size))) ≡ false) where
    no_page : (o : Option Line) → line_at lines (suc (c.number (a.0 / chapter_size))) a.0 ≡ o → o ≡ none
    no_page none e = refl
    no_page (some l) e = true_is_not_false (uses_of (good accepted).fine (suc (c.number (a.0 / chapter_size))) a.0 l e) unnamed

    by_plain : plain_read bin lines c a ≡ answer_by bin c.ram (line_at lines 0 a.0) a
    unfolding plain_read shown_line
    by_plain = rw (no_page (line_at lines (suc (c.number (a.0 / chapter_size))) a.0) refl)

    pub unnamed_page : (plain_read bin lines c a ≡ None) ⊎ (ReadsRom c a)
    unnamed_page =
        ⊎_elim
        (λ h.
        let r : RomIs (line_at lines 0 a.0) = under_rom (good accepted) a.0 turns h in
        inr
        (record {
          line = r.line;
          found = r.found;
          rom = r.rom;
          reads = by_plain ∙ rw (r.found, rom_word r.line.entry c.ram a r.rom);
        }))
        (λ h. inl (by_plain ∙ rw (bare_none (good accepted) a.0 turns h)))
        (under_or_bare (good accepted) (a.0 / chapter_size) flips)
