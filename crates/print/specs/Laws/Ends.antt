-- Fronts of lines in an array of 32 bytes, ended byte by byte, and the text of an entry by its kind.
use Rattle.std.specs.Prelude.{◌%◌, ℕ, List, ◌≡◌, set}
use Rattle.std.proofs.Common.{◌∙◌, ap, sym}
use Rattle.places.specs.declared.BinWord.{BinWord}
use Rattle.places.specs.declared.Console.{Console}
use Rattle.places.specs.declared.Page.{Page}
use Rattle.lines.specs.declared.Entry.{Entry}
use Rattle.lines.specs.declared.Entry.TheVariants.{Paged, Ram, Rom}
use Rattle.lines.specs.declared.Width.{Width}
use Rattle.lines.specs.declared.Width.TheVariants.{Eight, Sixteen}
use Rattle.text.specs.Spelling.{upper_digit}
use Rattle.grammar.specs.Grammar.{paged, ram, rom}
use Rattle.grammar.specs.Print.{entry_text}
use Rattle.print.specs.Cfg.{entry_line}
use Rattle.print.specs.Code.Texts.{filled, padded, ram_front, text_of}
use Rattle.print.specs.declared.Text.{Text}

-- fronts that are ended
module _ (lo hi : ℕ) (front : List ℕ) where
  pub rom_ends : (at : ℕ) → front ≡ filled (entry_text (rom lo hi at)) → record { bytes = set front 23 10; length = 24 } ≡ padded (entry_line (rom lo hi at))
  rom_ends at e = rw e

  pub paged_ends : (at y d : ℕ) → front ≡ filled (entry_text (rom lo hi at)) → d ≡ upper_digit (y % 16)
      → record {
        bytes = set (set (set (set (set (set (set (set front 23 32) 24 80) 25 65) 26 71) 27 69) 28 32) 29 d) 30 10;
        length = 31;
      } ≡ padded (entry_line (paged lo hi at (y % 16)))
  paged_ends at y d e f = rw (e, f)

  module _ (e : front ≡ filled (ram_front lo hi)) where
    pub ram_16_ends : record { bytes = set (set (set front 20 49) 21 54) 22 10; length = 23 } ≡ padded (entry_line (ram lo hi Sixteen))
    ram_16_ends = rw e

    pub ram_8_ends : record { bytes = set (set front 20 56) 21 10; length = 22 } ≡ padded (entry_line (ram lo hi Eight))
    ram_8_ends = rw e

unfolded : (e f : Entry) (r : Text) → e ≡ f → r ≡ text_of f → r ≡ text_of e
unfolded e f r g h = h ∙ sym (ap text_of g)

pub rom_is : (e : Entry) (lo hi : BinWord) (at : Console) (r : Text) → e ≡ Rom lo hi at → r ≡ padded (entry_line (rom lo.0 hi.0 at.0)) → r ≡ text_of e
unfolding text_of
rom_is e lo hi at r g h = unfolded e (Rom lo hi at) r g h

pub paged_is : (e : Entry) (lo hi : BinWord) (at : Console) (y : Page) (r : Text) → e ≡ Paged lo hi at y → r ≡ padded (entry_line (paged lo.0 hi.0 at.0 (y.0 % 16)))
    → r ≡ text_of e
unfolding text_of
paged_is e lo hi at y r g h = unfolded e (Paged lo hi at y) r g h

pub ram_is : (e : Entry) (lo hi : Console) (w v : Width) (r : Text) → e ≡ Ram lo hi w → w ≡ v → r ≡ padded (entry_line (ram lo.0 hi.0 v)) → r ≡ text_of e
unfolding text_of
ram_is e lo hi w v r g q h = unfolded e (Ram lo hi v) r (g ∙ ap (λ (u : Width). Ram lo hi u) q) h
