-- The line of an entry is its text, ended.
use Rattle.std.specs.Prelude.{[], ◌∷◌, ◌≡◌}
use Rattle.lines.specs.declared.Entry.{Entry}
use Rattle.lines.specs.declared.Entry.TheVariants.{Paged, Ram, Rom}
use Rattle.lines.specs.declared.Width.TheVariants.{Eight, Sixteen}
use Rattle.text.specs.Bytes.{lf}
use Rattle.grammar.specs.Print.{entry_text}
use Rattle.print.specs.Code.Texts.{padded, page_digit, pushed, text_of}
use Rattle.print.specs.declared.Text.{Text}

pub ended : (e : Entry) (t : Text) → t ≡ padded (entry_text (page_digit e)) → pushed t (lf ∷ []) ≡ text_of e
unfolding text_of
ended (Rom lo hi at) t h = rw h
ended (Paged lo hi at y) t h = rw h
ended (Ram lo hi Sixteen) t h = rw h
ended (Ram lo hi Eight) t h = rw h
