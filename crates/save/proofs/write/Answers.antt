-- `save::write` meets its contract: the answer of the refusal, and the image in the buffer where there is none.
use mathlib.Core.Path.{sym, ◌∙◌}
use Rattle.tables.specs.Tables.{tables}
use Rattle.save.proofs.Laws.{write_refused, write_kept, write_room, write_done, write_put}
use Rattle.save.proofs.write.Goals as goal

pub returns-in-Err : goal.returns-in-Err
returns-in-Err c =
    let e = sym c.judge.ensures ∙ c.in-Err.is in (
      write_refused c.args.out.now c.args.flags.now c.args.uid.now (tables c.args.mapping.now c.args.permissions.now c.args.flips.now) c.args.ram.now c.args.marks.now _ c.image_size-long.ensures _ c.lent_words-words.ensures.0 _ e _ c.decline.ensures,
      write_kept c.args.out.now c.args.flags.now c.args.uid.now (tables c.args.mapping.now c.args.permissions.now c.args.flips.now) c.args.ram.now c.args.marks.now _ c.image_size-long.ensures _ c.lent_words-words.ensures.0 _ e,
    )

pub put_image-requires : goal.put_image-requires
put_image-requires c = (c.image_size-long.ensures, write_room c.args.out.now c.args.flags.now c.args.uid.now (tables c.args.mapping.now c.args.permissions.now c.args.flips.now) c.args.ram.now c.args.marks.now _ c.image_size-long.ensures _ c.lent_words-words.ensures.0 _ (sym c.judge.ensures ∙ c.in_default.is))

pub returns : goal.returns
returns c =
    let e = sym c.judge.ensures ∙ c.in_default.is in (
      write_done c.args.out.now c.args.flags.now c.args.uid.now (tables c.args.mapping.now c.args.permissions.now c.args.flips.now) c.args.ram.now c.args.marks.now _ c.image_size-long.ensures _ c.lent_words-words.ensures.0 _ e,
      write_put c.args.out.now c.args.flags.now c.args.uid.now (tables c.args.mapping.now c.args.permissions.now c.args.flips.now) c.args.ram.now c.args.marks.now _ c.image_size-long.ensures _ c.lent_words-words.ensures.0 _ e _ c.put_image.ensures,
    )
