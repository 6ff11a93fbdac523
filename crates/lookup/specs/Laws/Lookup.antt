-- When a lookup is refused, and what it finds with an empty label.
use Rattle.std.specs.Prelude.{ℕ, ◌≡◌, cond, Ok, Err}
use mathlib.Core.List.{List, [], ◌∷◌}
use Rattle.std.proofs.Common.{arith}
use borrow.Author.Tests.{ne_eqb}
use Rattle.basics.specs.declared.Refusal.{Refusal}
use Rattle.basics.specs.Rows.{Gives}
use Rattle.basics.specs.Refusals.{refuse, no_refusal, first_refusal}
use Rattle.basics.specs.Laws.Refusals.{Refusing, refusing_append, refused_exactly, accepted_exactly, refused_front, silent_behind}
use Rattle.places.specs.Limits.{lent_limit}
use Rattle.header.specs.Header.{flags_of}
use Rattle.tables.specs.Tables.{flash_words}
use Rattle.metadata.specs.Records.{is_cut, starts_from, starts}
use Rattle.metadata.specs.Texts.{texts_in, seek_in}
use Rattle.load.specs.Load.{rows_by_size, refusal_of as loadRefusal, refusal_by_size}
use Rattle.load.specs.Laws.Refusals.{rows_refusing}
use Rattle.lookup.specs.Lookup.{image_texts, or_image, refusal_rows, refusal_of, find_of}

module _ (label image : List ℕ) where
  every_row : Refusing (refusal_rows label image)
  every_row = refusing_append (rows_by_size image lent_limit) ((is_cut label, refuse 12 0) ∷ []) (rows_refusing image lent_limit (flash_words (flags_of image))) ((λ z. omega arith), tt)

  -- by the load's refusal: it comes first, and where there is none the label is asked
  pub refused_image : ((refusal_by_size image lent_limit).number ≡ 0 → ⊥) → refusal_of label image ≡ refusal_by_size image lent_limit
  unfolding refusal_of loadRefusal
  refused_image n = refused_front (rows_by_size image lent_limit) ((is_cut label, refuse 12 0) ∷ []) n

  pub refused_label : (refusal_by_size image lent_limit).number ≡ 0 → refusal_of label image ≡ cond (is_cut label) (refuse 12 0) no_refusal
  unfolding refusal_of loadRefusal
  refused_label z =
      silent_behind (rows_by_size image lent_limit) ((is_cut label, refuse 12 0) ∷ []) ((accepted_exactly (rows_by_size image lent_limit) (rows_refusing image lent_limit (flash_words (flags_of image)))).0 z)

  -- refused so exactly when that row holds and none before it does
  pub finds_refused : (tag n : ℕ) (r : Refusal) → (r.number ≡ 0 → ⊥) → Gives (refusal_rows label image) r → find_of label image tag n ≡ Err r
  unfolding find_of refusal_of
  finds_refused tag n r h g =
      let e : first_refusal (refusal_rows label image) ≡ r = (refused_exactly (refusal_rows label image) every_row r h).1 g in
      rw (e, ne_eqb r.number 0 h)

-- with an empty label the lookup is the image's: its load's refusals, else its n-th text
module _ (image : List ℕ) (tag n : ℕ) where
  pub unlabelled : (refusal_by_size image lent_limit).number ≡ 0 → find_of [] image tag n ≡ Ok (or_image (seek_in n (image_texts tag image)))
  unfolding find_of is_cut starts starts_from texts_in seek_in
  unlabelled z =
      let e : refusal_of [] image ≡ no_refusal = refused_label [] image z in
      rw e

  pub unlabelled_refused : ((refusal_by_size image lent_limit).number ≡ 0 → ⊥) → find_of [] image tag n ≡ Err (refusal_by_size image lent_limit)
  unfolding find_of
  unlabelled_refused h =
      let e : refusal_of [] image ≡ refusal_by_size image lent_limit = refused_image [] image h in
      rw (e, ne_eqb _ _ h)
