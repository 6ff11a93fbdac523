-- The label file's n-th text with a tag if it has n, else the image's n-th over its blocks in order, else none (02, W-204).
use Rattle.std.specs.Prelude.{ℕ, ◌+◌, List, [], ◌∷◌, ◌++◌, map, cond, length, Option, Some, None, Result, Ok, Err}
use Rattle.basics.specs.declared.Refusal.{Refusal}
use Rattle.basics.specs.Rows.{Row}
use Rattle.basics.specs.Refusals.{refuse, first_refusal, outcome}
use Rattle.places.specs.Limits.{lent_limit}
use Rattle.metadata.specs.declared.Span.{Span}
use Rattle.metadata.specs.Records.{is_cut}
use Rattle.metadata.specs.Texts.{texts_of, seek_in}
use Rattle.blocks.specs.Blocks.{frame_size, payload_in, is_metadata}
use Rattle.blocks.specs.Images.{first_block, blocks_in}
use Rattle.load.specs.Load.{rows_by_size}
use Rattle.lookup.specs.declared.Place.{Place}
use Rattle.lookup.specs.declared.Place.TheVariants.{Label, Image}

-- where a text of a payload stands in a file that has the payload from place b on
abbrev pub moved : ℕ → Span → Span
moved b x = record { from = b + x.from; to = b + x.to }

-- the texts with the tag of metadata blocks, in their order, the first block being at p
unfoldable pub texts_in_blocks : ℕ → ℕ → List (List ℕ) → List Span
texts_in_blocks tag p [] = []
texts_in_blocks tag p (x ∷ xs) =
    map (moved (p + frame_size)) (cond (is_metadata x) (texts_of tag (payload_in x)) []) ++ texts_in_blocks tag (p + length x) xs

abbrev pub image_texts : ℕ → List ℕ → List Span
image_texts tag s = texts_in_blocks tag first_block (blocks_in s)

-- the label's, else the image's, else none
abbrev pub or_image : Result Span ℕ → Option Place
or_image (Ok x) = Some (Image x)
or_image (Err k) = None

abbrev pub or_label : Result Span ℕ → Result Span ℕ → Option Place
or_label (Ok x) y = Some (Label x)
or_label (Err k) y = or_image y

abbrev pub text_of : List ℕ → List ℕ → ℕ → ℕ → Option Place
text_of label image tag n = or_label (seek_in n (texts_of tag label)) (seek_in n (image_texts tag image))

-- the refusals: a load's for a RAM of 524,288 words, 13 by its size alone; then 12, place 0, for a label that is cut
abbrev pub refusal_rows : List ℕ → List ℕ → List (Row Refusal)
refusal_rows label image = rows_by_size image lent_limit ++ ((is_cut label, refuse 12 0) ∷ [])

unfoldable pub refusal_of : List ℕ → List ℕ → Refusal
refusal_of label image = first_refusal (refusal_rows label image)

unfoldable pub find_of : List ℕ → List ℕ → ℕ → ℕ → Result (Option Place) Refusal
find_of label image tag n = outcome (refusal_of label image) (text_of label image tag n)
