-- The texts of one block, by their places in its payload.
use Rattle.std.specs.Prelude.{ℕ, List, [], cond, eqb}
use Rattle.metadata.specs.declared.Span.{Span}
use Rattle.metadata.specs.Texts.{texts_of}
use Rattle.blocks.specs.Blocks.{payload_in, metadata_type}

-- of a block of type t
unfoldable pub block_texts : ℕ → ℕ → List ℕ → List Span
block_texts tag t x = cond (eqb t metadata_type) (texts_of tag (payload_in x)) []
