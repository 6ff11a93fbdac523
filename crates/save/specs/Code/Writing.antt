-- The parts of an image that are written one after the other, and the refusals by what they ask.
use Rattle.std.specs.Prelude.{ℕ, ◌+◌, List, [], ◌∷◌, ◌++◌, Bool, cond, length, ltb, eqb}
use Rattle.basics.specs.declared.Refusal.{Refusal}
use Rattle.basics.specs.declared.Declined.{Declined}
use Rattle.basics.specs.Lists.{joined}
use Rattle.basics.specs.Counts.{any, lowest}
use Rattle.basics.specs.Refusals.{refuse, first_refusal, declined}
use Rattle.places.specs.Limits.{image_limit, locutus_paragraphs}
use Rattle.header.specs.Header.{header_of}
use Rattle.tables.specs.Tables.{Tables, tables_payload, flash_words, tables_rows}
use Rattle.blocks.specs.Blocks.{frame_size, payload_limit}
use Rattle.save.specs.Chosen.{tables_block, hunk_block}
use Rattle.save.specs.Writing.{Content, marked, past}

-- the longest block (001, Payload Length)
abbrev pub block_limit : ℕ
block_limit = frame_size + payload_limit

-- the header and the tables block, and how long they are; and the blocks of the marked paragraphs
abbrev pub front_of : List ℕ → List ℕ → Tables → List ℕ
front_of flags uid t = header_of flags uid ++ tables_block t

abbrev pub front_size : List ℕ → List ℕ → Tables → ℕ
front_size flags uid t = length (header_of flags uid) + (frame_size + length (tables_payload t))

abbrev pub hunk_bytes : List ℕ → List Bool → List ℕ
hunk_bytes ram marks = joined hunk_block (marked ram marks)

-- an image's length, as the sum of its parts
abbrev pub image_size : Content → ℕ
image_size c = front_size c.flags c.uid c.tables + length (hunk_bytes c.ram c.marks) + 1

-- the refusals of a buffer of so much room, a RAM of so many words lent, and an image so long
unfoldable pub judged_by : ℕ → List ℕ → List ℕ → ℕ → List Bool → ℕ → Refusal
judged_by room flags flips words marks long =
    first_refusal
    (tables_rows flags flips words (flash_words flags)
    ++ ((any locutus_paragraphs (past marks words), refuse 9 (lowest locutus_paragraphs (past marks words)))
    ∷ (ltb image_limit long, refuse 1 0)
    ∷ (ltb room long, refuse 29 0)
    ∷ []))

-- the error of a refusal: the length only at 29
abbrev pub declined_by : Refusal → ℕ → Declined
declined_by r long = declined r (cond (eqb r.number 29) long 0)
