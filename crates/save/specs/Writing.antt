-- What the plain writer takes, what it answers, and what it leaves in the lent buffer (01, How an image is laid out by the builder; Numbers that come back).
use Rattle.std.specs.Prelude.{ℕ, ◌+◌, ◌*◌, List, [], ◌∷◌, ◌++◌, Bool, false, cond, ◌&&◌, ◌||◌, length, get_or, ltb, eqb, Result, Ok, Err}
use Rattle.basics.specs.declared.Refusal.{Refusal}
use Rattle.basics.specs.declared.Declined.{Declined}
use Rattle.basics.specs.Lists.{put_front}
use Rattle.basics.specs.Tables.{table}
use Rattle.basics.specs.Counts.{any, lowest}
use Rattle.basics.specs.Rows.{Row}
use Rattle.basics.specs.Refusals.{refuse, no_refusal, first_refusal, passes, outcome_at}
use Rattle.places.specs.Limits.{image_limit, lent, locutus_paragraphs, paragraph_size}
use Rattle.tables.specs.Tables.{Tables, flash_words, tables_rows}
use Rattle.hunk.specs.Hunk.{Hunk}
use Rattle.save.specs.Chosen.{chosen, image_for}

-- flag bytes, UID, the three tables, a RAM, and one mark for each of 2,048 Locutus paragraphs
pub record Content : Type 0 where
  pub flags : List ℕ
  pub uid : List ℕ
  pub tables : Tables
  pub ram : List ℕ
  pub marks : List Bool

abbrev pub content : List ℕ → List ℕ → Tables → List ℕ → List Bool → Content
content flags uid tables ram marks = record { flags = flags; uid = uid; tables = tables; ram = ram; marks = marks }

-- the marked paragraphs with their words, and the image that is to be written
unfoldable pub is_marked : List Bool → ℕ → Bool
is_marked marks p = get_or marks p false

abbrev pub paragraph_of : List ℕ → ℕ → List ℕ
paragraph_of ram p = table paragraph_size (λ i. get_or ram (paragraph_size * p + i) 0)

abbrev pub marked : List ℕ → List Bool → List Hunk
marked ram marks = chosen locutus_paragraphs (is_marked marks) (paragraph_of ram)

abbrev pub image_by : Content → List ℕ
image_by c = image_for c.flags c.uid c.tables (marked c.ram c.marks)

-- 9: paragraph p is marked and does not lie wholly in n words
abbrev pub past : List Bool → ℕ → ℕ → Bool
past marks n p = is_marked marks p && ltb n (paragraph_size * p + paragraph_size)

abbrev pub past_lent : Content → ℕ → Bool
past_lent c p = past c.marks (lent c.ram) p

-- the refusals in their order: 10, 11 and 13 where loading would, with a flash of just the size that the flags ask (02, W-209: the writer asks
-- only the size); 9 for the lowest such paragraph; 1; 29
abbrev pub refusal_rows : List ℕ → Content → List (Row Refusal)
refusal_rows out c =
    tables_rows c.flags c.tables.flips (lent c.ram) (flash_words c.flags)
    ++ ((any locutus_paragraphs (past_lent c), refuse 9 (lowest locutus_paragraphs (past_lent c)))
    ∷ (ltb image_limit (length (image_by c)), refuse 1 0)
    ∷ (ltb (length out) (length (image_by c)), refuse 29 0)
    ∷ [])

unfoldable pub refusal_of : List ℕ → Content → Refusal
refusal_of out c = first_refusal (refusal_rows out c)

-- what writing comes to: its refusal, and a length
pub record Writing : Type 0 where
  pub refusal : Refusal
  pub length : ℕ

-- the answer: the refusal, and zero in all else but the length at 29; and the image's length where nothing is refused
abbrev pub answer_for : Refusal → ℕ → Writing
answer_for r long = record { refusal = r; length = cond (passes r || eqb r.number 29) long 0 }

unfoldable pub writing_of : List ℕ → Content → Writing
writing_of out c = answer_for (refusal_of out c) (length (image_by c))

-- what the code answers of it: the image's length, or the refusal with the length that is needed
abbrev pub save_answer : Writing → Result ℕ Declined
save_answer w = outcome_at w.refusal w.length w.length

-- and what such an answer says that the writing comes to
abbrev pub saving_from : Result ℕ Declined → Writing
saving_from (Ok n) = record { refusal = no_refusal; length = n }
saving_from (Err d) = record { refusal = d.refusal; length = d.length }

-- the buffer: the image at its front where it was written, and all bytes kept where it was not
unfoldable pub written_of : List ℕ → Content → List ℕ
written_of out c = cond (passes (refusal_of out c)) (put_front (image_by c) out) out
