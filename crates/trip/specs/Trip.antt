-- What a load makes of an image that was made of tables and blocks, and what comes back of a content that was written (01, demand 2).
use Rattle.std.specs.Prelude.{ℕ, ◌+◌, ◌*◌, ◌/◌, ◌%◌, ◌<◌, ◌≤◌, ◌≡◌, List, Bool, true, false, ◌⊎◌, length, get_or}
use Rattle.basics.specs.Counts.{count}
use Rattle.basics.specs.Refusals.{no_refusal}
use Rattle.places.specs.Limits.{locutus_paragraphs, paragraph_size}
use Rattle.header.specs.Flags.{compat_of}
use Rattle.tables.specs.Tables.{Tables, jlp_of, cartridge_with}
use Rattle.load.specs.Load.{Loading}
use Rattle.save.specs.Writing.{Content, is_marked}

-- the answer of a load: these tables, what the flags say of each device and, of the TutorVision, may leave unsaid, so many blocks and words
abbrev pub answer_of : List ℕ → Tables → ℕ → ℕ → Loading
answer_of flags t blocks words =
    record { refusal = no_refusal; cartridge = cartridge_with (jlp_of flags) t; compat = compat_of flags; blocks = blocks; words = words }

-- a RAM after a load: each word of a chosen paragraph is as given, and every other word is kept
pub record Overlaid (on : ℕ → Bool) (words : ℕ → List ℕ) (ram after : List ℕ) : Type 0 where
  pub same : length after ≡ length ram
  pub given : (k : ℕ) → k / paragraph_size < locutus_paragraphs → on (k / paragraph_size) ≡ true → get_or after k 0 ≡ get_or (words (k / paragraph_size)) (k % paragraph_size) 0
  pub kept : (k : ℕ) → (on (k / paragraph_size) ≡ false) ⊎ (locutus_paragraphs ≤ k / paragraph_size) → get_or after k 0 ≡ get_or ram k 0

-- what comes back of a content that was written: the tables, the counts, the marked words, and every other word of the RAM loaded into
pub record ComesBack (c : Content) (to : List ℕ) (l : Loading) (after : List ℕ) : Type 0 where
  pub answer : l ≡ answer_of c.flags c.tables (1 + count (is_marked c.marks) locutus_paragraphs) (paragraph_size * count (is_marked c.marks) locutus_paragraphs)
  pub same : length after ≡ length to
  pub marked_words : (k : ℕ) → k / paragraph_size < locutus_paragraphs → is_marked c.marks (k / paragraph_size) ≡ true → get_or after k 0 ≡ get_or c.ram k 0
  pub other_words : (k : ℕ) → (is_marked c.marks (k / paragraph_size) ≡ false) ⊎ (locutus_paragraphs ≤ k / paragraph_size) → get_or after k 0 ≡ get_or to k 0
