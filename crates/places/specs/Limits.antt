-- The numbers of 01 and 02, each once. The code has a constant of the same name for each that it asks, and a bench case says the numeral again.
use Rattle.std.specs.Prelude.{ℕ, ◌*◌, min, List, length}

-- of a lent RAM the first 524,288 words at most count (01, The machine)
abbrev pub lent_limit : ℕ
lent_limit = 524288

abbrev pub lent : List ℕ → ℕ
lent ram = min (length ram) lent_limit

-- the most bytes of an image (02, W-210, refusal 1), of a BIN (01, 21) and of a CFG (22), and the most entries of a CFG (02, W-210, 24)
abbrev pub image_limit : ℕ
image_limit = 2097152

abbrev pub bin_limit : ℕ
bin_limit = 524288

abbrev pub cfg_limit : ℕ
cfg_limit = 16384

abbrev pub line_limit : ℕ
line_limit = 128

-- the image card takes no longer file, and lends this many words (01, refusal 30; Bench cases)
abbrev pub card_limit : ℕ
card_limit = 24576

abbrev pub card_words : ℕ
card_words = 16384

-- the console's addresses: 16 chapters of 16 paragraphs of 256 words, so of 4,096 words (01, The machine); in chapter 4 a page has
-- half of them, from $4800 on (01, What a CFG may say)
abbrev pub chapters : ℕ
chapters = 16

abbrev pub paragraphs : ℕ
paragraphs = 256

abbrev pub chapter_paragraphs : ℕ
chapter_paragraphs = 16

abbrev pub paragraph_size : ℕ
paragraph_size = 256

abbrev pub chapter_size : ℕ
chapter_size = 4096

abbrev pub half_size : ℕ
half_size = 2048

abbrev pub half_start : ℕ
half_start = 0x4800

-- a chapter's pages, and the flip entries of all chapters, sixteen rows of sixteen (01, File layout); a chapter's layers are its pages
-- and its plain lines (01, What a CFG may say)
abbrev pub chapter_pages : ℕ
chapter_pages = 16

abbrev pub flip_entries : ℕ
flip_entries = 256

abbrev pub layers : ℕ
layers = 17

-- the slots are the layers of all chapters, the cells the paragraphs of all layers
abbrev pub slots : ℕ
slots = chapters * layers

abbrev pub cells : ℕ
cells = layers * paragraphs

-- the words and the paragraphs of a Locutus page (01, How an image is laid out by the builder); the most pages that the lines of a CFG can
-- need, which is a bound and not asked (02, W-210); the paragraphs of Locutus RAM
abbrev pub page_size : ℕ
page_size = 4096

abbrev pub page_paragraphs : ℕ
page_paragraphs = 16

abbrev pub page_limit : ℕ
page_limit = 139

abbrev pub locutus_paragraphs : ℕ
locutus_paragraphs = 2048
