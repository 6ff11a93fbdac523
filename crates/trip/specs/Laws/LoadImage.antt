-- Loading an image of a header, tables and blocks that refuse nothing gives its tables and counts and lays its hunks over the RAM: for any
-- such blocks, a block of a type that is not looked into among them; and for the blocks of hunks, behind others.
use Rattle.std.specs.Prelude.{Ok}
use Rattle.std.specs.Prelude.{ℕ, ◌+◌, ◌*◌, ◌≤◌, ◌<◌, ◌^◌, ◌≡◌, Bool, true, ◌||◌}
use Rattle.std.proofs.Math.Path.{refl, ap}
use Rattle.std.proofs.Common.{sym, ◌∙◌, inr, arith, eq-eqb, ne_eqb}
use mathlib.Core.List.{List, [], ◌∷◌, ◌++◌, map}
use Rattle.std.proofs.Math.Bool.{false}
use Rattle.std.proofs.Math.ListN.{length, length-append}
use Rattle.std.proofs.lemmas.List.{length-map}
use Rattle.std.proofs.Math.Dec.{eqb}
use Rattle.basics.specs.Lists.{Each, none as no_blocks, also as and_block}
use Rattle.basics.specs.Rows.{Silent, none, also}
use Rattle.basics.specs.Laws.Rows.{silent_append}
use Rattle.basics.specs.Laws.Tests.{and_false}
use Rattle.places.specs.Limits.{image_limit, lent, lent_limit, paragraph_size}
use Rattle.sums.specs.Crc.{crc324_of}
use Rattle.header.specs.Header.{header_of, flags_of}
use Rattle.jlp.specs.declared.Jlp.{Jlp}
use Rattle.header.specs.Laws.Header.{length_header, flags_back, header_silent}
use Rattle.tables.specs.Tables.{Tables, tables_in, tables_payload, jlp_of, cartridge_of, cartridge_with, tables_rows}
use Rattle.tables.specs.Laws.Tables.{length_tables, payload_tables}
use Rattle.hunk.specs.Hunk.{Hunk, hunk_of, hunk_payload, check_hunk}
use Rattle.hunk.specs.Laws.ReadBack.{payload_hunk, payload_checks}
use Rattle.blocks.specs.Blocks.{type_of, payload_in, size_said, sum_said, block_of, tables_type, hunk_type, metadata_type, end_mark, is_tables, is_hunk, is_metadata, Block}
use Rattle.metadata.specs.Records.{is_cut}
use Rattle.blocks.specs.Judged.{wrong_sum, wrong_metadata, wrong_tables, wrong_hunk, judge_rows}
use Rattle.blocks.specs.Images.{first_block, image_of, blocks_in, judge_all, any_tables, payload_of_tables, hunks_in, overlay, word_count}
use Rattle.blocks.specs.Laws.ReadBack as Made
use Rattle.blocks.specs.Laws.Images.{blocks_back, image_ends}
use Rattle.load.specs.Load.{loading_of, load_ram_of}
use Rattle.load.specs.Laws.Refusals.{Accepted, accepts}
use Rattle.save.specs.Chosen.{tables_block, hunk_block, image_with, Sized}
use Rattle.save.specs.Laws.Chosen.{Lies}
use Rattle.trip.specs.Trip.{answer_of}

-- ---- blocks that refuse nothing wherever they stand

pub record Fine (m : ℕ) (x : List ℕ) : Type 0 where
  pub block : Block x
  pub plain : is_tables x ≡ false
  pub silent : (e : Bool) (p : ℕ) → Silent (judge_rows m e p (crc324_of (payload_in x)) x)

fine_blocks : {m : ℕ} {xs : List (List ℕ)} → Each (Fine m) xs → Each Block xs
fine_blocks no_blocks = no_blocks
fine_blocks (and_block f fs) = and_block f.block (fine_blocks fs)

fine_silent : (m : ℕ) (e : Bool) (p : ℕ) (xs : List (List ℕ)) → Each (Fine m) xs → Silent (judge_all m e p xs)
unfolding judge_all
fine_silent m e p [] no_blocks = none
fine_silent m e p (x ∷ xs) (and_block f fs) = silent_append (f.silent e p) (fine_silent m (e || is_tables x) (p + length x) xs fs)

-- a made block has the checksum of its payload
sum_is : (t : ℕ) (x : List ℕ) → crc324_of (payload_in (block_of t x)) ≡ sum_said (block_of t x)
sum_is t x = ap crc324_of (Made.payload_back t (crc324_of x) x) ∙ sym (Made.sum_back t (crc324_of x) x)

sum_right : (t : ℕ) (x : List ℕ) → wrong_sum (crc324_of (payload_in (block_of t x))) (block_of t x) ≡ false
sum_right t x = and_false (is_tables (block_of t x) || is_hunk (block_of t x)) _ (rw (eq-eqb _ _ (sum_is t x)))

-- and of metadata 12 is asked where it is cut
whole_right : (t : ℕ) (x : List ℕ) → is_cut x ≡ false → wrong_metadata (crc324_of (payload_in (block_of t x))) (block_of t x) ≡ false
whole_right t x w =
    let c : is_cut (payload_in (block_of t x)) ≡ false = ap is_cut (Made.payload_back t (crc324_of x) x) ∙ w in
    and_false (is_metadata (block_of t x)) _ (rw (eq-eqb _ _ (sum_is t x), c))

-- a type that a load does not look into
pub record Unread (t : ℕ) : Type 0 where
  pub not_0 : t ≡ 0x00 → ⊥
  pub not_1 : t ≡ 0x01 → ⊥
  pub not_2 : t ≡ 0x02 → ⊥
  pub not_3 : t ≡ 0x03 → ⊥
  pub not_end : t ≡ 0xFF → ⊥

pub fine_unread : (m t : ℕ) (payload : List ℕ) → Unread t → Fine m (block_of t payload)
unfolding judge_rows
fine_unread m t payload u =
    let x : List ℕ = block_of t payload in
    let k : type_of x ≡ t = Made.type_back t (crc324_of payload) payload in
    let e₀ : eqb (type_of x) 0x00 ≡ false = rw k (ne_eqb _ _ u.not_0) in
    let e₁ : eqb (type_of x) 0x01 ≡ false = rw k (ne_eqb _ _ u.not_1) in
    let e₂ : eqb (type_of x) 0x02 ≡ false = rw k (ne_eqb _ _ u.not_2) in
    let e₃ : eqb (type_of x) 0x03 ≡ false = rw k (ne_eqb _ _ u.not_3) in
    record {
      block = Made.block_back t (crc324_of payload) payload u.not_end;
      plain = e₁;
      silent =
          λ e p.
          let e₁₂ : wrong_metadata (crc324_of (payload_in x)) x ≡ false = rw e₃ in
          let e₈ : wrong_tables e x ≡ false = rw e₁ in
          let e₉ : wrong_hunk m x ≡ false = rw e₂ in
          also e₀ (also (sum_right t payload) (also e₁₂ (also e₈ (also e₉ none))));
    }

-- metadata that is not cut
pub fine_metadata : (m : ℕ) (payload : List ℕ) → is_cut payload ≡ false → Fine m (block_of metadata_type payload)
unfolding judge_rows
fine_metadata m payload w =
    let x : List ℕ = block_of metadata_type payload in
    let k : type_of x ≡ 0x03 = Made.type_back metadata_type (crc324_of payload) payload in
    let e₀ : eqb (type_of x) 0x00 ≡ false = rw k in
    let e₁ : eqb (type_of x) 0x01 ≡ false = rw k in
    record {
      block = Made.block_back metadata_type (crc324_of payload) payload (λ e. omega arith);
      plain = e₁;
      silent =
          λ e p.
          let e₈ : wrong_tables e x ≡ false = rw e₁ in
          let e₉ : wrong_hunk m x ≡ false = rw k in
          also e₀ (also (sum_right metadata_type payload) (also (whole_right metadata_type payload w) (also e₈ (also e₉ none))));
    }

pub unread_none : (t : ℕ) (payload : List ℕ) (xs : List (List ℕ)) → Unread t → hunks_in (block_of t payload ∷ xs) ≡ hunks_in xs
unfolding hunks_in
unread_none t payload xs u =
    let e : is_hunk (block_of t payload) ≡ false = rw (Made.type_back t (crc324_of payload) payload) (ne_eqb _ _ u.not_2) in
    rw e

-- ---- the tables, then such blocks

module _ (flags uid : List ℕ) (t : Tables) (xs : List (List ℕ)) (z : Sized flags uid t) where
  abbrev image : List ℕ
  image = image_of (header_of flags uid) (tables_block t ∷ xs) (end_mark ∷ [])

  head_long : length (header_of flags uid) ≡ 32
  head_long = length_header flags uid z.flags_long z.uid_long

  tables_type_lem : type_of (tables_block t) ≡ 0x01
  tables_type_lem = Made.type_back tables_type (crc324_of (tables_payload t)) (tables_payload t)

  tables_payload_lem : payload_in (tables_block t) ≡ tables_payload t
  tables_payload_lem = Made.payload_back tables_type (crc324_of (tables_payload t)) (tables_payload t)

  tables_quiet : (m p : ℕ) → Silent (judge_rows m false p (crc324_of (payload_in (tables_block t))) (tables_block t))
  unfolding judge_rows
  tables_quiet m p =
      let l : size_said (tables_block t) ≡ 1280 =
      Made.size_back tables_type (crc324_of (tables_payload t)) (tables_payload t) ∙ length_tables t z.mapping_long z.permissions_long z.flips_long in
      let e₀ : eqb (type_of (tables_block t)) 0x00 ≡ false = rw tables_type_lem in
      let e₈ : wrong_tables false (tables_block t) ≡ false = rw (tables_type_lem, l) in
      let e₉ : wrong_hunk m (tables_block t) ≡ false = rw tables_type_lem in
      let e₁₂ : wrong_metadata (crc324_of (payload_in (tables_block t))) (tables_block t) ≡ false = rw tables_type_lem in
      also e₀ (also (sum_right tables_type (tables_payload t)) (also e₁₂ (also e₈ (also e₉ none))))

  any_back : any_tables (tables_block t ∷ xs) ≡ true
  unfolding any_tables
  any_back = rw tables_type_lem

  tables_back : tables_in (payload_of_tables (tables_block t ∷ xs)) ≡ t
  unfolding payload_of_tables
  tables_back = rw tables_type_lem (ap tables_in tables_payload_lem ∙ payload_tables t z.mapping_long z.permissions_long z.flips_long)

  cartridge_back : (jlp : Jlp) → cartridge_of jlp (payload_of_tables (tables_block t ∷ xs)) ≡ cartridge_with jlp t
  unfolding cartridge_of
  cartridge_back jlp = ap (cartridge_with jlp) tables_back

  pub hunks_all : hunks_in (tables_block t ∷ xs) ≡ hunks_in xs
  unfolding hunks_in
  hunks_all = rw tables_type_lem

  module _ (short : length image ≤ image_limit) (m f : ℕ) (supported : Silent (tables_rows flags t.flips m f)) (fine : Each (Fine m) xs) where
    each_block : Each Block (tables_block t ∷ xs)
    each_block = and_block (Made.block_back tables_type (crc324_of (tables_payload t)) (tables_payload t) (λ e. omega arith)) (fine_blocks fine)

    read_back : blocks_in image ≡ tables_block t ∷ xs
    read_back = blocks_back (header_of flags uid) (tables_block t ∷ xs) (end_mark ∷ []) head_long each_block refl

    flags_are : flags_of image ≡ flags
    unfolding image_of
    flags_are = flags_back flags uid z.flags_long z.uid_long image _ refl

    tables_accepted : Silent (tables_rows (flags_of image) (tables_in (payload_of_tables (blocks_in image))).flips m f)
    tables_accepted = rw (flags_are, read_back, tables_back) supported

    nothing : Accepted image m f
    unfolding judge_all image_of
    nothing =
        record {
          header = header_silent flags uid z.flags_long z.uid_long image _ refl short;
          blocks =
              rw read_back
              (silent_append (tables_quiet m first_block) (fine_silent m (false || is_tables (tables_block t)) (first_block + length (tables_block t)) xs fine));
          ended = image_ends (header_of flags uid) (tables_block t ∷ xs) (end_mark ∷ []) head_long each_block refl;
          tables = rw read_back any_back;
          supported = tables_accepted;
        }

    pub load_answers : loading_of image m f ≡ answer_of flags t (1 + length xs) (word_count (hunks_in xs))
    unfolding loading_of
    load_answers = rw (accepts image m f nothing, flags_are, read_back, cartridge_back (jlp_of flags), hunks_all) (ap (λ (n : ℕ). answer_of flags t n (word_count (hunks_in xs))) (omega arith))

  pub load_lays : length image ≤ image_limit → (ram : List ℕ) (f : ℕ) → Silent (tables_rows flags t.flips (lent ram) f) → Each (Fine (lent ram)) xs
      → load_ram_of image ram f ≡ overlay (hunks_in xs) ram
  unfolding load_ram_of
  load_lays short ram f supported fine =
      rw (accepts image (lent ram) f (nothing short (lent ram) f supported fine), read_back short (lent ram) f supported fine, hunks_all)

-- ---- the blocks of hunks

module _ (m : ℕ) (few : m ≤ lent_limit) (h : Hunk) (w : Lies m h) where
  low : h.address.0 < 2 ^ 24
  low = omega (arith, w.within)

  hunk_type_lem : type_of (hunk_block h) ≡ 0x02
  hunk_type_lem = Made.type_back hunk_type (crc324_of (hunk_payload h)) (hunk_payload h)

  hunk_payload_lem : payload_in (hunk_block h) ≡ hunk_payload h
  hunk_payload_lem = Made.payload_back hunk_type (crc324_of (hunk_payload h)) (hunk_payload h)

  fine_hunk : Fine m (hunk_block h)
  unfolding judge_rows
  fine_hunk =
      let c : check_hunk (payload_in (hunk_block h)) m ≡ Ok (length h.words) =
      ap (λ (y : List ℕ). check_hunk y m) hunk_payload_lem ∙ (payload_checks h low m).1 (inr (omega (arith, w.whole, w.within))) in
      let e₀ : eqb (type_of (hunk_block h)) 0x00 ≡ false = rw hunk_type_lem in
      let e₁ : eqb (type_of (hunk_block h)) 0x01 ≡ false = rw hunk_type_lem in
      record {
        block = Made.block_back hunk_type (crc324_of (hunk_payload h)) (hunk_payload h) (λ z. omega arith);
        plain = e₁;
        silent =
            λ e p.
            let e₈ : wrong_tables e (hunk_block h) ≡ false = rw e₁ in
            let e₉ : wrong_hunk m (hunk_block h) ≡ false = rw (hunk_type_lem, c) in
            let e₁₂ : wrong_metadata (crc324_of (payload_in (hunk_block h))) (hunk_block h) ≡ false = rw hunk_type_lem in
            also e₀ (also (sum_right hunk_type (hunk_payload h)) (also e₁₂ (also e₈ (also e₉ none))));
      }

  hunk_one : (xs : List (List ℕ)) → hunks_in (hunk_block h ∷ xs) ≡ h ∷ hunks_in xs
  unfolding hunks_in
  hunk_one xs = rw hunk_type_lem (ap (λ (k : Hunk). k ∷ hunks_in xs) (ap hunk_of hunk_payload_lem ∙ payload_hunk h low))

pub fine_hunks : (m : ℕ) → m ≤ lent_limit → (hs : List Hunk) → Each (Lies m) hs → Each (Fine m) (map hunk_block hs)
fine_hunks m few [] no_blocks = no_blocks
fine_hunks m few (h ∷ hs) (and_block w ws) = and_block (fine_hunk m few h w) (fine_hunks m few hs ws)

pub hunks_back : (m : ℕ) → m ≤ lent_limit → (hs : List Hunk) → Each (Lies m) hs → hunks_in (map hunk_block hs) ≡ hs
unfolding hunks_in
hunks_back m few [] no_blocks = refl
hunks_back m few (h ∷ hs) (and_block w ws) = hunk_one m few h w (map hunk_block hs) ∙ ap (λ (l : List Hunk). h ∷ l) (hunks_back m few hs ws)

pub count_words : {m : ℕ} (hs : List Hunk) → Each (Lies m) hs → word_count hs ≡ paragraph_size * length hs
unfolding word_count
count_words [] no_blocks = refl
count_words (h ∷ hs) (and_block w ws) = omega (arith, w.whole, count_words hs ws)

-- other blocks: they refuse nothing, and are no hunks
pub record Other (m : ℕ) (x : List ℕ) : Type 0 where
  pub fine : Fine m x
  pub no_hunk : is_hunk x ≡ false

fine_others : {m : ℕ} (xs ys : List (List ℕ)) → Each (Other m) xs → Each (Fine m) ys → Each (Fine m) (xs ++ ys)
fine_others [] ys no_blocks v = v
fine_others (x ∷ xs) ys (and_block o os) v = and_block o.fine (fine_others xs ys os v)

pub hunks_behind : {m : ℕ} (xs ys : List (List ℕ)) → Each (Other m) xs → hunks_in (xs ++ ys) ≡ hunks_in ys
unfolding hunks_in
hunks_behind [] ys no_blocks = refl
hunks_behind (x ∷ xs) ys (and_block o os) = rw o.no_hunk (hunks_behind xs ys os)

pub other_metadata : (m : ℕ) (payload : List ℕ) → is_cut payload ≡ false → Other m (block_of metadata_type payload)
other_metadata m payload w =
    record { fine = fine_metadata m payload w; no_hunk = rw (Made.type_back metadata_type (crc324_of payload) payload) }

-- the image of other blocks, and of hunks that lie in the words lent
module _ (flags uid : List ℕ) (t : Tables) (others : List (List ℕ)) (hs : List Hunk) (z : Sized flags uid t)
    (short : length (image_with flags uid t others hs) ≤ image_limit) (ram : List ℕ) (f : ℕ) (supported : Silent (tables_rows flags t.flips (lent ram) f))
    (o : Each (Other (lent ram)) others) (w : Each (Lies (lent ram)) hs) where
  few : lent ram ≤ lent_limit
  few = omega arith

  abbrev blocks : List (List ℕ)
  blocks = others ++ map hunk_block hs

  fine : Each (Fine (lent ram)) blocks
  fine = fine_others others (map hunk_block hs) o (fine_hunks (lent ram) few hs w)

  hunks_are : hunks_in blocks ≡ hs
  hunks_are = hunks_behind others (map hunk_block hs) o ∙ hunks_back (lent ram) few hs w

  pub image_blocks : blocks_in (image_with flags uid t others hs) ≡ tables_block t ∷ blocks
  unfolding image_with
  image_blocks = read_back flags uid t blocks z short (lent ram) f supported fine

  pub image_answers : loading_of (image_with flags uid t others hs) (lent ram) f ≡ answer_of flags t (1 + (length others + length hs)) (paragraph_size * length hs)
  unfolding image_with
  image_answers =
      let n : length blocks ≡ length others + length hs = length-append others (map hunk_block hs) ∙ ap (◌+◌ (length others)) (length-map hs hunk_block) in
      load_answers flags uid t blocks z short (lent ram) f supported fine ∙ rw (hunks_are, n, count_words hs w)

  pub image_lays : load_ram_of (image_with flags uid t others hs) ram f ≡ overlay hs ram
  unfolding image_with
  image_lays = load_lays flags uid t blocks z short ram f supported fine ∙ ap (λ (l : List Hunk). overlay l ram) hunks_are
