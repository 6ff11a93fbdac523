-- No image with the same blocks but for the forms of its hunks, that ends in 0xFF and loads the same words, is shorter than the one that is
-- written (02, W-207).
use Rattle.std.specs.Prelude.{ℕ, ◌+◌, ◌≤◌, ◌<◌, ◌^◌, ◌≡◌, refl, Bool, false, take, drop, ltb}
use Rattle.std.proofs.Math.Path.{sym, ap}
use Rattle.std.proofs.Common.{◌∙◌, length-drop, get_or-append-add}
use mathlib.Core.List.{List, [], ◌∷◌, ◌++◌, map, append_assoc}
use Rattle.std.proofs.Math.Bool.{true}
use native.Mathlib.Omega.{arith}
use Rattle.std.proofs.Math.ListN.{length, length-append, get_or-append, get_or-eq_default}
use borrow.Author.Tests.{eq-eqb, ltb-true, ltb-false}
use Rattle.basics.specs.Lists.{joined, flat, Each, none as no_blocks, also as and_block}
use Rattle.basics.specs.Laws.Each.{joined_append}
use Rattle.basics.specs.Laws.Octets.{Bytes, bytes_drop}
use Rattle.basics.specs.Laws.Tests.{cases, true_is_not_false}
use Rattle.places.specs.Limits.{image_limit, lent, lent_limit, locutus_paragraphs}
use Rattle.sums.specs.Crc.{crc324_of}
use Rattle.header.specs.Laws.Header.{length_header}
use Rattle.basics.specs.Rows.{Silent}
use Rattle.tables.specs.Tables.{Tables, tables_payload, mislent, tables_rows}
use Rattle.hunk.specs.Hunk.{Hunk, hunk_of, address, counts_in, words_of, hunk_payload}
use Rattle.hunk.specs.Laws.ReadBack.{payload_address, payload_words}
use Rattle.hunk.specs.Laws.Smallest.{Recut, none_shorter, same_number}
use Rattle.blocks.specs.Blocks.{payload_in, is_hunk, hunk_type, tables_type, Block}
use Rattle.blocks.specs.Images.{blocks_in, stop_of, hunks_in, overlay}
use Rattle.blocks.specs.Laws.ReadBack as Made
use Rattle.blocks.specs.Laws.Images.{Read, reading}
use Rattle.load.specs.Load.{refusal_of, loads, loading_of, load_ram_of}
use Rattle.load.specs.Leaves.{Filled, Leaves}
use Rattle.load.specs.Laws.Refusals.{answer_refusal}
use Rattle.load.proofs.Theorems.Ram.{leaves}
use Rattle.save.specs.Chosen.{chosen, tables_block, hunk_block, image_with, image_for, Sized}
use Rattle.save.specs.Laws.Chosen.{Lies, chosen_each, length_with}
use Rattle.save.specs.Writing.{Writing}
use Rattle.save.specs.Writing.{Content, is_marked, paragraph_of, image_by, writing_of, written_of}
use Rattle.save.proofs.Theorems.Refusals.{Accepted}
use Rattle.trip.specs.Smallest.{Recoded, SameBlocks, none, same, coded, Alike}
use Rattle.trip.specs.Laws.LoadImage.{Other, hunks_all, hunks_behind, image_blocks, image_lays}
use Rattle.trip.specs.Laws.Overlay.{EachLies}
use Rattle.trip.proofs.Theorems.RoundTrip.{accepted, marked_lie, image_front, supported_in}
use Rattle.trip.specs.Laws.Rising.{Rising, SamePlaces, none as no-places, also as and-places, told, rising_chosen}

-- the bytes of blocks that stand one after the other
front_bytes : (x r : List ℕ) → Bytes (x ++ r) → Bytes x
front_bytes x r b i =
    cases (ltb i (length x)) (λ e. rw (sym (get_or-append x r 0 i (ltb-true i (length x) e))) (b i))
    (λ e. rw (get_or-eq_default x 0 (ltb-false i (length x) e)) (omega arith))

back_bytes : (x r : List ℕ) → Bytes (x ++ r) → Bytes r
back_bytes x r b i = rw (sym (get_or-append-add x r i 0)) (b (length x + i))

flat_bytes : (xs : List (List ℕ)) (r : List ℕ) → Bytes (flat xs ++ r) → Each Bytes xs
unfolding joined
flat_bytes [] r b = no_blocks
flat_bytes (x ∷ xs) r b =
    let c : Bytes (x ++ (flat xs ++ r)) = rw append_assoc at b in
    and_block (front_bytes x (flat xs ++ r) c) (flat_bytes xs r (back_bytes x (flat xs ++ r) c))

-- the blocks of hunks, and blocks that may differ from them in their forms
data Coded : List Hunk → List (List ℕ) → Type 0 where
  no_hunks : Coded [] []
  and_hunk : {h : Hunk} {y : List ℕ} {hs : List Hunk} {ys : List (List ℕ)} → Recoded (hunk_block h) y → Coded hs ys → Coded (h ∷ hs) (y ∷ ys)

is_hunk_lem : (h : Hunk) → is_hunk (hunk_block h) ≡ true
is_hunk_lem h = rw (Made.type_back hunk_type (crc324_of (hunk_payload h)) (hunk_payload h))

payload_is : (h : Hunk) → payload_in (hunk_block h) ≡ hunk_payload h
payload_is h = Made.payload_back hunk_type (crc324_of (hunk_payload h)) (hunk_payload h)

coded_of : (hs : List Hunk) {ys : List (List ℕ)} → SameBlocks (map hunk_block hs) ys → Coded hs ys
coded_of [] none = no_hunks
coded_of (h ∷ hs) (same r) = and_hunk (record { hunk = is_hunk_lem h; other_hunk = is_hunk_lem h; address = refl; cuts = refl }) (coded_of hs r)
coded_of (h ∷ hs) (coded c r) = and_hunk c (coded_of hs r)

-- they name the same words
places : {m : ℕ} → m ≤ lent_limit → {hs : List Hunk} {ys : List (List ℕ)} → Each (Lies m) hs → Coded hs ys → SamePlaces (hunks_in ys) hs
unfolding hunks_in
places few no_blocks no_hunks = no-places
places few (and_block w ws) (and_hunk {h = h} {y = y} c r) =
    let low : h.address.0 < 2 ^ 24 = omega (arith, w.within) in
    rw c.other_hunk
    (and-places (sym c.address ∙ ap address (payload_is h) ∙ payload_address h low)
    (sym (same_number (payload_in (hunk_block h)) (payload_in y) c.cuts) ∙ ap (λ (x : List ℕ). length (words_of x)) (payload_is h) ∙ ap length (payload_words h))
    (places few ws r))

-- and where they hold the same words, none is shorter
least : {hs : List Hunk} {ys : List (List ℕ)} → Coded hs ys → Each Filled ys → Each Block ys → Each Bytes ys → hunks_in ys ≡ hs → length (joined hunk_block hs) ≤ length (flat ys)
unfolding hunks_in joined
least no_hunks no_blocks no_blocks no_blocks e = omega arith
least (and_hunk {h = h} {y = y} {hs = hs} {ys = ys} c r) (and_block f fs) (and_block b bs) (and_block o os) e =
    let q : hunk_of (payload_in y) ∷ hunks_in ys ≡ h ∷ hs = rw c.other_hunk at e in
    let i : words_of (payload_in y) ≡ h.words = cc in
    let j : hunks_in ys ≡ hs = cc in
    let s : Recut (payload_in y) h =
    record {
      bytes = bytes_drop 8 y o;
      all = f.all c.other_hunk;
      counts = sym c.cuts ∙ ap counts_in (payload_is h);
      words = i;
    } in
    omega (
      arith,
      none_shorter (payload_in y) h s,
      length-drop 8 y,
      b.long,
      Made.length_block hunk_type (hunk_payload h),
      length-append (hunk_block h) (joined hunk_block hs),
      length-append y (flat ys),
      least r fs bs os j,
    )

-- blocks that are no hunks are the same in both
record Behind (xs zs ys : List (List ℕ)) : Type 0 where
  pub rest : List (List ℕ)
  pub is : ys ≡ xs ++ rest
  pub alike : SameBlocks zs rest

peeled : {m : ℕ} (xs zs ys : List (List ℕ)) → Each (Other m) xs → SameBlocks (xs ++ zs) ys → Behind xs zs ys
peeled [] zs ys no_blocks s = record { rest = ys; is = refl; alike = s }
peeled (x ∷ xs) zs [] _ s = elim s [ ]
peeled (x ∷ xs) zs (y ∷ ys) (and_block o os) (same s) =
    let b : Behind xs zs ys = peeled xs zs ys os s in
    record { rest = b.rest; is = ap (◌∷◌ x) b.is; alike = b.alike }
peeled (x ∷ xs) zs (y ∷ ys) (and_block o os) (coded c s) = true_is_not_false c.hunk o.no_hunk

each_behind : {P : List ℕ → Type 0} (xs ys : List (List ℕ)) → Each P (xs ++ ys) → Each P ys
each_behind [] ys e = e
each_behind (x ∷ xs) ys (and_block p e) = each_behind xs ys e

-- the image of other blocks, and of hunks that lie one behind the other in the words lent
module _ (flags uid : List ℕ) (t : Tables) (others : List (List ℕ)) (hs : List Hunk) (z : Sized flags uid t)
    (short : length (image_with flags uid t others hs) ≤ image_limit) (ram : List ℕ) (f : ℕ) (supported : Silent (tables_rows flags t.flips (lent ram) f))
    (ot : Each (Other (lent ram)) others) (w : Each (Lies (lent ram)) hs) (a b : ℕ) (rising : Rising a hs b) where
  abbrev image : List ℕ
  image = image_with flags uid t others hs

  module _ (other : List ℕ) (r : Alike image other ram f) where
    left : Leaves other ram (loading_of other (lent ram) f) (load_ram_of other ram f)
    left = leaves other ram f r.loads

    laid : load_ram_of other ram f ≡ overlay (hunks_in (blocks_in other)) ram
    unfolding load_ram_of
    laid =
        let n : (refusal_of other (lent ram) f).number ≡ 0 = rw answer_refusal at r.loads in
        let go : loads other (lent ram) f ≡ true = eq-eqb _ _ n in
        rw go

    octets : Each Bytes (blocks_in other)
    octets =
        let i : Read other 32 (blocks_in other) = reading other in
        flat_bytes (blocks_in other) (drop i.stop other) (rw (sym i.stands) (bytes_drop 32 other r.bytes))

    stops : stop_of other < length other
    stops = cases (ltb (stop_of other) (length other)) (λ e. ltb-true _ _ e)
        (λ e. absurd (omega (arith, r.ended, get_or-eq_default other 0 (ltb-false (stop_of other) (length other) e))))

    -- behind the tables block and the others
    behind : (ys : List (List ℕ)) → blocks_in other ≡ tables_block t ∷ others ++ ys → SameBlocks (map hunk_block hs) ys → Each Filled ys → Each Block ys → Each Bytes ys → length image ≤ length other
    unfolding joined
    behind ys e s g k o =
        let c : Coded hs ys = coded_of hs s in
        let v : overlay (hunks_in ys) ram ≡ overlay hs ram =
        ap (λ (gs : List Hunk). overlay gs ram) (sym (ap hunks_in e ∙ hunks_all flags uid t (others ++ ys) z ∙ hunks_behind others ys ot)) ∙ sym laid ∙ r.words
        ∙ image_lays flags uid t others hs z short ram f supported ot w in
        let same-hunks : hunks_in ys ≡ hs = told (hunks_in ys) hs (places (omega arith) w c) rising w ram (omega arith) v in
        omega (
          arith,
          stops,
          ap (λ (xs : List (List ℕ)). length (flat xs)) e,
          length-append (tables_block t) (flat (others ++ ys)),
          ap length (joined_append (λ x. x) others ys),
          length-append (flat others) (flat ys),
          least c g k o same-hunks,
          length_with flags uid t others hs,
          length_header flags uid z.flags_long z.uid_long,
        )

    at_others : (ys : List (List ℕ)) → blocks_in other ≡ tables_block t ∷ ys → Behind others (map hunk_block hs) ys → Each Filled ys → Each Block ys → Each Bytes ys → length image ≤ length other
    at_others ys e p f k o =
        behind p.rest (e ∙ ap (◌∷◌ (tables_block t)) p.is) p.alike (each_behind others p.rest (rw p.is at f))
        (each_behind others p.rest (rw p.is at k)) (each_behind others p.rest (rw p.is at o))

    at_tables : (bs : List (List ℕ)) → blocks_in other ≡ bs → SameBlocks (tables_block t ∷ others ++ map hunk_block hs) bs → Each Filled bs → Each Block bs → Each Bytes bs → length image ≤ length other
    at_tables [] e s f k o = elim s [ ]
    at_tables (y ∷ ys) e (same s) (and_block f fs) (and_block k ks) (and_block o os) = at_others ys e (peeled others (map hunk_block hs) ys ot s) fs ks os
    at_tables (y ∷ ys) e (coded c s) f k o =
        let n : is_hunk (tables_block t) ≡ false = rw (Made.type_back tables_type (crc324_of (tables_payload t)) (tables_payload t)) in
        true_is_not_false c.hunk n

    pub smallest : length image ≤ length other
    smallest =
        at_tables (blocks_in other) refl (rw (image_blocks flags uid t others hs z short ram f supported ot w) at r.blocks) left.filled (reading other).each octets

-- so of chosen paragraphs, as writer and builder have them
pub chosen_smallest :
    (flags uid : List ℕ) (t : Tables) (others : List (List ℕ)) (on : ℕ → Bool) (words : ℕ → List ℕ) (ram : List ℕ) (f : ℕ) → Sized flags uid t
    → length (image_with flags uid t others (chosen locutus_paragraphs on words)) ≤ image_limit → Silent (tables_rows flags t.flips (lent ram) f)
    → Each (Other (lent ram)) others → EachLies (lent ram) locutus_paragraphs on words
    → (other : List ℕ) → Alike (image_with flags uid t others (chosen locutus_paragraphs on words)) other ram f
    → length (image_with flags uid t others (chosen locutus_paragraphs on words)) ≤ length other
chosen_smallest flags uid t others on words ram f z short supported o c other r =
    let hs : List Hunk = chosen locutus_paragraphs on words in
    let w : Each (Lies (lent ram)) hs = chosen_each on words locutus_paragraphs c in
    smallest flags uid t others hs z short ram f supported o w 0 _ (rising_chosen on words locutus_paragraphs (λ p h e. (c p h e).whole)) other r

-- what the writer accepts is written so
module _ (out : List ℕ) (c : Content) (z : Sized c.flags c.uid c.tables) (e : (writing_of out c).refusal.number ≡ 0) where
  pub written_smallest :
      (w : Writing) (after : List ℕ) → w ≡ writing_of out c → after ≡ written_of out c → (to : List ℕ) → length to ≡ length c.ram
      → (f : ℕ) → mislent c.flags f ≡ false → (other : List ℕ) → Alike (take w.length after) other to f → w.length ≤ length other
  unfolding image_for
  written_smallest w after ew ea to same-long f right other r =
      let a : Accepted out c = accepted out c z e in
      let k : w.length ≡ length (image_by c) = ap (λ (x : Writing). x.length) (ew ∙ a.answer) in
      let s : Alike (image_by c) other to f = rw (image_front out c z e w after ew ea) at r in
      omega (
        arith,
        chosen_smallest c.flags c.uid c.tables [] (is_marked c.marks) (paragraph_of c.ram) to f z a.short (supported_in out c z e to same-long f right)
            no_blocks (marked_lie out c z e to same-long) other s,
      )
