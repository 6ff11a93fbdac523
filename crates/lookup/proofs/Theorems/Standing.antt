-- The text of a lookup stands in the file that is named, at the place that is named, and is the n-th that the file's sub-records with the
-- tag hold: of a label its own, of an image those of its metadata blocks in order.
use Rattle.std.specs.Prelude.{ℕ, ◌+◌, ◌-◌, ◌≤◌, ◌≡◌, refl, List, [], ◌∷◌, ◌++◌, map, true, cond, ◌&&◌, length, take, drop, leb, eqb, Some, Ok}
use Rattle.std.proofs.Common.{sym, ap, ap₂, ◌∙◌, append_assoc, arith, take-append-drop, length-take-le, le-leb}
use Rattle.std.specs.Borrow.{Bor}
use Rattle.basics.specs.Lists.{part, flat, Each, none, also}
use Rattle.basics.specs.Laws.Each.{each_append}
use Rattle.basics.specs.Laws.Lists.{length_part}
use Rattle.basics.specs.Laws.Stands.{stands_after, stands_part, stands_length}
use Rattle.basics.specs.Laws.Tests.{cases, and_true}
use Rattle.metadata.specs.declared.Span.{Span}
use Rattle.metadata.specs.Records.{Sub, subs_of}
use Rattle.metadata.specs.Texts.{last_tag, texts_of}
use Rattle.metadata.specs.Laws.Texts.{with_tag, shown, texts_are, Within, within, seek_holds}
use Rattle.metadata.specs.Laws.Nth.{IsNth, seek_nth, payload_nth}
use Rattle.blocks.specs.Blocks.{frame_size, payload_in, is_metadata, Block}
use Rattle.blocks.specs.Images.{first_block, blocks_in}
use Rattle.blocks.specs.Laws.Images.{Read, reading, next_blocks}
use Rattle.lookup.specs.declared.Place.TheVariants.{Label, Image}
use Rattle.lookup.specs.Lookup.{moved, texts_in_blocks, image_texts, find_of}
use Rattle.lookup.specs.Shown.{Stands, PartOf, Shows, inside, place_in}
use Rattle.lookup.specs.Laws.Found.{LabelHas, label_has, ImageHas, image_has}

-- the sub-records of metadata blocks, in their order
abbrev pub subs_in_blocks : List (List ℕ) → List Sub
subs_in_blocks [] = []
subs_in_blocks (x ∷ xs) = cond (is_metadata x) (subs_of (payload_in x)) [] ++ subs_in_blocks xs

with_append : (tag : ℕ) (rs qs : List Sub) → with_tag tag (rs ++ qs) ≡ with_tag tag rs ++ with_tag tag qs
with_append tag [] qs = refl
with_append tag (r ∷ rs) qs =
    cases (leb tag last_tag && eqb r.tag tag) (λ e. rw e (ap (◌∷◌ r.text) (with_append tag rs qs))) (λ e. rw e (with_append tag rs qs))

map-append : {A B : Type 0} (f : A → B) (xs ys : List A) → map f (xs ++ ys) ≡ map f xs ++ map f ys
map-append f [] ys = refl
map-append f (x ∷ xs) ys = ap (◌∷◌ (f x)) (map-append f xs ys)

-- a payload y stands at b
module _ (s y r : List ℕ) (b : ℕ) (st : drop b s ≡ y ++ r) where
  part_moved : (a e : ℕ) → a ≤ e → e ≤ length y → part s (b + a) (b + e) ≡ part y a e
  part_moved a e o i =
      let k : ℕ = e - a in
      let rest : List ℕ = drop k (drop a y) ++ r in
      let front : y ++ r ≡ take a y ++ (part y a e ++ rest) =
      ap (λ (z : List ℕ). z ++ r) (sym (take-append-drop a y)) ∙ append_assoc (take a y) (drop a y) r
      ∙ ap (λ (z : List ℕ). take a y ++ (z ++ r)) (sym (take-append-drop k (drop a y)))
      ∙ ap (◌++◌ (take a y)) (append_assoc (part y a e) (drop k (drop a y)) r) in
      let after : drop (b + a) s ≡ part y a e ++ rest =
      stands_after s b (take a y) (part y a e ++ rest) (st ∙ front) (b + a) (ap (◌+◌ b) (sym (length-take-le a y (omega arith)))) in
      stands_part s (b + a) (part y a e) rest after (b + e) (omega (arith, length_part y a e i))

  texts_moved : (xs : List Span) → Each (Within (length y)) xs → map (shown s) (map (moved b) xs) ≡ map (shown y) xs
  texts_moved [] none = refl
  texts_moved (x ∷ xs) (also w v) = ap₂ ◌∷◌ (part_moved x.from x.to w.ordered w.inside) (texts_moved xs v)

  within_moved : (xs : List Span) → b ≤ length s → Each (Within (length y)) xs → Each (Within (length s)) (map (moved b) xs)
  within_moved [] h none = none
  within_moved (x ∷ xs) h (also w v) =
      also {x = moved b x} (record { ordered = omega (arith, w.ordered); inside = omega (arith, w.inside, stands_length s b y r st) }) (within_moved xs h v)

-- a block x that stands at p
module _ (s : List ℕ) (p : ℕ) (x r : List ℕ) (b : Block x) (st : drop p s ≡ x ++ r) (tag : ℕ) where
  payload_stands : drop (p + frame_size) s ≡ payload_in x ++ r
  payload_stands =
      stands_after s p (take frame_size x) (payload_in x ++ r)
      (st ∙ ap (λ (z : List ℕ). z ++ r) (sym (take-append-drop frame_size x)) ∙ append_assoc (take frame_size x) (payload_in x) r)
      (p + frame_size)
      (ap (◌+◌ p) (sym (length-take-le frame_size x (omega (arith, b.long)))))

  frame_inside : p + frame_size ≤ length s
  frame_inside = omega (arith, b.long, stands_length s p x r st)

  abbrev here : List Span
  here = cond (is_metadata x) (texts_of tag (payload_in x)) []

  texts_here : map (shown s) (map (moved (p + frame_size)) here) ≡ with_tag tag (cond (is_metadata x) (subs_of (payload_in x)) [])
  texts_here =
      cases (is_metadata x)
      (λ e.
      rw e
      (texts_moved s (payload_in x) r (p + frame_size) payload_stands (texts_of tag (payload_in x)) (within tag (payload_in x)) ∙ texts_are tag (payload_in x)))
      (λ e. rw e)

  within_here : Each (Within (length s)) (map (moved (p + frame_size)) here)
  within_here =
      cases (is_metadata x)
      (λ e.
      rw e (within_moved s (payload_in x) r (p + frame_size) payload_stands (texts_of tag (payload_in x)) frame_inside (within tag (payload_in x))))
      (λ e. rw e none)

blocks_texts : (tag p : ℕ) (s : List ℕ) (xs : List (List ℕ)) (r : List ℕ) → Each Block xs → drop p s ≡ flat xs ++ r
    → map (shown s) (texts_in_blocks tag p xs) ≡ with_tag tag (subs_in_blocks xs)
unfolding texts_in_blocks
blocks_texts tag p s [] r none st = refl
blocks_texts tag p s (x ∷ xs) r (also b bs) st =
    let on : drop p s ≡ x ++ (flat xs ++ r) = next_blocks s p x xs r st in
    let next : drop (p + length x) s ≡ flat xs ++ r = stands_after s p x (flat xs ++ r) on (p + length x) refl in
    map-append (shown s) (map (moved (p + frame_size)) (cond (is_metadata x) (texts_of tag (payload_in x)) [])) (texts_in_blocks tag (p + length x) xs)
    ∙ ap₂ ◌++◌ (texts_here s p x (flat xs ++ r) b on tag) (blocks_texts tag (p + length x) s xs r bs next)
    ∙ sym (with_append tag (cond (is_metadata x) (subs_of (payload_in x)) []) (subs_in_blocks xs))

blocks_within : (tag p : ℕ) (s : List ℕ) (xs : List (List ℕ)) (r : List ℕ) → Each Block xs → drop p s ≡ flat xs ++ r
    → Each (Within (length s)) (texts_in_blocks tag p xs)
unfolding texts_in_blocks
blocks_within tag p s [] r none st = none
blocks_within tag p s (x ∷ xs) r (also b bs) st =
    let on : drop p s ≡ x ++ (flat xs ++ r) = next_blocks s p x xs r st in
    let next : drop (p + length x) s ≡ flat xs ++ r = stands_after s p x (flat xs ++ r) on (p + length x) refl in
    each_append _ _ (within_here s p x (flat xs ++ r) b on tag) (blocks_within tag (p + length x) s xs r bs next)

-- what stands where an image's texts with a tag are is what its blocks' sub-records with that tag hold, in their order
module _ (tag : ℕ) (s : List ℕ) where
  read : Read s first_block (blocks_in s)
  read = reading s

  pub image_texts_are : map (shown s) (image_texts tag s) ≡ with_tag tag (subs_in_blocks (blocks_in s))
  image_texts_are = blocks_texts tag first_block s (blocks_in s) (drop read.stop s) read.each read.stands

  pub image_within : Each (Within (length s)) (image_texts tag s)
  image_within = blocks_within tag first_block s (blocks_in s) (drop read.stop s) read.each read.stands

-- a text that is shown: the bytes a to e of the file, where they stand, and the n-th with the tag
pub record Text (r s : Bor (List ℕ)) (a e tag n : ℕ) (subs : List Sub) : Type 0 where
  pub ordered : a ≤ e
  pub inside : e ≤ length s.now
  pub stands : Stands r s a e
  pub nth : IsNth n r.now (with_tag tag subs)

part_stands : (r s : Bor (List ℕ)) (x : Span) → Within (length s.now) x → PartOf r s x.from x.to → Stands r s x.from x.to
part_stands r s x w p =
    let i : inside s.now x.from x.to ≡ true = and_true _ _ (le-leb x.to (length s.now) w.inside) (le-leb x.from x.to w.ordered) in
    rw i at p

module _ (r label image : Bor (List ℕ)) (tag n : ℕ) (x : Span) (shows : Shows r label image (place_in (find_of label.now image.now tag n))) where
  pub label_stands : find_of label.now image.now tag n ≡ Ok (Some (Label x)) → Text r label x.from x.to tag n (subs_of label.now)
  label_stands q =
      let h : LabelHas label.now image.now tag n x = label_has label.now image.now tag n x q in
      let w : Within (length label.now) x = seek_holds n x (texts_of tag label.now) (within tag label.now) h.found in
      let s : Stands r label x.from x.to = part_stands r label x w (rw q at shows) in
      record { ordered = w.ordered; inside = w.inside; stands = s; nth = rw s.text (payload_nth tag n x label.now h.found) }

  pub image_stands : find_of label.now image.now tag n ≡ Ok (Some (Image x)) → Text r image x.from x.to tag n (subs_in_blocks (blocks_in image.now))
  image_stands q =
      let h : ImageHas label.now image.now tag n x = image_has label.now image.now tag n x q in
      let w : Within (length image.now) x = seek_holds n x (image_texts tag image.now) (image_within tag image.now) h.found in
      let s : Stands r image x.from x.to = part_stands r image x w (rw q at shows) in
      record {
        ordered = w.ordered;
        inside = w.inside;
        stands = s;
        nth = rw s.text (rw (image_texts_are tag image.now) at (seek_nth image.now n x (image_texts tag image.now) h.found));
      }
