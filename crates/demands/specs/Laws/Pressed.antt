-- A title that the builder accepts: its image loads as it was laid out, and plays as its lines read.
use Rattle.std.specs.Prelude.{ℕ, ◌≤◌, ◌*◌, ◌+◌, ◌/◌, ◌%◌, ◌<◌, List, ◌++◌, ◌≡◌, true, false, length, drop, take, eqb}
use Rattle.std.proofs.Common.{ap, ◌∙◌, arith, eq-eqb}
use Rattle.std.proofs.Math.Path.{sym}
use Rattle.std.proofs.Math.Seq.{take-append_seam}
use Rattle.basics.specs.Lists.{Each, none, also}
use Rattle.basics.specs.Refusals.{no_refusal}
use Rattle.basics.specs.Laws.Tests.{cases, true_is_not_false}
use Rattle.places.specs.Limits.{lent, locutus_paragraphs}
use Rattle.jlp.specs.Accelerators.{fresh_jlp}
use Rattle.cart.specs.Run.{Access, answers}
use Rattle.tables.specs.Tables.{cartridge_with}
use Rattle.label.specs.Label.{label_blocks, wrong_label}
use Rattle.label.specs.Laws.Label.{label_whole}
use Rattle.load.specs.Load.{Loading}
use Rattle.load.specs.Load.{load_ram_of, loading_of}
use Rattle.trip.specs.Smallest.{Alike}
use Rattle.trip.specs.Laws.LoadImage.{Other, other_metadata}
use Rattle.trip.proofs.Theorems.RoundTrip.{LoadsChosen, load_chosen}
use Rattle.trip.proofs.Theorems.Smallest.{chosen_smallest}
use Rattle.lines.specs.declared.Line.{Line}
use Rattle.cfg.specs.File.{entries_of}
use Rattle.rules.specs.Accepted.{Accepted}
use Rattle.layout.specs.Layout.{needed, covered, paragraph_words}
use Rattle.layout.specs.Laws.Uses.{covered_inside}
use Rattle.build.specs.Building.{Building}
use Rattle.build.specs.Building.{builds, flag_bytes, tables_for, pressed_image, uid_of, building_of, refused, refusal_of, built, built_of}
use Rattle.build.proofs.Theorems.Refusals.{lines_accepted, words_fit, label_right}
use Rattle.build.specs.Laws.Image.{sized, within_limit, supported, lie}
use Rattle.plays.specs.Loaded.{Loaded}
use Rattle.plays.specs.Plain.{plain_answers, fresh}
use Rattle.plays.proofs.Theorems.Plays.{plays}
use Rattle.demands.specs.Pressing.{Pressing, Pressed, world_of}

-- the image of a BIN and a CFG that are accepted, over a RAM of the words needed
module _ (bin cfg label out : List ℕ) (accepts : builds bin cfg label out ≡ true) (ram flash : List ℕ) (room : needed (entries_of cfg) ≤ length ram) where
  abbrev lines : List Line
  lines = entries_of cfg

  accepted : Accepted bin lines
  accepted = lines_accepted bin cfg label out accepts

  inside : needed lines ≤ lent ram
  inside = omega (arith, room, words_fit bin cfg label out accepts)

  right : wrong_label label ≡ false
  right = label_right bin cfg label out accepts

  -- the label's block, if it has one, refuses nothing and is no hunk
  label_other : Each (Other (lent ram)) (label_blocks label)
  label_other = cases (eqb (length label) 0) (λ e. rw e none) (λ e. rw e (also (other_metadata (lent ram) label (label_whole label right)) none))

  -- the image loads: the layout's tables, and the covered paragraphs laid over the RAM
  pub loads_as : LoadsChosen flag_bytes (tables_for lines) (length (label_blocks label)) (covered lines) (paragraph_words bin lines) (pressed_image bin cfg label) ram (length flash)
  unfolding pressed_image
  loads_as =
      load_chosen flag_bytes (uid_of bin cfg) (tables_for lines) (label_blocks label) (covered lines) (paragraph_words bin lines) ram (length flash) (sized bin cfg lines)
      (within_limit bin cfg lines label right) (supported bin cfg lines accepted (lent ram) (length flash)) label_other (lie bin cfg lines (lent ram) inside)

  -- and none like it is shorter
  smallest_as : (other : List ℕ) → Alike (pressed_image bin cfg label) other ram (length flash) → length (pressed_image bin cfg label) ≤ length other
  unfolding pressed_image
  smallest_as =
      chosen_smallest flag_bytes (uid_of bin cfg) (tables_for lines) (label_blocks label) (covered lines) (paragraph_words bin lines) ram (length flash) (sized bin cfg lines)
      (within_limit bin cfg lines label right) (supported bin cfg lines accepted (lent ram) (length flash)) label_other (lie bin cfg lines (lent ram) inside)

  words_there : Loaded bin lines (load_ram_of (pressed_image bin cfg label) ram (length flash))
  words_there =
      record {
        room = rw loads_as.back.same inside;
        words =
            λ p i c h.
            let q : (256 * p + i) / 256 ≡ p = omega arith in
            let r : (256 * p + i) % 256 ≡ i = omega arith in
            let b : p < locutus_paragraphs = omega (arith, covered_inside lines p c, words_fit bin cfg label out accepts) in
            rw (q, r) at (loads_as.back.given (256 * p + i) (rw q b) (rw q c));
      }

  pub plays_as_it_reads : (xs : List Access) →
      answers (world_of (loading_of (pressed_image bin cfg label) (lent ram) (length flash)) flash (load_ram_of (pressed_image bin cfg label) ram (length flash))) xs
      ≡ plain_answers bin lines fresh xs
  plays_as_it_reads xs =
      ap (λ (l : Loading). answers (world_of l flash (load_ram_of (pressed_image bin cfg label) ram (length flash))) xs) loads_as.answer
      ∙ plays accepted flash (load_ram_of (pressed_image bin cfg label) ram (length flash)) words_there xs

-- the same of what the functions answered and left
module _ (p : Pressing) (q : Pressed p) (accepts : p.building.refusal.number ≡ 0) where
  abbrev image : List ℕ
  image = pressed_image p.bin p.cfg p.label

  it_builds : builds p.bin p.cfg p.label p.out ≡ true
  unfolding building_of
  it_builds =
      cases (builds p.bin p.cfg p.label p.out) (λ e. e)
      (λ e.
      let r : p.building ≡ refused p.bin p.cfg p.label (refusal_of p.bin p.cfg p.label p.out) = q.answer ∙ rw e in
      let n : (refusal_of p.bin p.cfg p.label p.out).number ≡ 0 = sym (ap (λ (x : Building). x.refusal.number) r) ∙ accepts in
      true_is_not_false (eq-eqb (refusal_of p.bin p.cfg p.label p.out).number 0 n) e)

  pub is_built : p.building ≡ built p.bin p.cfg p.label
  unfolding building_of
  is_built = q.answer ∙ rw it_builds

  image_there : p.left ≡ image ++ drop (length image) p.out
  unfolding built_of
  image_there = q.leaves ∙ rw it_builds

  image_front : take p.building.length p.left ≡ image
  image_front =
      ap (λ (x : Building). take x.length p.left) is_built ∙ ap (take (length image)) image_there
      ∙ take-append_seam image (drop (length image) p.out)

  loading_is : p.loading ≡ loading_of image (lent p.ram) (length p.flash)
  loading_is = q.loads.answer ∙ ap (λ (s : List ℕ). loading_of s (lent p.ram) (length p.flash)) image_front

  stored_is : p.stored ≡ load_ram_of image p.ram (length p.flash)
  stored_is = q.loads.leaves ∙ ap (λ (s : List ℕ). load_ram_of s p.ram (length p.flash)) image_front

  module _ (enough : p.building.needed ≤ length p.ram) where
    room_there : needed (entries_of p.cfg) ≤ length p.ram
    room_there = rw (ap (λ (x : Building). x.needed) is_built) at enough

    pub pressed_loads : p.loading.refusal ≡ no_refusal
    pressed_loads =
        ap (λ (x : Loading). x.refusal) (loading_is ∙ (loads_as p.bin p.cfg p.label p.out it_builds p.ram p.flash room_there).answer)

    pub pressed_tables : p.loading.cartridge ≡ cartridge_with (fresh_jlp 0 0) (tables_for (entries_of p.cfg))
    pressed_tables =
        ap (λ (x : Loading). x.cartridge) (loading_is ∙ (loads_as p.bin p.cfg p.label p.out it_builds p.ram p.flash room_there).answer)

    pub pressed_plays : (xs : List Access) → answers (world_of p.loading p.flash p.stored) xs ≡ plain_answers p.bin (entries_of p.cfg) fresh xs
    pressed_plays xs = rw (loading_is, stored_is) (plays_as_it_reads p.bin p.cfg p.label p.out it_builds p.ram p.flash room_there xs)

    pub pressed_smallest : (other : List ℕ) → Alike (take p.building.length p.left) other p.ram (length p.flash) → p.building.length ≤ length other
    pressed_smallest other r =
        let s : Alike image other p.ram (length p.flash) = rw image_front at r in
        omega (
          arith,
          ap (λ (x : Building). x.length) is_built,
          smallest_as p.bin p.cfg p.label p.out it_builds p.ram p.flash room_there other s,
        )
