-- The round trip: whatever the writer accepts, loaded into any RAM of the same length, with a flash that 13 lets through, gives the same
-- tables and the marked words, and every other word is kept (01, demand 2; 02, W-209).
use Rattle.std.specs.Prelude.{ℕ, ◌+◌, ◌*◌, ◌/◌, ◌%◌, ◌≤◌, min, ◌≡◌, Bool, false, length, get_or, take, drop}
use Rattle.std.proofs.Common.{sym, subst, ◌∙◌}
use Rattle.std.proofs.Math.Path.{ap}
use mathlib.Core.List.{List, []}
use native.Mathlib.Omega.{arith}
use Rattle.std.proofs.Math.Seq.{take-append_seam}
use Rattle.basics.specs.Counts.{count}
use Rattle.basics.specs.Lists.{Each, none}
use Rattle.basics.specs.Laws.Tables.{length_table, get_d_table}
use Rattle.places.specs.Limits.{image_limit, lent, lent_limit, locutus_paragraphs, paragraph_size}
use Rattle.basics.specs.Rows.{Silent}
use Rattle.tables.specs.Tables.{Tables, mislent, tables_rows}
use Rattle.tables.specs.Laws.Refusals.{lent_alike}
use Rattle.hunk.specs.Hunk.{Hunk}
use Rattle.load.specs.Load.{Loading}
use Rattle.load.specs.Load.{loading_of, load_ram_of}
use Rattle.save.specs.Writing.{Writing}
use Rattle.save.specs.Chosen.{chosen, image_with, image_for, Sized}
use Rattle.save.specs.Writing.{Content, is_marked, paragraph_of, image_by, writing_of, written_of}
use Rattle.save.specs.Laws.Chosen.{Lies, chosen_each, length_chosen}
use Rattle.save.proofs.Theorems.Refusals.{Accepted, accepted_so}
use Rattle.trip.specs.Trip.{answer_of, Overlaid, ComesBack}
use Rattle.trip.specs.Laws.LoadImage.{Other, image_answers, image_lays}
use Rattle.trip.specs.Laws.Overlay.{EachLies, laid_back}

-- an image of chosen paragraphs behind so many other blocks, as writer and builder make it: what its load answers, and the RAM after it
pub record LoadsChosen (flags : List ℕ) (t : Tables) (others : ℕ) (on : ℕ → Bool) (words : ℕ → List ℕ) (s ram : List ℕ) (f : ℕ) : Type 0 where
  pub answer : loading_of s (lent ram) f ≡ answer_of flags t (1 + (others + count on locutus_paragraphs)) (paragraph_size * count on locutus_paragraphs)
  pub back : Overlaid on words ram (load_ram_of s ram f)

pub load_chosen :
    (flags uid : List ℕ) (t : Tables) (others : List (List ℕ)) (on : ℕ → Bool) (words : ℕ → List ℕ) (ram : List ℕ) (f : ℕ) → Sized flags uid t
    → length (image_with flags uid t others (chosen locutus_paragraphs on words)) ≤ image_limit → Silent (tables_rows flags t.flips (lent ram) f)
    → Each (Other (lent ram)) others → EachLies (lent ram) locutus_paragraphs on words
    → LoadsChosen flags t (length others) on words (image_with flags uid t others (chosen locutus_paragraphs on words)) ram f
load_chosen flags uid t others on words ram f z short supported o c =
    let hs : List Hunk = chosen locutus_paragraphs on words in
    let w : Each (Lies (lent ram)) hs = chosen_each on words locutus_paragraphs c in
    let few : lent ram ≤ length ram = omega arith in
    record {
      answer = image_answers flags uid t others hs z short ram f supported o w ∙ ap (λ (n : ℕ). answer_of flags t (1 + (length others + n)) (paragraph_size * n)) (length_chosen on words locutus_paragraphs);
      back = subst (λ (x : List ℕ). Overlaid on words ram x) (sym (image_lays flags uid t others hs z short ram f supported o w)) (laid_back on words ram (lent ram) few c);
    }

-- word k of a RAM, by its paragraph
paragraph_word : (ram : List ℕ) (k : ℕ) → get_or (paragraph_of ram (k / 256)) (k % 256) 0 ≡ get_or ram k 0
paragraph_word ram k =
    let e : 256 * (k / 256) + k % 256 ≡ k = omega arith in
    get_d_table 0 256 (λ i. get_or ram (256 * (k / 256) + i) 0) (k % 256) (omega arith) ∙ ap (λ (j : ℕ). get_or ram j 0) e

-- what the writer accepts comes back
module _ (out : List ℕ) (c : Content) (z : Sized c.flags c.uid c.tables) (e : (writing_of out c).refusal.number ≡ 0) where
  pub accepted : Accepted out c
  accepted = (accepted_so out c).0 e

  -- the marked paragraphs lie in any RAM of the same length
  pub marked_lie : (to : List ℕ) → length to ≡ length c.ram → EachLies (lent to) locutus_paragraphs (is_marked c.marks) (paragraph_of c.ram)
  marked_lie to same q h o =
      let m : lent to ≡ lent c.ram = ap (λ (n : ℕ). min n lent_limit) same in
      record { whole = length_table paragraph_size _; within = rw m (accepted.inside q h o) }

  -- and nothing is refused there of its flags and tables, with a flash that is lent right
  pub supported_in : (to : List ℕ) → length to ≡ length c.ram → (f : ℕ) → mislent c.flags f ≡ false → Silent (tables_rows c.flags c.tables.flips (lent to) f)
  supported_in to same f right =
      let m : lent to ≡ lent c.ram = ap (λ (n : ℕ). min n lent_limit) same in
      rw (m, lent_alike c.flags c.tables.flips (lent c.ram) f right) accepted.supported

  pub round_trip : (to : List ℕ) → length to ≡ length c.ram → (f : ℕ) → mislent c.flags f ≡ false
      → ComesBack c to (loading_of (image_by c) (lent to) f) (load_ram_of (image_by c) to f)
  unfolding image_for
  round_trip to same f right =
      let r : LoadsChosen c.flags c.tables 0 (is_marked c.marks) (paragraph_of c.ram) (image_by c) to f =
      load_chosen c.flags c.uid c.tables [] (is_marked c.marks) (paragraph_of c.ram) to f z accepted.short (supported_in to same f right)
      none (marked_lie to same) in
      let n : 1 + (0 + count (is_marked c.marks) locutus_paragraphs) ≡ 1 + count (is_marked c.marks) locutus_paragraphs = omega arith in
      record {
        answer = r.answer ∙ ap (λ (k : ℕ). answer_of c.flags c.tables k (paragraph_size * count (is_marked c.marks) locutus_paragraphs)) n;
        same = r.back.same;
        marked_words = λ k h o. r.back.given k h o ∙ paragraph_word c.ram k;
        other_words = λ k h. r.back.kept k h;
      }

  -- what `save::write` leaves at the front of its buffer, as long as it answers, is the image
  pub image_front : (w : Writing) (after : List ℕ) → w ≡ writing_of out c → after ≡ written_of out c → take w.length after ≡ image_by c
  image_front w after ew ea =
      let image : List ℕ = image_by c in
      let k : w.length ≡ length image = ap (λ (x : Writing). x.length) (ew ∙ accepted.answer) in
      ap (λ (j : ℕ). take j after) k ∙ ap (take (length image)) (ea ∙ accepted.leaves) ∙ take-append_seam image (drop (length image) out)

  -- the same of the functions: `save::write` leaves the image at the front of its buffer, as long as it answers, and `load::load` of that part answers so
  pub written_loads :
      (w : Writing) (after : List ℕ) → w ≡ writing_of out c → after ≡ written_of out c → (to : List ℕ) → length to ≡ length c.ram
      → (f : ℕ) → mislent c.flags f ≡ false
      → (l : Loading) (next : List ℕ) → l ≡ loading_of (take w.length after) (lent to) f → next ≡ load_ram_of (take w.length after) to f → ComesBack c to l next
  written_loads w after ew ea to same f right l next el en =
      rw (el, en, image_front w after ew ea) (round_trip to same f right)
