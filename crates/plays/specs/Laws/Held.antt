-- The RAM that is lent, beside the plain cartridge's own: each word of a line is at its place.
use Rattle.std.specs.Prelude.{ℕ, ◌<◌, ◌≤◌, ◌*◌, ◌/◌, ◌+◌, ◌%◌, Bool, false, true, cond, List, ◌≡◌, refl, get_or, length, set, eqb}
use Rattle.std.proofs.Common.{sym, ◌∙◌, ap, length-set, get_or-set_same, get_or-set_other, eqb-true, eq-eqb, ne_eqb}
use Rattle.std.proofs.Math.Option.{some}
use native.Mathlib.Omega.{arith}
use Rattle.std.proofs.lemmas.Bool.{eqb-false}
use Rattle.basics.specs.Laws.Tests.{true_is_not_false}
use Rattle.basics.specs.Options.{is_some}
use Rattle.places.specs.declared.Console.{Console}
use Rattle.places.specs.Limits.{chapter_size, lent, page_size}
use Rattle.lines.specs.declared.Entry.{Entry}
use Rattle.lines.specs.declared.Entry.TheVariants.{Rom, Paged, Ram}
use Rattle.lines.specs.declared.Width.TheVariants.{Sixteen, Eight}
use Rattle.lines.specs.declared.Line.{Line}
use Rattle.lines.specs.Lines.{line_at, is_ram}
use Rattle.lines.specs.Typed.{All}
use Rattle.lines.specs.Laws.Lines.{one_found, found, ram_plain}
use Rattle.rules.specs.Code.Shapes.{Fine}
use Rattle.layout.specs.Laws.Layout.{place_of}
use Rattle.layout.specs.Layout.{needed, written_by, page_of}
use Rattle.layout.specs.Laws.Places.{place_below, Same, place_one, paragraph_of, line_there, word_there}
use Rattle.plays.specs.Plain.{word_by, holding}
use Rattle.plays.specs.Loaded.{Loaded}

-- a line of RAM 8
abbrev pub is_narrow : Entry → Bool
is_narrow (Rom lo hi at) = false
is_narrow (Paged lo hi at y) = false
is_narrow (Ram lo hi Sixteen) = false
is_narrow (Ram lo hi Eight) = true

pub record Held (bin : List ℕ) (lines : List Line) (ram : List ℕ) (mem : Console → ℕ) : Type 0 where
  pub words : (t : ℕ) (a : Console) (l : Line) → line_at lines t a.0 ≡ some l → get_or ram (place_of lines t a).0 0 ≡ word_by bin mem l.entry a
  pub narrow : (a : Console) (l : Line) → line_at lines 0 a.0 ≡ some l → is_narrow l.entry ≡ true → mem a < 256
  pub room : needed lines ≤ lent ram

pub ram_word_lem : (e : Entry) (bin : List ℕ) (mem : Console → ℕ) (a : Console) → is_ram e ≡ true → word_by bin mem e a ≡ mem a
ram_word_lem (Rom lo hi at) bin mem a h = true_is_not_false h refl
ram_word_lem (Paged lo hi at y) bin mem a h = true_is_not_false h refl
ram_word_lem (Ram lo hi w) bin mem a h = refl

other_word : (e : Entry) (bin : List ℕ) (mem new : Console → ℕ) (b : Console) → (is_ram e ≡ true → new b ≡ mem b) →
    word_by bin mem e b ≡ word_by bin new e b
other_word (Rom lo hi at) bin mem new b f = refl
other_word (Paged lo hi at y) bin mem new b f = refl
other_word (Ram lo hi w) bin mem new b f = sym (f refl)

-- what is written at load is the plain cartridge's word at the start
start_word : (e : Entry) (bin : List ℕ) (a : Console) → written_by bin e a ≡ word_by bin (λ b. 0) e a
start_word (Rom lo hi at) bin a = refl
start_word (Paged lo hi at y) bin a = refl
start_word (Ram lo hi w) bin a = refl

module _ (bin : List ℕ) {lines : List Line} (all : All Fine lines) where
  same_place : (t u : ℕ) (a b : Console) → t ≡ u → a.0 ≡ b.0 → (place_of lines t a).0 ≡ (place_of lines u b).0
  unfolding place_of
  same_place t u a b e f = rw (e, f)

  -- a store to a RAM word disturbs nothing else
  module _ (ram : List ℕ) (mem : Console → ℕ) (held : Held bin lines ram mem) (a : Console) (v : ℕ) (l : Line)
      (there : line_at lines 0 a.0 ≡ some l) (isram : is_ram l.entry ≡ true) where
    inside : (place_of lines 0 a).0 < length ram
    inside = omega (arith, place_below all 0 a l there, held.room)

    word_after : (t : ℕ) (b : Console) (m : Line) → line_at lines t b.0 ≡ some m → (c : Bool) →
        eqb (place_of lines t b).0 (place_of lines 0 a).0 ≡ c →
        get_or (set ram (place_of lines 0 a).0 v) (place_of lines t b).0 0 ≡ word_by bin (holding mem a v) m.entry b
    word_after t b m e true h =
        let p : (place_of lines t b).0 ≡ (place_of lines 0 a).0 = eqb-true _ _ h in
        let s : Same all t 0 b a = place_one all t 0 b a m l e there p in
        let f : line_at lines 0 a.0 ≡ some m = rw (s.layers, s.addresses) at e in
        let r : l ≡ m = one_found l m there f in
        let i : is_ram m.entry ≡ true = rw (← r) isram in
        let n : holding mem a v b ≡ v = simp (eq-eqb b.0 a.0 s.addresses) in
        rw p (get_or-set_same ram (place_of lines 0 a).0 v 0 inside ∙ sym (ram_word_lem m.entry bin (holding mem a v) b i ∙ n))
    word_after t b m e false h =
        get_or-set_other ram (place_of lines 0 a).0 (place_of lines t b).0 v 0 (eqb-false _ _ h)
        ∙ held.words t b m e
        ∙ other_word m.entry bin mem (holding mem a v) b
        (λ i.
        let o : t ≡ 0 = sym (found all t b.0 m e).on ∙ ram_plain m.entry i in
        simp (ne_eqb b.0 a.0 (λ q. eqb-false (place_of lines t b).0 (place_of lines 0 a).0 h (same_place t 0 b a o q))))

    narrow_after : (is_narrow l.entry ≡ true → v < 256) → (b : Console) (m : Line) → line_at lines 0 b.0 ≡ some m →
        is_narrow m.entry ≡ true → (c : Bool) → eqb b.0 a.0 ≡ c → cond c v (mem b) < 256
    narrow_after f b m e k true h =
        let q : b.0 ≡ a.0 = eqb-true b.0 a.0 h in
        let r : l ≡ m = one_found l m there (rw q at e) in
        f (rw r k)
    narrow_after f b m e k false h = held.narrow b m e k

    pub held_store : (is_narrow l.entry ≡ true → v < 256) → Held bin lines (set ram (place_of lines 0 a).0 v) (holding mem a v)
    held_store f =
        record {
          words = λ t b m e. word_after t b m e (eqb (place_of lines t b).0 (place_of lines 0 a).0) refl;
          narrow = λ b m e k. narrow_after f b m e k (eqb b.0 a.0) refl;
          room = rw length-set held.room;
        }

  -- at the start each word of a line is where the layout puts it
  pub loaded_word : (ram : List ℕ) → Loaded bin lines ram → (t : ℕ) (a : Console) (l : Line) → line_at lines t a.0 ≡ some l →
      get_or ram (place_of lines t a).0 0 ≡ written_by bin l.entry a
  unfolding place_of
  loaded_word ram h t a l e =
      let q : page_size * page_of lines (a.0 / chapter_size) t + a.0 % chapter_size ≡ 256 * paragraph_of all t a.0 + a.0 % 256 = omega arith in
      rw q
      (h.words (paragraph_of all t a.0) (a.0 % 256) (ap is_some (line_there all t a.0 l e)) (omega arith)
      ∙ word_there all t a.0 l e bin)

  pub held_start : (ram : List ℕ) → Loaded bin lines ram → Held bin lines ram (λ a. 0)
  held_start ram h =
      record {
        words = λ t a l e. loaded_word ram h t a l e ∙ start_word l.entry bin a;
        narrow = λ a l e k. omega arith;
        room = h.room;
      }
