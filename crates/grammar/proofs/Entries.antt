-- What a line says, from words and numbers that the code has read: one law for each way out.
use Prim.Native.Nat.{ℕ}
use Rattle.std.specs.Prelude.{Option, Some, None}
use mathlib.Core.Path.{◌≡◌, refl, sym, ◌∙◌}
use mathlib.Core.Bool.{Bool, true, false, cond}
use mathlib.Core.Logic.{◌⊎◌, ⊎_elim}
use mathlib.Core.List.{List}
use lib.Dec.{eqb}
use lib.ListN.{length}
use borrow.Author.Tests.{ne_eqb}
use Rattle.std.specs.Option.{option_map}
use Rattle.places.specs.declared.BinWord.{BinWord}
use Rattle.places.specs.declared.Console.{Console}
use Rattle.places.specs.declared.Page.{Page}
use Rattle.places.specs.Places.{bin_word, console, page}
use Rattle.text.specs.Spelling.{is}
use Rattle.lines.specs.declared.Width.{Width}
use Rattle.lines.specs.declared.Entry.{Entry}
use Rattle.lines.specs.declared.Entry.TheVariants.{Rom, Paged}
use Rattle.grammar.specs.declared.Says.{Says}
use Rattle.grammar.specs.declared.Says.TheVariants.{Blank, Outside, Claims}
use Rattle.grammar.specs.declared.Section.{Section}
use Rattle.grammar.specs.Words.{word}
use Rattle.grammar.specs.Grammar.{◌>>=◌, rom, paged, offset, address, one_digit, bits, after, width_of, rom_line, paged_line, ram_line, mapping_line, memattr_line, heading_line, entry_line, words_say}
use Rattle.grammar.specs.Code.Steps.{claimed, where_true, go_on, mapping_steps, memattr_steps}

-- a step that goes on, and one that does not
module _ {A : Type 0} (x v : Option A) (k : A → Says) (so : v ≡ x) where
  pub on_some : (a : A) (r : Says) → v ≡ Some a → r ≡ k a → r ≡ go_on x k
  unfolding go_on
  on_some a r e f = rw (← so, e) f

  pub on_none : (r : Option Entry) → v ≡ None → r ≡ None → claimed r ≡ go_on x k
  unfolding go_on
  on_none r e f = rw (← so, e, f)

-- the definition's lines are the code's steps
front_steps : (x : Option ℕ) (t : Bool) (y : Option ℕ) (u : Bool) (z : Option ℕ) (k : ℕ → ℕ → ℕ → Says) (h : BinWord → BinWord → Console → Says)
    → ((a b c : ℕ) → k a b c ≡ h (bin_word a) (bin_word b) (console c))
    → ◌>>=◌ x (λ lo. ◌>>=◌ (after t y) (λ hi. ◌>>=◌ (after u z) (λ at. k lo hi at)))
    ≡ go_on (option_map bin_word x) (λ lo. go_on (where_true t) (λ _. go_on (option_map bin_word y) (λ hi. go_on (where_true u) (λ _. go_on (option_map console z) (λ at. h lo hi at)))))
unfolding ◌>>=◌ go_on
front_steps None t y u z k h e = refl
front_steps (Some a) false y u z k h e = refl
front_steps (Some a) true None u z k h e = refl
front_steps (Some a) true (Some b) false z k h e = refl
front_steps (Some a) true (Some b) true None k h e = refl
front_steps (Some a) true (Some b) true (Some c) k h e = e a b c

page_steps : (t : Bool) (y : Option ℕ) (k : ℕ → Says) (h : Page → Says) → ((a : ℕ) → k a ≡ h (page a))
    → ◌>>=◌ (after t y) k ≡ go_on (where_true t) (λ _. go_on (option_map page y) h)
unfolding ◌>>=◌ go_on
page_steps false y k h e = refl
page_steps true None k h e = refl
page_steps true (Some a) k h e = e a

width_steps : (x : Option ℕ) (t : Bool) (y : Option ℕ) (u v : Bool) (z : Option ℕ) (k : ℕ → ℕ → ℕ → Says) (h : Console → Console → Width → Says)
    → ((a b c : ℕ) → k a b c ≡ h (console a) (console b) (width_of c))
    → ◌>>=◌ x (λ lo. ◌>>=◌ (after t y) (λ hi. ◌>>=◌ (after u (after v z)) (λ at. k lo hi at)))
    ≡ go_on (option_map console x) (λ lo. go_on (where_true t) (λ _. go_on (option_map console y) (λ hi. go_on (where_true u) (λ _. go_on (where_true v) (λ _. go_on (option_map width_of z) (λ at. h lo hi at))))))
unfolding ◌>>=◌ go_on
width_steps None t y u v z k h e = refl
width_steps (Some a) false y u v z k h e = refl
width_steps (Some a) true None u v z k h e = refl
width_steps (Some a) true (Some b) false v z k h e = refl
width_steps (Some a) true (Some b) true false z k h e = refl
width_steps (Some a) true (Some b) true true None k h e = refl
width_steps (Some a) true (Some b) true true (Some c) k h e = e a b c

module _ (ws : List (List ℕ)) (n : ℕ) (so : n ≡ length ws) where
  five_is : n ≡ 5 → mapping_steps n ws ≡ rom_line ws
  unfolding mapping_steps rom_line
  five_is h =
      sym (front_steps (offset (word ws 0)) (is "-" (word ws 1)) (offset (word ws 2)) (is "=" (word ws 3)) (address (word ws 4))
      (λ a b c. Claims (rom a b c)) (λ lo hi at. cond (eqb n 5) (Claims (Rom lo hi at)) (go_on (where_true (is "PAGE" (word ws 5))) (λ _. go_on (option_map page (one_digit (word ws 6))) (λ y. Claims (Paged lo hi at y)))))
      (λ a b c. rw h refl))

  seven_is : (n ≡ 5 → ⊥) → mapping_steps n ws ≡ paged_line ws
  unfolding mapping_steps paged_line
  seven_is h =
      sym (front_steps (offset (word ws 0)) (is "-" (word ws 1)) (offset (word ws 2)) (is "=" (word ws 3)) (address (word ws 4))
      (λ a b c. ◌>>=◌ (after (is "PAGE" (word ws 5)) (one_digit (word ws 6))) (λ y. Claims (paged a b c y)))
      (λ lo hi at. cond (eqb n 5) (Claims (Rom lo hi at)) (go_on (where_true (is "PAGE" (word ws 5))) (λ _. go_on (option_map page (one_digit (word ws 6))) (λ y. Claims (Paged lo hi at y)))))
      (λ a b c.
      page_steps (is "PAGE" (word ws 5)) (one_digit (word ws 6)) (λ y. Claims (paged a b c y)) (λ y. Claims (Paged (bin_word a) (bin_word b) (console c) y)) (λ y. refl)
      ∙ simp (ne_eqb n 5 h)))

  pub mapping_of : (r : Says) → ((n ≡ 5 → ⊥) × (n ≡ 7)) ⊎ (n ≡ 5) → r ≡ mapping_steps n ws → r ≡ mapping_line ws
  unfolding mapping_line
  mapping_of r h e =
      e ∙ ⊎_elim (λ p. seven_is p.0 ∙ rw (← so, ne_eqb n 5 p.0, p.1) refl) (λ p. five_is p ∙ rw (← so, p) refl) h

  pub mapping_not : (n ≡ 5 → ⊥) → (n ≡ 7 → ⊥) → Outside ≡ mapping_line ws
  unfolding mapping_line
  mapping_not h k = rw (← so, ne_eqb n 5 h, ne_eqb n 7 k)

  pub memattr_of : (r : Says) → n ≡ 6 → r ≡ memattr_steps ws → r ≡ memattr_line ws
  unfolding memattr_steps memattr_line ram_line
  memattr_of r h e =
      e ∙ rw (← so, h)
      (sym (width_steps (address (word ws 0)) (is "-" (word ws 1)) (address (word ws 2)) (is "=" (word ws 3)) (is "RAM" (word ws 4)) (bits (word ws 5)) _ _ (λ a b c. refl)))

  pub memattr_not : (n ≡ 6 → ⊥) → Outside ≡ memattr_line ws
  unfolding memattr_line
  memattr_not h = rw (← so, ne_eqb n 6 h)

-- an entry's words tell whether it has a page
module _ (n : ℕ) (x y r : Says) where
  pub with_five : n ≡ 5 → r ≡ x → r ≡ cond (eqb n 5) x y
  with_five h e = rw h e

  pub with_seven : (n ≡ 5 → ⊥) → r ≡ y → r ≡ cond (eqb n 5) x y
  with_seven h e = rw (ne_eqb n 5 h) e

-- how many words there are tells what a line may be
module _ (ws : List (List ℕ)) (n : ℕ) (so : n ≡ length ws) where
  module _ (sec : Section) where
    pub no_words : n ≡ 0 → Blank ≡ words_say sec ws
    unfolding words_say
    no_words h = rw (← so, h)

    pub one_word : (r : Says) (w : List ℕ) → n ≡ 1 → w ≡ word ws 0 → r ≡ heading_line w → r ≡ words_say sec ws
    unfolding words_say
    one_word r w h f e = rw (← so, h, ← f) e

    pub more_words : (n ≡ 0 → ⊥) → (n ≡ 1 → ⊥) → (r : Says) → r ≡ entry_line sec ws → r ≡ words_say sec ws
    unfolding words_say
    more_words h k r e = rw (← so, ne_eqb n 0 h, ne_eqb n 1 k) e
