-- What the private functions of the line reader promise: where words stand in a line, and that a number fits its type.
use Rattle.std.specs.Prelude.{Option, Some, None, cond, eqb, ℕ, ◌+◌, ◌≤◌, ◌<◌, List, [], ◌≡◌, Bool, true, false, not, length, drop}
use Rattle.std.specs.Option.{option_map}
use Rattle.basics.specs.Lists.{part}
use Rattle.places.specs.Places.{bin_word, console, page}
use Rattle.text.specs.Bytes.{until}
use Rattle.text.specs.Spelling.{is}
use Rattle.lines.specs.declared.Entry.{Entry}
use Rattle.lines.specs.declared.Entry.TheVariants.{Rom, Paged, Ram}
use Rattle.grammar.specs.declared.Kind.{Kind}
use Rattle.grammar.specs.declared.Kind.TheVariants.{Blank, Sign, Comment, Letter}
use Rattle.grammar.specs.declared.Word.{Word}
use Rattle.grammar.specs.declared.Says.{Says}
use Rattle.grammar.specs.declared.Says.TheVariants.{Claims, Outside}
use Rattle.grammar.specs.Words.{words_of, word, kind_of, push}
use Rattle.grammar.specs.Grammar.{offset, address, one_digit, bits, width_of}

abbrev pub is_blank : Kind → Bool
is_blank Blank = true
is_blank Sign = false
is_blank Comment = false
is_blank Letter = false

abbrev pub is_letter : Kind → Bool
is_letter Blank = false
is_letter Sign = false
is_letter Comment = false
is_letter Letter = true

-- two kinds are the same
abbrev pub same_kind : Kind → Kind → Bool
same_kind Blank k = is_blank k
same_kind Letter k = is_letter k
same_kind Sign Sign = true
same_kind Sign k = false
same_kind Comment Comment = true
same_kind Comment k = false

-- where the bytes of a kind end that stand at a place
abbrev pub ends_run : (Kind → Bool) → ℕ → ℕ → Bool
ends_run f b next = not (f (kind_of b))

abbrev pub run_end : (Kind → Bool) → List ℕ → ℕ → ℕ
run_end f s at = at + until (ends_run f) (drop at s)

-- r is the first word of what stands from `at` on, before the words that stand from its end on; where r is no word, there is none
pub record NextWord (s : List ℕ) (at : ℕ) (r : Word) : Type 0 where
  pub from : at ≤ r.start
  pub order : r.start ≤ r.end
  pub within : r.end ≤ length s
  pub words : words_of (drop at s) ≡ push (part s r.start r.end) (words_of (drop r.end s))
  pub last : r.start ≡ r.end → words_of (drop r.end s) ≡ []

-- a number, if it is one, is below m
abbrev pub Below : ℕ → Option ℕ → Type 0
Below m x = (n : ℕ) → x ≡ Some n → n < m

-- what a line says that is read step by step: the entry where each step goes on, else the line is outside the grammar
abbrev pub claimed : Option Entry → Says
claimed None = Outside
claimed (Some e) = Claims e

abbrev pub where_true : Bool → Option (Unit {0})
where_true true = Some tt
where_true false = None

unfoldable pub go_on : {A : Type 0} → Option A → (A → Says) → Says
go_on None k = Outside
go_on (Some a) k = k a

-- the steps that read an entry of [mapping], of n words, five or seven; and those that read one of [memattr]
unfoldable pub mapping_steps : ℕ → List (List ℕ) → Says
mapping_steps n ws =
    go_on (option_map bin_word (offset (word ws 0))) (λ lo.
    go_on (where_true (is "-" (word ws 1))) (λ _.
    go_on (option_map bin_word (offset (word ws 2))) (λ hi.
    go_on (where_true (is "=" (word ws 3))) (λ _.
    go_on (option_map console (address (word ws 4))) (λ at.
    cond (eqb n 5) (Claims (Rom lo hi at))
    (go_on (where_true (is "PAGE" (word ws 5))) (λ _.
    go_on (option_map page (one_digit (word ws 6))) (λ y. Claims (Paged lo hi at y)))))))))

unfoldable pub memattr_steps : List (List ℕ) → Says
memattr_steps ws =
    go_on (option_map console (address (word ws 0))) (λ lo.
    go_on (where_true (is "-" (word ws 1))) (λ _.
    go_on (option_map console (address (word ws 2))) (λ hi.
    go_on (where_true (is "=" (word ws 3))) (λ _.
    go_on (where_true (is "RAM" (word ws 4))) (λ _.
    go_on (option_map width_of (bits (word ws 5))) (λ w. Claims (Ram lo hi w)))))))
