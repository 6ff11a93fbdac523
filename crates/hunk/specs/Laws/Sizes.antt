-- How many bytes a data block has, and a payload: those of its address and of its data blocks, at most three for each word.
use Rattle.std.specs.Prelude.{ℕ, ◌+◌, ◌*◌, ◌≤◌, ◌≡◌, List, [], ◌∷◌, length}
use Rattle.std.proofs.Common.{ap, arith, length-append}
use Rattle.basics.specs.Lists.{joined, Each, none, also}
use Rattle.hunk.specs.declared.Form.TheVariants.{Words}
use Rattle.hunk.specs.Forms.{size_for}
use Rattle.hunk.specs.Smallest.{form_for, data_of}
use Rattle.hunk.specs.Cuts.{cuts_of}
use Rattle.hunk.specs.Hunk.{Hunk, hunk_payload, payload_size}
use Rattle.hunk.specs.Laws.Forms.{length_in}
use Rattle.hunk.specs.Laws.Carried.{Carried, carried_named, Preferred, form_smallest, words_carried}
use Rattle.hunk.specs.Laws.Cuts.{Piece, cuts_each, cuts_all}

-- what a data block is cut to is carried by its form, in no more bytes than 16 bits a word would take
pub piece_smallest : (words : List ℕ) → Piece words → Preferred words Words
piece_smallest words p = form_smallest words Words (words_carried words p.some p.most)

pub length_data : (words : List ℕ) → Piece words → length (data_of words) ≡ size_for (form_for words) (length words)
unfolding data_of
length_data words p =
    let c : Carried (form_for words) words = (piece_smallest words p).carried in
    length_in (form_for words) words p.some (carried_named (form_for words) words c)

pub data_most : (words : List ℕ) → Piece words → length (data_of words) ≤ size_for Words (length words)
data_most words p = omega (arith, length_data words p, (piece_smallest words p).short)

pub length_payload : (h : Hunk) → length (hunk_payload h) ≡ payload_size h.words
unfolding hunk_payload payload_size
length_payload h = omega arith

-- a data block has at most three bytes for each of its words
pieces_most : (cs : List (List ℕ)) → Each Piece cs → length (joined data_of cs) ≤ 3 * length (joined (λ (c : List ℕ). c) cs)
unfolding joined
pieces_most [] none = omega arith
pieces_most (c ∷ cs) (also p ps) =
    omega (
      arith,
      p.some,
      data_most c p,
      length-append (data_of c) (joined data_of cs),
      length-append c (joined (λ (c : List ℕ). c) cs),
      pieces_most cs ps,
    )

pub cuts_most : (words : List ℕ) → length (joined data_of (cuts_of words)) ≤ 3 * length words
cuts_most words = omega (arith, pieces_most (cuts_of words) (cuts_each words), ap length (cuts_all words))

pub size_most : (words : List ℕ) → payload_size words ≤ 3 + 3 * length words
unfolding payload_size
size_most words = omega (arith, cuts_most words)
