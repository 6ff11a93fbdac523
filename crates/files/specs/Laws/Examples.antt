-- Worked ones: names, answers of a read, and verdicts.
use Rattle.std.specs.Prelude.{false, [], ◌∷◌, ◌≡◌, refl, ℕ, Ok, Err, Some, None}
use Rattle.basics.specs.Counts.{all}
use Rattle.basics.specs.Lists.{joined}
use Rattle.files.specs.declared.errors.Errno.{Errno}
use Rattle.files.specs.declared.errors.Why.TheVariants.{Look, Link, Kind, Input}
use Rattle.files.specs.declared.sight.Seen.{Seen}
use Rattle.files.specs.Names.{behind, folder_of, is_name, part_of}
use Rattle.files.specs.Reads.{meaning_of}
use Rattle.files.specs.Rule.{is_input, verdict_of}

-- "out", "a/b/out", "/"
pub no_folder : folder_of (111 ∷ 117 ∷ 116 ∷ []) ≡ 0
unfolding behind
no_folder = refl

pub two_folders : folder_of (97 ∷ 47 ∷ 98 ∷ 47 ∷ 111 ∷ []) ≡ 4
unfolding behind
two_folders = refl

pub no_zero : is_name (111 ∷ 0 ∷ []) ≡ false
unfolding is_name all
no_zero = refl

-- "a/o" with the tag 00 2a ff: "a/.luigi-002aff"
pub a_part : part_of (97 ∷ 47 ∷ 111 ∷ []) (0 ∷ 42 ∷ 255 ∷ []) ≡ 97 ∷ 47 ∷ 46 ∷ 108 ∷ 117 ∷ 105 ∷ 103 ∷ 105 ∷ 45 ∷ 48 ∷ 48 ∷ 50 ∷ 97 ∷ 102 ∷ 102 ∷ []
unfolding part_of behind joined
a_part = refl

abbrev errno : ℕ → Errno
errno number = record { 0 = number }

-- an error, the end, and some bytes
pub an_error : meaning_of (Err (errno 5)) 4096 ≡ Err (errno 5)
an_error = refl

pub the_end : meaning_of (Ok 0) 4096 ≡ Ok None
the_end = refl

pub some_bytes : meaning_of (Ok 512) 4096 ≡ Ok (Some 512)
some_bytes = refl

abbrev seen : ℕ → ℕ → Seen
seen node mode = record { device = 1; node = node; mode = mode; owner = 0; group = 0 }

-- a name that nothing has; a file (0o100644), the same one read; a link (0o120777); a FIFO (0o010644); a name that cannot be looked up
pub of_nothing : verdict_of (Err (errno 2)) [] ≡ Ok tt
unfolding verdict_of is_input
of_nothing = refl

pub of_a_file : verdict_of (Ok (seen 7 33188)) (seen 8 33188 ∷ []) ≡ Ok tt
unfolding verdict_of is_input
of_a_file = refl

pub of_an_input : verdict_of (Ok (seen 7 33188)) (seen 8 33188 ∷ seen 7 33188 ∷ []) ≡ Err Input
unfolding verdict_of is_input
of_an_input = refl

pub of_a_link : verdict_of (Ok (seen 7 41471)) [] ≡ Err Link
unfolding verdict_of is_input
of_a_link = refl

pub of_a_fifo : verdict_of (Ok (seen 7 4516)) [] ≡ Err Kind
unfolding verdict_of is_input
of_a_fifo = refl

pub of_the_forbidden : verdict_of (Err (errno 13)) [] ≡ Err Look
unfolding verdict_of is_input
of_the_forbidden = refl
