-- Lists whose elements are bytes.
use Rattle.std.specs.Prelude.{ℕ, ◌<◌, ◌+◌, List, get_or, drop}
use Rattle.std.proofs.Common.{get_or-drop}

-- each element is a byte
abbrev pub Bytes : List ℕ → Type 0
Bytes s = (i : ℕ) → get_or s i 0 < 256

pub bytes_drop : (n : ℕ) (s : List ℕ) → Bytes s → Bytes (drop n s)
bytes_drop n s h i = rw get_or-drop (h (n + i))
