-- What the entries of a CFG are: their numbers fit, their lines rise, and an acceptance holds them all.
use Rattle.std.specs.Prelude.{ℕ, ◌≤◌, ◌<◌, suc, ◌+◌, List, [], ◌∷◌, ◌++◌, refl, ◌≡◌, length, take, get_or}
use Rattle.std.proofs.Common.{◌∙◌, arith, le_refl, length-take-le, ext_get_or, get_or-take, ltb-false}
use Rattle.std.proofs.Math.ListN.{get_or-eq_default}
use Rattle.std.proofs.lemmas.Bool.{eqb-false}
use Rattle.basics.specs.Laws.Tables.{get_d_table, length_table}
use Rattle.basics.specs.Rows.{Silent, also, none}
use Rattle.places.specs.Limits.{cfg_limit, line_limit}
use Rattle.text.specs.Lines.{lines_of}
use Rattle.text.specs.Laws.Lines.{lines_most}
use Rattle.lines.specs.declared.Line.{Line}
use Rattle.lines.specs.declared.Entry.{Entry}
use Rattle.lines.specs.declared.Entry.TheVariants.{Rom, Paged, Ram}
use Rattle.lines.specs.Typed.{All, nil, cons, Typed}
use Rattle.grammar.specs.declared.Section.{Section}
use Rattle.grammar.specs.declared.Says.{Says}
use Rattle.grammar.specs.declared.Says.TheVariants.{Blank, Heading, Outside, Claims}
use Rattle.grammar.specs.declared.Section.TheVariants.{Nowhere}
use Rattle.grammar.specs.Grammar.{line_says}
use Rattle.grammar.specs.Laws.Grammar.{Fitting, claims_fit}
use Rattle.cfg.specs.File.{Reading}
use Rattle.cfg.specs.File.{entries_from, says_from, section_after, claimed, entries_of, blank_line, shown, refusal_rows, accepted, reading_of}
use Rattle.cfg.specs.Laws.Refusals.{Exactly, exactly}

-- the numbers of the lines rise from n on, and stay below m
pub data Rising (m : ℕ) : ℕ → List Line → Type 0 where
  end : {n : ℕ} → Rising m n []
  next : {n : ℕ} {l : Line} {ls : List Line} → n ≤ l.source → l.source < m → Rising m (suc l.source) ls → Rising m n (l ∷ ls)

wider : (m n k : ℕ) (ls : List Line) → k ≤ n → Rising m n ls → Rising m k ls
wider m n k [] h end = end
wider m n k (l ∷ ls) h (next f b r) = let g : k ≤ l.source = omega arith in next g b r

rising_says : (s : Section) (ls : List (List ℕ)) (n m : ℕ) → n + length ls ≤ m → Rising m n (entries_from n (says_from s ls))
unfolding says_from entries_from
rising_says s [] n m h = end
rising_says s (l ∷ ls) n m h = go (line_says s l) (rising_says (section_after (line_says s l) s) ls (n + 1) m (omega arith))
  where
    go : (x : Says) → Rising m (n + 1) (entries_from (n + 1) (says_from (section_after x s) ls))
        → Rising m n (claimed n x ++ entries_from (n + 1) (says_from (section_after x s) ls))
    go Blank r = wider m (n + 1) n _ (omega arith) r
    go (Heading t) r = wider m (n + 1) n _ (omega arith) r
    go Outside r = wider m (n + 1) n _ (omega arith) r
    go (Claims e) r = let b : n < m = omega arith in next {l = record { source = n; entry = e }} (le_refl n) b (wider m (n + 1) (suc n) _ (omega arith) r)

-- each entry's numbers fit
fitting_says : (s : Section) (ls : List (List ℕ)) (n : ℕ) → All Fitting (entries_from n (says_from s ls))
unfolding says_from entries_from
fitting_says s [] n = nil
fitting_says s (l ∷ ls) n = go (line_says s l) refl (fitting_says (section_after (line_says s l) s) ls (n + 1))
  where
    go : (x : Says) → line_says s l ≡ x → All Fitting (entries_from (n + 1) (says_from (section_after x s) ls))
        → All Fitting (claimed n x ++ entries_from (n + 1) (says_from (section_after x s) ls))
    go Blank e r = r
    go (Heading t) e r = r
    go Outside e r = r
    go (Claims x) e r = cons (claims_fit s l x e) r

pub entries_rise : (cfg : List ℕ) (m : ℕ) → length cfg < m → Rising m 1 (entries_of cfg)
entries_rise cfg m h = rising_says Nowhere (lines_of cfg) 1 m (omega (arith, lines_most cfg))

pub entries_fit : (cfg : List ℕ) → All Fitting (entries_of cfg)
entries_fit cfg = fitting_says Nowhere (lines_of cfg) 1

fitting_typed : (e : Entry) → Fitting e → Typed e
fitting_typed (Rom lo hi at) f = f.2
fitting_typed (Paged lo hi at y) f = f.2
fitting_typed (Ram lo hi w) f = f

pub all_typed : {ls : List Line} → All Fitting ls → All Typed ls
all_typed nil = nil
all_typed (cons {l = l} f r) = cons (fitting_typed l.entry f) (all_typed r)

-- what an acceptance holds: every entry in its place, from 1 to 128 of them, and blank lines behind
pub record Holds (cfg : List ℕ) (r : Reading) : Type 0 where
  pub short : length cfg ≤ cfg_limit
  pub counted : r.count ≡ length (entries_of cfg)
  pub one : 1 ≤ r.count
  pub most : r.count ≤ line_limit
  pub lines : take r.count r.lines ≡ entries_of cfg
  pub at : (i : ℕ) → i < line_limit → get_or r.lines i blank_line ≡ get_or (entries_of cfg) i blank_line
  pub blank : (i : ℕ) → r.count ≤ i → i < line_limit → get_or r.lines i blank_line ≡ blank_line
  pub fitting : All Fitting (entries_of cfg)
  pub rising : Rising (cfg_limit + 1) 1 (entries_of cfg)

shown_at_lem : (es : List Line) (i : ℕ) → i < line_limit → get_or (shown es) i blank_line ≡ get_or es i blank_line
shown_at_lem es i h = get_d_table blank_line line_limit (λ j. get_or es j blank_line) i h

shown_take : (es : List Line) → length es ≤ line_limit → take (length es) (shown es) ≡ es
shown_take es h =
    let long : length (shown es) ≡ line_limit = length_table line_limit (λ j. get_or es j blank_line) in
    let cut : length (take (length es) (shown es)) ≡ length es = length-take-le (length es) (shown es) (omega arith) in
    ext_get_or blank_line (take (length es) (shown es)) es cut
    (λ i l. get_or-take (length es) (shown es) i blank_line (omega arith) ∙ shown_at_lem es i (omega arith))

silent_holds : (cfg : List ℕ) → Silent (refusal_rows cfg) → Holds cfg (accepted (entries_of cfg))
silent_holds cfg (also a (also b (also c (also d (also e none))))) =
    let short : length cfg ≤ cfg_limit = ltb-false cfg_limit (length cfg) a in
    let one : length (entries_of cfg) ≡ 0 → ⊥ = eqb-false (length (entries_of cfg)) 0 d in
    let most : length (entries_of cfg) ≤ line_limit = ltb-false line_limit (length (entries_of cfg)) e in
    record {
      short = short;
      counted = refl;
      one = omega arith;
      most = most;
      lines = shown_take (entries_of cfg) most;
      at = shown_at_lem (entries_of cfg);
      blank = λ i k l. shown_at_lem (entries_of cfg) i l ∙ get_or-eq_default (entries_of cfg) blank_line {n = i} k;
      fitting = entries_fit cfg;
      rising = entries_rise cfg (cfg_limit + 1) (omega arith);
    }

pub accepted_holds : (cfg : List ℕ) → (reading_of cfg).refusal.number ≡ 0 → Holds cfg (reading_of cfg)
accepted_holds cfg e =
    let x : Exactly cfg (reading_of cfg) = exactly cfg in
    let s : Silent (refusal_rows cfg) = x.accepts.0 e in
    rw (x.entries s) (silent_holds cfg s)
