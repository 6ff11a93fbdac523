-- The running pass: what is left of the run goes on from the world that the lines so far have left, and their answers stand in the buffer.
use Prim.Native.Nat.{ℕ, suc, ◌+◌, ◌-◌, ◌<◌, ◌≤◌}
use mathlib.Core.List.{List, [], ◌∷◌, ◌++◌, map, append_assoc, append-nil}
use mathlib.Core.Option.{some}
use mathlib.Core.Path.{◌≡◌, refl, sym, ap, ◌∙◌}
use native.Mathlib.Omega.{arith}
use lib.Dec.{ltb}
use lib.ListN.{length, take, drop, length-append}
use borrow.Author.Tests.{ltb-true, ltb-false}
use Rattle.basics.specs.declared.Refusal.{Refusal}
use Rattle.basics.specs.Refusals.{no_refusal}
use Rattle.basics.specs.Laws.Tests.{cases}
use Rattle.basics.specs.Lists.{part, put_front}
use Rattle.basics.specs.Laws.Puts.{put_wrote}
use Rattle.basics.specs.Laws.Wrote.{Wrote, wrote_none, wrote_set}
use Rattle.switches.specs.Flips.{active}
use Rattle.jlp.specs.declared.Jlp.{Jlp}
use Rattle.cart.specs.declared.Cartridge.{Cartridge}
use Rattle.cart.specs.Cartridges.{initial_of, reset_of}
use Rattle.cart.specs.Readable.{readable_of}
use Rattle.cart.specs.Run.{World, Access, step, after, answers}
use Rattle.cart.specs.Run as Run
use Rattle.text.specs.Lines.{lines_of, line_end, next_line}
use Rattle.text.specs.Laws.Lines.{line_at_lem, no_lines}
use Rattle.accesses.specs.declared.Made.{Made}
use Rattle.std.specs.Prelude.{Option as Maybe, Some, None, true, is_some}
use Rattle.accesses.specs.declared.Access.{Access as Coded}
use Rattle.accesses.specs.declared.Access.TheVariants.{Read, Write, Reset}
use Rattle.accesses.specs.Line.{line_says}
use Rattle.accesses.specs.Accesses.{accesses_in, accesses_of, malformed_from, reads_in, reads_by}
use Rattle.cart.specs.Reads.{heard}
use Rattle.accesses.specs.Runs.{world}
use Rattle.accesses.specs.Code.Steps.{coded, says, tabled, stepped, answered, made, count_of, noted, Fits, Runnable, ran_to, answers_to}
use Rattle.accesses.specs.Laws.Accesses.{accesses_one, malformed_one, first_good, some_of, reads_take}

-- an access, as the code has it
told : (w : World) (x : Access) → stepped w (coded x) ≡ step w x
told w (Run.Read a) = refl
told w (Run.Write a v) = refl
told w Run.Reset = refl

abbrev replied : Maybe ℕ → List ℕ
replied None = []
replied (Some n) = n ∷ []

counted : (r : Maybe ℕ) → count_of r ≡ length (replied r)
counted None = refl
counted (Some n) = refl

answers_one : (w : World) (x : Access) (ys : List Access) → map heard (answers w (x ∷ ys)) ≡ replied (answered w (coded x)) ++ map heard (answers (step w x) ys)
answers_one w (Run.Read a) ys = refl
answers_one w (Run.Write a v) ys = refl
answers_one w Run.Reset ys = refl

reads_one : (w : World) (x : Access) → count_of (answered w (coded x)) ≡ reads_by x
reads_one w (Run.Read a) = refl
reads_one w (Run.Write a v) = refl
reads_one w Run.Reset = refl

wrote_reply : (out₀ out x : List ℕ) (k : ℕ) (r : Maybe ℕ) → Wrote out₀ out x → k ≡ length x → k + count_of r ≤ length out₀ → Wrote out₀ (noted r k out) (x ++ replied r)
wrote_reply out₀ out x k None h e f = rw (append-nil x) h
wrote_reply out₀ out x k (Some n) h e f = wrote_set out₀ out x k n n h e (omega arith) refl

-- lent tables, and all else that goes with them, are the world that a line leaves
module _ (im ip m p flips : List ℕ) (readable : ℕ) (j : Jlp) (flash ram : List ℕ) where
  abbrev W : World
  W = tabled (active im ip) (active m p) flips readable j flash ram

  abbrev with_parts : World → World
  with_parts v =
      tabled (active im ip) (active v.cartridge.mapping v.cartridge.permissions) flips v.cartridge.readable v.cartridge.jlp v.flash v.ram

  held : (s : Coded) → with_parts (stepped W s) ≡ stepped W s
  held (Read a) = refl
  held (Write a v) = refl
  held Reset = refl

  pub left_world : (s : Coded) (m₁ p₁ : List ℕ) (readable₁ : ℕ) (j₁ : Jlp) (flash₁ ram₁ : List ℕ)
      → m₁ ≡ (stepped W s).cartridge.mapping → p₁ ≡ (stepped W s).cartridge.permissions → readable₁ ≡ (stepped W s).cartridge.readable
      → j₁ ≡ (stepped W s).cartridge.jlp → flash₁ ≡ (stepped W s).flash → ram₁ ≡ (stepped W s).ram
      → tabled (active im ip) (active m₁ p₁) flips readable₁ j₁ flash₁ ram₁ ≡ stepped W s
  left_world s m₁ p₁ readable₁ j₁ flash₁ ram₁ a b d e f g = rw (a, b, d, e, f, g) (held s)

abbrev rest_at : List ℕ → ℕ → List Access
rest_at list at = accesses_in (lines_of (drop at list))

-- `lines` lines are run, up to the place `at`, and k answers stand in the buffer: `left` lines go on from the world w
pub record Running (w₀ : World) (xs : List Access) (out₀ : List ℕ) (n : ℕ) (list : List ℕ) (at lines k : ℕ) (w : World) (out : List ℕ) : Type 0 where
  pub left : ℕ
  pub sum : lines + left ≡ n
  pub leads : after w₀ xs ≡ after w (take left (rest_at list at))
  pub steps : length xs ≡ lines + length (take left (rest_at list at))
  pub written : List ℕ
  pub wrote : Wrote out₀ out written
  pub place : k ≡ length written
  pub numbers : map heard (answers w₀ xs) ≡ written ++ map heard (answers w (take left (rest_at list at)))
  pub good : malformed_from (suc lines) (lines_of (drop at list)) ≡ 0
  pub enough : left ≤ length (lines_of (drop at list))
  pub room : k + reads_in (take left (rest_at list at)) ≤ length out₀

pub running_none : (w : World) (out : List ℕ) (n : ℕ) (list : List ℕ) → Runnable list n (length out) → Running w (take n (accesses_of list)) out n list 0 0 0 w out
running_none w out n list h =
    record {
      left = n;
      sum = omega arith;
      leads = refl;
      steps = omega arith;
      written = [];
      wrote = wrote_none out;
      place = refl;
      numbers = refl;
      good = h.good;
      enough = h.lines;
      room = omega (arith, reads_take n (accesses_of list), h.fits);
    }

module _ (w₀ : World) (xs : List Access) (out₀ : List ℕ) (n : ℕ) (list : List ℕ) (at lines k : ℕ) (w : World) (out : List ℕ) (h : Running w₀ xs out₀ n list at lines k w out) where
  -- there is a line
  pub running_within : lines < n → at < length list
  running_within l =
      cases (ltb at (length list)) (ltb-true at (length list))
      (λ e. let z = ap length (no_lines list at (ltb-false at (length list) e)) in absurd (omega (arith, h.sum, h.enough, z)))

  pub running_at : lines < n → at ≤ length list
  running_at l = omega (arith, running_within l)

  -- and it says an access, with room for its answer
  record Turn : Type 0 where
    access : Access
    line_says_lem : line_says (part list at (line_end list at)) ≡ some access
    more : ℕ
    one : h.left ≡ suc more
    first : take h.left (rest_at list at) ≡ access ∷ take more (rest_at list (next_line list at))

  turn : lines < n → Turn
  turn l =
      let here = line_at_lem list at (running_within l) in
      let line : List ℕ = part list at (line_end list at) in
      let ls : List (List ℕ) = lines_of (drop (next_line list at) list) in
      let good : malformed_from (suc lines) (line ∷ ls) ≡ 0 = ap (malformed_from (suc lines)) (sym here) ∙ h.good in
      let g = some_of (line_says line) (first_good lines line ls good) in
      let q : h.left ≡ suc (h.left - 1) = omega (arith, h.sum) in
      record {
        access = g.0;
        line_says_lem = g.1;
        more = h.left - 1;
        one = q;
        first = ap (λ (i : ℕ). take i (rest_at list at)) q ∙ ap (λ (ys : List Access). take (suc (h.left - 1)) ys) (ap accesses_in here ∙ accesses_one line ls g.0 g.1);
      }

  module _ (l : lines < n) (o : Maybe Coded) (e : o ≡ says (line_says (part list at (line_end list at)))) where
    some_is : o ≡ Some (coded (turn l).access)
    some_is = e ∙ ap says (turn l).line_says_lem

    -- so that it may be taken out
    pub running_some : is_some o ≡ true
    running_some = ap is_some some_is

  module _ (l : lines < n) (o : Maybe Coded) (e : o ≡ says (line_says (part list at (line_end list at)))) (s : Coded) (g : o ≡ Some s) (r : Maybe ℕ) (f : r ≡ answered w s) where
    said_is : s ≡ coded (turn l).access
    said_is = let q : Some s ≡ Some (coded (turn l).access) = sym g ∙ some_is l o e in cc

    reply_is : r ≡ answered w (coded (turn l).access)
    reply_is = f ∙ ap (answered w) said_is

    reads_left : reads_in (take h.left (rest_at list at)) ≡ count_of r + reads_in (take (turn l).more (rest_at list (next_line list at)))
    unfolding reads_in
    reads_left =
        let c : count_of r ≡ reads_by (turn l).access = ap count_of reply_is ∙ reads_one w (turn l).access in
        ap reads_in (turn l).first ∙ omega arith

    pub running_fits : (m : ℕ) → m ≡ length out₀ → Fits r k m
    running_fits m q = omega (arith, h.room, reads_left)

    pub running_more : (v : World) (next k₁ : ℕ) (out₁ : List ℕ) → v ≡ stepped w s → next ≡ next_line list at → k₁ ≡ k + count_of r → out₁ ≡ noted r k out
        → Running w₀ xs out₀ n list next (lines + 1) k₁ v out₁
    running_more v next k₁ out₁ a b d g =
        let t = turn l in
        let x = t.access in
        let ys : List Access = take t.more (rest_at list (next_line list at)) in
        let tail : take h.left (rest_at list at) ≡ x ∷ ys = t.first in
        let world : step w x ≡ v = sym (a ∙ ap (stepped w) said_is ∙ told w x) in
        let here = line_at_lem list at (running_within l) in
        let one : suc lines + 1 ≡ suc (lines + 1) = omega arith in
        let long : length (h.written ++ replied r) ≡ length h.written + count_of r = length-append h.written (replied r) ∙ omega (arith, counted r) in
        rw (b, g)
        (record {
          left = t.more;
          sum = omega (arith, h.sum, t.one);
          leads = h.leads ∙ ap (after w) tail ∙ ap (λ (u : World). after u ys) world;
          steps = h.steps ∙ omega (arith, ap length tail);
          written = h.written ++ replied r;
          wrote = wrote_reply out₀ out h.written k r h.wrote h.place (running_fits (length out₀) refl);
          place = d ∙ omega (arith, h.place, long);
          numbers =
              h.numbers ∙ ap (λ (zs : List Access). h.written ++ map heard (answers w zs)) tail
              ∙ ap (◌++◌ h.written) (answers_one w x ys ∙ ap (λ (q : Maybe ℕ). replied q ++ map heard (answers (step w x) ys)) (sym reply_is))
              ∙ sym (append_assoc h.written (replied r) (map heard (answers (step w x) ys)))
              ∙ ap (λ (u : World). (h.written ++ replied r) ++ map heard (answers u ys)) world;
          good =
              ap (λ (i : ℕ). malformed_from i (lines_of (drop (next_line list at) list))) (sym one)
              ∙ sym (malformed_one _ _ x t.line_says_lem (suc lines)) ∙ ap (malformed_from (suc lines)) (sym here) ∙ h.good;
          enough = omega (arith, h.enough, ap length here, t.one);
          room = omega (arith, h.room, reads_left);
        })

  -- all are run
  module _ (l : n ≤ lines) where
    none_left : take h.left (rest_at list at) ≡ []
    none_left = let z : h.left ≡ 0 = omega (arith, h.sum) in ap (λ (i : ℕ). take i (rest_at list at)) z

    pub ran_world : w ≡ after w₀ xs
    ran_world = sym (h.leads ∙ ap (after w) none_left)

    ran_words : h.written ≡ map heard (answers w₀ xs)
    ran_words = sym (h.numbers ∙ ap (λ (zs : List Access). h.written ++ map heard (answers w zs)) none_left ∙ append-nil h.written)

    pub ran_out : out ≡ answers_to w₀ xs out₀
    ran_out = put_wrote out₀ out h.written h.wrote ∙ ap (λ (zs : List ℕ). put_front zs out₀) ran_words

    pub ran_all : (r : Refusal) (d : Cartridge) → r ≡ no_refusal → d ≡ w.cartridge → record { refusal = r; cartridge = d; lines = n; length = k } ≡ ran_to w₀ xs
    ran_all r d e f =
        let c : d ≡ (after w₀ xs).cartridge = f ∙ ap (λ (u : World). u.cartridge) ran_world in
        let m : n ≡ length xs = omega (arith, h.steps, h.sum, ap length none_left) in
        let q : k ≡ length (map heard (answers w₀ xs)) = h.place ∙ ap length ran_words in
        rw (e, c, m, q)

-- how many paragraphs a reset makes readable
pub reset_start : (c d : Cartridge) → d ≡ reset_of c → d.readable ≡ readable_of c.initial_permissions
reset_start c d e = ap (λ (x : Cartridge). x.readable) e

-- one turn of the loop, its premises as the calls give them
module _ (c : Cartridge) (flash₀ ram₀ out₀ : List ℕ) (n : ℕ) (list : List ℕ) (at lines k : ℕ) (m p : List ℕ) (readable : ℕ) (j : Jlp) (flash ram out : List ℕ) where
  abbrev Now : World
  Now = tabled (initial_of c) (active m p) c.flips readable j flash ram

  abbrev pub Here : Type 0
  Here = Running (world c flash₀ ram₀) (take n (accesses_of list)) out₀ n list at lines k Now out

  module _ (h : Here) (l : lines < n) (o : Maybe Coded) (e : o ≡ says (line_says (part list at (line_end list at)))) where
    pub turn_some : is_some o ≡ true
    turn_some = running_some _ _ _ _ _ _ _ _ _ _ h l o e

    module _ (s : Coded) (g : o ≡ Some s) (d : Made) where
      pub turn_fits : (r : ℕ) → d ≡ made Now s → r ≡ length out₀ → Fits d.reply k r
      turn_fits r a q = running_fits _ _ _ _ _ _ _ _ _ _ h l o e s g d.reply (ap (λ (x : Made). x.reply) a) r q

      pub turn_more : (m₁ p₁ : List ℕ) (readable₁ : ℕ) (flash₁ ram₁ out₁ : List ℕ) (k₁ next : ℕ)
          → (d ≡ made Now s) × (m₁ ≡ (stepped Now s).cartridge.mapping) × (p₁ ≡ (stepped Now s).cartridge.permissions) × (readable₁ ≡ (stepped Now s).cartridge.readable)
          × (flash₁ ≡ (stepped Now s).flash) × (ram₁ ≡ (stepped Now s).ram)
          → (k₁ ≡ k + count_of d.reply) × (out₁ ≡ noted d.reply k out) → next ≡ next_line list at
          → Running (world c flash₀ ram₀) (take n (accesses_of list)) out₀ n list next (lines + 1) k₁ (tabled (initial_of c) (active m₁ p₁) c.flips readable₁ d.jlp flash₁ ram₁) out₁
      turn_more m₁ p₁ readable₁ flash₁ ram₁ out₁ k₁ next a b q =
          running_more _ _ _ _ _ _ _ _ _ _ h l o e s g d.reply (ap (λ (x : Made). x.reply) a.0) _ next k₁ out₁
          (left_world _ _ m p c.flips readable j flash ram s m₁ p₁ readable₁ d.jlp flash₁ ram₁ a.1 a.2 a.3 (ap (λ (x : Made). x.jlp) a.0) a.4 a.5)
          q b.0 b.1
