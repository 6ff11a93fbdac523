-- The values of the requests' records.
use Rattle.std.specs.Prelude.{ℕ, zero, suc, ◌+◌, ◌*◌, ◌-◌, ◌/◌, ◌%◌, ◌<◌, ◌≤◌, List, [], ◌∷◌, Bool, true, false, cond, not, ◌&&◌, ◌⊎◌, ◌≡◌, refl, eqb, length, Some, None, Option}
use Rattle.std.specs.Prelude.{get_or, set, replicate}
use Rattle.std.proofs.Common.{inl, inr, sym, ap, ◌∙◌, arith}
use borrow.Author.Tests.{eq-eqb, ne_eqb, eqb-true, eqb-false}
use Rattle.basics.specs.declared.Refusal.{Refusal}
use Rattle.basics.specs.Laws.Counts.{count_same}
use Rattle.basics.specs.Laws.Tests.{cases, and_left, and_right, true_is_not_false}
use Rattle.places.specs.declared.Console.{Console}
use Rattle.places.specs.Places.{console}
use Rattle.switches.specs.Banks.{BANKSW}
use Rattle.flash.specs.declared.Command.{Command}
use Rattle.flash.specs.declared.Command.TheVariants.{Read, Write, Erase}
use Rattle.flash.specs.declared.Saves.{Saves}
use Rattle.flash.specs.Flash.{Memories, acted, written_flash}
use Rattle.flash.specs.Registers.{command_of, has_flash}
use Rattle.flash.specs.Laws.Changes as Changes
use Rattle.jlp.specs.declared.Jlp.{Jlp}
use Rattle.jlp.specs.declared.Results.{Results}
use Rattle.jlp.specs.Window.{between, on_at, off_at, operands_start, operands_end}
use Rattle.jlp.specs.Arith.{multiplied, divided}
use Rattle.jlp.specs.Accelerators.{turns_on, turns_off, crc_after, function_of, operated, written_on, written_jlp}
use Rattle.jlp.specs.Laws.Products.{product}
use Rattle.jlp.specs.Laws.Quotients as Quotients
use Rattle.jlp.specs.Laws.Window.{between_in}
use Rattle.tables.specs.Laws.Refusals.{eleven_exactly}
use Rattle.cart.specs.declared.Cartridge.{Cartridge}
use Rattle.cart.specs.Cells.{READ, rights_of}
use Rattle.cart.specs.Readable.{readable_in, readable_of}
use Rattle.cart.specs.Run as Run
use Rattle.cart.specs.Run.{World, Access, after}
use Rattle.cart.specs.Laws.Banks.{stays_clear}
use Rattle.cart.proofs.Theorems.Flash.{off_keeps_flash}
use Rattle.cart.proofs.Theorems.Moves.{at_most_16}
use Rattle.cart.specs.Cartridges.{active_of}
use Rattle.load.specs.Load.{loading_of}
use Rattle.load.specs.Laws.Refusals as Load
use Rattle.load.specs.Laws.Stated as Stated
use Rattle.load.specs.Laws.Readable.{always_counted, refused_none}
use Rattle.lines.specs.declared.Line.{Line}
use Rattle.cfg.specs.File.{entries_of}
use Rattle.rules.specs.Accepted.{Accepted}
use Rattle.rules.specs.Laws.Rules.{good}
use Rattle.layout.specs.Layout.{cartridge_of}
use Rattle.build.specs.Building.{Building}
use Rattle.build.specs.Building.{builds, building_of, refused, refusal_of}
use Rattle.build.proofs.Theorems.Refusals.{lines_accepted}
use Rattle.plays.specs.Laws.Tabled.{tabled_start}
use Rattle.plays.proofs.Theorems.Steps.{tabled_unbanked}
use Rattle.accesses.specs.Runs.{run_of, ran_of}
use Rattle.accesses.specs.Laws.Refusals as Lists
use Rattle.accesses.specs.Laws.Runs as Runs
use Rattle.demands.specs.Pressing.{Pressing, world_of}
use Rattle.demands.specs.Demand1.{Refused}
use Rattle.demands.specs.Demand3.{Playable}
use Rattle.demands.specs.Machine.{Switches, Flips, after_write, first_changed}
use Rattle.demands.specs.Requests.W201.{W201}
use Rattle.demands.specs.Requests.W202.{W202, banksw_of}
use Rattle.demands.specs.Requests.W203.{W203}
use Rattle.demands.specs.Requests.W206.{W206}
use Rattle.demands.specs.Requests.W209.{W209}
use Rattle.demands.specs.Requests.W211.{W211, have_read}
use Rattle.demands.specs.Requests.W212.{W212}
use Rattle.demands.specs.Requests.W214.{W214}
use Rattle.demands.specs.Laws.Lists.{lists_play}
use Rattle.demands.specs.Laws.Machine.{machine}
use Rattle.demands.specs.Laws.Pressed.{pressed_tables}

pub w201 : W201
w201 = record { not_stated = Stated.not_stated; stated = Stated.stated }

-- BANKSW as a number and as a test
clear_number : (x : ℕ) → BANKSW x ≡ false → x / 8 % 2 ≡ 0
clear_number x e = let n : x / 8 % 2 ≡ 1 → ⊥ = eqb-false _ _ e in omega arith

clear_test : (x : ℕ) → x / 8 % 2 ≡ 0 → BANKSW x ≡ false
clear_test x e = ne_eqb (x / 8 % 2) 1 (λ q. omega (arith, e))

switch_again : (w : World) (at : Console) (v h : ℕ) → Switches w.cartridge at h → Switches (after_write w at v).cartridge at h
switch_again w at v h f =
    record {
      register = f.register;
      acts = ap (λ (m : List ℕ). get_or m (8 * h) 0 / 8 % 2) (machine.switches w at v h f).permissions ∙ f.acts;
    }

flip_clears : (w : World) (at : Console) (v p : ℕ) → Flips w.cartridge at v → p < length w.cartridge.permissions
    → p / 16 ≡ v / 0x1000 → first_changed (v / 0x1000) ≤ p % 16 → banksw_of (after_write w at v).cartridge.permissions p ≡ 0
flip_clears w at v p f s e l =
    ap (λ (x : ℕ). x / 8 % 2) ((machine.flips w at v f).permissions p s e l) ∙ omega arith

never_set : (w : World) (at : Console) (v p : ℕ) → banksw_of w.cartridge.permissions p ≡ 0 → banksw_of (after_write w at v).cartridge.permissions p ≡ 0
never_set w at v p e =
    clear_number (get_or (after_write w at v).cartridge.permissions p 0)
    (stays_clear w (Run.Write at v ∷ []) p refl (clear_test (get_or w.cartridge.permissions p 0) e))

-- where neither an initial nor an active permission has BANKSW, no access sets it
record Unbanked (c : Cartridge) : Type 0 where
  initial : (p : ℕ) → BANKSW (get_or c.initial_permissions p 0) ≡ false
  active : (p : ℕ) → BANKSW (get_or c.permissions p 0) ≡ false

unbanked_after : (w : World) (xs : List Access) → Unbanked w.cartridge → Unbanked (after w xs).cartridge
unbanked_after w [] u = u
unbanked_after w (Run.Read at ∷ xs) u = unbanked_after w xs u
unbanked_after w (Run.Write at v ∷ xs) u =
    unbanked_after (after_write w at v) xs
    (record { initial = u.initial; active = λ p. stays_clear w (Run.Write at v ∷ []) p refl (u.active p) })
unbanked_after w (Run.Reset ∷ xs) u = unbanked_after (Run.step w Run.Reset) xs (record { initial = u.initial; active = u.initial })

-- so none does in a built cartridge, whose lines a build accepted
module _ (p : Pressing) (q : Playable p) where
  accepts : builds p.bin p.cfg p.label p.out ≡ true
  unfolding building_of
  accepts =
      cases (builds p.bin p.cfg p.label p.out) (λ e. e)
      (λ e.
      let r : p.building ≡ refused p.bin p.cfg p.label (refusal_of p.bin p.cfg p.label p.out) = q.pressed.answer ∙ rw e in
      let n : (refusal_of p.bin p.cfg p.label p.out).number ≡ 0 = sym (ap (λ (x : Building). x.refusal.number) r) ∙ q.accepted in
      true_is_not_false (eq-eqb (refusal_of p.bin p.cfg p.label p.out).number 0 n) e)

  fresh_unbanked : Unbanked (cartridge_of (entries_of p.cfg))
  fresh_unbanked =
      let lines : List Line = entries_of p.cfg in
      let a : Accepted p.bin lines = lines_accepted p.bin p.cfg p.label p.out accepts in
      let u : (n : ℕ) → BANKSW (get_or (cartridge_of lines).permissions n 0) ≡ false =
      tabled_unbanked (good a) (cartridge_of lines) (λ x. 0) (tabled_start lines) in
      record { initial = u; active = u }

  playable_unbanked : (xs : List Access) (n : ℕ) → banksw_of (after (world_of p.loading p.flash p.stored) xs).cartridge.permissions n ≡ 0
  playable_unbanked xs n =
      let u : Unbanked p.loading.cartridge = rw (pressed_tables p q.pressed q.accepted q.enough) fresh_unbanked in
      clear_number (get_or (after (world_of p.loading p.flash p.stored) xs).cartridge.permissions n 0)
      ((unbanked_after (world_of p.loading p.flash p.stored) xs u).active n)

pub w202 : W202
w202 =
    record {
      switches = machine.switches;
      again = switch_again;
      flip_clears = flip_clears;
      never_set = never_set;
      reset_restores = λ w p. refl;
      built = playable_unbanked;
    }

even : (a b : ℕ) → (2 * a + b) % 2 ≡ b % 2
even a b = omega arith

twice_even : (a b : ℕ) → (4 * a + b) % 2 ≡ b % 2
twice_even a b = omega arith

low_bits : (x : ℕ) → rights_of x ≡ rights_of (x % 8)
low_bits x =
    let r : x % 2 ≡ x % 8 % 2 = omega arith in
    let half : x / 2 ≡ 4 * (x / 8) + x % 8 / 2 = omega arith in
    let quarter : x / 4 ≡ 2 * (x / 8) + x % 8 / 4 = omega arith in
    let w : x / 2 % 2 ≡ x % 8 / 2 % 2 = ap (λ (t : ℕ). t % 2) half ∙ twice_even (x / 8) (x % 8 / 2) in
    let n : x / 4 % 2 ≡ x % 8 / 4 % 2 = ap (λ (t : ℕ). t % 2) quarter ∙ even (x / 8) (x % 8 / 4) in
    rw (r, w, n)

pub w203 : W203
w203 =
    record {
      row_000 = refl;
      row_001 = refl;
      row_010 = refl;
      row_011 = refl;
      row_100 = refl;
      row_101 = refl;
      row_110 = refl;
      row_111 = refl;
      low_bits = low_bits;
    }

-- the accelerators: each register by its address
module _ (j : Jlp) (on : j.on ≡ true) where
  turned_off : (written_jlp j (console 0x8034) 0x6A7A).on ≡ false
  unfolding written_jlp written_on turns_on turns_off
  turned_off = rw on

  crc_adds : (v : ℕ) → (written_jlp j (console 0x9FFC) v).crc ≡ crc_after j.crc (console 0x9FFC) v
  unfolding written_jlp written_on turns_on turns_off between
  crc_adds v = rw on

  crc_set : (v : ℕ) → (written_jlp j (console 0x9FFD) v).crc ≡ crc_after j.crc (console 0x9FFD) v
  unfolding written_jlp written_on turns_on turns_off between
  crc_set v = rw on

  -- an operand's address is no switch word's, and within the operands
  operand_written : (k v : ℕ) → k < 12 → written_jlp j (console (0x9F80 + k)) v ≡ operated j (0x9F80 + k - 0x9F80) v
  unfolding written_jlp written_on turns_on turns_off
  operand_written k v h =
      rw (
        ne_eqb (0x9F80 + k) on_at (λ q. omega arith),
        on,
        ne_eqb (0x9F80 + k) off_at (λ q. omega arith),
        between_in operands_start operands_end (0x9F80 + k) (omega arith) (omega arith),
      )

  operates : (k v : ℕ) → k < 12 → let operands : List ℕ = set j.operands k v in
      ((written_jlp j (console (0x9F80 + k)) v).operands ≡ operands)
      × ((written_jlp j (console (0x9F80 + k)) v).results
      ≡ function_of (k / 2) (get_or operands (2 * (k / 2)) 0) (get_or operands (2 * (k / 2) + 1) 0) j.results)
  operates k v h =
      let e : 0x9F80 + k - 0x9F80 ≡ k = omega arith in
      let w : written_jlp j (console (0x9F80 + k)) v ≡ operated j k v = operand_written k v h ∙ ap (λ (i : ℕ). operated j i v) e in
      (ap (λ (x : Jlp). x.operands) w, ap (λ (x : Jlp). x.results) w)

functions : (a b : ℕ) (old : Results)
    → (function_of 0 a b old ≡ multiplied true true a b) × ((function_of 1 a b old ≡ multiplied true false a b)
    × ((function_of 2 a b old ≡ multiplied false true a b) × ((function_of 3 a b old ≡ multiplied false false a b)
    × ((function_of 4 a b old ≡ divided true a b old) × (function_of 5 a b old ≡ divided false a b old)))))
unfolding function_of
functions a b old = (refl, (refl, (refl, (refl, (refl, refl)))))

zeros : (n k : ℕ) → ◌≡◌ {A = ℕ} (get_or (replicate n 0) k 0) 0
zeros zero k = refl
zeros (suc n) zero = refl
zeros (suc n) (suc k) = zeros n k

pub w206 : W206
unfolding crc_after
w206 =
    record {
      fresh_on = λ sectors. (refl, refl);
      fresh_off = λ sectors. (refl, refl);
      reset_on = λ j. refl;
      turns_off = turned_off;
      operates = λ j k v on h. operates j on k v h;
      functions = functions;
      products = product;
      divides = Quotients.quotient_divides;
      remainder_small = Quotients.remainder_small;
      remainder_sign = Quotients.remainder_sign;
      by_zero = Quotients.by_zero;
      out_of_range = Quotients.out_of_range;
      crc_adds = λ j v on. crc_adds j on v;
      crc_set = λ j v on. crc_set j on v;
      fresh_results = λ field sectors. (refl, refl);
      fresh_operands = λ field sectors k. zeros 12 k;
      survives = λ j. record { field = refl; operands = refl; results = refl; crc = refl; saves = refl };
      eleven = λ flags m. eleven_exactly flags m;
    }

-- the keys of the three commands
no_key : (s : Saves) (at : Console) (v : ℕ) → ((at.0 ≡ 0x802D) × (v ≡ 0xC0DE) → ⊥) → ((at.0 ≡ 0x802E) × (v ≡ 0xDEC0) → ⊥)
    → ((at.0 ≡ 0x802F) × (v ≡ 0xBEEF) → ⊥) → command_of s at v ≡ None
unfolding command_of
no_key s at v a b c =
    rw (neither at.0 0x802D v 0xC0DE a, neither at.0 0x802E v 0xDEC0 b, neither at.0 0x802F v 0xBEEF c) (either_way (has_flash s.sectors))
  where
    neither : (x y v w : ℕ) → ((x ≡ y) × (v ≡ w) → ⊥) → eqb x y && eqb v w ≡ false
    neither x y v w n =
        cases (eqb x y && eqb v w)
        (λ t. absurd (n (eqb-true _ _ (and_left (eqb x y) (eqb v w) t), eqb-true _ _ (and_right (eqb x y) (eqb v w) t)))) (λ t. t)

    either_way : (b : Bool) → ◌≡◌ {A = Option Command} (cond (not b) None None) None
    either_way true = refl
    either_way false = refl

row_out : (sectors : ℕ) (m : Memories) (row : ℕ) → (8 * sectors ≤ row) ⊎ (length m.flash < 96 * row + 96)
    → ((at : Console) → acted sectors m (Some (Read row at)) ≡ m) × ((at : Console) → acted sectors m (Some (Write row at)) ≡ m) × (acted sectors m (Some (Erase row)) ≡ m)
row_out sectors m row (inl h) = Changes.row_past_range sectors m row h
row_out sectors m row (inr h) = Changes.row_past_flash sectors m row h

write_out : (sectors : ℕ) (flash ram : List ℕ) (row : ℕ) (at : Console) (q : ℕ) → (q < 96 * row) ⊎ (96 * row + 96 ≤ q)
    → get_or (written_flash sectors flash ram row at) q 0 ≡ get_or flash q 0
write_out sectors flash ram row at q (inl h) = Changes.write_out sectors flash ram row at q (λ e. omega arith)
write_out sectors flash ram row at q (inr h) = Changes.write_out sectors flash ram row at q (λ e. omega arith)

pub w209 : W209
w209 =
    record {
      keys = no_key;
      dropped = Changes.dropped;
      row_out = row_out;
      read_in = λ sectors flash ram row at e i h. Changes.read_in sectors flash ram row at e i h;
      read_out = λ sectors flash ram row at q h. Changes.read_out sectors flash ram row at q h;
      write_in = λ sectors flash ram row at e i h. Changes.write_in sectors flash ram row at e i h;
      write_out = write_out;
      erase_in = λ sectors flash ram row e i h. Changes.erase_in sectors flash ram row e i h;
      erase_out = λ sectors flash ram row q h. Changes.erase_out sectors flash ram row q h;
      off_keeps = off_keeps_flash;
      fresh = λ sectors. (refl, refl);
      survives = λ j. refl;
    }

counts : (permissions : List ℕ) → readable_of permissions ≡ have_read permissions
unfolding readable_in
counts permissions =
    count_same (λ i. READ (get_or permissions (0 + i) 0)) (λ p. READ (get_or permissions p 0)) 256 (λ i h. let e : 0 + i ≡ i = omega arith in rw e)

refused_zero : (s : List ℕ) (m f : ℕ) → ((loading_of s m f).refusal.number ≡ 0 → ⊥) → (loading_of s m f).cartridge.readable ≡ 0
refused_zero s m f n =
    refused_none s m f (ne_eqb _ _ (λ z. n (ap (λ (r : Refusal). r.number) (Load.answer_refusal s m f) ∙ z)))

pub w211 : W211
w211 =
    record {
      counted = λ s m f flash ram xs. always_counted s m f flash ram xs ∙ counts (after (world_of (loading_of s m f) flash ram) xs).cartridge.permissions;
      refused = refused_zero;
    }

pub w212 : W212
w212 =
    record {
      flips = machine.flips;
      switches = machine.switches;
      others = machine.stores;
      most = λ w at v. at_most_16 w.cartridge.jlp (active_of w.cartridge) w.cartridge.flips at v;
    }

-- a list that is refused: of what is answered only the length at 29 is not zero
list_zero : (w : World) (xs : List ℕ) (limit : ℕ) (out : List ℕ) → Refused (ran_of w xs limit (length out)).refusal
    → ((ran_of w xs limit (length out)).refusal.number ≡ 29 → ⊥)
    → ((ran_of w xs limit (length out)).lines ≡ 0) × ((ran_of w xs limit (length out)).length ≡ 0)
unfolding ran_of run_of
list_zero w xs limit out n o = (rw (ne_eqb _ 0 n), rw (ne_eqb _ 29 o, ne_eqb _ 0 n))

pub w214 : W214
w214 =
    record {
      list = λ w xs limit out. record { refused = (Lists.exactly w xs limit out).refuses; accepted = (Lists.exactly w xs limit out).accepts };
      list_keeps = λ w xs limit out h. (((Lists.exactly w xs limit out).nothing h).world, ((Lists.exactly w xs limit out).nothing h).kept);
      list_zero = list_zero;
      lines_run = Runs.lines_run;
      adds = λ w list m n room h. let a = Runs.adds w list m n room h in record { refusal = a.refusal; more = a.more; answers = a.answers };
      one_by_one = Runs.answers_append;
      leaves = λ w list limit room. refl;
      plays = lists_play;
    }
