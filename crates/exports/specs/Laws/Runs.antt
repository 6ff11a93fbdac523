-- One access more, after a run of them.
use Rattle.std.specs.Prelude.{ℕ, ◌+◌, List, ◌∷◌, [], Bool, true, false, ◌≡◌, set, get_or, Option, Some}
use Rattle.std.proofs.Math.Path.{refl}
use Rattle.std.proofs.Common.{sym, ap, subst, ◌∙◌, add-one}
use native.Mathlib.Omega.{arith}
use Rattle.basics.specs.Lists.{laid}
use Rattle.basics.specs.Laws.Lists.{laid_more}
use Rattle.places.specs.declared.Console.{Console}
use Rattle.switches.specs.Flips.{Active, active}
use Rattle.jlp.specs.declared.Jlp.{Jlp}
use Rattle.jlp.specs.Accelerators.{written_jlp}
use Rattle.cart.specs.declared.Cartridge.{Cartridge}
use Rattle.cart.specs.Reads.{heard, read_by}
use Rattle.cart.specs.Writes.{leaves, leaves_ram, leaves_flash, assigned, leaves_readable}
use Rattle.cart.specs.declared.Written.{Written}
use Rattle.cart.specs.Cartridges.{written_of, write_ram_of, write_flash_of}
use Rattle.cart.specs.Run.{World, step, Write}
use Rattle.cart.specs.Laws.Run.{after_append}
use Rattle.registers.specs.Words.{words_of, jlp_from}
use Rattle.registers.specs.Code.Tidy.{Tidy}
use Rattle.registers.specs.Laws.Words.{from_tidied, written_again}
use Rattle.direct.specs.Direct.{hears, read_reach, is_done, keeps, write_reach}
use Rattle.direct.proofs.Theorems.Direct.{read_direct, Left, stored_left, asked_left}
use Rattle.exports.specs.Runs.{answered, address, carried, written, writes, assigned_at, numbered}

pub heard_direct : (j : Jlp) (a : Active) (at : Console) (ram : List ℕ) (o : Bool) (h : Option ℕ) (n : ℕ) → o ≡ j.on → h ≡ hears (read_reach o a at) ram → h ≡ Some n → n ≡ heard (read_by j a ram at)
heard_direct j a at ram o h n p e f = read_direct j a at ram n (sym f ∙ e ∙ ap (λ (x : Bool). hears (read_reach x a at) ram) p)

-- words that were made tidy are the accelerators that they were
pub left_from : (w₀ w₁ : List ℕ) (a : Active) (flips : List ℕ) (at : Console) (v kept : ℕ) (flash ram : List ℕ) (n q : ℕ) (x y u z f : List ℕ) → w₁ ≡ words_of (jlp_from w₀)
    → Left (jlp_from w₁) a flips at v kept flash ram n q x y u z f → Left (jlp_from w₀) a flips at v kept flash ram n q x y u z f
left_from w₀ w₁ a flips at v kept flash ram n q x y u z f e = subst (λ (j : Jlp). Left j a flips at v kept flash ram n q x y u z f) (from_tidied w₀ w₁ e)

module _ (j : Jlp) (mapping permissions ram at out : List ℕ) where
  pub answered_none : out ≡ answered j mapping permissions ram at 0 out
  unfolding answered laid
  answered_none = refl

  pub answered_heard :
      (t : List ℕ) (i x : ℕ)
      → t ≡ answered j mapping permissions ram at i out
      → x ≡ heard (read_by j (active mapping permissions) ram (address at i))
      → set t i x ≡ answered j mapping permissions ram at (i + 1) out
  unfolding answered
  answered_heard t i x e f =
      let z : 0 + i ≡ i = omega arith in
      rw z at (laid_more 0 (λ n. heard (read_by j (active mapping permissions) ram (address at n))) out i t x e f)

  pub answered_one :
      (t : List ℕ) (i : ℕ) (a : Option ℕ) (x : ℕ)
      → t ≡ answered j mapping permissions ram at i out
      → a ≡ read_by j (active mapping permissions) ram (address at i)
      → x ≡ heard a
      → set t i x ≡ answered j mapping permissions ram at (i + 1) out
  answered_one t i a x e f g = answered_heard t i x e (g ∙ ap heard f)

  -- by the short way, with the flag that the accelerators are on
  pub answered_direct :
      (t : List ℕ) (i x n : ℕ) (o : Bool) (h : Option ℕ)
      → t ≡ answered j mapping permissions ram at i out
      → o ≡ j.on
      → h ≡ hears (read_reach o (active mapping permissions) (address at i)) ram
      → h ≡ Some n
      → x ≡ n
      → set t i x ≡ answered j mapping permissions ram at (i + 1) out
  answered_direct t i x n o h e p f g k = answered_heard t i x e (k ∙ heard_direct j (active mapping permissions) (address at i) ram o h n p f g)

-- lent tables, the number that goes with them, accelerators, RAM and flash that are a world's
pub record Lent (w : World) (mapping permissions flips : List ℕ) (readable : ℕ) (j : Jlp) (ram flash : List ℕ) : Type 0 where
  pub by_mapping : mapping ≡ w.cartridge.mapping
  pub by_permissions : permissions ≡ w.cartridge.permissions
  pub by_flips : flips ≡ w.cartridge.flips
  pub by_readable : readable ≡ w.cartridge.readable
  pub by_jlp : j ≡ w.cartridge.jlp
  pub by_ram : ram ≡ w.ram
  pub by_flash : flash ≡ w.flash

module _ (c : Cartridge) (ram flash at v : List ℕ) where
  one : (n : ℕ) → written c ram flash at v (n + 1) ≡ step (written c ram flash at v n) (Write (address at n) (get_or v n 0))
  unfolding written writes
  one n = rw (add-one n) (after_append (record { cartridge = c; flash = flash; ram = ram }) (writes at v n) (Write (address at n) (get_or v n 0) ∷ []))

  pub cartridge_none : c ≡ (written c ram flash at v 0).cartridge
  unfolding written writes
  cartridge_none = refl

  pub ram_none : ram ≡ (written c ram flash at v 0).ram
  unfolding written writes
  ram_none = refl

  pub flash_none : flash ≡ (written c ram flash at v 0).flash
  unfolding written writes
  flash_none = refl

  pub cartridge_one :
      (n : ℕ) (d : Cartridge) (e : Written)
      → d ≡ (written c ram flash at v n).cartridge
      → e ≡ written_of d (address at n) (get_or v n 0)
      → e.cartridge ≡ (written c ram flash at v (n + 1)).cartridge
  cartridge_one n d e p r = rw (one n, r, p)

  pub ram_one :
      (n : ℕ) (d : Cartridge) (m s k : List ℕ)
      → d ≡ (written c ram flash at v n).cartridge
      → m ≡ (written c ram flash at v n).ram
      → s ≡ (written c ram flash at v n).flash
      → k ≡ write_ram_of d s m (address at n) (get_or v n 0)
      → k ≡ (written c ram flash at v (n + 1)).ram
  ram_one n d m s k p q o r = rw (one n, r, p, q, o)

  pub flash_one :
      (n : ℕ) (d : Cartridge) (m s k : List ℕ)
      → d ≡ (written c ram flash at v n).cartridge
      → m ≡ (written c ram flash at v n).ram
      → s ≡ (written c ram flash at v n).flash
      → k ≡ write_flash_of d s m (address at n) (get_or v n 0)
      → k ≡ (written c ram flash at v (n + 1)).flash
  flash_one n d m s k p q o r = rw (one n, r, p, q, o)

  -- the same by lent tables
  lent_one :
      (n : ℕ) (m p f : List ℕ) (r : ℕ) (j : Jlp) (k s x y : List ℕ) (q : ℕ) (l : Jlp) (z u : List ℕ)
      → Lent (written c ram flash at v n) m p f r j k s
      → q ≡ leaves_readable j (active m p) f r (address at n) (get_or v n 0)
      → x ≡ (leaves j (active m p) f (address at n) (get_or v n 0)).mapping
      → y ≡ (leaves j (active m p) f (address at n) (get_or v n 0)).permissions
      → z ≡ leaves_ram j (active m p) f s k (address at n) (get_or v n 0)
      → u ≡ leaves_flash j (active m p) f s k (address at n) (get_or v n 0)
      → l ≡ written_jlp j (address at n) (get_or v n 0)
      → Lent (written c ram flash at v (n + 1)) x y f q l z u
  lent_one n m p f r j k s x y q l z u t o a b d g e =
      rw (one n)
      (record {
        by_mapping = rw (a, t.by_mapping, t.by_permissions, t.by_flips, t.by_jlp);
        by_permissions = rw (b, t.by_mapping, t.by_permissions, t.by_flips, t.by_jlp);
        by_flips = t.by_flips;
        by_readable = rw (o, t.by_mapping, t.by_permissions, t.by_flips, t.by_readable, t.by_jlp);
        by_jlp = rw (e, t.by_jlp);
        by_ram = rw (d, t.by_mapping, t.by_permissions, t.by_flips, t.by_ram, t.by_flash, t.by_jlp);
        by_flash = rw (g, t.by_mapping, t.by_permissions, t.by_flips, t.by_ram, t.by_flash, t.by_jlp);
      })

  numbered_one :
      (out : List ℕ) (n : ℕ) (m p f : List ℕ) (r : ℕ) (j : Jlp) (k s t : List ℕ) (u : ℕ)
      → Lent (written c ram flash at v n) m p f r j k s
      → t ≡ numbered c ram flash at v n out
      → u ≡ assigned j (active m p) f (address at n) (get_or v n 0)
      → set t n u ≡ numbered c ram flash at v (n + 1) out
  unfolding numbered
  numbered_one out n m p f r j k s t u l e o =
      let z : 0 + n ≡ n = omega arith in
      rw z at (laid_more 0 (assigned_at c ram flash at v) out n t u e (rw (o, l.by_mapping, l.by_permissions, l.by_flips, l.by_jlp)))

-- the same with the accelerators in tidy words, and with the numbers that the writes report: what the first n of them have left everywhere
pub record Ran (c : Cartridge) (ram flash at v out : List ℕ) (n : ℕ) (mapping permissions flips : List ℕ) (readable : ℕ) (words left saved numbers : List ℕ) : Type 0 where
  pub lent : Lent (written c ram flash at v n) mapping permissions flips readable (jlp_from words) left saved
  pub tidy : Tidy words
  pub reported : numbers ≡ numbered c ram flash at v n out

module _ (c : Cartridge) (ram flash at v out : List ℕ) where
  pub ran_one :
      (n : ℕ) (m p f : List ℕ) (r : ℕ) (w k s t x y : List ℕ) (q : ℕ) (u z h : List ℕ) (g : ℕ)
      → Ran c ram flash at v out n m p f r w k s t
      → Left (jlp_from w) (active m p) f (address at n) (get_or v n 0) r s k g q x y u z h
      → Ran c ram flash at v out (n + 1) x y f q u z h (set t n g)
  ran_one n m p f r w k s t x y q u z h g a b =
      let j : jlp_from u ≡ written_jlp (jlp_from w) (address at n) (get_or v n 0) = ap jlp_from b.4 ∙ written_again w (address at n) (get_or v n 0) in
      record {
        lent = lent_one c ram flash at v n m p f r (jlp_from w) k s x y q (jlp_from u) z h a.lent b.1 b.2 b.3 b.5 b.6 j;
        tidy = b.4 ∙ ap words_of (sym j);
        reported = numbered_one c ram flash at v out n m p f r (jlp_from w) k s t g a.lent a.reported b.0;
      }

  -- by the short way, and by the long one from the RAM that it has left
  module _ (n : ℕ) (m p f : List ℕ) (r : ℕ) (w k s t l : List ℕ) (o b : Bool) (a : Ran c ram flash at v out n m p f r w k s t) (e : o ≡ (jlp_from w).on)
      (d : (b ≡ is_done (write_reach o (active m p) (address at n))) × (l ≡ keeps (write_reach o (active m p) (address at n)) k (get_or v n 0))) where
    pub ran_store : b ≡ true → Ran c ram flash at v out (n + 1) m p f r w l s (set t n 0)
    ran_store i = ran_one n m p f r w k s t m p r w l s 0 a (stored_left w (active m p) f (address at n) (get_or v n 0) r s k l o b e d.0 d.1 a.tidy i)

    pub ran_asked : (x y : List ℕ) (q : ℕ) (u z h : List ℕ) (g : ℕ) → b ≡ false → Left (jlp_from w) (active m p) f (address at n) (get_or v n 0) r s l g q x y u z h
        → Ran c ram flash at v out (n + 1) x y f q u z h (set t n g)
    ran_asked x y q u z h g i j =
        ran_one n m p f r w k s t x y q u z h g a (asked_left w (active m p) f (address at n) (get_or v n 0) r s k l o b e d.0 d.1 g q x y u z h i j)

  pub ran_last :
      (i n : ℕ) (m p f : List ℕ) (r : ℕ) (w k s t : List ℕ)
      → i ≡ n
      → Ran c ram flash at v out i m p f r w k s t
      → (r ≡ (written c ram flash at v n).cartridge.readable) × (m ≡ (written c ram flash at v n).cartridge.mapping) × (p ≡ (written c ram flash at v n).cartridge.permissions) × (w ≡ words_of (written c ram flash at v n).cartridge.jlp) × (k ≡ (written c ram flash at v n).ram) × (s ≡ (written c ram flash at v n).flash) × (t ≡ numbered c ram flash at v n out)
  ran_last i n m p f r w k s t e l =
      rw (← e) (l.lent.by_readable, l.lent.by_mapping, l.lent.by_permissions, l.tidy ∙ ap words_of l.lent.by_jlp, l.lent.by_ram, l.lent.by_flash, l.reported)

pub ran_none : (m p f : List ℕ) (r : ℕ) (w ram flash at v out : List ℕ) → Tidy w → Ran (carried m p f r (jlp_from w)) ram flash at v out 0 m p f r w ram flash out
unfolding written writes numbered laid
ran_none m p f r w ram flash at v out e =
    record { lent = record { by_mapping = refl; by_permissions = refl; by_flips = refl; by_readable = refl; by_jlp = refl; by_ram = refl; by_flash = refl }; tidy = e; reported = refl }

-- and from words that were made tidy
pub ran_from : (m₀ p₀ f₀ : List ℕ) (r₀ : ℕ) (w₀ w₁ ram flash at v out : List ℕ) (i : ℕ) (m p f : List ℕ) (r : ℕ) (w k s t : List ℕ) → w₁ ≡ words_of (jlp_from w₀)
    → Ran (carried m₀ p₀ f₀ r₀ (jlp_from w₁)) ram flash at v out i m p f r w k s t → Ran (carried m₀ p₀ f₀ r₀ (jlp_from w₀)) ram flash at v out i m p f r w k s t
ran_from m₀ p₀ f₀ r₀ w₀ w₁ ram flash at v out i m p f r w k s t e h =
    subst (λ (j : Jlp). Ran (carried m₀ p₀ f₀ r₀ j) ram flash at v out i m p f r w k s t) (from_tidied w₀ w₁ e) h
