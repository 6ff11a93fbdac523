-- As the functions come to it: the front of a buffer that is no longer than what is asked for is all of it.
use Rattle.std.specs.Prelude.{ℕ, ◌≤◌, List, ◌≡◌, length, take, Result}
use Rattle.std.proofs.Common.{◌∙◌, sym, ap, take_all}
use Rattle.places.specs.Limits.{lent}
use Rattle.basics.specs.declared.Refusal.{Refusal}
use Rattle.load.specs.declared.Loaded.{Loaded}
use Rattle.load.specs.Load.{Loading, loading_of, load_answer, loading_from, load_ram_of}
use Rattle.load.specs.Laws.Answers.{answered_back, answer_again}
use Rattle.build.specs.Building.{Building}
use Rattle.demands.specs.Pressing.{Loads, Pressed}

pub loads_whole :
    (left ram stored : List ℕ) (f : ℕ) (v : Result Loaded Refusal) (long : ℕ) → length left ≤ long → (v ≡ load_answer (loading_of left (lent ram) f)) × (stored ≡ load_ram_of left ram f)
    → Loads (take long left) ram f (loading_from v) stored × (v ≡ load_answer (loading_from v))
loads_whole left ram stored f v long h q =
    (rw (take_all long left h) (record { answer = answered_back left (lent ram) f v q.0; leaves = q.1 }), answer_again left (lent ram) f v q.0)

pub loads_front :
    (image ram stored : List ℕ) (f : ℕ) (v : Result Loaded Refusal) → (v ≡ load_answer (loading_of image (lent ram) f)) × (stored ≡ load_ram_of image ram f)
    → Loads image ram f (loading_from v) stored × (v ≡ load_answer (loading_from v))
loads_front image ram stored f v q = (record { answer = answered_back image (lent ram) f v q.0; leaves = q.1 }, answer_again image (lent ram) f v q.0)

-- what the records promise determines each answer and each buffer
module _ (bin cfg label out ram flash : List ℕ) (b c : Building) (left after : List ℕ) (l m : Loading) (stored kept : List ℕ)
    (p : Pressed (record { bin = bin; cfg = cfg; label = label; out = out; ram = ram; flash = flash; building = b; left = left; loading = l; stored = stored }))
    (q : Pressed (record { bin = bin; cfg = cfg; label = label; out = out; ram = ram; flash = flash; building = c; left = after; loading = m; stored = kept })) where
  pub one_building : b ≡ c
  one_building = p.answer ∙ sym q.answer

  pub one_left : left ≡ after
  one_left = p.leaves ∙ sym q.leaves

  front : take b.length left ≡ take c.length after
  front = ap (λ (x : Building). take x.length left) one_building ∙ ap (take c.length) one_left

  pub one_loading : l ≡ m
  one_loading = p.loads.answer ∙ ap (λ (s : List ℕ). loading_of s (lent ram) (length flash)) front ∙ sym q.loads.answer

  pub one_stored : stored ≡ kept
  one_stored = p.loads.leaves ∙ ap (λ (s : List ℕ). load_ram_of s ram (length flash)) front ∙ sym q.loads.leaves
