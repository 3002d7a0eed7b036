use Prim.Native.Nat.{ℕ, suc, ◌+◌, ◌≤◌, ◌<◌}
use mathlib.Core.Path.{◌≡◌, sym, ◌∙◌}
use mathlib.Core.List.{List, ◌++◌, map, append-nil}
use native.Mathlib.Nat.{le_refl}
use native.Mathlib.Numerals.{add-one}
use native.Mathlib.Omega.{arith}
use lib.ListN.{length, take, drop, set, get_or, drop_of_length-le}
use lib.Seq.{take_all, take-suc-set, drop-set-lt, drop-cons, append_snoc}
use Rattle.reliability.specs.Networks.{merge}
use Rattle.labelling.proofs.all_merged.Goals as goal

-- the first k are mapped, the others not yet: one more
turn : (f : ℕ → ℕ) (l : List ℕ) (k y : ℕ) → k < length l → y ≡ f (get_or l k 0) → take (k + 1) (set l k y) ++ map f (drop (k + 1) (set l k y)) ≡ take k l ++ map f (drop k l)
turn f l k y h e = rw (add-one, take-suc-set l k y h, drop-set-lt (suc k) l k y (le_refl (suc k)), drop-cons l k 0 h, e, append_snoc)

ended : (f : ℕ → ℕ) (l : List ℕ) (k : ℕ) → length l ≤ k → take k l ++ map f (drop k l) ≡ l
ended f l k h = rw (take_all k l h, drop_of_length-le l h, append-nil)

pub loop-z-preserved : goal.loop-z-preserved
loop-z-preserved c = turn (merge c.args.x c.args.y) c.loop-z.z-items c.loop-z.z-index c.merged.result (omega arith) c.merged.ensures ∙ c.loop-z.invariant

pub returns : goal.returns
returns c = sym (ended (merge c.args.x c.args.y) c.loop-z.z-items c.loop-z.z-index (omega arith)) ∙ c.loop-z.invariant
