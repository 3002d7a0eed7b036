use Prim.Native.Nat.{ℕ, zero, suc, ◌+◌, ◌≤◌}
use mathlib.Core.Path.{◌≡◌, refl, sym, ap, ◌∙◌}
use mathlib.Core.List.{List}
use mathlib.Core.Bool.{Bool, true, false}
use native.Mathlib.Omega.{arith}
use native.Mathlib.Numerals.{add-one}
use lib.Dec.{eqb}
use lib.ListN.{length, take, get_or}
use borrow.Author.Rules.{rules}
use Rattle.std.specs.List.{count_by}
use Rattle.std.proofs.lemmas.List.Sums.{count_by_more_yes, count_by_more_no}
use Rattle.game.specs.Game.{marked}
use Rattle.game.specs.Forests.{count}
use Rattle.labelling.proofs.how_many.Goals as goal

-- elements counted are places counted
of_list : (k : ℕ) (ts : List ℕ) (m : ℕ) → m ≤ length ts → count_by (λ x. eqb x k) (take m ts) ≡ count m (marked k ts)
unfolding count
of_list k ts zero h = refl
of_list k ts (suc m) h = ap (λ n. count_by (λ x. eqb x k) (take n ts)) (sym (add-one m)) ∙ go (eqb (get_or ts m 0) k) refl (of_list k ts m (omega arith))
  where
    go : (b : Bool) → eqb (get_or ts m 0) k ≡ b → count_by (λ x. eqb x k) (take m ts) ≡ count m (marked k ts)
        → count_by (λ x. eqb x k) (take (m + 1) ts) ≡ elim b [ true ↦ suc (count m (marked k ts)) | false ↦ count m (marked k ts) ]
    go true e old = count_by_more_yes (λ x. eqb x k) ts m 0 (omega arith) e ∙ add-one _ ∙ ap suc old
    go false e old = count_by_more_no (λ x. eqb x k) ts m 0 (omega arith) e ∙ old

pub returns : goal.returns
returns c =
    let e : c.count.result ≡ count_by (λ x. eqb x c.args.k) (take c.args.m c.args.marks) = search rules in
    e ∙ of_list c.args.k c.args.marks c.args.m (omega arith)
