use Prim.Native.Nat.{ℕ}
use mathlib.Core.Path.{◌≡◌, ap, ◌∙◌}
use mathlib.Core.Bool.{Bool, true, cond}
use native.Mathlib.Omega.{arith}
use lib.ListN.{set}
use borrow.Author.Rules.{rules}
use Rattle.bits.specs.Members.{members}
use Rattle.labelling.proofs.Laws.{upto-start, upto_put, upto-end}
use Rattle.labelling.proofs.where_true.Goals as goal

pub loop-i-init : goal.loop-i-init
loop-i-init g c = (search rules, λ q h. upto-start q)

-- what the test answered is what is asked
as_asked : (s r i : ℕ) (t b : Bool) → t ≡ b → members r ≡ cond t (set (members s) i true) (members s) → members r ≡ cond b (set (members s) i true) (members s)
as_asked s r i t b e h = h ∙ ap (λ u. cond u (set (members s) i true) (members s)) e

pub loop-i-preserved : goal.loop-i-preserved
loop-i-preserved g c = (
  search rules,
  λ q h.
      let l = c.loop-i in
      let put = as_asked l.s c.put-s.result l.i c.test.result (q l.i) (h l.i (omega arith) c.test.result c.test.ensures) c.put-s.ensures in
      upto_put q l.s c.put-s.result l.i (l.invariant.1 q h) put (omega (arith, c.requires.most)),
)

pub returns : goal.returns
returns g c = λ q h. let l = c.loop-i in upto-end q l.s l.i c.args.m (l.invariant.1 q h) (omega arith)
