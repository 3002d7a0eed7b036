use Prim.Native.Nat.{ℕ, ◌+◌, ◌≤◌}
use native.Mathlib.Omega.{arith}
use mathlib.Core.Path.{◌≡◌, sym, ap₂, subst, ◌∙◌}
use mathlib.Core.List.{List, [], ◌∷◌}
use lib.ListN.{length}
use Rattle.plan.specs.declared.Cause.{Cause}
use Rattle.plan.specs.Plans.{number, named_link}
use Rattle.lines.specs.Lines.{Puts, text, filled}
use Rattle.listing_lines.specs.Entries.{refused_line}
use Rattle.listing_lines.proofs.put_refusal.Goals as goal

line : (c : Cause) (r i : ℕ) → r ≡ number c → i ≡ named_link c → filled (r ∷ i ∷ []) (text "refused 0 at 1\n") ≡ refused_line c
line c r i e f = ap₂ (λ (x y : ℕ). filled (x ∷ y ∷ []) (text "refused 0 at 1\n")) e f

pub returns : goal.returns
returns c =
    let a = c.args in
    let n = c.from in
    let i = c.from-2 in
    let p = c.put_line in
    subst (λ (l : List ℕ). Puts a.text.now 0 l p.new.text p.result) (line a.c n.result i.result (n.ensures ∙ c.number.ensures) (i.ensures ∙ c.named_link.ensures)) p.ensures

pub put_line-requires : goal.put_line-requires
put_line-requires c =
    let a = c.args in
    let n = c.from in
    let i = c.from-2 in
    subst (λ (l : List ℕ). 0 + length l ≤ length a.text.now) (sym (line a.c n.result i.result (n.ensures ∙ c.number.ensures) (i.ensures ∙ c.named_link.ensures))) (omega (arith, c.requires))
