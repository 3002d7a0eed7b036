use Prim.Native.Nat.{ℕ, ◌+◌, ◌≤◌}
use mathlib.Core.Path.{◌≡◌, sym, ap, subst, ◌∙◌}
use mathlib.Core.List.{List, [], ◌∷◌}
use mir.Val.{bool_byte}
use lib.ListN.{length}
use Rattle.reliability.specs.declared.Figure.{Figure}
use Rattle.figures.proofs.Marks.{as_byte}
use Rattle.lines.specs.Lines.{Puts, text, filled}
use Rattle.listing_lines.specs.Entries.{figure_line}
use Rattle.listing_lines.proofs.put_figure.Goals as goal

line : (f : Figure) (r : ℕ) → r ≡ bool_byte f.finished → filled (f.low ∷ f.high ∷ f.steps ∷ r ∷ []) (text "low 0 high 1 steps 2 finished 3\n") ≡ figure_line f
line f r e = ap (λ (t : ℕ). filled (f.low ∷ f.high ∷ f.steps ∷ t ∷ []) (text "low 0 high 1 steps 2 finished 3\n")) (e ∙ as_byte f.finished)

pub returns : goal.returns
returns c =
    let a = c.args in
    let p = c.put_line in
    subst (λ (l : List ℕ). Puts a.text.now a.at l p.new.text p.result) (line a.f c.from.result c.from.ensures) p.ensures

pub put_line-requires : goal.put_line-requires
put_line-requires c =
    let a = c.args in
    subst (λ (l : List ℕ). a.at + length l ≤ length a.text.now) (sym (line a.f c.from.result c.from.ensures)) c.requires
