use mathlib.Core.Path.{ap₂, ◌∙◌}
use mathlib.Core.List.{◌∷◌, ◌++◌}
use lib.ListN.{set, drop}
use borrow.Author.Rules.{rules}
use borrow.Rule.Slice.PartMut.{put_mid}
use Rattle.figures.proofs.Marks.{as_byte}
use Rattle.game_desk.proofs.Bytes.{laid}
use Rattle.game_desk.proofs.put_game.Goals as goal

pub returns : goal.returns
returns c =
    let a = c.args in
    let b = a.b.now in
    ap₂ (λ ts hs. put_mid 66 32 (put_mid 2 64 (set (set b 0 c.from.result) 1 c.from-2.result) ts) hs) c.copy_from_slice.ensures.after c.copy_from_slice-2.ensures.after
    ∙ laid b a.r.trees a.r.groups c.from.result c.from-2.result c.requires (search rules) (search rules)
    ∙ ap₂ (λ x y. x ∷ y ∷ (a.r.trees ++ a.r.groups ++ drop 98 b)) (c.from.ensures ∙ as_byte a.r.second) (c.from-2.ensures ∙ as_byte a.r.first)
