use Prim.Native.Nat.{◌+◌}
use mathlib.Core.Path.{◌∙◌}
use native.Mathlib.Omega.{arith}
use Rattle.forests.proofs.Climbs.{climb-one, climb-two, search-start}
use Rattle.forests.proofs.Links.search.Goals as goal

pub returns-in-Some : goal.returns-in-Some
returns-in-Some c =
    let a = c.args in
    climb-one a.self a.marks c.takes-one.result c.takes-two.result c.requires (c.takes-one.ensures, c.takes-two.ensures) (a.self.m + 1) 0 c.with_mark-ds.result (omega arith) c.meet.result c.first.result c.meet.ensures c.first.ensures c.in-Some.link c.in-Some.is
    ∙ search-start a.self a.marks c.with_mark-ds.result c.with_mark-ds.ensures

pub returns-in-Some-first : goal.returns-in-Some-first
returns-in-Some-first c =
    let a = c.args in
    climb-two a.self a.marks c.takes-one.result c.takes-two.result c.requires (c.takes-one.ensures, c.takes-two.ensures) (a.self.m + 1) 0 c.with_mark-ds.result (omega arith) c.meet.result c.first.result c.meet.ensures c.first.ensures c.in_default.is
    c.meet-2.result c.first-2.result c.meet-2.ensures c.first-2.ensures c.in-Some-first.link c.in-Some-first.is
    ∙ search-start a.self a.marks c.with_mark-ds.result c.with_mark-ds.ensures

pub returns : goal.returns
returns c =
    let a = c.args in
    c.climb.ensures ∙ search-start a.self a.marks c.with_mark-ds.result c.with_mark-ds.ensures
