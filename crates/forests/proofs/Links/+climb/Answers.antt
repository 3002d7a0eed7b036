use mathlib.Core.Path.{◌∙◌}
use native.Mathlib.Omega.{arith}
use Rattle.forests.proofs.Climbs.{climb-none, climb-one, climb-two, climb-on, climb-closed, next-law}
use Rattle.forests.proofs.Links.+climb.Goals as goal

pub returns-then-fuel-eq0 : goal.returns-then-fuel-eq0
returns-then-fuel-eq0 t c =
    let a = c.args in
    let n = a.reach.now in
    climb-none a.self n.marks n.one n.two c.requires.0 c.requires.1 a.fuel a.l a.ds (omega arith)

pub returns-in-Some : goal.returns-in-Some
returns-in-Some t c =
    let a = c.args in
    let n = a.reach.now in
    climb-one a.self n.marks n.one n.two c.requires.0 c.requires.1 a.fuel a.l a.ds (omega arith) c.meet.result c.first.result c.meet.ensures c.first.ensures c.in-Some.link c.in-Some.is

pub returns-in-Some-first : goal.returns-in-Some-first
returns-in-Some-first t c =
    let a = c.args in
    let n = a.reach.now in
    climb-two a.self n.marks n.one n.two c.requires.0 c.requires.1 a.fuel a.l a.ds (omega arith) c.meet.result c.first.result c.meet.ensures c.first.ensures c.in_default.is
    c.meet-2.result c.first-2.result c.meet-2.ensures c.first-2.ensures c.in-Some-first.link c.in-Some-first.is

pub climb-requires : goal.climb-requires
climb-requires t c =
    let a = c.args in
    (omega (arith, c.decreases), (c.requires.0, c.requires.1, c.requires.2, omega (arith, c.requires.3)))

pub returns-in-Some-first-2 : goal.returns-in-Some-first-2
returns-in-Some-first-2 t c =
    let a = c.args in
    let n = a.reach.now in
    c.climb.ensures
    ∙ climb-on a.self n.marks n.one n.two c.requires.0 c.requires.1 a.fuel a.l a.ds (omega arith) c.meet.result c.first.result c.meet.ensures c.first.ensures c.in_default.is
    c.meet-2.result c.first-2.result c.meet-2.ensures c.first-2.ensures c.in_default-first.is
    c.next-up.result (next-law a.self n.marks n.one n.two c.requires.0 c.requires.1 n.cuts c.requires.2 a.ds c.next-up.result c.next-up.ensures)
    c.difference.result c.first-3.result c.difference.ensures c.first-3.ensures c.in-Some-first-2.field-0 c.in-Some-first-2.is

pub returns-in-None : goal.returns-in-None
returns-in-None t c =
    let a = c.args in
    let n = a.reach.now in
    climb-closed a.self n.marks n.one n.two c.requires.0 c.requires.1 a.fuel a.l a.ds (omega arith) c.meet.result c.first.result c.meet.ensures c.first.ensures c.in_default.is
    c.meet-2.result c.first-2.result c.meet-2.ensures c.first-2.ensures c.in_default-first.is
    c.next-up.result (next-law a.self n.marks n.one n.two c.requires.0 c.requires.1 n.cuts c.requires.2 a.ds c.next-up.result c.next-up.ensures)
    c.difference.result c.first-3.result c.difference.ensures c.first-3.ensures c.in-None.is
