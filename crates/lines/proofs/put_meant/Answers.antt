use mathlib.Core.Path.{◌≡◌, ap}
use native.Mathlib.Omega.{arith}
use Prim.Native.Nat.{◌-◌}
use lib.ListN.{length, get_or}
use borrow.Author.Rules.{rules}
use Rattle.lines.specs.Lines.{decimal, meant}
use Rattle.lines.proofs.Texts.{digit_meant}
use Rattle.lines.proofs.put_meant.Goals as goal

pub put_decimal-requires : goal.put_decimal-requires
put_decimal-requires c =
    let a = c.args in
    let number : c.unwrap_or.result ≡ get_or a.numbers.now (a.c - 48) 0 = search rules in
    let digits : meant a.numbers.now a.c ≡ decimal (get_or a.numbers.now (a.c - 48) 0) = search (rules, digit_meant) in
    omega (arith, ap length digits, ap (λ n. length (decimal n)) number, c.requires)
