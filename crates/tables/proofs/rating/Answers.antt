use Prim.Native.Nat.{ℕ}
use mathlib.Core.Path.{◌≡◌, sym, ap, ◌∙◌}
use mathlib.Core.List.{List}
use mathlib.Core.Logic.{inl, inr}
use lib.ListN.{length}
use borrow.Author.Tests.{eqb-true, eqb-false}
use Rattle.ratings.specs.Ratings.{T}
use Rattle.tables.specs.Tables.{rating, BuyersTable, AcceptedTable}
use Rattle.tables.proofs.Theorems.{no_bytes, buyers-rating}
use Rattle.tables.proofs.rating.Goals as goal
use Rattle.tables.proofs.rating.Goals.{Else-is_empty}

-- of no bytes
built_in : (table : List ℕ) (k : ℕ) → length table ≡ 0 → T k ≡ rating table k
unfolding rating
built_in table k e = ap (λ l. rating l k) (sym (no_bytes table e))

-- of more
buyers : (table : List ℕ) → AcceptedTable table → (length table ≡ 0 → ⊥) → BuyersTable table
buyers table (inl e) n = absurd (n (ap length e))
buyers table (inr b) n = b

mine : (c : Else-is_empty) → BuyersTable c.args.table.now
mine c = buyers c.args.table.now c.requires.1 (eqb-false _ 0 (sym c.is_empty.ensures ∙ c.if-is_empty.false))

pub value-requires : goal.value-requires
value-requires c = (c.requires.0, (mine c).size)

pub returns-then-is_empty : goal.returns-then-is_empty
returns-then-is_empty c = c.rating.ensures.value ∙ built_in c.args.table.now c.args.k (eqb-true _ 0 (sym c.is_empty.ensures ∙ c.if-is_empty.true))

pub returns-else-is_empty : goal.returns-else-is_empty
returns-else-is_empty c = c.value.ensures ∙ buyers-rating c.args.table.now (mine (goal.at.returns-else-is_empty c).Else-is_empty) c.args.k
