use mathlib.Core.Path.{refl}
use mathlib.Core.Logic.{inl}
use Rattle.tables.specs.Tables.{rating}
use Rattle.loading.proofs.built_in.Goals as goal

pub network_of-requires : goal.network_of-requires
network_of-requires c = (c.requires, inl refl)

-- no bytes rate as T does
pub returns : goal.returns
unfolding rating
returns c = c.network_of.ensures
