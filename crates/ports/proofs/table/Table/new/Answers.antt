-- Thirty-two times the same new port.
use Rattle.std.proofs.Common.{refl}
use Rattle.ports.specs.Turn.{new_table}
use Rattle.ports.proofs.table.Table.new.Goals as goal

pub returns : goal.returns
unfolding new_table
returns c = simp c.new.ensures refl
