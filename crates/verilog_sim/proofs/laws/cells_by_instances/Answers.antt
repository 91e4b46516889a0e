use Rattle.verilog_sim.proofs.CellSums.{has_cells, only_cells}
use Rattle.verilog_sim.proofs.laws.cells_by_instances.Goals as goal

pub returns-clause-has : goal.returns-clause-has
returns-clause-has c = λ d m f at. has_cells d m f at

pub returns-clause-only : goal.returns-clause-only
returns-clause-only c = λ d m n f at h. only_cells d m n f at h
