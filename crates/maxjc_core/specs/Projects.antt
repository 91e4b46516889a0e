-- The project of a source and the latencies of a table, by their bytes, and why there are none.
use Rattle.std.specs.Prelude.{◌≡◌, List, ℕ, Ok, Err}
use Rattle.latency_table.specs.declared.error.TableError.{TableError}
use Rattle.latency_table.specs.declared.error.TableError.TheVariants as table_errors
use Rattle.latency_table.specs.declared.table.Table.{Table}
use Rattle.latency_table.specs.Tables.{Reads}
use Rattle.manager_links.specs.declared.project.Project.{Project}
use Rattle.maxj_syntax.specs.Source.{IsSourceOf, Fault, HasFirst}
use Rattle.maxj_syntax.specs.Tree.{ClassTree}
use Rattle.project_build.specs.Building as building
use Rattle.project_build.specs.Causes.{LacksProject}
use Rattle.project_build.specs.declared.error.ProjectError.{ProjectError}
use Rattle.maxjc_core.specs.CauseLines.{Cause, SourceFault, TableFault, NoProject}

-- The bytes are a source and a latency table: the classes of the source build this project, and the
-- table says these latencies.
pub record IsProjectOf (source table : List ℕ) (project : Project) (latencies : Table) : Type 0
  where
    pub classes : List ClassTree
    pub is : IsSourceOf source classes
    pub reads : Reads table (Ok latencies)
    pub built : building.IsProjectOf classes project

-- the bytes are a source, and those of the table have this fault
pub record HasTableFault (source table : List ℕ) (error : TableError) : Type 0 where
  pub classes : List ClassTree
  pub is : IsSourceOf source classes
  pub fault : error ≡ table_errors.NoMemory → ⊥
  pub reads : Reads table (Err error)

-- the bytes are a source and a latency table, and this is why the classes of the source build none
pub record BuildsNone (source table : List ℕ) (error : ProjectError) : Type 0 where
  pub classes : List ClassTree
  pub is : IsSourceOf source classes
  pub latencies : Table
  pub reads : Reads table (Ok latencies)
  pub lacks : LacksProject classes error

-- The cause for which the bytes of a source and of a table make no project, the first that stands: a
-- fault of the source, a fault of the table, or why the classes of the source build none.
pub data MakesNoProject (source table : List ℕ) : Cause → Type 0 where
  fault : (fault : Fault) → HasFirst source fault → MakesNoProject source table (SourceFault fault)
  table_fault :
      (error : TableError)
      → HasTableFault source table error
      → MakesNoProject source table (TableFault error)
  builds_none :
      (error : ProjectError)
      → BuildsNone source table error
      → MakesNoProject source table (NoProject error)
