use Rattle.std.proofs.Common.{take}
use Rattle.manager_links.specs.Lists.{AllDiffer}
use Rattle.manager_links.specs.Naming.{texts_of}
use Rattle.manager_links.proofs.Naming.{HaveMet}
use Rattle.manager_links.proofs.names.all_differ.Given as goal

-- the names before this one were met, and differ
abbrev pub invariant-loop-name : goal.invariant-loop-name
invariant-loop-name l = record {
  met : HaveMet l.met (texts_of (take l.name-index l.names));
  differ : AllDiffer (texts_of (take l.name-index l.names));
}
