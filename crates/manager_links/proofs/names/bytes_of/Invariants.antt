use Rattle.std.proofs.Common.{◌≡◌, take}
use Rattle.manager_links.specs.Naming.{texts_of}
use Rattle.manager_links.proofs.names.bytes_of.Given as goal

abbrev pub invariant-loop-text : goal.invariant-loop-text
invariant-loop-text l = texts_of l.names.items ≡ take l.text-index l.texts
