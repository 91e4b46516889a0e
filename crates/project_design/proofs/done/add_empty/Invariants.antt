use Rattle.std.proofs.Common.{◌≡◌, ◌+◌, ◌*◌, ◌++◌, drop}
use Rattle.project_rtl.specs.Tops.{empty_assigns}
use Rattle.project_design.proofs.done.add_empty.Given as goal

abbrev pub invariant-loop-valid : goal.invariant-loop-valid
invariant-loop-valid l = record {
  told :
      l.assigns ++ empty_assigns l.done l.next l.last (drop l.valid-index l.valids)
      ≡ l.initial.assigns ++ empty_assigns l.done l.from l.before l.valids;
  next : l.next ≡ l.from + 2 * l.valid-index;
}
