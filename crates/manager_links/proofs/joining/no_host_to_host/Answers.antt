use Rattle.std.proofs.Common.{◌∙◌, ◌≤◌, length, ap, sym, subst, arith}
use Rattle.std.specs.Prelude.{All}
use Rattle.std.proofs.lemmas.List.{take_all}
use Rattle.kernel_meaning.specs.declared.plan.End.TheVariants as E
use Rattle.kernel_meaning.specs.declared.plan.Join.{Join}
use Rattle.manager_links.specs.Joined.{is_of_kernel}
use Rattle.manager_links.specs.Rules.{IsHostToHost}
use Rattle.manager_links.proofs.Pieces.{first_read}
use Rattle.manager_links.proofs.joining.no_host_to_host.Goals as goal

pub returns-in-Cpu-Cpu-clause-err : goal.returns-in-Cpu-Cpu-clause-err
returns-in-Cpu-Cpu-clause-err c =
    let joins = c.args.joins.now in
    let join = c.join-item.result in
    let lt = c.loop-join-test.true in
    record {
      join = join;
      first = first_read IsHostToHost joins c.loop-join.join-index join lt c.join-item.is c.loop-join.invariant
          (record { left = ap is_of_kernel c.in-Cpu-Cpu.is-0; right = ap is_of_kernel c.in-Cpu-Cpu.is-1 });
      said = c.in-Cpu-Cpu.is-0 ∙ ap E.Cpu (sym c.in_ok-copy.ensures);
    }

pub returns-clause-ok : goal.returns-clause-ok
returns-clause-ok c =
    let joins = c.args.joins.now in
    let end : length joins ≤ c.loop-join.join-index = omega (arith, c.loop-join-test.false) in
    subst (λ xs. All (λ (join : Join). IsHostToHost join → ⊥) xs) (take_all c.loop-join.join-index joins end)
    c.loop-join.invariant
