use Rattle.std.proofs.Common.{◌≡◌, ◌∙◌, ℕ, ◌≤◌, List, length, sym, ap, subst, arith}
use Rattle.std.specs.Prelude.{All}
use Rattle.std.proofs.lemmas.Result.{err_from_is_err_and}
use Rattle.kernel_meaning.specs.declared.plan.Join.{Join}
use Rattle.stream_graph.specs.declared.kernel.Kernel.{Kernel}
use Rattle.manager_links.specs.declared.links.LinkEnds.{LinkEnds}
use Rattle.manager_links.specs.Loops.{AreOrdered}
use Rattle.manager_links.specs.Numbers.{IsSlot}
use Rattle.manager_links.specs.Ordering.{GoWithin, SaysLoop}
use Rattle.manager_links.specs.Rules.{AreFew, IsHostToHost}
use Rattle.manager_links.specs.Steps.{SaysHostToHost}
use Rattle.manager_links.specs.Terminals.{terminals}
use Rattle.manager_links.proofs.JoinEnds.{ends_known}
use Rattle.manager_links.proofs.Managing.{carried_out, go_within}
use Rattle.manager_links.proofs.Pieces.{zip_length}
use Rattle.manager_links.proofs.Refusing.{HasNames, HasEnds, HasTypes, by_name, by_count, by_unknown, by_twice, by_hosts, by_types, by_unlinked, by_loop}
use Rattle.manager_links.proofs.joints.managed.Goals as goal
use Rattle.manager_links.proofs.joints.managed.Goals.{then-kernels-eq0-via-then-kernels-eq0, then-kernels-eq0-via-else-kernels-eq0+then-kernels-gt-MOST_KERNELS}

few : (kernels : List Kernel) → (length kernels ≡ 0 → ⊥) → length kernels ≤ 64 → AreFew kernels
few kernels some most = record { some = omega arith; most = most }

pub returns-in_err-names_differ-clause-err : goal.returns-in_err-names_differ-clause-err
returns-in_err-names_differ-clause-err c =
    let p = err_from_is_err_and c.from_residual.result c.from_residual.ensures.1 in
    rw (p.1, p.2)
    (by_name c.args.plan.now c.args.kernels.now c.in_err-names_differ.field-0.0 c.requires.manager c.in_err-names_differ.ensures.err)

pub returns-then-kernels-eq0-clause-err : goal.returns-then-kernels-eq0-clause-err
returns-then-kernels-eq0-clause-err c =
    by_count c.args.plan.now c.args.kernels.now c.requires.manager c.in_ok-names_differ.ensures.ok
    (λ few. elim c.then-kernels-eq0.branch [
      | then-kernels-eq0-via-then-kernels-eq0 w ↦ let a = few.some in omega (arith, w.if-kernels-eq0.true)
      | then-kernels-eq0-via-else-kernels-eq0+then-kernels-gt-MOST_KERNELS w ↦ let a = few.most in omega (arith, w.if-kernels-gt-MOST_KERNELS.true)
    ])

pub returns-in_err-numbers-clause-err : goal.returns-in_err-numbers-clause-err
returns-in_err-numbers-clause-err c =
    let names : HasNames c.args.plan.now c.args.kernels.now = record {
      manager = c.requires.manager;
      names = c.in_ok-names_differ.ensures.ok;
      few = few c.args.kernels.now c.if-kernels-eq0.false c.if-kernels-gt-MOST_KERNELS.false;
    } in
    let p = err_from_is_err_and c.from_residual-in_err-numbers.result c.from_residual-in_err-numbers.ensures.1 in
    rw (p.1, p.2)
    (by_unknown c.args.plan.now c.args.kernels.now c.in_err-numbers.field-0.0 names c.in_err-numbers.ensures.err)

pub place_joins-requires-clause-count : goal.place_joins-requires-clause-count
place_joins-requires-clause-count c =
    ap length c.as_slice-slots.ensures.value
    ∙ sym (zip_length (IsSlot c.args.plan.now c.args.kernels.now) (terminals c.args.plan.now c.args.kernels.now)
    c.in_ok-known.known.slots.items c.in_ok-known.ensures.slots)

pub returns-in_err-places-clause-err : goal.returns-in_err-places-clause-err
returns-in_err-places-clause-err c =
    let names : HasNames c.args.plan.now c.args.kernels.now = record {
      manager = c.requires.manager;
      names = c.in_ok-names_differ.ensures.ok;
      few = few c.args.kernels.now c.if-kernels-eq0.false c.if-kernels-gt-MOST_KERNELS.false;
    } in
    let p = err_from_is_err_and c.from_residual-in_err-places.result c.from_residual-in_err-places.ensures.1 in
    rw (p.1, p.2)
    (by_twice c.args.plan.now c.args.kernels.now c.in_err-places.field-0.0 names
    (ends_known (terminals c.args.plan.now c.args.kernels.now) c.args.plan.now.joins
    c.in_ok-numbers.numbers.items c.in_ok-numbers.ensures.ok)
    c.in_err-places.ensures.err)

pub returns-in_err-no_host_to_host-clause-err : goal.returns-in_err-no_host_to_host-clause-err
returns-in_err-no_host_to_host-clause-err c =
    let names : HasNames c.args.plan.now c.args.kernels.now = record {
      manager = c.requires.manager;
      names = c.in_ok-names_differ.ensures.ok;
      few = few c.args.kernels.now c.if-kernels-eq0.false c.if-kernels-gt-MOST_KERNELS.false;
    } in
    let ends : HasEnds c.args.plan.now c.args.kernels.now = record {
      base = names;
      known = ends_known (terminals c.args.plan.now c.args.kernels.now) c.args.plan.now.joins
          c.in_ok-numbers.numbers.items c.in_ok-numbers.ensures.ok;
      once = c.in_ok-places.ensures.once;
    } in
    let p = err_from_is_err_and c.from_residual-in_err-no_host_to_host.result c.from_residual-in_err-no_host_to_host.ensures.1 in
    rw (p.1, p.2)
    (by_hosts c.args.plan.now c.args.kernels.now c.in_err-no_host_to_host.field-0.0 ends
    (subst (λ joins. SaysHostToHost joins c.in_err-no_host_to_host.field-0.0) c.as_slice.ensures
    c.in_err-no_host_to_host.ensures.err))

pub returns-in_err-links-clause-err : goal.returns-in_err-links-clause-err
returns-in_err-links-clause-err c =
    let names : HasNames c.args.plan.now c.args.kernels.now = record {
      manager = c.requires.manager;
      names = c.in_ok-names_differ.ensures.ok;
      few = few c.args.kernels.now c.if-kernels-eq0.false c.if-kernels-gt-MOST_KERNELS.false;
    } in
    let ends : HasEnds c.args.plan.now c.args.kernels.now = record {
      base = names;
      known = ends_known (terminals c.args.plan.now c.args.kernels.now) c.args.plan.now.joins
          c.in_ok-numbers.numbers.items c.in_ok-numbers.ensures.ok;
      once = c.in_ok-places.ensures.once;
    } in
    let p = err_from_is_err_and c.from_residual-in_err-links.result c.from_residual-in_err-links.ensures.1 in
    rw (p.1, p.2)
    (by_types c.args.plan.now c.args.kernels.now c.in_err-links.field-0.0 ends
    (subst (All (λ (join : Join). IsHostToHost join → ⊥)) c.as_slice.ensures c.in_ok-no_host_to_host.ensures.ok)
    c.in_err-links.ensures.err)

pub returns-in_err-partners-clause-err : goal.returns-in_err-partners-clause-err
returns-in_err-partners-clause-err c =
    let names : HasNames c.args.plan.now c.args.kernels.now = record {
      manager = c.requires.manager;
      names = c.in_ok-names_differ.ensures.ok;
      few = few c.args.kernels.now c.if-kernels-eq0.false c.if-kernels-gt-MOST_KERNELS.false;
    } in
    let ends : HasEnds c.args.plan.now c.args.kernels.now = record {
      base = names;
      known = ends_known (terminals c.args.plan.now c.args.kernels.now) c.args.plan.now.joins
          c.in_ok-numbers.numbers.items c.in_ok-numbers.ensures.ok;
      once = c.in_ok-places.ensures.once;
    } in
    let types : HasTypes c.args.plan.now c.args.kernels.now = record {
      ends = ends;
      hosts = subst (All (λ (join : Join). IsHostToHost join → ⊥)) c.as_slice.ensures
          c.in_ok-no_host_to_host.ensures.ok;
      types = c.in_ok-links.ensures.one;
    } in
    let p = err_from_is_err_and c.from_residual-in_err-partners.result c.from_residual-in_err-partners.ensures.1 in
    rw (p.1, p.2)
    (by_unlinked c.args.plan.now c.args.kernels.now c.in_err-partners.field-0.0 types
    c.in_err-partners.ensures.err)

pub order_of-requires-clause-within : goal.order_of-requires-clause-within
order_of-requires-clause-within c =
    subst (GoWithin (length c.args.kernels.now)) (sym c.as_slice-3.ensures)
    (go_within c.args.kernels.now c.args.plan.now.joins c.in_ok-links.links c.in_ok-links.ensures.joined)

pub returns-in_err-order-clause-err : goal.returns-in_err-order-clause-err
returns-in_err-order-clause-err c =
    let names : HasNames c.args.plan.now c.args.kernels.now = record {
      manager = c.requires.manager;
      names = c.in_ok-names_differ.ensures.ok;
      few = few c.args.kernels.now c.if-kernels-eq0.false c.if-kernels-gt-MOST_KERNELS.false;
    } in
    let ends : HasEnds c.args.plan.now c.args.kernels.now = record {
      base = names;
      known = ends_known (terminals c.args.plan.now c.args.kernels.now) c.args.plan.now.joins
          c.in_ok-numbers.numbers.items c.in_ok-numbers.ensures.ok;
      once = c.in_ok-places.ensures.once;
    } in
    let types : HasTypes c.args.plan.now c.args.kernels.now = record {
      ends = ends;
      hosts = subst (All (λ (join : Join). IsHostToHost join → ⊥)) c.as_slice.ensures
          c.in_ok-no_host_to_host.ensures.ok;
      types = c.in_ok-links.ensures.one;
    } in
    let p = err_from_is_err_and c.from_residual-in_err-order.result c.from_residual-in_err-order.ensures.1 in
    rw (p.1, p.2)
    (by_loop c.args.plan.now c.args.kernels.now c.in_ok-links.links c.in_err-order.field-0.0 types
    c.in_ok-partners.ensures.linked c.in_ok-links.ensures.joined
    (subst (λ links. SaysLoop c.args.kernels.now links c.in_err-order.field-0.0) c.as_slice-3.ensures
    c.in_err-order.ensures.err))

-- an order of links, where its lists are those of the answer
same_order : (count : ℕ) (links own : List LinkEnds) (order nodes ranks rank : List ℕ) → own ≡ links
    → order ≡ nodes → ranks ≡ rank → AreOrdered count own nodes rank → AreOrdered count links order ranks
same_order count links own order nodes ranks rank l o r is =
    subst (λ xs. AreOrdered count xs order ranks) l
    (subst (λ xs. AreOrdered count own xs ranks) (sym o) (subst (AreOrdered count own nodes) (sym r) is))

pub returns-clause-ok : goal.returns-clause-ok
returns-clause-ok c =
    let names : HasNames c.args.plan.now c.args.kernels.now = record {
      manager = c.requires.manager;
      names = c.in_ok-names_differ.ensures.ok;
      few = few c.args.kernels.now c.if-kernels-eq0.false c.if-kernels-gt-MOST_KERNELS.false;
    } in
    let ends : HasEnds c.args.plan.now c.args.kernels.now = record {
      base = names;
      known = ends_known (terminals c.args.plan.now c.args.kernels.now) c.args.plan.now.joins
          c.in_ok-numbers.numbers.items c.in_ok-numbers.ensures.ok;
      once = c.in_ok-places.ensures.once;
    } in
    let types : HasTypes c.args.plan.now c.args.kernels.now = record {
      ends = ends;
      hosts = subst (All (λ (join : Join). IsHostToHost join → ⊥)) c.as_slice.ensures
          c.in_ok-no_host_to_host.ensures.ok;
      types = c.in_ok-links.ensures.one;
    } in
    let few_links = c.in_ok-links.ensures.count in
    carried_out c.args.plan.now c.args.kernels.now c.in_ok-links.links c.in_ok-hosts.hosts.inputs
    c.in_ok-hosts.hosts.outputs c.from_vec.result c.from_vec-2.result (record {
      manager = c.requires.manager;
      managed = c.requires.whole.managed c.requires.manager;
      named = c.requires.named;
      names = names.names;
      few = names.few;
      known = ends.known;
      once = ends.once;
      hosts = types.hosts;
      joined = c.in_ok-links.ensures.joined;
      count = omega (arith, few_links, c.if-len.false, c.len.ensures);
      same_types = c.in_ok-links.ensures.types;
      types = types.types;
      linked = c.in_ok-partners.ensures.linked;
      ordered = same_order (length c.args.kernels.now) c.in_ok-links.links c.as_slice-3.result.now
          c.from_vec.result c.in_ok-order.order.nodes.items c.from_vec-2.result c.in_ok-order.order.rank.items
          c.as_slice-3.ensures c.from_vec.ensures c.from_vec-2.ensures c.in_ok-order.ensures.ok;
      fed = c.in_ok-hosts.ensures.inputs;
      given = c.in_ok-hosts.ensures.outputs;
      from_types = c.in_ok-hosts.ensures.from_types;
      to_types = c.in_ok-hosts.ensures.to_types;
    })
