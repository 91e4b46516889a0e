use Rattle.std.proofs.Common.{◌∙◌, ℕ, List, refl, sym, ap, subst, arith}
use Rattle.std.specs.Prelude.{All}
use Rattle.std.specs.List.{AllZip, filter_map}
use Rattle.std.proofs.lemmas.List.{take_all}
use Rattle.std.proofs.lemmas.List.Elements.{All-push}
use Rattle.std.proofs.lemmas.Option.{same_Some, slice_get_within}
use Rattle.manager_links.specs.declared.hosts.HostPort.{HostPort}
use Rattle.manager_links.specs.Hosts.{HasType, IsHostInput, IsHostOutput}
use Rattle.manager_links.specs.Numbers.{IsSlot}
use Rattle.manager_links.specs.Terminals.{FromCpu, ToCpu, terminals}
use Rattle.manager_links.proofs.CpuStreams.{from_name, to_name, from_names, to_names, has_from, has_to}
use Rattle.manager_links.proofs.CpuStreams.{has_port, more_hosts, same_hosts, GivesTo, TakesFrom}
use Rattle.manager_links.proofs.Pieces.{zip_length}
use Rattle.manager_links.proofs.hosts.managed_hosts.Goals as goal
use Rattle.manager_links.proofs.hosts.managed_hosts.Goals.{in-Port, in-FromCpu+in_ok-host_at-in-FromCpu+in_ok-push-in-FromCpu}
use Rattle.manager_links.proofs.hosts.managed_hosts.Goals.{in-ToCpu+in_ok-host_at-in-ToCpu+in_ok-push-in-ToCpu}

-- ---- a stream from the CPU

pub bounds-partners-number : goal.bounds-partners-number
bounds-partners-number c =
    (has_from c.args.plan.now c.args.kernels.now c.args.slots.now c.args.partners.now c.loop-number.number
    c.in-FromCpu.place c.requires.slots c.requires.partners c.requires.hosts c.loop-number-test.true
    c.in-FromCpu.is).within

pub port_at-port-requires : goal.port_at-port-requires
port_at-port-requires c =
    (has_from c.args.plan.now c.args.kernels.now c.args.slots.now c.args.partners.now c.loop-number.number
    c.in-FromCpu.place c.requires.slots c.requires.partners c.requires.hosts c.loop-number-test.true
    c.in-FromCpu.is).other.slot

pub at-requires : goal.at-requires
at-requires c =
    let own = has_from c.args.plan.now c.args.kernels.now c.args.slots.now c.args.partners.now
    c.loop-number.number c.in-FromCpu.place c.requires.slots c.requires.partners c.requires.hosts
    c.loop-number-test.true c.in-FromCpu.is in
    slice_get_within c.args.plan.now.from_cpu c.in-FromCpu.place own.name own.at

pub host_at-requires : goal.host_at-requires
host_at-requires c =
    (has_from c.args.plan.now c.args.kernels.now c.args.slots.now c.args.partners.now c.loop-number.number
    c.in-FromCpu.place c.requires.slots c.requires.partners c.requires.hosts c.loop-number-test.true
    c.in-FromCpu.is).other.some c.port_at-port.result c.port_at-port.ensures

-- ---- a stream to the CPU

pub bounds-partners-number-in-ToCpu : goal.bounds-partners-number-in-ToCpu
bounds-partners-number-in-ToCpu c =
    (has_to c.args.plan.now c.args.kernels.now c.args.slots.now c.args.partners.now c.loop-number.number
    c.in-ToCpu.place c.requires.slots c.requires.partners c.requires.hosts c.loop-number-test.true
    c.in-ToCpu.is).within

pub port_at-port-requires-in-ToCpu : goal.port_at-port-requires-in-ToCpu
port_at-port-requires-in-ToCpu c =
    (has_to c.args.plan.now c.args.kernels.now c.args.slots.now c.args.partners.now c.loop-number.number
    c.in-ToCpu.place c.requires.slots c.requires.partners c.requires.hosts c.loop-number-test.true
    c.in-ToCpu.is).other.slot

pub at-requires-in-ToCpu : goal.at-requires-in-ToCpu
at-requires-in-ToCpu c =
    let own = has_to c.args.plan.now c.args.kernels.now c.args.slots.now c.args.partners.now
    c.loop-number.number c.in-ToCpu.place c.requires.slots c.requires.partners c.requires.hosts
    c.loop-number-test.true c.in-ToCpu.is in
    slice_get_within c.args.plan.now.to_cpu c.in-ToCpu.place own.name own.at

pub host_at-requires-in-ToCpu : goal.host_at-requires-in-ToCpu
host_at-requires-in-ToCpu c =
    (has_to c.args.plan.now c.args.kernels.now c.args.slots.now c.args.partners.now c.loop-number.number
    c.in-ToCpu.place c.requires.slots c.requires.partners c.requires.hosts c.loop-number-test.true
    c.in-ToCpu.is).other.some c.port_at-port-in-ToCpu.result c.port_at-port-in-ToCpu.ensures

-- ---- one more

pub loop-number-preserved : goal.loop-number-preserved
loop-number-preserved c =
    let plan = c.args.plan.now in
    let kernels = c.args.kernels.now in
    let slots = c.args.slots.now in
    let partners = c.args.partners.now in
    let ends = terminals plan kernels in
    let n = c.loop-number.number in
    let now = c.loop-number.invariant in
    let lt = c.loop-number-test.true in
    let HostInput : List ℕ → HostPort → Type 0 = IsHostInput kernels plan.joins in
    let HostOutput : List ℕ → HostPort → Type 0 = IsHostOutput kernels plan.joins in
    elim c.match-slots-number.branch [
      | in-Port w ↦ (
          let own = has_port plan kernels slots n _ c.requires.slots lt w.in-Port.is refl in
          record {
            inputs = same_hosts HostInput from_name ends n own.0 c.loop-number.inputs
                c.match-slots-number.inputs now.inputs own.1 own.2 w.inputs-is;
            outputs = same_hosts HostOutput to_name ends n own.0 c.loop-number.outputs
                c.match-slots-number.outputs now.outputs own.1 own.3 w.outputs-is;
            from_types = subst (All (HasType kernels)) (sym w.inputs-is) now.from_types;
            to_types = subst (All (HasType kernels)) (sym w.outputs-is) now.to_types;
          })
      | in-FromCpu+in_ok-host_at-in-FromCpu+in_ok-push-in-FromCpu w ↦ (
          let own = has_from plan kernels slots partners n w.in-FromCpu.place c.requires.slots
          c.requires.partners c.requires.hosts lt w.in-FromCpu.is in
          let host = w.in_ok-host_at-in-FromCpu.field-0 in
          let of = w.in_ok-host_at-in-FromCpu.ensures in
          let made = w.inputs-is ∙ w.in_ok-push-in-FromCpu.ensures.ok in
          record {
            inputs = more_hosts HostInput from_name ends n (FromCpu own.name) c.loop-number.inputs
                c.match-slots-number.inputs own.name host now.inputs own.here refl made (record {
                  named = of.name ∙ same_Some w.at.result.now own.name (sym w.at.ensures ∙ own.at);
                  joined = subst (GivesTo kernels plan.joins own.name) (sym of.port)
                      (own.other.joined w.port_at-port.result w.port_at-port.ensures);
                });
            outputs = same_hosts HostOutput to_name ends n (FromCpu own.name) c.loop-number.outputs
                c.match-slots-number.outputs now.outputs own.here refl w.outputs-is;
            from_types = subst (All (HasType kernels)) (sym made)
                (All-push (HasType kernels) c.loop-number.inputs host now.from_types of.t);
            to_types = subst (All (HasType kernels)) (sym w.outputs-is) now.to_types;
          })
      | in-ToCpu+in_ok-host_at-in-ToCpu+in_ok-push-in-ToCpu w ↦ (
          let own = has_to plan kernels slots partners n w.in-ToCpu.place c.requires.slots
          c.requires.partners c.requires.hosts lt w.in-ToCpu.is in
          let host = w.in_ok-host_at-in-ToCpu.field-0 in
          let of = w.in_ok-host_at-in-ToCpu.ensures in
          let made = w.outputs-is ∙ w.in_ok-push-in-ToCpu.ensures.ok in
          record {
            inputs = same_hosts HostInput from_name ends n (ToCpu own.name) c.loop-number.inputs
                c.match-slots-number.inputs now.inputs own.here refl w.inputs-is;
            outputs = more_hosts HostOutput to_name ends n (ToCpu own.name) c.loop-number.outputs
                c.match-slots-number.outputs own.name host now.outputs own.here refl made (record {
                  named = of.name ∙ same_Some w.at-in-ToCpu.result.now own.name (sym w.at-in-ToCpu.ensures ∙ own.at);
                  joined = subst (TakesFrom kernels plan.joins own.name) (sym of.port)
                      (own.other.joined w.port_at-port-in-ToCpu.result w.port_at-port-in-ToCpu.ensures);
                });
            from_types = subst (All (HasType kernels)) (sym w.inputs-is) now.from_types;
            to_types = subst (All (HasType kernels)) (sym made)
                (All-push (HasType kernels) c.loop-number.outputs host now.to_types of.t);
          })
    ]

-- ---- all of them

pub returns-clause-inputs : goal.returns-clause-inputs
returns-clause-inputs c =
    let plan = c.args.plan.now in
    let kernels = c.args.kernels.now in
    let ends = terminals plan kernels in
    let size = zip_length (IsSlot plan kernels) ends c.args.slots.now c.requires.slots in
    subst (λ names. AllZip (IsHostInput kernels plan.joins) names c.loop-number.inputs)
    (ap (filter_map from_name) (take_all c.loop-number.number ends (omega (arith, c.loop-number-test.false)))
    ∙ from_names plan kernels)
    c.loop-number.invariant.inputs

pub returns-clause-outputs : goal.returns-clause-outputs
returns-clause-outputs c =
    let plan = c.args.plan.now in
    let kernels = c.args.kernels.now in
    let ends = terminals plan kernels in
    let size = zip_length (IsSlot plan kernels) ends c.args.slots.now c.requires.slots in
    subst (λ names. AllZip (IsHostOutput kernels plan.joins) names c.loop-number.outputs)
    (ap (filter_map to_name) (take_all c.loop-number.number ends (omega (arith, c.loop-number-test.false)))
    ∙ to_names plan kernels)
    c.loop-number.invariant.outputs
