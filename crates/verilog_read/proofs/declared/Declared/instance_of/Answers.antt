use Rattle.std.proofs.Common.{◌≡◌, ◌∙◌, ℕ, List, [], Option, map, refl, sym, subst}
use Rattle.std.proofs.lemmas.List.{length-map}
use Rattle.std.proofs.lemmas.Result.{err_from_is_err_and}
use Rattle.rtl_ir.specs.declared.design.Module.{Module}
use Rattle.rtl_text.specs.Tree as tree
use Rattle.rtl_text.specs.Tree.{Name}
use Rattle.verilog_syntax.specs.Trees.{port_view, connection_view, module_view}
use Rattle.verilog_syntax.specs.declared.tree.PortTree.{PortTree}
use Rattle.rtl_reading.specs.Uses.{Scope, port_name, connection_uses, joined_uses}
use Rattle.verilog_read.specs.Walk.{IsFault, AllDeclared}
use Rattle.verilog_read.specs.Joined.{AreJoined, IsMissing}
use Rattle.verilog_read.specs.declared.fault.Fault.{Fault}
use Rattle.verilog_read.specs.declared.fault.Fault.TheVariants.{Unknown, NoMemory}
use Rattle.verilog_read.proofs.FirstUse.{err_is, both, fault_later, fault_sooner}
use Rattle.verilog_read.proofs.Joins.{ended, missing}
use Rattle.verilog_read.proofs.declared.Declared.instance_of.Goals as goal

moved_fault : (sc : Scope) (cs : List tree.Connection) {xs ys : List PortTree} (f : Fault)
    → xs ≡ ys → IsFault (connection_uses sc (map port_name (map port_view xs)) [] cs) f
    → IsFault (connection_uses sc (map port_name (map port_view ys)) [] cs) f
moved_fault sc cs f e h = subst (λ l. IsFault (connection_uses sc (map port_name (map port_view l)) [] cs) f) e h

moved : (sc : Scope) (m : Module) (cs : List tree.Connection) (slots : List (Option ℕ))
    {xs ys : List PortTree} → xs ≡ ys
    → AllDeclared (connection_uses sc (map port_name (map port_view xs)) [] cs)
    (AreJoined m (map port_name (map port_view xs)) cs slots)
    → AllDeclared (connection_uses sc (map port_name (map port_view ys)) [] cs) (AreJoined m (map port_name (map port_view ys)) cs slots)
moved sc m cs slots e h = subst (λ l. AllDeclared (connection_uses sc (map port_name (map port_view l)) [] cs) (AreJoined m (map port_name (map port_view l)) cs slots)) e h

missing_fault : (m : Module) (ports : List Name) (cs : List tree.Connection)
    (slots : List (Option ℕ)) (f : Fault) → AreJoined m ports cs slots → IsMissing ports slots f
    → IsFault (joined_uses [] ports cs) f
missing_fault m ports cs slots (Unknown name) h i = missing m ports cs slots name.now h i
missing_fault m ports cs slots NoMemory h i = tt

pub returns-in_err-joined : goal.returns-in_err-joined
returns-in_err-joined c = λ sc m h t at.
    let ports = map port_name (map port_view c.args.tree.now.ports) in
    let cs = map connection_view c.args.connections.now in
    rw (err_is (err_from_is_err_and c.from_residual.result c.from_residual.ensures.1))
    (fault_sooner (connection_uses sc ports [] cs) (joined_uses [] ports cs) _ (moved_fault sc cs _ c.as_slice.ensures (c.in_err-joined.ensures.joined sc m h t)))

moved_missing : {xs ys : List PortTree} {slots others : List (Option ℕ)} (f : Fault) → xs ≡ ys
    → slots ≡ others → IsMissing (map port_name (map port_view xs)) slots f
    → IsMissing (map port_name (map port_view ys)) others f
moved_missing {ys = ys} {slots = slots} f d e h = subst (λ l. IsMissing (map port_name (map port_view ys)) l f) e (subst (λ l. IsMissing (map port_name (map port_view l)) slots f) d h)

pub returns-in_err-nets : goal.returns-in_err-nets
returns-in_err-nets c = λ sc m h t at.
    let ports = map port_name (map port_view c.args.tree.now.ports) in
    let cs = map connection_view c.args.connections.now in
    let j = moved sc m cs c.in_ok-joined.joined.items c.as_slice.ensures (c.in_ok-joined.ensures.joined sc m h t) in
    rw (err_is (err_from_is_err_and c.from_residual-in_err-nets.result c.from_residual-in_err-nets.ensures.1))
    (fault_later (connection_uses sc ports [] cs) (joined_uses [] ports cs) _ j.known
    (missing_fault m ports cs c.in_ok-joined.joined.items _ j.holds
    (moved_missing _ c.as_slice-2.ensures c.as_slice-3.ensures.value c.in_err-nets.ensures)))

pub returns : goal.returns
returns c = λ sc m h t at.
    let ports = map port_name (map port_view c.args.tree.now.ports) in
    let cs = map connection_view c.args.connections.now in
    let j = moved sc m cs c.in_ok-joined.joined.items c.as_slice.ensures (c.in_ok-joined.ensures.joined sc m h t) in
    let r = ended m ports cs c.in_ok-joined.joined.items c.in_ok-nets.nets j.holds (sym c.as_slice-3.ensures.value ∙ c.in_ok-nets.ensures) in
    record {
      known = both (connection_uses sc ports [] cs) (joined_uses [] ports cs) j.known r.known;
      holds = record {
        inner = module_view c.args.tree.now;
        of = at;
        module_named = refl;
        named = c.in_ok-name.ensures;
        joined = r.holds.joined;
        each_once = r.holds.each_once ∙ length-map (map port_view c.args.tree.now.ports) port_name;
      };
    }
