-- The connections of an instance, one by one, and its module.
use Rattle.std.proofs.Common.{◌≡◌, ◌∙◌, ℕ, ◌+◌, ◌<◌, Bool, true, false, ◌&&◌, not, List, [], ◌∷◌}
use Rattle.std.proofs.Common.{◌++◌, length, map, take, set, get_or, Option, Some, None, is_some}
use Rattle.std.proofs.Common.{Result, Ok, Err, sym, ap, subst, arith}
use Rattle.std.specs.Prelude.{slice_get}
use Rattle.std.specs.Option.{option_map}
use Rattle.std.proofs.lemmas.List.{length-map, length-take}
use Rattle.std.proofs.lemmas.Option.{slice_get-map, slice_get-get_or}
use Rattle.rtl_ir.specs.declared.design.Module.{Module}
use Rattle.rtl_text.specs.Tree as tree
use Rattle.rtl_text.specs.Tree.{Name}
use Rattle.rtl_text.specs.Text.{IsNet}
use Rattle.verilog_syntax.specs.Trees.{connection_view, port_view}
use Rattle.verilog_syntax.specs.declared.tree.Connection.{Connection}
use Rattle.verilog_syntax.specs.declared.tree.PortTree.{PortTree}
use Rattle.rtl_reading.specs.Uses.{Use, Scope, is_in, net, port_name, connection_uses, item_uses, ports_named, module_named, first_undeclared}
use Rattle.verilog_read.specs.Walk.{AllDeclared, IsFault, Gives}
use Rattle.verilog_read.specs.Built.{IsPartOf}
use Rattle.rtl_ir.specs.declared.design.Instance.{Instance}
use Rattle.verilog_read.specs.Joined.{named_ports, AreJoined, IsFree, IsTaken, IsFirstFree, Says, instance_uses}
use Rattle.verilog_read.specs.declared.fault.Fault.{Fault}
use Rattle.verilog_read.specs.declared.fault.Fault.TheVariants.{Unknown, NoMemory}
use Rattle.verilog_read.proofs.Tables.{lone_known, lone_unknown}
use Rattle.verilog_read.proofs.FirstUse.{both, fault_later, fault_sooner, sooner}
use Rattle.verilog_read.proofs.Seq.{Split, get_split, map_more, map_whole}
use Rattle.verilog_read.proofs.Joins.{uses_joined, own_known, own_unknown, joined_more}

says_fault : (name : Name) (b : Bool) (us : List Use) (f : Fault) → b ≡ false → Says f name → IsFault (record { name = name; declared = b } ∷ us) f
says_fault name b us (Unknown other) e s = sooner (record { name = name; declared = b } ∷ []) us other.now (lone_unknown name b e ∙ ap Some (sym s))
says_fault name b us NoMemory e s = tt

module _ (sc : Scope) (m : Module) (ports : List Name) {connections : List Connection} {i : ℕ} {x : Connection} (s : Split connections i x) (slots : List (Option ℕ))
    (h : AllDeclared (connection_uses sc ports [] (map connection_view (take i connections))) (AreJoined m ports (map connection_view (take i connections)) slots)) where
  front : List tree.Connection
  front = map connection_view (take i connections)

  test : Bool
  test = is_in (connection_view x).port ports && not (is_in (connection_view x).port (named_ports (map connection_view (take i connections))))

  pub taken_fault : (f : Fault) → Says f x.port.now → IsTaken ports slots x.port.now → IsFault (connection_uses sc ports [] (map connection_view connections)) f
  taken_fault f says t =
      let c = connection_view x in
      let fs = map connection_view (take i connections) in
      let back = connection_uses sc ports (fs ++ c ∷ []) (map connection_view s.rest) in
      let b = is_in c.port ports && not (is_in c.port (named_ports fs)) in
      subst (λ l. IsFault l f) (sym (ap (connection_uses sc ports []) (map_whole connection_view s) ∙ uses_joined sc ports [] fs (c ∷ map connection_view s.rest)))
      (fault_later (connection_uses sc ports [] fs) (record { name = c.port; declared = b }
      ∷ net sc c.net ∷ back) f h.known (says_fault c.port b (net sc c.net
      ∷ back) f (own_unknown sc m ports fs c slots h.holds t) says))

  pub net_fault : (k : ℕ) (f : Fault) → IsFree ports slots x.port.now k → IsFault (net sc x.net.now ∷ []) f → IsFault (connection_uses sc ports [] (map connection_view connections)) f
  net_fault k f free g =
      let c = connection_view x in
      let fs = map connection_view (take i connections) in
      let back = connection_uses sc ports (fs ++ c ∷ []) (map connection_view s.rest) in
      let b = is_in c.port ports && not (is_in c.port (named_ports fs)) in
      subst (λ l. IsFault l f) (sym (ap (connection_uses sc ports []) (map_whole connection_view s) ∙ uses_joined sc ports [] fs (c ∷ map connection_view s.rest)))
      (fault_later (connection_uses sc ports [] fs) (record { name = c.port; declared = b } ∷ net sc c.net ∷ back) f h.known
      (fault_later (record { name = c.port; declared = b } ∷ []) (net sc c.net
      ∷ back) f (lone_known c.port b (own_known sc m ports fs c slots h.holds k free))
      (fault_sooner (net sc c.net ∷ []) back f g)))

  pub one_more : (k n : ℕ) → IsFree ports slots x.port.now k → AllDeclared (net sc x.net.now ∷ []) (IsNet m x.net.now n)
      → AllDeclared (connection_uses sc ports [] (map connection_view (take (i + 1) connections))) (AreJoined m ports (map connection_view (take (i + 1) connections)) (set slots k (Some n)))
  one_more k n free g =
      let c = connection_view x in
      let fs = map connection_view (take i connections) in
      let b = is_in c.port ports && not (is_in c.port (named_ports fs)) in
      let own : Use = record { name = c.port; declared = b } in
      subst (λ l. AllDeclared (connection_uses sc ports [] l) (AreJoined m ports l (set slots k (Some n)))) (sym (map_more connection_view s)) (record {
        known = ap first_undeclared (uses_joined sc ports [] fs (c
            ∷ [])) ∙ both (connection_uses sc ports [] fs) (own ∷ net sc c.net
            ∷ []) h.known (both (own ∷ []) (net sc c.net
            ∷ []) (lone_known c.port b (own_known sc m ports fs c slots h.holds k free)) g.known);
        holds = joined_more sc m ports fs c slots h.holds k n free g.holds;
      })

-- the first port that isn't joined
pub first_free : (ports : List PortTree) (slots : List (Option ℕ)) (all : List ℕ) (i : ℕ)
    (d : Option ℕ) (p : PortTree) (name : Name) → i < length slots → length slots ≡ length ports
    → take i slots ≡ map (λ n. Some n) all → get_or slots i d ≡ None
    → name ≡ port_name (port_view (get_or ports i p)) → IsFirstFree (map port_name (map port_view ports)) slots name
first_free ports slots all i d p name lt size e none is =
    let s = get_split slots i d lt in
    let count : length all ≡ i = omega (arith, ap length e, length-map all (λ (n : ℕ). Some n), length-take i slots) in
    record {
      nets = all;
      rest = s.rest;
      are = s.whole ∙ ap (λ l. l ++ get_or slots i d ∷ s.rest) e ∙ ap (λ o. map (λ (n : ℕ). Some n) all ++ o ∷ s.rest) none;
      at = ap (slice_get (map port_name (map port_view ports))) count ∙ slice_get-map port_name
          (map port_view ports) i ∙ ap (option_map port_name)
          (slice_get-map port_view ports i ∙ ap (option_map port_view)
          (slice_get-get_or ports i p (omega (arith, size)))) ∙ ap Some (sym is);
    }

pub free_moved : (ports : List Name) {xs ys : List (Option ℕ)} {name : Name} {k : ℕ} → xs ≡ ys → IsFree ports xs name k → IsFree ports ys name k
free_moved ports {name = name} {k = k} e h = subst (λ l. IsFree ports l name k) e h

pub taken_moved : (ports : List Name) {xs ys : List (Option ℕ)} (name : Name) → xs ≡ ys → IsTaken ports xs name → IsTaken ports ys name
taken_moved ports name e h = subst (λ l. IsTaken ports l name) e h

-- an instance of the module of a name
pub gives_instance : (sc : Scope) (m : Module) (of name : Name) (cs : List tree.Connection) (r : Result Instance Fault) (t : tree.ModuleTree) → module_named sc.modules of ≡ Some t → t.name ≡ of
    → Gives r (instance_uses sc (map port_name t.ports) cs) (IsPartOf sc.modules m (record { of = t.name; name = name; connections = cs }))
    → Gives r (item_uses sc (tree.InstanceItem of name cs)) (IsPartOf sc.modules m (record { of = of; name = name; connections = cs }))
gives_instance sc m of name cs r t found named h =
    subst (λ o. Gives r (record { name = of; declared = is_some o } ∷ instance_uses sc (ports_named o) cs) (IsPartOf sc.modules m (record { of = of; name = name; connections = cs }))) (sym found)
    (behind (instance_uses sc (map port_name t.ports) cs)
    (IsPartOf sc.modules m (record { of = of; name = name; connections = cs })) r
    (subst (λ n. Gives r (instance_uses sc (map port_name t.ports) cs)
    (IsPartOf sc.modules m (record { of = n; name = name; connections = cs }))) named h))
  where
    fault_behind : (us : List Use) (f : Fault) → IsFault us f → IsFault (record { name = of; declared = true } ∷ us) f
    fault_behind us (Unknown other) e = e
    fault_behind us NoMemory e = tt

    behind : (us : List Use) (P : Instance → Type 0) (r : Result Instance Fault) → Gives r us P → Gives r (record { name = of; declared = true } ∷ us) P
    behind us P (Ok x) g = record { known = g.known; holds = g.holds }
    behind us P (Err f) g = fault_behind us f g
