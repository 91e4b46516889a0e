-- The names of the top module are names, and no two of them are the same.
use Rattle.std.proofs.Common.{◌≡◌, ◌∙◌, ℕ, zero, suc, ◌+◌, ◌*◌, ◌<◌, ◌≤◌, ◌^◌, true, inl, inr, List, [], ◌∷◌, ◌++◌, map, drop, take, Some, length, refl, sym, ap, subst}
use Rattle.std.proofs.Common.{arith, append_assoc}
use Rattle.std.specs.Prelude.{slice_get, ◌⊎◌, codes, All, sum_by}
use Rattle.std.specs.Fmt.{decimal}
use Rattle.std.specs.List.{flat_map}
use Rattle.std.specs.Cmp.Lexicographic.{bytes_decides}
use Rattle.std.proofs.lemmas.Bool.{false≢true}
use Rattle.std.proofs.lemmas.Fmt.{decimal_injective}
use Rattle.std.proofs.lemmas.Option.{get_or_from_slice_get}
use Rattle.rtl_ir.specs.declared.design.Net.{Net}
use Rattle.rtl_ir.specs.declared.design.Instance.{Instance}
use Rattle.rtl_ir.specs.declared.design.Module.{Module}
use Rattle.rtl_ir.specs.declared.design.Design.{Design}
use Rattle.rtl_ir.specs.Names.{is_name}
use Rattle.rtl_ir.specs.Rules.{names_of, AllDiffer}
use Rattle.rtl_ir.specs.Ports.{PortView, kernel_ports, scalar_ports, host_input_ports, host_output_ports, output_port, shape_ports, first_input, first_output}
use Rattle.rtl_build.specs.Wires.{wire_name}
use Rattle.stream_graph.specs.declared.kernel.Kernel.{Kernel}
use Rattle.stream_graph.specs.declared.node.Kind.{Kind}
use Rattle.stream_graph.specs.declared.node.Kind.TheVariants as K
use Rattle.stream_graph.specs.declared.node.Node.{Node}
use Rattle.stream_graph.specs.Kinds.{is_scalar}
use Rattle.stream_graph.specs.LookUps.{node_at, kind_at, no_node}
use Rattle.kernel_calls.specs.Laws.{is_port_name}
use Rattle.kernel_control.specs.Ports.{scalars_of}
use Rattle.kernel_ports.proofs.Kernels.{role_of, named}
use Rattle.link_fifo.specs.Netlist.{wires_from}
use Rattle.manager_links.specs.declared.hosts.HostPort.{HostPort}
use Rattle.manager_links.specs.declared.links.LinkEnds.{LinkEnds}
use Rattle.manager_links.specs.declared.links.Links.{Links}
use Rattle.manager_links.specs.declared.project.Project.{Project}
use Rattle.manager_links.specs.Lists as joins
use Rattle.manager_links.specs.Rules.{kernel_names}
use Rattle.project_rtl.specs.Shapes.{shape_of, scalar_shapes, scalar_shape, host_shape, port_count}
use Rattle.project_rtl.specs.Blocks.{scalar_count}
use Rattle.project_rtl.specs.Tops.{port_net, input_instances, output_instances, link_instances, kernel_instances, host_count, fifo_count, instances_of, wire_widths, top_module}
use Rattle.project_rtl.specs.Projects.{IsProjectOf}
use Rattle.project_rtl.specs.Kept.{AllKeepRules}
use Rattle.project_rules.proofs.Lists.{one_of, within, map_at, map_back, map_join, length_map, below_or, thrice, joined}
use Rattle.project_rules.proofs.Places.{number_is, first_place}
use Rattle.project_rules.proofs.Nets.{scalar_ports_join}
use Rattle.project_sizes.proofs.Limits.{few_wires as most_wires}
use Rattle.project_rules.proofs.Queues.{module_of}
use Rattle.rtl_delays.proofs.Spelled.{digits_are, digits_continue}
use Rattle.project_rules.proofs.Spelled.{Continues, drop_continues, name_continues, hold_spelled, ticks_spelled, scalar_spelled, in_spelled}
use Rattle.project_rules.proofs.Spelled.{out_spelled, fifo_in_spelled, fifo_out_spelled, fifo_link_spelled, kernel_spelled, wire_spelled, port_continues}
use Rattle.project_rules.proofs.Names.{first_byte, other_byte, one_place, class_of, AreApart, none_apart, IsGood, more_apart, one_differs, HasNoDollar, last_dollar}
use Rattle.project_rules.proofs.Names.{same_behind, port_no_dollar, IsOfThrice, at_first, at_second, at_third, of_thrice, of_joined}

abbrev port_name : PortView → List ℕ
port_name p = p.name

abbrev port_names : List PortView → List (List ℕ)
port_names ps = map port_name ps

-- ---- names by prefixes

-- names of a prefix before those of items that differ
front_differ : {A : Type 0} (front : List ℕ) (name : A → List ℕ) (xs : List A) → joins.AllDiffer (map name xs) → AllDiffer (map (λ x. front ++ name x) xs)
front_differ front name xs differ i j n e f =
    let a = map_back (λ x. front ++ name x) xs i n e in
    let b = map_back (λ x. front ++ name x) xs j n f in
    let same = same_behind front (name a.0) (name b.0) (a.2 ∙ sym b.2) in
    one_place (map name xs) differ i j (name a.0) (map_at name xs i a.0 a.1) (map_at name xs j b.0 b.1 ∙ ap (λ y. Some y) (sym same))

-- ---- controls of kernels

data IsControl (kernels : List Kernel) (i : ℕ) (x : List ℕ) : Type 0 where
  is_hold : (j : ℕ) (kernel : Kernel) → slice_get kernels j ≡ Some kernel → i ≡ 2 * j → x ≡ codes "hold$" ++ kernel.name → IsControl kernels i x
  is_ticks : (j : ℕ) (kernel : Kernel) → slice_get kernels j ≡ Some kernel → i ≡ 2 * j + 1 → x ≡ codes "ticks$" ++ kernel.name → IsControl kernels i x

later_control : (k : Kernel) (kernels : List Kernel) (i : ℕ) (x : List ℕ) → IsControl kernels i x → IsControl (k ∷ kernels) (suc (suc i)) x
later_control k kernels i x (is_hold j kernel e s r) = is_hold (suc j) kernel e (omega (arith, s)) r
later_control k kernels i x (is_ticks j kernel e s r) = is_ticks (suc j) kernel e (omega (arith, s)) r

control_is : (kernels : List Kernel) (i : ℕ) (x : List ℕ) → slice_get (port_names (kernel_ports (kernel_names kernels))) i ≡ Some x → IsControl kernels i x
control_is [] i x e = absurd (cc)
control_is (kernel ∷ kernels) zero x e = let s : codes "hold$" ++ kernel.name ≡ x = cc in is_hold 0 kernel refl (omega arith) (sym s)
control_is (kernel ∷ kernels) (suc zero) x e = let s : codes "ticks$" ++ kernel.name ≡ x = cc in is_ticks 0 kernel refl (omega arith) (sym s)
control_is (kernel ∷ kernels) (suc (suc i)) x e = later_control kernel kernels i x (control_is kernels i x e)

controls_differ : (kernels : List Kernel) → joins.AllDiffer (kernel_names kernels) → AllDiffer (port_names (kernel_ports (kernel_names kernels)))
controls_differ kernels differ i j x e f = by_kind (control_is kernels i x e) (control_is kernels j x f)
  where
    place : (a b : ℕ) (ka kb : Kernel) → slice_get kernels a ≡ Some ka → slice_get kernels b ≡ Some kb → ka.name ≡ kb.name → a ≡ b
    place a b ka kb p q same =
        let name : Kernel → List ℕ = λ k. k.name in
        one_place (kernel_names kernels) differ a b ka.name (map_at name kernels a ka p) (map_at name kernels b kb q ∙ ap (λ y. Some y) (sym same))

    by_kind : IsControl kernels i x → IsControl kernels j x → i ≡ j
    by_kind (is_hold a ka p s r) (is_hold b kb q t u) = let same = place a b ka kb p q (same_behind (codes "hold$") ka.name kb.name (sym r
        ∙ u)) in omega (arith, same, s, t)
    by_kind (is_hold a ka p s r) (is_ticks b kb q t u) = other_byte x (codes "hold$" ++ ka.name) (codes "ticks$" ++ kb.name) r u (λ h. omega (arith, h))
    by_kind (is_ticks a ka p s r) (is_hold b kb q t u) = other_byte x (codes "ticks$" ++ ka.name) (codes "hold$" ++ kb.name) r u (λ h. omega (arith, h))
    by_kind (is_ticks a ka p s r) (is_ticks b kb q t u) = let same = place a b ka kb p q (same_behind (codes "ticks$") ka.name kb.name (sym r
        ∙ u)) in omega (arith, same, s, t)

-- ---- streams of the host

abbrev stream_names : List ℕ → List HostPort → List (List ℕ)
stream_names front hosts =
    thrice (λ (i : ℕ) (host : HostPort). front ++ host.name ++ codes "$data") (λ (i : ℕ) (host : HostPort). front ++ host.name ++ codes "$valid")
    (λ (i : ℕ) (host : HostPort). front ++ host.name ++ codes "$ready") 0 hosts

ins_named : (i : ℕ) (hosts : List HostPort) → port_names (host_input_ports (map host_shape hosts))
    ≡ thrice (λ (i : ℕ) (host : HostPort). codes "in$" ++ host.name ++ codes "$data") (λ (i : ℕ) (host : HostPort). codes "in$" ++ host.name ++ codes "$valid")
    (λ (i : ℕ) (host : HostPort). codes "in$" ++ host.name ++ codes "$ready") i hosts
ins_named i [] = refl
ins_named i (host ∷ hosts) = ap (λ l. (codes "in$" ++ host.name ++ codes "$data") ∷ (codes "in$" ++ host.name ++ codes "$valid") ∷
    (codes "in$" ++ host.name ++ codes "$ready") ∷ l) (ins_named (i + 1) hosts)

outs_named : (i : ℕ) (hosts : List HostPort) → port_names (host_output_ports (map host_shape hosts))
    ≡ thrice (λ (i : ℕ) (host : HostPort). codes "out$" ++ host.name ++ codes "$data") (λ (i : ℕ) (host : HostPort). codes "out$" ++ host.name ++ codes "$valid")
    (λ (i : ℕ) (host : HostPort). codes "out$" ++ host.name ++ codes "$ready") i hosts
outs_named i [] = refl
outs_named i (host ∷ hosts) = ap (λ l. (codes "out$" ++ host.name ++ codes "$data") ∷ (codes "out$" ++ host.name ++ codes "$valid") ∷
    (codes "out$" ++ host.name ++ codes "$ready") ∷ l) (outs_named (i + 1) hosts)

stream_is : (front : List ℕ) (hosts : List HostPort) (i : ℕ) (x : List ℕ) → slice_get (stream_names front hosts) i ≡ Some x
    → (place : ℕ) × (host : HostPort) × (slice_get hosts place ≡ Some host) × (((i ≡ 3 * place) × (x ≡ front ++ host.name ++ codes "$data"))
    ⊎ (((i ≡ 3 * place + 1) × (x ≡ front ++ host.name ++ codes "$valid")) ⊎ ((i ≡ 3 * place + 2) × (x ≡ front ++ host.name ++ codes "$ready"))))
stream_is front hosts i x e =
    by_kind (of_thrice (λ (i : ℕ) (host : HostPort). front ++ host.name ++ codes "$data") (λ (i : ℕ) (host : HostPort). front ++ host.name ++ codes "$valid")
    (λ (i : ℕ) (host : HostPort). front ++ host.name ++ codes "$ready") 0 hosts i x e)
  where
    by_kind : IsOfThrice (λ (i : ℕ) (host : HostPort). front ++ host.name ++ codes "$data") (λ (i : ℕ) (host : HostPort). front ++ host.name ++ codes "$valid")
        (λ (i : ℕ) (host : HostPort). front ++ host.name ++ codes "$ready") 0 hosts i x
        → (place : ℕ) × (host : HostPort) × (slice_get hosts place ≡ Some host) × (((i ≡ 3 * place) × (x ≡ front ++ host.name ++ codes "$data"))
        ⊎ (((i ≡ 3 * place + 1) × (x ≡ front ++ host.name ++ codes "$valid")) ⊎ ((i ≡ 3 * place + 2) × (x ≡ front ++ host.name ++ codes "$ready"))))
    by_kind (at_first j host p s r) = (j, host, p, inl (s, r))
    by_kind (at_second j host p s r) = (j, host, p, inr (inl (s, r)))
    by_kind (at_third j host p s r) = (j, host, p, inr (inr (s, r)))

abbrev IsEnd : List ℕ → ℕ → ℕ → List ℕ → List ℕ → Type 0
IsEnd a i place x name =
    ((i ≡ 3 * place) × (x ≡ a ++ name ++ codes "$data"))
    ⊎ (((i ≡ 3 * place + 1) × (x ≡ a ++ name ++ codes "$valid")) ⊎ ((i ≡ 3 * place + 2) × (x ≡ a ++ name ++ codes "$ready")))

streams_differ : (front : List ℕ) (hosts : List HostPort) → joins.AllDiffer (map (λ (host : HostPort). host.name) hosts) → AllDiffer (stream_names front hosts)
streams_differ front hosts differ i j x e f =
    let a = stream_is front hosts i x e in
    let b = stream_is front hosts j x f in
    by_ends a.0 b.0 a.1 b.1 a.2 b.2 a.3 b.3
  where
    place : (a b : ℕ) (ha hb : HostPort) (s t : List ℕ) → slice_get hosts a ≡ Some ha → slice_get hosts b ≡ Some hb → HasNoDollar s → HasNoDollar t
        → front ++ ha.name ++ 36 ∷ s ≡ front ++ hb.name ++ 36 ∷ t → (a ≡ b) × (s ≡ t)
    place a b ha hb s t p q h k same =
        let r = last_dollar (front ++ ha.name) (front ++ hb.name) s t h k same in
        let name : HostPort → List ℕ = λ host. host.name in
        let own = same_behind front ha.name hb.name r.0 in
        (one_place (map name hosts) differ a b ha.name (map_at name hosts a ha p) (map_at name hosts b hb q ∙ ap (λ y. Some y) (sym own)), r.1)

    by_ends : (a b : ℕ) (ha hb : HostPort) → slice_get hosts a ≡ Some ha → slice_get hosts b ≡ Some hb → IsEnd front i a x ha.name → IsEnd front j b x hb.name → i ≡ j
    by_ends a b ha hb p q (inl u) (inl v) = let r = place a b ha hb (codes "data") (codes "data") p q refl refl (sym u.1
        ∙ v.1) in let m = r.0 in let s = u.0 in let t = v.0 in omega (arith, m, s, t)
    by_ends a b ha hb p q (inl u) (inr (inl v)) = let r = place a b ha hb (codes "data") (codes "valid") p q refl refl (sym u.1
        ∙ v.1) in let h = ap first_byte r.1 in absurd (omega (arith, h))
    by_ends a b ha hb p q (inl u) (inr (inr v)) = let r = place a b ha hb (codes "data") (codes "ready") p q refl refl (sym u.1
        ∙ v.1) in let h = ap first_byte r.1 in absurd (omega (arith, h))
    by_ends a b ha hb p q (inr (inl u)) (inl v) = let r = place a b ha hb (codes "valid") (codes "data") p q refl refl (sym u.1
        ∙ v.1) in let h = ap first_byte r.1 in absurd (omega (arith, h))
    by_ends a b ha hb p q (inr (inl u)) (inr (inl v)) = let r = place a b ha hb (codes "valid") (codes "valid") p q refl refl (sym u.1
        ∙ v.1) in let m = r.0 in let s = u.0 in let t = v.0 in omega (arith, m, s, t)
    by_ends a b ha hb p q (inr (inl u)) (inr (inr v)) = let r = place a b ha hb (codes "valid") (codes "ready") p q refl refl (sym u.1
        ∙ v.1) in let h = ap first_byte r.1 in absurd (omega (arith, h))
    by_ends a b ha hb p q (inr (inr u)) (inl v) = let r = place a b ha hb (codes "ready") (codes "data") p q refl refl (sym u.1
        ∙ v.1) in let h = ap first_byte r.1 in absurd (omega (arith, h))
    by_ends a b ha hb p q (inr (inr u)) (inr (inl v)) = let r = place a b ha hb (codes "ready") (codes "valid") p q refl refl (sym u.1
        ∙ v.1) in let h = ap first_byte r.1 in absurd (omega (arith, h))
    by_ends a b ha hb p q (inr (inr u)) (inr (inr v)) = let r = place a b ha hb (codes "ready") (codes "ready") p q refl refl (sym u.1
        ∙ v.1) in let m = r.0 in let s = u.0 in let t = v.0 in omega (arith, m, s, t)

-- ---- scalars

abbrev scalar_name : Kernel → ℕ → List ℕ
scalar_name kernel n = codes "scalar$" ++ kernel.name ++ codes "$" ++ (node_at kernel.nodes n).name

abbrev names_in : ℕ → Kernel → List (List ℕ)
names_in k kernel = map (scalar_name kernel) (scalars_of kernel.nodes)

names_sized : (k : ℕ) (kernel : Kernel) → length (names_in k kernel) ≡ scalar_count kernel
names_sized k kernel = length_map (scalar_name kernel) (scalars_of kernel.nodes)

own_scalars : (kernel : Kernel) (ns : List ℕ) → port_names (scalar_ports (map (scalar_shape kernel) ns)) ≡ map (scalar_name kernel) ns
own_scalars kernel [] = refl
own_scalars kernel (n ∷ ns) = ap (λ l. scalar_name kernel n ∷ l) (own_scalars kernel ns)

all_scalars : (k : ℕ) (kernels : List Kernel) → port_names (scalar_ports (flat_map scalar_shapes kernels)) ≡ joined names_in k kernels
all_scalars k [] = refl
all_scalars k (kernel ∷ kernels) =
    ap port_names (scalar_ports_join (scalar_shapes kernel) (flat_map scalar_shapes kernels))
    ∙ map_join port_name (scalar_ports (scalar_shapes kernel)) (scalar_ports (flat_map scalar_shapes kernels))
    ∙ ap (λ l. l ++ port_names (scalar_ports (flat_map scalar_shapes kernels))) (own_scalars kernel (scalars_of kernel.nodes))
    ∙ ap (λ l. names_in k kernel ++ l) (all_scalars (k + 1) kernels)

scalar_role : (kind : Kind) → is_scalar kind ≡ true → role_of kind ≡ 3
scalar_role K.Scalar h = refl
scalar_role _ h = absurd (false≢true h)

-- a scalar of a kernel, by its number
record IsScalar (nodes : List Node) (n : ℕ) : Type 0 where
  within' : n < length nodes
  role : role_of (kind_at nodes n) ≡ 3

scalar_of : (nodes : List Node) (q n : ℕ) → slice_get (scalars_of nodes) q ≡ Some n → IsScalar nodes n
scalar_of nodes q n e =
    let x = number_is is_scalar 0 nodes q n e in
    let y = x.is in
    let same : x.own ≡ n = omega (arith, y) in
    let here : slice_get nodes n ≡ Some x.of.node = ap (λ j. slice_get nodes j) (sym same) ∙ x.of.is in
    record {
      within' = within nodes n x.of.node here;
      role = ap (λ (node : Node). role_of node.view.kind) (get_or_from_slice_get nodes n x.of.node no_node here) ∙ scalar_role x.of.node.view.kind x.of.kind;
    }

scalar_plain : (kernel : Kernel) (q n : ℕ) → slice_get (scalars_of kernel.nodes) q ≡ Some n → is_port_name (node_at kernel.nodes n).name ≡ true
scalar_plain kernel q n e =
    let s = scalar_of kernel.nodes q n e in
    let r = s.role in
    (named kernel.nodes kernel.made).plain n s.within' (omega (arith, r))

scalar_place : (kernel : Kernel) (p q m n : ℕ) → slice_get (scalars_of kernel.nodes) p ≡ Some m → slice_get (scalars_of kernel.nodes) q ≡ Some n
    → (node_at kernel.nodes m).name ≡ (node_at kernel.nodes n).name → p ≡ q
scalar_place kernel p q m n e f same = by_order (below_or m n) (below_or n m)
  where
    apart : (a b i j : ℕ) → slice_get (scalars_of kernel.nodes) a ≡ Some i → slice_get (scalars_of kernel.nodes) b ≡ Some j → i < j
        → (node_at kernel.nodes j).name ≡ (node_at kernel.nodes i).name → ⊥
    apart a b i j g h lt is =
        let x = scalar_of kernel.nodes a i g in
        let y = scalar_of kernel.nodes b j h in
        let r = x.role in
        let s = y.role in
        let no = (named kernel.nodes kernel.made).differ i j lt y.within' (r ∙ sym s) (omega (arith, s)) in
        let yes = (bytes_decides (node_at kernel.nodes j).name (node_at kernel.nodes i).name).1 is in
        absurd (false≢true (sym no ∙ yes))

    by_order : (m < n) ⊎ (n ≤ m) → (n < m) ⊎ (m ≤ n) → p ≡ q
    by_order (inl lt) o = absurd (apart p q m n e f lt (sym same))
    by_order (inr ge) (inl lt) = absurd (apart q p n m f e lt same)
    by_order (inr ge) (inr le) =
        let one : n ≡ m = omega (arith, ge, le) in
        let a = first_place is_scalar 0 kernel.nodes p m [] e in
        let b = first_place is_scalar 0 kernel.nodes q m [] (f ∙ ap (λ y. Some y) one) in
        sym a ∙ b

scalars_differ : (kernels : List Kernel) → joins.AllDiffer (kernel_names kernels) → AllDiffer (joined names_in 0 kernels)
scalars_differ kernels differ i j x e f =
    let a = of_joined names_in scalar_count names_sized 0 kernels i x e in
    let b = of_joined names_in scalar_count names_sized 0 kernels j x f in
    let m = map_back (scalar_name a.item) (scalars_of a.item.nodes) a.own x a.is in
    let n = map_back (scalar_name b.item) (scalars_of b.item.nodes) b.own x b.is in
    let both : codes "scalar$" ++ a.item.name ++ 36 ∷ (node_at a.item.nodes m.0).name ≡ codes "scalar$" ++ b.item.name ++ 36 ∷ (node_at b.item.nodes n.0).name =
    append-one (codes "scalar$" ++ a.item.name) (node_at a.item.nodes m.0).name ∙ m.2 ∙ sym n.2
    ∙ sym (append-one (codes "scalar$" ++ b.item.name) (node_at b.item.nodes n.0).name) in
    let r = last_dollar (codes "scalar$" ++ a.item.name) (codes "scalar$" ++ b.item.name) (node_at a.item.nodes m.0).name (node_at b.item.nodes n.0).name
    (port_no_dollar (node_at a.item.nodes m.0).name (scalar_plain a.item a.own m.0 m.1)) (port_no_dollar (node_at b.item.nodes n.0).name
    (scalar_plain b.item b.own n.0 n.1)) both in
    let name : Kernel → List ℕ = λ k. k.name in
    let kernel_same = same_behind (codes "scalar$") a.item.name b.item.name r.0 in
    let places : a.place ≡ b.place = one_place (kernel_names kernels) differ a.place b.place a.item.name (map_at name kernels a.place a.item a.known)
    (map_at name kernels b.place b.item b.known ∙ ap (λ y. Some y) (sym kernel_same)) in
    let s = sym a.known ∙ ap (λ k. slice_get kernels k) places ∙ b.known in
    let items : a.item ≡ b.item = cc in
    let own = scalar_place b.item a.own b.own m.0 n.0 (ap (λ (k : Kernel). slice_get (scalars_of k.nodes) a.own) (sym items) ∙ m.1) n.1
    (ap (λ (k : Kernel). (node_at k.nodes m.0).name) (sym items) ∙ r.1) in
    let sums = ap (λ k. sum_by scalar_count (take k kernels)) places in
    let u = a.index in
    let v = b.index in
    omega (arith, own, sums, u, v)
  where
    append-one : (front rest : List ℕ) → front ++ 36 ∷ rest ≡ front ++ codes "$" ++ rest
    append-one front rest = sym (append_assoc front (codes "$") rest)

-- ---- wires

wire_named : (n : ℕ) (ws : List ℕ) (j : ℕ) (x : List ℕ) → slice_get (map (λ (n : Net). n.name) (wires_from n ws)) j ≡ Some x → x ≡ wire_name (n + j)
wire_named n [] j x e = absurd (cc)
wire_named n (w ∷ ws) zero x e =
    let s : wire_name n ≡ x = cc in
    let z : n ≡ n + 0 = omega arith in
    sym s ∙ ap wire_name z
wire_named n (w ∷ ws) (suc j) x e = let z : n + 1 + j ≡ n + suc j = omega arith in wire_named (n + 1) ws j x e ∙ ap wire_name z

count_named : (n : ℕ) (ws : List ℕ) → length (map (λ (n : Net). n.name) (wires_from n ws)) ≡ length ws
count_named n [] = refl
count_named n (w ∷ ws) = ap suc (count_named (n + 1) ws)

wires_differ : (n : ℕ) (ws : List ℕ) → n + length ws < 2 ^ 64 → AllDiffer (map (λ (n : Net). n.name) (wires_from n ws))
wires_differ n ws few i j x e f =
    let a = wire_named n ws i x e in
    let b = wire_named n ws j x f in
    let l = count_named n ws in
    let p = within (map (λ (n : Net). n.name) (wires_from n ws)) i x e in
    let q = within (map (λ (n : Net). n.name) (wires_from n ws)) j x f in
    let same = decimal_injective (n + i) (n + j) (omega (arith, few, p, l)) (omega (arith, few, q, l)) (ap (drop 1) (sym a ∙ b)) in
    omega (arith, same)

-- ---- instances

abbrev part_name : Instance → List ℕ
part_name i = i.name

in_parts_named : (project : Project) (of port : ℕ) (hosts : List HostPort)
    → map part_name (input_instances project of port hosts) ≡ map (λ (host : HostPort). codes "fifo$in$" ++ host.name) hosts
in_parts_named project of port [] = refl
in_parts_named project of port (host ∷ hosts) = ap (λ l. (codes "fifo$in$" ++ host.name) ∷ l) (in_parts_named project (of + 1) (port + 3) hosts)

out_parts_named : (project : Project) (of port : ℕ) (hosts : List HostPort)
    → map part_name (output_instances project of port hosts) ≡ map (λ (host : HostPort). codes "fifo$out$" ++ host.name) hosts
out_parts_named project of port [] = refl
out_parts_named project of port (host ∷ hosts) = ap (λ l. (codes "fifo$out$" ++ host.name) ∷ l) (out_parts_named project (of + 1) (port + 3) hosts)

kernel_parts_named : (project : Project) (of k : ℕ) (kernels : List Kernel)
    → map part_name (kernel_instances project of k kernels) ≡ map (λ (kernel : Kernel). codes "kernel$" ++ kernel.name) kernels
kernel_parts_named project of k [] = refl
kernel_parts_named project of k (kernel ∷ kernels) = ap (λ l. (codes "kernel$" ++ kernel.name) ∷ l) (kernel_parts_named project (of + 1) (k + 1) kernels)

link_named : (project : Project) (of number : ℕ) (links : List LinkEnds) (i : ℕ) (x : List ℕ)
    → slice_get (map part_name (link_instances project of number links)) i ≡ Some x
    → (x ≡ codes "fifo$link$" ++ decimal (number + i)) × (i < length links)
link_named project of number [] i x e = absurd (cc)
link_named project of number (link ∷ links) zero x e =
    let s : codes "fifo$link$" ++ decimal number ≡ x = cc in
    let z : number ≡ number + 0 = omega arith in
    (sym s ∙ ap (λ n. codes "fifo$link$" ++ decimal n) z, omega arith)
link_named project of number (link ∷ links) (suc i) x e =
    let r = link_named project (of + 1) (number + 1) links i x e in
    let z : number + 1 + i ≡ number + suc i = omega arith in
    let lt = r.1 in
    (r.0 ∙ ap (λ n. codes "fifo$link$" ++ decimal n) z, omega (arith, lt))

links_differ : (project : Project) (of number : ℕ) (links : List LinkEnds) → number + length links < 2 ^ 64
    → AllDiffer (map part_name (link_instances project of number links))
links_differ project of number links few i j x e f =
    let a = link_named project of number links i x e in
    let b = link_named project of number links j x f in
    let p = a.1 in
    let q = b.1 in
    let same = decimal_injective (number + i) (number + j) (omega (arith, few, p)) (omega (arith, few, q)) (same_behind (codes "fifo$link$")
    (decimal (number + i)) (decimal (number + j)) (sym a.0 ∙ b.0)) in
    omega (arith, same)

-- ---- all of them

module _ (project : Project) (made : Links) (inners : List Module) (d : Design) (whole : IsProjectOf project made inners d) (keeps : AllKeepRules project inners) where
  abbrev top : Module
  top = top_module project

  abbrev kernels : List Kernel
  kernels = project.kernels

  kernel_continues : (k : ℕ) (kernel : Kernel) → slice_get kernels k ≡ Some kernel → Continues kernel.name
  kernel_continues k kernel e =
      let m = (module_of project made inners d whole keeps k kernel e) in
      drop_continues 7 (codes "kernel$" ++ kernel.name) (name_continues (codes "kernel$" ++ kernel.name) (ap is_name (sym m.keeps_rules.name)
      ∙ (m.keeps_rules.formed []).name))

  host_continues : (hosts : List HostPort) → All (λ (host : HostPort). is_port_name host.name ≡ true) hosts → (i : ℕ) (host : HostPort)
      → slice_get hosts i ≡ Some host → Continues host.name
  host_continues hosts plain i host e = port_continues host.name (one_of (λ (host : HostPort). is_port_name host.name ≡ true) hosts plain i host e)

  abbrev control_names : List (List ℕ)
  control_names = port_names (kernel_ports (kernel_names kernels))

  abbrev scalar_names : List (List ℕ)
  scalar_names = port_names (scalar_ports (flat_map scalar_shapes kernels))

  abbrev in_names : List (List ℕ)
  in_names = port_names (host_input_ports (map host_shape project.joints.inputs))

  abbrev out_names : List (List ℕ)
  out_names = port_names (host_output_ports (map host_shape project.joints.outputs))

  abbrev wire_names : List (List ℕ)
  wire_names = map (λ (n : Net). n.name) (wires_from (port_count project) (wire_widths project))

  abbrev in_part_names : List (List ℕ)
  in_part_names = map part_name (input_instances project 0 (first_input (shape_of project)) project.joints.inputs)

  abbrev out_part_names : List (List ℕ)
  out_part_names = map part_name (output_instances project (length project.joints.inputs) (first_output (shape_of project)) project.joints.outputs)

  abbrev link_part_names : List (List ℕ)
  link_part_names = map part_name (link_instances project (host_count project) 0 project.joints.links)

  abbrev kernel_part_names : List (List ℕ)
  kernel_part_names = map part_name (kernel_instances project (fifo_count project) 0 kernels)

  abbrev part_names : List (List ℕ)
  part_names = in_part_names ++ (out_part_names ++ (link_part_names ++ kernel_part_names))

  abbrev all_names : List (List ℕ)
  all_names =
      (codes "clk" ∷ []) ++ ((codes "reset" ∷ []) ++ (control_names ++ (scalar_names ++ (in_names ++ (out_names ++ ((codes "done" ∷ []) ++
      (wire_names ++ part_names)))))))

  none_behind : {A : Type 0} (xs : List A) → xs ++ [] ≡ xs
  none_behind [] = refl
  none_behind (x ∷ xs) = ap (λ l. x ∷ l) (none_behind xs)

  nets_named : (ps : List PortView) → map (λ (n : Net). n.name) (map port_net ps) ≡ port_names ps
  nets_named [] = refl
  nets_named (p ∷ ps) = ap (λ l. p.name ∷ l) (nets_named ps)

  parts_named : map part_name (instances_of project) ≡ part_names
  parts_named =
      let a = input_instances project 0 (first_input (shape_of project)) project.joints.inputs in
      let b = output_instances project (length project.joints.inputs) (first_output (shape_of project)) project.joints.outputs in
      let c = link_instances project (host_count project) 0 project.joints.links in
      let e = kernel_instances project (fifo_count project) 0 kernels in
      map_join part_name a (b ++ (c ++ e))
      ∙ ap (λ l. in_part_names ++ l) (map_join part_name b (c ++ e) ∙ ap (λ l. out_part_names ++ l) (map_join part_name c e))

  pub names_are : names_of top ≡ all_names
  names_are =
      let kp = kernel_ports (kernel_names kernels) in
      let sp = scalar_ports (flat_map scalar_shapes kernels) in
      let ip = host_input_ports (map host_shape project.joints.inputs) in
      let op = host_output_ports (map host_shape project.joints.outputs) in
      let last : List PortView = output_port (codes "done") 1 ∷ [] in
      let views = shape_ports (shape_of project) in
      let wires = wires_from (port_count project) (wire_widths project) in
      let name : Net → List ℕ = λ n. n.name in
      let nets : map name top.nets ≡ port_names views ++ wire_names = map_join name (map port_net views) wires ∙ ap (λ l. l ++ wire_names) (nets_named views) in
      let front : port_names (kp ++ sp ++ ip ++ op ++ last) ≡ control_names ++ (scalar_names ++ (in_names ++ (out_names ++ (codes "done" ∷ [])))) =
      ap port_names (append_assoc (kp ++ sp ++ ip) op last ∙ append_assoc (kp ++ sp) ip (op ++ last) ∙ append_assoc kp sp (ip ++ (op ++ last)))
      ∙ map_join port_name kp (sp ++ (ip ++ (op ++ last)))
      ∙ ap (λ l. control_names ++ l)
      (map_join port_name sp (ip ++ (op ++ last)) ∙ ap (λ l. scalar_names ++ l) (map_join port_name ip (op ++ last)
      ∙ ap (λ l. in_names ++ l) (map_join port_name op last))) in
      let rest = wire_names ++ part_names in
      let done : List (List ℕ) = codes "done" ∷ [] in
      ap (λ l. (map name top.nets ++ []) ++ l) parts_named
      ∙ ap (λ l. l ++ part_names) (none_behind (map name top.nets) ∙ nets)
      ∙ append_assoc (port_names views) wire_names part_names
      ∙ ap (λ l. codes "clk" ∷ codes "reset" ∷ (l ++ rest)) front
      ∙ ap (λ l. codes "clk" ∷ codes "reset" ∷ l)
      (append_assoc control_names (scalar_names ++ (in_names ++ (out_names ++ done))) rest
      ∙ ap (λ l. control_names ++ l)
      (append_assoc scalar_names (in_names ++ (out_names ++ done)) rest
      ∙ ap (λ l. scalar_names ++ l)
      (append_assoc in_names (out_names ++ done) rest ∙ ap (λ l. in_names ++ l) (append_assoc out_names done rest))))

  -- ---- each kind

  control_good : (i : ℕ) (x : List ℕ) → slice_get control_names i ≡ Some x → IsGood 2 x
  control_good i x e = by_kind (control_is kernels i x e)
    where
      by_kind : IsControl kernels i x → IsGood 2 x
      by_kind (is_hold j kernel p s r) = record { own = ap class_of r; spelled = ap is_name r ∙ hold_spelled kernel.name (kernel_continues j kernel p) }
      by_kind (is_ticks j kernel p s r) = record { own = ap class_of r; spelled = ap is_name r ∙ ticks_spelled kernel.name (kernel_continues j kernel p) }

  scalar_good : (i : ℕ) (x : List ℕ) → slice_get scalar_names i ≡ Some x → IsGood 3 x
  scalar_good i x e =
      let a = of_joined names_in scalar_count names_sized 0 kernels i x (ap (λ l. slice_get l i) (sym (all_scalars 0 kernels)) ∙ e) in
      let m = map_back (scalar_name a.item) (scalars_of a.item.nodes) a.own x a.is in
      record {
        own = ap class_of (sym m.2);
        spelled =
            ap is_name (sym m.2)
            ∙ scalar_spelled a.item.name (node_at a.item.nodes m.0).name (kernel_continues a.place a.item a.known) (port_continues
            (node_at a.item.nodes m.0).name (scalar_plain a.item a.own m.0 m.1));
      }

  in_good : (i : ℕ) (x : List ℕ) → slice_get in_names i ≡ Some x → IsGood 4 x
  in_good i x e =
      let s = stream_is (codes "in$") project.joints.inputs i x (ap (λ l. slice_get l i) (sym (ins_named 0 project.joints.inputs)) ∙ e) in
      by_end s.0 s.1 (host_continues project.joints.inputs project.whole.inputs.plain s.0 s.1 s.2) s.3
    where
      good : (name end : List ℕ) → x ≡ codes "in$" ++ name ++ end → Continues name → Continues end → IsGood 4 x
      good name end r h k = record { own = ap class_of r; spelled = ap is_name r ∙ in_spelled name end h k }

      by_end : (place : ℕ) (host : HostPort) → Continues host.name → IsEnd (codes "in$") i place x host.name → IsGood 4 x
      by_end place host h (inl u) = good host.name (codes "$data") u.1 h refl
      by_end place host h (inr (inl u)) = good host.name (codes "$valid") u.1 h refl
      by_end place host h (inr (inr u)) = good host.name (codes "$ready") u.1 h refl

  out_good : (i : ℕ) (x : List ℕ) → slice_get out_names i ≡ Some x → IsGood 5 x
  out_good i x e =
      let s = stream_is (codes "out$") project.joints.outputs i x (ap (λ l. slice_get l i) (sym (outs_named 0 project.joints.outputs)) ∙ e) in
      by_end s.0 s.1 (host_continues project.joints.outputs project.whole.outputs.plain s.0 s.1 s.2) s.3
    where
      good : (name end : List ℕ) → x ≡ codes "out$" ++ name ++ end → Continues name → Continues end → IsGood 5 x
      good name end r h k = record { own = ap class_of r; spelled = ap is_name r ∙ out_spelled name end h k }

      by_end : (place : ℕ) (host : HostPort) → Continues host.name → IsEnd (codes "out$") i place x host.name → IsGood 5 x
      by_end place host h (inl u) = good host.name (codes "$data") u.1 h refl
      by_end place host h (inr (inl u)) = good host.name (codes "$valid") u.1 h refl
      by_end place host h (inr (inr u)) = good host.name (codes "$ready") u.1 h refl

  few_wires : port_count project + length (wire_widths project) < 2 ^ 64
  few_wires = let most = most_wires project in omega (arith, most)

  wire_good : (i : ℕ) (x : List ℕ) → slice_get wire_names i ≡ Some x → IsGood 7 x
  wire_good i x e =
      let r = wire_named (port_count project) (wire_widths project) i x e in
      let l = count_named (port_count project) (wire_widths project) in
      let lt = within wire_names i x e in
      let few = few_wires in
      record { own = ap class_of r; spelled = ap is_name r ∙ wire_spelled (port_count project + i) (omega (arith, few, lt, l)) }

  in_part_good : (i : ℕ) (x : List ℕ) → slice_get in_part_names i ≡ Some x → IsGood 8 x
  in_part_good i x e =
      let s = map_back (λ (host : HostPort). codes "fifo$in$" ++ host.name) project.joints.inputs i x (ap (λ l. slice_get l i) (sym
      (in_parts_named project 0 (first_input (shape_of project)) project.joints.inputs)) ∙ e) in
      record {
        own = ap class_of (sym s.2);
        spelled = ap is_name (sym s.2)
            ∙ fifo_in_spelled s.0.name (host_continues project.joints.inputs project.whole.inputs.plain i s.0 s.1);
      }

  out_part_good : (i : ℕ) (x : List ℕ) → slice_get out_part_names i ≡ Some x → IsGood 9 x
  out_part_good i x e =
      let s = map_back (λ (host : HostPort). codes "fifo$out$" ++ host.name) project.joints.outputs i x
      (ap (λ l. slice_get l i) (sym (out_parts_named project (length project.joints.inputs) (first_output (shape_of project)) project.joints.outputs)) ∙ e) in
      record {
        own = ap class_of (sym s.2);
        spelled = ap is_name (sym s.2)
            ∙ fifo_out_spelled s.0.name (host_continues project.joints.outputs project.whole.outputs.plain i s.0 s.1);
      }

  link_part_good : (i : ℕ) (x : List ℕ) → slice_get link_part_names i ≡ Some x → IsGood 10 x
  link_part_good i x e =
      let s = link_named project (host_count project) 0 project.joints.links i x e in
      let lt = s.1 in
      let few = project.whole.count in
      record {
        own = ap class_of s.0;
        spelled = ap is_name s.0
            ∙ fifo_link_spelled (decimal (0 + i)) (digits_continue (decimal (0 + i)) (digits_are (0 + i) (omega (arith, lt, few))));
      }

  kernel_part_good : (i : ℕ) (x : List ℕ) → slice_get kernel_part_names i ≡ Some x → IsGood 11 x
  kernel_part_good i x e =
      let s = map_back (λ (kernel : Kernel). codes "kernel$" ++ kernel.name) kernels i x (ap (λ l. slice_get l i) (sym (kernel_parts_named project
      (fifo_count project) 0 kernels)) ∙ e) in
      record { own = ap class_of (sym s.2); spelled = ap is_name (sym s.2) ∙ kernel_spelled s.0.name (kernel_continues i s.0 s.1) }

  pub all_apart : AreApart 0 all_names
  all_apart =
      let count = project.whole.count in
      more_apart 0 (codes "clk" ∷ []) _ (one_differs (codes "clk")) (λ i x e. fixed 0 (codes "clk") i x e refl refl)
      (more_apart 1 (codes "reset" ∷ []) _ (one_differs (codes "reset")) (λ i x e. fixed 1 (codes "reset") i x e refl refl)
      (more_apart 2 control_names _ (controls_differ kernels project.whole.differ) control_good
      (more_apart 3 scalar_names _ (subst AllDiffer (sym (all_scalars 0 kernels)) (scalars_differ kernels project.whole.differ)) scalar_good
      (more_apart 4 in_names _ (subst AllDiffer (sym (ins_named 0 project.joints.inputs)) (streams_differ
      (codes "in$") project.joints.inputs project.whole.inputs.differ)) in_good
      (more_apart 5 out_names _ (subst AllDiffer (sym (outs_named 0 project.joints.outputs)) (streams_differ
      (codes "out$") project.joints.outputs project.whole.outputs.differ)) out_good
      (more_apart 6 (codes "done" ∷ []) _ (one_differs (codes "done")) (λ i x e. fixed 6 (codes "done") i x e refl refl)
      (more_apart 7 wire_names part_names (wires_differ (port_count project) (wire_widths project) few_wires) wire_good
      (more_apart 8 in_part_names _ (subst AllDiffer (sym (in_parts_named project 0 (first_input (shape_of project)) project.joints.inputs))
      (front_differ (codes "fifo$in$") (λ (host : HostPort). host.name) project.joints.inputs project.whole.inputs.differ)) in_part_good
      (more_apart 9 out_part_names _
      (subst AllDiffer (sym (out_parts_named project (length project.joints.inputs) (first_output (shape_of project)) project.joints.outputs))
      (front_differ (codes "fifo$out$") (λ (host : HostPort). host.name) project.joints.outputs project.whole.outputs.differ)) out_part_good
      (more_apart 10 link_part_names kernel_part_names (links_differ project (host_count project) 0 project.joints.links (omega (arith, count))) link_part_good
      (subst (AreApart 11) (none_behind kernel_part_names)
      (more_apart 11 kernel_part_names [] (subst AllDiffer (sym (kernel_parts_named project (fifo_count project) 0 kernels)) (front_differ
      (codes "kernel$") (λ (kernel : Kernel). kernel.name) kernels project.whole.differ)) kernel_part_good
      (none_apart 12)))))))))))))
    where
      fixed : (c : ℕ) (name : List ℕ) (i : ℕ) (x : List ℕ) → slice_get (name ∷ []) i ≡ Some x → class_of name ≡ c → is_name name ≡ true → IsGood c x
      fixed c name zero x e h k = let s : name ≡ x = cc in record { own = ap class_of (sym s) ∙ h; spelled = ap is_name (sym s) ∙ k }
      fixed c name (suc i) x e h k = absurd (cc)

  pub names_differ : AllDiffer (names_of top)
  names_differ = subst AllDiffer (sym names_are) all_apart.differ

  pub names_spelled : (i : ℕ) (x : List ℕ) → slice_get (names_of top) i ≡ Some x → is_name x ≡ true
  names_spelled i x e = all_apart.spelled i x (ap (λ l. slice_get l i) (sym names_are) ∙ e)
