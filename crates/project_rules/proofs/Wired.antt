-- Each instance of the top module is joined to nets whose slots fit its ports.
use Rattle.std.proofs.Common.{◌≡◌, ◌∙◌, ℕ, zero, suc, ◌+◌, ◌*◌, true, false, List, [], ◌∷◌, ◌++◌, map, Some, length, refl, sym, ap, subst, arith, append_assoc}
use Rattle.std.specs.Prelude.{slice_get, codes}
use Rattle.std.proofs.lemmas.Bool.{false≢true}
use Rattle.rtl_ir.specs.Rules.{ByPort}
use Rattle.rtl_ir.specs.Ports.{PortView, host_input_ports, host_output_ports, input_port, output_port}
use Rattle.stream_graph.specs.declared.kernel.Kernel.{Kernel}
use Rattle.stream_graph.specs.declared.node.Node.{Node}
use Rattle.stream_graph.specs.Kinds.{is_input, is_output}
use Rattle.stream_graph.specs.LookUps.{width_at}
use Rattle.kernel_control.specs.Ports as own
use Rattle.kernel_control.specs.Ports.{inputs_of, outputs_of, scalars_of, port_shape, module_ports}
use Rattle.link_fifo.specs.Fifo.{fifo_ports}
use Rattle.manager_links.specs.declared.hosts.HostPort.{HostPort}
use Rattle.manager_links.specs.declared.links.LinkEnds.{LinkEnds}
use Rattle.manager_links.specs.declared.links.PortAt.{PortAt}
use Rattle.manager_links.specs.declared.project.Project.{Project}
use Rattle.manager_links.specs.Lists.{AllDiffer}
use Rattle.manager_links.specs.Ports.{IsPort}
use Rattle.manager_links.specs.Projects.{fed, given}
use Rattle.project_rtl.specs.Blocks.{stream_net, first_net, scalar_count, block_size, first_scalar_port}
use Rattle.project_rtl.specs.Tops.{range, fifo_nets, kernel_nets, host_count}
use Rattle.project_rules.proofs.Lists.{one_of, within, at, map_at, AreThere, Reads, reads_join, reads_range}
use Rattle.project_rules.proofs.Taps.{Tap, port_of, taps_to, taps_from, taps_of, find, find_own, ports_to, ports_from, ports_of_hosts}
use Rattle.project_rules.proofs.Slots.{Slot, given_slot, driven_slot, scalar_slots, scalars_sized, feeding, draining, core, fed_slots, given_slots, ended_slot}
use Rattle.project_rules.proofs.Slots.{block_slots, block_sized, slots, port_place, hold_place, ticks_place, scalar_place, fed_place, given_place, block_place}
use Rattle.project_rules.proofs.Streams.{IsInput, input_is, IsOutput, output_is}
use Rattle.project_rules.proofs.Nets.{both_mapped}

-- ---- ports and slots

-- the slot of the net that is joined to a port
pub record IsFit (k j : ℕ) (v : PortView) (s : Slot) : Type 0 where
  pub width : s.width ≡ v.width
  pub free : v.output ≡ true → s.given ≡ false
  pub driver : v.output ≡ true → s.driver ≡ ByPort k j

abbrev pub Fits : ℕ → ℕ → List PortView → List Slot → Type 0
Fits k j [] [] = Unit {0}
Fits k j (v ∷ vs) (s ∷ ss) = IsFit k j v s × Fits k (j + 1) vs ss
Fits k j [] (s ∷ ss) = ⊥
Fits k j (v ∷ vs) [] = ⊥

pub fits_at : (k j : ℕ) (vs : List PortView) (ss : List Slot) (i : ℕ) (v : PortView) (s : Slot) → Fits k j vs ss → slice_get vs i ≡ Some v → slice_get ss i ≡ Some s
    → IsFit k (j + i) v s
fits_at k j [] ss i v s h e f = absurd (cc)
fits_at k j (x ∷ vs) [] i v s h e f = absurd h
fits_at k j (x ∷ vs) (y ∷ ss) zero v s h e f =
    let a : x ≡ v = cc in
    let b : y ≡ s = cc in
    let z : j ≡ j + 0 = omega arith in
    subst (λ n. IsFit k n v s) z (subst (λ w. IsFit k j w s) a (subst (λ w. IsFit k j x w) b h.0))
fits_at k j (x ∷ vs) (y ∷ ss) (suc i) v s h e f =
    let z : j + 1 + i ≡ j + suc i = omega arith in
    subst (λ n. IsFit k n v s) z (fits_at k (j + 1) vs ss i v s h.1 e f)

fits_join : (k j n : ℕ) (vs ws : List PortView) (ss ts : List Slot) → n ≡ length vs → Fits k j vs ss → Fits k (j + n) ws ts → Fits k j (vs ++ ws) (ss ++ ts)
fits_join k j n [] ws [] ts e h g = let z : j + n ≡ j = omega (arith, e) in subst (λ i. Fits k i ws ts) z g
fits_join k j n [] ws (s ∷ ss) ts e h g = absurd h
fits_join k j n (v ∷ vs) ws [] ts e h g = absurd h
fits_join k j n (v ∷ vs) ws (s ∷ ss) ts e h g =
    let z : j + n ≡ j + 1 + length vs = omega (arith, e) in
    (h.0, fits_join k (j + 1) (length vs) vs ws ss ts refl h.1 (subst (λ i. Fits k i ws ts) z g))

no_output : {A : Type 0} → false ≡ true → A
no_output h = absurd (false≢true h)

-- the port of a slot is there
pub view_at : (k j : ℕ) (vs : List PortView) (ss : List Slot) (i : ℕ) (s : Slot) → Fits k j vs ss → slice_get ss i ≡ Some s → (v : PortView) × (slice_get vs i ≡ Some v)
view_at k j vs [] i s h f = absurd (cc)
view_at k j [] (y ∷ ss) i s h f = absurd h
view_at k j (x ∷ vs) (y ∷ ss) zero s h f = (x, refl)
view_at k j (x ∷ vs) (y ∷ ss) (suc i) s h f = view_at k (j + 1) vs ss i s h.1 f

-- outputs have rank 1 and inputs rank 0
pub record IsRanked (v : PortView) (s : Slot) : Type 0 where
  pub outer : v.output ≡ true → s.rank ≡ 1
  pub inner : v.output ≡ false → s.rank ≡ 0

abbrev pub AreRanked : List PortView → List Slot → Type 0
AreRanked [] [] = Unit {0}
AreRanked (v ∷ vs) (s ∷ ss) = IsRanked v s × AreRanked vs ss
AreRanked [] (s ∷ ss) = ⊥
AreRanked (v ∷ vs) [] = ⊥

pub ranked_at : (vs : List PortView) (ss : List Slot) (i : ℕ) (v : PortView) (s : Slot) → AreRanked vs ss → slice_get vs i ≡ Some v
    → slice_get ss i ≡ Some s → IsRanked v s
ranked_at [] ss i v s h e f = absurd (cc)
ranked_at (x ∷ vs) [] i v s h e f = absurd h
ranked_at (x ∷ vs) (y ∷ ss) zero v s h e f =
    let a : x ≡ v = cc in
    let b : y ≡ s = cc in
    subst (λ w. IsRanked w s) a (subst (λ w. IsRanked x w) b h.0)
ranked_at (x ∷ vs) (y ∷ ss) (suc i) v s h e f = ranked_at vs ss i v s h.1 e f

ranked_join : (vs ws : List PortView) (ss ts : List Slot) → AreRanked vs ss → AreRanked ws ts → AreRanked (vs ++ ws) (ss ++ ts)
ranked_join [] ws [] ts h g = g
ranked_join [] ws (s ∷ ss) ts h g = absurd h
ranked_join (v ∷ vs) ws [] ts h g = absurd h
ranked_join (v ∷ vs) ws (s ∷ ss) ts h g = (h.0, ranked_join vs ws ss ts h.1 g)

takes : {v : PortView} {s : Slot} → v.output ≡ false → s.rank ≡ 0 → IsRanked v s
takes f r = record { outer = λ h. no_output (sym f ∙ h); inner = λ h. r }

gives : {v : PortView} {s : Slot} → v.output ≡ true → s.rank ≡ 1 → IsRanked v s
gives f r = record { outer = λ h. r; inner = λ h. no_output (sym h ∙ f) }

-- ---- the module of a kernel

module _ (project : Project) (k : ℕ) (kernel : Kernel) where
  abbrev nodes : List Node
  nodes = kernel.nodes

  -- the slots of the nets of the kernel
  abbrev pub own_slots : List Slot
  own_slots =
      given_slot 1 ∷ given_slot 1 ∷ given_slot 1 ∷ given_slot 48
      ∷ (scalar_slots k kernel ++ (fed_slots project k kernel 0 (inputs_of nodes)
      ++ (given_slots project k kernel 0 (outputs_of nodes) ++ ended_slot project k kernel ∷ [])))

  scalars_fit : (j : ℕ) (ns : List ℕ) → Fits (core project k) j (own.scalar_ports (map (port_shape nodes) ns)) (map (λ n. given_slot (width_at nodes n)) ns)
  scalars_fit j [] = tt
  scalars_fit j (n ∷ ns) = (record { width = refl; free = λ h. no_output h; driver = λ h. no_output h }, scalars_fit (j + 1) ns)

  fed_fit : (j p : ℕ) (ns : List ℕ) → j ≡ own.first_input nodes + 3 * p
      → Fits (core project k) j (host_input_ports (map (port_shape nodes) ns)) (fed_slots project k kernel p ns)
  fed_fit j p [] e = tt
  fed_fit j p (n ∷ ns) e =
      let y : own.first_input nodes + 3 * p + 2 ≡ j + 1 + 1 = omega (arith, e) in (
        record { width = refl; free = λ h. no_output h; driver = λ h. no_output h },
        (
          record { width = refl; free = λ h. no_output h; driver = λ h. no_output h },
          (
            record { width = refl; free = λ h. refl; driver = λ h. ap (λ i. ByPort (core project k) i) y },
            fed_fit (j + 1 + 1 + 1) (p + 1) ns (omega (arith, e)),
          ),
        ),
      )

  given_fit : (j p : ℕ) (ns : List ℕ) → j ≡ own.first_output nodes + 3 * p
      → Fits (core project k) j (host_output_ports (map (port_shape nodes) ns)) (given_slots project k kernel p ns)
  given_fit j p [] e = tt
  given_fit j p (n ∷ ns) e =
      let x : own.first_output nodes + 3 * p ≡ j = omega (arith, e) in
      let y : own.first_output nodes + 3 * p + 1 ≡ j + 1 = omega (arith, e) in (
        record { width = refl; free = λ h. refl; driver = λ h. ap (λ i. ByPort (core project k) i) x },
        (
          record { width = refl; free = λ h. refl; driver = λ h. ap (λ i. ByPort (core project k) i) y },
          (
            record { width = refl; free = λ h. no_output h; driver = λ h. no_output h },
            given_fit (j + 1 + 1 + 1) (p + 1) ns (omega (arith, e)),
          ),
        ),
      )

  count_scalars : (ns : List ℕ) → length (own.scalar_ports (map (port_shape nodes) ns)) ≡ length ns
  count_scalars [] = refl
  count_scalars (n ∷ ns) = ap suc (count_scalars ns)

  count_ins : (ns : List ℕ) → length (host_input_ports (map (port_shape nodes) ns)) ≡ 3 * length ns
  count_ins [] = refl
  count_ins (n ∷ ns) = let e = count_ins ns in omega (arith, e)

  count_outs : (ns : List ℕ) → length (host_output_ports (map (port_shape nodes) ns)) ≡ 3 * length ns
  count_outs [] = refl
  count_outs (n ∷ ns) = let e = count_outs ns in omega (arith, e)

  abbrev own_scalars : List PortView
  own_scalars = own.scalar_ports (map (port_shape nodes) (scalars_of nodes))

  abbrev own_ins : List PortView
  own_ins = host_input_ports (map (port_shape nodes) (inputs_of nodes))

  abbrev own_outs : List PortView
  own_outs = host_output_ports (map (port_shape nodes) (outputs_of nodes))

  abbrev own_end : List PortView
  own_end = output_port (codes "ended$") 1 ∷ []

  abbrev regrouped : List PortView
  regrouped =
      input_port (codes "clk") 1 ∷ input_port (codes "reset") 1 ∷ input_port (codes "hold$") 1 ∷ input_port (codes "ticks$") 48
      ∷ (own_scalars ++ (own_ins ++ (own_outs ++ own_end)))

  ports_are : regrouped ≡ module_ports nodes
  ports_are =
      ap (λ l. input_port (codes "clk") 1 ∷ input_port (codes "reset") 1 ∷ input_port (codes "hold$") 1 ∷ input_port (codes "ticks$") 48 ∷ l)
      (sym (append_assoc (own_scalars ++ own_ins) own_outs own_end ∙ append_assoc own_scalars own_ins (own_outs ++ own_end)))

  given_one : (w j : ℕ) (name : List ℕ) → IsFit (core project k) j (input_port name w) (given_slot w)
  given_one w j name = record { width = refl; free = λ h. no_output h; driver = λ h. no_output h }

  pub kernel_fits : Fits (core project k) 0 (module_ports nodes) own_slots
  kernel_fits =
      let c = core project k in
      let a = count_scalars (scalars_of nodes) in
      let b = count_ins (inputs_of nodes) in
      let o = count_outs (outputs_of nodes) in
      subst (λ l. Fits c 0 l own_slots) ports_are (
        given_one 1 0 (codes "clk"),
        (
          given_one 1 (0 + 1) (codes "reset"),
          (
            given_one 1 (0 + 1 + 1) (codes "hold$"),
            (
              given_one 48 (0 + 1 + 1 + 1) (codes "ticks$"),
              fits_join c (0 + 1 + 1 + 1 + 1) (length (scalars_of nodes)) own_scalars (own_ins ++ (own_outs ++ own_end)) (scalar_slots k kernel)
                  (fed_slots project k kernel 0 (inputs_of nodes) ++ (given_slots project k kernel 0 (outputs_of nodes) ++ ended_slot project k kernel ∷ [])) (sym a)
                  (scalars_fit (0 + 1 + 1 + 1 + 1) (scalars_of nodes))
                  (fits_join c (0 + 1 + 1 + 1 + 1 + length (scalars_of nodes)) (3 * length (inputs_of nodes)) own_ins (own_outs ++ own_end)
                  (fed_slots project k kernel 0 (inputs_of nodes)) (given_slots project k kernel 0 (outputs_of nodes) ++ ended_slot project k kernel ∷ []) (sym b)
                  (fed_fit (0 + 1 + 1 + 1 + 1 + length (scalars_of nodes)) 0 (inputs_of nodes) (omega arith))
                  (fits_join c (0 + 1 + 1 + 1 + 1 + length (scalars_of nodes) + 3 * length (inputs_of nodes)) (3 * length (outputs_of nodes)) own_outs own_end
                  (given_slots project k kernel 0 (outputs_of nodes)) (ended_slot project k kernel ∷ []) (sym o)
                  (given_fit (0 + 1 + 1 + 1 + 1 + length (scalars_of nodes) + 3 * length (inputs_of nodes)) 0 (outputs_of nodes) (omega arith)) (
                    record {
                      width = refl;
                      free = λ h. refl;
                      driver = λ h.
                          let z : own.ended_port nodes ≡ 0 + 1 + 1 + 1 + 1 + length (scalars_of nodes) + 3 * length (inputs_of nodes) + 3 * length
                          (outputs_of nodes) = omega arith in
                          ap (λ i. ByPort c i) z;
                    },
                    tt,
                  ))),
            ),
          ),
        ),
      )

  scalars_ranked : (ns : List ℕ) → AreRanked (own.scalar_ports (map (port_shape nodes) ns)) (map (λ n. given_slot (width_at nodes n)) ns)
  scalars_ranked [] = tt
  scalars_ranked (n ∷ ns) = (takes refl refl, scalars_ranked ns)

  fed_ranked : (p : ℕ) (ns : List ℕ) → AreRanked (host_input_ports (map (port_shape nodes) ns)) (fed_slots project k kernel p ns)
  fed_ranked p [] = tt
  fed_ranked p (n ∷ ns) = (takes refl refl, (takes refl refl, (gives refl refl, fed_ranked (p + 1) ns)))

  given_ranked : (p : ℕ) (ns : List ℕ) → AreRanked (host_output_ports (map (port_shape nodes) ns)) (given_slots project k kernel p ns)
  given_ranked p [] = tt
  given_ranked p (n ∷ ns) = (gives refl refl, (gives refl refl, (takes refl refl, given_ranked (p + 1) ns)))

  pub kernel_ranked : AreRanked (module_ports nodes) own_slots
  kernel_ranked =
      subst (λ l. AreRanked l own_slots) ports_are (
        takes refl refl,
        (
          takes refl refl,
          (
            takes refl refl,
            (
              takes refl refl,
              ranked_join own_scalars (own_ins ++ (own_outs ++ own_end)) (scalar_slots k kernel)
                  (fed_slots project k kernel 0 (inputs_of nodes) ++ (given_slots project k kernel 0 (outputs_of nodes) ++ ended_slot project k kernel ∷ []))
                  (scalars_ranked (scalars_of nodes))
                  (ranked_join own_ins (own_outs ++ own_end) (fed_slots project k kernel 0 (inputs_of nodes)) (given_slots project k kernel 0
                  (outputs_of nodes) ++ ended_slot project k kernel ∷ [])
                  (fed_ranked 0 (inputs_of nodes))
                  (ranked_join own_outs own_end (given_slots project k kernel 0 (outputs_of nodes)) (ended_slot project k kernel ∷ [])
                  (given_ranked 0 (outputs_of nodes)) (gives refl refl, tt))),
            ),
          ),
        ),
      )

  pub kernel_reads : slice_get project.kernels k ≡ Some kernel → Reads (slots project) (kernel_nets project k kernel) own_slots
  kernel_reads e =
      let lt = within project.kernels k kernel e in
      let scalar = reads_range (slots project) (first_scalar_port project k) (scalar_slots k kernel)
      (λ q s f. port_place project (first_scalar_port project k + q) s (scalar_place project k kernel q s e f)) in
      let block = reads_range (slots project) (first_net project k) (block_slots project k kernel) (λ q s f. block_place project k kernel q s e f) in (
        refl,
        (
          refl,
          (
            port_place project (2 + 2 * k) (given_slot 1) (hold_place project k lt),
            (
              port_place project (2 + 2 * k + 1) (given_slot 48) (ticks_place project k lt),
              reads_join (slots project) (range (first_scalar_port project k) (scalar_count kernel)) (range (first_net project k)
                  (block_size kernel)) (scalar_slots k kernel) (block_slots project k kernel)
                  (subst (λ c. Reads (slots project) (range (first_scalar_port project k) c) (scalar_slots k kernel)) (scalars_sized k kernel) scalar)
                  (subst (λ c. Reads (slots project) (range (first_net project k) c) (block_slots project k kernel)) (block_sized project k kernel) block),
            ),
          ),
        ),
      )

-- ---- a FIFO

module _ (project : Project) where
  -- the nets from which a FIFO takes words of this width
  pub record IsTaken (k width n : ℕ) : Type 0 where
    pub word : Slot
    pub valid : Slot
    pub are : AreThere (slots project) n word valid (driven_slot 1 (ByPort k 4) 0)
    pub wide : word.width ≡ width
    pub one : valid.width ≡ 1

  -- and those to which it gives them
  pub record IsGiven (k width n : ℕ) : Type 0 where
    pub ready : Slot
    pub are : AreThere (slots project) n (driven_slot width (ByPort k 5) 0) (driven_slot 1 (ByPort k 6) 0) ready
    pub one : ready.width ≡ 1

  abbrev pub fifo_slots : (k width taken given : ℕ) → IsTaken k width taken → IsGiven k width given → List Slot
  fifo_slots k width taken given t g =
      given_slot 1 ∷ given_slot 1 ∷ t.word ∷ t.valid ∷ driven_slot 1 (ByPort k 4) 0 ∷ driven_slot width (ByPort k 5) 0 ∷ driven_slot 1 (ByPort k 6) 0 ∷ g.ready ∷ []

  pub fifo_reads : (k width taken given : ℕ) (t : IsTaken k width taken) (g : IsGiven k width given)
      → Reads (slots project) (fifo_nets taken given) (fifo_slots k width taken given t g)
  fifo_reads k width taken given t g =
      let a : taken + 2 ≡ taken + 1 + 1 = omega arith in
      let b : given + 2 ≡ given + 1 + 1 = omega arith in (
        refl,
        (
          refl,
          (
            t.are.first,
            (
              t.are.second,
              (
                at (slots project) (taken + 2) (taken + 1 + 1) (driven_slot 1 (ByPort k 4) 0) t.are.third a,
                (g.are.first, (g.are.second, (at (slots project) (given + 2) (given + 1 + 1) g.ready g.are.third b, tt))),
              ),
            ),
          ),
        ),
      )

  pub fifo_fits : (k width taken given : ℕ) (t : IsTaken k width taken) (g : IsGiven k width given) → Fits k 0 (fifo_ports width) (fifo_slots k width taken given t g)
  fifo_fits k width taken given t g = (
    record { width = refl; free = λ h. no_output h; driver = λ h. no_output h },
    (
      record { width = refl; free = λ h. no_output h; driver = λ h. no_output h },
      (
        record { width = t.wide; free = λ h. no_output h; driver = λ h. no_output h },
        (
          record { width = t.one; free = λ h. no_output h; driver = λ h. no_output h },
          (
            record { width = refl; free = λ h. refl; driver = λ h. refl },
            (
              record { width = refl; free = λ h. refl; driver = λ h. refl },
              (
                record { width = refl; free = λ h. refl; driver = λ h. refl },
                (record { width = g.one; free = λ h. no_output h; driver = λ h. no_output h }, tt),
              ),
            ),
          ),
        ),
      ),
    ),
  )

  -- ---- the sides of FIFOs at kernels

  pub ports_fed : map port_of (feeding project) ≡ fed project.joints
  ports_fed = both_mapped port_of (λ (port : PortAt). port) (taps_to (host_count project) project.joints.links) (taps_of 0 project.joints.inputs)
      (map (λ (link : LinkEnds). link.to) project.joints.links) (map (λ (host : HostPort). host.port) project.joints.inputs)
      (ports_to (host_count project) project.joints.links ∙ sym (same (map (λ (link : LinkEnds). link.to) project.joints.links)))
      (ports_of_hosts 0 project.joints.inputs ∙ sym (same (map (λ (host : HostPort). host.port) project.joints.inputs)))
      ∙ same (fed project.joints)
    where
      same : (l : List PortAt) → map (λ (port : PortAt). port) l ≡ l
      same [] = refl
      same (x ∷ l) = ap (λ r. x ∷ r) (same l)

  pub ports_drained : map port_of (draining project) ≡ given project.joints
  ports_drained = both_mapped port_of (λ (port : PortAt). port) (taps_from (host_count project) project.joints.links) (taps_of
      (length project.joints.inputs) project.joints.outputs)
      (map (λ (link : LinkEnds). link.from) project.joints.links) (map (λ (host : HostPort). host.port) project.joints.outputs)
      (ports_from (host_count project) project.joints.links ∙ sym (same (map (λ (link : LinkEnds). link.from) project.joints.links)))
      (ports_of_hosts (length project.joints.inputs) project.joints.outputs ∙ sym (same (map (λ (host : HostPort). host.port) project.joints.outputs)))
      ∙ same (given project.joints)
    where
      same : (l : List PortAt) → map (λ (port : PortAt). port) l ≡ l
      same [] = refl
      same (x ∷ l) = ap (λ r. x ∷ r) (same l)

  pub fed_input : (q : ℕ) (tap : Tap) → slice_get (feeding project) q ≡ Some tap → IsInput project tap.port
  fed_input q tap e =
      input_is project tap.port
      (one_of (IsPort project.kernels is_input) (fed project.joints) project.whole.feeds.each q tap.port
      (ap (λ l. slice_get l q) (sym ports_fed) ∙ map_at port_of (feeding project) q tap e))

  pub drained_output : (q : ℕ) (tap : Tap) → slice_get (draining project) q ≡ Some tap → IsOutput project tap.port
  drained_output q tap e =
      output_is project tap.port
      (one_of (IsPort project.kernels is_output) (given project.joints) project.whole.gives.each q tap.port
      (ap (λ l. slice_get l q) (sym ports_drained) ∙ map_at port_of (draining project) q tap e))

  pub fed_once : (q : ℕ) (tap : Tap) → slice_get (feeding project) q ≡ Some tap → find tap.port (feeding project) ≡ tap.number
  fed_once q tap e = find_own (feeding project) (subst AllDiffer (sym ports_fed) project.whole.feeds.once) q tap e

  pub drained_once : (q : ℕ) (tap : Tap) → slice_get (draining project) q ≡ Some tap → find tap.port (draining project) ≡ tap.number
  drained_once q tap e = find_own (draining project) (subst AllDiffer (sym ports_drained) project.whole.gives.once) q tap e

  -- a FIFO gives words to the input that it feeds
  pub given_side : (q : ℕ) (tap : Tap) (width : ℕ) → (e : slice_get (feeding project) q ≡ Some tap)
      → width_at (fed_input q tap e).kernel.nodes tap.port.node ≡ width → IsGiven tap.number width (stream_net project tap.port)
  given_side q tap width e wide =
      let i = fed_input q tap e in
      let p = fed_place project tap.port.kernel i.kernel i.place tap.port.node i.known i.is in
      let c = driven_slot 1 (ByPort (core project tap.port.kernel) (own.first_input i.kernel.nodes + 3 * i.place + 2)) 1 in
      let P : ℕ → ℕ → ℕ → Type 0 = λ n k w. AreThere (slots project) n (driven_slot w (ByPort k 5) 0) (driven_slot 1 (ByPort k 6) 0) c in
      record {
        ready = c;
        are =
            subst (λ n. P n tap.number width) (sym i.net)
            (subst (λ k. P (first_net project tap.port.kernel + 3 * i.place) k width) (fed_once q tap e)
            (subst (λ w. P (first_net project tap.port.kernel + 3 * i.place) (find tap.port (feeding project)) w) wide p));
        one = refl;
      }

  -- a FIFO takes words from the output that it drains
  pub taken_side : (q : ℕ) (tap : Tap) (width : ℕ) → (e : slice_get (draining project) q ≡ Some tap)
      → width_at (drained_output q tap e).kernel.nodes tap.port.node ≡ width → IsTaken tap.number width (stream_net project tap.port)
  taken_side q tap width e wide =
      let i = drained_output q tap e in
      let p = given_place project tap.port.kernel i.kernel i.place tap.port.node i.known i.is in
      let a = driven_slot (width_at i.kernel.nodes tap.port.node) (ByPort (core project tap.port.kernel) (own.first_output i.kernel.nodes + 3 * i.place)) 1 in
      let b = driven_slot 1 (ByPort (core project tap.port.kernel) (own.first_output i.kernel.nodes + 3 * i.place + 1)) 1 in
      let P : ℕ → ℕ → Type 0 = λ n k. AreThere (slots project) n a b (driven_slot 1 (ByPort k 4) 0) in
      record {
        word = a;
        valid = b;
        are =
            subst (λ n. P n tap.number) (sym i.net)
            (subst (λ k. P (first_net project tap.port.kernel + 3 * (length (inputs_of i.kernel.nodes) + i.place)) k) (drained_once q tap e) p);
        wide = wide;
        one = refl;
      }
