-- What a manager's plan joins, once all of its rules are known to be met.
use Rattle.std.proofs.Common.{◌≡◌, ℕ, zero, suc, ◌+◌, ◌-◌, ◌^◌, ◌<◌, ◌≤◌, Bool, true, false, ◌&&◌, List, [], ◌∷◌}
use Rattle.std.proofs.Common.{length, map, refl, sym, ap, ◌∙◌, subst, arith, inl, inr, ◌⊎◌, ⊎_elim, add-zero}
use Rattle.std.specs.Prelude.{All, Option, Some, None, slice_get, slice_index, filter, IsSomeAnd}
use Rattle.std.specs.List.{AllZip, Contains, filter_map, cons_option}
use Rattle.std.proofs.lemmas.List.Elements.{Contains-append_left, Contains-append_right, All-contains}
use Rattle.std.proofs.lemmas.Option.{same_Some, slice_get_within}
use Rattle.kernel_calls.specs.Laws.{is_port_name}
use Rattle.kernel_meaning.specs.declared.plan.End.{End}
use Rattle.kernel_meaning.specs.declared.plan.End.TheVariants as E
use Rattle.kernel_meaning.specs.declared.plan.Join.{Join}
use Rattle.kernel_meaning.specs.declared.plan.Plan.{Plan}
use Rattle.stream_graph.specs.declared.kernel.Kernel.{Kernel}
use Rattle.stream_graph.specs.declared.node.Kind.{Kind}
use Rattle.stream_graph.specs.declared.node.Node.{Node}
use Rattle.stream_graph.specs.Kinds.{is_input, is_output}
use Rattle.manager_links.specs.declared.hosts.HostPort.{HostPort}
use Rattle.manager_links.specs.declared.links.LinkEnds.{LinkEnds}
use Rattle.manager_links.specs.declared.links.PortAt.{PortAt}
use Rattle.manager_links.specs.Hosts.{IsHostInput, IsHostOutput, HasType, AreInputsBy, AreOutputsBy}
use Rattle.manager_links.specs.Joined.{AreJoined, IsLinkOf, is_link, is_of_kernel}
use Rattle.manager_links.specs.Lists.{AllDiffer}
use Rattle.manager_links.specs.Loops.{AreOrdered, GoesBetween, IsKernelLoop, IsLinked, IsLoopBy}
use Rattle.manager_links.specs.Ordering.{GoesFrom, GoWithin}
use Rattle.manager_links.specs.Plans.{IsKnown, IsManaged, IsStreamName, AreKernelsOf}
use Rattle.manager_links.specs.Ports.{IsNamed, IsPort, IsPortAt, IsPortOf, node_of}
use Rattle.manager_links.specs.Projects.{AreStreams, IsCarriedOut}
use Rattle.manager_links.specs.Rules.{AreFew, HasTwoTypes, IsHostToHost, NamesDiffer}
use Rattle.manager_links.specs.Steps.{HaveOneType}
use Rattle.manager_links.specs.Terminals.{Terminal, Input, Output, left_terminal, right_terminal, ends_of, ports_from, terminal_of, terminals}
use Rattle.manager_links.proofs.OnlyPort.{TerminalsOf, input_terminals, output_terminals, node_by, only_input, only_output}
use Rattle.manager_links.proofs.Pieces.{in_more, in_image, kept_in, kept_from, differ_none, differ_cons, differ_head, differ_tail}
use Rattle.manager_links.proofs.Sides.{IsSide, IsHostAt, all_by, all_ports, any_of, of_any, zip_from, zip_to}

-- ---- joins and the terminals at which they end

both_ends : (joins : List Join) (join : Join) → Contains joins join
    → Contains (ends_of joins) (left_terminal join.left) × Contains (ends_of joins) (right_terminal join.right)
both_ends [] join (k, lt, is) = absurd (omega arith)
both_ends (first ∷ joins) join (zero, lt, is) =
    subst (λ (j : Join). Contains (ends_of (first ∷ joins)) (left_terminal j.left)
    × Contains (ends_of (first ∷ joins)) (right_terminal j.right)) is
    ((0, omega arith, refl), (1, omega arith, refl))
both_ends (first ∷ joins) join (suc k, lt, is) =
    let rest = both_ends joins join (k, omega arith, is) in
    (more (left_terminal join.left) rest.0, more (right_terminal join.right) rest.1)
  where
    more : (t : Terminal) → Contains (ends_of joins) t → Contains (ends_of (first ∷ joins)) t
    more t there =
        in_more t (left_terminal first.left) (right_terminal first.right ∷ ends_of joins)
        (in_more t (right_terminal first.right) (ends_of joins) there)

end_from : (joins : List Join) (t : Terminal) → Contains (ends_of joins) t
    → (join : Join) × Contains joins join × ((left_terminal join.left ≡ t) ⊎ (right_terminal join.right ≡ t))
end_from [] t (k, lt, is) = absurd (omega arith)
end_from (first ∷ joins) t (zero, lt, is) = (first, (0, omega arith, refl), inl is)
end_from (first ∷ joins) t (suc zero, lt, is) = (first, (0, omega arith, refl), inr is)
end_from (first ∷ joins) t (suc (suc k), lt, is) =
    let rest = end_from joins t (k, omega arith, is) in
    (rest.0, in_more rest.0 first joins rest.1, rest.2)

abbrev left : Join → End
left join = join.left

abbrev right : Join → End
right join = join.right

lefts_once : (joins : List Join) → AllDiffer (ends_of joins) → AllDiffer (map left joins)
lefts_once [] differ = differ_none
lefts_once (join ∷ joins) differ =
    let l = left_terminal join.left in
    let r = right_terminal join.right in
    differ_cons join.left (map left joins)
    (λ there.
    let other = in_image left joins join.left there in
    differ_head l (r ∷ ends_of joins) differ
    (in_more l r (ends_of joins)
    (subst (λ end. Contains (ends_of joins) (left_terminal end)) other.2 (both_ends joins other.0 other.1).0)))
    (lefts_once joins (differ_tail r (ends_of joins) (differ_tail l (r ∷ ends_of joins) differ)))

rights_once : (joins : List Join) → AllDiffer (ends_of joins) → AllDiffer (map right joins)
rights_once [] differ = differ_none
rights_once (join ∷ joins) differ =
    let l = left_terminal join.left in
    let r = right_terminal join.right in
    differ_cons join.right (map right joins)
    (λ there.
    let other = in_image right joins join.right there in
    differ_head r (ends_of joins) (differ_tail l (r ∷ ends_of joins) differ)
    (subst (λ end. Contains (ends_of joins) (right_terminal end)) other.2 (both_ends joins other.0 other.1).1))
    (rights_once joins (differ_tail r (ends_of joins) (differ_tail l (r ∷ ends_of joins) differ)))

-- ---- ports and their terminals

kept_at : {A B : Type 0} (f : A → Option B) (xs : List A) (i : ℕ) (x : A) (y : B)
    → slice_get xs i ≡ Some x → f x ≡ Some y → Contains (filter_map f xs) y
kept_at f [] i x y at is = absurd (cc)
kept_at f (z ∷ xs) zero x y at is =
    subst (λ o. Contains (cons_option o (filter_map f xs)) y) (sym (ap f (same_Some z x at) ∙ is))
    (0, omega arith, refl)
kept_at f (z ∷ xs) (suc i) x y at is = more (f z) (kept_at f xs i x y at is)
  where
    more : (o : Option _) → Contains (filter_map f xs) y → Contains (cons_option o (filter_map f xs)) y
    more None there = there
    more (Some w) there = in_more y w (filter_map f xs) there

port_in : (number : ℕ) (kernels : List Kernel) (i n : ℕ) (kernel : Kernel) (node : Node) (t : Terminal)
    → slice_get kernels i ≡ Some kernel → slice_get kernel.nodes n ≡ Some node
    → terminal_of (number + i) node ≡ Some t → Contains (ports_from number kernels) t
port_in number [] i n kernel node t of at is = absurd (cc)
port_in number (first ∷ kernels) zero n kernel node t of at is =
    Contains-append_left (filter_map (terminal_of number) first.nodes) (ports_from (number + 1) kernels) t
    (kept_at (terminal_of number) first.nodes n node t
    (subst (λ (k : Kernel). slice_get k.nodes n ≡ Some node) (sym (same_Some first kernel of)) at)
    (subst (λ m. terminal_of m node ≡ Some t) (add-zero number) is))
port_in number (first ∷ kernels) (suc i) n kernel node t of at is =
    let next : number + suc i ≡ number + 1 + i = omega arith in
    Contains-append_right (filter_map (terminal_of number) first.nodes) (ports_from (number + 1) kernels) t
    (port_in (number + 1) kernels i n kernel node t of at (subst (λ m. terminal_of m node ≡ Some t) next is))

-- a port of a kind, by its name, and the join that ends at it
record Stands (kernels : List Kernel) (is_kind : Kind → Bool) (end : ℕ → List ℕ → Terminal)
    (joins : List Join) (port : PortAt) : Type 0
  where
    name : List ℕ
    is : IsPortOf kernels is_kind port.kernel name port
    join : Join
    there : Contains joins join
    at : (left_terminal join.left ≡ end port.kernel name) ⊎ (right_terminal join.right ≡ end port.kernel name)

stands : (plan : Plan) (kernels : List Kernel) (is_kind : Kind → Bool) (end : ℕ → List ℕ → Terminal)
    → TerminalsOf is_kind end → All (Contains (ends_of plan.joins)) (terminals plan kernels)
    → (port : PortAt) → IsPort kernels is_kind port → Stands kernels is_kind end plan.joins port
stands plan kernels is_kind end ends linked port is = by_name (named (node_of kernels port) is)
  where
    named : (o : Option Node) → IsSomeAnd o (λ (node : Node). is_kind node.view.kind ≡ true)
        → (name : List ℕ) × IsSomeAnd o (IsNamed is_kind name)
    named None is = absurd is
    named (Some node) is = (node.name, (is, refl))

    by_name : (name : List ℕ) × IsSomeAnd (node_of kernels port) (IsNamed is_kind name)
        → Stands kernels is_kind end plan.joins port
    by_name own =
        let has = node_by kernels is_kind own.0 port own.1 in
        let t = end port.kernel own.0 in
        let known = port_in 0 kernels port.kernel port.node has.kernel has.node t has.of has.at
        (subst (λ m. terminal_of m has.node ≡ Some t) (let e : port.kernel ≡ 0 + port.kernel = omega arith in e)
        (ends port.kernel has.node.view.kind has.node.name has.kind ∙ ap (λ m. Some (end port.kernel m)) has.named)) in
        let join = end_from plan.joins t
        (All-contains (Contains (ends_of plan.joins)) (terminals plan kernels) t linked
        (Contains-append_left (ports_from 0 kernels) _ t known)) in
        record {
          name = own.0;
          is = record { kernel = refl; node = own.1 };
          join = join.0;
          there = join.1;
          at = join.2;
        }

left_is : (end : End) (k : ℕ) (name : List ℕ) → left_terminal end ≡ Input k name → E.Kernel k name ≡ end
left_is (E.Kernel l x) k name e = cc
left_is (E.Cpu x) k name e = absurd (cc)

right_is : (end : End) (k : ℕ) (name : List ℕ) → right_terminal end ≡ Output k name → E.Kernel k name ≡ end
right_is (E.Kernel l x) k name e = cc
right_is (E.Cpu x) k name e = absurd (cc)

left_no_output : (end : End) (k : ℕ) (name : List ℕ) → left_terminal end ≡ Output k name → ⊥
left_no_output (E.Kernel l x) k name e = cc
left_no_output (E.Cpu x) k name e = cc

right_no_input : (end : End) (k : ℕ) (name : List ℕ) → right_terminal end ≡ Input k name → ⊥
right_no_input (E.Kernel l x) k name e = cc
right_no_input (E.Cpu x) k name e = cc

-- ---- the two sides

-- an end that is known is a stream of these where it is one of the CPU
known_stream : (kernels : ℕ) (streams : List (List ℕ)) (end : End) (name : List ℕ)
    → IsKnown kernels streams end → end ≡ E.Cpu name → Contains streams name
known_stream kernels streams (E.Kernel k x) name known e = absurd (cc)
known_stream kernels streams (E.Cpu x) name known e =
    let same : x ≡ name = cc in subst (Contains streams) same known

turned : (a b : Bool) → (a && b) ≡ (b && a)
turned true true = refl
turned true false = refl
turned false true = refl
turned false false = refl

inputs_side : (plan : Plan) (kernels : List Kernel) → IsManaged plan → NamesDiffer plan kernels
    → AllDiffer (ends_of plan.joins) → All (Contains (ends_of plan.joins)) (terminals plan kernels)
    → IsSide kernels is_input left right plan.joins plan.from_cpu
inputs_side plan kernels managed names once linked = record {
  only = only_input kernels;
  link = λ join. refl;
  mine_once = lefts_once plan.joins once;
  other_once = rights_once plan.joins once;
  names_once = names.from_cpu;
  full = λ port is.
      let own = stands plan kernels is_input Input input_terminals linked port is in
      any_of (λ join. IsPortAt kernels is_input join.left port) plan.joins own.join own.there
      (⊎_elim
      (λ e. subst (λ end. IsPortAt kernels is_input end port) (left_is own.join.left port.kernel own.name e) own.is)
      (λ e. absurd (right_no_input own.join.right port.kernel own.name e))
      own.at);
  known = λ join name there e.
      known_stream (length plan.kernels) plan.from_cpu join.right name
      (All-contains (λ (j : Join). IsKnown (length plan.kernels) plan.from_cpu j.right) plan.joins join managed.rights there) e;
}

outputs_side : (plan : Plan) (kernels : List Kernel) → IsManaged plan → NamesDiffer plan kernels
    → AllDiffer (ends_of plan.joins) → All (Contains (ends_of plan.joins)) (terminals plan kernels)
    → IsSide kernels is_output right left plan.joins plan.to_cpu
outputs_side plan kernels managed names once linked = record {
  only = only_output kernels;
  link = λ join. turned (is_of_kernel join.left) (is_of_kernel join.right);
  mine_once = rights_once plan.joins once;
  other_once = lefts_once plan.joins once;
  names_once = names.to_cpu;
  full = λ port is.
      let own = stands plan kernels is_output Output output_terminals linked port is in
      any_of (λ join. IsPortAt kernels is_output join.right port) plan.joins own.join own.there
      (⊎_elim
      (λ e. absurd (left_no_output own.join.left port.kernel own.name e))
      (λ e. subst (λ end. IsPortAt kernels is_output end port) (right_is own.join.right port.kernel own.name e) own.is)
      own.at);
  known = λ join name there e.
      known_stream (length plan.kernels) plan.to_cpu join.left name
      (All-contains (λ (j : Join). IsKnown (length plan.kernels) plan.to_cpu j.left) plan.joins join managed.lefts there) e;
}

zip_weaker : {A B : Type 0} (R S : A → B → Type 0) (xs : List A) (ys : List B) → AllZip R xs ys
    → ((x : A) (y : B) → R x y → S x y) → AllZip S xs ys
zip_weaker R S [] [] all weaker = tt
zip_weaker R S [] (y ∷ ys) all weaker = absurd all
zip_weaker R S (x ∷ xs) [] all weaker = absurd all
zip_weaker R S (x ∷ xs) (y ∷ ys) all weaker = (weaker x y all.0, zip_weaker R S xs ys all.1 weaker)

-- streams that belong to names have them
names_of : (R : List ℕ → HostPort → Type 0) (names : List (List ℕ)) (hosts : List HostPort)
    → AllZip R names hosts → ((name : List ℕ) (host : HostPort) → R name host → host.name ≡ name)
    → map (λ (host : HostPort). host.name) hosts ≡ names
names_of R [] [] all is = refl
names_of R [] (host ∷ hosts) all is = absurd all
names_of R (name ∷ names) [] all is = absurd all
names_of R (name ∷ names) (host ∷ hosts) all is =
    ap (λ n. n ∷ map (λ (host : HostPort). host.name) hosts) (is name host all.0)
    ∙ ap (λ rest. name ∷ rest) (names_of R names hosts all.1 is)

streams : (kernels : List Kernel) (R : List ℕ → HostPort → Type 0) (names : List (List ℕ)) (hosts : List HostPort)
    → AllZip R names hosts → ((name : List ℕ) (host : HostPort) → R name host → host.name ≡ name)
    → AllDiffer names → All IsStreamName names → All (HasType kernels) hosts
    → AreStreams kernels hosts
streams kernels R names hosts all is differ named typed = record {
  plain = all_by (λ (host : HostPort). is_port_name host.name ≡ true) hosts (λ host there.
      let own = zip_from R names hosts host all there in
      ap is_port_name (is own.0 host own.2) ∙ (All-contains IsStreamName names own.0 named own.1).plain);
  short = all_by (λ (host : HostPort). length host.name ≤ 64) hosts (λ host there.
      let own = zip_from R names hosts host all there in
      subst (λ name. length name ≤ 64) (sym (is own.0 host own.2))
      (All-contains IsStreamName names own.0 named own.1).short);
  differ = subst AllDiffer (sym (names_of R names hosts all is)) differ;
  typed = typed;
}

-- ---- links and loops

is_joined : (k l : ℕ) (x y : List ℕ) (join : Join) → join.left ≡ E.Kernel k x → join.right ≡ E.Kernel l y
    → is_link join ≡ true
is_joined k l x y join of_left of_right =
    ap (λ end. is_of_kernel end && is_of_kernel join.right) of_left ∙ ap is_of_kernel of_right

of_number : (kernels : List Kernel) (is_kind : Kind → Bool) (end : End) (port : PortAt) (k : ℕ) (name : List ℕ)
    → IsPortAt kernels is_kind end port → end ≡ E.Kernel k name → port.kernel ≡ k
of_number kernels is_kind end port k name is e =
    let own : IsPortOf kernels is_kind k name port = subst (λ end. IsPortAt kernels is_kind end port) e is in
    own.kernel

-- kernels that a join links have a link
link_goes : (kernels : List Kernel) (joins : List Join) (links : List LinkEnds) (from to : ℕ)
    → AreJoined kernels joins links → IsLinked joins from to → GoesFrom links from to
link_goes kernels joins links from to joined linked =
    let own = of_any (GoesBetween from to) joins linked in
    let between = own.2 in
    let link = zip_to (IsLinkOf kernels) (filter is_link joins) links own.0 joined
    (kept_in is_link joins own.0 own.1
    (is_joined to from between.input between.output own.0 between.left between.right)) in
    any_of (λ (link : LinkEnds). (link.from.kernel ≡ from) × (link.to.kernel ≡ to)) links link.0 link.1 (
      of_number kernels is_output own.0.right link.0.from from between.output link.2.from between.right,
      of_number kernels is_input own.0.left link.0.to to between.input link.2.to between.left,
    )

-- a port's end is of a kernel
of_kernel : (kernels : List Kernel) (is_kind : Kind → Bool) (end : End) (port : PortAt)
    → IsPortAt kernels is_kind end port → (name : List ℕ) × (end ≡ E.Kernel port.kernel name)
of_kernel kernels is_kind (E.Kernel k name) port is = (name, ap (λ n. E.Kernel n name) (sym is.kernel))
of_kernel kernels is_kind (E.Cpu name) port is = absurd is

-- a link is one that a join makes
pub goes_link : (kernels : List Kernel) (joins : List Join) (links : List LinkEnds) (from to : ℕ)
    → AreJoined kernels joins links → GoesFrom links from to → IsLinked joins from to
goes_link kernels joins links from to joined goes =
    let link = of_any (λ (link : LinkEnds). (link.from.kernel ≡ from) × (link.to.kernel ≡ to)) links goes in
    let join = zip_from (IsLinkOf kernels) (filter is_link joins) links link.0 joined link.1 in
    let one = of_kernel kernels is_output join.0.right link.0.from join.2.from in
    let other = of_kernel kernels is_input join.0.left link.0.to join.2.to in
    any_of (GoesBetween from to) joins join.0 (kept_from is_link joins join.0 join.1) (record {
      output = one.0;
      input = other.0;
      right = one.1 ∙ ap (λ k. E.Kernel k one.0) link.2.0;
      left = other.1 ∙ ap (λ k. E.Kernel k other.0) link.2.1;
    })

pub loop_along : (One Other : ℕ → ℕ → Type 0) (walk : List ℕ)
    → ((a b : ℕ) → One a b → Other a b) → IsLoopBy One walk → IsLoopBy Other walk
loop_along One Other walk along loop = record {
  some = loop.some;
  each = λ i lt. along (slice_index walk i) (slice_index walk (i + 1)) (loop.each i lt);
  last = along (slice_index walk (length walk - 1)) (slice_index walk 0) loop.last;
  least = loop.least;
  simple = loop.simple;
}

-- where numbers rise along all ways there is no loop
no_loop : (Goes : ℕ → ℕ → Type 0) (rank : ℕ → ℕ) (walk : List ℕ)
    → ((a b : ℕ) → Goes a b → rank a < rank b) → IsLoopBy Goes walk → ⊥
no_loop Goes rank walk rises loop =
    let some = loop.some in
    let up = climbs (length walk - 1) (omega arith) in
    let down = rises (slice_index walk (length walk - 1)) (slice_index walk 0) loop.last in
    omega arith
  where
    climbs : (i : ℕ) → i < length walk → rank (slice_index walk 0) ≤ rank (slice_index walk i)
    climbs zero lt = omega arith
    climbs (suc i) lt =
        let up = climbs i (omega arith) in
        let next = rises (slice_index walk i) (slice_index walk (i + 1)) (loop.each i (omega arith)) in
        let same : i + 1 ≡ suc i = omega arith in
        let one = subst (λ k. rank (slice_index walk i) < rank (slice_index walk k)) same next in
        omega arith

no_kernel_loop : (kernels : List Kernel) (joins : List Join) (links : List LinkEnds) (order ranks : List ℕ)
    → AreJoined kernels joins links → AreOrdered (length kernels) links order ranks
    → (walk : List ℕ) → IsKernelLoop joins walk → ⊥
no_kernel_loop kernels joins links order ranks joined ordered walk loop =
    no_loop (IsLinked joins) (slice_index ranks) walk
    (λ a b linked.
    let link = of_any (λ (link : LinkEnds). (link.from.kernel ≡ a) × (link.to.kernel ≡ b)) links
    (link_goes kernels joins links a b joined linked) in
    subst (λ k. slice_index ranks k < slice_index ranks b) link.2.0
    (subst (λ k. slice_index ranks link.0.from.kernel < slice_index ranks k) link.2.1
    (All-contains (λ (l : LinkEnds). slice_index ranks l.from.kernel < slice_index ranks l.to.kernel)
    links link.0 ordered.rising link.1)))
    loop

-- links go between the kernels
pub go_within : (kernels : List Kernel) (joins : List Join) (links : List LinkEnds)
    → AreJoined kernels joins links → GoWithin (length kernels) links
go_within kernels joins links joined =
    all_by (λ (link : LinkEnds). (link.from.kernel < length kernels) × (link.to.kernel < length kernels)) links
    (λ link there.
    let join = zip_from (IsLinkOf kernels) (filter is_link joins) links link joined there in
    (within is_output join.0.right link.from join.2.from, within is_input join.0.left link.to join.2.to))
  where
    within : (is_kind : Kind → Bool) (end : End) (port : PortAt) → IsPortAt kernels is_kind end port
        → port.kernel < length kernels
    within is_kind (E.Kernel k name) port is =
        let has = node_by kernels is_kind name port is.node in
        slice_get_within kernels port.kernel has.kernel has.of
    within is_kind (E.Cpu name) port is = absurd is

-- ---- all together

-- what the steps of joining a manager's plan find
pub record IsDone (plan : Plan) (kernels : List Kernel) (links : List LinkEnds)
    (inputs outputs : List HostPort) (order ranks : List ℕ) : Type 0
  where
    pub manager : plan.manager ≡ true
    pub managed : IsManaged plan
    pub named : AreKernelsOf plan kernels
    pub names : NamesDiffer plan kernels
    pub few : AreFew kernels
    pub known : All (Contains (terminals plan kernels)) (ends_of plan.joins)
    pub once : AllDiffer (ends_of plan.joins)
    pub hosts : All (λ join. IsHostToHost join → ⊥) plan.joins
    pub joined : AreJoined kernels plan.joins links
    pub count : length links < 2 ^ 32
    pub same_types : All (HaveOneType kernels) links
    pub types : All (λ join. HasTwoTypes kernels join → ⊥) plan.joins
    pub linked : All (Contains (ends_of plan.joins)) (terminals plan kernels)
    pub ordered : AreOrdered (length kernels) links order ranks
    pub fed : AllZip (IsHostInput kernels plan.joins) plan.from_cpu inputs
    pub given : AllZip (IsHostOutput kernels plan.joins) plan.to_cpu outputs
    pub from_types : All (HasType kernels) inputs
    pub to_types : All (HasType kernels) outputs

pub carried_out : (plan : Plan) (kernels : List Kernel) (links : List LinkEnds)
    (inputs outputs : List HostPort) (order ranks : List ℕ)
    → IsDone plan kernels links inputs outputs order ranks
    → IsCarriedOut plan kernels
    (record { links = links; inputs = inputs; outputs = outputs; order = order; ranks = ranks })
carried_out plan kernels links inputs outputs order ranks done = record {
  project = record {
    named = done.named;
    differ = done.names.of_kernels;
    few = done.few;
    links = done.joined;
    count = done.count;
    types = done.same_types;
    feeds = all_ports kernels is_input left right plan.joins plan.from_cpu links inputs (λ link. link.to)
        (inputs_side plan kernels done.managed done.names done.once done.linked)
        (zip_weaker (IsLinkOf kernels) (λ join link. IsPortAt kernels is_input join.left link.to)
        (filter is_link plan.joins) links done.joined (λ join link is. is.to))
        (zip_weaker (IsHostInput kernels plan.joins) (IsHostAt kernels is_input left right plan.joins)
        plan.from_cpu inputs done.fed (λ name host is. is.joined));
    gives = all_ports kernels is_output right left plan.joins plan.to_cpu links outputs (λ link. link.from)
        (outputs_side plan kernels done.managed done.names done.once done.linked)
        (zip_weaker (IsLinkOf kernels) (λ join link. IsPortAt kernels is_output join.right link.from)
        (filter is_link plan.joins) links done.joined (λ join link is. is.from))
        (zip_weaker (IsHostOutput kernels plan.joins) (IsHostAt kernels is_output right left plan.joins)
        plan.to_cpu outputs done.given (λ name host is. is.joined));
    inputs = streams kernels (IsHostInput kernels plan.joins) plan.from_cpu inputs done.fed
        (λ name host is. is.named) done.names.from_cpu done.managed.from_cpu done.from_types;
    outputs = streams kernels (IsHostOutput kernels plan.joins) plan.to_cpu outputs done.given
        (λ name host is. is.named) done.names.to_cpu done.managed.to_cpu done.to_types;
    ordered = done.ordered;
  };
  from_cpu = subst (λ m. AreInputsBy m plan kernels inputs) (sym done.manager) done.fed;
  to_cpu = subst (λ m. AreOutputsBy m plan kernels outputs) (sym done.manager) done.given;
  rules = λ manager. record {
    names = done.names;
    few = done.few;
    known = done.known;
    once = done.once;
    hosts = done.hosts;
    types = done.types;
    linked = done.linked;
    no_loop = no_kernel_loop kernels plan.joins links order ranks done.joined done.ordered;
  };
}
