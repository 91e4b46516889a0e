-- Streams of the CPU, of kernels that stand alone and of managers.
use Rattle.std.proofs.Common.{◌≡◌, ℕ, ◌+◌, ◌<◌, ◌≤◌, Bool, true, false, List, [], ◌∷◌, ◌++◌, length, map, take, drop}
use Rattle.std.proofs.Common.{get_or, append_assoc, append-nil, refl, sym, ap, ◌∙◌, subst, arith, inl, inr, ◌⊎◌}
use Rattle.std.specs.Prelude.{All, Option, Some, None, slice_get, if◌then◌else◌, IsSome}
use Rattle.std.specs.List.{AllZip, Any, Contains, filter_map, cons_option}
use Rattle.std.proofs.lemmas.List.{drop_all, drop_more}
use Rattle.std.proofs.lemmas.List.Elements.{All-contains, filter_map-append}
use Rattle.std.proofs.lemmas.Option.{same_Some, slice_get_within, get_or_from_slice_get, slice_get-get_or}
use Rattle.kernel_meaning.specs.declared.plan.End.{End}
use Rattle.kernel_meaning.specs.declared.plan.End.TheVariants as E
use Rattle.kernel_meaning.specs.declared.plan.Join.{Join}
use Rattle.kernel_meaning.specs.declared.plan.Plan.{Plan}
use Rattle.stream_graph.specs.declared.kernel.Kernel.{Kernel}
use Rattle.stream_graph.specs.declared.node.Kind.{Kind}
use Rattle.stream_graph.specs.declared.node.Kind.TheVariants as K
use Rattle.stream_graph.specs.declared.node.Node.{Node}
use Rattle.stream_graph.specs.Kinds.{is_input, is_output}
use Rattle.manager_links.specs.declared.hosts.HostPort.{HostPort}
use Rattle.manager_links.specs.declared.links.PortAt.{PortAt}
use Rattle.manager_links.specs.declared.terminals.Slot.{Slot}
use Rattle.manager_links.specs.declared.terminals.Slot.TheVariants as S
use Rattle.manager_links.specs.Hosts.{own_host, own_hosts}
use Rattle.manager_links.specs.Joined.{is_of_kernel}
use Rattle.manager_links.specs.Numbers.{IsSlot}
use Rattle.manager_links.specs.Placed.{ArePartners, Joins}
use Rattle.manager_links.specs.Ports.{node_of, IsPortAt}
use Rattle.manager_links.specs.Rules.{IsHostToHost}
use Rattle.manager_links.specs.Steps.{is_port, IsPortSlot}
use Rattle.manager_links.specs.Terminals.{Terminal, Input, Output, FromCpu, ToCpu, left_terminal, right_terminal}
use Rattle.manager_links.specs.Terminals.{ports_from, terminal_by, terminal_of, terminals}
use Rattle.manager_links.proofs.OnlyPort.{left_slot, right_slot, named_some, port_slot}
use Rattle.manager_links.proofs.Pieces.{filter_map_step, zip_back, zip_get, zip_length, zip_push}
use Rattle.manager_links.proofs.Sides.{any_of, of_any}

-- ---- of a kernel that stands alone

drop_at : (nodes : List Node) (n : ℕ) (node : Node) → slice_get nodes n ≡ Some node
    → drop n nodes ≡ node ∷ drop (n + 1) nodes
drop_at nodes n node at =
    drop_more nodes n node (slice_get_within nodes n node at)
    ∙ ap (λ y. y ∷ drop (n + 1) nodes) (get_or_from_slice_get nodes n node node at)

rest_at : (is_kind : Kind → Bool) (nodes : List Node) (n : ℕ) (node : Node) (answer : Bool)
    → slice_get nodes n ≡ Some node → is_kind node.view.kind ≡ answer
    → own_hosts is_kind n (drop n nodes)
    ≡ (if answer then own_host n node ∷ own_hosts is_kind (n + 1) (drop (n + 1) nodes)
    else own_hosts is_kind (n + 1) (drop (n + 1) nodes))
rest_at is_kind nodes n node answer at is =
    ap (own_hosts is_kind n) (drop_at nodes n node at)
    ∙ ap (λ t. if t then own_host n node ∷ own_hosts is_kind (n + 1) (drop (n + 1) nodes)
    else own_hosts is_kind (n + 1) (drop (n + 1) nodes)) is

-- the streams so far, and those of the nodes from this one on
abbrev pub AreSoFar : (Kind → Bool) → List Node → ℕ → List HostPort → Type 0
AreSoFar is_kind nodes n so_far =
    so_far ++ own_hosts is_kind n (drop n nodes) ≡ own_hosts is_kind 0 nodes

-- one more node, which has a stream
pub host_more : (is_kind : Kind → Bool) (nodes : List Node) (n : ℕ) (node : Node)
    (so_far new : List HostPort) → slice_get nodes n ≡ Some node → is_kind node.view.kind ≡ true
    → AreSoFar is_kind nodes n so_far → new ≡ so_far ++ own_host n node ∷ []
    → AreSoFar is_kind nodes (n + 1) new
host_more is_kind nodes n node so_far new at is now made =
    ap (λ front. front ++ own_hosts is_kind (n + 1) (drop (n + 1) nodes)) made
    ∙ append_assoc so_far (own_host n node ∷ []) (own_hosts is_kind (n + 1) (drop (n + 1) nodes))
    ∙ ap (λ rest. so_far ++ rest) (sym (rest_at is_kind nodes n node true at is))
    ∙ now

-- one more node, which has none
pub host_passed : (is_kind : Kind → Bool) (nodes : List Node) (n : ℕ) (node : Node)
    (so_far new : List HostPort) → slice_get nodes n ≡ Some node → is_kind node.view.kind ≡ false
    → AreSoFar is_kind nodes n so_far → new ≡ so_far → AreSoFar is_kind nodes (n + 1) new
host_passed is_kind nodes n node so_far new at is now same =
    ap (λ front. front ++ own_hosts is_kind (n + 1) (drop (n + 1) nodes)) same
    ∙ ap (λ rest. so_far ++ rest) (sym (rest_at is_kind nodes n node false at is))
    ∙ now

-- all nodes were met
pub hosts_all : (is_kind : Kind → Bool) (nodes : List Node) (n : ℕ) (so_far : List HostPort)
    → length nodes ≤ n → AreSoFar is_kind nodes n so_far → so_far ≡ own_hosts is_kind 0 nodes
hosts_all is_kind nodes n so_far end now =
    sym (append-nil so_far)
    ∙ ap (λ rest. so_far ++ own_hosts is_kind n rest) (sym (drop_all n nodes end))
    ∙ now

pub no_input : (kind : Kind) → (kind ≡ K.Input → ⊥) → is_input kind ≡ false
no_input K.Input not = absurd (not refl)
no_input _ not = refl

pub no_output : (kind : Kind) → (kind ≡ K.Output → ⊥) → is_output kind ≡ false
no_output K.Output not = absurd (not refl)
no_output _ not = refl

-- ---- of a manager

abbrev pub from_name : Terminal → Option (List ℕ)
from_name (FromCpu name) = Some name
from_name _ = None

abbrev pub to_name : Terminal → Option (List ℕ)
to_name (ToCpu name) = Some name
to_name _ = None

-- ports have no names of streams
abbrev OfStreams : (Terminal → Option (List ℕ)) → Type 0
OfStreams name =
    ((k : ℕ) (x : List ℕ) → name (Input k x) ≡ None) × ((k : ℕ) (x : List ℕ) → name (Output k x) ≡ None)

no_stream : (name : Terminal → Option (List ℕ)) → OfStreams name → (number : ℕ) (nodes : List Node)
    → filter_map name (filter_map (terminal_of number) nodes) ≡ []
no_stream name of number [] = refl
no_stream name of number (node ∷ nodes) = by_kind node.view.kind (no_stream name of number nodes)
  where
    rest : List Terminal
    rest = filter_map (terminal_of number) nodes

    by_kind : (kind : Kind) → filter_map name rest ≡ []
        → filter_map name (cons_option (terminal_by number kind node.name) rest) ≡ []
    by_kind K.Input none = ap (λ o. cons_option o (filter_map name rest)) (of.0 number node.name) ∙ none
    by_kind K.Output none = ap (λ o. cons_option o (filter_map name rest)) (of.1 number node.name) ∙ none
    by_kind _ none = none

no_streams : (name : Terminal → Option (List ℕ)) → OfStreams name → (number : ℕ) (kernels : List Kernel)
    → filter_map name (ports_from number kernels) ≡ []
no_streams name of number [] = refl
no_streams name of number (kernel ∷ kernels) =
    filter_map-append name (filter_map (terminal_of number) kernel.nodes) (ports_from (number + 1) kernels)
    ∙ ap (λ front. front ++ filter_map name (ports_from (number + 1) kernels)) (no_stream name of number kernel.nodes)
    ∙ no_streams name of (number + 1) kernels

all_kept : (name : Terminal → Option (List ℕ)) (end : List ℕ → Terminal)
    → ((x : List ℕ) → name (end x) ≡ Some x) → (xs : List (List ℕ)) → filter_map name (map end xs) ≡ xs
all_kept name end is [] = refl
all_kept name end is (x ∷ xs) =
    ap (λ o. cons_option o (filter_map name (map end xs))) (is x) ∙ ap (λ rest. x ∷ rest) (all_kept name end is xs)

none_kept : (name : Terminal → Option (List ℕ)) (end : List ℕ → Terminal)
    → ((x : List ℕ) → name (end x) ≡ None) → (xs : List (List ℕ)) → filter_map name (map end xs) ≡ []
none_kept name end is [] = refl
none_kept name end is (x ∷ xs) =
    ap (λ o. cons_option o (filter_map name (map end xs))) (is x) ∙ none_kept name end is xs

streams_of : (name : Terminal → Option (List ℕ)) → OfStreams name → (plan : Plan) (kernels : List Kernel)
    → filter_map name (terminals plan kernels)
    ≡ filter_map name (map FromCpu plan.from_cpu) ++ filter_map name (map ToCpu plan.to_cpu)
streams_of name of plan kernels =
    filter_map-append name (ports_from 0 kernels) (map FromCpu plan.from_cpu ++ map ToCpu plan.to_cpu)
    ∙ ap (λ front. front ++ filter_map name (map FromCpu plan.from_cpu ++ map ToCpu plan.to_cpu))
    (no_streams name of 0 kernels)
    ∙ filter_map-append name (map FromCpu plan.from_cpu) (map ToCpu plan.to_cpu)

pub from_names : (plan : Plan) (kernels : List Kernel)
    → filter_map from_name (terminals plan kernels) ≡ plan.from_cpu
from_names plan kernels =
    streams_of from_name (λ k x. refl, λ k x. refl) plan kernels
    ∙ ap (λ front. front ++ filter_map from_name (map ToCpu plan.to_cpu))
    (all_kept from_name FromCpu (λ x. refl) plan.from_cpu)
    ∙ ap (λ rest. plan.from_cpu ++ rest) (none_kept from_name ToCpu (λ x. refl) plan.to_cpu)
    ∙ append-nil plan.from_cpu

pub to_names : (plan : Plan) (kernels : List Kernel)
    → filter_map to_name (terminals plan kernels) ≡ plan.to_cpu
to_names plan kernels =
    streams_of to_name (λ k x. refl, λ k x. refl) plan kernels
    ∙ ap (λ front. front ++ filter_map to_name (map ToCpu plan.to_cpu))
    (none_kept to_name FromCpu (λ x. refl) plan.from_cpu)
    ∙ all_kept to_name ToCpu (λ x. refl) plan.to_cpu

-- ---- what stands at the other end of a stream's join

pub of_from : (plan : Plan) (kernels : List Kernel) (end : Terminal) (place : ℕ)
    → IsSlot plan kernels end (S.FromCpu place)
    → (name : List ℕ) × (FromCpu name ≡ end) × (slice_get plan.from_cpu place ≡ Some name)
of_from plan kernels (FromCpu name) place is = (name, refl, is)
of_from plan kernels _ place is = absurd is

pub of_to : (plan : Plan) (kernels : List Kernel) (end : Terminal) (place : ℕ)
    → IsSlot plan kernels end (S.ToCpu place)
    → (name : List ℕ) × (ToCpu name ≡ end) × (slice_get plan.to_cpu place ≡ Some name)
of_to plan kernels (ToCpu name) place is = (name, refl, is)
of_to plan kernels _ place is = absurd is

pub of_port : (plan : Plan) (kernels : List Kernel) (end : Terminal) (port : PortAt)
    → IsSlot plan kernels end (S.Port port) → (from_name end ≡ None) × (to_name end ≡ None)
of_port plan kernels (Input number name) port is = (refl, refl)
of_port plan kernels (Output number name) port is = (refl, refl)
of_port plan kernels (FromCpu name) port is = absurd is
of_port plan kernels (ToCpu name) port is = absurd is

from_is : (end : End) (name : List ℕ) → right_terminal end ≡ FromCpu name → end ≡ E.Cpu name
from_is (E.Kernel k x) name e = absurd (cc)
from_is (E.Cpu x) name e = cc

to_is : (end : End) (name : List ℕ) → left_terminal end ≡ ToCpu name → end ≡ E.Cpu name
to_is (E.Kernel k x) name e = absurd (cc)
to_is (E.Cpu x) name e = cc

left_no_from : (end : End) (name : List ℕ) → left_terminal end ≡ FromCpu name → ⊥
left_no_from (E.Kernel k x) name e = cc
left_no_from (E.Cpu x) name e = cc

right_no_to : (end : End) (name : List ℕ) → right_terminal end ≡ ToCpu name → ⊥
right_no_to (E.Kernel k x) name e = cc
right_no_to (E.Cpu x) name e = cc

-- a join gives the words of a stream to a port, or takes them from one
abbrev pub GivesTo : List Kernel → List Join → List ℕ → PortAt → Type 0
GivesTo kernels joins name port =
    Any (λ join. (join.right ≡ E.Cpu name) × IsPortAt kernels is_input join.left port) joins

abbrev pub TakesFrom : List Kernel → List Join → List ℕ → PortAt → Type 0
TakesFrom kernels joins name port =
    Any (λ join. (join.left ≡ E.Cpu name) × IsPortAt kernels is_output join.right port) joins

-- a port stands at the other end, which is joined so
pub record IsOther (kernels : List Kernel) (slots : List Slot) (Joined : PortAt → Type 0) (other : ℕ) : Type 0 where
  pub slot : IsPortSlot slots other
  pub some : (port : PortAt) → slice_get slots other ≡ Some (S.Port port) → IsSome (node_of kernels port)
  pub joined : (port : PortAt) → slice_get slots other ≡ Some (S.Port port) → Joined port

is_other : (kernels : List Kernel) (slots : List Slot) (is_kind : Kind → Bool) (end : End)
    (Joined : PortAt → Type 0) (other : ℕ) (slot : Slot) → slice_get slots other ≡ Some slot
    → (port : PortAt) × (slot ≡ S.Port port) × IsPortAt kernels is_kind end port
    → ((port : PortAt) → IsPortAt kernels is_kind end port → Joined port)
    → IsOther kernels slots Joined other
is_other kernels slots is_kind end Joined other slot at own joined =
    let here : slice_get slots other ≡ Some (S.Port own.0) = at ∙ ap Some own.1 in
    record {
      slot = port_slot slots other own.0 here;
      some = λ port is. named_some kernels is_kind end port (subst (IsPortAt kernels is_kind end) (same own.0 port here is) own.2);
      joined = λ port is. joined port (subst (IsPortAt kernels is_kind end) (same own.0 port here is) own.2);
    }
  where
    same : (one two : PortAt) → slice_get slots other ≡ Some (S.Port one) → slice_get slots other ≡ Some (S.Port two)
        → one ≡ two
    same one two a b = let e : S.Port one ≡ S.Port two = same_Some (S.Port one) (S.Port two) (sym a ∙ b) in cc

-- an end that isn't a stream's is a kernel's
kernel_end : (end : End) → (is_of_kernel end ≡ false → ⊥) → is_of_kernel end ≡ true
kernel_end (E.Kernel k x) not = refl
kernel_end (E.Cpu x) not = absurd (not refl)

pub from_other : (plan : Plan) (kernels : List Kernel) (slots : List Slot) (number other : ℕ) (name : List ℕ)
    → AllZip (IsSlot plan kernels) (terminals plan kernels) slots
    → All (λ (join : Join). IsHostToHost join → ⊥) plan.joins
    → slice_get (terminals plan kernels) number ≡ Some (FromCpu name)
    → Any (Joins (terminals plan kernels) number other) plan.joins
    → IsOther kernels slots (GivesTo kernels plan.joins name) other
from_other plan kernels slots number other name all none at joins =
    by_join own.0 own.1 own.2.either
  where
    ends : List Terminal
    ends = terminals plan kernels

    own : (join : Join) × Contains plan.joins join × Joins ends number other join
    own = of_any (Joins ends number other) plan.joins joins

    by_join : (join : Join) → Contains plan.joins join
        → ((slice_get ends number ≡ Some (left_terminal join.left)) × (slice_get ends other ≡ Some (right_terminal join.right)))
        ⊎ ((slice_get ends number ≡ Some (right_terminal join.right)) × (slice_get ends other ≡ Some (left_terminal join.left)))
        → IsOther kernels slots (GivesTo kernels plan.joins name) other
    by_join join there (inl e) = absurd (left_no_from join.left name (same_Some _ _ (sym e.0 ∙ at)))
    by_join join there (inr e) =
        let right = from_is join.right name (same_Some _ _ (sym e.0 ∙ at)) in
        let left = kernel_end join.left (λ cpu. All-contains (λ (join : Join). IsHostToHost join → ⊥) plan.joins join none there
        (record { left = cpu; right = ap is_of_kernel right })) in
        let slot = zip_get (IsSlot plan kernels) ends slots other (left_terminal join.left) all e.1 in
        is_other kernels slots is_input join.left (GivesTo kernels plan.joins name) other slot.0 slot.1
        (left_slot plan kernels join.left slot.0 slot.2 left)
        (λ port is. any_of (λ join. (join.right ≡ E.Cpu name) × IsPortAt kernels is_input join.left port) plan.joins join there
        (right, is))

pub to_other : (plan : Plan) (kernels : List Kernel) (slots : List Slot) (number other : ℕ) (name : List ℕ)
    → AllZip (IsSlot plan kernels) (terminals plan kernels) slots
    → All (λ (join : Join). IsHostToHost join → ⊥) plan.joins
    → slice_get (terminals plan kernels) number ≡ Some (ToCpu name)
    → Any (Joins (terminals plan kernels) number other) plan.joins
    → IsOther kernels slots (TakesFrom kernels plan.joins name) other
to_other plan kernels slots number other name all none at joins =
    by_join own.0 own.1 own.2.either
  where
    ends : List Terminal
    ends = terminals plan kernels

    own : (join : Join) × Contains plan.joins join × Joins ends number other join
    own = of_any (Joins ends number other) plan.joins joins

    by_join : (join : Join) → Contains plan.joins join
        → ((slice_get ends number ≡ Some (left_terminal join.left)) × (slice_get ends other ≡ Some (right_terminal join.right)))
        ⊎ ((slice_get ends number ≡ Some (right_terminal join.right)) × (slice_get ends other ≡ Some (left_terminal join.left)))
        → IsOther kernels slots (TakesFrom kernels plan.joins name) other
    by_join join there (inr e) = absurd (right_no_to join.right name (same_Some _ _ (sym e.0 ∙ at)))
    by_join join there (inl e) =
        let left = to_is join.left name (same_Some _ _ (sym e.0 ∙ at)) in
        let right = kernel_end join.right (λ cpu. All-contains (λ (join : Join). IsHostToHost join → ⊥) plan.joins join none there
        (record { left = ap is_of_kernel left; right = cpu })) in
        let slot = zip_get (IsSlot plan kernels) ends slots other (right_terminal join.right) all e.1 in
        is_other kernels slots is_output join.right (TakesFrom kernels plan.joins name) other slot.0 slot.1
        (right_slot plan kernels join.right slot.0 slot.2 right)
        (λ port is. any_of (λ join. (join.left ≡ E.Cpu name) × IsPortAt kernels is_output join.right port) plan.joins join there
        (left, is))

abbrev pub no_slot : Slot
no_slot = S.Port (record { kernel = 0; node = 0 })

-- the stream that stands at a number, and what stands at the other end of its join
pub record HasStream (ends : List Terminal) (names : List (List ℕ)) (kernels : List Kernel) (slots : List Slot)
    (partners : List ℕ) (end : List ℕ → Terminal) (Joined : List ℕ → PortAt → Type 0) (number place : ℕ) : Type 0
  where
    pub within : number < length partners
    pub name : List ℕ
    pub here : slice_get ends number ≡ Some (end name)
    pub at : slice_get names place ≡ Some name
    pub other : IsOther kernels slots (Joined name) (get_or partners number 0)

same_size : (plan : Plan) (kernels : List Kernel) (slots : List Slot) (partners : List ℕ) (number : ℕ)
    → AllZip (IsSlot plan kernels) (terminals plan kernels) slots
    → ArePartners (terminals plan kernels) plan.joins partners → number < length slots → number < length partners
same_size plan kernels slots partners number all partnered lt =
    let a = zip_length (IsSlot plan kernels) (terminals plan kernels) slots all in
    let b = partnered.size in omega arith

pub has_from : (plan : Plan) (kernels : List Kernel) (slots : List Slot) (partners : List ℕ) (number place : ℕ)
    → AllZip (IsSlot plan kernels) (terminals plan kernels) slots
    → ArePartners (terminals plan kernels) plan.joins partners
    → All (λ (join : Join). IsHostToHost join → ⊥) plan.joins → number < length slots
    → get_or slots number no_slot ≡ S.FromCpu place
    → HasStream (terminals plan kernels) plan.from_cpu kernels slots partners FromCpu (GivesTo kernels plan.joins) number place
has_from plan kernels slots partners number place all partnered none lt is =
    let ends = terminals plan kernels in
    let end = zip_back (IsSlot plan kernels) ends slots number (S.FromCpu place) all
    (slice_get-get_or slots number no_slot lt ∙ ap Some is) in
    let own = of_from plan kernels end.0 place end.2 in
    let here = end.1 ∙ ap Some (sym own.1) in
    let within = same_size plan kernels slots partners number all partnered lt in
    let other = get_or partners number 0 in
    record {
      within = within;
      name = own.0;
      here = here;
      at = own.2;
      other = from_other plan kernels slots number other own.0 all none here
          (partnered.each number other (slice_get-get_or partners number 0 within));
    }

pub has_to : (plan : Plan) (kernels : List Kernel) (slots : List Slot) (partners : List ℕ) (number place : ℕ)
    → AllZip (IsSlot plan kernels) (terminals plan kernels) slots
    → ArePartners (terminals plan kernels) plan.joins partners
    → All (λ (join : Join). IsHostToHost join → ⊥) plan.joins → number < length slots
    → get_or slots number no_slot ≡ S.ToCpu place
    → HasStream (terminals plan kernels) plan.to_cpu kernels slots partners ToCpu (TakesFrom kernels plan.joins) number place
has_to plan kernels slots partners number place all partnered none lt is =
    let ends = terminals plan kernels in
    let end = zip_back (IsSlot plan kernels) ends slots number (S.ToCpu place) all
    (slice_get-get_or slots number no_slot lt ∙ ap Some is) in
    let own = of_to plan kernels end.0 place end.2 in
    let here = end.1 ∙ ap Some (sym own.1) in
    let within = same_size plan kernels slots partners number all partnered lt in
    let other = get_or partners number 0 in
    record {
      within = within;
      name = own.0;
      here = here;
      at = own.2;
      other = to_other plan kernels slots number other own.0 all none here
          (partnered.each number other (slice_get-get_or partners number 0 within));
    }

-- what stands at the number of a port
pub has_port : (plan : Plan) (kernels : List Kernel) (slots : List Slot) (number : ℕ) (slot : Slot)
    → AllZip (IsSlot plan kernels) (terminals plan kernels) slots → number < length slots
    → get_or slots number no_slot ≡ slot → is_port slot ≡ true
    → (end : Terminal) × (slice_get (terminals plan kernels) number ≡ Some end)
    × (from_name end ≡ None) × (to_name end ≡ None)
has_port plan kernels slots number (S.Port port) all lt is port_is =
    let end = zip_back (IsSlot plan kernels) (terminals plan kernels) slots number (S.Port port) all
    (slice_get-get_or slots number no_slot lt ∙ ap Some is) in
    let none = of_port plan kernels end.0 port end.2 in
    (end.0, end.1, none.0, none.1)
has_port plan kernels slots number (S.FromCpu place) all lt is port_is = absurd (cc)
has_port plan kernels slots number (S.ToCpu place) all lt is port_is = absurd (cc)

-- ---- one more terminal

-- one that is a stream
pub more_hosts : (R : List ℕ → HostPort → Type 0) (name_of : Terminal → Option (List ℕ)) (ends : List Terminal)
    (n : ℕ) (end : Terminal) (hosts new : List HostPort) (name : List ℕ) (host : HostPort)
    → AllZip R (filter_map name_of (take n ends)) hosts → slice_get ends n ≡ Some end
    → name_of end ≡ Some name → new ≡ hosts ++ host ∷ [] → R name host
    → AllZip R (filter_map name_of (take (n + 1) ends)) new
more_hosts R name_of ends n end hosts new name host all at is made holds =
    subst (λ names. AllZip R names new)
    (sym (filter_map_step name_of ends n end at
    ∙ ap (λ o. filter_map name_of (take n ends) ++ cons_option o []) is))
    (subst (AllZip R (filter_map name_of (take n ends) ++ name ∷ [])) (sym made)
    (zip_push R (filter_map name_of (take n ends)) hosts name host all holds))

-- another one
pub same_hosts : (R : List ℕ → HostPort → Type 0) (name_of : Terminal → Option (List ℕ)) (ends : List Terminal)
    (n : ℕ) (end : Terminal) (hosts new : List HostPort)
    → AllZip R (filter_map name_of (take n ends)) hosts → slice_get ends n ≡ Some end
    → name_of end ≡ None → new ≡ hosts → AllZip R (filter_map name_of (take (n + 1) ends)) new
same_hosts R name_of ends n end hosts new all at is made =
    subst (λ names. AllZip R names new)
    (sym (filter_map_step name_of ends n end at
    ∙ ap (λ o. filter_map name_of (take n ends) ++ cons_option o []) is
    ∙ append-nil (filter_map name_of (take n ends))))
    (subst (AllZip R (filter_map name_of (take n ends))) (sym made) all)
