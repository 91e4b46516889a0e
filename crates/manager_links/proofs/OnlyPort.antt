-- That a kernel has one port of a kind and a name, and what stands at the numbers of links.
use Rattle.std.proofs.Common.{◌≡◌, ℕ, ◌<◌, length, get_or, Bool, true, false, ◌&&◌, List, refl, sym, ap, ◌∙◌, subst}
use Rattle.std.specs.Prelude.{Option, Some, None, slice_get, IsSome, IsSomeAnd}
use Rattle.std.specs.List.{AllZip}
use Rattle.std.specs.Option.{option_and_then}
use Rattle.std.proofs.lemmas.Option.{same_Some, get_or_from_slice_get}
use Rattle.kernel_meaning.specs.declared.plan.End.{End}
use Rattle.kernel_meaning.specs.declared.plan.End.TheVariants as E
use Rattle.kernel_meaning.specs.declared.plan.Join.{Join}
use Rattle.kernel_meaning.specs.declared.plan.Plan.{Plan}
use Rattle.stream_graph.specs.declared.kernel.Kernel.{Kernel}
use Rattle.stream_graph.specs.declared.node.Kind.{Kind}
use Rattle.stream_graph.specs.declared.node.Kind.TheVariants as K
use Rattle.stream_graph.specs.declared.node.Node.{Node}
use Rattle.stream_graph.specs.Kinds.{is_input, is_output}
use Rattle.manager_links.specs.declared.ends.Ends.{Ends}
use Rattle.manager_links.specs.declared.links.LinkEnds.{LinkEnds}
use Rattle.manager_links.specs.declared.links.PortAt.{PortAt}
use Rattle.manager_links.specs.declared.terminals.Slot.{Slot}
use Rattle.manager_links.specs.declared.terminals.Slot.TheVariants as S
use Rattle.manager_links.specs.Joined.{is_of_kernel, is_link, IsLinkOf}
use Rattle.manager_links.specs.Numbers.{IsSlot, AreEnds}
use Rattle.manager_links.specs.Ports.{node_of, IsNamed, IsPortOf, IsPortAt, type_of}
use Rattle.manager_links.specs.Rules.{HasTwoTypes}
use Rattle.manager_links.specs.Steps.{is_port, IsPortSlot}
use Rattle.manager_links.specs.Terminals.{Terminal, Input, Output, terminal_by, left_terminal, right_terminal, terminals}
use Rattle.manager_links.proofs.Pieces.{zip_get, get_read, read_in}
use Rattle.manager_links.proofs.PortNames.{has_ports}

-- ---- one port of a kind and a name

-- the kernel and the node of a port
pub record HasNode (kernels : List Kernel) (is_kind : Kind → Bool) (name : List ℕ) (port : PortAt) : Type 0 where
  pub kernel : Kernel
  pub node : Node
  pub of : slice_get kernels port.kernel ≡ Some kernel
  pub at : slice_get kernel.nodes port.node ≡ Some node
  pub kind : is_kind node.view.kind ≡ true
  pub named : node.name ≡ name

pub node_by : (kernels : List Kernel) (is_kind : Kind → Bool) (name : List ℕ) (port : PortAt)
    → IsSomeAnd (node_of kernels port) (IsNamed is_kind name) → HasNode kernels is_kind name port
node_by kernels is_kind name port is = by_kernel (slice_get kernels port.kernel) refl is
  where
    by_node : (kernel : Kernel) → slice_get kernels port.kernel ≡ Some kernel → (o : Option Node)
        → slice_get kernel.nodes port.node ≡ o → IsSomeAnd o (IsNamed is_kind name)
        → HasNode kernels is_kind name port
    by_node kernel of None at is = absurd is
    by_node kernel of (Some node) at is =
        record { kernel = kernel; node = node; of = of; at = at; kind = is.0; named = is.1 }

    by_kernel : (o : Option Kernel) → slice_get kernels port.kernel ≡ o
        → IsSomeAnd (option_and_then (λ (k : Kernel). slice_get k.nodes port.node) o) (IsNamed is_kind name)
        → HasNode kernels is_kind name port
    by_kernel None of is = absurd is
    by_kernel (Some kernel) of is = by_node kernel of (slice_get kernel.nodes port.node) refl is

-- the terminals of two kinds of ports
abbrev pub TerminalsOf : (Kind → Bool) → (ℕ → List ℕ → Terminal) → Type 0
TerminalsOf is_kind end =
    (k : ℕ) (kind : Kind) (name : List ℕ) → is_kind kind ≡ true → terminal_by k kind name ≡ Some (end k name)

pub input_terminals : TerminalsOf is_input Input
input_terminals k K.Input name e = refl
input_terminals k _ name e = absurd (cc)

pub output_terminals : TerminalsOf is_output Output
output_terminals k K.Output name e = refl
output_terminals k _ name e = absurd (cc)

only_port : (kernels : List Kernel) (is_kind : Kind → Bool) (end : ℕ → List ℕ → Terminal)
    → TerminalsOf is_kind end → (number : ℕ) (name : List ℕ) (one other : PortAt)
    → IsPortOf kernels is_kind number name one → IsPortOf kernels is_kind number name other
    → one ≡ other
only_port kernels is_kind end terminals number name one other first second =
    let a = node_by kernels is_kind name one first.node in
    let b = node_by kernels is_kind name other second.node in
    let k : one.kernel ≡ other.kernel = first.kernel ∙ sym second.kernel in
    let same : a.kernel ≡ b.kernel =
    same_Some a.kernel b.kernel (sym a.of ∙ ap (slice_get kernels) k ∙ b.of) in
    let node : one.node ≡ other.node =
    (has_ports a.kernel).differ number one.node other.node a.node b.node (end number name) a.at
    (subst (λ (x : Kernel). slice_get x.nodes other.node ≡ Some b.node) (sym same) b.at)
    (terminals number a.node.view.kind a.node.name a.kind ∙ ap (λ m. Some (end number m)) a.named)
    (terminals number b.node.view.kind b.node.name b.kind ∙ ap (λ m. Some (end number m)) b.named) in
    λ i. record { kernel = k i; node = node i }

pub only_input : (kernels : List Kernel) (end : End) (one other : PortAt)
    → IsPortAt kernels is_input end one → IsPortAt kernels is_input end other → one ≡ other
only_input kernels (E.Kernel number name) one other a b =
    only_port kernels is_input Input input_terminals number name one other a b
only_input kernels (E.Cpu name) one other a b = absurd a

pub only_output : (kernels : List Kernel) (end : End) (one other : PortAt)
    → IsPortAt kernels is_output end one → IsPortAt kernels is_output end other → one ≡ other
only_output kernels (E.Kernel number name) one other a b =
    only_port kernels is_output Output output_terminals number name one other a b
only_output kernels (E.Cpu name) one other a b = absurd a

-- ---- ports of ends

pub named_some : (kernels : List Kernel) (is_kind : Kind → Bool) (end : End) (port : PortAt)
    → IsPortAt kernels is_kind end port → IsSome (node_of kernels port)
named_some kernels is_kind (E.Kernel number name) port is = some (node_of kernels port) is.node
  where
    some : (o : Option Node) → IsSomeAnd o (IsNamed is_kind name) → IsSome o
    some None is = absurd is
    some (Some node) is = refl
named_some kernels is_kind (E.Cpu name) port is = absurd is

-- the port that stands at the number of a kernel's end
pub left_slot : (plan : Plan) (kernels : List Kernel) (end : End) (slot : Slot)
    → IsSlot plan kernels (left_terminal end) slot → is_of_kernel end ≡ true
    → (port : PortAt) × (slot ≡ S.Port port) × IsPortAt kernels is_input end port
left_slot plan kernels (E.Kernel number name) (S.Port port) is k = (port, refl, is)
left_slot plan kernels (E.Kernel number name) (S.FromCpu place) is k = absurd is
left_slot plan kernels (E.Kernel number name) (S.ToCpu place) is k = absurd is
left_slot plan kernels (E.Cpu name) slot is k = absurd (cc)

pub right_slot : (plan : Plan) (kernels : List Kernel) (end : End) (slot : Slot)
    → IsSlot plan kernels (right_terminal end) slot → is_of_kernel end ≡ true
    → (port : PortAt) × (slot ≡ S.Port port) × IsPortAt kernels is_output end port
right_slot plan kernels (E.Kernel number name) (S.Port port) is k = (port, refl, is)
right_slot plan kernels (E.Kernel number name) (S.FromCpu place) is k = absurd is
right_slot plan kernels (E.Kernel number name) (S.ToCpu place) is k = absurd is
right_slot plan kernels (E.Cpu name) slot is k = absurd (cc)

-- the ports of a link at the numbers of its ends
pub record HasLink (kernels : List Kernel) (slots : List Slot) (join : Join) (numbers : Ends) : Type 0 where
  pub link : LinkEnds
  pub is : IsLinkOf kernels join link
  pub from : slice_get slots numbers.right ≡ Some (S.Port link.from)
  pub to : slice_get slots numbers.left ≡ Some (S.Port link.to)

both : (a b : Bool) → a && b ≡ true → (a ≡ true) × (b ≡ true)
both true true e = (refl, refl)
both true false e = absurd (cc)
both false b e = absurd (cc)

pub has_link : (plan : Plan) (kernels : List Kernel) (ends : List Terminal) (slots : List Slot)
    (join : Join) (numbers : Ends) → AllZip (IsSlot plan kernels) ends slots
    → AreEnds ends join numbers → is_link join ≡ true → HasLink kernels slots join numbers
has_link plan kernels ends slots join numbers all are link =
    let of = both (is_of_kernel join.left) (is_of_kernel join.right) link in
    let l = zip_get (IsSlot plan kernels) ends slots numbers.left (left_terminal join.left) all are.left in
    let r = zip_get (IsSlot plan kernels) ends slots numbers.right (right_terminal join.right) all are.right in
    let to = left_slot plan kernels join.left l.0 l.2 of.0 in
    let from = right_slot plan kernels join.right r.0 r.2 of.1 in
    record {
      link = record { from = from.0; to = to.0 };
      is = record { from = from.2; to = to.2 };
      from = r.1 ∙ ap Some from.1;
      to = l.1 ∙ ap Some to.1;
    }

abbrev pub no_ends : Ends
no_ends = record { left = 0; right = 0 }

pub has_link_at : (plan : Plan) (kernels : List Kernel) (ends : List Terminal) (slots : List Slot)
    (joins : List Join) (numbers : List Ends) (i : ℕ) (join : Join)
    → AllZip (IsSlot plan kernels) ends slots → AllZip (AreEnds ends) joins numbers
    → i < length joins → join ≡ get_or joins i join → is_link join ≡ true
    → HasLink kernels slots join (get_or numbers i no_ends)
has_link_at plan kernels ends slots joins numbers i join all are lt is link =
    let at = zip_get (AreEnds ends) joins numbers i join are (get_read joins i join lt is) in
    subst (HasLink kernels slots join) (sym (get_or_from_slice_get numbers i at.0 no_ends at.1))
    (has_link plan kernels ends slots join at.0 all at.2 link)

pub port_slot : (slots : List Slot) (number : ℕ) (port : PortAt) → slice_get slots number ≡ Some (S.Port port)
    → IsPortSlot slots number
port_slot slots number port at = subst (λ o. IsSomeAnd o (λ slot. is_port slot ≡ true)) (sym at) refl

-- the ports that are read at these numbers are those of the link
pub link_is : (kernels : List Kernel) (slots : List Slot) (join : Join) (numbers : Ends) (link : LinkEnds)
    → HasLink kernels slots join numbers → slice_get slots numbers.right ≡ Some (S.Port link.from)
    → slice_get slots numbers.left ≡ Some (S.Port link.to) → IsLinkOf kernels join link
link_is kernels slots join numbers link has from to =
    let f : has.link.from ≡ link.from = port_same (same_Some _ _ (sym has.from ∙ from)) in
    let t : has.link.to ≡ link.to = port_same (same_Some _ _ (sym has.to ∙ to)) in
    record {
      from = subst (IsPortAt kernels is_output join.right) f has.is.from;
      to = subst (IsPortAt kernels is_input join.left) t has.is.to;
    }
  where
    port_same : {a b : PortAt} → S.Port a ≡ S.Port b → a ≡ b
    port_same e = cc

-- the ports that are read for a join of a list
pub record IsRead (kernels : List Kernel) (slots : List Slot) (join : Join) (numbers : Ends) : Type 0 where
  pub left : IsPortSlot slots numbers.left
  pub right : IsPortSlot slots numbers.right
  pub is : (link : LinkEnds) → slice_get slots numbers.right ≡ Some (S.Port link.from)
      → slice_get slots numbers.left ≡ Some (S.Port link.to) → IsLinkOf kernels join link

pub read_link : (plan : Plan) (kernels : List Kernel) (slots : List Slot) (items : List Join)
    (numbers : List Ends) (i : ℕ) (join : Join) → AllZip (IsSlot plan kernels) (terminals plan kernels) slots
    → AllZip (AreEnds (terminals plan kernels)) plan.joins numbers → items ≡ plan.joins
    → i < length items → join ≡ get_or items i join → is_link join ≡ true
    → IsRead kernels slots join (get_or numbers i no_ends)
read_link plan kernels slots items numbers i join all are same lt is link =
    let at = read_in items plan.joins i join same lt is in
    let has = has_link_at plan kernels (terminals plan kernels) slots plan.joins numbers i join all are at.0 at.1 link in
    record {
      left = port_slot slots (get_or numbers i no_ends).left has.link.to has.to;
      right = port_slot slots (get_or numbers i no_ends).right has.link.from has.from;
      is = λ link from to. link_is kernels slots join (get_or numbers i no_ends) link has from to;
    }

-- ---- types

-- a link whose ports have one type has no two types
pub one_type : (kernels : List Kernel) (join : Join) (link : LinkEnds) → IsLinkOf kernels join link
    → type_of kernels link.from ≡ type_of kernels link.to → HasTwoTypes kernels join → ⊥
one_type kernels join link is same two =
    two.differ
    (ap (type_of kernels) (only_input kernels join.left two.to link.to two.left is.to)
    ∙ sym same
    ∙ ap (type_of kernels) (only_output kernels join.right link.from two.from is.from two.right))

-- a join that is no link has no types
pub no_type : (kernels : List Kernel) (join : Join) → is_link join ≡ false → HasTwoTypes kernels join → ⊥
no_type kernels join other two = by_ends join.left join.right two.left two.right other
  where
    by_ends : (left right : End) → IsPortAt kernels is_input left two.to → IsPortAt kernels is_output right two.from
        → is_of_kernel left && is_of_kernel right ≡ false → ⊥
    by_ends (E.Kernel k x) (E.Kernel l y) a b e = cc
    by_ends (E.Kernel k x) (E.Cpu y) a b e = b
    by_ends (E.Cpu x) right a b e = a
