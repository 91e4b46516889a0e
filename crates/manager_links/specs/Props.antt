-- That what a project keeps is kept in one way.
use Rattle.std.specs.Prelude.{ℕ, Bool, List, [], ◌∷◌, IsSomeAnd}
use Rattle.std.specs.Coded.{coded_ℕ, coded_list}
use Rattle.std.specs.List.{AllZip}
use Rattle.std.specs.Option.{IsSomeAnd-prop}
use base.Stored.{Coded-set}
use mathlib.Core.Bool.{Bool-set}
use mathlib.Core.HLevel.{×_prop, Unit-prop}
use Rattle.fix_arith.specs.contracts.types.StreamType as stream_type
use Rattle.fix_arith.specs.declared.types.StreamType.{StreamType}
use Rattle.kernel_meaning.specs.declared.plan.End.{End}
use Rattle.kernel_meaning.specs.declared.plan.End.TheVariants as E
use Rattle.kernel_meaning.specs.declared.plan.Join.{Join}
use Rattle.stream_graph.specs.declared.kernel.Kernel.{Kernel}
use Rattle.stream_graph.specs.declared.node.Kind.{Kind}
use Rattle.stream_graph.specs.Kinds.{is_input, is_output}
use Rattle.manager_links.specs.declared.links.LinkEnds.{LinkEnds}
use Rattle.manager_links.specs.declared.links.PortAt.{PortAt}
use Rattle.manager_links.specs.Ports.{node_of, IsNamed, IsPortAt, IsPortOf}
use Rattle.manager_links.specs.Joined.{IsLinkOf}

pub types-set : IsSet StreamType
types-set = Coded-set stream_type.the_row.coded

pub names-set : IsSet (List ℕ)
names-set = Coded-set (coded_list coded_ℕ)

named-prop : (kernels : List Kernel) (is_kind : Kind → Bool) (name : List ℕ) (port : PortAt)
    → IsProp (IsSomeAnd (node_of kernels port) (IsNamed is_kind name))
named-prop kernels is_kind name port =
    IsSomeAnd-prop (node_of kernels port) (IsNamed is_kind name)
    (λ node. ×_prop (Bool-set _ _) (names-set _ _))

port_of-prop : (kernels : List Kernel) (is_kind : Kind → Bool) (number : ℕ) (name : List ℕ)
    (port : PortAt) → IsProp (IsPortOf kernels is_kind number name port)
port_of-prop kernels is_kind number name port a b = λ i. record {
  kernel = Coded-set coded_ℕ port.kernel number a.kernel b.kernel i;
  node = named-prop kernels is_kind name port a.node b.node i;
}

port_at-prop : (kernels : List Kernel) (is_kind : Kind → Bool) (end : End) (port : PortAt)
    → IsProp (IsPortAt kernels is_kind end port)
port_at-prop kernels is_kind (E.Kernel number name) port =
    port_of-prop kernels is_kind number name port
port_at-prop kernels is_kind (E.Cpu name) port = λ a b. absurd a

link-prop : (kernels : List Kernel) (join : Join) (link : LinkEnds)
    → IsProp (IsLinkOf kernels join link)
link-prop kernels join link a b = λ i. record {
  from = port_at-prop kernels is_output join.right link.from a.from b.from i;
  to = port_at-prop kernels is_input join.left link.to a.to b.to i;
}

all_zip-prop : {A B : Type 0} (R : A → B → Type 0) → ((a : A) (b : B) → IsProp (R a b))
    → (xs : List A) (ys : List B) → IsProp (AllZip R xs ys)
all_zip-prop R each [] [] = Unit-prop
all_zip-prop R each [] (y ∷ ys) = λ a b. absurd a
all_zip-prop R each (x ∷ xs) [] = λ a b. absurd a
all_zip-prop R each (x ∷ xs) (y ∷ ys) = ×_prop (each x y) (all_zip-prop R each xs ys)

pub links-prop : (kernels : List Kernel) (joins : List Join) (links : List LinkEnds)
    → IsProp (AllZip (IsLinkOf kernels) joins links)
links-prop kernels joins links =
    all_zip-prop (IsLinkOf kernels) (link-prop kernels) joins links
