-- The links of two kernels that a manager joins twice.
use Rattle.std.proofs.Common.{◌≡◌, refl, arith, ◌+◌, ◌<◌, ◌≤◌}
use Rattle.std.specs.Prelude.{ℕ, zero, suc, ℤ, pos, List, [], ◌∷◌, false, codes, slice_index, All}
use Rattle.std.proofs.lemmas.List.Elements.{All-nil, All-cons}
use Rattle.fix_arith.specs.declared.types.RoundMode.TheVariants.{ToNearEven}
use Rattle.fix_arith.specs.declared.types.StreamType.TheVariants.{UInt}
use Rattle.mx_bits.specs.declared.op.Op.TheVariants.{Add}
use Rattle.kernel_meaning.specs.declared.plan.End.{End}
use Rattle.kernel_meaning.specs.declared.plan.End.TheVariants as E
use Rattle.kernel_meaning.specs.declared.plan.Join.{Join}
use Rattle.stream_graph.specs.declared.kernel.Kernel.{Kernel}
use Rattle.stream_graph.specs.declared.node.Kind.{Kind}
use Rattle.stream_graph.specs.declared.node.Kind.TheVariants as K
use Rattle.stream_graph.specs.declared.node.Node.{Node}
use Rattle.manager_links.specs.declared.links.Link.{Link}
use Rattle.manager_links.specs.declared.links.LinkEnds.{LinkEnds}
use Rattle.manager_links.specs.declared.links.Links.{Links}
use Rattle.manager_links.specs.Joined.{IsLinkOf, ends_of_link}
use Rattle.manager_links.specs.Links.{AreLinks}
use Rattle.manager_links.specs.Starts.{Starts, AreLegal, first_edge, depth_of}

abbrev node : Kind → List ℕ → List ℕ → Node
node kind operands name = record {
  view = record { kind = kind; t = UInt 8; controlled = false };
  operands = operands;
  name = name;
  digits = [];
}

-- x = io.input("x"); io.output("p", stream.offset(x, 5)); io.output("q", stream.offset(x, 100))
abbrev split : List Node
split =
    node K.Input [] (codes "x")
    ∷ node (K.Offset (pos 5)) (0 ∷ []) []
    ∷ node K.Output (1 ∷ []) (codes "p")
    ∷ node (K.Offset (pos 100)) (0 ∷ []) []
    ∷ node K.Output (3 ∷ []) (codes "q") ∷ []

-- io.output("y", io.input("p") + io.input("q"))
abbrev add_two : List Node
add_two =
    node K.Input [] (codes "p")
    ∷ node K.Input [] (codes "q")
    ∷ node (K.Operation Add ToNearEven 0) (0 ∷ 1 ∷ []) []
    ∷ node K.Output (2 ∷ []) (codes "y") ∷ []

abbrev join : End → End → Join
join left right = record { left = left; right = right }

abbrev p_join : Join
p_join = join (E.Kernel 1 (codes "p")) (E.Kernel 0 (codes "p"))

abbrev q_join : Join
q_join = join (E.Kernel 1 (codes "q")) (E.Kernel 0 (codes "q"))

-- the first takes x from the CPU, and gives p and q to the second, which gives y to the CPU
abbrev joins : List Join
joins =
    join (E.Kernel 0 (codes "x")) (E.Cpu (codes "x"))
    ∷ p_join
    ∷ q_join
    ∷ join (E.Cpu (codes "y")) (E.Kernel 1 (codes "y")) ∷ []

-- each output of the first is written as late as its offset looks ahead; a sum takes one tick
abbrev times : List (List ℤ)
times =
    (pos 0 ∷ pos 0 ∷ pos 5 ∷ pos 0 ∷ pos 100 ∷ [])
    ∷ (pos 0 ∷ pos 0 ∷ pos 0 ∷ pos 1 ∷ []) ∷ []

abbrev p_ends : LinkEnds
p_ends = record { from = record { kernel = 0; node = 2 }; to = record { kernel = 1; node = 0 } }

abbrev q_ends : LinkEnds
q_ends = record { from = record { kernel = 0; node = 4 }; to = record { kernel = 1; node = 1 } }

abbrev p_link : Link
p_link = record { from = p_ends.from; to = p_ends.to; depth = 97 }

abbrev q_link : Link
q_link = record { from = q_ends.from; to = q_ends.to; depth = 2 }

-- the second starts where the first of q can be read, 95 edges after the first of p
abbrev made : Links
made = record { starts = 1 ∷ 102 ∷ []; links = p_link ∷ q_link ∷ [] }

abbrev start : Starts
start = slice_index made.starts

-- they are the links that the definitions give
two_ways : (a b : Kernel) → a.nodes ≡ split → b.nodes ≡ add_two
    → AreLinks (a ∷ b ∷ []) joins (p_ends ∷ q_ends ∷ []) times made
two_ways a b of_a of_b = record {
  ends = refl;
  joined = (p_joined, (q_joined, tt));
  starts = record {
    each = refl;
    legal = record { one = one; behind = both_ends IsBehind (omega arith) (omega arith) };
    least = least;
  };
  deep = both IsDeep (rw (of_a, of_b) refl) (rw (of_a, of_b) refl);
}
  where
    IsBehind : LinkEnds → Type 0
    IsBehind link = first_edge times start link.from + 1 ≤ first_edge times start link.to

    IsDeep : Link → Type 0
    IsDeep link = link.depth ≡ depth_of (a ∷ b ∷ []) times start (ends_of_link link)

    p_joined : IsLinkOf (a ∷ b ∷ []) p_join p_ends
    p_joined = record {
      from = record { kernel = refl; node = rw of_a (refl, refl) };
      to = record { kernel = refl; node = rw of_b (refl, refl) };
    }

    q_joined : IsLinkOf (a ∷ b ∷ []) q_join q_ends
    q_joined = record {
      from = record { kernel = refl; node = rw of_a (refl, refl) };
      to = record { kernel = refl; node = rw of_b (refl, refl) };
    }

    both : (P : Link → Type 0) → P p_link → P q_link → All P made.links
    both P p q = All-cons P p_link (q_link ∷ []) p (All-cons P q_link [] q (All-nil P))

    both_ends : (P : LinkEnds → Type 0) → P p_ends → P q_ends → All P (p_ends ∷ q_ends ∷ [])
    both_ends P p q = All-cons P p_ends (q_ends ∷ []) p (All-cons P q_ends [] q (All-nil P))

    one : (k : ℕ) → k < 2 → 1 ≤ start k
    one zero below = omega arith
    one (suc zero) below = omega arith
    one (suc (suc k)) below = absurd (omega arith)

    least : (other : Starts) → AreLegal times 2 (p_ends ∷ q_ends ∷ []) other
        → (k : ℕ) → k < 2 → start k ≤ other k
    least other legal zero below = legal.one 0 (omega arith)
    least other legal (suc zero) below =
        let first : 1 ≤ other 0 = legal.one 0 (omega arith) in
        let q : other 0 + 100 + 1 ≤ other 1 + 0 = legal.behind 1 q_ends (omega arith) in omega arith
    least other legal (suc (suc k)) below = absurd (omega arith)
