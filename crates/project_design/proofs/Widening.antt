-- The widths of the wires are made one by one.
use Rattle.std.proofs.Common.{◌≡◌, ℕ, suc, ◌+◌, ◌-◌, ◌*◌, ◌<◌, ◌≤◌, List, [], ◌∷◌, ◌++◌, map, drop, get_or, length, refl, sym, ap, ◌∙◌, arith, append_assoc}
use Rattle.std.specs.Prelude.{replicate}
use Rattle.std.specs.List.{flat_map}
use Rattle.std.proofs.lemmas.List.{replicate_more, replicate-append-replicate}
use Rattle.stream_graph.specs.declared.kernel.Kernel.{Kernel}
use Rattle.stream_graph.specs.declared.node.Node.{Node}
use Rattle.stream_graph.specs.LookUps.{width_at}
use Rattle.kernel_control.specs.Ports.{inputs_of, outputs_of}
use Rattle.manager_links.specs.declared.project.Project.{Project}
use Rattle.project_rtl.specs.Blocks.{streams_of}
use Rattle.project_rtl.specs.Tops.{stream_widths, block_widths, done_count, wire_widths}
use Rattle.project_design.proofs.Instancing.{next_item}

streams_append : (nodes : List Node) (ns more : List ℕ) → stream_widths nodes (ns ++ more) ≡ stream_widths nodes ns ++ stream_widths nodes more
streams_append nodes [] more = refl
streams_append nodes (n ∷ ns) more = ap (λ l. width_at nodes n ∷ 1 ∷ 1 ∷ l) (streams_append nodes ns more)

pub block_made : (kernel : Kernel) (ins outs u v w x : List ℕ) → v ≡ u ++ stream_widths kernel.nodes ins → w ≡ v ++ stream_widths kernel.nodes outs → x ≡ w ++ 1 ∷ []
    → ins ≡ inputs_of kernel.nodes → outs ≡ outputs_of kernel.nodes → x ≡ u ++ block_widths kernel
block_made kernel ins outs u v w x a b c i o =
    let nodes = kernel.nodes in
    let one = stream_widths nodes (inputs_of nodes) in
    let two = stream_widths nodes (outputs_of nodes) in
    let v' : v ≡ u ++ one = a ∙ ap (λ l. u ++ stream_widths nodes l) i in
    let w' : w ≡ u ++ stream_widths nodes (streams_of nodes) =
    b ∙ ap (λ l. l ++ stream_widths nodes outs) v' ∙ ap (λ l. (u ++ one) ++ stream_widths nodes l) o ∙ append_assoc u one two
    ∙ ap (λ l. u ++ l) (sym (streams_append nodes (inputs_of nodes) (outputs_of nodes))) in
    c ∙ ap (λ l. l ++ 1 ∷ []) w' ∙ append_assoc u (stream_widths nodes (streams_of nodes)) (1 ∷ [])

pub flat_step : {A B : Type 0} (f : A → List B) (xs : List A) (i : ℕ) (x : A) (old new target : List B) → i < length xs → x ≡ get_or xs i x
    → new ≡ old ++ f x → old ++ flat_map f (drop i xs) ≡ target → new ++ flat_map f (drop (i + 1) xs) ≡ target
flat_step f xs i x old new target lt at e h =
    let rest = flat_map f (drop (i + 1) xs) in
    ap (λ l. l ++ rest) e ∙ append_assoc old (f x) rest ∙ ap (λ l. old ++ flat_map f l) (sym (next_item xs i x lt at)) ∙ h

pub bits_more : (count : ℕ) (first old new : List ℕ) → new ≡ old ++ 1 ∷ [] → old ≡ first ++ replicate count 1 → new ≡ first ++ replicate (count + 1) 1
bits_more count first old new e h =
    e ∙ ap (λ l. l ++ 1 ∷ []) h ∙ append_assoc first (replicate count 1) (1 ∷ []) ∙ ap (λ l. first ++ l) (replicate_more count 1)

pub all_widths : (project : Project) (kernels : List Kernel) (one two : ℕ) (u v w x : List ℕ) → u ≡ [] → v ≡ u ++ flat_map block_widths kernels
    → w ≡ v ++ replicate one 1 → x ≡ w ++ replicate two 1 → kernels ≡ project.kernels → one + two ≡ done_count project → x ≡ wire_widths project
all_widths project kernels one two u v w x a b c d k n =
    let all = flat_map block_widths project.kernels in
    let v' : v ≡ all = b ∙ ap (λ l. l ++ flat_map block_widths kernels) a ∙ ap (flat_map block_widths) k in
    d ∙ ap (λ l. l ++ replicate two 1) (c ∙ ap (λ l. l ++ replicate one 1) v') ∙ append_assoc all (replicate one 1) (replicate two 1)
    ∙ ap (λ l. all ++ l) (replicate-append-replicate one two 1 ∙ ap (λ n. replicate n 1) n)
