-- The blocks of the kernels are made one by one.
use Rattle.std.proofs.Common.{◌⊎◌, inl, inr, ◌≡◌, ℕ, suc, ◌+◌, ◌*◌, ◌<◌, ◌≤◌, ◌^◌, List, [], ◌∷◌, ◌++◌, take, length, get_or, refl, sym, ap, ◌∙◌, subst, arith, length-append}
use Rattle.std.specs.Prelude.{Option, Some, None, slice_get, sum_by}
use Rattle.std.specs.Option.{option_map_or}
use Rattle.std.proofs.lemmas.List.Elements.{All-append}
use Rattle.std.proofs.lemmas.List.Sums.{sum_by_more}
use Rattle.std.proofs.lemmas.Option.{slice_get_within, get_or_from_slice_get, same_Some}
use Rattle.stream_graph.specs.declared.kernel.Kernel.{Kernel}
use Rattle.kernel_control.specs.Ports.{inputs_of, outputs_of, scalars_of}
use Rattle.manager_links.specs.declared.links.PortAt.{PortAt}
use Rattle.manager_links.specs.declared.project.Project.{Project}
use Rattle.manager_links.proofs.Pieces.{get_push, get_read, some_within}
use Rattle.project_streams.specs.Streams.{nodes_at}
use Rattle.project_design.specs.declared.blocks.Block.{Block}
use Rattle.project_design.specs.declared.blocks.Blocks.{Blocks}
use Rattle.project_design.specs.declared.nodes.PortNodes.{PortNodes}
use Rattle.project_design.specs.Nodes.{AreWithin, ArePortNodes}
use Rattle.project_rtl.specs.Blocks.{streams_of, stream_count, scalar_count, block_size, first_net, first_scalar_port, place_of, stream_net, ended_net}
use Rattle.project_design.specs.Building.{IsBlockAt, IsBlock, AreBlocks}
use Rattle.project_design.proofs.Few.{scalars_few, streams_few, small_places}

-- those of the first so many kernels were made
pub record AreSoFar (project : Project) (n scalar net : ℕ) (each : List Block) : Type 0 where
  pub within : n ≤ length project.kernels
  pub count : length each ≡ n
  pub scalar_is : scalar ≡ first_scalar_port project n
  pub net_is : net ≡ first_net project n
  pub each_is :
      (k : ℕ) (kernel : Kernel) (block : Block)
      → slice_get project.kernels k ≡ Some kernel
      → slice_get each k ≡ Some block
      → IsBlock project k kernel block

pub none_yet : (project : Project) (scalar net : ℕ) (each : List Block) → each ≡ []
    → scalar ≡ first_scalar_port project 0 → net ≡ first_net project 0 → AreSoFar project 0 scalar net each
none_yet project scalar net each e s n = record {
  within = omega arith;
  count = ap (λ (l : List Block). length l) e;
  scalar_is = s;
  net_is = n;
  each_is = λ k kernel block at here. absurd (none k block (sym (ap (λ (l : List Block). slice_get l k) e) ∙ here));
}
  where
    no_blocks : List Block
    no_blocks = []

    none : (k : ℕ) (block : Block) → slice_get no_blocks k ≡ Some block → ⊥
    none k block e = cc

pub one_more : (project : Project) (n scalar net scalar' net' : ℕ) (old new : List Block) (kernel : Kernel) (block : Block)
    → n < length project.kernels → kernel ≡ get_or project.kernels n kernel
    → AreSoFar project n scalar net old → IsBlockAt kernel scalar net block → new ≡ old ++ block ∷ []
    → scalar' ≡ scalar + length block.scalars.items → net' ≡ net + (3 * length block.streams.items + 1)
    → AreSoFar project (n + 1) scalar' net' new
one_more project n scalar net scalar' net' old new kernel block lt at h is e s t =
    let small = small_places project in
    let here = get_read project.kernels n kernel lt at in
    let sn = h.scalar_is in
    let nn = h.net_is in
    let cs : length block.scalars.items ≡ scalar_count kernel = ap (λ (l : List ℕ). length l) is.scalars in
    let ct : length block.streams.items ≡ stream_count kernel = ap (λ (l : List ℕ). length l) is.streams in
    let ms : sum_by scalar_count (take (n + 1) project.kernels) ≡ sum_by scalar_count (take n project.kernels) + scalar_count kernel =
    sum_by_more scalar_count project.kernels n kernel lt ∙ ap (λ (k : Kernel). sum_by scalar_count (take n project.kernels) + scalar_count k) (sym at) in
    let mt : sum_by block_size (take (n + 1) project.kernels) ≡ sum_by block_size (take n project.kernels) + block_size kernel =
    sum_by_more block_size project.kernels n kernel lt ∙ ap (λ (k : Kernel). sum_by block_size (take n project.kernels) + block_size k) (sym at) in
    let own : IsBlockAt kernel (first_scalar_port project n) (first_net project n) block =
    subst (λ x. IsBlockAt kernel (first_scalar_port project n) x block) nn (subst (λ x. IsBlockAt kernel x net block) sn is) in
    let one : IsBlock project n kernel block = record {
      is = own;
      scalar_small = subst (λ x. x + 2 ^ 12 ≤ 2 ^ 24) (sym own.scalar_is) (small.scalars n);
      net_small = subst (λ x. x + 2 ^ 15 ≤ 2 ^ 24) (sym own.net_is) (small.nets n);
    } in
    record {
      within = omega arith;
      count = ap (λ (l : List Block). length l) e ∙ length-append old (block ∷ []) ∙ ap (λ k. k + 1) h.count;
      scalar_is = omega arith;
      net_is = omega arith;
      each_is = λ k other found k_at f_at. by k other found k_at (get_push old block found k (sym (ap (λ (l : List Block). slice_get l k) e) ∙ f_at)) one;
    }
  where
    by : (k : ℕ) (other : Kernel) (found : Block) → slice_get project.kernels k ≡ Some other
        → (slice_get old k ≡ Some found) ⊎ ((k ≡ length old) × (block ≡ found))
        → IsBlock project n kernel block → IsBlock project k other found
    by k other found k_at (inl old_at) one = h.each_is k other found k_at old_at
    by k other found k_at (inr (last, same)) one =
        let kn : k ≡ n = last ∙ h.count in
        let same_kernel : kernel ≡ other =
        same_Some kernel other (sym (get_read project.kernels n kernel lt at) ∙ sym (ap (λ j. slice_get project.kernels j) kn) ∙ k_at) in
        subst (λ b. IsBlock project k other b) same
        (subst (λ x. IsBlock project k x block) same_kernel
        (subst (λ j. IsBlock project j kernel block) (sym kn) one))

-- the block of a kernel is read by its number
pub record IsBlockHere (project : Project) (k : ℕ) (block : Block) : Type 0 where
  pub kernel : Kernel
  pub at : slice_get project.kernels k ≡ Some kernel
  pub is : IsBlock project k kernel block

-- ---- one block

pub block_made : (kernel : Kernel) (ports : PortNodes) (outs : List ℕ) (scalar net : ℕ) (block : Block) → ArePortNodes kernel.nodes ports
    → block.scalars.items ≡ ports.scalars.items → block.streams.items ≡ ports.inputs.items ++ outs → outs ≡ ports.outputs.items
    → block.first_scalar ≡ scalar → block.first_net ≡ net → IsBlockAt kernel scalar net block
block_made kernel ports outs scalar net block are s t o fs fn =
    let all : block.streams.items ≡ ports.inputs.items ++ ports.outputs.items = t ∙ ap (λ l. ports.inputs.items ++ l) o in
    let scalars = s ∙ are.scalars in
    let streams : block.streams.items ≡ streams_of kernel.nodes =
    all ∙ ap (λ l. l ++ ports.outputs.items) are.inputs ∙ ap (λ l. inputs_of kernel.nodes ++ l) are.outputs in
    let cs : length block.scalars.items ≡ scalar_count kernel = ap (λ (l : List ℕ). length l) scalars in
    let ct : length block.streams.items ≡ stream_count kernel = ap (λ (l : List ℕ). length l) streams in
    let few = scalars_few kernel in
    let few' = streams_few kernel in
    record {
      scalars = scalars;
      streams = streams;
      scalar_is = fs;
      net_is = fn;
      scalars_within = subst (AreWithin kernel.nodes) (sym s) are.scalars_within;
      streams_within = subst (AreWithin kernel.nodes) (sym all) (All-append (λ n. n < length kernel.nodes) ports.inputs.items ports.outputs.items are.inputs_within are.outputs_within);
      few_scalars = omega arith;
      few_streams = omega arith;
    }

-- ---- the blocks of a project

-- the block of this number
pub block_at : (blocks : Blocks) (k : ℕ) (block : Block) → AreBlocks blocks → slice_get blocks.each.items k ≡ Some block
    → IsBlockHere blocks.project.now k block
block_at blocks k block are at =
    let lt = slice_get_within blocks.each.items k block at in
    let n = are.count in
    by (slice_get blocks.project.now.kernels k) refl (omega arith)
  where
    by : (o : Option Kernel) → slice_get blocks.project.now.kernels k ≡ o → k < length blocks.project.now.kernels → IsBlockHere blocks.project.now k block
    by None e lt = absurd (some_within blocks.project.now.kernels k lt e)
    by (Some kernel) e lt = record { kernel = kernel; at = e; is = are.each k kernel block e at }

pub block_read : (blocks : Blocks) (k : ℕ) (block : Block) → AreBlocks blocks → k < length blocks.project.now.kernels
    → block ≡ get_or blocks.each.items k block → IsBlockHere blocks.project.now k block
block_read blocks k block are lt at =
    let n = are.count in
    block_at blocks k block are (get_read blocks.each.items k block (omega arith) at)

-- the kernel of a block
pub kernel_here : (project : Project) (k : ℕ) (kernel : Kernel) (block : Block) → k < length project.kernels → kernel ≡ get_or project.kernels k kernel
    → IsBlockHere project k block → IsBlock project k kernel block
kernel_here project k kernel block lt at here =
    subst (λ x. IsBlock project k x block) (same_Some here.kernel kernel (sym here.at ∙ get_read project.kernels k kernel lt at)) here.is

-- a stream of the kernel of a block
pub stream_is : (project : Project) (port : PortAt) (block : Block) → IsBlockHere project port.kernel block
    → block.first_net + 3 * place_of port.node block.streams.items ≡ stream_net project port
stream_is project port block here =
    let own = here.is.is in
    let nodes : nodes_at project.kernels port.kernel ≡ here.kernel.nodes = ap (λ o. option_map_or (λ (kernel : Kernel). kernel.nodes) o []) here.at in
    ap (λ n. n + 3 * place_of port.node block.streams.items) own.net_is
    ∙ ap (λ l. first_net project port.kernel + 3 * place_of port.node l) (own.streams ∙ ap streams_of (sym nodes))

pub ended_is : (project : Project) (k : ℕ) (block : Block) → IsBlockHere project k block
    → block.first_net + 3 * length block.streams.items ≡ ended_net project k
ended_is project k block here =
    let own = here.is.is in
    let nodes : nodes_at project.kernels k ≡ here.kernel.nodes = ap (λ o. option_map_or (λ (kernel : Kernel). kernel.nodes) o []) here.at in
    ap (λ n. n + 3 * length block.streams.items) own.net_is
    ∙ ap (λ l. first_net project k + 3 * length l) (own.streams ∙ ap streams_of (sym nodes))

-- the net behind the last block
pub next_is : (project : Project) (k : ℕ) (block : Block) → IsBlockHere project k block → k + 1 ≡ length project.kernels
    → block.first_net + 3 * length block.streams.items + 1 ≡ first_net project (length project.kernels)
next_is project k block here last =
    let own = here.is.is in
    let lt = slice_get_within project.kernels k here.kernel here.at in
    let read = get_or_from_slice_get project.kernels k here.kernel here.kernel here.at in
    let ct : length block.streams.items ≡ stream_count here.kernel = ap (λ (l : List ℕ). length l) own.streams in
    let net = own.net_is in
    let more : sum_by block_size (take (k + 1) project.kernels) ≡ sum_by block_size (take k project.kernels) + block_size here.kernel =
    sum_by_more block_size project.kernels k here.kernel lt ∙ ap (λ (x : Kernel). sum_by block_size (take k project.kernels) + block_size x) read in
    let next : block.first_net + 3 * length block.streams.items + 1 ≡ first_net project (k + 1) = omega arith in
    next ∙ ap (first_net project) last

-- all of them
pub all_blocks : (blocks : Blocks) (n scalar net : ℕ) → length blocks.project.now.kernels ≤ n
    → AreSoFar blocks.project.now n scalar net blocks.each.items → AreBlocks blocks
all_blocks blocks n scalar net le h =
    let a = h.within in
    let b = h.count in
    record { count = omega arith; each = h.each_is }

-- how much room there is
pub room : (project : Project) (n scalar net : ℕ) (each : List Block) → AreSoFar project n scalar net each → (scalar + 4096 ≤ 16777216) × (net + 32768 ≤ 16777216)
room project n scalar net each h =
    let small = small_places project in
    let s = small.scalars n in
    let t = small.nets n in
    let a = h.scalar_is in
    let b = h.net_is in
    (omega arith, omega arith)
