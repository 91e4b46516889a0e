-- The instances are made one by one.
use Rattle.std.proofs.Common.{◌≡◌, ℕ, suc, ◌+◌, ◌-◌, ◌*◌, ◌<◌, ◌≤◌, List, [], ◌∷◌, ◌++◌, map, drop, get_or, length, refl, sym, ap, ◌∙◌, subst, arith, append_assoc, length-append}
use Rattle.std.specs.Prelude.{codes}
use Rattle.std.specs.Fmt.{decimal}
use Rattle.std.proofs.lemmas.List.{drop_more}
use Rattle.rtl_ir.specs.declared.design.Instance.{Instance}
use Rattle.rtl_ir.specs.Ports.{first_input, first_output}
use Rattle.stream_graph.specs.declared.kernel.Kernel.{Kernel}
use Rattle.manager_links.specs.declared.hosts.HostPort.{HostPort}
use Rattle.manager_links.specs.declared.links.LinkEnds.{LinkEnds}
use Rattle.manager_links.specs.declared.project.Project.{Project}
use Rattle.project_design.specs.declared.blocks.Block.{Block}
use Rattle.project_rtl.specs.Shapes.{shape_of}
use Rattle.project_rtl.specs.Blocks.{scalar_count, block_size, first_net, first_scalar_port, stream_net}
use Rattle.project_rtl.specs.Tops.{range, instance, fifo_nets, kernel_nets, input_instances, output_instances, link_instances, kernel_instances, host_count, fifo_count, instances_of}
use Rattle.project_design.specs.Building.{IsBlock}

-- ---- one more

pub next_item : {A : Type 0} (xs : List A) (i : ℕ) (x : A) → i < length xs → x ≡ get_or xs i x → drop i xs ≡ x ∷ drop (i + 1) xs
next_item xs i x lt is = drop_more xs i x lt ∙ ap (λ y. y ∷ drop (i + 1) xs) (sym is)

same_instance : (of : ℕ) (name other nets more : List ℕ) → name ≡ other → nets ≡ more → instance of name nets ≡ instance of other more
same_instance of name other nets more e f = ap (λ n. instance of n nets) e ∙ ap (λ n. instance of other n) f

-- what is left gives this one and the rest
step : (one : Instance) (rest : ℕ → List Instance) (all old new target : List Instance)
    → all ≡ one ∷ rest (length old + 1) → new ≡ old ++ one ∷ [] → old ++ all ≡ target → new ++ rest (length new) ≡ target
step one rest all old new target is e h =
    let len : length new ≡ length old + 1 = ap (λ (a : List Instance). length a) e ∙ length-append old (one ∷ []) in
    ap (λ a. a ++ rest (length new)) e
    ∙ ap (λ k. (old ++ one ∷ []) ++ rest k) len
    ∙ append_assoc old (one ∷ []) (rest (length old + 1))
    ∙ ap (λ l. old ++ l) (sym is)
    ∙ h

pub input_step : (project : Project) (port i net : ℕ) (hosts : List HostPort) (x : HostPort) (name nets : List ℕ) (old new target : List Instance)
    → i < length hosts → x ≡ get_or hosts i x → name ≡ codes "fifo$in$" ++ x.name → net ≡ stream_net project x.port → nets ≡ fifo_nets port net
    → new ≡ old ++ instance (length old) name nets ∷ []
    → old ++ input_instances project (length old) port (drop i hosts) ≡ target
    → new ++ input_instances project (length new) (port + 3) (drop (i + 1) hosts) ≡ target
input_step project port i net hosts x name nets old new target lt at n s f e h =
    let same = same_instance (length old) name (codes "fifo$in$" ++ x.name) nets (fifo_nets port (stream_net project x.port)) n (f ∙ ap (fifo_nets port) s) in
    let rest : ℕ → List Instance = λ k. input_instances project k (port + 3) (drop (i + 1) hosts) in
    step (instance (length old) name nets) rest (input_instances project (length old) port (drop i hosts)) old new target
    (ap (input_instances project (length old) port) (next_item hosts i x lt at) ∙ ap (λ z. z ∷ rest (length old + 1)) (sym same)) e h

pub output_step : (project : Project) (port i net : ℕ) (hosts : List HostPort) (x : HostPort) (name nets : List ℕ) (old new target : List Instance)
    → i < length hosts → x ≡ get_or hosts i x → name ≡ codes "fifo$out$" ++ x.name → net ≡ stream_net project x.port → nets ≡ fifo_nets net port
    → new ≡ old ++ instance (length old) name nets ∷ []
    → old ++ output_instances project (length old) port (drop i hosts) ≡ target
    → new ++ output_instances project (length new) (port + 3) (drop (i + 1) hosts) ≡ target
output_step project port i net hosts x name nets old new target lt at n s f e h =
    let same = same_instance (length old) name (codes "fifo$out$" ++ x.name) nets (fifo_nets (stream_net project x.port) port) n (f ∙ ap (λ k. fifo_nets k port) s) in
    let rest : ℕ → List Instance = λ k. output_instances project k (port + 3) (drop (i + 1) hosts) in
    step (instance (length old) name nets) rest (output_instances project (length old) port (drop i hosts)) old new target
    (ap (output_instances project (length old) port) (next_item hosts i x lt at) ∙ ap (λ z. z ∷ rest (length old + 1)) (sym same)) e h

pub link_step : (project : Project) (i taken given : ℕ) (links : List LinkEnds) (x : LinkEnds) (name nets : List ℕ) (old new target : List Instance)
    → i < length links → x ≡ get_or links i x → name ≡ codes "fifo$link$" ++ decimal i
    → taken ≡ stream_net project x.from → given ≡ stream_net project x.to → nets ≡ fifo_nets taken given
    → new ≡ old ++ instance (length old) name nets ∷ []
    → old ++ link_instances project (length old) i (drop i links) ≡ target
    → new ++ link_instances project (length new) (i + 1) (drop (i + 1) links) ≡ target
link_step project i taken given links x name nets old new target lt at n s t f e h =
    let same = same_instance (length old) name (codes "fifo$link$" ++ decimal i) nets (fifo_nets (stream_net project x.from) (stream_net project x.to)) n
    (f ∙ ap (λ k. fifo_nets k given) s ∙ ap (fifo_nets (stream_net project x.from)) t) in
    let rest : ℕ → List Instance = λ k. link_instances project k (i + 1) (drop (i + 1) links) in
    step (instance (length old) name nets) rest (link_instances project (length old) i (drop i links)) old new target
    (ap (link_instances project (length old) i) (next_item links i x lt at) ∙ ap (λ z. z ∷ rest (length old + 1)) (sym same)) e h

-- ---- a kernel

abbrev pub nets_of : ℕ → ℕ → ℕ → ℕ → ℕ → List ℕ
nets_of k scalar scalars net streams = range 0 2 ++ range (2 + 2 * k) 2 ++ range scalar scalars ++ range net (3 * streams + 1)

pub kernel_nets_are : (project : Project) (k : ℕ) (kernel : Kernel) (block : Block) → IsBlock project k kernel block
    → nets_of k block.first_scalar (length block.scalars.items) block.first_net (length block.streams.items) ≡ kernel_nets project k kernel
kernel_nets_are project k kernel block is =
    let own = is.is in
    ap (λ s. nets_of k s (length block.scalars.items) block.first_net (length block.streams.items)) own.scalar_is
    ∙ ap (λ (l : List ℕ). nets_of k (first_scalar_port project k) (length l) block.first_net (length block.streams.items)) own.scalars
    ∙ ap (λ n. nets_of k (first_scalar_port project k) (scalar_count kernel) n (length block.streams.items)) own.net_is
    ∙ ap (λ (l : List ℕ). nets_of k (first_scalar_port project k) (scalar_count kernel) (first_net project k) (length l)) own.streams

pub kernel_step : (project : Project) (k : ℕ) (kernels : List Kernel) (kernel : Kernel) (name nets : List ℕ) (old new target : List Instance)
    → k < length kernels → kernel ≡ get_or kernels k kernel → name ≡ codes "kernel$" ++ kernel.name → nets ≡ kernel_nets project k kernel
    → new ≡ old ++ instance (length old) name nets ∷ []
    → old ++ kernel_instances project (length old) k (drop k kernels) ≡ target
    → new ++ kernel_instances project (length new) (k + 1) (drop (k + 1) kernels) ≡ target
kernel_step project k kernels kernel name nets old new target lt at n f e h =
    let same = same_instance (length old) name (codes "kernel$" ++ kernel.name) nets (kernel_nets project k kernel) n f in
    let rest : ℕ → List Instance = λ j. kernel_instances project j (k + 1) (drop (k + 1) kernels) in
    step (instance (length old) name nets) rest (kernel_instances project (length old) k (drop k kernels)) old new target
    (ap (kernel_instances project (length old) k) (next_item kernels k kernel lt at) ∙ ap (λ z. z ∷ rest (length old + 1)) (sym same)) e h

-- ---- how many there are

pub length_inputs : (project : Project) (of port : ℕ) (hosts : List HostPort) → length (input_instances project of port hosts) ≡ length hosts
length_inputs project of port [] = refl
length_inputs project of port (host ∷ hosts) = ap suc (length_inputs project (of + 1) (port + 3) hosts)

pub length_outputs : (project : Project) (of port : ℕ) (hosts : List HostPort) → length (output_instances project of port hosts) ≡ length hosts
length_outputs project of port [] = refl
length_outputs project of port (host ∷ hosts) = ap suc (length_outputs project (of + 1) (port + 3) hosts)

pub length_links : (project : Project) (of number : ℕ) (links : List LinkEnds) → length (link_instances project of number links) ≡ length links
length_links project of number [] = refl
length_links project of number (link ∷ links) = ap suc (length_links project (of + 1) (number + 1) links)

-- ---- all of them

-- how many were made before those of each kind, and what they are
pub record AreMadeBy (project : Project) (first next : ℕ) (start a b c d : List Instance) : Type 0 where
  pub none : start ≡ []
  pub inputs : a ≡ start ++ input_instances project (length start) first project.joints.inputs
  pub outputs : b ≡ a ++ output_instances project (length a) next project.joints.outputs
  pub links : c ≡ b ++ link_instances project (length b) 0 project.joints.links
  pub kernels : d ≡ c ++ kernel_instances project (length c) 0 project.kernels

pub after_inputs : (project : Project) (first : ℕ) (start a : List Instance) → start ≡ []
    → a ≡ start ++ input_instances project (length start) first project.joints.inputs → length a ≡ length project.joints.inputs
after_inputs project first start a s e =
    ap (λ (l : List Instance). length l) (e ∙ ap (λ (l : List Instance). l ++ input_instances project (length l) first project.joints.inputs) s)
    ∙ length_inputs project 0 first project.joints.inputs

pub after_outputs : (project : Project) (next n : ℕ) (a b : List Instance) → length a ≡ n
    → b ≡ a ++ output_instances project (length a) next project.joints.outputs → length b ≡ n + length project.joints.outputs
after_outputs project next n a b s e =
    ap (λ (l : List Instance). length l) e ∙ length-append a (output_instances project (length a) next project.joints.outputs)
    ∙ ap (λ k. length a + k) (length_outputs project (length a) next project.joints.outputs) ∙ ap (λ k. k + length project.joints.outputs) s

pub after_links : (project : Project) (n : ℕ) (b c : List Instance) → length b ≡ n
    → c ≡ b ++ link_instances project (length b) 0 project.joints.links → length c ≡ n + length project.joints.links
after_links project n b c s e =
    ap (λ (l : List Instance). length l) e ∙ length-append b (link_instances project (length b) 0 project.joints.links)
    ∙ ap (λ k. length b + k) (length_links project (length b) 0 project.joints.links) ∙ ap (λ k. k + length project.joints.links) s

pub all_instances : (project : Project) (first next : ℕ) (start a b c d : List Instance) → AreMadeBy project first next start a b c d
    → first ≡ first_input (shape_of project) → next ≡ first_output (shape_of project) → d ≡ instances_of project
all_instances project first next start a b c d made f g =
    let ins = project.joints.inputs in
    let outs = project.joints.outputs in
    let one = input_instances project 0 (first_input (shape_of project)) ins in
    let two = output_instances project (length ins) (first_output (shape_of project)) outs in
    let three = link_instances project (host_count project) 0 project.joints.links in
    let four = kernel_instances project (fifo_count project) 0 project.kernels in
    let la = after_inputs project first start a made.none made.inputs in
    let lb = after_outputs project next (length ins) a b la made.outputs in
    let lc = after_links project (host_count project) b c lb made.links in
    let a' : a ≡ one = made.inputs ∙ ap (λ (l : List Instance). l ++ input_instances project (length l) first ins) made.none ∙ ap (λ k. input_instances project 0 k ins) f in
    let b' : b ≡ one ++ two = made.outputs ∙ ap (λ l. l ++ output_instances project (length a) next outs) a' ∙ ap (λ k. one ++ output_instances project k next outs) la
    ∙ ap (λ k. one ++ output_instances project (length ins) k outs) g in
    let c' : c ≡ (one ++ two) ++ three = made.links ∙ ap (λ l. l
    ++ link_instances project (length b) 0 project.joints.links) b' ∙ ap (λ k. (one ++ two)
    ++ link_instances project k 0 project.joints.links) lb in
    made.kernels ∙ ap (λ l. l ++ kernel_instances project (length c) 0 project.kernels) c' ∙ ap (λ k. ((one ++ two) ++ three) ++ kernel_instances project k 0 project.kernels) lc
    ∙ append_assoc (one ++ two) three four ∙ append_assoc one two (three ++ four)
