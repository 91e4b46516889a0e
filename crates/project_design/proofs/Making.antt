-- The FIFOs and the modules that are made.
use Rattle.std.proofs.Common.{◌≡◌, ℕ, zero, suc, ◌+◌, ◌<◌, ◌≤◌, ◌^◌, true}
use Rattle.std.proofs.Common.{List, [], ◌∷◌, ◌++◌, map, take, get_or, length, refl, sym, ap}
use Rattle.std.proofs.Common.{◌∙◌, subst, arith, append-nil, append_assoc, length-append}
use Rattle.std.specs.Fmt.{decimal}
use Rattle.std.proofs.lemmas.List.{map_more}
use Rattle.std.proofs.lemmas.Option.{get_or_from_slice_get, slice_get-get_or}
use Rattle.rtl_ir.specs.declared.design.Module.{Module}
use Rattle.rtl_ir.specs.Names.{is_name}
use Rattle.link_fifo.specs.Fifo.{IsFifoModule}
use Rattle.rtl_delays.proofs.Spelled.{digits_are, digits_continue}
use Rattle.stream_graph.specs.declared.kernel.Kernel.{Kernel}
use Rattle.manager_links.specs.declared.hosts.HostPort.{HostPort}
use Rattle.manager_links.specs.declared.links.Link.{Link}
use Rattle.manager_links.specs.declared.links.Links.{Links}
use Rattle.manager_links.specs.declared.project.Project.{Project}
use Rattle.project_rtl.specs.Projects.{Queue, fifo_name, AreFifos, host_queue, link_queue, queues_of}
use Rattle.project_design.specs.Building.{AddsFifos}

-- ---- the names of FIFOs

pub fifo_named : (n : ℕ) → n < 2 ^ 64 → is_name (fifo_name n) ≡ true
fifo_named n h = rw (digits_continue (decimal n) (digits_are n h)) refl

-- ---- the FIFOs

pub length_fifos : (number : ℕ) (queues : List Queue) (ms : List Module) → AreFifos number queues ms → length ms ≡ length queues
length_fifos number [] [] h = refl
length_fifos number [] (m ∷ ms) h = absurd h
length_fifos number (queue ∷ queues) [] h = absurd h
length_fifos number (queue ∷ queues) (m ∷ ms) h = ap suc (length_fifos (number + 1) queues ms h.1)

pub fifos_append : (number : ℕ) (queues more : List Queue) (a b : List Module) → AreFifos number queues a → AreFifos (number + length queues) more b → AreFifos number (queues ++ more) (a ++ b)
fifos_append number [] more [] b h k = let e : number + 0 ≡ number = omega arith in subst (λ n. AreFifos n more b) e k
fifos_append number [] more (m ∷ a) b h k = absurd h
fifos_append number (queue ∷ queues) more [] b h k = absurd h
fifos_append number (queue ∷ queues) more (m ∷ a) b h k =
    let e : number + suc (length queues) ≡ number + 1 + length queues = omega arith in
    (h.0, fifos_append (number + 1) queues more a b h.1 (subst (λ n. AreFifos n more b) e k))

pub no_fifos : (number : ℕ) (old : List Module) → AddsFifos number [] old old
no_fifos number old = record { fifos = []; are_fifos = tt; is = sym (append-nil old) }

-- a FIFO behind the modules that there are
pub one_fifo : (count width depth : ℕ) (name : List ℕ) (m : Module) (old new : List Module) → count ≡ length old → name ≡ fifo_name count
    → IsFifoModule name width depth m → new ≡ old ++ m ∷ [] → AddsFifos (length old) (record { width = width; depth = depth } ∷ []) old new
one_fifo count width depth name m old new at named is e = record {
  fifos = m ∷ [];
  are_fifos = (subst (λ n. IsFifoModule n width depth m) (named ∙ ap fifo_name at) is, tt);
  is = e;
}

abbrev pub queue : ℕ → ℕ → Queue
queue width depth = record { width = width; depth = depth }

-- FIFOs behind FIFOs
pub fifos_after : (number : ℕ) (queues more : List Queue) (old mid new : List Module) → number ≡ length old
    → AddsFifos number queues old mid → AddsFifos (length mid) more mid new → AddsFifos number (queues ++ more) old new
fifos_after number queues more old mid new at a b =
    let l = length_fifos number queues a.fifos a.are_fifos in
    let k : length mid ≡ length old + length a.fifos = ap (λ (x : List Module). length x) a.is ∙ length-append old a.fifos in
    let q : length mid ≡ number + length queues = omega arith in
    record {
      fifos = a.fifos ++ b.fifos;
      are_fifos = fifos_append number queues more a.fifos b.fifos a.are_fifos (subst (λ n. AreFifos n more b.fifos) q b.are_fifos);
      is = b.is ∙ ap (λ l. l ++ b.fifos) a.is ∙ append_assoc old a.fifos b.fifos;
    }

-- one more FIFO, of one item more
pub one_fifo_more : {A : Type 0} (f : A → Queue) (xs : List A) (i : ℕ) (x : A) (number : ℕ) (queue : Queue) (old mid new : List Module)
    → i < length xs → x ≡ get_or xs i x → queue ≡ f x → number ≡ length old
    → AddsFifos number (map f (take i xs)) old mid → AddsFifos (length mid) (queue ∷ []) mid new
    → AddsFifos number (map f (take (i + 1) xs)) old new
one_fifo_more f xs i x number queue old mid new lt at is len a b =
    let all = fifos_after number (map f (take i xs)) (queue ∷ []) old mid new len a b in
    let item : queue ≡ f (get_or xs i x) = is ∙ ap f at in
    subst (λ qs. AddsFifos number qs old new)
    (ap (λ q. map f (take i xs) ++ q ∷ []) item ∙ sym (map_more f xs i x lt)) all

-- an item is read whatever stands for one that is missing
pub same_item : {A : Type 0} (xs : List A) (i : ℕ) (d : A) → i < length xs → get_or xs i d ≡ get_or xs i (get_or xs i d)
same_item xs i d lt = sym (get_or_from_slice_get xs i (get_or xs i d) (get_or xs i d) (slice_get-get_or xs i d lt))

-- all of them
pub all_fifos : (one two three : List Queue) (start a b end : List Module) → start ≡ []
    → AddsFifos (length start) one start a → AddsFifos (length a) two a b → AddsFifos (length b) three b end
    → AreFifos 0 (one ++ (two ++ three)) end
all_fifos one two three start a b end s x y z =
    let rest = fifos_after (length a) two three a b end refl y z in
    let all = fifos_after (length start) one (two ++ three) start a end refl x rest in
    let len : length start ≡ 0 = ap (λ (l : List Module). length l) s in
    let e : end ≡ all.fifos = all.is ∙ ap (λ l. l ++ all.fifos) s in
    subst (λ ms. AreFifos 0 (one ++ (two ++ three)) ms) (sym e)
    (subst (λ n. AreFifos n (one ++ (two ++ three)) all.fifos) len all.are_fifos)

-- those of the project
pub queues_are : (project : Project) (made : Links) (kernels : List Kernel) (ins outs : List HostPort) (links : List Link) (ms : List Module)
    → kernels ≡ project.kernels → ins ≡ project.joints.inputs → outs ≡ project.joints.outputs → links ≡ made.links
    → AreFifos 0 (map host_queue ins ++ (map host_queue outs ++ map (link_queue kernels) links)) ms → AreFifos 0 (queues_of project made) ms
queues_are project made kernels ins outs links ms k i o l all =
    let same : map host_queue ins ++ (map host_queue outs ++ map (link_queue kernels) links) ≡ queues_of project made =
    ap (λ xs. map host_queue xs ++ (map host_queue outs ++ map (link_queue kernels) links)) i
    ∙ ap (λ xs. map host_queue project.joints.inputs ++ (map host_queue xs ++ map (link_queue kernels) links)) o
    ∙ ap (λ ks. map host_queue project.joints.inputs ++ (map host_queue project.joints.outputs ++ map (link_queue ks) links)) k
    ∙ ap (λ xs. map host_queue project.joints.inputs ++ (map host_queue project.joints.outputs ++ map (link_queue project.kernels) xs)) l in
    subst (λ qs. AreFifos 0 qs ms) same all

pub take_whole : {A : Type 0} (xs : List A) (k : ℕ) → length xs ≤ k → take k xs ≡ xs
take_whole [] zero h = refl
take_whole [] (suc k) h = refl
take_whole (x ∷ xs) zero h = absurd (omega arith)
take_whole (x ∷ xs) (suc k) h = ap (λ ys. x ∷ ys) (take_whole xs k (omega arith))

-- the modules in order
pub in_order : (fifos inners two three : List Module) (top made : Module) → two ≡ fifos ++ inners → three ≡ two ++ top ∷ [] → top ≡ made
    → three ≡ fifos ++ (inners ++ made ∷ [])
in_order fifos inners two three top made e f g =
    f ∙ ap (λ l. l ++ top ∷ []) e ∙ append_assoc fifos inners (top ∷ []) ∙ ap (λ t. fifos ++ (inners ++ t ∷ [])) g
