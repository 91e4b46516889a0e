-- The words of streams to the CPU have the widths of their types.
use Rattle.std.proofs.Common.{◌≡◌, ℕ, zero, suc, ◌<◌, ◌^◌, Bool, true, false, cond, List, [], ◌∷◌, ◌++◌, map, length, get_or, Option, Some, None, refl, sym, ap, ◌∙◌, subst, arith}
use Rattle.std.specs.Prelude.{pos, IfSome}
use Rattle.std.specs.List.{AllZip}
use Rattle.std.proofs.lemmas.List.Elements.{All-nil, All-push}
use Rattle.std.proofs.lemmas.Option.{same_Some}
use Rattle.fix_arith.specs.Types.{width_of}
use Rattle.manager_links.specs.declared.hosts.HostPort.{HostPort}
use Rattle.manager_links.specs.declared.project.Project.{Project}
use Rattle.stream_graph.specs.LookUps.{width_at}
use Rattle.project_streams.specs.Streams.{GivenProject, nodes_at, words_of}
use Rattle.project_words.specs.declared.words.ProjectWords.{ProjectWords}
use Rattle.project_words.specs.Words.{values_of, HaveWidths}
use Rattle.stream_equations.specs.Equations.{enabled}
use Rattle.stream_equations.specs.Words.{words_before}
use Rattle.stream_expect.specs.Widths.{HaveWidth, HaveHostWidths}
use Rattle.stream_expect.proofs.Ports.{output_there}

-- a word fits, where it is defined
abbrev Fits : ℕ → Option ℕ → Type 0
Fits width word = IfSome word (λ bits. bits < 2 ^ width)

fits : (width : ℕ) (word : Option ℕ) → ((x : ℕ) → word ≡ Some x → x < 2 ^ width) → Fits width word
fits width None below = tt
fits width (Some x) below = below x refl

fit_before : (width : ℕ) (test : ℕ → Bool) (word : ℕ → Option ℕ)
    → ((t x : ℕ) → word t ≡ Some x → x < 2 ^ width)
    → (t : ℕ) → HaveWidth width (words_before test word t)
fit_before width test word below zero = All-nil (Fits width)
fit_before width test word below (suc t) = by_test (test t) (fit_before width test word below t)
  where
    by_test : (b : Bool) → HaveWidth width (words_before test word t)
        → HaveWidth width (cond b (words_before test word t ++ word t ∷ []) (words_before test word t))
    by_test true rest =
        All-push (Fits width) (words_before test word t) (word t) rest (fits width (word t) (below t))
    by_test false rest = rest

zip_map : {A B : Type 0} (R : A → B → Type 0) (f : A → B) (xs : List A)
    → ((i : ℕ) (d : A) → i < length xs → R (get_or xs i d) (f (get_or xs i d)))
    → AllZip R xs (map f xs)
zip_map R f [] each = tt
zip_map R f (x ∷ xs) each =
    (each 0 x (omega arith), zip_map R f xs (λ i d lt. each (suc i) d (omega (arith, lt))))

pub host_widths : (project : Project) (given : GivenProject) (words : ProjectWords)
    → HaveWidths project.kernels words
    → HaveHostWidths project.joints.outputs
    (map (λ (host : HostPort). words_of project.kernels given (values_of words) host.port) project.joints.outputs)
host_widths project given words have =
    zip_map (λ (host : HostPort) list. HaveWidth (width_of host.t) list)
    (λ (host : HostPort). words_of project.kernels given (values_of words) host.port) project.joints.outputs
    (λ i d lt.
    let host = get_or project.joints.outputs i d in
    let nodes = nodes_at project.kernels host.port.kernel in
    let there = output_there project i d lt in
    let typed = project.whole.outputs.typed i d lt in
    let width : width_at nodes host.port.node ≡ width_of host.t =
    ap width_of (same_Some _ _ (sym there.typed ∙ typed)) in
    subst (λ w. HaveWidth w (words_of project.kernels given (values_of words) host.port)) width
    (fit_before (width_at nodes host.port.node)
    (enabled nodes (values_of words host.port.kernel) host.port.node)
    (λ t. values_of words host.port.kernel host.port.node (pos t))
    (λ t x e. have host.port.kernel there.kernel host.port.node (pos t) x there.node e)
    (given.ticks host.port.kernel)))
