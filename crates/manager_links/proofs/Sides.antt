-- The ports on one side of a manager's joins, of which each stands in one join.
use Rattle.std.proofs.Common.{◌≡◌, ℕ, zero, suc, Bool, true, false, ◌&&◌, ◌||◌, cond, List, []}
use Rattle.std.proofs.Common.{◌∷◌, ◌++◌, map, get_or, refl, sym, ap, ◌∙◌, subst, arith, ⊎_elim}
use Rattle.std.specs.Prelude.{◌==◌, All, Option, Some, None, slice_get, filter, IsSomeAnd}
use Rattle.std.specs.List.{AllZip, Any, Contains}
use Rattle.std.specs.Option.{option_map}
use Rattle.std.proofs.lemmas.Bool.Decides.{eqb_tells}
use Rattle.std.proofs.lemmas.List.Elements.{Contains-append_left, Contains-append_right, Contains-append_cases, Contains-get_or}
use Rattle.std.proofs.lemmas.Option.{same_Some, slice_get-map}
use Rattle.kernel_meaning.specs.declared.plan.End.{End}
use Rattle.kernel_meaning.specs.declared.plan.End.TheVariants as E
use Rattle.kernel_meaning.specs.declared.plan.Join.{Join}
use Rattle.stream_graph.specs.declared.kernel.Kernel.{Kernel}
use Rattle.stream_graph.specs.declared.node.Kind.{Kind}
use Rattle.stream_graph.specs.declared.node.Node.{Node}
use Rattle.manager_links.specs.declared.hosts.HostPort.{HostPort}
use Rattle.manager_links.specs.declared.links.LinkEnds.{LinkEnds}
use Rattle.manager_links.specs.declared.links.PortAt.{PortAt}
use Rattle.manager_links.specs.Joined.{is_of_kernel, is_link}
use Rattle.manager_links.specs.Lists.{AllDiffer}
use Rattle.manager_links.specs.Ports.{IsNamed, IsPort, IsPortAt, is_among, is_same_port, node_of}
use Rattle.manager_links.specs.Projects.{AreAll}
use Rattle.manager_links.proofs.JoinEnds.{in_map}
use Rattle.manager_links.proofs.OnlyPort.{node_by}
use Rattle.manager_links.proofs.Pieces.{place_in, stands_in, zip_get, zip_back, one_place, kept_in, kept_from, kept_passes, in_image}
use Rattle.manager_links.proofs.Pieces.{differ_none, differ_cons, differ_tail, differ_head, differ_append, differ_map}

-- ---- lists

-- an item is the only one of its image
same_item : {A B : Type 0} (f : A → B) (xs : List A) (x y : A) → AllDiffer (map f xs)
    → Contains xs x → Contains xs y → f x ≡ f y → x ≡ y
same_item f xs x y differ one other e =
    let a = place_in xs x one in
    let b = place_in xs y other in
    let same = one_place (map f xs) a.0 b.0 (f x) differ
    (slice_get-map f xs a.0 ∙ ap (option_map f) a.1)
    (slice_get-map f xs b.0 ∙ ap (option_map f) b.1 ∙ ap Some (sym e)) in
    same_Some x y (sym a.1 ∙ ap (slice_get xs) same ∙ b.1)

differ_filter : {A B : Type 0} (f : A → B) (p : A → Bool) (xs : List A) → AllDiffer (map f xs)
    → AllDiffer (map f (filter p xs))
differ_filter f p [] differ = differ_none
differ_filter f p (x ∷ xs) differ =
    by_test (p x) (differ_filter f p xs (differ_tail (f x) (map f xs) differ))
  where
    by_test : (t : Bool) → AllDiffer (map f (filter p xs))
        → AllDiffer (map f (cond t (x ∷ filter p xs) (filter p xs)))
    by_test true rest =
        differ_cons (f x) (map f (filter p xs))
        (λ there. let other = in_image f (filter p xs) (f x) there in
        differ_head (f x) (map f xs) differ
        (subst (Contains (map f xs)) other.2 (in_map f xs other.0 (kept_from p xs other.0 other.1))))
        rest
    by_test false rest = rest

-- what belongs to an item of one of two lists
pub zip_from : {A B : Type 0} (R : A → B → Type 0) (xs : List A) (ys : List B) (y : B)
    → AllZip R xs ys → Contains ys y → (x : A) × Contains xs x × R x y
zip_from R xs ys y all there =
    let a = place_in ys y there in
    let b = zip_back R xs ys a.0 y all a.1 in
    (b.0, stands_in xs a.0 b.0 b.1, b.2)

pub zip_to : {A B : Type 0} (R : A → B → Type 0) (xs : List A) (ys : List B) (x : A)
    → AllZip R xs ys → Contains xs x → (y : B) × Contains ys y × R x y
zip_to R xs ys x all there =
    let a = place_in xs x there in
    let b = zip_get R xs ys a.0 x all a.1 in
    (b.0, stands_in ys a.0 b.0 b.1, b.2)

-- what belongs to items that differ differs
zip_differ : {A B C D : Type 0} (R : A → B → Type 0) (f : A → C) (g : B → D) (xs : List A) (ys : List B)
    → AllZip R xs ys → AllDiffer (map f xs)
    → ((x y : A) (a b : B) → R x a → R y b → g a ≡ g b → f x ≡ f y) → AllDiffer (map g ys)
zip_differ R f g [] [] all differ tells = differ_none
zip_differ R f g [] (b ∷ ys) all differ tells = absurd all
zip_differ R f g (x ∷ xs) [] all differ tells = absurd all
zip_differ R f g (x ∷ xs) (b ∷ ys) all differ tells =
    differ_cons (g b) (map g ys)
    (λ there.
    let a = in_image g ys (g b) there in
    let y = zip_from R xs ys a.0 all.1 a.1 in
    differ_head (f x) (map f xs) differ
    (subst (Contains (map f xs)) (tells y.0 x a.0 b y.2 all.0 a.2) (in_map f xs y.0 y.1)))
    (zip_differ R f g xs ys all.1 (differ_tail (f x) (map f xs) differ) tells)

pub any_of : {A : Type 0} (P : A → Type 0) (xs : List A) (x : A) → Contains xs x → P x → Any P xs
any_of P xs x there holds = (there.0, x, there.1, there.2, holds)

pub of_any : {A : Type 0} (P : A → Type 0) (xs : List A) → Any P xs → (x : A) × Contains xs x × P x
of_any P xs (k, x, lt, is, holds) = (x, (k, lt, is), holds)

pub all_by : {A : Type 0} (P : A → Type 0) (xs : List A) → ((x : A) → Contains xs x → P x) → All P xs
all_by P xs each = λ k d lt. each (get_or xs k d) (Contains-get_or xs k d lt)

-- ---- ports

same_number : (a : ℕ) → (a == a) ≡ true
same_number a = ⊎_elim (λ p. p.0) (λ p. absurd (p.1 refl)) (eqb_tells a a)

pub among : (port : PortAt) (ports : List PortAt) → Contains ports port → is_among port ports ≡ true
among port [] (k, lt, is) = absurd (omega arith)
among port (p ∷ ports) (zero, lt, is) =
    subst (λ q. is_same_port port q || is_among port ports ≡ true) (sym is)
    (ap (λ t. (t && (port.node == port.node)) || is_among port ports) (same_number port.kernel)
    ∙ ap (λ t. t || is_among port ports) (same_number port.node))
among port (p ∷ ports) (suc k, lt, is) =
    or_true (is_same_port port p) (is_among port ports) (among port ports (k, omega arith, is))
  where
    or_true : (a b : Bool) → b ≡ true → a || b ≡ true
    or_true true b e = refl
    or_true false b e = e

pub is_port_at : (kernels : List Kernel) (is_kind : Kind → Bool) (end : End) (port : PortAt)
    → IsPortAt kernels is_kind end port → IsPort kernels is_kind port
is_port_at kernels is_kind (E.Kernel number name) port is = by_node (node_of kernels port) is.node
  where
    by_node : (o : Option Node) → IsSomeAnd o (IsNamed is_kind name)
        → IsSomeAnd o (λ (node : Node). is_kind node.view.kind ≡ true)
    by_node None is = absurd is
    by_node (Some node) is = is.0
is_port_at kernels is_kind (E.Cpu name) port is = absurd is

-- a port is that of one end
same_end : (kernels : List Kernel) (is_kind : Kind → Bool) (one other : End) (port : PortAt)
    → IsPortAt kernels is_kind one port → IsPortAt kernels is_kind other port → one ≡ other
same_end kernels is_kind (E.Cpu x) other port a b = absurd a
same_end kernels is_kind (E.Kernel k x) (E.Cpu y) port a b = absurd b
same_end kernels is_kind (E.Kernel k x) (E.Kernel l y) port a b =
    let m = node_by kernels is_kind x port a.node in
    let n = node_by kernels is_kind y port b.node in
    let kernel = same_Some m.kernel n.kernel (sym m.of ∙ n.of) in
    let node = same_Some m.node n.node
    (sym m.at ∙ ap (λ (kernel : Kernel). slice_get kernel.nodes port.node) kernel ∙ n.at) in
    ap (λ number. E.Kernel number x) (sym a.kernel ∙ b.kernel)
    ∙ ap (E.Kernel l) (sym m.named ∙ ap (λ (node : Node). node.name) node ∙ n.named)

-- ---- a side

-- the ports of a kind stand at this end of joins, each in one, and the streams of these names at the
-- other ends
pub record IsSide (kernels : List Kernel) (is_kind : Kind → Bool) (mine other : Join → End)
    (joins : List Join) (names : List (List ℕ)) : Type 0
  where
    pub only : (end : End) (one two : PortAt) → IsPortAt kernels is_kind end one
        → IsPortAt kernels is_kind end two → one ≡ two
    pub link : (join : Join) → is_link join ≡ (is_of_kernel (mine join) && is_of_kernel (other join))
    pub mine_once : AllDiffer (map mine joins)
    pub other_once : AllDiffer (map other joins)
    pub names_once : AllDiffer names
    pub full : (port : PortAt) → IsPort kernels is_kind port
        → Any (λ join. IsPortAt kernels is_kind (mine join) port) joins
    pub known : (join : Join) (name : List ℕ) → Contains joins join → other join ≡ E.Cpu name
        → Contains names name

-- a stream is joined to a port
abbrev pub IsHostAt : List Kernel → (Kind → Bool) → (Join → End) → (Join → End) → List Join → List ℕ
    → HostPort → Type 0
IsHostAt kernels is_kind mine other joins name host =
    Any (λ join. (other join ≡ E.Cpu name) × IsPortAt kernels is_kind (mine join) host.port) joins

-- the ports of links and those of streams are all ports of the kind
pub all_ports : (kernels : List Kernel) (is_kind : Kind → Bool) (mine other : Join → End)
    (joins : List Join) (names : List (List ℕ)) (links : List LinkEnds) (hosts : List HostPort)
    (at : LinkEnds → PortAt) → IsSide kernels is_kind mine other joins names
    → AllZip (λ join link. IsPortAt kernels is_kind (mine join) (at link)) (filter is_link joins) links
    → AllZip (IsHostAt kernels is_kind mine other joins) names hosts
    → AreAll kernels is_kind (map at links ++ map (λ (host : HostPort). host.port) hosts)
all_ports kernels is_kind mine other joins names links hosts at side linked hosted = record {
  each = all_by (IsPort kernels is_kind) ports (λ port there.
      ⊎_elim
      (λ here. let own = of_link port here in is_port_at kernels is_kind (mine own.0) port own.3)
      (λ here. let own = of_host port here in is_port_at kernels is_kind (mine own.1) port own.4)
      (Contains-append_cases links' hosts' port there));
  all = λ port is. among port ports (
      let own = of_any (λ join. IsPortAt kernels is_kind (mine join) port) joins (side.full port is) in
      found port own.0 own.1 own.2 (other own.0) refl);
  once = differ_append links' hosts'
      (zip_differ Linked mine at kept links linked (differ_filter mine is_link joins side.mine_once)
      (λ one two a b first second same. same_end kernels is_kind (mine one) (mine two) (at b)
      (subst (IsPortAt kernels is_kind (mine one)) same first) second))
      (zip_differ Hosted (λ name. name) own_port names hosts hosted
      (differ_map (λ name. name) names (λ one two e. e) side.names_once)
      (λ one two a b first second same. same_name one two a b first second same))
      (λ port from to. apart port (of_link port from) (of_host port to));
}
  where
    kept : List Join
    kept = filter is_link joins

    own_port : HostPort → PortAt
    own_port host = host.port

    links' : List PortAt
    links' = map at links

    hosts' : List PortAt
    hosts' = map own_port hosts

    ports : List PortAt
    ports = links' ++ hosts'

    Linked : Join → LinkEnds → Type 0
    Linked join link = IsPortAt kernels is_kind (mine join) (at link)

    Hosted : List ℕ → HostPort → Type 0
    Hosted = IsHostAt kernels is_kind mine other joins

    of_link : (port : PortAt) → Contains links' port
        → (join : Join) × Contains joins join × (is_link join ≡ true) × IsPortAt kernels is_kind (mine join) port
    of_link port there =
        let link = in_image at links port there in
        let join = zip_from Linked kept links link.0 linked link.1 in (
          join.0,
          kept_from is_link joins join.0 join.1,
          kept_passes is_link joins join.0 join.1,
          subst (IsPortAt kernels is_kind (mine join.0)) link.2 join.2,
        )

    of_host : (port : PortAt) → Contains hosts' port
        → (name : List ℕ) × (join : Join) × Contains joins join × (other join ≡ E.Cpu name)
        × IsPortAt kernels is_kind (mine join) port
    of_host port there =
        let host = in_image own_port hosts port there in
        let name = zip_from Hosted names hosts host.0 hosted host.1 in
        let join = of_any (λ join. (other join ≡ E.Cpu name.0) × IsPortAt kernels is_kind (mine join) host.0.port) joins name.2 in
        (name.0, join.0, join.1, join.2.0, subst (IsPortAt kernels is_kind (mine join.0)) host.2 join.2.1)

    same_name : (one two : List ℕ) (a b : HostPort) → Hosted one a → Hosted two b → own_port a ≡ own_port b
        → one ≡ two
    same_name one two a b first second same =
        let x = of_any (λ join. (other join ≡ E.Cpu one) × IsPortAt kernels is_kind (mine join) a.port) joins first in
        let y = of_any (λ join. (other join ≡ E.Cpu two) × IsPortAt kernels is_kind (mine join) b.port) joins second in
        let join = same_item mine joins x.0 y.0 side.mine_once x.1 y.1
        (same_end kernels is_kind (mine x.0) (mine y.0) b.port
        (subst (IsPortAt kernels is_kind (mine x.0)) same x.2.1) y.2.1) in
        let e : E.Cpu one ≡ E.Cpu two = sym x.2.0 ∙ ap other join ∙ y.2.0 in cc

    apart : (port : PortAt)
        → (join : Join) × Contains joins join × (is_link join ≡ true) × IsPortAt kernels is_kind (mine join) port
        → (name : List ℕ) × (join : Join) × Contains joins join × (other join ≡ E.Cpu name)
        × IsPortAt kernels is_kind (mine join) port
        → ⊥
    apart port a b =
        let join = same_item mine joins a.0 b.1 side.mine_once a.1 b.2
        (same_end kernels is_kind (mine a.0) (mine b.1) port a.3 b.4) in
        no_link (is_of_kernel (mine a.0)) (other a.0) (ap other join ∙ b.3) (sym (side.link a.0) ∙ a.2)
      where
        no_link : (t : Bool) (end : End) → end ≡ E.Cpu b.0 → t && is_of_kernel end ≡ true → ⊥
        no_link true (E.Kernel k x) e f = cc
        no_link true (E.Cpu x) e f = cc
        no_link false end e f = cc

    found : (port : PortAt) (join : Join) → Contains joins join → IsPortAt kernels is_kind (mine join) port
        → (end : End) → other join ≡ end → Contains ports port
    found port join there is (E.Cpu name) e =
        let host = zip_to Hosted names hosts name hosted (side.known join name there e) in
        let own = of_any (λ j. (other j ≡ E.Cpu name) × IsPortAt kernels is_kind (mine j) host.0.port) joins host.2 in
        let same = same_item other joins own.0 join side.other_once own.1 there (own.2.0 ∙ sym e) in
        let here = side.only (mine join) host.0.port port
        (subst (λ j. IsPortAt kernels is_kind (mine j) host.0.port) same own.2.1) is in
        Contains-append_right links' hosts' port
        (subst (Contains hosts') here (in_map own_port hosts host.0 host.1))
    found port join there is (E.Kernel k x) e =
        let link : is_link join ≡ true =
        side.link join ∙ ap (λ t. t && is_of_kernel (other join)) (of_port (mine join) port is) ∙ ap is_of_kernel e in
        let own = zip_to Linked kept links join linked (kept_in is_link joins join there link) in
        Contains-append_left links' hosts' port
        (subst (Contains links') (side.only (mine join) (at own.0) port own.2 is) (in_map at links own.0 own.1))
      where
        of_port : (end : End) (port : PortAt) → IsPortAt kernels is_kind end port → is_of_kernel end ≡ true
        of_port (E.Kernel number name) port is = refl
        of_port (E.Cpu name) port is = absurd is
