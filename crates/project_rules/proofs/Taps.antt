-- Which FIFO feeds an input, and which one takes the words of an output.
use Rattle.std.proofs.Common.{◌≡◌, ◌∙◌, ℕ, zero, suc, ◌+◌, Bool, true, false, cond, ◌&&◌, ◌||◌, List, [], ◌∷◌, map, length, Some, refl, sym, ap, arith}
use Rattle.std.specs.Prelude.{slice_get, ◌==◌}
use Rattle.std.proofs.lemmas.Bool.{false≢true}
use Rattle.std.proofs.lemmas.Bool.Decides.{nat_tests}
use Rattle.std.proofs.lemmas.Option.{get_or_from_slice_get}
use Rattle.manager_links.specs.declared.hosts.HostPort.{HostPort}
use Rattle.manager_links.specs.declared.links.LinkEnds.{LinkEnds}
use Rattle.manager_links.specs.declared.links.PortAt.{PortAt}
use Rattle.manager_links.specs.Lists.{AllDiffer}
use Rattle.manager_links.specs.Ports.{is_same_port, is_among}
use Rattle.project_rules.proofs.Lists.{within, map_at}

-- a FIFO by its number, and the port that it feeds or drains
pub record Tap : Type 0 where
  pub number : ℕ
  pub port : PortAt

-- those of links and of streams of the host, numbered from this number on
abbrev pub taps_to : ℕ → List LinkEnds → List Tap
taps_to number [] = []
taps_to number (link ∷ links) = record { number = number; port = link.to } ∷ taps_to (number + 1) links

abbrev pub taps_from : ℕ → List LinkEnds → List Tap
taps_from number [] = []
taps_from number (link ∷ links) = record { number = number; port = link.from } ∷ taps_from (number + 1) links

abbrev pub taps_of : ℕ → List HostPort → List Tap
taps_of number [] = []
taps_of number (host ∷ hosts) = record { number = number; port = host.port } ∷ taps_of (number + 1) hosts

abbrev pub port_of : Tap → PortAt
port_of tap = tap.port

-- the number of the first one of a port
abbrev pub find : PortAt → List Tap → ℕ
find port [] = 0
find port (tap ∷ taps) = cond (is_same_port tap.port port) tap.number (find port taps)

-- ---- their ports

pub ports_to : (number : ℕ) (links : List LinkEnds) → map port_of (taps_to number links) ≡ map (λ (link : LinkEnds). link.to) links
ports_to number [] = refl
ports_to number (link ∷ links) = ap (λ l. link.to ∷ l) (ports_to (number + 1) links)

pub ports_from : (number : ℕ) (links : List LinkEnds) → map port_of (taps_from number links) ≡ map (λ (link : LinkEnds). link.from) links
ports_from number [] = refl
ports_from number (link ∷ links) = ap (λ l. link.from ∷ l) (ports_from (number + 1) links)

pub ports_of_hosts : (number : ℕ) (hosts : List HostPort) → map port_of (taps_of number hosts) ≡ map (λ (host : HostPort). host.port) hosts
ports_of_hosts number [] = refl
ports_of_hosts number (host ∷ hosts) = ap (λ l. host.port ∷ l) (ports_of_hosts (number + 1) hosts)

-- ---- one of them by its place

pub record IsTapTo (links : List LinkEnds) (number i : ℕ) (tap : Tap) : Type 0 where
  pub link : LinkEnds
  pub is : slice_get links i ≡ Some link
  pub numbered : tap.number ≡ number + i
  pub port : tap.port ≡ link.to

pub tap_to : (number : ℕ) (links : List LinkEnds) (i : ℕ) (tap : Tap) → slice_get (taps_to number links) i ≡ Some tap → IsTapTo links number i tap
tap_to number [] i tap e = absurd (cc)
tap_to number (link ∷ links) zero tap e =
    let first : Tap = record { number = number; port = link.to } in
    let same : first ≡ tap = cc in
    let n : number ≡ number + 0 = omega arith in
    record { link = link; is = refl; numbered = ap (λ (t : Tap). t.number) (sym same) ∙ n; port = ap (λ (t : Tap). t.port) (sym same) }
tap_to number (link ∷ links) (suc i) tap e =
    let r = tap_to (number + 1) links i tap e in
    let n : number + 1 + i ≡ number + suc i = omega arith in
    record { link = r.link; is = r.is; numbered = r.numbered ∙ n; port = r.port }

pub record IsTapFrom (links : List LinkEnds) (number i : ℕ) (tap : Tap) : Type 0 where
  pub link : LinkEnds
  pub is : slice_get links i ≡ Some link
  pub numbered : tap.number ≡ number + i
  pub port : tap.port ≡ link.from

pub tap_from : (number : ℕ) (links : List LinkEnds) (i : ℕ) (tap : Tap) → slice_get (taps_from number links) i ≡ Some tap → IsTapFrom links number i tap
tap_from number [] i tap e = absurd (cc)
tap_from number (link ∷ links) zero tap e =
    let first : Tap = record { number = number; port = link.from } in
    let same : first ≡ tap = cc in
    let n : number ≡ number + 0 = omega arith in
    record { link = link; is = refl; numbered = ap (λ (t : Tap). t.number) (sym same) ∙ n; port = ap (λ (t : Tap). t.port) (sym same) }
tap_from number (link ∷ links) (suc i) tap e =
    let r = tap_from (number + 1) links i tap e in
    let n : number + 1 + i ≡ number + suc i = omega arith in
    record { link = r.link; is = r.is; numbered = r.numbered ∙ n; port = r.port }

pub record IsTapOf (hosts : List HostPort) (number i : ℕ) (tap : Tap) : Type 0 where
  pub host : HostPort
  pub is : slice_get hosts i ≡ Some host
  pub numbered : tap.number ≡ number + i
  pub port : tap.port ≡ host.port

pub tap_of : (number : ℕ) (hosts : List HostPort) (i : ℕ) (tap : Tap) → slice_get (taps_of number hosts) i ≡ Some tap → IsTapOf hosts number i tap
tap_of number [] i tap e = absurd (cc)
tap_of number (host ∷ hosts) zero tap e =
    let first : Tap = record { number = number; port = host.port } in
    let same : first ≡ tap = cc in
    let n : number ≡ number + 0 = omega arith in
    record { host = host; is = refl; numbered = ap (λ (t : Tap). t.number) (sym same) ∙ n; port = ap (λ (t : Tap). t.port) (sym same) }
tap_of number (host ∷ hosts) (suc i) tap e =
    let r = tap_of (number + 1) hosts i tap e in
    let n : number + 1 + i ≡ number + suc i = omega arith in
    record { host = r.host; is = r.is; numbered = r.numbered ∙ n; port = r.port }

-- and the other way

pub link_to : (number : ℕ) (links : List LinkEnds) (i : ℕ) (link : LinkEnds) → slice_get links i ≡ Some link
    → slice_get (taps_to number links) i ≡ Some (record { number = number + i; port = link.to })
link_to number [] i link e = absurd (cc)
link_to number (x ∷ links) zero link e =
    let same : x ≡ link = cc in
    let n : number ≡ number + 0 = omega arith in
    ap (λ (l : LinkEnds). Some (record { number = number; port = l.to })) same ∙ ap (λ k. Some (record { number = k; port = link.to })) n
link_to number (x ∷ links) (suc i) link e =
    let n : number + 1 + i ≡ number + suc i = omega arith in
    link_to (number + 1) links i link e ∙ ap (λ k. Some (record { number = k; port = link.to })) n

pub link_from : (number : ℕ) (links : List LinkEnds) (i : ℕ) (link : LinkEnds) → slice_get links i ≡ Some link
    → slice_get (taps_from number links) i ≡ Some (record { number = number + i; port = link.from })
link_from number [] i link e = absurd (cc)
link_from number (x ∷ links) zero link e =
    let same : x ≡ link = cc in
    let n : number ≡ number + 0 = omega arith in
    ap (λ (l : LinkEnds). Some (record { number = number; port = l.from })) same ∙ ap (λ k. Some (record { number = k; port = link.from })) n
link_from number (x ∷ links) (suc i) link e =
    let n : number + 1 + i ≡ number + suc i = omega arith in
    link_from (number + 1) links i link e ∙ ap (λ k. Some (record { number = k; port = link.from })) n

pub host_at : (number : ℕ) (hosts : List HostPort) (i : ℕ) (host : HostPort) → slice_get hosts i ≡ Some host
    → slice_get (taps_of number hosts) i ≡ Some (record { number = number + i; port = host.port })
host_at number [] i host e = absurd (cc)
host_at number (x ∷ hosts) zero host e =
    let same : x ≡ host = cc in
    let n : number ≡ number + 0 = omega arith in
    ap (λ (l : HostPort). Some (record { number = number; port = l.port })) same ∙ ap (λ k. Some (record { number = k; port = host.port })) n
host_at number (x ∷ hosts) (suc i) host e =
    let n : number + 1 + i ≡ number + suc i = omega arith in
    host_at (number + 1) hosts i host e ∙ ap (λ k. Some (record { number = k; port = host.port })) n

pub length_to : (number : ℕ) (links : List LinkEnds) → length (taps_to number links) ≡ length links
length_to number [] = refl
length_to number (x ∷ links) = ap suc (length_to (number + 1) links)

pub length_from : (number : ℕ) (links : List LinkEnds) → length (taps_from number links) ≡ length links
length_from number [] = refl
length_from number (x ∷ links) = ap suc (length_from (number + 1) links)

-- ---- the first one of a port

both_true : (a b : Bool) → (a && b) ≡ true → (a ≡ true) × (b ≡ true)
both_true true b h = (refl, h)
both_true false b h = absurd (false≢true h)

pub same_port : (a b : PortAt) → is_same_port a b ≡ true → a ≡ b
same_port a b h =
    let parts = both_true (a.kernel == b.kernel) (a.node == b.node) h in
    let k : a.kernel ≡ b.kernel = grind (arith, nat_tests, parts.0) in
    let n : a.node ≡ b.node = grind (arith, nat_tests, parts.1) in
    λ i. record { kernel = k i; node = n i }

pub self_port : (a : PortAt) → is_same_port a a ≡ true
self_port a =
    let k : (a.kernel == a.kernel) ≡ true = grind (arith, nat_tests) in
    let n : (a.node == a.node) ≡ true = grind (arith, nat_tests) in
    ap (λ b. b && (a.node == a.node)) k ∙ n

pub find_own : (taps : List Tap) → AllDiffer (map port_of taps) → (k : ℕ) (tap : Tap) → slice_get taps k ≡ Some tap
    → find tap.port taps ≡ tap.number
find_own [] differ k tap e = absurd (cc)
find_own (x ∷ taps) differ zero tap e =
    let same : x ≡ tap = cc in
    let yes : is_same_port x.port tap.port ≡ true = ap (λ (t : Tap). is_same_port x.port t.port) (sym same) ∙ self_port x.port in
    ap (λ b. cond b x.number (find tap.port taps)) yes ∙ ap (λ (t : Tap). t.number) same
find_own (x ∷ taps) differ (suc k) tap e =
    let rest = find_own taps (λ i j d lt h. differ (suc i) (suc j) d (omega (arith, lt)) (omega (arith, h))) k tap e in
    by_test (is_same_port x.port tap.port) refl rest
  where
    apart : x.port ≡ tap.port → ⊥
    apart same =
        let image = map_at port_of taps k tap e in
        let here = get_or_from_slice_get (map port_of taps) k tap.port x.port image in
        let lt = within (map port_of taps) k tap.port image in
        differ 0 (suc k) x.port (omega arith) (omega (arith, lt)) (same ∙ sym here)

    by_test : (b : Bool) → is_same_port x.port tap.port ≡ b → find tap.port taps ≡ tap.number
        → cond (is_same_port x.port tap.port) x.number (find tap.port taps) ≡ tap.number
    by_test true h rest = absurd (apart (same_port x.port tap.port h))
    by_test false h rest = ap (λ b. cond b x.number (find tap.port taps)) h ∙ rest

-- a port among those of taps has one
pub record HasTap (taps : List Tap) (port : PortAt) : Type 0 where
  pub place : ℕ
  pub tap : Tap
  pub is : slice_get taps place ≡ Some tap
  pub own : tap.port ≡ port

pub find_some : (port : PortAt) (taps : List Tap) → is_among port (map port_of taps) ≡ true → HasTap taps port
find_some port [] h = absurd (false≢true h)
find_some port (x ∷ taps) h = by_test (is_same_port port x.port) refl h (find_some port taps)
  where
    by_test : (b : Bool) → is_same_port port x.port ≡ b → (is_same_port port x.port || is_among port (map port_of taps)) ≡ true
        → (is_among port (map port_of taps) ≡ true → HasTap taps port) → HasTap (x ∷ taps) port
    by_test true e all rest = record { place = 0; tap = x; is = refl; own = sym (same_port port x.port e) }
    by_test false e all rest =
        let r = rest (ap (λ b. b || is_among port (map port_of taps)) (sym e) ∙ all) in
        record { place = suc r.place; tap = r.tap; is = r.is; own = r.own }
