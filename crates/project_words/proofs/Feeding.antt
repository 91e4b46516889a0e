-- The link and the stream from the CPU that go to a port.
use Rattle.std.proofs.Common.{◌≡◌, ℕ, suc, ◌+◌, Bool, true, false, cond, eqb, List, [], ◌∷◌}
use Rattle.std.proofs.Common.{Some, refl, subst, arith}
use Rattle.std.specs.Prelude.{All, slice_get}
use Rattle.std.proofs.lemmas.Bool.{eqb-true, and_parts}
use Rattle.std.proofs.lemmas.List.Elements.{All-head, All-tail}
use Rattle.std.proofs.lemmas.Option.{same_Some}
use Rattle.manager_links.specs.declared.hosts.HostPort.{HostPort}
use Rattle.manager_links.specs.declared.links.LinkEnds.{LinkEnds}
use Rattle.manager_links.specs.declared.links.PortAt.{PortAt}
use Rattle.manager_links.specs.Ports.{is_same_port}
use Rattle.project_streams.specs.Streams.{link_to, host_to}

pub same_port : (one other : PortAt) → is_same_port one other ≡ true → one ≡ other
same_port one other h =
    let b = and_parts (eqb one.kernel other.kernel) (eqb one.node other.node) h in
    let k : one.kernel ≡ other.kernel = eqb-true one.kernel other.kernel b.0 in
    let n : one.node ≡ other.node = eqb-true one.node other.node b.1 in
    λ i. record { kernel = k i; node = n i }

-- what holds of all links holds of the one that goes to a port
pub of_link : (P : LinkEnds → Type 0) (links : List LinkEnds) (port output : PortAt) → All P links
    → link_to links port ≡ Some output → P (record { from = output; to = port })
of_link P [] port output all e = absurd (cc)
of_link P (link ∷ links) port output all e =
    by_test (is_same_port link.to port) refl
    (of_link P links port output (All-tail P link links all)) e
  where
    by_test : (b : Bool) → is_same_port link.to port ≡ b
        → (link_to links port ≡ Some output → P (record { from = output; to = port }))
        → cond b (Some link.from) (link_to links port) ≡ Some output
        → P (record { from = output; to = port })
    by_test true same rest e =
        let from : link.from ≡ output = same_Some link.from output e in
        let to : link.to ≡ port = same_port link.to port same in
        let is : link ≡ record { from = output; to = port } =
        λ i. record { from = from i; to = to i } in
        subst P is (All-head P link links all)
    by_test false same rest e = rest e

-- one of these streams, which are numbered from this one on, goes to the port
pub record IsHostTo (base : ℕ) (hosts : List HostPort) (port : PortAt) (number : ℕ) : Type 0 where
  pub place : ℕ
  pub host : HostPort
  pub at : slice_get hosts place ≡ Some host
  pub to : host.port ≡ port
  pub numbered : base + place ≡ number

pub hosted : (base : ℕ) (hosts : List HostPort) (port : PortAt) (number : ℕ)
    → host_to base hosts port ≡ Some number → IsHostTo base hosts port number
hosted base [] port number e = absurd (cc)
hosted base (host ∷ hosts) port number e =
    by_test (is_same_port host.port port) refl (hosted (base + 1) hosts port number) e
  where
    by_test : (b : Bool) → is_same_port host.port port ≡ b
        → (host_to (base + 1) hosts port ≡ Some number → IsHostTo (base + 1) hosts port number)
        → cond b (Some base) (host_to (base + 1) hosts port) ≡ Some number
        → IsHostTo base (host ∷ hosts) port number
    by_test true same rest e = record {
      place = 0;
      host = host;
      at = refl;
      to = same_port host.port port same;
      numbered = let n = same_Some base number e in omega (arith, n);
    }
    by_test false same rest e =
        let r = rest e in
        record {
          place = suc r.place;
          host = r.host;
          at = r.at;
          to = r.to;
          numbered = let n = r.numbered in omega (arith, n);
        }
