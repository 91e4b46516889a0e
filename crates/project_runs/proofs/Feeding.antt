-- What feeds an input: the first link to it, or a stream from the host.
use Rattle.std.proofs.Common.{◌≡◌, ◌⊎◌, ℕ, zero, suc, ◌+◌, Bool, true, false, cond, ◌&&◌, ◌||◌, eqb, List, [], ◌∷◌, map, Some, None, refl, sym, ap, ◌∙◌, subst, arith, inl, inr, eqb-true, eq-eqb}
use Rattle.std.specs.Prelude.{slice_get, All}
use Rattle.std.proofs.lemmas.Bool.{false≢true}
use Rattle.std.proofs.lemmas.Option.{same_Some, get_or_from_slice_get}
use Rattle.manager_links.specs.declared.hosts.HostPort.{HostPort}
use Rattle.manager_links.specs.declared.links.LinkEnds.{LinkEnds}
use Rattle.manager_links.specs.declared.links.PortAt.{PortAt}
use Rattle.manager_links.specs.Ports.{is_same_port, is_among}
use Rattle.project_streams.specs.Streams.{link_to, host_to}
use Rattle.project_runs.proofs.Lists.{within}
use Rattle.project_runs.proofs.Steps.{both_true}

-- what holds of all holds at each place
pub all_at : {A : Type 0} (P : A → Type 0) (xs : List A) (k : ℕ) (x : A) → All P xs → slice_get xs k ≡ Some x → P x
all_at P xs k x all e = subst P (get_or_from_slice_get xs k x x e) (all k x (within xs k x e))

-- ---- ports

same_port : (one other : PortAt) → is_same_port one other ≡ true → one ≡ other
same_port one other h =
    let b = both_true (eqb one.kernel other.kernel) (eqb one.node other.node) h in
    let k : one.kernel ≡ other.kernel = eqb-true one.kernel other.kernel b.0 in
    let n : one.node ≡ other.node = eqb-true one.node other.node b.1 in
    ap (λ j. record { kernel = j; node = one.node }) k ∙ ap (λ j. record { kernel = other.kernel; node = j }) n

port_same : (one other : PortAt) → one ≡ other → is_same_port one other ≡ true
port_same one other e =
    let k : one.kernel ≡ other.kernel = ap (λ (p : PortAt). p.kernel) e in
    let n : one.node ≡ other.node = ap (λ (p : PortAt). p.node) e in
    ap (λ b. b && eqb one.node other.node) (eq-eqb one.kernel other.kernel k) ∙ eq-eqb one.node other.node n

-- a port that is among others stands at a place
pub record IsPlaceOf (ports : List PortAt) (port : PortAt) : Type 0 where
  pub place : ℕ
  pub at : slice_get ports place ≡ Some port

pub among : (port : PortAt) (ports : List PortAt) → is_among port ports ≡ true → IsPlaceOf ports port
among port [] h = absurd (false≢true h)
among port (p ∷ ports) h = of_test (is_same_port port p) refl (among port ports) h
  where
    of_test : (b : Bool) → is_same_port port p ≡ b → (is_among port ports ≡ true → IsPlaceOf ports port) → b || is_among port ports ≡ true → IsPlaceOf (p ∷ ports) port
    of_test true e rest h = record { place = 0; at = ap (λ (q : PortAt). Some q) (sym (same_port port p e)) }
    of_test false e rest h = let r = rest h in record { place = suc r.place; at = r.at }

-- ---- links

-- the first link to a port
pub record IsLinked (links : List LinkEnds) (port : PortAt) : Type 0 where
  pub number : ℕ
  pub link : LinkEnds
  pub at : slice_get links number ≡ Some link
  pub to : link.to ≡ port
  pub first : link_to links port ≡ Some link.from

pub linked : (links : List LinkEnds) (port : PortAt) → IsLinked links port ⊎ (link_to links port ≡ None)
linked [] port = inr refl
linked (x ∷ links) port = of_test (is_same_port x.to port) refl (linked links port)
  where
    of_test : (b : Bool) → is_same_port x.to port ≡ b → IsLinked links port ⊎ (link_to links port ≡ None) → IsLinked (x ∷ links) port ⊎ (link_to (x ∷ links) port ≡ None)
    of_test true e rest =
        inl (record { number = 0; link = x; at = refl; to = same_port x.to port e; first = ap (λ b. cond b (Some x.from) (link_to links port)) e })
    of_test false e (inl r) =
        inl (record { number = suc r.number; link = r.link; at = r.at; to = r.to; first = ap (λ b. cond b (Some x.from) (link_to links port)) e ∙ r.first })
    of_test false e (inr r) = inr (ap (λ b. cond b (Some x.from) (link_to links port)) e ∙ r)

-- where no link goes to a port, it isn't among those that links go to
pub unlinked : (links : List LinkEnds) (port : PortAt) (i : ℕ) → link_to links port ≡ None → slice_get (map (λ (link : LinkEnds). link.to) links) i ≡ Some port → ⊥
unlinked [] port i none e = cc
unlinked (x ∷ links) port zero none e =
    let same = port_same x.to port (same_Some x.to port e) in
    let some : link_to (x ∷ links) port ≡ Some x.from = ap (λ b. cond b (Some x.from) (link_to links port)) same in
    cc
unlinked (x ∷ links) port (suc i) none e = of_test (is_same_port x.to port) (λ h. unlinked links port i h e) none
  where
    of_test : (b : Bool) → (link_to links port ≡ None → ⊥) → cond b (Some x.from) (link_to links port) ≡ None → ⊥
    of_test true rest h = cc
    of_test false rest h = rest h

-- ---- streams from the host

-- the first stream to a port
pub record IsHosted (base : ℕ) (hosts : List HostPort) (port : PortAt) : Type 0 where
  pub number : ℕ
  pub host : HostPort
  pub at : slice_get hosts number ≡ Some host
  pub to : host.port ≡ port
  pub first : host_to base hosts port ≡ Some (base + number)

pub hosted : (base : ℕ) (hosts : List HostPort) (port : PortAt) (i : ℕ) → slice_get (map (λ (host : HostPort). host.port) hosts) i ≡ Some port → IsHosted base hosts port
hosted base [] port i e = absurd (cc)
hosted base (x ∷ hosts) port i e = of_test (is_same_port x.port port) refl (λ j f. hosted (base + 1) hosts port j f) i e
  where
    of_test : (b : Bool) → is_same_port x.port port ≡ b
        → ((j : ℕ) → slice_get (map (λ (host : HostPort). host.port) hosts) j ≡ Some port → IsHosted (base + 1) hosts port)
        → (i : ℕ) → slice_get (map (λ (host : HostPort). host.port) (x ∷ hosts)) i ≡ Some port → IsHosted base (x ∷ hosts) port
    of_test true t rest i e =
        let z : base ≡ base + 0 = omega arith in
        record {
          number = 0;
          host = x;
          at = refl;
          to = same_port x.port port t;
          first = ap (λ b. cond b (Some base) (host_to (base + 1) hosts port)) t ∙ ap (λ (n : ℕ). Some n) z;
        }
    of_test false t rest zero e = absurd (false≢true (sym t ∙ port_same x.port port (same_Some x.port port e)))
    of_test false t rest (suc i) e =
        let r = rest i e in
        let z : base + 1 + r.number ≡ base + suc r.number = omega arith in
        record {
          number = suc r.number;
          host = r.host;
          at = r.at;
          to = r.to;
          first = ap (λ b. cond b (Some base) (host_to (base + 1) hosts port)) t ∙ r.first ∙ ap (λ (n : ℕ). Some n) z;
        }
