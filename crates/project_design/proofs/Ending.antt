-- The assignments of `done` are made one by one.
use Rattle.std.proofs.Common.{◌≡◌, ℕ, zero, suc, ◌+◌, ◌-◌, ◌*◌, ◌<◌, ◌≤◌, List, [], ◌∷◌, ◌++◌, map, drop, get_or, length, refl, sym, ap, ◌∙◌, subst, arith, append_assoc}
use Rattle.std.proofs.lemmas.List.{drop_more}
use Rattle.rtl_ir.specs.declared.design.Assign.{Assign}
use Rattle.rtl_ir.specs.declared.design.Sign.TheVariants.{And}
use Rattle.rtl_ir.specs.declared.design.Expr.TheVariants as exprs
use Rattle.link_fifo.specs.Netlist.{gets}
use Rattle.manager_links.specs.declared.hosts.HostPort.{HostPort}
use Rattle.project_rtl.specs.Tops.{range, empty_assigns, ended_assigns, valid_nets}

pub none_more : {A : Type 0} (xs : List A) (i : ℕ) → length xs ≤ i → drop i xs ≡ []
none_more [] zero h = refl
none_more [] (suc i) h = refl
none_more (x ∷ xs) zero h = absurd (omega arith)
none_more (x ∷ xs) (suc i) h = none_more xs i (omega arith)

-- the two assignments of a FIFO
abbrev two : ℕ → ℕ → ℕ → List Assign
two next last valid = gets next (exprs.Not valid) ∷ gets (next + 1) (exprs.Binary And last next) ∷ []

pub empty_step : (done next last i : ℕ) (valids : List ℕ) (old new target : List Assign) → i < length valids
    → new ≡ old ++ two next last (get_or valids i 0)
    → old ++ empty_assigns done next last (drop i valids) ≡ target
    → new ++ empty_assigns done (next + 2) (next + 1) (drop (i + 1) valids) ≡ target
empty_step done next last i valids old new target lt e h =
    let rest = empty_assigns done (next + 2) (next + 1) (drop (i + 1) valids) in
    ap (λ l. l ++ rest) e ∙ append_assoc old (two next last (get_or valids i 0)) rest
    ∙ ap (λ l. old ++ empty_assigns done next last l) (sym (drop_more valids i 0 lt)) ∙ h

pub ended_step : (done next last i : ℕ) (nets valids : List ℕ) (old new target : List Assign) → i < length nets
    → new ≡ old ++ gets next (exprs.Binary And last (get_or nets i 0)) ∷ []
    → old ++ ended_assigns done next last (drop i nets) valids ≡ target
    → new ++ ended_assigns done (next + 1) next (drop (i + 1) nets) valids ≡ target
ended_step done next last i nets valids old new target lt e h =
    let rest = ended_assigns done (next + 1) next (drop (i + 1) nets) valids in
    ap (λ l. l ++ rest) e ∙ append_assoc old (gets next (exprs.Binary And last (get_or nets i 0)) ∷ []) rest
    ∙ ap (λ l. old ++ ended_assigns done next last l valids) (sym (drop_more nets i 0 lt)) ∙ h

-- ---- the nets that they read

pub range_next : (from count : ℕ) → from < count → range from (count - from) ≡ from ∷ range (from + 1) (count - (from + 1))
range_next from count h =
    let e : count - from ≡ suc (count - (from + 1)) = omega arith in
    ap (range from) e

pub range_none : (from count : ℕ) → count ≤ from → range from (count - from) ≡ []
range_none from count h = let e : count - from ≡ 0 = omega arith in ap (range from) e

pub mapped_step : (f : ℕ → ℕ) (from count net : ℕ) (old new target : List ℕ) → from < count → net ≡ f from → new ≡ old ++ net ∷ []
    → old ++ map f (range from (count - from)) ≡ target
    → new ++ map f (range (from + 1) (count - (from + 1))) ≡ target
mapped_step f from count net old new target lt is e h =
    let rest = map f (range (from + 1) (count - (from + 1))) in
    ap (λ l. l ++ rest) e ∙ append_assoc old (net ∷ []) rest
    ∙ ap (λ x. old ++ x ∷ rest) is
    ∙ ap (λ l. old ++ map f l) (sym (range_next from count lt)) ∙ h

valid_behind : (port i : ℕ) (hosts : List HostPort) → i < length hosts → valid_nets port (drop i hosts) ≡ (port + 1) ∷ valid_nets (port + 3) (drop (suc i) hosts)
valid_behind port i [] lt = absurd (omega arith)
valid_behind port zero (host ∷ hosts) lt = refl
valid_behind port (suc i) (host ∷ hosts) lt = valid_behind port i hosts (omega arith)

valid_drop : (port i : ℕ) (hosts : List HostPort) → i < length hosts → valid_nets port (drop i hosts) ≡ (port + 1) ∷ valid_nets (port + 3) (drop (i + 1) hosts)
valid_drop port i hosts lt =
    let e : suc i ≡ i + 1 = omega arith in
    valid_behind port i hosts lt ∙ ap (λ k. (port + 1) ∷ valid_nets (port + 3) (drop k hosts)) e

pub valid_step : (port i : ℕ) (hosts : List HostPort) (old new target : List ℕ) → i < length hosts
    → new ≡ old ++ (port + 1) ∷ []
    → old ++ valid_nets port (drop i hosts) ≡ target
    → new ++ valid_nets (port + 3) (drop (i + 1) hosts) ≡ target
valid_step port i hosts old new target lt e h =
    let rest = valid_nets (port + 3) (drop (i + 1) hosts) in
    ap (λ l. l ++ rest) e ∙ append_assoc old ((port + 1) ∷ []) rest
    ∙ ap (λ l. old ++ l) (sym (valid_drop port i hosts lt)) ∙ h
