-- There is a family: nets take their values in rounds, and each instance is solved anew in each round.
use Rattle.std.proofs.Common.{◌≡◌, ℕ, zero, suc, ◌+◌, ◌<◌, ◌≤◌, ◌^◌, Bool, true, false, cond, not}
use Rattle.std.proofs.Common.{◌&&◌, ◌||◌, eqb, ltb, List, [], ◌∷◌, ◌⊎◌, inl, inr, length, Some}
use Rattle.std.proofs.Common.{None, Option, refl, sym, ap, ◌∙◌, subst, arith}
use Rattle.std.specs.Prelude.{slice_get}
use Rattle.std.proofs.lemmas.Bool.{cases_lt, false≢true, eq-eqb, eqb-true, ltb-true, lt-ltb}
use Rattle.std.proofs.lemmas.Nat.{pow_pos}
use Rattle.rtl_ir.specs.declared.design.Design.{Design}
use Rattle.rtl_ir.specs.declared.design.Module.{Module}
use Rattle.rtl_ir.specs.declared.design.Instance.{Instance}
use Rattle.rtl_ir.specs.declared.design.Assign.{Assign}
use Rattle.rtl_ir.specs.declared.design.Port.{Port}
use Rattle.rtl_ir.specs.Value.{Family, Contents, value, width_of, net_width, net_kept, is_reg}
use Rattle.rtl_ir.specs.Flat.{AllContents, Families, below, part_of}
use Rattle.rtl_ir.specs.Parts.{ByParts}
use Rattle.rtl_ir.specs.Typed.{is_input, is_given, IsTyped}
use Rattle.rtl_ir.specs.Rules.{Connection, Driver, ByAssign, ByPort, Drives, Feeds, by_assign, by_part, Way, IsAccepted, AllHold, Solves, HasOneFamily}
use Rattle.rtl_ir.proofs.Accepted.{Sound, sound_at}
use Rattle.rtl_ir.proofs.Parts.{together, below_is, part_is}
use Rattle.rtl_ir.proofs.Ports.{by_lesser, value_agrees, joined_of, net_at, InputAt, input_at, assigned_of}
use Rattle.rtl_ir.proofs.Words.{value_fits}
use Rattle.std.proofs.lemmas.Option.{slice_get_past}
use Rattle.rtl_ir.proofs.Only.{zero_past, independent, at_most_one}

abbrev pub InputsFit : Module → Family → Type 0
InputsFit m x = (n : ℕ) → is_input m.ports n ≡ true → x n < 2 ^ width_of m n

pub record Solver (d : Design) (m : Module) : Type 0 where
  pub of : AllContents → Family → Families
  pub solves : (c : AllContents) → AllHold d m c → (x : Family) → InputsFit m x → Solves d m c x (of c x)

abbrev pub AllSolvers : Design → ℕ → Type 0
AllSolvers d number = (m : Module) → slice_get d.modules number ≡ Some m → Solver d m

-- the values that the inputs of a part have from outside
abbrev outer_values : List Port → List ℕ → Family → Family
outer_values [] ns g n = 0
outer_values (p ∷ ps) [] g n = 0
outer_values (p ∷ ps) (o ∷ ns) g n = cond (eqb p.net n) (g o) (outer_values ps ns g n)

outer_at : (ps : List Port) (ns : List ℕ) (g : Family) (j : ℕ) (p : Port) (o : ℕ)
    → ((i l : ℕ) (p q : Port) → slice_get ps i ≡ Some p → slice_get ps l ≡ Some q
    → p.net ≡ q.net → i ≡ l) → slice_get ps j ≡ Some p → slice_get ns j ≡ Some o
    → outer_values ps ns g p.net ≡ g o
outer_at [] ns g j p o h e f = absurd (cc)
outer_at (q ∷ ps) [] g j p o h e f = absurd (cc)
outer_at (q ∷ ps) (u ∷ ns) g zero p o h e f =
    let a : q ≡ p = cc in
    let b : u ≡ o = cc in
    ap (λ t. cond t (g u) (outer_values ps ns g p.net)) (eq-eqb q.net p.net (ap (λ (i : Port). i.net) a)) ∙ ap g b
outer_at (q ∷ ps) (u ∷ ns) g (suc j) p o h e f =
    by_test (eqb q.net p.net) refl (outer_at ps ns g j p o (λ i l a b x y z. let r : suc i ≡ suc l = h (suc i) (suc l) a b x y z in omega arith) e f)
  where
    by_test : (t : Bool) → eqb q.net p.net ≡ t → outer_values ps ns g p.net ≡ g o → cond t (g u) (outer_values ps ns g p.net) ≡ g o
    by_test true r more =
        let z : 0 ≡ suc j = h 0 (suc j) q p refl e (eqb-true q.net p.net r) in
        absurd (omega arith)
    by_test false r more = more

left : (a b : Bool) → a || b ≡ false → a ≡ false
left true b e = absurd (false≢true (sym e))
left false b e = refl

right : (a b : Bool) → a || b ≡ false → b ≡ false
right true b e = absurd (false≢true (sym e))
right false b e = e

either : (a b : Bool) → b ≡ true → a || b ≡ true
either true b e = refl
either false b e = e

both : (a o : Bool) → a ≡ true → o ≡ false → a && not o ≡ true
both true false e f = refl
both true true e f = absurd (false≢true (sym f))
both false o e f = absurd (false≢true e)

over : (a b : Bool) → a ≡ true → a || b ≡ true
over true b e = refl
over false b e = absurd (false≢true e)

is_input_of : (ps : List Port) (j : ℕ) (p : Port) → slice_get ps j ≡ Some p → p.output ≡ false → is_input ps p.net ≡ true
is_input_of [] j p e f = absurd (cc)
is_input_of (q ∷ ps) zero p e f =
    let a : q ≡ p = cc in
    over (eqb q.net p.net && not q.output) (is_input ps p.net) (both (eqb q.net p.net) q.output (eq-eqb q.net p.net (ap (λ (i : Port). i.net) a)) (ap (λ (i : Port). i.output) a ∙ f))
is_input_of (q ∷ ps) (suc j) p e f = either (eqb q.net p.net && not q.output) (is_input ps p.net) (is_input_of ps j p e f)

-- above so many values
above : (f : ℕ → ℕ) (n : ℕ) → (r : ℕ) × ((k : ℕ) → k < n → f k < r)
above f zero = (0, λ k lt. absurd (omega arith))
above f (suc n) =
    let a = above f n in
    (suc (f n) + a.0, λ k lt. at k lt a.0 a.1 (cases_lt k n))
  where
    at : (k : ℕ) → k < suc n → (r : ℕ) → ((i : ℕ) → i < n → f i < r) → (k < n) ⊎ (n ≤ k) → f k < suc (f n) + r
    at k lt r h (inl l) = let q = h k l in omega arith
    at k lt r h (inr l) = let q : k ≡ n = omega arith in rw q (omega arith)

abbrev assign_value : (m : Module) (c : Contents) → Option Assign → Family → ℕ → ℕ
assign_value m c None g n = 0
assign_value m c (Some a) g n = value m c g (width_of m n) a.expr

abbrev net_value : Option Port → Family → ℕ
net_value None f = 0
net_value (Some p) f = f p.net

abbrev port_value : Option Module → ℕ → Family → ℕ
port_value None j f = 0
port_value (Some inner) j f = net_value (slice_get inner.ports j) f

module _ (d : Design) (accepted : IsAccepted d) (number : ℕ) (m : Module) (s : Sound d number m) (ih : (i : ℕ) → i < number → AllSolvers d i) (c : AllContents) (x : Family) where
  abbrev at_inner : (k : ℕ) (i : Instance) → i.module < number → (o : Option Module) → slice_get d.modules i.module ≡ o → Family → Families
  at_inner k i lt None e g = λ p n. 0
  at_inner k i lt (Some inner) e g = (ih i.module lt inner e).of (below k c) (outer_values inner.ports i.nets g)

  abbrev at_part : (k : ℕ) (o : Option Instance) → slice_get m.instances k ≡ o → Family → Families
  at_part k None e g = λ p n. 0
  at_part k (Some i) e g = at_inner k i (s.earlier k i e) (slice_get d.modules i.module) refl g

  -- the families of an instance, where the module's own nets have these values
  abbrev solve_at : ℕ → Family → Families
  solve_at k g = at_part k (slice_get m.instances k) refl g

  abbrev by_value : Driver → Family → ℕ → ℕ
  by_value (ByAssign j) g n = assign_value m (c []) (slice_get m.assigns j) g n
  by_value (ByPort k j) g n = port_value (part_of d m k) j (solve_at k g [])

  -- a round
  abbrev next : Family → Family
  next g n = cond (is_reg m n) ((c []).regs n) (cond (is_input m.ports n) (x n) (cond (ltb n (length m.nets)) (by_value (s.driven.driver n) g n) 0))

  abbrev rounds : ℕ → Family
  rounds zero = λ n. 0
  rounds (suc r) = next (rounds r)

  abbrev top : ℕ
  top = (above s.levelled.rank (length m.nets)).0

  abbrev families : Families
  families [] = rounds top
  families (k ∷ p) = solve_at k (rounds top) p

  module _ (held : AllHold d m c) (fit : InputsFit m x) where
    inner_solves : (k : ℕ) (i : Instance) (lt : i.module < number) (g : Family) (inner : Module)
        (o : Option Module) (e : slice_get d.modules i.module ≡ o) → o ≡ Some inner
        → AllHold d inner (below k c) → InputsFit inner (outer_values inner.ports i.nets g)
        → Solves d inner (below k c) (outer_values inner.ports i.nets g) (at_inner k i lt o e g)
    inner_solves k i lt g inner None e q hold fits = absurd (cc)
    inner_solves k i lt g inner (Some other) e q hold fits =
        let is : other ≡ inner = cc in
        let v = (ih i.module lt other e).of (below k c) (outer_values other.ports i.nets g) in
        let P : Module → Type 0 = λ z. AllHold d z (below k c) → InputsFit z (outer_values z.ports i.nets g) → Solves d z (below k c) (outer_values z.ports i.nets g) v in
        subst P is (λ a b. (ih i.module lt other e).solves (below k c) a (outer_values other.ports i.nets g) b) hold fits

    part_solves : (k : ℕ) (i : Instance) (g : Family) (inner : Module) (o : Option Instance)
        (e : slice_get m.instances k ≡ o) → o ≡ Some i
        → slice_get d.modules i.module ≡ Some inner → AllHold d inner (below k c)
        → InputsFit inner (outer_values inner.ports i.nets g)
        → Solves d inner (below k c) (outer_values inner.ports i.nets g) (at_part k o e g)
    part_solves k i g inner None e q f hold fits = absurd (cc)
    part_solves k i g inner (Some other) e q f hold fits =
        let is : other ≡ i = cc in
        let v = at_part k (Some other) e g in
        let P : Instance → Type 0 = λ z. slice_get d.modules z.module ≡ Some inner
        → InputsFit inner (outer_values inner.ports z.nets g)
        → Solves d inner (below k c) (outer_values inner.ports z.nets g) v in
        subst P is (λ a b. inner_solves k other (s.earlier k other e) g inner (slice_get d.modules other.module) refl a hold b) f fits

    hold_below : (k : ℕ) (i : Instance) (inner : Module) → slice_get m.instances k ≡ Some i → slice_get d.modules i.module ≡ Some inner → AllHold d inner (below k c)
    hold_below k i inner e f = λ p part at. held (k ∷ p) part (below_is d m k inner p (part_is d m k i inner e f) ∙ at)

    -- an input of an instance and its net outside
    input_is : (k : ℕ) (i : Instance) (inner : Module) (e : slice_get m.instances k ≡ Some i)
        (f : slice_get d.modules i.module ≡ Some inner) (a : ℕ) → (q : InputAt inner.ports a)
        → (o : Connection d m k q.place) × ((g : Family)
        → outer_values inner.ports i.nets g a ≡ g o.net) × (width_of inner a ≡ width_of m o.net)
        × (o.port.output ≡ false) × (o.port.net ≡ a)
    input_is k i inner e f a q =
        let o = net_at inner.ports i.nets q.place q.port (s.ports k i inner e f) q.at in
        let con : Connection d m k q.place = record { part = i; of = e; inner = inner; is = f; port = q.port; at = q.at; net = o.0; joins = o.1 } in (
          con,
          λ g. ap (outer_values inner.ports i.nets g)
              (sym q.net) ∙ outer_at inner.ports i.nets g q.place q.port o.0
              ((sound_at accepted i.module inner f).apart) q.at o.1,
          ap (width_of inner) (sym q.net) ∙ s.widths.joined k q.place con,
          q.input,
          q.net,
        )

    solves : (k : ℕ) (i : Instance) (inner : Module) (e : slice_get m.instances k ≡ Some i)
        (f : slice_get d.modules i.module ≡ Some inner) (g : Family)
        → ((n : ℕ) → g n < 2 ^ width_of m n)
        → Solves d inner (below k c) (outer_values inner.ports i.nets g) (solve_at k g)
    solves k i inner e f g range =
        part_solves k i g inner (slice_get m.instances k) refl e f (hold_below k i inner e f) (λ a t. fits a (input_is k i inner e f a (input_at inner.ports a t)))
      where
        fits : (a : ℕ) {l : ℕ} → (o : Connection d m k l)
            × ((g : Family) → outer_values inner.ports i.nets g a ≡ g o.net)
            × (width_of inner a ≡ width_of m o.net) × (o.port.output ≡ false) × (o.port.net ≡ a)
            → outer_values inner.ports i.nets g a < 2 ^ width_of inner a
        fits a q = rw (q.1 g, q.2) (range q.0.net)

    port_is : (k j : ℕ) (e : Connection d m k j) (g : Family) (n : ℕ) → by_value (ByPort k j) g n ≡ solve_at k g [] e.port.net
    port_is k j e g n = ap (λ o. port_value o j (solve_at k g [])) (part_is d m k e.part e.inner e.of e.is) ∙ ap (λ o. net_value o (solve_at k g [])) e.at

    by_fits : (g : Family) → ((n : ℕ) → g n < 2 ^ width_of m n) → (y : Driver) (n : ℕ) → Drives d m y n → by_value y g n < 2 ^ width_of m n
    by_fits g range (ByAssign j) n h =
        let t : IsTyped m (width_of m n) h.0.expr = subst (λ (i : ℕ). IsTyped m (width_of m i) h.0.expr) h.2 (s.widths.typed j h.0 h.1) in
        rw (h.1) (value_fits m (c []) g (width_of m n) h.0.expr t range (held [] m refl).cells)
    by_fits g range (ByPort k j) n h =
        let e = h.0 in
        let f = solves k e.part e.inner e.of e.is g range in
        let w : width_of e.inner e.port.net ≡ width_of m n = s.widths.joined k j e ∙ ap (width_of m) h.2 in
        rw (port_is k j e g n, sym w) ((f.fits.each [] e.inner refl).words e.port.net)

    by_same : (g g' : Family) → ((n : ℕ) → g n < 2 ^ width_of m n)
        → ((n : ℕ) → g' n < 2 ^ width_of m n) → (n : ℕ) → ((a : ℕ) → Feeds d m a n → g a ≡ g' a)
        → (y : Driver) → Drives d m y n → by_value y g n ≡ by_value y g' n
    by_same g g' range range' n fed (ByAssign j) h =
        ap (λ o. assign_value m (c []) o g n) h.1 ∙ value_agrees m (c []) g g'
        (width_of m n) h.0.expr (λ i q. fed i (subst (λ (t : ℕ). Feeds d m i t) h.2
        (by_assign j i h.0 h.1 q))) ∙ sym (ap (λ o. assign_value m (c []) o g' n) h.1)
    by_same g g' range range' n fed (ByPort k j) h =
        let e = h.0 in
        let f = solves k e.part e.inner e.of e.is g range in
        let f' = solves k e.part e.inner e.of e.is g' range' in
        port_is k j e g n ∙ independent d accepted e.part.module e.inner e.is (below k c)
        (solve_at k g) (solve_at k g') f.fits f'.fits e.port.net
        (λ a i way. f.given a i ∙ same e h.1 h.2 a way
        (input_is k e.part e.inner e.of e.is a (input_at e.inner.ports a i)) ∙ sym
        (f'.given a i)) ∙ sym (port_is k j e g' n)
      where
        same : (e : Connection d m k j) → e.port.output ≡ true → e.net ≡ n → (a : ℕ) {l : ℕ}
            → Way d e.inner a e.port.net → (o : Connection d m k l)
            × ((g : Family) → outer_values e.inner.ports e.part.nets g a ≡ g o.net)
            × (width_of e.inner a ≡ width_of m o.net) × (o.port.output ≡ false)
            × (o.port.net ≡ a) → outer_values e.inner.ports e.part.nets g a
            ≡ outer_values e.inner.ports e.part.nets g' a
        same e out is a {l} way q =
            let feeds : Feeds d m q.0.net e.net = by_part k l j q.0 e q.3 out (subst (λ (t : ℕ). Way d e.inner t e.port.net) (sym q.4) way) in
            q.1 g ∙ fed q.0.net (subst (λ (t : ℕ). Feeds d m q.0.net t) is feeds) ∙ sym (q.1 g')

    given_is : (n : ℕ) → is_reg m n ≡ false → is_input m.ports n ≡ false → is_given m n ≡ false
    given_is n a b = ap (λ (t : Bool). t || is_input m.ports n) a ∙ b

    next_fits : (g : Family) → ((n : ℕ) → g n < 2 ^ width_of m n) → (n : ℕ) → next g n < 2 ^ width_of m n
    next_fits g range n = by_tests (is_reg m n) (is_input m.ports n) (ltb n (length m.nets)) refl refl refl
      where
        by_tests : (a b l : Bool) → is_reg m n ≡ a → is_input m.ports n ≡ b
            → ltb n (length m.nets) ≡ l → cond a ((c []).regs n)
            (cond b (x n) (cond l (by_value (s.driven.driver n) g n) 0)) < 2 ^ width_of m n
        by_tests true b l ea eb el = (held [] m refl).regs n ea
        by_tests false true l ea eb el = fit n eb
        by_tests false false true ea eb el = by_fits g range (s.driven.driver n) n (s.driven.some n (ltb-true n (length m.nets) el) (given_is n ea eb))
        by_tests false false false ea eb el = pow_pos (width_of m n)

    rounds_fit : (r n : ℕ) → rounds r n < 2 ^ width_of m n
    rounds_fit zero n = pow_pos (width_of m n)
    rounds_fit (suc r) n = next_fits (rounds r) (rounds_fit r) n

    next_same : (g g' : Family) → ((n : ℕ) → g n < 2 ^ width_of m n) → ((n : ℕ) → g' n < 2 ^ width_of m n) → (n : ℕ) → ((a : ℕ) → Feeds d m a n → g a ≡ g' a) → next g n ≡ next g' n
    next_same g g' range range' n fed = by_tests (is_reg m n) (is_input m.ports n) (ltb n (length m.nets)) refl refl refl
      where
        by_tests : (a b l : Bool) → is_reg m n ≡ a → is_input m.ports n ≡ b
            → ltb n (length m.nets) ≡ l → cond a ((c []).regs n)
            (cond b (x n) (cond l (by_value (s.driven.driver n) g n) 0)) ≡ cond a
            ((c []).regs n) (cond b (x n) (cond l (by_value (s.driven.driver n) g' n) 0))
        by_tests true b l ea eb el = refl
        by_tests false true l ea eb el = refl
        by_tests false false true ea eb el = by_same g g' range range' n fed (s.driven.driver n) (s.driven.some n (ltb-true n (length m.nets) el) (given_is n ea eb))
        by_tests false false false ea eb el = refl

    stable : (r n : ℕ) → s.levelled.rank n < r → rounds (suc r) n ≡ rounds r n
    stable zero n lt = absurd (omega arith)
    stable (suc r) n lt =
        next_same (rounds (suc r)) (rounds r) (rounds_fit (suc r)) (rounds_fit r) n (λ a f. stable r a (omega (arith, s.levelled.rising a n f)))

    fixed : (n : ℕ) → n < length m.nets → next (rounds top) n ≡ rounds top n
    fixed n lt = stable top n ((above s.levelled.rank (length m.nets)).1 n lt)

    -- what a round gives a net
    of_reg : (g : Family) (n : ℕ) → is_reg m n ≡ true → next g n ≡ (c []).regs n
    of_reg g n e = ap (λ b. cond b ((c []).regs n) (cond (is_input m.ports n) (x n) (cond (ltb n (length m.nets)) (by_value (s.driven.driver n) g n) 0))) e

    of_input : (g : Family) (n : ℕ) → is_reg m n ≡ false → is_input m.ports n ≡ true → next g n ≡ x n
    of_input g n e f =
        ap (λ b. cond b ((c []).regs n) (cond (is_input m.ports n) (x n) (cond (ltb n (length m.nets)) (by_value (s.driven.driver n) g n) 0))) e
        ∙ ap (λ b. cond b (x n) (cond (ltb n (length m.nets)) (by_value (s.driven.driver n) g n) 0)) f

    of_driven : (g : Family) (n : ℕ) → is_given m n ≡ false → n < length m.nets → next g n ≡ by_value (s.driven.driver n) g n
    of_driven g n e lt =
        ap (λ b. cond b ((c []).regs n) (cond (is_input m.ports n) (x n) (cond (ltb n (length m.nets)) (by_value (s.driven.driver n) g n) 0))) (left (is_reg m n) (is_input m.ports n) e)
        ∙ ap (λ b. cond b (x n) (cond (ltb n (length m.nets)) (by_value (s.driven.driver n) g n) 0)) (right (is_reg m n) (is_input m.ports n) e)
        ∙ ap (λ b. cond b (by_value (s.driven.driver n) g n) 0) (lt-ltb n (length m.nets) lt)

    driven_is : (n : ℕ) (y : Driver) → Drives d m y n → rounds top n ≡ by_value y (rounds top) n
    driven_is n y h =
        let o = s.driven.only n y h in
        sym (fixed n o.0) ∙ of_driven (rounds top) n o.1 o.0 ∙ ap (λ z. by_value z (rounds top) n) (sym o.2)

    kept : (n : ℕ) → is_reg m n ≡ true → (n < length m.nets) ⊎ (length m.nets ≤ n) → rounds top n ≡ (c []).regs n
    kept n e (inl lt) = sym (fixed n lt) ∙ of_reg (rounds top) n e
    kept n e (inr ge) = absurd (false≢true (sym (ap net_kept (slice_get_past m.nets n ge)) ∙ e))

    input_kept : (n : ℕ) → InputAt m.ports n → is_input m.ports n ≡ true → (n < length m.nets) ⊎ (length m.nets ≤ n) → rounds top n ≡ x n
    input_kept n q e (inl lt) = sym (fixed n lt) ∙ of_input (rounds top) n (ap (is_reg m) (sym q.net) ∙ s.wires q.place q.port q.at) e
    input_kept n q e (inr ge) =
        let w : width_of m n ≡ 0 = ap net_width (slice_get_past m.nets n ge) in
        let a : x n < 2 ^ 0 = subst (λ (t : ℕ). x n < 2 ^ t) w (fit n e) in
        zero_past m (rounds top) n (rounds_fit top) ge ∙ sym (let z : x n ≡ 0 = omega arith in z)

    port_value_is : (k : ℕ) (i : Instance) (inner : Module)
        (e : slice_get m.instances k ≡ Some i) (f : slice_get d.modules i.module ≡ Some inner)
        (j : ℕ) (p : Port) (n : ℕ) (at : slice_get inner.ports j ≡ Some p)
        (joins : slice_get i.nets j ≡ Some n) (o : Bool) → p.output ≡ o
        → solve_at k (rounds top) [] p.net ≡ rounds top n
    port_value_is k i inner e f j p n at joins false out =
        (solves k i inner e f (rounds top) (rounds_fit top)).given p.net (is_input_of inner.ports j p at out)
        ∙ outer_at inner.ports i.nets (rounds top) j p n ((sound_at accepted i.module inner f).apart) at joins
    port_value_is k i inner e f j p n at joins true out =
        let con : Connection d m k j = record { part = i; of = e; inner = inner; is = f; port = p; at = at; net = n; joins = joins } in
        sym (driven_is n (ByPort k j) (con, out, refl) ∙ port_is k j con (rounds top) n)

    by_parts : ByParts d m c families
    by_parts =
        record {
          own = record {
            words = rounds_fit top;
            assigned = assigned_of m (c []) (rounds top) m.assigns (λ j a e. driven_is a.target (ByAssign j) (a, e, refl) ∙ ap (λ o. assign_value m (c []) o (rounds top) a.target) e);
            kept = λ n e. kept n e (cases_lt n (length m.nets));
          };
          parts = λ k i inner e f. (
            joined_of (rounds top) (solve_at k (rounds top) []) inner.ports i.nets (s.ports k i inner e f) (λ j p n at joins. port_value_is k i inner e f j p n at joins p.output refl),
            (solves k i inner e f (rounds top) (rounds_fit top)).fits,
          );
        }

    solved : Solves d m c x families
    solved = record { fits = together d m c families by_parts; given = λ n e. input_kept n (input_at m.ports n e) e (cases_lt n (length m.nets)) }

pub solver : (d : Design) → IsAccepted d → (number : ℕ) → AllSolvers d number
solver d h =
    by_lesser (AllSolvers d) (λ number ih m e. record {
      of = λ c x. families d h number m (sound_at h number m e) ih c x;
      solves = λ c held x fit. solved d h number m (sound_at h number m e) ih c x held fit;
    })

pub one_family : (d : Design) → IsAccepted d → (number : ℕ) (m : Module) → slice_get d.modules number ≡ Some m → (c : AllContents) → AllHold d m c → (x : Family) → InputsFit m x → HasOneFamily d m c x
one_family d h number m e c held x fit =
    let s = solver d h number m e in
    let v = s.of c x in
    let a = s.solves c held x fit in
    record {
      family = v;
      solves = a;
      only = λ w b p part at. at_most_one d h number m e c w v b.fits a.fits (λ n i. b.given n i ∙ sym (a.given n i)) p part at;
    }
