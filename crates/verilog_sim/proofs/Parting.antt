-- A part of a module, by paths: what fits the module fits the part, and an edge of one is an edge of the other.
use Rattle.std.proofs.Common.{◌≡◌, ℕ, zero, suc, ◌+◌, ◌<◌, Bool, true, false, cond, eqb, List, [], ◌∷◌, ◌++◌, map, length, Option, Some, None, refl, sym, ap, ◌∙◌, subst, ⊎_elim, arith, length-append}
use Rattle.std.specs.Prelude.{slice_get, option_map, option_and_then}
use mathlib.Core.Path.{fun_ext}
use Rattle.std.proofs.lemmas.Bool.{cases_lt, cases_eq, lt-ltb, le-ltb, eq-eqb, ne_eqb}
use Rattle.std.proofs.lemmas.Option.{slice_get_past, slice_get-map}
use Rattle.rtl_ir.specs.declared.design.Design.{Design}
use Rattle.rtl_ir.specs.declared.design.Module.{Module}
use Rattle.rtl_ir.specs.declared.design.Port.{Port}
use Rattle.rtl_ir.specs.declared.design.Assign.{Assign}
use Rattle.rtl_ir.specs.declared.design.Instance.{Instance}
use Rattle.rtl_ir.specs.declared.design.Expr.TheVariants.{Net as Plain}
use Rattle.rtl_ir.specs.Value.{Family, Contents, value, width_of}
use Rattle.rtl_ir.specs.Edge.{Fits}
use Rattle.rtl_ir.specs.Flat.{Path, AllContents, Families, Joined, FitsFlat, below, module_at, after_part, after_flat}
use Rattle.rtl_ir.specs.Parts.{ByParts}
use Rattle.rtl_ir.proofs.Parts.{apart, together}
use Rattle.rtl_ir.proofs.Ports.{joined_at, joined_of, assigned_at}
use Rattle.verilog_sim.specs.Relocation.{relocated_assign, relocated_instance, join_of, joins_of}
use Rattle.verilog_sim.specs.declared.scope.Scope.{Scope}
use Rattle.verilog_sim.specs.Flattened.{IsJoined, place_of}
use Rattle.verilog_sim.proofs.ByPath.{cut_family, cut_contents, no_family, no_contents, within_part, with_part, families_before, contents_before}
use Rattle.verilog_sim.specs.Start.{filled_part, filled}
use Rattle.verilog_sim.proofs.Cutting.{Sits, Ranged, cut_at, fits_cut}
use Rattle.verilog_sim.proofs.CutEdges.{edge_cut, filled_cut}
use Rattle.verilog_sim.proofs.Sitting.{assign_made, get_left, get_right, to_map, none, sits_inner, sits_outer}

-- numbers of a module and of its instances are in range
pub record Standing (d : Design) (m : Module) : Type 0 where
  pub ranged : Ranged m
  pub nets : (k : ℕ) (i : Instance) (j o : ℕ) → slice_get m.instances k ≡ Some i → slice_get i.nets j ≡ Some o → o < length m.nets
  pub sizes : (k : ℕ) (i : Instance) (inner : Module) → slice_get m.instances k ≡ Some i → slice_get d.modules i.«module» ≡ Some inner → length i.nets ≡ length inner.ports

module _ (d : Design) (b c last : ℕ) (inner n : Module) (s : Sits b c inner n)
    (st : Standing d inner) (inst : (k : ℕ)
    → slice_get n.instances (last + k) ≡ option_map (relocated_instance b)
    (slice_get inner.instances k)) where
  same_module : (o : Option Instance)
      → option_and_then (λ (i : Instance). slice_get d.modules i.«module»)
      (option_map (relocated_instance b) o) ≡ option_and_then
      (λ (i : Instance). slice_get d.modules i.«module») o
  same_module None = refl
  same_module (Some i) = refl

  pub module_within : (k : ℕ) (p : Path) → module_at d n ((last + k) ∷ p) ≡ module_at d inner (k ∷ p)
  module_within k p =
      ap (option_and_then (λ (x : Module). module_at d x p)) (ap (option_and_then (λ (i : Instance). slice_get d.modules i.«module»)) (inst k) ∙ same_module (slice_get inner.instances k))

  pub fits_within :
      (x : AllContents) (v : Families)
      → FitsFlat d n x v
      → FitsFlat d inner (within_part last (cut_contents b (length inner.nets) c (length inner.mems)) x) (within_part last (cut_family b (length inner.nets)) v)
  fits_within x v f =
      together d inner (within_part last (cut_contents b (length inner.nets) c (length inner.mems)) x) (within_part last (cut_family b (length inner.nets)) v)
      (record { own = fits_cut b c inner n s (x []) (v []) st.ranged h.own; parts = parts })
    where
      h : ByParts d n x v
      h = apart d n x v f

      parts :
          (k : ℕ) (i : Instance) (y : Module)
          → slice_get inner.instances k ≡ Some i
          → slice_get d.modules i.«module» ≡ Some y
          → Joined (cut_family b (length inner.nets) (v [])) (v ((last + k) ∷ [])) y.ports i.nets × FitsFlat d y (below (last + k) x) (below (last + k) v)
      parts k i y at is =
          let g = h.parts (last + k) (relocated_instance b i) y (inst k ∙ ap (option_map (relocated_instance b)) at) is in (
            joined_of (cut_family b (length inner.nets) (v [])) (v ((last + k) ∷ [])) y.ports i.nets (st.sizes k i y at is)
                (λ j p o e f. joined_at (v []) (v ((last + k)
                ∷ [])) y.ports (map (λ t. b + t) i.nets) j p (b + o) g.0 e
                (to_map (λ t. b + t) i.nets j o f) ∙ sym
                (cut_at b (length inner.nets) (v []) o (st.nets k i j o at f))),
            g.1,
          )

  pub after_within :
      (x : AllContents) (v : Families) (p : Path)
      → within_part last (cut_contents b (length inner.nets) c (length inner.mems)) (after_flat d n x v) p
      ≡ after_flat d inner (within_part last (cut_contents b (length inner.nets) c (length inner.mems)) x) (within_part last (cut_family b (length inner.nets)) v) p
  after_within x v [] = edge_cut b c inner n s (v []) st.ranged (x [])
  after_within x v (k ∷ p) = ap (λ o. after_part o (x ((last + k) ∷ p)) (v ((last + k) ∷ p))) (module_within k p)

  pub filled_within : (fill : ℕ) (p : Path) → within_part last (cut_contents b (length inner.nets) c (length inner.mems)) (filled d n fill) p ≡ filled d inner fill p
  filled_within fill [] = filled_cut b c inner n s fill
  filled_within fill (k ∷ p) = ap (λ o. filled_part o fill) (module_within k p)

-- the path of an instance before, of and after the last one
module _ {A : Type 0} (last : ℕ) (no : A) (f g : A → A) (x : Path → A) where
  pub with_other : (k : ℕ) (p : Path) → k < last → with_part last no f g x (k ∷ p) ≡ x (k ∷ p)
  with_other k p lt = ap (λ t. cond t (x (k ∷ p)) (cond (eqb k last) (within_part last g x p) no)) (lt-ltb k last lt)

  pub with_last : (p : Path) → with_part last no f g x (last ∷ p) ≡ within_part last g x p
  with_last p =
      ap (λ t. cond t (x (last ∷ p)) (cond (eqb last last) (within_part last g x p) no)) (le-ltb last last (omega arith))
      ∙ ap (λ t. cond t (within_part last g x p) no) (eq-eqb last last refl)

  pub with_past : (k : ℕ) (p : Path) → last < k → with_part last no f g x (k ∷ p) ≡ no
  with_past k p lt =
      ap (λ t. cond t (x (k ∷ p)) (cond (eqb k last) (within_part last g x p) no)) (le-ltb k last (omega arith))
      ∙ ap (λ t. cond t (within_part last g x p) no) (ne_eqb k last (λ e. absurd (omega arith)))

-- an instance is the last one, or comes before it or after it
pub data Order (k last : ℕ) : Type 0 where
  earlier : k < last → Order k last
  same : k ≡ last → Order k last
  later : last < k → Order k last

pub order_of : (k last : ℕ) → Order k last
order_of k last = ⊎_elim earlier (λ ge. ⊎_elim same (λ ne. later (omega (arith, ge, ne))) (cases_eq k last)) (cases_lt k last)

pub join_at : (b : ℕ) (ps : List Port) (ns : List ℕ) (j : ℕ) (p : Port) (o : ℕ) → slice_get ps j ≡ Some p → slice_get ns j ≡ Some o → slice_get (joins_of b ps ns) j ≡ Some (join_of b p o)
join_at b [] ns j p o e f = absurd (cc)
join_at b (q ∷ ps) [] j p o e f = absurd (cc)
join_at b (q ∷ ps) (i ∷ ns) zero p o e f = let a : q ≡ p = cc in let c : i ≡ o = cc in ap (λ y. Some (join_of b y i)) a ∙ ap (λ y. Some (join_of b p y)) c
join_at b (q ∷ ps) (i ∷ ns) (suc j) p o e f = join_at b ps ns j p o e f

abbrev Says : Module → Contents → Family → Assign → Type 0
Says n x v a = v a.target ≡ value n x v (width_of n a.target) a.expr

-- instance k of m is joined, and fits
abbrev PartFits : Design → Module → List Instance → Module → AllContents → Families → ℕ → Instance → Module → Type 0
PartFits d m rest inner x v k i y =
    Joined (cut_family 0 (length m.nets) (v [])) (families_before (place_of (length rest) m inner) v (k ∷ [])) y.ports i.nets
    × FitsFlat d y (below k (contents_before (place_of (length rest) m inner) x)) (below k (families_before (place_of (length rest) m inner) v))

module _ {d : Design} {m n : Module} {s : Scope} (j : IsJoined d m s n) where
  pub inst_inner : (k : ℕ) → slice_get n.instances (length j.rest + k) ≡ option_map (relocated_instance (length m.nets)) (slice_get j.inner.instances k)
  inst_inner k =
      ap (λ (l : List Instance). slice_get l (length j.rest + k)) j.instances
      ∙ get_right j.rest (map (relocated_instance (length m.nets)) j.inner.instances) k
      ∙ slice_get-map (relocated_instance (length m.nets)) j.inner.instances k

  pub inst_other : (k : ℕ) → k < length j.rest → slice_get n.instances k ≡ slice_get m.instances k
  inst_other k lt =
      ap (λ (l : List Instance). slice_get l k) j.instances
      ∙ get_left j.rest (map (relocated_instance (length m.nets)) j.inner.instances) k lt
      ∙ sym (get_left j.rest (j.part ∷ []) k lt)
      ∙ sym (ap (λ (l : List Instance). slice_get l k) j.was)

  pub inst_last : slice_get m.instances (length j.rest) ≡ Some j.part
  inst_last =
      let e : length j.rest + 0 ≡ length j.rest = omega arith in
      ap (λ (l : List Instance). slice_get l (length j.rest)) j.was ∙ ap (slice_get (j.rest ++ j.part ∷ [])) (sym e) ∙ get_right j.rest (j.part ∷ []) 0

  pub inst_past : (k : ℕ) → length j.rest < k → slice_get m.instances k ≡ None
  inst_past k lt = slice_get_past m.instances k (omega (arith, ap length j.was, length-append j.rest (j.part ∷ []), lt))

  -- a port of the part and the net that it is joined to
  pub joined_value : (x : Contents) (v : Family) → Fits n x v → (i : ℕ) (p : Port) (o : ℕ) → slice_get j.inner.ports i ≡ Some p → slice_get j.part.nets i ≡ Some o → v (length m.nets + p.net) ≡ v o
  joined_value x v f i p o e g =
      by_output p.output (assigned_at n x v n.assigns (length own + i)
      (join_of (length m.nets) p o) f.assigned (ap (λ (l : List Assign). slice_get l
      (length own + i)) j.assigns ∙ get_right own (joins_of
      (length m.nets) j.inner.ports j.part.nets) i ∙ join_at
      (length m.nets) j.inner.ports j.part.nets i p o e g))
    where
      own : List Assign
      own = m.assigns ++ map (relocated_assign (length m.nets) (length m.mems)) j.inner.assigns

      by_output : (t : Bool) → Says n x v (cond t (assign_made o (Plain (length m.nets + p.net))) (assign_made (length m.nets + p.net) (Plain o))) → v (length m.nets + p.net) ≡ v o
      by_output true h = sym h
      by_output false h = h

-- what a module with one more part says of the module with the instance
module _ {d : Design} {m n : Module} {s : Scope} (j : IsJoined d m s n) (a : Standing d m)
    (b : Standing d j.inner) (ports : (i : ℕ) (p : Port) → slice_get j.inner.ports i ≡ Some p
    → p.net < length j.inner.nets) where
  sits : Sits (length m.nets) (length m.mems) j.inner n
  sits = sits_inner j a.ranged

  outer_at : (v : Family) (o : ℕ) → o < length m.nets → v o ≡ cut_family 0 (length m.nets) v o
  outer_at v o lt = sym (cut_at 0 (length m.nets) v o lt ∙ ap v (none o))

  fits_at : (x : AllContents) (v : Families) → FitsFlat d n x v → FitsFlat d m (contents_before (place_of (length j.rest) m j.inner) x) (families_before (place_of (length j.rest) m j.inner) v)
  fits_at x v f =
      together d m (contents_before (place_of (length j.rest) m j.inner) x) (families_before (place_of (length j.rest) m j.inner) v)
      (record { own = fits_cut 0 0 m n (sits_outer j) (x []) (v []) a.ranged h.own; parts = λ k i y is in'. by_order k i y is in' (order_of k (length j.rest)) })
    where
      h : ByParts d n x v
      h = apart d n x v f

      other :
          (k : ℕ) (i : Instance) (y : Module)
          → slice_get m.instances k ≡ Some i
          → slice_get d.modules i.«module» ≡ Some y
          → k < length j.rest
          → PartFits d m j.rest j.inner x v k i y
      other k i y is in' lt =
          let g = h.parts k i y (inst_other j k lt ∙ is) in' in
          let w = with_other {A = Family} (length j.rest) no_family (cut_family 0 (length m.nets)) (cut_family (length m.nets) (length j.inner.nets)) v k in
          let z = with_other {A = Contents} (length j.rest) no_contents
          (cut_contents 0 (length m.nets) 0 (length m.mems))
          (cut_contents (length m.nets) (length j.inner.nets) (length m.mems)
          (length j.inner.mems)) x k in (
            joined_of (cut_family 0 (length m.nets) (v [])) (families_before (place_of (length j.rest) m j.inner) v (k ∷ [])) y.ports i.nets (a.sizes k i y is in')
                (λ q p o e f. ap (λ (u : Family). u p.net) (w [] lt) ∙ joined_at (v []) (v (k ∷ [])) y.ports i.nets q p o g.0 e f ∙ outer_at (v []) o (a.nets k i q o is f)),
            subst (λ (u : Families). FitsFlat d y (below k (contents_before (place_of (length j.rest) m j.inner) x)) u) (sym (fun_ext (λ p. w p lt)))
                (subst (λ (u : AllContents). FitsFlat d y u (below k v)) (sym (fun_ext (λ p. z p lt))) g.1),
          )

      last : PartFits d m j.rest j.inner x v (length j.rest) j.part j.inner
      last =
          let w = with_last {A = Family} (length j.rest) no_family (cut_family 0 (length m.nets)) (cut_family (length m.nets) (length j.inner.nets)) v in
          let z = with_last {A = Contents} (length j.rest) no_contents
          (cut_contents 0 (length m.nets) 0 (length m.mems))
          (cut_contents (length m.nets) (length j.inner.nets) (length m.mems)
          (length j.inner.mems)) x in (
            joined_of (cut_family 0 (length m.nets) (v []))
                (families_before (place_of (length j.rest) m j.inner) v (length j.rest
                ∷ [])) j.inner.ports j.part.nets (a.sizes (length j.rest) j.part j.inner
                (inst_last j) j.is)
                (λ q p o e f. ap (λ (u : Family). u p.net) (w []) ∙ cut_at (length m.nets)
                (length j.inner.nets) (v []) p.net (ports q p e) ∙ joined_value j (x [])
                (v []) h.own q p o e f ∙ outer_at (v []) o
                (a.nets (length j.rest) j.part q o (inst_last j) f)),
            subst (λ (u : Families). FitsFlat d j.inner (below (length j.rest) (contents_before (place_of (length j.rest) m j.inner) x)) u) (sym (fun_ext w))
                (subst (λ (u : AllContents). FitsFlat d j.inner u (within_part (length j.rest) (cut_family (length m.nets) (length j.inner.nets)) v)) (sym (fun_ext z))
                (fits_within d (length m.nets) (length m.mems) (length j.rest) j.inner n sits b (inst_inner j) x v f)),
          )

      by_order :
          (k : ℕ) (i : Instance) (y : Module)
          → slice_get m.instances k ≡ Some i
          → slice_get d.modules i.«module» ≡ Some y
          → Order k (length j.rest)
          → PartFits d m j.rest j.inner x v k i y
      by_order k i y is in' (earlier lt) = other k i y is in' lt
      by_order k i y is in' (later lt) = absurd (let e = inst_past j k lt in cc)
      by_order k i y is in' (same e) =
          let f : j.part ≡ i = (let l = inst_last j in let l' : slice_get m.instances (length j.rest) ≡ Some i = ap (slice_get m.instances) (sym e) ∙ is in cc) in
          let g : j.inner ≡ y = (let l = j.is in let l' : slice_get d.modules j.part.«module» ≡ Some y = ap (λ (t : Instance). slice_get d.modules t.«module») f ∙ in' in cc) in
          subst (λ (t : ℕ). PartFits d m j.rest j.inner x v t i y) (sym e)
          (subst (λ (t : Instance). PartFits d m j.rest j.inner x v (length j.rest) t y) f
          (subst (λ (t : Module). PartFits d m j.rest j.inner x v (length j.rest) j.part t) g last))

  pub fits_before : (x : AllContents) (v : Families) → FitsFlat d n x v → FitsFlat d m (contents_before s x) (families_before s v)
  fits_before x v f = subst (λ (t : Scope). FitsFlat d m (contents_before t x) (families_before t v)) (sym j.place) (fits_at x v f)

  abbrev before_x : AllContents → AllContents
  before_x = contents_before (place_of (length j.rest) m j.inner)

  abbrev before_v : Families → Families
  before_v = families_before (place_of (length j.rest) m j.inner)

  abbrev inner_x : AllContents → AllContents
  inner_x = within_part (length j.rest) (cut_contents (length m.nets) (length j.inner.nets) (length m.mems) (length j.inner.mems))

  abbrev inner_v : Families → Families
  inner_v = within_part (length j.rest) (cut_family (length m.nets) (length j.inner.nets))

  x_other : (x : AllContents) (k : ℕ) (p : Path) → k < length j.rest → before_x x (k ∷ p) ≡ x (k ∷ p)
  x_other x = with_other (length j.rest) no_contents (cut_contents 0 (length m.nets) 0 (length m.mems)) (cut_contents (length m.nets) (length j.inner.nets) (length m.mems) (length j.inner.mems)) x

  x_last : (x : AllContents) (p : Path) → before_x x (length j.rest ∷ p) ≡ inner_x x p
  x_last x = with_last (length j.rest) no_contents (cut_contents 0 (length m.nets) 0 (length m.mems)) (cut_contents (length m.nets) (length j.inner.nets) (length m.mems) (length j.inner.mems)) x

  x_past : (x : AllContents) (k : ℕ) (p : Path) → length j.rest < k → before_x x (k ∷ p) ≡ no_contents
  x_past x = with_past (length j.rest) no_contents (cut_contents 0 (length m.nets) 0 (length m.mems)) (cut_contents (length m.nets) (length j.inner.nets) (length m.mems) (length j.inner.mems)) x

  v_other : (v : Families) (k : ℕ) (p : Path) → k < length j.rest → before_v v (k ∷ p) ≡ v (k ∷ p)
  v_other v = with_other (length j.rest) no_family (cut_family 0 (length m.nets)) (cut_family (length m.nets) (length j.inner.nets)) v

  v_last : (v : Families) (p : Path) → before_v v (length j.rest ∷ p) ≡ inner_v v p
  v_last v = with_last (length j.rest) no_family (cut_family 0 (length m.nets)) (cut_family (length m.nets) (length j.inner.nets)) v

  module_other : (k : ℕ) (p : Path) → k < length j.rest → module_at d n (k ∷ p) ≡ module_at d m (k ∷ p)
  module_other k p lt = ap (option_and_then (λ (y : Module). module_at d y p)) (ap (option_and_then (λ (i : Instance). slice_get d.modules i.«module»)) (inst_other j k lt))

  module_last : (p : Path) → module_at d m (length j.rest ∷ p) ≡ module_at d j.inner p
  module_last p = ap (option_and_then (λ (y : Module). module_at d y p)) (ap (option_and_then (λ (i : Instance). slice_get d.modules i.«module»)) (inst_last j) ∙ j.is)

  module_past : (k : ℕ) (p : Path) → length j.rest < k → module_at d m (k ∷ p) ≡ None
  module_past k p lt = ap (λ o. option_and_then (λ (y : Module). module_at d y p) (option_and_then (λ (i : Instance). slice_get d.modules i.«module») o)) (inst_past j k lt)

  after_at : (x : AllContents) (v : Families) (p : Path) → before_x (after_flat d n x v) p ≡ after_flat d m (before_x x) (before_v v) p
  after_at x v [] = edge_cut 0 0 m n (sits_outer j) (v []) a.ranged (x [])
  after_at x v (k ∷ p) = by_order (order_of k (length j.rest))
    where
      last : before_x (after_flat d n x v) (length j.rest ∷ p) ≡ after_flat d m (before_x x) (before_v v) (length j.rest ∷ p)
      last =
          x_last (after_flat d n x v) p
          ∙ after_within d (length m.nets) (length m.mems) (length j.rest) j.inner n sits b (inst_inner j) x v p
          ∙ ap (λ o. after_part o (inner_x x p) (inner_v v p)) (sym (module_last p))
          ∙ ap (λ u. after_part (module_at d m (length j.rest ∷ p)) u (inner_v v p)) (sym (x_last x p))
          ∙ ap (λ u. after_part (module_at d m (length j.rest ∷ p)) (before_x x (length j.rest ∷ p)) u) (sym (v_last v p))

      by_order : Order k (length j.rest) → before_x (after_flat d n x v) (k ∷ p) ≡ after_flat d m (before_x x) (before_v v) (k ∷ p)
      by_order (earlier lt) =
          x_other (after_flat d n x v) k p lt
          ∙ ap (λ o. after_part o (x (k ∷ p)) (v (k ∷ p))) (module_other k p lt)
          ∙ ap (λ u. after_part (module_at d m (k ∷ p)) u (v (k ∷ p))) (sym (x_other x k p lt))
          ∙ ap (λ u. after_part (module_at d m (k ∷ p)) (before_x x (k ∷ p)) u) (sym (v_other v k p lt))
      by_order (later lt) =
          x_past (after_flat d n x v) k p lt
          ∙ sym (x_past x k p lt)
          ∙ ap (λ o. after_part o (before_x x (k ∷ p)) (before_v v (k ∷ p))) (sym (module_past k p lt))
      by_order (same e) = subst (λ (t : ℕ). before_x (after_flat d n x v) (t ∷ p) ≡ after_flat d m (before_x x) (before_v v) (t ∷ p)) (sym e) last

  pub after_before : (x : AllContents) (v : Families) → contents_before s (after_flat d n x v) ≡ after_flat d m (contents_before s x) (families_before s v)
  after_before x v = subst (λ (t : Scope). contents_before t (after_flat d n x v) ≡ after_flat d m (contents_before t x) (families_before t v)) (sym j.place) (fun_ext (after_at x v))

  filled_at : (fill : ℕ) (p : Path) → before_x (filled d n fill) p ≡ filled d m fill p
  filled_at fill [] = filled_cut 0 0 m n (sits_outer j) fill
  filled_at fill (k ∷ p) = by_order (order_of k (length j.rest))
    where
      last : before_x (filled d n fill) (length j.rest ∷ p) ≡ filled d m fill (length j.rest ∷ p)
      last =
          x_last (filled d n fill) p
          ∙ filled_within d (length m.nets) (length m.mems) (length j.rest) j.inner n sits b (inst_inner j) fill p
          ∙ ap (λ o. filled_part o fill) (sym (module_last p))

      by_order : Order k (length j.rest) → before_x (filled d n fill) (k ∷ p) ≡ filled d m fill (k ∷ p)
      by_order (earlier lt) = x_other (filled d n fill) k p lt ∙ ap (λ o. filled_part o fill) (module_other k p lt)
      by_order (later lt) = x_past (filled d n fill) k p lt ∙ ap (λ o. filled_part o fill) (sym (module_past k p lt))
      by_order (same e) = subst (λ (t : ℕ). before_x (filled d n fill) (t ∷ p) ≡ filled d m fill (t ∷ p)) (sym e) last

  pub filled_before : (fill : ℕ) → contents_before s (filled d n fill) ≡ filled d m fill
  filled_before fill = subst (λ (t : Scope). contents_before t (filled d n fill) ≡ filled d m fill) (sym j.place) (fun_ext (filled_at fill))
