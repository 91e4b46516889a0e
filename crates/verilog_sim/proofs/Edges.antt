-- What a call does, in the words of the meaning of a design.
use Rattle.std.proofs.Common.{◌≡◌, ◌⊎◌, inl, inr, ℕ, zero, suc, eqb, Vec, Global, ◌+◌, ◌*◌, ◌^◌}
use Rattle.std.proofs.Common.{◌<◌, ◌≤◌, ◌&&◌, Bool, true, false, List, [], ◌∷◌, ◌++◌, length, map, set}
use Rattle.std.proofs.Common.{get_or, Some, refl, sym, ap, ◌∙◌, subst, ⊎_elim, arith}
use Rattle.std.proofs.Common.{get_or-set_other, get_or-set_same}
use Rattle.std.specs.Prelude.{slice_get}
use Rattle.std.specs.Vec.{with_items}
use mathlib.Core.Path.{fun_ext}
use Rattle.std.proofs.lemmas.Bool.{cases_eq, cases_lt}
use Rattle.std.proofs.lemmas.Nat.{pow_pos}
use Rattle.std.proofs.lemmas.Option.{slice_get-get_or, slice_get_within}
use Rattle.std.proofs.lemmas.List.{length-set, length-map, get_or-map, get_or_past, with_items_is}
use Rattle.rtl_ir.specs.declared.design.Design.{Design}
use Rattle.rtl_ir.specs.declared.design.Module.{Module}
use Rattle.rtl_ir.specs.declared.design.Port.{Port}
use Rattle.rtl_ir.specs.declared.design.Update.{Update}
use Rattle.rtl_ir.specs.declared.interface.Interface.{Interface}
use Rattle.rtl_ir.specs.declared.interface.KernelPorts.{KernelPorts}
use Rattle.rtl_ir.specs.declared.interface.StreamPorts.{StreamPorts}
use Rattle.rtl_ir.specs.Edge.{Fits, after_edge}
use Rattle.rtl_ir.specs.Flat.{AllContents, Families, FitsFlat, top_of, after_flat}
use Rattle.rtl_ir.specs.Interfaces.{nets_of, shape_of, scalar_shape, stream_shape, stream_channel}
use Rattle.rtl_ir.specs.Ports.{first_input, first_output, done_port, port_net, port_view, net_at, outer_of}
use Rattle.rtl_ir.specs.Run.{Channel, Outer}
use Rattle.rtl_ir.specs.Value.{Family, Contents, width_of}
use Rattle.verilog_sim.specs.declared.offer.Offer.{Offer}
use Rattle.verilog_sim.specs.declared.offer.Event.{Event}
use Rattle.verilog_sim.specs.declared.compile.Program.{Program}
use Rattle.verilog_sim.specs.declared.scope.Scope.{Scope}
use Rattle.verilog_sim.specs.Contents.{family_of, contents_of}
use Rattle.verilog_sim.proofs.ByPath.{families_of, contents_by_path}
use Rattle.verilog_sim.specs.PartLists.{parts_of, values_of}
use Rattle.verilog_sim.specs.State.{State, contents, values_at, last_family}
use Rattle.verilog_sim.specs.Gifts.{Every, gifts, AreGiven, AreNetsOf}
use Rattle.verilog_sim.specs.Feeding.{IsSeen}
use Rattle.verilog_sim.specs.Feeding.IsSeen.{as_origin, at_port as seen_at_port}
use Rattle.verilog_sim.specs.Origins.{at_origins, with_lists, AreOrigins}
use Rattle.verilog_sim.specs.Updates.{held_by}
use Rattle.verilog_sim.specs.Calls.{nothing, Settled, SettledAlone, event_of, IsEdge, IsResetEdge, IsDone}
use Rattle.verilog_sim.specs.Simulates.{AreOffered, IsReady, Simulates, AreKept, AreValues, IsEvaluated, IsStepped}
use Rattle.verilog_sim.proofs.PartLists.{parts_say, values_say}
use Rattle.verilog_sim.proofs.Shapes.{channel_at, length_shape}
use Rattle.verilog_sim.proofs.Outer.{SaysSame}
use Rattle.verilog_sim.proofs.Facing.{gifts_rise, input_net, output_net}
use Rattle.verilog_sim.proofs.Rising.{rising_within}
use Rattle.verilog_sim.proofs.Told.{Told, given_told}
use Rattle.verilog_sim.proofs.Whole.{whole_fits, whole_after, whole_own}
use Rattle.verilog_sim.proofs.Fronts.{outer_same_ports, ports_flat, net_in, steady_flat, offered_flat}

-- what a contract sees of a simulator
abbrev pub state : Design → Interface → List Scope → List ℕ → List ℕ → List ℕ → List (List ℕ) → List ℕ → State
state d i ps os steady held memories values = record {
  design = d;
  outer = nets_of i;
  steady = steady;
  parts = parts_of (top_of d) ps held memories;
  last = values_of (top_of d) ps (at_origins os values);
}

-- a slice that was written is that of its vector
pub back : {X : Type 0} (v : Vec X Global) (new old : List X) → length new ≡ length old → old ≡ v.items → (with_items v new).items ≡ new
back v new old e same = with_items_is v new (omega (arith, e, ap length same, v.ok))

pub stepped_back :
    (m : Module) (os : List ℕ) (c : Interface) (reset : Bool) (steady steady' : List ℕ) (offers : List Offer)
    (accepts holds : List Bool) (held held0 : List ℕ) (memories memories0 : List (List ℕ))
    (new held' held1 : List ℕ) (memories' memories1 : List (List ℕ))
    → IsStepped m os c reset steady offers accepts holds held memories new held' memories' → steady ≡ steady'
    → held ≡ held0 → memories ≡ memories0 → held' ≡ held1 → memories' ≡ memories1
    → IsStepped m os c reset steady' offers accepts holds held0 memories0 new held1 memories1
stepped_back m os c reset steady steady' offers accepts holds held held0 memories memories0 new held' held1 memories' memories1 s a b e f g =
    subst (λ (l : List (List ℕ)). IsStepped m os c reset steady' offers accepts holds held0 memories0 new held1 l) g
    (subst (λ (l : List ℕ). IsStepped m os c reset steady' offers accepts holds held0 memories0 new l memories') f
    (subst (λ (l : List (List ℕ)). IsStepped m os c reset steady' offers accepts holds held0 l new held' memories') e
    (subst (λ (l : List ℕ). IsStepped m os c reset steady' offers accepts holds l memories new held' memories') b
    (subst (λ (l : List ℕ). IsStepped m os c reset l offers accepts holds held memories new held' memories') a s))))

abbrev event_made : Bool → ℕ → Event
event_made moved word = record { moved = moved; word = word }

-- values that agree at the ports tell the same of a stream
event_at_ports :
    (new values : Family) (m : Module) (k : ℕ)
    → ((j : ℕ) → j < length m.ports → new (net_at m j) ≡ values (net_at m j))
    → k + 2 < length m.ports → event_of new (channel_at m k) ≡ event_of values (channel_at m k)
event_at_ports new values m k same lt =
    ap (λ x. event_made (eqb x 1 && eqb (new (net_at m (k + 2))) 1) (new (net_at m k))) (same (k + 1) (omega (arith, lt)))
    ∙ ap (λ x. event_made (eqb (values (net_at m (k + 1))) 1 && eqb x 1) (new (net_at m k))) (same (k + 2) lt)
    ∙ ap (λ x. event_made (eqb (values (net_at m (k + 1))) 1 && eqb (values (net_at m (k + 2))) 1) x) (same k (omega (arith, lt)))

-- a stream among the inputs and the outputs
in_streams : (xs ys : List StreamPorts) (k : ℕ) (x : StreamPorts) → slice_get (xs ++ ys) k ≡ Some x
    → ((j : ℕ) × (slice_get xs j ≡ Some x)) ⊎ ((j : ℕ) × (slice_get ys j ≡ Some x))
in_streams [] ys k x e = inr (k, e)
in_streams (z ∷ zs) ys zero x e = inl (zero, e)
in_streams (z ∷ zs) ys (suc k) x e = ⊎_elim (λ f. inl (suc f.0, f.1)) (λ f. inr f) (in_streams zs ys k x e)

all_told :
    (v : Family) (xs : List StreamPorts) (events : List Event) → length events ≡ length xs
    → ((k : ℕ) (x : StreamPorts) (e : Event) → slice_get xs k ≡ Some x → slice_get events k ≡ Some e → e ≡ event_of v (stream_channel x))
    → events ≡ map (λ (x : StreamPorts). event_of v (stream_channel x)) xs
all_told v [] [] size told = refl
all_told v [] (e ∷ es) size told = absurd (omega arith)
all_told v (x ∷ xs) [] size told = absurd (omega arith)
all_told v (x ∷ xs) (e ∷ es) size told = ap (λ (y : Event). y ∷ es) (told 0 x e refl refl)
    ∙ ap (λ (l : List Event). event_of v (stream_channel x) ∷ l)
    (all_told v xs es (omega (arith, size)) (λ k y d at is. told (suc k) y d at is))

map_twice : {A B C : Type 0} (f : B → C) (g : A → B) (xs : List A) → map (λ x. f (g x)) xs ≡ map f (map g xs)
map_twice f g [] = refl
map_twice f g (x ∷ xs) = ap (λ l. f (g x) ∷ l) (map_twice f g xs)

map_both : {A B C : Type 0} (f : B → C) (g : A → B) (xs ys : List A) → map (λ x. f (g x)) (xs ++ ys) ≡ map f (map g xs ++ map g ys)
map_both f g [] ys = map_twice f g ys
map_both f g (x ∷ xs) ys = ap (λ l. f (g x) ∷ l) (map_both f g xs ys)

length_both : (xs ys : List StreamPorts) → length (xs ++ ys) ≡ length xs + length ys
length_both [] ys = let e : length ys ≡ 0 + length ys = omega arith in e
length_both (x ∷ xs) ys = let r = length_both xs ys in let e : suc (length (xs ++ ys)) ≡ suc (length xs) + length ys = omega (arith, r) in e

every_both : {A : Type 0} {P Q R : A → Type 0} → ((x : A) → P x → Q x → R x) → (xs : List A) → Every P xs → Every Q xs → Every R xs
every_both f [] p q = tt
every_both f (x ∷ xs) p q = (f x p.0 q.0, every_both f xs p.1 q.1)

same_said : (offers : List Offer) (accepts holds : List Bool) → SaysSame offers offers accepts accepts holds holds
same_said offers accepts holds = record { offers_same = λ k. refl; accepts_same = λ k. refl; holds_same = λ k. refl }

all_nothing : {A B : Type 0} (xs : List A) (b : B) (k : ℕ) → get_or (map (λ (x : A). b) xs) k b ≡ b
all_nothing [] b k = refl
all_nothing (x ∷ xs) b zero = refl
all_nothing (x ∷ xs) b (suc k) = all_nothing xs b k

none_said : (o : Outer) → SaysSame [] (map (λ (x : Channel). nothing) o.inputs) [] (map (λ (x : Channel). false) o.outputs) [] (map (λ (n : ℕ). false) o.holds)
none_said o = record {
  offers_same = λ k. sym (all_nothing o.inputs nothing k);
  accepts_same = λ k. sym
      (all_nothing o.outputs false k);
  holds_same = λ k. sym (all_nothing o.holds false k);
}

pub kept_back :
    (m : Module) (c : Interface) (steady steady' held held' values : List ℕ) (memories memories' : List (List ℕ))
    → AreKept m c steady held values memories → steady ≡ steady' → held ≡ held'
    → memories ≡ memories' → AreKept m c steady' held' values memories'
kept_back m c steady steady' held held' values memories memories' k a b e =
    subst (λ (l : List (List ℕ)). AreKept m c steady' held' values l) e
    (subst (λ (l : List ℕ). AreKept m c steady' l values memories) b
    (subst (λ (l : List ℕ). AreKept m c l held values memories) a k))

-- nothing is offered
pub none_offered : (m : Module) (o : Outer) → AreOffered m o []
none_offered m o = λ k c at. pow_pos (width_of m c.word)

module _ {d : Design} {c : Interface} {pr : Program} {us : List Update} {ps : List Scope} {os steady ahead values : List ℕ}
    {memories : List (List ℕ)} (s : Simulates d c pr us ps os steady ahead values memories) where
  -- what registers hold
  abbrev pub held : List ℕ
  held = held_by us ahead

  -- what a contract sees
  abbrev pub now : State
  now = state d c ps os steady held memories values

  -- the module that is run in place of the flat one
  abbrev pub run : Module
  run = with_lists s.flat s.assigns us

  -- what the one says the other says
  evaluated_flat :
      (reset : Bool) (steady' : List ℕ) (offers : List Offer) (accepts holds : List Bool) (held' : List ℕ) (memories' : List (List ℕ)) (new : List ℕ)
      → IsEvaluated run c reset steady' offers accepts holds held' memories' new → IsEvaluated s.flat c reset steady' offers accepts holds held' memories' new
  evaluated_flat reset steady' offers accepts holds held' memories' new e =
      record {
        words = record { nets = e.words.nets; words = e.words.words; depths = e.words.depths; cells = e.words.cells };
        fits = s.stand.fits (contents_of held' memories') (family_of new) e.fits;
        given = e.given;
      }

  -- the values at origins are those of all nets
  whole_family :
      (contents' : Contents) (new whole : List ℕ) → Fits run contents' (family_of whole) → length whole ≡ length s.flat.nets
      → ((n : ℕ) → IsSeen run os n → get_or new n 0 ≡ get_or whole n 0) → family_of (at_origins os new) ≡ family_of whole
  whole_family contents' new whole fits size seen = fun_ext (λ n. ⊎_elim (within n) (past n) (cases_lt n (length os)))
    where
      o : AreOrigins s.flat os s.assigns us
      o = s.stand.origins

      within : (n : ℕ) → n < length os → get_or (at_origins os new) n 0 ≡ get_or whole n 0
      within n lt =
          let less : n < length s.flat.nets = omega (arith, lt, o.size) in
          let there : get_or os n 0 < length os = omega (arith, o.inside n less, o.size) in
          get_or-map (λ k. get_or new k 0) os n 0 0 lt
          ∙ seen (get_or os n 0) (as_origin (get_or os n 0) there (o.own n less))
          ∙ o.same contents' (family_of whole) n fits less

      past : (n : ℕ) → length os ≤ n → get_or (at_origins os new) n 0 ≡ get_or whole n 0
      past n ge =
          get_or_past (at_origins os new) n 0 (omega (arith, ge, length-map os (λ k. get_or new k 0)))
          ∙ sym (get_or_past whole n 0 (omega (arith, ge, size, o.size)))

  -- the values of an edge are those of the last edge after it
  last_is :
      (reset : Bool) (offers : List Offer) (accepts holds : List Bool) (new later : List ℕ) (memories' : List (List ℕ))
      → (e : IsStepped run os c reset steady offers accepts holds held memories new later memories')
      → families_of s.is_flat.top ps (family_of e.values) ≡ last_family (state d c ps os steady later memories' new)
  last_is reset offers accepts holds new later memories' e =
      ap (families_of s.is_flat.top ps)
      (sym (whole_family (contents_of held memories) new e.values e.evaluated.fits e.evaluated.words.nets e.seen))
      ∙ sym (values_say s.is_flat.top ps (at_origins os new))
      ∙ ap (λ o. λ p. values_at (values_of o ps (at_origins os new)) p) (sym s.is_flat.is_top)

  pub top_is : (m : Module) → top_of d ≡ Some m → s.is_flat.top ≡ m
  top_is m e = let f = s.is_flat.is_top in cc

  -- the nets of the outer ports are the same in the flat module
  nets_flat : outer_of (shape_of c) s.flat ≡ nets_of c
  nets_flat = outer_same_ports s.is_flat.top s.flat (shape_of c) (ports_flat d s.accepted s.is_flat) ∙ sym s.has.nets

  pub ready_at :
      (us' : List Update) (steady' : List ℕ) (memories' : List (List ℕ)) (offers : List Offer)
      → us' ≡ us → steady' ≡ steady → memories' ≡ memories
      → ((m : Module) → top_of d ≡ Some m → AreOffered m (nets_of c) offers)
      → IsReady run us' c steady' offers (held_by us' ahead) ahead memories'
  ready_at us' steady' memories' offers ue se me o =
      let o' : AreOffered s.is_flat.top (outer_of (shape_of c) s.is_flat.top) offers = subst
      (λ (u : Outer). AreOffered s.is_flat.top u offers) s.has.nets (o s.is_flat.top s.is_flat.is_top) in
      record {
        simulable = s.simulable;
        updates_are = ue;
        kept = kept_back run c steady steady' held (held_by us' ahead) ahead memories memories' s.kept (sym se)
            (ap (λ (l : List Update). held_by l ahead) (sym ue)) (sym me);
        offered = subst (λ (u : Outer). AreOffered run u offers) nets_flat (offered_flat d s.accepted s.is_flat (shape_of c) offers o');
      }

  -- the values of the last edge, where memories are seen as a slice
  pub last_at : (memories' : List (List ℕ)) → memories' ≡ memories → AreValues run values memories'
  last_at memories' e = subst (λ (l : List (List ℕ)). AreValues run values l) (sym e) s.last

  -- the same simulator with other words
  pub kept_on : (steady' ahead' values' : List ℕ) (memories' : List (List ℕ))
      → AreKept run c steady' (held_by us ahead') ahead' memories' → AreValues run values' memories'
      → Simulates d c pr us ps os steady' ahead' values' memories'
  kept_on steady' ahead' values' memories' k l =
      record {
        accepted = s.accepted;
        flat = s.flat;
        is_flat = s.is_flat;
        assigns = s.assigns;
        stand = s.stand;
        simulable = s.simulable;
        program = s.program;
        has = s.has;
        kept = k;
        last = l;
      }

  -- the same after an edge, of which the words of memories were those of a slice
  pub stepped_on : (us' : List Update) (steady' ahead' values' : List ℕ) (memories' memories0 : List (List ℕ))
      → us' ≡ us → steady' ≡ steady → memories' ≡ memories0
      → AreKept run c steady' (held_by us' ahead') ahead' memories' → AreValues run values' memories'
      → Simulates d c pr us ps os steady ahead' values' memories0
  stepped_on us' steady' ahead' values' memories' memories0 ue se me k v =
      kept_on steady ahead' values' memories0
      (kept_back run c steady' steady (held_by us' ahead') (held_by us ahead') ahead' memories' memories0 k se
      (ap (λ (l : List Update). held_by l ahead') ue) me)
      (subst (λ (l : List (List ℕ)). AreValues run values' l) me v)

  -- words may be set at a port that keeps one value
  pub set_kept : (k x : ℕ) → k < length steady → ((m : Module) → top_of d ≡ Some m
      → x < 2 ^ width_of m (get_or (nets_of c).steady k 0))
      → Simulates d c pr us ps os (set steady k x) ahead values memories
  set_kept k x lt fits =
      kept_on (set steady k x) ahead values memories
      (record {
        blocks = s.kept.blocks;
        words = s.kept.words;
        held_nets = s.kept.held_nets;
        held_words = s.kept.held_words;
        loaded = s.kept.loaded;
        constant = s.kept.constant;
        steady_ports = length-set steady k x ∙ s.kept.steady_ports;
        steady_words = λ j less. ⊎_elim (λ e. here j e) (λ ne. subst
            (λ (y : ℕ). y < 2 ^ width_of run (get_or (nets_of c).steady j 0))
            (sym (get_or-set_other steady k j x 0 ne)) (s.kept.steady_words j
            (omega (arith, less, length-set steady k x)))) (cases_eq j k);
      })
      s.last
    where
      fits_run : x < 2 ^ width_of run (get_or (nets_of c).steady k 0)
      fits_run =
          subst (λ (o : Outer). x < 2 ^ width_of s.flat (get_or o.steady k 0)) nets_flat
          (subst (λ (w : ℕ). x < 2 ^ w) (sym (steady_flat d s.accepted s.is_flat (shape_of c) k))
          (subst (λ (o : Outer). x < 2 ^ width_of s.is_flat.top (get_or o.steady k 0)) s.has.nets (fits s.is_flat.top s.is_flat.is_top)))

      here : (j : ℕ) → j ≡ k → get_or (set steady k x) j 0 < 2 ^ width_of run (get_or (nets_of c).steady j 0)
      here j e =
          subst (λ (i : ℕ). get_or (set steady k x) i 0 < 2 ^ width_of run (get_or (nets_of c).steady i 0)) (sym e)
          (subst (λ (y : ℕ). y < 2 ^ width_of run (get_or (nets_of c).steady k 0)) (sym (get_or-set_same steady k x 0 lt)) fits_run)

  -- the value of a port is that of the flat module
  own_at : (v : Family) (k : ℕ) → v (net_at s.is_flat.top k) ≡ families_of s.is_flat.top ps v [] (net_at s.is_flat.top k)
  own_at v k = sym (whole_own d s.accepted s.is_flat v (net_at s.is_flat.top k) (net_in d s.accepted s.is_flat k))

  held_is : (h v : List ℕ) (ms : List (List ℕ)) → contents (state d c ps os steady h ms v) ≡ contents_by_path (Some s.is_flat.top) ps (contents_of h ms)
  held_is h v ms = parts_say (top_of d) ps h ms ∙ ap (λ o. contents_by_path o ps (contents_of h ms)) s.is_flat.is_top

  -- what is given to the flat module is given to the top one
  given_top :
      (reset : Bool) (offers : List Offer) (accepts holds : List Bool) (new : List ℕ)
      → AreGiven c reset steady offers accepts holds new → Told (families_of s.is_flat.top ps (family_of new) []) (gifts c reset steady offers accepts holds)
  given_top reset offers accepts holds new given =
      every_both (λ g lt e. whole_own d s.accepted s.is_flat (family_of new) g.0 lt ∙ e) (gifts c reset steady offers accepts holds) nets given
    where
      nets : Every (λ (g : ℕ × ℕ). g.0 < length s.is_flat.top.nets) (gifts c reset steady offers accepts holds)
      nets =
          rising_within s.is_flat.top.ports (length s.is_flat.top.nets)
          (λ k p at. (let e : net_at s.is_flat.top k ≡ p.net = ap port_net at in subst
          (λ (n : ℕ). n < length s.is_flat.top.nets) e (net_in d s.accepted s.is_flat k)))
          (gifts_rise s.is_flat.top c s.has reset steady offers accepts holds)

  settled_is :
      (reset : Bool) (offers offers' : List Offer) (accepts accepts' holds holds' : List Bool) (new : List ℕ)
      → length offers' ≡ length (nets_of c).inputs → length accepts' ≡ length (nets_of c).outputs → length holds' ≡ length (nets_of c).holds
      → SaysSame offers offers' accepts accepts' holds holds'
      → IsEvaluated s.flat c reset steady offers accepts holds held memories new
      → Settled s.is_flat.top now reset offers' accepts' holds' (families_of s.is_flat.top ps (family_of new))
  settled_is reset offers offers' accepts accepts' holds holds' new lo la lh same done =
      record {
        fits = subst (λ (u : AllContents). FitsFlat d s.is_flat.top u (families_of s.is_flat.top ps (family_of new)))
            (sym (held_is held values memories)) (whole_fits d s.accepted s.is_flat (contents_of held memories)
            (family_of new) done.fits);
        given = given_told (families_of s.is_flat.top ps (family_of new) []) c reset steady offers offers' accepts
            accepts' holds holds' s.kept.steady_ports (lo ∙ length-map c.inputs stream_channel)
            (la ∙ length-map c.outputs stream_channel)
            (lh ∙ length-map c.kernels (λ (k : KernelPorts). k.hold)) same (given_top reset offers accepts holds new done.given);
      }

  after_state :
      (held' whole values' : List ℕ) (memories' : List (List ℕ))
      → contents_of held' memories' ≡ after_edge s.flat (contents_of held memories) (family_of whole)
      → contents (state d c ps os steady held' memories' values') ≡ after_flat d s.is_flat.top
      (contents now) (families_of s.is_flat.top ps (family_of whole))
  after_state held' whole values' memories' after =
      held_is held' values' memories'
      ∙ ap (contents_by_path (Some s.is_flat.top) ps) after
      ∙ whole_after d s.accepted s.is_flat (contents_of held memories) (family_of whole)
      ∙ ap (λ (u : AllContents). after_flat d s.is_flat.top u (families_of s.is_flat.top ps (family_of whole)))
      (sym (held_is held values memories))

  -- where the ports of a stream stand
  ports_many : length s.is_flat.top.ports ≡ 2 + 2 * length c.kernels + length c.scalars + 3 * length c.inputs + 3 * length c.outputs + 1
  ports_many =
      let size = length_shape (shape_of c) in
      let views = ap length s.has.shape in
      omega (
        arith,
        size,
        views,
        length-map s.is_flat.top.ports (port_view s.is_flat.top),
        length-map c.kernels
            (λ (k : KernelPorts). k.name),
        length-map c.scalars scalar_shape,
        length-map c.inputs stream_shape,
        length-map c.outputs stream_shape,
      )

  stream_place : (k : ℕ) (x : StreamPorts) → slice_get (c.inputs ++ c.outputs) k ≡ Some x → (j : ℕ)
      × (stream_channel x ≡ channel_at s.is_flat.top j) × (j + 2 < length s.is_flat.top.ports)
  stream_place k x at =
      let ks = length-map c.kernels (λ (y : KernelPorts). y.name) in
      let ss = length-map c.scalars scalar_shape in
      let xs = length-map c.inputs stream_shape in
      ⊎_elim
      (λ f. (
        first_input (shape_of c) + 3 * f.0,
        input_net s.is_flat.top c s.has f.0 x f.1,
        omega
            (arith, ports_many, slice_get_within c.inputs f.0 x f.1, ks, ss),
      ))
      (λ f. (
        first_output (shape_of c) + 3 * f.0,
        output_net s.is_flat.top c s.has f.0 x f.1,
        omega
            (arith, ports_many, slice_get_within c.outputs f.0 x f.1, ks, ss, xs),
      ))
      (in_streams c.inputs c.outputs k x at)

  none : Port
  none = record { net = 0; output = false }

  -- the nets of the ports have values
  pub nets_within : (values' : List ℕ) → length values' ≡ length s.flat.nets → (k : ℕ) (x : StreamPorts)
      → slice_get (c.inputs ++ c.outputs) k ≡ Some x → AreNetsOf (length values') x
  nets_within values' len k x at =
      let q = stream_place k x at in
      let lt = q.2 in (
        subst (λ (n : ℕ). n < length values') (sym (ap (λ (y : Channel). y.word) q.1)) (below q.0 (omega (arith, lt))),
        subst (λ (n : ℕ). n < length values') (sym (ap (λ (y : Channel). y.valid) q.1)) (below (q.0 + 1) (omega (arith, lt))),
        subst (λ (n : ℕ). n < length values') (sym (ap (λ (y : Channel). y.ready) q.1)) (below (q.0 + 2) lt),
      )
    where
      below : (j : ℕ) → j < length s.is_flat.top.ports → net_at s.is_flat.top j < length values'
      below j lt =
          let p = get_or s.is_flat.top.ports j none in
          let at : slice_get s.is_flat.top.ports j ≡ Some p = slice_get-get_or s.is_flat.top.ports j none lt in
          let here : slice_get s.flat.ports j ≡ Some p = ap (λ (l : List Port). slice_get l j) (ports_flat d s.accepted s.is_flat) ∙ at in
          let e : net_at s.is_flat.top j ≡ p.net = ap port_net at in
          let less = (s.simulable.formed j p here).net in
          omega (arith, e, less, len)

  -- as many streams as events
  pub streams_counted : (events : List Event) → length events ≡ length (nets_of c).inputs + length (nets_of c).outputs
      → length events ≡ length c.inputs + length c.outputs
  streams_counted events size = omega (arith, size, length-map c.inputs stream_channel, length-map c.outputs stream_channel)

  -- what registers and memories hold after an edge of the module that is run, they hold by the flat one
  stepped_after :
      (reset : Bool) (offers : List Offer) (accepts holds : List Bool) (new held' : List ℕ) (memories' : List (List ℕ))
      → (e : IsStepped run os c reset steady offers accepts holds held memories new held' memories')
      → contents_of held' memories' ≡ after_edge s.flat (contents_of held memories) (family_of e.values)
  stepped_after reset offers accepts holds new held' memories' e =
      e.after ∙ s.stand.after (contents_of held memories) (family_of e.values) e.evaluated.fits

  edge_at :
      (offers : List Offer) (accepts holds : List Bool) (held' new : List ℕ) (memories' : List (List ℕ)) (events : List Event)
      → length offers ≡ length (nets_of c).inputs → length accepts ≡ length (nets_of c).outputs → length holds ≡ length (nets_of c).holds
      → IsStepped run os c false steady offers accepts holds held memories new held' memories'
      → length events ≡ length (nets_of c).inputs + length (nets_of c).outputs
      → ((k : ℕ) (x : StreamPorts) (e : Event) → slice_get (c.inputs ++ c.outputs) k ≡ Some x
      → slice_get events k ≡ Some e → e ≡ event_of (family_of new) (stream_channel x))
      → IsEdge s.is_flat.top offers accepts holds now (state d c ps os steady held' memories' new) events
  edge_at offers accepts holds held' new memories' events lo la lh step size told =
      let last = last_is false offers accepts holds new held' memories' step in
      record {
        settled = subst (λ (v : Families). Settled s.is_flat.top now false offers accepts holds v) last
            (settled_is false offers offers accepts accepts holds holds step.values lo la lh (same_said offers accepts holds)
            (evaluated_flat false steady offers accepts holds held memories step.values step.evaluated));
        after = subst (λ (v : Families). contents (state d c ps os steady held' memories' new)
            ≡ after_flat d s.is_flat.top (contents now) v) last
            (after_state held' step.values new memories'
            (stepped_after false offers accepts holds new held' memories' step));
        events_are = subst (λ (v : Families). events ≡ map (event_of (v [])) ((nets_of c).inputs ++ (nets_of c).outputs)) last
            (all_told top (c.inputs ++ c.outputs) events
            (streams_counted events size ∙ sym (length_both c.inputs c.outputs)) seen
            ∙ map_both (event_of top) stream_channel c.inputs c.outputs);
      }
    where
      top : Family
      top = families_of s.is_flat.top ps (family_of step.values) []

      at_port : (j : ℕ) → j < length s.is_flat.top.ports → get_or new (net_at s.is_flat.top j) 0 ≡ families_of
          s.is_flat.top ps (family_of step.values) [] (net_at s.is_flat.top j)
      at_port j lt =
          let p = get_or s.is_flat.top.ports j none in
          let at : slice_get s.is_flat.top.ports j ≡ Some p = slice_get-get_or s.is_flat.top.ports j none lt in
          let here : slice_get s.flat.ports j ≡ Some p = ap (λ (l : List Port). slice_get l j) (ports_flat d s.accepted s.is_flat) ∙ at in
          let e : net_at s.is_flat.top j ≡ p.net = ap port_net at in
          ap (family_of new) e
          ∙ step.seen p.net (seen_at_port j p here)
          ∙ ap (family_of step.values) (sym e)
          ∙ own_at (family_of step.values) j

      seen : (k : ℕ) (x : StreamPorts) (e : Event) → slice_get (c.inputs ++ c.outputs) k ≡ Some x
          → slice_get events k ≡ Some e → e ≡ event_of (families_of s.is_flat.top ps (family_of step.values) [])
          (stream_channel x)
      seen k x e at is =
          let q = stream_place k x at in
          let v = families_of s.is_flat.top ps (family_of step.values) [] in
          told k x e at is ∙ ap (event_of (family_of new)) q.1 ∙ event_at_ports (family_of new) v s.is_flat.top q.0 at_port q.2 ∙ sym (ap (event_of v) q.1)

  pub edge_is :
      (m : Module) (offers : List Offer) (accepts holds : List Bool) (held' new : List ℕ) (memories' : List (List ℕ)) (events : List Event)
      → top_of d ≡ Some m
      → length offers ≡ length (nets_of c).inputs → length accepts ≡ length (nets_of c).outputs → length holds ≡ length (nets_of c).holds
      → IsStepped run os c false steady offers accepts holds held memories new held' memories'
      → length events ≡ length (nets_of c).inputs + length (nets_of c).outputs
      → ((k : ℕ) (x : StreamPorts) (e : Event) → slice_get (c.inputs ++ c.outputs) k ≡ Some x
      → slice_get events k ≡ Some e → e ≡ event_of (family_of new) (stream_channel x))
      → IsEdge m offers accepts holds now (state d c ps os steady held' memories' new) events
  edge_is m offers accepts holds held' new memories' events e lo la lh step size told =
      subst (λ (x : Module). IsEdge x offers accepts holds now (state d c ps os steady held' memories' new) events) (top_is m e)
      (edge_at offers accepts holds held' new memories' events lo la lh step size told)

  settled_alone : (reset : Bool) (new : List ℕ) → IsEvaluated s.flat c reset steady [] [] [] held memories new
      → SettledAlone s.is_flat.top now reset
      (families_of s.is_flat.top ps (family_of new))
  settled_alone reset new done =
      settled_is reset [] _ [] _ [] _ new (length-map (nets_of c).inputs (λ (x : Channel). nothing))
      (length-map (nets_of c).outputs (λ (x : Channel). false)) (length-map (nets_of c).holds (λ (n : ℕ). false))
      (none_said (nets_of c)) done

  pub reset_is : (m : Module) (held' new : List ℕ) (memories' : List (List ℕ)) → top_of d ≡ Some m
      → IsStepped run os c true steady [] [] [] held memories new held' memories'
      → IsResetEdge m now (state d c ps os steady held' memories' new)
  reset_is m held' new memories' e step =
      let last = last_is true [] [] [] new held' memories' step in
      subst (λ (x : Module). IsResetEdge x now (state d c ps os steady held' memories' new)) (top_is m e)
      (record {
        settled = subst (λ (v : Families). SettledAlone s.is_flat.top now true v) last
            (settled_alone true step.values
            (evaluated_flat true steady [] [] [] held memories step.values step.evaluated));
        after = subst (λ (v : Families). contents (state d c ps os steady held' memories' new)
            ≡ after_flat d s.is_flat.top (contents now) v) last
            (after_state held' step.values new memories' (stepped_after true [] [] [] new held' memories' step));
      })

  done_at : (new : List ℕ) (answer : Bool) → IsEvaluated s.flat c false steady [] [] [] held memories new
      → answer ≡ eqb (get_or new c.done 0) 1 → IsDone s.is_flat.top now answer
  done_at new answer done is =
      record {
        family = families_of s.is_flat.top ps (family_of new);
        settled = settled_alone false new done;
        answer_is = is ∙ ap (λ n. eqb n 1) (subst (λ (n : ℕ). family_of new n ≡ families_of s.is_flat.top ps
            (family_of new) [] n) (sym (ap (λ (o : Outer). o.done) s.has.nets))
            (own_at (family_of new) (done_port (shape_of c))));
      }

  pub done_is : (m : Module) (new : List ℕ) (answer : Bool) → top_of d ≡ Some m
      → IsEvaluated run c false steady [] [] [] held memories new → answer ≡ eqb (get_or new c.done 0) 1
      → IsDone m now answer
  done_is m new answer e done is =
      subst (λ (x : Module). IsDone x now answer) (top_is m e)
      (done_at new answer (evaluated_flat false steady [] [] [] held memories new done) is)
