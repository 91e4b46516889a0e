-- Each call of a run may come after those before it, and a manager's plan can be carried out.
use Rattle.std.proofs.Common.{
  ◌≡◌,
  ℕ,
  zero,
  suc,
  List,
  [],
  ◌∷◌,
  ◌++◌,
  refl,
  subst,
  true,
  false,
  Ok,
  Err,
  Some,
  None,
  length,
}
use Rattle.std.specs.Prelude.{Option, Bool, Result, IfOk, is_some, if◌then◌else◌}
use Rattle.std.proofs.lemmas.List.Elements.{All-nil}
use Rattle.maxj_syntax.specs.declared.tree.NodeKind.TheVariants as N
use Rattle.maxj_syntax.specs.Tree.{Tree, Node, Trees, Nil, Cons, ClassTree}
use Rattle.kernel_meaning.specs.declared.value.Declared.{Declared}
use Rattle.kernel_meaning.specs.declared.value.Value.{Value}
use Rattle.kernel_meaning.specs.declared.value.Value.TheVariants as V
use Rattle.kernel_meaning.specs.declared.value.Spot.{Spot}
use Rattle.kernel_meaning.specs.declared.value.Spot.TheVariants.{Variable, Field}
use Rattle.kernel_meaning.specs.declared.state.Binding.{Binding}
use Rattle.kernel_meaning.specs.declared.state.State.{State}
use Rattle.kernel_meaning.specs.declared.row.Row.{Row}
use Rattle.kernel_meaning.specs.declared.row.Row.TheVariants as R
use Rattle.kernel_meaning.specs.declared.error.EvalError.{EvalError}
use Rattle.kernel_meaning.specs.declared.error.EvalError.TheVariants as E
use Rattle.kernel_meaning.specs.Names.{bound_in, is_mute, mute_place}
use Rattle.kernel_meaning.specs.Values.{declared_by, has_kind}
use Rattle.kernel_meaning.specs.Arrays.{content, with_content}
use Rattle.kernel_meaning.specs.Answer.{
  Answer,
  Finished,
  Refused,
  Calls,
  Then,
  Next,
  leave,
  back_in,
  calls_of,
  end_of,
  plan_at_end,
}
use Rattle.kernel_meaning.specs.Rows.{row_of}
use Rattle.kernel_meaning.specs.Plans.{OperandPlan, Fault, Reads, plan_of, number_of_trees}
use Rattle.kernel_meaning.specs.Methods.{
  Body,
  method_of,
  entered,
  entered_by,
  result_by,
  bound_by,
  body_by,
}
use Rattle.kernel_meaning.specs.Run.{
  Place,
  Callee,
  operate,
  expr,
  operands,
  choice,
  short,
  exec,
  block,
  branches,
  target,
  initial,
  inits,
  block_of,
  run_body,
  called,
  call_to,
  in_class,
}
use Rattle.kernel_meaning.specs.Ways.{planned, combined, stepped, is_absent, form_of}
use Rattle.kernel_meaning.specs.Constructors.{
  set_fields,
  ahead,
  ahead_by,
  all_ahead,
  start,
  built_by,
  run_of,
  ctor_of,
  members_of,
  building_run,
}
use Rattle.kernel_calls.specs.Laws.{AreLawful}
use Rattle.kernel_meaning.specs.Sound.{IsSound, AreSound}
use Rattle.kernel_meaning.specs.declared.plan.Plan.{Plan}
use Rattle.kernel_meaning.proofs.Kept.{
  IsManaged,
  IsFollowed,
  EndsWell,
  History,
  IsHeld,
  AreHeld,
  AreBound,
  IsTold,
  EndsTold,
  Sound,
  Good,
}
use Rattle.kernel_meaning.proofs.Later.{
  Later,
  at_once,
  and_later,
  bound_later,
  sound_later,
  all_later,
}
use Rattle.kernel_meaning.proofs.Going.{
  GoodNext,
  GoodThen,
  next_later,
  then_later,
  with_vars,
  left_block,
  good_counted,
  good_used,
  good_decided,
  good_unless,
  good_needs,
  good_chosen,
  good_does,
}
use Rattle.kernel_meaning.proofs.Ways.{
  good_picked,
  good_parted,
  good_first,
  good_flag,
  good_formed,
  good_turns,
  content_sound,
  stored_sound,
  good_put,
  good_spot,
  good_introduced,
  good_back,
  good_typed,
  good_braced,
  good_braces,
  more_sound,
}
use Rattle.kernel_meaning.proofs.RowsGood.{row_good, stepped_good, combined_good}
use Rattle.kernel_meaning.proofs.PlanLaws.{PlanOk, RowSound, row_later, plan_good}
use Rattle.kernel_meaning.specs.Plans.{Library, OfKernel, OfManager, AddsKernel}
use Rattle.kernel_meaning.specs.ManagerRows.{kernel_added}
use Rattle.kernel_meaning.specs.Run.{addition, is_settings, scope_of, in_constructor}
use Rattle.kernel_meaning.specs.Constructors.{first_argument, is_manager, no_plan}
use Rattle.kernel_meaning.proofs.ManagerLaws.{good_classed, good_named, kernel_good}

abbrev pub GoodCall : Library → Callee → Type 0
GoodCall library call = (name : List ℕ) (at : ℕ) (values : List Value)
    (so_far : History library) (state : State) (next : Then) → AreHeld so_far values
    → Sound so_far state → GoodThen so_far next
    → Good so_far (call name at values state next)

abbrev pub GoodMany : {library : Library} → History library → (List Value → Next) → Type 0
GoodMany {library} so_far next = (later : History library) → Later so_far later
    → (values : List Value) (state : State) → AreHeld later values → Sound later state
    → Good later (next values state)

abbrev pub GoodSpot : {library : Library} → History library → (Spot → Next) → Type 0
GoodSpot {library} so_far next = (later : History library) → Later so_far later → (place : Spot)
    (state : State)
    → Sound later state → Good later (next place state)

good_planned : (plan : OperandPlan) {library : Library} (so_far : History library) (state : State)
    (next : Row → ℕ → ℕ → Next)
    (add : Next) → PlanOk so_far plan → Sound so_far state
    → ((row : Row) (from count : ℕ) → RowSound so_far row → GoodNext so_far (next row from count))
    → GoodNext so_far add → Good so_far (planned plan state next add)
good_planned (Fault e) so_far state next add p s h k =
    record { lawful = tt {0}; plan = tt {0}; told = p.sound }
good_planned (Reads row from count) so_far state next add p s h k =
    h row from count p.sound so_far (at_once so_far) state s
good_planned AddsKernel so_far state next add p s h k = k so_far (at_once so_far) state s

module _ (here : Place) (g : GoodCall here.library here.call) where
  good_operate : (row : Row) (at : ℕ) (values : List Value) (so_far : History here.library)
      (state : State)
      (next : Then) → RowSound so_far row → AreHeld so_far values → Sound so_far state
      → GoodThen so_far next → Good so_far (operate here row at values state next)
  good_operate (R.OwnMethod name) at values so_far state next r v s h =
      g name at values so_far state next v s h
  good_operate row at values so_far state next r v s h =
      good_does (row_of row at values state) so_far next (row_good so_far state s row at values r v)
      h

  mutual
    unfolding expr

    pub good_expr : (t : Tree) (so_far : History here.library) (state : State) (next : Then)
        → Sound so_far state → GoodThen so_far next → Good so_far (expr here t state next)
    good_expr (Node kind word span trees) so_far state next s h =
        good_decided (is_mute state (Node kind word span trees)) so_far state
        (λ state. Refused (E.UnknownName (mute_place (Node kind word span trees)))) _ s
        (λ _ _ _ _. record { lawful = tt {0}; plan = tt {0}; told = tt {0} }) (λ c1 l1 state1 s1.
        good_counted c1 state1 _ s1 (λ c2 l2 state2 s2.
        let m2 = and_later so_far c1 c2 l1 l2 in
        good_formed (form_of kind word) c2 state2 _ _ _ s2
        (λ c3 l3 state3 s3. good_choice span.from trees c3 state3 next s3
        (then_later so_far c3 next (and_later so_far c2 c3 m2 l3) h))
        (λ either c3 l3 state3 s3. good_short either span.from trees c3 state3 next s3
        (then_later so_far c3 next (and_later so_far c2 c3 m2 l3) h))
        (λ c3 l3 state3 s3. good_planned
        (plan_of (scope_of here) state3 kind word span.from trees) c3 state3 _ _
        (plan_good (scope_of here) state3 kind word span.from trees c3 s3) s3
        (λ row from count r c4 l4 state4 s4.
        good_operands span.from from count trees [] c4 state4 _ tt s4 (λ c5 l5 values state5 v5 s5.
        let m5 = and_later c3 c4 c5 l4 l5 in
        good_operate row span.from values c5 state5 next (row_later c3 c5 row m5 r) v5 s5
        (then_later so_far c5 next (and_later so_far c3 c5 (and_later so_far c2 c3 m2 l3) m5)
        h)))
        (λ c4 l4 state4 s4. good_added span.from trees c4 state4 next s4
        (then_later so_far c4 next (and_later so_far c3 c4 (and_later so_far c2 c3 m2 l3) l4)
        h)))))

    pub good_added : (at : ℕ) (ts : Trees) (so_far : History here.library) (state : State)
        (next : Then)
        → Sound so_far state → GoodThen so_far next → Good so_far (addition here at ts state next)
    good_added at (Cons (Node N.New class span (Cons (Node N.Call word inner names) trees)) Nil)
        so_far state next s h =
        good_counted so_far state _ s (λ c1 l1 state1 s1.
        good_classed here.library span.from class c1 state1 _ s1 (λ number known c2 l2 state2 s2.
        let m2 = and_later so_far c1 c2 l1 l2 in
        good_decided (is_settings here word) c2 state2 _ _ s2
        (λ c3 l3 state3 s3. good_counted c3 state3 _ s3 (λ c4 l4 state4 s4.
        good_needs _ _ c4 state4 _ tt s4 (λ c5 l5 state5 s5.
        good_operands inner.from 0 1 names [] c5 state5 _ tt s5 (λ c6 l6 found state6 v6 s6.
        good_named inner.from found c6 state6 _ s6 (λ name plain c7 l7 state7 s7.
        let m5 = and_later c3 c4 c5 l4 l5 in
        let m7 = and_later c3 c5 c7 m5 (and_later c5 c6 c7 l6 l7) in
        good_operands span.from 0 (number_of_trees trees) trees [] c7 state7 _ tt s7
        (λ c8 l8 values state8 v8 s8.
        good_does (kernel_added span.from name number values state8) c8 next
        (kernel_good c8 state8 span.from name number values plain known v8 s8)
        (then_later so_far c8 next (and_later so_far c2 c8 m2
        (and_later c2 c3 c8 l3 (and_later c3 c7 c8 m7 l8))) h)))))))
        (λ c3 l3 state3 s3.
        good_operands span.from 0 (suc (number_of_trees trees))
        (Cons (Node N.Call word inner names) trees) [] c3 state3 _ tt s3
        (λ _ _ _ _ _ _. record { lawful = tt {0}; plan = tt {0}; told = tt {0} }))))
    good_added at (Cons (Node N.New class span Nil) Nil) so_far state next s h =
        good_counted so_far state _ s (λ c1 l1 state1 s1.
        good_classed here.library span.from class c1 state1 _ s1 (λ _ _ _ _ _ _.
        record { lawful = tt {0}; plan = tt {0}; told = tt {0} }))
    good_added at (Cons (Node N.New class span trees) Nil) so_far state next s h =
        good_counted so_far state _ s (λ c1 l1 state1 s1.
        good_classed here.library span.from class c1 state1 _ s1 (λ number _ c2 l2 state2 s2.
        good_operands span.from 0 (number_of_trees trees) trees [] c2 state2 _ tt s2
        (λ _ _ _ _ _ _. record { lawful = tt {0}; plan = tt {0}; told = tt {0} })))
    good_added at _ so_far state next s h = record { lawful = tt {0}; plan = tt {0}; told = tt {0} }

    pub good_operands : (at from count : ℕ) (ts : Trees) (values : List Value)
        (so_far : History here.library)
        (state : State) (next : List Value → Next) → AreHeld so_far values → Sound so_far state
        → GoodMany so_far next → Good so_far (operands here at from count ts values state next)
    good_operands at from count Nil values so_far state next v s h =
        h so_far (at_once so_far) values state v s
    good_operands at (suc from) count (Cons t ts) values so_far state next v s h =
        good_operands at from count ts values so_far state next v s h
    good_operands at zero zero (Cons t ts) values so_far state next v s h =
        h so_far (at_once so_far) values state v s
    good_operands at zero (suc count) (Cons t ts) values so_far state next v s h =
        good_expr t so_far state _ s
        (λ c1 l1 value state1 v1 s1.
        good_used at value c1 state1 _ v1 s1 (λ c2 l2 value2 state2 v2 s2.
        let m = and_later so_far c1 c2 l1 l2 in
        good_operands at zero count ts (values ++ value2 ∷ []) c2 state2 next
        (more_sound c2 values value2 (all_later so_far c2 values m v) v2) s2
        (λ c3 l3. h c3 (and_later so_far c2 c3 m l3))))

    pub good_choice : (at : ℕ) (ts : Trees) (so_far : History here.library) (state : State)
        (next : Then)
        → Sound so_far state → GoodThen so_far next → Good so_far (choice here at ts state next)
    good_choice at (Cons test (Cons first (Cons second Nil))) so_far state next s h =
        good_expr test so_far state _ s
        (λ c1 l1 value state1 v1 s1. good_parted at value c1 state1 _ _ _ v1 s1
        (λ c2 l2 state2 s2. good_expr first c2 state2 _ s2
        (λ c3 l3 v3 state3 w3 s3.
        good_picked at v3 c3 state3 next w3 s3
        (then_later so_far c3 next (and_later so_far c2 c3 (and_later so_far c1 c2 l1 l2) l3)
        h)))
        (λ c2 l2 state2 s2. good_expr second c2 state2 _ s2
        (λ c3 l3 v3 state3 w3 s3.
        good_picked at v3 c3 state3 next w3 s3
        (then_later so_far c3 next (and_later so_far c2 c3 (and_later so_far c1 c2 l1 l2) l3)
        h)))
        (λ c2 l2 v2 state2 w2 s2. good_expr first c2 state2 _ s2
        (λ c3 l3 a state3 w3 s3. good_used at a c3 state3 _ w3 s3 (λ c4 l4 a4 state4 w4 s4.
        good_expr second c4 state4 _ s4
        (λ c5 l5 b state5 w5 s5. good_used at b c5 state5 _ w5 s5 (λ c6 l6 b6 state6 w6 s6.
        let m4 = and_later c4 c5 c6 l5 l6 in
        let m2 = and_later c2 c4 c6 (and_later c2 c3 c4 l3 l4) m4 in
        good_does (row_of R.Choose at (v2 ∷ a4 ∷ b6 ∷ []) state6) c6 next
        (row_good c6 state6 s6 R.Choose at (v2 ∷ a4 ∷ b6 ∷ []) tt
        (sound_later c2 c6 v2 m2 w2, (sound_later c4 c6 a4 m4 w4, (w6, tt))))
        (then_later so_far c6 next (and_later so_far c2 c6 (and_later so_far c1 c2 l1 l2) m2)
        h)))))))
    good_choice at _ so_far state next s h = record { lawful = tt {0}; plan = tt {0}; told = tt {0} }

    pub good_short : (either : Bool) (at : ℕ) (ts : Trees) (so_far : History here.library)
        (state : State)
        (next : Then) → Sound so_far state → GoodThen so_far next
        → Good so_far (short here either at ts state next)
    good_short either at (Cons first (Cons second Nil)) so_far state next s h =
        good_expr first so_far state _ s
        (λ c1 l1 value state1 v1 s1.
        good_first either at value c1 state1 next _ s1 (then_later so_far c1 next l1 h)
        (λ c2 l2 state2 s2. good_expr second c2 state2 _ s2
        (λ c3 l3 v3 state3 w3 s3.
        good_flag at v3 c3 state3 next s3
        (then_later so_far c3 next (and_later so_far c2 c3 (and_later so_far c1 c2 l1 l2) l3)
        h))))
    good_short either at _ so_far state next s h = record { lawful = tt {0}; plan = tt {0}; told = tt {0} }

  -- where the value of an assignment goes
  mutual
    unfolding expr

    pub good_where : (user : ℕ) (t : Tree) (so_far : History here.library) (state : State)
        (next : Spot → Next)
        → Sound so_far state → GoodSpot so_far next → Good so_far (target here user t state next)
    good_where user (Node N.Name name span ts) so_far state next s h =
        good_needs _ _ so_far state _ tt s (λ c l state1 s1. h c l (Variable name) state1 s1)
    good_where user (Node N.Index word span (Cons base (Cons index Nil))) so_far state next s h =
        good_where user base so_far state _ s
        (λ c1 l1 outer state1 s1. good_used user (content outer state1) c1 state1 _
        (content_sound c1 outer state1 s1) s1 (λ c2 l2 array state2 w2 s2.
        good_expr index c2 state2 _ s2
        (λ c3 l3 v3 state3 w3 s3. good_used user v3 c3 state3 _ w3 s3 (λ c4 l4 v4 state4 w4 s4.
        let m = and_later so_far c2 c4 (and_later so_far c1 c2 l1 l2) (and_later c2 c3 c4 l3 l4) in
        good_spot user array v4 c4 state4 next s4
        (λ place c5 l5 state5 s5. h c5 (and_later so_far c4 c5 m l5) place state5 s5)))))
    good_where user (Node _ word span ts) so_far state next s h =
        record { lawful = tt {0}; plan = tt {0}; told = tt {0} }

  mutual
    unfolding expr

    pub good_inits : (at : ℕ) (of : Declared) (ts : Trees) (values : List Value)
        (so_far : History here.library) (state : State) (next : List Value → Next)
        → AreHeld so_far values
        → Sound so_far state → GoodMany so_far next
        → Good so_far (inits here at of ts values state next)
    good_inits at of Nil values so_far state next v s h = h so_far (at_once so_far) values state v s
    good_inits at of (Cons (Node N.Braces word span parts) ts) values so_far state next v s h =
        good_braces span.from of (number_of_trees parts) so_far state _ s (λ inner c1 l1 state1 s1.
        good_inits span.from inner parts [] c1 state1 _ tt s1 (λ c2 l2 others state2 o2 s2.
        good_braced inner others c2 state2 _ o2 s2 (λ c3 l3 value state3 w3 s3.
        let m = and_later so_far c2 c3 (and_later so_far c1 c2 l1 l2) l3 in
        good_inits at of ts (values ++ value ∷ []) c3 state3 next
        (more_sound c3 values value (all_later so_far c3 values m v) w3) s3
        (λ c4 l4. h c4 (and_later so_far c3 c4 m l4)))))
    good_inits at of (Cons (Node kind word span parts) ts) values so_far state next v s h =
        good_expr (Node kind word span parts) so_far state _ s
        (λ c1 l1 value state1 v1 s1.
        good_used at value c1 state1 _ v1 s1 (λ c2 l2 value2 state2 v2 s2.
        good_needs _ _ c2 state2 _ tt s2 (λ c3 l3 state3 s3.
        let m = and_later so_far c2 c3 (and_later so_far c1 c2 l1 l2) l3 in
        good_inits at of ts (values ++ value2 ∷ []) c3 state3 next
        (more_sound c3 values value2 (all_later so_far c3 values m v)
        (sound_later c2 c3 value2 l3 v2)) s3 (λ c4 l4. h c4 (and_later so_far c3 c4 m l4)))))

  pub good_initial : (user : ℕ) (of : Declared) (place : Spot) (ts : Trees)
      (so_far : History here.library)
      (state : State) (next : Next) → Sound so_far state → GoodNext so_far next
      → Good so_far (initial here user of place ts state next)
  unfolding expr
  good_initial user of place Nil so_far state next s h = h so_far (at_once so_far) state s
  good_initial user of place (Cons (Node N.Braces word span parts) ts) so_far state next s h =
      good_braces span.from of (number_of_trees parts) so_far state _ s (λ inner c1 l1 state1 s1.
      good_inits span.from inner parts [] c1 state1 _ tt s1 (λ c2 l2 others state2 o2 s2.
      good_braced inner others c2 state2 _ o2 s2 (λ c3 l3 value state3 w3 s3.
      h c3 (and_later so_far c2 c3 (and_later so_far c1 c2 l1 l2) l3)
      (with_content place value state3) (stored_sound c3 place value state3 w3 s3))))
  good_initial user of place (Cons (Node kind word span parts) ts) so_far state next s h =
      good_expr (Node kind word span parts) so_far state _ s
      (λ c1 l1 value state1 v1 s1.
      good_used user value c1 state1 _ v1 s1 (λ c2 l2 value2 state2 v2 s2.
      good_needs _ _ c2 state2 _ tt s2 (λ c3 l3 state3 s3.
      h c3 (and_later so_far c2 c3 (and_later so_far c1 c2 l1 l2) l3)
      (with_content place value2 state3)
      (stored_sound c3 place value2 state3 (sound_later c2 c3 value2 l3 v2) s3))))

  mutual
    unfolding expr

    pub good_exec : (t : Tree) (so_far : History here.library) (state : State) (next : Next)
        (back : Then)
        → Sound so_far state → GoodNext so_far next → GoodThen so_far back
        → Good so_far (exec here t state next back)
    good_exec (Node N.Empty word span ts) so_far state next back s h b =
        good_counted so_far state next s h
    good_exec (Node N.Block word span ts) so_far state next back s h b =
        good_counted so_far state _ s
        (λ c1 l1 state1 s1. good_block (length state1.variables) ts c1 state1 next back s1
        (next_later so_far c1 next l1 h) (then_later so_far c1 back l1 b))
    good_exec (Node N.Local name span (Cons type ts)) so_far state next back s h b =
        good_counted so_far state _ s
        (λ c1 l1 state1 s1. good_introduced span.from name (declared_by type) c1 state1 _ s1
        (λ of c2 l2 state2 s2.
        good_initial span.from of (Variable name) ts c2 state2 next s2
        (next_later so_far c2 next (and_later so_far c1 c2 l1 l2) h)))
    good_exec (Node N.Set sign span (Cons place Nil)) so_far state next back s h b =
        good_counted so_far state _ s
        (λ c1 l1 state1 s1. good_where span.from place c1 state1 _ s1 (λ c2 l2 place2 state2 s2.
        good_used span.from (content place2 state2) c2 state2 _ (content_sound c2 place2 state2 s2)
        s2 (λ c3 l3 old state3 w3 s3.
        let m = and_later so_far c2 c3 (and_later so_far c1 c2 l1 l2) l3 in
        good_does (stepped sign span.from old state3) c3 _
        (stepped_good c3 state3 s3 sign span.from old) (λ c4 l4 v4 state4 w4 s4.
        good_put span.from place2 v4 c4 state4 next w4 s4
        (next_later so_far c4 next (and_later so_far c3 c4 m l4) h)))))
    good_exec (Node N.Set sign span (Cons place (Cons value Nil))) so_far state next back s h b =
        good_counted so_far state _ s
        (λ c1 l1 state1 s1. good_where span.from place c1 state1 _ s1 (λ c2 l2 place2 state2 s2.
        let m2 = and_later so_far c1 c2 l1 l2 in
        good_decided _ c2 state2 _ _ s2
        (λ c3 l3 state3 s3. good_expr value c3 state3 _ s3
        (λ c4 l4 v4 state4 w4 s4.
        good_used span.from v4 c4 state4 _ w4 s4 (λ c5 l5 v5 state5 w5 s5.
        good_put span.from place2 v5 c5 state5 next w5 s5
        (next_later so_far c5 next
        (and_later so_far c3 c5 (and_later so_far c2 c3 m2 l3) (and_later c3 c4 c5 l4 l5)) h))))
        (λ c3 l3 state3 s3. good_used span.from (content place2 state3) c3 state3 _
        (content_sound c3 place2 state3 s3) s3 (λ c4 l4 old state4 w4 s4.
        good_expr value c4 state4 _ s4
        (λ c5 l5 v5 state5 w5 s5.
        good_used span.from v5 c5 state5 _ w5 s5 (λ c6 l6 v6 state6 w6 s6.
        let m4 = and_later c4 c5 c6 l5 l6 in
        let m6 = and_later so_far c4 c6 (and_later so_far c3 c4 (and_later so_far c2 c3 m2 l3) l4)
        m4 in
        good_does (combined sign span.from old v6 state6) c6 _
        (combined_good c6 state6 s6 sign span.from old v6 (sound_later c4 c6 old m4 w4) w6)
        (λ c7 l7 v7 state7 w7 s7.
        good_put span.from place2 v7 c7 state7 next w7 s7
        (next_later so_far c7 next (and_later so_far c6 c7 m6 l7) h))))))))
    good_exec (Node N.Connect word span ts) so_far state next back s h b =
        good_counted so_far state _ s
        (λ c1 l1 state1 s1. good_operands span.from 0 2 ts [] c1 state1 _ tt s1
        (λ c2 l2 values state2 v2 s2.
        good_does (row_of R.Connect span.from values state2) c2 _
        (row_good c2 state2 s2 R.Connect span.from values tt v2) (λ c3 l3 v3 state3 w3 s3.
        h c3 (and_later so_far c2 c3 (and_later so_far c1 c2 l1 l2) l3) state3 s3)))
    good_exec (Node N.Run word span (Cons call Nil)) so_far state next back s h b =
        good_counted so_far state _ s
        (λ c1 l1 state1 s1. good_expr call c1 state1 _ s1
        (λ c2 l2 v2 state2 w2 s2. h c2 (and_later so_far c1 c2 l1 l2) state2 s2))
    good_exec (Node N.Return word span Nil) so_far state next back s h b =
        good_counted so_far state _ s (λ c1 l1 state1 s1. b c1 l1 V.Nothing state1 tt s1)
    good_exec (Node N.Return word span (Cons value Nil)) so_far state next back s h b =
        good_counted so_far state _ s
        (λ c1 l1 state1 s1. good_expr value c1 state1 _ s1
        (λ c2 l2 v2 state2 w2 s2.
        good_used span.from v2 c2 state2 _ w2 s2 (λ c3 l3 v3 state3 w3 s3.
        good_back span.from here.wanted v3 c3 state3 back w3 s3
        (then_later so_far c3 back (and_later so_far c1 c3 l1 (and_later c1 c2 c3 l2 l3)) b))))
    good_exec (Node N.If word span ts) so_far state next back s h b =
        good_counted so_far state _ s
        (λ c1 l1 state1 s1. good_branches span.from ts c1 state1 next back s1
        (next_later so_far c1 next l1 h) (then_later so_far c1 back l1 b))
    good_exec (Node N.While word span (Cons condition (Cons body Nil))) so_far state next back s h
        b =
        good_counted so_far state _ s
        (λ c1 l1 state1 s1. good_turns _ _ span.from (suc state1.left) c1 state1 next
        (λ c l state2 n2 s2 h2. good_expr condition c state2 n2 s2 h2)
        (λ c l state2 n2 s2 h2. good_exec body c state2 n2 back s2 h2
        (then_later so_far c back (and_later so_far c1 c l1 l) b))
        s1 (next_later so_far c1 next l1 h))
    good_exec (Node N.For word span (Cons first (Cons condition (Cons step (Cons body Nil)))))
        so_far state next back s h b =
        good_counted so_far state _ s
        (λ c1 l1 state1 s1. good_unless (is_absent first) c1 state1 _ _ s1
        (λ n h1. good_exec first c1 state1 n back s1 h1 (then_later so_far c1 back l1 b))
        (λ c l state2 s2. let m = and_later so_far c1 c l1 l in
        good_turns _ _ span.from (suc state2.left) c state2 _
        (λ c2 l2 state3 n2 s3 h2. good_decided (is_absent condition) c2 state3 _ _ s3
        (λ c3 l3 state4 s4. h2 c3 l3 (V.Flag true) state4 tt s4)
        (λ c3 l3 state4 s4. good_expr condition c3 state4 n2 s4 (then_later c2 c3 n2 l3 h2)))
        (λ c2 l2 state3 n2 s3 h2. good_exec body c2 state3 _ back s3
        (λ c3 l3 state4 s4. good_unless (is_absent step) c3 state4 _ n2 s4
        (λ n h3. good_exec step c3 state4 n back s4 h3
        (then_later so_far c3 back (and_later so_far c c3 m (and_later c c2 c3 l2 l3)) b))
        (next_later c2 c3 n2 l3 h2))
        (then_later so_far c2 back (and_later so_far c c2 m l2) b))
        s2 (λ c2 l2 state3 s3. h c2 (and_later so_far c c2 m l2)
        (leave (length state1.variables) state3)
        (left_block c2 (length state1.variables) state3 s3))))
    good_exec (Node _ word span ts) so_far state next back s h b =
        record { lawful = tt {0}; plan = tt {0}; told = tt {0} }

    pub good_block : (count : ℕ) (ts : Trees) (so_far : History here.library) (state : State)
        (next : Next)
        (back : Then) → Sound so_far state → GoodNext so_far next → GoodThen so_far back
        → Good so_far (block here count ts state next back)
    good_block count Nil so_far state next back s h b =
        h so_far (at_once so_far) (leave count state) (left_block so_far count state s)
    good_block count (Cons t ts) so_far state next back s h b =
        good_exec t so_far state _ back s
        (λ c1 l1 state1 s1. good_block count ts c1 state1 next back s1
        (next_later so_far c1 next l1 h) (then_later so_far c1 back l1 b)) b

    pub good_branches : (at : ℕ) (ts : Trees) (so_far : History here.library) (state : State)
        (next : Next)
        (back : Then) → Sound so_far state → GoodNext so_far next → GoodThen so_far back
        → Good so_far (branches here at ts state next back)
    good_branches at Nil so_far state next back s h b = h so_far (at_once so_far) state s
    good_branches at (Cons t Nil) so_far state next back s h b =
        good_exec t so_far state next back s h b
    good_branches at (Cons test (Cons body ts)) so_far state next back s h b =
        good_expr test so_far state _ s
        (λ c1 l1 value state1 v1 s1. good_chosen at value c1 state1 _ _ s1
        (λ c2 l2 state2 s2. good_exec body c2 state2 next back s2
        (next_later so_far c2 next (and_later so_far c1 c2 l1 l2) h)
        (then_later so_far c2 back (and_later so_far c1 c2 l1 l2) b))
        (λ c2 l2 state2 s2. good_branches at ts c2 state2 next back s2
        (next_later so_far c2 next (and_later so_far c1 c2 l1 l2) h)
        (then_later so_far c2 back (and_later so_far c1 c2 l1 l2) b)))

  pub good_body : (t : Tree) (so_far : History here.library) (state : State) (next : Next)
      (back : Then)
      → Sound so_far state → GoodNext so_far next → GoodThen so_far back
      → Good so_far (block_of here t state next back)
  good_body (Node N.Block word span ts) so_far state next back s h b =
      good_block 0 ts so_far state next back s h b
  good_body (Node _ word span ts) so_far state next back s h b =
      record { lawful = tt {0}; plan = tt {0}; told = tt {0} }

  pub good_fields : (before : ℕ) (ms : Trees) (so_far : History here.library) (state : State)
      (next : Next) → Sound so_far state → GoodNext so_far next
      → Good so_far (set_fields here before ms state next)
  good_fields before Nil so_far state next s h = h so_far (at_once so_far) state s
  good_fields before (Cons (Node N.Field name span (Cons type ts)) ms) so_far state next s h =
      good_typed (declared_by type) so_far state _ s
      (λ of c1 l1 state1 s1. good_initial span.from of (Field before) ts c1 state1 _ s1
      (λ c2 l2 state2 s2.
      good_fields (suc before) ms c2 state2 next s2
      (next_later so_far c2 next (and_later so_far c1 c2 l1 l2) h)))
  good_fields before (Cons _ ms) so_far state next s h =
      good_fields before ms so_far state next s h

-- Bodies of methods.

abbrev pub OkBound : {library : Library} → History library → Result (List Binding) EvalError
    → Type 0
OkBound so_far (Err e) = IsTold e
OkBound so_far (Ok variables) = AreBound so_far variables

abbrev pub OkBody : {library : Library} → History library → Result Body EvalError → Type 0
OkBody so_far (Err e) = IsTold e
OkBody so_far (Ok body) = AreBound so_far body.variables

if_bound : {library : Library} (so_far : History library) (b : Bool)
    (x y : Result (List Binding) EvalError)
    → OkBound so_far x → OkBound so_far y → OkBound so_far (if b then x else y)
if_bound so_far true x y p q = p
if_bound so_far false x y p q = q

bound_param : {library : Library} (so_far : History library) (user at : ℕ) (name : List ℕ)
    (value : Value)
    (variables : List Binding) (of : Result Declared ℕ) → IsHeld so_far value
    → AreBound so_far variables → OkBound so_far (bound_by user at name value variables of)
bound_param so_far user at name value variables (Err place) v h = tt
bound_param so_far user at name value variables (Ok of) v h =
    if_bound so_far (is_some (bound_in name variables)) (Err (E.NameTwice at))
    (if has_kind of value then Ok (record { name = name; of = of; value = value } ∷ variables)
    else Err (E.WrongKind user)) tt
    (if_bound so_far (has_kind of value)
    (Ok (record { name = name; of = of; value = value } ∷ variables)) (Err (E.WrongKind user))
    (v, h) tt)

body_good : {library : Library} (so_far : History library) (wanted : Option Declared) (user : ℕ)
    (trees : Trees)
    (values : List Value) (r : Result (List Binding) EvalError) → OkBound so_far r
    → AreHeld so_far values → OkBody so_far (body_by wanted user trees values r)
body_good so_far wanted user trees values (Err e) h v = h
body_good so_far wanted user (Cons block Nil) [] (Ok variables) h v = h
body_good so_far wanted user (Cons (Node kind name span (Cons type Nil)) trees) (value ∷ values)
    (Ok variables) h v =
    body_good so_far wanted user trees values
    (bound_by user span.from name value variables (declared_by type))
    (bound_param so_far user span.from name value variables (declared_by type) v.0 h) v.1
body_good so_far wanted user _ _ (Ok variables) h v = tt

entered_by_good : {library : Library} (so_far : History library) (user : ℕ) (rest : Trees)
    (values : List Value)
    (r : Result (Option Declared) ℕ) → AreHeld so_far values
    → OkBody so_far (entered_by user rest values r)
entered_by_good so_far user rest values (Err at) v = tt
entered_by_good so_far user rest values (Ok wanted) v =
    body_good so_far wanted user rest values (Ok []) tt v

entered_good : {library : Library} (so_far : History library) (user : ℕ) (values : List Value)
    (method : Option (Tree × Trees)) → AreHeld so_far values
    → OkBody so_far (entered user values method)
entered_good so_far user values None v = tt
entered_good so_far user values (Some method) v =
    entered_by_good so_far user method.1 values (result_by method.0) v

called_good : {library : Library} (so_far : History library) (run : Body → State → Then → Answer)
    (r : Result Body EvalError)
    (state : State) (next : Then) → OkBody so_far r
    → ((body : Body) → AreBound so_far body.variables → Good so_far (run body state next))
    → Good so_far (called run r state next)
called_good so_far run (Err e) state next b h =
    record { lawful = tt {0}; plan = tt {0}; told = b }
called_good so_far run (Ok body) state next b h = h body b

run_good : (here : Place) (body : Body) (so_far : History here.library) (state : State)
    (next : Then)
    → GoodCall here.library here.call → AreBound so_far body.variables → Sound so_far state
    → GoodThen so_far next → Good so_far (run_body here body state next)
run_good here body so_far state next g b s h =
    good_body (record here { wanted = body.wanted }) g body.block so_far
    (record state { variables = body.variables }) _ _
    (with_vars so_far state body.variables b s)
    (λ later l state2 s2. h later l V.Nothing (back_in state.variables state2) tt
    (with_vars later state2 state.variables
    (bound_later so_far later state.variables l s.variables) s2))
    (λ later l value state2 v2 s2. h later l value (back_in state.variables state2) v2
    (with_vars later state2 state.variables
    (bound_later so_far later state.variables l s.variables) s2))

pub good_call : (library : Library) (members : Trees) (deeper : ℕ)
    → GoodCall library (call_to library members deeper)
unfolding call_to
good_call library members zero name at values so_far state next v s h =
    called_good so_far _ _ state next (entered_good so_far at values (method_of name members) v)
    (λ body b. record { lawful = tt {0}; plan = tt {0}; told = tt {0} })
good_call library members (suc deeper) name at values so_far state next v s h =
    called_good so_far _ _ state next (entered_good so_far at values (method_of name members) v)
    (λ body b. run_good (in_class library members (call_to library members deeper)) body so_far
    state next (good_call library members deeper) b s h)

-- The whole run.

-- nothing was done
begun : (library : Library) → History library
begun library = record { calls = []; plan = no_plan (is_manager library) }

unset_by : {library : Library} (so_far : History library) (name : List ℕ) (of : Result Declared ℕ)
    (fields : List Binding) → AreBound so_far fields → AreBound so_far (ahead_by name of fields)
unset_by so_far name (Ok of) fields h = (tt, h)
unset_by so_far name (Err at) fields h = (tt, h)

unset : {library : Library} (so_far : History library) (member : Tree) (fields : List Binding)
    → AreBound so_far fields → AreBound so_far (ahead member fields)
unset so_far (Node N.Field name span (Cons type trees)) fields h =
    unset_by so_far name (declared_by type) fields h
unset so_far _ fields h = h

all_unset : {library : Library} (so_far : History library) (members : Trees)
    (fields : List Binding) → AreBound so_far fields → AreBound so_far (all_ahead members fields)
all_unset so_far Nil fields h = h
all_unset so_far (Cons member members) fields h =
    all_unset so_far members (ahead member fields) (unset so_far member fields h)

finished_by : (library : Library) (so_far plan : Plan) → IsFollowed library so_far plan
    → EndsWell library plan
finished_by OfKernel so_far plan f = tt
finished_by (OfManager kernels) so_far plan f = f.managed

finished_good : {library : Library} (so_far : History library) (state : State)
    → Sound so_far state → Good so_far (Finished state)
finished_good {library = library} so_far state s = record {
  lawful = tt;
  plan = finished_by library so_far.plan state.plan s.plan;
  told = tt;
}

built_good : (here : Place) (members : Trees) (r : Result Body EvalError)
    (so_far : History here.library) (state : State) → GoodCall here.library here.call
    → OkBody so_far r → Sound so_far state → Good so_far (built_by here members r state)
built_good here members (Err e) so_far state g b s =
    record { lawful = tt {0}; plan = tt {0}; told = b }
built_good here members (Ok body) so_far state g b s =
    good_fields here g 0 members so_far state _ s (λ later l state2 s2.
    good_body here g body.block later (record state2 { variables = body.variables }) _ _
    (with_vars later state2 body.variables (bound_later so_far later body.variables l b) s2)
    (λ c _ state3 s3. finished_good c state3 s3) (λ c _ _ state3 _ s3. finished_good c state3 s3))

empty_plan : (library : Library)
    → IsFollowed library (no_plan (is_manager library)) (no_plan (is_manager library))
empty_plan OfKernel = tt
empty_plan (OfManager kernels) = record {
  same = refl;
  managed = record {
    manager = refl;
    kernels = All-nil _;
    joined = record {
      lefts = All-nil _;
      rights = All-nil _;
      from_cpu = All-nil _;
      to_cpu = All-nil _;
    };
  };
}

started : (library : Library) (members : Trees) (steps : ℕ)
    → Sound (begun library) (start library members steps)
unfolding begun
started library members steps = record {
  made = refl;
  variables = tt;
  fields = all_unset (begun library) members [] tt;
  arrays = tt;
  digits = λ chain. refl;
  plan = empty_plan library;
}

first_held : (library : Library) → IsHeld (begun library) (first_argument library)
first_held OfKernel = tt
first_held (OfManager kernels) = tt

run_of_good : (library : Library) (members : Trees) (args : List Value) (steps : ℕ)
    (ctor : Option (ℕ × Trees)) → AreHeld (begun library) args
    → Good (begun library) (run_of library members args steps ctor)
run_of_good library members args steps None v = record { lawful = tt {0}; plan = tt {0}; told = tt {0} }
run_of_good library members args steps (Some ctor) v =
    let values : List Value = first_argument library ∷ args in
    let first = begun library in
    good_needs _ _ first (start library members steps) _ tt (started library members steps)
    (λ later l state s. built_good (in_constructor library members) members
    (body_by None ctor.0 ctor.1 values (Ok [])) later state (good_call library members 64)
    (body_good later None ctor.0 ctor.1 values (Ok []) tt (
      sound_later first later (first_argument library) l (first_held library),
      all_later first later args l v,
    )) s)

-- a kernel's run asks no more of a value than that it is sound
held_one : (so_far : History OfKernel) (value : Value) → IsSound so_far.calls value
    → IsHeld so_far value
held_one so_far (V.Block number) h = tt
held_one so_far (V.Link end side) h = tt
held_one so_far value h = h

held : (so_far : History OfKernel) (values : List Value) → AreSound so_far.calls values
    → AreHeld so_far values
held so_far [] h = tt
held so_far (value ∷ values) h = (held_one so_far value h.0, held so_far values h.1)

-- each call of the building run of a class may come after those before it
pub all_lawful : (class : ClassTree) (args : List Value) → AreSound [] args
    → AreLawful [] (calls_of (building_run class args))
unfolding begun
all_lawful class args v =
    (run_of_good OfKernel (members_of class.tree) args 1000000
    (ctor_of (members_of class.tree)) (held (begun OfKernel) args v)).lawful

-- a run that ends so isn't refused for want of memory
ends_otherwise : (answer : Answer) → EndsTold answer → end_of answer ≡ Err E.NoMemory → ⊥
ends_otherwise (Finished state) t e = absurd (cc)
ends_otherwise (Refused fault) t e =
    let same : fault ≡ E.NoMemory = cc in
    subst IsTold same t
ends_otherwise (Calls call answer) t e = ends_otherwise answer t e

plans_otherwise : (answer : Answer) → EndsTold answer → plan_at_end answer ≡ Err E.NoMemory → ⊥
plans_otherwise (Finished state) t e = absurd (cc)
plans_otherwise (Refused fault) t e =
    let same : fault ≡ E.NoMemory = cc in
    subst IsTold same t
plans_otherwise (Calls call answer) t e = plans_otherwise answer t e

-- the building run of a class isn't refused for want of memory
pub all_told : (class : ClassTree) (args : List Value) → AreSound [] args
    → end_of (building_run class args) ≡ Err E.NoMemory → ⊥
unfolding begun
all_told class args v =
    ends_otherwise (building_run class args)
    (run_of_good OfKernel (members_of class.tree) args 1000000
    (ctor_of (members_of class.tree)) (held (begun OfKernel) args v)).told

-- nor is a manager's
pub managed_told : (kernels : List ℕ → Option ℕ) (members : Trees) (steps : ℕ)
    (ctor : Option (ℕ × Trees))
    → plan_at_end (run_of (OfManager kernels) members [] steps ctor) ≡ Err E.NoMemory → ⊥
managed_told kernels members steps ctor =
    plans_otherwise (run_of (OfManager kernels) members [] steps ctor)
    (run_of_good (OfManager kernels) members [] steps ctor tt).told

-- where a manager's run ends, its plan can be carried out with classes that it may add
pub managed_plan : (kernels : List ℕ → Option ℕ) (members : Trees) (steps : ℕ)
    (ctor : Option (ℕ × Trees))
    → IfOk (plan_at_end (run_of (OfManager kernels) members [] steps ctor))
    (IsManaged (OfManager kernels))
managed_plan kernels members steps ctor =
    (run_of_good (OfManager kernels) members [] steps ctor tt).plan
