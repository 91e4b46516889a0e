-- The search that makes words known: what waits stands on a stack, each place one step or more
-- behind all before it.
use Rattle.std.proofs.Common.{◌≡◌, ◌∙◌, ℕ, suc, ◌+◌, ◌-◌, ◌*◌, ◌≤◌, ◌<◌, true, List, [], ◌∷◌, ◌++◌, length, get_or, Option, refl, ap, sym, subst, arith, length-append, ⊎_elim}
use Rattle.std.proofs.lemmas.Bool.{cases_lt}
use Rattle.std.proofs.lemmas.List.{get_or_append_left, get_or_read}
use Rattle.std.proofs.Math.Seq.{get_or-append_seam}
use Rattle.stream_graph.specs.declared.node.Node.{Node}
use Rattle.offset_edges.specs.Edges.{edges_of}
use Rattle.offset_edges.specs.Walks.{IsCausal}
use Rattle.stream_graph.proofs.NodeLemmas.{IsOrderly}
use Rattle.kernel_types.specs.Types.{AreTyped}
use Rattle.kernel_family.specs.declared.place.Place.{Place}
use Rattle.kernel_family.specs.Steps.{IsStep}
use Rattle.kernel_family.proofs.Steps.{IsMove, move_of}
use Rattle.kernel_family.proofs.Chains.{IsBehind, one, more, apart}
use Rattle.kernel_family.proofs.Paths.{IsPath, place_at, pushed, few, alone}
use Rattle.kernel_words.specs.declared.run.KernelRun.{KernelRun}
use Rattle.kernel_words.specs.declared.streams.Streams.{Streams}
use Rattle.kernel_words.specs.Streams.{cell_at}
use Rattle.kernel_words.specs.Filling.{is_open, open_count, IsPut, IsPlace, IsKnown, IsFilling, StayKnown}

-- ---- paths by their last places

abbrev last_of : List Place → Place
last_of xs = place_at xs (length xs - 1)

follow : (nodes : List Node) (o : IsOrderly nodes) (typed : AreTyped nodes) (ticks : ℕ) (xs : List Place) (y : Place) → IsPath nodes ticks xs
    → 0 < length xs → IsStep nodes (last_of xs) y → y.node < length nodes → y.tick < ticks → IsPath nodes ticks (xs ++ y ∷ [])
follow nodes o typed ticks xs y p some s n t = pushed nodes ticks xs y p n t all
  where
    move : IsMove nodes (last_of xs) y
    move = move_of nodes o typed (last_of xs) y (p.node (length xs - 1) (omega (arith, some))) s

    all : (i : ℕ) → i < length xs → IsBehind nodes (place_at xs i) y
    all i l = ⊎_elim
        (λ (k : i < length xs - 1).
        more nodes (place_at xs i) (last_of xs) y (p.behind i (length xs - 1) k (omega (arith, some))) move)
        (λ (k : length xs - 1 ≤ i).
        let e : length xs - 1 ≡ i = omega (arith, k, l) in
        subst (λ j. IsBehind nodes (place_at xs j) y) e (one nodes (last_of xs) y move))
        (cases_lt i (length xs - 1))

pub top_is : (items : List Place) (len : ℕ) (top : Place) → len ≡ length items → 0 < len → top ≡ get_or items (len - 1) top
    → top ≡ get_or items (length items - 1) (record { node = 0; tick = 0 })
top_is items len top e some h =
    get_or_read items (len - 1) top (omega (arith, e, some)) h (record { node = 0; tick = 0 })
    ∙ ap (λ k. get_or items (k - 1) (record { node = 0; tick = 0 })) e

-- a list without its last item
pub record IsPopped (xs ys : List Place) : Type 0 where
  pub shorter : suc (length ys) ≡ length xs
  pub same : (i : ℕ) → i < length ys → place_at ys i ≡ place_at xs i

pub popped_of : (xs ys : List Place) (x : Place) → xs ≡ ys ++ x ∷ [] → IsPopped xs ys
popped_of xs ys x e = record {
  shorter =
      let len = length-append ys (x ∷ []) in
      let same : length xs ≡ length (ys ++ x ∷ []) = ap (λ (zs : List Place). length zs) e in
      omega (arith, len, same);
  same = λ i l.
      sym (ap (λ zs. place_at zs i) e ∙ get_or_append_left ys (x ∷ []) (record { node = 0; tick = 0 }) i l);
}

shorten : (nodes : List Node) (ticks : ℕ) (xs ys : List Place) → IsPath nodes ticks xs → IsPopped xs ys → IsPath nodes ticks ys
shorten nodes ticks xs ys p q = record {
  node = λ i l. subst (λ (a : Place). a.node < length nodes) (sym (q.same i l)) (p.node i (wide i l));
  tick = λ i l. subst (λ (a : Place). a.tick < ticks) (sym (q.same i l)) (p.tick i (wide i l));
  behind = λ i j l h.
      subst (λ (a : Place). IsBehind nodes a (place_at ys j)) (sym (q.same i (omega (arith, l, h))))
      (subst (λ (a : Place). IsBehind nodes (place_at xs i) a) (sym (q.same j h)) (p.behind i j l (wide j h)));
}
  where
    wide : (i : ℕ) → i < length ys → i < length xs
    wide i l = let e = q.shorter in omega (arith, l, e)

-- ---- the search

pub record IsSettling (nodes : List Node) (run : KernelRun) (first streams : Streams) (taken : List ℕ) (stack : List Place) (root : Place) : Type 0 where
  pub timed : streams.ticks ≡ first.ticks
  pub filling : IsFilling nodes run streams taken
  pub kept : StayKnown nodes first streams
  pub path : IsPath nodes streams.ticks stack
  pub unknown : (i : ℕ) → i < length stack → is_open (cell_at streams (place_at stack i).node (place_at stack i).tick) ≡ true
  pub begun : 0 < length stack → place_at stack 0 ≡ root
  pub ended : length stack ≡ 0 → IsKnown streams root

-- what is left to do
abbrev pub work : List Node → Streams → List Place → ℕ
work nodes streams stack =
    open_count streams * (length nodes * streams.ticks + 1) + (length nodes * streams.ticks - length stack)

pub begin : (nodes : List Node) (run : KernelRun) (streams : Streams) (taken : List ℕ) (root : Place) → IsFilling nodes run streams taken
    → IsPlace nodes streams.ticks root → is_open (cell_at streams root.node root.tick) ≡ true
    → IsSettling nodes run streams streams taken (root ∷ []) root
begin nodes run streams taken root f at free = record {
  timed = refl;
  filling = f;
  kept = λ b h k. k;
  path = alone nodes streams.ticks root at.node at.tick;
  unknown = λ i l.
      let z : 0 ≡ i = omega (arith, l) in
      subst (λ j. is_open (cell_at streams (place_at (root ∷ []) j).node (place_at (root ∷ []) j).tick) ≡ true) z free;
  begun = λ h. refl;
  ended = λ e. absurd (omega (arith, e));
}

module _ (nodes : List Node) (o : IsOrderly nodes) (typed : AreTyped nodes) (causal : IsCausal (edges_of nodes)) (run : KernelRun)
    (first streams : Streams) (taken : List ℕ) (stack : List Place) (root : Place) (s : IsSettling nodes run first streams taken stack root)
    (some : 0 < length stack)
  where
    pub top_place : IsPlace nodes streams.ticks (last_of stack)
    top_place = record {
      node = s.path.node (length stack - 1) (omega (arith, some));
      tick = s.path.tick (length stack - 1) (omega (arith, some));
    }

    pub top_unknown : is_open (cell_at streams (last_of stack).node (last_of stack).tick) ≡ true
    top_unknown = s.unknown (length stack - 1) (omega (arith, some))

    module _ (next : Place) (step : IsStep nodes (last_of stack) next) (at : IsPlace nodes streams.ticks next)
        (free : is_open (cell_at streams next.node next.tick) ≡ true) where
      path_on : IsPath nodes streams.ticks (stack ++ next ∷ [])
      path_on = follow nodes o typed streams.ticks stack next s.path some step at.node at.tick

      pub deeper : IsSettling nodes run first streams taken (stack ++ next ∷ []) root
      deeper = record {
        timed = s.timed;
        filling = s.filling;
        kept = s.kept;
        path = path_on;
        unknown = λ i l. ⊎_elim
            (λ (k : i < length stack).
            subst (λ (a : Place). is_open (cell_at streams a.node a.tick) ≡ true)
            (sym (get_or_append_left stack (next ∷ []) (record { node = 0; tick = 0 }) i k)) (s.unknown i k))
            (λ (k : length stack ≤ i).
            let e : length stack ≡ i = omega (arith, k, l, length-append stack (next ∷ [])) in
            subst (λ j. is_open (cell_at streams (place_at (stack ++ next ∷ []) j).node (place_at (stack ++ next ∷ []) j).tick) ≡ true) e
            (subst (λ (a : Place). is_open (cell_at streams a.node a.tick) ≡ true)
            (sym (get_or-append_seam stack next [] (record { node = 0; tick = 0 }))) free))
            (cases_lt i (length stack));
        begun = λ h. get_or_append_left stack (next ∷ []) (record { node = 0; tick = 0 }) 0 some ∙ s.begun some;
        ended = λ e. absurd (omega (arith, e, length-append stack (next ∷ [])));
      }

      pub deeper_less : work nodes streams (stack ++ next ∷ []) < work nodes streams stack
      deeper_less =
          let q = few nodes streams.ticks causal (stack ++ next ∷ []) path_on in
          let len = length-append stack (next ∷ []) in
          omega (arith, q, len)

    module _ (new : Streams) (later : List ℕ) (word : Option ℕ) (rest : List Place) (f : IsFilling nodes run new later)
        (put : IsPut streams new (last_of stack) word) (known : IsKnown new (last_of stack)) (kept : StayKnown nodes streams new)
        (popped : IsPopped stack rest) where
      still : (i : ℕ) → i < length rest → is_open (cell_at new (place_at stack i).node (place_at stack i).tick) ≡ true
      still i l =
          let e = popped.shorter in
          let k : i < length stack = omega (arith, l, e) in
          let b : IsBehind nodes (place_at stack i) (last_of stack) =
          s.path.behind i (length stack - 1) (omega (arith, l, e)) (omega (arith, some)) in
          ap is_open (put.others (place_at stack i).node (place_at stack i).tick (s.path.tick i k)
          (λ n t. apart nodes causal (place_at stack i) (last_of stack) b n t))
          ∙ s.unknown i k

      ended_now : length rest ≡ 0 → IsKnown new root
      ended_now z =
          let e = popped.shorter in
          let at : length stack - 1 ≡ 0 = omega (arith, e, z) in
          subst (IsKnown new) (ap (place_at stack) at ∙ s.begun some) known

      pub shallower : IsSettling nodes run first new later rest root
      shallower = record {
        timed = put.ticks ∙ s.timed;
        filling = f;
        kept = λ b h k.
            kept b (record { node = h.node; tick = subst (λ t. b.tick < t) (sym s.timed) h.tick }) (s.kept b h k);
        path = subst (λ t. IsPath nodes t rest) (sym put.ticks) (shorten nodes streams.ticks stack rest s.path popped);
        unknown = λ i l. subst (λ (a : Place). is_open (cell_at new a.node a.tick) ≡ true) (sym (popped.same i l)) (still i l);
        begun = λ h.
            popped.same 0 h ∙ s.begun some;
        ended = ended_now;
      }

      pub shallower_less : work nodes new rest < work nodes streams stack
      shallower_less =
          let fewer = put.fewer top_unknown in
          let len = few nodes streams.ticks causal stack s.path in
          let e = popped.shorter in
          less (open_count new) (open_count streams) (length nodes * new.ticks) (length nodes * streams.ticks) (length rest) (length stack)
          fewer (ap (λ t. length nodes * t) put.ticks) len e
        where
          less : (u v m k r l : ℕ) → u < v → m ≡ k → l ≤ k → suc r ≡ l → u * (m + 1) + (m - r) < v * (k + 1) + (k - l)
          less u v m k r l h e b q = by_more v h
            where
              by_more : (w : ℕ) → u < w → u * (m + 1) + (m - r) < w * (k + 1) + (k - l)
              by_more w g =
                  let c : suc u * (k + 1) ≤ w * (k + 1) = grind (arith, g) in
                  let d : u * (m + 1) ≡ u * (k + 1) = ap (λ x. u * (x + 1)) e in
                  omega (arith, c, d, e, b, q)
