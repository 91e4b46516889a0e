-- Edge after edge the inputs are given, and so there is a family of each, and one alone.
use Rattle.std.proofs.Common.{◌≡◌, ℕ, suc, ◌+◌, ◌^◌, ◌<◌, Bool, true, false, cond, List, [], ◌∷◌, ◌++◌, drop, Some, refl, sym, ap, ◌∙◌, subst, arith, lit<}
use Rattle.std.specs.Prelude.{slice_get}
use Rattle.std.specs.List.{All}
use Rattle.rtl_ir.specs.declared.design.Design.{Design}
use Rattle.rtl_ir.specs.declared.design.Module.{Module}
use Rattle.rtl_ir.specs.Value.{Family, Contents}
use Rattle.rtl_ir.specs.Edge.{Fits}
use Rattle.rtl_ir.specs.Flat.{AllContents, Families, FitsFlat, EdgesFlat, module_at, after_part, after_flat}
use Rattle.rtl_ir.specs.OneRun.{SameOnParts, AllSame}
use Rattle.rtl_ir.specs.Parts.{own_of}
use Rattle.rtl_ir.specs.Ports.{Shape, HasShape, net_at, channels_from, first_input, outer_of}
use Rattle.rtl_ir.specs.Rules.{IsAccepted, AllHold}
use Rattle.rtl_ir.specs.Run.{Channel, Outer, Event, moves, left_of, Driven}
use Rattle.rtl_ir.proofs.Accepted.{sound_at}
use Rattle.rtl_ir.proofs.Exists.{one_family}
use Rattle.rtl_ir.proofs.Kept.{words_kept}
use Rattle.rtl_ir.proofs.Only.{at_most_one}
use Rattle.rtl_runs.specs.Stimuli.{Stimulus, IsFor}
use Rattle.rtl_runs.specs.DrivenRun.{AllHaveIdleWords, IsDrivenBy, HasOneDrivenRun}
use Rattle.rtl_runs.proofs.PortValues.{given, inputs_fit, has_given, values_are}
use Rattle.rtl_runs.proofs.Edges.{Host, LeftFit, IdleFit, Drive, IsPut, port_values, values_fit, put_from, has_from, restart, going, reset_from, put_reset, under_from, put_under}

-- ---- the words that are left stay words
fewer : (b : Bool) (ws : List ℕ) (n : ℕ) → All (λ w. w < 2 ^ n) ws → All (λ w. w < 2 ^ n) (cond b (drop 1 ws) ws)
fewer true [] n h = λ k d lt. absurd (omega arith)
fewer true (w ∷ ws) n h = λ k d lt. h (suc k) d (omega arith)
fewer false ws n h = h

left_fits : (m : Module) (k : ℕ) (xs : List Host) (left : List (List ℕ)) (v : Family) → LeftFit xs left → LeftFit xs (left_of (channels_from m k xs) left v)
left_fits m k [] left v h = h
left_fits m k (x ∷ xs) [] v h = h
left_fits m k (x ∷ xs) (ws ∷ left) v h =
    let ch : Channel = record { word = net_at m k; valid = net_at m (k + 1); ready = net_at m (k + 2) } in
    (fewer (moves ch v) ws x.1 h.0, left_fits m (k + 3) xs left v h.1)

idle_fits : (s : Shape) (x : Stimulus) → IsFor s x → (edge : ℕ) → IdleFit 0 s.inputs (x.idle edge)
idle_fits s x for edge k i at =
    let e : k ≡ 0 + k = omega arith in
    subst (λ (j : ℕ). x.idle edge j < 2 ^ i.1) e (for.idle edge k i at)

-- a family sees the contents of its parts alone
fits_along : (d : Design) (m : Module) (c c' : AllContents) (v : Families) → SameOnParts d m c c' → FitsFlat d m c v → FitsFlat d m c' v
fits_along d m c c' v same f = record {
  each = λ p part at. let P : Contents → Type 0 = λ x. Fits part x (v p) in subst P (same p part at) (f.each p part at);
  joined = f.joined;
}

after_same : (d : Design) (m : Module) (c c' : AllContents) (v w : Families) → SameOnParts d m c c' → SameOnParts d m v w → SameOnParts d m (after_flat d m c v) (after_flat d m c' w)
after_same d m c c' v w contents families p part at =
    ap (λ (x : Contents). after_part (module_at d m p) x (v p)) (contents p part at) ∙ ap (λ (f : Family). after_part (module_at d m p) (c' p) f) (families p part at)

module _
    (d : Design) (accepted : IsAccepted d) (number : ℕ) (m : Module) (at : slice_get d.modules number ≡ Some m)
    (s : Shape) (has : HasShape m s) (x : Stimulus) (for : IsFor s x)
  where
    abbrev o : Outer
    o = outer_of s m

    -- ---- one edge
    record Edge (c : AllContents) (g : Drive) : Type 0 where
      family : Families
      fits : FitsFlat d m c family
      put : IsPut o x g (family [])

    edge : (c : AllContents) → AllHold d m c → (g : Drive) → g.reset < 2 ^ 1 → LeftFit s.inputs g.left → IdleFit 0 s.inputs g.idle → Edge c g
    edge c held g reset left idle =
        let fit = values_fit s x g for reset left idle in
        let one = one_family d accepted number m at c held (given m.ports (port_values s x g)) (λ n _. inputs_fit m s (port_values s x g) has fit n) in
        record {
          family = one.family;
          fits = one.solves.fits;
          put = put_from m (one.family []) s x g for left (has_given m (one.family []) s (port_values s x g) has (sound_at accepted number m at).apart fit one.solves.given);
        }

    same_edge : (c c' : AllContents) (g : Drive) (v w : Families) → SameOnParts d m c c' → FitsFlat d m c v → FitsFlat d m c' w → IsPut o x g (v []) → IsPut o x g (w []) → SameOnParts d m v w
    same_edge c c' g v w same f f' p q =
        at_most_one d accepted number m at c' v w (fits_along d m c c' v same f) f' (λ n input.
        values_are m (v []) s (port_values s x g) has (sound_at accepted number m at).apart (has_from m (v []) s x g for p) n input
        ∙ sym (values_are m (w []) s (port_values s x g) has (sound_at accepted number m at).apart (has_from m (w []) s x g for q) n input))

    -- ---- the edges behind the reset edge
    record Going (c : AllContents) (number_of : ℕ) (left : List (List ℕ)) (es : List Event) : Type 0 where
      run : List Families
      edges : EdgesFlat d m c run
      driven : Driven o (x.ticks ++ x.scalars) left es (own_of run)
      idle : AllHaveIdleWords x.idle number_of o.inputs (own_of run)

    go : (c : AllContents) → AllHold d m c → (n : ℕ) (left : List (List ℕ)) → LeftFit s.inputs left → (es : List Event) → Going c n left es
    go c held n left fit [] = record { run = []; edges = tt; driven = tt; idle = tt }
    go c held n left fit (e ∷ es) =
        let first = edge c held (going x n left e) (lit< tt) fit (idle_fits s x for n) in
        let v = first.family in
        let rest = go (after_flat d m c v) (words_kept d accepted number m at c held v first.fits) (n + 1) (left_of o.inputs left (v [])) (left_fits m (first_input s) s.inputs left (v []) fit) es in
        record {
          run = v ∷ rest.run;
          edges = (first.fits, rest.edges);
          driven = (under_from o x n left e (v []) first.put, rest.driven);
          idle = (first.put.idle, rest.idle);
        }

    same_going : (c c' : AllContents) (n : ℕ) (left : List (List ℕ)) (es : List Event)
        (vs ws : List Families) → SameOnParts d m c c' → EdgesFlat d m c vs
        → EdgesFlat d m c' ws → Driven o (x.ticks ++ x.scalars) left es (own_of vs)
        → Driven o (x.ticks ++ x.scalars) left es (own_of ws)
        → AllHaveIdleWords x.idle n o.inputs (own_of vs)
        → AllHaveIdleWords x.idle n o.inputs (own_of ws) → AllSame d m vs ws
    same_going c c' n left [] [] [] same f f' p q i j = tt
    same_going c c' n left [] [] (w ∷ ws) same f f' p q i j = absurd q
    same_going c c' n left [] (v ∷ vs) ws same f f' p q i j = absurd p
    same_going c c' n left (e ∷ es) [] ws same f f' p q i j = absurd p
    same_going c c' n left (e ∷ es) (v ∷ vs) [] same f f' p q i j = absurd q
    same_going c c' n left (e ∷ es) (v ∷ vs) (w ∷ ws) same f f' p q i j =
        let alike = same_edge c c' (going x n left e) v w same f.0 f'.0 (put_under o x n left e (v []) p.0 i.0) (put_under o x n left e (w []) q.0 j.0) in
        let own : w [] ≡ v [] = sym (alike [] m refl) in
        let driven = subst (λ (y : Family). Driven o (x.ticks ++ x.scalars) (left_of o.inputs left y) es (own_of ws)) own q.1 in
        (alike, same_going (after_flat d m c v) (after_flat d m c' w) (n + 1) (left_of o.inputs left (v [])) es vs ws (after_same d m c c' v w same alike) f.1 f'.1 p.1 driven i.1 j.1)

    -- ---- the reset edge before them
    only_reset : (c : AllContents) (r : Families) (run vs : List Families) → IsDrivenBy d m o c x (r ∷ run) → IsDrivenBy d m o c x vs → AllSame d m vs (r ∷ run)
    only_reset c r run [] a b = absurd b.driven
    only_reset c r run (v ∷ vs) a b =
        let alike = same_edge c c (restart x) v r (λ p part _. refl) b.edges.0 a.edges.0
        (put_reset m s x (v []) for.words b.driven.0 b.idle.0)
        (put_reset m s x (r []) for.words a.driven.0 a.idle.0) in (
          alike,
          same_going (after_flat d m c v) (after_flat d m c r)
              (0 + 1) x.words x.events vs run (after_same d m c c v r
              (λ p part _. refl) alike) b.edges.1 a.edges.1 b.driven.1 a.driven.1 b.idle.1 a.idle.1,
        )

    driven_run : (c : AllContents) → AllHold d m c → HasOneDrivenRun d m o c x
    driven_run c held =
        let first = edge c held (restart x) (lit< tt) for.words (idle_fits s x for 0) in
        let r = first.family in
        let rest = go (after_flat d m c r) (words_kept d accepted number m at c held r first.fits) (0 + 1) x.words for.words x.events in
        let is : IsDrivenBy d m o c x (r ∷ rest.run) = record {
          edges = (first.fits, rest.edges);
          driven = (reset_from o x (r []) first.put, rest.driven);
          idle = (first.put.idle, rest.idle);
        } in
        record { run = r ∷ rest.run; is = is; only = λ vs h. only_reset c r rest.run vs is h }

pub one_driven_run : (d : Design) → IsAccepted d → (number : ℕ) (m : Module)
    → slice_get d.modules number ≡ Some m → (s : Shape) → HasShape m s → (c : AllContents)
    → AllHold d m c → (x : Stimulus) → IsFor s x → HasOneDrivenRun d m (outer_of s m) c x
one_driven_run d accepted number m at s has c held x for = driven_run d accepted number m at s has x for c held
