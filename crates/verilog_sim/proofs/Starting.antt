-- What a simulator holds before its first call is words, and the low bits of one word.
use Rattle.std.proofs.Common.{◌≡◌, ◌≢◌, ◌⊎◌, ℕ, zero, suc, ◌+◌, ◌%◌, ◌^◌, ◌<◌, ◌≤◌, inl, inr, Bool, true}
use Rattle.std.proofs.Common.{false, cond, ltb, List, [], ◌∷◌, ◌++◌, length, map, take, replicate, get_or, set}
use Rattle.std.proofs.Common.{Some, refl, sym, ap, ◌∙◌, subst, ⊎_elim, arith, get_or-set_other}
use Rattle.std.proofs.Common.{get_or-set_same}
use Rattle.std.specs.Prelude.{slice_get, nat_lt}
use mathlib.Core.Path.{fun_ext}
use Rattle.std.proofs.lemmas.Bool.{cases_eq, cases_lt, lt-ltb, le-ltb, false≢true}
use Rattle.std.proofs.lemmas.Option.{slice_get_within}
use Rattle.std.proofs.lemmas.Nat.{pow_pos, mod_below}
use Rattle.std.proofs.Math.Seq.{get_or-append_seam}
use Rattle.std.proofs.lemmas.List.{length-set, length-map, length-take, length-replicate, length_push, get_or-replicate}
use Rattle.std.proofs.lemmas.List.{get_or_past, get_or_append_left, take_more, map-append}
use Rattle.rtl_ir.specs.declared.design.Module.{Module}
use Rattle.rtl_ir.specs.declared.design.Net.{Net}
use Rattle.rtl_ir.specs.declared.design.Mem.{Mem}
use Rattle.rtl_ir.specs.declared.design.Assign.{Assign}
use Rattle.rtl_ir.specs.declared.design.Expr.TheVariants.{Literal}
use Rattle.mx_bits.specs.declared.word.Word.{Word}
use Rattle.rtl_ir.specs.Value.{width_of, net_width, is_reg, net_kept, depth_of, mem_depth}
use Rattle.rtl_ir.specs.Typed.{word_width, mem_width, IsTyped}
use Rattle.rtl_ir.specs.Rules.{IsAccepted, HoldsWords, AllHold}
use Rattle.rtl_ir.specs.declared.interface.Interface.{Interface}
use Rattle.rtl_ir.specs.Interfaces.{nets_of}
use Rattle.verilog_sim.specs.Contents.{contents_of, HasDepths}
use Rattle.rtl_ir.specs.Value.{Contents}
use Rattle.rtl_ir.specs.Flat.{top_of}
use Rattle.rtl_ir.specs.declared.design.Design.{Design}
use Rattle.verilog_sim.specs.declared.scope.Scope.{Scope}
use Rattle.verilog_sim.proofs.ByPath.{contents_by_path}
use Rattle.verilog_sim.specs.Flattened.{IsFlat}
use Rattle.verilog_sim.specs.Start.{held_at_start, words_at_start, AreFilled, IsFilled, filled_part}
use Rattle.verilog_sim.specs.Start as start
use Rattle.verilog_sim.proofs.Whole.{whole_filled}
use Rattle.verilog_sim.specs.Runnable.{IsRunnable}
use Rattle.verilog_sim.specs.Updates.{held_by}
use Rattle.verilog_sim.specs.First.{IsLiteralAt, AreLiteralsSet}
use Rattle.verilog_sim.specs.Simulates.{AreConstant, AreKept, AreValues}
use Rattle.verilog_sim.proofs.Evaluated.{given_reg}
use Rattle.verilog_sim.proofs.Holding.{held_size, held_reg, held_other}
use Rattle.verilog_sim.proofs.Driving.{same_all}

nets_at : (fill : ℕ) (xs : List Net) (n : ℕ) → get_or (map (held_at_start fill) xs) n 0 ≡ cond
    (net_kept (slice_get xs n)) (fill % 2 ^ net_width (slice_get xs n)) 0
nets_at fill [] n = refl
nets_at fill (x ∷ xs) zero = refl
nets_at fill (x ∷ xs) (suc n) = nets_at fill xs n

mems_at : (fill : ℕ) (xs : List Mem) (k : ℕ) → get_or (map (words_at_start fill) xs) k [] ≡ replicate
    (mem_depth (slice_get xs k)) (fill % 2 ^ mem_width (slice_get xs k))
mems_at fill [] k = refl
mems_at fill (x ∷ xs) zero = refl
mems_at fill (x ∷ xs) (suc k) = mems_at fill xs k

-- a word of a memory at its start
cell_at : (depth x a : ℕ) → a < depth → get_or (replicate depth x) a 0 ≡ x
cell_at depth x a lt = get_or-replicate depth a x 0 lt

cell_fits : (depth fill w a : ℕ) → get_or (replicate depth (fill % 2 ^ w)) a 0 < 2 ^ w
cell_fits depth fill w a = ⊎_elim within past (cases_lt a depth)
  where
    within : a < depth → get_or (replicate depth (fill % 2 ^ w)) a 0 < 2 ^ w
    within lt = subst (λ (y : ℕ). y < 2 ^ w) (sym (cell_at depth (fill % 2 ^ w) a lt)) (mod_below fill (2 ^ w) (pow_pos w))

    past : depth ≤ a → get_or (replicate depth (fill % 2 ^ w)) a 0 < 2 ^ w
    past ge = subst (λ (y : ℕ). y < 2 ^ w) (sym (get_or_past (replicate depth (fill % 2 ^ w)) a 0
        (omega (arith, length-replicate depth (fill % 2 ^ w))))) (pow_pos w)

-- words of memories at their start
cells_fit : (m : Module) (fill : ℕ) (memories : List (List ℕ)) → memories ≡ map (words_at_start fill) m.mems → (k a : ℕ)
    → get_or (get_or memories k []) a 0 < 2 ^ word_width m k
cells_fit m fill memories e k a =
    subst (λ (y : ℕ). y < 2 ^ word_width m k)
    (sym (ap (λ (l : List (List ℕ)). get_or (get_or l k []) a 0) e ∙ ap (λ (l : List ℕ). get_or l a 0) (mems_at fill m.mems k)))
    (cell_fits (depth_of m k) fill (word_width m k) a)

memory_depths : (m : Module) (fill : ℕ) (memories : List (List ℕ)) → memories ≡ map (words_at_start fill) m.mems → HasDepths m memories
memory_depths m fill memories e k =
    ap (λ (l : List (List ℕ)). length (get_or l k [])) e
    ∙ ap length (mems_at fill m.mems k)
    ∙ length-replicate (depth_of m k) (fill % 2 ^ word_width m k)

-- one net more has what it holds at the start
pub filled_more :
    (fill : ℕ) (nets : List Net) (k : ℕ) (x : Net) (held new : List ℕ) → k < length nets → x ≡ get_or nets k x
    → length held ≡ length nets → ((n : ℕ) → get_or held n 0 ≡ get_or (map (held_at_start fill) (take k nets)) n 0)
    → (new ≡ set held k (held_at_start fill x)) ⊎ ((new ≡ held) × (held_at_start fill x ≡ 0))
    → (n : ℕ) → get_or new n 0 ≡ get_or (map (held_at_start fill) (take (k + 1) nets)) n 0
filled_more fill nets k x held new lt is size before now n =
    ⊎_elim here (λ ne. ⊎_elim (left ne) (right ne) (cases_lt n k)) (cases_eq n k) ∙ sym (ap (λ (l : List ℕ). get_or l n 0) more)
  where
    y : ℕ
    y = held_at_start fill x

    ys : List ℕ
    ys = map (held_at_start fill) (take k nets)

    many : length ys ≡ k
    many = omega (arith, length-map (take k nets) (held_at_start fill), length-take k nets, lt)

    more : map (held_at_start fill) (take (k + 1) nets) ≡ ys ++ y ∷ []
    more =
        ap (map (held_at_start fill)) (take_more nets k x lt ∙ ap (λ z. take k nets ++ z ∷ []) (sym is))
        ∙ map-append (held_at_start fill) (take k nets) (x ∷ [])

    other : n ≢ k → get_or new n 0 ≡ get_or held n 0
    other ne =
        ⊎_elim (λ e. ap (λ (l : List ℕ). get_or l n 0) e ∙ get_or-set_other held k n y 0 ne)
        (λ e. ap (λ (l : List ℕ). get_or l n 0) e.0) now

    here : n ≡ k → get_or new n 0 ≡ get_or (ys ++ y ∷ []) n 0
    here e =
        subst (λ (i : ℕ). get_or new i 0 ≡ get_or (ys ++ y ∷ []) i 0) (many ∙ sym e)
        (at_end ∙ sym (get_or-append_seam ys y [] 0))
      where
        at_end : get_or new (length ys) 0 ≡ y
        at_end =
            ⊎_elim
            (λ q. ap (λ (l : List ℕ). get_or l (length ys) 0) q
            ∙ ap (λ i. get_or (set held k y) i 0) many
            ∙ get_or-set_same held k y 0 (omega (arith, lt, size)))
            (λ q. ap (λ (l : List ℕ). get_or l (length ys) 0) q.0
            ∙ before (length ys)
            ∙ get_or_past ys (length ys) 0 (omega arith)
            ∙ sym q.1)
            now

    left : n ≢ k → n < k → get_or new n 0 ≡ get_or (ys ++ y ∷ []) n 0
    left ne less = other ne ∙ before n ∙ sym (get_or_append_left ys (y ∷ []) 0 n (omega (arith, less, many)))

    right : n ≢ k → k ≤ n → get_or new n 0 ≡ get_or (ys ++ y ∷ []) n 0
    right ne ge =
        other ne
        ∙ before n
        ∙ get_or_past ys n 0 (omega (arith, ge, many))
        ∙ sym (get_or_past (ys ++ y ∷ []) n 0 (omega (arith, ge, ne, many, length_push ys y)))

-- words of nets at their start
filled_fits : (m : Module) (fill : ℕ) (values : List ℕ) → AreFilled fill m.nets values → (n : ℕ) → get_or values n 0 < 2 ^ width_of m n
filled_fits m fill values f n =
    subst (λ (y : ℕ). y < 2 ^ width_of m n) (sym (f n ∙ nets_at fill m.nets n)) (choose (is_reg m n) (width_of m n))
  where
    choose : (b : Bool) (w : ℕ) → cond b (fill % 2 ^ w) 0 < 2 ^ w
    choose true w = mod_below fill (2 ^ w) (pow_pos w)
    choose false w = pow_pos w

zero_fits : (n k w : ℕ) → get_or (replicate n 0) k 0 < 2 ^ w
zero_fits n k w = subst (λ (y : ℕ). y < 2 ^ w) (sym (same_all n k 0)) (pow_pos w)

literal_bits : (x y : Word) → Literal x ≡ Literal y → x.bits ≡ y.bits
literal_bits x y e = let q : x ≡ y = cc in ap (λ (w : Word). w.bits) q

-- the word of a literal that is assigned to a net fits it
literal_fits : (m : Module) → IsRunnable m → (n x : ℕ) → IsLiteralAt m.assigns n x → x < 2 ^ width_of m n
literal_fits m r n x l =
    let t = r.typed l.place l.assign l.at in
    let width : l.word.width ≡ width_of m l.assign.target = subst (IsTyped m (width_of m l.assign.target)) l.literal t in
    subst (λ (w : ℕ). x < 2 ^ w) (width ∙ ap (width_of m) l.target) (subst (λ (y : ℕ). y < 2 ^ l.word.width) (sym l.bits) l.word.fits)

-- literals are set one after another
pub none_set : (assigns : List Assign) (old : List ℕ) → AreLiteralsSet assigns old old 0
none_set assigns old = record { size = refl; each = λ k a x lt. absurd (omega arith); others = λ n. inl refl }

module _ (assigns : List Assign) (old new : List ℕ) (i : ℕ) (a : Assign) (at : slice_get assigns i ≡ Some a) (p : AreLiteralsSet assigns old new i) where
  same_assign : (k : ℕ) (b : Assign) → k ≡ i → slice_get assigns k ≡ Some b → a ≡ b
  same_assign k b q e = let e' : slice_get assigns i ≡ Some b = subst (λ (x : ℕ). slice_get assigns x ≡ Some b) q e in cc

  pub none_more : ((x : Word) → a.expr ≢ Literal x) → AreLiteralsSet assigns old new (i + 1)
  none_more free =
      record {
        size = p.size;
        each = λ k b x lt e lit. ⊎_elim (λ less. p.each k b x less e lit)
            (λ ge. absurd (free x (ap (λ (y : Assign). y.expr) (same_assign k b (omega arith) e) ∙ lit)))
            (cases_lt k i);
        others = p.others;
      }

  pub one_more_set : (x : Word) → a.expr ≡ Literal x → a.target < length new → AreLiteralsSet assigns old (set new a.target x.bits) (i + 1)
  one_more_set x lit lt =
      record {
        size = length-set new a.target x.bits ∙ p.size;
        each = each;
        others = λ n. ⊎_elim (λ e. inr (here n e)) (λ ne. ⊎_elim
            (λ z. inl (get_or-set_other new a.target n x.bits 0 ne ∙ z))
            (λ l. inr (subst (IsLiteralAt assigns n) (sym (get_or-set_other new a.target n x.bits 0 ne)) l))
            (p.others n)) (cases_eq n a.target);
      }
    where
      here : (n : ℕ) → n ≡ a.target → IsLiteralAt assigns n (get_or (set new a.target x.bits) n 0)
      here n e =
          record {
            place = i;
            assign = a;
            word = x;
            at = at;
            target = sym e;
            literal = lit;
            bits = ap (λ (k : ℕ). get_or (set new a.target x.bits) k 0) e ∙ get_or-set_same new a.target x.bits 0 lt;
          }

      each : (k : ℕ) (b : Assign) (y : Word) → k < i + 1 → slice_get assigns k ≡ Some b → b.expr ≡ Literal y
          → IsLiteralAt assigns b.target (get_or (set new a.target x.bits) b.target 0)
      each k b y less e lit' =
          ⊎_elim (λ q. here b.target q)
          (λ ne. ⊎_elim (λ before. subst (IsLiteralAt assigns b.target)
          (sym (get_or-set_other new a.target b.target x.bits 0 ne)) (p.each k b y before e lit'))
          (λ ge. absurd (ne (sym (ap (λ (z : Assign). z.target) (same_assign k b (omega arith) e)))))
          (cases_lt k i))
          (cases_eq b.target a.target)

-- after the literals of all assignments were set
module _ (m : Module) (old new : List ℕ) (r : IsRunnable m) (s : AreLiteralsSet m.assigns old new (length m.assigns)) where
  literals_fit : ((n : ℕ) → get_or old n 0 < 2 ^ width_of m n) → (n : ℕ) → get_or new n 0 < 2 ^ width_of m n
  literals_fit fits n =
      ⊎_elim (λ e. subst (λ (y : ℕ). y < 2 ^ width_of m n) (sym e) (fits n))
      (λ l. literal_fits m r n (get_or new n 0) l) (s.others n)

  literals_constant : AreConstant m new
  literals_constant k a x at lit =
      let q = s.each k a x (slice_get_within m.assigns k a at) at lit in
      let same : q.place ≡ k = r.one q.place k q.assign a q.at at q.target in
      let at' : slice_get m.assigns k ≡ Some q.assign = subst (λ (j : ℕ). slice_get m.assigns j ≡ Some q.assign) same q.at in
      let e : q.assign ≡ a = cc in
      let word : Literal q.word ≡ Literal x = sym q.literal ∙ ap (λ (y : Assign). y.expr) e ∙ lit in
      q.bits ∙ literal_bits q.word x word

  -- registers keep what they have
  literals_regs : (n : ℕ) → is_reg m n ≡ true → get_or new n 0 ≡ get_or old n 0
  literals_regs n e =
      ⊎_elim (λ q. q)
      (λ l. absurd (false≢true (sym (r.given l.place l.assign l.at) ∙ given_reg m l.assign.target (ap (is_reg m) l.target ∙ e))))
      (s.others n)

-- the values of nets before the first edge
pub start_values :
    (m : Module) (fill : ℕ) (zeros values : List ℕ) (memories : List (List ℕ)) → IsRunnable m
    → zeros ≡ replicate (length m.nets) 0 → AreLiteralsSet m.assigns zeros values (length m.assigns)
    → memories ≡ map (words_at_start fill) m.mems → AreValues m values memories
start_values m fill zeros values memories r z s em =
    record {
      words = record {
        nets = s.size ∙ ap length z ∙ length-replicate (length m.nets) 0;
        words = literals_fit m zeros values r s (λ n. subst (λ (l : List ℕ). get_or l n 0 < 2 ^ width_of m n) (sym z)
            (zero_fits (length m.nets) n (width_of m n)));
        depths = memory_depths m fill memories em;
        cells = cells_fit m fill memories em;
      };
      constant = literals_constant m zeros values r s;
    }

-- what registers hold before the first edge
module _ (m : Module) (fill : ℕ) (old ahead : List ℕ) (r : IsRunnable m) (size : length old ≡ length m.nets) (f : AreFilled fill m.nets old)
    (s : AreLiteralsSet m.assigns old ahead (length m.assigns)) where
  ahead_nets : length ahead ≡ length m.nets
  ahead_nets = s.size ∙ size

  pub start_held : AreFilled fill m.nets (held_by m.updates ahead)
  start_held n = by_kind (is_reg m n) refl
    where
      by_kind : (b : Bool) → is_reg m n ≡ b → get_or (held_by m.updates ahead) n 0 ≡ get_or (map (held_at_start fill) m.nets) n 0
      by_kind true e = held_reg m m.updates ahead r refl ahead_nets n e ∙ literals_regs m old ahead r s n e ∙ f n
      by_kind false e =
          held_other m m.updates ahead r refl ahead_nets n e
          ∙ sym (nets_at fill m.nets n ∙ ap (λ b. cond b (fill % 2 ^ width_of m n) 0) e)

  pub start_kept :
      (c : Interface) (steady : List ℕ) (memories : List (List ℕ)) → memories ≡ map (words_at_start fill) m.mems
      → steady ≡ replicate (length c.kernels + length c.scalars) 0
      → AreKept m c steady (held_by m.updates ahead) ahead memories
  start_kept c steady memories em es =
      record {
        blocks = ap length em ∙ length-map m.mems (words_at_start fill);
        words = record {
          nets = ahead_nets;
          words = words;
          depths = memory_depths m fill memories em;
          cells = cells_fit m fill memories em;
        };
        held_nets = held_size m.updates ahead ∙ ahead_nets;
        held_words = λ n e. subst (λ (y : ℕ). y < 2 ^ width_of m n) (sym (held_reg m m.updates ahead r refl ahead_nets n e)) (words n);
        loaded = λ n e. sym (held_reg m m.updates ahead r refl ahead_nets n e);
        constant = literals_constant m old ahead r s;
        steady_ports = ap length es ∙ length-replicate (length c.kernels + length c.scalars) 0;
        steady_words = λ k lt. subst (λ (l : List ℕ). get_or l k 0 < 2 ^ width_of m (get_or (nets_of c).steady k 0))
            (sym es) (zero_fits (length c.kernels + length c.scalars) k (width_of m (get_or (nets_of c).steady k 0)));
      }
    where
      words : (n : ℕ) → get_or ahead n 0 < 2 ^ width_of m n
      words = literals_fit m old ahead r s (filled_fits m fill old f)

pub map_zero : (xs : List ℕ) → map {B = ℕ} (λ (n : ℕ). 0) xs ≡ replicate (length xs) 0
map_zero [] = refl
map_zero (x ∷ xs) = ap (λ (l : List ℕ). 0 ∷ l) (map_zero xs)

cells_at : (depth x a : ℕ) → get_or (replicate depth x) a 0 ≡ cond (nat_lt a depth) x 0
cells_at depth x a = ⊎_elim within past (cases_lt a depth)
  where
    within : a < depth → get_or (replicate depth x) a 0 ≡ cond (nat_lt a depth) x 0
    within lt = cell_at depth x a lt ∙ sym (ap (λ b. cond b x 0) (lt-ltb a depth lt))

    past : depth ≤ a → get_or (replicate depth x) a 0 ≡ cond (nat_lt a depth) x 0
    past ge = get_or_past (replicate depth x) a 0 (omega (arith, length-replicate depth x)) ∙ sym (ap (λ b. cond b x 0) (le-ltb a depth ge))

abbrev made : (ℕ → ℕ) → (ℕ → ℕ → ℕ) → Contents
made regs cells = record { regs = regs; cells = cells }

filled_alone : (m : Module) (fill : ℕ) (held : List ℕ) (memories : List (List ℕ))
    → AreFilled fill m.nets held → memories ≡ map (words_at_start fill) m.mems
    → contents_of held memories ≡ filled_part (Some m) fill
filled_alone m fill held memories eh em =
    ap (λ (r : ℕ → ℕ). made r (λ k a. get_or (get_or memories k []) a 0)) (fun_ext (λ n. eh n ∙ nets_at fill m.nets n))
    ∙ ap (made (λ n. cond (is_reg m n) (fill % 2 ^ width_of m n) 0))
    (fun_ext (λ k. fun_ext (λ a. ap (λ (l : List (List ℕ)). get_or (get_or l k []) a 0) em
    ∙ ap (λ (l : List ℕ). get_or l a 0) (mems_at fill m.mems k)
    ∙ cells_at (depth_of m k) (fill % 2 ^ word_width m k) a)))

-- a simulator holds at first what the whole design holds at first
pub contents_filled :
    (d : Design) (h : IsAccepted d) (ps : List Scope) (n : Module) (f : IsFlat d ps n) (fill : ℕ) (held : List ℕ) (memories : List (List ℕ))
    → AreFilled fill n.nets held → memories ≡ map (words_at_start fill) n.mems
    → contents_by_path (top_of d) ps (contents_of held memories) ≡ start.filled d f.top fill
contents_filled d h ps n f fill held memories eh em =
    ap (λ o. contents_by_path o ps (contents_of held memories)) f.is_top
    ∙ ap (contents_by_path (Some f.top) ps) (filled_alone n fill held memories eh em)
    ∙ whole_filled d h f fill

-- what stands there at first is the low bits of a word, and words of their widths
pub part_filled : (m : Module) (fill : ℕ) → IsFilled m fill (filled_part (Some m) fill)
part_filled m fill =
    record {
      regs = λ n reg. ap (λ b. cond b (fill % 2 ^ width_of m n) 0) reg;
      cells = λ k a lt. ap (λ b. cond b (fill % 2 ^ word_width m k) 0) (lt-ltb a (depth_of m k) lt);
    }

part_words : (m : Module) (fill : ℕ) → HoldsWords m (filled_part (Some m) fill)
part_words m fill =
    record {
      regs = λ n reg. subst (λ (y : ℕ). y < 2 ^ width_of m n) (sym ((part_filled m fill).regs n reg))
          (mod_below fill (2 ^ width_of m n) (pow_pos (width_of m n)));
      cells = λ k a. choose (ltb a (depth_of m k)) (word_width m k);
    }
  where
    choose : (b : Bool) (w : ℕ) → cond b (fill % 2 ^ w) 0 < 2 ^ w
    choose true w = mod_below fill (2 ^ w) (pow_pos w)
    choose false w = pow_pos w

pub all_words : (d : Design) (m : Module) (fill : ℕ) → AllHold d m (start.filled d m fill)
all_words d m fill p part at = subst (λ o. HoldsWords part (filled_part o fill)) (sym at) (part_words part fill)
