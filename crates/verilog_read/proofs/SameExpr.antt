-- An expression is known by its names, where these are those of one net each.
use Rattle.std.proofs.Common.{◌≡◌, ◌∙◌, ℕ, ◌<◌, ◌≤◌, ◌^◌, refl, sym, ap, subst}
use Rattle.std.proofs.Math.Bridge.{le_prop}
use Rattle.mx_bits.specs.declared.word.Word.{Word}
use Rattle.rtl_ir.specs.declared.design.Sign.{Sign}
use Rattle.rtl_ir.specs.declared.design.Expr.{Expr}
use Rattle.rtl_ir.specs.declared.design.Expr.TheVariants as exprs
use Rattle.rtl_ir.specs.declared.design.Module.{Module}
use Rattle.rtl_text.specs.Tree.{Name, ExprTree, PlainTree, LiteralTree, NotTree, BinaryTree, ConcatTree, RepeatTree, PartTree, ChooseTree, CellTree}
use Rattle.rtl_text.specs.Text.{IsNet, IsMem, ExprIs}

same_word_by : (b c : ℕ) (w v : ℕ) (p : b ≡ c) (q : w ≡ v) (s : 1 ≤ w) (s' : 1 ≤ v) (a : w ≤ 128) (a' : v ≤ 128) (f : b < 2 ^ w) (f' : c < 2 ^ v)
    → ◌≡◌ {A = Word} (record { bits = b; width = w; some = s; at_most = a; fits = f }) (record { bits = c; width = v; some = s'; at_most = a'; fits = f' })
same_word_by b c w v p q s s' a a' f f' =
    subst (λ n. (g : 1 ≤ n) (h : n ≤ 128) (k : c < 2 ^ n)
    → ◌≡◌ {A = Word} (record { bits = b; width = w; some = s; at_most = a; fits = f })
    (record { bits = c; width = n; some = g; at_most = h; fits = k })) q
    (λ g h k. subst (λ n. (k : n < 2 ^ w) → ◌≡◌ {A = Word} (record { bits = b; width = w; some = s; at_most = a; fits = f }) (record { bits = n; width = w; some = g; at_most = h; fits = k })) p
    (λ k. λ i. record { bits = b; width = w; some = le_prop s g i; at_most = le_prop a h i; fits = le_prop f k i }) k) s' a' f'

same_word : (x y : Word) → x.bits ≡ y.bits → x.width ≡ y.width → x ≡ y
same_word x y p q = same_word_by x.bits y.bits x.width y.width p q x.some y.some x.at_most y.at_most x.fits y.fits

module _ (m : Module) where
  pub plain_shape : (a : Name) (e : Expr) → ExprIs m (PlainTree a) e → (i : ℕ) × (e ≡ exprs.Net i) × IsNet m a i
  plain_shape a (exprs.Net i) h = (i, refl, h)
  plain_shape a _ h = absurd h

  pub literal_shape : (w x : ℕ) (e : Expr) → ExprIs m (LiteralTree w x) e → (i : Word) × (e ≡ exprs.Literal i) × (i.width ≡ w) × (i.bits ≡ x)
  literal_shape w x (exprs.Literal i) h = (i, refl, h.0, h.1)
  literal_shape w x _ h = absurd h

  pub not_shape : (a : Name) (e : Expr) → ExprIs m (NotTree a) e → (i : ℕ) × (e ≡ exprs.Not i) × IsNet m a i
  not_shape a (exprs.Not i) h = (i, refl, h)
  not_shape a _ h = absurd h

  pub binary_shape : (s : Sign) (a b : Name) (e : Expr) → ExprIs m (BinaryTree s a b) e → (t : Sign) × (i : ℕ) × (j : ℕ) × (e ≡ exprs.Binary t i j) × (s ≡ t) × IsNet m a i × IsNet m b j
  binary_shape s a b (exprs.Binary t i j) h = (t, i, j, refl, h.0, h.1, h.2)
  binary_shape s a b _ h = absurd h

  pub concat_shape : (a b : Name) (e : Expr) → ExprIs m (ConcatTree a b) e → (i : ℕ) × (j : ℕ) × (e ≡ exprs.Concat i j) × IsNet m a i × IsNet m b j
  concat_shape a b (exprs.Concat i j) h = (i, j, refl, h.0, h.1)
  concat_shape a b _ h = absurd h

  pub repeat_shape : (n : ℕ) (a : Name) (e : Expr) → ExprIs m (RepeatTree n a) e → (o : ℕ) × (i : ℕ) × (e ≡ exprs.Repeat o i) × (n ≡ o) × IsNet m a i
  repeat_shape n a (exprs.Repeat o i) h = (o, i, refl, h.0, h.1)
  repeat_shape n a _ h = absurd h

  pub part_shape : (a : Name) (hi lo : ℕ) (e : Expr) → ExprIs m (PartTree a hi lo) e → (i : ℕ) × (k : ℕ) × (l : ℕ) × (e ≡ exprs.Part i k l) × (hi ≡ k) × (lo ≡ l) × IsNet m a i
  part_shape a hi lo (exprs.Part i k l) h = (i, k, l, refl, h.0, h.1, h.2)
  part_shape a hi lo _ h = absurd h

  pub choose_shape : (c a b : Name) (e : Expr) → ExprIs m (ChooseTree c a b) e → (k : ℕ) × (i : ℕ) × (j : ℕ) × (e ≡ exprs.Choose k i j) × IsNet m c k × IsNet m a i × IsNet m b j
  choose_shape c a b (exprs.Choose k i j) h = (k, i, j, refl, h.0, h.1, h.2)
  choose_shape c a b _ h = absurd h

  pub cell_shape : (x a : Name) (e : Expr) → ExprIs m (CellTree x a) e → (k : ℕ) × (i : ℕ) × (e ≡ exprs.Cell k i) × IsMem m x k × IsNet m a i
  cell_shape x a (exprs.Cell k i) h = (k, i, refl, h.0, h.1)
  cell_shape x a _ h = absurd h

-- two expressions of one tree, in two modules in which each name is that of one net and one memory
pub same_expr : (m n : Module) → ((a : Name) (i j : ℕ) → IsNet m a i → IsNet n a j → j ≡ i)
    → ((a : Name) (i j : ℕ) → IsMem m a i → IsMem n a j → j ≡ i) → (t : ExprTree) (x y : Expr)
    → ExprIs m t x → ExprIs n t y → y ≡ x
same_expr m n net mem (PlainTree a) x y h g =
    let (i, p, r) = plain_shape m a x h in let (j, q, s) = plain_shape n a y g in
    q ∙ ap (λ k. exprs.Net k) (net a i j r s) ∙ sym p
same_expr m n net mem (LiteralTree w z) x y h g =
    let (i, p, r, r') = literal_shape m w z x h in let (j, q, s, s') = literal_shape n w z y g in
    q ∙ ap (λ k. exprs.Literal k) (same_word j i (s' ∙ sym r') (s ∙ sym r)) ∙ sym p
same_expr m n net mem (NotTree a) x y h g =
    let (i, p, r) = not_shape m a x h in let (j, q, s) = not_shape n a y g in
    q ∙ ap (λ k. exprs.Not k) (net a i j r s) ∙ sym p
same_expr m n net mem (BinaryTree o a b) x y h g =
    let (t, i, j, p, r, r', r'') = binary_shape m o a b x h in let (u, k, l, q, s, s', s'') = binary_shape n o a b y g in
    let e = sym s ∙ r in let f = net a i k r' s' in let e' = net b j l r'' s'' in
    q ∙ (λ d. exprs.Binary (e d) (f d) (e' d)) ∙ sym p
same_expr m n net mem (ConcatTree a b) x y h g =
    let (i, j, p, r, r') = concat_shape m a b x h in let (k, l, q, s, s') = concat_shape n a b y g in
    let e = net a i k r s in let f = net b j l r' s' in
    q ∙ (λ d. exprs.Concat (e d) (f d)) ∙ sym p
same_expr m n net mem (RepeatTree o a) x y h g =
    let (t, i, p, r, r') = repeat_shape m o a x h in let (u, k, q, s, s') = repeat_shape n o a y g in
    let e = sym s ∙ r in let f = net a i k r' s' in
    q ∙ (λ d. exprs.Repeat (e d) (f d)) ∙ sym p
same_expr m n net mem (PartTree a hi lo) x y h g =
    let (i, t, t', p, r, r', r'') = part_shape m a hi lo x h in let (k, u, u', q, s, s', s'') = part_shape n a hi lo y g in
    let e = sym s ∙ r in let f = sym s' ∙ r' in let e' = net a i k r'' s'' in
    q ∙ (λ d. exprs.Part (e' d) (e d) (f d)) ∙ sym p
same_expr m n net mem (ChooseTree c a b) x y h g =
    let (i, j, o, p, r, r', r'') = choose_shape m c a b x h in let (k, l, v, q, s, s', s'') = choose_shape n c a b y g in
    let e = net c i k r s in let f = net a j l r' s' in let e' = net b o v r'' s'' in
    q ∙ (λ d. exprs.Choose (e d) (f d) (e' d)) ∙ sym p
same_expr m n net mem (CellTree z a) x y h g =
    let (i, j, p, r, r') = cell_shape m z a x h in let (k, l, q, s, s') = cell_shape n z a y g in
    let e = mem z i k r s in let f = net a j l r' s' in
    q ∙ (λ d. exprs.Cell (e d) (f d)) ∙ sym p
