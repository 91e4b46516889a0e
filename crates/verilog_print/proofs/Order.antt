-- The nets of a module in the order in which its text declares them: those of its ports, and then the others.
use Rattle.std.proofs.Common.{◌≡◌, ◌∙◌, ◌⊎◌, inl, inr, ℕ, zero, suc, ◌+◌, ◌<◌, ◌≤◌, Bool, true, false, ◌||◌, ◌==◌, List, [], ◌∷◌, ◌++◌, length, refl, sym, ap, subst, arith, Some, if◌then◌else◌}
use Rattle.std.specs.Prelude.{map, slice_get}
use Rattle.std.specs.Option.{option_map}
use Rattle.std.proofs.lemmas.Option.{slice_get-map}
use Rattle.std.proofs.lemmas.Bool.Decides.{Decides-eqb}
use Rattle.rtl_ir.specs.declared.design.Net.{Net}
use Rattle.rtl_ir.specs.declared.design.Port.{Port}
use Rattle.rtl_ir.specs.declared.design.Module.{Module}
use Rattle.rtl_ir.specs.Formed.{IsFormedPort, IsFormedModule}
use Rattle.rtl_text.specs.Text.{is_port}

-- the place of a number in a list
abbrev pub place_of : List ℕ → ℕ → ℕ
place_of [] n = 0
place_of (x ∷ xs) n = if x == n then 0 else suc (place_of xs n)

place_step : (x : ℕ) (xs : List ℕ) (n : ℕ) (b : Bool) → (x == n) ≡ b → (b ≡ false → slice_get xs (place_of xs n) ≡ Some n) → slice_get (x ∷ xs) (if b then 0 else suc (place_of xs n)) ≡ Some n
place_step x xs n true e f = ap (λ (v : ℕ). Some v) ((Decides-eqb x n).0 e)
place_step x xs n false e f = f refl

pub at_place : (xs : List ℕ) (i n : ℕ) → slice_get xs i ≡ Some n → slice_get xs (place_of xs n) ≡ Some n
at_place [] i n h = absurd (cc)
at_place (x ∷ xs) zero n h =
    let same : x ≡ n = cc in
    let yes : (x == n) ≡ true = (Decides-eqb x n).1 same in
    place_step x xs n (x == n) refl (λ no. absurd (cc))
at_place (x ∷ xs) (suc i) n h = place_step x xs n (x == n) refl (λ no. at_place xs i n h)

-- a number that isn't in a list, and lists of different numbers
abbrev pub IsAbsent : ℕ → List ℕ → Type 0
IsAbsent n xs = (i : ℕ) → slice_get xs i ≡ Some n → ⊥

abbrev pub AllApart : List ℕ → Type 0
AllApart [] = Unit {0}
AllApart (x ∷ xs) = IsAbsent x xs × AllApart xs

pub same_place : (xs : List ℕ) (i j n : ℕ) → AllApart xs → slice_get xs i ≡ Some n → slice_get xs j ≡ Some n → i ≡ j
same_place [] i j n a h k = absurd (cc)
same_place (x ∷ xs) zero zero n a h k = refl
same_place (x ∷ xs) zero (suc j) n a h k = let same : n ≡ x = cc in absurd (a.0 j (k ∙ ap (λ (v : ℕ). Some v) same))
same_place (x ∷ xs) (suc i) zero n a h k = let same : n ≡ x = cc in absurd (a.0 i (h ∙ ap (λ (v : ℕ). Some v) same))
same_place (x ∷ xs) (suc i) (suc j) n a h k = ap suc (same_place xs i j n a.1 h k)

pub in_left : (xs ys : List ℕ) (i n : ℕ) → slice_get xs i ≡ Some n → slice_get (xs ++ ys) i ≡ Some n
in_left [] ys i n h = absurd (cc)
in_left (x ∷ xs) ys zero n h = h
in_left (x ∷ xs) ys (suc i) n h = in_left xs ys i n h

in_right : (xs ys : List ℕ) (i n : ℕ) → slice_get ys i ≡ Some n → (j : ℕ) × (slice_get (xs ++ ys) j ≡ Some n)
in_right [] ys i n h = (i, h)
in_right (x ∷ xs) ys i n h = let (j, e) = in_right xs ys i n h in (suc j, e)

in_either : (xs ys : List ℕ) (i n : ℕ) → slice_get (xs ++ ys) i ≡ Some n → ((j : ℕ) × (slice_get xs j ≡ Some n)) ⊎ ((j : ℕ) × (slice_get ys j ≡ Some n))
in_either [] ys i n h = inr (i, h)
in_either (x ∷ xs) ys zero n h = inl (zero, h)
in_either (x ∷ xs) ys (suc i) n h = later (in_either xs ys i n h)
  where
    later : ((j : ℕ) × (slice_get xs j ≡ Some n)) ⊎ ((j : ℕ) × (slice_get ys j ≡ Some n)) → ((j : ℕ) × (slice_get (x ∷ xs) j ≡ Some n)) ⊎ ((j : ℕ) × (slice_get ys j ≡ Some n))
    later (inl (j, e)) = inl (suc j, e)
    later (inr f) = inr f

absent_both : (x : ℕ) (xs ys : List ℕ) → IsAbsent x xs → IsAbsent x ys → IsAbsent x (xs ++ ys)
absent_both x xs ys f g i h = go (in_either xs ys i x h)
  where
    go : ((j : ℕ) × (slice_get xs j ≡ Some x)) ⊎ ((j : ℕ) × (slice_get ys j ≡ Some x)) → ⊥
    go (inl (j, e)) = f j e
    go (inr (j, e)) = g j e

apart_both : (xs ys : List ℕ) → AllApart xs → AllApart ys → ((i j n : ℕ) → slice_get xs i ≡ Some n → slice_get ys j ≡ Some n → ⊥) → AllApart (xs ++ ys)
apart_both [] ys a b f = b
apart_both (x ∷ xs) ys a b f = (absent_both x xs ys a.0 (λ j e. f zero j x refl e), apart_both xs ys a.1 b (λ i j n h k. f (suc i) j n h k))

-- the numbers of the nets from number k on that are no port's
abbrev pub others_from : List Port → ℕ → List Net → List ℕ
others_from ports k [] = []
others_from ports k (n ∷ ns) = if is_port ports k then others_from ports (k + 1) ns else k ∷ others_from ports (k + 1) ns

pub record IsOther (ports : List Port) (k count n : ℕ) : Type 0 where
  pub from : k ≤ n
  pub below : n < k + count
  pub other : is_port ports n ≡ false

others_are : (ports : List Port) (k : ℕ) (ns : List Net) (i n : ℕ) → slice_get (others_from ports k ns) i ≡ Some n → IsOther ports k (length ns) n
others_are ports k [] i n h = absurd (cc)
others_are ports k (x ∷ ns) i n h = go (λ j e. others_are ports (k + 1) ns j n e) (is_port ports k) refl i h
  where
    later : IsOther ports (k + 1) (length ns) n → IsOther ports k (suc (length ns)) n
    later o = let from = o.from in let below = o.below in record { from = omega arith; below = omega arith; other = o.other }

    go : ((j : ℕ) → slice_get (others_from ports (k + 1) ns) j ≡ Some n → IsOther ports (k + 1) (length ns) n) → (b : Bool) → is_port ports k ≡ b → (i : ℕ)
        → slice_get (if b then others_from ports (k + 1) ns else k ∷ others_from ports (k + 1) ns) i ≡ Some n → IsOther ports k (suc (length ns)) n
    go f true e i h = later (f i h)
    go f false e zero h = let same : k ≡ n = cc in record { from = omega arith; below = omega arith; other = subst (λ (v : ℕ). is_port ports v ≡ false) same e }
    go f false e (suc i) h = later (f i h)

others_apart : (ports : List Port) (k : ℕ) (ns : List Net) → AllApart (others_from ports k ns)
others_apart ports k [] = tt
others_apart ports k (x ∷ ns) = go (is_port ports k) (others_apart ports (k + 1) ns)
  where
    go : (b : Bool) → AllApart (others_from ports (k + 1) ns) → AllApart (if b then others_from ports (k + 1) ns else k ∷ others_from ports (k + 1) ns)
    go true a = a
    go false a = (λ i e. let o = others_are ports (k + 1) ns i k e in let from = o.from in absurd (omega arith), a)

in_others : (ports : List Port) (k : ℕ) (ns : List Net) (d n : ℕ) → d < length ns → k + d ≡ n → is_port ports n ≡ false → (i : ℕ) × (slice_get (others_from ports k ns) i ≡ Some n)
in_others ports k [] d n h s e = absurd (omega arith)
in_others ports k (x ∷ ns) zero n h s e =
    let same : k ≡ n = omega arith in
    let none : is_port ports k ≡ false = subst (λ (v : ℕ). is_port ports v ≡ false) (sym same) e in
    (zero, subst (λ b. slice_get (if b then others_from ports (k + 1) ns else k ∷ others_from ports (k + 1) ns) 0 ≡ Some n) (sym none) (ap (λ (v : ℕ). Some v) same))
in_others ports k (x ∷ ns) (suc d) n h s e = go (is_port ports k) (in_others ports (k + 1) ns d n (omega arith) (omega arith) e)
  where
    go : (b : Bool) → (i : ℕ) × (slice_get (others_from ports (k + 1) ns) i ≡ Some n) → (i : ℕ) × (slice_get (if b then others_from ports (k + 1) ns else k ∷ others_from ports (k + 1) ns) i ≡ Some n)
    go true f = f
    go false (i, f) = (suc i, f)

-- ports
abbrev pub port_numbers : List Port → List ℕ
port_numbers ports = map (λ (p : Port). p.net) ports

in_ports : (ports : List Port) (n : ℕ) → is_port ports n ≡ true → (i : ℕ) × (p : Port) × (slice_get ports i ≡ Some p) × (p.net ≡ n)
in_ports [] n e = absurd (cc)
in_ports (p ∷ ports) n e = go (λ h. in_ports ports n h) (p.net == n) refl e
  where
    go : (is_port ports n ≡ true → (i : ℕ) × (q : Port) × (slice_get ports i ≡ Some q) × (q.net ≡ n)) → (b : Bool) → (p.net == n) ≡ b → (b || is_port ports n) ≡ true
        → (i : ℕ) × (q : Port) × (slice_get (p ∷ ports) i ≡ Some q) × (q.net ≡ n)
    go f true t h = (zero, p, refl, (Decides-eqb p.net n).0 t)
    go f false t h = let (i, q, at, same) = f h in (suc i, q, at, same)

pub numbers_at : (ports : List Port) (i : ℕ) (p : Port) → slice_get ports i ≡ Some p → slice_get (port_numbers ports) i ≡ Some p.net
numbers_at ports i p e = slice_get-map (λ (q : Port). q.net) ports i ∙ ap (option_map (λ (q : Port). q.net)) e

at_numbers : (ports : List Port) (i n : ℕ) → slice_get (port_numbers ports) i ≡ Some n → (p : Port) × (slice_get ports i ≡ Some p) × (p.net ≡ n)
at_numbers [] i n h = absurd (cc)
at_numbers (p ∷ ports) zero n h = (p, refl, cc)
at_numbers (p ∷ ports) (suc i) n h = at_numbers ports i n h

-- a port's net is marked
marked_first : (p : Port) (n : ℕ) (others : Bool) → p.net ≡ n → ((p.net == n) || others) ≡ true
marked_first p n others e = rw ((Decides-eqb p.net n).1 e) refl

marked_later : (a b : Bool) → b ≡ true → (a || b) ≡ true
marked_later true b e = refl
marked_later false b e = e

number_marked : (ports : List Port) (i : ℕ) (p : Port) (n : ℕ) → slice_get ports i ≡ Some p → p.net ≡ n → is_port ports n ≡ true
number_marked [] i p n e s = absurd (cc)
number_marked (q ∷ ports) zero p n e s = let same : q.net ≡ n = cc in marked_first q n (is_port ports n) same
number_marked (q ∷ ports) (suc i) p n e s = marked_later (q.net == n) (is_port ports n) (number_marked ports i p n e s)

abbrev PortsApart : List Port → Type 0
PortsApart ports = (j k : ℕ) (p q : Port) → slice_get ports j ≡ Some p → slice_get ports k ≡ Some q → p.net ≡ q.net → j ≡ k

ports_apart : (ports : List Port) → PortsApart ports → AllApart (port_numbers ports)
ports_apart [] f = tt
ports_apart (p ∷ ports) f = (
  λ i e. let (q, at, same) = at_numbers ports i p.net e in let no : 0 ≡ suc i = f zero (suc i) p q refl at (sym same) in absurd (omega arith),
  ports_apart ports (λ j k q r a b e. let same : suc j ≡ suc k = f (suc j) (suc k) q r a b e in omega arith),
)

-- the numbers of all nets in the order of the text
abbrev pub order : Module → List ℕ
order m = port_numbers m.ports ++ others_from m.ports 0 m.nets

pub order_apart : (m : Module) {earlier : List Module} → IsFormedModule earlier m → AllApart (order m)
order_apart m f =
    apart_both (port_numbers m.ports) (others_from m.ports 0 m.nets) (ports_apart m.ports f.apart) (others_apart m.ports 0 m.nets)
    (λ i j n h k. let (p, at, same) = at_numbers m.ports i n h in let yes = number_marked m.ports i p n at same in let no = (others_are m.ports 0 m.nets j n k).other in absurd (cc))

pub in_order : (m : Module) (n : ℕ) → n < length m.nets → (i : ℕ) × (slice_get (order m) i ≡ Some n)
in_order m n h = go (is_port m.ports n) refl
  where
    go : (b : Bool) → is_port m.ports n ≡ b → (i : ℕ) × (slice_get (order m) i ≡ Some n)
    go true e = let (i, p, at, same) = in_ports m.ports n e in (i, in_left (port_numbers m.ports) (others_from m.ports 0 m.nets) i n (numbers_at m.ports i p at ∙ ap (λ (v : ℕ). Some v) same))
    go false e = let (i, at) = in_others m.ports 0 m.nets n n h (omega arith) e in in_right (port_numbers m.ports) (others_from m.ports 0 m.nets) i n at

pub order_within : (m : Module) {earlier : List Module} → IsFormedModule earlier m → (i n : ℕ) → slice_get (order m) i ≡ Some n → n < length m.nets
order_within m f i n h = go (in_either (port_numbers m.ports) (others_from m.ports 0 m.nets) i n h)
  where
    go : ((j : ℕ) × (slice_get (port_numbers m.ports) j ≡ Some n)) ⊎ ((j : ℕ) × (slice_get (others_from m.ports 0 m.nets) j ≡ Some n)) → n < length m.nets
    go (inl (j, e)) = let (p, at, same) = at_numbers m.ports j n e in subst (λ (v : ℕ). v < length m.nets) same (f.ports j p at).net
    go (inr (j, e)) = let o = others_are m.ports 0 m.nets j n e in let below = o.below in omega arith

-- a port's net is a wire
pub port_is_wire : (m : Module) {earlier : List Module} → IsFormedModule earlier m → (n : ℕ) → is_port m.ports n ≡ true → (p : Port) × IsFormedPort m p × (p.net ≡ n)
port_is_wire m f n e = let (i, p, at, same) = in_ports m.ports n e in (p, f.ports i p at, same)
