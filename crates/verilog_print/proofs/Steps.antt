-- One step of the loops that print.
use Rattle.std.proofs.Common.{◌≡◌, ◌∙◌, ◌<◌, ◌≤◌, ◌+◌, ◌/◌, ◌%◌, ◌||◌, ◌==◌, ℕ, zero, suc, Bool}
use Rattle.std.proofs.Common.{true, false, List, [], ◌∷◌, ◌++◌, length, take, get_or, refl, sym, ap}
use Rattle.std.proofs.Common.{arith, append_assoc, add-one, ◌⊎◌, inl, inr, if◌then◌else◌}
use Rattle.std.proofs.Math.Seq.{take-suc}
use Rattle.std.proofs.Math.Nat.{div-lt_self, div-eq_of_lt}
use Rattle.std.proofs.lemmas.Bool.{lt-ltb, le-ltb}
use Rattle.std.proofs.Math.Dec.{ltb}
use Rattle.std.proofs.lemmas.List.{append-nil, take_all}
use Rattle.std.proofs.lemmas.Grind.{common_steps}
use Rattle.rtl_ir.specs.declared.design.Port.{Port}
use Rattle.rtl_ir.specs.declared.design.Net.{Net}
use Rattle.rtl_ir.specs.declared.design.Module.{Module}
use Rattle.rtl_ir.specs.declared.design.Update.{Update}
use Rattle.std.specs.Prelude.{codes}
use Rattle.std.specs.List.{flat_map, zip}
use Rattle.rtl_text.specs.Text.{is_port}
use Rattle.verilog_print.specs.Printed.{digit_byte, digits_from, digits, nets_text, declaration_text, update_text, updates_text}

is_port-append : (ps qs : List Port) (n : ℕ) → is_port (ps ++ qs) n ≡ (is_port ps n || is_port qs n)
is_port-append [] qs n = refl
is_port-append (p ∷ ps) qs n = grind (arith, common_steps, is_port-append ps qs n)

or_false : (b c : Bool) → (b || (c || false)) ≡ (b || c)
or_false b true = refl
or_false b false = refl

pub is_port_step : (ports : List Port) (i n : ℕ) (d : Port) → i < length ports → is_port (take (i + 1) ports) n ≡ (is_port (take i ports) n || ((get_or ports i d).net == n))
is_port_step ports i n d h = rw (add-one, take-suc ports i d h, is_port-append) (or_false (is_port (take i ports) n) ((get_or ports i d).net == n))

nets_text-append : (ports : List Port) (k : ℕ) (xs ys : List Net) → nets_text ports k (xs ++ ys) ≡ nets_text ports k xs ++ nets_text ports (k + length xs) ys
nets_text-append ports k [] ys = grind arith
nets_text-append ports k (x ∷ xs) ys =
    let moved : k + 1 + length xs ≡ k + suc (length xs) = omega arith in
    rw append_assoc (ap (λ t. declaration_text (is_port ports k) x ++ t) (nets_text-append ports (k + 1) xs ys ∙ ap (λ j. nets_text ports (k + 1) xs ++ nets_text ports j ys) moved))

pub nets_text_step : (ports : List Port) (nets : List Net) (i : ℕ) (d : Net) → i < length nets
    → nets_text ports 0 (take (i + 1) nets) ≡ nets_text ports 0 (take i nets) ++ declaration_text (is_port ports i) (get_or nets i d)
nets_text_step ports nets i d h =
    let at : 0 + length (take i nets) ≡ i = grind (arith, common_steps) in
    rw (add-one, take-suc nets i d h, nets_text-append) (rw (at, append-nil) refl)

pub net_printed : (ports : List Port) (nets : List Net) (marks : List Bool) (i : ℕ) (mark : Bool) (net : Net) (start old now : List ℕ) → i < length nets → length marks ≡ length nets
    → ((n : ℕ) → n < length nets → get_or marks n false ≡ is_port ports n) → mark ≡ get_or marks i mark → net ≡ get_or nets i net
    → old ≡ start ++ nets_text ports 0 (take i nets) → now ≡ old ++ declaration_text mark net → now ≡ start ++ nets_text ports 0 (take (i + 1) nets)
net_printed ports nets marks i mark net start old now h same marked m e o p =
    let is : get_or marks i false ≡ is_port ports i = marked i h in
    let k : mark ≡ is_port ports i = grind (arith, common_steps) in
    let step : nets_text ports 0 (take (i + 1) nets) ≡ nets_text ports 0 (take i nets) ++ declaration_text (is_port ports i) (get_or nets i net) = nets_text_step ports nets i net h in
    let assoc : (start ++ nets_text ports 0 (take i nets)) ++ declaration_text mark net ≡ start
    ++ (nets_text ports 0 (take i nets)
    ++ declaration_text mark net) = append_assoc start (nets_text ports 0 (take i nets))
    (declaration_text mark net) in
    cc

-- the digits, whatever fuel is left
pub large : (base f n : ℕ) → base ≤ n → digits_from base (suc f) n ≡ digits_from base f (n / base) ++ digit_byte (n % base) ∷ []
large base f n h = rw (le-ltb n base h) refl

pub small : (base f n : ℕ) → n < base → digits_from base f n ≡ digit_byte n ∷ []
small base zero n h = refl
small base (suc f) n h = rw (lt-ltb n base h) refl

pub by_less : (base n f : ℕ) → 2 ≤ base → n ≤ suc f → n / base ≤ f
by_less base zero f l k = let none : 0 / base ≡ 0 = div-eq_of_lt {n = 0} {m = base} (omega arith) in omega arith
by_less base (suc n) f l k = let less : suc n / base < suc n = div-lt_self {n = suc n} {k = base} (omega arith) (omega arith) in omega arith

same_digits : (base f g n : ℕ) → 2 ≤ base → n ≤ f → n ≤ g → digits_from base f n ≡ digits_from base g n
same_digits base zero g n l h k = sym (small base g n (omega arith))
same_digits base (suc f) zero n l h k = small base (suc f) n (omega arith)
same_digits base (suc f) (suc g) n l h k =
    elim (ltb n base) as (λ b. (if b then digit_byte n ∷ [] else digits_from base f (n / base)
    ++ digit_byte (n % base) ∷ []) ≡ (if b then digit_byte n
    ∷ [] else digits_from base g (n / base) ++ digit_byte (n % base) ∷ []))
    [ true ↦ refl | false ↦ ap (λ t. t ++ digit_byte (n % base) ∷ []) (same_digits base f g (n / base) l (by_less base n f l h) (by_less base n g l k)) ]

pub digits_small : (base n : ℕ) → n < base → digits base n ≡ digit_byte n ∷ []
unfolding digits
digits_small base n h = small base n n h

pub digits_large : (base n : ℕ) → 2 ≤ base → base ≤ n → digits base n ≡ digits base (n / base) ++ digit_byte (n % base) ∷ []
unfolding digits
digits_large base zero l h = absurd (omega arith)
digits_large base (suc n) l h =
    large base n (suc n) h ∙ ap (λ t. t ++ digit_byte (suc n % base) ∷ []) (same_digits base n (suc n / base) (suc n / base) l (by_less base (suc n) n l (omega arith)) (omega arith))

pub updates_none : (m : Module) (us : List Update) → length us ≡ 0 → updates_text m us ≡ []
unfolding updates_text
updates_none m [] h = refl
updates_none m (u ∷ us) h = absurd (omega arith)

pub updates_some : (m : Module) (us : List Update) → 0 < length us → updates_text m us ≡ codes "always @(posedge clk) begin\n" ++ flat_map (update_text m) us ++ codes "end\n"
unfolding updates_text
updates_some m [] h = absurd (omega arith)
updates_some m (u ∷ us) h = refl

-- a head, a line for each, and a tail
pub lines_printed : {A : Type 0} (line : A
    → List ℕ) (xs : List A) (i : ℕ) (head tail start a b c : List ℕ) → length xs ≤ i → a ≡ start
    ++ head → b ≡ a ++ flat_map line (take i xs) → c ≡ b ++ tail → c ≡ start
    ++ (head ++ flat_map line xs ++ tail)
lines_printed line xs i head tail start a b c h p q r =
    let all : take i xs ≡ xs = take_all i xs h in
    let lines : flat_map line (take i xs) ≡ flat_map line xs = ap (flat_map line) all in
    let joined : ((start ++ head) ++ flat_map line xs) ++ tail ≡ start ++ (head ++ flat_map line xs ++ tail) = simp append_assoc in
    cc

-- the pieces that are left: the first one behind this separator, and each later one behind a comma
abbrev pub pieces_left : {A : Type 0} → (A → List ℕ) → List ℕ → List A → List ℕ
pieces_left piece separator [] = []
pieces_left piece separator (x ∷ xs) = separator ++ (piece x ++ flat_map (λ y. codes ", " ++ piece y) xs)

pub zip_none : {A B : Type 0} (xs : List A) (ys : List B) → (xs ≡ []) ⊎ (ys ≡ []) → zip xs ys ≡ []
zip_none xs ys (inl e) = rw e refl
zip_none [] ys (inr e) = refl
zip_none (x ∷ xs) ys (inr e) = rw e refl
