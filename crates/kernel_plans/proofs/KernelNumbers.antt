-- The numbers of the classes of kernels.
use Rattle.std.proofs.Common.{
  ◌≡◌,
  ℕ,
  suc,
  ◌+◌,
  Bool,
  true,
  false,
  cond,
  not,
  ◌&&◌,
  List,
  [],
  ◌∷◌,
  Some,
  None,
  refl,
  sym,
  ap,
  ◌∙◌,
  arith,
}
use Rattle.std.specs.Prelude.{Option, bytes_eq, map, if◌then◌else◌}
use Rattle.std.specs.Option.{option_map}
use Rattle.std.specs.Borrow.{Bor}
use Rattle.std.specs.Map.{lookup}
use Rattle.maxj_syntax.specs.Cells.{Cell}
use Rattle.maxj_syntax.specs.Tree.{ClassTree, ClassesAre}
use Rattle.maxj_syntax.specs.declared.tree.Class.{Class}
use Rattle.kernel_meaning.specs.Managers.{kernel_number}

-- the number of the kernel's class of a name, where the classes are numbered from this number on
abbrev pub number_from : ℕ → List Class → List ℕ → Option ℕ
number_from k [] name = None
number_from k (class ∷ classes) name =
    if not class.manager && bytes_eq class.name name then Some k else number_from (k + 1) classes name

-- a kernel before the others is the first one of its name
pub put_kernel : (k : ℕ) (class : Class) (classes : List Class) (name : List ℕ) (new old : Option ℕ)
    → class.manager ≡ false → new ≡ cond (bytes_eq class.name name) (Some k) old
    → old ≡ number_from (k + 1) classes name → new ≡ number_from k (class ∷ classes) name
put_kernel k class classes name new old m e h =
    e ∙ (ap (cond (bytes_eq class.name name) (Some k)) h
    ∙ sym (ap (λ b. cond (not b && bytes_eq class.name name) (Some k)
    (number_from (k + 1) classes name)) m))

-- a manager is none
pub skip_manager : (k : ℕ) (class : Class) (classes : List Class) (name : List ℕ) (old : Option ℕ)
    → class.manager ≡ true → old ≡ number_from (k + 1) classes name
    → old ≡ number_from k (class ∷ classes) name
skip_manager k class classes name old m h =
    h ∙ sym (ap (λ b. cond (not b && bytes_eq class.name name) (Some k)
    (number_from (k + 1) classes name)) m)

further : (k : ℕ) (o : Option ℕ) → option_map (λ n. k + 1 + n) o
    ≡ option_map (λ n. k + n) (option_map suc o)
further k None = refl
further k (Some n) = let e : k + 1 + n ≡ k + suc n = omega arith in ap Some e

by_head : (k : ℕ) (b : Bool) (o : Option ℕ) → cond b (Some k) (option_map (λ n. k + 1 + n) o)
    ≡ option_map (λ n. k + n) (cond b (Some 0) (option_map suc o))
by_head k true o = let e : k ≡ k + 0 = omega arith in ap Some e
by_head k false o = further k o

-- the classes have the numbers of their trees
pub numbers : (cells : List Cell) (k : ℕ) (classes : List Class) (trees : List ClassTree)
    (name : List ℕ) → ClassesAre cells classes trees
    → number_from k classes name ≡ option_map (λ n. k + n) (kernel_number trees name)
numbers cells k [] [] name h = refl
numbers cells k [] (t ∷ ts) name h = absurd h
numbers cells k (c ∷ cs) [] name h = absurd h
numbers cells k (c ∷ cs) (t ∷ ts) name h =
    ap (λ b. cond (not b && bytes_eq c.name name) (Some k) (number_from (k + 1) cs name)) h.0.manager
    ∙ (ap (λ w. cond (not t.manager && bytes_eq w name) (Some k) (number_from (k + 1) cs name))
    h.0.name
    ∙ (ap (cond (not t.manager && bytes_eq t.name name) (Some k))
    (numbers cells (k + 1) cs ts name h.1)
    ∙ by_head k (not t.manager && bytes_eq t.name name) (kernel_number ts name)))

from_none : (o : Option ℕ) → option_map (λ n. 0 + n) o ≡ o
from_none None = refl
from_none (Some n) = let e : 0 + n ≡ n = omega arith in ap Some e

pub all_numbers : (cells : List Cell) (classes : List Class) (trees : List ClassTree)
    (name : List ℕ) → ClassesAre cells classes trees
    → number_from 0 classes name ≡ kernel_number trees name
all_numbers cells classes trees name h =
    numbers cells 0 classes trees name h ∙ from_none (kernel_number trees name)

-- the entries with plain names say the same
pub plain_names : (entries : List (Bor (List ℕ) × ℕ)) (name : List ℕ)
    → lookup (bytes_eq name) (map (λ entry. (entry.0.now, entry.1)) entries)
    ≡ lookup (λ key. bytes_eq name key.now) entries
plain_names [] name = refl
plain_names (e ∷ es) name =
    ap (cond (bytes_eq name e.0.now) (Some e.1)) (plain_names es name)
