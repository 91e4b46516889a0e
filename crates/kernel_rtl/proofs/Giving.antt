-- The words of ports and of registers, as they are written.
use Rattle.std.proofs.Common.{
  ◌≡◌,
  ◌≢◌,
  ℕ,
  zero,
  suc,
  ◌+◌,
  ◌<◌,
  ◌≤◌,
  Bool,
  true,
  false,
  eqb,
  eqb-true,
  List,
  [],
  ◌∷◌,
  ◌++◌,
  map,
  length,
  take,
  drop,
  get_or,
  set,
  Some,
  refl,
  sym,
  ap,
  ◌∙◌,
  subst,
  arith,
}
use Rattle.std.specs.Prelude.{slice_get}
use Rattle.std.proofs.lemmas.Bool.{false≢true}
use Rattle.std.proofs.lemmas.List.{get_or-set_same, get_or-set_other}
use Rattle.rtl_build.specs.declared.signal.Signal.{Signal}
use Rattle.rtl_delays.proofs.Added.{within}
use Rattle.stream_graph.specs.declared.node.Kind.{Kind}
use Rattle.stream_graph.specs.declared.node.Node.{Node}
use Rattle.stream_graph.specs.LookUps.{kind_at}
use Rattle.kernel_control.specs.Ports.{numbers_from}
use Rattle.kernel_ports.specs.declared.signals.NodeSignal.{NodeSignal}
use Rattle.kernel_wiring.specs.Words.{no_signal}
use Rattle.kernel_rtl.specs.Words.{IsGivenBy}
use Rattle.kernel_rtl.proofs.Numbers.{map_got, has_number}

-- what stands past the last port of a scalar
abbrev pub no_scalar : NodeSignal
no_scalar = record { node = 0; signal = record { net = 0; width = 0 } }

got_at : {A : Type 0} (xs : List A) (k : ℕ) (x d : A) → slice_get xs k ≡ Some x → get_or xs k d ≡ x
got_at [] k x d h = absurd (cc)
got_at (y ∷ xs) zero x d h = cc
got_at (y ∷ xs) (suc k) x d h = got_at xs k x d h

is_there : {A : Type 0} (xs : List A) (k : ℕ) (d : A) → k < length xs → slice_get xs k ≡ Some (get_or xs k d)
is_there [] k d h = absurd (omega arith)
is_there (y ∷ xs) zero d h = refl
is_there (y ∷ xs) (suc k) d h = is_there xs k d (omega arith)

other_node : (a b : ℕ) → eqb a b ≡ false → a ≢ b
other_node a b e q = grind (arith, e, q)

-- nodes that differ in a test differ
pub apart : (nodes : List Node) (test : Kind → Bool) (a b : ℕ) → test (kind_at nodes a) ≡ true → test (kind_at nodes b) ≡ false → a ≢ b
apart nodes test a b e f same = false≢true (sym f ∙ ap (λ n. test (kind_at nodes n)) (sym same) ∙ e)

module _ {A : Type 0} (node : A → ℕ) (word : A → Signal) (ports : List A) where
  -- another node's word is written
  pub given_kept : (words : List Signal) (at : ℕ) (s : Signal) (n : ℕ) → n ≢ at → IsGivenBy node word ports words n
      → IsGivenBy node word ports (set words at s) n
  given_kept words at s n other g = record {
    place = g.place;
    port = g.port;
    at = g.at;
    own = g.own;
    is = get_or-set_other words at n s no_signal other ∙ g.is;
  }

  -- one more port's word is written
  pub word_more : (items : List A) (words : List Signal) (k : ℕ) (d : A) → items ≡ ports → k < length items → node (get_or items k d) < length words
      → ((port : A) (i : ℕ) → i < k → slice_get ports i ≡ Some port → IsGivenBy node word ports words (node port))
      → (port : A) (i : ℕ) → i < k + 1 → slice_get ports i ≡ Some port
      → IsGivenBy node word ports (set words (node (get_or items k d)) (word (get_or items k d))) (node port)
  word_more items words k d same lk ln h port i li e = by_node (eqb (node port) (node (get_or items k d))) refl
    where
      now : List Signal
      now = set words (node (get_or items k d)) (word (get_or items k d))

      here : IsGivenBy node word ports now (node (get_or items k d))
      here = record {
        place = k;
        port = get_or items k d;
        at = ap (λ xs. slice_get xs k) (sym same) ∙ is_there items k d lk;
        own = refl;
        is = get_or-set_same words (node (get_or items k d)) (word (get_or items k d)) no_signal ln;
      }

      last_port : i ≡ k → port ≡ get_or items k d
      last_port s = sym (got_at items i port d (ap (λ xs. slice_get xs i) same ∙ e)) ∙ ap (λ j. get_or items j d) s

      by_place : node port ≢ node (get_or items k d) → (b : Bool) → eqb i k ≡ b → IsGivenBy node word ports now (node port)
      by_place other true t = absurd (other (ap node (last_port (eqb-true i k t))))
      by_place other false t =
          given_kept words (node (get_or items k d)) (word (get_or items k d)) (node port) other (h port i (grind (arith, li, t)) e)

      by_node : (b : Bool) → eqb (node port) (node (get_or items k d)) ≡ b → IsGivenBy node word ports now (node port)
      by_node true t = subst (IsGivenBy node word ports now) (sym (eqb-true (node port) _ t)) here
      by_node false t = by_place (other_node (node port) (node (get_or items k d)) t) (eqb i k) refl

  -- all ports are done
  pub all_ports : (items : List A) (words : List Signal) (k : ℕ) → items ≡ ports → length items ≤ k
      → ((port : A) (i : ℕ) → i < k → slice_get ports i ≡ Some port → IsGivenBy node word ports words (node port))
      → (port : A) (i : ℕ) → slice_get ports i ≡ Some port → IsGivenBy node word ports words (node port)
  all_ports items words k same le h port i e =
      h port i (let lt = within ports i port e in let size = ap length same in omega (arith, lt, le, size)) e

  -- the word of each node of a kind, where the ports are those of the kind
  pub given_at : (nodes : List Node) (is_kind : Kind → Bool) (words : List Signal) → map node ports ≡ numbers_from is_kind 0 nodes
      → ((port : A) (i : ℕ) → slice_get ports i ≡ Some port → IsGivenBy node word ports words (node port))
      → (n : ℕ) → n < length nodes → is_kind (kind_at nodes n) ≡ true → IsGivenBy node word ports words n
  given_at nodes is_kind words same each n lt kind =
      let j = has_number is_kind 0 nodes n lt kind in
      let sum : 0 + n ≡ n = omega arith in
      let at : slice_get (map node ports) j.0 ≡ Some n = ap (λ xs. slice_get xs j.0) same ∙ j.1 ∙ ap Some sum in
      let port = map_got node ports j.0 n at in
      subst (IsGivenBy node word ports words) port.1.1 (each port.0 j.0 port.1.0)

-- what a slice of all items was changed to
pub changed : {A : Type 0} (n : ℕ) (new old : List A) → length new ≡ n → take n (new ++ drop (length new) old) ≡ new
changed n new old e = subst (λ k. take k (new ++ drop (length new) old) ≡ new) e (first new (drop (length new) old))
  where
    first : {B : Type 0} (xs ys : List B) → take (length xs) (xs ++ ys) ≡ xs
    first [] ys = refl
    first (x ∷ xs) ys = ap (λ l. x ∷ l) (first xs ys)
