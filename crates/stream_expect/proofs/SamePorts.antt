-- A link is dry and full at the same ticks by ports of which words are due at the same ticks.
use Rattle.std.proofs.Common.{◌≡◌, ℕ, zero, suc, ◌+◌, ◌-◌, ◌<◌, ◌≤◌, min, Bool, cond, refl, sym, ap, ◌∙◌, subst, arith}
use Rattle.stream_equations.specs.Equations.{count_before}
use Rattle.project_streams.specs.Ideal.{Port, IsDue, IsFaulty, IsEven, IsFirstFault, edge_of, passed}
use Rattle.project_streams.specs.declared.side.Side.{Side}
use Rattle.project_streams.specs.declared.side.Side.TheVariants.{Dry, Full}
use Rattle.stream_expect.specs.Ports.{IsSamePort}

-- ---- one port

count_same : (test other : ℕ → Bool) (n : ℕ) → ((t : ℕ) → t < n → test t ≡ other t)
    → count_before test n ≡ count_before other n
count_same test other zero same = refl
count_same test other (suc n) same =
    ap (λ b. cond b (suc (count_before test n)) (count_before test n)) (same n (omega arith))
    ∙ ap (λ count. cond (other n) (suc count) count) (count_same test other n (λ t lt. same t (omega (arith, lt))))

turned : (one other : Port) → IsSamePort one other → IsSamePort other one
turned one other same = record {
  begin = sym same.begin;
  ticks = sym same.ticks;
  due = λ t lt. sym (same.due t (subst (λ n. t < n) (sym same.ticks) lt));
}

same_passed : (one other : Port) (edge : ℕ) → IsSamePort one other
    → passed one edge ≡ passed other edge
same_passed one other edge same =
    count_same one.due other.due (min one.ticks (edge - one.begin)) (λ t lt. same.due t (omega (arith, lt)))
    ∙ ap (λ n. count_before other.due (min n (edge - one.begin))) same.ticks
    ∙ ap (λ n. count_before other.due (min other.ticks (edge - n))) same.begin

same_due : (one other : Port) (t : ℕ) → IsSamePort one other → IsDue one t → IsDue other t
same_due one other t same due = record {
  within = subst (λ n. t < n) same.ticks due.within;
  due = sym (same.due t due.within) ∙ due.due;
}

same_before : (one other : Port) (t : ℕ) → IsSamePort one other → IsDue one t
    → count_before one.due t ≡ count_before other.due t
same_before one other t same due =
    let within = due.within in
    count_same one.due other.due t (λ u lt. same.due u (omega (arith, lt, within)))

-- ---- a link

still_faulty : (producer consumer writer reader : Port) (depth : ℕ) (side : Side) (t : ℕ)
    → IsSamePort producer writer → IsSamePort consumer reader
    → IsFaulty producer consumer depth side t → IsFaulty writer reader depth side t
still_faulty producer consumer writer reader depth Dry t same_producer same_consumer faulty = record {
  due = same_due consumer reader t same_consumer faulty.due;
  dry =
      subst (λ b. passed writer (b + t) ≤ count_before reader.due t) same_consumer.begin
      (subst (λ n. n ≤ count_before reader.due t) (same_passed producer writer (consumer.begin + t) same_producer)
      (subst (λ n. passed producer (consumer.begin + t) ≤ n) (same_before consumer reader t same_consumer faulty.due)
      faulty.dry));
}
still_faulty producer consumer writer reader depth Full t same_producer same_consumer faulty = record {
  due = same_due producer writer t same_producer faulty.due;
  full =
      subst (λ b. depth + passed reader (b + t) ≤ count_before writer.due t) same_producer.begin
      (subst (λ n. depth + n ≤ count_before writer.due t) (same_passed consumer reader (producer.begin + t) same_consumer)
      (subst (λ n. depth + passed consumer (producer.begin + t) ≤ n) (same_before producer writer t same_producer faulty.due)
      faulty.full));
}

same_edge : (producer consumer writer reader : Port) (side : Side) (t : ℕ)
    → IsSamePort producer writer → IsSamePort consumer reader
    → edge_of producer consumer side t ≡ edge_of writer reader side t
same_edge producer consumer writer reader Dry t same_producer same_consumer = ap (λ b. b + t) same_consumer.begin
same_edge producer consumer writer reader Full t same_producer same_consumer = ap (λ b. b + t) same_producer.begin

pub still_even : (producer consumer writer reader : Port) (depth : ℕ)
    → IsSamePort producer writer → IsSamePort consumer reader
    → IsEven producer consumer depth → IsEven writer reader depth
still_even producer consumer writer reader depth same_producer same_consumer even side t faulty =
    even side t
    (still_faulty writer reader producer consumer depth side t (turned producer writer same_producer)
    (turned consumer reader same_consumer) faulty)

pub still_first : (producer consumer writer reader : Port) (depth : ℕ) (side : Side) (t : ℕ)
    → IsSamePort producer writer → IsSamePort consumer reader
    → IsFirstFault producer consumer depth side t → IsFirstFault writer reader depth side t
still_first producer consumer writer reader depth side t same_producer same_consumer first = record {
  here = still_faulty producer consumer writer reader depth side t same_producer same_consumer first.here;
  before = λ other u earlier faulty.
      first.before other u
      (subst (λ n. edge_of producer consumer other u < n) (sym (same side t))
      (subst (λ n. n < edge_of writer reader side t) (sym (same other u)) earlier))
      (back other u faulty);
  former = λ other u at form faulty.
      first.former other u (same other u ∙ at ∙ sym (same side t)) form (back other u faulty);
}
  where
    same : (side : Side) (t : ℕ) → edge_of producer consumer side t ≡ edge_of writer reader side t
    same side t = same_edge producer consumer writer reader side t same_producer same_consumer

    back : (side : Side) (t : ℕ) → IsFaulty writer reader depth side t
        → IsFaulty producer consumer depth side t
    back side t = still_faulty writer reader producer consumer depth side t (turned producer writer same_producer)
        (turned consumer reader same_consumer)
