-- A module that keeps the rules has no fault.
use Rattle.std.proofs.Common.{◌≡◌, ℕ, ◌+◌, ◌<◌, ◌≤◌, Bool, true, false, List, [], ◌∷◌, ◌++◌, suc, map, length, take, Some, refl, sym, ◌∙◌, ap, subst, arith, ◌⊎◌, inl, inr, ⊎_elim}
use Rattle.std.specs.Prelude.{slice_get}
use Rattle.std.proofs.lemmas.Bool.{false≢true, cases_lt, cases_Bool, or_parts, or_from}
use Rattle.std.proofs.lemmas.List.{length-take, get_or-take}
use Rattle.std.proofs.lemmas.Option.{slice_get_within, slice_get-get_or, get_or_from_slice_get}
use Rattle.rtl_ir.specs.declared.design.Design.{Design}
use Rattle.rtl_ir.specs.declared.design.Module.{Module}
use Rattle.rtl_ir.specs.declared.design.Instance.{Instance}
use Rattle.rtl_ir.specs.declared.error.RtlError.{RtlError}
use Rattle.rtl_ir.specs.declared.error.RtlError.TheVariants.{Unknown, Width, TwoDrivers, CombLoop, NoDriver, SameName, NoMemory}
use Rattle.rtl_ir.specs.Value.{is_reg}
use Rattle.rtl_ir.specs.Typed.{is_input, is_given}
use Rattle.rtl_ir.specs.Formed.{IsFormed, IsFormedModule}
use Rattle.rtl_ir.specs.Rules.{AllDiffer, names_of, HasDrivers, HasUpdates, HasWidths, IsSound, IsAccepted}
use Rattle.rtl_check.specs.FirstFault
use Rattle.rtl_ir.specs.Faults.{Source, Wired, Updated, Gives, May, HasTwo, IsWrittenTwice}
use Rattle.rtl_check.specs.FirstFault.{Lacks, IsNamedAgain, IsSameName, IsTwoDrivers, IsNoDriver}
use Rattle.rtl_check.specs.FirstFault.{IsWidth, of_module, of_part, of_mem, of_assign, of_update}
use Rattle.rtl_check.specs.FirstFault.{of_port, IsLoopOf, NoName, IsFaultOf, IsFirstFault}
use Rattle.rtl_check.specs.Paths.{HasPath, IsInRange, ArePathsOf}
use Rattle.rtl_check.specs.Checked.{IsPartFault, HasNoTwo, KeepsRules, IsPart}
use Rattle.rtl_ir.proofs.Loops.{levelled_free}
use Rattle.rtl_check.proofs.Again.{none_again, all_differ}
use Rattle.rtl_check.proofs.Marked.{item_of}
use Rattle.rtl_check.proofs.Places.{in_front, at_seam, some_is}

-- names
pub no_same : (d : Design) (number : ℕ) (m : Module) → (IsNamedAgain d number → ⊥) → AllDiffer (names_of m) → NoName (IsSameName d number m)
no_same d number m fresh names name (of_module a) = fresh a
no_same d number m fresh names name (of_part i n f first at) = none_again (names_of m) names i first.holds

-- sources
free : (m : Module) (n : ℕ) → is_given m n ≡ false → is_reg m n ≡ true → ⊥
free m n given reg = false≢true (sym ((or_parts (is_reg m n) (is_input m.ports n) given).0) ∙ reg)

may_of : (d : Design) (m : Module) → HasDrivers d m → HasUpdates m → (s : Source) (n : ℕ) → Gives d m s n → May m s n
may_of d m h u (Wired x) n g = (h.only n x g).1
may_of d m h u (Updated j) n g = (u.only n j g.0 g.1 g.2).0

same_source : (d : Design) (m : Module) → HasDrivers d m → HasUpdates m → (s t : Source) (n : ℕ) → Gives d m s n → Gives d m t n → s ≡ t
same_source d m h u (Wired x) (Wired y) n g k = ap (λ z. Wired z) ((h.only n x g).2 ∙ sym ((h.only n y k).2))
same_source d m h u (Updated i) (Updated j) n g k = ap (λ z. Updated z) ((u.only n i g.0 g.1 g.2).1 ∙ sym ((u.only n j k.0 k.1 k.2).1))
same_source d m h u (Wired x) (Updated j) n g k = absurd (free m n ((h.only n x g).1) ((u.only n j k.0 k.1 k.2).0))
same_source d m h u (Updated i) (Wired y) n g k = absurd (free m n ((h.only n y k).1) ((u.only n i g.0 g.1 g.2).0))

pub sound_two : (d : Design) (m : Module) → HasDrivers d m → HasUpdates m → HasNoTwo d m
sound_two d m h u = (nets, mems)
  where
    nets : (n : ℕ) → HasTwo d m n → ⊥
    nets n (inl two) = two.2 (may_of d m h u two.0 n two.1)
    nets n (inr two) = two.4 (same_source d m h u two.0 two.1 n two.2 two.3)

    mems : (k : ℕ) → IsWrittenTwice m k → ⊥
    mems k w = omega (arith, w.apart, u.of_mems k w.first w.later w.address w.later_address w.update w.later_update w.at_first w.at_later w.writes w.later_writes)

pub no_two_named : (d : Design) (m : Module) → HasNoTwo d m → NoName (IsTwoDrivers d m)
no_two_named d m h name (FirstFault.IsTwoDrivers.of_net n first) = h.0 n first.holds
no_two_named d m h name (of_mem k none first) = h.1 k first.holds

no_lack : (d : Design) (m : Module) → HasDrivers d m → HasUpdates m → (n : ℕ) → Lacks d m n → ⊥
no_lack d m h u n lack = by_reg (cases_Bool (is_reg m n))
  where
    by_reg : (is_reg m n ≡ true) ⊎ (is_reg m n ≡ false) → ⊥
    by_reg (inl reg) = let w = u.some n reg in lack.1.1 (Updated (u.update n)) w
    by_reg (inr wire) = lack.1.1 (Wired (h.driver n)) (h.some n lack.0 (or_from (is_reg m n) (is_input m.ports n) wire lack.1.0))

pub no_lack_named : (d : Design) (m : Module) → HasDrivers d m → HasUpdates m → NoName (IsNoDriver d m)
no_lack_named d m h u name (FirstFault.IsNoDriver.of_net n first) = no_lack d m h u n first.holds

pub no_width : (d : Design) (m : Module) → HasWidths d m → NoName (IsWidth d m)
no_width d m h name (of_assign j a first at) = first.holds.2 (h.typed j first.holds.0 first.holds.1)
no_width d m h name (of_update j u none first at) = first.holds.2 (h.updates j first.holds.0 first.holds.1)
no_width d m h name (of_port k j e none none' first port) = port.holds.1 (h.joined k j port.holds.0)

-- a fault of the parts is one of the module
pub part_fault : (d : Design) (number : ℕ) (m : Module) (e : RtlError) → (IsNamedAgain d number → ⊥) → IsPartFault d m e → IsFaultOf d number m e
part_fault d number m (SameName name) fresh h = of_part h.0 name fresh h.1 h.2
part_fault d number m (TwoDrivers name) fresh h = (no_same d number m fresh h.0, h.1)
part_fault d number m (NoDriver name) fresh h = (no_same d number m fresh h.0, no_two_named d m h.1, h.2)
part_fault d number m (Width name) fresh h = (no_same d number m fresh h.0, no_two_named d m (sound_two d m h.1 h.2), no_lack_named d m h.1 h.2, h.3)
part_fault d number m (CombLoop names) fresh h = absurd h
part_fault d number m (Unknown name) fresh h = absurd h
part_fault d number m NoMemory fresh h = absurd h

pub loop_fault : (d : Design) (number : ℕ) (m : Module) (names : List (List ℕ)) → (IsNamedAgain d number → ⊥) → KeepsRules d m → IsLoopOf d m names → IsFaultOf d number m (CombLoop names)
loop_fault d number m names fresh h l =
    (no_same d number m fresh h.names, no_two_named d m (sound_two d m h.driven h.updated), no_lack_named d m h.driven h.updated, no_width d m h.widths, l)

-- a sound module has no fault
pub faultless : (d : Design) (number : ℕ) (m : Module) (e : RtlError) → (IsNamedAgain d number → ⊥) → IsSound d m → IsFaultOf d number m e → ⊥
faultless d number m (SameName name) fresh s f = no_same d number m fresh s.names name f
faultless d number m (TwoDrivers name) fresh s f = no_two_named d m (sound_two d m s.driven s.updated) name f.1
faultless d number m (NoDriver name) fresh s f = no_lack_named d m s.driven s.updated name f.2
faultless d number m (Width name) fresh s f = no_width d m s.widths name f.3
faultless d number m (CombLoop names) fresh s f = levelled_free d m f.4.0 s.levelled f.4.1
faultless d number m (Unknown name) fresh s f = f
faultless d number m NoMemory fresh s f = f

pub accepted_free : (d : Design) → IsAccepted d → (e : RtlError) → IsFirstFault d e → ⊥
accepted_free d h e f = faultless d f.number f.of e (none_again (map (λ (m : Module). m.name) d.modules) h.names f.number) (h.sound f.number f.of f.is) f.fault

-- a module that is formed after earlier ones is formed in the design
get_take : {A : Type 0} (xs : List A) (n k : ℕ) (x : A) → k < n → slice_get xs k ≡ Some x → slice_get (take n xs) k ≡ Some x
get_take xs n k x lt at =
    slice_get-get_or (take n xs) k x (omega (arith, length-take n xs, slice_get_within xs k x at)) ∙ ap Some (get_or-take n xs k x lt ∙ get_or_from_slice_get xs k x x at)

pub formed_at : (d : Design) → IsFormed d.modules → (number : ℕ) (m : Module) → slice_get d.modules number ≡ Some m → IsFormedModule d.modules m
formed_at d f number m at =
    let h = f.each number m at in
    record {
      name = h.name;
      nets = h.nets;
      mems = h.mems;
      ports = h.ports;
      apart = h.apart;
      assigns = h.assigns;
      updates = h.updates;
      instances = λ k i is. let w = h.instances k i is in record {
        name = w.name;
        is_earlier = omega (arith, w.is_earlier, length-take number d.modules);
        nets = w.nets;
        ports = λ inner inner_at. w.ports inner (get_take d.modules number i.module inner (omega (arith, w.is_earlier, length-take number d.modules)) inner_at);
      };
      clock = h.clock;
      reset = h.reset;
    }

pub earlier_at : (d : Design) → IsFormed d.modules → (number : ℕ) (m : Module) → slice_get d.modules number ≡ Some m → (k : ℕ) (i : Instance) → slice_get m.instances k ≡ Some i → i.module < number
earlier_at d f number m at k i is = omega (arith, ((f.each number m at).instances k i is).is_earlier, length-take number d.modules)

-- what a module names is there
pub in_range : (d : Design) (m : Module) (tables : List (List (List ℕ))) → IsPart m tables d
    → ((k : ℕ) (i : Instance) → slice_get m.instances k ≡ Some i → i.module < length tables)
    → IsInRange m tables
in_range d m tables part earlier =
    let f = part.0 in
    record {
      targets = λ j a at. (f.assigns j a at).target;
      reads = λ j n a at r. (f.assigns j a at).expr.nets n r;
      ports = λ j p at. (f.ports j p at).net;
      apart = f.apart;
      earlier = earlier;
      nets = λ k j n i at is. (f.instances k i at).nets j n is;
      paths = λ k i paths x at table is.
          let inner = item_of d.modules i.module ((f.instances k i at).is_earlier) in
          let found = part.1 k i inner.0 at inner.1 in
          let same : paths ≡ found.0 = some_is (sym table ∙ found.1) in
          let path = found.2.sound x (subst (λ (l : List (List ℕ)). HasPath l x) same is) in
          let size = (f.instances k i at).ports inner.0 inner.1 in
          (omega (arith, size, slice_get_within inner.0.ports x.input path.input path.input_at), omega (arith, size, slice_get_within inner.0.ports x.output path.output path.output_at));
    }

-- the modules before one are sound, and none up to it but it has the name of an earlier one
pub record Before (d : Design) (again number : ℕ) (m : Module) : Type 0 where
  pub earlier : (k : ℕ) → k < again → IsNamedAgain d k → ⊥
  pub upto : number ≤ again
  pub sound : (k : ℕ) (x : Module) → k < number → slice_get d.modules k ≡ Some x → IsSound d x
  pub at : slice_get d.modules number ≡ Some m

pub first_fault : (d : Design) (again number : ℕ) (m : Module) (e : RtlError) → Before d again number m → IsFaultOf d number m e → IsFirstFault d e
first_fault d again number m e b f =
    record {
      number = number;
      of = m;
      is = b.at;
      fault = f;
      earlier = λ k x lt at other g. faultless d k x other (b.earlier k (omega (arith, b.upto))) (b.sound k x lt at) g;
    }

pub named_fault : (d : Design) (again number : ℕ) (m : Module) (name : List ℕ) → Before d again number m → IsNamedAgain d number → name ≡ m.name → IsFirstFault d (SameName name)
named_fault d again number m name b a is = first_fault d again number m (SameName name) b (subst (IsSameName d number m) (sym is) (of_module a))

pub part_error : (d : Design) (again number : ℕ) (m : Module) (e : RtlError)
    → Before d again number m → (IsNamedAgain d number → ⊥) → (e ≡ NoMemory) ⊎ IsPartFault d m e
    → (e ≡ NoMemory) ⊎ IsFirstFault d e
part_error d again number m e b fresh h = ⊎_elim (λ n. inl n) (λ f. inr (first_fault d again number m e b (part_fault d number m e fresh f))) h

pub loop_error : (d : Design) (again number : ℕ) (m : Module) (tables : List (List (List ℕ)))
    (e : RtlError) → Before d again number m → (IsNamedAgain d number → ⊥) → KeepsRules d m
    → IsPart m tables d → (e ≡ NoMemory) ⊎ ((names : List (List ℕ)) × (e ≡ CombLoop names)
    × ((x : Design) → IsPart m tables x → IsLoopOf x m names)) → (e ≡ NoMemory) ⊎ IsFirstFault d e
loop_error d again number m tables e b fresh keeps part h =
    ⊎_elim (λ n. inl n) (λ (w : (names : List (List ℕ)) × (e ≡ CombLoop names)
    × ((x : Design) → IsPart m tables x
    → IsLoopOf x m names)). inr (first_fault d again number m e b
    (subst (IsFaultOf d number m) (sym w.1) (loop_fault d number m w.0 fresh keeps
    (w.2 d part))))) h

pub accepted_error : (d : Design) → IsAccepted d → (e : RtlError) → (e ≡ NoMemory) ⊎ IsFirstFault d e → e ≡ NoMemory
accepted_error d h e f = ⊎_elim (λ n. n) (λ g. absurd (accepted_free d h e g)) f

-- the paths of the modules before one that others have instances of
abbrev pub HasPaths : Design → List Bool → List (List (List ℕ)) → ℕ → Type 0
HasPaths d wanted tables number =
    (k : ℕ) (m : Module) → k < number → slice_get d.modules k ≡ Some m → slice_get wanted k ≡ Some true
    → (paths : List (List ℕ)) × (slice_get tables k ≡ Some paths) × ArePathsOf d m paths

abbrev pub AreWanted : Design → List Bool → Type 0
AreWanted d wanted =
    (number k : ℕ) (m : Module) (i : Instance)
    → slice_get d.modules number ≡ Some m
    → slice_get m.instances k ≡ Some i
    → slice_get wanted i.module ≡ Some true

pub part_at : (d : Design) (number : ℕ) (m : Module) (wanted : List Bool)
    (tables : List (List (List ℕ))) → IsFormed d.modules → slice_get d.modules number ≡ Some m
    → AreWanted d wanted → HasPaths d wanted tables number → IsPart m tables d
part_at d number m wanted tables f at marked paths =
    (formed_at d f number m at, λ k i inner at_i at_inner. paths i.module inner (earlier_at d f number m at k i at_i) at_inner (marked number k m i at at_i))

pub range_at : (d : Design) (number : ℕ) (m : Module) (tables : List (List (List ℕ)))
    → IsFormed d.modules → slice_get d.modules number ≡ Some m → length tables ≡ number
    → IsPart m tables d → IsInRange m tables
range_at d number m tables f at count part = in_range d m tables part (λ k i at_i. omega (arith, count, earlier_at d f number m at k i at_i))

pub tables_more : (d : Design) (wanted : List Bool) (tables : List (List (List ℕ))) (number : ℕ)
    (m : Module) (new : List (List ℕ)) → slice_get d.modules number ≡ Some m
    → length tables ≡ number → (slice_get wanted number ≡ Some true → ArePathsOf d m new)
    → HasPaths d wanted tables number → HasPaths d wanted (tables ++ new ∷ []) (number + 1)
tables_more d wanted tables number m new at count here before k x lt is marked = by_place (cases_lt k number)
  where
    by_place : (k < number) ⊎ (number ≤ k) → (paths : List (List ℕ)) × (slice_get (tables ++ new ∷ []) k ≡ Some paths) × ArePathsOf d x paths
    by_place (inl less) = let w = before k x less is marked in (w.0, in_front tables (new ∷ []) k w.0 w.1, w.2)
    by_place (inr ge) =
        let e : k ≡ number = omega arith in
        let p : k ≡ length tables = omega (arith, count) in
        let q : m ≡ x = some_is (sym at ∙ sym (ap (slice_get d.modules) e) ∙ is) in
        let found : slice_get (tables ++ new ∷ []) k ≡ Some new = ap (slice_get (tables ++ new ∷ [])) p ∙ at_seam tables new [] in
        (new, found, subst (λ (y : Module). ArePathsOf d y new) q (here (sym (ap (slice_get wanted) e) ∙ marked)))

length_names : (modules : List Module) → length (map (λ (m : Module). m.name) modules) ≡ length modules
length_names [] = refl
length_names (m ∷ modules) = ap suc (length_names modules)

pub accepted_at : (d : Design) (again : ℕ) → IsFormed d.modules
    → ((k : ℕ) → k < again → IsNamedAgain d k → ⊥) → length d.modules ≤ again
    → ((k : ℕ) (m : Module) → k < length d.modules → slice_get d.modules k ≡ Some m
    → IsSound d m) → IsAccepted d
accepted_at d again f earlier past sound =
    record {
      formed = f;
      names = all_differ (map (λ (m : Module). m.name) d.modules) (λ k a. earlier k (omega (arith, slice_get_within (map (λ (m : Module). m.name) d.modules) k a.2 a.4, length_names d.modules)) a);
      sound = λ k m at. sound k m (slice_get_within d.modules k m at) at;
    }
