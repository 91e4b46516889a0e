-- The places of a set, and the nets that stand there.
use Rattle.std.proofs.Common.{◌≡◌, ℕ, ◌<◌, ◌^◌, true, false, List, length, get_or, Some, sym, ◌∙◌, ap, zero-add, arith, ◌⊎◌, inl, inr}
use Rattle.std.specs.Prelude.{slice_get}
use Rattle.std.specs.List.{range_with_len}
use Rattle.std.proofs.lemmas.Bool.{cases_Bool}
use Rattle.std.proofs.lemmas.List.FromFn.{get_or-range_with_len, length-range_with_len}
use Rattle.std.proofs.lemmas.Option.{slice_get-get_or, slice_get_within}
use Rattle.digraph.specs.Rows.{is_marked, AreMarked, picked}
use Rattle.digraph.proofs.Marking.{picked_other, picked_one, picked_length}
use Rattle.rtl_ir.specs.declared.design.Instance.{Instance}
use Rattle.rtl_check.specs.Paths.{AreJoined}
use Rattle.rtl_check.specs.Picked.{picked_places, HasSame}
use Rattle.rtl_check.proofs.Places.{some_is}

range_at : (end n : ℕ) → n < end → slice_get (range_with_len 0 end) n ≡ Some n
range_at end n lt =
    slice_get-get_or (range_with_len 0 end) n 0 (omega (arith, length-range_with_len 0 end)) ∙ ap (λ (k : ℕ). Some k) (get_or-range_with_len 0 end n 0 lt ∙ zero-add n)

-- a marked place, and the one that stands for each other
pub marked_place : (words : List ℕ) (one end n : ℕ) → n < end → is_marked words n ≡ true → slice_get (picked_places words one end) n ≡ Some n
marked_place words one end n lt marked = picked_one words (range_with_len 0 end) one end n lt marked (Some n) (sym (range_at end n lt))

clear_place : (words : List ℕ) (one end n : ℕ) → n < end → is_marked words n ≡ false → slice_get (picked_places words one end) n ≡ Some one
clear_place words one end n lt clear = picked_other words (range_with_len 0 end) one end n lt clear

pub places_length : (words : List ℕ) (one end : ℕ) → length (picked_places words one end) ≡ end
places_length words one end = picked_length words (range_with_len 0 end) one end

pub same_places : (places words : List ℕ) (one end : ℕ) → AreMarked places words
    → slice_get places 0 ≡ Some one → ((i n : ℕ) → slice_get places i ≡ Some n → n < end)
    → HasSame places (picked_places words one end)
same_places places words one end marked first within x = (λ w. into w, λ w. out w (cases_Bool (is_marked words w.0)))
  where
    into : ((i : ℕ) × (slice_get places i ≡ Some x)) → (i : ℕ) × (slice_get (picked_places words one end) i ≡ Some x)
    into w = (x, marked_place words one end x (within w.0 x w.1) ((marked x).1 w))

    before : (w : (i : ℕ) × (slice_get (picked_places words one end) i ≡ Some x)) → w.0 < end
    before w = omega (arith, slice_get_within (picked_places words one end) w.0 x w.1, places_length words one end)

    out : (w : (i : ℕ) × (slice_get (picked_places words one end) i ≡ Some x)) → (is_marked words w.0 ≡ true) ⊎ (is_marked words w.0 ≡ false) → (i : ℕ) × (slice_get places i ≡ Some x)
    out w (inl is) =
        let e : w.0 ≡ x = some_is (sym (marked_place words one end w.0 (before w) is) ∙ w.1) in
        (marked x).0 (ap (is_marked words) (sym e) ∙ is)
    out w (inr is) = (0, first ∙ sym (clear_place words one end w.0 (before w) is) ∙ w.1)

-- a net of the row, and the place at which it stands
pub record Stands (nets ports row : List ℕ) (n : ℕ) : Type 0 where
  pub place : ℕ
  pub port : slice_get ports n ≡ Some place
  pub net : ℕ
  pub there : slice_get nets place ≡ Some net
  pub in_row : slice_get row n ≡ Some net

stands : (words nets : List ℕ) (one net end : ℕ) → ((n p : ℕ)
    → slice_get (picked_places words one end) n ≡ Some p → p < length nets)
    → slice_get nets one ≡ Some net → (n : ℕ) → n < end
    → Stands nets (picked_places words one end) (picked words nets net end) n
stands words nets one net end within at n lt = by_mark (cases_Bool (is_marked words n))
  where
    by_mark : (is_marked words n ≡ true) ⊎ (is_marked words n ≡ false) → Stands nets (picked_places words one end) (picked words nets net end) n
    by_mark (inl is) =
        let port = marked_place words one end n lt is in
        let there = slice_get-get_or nets n 0 (within n n port) in
        record { place = n; port = port; net = get_or nets n 0; there = there; in_row = picked_one words nets net end n lt is (Some (get_or nets n 0)) (sym there) }
    by_mark (inr is) = record { place = one; port = clear_place words one end n lt is; net = net; there = at; in_row = picked_other words nets net end n lt is }

pub picked_joined : (i : Instance) (words nets : List ℕ) (one net end : ℕ) → nets ≡ i.nets
    → ((n a : ℕ) → slice_get nets n ≡ Some a → a < 2 ^ 32)
    → ((n p : ℕ) → slice_get (picked_places words one end) n ≡ Some p → p < length i.nets)
    → slice_get nets one ≡ Some net
    → AreJoined i (picked_places words one end) (length (picked_places words one end)) (picked words nets net end)
picked_joined i words nets one net end are small within at =
    record {
      size = picked_length words nets net end ∙ sym (places_length words one end);
      small = λ n a is. let s = here n (before n a is) in small s.place a (s.there ∙ sym s.in_row ∙ is);
      sound = λ n a is. let s = here n (before n a is) in (s.place, s.port, ap (λ (l : List ℕ). slice_get l s.place) (sym are) ∙ s.there ∙ sym s.in_row ∙ is);
      whole = λ n p a lt port is. whole n p a (omega (arith, places_length words one end)) port is;
    }
  where
    before : (n a : ℕ) → slice_get (picked words nets net end) n ≡ Some a → n < end
    before n a is = omega (arith, slice_get_within (picked words nets net end) n a is, picked_length words nets net end)

    here : (n : ℕ) → n < end → Stands nets (picked_places words one end) (picked words nets net end) n
    here n lt = stands words nets one net end (λ k p is. omega (arith, within k p is, ap length are)) at n lt

    whole : (n p a : ℕ) → n < end → slice_get (picked_places words one end) n ≡ Some p → slice_get i.nets p ≡ Some a → slice_get (picked words nets net end) n ≡ Some a
    whole n p a lt port is =
        let s = here n lt in
        let e : s.place ≡ p = some_is (sym s.port ∙ port) in
        s.in_row ∙ sym s.there ∙ ap (slice_get nets) e ∙ ap (λ (l : List ℕ). slice_get l p) are ∙ is
