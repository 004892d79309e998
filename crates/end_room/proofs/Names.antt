-- The resources of transactions are found by their tids as they are in what is kept.
use Rattle.std.proofs.Common.{◌≡◌, ◌≢◌, ◌∙◌, ap, refl, sym, ℕ, Bool, true, false, cond, List, [], ◌∷◌, map, Option, Some}
use Rattle.std.specs.Global.{Vec}
use Rattle.std.specs.BTreeMap.{BTreeMap, UpdatesBy, get_by, is_at}
use Rattle.std.specs.Cmp.Lexicographic.{slice_cmp}
use Rattle.std.specs.Map.{AreApart, IsKeyTest, KeepsOthers, lookup}
use Rattle.std.specs.Ordering.{nat_cmp, eq_by_cmp}
use Rattle.std.specs.Str.{bytes_eq}
use Rattle.std.proofs.lemmas.Cmp.{eq_by_cmp_equiv, nat_list_cmp_total, nat_list_eq_equiv}
use Rattle.std.proofs.lemmas.Map.Text.{is_eq-slice_cmp}
use Rattle.std.proofs.lemmas.Slice.Eq.{bytes_eq-Decides}
use Rattle.std.specs.declared.cmp.Ordering.{Ordering}
use Rattle.end_room.specs.Inside.{names_in}
use Rattle.end_room.specs.Own.{IsNamed, Names, named}
use Rattle.end_room.specs.declared.ends.Enlisted.{Enlisted}

-- how tids are ordered, and how one that is looked for compares to those that are kept
abbrev pub order : Vec ℕ → Vec ℕ → Ordering
order x y = slice_cmp nat_cmp x.items y.items

abbrev pub against : List ℕ → Vec ℕ → Ordering
against tid k = slice_cmp nat_cmp tid k.items

abbrev pub Entries : Type 0
Entries = List (Vec ℕ × Enlisted)

found_in : (tid : List ℕ) (entries : Entries)
    → lookup (is_at (against tid)) entries ≡ lookup (bytes_eq tid) (map (λ (e : Vec ℕ × Enlisted). (e.0.items, e.1)) entries)
found_in tid [] = refl
found_in tid (e ∷ entries) =
    ap (λ b. cond b (Some e.1) (lookup (is_at (against tid)) entries)) (is_eq-slice_cmp tid e.0.items)
    ∙ ap (λ found. cond (bytes_eq tid e.0.items) (Some e.1) found) (found_in tid entries)

-- what a tid finds
pub found : (tid : List ℕ) (m : BTreeMap (Vec ℕ) Enlisted) → get_by (against tid) m ≡ named tid (names_in m)
found tid m = found_in tid m.entries

apart : (tid other ks : List ℕ) → bytes_eq tid other ≡ false → bytes_eq tid ks ≡ true → bytes_eq other ks ≡ false
apart tid other ks n y = nat_list_eq_equiv.symm other ks ∙ sym (nat_list_eq_equiv.congr tid ks other y) ∙ n

apart_in_order : (tid other : List ℕ) → bytes_eq tid other ≡ false → AreApart (is_at (against tid)) (is_at (against other))
apart_in_order tid other n k y = is_eq-slice_cmp other k.items ∙ apart tid other k.items n (sym (is_eq-slice_cmp tid k.items) ∙ y)

other_entries : (test : Vec ℕ → Bool) (old new : Entries) → KeepsOthers (eq_by_cmp order) test old new
    → (other : Vec ℕ → Bool) → IsKeyTest (eq_by_cmp order) other → AreApart test other → lookup other new ≡ lookup other old
unfolding KeepsOthers
other_entries test old new h = h

differ_by : (tid other : List ℕ) (b : Bool) → bytes_eq tid other ≡ b → other ≢ tid → bytes_eq tid other ≡ false
differ_by tid other false is apart = is
differ_by tid other true is apart = absurd (apart (sym ((bytes_eq-Decides tid other).0 is)))

differ : (tid other : List ℕ) → other ≢ tid → bytes_eq tid other ≡ false
differ tid other apart = differ_by tid other (bytes_eq tid other) refl apart

-- what changes at one tid changes at no other
others_stay : (tid : List ℕ) (m n : BTreeMap (Vec ℕ) Enlisted) → KeepsOthers (eq_by_cmp order) (is_at (against tid)) m.entries n.entries
    → (other : List ℕ) → other ≢ tid → named other (names_in n) ≡ named other (names_in m)
others_stay tid m n keeps other apart =
    sym (found other n)
    ∙ other_entries (is_at (against tid)) m.entries n.entries keeps (is_at (against other))
    (λ x y. (eq_by_cmp_equiv nat_list_cmp_total).congr other x.items y.items) (apart_in_order tid other (differ tid other apart))
    ∙ found other m

-- a change at one tid
abbrev pub Changed : List ℕ → Option Enlisted → Names → Names → Type 0
Changed tid r before after = (named tid after ≡ r) × ((other : List ℕ) → other ≢ tid → named other after ≡ named other before)

pub changed : (tid : List ℕ) (r : Option Enlisted) (m n : BTreeMap (Vec ℕ) Enlisted) → UpdatesBy order (against tid) m n r
    → Changed tid r (names_in m) (names_in n)
changed tid r m n updates = (sym (found tid n) ∙ updates.1, others_stay tid m n updates.3)

pub is_named : (tid : List ℕ) (r : Enlisted) (m n : BTreeMap (Vec ℕ) Enlisted) → UpdatesBy order (against tid) m n (Some r)
    → IsNamed tid r (names_in m) (names_in n)
is_named tid r m n updates = let it = changed tid (Some r) m n updates in record { own = it.0; others = it.1 }
