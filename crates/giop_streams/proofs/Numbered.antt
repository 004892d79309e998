-- Unfinished messages by their request_ids and by their places in the list.
use Rattle.std.proofs.Common.{◌≡◌, ℕ, zero, suc, ◌==◌, ◌<◌, Bool, true, false, cond, List, [], ◌∷◌, ◌++◌, length, get_or, set, Option, Some, None, refl, sym, ap, ◌∙◌, ◌⊎◌, inl, inr, arith}
use Rattle.std.specs.Prelude.{IfSome, IfNone, position, slice_get, remove}
use Rattle.std.specs.List.{position_or_len}
use Rattle.std.proofs.lemmas.List.Folds.{find_at}
use Rattle.std.proofs.lemmas.Option.{slice_get-get_or, slice_get_past}
use Rattle.std.proofs.lemmas.Bool.{cases_lt, lt-ltb, le-ltb}
use Rattle.giop_streams.specs.Stream.{Unfinished, numbered, extended, without}
use Rattle.giop_streams.specs.StreamInside.{IsAt}

pub some_is : {X : Type 0} {x y : X} → Some x ≡ Some y → x ≡ y
some_is e = cc

abbrev no_index : Option ℕ
no_index = None

pub cases_bool : (b : Bool) → (b ≡ true) ⊎ (b ≡ false)
cases_bool true = inl refl
cases_bool false = inr refl

-- the index that a search gives is that of the number
pub index_found : (id : ℕ) (messages : List Unfinished) (i : ℕ) → position (λ u. u.id == id) messages ≡ Some i → IsAt id messages i
index_found id messages i e =
    let p = λ (u : Unfinished). u.id == id in
    elim (cases_lt (position_or_len p messages) (length messages)) [
      | inl lt ↦ let h : Some (position_or_len p messages) ≡ Some i = ap (λ (b : Bool). cond b (Some (position_or_len p messages)) None) (sym (lt-ltb _ _ lt)) ∙ e in record { within = omega (arith, some_is h); first = some_is h }
      | inr le ↦ let h : no_index ≡ Some i = ap (λ (b : Bool). cond b (Some (position_or_len p messages)) None) (sym (le-ltb _ _ le)) ∙ e in absurd cc
    ]

-- where a search gives no index, no message has the number
pub index_none : (id : ℕ) (messages : List Unfinished) → position (λ u. u.id == id) messages ≡ None → numbered id messages ≡ None
index_none id messages e =
    let p = λ (u : Unfinished). u.id == id in
    elim (cases_lt (position_or_len p messages) (length messages)) [
      | inl lt ↦ let h : Some (position_or_len p messages) ≡ no_index = ap (λ (b : Bool). cond b (Some (position_or_len p messages)) None) (sym (lt-ltb _ _ lt)) ∙ e in absurd cc
      | inr le ↦ find_at p messages ∙ slice_get_past messages (position_or_len p messages) le
    ]

pub if_found : (id : ℕ) (messages : List Unfinished) (r : Option ℕ) → r ≡ position (λ u. u.id == id) messages → IfSome r (IsAt id messages)
if_found id messages None e = tt
if_found id messages (Some i) e = index_found id messages i (sym e)

pub if_none : (id : ℕ) (messages : List Unfinished) (r : Option ℕ) → r ≡ position (λ u. u.id == id) messages → IfNone r (numbered id messages ≡ None)
if_none id messages None e = index_none id messages (sym e)
if_none id messages (Some i) e = tt

-- a message at an index is the one of its number
pub numbered_at : (id : ℕ) (messages : List Unfinished) (i : ℕ) (d : Unfinished) → IsAt id messages i → numbered id messages ≡ Some (get_or messages i d)
numbered_at id messages i d at = find_at (λ u. u.id == id) messages ∙ ap (slice_get messages) at.first ∙ slice_get-get_or messages i d at.within

-- ---- one step of a list

pub extended_here : (id : ℕ) (octets : List ℕ) (u : Unfinished) (others : List Unfinished) → (u.id == id) ≡ true → extended id octets (u ∷ others) ≡ (record u { content = u.content ++ octets }) ∷ others
extended_here id octets u others e = rw e refl

pub extended_on : (id : ℕ) (octets : List ℕ) (u : Unfinished) (others : List Unfinished) → (u.id == id) ≡ false → extended id octets (u ∷ others) ≡ u ∷ extended id octets others
extended_on id octets u others e = rw e refl

pub without_here : (id : ℕ) (u : Unfinished) (others : List Unfinished) → (u.id == id) ≡ true → without id (u ∷ others) ≡ others
without_here id u others e = rw e refl

pub without_on : (id : ℕ) (u : Unfinished) (others : List Unfinished) → (u.id == id) ≡ false → without id (u ∷ others) ≡ u ∷ without id others
without_on id u others e = rw e refl

place_here : (id : ℕ) (u : Unfinished) (others : List Unfinished) → (u.id == id) ≡ true → position_or_len (λ u. u.id == id) (u ∷ others) ≡ 0
place_here id u others e = rw e refl

place_on : (id : ℕ) (u : Unfinished) (others : List Unfinished) → (u.id == id) ≡ false → position_or_len (λ u. u.id == id) (u ∷ others) ≡ suc (position_or_len (λ u. u.id == id) others)
place_on id u others e = rw e (omega arith)

-- ---- the whole list

abbrev place_in : ℕ → List Unfinished → ℕ
place_in id messages = position_or_len (λ u. u.id == id) messages

without_from : (id : ℕ) (messages : List Unfinished) → place_in id messages < length messages → without id messages ≡ remove messages (place_in id messages)
without_from id [] lt = absurd (omega (arith, lt))
without_from id (u ∷ others) lt =
    elim (cases_bool (u.id == id)) [
      | inl e ↦ without_here id u others e ∙ sym (ap (remove (u ∷ others)) (place_here id u others e))
      | inr e ↦ without_on id u others e ∙ ap (λ (us : List Unfinished). u ∷ us) (without_from id others (omega (arith, lt, place_on id u others e))) ∙ sym (ap (remove (u ∷ others)) (place_on id u others e))
    ]

-- without the message of a number
pub without_at : (id : ℕ) (messages : List Unfinished) (i : ℕ) → IsAt id messages i → without id messages ≡ remove messages i
without_at id messages i at = let lt : place_in id messages < length messages = omega (arith, at.first, at.within) in without_from id messages lt ∙ ap (remove messages) at.first

extended_from : (id : ℕ) (octets : List ℕ) (messages : List Unfinished) (d : Unfinished) → place_in id messages < length messages
    → extended id octets messages ≡ set messages (place_in id messages) (record (get_or messages (place_in id messages) d) { content = (get_or messages (place_in id messages) d).content ++ octets })
extended_from id octets [] d lt = absurd (omega (arith, lt))
extended_from id octets (u ∷ others) d lt =
    let more : Unfinished → Unfinished = λ u. record u { content = u.content ++ octets } in
    elim (cases_bool (u.id == id)) [
      | inl e ↦ extended_here id octets u others e ∙ sym (ap (λ (k : ℕ). set (u ∷ others) k (more (get_or (u ∷ others) k d))) (place_here id u others e))
      | inr e ↦ extended_on id octets u others e ∙ ap (λ (us : List Unfinished). u ∷ us) (extended_from id octets others d (omega (arith, lt, place_on id u others e))) ∙ sym (ap (λ (k : ℕ). set (u ∷ others) k (more (get_or (u ∷ others) k d))) (place_on id u others e))
    ]

-- with more octets of the message of a number
pub extended_at : (id : ℕ) (octets : List ℕ) (messages : List Unfinished) (i : ℕ) (d : Unfinished) → IsAt id messages i
    → extended id octets messages ≡ set messages i (record (get_or messages i d) { content = (get_or messages i d).content ++ octets })
extended_at id octets messages i d at =
    let lt : place_in id messages < length messages = omega (arith, at.first, at.within) in
    let more : Unfinished → Unfinished = λ u. record u { content = u.content ++ octets } in
    extended_from id octets messages d lt ∙ ap (λ (k : ℕ). set messages k (more (get_or messages k d))) at.first

-- a write is lost with its place
pub remove-set : {X : Type 0} (xs : List X) (i : ℕ) (x : X) → remove (set xs i x) i ≡ remove xs i
remove-set [] i x = refl
remove-set (y ∷ ys) zero x = refl
remove-set {X} (y ∷ ys) (suc i) x = ap (λ (zs : List X). y ∷ zs) (remove-set ys i x)
