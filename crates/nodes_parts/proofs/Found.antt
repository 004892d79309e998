-- How what has a name is found once a further one has.
use Rattle.std.proofs.Common.{◌≡◌, ℕ, ◌==◌, ◌&&◌, Bool, true, false, cond, List, [], ◌∷◌, Option, Some, None, is_some, refl, sym, ap, ◌∙◌, arith}
use Rattle.std.specs.Bool.{if◌then◌else◌}
use Rattle.std.specs.Map.{lookup}
use Rattle.std.specs.Option.{option_or}
use Rattle.std.proofs.lemmas.Bool.Decides.{nat_tests}
use Rattle.ior_refs.specs.declared.key.ObjectKey.{ObjectKey}
use Rattle.nodes_world.specs.Objects.{same_transaction}
use Rattle.nodes_parts.specs.Index.{name_in, number_of, same_number}
use Rattle.nodes_parts.specs.declared.transactions.TransactionNumber.{TransactionNumber}

pub none_of : {A : Type 0} (o : Option A) → is_some o ≡ false → o ≡ None
none_of None e = refl
none_of (Some x) e = absurd (cc)

pub or_some : {A : Type 0} (o x : Option A) → is_some o ≡ true → option_or o x ≡ o
or_some None x e = absurd (cc)
or_some (Some y) x e = refl

pub record AreBoth (p q : Bool) : Type 0 where
  pub first : p ≡ true
  pub second : q ≡ true

both : (p q : Bool) → (p && q) ≡ true → AreBoth p q
both true true e = record { first = refl; second = refl }
both true false e = absurd (cc)
both false q e = absurd (cc)

same_of : (m n : ℕ) → (m == n) ≡ true → m ≡ n
same_of m n e = grind (arith, nat_tests)

and_assoc : (p q r : Bool) → ((p && q) && r) ≡ (p && (q && r))
and_assoc true q r = refl
and_assoc false q r = refl

-- keys of the same transaction have the same numbers
pub same_key : (key k : ObjectKey) → same_number (number_of key) (number_of k) ≡ same_transaction key k
same_key key k =
    let s : Bool = key.service == k.service in
    let l : Bool = key.life == k.life in
    let o : Bool = key.slot == k.slot in
    let g : Bool = key.generation == k.generation in
    let i : Bool = key.index == k.index in
    sym (and_assoc (s && l && o) g i ∙ and_assoc (s && l) o (g && i) ∙ and_assoc s l (o && (g && i)))

-- numbers that are the same are the same as the same ones
same_as : (a b x : TransactionNumber) → same_number a b ≡ true → same_number a x ≡ same_number b x
same_as a b x e =
    let one = both (a.service == b.service) (a.life == b.life && (a.slot == b.slot && (a.generation == b.generation && a.index == b.index))) e in
    let two = both (a.life == b.life) (a.slot == b.slot && (a.generation == b.generation && a.index == b.index)) one.second in
    let three = both (a.slot == b.slot) (a.generation == b.generation && a.index == b.index) two.second in
    let four = both (a.generation == b.generation) (a.index == b.index) three.second in
    let service = same_of a.service b.service one.first in
    let life = same_of a.life b.life two.first in
    let slot = same_of a.slot b.slot three.first in
    let generation = same_of a.generation b.generation four.first in
    let index = same_of a.index b.index four.second in
    cc

found_as : (entries : List (TransactionNumber × List ℕ)) (a b : TransactionNumber) → same_number a b ≡ true
    → lookup (same_number a) entries ≡ lookup (same_number b) entries
found_as [] a b e = refl
found_as (entry ∷ entries) a b e =
    let here = same_as a b entry.0 e in
    let rest = found_as entries a b e in
    cc

added_by : (entries more : List (TransactionNumber × List ℕ)) (key k : ObjectKey) (name : List ℕ) (b : Bool)
    → name_in more k ≡ cond (same_number (number_of key) (number_of k)) (Some name) (name_in entries k)
    → name_in entries key ≡ None → same_number (number_of key) (number_of k) ≡ b
    → name_in more k ≡ (if b then option_or (name_in entries k) (Some name) else name_in entries k)
added_by entries more key k name true added none e =
    let old = sym (found_as entries (number_of key) (number_of k) e) ∙ none in
    added ∙ ap (λ b. cond b (Some name) (name_in entries k)) e ∙ ap (λ o. option_or o (Some name)) (sym old)
added_by entries more key k name false added none e = added ∙ ap (λ b. cond b (Some name) (name_in entries k)) e

-- a key that had no name has one
pub name_added : (entries more : List (TransactionNumber × List ℕ)) (key k : ObjectKey) (name : List ℕ)
    → name_in more k ≡ cond (same_number (number_of key) (number_of k)) (Some name) (name_in entries k)
    → name_in entries key ≡ None
    → name_in more k ≡ (if same_transaction key k then option_or (name_in entries k) (Some name) else name_in entries k)
name_added entries more key k name added none = added_by entries more key k name (same_transaction key k) added none (same_key key k)

kept_by : (entries : List (TransactionNumber × List ℕ)) (key k : ObjectKey) (name : List ℕ) (b : Bool) → is_some (name_in entries key) ≡ true
    → same_number (number_of key) (number_of k) ≡ b → name_in entries k ≡ (if b then option_or (name_in entries k) (Some name) else name_in entries k)
kept_by entries key k name true some e =
    let old = sym (found_as entries (number_of key) (number_of k) e) in
    sym (or_some (name_in entries k) (Some name) (ap is_some old ∙ some))
kept_by entries key k name false some e = refl

-- a key that has one keeps it
pub name_kept : (entries : List (TransactionNumber × List ℕ)) (key k : ObjectKey) (name : List ℕ) → is_some (name_in entries key) ≡ true
    → name_in entries k ≡ (if same_transaction key k then option_or (name_in entries k) (Some name) else name_in entries k)
name_kept entries key k name some = kept_by entries key k name (same_transaction key k) some (same_key key k)
