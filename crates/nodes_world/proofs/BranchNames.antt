-- A branch of a family goes by its name alone.
use Rattle.std.proofs.Common.{◌≡◌, ◌==◌, ◌&&◌, ℕ, Bool, true, false, cond, IsTrue, List, [], ◌∷◌, find, filter_map, bytes_eq, Option, Some, refl, sym, ap, ◌∙◌, arith}
use Rattle.std.proofs.lemmas.Bool.Decides.{nat_tests}
use Rattle.std.specs.Option.{option_map}
use Rattle.ior_refs.specs.declared.key.ObjectKey.{ObjectKey}
use Rattle.coordinator.specs.Family.{Family}
use Rattle.nodes_world.specs.declared.thing.Thing.{Thing}
use Rattle.nodes_world.specs.declared.thing.Thing.TheVariants as things
use Rattle.nodes_world.specs.Agreement.{IsTransaction}
use Rattle.nodes_world.specs.AgreementInside.{Known, IsBranch}
use Rattle.nodes_world.specs.Happenings.{Cast, branch_name}
use Rattle.nodes_world.specs.Objects.{branch_of, same_transaction}
use Rattle.nodes_world.specs.Told.{Told}
use Rattle.nodes_world.specs.World.{World, NamedKey, thing_in, transaction_in, transaction_name}
use Rattle.nodes_world.proofs.KnownFamilies.{same_parts as first_parts}
use Rattle.nodes_world.proofs.LoadedLines.{found_transaction}

-- a key that some name has is found
abbrev found_in_names : (ObjectKey → Bool) → List (List ℕ × Thing) → Option NamedKey
found_in_names so names = find (λ (t : NamedKey). so t.key) (filter_map (λ (entry : List ℕ × Thing). transaction_in entry.0 entry.1) names)

abbrev Found : Option NamedKey → Type 0
Found o = (t : NamedKey) × (o ≡ Some t)

first_found : (so : Bool) (t : NamedKey) (o : Option NamedKey) → so ≡ true → Found (cond so (Some t) o)
first_found true t o is = (t, refl)
first_found false t o is = absurd cc

also_found : (so : Bool) (t : NamedKey) (o : Option NamedKey) → Found o → Found (cond so (Some t) o)
also_found true t o later = (t, refl)
also_found false t o later = later

key_found : (so : ObjectKey → Bool) (names : List (List ℕ × Thing)) (name : List ℕ) (key : ObjectKey) → thing_in names name ≡ Some (things.Transaction key)
    → so key ≡ true → Found (found_in_names so names)
unfolding thing_in
key_found so [] name key is it = absurd cc
key_found so ((n, things.Transaction other) ∷ names) name key is it = by (bytes_eq name n) is (λ later. key_found so names name key later it)
  where
    same_key : Some (things.Transaction other) ≡ Some (things.Transaction key) → other ≡ key
    same_key e = cc

    by : (b : Bool) → cond b (Some (things.Transaction other)) (thing_in names name) ≡ Some (things.Transaction key)
        → (thing_in names name ≡ Some (things.Transaction key) → Found (found_in_names so names))
        → Found (cond (so other) (Some (record { name = n; key = other })) (found_in_names so names))
    by true is later = first_found (so other) _ _ (ap so (same_key is) ∙ it)
    by false is later = also_found (so other) _ _ (later is)
key_found so ((n, things.Seat place) ∷ names) name key is it = by (bytes_eq name n) is (λ later. key_found so names name key later it)
  where
    by : (b : Bool) → cond b (Some (things.Seat place)) (thing_in names name) ≡ Some (things.Transaction key)
        → (thing_in names name ≡ Some (things.Transaction key) → Found (found_in_names so names)) → Found (found_in_names so names)
    by true is later = absurd cc
    by false is later = later is
key_found so ((n, things.Resource other) ∷ names) name key is it = by (bytes_eq name n) is (λ later. key_found so names name key later it)
  where
    by : (b : Bool) → cond b (Some (things.Resource other)) (thing_in names name) ≡ Some (things.Transaction key)
        → (thing_in names name ≡ Some (things.Transaction key) → Found (found_in_names so names)) → Found (found_in_names so names)
    by true is later = absurd cc
    by false is later = later is

all_parts : (a b c d e p q r s t : ℕ) → IsTrue (a == p && b == q && c == r && d == s && e == t) → (a ≡ p) × (b ≡ q) × (c ≡ r) × (d ≡ s) × (e ≡ t)
all_parts a b c d e p q r s t is = grind (arith, nat_tests)

are_equal : (a b c d e p q r s t : ℕ) → a ≡ p → b ≡ q → c ≡ r → d ≡ s → e ≡ t → (a == p && b == q && c == r && d == s && e == t) ≡ true
are_equal a b c d e p q r s t one two three four five = grind (arith, nat_tests)

-- keys of one letter that are the same transaction are the same
pub same_keys : (a b : ObjectKey) → a.kind ≡ b.kind → same_transaction a b ≡ true → a ≡ b
same_keys a b kind is =
    let same = all_parts a.service a.life a.slot a.generation a.index b.service b.life b.slot b.generation b.index is in
    ap (λ (n : ℕ). record a { kind = n }) kind
    ∙ ap (λ (n : ℕ). record a { kind = b.kind; service = n }) same.0
    ∙ ap (λ (n : ℕ). record a { kind = b.kind; service = b.service; life = n }) same.1
    ∙ ap (λ (n : ℕ). record a { kind = b.kind; service = b.service; life = b.life; slot = n }) same.2
    ∙ ap (λ (n : ℕ). record b { generation = n; index = a.index }) same.3
    ∙ ap (λ (n : ℕ). record b { index = n }) same.4

same_as : (a b x : ObjectKey) → same_transaction a x ≡ true → same_transaction b x ≡ true → same_transaction a b ≡ true
same_as a b x one other =
    let s = all_parts a.service a.life a.slot a.generation a.index x.service x.life x.slot x.generation x.index one in
    let t = all_parts b.service b.life b.slot b.generation b.index x.service x.life x.slot x.generation x.index other in
    are_equal a.service a.life a.slot a.generation a.index b.service b.life b.slot b.generation b.index (s.0 ∙ sym t.0) (s.1 ∙ sym t.1) (s.2 ∙ sym t.2)
    (s.3 ∙ sym t.3) (s.4 ∙ sym t.4)

module _ (w : World) (told : List Told) (k : Known w told) where
  -- a transaction goes by its name
  pub named_key : (name : List ℕ) (key of : ObjectKey) → IsTransaction w name key → same_transaction key of ≡ true → transaction_name w of ≡ Some name
  unfolding transaction_name
  named_key name key of named is =
      let so : ObjectKey → Bool = λ (x : ObjectKey). same_transaction x of in
      let found = key_found so w.names name key named is in
      let at = found_transaction (λ (t : NamedKey). so t.key) w.names found.0 found.1 in
      let there = k.names.once found.0.name (things.Transaction found.0.key) at.1 in
      let kind = k.names.kinds found.0.name found.0.key there ∙ sym (k.names.kinds name key named) in
      let same = same_keys found.0.key key kind (same_as found.0.key key of at.0 is) in
      ap (option_map (λ (t : NamedKey). t.name)) found.1
      ∙ ap (λ (n : List ℕ). Some n)
      (k.names.keys found.0.name name (things.Transaction key) (there ∙ ap (λ (x : ObjectKey). Some (things.Transaction x)) same) named)

  module _ (f : Family) (c : Cast) (own : c.key ≡ f.key) where
    pub named_branch : (t : List ℕ) (b : ℕ) → IsBranch w f t b → branch_name w c b ≡ Some t
    named_branch t b (key, named, of, is) =
        let same = first_parts key.service key.life key.slot key.generation f.key.service f.key.life f.key.slot f.key.generation of in
        named_key t key (branch_of c.key b) named
        (are_equal key.service key.life key.slot key.generation key.index c.key.service c.key.life c.key.slot c.key.generation b
        (same.0 ∙ sym (ap (λ (x : ObjectKey). x.service) own)) (same.1 ∙ sym (ap (λ (x : ObjectKey). x.life) own))
        (same.2 ∙ sym (ap (λ (x : ObjectKey). x.slot) own)) (same.3 ∙ sym (ap (λ (x : ObjectKey). x.generation) own)) is)

    -- one name is of one branch
    pub one_branch : (t : List ℕ) (b d : ℕ) → IsBranch w f t b → IsBranch w f t d → b ≡ d
    one_branch t b d (key, named, of, is) (other, also, of_other, is_other) =
        sym is ∙ ap (λ (x : ObjectKey). x.index) (inner (sym named ∙ also)) ∙ is_other
      where
        inner : {x y : ObjectKey} → Some (things.Transaction x) ≡ Some (things.Transaction y) → x ≡ y
        inner e = cc
