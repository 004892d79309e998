-- What a load tells: its life, and each decision that stands.
use Rattle.std.proofs.Common.{◌≡◌, ◌⊎◌, inl, inr, ℕ, ◌==◌, ◌&&◌, Bool, true, false, cond, find, IsTrue, List, [], ◌∷◌, ◌++◌, filter_map, Contains, Option, Some, None, refl, sym, ap, subst, ◌∙◌, arith, bytes_eq, true≢false}
use Rattle.std.specs.List.{AllByRecursion, flat_map}
use Rattle.std.specs.Option.{option_map}
use Rattle.std.proofs.lemmas.Bool.Decides.{nat_tests}
use Rattle.std.proofs.lemmas.List.Elements.{Contains-append_right, Contains-append_cases, filter_map-append}
use Rattle.ior_refs.specs.declared.key.ObjectKey.{ObjectKey}
use Rattle.ots_model.specs.Safe.{Stands}
use Rattle.ots_model.specs.declared.completion.Ground.TheVariants.{Record}
use Rattle.ots_model.specs.declared.completion.Outcome.TheVariants as outcomes
use Rattle.ots_model.specs.declared.line.Line.{Line}
use Rattle.ots_model.specs.declared.line.Line.TheVariants as lines
use Rattle.recovery_coord.specs.Held.{is_decided}
use Rattle.recovery_coord.specs.declared.held.Held.{Held}
use Rattle.nodes_world.specs.declared.thing.Thing.{Thing}
use Rattle.nodes_world.specs.declared.thing.Thing.TheVariants as things
use Rattle.nodes_world.specs.Objects.{same_transaction}
use Rattle.nodes_world.specs.Told as tell
use Rattle.nodes_world.specs.Told.{Told, known, known_in}
use Rattle.nodes_world.specs.World.{World, NamedKey, thing, transaction_in, transaction_name, transactions, thing_in}
use Rattle.nodes_world.specs.Happenings.{naming}
use Rattle.nodes_world.specs.Nodes.{key_of_record}
use Rattle.nodes_world.specs.Lives.{standing_lines}
use Rattle.nodes_world.specs.Agreement.{IsTransaction}
use Rattle.nodes_world.specs.AgreementInside.{Known}
use Rattle.nodes_world.proofs.KnownTelling.{IsOne}
use Rattle.nodes_world.proofs.LoadedNodes.{one_of}
use Rattle.std.proofs.lemmas.Slice.Eq.{bytes_eq-Decides}
use Rattle.nodes_world.proofs.KnownLines.{in_front}

-- ---- which lines these are

-- a decision that is recorded is told
abbrev pub is_recorded_decision : Line → Bool
is_recorded_decision (lines.Decide name (outcomes.Commit Record)) = true
is_recorded_decision _ = false

pub all_both : {A : Type 0} (P : A → Type 0) (xs ys : List A) → AllByRecursion P xs → AllByRecursion P ys → AllByRecursion P (xs ++ ys)
all_both P [] ys all also = also
all_both P (x ∷ xs) ys (one, all) also = (one, all_both P xs ys all also)

named_one : (flag : Line → Bool) → ((name : List ℕ) → flag (lines.Decide name (outcomes.Commit Record)) ≡ true) → (so : Bool) (name : Option (List ℕ))
    → AllByRecursion (IsOne flag) (cond so (naming (λ (n : List ℕ). tell.Known (lines.Decide n (outcomes.Commit Record))) name) [])
named_one flag is true (Some name) = (is name, tt)
named_one flag is true None = tt
named_one flag is false name = tt

pub standing_one : (flag : Line → Bool) → ((name : List ℕ) → flag (lines.Decide name (outcomes.Commit Record)) ≡ true) → (w : World) (service : ℕ) (some : List Held)
    → AllByRecursion (IsOne flag) (flat_map (standing_lines w service) some)
standing_one flag is w service [] = tt
standing_one flag is w service (r ∷ others) =
    all_both (IsOne flag) (standing_lines w service r) (flat_map (standing_lines w service) others)
    (named_one flag is (is_decided r.kind) (transaction_name w (key_of_record service r))) (standing_one flag is w service others)

-- ---- of which record a line is

-- one that is held is told by this name
pub record IsTold (w : World) (service : ℕ) (some : List Held) (name : List ℕ) : Type 0 where
  pub held : Held
  pub among : Contains some held
  pub decided : is_decided held.kind ≡ true
  pub named : transaction_name w (key_of_record service held) ≡ Some name

pub stands_both : (xs ys : List Line) (line : Line) → Stands line (xs ++ ys) → Stands line xs ⊎ Stands line ys
stands_both [] ys line s = inr s
stands_both (x ∷ xs) ys line (inl e) = inl (inl e)
stands_both (x ∷ xs) ys line (inr s) = elim (stands_both xs ys line s) [
  | inl here ↦ inl (inr here)
  | inr there ↦ inr there
]

told_named : (so : Bool) (o : Option (List ℕ)) (name : List ℕ)
    → Stands (lines.Decide name (outcomes.Commit Record)) (known (cond so (naming (λ (n : List ℕ). tell.Known (lines.Decide n (outcomes.Commit Record))) o) []))
    → (so ≡ true) × (o ≡ Some name)
told_named true (Some n) name (inl e) = (refl, ap (λ (x : List ℕ). Some x) (name_of e))
  where
    name_of : lines.Decide n (outcomes.Commit Record) ≡ lines.Decide name (outcomes.Commit Record) → n ≡ name
    name_of e = cc
told_named true (Some n) name (inr s) = absurd s
told_named true None name s = absurd s
told_named false o name s = absurd s

pub standing_told : (w : World) (service : ℕ) (some : List Held) (name : List ℕ)
    → Stands (lines.Decide name (outcomes.Commit Record)) (known (flat_map (standing_lines w service) some)) → IsTold w service some name
standing_told w service [] name s = absurd s
standing_told w service (r ∷ others) name s =
    elim (stands_both (known (standing_lines w service r)) (known (flat_map (standing_lines w service) others)) _
    (subst (Stands (lines.Decide name (outcomes.Commit Record))) (filter_map-append known_in (standing_lines w service r) (flat_map (standing_lines w service) others)) s)) [
      | inl here ↦ let so = told_named (is_decided r.kind) (transaction_name w (key_of_record service r)) name here in
          record { held = r; among = (0, omega arith, refl); decided = so.0; named = so.1 }
      | inr there ↦ let at = standing_told w service others name there in
          record { held = at.held; among = Contains-append_right (r ∷ []) others at.held at.among; decided = at.decided; named = at.named }
    ]

-- ---- the transaction of a name

pub found_transaction : (p : NamedKey → Bool) (names : List (List ℕ × Thing)) (t : NamedKey)
    → find p (filter_map (λ (entry : List ℕ × Thing). transaction_in entry.0 entry.1) names) ≡ Some t
    → (p t ≡ true) × Contains names (t.name, things.Transaction t.key)
found_transaction p [] t is = absurd cc
found_transaction p ((n, things.Seat place) ∷ names) t is =
    let at = found_transaction p names t is in (at.0, Contains-append_right ((n, things.Seat place) ∷ []) names _ at.1)
found_transaction p ((n, things.Resource key) ∷ names) t is =
    let at = found_transaction p names t is in (at.0, Contains-append_right ((n, things.Resource key) ∷ []) names _ at.1)
found_transaction p ((n, things.Transaction key) ∷ names) t is = by (p (record { name = n; key = key })) refl (found_transaction p names t) is
  where
    same : {x y : NamedKey} → Some x ≡ Some y → x ≡ y
    same e = cc

    by : (b : Bool) → p (record { name = n; key = key }) ≡ b
        → (find p (filter_map (λ (entry : List ℕ × Thing). transaction_in entry.0 entry.1) names) ≡ Some t → (p t ≡ true) × Contains names (t.name, things.Transaction t.key))
        → cond b (Some (record { name = n; key = key })) (find p (filter_map (λ (entry : List ℕ × Thing). transaction_in entry.0 entry.1) names)) ≡ Some t
        → (p t ≡ true) × Contains ((n, things.Transaction key) ∷ names) (t.name, things.Transaction t.key)
    by true so others is =
        subst (λ (x : NamedKey). (p x ≡ true) × Contains ((n, things.Transaction key) ∷ names) (x.name, things.Transaction x.key)) (same is) (so, (0, omega arith, refl))
    by false so others is = let at = others is in (at.0, Contains-append_right ((n, things.Transaction key) ∷ []) names _ at.1)

-- one that has a name is among them
named_found : (p : NamedKey → Bool) (names : List (List ℕ × Thing)) (name : List ℕ) (key : ObjectKey) → thing_in names name ≡ Some (things.Transaction key)
    → p (record { name = name; key = key }) ≡ true
    → find p (filter_map (λ (entry : List ℕ × Thing). transaction_in entry.0 entry.1) names) ≡ None → ⊥
unfolding thing_in
named_found p [] name key named passes none = absurd cc
named_found p ((n, t) ∷ names) name key named passes none =
    by t (bytes_eq name n) refl (λ later. named_found p names name key later passes) named none
  where
    key_of : (t : Thing) → Some t ≡ Some (things.Transaction key) → t ≡ things.Transaction key
    key_of t e = cc

    no_some : {x : NamedKey} → Some x ≡ None → ⊥
    no_some e = cc

    rest : (b : Bool) (x : NamedKey) (o : Option NamedKey) → cond b (Some x) o ≡ None → (o ≡ None) × (b ≡ false)
    rest true x o e = absurd cc
    rest false x o e = (e, refl)

    here : (t : Thing) → n ≡ name → t ≡ things.Transaction key
        → find p (filter_map (λ (entry : List ℕ × Thing). transaction_in entry.0 entry.1) ((n, t) ∷ names)) ≡ None → ⊥
    here t is same none =
        let at = subst (λ (x : Thing). find p (filter_map (λ (entry : List ℕ × Thing). transaction_in entry.0 entry.1) ((n, x) ∷ names)) ≡ None) same none in
        true≢false (sym passes ∙ ap (λ (x : List ℕ). p (record { name = x; key = key })) (sym is)
        ∙ (rest (p (record { name = n; key = key })) (record { name = n; key = key }) _ at).1)

    there : (t : Thing) → find p (filter_map (λ (entry : List ℕ × Thing). transaction_in entry.0 entry.1) ((n, t) ∷ names)) ≡ None
        → find p (filter_map (λ (entry : List ℕ × Thing). transaction_in entry.0 entry.1) names) ≡ None
    there (things.Seat place) none = none
    there (things.Transaction other) none = (rest (p (record { name = n; key = other })) (record { name = n; key = other }) _ none).0
    there (things.Resource other) none = none

    by : (t : Thing) (b : Bool) → bytes_eq name n ≡ b
        → (thing_in names name ≡ Some (things.Transaction key) → find p (filter_map (λ (entry : List ℕ × Thing). transaction_in entry.0 entry.1) names) ≡ None → ⊥)
        → cond b (Some t) (thing_in names name) ≡ Some (things.Transaction key)
        → find p (filter_map (λ (entry : List ℕ × Thing). transaction_in entry.0 entry.1) ((n, t) ∷ names)) ≡ None → ⊥
    by t true same later named none = here t (sym ((bytes_eq-Decides name n).0 same)) (key_of t named) none
    by t false other later named none = later named (there t none)

-- a name by which a key goes names a transaction of that key
pub name_is : (w : World) (told : List Told) (k : Known w told) (key named : ObjectKey) (name : List ℕ) → transaction_name w key ≡ Some name
    → IsTransaction w name named → same_transaction named key ≡ true
unfolding transaction_name
name_is w told k key named name is given = by (find (λ (t : NamedKey). same_transaction t.key key) (transactions w)) refl is
  where
    key_of : {a b : ObjectKey} → Some (things.Transaction a) ≡ Some (things.Transaction b) → a ≡ b
    key_of e = cc

    name_of : {a b : List ℕ} → Some a ≡ Some b → a ≡ b
    name_of e = cc

    by : (o : Option NamedKey) → find (λ (t : NamedKey). same_transaction t.key key) (transactions w) ≡ o → option_map (λ (t : NamedKey). t.name) o ≡ Some name
        → same_transaction named key ≡ true
    by None found is = absurd cc
    by (Some t) found is =
        let at = found_transaction (λ (t : NamedKey). same_transaction t.key key) w.names t found in
        let own = k.names.once t.name (things.Transaction t.key) at.1 in
        subst (λ (x : ObjectKey). same_transaction x key ≡ true)
        (key_of (sym own ∙ subst (λ (n : List ℕ). thing w n ≡ Some (things.Transaction named)) (sym (name_of is)) given)) at.0

-- a transaction goes by its name
pub transaction_found : (w : World) (told : List Told) (k : Known w told) (key : ObjectKey) (name : List ℕ) → IsTransaction w name key
    → transaction_name w key ≡ Some name
unfolding transaction_name
transaction_found w told k key name named = by (find (λ (t : NamedKey). same_transaction t.key key) (transactions w)) refl
  where
    same_five : (a b c d i p q r s j : ℕ) → IsTrue (a == p && b == q && c == r && d == s && i == j) → (a ≡ p) × (b ≡ q) × (c ≡ r) × (d ≡ s) × (i ≡ j)
    same_five a b c d i p q r s j is = grind (arith, nat_tests)

    own_five : (a b c d i : ℕ) → IsTrue (a == a && b == b && c == c && d == d && i == i)
    own_five a b c d i = grind (arith, nat_tests)

    same_parts : (a b : ObjectKey) → a.kind ≡ b.kind → same_transaction a b ≡ true → a ≡ b
    same_parts a b kind is =
        let parts = same_five a.service a.life a.slot a.generation a.index b.service b.life b.slot b.generation b.index is in
        same_keys a b kind parts.0 parts.1 parts.2 parts.3 parts.4
      where
        same_keys : (a b : ObjectKey) → a.kind ≡ b.kind → a.service ≡ b.service → a.life ≡ b.life → a.slot ≡ b.slot → a.generation ≡ b.generation → a.index ≡ b.index
            → a ≡ b
        same_keys a b kind service in_life slot generation index =
            ap (λ (x : ℕ). record a { kind = x }) kind
            ∙ ap (λ (x : ℕ). record a { kind = b.kind; service = x }) service
            ∙ ap (λ (x : ℕ). record a { kind = b.kind; service = b.service; life = x }) in_life
            ∙ ap (λ (x : ℕ). record a { kind = b.kind; service = b.service; life = b.life; slot = x }) slot
            ∙ ap (λ (x : ℕ). record a { kind = b.kind; service = b.service; life = b.life; slot = b.slot; generation = x }) generation
            ∙ ap (λ (x : ℕ). record a { kind = b.kind; service = b.service; life = b.life; slot = b.slot; generation = b.generation; index = x }) index

    by : (o : Option NamedKey) → find (λ (t : NamedKey). same_transaction t.key key) (transactions w) ≡ o → option_map (λ (t : NamedKey). t.name) o ≡ Some name
    by None found =
        absurd (named_found (λ (t : NamedKey). same_transaction t.key key) w.names name key named
        (own_five key.service key.life key.slot key.generation key.index) found)
    by (Some t) found =
        let at = found_transaction (λ (x : NamedKey). same_transaction x.key key) w.names t found in
        let own = k.names.once t.name (things.Transaction t.key) at.1 in
        let same = same_parts t.key key (k.names.kinds t.name t.key own ∙ sym (k.names.kinds name key named)) at.0 in
        ap (λ (n : List ℕ). Some n) (k.names.keys t.name name (things.Transaction key) (subst (IsTransaction w t.name) same own) named)

-- what stands in a list stands behind others
pub stands_behind : (xs ys : List Line) (line : Line) → Stands line ys → Stands line (xs ++ ys)
stands_behind [] ys line s = s
stands_behind (x ∷ xs) ys line s = inr (stands_behind xs ys line s)

-- the line of a decision that stands is told
pub told_standing : (w : World) (service : ℕ) (some : List Held) (h : Held) (name : List ℕ) → Contains some h → is_decided h.kind ≡ true
    → transaction_name w (key_of_record service h) ≡ Some name
    → Stands (lines.Decide name (outcomes.Commit Record)) (known (flat_map (standing_lines w service) some))
told_standing w service [] h name (i, less, is) decided named = absurd (omega (arith, less))
told_standing w service (r ∷ others) h name among decided named =
    subst (Stands (lines.Decide name (outcomes.Commit Record))) (sym (filter_map-append known_in (standing_lines w service r) (flat_map (standing_lines w service) others)))
    (elim (Contains-append_cases (r ∷ []) others h among) [
      | inl first ↦ in_front (known (standing_lines w service r)) (known (flat_map (standing_lines w service) others)) _
          (subst (λ (x : Held). Stands (lines.Decide name (outcomes.Commit Record)) (known (standing_lines w service x))) (sym (one_of r h first))
          (own_line h decided named))
      | inr later ↦ stands_behind (known (standing_lines w service r)) (known (flat_map (standing_lines w service) others)) _
          (told_standing w service others h name later decided named)
    ])
  where
    own_line : (h : Held) → is_decided h.kind ≡ true → transaction_name w (key_of_record service h) ≡ Some name
        → Stands (lines.Decide name (outcomes.Commit Record)) (known (standing_lines w service h))
    own_line h decided named =
        subst (λ (o : Option (List ℕ)). Stands (lines.Decide name (outcomes.Commit Record))
        (known (cond (is_decided h.kind) (naming (λ (n : List ℕ). tell.Known (lines.Decide n (outcomes.Commit Record))) o) []))) (sym named)
        (subst (λ (b : Bool). Stands (lines.Decide name (outcomes.Commit Record))
        (known (cond b (naming (λ (n : List ℕ). tell.Known (lines.Decide n (outcomes.Commit Record))) (Some name)) []))) (sym decided) (inl refl))
