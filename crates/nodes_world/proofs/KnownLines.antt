-- What lines say of names and of transactions, in whichever order they stand, and in a world of which they are told.
use Rattle.std.proofs.Common.{◌≡◌, ◌⊎◌, inl, inr, ℕ, ◌<◌, Bool, true, false, cond, List, [], ◌∷◌, ◌++◌, reverse, find, filter_map, append-nil, Contains, Option, Some, None, refl, sym, ap, subst, ◌∙◌, arith}
use Rattle.std.proofs.lemmas.List.{reverse-append, reverse-reverse}
use Rattle.std.proofs.lemmas.List.Elements.{Contains-append_right}
use Rattle.ior_refs.specs.declared.key.ObjectKey.{ObjectKey}
use Rattle.ots_model.specs.Safe as safe
use Rattle.ots_model.specs.Safe.{Stands, IsToldCommit, IsToldRollback, IsRegistered, IsTop, IsFamily, IsOf, IsJoined, IsCommittedUp, IsUpFrom, TakesPart}
use Rattle.ots_model.specs.SafeByLine.{AllowedIsSafe}
use Rattle.ots_model.specs.declared.line.Line.{Line}
use Rattle.ots_model.specs.declared.line.Line.TheVariants as lines
use Rattle.nodes_world.specs.declared.thing.Thing.{Thing}
use Rattle.nodes_world.specs.declared.thing.Thing.TheVariants as things
use Rattle.nodes_world.specs.Agreement.{IsTransaction, IsCutOff}
use Rattle.nodes_world.specs.Agreement as agreed
use Rattle.nodes_world.specs.AgreementInside.{Known}
use Rattle.nodes_world.specs.Told.{Told, known}
use Rattle.nodes_world.specs.World.{World, NamedKey, is_referred_to, referred, resource_in, thing}

-- ---- lines that stand among others

abbrev pub AreAmong : List Line → List Line → Type 0
AreAmong a b = (line : Line) → Stands line a → Stands line b

pub in_front : (a b : List Line) (line : Line) → Stands line a → Stands line (a ++ b)
in_front [] b line s = absurd s
in_front (x ∷ a) b line (inl e) = inl e
in_front (x ∷ a) b line (inr s) = inr (in_front a b line s)

stands_last : (a : List Line) (x : Line) → Stands x (a ++ x ∷ [])
stands_last [] x = inl refl
stands_last (y ∷ a) x = inr (stands_last a x)

turn_one : (x : Line) (xs : List Line) → reverse (x ∷ xs) ≡ reverse xs ++ x ∷ []
turn_one x xs = reverse-append (x ∷ []) xs

pub among_turned : (xs : List Line) → AreAmong xs (reverse xs)
among_turned [] line s = absurd s
among_turned (x ∷ xs) line (inl e) =
    subst (Stands line) (sym (turn_one x xs)) (subst (λ (y : Line). Stands y (reverse xs ++ x ∷ [])) e (stands_last (reverse xs) x))
among_turned (x ∷ xs) line (inr s) = subst (Stands line) (sym (turn_one x xs)) (in_front (reverse xs) (x ∷ []) line (among_turned xs line s))

pub among_back : (xs : List Line) → AreAmong (reverse xs) xs
among_back xs line s = subst (Stands line) (reverse-reverse xs) (among_turned (reverse xs) line s)

pub family_among : (a b : List Line) (f : List ℕ) → AreAmong a b → IsFamily f a → IsFamily f b
family_among a b f m (inl (node, s)) = inl (node, m _ s)
family_among a b f m (inr (t, (node, s))) = inr (t, (node, m _ s))

pub registered_among : (a b : List Line) (g t : List ℕ) → AreAmong a b → IsRegistered g t a → IsRegistered g t b
registered_among a b g t m (end, s) = (end, m _ s)

pub joined_among : (a b : List Line) (f t : List ℕ) → AreAmong a b → IsJoined a f t → IsJoined b f t
joined_among a b f _ m (safe.IsJoined.own family) = safe.IsJoined.own (family_among a b f m family)
joined_among a b f _ m (safe.IsJoined.committed t parent done sub above) =
    safe.IsJoined.committed t parent (m _ done) (m _ sub) (joined_among a b f parent m above)

pub part_among : (a b : List Line) (g f : List ℕ) → AreAmong a b → TakesPart g f a → TakesPart g f b
part_among a b g f m (t, registered, joined) = (t, registered_among a b g t m registered, joined_among a b f t m joined)

pub cut_among : (a b : List Line) (t : List ℕ) → AreAmong a b → IsCutOff a t → IsCutOff b t
cut_among a b _ m (agreed.IsCutOff.itself t done) = agreed.IsCutOff.itself t (m _ done)
cut_among a b _ m (agreed.IsCutOff.above t parent sub off) = agreed.IsCutOff.above t parent (m _ sub) (cut_among a b parent m off)

-- what is joined to a family was committed up to it, and is of it
pub joined_up : (h : List Line) (f t : List ℕ) → IsJoined h f t → IsCommittedUp h h t
joined_up h f _ (safe.IsJoined.own family) = safe.IsCommittedUp.own f family
joined_up h f _ (safe.IsJoined.committed t parent done sub above) = safe.IsCommittedUp.committed t parent done sub (joined_up h f parent above)

pub joined_of : (h : List Line) (f t : List ℕ) → IsJoined h f t → IsOf h f t
joined_of h f _ (safe.IsJoined.own family) = safe.IsOf.own family
joined_of h f _ (safe.IsJoined.committed t parent done sub above) = safe.IsOf.child t parent sub (joined_of h f parent above)

pub of_family : (h : List Line) (f t : List ℕ) → IsOf h f t → IsFamily f h
of_family h f _ (safe.IsOf.own family) = family
of_family h f _ (safe.IsOf.child t parent sub above) = of_family h f parent above

-- ---- two lines of a list

-- one of them stands before the other
pub record IsBehind (line earlier : Line) (xs : List Line) : Type 0 where
  pub before : List Line
  pub behind : List Line
  pub are : xs ≡ before ++ (line ∷ behind)
  pub stands : Stands earlier before

pub stands_at : (xs : List Line) (line : Line) → Stands line xs → (before : List Line) × (behind : List Line) × (xs ≡ before ++ (line ∷ behind))
stands_at [] line s = absurd s
stands_at (x ∷ xs) line (inl e) = ([], xs, ap (λ (y : Line). y ∷ xs) e)
stands_at (x ∷ xs) line (inr s) = let at = stands_at xs line s in (x ∷ at.0, at.1, ap (λ ys. x ∷ ys) at.2)

one_behind : (x line earlier : Line) (xs : List Line) → IsBehind line earlier xs → IsBehind line earlier (x ∷ xs)
one_behind x line earlier xs b = record { before = x ∷ b.before; behind = b.behind; are = ap (λ ys. x ∷ ys) b.are; stands = inr b.stands }

behind_first : (x line earlier : Line) (xs : List Line) → x ≡ earlier → Stands line xs → IsBehind line earlier (x ∷ xs)
behind_first x line earlier xs is s =
    let at = stands_at xs line s in
    record { before = x ∷ at.0; behind = at.1; are = ap (λ ys. x ∷ ys) at.2; stands = inl is }

pub both_stand : (xs : List Line) (a b : Line) → Stands a xs → Stands b xs → (a ≡ b) ⊎ (IsBehind a b xs ⊎ IsBehind b a xs)
both_stand [] a b s t = absurd s
both_stand (x ∷ xs) a b (inl e) (inl f) = inl (sym e ∙ f)
both_stand (x ∷ xs) a b (inl e) (inr t) = inr (inr (behind_first x b a xs e t))
both_stand (x ∷ xs) a b (inr s) (inl f) = inr (inl (behind_first x a b xs f s))
both_stand (x ∷ xs) a b (inr s) (inr t) =
    elim (both_stand xs a b s t) [
      | inl same ↦ inl same
      | inr (inl one) ↦ inr (inl (one_behind x a b xs one))
      | inr (inr other) ↦ inr (inr (one_behind x b a xs other))
    ]

-- ---- names

pub same_key : (o : Option Thing) (a b : ObjectKey) → o ≡ Some (things.Transaction a) → o ≡ Some (things.Transaction b) → a ≡ b
same_key o a b e f = cc

pub same_resource : (o : Option Thing) (a b : ObjectKey) → o ≡ Some (things.Resource a) → o ≡ Some (things.Resource b) → a ≡ b
same_resource o a b e f = cc

pub not_both_kinds : (o : Option Thing) (a b : ObjectKey) → o ≡ Some (things.Transaction a) → o ≡ Some (things.Resource b) → ⊥
not_both_kinds o a b e f = absurd (no (sym e ∙ f))
  where
    no : Some (things.Transaction a) ≡ Some (things.Resource b) → ⊥
    no is = cc

pub not_free : (o : Option Thing) (x : Thing) → o ≡ Some x → o ≡ None → ⊥
not_free o x e f = absurd (no (sym e ∙ f))
  where
    no : Some x ≡ None → ⊥
    no is = cc

abbrev found_among : (NamedKey → Bool) → List (List ℕ × Thing) → Option NamedKey
found_among p names = find p (filter_map (λ (entry : List ℕ × Thing). resource_in entry.0 entry.1) names)

found_first : (p : NamedKey → Bool) (name : List ℕ) (key : ObjectKey) (names : List (List ℕ × Thing)) (r : NamedKey) (b : Bool)
    → (found_among p names ≡ Some r → Contains names (r.name, things.Resource r.key))
    → cond b (Some (record { name = name; key = key })) (found_among p names) ≡ Some r
    → Contains ((name, things.Resource key) ∷ names) (r.name, things.Resource r.key)
found_first p name key names r true later is = (0, omega arith, ap (λ (x : NamedKey). (x.name, things.Resource x.key)) (here is))
  where
    here : {x y : NamedKey} → Some x ≡ Some y → x ≡ y
    here e = cc
found_first p name key names r false later is = Contains-append_right ((name, things.Resource key) ∷ []) names _ (later is)

-- what is found among the resources has a name in the list
found_named : (p : NamedKey → Bool) (names : List (List ℕ × Thing)) (r : NamedKey)
    → found_among p names ≡ Some r → Contains names (r.name, things.Resource r.key)
found_named p [] r is = absurd (no is)
  where
    no : {x : NamedKey} → None ≡ Some x → ⊥
    no is = cc
found_named p ((name, things.Seat place) ∷ names) r is = Contains-append_right ((name, things.Seat place) ∷ []) names _ (found_named p names r is)
found_named p ((name, things.Transaction key) ∷ names) r is =
    Contains-append_right ((name, things.Transaction key) ∷ []) names _ (found_named p names r is)
found_named p ((name, things.Resource key) ∷ names) r is =
    found_first p name key names r (p (record { name = name; key = key })) (found_named p names r) is

-- ---- what is known

abbrev pub lines_of : List Told → List Line
lines_of told = reverse (known told)

module _ (w : World) (told : List Told) (k : Known w told) where
  -- to what a reference leads is a resource of its name
  pub referred_named : (to : List ℕ) (x : NamedKey) → referred w to ≡ Some x → thing w x.name ≡ Some (things.Resource x.key)
  unfolding referred
  referred_named to x is = k.names.once x.name (things.Resource x.key) (found_named (is_referred_to w to) w.names x is)

  -- there are top-level transactions alone, and no others take part in them
  pub top_of : (f : List ℕ) → IsFamily f (lines_of told) → IsTop f (lines_of told)
  top_of f (inl top) = top
  top_of f (inr (t, (node, s))) = absurd (k.names.no_import f t node s)

  pub up_same : (f g : List ℕ) → IsUpFrom (lines_of told) f g → g ≡ f
  up_same _ _ (safe.itself f) = refl
  up_same _ _ (safe.above f t next x (node, s) of up) = absurd (k.names.no_import f t node s)

  pub family_key : (f : List ℕ) → IsFamily f (lines_of told) → (key : ObjectKey) × IsTransaction w f key × (key.index ≡ 0)
  family_key f family = let top = top_of f family in k.names.tops f top.0 top.1

  top_by : (name : List ℕ) (key : ObjectKey) → IsTransaction w name key → key.index ≡ 0
      → (IsTop name (lines_of told) ⊎ ((above : List ℕ) × Stands (lines.Sub name above) (lines_of told))) → IsTop name (lines_of told)
  top_by name key named first (inl top) = top
  top_by name key named first (inr (above, sub)) =
      let at = k.names.subs name above sub in
      let same = ap (λ (x : ObjectKey). x.index) (same_key (thing w name) key at.0 named at.2) in
      let below = at.4 in
      absurd (omega (arith, same, first, below))

  pub is_top : (name : List ℕ) (key : ObjectKey) → IsTransaction w name key → key.index ≡ 0 → IsTop name (lines_of told)
  is_top name key named first = top_by name key named first (k.names.transactions name key named).1

  -- the family of a transaction has its key, but for the index
  pub of_key : (f t : List ℕ) (key : ObjectKey) → IsOf (lines_of told) f t → IsTransaction w t key → IsTransaction w f (record key { index = 0 })
  of_key f _ key (safe.IsOf.own family) named =
      let at = family_key f family in
      let same : key ≡ at.0 = same_key (thing w f) key at.0 named at.1 in
      let first : key.index ≡ 0 = ap (λ (x : ObjectKey). x.index) same ∙ at.2 in
      subst (IsTransaction w f) (ap (λ (i : ℕ). record key { index = i }) first) named
  of_key f _ key (safe.IsOf.child t parent sub above) named =
      let at = k.names.subs t parent sub in
      let same : key ≡ at.0 = same_key (thing w t) key at.0 named at.2 in
      let level : record at.1 { index = 0 } ≡ record key { index = 0 } =
      sym (ap (λ (x : ObjectKey). record x { index = 0 }) at.5) ∙ ap (λ (x : ObjectKey). record x { index = 0 }) (sym same) in
      subst (IsTransaction w f) level (of_key f parent at.1 above at.3)

  -- a transaction is of one family
  pub of_one : (f g t : List ℕ) (key : ObjectKey) → IsOf (lines_of told) f t → IsOf (lines_of told) g t → IsTransaction w t key → f ≡ g
  of_one f g t key one other named = k.names.keys f g (things.Transaction (record key { index = 0 })) (of_key f t key one named) (of_key g t key other named)

  -- ---- what is closed

  -- a subtransaction isn't told to be committed and rolled back
  pub ends_once : (t : List ℕ) → Stands (lines.SubDone t true) (lines_of told) → Stands (lines.SubDone t false) (lines_of told) → ⊥
  ends_once t done undone =
      elim (both_stand (known told) (lines.SubDone t true) (lines.SubDone t false) (among_back (known told) _ done) (among_back (known told) _ undone)) [
        | inl same ↦ no same
        | inr (inl b) ↦ k.ends b.before b.behind t true false b.are b.stands
        | inr (inr b) ↦ k.ends b.before b.behind t false true b.are b.stands
      ]
    where
      no : lines.SubDone t true ≡ lines.SubDone t false → ⊥
      no is = cc

  not_first : (t : List ℕ) (key : ObjectKey) → IsFamily t (lines_of told) → IsTransaction w t key → 0 < key.index → ⊥
  not_first t key family named below =
      let at = family_key t family in
      let same = ap (λ (x : ObjectKey). x.index) (same_key (thing w t) key at.0 named at.1) in
      omega (arith, same, at.2, below)

  -- what is cut off isn't committed up to its family
  pub closed_cut_off : (t : List ℕ) → IsCutOff (lines_of told) t → IsCommittedUp (lines_of told) (lines_of told) t → ⊥
  closed_cut_off _ (agreed.IsCutOff.itself t undone) (safe.IsCommittedUp.own _ family) =
      let at = k.names.ended t false undone in
      not_first t at.0 family at.1 at.2
  closed_cut_off _ (agreed.IsCutOff.itself t undone) (safe.IsCommittedUp.committed _ parent done sub above) = ends_once t done undone
  closed_cut_off _ (agreed.IsCutOff.above t p sub off) (safe.IsCommittedUp.own _ family) =
      let at = k.names.subs t p sub in
      not_first t at.0 family at.2 at.4
  closed_cut_off _ (agreed.IsCutOff.above t p sub off) (safe.IsCommittedUp.committed _ parent done other above) =
      closed_cut_off p off (subst (IsCommittedUp (lines_of told) (lines_of told)) (k.names.one_parent t parent p other sub) above)

  -- nothing is told both a commit word and rollback
  pub one_way : AllowedIsSafe → (g : List ℕ) → IsToldCommit g (lines_of told) → IsToldRollback g (lines_of told) → ⊥
  one_way is_safe g commit rollback =
      (is_safe (lines_of told) k.allowed (reverse (lines_of told)) [] (sym (append-nil _))).one_way g (commit_turned commit) (rollback.0, among_turned (lines_of told) _ rollback.1)
    where
      commit_turned : IsToldCommit g (lines_of told) → IsToldCommit g (reverse (lines_of told))
      commit_turned (inl s) = inl (s.0, among_turned (lines_of told) _ s.1)
      commit_turned (inr s) = inr (s.0, among_turned (lines_of told) _ s.1)
