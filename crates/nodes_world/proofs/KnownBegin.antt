-- What is known of names, and of what is allowed, once a top-level transaction has its name.
use Rattle.std.proofs.Common.{◌≡◌, inl, inr, ℕ, ◌<◌, Bool, List, [], ◌∷◌, ◌++◌, Some, None, sym, ap, subst, ◌∙◌}
use Rattle.std.proofs.lemmas.List.Elements.{Contains-push_cases}
use Rattle.ior_refs.specs.declared.key.ObjectKey.{ObjectKey}
use Rattle.ots_model.specs.Safe.{Stands, IsRegistered}
use Rattle.ots_model.specs.SafeByLine.{AreAllowed}
use Rattle.ots_model.specs.declared.line.Line.{Line}
use Rattle.ots_model.specs.declared.line.Line.TheVariants as lines
use Rattle.coordinator.specs.Names.{coordinator_kind}
use Rattle.nodes_world.specs.declared.thing.Thing.{Thing}
use Rattle.nodes_world.specs.declared.thing.Thing.TheVariants as things
use Rattle.nodes_world.specs.Told as tell
use Rattle.nodes_world.specs.Told.{Told}
use Rattle.nodes_world.specs.World.{World, Seat, resource_at, thing, with_name}
use Rattle.nodes_world.specs.Agreement.{IsTransaction, KeysAreOnce}
use Rattle.nodes_world.specs.AgreementInside.{Known, IsMade, NamesAreTold}
use Rattle.nodes_world.proofs.KnownLines.{lines_of}
use Rattle.nodes_world.proofs.KnownFrames.{newest_phase}
use Rattle.nodes_world.proofs.CanRegister.{can_make}
use Rattle.nodes_world.proofs.KnownWorlds.{NamedOnce}
use Rattle.nodes_world.proofs.KnownMakings.{thing_cases, thing_given, thing_kept}
use Rattle.ots_model.specs.declared.line.ResourceState.{ResourceState}

-- a name that was free is given to the top-level transaction of a key that no name had
module _ (w : World) (name node : List ℕ) (key : ObjectKey) (seats : List Seat) (told : List Told) (free : thing w name ≡ None) (k : Known w told)
    (fresh : (other : List ℕ) → IsTransaction w other key → ⊥) (kind : key.kind ≡ coordinator_kind) (top : key.index ≡ 0) (service : 0 < key.service) where
  abbrev own : Thing
  own = things.Transaction key

  abbrev v : World
  v = with_name name own (record w { seats = seats })

  abbrev line : Line
  line = lines.Top name node

  abbrev later : List Told
  later = told ++ tell.Known line ∷ []

  abbrev h : List Line
  h = lines_of told

  on : (n : List ℕ) (t : Thing) → thing w n ≡ Some t → thing v n ≡ Some t
  on n t is = thing_kept w.names ((name, own) ∷ []) n t is

  given : thing v name ≡ Some own
  given = thing_given w.names name own free

  own_key : (t : ObjectKey) → own ≡ things.Transaction t → key ≡ t
  own_key t e = cc

  -- a resource then was one before
  resource_was : (n : List ℕ) (r : ObjectKey) → thing v n ≡ Some (things.Resource r) → thing w n ≡ Some (things.Resource r)
  resource_was n r is = elim (thing_cases w.names name own n (things.Resource r) is) [
    | inl was ↦ was
    | inr new ↦ absurd (no new.1)
  ]
    where
      no : own ≡ things.Resource r → ⊥
      no e = cc

  pub keys_begun : KeysAreOnce v
  keys_begun n other t is also = elim (thing_cases w.names name own n t is) [
    | inl was ↦ elim (thing_cases w.names name own other t also) [
      | inl too ↦ k.names.keys n other t was too
      | inr new ↦ absurd (fresh n (was ∙ ap (λ (x : Thing). Some x) (sym new.1)))
    ]
    | inr new ↦ elim (thing_cases w.names name own other t also) [
      | inl too ↦ absurd (fresh other (too ∙ ap (λ (x : Thing). Some x) (sym new.1)))
      | inr both ↦ new.0 ∙ sym both.0
    ]
  ]

  pub once_begun : NamedOnce v
  once_begun n t among = elim (Contains-push_cases w.names (name, own) (n, t) among) [
    | inl was ↦ on n t (k.names.once n t was)
    | inr new ↦ subst (λ (e : List ℕ × Thing). thing v e.0 ≡ Some e.1) new given
  ]

  made_on : (n : List ℕ) (t : ObjectKey) → thing v n ≡ Some (things.Transaction t) → IsMade w h n t → IsMade v (line ∷ h) n t
  made_on n t is (named, inl (at, s)) = (is, inl (at, inr s))
  made_on n t is (named, inr (above, s)) = (is, inr (above, inr s))

  transactions_begun : (n : List ℕ) (t : ObjectKey) → IsTransaction v n t → IsMade v (line ∷ h) n t
  transactions_begun n t is = elim (thing_cases w.names name own n (things.Transaction t) is) [
    | inl was ↦ made_on n t is (k.names.transactions n t was)
    | inr new ↦ (is, inl (node, inl (ap (λ (x : List ℕ). lines.Top x node) (sym new.0))))
  ]

  kinds_begun : (n : List ℕ) (t : ObjectKey) → IsTransaction v n t → t.kind ≡ coordinator_kind
  kinds_begun n t is = elim (thing_cases w.names name own n (things.Transaction t) is) [
    | inl was ↦ k.names.kinds n t was
    | inr new ↦ subst (λ (x : ObjectKey). x.kind ≡ coordinator_kind) (own_key t new.1) kind
  ]

  services_begun : (n : List ℕ) (t : ObjectKey) → IsTransaction v n t → 0 < t.service
  services_begun n t is = elim (thing_cases w.names name own n (things.Transaction t) is) [
    | inl was ↦ k.names.services n t was
    | inr new ↦ subst (λ (x : ObjectKey). 0 < x.service) (own_key t new.1) service
  ]

  tops_begun : (n at : List ℕ) → Stands (lines.Top n at) (line ∷ h) → (t : ObjectKey) × IsTransaction v n t × (t.index ≡ 0)
  tops_begun n at (inl e) = (key, subst (λ (x : List ℕ). thing v x ≡ Some own) (name_of e) given, top)
    where
      name_of : line ≡ lines.Top n at → name ≡ n
      name_of e = cc
  tops_begun n at (inr s) = let was = k.names.tops n at s in (was.0, on n (things.Transaction was.0) was.1, was.2)

  -- no other line of names is new
  was_sub : (n above : List ℕ) → Stands (lines.Sub n above) (line ∷ h) → Stands (lines.Sub n above) h
  was_sub n above (inl e) = absurd cc
  was_sub n above (inr s) = s

  was_done : (n : List ℕ) (committed : Bool) → Stands (lines.SubDone n committed) (line ∷ h) → Stands (lines.SubDone n committed) h
  was_done n committed (inl e) = absurd cc
  was_done n committed (inr s) = s

  was_shown : (n : List ℕ) (state : ResourceState) → Stands (lines.State n state) (line ∷ h) → Stands (lines.State n state) h
  was_shown n state (inl e) = absurd cc
  was_shown n state (inr s) = s

  was_registered : (n t : List ℕ) → IsRegistered n t (line ∷ h) → IsRegistered n t h
  was_registered n t (end, inl e) = absurd cc
  was_registered n t (end, inr s) = (end, s)

  no_import_begun : (n above at : List ℕ) → Stands (lines.Imp n above at) (line ∷ h) → ⊥
  no_import_begun n above at (inl e) = cc
  no_import_begun n above at (inr s) = k.names.no_import n above at s

  -- what is known of names, where resources stand as before
  pub names_begun : ((r : ObjectKey) → resource_at v r ≡ resource_at w r) → NamesAreTold v (lines_of later)
  names_begun same = subst (NamesAreTold v) (sym (newest_phase told line)) (record {
    keys = keys_begun;
    once = once_begun;
    transactions = transactions_begun;
    kinds = kinds_begun;
    services = services_begun;
    tops = tops_begun;
    subs = λ n above s.
        let was = k.names.subs n above (was_sub n above s) in
        (was.0, was.1, on n (things.Transaction was.0) was.2, on above (things.Transaction was.1) was.3, was.4, was.5);
    ended = λ n committed s. let was = k.names.ended n committed (was_done n committed s) in (was.0, on n (things.Transaction was.0) was.1, was.2);
    one_parent = λ n above other s also. k.names.one_parent n above other (was_sub n above s) (was_sub n other also);
    resources = λ n r is. let was = k.names.resources n r (resource_was n r is) in (was.0, same r ∙ was.1, was.2);
    registered = λ n t s.
        let was = k.names.registered n t (was_registered n t s) in
        (was.0, was.1, on n (things.Resource was.0) was.2, on t (things.Transaction was.1) was.3);
    one_transaction = λ n t other s also. k.names.one_transaction n t other (was_registered n t s) (was_registered n other also);
    no_import = no_import_begun;
    objects = λ n r is. k.names.objects n r (resource_was n r is);
    shown = λ n state s. let was = k.names.shown n state (was_shown n state s) in (was.0, on n (things.Resource was.0) was.1);
  })

  -- it is allowed
  pub allowed_begun : AreAllowed (lines_of later)
  allowed_begun = subst AreAllowed (sym (newest_phase told line)) (can_make w told k name free, k.allowed)
