-- What is known of the family of a top-level transaction that is made.
use Rattle.std.proofs.Common.{◌≡◌, inl, inr, ℕ, zero, suc, ◌<◌, IsTrue, List, [], ◌∷◌, ◌++◌, filter_map, length, Contains, Option, Some, None, refl, sym, ap, subst, ◌∙◌, arith}
use Rattle.ior_refs.specs.declared.key.ObjectKey.{ObjectKey}
use Rattle.ots_model.specs.Safe.{Stands, IsRegistered}
use Rattle.ots_model.specs.declared.completion.Ground.TheVariants.{Record}
use Rattle.ots_model.specs.declared.completion.Outcome.TheVariants as outcomes
use Rattle.ots_model.specs.declared.line.Line.{Line}
use Rattle.ots_model.specs.declared.line.Line.TheVariants as lines
use Rattle.resource_votes.specs.Lists.{list_at}
use Rattle.resource_votes.specs.Ballots.{no_ballots, numbered, participants}
use Rattle.resource_votes.specs.declared.registration.Registration.{Registration}
use Rattle.txn_tree.specs.Rows.{parent}
use Rattle.coordinator.specs.declared.said.Entry.{Entry}
use Rattle.coordinator.specs.Family.{Family, new_family, Call, call_at}
use Rattle.coordinator.specs.Node.{is_of}
use Rattle.family_laws.specs.Sound.{IsSoundFamily}
use Rattle.nodes_world.specs.declared.thing.Thing.{Thing}
use Rattle.nodes_world.specs.declared.thing.Thing.TheVariants as things
use Rattle.nodes_world.specs.Objects.{place_of}
use Rattle.nodes_world.specs.Told as tell
use Rattle.nodes_world.specs.Told.{Told}
use Rattle.nodes_world.specs.World.{World, Seat, thing, with_name}
use Rattle.nodes_world.specs.Agreement.{IsTransaction, has_record, is_decision_of}
use Rattle.nodes_world.specs.AgreementInside.{Known, FamilyIsKnown, IsBranch}
use Rattle.nodes_world.proofs.KnownLines.{lines_of, not_free}
use Rattle.nodes_world.proofs.KnownFamilies.{is_own}
use Rattle.nodes_world.proofs.KnownFrames.{newest_phase}
use Rattle.nodes_world.proofs.KnownMakings.{thing_cases, thing_given}
use Rattle.nodes_world.proofs.ListedFew.{none_few}

-- none takes part where nothing is registered
none_numbered : (xs : List ℕ) → filter_map (numbered {A = Registration} []) xs ≡ []
none_numbered [] = refl
none_numbered (zero ∷ xs) = none_numbered xs
none_numbered (suc i ∷ xs) = none_numbered xs

none_of : (r : Registration) → Contains [] r → ⊥
none_of r (i, less, is) = omega (arith, less)

none_takes_part : (c : ℕ) (r : Registration) → Contains (participants c no_ballots) r → ⊥
none_takes_part c r among = none_of r (subst (λ (x : List Registration). Contains x r) (none_numbered (list_at no_ballots.lists c)) among)

-- the key is that of no branch which has a name, and no record decides for it
module _ (w : World) (name node : List ℕ) (key : ObjectKey) (deadline : Option ℕ) (seats : List Seat) (told : List Told) (free : thing w name ≡ None)
    (k : Known w told) (top : key.index ≡ 0)
    (fresh : (other : List ℕ) (branch : ObjectKey) → IsTransaction w other branch → IsTrue (is_of branch (new_family key deadline)) → ⊥)
    (undecided : Stands (lines.Decide name (outcomes.Commit Record)) (lines_of told) → ⊥) where
  abbrev own : Thing
  own = things.Transaction key

  abbrev f : Family
  f = new_family key deadline

  abbrev v : World
  v = with_name name own (record w { seats = seats })

  abbrev line : Line
  line = lines.Top name node

  abbrev h : List Line
  h = lines_of told

  given : thing v name ≡ Some own
  given = thing_given w.names name own free

  -- its top-level transaction alone has a name
  one_branch : (t : List ℕ) (b : ℕ) → IsBranch v f t b → (t ≡ name) × (b ≡ 0)
  one_branch t b (branch, named, of, is) = elim (thing_cases w.names name own t (things.Transaction branch) named) [
    | inl was ↦ absurd (fresh t branch was of)
    | inr new ↦ (new.0, sym is ∙ ap (λ (x : ObjectKey). x.index) (sym (own_key new.1)) ∙ top)
  ]
    where
      own_key : own ≡ things.Transaction branch → key ≡ branch
      own_key e = cc

  -- what has the name had none before
  unnamed : (t : List ℕ) (x : Thing) → t ≡ name → thing w t ≡ Some x → ⊥
  unnamed t x is named = not_free (thing w name) x (subst (λ (n : List ℕ). thing w n ≡ Some x) is named) free

  no_sub : (t above : List ℕ) → t ≡ name → Stands (lines.Sub t above) (line ∷ h) → ⊥
  no_sub t above is (inl e) = cc
  no_sub t above is (inr s) = let at = k.names.subs t above s in unnamed t (things.Transaction at.0) is at.2

  no_registration : (g t : List ℕ) → t ≡ name → IsRegistered g t (line ∷ h) → ⊥
  no_registration g t is (end, inl e) = cc
  no_registration g t is (end, inr s) = let at = k.names.registered g t (end, s) in unnamed t (things.Transaction at.1) is at.3

  no_decision : Stands (lines.Decide name (outcomes.Commit Record)) (line ∷ h) → ⊥
  no_decision (inl e) = cc
  no_decision (inr s) = undecided s

  branches_begun : (b : ℕ) → b < length f.rows → (t : List ℕ) × IsBranch v f t b
  branches_begun zero less = (name, (key, given, is_own f, top))
  branches_begun (suc b) less = absurd (omega (arith, less))

  no_parent : (b p : ℕ) → b ≡ 0 → parent f.rows b ≡ Some p → ⊥
  no_parent zero p is e = cc
  no_parent (suc b) p is e = omega (arith, is)

  no_call : (b : ℕ) (c : Call) → call_at f b ≡ Some c → ⊥
  no_call zero c is = cc
  no_call (suc b) c is = cc

  no_entry : (e : Entry) → Contains [] e → ⊥
  no_entry e among = let l = among.1 in omega (arith, l)

  pub family_begun : IsSoundFamily f → (IsTrue (has_record v (place_of key) (is_decision_of key)) → ⊥)
      → FamilyIsKnown v (lines_of (told ++ tell.Known line ∷ [])) f
  family_begun sound unrecorded = subst (λ (x : List Line). FamilyIsKnown v x f) (sym (newest_phase told line)) (record {
    sound = sound;
    name = name;
    of_name = given;
    top = top;
    branches = branches_begun;
    no_further = λ t b branch. let is = (one_branch t b branch).1 in omega (arith, is);
    parents = λ t above b p branch higher. let one = one_branch t b branch in
        (λ s. absurd (no_sub t above one.0 s), λ e. absurd (no_parent b p one.1 e));
    ends = λ t b committed branch below. let is = (one_branch t b branch).1 in absurd (omega (arith, is, below));
    registrations = λ g t b branch. (
      λ s. absurd (no_registration g t (one_branch t b branch).0 s),
      λ listed. absurd (none_takes_part listed.0 listed.1 listed.3),
    );
    own = λ r object t among refers registered. absurd (none_of r among);
    numbered = λ i r is. absurd cc;
    unsynchronized = refl;
    named = λ r among. absurd (none_of r among);
    apart = λ r other among. absurd (none_of r among);
    within = λ r among. absurd (none_of r among);
    came = λ e r among is. absurd (no_entry e among);
    dues = λ b c is. absurd (no_call b c is);
    legs = λ b c is. absurd (no_call b c is);
    ready = λ b c is. absurd (no_call b c is);
    few = none_few;
    settled = refl;
    votes = λ g vote r object among is refers. absurd (none_of r among);
    outcome = no_decision;
    recorded = (λ has. absurd (unrecorded has), λ e. absurd cc);
  })
