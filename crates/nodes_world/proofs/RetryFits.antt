-- The key of a commit that a decision record holds fits its place there: it is that of a client's call.
use Rattle.std.proofs.Common.{◌≡◌, ℕ, List, [], ◌∷◌, zero, suc, slice_get, Contains, Option, Some, None, refl, arith}
use Rattle.std.proofs.lemmas.List.Elements.{Contains-append_right}
use Rattle.std.specs.Option.{option_and_then}
use Rattle.ots_model.specs.declared.service.RetryKey.{RetryKey}
use Rattle.decision_journal.specs.Layout.{FitsKey}
use Rattle.coordinator.specs.Family.{Call, Family, call_at}
use Rattle.coordinator.specs.Hearing.{commit_key}
use Rattle.coordinator.specs.declared.said.Entry.{Entry}
use Rattle.nodes_world.specs.AgreementInside.{FamilyIsKnown}
use Rattle.ots_model.specs.declared.line.Line.{Line}
use Rattle.nodes_world.specs.World.{World}

has_at : {A : Type 0} (xs : List A) (i : ℕ) (x : A) → slice_get xs i ≡ Some x → Contains xs x
has_at [] i x is = absurd cc
has_at (y ∷ xs) zero x is = (0, omega arith, inner is)
  where
    inner : {A : Type 0} {x y : A} → Some x ≡ Some y → x ≡ y
    inner e = cc
has_at (y ∷ xs) (suc i) x is = Contains-append_right (y ∷ []) xs x (has_at xs i x is)

-- of a family that is known
pub commit_key_fits : (w : World) (h : List Line) (f : Family) → FamilyIsKnown w h f → FitsKey (commit_key f)
commit_key_fits w h f k = by_place (option_and_then (λ (c : Call). c.caller) (call_at f 0))
  where
    by_key : (e : Entry) → Contains f.entries e → (o : Option RetryKey) → e.event.key ≡ o → FitsKey o
    by_key e among (Some r) is =
        let at = k.came e r among is in
        let few = at.4 in
        let number = at.3 in
        let client = at.5 in
        (omega (arith, client), omega (arith, few, number))
    by_key e among None is = tt

    by_entry : (o : Option Entry) → ((e : Entry) → o ≡ Some e → Contains f.entries e) → FitsKey (option_and_then (λ (e : Entry). e.event.key) o)
    by_entry (Some e) among = by_key e (among e refl) e.event.key refl
    by_entry None among = tt

    by_place : (o : Option ℕ) → FitsKey (option_and_then (λ (e : Entry). e.event.key) (option_and_then (slice_get f.entries) o))
    by_place (Some i) = by_entry (slice_get f.entries i) (λ e at. has_at f.entries i e at)
    by_place None = tt
