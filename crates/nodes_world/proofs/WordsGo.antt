-- The words of a family that is there go out, one after another.
use Rattle.std.proofs.Common.{◌≡◌, ℕ, ◌+◌, ◌≤◌, is_some, IsTrue, List, [], ◌∷◌, ◌++◌, append_assoc, append-nil, Option, Some, None, refl, sym, ap, subst, ◌∙◌, arith}
use Rattle.std.specs.List.{AllByRecursion}
use Rattle.ior_refs.specs.declared.key.ObjectKey.{ObjectKey}
use Rattle.ots_model.specs.declared.completion.CallNumber.{CallNumber}
use Rattle.ots_model.specs.declared.tree.Outward.{Outward}
use Rattle.coordinator.specs.Family.{Family}
use Rattle.family_laws.specs.LawsOfSteps.{WordsRest}
use Rattle.family_laws.specs.LawsOfTelling.{AreNumberedFrom}
use Rattle.nodes_world.specs.Agreement.{HasSent}
use Rattle.nodes_world.specs.AgreementInside.{Known, IsNumberedBy}
use Rattle.nodes_world.specs.Happenings.{requests, requests_all}
use Rattle.nodes_world.specs.Objects.{place_of}
use Rattle.nodes_world.specs.Told.{Told}
use Rattle.nodes_world.specs.World.{World, NamedKey, family_at, node_at, referred}
use Rattle.nodes_world.proofs.KnownRequests.{MayGo, by_sent, requests_known}
use Rattle.nodes_world.proofs.CanGo.{IsNextWord, family_may_go}

-- it goes to one that has a name
abbrev pub IsNamed : World → Outward → Type 0
IsNamed w o = IsTrue (is_some (referred w o.to))

-- what a family has sent has these numbers at most
abbrev pub HaveNumbersUpTo : World → ObjectKey → ℕ → Type 0
HaveNumbersUpTo w key serial = (other : Outward) → HasSent w (place_of key) other → other.number.life ≡ key.life → other.number.slot ≡ key.slot
    → other.number.generation ≡ key.generation → other.number.serial ≤ serial

named_one : (o : Option NamedKey) → IsTrue (is_some o) → (x : NamedKey) × (o ≡ Some x)
named_one (Some x) is = (x, refl)
named_one None is = absurd cc

family_still : (place : ℕ) (o : Outward) (w : World) (key : ObjectKey) (f : Family) → family_at w key ≡ Some f → family_at (requests place o w).world key ≡ Some f
unfolding requests node_at
family_still place o w key f there = there

named_still : (place : ℕ) (o : Outward) (w : World) (some : List Outward) → AllByRecursion (IsNamed w) some → AllByRecursion (IsNamed (requests place o w).world) some
unfolding requests referred
named_still place o w [] all = tt
named_still place o w (q ∷ others) all = (all.0, named_still place o w others all.1)

next_word : (w : World) (f : Family) (o : Outward) (serial : ℕ)
    → o.number ≡ record { life = f.key.life; slot = f.key.slot; generation = f.key.generation; serial = serial + 1 }
    → IsNumberedBy f o → HaveNumbersUpTo w f.key serial → IsNextWord w f o
next_word w f o serial is numbered before =
    let life = ap (λ (n : CallNumber). n.life) is in
    let slot = ap (λ (n : CallNumber). n.slot) is in
    let generation = ap (λ (n : CallNumber). n.generation) is in
    let number = ap (λ (n : CallNumber). n.serial) is in
    record {
      life = life;
      slot = slot;
      generation = generation;
      numbered = numbered;
      newer = λ other sent same.
          let low = before other sent (ap (λ (n : CallNumber). n.life) same ∙ life) (ap (λ (n : CallNumber). n.slot) same ∙ slot)
          (ap (λ (n : CallNumber). n.generation) same ∙ generation) in
          let high = ap (λ (n : CallNumber). n.serial) same in
          omega (arith, low, high, number);
    }

numbers_still : (w : World) (told : List Told) (k : Known w told) (f : Family) (o : Outward) (m : MayGo w told (place_of f.key) o) (serial : ℕ)
    → o.number ≡ record { life = f.key.life; slot = f.key.slot; generation = f.key.generation; serial = serial + 1 }
    → HaveNumbersUpTo w f.key serial → HaveNumbersUpTo (requests (place_of f.key) o w).world f.key (serial + 1)
unfolding requests
numbers_still w told k f o m serial is before other sent life slot generation =
    by_sent w told k (place_of f.key) o m
    (λ (p : ℕ) (q : Outward). p ≡ place_of f.key → q.number.life ≡ f.key.life → q.number.slot ≡ f.key.slot → q.number.generation ≡ f.key.generation → q.number.serial ≤ serial + 1)
    (λ p q early at a b c. let low = before q (subst (λ (y : ℕ). HasSent w y q) at early) a b c in omega (arith, low))
    (λ at a b c. let number = ap (λ (n : CallNumber). n.serial) is in omega (arith, number)) (place_of f.key) other sent refl life slot generation

-- they go out, and what is known is known then
pub words_known : (some : List Outward) (w : World) (told : List Told) → Known w told → (key : ObjectKey) (f : Family) → family_at w key ≡ Some f
    → (serial : ℕ) → AllByRecursion (IsNamed w) some → WordsRest f some → AreNumberedFrom f.key serial some
    → AllByRecursion (IsNumberedBy f) some → HaveNumbersUpTo w f.key serial
    → Known (requests_all (place_of f.key) some w).world (told ++ (requests_all (place_of f.key) some w).lines)
words_known [] w told k key f there serial named rest numbered given before = subst (Known w) (sym (append-nil told)) k
words_known (o ∷ others) w told k key f there serial named rest numbered given before =
    let place = place_of f.key in
    let x = named_one (referred w o.to) named.0 in
    let m = family_may_go w told k key f there o x.0 x.1 rest.0 (next_word w f o serial numbered.0 given.0 before) in
    let first = requests_known w told k place o m in
    let after = words_known others (requests place o w).world (told ++ (requests place o w).lines) first key f (family_still place o w key f there) (serial + 1)
    (named_still place o w others named.1) rest.1 numbered.1 given.1 (numbers_still w told k f o m serial numbered.0 before) in
    subst (Known (requests_all place others (requests place o w).world).world)
    (append_assoc told (requests place o w).lines (requests_all place others (requests place o w).world).lines) after
