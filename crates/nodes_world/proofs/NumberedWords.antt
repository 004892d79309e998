-- The words of a family are numbered in order: no two that go out together have the same number, and none has one that went out before.
use Rattle.std.proofs.Common.{◌≡◌, ◌⊎◌, inl, inr, ℕ, ◌+◌, ◌<◌, ◌≤◌, List, [], ◌∷◌, length, Contains, Option, Some, None, refl, ap, subst, sym, ◌∙◌, arith}
use Rattle.std.specs.List.{AllByRecursion}
use Rattle.std.proofs.lemmas.List.Elements.{Contains-append_right}
use Rattle.ior_refs.specs.declared.key.ObjectKey.{ObjectKey}
use Rattle.ots_model.specs.declared.completion.CallNumber.{CallNumber}
use Rattle.ots_model.specs.declared.tree.Outward.{Outward}
use Rattle.coordinator.specs.Family.{Family, Call, call_at}
use Rattle.coordinator.specs.declared.call.Leg.{Leg}
use Rattle.coordinator.specs.declared.call.Leg.TheVariants.{Below, Own, Before, Deciding, After}
use Rattle.family_laws.specs.LawsOfTelling.{AreNumberedFrom}
use Rattle.nodes_world.specs.AgreementInside.{AreReady, Awaited, IsAwaited, IsNumberedBy, IsWithin, decides_out, notice_out, out_at}
use Rattle.nodes_world.proofs.RowsEnd.{first_or_later}
use Rattle.nodes_world.proofs.RulesAsk.{HasWord}

-- a family has given as many numbers as another one, and asks as that does
pub record IsNumberedAs (f g : Family) : Type 0 where
  pub serial : g.serial ≡ f.serial
  pub waits : decides_out (call_at g 0) ≡ decides_out (call_at f 0)
  pub asks : notice_out g.completion ≡ notice_out f.completion
  pub ready : AreReady f.serial f.calls → AreReady g.serial g.calls

pub numbered_as : (f g : Family) (o : Outward) → IsNumberedAs f g → IsNumberedBy f o → IsNumberedBy g o
numbered_as f g o alike was =
    let low = was.within in
    let same = alike.serial in
    record {
      within = omega (arith, low, same);
      out = λ notice waits asks. was.out notice (sym alike.waits ∙ waits) (sym alike.asks ∙ asks);
    }

serial_is : (key : ObjectKey) (serial : ℕ) (o : Outward) → o.number ≡ record { life = key.life; slot = key.slot; generation = key.generation; serial = serial + 1 }
    → o.number.serial ≡ serial + 1
serial_is key serial o is = ap (λ (n : CallNumber). n.serial) is

-- their numbers are above those that were given
pub numbered_above : (key : ObjectKey) (serial : ℕ) (some : List Outward) (o : Outward) → AreNumberedFrom key serial some → Contains some o → serial < o.number.serial
numbered_above key serial [] o numbered among = let l = among.1 in absurd (omega (arith, l))
numbered_above key serial (x ∷ some) o (one, others) among = elim (first_or_later x o some among) [
  | inl here ↦ let is = sym (ap (λ (y : Outward). y.number.serial) here) ∙ serial_is key serial x one in omega (arith, is)
  | inr behind ↦ let above = numbered_above key (serial + 1) some o others behind in omega (arith, above)
]

-- and no more than as many
pub numbered_within : (key : ObjectKey) (serial : ℕ) (some : List Outward) (o : Outward) → AreNumberedFrom key serial some → Contains some o
    → o.number.serial ≤ serial + length some
numbered_within key serial [] o numbered among = let l = among.1 in absurd (omega (arith, l))
numbered_within key serial (x ∷ some) o (one, others) among = elim (first_or_later x o some among) [
  | inl here ↦ let is = sym (ap (λ (y : Outward). y.number.serial) here) ∙ serial_is key serial x one in omega (arith, is)
  | inr behind ↦ let most = numbered_within key (serial + 1) some o others behind in omega (arith, most)
]

pub all_themselves : {A : Type 0} (xs : List A) → AllByRecursion (λ (x : A). Contains xs x) xs
all_themselves {A = A} xs = go xs xs (λ x c. c)
  where
    go : (some all : List A) → ((x : A) → Contains some x → Contains all x) → AllByRecursion (λ (x : A). Contains all x) some
    go [] all on = tt
    go (x ∷ some) all on = (on x (0, omega arith, refl), go some all (λ y c. on y (Contains-append_right (x ∷ []) some y c)))

-- no two of them have the same one
pub one_number : (key : ObjectKey) (serial : ℕ) (some : List Outward) (o p : Outward) → AreNumberedFrom key serial some → Contains some o → Contains some p
    → o.number.serial ≡ p.number.serial → o ≡ p
one_number key serial [] o p numbered among_o among_p same = let l = among_o.1 in absurd (omega (arith, l))
one_number key serial (x ∷ some) o p (one, others) among_o among_p same =
    elim (first_or_later x o some among_o) [
      | inl o_here ↦ elim (first_or_later x p some among_p) [
        | inl p_here ↦ sym o_here ∙ p_here
        | inr p_behind ↦
            let is = sym (ap (λ (y : Outward). y.number.serial) o_here) ∙ serial_is key serial x one in
            let above = numbered_above key (serial + 1) some p others p_behind in
            absurd (omega (arith, is, above, same))
      ]
      | inr o_behind ↦ elim (first_or_later x p some among_p) [
        | inl p_here ↦
            let is = sym (ap (λ (y : Outward). y.number.serial) p_here) ∙ serial_is key serial x one in
            let above = numbered_above key (serial + 1) some o others o_behind in
            absurd (omega (arith, is, above, same))
        | inr p_behind ↦ one_number key (serial + 1) some o p others o_behind p_behind same
      ]
    ]

within_at : (leg : Leg) (serial number : ℕ) (out : Option ℕ) → IsWithin serial out → out_at leg out ≡ Some number → number ≤ serial
within_at Deciding serial number (Some x) within is = let low : x ≤ serial = within in let same = inner is in omega (arith, low, same)
  where
    inner : {a b : ℕ} → Some a ≡ Some b → a ≡ b
    inner e = cc
within_at Deciding serial number None within is = absurd cc
within_at Below serial number out within is = absurd cc
within_at Own serial number out within is = absurd cc
within_at (Before so_many) serial number out within is = absurd cc
within_at (After so_many) serial number out within is = absurd cc

-- a call that is ready waits for a number that was given
pub ready_within : (f : Family) (number : ℕ) → AreReady f.serial f.calls → decides_out (call_at f 0) ≡ Some number → number ≤ f.serial
ready_within f number ready is = by (call_at f 0) refl is
  where
    by : (o : Option Call) → call_at f 0 ≡ o → decides_out o ≡ Some number → number ≤ f.serial
    by (Some c) at is = within_at c.leg f.serial number c.out (ready 0 c at).1 is
    by None at is = absurd cc

-- what a step of a family leaves: the calls are ready, and where one waits at the decision, it did so before or for one of these words
abbrev pub GoesOnAsking : Family → Family → List Outward → Type 0
GoesOnAsking f g some = (number : ℕ) (n : Awaited) → decides_out (call_at g 0) ≡ Some number → notice_out g.completion ≡ Some n
    → ((decides_out (call_at f 0) ≡ Some number) × (notice_out f.completion ≡ Some n)) ⊎ HasWord some number n

-- a word that went out before is numbered by the family that the step leaves
pub still_numbered : (f g : Family) (some : List Outward) (o : Outward) → GoesOnAsking f g some → AreNumberedFrom f.key f.serial some → f.serial ≤ g.serial
    → IsNumberedBy f o → IsNumberedBy g o
still_numbered f g some o asks numbered grows was =
    let low = was.within in
    record {
      within = omega (arith, low, grows);
      out = λ notice waits asking. elim (asks o.number.serial notice waits asking) [
        | inl (waited, asked) ↦ was.out notice waited asked
        | inr (p, among, same, is) ↦ let above = numbered_above f.key f.serial some p numbered among in absurd (omega (arith, low, above, same))
      ];
    }

-- and so is a word that goes out now
pub newly_numbered : (f g : Family) (some : List Outward) (o : Outward) → GoesOnAsking f g some → AreNumberedFrom f.key f.serial some
    → AreReady f.serial f.calls → AreReady g.serial g.calls → Contains some o → o.number.serial ≤ g.serial → IsNumberedBy g o
newly_numbered f g some o asks numbered ready ready_then among within = record {
  within = within;
  out = λ notice waits asking. elim (asks o.number.serial notice waits asking) [
    | inl (waited, asked) ↦
        let low = ready_within f o.number.serial ready waited in
        let above = numbered_above f.key f.serial some o numbered among in
        absurd (omega (arith, low, above))
    | inr (p, among_p, same, is) ↦ subst (IsAwaited notice) (one_number f.key f.serial some p o numbered among_p among same) is
  ];
}
